-- What is proved of written identification headers, in addition to the contracts. Assumes nothing.
use Rattle.std.specs.Prelude.{◌≤◌, ◌≡◌, length, take}
use Rattle.octets.specs.Octets.{Bytes, Octets, copied}
use Rattle.refusal.specs.Told.{gives}
use Rattle.head_fields.specs.declared.Head.{Head}
use Rattle.head_fields.specs.Layout.{head_size}
use Rattle.head_fields.specs.Right.{written_version}
use Rattle.head_fields.specs.Widths.{WideFields}
use Rattle.head_reader.specs.Fields.{matrix_of}
use Rattle.head_reader.specs.Reading.{read_head, read_matrix}
use Rattle.head_writer.specs.Writing.{write_told, write_out}

-- the bytes b read as the fields h and the matrix m
pub record ReadsAs (b : Bytes) (h : Head) (m : Bytes) : Type 0 where
  pub fields : read_head b ≡ gives h
  pub matrix : read_matrix b ≡ gives m

-- reading what was written gives the same record and the same matrix, for all that the writer takes
abbrev pub ReadsBack : Type 0
ReadsBack =
    (h : Head) (m out : Bytes) → WideFields h → length h.mapping ≡ 255 → write_told h m out ≡ gives (head_size h)
    → ReadsAs (take (head_size h) (write_out h m out)) h m

-- the bytes b, written of the fields h and the matrix m to the start of `out`
pub record WroteBytes (b out : Bytes) (h : Head) (m : Bytes) : Type 0 where
  pub told : write_told h m out ≡ gives (length b)
  pub output : write_out h m out ≡ copied out 0 b

-- writing what was read gives the same bytes, for version 1
abbrev pub WritesBack : Type 0
WritesBack =
    (b out : Bytes) (h : Head) → Octets b → read_head b ≡ gives h → h.version ≡ 1 → length b ≤ length out
    → WroteBytes b out h (matrix_of b)

-- the fields, their version set to the one that is written
abbrev pub as_written : Head → Head
as_written h = record {
  version = written_version;
  channels = h.channels;
  preskip = h.preskip;
  rate = h.rate;
  gain = h.gain;
  family = h.family;
  streams = h.streams;
  coupled = h.coupled;
  mapping = h.mapping;
}

-- the fields h and the matrix m, written to the start of `out`, read back
pub record ReadBack (h : Head) (m out : Bytes) : Type 0 where
  pub told : write_told h m out ≡ gives (head_size h)
  pub same : ReadsAs (take (head_size h) (write_out h m out)) h m

-- whatever the version of a header that was read, its fields with the version that is written and its matrix are written and
-- read back
abbrev pub WritesAnyVersion : Type 0
WritesAnyVersion =
    (b out : Bytes) (h : Head) → Octets b → read_head b ≡ gives h → head_size h ≤ length out
    → ReadBack (as_written h) (matrix_of b) out
