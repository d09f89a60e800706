-- When the fields of an identification header are right (RFC 7845, 5.1 and 5.1.1; RFC 8486, 3; RULES.md, refusals 12, 13 and
-- 23). The reader, the writer and opening part way share this, but for the versions that they take. Assumes nothing.
use Rattle.std.specs.Prelude.{ℕ, ◌+◌, ◌-◌, Bool, true, ◌&&◌, ◌||◌, [], ◌∷◌, ltb, leb, eqb, take, drop}
use Rattle.octets.specs.Pick.{pick}
use Rattle.octets.specs.Octets.{Bytes, begins}
use Rattle.head_fields.specs.declared.Head.{Head}
use Rattle.head_families.specs.Families.{allowed_channels, has_counts}
use Rattle.head_fields.specs.Layout.{fits_packet, head_size, used_count}

-- the mapping of family 0: one channel, or two of one coupled stream
abbrev pub plain_indices : Bytes
plain_indices = 0 ∷ 1 ∷ []

-- which versions are read: those whose upper four bits are zero
abbrev pub readable_version : ℕ → Bool
readable_version v = ltb v 16

-- the version that is written
abbrev pub written_version : ℕ
written_version = 1

abbrev pub writable_version : ℕ → Bool
writable_version v = eqb v written_version

-- from which version on bytes may follow the fields
abbrev pub may_extend : ℕ → Bool
may_extend v = leb 2 v

-- a header of n bytes has the length of its fields, or more where bytes may follow them
unfoldable pub right_length : ℕ → ℕ → ℕ → Bool
right_length version fields n = pick (may_extend version) (leb fields n) (eqb n fields)

-- which places of the mapping are used: one for each index
abbrev pub used_places : Head → Bytes
used_places h = take (used_count h) h.mapping

abbrev pub unused_places : Head → Bytes
unused_places h = drop (used_count h) h.mapping

-- a stream's channel, or 255 for silence
abbrev pub right_index : ℕ → ℕ → Bool
right_index n i = ltb i n || eqb i 255

unfoldable pub right_indices : ℕ → Bytes → Bool
right_indices n [] = true
right_indices n (i ∷ s) = right_index n i && right_indices n s

unfoldable pub all_zero : Bytes → Bool
all_zero [] = true
all_zero (i ∷ s) = eqb i 0 && all_zero s

unfoldable pub right_streams : Head → Bool
right_streams h = leb 1 h.streams && (leb h.coupled h.streams && leb (h.coupled + h.streams) 255)

-- family 0 has no counts, so it has one stream, and two channels are coupled
unfoldable pub right_plain : Head → Bool
right_plain h =
    pick (has_counts h.family) true
    (eqb h.streams 1 && (eqb h.coupled (h.channels - 1) && begins (take h.channels plain_indices) h.mapping))

-- the channel mapping is right (13)
unfoldable pub right_mapping : Head → Bool
right_mapping h =
    allowed_channels h.family h.channels
    && (right_streams h && right_indices (h.coupled + h.streams) (used_places h))

-- all but the version is right
unfoldable pub right_fields : Head → Bool
right_fields h = right_mapping h && (right_plain h && (all_zero (unused_places h) && fits_packet (head_size h)))

-- fields that a reading could have given (23 of opening part way)
unfoldable pub right_head : Head → Bool
right_head h = readable_version h.version && right_fields h

-- fields that the writer takes (23 of writing)
unfoldable pub writable_head : Head → Bool
writable_head h = writable_version h.version && right_fields h
