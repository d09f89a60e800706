-- The ways of reading a header, by its tests. Assumes nothing.
use Rattle.std.specs.Prelude.{Ok}
use mathlib.Core.Path.{◌≡◌}
use mathlib.Core.Bool.{true, false}
use Rattle.octets.specs.Octets.{Bytes}
use Rattle.refusal.specs.declared.Refusal.{Refusal}
use Rattle.refusal.specs.declared.Refusal.TheVariants.{BadHead, BadMapping}
use Rattle.refusal.specs.Checks.{first_of}
use Rattle.refusal.specs.Numbers.{number_of}
use Rattle.refusal.specs.Told.{gives, refuses}
use Rattle.head_fields.specs.declared.Head.{Head}
use Rattle.head_reader.specs.declared.HeadRead.{HeadRead}
use Rattle.head_reader.specs.Fields.{head_of}
use Rattle.head_fields.specs.Right.{right_mapping}
use Rattle.head_reader.specs.Reading.{is_head, read_head, WasRefused, HeadIs}

module _ (b : Bytes) where
  pub no_head_lem : is_head b ≡ false → read_head b ≡ refuses (number_of BadHead)
  unfolding read_head first_of
  no_head_lem e = rw e

  pub wrong-mapping : is_head b ≡ true → right_mapping (head_of b) ≡ false → read_head b ≡ refuses (number_of BadMapping)
  unfolding read_head first_of
  wrong-mapping e m = rw (e, m)

  pub right_header : is_head b ≡ true → right_mapping (head_of b) ≡ true → read_head b ≡ gives (head_of b)
  unfolding read_head first_of
  right_header e m = rw (e, m)

  -- the record of a refusal, and that of a reading
  pub refused-is : (r : HeadRead) (why : Refusal) → WasRefused why r → read_head b ≡ refuses (number_of why) → HeadIs b r
  refused-is r why p e = record { told = rw (p.verdict, e); head = rw e p.head }

  pub read_is : (h : Head) → read_head b ≡ gives h → HeadIs b (record { verdict = Ok tt; head = h })
  read_is h e = record { told = rw e; head = rw e }
