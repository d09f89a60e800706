-- Cropping for C, by what the library promises. Assumes nothing.
use Rattle.std.specs.Prelude.{Result, Ok, Err}
use Prim.Native.Nat.{ℕ}
use mathlib.Core.Path.{◌≡◌, refl, sym, ap, ◌∙◌}
use mathlib.Core.List.{List, [], ◌∷◌}
use lib.ListN.{length}
use Rattle.octets.specs.Octets.{Bytes}
use Rattle.refusal.specs.declared.Refusal.{Refusal}
use Rattle.refusal.specs.Numbers.{number_of}
use Rattle.refusal.specs.Told.{Told, gives, refuses, number_in, retold, told}
use Rattle.page_crc.specs.Crc.{page_crc}
use Rattle.stream.specs.Readings.{readings}
use Rattle.crop_rules.specs.Cropping.{cropped, Crops}
use Rattle.crop_start.specs.declared.CropStart.{CropStart}
use Rattle.crop_start.specs.Start.{Start}
use Rattle.crop_start.specs.Code.{told_start}
use Rattle.embulgri.specs.Answers.{stored}
use Rattle.embulgri.specs.Cropping.{CroppedIn, start_after, StartIn}

-- ---- the crop

same_number : (t : Told Bytes) → number_in (retold length t) ≡ number_in t
same_number (gives c) = refl
same_number (refuses n) = refl

module _ (b : Bytes) (k : ℕ) (r : Result ℕ Refusal) (out end : Bytes) (old : ℕ) (is : Crops (readings page_crc) b k (told r) out end) where
  abbrev the_crop : Told Bytes
  the_crop = cropped (readings page_crc) b k (length out)

  pub crop-written : (n : ℕ) → r ≡ Ok n → CroppedIn b k 0 out end old n
  crop-written n e =
      let t : gives n ≡ retold length the_crop = ap told (sym e) ∙ is.told in
      record { refusal = ap number_in t ∙ same_number the_crop; output = is.output; written = ap (λ (x : Told ℕ). stored x old) t }

  pub crop-refused : (why : Refusal) (number : ℕ) → r ≡ Err why → number ≡ number_of why → CroppedIn b k number out end old old
  crop-refused why number e n =
      let t : refuses (number_of why) ≡ retold length the_crop = ap told (sym e) ∙ is.told in
      record { refusal = n ∙ ap number_in t ∙ same_number the_crop; output = is.output; written = ap (λ (x : Told ℕ). stored x old) t }

-- ---- where a crop begins

module _ (t : Told Start) (r : Result CropStart Refusal) (old : List ℕ) (is : told_start r ≡ t) where
  pub start-found : (k p : ℕ) → r ≡ (Ok (record { page = k; position = p })) → StartIn t 0 old (k ∷ p ∷ [])
  start-found k p e =
      let s : gives (record { page = k; position = p }) ≡ t = ap told_start (sym e) ∙ is in
      record { refusal = ap number_in s; start = ap (λ (x : Told Start). start_after x old) s }

  pub start-refused : (why : Refusal) (number : ℕ) → r ≡ Err why → number ≡ number_of why → StartIn t number old old
  start-refused why number e n =
      let s : refuses (number_of why) ≡ t = ap told_start (sym e) ∙ is in
      record { refusal = n ∙ ap number_in s; start = ap (λ (x : Told Start). start_after x old) s }
