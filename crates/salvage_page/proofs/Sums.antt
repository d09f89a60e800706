-- Sums of lacing values: those of the leading piece, those up to the last that ends a packet, and those of the trailing piece.
-- Assumes nothing.
use Rattle.std.proofs.Common.{◌≡◌, ℕ, zero, suc, ◌+◌, ◌-◌, ◌≤◌, [], ◌∷◌, length, take, drop, sym, ap, ◌∙◌, arith, length-drop, length-take, length-take-le, take_all}
use Rattle.octets.specs.Octets.{Bytes, total}
use Rattle.page_lacing.specs.Lacing.{unfinished}
use Rattle.stream.specs.Packets.{after_first}
use Rattle.salvage_rules.specs.Tidy.{up_to_last, first_bytes}
use Rattle.salvage_rules.proofs.Pieces.{last-total, last-bytes}
use Rattle.salvage_page.specs.Tidied.{LeadValues, KeptValues}

total-split : (n : ℕ) (l : Bytes) → total l ≡ total (take n l) + total (drop n l)
unfolding total
total-split zero l = omega arith
total-split (suc n) [] = omega arith
total-split (suc n) (v ∷ l) = let later = total-split n l in omega arith

-- ---- parts of a list

pub front_length : (n : ℕ) (l : Bytes) → n ≤ length l → n ≡ length (take n l)
front_length n l h = sym (length-take-le n l h)

pub rest-whole : (n : ℕ) (l : Bytes) → take (length l - n) (drop n l) ≡ drop n l
rest-whole n l = take_all (length l - n) (drop n l) (simp length-drop (omega arith))

-- ---- the sums of the parts

module _ (l : Bytes) (n : ℕ) (few : length l ≤ 255) where
  front_few : length (take n l) ≤ 255
  front_few = simp length-take (omega arith)

  back-few : length (take (length l - n) (drop n l)) ≤ 255
  back-few = simp (length-take, length-drop) (omega arith)

  pub lead-sum : LeadValues l n → total (take 255 (take n l)) ≡ first_bytes l
  lead-sum v =
      let split = total-split n l in
      let rest : total (drop n l) ≡ total (after_first l) = ap total v.values in
      ap total (take_all 255 (take n l) front_few) ∙ omega arith

  pub kept-sum : KeptValues l n → total (take 255 (take n l)) ≡ total (up_to_last l)
  kept-sum v = ap total (take_all 255 (take n l) front_few) ∙ ap total v.values

  pub trail-sum : KeptValues l n → total (take 255 (take (length l - n) (drop n l))) ≡ unfinished l
  trail-sum v =
      let split = total-split n l in
      let front : total (take n l) ≡ total (up_to_last l) = ap total v.values in
      ap total (take_all 255 (take (length l - n) (drop n l)) back-few ∙ rest-whole n l) ∙ omega (arith, last-total l, last-bytes l)
