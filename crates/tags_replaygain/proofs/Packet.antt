-- The packet's own comments, by what reading it told. Assumes nothing.
use mathlib.Core.Path.{◌≡◌, refl, ◌∙◌}
use mathlib.Core.Bool.{Bool, true, false}
use Prim.Native.Nat.{ℕ}
use native.Mathlib.Omega.{arith}
use Rattle.octets.specs.Octets.{Bytes}
use Rattle.refusal.specs.Told.{Told, gives, refuses, retold}
use Rattle.refusal.specs.Checks.{first_of}
use Rattle.tags_layout.specs.Layout.{Tags, all_fit, texts_from, count_of, first_place, tags_of}
use Rattle.tags_reader.specs.Right.{is_tags}
use Rattle.tags_reader.specs.Reading.{read_tags, comment_count}
use Rattle.tags_reader.proofs.Places.{Read, was_read, count_right}
use Rattle.tags_replaygain.specs.ReplayGain.{any_replay_gain, has_replay_gain}

-- n comments, as they lie in a right packet
pub record Counted (b : Bytes) (n : ℕ) : Type 0 where
  pub right : is_tags b ≡ true
  pub count : n ≡ count_of b
  pub comments : all_fit b (count_of b) (first_place b) ≡ true

pub counted : (b : Bytes) (n : ℕ) → gives n ≡ retold comment_count (read_tags b) → Counted b n
counted b n e = by (read_tags b) refl e
  where
    by : (t : Told Tags) → read_tags b ≡ t → gives n ≡ retold comment_count t → Counted b n
    by (gives t) q e =
        let r : Read b t = was_read b t q in
        let same : n ≡ comment_count t = cc in
        record { right = r.right; count = same ∙ count_right b t r; comments = r.comments }
    by (refuses k) q e = let no : ◌≡◌ {A = ℕ} 0 1 = cc in absurd (omega arith)

module _ (b : Bytes) (n : ℕ) where
  pub all-fit : Counted b n → all_fit b n (first_place b) ≡ true
  all-fit k = rw k.count k.comments

  pub any_decides : Counted b n → any_replay_gain (texts_from b n (first_place b)) ≡ has_replay_gain b
  unfolding has_replay_gain tags_of
  any_decides k = rw (k.right, k.count)

pub no_tags : (b : Bytes) (k : ℕ) → refuses k ≡ retold comment_count (read_tags b) → false ≡ has_replay_gain b
unfolding has_replay_gain read_tags first_of
no_tags b k e = by (is_tags b) refl
  where
    by : (t : Bool) → is_tags b ≡ t → false ≡ has_replay_gain b
    by false q = rw q
    by true q = let z = rw q at e in let no : ◌≡◌ {A = ℕ} 0 1 = cc in absurd (omega arith)
