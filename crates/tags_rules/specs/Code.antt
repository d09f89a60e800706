-- Comments judged one after the other, in the code's words: with the gains that were seen so far. Assumes nothing.
use Rattle.std.specs.Prelude.{Option, Some, None, Bool, true, false, not, ◌&&◌, ◌||◌, List, [], ◌∷◌}
use Rattle.octets.specs.Pick.{pick}
use Rattle.octets.specs.Octets.{Bytes}
use Rattle.tags_comment.specs.Names.{right_comment, is_named}
use Rattle.tags_rules.specs.declared.Gains.{Gains}
use Rattle.tags_rules.specs.Right.{track_gain, album_gain}

-- a comment judged
pub data Judgement : Type 0 where
  -- it is wrong
  wrong : Judgement
  -- it is right, and up to it the track's gain and the album's were seen or not
  seen : Bool → Bool → Judgement

-- what the code's answer tells
abbrev pub told_gains : Option Gains → Judgement
told_gains None = wrong
told_gains (Some g) = seen g.track g.album

-- the comment c is right, and no gain that was seen before
abbrev pub goes_on : Bytes → Bool → Bool → Bool
goes_on c track album =
    right_comment c && (not (track && is_named track_gain c) && not (album && is_named album_gain c))

unfoldable pub judged : Bytes → Bool → Bool → Judgement
judged c track album = pick (goes_on c track album) (seen (track || is_named track_gain c) (album || is_named album_gain c)) wrong

-- a right comment, and what is told of the later ones
abbrev pub and_later : (Bool → Bool → Bool) → Judgement → Bool
and_later later wrong = false
and_later later (seen track album) = later track album

-- each comment is judged right, one after the other, where these gains were seen before the first
unfoldable pub right_from : Bool → Bool → List Bytes → Bool
right_from track album [] = true
right_from track album (c ∷ cs) = and_later (λ t a. right_from t a cs) (judged c track album)
