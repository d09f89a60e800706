-- Laws of judging one comment. Assumes nothing.
use mathlib.Core.Path.{◌≡◌}
use mathlib.Core.Bool.{Bool, true, false, ◌&&◌, ◌||◌}
use Rattle.octets.specs.Octets.{Bytes}
use Rattle.tags_comment.specs.Names.{right_comment, is_named}
use Rattle.tags_rules.specs.Right.{track_gain, album_gain}
use Rattle.tags_rules.specs.Code.{wrong, seen, judged}

module _ (c : Bytes) (t a : Bool) where
  pub wrong-comment : right_comment c ≡ false → judged c t a ≡ wrong
  unfolding judged
  wrong-comment e = rw e

  -- a right one, named as x and y say
  module _ (x y : Bool) (right : right_comment c ≡ true) (track : x ≡ is_named track_gain c) (album : y ≡ is_named album_gain c) where
    pub second_track : t && x ≡ true → judged c t a ≡ wrong
    unfolding judged
    second_track e = rw (right, rw track at e)

    pub second_album : t && x ≡ false → a && y ≡ true → judged c t a ≡ wrong
    unfolding judged
    second_album e f = rw (right, rw track at e, rw album at f)

    pub next-comment : t && x ≡ false → a && y ≡ false → judged c t a ≡ seen (t || x) (a || y)
    unfolding judged
    next-comment e f = rw (track, album, right, rw track at e, rw album at f)
