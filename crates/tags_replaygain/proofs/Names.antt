-- The names of REPLAYGAIN tags, one after the other. Assumes nothing.
use mathlib.Core.Path.{◌≡◌}
use mathlib.Core.Bool.{true, false}
use Rattle.octets.specs.Octets.{Bytes}
use Rattle.tags_comment.specs.Names.{is_named}
use Rattle.tags_replaygain.specs.ReplayGain.{track_gain, track_peak, album_gain, album_peak, is_replay_gain}

module _ (c : Bytes) where
  pub is-track_gain : is_named track_gain c ≡ true → is_replay_gain c ≡ true
  unfolding is_replay_gain
  is-track_gain e = rw e

  module _ (one : is_named track_gain c ≡ false) where
    pub is-track_peak : is_named track_peak c ≡ true → is_replay_gain c ≡ true
    unfolding is_replay_gain
    is-track_peak e = rw (one, e)

    module _ (two : is_named track_peak c ≡ false) where
      pub is-album_gain : is_named album_gain c ≡ true → is_replay_gain c ≡ true
      unfolding is_replay_gain
      is-album_gain e = rw (one, two, e)

      pub last_decides : is_named album_gain c ≡ false → is_replay_gain c ≡ is_named album_peak c
      unfolding is_replay_gain
      last_decides e = rw (one, two, e)
