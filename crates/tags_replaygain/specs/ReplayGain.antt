-- Whether a comment header has a REPLAYGAIN tag, in place of which RFC 7845, 5.2.1, has gains of its own (RULES.md, 18). Assumes
-- nothing.
use Rattle.std.specs.Prelude.{Bool, false, ◌&&◌, ◌||◌, List, [], ◌∷◌}
use Rattle.octets.specs.Octets.{Bytes}
use Rattle.tags_comment.specs.Names.{is_named}
use Rattle.tags_layout.specs.Layout.{tags_of}
use Rattle.tags_reader.specs.Right.{is_tags}

-- "REPLAYGAIN_TRACK_GAIN"
abbrev pub track_gain : Bytes
track_gain =
    0x52 ∷ 0x45 ∷ 0x50 ∷ 0x4c ∷ 0x41 ∷ 0x59 ∷ 0x47 ∷ 0x41 ∷ 0x49 ∷ 0x4e ∷ 0x5f
    ∷ 0x54 ∷ 0x52 ∷ 0x41 ∷ 0x43 ∷ 0x4b ∷ 0x5f ∷ 0x47 ∷ 0x41 ∷ 0x49 ∷ 0x4e ∷ []

-- "REPLAYGAIN_TRACK_PEAK"
abbrev pub track_peak : Bytes
track_peak =
    0x52 ∷ 0x45 ∷ 0x50 ∷ 0x4c ∷ 0x41 ∷ 0x59 ∷ 0x47 ∷ 0x41 ∷ 0x49 ∷ 0x4e ∷ 0x5f
    ∷ 0x54 ∷ 0x52 ∷ 0x41 ∷ 0x43 ∷ 0x4b ∷ 0x5f ∷ 0x50 ∷ 0x45 ∷ 0x41 ∷ 0x4b ∷ []

-- "REPLAYGAIN_ALBUM_GAIN"
abbrev pub album_gain : Bytes
album_gain =
    0x52 ∷ 0x45 ∷ 0x50 ∷ 0x4c ∷ 0x41 ∷ 0x59 ∷ 0x47 ∷ 0x41 ∷ 0x49 ∷ 0x4e ∷ 0x5f
    ∷ 0x41 ∷ 0x4c ∷ 0x42 ∷ 0x55 ∷ 0x4d ∷ 0x5f ∷ 0x47 ∷ 0x41 ∷ 0x49 ∷ 0x4e ∷ []

-- "REPLAYGAIN_ALBUM_PEAK"
abbrev pub album_peak : Bytes
album_peak =
    0x52 ∷ 0x45 ∷ 0x50 ∷ 0x4c ∷ 0x41 ∷ 0x59 ∷ 0x47 ∷ 0x41 ∷ 0x49 ∷ 0x4e ∷ 0x5f
    ∷ 0x41 ∷ 0x4c ∷ 0x42 ∷ 0x55 ∷ 0x4d ∷ 0x5f ∷ 0x50 ∷ 0x45 ∷ 0x41 ∷ 0x4b ∷ []

-- the comment has one of these names, without regard to ASCII case, and a "=" after it
unfoldable pub is_replay_gain : Bytes → Bool
is_replay_gain c = is_named track_gain c || (is_named track_peak c || (is_named album_gain c || is_named album_peak c))

unfoldable pub any_replay_gain : List Bytes → Bool
any_replay_gain [] = false
any_replay_gain (c ∷ cs) = is_replay_gain c || any_replay_gain cs

-- the packet is a right comment header, and has such a comment
unfoldable pub has_replay_gain : Bytes → Bool
has_replay_gain b = is_tags b && any_replay_gain (tags_of b).comments
