-- What the lines of both headers begin with, but for gain, mapping and comment (RULES.md, 13). Assumes nothing.
use Rattle.std.specs.Prelude.{[], ◌∷◌}
use Rattle.octets.specs.Octets.{Bytes}

-- "version "
abbrev pub version_is : Bytes
version_is = 118 ∷ 101 ∷ 114 ∷ 115 ∷ 105 ∷ 111 ∷ 110 ∷ 32 ∷ []

-- "channels "
abbrev pub channels_is : Bytes
channels_is = 99 ∷ 104 ∷ 97 ∷ 110 ∷ 110 ∷ 101 ∷ 108 ∷ 115 ∷ 32 ∷ []

-- "preskip "
abbrev pub preskip_is : Bytes
preskip_is = 112 ∷ 114 ∷ 101 ∷ 115 ∷ 107 ∷ 105 ∷ 112 ∷ 32 ∷ []

-- "rate "
abbrev pub rate_is : Bytes
rate_is = 114 ∷ 97 ∷ 116 ∷ 101 ∷ 32 ∷ []

-- "family "
abbrev pub family_is : Bytes
family_is = 102 ∷ 97 ∷ 109 ∷ 105 ∷ 108 ∷ 121 ∷ 32 ∷ []

-- "streams "
abbrev pub streams_is : Bytes
streams_is = 115 ∷ 116 ∷ 114 ∷ 101 ∷ 97 ∷ 109 ∷ 115 ∷ 32 ∷ []

-- "coupled "
abbrev pub coupled_is : Bytes
coupled_is = 99 ∷ 111 ∷ 117 ∷ 112 ∷ 108 ∷ 101 ∷ 100 ∷ 32 ∷ []

-- "matrix"
abbrev pub matrix_is : Bytes
matrix_is = 109 ∷ 97 ∷ 116 ∷ 114 ∷ 105 ∷ 120 ∷ []

-- "vendor "
abbrev pub vendor_is : Bytes
vendor_is = 118 ∷ 101 ∷ 110 ∷ 100 ∷ 111 ∷ 114 ∷ 32 ∷ []

-- "comments "
abbrev pub comments_is : Bytes
comments_is = 99 ∷ 111 ∷ 109 ∷ 109 ∷ 101 ∷ 110 ∷ 116 ∷ 115 ∷ 32 ∷ []
