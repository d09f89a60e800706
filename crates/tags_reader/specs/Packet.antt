-- The bytes of a comment header, put together of its parts (RFC 7845, 5.2; RULES.md, 5). Assumes nothing.
use Rattle.std.specs.Prelude.{List, [], ◌∷◌, ◌++◌, length}
use Rattle.octets.specs.Octets.{Bytes}
use Rattle.octets.specs.Numbers.{octets}
use Rattle.tags_layout.specs.Layout.{signature, Tags}

-- the bytes of a text after its length
unfoldable pub text_bytes : Bytes → Bytes
text_bytes t = octets 4 (length t) ++ t

unfoldable pub comments_bytes : List Bytes → Bytes
comments_bytes [] = []
comments_bytes (c ∷ cs) = text_bytes c ++ comments_bytes cs

-- the bytes of a packet
unfoldable pub tags_bytes : Tags → Bytes
tags_bytes t =
    signature ++ text_bytes t.vendor ++ octets 4 (length t.comments) ++ comments_bytes t.comments ++ t.trailing
