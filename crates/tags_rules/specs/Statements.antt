-- What is proved of the comments of a comment header, in addition to the contracts. Assumes nothing.
use Rattle.std.specs.Prelude.{◌≡◌, false, List}
use Rattle.octets.specs.Octets.{Bytes}
use Rattle.tags_rules.specs.Right.{right_comments}
use Rattle.tags_rules.specs.Code.{right_from}

-- to judge one comment after the other, no gain seen before the first, is to ask whether each of them is right and neither
-- gain is there twice (Counting)
abbrev pub JudgingTells : Type 0
JudgingTells = (cs : List Bytes) → right_from false false cs ≡ right_comments cs
