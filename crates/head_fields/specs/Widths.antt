-- The widths of the fields of an identification header (RFC 7845, 5.1; RULES.md, 4). The fields of any record in the code are
-- in them. Assumes nothing.
use Rattle.std.specs.Prelude.{◌<◌}
use Rattle.std.specs.Int.{w16}
use Rattle.std.proofs.Common.{SFits}
use Rattle.head_fields.specs.declared.Head.{Head}

-- the fields of more than one byte are in their widths: all that reading back asks for, since right fields bound the others
pub record WideFields (h : Head) : Type 0 where
  pub preskip : h.preskip < 65536
  pub rate : h.rate < 4294967296
  pub gain : SFits w16 h.gain

-- all fields are
pub record InWidths (h : Head) : Type 0 where
  pub wide : WideFields h
  pub version : h.version < 256
  pub channels : h.channels < 256
  pub family : h.family < 256
  pub streams : h.streams < 256
  pub coupled : h.coupled < 256
