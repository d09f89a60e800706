-- `crop::is_start` meets its contract. Assumes nothing.
use mathlib.Core.Path.{ap, ◌∙◌}
use native.Mathlib.Omega.{arith}
use borrow.Author.Rules.{rules}
use Rattle.octets.specs.Octets.{Bytes}
use Rattle.stream.specs.Page.{page_of}
use Rattle.crop_rules.specs.Crop.{may_begin}
use Rattle.crop.proofs.Starting.{in_headers_lem, past_end, at_audio}
use Rattle.crop.proofs.is_start.Goals as goal

pub returns-then-page-headers : goal.returns-then-page-headers
returns-then-page-headers c = in_headers_lem _ _ _ _ c.requires c.if-page-headers.true

pub returns-then-at-stream : goal.returns-then-at-stream
returns-then-at-stream c = past_end _ _ _ _ c.requires (omega arith)

pub returns : goal.returns
returns c =
    c.may_begin.ensures ∙ ap (λ (p : Bytes). may_begin (page_of p)) c.page_at.ensures
    ∙ at_audio _ _ _ _ c.requires (omega arith) (omega arith)
