-- `list_headers::put_tags` meets its contract. Assumes nothing.
use mathlib.Core.Path.{ap, ap₂, ◌∙◌}
use Prim.Native.Nat.{ℕ}
use lib.ListN.{take, drop}
use Rattle.octets.specs.Octets.{Bytes}
use Rattle.text_put.specs.Marks.{line_feed}
use Rattle.text_put.proofs.Putting.{put-known}
use Rattle.text_pieces.specs.Pieces.{Laying, laid, lay_all}
use Rattle.text_pieces.proofs.Laying.{one_piece}
use Rattle.head_lines.specs.Lines.{number_line}
use Rattle.tags_layout.specs.Layout.{bytes_of, vendor_part, vendor_start, first_place}
use Rattle.tags_lines.specs.Lines.{text_line}
use Rattle.list_headers.specs.Names.{vendor_is, comments_is}
use Rattle.list_headers.specs.Code.{found_comments}
use Rattle.list_headers.proofs.Pieces.{some-text}
use Rattle.list_headers.proofs.put_tags.Goals as goal

pub returns : goal.returns
unfolding lay_all
returns c =
    let a = c.args in
    let b = a.b.now in
    let vendor : Bytes = bytes_of b (vendor_part b) in
    let line = text_line vendor_is vendor line_feed in
    let same = c.part_of-vendor.ensures ∙ ap (λ (n : ℕ). take n (drop vendor_start b)) c.vendor_size-size.ensures in
    let known = put-known (ap (λ (v : Bytes). text_line vendor_is v line_feed) same) c.put_text.ensures in
    c.put_comments.ensures
    ∙ ap₂ (λ (l : Laying) (k : ℕ). lay_all l (found_comments b a.n k))
    c.put_number-p.ensures c.first_comment.ensures
    ∙ ap (λ (l : Laying). lay_all (laid l (number_line comments_is a.n)) (found_comments b a.n (first_place b)))
    (one_piece a.p line (some-text vendor_is vendor) c.after-p.ensures known)
