use Rattle.std.proofs.Common.{◌≡◌, ◌<◌, ◌+◌, length, get_or, ap, ◌∙◌, arith}
use Rattle.axe_algebra.proofs.ListEntries.{listed_length, listed_at}
use Rattle.axe_row.specs.Rows.{RowValue}
use Rattle.axe_matrix.proofs.StripLaws.{IsStrip-none, IsStrip-more}
use Rattle.axe_matrix.proofs.lines.Lines.strip.Goals as goal

pub loop-index-init : goal.loop-index-init
loop-index-init c = IsStrip-none _ _ _ _ c.in_ok-lines.ensures.items

pub fill_line-requires : goal.fill_line-requires
fill_line-requires c =
    let long : length c.in_ok-part.part.entries ≡ c.args.width = ap (λ (r : RowValue). length r.entries) c.in_ok-part.ensures.part ∙ listed_length c.args.width _ in
    omega arith

pub loop-index-preserved : goal.loop-index-preserved
loop-index-preserved c =
    let long : length c.in_ok-part.part.entries ≡ c.args.width = ap (λ (r : RowValue). length r.entries) c.in_ok-part.ensures.part ∙ listed_length c.args.width _ in
    IsStrip-more _ _ _ _ _ _ c.fill_line.new.line c.loop-index.invariant c.in_ok-push.ensures.items (λ j below.
    let within : j < length c.in_ok-part.part.entries = omega arith in
    c.fill_line.ensures j within
    ∙ ap (λ (r : RowValue). get_or r.entries j 0) c.in_ok-part.ensures.part
    ∙ listed_at c.args.width (λ k. get_or c.row.result.now.entries (c.args.start + k) 0) j 0 below
    ∙ ap (λ (r : RowValue). get_or r.entries (c.args.start + j) 0) c.row.ensures.value)
