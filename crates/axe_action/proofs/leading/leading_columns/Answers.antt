use Rattle.std.proofs.Common.{◌≡◌, [], ◌∷◌, length, get_or, ℕ, List, sym, ap, arith}
use Rattle.std.proofs.lemmas.List.{length-append}
use Rattle.axe_row.specs.Rows.{RowValue}
use Rattle.axe_action.proofs.LeadingLaws.{leading_none, leading_more, leading_within}
use Rattle.axe_action.proofs.leading.leading_columns.Goals as goal

pub loop-index-init : goal.loop-index-init
loop-index-init c = record {
  leading = leading_none _ _ c.in_ok-columns.ensures.items;
  count = ap (λ (l : List ℕ). length l) c.in_ok-columns.ensures.items;
  within = omega arith;
}

pub loop-index-preserved : goal.loop-index-preserved
loop-index-preserved c =
    let row : get_or c.args.rows.now.rows c.loop-index.index [] ≡ c.row.result.now.entries = sym (ap (λ (r : RowValue). r.entries) c.row.ensures.value) in
    record {
      leading = leading_more c.loop-index.next c.args.rows.now.rows c.loop-index.columns.items c.push.new.self.items c.in-Some.column
          c.loop-index.invariant.leading (omega (arith, c.if-column-next.false))
          (rw (c.loop-index.invariant.count, row) c.in-Some.ensures.zeros_before) c.in_ok-push.ensures.items;
      count = omega (
        arith,
        ap (λ (l : List ℕ). length l) c.in_ok-push.ensures.items,
        length-append c.loop-index.columns.items (c.in-Some.column ∷ []),
        c.loop-index.invariant.count,
      );
      within = omega (arith, c.in-Some.ensures.within, c.row.ensures.as_long);
    }

pub returns : goal.returns
returns c = (
  omega (arith, c.loop-index.invariant.count, c.loop-index-test.false, c.loop-index.auto.index-end, c.rows-index-end.ensures.count),
  leading_within c.loop-index.next c.args.rows.now.cols c.args.rows.now.rows c.loop-index.columns.items c.loop-index.invariant.leading
      c.loop-index.invariant.within,
)
