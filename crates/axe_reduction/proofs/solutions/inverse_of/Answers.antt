use Rattle.std.proofs.Common.{◌≡◌, ◌<◌, length, sym, ap, ◌∙◌, subst, arith, ℕ, List}
use Rattle.std.specs.List.{All, Contains}
use Rattle.axe_reduction.proofs.SolutionLists.{no_inverse_of_fewer, reduced_count, columns_of_right, all_columns, pivots_small, inverse_by_pivots}
use Rattle.axe_reduction.proofs.solutions.inverse_of.Goals as goal

pub returns-then-len-rows-clause-inverse : goal.returns-then-len-rows-clause-inverse
returns-then-len-rows-clause-inverse c = no_inverse_of_fewer c.args.matrix.now c.in_ok-reduction.reduction c.rows.ensures.well_formed c.requires c.in_ok-reduction.ensures
    (λ same. c.if-len-rows.true (omega (arith, c.len.ensures, c.in_ok-reduction.reduction.pivots.ok.0, same, c.rows-2.ensures.count)))

pub rows_by_pivot-requires-clause-count : goal.rows_by_pivot-requires-clause-count
rows_by_pivot-requires-clause-count c =
    ap (λ (l : List ℕ). length l) c.deref.ensures.value
    ∙ reduced_count c.args.matrix.now c.in_ok-reduction.reduction c.into_right.result c.in_ok-reduction.ensures c.into_right.ensures.right

pub rows_by_pivot-requires-clause-small : goal.rows_by_pivot-requires-clause-small
rows_by_pivot-requires-clause-small c =
    subst (λ (l : List ℕ). All (λ pivot. pivot < length l) l) (sym c.deref.ensures.value)
    (pivots_small c.args.matrix.now c.in_ok-reduction.reduction c.requires c.in_ok-reduction.ensures
    (omega (arith, c.len.ensures, c.in_ok-reduction.reduction.pivots.ok.0, c.if-len-rows.false, c.rows-2.ensures.count)))

pub rows_by_pivot-requires-clause-all : goal.rows_by_pivot-requires-clause-all
rows_by_pivot-requires-clause-all c column below =
    subst (λ (l : List ℕ). Contains l column) (sym c.deref.ensures.value)
    (all_columns c.args.matrix.now c.in_ok-reduction.reduction c.rows.ensures.well_formed c.requires c.in_ok-reduction.ensures
    (omega (arith, c.len.ensures, c.in_ok-reduction.reduction.pivots.ok.0, c.if-len-rows.false, c.rows-2.ensures.count)) column
    (omega (
      arith,
      below,
      columns_of_right c.args.matrix.now c.in_ok-reduction.reduction c.into_right.result c.in_ok-reduction.ensures c.into_right.ensures.columns,
      c.requires,
    )))

pub returns-clause-inverse : goal.returns-clause-inverse
returns-clause-inverse c =
    let whole : length c.in_ok-reduction.reduction.pivots.items ≡ length c.args.matrix.now.rows =
    omega (arith, c.len.ensures, c.in_ok-reduction.reduction.pivots.ok.0, c.if-len-rows.false, c.rows-2.ensures.count) in
    inverse_by_pivots c.args.matrix.now c.into_right.result c.in_ok-inverse.inverse c.in_ok-reduction.reduction c.rows.ensures.well_formed
    c.requires c.in_ok-reduction.ensures whole c.into_right.ensures.well_formed c.into_right.ensures.right c.into_right.ensures.columns
    (rw (← c.deref.ensures.value) c.in_ok-inverse.ensures.sorted)
