use Rattle.std.proofs.Common.{ℕ, List, length, sym, ap, subst, arith}
use Rattle.axe_action.specs.FreeColumns.{AreFreeColumns, rows_to_span}
use Rattle.axe_action.proofs.LeadingLaws.{free_of_others, free_beside_rows}
use Rattle.axe_action.proofs.submodules.split_at_pivots.Goals as goal

pub other_columns-requires : goal.other_columns-requires
other_columns-requires c = c.requires.reduced.pivots.ascending

pub actions_at_pivots-requires-clause-free : goal.actions_at_pivots-requires-clause-free
actions_at_pivots-requires-clause-free c =
    subst (AreFreeColumns (rows_to_span c.args.rows.now)) (sym c.deref.ensures.value)
    (free_of_others (rows_to_span c.args.rows.now) c.cols.result c.args.pivots.now c.in_ok-columns.columns.items c.cols.ensures.count
    c.requires.reduced.pivots c.in_ok-columns.ensures)

pub actions_at_pivots-requires-clause-some_column : goal.actions_at_pivots-requires-clause-some_column
actions_at_pivots-requires-clause-some_column c =
    omega (
      arith,
      ap (λ (l : List ℕ). length l) c.deref.ensures.value,
      free_beside_rows c.args.rows.now c.args.pivots.now c.in_ok-columns.columns.items c.cols.ensures.well_formed c.requires.reduced
          (free_of_others (rows_to_span c.args.rows.now) c.cols.result c.args.pivots.now c.in_ok-columns.columns.items c.cols.ensures.count
          c.requires.reduced.pivots c.in_ok-columns.ensures),
      c.requires.proper,
      c.requires.fits,
    )

pub actions_at_pivots-requires-clause-columns_fit : goal.actions_at_pivots-requires-clause-columns_fit
actions_at_pivots-requires-clause-columns_fit c =
    omega (
      arith,
      ap (λ (l : List ℕ). length l) c.deref.ensures.value,
      free_beside_rows c.args.rows.now c.args.pivots.now c.in_ok-columns.columns.items c.cols.ensures.well_formed c.requires.reduced
          (free_of_others (rows_to_span c.args.rows.now) c.cols.result c.args.pivots.now c.in_ok-columns.columns.items c.cols.ensures.count
          c.requires.reduced.pivots c.in_ok-columns.ensures),
      c.cols.ensures.well_formed.columns_fit,
    )

pub returns-clause-sub : goal.returns-clause-sub
returns-clause-sub c = c.in_ok-sub.ensures.sub

pub returns-clause-quotient : goal.returns-clause-quotient
returns-clause-quotient c = c.in_ok-sub.ensures.quotient

pub returns-clause-columns : goal.returns-clause-columns
returns-clause-columns c =
    free_of_others (rows_to_span c.args.rows.now) c.cols.result c.args.pivots.now c.in_ok-columns.columns.items c.cols.ensures.count
    c.requires.reduced.pivots c.in_ok-columns.ensures
