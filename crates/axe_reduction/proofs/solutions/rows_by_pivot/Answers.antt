use Rattle.std.specs.List.{Contains}
use Rattle.std.proofs.Common.{rules, ◌≡◌, ◌<◌, get_or, length, sym, ap, ◌∙◌, subst, arith}
use Rattle.std.proofs.lemmas.List.{get_or_default}
use Rattle.std.proofs.lemmas.List.Elements.{All-contains}
use Rattle.axe_row.specs.Rows.{RowValue}
use Rattle.axe_reduction.specs.Solutions.{AreRowsByPivot}
use Rattle.axe_reduction.proofs.SolutionRows.{rows_none, rows_more}
use Rattle.axe_reduction.proofs.solutions.rows_by_pivot.Goals as goal

pub loop-column-init : goal.loop-column-init
loop-column-init c = record {
  so_far = rows_none c.args.pivots.now c.args.rows.now c.in_ok-sorted.sorted _ _ c.field.ensures.order c.cols.ensures.count c.in_ok-sorted.ensures.no_rows;
  well_formed = c.in_ok-sorted.ensures.well_formed;
}

pub append-requires-clause-field : goal.append-requires-clause-field
append-requires-clause-field c =
    ap (λ (row : RowValue). row.order) (c.in_ok-row.ensures.copied ∙ c.row.ensures.value) ∙ sym c.loop-column.invariant.so_far.field

pub append-requires-clause-fits : goal.append-requires-clause-fits
append-requires-clause-fits c =
    ap (λ (row : RowValue). length row.entries) c.in_ok-row.ensures.copied ∙ c.row.ensures.as_long ∙ sym c.loop-column.invariant.so_far.columns

pub append-requires-clause-room : goal.append-requires-clause-room
append-requires-clause-room c =
    omega (
      arith,
      c.loop-column.invariant.so_far.count,
      c.loop-column-test.true,
      c.loop-column.auto.column-end,
      c.cols-column-end.ensures.count,
      c.cols.ensures.well_formed.columns_fit,
    )

pub loop-column-preserved : goal.loop-column-preserved
loop-column-preserved c =
    let contained : Contains c.args.pivots.now c.loop-column.column =
    c.requires.all c.loop-column.column (omega (arith, c.loop-column-test.true, c.loop-column.auto.column-end, c.cols-column-end.ensures.count)) in
    let place : get_or c.in_ok-places.places.items c.loop-column.column 0 ≡ c.index.result.now =
    get_or_default c.in_ok-places.places.items c.loop-column.column 0 c.index.result.now (omega (
      arith,
      All-contains (λ pivot. pivot < length c.args.pivots.now) c.args.pivots.now c.loop-column.column c.requires.small contained,
      c.in_ok-places.ensures.count,
    ))
    ∙ sym c.index.ensures in
    record {
      so_far = rows_more c.args.pivots.now c.args.rows.now c.loop-column.column c.index.result.now c.loop-column.sorted c.append.new.self c.in_ok-row.row
          c.loop-column.invariant.so_far (subst (λ p. p < length c.args.pivots.now) place (c.in_ok-places.ensures.within c.loop-column.column contained))
          (ap (λ p. get_or c.args.pivots.now p 0) (sym place) ∙ c.in_ok-places.ensures.found c.loop-column.column contained)
          (c.in_ok-row.ensures.copied ∙ c.row.ensures.value) c.in_ok-append.ensures.appended;
      well_formed = c.append.ensures.well_formed;
    }

pub returns-clause-sorted : goal.returns-clause-sorted
returns-clause-sorted c =
    subst (λ n. AreRowsByPivot c.args.pivots.now c.args.rows.now n c.loop-column.sorted)
    (omega (arith, c.cols-column-end.ensures.count, c.loop-column-test.false, c.loop-column.auto.column-end)) c.loop-column.invariant.so_far

pub row-requires : goal.row-requires
row-requires c =
    let contained : Contains c.args.pivots.now c.loop-column.column =
    c.requires.all c.loop-column.column (omega (arith, c.loop-column-test.true, c.loop-column.auto.column-end, c.cols-column-end.ensures.count)) in
    let place : get_or c.in_ok-places.places.items c.loop-column.column 0 ≡ c.index.result.now =
    get_or_default c.in_ok-places.places.items c.loop-column.column 0 c.index.result.now (omega (
      arith,
      All-contains (λ pivot. pivot < length c.args.pivots.now) c.args.pivots.now c.loop-column.column c.requires.small contained,
      c.in_ok-places.ensures.count,
    ))
    ∙ sym c.index.ensures in
    let within = subst (λ p. p < length c.args.pivots.now) place (c.in_ok-places.ensures.within c.loop-column.column contained) in
    omega (arith, within, c.requires.count)

pub index-requires : goal.index-requires
index-requires c = search rules
