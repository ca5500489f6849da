use Rattle.std.proofs.Common.{[], subst, sym, ◌∙◌, arith}
use Rattle.std.specs.Vec.Iter.{into_iter_items}
use Rattle.std.proofs.lemmas.List.{nil_from_length}
use Rattle.axe_matrix.specs.RowLists.{AreRowsOf}
use Rattle.axe_echelon.specs.Echelons.{IsEchelon}
use Rattle.axe_echelon.proofs.RowSpaces.{row_space_none, rows_more, next_field, next_long, space_more, space_whole}
use Rattle.axe_echelon.proofs.spans.space_of_rows.Goals as goal

pub loop-row-init : goal.loop-row-init
loop-row-init c = record {
  rows = subst (AreRowsOf c.args.matrix) (sym c.into_iter-row-iterator.ensures.into_iter_gives.0) c.into_rows-row-items.ensures.rows;
  space = row_space_none c.args.matrix c.reserve.new.self
      (c.reserve.ensures.same ∙ c.zero-space.ensures.no_rows
      ∙ λ t. record { order = c.field.ensures.order t; cols = c.cols.ensures.count t; rows = [] })
      (subst IsEchelon (sym c.reserve.ensures.same) c.zero-space.ensures.well_formed);
}

pub insert-requires-clause-field : goal.insert-requires-clause-field
insert-requires-clause-field c =
    next_field c.args.matrix c.loop-row.yielded (into_iter_items c.loop-row.row-iterator) (into_iter_items c.next.new.self) c.in-Some.row
    c.loop-row.invariant.rows c.in-Some.ensures.steps.0 ∙ sym c.loop-row.invariant.space.field

pub insert-requires-clause-fits : goal.insert-requires-clause-fits
insert-requires-clause-fits c =
    next_long c.args.matrix c.loop-row.yielded (into_iter_items c.loop-row.row-iterator) (into_iter_items c.next.new.self) c.in-Some.row
    c.loop-row.invariant.rows c.in-Some.ensures.steps.0 ∙ sym c.loop-row.invariant.space.columns

pub loop-row-preserved : goal.loop-row-preserved
loop-row-preserved c = record {
  rows = rows_more c.args.matrix c.loop-row.yielded (into_iter_items c.loop-row.row-iterator) (into_iter_items c.next.new.self) c.in-Some.row
      c.loop-row.invariant.rows c.in-Some.ensures.steps.0;
  space = space_more c.args.matrix c.loop-row.yielded (into_iter_items c.loop-row.row-iterator) (into_iter_items c.next.new.self) c.in-Some.row
      c.loop-row.invariant.rows c.in-Some.ensures.steps.0 c.loop-row.space c.insert.new.self c.in_ok-insert.field-0 c.loop-row.invariant.space
      c.in_ok-insert.ensures.inserted c.in_ok-insert.ensures.exactly.1 c.insert.ensures.well_formed;
}

pub returns : goal.returns
returns c =
    space_whole c.args.matrix c.loop-row.yielded (into_iter_items c.loop-row.row-iterator) c.loop-row.space c.loop-row.invariant.rows
    (nil_from_length (into_iter_items c.loop-row.row-iterator) (omega (arith, c.in-None.ensures.steps.0, c.loop-row.row-iterator.rest.ok)))
    c.loop-row.invariant.space
