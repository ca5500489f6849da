use Rattle.std.proofs.Common.{◌∷◌, [], length, map, length-append, sym, ap, subst, refl, ◌∙◌, arith}
use Rattle.std.specs.List.{All}
use Rattle.std.specs.Vec.Iter.{into_iter_items}
use Rattle.std.proofs.lemmas.List.{nil_from_length}
use Rattle.axe_reduction.specs.Augmented.{AugmentedValue}
use Rattle.axe_reduction.specs.AugmentedRows.{whole, AreRowsInOrder, IsRowOf, IsReductionOfFirst}
use Rattle.axe_reduction.proofs.AugmentedRowLaws.{over_like}
use Rattle.axe_reduction.proofs.GrowingLaws.{reduced_like, first_none, first_fit, first_all}
use Rattle.axe_reduction.proofs.MovedRows.{all_taken, no_more_taken, next_alike, next_entries, next_left}
use Rattle.axe_reduction.proofs.few.reduction_of_few.Goals as goal

pub loop-row-init : goal.loop-row-init
loop-row-init c = record {
  left = subst (AreRowsInOrder c.args.rows) (sym c.into_iter-row-iterator.ensures.into_iter_gives.0) c.in_ok-row-items.ensures;
  growing = first_none c.args.rows _ c.new.ensures.items c.new-2.ensures.items c.new-3.ensures.items;
}

pub insert-requires-clause-row : goal.insert-requires-clause-row
insert-requires-clause-row c =
    let over : IsRowOf c.args.rows c.in-Some.row =
    next_alike c.args.rows c.loop-row.yielded (into_iter_items c.loop-row.row-iterator) c.loop-row.invariant.left c.in-Some.row
    (into_iter_items c.next.new.self) c.in-Some.ensures.steps.0 in
    over_like c.args.rows.order c.args.rows.left c.args.rows.cols c.in-Some.row c.in-Some.row over over

pub insert-requires-clause-reduced : goal.insert-requires-clause-reduced
insert-requires-clause-reduced c =
    reduced_like c.args.rows (length c.loop-row.yielded) c.loop-row.growing c.in-Some.row c.loop-row.invariant.growing
    (next_alike c.args.rows c.loop-row.yielded (into_iter_items c.loop-row.row-iterator) c.loop-row.invariant.left c.in-Some.row
    (into_iter_items c.next.new.self) c.in-Some.ensures.steps.0)

pub loop-row-preserved : goal.loop-row-preserved
loop-row-preserved c = record {
  left = next_left c.args.rows c.loop-row.yielded (into_iter_items c.loop-row.row-iterator) c.loop-row.invariant.left c.in-Some.row
      (into_iter_items c.next.new.self) c.in-Some.ensures.steps.0;
  growing = subst (λ n. IsReductionOfFirst c.args.rows n c.insert.new.self)
      (omega (arith, length-append c.loop-row.yielded (c.in-Some.row ∷ [])))
      (c.in_ok-insert.ensures c.args.rows (length c.loop-row.yielded) c.rows.ensures.well_formed c.loop-row.invariant.growing
      (next_entries c.args.rows c.loop-row.yielded (into_iter_items c.loop-row.row-iterator) c.loop-row.invariant.left c.in-Some.row
      (into_iter_items c.next.new.self) c.in-Some.ensures.steps.0)
      (next_alike c.args.rows c.loop-row.yielded (into_iter_items c.loop-row.row-iterator) c.loop-row.invariant.left c.in-Some.row
      (into_iter_items c.next.new.self) c.in-Some.ensures.steps.0));
}

pub with_rows_of-requires-clause-alike : goal.with_rows_of-requires-clause-alike
with_rows_of-requires-clause-alike c =
    subst (λ (x : AugmentedValue). All (IsRowOf x) c.loop-row.growing.reduced.items) (sym c.without_rows-shape.ensures) c.loop-row.invariant.growing.reduced_over

pub with_rows_of-requires-clause-room : goal.with_rows_of-requires-clause-room
with_rows_of-requires-clause-room c =
    (first_fit c.args.rows (length c.loop-row.yielded) c.loop-row.growing c.rows.ensures.well_formed c.loop-row.invariant.growing
    (no_more_taken c.args.rows c.loop-row.yielded (into_iter_items c.loop-row.row-iterator) c.loop-row.invariant.left)).0

pub with_rows_of-requires-2-clause-alike : goal.with_rows_of-requires-2-clause-alike
with_rows_of-requires-2-clause-alike c =
    subst (λ (x : AugmentedValue). All (IsRowOf x) c.loop-row.growing.rest.items) (sym c.without_rows-shape.ensures) c.loop-row.invariant.growing.rest_over

pub with_rows_of-requires-2-clause-room : goal.with_rows_of-requires-2-clause-room
with_rows_of-requires-2-clause-room c =
    (first_fit c.args.rows (length c.loop-row.yielded) c.loop-row.growing c.rows.ensures.well_formed c.loop-row.invariant.growing
    (no_more_taken c.args.rows c.loop-row.yielded (into_iter_items c.loop-row.row-iterator) c.loop-row.invariant.left)).1

pub returns : goal.returns
returns c =
    first_all c.args.rows (length c.loop-row.yielded) c.loop-row.growing _ c.loop-row.invariant.growing
    (all_taken c.args.rows c.loop-row.yielded (into_iter_items c.loop-row.row-iterator) c.loop-row.invariant.left
    (nil_from_length (into_iter_items c.loop-row.row-iterator) (omega (arith, c.in-None.ensures.steps.0, c.loop-row.row-iterator.rest.ok))))
    (c.in_ok-reduced.ensures.rows
    ∙ ap (λ (x : AugmentedValue). record x { rows = map whole c.loop-row.growing.reduced.items }) c.without_rows-shape.ensures) refl
    (c.in_ok-rest.ensures.rows ∙ ap (λ (x : AugmentedValue). record x { rows = map whole c.loop-row.growing.rest.items }) c.without_rows-shape.ensures)
    c.in_ok-reduced.ensures.well_formed c.in_ok-rest.ensures.well_formed
