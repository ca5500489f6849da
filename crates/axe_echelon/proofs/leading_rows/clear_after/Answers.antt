use Rattle.std.proofs.Common.{◌≡◌, ◌<◌, ℕ, get_or, length, refl, subst, sym, ◌∙◌, arith}
use Rattle.axe_field.specs.Order.{IsElement}
use Rattle.axe_echelon.specs.LeadingRows.{IsLeadingRow, HasPivotAt}
use Rattle.axe_echelon.specs.declared.subspace.PivotRow.{PivotRow}
use Rattle.axe_echelon.proofs.StepLaws.{over_of_row}
use Rattle.axe_echelon.proofs.PivotTableLaws.{found_is_marked}
use Rattle.axe_echelon.proofs.ClearingLaws.{IsClearing, IsNegative, negative_at, clearing_of, place_of_found}
use Rattle.axe_echelon.proofs.LeadingRowLaws.{cleared_none, cleared_next, cleared_after, leading_zeros, leads_at}
use Rattle.axe_echelon.proofs.leading_rows.clear_after.Goals.{In-Some, After-row_of, After-index-rows-row_of, After-from}
use Rattle.axe_echelon.proofs.leading_rows.clear_after.Goals as goal

pub loop-pivot-init : goal.loop-pivot-init
loop-pivot-init c = record {
  fits = omega (arith, c.requires.within);
  so_far = cleared_none _ _ _ _ _ _ refl (over_of_row _ _ _ refl c.len.ensures.well_formed refl);
}

place : (c : goal.In-Some) → c.in-Some.pivot < length c.args.row.now.entries
place c = omega (arith, place_of_found _ c.loop-pivot.row.entries _ _ c.in-Some.ensures.found.next, c.loop-pivot.invariant.so_far.over.length_is)

pub row_of-requires : goal.row_of-requires
row_of-requires c = omega (arith, place (goal.at.row_of-requires c).In-Some, c.requires.room.rows)

found : (c : goal.After-row_of) → HasPivotAt c.args.rows.now c.in-Some.pivot c.row_of.result
found c = rw c.row_of.ensures (c.requires.rows.found c.in-Some.pivot (omega (arith, c.loop-pivot.invariant.so_far.later, c.in-Some.ensures.found.next.not_before))
    (found_is_marked _ c.loop-pivot.row.entries _ _ c.in-Some.ensures.found.next))

pub bounds-rows-row_of : goal.bounds-rows-row_of
bounds-rows-row_of c = (found (goal.at.bounds-rows-row_of c).After-row_of).within

pub offset_bounds-rows-row_of : goal.offset_bounds-rows-row_of
offset_bounds-rows-row_of c = omega (arith, c.requires.rows.few, (found (goal.at.offset_bounds-rows-row_of c).After-row_of).within)

leads : (c : goal.After-index-rows-row_of) → IsLeadingRow c.args.row.now.order (length c.args.row.now.entries) c.index-rows-row_of.result
leads c = leads_at _ _ c.args.rows.now c.row_of.result c.index-rows-row_of.result c.requires.rows.each (found c.before).within c.index-rows-row_of.is

pivot : (c : goal.After-index-rows-row_of) → c.index-rows-row_of.result.pivot ≡ c.in-Some.pivot
pivot c = (found c.before).pivot c.index-rows-row_of.result c.index-rows-row_of.is

pub add_scaled_from-requires-clause-within : goal.add_scaled_from-requires-clause-within
add_scaled_from-requires-clause-within c = omega (arith, place_of_found _ c.loop-pivot.row.entries _ _ c.in-Some.ensures.found.next)

pub add_scaled_from-requires-clause-field : goal.add_scaled_from-requires-clause-field
add_scaled_from-requires-clause-field c =
    (leads (goal.at.add_scaled_from-requires-clause-field c).After-index-rows-row_of).field ∙ sym c.loop-pivot.invariant.so_far.field

pub add_scaled_from-requires-clause-fits : goal.add_scaled_from-requires-clause-fits
add_scaled_from-requires-clause-fits c =
    (leads (goal.at.add_scaled_from-requires-clause-fits c).After-index-rows-row_of).over.length_is ∙ sym c.loop-pivot.invariant.so_far.over.length_is

pub add_scaled_from-requires-clause-zeros : goal.add_scaled_from-requires-clause-zeros
add_scaled_from-requires-clause-zeros c =
    let at_row = (goal.at.add_scaled_from-requires-clause-zeros c).After-index-rows-row_of in
    leading_zeros _ _ c.index-rows-row_of.result c.in-Some.pivot (leads at_row) (pivot at_row)

negative : (c : goal.After-from) → IsNegative c.field.result.now c.in-Some.entry (get_or c.negatives-negatives.result.now c.from.result 0)
negative c =
    negative_at _ _ _ _ _ c.negatives-negatives.ensures.values c.negatives-negatives.ensures.elements (c.loop-pivot.invariant.so_far.field ∙ sym c.field.ensures.order)
    c.in-Some.ensures.element c.from.ensures

pub overflow_add-start-in-Some : goal.overflow_add-start-in-Some
overflow_add-start-in-Some c = omega (arith, place (goal.at.overflow_add-start-in-Some c).In-Some, c.len.ensures.count, c.len.type_inv)

pub loop-pivot-smaller : goal.loop-pivot-smaller
loop-pivot-smaller c = omega (arith, place (goal.at.loop-pivot-smaller c).In-Some, c.in-Some.ensures.found.next.not_before)

pub loop-pivot-preserved : goal.loop-pivot-preserved
loop-pivot-preserved c =
    let at_row = (goal.at.loop-pivot-preserved c).After-index-rows-row_of in
    let so_far = c.loop-pivot.invariant.so_far in
    let p : PivotRow = c.index-rows-row_of.result in
    let factor : ℕ = get_or c.negatives-negatives.result.now c.from.result 0 in
    let negated = negative (goal.at.loop-pivot-preserved c).After-from in
    let clearing : IsClearing c.args.row.now.order (length c.args.row.now.entries) p c.loop-pivot.row
    c.add_scaled_from.new.self factor =
    clearing_of _ c.field.result.now _ p _ _ _ _ c.in-Some.pivot c.in-Some.entry _ so_far.field so_far.over (pivot at_row)
    c.in-Some.ensures.found c.field.ensures.order negated.element negated.value
    c.add_scaled_from.ensures.sum c.add_scaled_from.ensures.as_long c.add_scaled_from.ensures.well_formed in
    record {
      fits = omega (arith, place_of_found _ c.loop-pivot.row.entries _ _ c.in-Some.ensures.found.next, c.add_scaled_from.ensures.as_long);
      so_far = cleared_next _ _ c.args.column c.args.rows.now c.args.pivots.now c.loop-pivot.start c.args.row.now c.loop-pivot.row so_far c.in-Some.pivot
          c.row_of.result p c.add_scaled_from.new.self factor c.in-Some.ensures.found.next (leads at_row) (found at_row.before).within c.index-rows-row_of.is
          (pivot at_row) clearing;
    }

pub add_scaled_from-requires-clause-element : goal.add_scaled_from-requires-clause-element
add_scaled_from-requires-clause-element c =
    subst (λ o. IsElement o (get_or c.negatives-negatives.result.now c.from.result 0)) (c.field.ensures.order ∙ sym c.loop-pivot.invariant.so_far.field)
    (negative (goal.at.add_scaled_from-requires-clause-element c).After-from).element

pub returns : goal.returns
returns c = cleared_after _ _ c.args.column c.args.rows.now c.args.pivots.now c.loop-pivot.start c.args.row.now c.loop-pivot.row c.loop-pivot.invariant.so_far
    c.in_default.ensures.found
