use Rattle.std.proofs.Common.{◌≡◌, ◌+◌, ◌-◌, ◌*◌, refl, ap, subst, ◌∙◌, arith, w64}
use Rattle.std.specs.Int.{trailing_zeros}
use Rattle.std.specs.List.{All}
use Rattle.std.proofs.lemmas.Nat.{and_le_r}
use Rattle.axe_field.specs.Order.{Order, IsElement}
use Rattle.axe_field.proofs.Orders.{one_is_element}
use Rattle.axe_row.specs.Rows.{RowValue}
use Rattle.axe_matrix.specs.ValueTerms.{places_of_value, row_with_waiting}
use Rattle.axe_matrix.proofs.DirectRows.{no_terms_from, terms_from}
use Rattle.axe_matrix.proofs.ValuePlaces.{all_left, none_left, lowest_inside, next_left, left_after, next_place, end_of_places}
use Rattle.axe_matrix.proofs.ValuePowers.{places-elements, length-places}
use Rattle.axe_matrix.proofs.WaitingRows.{order-row_with_rows_at, length-row_with_rows_at, elements-row_with_rows_at}
use Rattle.axe_matrix.proofs.Matrix.add_rows_in_word.Goals as goal

pub loop-places-init : goal.loop-places-init
loop-places-init c =
    let b = c.args.self.now in
    let w = c.args.waiting.now in
    let over_r = subst (λ (o : Order). All (IsElement o) c.args.row.now.entries) c.requires.row_field c.len.ensures.well_formed.elements in
    let none : 0 ≡ c.args.at * 64 - c.args.at * 64 = omega arith in
    let places = places_of_value c.args.value c.args.vector.now.entries in
    let before = (row_with_waiting b c.args.row.now w).entries in
    record {
      field = c.requires.row_field;
      as_long = refl;
      waiting = c.requires.waiting;
      added = record {
        start = c.args.at * 64;
        begun = omega arith;
        fits = omega arith;
        left = all_left places c.args.at c.places_of-places.result c.places_of-places.ensures;
        so_far =
            no_terms_from b before 1 places (c.args.at * 64) c.rows.ensures.well_formed (places-elements b.order c.args.value c.args.vector.now.entries)
            (one_is_element b.order) (elements-row_with_rows_at b c.args.row.now w.indices w.count c.rows.ensures.well_formed c.requires.row_field over_r)
            (length-row_with_rows_at b c.args.row.now w.indices w.count ∙ c.requires.columns_fit)
            ∙ ap (terms_from b before 1 places (c.args.at * 64)) none;
      };
      well_formed = c.len.ensures.well_formed;
    }

pub add_in_fours-requires-clause-index : goal.add_in_fours-requires-clause-index
add_in_fours-requires-clause-index c =
    let places = places_of_value c.args.value c.args.vector.now.entries in
    let added = c.loop-places.invariant.added in
    let next = next_left places c.args.at added.start c.loop-places.places added.begun added.left c.loop-places.auto.places-fits.fits c.loop-places-test.true in
    omega (arith, next.within, length-places c.args.value c.args.vector.now.entries, c.requires.inner_fit)

pub loop-places-smaller : goal.loop-places-smaller
loop-places-smaller c = omega (arith, c.loop-places-test.true, and_le_r c.loop-places.places (c.loop-places.places - 1))

pub loop-places-preserved : goal.loop-places-preserved
loop-places-preserved c =
    let b = c.args.self.now in
    let w = c.args.waiting.now in
    let invariant = c.loop-places.invariant in
    let added = invariant.added in
    let some = c.loop-places-test.true in
    let small = c.loop-places.auto.places-fits.fits in
    let places = places_of_value c.args.value c.args.vector.now.entries in
    let over_r = subst (λ (o : Order). All (IsElement o) c.args.row.now.entries) c.requires.row_field c.len.ensures.well_formed.elements in
    let next = next_left places c.args.at added.start c.loop-places.places added.begun added.left small some in
    let inside = lowest_inside places c.args.at added.start c.loop-places.places added.begun added.left small some in
    let index = c.args.at * 64 + trailing_zeros w64 c.loop-places.places in
    record {
      field = c.add_in_fours.ensures.field ∙ invariant.field;
      as_long = c.add_in_fours.ensures.as_long ∙ invariant.as_long;
      waiting = c.add_in_fours.ensures.waiting;
      added = record {
        start = index + 1;
        begun = omega (arith, added.begun, next.not_before);
        fits = omega (arith, inside);
        left = left_after places c.args.at added.start c.loop-places.places added.begun added.left small some;
        so_far =
            ap (λ (r : RowValue). r.entries) c.add_in_fours.ensures.sum
            ∙ next_place b (row_with_waiting b c.args.row.now w).entries 1 c.args.value c.args.vector.now.entries (c.args.at * 64) added.start index
            (row_with_waiting b c.loop-places.row c.loop-places.waiting) c.rows.ensures.well_formed (one_is_element b.order) c.requires.nonzero
            (elements-row_with_rows_at b c.args.row.now w.indices w.count c.rows.ensures.well_formed c.requires.row_field over_r)
            (order-row_with_rows_at b c.loop-places.row c.loop-places.waiting.indices c.loop-places.waiting.count ∙ invariant.field) added.begun added.so_far next;
      };
      well_formed = c.add_in_fours.ensures.well_formed;
    }

pub returns-clause-sum : goal.returns-clause-sum
returns-clause-sum c =
    let b = c.args.self.now in
    let w = c.args.waiting.now in
    let invariant = c.loop-places.invariant in
    let added = invariant.added in
    let places = places_of_value c.args.value c.args.vector.now.entries in
    end_of_places b c.args.row.now w c.loop-places.row c.loop-places.waiting c.args.value c.args.vector.now c.args.at added.start
    c.rows.ensures.well_formed c.requires.row_field invariant.field added.begun added.fits added.so_far
    (none_left places c.args.at added.start c.loop-places.places c.loop-places-test.false added.begun added.left)
