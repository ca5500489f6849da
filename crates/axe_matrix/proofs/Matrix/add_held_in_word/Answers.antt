use Rattle.std.proofs.Common.{◌≡◌, ◌+◌, ◌-◌, ◌*◌, ◌≤◌, refl, sym, ap, subst, ◌∙◌, arith, w64}
use Rattle.std.specs.Int.{trailing_zeros}
use Rattle.std.specs.List.{All}
use Rattle.std.proofs.lemmas.Nat.{and_le_r}
use Rattle.axe_field.specs.Order.{Order, IsElement, order_number, prime_of}
use Rattle.axe_row.specs.EntryWords.{entries_in_word}
use Rattle.axe_row.specs.Operations.{row_with_multiple}
use Rattle.axe_row.specs.Rows.{RowValue}
use Rattle.axe_matrix.specs.ValueTerms.{places_of_value}
use Rattle.axe_matrix.proofs.DirectRows.{no_terms_from, terms_from}
use Rattle.axe_matrix.proofs.HeldTerms.{end_of_held_places}
use Rattle.axe_matrix.proofs.ValuePlaces.{places_in_word, all_left, none_left, lowest_inside, next_left, left_after, next_place}
use Rattle.axe_matrix.proofs.ValuePowers.{places-elements, length-places}
use Rattle.axe_matrix.proofs.Matrix.add_held_in_word.Goals as goal

pub loop-places-init : goal.loop-places-init
loop-places-init g c =
    let b = c.args.self.now in
    let over_r = subst (λ (o : Order). All (IsElement o) c.args.held.now.entries) c.requires.row_field c.requires.row_well_formed.elements in
    let none : 0 ≡ c.args.at * 64 - c.args.at * 64 = omega arith in
    let o = c.args.vector.now.order in
    let few : prime_of o ≤ 3 = subst (λ (p : Order). prime_of p ≤ 3) (sym c.requires.vector_field) c.requires.characteristic in
    let places = places_of_value c.args.value c.args.vector.now.entries in
    record {
      field = c.requires.row_field;
      as_long = refl;
      added = record {
        start = c.args.at * 64;
        begun = omega arith;
        fits = omega arith;
        left = all_left places c.args.at c.places_of-places.result
            (places_in_word c.args.value c.args.at c.places_of-places.result c.args.vector.now.entries c.requires.nonzero
            (c.places_of-places.ensures o (ap order_number c.requires.vector_field ∙ c.requires.order) few
            (subst (λ (p : Order). IsElement p c.args.value) (sym c.requires.vector_field) c.requires.value)
            (entries_in_word c.args.vector.now.entries c.args.at) (c.bit_block.ensures.block few)));
        so_far =
            no_terms_from b c.args.held.now.entries c.args.scalar places (c.args.at * 64) c.rows.ensures.well_formed
            (places-elements b.order c.args.value c.args.vector.now.entries) c.requires.scalar over_r c.requires.columns_fit
            ∙ ap (terms_from b c.args.held.now.entries c.args.scalar places (c.args.at * 64)) none;
      };
      well_formed = c.requires.row_well_formed;
    }

pub row-row-requires : goal.row-row-requires
row-row-requires g c =
    let places = places_of_value c.args.value c.args.vector.now.entries in
    let added = c.loop-places.invariant.added in
    let next = next_left places c.args.at added.start c.loop-places.places added.begun added.left c.loop-places.auto.places-fits.fits c.loop-places-test.true in
    omega (arith, next.within, length-places c.args.value c.args.vector.now.entries, c.requires.inner_fit)

pub loop-places-smaller : goal.loop-places-smaller
loop-places-smaller g c = omega (arith, c.loop-places-test.true, and_le_r c.loop-places.places (c.loop-places.places - 1))

pub loop-places-preserved : goal.loop-places-preserved
loop-places-preserved g c =
    let b = c.args.self.now in
    let invariant = c.loop-places.invariant in
    let added = invariant.added in
    let some = c.loop-places-test.true in
    let small = c.loop-places.auto.places-fits.fits in
    let places = places_of_value c.args.value c.args.vector.now.entries in
    let over_r = subst (λ (o : Order). All (IsElement o) c.args.held.now.entries) c.requires.row_field c.requires.row_well_formed.elements in
    let next = next_left places c.args.at added.start c.loop-places.places added.begun added.left small some in
    let inside = lowest_inside places c.args.at added.start c.loop-places.places added.begun added.left small some in
    let index = c.args.at * 64 + trailing_zeros w64 c.loop-places.places in
    record {
      field = ap (λ (r : RowValue). r.order) c.add_scaled_in.ensures.sum ∙ invariant.field;
      as_long = c.add_scaled_in.ensures.as_long ∙ invariant.as_long;
      added = record {
        start = index + 1;
        begun = omega (arith, added.begun, next.not_before);
        fits = omega (arith, inside);
        left = left_after places c.args.at added.start c.loop-places.places added.begun added.left small some;
        so_far =
            ap (λ (r : RowValue). r.entries) c.add_scaled_in.ensures.sum
            ∙ ap (λ (r : RowValue). (row_with_multiple c.loop-places.held c.args.scalar r).entries) c.row-row.ensures.value
            ∙ next_place b c.args.held.now.entries c.args.scalar c.args.value c.args.vector.now.entries (c.args.at * 64) added.start index
            c.loop-places.held c.rows.ensures.well_formed c.requires.scalar c.requires.nonzero over_r invariant.field added.begun added.so_far next;
      };
      well_formed = c.add_scaled_in.ensures.well_formed;
    }

pub returns-clause-sum : goal.returns-clause-sum
returns-clause-sum g c =
    let b = c.args.self.now in
    let invariant = c.loop-places.invariant in
    let added = invariant.added in
    let places = places_of_value c.args.value c.args.vector.now.entries in
    end_of_held_places b c.args.held.now c.loop-places.held c.args.scalar c.args.value c.args.vector.now c.args.at added.start
    c.rows.ensures.well_formed c.requires.row_field invariant.field added.begun added.fits added.so_far
    (none_left places c.args.at added.start c.loop-places.places c.loop-places-test.false added.begun added.left)
