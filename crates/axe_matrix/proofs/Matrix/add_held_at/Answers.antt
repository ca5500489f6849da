use Rattle.std.proofs.Common.{◌≡◌, ◌+◌, ◌*◌, ◌≤◌, length, refl, sym, ap, subst, ◌∙◌, arith}
use Rattle.std.specs.List.{All}
use Rattle.axe_field.specs.NumberFields.{number_field}
use Rattle.axe_field.specs.Order.{Order, IsElement}
use Rattle.axe_row.specs.Rows.{RowValue}
use Rattle.axe_row.proofs.RowLaws.{same_row}
use Rattle.axe_matrix.specs.Products.{row_with_terms, row_with_product}
use Rattle.axe_matrix.specs.ValueTerms.{places_of_value, vector_of_places}
use Rattle.axe_matrix.specs.VectorTerms.{row_with_terms_between}
use Rattle.axe_matrix.proofs.DirectRows.{no_terms, so_many_terms}
use Rattle.axe_matrix.proofs.ValuePowers.{places-elements, length-places}
use Rattle.axe_matrix.proofs.WordTerms.{word_of_terms, all_words}
use Rattle.axe_matrix.proofs.Matrix.add_held_at.Goals as goal

pub loop-at-init : goal.loop-at-init
loop-at-init g c =
    let b = c.args.self.now in
    let places = places_of_value c.args.value c.args.vector.now.entries in
    let over_r = subst (λ (o : Order). All (IsElement o) c.args.held.now.entries) c.requires.row_field c.requires.row_well_formed.elements in
    let none : 0 ≡ 0 * 64 + 0 = omega arith in
    record {
      field = c.requires.row_field;
      as_long = refl;
      so_far =
          no_terms b c.args.held.now.entries c.args.scalar places c.requires.scalar over_r c.requires.columns_fit
          ∙ ap (so_many_terms b c.args.held.now.entries c.args.scalar places) none;
      well_formed = c.requires.row_well_formed;
    }

pub loop-at-preserved : goal.loop-at-preserved
loop-at-preserved g c =
    let b = c.args.self.now in
    let invariant = c.loop-at.invariant in
    let over_r = subst (λ (o : Order). All (IsElement o) c.args.held.now.entries) c.requires.row_field c.requires.row_well_formed.elements in
    let start : c.loop-at.at * 64 ≡ c.loop-at.at * 64 + 0 = omega arith in
    let places = vector_of_places c.args.value c.args.vector.now in
    record {
      field = ap (λ (r : RowValue). r.order) c.add_held_in_word.ensures.sum ∙ invariant.field;
      as_long = c.add_held_in_word.ensures.as_long ∙ invariant.as_long;
      so_far = word_of_terms b c.args.held.now.entries c.args.scalar places c.loop-at.at 0 c.loop-at.held c.add_held_in_word.new.held
          c.rows.ensures.well_formed c.requires.scalar over_r
          (places-elements b.order c.args.value c.args.vector.now.entries) (omega arith) invariant.field invariant.so_far
          (c.add_held_in_word.ensures.sum ∙ ap (λ k. row_with_terms_between c.loop-at.held c.args.scalar places b k (c.loop-at.at * 64 + 64)) start);
      well_formed = c.add_held_in_word.ensures.well_formed;
    }

pub returns-clause-sum : goal.returns-clause-sum
returns-clause-sum g c =
    let b = c.args.self.now in
    let invariant = c.loop-at.invariant in
    let r = c.args.held.now.entries in
    let places = places_of_value c.args.value c.args.vector.now.entries in
    let past : length b.rows ≤ c.loop-at.at * 64 + 0 =
    omega (arith, c.requires.inner_fit, c.len-2.ensures.count, c.div_ceil-at-end.ensures, c.loop-at-test.false) in
    same_row c.loop-at.held (row_with_product c.args.held.now c.args.scalar (vector_of_places c.args.value c.args.vector.now) b)
    (invariant.field ∙ sym c.requires.row_field)
    (invariant.so_far
    ∙ all_words b r c.args.scalar places _ c.rows.ensures.well_formed (places-elements b.order c.args.value c.args.vector.now.entries)
    (length-places c.args.value c.args.vector.now.entries ∙ c.requires.inner_fit) past
    ∙ ap (λ (o : Order). row_with_terms (number_field o) b.cols r c.args.scalar places b.rows 0 (length b.rows)) (sym c.requires.row_field))
