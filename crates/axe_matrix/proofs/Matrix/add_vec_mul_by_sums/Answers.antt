use Rattle.std.proofs.Common.{◌≡◌, ◌<◌, ℕ, List, length, get_or, sym, ap, ◌∙◌, subst, arith}
use Rattle.std.specs.List.{All}
use Rattle.axe_field.specs.NumberFields.{number_field}
use Rattle.axe_field.specs.Order.{Order, IsElement}
use Rattle.axe_field.proofs.Orders.{one_is_element}
use Rattle.axe_row.specs.Rows.{RowValue, four_entries}
use Rattle.axe_row.proofs.RowLaws.{same_row}
use Rattle.axe_matrix.specs.Products.{row_with_product}
use Rattle.axe_matrix.proofs.BlockLaws.{length-row_with_terms}
use Rattle.axe_matrix.proofs.DirectRows.{so_many_terms, no_terms}
use Rattle.axe_matrix.proofs.FourTerms.{over_field, row_for_row, four_within, next_four_multiples}
use Rattle.axe_matrix.proofs.LastTerms.{further_terms}
use Rattle.axe_matrix.proofs.Matrix.add_vec_mul_by_sums.Goals as goal

pub loop-four-init : goal.loop-four-init
loop-four-init c =
    let over = over_field c.args.self.now c.args.row.now c.args.vector.now c.rows.ensures.well_formed c.len.ensures.well_formed c.len-2.ensures.well_formed
    c.requires.row_field c.requires.vector_field in
    record {
      fits = omega arith;
      field = ap (λ (r : RowValue). r.order) c.take-sum.ensures.value ∙ c.requires.row_field;
      so_far =
          ap (λ (r : RowValue). r.entries) c.take-sum.ensures.value
          ∙ no_terms c.args.self.now c.args.row.now.entries 1 c.args.vector.now.entries (one_is_element c.args.self.now.order) over.row c.requires.columns_fit;
      word = c.support_word-word.ensures;
      well_formed = c.take-sum.ensures.well_formed;
    }

pub entries_at-entries-requires : goal.entries_at-entries-requires
entries_at-entries-requires c = four_within c.args.vector.now.entries c.in-Some.four c.loop-four.next c.in-Some.ensures.four

pub add_four_multiples-requires-clause-factors : goal.add_four_multiples-requires-clause-factors
add_four_multiples-requires-clause-factors c = λ i below.
    subst (λ (o : Order). All (IsElement o) c.entries_at-entries.result) (c.requires.vector_field ∙ sym c.loop-four.invariant.field) c.entries_at-entries.ensures.elements
    i 0 (subst (λ (x : List ℕ). i < length x) (sym c.entries_at-entries.ensures.entries) below)

pub add_four_multiples-requires-clause-a : goal.add_four_multiples-requires-clause-a
add_four_multiples-requires-clause-a c =
    row_for_row _ _ _ _ _ _ _ _ c.loop-four.invariant.field c.loop-four.invariant.so_far c.row-first.ensures.value c.row-first.ensures.as_long

pub add_four_multiples-requires-clause-b : goal.add_four_multiples-requires-clause-b
add_four_multiples-requires-clause-b c =
    row_for_row _ _ _ _ _ _ _ _ c.loop-four.invariant.field c.loop-four.invariant.so_far c.row-second.ensures.value c.row-second.ensures.as_long

pub add_four_multiples-requires-clause-c : goal.add_four_multiples-requires-clause-c
add_four_multiples-requires-clause-c c =
    row_for_row _ _ _ _ _ _ _ _ c.loop-four.invariant.field c.loop-four.invariant.so_far c.row.ensures.value c.row.ensures.as_long

pub add_four_multiples-requires-clause-d : goal.add_four_multiples-requires-clause-d
add_four_multiples-requires-clause-d c =
    row_for_row _ _ _ _ _ _ _ _ c.loop-four.invariant.field c.loop-four.invariant.so_far c.row-in-Some.ensures.value c.row-in-Some.ensures.as_long

pub loop-four-preserved : goal.loop-four-preserved
loop-four-preserved c =
    let is : (i : ℕ) → get_or c.entries_at-entries.result i 0 ≡ get_or (four_entries c.args.vector.now.entries c.in-Some.four) i 0 =
    λ i. ap (λ (x : List ℕ). get_or x i 0) c.entries_at-entries.ensures.entries in
    let over = over_field c.args.self.now c.args.row.now c.args.vector.now c.rows.ensures.well_formed c.len.ensures.well_formed c.len-2.ensures.well_formed
    c.requires.row_field c.requires.vector_field in
    let after =
    next_four_multiples c.args.self.now c.args.row.now.entries c.args.vector.now.entries c.loop-four.next c.in-Some.four _ _ _ _ c.loop-four.sum _ _ _ _ over
    (record { field = c.loop-four.invariant.field; entries = c.loop-four.invariant.so_far }) c.in-Some.ensures.four (is 0) (is 1) (is 2) (is 3)
    c.row-first.ensures.value c.row-second.ensures.value c.row.ensures.value c.row-in-Some.ensures.value in
    record {
      fits = omega (arith, c.in-Some.ensures.four.fourth.within);
      field = ap (λ (r : RowValue). r.order) c.add_four_multiples.ensures.sum ∙ after.field;
      so_far = ap (λ (r : RowValue). r.entries) c.add_four_multiples.ensures.sum ∙ after.entries;
      word = c.in-Some.ensures.word;
      well_formed = c.add_four_multiples.ensures.well_formed;
    }

pub add_last_terms-requires-clause-columns_fit : goal.add_last_terms-requires-clause-columns_fit
add_last_terms-requires-clause-columns_fit c =
    ap length c.loop-four.invariant.so_far ∙ length-row_with_terms (number_field c.args.self.now.order) _ _ _ _ _ _ _

pub returns-clause-sum : goal.returns-clause-sum
returns-clause-sum c =
    let b = c.args.self.now in
    let over = over_field b c.args.row.now c.args.vector.now c.rows.ensures.well_formed c.len.ensures.well_formed c.len-2.ensures.well_formed
    c.requires.row_field c.requires.vector_field in
    let product = row_with_product c.args.row.now 1 c.args.vector.now b in
    let terms = further_terms b c.args.row.now.entries 1 c.args.vector.now c.loop-four.next (length c.args.vector.now.entries) c.loop-four.sum _ over.matrix
    (one_is_element b.order) over.row over.vector c.loop-four.invariant.fits c.loop-four.invariant.field c.loop-four.invariant.so_far c.add_last_terms.ensures.sum in
    c.into_row.ensures.value
    ∙ same_row _ product (ap (λ (r : RowValue). r.order) c.add_last_terms.ensures.sum ∙ c.loop-four.invariant.field ∙ sym c.requires.row_field)
    (terms
    ∙ ap (so_many_terms b c.args.row.now.entries 1 c.args.vector.now.entries) c.requires.inner_fit
    ∙ ap (λ (o : Order). so_many_terms (record { order = o; cols = b.cols; rows = b.rows }) c.args.row.now.entries 1 c.args.vector.now.entries (length b.rows))
    (sym c.requires.row_field))

pub returns-clause-as_long : goal.returns-clause-as_long
returns-clause-as_long c =
    ap (λ (r : RowValue). length r.entries) c.into_row.ensures.value ∙ c.add_last_terms.ensures.as_long
    ∙ ap length c.loop-four.invariant.so_far ∙ length-row_with_terms (number_field c.args.self.now.order) _ _ _ _ _ _ _ ∙ sym c.requires.columns_fit
