use Rattle.std.proofs.Common.{◌≡◌, ℕ, List, length, get_or, sym, ap, ◌∙◌, subst, arith}
use Rattle.std.specs.List.{All}
use Rattle.axe_field.specs.NumberFields.{number_field}
use Rattle.axe_field.specs.Order.{Order, degree_of, IsElement}
use Rattle.axe_field.proofs.Orders.{one_is_element}
use Rattle.axe_row.specs.Rows.{RowValue, four_entries}
use Rattle.axe_row.proofs.RowLaws.{same_row}
use Rattle.axe_matrix.specs.VectorTerms.{row_with_first_terms}
use Rattle.axe_matrix.proofs.BlockLaws.{length-row_with_terms}
use Rattle.axe_matrix.proofs.DirectRows.{so_many_terms, no_terms}
use Rattle.axe_matrix.proofs.FourTerms.{row_for_row, four_within, four_factors, next_four_multiples}
use Rattle.axe_matrix.proofs.Matrix.add_fours_with_factors.Goals as goal

pub loop-four-init : goal.loop-four-init
loop-four-init c = record {
  fits = omega arith;
  field = c.requires.row_field;
  so_far = no_terms c.args.self.now c.args.row.now.entries 1 c.args.vector.now.entries (one_is_element c.args.self.now.order)
      (subst (λ (o : Order). All (IsElement o) c.args.row.now.entries) c.requires.row_field c.len.ensures.well_formed.elements) c.requires.columns_fit;
  word = c.support_word-word.ensures;
  well_formed = c.len.ensures.well_formed;
}

pub entries_at-factors-requires : goal.entries_at-factors-requires
entries_at-factors-requires c = four_within c.args.vector.now.entries c.in-Some.four c.loop-four.start c.in-Some.ensures.four

pub add_four_multiples-requires-clause-prime : goal.add_four_multiples-requires-clause-prime
add_four_multiples-requires-clause-prime c = ap degree_of c.loop-four.invariant.field ∙ c.requires.prime

pub add_four_multiples-requires-clause-factors : goal.add_four_multiples-requires-clause-factors
add_four_multiples-requires-clause-factors c =
    four_factors (IsElement c.loop-four.row.order) c.args.vector.now.entries c.in-Some.four c.entries_at-factors.result c.loop-four.start c.entries_at-factors.ensures.entries
    (subst (λ (o : Order). All (IsElement o) c.entries_at-factors.result) (c.requires.vector_field ∙ sym c.loop-four.invariant.field) c.entries_at-factors.ensures.elements)
    c.in-Some.ensures.four

pub add_four_multiples-requires-clause-a : goal.add_four_multiples-requires-clause-a
add_four_multiples-requires-clause-a c =
    row_for_row _ _ _ _ _ _ _ _ c.loop-four.invariant.field c.loop-four.invariant.so_far c.row-first.ensures.value c.row-first.ensures.as_long

pub add_four_multiples-requires-clause-b : goal.add_four_multiples-requires-clause-b
add_four_multiples-requires-clause-b c =
    row_for_row _ _ _ _ _ _ _ _ c.loop-four.invariant.field c.loop-four.invariant.so_far c.row-second.ensures.value c.row-second.ensures.as_long

pub add_four_multiples-requires-clause-c : goal.add_four_multiples-requires-clause-c
add_four_multiples-requires-clause-c c =
    row_for_row _ _ _ _ _ _ _ _ c.loop-four.invariant.field c.loop-four.invariant.so_far c.row.ensures.value c.row.ensures.as_long

pub add_four_multiples-requires-clause-d : goal.add_four_multiples-requires-clause-d
add_four_multiples-requires-clause-d c =
    row_for_row _ _ _ _ _ _ _ _ c.loop-four.invariant.field c.loop-four.invariant.so_far c.row-in-Some.ensures.value c.row-in-Some.ensures.as_long

pub loop-four-preserved : goal.loop-four-preserved
loop-four-preserved c =
    let is : (i : ℕ) → get_or c.entries_at-factors.result i 0 ≡ get_or (four_entries c.args.vector.now.entries c.in-Some.four) i 0 =
    λ i. ap (λ (x : List ℕ). get_or x i 0) c.entries_at-factors.ensures.entries in
    let after =
    next_four_multiples c.args.self.now c.args.row.now.entries c.args.vector.now.entries c.loop-four.start c.in-Some.four _ _ _ _ c.loop-four.row _ _ _ _
    (record {
      matrix = c.rows.ensures.well_formed;
      row = subst (λ (o : Order). All (IsElement o) c.args.row.now.entries) c.requires.row_field c.len.ensures.well_formed.elements;
      vector = subst (λ (o : Order). All (IsElement o) c.args.vector.now.entries) c.requires.vector_field c.len-2.ensures.well_formed.elements;
    })
    (record { field = c.loop-four.invariant.field; entries = c.loop-four.invariant.so_far }) c.in-Some.ensures.four (is 0) (is 1) (is 2) (is 3)
    c.row-first.ensures.value c.row-second.ensures.value c.row.ensures.value c.row-in-Some.ensures.value in
    record {
      fits = omega (arith, c.in-Some.ensures.four.fourth.within);
      field = ap (λ (r : RowValue). r.order) c.add_four_multiples.ensures.sum ∙ after.field;
      so_far = ap (λ (r : RowValue). r.entries) c.add_four_multiples.ensures.sum ∙ after.entries;
      word = c.in-Some.ensures.word;
      well_formed = c.add_four_multiples.ensures.well_formed;
    }

pub returns-clause-sum : goal.returns-clause-sum
returns-clause-sum c =
    same_row c.loop-four.row (row_with_first_terms c.args.row.now 1 c.args.vector.now c.args.self.now c.loop-four.start)
    (c.loop-four.invariant.field ∙ sym c.requires.row_field)
    (c.loop-four.invariant.so_far
    ∙ ap (λ (o : Order). so_many_terms (record { order = o; cols = c.args.self.now.cols; rows = c.args.self.now.rows }) c.args.row.now.entries 1 c.args.vector.now.entries c.loop-four.start)
    (sym c.requires.row_field))

pub returns-clause-as_long : goal.returns-clause-as_long
returns-clause-as_long c =
    ap length c.loop-four.invariant.so_far ∙ length-row_with_terms (number_field c.args.self.now.order) _ _ _ _ _ _ _ ∙ sym c.requires.columns_fit
