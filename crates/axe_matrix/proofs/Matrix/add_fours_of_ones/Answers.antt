use Rattle.std.proofs.Common.{length, sym, ap, ◌∙◌, subst, arith}
use Rattle.std.specs.List.{All}
use Rattle.axe_field.specs.NumberFields.{number_field}
use Rattle.axe_field.specs.Order.{Order, IsElement}
use Rattle.axe_field.proofs.Orders.{one_is_element}
use Rattle.axe_row.specs.Rows.{RowValue}
use Rattle.axe_row.proofs.RowLaws.{same_row}
use Rattle.axe_matrix.specs.VectorTerms.{row_with_first_terms}
use Rattle.axe_matrix.proofs.BlockLaws.{length-row_with_terms}
use Rattle.axe_matrix.proofs.DirectRows.{so_many_terms, no_terms}
use Rattle.axe_matrix.proofs.FourTerms.{row_for_row, next_four_rows}
use Rattle.axe_matrix.proofs.Matrix.add_fours_of_ones.Goals as goal

pub loop-four-init : goal.loop-four-init
loop-four-init c = record {
  fits = omega arith;
  field = c.requires.row_field;
  so_far = no_terms c.args.self.now c.args.row.now.entries 1 c.args.vector.now.entries (one_is_element c.args.self.now.order)
      (subst (λ (o : Order). All (IsElement o) c.args.row.now.entries) c.requires.row_field c.len.ensures.well_formed.elements) c.requires.columns_fit;
  word = c.support_word-word.ensures;
  well_formed = c.len.ensures.well_formed;
}

pub add_four_rows-requires-clause-a : goal.add_four_rows-requires-clause-a
add_four_rows-requires-clause-a c =
    row_for_row _ _ _ _ _ _ _ _ c.loop-four.invariant.field c.loop-four.invariant.so_far c.row-first.ensures.value c.row-first.ensures.as_long

pub add_four_rows-requires-clause-b : goal.add_four_rows-requires-clause-b
add_four_rows-requires-clause-b c =
    row_for_row _ _ _ _ _ _ _ _ c.loop-four.invariant.field c.loop-four.invariant.so_far c.row-second.ensures.value c.row-second.ensures.as_long

pub add_four_rows-requires-clause-c : goal.add_four_rows-requires-clause-c
add_four_rows-requires-clause-c c =
    row_for_row _ _ _ _ _ _ _ _ c.loop-four.invariant.field c.loop-four.invariant.so_far c.row.ensures.value c.row.ensures.as_long

pub add_four_rows-requires-clause-d : goal.add_four_rows-requires-clause-d
add_four_rows-requires-clause-d c =
    row_for_row _ _ _ _ _ _ _ _ c.loop-four.invariant.field c.loop-four.invariant.so_far c.row-in-Some.ensures.value c.row-in-Some.ensures.as_long

pub loop-four-preserved : goal.loop-four-preserved
loop-four-preserved c =
    let after =
    next_four_rows c.args.self.now c.args.row.now.entries c.args.vector.now.entries c.loop-four.at c.in-Some.four c.loop-four.row _ _ _ _ c.requires.two
    (record {
      matrix = c.rows.ensures.well_formed;
      row = subst (λ (o : Order). All (IsElement o) c.args.row.now.entries) c.requires.row_field c.len.ensures.well_formed.elements;
      vector = subst (λ (o : Order). All (IsElement o) c.args.vector.now.entries) c.requires.vector_field c.len-2.ensures.well_formed.elements;
    })
    (record { field = c.loop-four.invariant.field; entries = c.loop-four.invariant.so_far }) c.in-Some.ensures.four
    c.row-first.ensures.value c.row-second.ensures.value c.row.ensures.value c.row-in-Some.ensures.value in
    record {
      fits = omega (arith, c.in-Some.ensures.four.fourth.within);
      field = ap (λ (r : RowValue). r.order) c.add_four_rows.ensures.sum ∙ after.field;
      so_far = ap (λ (r : RowValue). r.entries) c.add_four_rows.ensures.sum ∙ after.entries;
      word = c.in-Some.ensures.word;
      well_formed = c.add_four_rows.ensures.well_formed;
    }

pub returns-clause-sum : goal.returns-clause-sum
returns-clause-sum c =
    same_row c.loop-four.row (row_with_first_terms c.args.row.now 1 c.args.vector.now c.args.self.now c.loop-four.at)
    (c.loop-four.invariant.field ∙ sym c.requires.row_field)
    (c.loop-four.invariant.so_far
    ∙ ap (λ (o : Order). so_many_terms (record { order = o; cols = c.args.self.now.cols; rows = c.args.self.now.rows }) c.args.row.now.entries 1 c.args.vector.now.entries c.loop-four.at)
    (sym c.requires.row_field))

pub returns-clause-as_long : goal.returns-clause-as_long
returns-clause-as_long c =
    ap length c.loop-four.invariant.so_far ∙ length-row_with_terms (number_field c.args.self.now.order) _ _ _ _ _ _ _ ∙ sym c.requires.columns_fit
