use Rattle.std.proofs.Common.{◌≡◌, ◌+◌, ◌*◌, ◌≤◌, length, sym, ap, ◌∙◌, subst, arith}
use Rattle.std.specs.List.{All}
use Rattle.axe_field.specs.NumberFields.{number_field}
use Rattle.axe_field.specs.Order.{Order, IsElement}
use Rattle.axe_row.proofs.RowLaws.{same_row}
use Rattle.axe_row.specs.Rows.{RowValue}
use Rattle.axe_matrix.specs.Products.{row_with_terms, row_with_product}
use Rattle.axe_matrix.specs.VectorTerms.{row_with_terms_between}
use Rattle.axe_matrix.proofs.BlockLaws.{length-row_with_terms}
use Rattle.axe_matrix.proofs.DirectRows.{no_terms, so_many_terms}
use Rattle.axe_matrix.proofs.WordTerms.{word_of_terms, all_words}
use Rattle.axe_matrix.proofs.Matrix.add_terms_in.Goals as goal

pub loop-word-init : goal.loop-word-init
loop-word-init g c =
    let over_r = subst (λ (o : Order). All (IsElement o) c.args.row.now.entries) c.requires.row_field c.len.ensures.well_formed.elements in
    let none : 0 ≡ 0 * 64 + 0 = omega arith in
    record {
      field = c.requires.row_field;
      so_far =
          no_terms c.args.self.now c.args.row.now.entries c.args.scalar c.args.vector.now.entries c.requires.element over_r c.requires.columns_fit
          ∙ ap (so_many_terms c.args.self.now c.args.row.now.entries c.args.scalar c.args.vector.now.entries) none;
      well_formed = c.len.ensures.well_formed;
    }

pub add_word_of_terms_in-requires-clause-columns_fit : goal.add_word_of_terms_in-requires-clause-columns_fit
add_word_of_terms_in-requires-clause-columns_fit g c =
    ap length c.loop-word.invariant.so_far ∙ length-row_with_terms (number_field c.args.self.now.order) _ _ _ _ _ _ _

pub loop-word-preserved : goal.loop-word-preserved
loop-word-preserved g c =
    let invariant = c.loop-word.invariant in
    let over_r = subst (λ (o : Order). All (IsElement o) c.args.row.now.entries) c.requires.row_field c.len.ensures.well_formed.elements in
    let over_v = subst (λ (o : Order). All (IsElement o) c.args.vector.now.entries) c.requires.vector_field c.len-2.ensures.well_formed.elements in
    let first : c.loop-word.word * 64 ≡ c.loop-word.word * 64 + 0 = omega arith in
    record {
      field = ap (λ (r : RowValue). r.order) c.add_word_of_terms_in.ensures.sum ∙ invariant.field;
      so_far = word_of_terms c.args.self.now c.args.row.now.entries c.args.scalar c.args.vector.now c.loop-word.word 0 c.loop-word.row _
          c.rows.ensures.well_formed c.requires.element over_r over_v (omega arith) invariant.field invariant.so_far
          (c.add_word_of_terms_in.ensures.sum
          ∙ ap (λ k. row_with_terms_between c.loop-word.row c.args.scalar c.args.vector.now c.args.self.now k (c.loop-word.word * 64 + 64)) first);
      well_formed = c.add_word_of_terms_in.ensures.well_formed;
    }

pub returns-clause-sum : goal.returns-clause-sum
returns-clause-sum g c =
    let invariant = c.loop-word.invariant in
    let over_v = subst (λ (o : Order). All (IsElement o) c.args.vector.now.entries) c.requires.vector_field c.len-2.ensures.well_formed.elements in
    let past : length c.args.self.now.rows ≤ c.loop-word.word * 64 + 0 =
    omega (arith, c.requires.inner_fit, c.len-3.ensures.count, c.div_ceil-word-end.ensures, c.loop-word-test.false) in
    same_row c.loop-word.row (row_with_product c.args.row.now c.args.scalar c.args.vector.now c.args.self.now) (invariant.field ∙ sym c.requires.row_field)
    (invariant.so_far
    ∙ all_words c.args.self.now c.args.row.now.entries c.args.scalar c.args.vector.now.entries _ c.rows.ensures.well_formed over_v c.requires.inner_fit past
    ∙ ap (λ (o : Order). row_with_terms (number_field o) c.args.self.now.cols c.args.row.now.entries c.args.scalar c.args.vector.now.entries c.args.self.now.rows 0 (length c.args.self.now.rows))
    (sym c.requires.row_field))

pub returns-clause-as_long : goal.returns-clause-as_long
returns-clause-as_long g c =
    ap length c.loop-word.invariant.so_far ∙ length-row_with_terms (number_field c.args.self.now.order) _ _ _ _ _ _ _ ∙ sym c.requires.columns_fit
