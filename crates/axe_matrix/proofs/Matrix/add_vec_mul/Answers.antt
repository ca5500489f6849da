use Rattle.std.proofs.Common.{◌≡◌, ◌+◌, ◌*◌, ◌/◌, ◌%◌, ◌≤◌, length, sym, ap, ◌∙◌, subst, arith}
use Rattle.std.specs.List.{All}
use Rattle.axe_field.specs.NumberFields.{number_field}
use Rattle.axe_field.specs.Order.{Order, IsElement}
use Rattle.axe_row.proofs.RowLaws.{same_row}
use Rattle.axe_row.specs.Rows.{RowValue}
use Rattle.axe_matrix.specs.Products.{row_with_terms, row_with_product}
use Rattle.axe_matrix.proofs.BlockLaws.{length-row_with_terms}
use Rattle.axe_matrix.proofs.DirectRows.{so_many_terms}
use Rattle.axe_matrix.proofs.WordTerms.{word_of_terms, all_words}
use Rattle.axe_matrix.proofs.Matrix.add_vec_mul.Goals as goal

pub loop-word-init : goal.loop-word-init
loop-word-init c =
    let at = c.add_fours-at.result in
    let parts : at ≡ at / 64 * 64 + at % 64 = omega arith in
    record {
      fits = omega arith;
      field = ap (λ (r : RowValue). r.order) c.add_fours-at.ensures.sum ∙ c.requires.row_field;
      so_far =
          ap (λ (r : RowValue). r.entries) c.add_fours-at.ensures.sum
          ∙ ap (λ (o : Order). row_with_terms (number_field o) c.args.self.now.cols c.args.row.now.entries c.args.scalar c.args.vector.now.entries c.args.self.now.rows 0 at)
          c.requires.row_field
          ∙ ap (so_many_terms c.args.self.now c.args.row.now.entries c.args.scalar c.args.vector.now.entries) parts;
      well_formed = c.add_fours-at.ensures.well_formed;
    }

pub add_terms_of_word-requires-clause-columns_fit : goal.add_terms_of_word-requires-clause-columns_fit
add_terms_of_word-requires-clause-columns_fit c =
    ap length c.loop-word.invariant.so_far ∙ length-row_with_terms (number_field c.args.self.now.order) _ _ _ _ _ _ _

pub loop-word-preserved : goal.loop-word-preserved
loop-word-preserved c =
    let invariant = c.loop-word.invariant in
    let over_r = subst (λ (o : Order). All (IsElement o) c.args.row.now.entries) c.requires.row_field c.len.ensures.well_formed.elements in
    let over_v = subst (λ (o : Order). All (IsElement o) c.args.vector.now.entries) c.requires.vector_field c.len-2.ensures.well_formed.elements in
    record {
      fits = omega arith;
      field = ap (λ (r : RowValue). r.order) c.add_terms_of_word.ensures.sum ∙ invariant.field;
      so_far = word_of_terms c.args.self.now c.args.row.now.entries c.args.scalar c.args.vector.now c.loop-word.word c.loop-word.place c.loop-word.row _
          c.rows.ensures.well_formed c.requires.element over_r over_v invariant.fits invariant.field invariant.so_far c.add_terms_of_word.ensures.sum;
      well_formed = c.add_terms_of_word.ensures.well_formed;
    }

pub returns-clause-sum : goal.returns-clause-sum
returns-clause-sum c =
    let invariant = c.loop-word.invariant in
    let over_v = subst (λ (o : Order). All (IsElement o) c.args.vector.now.entries) c.requires.vector_field c.len-2.ensures.well_formed.elements in
    let past : length c.args.self.now.rows ≤ c.loop-word.word * 64 + c.loop-word.place =
    omega (arith, c.requires.inner_fit, c.len-3.ensures.count, c.div_ceil-word-end.ensures, c.loop-word-test.false) in
    same_row c.loop-word.row (row_with_product c.args.row.now c.args.scalar c.args.vector.now c.args.self.now) (invariant.field ∙ sym c.requires.row_field)
    (invariant.so_far
    ∙ all_words c.args.self.now c.args.row.now.entries c.args.scalar c.args.vector.now.entries _ c.rows.ensures.well_formed over_v c.requires.inner_fit past
    ∙ ap (λ (o : Order). row_with_terms (number_field o) c.args.self.now.cols c.args.row.now.entries c.args.scalar c.args.vector.now.entries c.args.self.now.rows 0 (length c.args.self.now.rows))
    (sym c.requires.row_field))

pub returns-clause-as_long : goal.returns-clause-as_long
returns-clause-as_long c =
    ap length c.loop-word.invariant.so_far ∙ length-row_with_terms (number_field c.args.self.now.order) _ _ _ _ _ _ _ ∙ sym c.requires.columns_fit
