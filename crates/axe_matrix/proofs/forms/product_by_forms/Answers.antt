use Rattle.std.proofs.Common.{◌≡◌, length, sym, ap, ◌∙◌, subst, arith}
use Rattle.axe_algebra.proofs.ListEntries.{table_length}
use Rattle.axe_field.specs.Forms.{AreProductTerms}
use Rattle.axe_matrix.specs.Matrices.{MatrixValue}
use Rattle.axe_matrix.proofs.FormProducts.{product_of_no_terms, product_of_next_term, product_of_all_terms}
use Rattle.axe_matrix.proofs.forms.product_by_forms.Goals as goal

pub loop-index-init : goal.loop-index-init
loop-index-init c = record {
  so_far = product_of_no_terms _ c.args.a.now c.args.b.now _ _ _ _ c.in_ok-product.ensures.zeros
      c.field-2.ensures.order c.rows.ensures.count c.cols.ensures.count;
  well_formed = c.in_ok-product.ensures.well_formed;
}

pub add_term-requires-clause-rows_fit : goal.add_term-requires-clause-rows_fit
add_term-requires-clause-rows_fit c =
    sym (ap (λ (m : MatrixValue). length m.rows) c.loop-index.invariant.so_far ∙ table_length _ _ _)

pub loop-index-preserved : goal.loop-index-preserved
loop-index-preserved c = record {
  so_far = product_of_next_term _ c.args.a.now c.args.b.now c.loop-index.index _ _ c.loop-index.invariant.so_far
      c.in_ok-add_term.ensures.sum;
  well_formed = c.add_term.ensures.well_formed;
}

pub returns-clause-product : goal.returns-clause-product
returns-clause-product c =
    let terms = c.product_terms-terms.result.now in
    let are = subst (λ o. AreProductTerms o terms) c.field.ensures.order c.product_terms-terms.ensures in
    let all : c.loop-index.index ≡ length terms = omega (arith, c.loop-index-test.false, c.loop-index.auto.index-end) in
    product_of_all_terms terms c.args.a.now c.args.b.now _ _ are c.field.ensures.well_formed c.cols.ensures.well_formed
    c.requires.field c.requires.inner_fit c.loop-index.invariant.so_far all
