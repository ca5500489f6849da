use Rattle.std.proofs.Common.{◌≡◌, None, length, ap, ◌∙◌, subst}
use Rattle.axe_row.specs.Refusals.{Answers}
use Rattle.axe_matrix.specs.Matrices.{MatrixValue}
use Rattle.axe_matrix.specs.Products.{matrix_with_product}
use Rattle.axe_matrix.proofs.ScaledFactors.{length-matrix_multiple, scaled_factor}
use Rattle.axe_matrix.proofs.Matrix.add_product.Goals as goal

pub add_times-requires-2-clause-rows_fit : goal.add_times-requires-2-clause-rows_fit
add_times-requires-2-clause-rows_fit c =
    ap (λ (m : MatrixValue). length m.rows) c.in_ok-multiple.ensures.multiple ∙ length-matrix_multiple c.args.scalar c.args.a.now ∙ c.requires.rows_fit

pub returns-clause-sum : goal.returns-clause-sum
returns-clause-sum c =
    subst (λ (m : MatrixValue). Answers None (λ _. c.add_times-2.new.self ≡ m) c.add_times-2.result)
    (ap (λ m. matrix_with_product c.args.self.now 1 m c.args.b.now) c.in_ok-multiple.ensures.multiple
    ∙ scaled_factor c.args.self.now c.args.scalar c.args.a.now c.args.b.now c.cols.ensures.well_formed c.rows.ensures.well_formed
    c.requires.a_field c.requires.b_field c.requires.rows_fit c.requires.inner_fit c.requires.element)
    c.add_times-2.ensures.sum
