use Rattle.std.proofs.Common.{length, ap, ◌∙◌}
use Rattle.axe_matrix.specs.Matrices.{MatrixValue}
use Rattle.axe_matrix.proofs.FormProducts.{length-values}
use Rattle.axe_matrix.proofs.ProductLaws.{length-product}
use Rattle.axe_matrix.proofs.Matrix.add_term.Goals as goal

pub add_prime_multiple-requires-clause-rows_fit : goal.add_prime_multiple-requires-clause-rows_fit
add_prime_multiple-requires-clause-rows_fit c =
    ap (λ (m : MatrixValue). length m.rows) c.in_ok-product.ensures.product
    ∙ length-product _ _ c.in_ok-first.first.rows c.in_ok-second.second.rows
    ∙ ap (λ (m : MatrixValue). length m.rows) c.in_ok-first.ensures.values
    ∙ length-values c.args.term.now.form c.args.a.now
    ∙ c.requires.rows_fit
