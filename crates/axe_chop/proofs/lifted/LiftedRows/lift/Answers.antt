use Rattle.std.proofs.Common.{rules, ◌≡◌, [], length, sym, ap, ◌∙◌}
use Rattle.axe_algebra.proofs.ListProducts.{identity_length}
use Rattle.axe_field.specs.NumberFields.{number_field}
use Rattle.axe_matrix.specs.Matrices.{MatrixValue, identity_matrix, matrix_product}
use Rattle.axe_series.proofs.LiftedRows.{lifted_by_units}
use Rattle.axe_chop.specs.Kept.{kept_rows}
use Rattle.axe_chop.proofs.Lifting.{product_answered}
use Rattle.axe_chop.proofs.lifted.LiftedRows.lift.Goals as goal

pub returns-in-Identity-clause-lifted : goal.returns-in-Identity-clause-lifted
returns-in-Identity-clause-lifted c =
    let whole : c.args.self.now ≡ identity_matrix c.in-Identity.field c.in-Identity.dim =
    sym c.self.view_is ∙ ap kept_rows c.in-Identity.is in
    sym (ap (matrix_product c.args.coordinates) whole
    ∙ lifted_by_units (record { order = c.in-Identity.field; dim = c.in-Identity.dim; generators = [] }) c.args.coordinates
    (c.requires.fits ∙ ap (λ (m : MatrixValue). length m.rows) whole
    ∙ identity_length (number_field c.in-Identity.field) c.in-Identity.dim) c.cols.ensures.well_formed)

pub returns-in-Rows-clause-lifted : goal.returns-in-Rows-clause-lifted
returns-in-Rows-clause-lifted c =
    product_answered c.args.coordinates c.args.self.now c.in-Rows.rows c.mul.result (sym (ap kept_rows c.in-Rows.is) ∙ c.self.view_is)
    c.requires.field c.requires.fits c.mul.ensures.product

pub returns-in-Units-clause-lifted : goal.returns-in-Units-clause-lifted
returns-in-Units-clause-lifted c = search rules
