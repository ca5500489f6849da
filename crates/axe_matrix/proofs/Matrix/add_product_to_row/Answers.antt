use Rattle.std.proofs.lemmas.Grind.{common_steps}
use Rattle.std.proofs.Common.{arith, ◌<◌, length, set, sym, ap, ◌∙◌}
use Rattle.axe_row.specs.Rows.{RowValue}
use Rattle.axe_matrix.specs.Matrices.{MatrixValue, row_of}
use Rattle.axe_matrix.specs.Products.{row_with_product}
use Rattle.axe_matrix.proofs.RowListLaws.{length-at}
use Rattle.axe_matrix.proofs.RowWrites.{below_rows, order-at, MakeMatrix-write, matrix_from_written_rows}
use Rattle.axe_matrix.proofs.Matrix.add_product_to_row.Goals as goal

within : (c : goal.After-self-1) → c.args.index < length c.self.inside.rows.items
within c = below_rows _ _ _ c.self.inside.rows.items c.args.index c.self.view_is c.requires.index

pub add_vec_mul-requires-clause-columns_fit : goal.add_vec_mul-requires-clause-columns_fit
add_vec_mul-requires-clause-columns_fit c =
    let below = below_rows _ _ _ c.self.inside.rows.items c.args.index c.self.view_is c.requires.index in
    length-at _ _ c.self.inside.rows.items c.args.index c.index_mut.result.now c.self.invariant below c.index_mut.ensures.value
    ∙ ap (λ (m : MatrixValue). m.cols) c.self.view_is ∙ sym c.requires.columns_fit

pub invariant_of-self : goal.invariant_of-self
invariant_of-self c =
    MakeMatrix-write _ _ c.self.inside.rows.items c.args.index c.add_vec_mul.new.row c.self.invariant
    (ap (λ (r : RowValue). r.order) c.add_vec_mul.ensures.sum ∙ order-at _ _ c.self.inside.rows.items c.args.index c.index_mut.result.now c.self.invariant (within c) c.index_mut.ensures.value)
    (c.add_vec_mul.ensures.as_long ∙ length-at _ _ c.self.inside.rows.items c.args.index c.index_mut.result.now c.self.invariant (within c) c.index_mut.ensures.value)
    c.add_vec_mul.ensures.well_formed

pub returns-clause-sum : goal.returns-clause-sum
returns-clause-sum c =
    matrix_from_written_rows _ _ c.self.inside.rows.items c.args.index c.index_mut.result.now c.add_vec_mul.new.row
    (λ row. row_with_product row c.args.scalar c.args.vector.now c.args.b.now) c.self.invariant (within c) c.index_mut.ensures.value c.add_vec_mul.ensures.sum
    ∙ ap (λ (m : MatrixValue). record m { rows = set m.rows c.args.index (row_with_product (row_of m c.args.index) c.args.scalar c.args.vector.now c.args.b.now).entries }) c.self.view_is

pub returns-clause-well_formed : goal.returns-clause-well_formed
returns-clause-well_formed c = (invariant_of-self c).matrix

pub index_mut-requires : goal.index_mut-requires
index_mut-requires c = grind (arith, common_steps)

pub add_vec_mul-requires-clause-row_field : goal.add_vec_mul-requires-clause-row_field
add_vec_mul-requires-clause-row_field c = grind (arith, common_steps)
