use Rattle.std.proofs.lemmas.Grind.{common_steps}
use Rattle.std.proofs.Common.{arith, set, sym, ap, ◌∙◌}
use Rattle.axe_row.specs.Operations.{row_with_multiple}
use Rattle.axe_row.specs.Rows.{RowValue}
use Rattle.axe_matrix.specs.Matrices.{MatrixValue, row_of}
use Rattle.axe_matrix.proofs.RowListLaws.{length-at}
use Rattle.axe_matrix.proofs.RowWrites.{below_rows, order-at, MakeMatrix-write, matrix_from_written_rows}
use Rattle.axe_matrix.proofs.Matrix.add_to_row.Goals as goal

pub add_scaled-requires-clause-fits : goal.add_scaled-requires-clause-fits
add_scaled-requires-clause-fits c =
    let below = below_rows _ _ _ c.self.inside.rows.items c.args.index c.self.view_is c.requires.index in
    c.requires.fits ∙ ap (λ (m : MatrixValue). m.cols) (sym c.self.view_is)
    ∙ sym (length-at _ _ c.self.inside.rows.items c.args.index c.index_mut.result.now c.self.invariant below c.index_mut.ensures.value)

pub invariant_of-self : goal.invariant_of-self
invariant_of-self c =
    let below = below_rows _ _ _ c.self.inside.rows.items c.args.index c.self.view_is c.requires.index in
    MakeMatrix-write _ _ c.self.inside.rows.items c.args.index c.add_scaled.new.self c.self.invariant
    (ap (λ (r : RowValue). r.order) c.add_scaled.ensures.sum ∙ order-at _ _ c.self.inside.rows.items c.args.index c.index_mut.result.now c.self.invariant below c.index_mut.ensures.value)
    (c.add_scaled.ensures.as_long ∙ length-at _ _ c.self.inside.rows.items c.args.index c.index_mut.result.now c.self.invariant below c.index_mut.ensures.value)
    c.add_scaled.ensures.well_formed

pub returns-clause-sum : goal.returns-clause-sum
returns-clause-sum c =
    let below = below_rows _ _ _ c.self.inside.rows.items c.args.index c.self.view_is c.requires.index in
    matrix_from_written_rows _ _ c.self.inside.rows.items c.args.index c.index_mut.result.now c.add_scaled.new.self
    (λ row. row_with_multiple row c.args.scalar c.args.row.now) c.self.invariant below c.index_mut.ensures.value c.add_scaled.ensures.sum
    ∙ ap (λ (m : MatrixValue). record m { rows = set m.rows c.args.index (row_with_multiple (row_of m c.args.index) c.args.scalar c.args.row.now).entries }) c.self.view_is

pub returns-clause-well_formed : goal.returns-clause-well_formed
returns-clause-well_formed c = (invariant_of-self c).matrix

pub index_mut-requires : goal.index_mut-requires
index_mut-requires c = grind (arith, common_steps)

pub add_scaled-requires-clause-field : goal.add_scaled-requires-clause-field
add_scaled-requires-clause-field c = grind (arith, common_steps)

pub add_scaled-requires-clause-element : goal.add_scaled-requires-clause-element
add_scaled-requires-clause-element c = grind (arith, common_steps)
