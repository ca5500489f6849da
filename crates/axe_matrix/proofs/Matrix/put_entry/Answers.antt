use Rattle.std.proofs.lemmas.Grind.{common_steps}
use Rattle.std.proofs.Common.{◌<◌, length, set, ap, ◌∙◌, arith}
use Rattle.std.proofs.lemmas.List.{length-set}
use Rattle.axe_row.specs.Rows.{RowValue}
use Rattle.axe_matrix.specs.Matrices.{MatrixValue, row_of}
use Rattle.axe_matrix.proofs.RowListLaws.{length-at}
use Rattle.axe_matrix.proofs.RowWrites.{below_rows, order-at, MakeMatrix-write, matrix_from_written_rows}
use Rattle.axe_matrix.proofs.Matrix.put_entry.Goals as goal

within : (c : goal.After-self-1) → c.args.row < length c.self.inside.rows.items
within c = below_rows _ _ _ c.self.inside.rows.items c.args.row c.self.view_is c.requires.row

pub set-requires-clause-index : goal.set-requires-clause-index
set-requires-clause-index c =
    let below = below_rows _ _ _ c.self.inside.rows.items c.args.row c.self.view_is c.requires.row in
    let long = length-at _ _ c.self.inside.rows.items c.args.row c.index_mut.result.now c.self.invariant below c.index_mut.ensures.value in
    omega (arith, c.requires.column, long, ap (λ (m : MatrixValue). m.cols) c.self.view_is)

pub invariant_of-self : goal.invariant_of-self
invariant_of-self c =
    MakeMatrix-write _ _ c.self.inside.rows.items c.args.row c.set.new.self c.self.invariant
    (ap (λ (r : RowValue). r.order) c.set.ensures.replaced ∙ order-at _ _ c.self.inside.rows.items c.args.row c.index_mut.result.now c.self.invariant (within c) c.index_mut.ensures.value)
    (ap (λ (r : RowValue). length r.entries) c.set.ensures.replaced ∙ length-set c.index_mut.result.now.entries c.args.column c.args.element
    ∙ length-at _ _ c.self.inside.rows.items c.args.row c.index_mut.result.now c.self.invariant (within c) c.index_mut.ensures.value)
    c.set.ensures.well_formed

pub returns-clause-replaced : goal.returns-clause-replaced
returns-clause-replaced c =
    matrix_from_written_rows _ _ c.self.inside.rows.items c.args.row c.index_mut.result.now c.set.new.self
    (λ row. record { order = row.order; entries = set row.entries c.args.column c.args.element }) c.self.invariant (within c) c.index_mut.ensures.value c.set.ensures.replaced
    ∙ ap (λ (m : MatrixValue). record m { rows = set m.rows c.args.row (set (row_of m c.args.row).entries c.args.column c.args.element) }) c.self.view_is

pub returns-clause-well_formed : goal.returns-clause-well_formed
returns-clause-well_formed c = (invariant_of-self c).matrix

pub index_mut-requires : goal.index_mut-requires
index_mut-requires c = grind (arith, common_steps)

pub set-requires-clause-element : goal.set-requires-clause-element
set-requires-clause-element c = grind (arith, common_steps)
