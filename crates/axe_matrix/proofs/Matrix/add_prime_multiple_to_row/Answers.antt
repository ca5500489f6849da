use Rattle.std.proofs.lemmas.Grind.{common_steps}
use Rattle.std.proofs.Common.{◌≡◌, ◌<◌, arith, length, set, sym, ap, ◌∙◌}
use Rattle.axe_row.specs.Operations.{row_with_multiple}
use Rattle.axe_row.specs.Rows.{RowValue}
use Rattle.axe_row.proofs.OperationLaws.{length-sum_with_multiple}
use Rattle.axe_matrix.specs.Matrices.{MatrixValue, row_of}
use Rattle.axe_matrix.proofs.RowListLaws.{length-at}
use Rattle.axe_matrix.proofs.RowWrites.{below_rows, order-at, MakeMatrix-write, matrix_from_written_rows}
use Rattle.axe_matrix.proofs.Matrix.add_prime_multiple_to_row.Goals as goal

-- the index is that of a row
below : (c : goal.After-self-1) → c.args.index < length c.self.inside.rows.items
below c = below_rows _ _ _ c.self.inside.rows.items c.args.index c.self.view_is c.requires.index

-- the row there has an entry in each column
long : (c : goal.After-self-1) → length c.index_mut.result.now.entries ≡ c.self.inside.cols
long c =
    length-at _ _ c.self.inside.rows.items c.args.index c.index_mut.result.now c.self.invariant (below c)
    c.index_mut.ensures.value

pub add_prime_multiple-requires-clause-fits : goal.add_prime_multiple-requires-clause-fits
add_prime_multiple-requires-clause-fits c =
    let inside = below_rows _ _ _ c.self.inside.rows.items c.args.index c.self.view_is c.requires.index in
    c.requires.fits ∙ ap (λ (m : MatrixValue). m.cols) (sym c.self.view_is)
    ∙ sym (length-at _ _ c.self.inside.rows.items c.args.index c.index_mut.result.now c.self.invariant inside
    c.index_mut.ensures.value)

pub invariant_of-self : goal.invariant_of-self
invariant_of-self c =
    MakeMatrix-write _ _ c.self.inside.rows.items c.args.index c.add_prime_multiple.new.self c.self.invariant
    (ap (λ (r : RowValue). r.order) c.add_prime_multiple.ensures.sum
    ∙ order-at _ _ c.self.inside.rows.items c.args.index c.index_mut.result.now c.self.invariant (below c)
    c.index_mut.ensures.value)
    (ap (λ (r : RowValue). length r.entries) c.add_prime_multiple.ensures.sum
    ∙ length-sum_with_multiple _ c.index_mut.result.now.entries c.args.scalar c.args.row.now.entries
    ∙ long c)
    c.add_prime_multiple.ensures.well_formed

pub returns-clause-sum : goal.returns-clause-sum
returns-clause-sum c =
    matrix_from_written_rows _ _ c.self.inside.rows.items c.args.index c.index_mut.result.now
    c.add_prime_multiple.new.self (λ row. row_with_multiple row c.args.scalar c.args.row.now) c.self.invariant (below c)
    c.index_mut.ensures.value c.add_prime_multiple.ensures.sum
    ∙ ap (λ (m : MatrixValue). record m {
      rows = set m.rows c.args.index (row_with_multiple (row_of m c.args.index) c.args.scalar c.args.row.now).entries;
    }) c.self.view_is

pub returns-clause-well_formed : goal.returns-clause-well_formed
returns-clause-well_formed c = (invariant_of-self c).matrix

pub index_mut-requires : goal.index_mut-requires
index_mut-requires c = grind (arith, common_steps)

pub add_prime_multiple-requires-clause-field : goal.add_prime_multiple-requires-clause-field
add_prime_multiple-requires-clause-field c = grind (arith, common_steps)

pub add_prime_multiple-requires-clause-element : goal.add_prime_multiple-requires-clause-element
add_prime_multiple-requires-clause-element c = grind (arith, common_steps)
