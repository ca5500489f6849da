use Rattle.std.proofs.Common.{◌≡◌, ◌<◌, length, get_or, set, ap, ◌∙◌, subst, arith}
use Rattle.axe_row.specs.Combinations.{IsRowFor, combination_at, row_with_four}
use Rattle.axe_row.specs.Rows.{RowValue}
use Rattle.axe_row.proofs.PieceRows.{row_of_number, four_of_numbers}
use Rattle.axe_matrix.specs.Matrices.{MatrixValue, row_of}
use Rattle.axe_matrix.proofs.RowListLaws.{length-at}
use Rattle.axe_matrix.proofs.RowWrites.{below_rows, order-at, row-read, MakeMatrix-write, matrix_from_written_rows}
use Rattle.axe_matrix.proofs.sums.MatrixSum.add_combinations.Goals as goal

within : (c : goal.After-self-1) → c.args.index < length c.self.inside.rows.items
within c = below_rows _ _ _ c.self.inside.rows.items c.args.index c.self.view_is c.requires.index

pub index_mut-requires : goal.index_mut-requires
index_mut-requires c =
    let below = below_rows _ _ _ c.self.inside.rows.items c.args.index c.self.view_is c.requires.index in
    omega (arith, below, c.self.inside.rows.ok.0)

read : (c : goal.After-index_mut) → row_of c.args.self.now c.args.index ≡ c.index_mut.result.now
read c =
    let below = below_rows _ _ _ c.self.inside.rows.items c.args.index c.self.view_is c.requires.index in
    row-read _ _ _ c.self.inside.rows.items c.args.index c.index_mut.result.now c.self.view_is c.self.invariant below c.index_mut.ensures.value

pub add_four-requires-clause-a : goal.add_four-requires-clause-a
add_four-requires-clause-a c =
    row_of_number c.index_mut.result.now c.args.tables.now.first _ (get_or c.args.numbers 0 0) c.from.ensures
    (subst (λ row. IsRowFor row c.args.tables.now.first (get_or c.args.numbers 0 0)) (read c) c.requires.first)

pub add_four-requires-clause-b : goal.add_four-requires-clause-b
add_four-requires-clause-b c =
    row_of_number c.index_mut.result.now c.args.tables.now.second _ (get_or c.args.numbers 1 0) c.from-2.ensures
    (subst (λ row. IsRowFor row c.args.tables.now.second (get_or c.args.numbers 1 0)) (read c) c.requires.second)

pub add_four-requires-clause-c : goal.add_four-requires-clause-c
add_four-requires-clause-c c =
    row_of_number c.index_mut.result.now c.args.tables.now.third _ (get_or c.args.numbers 2 0) c.from-3.ensures
    (subst (λ row. IsRowFor row c.args.tables.now.third (get_or c.args.numbers 2 0)) (read c) c.requires.third)

pub add_four-requires-clause-d : goal.add_four-requires-clause-d
add_four-requires-clause-d c =
    row_of_number c.index_mut.result.now c.args.tables.now.fourth _ (get_or c.args.numbers 3 0) c.from-4.ensures
    (subst (λ row. IsRowFor row c.args.tables.now.fourth (get_or c.args.numbers 3 0)) (read c) c.requires.fourth)

-- the row, and what it becomes
abbrev after : (c : goal.After-self-1) → RowValue → RowValue
after c row =
    row_with_four row (combination_at c.args.tables.now.first (get_or c.args.numbers 0 0))
    (combination_at c.args.tables.now.second (get_or c.args.numbers 1 0))
    (combination_at c.args.tables.now.third (get_or c.args.numbers 2 0))
    (combination_at c.args.tables.now.fourth (get_or c.args.numbers 3 0))

pub invariant_of-self : goal.invariant_of-self
invariant_of-self c =
    MakeMatrix-write _ _ c.self.inside.rows.items c.args.index c.add_four.new.self c.self.invariant
    (ap (λ (r : RowValue). r.order) c.add_four.ensures.sum
    ∙ order-at _ _ c.self.inside.rows.items c.args.index c.index_mut.result.now c.self.invariant (within c)
    c.index_mut.ensures.value)
    (c.add_four.ensures.as_long ∙ length-at _ _ c.self.inside.rows.items c.args.index c.index_mut.result.now
    c.self.invariant (within c) c.index_mut.ensures.value)
    c.add_four.ensures.well_formed

pub returns-clause-sum : goal.returns-clause-sum
returns-clause-sum c =
    let sum = c.add_four.ensures.sum
    ∙ four_of_numbers c.index_mut.result.now c.args.tables.now.first c.args.tables.now.second c.args.tables.now.third
    c.args.tables.now.fourth
    _ _ _ _ _ _ _ _ c.from.ensures c.from-2.ensures c.from-3.ensures c.from-4.ensures in
    matrix_from_written_rows _ _ c.self.inside.rows.items c.args.index c.index_mut.result.now c.add_four.new.self
    (after c) c.self.invariant (within c)
    c.index_mut.ensures.value sum
    ∙ ap (λ (m : MatrixValue). record m { rows = set m.rows c.args.index (after c (row_of m c.args.index)).entries }) c.self.view_is

pub returns-clause-well_formed : goal.returns-clause-well_formed
returns-clause-well_formed c = (invariant_of-self c).matrix
