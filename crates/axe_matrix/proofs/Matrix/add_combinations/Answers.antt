use Rattle.std.proofs.Common.{◌≡◌, ◌<◌, ◌+◌, ◌*◌, length, set, ap, ◌∙◌, subst, arith}
use Rattle.axe_row.specs.Combinations.{IsRowFor, combination_at, piece_number, row_with_four}
use Rattle.axe_row.specs.Rows.{RowValue}
use Rattle.axe_matrix.specs.Matrices.{MatrixValue, row_of}
use Rattle.axe_matrix.proofs.RowListLaws.{length-at}
use Rattle.axe_matrix.proofs.RowWrites.{below_rows, order-at, row-read, MakeMatrix-write, matrix_from_written_rows}
use Rattle.axe_matrix.proofs.Matrix.add_combinations.Goals as goal

within : (c : goal.After-self-1) → c.args.index < length c.self.inside.rows.items
within c = below_rows _ _ _ c.self.inside.rows.items c.args.index c.self.view_is c.requires.index

pub index_mut-requires : goal.index_mut-requires
index_mut-requires c =
    let below = below_rows _ _ _ c.self.inside.rows.items c.args.index c.self.view_is c.requires.index in
    omega (arith, below, c.self.inside.rows.ok.0)

read : (c : goal.After-index_mut) → row_of c.args.self.now c.args.index ≡ c.index_mut.result.now
read c =
    let below = below_rows _ _ _ c.self.inside.rows.items c.args.index c.self.view_is c.requires.index in
    row-read _ _ _ c.self.inside.rows.items c.args.index c.index_mut.result.now c.self.view_is c.self.invariant below c.index_mut.ensures.value

pub add_pieces-requires-clause-a : goal.add_pieces-requires-clause-a
add_pieces-requires-clause-a c = subst (λ row. IsRowFor row c.args.tables.now.first (piece_number c.args.of.now 1 c.args.tables.now.size c.args.at)) (read c) c.requires.first

pub add_pieces-requires-clause-b : goal.add_pieces-requires-clause-b
add_pieces-requires-clause-b c = subst (λ row. IsRowFor row c.args.tables.now.second (piece_number c.args.of.now 1 c.args.tables.now.size (c.args.at + c.args.tables.now.size))) (read c) c.requires.second

pub add_pieces-requires-clause-c : goal.add_pieces-requires-clause-c
add_pieces-requires-clause-c c = subst (λ row. IsRowFor row c.args.tables.now.third (piece_number c.args.of.now 1 c.args.tables.now.size (c.args.at + 2 * c.args.tables.now.size))) (read c) c.requires.third

pub add_pieces-requires-clause-d : goal.add_pieces-requires-clause-d
add_pieces-requires-clause-d c = subst (λ row. IsRowFor row c.args.tables.now.fourth (piece_number c.args.of.now 1 c.args.tables.now.size (c.args.at + 3 * c.args.tables.now.size))) (read c) c.requires.fourth

-- the row, and what it becomes
abbrev after : (c : goal.After-self-1) → RowValue → RowValue
after c row =
    row_with_four row (combination_at c.args.tables.now.first (piece_number c.args.of.now 1 c.args.tables.now.size c.args.at)) (combination_at c.args.tables.now.second (piece_number c.args.of.now 1 c.args.tables.now.size (c.args.at + c.args.tables.now.size)))
    (combination_at c.args.tables.now.third (piece_number c.args.of.now 1 c.args.tables.now.size (c.args.at + 2 * c.args.tables.now.size))) (combination_at c.args.tables.now.fourth (piece_number c.args.of.now 1 c.args.tables.now.size (c.args.at + 3 * c.args.tables.now.size)))

pub invariant_of-self : goal.invariant_of-self
invariant_of-self c =
    MakeMatrix-write _ _ c.self.inside.rows.items c.args.index c.add_pieces.new.self c.self.invariant
    (ap (λ (r : RowValue). r.order) c.add_pieces.ensures.sum ∙ order-at _ _ c.self.inside.rows.items c.args.index c.index_mut.result.now c.self.invariant (within c) c.index_mut.ensures.value)
    (c.add_pieces.ensures.as_long ∙ length-at _ _ c.self.inside.rows.items c.args.index c.index_mut.result.now c.self.invariant (within c) c.index_mut.ensures.value)
    c.add_pieces.ensures.well_formed

pub returns-clause-sum : goal.returns-clause-sum
returns-clause-sum c =
    matrix_from_written_rows _ _ c.self.inside.rows.items c.args.index c.index_mut.result.now c.add_pieces.new.self (after c) c.self.invariant (within c)
    c.index_mut.ensures.value c.add_pieces.ensures.sum
    ∙ ap (λ (m : MatrixValue). record m { rows = set m.rows c.args.index (after c (row_of m c.args.index)).entries }) c.self.view_is

pub returns-clause-well_formed : goal.returns-clause-well_formed
returns-clause-well_formed c = (invariant_of-self c).matrix
