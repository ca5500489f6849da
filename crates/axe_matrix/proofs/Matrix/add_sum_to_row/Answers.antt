use Rattle.std.proofs.Common.{◌≡◌, ◌<◌, ℕ, List, length, get_or, set, sym, ap, ◌∙◌, subst, arith}
use Rattle.std.proofs.lemmas.List.{set-get_or}
use Rattle.axe_field.specs.Order.{Order}
use Rattle.axe_row.specs.Operations.{row_with_multiple}
use Rattle.axe_row.specs.Rows.{RowValue}
use Rattle.axe_row.specs.Sums.{placed_row}
use Rattle.axe_matrix.specs.Matrices.{MatrixValue, row_of}
use Rattle.axe_matrix.specs.RowLists.{matrix_from_rows, MakeMatrix}
use Rattle.axe_matrix.proofs.RowListLaws.{length-at}
use Rattle.axe_matrix.proofs.RowWrites.{below_rows, order-at, row-read, MakeMatrix-write, matrix_from_written_rows}
use Rattle.axe_matrix.proofs.Matrix.add_sum_to_row.Goals as goal

pub index_mut-requires : goal.index_mut-requires
index_mut-requires c =
    let below = below_rows _ _ _ c.sums.inside.rows.items c.args.index c.sums.view_is
    (omega (arith, c.requires.index, c.requires.rows_fit)) in
    omega (arith, below, c.sums.inside.rows.ok.0)

pub index_mut-requires-2 : goal.index_mut-requires-2
index_mut-requires-2 c =
    let below = below_rows _ _ _ c.self.inside.rows.items c.args.index c.self.view_is c.requires.index in
    omega (arith, below, c.self.inside.rows.ok.0)

pub add_to-requires-clause-field : goal.add_to-requires-clause-field
add_to-requires-clause-field c =
    let below = below_rows _ _ _ c.self.inside.rows.items c.args.index c.self.view_is c.requires.index in
    let within = below_rows _ _ _ c.sums.inside.rows.items c.args.index c.sums.view_is
    (omega (arith, c.requires.index, c.requires.rows_fit)) in
    order-at _ _ c.sums.inside.rows.items c.args.index c.index_mut.result.now c.sums.invariant within
    c.index_mut.ensures.value
    ∙ ap (λ (m : MatrixValue). m.order) c.sums.view_is
    ∙ c.requires.field
    ∙ ap (λ (m : MatrixValue). m.order) (sym c.self.view_is)
    ∙ sym (order-at _ _ c.self.inside.rows.items c.args.index c.index_mut-2.result.now c.self.invariant below
    c.index_mut-2.ensures.value)

-- a row has an entry for each column of the matrix
row-long : (m : MatrixValue) (o : Order) (n : ℕ) (rows : List RowValue) (i : ℕ) (row : RowValue) →
    matrix_from_rows o n rows ≡ m →
    MakeMatrix o n rows → i < length rows → row ≡ get_or rows i row → length row.entries ≡ m.cols
row-long m o n rows i row is h below e = length-at o n rows i row h below e ∙ ap (λ (x : MatrixValue). x.cols) is

pub add_to-requires-clause-within : goal.add_to-requires-clause-within
add_to-requires-clause-within c =
    let below = below_rows _ _ _ c.self.inside.rows.items c.args.index c.self.view_is c.requires.index in
    let within = below_rows _ _ _ c.sums.inside.rows.items c.args.index c.sums.view_is
    (omega (arith, c.requires.index, c.requires.rows_fit)) in
    let long : length c.index_mut-2.result.now.entries ≡ c.args.self.now.cols =
    row-long _ _ _ c.self.inside.rows.items c.args.index c.index_mut-2.result.now c.self.view_is c.self.invariant below
    c.index_mut-2.ensures.value in
    let sum-long : length c.index_mut.result.now.entries ≡ c.args.sums.now.cols =
    row-long _ _ _ c.sums.inside.rows.items c.args.index c.index_mut.result.now c.sums.view_is c.sums.invariant within
    c.index_mut.ensures.value in
    omega (arith, long, sum-long, c.requires.columns_within)

-- a row of a list is written as it was
kept_rows : (rows : List RowValue) (i : ℕ) (old new : RowValue) → old ≡ get_or rows i old → new ≡ old →
    set rows i new ≡ rows
kept_rows rows i old new is kept = ap (set rows i) (kept ∙ is) ∙ set-get_or rows i old

pub invariant_of-sums : goal.invariant_of-sums
invariant_of-sums c =
    subst (MakeMatrix c.sums.inside.field c.sums.inside.cols)
    (sym (kept_rows c.sums.inside.rows.items c.args.index c.index_mut.result.now c.add_to.new.self
    c.index_mut.ensures.value c.add_to.ensures.kept)) c.sums.invariant

pub invariant_of-self : goal.invariant_of-self
invariant_of-self c =
    let below = below_rows _ _ _ c.self.inside.rows.items c.args.index c.self.view_is c.requires.index in
    MakeMatrix-write _ _ c.self.inside.rows.items c.args.index c.add_to.new.row c.self.invariant
    (ap (λ (r : RowValue). r.order) c.add_to.ensures.sum
    ∙ order-at _ _ c.self.inside.rows.items c.args.index c.index_mut-2.result.now c.self.invariant below
    c.index_mut-2.ensures.value)
    (c.add_to.ensures.as_long
    ∙ length-at _ _ c.self.inside.rows.items c.args.index c.index_mut-2.result.now c.self.invariant below
    c.index_mut-2.ensures.value)
    c.add_to.ensures.well_formed

pub returns-clause-sum : goal.returns-clause-sum
returns-clause-sum c =
    let below = below_rows _ _ _ c.self.inside.rows.items c.args.index c.self.view_is c.requires.index in
    let within = below_rows _ _ _ c.sums.inside.rows.items c.args.index c.sums.view_is
    (omega (arith, c.requires.index, c.requires.rows_fit)) in
    let sum = c.add_to.ensures.sum
    ∙ ap (λ n. row_with_multiple c.index_mut-2.result.now 1 (placed_row n c.args.start c.index_mut.result.now))
    (row-long _ _ _ c.self.inside.rows.items c.args.index c.index_mut-2.result.now c.self.view_is c.self.invariant below
    c.index_mut-2.ensures.value) in
    matrix_from_written_rows _ _ c.self.inside.rows.items c.args.index c.index_mut-2.result.now c.add_to.new.row
    (λ row. row_with_multiple row 1 (placed_row c.args.self.now.cols c.args.start c.index_mut.result.now))
    c.self.invariant below
    c.index_mut-2.ensures.value sum
    ∙ ap (λ (m : MatrixValue). record m {
      rows = set m.rows c.args.index
          (row_with_multiple (row_of m c.args.index) 1
          (placed_row c.args.self.now.cols c.args.start c.index_mut.result.now)).entries;
    }) c.self.view_is
    ∙ ap (λ (r : RowValue). record c.args.self.now {
      rows = set c.args.self.now.rows c.args.index
          (row_with_multiple (row_of c.args.self.now c.args.index) 1
          (placed_row c.args.self.now.cols c.args.start r)).entries;
    })
    (sym (row-read _ _ _ c.sums.inside.rows.items c.args.index c.index_mut.result.now c.sums.view_is c.sums.invariant
    within c.index_mut.ensures.value))

pub returns-clause-kept : goal.returns-clause-kept
returns-clause-kept c =
    ap (matrix_from_rows c.sums.inside.field c.sums.inside.cols)
    (kept_rows c.sums.inside.rows.items c.args.index c.index_mut.result.now c.add_to.new.self c.index_mut.ensures.value
    c.add_to.ensures.kept)
    ∙ c.sums.view_is

pub returns-clause-well_formed : goal.returns-clause-well_formed
returns-clause-well_formed c = (invariant_of-self c).matrix
