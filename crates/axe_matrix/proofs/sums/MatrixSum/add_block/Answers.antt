use Rattle.std.proofs.Common.{◌≡◌, ◌+◌, ◌*◌, ◌<◌, ◌≤◌, ℕ, List, length, get_or, refl, ap, ◌∙◌, arith}
use Rattle.axe_field.proofs.Orders.{one_is_element}
use Rattle.axe_row.specs.Combinations.{CombosValue, IsRowFor, piece_number}
use Rattle.axe_matrix.specs.Matrices.{MatrixValue, IsMatrix, row_of}
use Rattle.axe_matrix.specs.PieceTables.{IsTableFor}
use Rattle.axe_matrix.proofs.BlockRows.{row_may_be_added, row_of_block}
use Rattle.axe_matrix.proofs.MatrixLaws.{length-row_of}
use Rattle.axe_matrix.proofs.PieceLaws.{numbers-read}
use Rattle.axe_matrix.proofs.ProductRows.{rows_with_terms-listed}
use Rattle.axe_matrix.proofs.RewrittenRows.{IsRewrittenBelow, IsRewrittenBelow-none, IsRewrittenBelow-more, IsRewrittenBelow-all}
use Rattle.axe_matrix.proofs.sums.MatrixSum.add_block.Goals as goal

pub loop-index-init : goal.loop-index-init
loop-index-init c = IsRewrittenBelow-none _ _ c.requires.well_formed

pub index-requires : goal.index-requires
index-requires c =
    let count : length c.numbers.inside.rows.items ≡ length c.args.a.now.rows =
    ap (λ (x : List (List ℕ)). length x) c.numbers.view_is ∙ c.requires.numbers.count in
    omega (arith, c.loop-index-test.true, c.rows-index-end.ensures.count, count, c.numbers.inside.rows.ok.0)

pub add_combinations-requires-clause-index : goal.add_combinations-requires-clause-index
add_combinations-requires-clause-index c =
    omega (
      arith,
      c.loop-index-test.true,
      c.rows-index-end.ensures.count,
      c.requires.rows_fit,
      c.loop-index.invariant.count,
    )

-- a table has the row of the number of a piece, and it may be added to the row at the index
may_be_added : (d a m : MatrixValue) (i size from number : ℕ) (table : CombosValue) (f : ℕ → List ℕ) → IsMatrix a →
    a.order ≡ d.order →
    length a.rows ≡ length d.rows → i < length a.rows → IsTableFor d.order d.cols size table →
    IsRewrittenBelow i d f m →
    number ≡ piece_number (row_of a i) 1 size from → IsRowFor (row_of m i) table number
may_be_added d a m i size from number table f ha a_field rows_fit below is_table h is =
    row_may_be_added d a i 1 size from (row_of a i) (row_of m i) table number ha a_field below (one_is_element d.order)
    refl is_table h.field (length-row_of m i h.well_formed (omega (arith, below, rows_fit, h.count)) ∙ h.columns) is

pub add_combinations-requires-clause-first : goal.add_combinations-requires-clause-first
add_combinations-requires-clause-first c =
    let below : c.loop-index.index < length c.args.a.now.rows =
    omega (arith, c.loop-index-test.true, c.rows-index-end.ensures.count) in
    let read = numbers-read c.args.a.now c.args.tables.now.size c.args.at c.loop-index.index c.args.numbers.now
    c.numbers.inside.rows.items
    c.index.result.now c.requires.numbers c.numbers.view_is below c.index.ensures in
    may_be_added c.args.self.now c.args.a.now c.loop-index.self c.loop-index.index c.args.tables.now.size c.args.at _
    c.args.tables.now.first _
    c.rows-index-end.ensures.well_formed c.requires.a_field c.requires.rows_fit below c.requires.tables.first
    c.loop-index.invariant
    (ap (λ (ns : List ℕ). get_or ns 0 0) read)

pub add_combinations-requires-clause-second : goal.add_combinations-requires-clause-second
add_combinations-requires-clause-second c =
    let below : c.loop-index.index < length c.args.a.now.rows =
    omega (arith, c.loop-index-test.true, c.rows-index-end.ensures.count) in
    let read = numbers-read c.args.a.now c.args.tables.now.size c.args.at c.loop-index.index c.args.numbers.now
    c.numbers.inside.rows.items
    c.index.result.now c.requires.numbers c.numbers.view_is below c.index.ensures in
    may_be_added c.args.self.now c.args.a.now c.loop-index.self c.loop-index.index c.args.tables.now.size
    (c.args.at + c.args.tables.now.size) _ c.args.tables.now.second _
    c.rows-index-end.ensures.well_formed c.requires.a_field c.requires.rows_fit below c.requires.tables.second
    c.loop-index.invariant
    (ap (λ (ns : List ℕ). get_or ns 1 0) read)

pub add_combinations-requires-clause-third : goal.add_combinations-requires-clause-third
add_combinations-requires-clause-third c =
    let below : c.loop-index.index < length c.args.a.now.rows =
    omega (arith, c.loop-index-test.true, c.rows-index-end.ensures.count) in
    let read = numbers-read c.args.a.now c.args.tables.now.size c.args.at c.loop-index.index c.args.numbers.now
    c.numbers.inside.rows.items
    c.index.result.now c.requires.numbers c.numbers.view_is below c.index.ensures in
    may_be_added c.args.self.now c.args.a.now c.loop-index.self c.loop-index.index c.args.tables.now.size
    (c.args.at + 2 * c.args.tables.now.size) _ c.args.tables.now.third _
    c.rows-index-end.ensures.well_formed c.requires.a_field c.requires.rows_fit below c.requires.tables.third
    c.loop-index.invariant
    (ap (λ (ns : List ℕ). get_or ns 2 0) read)

pub add_combinations-requires-clause-fourth : goal.add_combinations-requires-clause-fourth
add_combinations-requires-clause-fourth c =
    let below : c.loop-index.index < length c.args.a.now.rows =
    omega (arith, c.loop-index-test.true, c.rows-index-end.ensures.count) in
    let read = numbers-read c.args.a.now c.args.tables.now.size c.args.at c.loop-index.index c.args.numbers.now
    c.numbers.inside.rows.items
    c.index.result.now c.requires.numbers c.numbers.view_is below c.index.ensures in
    may_be_added c.args.self.now c.args.a.now c.loop-index.self c.loop-index.index c.args.tables.now.size
    (c.args.at + 3 * c.args.tables.now.size) _ c.args.tables.now.fourth _
    c.rows-index-end.ensures.well_formed c.requires.a_field c.requires.rows_fit below c.requires.tables.fourth
    c.loop-index.invariant
    (ap (λ (ns : List ℕ). get_or ns 3 0) read)

pub loop-index-preserved : goal.loop-index-preserved
loop-index-preserved c =
    let invariant = c.loop-index.invariant in
    let below : c.loop-index.index < length c.args.a.now.rows =
    omega (arith, c.loop-index-test.true, c.rows-index-end.ensures.count) in
    let within : c.loop-index.index < length c.args.self.now.rows = omega (arith, below, c.requires.rows_fit) in
    let read = numbers-read c.args.a.now c.args.tables.now.size c.args.at c.loop-index.index c.args.numbers.now
    c.numbers.inside.rows.items
    c.index.result.now c.requires.numbers c.numbers.view_is below c.index.ensures in
    let row = row_of_block c.args.self.now c.args.a.now c.args.b.now c.loop-index.self c.loop-index.index 1 c.args.at c.args.tables.now
    c.index.result.now (row_of c.args.a.now c.loop-index.index) c.requires.well_formed
    c.rows-index-end.ensures.well_formed
    c.rows.ensures.well_formed c.requires.a_field c.requires.b_field within below c.requires.inner_fit
    (one_is_element c.args.self.now.order)
    c.requires.tables c.requires.combine refl read invariant.field (invariant.kept c.loop-index.index (omega arith)) in
    IsRewrittenBelow-more _ _ _ _ _ _ invariant within row c.add_combinations.ensures.sum
    c.add_combinations.ensures.well_formed

pub returns-clause-sum : goal.returns-clause-sum
returns-clause-sum c =
    let all : length c.args.self.now.rows ≤ c.loop-index.index = omega (arith, c.rows-index-end.ensures.count, c.loop-index-test.false, c.requires.rows_fit) in
    IsRewrittenBelow-all _ _ _ _ c.loop-index.invariant all ∙ rows_with_terms-listed c.args.self.now 1 c.args.a.now c.args.b.now c.args.at (4 * c.args.tables.now.size)

pub returns-clause-well_formed : goal.returns-clause-well_formed
returns-clause-well_formed c = c.loop-index.invariant.well_formed
