use Rattle.std.proofs.Common.{◌*◌, ◌<◌, ◌≤◌, length, refl, sym, ap, ◌∙◌, arith}
use Rattle.axe_field.proofs.Orders.{one_is_element}
use Rattle.axe_matrix.specs.Matrices.{MatrixValue}
use Rattle.axe_matrix.proofs.PieceLaws.{block-within, block-ends, block-numbers}
use Rattle.axe_matrix.proofs.ProductRows.{matrix_with_no_terms, matrix_with_more_terms, matrix_with_all_terms, tables_for, length-matrix_with_terms}
use Rattle.axe_matrix.proofs.sums.MatrixSum.add_blocks.Goals as goal

pub loop-at-init : goal.loop-at-init
loop-at-init c = record {
  so_far = matrix_with_no_terms c.args.self.now 1 c.args.a.now c.args.b.now 0 c.requires.well_formed (one_is_element c.args.self.now.order);
  count = refl;
  size = refl;
  place = omega arith;
  tables = c.requires.tables;
  well_formed = c.requires.well_formed;
}

pub fill-requires-clause-tables : goal.fill-requires-clause-tables
fill-requires-clause-tables c = tables_for _ _ _ _ _ (sym c.requires.b_field) (sym c.requires.columns_fit) c.loop-at.invariant.tables

pub add_block-requires-clause-a_field : goal.add_block-requires-clause-a_field
add_block-requires-clause-a_field c = c.requires.a_field ∙ ap (λ (m : MatrixValue). m.order) (sym c.loop-at.invariant.so_far)

pub add_block-requires-clause-b_field : goal.add_block-requires-clause-b_field
add_block-requires-clause-b_field c = c.requires.b_field ∙ ap (λ (m : MatrixValue). m.order) (sym c.loop-at.invariant.so_far)

pub add_block-requires-clause-rows_fit : goal.add_block-requires-clause-rows_fit
add_block-requires-clause-rows_fit c = c.requires.rows_fit ∙ sym c.loop-at.invariant.count

pub add_block-requires-clause-columns_fit : goal.add_block-requires-clause-columns_fit
add_block-requires-clause-columns_fit c = c.requires.columns_fit ∙ ap (λ (m : MatrixValue). m.cols) (sym c.loop-at.invariant.so_far)

pub add_block-requires-clause-tables : goal.add_block-requires-clause-tables
add_block-requires-clause-tables c =
    tables_for _ _ _ _ _ (add_block-requires-clause-b_field c) (add_block-requires-clause-columns_fit c) c.fill.ensures.tables

pub bounds-blocks-block : goal.bounds-blocks-block
bounds-blocks-block c =
    block-within c.args.a.now c.args.tables.now.size c.args.blocks.now c.loop-at.block c.loop-at.at c.requires.blocks
    c.loop-at.invariant.place
    (omega (arith, c.loop-at-test.true, c.rows-in-loop-at.ensures.count, c.requires.inner_fit))

pub add_block-requires-clause-numbers : goal.add_block-requires-clause-numbers
add_block-requires-clause-numbers c =
    let column : c.loop-at.at < c.args.a.now.cols =
    omega (arith, c.loop-at-test.true, c.rows-in-loop-at.ensures.count, c.requires.inner_fit) in
    block-numbers c.args.a.now c.args.tables.now.size c.fill.new.self.size c.args.blocks.now c.loop-at.block
    c.loop-at.at _ c.requires.blocks
    c.loop-at.invariant.place (sym (c.fill.ensures.size ∙ c.loop-at.invariant.size))
    (block-within c.args.a.now c.args.tables.now.size c.args.blocks.now c.loop-at.block c.loop-at.at c.requires.blocks
    c.loop-at.invariant.place column)
    c.index-blocks-block.is

pub loop-at-smaller : goal.loop-at-smaller
loop-at-smaller c = omega (arith, c.loop-at-test.true, c.rows-in-loop-at.ensures.count, c.requires.tables.some)

pub loop-at-preserved : goal.loop-at-preserved
loop-at-preserved c =
    let invariant = c.loop-at.invariant in
    let size = c.fill.ensures.size ∙ invariant.size in
    record {
      so_far =
          matrix_with_more_terms c.args.self.now 1 c.args.a.now c.args.b.now c.loop-at.at (4 * c.args.tables.now.size) c.loop-at.self c.add_block.new.self
          c.requires.well_formed c.rows.ensures.well_formed c.rows-in-loop-at.ensures.well_formed c.requires.a_field c.requires.b_field c.requires.rows_fit (one_is_element c.args.self.now.order)
          invariant.so_far (rw (← size) c.add_block.ensures.sum);
      count = ap (λ (m : MatrixValue). length m.rows) c.add_block.ensures.sum ∙ length-matrix_with_terms c.loop-at.self 1 c.args.a.now c.args.b.now c.loop-at.at (4 * c.fill.new.self.size) ∙ invariant.count;
      size = size;
      place = block-ends c.loop-at.block c.loop-at.at c.args.tables.now.size invariant.place;
      tables = tables_for _ _ _ _ _ c.requires.b_field c.requires.columns_fit c.fill.ensures.tables;
      well_formed = c.add_block.ensures.well_formed;
    }

pub returns-clause-sum : goal.returns-clause-sum
returns-clause-sum c =
    let all : length c.args.b.now.rows ≤ c.loop-at.at = rw (← c.rows-in-loop-at.ensures.count) c.loop-at-test.false in
    c.loop-at.invariant.so_far ∙ matrix_with_all_terms c.args.self.now 1 c.args.a.now c.args.b.now c.loop-at.at
    c.rows.ensures.well_formed c.rows-in-loop-at.ensures.well_formed c.requires.a_field c.requires.b_field c.requires.rows_fit all

pub returns-clause-well_formed : goal.returns-clause-well_formed
returns-clause-well_formed c = c.loop-at.invariant.well_formed

pub add_block-requires-clause-well_formed : goal.add_block-requires-clause-well_formed
add_block-requires-clause-well_formed c = c.loop-at.invariant.well_formed
