use Rattle.std.proofs.Common.{refl, sym, subst, arith}
use Rattle.std.specs.Vec.Iter.{into_iter_items}
use Rattle.std.proofs.lemmas.List.{nil_from_length}
use Rattle.axe_matrix.specs.RowLists.{AreRowsOf}
use Rattle.axe_action.specs.Blocks.{FitsBlocks, AreBlocksWith}
use Rattle.axe_echelon.proofs.RowSpaces.{rows_more, next_field, next_long}
use Rattle.axe_action.proofs.BlockLaws.{blocks_none, so_far_more, row_fits, blocks_are, row_below, row_at_next}
use Rattle.axe_action.proofs.blocks.blocks_of.Goals as goal

pub loop-row-init : goal.loop-row-init
loop-row-init c = record {
  rows = subst (AreRowsOf c.args.generator) (sym c.into_iter-row-iterator.ensures.into_iter_gives.0) c.into_rows-row-items.ensures.rows;
  so_far = blocks_none c.args.generator c.args.pivots.now c.args.columns.now _ _ _ c.in_ok-blocks.blocks c.field.ensures.order refl refl
      c.in_ok-blocks.ensures.at_pivots c.in_ok-blocks.ensures.across c.in_ok-blocks.ensures.at_columns c.in_ok-blocks.ensures.well_formed;
}

pub take-requires : goal.take-requires
take-requires c =
    let left = into_iter_items c.loop-row.row-iterator in
    let next = into_iter_items c.next.new.self in
    coe 1 0 (i. FitsBlocks (c.new-chosen_pivots.ensures i) (c.new-chosen_columns.ensures i) c.loop-row.blocks c.in-Some.row)
    (row_fits c.args.generator c.args.pivots.now c.args.columns.now c.requires.complementary c.requires.square c.loop-row.yielded c.in-Some.row
    c.loop-row.blocks c.loop-row.invariant.so_far
    (row_below c.args.generator c.loop-row.yielded left next c.in-Some.row c.loop-row.invariant.rows c.in-Some.ensures.steps.0)
    (row_at_next c.args.generator c.loop-row.yielded left next c.in-Some.row c.loop-row.invariant.rows c.in-Some.ensures.steps.0)
    (next_field c.args.generator c.loop-row.yielded left next c.in-Some.row c.loop-row.invariant.rows c.in-Some.ensures.steps.0)
    (next_long c.args.generator c.loop-row.yielded left next c.in-Some.row c.loop-row.invariant.rows c.in-Some.ensures.steps.0)
    c.requires.pivots_fit c.requires.columns_fit)

pub loop-row-preserved : goal.loop-row-preserved
loop-row-preserved c =
    let left = into_iter_items c.loop-row.row-iterator in
    let next = into_iter_items c.next.new.self in
    record {
      rows = rows_more c.args.generator c.loop-row.yielded left next c.in-Some.row c.loop-row.invariant.rows c.in-Some.ensures.steps.0;
      so_far = so_far_more c.args.generator c.args.pivots.now c.args.columns.now c.requires.complementary c.requires.square c.loop-row.yielded c.in-Some.row
          c.loop-row.blocks c.loop-row.invariant.so_far
          (row_below c.args.generator c.loop-row.yielded left next c.in-Some.row c.loop-row.invariant.rows c.in-Some.ensures.steps.0)
          (row_at_next c.args.generator c.loop-row.yielded left next c.in-Some.row c.loop-row.invariant.rows c.in-Some.ensures.steps.0)
          c.take.new.self
          (coe 0 1 (i. AreBlocksWith (c.new-chosen_pivots.ensures i) (c.new-chosen_columns.ensures i) c.in-Some.row.entries c.loop-row.blocks c.take.new.self) c.in_ok-take.ensures);
    }

pub returns-clause-at_pivots : goal.returns-clause-at_pivots
returns-clause-at_pivots c =
    (blocks_are c.args.generator c.args.pivots.now c.args.columns.now c.requires.complementary c.requires.square c.loop-row.yielded
    (into_iter_items c.loop-row.row-iterator) c.loop-row.invariant.rows
    (nil_from_length (into_iter_items c.loop-row.row-iterator) (omega (arith, c.in-None.ensures.steps.0, c.loop-row.row-iterator.rest.ok)))
    c.loop-row.blocks c.loop-row.invariant.so_far).0

pub returns-clause-across : goal.returns-clause-across
returns-clause-across c =
    (blocks_are c.args.generator c.args.pivots.now c.args.columns.now c.requires.complementary c.requires.square c.loop-row.yielded
    (into_iter_items c.loop-row.row-iterator) c.loop-row.invariant.rows
    (nil_from_length (into_iter_items c.loop-row.row-iterator) (omega (arith, c.in-None.ensures.steps.0, c.loop-row.row-iterator.rest.ok)))
    c.loop-row.blocks c.loop-row.invariant.so_far).1

pub returns-clause-at_columns : goal.returns-clause-at_columns
returns-clause-at_columns c =
    (blocks_are c.args.generator c.args.pivots.now c.args.columns.now c.requires.complementary c.requires.square c.loop-row.yielded
    (into_iter_items c.loop-row.row-iterator) c.loop-row.invariant.rows
    (nil_from_length (into_iter_items c.loop-row.row-iterator) (omega (arith, c.in-None.ensures.steps.0, c.loop-row.row-iterator.rest.ok)))
    c.loop-row.blocks c.loop-row.invariant.so_far).2
