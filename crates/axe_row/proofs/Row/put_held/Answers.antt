use Rattle.std.proofs.Common.{sym, subst, ◌≤◌, arith}
use Rattle.axe_field.specs.Order.{prime_of}
use Rattle.axe_row.specs.Rows.{IsRow}
use Rattle.axe_row.proofs.HeldLaws.{block_of_row, characteristic_of_blocks, length_of_blocks, row_of_blocks}
use Rattle.axe_row.proofs.HeldWrites.{block_elements, block_low, IsHeldBelow-more, IsHeldBelow-all}
use Rattle.axe_row.proofs.Row.put_held.Goals as goal

pub put_block-requires-clause-characteristic : goal.put_block-requires-clause-characteristic
put_block-requires-clause-characteristic g c =
    subst (λ o. prime_of o ≤ 3) (sym c.loop-at.invariant.order) (characteristic_of_blocks _ _ _ c.args.held.now c.held.invariant c.held.view_is)

pub put_block-requires-clause-elements : goal.put_block-requires-clause-elements
put_block-requires-clause-elements g c =
    block_elements c.loop-at.self.order c.args.held.now c.loop-at.at _ c.loop-at.invariant.order
    (row_of_blocks _ _ _ c.args.held.now c.held.invariant c.held.view_is)
    (block_of_row _ _ c.held.inside.blocks c.args.held.now c.held.invariant c.held.view_is c.loop-at.at)

pub put_block-requires-clause-low : goal.put_block-requires-clause-low
put_block-requires-clause-low g c =
    block_low c.loop-at.self.order c.args.held.now c.loop-at.at _ c.loop-at.invariant.order
    (block_of_row _ _ c.held.inside.blocks c.args.held.now c.held.invariant c.held.view_is c.loop-at.at)

pub loop-at-preserved : goal.loop-at-preserved
loop-at-preserved g c =
    IsHeldBelow-more c.loop-at.at c.args.held.now c.loop-at.self c.put_block.new.self _ c.loop-at.invariant
    (block_of_row _ _ c.held.inside.blocks c.args.held.now c.held.invariant c.held.view_is c.loop-at.at) c.put_block.ensures.written

pub returns-clause-value : goal.returns-clause-value
returns-clause-value g c =
    IsHeldBelow-all c.loop-at.at c.args.held.now c.loop-at.self c.loop-at.invariant
    (omega (arith, c.loop-at-test.false, c.held.invariant.count, length_of_blocks _ _ _ _ c.held.view_is))

pub returns-clause-well_formed : goal.returns-clause-well_formed
returns-clause-well_formed g c = subst IsRow (sym (returns-clause-value g c)) (row_of_blocks _ _ _ c.args.held.now c.held.invariant c.held.view_is)
