use Rattle.std.proofs.Common.{rules, ◌≤◌, length, subst, arith}
use Rattle.std.specs.List.{All}
use native.Mathlib.Nat.{mul-le-mul_left}
use Rattle.axe_field.specs.Order.{Order, IsElement}
use Rattle.axe_field.proofs.Orders.{order_number-at_least}
use Rattle.axe_row.proofs.CombinationLaws.{AreMultiplesBelow-none, AreMultiplesBelow-more}
use Rattle.axe_row.proofs.combos.Combos.add_multiples_of.Goals as goal

pub loop-scalar-init : goal.loop-scalar-init
loop-scalar-init c =
    let room : c.args.filled ≤ length c.args.self.now.rows =
    omega (arith, c.requires.room, mul-le-mul_left c.args.filled (order_number-at_least c.args.self.now.order)) in
    AreMultiplesBelow-none _ _ _ c.requires.table room
    (subst (λ (o : Order). All (IsElement o) c.args.row.now.entries) c.requires.field c.field.ensures.well_formed.elements)

pub loop-scalar-preserved : goal.loop-scalar-preserved
loop-scalar-preserved c =
    AreMultiplesBelow-more _ _ _ _ _ _ c.loop-scalar.invariant c.loop-scalar.auto.scalar c.add_multiple_of.ensures.kept c.add_multiple_of.ensures.sums
    c.add_multiple_of.ensures.kind c.add_multiple_of.ensures.well_formed

pub add_multiple_of-requires-clause-nonzero : goal.add_multiple_of-requires-clause-nonzero
add_multiple_of-requires-clause-nonzero c = search rules

pub add_multiple_of-requires-clause-element : goal.add_multiple_of-requires-clause-element
add_multiple_of-requires-clause-element c = search rules

pub add_multiple_of-requires-clause-room : goal.add_multiple_of-requires-clause-room
add_multiple_of-requires-clause-room c = search rules

pub returns-clause-kept : goal.returns-clause-kept
returns-clause-kept c = search rules

pub returns-clause-sums : goal.returns-clause-sums
returns-clause-sums c = search rules

pub returns-clause-kind : goal.returns-clause-kind
returns-clause-kind c = search rules

pub returns-clause-well_formed : goal.returns-clause-well_formed
returns-clause-well_formed c = search rules

pub returns-clause-row : goal.returns-clause-row
returns-clause-row c = search rules
