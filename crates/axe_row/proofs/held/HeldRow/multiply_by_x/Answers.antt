use Rattle.std.proofs.Common.{◌≡◌, ◌∙◌, ◌<◌, length, ap, sym, subst, rules, arith}
use Rattle.axe_field.specs.Order.{prime_of}
use Rattle.axe_row.specs.Operations.{multiple_row}
use Rattle.axe_row.specs.Rows.{RowValue, IsRow}
use Rattle.axe_row.proofs.HeldLaws.{block_of_row, characteristic_of_blocks, block_of_multiple, blocks_hold, held_row, length_of_blocks, row_of_blocks, multiple_is_row, x_is_element, zeros_at}
use Rattle.axe_row.proofs.OperationLaws.{length-multiple}
use Rattle.axe_row.proofs.held.HeldRow.multiply_by_x.Goals as goal

pub invariant_of-self : goal.invariant_of-self
invariant_of-self g c =
    let all : length c.self.inside.blocks ≡ g.row.W = search rules in
    let after : length c.add_multiples.new.blocks ≡ g.row.W = c.add_multiples.ensures.as_many in
    let long : length c.args.self.now.entries ≡ c.self.inside.len = length_of_blocks _ _ _ _ c.self.view_is in
    let characteristic = characteristic_of_blocks _ _ _ c.args.self.now c.self.invariant c.self.view_is in
    let x = x_is_element c.args.self.now.order c.requires.not_prime in
    let row = row_of_blocks _ _ _ c.args.self.now c.self.invariant c.self.view_is in
    blocks_hold (multiple_row (prime_of c.args.self.now.order) c.args.self.now) c.self.inside.field c.self.inside.len c.add_multiples.new.blocks
    (ap (λ (r : RowValue). r.order) c.self.view_is) (length-multiple _ _ _ ∙ long) (omega (arith, all, after, c.self.invariant.count))
    (λ k inside.
    let low : k < g.row.W = omega (arith, inside, after) in
    block_of_multiple g.row.Q c.prime_of_size.result (prime_of c.args.self.now.order) k c.args.self.now _ _ _ c.requires.order characteristic x row (zeros_at c.args.self.now.order g.row.W k c.zeros-blocks.result (c.zeros-blocks.ensures c.args.self.now.order) low)
    (block_of_row _ _ c.self.inside.blocks c.args.self.now c.self.invariant c.self.view_is k) (c.prime_of_size.ensures c.args.self.now.order c.requires.order characteristic)
    (c.add_multiples.ensures.added k (omega arith) low))
    characteristic (multiple_is_row c.args.self.now (prime_of c.args.self.now.order) x row)

pub returns-clause-multiple : goal.returns-clause-multiple
returns-clause-multiple g c =
    let all : length c.self.inside.blocks ≡ g.row.W = search rules in
    let after : length c.add_multiples.new.blocks ≡ g.row.W = c.add_multiples.ensures.as_many in
    let long : length c.args.self.now.entries ≡ c.self.inside.len = length_of_blocks _ _ _ _ c.self.view_is in
    let characteristic = characteristic_of_blocks _ _ _ c.args.self.now c.self.invariant c.self.view_is in
    let x = x_is_element c.args.self.now.order c.requires.not_prime in
    let row = row_of_blocks _ _ _ c.args.self.now c.self.invariant c.self.view_is in
    held_row (multiple_row (prime_of c.args.self.now.order) c.args.self.now) c.self.inside.field c.self.inside.len c.add_multiples.new.blocks
    (ap (λ (r : RowValue). r.order) c.self.view_is) (length-multiple _ _ _ ∙ long) (omega (arith, all, after, c.self.invariant.count))
    (λ k inside.
    let low : k < g.row.W = omega (arith, inside, after) in
    block_of_multiple g.row.Q c.prime_of_size.result (prime_of c.args.self.now.order) k c.args.self.now _ _ _ c.requires.order characteristic x row (zeros_at c.args.self.now.order g.row.W k c.zeros-blocks.result (c.zeros-blocks.ensures c.args.self.now.order) low)
    (block_of_row _ _ c.self.inside.blocks c.args.self.now c.self.invariant c.self.view_is k) (c.prime_of_size.ensures c.args.self.now.order c.requires.order characteristic)
    (c.add_multiples.ensures.added k (omega arith) low))

pub returns-clause-as_long : goal.returns-clause-as_long
returns-clause-as_long g c = ap (λ (r : RowValue). length r.entries) (returns-clause-multiple g c) ∙ length-multiple _ _ _

pub returns-clause-well_formed : goal.returns-clause-well_formed
returns-clause-well_formed g c =
    subst IsRow (sym (returns-clause-multiple g c))
    (multiple_is_row c.args.self.now (prime_of c.args.self.now.order) (x_is_element c.args.self.now.order c.requires.not_prime) (row_of_blocks _ _ _ c.args.self.now c.self.invariant c.self.view_is))
