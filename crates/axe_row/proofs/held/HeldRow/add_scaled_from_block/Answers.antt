use Rattle.std.proofs.Common.{◌≡◌, ◌∙◌, ◌<◌, ◌≤◌, length, ap, sym, subst, rules, arith, inl, inr}
use Rattle.std.proofs.lemmas.Bool.{cases_lt}
use Rattle.axe_field.specs.Order.{order_number, prime_of}
use Rattle.axe_row.specs.Operations.{row_with_multiple}
use Rattle.axe_row.specs.Rows.{RowValue, IsRow}
use Rattle.axe_row.proofs.HeldLaws.{block_of_row, characteristic_of_blocks, block_of_sum, blocks_hold, blocks_with_block, block_stays, held_row, length_of_blocks, row_of_blocks, sum_is_row}
use Rattle.axe_row.proofs.OperationLaws.{length-sum_with_multiple}
use Rattle.axe_row.proofs.held.HeldRow.add_scaled_from_block.Goals as goal

pub bit_blocks-others-requires : goal.bit_blocks-others-requires
bit_blocks-others-requires g c =
    let all : length c.self.inside.blocks ≡ g.row.W = search rules in
    let characteristic = characteristic_of_blocks _ _ _ c.args.self.now c.self.invariant c.self.view_is in
    let long = length_of_blocks _ _ _ _ c.self.view_is in (
      omega (arith, all, c.self.invariant.count),
      (ap order_number c.requires.field ∙ c.requires.order, (subst (λ o. prime_of o ≤ 3) (sym c.requires.field) characteristic, omega (arith, all, long, c.requires.fits, c.self.invariant.count))),
    )

pub invariant_of-self : goal.invariant_of-self
invariant_of-self g c =
    let all : length c.self.inside.blocks ≡ g.row.W = search rules in
    let others : length c.bit_blocks-others.result ≡ g.row.W = search rules in
    let after : length c.add_multiples.new.blocks ≡ g.row.W = c.add_multiples.ensures.as_many in
    let long : length c.args.self.now.entries ≡ c.self.inside.len = length_of_blocks _ _ _ _ c.self.view_is in
    let characteristic = characteristic_of_blocks _ _ _ c.args.self.now c.self.invariant c.self.view_is in
    let row = row_of_blocks _ _ _ c.args.self.now c.self.invariant c.self.view_is in
    blocks_hold (row_with_multiple c.args.self.now c.args.scalar c.args.other.now) c.self.inside.field c.self.inside.len c.add_multiples.new.blocks
    (ap (λ (r : RowValue). r.order) c.self.view_is) (length-sum_with_multiple _ _ _ _ ∙ long) (omega (arith, all, after, c.self.invariant.count))
    (λ k inside.
    let low : k < g.row.W = omega (arith, inside, after) in
    elim (cases_lt k c.args.at) [
      | inl before ↦
          block_stays c.args.self.now c.args.other.now c.args.scalar k c.args.at _ _ c.requires.element row c.requires.zeros before
          (c.add_multiples.ensures.before k before) (block_of_row _ _ c.self.inside.blocks c.args.self.now c.self.invariant c.self.view_is k)
      | inr from ↦
          block_of_sum g.row.Q c.args.scalar k c.args.self.now c.args.other.now _ _ _ c.requires.order characteristic c.requires.element c.requires.field c.requires.fits row
          c.bit_blocks-others.ensures.well_formed (block_of_row _ _ c.self.inside.blocks c.args.self.now c.self.invariant c.self.view_is k)
          (blocks_with_block c.args.other.now.order g.row.W c.args.at c.bit_blocks-others.result c.args.block.now c.args.other.now.entries others c.requires.word
          c.bit_blocks-others.ensures.blocks c.requires.block k low) (c.add_multiples.ensures.added k from low)
    ])
    characteristic (sum_is_row c.args.self.now c.args.other.now c.args.scalar c.requires.element c.requires.field row c.bit_blocks-others.ensures.well_formed)

pub returns-clause-sum : goal.returns-clause-sum
returns-clause-sum g c =
    let all : length c.self.inside.blocks ≡ g.row.W = search rules in
    let others : length c.bit_blocks-others.result ≡ g.row.W = search rules in
    let after : length c.add_multiples.new.blocks ≡ g.row.W = c.add_multiples.ensures.as_many in
    let long : length c.args.self.now.entries ≡ c.self.inside.len = length_of_blocks _ _ _ _ c.self.view_is in
    let characteristic = characteristic_of_blocks _ _ _ c.args.self.now c.self.invariant c.self.view_is in
    let row = row_of_blocks _ _ _ c.args.self.now c.self.invariant c.self.view_is in
    held_row (row_with_multiple c.args.self.now c.args.scalar c.args.other.now) c.self.inside.field c.self.inside.len c.add_multiples.new.blocks
    (ap (λ (r : RowValue). r.order) c.self.view_is) (length-sum_with_multiple _ _ _ _ ∙ long) (omega (arith, all, after, c.self.invariant.count))
    (λ k inside.
    let low : k < g.row.W = omega (arith, inside, after) in
    elim (cases_lt k c.args.at) [
      | inl before ↦
          block_stays c.args.self.now c.args.other.now c.args.scalar k c.args.at _ _ c.requires.element row c.requires.zeros before
          (c.add_multiples.ensures.before k before) (block_of_row _ _ c.self.inside.blocks c.args.self.now c.self.invariant c.self.view_is k)
      | inr from ↦
          block_of_sum g.row.Q c.args.scalar k c.args.self.now c.args.other.now _ _ _ c.requires.order characteristic c.requires.element c.requires.field c.requires.fits row
          c.bit_blocks-others.ensures.well_formed (block_of_row _ _ c.self.inside.blocks c.args.self.now c.self.invariant c.self.view_is k)
          (blocks_with_block c.args.other.now.order g.row.W c.args.at c.bit_blocks-others.result c.args.block.now c.args.other.now.entries others c.requires.word
          c.bit_blocks-others.ensures.blocks c.requires.block k low) (c.add_multiples.ensures.added k from low)
    ])

pub returns-clause-as_long : goal.returns-clause-as_long
returns-clause-as_long g c = ap (λ (r : RowValue). length r.entries) (returns-clause-sum g c) ∙ length-sum_with_multiple _ _ _ _

pub returns-clause-well_formed : goal.returns-clause-well_formed
returns-clause-well_formed g c =
    subst IsRow (sym (returns-clause-sum g c))
    (sum_is_row c.args.self.now c.args.other.now c.args.scalar c.requires.element c.requires.field (row_of_blocks _ _ _ c.args.self.now c.self.invariant c.self.view_is)
    c.bit_blocks-others.ensures.well_formed)
