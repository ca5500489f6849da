use Rattle.std.proofs.Common.{◌≡◌, ◌<◌, ◌-◌, suc, length, ◌∙◌, arith}
use Rattle.axe_echelon.proofs.StepLaws.{over_of_row, element_of_below, step_at, steps_fit}
use Rattle.axe_echelon.proofs.SolvingLaws.{solved_from_end, solve_step, solve_step_none, solved_from_start}
use Rattle.axe_echelon.proofs.solve.Goals as goal

pub loop-index-init : goal.loop-index-init
loop-index-init c =
    solved_from_end _ _ _ _ c.requires.field (over_of_row _ _ _ c.requires.field c.field.ensures.well_formed c.requires.fits) (omega (arith, c.dim-index.ensures.count))

pub bounds-steps-index : goal.bounds-steps-index
bounds-steps-index c = omega (arith, c.loop-index-test.true, c.loop-index.auto.index, c.dim-index.ensures.count, c.requires.steps.count)

pub get-multiplier-requires : goal.get-multiplier-requires
get-multiplier-requires c =
    let fit = steps_fit _ _ c.requires.steps in
    omega (arith, fit, c.loop-index-test.true, c.loop-index.auto.index, c.dim-index.ensures.count, c.requires.steps.count, c.loop-index.invariant.over.length_is)

pub mul-coefficient-requires-clause-right : goal.mul-coefficient-requires-clause-right
mul-coefficient-requires-clause-right c =
    let below : c.loop-index.index - 1 < length c.args.steps.now =
    omega (arith, c.loop-index-test.true, c.loop-index.auto.index, c.dim-index.ensures.count, c.requires.steps.count) in
    let at = step_at _ _ (c.loop-index.index - 1) c.index-steps-index.result c.requires.steps below c.index-steps-index.is in
    element_of_below _ _ _ (c.field.ensures.order ∙ c.requires.field) at.scalar_below

pub loop-index-preserved-then-multiplier-ne0 : goal.loop-index-preserved-then-multiplier-ne0
loop-index-preserved-then-multiplier-ne0 c =
    let below : c.loop-index.index - 1 < length c.args.steps.now =
    omega (arith, c.loop-index-test.true, c.loop-index.auto.index, c.dim-index.ensures.count, c.requires.steps.count) in
    let left : c.loop-index.index ≡ suc (c.loop-index.index - 1) = omega (arith, c.loop-index-test.true) in
    solve_step c.args.space.now c.args.steps.now (c.loop-index.index - 1) c.index-steps-index.result c.requires.steps below c.index-steps-index.is
    c.loop-index.index c.args.multipliers.now c.loop-index.multipliers c.add_scaled.new.self c.set.new.self c.field.result.now c.get-multiplier.result
    c.mul-coefficient.result left c.loop-index.invariant (c.field.ensures.order ∙ c.requires.field) c.get-multiplier.ensures.entry c.mul-coefficient.ensures.value
    c.mul-coefficient.ensures.element c.add_scaled.ensures.sum c.add_scaled.ensures.as_long c.add_scaled.ensures.well_formed
    c.set.ensures.replaced c.set.ensures.well_formed

pub loop-index-preserved : goal.loop-index-preserved
loop-index-preserved c =
    let below : c.loop-index.index - 1 < length c.args.steps.now =
    omega (arith, c.loop-index-test.true, c.loop-index.auto.index, c.dim-index.ensures.count, c.requires.steps.count) in
    let left : c.loop-index.index ≡ suc (c.loop-index.index - 1) = omega (arith, c.loop-index-test.true) in
    solve_step_none c.args.space.now c.args.steps.now (c.loop-index.index - 1) c.index-steps-index.result c.requires.steps below c.index-steps-index.is
    c.loop-index.index c.args.multipliers.now c.loop-index.multipliers c.get-multiplier.result left c.loop-index.invariant
    c.get-multiplier.ensures.entry c.if-multiplier-ne0.false

pub returns : goal.returns
returns c =
    let none : c.loop-index.index ≡ 0 = omega (arith, c.loop-index-test.false) in
    solved_from_start _ _ c.loop-index.index _ _ none c.loop-index.invariant
