use Rattle.std.proofs.Common.{◌≡◌, ◌≢◌, length, refl, ap, sym, ◌∙◌, arith, ◌<◌, ◌≤◌, subst}
use Rattle.std.proofs.lemmas.Result.{IfOk-from_err}
use Rattle.axe_row.specs.declared.refusals.Refusal.TheVariants.{Memory}
use Rattle.axe_matrix.specs.Matrices.{MatrixValue, transposed_matrix}
use Rattle.axe_matrix.proofs.TransposeLaws.{transpose_refusal-none}
use Rattle.axe_echelon.proofs.Exits.{no_memory, memory_if_accepted}
use Rattle.axe_spin.specs.Modules.{IsModule, generator_of}
use Rattle.axe_action.proofs.GeneratorLists.{generators_more, module_of_made, all_taken, some_made, made_fit}
use Rattle.axe_action.proofs.DualLaws.{transposed_if_accepted, transposed_generator, dual_is}
use Rattle.axe_action.proofs.duals.dual.Goals as goal

pub loop-index-preserved : goal.loop-index-preserved
loop-index-preserved c =
    let square : length (generator_of c.args.module.now c.loop-index.index).rows ≡ c.args.module.now.dim =
    ap (λ (m : MatrixValue). length m.rows) (sym c.generator.ensures.value) ∙ c.generator.ensures.square in
    let is : c.in_ok-transpose.transpose ≡ transposed_matrix (generator_of c.args.module.now c.loop-index.index) =
    transposed_if_accepted c.args.module.now c.loop-index.index c.in_ok-transpose.transpose c.generator.ensures.well_formed square
    (rw c.generator.ensures.value at c.in_ok-transpose.ensures.transpose) in
    generators_more _ _ _ c.loop-index.index c.loop-index.transposes.items c.push.new.self.items c.in_ok-transpose.transpose c.loop-index.invariant c.in_ok-push.ensures.items
    (transposed_generator c.args.module.now c.loop-index.index c.in_ok-transpose.transpose square is c.in_ok-transpose.ensures.well_formed)
    (ap (λ (m : MatrixValue). m.rows) is)

pub returns-clause-transposed : goal.returns-clause-transposed
returns-clause-transposed c =
    let whole : c.loop-index.index ≡ length c.args.module.now.generators =
    all_taken c.loop-index.index c.gens-index-end.result (length c.args.module.now.generators) c.gens-index-end.ensures.count c.loop-index-test.false c.loop-index.auto.index-end in
    rw (dual_is c.args.module.now c.loop-index.index c.loop-index.transposes.items c.new.result whole c.loop-index.invariant
    (module_of_made _ _ _ c.loop-index.index c.loop-index.transposes.items c.new.result c.loop-index.invariant
    (subst (λ count. 1 ≤ count) (sym whole) c.gens-index-end.ensures.well_formed.some_generator) c.new.ensures.made)) refl

pub generator-requires : goal.generator-requires
generator-requires c = subst (λ count. c.loop-index.index < count) c.gens-index-end.ensures.count c.loop-index-test.true

pub returns-in_err-push-clause-transposed : goal.returns-in_err-push-clause-transposed
returns-in_err-push-clause-transposed c = no_memory _ c.from_residual-in_err-push.result Memory c.from_residual-in_err-push.ensures.1 refl

pub returns-in_err-push-clause-well_formed : goal.returns-in_err-push-clause-well_formed
returns-in_err-push-clause-well_formed c = IfOk-from_err c.from_residual-in_err-push.result IsModule c.from_residual-in_err-push.ensures.0

pub returns-in_err-transpose-clause-transposed : goal.returns-in_err-transpose-clause-transposed
returns-in_err-transpose-clause-transposed c =
    let some : length c.generator.result.now.rows ≢ 0 = λ none. omega (arith, none, c.generator.ensures.square, c.generator.ensures.well_formed.over.positive) in
    no_memory _ c.from_residual.result _ c.from_residual.ensures.1
    (memory_if_accepted _ _ _ (transpose_refusal-none c.generator.result.now some) c.in_err-transpose.ensures.transpose)

pub returns-in_err-transpose-clause-well_formed : goal.returns-in_err-transpose-clause-well_formed
returns-in_err-transpose-clause-well_formed c = IfOk-from_err c.from_residual.result IsModule c.from_residual.ensures.0

pub new-requires-clause-some_generator : goal.new-requires-clause-some_generator
new-requires-clause-some_generator c =
    some_made c.args.module.now _ _ _ c.loop-index.index c.gens-index-end.result c.loop-index.transposes.items c.gens-index-end.ensures.well_formed c.loop-index.invariant c.gens-index-end.ensures.count c.loop-index-test.false

pub new-requires-clause-generators_fit : goal.new-requires-clause-generators_fit
new-requires-clause-generators_fit c =
    made_fit c.args.module.now _ _ _ c.loop-index.index c.gens-index-end.result c.loop-index.transposes.items c.gens-index-end.ensures.well_formed c.loop-index.invariant c.gens-index-end.ensures.count c.loop-index.auto.index-end

pub returns-clause-well_formed : goal.returns-clause-well_formed
returns-clause-well_formed c = c.new.ensures.well_formed
