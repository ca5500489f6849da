use Rattle.std.proofs.Common.{◌≡◌, Some, None, sym, ap, ◌∙◌, subst}
use Rattle.std.specs.List.{All}
use Rattle.std.proofs.lemmas.Result.{err_from_is_err_and}
use Rattle.axe_echelon.proofs.Exits.{not_refused}
use Rattle.axe_spin.specs.Modules.{generators_refusal}
use Rattle.axe_spin.specs.Generators.{IsGeneratorMatrix, MakeModule}
use Rattle.axe_spin.proofs.ModuleLaws.{refusal_of, AreGenerators-none, AreGenerators-more, AreGenerators-refused, AreGenerators-all, AreGenerators-accepted, module_of_first, MakeModule-of_generators}
use Rattle.axe_spin.proofs.module.Module.new.Goals as goal

pub loop-matrix-init : goal.loop-matrix-init
loop-matrix-init c = AreGenerators-none _ _ _

pub returns-in_err-check_generator-clause-made : goal.returns-in_err-check_generator-clause-made
returns-in_err-check_generator-clause-made c =
    let p = err_from_is_err_and c.from_residual.result c.from_residual.ensures.1 in
    let refused = refusal_of _ _ _ c.in_err-check_generator.ensures.refusal in
    let all = AreGenerators-refused _ _ _ _ _ _ c.loop-matrix.invariant c.loop-matrix-test.true c.matrix-item.is refused in
    let all_of : generators_refusal c.field.result.now c.cols-dim.result c.args.matrices.items ≡ Some c.in_err-check_generator.field-0.0 =
    ap (generators_refusal c.field.result.now c.cols-dim.result) (sym c.deref-matrix-items.ensures.value) ∙ all in
    rw (p.1, p.2)
    (sym
    (module_of_first c.args.matrices.items c.index-first.result.now _ _ _ c.requires.some_generator c.index-first.ensures c.field.ensures.order c.cols-dim.ensures.count all_of))

pub loop-matrix-preserved : goal.loop-matrix-preserved
loop-matrix-preserved c =
    let accepted = not_refused _ _ _ c.in_ok-check_generator.ensures.refusal in
    AreGenerators-more _ _ _ _ _ c.loop-matrix.invariant c.loop-matrix-test.true c.matrix-item.is accepted c.in_ok-check_generator.ensures.generator

make_module : (c : goal.After-loop-matrix) → MakeModule c.field.result.now c.cols-dim.result c.args.matrices.items
make_module c =
    let each = AreGenerators-all _ _ _ _ c.loop-matrix.invariant c.loop-matrix-test.false in
    MakeModule-of_generators _ _ _ c.requires.some_generator c.requires.generators_fit
    (subst (All (IsGeneratorMatrix c.field.result.now c.cols-dim.result)) c.deref-matrix-items.ensures.value each)

pub invariant_of-result : goal.invariant_of-result
invariant_of-result c = make_module c

pub returns-clause-made : goal.returns-clause-made
returns-clause-made c =
    let all = AreGenerators-accepted _ _ _ _ c.loop-matrix.invariant c.loop-matrix-test.false in
    let all_of : generators_refusal c.field.result.now c.cols-dim.result c.args.matrices.items ≡ None =
    ap (generators_refusal c.field.result.now c.cols-dim.result) (sym c.deref-matrix-items.ensures.value) ∙ all in
    sym
    (module_of_first c.args.matrices.items c.index-first.result.now _ _ _ c.requires.some_generator c.index-first.ensures c.field.ensures.order c.cols-dim.ensures.count all_of)

pub returns-clause-well_formed : goal.returns-clause-well_formed
returns-clause-well_formed c = (make_module c).well_formed
