use Rattle.std.proofs.Common.{◌≡◌, refl, sym, ◌∙◌, subst}
use Rattle.std.proofs.lemmas.Result.{IfOk-from_err}
use Rattle.axe_row.specs.declared.refusals.Refusal.TheVariants.{Memory}
use Rattle.axe_echelon.proofs.Exits.{no_memory}
use Rattle.axe_spin.specs.Modules.{IsModule}
use Rattle.axe_spin.specs.Generators.{MakeModule}
use Rattle.axe_spin.proofs.ModuleLaws.{copies_more, copies_all, module_of_copies}
use Rattle.axe_spin.proofs.module.Module.copy.Goals as goal

pub returns-in_err-copy-clause-copied : goal.returns-in_err-copy-clause-copied
returns-in_err-copy-clause-copied c = no_memory _ c.from_residual.result _ c.from_residual.ensures.1 c.in_err-copy.ensures.copied

pub returns-in_err-copy-clause-well_formed : goal.returns-in_err-copy-clause-well_formed
returns-in_err-copy-clause-well_formed c = IfOk-from_err c.from_residual.result IsModule c.from_residual.ensures.0

pub returns-in_err-push-clause-copied : goal.returns-in_err-push-clause-copied
returns-in_err-push-clause-copied c = no_memory _ c.from_residual-in_err-push.result Memory c.from_residual-in_err-push.ensures.1 refl

pub returns-in_err-push-clause-well_formed : goal.returns-in_err-push-clause-well_formed
returns-in_err-push-clause-well_formed c = IfOk-from_err c.from_residual-in_err-push.result IsModule c.from_residual-in_err-push.ensures.0

pub loop-generator-preserved : goal.loop-generator-preserved
loop-generator-preserved c =
    copies_more c.self.inside.generators.items c.deref-generator-items.result.now c.loop-generator.generators.items c.push.new.self.items
    c.loop-generator.generator-index c.generator-item.result c.in_ok-copy.copy c.deref-generator-items.ensures.value c.loop-generator.invariant
    c.loop-generator-test.true c.generator-item.is c.in_ok-copy.ensures.copied c.in_ok-push.ensures.items

same : (c : goal.After-result-1) → c.loop-generator.generators.items ≡ c.self.inside.generators.items
same c =
    copies_all c.self.inside.generators.items c.deref-generator-items.result.now c.loop-generator.generators.items c.loop-generator.generator-index
    c.deref-generator-items.ensures.value c.loop-generator.invariant c.loop-generator-test.false

made : (c : goal.After-result-1) → MakeModule c.self.inside.field c.self.inside.dim c.loop-generator.generators.items
made c = subst (MakeModule c.self.inside.field c.self.inside.dim) (sym (same c)) c.self.invariant

pub invariant_of-result : goal.invariant_of-result
invariant_of-result c = made c

pub returns-clause-copied : goal.returns-clause-copied
returns-clause-copied c =
    module_of_copies c.self.inside.field c.self.inside.dim c.loop-generator.generators.items c.self.inside.generators.items (same c) ∙ c.self.view_is

pub returns-clause-well_formed : goal.returns-clause-well_formed
returns-clause-well_formed c = (made c).well_formed
