use Rattle.std.proofs.Common.{ℕ, refl, ap, ◌∙◌}
use Rattle.axe_spin.specs.Modules.{ModuleValue}
use Rattle.axe_report.specs.Names.{constituent_name, count_of}
use Rattle.axe_chop.proofs.chopped.named_factor.Goals as goal

pub returns-clause-name : goal.returns-clause-name
returns-clause-name c =
    c.in_ok-name.ensures ∙ ap (λ (n : ℕ). constituent_name c.dim-dim.result n) c.count_dim.ensures
    ∙ ap (λ (n : ℕ). constituent_name n (count_of n c.args.dims.now))
    (c.dim-dim.ensures.count ∙ ap (λ (m : ModuleValue). m.dim) c.matrices.ensures.value)

pub returns-clause-form : goal.returns-clause-form
returns-clause-form c = refl

pub returns-clause-multiplicity : goal.returns-clause-multiplicity
returns-clause-multiplicity c = c.count_place-multiplicity.ensures
