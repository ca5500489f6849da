use Rattle.std.proofs.Common.{rules, ◌≡◌, sym, ap, subst, ◌∙◌, arith}
use Rattle.axe_algebra.specs.SpansOfLists.{IsIndependent}
use Rattle.axe_field.specs.NumberFields.{number_field}
use Rattle.axe_spin.specs.Modules.{ModuleValue, IsInvariantIn}
use Rattle.axe_action.specs.Actions.{IsBasisAction, IsActionModulo}
use Rattle.axe_norton.proofs.CutValues.{module_of_values, module_is, values_not_refused, space_is_kept, cut_to_sub, cut_to_quotient}
use Rattle.axe_norton.proofs.known.cut_values.Goals as goal

pub returns-in_err-module : goal.returns-in_err-module
returns-in_err-module c = λ m sub quotient seed are proper acts modulo.
    absurd (values_not_refused m seed c.args.values.items are c.in_err-module.field-0.0 (search rules) (cc))

-- the module of the values
made : (c : goal.In_ok-module) → c.in_ok-module.module ≡ module_of_values c.requires.0 c.args.values.items
made c = module_is c.requires.0 c.requires.1 c.args.values.items c.requires.2 c.in_ok-module.module (search rules) c.in_ok-module.ensures.made

pub split_by_submodule-requires-clause-field : goal.split_by_submodule-requires-clause-field
split_by_submodule-requires-clause-field c = c.requires.3.field ∙ sym (ap (λ (x : ModuleValue). x.order) (made c))

pub split_by_submodule-requires-clause-fits : goal.split_by_submodule-requires-clause-fits
split_by_submodule-requires-clause-fits c = c.requires.3.columns ∙ sym (ap (λ (x : ModuleValue). x.dim) (made c))

pub split_by_submodule-requires-clause-independent : goal.split_by_submodule-requires-clause-independent
split_by_submodule-requires-clause-independent c =
    subst (λ o. IsIndependent (number_field o) c.args.space.now.rows) (sym c.requires.3.field) c.requires.3.independent

pub split_by_submodule-requires-clause-proper : goal.split_by_submodule-requires-clause-proper
split_by_submodule-requires-clause-proper c = omega (arith, ap (λ (x : ModuleValue). x.dim) (made c), c.requires.3.proper)

pub split_by_submodule-requires-clause-invariant : goal.split_by_submodule-requires-clause-invariant
split_by_submodule-requires-clause-invariant c =
    subst (λ (x : ModuleValue). IsInvariantIn x c.args.space.now) (sym (made c))
    (space_is_kept c.requires.0 c.requires.1 c.args.values.items c.requires.2 c.args.space.now c.requires.3)

pub returns : goal.returns
returns c = λ m sub quotient seed are proper acts modulo.
    let is : c.in_ok-module.module ≡ module_of_values m c.args.values.items =
    module_is m seed c.args.values.items are c.in_ok-module.module (search rules) c.in_ok-module.ensures.made in (
      cut_to_sub m seed c.args.values.items are c.args.space.now proper sub c.in_ok-sub.field-0.sub acts
          (subst (λ (x : ModuleValue). IsBasisAction x c.args.space.now c.in_ok-sub.field-0.sub) is c.in_ok-sub.ensures.sub)
          c.in_ok-sub.ensures.well_formed.0 c.into_generators.result.items c.into_generators.ensures.generators c.into_generators.ensures.each,
      cut_to_quotient m seed c.args.values.items are c.args.space.now proper quotient c.in_ok-sub.field-0.quotient modulo
          (subst (λ (x : ModuleValue). IsActionModulo x c.args.space.now c.in_ok-sub.field-0.quotient) is c.in_ok-sub.ensures.quotient)
          c.in_ok-sub.ensures.well_formed.1 c.into_generators-2.result.items c.into_generators-2.ensures.generators c.into_generators-2.ensures.each,
    )
