use Rattle.std.proofs.Common.{◌≡◌, sym, ◌∙◌, ap, subst}
use Rattle.axe_spin.specs.Modules.{ModuleValue}
use Rattle.axe_action.specs.Actions.{dual_module}
use Rattle.axe_norton.specs.Searches.{IsKeptTranspose}
use Rattle.axe_norton.proofs.SearchLaws.{dual_generates, annihilator_is, proper_reduced}
use Rattle.axe_norton.proofs.spaces.transposed_space.Goals.{After-transposed, in-Some, in-None+in_ok-transposed-in-None}
use Rattle.axe_norton.proofs.spaces.transposed_space.Goals as goal

-- the module that was kept, or made, is the transposed one
is_dual : (c : After-transposed) → c.match-take.transposed ≡ dual_module c.args.module.now
is_dual c = elim c.match-take.branch [
  | in-Some w ↦ w.transposed-is ∙ subst (IsKeptTranspose c.args.module.now) (sym c.take.ensures.value ∙ w.in-Some.is) c.requires.kept
  | in-None+in_ok-transposed-in-None w ↦ w.transposed-is ∙ w.in_ok-transposed-in-None.ensures.transposed
]

pub proper_subspace-requires-clause-fits : goal.proper_subspace-requires-clause-fits
proper_subspace-requires-clause-fits c =
    c.requires.fits ∙ sym (ap (λ (m : ModuleValue). m.dim) (is_dual (goal.at.proper_subspace-requires-clause-fits c).After-transposed))

pub returns-in_err-basis-clause-kept : goal.returns-in_err-basis-clause-kept
returns-in_err-basis-clause-kept c =
    c.keep_where_small.ensures c.args.module.now (is_dual (goal.at.returns-in_err-basis-clause-kept c).After-transposed)

pub returns-in_err-annihilator-clause-kept : goal.returns-in_err-annihilator-clause-kept
returns-in_err-annihilator-clause-kept c =
    c.keep_where_small.ensures c.args.module.now (is_dual (goal.at.returns-in_err-annihilator-clause-kept c).After-transposed)

pub returns-clause-found : goal.returns-clause-found
returns-clause-found c =
    annihilator_is c.args.module.now c.match-take.transposed c.args.vector.entries c.in_ok-basis.basis c.in_ok-annihilator.field-0
    (is_dual (goal.at.returns-clause-found c).After-transposed)
    (proper_reduced c.match-take.transposed c.args.vector.entries c.in-Some-generated.space c.in_ok-basis.basis
    (rw c.in-Some-generated.is at c.in_ok-generated.ensures) c.in_ok-basis.ensures.basis c.in_ok-basis.ensures.matrix_well_formed)
    c.in_ok-annihilator.ensures.basis c.in_ok-annihilator.ensures.well_formed

pub returns-clause-kept : goal.returns-clause-kept
returns-clause-kept c = c.keep_where_small.ensures c.args.module.now (is_dual (goal.at.returns-clause-kept c).After-transposed)

pub returns-in_default-clause-found : goal.returns-in_default-clause-found
returns-in_default-clause-found c =
    dual_generates c.args.module.now c.match-take.transposed c.args.vector.entries
    (is_dual (goal.at.returns-in_default-clause-found c).After-transposed) (rw c.in_default.is at c.in_ok-generated.ensures)

pub returns-in_default-clause-kept : goal.returns-in_default-clause-kept
returns-in_default-clause-kept c =
    c.keep_where_small.ensures c.args.module.now (is_dual (goal.at.returns-in_default-clause-kept c).After-transposed)
