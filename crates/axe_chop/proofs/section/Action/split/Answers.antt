use Rattle.std.proofs.lemmas.Result.{IfOk-from_err}
use Rattle.axe_echelon.proofs.Exits.{no_memory}
use Rattle.axe_chop.specs.Kept.{acting_module}
use Rattle.axe_chop.proofs.Cutting.{proper_in, space_independent}
use Rattle.axe_chop.proofs.section.Action.split.Goals as goal

pub split_by_submodule-requires-clause-field : goal.split_by_submodule-requires-clause-field
split_by_submodule-requires-clause-field c =
    (proper_in c.in_ok-module.module (acting_module c.args.self) c.args.space.now c.in_ok-module.ensures c.requires).field

pub split_by_submodule-requires-clause-fits : goal.split_by_submodule-requires-clause-fits
split_by_submodule-requires-clause-fits c =
    (proper_in c.in_ok-module.module (acting_module c.args.self) c.args.space.now c.in_ok-module.ensures c.requires).columns

pub split_by_submodule-requires-clause-some_row : goal.split_by_submodule-requires-clause-some_row
split_by_submodule-requires-clause-some_row c =
    (proper_in c.in_ok-module.module (acting_module c.args.self) c.args.space.now c.in_ok-module.ensures c.requires).nonzero

pub split_by_submodule-requires-clause-proper : goal.split_by_submodule-requires-clause-proper
split_by_submodule-requires-clause-proper c =
    (proper_in c.in_ok-module.module (acting_module c.args.self) c.args.space.now c.in_ok-module.ensures c.requires).proper

pub split_by_submodule-requires-clause-invariant : goal.split_by_submodule-requires-clause-invariant
split_by_submodule-requires-clause-invariant c =
    (proper_in c.in_ok-module.module (acting_module c.args.self) c.args.space.now c.in_ok-module.ensures c.requires).invariant

pub split_by_submodule-requires-clause-independent : goal.split_by_submodule-requires-clause-independent
split_by_submodule-requires-clause-independent c =
    space_independent (acting_module c.args.self) c.args.space.now c.requires

pub returns-clause-sub : goal.returns-clause-sub
returns-clause-sub c =
    rw c.in_ok-module.ensures at c.split_by_submodule.ensures.sub

pub returns-clause-quotient : goal.returns-clause-quotient
returns-clause-quotient c =
    rw c.in_ok-module.ensures at c.split_by_submodule.ensures.quotient

pub returns-in_err-module-clause-sub : goal.returns-in_err-module-clause-sub
returns-in_err-module-clause-sub c =
    no_memory _ c.from_residual.result _ c.from_residual.ensures.1 c.in_err-module.ensures

pub returns-in_err-module-clause-quotient : goal.returns-in_err-module-clause-quotient
returns-in_err-module-clause-quotient c =
    no_memory _ c.from_residual.result _ c.from_residual.ensures.1 c.in_err-module.ensures

pub returns-in_err-module-clause-columns : goal.returns-in_err-module-clause-columns
returns-in_err-module-clause-columns c =
    no_memory _ c.from_residual.result _ c.from_residual.ensures.1 c.in_err-module.ensures

pub returns-in_err-module-clause-well_formed : goal.returns-in_err-module-clause-well_formed
returns-in_err-module-clause-well_formed c =
    IfOk-from_err c.from_residual.result _ c.from_residual.ensures.0
