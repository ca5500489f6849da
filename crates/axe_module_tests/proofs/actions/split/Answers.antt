use Rattle.std.proofs.Common.{sym, subst}
use Rattle.axe_spin.specs.Modules.{IsInvariantIn}
use Rattle.axe_module_tests.proofs.ActedSpans.{invariant_if_acted}
use Rattle.axe_module_tests.proofs.actions.split.Goals as goal

pub split_by_submodule-requires-clause-invariant : goal.split_by_submodule-requires-clause-invariant
split_by_submodule-requires-clause-invariant g c =
    subst (λ m. IsInvariantIn m c.args.rows.now) (sym c.in_ok-copy.ensures.copied)
    (invariant_if_acted c.args.module.now c.args.rows.now _ c.in_ok-sub_action.field-0 c.in_ok-sub_action.ensures.action)
