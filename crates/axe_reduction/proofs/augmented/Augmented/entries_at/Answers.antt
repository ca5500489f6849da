use Rattle.std.proofs.Common.{◌<◌, All, ap, sym, subst}
use Rattle.axe_reduction.specs.Augmented.{AugmentedValue}
use Rattle.axe_reduction.proofs.BesideParts.{columns_beside}
use Rattle.axe_reduction.proofs.Exits.{answers_more}
use Rattle.axe_reduction.proofs.augmented.Augmented.entries_at.Goals as goal

pub columns_at-requires-clause-within : goal.columns_at-requires-clause-within
columns_at-requires-clause-within c =
    subst (λ n. All (λ column. column < n) c.args.columns.now) (sym (ap (λ (x : AugmentedValue). x.left) c.self.view_is)) c.requires.left

pub returns-clause-entries : goal.returns-clause-entries
returns-clause-entries c =
    answers_more c.columns_at.result _ _ c.columns_at.ensures.columns (λ entries is.
    columns_beside c.self.inside.left c.self.inside.right entries _ c.args.columns.now c.self.view_is c.self.invariant c.requires.left is)
