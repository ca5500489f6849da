use Rattle.std.proofs.Common.{rules, List, ℕ, subst}
use Rattle.axe_layer.specs.Supports.{IsSupportWord}
use Rattle.axe_row.proofs.KeptPlanes.{alone_entries}
use Rattle.axe_row.proofs.Row.support_word.Goals as goal

pub returns-in_default : goal.returns-in_default
returns-in_default c =
    subst (λ (x : List ℕ). IsSupportWord x c.args.at c.support_word.result) (alone_entries _ _ _ _ c.self.invariant c.self.view_is c.in_default.is)
    c.support_word.ensures

pub returns : goal.returns
returns c = search rules
