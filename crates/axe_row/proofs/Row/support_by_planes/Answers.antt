use Rattle.std.proofs.Common.{List, ℕ, subst}
use Rattle.axe_layer.specs.Supports.{IsSupportWord}
use Rattle.axe_row.proofs.KeptPlanes.{alone_entries, kept_planes, kept_view}
use Rattle.axe_row.proofs.RowSupports.{support_of_planes}
use Rattle.axe_row.proofs.Row.support_by_planes.Goals as goal

pub returns-in_default : goal.returns-in_default
returns-in_default c =
    subst (λ (x : List ℕ). IsSupportWord x c.args.at c.support_word-constant.result) (alone_entries _ _ _ _ c.self.invariant c.self.view_is c.in_default.is)
    c.support_word-constant.ensures

pub returns : goal.returns
returns c =
    support_of_planes _ c.self.inside.constant c.deref.result.now.linear c.deref-2.result.now.quadratic _
    (kept_planes _ _ _ _ c.self.invariant _ _ _ c.in-Some.is c.deref.ensures c.deref-2.ensures)
    (kept_view _ c.self.inside.constant _ _ _ _ _ c.self.view_is c.in-Some.is c.deref.ensures c.deref-2.ensures)
    c.args.at _ _ _ c.support_word-constant.ensures c.support_word-linear.ensures c.support_word.ensures
