use Rattle.std.proofs.Common.{Option, ℕ, refl, ap, sym, subst, ◌∙◌, MatchOption}
use Rattle.axe_lane.specs.Entries.{IsFirstNonzero}
use Rattle.axe_row.specs.HigherPlanes.{linear_of, quadratic_of}
use Rattle.axe_row.specs.Operations.{IsZeroVector}
use Rattle.axe_layer.specs.Earlier.{earlier_of}
use Rattle.axe_row.specs.Rows.{RowValue}
use Rattle.axe_row.proofs.FirstEntries.{first_of_planes}
use Rattle.axe_row.proofs.KeptPlanes.{alone_is_prime, kept_planes, kept_view}
use Rattle.axe_row.proofs.PrimeRows.{first_of_one_plane}
use Rattle.axe_row.proofs.Row.first_nonzero.Goals as goal

pub returns-in_default : goal.returns-in_default
returns-in_default c =
    let l = linear_of c.self.inside.field c.self.inside.higher in
    let q = quadratic_of c.self.inside.field c.self.inside.higher in
    first_of_one_plane _ _ _ _ l q _ refl (alone_is_prime _ _ _ _ c.self.invariant c.in_default.is)
    c.self.invariant.planes c.self.view_is c.first_nonzero-constant.ensures

pub returns : goal.returns
returns c =
    let view_is = (kept_view _ c.self.inside.constant _ _ _ _ _ c.self.view_is c.in-Some.is c.deref.ensures c.deref-2.ensures) in
    let found = first_of_planes _ _ _ _ _ _ _ _ (kept_planes _ _ _ _ c.self.invariant _ _ _ c.in-Some.is c.deref.ensures c.deref-2.ensures)
    c.first_nonzero-constant.ensures c.first_nonzero.ensures c.first_nonzero-2.ensures in
    let is = c.earlier.ensures ∙ ap (earlier_of c.first_nonzero-constant.result) c.earlier-high.ensures in
    subst (λ (r : Option ℕ). MatchOption r (IsZeroVector c.args.self.now.entries) (IsFirstNonzero c.args.self.now.entries)) (sym is)
    (subst (λ (row : RowValue). MatchOption (earlier_of c.first_nonzero-constant.result (earlier_of c.first_nonzero.result c.first_nonzero-2.result)) (IsZeroVector row.entries) (IsFirstNonzero row.entries)) view_is found)
