use Rattle.std.proofs.Common.{◌≡◌, List, ℕ, true, subst, rules}
use Rattle.axe_row.specs.Operations.{IsZeroVector}
use Rattle.axe_row.proofs.FirstEntries.{zero_planes_of_row, zero_row_of_planes}
use Rattle.axe_row.proofs.KeptPlanes.{alone_entries, kept_planes, kept_view}
use Rattle.axe_row.proofs.Row.is_zero.Goals as goal

pub returns-then-not-is_zero : goal.returns-then-not-is_zero
returns-then-not-is_zero c = (
  λ bad. cc,
  λ zeros.
      let parts = zero_planes_of_row _ _ _ _ _ c.self.invariant.planes c.self.view_is zeros in
      let one : c.is_zero.result ≡ true = c.is_zero.ensures.1 parts.constant in
      cc,
)

pub returns-in_default : goal.returns-in_default
returns-in_default c = (
  λ yes.
      let one : c.is_zero.result ≡ true = search rules in
      subst (λ (xs : List ℕ). IsZeroVector xs) (alone_entries _ _ _ _ c.self.invariant c.self.view_is c.in_default.is) (c.is_zero.ensures.0 one),
  λ zeros. cc,
)

pub returns-then-not-is_zero-2 : goal.returns-then-not-is_zero-2
returns-then-not-is_zero-2 c = (
  λ bad. cc,
  λ zeros.
      let parts = zero_planes_of_row _ _ _ _ _ (kept_planes _ _ _ _ c.self.invariant _ _ _ c.in-Some.is c.deref.ensures c.deref.ensures)
      (kept_view _ c.self.inside.constant _ _ _ _ _ c.self.view_is c.in-Some.is c.deref.ensures c.deref.ensures) zeros in
      let one : c.is_zero-2.result ≡ true = c.is_zero-2.ensures.1 parts.linear in
      cc,
)

pub returns : goal.returns
returns c = (
  λ yes.
      let one : c.is_zero.result ≡ true = search rules in
      let two : c.is_zero-2.result ≡ true = search rules in
      zero_row_of_planes _ c.self.inside.constant c.deref.result.now.linear c.deref-2.result.now.quadratic _ (kept_planes _ _ _ _ c.self.invariant _ _ _ c.in-Some.is c.deref.ensures c.deref-2.ensures)
      (kept_view _ c.self.inside.constant _ _ _ _ _ c.self.view_is c.in-Some.is c.deref.ensures c.deref-2.ensures)
      (c.is_zero.ensures.0 one) (c.is_zero-2.ensures.0 two) (c.is_zero-3.ensures.0 yes),
  λ zeros.
      let parts = zero_planes_of_row _ _ _ _ _ (kept_planes _ _ _ _ c.self.invariant _ _ _ c.in-Some.is c.deref.ensures c.deref-2.ensures)
      (kept_view _ c.self.inside.constant _ _ _ _ _ c.self.view_is c.in-Some.is c.deref.ensures c.deref-2.ensures) zeros in
      c.is_zero-3.ensures.1 parts.quadratic,
)
