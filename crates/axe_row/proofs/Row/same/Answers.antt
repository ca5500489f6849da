use Rattle.std.proofs.Common.{◌≡◌, true, rules}
use Rattle.axe_row.proofs.KeptPlanes.{alone_same, kept_planes, kept_view}
use Rattle.axe_row.proofs.RowPlanes.{same_row_planes, same_planes_row}
use Rattle.axe_row.proofs.Row.same.Goals as goal

pub returns-then-not-same : goal.returns-then-not-same
returns-then-not-same c = (
  λ bad. cc,
  λ equal.
      let parts = same_row_planes _ _ _ _ _ _ _ _ _ _ c.self.invariant.planes c.other.invariant.planes c.self.view_is c.other.view_is equal in
      let one : c.same.result ≡ true = c.same.ensures.1 parts.constant in
      cc,
)

pub returns-in_default : goal.returns-in_default
returns-in_default c = (
  λ yes.
      let orders : c.self.inside.field ≡ c.other.inside.field = search rules in
      let one : c.same.result ≡ true = search rules in
      alone_same _ _ _ _ _ _ _ _ c.self.invariant c.other.invariant c.self.view_is c.other.view_is c.in_default.is orders (c.same.ensures.0 one),
  λ equal. cc,
)

pub returns-then-not-same-2 : goal.returns-then-not-same-2
returns-then-not-same-2 c = (
  λ bad. cc,
  λ equal.
      let parts = same_row_planes _ _ _ _ _ _ _ _ _ _ (kept_planes _ _ _ _ c.self.invariant _ _ _ c.in-Some.is c.deref.ensures c.deref.ensures)
      (kept_planes _ _ _ _ c.other.invariant _ _ _ c.in-Some-higher.is c.deref-2.ensures c.deref-2.ensures)
      (kept_view _ c.self.inside.constant _ _ _ _ _ c.self.view_is c.in-Some.is c.deref.ensures c.deref.ensures)
      (kept_view _ c.other.inside.constant _ _ _ _ _ c.other.view_is c.in-Some-higher.is c.deref-2.ensures c.deref-2.ensures) equal in
      let same : c.same-2.result ≡ true = c.same-2.ensures.1 parts.linear in
      cc,
)

pub returns : goal.returns
returns c = (
  λ yes.
      let orders : c.self.inside.field ≡ c.other.inside.field = search rules in
      let one : c.same.result ≡ true = search rules in
      let two : c.same-2.result ≡ true = search rules in
      same_planes_row c.self.inside.field c.other.inside.field c.self.inside.constant c.deref.result.now.linear c.deref-3.result.now.quadratic
      c.other.inside.constant c.deref-2.result.now.linear c.deref-4.result.now.quadratic _ _
      (kept_view _ c.self.inside.constant _ _ _ _ _ c.self.view_is c.in-Some.is c.deref.ensures c.deref-3.ensures)
      (kept_view _ c.other.inside.constant _ _ _ _ _ c.other.view_is c.in-Some-higher.is c.deref-2.ensures c.deref-4.ensures)
      orders (c.same.ensures.0 one) (c.same-2.ensures.0 two) (c.same-3.ensures.0 yes),
  λ equal.
      let parts = same_row_planes _ _ _ _ _ _ _ _ _ _ (kept_planes _ _ _ _ c.self.invariant _ _ _ c.in-Some.is c.deref.ensures c.deref-3.ensures)
      (kept_planes _ _ _ _ c.other.invariant _ _ _ c.in-Some-higher.is c.deref-2.ensures c.deref-4.ensures)
      (kept_view _ c.self.inside.constant _ _ _ _ _ c.self.view_is c.in-Some.is c.deref.ensures c.deref-3.ensures)
      (kept_view _ c.other.inside.constant _ _ _ _ _ c.other.view_is c.in-Some-higher.is c.deref-2.ensures c.deref-4.ensures) equal in
      c.same-3.ensures.1 parts.quadratic,
)
