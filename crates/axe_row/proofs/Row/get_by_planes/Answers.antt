use Rattle.std.proofs.Common.{◌<◌, List, ℕ, length, get_or, subst, sym, ap, ◌∙◌, arith}
use Rattle.axe_field.specs.Order.{prime_of, IsElement}
use Rattle.axe_field.specs.Planes.{IsCoefficient, element_of}
use Rattle.axe_layer.proofs.DigitLaws.{digit-below}
use Rattle.axe_plane.specs.Planes.{digits_of}
use Rattle.axe_row.specs.Rows.{RowValue, IsRow}
use Rattle.axe_row.proofs.KeptPlanes.{alone_entries, kept_planes, kept_view}
use Rattle.axe_row.proofs.RowPlanes.{IsRow-of_planes, prime-positive, linear_within, quadratic_within, no_quadratic, length-entries, entries-at}
use Rattle.axe_row.proofs.Row.get_by_planes.Goals as goal

pub returns-in_default-clause-entry : goal.returns-in_default-clause-entry
returns-in_default-clause-entry c =
    c.digit-constant.ensures
    ∙ ap (λ (x : List ℕ). get_or x c.args.index 0) (alone_entries _ _ _ _ c.self.invariant c.self.view_is c.in_default.is)

pub returns-in_default-clause-well_formed : goal.returns-in_default-clause-well_formed
returns-in_default-clause-well_formed c = subst IsRow c.self.view_is (IsRow-of_planes _ _ _ _ _ c.self.invariant.planes)

pub quadratic_at-quadratic-requires : goal.quadratic_at-quadratic-requires
quadratic_at-quadratic-requires c =
    no_quadratic _ _ _ (kept_planes _ _ _ _ c.self.invariant _ _ _ c.in-Some.is c.deref.ensures c.deref-2.ensures).quadratic

pub returns-clause-entry : goal.returns-clause-entry
returns-clause-entry c =
    let o = c.self.inside.field in
    let k = digits_of c.self.inside.constant in
    let l = digits_of c.deref.result.now.linear in
    let q = digits_of c.deref-2.result.now.quadratic in
    let view_is = kept_view _ c.self.inside.constant _ _ _ _ _ c.self.view_is c.in-Some.is c.deref.ensures c.deref-2.ensures in
    let here : c.args.index < length k = omega (arith, c.requires, length-entries o k l q, ap (λ (r : RowValue). length r.entries) view_is) in
    c.element.ensures ∙ ap (λ x. element_of o x c.digit-linear.result c.quadratic_at-quadratic.result) c.digit-constant.ensures
    ∙ ap (λ x. element_of o (get_or k c.args.index 0) x c.quadratic_at-quadratic.result) c.digit-linear.ensures
    ∙ ap (element_of o (get_or k c.args.index 0) (get_or l c.args.index 0)) c.quadratic_at-quadratic.ensures
    ∙ sym (entries-at o k l q c.args.index 0 here) ∙ ap (λ (r : RowValue). get_or r.entries c.args.index 0) view_is

pub returns-clause-well_formed : goal.returns-clause-well_formed
returns-clause-well_formed c = subst IsRow c.self.view_is (IsRow-of_planes _ _ _ _ _ c.self.invariant.planes)

pub returns-clause-element : goal.returns-clause-element
returns-clause-element c =
    subst (IsElement c.args.self.now.order) (sym (returns-clause-entry c)) ((returns-clause-well_formed c).elements c.args.index 0 c.requires)

pub element-requires-clause-constant : goal.element-requires-clause-constant
element-requires-clause-constant c =
    subst (λ d. d < prime_of c.self.inside.field) (sym c.digit-constant.ensures)
    (digit-below _ _ c.args.index (prime-positive c.self.inside.field) c.self.invariant.planes.constant.digits)

pub element-requires-clause-linear : goal.element-requires-clause-linear
element-requires-clause-linear c =
    subst (IsCoefficient c.self.inside.field 1) (sym c.digit-linear.ensures) (linear_within _ _ _ _ _ c.args.index
    (kept_planes _ _ _ _ c.self.invariant _ _ _ c.in-Some.is c.deref.ensures c.deref-2.ensures))

pub element-requires-clause-quadratic : goal.element-requires-clause-quadratic
element-requires-clause-quadratic c =
    subst (IsCoefficient c.self.inside.field 2) (sym c.quadratic_at-quadratic.ensures) (quadratic_within _ _ _ _ _ c.args.index
    (kept_planes _ _ _ _ c.self.invariant _ _ _ c.in-Some.is c.deref.ensures c.deref-2.ensures))
