use Rattle.std.proofs.Common.{ap, ◌∙◌, arith}
use Rattle.axe_field.specs.Order.{prime_of}
use Rattle.axe_row.specs.Rows.{RowValue}
use Rattle.axe_row.proofs.KeptPlanes.{kept_planes, kept_view, prime_entries}
use Rattle.axe_row.proofs.KnownFieldLaws.{degree_of_odd, digits_hold_alone, digits_hold_trits}
use Rattle.axe_row.proofs.Row.trits_in.Goals as goal

pub returns-then-this-eq3 : goal.returns-then-this-eq3
returns-then-this-eq3 g c =
    let prime =
    degree_of_odd c.args.self.now.order (λ two. omega (arith, two, c.requires.characteristic)) (λ nine. omega (arith, nine, c.requires.order, c.if-this-eq3.true)) in
    digits_hold_alone _ _ _ c.trits_of_plane-constant.result (prime_entries _ _ _ _ c.self.invariant c.self.view_is prime) c.trits_of_plane-constant.ensures

pub returns : goal.returns
returns g c =
    digits_hold_trits _ c.self.inside.constant _ _ _
    (kept_planes _ _ _ _ c.self.invariant _ _ _ c.in-Some.is c.deref.ensures c.deref.ensures)
    (kept_view _ c.self.inside.constant _ _ _ _ _ c.self.view_is c.in-Some.is c.deref.ensures c.deref.ensures)
    _ c.trits_of_plane-constant.result c.trits_of_plane.result (ap (λ (r : RowValue). prime_of r.order) c.self.view_is ∙ c.requires.characteristic)
    c.trits_of_plane-constant.ensures c.trits_of_plane.ensures
