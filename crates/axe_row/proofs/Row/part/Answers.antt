use Rattle.std.proofs.Common.{List, ℕ, length, refl, sym, ap, ◌∙◌, arith, true}
use Rattle.axe_plane.specs.Planes.{digits_of}
use Rattle.axe_row.specs.HigherPlanes.{linear_of, quadratic_of}
use Rattle.axe_row.specs.Rows.{RowValue, part_of}
use Rattle.axe_row.proofs.KeptPlanes.{alone_row, kept_planes, kept_view, kept_not_prime, linear_is_there}
use Rattle.axe_row.proofs.MadePlanes.{made, answers_made}
use Rattle.axe_row.proofs.RowPlanes.{with_length, length_of_row}
use Rattle.axe_row.proofs.TakenEntries.{taken_planes, part_within, part_plane, part_row, part_alone}
use Rattle.axe_row.proofs.Row.part.Goals as goal

pub part-requires : goal.part-requires
part-requires c =
    let l = linear_of c.self.inside.field c.self.inside.higher in
    let q = quadratic_of c.self.inside.field c.self.inside.higher in
    omega (arith, c.requires, length_of_row _ c.self.inside.constant l q _ c.self.view_is)

-- over a prime field
pub of_plane-requires-clause-plane : goal.of_plane-requires-clause-plane
of_plane-requires-clause-plane c = part_alone _ _ _ _ _ _ c.self.invariant.planes.constant c.in_ok-constant.ensures

pub returns-in_default-clause-part : goal.returns-in_default-clause-part
returns-in_default-clause-part c =
    c.of_plane.ensures.entries
    ∙ ap (λ (x : List ℕ). record { order = c.self.inside.field; entries = x }) c.in_ok-constant.ensures.digits_are
    ∙ ap (λ (r : RowValue). part_of r c.args.start c.args.len) (alone_row _ _ _ _ c.self.invariant c.self.view_is c.in_default.is)

-- over the others
pub part-linear-requires : goal.part-linear-requires
part-linear-requires c =
    let l = linear_of c.self.inside.field c.self.inside.higher in
    let q = quadratic_of c.self.inside.field c.self.inside.higher in
    let long = length_of_row _ c.self.inside.constant l q _ c.self.view_is in
    part_within _ (length (digits_of c.self.inside.constant)) _ _ _ _ _ (kept_planes _ _ _ _ c.self.invariant _ _ _ c.in-Some.is c.deref.ensures c.deref.ensures).linear.long
    (omega (arith, c.requires, long)) (sym (linear_is_there _ _ (kept_not_prime _ _ _ _ c.self.invariant _ c.in-Some.is))) (sym (linear_is_there _ _ (kept_not_prime _ _ _ _ c.self.invariant _ c.in-Some.is)))

pub part-quadratic-requires : goal.part-quadratic-requires
part-quadratic-requires c =
    let l = linear_of c.self.inside.field c.self.inside.higher in
    let q = quadratic_of c.self.inside.field c.self.inside.higher in
    let long = length_of_row _ c.self.inside.constant l q _ c.self.view_is in
    part_within _ (length (digits_of c.self.inside.constant)) _ _ _ _ _ (kept_planes _ _ _ _ c.self.invariant _ _ _ c.in-Some.is c.deref.ensures c.deref-2.ensures).quadratic.long
    (omega (arith, c.requires, long)) c.digits_in_plane-at.ensures c.digits_in_plane-count.ensures

pub of_planes-requires-clause-planes : goal.of_planes-requires-clause-planes
of_planes-requires-clause-planes c =
    made _ _ _ _ _ c.part-linear.ensures c.part-quadratic.ensures (λ l q hl hq.
    with_length _ _ _ _ _ (taken_planes _ _ _ _ _ _ _ _ _ _ (kept_planes _ _ _ _ c.self.invariant _ _ _ c.in-Some.is c.deref.ensures c.deref-2.ensures)
    (record {
      constant = part_plane true _ _ _ _ _ _ _ _ (kept_planes _ _ _ _ c.self.invariant _ _ _ c.in-Some.is c.deref.ensures c.deref-2.ensures).constant refl refl c.in_ok-constant.ensures;
      linear = part_plane _ _ _ _ _ _ _ _ _ (kept_planes _ _ _ _ c.self.invariant _ _ _ c.in-Some.is c.deref.ensures c.deref-2.ensures).linear (sym (linear_is_there _ _ (kept_not_prime _ _ _ _ c.self.invariant _ c.in-Some.is))) (sym (linear_is_there _ _ (kept_not_prime _ _ _ _ c.self.invariant _ c.in-Some.is))) hl;
      quadratic = part_plane _ _ _ _ _ _ _ _ _ (kept_planes _ _ _ _ c.self.invariant _ _ _ c.in-Some.is c.deref.ensures c.deref-2.ensures).quadratic c.digits_in_plane-at.ensures c.digits_in_plane-count.ensures hq;
    })))

pub returns-clause-part : goal.returns-clause-part
returns-clause-part c =
    answers_made _ _ _ _ _ _ _ c.part-linear.ensures c.part-quadratic.ensures c.of_planes.ensures.entries (λ l q hl hq.
    part_row _ _ _ _ _ _ _ _ _ _
    (record {
      constant = part_plane true _ _ _ _ _ _ _ _ (kept_planes _ _ _ _ c.self.invariant _ _ _ c.in-Some.is c.deref.ensures c.deref-2.ensures).constant refl refl c.in_ok-constant.ensures;
      linear = part_plane _ _ _ _ _ _ _ _ _ (kept_planes _ _ _ _ c.self.invariant _ _ _ c.in-Some.is c.deref.ensures c.deref-2.ensures).linear (sym (linear_is_there _ _ (kept_not_prime _ _ _ _ c.self.invariant _ c.in-Some.is))) (sym (linear_is_there _ _ (kept_not_prime _ _ _ _ c.self.invariant _ c.in-Some.is))) hl;
      quadratic = part_plane _ _ _ _ _ _ _ _ _ (kept_planes _ _ _ _ c.self.invariant _ _ _ c.in-Some.is c.deref.ensures c.deref-2.ensures).quadratic c.digits_in_plane-at.ensures c.digits_in_plane-count.ensures hq;
    })
    (kept_view _ c.self.inside.constant _ _ _ _ _ c.self.view_is c.in-Some.is c.deref.ensures c.deref-2.ensures) c.requires)
