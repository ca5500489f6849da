use Rattle.std.proofs.Common.{◌*◌, List, ℕ, length, arith, sym, ap, subst, ◌∙◌}
use Rattle.axe_layer.specs.Digits.{AreSmallSums, numbers_with_multiple}
use Rattle.axe_plane.specs.Planes.{digits_of}
use Rattle.axe_row.specs.HigherPlanes.{linear_of, quadratic_of}
use Rattle.axe_row.specs.Rows.{RowValue}
use Rattle.axe_row.proofs.KeptPlanes.{alone_entries, kept_planes, kept_view}
use Rattle.axe_row.proofs.RowPlanes.{length_of_row}
use Rattle.axe_row.proofs.EntrySums.{linear_fits, linear_small, quadratic_fits, quadratic_small, entries_are_sums}
use Rattle.axe_row.proofs.Row.copy_to.Goals as goal

pub copy_to-requires : goal.copy_to-requires
copy_to-requires c =
    let l = linear_of c.self.inside.field c.self.inside.higher in
    let q = quadratic_of c.self.inside.field c.self.inside.higher in
    c.requires ∙ length_of_row _ c.self.inside.constant l q _ c.self.view_is

pub returns-in_default : goal.returns-in_default
returns-in_default c = c.copy_to.ensures ∙ alone_entries _ _ _ _ c.self.invariant c.self.view_is c.in_default.is

pub add_to-requires-clause-fits : goal.add_to-requires-clause-fits
add_to-requires-clause-fits c =
    omega (arith, ap length c.copy_to.ensures, linear_fits _ _ c.prime-prime.result _ _ _ (kept_planes _ _ _ _ c.self.invariant _ _ _ c.in-Some.is c.deref.ensures c.deref.ensures) c.prime-prime.ensures)

pub add_to-requires-clause-small : goal.add_to-requires-clause-small
add_to-requires-clause-small c =
    subst (λ (x : List ℕ). AreSmallSums x c.prime-prime.result (digits_of c.deref.result.now.linear)) (sym c.copy_to.ensures)
    (linear_small _ _ _ _ _ _ (kept_planes _ _ _ _ c.self.invariant _ _ _ c.in-Some.is c.deref.ensures c.deref.ensures) c.prime-prime.ensures)

pub add_to-requires-2-clause-fits : goal.add_to-requires-2-clause-fits
add_to-requires-2-clause-fits c =
    let p = c.prime-prime.result in
    let written = c.add_to.ensures ∙ ap (λ (x : List ℕ). numbers_with_multiple x p (digits_of c.deref.result.now.linear)) c.copy_to.ensures in
    omega (arith, ap length written, quadratic_fits _ _ p _ _ _ (kept_planes _ _ _ _ c.self.invariant _ _ _ c.in-Some.is c.deref.ensures c.deref-2.ensures) c.prime-prime.ensures)

pub add_to-requires-2-clause-small : goal.add_to-requires-2-clause-small
add_to-requires-2-clause-small c =
    let p = c.prime-prime.result in
    let written = c.add_to.ensures ∙ ap (λ (x : List ℕ). numbers_with_multiple x p (digits_of c.deref.result.now.linear)) c.copy_to.ensures in
    subst (λ (x : List ℕ). AreSmallSums x (p * p) (digits_of c.deref-2.result.now.quadratic)) (sym written)
    (quadratic_small _ _ p _ _ _ (kept_planes _ _ _ _ c.self.invariant _ _ _ c.in-Some.is c.deref.ensures c.deref-2.ensures) c.prime-prime.ensures)

pub returns : goal.returns
returns c =
    let p = c.prime-prime.result in
    let written = c.add_to.ensures ∙ ap (λ (x : List ℕ). numbers_with_multiple x p (digits_of c.deref.result.now.linear)) c.copy_to.ensures in
    c.add_to-2.ensures ∙ ap (λ (x : List ℕ). numbers_with_multiple x (p * p) (digits_of c.deref-2.result.now.quadratic)) written
    ∙ entries_are_sums _ _ p _ _ _ (kept_planes _ _ _ _ c.self.invariant _ _ _ c.in-Some.is c.deref.ensures c.deref-2.ensures) c.prime-prime.ensures
    ∙ ap (λ (r : RowValue). r.entries) (kept_view _ c.self.inside.constant _ _ _ _ _ c.self.view_is c.in-Some.is c.deref.ensures c.deref-2.ensures)
