use Rattle.std.proofs.Common.{List, ℕ, map, get_or, ap, ◌∙◌}
use Rattle.axe_row.specs.HigherPlanes.{linear_of, quadratic_of}
use Rattle.axe_row.specs.Rows.{RowValue}
use Rattle.axe_row.proofs.KeptPlanes.{alone_row, kept_planes, kept_view, kept_not_prime}
use Rattle.axe_row.proofs.MadePlanes.{made, answers_made}
use Rattle.axe_row.proofs.RowPlanes.{with_length}
use Rattle.axe_row.proofs.TakenEntries.{taken_planes, entries_within, columns_within, columns_in_linear, selected_plane, selected_whole, selected_all, selected_row, selected_alone}
use Rattle.axe_row.proofs.Row.select.Goals as goal

pub select-requires-clause-within : goal.select-requires-clause-within
select-requires-clause-within c =
    let l = linear_of c.self.inside.field c.self.inside.higher in
    let q = quadratic_of c.self.inside.field c.self.inside.higher in
    entries_within _ c.self.inside.constant l q _ _ c.self.view_is c.requires.within

-- over a prime field
pub of_plane-requires-clause-plane : goal.of_plane-requires-clause-plane
of_plane-requires-clause-plane c = selected_alone _ _ _ _ _ c.self.invariant.planes.constant c.in_ok-constant.ensures

pub returns-in_default-clause-selected : goal.returns-in_default-clause-selected
returns-in_default-clause-selected c =
    c.of_plane.ensures.entries
    ∙ ap (λ (x : List ℕ). record { order = c.self.inside.field; entries = x }) c.in_ok-constant.ensures.digits_are
    ∙ ap (λ (r : RowValue). record { order = r.order; entries = map (λ column. get_or r.entries column 0) c.args.columns.now }) (alone_row _ _ _ _ c.self.invariant c.self.view_is c.in_default.is)

-- over the others
pub select-linear-requires-clause-within : goal.select-linear-requires-clause-within
select-linear-requires-clause-within c =
    let l = linear_of c.self.inside.field c.self.inside.higher in
    let q = quadratic_of c.self.inside.field c.self.inside.higher in
    columns_in_linear _ _ _ _ (kept_planes _ _ _ _ c.self.invariant _ _ _ c.in-Some.is c.deref.ensures c.deref.ensures).linear (kept_not_prime _ _ _ _ c.self.invariant _ c.in-Some.is)
    (entries_within _ c.self.inside.constant l q _ _ c.self.view_is c.requires.within)

pub select-quadratic-requires-clause-within : goal.select-quadratic-requires-clause-within
select-quadratic-requires-clause-within c =
    let l = linear_of c.self.inside.field c.self.inside.higher in
    let q = quadratic_of c.self.inside.field c.self.inside.higher in
    columns_within _ _ _ _ _ (kept_planes _ _ _ _ c.self.invariant _ _ _ c.in-Some.is c.deref.ensures c.deref-2.ensures).quadratic.long c.digits_in_plane.ensures
    (entries_within _ c.self.inside.constant l q _ _ c.self.view_is c.requires.within)

pub of_planes-requires-clause-planes : goal.of_planes-requires-clause-planes
of_planes-requires-clause-planes c =
    made _ _ _ _ _ c.select-linear.ensures c.select-quadratic.ensures (λ l q hl hq.
    with_length _ _ _ _ _ (taken_planes _ _ _ _ _ _ _ _ _ _ (kept_planes _ _ _ _ c.self.invariant _ _ _ c.in-Some.is c.deref.ensures c.deref-2.ensures)
    (record {
      constant = selected_whole _ _ _ _ _ (kept_planes _ _ _ _ c.self.invariant _ _ _ c.in-Some.is c.deref.ensures c.deref-2.ensures).constant c.in_ok-constant.ensures;
      linear = selected_all _ _ _ _ _ _ (kept_planes _ _ _ _ c.self.invariant _ _ _ c.in-Some.is c.deref.ensures c.deref-2.ensures).linear (kept_not_prime _ _ _ _ c.self.invariant _ c.in-Some.is) hl;
      quadratic = selected_plane _ _ _ _ _ _ _ (kept_planes _ _ _ _ c.self.invariant _ _ _ c.in-Some.is c.deref.ensures c.deref-2.ensures).quadratic c.digits_in_plane.ensures hq;
    })))

pub returns-clause-selected : goal.returns-clause-selected
returns-clause-selected c =
    answers_made _ _ _ _ _ _ _ c.select-linear.ensures c.select-quadratic.ensures c.of_planes.ensures.entries (λ l q hl hq.
    selected_row _ _ _ _ _ _ _ _ _
    (record {
      constant = selected_whole _ _ _ _ _ (kept_planes _ _ _ _ c.self.invariant _ _ _ c.in-Some.is c.deref.ensures c.deref-2.ensures).constant c.in_ok-constant.ensures;
      linear = selected_all _ _ _ _ _ _ (kept_planes _ _ _ _ c.self.invariant _ _ _ c.in-Some.is c.deref.ensures c.deref-2.ensures).linear (kept_not_prime _ _ _ _ c.self.invariant _ c.in-Some.is) hl;
      quadratic = selected_plane _ _ _ _ _ _ _ (kept_planes _ _ _ _ c.self.invariant _ _ _ c.in-Some.is c.deref.ensures c.deref-2.ensures).quadratic c.digits_in_plane.ensures hq;
    })
    (kept_view _ c.self.inside.constant _ _ _ _ _ c.self.view_is c.in-Some.is c.deref.ensures c.deref-2.ensures) c.requires.within)
