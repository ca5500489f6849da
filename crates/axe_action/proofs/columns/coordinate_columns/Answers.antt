use Rattle.std.proofs.Common.{◌≡◌, ◌<◌, ℕ, List, All, length, subst, sym}
use Rattle.axe_action.specs.Coordinates.{IsIdentityAt}
use Rattle.axe_action.proofs.ReducedRows.{columns_as_many, columns_within, coordinates_at_identity}
use Rattle.axe_action.proofs.columns.coordinate_columns.Goals as goal

pub is_identity_at-requires-clause-as_many : goal.is_identity_at-requires-clause-as_many
is_identity_at-requires-clause-as_many c =
    subst (λ (columns : List ℕ). length columns ≡ length c.args.rows.now.rows) (sym c.deref.ensures.value)
    (columns_as_many c.args.rows.now c.args.span.now c.in_ok-pivots.pivots.items c.requires.independent c.requires.span c.in_ok-pivots.ensures.pivots)

pub is_identity_at-requires-clause-within : goal.is_identity_at-requires-clause-within
is_identity_at-requires-clause-within c =
    subst (λ (columns : List ℕ). All (λ column. column < c.args.rows.now.cols) columns) (sym c.deref.ensures.value)
    (columns_within c.args.rows.now c.args.span.now c.in_ok-pivots.pivots.items c.requires.span c.in_ok-pivots.ensures.pivots)

pub returns-then-reduced : goal.returns-then-reduced
returns-then-reduced c =
    let identity : IsIdentityAt c.deref.result.now c.args.rows.now.rows = c.in_ok-reduced.ensures.identity.0 c.if-reduced.true in
    coordinates_at_identity c.args.rows.now c.args.span.now c.in_ok-pivots.pivots.items c.is_identity_at.ensures.well_formed c.requires.span
    c.in_ok-pivots.ensures.pivots
    (columns_as_many c.args.rows.now c.args.span.now c.in_ok-pivots.pivots.items c.requires.independent c.requires.span c.in_ok-pivots.ensures.pivots)
    (subst (λ (columns : List ℕ). IsIdentityAt columns c.args.rows.now.rows) c.deref.ensures.value identity)

pub returns-else-reduced : goal.returns-else-reduced
returns-else-reduced c = tt
