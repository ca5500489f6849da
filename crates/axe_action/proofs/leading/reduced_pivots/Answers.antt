use Rattle.std.proofs.Common.{◌≡◌, ◌<◌, ℕ, List, All, length, subst, sym, Option, Vec, Global, IfSome}
use Rattle.std.proofs.lemmas.List.Elements.{All-from_get_or}
use Rattle.axe_matrix.specs.Matrices.{MatrixValue}
use Rattle.axe_action.specs.Coordinates.{IsIdentityAt}
use Rattle.axe_action.specs.LeadingColumns.{AreLeadingColumns}
use Rattle.axe_action.proofs.LeadingLaws.{reduced_at_leading}
use Rattle.axe_action.proofs.leading.reduced_pivots.Goals as goal

-- what is found are the columns where the rows begin
abbrev Found : MatrixValue → Option (Vec ℕ Global) → Type 0
Found rows found = IfSome found (λ (columns : Vec ℕ Global).
    (length columns.items ≡ length rows.rows) × AreLeadingColumns rows.cols rows.rows columns.items)

pub is_identity_at-requires-clause-as_many : goal.is_identity_at-requires-clause-as_many
is_identity_at-requires-clause-as_many c =
    subst (λ (columns : List ℕ). length columns ≡ length c.args.rows.now.rows) (sym c.deref.ensures.value)
    (subst (Found c.args.rows.now) c.in-Some.is c.in_ok-columns.ensures).0

pub is_identity_at-requires-clause-within : goal.is_identity_at-requires-clause-within
is_identity_at-requires-clause-within c =
    subst (λ (columns : List ℕ). All (λ column. column < c.args.rows.now.cols) columns) (sym c.deref.ensures.value)
    (All-from_get_or (λ column. column < c.args.rows.now.cols) c.in-Some.columns.items 0
    (subst (Found c.args.rows.now) c.in-Some.is c.in_ok-columns.ensures).1.below)

pub returns-then-reduced : goal.returns-then-reduced
returns-then-reduced c =
    let identity : IsIdentityAt c.deref.result.now c.args.rows.now.rows = c.in_ok-reduced.ensures.identity.0 c.if-reduced.true in
    let found = subst (Found c.args.rows.now) c.in-Some.is c.in_ok-columns.ensures in
    reduced_at_leading c.args.rows.now c.in-Some.columns.items c.is_identity_at.ensures.well_formed found.0 found.1
    (subst (λ (columns : List ℕ). IsIdentityAt columns c.args.rows.now.rows) c.deref.ensures.value identity)
