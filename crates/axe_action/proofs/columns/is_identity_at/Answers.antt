use Rattle.std.proofs.Common.{◌≡◌, ◌↔◌, IsTrue, [], length, get_or, refl, ap, sym, ◌∙◌, arith}
use Rattle.axe_row.specs.Rows.{RowValue}
use Rattle.axe_algebra.specs.Lists.{unit_row}
use Rattle.axe_echelon.proofs.FormLaws.{below_or_at}
use Rattle.axe_matrix.specs.Matrices.{entries_at}
use Rattle.axe_action.proofs.QuotientSpans.{test_failed}
use Rattle.axe_action.proofs.ReducedRows.{no_identity}
use Rattle.axe_action.proofs.columns.is_identity_at.Goals as goal

pub loop-index-preserved : goal.loop-index-preserved
loop-index-preserved c =
    let exactly : IsTrue c.in_ok-is_unit_at.field-0 ↔ (entries_at c.args.columns.now c.row.result.now.entries ≡ unit_row (length c.args.columns.now) c.loop-index.index) =
    coe 0 1 (i. IsTrue c.in_ok-is_unit_at.field-0 ↔ (entries_at (c.new-chosen.ensures i) c.row.result.now.entries ≡ unit_row (length (c.new-chosen.ensures i)) c.loop-index.index))
    c.in_ok-is_unit_at.ensures in
    let here : entries_at c.args.columns.now (get_or c.args.rows.now.rows c.loop-index.index []) ≡ unit_row (length c.args.columns.now) c.loop-index.index =
    sym (ap (λ (r : RowValue). entries_at c.args.columns.now r.entries) c.row.ensures.value) ∙ exactly.0 c.if-not-branch.false in
    λ t below. below_or_at (λ t. entries_at c.args.columns.now (get_or c.args.rows.now.rows t []) ≡ unit_row (length c.args.columns.now) t) c.loop-index.index
    c.loop-index.invariant here t (omega arith)

pub returns-then-not-branch-clause-identity : goal.returns-then-not-branch-clause-identity
returns-then-not-branch-clause-identity c =
    let exactly : IsTrue c.in_ok-is_unit_at.field-0 ↔ (entries_at c.args.columns.now c.row.result.now.entries ≡ unit_row (length c.args.columns.now) c.loop-index.index) =
    coe 0 1 (i. IsTrue c.in_ok-is_unit_at.field-0 ↔ (entries_at (c.new-chosen.ensures i) c.row.result.now.entries ≡ unit_row (length (c.new-chosen.ensures i)) c.loop-index.index))
    c.in_ok-is_unit_at.ensures in
    no_identity c.args.columns.now c.args.rows.now.rows c.loop-index.index (omega (arith, c.loop-index-test.true, c.rows-index-end.ensures.count))
    (λ here. test_failed (entries_at c.args.columns.now c.row.result.now.entries ≡ unit_row (length c.args.columns.now) c.loop-index.index)
    c.in_ok-is_unit_at.field-0 exactly c.if-not-branch.true
    (ap (λ (r : RowValue). entries_at c.args.columns.now r.entries) c.row.ensures.value ∙ here))

pub returns-clause-identity : goal.returns-clause-identity
returns-clause-identity c = (
  λ yes t below. c.loop-index.invariant t (omega (arith, below, c.loop-index-test.false, c.rows-index-end.ensures.count)),
  λ identity. refl,
)
