use Rattle.std.proofs.Common.{◌≡◌, ◌||◌, true, eqb, ltb, sym, ◌∙◌, eq-eqb, ne_eqb, lt-ltb, le-ltb}
use Rattle.std.proofs.lemmas.Bool.{or_left, or_right, or_from}
use Rattle.axe_matrix.specs.Limits.{most_columns}
use Rattle.axe_file.proofs.TextNumbers.{mode_fault, field_fault, rows_fault, columns_fault, numbers_allowed}
use Rattle.axe_file.proofs.text_header.field_of.Goals as goal
use Rattle.axe_file.proofs.text_header.field_of.Goals.{then-header-eq0-via-then-header-eq0, then-header-eq0-via-else-header-eq0+then-header-gt-MAX_COLUMNS}

pub returns-then-header-ne1 : goal.returns-then-header-ne1
returns-then-header-ne1 c = mode_fault c.args.header.mode c.args.header.order c.args.header.rows c.args.header.columns (ne_eqb _ _ c.if-header-ne1.true)

pub returns-in_default : goal.returns-in_default
returns-in_default c =
    field_fault c.args.header.mode c.args.header.order c.args.header.rows c.args.header.columns (eq-eqb _ _ c.if-header-ne1.false) (sym c.field_with_order.ensures ∙ c.in_default.is)

pub returns-then-header-gt-MAX_ROWS : goal.returns-then-header-gt-MAX_ROWS
returns-then-header-gt-MAX_ROWS c =
    rows_fault c.args.header.mode c.args.header.order c.args.header.rows c.args.header.columns c.in-Some.field (eq-eqb _ _ c.if-header-ne1.false)
    (sym c.field_with_order.ensures ∙ c.in-Some.is) (lt-ltb _ _ c.if-header-gt-MAX_ROWS.true)

pub returns-then-header-eq0 : goal.returns-then-header-eq0
returns-then-header-eq0 c =
    let wrong : (eqb c.args.header.columns 0 || ltb most_columns c.args.header.columns) ≡ true = elim c.then-header-eq0.branch [
      | then-header-eq0-via-then-header-eq0 w ↦ or_left _ _ (eq-eqb _ _ w.if-header-eq0.true)
      | then-header-eq0-via-else-header-eq0+then-header-gt-MAX_COLUMNS w ↦ or_right _ _ (lt-ltb _ _ w.if-header-gt-MAX_COLUMNS.true)
    ] in
    columns_fault c.args.header.mode c.args.header.order c.args.header.rows c.args.header.columns c.in-Some.field (eq-eqb _ _ c.if-header-ne1.false)
    (sym c.field_with_order.ensures ∙ c.in-Some.is) (le-ltb _ _ c.if-header-gt-MAX_ROWS.false) wrong

pub returns : goal.returns
returns c = (
  numbers_allowed c.args.header.mode c.args.header.order c.args.header.rows c.args.header.columns c.in-Some.field (eq-eqb _ _ c.if-header-ne1.false)
      (sym c.field_with_order.ensures ∙ c.in-Some.is) (le-ltb _ _ c.if-header-gt-MAX_ROWS.false)
      (or_from _ _ (ne_eqb _ _ c.if-header-eq0.false) (le-ltb _ _ c.if-header-gt-MAX_COLUMNS.false)),
  sym c.field_with_order.ensures ∙ c.in-Some.is,
)
