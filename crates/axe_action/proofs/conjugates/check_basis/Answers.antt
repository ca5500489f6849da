use Rattle.std.proofs.Common.{ap, sym, ◌∙◌}
use Rattle.axe_row.specs.Refusals.{unless_refused}
use Rattle.axe_echelon.proofs.Exits.{handed_on, not_refused}
use Rattle.axe_spin.specs.Modules.{rows_refusal}
use Rattle.axe_spin.proofs.ModuleLaws.{refusal_of}
use Rattle.axe_spin.proofs.SeedLaws.{vectors_of}
use Rattle.axe_action.proofs.ConjugateLaws.{IsBasisFor, conjugate_accepted, refused_by_rows, refused_by_count}
use Rattle.axe_action.proofs.conjugates.check_basis.Goals as goal

pub returns : goal.returns
returns c =
    let none = not_refused (rows_refusal c.args.module.now c.args.basis.now) tt c.in_ok-check_rows.field-0 c.in_ok-check_rows.ensures.refusal in
    let vectors = vectors_of c.args.module.now c.args.basis.now none in
    let fits : IsBasisFor c.args.module.now c.args.basis.now = record {
      field = vectors.field;
      rows = sym c.rows.ensures.count ∙ c.if-rows-dim.false ∙ c.dim.ensures.count;
      columns = vectors.columns;
    } in
    ap (λ why. unless_refused why tt) (sym (conjugate_accepted c.args.module.now c.args.basis.now fits))

pub returns-in_err-check_rows : goal.returns-in_err-check_rows
returns-in_err-check_rows c =
    let refused = refusal_of (rows_refusal c.args.module.now c.args.basis.now) tt _ c.in_err-check_rows.ensures.refusal in
    handed_on c.from_residual.result _ c.from_residual.ensures.1
    ∙ ap (λ why. unless_refused why tt) (sym (refused_by_rows c.args.module.now c.args.basis.now _ refused))

pub returns-then-rows-dim : goal.returns-then-rows-dim
returns-then-rows-dim c =
    let none = not_refused (rows_refusal c.args.module.now c.args.basis.now) tt c.in_ok-check_rows.field-0 c.in_ok-check_rows.ensures.refusal in
    ap (λ why. unless_refused why tt)
    (sym (refused_by_count c.args.module.now c.args.basis.now none
    (λ same. c.if-rows-dim.true (c.rows.ensures.count ∙ same ∙ sym c.dim.ensures.count))))
