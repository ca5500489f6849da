use Rattle.std.proofs.Common.{◌≡◌, ◌+◌, ◌≤◌, ◌∷◌, All, length, sym, ap, subst, ◌∙◌}
use Rattle.std.proofs.lemmas.Result.{IfOk-from_err}
use Rattle.axe_echelon.proofs.Exits.{no_memory}
use Rattle.axe_matrix.specs.Limits.{most_rows}
use Rattle.axe_matrix.specs.Matrices.{MatrixValue, IsMatrix}
use Rattle.axe_spin.specs.Modules.{ModuleValue}
use Rattle.axe_chop.specs.Stages.{IsRowsLike, sections_dim, with_sections}
use Rattle.axe_chop.specs.declared.search.Searched.TheVariants.{Open}
use Rattle.axe_chop.proofs.search.open_at.Goals as goal

pub append_open-requires-clause-like : goal.append_open-requires-clause-like
append_open-requires-clause-like c =
    subst (λ (b : MatrixValue). IsRowsLike b c.args.section.now) (sym c.into_basis-basis.ensures) c.requires.like

pub append_open-requires-clause-after_like : goal.append_open-requires-clause-after_like
append_open-requires-clause-after_like c =
    subst (λ (b : MatrixValue). All (IsRowsLike b) c.args.after.now.items) (sym c.into_basis-basis.ensures) c.requires.after_like

pub append_open-requires-clause-room : goal.append_open-requires-clause-room
append_open-requires-clause-room c =
    subst (λ (b : MatrixValue). length b.rows + sections_dim (c.args.section.now ∷ c.args.after.now.items) ≤ most_rows)
    (sym c.into_basis-basis.ensures) c.requires.room

pub append_open-requires-clause-well_formed : goal.append_open-requires-clause-well_formed
append_open-requires-clause-well_formed c = c.rows-offset.ensures.well_formed

pub returns-in_err-append_open-clause-opened : goal.returns-in_err-append_open-clause-opened
returns-in_err-append_open-clause-opened c =
    no_memory _ c.from_residual.result _ c.from_residual.ensures.1 c.in_err-append_open.ensures.appended

pub returns-in_err-append_open-clause-well_formed : goal.returns-in_err-append_open-clause-well_formed
returns-in_err-append_open-clause-well_formed c = IfOk-from_err c.from_residual.result _ c.from_residual.ensures.0

pub returns-clause-well_formed : goal.returns-clause-well_formed
returns-clause-well_formed c =
    subst IsMatrix
    (c.in_ok-append_open.ensures.appended
    ∙ ap (λ (b : MatrixValue). with_sections b (c.args.section.now ∷ c.args.after.now.items)) c.into_basis-basis.ensures)
    c.in_ok-append_open.ensures.well_formed

pub returns-clause-opened : goal.returns-clause-opened
returns-clause-opened c = λ i. Open (whole i) (offset i) (dim i)
  where
    whole : c.append_open.new.basis ≡ with_sections c.args.found.basis (c.args.section.now ∷ c.args.after.now.items)
    whole =
        c.in_ok-append_open.ensures.appended
        ∙ ap (λ (b : MatrixValue). with_sections b (c.args.section.now ∷ c.args.after.now.items)) c.into_basis-basis.ensures

    offset : c.rows-offset.result ≡ length c.args.found.basis.rows
    offset = c.rows-offset.ensures.count ∙ ap (λ (b : MatrixValue). length b.rows) c.into_basis-basis.ensures

    dim : c.dim-dim.result ≡ c.args.section.now.action.dim
    dim = c.dim-dim.ensures.count ∙ ap (λ (m : ModuleValue). m.dim) c.action.ensures.value
