use Rattle.std.proofs.Common.{◌≡◌, None, subst, arith}
use Rattle.axe_row.specs.Refusals.{Answers}
use Rattle.axe_matrix.specs.Matrices.{MatrixValue}
use Rattle.axe_echelon.proofs.Exits.{no_memory}
use Rattle.axe_chop.proofs.Stepping.{more_formed, more_like, more_room, more_sections}
use Rattle.axe_chop.proofs.search.append_open.Goals as goal

pub append_sections-requires-clause-like : goal.append_sections-requires-clause-like
append_sections-requires-clause-like c =
    more_like c.args.basis.now c.append_rows_to.new.basis c.args.section.now c.in_ok-append_rows_to.ensures.rows c.requires.like
    c.args.after.now.items c.requires.after_like

pub append_sections-requires-clause-room : goal.append_sections-requires-clause-room
append_sections-requires-clause-room c =
    more_room c.args.basis.now c.append_rows_to.new.basis c.args.section.now c.in_ok-append_rows_to.ensures.rows c.requires.like
    c.args.after.now.items c.requires.room

pub append_sections-requires-clause-well_formed : goal.append_sections-requires-clause-well_formed
append_sections-requires-clause-well_formed c =
    more_formed c.args.basis.now c.append_rows_to.new.basis c.args.section.now c.in_ok-append_rows_to.ensures.rows c.requires.like
    c.requires.well_formed c.append_rows_to.ensures.of_section (omega (arith, c.requires.room))

pub returns-clause-appended : goal.returns-clause-appended
returns-clause-appended c =
    subst (λ (m : MatrixValue). Answers None (λ _. c.append_sections.new.basis ≡ m) c.append_sections.result)
    (more_sections c.args.basis.now c.append_rows_to.new.basis c.args.section.now c.in_ok-append_rows_to.ensures.rows c.requires.like
    c.args.after.now.items)
    c.append_sections.ensures.appended

pub returns-clause-well_formed : goal.returns-clause-well_formed
returns-clause-well_formed c = c.append_sections.ensures.well_formed

pub returns-in_err-append_rows_to-clause-appended : goal.returns-in_err-append_rows_to-clause-appended
returns-in_err-append_rows_to-clause-appended c =
    no_memory _ c.from_residual.result _ c.from_residual.ensures.1 c.in_err-append_rows_to.ensures.rows

pub returns-in_err-append_rows_to-clause-well_formed : goal.returns-in_err-append_rows_to-clause-well_formed
returns-in_err-append_rows_to-clause-well_formed c =
    no_memory _ c.from_residual.result _ c.from_residual.ensures.1 c.in_err-append_rows_to.ensures.rows
