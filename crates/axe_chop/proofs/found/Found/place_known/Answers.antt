use Rattle.std.proofs.Common.{sym, ap, ◌∙◌, arith}
use Rattle.axe_echelon.proofs.Exits.{answers_more, no_memory}
use Rattle.axe_matrix.specs.Matrices.{MatrixValue}
use Rattle.axe_series.specs.Runs.{with_place}
use Rattle.axe_chop.specs.Searches.{found_value}
use Rattle.axe_chop.proofs.Lifting.{IsLifted, lifted_by}
use Rattle.axe_chop.proofs.Placing.{known_lift, known_number}
use Rattle.axe_chop.proofs.found.Found.place_known.Goals as goal

pub lift-requires-clause-field : goal.lift-requires-clause-field
lift-requires-clause-field c =
    (known_lift c.args.section.action c.args.number c.args.isomorphism c.requires.known).field

pub lift-requires-clause-columns : goal.lift-requires-clause-columns
lift-requires-clause-columns c =
    (known_lift c.args.section.action c.args.number c.args.isomorphism c.requires.known).columns

pub append_place-requires-clause-field : goal.append_place-requires-clause-field
append_place-requires-clause-field c =
    let lifted : IsLifted c.args.section c.args.isomorphism c.in_ok-rows.rows =
    lifted_by c.args.section c.args.isomorphism c.in_ok-rows.rows c.lift.ensures.of_section
    (known_lift c.args.section.action c.args.number c.args.isomorphism c.requires.known) c.in_ok-rows.ensures.lifted in
    lifted.field ∙ sym c.requires.field

pub append_place-requires-clause-fits : goal.append_place-requires-clause-fits
append_place-requires-clause-fits c =
    let lifted : IsLifted c.args.section c.args.isomorphism c.in_ok-rows.rows =
    lifted_by c.args.section c.args.isomorphism c.in_ok-rows.rows c.lift.ensures.of_section
    (known_lift c.args.section.action c.args.number c.args.isomorphism c.requires.known) c.in_ok-rows.ensures.lifted in
    lifted.columns ∙ sym c.requires.fits

pub append_place-requires-clause-room : goal.append_place-requires-clause-room
append_place-requires-clause-room c =
    let lifted : IsLifted c.args.section c.args.isomorphism c.in_ok-rows.rows =
    lifted_by c.args.section c.args.isomorphism c.in_ok-rows.rows c.lift.ensures.of_section
    (known_lift c.args.section.action c.args.number c.args.isomorphism c.requires.known) c.in_ok-rows.ensures.lifted in
    omega (arith, lifted.count, c.requires.room)

pub append_place-requires-clause-number : goal.append_place-requires-clause-number
append_place-requires-clause-number c =
    omega (
      arith,
      known_number c.args.self.now.forms.items c.args.section.action c.args.number c.args.isomorphism c.requires.known,
      c.requires.few_forms,
    )

pub returns-clause-placed : goal.returns-clause-placed
returns-clause-placed c =
    answers_more c.append_place.result _ _ c.append_place.ensures.placed
    (λ _ placed. placed ∙ ap (λ (r : MatrixValue). with_place (found_value c.args.self.now) r.rows c.args.number)
    c.in_ok-rows.ensures.lifted)

pub returns-in_err-rows-clause-placed : goal.returns-in_err-rows-clause-placed
returns-in_err-rows-clause-placed c =
    no_memory _ c.from_residual.result _ c.from_residual.ensures.1 c.in_err-rows.ensures.lifted

pub returns-in_err-rows-clause-basis : goal.returns-in_err-rows-clause-basis
returns-in_err-rows-clause-basis c =
    no_memory _ c.from_residual.result _ c.from_residual.ensures.1 c.in_err-rows.ensures.lifted

pub returns-in_err-rows-clause-well_formed : goal.returns-in_err-rows-clause-well_formed
returns-in_err-rows-clause-well_formed c =
    no_memory _ c.from_residual.result _ c.from_residual.ensures.1 c.in_err-rows.ensures.lifted
