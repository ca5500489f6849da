use Rattle.std.proofs.Common.{◌≡◌, ◌++◌, ◌∷◌, [], ℕ, List, None, length, ap, ◌∙◌, subst}
use Rattle.axe_algebra.specs.Lists.{unit_row}
use Rattle.axe_algebra.proofs.ListEntries.{listed_length}
use Rattle.axe_row.specs.Rows.{RowValue}
use Rattle.axe_row.specs.Refusals.{Answers}
use Rattle.axe_echelon.proofs.Exits.{no_memory}
use Rattle.axe_action.proofs.bases.append_unit.Goals as goal

pub append-requires-clause-field : goal.append-requires-clause-field
append-requires-clause-field c = ap (λ (r : RowValue). r.order) c.in_ok-unit.ensures.unit ∙ c.field.ensures.order

pub append-requires-clause-fits : goal.append-requires-clause-fits
append-requires-clause-fits c = ap (λ (r : RowValue). length r.entries) c.in_ok-unit.ensures.unit ∙ listed_length c.cols.result _ ∙ c.cols.ensures.count

pub append-requires-clause-room : goal.append-requires-clause-room
append-requires-clause-room c = c.requires.room

pub returns-in_err-unit-clause-appended : goal.returns-in_err-unit-clause-appended
returns-in_err-unit-clause-appended c = no_memory _ c.from_residual.result _ c.from_residual.ensures.1 c.in_err-unit.ensures.unit

pub returns-in_err-unit-clause-well_formed : goal.returns-in_err-unit-clause-well_formed
returns-in_err-unit-clause-well_formed c = c.field.ensures.well_formed

pub returns-clause-appended : goal.returns-clause-appended
returns-clause-appended c =
    let unit : c.in_ok-unit.unit.entries ≡ unit_row c.args.matrix.now.cols c.args.column =
    ap (λ (r : RowValue). r.entries) c.in_ok-unit.ensures.unit ∙ ap (λ n. unit_row n c.args.column) c.cols.ensures.count in
    subst (λ (v : List ℕ). Answers None (λ _. c.append.new.self ≡ record c.args.matrix.now { rows = c.args.matrix.now.rows ++ v ∷ [] }) c.append.result)
    unit c.append.ensures.appended

pub returns-clause-well_formed : goal.returns-clause-well_formed
returns-clause-well_formed c = c.append.ensures.well_formed
