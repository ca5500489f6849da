use Rattle.std.proofs.Common.{◌≡◌, length, sym, ◌∙◌, refl, true≢false}
use Rattle.std.proofs.lemmas.Result.{IfOk-from_err}
use Rattle.axe_echelon.proofs.Exits.{no_memory, in_any_case}
use Rattle.axe_echelon.proofs.EliminationLaws.{full_echelon_spans}
use Rattle.axe_echelon.proofs.StepLaws.{over_of_row}
use Rattle.axe_echelon.proofs.SubspaceLaws.{spanned_if_zero, next_row_of, outside_of_rest, spans_one_more, spans_no_more}
use Rattle.axe_echelon.proofs.subspace.Subspace.insert.Goals as goal

pub returns-then-dim-cols-clause-exactly : goal.returns-then-dim-cols-clause-exactly
returns-then-dim-cols-clause-exactly c =
    let full : length c.args.self.now.rows ≡ c.args.self.now.cols = sym c.dim.ensures.count ∙ c.if-dim-cols.true ∙ c.cols.ensures.count in
    let spanned = full_echelon_spans c.args.self.now c.args.row.entries c.dim.ensures.well_formed full c.requires.fits in
    (λ no. absurd (true≢false (sym no)), λ outside. absurd (outside spanned))

pub add_row-requires : goal.add_row-requires
add_row-requires c =
    next_row_of c.args.self.now c.reduce.ensures.well_formed c.args.row c.reduce.new.row c.reduce.ensures.representative c.reduce.ensures.same_field
    (over_of_row _ _ _ c.reduce.ensures.same_field c.reduce.ensures.row_well_formed c.reduce.ensures.as_long) c.in-Some.next c.in-Some.ensures

pub returns-clause-exactly : goal.returns-clause-exactly
returns-clause-exactly c =
    let outside = outside_of_rest c.args.self.now c.reduce.ensures.well_formed c.args.row c.reduce.new.row c.reduce.ensures.representative
    c.reduce.ensures.same_field (over_of_row _ _ _ c.reduce.ensures.same_field c.reduce.ensures.row_well_formed c.reduce.ensures.as_long)
    c.in-Some.next c.in-Some.ensures in
    (λ _. outside, λ _. refl)

pub returns-clause-inserted : goal.returns-clause-inserted
returns-clause-inserted c =
    spans_one_more c.args.self.now c.reduce.ensures.well_formed c.args.row c.reduce.new.row c.reduce.ensures.representative c.reduce.ensures.same_field
    (over_of_row _ _ _ c.reduce.ensures.same_field c.reduce.ensures.row_well_formed c.reduce.ensures.as_long) c.in-Some.next c.in-Some.ensures
    c.add_row.new.self c.in_ok-add_row.ensures.added

pub returns-clause-well_formed : goal.returns-clause-well_formed
returns-clause-well_formed c = c.add_row.ensures.well_formed

pub returns-clause-unchanged : goal.returns-clause-unchanged
returns-clause-unchanged c = tt

pub returns-then-dim-cols-clause-inserted : goal.returns-then-dim-cols-clause-inserted
returns-then-dim-cols-clause-inserted c = spans_no_more _ _

pub returns-then-dim-cols-clause-unchanged : goal.returns-then-dim-cols-clause-unchanged
returns-then-dim-cols-clause-unchanged c = tt

pub returns-then-dim-cols-clause-well_formed : goal.returns-then-dim-cols-clause-well_formed
returns-then-dim-cols-clause-well_formed c = c.dim.ensures.well_formed

pub returns-in_default-clause-exactly : goal.returns-in_default-clause-exactly
returns-in_default-clause-exactly c =
    let spanned = spanned_if_zero c.args.self.now c.reduce.ensures.well_formed c.args.row c.reduce.new.row c.reduce.ensures.representative
    c.reduce.ensures.same_field (over_of_row _ _ _ c.reduce.ensures.same_field c.reduce.ensures.row_well_formed c.reduce.ensures.as_long)
    c.in_default.ensures in
    (λ no. absurd (true≢false (sym no)), λ outside. absurd (outside spanned))

pub returns-in_default-clause-inserted : goal.returns-in_default-clause-inserted
returns-in_default-clause-inserted c = spans_no_more _ _

pub returns-in_default-clause-unchanged : goal.returns-in_default-clause-unchanged
returns-in_default-clause-unchanged c = tt

pub returns-in_default-clause-well_formed : goal.returns-in_default-clause-well_formed
returns-in_default-clause-well_formed c = c.dim.ensures.well_formed

pub returns-in_err-add_row-clause-exactly : goal.returns-in_err-add_row-clause-exactly
returns-in_err-add_row-clause-exactly c = IfOk-from_err c.from_residual.result _ c.from_residual.ensures.0

pub returns-in_err-add_row-clause-inserted : goal.returns-in_err-add_row-clause-inserted
returns-in_err-add_row-clause-inserted c = no_memory _ c.from_residual.result _ c.from_residual.ensures.1 c.in_err-add_row.ensures.added

pub returns-in_err-add_row-clause-unchanged : goal.returns-in_err-add_row-clause-unchanged
returns-in_err-add_row-clause-unchanged c = in_any_case c.from_residual.result _ c.in_err-add_row.ensures.unchanged

pub returns-in_err-add_row-clause-well_formed : goal.returns-in_err-add_row-clause-well_formed
returns-in_err-add_row-clause-well_formed c = c.add_row.ensures.well_formed
