use Rattle.std.proofs.Common.{◌≡◌, List, ◌++◌, ◌∷◌, [], length, ap, ap₂, sym, ◌∙◌, refl, true≢false, arith}
use Rattle.std.proofs.lemmas.Result.{IfOk-from_err}
use Rattle.axe_algebra.specs.Lists.{IsVectorOver}
use Rattle.axe_algebra.specs.SpansOfLists.{IsSpanned}
use Rattle.axe_field.specs.NumberFields.{number_field}
use Rattle.axe_row.specs.declared.refusals.Refusal.TheVariants.{Memory}
use Rattle.axe_echelon.specs.Echelons.{EchelonValue}
use Rattle.axe_echelon.specs.Steps.{echelon_of}
use Rattle.axe_echelon.specs.declared.Step.{Step}
use Rattle.axe_echelon.proofs.Exits.{no_memory, in_any_case}
use Rattle.axe_echelon.proofs.EliminationLaws.{full_echelon_spans, cleared_represents}
use Rattle.axe_echelon.proofs.InsertedRows.{spanned_by_inserted, spanned_by_space, steps_more, inserted_more}
use Rattle.axe_echelon.proofs.StepLaws.{over_of_row, echelon_of_steps}
use Rattle.axe_echelon.proofs.SubspaceLaws.{spanned_if_zero, next_row_of, outside_of_rest}
use Rattle.axe_echelon.proofs.Echelon.insert.Goals.{In_ok-left, In-Some}
use Rattle.axe_echelon.proofs.Echelon.insert.Goals as goal

pub returns-then-rank-cols-clause-exactly : goal.returns-then-rank-cols-clause-exactly
returns-then-rank-cols-clause-exactly c =
    let full : length c.args.self.now.rows ≡ c.args.self.now.cols = sym c.rank.ensures.count ∙ c.if-rank-cols.true ∙ c.cols.ensures.count in
    let spanned = full_echelon_spans c.args.self.now c.args.row.entries c.rank.ensures.well_formed full c.requires.fits in
    (λ no. absurd (true≢false (sym no)), λ outside. absurd (outside spanned))

pub returns-then-rank-cols-clause-inserted : goal.returns-then-rank-cols-clause-inserted
returns-then-rank-cols-clause-inserted c = refl

pub returns-then-rank-cols-clause-unchanged : goal.returns-then-rank-cols-clause-unchanged
returns-then-rank-cols-clause-unchanged c = tt

pub returns-then-rank-cols-clause-well_formed : goal.returns-then-rank-cols-clause-well_formed
returns-then-rank-cols-clause-well_formed c = c.rank.ensures.well_formed

pub left_of-requires-clause-field : goal.left_of-requires-clause-field
left_of-requires-clause-field c = c.requires.field ∙ sym (ap (λ (e : EchelonValue). e.order) c.self.view_is)

pub left_of-requires-clause-fits : goal.left_of-requires-clause-fits
left_of-requires-clause-fits c = c.requires.fits ∙ sym (ap (λ (e : EchelonValue). e.cols) c.self.view_is)

over : (c : In_ok-left) → IsVectorOver (number_field c.self.inside.space.order) c.self.inside.space.cols c.args.row.entries
over c = over_of_row _ _ c.args.row (c.requires.field ∙ sym (ap (λ (e : EchelonValue). e.order) c.self.view_is)) c.in_ok-left.ensures.row_well_formed
    (c.requires.fits ∙ sym (ap (λ (e : EchelonValue). e.cols) c.self.view_is))

pub returns-in_default-clause-exactly : goal.returns-in_default-clause-exactly
returns-in_default-clause-exactly c =
    let cleared = c.in_ok-left.ensures.cleared in
    let spanned = spanned_by_inserted c.self.inside.space c.self.inside.steps.items c.self.invariant c.args.row.entries
    (spanned_if_zero c.self.inside.space c.self.invariant.well_formed c.args.row c.in_ok-left.left.rest
    (cleared_represents _ _ _ _ cleared) cleared.row_field cleared.row_over c.in_default.ensures) in
    let spanned_then : IsSpanned (number_field c.args.self.now.order) c.args.self.now.rows c.args.row.entries = rw (← c.self.view_is) spanned in
    (λ no. absurd (true≢false (sym no)), λ outside. absurd (outside spanned_then))

pub returns-in_default-clause-inserted : goal.returns-in_default-clause-inserted
returns-in_default-clause-inserted c = refl

pub returns-in_default-clause-unchanged : goal.returns-in_default-clause-unchanged
returns-in_default-clause-unchanged c = tt

pub returns-in_default-clause-well_formed : goal.returns-in_default-clause-well_formed
returns-in_default-clause-well_formed c = c.rank.ensures.well_formed

pub add_row-requires : goal.add_row-requires
add_row-requires c =
    let cleared = c.in_ok-left.ensures.cleared in
    next_row_of c.self.inside.space c.self.invariant.well_formed c.args.row c.in_ok-left.left.rest (cleared_represents _ _ _ _ cleared) cleared.row_field
    cleared.row_over c.in-Some.next c.in-Some.ensures

outside : (c : In-Some) → ¬ (IsSpanned (number_field c.self.inside.space.order) c.self.inside.space.rows c.args.row.entries)
outside c =
    let cleared = c.in_ok-left.ensures.cleared in
    outside_of_rest c.self.inside.space c.self.invariant.well_formed c.args.row c.in_ok-left.left.rest (cleared_represents _ _ _ _ cleared) cleared.row_field
    cleared.row_over c.in-Some.next c.in-Some.ensures

abbrev step_of_row : In-Some → Step
step_of_row c = record { inserted = c.args.row; scalar = c.in-Some.next.scalar; multipliers = c.in_ok-left.left.multipliers }

pub push_reserved-requires : goal.push_reserved-requires
push_reserved-requires c = omega (arith, c.in_ok-reserve.ensures.ok)

pub invariant_of-self : goal.invariant_of-self
invariant_of-self c = rw c.reserve.ensures.items c.self.invariant

pub invariant_of-self-in_err-add_row : goal.invariant_of-self-in_err-add_row
invariant_of-self-in_err-add_row c = rw (c.in_err-add_row.ensures.unchanged, c.reserve.ensures.items) c.self.invariant

pub invariant_of-self-2 : goal.invariant_of-self-2
invariant_of-self-2 c =
    steps_more c.self.inside.space c.self.inside.steps.items c.self.invariant c.args.row c.in_ok-left.left.rest c.in_ok-left.left.multipliers
    c.in_ok-left.ensures.cleared (over (goal.at.invariant_of-self-2 c).In_ok-left) (outside (goal.at.invariant_of-self-2 c).In-Some) c.in-Some.next
    c.in-Some.ensures c.add_row.new.self c.push_reserved.new.self.items c.in_ok-add_row.ensures.added c.add_row.ensures.well_formed
    (c.push_reserved.ensures.items ∙ ap (λ (l : List Step). l ++ step_of_row (goal.at.invariant_of-self-2 c).In-Some ∷ []) c.reserve.ensures.items)

pub returns-clause-exactly : goal.returns-clause-exactly
returns-clause-exactly c =
    let new : ¬ (IsSpanned (number_field c.args.self.now.order) c.args.self.now.rows c.args.row.entries) =
    rw (← c.self.view_is) (λ spanned. outside (goal.at.returns-clause-exactly c).In-Some
    (spanned_by_space c.self.inside.space c.self.inside.steps.items c.self.invariant c.args.row.entries spanned)) in
    (λ _. new, λ _. refl)

pub returns-clause-inserted : goal.returns-clause-inserted
returns-clause-inserted c =
    inserted_more c.self.inside.space c.self.inside.steps.items c.self.invariant c.args.row c.in_ok-left.left.rest c.in_ok-left.left.multipliers
    c.in_ok-left.ensures.cleared (over (goal.at.returns-clause-inserted c).In_ok-left) (outside (goal.at.returns-clause-inserted c).In-Some) c.in-Some.next
    c.in-Some.ensures c.add_row.new.self c.args.self.now c.push_reserved.new.self.items c.in_ok-add_row.ensures.added
    (c.push_reserved.ensures.items ∙ ap (λ (l : List Step). l ++ step_of_row (goal.at.returns-clause-inserted c).In-Some ∷ []) c.reserve.ensures.items)
    c.self.view_is

pub returns-clause-unchanged : goal.returns-clause-unchanged
returns-clause-unchanged c = tt

pub returns-clause-well_formed : goal.returns-clause-well_formed
returns-clause-well_formed c = echelon_of_steps c.add_row.new.self c.push_reserved.new.self.items (invariant_of-self-2 c)

pub returns-in_err-left-clause-exactly : goal.returns-in_err-left-clause-exactly
returns-in_err-left-clause-exactly c = IfOk-from_err c.from_residual.result _ c.from_residual.ensures.0

pub returns-in_err-left-clause-inserted : goal.returns-in_err-left-clause-inserted
returns-in_err-left-clause-inserted c = no_memory _ c.from_residual.result _ c.from_residual.ensures.1 c.in_err-left.ensures.cleared

pub returns-in_err-left-clause-unchanged : goal.returns-in_err-left-clause-unchanged
returns-in_err-left-clause-unchanged c = in_any_case c.from_residual.result _ refl

pub returns-in_err-left-clause-well_formed : goal.returns-in_err-left-clause-well_formed
returns-in_err-left-clause-well_formed c = c.rank.ensures.well_formed

pub returns-in_err-reserve-clause-exactly : goal.returns-in_err-reserve-clause-exactly
returns-in_err-reserve-clause-exactly c = IfOk-from_err c.from_residual-in_err-reserve.result _ c.from_residual-in_err-reserve.ensures.0

pub returns-in_err-reserve-clause-inserted : goal.returns-in_err-reserve-clause-inserted
returns-in_err-reserve-clause-inserted c = no_memory _ c.from_residual-in_err-reserve.result Memory c.from_residual-in_err-reserve.ensures.1 refl

pub returns-in_err-reserve-clause-unchanged : goal.returns-in_err-reserve-clause-unchanged
returns-in_err-reserve-clause-unchanged c =
    in_any_case c.from_residual-in_err-reserve.result _ (ap (echelon_of c.self.inside.space) c.reserve.ensures.items ∙ c.self.view_is)

pub returns-in_err-reserve-clause-well_formed : goal.returns-in_err-reserve-clause-well_formed
returns-in_err-reserve-clause-well_formed c = echelon_of_steps c.self.inside.space c.reserve.new.self.items (invariant_of-self c)

pub returns-in_err-add_row-clause-exactly : goal.returns-in_err-add_row-clause-exactly
returns-in_err-add_row-clause-exactly c = IfOk-from_err c.from_residual-in_err-add_row.result _ c.from_residual-in_err-add_row.ensures.0

pub returns-in_err-add_row-clause-inserted : goal.returns-in_err-add_row-clause-inserted
returns-in_err-add_row-clause-inserted c =
    no_memory _ c.from_residual-in_err-add_row.result _ c.from_residual-in_err-add_row.ensures.1 c.in_err-add_row.ensures.added

pub returns-in_err-add_row-clause-unchanged : goal.returns-in_err-add_row-clause-unchanged
returns-in_err-add_row-clause-unchanged c =
    in_any_case c.from_residual-in_err-add_row.result _ (ap₂ echelon_of c.in_err-add_row.ensures.unchanged c.reserve.ensures.items ∙ c.self.view_is)

pub returns-in_err-add_row-clause-well_formed : goal.returns-in_err-add_row-clause-well_formed
returns-in_err-add_row-clause-well_formed c = echelon_of_steps c.add_row.new.self c.reserve.new.self.items (invariant_of-self-in_err-add_row c)
