use Rattle.std.proofs.Common.{◌≡◌, ℕ, Result, None, sym, ◌∙◌, ap, subst, rules}
use Rattle.std.proofs.lemmas.List.{reverse-reverse}
use Rattle.axe_row.specs.Refusals.{Answers}
use Rattle.axe_row.specs.Rows.{RowValue}
use Rattle.axe_row.specs.declared.refusals.Refusal.{Refusal}
use Rattle.axe_echelon.specs.Echelons.{EchelonValue}
use Rattle.axe_echelon.specs.Mirrored.{mirrored_row}
use Rattle.axe_echelon.specs.Orthogonal.{IsOrthogonalVector, IsMirroredVector}
use Rattle.axe_echelon.proofs.Exits.{answers_more, no_memory}
use Rattle.axe_echelon.proofs.null_spaces.orthogonal_vector.Goals as goal

pub vector_by_rows-requires-clause-no_pivot : goal.vector_by_rows-requires-clause-no_pivot
vector_by_rows-requires-clause-no_pivot c = c.requires.no_pivot

-- a mirrored row is the row where it is read from the last entry to the first
mirrored_back : (e : EchelonValue) (column : ℕ) (v : RowValue) → IsOrthogonalVector e column v → (result : Result RowValue Refusal) →
    Answers None (λ m. m ≡ mirrored_row v) result → Answers None (IsMirroredVector e column) result
mirrored_back e column v orthogonal result is =
    let twice : mirrored_row (mirrored_row v) ≡ v = λ i. record { order = v.order; entries = reverse-reverse v.entries i } in
    answers_more result _ _ is (λ m is_mirrored. subst (IsOrthogonalVector e column) (sym (ap mirrored_row is_mirrored ∙ twice)) orthogonal)

pub returns-in_ok-vector_by_rows-in-None : goal.returns-in_ok-vector_by_rows-in-None
returns-in_ok-vector_by_rows-in-None c =
    let back = mirrored_back c.args.space.now c.args.column c.in_ok-vector_by_rows-in-None.field-0 c.in_ok-vector_by_rows-in-None.ensures in
    search (rules, back)

pub returns-in_err-vector_by_rows-in-None : goal.returns-in_err-vector_by_rows-in-None
returns-in_err-vector_by_rows-in-None c =
    no_memory _ c.from_residual.result _ c.from_residual.ensures.1 c.in_err-vector_by_rows-in-None.ensures

pub returns-in-Some : goal.returns-in-Some
returns-in-Some c = c.vector_by_basis.ensures
