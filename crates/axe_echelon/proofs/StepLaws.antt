-- Rows over the seven fields, and the steps that gave the rows of an echelon form.
use Rattle.std.specs.Prelude.{◌≡◌, ℕ, zero, suc, ◌<◌, ◌≤◌, List, [], ◌∷◌, All, map, length, get_or, replicate}
use Rattle.std.proofs.lemmas.List.{get_or-map, length-map, length-replicate}
use Rattle.std.proofs.lemmas.List.Elements.{All-from_get_or}
use Rattle.axe_algebra.specs.Bridge.{element, vector_of, matrix_of}
use Rattle.axe_algebra.specs.Lists.{IsVectorOver}
use Rattle.axe_algebra.specs.Vectors.{zero_vector}
use Rattle.axe_algebra.proofs.ElementNumbers.{element_zero}
use Rattle.axe_algebra.proofs.ListSpans.{independent_rows_are_few}
use Rattle.axe_field.specs.Order.{Order, IsElement}
use Rattle.axe_field.specs.NumberFields.{number_field, gf}
use Rattle.axe_row.specs.Rows.{RowValue, IsRow}
use Rattle.axe_row.proofs.RowLaws.{IsRow-zero}
use Rattle.axe_echelon.specs.Echelons.{EchelonValue, IsEchelon}
use Rattle.axe_echelon.specs.Steps.{inserted_rows, scalars, echelon_of, IsStep, HasSteps}
use Rattle.axe_echelon.specs.declared.Step.{Step}
use mathlib.Core.Path.{refl, sym, ◌∙◌, ap, subst, fun_ext}
use native.Mathlib.Omega.{arith}

-- elements and rows over the seven fields
pub over_of_row : (o : Order) (n : ℕ) (row : RowValue) → row.order ≡ o → IsRow row → length row.entries ≡ n → IsVectorOver (number_field o) n row.entries
unfolding number_field
over_of_row o n row field h long = record {
  length_is = long;
  elements = subst (λ q. All (IsElement q) row.entries) field h.elements;
}

pub is_row_of_over : (o : Order) (n : ℕ) (row : RowValue) → row.order ≡ o → IsVectorOver (number_field o) n row.entries → IsRow row
unfolding number_field
is_row_of_over o n row field over = record { elements = subst (λ q. All (IsElement q) row.entries) (sym field) over.elements }

pub below_of_element : (o : Order) (a : ℕ) → IsElement o a → a < (number_field o).order
unfolding number_field
below_of_element o a below = below

pub element_of_below : (o q : Order) (a : ℕ) → q ≡ o → a < (number_field o).order → IsElement q a
unfolding number_field
element_of_below o q a same below = subst (λ p. IsElement p a) (sym same) below

-- an entry of a list of copies
pub get_or_copies : {A : Type 0} (a : A) (n j : ℕ) → get_or (replicate n a) j a ≡ a
get_or_copies a zero j = refl
get_or_copies a (suc n) zero = refl
get_or_copies a (suc n) (suc j) = get_or_copies a n j

-- a row of zeros
pub zeros_over : (o : Order) (n : ℕ) → IsVectorOver (number_field o) n (replicate n 0)
zeros_over o n = over_of_row o n (record { order = o; entries = replicate n 0 }) refl (IsRow-zero o n) (length-replicate n 0)

pub vector_of_zeros : (o : Order) (n : ℕ) → vector_of (number_field o) (replicate n 0) ≡ zero_vector (gf o)
vector_of_zeros o n = fun_ext λ j. ap (element (number_field o)) (get_or_copies 0 n j) ∙ element_zero (number_field o)

-- a row of a list of steps
pub row_of_steps : (o : Order) (f : Step → List ℕ) (steps : List Step) (i : ℕ) (step : Step) → i < length steps → step ≡ get_or steps i step →
    matrix_of (number_field o) (map f steps) i ≡ vector_of (number_field o) (f step)
row_of_steps o f steps i step below is =
    ap (vector_of (number_field o)) (get_or-map f steps i step [] below ∙ ap f (sym is))

pub scalar_of_steps : (steps : List Step) (i : ℕ) (step : Step) → i < length steps → step ≡ get_or steps i step → get_or (scalars steps) i 0 ≡ step.scalar
scalar_of_steps steps i step below is = get_or-map (λ (s : Step). s.scalar) steps i step 0 below ∙ ap (λ (s : Step). s.scalar) (sym is)

pub length-inserted : (steps : List Step) → length (inserted_rows steps) ≡ length steps
length-inserted steps = length-map steps (λ (s : Step). s.inserted.entries)

-- the steps' facts
pub step_at : (space : EchelonValue) (steps : List Step) (i : ℕ) (step : Step) → HasSteps space steps → i < length steps → step ≡ get_or steps i step →
    IsStep space.order space.cols step
step_at space steps i step has below is = subst (IsStep space.order space.cols) (sym is) (has.each i step below)

-- each step of a list that has one
first_step : (steps : List Step) (i : ℕ) → i < length steps → (step : Step) × (step ≡ get_or steps i step)
first_step [] i below = absurd (omega arith)
first_step (s ∷ rest) zero below = (s, refl)
first_step (s ∷ rest) (suc i) below = first_step rest i (omega arith)

pub inserted_are_over : (o : Order) (n : ℕ) (steps : List Step) → All (IsStep o n) steps → All (IsVectorOver (number_field o) n) (inserted_rows steps)
inserted_are_over o n steps each =
    All-from_get_or (IsVectorOver (number_field o) n) (inserted_rows steps) [] (λ i below. at i (omega (arith, below, length-inserted steps)))
  where
    at : (i : ℕ) → i < length steps → IsVectorOver (number_field o) n (get_or (inserted_rows steps) i [])
    at i inside = found (first_step steps i inside)
      where
        found : (step : Step) × (step ≡ get_or steps i step) → IsVectorOver (number_field o) n (get_or (inserted_rows steps) i [])
        found (step, is) = subst (IsVectorOver (number_field o) n)
            (sym (get_or-map (λ (s : Step). s.inserted.entries) steps i step [] inside))
            (each i step inside).inserted_over

-- the rows that were inserted are an echelon form as callers see it
pub echelon_of_steps : (space : EchelonValue) (steps : List Step) → HasSteps space steps → IsEchelon (echelon_of space steps)
echelon_of_steps space steps has = record {
  some_column = has.well_formed.some_column;
  columns_fit = has.well_formed.columns_fit;
  over = inserted_are_over space.order space.cols steps has.each;
  independent = has.independent;
}

-- there are no more steps than columns
pub steps_fit : (space : EchelonValue) (steps : List Step) → HasSteps space steps → length steps ≤ space.cols
steps_fit space steps has =
    let few = independent_rows_are_few (number_field space.order) space.cols space.rows has.well_formed.over has.well_formed.independent in
    omega (arith, few, has.count)
