-- From a combination of the rows of an echelon form to that of the inserted rows, one step after another from the last.
use Rattle.std.specs.Prelude.{◌≡◌, ◌≢◌, ℕ, suc, ◌<◌, ◌≤◌, List, length, get_or, set, cond, eqb, ltb}
use Rattle.std.proofs.Common.{get_or-set_other, get_or-set_same}
use Rattle.std.proofs.lemmas.Bool.{eq-eqb, ne_eqb, lt-ltb, le-ltb}
use Rattle.std.proofs.lemmas.List.{length-set}
use Rattle.axe_algebra.specs.NumberField.{NumberField}
use Rattle.axe_algebra.specs.Field.{Field}
use Rattle.axe_algebra.specs.Vectors.{Vector, Matrix, HasLength, unit_vector, add_vectors, scale, times}
use Rattle.axe_algebra.specs.Bridge.{element, vector_of, matrix_of}
use Rattle.axe_algebra.specs.Lists.{IsVectorOver}
use Rattle.axe_algebra.proofs.FieldLaws.{zero-add, zero-mul, mul-zero}
use Rattle.axe_algebra.proofs.Sums.{sum_same}
use Rattle.axe_algebra.proofs.ProductLaws.{times-at, times_same, times_unit, times_longer, times_zero, times-add_vectors, times-scale, unit_at, unit_off}
use Rattle.axe_algebra.proofs.ElementNumbers.{element_mul, element_zero, entry-below}
use Rattle.axe_field.specs.Order.{Order, IsElement}
use Rattle.axe_field.specs.Arithmetic.{field_mul}
use Rattle.axe_field.specs.NumberFields.{number_field, gf}
use Rattle.axe_field.proofs.NumberFields.{number_field-mul}
use Rattle.axe_row.specs.Rows.{RowValue, IsRow}
use Rattle.axe_row.specs.Operations.{row_with_multiple}
use Rattle.axe_echelon.specs.Echelons.{EchelonValue}
use Rattle.axe_echelon.specs.Steps.{inserted_rows, multiplier_rows, scalars, IsStep, HasSteps, IsSolved}
use Rattle.axe_echelon.specs.declared.Step.{Step}
use Rattle.axe_echelon.proofs.ClearingLaws.{vector_of_sum}
use Rattle.axe_echelon.proofs.StepLaws.{over_of_row, below_of_element, row_of_steps, scalar_of_steps, step_at, steps_fit}
use mathlib.Core.Path.{refl, sym, ◌∙◌, ap, ap₂, subst, fun_ext}
use native.Mathlib.Omega.{arith}
use native.Mathlib.Decide.{ℕ_discrete, dec_lt}

module _ (F : Field) where
  -- where the rows differ at t alone, and the coefficient there is 0
  pub times_same_but : (r t : ℕ) (d : Vector F) (a b : Matrix F) → d t ≡ F.zero → ((s : ℕ) → s < r → s ≢ t → a s ≡ b s) → times F r d a ≡ times F r d b
  times_same_but r t d a b none others = fun_ext λ j.
      times-at F r d a j ∙ sum_same F r (λ s. F.mul (d s) (a s j)) (λ s. F.mul (d s) (b s j)) (λ s inside. at j s inside (ℕ_discrete s t))
      ∙ sym (times-at F r d b j)
    where
      vanishes : (s : ℕ) (e : F.Element) → s ≡ t → F.mul (d s) e ≡ F.zero
      vanishes s e same = ap (λ x. F.mul x e) (ap d same ∙ none) ∙ zero-mul F e

      at : (j s : ℕ) → s < r → Dec (s ≡ t) → F.mul (d s) (a s j) ≡ F.mul (d s) (b s j)
      at j s inside (yes same) = vanishes s (a s j) same ∙ sym (vanishes s (b s j) same)
      at j s inside (no differs) = ap (λ (x : Vector F). F.mul (d s) (x j)) (others s inside differs)

  -- a vector with 0 at t
  without : ℕ → Vector F → Vector F
  without t d = λ s. cond (eqb t s) F.zero (d s)

  without_at : (t : ℕ) (d : Vector F) → without t d t ≡ F.zero
  unfolding without
  without_at t d = ap (λ b. cond b F.zero (d t)) (eq-eqb t t refl)

  without_off : (t s : ℕ) (d : Vector F) → s ≢ t → without t d s ≡ d s
  unfolding without
  without_off t s d differs = ap (λ b. cond b F.zero (d s)) (ne_eqb t s (λ e. differs (sym e)))

  -- with e at t and a multiple of m added that is 0 there
  with_added : (t : ℕ) (d x m : Vector F) (e : F.Element) → m t ≡ F.zero → x t ≡ e → ((s : ℕ) → s ≢ t → x s ≡ F.add (d s) (F.mul e (m s))) →
      x ≡ add_vectors F (without t d) (scale F e (add_vectors F (unit_vector F t) m))
  with_added t d x m e none placed others = fun_ext λ j. at j (ℕ_discrete j t)
    where
      at : (j : ℕ) → Dec (j ≡ t) → x j ≡ F.add (without t d j) (F.mul e (F.add (unit_vector F t j) (m j)))
      at j (yes same) = subst (λ k. x k ≡ F.add (without t d k) (F.mul e (F.add (unit_vector F t k) (m k)))) (sym same)
          (placed ∙ sym (ap₂ F.add (without_at t d)
          (ap (F.mul e) (ap₂ F.add (unit_at F t) none ∙ F.add-zero F.one) ∙ F.mul-one e)
          ∙ zero-add F e))
      at j (no differs) = others j differs
          ∙ sym (ap₂ F.add (without_off t j d differs)
          (ap (F.mul e) (ap (λ y. F.add y (m j)) (unit_off F t j (λ same. differs (sym same))) ∙ zero-add F (m j))))

  times_with_added : (r t : ℕ) (d m : Vector F) (e : F.Element) (b : Matrix F) → t < r →
      times F r (add_vectors F (without t d) (scale F e (add_vectors F (unit_vector F t) m))) b ≡
      add_vectors F (times F r (without t d) b) (scale F e (add_vectors F (b t) (times F r m b)))
  times_with_added r t d m e b inside =
      times-add_vectors F r (without t d) (scale F e (add_vectors F (unit_vector F t) m)) b
      ∙ ap (add_vectors F (times F r (without t d) b))
      (times-scale F r e (add_vectors F (unit_vector F t) m) b
      ∙ ap (scale F e) (times-add_vectors F r (unit_vector F t) m b
      ∙ ap (λ (x : Vector F). add_vectors F x (times F r m b)) (times_unit F r t b inside)))

  -- row t of a, which is c times the sum of row t of b and a combination of the rows before it, is put in terms of b
  pub solved_at : (r t : ℕ) (a b : Matrix F) (d x m : Vector F) (c : F.Element) → t < r → ((s : ℕ) → s < r → s ≢ t → a s ≡ b s) →
      a t ≡ scale F c (add_vectors F (b t) (times F t m a)) → HasLength F t m → x t ≡ F.mul (d t) c →
      ((s : ℕ) → s ≢ t → x s ≡ F.add (d s) (F.mul (F.mul (d t) c) (m s))) → times F r d a ≡ times F r x b
  solved_at r t a b d x m c inside others row few placed added =
      ap (λ (y : Vector F). times F r y a) split
      ∙ times_with_added r t d (zero_of m) (d t) a inside
      ∙ ap₂ (add_vectors F) (times_same_but r t (without t d) a b (without_at t d) others) scaled
      ∙ sym (times_with_added r t d m (F.mul (d t) c) b inside)
      ∙ ap (λ (y : Vector F). times F r y b) (sym (with_added t d x m (F.mul (d t) c) (few t (omega arith)) placed added))
    where
      zero_of : Vector F → Vector F
      zero_of y = λ j. F.zero

      split : d ≡ add_vectors F (without t d) (scale F (d t) (add_vectors F (unit_vector F t) (zero_of m)))
      split = with_added t d d (zero_of m) (d t) refl refl (λ s differs. sym (ap (F.add (d s)) (mul-zero F (d t)) ∙ F.add-zero (d s)))

      same_rows : times F t m a ≡ times F r m b
      same_rows = times_same F t m m a b (λ s first. refl) (λ s first. others s (omega (arith, first, inside)) (omega (arith, first)))
          ∙ sym (times_longer F t r m b (omega arith) (λ s from below. few s from))

      scaled : scale F (d t) (add_vectors F (a t) (times F r (zero_of m) a)) ≡ scale F (F.mul (d t) c) (add_vectors F (b t) (times F r m b))
      scaled = fun_ext λ j.
          ap (F.mul (d t)) (ap (F.add (a t j)) (ap (λ (y : Vector F). y j) (times_zero F r a)) ∙ F.add-zero (a t j)
          ∙ ap (λ (y : Vector F). y j) row ∙ ap (λ (y : Vector F). F.mul c (F.add (b t j) (y j))) same_rows)
          ∙ sym (F.mul_assoc (d t) c (F.add (b t j) (times F r m b j)))

  -- the rows of w before `left`, and those of v from there on
  pub mixed_rows : ℕ → Matrix F → Matrix F → Matrix F
  mixed_rows left w v = λ s. cond (ltb s left) (w s) (v s)

  pub mixed_before : (left : ℕ) (w v : Matrix F) (s : ℕ) → s < left → mixed_rows left w v s ≡ w s
  unfolding mixed_rows
  mixed_before left w v s below = ap (λ b. cond b (w s) (v s)) (lt-ltb s left below)

  pub mixed_after : (left : ℕ) (w v : Matrix F) (s : ℕ) → left ≤ s → mixed_rows left w v s ≡ v s
  unfolding mixed_rows
  mixed_after left w v s past = ap (λ b. cond b (w s) (v s)) (le-ltb s left past)

  pub mixed_but_one : (t : ℕ) (w v : Matrix F) (s : ℕ) → s ≢ t → mixed_rows (suc t) w v s ≡ mixed_rows t w v s
  mixed_but_one t w v s differs = at (dec_lt s t)
    where
      at : Dec (s < t) → mixed_rows (suc t) w v s ≡ mixed_rows t w v s
      at (yes below) = mixed_before (suc t) w v s (omega arith) ∙ sym (mixed_before t w v s below)
      at (no past) = mixed_after (suc t) w v s (omega (arith, past, differs)) ∙ sym (mixed_after t w v s (omega (arith, past)))

-- the combination of the rows of the echelon form with the first multipliers, as one of those rows before `left` and of
-- the inserted rows from there on
pub record IsSolvedFrom (space : EchelonValue) (steps : List Step) (left : ℕ) (first multipliers : RowValue) : Type 0 where
  pub field : multipliers.order ≡ space.order
  pub over : IsVectorOver (number_field space.order) space.cols multipliers.entries
  pub same : times (gf space.order) (length space.rows) (vector_of (number_field space.order) first.entries) (matrix_of (number_field space.order) space.rows) ≡
      times (gf space.order) (length space.rows) (vector_of (number_field space.order) multipliers.entries)
      (mixed_rows (gf space.order) left (matrix_of (number_field space.order) space.rows) (matrix_of (number_field space.order) (inserted_rows steps)))

pub solved_from_end : (space : EchelonValue) (steps : List Step) (left : ℕ) (row : RowValue) → row.order ≡ space.order → IsVectorOver (number_field space.order) space.cols row.entries →
    length space.rows ≤ left → IsSolvedFrom space steps left row row
solved_from_end space steps left row field over all = record {
  field = field;
  over = over;
  same = times_same (gf space.order) (length space.rows) (vector_of (number_field space.order) row.entries) (vector_of (number_field space.order) row.entries)
      (matrix_of (number_field space.order) space.rows)
      (mixed_rows (gf space.order) left (matrix_of (number_field space.order) space.rows) (matrix_of (number_field space.order) (inserted_rows steps)))
      (λ t below. refl)
      (λ t below. sym (mixed_before (gf space.order) left (matrix_of (number_field space.order) space.rows) (matrix_of (number_field space.order) (inserted_rows steps)) t
      (omega (arith, below, all))));
}

pub solved_from_start : (space : EchelonValue) (steps : List Step) (left : ℕ) (first multipliers : RowValue) → left ≡ 0 →
    IsSolvedFrom space steps left first multipliers → IsSolved space steps first multipliers
solved_from_start space steps left first multipliers none so_far = record {
  field = solved.field;
  over = solved.over;
  same = solved.same
      ∙ times_same (gf space.order) (length space.rows) (vector_of (number_field space.order) multipliers.entries) (vector_of (number_field space.order) multipliers.entries)
      (mixed_rows (gf space.order) 0 (matrix_of (number_field space.order) space.rows) (matrix_of (number_field space.order) (inserted_rows steps)))
      (matrix_of (number_field space.order) (inserted_rows steps)) (λ t below. refl)
      (λ t below. mixed_after (gf space.order) 0 (matrix_of (number_field space.order) space.rows) (matrix_of (number_field space.order) (inserted_rows steps)) t (omega arith));
}
  where
    solved : IsSolvedFrom space steps 0 first multipliers
    solved = subst (λ k. IsSolvedFrom space steps k first multipliers) none so_far

module _ (space : EchelonValue) (steps : List Step) (i : ℕ) (step : Step) (has : HasSteps space steps) (below : i < length steps) (is : step ≡ get_or steps i step) where
  abbrev K : NumberField
  K = number_field space.order

  abbrev w : Matrix (gf space.order)
  w = matrix_of K space.rows

  abbrev v : Matrix (gf space.order)
  v = matrix_of K (inserted_rows steps)

  inside : i < length space.rows
  inside = omega (arith, below, has.count)

  multipliers_are : matrix_of K (multiplier_rows steps) i ≡ vector_of K step.multipliers.entries
  multipliers_are = row_of_steps space.order (λ (s : Step). s.multipliers.entries) steps i step below is

  -- the multiplier of the step's row is 0
  pub solve_step_none : (left : ℕ) (first row : RowValue) (number : ℕ) → left ≡ suc i → IsSolvedFrom space steps left first row → number ≡ get_or row.entries i 0 →
      number ≡ 0 → IsSolvedFrom space steps i first row
  solve_step_none left first row number next_left so_far number_is none = record {
    field = solved.field;
    over = solved.over;
    same = solved.same
        ∙ times_same_but (gf space.order) (length space.rows) i (vector_of K row.entries) (mixed_rows (gf space.order) (suc i) w v) (mixed_rows (gf space.order) i w v)
        (ap (element K) (sym number_is ∙ none) ∙ element_zero K) (λ s first differs. mixed_but_one (gf space.order) i w v s differs);
  }
    where
      solved : IsSolvedFrom space steps (suc i) first row
      solved = subst (λ k. IsSolvedFrom space steps k first row) next_left so_far

  pub solve_step : (left : ℕ) (first row next placed : RowValue) (q : Order) (number coefficient : ℕ) → left ≡ suc i → IsSolvedFrom space steps left first row → q ≡ space.order →
      number ≡ get_or row.entries i 0 → coefficient ≡ field_mul q number step.scalar → IsElement q coefficient →
      next ≡ row_with_multiple row coefficient step.multipliers → length next.entries ≡ length row.entries → IsRow next →
      placed ≡ record { order = next.order; entries = set next.entries i coefficient } → IsRow placed → IsSolvedFrom space steps i first placed
  solve_step left first row next placed q number coefficient next_left so_far same_field number_is coefficient_is is_element next_is long next_row placed_is placed_row = record {
    field = placed_field;
    over = over_of_row space.order space.cols placed placed_field placed_row
        (ap (λ (r : RowValue). length r.entries) placed_is ∙ length-set next.entries i coefficient ∙ next_over.length_is);
    same = solved.same
        ∙ solved_at (gf space.order) (length space.rows) i (mixed_rows (gf space.order) (suc i) w v) (mixed_rows (gf space.order) i w v) (vector_of K row.entries)
        (vector_of K placed.entries) (matrix_of K (multiplier_rows steps) i) (vector_of K (scalars steps) i) inside
        (λ s first differs. mixed_but_one (gf space.order) i w v s differs) row_is (has.combined.few i inside)
        (ap (element K) (ap (λ (r : RowValue). get_or r.entries i 0) placed_is ∙ get_or-set_same next.entries i coefficient 0 place) ∙ product)
        (λ s differs. ap (element K) (ap (λ (r : RowValue). get_or r.entries s 0) placed_is ∙ get_or-set_other next.entries i s coefficient 0 differs)
        ∙ ap (λ (x : Vector (gf space.order)). x s) next_vector
        ∙ ap₂ (λ (e : (gf space.order).Element) (x : Vector (gf space.order)). (gf space.order).add (vector_of K row.entries s) ((gf space.order).mul e (x s))) product (sym multipliers_are));
  }
    where
      solved : IsSolvedFrom space steps (suc i) first row
      solved = subst (λ k. IsSolvedFrom space steps k first row) next_left so_far

      at_i : IsStep space.order space.cols step
      at_i = step_at space steps i step has below is

      next_field : next.order ≡ space.order
      next_field = ap (λ (r : RowValue). r.order) next_is ∙ solved.field

      placed_field : placed.order ≡ space.order
      placed_field = ap (λ (r : RowValue). r.order) placed_is ∙ next_field

      next_over : IsVectorOver K space.cols next.entries
      next_over = over_of_row space.order space.cols next next_field next_row (long ∙ solved.over.length_is)

      place : i < length next.entries
      place = omega (arith, below, steps_fit space steps has, next_over.length_is)

      coefficient_below : coefficient < K.order
      coefficient_below = subst (λ p. coefficient < (number_field p).order) same_field (below_of_element q coefficient is_element)

      product : element K coefficient ≡ (gf space.order).mul (vector_of K row.entries i) (vector_of K (scalars steps) i)
      product =
          ap (element K) (coefficient_is ∙ ap₂ (λ p a. field_mul p a step.scalar) same_field number_is
          ∙ sym (number_field-mul space.order (get_or row.entries i 0) step.scalar))
          ∙ element_mul K (get_or row.entries i 0) step.scalar (entry-below K row.entries i solved.over.elements) at_i.scalar_below
          ∙ ap (λ a. (gf space.order).mul (vector_of K row.entries i) (element K a)) (sym (scalar_of_steps steps i step below is))

      next_vector : vector_of K next.entries ≡ add_vectors (gf space.order) (vector_of K row.entries) (scale (gf space.order) (element K coefficient) (vector_of K step.multipliers.entries))
      next_vector = vector_of_sum space.order space.cols row step.multipliers next coefficient solved.field solved.over at_i.multipliers_over next_is next_over coefficient_below

      row_is : mixed_rows (gf space.order) (suc i) w v i ≡
          scale (gf space.order) (vector_of K (scalars steps) i) (add_vectors (gf space.order) (mixed_rows (gf space.order) i w v i)
          (times (gf space.order) i (matrix_of K (multiplier_rows steps) i) (mixed_rows (gf space.order) (suc i) w v)))
      row_is =
          mixed_before (gf space.order) (suc i) w v i (omega arith) ∙ has.combined.combines i inside
          ∙ ap₂ (λ (x y : Vector (gf space.order)). scale (gf space.order) (vector_of K (scalars steps) i) (add_vectors (gf space.order) x y))
          (sym (mixed_after (gf space.order) i w v i (omega arith)))
          (times_same (gf space.order) i (matrix_of K (multiplier_rows steps) i) (matrix_of K (multiplier_rows steps) i) w (mixed_rows (gf space.order) (suc i) w v) (λ s first. refl)
          (λ s first. sym (mixed_before (gf space.order) (suc i) w v s (omega (arith, first)))))
