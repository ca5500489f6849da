-- The sub action on independent rows with an invariant span: exactly one family of matrices.
use Rattle.std.specs.Prelude.{◌≡◌, ℕ, ◌<◌}
use Rattle.axe_algebra.specs.Field.{Field}
use Rattle.axe_algebra.specs.Vectors.{Vector, Matrix, HasShape, times}
use Rattle.axe_algebra.specs.Spans.{IsIndependent}
use Rattle.axe_algebra.specs.Modules.{Module, image, IsInvariant}
use Rattle.axe_algebra.specs.Actions.{IsSubAction}
use Rattle.axe_algebra.proofs.ProductLaws.{times_same}
use Rattle.axe_algebra.proofs.Spanning.{unique_coefficients}
use Rattle.axe_algebra.proofs.Cutting.{coefficient_matrix}
use mathlib.Core.Path.{refl, sym, ◌∙◌, ap, fun_ext}
use native.Mathlib.Omega.{arith}
use native.Mathlib.Decide.{dec_lt}

module _ (F : Field) (M : Module F) (k : ℕ) (b : Matrix F) where
  -- the sub action on independent rows is unique
  pub sub_action_is_unique : (A A' : Module F) → IsIndependent F k b → IsSubAction F M k b A → IsSubAction F M k b A' →
      (i : ℕ) → i < M.count → A.generator i ≡ A'.generator i
  sub_action_is_unique A A' independent S S' i below = fun_ext λ t. fun_ext λ s. at t s (dec_lt t k) (dec_lt s k)
    where
      at : (t s : ℕ) → Dec (t < k) → Dec (s < k) → A.generator i t s ≡ A'.generator i t s
      at t s (yes inside) (yes inside_too) =
          unique_coefficients F k b (A.generator i t) (A'.generator i t) independent (sym (S.acts i t below inside) ∙ S'.acts i t below inside) s inside_too
      at t s (no past) _ = (S.square i below).rows t s (omega arith) ∙ sym ((S'.square i below).rows t s (omega arith))
      at t s (yes inside) (no past) = (S.square i below).columns t s (omega arith) ∙ sym ((S'.square i below).columns t s (omega arith))

  -- the matrix of one generator
  Acts : ℕ → Type 0
  Acts i = (a : Matrix F) × HasShape F k k a × ((t : ℕ) → t < k → image F M (b t) i ≡ times F k (a t) b)

  acting : IsInvariant F M k b → (i : ℕ) → i < M.count → Acts i
  unfolding Acts
  acting invariant i below = coefficient_matrix F k (λ t. image F M (b t) i) k b (λ t inside. invariant.images t i inside below)

  matrix_or_rows : (i : ℕ) → IsInvariant F M k b → Dec (i < M.count) → Matrix F
  unfolding Acts
  matrix_or_rows i invariant (yes below) = (acting invariant i below).0
  matrix_or_rows i invariant (no past) = b

  -- rows with an invariant span have a sub action
  pub sub_action_exists : IsInvariant F M k b → (A : Module F) × IsSubAction F M k b A
  unfolding Acts matrix_or_rows
  sub_action_exists invariant = (
    record { dimension = k; count = M.count; generator = λ i. matrix_or_rows i invariant (dec_lt i M.count) },
    record {
      dimension = refl;
      count = refl;
      square = λ i below. square i below (dec_lt i M.count);
      acts = λ i t below inside. acts i t below inside (dec_lt i M.count);
    },
  )
    where
      square : (i : ℕ) → i < M.count → (decided : Dec (i < M.count)) → HasShape F k k (matrix_or_rows i invariant decided)
      square i below (yes within) = (acting invariant i within).1
      square i below (no past) = absurd (past below)

      acts : (i t : ℕ) → i < M.count → t < k → (decided : Dec (i < M.count)) →
          image F M (b t) i ≡ times F k (matrix_or_rows i invariant decided t) b
      acts i t below inside (yes within) = (acting invariant i within).2 t inside
      acts i t below inside (no past) = absurd (past below)

-- a sub action depends on the rows below k alone
pub sub_action_of_same_rows : (F : Field) (M : Module F) (k : ℕ) (b d : Matrix F) (A : Module F) → ((t : ℕ) → t < k → b t ≡ d t) →
    IsSubAction F M k b A → IsSubAction F M k d A
sub_action_of_same_rows F M k b d A same S = record {
  dimension = S.dimension;
  count = S.count;
  square = S.square;
  acts = λ i t below inside.
      ap (λ (x : Vector F). image F M x i) (sym (same t inside)) ∙ S.acts i t below inside
      ∙ times_same F k (A.generator i t) (A.generator i t) b d (λ s small. refl) same;
}
