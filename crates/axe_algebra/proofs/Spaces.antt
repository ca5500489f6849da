-- Spaces of vectors as sets: what is closed under sums and multiples holds every combination.
use Rattle.std.specs.Prelude.{◌≡◌, ℕ, zero, suc, ◌<◌, ◌≤◌, ◌⊎◌, ◌+◌, ◌-◌, cond, ltb}
use Rattle.axe_algebra.specs.Field.{Field}
use Rattle.axe_algebra.specs.Vectors.{Vector, Matrix, HasRowsOfLength, zero_vector, add_vectors, scale, times}
use Rattle.axe_algebra.specs.Spans.{InSpan, IsIndependent, IsDependent}
use Rattle.axe_algebra.proofs.ProductLaws.{times_none, times_more}
use Rattle.axe_algebra.proofs.Spanning.{span_zero, span_add, span_scale, span_row}
use Rattle.axe_algebra.proofs.Elimination.{eliminate}
use Rattle.std.proofs.lemmas.Bool.{lt-ltb, le-ltb}
use mathlib.Core.Logic.{inl, inr}
use mathlib.Core.Path.{sym, ◌∙◌, ap, subst}
use native.Mathlib.Omega.{arith}
use native.Mathlib.Decide.{dec_lt}

-- a set of vectors that is a space: zero, sums and multiples stay in it
pub record IsSpace (F : Field) (P : Vector F → Type 0) : Type 0 where
  pub zero : P (zero_vector F)
  pub sums : (x y : Vector F) → P x → P y → P (add_vectors F x y)
  pub multiples : (c : F.Element) (x : Vector F) → P x → P (scale F c x)

module _ (F : Field) where
  -- a space with the rows has every combination of them
  pub space_has_times : (P : Vector F → Type 0) → IsSpace F P → (k : ℕ) (c : Vector F) (v : Matrix F) →
      ((t : ℕ) → t < k → P (v t)) → P (times F k c v)
  space_has_times P space zero c v rows = subst P (sym (times_none F c v)) space.zero
  space_has_times P space (suc k) c v rows = subst P (sym (times_more F k c v))
      (space.sums (times F k c v) (scale F (c k) (v k)) (space_has_times P space k c v (λ t below. rows t (omega arith)))
      (space.multiples (c k) (v k) (rows k (omega arith))))

  -- a space with the rows has their span
  pub space_has_span : (P : Vector F → Type 0) → IsSpace F P → (k : ℕ) (v : Matrix F) →
      ((t : ℕ) → t < k → P (v t)) → (x : Vector F) → InSpan F k v x → P x
  space_has_span P space k v rows x within =
      subst P (sym within.combines) (space_has_times P space k within.coefficients v rows)

  -- a span is a space
  pub span_is_space : (k : ℕ) (v : Matrix F) → IsSpace F (InSpan F k v)
  span_is_space k v = record { zero = span_zero F k v; sums = span_add F k v; multiples = span_scale F k v }

-- k rows of v and after them those of w
unfoldable pub stacked : (F : Field) → ℕ → Matrix F → Matrix F → Matrix F
stacked F k v w = λ s. cond (ltb s k) (v s) (w (s - k))

module _ (F : Field) where
  pub stacked_first : (k : ℕ) (v w : Matrix F) (s : ℕ) → s < k → stacked F k v w s ≡ v s
  unfolding stacked
  stacked_first k v w s below = ap (λ b. cond b (v s) (w (s - k))) (lt-ltb s k below)

  pub stacked_second : (k : ℕ) (v w : Matrix F) (s : ℕ) → stacked F k v w (k + s) ≡ w s
  unfolding stacked
  stacked_second k v w s =
      let back : (k + s) - k ≡ s = omega arith in
      ap (λ b. cond b (v (k + s)) (w ((k + s) - k))) (le-ltb (k + s) k (omega arith)) ∙ ap w back

  -- what holds of the rows of both holds of each stacked row
  pub each_stacked : (P : Vector F → Type 0) (k m : ℕ) (v w : Matrix F) → ((s : ℕ) → s < k → P (v s)) → ((s : ℕ) → s < m → P (w s)) →
      (s : ℕ) → s < k + m → P (stacked F k v w s)
  each_stacked P k m v w first second s below = by_place (dec_lt s k)
    where
      by_place : Dec (s < k) → P (stacked F k v w s)
      by_place (yes before) = subst P (sym (stacked_first k v w s before)) (first s before)
      by_place (no past) =
          let place : k + (s - k) ≡ s = omega arith in
          subst (λ r. P (stacked F k v w r)) place (subst P (sym (stacked_second k v w (s - k))) (second (s - k) (omega arith)))

  -- the first rows' span lies in that of the stacked rows
  pub first_in_stacked : (k m : ℕ) (v w : Matrix F) (x : Vector F) → InSpan F k v x → InSpan F (k + m) (stacked F k v w) x
  first_in_stacked k m v w = space_has_span F (InSpan F (k + m) (stacked F k v w)) (span_is_space F (k + m) (stacked F k v w)) k v
      λ t below. subst (InSpan F (k + m) (stacked F k v w)) (stacked_first k v w t below) (span_row F (k + m) (stacked F k v w) t (omega arith))

  -- and so does that of the rows after them
  pub second_in_stacked : (k m : ℕ) (v w : Matrix F) (x : Vector F) → InSpan F m w x → InSpan F (k + m) (stacked F k v w) x
  second_in_stacked k m v w = space_has_span F (InSpan F (k + m) (stacked F k v w)) (span_is_space F (k + m) (stacked F k v w)) m w
      λ t below. subst (InSpan F (k + m) (stacked F k v w)) (stacked_second k v w t) (span_row F (k + m) (stacked F k v w) (k + t) (omega arith))

  -- independent rows of length n are at most n
  pub independent_at_most : (n k : ℕ) (v : Matrix F) → HasRowsOfLength F n v → IsIndependent F k v → k ≤ n
  independent_at_most n k v rows independent = by_elimination (eliminate F n k v rows)
    where
      by_elimination : IsDependent F k v ⊎ (IsIndependent F k v × (k ≤ n)) → k ≤ n
      by_elimination (inl d) = absurd (d.nonzero (independent.only_zero d.coefficients d.vanishes d.place d.place-below))
      by_elimination (inr (again, within)) = within
