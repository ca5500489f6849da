-- The quotient action modulo a span: exactly one family of matrices satisfies its equation.
use Rattle.std.specs.Prelude.{◌≡◌, ◌≢◌, ℕ, zero, suc, ◌<◌, ◌⊎◌}
use Rattle.axe_algebra.specs.Field.{Field}
use Rattle.axe_algebra.specs.Vectors.{Vector, Matrix, HasLength, HasRowsOfLength, unit_vector, subtract, times}
use Rattle.axe_algebra.specs.Spans.{InSpan}
use Rattle.axe_algebra.specs.Reduced.{IsPivot, IsAscendingListOf, IsReducedBasis, IsZeroAtPivots, IsRepresentative}
use Rattle.axe_algebra.specs.Modules.{Module, HasSquareMatrices, image}
use Rattle.axe_algebra.specs.Actions.{IsFree, unit_vectors, IsQuotientAction}
use Rattle.axe_algebra.proofs.FieldLaws.{mul-zero, neg-neg, neg-zero, zero-add}
use Rattle.axe_algebra.proofs.Sums.{sum_one, sum_zeros}
use Rattle.axe_algebra.proofs.ProductLaws.{times-at, times_same, times_length, unit_at, unit_off}
use Rattle.axe_algebra.proofs.Skipping.{skip_before, put_in, put_in_at, put_in_skip}
use Rattle.axe_algebra.proofs.Spanning.{span_same, span_length}
use Rattle.axe_algebra.proofs.Exchange.{cut_below}
use Rattle.axe_algebra.proofs.ReducedBases.{place_or_none, same_size, same_places, reduced_basis, representative, representative_is_unique}
use Rattle.axe_algebra.proofs.Cutting.{cut_matrix, cut_is_matrix, cut_matrix_row}
use mathlib.Core.Logic.{inl, inr}
use mathlib.Core.Path.{refl, sym, ◌∙◌, ap, ap₂, subst, fun_ext}
use native.Mathlib.Omega.{arith}
use native.Mathlib.Decide.{dec_lt, ℕ_discrete}

-- the numbers below n of a decidable set, in ascending order
pub ascending_list : (P : ℕ → Type 0) → ((j : ℕ) → Dec (P j)) → (n : ℕ) →
    (m : ℕ) × (p : ℕ → ℕ) × IsAscendingListOf (λ j. (j < n) × P j) m p
ascending_list P decide zero = (
  0,
  (λ t. 0),
  record {
    ascending = λ s t order below. absurd (omega arith);
    each = λ t below. absurd (omega arith);
    all = λ j holds. let below = holds.0 in absurd (omega arith);
  },
)
ascending_list P decide (suc n) = extend (ascending_list P decide n) (decide n)
  where
    extend : (m : ℕ) × (p : ℕ → ℕ) × IsAscendingListOf (λ j. (j < n) × P j) m p → Dec (P n) →
        (m : ℕ) × (p : ℕ → ℕ) × IsAscendingListOf (λ j. (j < suc n) × P j) m p
    extend (m, p, list) (no out) = (
      m,
      p,
      record {
        ascending = list.ascending;
        each = λ t below. let below_n = (list.each t below).0 in (omega arith, (list.each t below).1);
        all = λ j holds. list.all j (before j holds.0 holds.1 (ℕ_discrete j n), holds.1);
      },
    )
      where
        before : (j : ℕ) → j < suc n → P j → Dec (j ≡ n) → j < n
        before j below holds (yes e) = absurd (out (subst P e holds))
        before j below holds (no other) = omega arith
    extend (m, p, list) (yes within) = (suc m, q, record { ascending = ascending; each = each; all = all })
      where
        q : ℕ → ℕ
        q = put_in m n p

        q_before : (t : ℕ) → t < m → q t ≡ p t
        q_before t below = ap q (sym (skip_before m t below)) ∙ put_in_skip m n p t

        q_last : q m ≡ n
        q_last = put_in_at m n p

        ascending : (s t : ℕ) → s < t → t < suc m → q s < q t
        ascending s t order below = by_place (ℕ_discrete t m)
          where
            by_place : Dec (t ≡ m) → q s < q t
            by_place (yes e) = let here = (list.each s (omega arith)).0 in omega (arith, ap q e, q_last, q_before s (omega arith))
            by_place (no other) = omega (arith, list.ascending s t order (omega arith), q_before s (omega arith), q_before t (omega arith))

        each : (t : ℕ) → t < suc m → (q t < suc n) × P (q t)
        each t below = by_place (ℕ_discrete t m)
          where
            by_place : Dec (t ≡ m) → (q t < suc n) × P (q t)
            by_place (yes e) = (omega (arith, ap q e, q_last), subst P (sym (ap q e ∙ q_last)) within)
            by_place (no other) =
                let here = list.each t (omega arith) in
                let here_below = here.0 in
                (omega (arith, q_before t (omega arith)), subst P (sym (q_before t (omega arith))) here.1)

        all : (j : ℕ) → (j < suc n) × P j → (t : ℕ) × (t < suc m) × (q t ≡ j)
        all j holds = by_place (ℕ_discrete j n)
          where
            found : (t : ℕ) × (t < m) × (p t ≡ j) → (t : ℕ) × (t < suc m) × (q t ≡ j)
            found (t, below, e) = (t, omega arith, q_before t below ∙ e)

            by_place : Dec (j ≡ n) → (t : ℕ) × (t < suc m) × (q t ≡ j)
            by_place (yes e) = (m, omega arith, q_last ∙ sym e)
            by_place (no other) = let below = holds.0 in found (list.all j (omega arith, holds.1))

module _ (F : Field) where
  -- the entries of a combination of unit vectors: a coefficient at a listed column, 0 at the others
  pub unit_combination_at : (P : ℕ → Type 0) (m : ℕ) (p : ℕ → ℕ) → IsAscendingListOf P m p → (c : Vector F) (s : ℕ) → s < m →
      times F m c (unit_vectors F p) (p s) ≡ c s
  unit_combination_at P m p list c s below =
      times-at F m c (unit_vectors F p) (p s)
      ∙ sum_one F m s (λ t. F.mul (c t) (unit_vector F (p t) (p s))) below
      (λ t inside other. ap (F.mul (c t)) (unit_off F (p t) (p s) (differ t inside other (dec_lt s t))) ∙ mul-zero F (c t))
      ∙ ap (F.mul (c s)) (unit_at F (p s)) ∙ F.mul-one (c s)
    where
      differ : (t : ℕ) → t < m → t ≢ s → Dec (s < t) → p t ≢ p s
      differ t inside other (yes later) = let order = list.ascending s t later inside in omega arith
      differ t inside other (no earlier) = let order = list.ascending t s (omega arith) below in omega arith

  pub unit_combination_off : (m : ℕ) (p : ℕ → ℕ) (c : Vector F) (j : ℕ) → ((t : ℕ) → t < m → p t ≢ j) →
      times F m c (unit_vectors F p) j ≡ F.zero
  unit_combination_off m p c j none =
      times-at F m c (unit_vectors F p) j
      ∙ sum_zeros F m _ (λ t below. ap (F.mul (c t)) (unit_off F (p t) j (none t below)) ∙ mul-zero F (c t))

  module _ (M : Module F) (is : HasSquareMatrices F M) (k : ℕ) (v : Matrix F) (rows : HasRowsOfLength F M.dimension v) where
    -- the combinations of unit vectors of free columns are zero at the pivots
    unit_combination_at_pivots : (m : ℕ) (p : ℕ → ℕ) → IsAscendingListOf (IsFree F M.dimension k v) m p → (c : Vector F) →
        IsZeroAtPivots F k v (times F m c (unit_vectors F p))
    unit_combination_at_pivots m p list c j pivot =
        unit_combination_off m p c j (λ t below e. (list.each t below).no_pivot (subst (IsPivot F k v) (sym e) pivot))

    -- a quotient action has one size
    pub quotient_size_is_unique : (m n : ℕ) (Q Q' : Module F) → IsQuotientAction F M k v m Q → IsQuotientAction F M k v n Q' → m ≡ n
    quotient_size_is_unique m n Q Q' S S' = same_size (IsFree F M.dimension k v) m S.columns n S'.columns S.free S'.free

    -- and one family of matrices
    pub quotient_action_is_unique : (m : ℕ) (Q Q' : Module F) → IsQuotientAction F M k v m Q → IsQuotientAction F M k v m Q' →
        (i : ℕ) → i < M.count → Q.generator i ≡ Q'.generator i
    quotient_action_is_unique m Q Q' S S' i inside = fun_ext λ t. fun_ext λ s. at t s (dec_lt t m) (dec_lt s m)
      where
        same : (t : ℕ) → t < m → S.columns t ≡ S'.columns t
        same = same_places (IsFree F M.dimension k v) m S.columns m S'.columns S.free S'.free

        x : ℕ → Vector F
        x t = times F m (Q.generator i t) (unit_vectors F S.columns)

        y : ℕ → Vector F
        y t = times F m (Q'.generator i t) (unit_vectors F S.columns)

        y_is : (t : ℕ) → times F m (Q'.generator i t) (unit_vectors F S'.columns) ≡ y t
        y_is t = times_same F m (Q'.generator i t) (Q'.generator i t) (unit_vectors F S'.columns) (unit_vectors F S.columns) (λ s below. refl)
            (λ s below. ap (unit_vector F) (sym (same s below)))

        x_is_y : (t : ℕ) → t < m → x t ≡ y t
        x_is_y t below =
            representative_is_unique F M.dimension k v (image F M (unit_vector F (S.columns t)) i) (x t) (y t) rows
            (record { in_coset = S.acts i t inside below; at_pivots = unit_combination_at_pivots m S.columns S.free (Q.generator i t) })
            (record {
              in_coset = span_same F k v (subtract F (image F M (unit_vector F (S.columns t)) i) (y t))
                  (subtract F (image F M (unit_vector F (S'.columns t)) i) (times F m (Q'.generator i t) (unit_vectors F S'.columns)))
                  (ap₂ (subtract F) (ap (λ (j : ℕ). image F M (unit_vector F j) i) (same t below)) (sym (y_is t)))
                  (S'.acts i t inside below);
              at_pivots = unit_combination_at_pivots m S.columns S.free (Q'.generator i t);
            })

        at : (t s : ℕ) → Dec (t < m) → Dec (s < m) → Q.generator i t s ≡ Q'.generator i t s
        at t s (yes below) (yes small) =
            sym (unit_combination_at (IsFree F M.dimension k v) m S.columns S.free (Q.generator i t) s small)
            ∙ ap (λ (z : Vector F). z (S.columns s)) (x_is_y t below)
            ∙ unit_combination_at (IsFree F M.dimension k v) m S.columns S.free (Q'.generator i t) s small
        at t s (no past) _ = (S.square i inside).rows t s (omega arith) ∙ sym ((S'.square i inside).rows t s (omega arith))
        at t s (yes below) (no past) = (S.square i inside).columns t s (omega arith) ∙ sym ((S'.square i inside).columns t s (omega arith))

    -- the free columns, in ascending order
    pub free_columns : (m : ℕ) × (p : ℕ → ℕ) × IsAscendingListOf (IsFree F M.dimension k v) m p
    free_columns = by_basis (reduced_basis F M.dimension k v rows)
      where
        by_basis : (r : ℕ) × (w : Matrix F) × HasRowsOfLength F M.dimension w × IsReducedBasis F k v r w →
            (m : ℕ) × (p : ℕ → ℕ) × IsAscendingListOf (IsFree F M.dimension k v) m p
        by_basis (r, w, lengths, basis) = listed (ascending_list (λ j. ¬ (IsPivot F k v j)) (λ j. decide j (place_or_none r basis.pivots j)) M.dimension)
          where
            none : (j : ℕ) → ((t : ℕ) → t < r → basis.pivots t ≢ j) → (t : ℕ) × (t < r) × (basis.pivots t ≡ j) → ⊥
            none j all_other (t, below, e) = all_other t below e

            decide : (j : ℕ) → ((t : ℕ) × (t < r) × (basis.pivots t ≡ j)) ⊎ ((t : ℕ) → t < r → basis.pivots t ≢ j) → Dec (¬ (IsPivot F k v j))
            decide j (inl (t, below, e)) = no λ never. never (subst (IsPivot F k v) e (basis.are_pivots.each t below))
            decide j (inr all_other) = yes λ pivot. none j all_other (basis.are_pivots.all j pivot)

            listed : (m : ℕ) × (p : ℕ → ℕ) × IsAscendingListOf (λ j. (j < M.dimension) × ¬ (IsPivot F k v j)) m p →
                (m : ℕ) × (p : ℕ → ℕ) × IsAscendingListOf (IsFree F M.dimension k v) m p
            listed (m, p, list) = (
              m,
              p,
              record {
                ascending = list.ascending;
                each = λ t below. record { below = (list.each t below).0; no_pivot = (list.each t below).1 };
                all = λ j free. list.all j (free.below, free.no_pivot);
              },
            )

    -- a vector that is zero at the pivots is the combination of the unit vectors of free columns
    by_free_columns : (m : ℕ) (p : ℕ → ℕ) → IsAscendingListOf (IsFree F M.dimension k v) m p → (y : Vector F) → HasLength F M.dimension y →
        IsZeroAtPivots F k v y → ((j : ℕ) → Dec (IsPivot F k v j)) → (c : Vector F) → ((s : ℕ) → s < m → c s ≡ y (p s)) →
        times F m c (unit_vectors F p) ≡ y
    by_free_columns m p list y length at_pivots decide c same = fun_ext λ j. at j (place_or_none m p j) (dec_lt j M.dimension) (decide j)
      where
        never : (j : ℕ) → ((t : ℕ) → t < m → p t ≢ j) → (t : ℕ) × (t < m) × (p t ≡ j) → ⊥
        never j none (t, below, e) = none t below e

        at : (j : ℕ) → ((t : ℕ) × (t < m) × (p t ≡ j)) ⊎ ((t : ℕ) → t < m → p t ≢ j) → Dec (j < M.dimension) → Dec (IsPivot F k v j) →
            times F m c (unit_vectors F p) j ≡ y j
        at j (inl (s, below, e)) _ _ =
            ap (times F m c (unit_vectors F p)) (sym e) ∙ unit_combination_at (IsFree F M.dimension k v) m p list c s below ∙ same s below ∙ ap y e
        at j (inr none) _ (yes pivot) = unit_combination_off m p c j none ∙ sym (at_pivots j pivot)
        at j (inr none) (no past) _ = unit_combination_off m p c j none ∙ sym (length j (omega arith))
        at j (inr none) (yes below) (no out) = absurd (never j none (list.all j (record { below = below; no_pivot = out })))

    -- pivots are decidable
    pub pivot_or_not : (j : ℕ) → Dec (IsPivot F k v j)
    pivot_or_not j = by_basis (reduced_basis F M.dimension k v rows)
      where
        by_basis : (r : ℕ) × (w : Matrix F) × HasRowsOfLength F M.dimension w × IsReducedBasis F k v r w → Dec (IsPivot F k v j)
        by_basis (r, w, lengths, basis) = decide (place_or_none r basis.pivots j)
          where
            none : ((t : ℕ) → t < r → basis.pivots t ≢ j) → (t : ℕ) × (t < r) × (basis.pivots t ≡ j) → ⊥
            none all_other (t, below, e) = all_other t below e

            decide : ((t : ℕ) × (t < r) × (basis.pivots t ≡ j)) ⊎ ((t : ℕ) → t < r → basis.pivots t ≢ j) → Dec (IsPivot F k v j)
            decide (inl (t, below, e)) = yes (subst (IsPivot F k v) e (basis.are_pivots.each t below))
            decide (inr all_other) = no λ pivot. none all_other (basis.are_pivots.all j pivot)

    -- there is a quotient action modulo every span
    pub quotient_action_exists : (m : ℕ) × (Q : Module F) × IsQuotientAction F M k v m Q
    quotient_action_exists = by_columns free_columns
      where
        by_columns : (m : ℕ) × (p : ℕ → ℕ) × IsAscendingListOf (IsFree F M.dimension k v) m p → (m : ℕ) × (Q : Module F) × IsQuotientAction F M k v m Q
        by_columns (m, p, list) = (
          m,
          Q,
          record {
            dimension = refl;
            count = refl;
            square = λ i inside. cut_is_matrix F m m (coefficients i);
            columns = p;
            free = list;
            acts = acts;
          },
        )
          where
            moved : ℕ → ℕ → Vector F
            moved i t = image F M (unit_vector F (p t)) i

            rest : (i t : ℕ) → (y : Vector F) × IsRepresentative F k v (moved i t) y
            rest i t = representative F M.dimension k v (moved i t) rows

            coefficients : ℕ → Matrix F
            coefficients i t s = (rest i t).0 (p s)

            Q : Module F
            Q = record { dimension = m; count = M.count; generator = λ i. cut_matrix F m m (coefficients i) }

            rest_length : (i t : ℕ) → i < M.count → HasLength F M.dimension (rest i t).0
            rest_length i t inside j past =
                sym (neg-neg F ((rest i t).0 j))
                ∙ ap F.neg (sym (zero-add F (F.neg ((rest i t).0 j)))
                ∙ ap (λ z. F.add z (F.neg ((rest i t).0 j)))
                (sym (times_length F M.dimension M.dimension (unit_vector F (p t)) (M.generator i) (is.square i inside).columns j past))
                ∙ span_length F M.dimension k v (subtract F (moved i t) (rest i t).0) rows (rest i t).1.in_coset j past)
                ∙ neg-zero F

            acts : (i t : ℕ) → i < M.count → t < m →
                InSpan F k v (subtract F (moved i t) (times F m (cut_matrix F m m (coefficients i) t) (unit_vectors F p)))
            acts i t inside below =
                span_same F k v _ (subtract F (moved i t) (rest i t).0)
                (ap (subtract F (moved i t))
                (by_free_columns m p list (rest i t).0 (rest_length i t inside) (rest i t).1.at_pivots pivot_or_not
                (cut_matrix F m m (coefficients i) t)
                (λ s small. ap (λ (z : Vector F). z s) (cut_matrix_row F m m (coefficients i) t below) ∙ cut_below F m (coefficients i t) s small)))
                (rest i t).1.in_coset
