-- A vector has at most one standard basis, and one family of standard matrices.
use Rattle.std.specs.Prelude.{◌≡◌, ℕ, zero, suc, ◌<◌, ◌≤◌, ◌⊎◌}
use Rattle.axe_algebra.specs.Field.{Field}
use Rattle.axe_algebra.specs.Vectors.{Vector, Matrix}
use Rattle.axe_algebra.specs.Modules.{Module, image, IsInvariant}
use Rattle.axe_algebra.specs.Actions.{IsSubAction}
use Rattle.axe_algebra.specs.Standard.{Precedes, InSpanUpTo, IsStandardBasis, AreStandardMatrices}
use Rattle.axe_algebra.proofs.PairOrder.{precedes_trans, precedes_or_same}
use Rattle.axe_algebra.proofs.ProductLaws.{times_same, times_longer}
use Rattle.axe_algebra.proofs.SubActions.{sub_action_is_unique, sub_action_of_same_rows}
use Rattle.axe_algebra.proofs.NullSpaces.{row_not_in_earlier_span}
use mathlib.Core.Logic.{inl, inr}
use mathlib.Core.Path.{refl, sym, ◌∙◌, ap, ap₂, subst}
use native.Mathlib.Omega.{arith}
use native.Mathlib.Decide.{dec_lt, ℕ_discrete}

-- two lists of rows, and the pairs that made them, agree below t
record Agree (F : Field) (b b' : Matrix F) (rows rows' generators generators' : ℕ → ℕ) (t : ℕ) : Type 0 where
  vectors : (s : ℕ) → s < t → b s ≡ b' s
  pairs : (s : ℕ) → 0 < s → s < t → (rows s ≡ rows' s) × (generators s ≡ generators' s)

module _ (F : Field) (M : Module F) (v : Vector F) where
  -- in a standard basis that agrees with another below t, the pair of t doesn't come before all later pairs of the other
  no_earlier_pair : (m m' : ℕ) (b b' : Matrix F) (S : IsStandardBasis F M v m b) (S' : IsStandardBasis F M v m' b') (t : ℕ) →
      0 < t → t < m → t ≤ m' → ((s : ℕ) → s < t → b s ≡ b' s) →
      ¬ ((s : ℕ) → t ≤ s → s < m' → Precedes (S.rows t) (S.generators t) (S'.rows s) (S'.generators s))
  no_earlier_pair m m' b b' S S' t positive below within agree before =
      row_not_in_earlier_span F m b S.independent t below up_to.coefficients
      (S.equals t positive below
      ∙ ap (λ (x : Vector F). image F M x i) (agree r (S.earlier t positive below))
      ∙ up_to.combines
      ∙ times_longer F t m' up_to.coefficients b' within (λ s from inside. up_to.later s (omega arith) inside (before s from inside))
      ∙ times_same F t up_to.coefficients up_to.coefficients b' b (λ s inside. refl) (λ s inside. sym (agree s inside)))
    where
      r : ℕ
      r = S.rows t

      i : ℕ
      i = S.generators t

      earlier : r < t
      earlier = S.earlier t positive below

      up_to : InSpanUpTo F m' b' S'.rows S'.generators r i (image F M (b' r) i)
      up_to = S'.images r i (omega arith) (S.generator-below t positive below)

  -- later pairs come after that of t
  after_pair : (m : ℕ) (b : Matrix F) (S : IsStandardBasis F M v m b) (a c t : ℕ) → 0 < t → Precedes a c (S.rows t) (S.generators t) →
      (s : ℕ) → t ≤ s → s < m → Precedes a c (S.rows s) (S.generators s)
  after_pair m b S a c t positive first s from below = by_place (ℕ_discrete t s)
    where
      by_place : Dec (t ≡ s) → Precedes a c (S.rows s) (S.generators s)
      by_place (yes e) = subst (λ k. Precedes a c (S.rows k) (S.generators k)) e first
      by_place (no other) =
          precedes_trans a c (S.rows t) (S.generators t) (S.rows s) (S.generators s) first (S.ascending t s positive (omega arith) below)

  -- standard bases that agree below t agree at t
  agree_more : (m m' : ℕ) (b b' : Matrix F) (S : IsStandardBasis F M v m b) (S' : IsStandardBasis F M v m' b') (t : ℕ) → t < m → t < m' →
      Agree F b b' S.rows S'.rows S.generators S'.generators t → Agree F b b' S.rows S'.rows S.generators S'.generators (suc t)
  agree_more m m' b b' S S' t below below' agree = by_place (ℕ_discrete t 0)
    where
      with_pair : (b t ≡ b' t) → (0 < t → (S.rows t ≡ S'.rows t) × (S.generators t ≡ S'.generators t)) →
          Agree F b b' S.rows S'.rows S.generators S'.generators (suc t)
      with_pair vector pair = record {
        vectors = λ s inside. vector_at s inside (ℕ_discrete s t);
        pairs = λ s positive inside. pair_at s positive inside (ℕ_discrete s t);
      }
        where
          vector_at : (s : ℕ) → s < suc t → Dec (s ≡ t) → b s ≡ b' s
          vector_at s inside (yes e) = subst (λ k. b k ≡ b' k) (sym e) vector
          vector_at s inside (no other) = agree.vectors s (omega arith)

          pair_at : (s : ℕ) → 0 < s → s < suc t → Dec (s ≡ t) → (S.rows s ≡ S'.rows s) × (S.generators s ≡ S'.generators s)
          pair_at s positive inside (yes e) =
              subst (λ k. (S.rows k ≡ S'.rows k) × (S.generators k ≡ S'.generators k)) (sym e) (pair (omega arith))
          pair_at s positive inside (no other) = agree.pairs s positive (omega arith)

      by_pair : 0 < t →
          Precedes (S.rows t) (S.generators t) (S'.rows t) (S'.generators t)
          ⊎ (Precedes (S'.rows t) (S'.generators t) (S.rows t) (S.generators t)
          ⊎ ((S.rows t ≡ S'.rows t) × (S.generators t ≡ S'.generators t))) →
          Agree F b b' S.rows S'.rows S.generators S'.generators (suc t)
      by_pair positive (inl first) =
          absurd (no_earlier_pair m m' b b' S S' t positive below (omega arith) agree.vectors
          (after_pair m' b' S' (S.rows t) (S.generators t) t positive first))
      by_pair positive (inr (inl first)) =
          absurd (no_earlier_pair m' m b' b S' S t positive below' (omega arith) (λ s inside. sym (agree.vectors s inside))
          (after_pair m b S (S'.rows t) (S'.generators t) t positive first))
      by_pair positive (inr (inr same)) =
          with_pair
          (S.equals t positive below
          ∙ ap₂ (image F M) (agree.vectors (S.rows t) (S.earlier t positive below) ∙ ap b' same.0) same.1
          ∙ sym (S'.equals t positive below'))
          (λ positive. same)

      by_place : Dec (t ≡ 0) → Agree F b b' S.rows S'.rows S.generators S'.generators (suc t)
      by_place (yes e) = with_pair (ap b e ∙ S.first ∙ sym S'.first ∙ ap b' (sym e)) (λ positive. absurd (omega arith))
      by_place (no other) = by_pair (omega arith) (precedes_or_same (S.rows t) (S.generators t) (S'.rows t) (S'.generators t))

  -- two standard bases of one vector agree as far as both reach
  agree_all : (m m' : ℕ) (b b' : Matrix F) (S : IsStandardBasis F M v m b) (S' : IsStandardBasis F M v m' b') (t : ℕ) → t ≤ m → t ≤ m' →
      Agree F b b' S.rows S'.rows S.generators S'.generators t
  agree_all m m' b b' S S' zero within within' = record {
    vectors = λ s inside. absurd (omega arith);
    pairs = λ s positive inside. absurd (omega arith);
  }
  agree_all m m' b b' S S' (suc t) within within' =
      agree_more m m' b b' S S' t (omega arith) (omega arith) (agree_all m m' b b' S S' t (omega arith) (omega arith))

  -- so neither is longer
  not_longer : (m m' : ℕ) (b b' : Matrix F) (S : IsStandardBasis F M v m b) (S' : IsStandardBasis F M v m' b') → ¬ (m < m')
  not_longer m m' b b' S S' longer =
      no_earlier_pair m' m b' b S' S m S.nonempty longer (omega arith)
      (λ s inside. sym ((agree_all m m' b b' S S' m (omega arith) (omega arith)).vectors s inside))
      (λ s from below. absurd (omega arith))

  -- a vector has at most one standard basis
  pub standard_basis_size_is_unique : (m m' : ℕ) (b b' : Matrix F) → IsStandardBasis F M v m b → IsStandardBasis F M v m' b' → m ≡ m'
  standard_basis_size_is_unique m m' b b' S S' =
      let forth = not_longer m m' b b' S S' in
      let back = not_longer m' m b' b S' S in
      by_order forth back (dec_lt m m') (dec_lt m' m)
    where
      by_order : ¬ (m < m') → ¬ (m' < m) → Dec (m < m') → Dec (m' < m) → m ≡ m'
      by_order forth back (yes p) _ = absurd (forth p)
      by_order forth back (no p) (yes q) = absurd (back q)
      by_order forth back (no p) (no q) = omega arith

  pub standard_basis_is_unique : (m m' : ℕ) (b b' : Matrix F) → IsStandardBasis F M v m b → IsStandardBasis F M v m' b' →
      (t : ℕ) → t < m → b t ≡ b' t
  standard_basis_is_unique m m' b b' S S' =
      let same = standard_basis_size_is_unique m m' b b' S S' in
      (agree_all m m' b b' S S' m (omega arith) (omega arith)).vectors

  -- the span of a standard basis is invariant
  pub standard_basis_is_invariant : (m : ℕ) (b : Matrix F) → IsStandardBasis F M v m b → IsInvariant F M m b
  standard_basis_is_invariant m b S = record {
    images = λ t i below inside.
        let up_to = S.images t i below inside in
        record { coefficients = up_to.coefficients; combines = up_to.combines };
  }

  -- a vector has at most one family of standard matrices
  pub standard_dimension_is_unique : (A A' : Module F) → AreStandardMatrices F M v A → AreStandardMatrices F M v A' → A.dimension ≡ A'.dimension
  standard_dimension_is_unique A A' S S' =
      S.acts.dimension ∙ standard_basis_size_is_unique S.size S'.size S.basis S'.basis S.standard S'.standard ∙ sym S'.acts.dimension

  pub standard_matrices_are_unique : (A A' : Module F) → AreStandardMatrices F M v A → AreStandardMatrices F M v A' →
      (i : ℕ) → i < M.count → A.generator i ≡ A'.generator i
  standard_matrices_are_unique A A' S S' =
      sub_action_is_unique F M S.size S.basis A A' S.standard.independent S.acts
      (sub_action_of_same_rows F M S.size S'.basis S.basis A'
      (λ t below. sym (standard_basis_is_unique S.size S'.size S.basis S'.basis S.standard S'.standard t below))
      (subst (λ k. IsSubAction F M k S'.basis A') (sym (standard_basis_size_is_unique S.size S'.size S.basis S'.basis S.standard S'.standard)) S'.acts))
