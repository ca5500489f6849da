-- The pairs of the rows of a standard basis that are still to come, where the matrices are those of their own first unit vector.
use Rattle.std.proofs.Common.{◌≡◌, ◌≢◌, ℕ, ◌+◌, ◌<◌, ◌≤◌, ◌⊎◌, inl, inr, sym, ap, subst, ◌∙◌, add-one, arith}
use Rattle.axe_algebra.specs.Field.{Field}
use Rattle.axe_algebra.specs.Vectors.{Vector, times, unit_vector}
use Rattle.axe_algebra.specs.Modules.{Module}
use Rattle.axe_algebra.specs.Standard.{Precedes}
use Rattle.axe_algebra.proofs.PairOrder.{precedes_or_same, nothing_precedes_start, precedes_or_is, nothing_between, precedes_pair, pair_precedes}
use Rattle.axe_algebra.proofs.ProductLaws.{unit_at, unit_length, times_unit}
use Rattle.axe_algebra.proofs.Spanning.{unique_coefficients}
use Rattle.axe_iso.specs.Following.{AreOfUnitVector}
use mathlib.Core.Path.{fun_ext}
use native.Mathlib.Decide.{dec_lt}

-- what precedes the pair after (r, i) precedes (r, i), or is it
pub before_or_same : (a b r i : ℕ) → Precedes a b r (i + 1) → Precedes a b r i ⊎ ((a ≡ r) × (b ≡ i))
before_or_same a b r i before = precedes_or_is a b r i (subst (λ n. Precedes a b r n) (add-one i) before)

module _ (F : Field) (A : Module F) (own : AreOfUnitVector F A) where
  abbrev pairs_row : ℕ → ℕ
  pairs_row = own.standard.rows

  abbrev pairs_generator : ℕ → ℕ
  pairs_generator = own.standard.generators

  inside_basis : (t : ℕ) → t < A.dimension → t < own.size
  inside_basis t below = omega (arith, own.acts.dimension)

  -- in a row of coefficients those of rows with later pairs are 0
  later_is_zero : (r i t : ℕ) → r < A.dimension → i < A.count → 0 < t → t < A.dimension → Precedes r i (pairs_row t) (pairs_generator t) →
      A.generator i r t ≡ F.zero
  later_is_zero r i t inside below positive within later =
      let up_to = own.standard.images r i (inside_basis r inside) below in
      unique_coefficients F own.size own.basis (A.generator i r) up_to.coefficients own.standard.independent
      (sym (own.acts.acts i r below (inside_basis r inside)) ∙ up_to.combines) t (inside_basis t within)
      ∙ up_to.later t positive (inside_basis t within) later

  -- the coefficients of the image of a row's pair are the unit vector of the row
  pub unit_of_pair : (t : ℕ) → 0 < t → t < A.dimension → A.generator (pairs_generator t) (pairs_row t) ≡ unit_vector F t
  unit_of_pair t positive within = fun_ext λ s. at s (dec_lt s own.size)
    where
      below : pairs_generator t < A.count
      below = own.standard.generator-below t positive (inside_basis t within)

      inside : pairs_row t < own.size
      inside = omega (arith, own.standard.earlier t positive (inside_basis t within), inside_basis t within)

      combined : times F own.size (A.generator (pairs_generator t) (pairs_row t)) own.basis ≡ times F own.size (unit_vector F t) own.basis
      combined =
          sym (own.acts.acts (pairs_generator t) (pairs_row t) below inside) ∙ sym (own.standard.equals t positive (inside_basis t within))
          ∙ sym (times_unit F own.size t own.basis (inside_basis t within))

      at : (s : ℕ) → Dec (s < own.size) → A.generator (pairs_generator t) (pairs_row t) s ≡ unit_vector F t s
      at s (yes small) =
          unique_coefficients F own.size own.basis (A.generator (pairs_generator t) (pairs_row t)) (unit_vector F t) own.standard.independent combined s small
      at s (no past) =
          (own.acts.square (pairs_generator t) below).columns (pairs_row t) s (omega arith)
          ∙ sym (unit_length F own.size t (inside_basis t within) s (omega arith))

  -- the rows from number k on have no pairs before (r, i)
  abbrev ToCome : ℕ → ℕ → ℕ → Type 0
  ToCome k r i = (t : ℕ) → k ≤ t → t < A.dimension → ¬ (Precedes (pairs_row t) (pairs_generator t) r i)

  pub all_to_come : (k : ℕ) → ToCome k 0 0
  all_to_come k t from within = nothing_precedes_start (pairs_row t) (pairs_generator t)

  module _ (k r i : ℕ) (some : 0 < k) (to_come : ToCome k r i) (inside : r < A.dimension) (below : i < A.count) where
    module _ (t : ℕ) (from : k ≤ t) (within : t < A.dimension) (nonzero : A.generator i r t ≢ F.zero) where
      -- a coefficient other than 0 past the rows is that of the row of this pair
      pair_of_nonzero : (pairs_row t ≡ r) × (pairs_generator t ≡ i)
      pair_of_nonzero = cases (precedes_or_same (pairs_row t) (pairs_generator t) r i)
        where
          cases : Precedes (pairs_row t) (pairs_generator t) r i ⊎ (Precedes r i (pairs_row t) (pairs_generator t) ⊎ ((pairs_row t ≡ r) × (pairs_generator t ≡ i))) →
              (pairs_row t ≡ r) × (pairs_generator t ≡ i)
          cases (inl before) = absurd (to_come t from within before)
          cases (inr (inl later)) = absurd (nonzero (later_is_zero r i t inside below (omega (arith, some, from)) within later))
          cases (inr (inr same)) = same

      -- which is the next row
      next_is : t ≡ k
      next_is = cases (dec_lt k t)
        where
          cases : Dec (k < t) → t ≡ k
          cases (no past) = omega (arith, from, past)
          cases (yes before) = absurd (to_come k (omega arith) (omega (arith, before, within))
              (precedes_pair (pairs_row k) (pairs_generator k) (pairs_row t) (pairs_generator t) r i pair_of_nonzero
              (own.standard.ascending k t some before (inside_basis t within))))

      pair_of_next : (pairs_row k ≡ r) × (pairs_generator k ≡ i)
      pair_of_next = subst (λ s. (pairs_row s ≡ r) × (pairs_generator s ≡ i)) next_is pair_of_nonzero

      pub next_within : k < A.dimension
      next_within = omega (arith, from, within)

      pub next_unit : A.generator i r ≡ unit_vector F k
      next_unit =
          subst (λ (x : ℕ). A.generator x r ≡ unit_vector F k) pair_of_next.1
          (subst (λ (x : ℕ). A.generator (pairs_generator k) x ≡ unit_vector F k) pair_of_next.0 (unit_of_pair k some next_within))

      pub to_come_past_next : ToCome (k + 1) r (i + 1)
      to_come_past_next s past small =
          nothing_between r i (pairs_row s) (pairs_generator s)
          (pair_precedes (pairs_row k) (pairs_generator k) (pairs_row s) (pairs_generator s) r i pair_of_next
          (own.standard.ascending k s some (omega (arith, past)) (inside_basis s small)))

    -- where no coefficient past the rows is other than 0, this is the pair of no row
    pub to_come_past_known : ((t : ℕ) → k ≤ t → A.generator i r t ≡ F.zero) → ToCome k r (i + 1)
    to_come_past_known zeros t from within before = cases (before_or_same (pairs_row t) (pairs_generator t) r i before)
      where
        unit : (pairs_row t ≡ r) × (pairs_generator t ≡ i) → A.generator i r ≡ unit_vector F t
        unit same =
            subst (λ (x : ℕ). A.generator x r ≡ unit_vector F t) same.1
            (subst (λ (x : ℕ). A.generator (pairs_generator t) x ≡ unit_vector F t) same.0 (unit_of_pair t (omega (arith, some, from)) within))

        cases : Precedes (pairs_row t) (pairs_generator t) r i ⊎ ((pairs_row t ≡ r) × (pairs_generator t ≡ i)) → ⊥
        cases (inl earlier) = to_come t from within earlier
        cases (inr same) = F.one-not-zero (sym (unit_at F t) ∙ ap (λ (x : Vector F). x t) (sym (unit same)) ∙ zeros t from)

  -- a row whose images are to be taken is there
  pub row_is_there : (k r i : ℕ) → 0 < k → ToCome k r i → r < A.dimension → r < k
  row_is_there k r i some to_come inside = cases (dec_lt r k)
    where
      cases : Dec (r < k) → r < k
      cases (yes below) = below
      cases (no past) =
          let within : k < A.dimension = omega (arith, past, inside) in
          absurd (to_come k (omega arith) within (inl (omega (arith, past, own.standard.earlier k some (inside_basis k within)))))

  -- when the images of all rows were taken, none is still to come
  pub none_to_come : (k r : ℕ) → 0 < k → k ≤ A.dimension → A.dimension ≤ r → ToCome k r 0 → k ≡ A.dimension
  none_to_come k r some no_more all to_come = cases (dec_lt k A.dimension)
    where
      cases : Dec (k < A.dimension) → k ≡ A.dimension
      cases (yes within) =
          absurd (to_come k (omega arith) within (inl (omega (arith, within, all, own.standard.earlier k some (inside_basis k within)))))
      cases (no past) = omega (arith, past, no_more)
