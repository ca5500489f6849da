-- Rows that are followed as standard matrices tell, over one field: the first row, one image more, the next row, and the end.
use Rattle.std.proofs.Common.{◌≡◌, ◌≢◌, ℕ, ◌+◌, ◌<◌, ◌≤◌, ◌⊎◌, inl, inr, refl, sym, ap, subst, ◌∙◌, arith}
use Rattle.axe_algebra.specs.Field.{Field}
use Rattle.axe_algebra.specs.Vectors.{Vector, Matrix, HasShape, unit_vector, times, multiply}
use Rattle.axe_algebra.specs.Spans.{IsIndependent}
use Rattle.axe_algebra.specs.Modules.{Module, HasSquareMatrices, image}
use Rattle.axe_algebra.specs.Actions.{IsSubAction}
use Rattle.axe_algebra.specs.Standard.{Precedes, IsStandardBasis, AreStandardMatrices}
use Rattle.axe_algebra.specs.Irreducible.{IsIsomorphism}
use Rattle.axe_algebra.proofs.ProductLaws.{unit_length, times_unit, times_same, times_longer, times_zero_coefficients}
use Rattle.axe_algebra.proofs.SquareMatrices.{invertible_of_rows}
use Rattle.axe_algebra.proofs.StandardImages.{isomorphism_keeps_standard_matrices}
use Rattle.axe_iso.specs.Following.{BeginsWith, IsAsTold, AreOfUnitVector, AreFollowedUpTo}
use Rattle.axe_algebra.proofs.PairOrder.{nothing_precedes_start}
use Rattle.axe_iso.proofs.StillToCome.{before_or_same, all_to_come, next_within, next_unit, to_come_past_next, to_come_past_known, row_is_there, none_to_come}
use mathlib.Core.Path.{fun_ext}
use native.Mathlib.Decide.{dec_lt, ℕ_discrete}

-- ---- rows that are equal as far as they are asked for

module _ (F : Field) (m : ℕ) (b d : Matrix F) (same : (t : ℕ) → t < m → b t ≡ d t) where
  times_same_rows : (c : Vector F) → times F m c b ≡ times F m c d
  times_same_rows c = times_same F m c c b d (λ t below. refl) same

  pub independent_of_same_rows : IsIndependent F m b → IsIndependent F m d
  independent_of_same_rows independent = record { only_zero = λ c vanishes. independent.only_zero c (times_same_rows c ∙ vanishes) }

  pub standard_basis_of_same_rows : (M : Module F) (v : Vector F) → IsStandardBasis F M v m b → IsStandardBasis F M v m d
  standard_basis_of_same_rows M v S = record {
    nonempty = S.nonempty;
    first = sym (same 0 S.nonempty) ∙ S.first;
    independent = independent_of_same_rows S.independent;
    rows = S.rows;
    generators = S.generators;
    earlier = S.earlier;
    generator-below = S.generator-below;
    ascending = S.ascending;
    equals = λ t positive below.
        sym (same t below) ∙ S.equals t positive below
        ∙ ap (λ (x : Vector F). image F M x (S.generators t)) (same (S.rows t) (omega (arith, below, S.earlier t positive below)));
    images = λ r i inside below.
        let up_to = S.images r i inside below in
        record {
          coefficients = up_to.coefficients;
          combines = ap (λ (x : Vector F). image F M x i) (sym (same r inside)) ∙ up_to.combines ∙ times_same_rows up_to.coefficients;
          later = up_to.later;
        };
  }

module _ (F : Field) (M A : Module F) where
  -- ---- the first row

  pub followed_first : (b : Matrix F) → 0 < A.dimension → AreFollowedUpTo F M A 1 b 0 0
  followed_first b positive = record {
    some = omega arith;
    no_more = positive;
    to_come = λ own. all_to_come F A own 1;
    told = λ s j before. absurd (nothing_precedes_start s j before);
    only = λ c first acts t below. subst (λ n. c n ≡ b n) (omega (arith, below)) first;
  }

  -- ---- one image more

  module _ (own : AreOfUnitVector F A) (count : A.count ≡ M.count) (k : ℕ) (b : Matrix F) (r i : ℕ) (followed : AreFollowedUpTo F M A k b r i)
      (there : r < k) (below : i < M.count) where
    inside : r < A.dimension
    inside = omega (arith, there, followed.no_more)

    below_too : i < A.count
    below_too = omega (arith, below, count)

    -- the pair itself, or one before it
    told_more : (l : ℕ) (d : Matrix F) → BeginsWith F k b d → k ≤ l → IsAsTold F M A l d r i →
        (s j : ℕ) → Precedes s j r (i + 1) → j < M.count → IsAsTold F M A l d s j
    told_more l d begins more here s j before within = cases (before_or_same s j r i before)
      where
        cases : Precedes s j r i ⊎ ((s ≡ r) × (j ≡ i)) → IsAsTold F M A l d s j
        cases (inl earlier) = λ c onward. followed.told s j earlier within c (λ t small. onward t (omega (arith, small, more)) ∙ begins t small)
        cases (inr same) =
            subst (λ x. IsAsTold F M A l d x j) (sym same.0) (subst (λ x. IsAsTold F M A l d r x) (sym same.1) here)

    -- the image of row r, where other rows begin with these
    image_in : (c : Matrix F) → BeginsWith F k b c → image F M (c r) i ≡ image F M (b r) i
    image_in c begins = ap (λ (x : Vector F). image F M x i) (begins r there)

    -- its coefficients go past the rows: it is the next row
    pub followed_next : (t : ℕ) → k ≤ t → t < A.dimension → A.generator i r t ≢ F.zero → (d : Matrix F) → BeginsWith F k b d → d k ≡ image F M (b r) i →
        AreFollowedUpTo F M A (k + 1) d r (i + 1)
    followed_next t from within nonzero d begins appended = record {
      some = omega arith;
      no_more = omega (arith, within_too);
      to_come = λ any. to_come_past_next F A any k r i followed.some (followed.to_come any) inside below_too t from within nonzero;
      told = told_more (k + 1) d begins (omega arith) told_here;
      only = λ c first acts s small. only c first acts s small (ℕ_discrete s k);
    }
      where
        within_too : k < A.dimension
        within_too = next_within F A own k r i followed.some (followed.to_come own) inside below_too t from within nonzero

        unit : A.generator i r ≡ unit_vector F k
        unit = next_unit F A own k r i followed.some (followed.to_come own) inside below_too t from within nonzero

        row_k : (c : Matrix F) → times F A.dimension (A.generator i r) c ≡ c k
        row_k c = ap (λ (x : Vector F). times F A.dimension x c) unit ∙ times_unit F A.dimension k c within_too

        told_here : IsAsTold F M A (k + 1) d r i
        told_here c onward =
            image_in c (λ s small. onward s (omega (arith, small)) ∙ begins s small) ∙ sym appended ∙ sym (onward k (omega arith)) ∙ sym (row_k c)

        only : (c : Matrix F) → c 0 ≡ d 0 → IsSubAction F M A.dimension c A → (s : ℕ) → s < k + 1 → Dec (s ≡ k) → c s ≡ d s
        only c first acts s small decided = at decided
          where
            old : BeginsWith F k b c
            old = followed.only c (first ∙ begins 0 followed.some) acts

            at : Dec (s ≡ k) → c s ≡ d s
            at (no other) = old s (omega (arith, small, other)) ∙ sym (begins s (omega (arith, small, other)))
            at (yes e) = subst (λ x. c x ≡ d x) (sym e) (sym (row_k c) ∙ sym (acts.acts i r below inside) ∙ image_in c old ∙ sym appended)

    module _ (zeros : (t : ℕ) → k ≤ t → A.generator i r t ≡ F.zero) where
      -- the coefficients over all rows are those over the first
      short : (c : Matrix F) → BeginsWith F k b c → times F A.dimension (A.generator i r) c ≡ times F k (A.generator i r) b
      short c begins =
          times_longer F k A.dimension (A.generator i r) c followed.no_more (λ t from within. zeros t from)
          ∙ times_same F k (A.generator i r) (A.generator i r) c b (λ t small. refl) begins

      -- they don't: it is the combination of the rows
      pub followed_known : image F M (b r) i ≡ times F k (A.generator i r) b → AreFollowedUpTo F M A k b r (i + 1)
      followed_known combines = record {
        some = followed.some;
        no_more = followed.no_more;
        to_come = λ any. to_come_past_known F A any k r i followed.some (followed.to_come any) inside below_too zeros;
        told = told_more k b (λ t small. refl) (omega arith) (λ c onward. image_in c onward ∙ combines ∙ sym (short c onward));
        only = followed.only;
      }

      -- or it is another vector, and there is no such action
      pub followed_no_more : image F M (b r) i ≢ times F k (A.generator i r) b → (c : Matrix F) → c 0 ≡ b 0 → ¬ (IsSubAction F M A.dimension c A)
      followed_no_more differs c first acts =
          let old = followed.only c first acts in
          differs (sym (image_in c old) ∙ acts.acts i r below inside ∙ short c old)

  -- ---- the next row

  pub followed_row_is_there : (own : AreOfUnitVector F A) (k : ℕ) (b : Matrix F) (r i : ℕ) → AreFollowedUpTo F M A k b r i → r < A.dimension → r < k
  followed_row_is_there own k b r i followed = row_is_there F A own k r i followed.some (followed.to_come own)

  -- ---- no action

  pub no_standard_matrices : (b : Matrix F) (v : Vector F) → b 0 ≡ v → ((c : Matrix F) → c 0 ≡ b 0 → ¬ (IsSubAction F M A.dimension c A)) →
      ¬ (AreStandardMatrices F M v A)
  no_standard_matrices b v first none S =
      none S.basis (S.standard.first ∙ sym first) (subst (λ k. IsSubAction F M k S.basis A) (sym S.acts.dimension) S.acts)

  -- ---- the end

  module _ (own : AreOfUnitVector F A) (count : A.count ≡ M.count) (is_module : HasSquareMatrices F A) (k r : ℕ) (b : Matrix F)
      (all : A.dimension ≤ r) (followed : AreFollowedUpTo F M A k b r 0) where
    pub followed_all : k ≡ A.dimension
    followed_all = none_to_come F A own k r followed.some followed.no_more all (followed.to_come own)

    begins_all : (c : Matrix F) → c 0 ≡ b 0 → IsSubAction F M A.dimension c A → (t : ℕ) → t < A.dimension → c t ≡ b t
    begins_all c first acts t within = followed.only c first acts t (omega (arith, within, followed_all))

    -- the rows of a vector with these standard matrices are independent
    pub followed_independent : (v : Vector F) → b 0 ≡ v → AreStandardMatrices F M v A → IsIndependent F k b
    followed_independent v first S =
        subst (λ n. IsIndependent F n b) (sym followed_all)
        (independent_of_same_rows F A.dimension S.basis b
        (begins_all S.basis (S.standard.first ∙ sym first) (subst (λ n. IsSubAction F M n S.basis A) (sym S.acts.dimension) S.acts))
        (subst (λ n. IsIndependent F n S.basis) (sym S.acts.dimension) S.standard.independent))

    followed_action : IsSubAction F M A.dimension b A
    followed_action = record {
      dimension = refl;
      count = count;
      square = λ i below. is_module.square i (omega (arith, below, count));
      acts = λ i t below within. followed.told t i (inl (omega (arith, within, all))) below b (λ s small. refl);
    }

    module _ (dimension : A.dimension ≡ M.dimension) (square : (i : ℕ) → i < M.count → HasShape F M.dimension M.dimension (M.generator i))
        (shape : HasShape F A.dimension A.dimension b) (independent : IsIndependent F A.dimension b) where
      -- independent rows are an isomorphism
      intertwines : (i : ℕ) → i < A.count → multiply F A.dimension b (M.generator i) ≡ multiply F A.dimension (A.generator i) b
      intertwines i below = fun_ext λ t. at t (dec_lt t A.dimension)
        where
          at : (t : ℕ) → Dec (t < A.dimension) → multiply F A.dimension b (M.generator i) t ≡ multiply F A.dimension (A.generator i) b t
          at t (yes within) =
              ap (λ n. times F n (b t) (M.generator i)) dimension ∙ followed_action.acts i t (omega (arith, below, count)) within
          at t (no past) =
              times_zero_coefficients F A.dimension (b t) (M.generator i) (λ s small. shape.rows t s (omega (arith, past)))
              ∙ sym (times_zero_coefficients F A.dimension (A.generator i t) b (λ s small. (is_module.square i below).rows t s (omega (arith, past))))

      isomorphism : IsIsomorphism F A M b
      isomorphism = record {
        dimension = dimension;
        count = count;
        shape = shape;
        invertible = invertible_of_rows F A.dimension b shape independent;
        intertwines = intertwines;
      }

      positive : 0 < A.dimension
      positive = omega (arith, followed.some, followed.no_more)

      -- which carries the first unit vector to row 0: the matrices are the standard matrices of that
      pub followed_matrices : (v : Vector F) → b 0 ≡ v → AreStandardMatrices F M v A
      followed_matrices v first =
          subst (λ x. AreStandardMatrices F M x A) (times_unit F A.dimension 0 b positive ∙ first)
          (isomorphism_keeps_standard_matrices F A M b is_module isomorphism (unit_vector F 0) (unit_length F A.dimension 0 positive) A own)

      -- and the rows are its standard basis
      pub followed_basis : (v : Vector F) → b 0 ≡ v → IsStandardBasis F M v k b
      followed_basis v first =
          let S : AreStandardMatrices F M v A = followed_matrices v first in
          subst (λ n. IsStandardBasis F M v n b) (sym followed_all)
          (standard_basis_of_same_rows F A.dimension S.basis b
          (begins_all S.basis (S.standard.first ∙ sym first) (subst (λ n. IsSubAction F M n S.basis A) (sym S.acts.dimension) S.acts)) M v
          (subst (λ n. IsStandardBasis F M v n S.basis) (sym S.acts.dimension) S.standard))
