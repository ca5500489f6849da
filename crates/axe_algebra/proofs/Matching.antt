-- Matching modules by the null vectors of a word's value: isomorphic modules have a match, and one nullity.
use Rattle.std.specs.Prelude.{◌≡◌, ◌≢◌, ℕ, ◌<◌, ◌≤◌, List, [], ◌∷◌}
use Rattle.axe_algebra.specs.Field.{Field}
use Rattle.axe_algebra.specs.Vectors.{Vector, Matrix, HasLength, HasShape, zero_vector, unit_vector, times}
use Rattle.axe_algebra.specs.Spans.{InSpan, IsIndependent, IsInverse, IsNullVector}
use Rattle.axe_algebra.specs.Modules.{Module, HasSquareMatrices, AreGenerators}
use Rattle.axe_algebra.specs.Actions.{IsSubAction}
use Rattle.axe_algebra.specs.Words.{Word, IsWordOf, word_value}
use Rattle.axe_algebra.specs.Irreducible.{IsIsomorphism, AreIsomorphic}
use Rattle.axe_algebra.specs.Standard.{IsStandardBasis, AreStandardMatrices}
use Rattle.axe_algebra.specs.NortonTheorems.{SpansNullSpace}
use Rattle.axe_algebra.proofs.ProductLaws.{times_times, times_identity, times_length, identity_row}
use Rattle.axe_algebra.proofs.Spanning.{span_row}
use Rattle.axe_algebra.proofs.Exchange.{exchange}
use Rattle.axe_algebra.proofs.Spaces.{space_has_span}
use Rattle.axe_algebra.proofs.NullSpaces.{null_space_is_space}
use Rattle.axe_algebra.proofs.StandardImages.{isomorphism_carries, carried_independent, isomorphism_carries_null_vectors, isomorphism_keeps_standard_matrices}
use Rattle.axe_algebra.proofs.Isomorphisms.{standard_basis_is_isomorphism}
use Rattle.axe_algebra.proofs.IsomorphismLaws.{inverse_is_isomorphism}
use mathlib.Core.Path.{sym, ◌∙◌, ap, subst}
use native.Mathlib.Omega.{arith}

module _ (F : Field) where
  -- numbers of generators of one module are such of another with equally many
  pub generators_of_same_count : (M N : Module F) → M.count ≡ N.count → (path : List ℕ) → AreGenerators F M path → AreGenerators F N path
  generators_of_same_count M N same [] all = tt
  generators_of_same_count M N same (i ∷ path) all = (subst (λ n. i < n) same all.0, generators_of_same_count M N same path all.1)

  -- and so are words
  pub word_of_same_count : (M N : Module F) → M.count ≡ N.count → (word : Word F) → IsWordOf F M word → IsWordOf F N word
  word_of_same_count M N same [] all = tt
  word_of_same_count M N same (term ∷ word) all = (generators_of_same_count M N same term.1 all.0, word_of_same_count M N same word all.1)

  -- an isomorphism carries nonzero vectors to nonzero vectors
  pub isomorphism_keeps_nonzero : (M N : Module F) (T : Matrix F) → IsIsomorphism F M N T → (v : Vector F) → HasLength F M.dimension v →
      v ≢ zero_vector F → times F M.dimension v T ≢ zero_vector F
  isomorphism_keeps_nonzero M N T iso v length nonzero vanishes = nonzero ((isomorphism_carries F M N T iso).injective v length vanishes)

  -- where no nonzero null vector of a word's value in N has the standard matrices of one in M, the modules are not isomorphic
  pub not_isomorphic_without_match : (M N : Module F) → HasSquareMatrices F M → (word : Word F) → IsWordOf F M word → (v : Vector F) → v ≢ zero_vector F →
      IsNullVector F M.dimension (word_value F M word) v → (A : Module F) → AreStandardMatrices F M v A →
      ((y : Vector F) → y ≢ zero_vector F → IsNullVector F N.dimension (word_value F N word) y → ¬ (AreStandardMatrices F N y A)) →
      ¬ (AreIsomorphic F M N)
  not_isomorphic_without_match M N is word all v nonzero null A S none iso =
      none (times F M.dimension v iso.matrix)
      (isomorphism_keeps_nonzero M N iso.matrix iso.isomorphism v null.length nonzero)
      (isomorphism_carries_null_vectors F M N iso.matrix is iso.isomorphism word all v null)
      (isomorphism_keeps_standard_matrices F M N iso.matrix is iso.isomorphism v null.length A S)

  -- an isomorphism carries rows that span the null space of a word's value to such rows
  pub isomorphism_carries_null_space : (M N : Module F) (T : Matrix F) → HasSquareMatrices F M → HasSquareMatrices F N → IsIsomorphism F M N T →
      (word : Word F) → IsWordOf F M word → (r : ℕ) (b : Matrix F) → SpansNullSpace F M.dimension (word_value F M word) r b →
      SpansNullSpace F N.dimension (word_value F N word) r (λ t. times F M.dimension (b t) T)
  isomorphism_carries_null_space M N T is_M is_N iso word all r b spans = record {
    lengths = λ t. subst (λ n. HasLength F n (times F M.dimension (b t) T)) iso.dimension (times_length F M.dimension M.dimension (b t) T iso.shape.columns);
    forth = space_has_span F (IsNullVector F N.dimension (word_value F N word)) (null_space_is_space F N.dimension (word_value F N word)) r
        (λ t. times F M.dimension (b t) T)
        (λ t below. isomorphism_carries_null_vectors F M N T is_M iso word all (b t) (spans.forth (b t) (span_row F r b t below)));
    back = back;
  }
    where
      S : Matrix F
      S = iso.invertible.inverse

      -- x S is a null vector in M, and x S T is x
      back : (x : Vector F) → IsNullVector F N.dimension (word_value F N word) x → InSpan F r (λ t. times F M.dimension (b t) T) x
      back x null = record { coefficients = within.coefficients; combines = combines }
        where
          moved : IsNullVector F M.dimension (word_value F M word) (times F N.dimension x S)
          moved = isomorphism_carries_null_vectors F N M S is_N (inverse_is_isomorphism F M N T S is_M is_N iso iso.invertible.inverts) word
              (word_of_same_count M N iso.count word all) x null

          within : InSpan F r b (times F N.dimension x S)
          within = spans.back (times F N.dimension x S) moved

          combines : x ≡ times F r within.coefficients (λ t. times F M.dimension (b t) T)
          combines =
              sym (times_identity F M.dimension x (subst (λ n. HasLength F n x) (sym iso.dimension) null.length))
              ∙ ap (times F M.dimension x) (sym iso.invertible.inverts.left)
              ∙ sym (times_times F M.dimension M.dimension x S T)
              ∙ ap (λ (n : ℕ). times F M.dimension (times F n x S) T) iso.dimension
              ∙ ap (λ (y : Vector F). times F M.dimension y T) within.combines
              ∙ times_times F M.dimension r within.coefficients b T

  -- so the null spaces of a word's values in isomorphic modules have bases of one size
  pub isomorphism_keeps_nullity : (M N : Module F) → HasSquareMatrices F M → HasSquareMatrices F N → AreIsomorphic F M N → (word : Word F) → IsWordOf F M word →
      (r : ℕ) (b : Matrix F) (s : ℕ) (d : Matrix F) → SpansNullSpace F M.dimension (word_value F M word) r b → IsIndependent F r b →
      SpansNullSpace F N.dimension (word_value F N word) s d → IsIndependent F s d → r ≡ s
  isomorphism_keeps_nullity M N is_M is_N iso word all r b s d of_M independent_b of_N independent_d = omega (arith, at_most, at_least)
    where
      c : Matrix F
      c t = times F M.dimension (b t) iso.matrix

      carried : SpansNullSpace F N.dimension (word_value F N word) r c
      carried = isomorphism_carries_null_space M N iso.matrix is_M is_N iso.isomorphism word all r b of_M

      independent_c : IsIndependent F r c
      independent_c =
          carried_independent F M N (λ x. times F M.dimension x iso.matrix) (isomorphism_carries F M N iso.matrix iso.isomorphism) r b
          (λ t below. of_M.lengths t) independent_b

      at_most : r ≤ s
      at_most = exchange F r c s d independent_c (λ t below. of_N.back (c t) (carried.forth (c t) (span_row F r c t below)))

      at_least : s ≤ r
      at_least = exchange F s d r c independent_d (λ t below. carried.back (d t) (of_N.forth (d t) (span_row F s d t below)))

  -- the standard matrices of a vector whose standard basis b has as many rows as the dimension
  module _ (M : Module F) (v : Vector F) (is : HasSquareMatrices F M) (length : HasLength F M.dimension v) (b : Matrix F) (A : Module F)
      (shape : HasShape F M.dimension M.dimension b) (S : IsStandardBasis F M v M.dimension b) (acts : IsSubAction F M M.dimension b A) where
    -- are a module
    pub standard_matrices_are_module : HasSquareMatrices F A
    standard_matrices_are_module = record {
      square = λ i below. subst (λ n. HasShape F n n (A.generator i)) (sym acts.dimension) (acts.square i (subst (λ n. i < n) acts.count below));
    }

    iso : IsIsomorphism F A M b
    iso = standard_basis_is_isomorphism F M v is length b A shape S acts

    back : IsIsomorphism F M A iso.invertible.inverse
    back = inverse_is_isomorphism F A M b iso.invertible.inverse standard_matrices_are_module is iso iso.invertible.inverts

    -- the inverse of b carries v to the first unit vector
    carried_to_unit : times F M.dimension v iso.invertible.inverse ≡ unit_vector F 0
    carried_to_unit =
        ap (λ (x : Vector F). times F M.dimension x iso.invertible.inverse) (sym S.first)
        ∙ ap (λ (a : Matrix F). a 0) inverts.right ∙ identity_row F M.dimension 0 S.nonempty
      where
        inverts : IsInverse F M.dimension b iso.invertible.inverse
        inverts = subst (λ n. IsInverse F n b iso.invertible.inverse) acts.dimension iso.invertible.inverts

    -- and they are the standard matrices of their own first unit vector
    pub standard_matrices_of_unit : AreStandardMatrices F A (unit_vector F 0) A
    standard_matrices_of_unit =
        subst (λ (x : Vector F). AreStandardMatrices F A x A) carried_to_unit
        (isomorphism_keeps_standard_matrices F M A iso.invertible.inverse is back v length A
        (record { size = M.dimension; basis = b; standard = S; acts = acts }))

    -- which is a null vector of a word's value where v is
    pub unit_is_null_vector : (word : Word F) → IsWordOf F M word → IsNullVector F M.dimension (word_value F M word) v →
        IsNullVector F A.dimension (word_value F A word) (unit_vector F 0)
    unit_is_null_vector word all null =
        subst (IsNullVector F A.dimension (word_value F A word)) carried_to_unit
        (isomorphism_carries_null_vectors F M A iso.invertible.inverse is back word all v null)
