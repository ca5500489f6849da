-- Matching a module by the points of a null space: what a match shows, and what it shows that no point matches; the facts that
-- the standard matrices of a null vector bring with them.
use Rattle.std.specs.Prelude.{◌≡◌, ◌≢◌, ℕ, ◌<◌, List, length}
use Rattle.axe_algebra.specs.NumberField.{NumberField}
use Rattle.axe_algebra.specs.Field.{Field}
use Rattle.axe_algebra.specs.Vectors.{Vector, Matrix, HasLength, HasShape, zero_vector, scale, times}
use Rattle.axe_algebra.specs.Spans.{InSpan, IsIndependent, IsNullVector}
use Rattle.axe_algebra.specs.Modules.{Module, HasSquareMatrices, image}
use Rattle.axe_algebra.specs.Actions.{IsSubAction}
use Rattle.axe_algebra.specs.Words.{Word, IsWordOf, word_value}
use Rattle.axe_algebra.specs.Irreducible.{IsIsomorphism, AreIsomorphic}
use Rattle.axe_algebra.specs.Standard.{IsStandardBasis, AreStandardMatrices}
use Rattle.axe_algebra.specs.NortonTheorems.{SpansNullSpace}
use Rattle.axe_algebra.specs.Bridge.{field_of, matrix_of}
use Rattle.axe_algebra.specs.Lists.{IsMatrixOver}
use Rattle.axe_algebra.specs.PointsOfLists.{points}
use Rattle.axe_algebra.specs.PointTheorems.{IsMultipleOfPoint}
use Rattle.axe_algebra.proofs.FieldLaws.{mul-zero, inv-mul, one-mul}
use Rattle.axe_algebra.proofs.ProductLaws.{times_same}
use Rattle.axe_algebra.proofs.StandardBases.{standard_basis_size_is_unique, standard_basis_is_unique}
use Rattle.axe_algebra.proofs.StandardImages.{isomorphism_carries, carried_independent, multiple_keeps_standard_matrices}
use Rattle.axe_algebra.proofs.Isomorphisms.{standard_basis_is_isomorphism}
use Rattle.axe_algebra.proofs.IsomorphismLaws.{inverse_is_isomorphism}
use Rattle.axe_algebra.proofs.Matching.{not_isomorphic_without_match, isomorphism_carries_null_space, standard_matrices_are_module}
use Rattle.axe_algebra.proofs.PointSpans.{spanned_are_multiples}
use mathlib.Core.Path.{refl, sym, ◌∙◌, ap, subst, fun_ext}

module _ (F : Field) where
  -- an action on rows is one on the same rows
  pub sub_action_of_same_rows : (M A : Module F) (k : ℕ) (b d : Matrix F) → ((t : ℕ) → t < k → b t ≡ d t) → IsSubAction F M k b A → IsSubAction F M k d A
  sub_action_of_same_rows M A k b d same action = record {
    dimension = action.dimension;
    count = action.count;
    square = action.square;
    acts = λ i t below inside.
        ap (λ (x : Vector F). image F M x i) (sym (same t inside)) ∙ action.acts i t below inside
        ∙ times_same F k (A.generator i t) (A.generator i t) b d (λ s within. refl) same;
  }

  -- the standard matrices of a vector act on its standard basis
  pub standard_matrices_act : (M A : Module F) (v : Vector F) (m : ℕ) (b : Matrix F) → IsStandardBasis F M v m b → AreStandardMatrices F M v A →
      IsSubAction F M m b A
  standard_matrices_act M A v m b standard S =
      sub_action_of_same_rows M A m S.basis b
      (λ t below. standard_basis_is_unique F M v S.size m S.basis b S.standard standard t (subst (λ n. t < n) (sym size) below))
      (subst (λ n. IsSubAction F M n S.basis A) size S.acts)
    where
      size : S.size ≡ m
      size = standard_basis_size_is_unique F M v S.size m S.basis b S.standard standard

  -- of a vector whose standard basis has as many rows as the dimension, the standard matrices have one nullity with the module
  pub standard_matrices_keep_null_space : (M A : Module F) (v : Vector F) (b : Matrix F) → HasSquareMatrices F M → HasLength F M.dimension v →
      HasShape F M.dimension M.dimension b → IsStandardBasis F M v M.dimension b → IsSubAction F M M.dimension b A →
      (word : Word F) → IsWordOf F M word → (r : ℕ) (d : Matrix F) → SpansNullSpace F M.dimension (word_value F M word) r d → IsIndependent F r d →
      (e : Matrix F) × SpansNullSpace F A.dimension (word_value F A word) r e × IsIndependent F r e
  standard_matrices_keep_null_space M A v b is length shape standard acts word all r d spans independent = (
    λ t. times F M.dimension (d t) T,
    isomorphism_carries_null_space F M A T is is_A back word all r d spans,
    carried_independent F M A (λ x. times F M.dimension x T) (isomorphism_carries F M A T back) r d (λ t below. spans.lengths t) independent,
  )
    where
      is_A : HasSquareMatrices F A
      is_A = standard_matrices_are_module F M v is length b A shape standard acts

      forth : IsIsomorphism F A M b
      forth = standard_basis_is_isomorphism F M v is length b A shape standard acts

      T : Matrix F
      T = forth.invertible.inverse

      back : IsIsomorphism F M A T
      back = inverse_is_isomorphism F A M b T is_A is forth forth.invertible.inverts

module _ (K : NumberField) where
  abbrev F : Field
  F = field_of K

  -- a vector is the multiple by the inverse factor
  divided : (x y : Vector F) (c : F.Element) → c ≢ F.zero → x ≡ scale F c y → y ≡ scale F (F.inv c) x
  divided x y c nonzero same = fun_ext λ j.
      sym (one-mul F (y j)) ∙ ap (λ e. F.mul e (y j)) (sym (inv-mul F c nonzero)) ∙ F.mul_assoc (F.inv c) c (y j)
      ∙ ap (F.mul (F.inv c)) (sym (ap (λ (z : Vector F). z j) same))

  inverse-nonzero : (c : F.Element) → c ≢ F.zero → F.inv c ≢ F.zero
  inverse-nonzero c nonzero e = F.one-not-zero (sym (F.mul-inv c nonzero) ∙ ap (F.mul c) e ∙ mul-zero F c)

  -- where no point of the null space of the word's value in N has A as its standard matrices, A and N are not isomorphic
  pub no_point_matches : (A N : Module F) → HasSquareMatrices F A → HasSquareMatrices F N → (word : Word F) → IsWordOf F A word → (v : Vector F) → v ≢ zero_vector F →
      IsNullVector F A.dimension (word_value F A word) v → AreStandardMatrices F A v A →
      (basis : List (List ℕ)) → IsMatrixOver K N.dimension basis →
      ((y : Vector F) → IsNullVector F N.dimension (word_value F N word) y → InSpan F (length basis) (matrix_of K basis) y) →
      ((j : ℕ) → j < length (points K N.dimension basis) → ¬ (AreStandardMatrices F N (matrix_of K (points K N.dimension basis) j) A)) →
      ¬ (AreIsomorphic F A N)
  no_point_matches A N is_A is_N word all v nonzero null S basis over back none =
      not_isomorphic_without_match F A N is_A word all v nonzero null A S (λ y y_nonzero y_null T.
      without y y_null T (spanned_are_multiples K N.dimension basis y over (back y y_null) y_nonzero))
    where
      without : (y : Vector F) → IsNullVector F N.dimension (word_value F N word) y → AreStandardMatrices F N y A → IsMultipleOfPoint K N.dimension basis y → ⊥
      without y y_null T found =
          none found.place found.inside
          (subst (λ (x : Vector F). AreStandardMatrices F N x A)
          (sym (divided y (matrix_of K (points K N.dimension basis) found.place) found.factor found.nonzero found.equals))
          (multiple_keeps_standard_matrices F N (F.inv found.factor) (inverse-nonzero found.factor found.nonzero) is_N y y_null.length A T))
