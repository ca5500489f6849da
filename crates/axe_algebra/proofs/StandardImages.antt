-- Linear maps that commute with the generators carry standard bases: isomorphisms, and multiples.
use Rattle.std.specs.Prelude.{◌≡◌, ◌≢◌, ℕ, zero, suc, ◌<◌, List, [], ◌∷◌}
use Rattle.axe_algebra.specs.Field.{Field}
use Rattle.axe_algebra.specs.Vectors.{Vector, Matrix, HasLength, zero_vector, add_vectors, scale, times}
use Rattle.axe_algebra.specs.Spans.{IsIndependent, IsNullVector}
use Rattle.axe_algebra.specs.Modules.{Module, HasSquareMatrices, image, AreGenerators, path_product}
use Rattle.axe_algebra.specs.Words.{Word, IsWordOf, word_value}
use Rattle.axe_algebra.specs.Actions.{IsSubAction}
use Rattle.axe_algebra.specs.Irreducible.{IsIsomorphism}
use Rattle.axe_algebra.specs.Standard.{IsStandardBasis, AreStandardMatrices}
use Rattle.axe_algebra.proofs.FieldLaws.{mul-zero, zero-mul, mul_left_comm, other_factor}
use Rattle.axe_algebra.proofs.ProductLaws.{times_times, times_zero, times_length, times_none, times_more, times_identity, times-scale, times-add_vectors}
use Rattle.axe_algebra.proofs.WordValues.{times-no_terms, times-term}
use Rattle.axe_algebra.proofs.Spaces.{IsSpace, space_has_times}
use mathlib.Core.Path.{refl, sym, ◌∙◌, ap, ap₂, subst, fun_ext}
use native.Mathlib.Omega.{arith}
use native.Mathlib.Decide.{ℕ_discrete}

-- f is linear and injective on the vectors of M, and commutes with the generators of M and N
pub record Carries (F : Field) (M N : Module F) (f : Vector F → Vector F) : Type 0 where
  pub count : M.count ≡ N.count
  pub sums : (x y : Vector F) → f (add_vectors F x y) ≡ add_vectors F (f x) (f y)
  pub multiples : (c : F.Element) (x : Vector F) → f (scale F c x) ≡ scale F c (f x)
  pub images : (x : Vector F) (i : ℕ) → i < M.count → f (image F M x i) ≡ image F N (f x) i
  pub injective : (x : Vector F) → HasLength F M.dimension x → f x ≡ zero_vector F → x ≡ zero_vector F

module _ (F : Field) where
  -- the vectors of length n are a space
  pub length_is_space : (n : ℕ) → IsSpace F (HasLength F n)
  length_is_space n = record {
    zero = λ j past. refl;
    sums = λ x y p q j past. ap₂ F.add (p j past) (q j past) ∙ F.add-zero F.zero;
    multiples = λ c x p j past. ap (F.mul c) (p j past) ∙ mul-zero F c;
  }

  -- the rows of a standard basis have the length of the module
  pub standard_row_length : (M : Module F) (v : Vector F) → HasSquareMatrices F M → HasLength F M.dimension v → (m : ℕ) (b : Matrix F) →
      IsStandardBasis F M v m b → (t : ℕ) → t < m → HasLength F M.dimension (b t)
  standard_row_length M v is length m b S t below = by_place (ℕ_discrete t 0)
    where
      by_place : Dec (t ≡ 0) → HasLength F M.dimension (b t)
      by_place (yes e) = subst (HasLength F M.dimension) (sym (ap b e ∙ S.first)) length
      by_place (no other) =
          subst (HasLength F M.dimension) (sym (S.equals t (omega arith) below))
          (times_length F M.dimension M.dimension (b (S.rows t)) (M.generator (S.generators t))
          (is.square (S.generators t) (S.generator-below t (omega arith) below)).columns)

  module _ (M N : Module F) (f : Vector F → Vector F) (carries : Carries F M N f) where
    carried_zero : f (zero_vector F) ≡ zero_vector F
    carried_zero =
        ap f (fun_ext λ j. sym (zero-mul F F.zero)) ∙ carries.multiples F.zero (zero_vector F) ∙ fun_ext λ j. zero-mul F (f (zero_vector F) j)

    -- such a map carries combinations
    pub carried_times : (k : ℕ) (c : Vector F) (b : Matrix F) → f (times F k c b) ≡ times F k c (λ t. f (b t))
    carried_times zero c b = ap f (times_none F c b) ∙ carried_zero ∙ sym (times_none F c (λ t. f (b t)))
    carried_times (suc k) c b =
        ap f (times_more F k c b) ∙ carries.sums (times F k c b) (scale F (c k) (b k))
        ∙ ap₂ (add_vectors F) (carried_times k c b) (carries.multiples (c k) (b k)) ∙ sym (times_more F k c (λ t. f (b t)))

    -- and keeps rows of M's length independent
    pub carried_independent : (m : ℕ) (b : Matrix F) → ((t : ℕ) → t < m → HasLength F M.dimension (b t)) → IsIndependent F m b →
        IsIndependent F m (λ t. f (b t))
    carried_independent m b lengths independent = record {
      only_zero = λ c vanishes. independent.only_zero c
          (carries.injective (times F m c b) (space_has_times F (HasLength F M.dimension) (length_is_space M.dimension) m c b lengths)
          (carried_times m c b ∙ vanishes));
    }

    -- and carries the standard basis of v to that of its image
    pub carried_standard_basis : HasSquareMatrices F M → (v : Vector F) → HasLength F M.dimension v → (m : ℕ) (b : Matrix F) →
        IsStandardBasis F M v m b → IsStandardBasis F N (f v) m (λ t. f (b t))
    carried_standard_basis is v length m b S = record {
      nonempty = S.nonempty;
      first = ap f S.first;
      independent = carried_independent m b (standard_row_length M v is length m b S) S.independent;
      rows = S.rows;
      generators = S.generators;
      earlier = S.earlier;
      generator-below = λ t positive below. subst (λ k. S.generators t < k) carries.count (S.generator-below t positive below);
      ascending = S.ascending;
      equals = λ t positive below.
          ap f (S.equals t positive below) ∙ carries.images (b (S.rows t)) (S.generators t) (S.generator-below t positive below);
      images = λ r i below inside.
          let inside_too = subst (λ k. i < k) (sym carries.count) inside in
          let up_to = S.images r i below inside_too in
          record {
            coefficients = up_to.coefficients;
            combines = sym (carries.images (b r) i inside_too) ∙ ap f up_to.combines ∙ carried_times m up_to.coefficients b;
            later = up_to.later;
          };
    }

    -- and keeps sub actions
    pub carried_sub_action : (k : ℕ) (b : Matrix F) (A : Module F) → IsSubAction F M k b A → IsSubAction F N k (λ t. f (b t)) A
    carried_sub_action k b A S = record {
      dimension = S.dimension;
      count = S.count ∙ carries.count;
      square = λ i inside. S.square i (subst (λ n. i < n) (sym carries.count) inside);
      acts = λ i t inside below.
          let inside_too = subst (λ n. i < n) (sym carries.count) inside in
          sym (carries.images (b t) i inside_too) ∙ ap f (S.acts i t inside_too below) ∙ carried_times k (A.generator i t) b;
    }

    -- so it keeps the standard matrices
    pub carried_standard_matrices : HasSquareMatrices F M → (v : Vector F) → HasLength F M.dimension v → (A : Module F) →
        AreStandardMatrices F M v A → AreStandardMatrices F N (f v) A
    carried_standard_matrices is v length A S = record {
      size = S.size;
      basis = λ t. f (S.basis t);
      standard = carried_standard_basis is v length S.size S.basis S.standard;
      acts = carried_sub_action S.size S.basis A S.acts;
    }

    -- x times a product of generators, and the image of x times that product
    carried_path : HasSquareMatrices F M → ((x : Vector F) → HasLength F M.dimension x → HasLength F N.dimension (f x)) → (path : List ℕ) → AreGenerators F M path →
        (x : Vector F) → HasLength F M.dimension x → f (times F M.dimension x (path_product F M path)) ≡ times F N.dimension (f x) (path_product F N path)
    unfolding path_product
    carried_path is lengths [] all x length = ap f (times_identity F M.dimension x length) ∙ sym (times_identity F N.dimension (f x) (lengths x length))
    carried_path is lengths (i ∷ path) all x length =
        ap f (sym (times_times F M.dimension M.dimension x (M.generator i) (path_product F M path)))
        ∙ carried_path is lengths path all.1 (image F M x i) (times_length F M.dimension M.dimension x (M.generator i) (is.square i all.0).columns)
        ∙ ap (λ (y : Vector F). times F N.dimension y (path_product F N path)) (carries.images x i all.0)
        ∙ times_times F N.dimension N.dimension (f x) (N.generator i) (path_product F N path)

    -- x times the value of a word, and the image of x times its value in the other module
    pub carried_word_value : HasSquareMatrices F M → ((x : Vector F) → HasLength F M.dimension x → HasLength F N.dimension (f x)) →
        (word : Word F) → IsWordOf F M word → (x : Vector F) → HasLength F M.dimension x →
        f (times F M.dimension x (word_value F M word)) ≡ times F N.dimension (f x) (word_value F N word)
    carried_word_value is lengths [] all x length = ap f (times-no_terms F M x) ∙ carried_zero ∙ sym (times-no_terms F N (f x))
    carried_word_value is lengths (term ∷ word) all x length =
        ap f (times-term F M x term.0 term.1 word)
        ∙ carries.sums (scale F term.0 (times F M.dimension x (path_product F M term.1))) (times F M.dimension x (word_value F M word))
        ∙ ap₂ (add_vectors F)
        (carries.multiples term.0 (times F M.dimension x (path_product F M term.1)) ∙ ap (scale F term.0) (carried_path is lengths term.1 all.0 x length))
        (carried_word_value is lengths word all.1 x length)
        ∙ sym (times-term F N (f x) term.0 term.1 word)

  -- an isomorphism carries
  pub isomorphism_carries : (M N : Module F) (T : Matrix F) → IsIsomorphism F M N T → Carries F M N (λ x. times F M.dimension x T)
  isomorphism_carries M N T iso = record {
    count = iso.count;
    sums = λ x y. times-add_vectors F M.dimension x y T;
    multiples = λ c x. times-scale F M.dimension c x T;
    images = λ x i below.
        times_times F M.dimension M.dimension x (M.generator i) T ∙ ap (times F M.dimension x) (sym (iso.intertwines i below))
        ∙ sym (times_times F M.dimension M.dimension x T (N.generator i))
        ∙ ap (λ (n : ℕ). times F n (times F M.dimension x T) (N.generator i)) iso.dimension;
    injective = λ x length vanishes.
        sym (times_identity F M.dimension x length)
        ∙ ap (times F M.dimension x) (sym iso.invertible.inverts.right)
        ∙ sym (times_times F M.dimension M.dimension x T iso.invertible.inverse)
        ∙ ap (λ (y : Vector F). times F M.dimension y iso.invertible.inverse) vanishes
        ∙ times_zero F M.dimension iso.invertible.inverse;
  }

  -- it carries null vectors of a word's value to null vectors of the word's value in the other module
  pub isomorphism_carries_null_vectors : (M N : Module F) (T : Matrix F) → HasSquareMatrices F M → IsIsomorphism F M N T → (word : Word F) → IsWordOf F M word →
      (x : Vector F) → IsNullVector F M.dimension (word_value F M word) x →
      IsNullVector F N.dimension (word_value F N word) (times F M.dimension x T)
  isomorphism_carries_null_vectors M N T is iso word all x null = record {
    length = lengths x null.length;
    vanishes =
        sym (carried_word_value M N (λ x. times F M.dimension x T) (isomorphism_carries M N T iso) is lengths word all x null.length)
        ∙ ap (λ (y : Vector F). times F M.dimension y T) null.vanishes ∙ times_zero F M.dimension T;
  }
    where
      lengths : (x : Vector F) → HasLength F M.dimension x → HasLength F N.dimension (times F M.dimension x T)
      lengths x length = subst (λ n. HasLength F n (times F M.dimension x T)) iso.dimension (times_length F M.dimension M.dimension x T iso.shape.columns)

  -- so does a nonzero multiple
  pub multiple_carries : (M : Module F) (c : F.Element) → c ≢ F.zero → Carries F M M (scale F c)
  multiple_carries M c nonzero = record {
    count = refl;
    sums = λ x y. fun_ext λ j. F.mul-add c (x j) (y j);
    multiples = λ d x. fun_ext λ j. mul_left_comm F c d (x j);
    images = λ x i below. sym (times-scale F M.dimension c x (M.generator i));
    injective = λ x length vanishes. fun_ext λ j. other_factor F c (x j) (ap (λ (y : Vector F). y j) vanishes) nonzero;
  }

  -- so an isomorphism carries the standard basis of v to that of its image
  pub isomorphism_carries_standard_basis : (M N : Module F) (T : Matrix F) → HasSquareMatrices F M → IsIsomorphism F M N T → (v : Vector F) →
      HasLength F M.dimension v → (m : ℕ) (b : Matrix F) → IsStandardBasis F M v m b →
      IsStandardBasis F N (times F M.dimension v T) m (λ t. times F M.dimension (b t) T)
  isomorphism_carries_standard_basis M N T is iso =
      carried_standard_basis M N (λ x. times F M.dimension x T) (isomorphism_carries M N T iso) is

  pub isomorphism_keeps_standard_matrices : (M N : Module F) (T : Matrix F) → HasSquareMatrices F M → IsIsomorphism F M N T → (v : Vector F) →
      HasLength F M.dimension v → (A : Module F) → AreStandardMatrices F M v A → AreStandardMatrices F N (times F M.dimension v T) A
  isomorphism_keeps_standard_matrices M N T is iso =
      carried_standard_matrices M N (λ x. times F M.dimension x T) (isomorphism_carries M N T iso) is

  -- and a nonzero multiple of v has the same standard matrices
  pub multiple_keeps_standard_matrices : (M : Module F) (c : F.Element) → c ≢ F.zero → HasSquareMatrices F M → (v : Vector F) →
      HasLength F M.dimension v → (A : Module F) → AreStandardMatrices F M v A → AreStandardMatrices F M (scale F c v) A
  multiple_keeps_standard_matrices M c nonzero = carried_standard_matrices M M (scale F c) (multiple_carries M c nonzero)
