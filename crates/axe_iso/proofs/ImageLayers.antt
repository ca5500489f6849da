-- Layers of images of vectors, over one field: images less combinations, what narrowing keeps, and the images under a homomorphism.
use Rattle.std.proofs.Common.{◌≡◌, ℕ, zero, suc, ◌<◌, ◌≤◌, refl, sym, ap, subst, ◌∙◌, arith}
use Rattle.axe_algebra.specs.Field.{Field}
use Rattle.axe_algebra.specs.Vectors.{Vector, Matrix, HasLength, unit_vector, unit_matrix, add_vectors, add_matrices, subtract, scale, times, multiply}
use Rattle.axe_algebra.specs.Spans.{InSpan, IsNullVector}
use Rattle.axe_algebra.specs.Modules.{Module, image}
use Rattle.axe_algebra.specs.Actions.{IsSubAction}
use Rattle.axe_algebra.proofs.FieldLaws.{neg-sum_of_two, neg-mul, neg-zero, difference_of_same}
use Rattle.axe_algebra.proofs.ProductLaws.{times_same, times_times, times_unit, identity_row, unit_is_matrix, times_length, times_longer, times_more, times_none, times-add_matrices, times-scaled_rows}
use Rattle.axe_iso.specs.Images.{HasCombination, image_without}
use mathlib.Core.Path.{ap₂, fun_ext}

module _ (F : Field) where
  open F use {Element, add as ◌⊕◌, mul as ◌⊗◌, neg}

  infixl 60 ◌⊕◌
  infixl 70 ◌⊗◌
  -- ---- coefficients of a length

  -- the first r coefficients
  cut : ℕ → Vector F → Vector F
  cut r e = times F r e (unit_matrix F r)

  cut_length : (r : ℕ) (e : Vector F) → HasLength F r (cut r e)
  unfolding cut
  cut_length r e = times_length F r r e (unit_matrix F r) (unit_is_matrix F r).columns

  times_cut : (r : ℕ) (e : Vector F) (a : Matrix F) → times F r (cut r e) a ≡ times F r e a
  unfolding cut
  times_cut r e a =
      times_times F r r e (unit_matrix F r) a
      ∙ times_same F r e e (multiply F r (unit_matrix F r) a) a (λ t below. refl)
      (λ t below. ap (λ (x : Vector F). times F r x a) (identity_row F r t below) ∙ times_unit F r t a below)

  -- ---- an image less a combination

  less_one_more : (x s v y : Element) → x ⊕ neg (s ⊕ v ⊗ y) ≡ x ⊕ neg s ⊕ neg v ⊗ y
  less_one_more x s v y =
      ap (λ z. x ⊕ z) (neg-sum_of_two F s (v ⊗ y)) ∙ sym (F.add_assoc x (neg s) (neg (v ⊗ y)))
      ∙ ap (λ z. x ⊕ neg s ⊕ z) (sym (neg-mul F v y))

  subtract_more : (n : ℕ) (x v : Vector F) (a : Matrix F) →
      subtract F x (times F (suc n) v a) ≡ add_vectors F (subtract F x (times F n v a)) (scale F (neg (v n)) (a n))
  subtract_more n x v a = ap (subtract F x) (times_more F n v a) ∙ fun_ext λ j. less_one_more (x j) (times F n v a j) (v n) (a n j)

  subtract_none : (x v : Vector F) (a : Matrix F) → subtract F x (times F 0 v a) ≡ x
  subtract_none x v a =
      ap (subtract F x) (times_none F v a) ∙ fun_ext λ j. ap (λ z. x j ⊕ z) (neg-zero F) ∙ F.add-zero (x j)

  pub without_more : (n : ℕ) (v : Vector F) (layers : ℕ → Matrix F) (first : Matrix F) →
      image_without F (suc n) v layers first ≡ add_matrices F (image_without F n v layers first) (λ i. scale F (neg (v n)) (layers n i))
  without_more n v layers first = fun_ext λ i. subtract_more n (first i) v (λ t. layers t i)

  pub without_none : (v : Vector F) (layers : ℕ → Matrix F) (first : Matrix F) → image_without F 0 v layers first ≡ first
  without_none v layers first = fun_ext λ i. subtract_none (first i) v (λ t. layers t i)

  -- a combination of the rows of the difference
  times_without : (r n : ℕ) (e v : Vector F) (layers : ℕ → Matrix F) (first : Matrix F) →
      times F r e (image_without F n v layers first) ≡ subtract F (times F r e first) (times F n v (λ t. times F r e (layers t)))
  times_without r zero e v layers first =
      ap (times F r e) (without_none v layers first) ∙ sym (subtract_none (times F r e first) v (λ t. times F r e (layers t)))
  times_without r (suc n) e v layers first =
      ap (times F r e) (without_more n v layers first)
      ∙ times-add_matrices F r e (image_without F n v layers first) (λ i. scale F (neg (v n)) (layers n i))
      ∙ ap₂ (add_vectors F) (times_without r n e v layers first) (times-scaled_rows F r (neg (v n)) e (layers n))
      ∙ sym (subtract_more n (times F r e first) v (λ t. times F r e (layers t)))

  -- ---- what narrowing keeps

  -- where the image combines to the combination of the layers, the coefficients are a null vector of the difference
  pub null_of_difference : (r n : ℕ) (e v : Vector F) (layers : ℕ → Matrix F) (first : Matrix F) → HasLength F r e →
      times F r e first ≡ times F n v (λ t. times F r e (layers t)) → IsNullVector F r (image_without F n v layers first) e
  null_of_difference r n e v layers first fits same = record {
    length = fits;
    vanishes = times_without r n e v layers first ∙ fun_ext λ j. difference_of_same F _ _ (ap (λ (x : Vector F). x j) same);
  }

  -- coefficients in the span of rows that each layer was multiplied by
  pub narrowed_combination : (r s k : ℕ) (kept : Matrix F) (layers narrowed : ℕ → Matrix F) (e : Vector F) → InSpan F s kept e →
      ((t : ℕ) → t < k → narrowed t ≡ multiply F r kept (layers t)) → HasCombination F s k narrowed (λ t. times F r e (layers t))
  narrowed_combination r s k kept layers narrowed e spanned made = record {
    coefficients = cut s spanned.coefficients;
    fits = cut_length s spanned.coefficients;
    combines = λ t below.
        times_cut s spanned.coefficients (narrowed t) ∙ ap (times F s spanned.coefficients) (made t below)
        ∙ sym (times_times F r s spanned.coefficients kept (layers t)) ∙ ap (λ (x : Vector F). times F r x (layers t)) (sym spanned.combines);
  }

  -- a vector of the span of the first layer
  pub first_combination : (r : ℕ) (layers : ℕ → Matrix F) (c : Matrix F) → InSpan F r (layers 0) (c 0) → HasCombination F r 1 layers c
  first_combination r layers c spanned = record {
    coefficients = cut r spanned.coefficients;
    fits = cut_length r spanned.coefficients;
    combines = λ t below. at t (omega (arith, below));
  }
    where
      at : (t : ℕ) → 0 ≡ t → times F r (cut r spanned.coefficients) (layers t) ≡ c t
      at t e = subst (λ n. times F r (cut r spanned.coefficients) (layers n) ≡ c n) e
          (times_cut r spanned.coefficients (layers 0) ∙ sym spanned.combines)

  pub same_rows_combine : (r k : ℕ) (layers : ℕ → Matrix F) (c d : Matrix F) → ((t : ℕ) → t < k → c t ≡ d t) →
      HasCombination F r k layers c → HasCombination F r k layers d
  same_rows_combine r k layers c d same has = record {
    coefficients = has.coefficients;
    fits = has.fits;
    combines = λ t below. has.combines t below ∙ same t below;
  }

  -- ---- images under a homomorphism

  module _ (M A : Module F) (c : Matrix F) (acts : IsSubAction F M A.dimension c A) (size : ℕ) (layers : ℕ → Matrix F) (e : Vector F) (r i : ℕ)
      (inside : r < A.dimension) (below : i < M.count) (row_is : times F size e (layers r) ≡ c r) where
    -- the coefficients of row r of c give its image in the image of layer r
    combined_image : times F size e (multiply F M.dimension (layers r) (M.generator i)) ≡ times F A.dimension (A.generator i r) c
    combined_image =
        sym (times_times F M.dimension size e (layers r) (M.generator i)) ∙ ap (λ (x : Vector F). image F M x i) row_is ∙ acts.acts i r below inside

    -- which is row k of c, where its own coefficients are the unit vector of k
    pub next_image : (k : ℕ) → k < A.dimension → A.generator i r ≡ unit_vector F k →
        times F size e (multiply F M.dimension (layers r) (M.generator i)) ≡ c k
    next_image k within unit = combined_image ∙ ap (λ (x : Vector F). times F A.dimension x c) unit ∙ times_unit F A.dimension k c within

    -- or the combination of the first k rows, where they are zero from k on
    pub known_image : (k : ℕ) → k ≤ A.dimension → ((t : ℕ) → k ≤ t → A.generator i r t ≡ F.zero) → ((t : ℕ) → t < k → times F size e (layers t) ≡ c t) →
        times F size e (multiply F M.dimension (layers r) (M.generator i)) ≡ times F k (A.generator i r) (λ t. times F size e (layers t))
    known_image k no_more zeros combines =
        combined_image ∙ times_longer F k A.dimension (A.generator i r) c no_more (λ t from within. zeros t from)
        ∙ times_same F k (A.generator i r) (A.generator i r) c (λ t. times F size e (layers t)) (λ t small. refl)
        (λ t small. sym (combines t small))
