-- Where a module acts on rows modulo a span that it keeps, the values of words act there by the values of the same words
-- in that action. So the actions of values on a submodule and modulo it are values, too. Nothing is asked of a word: a
-- number past the generators of a list stands for zero, in the module and in the action alike.
use Rattle.std.specs.Prelude.{◌≡◌, ℕ, ◌<◌, ◌≤◌, List, [], ◌∷◌, length, get_or}
use Rattle.axe_algebra.specs.NumberField.{NumberField}
use Rattle.axe_algebra.specs.Field.{Field}
use Rattle.axe_algebra.specs.Vectors.{Vector, Matrix, HasLength, HasRowsOfLength, HasShape, zero_vector, unit_vector, unit_matrix, add_vectors, subtract, scale, times, multiply}
use Rattle.axe_algebra.specs.Spans.{InSpan}
use Rattle.axe_algebra.specs.Modules.{Module, image, path_product, IsInvariant}
use Rattle.axe_algebra.specs.Actions.{IsSubAction, IsQuotientAction, unit_vectors}
use Rattle.axe_algebra.specs.Words.{Word, word_value}
use Rattle.axe_algebra.specs.Bridge.{field_of, matrix_of, module_of}
use Rattle.axe_algebra.proofs.FieldLaws.{mul-neg, mul-zero, zero-add, add_swap, neg-sum_of_two, difference_of_same, same_of_difference}
use Rattle.axe_algebra.proofs.Sums.{sum_zeros}
use Rattle.axe_algebra.proofs.ProductLaws.{times-at, times_times, times_none, times_zero, times_zero_rows, times_zero_coefficients, times_unit, times_length, times_identity, times-add_vectors, times-subtract, times-scale, unit_length, unit_is_matrix, multiply_is_matrix}
use Rattle.axe_algebra.proofs.Spanning.{span_zero, span_same, span_add, span_scale, span_times, span_length}
use Rattle.axe_algebra.proofs.Generated.{image-times}
use Rattle.axe_algebra.proofs.WordValues.{term_is_matrix, times-no_terms, times-term}
use Rattle.axe_algebra.proofs.Sections.{times-subtracted_rows}
use Rattle.axe_algebra.proofs.ListEntries.{row_past}
use Rattle.std.proofs.lemmas.List.{get_or_past}
use mathlib.Core.Path.{refl, sym, ◌∙◌, ap, ap₂, fun_ext}
use native.Mathlib.Omega.{arith}
use native.Mathlib.Decide.{dec_lt}

-- ---- differences

module _ (F : Field) where
  -- x - z = (x - y) + (y - z)
  by_way_of : (x y z : Vector F) → subtract F x z ≡ add_vectors F (subtract F x y) (subtract F y z)
  by_way_of x y z = fun_ext λ j. sym (
      F.add_assoc (x j) (F.neg (y j)) (F.add (y j) (F.neg (z j)))
      ∙ ap (F.add (x j)) (sym (F.add_assoc (F.neg (y j)) (y j) (F.neg (z j)))
      ∙ ap (λ e. F.add e (F.neg (z j))) (F.add_comm (F.neg (y j)) (y j) ∙ F.add-neg (y j)) ∙ zero-add F (F.neg (z j))))

  -- the difference of sums, and of multiples
  subtract_sums : (x y z w : Vector F) → subtract F (add_vectors F x y) (add_vectors F z w) ≡ add_vectors F (subtract F x z) (subtract F y w)
  subtract_sums x y z w = fun_ext λ j.
      ap (F.add (F.add (x j) (y j))) (neg-sum_of_two F (z j) (w j)) ∙ add_swap F (x j) (y j) (F.neg (z j)) (F.neg (w j))

  subtract_multiples : (c : F.Element) (x y : Vector F) → subtract F (scale F c x) (scale F c y) ≡ scale F c (subtract F x y)
  subtract_multiples c x y = fun_ext λ j. sym (F.mul-add c (x j) (F.neg (y j)) ∙ ap (F.add (F.mul c (x j))) (mul-neg F c (y j)))

  no_difference : (k : ℕ) (v : Matrix F) (x y : Vector F) → x ≡ y → InSpan F k v (subtract F x y)
  no_difference k v x y same =
      span_same F k v (subtract F x y) (zero_vector F)
      (fun_ext λ j. difference_of_same F (x j) (y j) (ap (λ (z : Vector F). z j) same)) (span_zero F k v)

  -- a difference in the span of no rows is none
  pub same_modulo_nothing : (v : Matrix F) (x y : Vector F) → InSpan F 0 v (subtract F x y) → x ≡ y
  same_modulo_nothing v x y within = fun_ext λ j.
      same_of_difference F (x j) (y j) (ap (λ (z : Vector F). z j) (within.combines ∙ times_none F within.coefficients v))

  -- a combination of rows of length n has length n
  combination_length : (n d : ℕ) (x : Vector F) (r : Matrix F) → ((t : ℕ) → t < d → HasLength F n (r t)) → HasLength F n (times F d x r)
  combination_length n d x r rows j past =
      times-at F d x r j ∙ sum_zeros F d (λ t. F.mul (x t) (r t j)) (λ t below. ap (F.mul (x t)) (rows t below j past) ∙ mul-zero F (x t))

-- ---- values of words on a span and modulo it

-- the generator of each number keeps the span of c rows of l
abbrev pub KeepsSpan : (F : Field) → Module F → ℕ → Matrix F → Type 0
KeepsSpan F M c l = (i t : ℕ) → t < c → InSpan F c l (image F M (l t) i)

-- modulo it the generator of each number acts on the rows of r as that of D
abbrev pub ActsBy : (F : Field) → Module F → ℕ → Matrix F → Matrix F → Module F → Type 0
ActsBy F M c l r D = (i t : ℕ) → t < D.dimension → InSpan F c l (subtract F (image F M (r t) i) (times F D.dimension (D.generator i t) r))

-- the generator of each number is square
abbrev pub IsSquareThroughout : (F : Field) → Module F → Type 0
IsSquareThroughout F D = (i : ℕ) → HasShape F D.dimension D.dimension (D.generator i)

module _ (F : Field) (D : Module F) (square : IsSquareThroughout F D) where
  product_is_square : (path : List ℕ) → HasShape F D.dimension D.dimension (path_product F D path)
  unfolding path_product
  product_is_square [] = unit_is_matrix F D.dimension
  product_is_square (i ∷ path) =
      multiply_is_matrix F D.dimension D.dimension D.dimension (D.generator i) (path_product F D path) (square i) (product_is_square path)

  -- values of words are square
  pub value_is_square : (word : Word F) → HasShape F D.dimension D.dimension (word_value F D word)
  unfolding word_value
  value_is_square [] = record { rows = λ i j past. refl; columns = λ i j past. refl }
  value_is_square (term ∷ word) =
      term_is_matrix F D.dimension D.dimension term.0 (path_product F D term.1) (word_value F D word) (product_is_square term.1) (value_is_square word)

module _ (F : Field) (M : Module F) (c : ℕ) (l : Matrix F) (lengths : HasRowsOfLength F M.dimension l) (keeps : KeepsSpan F M c l) where
  span_has_image : (x : Vector F) (i : ℕ) → InSpan F c l x → InSpan F c l (image F M x i)
  span_has_image x i within =
      span_same F c l (image F M x i) (times F c within.coefficients (λ t. image F M (l t) i))
      (ap (λ (y : Vector F). image F M y i) within.combines ∙ image-times F M c within.coefficients l i)
      (span_times F c l c within.coefficients (λ t. image F M (l t) i) (keeps i))

  span_has_products : (path : List ℕ) (x : Vector F) → InSpan F c l x → InSpan F c l (times F M.dimension x (path_product F M path))
  unfolding path_product
  span_has_products [] x within =
      span_same F c l (times F M.dimension x (unit_matrix F M.dimension)) x
      (times_identity F M.dimension x (span_length F M.dimension c l x lengths within)) within
  span_has_products (i ∷ path) x within =
      span_same F c l (times F M.dimension x (multiply F M.dimension (M.generator i) (path_product F M path)))
      (times F M.dimension (image F M x i) (path_product F M path))
      (sym (times_times F M.dimension M.dimension x (M.generator i) (path_product F M path)))
      (span_has_products path (image F M x i) (span_has_image x i within))

  -- values of words keep the span
  pub span_has_values : (word : Word F) (x : Vector F) → InSpan F c l x → InSpan F c l (times F M.dimension x (word_value F M word))
  span_has_values [] x within = span_same F c l (times F M.dimension x (word_value F M [])) (zero_vector F) (times-no_terms F M x) (span_zero F c l)
  span_has_values (term ∷ word) x within =
      span_same F c l (times F M.dimension x (word_value F M (term ∷ word)))
      (add_vectors F (scale F term.0 (times F M.dimension x (path_product F M term.1))) (times F M.dimension x (word_value F M word)))
      (times-term F M x term.0 term.1 word)
      (span_add F c l (scale F term.0 (times F M.dimension x (path_product F M term.1))) (times F M.dimension x (word_value F M word))
      (span_scale F c l term.0 (times F M.dimension x (path_product F M term.1)) (span_has_products term.1 x within))
      (span_has_values word x within))

  module _ (r : Matrix F) (D : Module F) (rows : (t : ℕ) → t < D.dimension → HasLength F M.dimension (r t)) (square : IsSquareThroughout F D)
      (acts : ActsBy F M c l r D)
    where
      -- the image of a combination of the rows
      combination_acts : (x : Vector F) (i : ℕ) →
          InSpan F c l (subtract F (image F M (times F D.dimension x r) i) (times F D.dimension (image F D x i) r))
      combination_acts x i =
          span_same F c l (subtract F (image F M (times F D.dimension x r) i) (times F D.dimension (image F D x i) r)) (times F D.dimension x differences)
          (ap₂ (subtract F) (image-times F M D.dimension x r i) (times_times F D.dimension D.dimension x (D.generator i) r)
          ∙ sym (times-subtracted_rows F D.dimension x (λ t. image F M (r t) i) (multiply F D.dimension (D.generator i) r)))
          (span_times F c l D.dimension x differences (acts i))
        where
          differences : Matrix F
          differences = λ t. subtract F (image F M (r t) i) (times F D.dimension (D.generator i t) r)

      -- products of generators act by the products in D
      products_act : (path : List ℕ) (x : Vector F) → HasLength F D.dimension x →
          InSpan F c l
          (subtract F (times F M.dimension (times F D.dimension x r) (path_product F M path))
          (times F D.dimension (times F D.dimension x (path_product F D path)) r))
      unfolding path_product
      products_act [] x length =
          no_difference F c l (times F M.dimension (times F D.dimension x r) (unit_matrix F M.dimension))
          (times F D.dimension (times F D.dimension x (unit_matrix F D.dimension)) r)
          (times_identity F M.dimension (times F D.dimension x r) (combination_length F M.dimension D.dimension x r rows)
          ∙ ap (λ (y : Vector F). times F D.dimension y r) (sym (times_identity F D.dimension x length)))
      products_act (i ∷ path) x length =
          span_same F c l _ _ (ap₂ (subtract F) forth back ∙ by_way_of F first middle last)
          (span_add F c l (subtract F first middle) (subtract F middle last)
          (span_same F c l _ _ (sym (times-subtract F M.dimension moved lifted (path_product F M path)))
          (span_has_products path (subtract F moved lifted) (combination_acts x i)))
          (products_act path (image F D x i) (times_length F D.dimension D.dimension x (D.generator i) (square i).columns)))
        where
          moved : Vector F
          moved = image F M (times F D.dimension x r) i

          lifted : Vector F
          lifted = times F D.dimension (image F D x i) r

          first : Vector F
          first = times F M.dimension moved (path_product F M path)

          middle : Vector F
          middle = times F M.dimension lifted (path_product F M path)

          last : Vector F
          last = times F D.dimension (times F D.dimension (image F D x i) (path_product F D path)) r

          forth : times F M.dimension (times F D.dimension x r) (multiply F M.dimension (M.generator i) (path_product F M path)) ≡ first
          forth = sym (times_times F M.dimension M.dimension (times F D.dimension x r) (M.generator i) (path_product F M path))

          back : times F D.dimension (times F D.dimension x (multiply F D.dimension (D.generator i) (path_product F D path))) r ≡ last
          back =
              ap (λ (y : Vector F). times F D.dimension y r)
              (sym (times_times F D.dimension D.dimension x (D.generator i) (path_product F D path)))

      -- and values of words by the values in D
      values_act : (word : Word F) (x : Vector F) → HasLength F D.dimension x →
          InSpan F c l
          (subtract F (times F M.dimension (times F D.dimension x r) (word_value F M word))
          (times F D.dimension (times F D.dimension x (word_value F D word)) r))
      values_act [] x length =
          no_difference F c l _ _
          (times-no_terms F M (times F D.dimension x r)
          ∙ sym (ap (λ (y : Vector F). times F D.dimension y r) (times-no_terms F D x) ∙ times_zero F D.dimension r))
      values_act (term ∷ word) x length =
          span_same F c l _ _ (ap₂ (subtract F) forth back ∙ subtract_sums F (scale F term.0 p) w (scale F term.0 p') w')
          (span_add F c l (subtract F (scale F term.0 p) (scale F term.0 p')) (subtract F w w')
          (span_same F c l _ _ (subtract_multiples F term.0 p p') (span_scale F c l term.0 (subtract F p p') (products_act term.1 x length)))
          (values_act word x length))
        where
          p : Vector F
          p = times F M.dimension (times F D.dimension x r) (path_product F M term.1)

          p' : Vector F
          p' = times F D.dimension (times F D.dimension x (path_product F D term.1)) r

          w : Vector F
          w = times F M.dimension (times F D.dimension x r) (word_value F M word)

          w' : Vector F
          w' = times F D.dimension (times F D.dimension x (word_value F D word)) r

          forth : times F M.dimension (times F D.dimension x r) (word_value F M (term ∷ word)) ≡ add_vectors F (scale F term.0 p) w
          forth = times-term F M (times F D.dimension x r) term.0 term.1 word

          back : times F D.dimension (times F D.dimension x (word_value F D (term ∷ word))) r ≡ add_vectors F (scale F term.0 p') w'
          back =
              ap (λ (y : Vector F). times F D.dimension y r) (times-term F D x term.0 term.1 word)
              ∙ times-add_vectors F D.dimension (scale F term.0 (times F D.dimension x (path_product F D term.1)))
              (times F D.dimension x (word_value F D word)) r
              ∙ ap (λ (y : Vector F). add_vectors F y w')
              (times-scale F D.dimension term.0 (times F D.dimension x (path_product F D term.1)) r)

      -- row by row
      pub value_acts : (word : Word F) (t : ℕ) → t < D.dimension →
          InSpan F c l (subtract F (times F M.dimension (r t) (word_value F M word)) (times F D.dimension (word_value F D word t) r))
      value_acts word t inside =
          span_same F c l _ _
          (ap₂ (subtract F) (ap (λ (y : Vector F). times F M.dimension y (word_value F M word)) (sym (times_unit F D.dimension t r inside)))
          (ap (λ (y : Vector F). times F D.dimension y r) (sym (times_unit F D.dimension t (word_value F D word) inside))))
          (values_act word (unit_vector F t) (unit_length F D.dimension t inside))

-- ---- modules whose generators are lists of rows

module _ (K : NumberField) (n : ℕ) (generators : List (List (List ℕ))) where
  abbrev F : Field
  F = field_of K

  abbrev M : Module F
  M = module_of K n generators

  -- past the generators there is zero
  no_generator : (i : ℕ) → length generators ≤ i → (t : ℕ) → M.generator i t ≡ zero_vector F
  no_generator i past t = fun_ext λ j.
      ap (λ (rows : List (List ℕ)). matrix_of K rows t j) (get_or_past generators i [] past) ∙ row_past K [] t (omega arith) j

  no_image : (x : Vector F) (i : ℕ) → length generators ≤ i → image F M x i ≡ zero_vector F
  no_image x i past = times_zero_rows F n x (M.generator i) (λ t below. no_generator i past t)

  -- generators that are square are square throughout
  pub square_throughout : (k : ℕ) → ((i : ℕ) → i < length generators → HasShape F k k (M.generator i)) → (i : ℕ) → HasShape F k k (M.generator i)
  square_throughout k square i = at (dec_lt i (length generators))
    where
      at : Dec (i < length generators) → HasShape F k k (M.generator i)
      at (yes below) = square i below
      at (no past) = record {
        rows = λ t j above. ap (λ (x : Vector F). x j) (no_generator i (omega arith) t);
        columns = λ t j above. ap (λ (x : Vector F). x j) (no_generator i (omega arith) t);
      }

  -- an invariant span is kept by the generator of each number
  pub kept_throughout : (k : ℕ) (v : Matrix F) → IsInvariant F M k v → KeepsSpan F M k v
  kept_throughout k v invariant i t inside = at (dec_lt i (length generators))
    where
      at : Dec (i < length generators) → InSpan F k v (image F M (v t) i)
      at (yes below) = invariant.images t i inside below
      at (no past) = span_same F k v (image F M (v t) i) (zero_vector F) (no_image (v t) i (omega arith)) (span_zero F k v)

-- the action on independent rows acts by its generator of each number, modulo nothing
pub sub_acts_throughout : (K : NumberField) (n : ℕ) (generators : List (List (List ℕ))) (k : ℕ) (b : Matrix (field_of K)) (matrices : List (List (List ℕ))) →
    IsSubAction (field_of K) (module_of K n generators) k b (module_of K k matrices) →
    ActsBy (field_of K) (module_of K n generators) 0 b b (module_of K k matrices)
sub_acts_throughout K n generators k b matrices action i t inside =
    no_difference (field_of K) 0 b (image (field_of K) (module_of K n generators) (b t) i) (times (field_of K) k (matrix_of K (get_or matrices i []) t) b)
    (at (dec_lt i (length generators)))
  where
    at : Dec (i < length generators) →
        image (field_of K) (module_of K n generators) (b t) i ≡ times (field_of K) k (matrix_of K (get_or matrices i []) t) b
    at (yes below) = action.acts i t below inside
    at (no past) =
        no_image K n generators (b t) i (omega arith)
        ∙ sym (times_zero_coefficients (field_of K) k (matrix_of K (get_or matrices i []) t) b
        (λ s small. ap (λ (x : Vector (field_of K)). x s) (no_generator K k matrices i (omega (arith, action.count)) t)))

-- and so does the action modulo the rows, on the unit vectors of its columns
pub quotient_acts_throughout : (K : NumberField) (n : ℕ) (generators : List (List (List ℕ))) (k : ℕ) (v : Matrix (field_of K)) (m : ℕ)
    (matrices : List (List (List ℕ))) → (action : IsQuotientAction (field_of K) (module_of K n generators) k v m (module_of K m matrices)) →
    ActsBy (field_of K) (module_of K n generators) k v (unit_vectors (field_of K) action.columns) (module_of K m matrices)
quotient_acts_throughout K n generators k v m matrices action i t inside = at (dec_lt i (length generators))
  where
    r : Matrix (field_of K)
    r = unit_vectors (field_of K) action.columns

    at : Dec (i < length generators) →
        InSpan (field_of K) k v
        (subtract (field_of K) (image (field_of K) (module_of K n generators) (r t) i) (times (field_of K) m (matrix_of K (get_or matrices i []) t) r))
    at (yes below) = action.acts i t below inside
    at (no past) =
        no_difference (field_of K) k v (image (field_of K) (module_of K n generators) (r t) i) (times (field_of K) m (matrix_of K (get_or matrices i []) t) r)
        (no_image K n generators (r t) i (omega arith)
        ∙ sym (times_zero_coefficients (field_of K) m (matrix_of K (get_or matrices i []) t) r
        (λ s small. ap (λ (x : Vector (field_of K)). x s) (no_generator K m matrices i (omega (arith, action.count)) t))))
