-- The value of a word, term by term; products of generators, generator by generator.
use Rattle.std.specs.Prelude.{◌≡◌, ℕ, ◌+◌, ◌<◌, ◌≤◌, List, [], ◌∷◌, ◌++◌, length, take, get_or}
use Rattle.std.specs.List.{All}
use Rattle.std.proofs.lemmas.List.{take_more}
use Rattle.axe_algebra.specs.NumberField.{NumberField}
use Rattle.axe_algebra.specs.Field.{Field}
use Rattle.axe_algebra.specs.Modules.{Module, path_product}
use Rattle.axe_algebra.specs.Bridge.{field_of, matrix_of, module_of}
use Rattle.axe_algebra.specs.Lists.{entry, table, IsSquareOver}
use Rattle.axe_algebra.specs.ListArithmetic.{identity}
use Rattle.axe_algebra.specs.WordsOfLists.{IsWordOver, IsWordValue}
use Rattle.axe_algebra.proofs.ProductLaws.{multiply_identity}
use Rattle.axe_algebra.proofs.ListEntries.{table_length, table_entry, table_over, square_shape, matrix_entry-below}
use Rattle.axe_algebra.proofs.ListProducts.{identity_over, identity_length}
use Rattle.axe_algebra.proofs.ListModules.{generator_over}
use Rattle.axe_algebra.proofs.ListWords.{empty_product, empty_sum, term_added, word_value_is_unique}
use Rattle.axe_field.specs.Order.{Order, order_number, IsElement}
use Rattle.axe_field.specs.NumberFields.{number_field}
use Rattle.axe_field.proofs.NumberFields.{number_field-order}
use Rattle.axe_matrix.specs.Matrices.{MatrixValue, zero_matrix, identity_matrix}
use Rattle.axe_matrix.specs.Multiples.{rows_with_multiple, matrix_with_multiple}
use Rattle.axe_matrix.proofs.MatrixLaws.{same_matrix}
use Rattle.axe_spin.specs.Modules.{ModuleValue, IsModule, generator_of}
use Rattle.axe_word.specs.Words.{WordValue, IsWordIn, IsValueOf}
use Rattle.axe_word.specs.Products.{IsProductOf}
use Rattle.axe_word.specs.Drawing.{drawn_word}
use Rattle.axe_word.proofs.DrawingLaws.{drawn_word-over}
use mathlib.Core.Path.{refl, sym, ◌∙◌, ap, subst}
use native.Mathlib.Omega.{arith}

module _ (K : NumberField) (n : ℕ) (generators : List (List (List ℕ))) where
  abbrev F : Field
  F = field_of K

  abbrev M : Module F
  M = module_of K n generators

  -- the value of a word with one more term is that of the others plus the coefficient times the product
  pub value_with_term : (terms : List (ℕ × List ℕ)) (c : ℕ) (path : List ℕ) (value term : List (List ℕ)) → c < K.order → IsSquareOver K n term →
      IsWordValue K n generators terms value → matrix_of K term ≡ path_product F M path →
      IsWordValue K n generators (terms ++ (c, path) ∷ []) (rows_with_multiple K n value c term)
  unfolding rows_with_multiple
  value_with_term terms c path value term below over is_value is_product =
      term_added K n generators terms c path value term (table (length value) n f) below over (record {
        length_is = table_length (length value) n f ∙ is_value.square.length_is;
        matrix = table_over K (length value) n f (λ i j _ _. K.add-below (entry value i j) (K.mul c (entry term i j))
            (matrix_entry-below K n value i j is_value.square.matrix) (K.mul-below c (entry term i j) below (matrix_entry-below K n term i j over.matrix)));
      }) is_value is_product
      (λ i j row column. table_entry (length value) n f i j (omega (arith, is_value.square.length_is)) column)
    where
      f : ℕ → ℕ → ℕ
      f i j = K.add (entry value i j) (K.mul c (entry term i j))

  -- the product of one generator
  pub one_generator : All (IsSquareOver K n) generators → (i : ℕ) → i < length generators → matrix_of K (get_or generators i []) ≡ path_product F M (i ∷ [])
  unfolding path_product
  one_generator square i below = sym (multiply_identity F n n (M.generator i) (square_shape K n (get_or generators i []) (generator_over K n generators i square below)))

-- the zero matrix is the value of the word without terms
pub value-none : (m : ModuleValue) (o : Order) (rows cols : ℕ) (x : MatrixValue) → x ≡ zero_matrix o rows cols → o ≡ m.order → rows ≡ m.dim → cols ≡ m.dim →
    IsValueOf m [] x
value-none m o rows cols x is field rows_is cols_is = record {
  field = ap (λ (y : MatrixValue). y.order) is ∙ field;
  columns = ap (λ (y : MatrixValue). y.cols) is ∙ cols_is;
  value = subst (IsWordValue (number_field m.order) m.dim m.generators []) (sym zeros) (empty_sum (number_field m.order) m.dim m.generators);
}
  where
    zeros : x.rows ≡ table m.dim m.dim (λ i j. 0)
    zeros = ap (λ (y : MatrixValue). y.rows) is ∙ ap (λ k. table k cols (λ i j. 0)) rows_is ∙ ap (λ k. table m.dim k (λ i j. 0)) cols_is

-- one more term
pub value-more : (m : ModuleValue) (word : WordValue) (index : ℕ) (sum next x : MatrixValue) (coefficient : ℕ) (numbers : List ℕ) → IsWordIn m word →
    index < length word → IsValueOf m (take index word) sum → coefficient ≡ (get_or word index (0, [])).0 → numbers ≡ (get_or word index (0, [])).1 →
    IsProductOf m numbers x → next ≡ matrix_with_multiple sum coefficient x → IsValueOf m (take (index + 1) word) next
value-more m word index sum next x coefficient numbers over below before coefficient_is numbers_is h is = record {
  field = ap (λ (y : MatrixValue). y.order) is ∙ before.field;
  columns = ap (λ (y : MatrixValue). y.cols) is ∙ before.columns;
  value = subst (λ rows. IsWordValue K m.dim m.generators (take (index + 1) word) rows) (sym rows)
      (subst (λ terms. IsWordValue K m.dim m.generators terms (rows_with_multiple K m.dim sum.rows coefficient x.rows)) (sym terms)
      (value_with_term K m.dim m.generators (take index word) coefficient numbers sum.rows x.rows element h.square before.value h.product));
}
  where
    K : NumberField
    K = number_field m.order

    rows : next.rows ≡ rows_with_multiple K m.dim sum.rows coefficient x.rows
    rows =
        ap (λ (y : MatrixValue). y.rows) is
        ∙ ap (λ o. rows_with_multiple (number_field o) sum.cols sum.rows coefficient x.rows) before.field
        ∙ ap (λ k. rows_with_multiple K k sum.rows coefficient x.rows) before.columns

    terms : take (index + 1) word ≡ take index word ++ (coefficient, numbers) ∷ []
    terms =
        take_more word index (0, []) below
        ∙ ap (λ (term : ℕ × List ℕ). take index word ++ term ∷ []) (λ i. (sym coefficient_is i, sym numbers_is i))

    element : coefficient < K.order
    element = subst (λ c. c < K.order) (sym coefficient_is) (over.over.coefficients index (0, []) below)

-- the identity is the product of no generators
pub product-none : (m : ModuleValue) (o : Order) (n : ℕ) (x : MatrixValue) (numbers : List ℕ) → x ≡ identity_matrix o n → o ≡ m.order → n ≡ m.dim →
    length numbers < 1 → IsProductOf m numbers x
product-none m o n x numbers is field dim none = record {
  field = ap (λ (y : MatrixValue). y.order) is ∙ field;
  columns = ap (λ (y : MatrixValue). y.cols) is ∙ dim;
  square = subst (IsSquareOver K m.dim) (sym rows) (record { length_is = identity_length K m.dim; matrix = identity_over K m.dim });
  product =
      ap (matrix_of K) rows ∙ empty_product K m.dim m.generators
      ∙ ap (path_product (field_of K) (module_of K m.dim m.generators)) (sym (no_numbers numbers none));
}
  where
    K : NumberField
    K = number_field m.order

    no_numbers : (xs : List ℕ) → length xs < 1 → xs ≡ []
    no_numbers [] none = refl
    no_numbers (x ∷ xs) none = absurd (omega arith)

    rows : x.rows ≡ identity m.dim
    rows = ap (λ (y : MatrixValue). y.rows) is ∙ ap identity dim

-- a generator is the product of itself alone
pub product-one : (m : ModuleValue) (i : ℕ) (x : MatrixValue) (numbers : List ℕ) → IsModule m → All (λ number. number < length m.generators) numbers →
    x ≡ generator_of m i → i ≡ get_or numbers 0 0 → length numbers ≡ 1 → IsProductOf m numbers x
product-one m i x numbers is_m each is i_is one = record {
  field = ap (λ (y : MatrixValue). y.order) is;
  columns = ap (λ (y : MatrixValue). y.cols) is;
  square = subst (IsSquareOver K m.dim) (sym rows) (generator_over K m.dim m.generators i is_m.over.square below);
  product =
      ap (matrix_of K) rows
      ∙ one_generator K m.dim m.generators is_m.over.square i below
      ∙ ap (path_product (field_of K) (module_of K m.dim m.generators)) (ap (λ j. j ∷ []) i_is ∙ sym (one_number numbers one));
}
  where
    one_number : (xs : List ℕ) → length xs ≡ 1 → xs ≡ get_or xs 0 0 ∷ []
    one_number [] one = absurd (omega arith)
    one_number (x ∷ []) one = refl
    one_number (x ∷ y ∷ xs) one = absurd (omega arith)

    below : i < length m.generators
    below = subst (λ j. j < length m.generators) (sym i_is) (each 0 0 (omega arith))

    K : NumberField
    K = number_field m.order

    rows : x.rows ≡ get_or m.generators i []
    rows = ap (λ (y : MatrixValue). y.rows) is

-- the coefficient of a term is an element of the field
pub coefficient-IsElement : (m : ModuleValue) (word : WordValue) (index coefficient : ℕ) (o : Order) → IsWordIn m word → index < length word →
    coefficient ≡ (get_or word index (0, [])).0 → o ≡ m.order → IsElement o coefficient
coefficient-IsElement m word index coefficient o over inside is same =
    subst (λ p. IsElement p coefficient) (sym same)
    (subst (λ c. IsElement m.order c) (sym is)
    (subst (λ q. (get_or word index (0, [])).0 < q) (number_field-order m.order) (over.over.coefficients index (0, []) inside)))

-- the numbers of a term are those of generators
pub numbers-below : (m : ModuleValue) (word : WordValue) (index : ℕ) (numbers : List ℕ) → IsWordIn m word → index < length word →
    numbers ≡ (get_or word index (0, [])).1 → All (λ number. number < length m.generators) numbers
numbers-below m word index numbers over inside is =
    subst (All (λ number. number < length m.generators)) (sym is) (over.over.generators index (0, []) inside)

-- the value of a word is square
pub value-is_square : (m : ModuleValue) (word : WordValue) (sum : MatrixValue) → IsValueOf m word sum → length sum.rows ≡ sum.cols
value-is_square m word sum value = value.value.square.length_is ∙ sym value.columns

-- a drawn word is a word in the generators of a module with a field of its order and as many generators
pub drawn_word-in : (m : ModuleValue) (seed number q k : ℕ) → order_number m.order ≡ q → length m.generators ≡ k → 1 ≤ k → IsWordIn m (drawn_word seed number q k)
drawn_word-in m seed number q k field count some = record {
  over = subst (λ n. IsWordOver (number_field m.order) n (drawn_word seed number q k)) (sym count) (drawn_word-over seed number q k m.order field some);
}

-- a word has one value
pub value-is_unique : (m : ModuleValue) (word : WordValue) (a b : MatrixValue) → IsValueOf m word a → IsValueOf m word b → a ≡ b
value-is_unique m word a b first second =
    same_matrix a b (first.field ∙ sym second.field) (first.columns ∙ sym second.columns)
    (word_value_is_unique (number_field m.order) m.dim m.generators word a.rows b.rows first.value second.value)
