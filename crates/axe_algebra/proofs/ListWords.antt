-- Products of generators and values of words, step by step on lists.
use Rattle.std.specs.Prelude.{◌≡◌, ℕ, ◌<◌, List, [], ◌∷◌, ◌++◌, length, get_or}
use Rattle.std.specs.List.{All, AllByRecursion}
use Rattle.axe_algebra.specs.NumberField.{NumberField}
use Rattle.axe_algebra.specs.Field.{Field}
use Rattle.axe_algebra.specs.Vectors.{Matrix, HasShape, add_matrices, scale, multiply}
use Rattle.axe_algebra.specs.Modules.{Module, HasSquareMatrices, AreGenerators, path_product}
use Rattle.axe_algebra.specs.Words.{Word, IsWordOf, word_value}
use Rattle.axe_algebra.specs.Bridge.{field_of, element, matrix_of, module_of, word_of}
use Rattle.axe_algebra.specs.Lists.{entry, table, IsSquareOver}
use Rattle.axe_algebra.specs.ListArithmetic.{product, identity}
use Rattle.axe_algebra.specs.WordsOfLists.{IsWordOver, IsWordValue}
use Rattle.axe_algebra.proofs.FieldLaws.{mul-zero}
use Rattle.axe_algebra.proofs.ProductLaws.{multiply_assoc, multiply_identity, identity_multiply}
use Rattle.axe_algebra.proofs.ElementNumbers.{element_zero, element_add, element_mul, zero-below}
use Rattle.axe_algebra.proofs.ListEntries.{square_shape, matrix_entry-below, matrix_of_table, same_matrix, table_length, table_over}
use Rattle.axe_algebra.proofs.ListProducts.{matrix_of_identity}
use Rattle.axe_algebra.proofs.ListLaws.{matrix_of_product_of}
use Rattle.axe_algebra.proofs.ListModules.{module_shape, generator_over}
use Rattle.std.proofs.lemmas.List.{map-append}
use Rattle.std.proofs.lemmas.List.Elements.{recursion_from_All}
use mathlib.Core.Path.{refl, sym, ◌∙◌, ap, ap₂, fun_ext}
use native.Mathlib.Omega.{arith}
use native.Mathlib.Decide.{dec_lt}

module _ (F : Field) (M : Module F) where
  -- the product of a path and one more generator
  pub path_product_then : HasSquareMatrices F M → (path : List ℕ) (i : ℕ) → AreGenerators F M path → i < M.count →
      path_product F M (path ++ i ∷ []) ≡ multiply F M.dimension (path_product F M path) (M.generator i)
  unfolding path_product
  path_product_then is [] i all below =
      multiply_identity F M.dimension M.dimension (M.generator i) (is.square i below)
      ∙ sym (identity_multiply F M.dimension M.dimension (M.generator i) (is.square i below))
  path_product_then is (j ∷ path) i all below =
      ap (multiply F M.dimension (M.generator j)) (path_product_then is path i all.1 below)
      ∙ sym (multiply_assoc F M.dimension M.dimension (M.generator j) (path_product F M path) (M.generator i))

  -- the value of a word with one more term
  pub word_value_then : (word : Word F) (c : F.Element) (path : List ℕ) →
      word_value F M (word ++ (c, path) ∷ []) ≡ add_matrices F (word_value F M word) (λ i. scale F c (path_product F M path i))
  unfolding word_value
  word_value_then [] c path = fun_ext λ i. fun_ext λ j. F.add_comm (F.mul c (path_product F M path i j)) F.zero
  word_value_then (term ∷ word) c path = fun_ext λ i. fun_ext λ j.
      ap (λ (a : Matrix F). F.add (F.mul term.0 (path_product F M term.1 i j)) (a i j)) (word_value_then word c path)
      ∙ sym (F.add_assoc (F.mul term.0 (path_product F M term.1 i j)) (word_value F M word i j) (F.mul c (path_product F M path i j)))

module _ (K : NumberField) where
  abbrev F : Field
  F = field_of K

  module _ (n : ℕ) (generators : List (List (List ℕ))) where
    abbrev M : Module F
    M = module_of K n generators

    -- numbers below the number of generators are numbers of generators
    pub are_generators : (path : List ℕ) → All (λ i. i < length generators) path → AreGenerators F M path
    are_generators path all = from path (recursion_from_All (λ i. i < length generators) path all)
      where
        from : (path : List ℕ) → AllByRecursion (λ i. i < length generators) path → AreGenerators F M path
        from [] all = tt
        from (i ∷ path) all = (all.0, from path all.1)

    pub is_word : (terms : List (ℕ × List ℕ)) → IsWordOver K (length generators) terms → IsWordOf F M (word_of K terms)
    is_word terms over = from terms (recursion_from_All (λ (term : ℕ × List ℕ). All (λ i. i < length generators) term.1) terms over.generators)
      where
        from : (terms : List (ℕ × List ℕ)) → AllByRecursion (λ (term : ℕ × List ℕ). All (λ i. i < length generators) term.1) terms →
            IsWordOf F M (word_of K terms)
        from [] all = tt
        from (term ∷ terms) all = (are_generators term.1 all.0, from terms all.1)

    -- the empty product, and one more generator
    pub empty_product : matrix_of K (identity n) ≡ path_product F M []
    unfolding path_product
    empty_product = matrix_of_identity K n

    pub product_then : All (IsSquareOver K n) generators → (path : List ℕ) (i : ℕ) (value : List (List ℕ)) → AreGenerators F M path → i < length generators →
        IsSquareOver K n value → matrix_of K value ≡ path_product F M path →
        matrix_of K (product K n value (get_or generators i [])) ≡ path_product F M (path ++ i ∷ [])
    product_then square path i value all below over same =
        let g : IsSquareOver K n (get_or generators i []) = generator_over K n generators i square below in
        matrix_of_product_of K n n value (get_or generators i []) g.length_is over.matrix g.matrix
        ∙ ap (λ (a : Matrix F). multiply F n a (matrix_of K (get_or generators i []))) same
        ∙ sym (path_product_then F M (module_shape K n generators square) path i all below)

    -- the empty sum, and one more term
    pub empty_sum : IsWordValue K n generators [] (table n n (λ i j. 0))
    unfolding word_value
    empty_sum = record {
      square = record { length_is = table_length n n (λ i j. 0); matrix = table_over K n n (λ i j. 0) (λ i j below inside. zero-below K) };
      value = matrix_of_table K n n (λ i j. 0) (λ i j. F.zero) (record { rows = λ i j past. refl; columns = λ i j past. refl })
          (λ i j below inside. element_zero K);
    }

    pub term_added : (terms : List (ℕ × List ℕ)) (c : ℕ) (path : List ℕ) (value term sum : List (List ℕ)) → c < K.order →
        IsSquareOver K n term → IsSquareOver K n sum →
        IsWordValue K n generators terms value → matrix_of K term ≡ path_product F M path →
        ((i j : ℕ) → i < n → j < n → entry sum i j ≡ K.add (entry value i j) (K.mul c (entry term i j))) →
        IsWordValue K n generators (terms ++ (c, path) ∷ []) sum
    term_added terms c path value term sum below over_term over_sum is_value is_product same = record {
      square = over_sum;
      value =
          (fun_ext λ i. fun_ext λ j. at i j (dec_lt i n) (dec_lt j n))
          ∙ ap₂ (λ (a b : Matrix F). add_matrices F a (λ i. scale F (element K c) (b i))) is_value.value is_product
          ∙ sym (word_value_then F M (word_of K terms) (element K c) path)
          ∙ ap (word_value F M) (sym (map-append (λ (t : ℕ × List ℕ). (element K t.0, t.1)) terms ((c, path) ∷ [])));
    }
      where
        over_value : IsSquareOver K n value
        over_value = is_value.square

        shape_value : HasShape F n n (matrix_of K value)
        shape_value = square_shape K n value over_value

        shape_term : HasShape F n n (matrix_of K term)
        shape_term = square_shape K n term over_term

        shape_sum : HasShape F n n (matrix_of K sum)
        shape_sum = square_shape K n sum over_sum

        none : (i j : ℕ) → matrix_of K value i j ≡ F.zero → matrix_of K term i j ≡ F.zero →
            F.add (matrix_of K value i j) (F.mul (element K c) (matrix_of K term i j)) ≡ F.zero
        none i j first second = ap₂ (λ x y. F.add x (F.mul (element K c) y)) first second ∙ ap (F.add F.zero) (mul-zero F (element K c)) ∙ F.add-zero F.zero

        at : (i j : ℕ) → Dec (i < n) → Dec (j < n) → matrix_of K sum i j ≡ F.add (matrix_of K value i j) (F.mul (element K c) (matrix_of K term i j))
        at i j (yes row) (yes column) =
            ap (element K) (same i j row column)
            ∙ element_add K (entry value i j) (K.mul c (entry term i j)) (matrix_entry-below K n value i j over_value.matrix)
            (K.mul-below c (entry term i j) below (matrix_entry-below K n term i j over_term.matrix))
            ∙ ap (F.add (matrix_of K value i j)) (element_mul K c (entry term i j) below (matrix_entry-below K n term i j over_term.matrix))
        at i j (no past) _ = shape_sum.rows i j (omega arith) ∙ sym (none i j (shape_value.rows i j (omega arith)) (shape_term.rows i j (omega arith)))
        at i j (yes row) (no past) =
            shape_sum.columns i j (omega arith) ∙ sym (none i j (shape_value.columns i j (omega arith)) (shape_term.columns i j (omega arith)))

    -- a word has one value
    pub word_value_is_unique : (terms : List (ℕ × List ℕ)) (a b : List (List ℕ)) →
        IsWordValue K n generators terms a → IsWordValue K n generators terms b → a ≡ b
    word_value_is_unique terms a b first second =
        same_matrix K n a b (first.square.length_is ∙ sym second.square.length_is) first.square.matrix second.square.matrix
        (first.value ∙ sym second.value)
