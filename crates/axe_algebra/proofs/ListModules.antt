-- Modules as lists of generators: their shape, images, invariant spans and actions, equation by equation.
use Rattle.std.specs.Prelude.{◌≡◌, ℕ, ◌<◌, List, [], length, get_or}
use Rattle.std.specs.List.{All}
use Rattle.axe_algebra.specs.NumberField.{NumberField}
use Rattle.axe_algebra.specs.Field.{Field}
use Rattle.axe_algebra.specs.Vectors.{transposed, times}
use Rattle.axe_algebra.specs.Spans
use Rattle.axe_algebra.specs.Modules.{HasSquareMatrices, image, transposed_module}
use Rattle.axe_algebra.specs.Bridge.{field_of, vector_of, matrix_of, module_of}
use Rattle.axe_algebra.specs.Lists.{IsVectorOver, IsMatrixOver, IsSquareOver}
use Rattle.axe_algebra.specs.ListArithmetic.{combination, transpose, transposed_generators}
use Rattle.axe_algebra.specs.SpansOfLists.{IsSpanned}
use Rattle.axe_algebra.specs.ModulesOfLists.{IsInvariant, IsSubAction}
use Rattle.axe_algebra.proofs.ListEntries.{square_shape, row_over, row_past}
use Rattle.axe_algebra.proofs.ListProducts.{vector_of_combination, combination_over, matrix_of_transpose}
use Rattle.std.proofs.lemmas.List.{length-map, get_or-map, get_or_past}
use mathlib.Core.Path.{refl, sym, ◌∙◌, ap, subst, fun_ext}
use native.Mathlib.Omega.{arith}
use native.Mathlib.Decide.{dec_lt}

module _ (K : NumberField) where
  abbrev F : Field
  F = field_of K

  -- a generator of a module
  pub generator_over : (n : ℕ) (generators : List (List (List ℕ))) (i : ℕ) → All (IsSquareOver K n) generators → i < length generators →
      IsSquareOver K n (get_or generators i [])
  generator_over n generators i square below = square i [] below

  pub module_shape : (n : ℕ) (generators : List (List (List ℕ))) → All (IsSquareOver K n) generators → HasSquareMatrices F (module_of K n generators)
  module_shape n generators square = record { square = λ i below. square_shape K n (get_or generators i []) (generator_over n generators i square below) }

  -- a vector times a generator is its image
  pub vector_of_image : (n : ℕ) (generators : List (List (List ℕ))) (v : List ℕ) (i : ℕ) → All (IsSquareOver K n) generators → i < length generators →
      IsVectorOver K n v → vector_of K (combination K n v (get_or generators i [])) ≡ image F (module_of K n generators) (vector_of K v) i
  vector_of_image n generators v i square below over =
      vector_of_combination K n v (get_or generators i []) (subst (λ m. IsVectorOver K m v) (sym g.length_is) over) g.matrix
      ∙ ap (λ m. times F m (vector_of K v) (matrix_of K (get_or generators i []))) g.length_is
    where
      g : IsSquareOver K n (get_or generators i [])
      g = generator_over n generators i square below

  pub image_over : (n : ℕ) (generators : List (List (List ℕ))) (v : List ℕ) (i : ℕ) → All (IsSquareOver K n) generators → i < length generators →
      IsVectorOver K n v → IsVectorOver K n (combination K n v (get_or generators i []))
  image_over n generators v i square below over =
      combination_over K n v (get_or generators i []) (subst (λ m. IsVectorOver K m v) (sym g.length_is) over) g.matrix
    where
      g : IsSquareOver K n (get_or generators i [])
      g = generator_over n generators i square below

  -- the span of rows is invariant exactly when every row times every generator is spanned
  pub invariant_by_images : (n : ℕ) (generators : List (List (List ℕ))) (rows : List (List ℕ)) → All (IsSquareOver K n) generators → IsMatrixOver K n rows →
      ((t i : ℕ) → t < length rows → i < length generators → IsSpanned K rows (combination K n (get_or rows t []) (get_or generators i []))) →
      IsInvariant K n generators rows
  invariant_by_images n generators rows square over spanned = record {
    images = λ t i inside below. subst (Spans.InSpan F (length rows) (matrix_of K rows))
        (vector_of_image n generators (get_or rows t []) i square below (row_over K n rows t over inside)) (spanned t i inside below);
  }

  pub images_of_invariant : (n : ℕ) (generators : List (List (List ℕ))) (rows : List (List ℕ)) → All (IsSquareOver K n) generators → IsMatrixOver K n rows →
      IsInvariant K n generators rows → (t i : ℕ) → t < length rows → i < length generators →
      IsSpanned K rows (combination K n (get_or rows t []) (get_or generators i []))
  images_of_invariant n generators rows square over invariant t i inside below =
      subst (Spans.InSpan F (length rows) (matrix_of K rows))
      (sym (vector_of_image n generators (get_or rows t []) i square below (row_over K n rows t over inside))) (invariant.images t i inside below)

  -- matrices are the sub action exactly when each row times each generator is the combination with the matrix's row
  pub sub_action_by_rows : (n : ℕ) (generators : List (List (List ℕ))) (rows : List (List ℕ)) (matrices : List (List (List ℕ))) →
      All (IsSquareOver K n) generators → IsMatrixOver K n rows → All (IsSquareOver K (length rows)) matrices → length matrices ≡ length generators →
      ((i t : ℕ) → i < length generators → t < length rows →
      combination K n (get_or rows t []) (get_or generators i []) ≡ combination K n (get_or (get_or matrices i []) t []) rows) →
      IsSubAction K n generators rows matrices
  sub_action_by_rows n generators rows matrices square over squares count acts = record {
    dimension = refl;
    count = count;
    square = λ i below. square_shape K (length rows) (get_or matrices i []) (generator_over (length rows) matrices i squares (omega arith));
    acts = λ i t below inside.
        sym (vector_of_image n generators (get_or rows t []) i square below (row_over K n rows t over inside))
        ∙ ap (vector_of K) (acts i t below inside)
        ∙ vector_of_combination K n (get_or (get_or matrices i []) t []) rows (coefficients i t below inside) over;
  }
    where
      coefficients : (i t : ℕ) → i < length generators → t < length rows → IsVectorOver K (length rows) (get_or (get_or matrices i []) t [])
      coefficients i t below inside =
          let a : IsSquareOver K (length rows) (get_or matrices i []) = generator_over (length rows) matrices i squares (omega arith) in
          row_over K (length rows) (get_or matrices i []) t a.matrix (omega (arith, a.length_is))

  -- the list of the transposes is the transposed module
  pub module_of_transposes : (n : ℕ) (generators : List (List (List ℕ))) → All (IsSquareOver K n) generators →
      module_of K n (transposed_generators n generators) ≡ transposed_module F (module_of K n generators)
  module_of_transposes n generators square = λ i. record {
    dimension = n;
    count = length-map generators (transpose n) i;
    generator = fun_ext (λ l. at l (dec_lt l (length generators))) i;
  }
    where
      at : (l : ℕ) → Dec (l < length generators) →
          matrix_of K (get_or (transposed_generators n generators) l []) ≡ transposed F (matrix_of K (get_or generators l []))
      at l (yes below) =
          ap (matrix_of K) (get_or-map (transpose n) generators l [] [] below)
          ∙ matrix_of_transpose K n (get_or generators l []) (generator_over n generators l square below).matrix
      at l (no past) =
          ap (matrix_of K) (get_or_past (transposed_generators n generators) l [] (omega (arith, length-map generators (transpose n))))
          ∙ (fun_ext λ i. fun_ext λ j. row_past K [] i (omega arith) j ∙ sym (row_past K [] j (omega arith) i))
          ∙ ap (λ (rows : List (List ℕ)). transposed F (matrix_of K rows)) (sym (get_or_past generators l [] (omega arith)))
