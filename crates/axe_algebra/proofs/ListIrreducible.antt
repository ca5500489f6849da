-- Irreducible modules of lists: the criterion of Norton, and the spans that show a module to be reducible.
use Rattle.std.specs.Prelude.{◌≡◌, ◌≢◌, ℕ, List, length}
use Rattle.std.specs.List.{All}
use Rattle.axe_algebra.specs.NumberField.{NumberField}
use Rattle.axe_algebra.specs.Field.{Field}
use Rattle.axe_algebra.specs.Vectors.{Vector, Matrix, HasLength, zero_vector, transposed, times}
use Rattle.axe_algebra.specs.Spans
use Rattle.axe_algebra.specs.Modules.{Module, VectorGeneratesAll}
use Rattle.axe_algebra.specs.Words.{Word, word_value}
use Rattle.axe_algebra.specs.Bridge.{field_of, vector_of, matrix_of, module_of, word_of}
use Rattle.axe_algebra.specs.Lists.{entry, listed, entries_of, IsVectorOver, IsSquareOver}
use Rattle.axe_algebra.specs.ListArithmetic.{transpose, transposed_generators}
use Rattle.axe_algebra.specs.SpansOfLists.{IsNullVector}
use Rattle.axe_algebra.specs.ModulesOfLists.{GeneratesEverything, IsIrreducible}
use Rattle.axe_algebra.specs.WordsOfLists.{IsWordOver, IsWordValue}
use Rattle.axe_algebra.proofs.NortonCriterion.{norton}
use Rattle.axe_algebra.proofs.ListEntries.{table_length, vector_of_entries, entries_over}
use Rattle.axe_algebra.proofs.ListProducts.{matrix_of_transpose}
use Rattle.axe_algebra.proofs.ListVectors.{vector_of_zeros}
use Rattle.axe_algebra.proofs.ListModules.{module_shape, module_of_transposes}
use Rattle.axe_algebra.proofs.ListWords.{is_word}
use mathlib.Core.Path.{sym, ◌∙◌, ap, subst}

pub transpose_length : (n : ℕ) (a : List (List ℕ)) → length (transpose n a) ≡ n
unfolding transpose
transpose_length n a = table_length n (length a) (λ i j. entry a j i)

module _ (K : NumberField) where
  abbrev F : Field
  F = field_of K

  module _ (n : ℕ) (generators : List (List (List ℕ))) (square : All (IsSquareOver K n) generators) where
    abbrev M : Module F
    M = module_of K n generators

    -- where every nonzero null vector of a word's value generates everything, and one null vector of its transpose generates
    -- everything in the transposed module, the module is irreducible
    pub irreducible_by_norton : (terms : List (ℕ × List ℕ)) (value : List (List ℕ)) (w : List ℕ) → IsWordOver K (length generators) terms →
        IsWordValue K n generators terms value →
        ((v : List ℕ) → IsVectorOver K n v → v ≢ listed n (λ j. 0) → IsNullVector K value v → GeneratesEverything K n generators v) →
        IsNullVector K (transpose n value) w → GeneratesEverything K n (transposed_generators n generators) w → IsIrreducible K n generators
    irreducible_by_norton terms value w over is_value each null generates =
        norton F M (module_shape K n generators square) word (is_word K n generators terms over) every (vector_of K w) null_of_transpose
        (subst (λ (N : Module F). VectorGeneratesAll F N (vector_of K w)) (module_of_transposes K n generators square) generates)
      where
        word : Word F
        word = word_of K terms

        every : (x : Vector F) → x ≢ zero_vector F → Spans.IsNullVector F n (word_value F M word) x → VectorGeneratesAll F M x
        every x nonzero null_x =
            subst (VectorGeneratesAll F M) same
            (each (entries_of K n x) (entries_over K n x) (λ e. nonzero (sym same ∙ ap (vector_of K) e ∙ vector_of_zeros K n))
            (record {
              length = subst (λ m. HasLength F m (vector_of K (entries_of K n x))) (sym is_value.square.length_is) (subst (HasLength F n) (sym same) null_x.length);
              vanishes =
                  ap (λ m. times F m (vector_of K (entries_of K n x)) (matrix_of K value)) is_value.square.length_is
                  ∙ ap (λ (a : Matrix F). times F n (vector_of K (entries_of K n x)) a) is_value.value
                  ∙ ap (λ (y : Vector F). times F n y (word_value F M word)) same ∙ null_x.vanishes;
            }))
          where
            same : vector_of K (entries_of K n x) ≡ x
            same = vector_of_entries K n x null_x.length

        columns : length (transpose n value) ≡ n
        columns = transpose_length n value

        null_of_transpose : Spans.IsNullVector F n (transposed F (word_value F M word)) (vector_of K w)
        null_of_transpose = record {
          length = subst (λ m. HasLength F m (vector_of K w)) columns null.length;
          vanishes =
              ap (λ (a : Matrix F). times F n (vector_of K w) (transposed F a)) (sym is_value.value)
              ∙ ap (times F n (vector_of K w)) (sym (matrix_of_transpose K n value is_value.square.matrix))
              ∙ ap (λ m. times F m (vector_of K w) (matrix_of K (transpose n value))) (sym columns) ∙ null.vanishes;
        }
