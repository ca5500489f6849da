-- The quotient action on lists: rows of generators at the free columns, each by its representative.
use Rattle.std.specs.Prelude.{◌≡◌, ℕ, ◌<◌, List, [], length, get_or}
use Rattle.std.specs.List.{All}
use Rattle.axe_algebra.specs.NumberField.{NumberField}
use Rattle.axe_algebra.specs.Field.{Field}
use Rattle.axe_algebra.specs.Vectors.{Vector, unit_vector, subtract, times}
use Rattle.axe_algebra.specs.Spans
use Rattle.axe_algebra.specs.Reduced.{IsAscendingListOf}
use Rattle.axe_algebra.specs.Modules.{Module, image}
use Rattle.axe_algebra.specs.Actions.{IsFree, unit_vectors}
use Rattle.axe_algebra.specs.Bridge.{field_of, element, vector_of, matrix_of, module_of}
use Rattle.axe_algebra.specs.Lists.{entry, IsVectorOver, IsMatrixOver, IsSquareOver}
use Rattle.axe_algebra.specs.SpansOfLists.{IsRepresentative}
use Rattle.axe_algebra.specs.ModulesOfLists.{IsQuotientAction}
use Rattle.axe_algebra.proofs.ProductLaws.{times_unit, times_same}
use Rattle.axe_algebra.proofs.Spanning.{span_same}
use Rattle.axe_algebra.proofs.FreeColumns.{by_free_columns}
use Rattle.axe_algebra.proofs.ListEntries.{rows_length, square_shape, vector_length}
use Rattle.axe_algebra.proofs.ListModules.{generator_over}
use mathlib.Core.Path.{refl, sym, ◌∙◌, ap, ap₂}
use native.Mathlib.Omega.{arith}

-- the list of the rows of a quotient action: row t is that of the generator's row at a free column, at the free columns
pub record IsRowOfQuotient (K : NumberField) (n : ℕ) (rows : List (List ℕ)) (columns : ℕ → ℕ) (m : ℕ) (generator matrix : List (List ℕ)) (t : ℕ) : Type 0 where
  pub representative : List ℕ
  pub over : IsVectorOver K n representative
  pub represents : IsRepresentative K rows (get_or generator (columns t) []) representative
  pub entries : (s : ℕ) → s < m → entry matrix t s ≡ get_or representative (columns s) 0

module _ (K : NumberField) where
  abbrev F : Field
  F = field_of K

  module _ (n : ℕ) (generators : List (List (List ℕ))) (square : All (IsSquareOver K n) generators) (rows : List (List ℕ)) (over : IsMatrixOver K n rows)
    where
      abbrev M : Module F
      M = module_of K n generators
          -- lists whose rows are so are the quotient action

      pub quotient_action_by_rows : (m : ℕ) (columns : ℕ → ℕ) (matrices : List (List (List ℕ))) →
          IsAscendingListOf (IsFree F n (length rows) (matrix_of K rows)) m columns → All (IsSquareOver K m) matrices → length matrices ≡ length generators →
          ((i t : ℕ) → i < length generators → t < m → IsRowOfQuotient K n rows columns m (get_or generators i []) (get_or matrices i []) t) →
          IsQuotientAction K n generators rows m matrices
      quotient_action_by_rows m columns matrices free squares count each = record {
        dimension = refl;
        count = count;
        square = λ i below. square_shape K m (get_or matrices i []) (generator_over K m matrices i squares (omega arith));
        columns = columns;
        free = free;
        acts = λ i t below inside. act i t below inside (each i t below inside);
      }
        where
          act : (i t : ℕ) → i < length generators → t < m → IsRowOfQuotient K n rows columns m (get_or generators i []) (get_or matrices i []) t →
              Spans.InSpan F (length rows) (matrix_of K rows)
              (subtract F (image F M (unit_vector F (columns t)) i) (times F m (matrix_of K (get_or matrices i []) t) (unit_vectors F columns)))
          act i t below inside row =
              span_same F (length rows) (matrix_of K rows) _ (subtract F (matrix_of K (get_or generators i []) (columns t)) y)
              (ap₂ (subtract F) (times_unit F n (columns t) (matrix_of K (get_or generators i [])) (free.each t inside).below) combination)
              row.represents.in_coset
            where
              y : Vector F
              y = vector_of K row.representative

              combination : times F m (matrix_of K (get_or matrices i []) t) (unit_vectors F columns) ≡ y
              combination =
                  times_same F m (matrix_of K (get_or matrices i []) t) (λ s. y (columns s)) (unit_vectors F columns) (unit_vectors F columns)
                  (λ s small. ap (element K) (row.entries s small)) (λ s small. refl)
                  ∙ sym (by_free_columns F n (length rows) (matrix_of K rows) (rows_length K n rows over) m columns free y
                  (vector_length K n row.representative row.over.length_is) row.represents.at_pivots)
