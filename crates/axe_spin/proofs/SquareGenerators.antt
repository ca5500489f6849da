-- Matrices that are not refused as generators are square.
use Rattle.std.proofs.Common.{◌≡◌, refl, sym, ◌∙◌, ℕ, ◌==◌, not, if◌then◌else◌, List, [], ◌∷◌, length, Bool, true, false, Some, None}
use Rattle.std.specs.List.{All}
use Rattle.std.proofs.lemmas.Bool.{eqb-true}
use Rattle.std.proofs.lemmas.Option.{none-some}
use Rattle.std.proofs.lemmas.List.Elements.{All-nil, All-cons, All-head, All-tail}
use Rattle.axe_algebra.specs.Lists.{IsSquareOver}
use Rattle.axe_field.specs.Order.{Order, order_number}
use Rattle.axe_field.specs.NumberFields.{number_field}
use Rattle.axe_field.proofs.Orders.{order_number-injective}
use Rattle.axe_row.specs.declared.refusals.Refusal.TheVariants.{FieldsDiffer, ShapesDiffer, NotSquare, NoRows}
use Rattle.axe_matrix.specs.Matrices.{MatrixValue, IsMatrix}
use Rattle.axe_echelon.proofs.OneMatrix.{over_of}
use Rattle.axe_spin.specs.Modules.{generator_refusal, generators_refusal, rows_of_each}
use Rattle.axe_spin.proofs.SeedLaws.{none_of_both}

-- a generator that is not refused is a square matrix over the field
square_of_tests : (o : Order) (n : ℕ) (m : MatrixValue) (empty square field columns : Bool) → (length m.rows == m.cols) ≡ square →
    (order_number m.order == order_number o) ≡ field → (m.cols == n) ≡ columns →
    (if empty then Some NoRows else (if not square then Some NotSquare else (if not field then Some FieldsDiffer else (if not columns then Some ShapesDiffer else None))))
    ≡ None → IsMatrix m → IsSquareOver (number_field o) n m.rows
square_of_tests o n m false true true true square field columns e well = record {
  length_is = eqb-true _ _ square ∙ eqb-true _ _ columns;
  matrix = over_of m o n well (order_number-injective m.order o (eqb-true _ _ field)) (eqb-true _ _ columns);
}
square_of_tests o n m true s f c square field columns e well = absurd (none-some NoRows (sym e))
square_of_tests o n m false false f c square field columns e well = absurd (none-some NotSquare (sym e))
square_of_tests o n m false true false c square field columns e well = absurd (none-some FieldsDiffer (sym e))
square_of_tests o n m false true true false square field columns e well = absurd (none-some ShapesDiffer (sym e))

square_if_not_refused : (o : Order) (n : ℕ) (m : MatrixValue) → generator_refusal o n m ≡ None → IsMatrix m → IsSquareOver (number_field o) n m.rows
square_if_not_refused o n m e well = square_of_tests o n m _ _ _ _ refl refl refl e well

pub squares_if_not_refused : (o : Order) (n : ℕ) (matrices : List MatrixValue) → generators_refusal o n matrices ≡ None → All IsMatrix matrices →
    All (IsSquareOver (number_field o) n) (rows_of_each matrices)
squares_if_not_refused o n [] e well = All-nil (IsSquareOver (number_field o) n)
squares_if_not_refused o n (m ∷ rest) e well =
    let both = none_of_both (generator_refusal o n m) (generators_refusal o n rest) e in
    All-cons (IsSquareOver (number_field o) n) m.rows (rows_of_each rest) (square_if_not_refused o n m both.0 (All-head IsMatrix m rest well))
    (squares_if_not_refused o n rest both.1 (All-tail IsMatrix m rest well))
