-- The pivot of a row of a subspace's echelon form.
use Rattle.std.specs.Prelude.{◌≡◌, ℕ, ◌<◌, List, length, get_or}
use native.Mathlib.Nat.{suc-ne-zero}
use Rattle.axe_algebra.specs.NumberField.{NumberField}
use Rattle.axe_algebra.specs.Bridge.{element, matrix_of}
use Rattle.axe_algebra.specs.Lists.{entry, IsMatrixOver}
use Rattle.axe_algebra.specs.SpansOfLists.{IsPivot}
use Rattle.axe_algebra.proofs.ElementNumbers.{same_number, element_one, element_zero, zero-below}
use Rattle.axe_algebra.proofs.ListEntries.{matrix_entry-below, row_over}
use Rattle.axe_field.specs.Order.{Order}
use Rattle.axe_field.specs.NumberFields.{number_field}
use Rattle.axe_echelon.specs.Echelons.{EchelonValue}
use Rattle.axe_echelon.specs.Orthogonal.{IsPivotOfRow}
use Rattle.axe_echelon.specs.Subspaces.{rows_of, pivots_of, space_of, AreFormRows}
use Rattle.axe_echelon.specs.declared.subspace.PivotRow.{PivotRow}
use Rattle.axe_echelon.proofs.PivotLaws.{pivot_of_row_at}
use Rattle.axe_echelon.proofs.PivotRowLaws.{length-rows_of, rows_are_over, pivot_at, row_place}
use mathlib.Core.Path.{sym, ◌∙◌, ap, subst}
use native.Mathlib.Omega.{arith}

module _ (o : Order) (n : ℕ) (rows : List PivotRow) (are : AreFormRows o n rows) (i : ℕ) (p : PivotRow) (below : i < length rows)
    (is : p ≡ get_or rows i p) where
  abbrev K : NumberField
  K = number_field o

  abbrev w : List (List ℕ)
  w = rows_of rows

  among : i < length w
  among = omega (arith, below, length-rows_of rows)

  over : IsMatrixOver K n w
  over = rows_are_over o n rows are.each

  place : get_or (pivots_of rows) i 0 ≡ p.pivot
  place = pivot_at rows i p below is

  number : (t j a : ℕ) → a < K.order → matrix_of K w t j ≡ element K a → entry w t j ≡ a
  number t j a few e = same_number K (entry w t j) a (matrix_entry-below K n w t j over) few e

  one : entry w i p.pivot ≡ 1
  one = number i p.pivot 1 K.one-below (ap (matrix_of K w i) (sym place) ∙ are.form.one i among ∙ sym (element_one K))

  pub pivot_of_row : (e : EchelonValue) → space_of o n rows ≡ e → IsPivotOfRow e i p.pivot
  pivot_of_row e view = subst (λ (x : EchelonValue). IsPivotOfRow x i p.pivot) view (record {
    first = record {
      within = omega (
        arith,
        row_place o n rows i p are below is,
        (row_over K n w i over among).length_is,
      );
      nonzero = λ zero. suc-ne-zero 0 (sym one ∙ zero);
      zeros_before = λ j ahead. number i j 0 (zero-below K) (are.form.before i j among (subst (λ k. j < k) (sym place) ahead) ∙ sym (element_zero K));
    };
    one = one;
    cleared = λ t later ahead. number t p.pivot 0 (zero-below K)
        (ap (matrix_of K w t) (sym place) ∙ are.form.cleared i t later ahead ∙ sym (element_zero K));
    is_pivot = subst (IsPivot K w) place (pivot_of_row_at o n rows i are below);
  })

  pub pivot_within : p.pivot < n
  pivot_within = row_place o n rows i p are below is
