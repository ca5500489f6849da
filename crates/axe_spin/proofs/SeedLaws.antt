-- Rows that are vectors of a module, and seeds.
use Rattle.std.specs.Prelude.{◌≡◌, ℕ, ◌==◌, not, if◌then◌else◌, Bool, true, false, Option, Some, None, Result, Ok, Err}
use Rattle.std.specs.Result.{IsErrAnd}
use Rattle.std.proofs.lemmas.Bool.{eq-eqb, eqb-true}
use Rattle.axe_algebra.specs.Lists.{IsMatrixOver}
use Rattle.axe_field.specs.Order.{order_number}
use Rattle.axe_field.specs.NumberFields.{number_field}
use Rattle.axe_row.specs.declared.refusals.Refusal.{Refusal}
use Rattle.axe_row.specs.declared.refusals.Refusal.TheVariants.{FieldsDiffer, ShapesDiffer, ZeroSeed}
use Rattle.axe_row.specs.Refusals.{Answers, first_of, unless_refused}
use Rattle.axe_matrix.specs.Matrices.{MatrixValue, IsMatrix, has_only_zeros}
use Rattle.axe_matrix.proofs.OnlyZeros.{row_of_zeros}
use Rattle.axe_field.proofs.Orders.{order_number-injective}
use Rattle.axe_echelon.proofs.Exits.{handed_on, no_memory, no_value, same_refusal}
use Rattle.axe_echelon.proofs.InverseLaws.{matrix_over}
use Rattle.axe_spin.specs.Modules.{ModuleValue, rows_refusal}
use Rattle.axe_spin.specs.Spinning.{seed_refusal, IsFirstNonzeroRow}
use Rattle.axe_spin.proofs.ZeroRows.{false_if_absurd}
use mathlib.Core.Path.{refl, sym, ◌∙◌, ap, subst}

-- ---- one refusal after another

-- what is refused first is refused
pub refused_first : {A : Type 0} (first second : Option Refusal) (value : A) (refusal : Refusal) → Err refusal ≡ unless_refused first value →
    Err refusal ≡ unless_refused (first_of first second) value
refused_first (Some other) second value refusal e = e
refused_first None second value refusal e = absurd (no_value value refusal e)

-- where nothing is refused first, the second refusal is answered, if it stands
pub then_second : {A : Type 0} (first second : Option Refusal) (value : A) → first ≡ None → unless_refused second value ≡ unless_refused (first_of first second) value
then_second first second value none = rw none refl

-- none of two refusals stands where the first that stands is none
pub none_of_both : (first second : Option Refusal) → first_of first second ≡ None → (first ≡ None) × (second ≡ None)
none_of_both None second e = (refl, e)
none_of_both (Some refusal) second e = cc

-- a callee's refusal is handed on, and what it gives goes on
pub handed_on_refusal : {S T : Type 0} (why : Option Refusal) (P : S → Type 0) (Q : T → Type 0) (result : Result T Refusal) (refusal : Refusal) →
    Answers why P (Err refusal) → IsErrAnd result (λ r. r ≡ refusal) → Answers why Q result
handed_on_refusal None P Q result refusal h is = no_memory Q result refusal is h
handed_on_refusal (Some other) P Q result refusal h is = handed_on result refusal is ∙ ap Err (same_refusal refusal other h)

pub goes_on : {S T : Type 0} (why : Option Refusal) (P : S → Type 0) (Q : T → Type 0) (value : S) (result : Result T Refusal) →
    Answers why P (Ok value) → (P value → Answers None Q result) → Answers why Q result
goes_on None P Q value result h more = more h
goes_on (Some other) P Q value result h more = absurd (no_value value other (sym h))

-- the refusal of rows of zeros
abbrev pub zeros_refusal : Bool → Refusal → Option Refusal
zeros_refusal zeros refusal = if zeros then Some refusal else None

pub zeros_refused : {A : Type 0} (zeros : Bool) (refusal : Refusal) (value : A) → zeros ≡ true → Err refusal ≡ unless_refused (zeros_refusal zeros refusal) value
zeros_refused zeros refusal value e = rw e refl

pub others_accepted : {A : Type 0} (zeros : Bool) (refusal : Refusal) (value : A) → zeros ≡ false → Ok value ≡ unless_refused (zeros_refusal zeros refusal) value
others_accepted zeros refusal value e = rw e refl

pub some_nonzero_if_accepted : (zeros : Bool) (refusal : Refusal) → zeros_refusal zeros refusal ≡ None → zeros ≡ false
some_nonzero_if_accepted true refusal e = cc
some_nonzero_if_accepted false refusal e = refl

-- ---- vectors

-- rows that are vectors of the module
pub record AreVectors (m : ModuleValue) (rows : MatrixValue) : Type 0 where
  pub field : rows.order ≡ m.order
  pub columns : rows.cols ≡ m.dim

pub vectors_of : (m : ModuleValue) (rows : MatrixValue) → rows_refusal m rows ≡ None → AreVectors m rows
vectors_of m rows none =
    let tests = passed (order_number rows.order == order_number m.order) (rows.cols == m.dim) none in
    record {
      field = order_number-injective rows.order m.order (eqb-true (order_number rows.order) (order_number m.order) tests.0);
      columns = eqb-true rows.cols m.dim tests.1;
    }
  where
    passed : (a b : Bool) → (if not a then Some FieldsDiffer else (if not b then Some ShapesDiffer else None)) ≡ None → (a ≡ true) × (b ≡ true)
    passed true true e = (refl, refl)
    passed true false e = cc
    passed false b e = cc

-- their rows are over its field and of its length
pub vectors_over : (m : ModuleValue) (rows : MatrixValue) → rows.order ≡ m.order → rows.cols ≡ m.dim → IsMatrix rows →
    IsMatrixOver (number_field m.order) m.dim rows.rows
vectors_over m rows field columns h =
    subst (λ n. IsMatrixOver (number_field m.order) n rows.rows) columns
    (subst (λ o. IsMatrixOver (number_field o) rows.cols rows.rows) field (matrix_over rows h))

-- rows over the module's field and of its length are not refused
pub vectors_accepted : (m : ModuleValue) (rows : MatrixValue) → rows.order ≡ m.order → rows.cols ≡ m.dim → rows_refusal m rows ≡ None
vectors_accepted m rows field columns = rw (eq-eqb _ _ (ap order_number field), eq-eqb _ _ columns) refl

-- ---- seeds

-- a seed that is not refused
pub record IsSeed (m : ModuleValue) (seed : MatrixValue) : Type 0 where
  pub field : seed.order ≡ m.order
  pub columns : seed.cols ≡ m.dim
  pub nonzero : has_only_zeros seed.rows ≡ false

pub seed_if_not_refused : (m : ModuleValue) (seed : MatrixValue) → seed_refusal m seed ≡ None → IsSeed m seed
seed_if_not_refused m seed e =
    let both = none_of_both (rows_refusal m seed) (zeros_refusal (has_only_zeros seed.rows) ZeroSeed) e in
    let vectors = vectors_of m seed both.0 in
    record { field = vectors.field; columns = vectors.columns; nonzero = some_nonzero_if_accepted (has_only_zeros seed.rows) ZeroSeed both.1 }

-- a seed is taken whose fields and shapes agree, and that has a row other than zero
pub seed_taken : (m : ModuleValue) (seed : MatrixValue) (i : ℕ) → rows_refusal m seed ≡ None → IsFirstNonzeroRow seed i → seed_refusal m seed ≡ None
seed_taken m seed i none first =
    rw (none, false_if_absurd (has_only_zeros seed.rows) (λ zeros. first.nonzero (row_of_zeros seed.rows i zeros first.below))) refl

-- and refused where it has none
pub zero_seed_refused : (m : ModuleValue) (seed : MatrixValue) → rows_refusal m seed ≡ None → has_only_zeros seed.rows ≡ true → seed_refusal m seed ≡ Some ZeroSeed
zero_seed_refused m seed none zeros = rw (none, zeros) refl
