-- Each command has one meaning.
use Rattle.std.proofs.Common.{◌≡◌, refl, sym, ◌∙◌, Option, ℕ, zero, suc, ◌≤◌, List, length, Bool, true, false, ◌==◌, if◌then◌else◌, Some, None, Ok, Err, ◌⊎◌, inl, inr, arith}
use Rattle.std.proofs.lemmas.Bool.{eqb-true, true≢false}
use Rattle.std.proofs.lemmas.Option.{none-some}
use Rattle.axe_row.specs.declared.refusals.Refusal.TheVariants.{NotSquare, Singular, NoRows}
use Rattle.axe_matrix.specs.Matrices.{MatrixValue, IsMatrix}
use Rattle.axe_reduction.specs.Solutions.{IsInverseMatrix, IsInvertibleMatrix}
use Rattle.axe_echelon.specs.Echelons.{null_space_refusal, IsNullSpaceMatrix, inverse_refusal}
use Rattle.axe_folder.specs.Files.{Files}
use Rattle.axe_arguments.specs.Commands.{HasCounts}
use Rattle.axe_arguments.specs.declared.command.Command.{Command}
use Rattle.axe_arguments.specs.declared.command.Command.TheVariants.{Zcv, ZcvModule, Zpr, Zmu, Zad, Ztr, Ziv, Znu, Zsp, Zqt, Chop, Verify}
use Rattle.axe_execute.proofs.PlanParts.{matrix_then_one, matrix_then_some, put_one, put_some}
use Rattle.axe_execute.proofs.OneModulePlan.{module_conversion_plan_one, spin_plan_one, quotient_plan_one}
use Rattle.axe_execute.proofs.SomeModulePlan.{module_conversion_plan_some, spin_plan_some, quotient_plan_some}
use Rattle.axe_execute.proofs.ChopLaws.{chop_plan_one, chop_plan_some}
use Rattle.axe_execute.proofs.VerifyMeanings.{verify_plan_one}
use Rattle.axe_execute.proofs.VerifyAnswers.{verify_plan_some}
use Rattle.axe_plan.proofs.OneAnswer.{is_one, has_one, has_or_one, unless_refused_one}
use Rattle.axe_echelon.proofs.OneMatrix.{null_space_is_one, inverse_is_one}
use Rattle.axe_plan.proofs.SomeAnswer.{unless_refused_some}
use Rattle.axe_echelon.proofs.SomeMatrix.{some_null_space, inverse_or_none}
use Rattle.axe_row.specs.declared.refusals.Refusal.{Refusal}
use Rattle.axe_row.specs.Refusals.{RefusedAs}
use Rattle.axe_fault.specs.Causes.{Refuses}
use Rattle.axe_plan.specs.Meanings.{Meaning, Answered, AtMostOne, Is, Has, HasOr, UnlessRefused}
use Rattle.axe_plan.specs.Inputs.{text_matrix_in}
use Rattle.axe_plan.specs.Outputs.{put_or_show_text}
use Rattle.axe_execute.specs.MatrixCommands.{ProductOf, SumOf, TransposeOf, InverseOf, NullSpaceOf, ConversionPlan, PrintingPlan, PlanOfOne, PlanOfTwo}
use Rattle.axe_execute.specs.Means.{Means}

square_of_test : (test : Bool) (m n : ℕ) → (m == n) ≡ test → (if test then None else Some NotSquare) ≡ None → m ≡ n
square_of_test true m n is e = eqb-true m n is
square_of_test false m n is e = absurd (none-some NotSquare (sym e))

square_if_not_refused : (a : MatrixValue) → inverse_refusal a ≡ None → length a.rows ≡ a.cols
square_if_not_refused a e = square_of_test (length a.rows == a.cols) (length a.rows) a.cols refl e

rows_of_test : (test : Bool) (n : ℕ) → (n == 0) ≡ test → (if test then Some NoRows else None) ≡ None → 1 ≤ n
rows_of_test true n is e = absurd (none-some NoRows (sym e))
rows_of_test false zero is e = absurd (true≢false is)
rows_of_test false (suc n) is e = omega arith

rows_if_not_refused : (a : MatrixValue) → null_space_refusal a ≡ None → 1 ≤ length a.rows
rows_if_not_refused a e = rows_of_test (length a.rows == 0) (length a.rows) refl e

-- ---- inverses and null spaces

inverse_one : (a : MatrixValue) → IsMatrix a → AtMostOne (InverseOf a)
unfolding InverseOf
inverse_one a well =
    unless_refused_one (inverse_refusal a) (HasOr (IsInverseMatrix a) (RefusedAs Singular (¬ (IsInvertibleMatrix a))))
    (λ e. has_or_one (IsInverseMatrix a) (RefusedAs Singular (¬ (IsInvertibleMatrix a))) (λ b c. inverse_is_one a b c well (square_if_not_refused a e))
    (λ first second stands holds. stands.0 ∙ sym holds.0) (λ b refusal inverts none. none.1 (b, inverts)))

inverse_some : (a : MatrixValue) → IsMatrix a → Answered (InverseOf a)
unfolding InverseOf
inverse_some a well =
    unless_refused_some (inverse_refusal a) (HasOr (IsInverseMatrix a) (RefusedAs Singular (¬ (IsInvertibleMatrix a))))
    (λ e. from (inverse_or_none a well (square_if_not_refused a e)))
  where
    from : IsInvertibleMatrix a ⊎ (¬ (IsInvertibleMatrix a)) → Answered (HasOr (IsInverseMatrix a) (RefusedAs Singular (¬ (IsInvertibleMatrix a))))
    from (inl (inverse, inverts)) = (Ok inverse, inverts)
    from (inr none) = (Err (Refuses Singular), (Singular, (refl, none), refl))

null_space_one : (a : MatrixValue) → AtMostOne (NullSpaceOf a)
unfolding NullSpaceOf
null_space_one a =
    unless_refused_one (null_space_refusal a) (Has (λ basis. IsNullSpaceMatrix a basis × IsMatrix basis))
    (λ e. has_one (λ basis. IsNullSpaceMatrix a basis × IsMatrix basis) (null_space_is_one a))

null_space_some : (a : MatrixValue) → IsMatrix a → Answered (NullSpaceOf a)
unfolding NullSpaceOf
null_space_some a well =
    unless_refused_some (null_space_refusal a) (Has (λ basis. IsNullSpaceMatrix a basis × IsMatrix basis))
    (λ e. let found = some_null_space a well (rows_if_not_refused a e) in (Ok found.0, found.1))

-- ---- results that are functions of their operands

equal_one : {A : Type 0} (refusal : Option Refusal) (value : A) → AtMostOne (UnlessRefused refusal (Has (λ answer. answer ≡ value)))
equal_one refusal value =
    unless_refused_one refusal (Has (λ answer. answer ≡ value)) (λ e. has_one (λ answer. answer ≡ value) (λ a b is_a is_b. is_a ∙ sym is_b))

equal_some : {A : Type 0} (refusal : Option Refusal) (value : A) → Answered (UnlessRefused refusal (Has (λ answer. answer ≡ value)))
equal_some refusal value = unless_refused_some refusal (Has (λ answer. answer ≡ value)) (λ e. (Ok value, refl))

-- ---- commands

-- the result of an operation is put
one_then_one : (operation : MatrixValue → Meaning MatrixValue) (input out : List ℕ) (files : Files) → ((a : MatrixValue) → IsMatrix a → AtMostOne (operation a)) →
    AtMostOne (PlanOfOne operation input out files)
unfolding PlanOfOne
one_then_one operation input out files one = matrix_then_one files input _ (λ a well. put_one out (operation a) (one a well))

one_then_some : (operation : MatrixValue → Meaning MatrixValue) (input out : List ℕ) (files : Files) → ((a : MatrixValue) → IsMatrix a → Answered (operation a)) →
    Answered (PlanOfOne operation input out files)
unfolding PlanOfOne
one_then_some operation input out files some = matrix_then_some files input _ (λ a well. put_some out (operation a) (some a well))

conversion_plan_one : (input out : List ℕ) (files : Files) → AtMostOne (ConversionPlan input out files)
unfolding ConversionPlan
conversion_plan_one input out files = put_one out (Is (text_matrix_in files input)) (is_one (text_matrix_in files input))

conversion_plan_some : (input out : List ℕ) (files : Files) → Answered (ConversionPlan input out files)
unfolding ConversionPlan
conversion_plan_some input out files = put_some out (Is (text_matrix_in files input)) (text_matrix_in files input, refl)

printing_plan_one : (input : List ℕ) (out : Option (List ℕ)) (files : Files) → AtMostOne (PrintingPlan input out files)
unfolding PrintingPlan
printing_plan_one input out files = matrix_then_one files input (λ a. Is (Ok (put_or_show_text out a))) (λ a well. is_one (Ok (put_or_show_text out a)))

printing_plan_some : (input : List ℕ) (out : Option (List ℕ)) (files : Files) → Answered (PrintingPlan input out files)
unfolding PrintingPlan
printing_plan_some input out files = matrix_then_some files input (λ a. Is (Ok (put_or_show_text out a))) (λ a well. (Ok (put_or_show_text out a), refl))

two_then_one : (operation : MatrixValue → MatrixValue → Meaning MatrixValue) (left right out : List ℕ) (files : Files) →
    ((a b : MatrixValue) → AtMostOne (operation a b)) → AtMostOne (PlanOfTwo operation left right out files)
unfolding PlanOfTwo
two_then_one operation left right out files one =
    matrix_then_one files left _ (λ a well. matrix_then_one files right _ (λ b well. put_one out (operation a b) (one a b)))

two_then_some : (operation : MatrixValue → MatrixValue → Meaning MatrixValue) (left right out : List ℕ) (files : Files) →
    ((a b : MatrixValue) → Answered (operation a b)) → Answered (PlanOfTwo operation left right out files)
unfolding PlanOfTwo
two_then_some operation left right out files some =
    matrix_then_some files left _ (λ a well. matrix_then_some files right _ (λ b well. put_some out (operation a b) (some a b)))

product_one : (a b : MatrixValue) → AtMostOne (ProductOf a b)
unfolding ProductOf
product_one a b = equal_one _ _

product_some : (a b : MatrixValue) → Answered (ProductOf a b)
unfolding ProductOf
product_some a b = equal_some _ _

sum_one : (a b : MatrixValue) → AtMostOne (SumOf a b)
unfolding SumOf
sum_one a b = equal_one _ _

sum_some : (a b : MatrixValue) → Answered (SumOf a b)
unfolding SumOf
sum_some a b = equal_some _ _

transpose_one : (a : MatrixValue) → IsMatrix a → AtMostOne (TransposeOf a)
unfolding TransposeOf
transpose_one a well = equal_one _ _

transpose_some : (a : MatrixValue) → IsMatrix a → Answered (TransposeOf a)
unfolding TransposeOf
transpose_some a well = equal_some _ _

pub at_most_one_meaning : (command : Command) (files : Files) → HasCounts command → AtMostOne (Means command files)
at_most_one_meaning (Zcv input out) files counts = conversion_plan_one input out files
at_most_one_meaning (ZcvModule generators name out) files counts = module_conversion_plan_one generators name out files
at_most_one_meaning (Zpr input out) files counts = printing_plan_one input out files
at_most_one_meaning (Zmu left right out) files counts = two_then_one ProductOf left right out files product_one
at_most_one_meaning (Zad left right out) files counts = two_then_one SumOf left right out files sum_one
at_most_one_meaning (Ztr input out) files counts = one_then_one TransposeOf input out files transpose_one
at_most_one_meaning (Ziv input out) files counts = one_then_one InverseOf input out files inverse_one
at_most_one_meaning (Znu input out) files counts = one_then_one NullSpaceOf input out files (λ a well. null_space_one a)
at_most_one_meaning (Zsp generators standard action name seed out) files counts = spin_plan_one generators standard action name seed out files
at_most_one_meaning (Zqt generators subspace name out) files counts = quotient_plan_one generators subspace name out files
at_most_one_meaning (Chop stored seed words name) files counts = chop_plan_one stored seed words name files counts.0
at_most_one_meaning (Verify layout name) files counts = verify_plan_one layout name files

pub some_meaning : (command : Command) (files : Files) → HasCounts command → Answered (Means command files)
some_meaning (Zcv input out) files counts = conversion_plan_some input out files
some_meaning (ZcvModule generators name out) files counts = module_conversion_plan_some generators name out files
some_meaning (Zpr input out) files counts = printing_plan_some input out files
some_meaning (Zmu left right out) files counts = two_then_some ProductOf left right out files product_some
some_meaning (Zad left right out) files counts = two_then_some SumOf left right out files sum_some
some_meaning (Ztr input out) files counts = one_then_some TransposeOf input out files transpose_some
some_meaning (Ziv input out) files counts = one_then_some InverseOf input out files inverse_some
some_meaning (Znu input out) files counts = one_then_some NullSpaceOf input out files null_space_some
some_meaning (Zsp generators standard action name seed out) files counts = spin_plan_some generators standard action name seed out files
some_meaning (Zqt generators subspace name out) files counts = quotient_plan_some generators subspace name out files
some_meaning (Chop stored seed words name) files counts = chop_plan_some stored seed words name files counts.0
some_meaning (Verify layout name) files counts = verify_plan_some layout name files
