-- The parts of plans: a matrix is read, and a matrix is put.
use Rattle.std.proofs.Common.{refl, subst, ℕ, List, Result, Ok, Err, IfOk}
use Rattle.std.specs.Prelude.{⊤}
use Rattle.axe_matrix.specs.Matrices.{MatrixValue, IsMatrix}
use Rattle.axe_folder.specs.Files.{Files}
use Rattle.axe_fault.specs.Causes.{Problem}
use Rattle.axe_plan.specs.Plans.{Plan}
use Rattle.axe_plan.specs.Inputs.{matrix_in}
use Rattle.axe_plan.specs.Outputs.{put_packed}
use Rattle.axe_plan.specs.Meanings.{Meaning, Answered, AtMostOne, Is, ◌>>=◌}
use Rattle.axe_plan.proofs.Readings.{matrix_in_is_matrix}
use Rattle.axe_plan.proofs.OneAnswer.{is_one, then_one}
use Rattle.axe_plan.proofs.SomeAnswer.{then_some}

pub is_matrix_if_read : (files : Files) (name : List ℕ) (before : Result MatrixValue Problem) → Is (matrix_in files name) before → IfOk before IsMatrix
is_matrix_if_read files name before e = subst (λ answer. IfOk answer IsMatrix) e (matrix_in_is_matrix files name)

-- every value is one
pub any_value : {A : Type 0} (before : Result A Problem) → IfOk before (λ value. ⊤)
any_value (Ok value) = tt
any_value (Err problem) = tt

-- what comes after a matrix is read
pub matrix_then_one : (files : Files) (name : List ℕ) (next : MatrixValue → Meaning Plan) → ((a : MatrixValue) → IsMatrix a → AtMostOne (next a)) →
    AtMostOne (Is (matrix_in files name) >>= next)
matrix_then_one files name next one =
    then_one IsMatrix (Is (matrix_in files name)) next (is_matrix_if_read files name) (is_one (matrix_in files name)) one

pub matrix_then_some : (files : Files) (name : List ℕ) (next : MatrixValue → Meaning Plan) → ((a : MatrixValue) → IsMatrix a → Answered (next a)) →
    Answered (Is (matrix_in files name) >>= next)
matrix_then_some files name next some =
    then_some IsMatrix (Is (matrix_in files name)) next (is_matrix_if_read files name) (matrix_in files name, refl) some

-- a matrix is put
pub put_one : (out : List ℕ) (meaning : Meaning MatrixValue) → AtMostOne meaning → AtMostOne (meaning >>= λ a. Is (Ok (put_packed out a)))
put_one out meaning one =
    then_one (λ a. ⊤) meaning (λ a. Is (Ok (put_packed out a))) (λ before right. any_value before) one (λ a known. is_one (Ok (put_packed out a)))

pub put_some : (out : List ℕ) (meaning : Meaning MatrixValue) → Answered meaning → Answered (meaning >>= λ a. Is (Ok (put_packed out a)))
put_some out meaning some =
    then_some (λ a. ⊤) meaning (λ a. Is (Ok (put_packed out a))) (λ before right. any_value before) some (λ a known. (Ok (put_packed out a), refl))
