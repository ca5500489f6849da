use Rattle.std.proofs.Common.{◌≡◌, ◌*◌, ℕ, drop, Some, None, sym, ap, ◌∙◌}
use Rattle.std.proofs.lemmas.Result.{err_from_is_err_and, IfOk-weaker}
use Rattle.axe_file.specs.TextReading.{digits_fault, text_fault, text_matrix}
use Rattle.axe_file.proofs.Checks.{answers_fault, answers_value}
use Rattle.axe_file.proofs.TextNumbers.{number_of_order}
use Rattle.axe_file.proofs.TextTexts.{fault_of_bad_header, fault_of_header, fault_of_digits, matrix_of_header}
use Rattle.axe_file.proofs.TextAnswers.{text_answered, fault_answered, matrix_answered, only_answered, allowed_if_faultless, digits_left, enough_left}
use Rattle.axe_file.proofs.text_reading.read_text.Goals as goal

pub returns-in_err-header-clause-fault : goal.returns-in_err-header-clause-fault
returns-in_err-header-clause-fault c =
    let p = err_from_is_err_and c.from_residual.result c.from_residual.ensures.1 in
    let e = c.in_err-header.ensures.read in
    answers_fault (text_fault c.args.bytes.now) (λ m. m ≡ text_matrix c.args.bytes.now) c.from_residual.result p.0
    (fault_of_bad_header c.args.bytes.now e.0 e.2 ∙ ap Some (sym (p.2 ∙ e.1))) p.1

pub returns-in_err-field-clause-fault : goal.returns-in_err-field-clause-fault
returns-in_err-field-clause-fault c =
    let p = err_from_is_err_and c.from_residual-in_err-field.result c.from_residual-in_err-field.ensures.1 in
    answers_fault (text_fault c.args.bytes.now) (λ m. m ≡ text_matrix c.args.bytes.now) c.from_residual-in_err-field.result p.0
    (fault_of_header c.args.bytes.now c.in_ok-header.header.mode c.in_ok-header.header.order c.in_ok-header.header.rows c.in_ok-header.header.columns c.in_ok-header.header.end _ c.in_ok-header.ensures.read
    c.in_err-field.ensures
    ∙ ap Some (sym p.2))
    p.1

pub returns-in_err-check_digits-clause-fault : goal.returns-in_err-check_digits-clause-fault
returns-in_err-check_digits-clause-fault c =
    let p = err_from_is_err_and c.from_residual-in_err-check_digits.result c.from_residual-in_err-check_digits.ensures.1 in
    let order : c.in_ok-header.header.order ≡ c.order.result = sym (number_of_order _ _ c.in_ok-field.ensures.1) ∙ sym c.order.ensures.value in
    answers_fault (text_fault c.args.bytes.now) (λ m. m ≡ text_matrix c.args.bytes.now) c.from_residual-in_err-check_digits.result p.0
    (fault_of_digits c.args.bytes.now c.in_ok-header.header.mode c.in_ok-header.header.order c.in_ok-header.header.rows c.in_ok-header.header.columns c.in_ok-header.header.end c.in_ok-header.ensures.read c.in_ok-field.ensures.0
    ∙ ap (λ (n : ℕ). digits_fault n (c.in_ok-header.header.rows * c.in_ok-header.header.columns) (drop c.in_ok-header.header.end c.args.bytes.now) c.in_ok-header.header.end) order
    ∙ c.in_err-check_digits.ensures
    ∙ ap Some (sym p.2))
    p.1

pub matrix_of_digits-requires-clause-rows_fit : goal.matrix_of_digits-requires-clause-rows_fit
matrix_of_digits-requires-clause-rows_fit c = (allowed_if_faultless c.in_ok-header.header.mode c.in_ok-header.header.order c.in_ok-header.header.rows c.in_ok-header.header.columns c.in_ok-field.ensures.0).1.rows

pub matrix_of_digits-requires-clause-some_column : goal.matrix_of_digits-requires-clause-some_column
matrix_of_digits-requires-clause-some_column c = (allowed_if_faultless c.in_ok-header.header.mode c.in_ok-header.header.order c.in_ok-header.header.rows c.in_ok-header.header.columns c.in_ok-field.ensures.0).1.some_column

pub matrix_of_digits-requires-clause-columns_fit : goal.matrix_of_digits-requires-clause-columns_fit
matrix_of_digits-requires-clause-columns_fit c = (allowed_if_faultless c.in_ok-header.header.mode c.in_ok-header.header.order c.in_ok-header.header.rows c.in_ok-header.header.columns c.in_ok-field.ensures.0).1.columns

pub matrix_of_digits-requires-clause-elements : goal.matrix_of_digits-requires-clause-elements
matrix_of_digits-requires-clause-elements c =
    rw (← c.order.ensures.value) (digits_left c.order.result (c.in_ok-header.header.rows * c.in_ok-header.header.columns) (drop c.in_ok-header.header.end c.args.bytes.now) c.in_ok-header.header.end c.in_ok-check_digits.ensures)

pub matrix_of_digits-requires-clause-enough : goal.matrix_of_digits-requires-clause-enough
matrix_of_digits-requires-clause-enough c =
    enough_left c.order.result (c.in_ok-header.header.rows * c.in_ok-header.header.columns) (drop c.in_ok-header.header.end c.args.bytes.now) c.in_ok-header.header.end c.in_ok-check_digits.ensures

pub returns-clause-fault : goal.returns-clause-fault
returns-clause-fault c =
    let order : c.in_ok-header.header.order ≡ c.order.result = sym (number_of_order _ _ c.in_ok-field.ensures.1) ∙ sym c.order.ensures.value in
    let none : text_fault c.args.bytes.now ≡ None =
    fault_of_digits c.args.bytes.now c.in_ok-header.header.mode c.in_ok-header.header.order c.in_ok-header.header.rows c.in_ok-header.header.columns c.in_ok-header.header.end c.in_ok-header.ensures.read c.in_ok-field.ensures.0
    ∙ ap (λ (n : ℕ). digits_fault n (c.in_ok-header.header.rows * c.in_ok-header.header.columns) (drop c.in_ok-header.header.end c.args.bytes.now) c.in_ok-header.header.end) order
    ∙ c.in_ok-check_digits.ensures in
    let matrix = matrix_of_header c.args.bytes.now c.in_ok-header.header.mode c.in_ok-header.header.order c.in_ok-header.header.rows c.in_ok-header.header.columns c.in_ok-header.header.end c.in_ok-field.field c.in_ok-header.ensures.read c.in_ok-field.ensures.1 in
    answers_value (text_fault c.args.bytes.now) (λ m. m ≡ text_matrix c.args.bytes.now) c.matrix_of_digits.result none
    (IfOk-weaker c.matrix_of_digits.result _ (λ m. m ≡ text_matrix c.args.bytes.now) (λ m e. e ∙ sym matrix) c.matrix_of_digits.ensures.matrix) c.matrix_of_digits.ensures.memory

pub returns-in_err-header-clause-first_fault : goal.returns-in_err-header-clause-first_fault
returns-in_err-header-clause-first_fault c = fault_answered c.args.bytes.now c.from_residual.result (returns-in_err-header-clause-fault c)

pub returns-in_err-header-clause-only : goal.returns-in_err-header-clause-only
returns-in_err-header-clause-only c a t = only_answered c.args.bytes.now a c.from_residual.result t (returns-in_err-header-clause-fault c)

pub returns-in_err-field-clause-first_fault : goal.returns-in_err-field-clause-first_fault
returns-in_err-field-clause-first_fault c = fault_answered c.args.bytes.now c.from_residual-in_err-field.result (returns-in_err-field-clause-fault c)

pub returns-in_err-field-clause-only : goal.returns-in_err-field-clause-only
returns-in_err-field-clause-only c a t = only_answered c.args.bytes.now a c.from_residual-in_err-field.result t (returns-in_err-field-clause-fault c)

pub returns-in_err-check_digits-clause-first_fault : goal.returns-in_err-check_digits-clause-first_fault
returns-in_err-check_digits-clause-first_fault c = fault_answered c.args.bytes.now c.from_residual-in_err-check_digits.result (returns-in_err-check_digits-clause-fault c)

pub returns-in_err-check_digits-clause-only : goal.returns-in_err-check_digits-clause-only
returns-in_err-check_digits-clause-only c a t = only_answered c.args.bytes.now a c.from_residual-in_err-check_digits.result t (returns-in_err-check_digits-clause-fault c)

pub returns-clause-first_fault : goal.returns-clause-first_fault
returns-clause-first_fault c = fault_answered c.args.bytes.now c.matrix_of_digits.result (returns-clause-fault c)

pub returns-clause-only : goal.returns-clause-only
returns-clause-only c a t = only_answered c.args.bytes.now a c.matrix_of_digits.result t (returns-clause-fault c)

pub returns-clause-text : goal.returns-clause-text
returns-clause-text c = text_answered c.args.bytes.now c.matrix_of_digits.result (returns-clause-fault c)

pub returns-clause-matrix : goal.returns-clause-matrix
returns-clause-matrix c = matrix_answered c.args.bytes.now c.matrix_of_digits.result (returns-clause-fault c)
