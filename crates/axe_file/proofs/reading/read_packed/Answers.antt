use Rattle.std.proofs.Common.{◌≡◌, ◌<◌, All, sym, ap, ◌∙◌, arith}
use Rattle.std.proofs.lemmas.Result.{err_from_is_err_and, IfOk-weaker}
use Rattle.std.proofs.lemmas.List.Elements.{All-from_get_or}
use Rattle.axe_matrix.specs.Matrices.{IsMatrix}
use Rattle.axe_file.specs.Packed.{header_length, packed, packed_fault, unpacked, matrix_at}
use Rattle.axe_file.proofs.Unpacking.{matrix_said}
use Rattle.axe_file.proofs.Soundness.{sound_header, sound_data}
use Rattle.axe_file.proofs.Respelling.{respelled, unpacked_is_matrix}
use Rattle.axe_file.proofs.Checks.{fault_in_header, fault_in_data, no_fault_at_all, answers_fault, answers_value, answers_spelling}
use Rattle.axe_file.proofs.reading.read_packed.Goals as goal

pub returns-in_err-shape-clause-fault : goal.returns-in_err-shape-clause-fault
returns-in_err-shape-clause-fault c =
    let p = err_from_is_err_and c.from_residual.result c.from_residual.ensures.1 in
    answers_fault (packed_fault c.args.bytes.now) (λ m. m ≡ unpacked c.args.bytes.now) c.from_residual.result p.0
    (rw p.2 (fault_in_header c.args.bytes.now _ c.in_err-shape.ensures.fault)) p.1

pub returns-in_err-check_data-clause-fault : goal.returns-in_err-check_data-clause-fault
returns-in_err-check_data-clause-fault c =
    let p = err_from_is_err_and c.from_residual-in_err-check_data.result c.from_residual-in_err-check_data.ensures.1 in
    answers_fault (packed_fault c.args.bytes.now) (λ m. m ≡ unpacked c.args.bytes.now) c.from_residual-in_err-check_data.result p.0
    (rw p.2 (fault_in_data c.args.bytes.now c.in_ok-shape.shape.layout.field c.in_ok-shape.shape.rows c.in_ok-shape.shape.layout.columns _ c.in_ok-shape.ensures.says
    c.in_ok-shape.ensures.faultless c.in_err-check_data.ensures.fault)) p.1

pub check_data-requires-clause-some_column : goal.check_data-requires-clause-some_column
check_data-requires-clause-some_column c =
    let sound = sound_header c.args.bytes.now c.in_ok-shape.ensures.faultless in
    rw (← c.in_ok-shape.ensures.says.columns) sound.some_column

pub check_data-requires-clause-begun : goal.check_data-requires-clause-begun
check_data-requires-clause-begun c = (sound_header c.args.bytes.now c.in_ok-shape.ensures.faultless).begun.long

pub matrix_of-requires-clause-some_column : goal.matrix_of-requires-clause-some_column
matrix_of-requires-clause-some_column c =
    let sound = sound_header c.args.bytes.now c.in_ok-shape.ensures.faultless in
    rw (← c.in_ok-shape.ensures.says.columns) sound.some_column

pub matrix_of-requires-clause-rows_fit : goal.matrix_of-requires-clause-rows_fit
matrix_of-requires-clause-rows_fit c =
    let sound = sound_header c.args.bytes.now c.in_ok-shape.ensures.faultless in
    rw (← c.in_ok-shape.ensures.says.rows) sound.rows_fit

pub matrix_of-requires-clause-inside : goal.matrix_of-requires-clause-inside
matrix_of-requires-clause-inside c =
    let shape = c.in_ok-shape.shape in
    let sound = sound_data shape.layout.field shape.rows shape.layout.columns c.args.bytes.now header_length c.in_ok-check_data.ensures.faultless in
    omega (arith, sound.whole)

pub returns-clause-value : goal.returns-clause-value
returns-clause-value c =
    let shape = c.in_ok-shape.shape in
    let said = matrix_said c.args.bytes.now shape.layout.field shape.rows shape.layout.columns c.in_ok-shape.ensures.says in
    IfOk-weaker c.matrix_of.result (λ m. m ≡ matrix_at shape.layout.field shape.rows shape.layout.columns c.args.bytes.now header_length) (λ m. m ≡ unpacked c.args.bytes.now)
    (λ m e. e ∙ sym said) c.matrix_of.ensures.value

pub returns-clause-fault : goal.returns-clause-fault
returns-clause-fault c =
    let shape = c.in_ok-shape.shape in
    answers_value (packed_fault c.args.bytes.now) (λ m. m ≡ unpacked c.args.bytes.now) c.matrix_of.result
    (no_fault_at_all c.args.bytes.now shape.layout.field shape.rows shape.layout.columns c.in_ok-shape.ensures.says c.in_ok-shape.ensures.faultless c.in_ok-check_data.ensures.faultless)
    (returns-clause-value c) c.matrix_of.ensures.memory

pub returns-clause-spelling : goal.returns-clause-spelling
returns-clause-spelling c =
    let shape = c.in_ok-shape.shape in
    let fits : All (λ byte. byte < 256) c.args.bytes.now = All-from_get_or (λ byte. byte < 256) c.args.bytes.now 0 (λ i lt. omega (arith, c.type_inv.bytes i)) in
    let faultless = no_fault_at_all c.args.bytes.now shape.layout.field shape.rows shape.layout.columns c.in_ok-shape.ensures.says c.in_ok-shape.ensures.faultless c.in_ok-check_data.ensures.faultless in
    let again = respelled c.args.bytes.now fits faultless in
    IfOk-weaker c.matrix_of.result (λ m. m ≡ unpacked c.args.bytes.now) (λ m. c.args.bytes.now ≡ packed m)
    (λ m e. again ∙ ap packed (sym e)) (returns-clause-value c)

pub returns-clause-matrix : goal.returns-clause-matrix
returns-clause-matrix c =
    let header = sound_header c.args.bytes.now c.in_ok-shape.ensures.faultless in
    let matrix = unpacked_is_matrix c.args.bytes.now header in
    IfOk-weaker c.matrix_of.result (λ m. m ≡ unpacked c.args.bytes.now) (λ m. IsMatrix m) (λ m e. rw e matrix) (returns-clause-value c)

pub returns-in_err-shape-clause-only : goal.returns-in_err-shape-clause-only
returns-in_err-shape-clause-only c a matrix e =
    answers_spelling c.args.bytes.now a c.from_residual.result matrix e (returns-in_err-shape-clause-fault c)

pub returns-in_err-check_data-clause-only : goal.returns-in_err-check_data-clause-only
returns-in_err-check_data-clause-only c a matrix e =
    answers_spelling c.args.bytes.now a c.from_residual-in_err-check_data.result matrix e (returns-in_err-check_data-clause-fault c)

pub returns-clause-only : goal.returns-clause-only
returns-clause-only c a matrix e =
    answers_spelling c.args.bytes.now a c.matrix_of.result matrix e (returns-clause-fault c)
