use Rattle.std.proofs.Common.{◌≡◌, Option, subst, rules}
use Rattle.axe_row.specs.declared.refusals.Refusal.{Refusal}
use Rattle.axe_row.specs.Refusals.{Answers}
use Rattle.axe_matrix.specs.Matrices.{MatrixValue, reversed_matrix, transpose_refusal, transposed_matrix}
use Rattle.axe_matrix.proofs.TransposeLaws.{transpose_refusal-reverse}
use Rattle.axe_matrix.proofs.Matrix.transpose_from_last.Goals as goal

pub returns-clause-transpose : goal.returns-clause-transpose
returns-clause-transpose c =
    let reversed : MatrixValue = reversed_matrix c.args.self.now in
    let answered : Answers {T = MatrixValue} (transpose_refusal reversed) (λ transpose. transpose ≡ transposed_matrix reversed) c.transposed_lines.result =
    search rules in
    subst (λ (why : Option Refusal). Answers {T = MatrixValue} why (λ transpose. transpose ≡ transposed_matrix reversed) c.transposed_lines.result)
    (transpose_refusal-reverse c.args.self.now) answered
