use Rattle.std.proofs.Common.{◌≡◌, ℕ, slice_index, ap, ap₂, sym, ◌∙◌, arith}
use Rattle.axe_row.specs.Combinations.{row_with_four}
use Rattle.axe_row.specs.Operations.{row_with_multiple}
use Rattle.axe_row.specs.Rows.{RowValue}
use Rattle.axe_matrix.specs.Matrices.{row_of}
use Rattle.axe_matrix.specs.ValueTerms.{row_with_rows_at}
use Rattle.axe_matrix.proofs.WaitingRows.{one_more_waits, no_rows_at, three_rows_at}
use Rattle.axe_matrix.proofs.Matrix.add_in_fours.Goals as goal

pub returns-then-waiting-lt3-clause-sum : goal.returns-then-waiting-lt3-clause-sum
returns-then-waiting-lt3-clause-sum c =
    one_more_waits c.args.self.now c.args.row.now c.args.waiting.now.indices c.args.waiting.now.count c.args.index (omega arith)

pub returns-else-waiting-lt3-clause-sum : goal.returns-else-waiting-lt3-clause-sum
returns-else-waiting-lt3-clause-sum c =
    let b = c.args.self.now in
    let row = c.args.row.now in
    let indices = c.args.waiting.now.indices in
    let at = λ (i : ℕ). row_of b (slice_index indices i) in
    let all : 3 ≡ c.args.waiting.now.count = omega (arith, c.requires.waiting.few, c.if-waiting-lt3.false) in
    sym (no_rows_at b c.add_four_rows.new.self indices)
    ∙ c.add_four_rows.ensures.sum
    ∙ ap₂ (λ (x y : RowValue). row_with_four row x y c.row-else-waiting-lt3-2.result.now c.row-else-waiting-lt3-3.result.now) c.row.ensures.value c.row-else-waiting-lt3.ensures.value
    ∙ ap₂ (row_with_four row (at 0) (at 1)) c.row-else-waiting-lt3-2.ensures.value c.row-else-waiting-lt3-3.ensures.value
    ∙ ap (λ (r : RowValue). row_with_multiple r 1 (row_of b c.args.index)) (three_rows_at b row indices)
    ∙ ap (λ n. row_with_multiple (row_with_rows_at b row indices n) 1 (row_of b c.args.index)) all
