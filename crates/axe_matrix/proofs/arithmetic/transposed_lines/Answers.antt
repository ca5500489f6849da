use Rattle.std.proofs.Common.{rules, ◌≢◌, length, arith}
use Rattle.axe_matrix.proofs.TransposeLaws.{transpose_refusal-none}
use Rattle.axe_matrix.proofs.arithmetic.transposed_lines.Goals as goal

pub returns-then-rows-eq0-clause-transpose : goal.returns-then-rows-eq0-clause-transpose
returns-then-rows-eq0-clause-transpose c = search rules

pub put_transpose-requires-clause-prime : goal.put_transpose-requires-clause-prime
put_transpose-requires-clause-prime c = search rules

pub returns-clause-transpose : goal.returns-clause-transpose
returns-clause-transpose c =
    let some : length c.args.lines.now.rows ≢ 0 = omega (arith, c.rows.ensures.count, c.if-rows-eq0.false) in
    rw (transpose_refusal-none c.args.lines.now some) c.transpose_by_strips.ensures.transpose
