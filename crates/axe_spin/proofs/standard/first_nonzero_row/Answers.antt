use Rattle.std.proofs.Common.{◌≡◌, get_or, [], true≢false, ap, subst, sym, ◌∙◌, arith}
use Rattle.axe_row.specs.Rows.{RowValue}
use Rattle.axe_row.specs.Operations.{IsZeroVector}
use Rattle.axe_matrix.proofs.OnlyZeros.{only_zeros}
use Rattle.axe_spin.proofs.standard.first_nonzero_row.Goals as goal

pub returns-then-not-is_zero : goal.returns-then-not-is_zero
returns-then-not-is_zero c =
    let row : c.row.result.now.entries ≡ get_or c.args.matrix.now.rows c.loop-index.index [] = ap (λ (r : RowValue). r.entries) c.row.ensures.value in (
      c.loop-index.index,
      record {
        below = omega (arith, c.loop-index-test.true, c.rows-index-end.ensures.count);
        nonzero = λ zeros. true≢false (sym (c.is_zero.ensures.1 (subst IsZeroVector (sym row) zeros)) ∙ c.if-not-is_zero.true);
        zeros_before = c.loop-index.invariant;
      },
      c.row-then-not-is_zero.ensures.value,
    )

pub returns : goal.returns
returns c = only_zeros c.args.matrix.now.rows (λ i below. c.loop-index.invariant i (omega (arith, c.rows-index-end.ensures.count)))
