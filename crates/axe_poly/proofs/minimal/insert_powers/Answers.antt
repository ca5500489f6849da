use Rattle.std.proofs.Common.{length, ap, sym, ◌∙◌, arith}
use Rattle.axe_algebra.specs.Lists.{IsVectorOver}
use Rattle.axe_field.specs.NumberFields.{number_field}
use Rattle.axe_matrix.specs.Matrices.{MatrixValue}
use Rattle.axe_echelon.proofs.StepLaws.{over_of_row}
use Rattle.axe_poly.proofs.PowerLaws.{one_power_more, power_found, power_at_end, rows_more, rows_kept}
use Rattle.axe_poly.proofs.minimal.insert_powers.Goals as goal

pub returns-then-not-branch-clause-next : goal.returns-then-not-branch-clause-next
returns-then-not-branch-clause-next c =
    let m = c.args.matrix.now in
    let v = c.args.vector.now in
    let over : IsVectorOver (number_field m.order) m.cols v.entries =
    over_of_row m.order m.cols v c.requires.field c.len.ensures.well_formed c.requires.fits in
    power_found m v.entries over c.requires.nonzero c.loop-count.count c.loop-count.powers c.insert.new.self
    c.loop-count.power c.in_ok-copy.copy c.in_ok-insert.field-0 c.loop-count.invariant.powers
    c.in_ok-copy.ensures.copied c.in_ok-insert.ensures.exactly.1 c.if-not-branch.true c.in_ok-insert.ensures.inserted

pub returns-then-not-branch-clause-same_rows : goal.returns-then-not-branch-clause-same_rows
returns-then-not-branch-clause-same_rows c =
    rows_kept c.loop-count.powers c.insert.new.self c.loop-count.rows c.in_ok-copy.copy c.in_ok-insert.field-0
    c.loop-count.invariant.rows c.if-not-branch.true c.in_ok-insert.ensures.inserted

pub append-requires-clause-field : goal.append-requires-clause-field
append-requires-clause-field c =
    c.loop-count.invariant.powers.next_field
    ∙ sym (ap (λ (r : MatrixValue). r.order) c.loop-count.invariant.rows ∙ c.loop-count.invariant.powers.field)

pub append-requires-clause-fits : goal.append-requires-clause-fits
append-requires-clause-fits c =
    c.loop-count.invariant.powers.long
    ∙ sym (ap (λ (r : MatrixValue). r.cols) c.loop-count.invariant.rows ∙ c.loop-count.invariant.powers.columns)

-- the matrix has as many columns as the limits allow, and there are fewer rows than columns
pub append-requires-clause-room : goal.append-requires-clause-room
append-requires-clause-room c = omega (
  arith,
  ap (λ (r : MatrixValue). length r.rows) c.loop-count.invariant.rows,
  c.loop-count.invariant.powers.count,
  c.loop-count-test.true,
  c.cols-count-end.ensures.count,
  c.cols-count-end.ensures.well_formed.columns_fit,
)

pub loop-count-preserved : goal.loop-count-preserved
loop-count-preserved c = record {
  powers = one_power_more c.args.matrix.now c.args.vector.now.entries c.loop-count.count c.loop-count.powers
      c.insert.new.self c.loop-count.power c.in_ok-copy.copy c.in_ok-next.next c.in_ok-insert.field-0
      c.loop-count.invariant.powers c.in_ok-copy.ensures.copied c.if-not-branch.false c.in_ok-insert.ensures.inserted
      c.insert.ensures.well_formed c.in_ok-next.ensures.product;
  rows = rows_more c.loop-count.powers c.insert.new.self c.loop-count.rows c.append.new.self c.loop-count.power
      c.in_ok-copy.copy c.in_ok-insert.field-0 c.loop-count.invariant.rows c.in_ok-copy.ensures.copied
      c.if-not-branch.false c.in_ok-insert.ensures.inserted c.in_ok-append.ensures.appended;
}

pub returns-clause-next : goal.returns-clause-next
returns-clause-next c =
    let m = c.args.matrix.now in
    let v = c.args.vector.now in
    let over : IsVectorOver (number_field m.order) m.cols v.entries =
    over_of_row m.order m.cols v c.requires.field c.len.ensures.well_formed c.requires.fits in
    power_at_end m v.entries over c.requires.nonzero c.loop-count.count c.loop-count.powers c.loop-count.power
    c.loop-count.invariant.powers (omega (arith, c.loop-count-test.false, c.cols-count-end.ensures.count))

pub returns-clause-same_rows : goal.returns-clause-same_rows
returns-clause-same_rows c = c.loop-count.invariant.rows
