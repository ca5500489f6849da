use Rattle.std.proofs.Common.{◌≡◌, ◌+◌, ◌-◌, ◌/◌, ◌%◌, ◌^◌, length, get_or, sym, ap, ap₂, ◌∙◌, arith}
use Rattle.axe_algebra.specs.Digits.{digits}
use Rattle.axe_algebra.proofs.Digits.{digit_at}
use Rattle.axe_field.specs.Order.{order_number}
use Rattle.axe_field.specs.NumberFields.{number_field}
use Rattle.axe_field.proofs.Orders.{order_number-at_least}
use Rattle.axe_row.specs.Rows.{RowValue}
use Rattle.axe_row.proofs.RowLaws.{same_row}
use Rattle.axe_matrix.proofs.VectorLaws.{partial_combination-none, partial_combination-more, partial_combination-all, length-partial_combination}
use Rattle.axe_word.proofs.PointSums.{place_step, place-positive}
use Rattle.axe_word.proofs.points.combination_with_number.Goals as goal

pub loop-index-init : goal.loop-index-init
loop-index-init c = record {
  field = ap (λ (r : RowValue). r.order) c.in_ok-point.ensures.zeros ∙ c.field-2.ensures.order;
  so_far =
      ap (λ (r : RowValue). r.entries) c.in_ok-point.ensures.zeros
      ∙ rw c.cols.ensures.count (partial_combination-none (number_field c.args.basis.now.order) c.args.basis.now.cols _ c.args.basis.now.rows);
  place = c.requires ∙ ap (λ k. order_number c.args.basis.now.order ^ k) (omega arith);
  well_formed = c.in_ok-point.ensures.well_formed;
}

pub nonzero_div-digit : goal.nonzero_div-digit
nonzero_div-digit c =
    place-positive (order_number c.args.basis.now.order) (length c.args.basis.now.rows) c.loop-index.index c.loop-index.place c.from-order.result
    (order_number-at_least c.args.basis.now.order) (omega (arith, c.rows-index-end.ensures.count)) c.loop-index.invariant.place
    (c.from-order.ensures ∙ c.order.ensures.value ∙ ap order_number c.field.ensures.order)

pub add_scaled-requires-clause-fits : goal.add_scaled-requires-clause-fits
add_scaled-requires-clause-fits c = rw (c.loop-index.invariant.so_far, length-partial_combination) c.row.ensures.as_long

pub loop-index-preserved : goal.loop-index-preserved
loop-index-preserved c =
    let sum = c.add_scaled.ensures.sum in
    let order : c.from-order.result ≡ order_number c.args.basis.now.order = c.from-order.ensures ∙ c.order.ensures.value ∙ ap order_number c.field.ensures.order in
    let next : c.loop-index.place / c.from-order.result ≡ order_number c.args.basis.now.order ^ (length c.args.basis.now.rows - (c.loop-index.index + 1)) =
    place_step (order_number c.args.basis.now.order) (length c.args.basis.now.rows) c.loop-index.index c.loop-index.place c.from-order.result
    (order_number-at_least c.args.basis.now.order) (omega (arith, c.rows-index-end.ensures.count)) c.loop-index.invariant.place order in
    let digit : c.args.number / (c.loop-index.place / c.from-order.result) % c.from-order.result
    ≡ get_or (digits (order_number c.args.basis.now.order) (length c.args.basis.now.rows) c.args.number) c.loop-index.index 0 =
    ap₂ (λ a b. c.args.number / a % b) next order
    ∙ sym (digit_at (order_number c.args.basis.now.order) (length c.args.basis.now.rows) c.args.number c.loop-index.index
    (length c.args.basis.now.rows - (c.loop-index.index + 1)) (omega (arith, c.rows-index-end.ensures.count))) in
    let more = partial_combination-more (number_field c.args.basis.now.order) c.args.basis.now.cols
    (digits (order_number c.args.basis.now.order) (length c.args.basis.now.rows) c.args.number) c.args.basis.now.rows c.loop-index.index in
    record {
      field = ap (λ (r : RowValue). r.order) sum ∙ c.loop-index.invariant.field;
      so_far =
          ap (λ (r : RowValue). r.entries) sum
          ∙ rw (c.loop-index.invariant.field, c.loop-index.invariant.so_far, digit, ap (λ (r : RowValue). r.entries) c.row.ensures.value) more;
      place = next;
      well_formed = c.add_scaled.ensures.well_formed;
    }

pub returns-clause-combination : goal.returns-clause-combination
returns-clause-combination c =
    same_row _ _ c.loop-index.invariant.field
    (c.loop-index.invariant.so_far
    ∙ partial_combination-all _ _ _ _ _ (omega (arith, c.rows-index-end.ensures.count, c.loop-index-test.false, c.loop-index.auto.index-end)))
