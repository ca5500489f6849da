use Rattle.std.proofs.Common.{◌≤◌, ◌+◌, ◌-◌, ◌*◌, ◌^◌, length, get_or, set, sym, subst, ◌∙◌, ap, arith}
use Rattle.std.proofs.lemmas.List.{length-set}
use Rattle.axe_poly.specs.Lanes.{lane_base, packed, term}
use Rattle.axe_poly.specs.Limits.{greatest_degree}
use Rattle.axe_poly.proofs.PackLaws.{table_next}
use Rattle.axe_poly.proofs.WindowLaws.{word_fits}
use Rattle.axe_poly.proofs.ProductWords.{scaling_of}
use Rattle.axe_poly.proofs.lanes.Lanes.scalings.Goals as goal

pub pow-top-requires : goal.pow-top-requires
pow-top-requires c = omega (
  arith,
  ap (λ b. b ^ (length c.args.divisor.now - 1)) c.lane_base.ensures.value,
  word_fits c.field.result.now (length c.args.divisor.now - 1)
      (subst (λ o. length c.args.divisor.now - 1 ≤ greatest_degree o + 1) (sym c.field.ensures)
      (let e : length c.args.divisor.now - 1 ≤ greatest_degree c.args.self.now + 1 = omega (arith, c.requires.degree) in e)),
)

pub overflow_mul-scalings : goal.overflow_mul-scalings
overflow_mul-scalings c =
    let is = scaling_of c.args.self.now c.field.result.now c.args.divisor.now c.codes-codes.result.now
    c.loop-element.element c.from-index.result c.multiple.result c.pow-top.result c.lane_base.result
    c.order-element-end.result c.field.ensures c.requires.monic c.requires.degree c.codes-codes.ensures
    c.loop-element-test.true c.order-element-end.ensures.value c.from-index.ensures c.lane_base.ensures.value
    c.multiple.ensures c.pow-top.ensures in
    omega (arith, is.small)

pub overflow_add-scalings : goal.overflow_add-scalings
overflow_add-scalings c =
    let is = scaling_of c.args.self.now c.field.result.now c.args.divisor.now c.codes-codes.result.now
    c.loop-element.element c.from-index.result c.multiple.result c.pow-top.result c.lane_base.result
    c.order-element-end.result c.field.ensures c.requires.monic c.requires.degree c.codes-codes.ensures
    c.loop-element-test.true c.order-element-end.ensures.value c.from-index.ensures c.lane_base.ensures.value
    c.multiple.ensures c.pow-top.ensures in
    omega (arith, is.small)

pub loop-element-preserved : goal.loop-element-preserved
loop-element-preserved c =
    let is = scaling_of c.args.self.now c.field.result.now c.args.divisor.now c.codes-codes.result.now
    c.loop-element.element c.from-index.result c.multiple.result c.pow-top.result c.lane_base.result
    c.order-element-end.result c.field.ensures c.requires.monic c.requires.degree c.codes-codes.ensures
    c.loop-element-test.true c.order-element-end.ensures.value c.from-index.ensures c.lane_base.ensures.value
    c.multiple.ensures c.pow-top.ensures in
    record {
      long = length-set _ _ _ ∙ c.loop-element.invariant.long;
      each = table_next
          (λ a. packed (lane_base c.field.result.now) (length c.args.divisor.now)
          (term c.field.result.now c.args.divisor.now a))
          c.loop-element.element _ c.loop-element.scalings _
          (omega (
            arith,
            c.loop-element.invariant.long,
            c.loop-element-test.true,
            c.order-element-end.ensures.at_most_nine,
          ))
          is.is (ap (λ k. set c.loop-element.scalings k (c.multiple.result
          + get_or c.codes-codes.result.now c.from-index.result 0 * c.pow-top.result)) c.from-index.ensures) c.loop-element.invariant.each;
    }
