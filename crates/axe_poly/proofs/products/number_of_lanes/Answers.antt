use Rattle.std.proofs.Common.{◌≡◌, ◌≤◌, ◌+◌, ◌-◌, ◌*◌, ◌/◌, ◌%◌, ◌^◌, ℕ, suc, subst, ◌∙◌, ap, arith}
use Rattle.axe_poly.specs.Lanes.{lane_base, meaning}
use Rattle.axe_poly.specs.Sieve.{IsNumberOfLanes}
use Rattle.axe_poly.proofs.CodeLaws.{meaning-below}
use Rattle.axe_poly.proofs.WindowLaws.{base-positive}
use Rattle.axe_poly.proofs.ProductWords.{number_start, number_next, number_small, lane_read, bits_within}
use Rattle.axe_poly.proofs.products.number_of_lanes.Goals as goal
use native.Mathlib.Nat.{mul-le-mul_left, mod-lt}

pub overflow_shr-lane : goal.overflow_shr-lane
overflow_shr-lane c =
    bits_within c.args.field.now c.lane_bits-bits.result (c.args.count - 1 - c.loop-step.step)
    (omega (arith, c.requires.few)) c.lane_bits-bits.ensures.value

pub overflow_mul-number : goal.overflow_mul-number
overflow_mul-number c =
    let few : c.from-order.result ≤ 9 = omega (arith, c.from-order.ensures, c.order.ensures.at_most_nine) in
    omega (
      arith,
      c.loop-step.invariant.small,
      mul-le-mul_left c.loop-step.number few,
      number_small c.args.field.now c.loop-step.step (omega (arith, c.requires.few, c.loop-step-test.true)),
    )

pub overflow_add-number : goal.overflow_add-number
overflow_add-number c =
    let o = c.args.field.now in
    let few : c.from-order.result ≤ 9 = omega (arith, c.from-order.ensures, c.order.ensures.at_most_nine) in
    let read = lane_read o c.args.meanings.now c.args.word c.lane_bits-bits.result
    (c.args.count - 1 - c.loop-step.step) c.lane_base-base.result c.from.result c.requires.meanings
    c.lane_bits-bits.ensures.value c.lane_base-base.ensures.value c.from.ensures in
    omega (
      arith,
      c.loop-step.invariant.small,
      mul-le-mul_left c.loop-step.number few,
      read,
      number_small o c.loop-step.step (omega (arith, c.requires.few, c.loop-step-test.true)),
      meaning-below o (c.args.word / lane_base o ^ (c.args.count - 1 - c.loop-step.step) % lane_base o)
          (mod-lt (c.args.word / lane_base o ^ (c.args.count - 1 - c.loop-step.step)) (base-positive o)),
      c.order.ensures.value,
      c.order.ensures.at_most_nine,
    )

pub loop-step-init : goal.loop-step-init
loop-step-init c = number_start c.args.field.now (c.args.count - 0) c.args.word

pub loop-step-preserved : goal.loop-step-preserved
loop-step-preserved c =
    let o = c.args.field.now in
    let from : ℕ = c.args.count - (c.loop-step.step + 1) in
    let same : c.args.count - 1 - c.loop-step.step ≡ from = omega arith in
    let before : c.args.count - c.loop-step.step ≡ suc from = omega (arith, c.loop-step-test.true) in
    let after : suc c.loop-step.step ≡ c.loop-step.step + 1 = omega arith in
    let read = lane_read o c.args.meanings.now c.args.word c.lane_bits-bits.result
    (c.args.count - 1 - c.loop-step.step) c.lane_base-base.result c.from.result c.requires.meanings
    c.lane_bits-bits.ensures.value c.lane_base-base.ensures.value c.from.ensures in
    subst (λ k. IsNumberOfLanes o from k c.args.word
    (c.loop-step.number * c.from-order.result + c.from.result)) after
    (number_next o from c.loop-step.step c.args.word c.loop-step.number c.from.result _
    (read ∙ ap (λ k. meaning o (c.args.word / lane_base o ^ k % lane_base o)) same)
    (ap (λ q. c.loop-step.number * q + c.from.result) (c.from-order.ensures ∙ c.order.ensures.value))
    (subst (λ k. IsNumberOfLanes o k c.loop-step.step c.args.word c.loop-step.number) before c.loop-step.invariant))
