use Rattle.std.proofs.Common.{ℕ, ◌≡◌, ◌<◌, ◌+◌, ◌-◌, ◌/◌, ◌*◌, ◌^◌, length, get_or, refl, sym, arith}
use Rattle.std.proofs.lemmas.Nat.{one_shl}
use Rattle.axe_algebra.proofs.Digits.{pow-positive}
use Rattle.axe_poly.specs.Lanes.{lane_base, IsWindow}
use Rattle.axe_poly.proofs.PolyLaws.{elements_are_below}
use Rattle.axe_poly.proofs.WindowLaws.{window_start, bits_small, lane_bits-small, step_within, others_moved}
use Rattle.axe_poly.proofs.WindowLaws.{entry_is_element}
use Rattle.axe_poly.proofs.WindowLaws.{code_in_table, code_in_table-small, lead_element, element_small}
use Rattle.axe_poly.proofs.WindowLaws.{multiple_small, multiple_of_lead, remainder_next}
use Rattle.axe_poly.proofs.windows.remainder.Goals as goal
use mathlib.Core.Path.{subst}

pub loop-step-init : goal.loop-step-init
loop-step-init c =
    subst (λ k. IsWindow c.args.field.now c.args.divisor.now c.args.dividend.now
    (length c.args.divisor.now - 1) k 0)
    (let e : length c.args.dividend.now ≡ length c.args.dividend.now - 0 = omega arith in e)
    (window_start c.args.field.now c.args.divisor.now c.args.dividend.now (length c.args.divisor.now - 1))

pub overflow_mul-others : goal.overflow_mul-others
overflow_mul-others c =
    omega (
      arith,
      bits_small c.args.field.now c.args.divisor.now c.lane_bits-bits.result c.requires.degree
          c.lane_bits-bits.ensures.value,
    )

pub overflow_shl-top : goal.overflow_shl-top
overflow_shl-top c =
    bits_small c.args.field.now c.args.divisor.now c.lane_bits-bits.result c.requires.degree
    c.lane_bits-bits.ensures.value

pub overflow_shr-lead : goal.overflow_shr-lead
overflow_shr-lead c =
    bits_small c.args.field.now c.args.divisor.now c.lane_bits-bits.result c.requires.degree
    c.lane_bits-bits.ensures.value

pub overflow_sub-moved : goal.overflow_sub-moved
overflow_sub-moved c =
    let places : ℕ = c.lane_bits-bits.result * (length c.args.divisor.now - 2) in
    omega (
      arith,
      one_shl places 64
          (bits_small c.args.field.now c.args.divisor.now c.lane_bits-bits.result c.requires.degree
          c.lane_bits-bits.ensures.value),
      pow-positive 2 places (let e : 0 < 2 = omega arith in e),
    )

pub overflow_shl-moved : goal.overflow_shl-moved
overflow_shl-moved c = lane_bits-small c.args.field.now c.lane_bits-bits.result c.lane_bits-bits.ensures.value

pub bounds-meanings-lead : goal.bounds-meanings-lead
bounds-meanings-lead c =
    let within = step_within c.args.field.now c.args.divisor.now c.args.dividend.now
    (length c.args.dividend.now - c.loop-step.step) c.loop-step.word c.lane_bits-bits.result
    (lane_base c.args.field.now ^ (length c.args.divisor.now - 2)) (lane_base c.args.field.now)
    c.requires.monic c.requires.degree
    c.lane_bits-bits.ensures.value refl refl c.loop-step.invariant in
    within.lead_small

pub overflow_add-moved : goal.overflow_add-moved
overflow_add-moved c =
    let within = step_within c.args.field.now c.args.divisor.now c.args.dividend.now
    (length c.args.dividend.now - c.loop-step.step) c.loop-step.word c.lane_bits-bits.result
    (lane_base c.args.field.now ^ (length c.args.divisor.now - 2)) (lane_base c.args.field.now)
    c.requires.monic c.requires.degree
    c.lane_bits-bits.ensures.value refl refl c.loop-step.invariant in
    let element = entry_is_element c.args.field.now c.args.dividend.now
    (length c.args.dividend.now - 1 - c.loop-step.step)
    (elements_are_below c.args.field.now c.args.dividend.now c.requires.elements)
    (omega (arith, c.loop-step-test.true)) in
    let code = code_in_table-small c.args.field.now c.args.codes.now c.from.result
    (get_or c.args.dividend.now (length c.args.dividend.now - 1 - c.loop-step.step) 0) c.requires.codes
    c.from.ensures element in
    omega (
      arith,
      others_moved c.args.field.now c.args.divisor.now c.loop-step.word c.lane_bits-bits.result
          c.requires.degree c.lane_bits-bits.ensures.value within,
      within.others,
      code,
    )

pub bounds-multiples-from : goal.bounds-multiples-from
bounds-multiples-from c =
    let within = step_within c.args.field.now c.args.divisor.now c.args.dividend.now
    (length c.args.dividend.now - c.loop-step.step) c.loop-step.word c.lane_bits-bits.result
    (lane_base c.args.field.now ^ (length c.args.divisor.now - 2)) (lane_base c.args.field.now)
    c.requires.monic c.requires.degree
    c.lane_bits-bits.ensures.value refl refl c.loop-step.invariant in
    let lead = lead_element c.args.field.now c.args.meanings.now
    (c.loop-step.word / 2 ^ (c.lane_bits-bits.result * (length c.args.divisor.now - 2))) c.requires.meanings
    within.lead in
    element_small c.args.field.now _ c.from-in-loop-step.result lead c.from-in-loop-step.ensures

pub overflow_add-word : goal.overflow_add-word
overflow_add-word c =
    let within = step_within c.args.field.now c.args.divisor.now c.args.dividend.now
    (length c.args.dividend.now - c.loop-step.step) c.loop-step.word c.lane_bits-bits.result
    (lane_base c.args.field.now ^ (length c.args.divisor.now - 2)) (lane_base c.args.field.now)
    c.requires.monic c.requires.degree
    c.lane_bits-bits.ensures.value refl refl c.loop-step.invariant in
    let element = entry_is_element c.args.field.now c.args.dividend.now
    (length c.args.dividend.now - 1 - c.loop-step.step)
    (elements_are_below c.args.field.now c.args.dividend.now c.requires.elements)
    (omega (arith, c.loop-step-test.true)) in
    let code = code_in_table-small c.args.field.now c.args.codes.now c.from.result
    (get_or c.args.dividend.now (length c.args.dividend.now - 1 - c.loop-step.step) 0) c.requires.codes
    c.from.ensures element in
    let lead = lead_element c.args.field.now c.args.meanings.now
    (c.loop-step.word / 2 ^ (c.lane_bits-bits.result * (length c.args.divisor.now - 2))) c.requires.meanings
    within.lead in
    let more = multiple_small c.args.field.now c.args.divisor.now c.args.multiples.now
    c.from-in-loop-step.result
    (get_or c.args.meanings.now (c.loop-step.word / 2 ^ (c.lane_bits-bits.result * (length c.args.divisor.now - 2))) 0)
    c.requires.monic c.requires.degree c.requires.multiples c.from-in-loop-step.ensures lead in
    omega (
      arith,
      others_moved c.args.field.now c.args.divisor.now c.loop-step.word c.lane_bits-bits.result
          c.requires.degree c.lane_bits-bits.ensures.value within,
      within.others,
      code,
      more,
    )

pub loop-step-preserved : goal.loop-step-preserved
loop-step-preserved c =
    let within = step_within c.args.field.now c.args.divisor.now c.args.dividend.now
    (length c.args.dividend.now - c.loop-step.step) c.loop-step.word c.lane_bits-bits.result
    (lane_base c.args.field.now ^ (length c.args.divisor.now - 2)) (lane_base c.args.field.now)
    c.requires.monic c.requires.degree
    c.lane_bits-bits.ensures.value refl refl c.loop-step.invariant in
    let element = entry_is_element c.args.field.now c.args.dividend.now
    (length c.args.dividend.now - 1 - c.loop-step.step)
    (elements_are_below c.args.field.now c.args.dividend.now c.requires.elements)
    (omega (arith, c.loop-step-test.true)) in
    subst (λ rest. IsWindow c.args.field.now c.args.divisor.now c.args.dividend.now (length c.args.divisor.now - 1)
    (length c.args.dividend.now - (c.loop-step.step + 1))
    (rest + get_or c.args.codes.now c.from.result 0 + get_or c.args.multiples.now c.from-in-loop-step.result 0))
    (sym (others_moved c.args.field.now c.args.divisor.now c.loop-step.word c.lane_bits-bits.result c.requires.degree
    c.lane_bits-bits.ensures.value within))
    (remainder_next c.args.field.now c.args.divisor.now c.args.dividend.now c.loop-step.step c.loop-step.word
    c.lane_bits-bits.result (lane_base c.args.field.now ^ (length c.args.divisor.now - 2))
    (lane_base c.args.field.now) _ _ c.requires.monic c.requires.degree
    (elements_are_below c.args.field.now c.args.dividend.now c.requires.elements) c.lane_bits-bits.ensures.value
    refl refl (omega (arith, c.loop-step-test.true)) c.loop-step.invariant
    (code_in_table c.args.field.now c.args.codes.now c.from.result
    (get_or c.args.dividend.now (length c.args.dividend.now - 1 - c.loop-step.step) 0) c.requires.codes
    c.from.ensures element)
    (multiple_of_lead c.args.field.now c.args.divisor.now c.args.meanings.now c.args.multiples.now
    (c.loop-step.word / 2 ^ (c.lane_bits-bits.result * (length c.args.divisor.now - 2))) c.from-in-loop-step.result
    c.requires.meanings c.requires.multiples within.lead c.from-in-loop-step.ensures))
