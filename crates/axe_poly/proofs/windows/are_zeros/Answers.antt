use Rattle.std.proofs.Common.{◌/◌, ◌∙◌, ap, sym}
use Rattle.std.proofs.lemmas.Bool.{false≢true}
use Rattle.axe_poly.specs.Lanes.{lane_base}
use Rattle.axe_poly.proofs.NumberLaws.{left_next}
use Rattle.axe_poly.proofs.WindowLaws.{lane_bits-small, one_lane, lane_value, zeros_next}
use Rattle.axe_poly.proofs.windows.are_zeros.Goals as goal

pub overflow_shl-base : goal.overflow_shl-base
overflow_shl-base c = lane_bits-small c.args.field.now c.lane_bits-bits.result c.lane_bits-bits.ensures.value

pub overflow_shr-left : goal.overflow_shr-left
overflow_shr-left c = lane_bits-small c.args.field.now c.lane_bits-bits.result c.lane_bits-bits.ensures.value

pub returns-then-meanings-left-ne0 : goal.returns-then-meanings-left-ne0
returns-then-meanings-left-ne0 c = (
  λ zeros. absurd (false≢true zeros),
  λ zeros. absurd (c.if-meanings-left-ne0.true
      (lane_value c.args.field.now c.args.meanings.now c.args.word c.loop-index.index c.loop-index.left
      c.lane_bits-bits.result _ c.requires.meanings c.loop-index.invariant.left_is c.lane_bits-bits.ensures.value
      (one_lane c.args.field.now c.lane_bits-bits.result c.lane_bits-bits.ensures.value)
      ∙ zeros c.loop-index.index c.loop-index-test.true)),
)

pub loop-index-preserved : goal.loop-index-preserved
loop-index-preserved c = record {
  left_is =
      ap (λ b. c.loop-index.left / b) c.lane_bits-bits.ensures.value
      ∙ left_next (lane_base c.args.field.now) c.args.word c.loop-index.index c.loop-index.left
      c.loop-index.invariant.left_is;
  zeros = zeros_next c.args.field.now c.args.word c.loop-index.index c.loop-index.invariant.zeros
      (sym (lane_value c.args.field.now c.args.meanings.now c.args.word c.loop-index.index c.loop-index.left
      c.lane_bits-bits.result _ c.requires.meanings c.loop-index.invariant.left_is c.lane_bits-bits.ensures.value
      (one_lane c.args.field.now c.lane_bits-bits.result c.lane_bits-bits.ensures.value))
      ∙ c.if-meanings-left-ne0.false);
}
