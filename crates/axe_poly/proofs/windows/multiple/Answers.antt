use Rattle.std.proofs.Common.{◌∙◌, sym, arith}
use Rattle.axe_poly.specs.Lanes.{lane_base, term}
use Rattle.axe_poly.proofs.PackLaws.{packed_none}
use Rattle.axe_poly.proofs.WindowLaws.{entry_is_element, term_of_table}
use Rattle.axe_poly.proofs.windows.multiple.Goals as goal
use native.Mathlib.Nat.{pow-zero}

pub loop-index-init : goal.loop-index-init
loop-index-init c = record {
  word = packed_none (lane_base c.args.field.now) (term c.args.field.now c.args.divisor.now c.args.constant);
  place = sym (pow-zero (lane_base c.args.field.now));
}

pub mul-requires-clause-right : goal.mul-requires-clause-right
mul-requires-clause-right c =
    entry_is_element c.args.field.now c.args.divisor.now c.loop-index.index c.requires.monic.elements
    (omega (arith, c.loop-index-test.true))

pub overflow_mul-word : goal.overflow_mul-word
overflow_mul-word c =
    let added = term_of_table c.args.field.now c.args.divisor.now c.args.codes.now c.args.constant c.loop-index.index
    c.loop-index.word c.loop-index.place c.from.result c.lane_base-base.result c.requires.codes c.requires.monic
    c.requires.degree c.requires.element (omega (arith, c.loop-index-test.true)) c.lane_base-base.ensures.value
    c.loop-index.invariant.word c.loop-index.invariant.place (c.from.ensures ∙ c.mul.ensures.value) in
    omega (arith, added.word_small)

pub overflow_add-word : goal.overflow_add-word
overflow_add-word c =
    let added = term_of_table c.args.field.now c.args.divisor.now c.args.codes.now c.args.constant c.loop-index.index
    c.loop-index.word c.loop-index.place c.from.result c.lane_base-base.result c.requires.codes c.requires.monic
    c.requires.degree c.requires.element (omega (arith, c.loop-index-test.true)) c.lane_base-base.ensures.value
    c.loop-index.invariant.word c.loop-index.invariant.place (c.from.ensures ∙ c.mul.ensures.value) in
    omega (arith, added.word_small)

pub overflow_mul-place : goal.overflow_mul-place
overflow_mul-place c =
    let added = term_of_table c.args.field.now c.args.divisor.now c.args.codes.now c.args.constant c.loop-index.index
    c.loop-index.word c.loop-index.place c.from.result c.lane_base-base.result c.requires.codes c.requires.monic
    c.requires.degree c.requires.element (omega (arith, c.loop-index-test.true)) c.lane_base-base.ensures.value
    c.loop-index.invariant.word c.loop-index.invariant.place (c.from.ensures ∙ c.mul.ensures.value) in
    omega (arith, added.place_small)

pub loop-index-preserved : goal.loop-index-preserved
loop-index-preserved c =
    let added = term_of_table c.args.field.now c.args.divisor.now c.args.codes.now c.args.constant c.loop-index.index
    c.loop-index.word c.loop-index.place c.from.result c.lane_base-base.result c.requires.codes c.requires.monic
    c.requires.degree c.requires.element (omega (arith, c.loop-index-test.true)) c.lane_base-base.ensures.value
    c.loop-index.invariant.word c.loop-index.invariant.place (c.from.ensures ∙ c.mul.ensures.value) in
    record { word = added.word_is; place = added.place_is }
