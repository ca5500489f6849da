use Rattle.std.proofs.Common.{◌<◌, ◌≤◌, ◌+◌, ◌-◌, ◌*◌, length, refl, sym, subst, arith, inl, inr}
use native.Mathlib.Decide.{dec_lt}
use Rattle.axe_field.specs.Order.{prime_of, degree_of}
use Rattle.axe_matrix.specs.Transposes.{digit_of_block}
use Rattle.axe_matrix.proofs.CoefficientWrites.{HasCoefficients-no_row, HasCoefficients-bottom, HasCoefficients-count}
use Rattle.axe_matrix.proofs.TransposedBlocks.{HasCoefficients-words}
use Rattle.axe_matrix.proofs.Matrix.put_words.Goals as goal

pub overflow_mul-from : goal.overflow_mul-from
overflow_mul-from c = omega (arith, c.requires.within, c.rows-rows.ensures.count, c.rows-rows.type_inv)

pub loop-index-init : goal.loop-index-init
loop-index-init c = record {
  part = HasCoefficients-no_row _ _ _ _ _ c.args.self.now;
  well_formed = c.rows-rows.ensures.well_formed;
}

pub put_row_words-requires-clause-prime : goal.put_row_words-requires-clause-prime
put_row_words-requires-clause-prime c = subst (λ o. prime_of o ≤ 3) (sym c.loop-index.invariant.part.power.order) c.requires.prime

pub put_row_words-requires-clause-power : goal.put_row_words-requires-clause-power
put_row_words-requires-clause-power c = subst (λ o. c.args.power < degree_of o) (sym c.loop-index.invariant.part.power.order) c.requires.power

pub put_row_words-requires-clause-row : goal.put_row_words-requires-clause-row
put_row_words-requires-clause-row c =
    omega (arith, c.loop-index-test.true, c.min-index-end.ensures, c.rows-rows.ensures.count, HasCoefficients-count _ _ _ _ _ _ _ _ c.loop-index.invariant.part)

pub put_row_words-requires-clause-digits : goal.put_row_words-requires-clause-digits
put_row_words-requires-clause-digits c = λ i low.
    subst (λ o. digit_of_block c.args.ones.now c.args.twos.now (c.loop-index.index - c.args.row_block * 64) i < prime_of o) (sym c.loop-index.invariant.part.power.order)
    (c.requires.digits (c.loop-index.index - c.args.row_block * 64) i (omega (arith, c.loop-index.auto.index, c.loop-index-test.true, c.min-index-end.ensures)) low)

pub loop-index-preserved : goal.loop-index-preserved
loop-index-preserved c =
    let inside : c.loop-index.index < length c.args.self.now.rows = omega (arith, c.loop-index-test.true, c.min-index-end.ensures, c.rows-rows.ensures.count) in
    record {
      part = HasCoefficients-words c.args.power _ c.args.at c.loop-index.index _ c.args.ones.now c.args.twos.now _ c.loop-index.self _ c.loop-index.invariant.part
          c.loop-index.invariant.well_formed (subst (λ o. c.args.power < degree_of o) (sym c.loop-index.invariant.part.power.order) c.requires.power)
          c.loop-index.auto.index inside refl c.put_row_words.ensures.replaced;
      well_formed = c.put_row_words.ensures.well_formed;
    }

pub returns-clause-written : goal.returns-clause-written
returns-clause-written c =
    let bound : c.loop-index.index ≤ c.args.row_block * 64 + 64 = omega (arith, c.loop-index.auto.index-end, c.min-index-end.ensures, c.requires.within, c.rows-rows.ensures.count) in
    HasCoefficients-bottom _ _ _ _ _ _ _ c.args.self.now _ c.loop-index.invariant.part (elim (dec_lt c.loop-index.index (length c.args.self.now.rows)) [
      | yes inside ↦ inl (omega (arith, bound, c.loop-index-test.false, c.min-index-end.ensures, c.rows-rows.ensures.count))
      | no outside ↦ inr (omega (arith, outside), bound)
    ])
