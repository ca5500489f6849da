use Rattle.std.proofs.Common.{◌≡◌, ◌-◌, ◌⊎◌, ◌+◌, ◌≤◌, length, arith, inl, inr}
use native.Mathlib.Decide.{dec_lt}
use Rattle.axe_layer.proofs.DigitWords.{gathered_more, gathered_word}
use Rattle.axe_layer.proofs.RunLaws.{run_index}
use Rattle.axe_layer.proofs.runs.gathered.Goals as goal

pub loop-at-preserved : goal.loop-at-preserved
loop-at-preserved c =
    let short : c.min-count.result ≤ c.min-end.result - c.loop-at.at = omega (arith, c.min-count.ensures) in
    let some : 1 ≤ c.min-count.result = omega (arith, c.min-count.ensures, c.run_length.ensures.some, c.loop-at-test.true) in
    let index = run_index c.args.indices.now c.args.followed c.args.from c.loop-at.at c.min-count.result c.loop-at.invariant.begun
    (omega (arith, short, c.min-end.ensures)) (omega (arith, short, c.min-end.ensures, c.loop-at-test.true)) c.requires.followed
    (λ i inside low. c.run_length.ensures.run i (omega (arith, inside, c.min-count.ensures)) low) in
    record {
      begun = omega (arith, c.loop-at.invariant.begun);
      within = omega (arith, short, c.loop-at-test.true);
      so_far = gathered_more c.args.words.now c.args.indices.now c.args.from c.loop-at.at c.min-end.result c.loop-at.word c.digits_from.result
          c.min-count.result c.loop-at.invariant.begun (omega (arith, c.min-end.ensures)) some short
          c.loop-at.invariant.so_far index c.digits_from.ensures.taken c.digits_from.ensures.cleared;
    }

pub returns : goal.returns
returns c = λ i low.
    let bound : c.loop-at.at ≤ length c.args.indices.now = omega (arith, c.loop-at.invariant.within, c.min-end.ensures, c.requires.from) in
    let ended : (c.loop-at.at ≡ length c.args.indices.now) ⊎ (c.loop-at.at ≡ c.args.from + 64) =
    elim (dec_lt c.loop-at.at (length c.args.indices.now)) [
      | yes inside ↦ inr (omega (arith, c.loop-at.invariant.within, c.loop-at-test.false, c.min-end.ensures))
      | no outside ↦ inl (omega (arith, bound))
    ] in
    gathered_word _ _ _ _ _ i c.loop-at.invariant.so_far low ended bound
