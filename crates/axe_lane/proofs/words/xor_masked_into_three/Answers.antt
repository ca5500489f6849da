use Rattle.std.proofs.Common.{◌≡◌, ◌+◌, ◌*◌, ◌/◌, List, ℕ, length, ap, sym, ◌∙◌, arith, bit_xor}
use Rattle.axe_lane.specs.Words.{masked_sum_of_three}
use Rattle.axe_lane.proofs.MaskedRows.{three_long, chunk-three, get_or-three, block_added, word_added}
use Rattle.axe_lane.proofs.Progress.{combined_to, combined_to_end}
use Rattle.axe_lane.proofs.words.xor_masked_into_three.Goals as goal

pub loop-pair-preserved : goal.loop-pair-preserved
loop-pair-preserved c =
    let n = c.loop-pair.pair * 2 in
    let m = (c.loop-pair.pair + 1) * 2 in
    let first_long = three_long c.args.to_first _ _ _ c.requires.a_fits c.requires.b_fits _ c.requires.c_fits in
    let first_added =
    block_added n c.args.first.now (masked_sum_of_three c.args.to_first c.args.a.now c.args.b.now c.args.c.now) c.loop-pair.first _
    c.loop-pair.invariant.0 first_long 2 m _
    (chunk-three c.args.to_first _ _ _ c.requires.a_fits c.requires.b_fits _ c.requires.c_fits n 2) (omega arith) (omega arith) c.xor_masked_pair_of_three.ensures in
    let second_long = three_long c.args.to_second _ _ _ c.requires.a_fits c.requires.b_fits _ c.requires.c_fits ∙ sym c.requires.second_fits in
    let second_added =
    block_added n c.args.second.now (masked_sum_of_three c.args.to_second c.args.a.now c.args.b.now c.args.c.now) c.loop-pair.second _
    c.loop-pair.invariant.1.0 second_long 2 m _
    (chunk-three c.args.to_second _ _ _ c.requires.a_fits c.requires.b_fits _ c.requires.c_fits n 2) (omega arith) (omega (arith, c.requires.second_fits)) c.xor_masked_pair_of_three-in-loop-pair.ensures in
    let third_long = three_long c.args.to_third _ _ _ c.requires.a_fits c.requires.b_fits _ c.requires.c_fits ∙ sym c.requires.third_fits in
    let third_added =
    block_added n c.args.third.now (masked_sum_of_three c.args.to_third c.args.a.now c.args.b.now c.args.c.now) c.loop-pair.third _
    c.loop-pair.invariant.1.1 third_long 2 m _
    (chunk-three c.args.to_third _ _ _ c.requires.a_fits c.requires.b_fits _ c.requires.c_fits n 2) (omega arith) (omega (arith, c.requires.third_fits)) c.xor_masked_pair_of_three-in-loop-pair-2.ensures in
    (first_added, (second_added, third_added))

pub returns-then-rest-first-clause-first : goal.returns-then-rest-first-clause-first
returns-then-rest-first-clause-first c =
    let n = length c.args.first.now / 2 * 2 in
    let all : c.loop-pair.pair * 2 ≡ n = omega arith in
    let sum : List ℕ = masked_sum_of_three c.args.to_first c.args.a.now c.args.b.now c.args.c.now in
    word_added n c.args.first.now sum c.loop-pair.first _ (c.loop-pair.invariant.0 ∙ ap (λ k. combined_to bit_xor k c.args.first.now sum) all)
    (three_long c.args.to_first _ _ _ c.requires.a_fits c.requires.b_fits _ c.requires.c_fits) _
    (get_or-three c.args.to_first _ _ _ c.requires.a_fits c.requires.b_fits _ c.requires.c_fits n (omega arith))
    (omega (arith, c.if-rest-first.true)) c.xor_masked_word_of_three.ensures

pub returns-then-rest-first-clause-second : goal.returns-then-rest-first-clause-second
returns-then-rest-first-clause-second c =
    let n = length c.args.first.now / 2 * 2 in
    let all : c.loop-pair.pair * 2 ≡ n = omega arith in
    let sum : List ℕ = masked_sum_of_three c.args.to_second c.args.a.now c.args.b.now c.args.c.now in
    word_added n c.args.second.now sum c.loop-pair.second _ (c.loop-pair.invariant.1.0 ∙ ap (λ k. combined_to bit_xor k c.args.second.now sum) all)
    (three_long c.args.to_second _ _ _ c.requires.a_fits c.requires.b_fits _ c.requires.c_fits ∙ sym c.requires.second_fits) _
    (get_or-three c.args.to_second _ _ _ c.requires.a_fits c.requires.b_fits _ c.requires.c_fits n (omega arith))
    (omega (arith, c.if-rest-first.true, c.requires.second_fits)) c.xor_masked_word_of_three-then-rest-first.ensures

pub returns-then-rest-first-clause-third : goal.returns-then-rest-first-clause-third
returns-then-rest-first-clause-third c =
    let n = length c.args.first.now / 2 * 2 in
    let all : c.loop-pair.pair * 2 ≡ n = omega arith in
    let sum : List ℕ = masked_sum_of_three c.args.to_third c.args.a.now c.args.b.now c.args.c.now in
    word_added n c.args.third.now sum c.loop-pair.third _ (c.loop-pair.invariant.1.1 ∙ ap (λ k. combined_to bit_xor k c.args.third.now sum) all)
    (three_long c.args.to_third _ _ _ c.requires.a_fits c.requires.b_fits _ c.requires.c_fits ∙ sym c.requires.third_fits) _
    (get_or-three c.args.to_third _ _ _ c.requires.a_fits c.requires.b_fits _ c.requires.c_fits n (omega arith))
    (omega (arith, c.if-rest-first.true, c.requires.third_fits)) c.xor_masked_word_of_three-then-rest-first-2.ensures

pub returns-else-rest-first-clause-first : goal.returns-else-rest-first-clause-first
returns-else-rest-first-clause-first c =
    let sum : List ℕ = masked_sum_of_three c.args.to_first c.args.a.now c.args.b.now c.args.c.now in
    c.loop-pair.invariant.0
    ∙ combined_to_end bit_xor (c.loop-pair.pair * 2) c.args.first.now sum (omega arith)
    (three_long c.args.to_first _ _ _ c.requires.a_fits c.requires.b_fits _ c.requires.c_fits)

pub returns-else-rest-first-clause-second : goal.returns-else-rest-first-clause-second
returns-else-rest-first-clause-second c =
    let sum : List ℕ = masked_sum_of_three c.args.to_second c.args.a.now c.args.b.now c.args.c.now in
    c.loop-pair.invariant.1.0
    ∙ combined_to_end bit_xor (c.loop-pair.pair * 2) c.args.second.now sum (omega (arith, c.requires.second_fits))
    (three_long c.args.to_second _ _ _ c.requires.a_fits c.requires.b_fits _ c.requires.c_fits ∙ sym c.requires.second_fits)

pub returns-else-rest-first-clause-third : goal.returns-else-rest-first-clause-third
returns-else-rest-first-clause-third c =
    let sum : List ℕ = masked_sum_of_three c.args.to_third c.args.a.now c.args.b.now c.args.c.now in
    c.loop-pair.invariant.1.1
    ∙ combined_to_end bit_xor (c.loop-pair.pair * 2) c.args.third.now sum (omega (arith, c.requires.third_fits))
    (three_long c.args.to_third _ _ _ c.requires.a_fits c.requires.b_fits _ c.requires.c_fits ∙ sym c.requires.third_fits)
