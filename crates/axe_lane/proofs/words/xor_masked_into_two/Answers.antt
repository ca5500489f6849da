use Rattle.std.proofs.Common.{◌≡◌, ◌+◌, ◌*◌, ◌/◌, List, ℕ, length, ap, sym, ◌∙◌, arith, bit_xor}
use Rattle.axe_lane.specs.Words.{masked_sum_of_two}
use Rattle.axe_lane.proofs.MaskedRows.{two_long, chunk-two, get_or-two, block_added, word_added}
use Rattle.axe_lane.proofs.Progress.{combined_to, combined_to_end}
use Rattle.axe_lane.proofs.words.xor_masked_into_two.Goals as goal

pub loop-pair-preserved : goal.loop-pair-preserved
loop-pair-preserved c =
    let n = c.loop-pair.pair * 2 in
    let m = (c.loop-pair.pair + 1) * 2 in
    let first_long = two_long c.args.to_first _ _ _ c.requires.a_fits c.requires.b_fits in
    let first_added =
    block_added n c.args.first.now (masked_sum_of_two c.args.to_first c.args.a.now c.args.b.now) c.loop-pair.first _
    c.loop-pair.invariant.0 first_long 2 m _
    (chunk-two c.args.to_first _ _ _ c.requires.a_fits c.requires.b_fits n 2) (omega arith) (omega arith) c.xor_masked_pair_of_two.ensures in
    let second_long = two_long c.args.to_second _ _ _ c.requires.a_fits c.requires.b_fits ∙ sym c.requires.second_fits in
    let second_added =
    block_added n c.args.second.now (masked_sum_of_two c.args.to_second c.args.a.now c.args.b.now) c.loop-pair.second _
    c.loop-pair.invariant.1 second_long 2 m _
    (chunk-two c.args.to_second _ _ _ c.requires.a_fits c.requires.b_fits n 2) (omega arith) (omega (arith, c.requires.second_fits)) c.xor_masked_pair_of_two-in-loop-pair.ensures in
    (first_added, second_added)

pub returns-then-rest-first-clause-first : goal.returns-then-rest-first-clause-first
returns-then-rest-first-clause-first c =
    let n = length c.args.first.now / 2 * 2 in
    let all : c.loop-pair.pair * 2 ≡ n = omega arith in
    let sum : List ℕ = masked_sum_of_two c.args.to_first c.args.a.now c.args.b.now in
    word_added n c.args.first.now sum c.loop-pair.first _ (c.loop-pair.invariant.0 ∙ ap (λ k. combined_to bit_xor k c.args.first.now sum) all)
    (two_long c.args.to_first _ _ _ c.requires.a_fits c.requires.b_fits) _
    (get_or-two c.args.to_first _ _ _ c.requires.a_fits c.requires.b_fits n (omega arith))
    (omega (arith, c.if-rest-first.true)) c.xor_masked_word_of_two.ensures

pub returns-then-rest-first-clause-second : goal.returns-then-rest-first-clause-second
returns-then-rest-first-clause-second c =
    let n = length c.args.first.now / 2 * 2 in
    let all : c.loop-pair.pair * 2 ≡ n = omega arith in
    let sum : List ℕ = masked_sum_of_two c.args.to_second c.args.a.now c.args.b.now in
    word_added n c.args.second.now sum c.loop-pair.second _ (c.loop-pair.invariant.1 ∙ ap (λ k. combined_to bit_xor k c.args.second.now sum) all)
    (two_long c.args.to_second _ _ _ c.requires.a_fits c.requires.b_fits ∙ sym c.requires.second_fits) _
    (get_or-two c.args.to_second _ _ _ c.requires.a_fits c.requires.b_fits n (omega arith))
    (omega (arith, c.if-rest-first.true, c.requires.second_fits)) c.xor_masked_word_of_two-then-rest-first.ensures

pub returns-else-rest-first-clause-first : goal.returns-else-rest-first-clause-first
returns-else-rest-first-clause-first c =
    let sum : List ℕ = masked_sum_of_two c.args.to_first c.args.a.now c.args.b.now in
    c.loop-pair.invariant.0
    ∙ combined_to_end bit_xor (c.loop-pair.pair * 2) c.args.first.now sum (omega arith)
    (two_long c.args.to_first _ _ _ c.requires.a_fits c.requires.b_fits)

pub returns-else-rest-first-clause-second : goal.returns-else-rest-first-clause-second
returns-else-rest-first-clause-second c =
    let sum : List ℕ = masked_sum_of_two c.args.to_second c.args.a.now c.args.b.now in
    c.loop-pair.invariant.1
    ∙ combined_to_end bit_xor (c.loop-pair.pair * 2) c.args.second.now sum (omega (arith, c.requires.second_fits))
    (two_long c.args.to_second _ _ _ c.requires.a_fits c.requires.b_fits ∙ sym c.requires.second_fits)
