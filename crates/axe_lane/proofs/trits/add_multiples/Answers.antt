use Rattle.std.proofs.Common.{◌≡◌, ◌+◌, ◌*◌, ◌/◌, ◌≤◌, length, arith}
use Rattle.axe_lane.proofs.FiveTrits.{three_more}
use Rattle.axe_lane.proofs.TwoMultiples.{as_long, have_words, kept_words, multiples_made, pair_made, word_made}
use Rattle.axe_lane.proofs.trits.add_multiples.Goals as goal

pub loop-pair-preserved : goal.loop-pair-preserved
loop-pair-preserved g c =
    let n = c.loop-pair.pair * 2 in
    let inside : n + 2 ≤ length c.args.ones.now = omega arith in
    let a_room = have_words (n + 2) _ _ _ c.requires.a inside in
    let b_room = have_words (n + 2) _ _ _ c.requires.b inside in
    let first = c.loop-pair.invariant.0 in
    let second = c.loop-pair.invariant.1 in
    let row = kept_words (n + 2) _ _ _ _ _ _ _ first inside (omega (arith, c.requires.row.as_long)) in
    let other = kept_words (n + 2) _ _ _ _ _ _ _ second (omega (arith, c.requires.second.long)) (omega (arith, c.requires.second.long, c.requires.second.are_trits.as_long)) in (
      three_more n (n + 2) ((c.loop-pair.pair + 1) * 2) _ _ _ _ _ _ _ _ _ _ first
          (pair_made n g.row.P g.row.Q _ _ _ _ _ _ _ _ _ _ _ _ row a_room b_room c.multiple_of_pair-p.ensures.ones c.multiple_of_pair-p.ensures.twos
          c.multiple_of_pair-q.ensures.ones c.multiple_of_pair-q.ensures.twos c.add_pairs.ensures.ones c.add_pairs.ensures.twos)
          (omega arith) (omega arith),
      three_more n (n + 2) ((c.loop-pair.pair + 1) * 2) _ _ _ _ _ _ _ _ _ _ second
          (pair_made n g.row.R g.row.S _ _ _ _ _ _ _ _ _ _ _ _ other a_room b_room c.multiple_of_pair-r.ensures.ones c.multiple_of_pair-r.ensures.twos
          c.multiple_of_pair-s.ensures.ones c.multiple_of_pair-s.ensures.twos c.add_pairs-in-loop-pair.ensures.ones c.add_pairs-in-loop-pair.ensures.twos)
          (omega arith) (omega arith),
    )

pub returns-then-rest-ones-clause-first : goal.returns-then-rest-ones-clause-first
returns-then-rest-ones-clause-first g c =
    let n = length c.args.ones.now / 2 * 2 in
    let pairs : c.loop-pair.pair * 2 ≡ n = omega arith in
    let all : n + 1 ≡ length c.args.ones.now = omega (arith, c.if-rest-ones.true) in
    multiples_made (n + 1) g.row.P g.row.Q _ _ _ _ _ _ _ _ c.requires.row c.requires.a c.requires.b all
    (three_more (c.loop-pair.pair * 2) (n + 1) (n + 1) _ _ _ _ _ _ _ _ _ _ c.loop-pair.invariant.0
    (rw pairs (word_made n g.row.P g.row.Q _ _ _ _ _ _ _ _ _ _ _ _ c.multiple_of_word-p.ensures.ones c.multiple_of_word-p.ensures.twos
    c.multiple_of_word-q.ensures.ones c.multiple_of_word-q.ensures.twos c.add_words.ensures)) (omega arith) (omega arith))

pub returns-then-rest-ones-clause-second : goal.returns-then-rest-ones-clause-second
returns-then-rest-ones-clause-second g c =
    let n = length c.args.ones.now / 2 * 2 in
    let pairs : c.loop-pair.pair * 2 ≡ n = omega arith in
    let all : n + 1 ≡ length c.args.second_ones.now = omega (arith, c.if-rest-ones.true, c.requires.second.long) in
    multiples_made (n + 1) g.row.R g.row.S _ _ _ _ _ _ _ _ c.requires.second.are_trits (as_long _ _ _ _ c.requires.second.long c.requires.a)
    (as_long _ _ _ _ c.requires.second.long c.requires.b) all
    (three_more (c.loop-pair.pair * 2) (n + 1) (n + 1) _ _ _ _ _ _ _ _ _ _ c.loop-pair.invariant.1
    (rw pairs (word_made n g.row.R g.row.S _ _ _ _ _ _ _ _ _ _ _ _ c.multiple_of_word-r.ensures.ones c.multiple_of_word-r.ensures.twos
    c.multiple_of_word-s.ensures.ones c.multiple_of_word-s.ensures.twos c.add_words-then-rest-ones.ensures)) (omega arith) (omega arith))

pub returns-else-rest-ones-clause-first : goal.returns-else-rest-ones-clause-first
returns-else-rest-ones-clause-first g c =
    let all : c.loop-pair.pair * 2 ≡ length c.args.ones.now = omega (arith, c.if-rest-ones.false) in
    multiples_made (c.loop-pair.pair * 2) g.row.P g.row.Q _ _ _ _ _ _ _ _ c.requires.row c.requires.a c.requires.b all c.loop-pair.invariant.0

pub returns-else-rest-ones-clause-second : goal.returns-else-rest-ones-clause-second
returns-else-rest-ones-clause-second g c =
    let all : c.loop-pair.pair * 2 ≡ length c.args.second_ones.now = omega (arith, c.if-rest-ones.false, c.requires.second.long) in
    multiples_made (c.loop-pair.pair * 2) g.row.R g.row.S _ _ _ _ _ _ _ _ c.requires.second.are_trits
    (as_long _ _ _ _ c.requires.second.long c.requires.a) (as_long _ _ _ _ c.requires.second.long c.requires.b) all c.loop-pair.invariant.1
