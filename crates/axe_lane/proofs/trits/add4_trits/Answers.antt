use Rattle.std.proofs.Common.{◌≡◌, ◌+◌, ◌*◌, ◌/◌, length, arith}
use Rattle.axe_lane.proofs.FiveTrits.{five_made, five_more, made_none}
use Rattle.axe_lane.proofs.trits.add4_trits.Goals as goal

pub loop-pair-init : goal.loop-pair-init
loop-pair-init c = made_none _ _ _

pub loop-pair-preserved : goal.loop-pair-preserved
loop-pair-preserved c =
    five_more (c.loop-pair.pair * 2) (c.loop-pair.pair * 2 + 2) ((c.loop-pair.pair + 1) * 2) _ _ _ _ _ _ _ _ _ _ _ _ _ _
    c.loop-pair.invariant c.add4_pair.ensures (omega arith) (omega arith)

pub returns-then-rest-ones : goal.returns-then-rest-ones
returns-then-rest-ones c =
    let rest = length c.args.ones.now / 2 * 2 in
    let pairs : c.loop-pair.pair * 2 ≡ rest = omega arith in
    let all : rest + 1 ≡ length c.args.ones.now = omega arith in
    five_made (rest + 1) _ _ _ _ _ _ _ _ _ _ _ _ c.requires.row c.requires.a c.requires.b c.requires.c c.requires.d all
    (five_more (c.loop-pair.pair * 2) (rest + 1) (rest + 1) _ _ _ _ _ _ _ _ _ _ _ _ _ _ c.loop-pair.invariant
    (rw pairs c.add4_word.ensures) (omega arith) (omega arith))

pub returns-else-rest-ones : goal.returns-else-rest-ones
returns-else-rest-ones c =
    let all : c.loop-pair.pair * 2 ≡ length c.args.ones.now = omega arith in
    five_made (c.loop-pair.pair * 2) _ _ _ _ _ _ _ _ _ _ _ _ c.requires.row c.requires.a c.requires.b c.requires.c c.requires.d all c.loop-pair.invariant
