use Rattle.std.proofs.Common.{rules, refl}
use Rattle.axe_reduction.proofs.GrowingLaws.{cleared_below_none, cleared_below_more}
use Rattle.axe_reduction.proofs.few.clear.Goals as goal

pub loop-index-init : goal.loop-index-init
loop-index-init c = cleared_below_none c.args.pivots.now c.args.reduced.now c.args.row.now c.requires.row

pub loop-index-preserved : goal.loop-index-preserved
loop-index-preserved c =
    cleared_below_more c.loop-index.index _ c.args.pivots.now c.args.reduced.now c.index-reduced-index.result c.args.row.now c.loop-index.row
    c.cancel.new.self c.requires.reduced c.requires.row c.loop-index-test.true c.index-reduced-index.is refl c.loop-index.invariant
    c.cancel.ensures.cancelled c.cancel.ensures.alike

pub cancel-requires-clause-column : goal.cancel-requires-clause-column
cancel-requires-clause-column c = search rules
