use Rattle.std.proofs.Common.{◌%◌, get_or, set, refl, ap, ◌∙◌, arith}
use Rattle.axe_lane.proofs.Progress.{combined_to_more, combined_to_end}
use Rattle.axe_lane.proofs.VectorLaws.{zip2-first}
use Rattle.axe_lane.proofs.sums.reduce_one_by_one.Goals as goal

pub loop-at-preserved : goal.loop-at-preserved
loop-at-preserved c =
    let n = c.loop-at.at in
    ap (λ xs. set xs n (get_or xs n 0 % c.args.p)) c.loop-at.invariant
    ∙ combined_to_more (λ x y. x % c.args.p) n c.args.bytes.now c.args.bytes.now (omega arith) refl

pub returns : goal.returns
returns c =
    let d = c.args.bytes.now in
    c.loop-at.invariant
    ∙ combined_to_end (λ x y. x % c.args.p) c.loop-at.at d d (omega arith) refl
    ∙ zip2-first (λ x. x % c.args.p) d d refl
