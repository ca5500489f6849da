use Rattle.std.proofs.Common.{rules, length, below_more}
use Rattle.axe_check.specs.Steps.{IsApartTo}
use Rattle.axe_check.proofs.pairs.check_pairs.Goals as goal

pub loop-first-preserved : goal.loop-first-preserved
loop-first-preserved c =
    below_more (λ i. IsApartTo c.args.factors.now i (length c.args.factors.now)) c.loop-first.first c.loop-first.invariant c.in_ok-check_later.ensures

pub loop-first-init : goal.loop-first-init
loop-first-init c = search rules
