use Rattle.axe_iso.specs.Following.{IsFollowedBasis}
use Rattle.axe_iso.proofs.matching.followed_basis.Given as goal

abbrev pub invariant-loop-source : goal.invariant-loop-source
invariant-loop-source l = IsFollowedBasis l.module l.matrices l.fn.point.entries l.basis l.source 0
