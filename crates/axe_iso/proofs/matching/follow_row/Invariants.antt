use Rattle.std.proofs.Common.{[], get_or}
use Rattle.axe_iso.specs.Following.{IsFollowedBasis}
use Rattle.axe_iso.proofs.matching.follow_row.Given as goal

abbrev pub invariant-loop-number : goal.invariant-loop-number
invariant-loop-number l = IsFollowedBasis l.module l.matrices (get_or l.fn.basis.rows 0 []) l.basis l.source l.number
