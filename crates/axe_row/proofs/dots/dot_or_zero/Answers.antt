use Rattle.std.proofs.Common.{rules, arith}
use Rattle.axe_plane.specs.Planes.{prime_of_plane, digits_of}
use Rattle.axe_plane.proofs.PlaneLaws.{prime_of_plane-positive}
use Rattle.axe_row.proofs.PlaneDots.{unequal_dot}
use Rattle.axe_row.proofs.dots.dot_or_zero.Goals as goal

pub returns-else-len : goal.returns-else-len
returns-else-len c =
    unequal_dot (prime_of_plane c.args.left.now) (digits_of c.args.left.now) (digits_of c.args.right.now)
    (prime_of_plane-positive c.args.left.now) c.requires.fits (λ same. absurd (omega (arith, same, c.len.ensures, c.len-2.ensures, c.if-len.false)))

pub dot-requires-clause-prime : goal.dot-requires-clause-prime
dot-requires-clause-prime c = search rules

pub dot-requires-clause-fits : goal.dot-requires-clause-fits
dot-requires-clause-fits c = search rules

pub returns-then-len : goal.returns-then-len
returns-then-len c = search rules
