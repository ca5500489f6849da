use Rattle.std.proofs.Common.{rules, arith, sym}
use Rattle.std.proofs.lemmas.List.{get_or_past}
use Rattle.axe_plane.specs.Planes.{digits_of}
use Rattle.axe_row.proofs.planes.quadratic_at.Goals as goal

pub returns-else-with_squares : goal.returns-else-with_squares
returns-else-with_squares c =
    sym (get_or_past (digits_of c.args.quadratic.now) c.args.index 0
    (omega (arith, c.requires (λ three. omega (arith, three, c.degree-with_squares.ensures, c.if-with_squares.false)))))

pub returns-then-with_squares : goal.returns-then-with_squares
returns-then-with_squares c = search rules
