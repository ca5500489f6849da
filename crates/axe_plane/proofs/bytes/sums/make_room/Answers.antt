use Rattle.std.proofs.Common.{◌*◌, sym, ap, subst, ◌∙◌, arith}
use Rattle.axe_lane.specs.Bytes.{AreDigits}
use Rattle.axe_plane.specs.Sums.{remainders}
use Rattle.axe_plane.proofs.SumLaws.{remainders_twice, remainders-digits, AreDigits-below}
use Rattle.axe_plane.proofs.bytes.sums.make_room.Goals as goal

pub returns-then-most-prime-clause-kept : goal.returns-then-most-prime-clause-kept
returns-then-most-prime-clause-kept c =
    ap (remainders c.args.prime) c.reduce_bytes.ensures ∙ remainders_twice c.args.prime c.args.bytes.now

pub returns-then-most-prime-clause-below : goal.returns-then-most-prime-clause-below
returns-then-most-prime-clause-below c =
    let digits = remainders-digits c.args.prime c.args.bytes.now (omega (arith, c.requires.prime)) in
    subst (AreDigits (16 * c.args.prime)) (sym c.reduce_bytes.ensures)
    (AreDigits-below c.args.prime (16 * c.args.prime) (omega arith) (remainders c.args.prime c.args.bytes.now) digits)
