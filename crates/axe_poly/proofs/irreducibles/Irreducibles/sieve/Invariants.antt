use Rattle.axe_poly.specs.Sieve.{AreMarkedByFirst}
use Rattle.axe_poly.proofs.irreducibles.Irreducibles.sieve.Given as goal

abbrev pub invariant-loop-index : goal.invariant-loop-index
invariant-loop-index l = AreMarkedByFirst l.self l.index l.marks
