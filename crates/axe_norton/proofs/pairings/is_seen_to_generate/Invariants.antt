use Rattle.axe_norton.specs.Pairings.{combinations}
use Rattle.axe_norton.proofs.SeenLaws.{IsWithin}
use Rattle.axe_norton.proofs.pairings.is_seen_to_generate.Given as goal

abbrev pub invariant-loop-pairing : goal.invariant-loop-pairing
invariant-loop-pairing l = IsWithin l.coordinates.order l.dimension (combinations l.coordinates l.pairings) l.span
