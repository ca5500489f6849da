use Rattle.axe_action.specs.KnownRows.{AreKnownImages}
use Rattle.axe_action.proofs.known_rows.known_images.Given as goal

abbrev pub invariant-loop-number : goal.invariant-loop-number
invariant-loop-number l = AreKnownImages l.origins l.generator l.count l.images.items
