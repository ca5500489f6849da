use Rattle.axe_matrix.specs.Strips.{IsStrip}
use Rattle.axe_matrix.proofs.lines.Lines.strip.Given as goal

abbrev pub invariant-loop-index : goal.invariant-loop-index
invariant-loop-index l = IsStrip l.self l.start l.width l.index l.lines.items
