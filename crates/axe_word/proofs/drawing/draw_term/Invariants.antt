use Rattle.axe_word.proofs.DrawingLaws.{IsDrawnUpTo}
use Rattle.axe_word.proofs.drawing.draw_term.Given as goal

abbrev pub invariant-loop : goal.invariant-loop
invariant-loop l = IsDrawnUpTo l.counter l.coefficient l.gens l.initial.generator l.term l.generator
