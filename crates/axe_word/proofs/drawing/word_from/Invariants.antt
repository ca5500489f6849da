use Rattle.axe_word.proofs.DrawingLaws.{IsWordUpTo}
use Rattle.axe_word.proofs.drawing.word_from.Given as goal

abbrev pub invariant-loop : goal.invariant-loop
invariant-loop l = IsWordUpTo l.counter l.order l.gens l.initial.generator l.word l.generator
