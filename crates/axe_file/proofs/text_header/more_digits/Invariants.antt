use Rattle.axe_file.proofs.TextScans.{DigitsRead}
use Rattle.axe_file.proofs.text_header.more_digits.Given as goal

abbrev pub invariant-loop-at : goal.invariant-loop-at
invariant-loop-at l = DigitsRead l.bytes l.start l.first l.at l.value
