use Rattle.std.proofs.Common.{◌≡◌, take}
use Rattle.axe_word.proofs.stored.StoredTerm.with_numbers.Given as goal

abbrev pub invariant-loop-number : goal.invariant-loop-number
invariant-loop-number l = l.term ≡ (l.coefficient, take l.number-index l.numbers)
