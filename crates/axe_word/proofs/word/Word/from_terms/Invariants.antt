use Rattle.std.proofs.Common.{◌≡◌, take}
use Rattle.axe_word.specs.Terms.{word_of_terms}
use Rattle.axe_word.proofs.word.Word.from_terms.Given as goal

abbrev pub invariant-loop-term : goal.invariant-loop-term
invariant-loop-term l = l.word ≡ take l.term-index (word_of_terms l.terms)
