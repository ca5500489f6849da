use Rattle.axe_word.proofs.DrawingLaws.{drawn_word-IsWord}
use Rattle.axe_word.proofs.ValueLaws.{drawn_word-in}
use Rattle.axe_word.proofs.laws.drawn_words_are_words.Goals as goal

pub returns-clause-word : goal.returns-clause-word
returns-clause-word c = drawn_word-IsWord

pub returns-clause-over : goal.returns-clause-over
returns-clause-over c = drawn_word-in
