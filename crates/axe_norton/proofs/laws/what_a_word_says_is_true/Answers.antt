use Rattle.axe_norton.proofs.SaidLaws.{said_is_true}
use Rattle.axe_norton.proofs.laws.what_a_word_says_is_true.Goals as goal

pub returns : goal.returns
returns c m word answer is is_word says = said_is_true m is word answer is_word says
