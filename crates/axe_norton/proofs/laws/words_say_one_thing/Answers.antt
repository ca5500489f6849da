use Rattle.axe_norton.proofs.UniqueLaws.{says_one, decides_one}
use Rattle.axe_norton.proofs.laws.words_say_one_thing.Goals as goal

pub returns-clause-word : goal.returns-clause-word
returns-clause-word c = says_one

pub returns-clause-words : goal.returns-clause-words
returns-clause-words c = decides_one
