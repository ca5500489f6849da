use Rattle.axe_word.proofs.ValueLaws.{value-is_unique}
use Rattle.axe_word.proofs.laws.words_have_one_value.Goals as goal

pub returns : goal.returns
returns c = value-is_unique
