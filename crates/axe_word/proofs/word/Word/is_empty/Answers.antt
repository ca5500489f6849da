use Rattle.std.proofs.Common.{rules}
use Rattle.axe_word.proofs.word.Word.is_empty.Goals as goal

pub returns : goal.returns
returns c = search rules
