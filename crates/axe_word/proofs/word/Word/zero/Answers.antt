use Rattle.std.proofs.Common.{rules}
use Rattle.axe_word.proofs.word.Word.zero.Goals as goal

pub invariant_of-result : goal.invariant_of-result
invariant_of-result c = search rules
