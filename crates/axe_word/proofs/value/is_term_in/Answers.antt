use Rattle.std.proofs.Common.{rules}
use Rattle.axe_word.proofs.value.is_term_in.Goals as goal

pub returns-then-is_element : goal.returns-then-is_element
returns-then-is_element c = search rules
