use Rattle.std.proofs.Common.{rules}
use Rattle.axe_action.proofs.blocks.is_next_pivot.Goals as goal

pub returns-then-taken-pivots : goal.returns-then-taken-pivots
returns-then-taken-pivots c = search rules

pub returns-else-taken-pivots : goal.returns-else-taken-pivots
returns-else-taken-pivots c = search rules
