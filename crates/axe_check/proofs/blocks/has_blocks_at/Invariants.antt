use Rattle.std.proofs.Common.{ℕ, ◌<◌}
use Rattle.axe_spin.specs.Modules.{generator_of}
use Rattle.axe_check.specs.Steps.{HasBlockAt}
use Rattle.axe_check.proofs.blocks.has_blocks_at.Given as goal

abbrev pub invariant-loop-index : goal.invariant-loop-index
invariant-loop-index l = (i : ℕ) → i < l.index → HasBlockAt (generator_of l.conjugates i) l.start (generator_of l.factor i)
