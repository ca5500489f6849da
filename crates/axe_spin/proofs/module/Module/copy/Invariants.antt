use Rattle.std.proofs.Common.{◌≡◌, take}
use Rattle.axe_spin.proofs.module.Module.copy.Given as goal

abbrev pub invariant-loop-generator : goal.invariant-loop-generator
invariant-loop-generator l = l.generators.items ≡ take l.generator-index l.self-inside.generators.items
