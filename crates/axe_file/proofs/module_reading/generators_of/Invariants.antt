use Rattle.std.proofs.Common.{◌≡◌}
use Rattle.axe_algebra.specs.Lists.{listed}
use Rattle.axe_file.specs.PackedModules.{generator_at}
use Rattle.axe_file.proofs.module_reading.generators_of.Given as goal

abbrev pub invariant-loop-index : goal.invariant-loop-index
invariant-loop-index l =
    l.generators.items ≡ listed l.index (generator_at l.shape.layout.field l.shape.layout.columns l.bytes l.offset)
