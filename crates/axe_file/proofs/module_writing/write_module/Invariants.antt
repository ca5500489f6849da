use Rattle.std.proofs.Common.{◌≡◌, ◌+◌, ◌++◌, length, take}
use Rattle.std.specs.List.{flat_map}
use Rattle.axe_file.specs.Packed.{packed_rows}
use Rattle.axe_file.specs.PackedModules.{module_header, first_order, first_columns}
use Rattle.axe_file.proofs.module_writing.write_module.Given as goal

abbrev pub invariant-loop-generator : goal.invariant-loop-generator
invariant-loop-generator l =
    (l.bytes.items ≡ module_header (first_order l.generators) (length l.generators) (first_columns l.generators) ++ flat_map packed_rows
    (take l.generator-index l.generators))
    × (length l.room.items ≡ l.layout.columns + l.layout.width)
