use Rattle.std.proofs.Common.{ℕ, ◌*◌, ◌++◌, List, length, ap, ◌∙◌, arith}
use Rattle.std.specs.List.{flat_map}
use Rattle.std.proofs.lemmas.List.{take_all}
use Rattle.axe_matrix.specs.Matrices.{MatrixValue}
use Rattle.axe_file.specs.Packed.{packed_rows}
use Rattle.axe_file.specs.PackedModules.{module_header, first_order, first_columns, packed_module}
use Rattle.axe_file.proofs.Scans.{data_by_layout}
use Rattle.axe_file.proofs.ModuleLayouts.{generator_fits, all_fit}
use Rattle.axe_file.proofs.module_writing.write_module.Goals as goal

pub overflow_mul-size : goal.overflow_mul-size
overflow_mul-size c =
    let layout = c.new-layout.result in
    omega (arith, data_by_layout layout layout.columns, generator_fits layout)

pub overflow_mul-size-2 : goal.overflow_mul-size-2
overflow_mul-size-2 c =
    let layout = c.new-layout.result in
    let g = length c.args.generators.now in
    omega (arith, ap (λ (n : ℕ). g * n) (data_by_layout layout layout.columns), all_fit layout g c.requires.few)

pub overflow_add-size : goal.overflow_add-size
overflow_add-size c =
    let layout = c.new-layout.result in
    let g = length c.args.generators.now in
    omega (arith, ap (λ (n : ℕ). g * n) (data_by_layout layout layout.columns), all_fit layout g c.requires.few)

pub returns-clause-spelling : goal.returns-clause-spelling
unfolding packed_module
returns-clause-spelling c =
    let matrices = c.args.generators.now in
    c.loop-generator.invariant.0
    ∙ ap (λ (first : List MatrixValue). module_header (first_order matrices) (length matrices) (first_columns matrices) ++ flat_map packed_rows first)
    (take_all c.loop-generator.generator-index matrices c.loop-generator-test.false)
