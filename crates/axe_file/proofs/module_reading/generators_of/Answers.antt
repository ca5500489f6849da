use Rattle.std.proofs.Common.{ℕ, ◌*◌, [], ap, ◌∙◌, arith}
use Rattle.axe_file.specs.Packed.{data_length}
use Rattle.axe_file.specs.PackedModules.{generator_at}
use Rattle.axe_file.proofs.Lists.{listed_more}
use Rattle.axe_file.proofs.Scans.{rows_before, data_by_layout}
use Rattle.axe_file.proofs.ModuleLayouts.{generator_fits, generator_size, generator_read}
use Rattle.axe_file.proofs.module_reading.generators_of.Goals as goal

pub overflow_mul-size : goal.overflow_mul-size
overflow_mul-size c =
    let layout = c.args.shape.now.layout in
    omega (arith, generator_size layout c.one-one.result.layout c.one-one.result.rows c.one-one.ensures.layout c.one-one.ensures.rows, generator_fits layout)

pub overflow_mul-index : goal.overflow_mul-index
overflow_mul-index c =
    let layout = c.args.shape.now.layout in
    let i = c.loop-index.index in
    let size = generator_size layout c.one-one.result.layout c.one-one.result.rows c.one-one.ensures.layout c.one-one.ensures.rows in
    let before = rows_before i c.args.shape.now.generators (data_length layout.field layout.columns layout.columns) c.loop-index-test.true in
    omega (arith, before, ap (λ (n : ℕ). i * n) size, c.requires.inside)

pub overflow_add-offset : goal.overflow_add-offset
overflow_add-offset c =
    let layout = c.args.shape.now.layout in
    let i = c.loop-index.index in
    let size = generator_size layout c.one-one.result.layout c.one-one.result.rows c.one-one.ensures.layout c.one-one.ensures.rows in
    let before = rows_before i c.args.shape.now.generators (data_length layout.field layout.columns layout.columns) c.loop-index-test.true in
    omega (arith, before, ap (λ (n : ℕ). i * n) size, c.requires.inside)

pub matrix_of-requires-clause-inside : goal.matrix_of-requires-clause-inside
matrix_of-requires-clause-inside c =
    let layout = c.args.shape.now.layout in
    let one = c.one-one.result in
    let i = c.loop-index.index in
    let size = generator_size layout one.layout one.rows c.one-one.ensures.layout c.one-one.ensures.rows in
    let before = rows_before i c.args.shape.now.generators (data_length layout.field layout.columns layout.columns) c.loop-index-test.true in
    omega (arith, before, size, ap (λ (n : ℕ). i * n) size, data_by_layout one.layout one.rows, c.requires.inside)

pub loop-index-preserved : goal.loop-index-preserved
loop-index-preserved c =
    let layout = c.args.shape.now.layout in
    let one = c.one-one.result in
    let read = generator_read layout one.layout one.rows c.one-one.ensures.layout c.one-one.ensures.rows c.args.bytes.now c.args.offset c.loop-index.index in
    listed_more [] c.loop-index.generators.items c.push.new.self.items (generator_at layout.field layout.columns c.args.bytes.now c.args.offset)
    c.loop-index.index
    c.in_ok-generator.generator c.loop-index.invariant (c.in_ok-generator.ensures.value ∙ read) c.in_ok-push.ensures.items
