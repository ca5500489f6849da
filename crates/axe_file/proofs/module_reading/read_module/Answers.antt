use Rattle.std.proofs.Common.{◌≡◌, ◌*◌, ◌<◌, All, sym, ap, ◌∙◌, subst, arith}
use Rattle.std.specs.Prelude.{slice_get}
use Rattle.std.proofs.lemmas.Result.{err_from_is_err_and, IfOk-weaker}
use Rattle.std.proofs.lemmas.List.Elements.{All-from_get_or}
use Rattle.axe_algebra.specs.Lists.{listed}
use Rattle.axe_file.specs.Packed.{header_length, data_length}
use Rattle.axe_file.specs.PackedModules.{AreGenerators, packed_module, generator_at, module_fault, unpacked_module}
use Rattle.axe_file.proofs.Soundness.{sound_data}
use Rattle.axe_file.proofs.Checks.{answers_fault, answers_value}
use Rattle.axe_file.proofs.ModuleLayouts.{all_faults}
use Rattle.axe_file.proofs.ModuleHeaders.{sound_module_header}
use Rattle.axe_file.proofs.ModuleSpellings.{some_dimension, faultless_module, fault_in_module_header, fault_in_module_data, module_said, respelled_module, unpacked_generators, answers_module}
use Rattle.axe_file.proofs.module_reading.read_module.Goals as goal

pub returns-in_err-shape-clause-fault : goal.returns-in_err-shape-clause-fault
returns-in_err-shape-clause-fault c =
    let p = err_from_is_err_and c.from_residual.result c.from_residual.ensures.1 in
    answers_fault (module_fault c.args.bytes.now) (λ read. read.items ≡ unpacked_module c.args.bytes.now) c.from_residual.result p.0
    (rw p.2 (fault_in_module_header c.args.bytes.now _ c.in_err-shape.ensures.fault)) p.1

pub returns-in_err-shape-clause-only : goal.returns-in_err-shape-clause-only
returns-in_err-shape-clause-only c a h e =
    answers_module (λ read. read.items) c.args.bytes.now a c.from_residual.result h e (returns-in_err-shape-clause-fault c)

pub check_data-requires-clause-some_column : goal.check_data-requires-clause-some_column
check_data-requires-clause-some_column c =
    let shape = c.in_ok-shape.shape in
    rw c.all.ensures.layout (some_dimension c.args.bytes.now shape.layout.field shape.generators shape.layout.columns c.in_ok-shape.ensures.says
    c.in_ok-shape.ensures.faultless)

pub check_data-requires-clause-begun : goal.check_data-requires-clause-begun
check_data-requires-clause-begun c = (sound_module_header c.args.bytes.now c.in_ok-shape.ensures.faultless).begun.long

pub returns-in_err-check_data-clause-fault : goal.returns-in_err-check_data-clause-fault
returns-in_err-check_data-clause-fault c =
    let p = err_from_is_err_and c.from_residual-in_err-check_data.result c.from_residual-in_err-check_data.ensures.1 in
    let shape = c.in_ok-shape.shape in
    let all = all_faults shape.layout c.all.result.layout c.all.result.rows shape.generators c.args.bytes.now c.all.ensures.layout c.all.ensures.rows in
    answers_fault (module_fault c.args.bytes.now) (λ read. read.items ≡ unpacked_module c.args.bytes.now) c.from_residual-in_err-check_data.result p.0
    (rw p.2 (fault_in_module_data c.args.bytes.now shape.layout.field shape.generators shape.layout.columns _ c.in_ok-shape.ensures.says
    c.in_ok-shape.ensures.faultless (ap (λ faults. slice_get faults 0) (sym all) ∙ c.in_err-check_data.ensures.fault))) p.1

pub returns-in_err-check_data-clause-only : goal.returns-in_err-check_data-clause-only
returns-in_err-check_data-clause-only c a h e =
    answers_module (λ read. read.items) c.args.bytes.now a c.from_residual-in_err-check_data.result h e (returns-in_err-check_data-clause-fault c)

pub generators_of-requires-clause-some_column : goal.generators_of-requires-clause-some_column
generators_of-requires-clause-some_column c =
    let shape = c.in_ok-shape.shape in
    some_dimension c.args.bytes.now shape.layout.field shape.generators shape.layout.columns c.in_ok-shape.ensures.says c.in_ok-shape.ensures.faultless

pub generators_of-requires-clause-inside : goal.generators_of-requires-clause-inside
unfolding data_length
generators_of-requires-clause-inside c =
    let shape = c.in_ok-shape.shape in
    let all = all_faults shape.layout c.all.result.layout c.all.result.rows shape.generators c.args.bytes.now c.all.ensures.layout c.all.ensures.rows in
    let sound =
    sound_data shape.layout.field (shape.generators * shape.layout.columns) shape.layout.columns c.args.bytes.now header_length
    (sym all ∙ c.in_ok-check_data.ensures.faultless) in
    omega (arith, sound.whole)

pub returns-clause-value : goal.returns-clause-value
returns-clause-value c =
    let shape = c.in_ok-shape.shape in
    let generator = generator_at shape.layout.field shape.layout.columns c.args.bytes.now header_length in
    let said = module_said c.args.bytes.now shape.layout.field shape.generators shape.layout.columns c.in_ok-shape.ensures.says in
    IfOk-weaker c.generators_of.result (λ read. read.items ≡ listed shape.generators generator) (λ read. read.items ≡ unpacked_module c.args.bytes.now)
    (λ read e. e ∙ sym said) c.generators_of.ensures.value

pub returns-clause-fault : goal.returns-clause-fault
returns-clause-fault c =
    let shape = c.in_ok-shape.shape in
    let faultless =
    faultless_module c.args.bytes.now shape.layout c.all.result.layout c.all.result.rows shape.generators c.in_ok-shape.ensures.says
    c.in_ok-shape.ensures.faultless c.all.ensures.layout c.all.ensures.rows c.in_ok-check_data.ensures.faultless in
    answers_value (module_fault c.args.bytes.now) (λ read. read.items ≡ unpacked_module c.args.bytes.now) c.generators_of.result faultless
    (returns-clause-value c) c.generators_of.ensures.memory

pub returns-clause-spelling : goal.returns-clause-spelling
returns-clause-spelling c =
    let shape = c.in_ok-shape.shape in
    let faultless =
    faultless_module c.args.bytes.now shape.layout c.all.result.layout c.all.result.rows shape.generators c.in_ok-shape.ensures.says
    c.in_ok-shape.ensures.faultless c.all.ensures.layout c.all.ensures.rows c.in_ok-check_data.ensures.faultless in
    let fits : All (λ byte. byte < 256) c.args.bytes.now =
    All-from_get_or (λ byte. byte < 256) c.args.bytes.now 0 (λ i lt. omega (arith, c.type_inv.bytes i)) in
    let again = respelled_module c.args.bytes.now fits faultless in
    IfOk-weaker c.generators_of.result (λ read. read.items ≡ unpacked_module c.args.bytes.now) (λ read. c.args.bytes.now ≡ packed_module read.items)
    (λ read e. again ∙ ap packed_module (sym e)) (returns-clause-value c)

pub returns-clause-only : goal.returns-clause-only
returns-clause-only c a h e =
    answers_module (λ read. read.items) c.args.bytes.now a c.generators_of.result h e (returns-clause-fault c)

pub returns-clause-module : goal.returns-clause-module
returns-clause-module c =
    let module_is = unpacked_generators c.args.bytes.now (sound_module_header c.args.bytes.now c.in_ok-shape.ensures.faultless) in
    IfOk-weaker c.generators_of.result (λ read. read.items ≡ unpacked_module c.args.bytes.now) (λ read. AreGenerators read.items)
    (λ read e. subst AreGenerators (sym e) module_is) (returns-clause-value c)
