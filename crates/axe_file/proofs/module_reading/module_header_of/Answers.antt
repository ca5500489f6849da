use Rattle.std.proofs.Common.{◌≡◌, true, false, sym, ◌∙◌}
use Rattle.std.proofs.lemmas.Result.{err_from_is_err_and}
use Rattle.axe_matrix.specs.Limits.{most_rows}
use Rattle.axe_file.specs.Limits.{most_generators}
use Rattle.axe_file.specs.Packed.{is_out_of_range}
use Rattle.axe_file.specs.PackedModules.{header_generators, header_dimension}
use Rattle.axe_file.proofs.Soundness.{sound_beginning, in_range}
use Rattle.axe_file.proofs.ModuleHeaders.{fault_in_module_beginning, bad_generators, bad_module_reserved, bad_dimension, module_header_is_sound}
use Rattle.axe_file.proofs.module_reading.module_header_of.Goals as goal

pub returns-in_err-field-clause-fault : goal.returns-in_err-field-clause-fault
returns-in_err-field-clause-fault c =
    let p = err_from_is_err_and c.from_residual.result c.from_residual.ensures.1 in
    rw (p.1, p.2) (fault_in_module_beginning c.args.bytes.now _ c.in_err-field.ensures.fault)

pub returns-then-is_out_of_range-clause-fault : goal.returns-then-is_out_of_range-clause-fault
unfolding header_generators
returns-then-is_out_of_range-clause-fault c =
    let bad : is_out_of_range most_generators (header_generators c.args.bytes.now) ≡ true =
    rw (← c.from-generators.ensures) (sym c.is_out_of_range.ensures ∙ c.if-is_out_of_range.true) in
    bad_generators c.args.bytes.now c.in_ok-field.ensures.faultless bad

pub returns-then-has_reserved-clause-fault : goal.returns-then-has_reserved-clause-fault
unfolding header_generators
returns-then-has_reserved-clause-fault c =
    let count : is_out_of_range most_generators (header_generators c.args.bytes.now) ≡ false =
    rw (← c.from-generators.ensures) (sym c.is_out_of_range.ensures ∙ c.if-is_out_of_range.false) in
    bad_module_reserved c.args.bytes.now c.in_ok-field.ensures.faultless count (sym c.has_reserved.ensures ∙ c.if-has_reserved.true)

pub returns-then-is_out_of_range-2-clause-fault : goal.returns-then-is_out_of_range-2-clause-fault
unfolding header_generators header_dimension
returns-then-is_out_of_range-2-clause-fault c =
    let count : is_out_of_range most_generators (header_generators c.args.bytes.now) ≡ false =
    rw (← c.from-generators.ensures) (sym c.is_out_of_range.ensures ∙ c.if-is_out_of_range.false) in
    let bad : is_out_of_range most_rows (header_dimension c.args.bytes.now) ≡ true =
    rw (← c.number_at-dimension.ensures) (sym c.is_out_of_range-2.ensures ∙ c.if-is_out_of_range-2.true) in
    bad_dimension c.args.bytes.now c.in_ok-field.ensures.faultless count (sym c.has_reserved.ensures ∙ c.if-has_reserved.false) bad

pub returns-clause-faultless : goal.returns-clause-faultless
unfolding header_generators header_dimension
returns-clause-faultless c =
    let count : is_out_of_range most_generators (header_generators c.args.bytes.now) ≡ false =
    rw (← c.from-generators.ensures) (sym c.is_out_of_range.ensures ∙ c.if-is_out_of_range.false) in
    let dimension : is_out_of_range most_rows (header_dimension c.args.bytes.now) ≡ false =
    rw (← c.number_at-dimension.ensures) (sym c.is_out_of_range-2.ensures ∙ c.if-is_out_of_range-2.false) in
    let generators = in_range (header_generators c.args.bytes.now) most_generators count in
    let rows = in_range (header_dimension c.args.bytes.now) most_rows dimension in
    module_header_is_sound c.args.bytes.now (record {
      begun = sound_beginning _ c.args.bytes.now c.in_ok-field.ensures.faultless;
      some = generators.0;
      few = generators.1;
      reserved = sym c.has_reserved.ensures ∙ c.if-has_reserved.false;
      some_dimension = rows.0;
      dimension_fits = rows.1;
    })

pub new-requires : goal.new-requires
new-requires c = (in_range c.number_at-dimension.result most_rows (sym c.is_out_of_range-2.ensures ∙ c.if-is_out_of_range-2.false)).1

pub returns-clause-says : goal.returns-clause-says
unfolding header_generators header_dimension
returns-clause-says c = record {
  order = c.in_ok-field.ensures.names ∙ sym c.new.ensures.field;
  count = sym c.from-generators.ensures;
  dimension = sym c.number_at-dimension.ensures ∙ sym c.new.ensures.columns;
}
