use Rattle.std.proofs.Common.{List, sym, ap, subst, ◌∙◌}
use Rattle.std.specs.Prelude.{⊤}
use Rattle.axe_spin.specs.Modules.{ModuleValue}
use Rattle.axe_iso.specs.Forms.{FormValue}
use Rattle.axe_report.specs.declared.report.ReportHeader.{ReportHeader}
use Rattle.std.specs.declared.alloc.Global.{Global}
use Rattle.std.specs.declared.vec.Vec.{Vec}
use Rattle.axe_check.specs.Certificates.{certificate}
use Rattle.axe_check.specs.Reasons.{IsFirstReason}
use Rattle.axe_check.specs.Steps.{HasAllBlocks, IsBlockReason, AreSeenAs, IsFirstUnseenReason}
use Rattle.axe_check.proofs.StepLaws.{stopped}
use Rattle.axe_check.proofs.StepsOfCheck.{IsBegun, sizes_read, places_read, like_read, blocks_stopped, blocks_passed, count_read, fields_read, witnesses_read, words_stopped, like, are, pairs_ended}
use Rattle.axe_check.proofs.checking.check_steps.Goals as goal

pub check_blocks-requires-clause-sizes : goal.check_blocks-requires-clause-sizes
check_blocks-requires-clause-sizes c =
    let begun : IsBegun c.args.report.now c.args.module.now c.args.basis.now c.args.factors.now = record {
      is_report = c.factors.ensures.relations;
      is_module = c.in_ok-conjugates.ensures.module_well_formed;
      formed = c.in_ok-conjugates.ensures.basis_well_formed;
      count = c.requires.lists;
      header = c.in_ok-check_header.ensures;
      basis_is = c.in_ok-conjugates.ensures.conjugates.0;
    } in
    sizes_read c.args.report.now c.args.module.now c.args.basis.now c.args.factors.now begun c.factors.result.now c.in_ok-modules.modules.items c.deref.result.now c.factors.ensures.value
    c.deref.ensures.value c.in_ok-modules.ensures.shaped c.in_ok-modules.ensures.well_formed
    c.in_ok-conjugates.conjugates c.in_ok-conjugates.ensures.conjugates.1 c.in_ok-conjugates.ensures.well_formed c.series.result.now c.series.ensures.value

pub check_blocks-requires-clause-places : goal.check_blocks-requires-clause-places
check_blocks-requires-clause-places c =
    let begun : IsBegun c.args.report.now c.args.module.now c.args.basis.now c.args.factors.now = record {
      is_report = c.factors.ensures.relations;
      is_module = c.in_ok-conjugates.ensures.module_well_formed;
      formed = c.in_ok-conjugates.ensures.basis_well_formed;
      count = c.requires.lists;
      header = c.in_ok-check_header.ensures;
      basis_is = c.in_ok-conjugates.ensures.conjugates.0;
    } in
    places_read c.args.report.now c.args.module.now c.args.basis.now c.args.factors.now begun c.factors.result.now c.in_ok-modules.modules.items c.deref.result.now c.factors.ensures.value
    c.deref.ensures.value c.in_ok-modules.ensures.shaped c.in_ok-modules.ensures.well_formed
    c.in_ok-conjugates.conjugates c.in_ok-conjugates.ensures.conjugates.1 c.in_ok-conjugates.ensures.well_formed c.series.result.now c.series.ensures.value

pub check_blocks-requires-clause-like : goal.check_blocks-requires-clause-like
check_blocks-requires-clause-like c =
    let begun : IsBegun c.args.report.now c.args.module.now c.args.basis.now c.args.factors.now = record {
      is_report = c.factors.ensures.relations;
      is_module = c.in_ok-conjugates.ensures.module_well_formed;
      formed = c.in_ok-conjugates.ensures.basis_well_formed;
      count = c.requires.lists;
      header = c.in_ok-check_header.ensures;
      basis_is = c.in_ok-conjugates.ensures.conjugates.0;
    } in
    like_read c.args.report.now c.args.module.now c.args.basis.now c.args.factors.now begun c.factors.result.now c.in_ok-modules.modules.items c.deref.result.now c.factors.ensures.value
    c.deref.ensures.value c.in_ok-modules.ensures.shaped c.in_ok-modules.ensures.well_formed
    c.in_ok-conjugates.conjugates c.in_ok-conjugates.ensures.conjugates.1 c.in_ok-conjugates.ensures.well_formed c.series.result.now c.series.ensures.value

pub returns-in_err-check_blocks : goal.returns-in_err-check_blocks
returns-in_err-check_blocks c =
    let begun : IsBegun c.args.report.now c.args.module.now c.args.basis.now c.args.factors.now = record {
      is_report = c.factors.ensures.relations;
      is_module = c.in_ok-conjugates.ensures.module_well_formed;
      formed = c.in_ok-conjugates.ensures.basis_well_formed;
      count = c.requires.lists;
      header = c.in_ok-check_header.ensures;
      basis_is = c.in_ok-conjugates.ensures.conjugates.0;
    } in
    stopped (λ (x : ⊤). HasAllBlocks c.in_ok-conjugates.conjugates c.deref.result.now c.series.result.now)
    (IsBlockReason c.in_ok-conjugates.conjugates c.deref.result.now c.series.result.now)
    (IsFirstReason (certificate c.args.report.now c.args.module.now c.args.basis.now c.args.factors.now)) _
    c.from_residual-in_err-check_blocks.result c.in_err-check_blocks.field-0.0 c.from_residual-in_err-check_blocks.ensures.1 c.in_err-check_blocks.ensures
    (blocks_stopped c.args.report.now c.args.module.now c.args.basis.now c.args.factors.now begun c.factors.result.now c.in_ok-modules.modules.items c.deref.result.now c.factors.ensures.value
    c.deref.ensures.value c.in_ok-modules.ensures.shaped c.in_ok-modules.ensures.well_formed
    c.in_ok-conjugates.conjugates c.in_ok-conjugates.ensures.conjugates.1 c.in_ok-conjugates.ensures.well_formed c.series.result.now c.series.ensures.value)

pub seen_forms-requires-clause-count : goal.seen_forms-requires-clause-count
seen_forms-requires-clause-count c =
    let begun : IsBegun c.args.report.now c.args.module.now c.args.basis.now c.args.factors.now = record {
      is_report = c.factors.ensures.relations;
      is_module = c.in_ok-conjugates.ensures.module_well_formed;
      formed = c.in_ok-conjugates.ensures.basis_well_formed;
      count = c.requires.lists;
      header = c.in_ok-check_header.ensures;
      basis_is = c.in_ok-conjugates.ensures.conjugates.0;
    } in
    count_read c.args.report.now c.args.module.now c.args.basis.now c.args.factors.now begun c.factors.result.now c.in_ok-modules.modules.items c.deref-2.result.now c.factors.ensures.value
    c.deref-2.ensures.value c.in_ok-modules.ensures.shaped c.in_ok-modules.ensures.well_formed
    c.factors-2.result.now c.factors-2.ensures.value

pub seen_forms-requires-clause-fields : goal.seen_forms-requires-clause-fields
seen_forms-requires-clause-fields c =
    let begun : IsBegun c.args.report.now c.args.module.now c.args.basis.now c.args.factors.now = record {
      is_report = c.factors.ensures.relations;
      is_module = c.in_ok-conjugates.ensures.module_well_formed;
      formed = c.in_ok-conjugates.ensures.basis_well_formed;
      count = c.requires.lists;
      header = c.in_ok-check_header.ensures;
      basis_is = c.in_ok-conjugates.ensures.conjugates.0;
    } in
    fields_read c.args.report.now c.args.module.now c.args.basis.now c.args.factors.now begun c.factors.result.now c.in_ok-modules.modules.items c.deref-2.result.now c.factors.ensures.value
    c.deref-2.ensures.value c.in_ok-modules.ensures.shaped c.in_ok-modules.ensures.well_formed
    c.field.result.now c.field.ensures.order

pub seen_forms-requires-clause-witnesses : goal.seen_forms-requires-clause-witnesses
seen_forms-requires-clause-witnesses c =
    let begun : IsBegun c.args.report.now c.args.module.now c.args.basis.now c.args.factors.now = record {
      is_report = c.factors.ensures.relations;
      is_module = c.in_ok-conjugates.ensures.module_well_formed;
      formed = c.in_ok-conjugates.ensures.basis_well_formed;
      count = c.requires.lists;
      header = c.in_ok-check_header.ensures;
      basis_is = c.in_ok-conjugates.ensures.conjugates.0;
    } in
    witnesses_read c.args.report.now c.args.module.now c.args.basis.now c.args.factors.now begun c.factors.result.now c.in_ok-modules.modules.items c.deref-2.result.now c.factors.ensures.value
    c.deref-2.ensures.value c.in_ok-modules.ensures.shaped c.in_ok-modules.ensures.well_formed
    c.factors-2.result.now c.factors-2.ensures.value c.requires.version

pub returns-in_err-forms : goal.returns-in_err-forms
returns-in_err-forms c =
    let begun : IsBegun c.args.report.now c.args.module.now c.args.basis.now c.args.factors.now = record {
      is_report = c.factors.ensures.relations;
      is_module = c.in_ok-conjugates.ensures.module_well_formed;
      formed = c.in_ok-conjugates.ensures.basis_well_formed;
      count = c.requires.lists;
      header = c.in_ok-check_header.ensures;
      basis_is = c.in_ok-conjugates.ensures.conjugates.0;
    } in
    stopped (λ (forms : Vec FormValue Global). AreSeenAs c.deref-2.result.now c.header-seed.result.seed c.factors-2.result.now forms.items)
    (IsFirstUnseenReason c.deref-2.result.now c.header-seed.result.seed c.factors-2.result.now)
    (IsFirstReason (certificate c.args.report.now c.args.module.now c.args.basis.now c.args.factors.now)) _
    c.from_residual-in_err-forms.result c.in_err-forms.field-0.0 c.from_residual-in_err-forms.ensures.1 c.in_err-forms.ensures
    (words_stopped c.args.report.now c.args.module.now c.args.basis.now c.args.factors.now begun c.factors.result.now c.in_ok-modules.modules.items c.deref-2.result.now c.factors.ensures.value
    c.deref-2.ensures.value c.in_ok-modules.ensures.shaped c.in_ok-modules.ensures.well_formed
    (blocks_passed c.args.report.now c.args.module.now c.args.basis.now c.args.factors.now begun c.factors.result.now c.in_ok-modules.modules.items c.deref.result.now c.factors.ensures.value
    c.deref.ensures.value c.in_ok-modules.ensures.shaped c.in_ok-modules.ensures.well_formed
    c.in_ok-conjugates.conjugates c.in_ok-conjugates.ensures.conjugates.1 c.in_ok-conjugates.ensures.well_formed c.series.result.now c.series.ensures.value c.in_ok-check_blocks.ensures)
    c.header-seed.result.seed (ap (λ (h : ReportHeader). h.seed) c.header-seed.ensures.value) c.factors-2.result.now c.factors-2.ensures.value)

pub check_pairs-requires-clause-count : goal.check_pairs-requires-clause-count
check_pairs-requires-clause-count c =
    let begun : IsBegun c.args.report.now c.args.module.now c.args.basis.now c.args.factors.now = record {
      is_report = c.factors.ensures.relations;
      is_module = c.in_ok-conjugates.ensures.module_well_formed;
      formed = c.in_ok-conjugates.ensures.basis_well_formed;
      count = c.requires.lists;
      header = c.in_ok-check_header.ensures;
      basis_is = c.in_ok-conjugates.ensures.conjugates.0;
    } in
    sym (count_read c.args.report.now c.args.module.now c.args.basis.now c.args.factors.now begun c.factors.result.now c.in_ok-modules.modules.items c.deref-3.result.now c.factors.ensures.value
    c.deref-3.ensures.value c.in_ok-modules.ensures.shaped c.in_ok-modules.ensures.well_formed
    c.factors-3.result.now c.factors-3.ensures.value)

pub check_pairs-requires-clause-like : goal.check_pairs-requires-clause-like
check_pairs-requires-clause-like c =
    let begun : IsBegun c.args.report.now c.args.module.now c.args.basis.now c.args.factors.now = record {
      is_report = c.factors.ensures.relations;
      is_module = c.in_ok-conjugates.ensures.module_well_formed;
      formed = c.in_ok-conjugates.ensures.basis_well_formed;
      count = c.requires.lists;
      header = c.in_ok-check_header.ensures;
      basis_is = c.in_ok-conjugates.ensures.conjugates.0;
    } in
    like c.args.report.now c.args.module.now c.args.basis.now c.args.factors.now begun c.factors.result.now c.in_ok-modules.modules.items c.deref-3.result.now c.factors.ensures.value
    c.deref-3.ensures.value c.in_ok-modules.ensures.shaped c.in_ok-modules.ensures.well_formed

pub check_pairs-requires-clause-well_formed : goal.check_pairs-requires-clause-well_formed
check_pairs-requires-clause-well_formed c =
    let begun : IsBegun c.args.report.now c.args.module.now c.args.basis.now c.args.factors.now = record {
      is_report = c.factors.ensures.relations;
      is_module = c.in_ok-conjugates.ensures.module_well_formed;
      formed = c.in_ok-conjugates.ensures.basis_well_formed;
      count = c.requires.lists;
      header = c.in_ok-check_header.ensures;
      basis_is = c.in_ok-conjugates.ensures.conjugates.0;
    } in
    are c.args.report.now c.args.module.now c.args.basis.now c.args.factors.now begun c.factors.result.now c.in_ok-modules.modules.items c.deref-3.result.now c.factors.ensures.value
    c.deref-3.ensures.value c.in_ok-modules.ensures.shaped c.in_ok-modules.ensures.well_formed

pub returns : goal.returns
returns c =
    let begun : IsBegun c.args.report.now c.args.module.now c.args.basis.now c.args.factors.now = record {
      is_report = c.factors.ensures.relations;
      is_module = c.in_ok-conjugates.ensures.module_well_formed;
      formed = c.in_ok-conjugates.ensures.basis_well_formed;
      count = c.requires.lists;
      header = c.in_ok-check_header.ensures;
      basis_is = c.in_ok-conjugates.ensures.conjugates.0;
    } in
    pairs_ended c.args.report.now c.args.module.now c.args.basis.now c.args.factors.now begun c.factors.result.now c.in_ok-modules.modules.items c.deref-3.result.now c.factors.ensures.value
    c.deref-3.ensures.value c.in_ok-modules.ensures.shaped c.in_ok-modules.ensures.well_formed
    (blocks_passed c.args.report.now c.args.module.now c.args.basis.now c.args.factors.now begun c.factors.result.now c.in_ok-modules.modules.items c.deref.result.now c.factors.ensures.value
    c.deref.ensures.value c.in_ok-modules.ensures.shaped c.in_ok-modules.ensures.well_formed
    c.in_ok-conjugates.conjugates c.in_ok-conjugates.ensures.conjugates.1 c.in_ok-conjugates.ensures.well_formed c.series.result.now c.series.ensures.value c.in_ok-check_blocks.ensures)
    c.header-seed.result.seed (ap (λ (h : ReportHeader). h.seed) c.header-seed.ensures.value) c.factors-2.result.now c.factors-2.ensures.value c.in_ok-forms.forms.items
    (subst (λ (read : List ModuleValue). AreSeenAs read c.header-seed.result.seed c.factors-2.result.now c.in_ok-forms.forms.items)
    (c.deref-2.ensures.value ∙ sym c.deref-3.ensures.value) c.in_ok-forms.ensures)
    c.factors-3.result.now c.factors-3.ensures.value c.check_pairs.result c.check_pairs.ensures
