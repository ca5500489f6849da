use Rattle.std.proofs.Common.{IsTrue}
use Rattle.axe_echelon.proofs.Exits.{no_memory}
use Rattle.axe_norton.specs.Spaces.{LastGenerates}
use Rattle.axe_chop.specs.Kept.{acting_module, kept_section}
use Rattle.axe_chop.proofs.Cutting.{columns_within, columns_fit}
use Rattle.axe_chop.proofs.Cutting.{IsOpened, IsSplit, proper_here, lift_field, lift_fits, cut_at, sub_kept, quotient_kept, parts_kept}
use Rattle.axe_chop.proofs.LastVectors.{last_of_found}
use Rattle.axe_chop.proofs.section.Section.cut.Goals as goal

pub split-requires : goal.split-requires
split-requires c =
    let opened : IsOpened (kept_section c.self.inside.action c.self.inside.rows) c.args.self c.args.space =
    record { same = c.self.view_is; is_section = c.self.invariant.section; proper = c.requires.space } in
    proper_here (kept_section c.self.inside.action c.self.inside.rows) c.args.self c.args.space opened

pub cut-requires : goal.cut-requires
cut-requires c =
    let opened : IsOpened (kept_section c.self.inside.action c.self.inside.rows) c.args.self c.args.space =
    record { same = c.self.view_is; is_section = c.self.invariant.section; proper = c.requires.space } in (
      acting_module c.self.inside.action,
      c.self.inside.seed,
      c.self.invariant.is_known,
      proper_here (kept_section c.self.inside.action c.self.inside.rows) c.args.self c.args.space opened,
    )

pub cut-requires-2-clause-field : goal.cut-requires-2-clause-field
cut-requires-2-clause-field c =
    let opened : IsOpened (kept_section c.self.inside.action c.self.inside.rows) c.args.self c.args.space =
    record { same = c.self.view_is; is_section = c.self.invariant.section; proper = c.requires.space } in
    lift_field (kept_section c.self.inside.action c.self.inside.rows) c.args.self c.args.space opened

pub cut-requires-2-clause-fits : goal.cut-requires-2-clause-fits
cut-requires-2-clause-fits c =
    let opened : IsOpened (kept_section c.self.inside.action c.self.inside.rows) c.args.self c.args.space =
    record { same = c.self.view_is; is_section = c.self.invariant.section; proper = c.requires.space } in
    lift_fits (kept_section c.self.inside.action c.self.inside.rows) c.args.self c.args.space opened

pub cut-requires-2-clause-within : goal.cut-requires-2-clause-within
cut-requires-2-clause-within c =
    let opened : IsOpened (kept_section c.self.inside.action c.self.inside.rows) c.args.self c.args.space =
    record { same = c.self.view_is; is_section = c.self.invariant.section; proper = c.requires.space } in
    columns_within (kept_section c.self.inside.action c.self.inside.rows) c.args.space c.in_ok-sub.field-0.columns.items
    (cut_at (kept_section c.self.inside.action c.self.inside.rows) c.args.self c.args.space opened c.in_ok-sub.field-0.columns.items c.in_ok-sub.ensures.columns)

pub cut-requires-2-clause-places_fit : goal.cut-requires-2-clause-places_fit
cut-requires-2-clause-places_fit c =
    let opened : IsOpened (kept_section c.self.inside.action c.self.inside.rows) c.args.self c.args.space =
    record { same = c.self.view_is; is_section = c.self.invariant.section; proper = c.requires.space } in
    columns_fit (kept_section c.self.inside.action c.self.inside.rows) c.args.space c.in_ok-sub.field-0.columns.items
    (cut_at (kept_section c.self.inside.action c.self.inside.rows) c.args.self c.args.space opened c.in_ok-sub.field-0.columns.items c.in_ok-sub.ensures.columns)

pub invariant_of-result : goal.invariant_of-result
invariant_of-result c =
    let opened : IsOpened (kept_section c.self.inside.action c.self.inside.rows) c.args.self c.args.space =
    record { same = c.self.view_is; is_section = c.self.invariant.section; proper = c.requires.space } in
    let split : IsSplit (acting_module c.self.inside.action) c.args.space c.in_ok-sub.field-0.sub c.in_ok-sub.field-0.quotient
    c.in_ok-sub.field-0.columns.items = record {
      acts = c.in_ok-sub.ensures.sub;
      modulo = c.in_ok-sub.ensures.quotient;
      free = c.in_ok-sub.ensures.columns;
      sub_module = c.in_ok-sub.ensures.well_formed.0;
      quotient_module = c.in_ok-sub.ensures.well_formed.1;
    } in
    let last : IsTrue c.is_last_of-quotient_last.result → LastGenerates c.in_ok-sub.field-0.quotient =
    λ said. last_of_found (kept_section c.self.inside.action c.self.inside.rows) c.args.self c.args.space opened
    c.in_ok-sub.field-0.columns.items c.in_ok-sub.ensures.columns c.requires.decided c.cols.result c.cols.ensures.count
    c.deref.result.now c.deref.ensures.value (c.is_last_of-quotient_last.ensures.0 said) c.in_ok-sub.field-0.quotient c.in_ok-sub.ensures.quotient in
    record {
      section = sub_kept (kept_section c.self.inside.action c.self.inside.rows) c.args.self c.args.space opened
          c.in_ok-sub.field-0.sub c.in_ok-sub.field-0.quotient c.in_ok-sub.field-0.columns.items split c.in_ok-sub_rows.sub_rows
          c.in_ok-sub_rows.quotient_rows c.in_ok-sub_rows.ensures.lifted c.in_ok-sub_rows.ensures.chosen c.in_ok-sub_rows.ensures.well_formed;
      is_known = (c.in_ok-sub_known.ensures (acting_module c.self.inside.action) c.in_ok-sub.field-0.sub c.in_ok-sub.field-0.quotient
          c.self.inside.seed c.self.invariant.is_known
          (proper_here (kept_section c.self.inside.action c.self.inside.rows) c.args.self c.args.space opened)
          c.in_ok-sub.ensures.sub c.in_ok-sub.ensures.quotient last).0;
    }

pub invariant_of-result-2 : goal.invariant_of-result-2
invariant_of-result-2 c =
    let opened : IsOpened (kept_section c.self.inside.action c.self.inside.rows) c.args.self c.args.space =
    record { same = c.self.view_is; is_section = c.self.invariant.section; proper = c.requires.space } in
    let split : IsSplit (acting_module c.self.inside.action) c.args.space c.in_ok-sub.field-0.sub c.in_ok-sub.field-0.quotient
    c.in_ok-sub.field-0.columns.items = record {
      acts = c.in_ok-sub.ensures.sub;
      modulo = c.in_ok-sub.ensures.quotient;
      free = c.in_ok-sub.ensures.columns;
      sub_module = c.in_ok-sub.ensures.well_formed.0;
      quotient_module = c.in_ok-sub.ensures.well_formed.1;
    } in
    let last : IsTrue c.is_last_of-quotient_last.result → LastGenerates c.in_ok-sub.field-0.quotient =
    λ said. last_of_found (kept_section c.self.inside.action c.self.inside.rows) c.args.self c.args.space opened
    c.in_ok-sub.field-0.columns.items c.in_ok-sub.ensures.columns c.requires.decided c.cols.result c.cols.ensures.count
    c.deref.result.now c.deref.ensures.value (c.is_last_of-quotient_last.ensures.0 said) c.in_ok-sub.field-0.quotient c.in_ok-sub.ensures.quotient in
    record {
      section = quotient_kept (kept_section c.self.inside.action c.self.inside.rows) c.args.self c.args.space opened
          c.in_ok-sub.field-0.sub c.in_ok-sub.field-0.quotient c.in_ok-sub.field-0.columns.items split c.in_ok-sub_rows.sub_rows
          c.in_ok-sub_rows.quotient_rows c.in_ok-sub_rows.ensures.lifted c.in_ok-sub_rows.ensures.chosen c.in_ok-sub_rows.ensures.well_formed;
      is_known = (c.in_ok-sub_known.ensures (acting_module c.self.inside.action) c.in_ok-sub.field-0.sub c.in_ok-sub.field-0.quotient
          c.self.inside.seed c.self.invariant.is_known
          (proper_here (kept_section c.self.inside.action c.self.inside.rows) c.args.self c.args.space opened)
          c.in_ok-sub.ensures.sub c.in_ok-sub.ensures.quotient last).1;
    }

pub returns : goal.returns
returns c =
    let opened : IsOpened (kept_section c.self.inside.action c.self.inside.rows) c.args.self c.args.space =
    record { same = c.self.view_is; is_section = c.self.invariant.section; proper = c.requires.space } in
    let split : IsSplit (acting_module c.self.inside.action) c.args.space c.in_ok-sub.field-0.sub c.in_ok-sub.field-0.quotient
    c.in_ok-sub.field-0.columns.items = record {
      acts = c.in_ok-sub.ensures.sub;
      modulo = c.in_ok-sub.ensures.quotient;
      free = c.in_ok-sub.ensures.columns;
      sub_module = c.in_ok-sub.ensures.well_formed.0;
      quotient_module = c.in_ok-sub.ensures.well_formed.1;
    } in
    parts_kept (kept_section c.self.inside.action c.self.inside.rows) c.args.self c.args.space opened
    c.in_ok-sub.field-0.sub c.in_ok-sub.field-0.quotient c.in_ok-sub.field-0.columns.items split c.in_ok-sub_rows.sub_rows
    c.in_ok-sub_rows.quotient_rows c.in_ok-sub_rows.ensures.lifted c.in_ok-sub_rows.ensures.chosen c.in_ok-sub_rows.ensures.well_formed

pub returns-in_err-sub : goal.returns-in_err-sub
returns-in_err-sub c =
    no_memory _ c.from_residual.result _ c.from_residual.ensures.1 c.in_err-sub.ensures.sub

pub returns-in_err-sub_known : goal.returns-in_err-sub_known
returns-in_err-sub_known c =
    let opened : IsOpened (kept_section c.self.inside.action c.self.inside.rows) c.args.self c.args.space =
    record { same = c.self.view_is; is_section = c.self.invariant.section; proper = c.requires.space } in
    let last : IsTrue c.is_last_of-quotient_last.result → LastGenerates c.in_ok-sub.field-0.quotient =
    λ said. last_of_found (kept_section c.self.inside.action c.self.inside.rows) c.args.self c.args.space opened
    c.in_ok-sub.field-0.columns.items c.in_ok-sub.ensures.columns c.requires.decided c.cols.result c.cols.ensures.count
    c.deref.result.now c.deref.ensures.value (c.is_last_of-quotient_last.ensures.0 said) c.in_ok-sub.field-0.quotient c.in_ok-sub.ensures.quotient in
    no_memory _ c.from_residual-in_err-sub_known.result _ c.from_residual-in_err-sub_known.ensures.1
    (c.in_err-sub_known.ensures (acting_module c.self.inside.action) c.in_ok-sub.field-0.sub c.in_ok-sub.field-0.quotient
    c.self.inside.seed c.self.invariant.is_known
    (proper_here (kept_section c.self.inside.action c.self.inside.rows) c.args.self c.args.space opened)
    c.in_ok-sub.ensures.sub c.in_ok-sub.ensures.quotient last)

pub returns-in_err-sub_rows : goal.returns-in_err-sub_rows
returns-in_err-sub_rows c =
    no_memory _ c.from_residual-in_err-sub_rows.result _ c.from_residual-in_err-sub_rows.ensures.1 c.in_err-sub_rows.ensures.lifted
