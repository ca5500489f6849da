use Rattle.std.proofs.Common.{refl, sym, subst}
use Rattle.axe_report.specs.declared.report.ReportHeader.{ReportHeader}
use Rattle.axe_chop.specs.Reported.{IsFoundUnder}
use Rattle.axe_module_tests.proofs.chops.text_under_header.Goals as goal

pub report_under-requires-clause-found : goal.report_under-requires-clause-found
report_under-requires-clause-found c =
    subst (λ (header : ReportHeader). IsFoundUnder header c.args.chopped.now) (sym c.header_of-header.ensures.header) (record {
      m = c.args.module.now;
      is_module = c.header_of-header.ensures.well_formed;
      header_is = refl;
      chopped_is = c.requires;
    })

pub report_under-requires-clause-relations : goal.report_under-requires-clause-relations
report_under-requires-clause-relations c = c.header_of-header.ensures.relations
