use Rattle.std.proofs.Common.{◌≡◌, refl, sym, subst, IfOk}
use Rattle.axe_report.specs.Reports.{ReportValue}
use Rattle.axe_report.specs.declared.report.ReportHeader.{ReportHeader}
use Rattle.axe_chop.specs.Answers.{factor_modules}
use Rattle.axe_chop.specs.Reported.{series_report, IsFoundUnder, factor_witnesses}
use Rattle.axe_chop.proofs.reported.report_of.Goals as goal

pub report_under-requires-clause-found : goal.report_under-requires-clause-found
report_under-requires-clause-found c =
    subst (λ (header : ReportHeader). IsFoundUnder header c.args.chopped.now) (sym c.header_of.ensures.header) (record {
      m = c.args.module.now;
      is_module = c.header_of.ensures.well_formed;
      header_is = refl;
      chopped_is = c.requires.chopped;
    })

pub report_under-requires-clause-relations : goal.report_under-requires-clause-relations
report_under-requires-clause-relations c = c.header_of.ensures.relations

pub returns-clause-report : goal.returns-clause-report
returns-clause-report c =
    subst (λ (header : ReportHeader). IfOk c.report_under.result (λ (report : ReportValue). report
    ≡ series_report header (factor_modules c.args.chopped.now) (factor_witnesses c.args.chopped.now) c.args.chopped.now.series.items))
    c.header_of.ensures.header c.report_under.ensures.report
