use Rattle.std.proofs.Common.{◌∙◌}
use Rattle.std.proofs.lemmas.List.Elements.{same_from_all_zip}
use Rattle.axe_chop.proofs.SeriesReports.{reported, reported_is_report}
use Rattle.axe_chop.proofs.reported.report_under.Goals as goal

pub new-requires : goal.new-requires
new-requires c =
    reported_is_report c.args.header c.args.chopped.now c.requires.found c.in_ok-factors.factors.items c.in_ok-series.series.items
    c.in_ok-factors.ensures (same_from_all_zip _ _ _ c.in_ok-series.ensures.cases.0 (λ x y same. same)) c.requires.relations

pub returns-clause-report : goal.returns-clause-report
returns-clause-report c =
    c.new.ensures
    ∙ reported c.args.header c.args.chopped.now c.requires.found c.in_ok-factors.factors.items c.in_ok-series.series.items
    c.in_ok-factors.ensures (same_from_all_zip _ _ _ c.in_ok-series.ensures.cases.0 (λ x y same. same))
