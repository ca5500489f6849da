use Rattle.std.proofs.Common.{arith, sym, subst}
use Rattle.axe_report.specs.Reports.{IsReportHeader}
use Rattle.axe_report.specs.declared.report.Version.TheVariants.{Two}
use Rattle.axe_chop.proofs.SeriesReports.{header_fits}
use Rattle.axe_chop.proofs.reported.header_of.Goals as goal

pub returns-clause-header : goal.returns-clause-header
returns-clause-header c = λ i. record {
  version = Two;
  field = c.field.ensures.order i;
  dim = c.dim.ensures.count i;
  gens = c.gens.ensures.count i;
  seed = c.args.seed;
  words = c.args.words;
}

pub returns-clause-relations : goal.returns-clause-relations
returns-clause-relations c =
    subst IsReportHeader (sym (λ i. record {
      version = Two;
      field = c.field.ensures.order i;
      dim = c.dim.ensures.count i;
      gens = c.gens.ensures.count i;
      seed = c.args.seed;
      words = c.args.words;
    })) (header_fits c.args.module.now c.args.seed c.args.words c.dim.ensures.well_formed (omega (arith, c.ranges.seed.fits))
    (omega (arith, c.requires)))
