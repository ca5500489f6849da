use Rattle.std.proofs.Common.{ap, sym, Ok}
use Rattle.axe_chop.specs.Answers.{factor_modules}
use Rattle.axe_chop.specs.Reported.{factor_witnesses}
use Rattle.axe_execute.proofs.ChopDrafts.{keys_are_names, series_drafted}
use Rattle.axe_execute.proofs.chopping.series_draft.Goals as goal

pub returns : goal.returns
returns c =
    ap Ok (sym (series_drafted c.args.files.now c.args.name.now _ c.args.header c.args.chopped.now.basis
    (factor_modules c.args.chopped.now) (factor_witnesses c.args.chopped.now) c.args.chopped.now.series.items _ _ c.in-Ok.report.items _ _
    c.new-draft.ensures c.in_ok-put_series.ensures.put c.as_str.ensures.text
    (keys_are_names c.requires.found.m c.args.header.seed c.args.header.words c.args.chopped.now c.requires.found.chopped_is)
    c.deref.ensures.value c.in-Ok.ensures))
