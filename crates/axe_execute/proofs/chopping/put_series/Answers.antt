use Rattle.std.proofs.Common.{map, string_bytes}
use Rattle.indexmap.specs.IndexMap.{keys}
use Rattle.axe_chop.specs.Answers.{factor_modules}
use Rattle.axe_execute.proofs.ChopDrafts.{steps_put}
use Rattle.axe_execute.proofs.chopping.put_series.Goals as goal

pub returns-clause-put : goal.returns-clause-put
returns-clause-put c =
    steps_put c.args.files.now c.args.name.now c.args.chopped.now.basis (map string_bytes (keys c.args.chopped.now.factors)) (factor_modules c.args.chopped.now)
    c.args.report.now _ _ _ _ _ c.in_ok-remove_report.ensures.removed c.in_ok-put_basis.ensures.put c.in_ok-put_factors.ensures.put
    c.in_ok-put_report.ensures.put
