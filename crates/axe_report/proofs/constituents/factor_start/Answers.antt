use Rattle.std.proofs.Common.{ap, ◌∙◌}
use Rattle.axe_report.proofs.NextLines.{start_written}
use Rattle.axe_report.proofs.constituents.factor_start.Goals as goal

pub returns : goal.returns
returns c = ap (λ (v : _). v.items) c.into_bytes.ensures.value ∙ c.in_ok-start.ensures.ok ∙ start_written c.args.name.now c.args.dim
