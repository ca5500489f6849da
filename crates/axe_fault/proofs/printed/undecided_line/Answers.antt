use Rattle.std.proofs.Common.{ap, ◌∙◌}
use Rattle.axe_fault.proofs.Lines.{undecided_written}
use Rattle.axe_fault.proofs.printed.undecided_line.Goals as goal

pub returns : goal.returns
returns c = ap (λ (v : _). v.items) c.into_bytes.ensures.value ∙ c.in_ok-line.ensures.ok ∙ undecided_written c.args.offset c.args.dim
