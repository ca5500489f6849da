use Rattle.std.proofs.Common.{codes, ◌++◌, append_assoc, sym, ◌∙◌}
use Rattle.axe_report.proofs.reasons.same_text.Goals as goal

pub returns : goal.returns
returns c = c.in_ok-text.ensures.ok ∙ sym (append_assoc (codes "same " ++ c.args.first.now) (codes " ") c.args.second.now ∙ append_assoc (codes "same ") c.args.first.now (codes " " ++ c.args.second.now))
