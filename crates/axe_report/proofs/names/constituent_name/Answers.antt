use Rattle.std.proofs.Common.{List, ℕ, ◌++◌, ap, ◌∙◌}
use Rattle.axe_report.specs.Names.{letters, constituent_name}
use Rattle.axe_report.proofs.names.constituent_name.Goals as goal

pub returns : goal.returns
unfolding constituent_name
returns c = c.in_ok-push_letters.ensures ∙ ap (λ (x : List ℕ). x ++ letters c.args.number) c.in_ok-name.ensures.ok
