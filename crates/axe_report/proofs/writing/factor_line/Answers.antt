use Rattle.std.proofs.Common.{refl, ap, ◌∙◌}
use Rattle.axe_report.proofs.Lines.{factor_written}
use Rattle.axe_report.proofs.writing.factor_line.Goals as goal

pub returns : goal.returns
returns c =
    let name = c.name-name.ensures in
    let dim = c.dim-dim.ensures in
    let multiplicity = c.multiplicity-multiplicity.ensures in
    factor_written c.args.factor.now _ _ _
    (ap (λ (v : _). v.items) c.into_bytes-line.ensures.value ∙ c.in_ok-start.ensures.ok ∙ rw (name, dim, multiplicity) refl)
    c.in_ok-put_witness.ensures
    c.in_ok-push.ensures.items
