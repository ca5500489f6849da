use Rattle.std.proofs.Common.{ap, ◌∙◌}
use Rattle.axe_report.proofs.Lines.{header_written}
use Rattle.axe_report.proofs.writing.header_line.Goals as goal

pub returns : goal.returns
returns c =
    header_written c.args.header c.number-version.result c.order-order.result _ _ _ c.number-version.ensures c.order-order.ensures.value
    (ap (λ (v : _). v.items) c.into_bytes-line.ensures.value ∙ c.in_ok-start.ensures.ok)
    (c.as_bytes.ensures.value ∙ c.in_ok-end.ensures.ok)
    c.in_ok-extend_from_slice.ensures.items
