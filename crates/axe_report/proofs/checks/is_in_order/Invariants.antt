use Rattle.axe_report.proofs.Orders.{InOrderTo}
use Rattle.axe_report.proofs.checks.is_in_order.Given as goal

abbrev pub invariant-loop-place : goal.invariant-loop-place
invariant-loop-place l = InOrderTo l.series l.place-index l.seen
