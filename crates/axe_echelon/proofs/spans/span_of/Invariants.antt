use Rattle.axe_echelon.proofs.SpanLaws.{IsSpanOfFirst}
use Rattle.axe_echelon.proofs.spans.span_of.Given as goal

abbrev pub invariant-loop-index : goal.invariant-loop-index
invariant-loop-index l = IsSpanOfFirst l.rows l.index l.span
