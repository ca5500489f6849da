use Rattle.std.proofs.Common.{◌∙◌, ap}
use Rattle.axe_poly.specs.Tables.{IrreduciblesValue}
use Rattle.axe_norton.proofs.decisions.decide.Goals as goal

pub decide_with-requires-clause-field : goal.decide_with-requires-clause-field
decide_with-requires-clause-field c = ap (λ (t : IrreduciblesValue). t.order) c.new-table.ensures.none ∙ c.field.ensures.order
