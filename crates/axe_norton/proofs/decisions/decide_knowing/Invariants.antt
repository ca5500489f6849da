use Rattle.std.proofs.Common.{◌≡◌}
use Rattle.axe_word.specs.KeptProducts.{AreProductsOf}
use Rattle.axe_norton.specs.Known.{IsKnownOf}
use Rattle.axe_norton.specs.Searches.{IsKeptTranspose}
use Rattle.axe_norton.specs.Verdicts.{LeaveOpenBefore}
use Rattle.axe_norton.proofs.decisions.decide_knowing.Given as goal

abbrev pub invariant-loop-number : goal.invariant-loop-number
invariant-loop-number l = record {
  field : l.table.order ≡ l.module.order;
  products : AreProductsOf l.module l.products;
  kept : IsKeptTranspose l.module l.kept;
  known : IsKnownOf l.module l.seed l.known;
  before : LeaveOpenBefore l.module l.seed l.number;
}
