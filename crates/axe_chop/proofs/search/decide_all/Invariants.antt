use Rattle.std.proofs.Common.{◌≡◌}
use Rattle.axe_chop.specs.Kept.{acting_module}
use Rattle.axe_chop.proofs.Stepping.{IsReached, most_left}
use Rattle.axe_chop.proofs.search.decide_all.Given as goal

abbrev pub decreases-loop-section : goal.decreases-loop-section
decreases-loop-section l = most_left l.sections.items

abbrev pub invariant-loop-section : goal.invariant-loop-section
invariant-loop-section l = record {
  reached : IsReached (acting_module l.fn.action) l.seed l.words l.found l.sections.items;
  field : l.table.order ≡ (acting_module l.fn.action).order;
}
