use Rattle.std.proofs.Common.{drop}
use Rattle.axe_chop.specs.Stages.{with_sections}
use Rattle.axe_chop.proofs.Stepping.{IsOpening}
use Rattle.axe_chop.proofs.search.append_sections.Given as goal

abbrev pub invariant-loop-index : goal.invariant-loop-index
invariant-loop-index l =
    IsOpening (with_sections l.fn.basis l.sections.items) l.basis (drop l.index l.sections.items)
