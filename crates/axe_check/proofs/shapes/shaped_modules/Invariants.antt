use Rattle.std.specs.List.{All}
use Rattle.axe_spin.specs.Modules.{IsModule}
use Rattle.axe_check.specs.Certificates.{lists_of}
use Rattle.axe_check.specs.Steps.{AreShapedTo}
use Rattle.axe_check.proofs.shapes.shaped_modules.Given as goal

abbrev pub invariant-loop-number : goal.invariant-loop-number
invariant-loop-number l = record {
  shaped : AreShapedTo l.module l.reported (lists_of l.lists) l.number l.modules.items;
  formed : All IsModule l.modules.items;
}
