use Rattle.std.proofs.Common.{◌≡◌, ◌≤◌, length}
use Rattle.axe_row.proofs.HeldLaws.{AreAddedBetween}
use Rattle.axe_row.proofs.held.add_multiples.Given as goal

abbrev pub invariant-loop-at : goal.invariant-loop-at
invariant-loop-at g l = record {
  as_many : length l.blocks ≡ g.row.W;
  from : l.start ≤ l.at;
  added : AreAddedBetween g.row.Q l.scalar l.start l.at l.fn.blocks l.others l.blocks;
}
