use Rattle.std.proofs.Common.{◌-◌, ◌≤◌}
use Rattle.axe_layer.proofs.DigitWords.{AreGathered}
use Rattle.axe_layer.proofs.runs.gathered.Given as goal

abbrev pub invariant-loop-at : goal.invariant-loop-at
invariant-loop-at l = record {
  begun : l.from ≤ l.at;
  within : l.at ≤ l.end;
  so_far : AreGathered l.words l.indices l.from l.at l.word;
}

abbrev pub decreases-loop-at : goal.decreases-loop-at
decreases-loop-at l = l.end - l.at
