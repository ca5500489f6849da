use Rattle.std.proofs.Common.{◌≡◌, ◌*◌, length}
use Rattle.axe_layer.proofs.RunLaws.{TellFollowed}
use Rattle.axe_layer.proofs.runs.mark_followed.Given as goal

abbrev pub invariant-loop-at : goal.invariant-loop-at
invariant-loop-at l = record {
  long : length l.words ≡ length l.fn.words;
  told : TellFollowed l.indices l.words (l.at * 64);
}
