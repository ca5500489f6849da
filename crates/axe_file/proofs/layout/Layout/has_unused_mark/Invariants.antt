use Rattle.std.proofs.Common.{◌≡◌, ◌+◌, ◌*◌, ◌<◌, ◌≤◌, ℕ}
use Rattle.axe_file.specs.Marks.{mark_of}
use Rattle.axe_file.proofs.layout.Layout.has_unused_mark.Given as goal

abbrev pub invariant-loop-index : goal.invariant-loop-index
invariant-loop-index l = (j : ℕ) → j < l.index → l.self.columns ≤ l.place * l.self.marks + j → mark_of l.self.field l.byte j ≡ 0
