use Rattle.std.proofs.Common.{IsTrue, ◌≡◌, ◌+◌, ◌-◌, length}
use Rattle.axe_plan.specs.Inputs.{all_spelled_in, numbered_names}
use Rattle.axe_plan.proofs.NumberedFiles.{names_from, read_after}
use Rattle.axe_plan.proofs.modules.read_numbered.Given as goal

abbrev pub invariant-loop-index : goal.invariant-loop-index
invariant-loop-index g l = record {
  read : IsTrue g.F.Folder.tells →
      all_spelled_in l.spelling (g.F.Folder.files l.fn.folder) (numbered_names l.name l.fn.count) ≡
      read_after l.spelling (g.F.Folder.files l.fn.folder) l.matrices.items (names_from l.name (l.index + 1) (l.fn.count - l.index));
  kept : IsTrue g.F.Folder.tells → g.F.Folder.files l.folder ≡ g.F.Folder.files l.fn.folder;
  counted : IsTrue g.F.Folder.tells → g.F.Folder.tally l.folder ≡ g.F.Folder.tally l.fn.folder;
  many : length l.matrices.items ≡ l.index;
}
