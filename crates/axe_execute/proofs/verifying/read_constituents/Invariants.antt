use Rattle.std.proofs.Common.{IsTrue, ◌≡◌, drop, length}
use Rattle.axe_report.specs.Reports.{names}
use Rattle.axe_check.specs.Certificates.{lists_of}
use Rattle.axe_execute.specs.VerifyCommand.{constituents_in}
use Rattle.axe_execute.proofs.VerifyReadings.{constituents_after}
use Rattle.axe_execute.proofs.verifying.read_constituents.Given as goal

abbrev pub invariant-loop-factor : goal.invariant-loop-factor
invariant-loop-factor g l = record {
  read : IsTrue g.F.Folder.tells →
      constituents_in l.files l.name (names l.fn.factors) (g.F.Folder.files l.fn.folder) ≡
      constituents_after l.files l.name (g.F.Folder.files l.fn.folder) (lists_of l.lists.items) (names (drop l.factor-index l.fn.factors));
  kept : IsTrue g.F.Folder.tells → g.F.Folder.files l.folder ≡ g.F.Folder.files l.fn.folder;
  counted : IsTrue g.F.Folder.tells → g.F.Folder.tally l.folder ≡ g.F.Folder.tally l.fn.folder;
  many : length l.lists.items ≡ l.factor-index;
}
