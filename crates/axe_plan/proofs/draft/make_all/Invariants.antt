use Rattle.std.proofs.Common.{IsTrue, map, ◌≡◌, ◌++◌}
use Rattle.std.specs.Vec.Iter.{into_iter_items}
use Rattle.axe_plan.specs.Drafts.{step_in}
use Rattle.axe_plan.specs.Plans.{applied}
use Rattle.axe_plan.proofs.draft.make_all.Given as goal

abbrev pub invariant-loop-change : goal.invariant-loop-change
invariant-loop-change g l = record {
  items : l.yielded ++ into_iter_items l.change-iterator ≡ l.fn.changes.items;
  made : IsTrue g.F.Folder.tells → g.F.Folder.files l.folder ≡ applied (map step_in l.yielded) (g.F.Folder.files l.initial.folder);
  counted : IsTrue g.F.Folder.tells → g.F.Folder.tally l.folder ≡ g.F.Folder.tally l.initial.folder;
}
