use Rattle.std.proofs.Common.{rules}
use Rattle.axe_folder.proofs.fused.FusedFolderFolder.get.Goals as goal

pub returns-then-passes-clause-gives : goal.returns-then-passes-clause-gives
returns-then-passes-clause-gives c = search rules
