use Rattle.std.proofs.Common.{rules}
use Rattle.axe_folder.proofs.fused.FusedFolderFolder.remove.Goals as goal

pub returns-then-passes-clause-removes : goal.returns-then-passes-clause-removes
returns-then-passes-clause-removes c = search rules
