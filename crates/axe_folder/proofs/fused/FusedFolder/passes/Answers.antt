use Rattle.std.proofs.Common.{rules}
use Rattle.axe_folder.proofs.fused.FusedFolder.passes.Goals as goal

pub returns-clause-failed : goal.returns-clause-failed
returns-clause-failed c = search rules

pub returns-then-self-gt0-clause-passed : goal.returns-then-self-gt0-clause-passed
returns-then-self-gt0-clause-passed c = search rules
