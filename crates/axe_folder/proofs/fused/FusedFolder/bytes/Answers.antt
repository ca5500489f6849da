use Rattle.std.proofs.Common.{rules}
use Rattle.axe_folder.proofs.fused.FusedFolder.bytes.Goals as goal

pub returns : goal.returns
returns c = search rules
