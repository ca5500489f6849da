use Rattle.std.proofs.Common.{rules}
use Rattle.axe_folder.proofs.directory.DirFolderFolder.remove.Goals as goal

-- the file system refuses to remove the file
pub returns-clause-faults : goal.returns-clause-faults
returns-clause-faults g c = search rules
