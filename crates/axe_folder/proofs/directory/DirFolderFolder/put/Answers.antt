use Rattle.std.proofs.Common.{refl}
use Rattle.axe_folder.proofs.directory.DirFolderFolder.put.Goals as goal

-- a name that no file in the directory can have is Device
pub returns-in_default-clause-no_such_name : goal.returns-in_default-clause-no_such_name
returns-in_default-clause-no_such_name g c = λ _. refl

pub returns-clause-faults : goal.returns-clause-faults
returns-clause-faults g c = c.put_at.ensures
