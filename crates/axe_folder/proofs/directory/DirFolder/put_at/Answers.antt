use Rattle.std.proofs.Common.{rules}
use Rattle.axe_folder.proofs.directory.DirFolder.put_at.Goals as goal

-- what takes the bytes as they come may fail
pub returns-in-Stream : goal.returns-in-Stream
returns-in-Stream g c = search rules
