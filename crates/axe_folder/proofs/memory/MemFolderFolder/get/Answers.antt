use Rattle.std.proofs.Common.{rules}
use Rattle.axe_folder.proofs.memory.MemFolderFolder.get.Goals as goal

pub returns-then-bytes-limit-clause-gives : goal.returns-then-bytes-limit-clause-gives
returns-then-bytes-limit-clause-gives c = search rules

pub returns-then-bytes-limit-clause-no_device : goal.returns-then-bytes-limit-clause-no_device
returns-then-bytes-limit-clause-no_device c = search rules
