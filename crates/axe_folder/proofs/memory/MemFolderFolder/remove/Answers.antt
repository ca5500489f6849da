use Rattle.std.proofs.Common.{ap, refl, ◌∙◌}
use Rattle.axe_folder.specs.Files.{without_file}
use Rattle.axe_folder.specs.Memory.{Held}
use Rattle.axe_folder.proofs.ShelfLaws.{files_of-remove}
use Rattle.axe_folder.proofs.memory.MemFolderFolder.remove.Goals as goal

-- the files are those of the shelf, from which the name was removed
pub returns-clause-removes : goal.returns-clause-removes
returns-clause-removes c =
    files_of-remove c.args.name.now c.self.inside.shelf c.remove.new.self c.remove.ensures.updates
    ∙ ap (λ (held : Held). without_file held.files c.args.name.now) c.self.view_is

pub returns-clause-never_fails : goal.returns-clause-never_fails
returns-clause-never_fails c = refl
