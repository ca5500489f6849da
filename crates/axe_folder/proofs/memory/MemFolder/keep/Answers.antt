use Rattle.std.proofs.Common.{◌∙◌, string_bytes}
use Rattle.axe_folder.specs.Files.{with_file}
use Rattle.axe_folder.proofs.ShelfLaws.{files_of-insert}
use Rattle.axe_folder.proofs.memory.MemFolder.keep.Goals as goal

-- the shelf has the name's text, and at it the file's bytes
pub returns-clause-puts : goal.returns-clause-puts
returns-clause-puts c =
    files_of-insert (string_bytes c.in_ok-key.key) c.self.inside.shelf c.insert.new.self c.in_ok-file.file c.in_ok-insert.ensures.updates
    ∙ (λ i. with_file (c.self.view_is i).files (c.in_ok-key.ensures.ok i) (c.in_ok-file.ensures.items i))
