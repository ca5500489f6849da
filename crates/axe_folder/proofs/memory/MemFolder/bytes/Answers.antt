use Rattle.std.proofs.Common.{ap, ◌∙◌, Some, None}
use Rattle.std.specs.Option.{option_copied}
use Rattle.axe_folder.specs.Memory.{Held}
use Rattle.axe_folder.proofs.ShelfLaws.{file_at-held}
use Rattle.axe_folder.proofs.memory.MemFolder.bytes.Goals as goal

-- the shelf has nothing under this name
pub returns-in_err-file : goal.returns-in_err-file
returns-in_err-file c =
    ap option_copied c.from_residual.ensures
    ∙ file_at-held c.self.inside.shelf c.args.self.now.files c.args.name.now None (ap (λ (held : Held). held.files) c.self.view_is) c.in_err-file.ensures.value

-- the shelf has the file under this name
pub returns : goal.returns
returns c =
    ap (λ bytes. Some bytes) c.as_slice.ensures.value
    ∙ file_at-held c.self.inside.shelf c.args.self.now.files c.args.name.now (Some c.in_ok-file.file.now) (ap (λ (held : Held). held.files) c.self.view_is) c.in_ok-file.ensures.value
