use Rattle.std.proofs.Common.{refl, inl}
use Rattle.axe_folder.proofs.directory.removal_of.Goals as goal

-- a removal that the file system refuses is Device
pub returns-in_default : goal.returns-in_default
returns-in_default c = inl refl
