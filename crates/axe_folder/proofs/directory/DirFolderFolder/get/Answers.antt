use Rattle.axe_folder.proofs.directory.DirFolderFolder.get.Goals as goal

-- what is read keeps the limit that was asked for
pub returns-clause-bounded : goal.returns-clause-bounded
returns-clause-bounded g c = c.read_within.ensures.bounded
