-- What a folder of the file system shows.
use Rattle.std.specs.Prelude.{ℕ, List}
use Rattle.std.specs.Path.{path_buf_bytes}
use Rattle.axe_folder.specs.declared.directory.DirFolder.{DirFolder}

-- the path of the folder's directory
abbrev pub directory_of : {R F D : Type 0} → DirFolder R F D → List ℕ
directory_of folder = path_buf_bytes folder.directory
