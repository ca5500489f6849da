-- How the entries of an ordered map, each a text and a vector of bytes, are read as files.
use Rattle.std.specs.Prelude.{ℕ, List, map, String, string_bytes, Vec}
use Rattle.std.specs.BTreeMap.{BTreeMap}
use Rattle.std.specs.FinMap as finite
use Rattle.axe_folder.specs.Files.{Files}

-- an entry as a name and the bytes of its file
abbrev pub file_of : {Y Z : Type 0} → String Y × Vec ℕ Z → List ℕ × List ℕ
file_of entry = (string_bytes entry.0, entry.1.items)

-- the files that the entries give
abbrev pub files_of : {Y Z : Type 0} → BTreeMap (String Y) (Vec ℕ Z) → Files
files_of shelf = finite.from_entries (map file_of shelf.entries)
