-- Which names can be those of a file in a directory, and where such a file lies.
use Rattle.std.specs.Prelude.{ℕ, Bool, ◌||◌, not, ◌==◌, List, [], ◌++◌, codes, bytes_eq}
use Rattle.std.specs.List.{list_any}
use Rattle.std.specs.Path.{slash, with_separator}

-- a slash, which parts the names of a path, or the zero byte, which ends a path
abbrev pub is_separator : ℕ → Bool
is_separator byte = byte == slash || byte == 0

-- a name that stands for a file in the directory itself: not empty, not the directory or the one above it, and in one
-- part
abbrev pub is_plain_name : List ℕ → Bool
is_plain_name name =
    not (bytes_eq name [] || bytes_eq name (codes ".") || bytes_eq name (codes "..") || list_any is_separator name)

-- the path of a file in a directory: the directory's, a slash, and the file's name
abbrev pub path_in : List ℕ → List ℕ → List ℕ
path_in directory name = with_separator directory ++ name
