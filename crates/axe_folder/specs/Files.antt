-- The files of a folder: a finite map from names to bytes. A name is the bytes of its text.
use Rattle.std.specs.Prelude.{ℕ, List, Option}
use Rattle.std.specs.Ordering.{nat_cmp}
use Rattle.std.specs.Cmp.Lexicographic.{slice_cmp}
use Rattle.std.specs.Coded.{Coded, coded_ℕ, coded_list}
use Rattle.std.specs.FinMap as finite

-- a finite map from names to files, a file being its bytes
abbrev pub Files : Type 0
Files = finite.FinMap (slice_cmp nat_cmp) (List ℕ)

-- the code by which proofs tell maps of files apart
abbrev pub files_code : Coded Files
files_code = finite.code (coded_list coded_ℕ) (coded_list coded_ℕ)

-- no files at all
abbrev pub no_files : Files
no_files = finite.empty

-- the file of this name: its bytes, and None where there is no such file
abbrev pub file_at : Files → List ℕ → Option (List ℕ)
file_at files name = finite.get files name

-- the same files, but that this name has these bytes
abbrev pub with_file : Files → List ℕ → List ℕ → Files
with_file files name bytes = finite.insert files name bytes

-- the same files, but that this name has none
abbrev pub without_file : Files → List ℕ → Files
without_file files name = finite.remove files name
