use Rattle.axe_folder.proofs.FileLaws.{file_at-no_files, file_at-with_file, file_at-with_file-other, file_at-without_file, file_at-without_file-other, same_files}
use Rattle.axe_folder.proofs.laws.files_are_a_map.Goals as goal

pub returns : goal.returns
returns c = record {
  none = file_at-no_files;
  put = file_at-with_file;
  put_keeps_others = file_at-with_file-other;
  removed = file_at-without_file;
  remove_keeps_others = file_at-without_file-other;
  same = same_files;
}
