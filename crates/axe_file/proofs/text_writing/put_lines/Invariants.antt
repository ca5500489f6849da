use Rattle.std.proofs.Common.{◌≡◌, ◌++◌}
use Rattle.std.specs.List.{flat_map, range_with_len}
use Rattle.axe_file.specs.TextWriting.{text_line}
use Rattle.axe_file.proofs.text_writing.put_lines.Given as goal

abbrev pub invariant-loop-index : goal.invariant-loop-index
invariant-loop-index l = l.text.items ≡ l.initial.text.items ++ flat_map (text_line l.digits) (range_with_len 0 l.index)
