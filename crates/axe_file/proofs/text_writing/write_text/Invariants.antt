use Rattle.std.proofs.Common.{◌≡◌, ◌++◌, length, take}
use Rattle.std.specs.List.{flat_map}
use Rattle.axe_file.specs.TextWriting.{text_header, text_row}
use Rattle.axe_file.proofs.text_writing.write_text.Given as goal

abbrev pub invariant-loop-index : goal.invariant-loop-index
invariant-loop-index l =
    (l.text.items ≡ text_header l.matrix ++ flat_map text_row (take l.index l.matrix.rows)) × (length l.digits.items ≡ l.matrix.cols)
