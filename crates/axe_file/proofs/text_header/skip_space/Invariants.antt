use Rattle.std.proofs.Common.{◌≡◌, ◌+◌, drop}
use Rattle.std.specs.List.{prefix_len}
use Rattle.axe_file.specs.TextGrammar.{is_white}
use Rattle.axe_file.proofs.text_header.skip_space.Given as goal

abbrev pub invariant-loop-at : goal.invariant-loop-at
invariant-loop-at l = l.at + prefix_len is_white (drop l.at l.bytes) ≡ l.start + prefix_len is_white (drop l.start l.bytes)
