use Rattle.axe_file.proofs.TextScans.{WordRead}
use Rattle.axe_file.proofs.text_header.skip_word.Given as goal

abbrev pub invariant-loop-index : goal.invariant-loop-index
invariant-loop-index l = WordRead l.word l.bytes l.start l.index
