use Rattle.std.proofs.Common.{take, All}
use Rattle.axe_word.specs.Words.{IsTermIn}
use Rattle.axe_word.proofs.word.Word.is_word_in.Given as goal

abbrev pub invariant-loop-index : goal.invariant-loop-index
invariant-loop-index l = All (IsTermIn l.module) (take l.index l.self)
