use Rattle.std.proofs.Common.{◌≡◌, ◌⊎◌, ◌≤◌, ◌+◌, ◌/◌, ◌%◌, length, arith, inl, inr}
use Rattle.axe_layer.proofs.DigitWords.{first_of_two, both_of_two}
use Rattle.axe_layer.proofs.parts.word_from.Goals as goal
use Rattle.axe_layer.proofs.parts.word_from.Goals.{else-place-gt0-via-then-place-gt0+else-word-words, else-place-gt0-via-else-place-gt0}

pub returns-then-word-words : goal.returns-then-word-words
returns-then-word-words c = λ i low.
    both_of_two c.args.words.now c.args.from i (c.type_inv.words (c.args.from / 64)).fits low c.if-place-gt0.true

pub returns-else-place-gt0 : goal.returns-else-place-gt0
returns-else-place-gt0 c = λ i low.
    let alone : (c.args.from % 64 ≡ 0) ⊎ (length c.args.words.now ≤ c.args.from / 64 + 1) =
    elim c.else-place-gt0.branch [
      | else-place-gt0-via-then-place-gt0+else-word-words w ↦ inr (omega (arith, w.if-word-words.false))
      | else-place-gt0-via-else-place-gt0 w ↦ inl (omega (arith, w.if-place-gt0.false))
    ] in
    first_of_two c.args.words.now c.args.from i (c.type_inv.words (c.args.from / 64)).fits low alone
