use Rattle.std.proofs.Common.{◌-◌, bit_and, ap, ◌∙◌}
use Rattle.std.specs.Int.{bit_at}
use Rattle.std.proofs.lemmas.Nat.{one_shl}
use Rattle.axe_layer.proofs.DigitWords.{lowest_kept, lowest_cleared}
use Rattle.axe_layer.proofs.parts.lowest.Goals as goal

pub returns-then-count-lt-WORD-clause-kept : goal.returns-then-count-lt-WORD-clause-kept
returns-then-count-lt-WORD-clause-kept c = λ i low below.
    ap (λ p. bit_at (bit_and c.args.word (p - 1)) i) (one_shl c.args.count 64 c.if-count-lt-WORD.true) ∙ lowest_kept c.args.word c.args.count i below

pub returns-then-count-lt-WORD-clause-cleared : goal.returns-then-count-lt-WORD-clause-cleared
returns-then-count-lt-WORD-clause-cleared c = λ i low past.
    ap (λ p. bit_at (bit_and c.args.word (p - 1)) i) (one_shl c.args.count 64 c.if-count-lt-WORD.true) ∙ lowest_cleared c.args.word c.args.count i past
