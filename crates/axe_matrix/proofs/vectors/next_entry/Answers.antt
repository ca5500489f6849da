use Rattle.std.proofs.Common.{rules, ◌≡◌, ◌+◌, ◌/◌, ℕ, subst, arith}
use Rattle.axe_layer.specs.Supports.{IsSupportWord}
use Rattle.axe_layer.proofs.SupportLaws.{stands_inside}
use Rattle.axe_matrix.proofs.vectors.next_entry.Goals as goal

pub returns-else-index-eq0-clause-word : goal.returns-else-index-eq0-clause-word
returns-else-index-eq0-clause-word c =
    let numbers = c.args.row.now.entries in
    let inside =
    stands_inside numbers c.args.start c.args.word.now c.in-Some.index c.requires.word (λ list support. c.in-Some.ensures list support) in
    let same : c.args.start / 64 ≡ (c.in-Some.index + 1) / 64 =
    omega (arith, inside, (c.in-Some.ensures numbers c.requires.word).not_before, c.if-index-eq0.false) in
    subst (λ (k : ℕ). IsSupportWord numbers k c.args.word.now) same c.requires.word

pub returns-clause-next : goal.returns-clause-next
returns-clause-next c = search rules

pub returns-then-index-eq0-clause-next : goal.returns-then-index-eq0-clause-next
returns-then-index-eq0-clause-next c = search rules

pub returns-then-index-eq0-clause-word : goal.returns-then-index-eq0-clause-word
returns-then-index-eq0-clause-word c = search rules

pub returns-else-index-eq0-clause-next : goal.returns-else-index-eq0-clause-next
returns-else-index-eq0-clause-next c = search rules

pub returns-clause-word : goal.returns-clause-word
returns-clause-word c = search rules
