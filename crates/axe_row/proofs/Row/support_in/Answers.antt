use Rattle.std.proofs.Common.{List, ℕ, subst, arith}
use Rattle.axe_layer.specs.Supports.{IsSupportWord}
use Rattle.axe_row.proofs.KnownFieldLaws.{prime_from_five}
use Rattle.axe_row.proofs.NextEntries.{support_of_held_trits}
use Rattle.axe_row.proofs.Row.support_in.Goals as goal

pub returns-then-this-eq3 : goal.returns-then-this-eq3
returns-then-this-eq3 g c = support_of_held_trits _ _ c.trits_in.result.0 c.trits_in.result.1 c.trits_in.ensures

pub bytes-requires : goal.bytes-requires
bytes-requires g c =
    prime_from_five c.args.self.now.order c.requires.odd (λ three. omega (arith, three, c.requires.order, c.if-this-eq3.false))
    (λ nine. omega (arith, nine, c.requires.order, c.if-this-eq9.false))

pub returns : goal.returns
returns g c = subst (λ (x : List ℕ). IsSupportWord x c.args.at c.support_word.result) c.bytes.ensures c.support_word.ensures
