use Rattle.std.proofs.Common.{List, ℕ, ◌+◌, ◌*◌, get_or, ap, ◌∙◌, arith}
use Rattle.axe_row.proofs.KnownFieldLaws.{prime_from_five}
use Rattle.axe_row.proofs.Row.entry_in.Goals as goal

pub bytes-requires : goal.bytes-requires
bytes-requires g c =
    prime_from_five c.args.self.now.order c.requires.odd (λ three. omega (arith, three, c.requires.order, c.if-this-eq3.false))
    (λ nine. omega (arith, nine, c.requires.order, c.if-this-eq9.false))

pub returns : goal.returns
returns g c = c.get.ensures ∙ ap (λ (d : List ℕ). get_or d (c.args.at * 64 + c.args.place) 0) c.bytes.ensures
