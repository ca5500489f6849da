use Rattle.std.proofs.Common.{List, ℕ, length, get_or, arith, sym, ◌∙◌, ap}
use Rattle.std.proofs.lemmas.List.{get_or_past}
use Rattle.axe_lane.specs.Words.{bit_of}
use Rattle.axe_layer.proofs.BitLaws.{length-bits, get_or-bits}
use Rattle.axe_bits.proofs.bits.BitPlane.get.Goals as goal

pub bit_in-requires : goal.bit_in-requires
bit_in-requires c = omega (arith, c.self.invariant.long, c.if-index-self.true)

pub returns-then-index-self : goal.returns-then-index-self
returns-then-index-self c =
    c.bit_in.ensures.bit ∙ ap (λ (w : List ℕ). bit_of w c.args.index) c.deref.ensures.value
    ∙ sym (get_or-bits c.self.inside.len c.self.inside.words.items c.args.index c.if-index-self.true)
    ∙ ap (λ (x : List ℕ). get_or x c.args.index 0) c.self.view_is

pub returns-else-index-self : goal.returns-else-index-self
returns-else-index-self c =
    let long = length-bits c.self.inside.len c.self.inside.words.items in
    sym (get_or_past c.args.self.now c.args.index 0 (omega (arith, long, ap length c.self.view_is, c.if-index-self.false)))
