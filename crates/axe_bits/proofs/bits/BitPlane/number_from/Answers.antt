use Rattle.std.proofs.Common.{◌≡◌, List, ℕ, length, ap, ◌∙◌}
use Rattle.axe_layer.specs.Bits.{bits}
use Rattle.axe_layer.specs.Digits.{number_from}
use Rattle.axe_bits.proofs.bits.BitPlane.number_from.Goals as goal

pub number_in-requires-clause-long : goal.number_in-requires-clause-long
number_in-requires-clause-long c = ap length c.deref.ensures.value ∙ c.self.invariant.long

pub returns-clause-value : goal.returns-clause-value
returns-clause-value c =
    let plane : bits c.self.inside.len c.deref.result.now ≡ c.args.self.now = rw c.deref.ensures.value c.self.view_is in
    c.number_in.ensures.value ∙ ap (λ (x : List ℕ). number_from c.args.base c.args.size c.args.at x) plane
