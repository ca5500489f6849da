use Rattle.std.proofs.Common.{◌≡◌, ◌+◌, ◌*◌, ◌/◌, ◌≤◌, List, ℕ, length, ap, arith, ◌∙◌}
use Rattle.axe_layer.specs.Bits.{bits}
use Rattle.axe_layer.specs.Digits.{numbers_from}
use Rattle.axe_layer.specs.Lanes.{in_lanes}
use Rattle.axe_layer.proofs.BitLaws.{plane_long}
use Rattle.axe_bits.proofs.bits.BitPlane.packed_numbers.Goals as goal

pub packed_numbers-requires-clause-within : goal.packed_numbers-requires-clause-within
packed_numbers-requires-clause-within c =
    let words : length c.deref.result.now ≡ (c.self.inside.len + 63) / 64 = ap length c.deref.ensures.value ∙ c.self.invariant.long in
    let long = plane_long _ _ _ c.self.view_is in
    omega (arith, words, long, c.requires.within)

pub returns-clause-value : goal.returns-clause-value
returns-clause-value c =
    let plane : bits c.self.inside.len c.deref.result.now ≡ c.args.self.now = rw c.deref.ensures.value c.self.view_is in
    let inside : c.args.at + 4 * c.args.size ≤ c.self.inside.len = omega (arith, c.requires.within, plane_long _ _ _ c.self.view_is) in
    c.packed_numbers.ensures.value c.self.inside.len inside
    ∙ ap (λ (x : List ℕ). in_lanes (numbers_from c.args.base c.args.size c.args.at x)) plane
