use Rattle.std.proofs.Common.{ap, ◌∙◌}
use Rattle.std.specs.Simd.Lanes.{chunk}
use Rattle.std.proofs.lemmas.Nat.{one_shl}
use Rattle.std.proofs.lemmas.Simd.{get_or-chunk, length-chunk}
use Rattle.std.specs.Int.{bit_at}
use Rattle.axe_lane.proofs.MaskLaws.{bits_of_lanes}
use Rattle.axe_lane.proofs.masks.bits_of_bytes.Goals as goal

pub returns : goal.returns
returns c i low =
    let at = c.args.at in
    let place = c.args.place in
    let bytes = c.args.bytes.now in
    bits_of_lanes (chunk at 64 bytes) _ place i (length-chunk at 64 bytes c.requires.room) (one_shl place 8 c.requires.place) low
    ∙ ap (λ x. bit_at x place) (get_or-chunk at 64 bytes i 0 low)
