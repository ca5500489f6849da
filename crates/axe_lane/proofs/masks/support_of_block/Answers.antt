use Rattle.std.proofs.Common.{◌≡◌, ◌+◌, get_or, ap, ◌∙◌, arith}
use Rattle.std.specs.Simd.Lanes.{chunk}
use Rattle.std.proofs.lemmas.Simd.{get_or-chunk, length-chunk}
use Rattle.axe_lane.proofs.MaskLaws.{support_along, support_of_lanes}
use Rattle.axe_lane.proofs.masks.support_of_block.Goals as goal

pub returns : goal.returns
returns c i low =
    let bytes = c.args.bytes.now in
    let first : 0 + i ≡ i = omega arith in
    support_along _ _ _ i (get_or-chunk 0 64 bytes i 0 low ∙ ap (λ k. get_or bytes k 0) first)
    (support_of_lanes (chunk 0 64 bytes) i (length-chunk 0 64 bytes c.requires) low)
