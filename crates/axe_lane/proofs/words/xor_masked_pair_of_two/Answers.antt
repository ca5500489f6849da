use Rattle.std.proofs.Common.{ℕ, List, ap₂, get_or}
use Rattle.std.specs.Int.RustNames.{bit_and, bit_xor}
use Rattle.std.specs.Simd.Lanes.{chunk, put_chunk, zip2}
use Rattle.std.proofs.lemmas.Simd.{zip2_splat}
use Rattle.axe_lane.proofs.words.xor_masked_pair_of_two.Goals as goal

pub returns : goal.returns
returns c =
    ap₂ (λ (x y : List ℕ). put_chunk c.args.at c.args.words.now (zip2 bit_xor (chunk c.args.at 2 c.args.words.now) (zip2 bit_xor x y)))
    (zip2_splat bit_and c.args.a 2 (get_or c.args.masks 0 0) c.fits-a.0)
    (zip2_splat bit_and c.args.b 2 (get_or c.args.masks 1 0) c.fits-b.0)
