use Rattle.std.proofs.Common.{◌<◌, ◌*◌, List, ℕ, map, ap, ◌∙◌}
use Rattle.std.specs.Simd.Lanes.{chunk}
use Rattle.std.specs.List.{All}
use Rattle.std.proofs.lemmas.List.Elements.{All-take, All-drop}
use Rattle.axe_lane.specs.Bytes.{less_where_not_below}
use Rattle.axe_lane.proofs.FiveRows.{lanes}
use Rattle.axe_lane.proofs.bytes.sum4_of.Goals as goal

pub returns : goal.returns
returns c =
    let p = c.args.p in
    let piece : (l : List ℕ) → All (λ k. k < p) l → All (λ k. k < p) (chunk c.args.at 32 l) = λ l h.
    All-take (λ k. k < p) 32 _ (All-drop (λ k. k < p) c.args.at l h) in
    c.reduced-3.ensures
    ∙ ap (map (less_where_not_below p)) (c.reduced-2.ensures ∙ ap (map (less_where_not_below (2 * p))) c.reduced.ensures)
    ∙ lanes p c.requires.prime _ _ _ _ _ (piece _ c.requires.dst_below) (piece _ c.requires.a_below) (piece _ c.requires.b_below)
    (piece _ c.requires.c_below) (piece _ c.requires.d_below)
