use Rattle.std.proofs.Common.{ℕ, ◌*◌, ◌<◌, List, get_or, map, ap, ap₂, ◌∙◌, arith}
use Rattle.std.specs.Simd.Lanes.{chunk, zip2}
use Rattle.std.specs.List.{All}
use Rattle.std.proofs.lemmas.List.Elements.{All-take, All-drop}
use Rattle.axe_lane.specs.Bytes.{AreDigits, less_where_not_below}
use Rattle.axe_lane.proofs.FiveRows.{wrapped}
use Rattle.axe_lane.proofs.LazySums.{IsFiveOrSeven, five_or_seven, lazy_lanes}
use Rattle.axe_lane.proofs.ResidueLaws.{multiple_is_byte}
use Rattle.axe_lane.proofs.sums.sum_with_four.Goals as goal

-- a block of digits
piece : (p at : ℕ) (l : List ℕ) → AreDigits p l → AreDigits p (chunk at 32 l)
piece p at l h = All-take (λ k. k < p) 32 _ (All-drop (λ k. k < p) at l h)

-- the products of a block of digits are bytes
byte_products : (p m at : ℕ) (l : List ℕ) → IsFiveOrSeven p → m < p → AreDigits p l → All (λ x. m * x < 256) (chunk at 32 l)
byte_products p m at l prime m_below h = λ k d inside.
    multiple_is_byte p m (get_or (chunk at 32 l) k d) (five_or_seven p prime).1 m_below (piece p at l h k d inside)

pub times-a-requires : goal.times-a-requires
times-a-requires g c = byte_products g.row.P _ _ _ c.requires.prime (c.requires.factors 0 (omega arith)) c.requires.a_below

pub times-b-requires : goal.times-b-requires
times-b-requires g c = byte_products g.row.P _ _ _ c.requires.prime (c.requires.factors 1 (omega arith)) c.requires.b_below

pub times-c-requires : goal.times-c-requires
times-c-requires g c = byte_products g.row.P _ _ _ c.requires.prime (c.requires.factors 2 (omega arith)) c.requires.c_below

pub times-d-requires : goal.times-d-requires
times-d-requires g c = byte_products g.row.P _ _ _ c.requires.prime (c.requires.factors 3 (omega arith)) c.requires.d_below

pub returns : goal.returns
returns g c =
    let p = g.row.P in
    let less : List ℕ → List ℕ = map (less_where_not_below (16 * p)) in
    let add : List ℕ → List ℕ → List ℕ = zip2 wrapped in
    let sums =
    ap (add (chunk c.args.at 32 c.args.dst.now))
    (ap₂ add (ap₂ add (ap₂ add c.times-a.ensures c.times-b.ensures) c.times-c.ensures) c.times-d.ensures) in
    c.reduced-2.ensures ∙ ap less (c.reduced.ensures ∙ ap less sums)
    ∙ lazy_lanes p c.requires.prime c.args.factors c.requires.factors _ _ _ _ (piece p _ _ c.requires.a_below)
    (piece p _ _ c.requires.b_below) (piece p _ _ c.requires.c_below) (piece p _ _ c.requires.d_below) _ (piece (16 * p) _ _ c.requires.dst_below)
