use Rattle.std.proofs.Common.{List, ℕ, length, get_or, set, ap, sym, ◌∙◌, arith}
use Rattle.axe_lane.proofs.FiveRows.{four, four_long, get_or-four, one_by_one, wrapped, wrapped_associative}
use Rattle.axe_lane.proofs.Progress.{combined_to_more, combined_to_end}
use Rattle.axe_lane.proofs.sums.add4_one_by_one.Goals as goal

pub loop-at-preserved : goal.loop-at-preserved
loop-at-preserved c =
    let n = c.loop-at.at in
    let x = c.args.dst.now in
    let sum : List ℕ = four wrapped c.args.a.now c.args.b.now c.args.c.now c.args.d.now in
    let long = four_long wrapped (length x) _ _ _ _ c.requires.a_fits c.requires.b_fits c.requires.c_fits c.requires.d_fits in
    let entry = get_or-four wrapped (length x) _ _ _ _ c.requires.a_fits c.requires.b_fits c.requires.c_fits c.requires.d_fits n (omega arith) in
    ap (λ y. set c.loop-at.dst n (wrapped (get_or c.loop-at.dst n 0) y)) (sym entry)
    ∙ ap (λ xs. set xs n (wrapped (get_or xs n 0) (get_or sum n 0))) c.loop-at.invariant
    ∙ combined_to_more wrapped n x sum (omega arith) long

pub returns : goal.returns
returns c =
    let x = c.args.dst.now in
    let long = four_long wrapped (length x) _ _ _ _ c.requires.a_fits c.requires.b_fits c.requires.c_fits c.requires.d_fits in
    c.loop-at.invariant
    ∙ combined_to_end wrapped c.loop-at.at x (four wrapped c.args.a.now c.args.b.now c.args.c.now c.args.d.now) (omega arith) long
    ∙ one_by_one wrapped wrapped_associative x c.args.a.now c.args.b.now c.args.c.now c.args.d.now
