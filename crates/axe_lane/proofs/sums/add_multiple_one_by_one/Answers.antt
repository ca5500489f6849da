use Rattle.std.proofs.Common.{◌≡◌, ℕ, ◌+◌, ◌*◌, ◌<◌, get_or, set, ap, sym, subst, ◌∙◌, arith}
use Rattle.std.proofs.lemmas.List.Elements.{All-get_or}
use Rattle.axe_lane.specs.Bytes.{AreDigits, less_where_not_below}
use Rattle.axe_lane.proofs.LazySums.{is_byte, lane_below}
use Rattle.axe_lane.proofs.Progress.{combined_to_more, combined_to_end, All-combined_from}
use Rattle.axe_lane.proofs.ResidueLaws.{stays, falls}
use Rattle.axe_lane.proofs.sums.add_multiple_one_by_one.Goals as goal
use Rattle.axe_lane.proofs.sums.add_multiple_one_by_one.Goals.{then-sum, else-sum}

pub overflow_add-sum : goal.overflow_add-sum
overflow_add-sum g c =
    let p = g.row.P in
    let m = c.args.m in
    let n = c.loop-at.at in
    let combined = subst (AreDigits (16 * p)) (sym c.loop-at.invariant)
    (All-combined_from (λ d s. less_where_not_below (16 * p) (d + m * s)) (λ d. d < 16 * p) (λ s. s < p)
    (λ d s a b. lane_below p m d s c.requires.prime c.requires.factor a b)
    n c.args.dst.now c.args.src.now c.requires.dst_below c.requires.src_below) in
    record {
      fits = is_byte p m (get_or c.loop-at.dst n 0) (get_or c.args.src.now n 0) c.requires.prime c.requires.factor
          (All-get_or (λ d. d < 16 * p) c.loop-at.dst n 0 (omega arith) combined)
          (All-get_or (λ s. s < p) c.args.src.now n 0 (omega arith) c.requires.src_below);
    }

pub loop-at-preserved : goal.loop-at-preserved
loop-at-preserved g c =
    let most : ℕ = 16 * g.row.P in
    let f : ℕ → ℕ → ℕ = λ d s. less_where_not_below most (d + c.args.m * s) in
    let n = c.loop-at.at in
    let sum : ℕ = get_or c.loop-at.dst n 0 + c.args.m * get_or c.args.src.now n 0 in
    let entry : c.if-sum.dst ≡ less_where_not_below most sum =
    elim c.if-sum.branch [
      | then-sum w ↦ w.dst-is ∙ sym (stays most sum w.if-sum.true)
      | else-sum w ↦ w.dst-is ∙ sym (falls most sum w.if-sum.false)
    ] in
    ap (set c.loop-at.dst n) entry
    ∙ ap (λ xs. set xs n (f (get_or xs n 0) (get_or c.args.src.now n 0))) c.loop-at.invariant
    ∙ combined_to_more f n c.args.dst.now c.args.src.now (omega arith) c.requires.fits

pub returns : goal.returns
returns g c =
    let f : ℕ → ℕ → ℕ = λ d s. less_where_not_below (16 * g.row.P) (d + c.args.m * s) in
    c.loop-at.invariant
    ∙ combined_to_end f c.loop-at.at c.args.dst.now c.args.src.now (omega arith) c.requires.fits
