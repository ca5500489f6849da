use Rattle.std.proofs.Common.{rules, ◌≡◌, ◌*◌, max, subst, sym, arith}
use Rattle.axe_layer.specs.Supports.{restricted, IsSupportWord}
use Rattle.axe_layer.proofs.SupportLaws.{found_in_word, length-restricted, none_in_all, none_in_word, stands_in_word}
use Rattle.axe_row.proofs.Row.next_within_from.Goals as goal

pub returns-in-Some : goal.returns-in-Some
returns-in-Some c =
    let x = restricted c.args.places.now c.args.self.now.entries in
    let start = c.args.first * 64 in
    let at = c.loop-at.at in
    let from : at * 64 ≡ max start (at * 64) = omega (arith, c.loop-at.invariant.begun) in
    let stands = stands_in_word x start at (at * 64) from (omega (arith, c.loop-at.invariant.begun)) in
    found_in_word x start at (at * 64) from (omega (arith, c.loop-at.invariant.begun)) c.in-Some.index c.loop-at.invariant.none
    (c.in-Some.ensures x (subst (λ k. IsSupportWord x k c.support_within.result) (sym stands) c.support_within.ensures))

pub loop-at-preserved : goal.loop-at-preserved
loop-at-preserved c =
    let x = restricted c.args.places.now c.args.self.now.entries in
    let start = c.args.first * 64 in
    let at = c.loop-at.at in
    let from : at * 64 ≡ max start (at * 64) = omega (arith, c.loop-at.invariant.begun) in
    let stands = stands_in_word x start at (at * 64) from (omega (arith, c.loop-at.invariant.begun)) in
    record {
      begun = omega (arith, c.loop-at.invariant.begun);
      none =
          none_in_word x start at (at * 64) from (omega (arith, c.loop-at.invariant.begun)) c.loop-at.invariant.none
          (c.in_default.ensures x (subst (λ k. IsSupportWord x k c.support_within.result) (sym stands) c.support_within.ensures));
    }

pub returns : goal.returns
returns c =
    none_in_all (restricted c.args.places.now c.args.self.now.entries) (c.args.first * 64) c.loop-at.at c.loop-at.invariant.none
    (omega (arith, length-restricted c.args.places.now c.args.self.now.entries, c.len.ensures.count, c.div_ceil-at-end.ensures, c.loop-at-test.false))

pub loop-at-init : goal.loop-at-init
loop-at-init c = search rules

pub next_in_word-requires : goal.next_in_word-requires
next_in_word-requires c = search rules

pub overflow_mul-at : goal.overflow_mul-at
overflow_mul-at c = search rules
