use Rattle.std.proofs.Common.{◌≡◌, ◌*◌, max, subst, sym, arith}
use Rattle.axe_layer.specs.Supports.{IsSupportWord}
use Rattle.axe_layer.proofs.SupportLaws.{found_in_word, none_in_all, stands_in_word}
use Rattle.axe_bits.proofs.TritHalves.{halves_long}
use Rattle.axe_bits.proofs.trits.TritPlane.next_nonzero.Goals as goal

pub returns-in-Some : goal.returns-in-Some
returns-in-Some c =
    let x = c.args.self.now in
    let at = c.loop-at.at in
    let from : c.max.result ≡ max c.args.start (at * 64) = c.max.ensures in
    let stands = stands_in_word x c.args.start at c.max.result from c.loop-at.invariant.begun in
    found_in_word x c.args.start at c.max.result from c.loop-at.invariant.begun c.in-Some.index c.loop-at.invariant.none
    (c.in-Some.ensures x (subst (λ k. IsSupportWord x k c.support_word-word.result) (sym stands) c.support_word-word.ensures))

pub returns : goal.returns
returns c =
    none_in_all c.args.self.now c.args.start c.loop-at.at c.loop-at.invariant.none
    (omega (arith, halves_long _ _ _ c.self.view_is, c.div_ceil-at-end.ensures, c.loop-at-test.false))
