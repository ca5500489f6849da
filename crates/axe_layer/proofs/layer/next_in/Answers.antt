use Rattle.std.proofs.Common.{rules, ◌≤◌, ◌/◌, ◌+◌, ◌-◌, length, refl, arith}
use Rattle.axe_layer.proofs.NextDigits.{next_in_word, next_in_words, none_in_words, within_word}
use Rattle.axe_layer.proofs.layer.next_in.Goals as goal

pub overflow_add-result : goal.overflow_add-result
overflow_add-result c =
    omega (arith, within_word _ c.args.start (c.type_inv.words _).fits c.if-rest-ne0.true, c.requires.counted, c.requires.within)

pub returns-then-rest-ne0 : goal.returns-then-rest-ne0
returns-then-rest-ne0 c = λ n held. next_in_word n c.args.words.now c.args.start _ held refl c.if-rest-ne0.true

pub slice_bounds-first_set-end : goal.slice_bounds-first_set-end
slice_bounds-first_set-end c =
    let after : c.args.start / 64 + 1 ≤ c.div_ceil.result = omega (arith, c.div_ceil.ensures, c.if-start-end.false) in
    let end : c.div_ceil.result ≤ length c.args.words.now = omega (arith, c.div_ceil.ensures, c.requires.within) in
    search rules

pub returns-in-Some : goal.returns-in-Some
returns-in-Some c = λ n held.
    next_in_words n c.args.words.now c.args.start _ (c.div_ceil.result - (c.args.start / 64 + 1)) c.in-Some.index held refl c.if-rest-ne0.false c.in-Some.ensures

pub returns-in-None : goal.returns-in-None
returns-in-None c = λ n held.
    none_in_words n c.args.words.now c.args.start _ (c.div_ceil.result - (c.args.start / 64 + 1)) c.args.end held refl c.if-rest-ne0.false
    (λ i low. c.in-None.ensures i (omega (arith, low, c.div_ceil.ensures, c.requires.within, c.requires.counted)))
    (omega (arith, c.div_ceil.ensures))
