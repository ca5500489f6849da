use Rattle.std.proofs.Common.{ℕ, ◌+◌, ◌*◌, List, get_or, ap, ◌∙◌, arith}
use Rattle.std.proofs.lemmas.List.{get_or-drop, get_or_past, take_rest}
use Rattle.std.proofs.lemmas.Nat.Bits.{bit_at-zero}
use Rattle.axe_plane.proofs.bytes.BytePlane.bit_words.Goals as goal

pub returns-then-at-div_ceil : goal.returns-then-at-div_ceil
returns-then-at-div_ceil c i low =
    let none = get_or_past c.args.self.now.digits (c.args.at * 64 + i) 0 (omega (arith, c.if-at-div_ceil.true, c.div_ceil.ensures, c.len.ensures.count)) in
    omega (arith, none, bit_at-zero i)

pub returns-then-rest-ge-WORD : goal.returns-then-rest-ge-WORD
returns-then-rest-ge-WORD c i low =
    c.words_of_block.ensures i low ∙ ap (λ (x : List ℕ). get_or x i 0) (take_rest c.bytes.result.now (c.args.at * 64))
    ∙ get_or-drop (c.args.at * 64) c.bytes.result.now i 0 ∙ ap (λ (x : List ℕ). get_or x (c.args.at * 64 + i) 0) c.bytes.ensures.value

pub returns : goal.returns
returns c i low =
    c.words_of_block-2.ensures i low ∙ c.filled_block.ensures.first i low
    ∙ ap (λ (x : List ℕ). get_or x i 0) (take_rest c.bytes.result.now (c.args.at * 64))
    ∙ get_or-drop (c.args.at * 64) c.bytes.result.now i 0 ∙ ap (λ (x : List ℕ). get_or x (c.args.at * 64 + i) 0) c.bytes.ensures.value
