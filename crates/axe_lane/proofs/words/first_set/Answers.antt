use Rattle.std.proofs.Common.{ℕ, Option, ◌^◌, ◌<◌, get_or, arith, w64, subst, sym, MatchOption}
use Rattle.std.specs.Int.{trailing_zeros}
use Rattle.std.proofs.lemmas.Nat.Bits.{bit_at-trailing_zeros}
use Rattle.axe_lane.specs.Words.{HasNoSetBitBefore, IsFirstSetBit}
use Rattle.axe_lane.proofs.ZeroLaws.{first_set_bit, no_set_bit, no_set_bit_before}
use Rattle.axe_lane.proofs.words.first_set.Goals as goal

pub returns : goal.returns
returns c =
    let at = c.in_ok-at.at in
    let first = c.in_ok-at.ensures in
    let word = get_or c.args.words.now at 0 in
    let positive : 0 < word = omega (arith, first.nonzero) in
    let bit = bit_at-trailing_zeros w64 word positive (c.type_inv.words at).fits in
    rw c.in_ok-before.ensures.1 (first_set_bit c.args.words.now at (trailing_zeros w64 word) first bit.0 bit.1 bit.2)

pub returns-in_err-at : goal.returns-in_err-at
returns-in_err-at c =
    subst (λ (r : Option ℕ). MatchOption r (HasNoSetBitBefore c.args.words.now (2 ^ 64)) (IsFirstSetBit c.args.words.now)) (sym c.from_residual.ensures)
    (no_set_bit c.args.words.now (2 ^ 64) c.in_err-at.ensures)

pub returns-in_err-before : goal.returns-in_err-before
returns-in_err-before c =
    subst (λ (r : Option ℕ). MatchOption r (HasNoSetBitBefore c.args.words.now (2 ^ 64)) (IsFirstSetBit c.args.words.now)) (sym c.from_residual-in_err-before.ensures)
    (no_set_bit_before c.args.words.now c.in_ok-at.at (2 ^ 64) c.in_ok-at.ensures (omega (arith, c.in_err-before.ensures)))
