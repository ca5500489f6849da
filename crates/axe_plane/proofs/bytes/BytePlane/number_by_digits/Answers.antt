use Rattle.std.proofs.Common.{◌≡◌, ℕ, ◌+◌, ◌*◌, ◌<◌, ◌≤◌, List, length, get_or, ap, ◌∙◌, arith, lit<}
use native.Mathlib.Nat.{mul-le-mul_left}
use Rattle.axe_lane.specs.Bytes.{AreDigits}
use Rattle.axe_layer.specs.Digits.{number_bound}
use Rattle.axe_plane.specs.Primes.{byte_prime, ByteDigits}
use Rattle.axe_plane.specs.declared.primes.BytePrime.{BytePrime}
use Rattle.axe_plane.specs.declared.primes.BytePrime.TheVariants.{Five, Seven}
use Rattle.axe_layer.proofs.DigitLaws.{digit-below}
use Rattle.axe_plane.proofs.PlaneLaws.{byte_prime-positive}
use Rattle.axe_layer.proofs.PieceDigits.{IsNumberOf-none, IsNumberOf-more, IsNumberOf-small, IsNumberOf-few, IsNumberOf-all}
use Rattle.axe_plane.proofs.bytes.BytePlane.number_by_digits.Goals as goal

small_prime : (p : BytePrime) → byte_prime p < 9
small_prime Five = lit< tt
small_prime Seven = lit< tt

digit : (p : BytePrime) (bytes : List ℕ) (self : ByteDigits) (k : ℕ) → AreDigits (byte_prime p) bytes → record { prime = p; digits = bytes } ≡ self →
    get_or self.digits k 0 < 9
digit p bytes self k all is =
    let below : get_or bytes k 0 < byte_prime p = digit-below (byte_prime p) bytes k (byte_prime-positive p) all in
    omega (arith, below, small_prime p, ap (λ (x : ByteDigits). get_or x.digits k 0) is)

pub loop-index-init : goal.loop-index-init
loop-index-init c = IsNumberOf-none _ _ _

pub overflow_mul-number : goal.overflow_mul-number
overflow_mul-number c =
    let few : c.loop-index.index ≤ c.args.at + 8 = omega (arith, c.loop-index-test.true, c.min-index-end.ensures, c.requires.short) in
    let small : c.loop-index.number < number_bound = IsNumberOf-small _ _ _ _ _ c.loop-index.invariant few in
    let product : c.loop-index.number * c.args.base ≤ c.loop-index.number * 9 = mul-le-mul_left c.loop-index.number c.requires.base in
    omega arith

pub overflow_add-number : goal.overflow_add-number
overflow_add-number c =
    let few : c.loop-index.index ≤ c.args.at + 8 = omega (arith, c.loop-index-test.true, c.min-index-end.ensures, c.requires.short) in
    let small : c.loop-index.number < number_bound = IsNumberOf-small _ _ _ _ _ c.loop-index.invariant few in
    let product : c.loop-index.number * c.args.base ≤ c.loop-index.number * 9 = mul-le-mul_left c.loop-index.number c.requires.base in
    omega (arith, c.from.ensures, c.get.ensures, digit _ _ _ c.loop-index.index c.self.invariant c.self.view_is)

pub loop-index-preserved : goal.loop-index-preserved
loop-index-preserved c =
    let is = c.from.ensures ∙ c.get.ensures in
    IsNumberOf-more _ _ _ _ _ _ c.loop-index.invariant c.loop-index.auto.index c.requires.base is (omega (arith, is, digit _ _ _ c.loop-index.index c.self.invariant c.self.view_is))

pub returns-clause-value : goal.returns-clause-value
returns-clause-value c =
    IsNumberOf-all _ _ c.args.size _ _ _ c.loop-index.invariant
    (λ inside. omega (arith, c.loop-index.auto.index, c.loop-index.auto.index-end, c.loop-index-test.false, c.min-index-end.ensures, c.len.ensures, ap (λ (s : ByteDigits). length s.digits) c.self.view_is))

pub returns-clause-small : goal.returns-clause-small
returns-clause-small c =
    IsNumberOf-few _ _ _ _ _ c.loop-index.invariant
    (λ inside. omega (arith, c.loop-index.auto.index-end, c.loop-index-test.false, c.min-index-end.ensures, c.requires.short, c.len.ensures, ap (λ (s : ByteDigits). length s.digits) c.self.view_is))
