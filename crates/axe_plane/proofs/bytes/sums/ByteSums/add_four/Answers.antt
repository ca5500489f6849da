use Rattle.std.proofs.Common.{◌≡◌, ℕ, List, ◌++◌, take, drop, length, ap, sym, ◌∙◌, arith}
use Rattle.axe_plane.specs.Primes.{byte_prime, ByteDigits}
use Rattle.axe_plane.specs.Sums.{remainders}
use Rattle.axe_plane.specs.declared.primes.BytePrime.{BytePrime}
use Rattle.axe_plane.proofs.SumLaws.{Ready, Summed, reduced, summed, byte_prime-at_least, byte_prime-at_most}
use Rattle.axe_plane.proofs.bytes.sums.ByteSums.add_four.Goals.{then-self-more, else-self-more}
use Rattle.axe_plane.proofs.bytes.sums.ByteSums.add_four.Goals as goal

-- what the branch keeps
pub record Kept (prime : BytePrime) (digits : List ℕ) (after : BytePrime) (most : ℕ) (bytes : List ℕ) : Type 0 where
  pub prime_is : after ≡ prime
  pub ready : Ready (byte_prime prime) digits most bytes

kept : (c : goal.After-self-3-1) → Kept c.args.self.now.prime c.args.self.now.digits c.if-self-more.self-inside.prime c.if-self-more.self-inside.most
    c.if-self-more.self-inside.bytes.items
kept c =
    let prime = ap (λ (s : ByteDigits). s.prime) c.self.view_is in
    let same = ap byte_prime prime in
    let stand = ap (λ q. remainders q c.self.inside.bytes.items) (sym same) ∙ ap (λ (s : ByteDigits). s.digits) c.self.view_is in
    let number = c.number-prime.ensures ∙ same in
    let large = byte_prime-at_least c.args.self.now.prime in
    let small = byte_prime-at_most c.args.self.now.prime in
    elim c.if-self-more.branch [
      | then-self-more w ↦
          rw w.self-inside-is (record {
            prime_is = prime;
            ready = reduced _ _ (byte_prime c.args.self.now.prime) c.args.self.now.digits c.self.inside.bytes.items _ _ c.self.inside.bytes.ok.0
                w.deref_mut.ensures.value number large small stand w.reduce_bytes.ensures;
          })
      | else-self-more w ↦
          rw w.self-inside-is (record {
            prime_is = prime;
            ready = record {
              stand = stand;
              small = c.self.invariant;
              room = omega (arith, w.if-self-more, number, large, small);
            };
          })
    ]

sums : (c : goal.After-self-3-1) → Summed (byte_prime c.args.self.now.prime) c.number-prime.result c.args.self.now.digits c.args.a.now c.args.b.now
    c.args.c.now c.args.d.now c.if-self-more.self-inside.most
    (take c.if-self-more.self-inside.bytes.len (c.add4_wrapping.new.dst ++ drop (length c.add4_wrapping.new.dst) c.if-self-more.self-inside.bytes.items))
sums c =
    let number = c.number-prime.ensures ∙ ap (λ (s : ByteDigits). byte_prime s.prime) c.self.view_is in
    summed _ _ (byte_prime c.args.self.now.prime) c.if-self-more.self-inside.most c.args.self.now.digits c.if-self-more.self-inside.bytes.items
    c.args.a.now c.args.b.now c.args.c.now c.args.d.now
    _ _ c.if-self-more.self-inside.bytes.ok.0 c.deref_mut-2.ensures.value number (kept c).ready c.requires.a c.requires.b c.requires.c c.requires.d
    c.requires.a_fits c.requires.b_fits c.requires.c_fits c.requires.d_fits c.add4_wrapping.ensures

pub invariant_of-self : goal.invariant_of-self
invariant_of-self c = (sums c).small

pub returns : goal.returns
returns c =
    let new : List ℕ =
    take c.if-self-more.self-inside.bytes.len (c.add4_wrapping.new.dst ++ drop (length c.add4_wrapping.new.dst) c.if-self-more.self-inside.bytes.items) in
    let prime = (kept c).prime_is in
    let digits = ap (λ (q : BytePrime). remainders (byte_prime q) new) prime ∙ (sums c).stand in
    λ i. record { prime = prime i; digits = digits i }
