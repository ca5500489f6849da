use Rattle.std.proofs.Common.{◌≡◌, ◌++◌, ◌+◌, ◌-◌, ◌≤◌, List, ℕ, length, take, drop, ap, sym, subst, ◌∙◌, arith}
use Rattle.axe_lane.specs.Bytes.{AreDigits}
use Rattle.axe_layer.specs.Digits.{digits_with_multiple}
use Rattle.axe_layer.proofs.DigitLaws.{AreDigits-sum}
use Rattle.axe_plane.specs.Primes.{byte_prime, ByteDigits}
use Rattle.axe_plane.specs.Sums.{placed}
use Rattle.axe_plane.proofs.PlaneLaws.{byte_prime-positive}
use Rattle.axe_plane.proofs.PlacedDigits.{written-middle}
use Rattle.axe_plane.proofs.bytes.BytePlane.add_bytes_at.Goals as goal

-- the bytes with the middle written anew
abbrev whole : goal.After-self-1 → List ℕ
whole c =
    take c.args.start c.deref_mut.result.now
    ++ (c.add_scaled_bytes.new.dst
    ++ drop (c.args.start + length c.args.bytes.now - c.args.start) (drop c.args.start c.deref_mut.result.now))

-- the digits after
digits : (c : goal.After-self-1) → take c.self.inside.bytes.len
    (whole c ++ drop (length (whole c)) c.self.inside.bytes.items)
    ≡ digits_with_multiple (byte_prime c.self.inside.prime) c.self.inside.bytes.items 1
    (placed (length c.self.inside.bytes.items) c.args.start c.args.bytes.now)
digits c =
    let mine = ap (λ (s : ByteDigits). length s.digits) c.self.view_is in
    let within : c.args.start + length c.args.bytes.now ≤ length c.self.inside.bytes.items =
    omega (arith, c.requires.within, mine) in
    written-middle _ _ (byte_prime c.self.inside.prime) 1 c.args.start _ c.self.inside.bytes.items c.args.bytes.now _ _
    c.self.inside.bytes.ok.0 c.deref_mut.ensures.value c.number-prime.ensures within
    (byte_prime-positive c.self.inside.prime) c.self.invariant (omega arith) c.add_scaled_bytes.ensures.sum

pub invariant_of-self : goal.invariant_of-self
invariant_of-self c =
    subst (AreDigits (byte_prime c.self.inside.prime)) (sym (digits c))
    (AreDigits-sum (byte_prime c.self.inside.prime) c.self.inside.bytes.items 1 _
    (byte_prime-positive c.self.inside.prime))

pub returns : goal.returns
returns c =
    ap (λ (x : List ℕ). record { prime = c.self.inside.prime; digits = x }) (digits c)
    ∙ ap (λ (s : ByteDigits). record {
      prime = s.prime;
      digits =
          digits_with_multiple (byte_prime s.prime) s.digits 1 (placed (length s.digits) c.args.start c.args.bytes.now);
    }) c.self.view_is
