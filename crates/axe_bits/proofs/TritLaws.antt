-- Two layers of bits as digits modulo 3: how many they are, and which.
use Rattle.std.proofs.Common.{◌≡◌, ℕ, ◌+◌, ◌*◌, List, length, get_or, arith}
use Rattle.std.proofs.lemmas.List.{get_or_past}
use native.Mathlib.Decide.{dec_lt}
use Rattle.axe_algebra.proofs.ListEntries.{listed_length, listed_at}
use Rattle.axe_bits.specs.Trits.{trits, HoldTrits}

pub length-trits : (a b : List ℕ) → length (trits a b) ≡ length a
unfolding trits
length-trits a b = listed_length (length a) _

-- each digit, at any index
pub get_or-trits : (a b : List ℕ) → HoldTrits a b → (e : ℕ) → get_or (trits a b) e 0 ≡ get_or a e 0 + 2 * get_or b e 0
unfolding trits
get_or-trits a b h e = elim (dec_lt e (length a)) [
  | yes below ↦ listed_at (length a) _ e 0 below
  | no past ↦
      let left = get_or_past a e 0 (omega arith) in
      let right = get_or_past b e 0 (omega (arith, h.as_long)) in
      let whole = get_or_past (trits a b) e 0 (omega (arith, length-trits a b)) in
      omega (arith, left, right, whole)
]
