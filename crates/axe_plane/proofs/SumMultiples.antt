-- Sums of digits to which multiples of others are added, where the remainders are not taken.
use Rattle.std.proofs.Common.{◌≡◌, ℕ, ◌+◌, ◌-◌, ◌*◌, ◌%◌, ◌<◌, ◌≤◌, List, ◌++◌, length, get_or, take, drop, sym, ap, ◌∙◌, arith}
use Rattle.std.proofs.lemmas.List.{map-append, take-map, drop-map}
use Rattle.axe_lane.specs.Bytes.{sum_with_four_multiples, sum_with_multiple_modulo}
use Rattle.axe_lane.specs.Entries.{AreZerosBefore}
use Rattle.axe_layer.specs.Digits.{digits_with_multiple}
use Rattle.axe_layer.proofs.BitLaws.{written}
use Rattle.axe_layer.proofs.DigitLaws.{digit-below, zip2-sum}
use Rattle.axe_layer.proofs.EndLaws.{zip2-written}
use Rattle.axe_plane.specs.Planes.{IsPlane}
use Rattle.axe_plane.specs.Primes.{byte_prime}
use Rattle.axe_plane.specs.Sums.{plane_of_sums, remainders}
use Rattle.axe_plane.specs.declared.primes.BytePrime.{BytePrime}
use Rattle.axe_plane.proofs.FourMultiples.{with_multiples, length-with_multiples, sums_with_multiples}
use Rattle.axe_plane.proofs.PlaneLaws.{unchanged}
use Rattle.axe_plane.proofs.SumLaws.{length-remainders, remainders-digits}

-- ---- bytes written over others

-- the bytes of a vector over which others are written
abbrev pub over : ℕ → List ℕ → List ℕ → List ℕ
over k new x = take k (new ++ drop (length new) x)

-- as many, that stand for the same digits
pub record StandAlike (k p : ℕ) (x after : List ℕ) : Type 0 where
  pub long : k ≡ length after
  pub stand : remainders p after ≡ remainders p x

-- where the bytes are replaced by others of the same remainders
pub stand_alike : (k r p : ℕ) (x v new : List ℕ) → k ≡ length x → v ≡ x → r ≡ p → remainders r new ≡ remainders r v →
    StandAlike k p x (over k new x)
stand_alike k r p x v new all same prime kept =
    let stand : remainders p new ≡ remainders p x =
    ap (λ q. remainders q new) (sym prime) ∙ kept ∙ ap (λ q. remainders q v) prime ∙ ap (remainders p) same in
    let long : length new ≡ length x = sym (length-remainders p new) ∙ ap length stand ∙ length-remainders p x in
    let is = written k new x all long in
    record {
      long = all ∙ sym long ∙ sym (ap length is);
      stand = ap (remainders p) is ∙ stand;
    }

-- the plane that bytes stand for, by its prime as a number
pub plane_of_remainders : (prime : BytePrime) (p : ℕ) (bytes digits : List ℕ) → byte_prime prime ≡ p → remainders p bytes ≡ digits →
    IsPlane p digits (plane_of_sums (record { prime = prime; digits = remainders (byte_prime prime) bytes }))
plane_of_remainders prime p bytes digits is stand = record {
  prime = is;
  digits_are = ap (λ q. remainders q bytes) is ∙ stand;
}

-- ---- four multiples

pub four_multiples_stand : (k r p : ℕ) (factors x digits a b c d v dst : List ℕ) → k ≡ length x → v ≡ x → r ≡ p → remainders p x ≡ digits →
    length a ≡ length digits → length b ≡ length digits → length c ≡ length digits → length d ≡ length digits →
    remainders r dst ≡ sum_with_four_multiples r factors (remainders r v) a b c d →
    remainders p (over k dst x) ≡ with_multiples p factors digits a b c d
four_multiples_stand k r p factors x digits a b c d v dst all same prime stand ha hb hc hd is =
    let before : remainders p v ≡ digits = ap (remainders p) same ∙ stand in
    let after : remainders p dst ≡ with_multiples p factors digits a b c d =
    ap (λ q. remainders q dst) (sym prime) ∙ is
    ∙ ap (λ q. sum_with_four_multiples q factors (remainders q v) a b c d) prime
    ∙ ap (λ (s : List ℕ). sum_with_four_multiples p factors s a b c d) before
    ∙ sums_with_multiples p factors digits a b c d ha hb hc hd in
    let long : length dst ≡ length x =
    sym (length-remainders p dst) ∙ ap length after ∙ length-with_multiples p factors digits a b c d
    ∙ sym (ap length stand) ∙ length-remainders p x in
    ap (remainders p) (written k dst x all long) ∙ after

-- ---- one multiple, from an index on

module _ (p a : ℕ) where
  abbrev remainder : ℕ → ℕ
  remainder x = x % p

  -- the end of a list
  abbrev end : List ℕ → List ℕ
  end v = take (length v - a) (drop a v)

  -- a list with another end
  abbrev pub with_end : List ℕ → List ℕ → List ℕ
  with_end v new = take a v ++ (new ++ drop (length v - a) (drop a v))

  remainders-drop : (n : ℕ) (v : List ℕ) → remainders p (drop n v) ≡ drop n (remainders p v)
  remainders-drop n v = sym (drop-map remainder n v)

  remainders-take : (n : ℕ) (v : List ℕ) → remainders p (take n v) ≡ take n (remainders p v)
  remainders-take n v = sym (take-map remainder n v)

  remainders-over : (k : ℕ) (new x : List ℕ) → remainders p (over k new x) ≡ over k (remainders p new) (remainders p x)
  remainders-over k new x =
      remainders-take k (new ++ drop (length new) x)
      ∙ ap (take k) (map-append remainder new (drop (length new) x))
      ∙ ap (λ (rest : List ℕ). take k (remainders p new ++ rest)) (remainders-drop (length new) x)
      ∙ ap (λ n. take k (remainders p new ++ drop n (remainders p x))) (sym (length-remainders p new))

  remainders-end : (v : List ℕ) → remainders p (end v) ≡ end (remainders p v)
  remainders-end v =
      remainders-take (length v - a) (drop a v)
      ∙ ap (take (length v - a)) (remainders-drop a v)
      ∙ ap (λ n. take (n - a) (drop a (remainders p v))) (sym (length-remainders p v))

  remainders-with_end : (v new : List ℕ) → remainders p (with_end v new) ≡ with_end (remainders p v) (remainders p new)
  remainders-with_end v new =
      map-append remainder (take a v) (new ++ drop (length v - a) (drop a v))
      ∙ ap (λ (front : List ℕ). front ++ remainders p (new ++ drop (length v - a) (drop a v))) (remainders-take a v)
      ∙ ap (λ (rest : List ℕ). take a (remainders p v) ++ rest) (map-append remainder new (drop (length v - a) (drop a v)))
      ∙ ap (λ (rest : List ℕ). take a (remainders p v) ++ (remainders p new ++ rest))
      (remainders-drop (length v - a) (drop a v) ∙ ap (drop (length v - a)) (remainders-drop a v)
      ∙ ap (λ n. drop (n - a) (drop a (remainders p v))) (sym (length-remainders p v)))

  -- the list that is added has zeros before the index
  pub multiple_stands : (k r m : ℕ) (x digits b v w dst : List ℕ) → k ≡ length x → v ≡ x → w ≡ b → r ≡ p → remainders p x ≡ digits →
      length b ≡ length digits → a ≤ length digits → AreZerosBefore b a → 0 < p →
      remainders r dst ≡ sum_with_multiple_modulo r (remainders r (end v)) m (end w) →
      remainders p (over k (with_end v dst) x) ≡ digits_with_multiple p digits m b
  multiple_stands k r m x digits b v w dst all same other prime stand fits within zeros positive is =
      let long : length (remainders p x) ≡ length digits = ap length stand in
      let added : remainders p dst ≡ sum_with_multiple_modulo p (end (remainders p v)) m (end w) =
      ap (λ q. remainders q dst) (sym prime) ∙ is
      ∙ ap (λ q. sum_with_multiple_modulo q (remainders q (end v)) m (end w)) prime
      ∙ ap (λ (s : List ℕ). sum_with_multiple_modulo p s m (end w)) (remainders-end v) in
      remainders-over k (with_end v dst) x
      ∙ ap (λ (s : List ℕ). over k s (remainders p x)) (remainders-with_end v dst)
      ∙ zip2-written (λ y z. (y + m * z) % p) a (remainders p x) b (omega (arith, within, long)) (fits ∙ sym long)
      (λ j before. unchanged p m (get_or (remainders p x) j 0) (get_or b j 0)
      (digit-below p (remainders p x) j positive (remainders-digits p x positive)) (zeros j before))
      k (remainders p v) w (remainders p dst) (all ∙ sym (length-remainders p x)) (ap (remainders p) same) other added
      ∙ ap (λ (s : List ℕ). sum_with_multiple_modulo p s m b) stand
      ∙ zip2-sum p digits m b fits
