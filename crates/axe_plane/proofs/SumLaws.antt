-- Sums of digits whose remainders are not taken yet.
use Rattle.std.proofs.Common.{◌≡◌, ℕ, ◌+◌, ◌-◌, ◌*◌, ◌%◌, ◌<◌, ◌≤◌, List, [], ◌∷◌, ◌++◌, length, take, drop, refl, sym, ap, subst, ◌∙◌, arith}
use Rattle.std.specs.List.{All}
use Rattle.std.proofs.Math.Nat.{mod-eq_of_lt, mod-lt, mod-le, mod-mod, mod-add-mod}
use Rattle.std.proofs.lemmas.List.{length-map}
use Rattle.std.proofs.lemmas.List.Elements.{All-nil, All-cons, All-head, All-tail}
use Rattle.std.proofs.lemmas.Simd.{length-zip2}
use Rattle.axe_lane.specs.Bytes.{AreDigits, sum_modulo}
use Rattle.axe_layer.specs.Digits.{digits_with_four}
use Rattle.axe_layer.proofs.BitLaws.{written}
use Rattle.axe_layer.proofs.DigitLaws.{sum_of_five}
use Rattle.axe_plane.specs.Primes.{byte_prime}
use Rattle.axe_plane.specs.Sums.{remainders}
use Rattle.axe_plane.specs.declared.primes.BytePrime.{BytePrime}
use Rattle.axe_plane.specs.declared.primes.BytePrime.TheVariants.{Five, Seven}

pub byte_prime-at_least : (prime : BytePrime) → 4 ≤ byte_prime prime
byte_prime-at_least Five = omega arith
byte_prime-at_least Seven = omega arith

pub byte_prime-at_most : (prime : BytePrime) → byte_prime prime ≤ 7
byte_prime-at_most Five = omega arith
byte_prime-at_most Seven = omega arith

-- ---- remainders

pub length-remainders : (p : ℕ) (xs : List ℕ) → length (remainders p xs) ≡ length xs
length-remainders p xs = length-map xs (λ x. x % p)

-- remainders of remainders
pub remainders_twice : (p : ℕ) (xs : List ℕ) → remainders p (remainders p xs) ≡ remainders p xs
remainders_twice p [] = refl
remainders_twice p (x ∷ xs) = λ i. mod-mod x p i ∷ remainders_twice p xs i

-- remainders are digits
pub remainders-digits : (p : ℕ) (xs : List ℕ) → 0 < p → AreDigits p (remainders p xs)
remainders-digits p [] positive = All-nil (λ digit. digit < p)
remainders-digits p (x ∷ xs) positive =
    All-cons (λ digit. digit < p) (x % p) (remainders p xs) (mod-lt x positive) (remainders-digits p xs positive)

-- digits are their own remainders
pub remainders-of_digits : (p : ℕ) (xs : List ℕ) → AreDigits p xs → remainders p xs ≡ xs
remainders-of_digits p [] digits = refl
remainders-of_digits p (x ∷ xs) digits =
    let first : x % p ≡ x = mod-eq_of_lt (All-head (λ digit. digit < p) x xs digits) in
    let rest = remainders-of_digits p xs (All-tail (λ digit. digit < p) x xs digits) in
    λ i. first i ∷ rest i

-- below a number that is greater
pub AreDigits-below : (p q : ℕ) → p ≤ q → (xs : List ℕ) → AreDigits p xs → AreDigits q xs
AreDigits-below p q greater [] digits = All-nil (λ digit. digit < q)
AreDigits-below p q greater (x ∷ xs) digits =
    let here : x < p = All-head (λ digit. digit < p) x xs digits in
    let rest = AreDigits-below p q greater xs (All-tail (λ digit. digit < p) x xs digits) in
    All-cons (λ digit. digit < q) x xs (omega (arith, greater, here)) rest

remainders-small : (p : ℕ) (xs : List ℕ) → 0 < p → All (λ byte. byte ≤ p - 1) (remainders p xs)
remainders-small p [] positive = All-nil (λ byte. byte ≤ p - 1)
remainders-small p (x ∷ xs) positive =
    let below : x % p < p = mod-lt x positive in
    All-cons (λ byte. byte ≤ p - 1) (x % p) (remainders p xs) (omega (arith, below)) (remainders-small p xs positive)

-- ---- a sum with one list of digits, where no byte wraps

one_remainder : (p m x a : ℕ) → m + (p - 1) < 256 → x ≤ m → a < p → ((x + a) % 256) % p ≡ (x % p + a) % p
one_remainder p m x a room small digit =
    let within : x + a < 256 = omega (arith, room, small, digit) in
    ap (λ s. s % p) (mod-eq_of_lt within) ∙ sym (mod-add-mod x p a)

remainders-sum : (p m : ℕ) → m + (p - 1) < 256 → (xs ys : List ℕ) → All (λ byte. byte ≤ m) xs → AreDigits p ys →
    remainders p (sum_modulo 256 xs ys) ≡ sum_modulo p (remainders p xs) ys
remainders-sum p m room [] ys small digits = refl
remainders-sum p m room (x ∷ xs) [] small digits = refl
remainders-sum p m room (x ∷ xs) (a ∷ ys) small digits =
    let first = one_remainder p m x a room (All-head (λ byte. byte ≤ m) x xs small) (All-head (λ digit. digit < p) a ys digits) in
    let rest = remainders-sum p m room xs ys (All-tail (λ byte. byte ≤ m) x xs small) (All-tail (λ digit. digit < p) a ys digits) in
    λ i. first i ∷ rest i

sum-small : (p m n : ℕ) → n ≡ m + (p - 1) → (xs ys : List ℕ) → All (λ byte. byte ≤ m) xs → AreDigits p ys →
    All (λ byte. byte ≤ n) (sum_modulo 256 xs ys)
sum-small p m n next [] ys small digits = All-nil (λ byte. byte ≤ n)
sum-small p m n next (x ∷ xs) [] small digits = All-nil (λ byte. byte ≤ n)
sum-small p m n next (x ∷ xs) (a ∷ ys) small digits =
    let here : x ≤ m = All-head (λ byte. byte ≤ m) x xs small in
    let digit : a < p = All-head (λ digit. digit < p) a ys digits in
    let less : (x + a) % 256 ≤ x + a = mod-le (x + a) 256 in
    let rest = sum-small p m n next xs ys (All-tail (λ byte. byte ≤ m) x xs small) (All-tail (λ digit. digit < p) a ys digits) in
    All-cons (λ byte. byte ≤ n) ((x + a) % 256) (sum_modulo 256 xs ys) (omega (arith, next, here, digit, less)) rest

-- ---- a sum with four lists of digits

-- bytes that stand for these digits, each at most `most`, with room for four digits more
pub record Ready (p : ℕ) (digits : List ℕ) (most : ℕ) (bytes : List ℕ) : Type 0 where
  pub stand : remainders p bytes ≡ digits
  pub small : All (λ byte. byte ≤ most) bytes
  pub room : most + 4 * (p - 1) < 256

-- the bytes of a sum
abbrev pub sum_of_bytes : List ℕ → List ℕ → List ℕ → List ℕ → List ℕ → List ℕ
sum_of_bytes x a b c d = sum_modulo 256 (sum_modulo 256 (sum_modulo 256 (sum_modulo 256 x a) b) c) d

module _ (p m : ℕ) (x a b c d digits : List ℕ) (ready : Ready p digits m x)
    (da : AreDigits p a) (db : AreDigits p b) (dc : AreDigits p c) (dd : AreDigits p d) where
  abbrev one : ℕ
  one = m + (p - 1)

  abbrev two : ℕ
  two = m + 2 * (p - 1)

  abbrev three : ℕ
  three = m + 3 * (p - 1)

  abbrev with_one : List ℕ
  with_one = sum_modulo 256 x a

  abbrev with_two : List ℕ
  with_two = sum_modulo 256 with_one b

  abbrev with_three : List ℕ
  with_three = sum_modulo 256 with_two c

  small-one : All (λ byte. byte ≤ one) with_one
  small-one = sum-small p m one refl x a ready.small da

  small-two : All (λ byte. byte ≤ two) with_two
  small-two = sum-small p one two (omega arith) with_one b small-one db

  small-three : All (λ byte. byte ≤ three) with_three
  small-three = sum-small p two three (omega arith) with_two c small-two dc

  pub sum_of_bytes-small : All (λ byte. byte ≤ m + 4 * (p - 1)) (sum_of_bytes x a b c d)
  sum_of_bytes-small = sum-small p three (m + 4 * (p - 1)) (omega arith) with_three d small-three dd

  pub remainders-sum_of_bytes : length a ≡ length digits → length b ≡ length digits → length c ≡ length digits → length d ≡ length digits →
      remainders p (sum_of_bytes x a b c d) ≡ digits_with_four p digits a b c d
  remainders-sum_of_bytes ha hb hc hd =
      remainders-sum p three (omega (arith, ready.room)) with_three d small-three dd
      ∙ ap (λ (s : List ℕ). sum_modulo p s d) (remainders-sum p two (omega (arith, ready.room)) with_two c small-two dc)
      ∙ ap (λ (s : List ℕ). sum_modulo p (sum_modulo p s c) d) (remainders-sum p one (omega (arith, ready.room)) with_one b small-one db)
      ∙ ap (λ (s : List ℕ). sum_modulo p (sum_modulo p (sum_modulo p s b) c) d) (remainders-sum p m (omega (arith, ready.room)) x a ready.small da)
      ∙ ap (λ (s : List ℕ). sum_modulo p (sum_modulo p (sum_modulo p (sum_modulo p s a) b) c) d) ready.stand
      ∙ sum_of_five p digits a b c d ha hb hc hd

-- ---- bytes written over bytes

-- the remainders, written over the bytes
pub remainders_written : (k r p : ℕ) (x v new : List ℕ) → k ≡ length x → v ≡ x → r ≡ p → new ≡ remainders r v →
    take k (new ++ drop (length new) x) ≡ remainders p x
remainders_written k r p x v new all same prime is =
    let after : new ≡ remainders p x = is ∙ ap (λ q. remainders q v) prime ∙ ap (remainders p) same in
    written k new x all (ap length after ∙ length-remainders p x) ∙ after

-- they have room again
pub reduced : (k r p : ℕ) (digits x v new : List ℕ) → k ≡ length x → v ≡ x → r ≡ p → 4 ≤ p → p ≤ 7 → remainders p x ≡ digits →
    new ≡ remainders r v → Ready p digits (r - 1) (take k (new ++ drop (length new) x))
reduced k r p digits x v new all same prime large small stand is =
    let positive : 0 < p = omega (arith, large) in
    let after = remainders_written k r p x v new all same prime is in
    let less : p - 1 ≡ r - 1 = ap (λ q. q - 1) (sym prime) in
    record {
      stand = ap (remainders p) after ∙ remainders_twice p x ∙ stand;
      small = subst (λ m. All (λ byte. byte ≤ m) (take k (new ++ drop (length new) x))) less
          (subst (All (λ byte. byte ≤ p - 1)) (sym after) (remainders-small p x positive));
      room = omega (arith, prime, large, small);
    }

-- the sum, written over the bytes
sum_written : (k : ℕ) (x a b c d v dst : List ℕ) → k ≡ length x → v ≡ x → length a ≡ length x → length b ≡ length x → length c ≡ length x →
    length d ≡ length x → dst ≡ sum_of_bytes v a b c d → take k (dst ++ drop (length dst) x) ≡ sum_of_bytes x a b c d
sum_written k x a b c d v dst all same ha hb hc hd is =
    let f : ℕ → ℕ → ℕ = λ y z. (y + z) % 256 in
    let after : dst ≡ sum_of_bytes x a b c d = is ∙ ap (λ (s : List ℕ). sum_of_bytes s a b c d) same in
    let l1 = length-zip2 f x a (sym ha) in
    let l2 = length-zip2 f (sum_modulo 256 x a) b (l1 ∙ sym hb) ∙ l1 in
    let l3 = length-zip2 f (sum_modulo 256 (sum_modulo 256 x a) b) c (l2 ∙ sym hc) ∙ l2 in
    let l4 = length-zip2 f (sum_modulo 256 (sum_modulo 256 (sum_modulo 256 x a) b) c) d (l3 ∙ sym hd) ∙ l3 in
    written k dst x all (ap length after ∙ l4) ∙ after

-- what four lists of digits added to bytes with room give
pub record Summed (p r : ℕ) (digits a b c d : List ℕ) (most : ℕ) (bytes : List ℕ) : Type 0 where
  pub stand : remainders p bytes ≡ digits_with_four p digits a b c d
  pub small : All (λ byte. byte ≤ most + 4 * (r - 1)) bytes

pub summed : (k r p m : ℕ) (digits x a b c d v dst : List ℕ) → k ≡ length x → v ≡ x → r ≡ p → Ready p digits m x →
    AreDigits p a → AreDigits p b → AreDigits p c → AreDigits p d → length a ≡ length digits → length b ≡ length digits →
    length c ≡ length digits → length d ≡ length digits → dst ≡ sum_of_bytes v a b c d →
    Summed p r digits a b c d m (take k (dst ++ drop (length dst) x))
summed k r p m digits x a b c d v dst all same prime ready da db dc dd ha hb hc hd is =
    let long : length digits ≡ length x = sym (ap length ready.stand) ∙ length-remainders p x in
    let after = sum_written k x a b c d v dst all same (ha ∙ long) (hb ∙ long) (hc ∙ long) (hd ∙ long) is in
    let most : m + 4 * (p - 1) ≡ m + 4 * (r - 1) = ap (λ q. m + 4 * (q - 1)) (sym prime) in
    record {
      stand = ap (remainders p) after ∙ remainders-sum_of_bytes p m x a b c d digits ready da db dc dd ha hb hc hd;
      small = subst (λ n. All (λ byte. byte ≤ n) (take k (dst ++ drop (length dst) x))) most
          (subst (All (λ byte. byte ≤ m + 4 * (p - 1))) (sym after) (sum_of_bytes-small p m x a b c d digits ready da db dc dd));
    }
