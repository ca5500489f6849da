-- Numbers to which multiples of digits are added, one after another.
use Rattle.std.proofs.Common.{◌≡◌, ℕ, ◌+◌, ◌-◌, ◌*◌, ◌/◌, ◌%◌, ◌<◌, ◌≤◌, List, length, ◌++◌, take, drop, get_or, min, sym, ap, ap₂, subst, ◌∙◌, arith}
use Rattle.std.specs.Int.{bit_at}
use Rattle.std.specs.Simd.Lanes.{put_chunk}
use Rattle.std.proofs.lemmas.Simd.{get_or-chunk, length-chunk, length-put_chunk, put_chunk_is}
use Rattle.std.proofs.lemmas.Simd.{get_or-put_chunk_above, get_or-put_chunk_at, get_or-put_chunk_below}
use Rattle.std.proofs.lemmas.List.{ext_get_or, get_or_past}
use native.Mathlib.Decide.{dec_lt}
use Rattle.axe_algebra.proofs.ListEntries.{listed_length, listed_at}
use Rattle.axe_layer.specs.Bits.{bits}
use Rattle.axe_layer.specs.Digits.{numbers_with_multiple, AreSmallSums}
use Rattle.axe_layer.proofs.BitLaws.{plane_long, get_or-bits, bit_of-word}

pub length-numbers_with_multiple : (a : List ℕ) (m : ℕ) (digits : List ℕ) → length (numbers_with_multiple a m digits) ≡ length a
unfolding numbers_with_multiple
length-numbers_with_multiple a m digits = listed_length (length a) _

pub get_or-numbers_with_multiple : (a : List ℕ) (m : ℕ) (digits : List ℕ) (e : ℕ) → e < length a →
    get_or (numbers_with_multiple a m digits) e 0 ≡ get_or a e 0 + m * get_or digits e 0
unfolding numbers_with_multiple
get_or-numbers_with_multiple a m digits e below = listed_at (length a) _ e 0 below

-- the numbers before an index are done
pub record IsAddedBelow (old : List ℕ) (m : ℕ) (digits : List ℕ) (at : ℕ) (now : List ℕ) : Type 0 where
  pub long : length now ≡ length old
  pub done : (e : ℕ) → e < at → get_or now e 0 ≡ get_or old e 0 + m * get_or digits e 0
  pub left : (e : ℕ) → at ≤ e → get_or now e 0 ≡ get_or old e 0

pub added_all : (old : List ℕ) (m : ℕ) (digits : List ℕ) (at : ℕ) (now : List ℕ) → IsAddedBelow old m digits at now → length digits ≤ at →
    now ≡ numbers_with_multiple old m digits
added_all old m digits at now h all =
    ext_get_or 0 now (numbers_with_multiple old m digits) (h.long ∙ sym (length-numbers_with_multiple old m digits)) (λ e inside.
    sum e ∙ sym (get_or-numbers_with_multiple old m digits e (omega (arith, h.long))))
  where
    sum : (e : ℕ) → get_or now e 0 ≡ get_or old e 0 + m * get_or digits e 0
    sum e = elim (dec_lt e at) [
      | yes before ↦ h.done e before
      | no past ↦
          let none = get_or_past digits e 0 (omega arith) in
          let nothing : get_or old e 0 ≡ get_or old e 0 + m * get_or digits e 0 = rw none (omega arith) in
          h.left e (omega arith) ∙ nothing
    ]

-- ---- a word at a time

-- the digits of a word stand in the plane
digit_of_word : (n : ℕ) (words self : List ℕ) (at word i : ℕ) → bits n words ≡ self → word ≡ get_or words at 0 → i < 64 → at * 64 + i < n →
    bit_at word i ≡ get_or self (at * 64 + i) 0
digit_of_word n words self at word i is word_is low inside =
    let index : (at * 64 + i) / 64 ≡ at = omega arith in
    let place : (at * 64 + i) % 64 ≡ i = omega arith in
    ap (λ w. bit_at w i) word_is
    ∙ sym (sym (ap (λ (x : List ℕ). get_or x (at * 64 + i) 0) is) ∙ get_or-bits n words (at * 64 + i) inside ∙ bit_of-word words (at * 64 + i)
    ∙ ap₂ (λ w p. bit_at (get_or words w 0) p) index place)

-- one word of a plane whose multiple is added to numbers
pub record IsWordToAdd (n : ℕ) (words self old numbers : List ℕ) (m at k word : ℕ) : Type 0 where
  pub is : bits n words ≡ self
  pub within : at * 64 < n
  pub wide : k ≡ min 64 (n - at * 64)
  pub room : n ≤ length old
  pub word_is : word ≡ get_or words at 0
  pub before : IsAddedBelow old m self (at * 64) numbers

module _ (n : ℕ) (words self old numbers : List ℕ) (m at k word : ℕ) (h : IsWordToAdd n words self old numbers m at k word) where
  fits : at * 64 + k ≤ length numbers
  fits = omega (arith, h.within, h.wide, h.room, h.before.long)

  -- the numbers of the word as they were
  old_number : (i : ℕ) → i < k → get_or (take k (drop (at * 64) numbers)) i 0 ≡ get_or old (at * 64 + i) 0
  old_number i low = get_or-chunk (at * 64) k numbers i 0 low ∙ h.before.left (at * 64 + i) (omega arith)

  digit : (i : ℕ) → i < k → bit_at word i ≡ get_or self (at * 64 + i) 0
  digit i low = digit_of_word n words self at word i h.is h.word_is (omega (arith, h.wide)) (omega (arith, h.wide))

  pub word_sums_small : AreSmallSums old m self → (i : ℕ) → i < length (take k (drop (at * 64) numbers)) →
      get_or (take k (drop (at * 64) numbers)) i 0 + m * bit_at word i < 256
  word_sums_small small i inside =
      let low : i < k = omega (arith, length-chunk (at * 64) k numbers fits) in
      let there : at * 64 + i < length self = omega (arith, plane_long n words self h.is, h.wide) in
      subst (λ x. x < 256) (sym (ap₂ (λ x d. x + m * d) (old_number i low) (digit i low))) (small (at * 64 + i) there)

  pub added_word : (until : ℕ) (new : List ℕ) → length new ≡ length (take k (drop (at * 64) numbers)) →
      ((i : ℕ) → i < length (take k (drop (at * 64) numbers)) →
      get_or new i 0 ≡ get_or (take k (drop (at * 64) numbers)) i 0 + m * bit_at word i) →
      until ≡ (at + 1) * 64 →
      IsAddedBelow old m self until (take (at * 64) numbers ++ (new ++ drop k (drop (at * 64) numbers)))
  added_word until new as_long sums next = record {
    long = ap length put ∙ length-put_chunk (at * 64) numbers new ∙ h.before.long;
    done = λ e below. ap (λ (x : List ℕ). get_or x e 0) put ∙ elim (dec_lt e (at * 64)) [
      | yes earlier ↦ get_or-put_chunk_below (at * 64) numbers new e 0 earlier ∙ h.before.done e earlier
      | no later ↦ elim (dec_lt e (at * 64 + k)) [
        | yes inside ↦
            let here : at * 64 + (e - at * 64) ≡ e = omega arith in
            let low : e - at * 64 < k = omega arith in
            ap (λ j. get_or (put_chunk (at * 64) numbers new) j 0) (sym here)
            ∙ get_or-put_chunk_at (at * 64) numbers new (e - at * 64) 0 (omega (arith, long)) (omega (arith, long, fits))
            ∙ sums (e - at * 64) (omega (arith, long, as_long))
            ∙ ap₂ (λ x d. x + m * d) (old_number (e - at * 64) low) (digit (e - at * 64) low)
            ∙ ap (λ j. get_or old j 0 + m * get_or self j 0) here
        | no past ↦
            let none = get_or_past self e 0 (omega (arith, plane_long n words self h.is, h.wide, next)) in
            let nothing : get_or old e 0 ≡ get_or old e 0 + m * get_or self e 0 = rw none (omega arith) in
            get_or-put_chunk_above (at * 64) numbers new e 0 (omega (arith, long)) ∙ h.before.left e (omega arith) ∙ nothing
      ]
    ];
    left = λ e past. ap (λ (x : List ℕ). get_or x e 0) put
        ∙ get_or-put_chunk_above (at * 64) numbers new e 0 (omega (arith, long, h.wide, next))
        ∙ h.before.left e (omega (arith, next));
  }
    where
      long : length new ≡ k
      long = as_long ∙ length-chunk (at * 64) k numbers fits

      put : take (at * 64) numbers ++ (new ++ drop k (drop (at * 64) numbers)) ≡ put_chunk (at * 64) numbers new
      put =
          ap (λ j. take (at * 64) numbers ++ (new ++ drop j (drop (at * 64) numbers))) (sym long)
          ∙ sym (put_chunk_is (at * 64) numbers new (omega (arith, long, fits)))
