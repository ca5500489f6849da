-- Words of digits in bytes whose first digit is the most significant bit.
use Rattle.std.proofs.Common.{◌≡◌, ℕ, ◌+◌, ◌-◌, ◌*◌, ◌/◌, ◌%◌, ◌<◌, ◌≤◌, List, length, ◌++◌, take, drop, get_or, min, refl, sym, ap, ap₂, ◌∙◌, arith}
use Rattle.std.specs.Int.{bit_at, w64, to_le_bytes, from_le_bytes}
use Rattle.std.proofs.lemmas.List.{get_or_past, get_or-drop, length-drop, take_all}
use Rattle.std.proofs.lemmas.Nat.{le_bytes_8}
use Rattle.std.proofs.lemmas.Nat.Bits.{bit_at-lt, bit_at-zero}
use Rattle.std.proofs.lemmas.Simd.{length-put_chunk, put_chunk_is, get_or-put_chunk_below, get_or-put_chunk_at}
use Rattle.std.specs.Simd.Lanes.{put_chunk}
use native.Mathlib.Decide.{dec_lt}
use Rattle.axe_algebra.specs.Lists.{listed}
use Rattle.axe_algebra.proofs.ListEntries.{listed_length, listed_at}
use Rattle.axe_layer.specs.Bits.{bits, HoldsBits}
use Rattle.axe_layer.specs.Packed.{packed_bit}
use Rattle.axe_layer.proofs.TurnedBytes.{opposite}
use Rattle.axe_lane.proofs.ByteBits.{byte_from_low, bit_of_byte}
use Rattle.axe_layer.proofs.BitLaws.{plane_long, get_or-bits, bit_of-word}

-- ---- the bytes of a number, lowest first

pub packed_number : (n e : ℕ) → e < 64 → packed_bit (to_le_bytes w64 n) e ≡ bit_at n (opposite e)
unfolding packed_bit
packed_number n e low =
    let place : 8 * (0 + e / 8) + (7 - e % 8) ≡ opposite e = omega arith in
    ap (λ b. bit_at b (7 - e % 8)) (byte_from_low 0 8 n (e / 8) 0 (omega arith)) ∙ bit_of_byte (0 + e / 8) n (7 - e % 8) (omega arith)
    ∙ ap (bit_at n) place

-- ---- words

pub packed_bits_of_word : (word turned e : ℕ) → ((i : ℕ) → i < 64 → bit_at turned i ≡ bit_at word (opposite i)) → e < 64 →
    packed_bit (to_le_bytes w64 turned) e ≡ bit_at word e
packed_bits_of_word word turned e is low =
    let twice : opposite (opposite e) ≡ e = omega arith in
    packed_number turned e low ∙ is (opposite e) (omega arith) ∙ ap (bit_at word) twice

pub bits_of_packed_word : (bytes : List ℕ) (turned e : ℕ) → length bytes ≡ 8 → ((k : ℕ) → get_or bytes k 0 < 256) →
    ((i : ℕ) → i < 64 → bit_at turned i ≡ bit_at (from_le_bytes w64 bytes) (opposite i)) → e < 64 → bit_at turned e ≡ packed_bit bytes e
bits_of_packed_word bytes turned e long fits is low =
    is e low ∙ sym (packed_number (from_le_bytes w64 bytes) e low)
    ∙ ap (λ (x : List ℕ). packed_bit x e) (le_bytes_8 bytes (from_le_bytes w64 bytes) long fits refl)

-- eight bytes that are the first of others
pub first_bytes_fit : (bytes first : List ℕ) (k : ℕ) → length first ≡ 8 → ((i : ℕ) → get_or bytes i 0 < 256) →
    ((i : ℕ) → i < 8 → get_or first i 0 ≡ get_or bytes i 0) → get_or first k 0 < 256
first_bytes_fit bytes first k long fits same = elim (dec_lt k 8) [
  | yes inside ↦ omega (arith, same k inside, fits k)
  | no outside ↦ let past = get_or_past first k 0 (omega (arith, long)) in omega (arith, past)
]

-- the byte of a digit tells the digit
pub packed_bit_same : (a b : List ℕ) (e : ℕ) → get_or a (e / 8) 0 ≡ get_or b (e / 8) 0 → packed_bit a e ≡ packed_bit b e
unfolding packed_bit
packed_bit_same a b e same = ap (λ x. bit_at x (7 - e % 8)) same

packed_bit_equal : (a b : List ℕ) (e i : ℕ) → get_or a (e / 8) 0 ≡ get_or b (i / 8) 0 → e % 8 ≡ i % 8 → packed_bit a e ≡ packed_bit b i
unfolding packed_bit
packed_bit_equal a b e i byte place = ap₂ (λ x p. bit_at x (7 - p)) byte place

pub packed_bit_past : (bytes : List ℕ) (e : ℕ) → length bytes ≤ e / 8 → packed_bit bytes e ≡ 0
unfolding packed_bit
packed_bit_past bytes e past = ap (λ x. bit_at x (7 - e % 8)) (get_or_past bytes (e / 8) 0 past) ∙ bit_at-zero (7 - e % 8)

pub packed_bit_below : (bytes : List ℕ) (e : ℕ) → packed_bit bytes e < 2
unfolding packed_bit
packed_bit_below bytes e = bit_at-lt (get_or bytes (e / 8) 0) (7 - e % 8)

-- the digits of the bytes from one of them on
pub packed_bit_further : (bytes : List ℕ) (at i : ℕ) → packed_bit (drop (at * 8) bytes) i ≡ packed_bit bytes (at * 64 + i)
unfolding packed_bit
packed_bit_further bytes at i =
    let byte : at * 8 + i / 8 ≡ (at * 64 + i) / 8 = omega arith in
    let place : i % 8 ≡ (at * 64 + i) % 8 = omega arith in
    ap (λ x. bit_at x (7 - i % 8)) (get_or-drop (at * 8) bytes (i / 8) 0) ∙ ap₂ (λ k p. bit_at (get_or bytes k 0) (7 - p)) byte place

-- the lowest digits of the word of the bytes from one of them on
pub packed_part_word : (bytes : List ℕ) (len at i word whole : ℕ) → i < 64 →
    (i < 64 → bit_at whole i ≡ packed_bit (take (length bytes - at * 8) (drop (at * 8) bytes)) i) →
    (i < 64 → i < len - at * 64 → bit_at word i ≡ bit_at whole i) → (i < 64 → len - at * 64 ≤ i → bit_at word i ≡ 0) →
    bit_at word i ≡ get_or (listed len (packed_bit bytes)) (at * 64 + i) 0
packed_part_word bytes len at i word whole low from kept cleared = elim (dec_lt i (len - at * 64)) [
  | yes inside ↦
      let all : length (drop (at * 8) bytes) ≤ length bytes - at * 8 = omega (arith, length-drop (at * 8) bytes) in
      kept low inside ∙ from low ∙ ap (λ (x : List ℕ). packed_bit x i) (take_all (length bytes - at * 8) (drop (at * 8) bytes) all)
      ∙ packed_bit_further bytes at i
      ∙ sym (listed_at len (packed_bit bytes) (at * 64 + i) 0 (omega arith))
  | no outside ↦
      cleared low (omega arith) ∙ sym (get_or_past (listed len (packed_bit bytes)) (at * 64 + i) 0
      (omega (arith, listed_length len (packed_bit bytes))))
]

-- ---- digits that are written

-- the digits of bytes before an index are these
pub record ArePackedBelow (self : List ℕ) (until : ℕ) (bytes : List ℕ) : Type 0 where
  pub long : length bytes ≡ (length self + 7) / 8
  pub so_far : (e : ℕ) → e < until → packed_bit bytes e ≡ get_or self e 0

-- the digits of a word more
pub word_packed : (n : ℕ) (words self : List ℕ) (at k until word : ℕ) (bytes eight new : List ℕ) → bits n words ≡ self → HoldsBits n words →
    at * 64 < n → k ≡ min 8 (length bytes - at * 8) → ArePackedBelow self (at * 64) bytes → length new ≡ k → word ≡ get_or words at 0 →
    ((i : ℕ) → i < 64 → packed_bit eight i ≡ bit_at word i) → ((i : ℕ) → i < k → get_or new i 0 ≡ get_or eight i 0) → until ≡ (at + 1) * 64 →
    ArePackedBelow self until (take (at * 8) bytes ++ (new ++ drop k (drop (at * 8) bytes)))
word_packed n words self at k until word bytes eight new is held within wide h long word_is digits first next = record {
  long = ap length put ∙ length-put_chunk (at * 8) bytes new ∙ h.long;
  so_far = λ e before. ap (λ (x : List ℕ). packed_bit x e) put ∙ elim (dec_lt e (at * 64)) [
    | yes earlier ↦
        packed_bit_same after bytes e (get_or-put_chunk_below (at * 8) bytes new (e / 8) 0 (omega arith)) ∙ h.so_far e earlier
    | no later ↦ elim (dec_lt (e / 8) (length bytes)) [
      | yes inside ↦
          let low : e - at * 64 < 64 = omega (arith, next) in
          let byte : at * 8 + (e - at * 64) / 8 ≡ e / 8 = omega arith in
          let small : (e - at * 64) / 8 < k = omega (arith, wide, next) in
          packed_bit_equal after eight e (e - at * 64) (sym (ap (λ j. get_or after j 0) byte)
          ∙ get_or-put_chunk_at (at * 8) bytes new ((e - at * 64) / 8) 0 (omega (arith, long, small)) room
          ∙ first ((e - at * 64) / 8) small) (omega arith)
          ∙ digits (e - at * 64) low ∙ ap (λ w. bit_at w (e - at * 64)) word_is ∙ digit e (omega arith) (omega (arith, next))
      | no outside ↦
          packed_bit_past after e (omega (arith, length-put_chunk (at * 8) bytes new))
          ∙ sym (get_or_past self e 0 (omega (arith, h.long)))
    ]
  ];
}
  where
    all : length self ≡ n
    all = plane_long n words self is

    room : at * 8 + length new ≤ length bytes
    room = omega (arith, long, wide, all, h.long)

    after : List ℕ
    after = put_chunk (at * 8) bytes new

    put : take (at * 8) bytes ++ (new ++ drop k (drop (at * 8) bytes)) ≡ after
    put =
        ap (λ m. take (at * 8) bytes ++ (new ++ drop m (drop (at * 8) bytes))) (sym long)
        ∙ sym (put_chunk_is (at * 8) bytes new room)

    digit : (e : ℕ) → at * 64 ≤ e → e < (at + 1) * 64 → bit_at (get_or words at 0) (e - at * 64) ≡ get_or self e 0
    digit e from to =
        let place : e - at * 64 ≡ e % 64 = omega arith in
        let index : at ≡ e / 64 = omega arith in
        ap₂ (λ w p. bit_at (get_or words w 0) p) index place ∙ sym (bit_of-word words e) ∙ elim (dec_lt e n) [
          | yes inside ↦ sym (get_or-bits n words e inside) ∙ ap (λ (x : List ℕ). get_or x e 0) is
          | no outside ↦ held.unused e (omega arith) ∙ sym (get_or_past self e 0 (omega (arith, all)))
        ]

-- all digits when all words are done
pub all_packed : (self : List ℕ) (until e : ℕ) (bytes : List ℕ) → ArePackedBelow self until bytes → length bytes * 8 ≤ until →
    packed_bit bytes e ≡ get_or self e 0
all_packed self until e bytes h all = elim (dec_lt e until) [
  | yes inside ↦ h.so_far e inside
  | no outside ↦ packed_bit_past bytes e (omega arith) ∙ sym (get_or_past self e 0 (omega (arith, h.long)))
]
