-- Multiples of the bits of a word, one in each byte.
use Rattle.std.proofs.Common.{◌≡◌, ℕ, ◌+◌, ◌*◌, ◌/◌, ◌%◌, ◌^◌, ◌<◌, List, ◌++◌, Bool, true, false, cond, eqb, map, length, get_or, take, replicate, refl, sym, ap, ap₂, ◌∙◌, arith, w8}
use Rattle.std.specs.Int.{bit_at, byte_at, w64, to_le_bytes}
use Rattle.std.specs.Int.RustNames.{bit_and}
use Rattle.std.specs.List.{range_with_len}
use Rattle.std.specs.Simd.Lanes.{zip2, sel_l, top, put_chunk, pick_l}
use Rattle.std.proofs.lemmas.List.{take_all, get_or_append_left}
use Rattle.std.proofs.lemmas.List.FromFn.{get_or-map-range_with_len}
use Rattle.std.proofs.lemmas.Nat.Bits.{bit_at-lt}
use Rattle.std.proofs.lemmas.Simd.{get_or-zip2, get_or-sel_l, get_or-put_chunk_at, length-zip2, length-replicate, get_or-replicate, tops_compared, map-map}
use Rattle.axe_lane.proofs.ByteBits.{byte_from_low, bit_of_byte}
use Rattle.axe_lane.proofs.MaskLaws.{bit_tested}

-- which byte has a bit, and the bit in its byte
abbrev pub bytes_of_bits : List ℕ
bytes_of_bits = map (λ i. i / 8) (range_with_len 0 64)

abbrev pub bits_in_bytes : List ℕ
bits_in_bytes = map (λ i. 2 ^ (i % 8)) (range_with_len 0 64)

-- the byte of each bit of a word
abbrev around : List ℕ → List ℕ
around eight = pick_l 0 (eight ++ eight) bytes_of_bits

-- a multiple of each bit of a word
abbrev multiples : List ℕ → ℕ → List ℕ
multiples eight factor =
    sel_l (map (top 7) (zip2 (λ a b. cond (eqb a b) 255 0) (zip2 bit_and (around eight) bits_in_bytes) bits_in_bytes)) (replicate 64 factor) (replicate 64 0)

multiple_if : (t : Bool) (factor : ℕ) → cond t factor 0 ≡ factor * cond t 1 0
multiple_if true factor = omega arith
multiple_if false factor = omega arith

first_eight : (word k : ℕ) → k < 8 → get_or (to_le_bytes w64 word ++ to_le_bytes w64 word) k 0 ≡ byte_at k word
first_eight word k low =
    let same : 0 + k ≡ k = omega arith in
    get_or_append_left (to_le_bytes w64 word) (to_le_bytes w64 word) 0 k low ∙ byte_from_low 0 8 word k 0 low ∙ ap (λ j. byte_at j word) same

byte_around : (word i : ℕ) → i < 64 → get_or (around (to_le_bytes w64 word)) i 0 ≡ byte_at (i / 8) word
byte_around word i low =
    let eight = to_le_bytes w64 word in
    let same : 0 + i ≡ i = omega arith in
    ap (λ xs. get_or xs i 0) (map-map (λ k. get_or (eight ++ eight) k 0) (λ i. i / 8) (range_with_len 0 64))
    ∙ get_or-map-range_with_len (λ i. get_or (eight ++ eight) (i / 8) 0) 0 64 i i 0 low same
    ∙ first_eight word (i / 8) (omega arith)

multiple_at : (word factor i : ℕ) → i < 64 → get_or (multiples (to_le_bytes w64 word) factor) i 0 ≡ factor * bit_at word i
multiple_at word factor i low =
    let eight = to_le_bytes w64 word in
    let same : 0 + i ≡ i = omega arith in
    let place : 8 * (i / 8) + i % 8 ≡ i = omega arith in
    let long_bits : length bits_in_bytes ≡ 64 = refl in
    let long_around : length (around eight) ≡ 64 = refl in
    let kept = zip2 bit_and (around eight) bits_in_bytes in
    let long_kept : length kept ≡ 64 = length-zip2 bit_and (around eight) bits_in_bytes refl in
    let tests = zip2 eqb kept bits_in_bytes in
    let long_tests : length tests ≡ 64 = length-zip2 eqb kept bits_in_bytes refl in
    let bit : get_or bits_in_bytes i 0 ≡ 2 ^ (i % 8) = get_or-map-range_with_len (λ j. 2 ^ (j % 8)) 0 64 i i 0 low same in
    let byte : get_or kept i 0 ≡ bit_and (byte_at (i / 8) word) (2 ^ (i % 8)) =
    get_or-zip2 bit_and (around eight) bits_in_bytes i 0 0 0 (omega (arith, long_around)) (omega (arith, long_bits)) ∙ ap₂ bit_and (byte_around word i low) bit in
    let test : get_or tests i false ≡ eqb (bit_and (byte_at (i / 8) word) (2 ^ (i % 8))) (2 ^ (i % 8)) =
    get_or-zip2 eqb kept bits_in_bytes i 0 0 false (omega (arith, long_kept)) (omega (arith, long_bits)) ∙ ap₂ eqb byte bit in
    let is_bit : bit_at (byte_at (i / 8) word) (i % 8) ≡ bit_at word i = bit_of_byte (i / 8) word (i % 8) (omega arith) ∙ ap (bit_at word) place in
    ap (λ ms. get_or (sel_l ms (replicate 64 factor) (replicate 64 0)) i 0) (tops_compared w8 eqb kept bits_in_bytes)
    ∙ get_or-sel_l tests (replicate 64 factor) (replicate 64 0) i 0 (omega (arith, long_tests)) (omega (arith, length-replicate 64 factor)) (omega (arith, length-replicate {A = ℕ} 64 0))
    ∙ ap₂ (λ x y. cond (get_or tests i false) x y) (get_or-replicate 64 i factor 0 low) (get_or-replicate 64 i 0 0 low)
    ∙ ap (λ t. cond t factor 0) test
    ∙ multiple_if _ factor
    ∙ ap (λ d. factor * d) (bit_tested (byte_at (i / 8) word) (i % 8) (bit_at word i) is_bit (bit_at-lt word i))

-- the sums of 64 numbers and of these multiples
pub added_at : (numbers eight : List ℕ) (word factor i : ℕ) → length numbers ≡ 64 → eight ≡ to_le_bytes w64 word → i < 64 →
    get_or (put_chunk 0 numbers (zip2 (λ x y. (x + y) % 256) (take 64 numbers) (multiples eight factor))) i 0
    ≡ (get_or numbers i 0 + factor * bit_at word i) % 256
added_at numbers eight word factor i long is low =
    let all : take 64 numbers ≡ numbers = take_all 64 numbers (omega (arith, long)) in
    let written = zip2 (λ x y. (x + y) % 256) numbers (multiples (to_le_bytes w64 word) factor) in
    let wide : length (multiples (to_le_bytes w64 word) factor) ≡ 64 = refl in
    let long_written : length written ≡ 64 = length-zip2 (λ x y. (x + y) % 256) numbers (multiples (to_le_bytes w64 word) factor) (long ∙ sym wide) ∙ long in
    let same : i ≡ 0 + i = omega arith in
    ap (λ (xs : List ℕ). get_or (put_chunk 0 numbers (zip2 (λ x y. (x + y) % 256) xs (multiples eight factor))) i 0) all
    ∙ ap (λ (e : List ℕ). get_or (put_chunk 0 numbers (zip2 (λ x y. (x + y) % 256) numbers (multiples e factor))) i 0) is
    ∙ ap (λ j. get_or (put_chunk 0 numbers written) j 0) same
    ∙ get_or-put_chunk_at 0 numbers written i 0 (omega (arith, long_written)) (omega (arith, long_written, long))
    ∙ get_or-zip2 (λ x y. (x + y) % 256) numbers (multiples (to_le_bytes w64 word) factor) i 0 0 0 (omega (arith, long)) (omega (arith, wide))
    ∙ ap (λ m. (get_or numbers i 0 + m) % 256) (multiple_at word factor i low)
