-- The marks of a row, taken byte by byte from a table.
use Rattle.std.proofs.Common.{◌≡◌, ◌≢◌, ℕ, ◌+◌, ◌-◌, ◌*◌, ◌/◌, ◌%◌, ◌<◌, ◌≤◌, List, ◌++◌, length, take, drop, get_or, inl, inr, refl, sym, ap, ap₂, ◌∙◌, lit≤, arith}
use Rattle.std.specs.Prelude.{slice_range}
use Rattle.std.proofs.lemmas.Bool.{cases_lt}
use Rattle.std.proofs.lemmas.Nat.{div-mul-add, mod-mul-add, mod_below, mul-le}
use Rattle.std.proofs.lemmas.Slice.{take-put_mid}
use Rattle.std.proofs.lemmas.Grind.{div_ceil_times}
use Rattle.std.proofs.lemmas.List.{length-append, length-take, length-drop, get_or-take, get_or-drop, get_or_append_left, get_or-append_right}
use Rattle.axe_algebra.specs.Lists.{listed}
use Rattle.axe_field.specs.Order.{Order, Two, Three, Four, Five, Seven, Eight, Nine, order_number}
use Rattle.axe_row.specs.ByteDigits.{digits_per_byte}
use Rattle.axe_file.specs.Marks.{mark_of, bytes_per_row, row_marks, marks_of_bytes}
use Rattle.axe_algebra.proofs.ListEntries.{listed_length, listed_at}
use Rattle.axe_file.proofs.Lists.{listed_is, listed_same}
use Rattle.axe_file.proofs.Bytes.{two-marks}

-- a list of a function in two parts
pub listed_in_parts : (a n : ℕ) (f : ℕ → ℕ) → listed a f ++ listed n (λ i. f (a + i)) ≡ listed (a + n) f
listed_in_parts a n f =
    let rest = λ (i : ℕ). f (a + i) in
    let first = listed_length a f in
    let second = listed_length n rest in
    let whole = length-append (listed a f) (listed n rest) in
    listed_is (a + n) f 0 (listed a f ++ listed n rest) (omega arith) (λ i lt.
    elim (cases_lt i a) [
      | inl below ↦ get_or_append_left (listed a f) (listed n rest) 0 i (omega arith) ∙ listed_at a f i 0 below
      | inr past ↦
          let place : a + (i - a) ≡ i = omega arith in
          get_or-append_right (listed a f) (listed n rest) a i 0 first (omega arith)
          ∙ listed_at n rest (i - a) 0 (omega arith)
          ∙ ap f place
    ])

-- how many bytes a row takes: enough, and no byte without a mark
pub width_is_enough : (o : Order) (c : ℕ) → c ≤ bytes_per_row o c * digits_per_byte o
unfolding bytes_per_row
width_is_enough o c = (div_ceil_times c (digits_per_byte o) (omega (arith, two-marks o))).0

pub width_is_least : (o : Order) (c : ℕ) → bytes_per_row o c * digits_per_byte o < c + digits_per_byte o
unfolding bytes_per_row
width_is_least o c = (div_ceil_times c (digits_per_byte o) (omega (arith, two-marks o))).1

-- a byte before the last of its row has no unused mark
pub marks_before_last : (o : Order) (c k m j : ℕ) → m ≡ digits_per_byte o → k + 1 < bytes_per_row o c → j < m → c ≤ k * m + j → ⊥
marks_before_last o c k m j em lt small past =
    let least : bytes_per_row o c * m < c + m = rw em (width_is_least o c) in
    let before : (k + 2) * m ≤ bytes_per_row o c * m = mul-le (k + 2) m (bytes_per_row o c) m (omega arith) (omega arith) in
    let spread : (k + 2) * m ≡ k * m + m + m = omega arith in
    omega arith

-- entry j of a row that is taken from a table by its bytes, m entries of the table for a byte
abbrev pub taken : ℕ → List ℕ → List ℕ → ℕ → ℕ
taken m table bytes j = get_or table (get_or bytes (j / m) 0 * m + j % m) 0

-- the first n entries of the piece of the table that byte k names
piece_taken : (m k b n : ℕ) (table bytes piece : List ℕ) → n ≤ m → b ≡ get_or bytes k 0 → b * m + n ≤ length table → piece ≡ slice_range table (b * m) (b * m + n)
    → piece ≡ listed n (λ i. taken m table bytes (k * m + i))
piece_taken m k b n table bytes piece few eb fits ep =
    let count : b * m + n - b * m ≡ n = omega arith in
    let piece_is : piece ≡ take n (drop (b * m) table) = ep ∙ ap (λ (l : ℕ). take l (drop (b * m) table)) count in
    let size : length (take n (drop (b * m) table)) ≡ n = length-take n (drop (b * m) table) ∙ omega (arith, length-drop (b * m) table) in
    piece_is ∙ listed_is n (λ i. taken m table bytes (k * m + i)) 0 (take n (drop (b * m) table)) size (λ i lt.
    get_or-take n (drop (b * m) table) i 0 lt
    ∙ get_or-drop (b * m) table i 0
    ∙ ap (λ (x : ℕ). get_or table (x * m + i) 0) eb
    ∙ sym (ap (λ (q : ℕ). get_or table (get_or bytes q 0 * m + (k * m + i) % m) 0) (div-mul-add k m i (omega arith))
    ∙ ap (λ (j : ℕ). get_or table (get_or bytes k 0 * m + j) 0) (mod-mul-add k m i (omega arith))))

-- the entries of the bytes before byte k, and then those of byte k, as many as there is room for
pub taken_more : (m k b n l end : ℕ) (table bytes marks piece : List ℕ) → n ≤ m → take (k * m) marks ≡ listed (k * m) (taken m table bytes) → k * m ≤ length marks → b ≡ get_or bytes k 0
    → b * m + n ≤ length table → piece ≡ slice_range table (b * m) (b * m + n) → end ≡ k * m + n → take end (take (k * m) marks ++ (piece ++ drop l (drop (k * m) marks))) ≡ listed end (taken m table bytes)
taken_more m k b n l end table bytes marks piece few so_far inside eb fits ep en =
    let f = taken m table bytes in
    let here = piece_taken m k b n table bytes piece few eb fits ep in
    let long : length piece ≡ n = ap length here ∙ listed_length n (λ i. f (k * m + i)) in
    take-put_mid (k * m) l marks piece end (omega arith) inside
    ∙ ap₂ (λ (x y : List ℕ). x ++ y) so_far here
    ∙ listed_in_parts (k * m) n f
    ∙ ap (λ (a : ℕ). listed a f) (sym en)

-- the entries that a table of the marks of all bytes gives are the marks of the row
pub taken_marks : (o : Order) (m c n : ℕ) (table bytes : List ℕ) → table ≡ marks_of_bytes o → m ≡ digits_per_byte o → ((i : ℕ) → get_or bytes i 0 < 256) → n ≡ c
    → listed n (taken m table bytes) ≡ row_marks o c bytes
unfolding marks_of_bytes row_marks
taken_marks o m c n table bytes et em small en =
    let mark = λ (i : ℕ). mark_of o (i / m) (i % m) in
    let table_is : table ≡ listed (256 * m) mark = rw em et in
    let some : 0 < m = omega (arith, em, two-marks o) in
    rw (← em) (ap (λ (a : ℕ). listed a (taken m table bytes)) en ∙ listed_same c (taken m table bytes) (λ j. mark_of o (get_or bytes (j / m) 0) (j % m)) 0 (λ j lt.
    let byte = get_or bytes (j / m) 0 in
    let below : j % m < m = mod_below j m some in
    let room : (byte + 1) * m ≤ 256 * m = mul-le (byte + 1) m 256 m (omega (arith, small (j / m))) (omega arith) in
    let spread : (byte + 1) * m ≡ byte * m + m = omega arith in
    ap (λ (xs : List ℕ). get_or xs (byte * m + j % m) 0) table_is
    ∙ listed_at (256 * m) mark (byte * m + j % m) 0 (omega arith)
    ∙ ap (λ (q : ℕ). mark_of o q ((byte * m + j % m) % m)) (div-mul-add byte m (j % m) below)
    ∙ ap (λ (i : ℕ). mark_of o byte i) (mod-mul-add byte m (j % m) below)))

-- over more than two elements a byte has at most five marks
pub few_marks : (o : Order) → order_number o ≢ 2 → digits_per_byte o ≤ 5
few_marks Two other = absurd (other refl)
few_marks Three other = lit≤ tt
few_marks Four other = lit≤ tt
few_marks Five other = lit≤ tt
few_marks Seven other = lit≤ tt
few_marks Eight other = lit≤ tt
few_marks Nine other = lit≤ tt

-- the table of the marks of all bytes has 256 times as many as a byte
pub long_table : (o : Order) (m : ℕ) (table : List ℕ) → table ≡ marks_of_bytes o → m ≡ digits_per_byte o → 256 * m ≤ length table
unfolding marks_of_bytes
long_table o m table et em =
    let table_is : table ≡ listed (256 * m) (λ i. mark_of o (i / m) (i % m)) = rw em et in
    omega (arith, ap length table_is ∙ listed_length (256 * m) (λ i. mark_of o (i / m) (i % m)))
