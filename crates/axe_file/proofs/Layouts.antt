-- The arithmetic of a layout: nothing overflows, and a byte is made and read digit by digit.
use Rattle.std.proofs.Common.{◌≡◌, ℕ, suc, ◌+◌, ◌-◌, ◌*◌, ◌/◌, ◌%◌, ◌^◌, ◌<◌, ◌≤◌, true, false, leb, List, get_or, refl, sym, arith, lit<}
use Rattle.std.proofs.Math.Nat.{pow-le-pow_right, pow-suc}
use Rattle.std.proofs.lemmas.Bool.{le-leb, leb-true, ne_eqb, and_from, not_from_false}
use Rattle.std.proofs.lemmas.Nat.{mul-le, mul-add-lt}
use Rattle.axe_algebra.specs.Digits.{number_with_digits}
use Rattle.axe_algebra.specs.Lists.{listed}
use Rattle.axe_field.specs.Order.{Order, Two, Three, Four, Five, Seven, Eight, Nine, order_number}
use Rattle.axe_row.specs.ByteDigits.{digits_per_byte}
use Rattle.axe_matrix.specs.Limits.{most_columns}
use Rattle.axe_file.specs.Marks.{byte_limit, byte_with_marks, mark_of, has_unused_mark, bytes_per_row}
use Rattle.axe_algebra.proofs.Digits.{pow-positive, digit_at}
use Rattle.axe_file.proofs.Digits.{number_below}
use Rattle.axe_file.proofs.Bytes.{limit-fits, order-positive, eight-marks, row_is_short}
use Rattle.axe_file.proofs.Ranges.{none_found, and_of_false, found_at}

pub top_weight : (o : Order) → order_number o ^ (digits_per_byte o - 1) < 256
top_weight Two = lit< tt
top_weight Three = lit< tt
top_weight Four = lit< tt
top_weight Five = lit< tt
top_weight Seven = lit< tt
top_weight Eight = lit< tt
top_weight Nine = lit< tt

pub weight_fits : (o : Order) (q m j : ℕ) → q ≡ order_number o → m ≡ digits_per_byte o → q ^ (m - 1 - j) < 256
weight_fits o q m j eq em =
    let less : order_number o ^ (digits_per_byte o - 1 - j) ≤ order_number o ^ (digits_per_byte o - 1) = pow-le-pow_right (order-positive o) (omega arith) in
    let top = top_weight o in
    rw (eq, em) (omega arith)

pub weight_positive : (o : Order) (q k : ℕ) → q ≡ order_number o → 0 < q ^ k
weight_positive o q k eq = pow-positive q k (omega (arith, order-positive o))

pub mark_by_division : (o : Order) (q m byte j : ℕ) → q ≡ order_number o → m ≡ digits_per_byte o → j < digits_per_byte o → byte / q ^ (m - 1 - j) % q ≡ mark_of o byte j
unfolding mark_of
mark_by_division o q m byte j eq em lt =
    rw (eq, em) (sym (digit_at (order_number o) (digits_per_byte o) byte j (digits_per_byte o - 1 - j) (omega arith)))

-- what no row takes more bytes than: half as many as a matrix has columns, rounded up
abbrev pub most_width : ℕ
most_width = (most_columns + 1) / 2

pub width_fits : (o : Order) (c : ℕ) → c ≤ most_columns → bytes_per_row o c ≤ most_width
width_fits o c fits = omega (arith, row_is_short o c)

-- the column of a mark is a small number
pub column_fits : (o : Order) (c k m : ℕ) → c ≤ most_columns → k < bytes_per_row o c → m ≡ digits_per_byte o → k * m ≤ most_width * 8
column_fits o c k m fits lt em =
    let narrow : k ≤ most_width = omega (arith, width_fits o c fits) in
    mul-le k m most_width 8 narrow (omega (arith, eight-marks o))

-- one digit more is still a byte
pub step_fits : (o : Order) (q m : ℕ) (d : ℕ → ℕ) (i : ℕ) → q ≡ order_number o → m ≡ digits_per_byte o → i < m → ((j : ℕ) → d j < order_number o)
    → number_with_digits q (listed i d) * q + d i < 256
step_fits o q m d i eq em lt h =
    let below : (j : ℕ) → d j < q = λ j. omega (arith, h j) in
    let number = number_with_digits q (listed i d) in
    let before : number < q ^ i = number_below q d i (λ j inside. below j) in
    let here : number * q + d i < q * q ^ i = mul-add-lt number q (d i) (q ^ i) before (below i) in
    let grows : order_number o ^ suc i ≤ order_number o ^ digits_per_byte o = pow-le-pow_right (order-positive o) (omega arith) in
    let grows' : q ^ suc i ≤ order_number o ^ digits_per_byte o = rw eq grows in
    let fits = limit-fits o in
    omega (arith, pow-suc q i)

pub byte_by_digits : (o : Order) (q m : ℕ) (row : List ℕ) (place i : ℕ) → q ≡ order_number o → m ≡ digits_per_byte o → i ≡ m
    → number_with_digits q (listed i (λ j. get_or row (place * m + j) 0)) ≡ byte_with_marks o (λ j. get_or row (place * digits_per_byte o + j) 0)
unfolding byte_with_marks
byte_by_digits o q m row place i eq em ei = rw (ei, em, eq) refl

-- ---- unused marks

pub no_unused_mark : (o : Order) (c k m byte : ℕ) → m ≡ digits_per_byte o → ((j : ℕ) → j < m → c ≤ k * m + j → mark_of o byte j ≡ 0) → has_unused_mark o c k byte ≡ false
unfolding has_unused_mark
no_unused_mark o c k m byte em h =
    none_found _ 0 (digits_per_byte o) (λ j low high.
    and_of_false (leb c (k * digits_per_byte o + j)) _
    (λ past. let zero_mark : mark_of o byte j ≡ 0 = h j (omega arith) (rw em (leb-true _ _ past)) in rw zero_mark refl))

pub an_unused_mark : (o : Order) (c k m byte j : ℕ) → m ≡ digits_per_byte o → j < m → c ≤ k * m + j → (mark_of o byte j ≡ 0 → ⊥) → has_unused_mark o c k byte ≡ true
unfolding has_unused_mark
an_unused_mark o c k m byte j em lt past other =
    found_at _ 0 (digits_per_byte o) j (omega arith) (omega arith)
    (and_from _ _ (le-leb c (k * digits_per_byte o + j) (rw em at past)) (not_from_false _ (ne_eqb _ _ other)))

pub limit_by_power : (o : Order) (q m limit : ℕ) → q ≡ order_number o → m ≡ digits_per_byte o → limit ≡ q ^ m → limit ≡ byte_limit o
unfolding byte_limit
limit_by_power o q m limit eq em el = rw (← eq, ← em) el
