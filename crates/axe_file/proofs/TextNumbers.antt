-- What is wrong with the numbers of a header.
use Rattle.std.proofs.Common.{◌≡◌, ◌≢◌, ℕ, ◌<◌, ◌≤◌, Bool, true, false, ◌||◌, eqb, ltb, List, [], ◌∷◌, ◌⊎◌, Option, Some, None, refl, sym, ap, ◌∙◌, inl, inr, eqb-true, eq-eqb, ne_eqb, ltb-true, ltb-false, lt-ltb, le-ltb, Result, Ok, Err, IfOk, OnErr, arith}
use Rattle.std.specs.List.{find}
use Rattle.std.specs.Result.{result_ok}
use Rattle.std.proofs.lemmas.Bool.{cases_Bool, eqb-false, or_cases, or_parts, or_from, or_left, or_right}
use Rattle.axe_field.specs.Order.{Order, order_number, Two, Three, Four, Five, Seven, Eight, Nine}
use Rattle.axe_field.proofs.Orders.{order_number-at_most}
use Rattle.axe_matrix.specs.Limits.{most_rows, most_columns}
use Rattle.axe_file.specs.Packed.{order_with_number}
use Rattle.axe_file.specs.TextReading.{header_fault}
use Rattle.axe_file.specs.declared.fault.FileFault.{FileFault}
use Rattle.axe_file.specs.declared.fault.FileFault.TheVariants.{BadMode, BadField, BadRows, BadCols}
use Rattle.axe_file.proofs.Headers.{order_of_number}
use Rattle.axe_file.proofs.Checks.{no_order}

-- ---- orders

pub cases_order_of : (x : Option Order) → (x ≡ None) ⊎ ((o : Order) × (x ≡ Some o))
cases_order_of None = inl refl
cases_order_of (Some o) = inr (o, refl)

pub found_passes : (test : Order → Bool) (orders : List Order) (o : Order) → find test orders ≡ Some o → test o ≡ true
found_passes test [] o e = absurd cc
found_passes test (x ∷ orders) o e = elim (cases_Bool (test x)) [
  | inl t ↦
      let here = rw t at e in
      let same : x ≡ o = cc in
      rw (← same) t
  | inr f ↦
      let rest = rw f at e in
      found_passes test orders o rest
]

pub number_of_order : (n : ℕ) (o : Order) → order_with_number n ≡ Some o → order_number o ≡ n
unfolding order_with_number
number_of_order n o e =
    eqb-true _ _ (found_passes (λ x. eqb (order_number x) n) (Two ∷ Three ∷ Four ∷ Five ∷ Seven ∷ Eight ∷ Nine ∷ []) o e)

pub order_if_number : (n : ℕ) (o : Order) → order_number o ≡ n → order_with_number n ≡ Some o
order_if_number n o e = ap order_with_number (sym e) ∙ order_of_number o

-- a number above nine is no order
pub order_too_large : (n : ℕ) → 9 < n → order_with_number n ≡ None
order_too_large n lt = no_order n (λ o e. omega (arith, order_number-at_most o, e, lt))

-- the field that was made, where there is one
pub field_made : {E : Type 0} (r : Result Order E) (n : ℕ) → IfOk r (λ o. order_number o ≡ n) → OnErr r ((o : Order) → order_number o ≢ n) → result_ok r ≡ order_with_number n
field_made (Ok o) n ok err = sym (order_if_number n o ok)
field_made (Err e) n ok err = sym (no_order n err)

-- ---- one check after another

pub mode_fault : (m n r c : ℕ) → eqb m 1 ≡ false → header_fault (m ∷ n ∷ r ∷ c ∷ []) ≡ Some BadMode
unfolding header_fault
mode_fault m n r c a = rw a refl

pub field_fault : (m n r c : ℕ) → eqb m 1 ≡ true → order_with_number n ≡ None → header_fault (m ∷ n ∷ r ∷ c ∷ []) ≡ Some BadField
unfolding header_fault
field_fault m n r c a b = rw (a, b) refl

pub rows_fault : (m n r c : ℕ) (o : Order) → eqb m 1 ≡ true → order_with_number n ≡ Some o → ltb most_rows r ≡ true → header_fault (m ∷ n ∷ r ∷ c ∷ []) ≡ Some BadRows
unfolding header_fault
rows_fault m n r c o a b d = rw (a, b, d) refl

pub columns_fault : (m n r c : ℕ) (o : Order) → eqb m 1 ≡ true → order_with_number n ≡ Some o → ltb most_rows r ≡ false → (eqb c 0 || ltb most_columns c) ≡ true → header_fault (m ∷ n ∷ r ∷ c ∷ []) ≡ Some BadCols
unfolding header_fault
columns_fault m n r c o a b d e = rw (a, b, d, e) refl

pub numbers_allowed : (m n r c : ℕ) (o : Order) → eqb m 1 ≡ true → order_with_number n ≡ Some o → ltb most_rows r ≡ false → (eqb c 0 || ltb most_columns c) ≡ false → header_fault (m ∷ n ∷ r ∷ c ∷ []) ≡ None
unfolding header_fault
numbers_allowed m n r c o a b d e = rw (a, b, d, e) refl

-- ---- what a fault says

-- the numbers of a header are allowed, and the order is that of this field
pub record AreAllowed (m n r c : ℕ) (o : Order) : Type 0 where
  pub mode : m ≡ 1
  pub order : order_number o ≡ n
  pub rows : r ≤ most_rows
  pub some_column : 1 ≤ c
  pub columns : c ≤ most_columns

abbrev pub IsHeaderFault : ℕ → ℕ → ℕ → ℕ → FileFault → Type 0
IsHeaderFault m n r c BadMode = m ≢ 1
IsHeaderFault m n r c BadField = (m ≡ 1) × ((o : Order) → order_number o ≢ n)
IsHeaderFault m n r c BadRows = (o : Order) × (m ≡ 1) × (order_number o ≡ n) × (most_rows < r)
IsHeaderFault m n r c BadCols = (o : Order) × (m ≡ 1) × (order_number o ≡ n) × (r ≤ most_rows) × ((c ≡ 0) ⊎ (most_columns < c))
IsHeaderFault m n r c _ = ⊥

columns_wrong : (c : ℕ) → (eqb c 0 || ltb most_columns c) ≡ true → (c ≡ 0) ⊎ (most_columns < c)
columns_wrong c e = elim (or_cases (eqb c 0) (ltb most_columns c) e) [
  | inl z ↦ inl (eqb-true c 0 z)
  | inr l ↦ inr (ltb-true most_columns c l)
]

columns_are_wrong : (c : ℕ) → (c ≡ 0) ⊎ (most_columns < c) → (eqb c 0 || ltb most_columns c) ≡ true
columns_are_wrong c (inl z) = or_left (eqb c 0) (ltb most_columns c) (eq-eqb c 0 z)
columns_are_wrong c (inr l) = or_right (eqb c 0) (ltb most_columns c) (lt-ltb most_columns c l)

-- either a fault, or the numbers are allowed
pub cases_header : (m n r c : ℕ) → ((f : FileFault) × (header_fault (m ∷ n ∷ r ∷ c ∷ []) ≡ Some f) × IsHeaderFault m n r c f) ⊎ ((o : Order) × (header_fault (m ∷ n ∷ r ∷ c ∷ []) ≡ None) × AreAllowed m n r c o)
cases_header m n r c = elim (cases_Bool (eqb m 1)) [
  | inr a ↦ inl (BadMode, mode_fault m n r c a, eqb-false m 1 a)
  | inl a ↦ elim (cases_order_of (order_with_number n)) [
    | inl b ↦ inl (BadField, field_fault m n r c a b, (eqb-true m 1 a, λ o e. absurd (cc (order_if_number n o e, b))))
    | inr p ↦ elim (cases_Bool (ltb most_rows r)) [
      | inl d ↦ inl (BadRows, rows_fault m n r c p.0 a p.1 d, (p.0, eqb-true m 1 a, number_of_order n p.0 p.1, ltb-true most_rows r d))
      | inr d ↦ elim (cases_Bool (eqb c 0 || ltb most_columns c)) [
        | inl e ↦
            inl (BadCols, columns_fault m n r c p.0 a p.1 d e, (p.0, eqb-true m 1 a, number_of_order n p.0 p.1, ltb-false most_rows r d, columns_wrong c e))
        | inr e ↦
            let parts = or_parts (eqb c 0) (ltb most_columns c) e in
            let nonzero = eqb-false c 0 parts.0 in
            inr (p.0, numbers_allowed m n r c p.0 a p.1 d e, record { mode = eqb-true m 1 a; order = number_of_order n p.0 p.1; rows = ltb-false most_rows r d; some_column = omega arith; columns = ltb-false most_columns c parts.1 })
      ]
    ]
  ]
]

pub allowed_is_faultless : (m n r c : ℕ) (o : Order) → AreAllowed m n r c o → header_fault (m ∷ n ∷ r ∷ c ∷ []) ≡ None
allowed_is_faultless m n r c o h =
    numbers_allowed m n r c o (eq-eqb m 1 h.mode) (order_if_number n o h.order) (le-ltb most_rows r h.rows)
    (or_from (eqb c 0) (ltb most_columns c) (ne_eqb c 0 (λ z. omega (arith, h.some_column, z))) (le-ltb most_columns c h.columns))

pub is_header_fault : (m n r c : ℕ) (f : FileFault) → IsHeaderFault m n r c f → header_fault (m ∷ n ∷ r ∷ c ∷ []) ≡ Some f
is_header_fault m n r c BadMode ne = mode_fault m n r c (ne_eqb m 1 ne)
is_header_fault m n r c BadField (one, none) = field_fault m n r c (eq-eqb m 1 one) (no_order n none)
is_header_fault m n r c BadRows (o, one, named, many) = rows_fault m n r c o (eq-eqb m 1 one) (order_if_number n o named) (lt-ltb most_rows r many)
is_header_fault m n r c BadCols (o, one, named, fit, wrong) =
    columns_fault m n r c o (eq-eqb m 1 one) (order_if_number n o named) (le-ltb most_rows r fit) (columns_are_wrong c wrong)
is_header_fault m n r c _ h = absurd h
