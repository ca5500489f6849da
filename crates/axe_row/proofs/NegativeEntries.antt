-- Negatives of entries, and rows that no multiple is added to.
use Rattle.std.proofs.Common.{◌≡◌, ℕ, ◌<◌, length, get_or, refl, sym, ap, subst, ◌∙◌, arith}
use Rattle.std.specs.List.{All}
use Rattle.axe_field.specs.Arithmetic.{coefficients, number_of, polynomial_negative, polynomial_of, field_neg}
use Rattle.axe_field.specs.CheckedLaws.{field_neg-below}
use Rattle.axe_field.specs.NumberFields.{number_field}
use Rattle.axe_field.specs.Order.{Order, Two, Three, Four, Five, Seven, Eight, Nine, prime_of, degree_of, IsElement}
use Rattle.axe_layer.proofs.DigitLaws.{digit-below}
use Rattle.axe_plane.specs.Planes.{prime_of_plane, digits_of, negative_modulo}
use Rattle.axe_plane.specs.declared.Plane.{Plane}
use Rattle.axe_row.specs.Operations.{sum_with_multiple, row_with_multiple}
use Rattle.axe_row.specs.Planes.{ArePlanes}
use Rattle.axe_row.specs.Rows.{RowValue, IsRow}
use Rattle.axe_row.proofs.CombinationLaws.{sum_with_none}
use Rattle.axe_row.proofs.PrimeRows.{one_plane_at, one_plane_element}
use Rattle.axe_row.proofs.RowLaws.{same_row}
use Rattle.axe_row.proofs.RowPlanes.{entries_of, prime-positive}

-- over a prime field the negative is that of the digit
prime_neg : (o : Order) (a : ℕ) → degree_of o ≡ 1 → a < prime_of o → negative_modulo (prime_of o) a ≡ field_neg o a
unfolding field_neg polynomial_negative polynomial_of coefficients number_of
prime_neg Two a e below = omega arith
prime_neg Three a e below = omega arith
prime_neg Four a e below = absurd (omega arith)
prime_neg Five a e below = omega arith
prime_neg Seven a e below = omega arith
prime_neg Eight a e below = absurd (omega arith)
prime_neg Nine a e below = absurd (omega arith)

-- the negative of an entry of a row of one plane
pub negative_of_digit : (o : Order) (d j : ℕ) (c l q : Plane) (self : RowValue) → d ≡ degree_of o → d ≡ 1 →
    ArePlanes o (length (digits_of c)) c l q → record { order = o; entries = entries_of o c l q } ≡ self →
    negative_modulo (prime_of_plane c) (get_or (digits_of c) j 0) ≡ field_neg self.order (get_or self.entries j 0)
negative_of_digit o d j c l q self ed one h self_is =
    ap (λ p. negative_modulo p (get_or (digits_of c) j 0)) h.constant.prime
    ∙ prime_neg o (get_or (digits_of c) j 0) (sym ed ∙ one) (digit-below (prime_of o) (digits_of c) j (prime-positive o) h.constant.digits)
    ∙ ap (field_neg o) (one_plane_at o d j c l q self ed one h self_is)
    ∙ ap (λ (r : RowValue). field_neg r.order (get_or self.entries j 0)) self_is

pub negative_is_element : (o : Order) (d j x : ℕ) (c l q : Plane) (self : RowValue) → d ≡ degree_of o → d ≡ 1 →
    ArePlanes o (length (digits_of c)) c l q → record { order = o; entries = entries_of o c l q } ≡ self →
    x ≡ field_neg self.order (get_or self.entries j 0) → IsElement self.order x
negative_is_element o d j x c l q self ed one h self_is is =
    subst (IsElement self.order) (sym is)
    (field_neg-below self.order (get_or self.entries j 0)
    (one_plane_element o d j (get_or self.entries j 0) c l q self (sym (one_plane_at o d j c l q self ed one h self_is)) ed one h self_is))

-- a row plus no times another is the row
pub row_with_none : (self other : RowValue) (k : ℕ) → IsRow self → IsRow other → other.order ≡ self.order → k ≡ 0 →
    self ≡ row_with_multiple self k other
row_with_none self other k h h' same none =
    same_row self (row_with_multiple self k other) refl
    (sym (ap (λ m. sum_with_multiple (number_field self.order) self.entries m other.entries) none
    ∙ sum_with_none self.order self.entries other.entries h.elements
    (subst (λ o. All (IsElement o) other.entries) same h'.elements)))
