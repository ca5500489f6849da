-- Rows over the fields of 5 and 7 elements that become sums, and sums that become rows.
use Rattle.std.proofs.Common.{◌≡◌, ◌≢◌, ◌⊎◌, ℕ, ◌+◌, ◌<◌, ◌≤◌, List, [], Some, None, length, get_or, refl, sym, ap, subst, ◌∙◌, arith, inl, inr}
use Rattle.std.proofs.lemmas.Bool.{cases_eq}
use Rattle.std.proofs.lemmas.List.Elements.{All-nil}
use native.Mathlib.Decide.{dec_lt}
use Rattle.axe_field.specs.Order.{Order, Two, Three, Four, Five, Seven, Eight, Nine, prime_of, degree_of}
use Rattle.axe_lane.specs.Bytes.{AreDigits}
use Rattle.axe_lane.specs.Entries.{AreZerosBetween, AreZerosFrom, IsNextNonzero}
use Rattle.axe_layer.specs.Supports.{restricted}
use Rattle.axe_layer.proofs.SupportLaws.{restricted_away, restricted_to, length-restricted}
use Rattle.axe_plane.specs.Planes.{prime_of_plane, digits_of, IsPlane, IsPlaneOf}
use Rattle.axe_plane.specs.Primes.{ByteDigits}
use Rattle.axe_plane.specs.Sums.{plane_of_sums}
use Rattle.axe_plane.specs.declared.Plane.{Plane}
use Rattle.axe_row.specs.FoundEntries.{IsNextEntry}
use Rattle.axe_row.specs.HigherPlanes.{HigherPlanes, linear_of, quadratic_of, AreKeptPlanes}
use Rattle.axe_row.specs.Rows.{RowValue}
use Rattle.axe_row.specs.Sums.{HasSums}
use Rattle.axe_row.proofs.KeptPlanes.{kept_alone, no_linear, no_quadratic, alone_entries, alone_row}
use Rattle.axe_row.proofs.PieceRows.{sums_degree}
use Rattle.axe_row.proofs.PrimeRows.{one_plane}
use Rattle.axe_row.proofs.RowLaws.{same_row}
use Rattle.axe_row.proofs.RowPlanes.{entries_of}

-- the characteristic of such a field
sums_prime : (o : Order) → HasSums o → (prime_of o ≡ 5) ⊎ (prime_of o ≡ 7)
sums_prime Two has = absurd (omega arith)
sums_prime Three has = absurd (omega arith)
sums_prime Four has = absurd (omega arith)
sums_prime Five has = inl refl
sums_prime Seven has = inr refl
sums_prime Eight has = absurd (omega arith)
sums_prime Nine has = absurd (omega arith)

-- ---- a row whose one plane becomes a sum

-- a row over a prime field keeps nothing beside that plane
nothing_higher : (o : Order) (n : ℕ) (c : Plane) (higher : HigherPlanes) → AreKeptPlanes o n c higher → degree_of o ≡ 1 →
    higher ≡ None
nothing_higher o n c None h prime = refl
nothing_higher o n c (Some kept) h prime = absurd (h.needed prime)

module _ (o : Order) (c : Plane) (higher : HigherPlanes) (row : RowValue) (kept : AreKeptPlanes o (length (digits_of c)) c higher)
    (row_is : record { order = o; entries = entries_of o c (linear_of o higher) (quadratic_of o higher) } ≡ row)
    (has : HasSums row.order) where
  own : HasSums o
  own = subst HasSums (sym (ap (λ (r : RowValue). r.order) row_is)) has

  one : degree_of o ≡ 1
  one = sums_degree o own

  -- what the plane is taken modulo
  pub taken_prime : (prime_of_plane c ≡ 5) ⊎ (prime_of_plane c ≡ 7)
  taken_prime = subst (λ p. (p ≡ 5) ⊎ (p ≡ 7)) (sym kept.planes.constant.prime) (sums_prime o own)

  -- what the sum keeps
  pub taken_kept : (sums : ByteDigits) → plane_of_sums sums ≡ c →
      AreKeptPlanes o (length sums.digits) (plane_of_sums sums) None
  taken_kept sums is =
      kept_alone o (length sums.digits) (plane_of_sums sums) one
      (subst (λ (p : Plane). IsPlaneOf (prime_of o) (length (digits_of p)) p) (sym is) kept.planes.constant)

  -- it is seen as the row
  pub taken_row : (sums : ByteDigits) → plane_of_sums sums ≡ c →
      record { order = o; entries = entries_of o (plane_of_sums sums) (linear_of o None) (quadratic_of o None) } ≡ row
  taken_row sums is =
      ap (λ (p : Plane). record { order = o; entries = entries_of o p (linear_of o None) (quadratic_of o None) }) is
      ∙ ap (λ (h : HigherPlanes). record { order = o; entries = entries_of o c (linear_of o h) (quadratic_of o h) })
      (sym (nothing_higher o _ c higher kept one))
      ∙ row_is

  -- what is left of the row
  pub left_kept : (after : Plane) → IsPlane (prime_of_plane c) [] after →
      AreKeptPlanes o (length (digits_of after)) after higher
  left_kept after left = record {
    planes = record {
      constant = record {
        prime = left.prime ∙ kept.planes.constant.prime;
        long = refl;
        digits = subst (AreDigits (prime_of o)) (sym left.digits_are) (All-nil (λ x. x < prime_of o));
      };
      linear = record {
        prime = kept.planes.linear.prime;
        long = kept.planes.linear.long ∙ no_linear o _ one ∙ sym (no_linear o _ one);
        digits = kept.planes.linear.digits;
      };
      quadratic = record {
        prime = kept.planes.quadratic.prime;
        long = kept.planes.quadratic.long ∙ no_quadratic o _ one ∙ sym (no_quadratic o _ one);
        digits = kept.planes.quadratic.digits;
      };
    };
    needed = kept.needed;
  }

  pub left_row : (after : Plane) → IsPlane (prime_of_plane c) [] after →
      ◌≡◌ {A = RowValue}
      (record { order = o; entries = entries_of o after (linear_of o higher) (quadratic_of o higher) })
      (record { order = row.order; entries = [] })
  left_row after left =
      same_row _ _ (ap (λ (r : RowValue). r.order) row_is)
      (one_plane o _ after _ _ one (left_kept after left).planes ∙ left.digits_are)

-- ---- a sum as a row

module _ (o : Order) (sums : ByteDigits) (sum : RowValue) (kept : AreKeptPlanes o (length sums.digits) (plane_of_sums sums) None)
    (sum_is : record {
      order = o;
      entries = entries_of o (plane_of_sums sums) (linear_of o None) (quadratic_of o None);
    } ≡ sum) where
  -- the plane that the row keeps
  pub own_plane : (plane : Plane) → plane ≡ plane_of_sums sums → IsPlaneOf (prime_of o) (length (digits_of plane)) plane
  own_plane plane is =
      subst (λ (p : Plane). IsPlaneOf (prime_of o) (length (digits_of p)) p) (sym is) kept.planes.constant

  -- the row
  pub row_of_plane : (plane : Plane) → plane ≡ plane_of_sums sums → record { order = o; entries = digits_of plane } ≡ sum
  row_of_plane plane is =
      ap (λ (p : Plane). record { order = o; entries = digits_of p }) is ∙ alone_row o (plane_of_sums sums) None sum kept sum_is refl

  -- a remainder is an entry
  pub entry_of_sums : (index digit : ℕ) → digit ≡ get_or sums.digits index 0 → digit ≡ get_or sum.entries index 0
  entry_of_sums index digit is =
      is
      ∙ ap (λ (x : List ℕ). get_or x index 0) (alone_entries o (plane_of_sums sums) None sum kept sum_is refl)

-- ---- the next entries of a sum among places, place after place

module _ (places entries : List ℕ) (start from index : ℕ) (before : AreZerosBetween (restricted places entries) start from)
    (next : IsNextNonzero places from index) where
  -- before the next place there is no entry
  none_before : AreZerosBetween (restricted places entries) start index
  none_before j after earlier = elim (dec_lt j from) [
    | yes first ↦ before j after first
    | no later ↦ restricted_away places entries j (next.zeros_between j (omega arith) earlier)
  ]

  -- an entry that is not 0 is found there
  pub found_at_place : (entry : ℕ) → start ≤ from → length places ≡ length entries → entry ≡ get_or entries index 0 → entry ≢ 0 →
      IsNextEntry places entries start index entry
  found_at_place entry begun fits is some = record {
    next = record {
      within = omega (arith, next.within, length-restricted places entries);
      not_before = omega (arith, next.not_before);
      nonzero = λ none. some (is ∙ sym (restricted_to places entries index next.nonzero) ∙ none);
      zeros_between = none_before;
    };
    entry_is = is;
  }

  -- an entry that is 0 is passed
  pub none_at_place : get_or entries index 0 ≡ 0 → AreZerosBetween (restricted places entries) start (index + 1)
  none_at_place none j after earlier = elim (cases_eq j index) [
    | inl same ↦ ap (λ k. get_or (restricted places entries) k 0) same ∙ restricted_to places entries index next.nonzero ∙ none
    | inr other ↦ none_before j after (omega arith)
  ]

-- no place is left
pub none_at_places : (places entries : List ℕ) (start from : ℕ) → AreZerosBetween (restricted places entries) start from →
    AreZerosFrom places from → AreZerosFrom (restricted places entries) start
none_at_places places entries start from before none j after = elim (dec_lt j from) [
  | yes first ↦ before j after first
  | no later ↦ restricted_away places entries j (none j (omega arith))
]
