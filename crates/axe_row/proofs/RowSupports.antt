-- The support of a row, by those of its planes.
use Rattle.std.proofs.Common.{◌≡◌, ◌↔◌, ℕ, length, bit_or, subst, arith}
use Rattle.std.proofs.lemmas.List.{get_or_past}
use native.Mathlib.Decide.{dec_lt}
use Rattle.axe_field.specs.Order.{Order}
use Rattle.axe_layer.specs.Supports.{IsSupportWord}
use Rattle.axe_layer.proofs.SupportLaws.{support_of_three}
use Rattle.axe_plane.specs.Planes.{digits_of}
use Rattle.axe_plane.specs.declared.Plane.{Plane}
use Rattle.axe_row.specs.Planes.{ArePlanes}
use Rattle.axe_row.specs.Rows.{RowValue}
use Rattle.axe_row.proofs.FirstEntries.{at, digit_sum, entry_zero, digits_zero, digits_past}
use Rattle.axe_row.proofs.RowPlanes.{entries_of, length-entries}

module _ (o : Order) (c l q : Plane) (self : RowValue) (h : ArePlanes o (length (digits_of c)) c l q)
    (self_is : record { order = o; entries = entries_of o c l q } ≡ self) where
  -- an entry is 0 exactly where its digits are
  zero_entry : (e : ℕ) → at (entries_of o c l q) e ≡ 0 ↔ digit_sum c l q e ≡ 0
  zero_entry e = elim (dec_lt e (length (digits_of c))) [
    | yes inside ↦ (λ none. digits_zero o _ c l q e h inside none, λ none. entry_zero o (length (digits_of c)) c l q e inside none)
    | no outside ↦ (
      λ _. digits_past o _ c l q e h (omega arith),
      λ _. get_or_past (entries_of o c l q) e 0 (omega (arith, length-entries o (digits_of c) (digits_of l) (digits_of q))),
    )
  ]

  -- the words of the planes' supports make that of the row
  pub support_of_planes : (k u v w : ℕ) → IsSupportWord (digits_of c) k u → IsSupportWord (digits_of l) k v →
      IsSupportWord (digits_of q) k w → IsSupportWord self.entries k (bit_or (bit_or u v) w)
  support_of_planes k u v w hu hv hw =
      subst (λ (row : RowValue). IsSupportWord row.entries k (bit_or (bit_or u v) w)) self_is
      (support_of_three (entries_of o c l q) (digits_of c) (digits_of l) (digits_of q) k u v w zero_entry hu hv hw)
