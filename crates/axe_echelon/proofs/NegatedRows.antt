-- The negatives of the first entries of a row, as a multiple of a part of it.
use Rattle.std.specs.Prelude.{◌≡◌, ℕ, ◌+◌, ◌<◌, List, All, length, get_or, slice_index}
use Rattle.axe_algebra.specs.NumberField.{NumberField}
use Rattle.axe_algebra.specs.Field.{Field}
use Rattle.axe_algebra.specs.Bridge.{field_of, element}
use Rattle.axe_algebra.specs.Lists.{listed}
use Rattle.axe_algebra.proofs.FieldLaws.{neg-mul, one-mul}
use Rattle.axe_algebra.proofs.ElementNumbers.{same_number, element_mul, element_neg, element_one}
use Rattle.axe_algebra.proofs.ListEntries.{listed_length, listed_at}
use Rattle.std.proofs.lemmas.List.{ext_get_or}
use Rattle.axe_field.specs.Order.{Order, IsElement}
use Rattle.axe_field.specs.Arithmetic.{field_neg}
use Rattle.axe_field.specs.NumberFields.{number_field}
use Rattle.axe_field.proofs.NumberFields.{number_field-neg}
use Rattle.axe_row.specs.Rows.{RowValue, IsRow, part_of}
use Rattle.axe_row.specs.Operations.{multiple, multiple_row}
use Rattle.axe_row.proofs.OperationLaws.{get_or-multiple, length-multiple}
use Rattle.axe_row.proofs.RowLaws.{same_row}
use Rattle.axe_echelon.proofs.StepLaws.{below_of_element}
use mathlib.Core.Path.{sym, ◌∙◌, ap}
use native.Mathlib.Omega.{arith}

module _ (K : NumberField) where
  abbrev F : Field
  F = field_of K

  -- minus one times an element is its negative
  pub negative_by_product : (a : ℕ) → a < K.order → K.mul (K.neg 1) a ≡ K.neg a
  negative_by_product a below =
      same_number K (K.mul (K.neg 1) a) (K.neg a) (K.mul-below (K.neg 1) a minus_one-below below) (K.neg-below a below)
      (element_mul K (K.neg 1) a minus_one-below below
      ∙ ap (λ (x : F.Element). F.mul x (element K a)) (element_neg K 1 K.one-below ∙ ap F.neg (element_one K))
      ∙ neg-mul F F.one (element K a) ∙ ap F.neg (one-mul F (element K a)) ∙ sym (element_neg K a below))
    where
      minus_one-below : K.neg 1 < K.order
      minus_one-below = K.neg-below 1 K.one-below

-- minus one times a list of the first entries
pub negated_entries : (o : Order) (entries part : List ℕ) (len : ℕ) → part ≡ listed len (λ j. slice_index entries (0 + j)) → All (IsElement o) part →
    multiple (number_field o) (field_neg o 1) part ≡ listed len (λ j. field_neg o (slice_index entries j))
negated_entries o entries part len part_is elements =
    ext_get_or 0 _ _ (long ∙ sym (listed_length len _)) (λ j below. at j (omega (arith, below, long)))
  where
    part_long : length part ≡ len
    part_long = ap (λ (p : List ℕ). length p) part_is ∙ listed_length len _

    long : length (multiple (number_field o) (field_neg o 1) part) ≡ len
    long = length-multiple (number_field o) (field_neg o 1) part ∙ part_long

    from_start : (j : ℕ) → 0 + j ≡ j
    from_start j = omega arith

    at : (j : ℕ) → j < len → get_or (multiple (number_field o) (field_neg o 1) part) j 0 ≡ get_or (listed len (λ i. field_neg o (slice_index entries i))) j 0
    at j below =
        get_or-multiple (number_field o) (field_neg o 1) part j (omega (arith, below, part_long))
        ∙ ap (λ (c : ℕ). (number_field o).mul c (get_or part j 0)) (sym (number_field-neg o 1))
        ∙ negative_by_product (number_field o) (get_or part j 0) (below_of_element o (get_or part j 0) (elements j 0 (omega (arith, below, part_long))))
        ∙ number_field-neg o (get_or part j 0)
        ∙ ap (field_neg o) (ap (λ (p : List ℕ). get_or p j 0) part_is ∙ listed_at len (λ i. slice_index entries (0 + i)) j 0 below ∙ ap (slice_index entries) (from_start j))
        ∙ sym (listed_at len (λ i. field_neg o (slice_index entries i)) j 0 below)

-- minus one times the part of a row that has its first entries
pub negated_row : (row part : RowValue) (q : Order) (len scalar : ℕ) → part ≡ part_of row 0 len → IsRow part → q ≡ row.order → scalar ≡ field_neg q 1 →
    multiple_row scalar part ≡ record { order = row.order; entries = listed len (λ j. field_neg row.order (slice_index row.entries j)) }
negated_row row part q len scalar part_is is_row field scalar_is =
    same_row _ _ order
    (ap (λ (c : ℕ). multiple (number_field part.order) c part.entries) (scalar_is ∙ ap (λ (o : Order). field_neg o 1) (field ∙ sym order))
    ∙ negated_entries part.order row.entries part.entries len (ap (λ (r : RowValue). r.entries) part_is) is_row.elements
    ∙ ap (λ (o : Order). listed len (λ j. field_neg o (slice_index row.entries j))) order)
  where
    order : part.order ≡ row.order
    order = ap (λ (r : RowValue). r.order) part_is
