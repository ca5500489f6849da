-- What the header of a module says, and when it has no fault.
use Rattle.std.proofs.Common.{◌≡◌, ℕ, ◌^◌, ◌<◌, ◌≤◌, true, false, List, [], ◌∷◌, ◌++◌, length, get_or, drop, Option, refl, sym, ap, ◌∙◌, arith}
use Rattle.std.specs.Prelude.{is_none}
use Rattle.std.proofs.lemmas.Nat.{from_le_bytes-to_le_bytes_4}
use Rattle.std.proofs.lemmas.List.{length-append}
use Rattle.axe_field.specs.Order.{Order, order_number}
use Rattle.axe_matrix.specs.Limits.{most_rows}
use Rattle.axe_file.specs.Limits.{most_generators}
use Rattle.axe_file.specs.Packed.{header_length, order_offset, order_with_number, header_order, has_other_magic, is_out_of_range, has_reserved, beginning_faults, fault_where}
use Rattle.axe_file.specs.PackedModules.{module_magic, generators_offset, dimension_offset, module_reserved, module_header, header_generators, header_dimension, module_header_faults}
use Rattle.axe_file.specs.declared.fault.FileFault.{FileFault}
use Rattle.axe_file.specs.declared.fault.FileFault.TheVariants.{BadGens, BadReserved, BadRows}
use Rattle.axe_file.specs.Headers.{SaysModule}
use Rattle.axe_file.proofs.Headers.{order_of_number}
use Rattle.axe_file.proofs.Ranges.{not_found, four_parts}
use Rattle.axe_file.proofs.Soundness.{IsBegun, sound_beginning, beginning_is_sound, in_range, in_range_is_sound}
use Rattle.axe_file.proofs.Fours.{IsBytes, four_at, number_back, in_fours}
use Rattle.axe_file.proofs.Magic.{first_four}
use Rattle.axe_file.proofs.Reserved.{reserved_is_zero}
use Rattle.axe_file.proofs.Respelling.{header_number}
use Rattle.axe_file.proofs.Checks.{First, first_stays_3}

-- ---- a header that is written

pub length-module_header : (o : Order) (count d : ℕ) → length (module_header o count d) ≡ header_length
unfolding module_header
length-module_header o count d = refl

number_in_module_header : (o : Order) (count d : ℕ) (rest : List ℕ) → get_or (module_header o count d ++ rest) order_offset 0 ≡ order_number o
unfolding module_header
number_in_module_header o count d rest = refl

order_in_module_header : (o : Order) (count d : ℕ) (rest : List ℕ) → header_order (module_header o count d ++ rest) ≡ o
unfolding header_order
order_in_module_header o count d rest = rw (number_in_module_header o count d rest, order_of_number o) refl

count_in_module_header : (o : Order) (count d : ℕ) (rest : List ℕ) → header_generators (module_header o count d ++ rest) ≡ count
unfolding header_generators module_header
count_in_module_header o count d rest = refl

dimension_in_module_header : (o : Order) (count d : ℕ) (rest : List ℕ) → d < 2 ^ 32 → header_dimension (module_header o count d ++ rest) ≡ d
unfolding header_dimension module_header
dimension_in_module_header o count d rest h = from_le_bytes-to_le_bytes_4 d h

pub module_header_says : (o : Order) (count d : ℕ) (rest : List ℕ) → d ≤ most_rows → SaysModule (module_header o count d ++ rest) o count d
module_header_says o count d rest h = record {
  order = order_in_module_header o count d rest;
  count = count_in_module_header o count d rest;
  dimension = dimension_in_module_header o count d rest (omega (arith, h));
}

header_has_module_magic : (o : Order) (count d : ℕ) (rest : List ℕ) → has_other_magic module_magic (module_header o count d ++ rest) ≡ false
unfolding has_other_magic module_header
header_has_module_magic o count d rest = refl

header_has_module_zeros : (o : Order) (count d : ℕ) (rest : List ℕ) → has_reserved module_reserved (module_header o count d ++ rest) ≡ false
unfolding has_reserved module_header
header_has_module_zeros o count d rest = refl

pub module_header_begins : (o : Order) (count d : ℕ) (rest : List ℕ) → IsBegun module_magic (module_header o count d ++ rest)
module_header_begins o count d rest = record {
  long = omega (arith, length-append (module_header o count d) rest, length-module_header o count d);
  magic_is = header_has_module_magic o count d rest;
  field =
      ap (λ (n : ℕ). is_none (order_with_number n)) (number_in_module_header o count d rest) ∙ ap (λ (o : Option Order). is_none o) (order_of_number o);
}

-- ---- the rules of a header

pub record IsModuleHeader (bytes : List ℕ) : Type 0 where
  pub begun : IsBegun module_magic bytes
  pub some : 1 ≤ header_generators bytes
  pub few : header_generators bytes ≤ most_generators
  pub reserved : has_reserved module_reserved bytes ≡ false
  pub some_dimension : 1 ≤ header_dimension bytes
  pub dimension_fits : header_dimension bytes ≤ most_rows

pub module_header_sound : (o : Order) (count d : ℕ) (rest : List ℕ) → 1 ≤ count → count ≤ most_generators → 1 ≤ d → d ≤ most_rows
    → IsModuleHeader (module_header o count d ++ rest)
module_header_sound o count d rest some few some_dimension fits =
    let says = module_header_says o count d rest fits in
    record {
      begun = module_header_begins o count d rest;
      some = omega (arith, says.count);
      few = omega (arith, says.count);
      reserved = header_has_module_zeros o count d rest;
      some_dimension = omega (arith, says.dimension);
      dimension_fits = omega (arith, says.dimension);
    }

pub sound_module_header : (bytes : List ℕ) → module_header_faults bytes ≡ [] → IsModuleHeader bytes
unfolding module_header_faults
sound_module_header bytes e =
    let parts = four_parts (beginning_faults module_magic bytes)
    (fault_where (is_out_of_range most_generators (header_generators bytes)) BadGens)
    (fault_where (has_reserved module_reserved bytes) BadReserved)
    (fault_where (is_out_of_range most_rows (header_dimension bytes)) BadRows) e in
    let count = in_range (header_generators bytes) most_generators (not_found _ BadGens parts.1) in
    let dimension = in_range (header_dimension bytes) most_rows (not_found _ BadRows parts.3) in
    record {
      begun = sound_beginning module_magic bytes parts.0;
      some = count.0;
      few = count.1;
      reserved = not_found (has_reserved module_reserved bytes) BadReserved parts.2;
      some_dimension = dimension.0;
      dimension_fits = dimension.1;
    }

pub module_header_is_sound : (bytes : List ℕ) → IsModuleHeader bytes → module_header_faults bytes ≡ []
unfolding module_header_faults
module_header_is_sound bytes h =
    let count = in_range_is_sound (header_generators bytes) most_generators h.some h.few in
    let dimension = in_range_is_sound (header_dimension bytes) most_rows h.some_dimension h.dimension_fits in
    rw (beginning_is_sound module_magic bytes h.begun, count, h.reserved, dimension) refl

-- ---- which fault is the first

pub fault_in_module_beginning : (bytes : List ℕ) (fault : FileFault) → First (beginning_faults module_magic bytes) fault
    → First (module_header_faults bytes) fault
unfolding module_header_faults
fault_in_module_beginning bytes fault e = first_stays_3 (beginning_faults module_magic bytes) _ _ _ fault e

pub bad_generators : (bytes : List ℕ) → beginning_faults module_magic bytes ≡ [] → is_out_of_range most_generators (header_generators bytes) ≡ true
    → First (module_header_faults bytes) BadGens
unfolding module_header_faults
bad_generators bytes begun bad = rw (begun, bad) refl

pub bad_module_reserved : (bytes : List ℕ) → beginning_faults module_magic bytes ≡ [] → is_out_of_range most_generators (header_generators bytes) ≡ false
    → has_reserved module_reserved bytes ≡ true → First (module_header_faults bytes) BadReserved
unfolding module_header_faults
bad_module_reserved bytes begun count reserved = rw (begun, count, reserved) refl

pub bad_dimension : (bytes : List ℕ) → beginning_faults module_magic bytes ≡ [] → is_out_of_range most_generators (header_generators bytes) ≡ false
    → has_reserved module_reserved bytes ≡ false → is_out_of_range most_rows (header_dimension bytes) ≡ true → First (module_header_faults bytes) BadRows
unfolding module_header_faults
bad_dimension bytes begun count reserved bad = rw (begun, count, reserved, bad) refl

-- ---- a header without fault, written again

pub module_header_again : (bytes : List ℕ) → IsBytes bytes → IsModuleHeader bytes
    → bytes ≡ module_header (header_order bytes) (header_generators bytes) (header_dimension bytes) ++ drop header_length bytes
unfolding module_header header_generators header_dimension
module_header_again bytes fits h =
    let long = h.begun.long in
    let zero_at : (i : ℕ) → i < length module_reserved → get_or bytes (get_or module_reserved i 0) 0 ≡ 0 =
    λ i lt. reserved_is_zero module_reserved bytes i h.reserved lt in
    in_fours bytes module_magic (order_number (header_order bytes) ∷ get_or bytes generators_offset 0 ∷ 0 ∷ 0 ∷ []) _ (0 ∷ 0 ∷ 0 ∷ 0 ∷ [])
    (first_four module_magic bytes refl (omega arith) h.begun.magic_is)
    (four_at bytes order_offset (order_number (header_order bytes)) (get_or bytes generators_offset 0) 0 0 (omega arith)
    (sym (header_number bytes h.begun.field)) refl (zero_at 0 (omega arith)) (zero_at 1 (omega arith)))
    (sym (number_back bytes dimension_offset (omega arith) fits))
    (four_at bytes 12 0 0 0 0 (omega arith) (zero_at 2 (omega arith)) (zero_at 3 (omega arith)) (zero_at 4 (omega arith)) (zero_at 5 (omega arith)))
