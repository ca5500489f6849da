-- Rows of bytes none of which is more than its marks can make: only the last byte of a row can have a fault.
use Rattle.std.proofs.Common.{◌≡◌, ℕ, ◌+◌, ◌-◌, ◌*◌, ◌/◌, ◌%◌, ◌<◌, ◌≤◌, List, [], true, false, ◌&&◌, leb, ltb, Some, length, drop, get_or, get_or-drop, length-drop, le-leb, ltb-true, ltb-false, inl, inr, sym, ap, subst, ◌∙◌, arith}
use Rattle.std.specs.List.{prefix_len}
use Rattle.std.proofs.lemmas.Bool.{cases_lt, and_parts}
use Rattle.std.proofs.lemmas.List.Sums.{prefix_len_passes, prefix_len_stops}
use Rattle.std.proofs.lemmas.Nat.{div-add-mod', mod-mul-add, mod_below, mul-le}
use Rattle.axe_field.specs.Order.{Order}
use Rattle.axe_lane.specs.Runs.{is_within}
use Rattle.std.specs.Prelude.{slice_get}
use Rattle.axe_file.specs.Marks.{has_unused_mark}
use Rattle.axe_file.specs.Packed.{byte_faults, has_padding}
use Rattle.axe_file.specs.declared.fault.FileFault.TheVariants.{BadPadding}
use Rattle.axe_file.specs.declared.layout.Layout.{Layout}
use Rattle.axe_file.proofs.Checks.{bad_padding}
use Rattle.axe_file.proofs.Layouts.{no_unused_mark}
use Rattle.axe_file.proofs.MarkTables.{marks_before_last}
use Rattle.axe_file.proofs.Scans.{padding_by_layout}
use Rattle.axe_file.proofs.Soundness.{byte_is_sound}

-- all bytes before a place of the rows are faultless
abbrev pub AreFaultlessBelow : Order → ℕ → List ℕ → ℕ → ℕ → Type 0
AreFaultlessBelow o c bytes offset q = (p : ℕ) → p < q → byte_faults o c bytes offset p ≡ []

module _ (layout : Layout) (bytes : List ℕ) (offset n : ℕ) (below : (p : ℕ) → p < n → get_or bytes (offset + p) 0 < layout.limit) where
  before_last : (p : ℕ) → p < n → p % layout.width + 1 < layout.width → byte_faults layout.field layout.columns bytes offset p ≡ []
  before_last p within inside =
      let o = layout.field in
      byte_is_sound o layout.columns bytes offset p (record {
        below = rw (← layout.limit_is) (below p within);
        padding =
            padding_by_layout layout bytes offset p
            ∙ no_unused_mark o layout.columns (p % layout.width) layout.marks (get_or bytes (offset + p) 0) layout.marks_is
            (λ j lt past. absurd (marks_before_last o layout.columns (p % layout.width) layout.marks j layout.marks_is (subst (λ w. p % layout.width + 1 < w) layout.width_is inside) lt past));
      })

  pub faultless_to_last : (i q : ℕ) → q ≤ n → AreFaultlessBelow layout.field layout.columns bytes offset (i * layout.width) → q ≤ i * layout.width + (layout.width - 1)
      → AreFaultlessBelow layout.field layout.columns bytes offset q
  faultless_to_last i q within before short p lt = elim (cases_lt p (i * layout.width)) [
    | inl earlier ↦ before p earlier
    | inr later ↦
        let r = p - i * layout.width in
        let whole : i * layout.width + r ≡ p = omega arith in
        let small : r + 1 < layout.width = omega (arith, short, whole) in
        let place : p % layout.width ≡ r = ap (λ x. x % layout.width) (sym whole) ∙ mod-mul-add i layout.width r (omega (arith, small)) in
        before_last p (omega (arith, within, lt)) (omega (arith, place, small))
  ]

  -- the last byte of a row has a mark past the last column, or it is faultless
  module _ (i q : ℕ) (within : q < n) (positive : 0 < layout.width) (is : q ≡ i * layout.width + (layout.width - 1)) where
    padding_at_last : has_padding layout.field layout.columns bytes offset q ≡ has_unused_mark layout.field layout.columns (layout.width - 1) (get_or bytes (offset + q) 0)
    padding_at_last =
        let place : q % layout.width ≡ layout.width - 1 = ap (λ x. x % layout.width) is ∙ mod-mul-add i layout.width (layout.width - 1) (omega (arith, positive)) in
        padding_by_layout layout bytes offset q ∙ ap (λ k. has_unused_mark layout.field layout.columns k (get_or bytes (offset + q) 0)) place

    pub last_is_bad : has_unused_mark layout.field layout.columns (layout.width - 1) (get_or bytes (offset + q) 0) ≡ true
        → slice_get (byte_faults layout.field layout.columns bytes offset q) 0 ≡ Some (BadPadding (offset + q))
    last_is_bad marked = bad_padding layout.field layout.columns bytes offset q (rw (← layout.limit_is) (below q within)) (padding_at_last ∙ marked)

    pub last_is_sound : has_unused_mark layout.field layout.columns (layout.width - 1) (get_or bytes (offset + q) 0) ≡ false
        → byte_faults layout.field layout.columns bytes offset q ≡ []
    last_is_sound unmarked =
        byte_is_sound layout.field layout.columns bytes offset q (record { below = rw (← layout.limit_is) (below q within); padding = padding_at_last ∙ unmarked })

  pub faultless_row : (i q next : ℕ) → q < n → AreFaultlessBelow layout.field layout.columns bytes offset (i * layout.width) → q ≡ i * layout.width + (layout.width - 1)
      → byte_faults layout.field layout.columns bytes offset q ≡ [] → next ≡ i + 1 → AreFaultlessBelow layout.field layout.columns bytes offset (next * layout.width)
  faultless_row i q next within before is here more p lt =
      let spread : next * layout.width ≡ i * layout.width + layout.width = ap (λ n. n * layout.width) more ∙ omega arith in
      elim (cases_lt p q) [
        | inl earlier ↦ faultless_to_last i q (omega (arith, within)) before (omega (arith, is)) p earlier
        | inr later ↦
            let last : p ≡ q = omega (arith, is, spread, later) in
            ap (byte_faults layout.field layout.columns bytes offset) last ∙ here
      ]

-- the last byte of a row lies within
pub last_inside : (count w i : ℕ) → 0 < w → i < count / w → i * w + (w - 1) < count
last_inside count w i positive below =
    let whole = div-add-mod' count w in
    let row : (i + 1) * w ≤ count / w * w = mul-le (i + 1) w (count / w) w (omega arith) (omega arith) in
    let spread : (i + 1) * w ≡ i * w + w = omega arith in
    omega (arith, whole, row, spread)

-- what is left of the rows after all whole rows is less than a row
pub rest_is_short : (count w i : ℕ) → 0 < w → count / w ≤ i → count ≤ i * w + (w - 1)
rest_is_short count w i positive all =
    let whole = div-add-mod' count w in
    let rest = mod_below count w positive in
    let more : count / w * w ≤ i * w = mul-le (count / w) w i w all (omega arith) in
    omega (arith, rest, whole, more)

-- ---- the bytes that are below a limit, as a run

pub below_in_run : (bytes : List ℕ) (offset limit place : ℕ) → place < prefix_len (is_within 0 limit) (drop offset bytes) → get_or bytes (offset + place) 0 < limit
unfolding is_within
below_in_run bytes offset limit place inside =
    let byte = get_or (drop offset bytes) place 0 in
    let parts = and_parts (leb 0 byte) (ltb byte (0 + limit)) (prefix_len_passes (is_within 0 limit) (drop offset bytes) place 0 inside) in
    omega (arith, ltb-true byte (0 + limit) parts.1, get_or-drop offset bytes place 0)

pub not_below_after : (bytes : List ℕ) (offset limit place : ℕ) → place ≡ prefix_len (is_within 0 limit) (drop offset bytes) → offset + place < length bytes → limit ≤ get_or bytes (offset + place) 0
unfolding is_within
not_below_after bytes offset limit place is inside =
    let n = prefix_len (is_within 0 limit) (drop offset bytes) in
    let byte = get_or (drop offset bytes) n 0 in
    let stop : (leb 0 byte && ltb byte (0 + limit)) ≡ false = prefix_len_stops (is_within 0 limit) (drop offset bytes) 0 (omega (arith, is, inside, length-drop offset bytes)) in
    let low : leb 0 byte ≡ true = le-leb 0 byte (omega arith) in
    let high : ltb byte (0 + limit) ≡ false = ap (λ t. t && ltb byte (0 + limit)) (sym low) ∙ stop in
    let same : get_or bytes (offset + place) 0 ≡ byte = ap (λ k. get_or bytes (offset + k) 0) is ∙ sym (get_or-drop offset bytes n 0) in
    omega (arith, ltb-false byte (0 + limit) high, same)
