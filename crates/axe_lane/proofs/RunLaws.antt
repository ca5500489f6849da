-- Runs of bytes in a range, found by vectors.
use Rattle.std.proofs.Common.{◌≡◌, ℕ, ◌+◌, ◌-◌, ◌%◌, ◌^◌, ◌<◌, ◌≤◌, List, [], ◌∷◌, Bool, true, false, not, ◌&&◌, cond, eqb, leb, ltb, map, length, get_or, drop, replicate, refl, sym, ap, ap₂, ◌∙◌, arith, inl, inr, w8}
use Rattle.std.specs.List.{prefix_len}
use Rattle.std.specs.Simd.Lanes.{zip2, mask_l, top, chunk, Each1}
use lib.Count.{count_trailing_zeros}
use Rattle.std.proofs.lemmas.Bool.{cases_lt, lt-ltb, le-ltb, le-leb, lt-leb, eq-eqb, ne_eqb, cond-true, cond-false}
use Rattle.std.proofs.lemmas.List.{length-map, drop_more, drop_all}
use Rattle.std.proofs.lemmas.List.Folds.{prefix_len-append}
use Rattle.std.proofs.lemmas.Simd.{map-map, chunk-drop, length-chunk, zip2_splat, zip2_splat_left, tops_compared, mask_l-mod, first_set_mask_l}
use Rattle.axe_lane.specs.Runs.{is_within}
use Rattle.axe_lane.proofs.VectorLaws.{map-agree}

-- ---- one byte

-- how far a byte is above the least number, modulo 256
abbrev pub above : ℕ → ℕ → ℕ
above low b = (b + (256 - low)) % 256

pub is_outside : (low count b : ℕ) → low + count ≤ 256 → b < 256 → leb count (above low b) ≡ not (is_within low count b)
unfolding is_within
is_outside low count b fits byte = elim (cases_lt b low) [
  | inl below ↦
      let far : count ≤ above low b = omega arith in
      let less : leb low b ≡ false = lt-leb low b below in
      le-leb count (above low b) far ∙ sym (ap (λ t. not (t && ltb b (low + count))) less)
  | inr from ↦
      let near : above low b ≡ b - low = omega arith in
      let reached : leb low b ≡ true = le-leb low b from in
      elim (cases_lt b (low + count)) [
        | inl inside ↦
            let more : leb count (above low b) ≡ false = lt-leb count (above low b) (omega (arith, near)) in
            more ∙ sym (ap₂ (λ s t. not (s && t)) reached (lt-ltb b (low + count) inside))
        | inr past ↦
            let more : leb count (above low b) ≡ true = le-leb count (above low b) (omega (arith, near)) in
            more ∙ sym (ap₂ (λ s t. not (s && t)) reached (le-ltb b (low + count) past))
      ]
]

pub within_from_test : (low count b : ℕ) → low + count ≤ 256 → b < 256 → above low b < count → is_within low count b ≡ true
within_from_test low count b fits byte less =
    let inside = is_outside low count b fits byte in
    not_not (is_within low count b) (sym inside ∙ lt-leb count (above low b) less)
  where
    not_not : (t : Bool) → not t ≡ false → t ≡ true
    not_not true e = refl
    not_not false e = sym e

pub outside_from_test : (low count b : ℕ) → low + count ≤ 256 → b < 256 → count ≤ above low b → is_within low count b ≡ false
outside_from_test low count b fits byte past =
    let outside = is_outside low count b fits byte in
    not_not (is_within low count b) (sym outside ∙ le-leb count (above low b) past)
  where
    not_not : (t : Bool) → not t ≡ true → t ≡ false
    not_not true e = sym e
    not_not false e = refl

-- ---- one vector

prefix_agree : (p q : ℕ → Bool) → ((x : ℕ) → p x ≡ q x) → (xs : List ℕ) → prefix_len p xs ≡ prefix_len q xs
prefix_agree p q same [] = refl
prefix_agree p q same (x ∷ xs) = ap₂ (λ t n. cond t (1 + n) 0) (same x) (prefix_agree p q same xs)

not_twice : (t : Bool) → not (not t) ≡ t
not_twice true = refl
not_twice false = refl

-- the mask of the lanes that are not in the range tells how long the run of those that are is
pub run_of_mask : (lanes : List ℕ) (low count mask : ℕ) → length lanes ≡ 16 → Each1 (λ b. b < 256) lanes → low + count ≤ 256 →
    mask ≡ mask_l (map (top 7) (zip2 (λ a b. cond (leb a b) 255 0) (replicate 16 count) (zip2 (λ x y. (x + (256 - y)) % 256) lanes (replicate 16 low)))) % 2 ^ 64 →
    cond (eqb mask 0) 16 (count_trailing_zeros 64 mask) ≡ prefix_len (is_within low count) lanes
run_of_mask lanes low count mask long bytes fits is =
    let outside : ℕ → Bool = λ b. not (is_within low count b) in
    let moved : zip2 (λ x y. (x + (256 - y)) % 256) lanes (replicate 16 low) ≡ map (above low) lanes = zip2_splat (λ x y. (x + (256 - y)) % 256) lanes 16 low long in
    let tested : zip2 leb (replicate 16 count) (map (above low) lanes) ≡ map (λ y. leb count y) (map (above low) lanes) =
    zip2_splat_left leb count 16 (map (above low) lanes) (length-map lanes (above low) ∙ long) in
    let lanes_tested : map (λ y. leb count y) (map (above low) lanes) ≡ map outside lanes =
    map-map (λ y. leb count y) (above low) lanes ∙ map-agree (λ b. b < 256) (λ b. leb count (above low b)) outside (λ b byte. is_outside low count b fits byte) lanes bytes in
    let mask_is : mask ≡ mask_l (map outside lanes) =
    is
    ∙ ap (λ ms. mask_l ms % 2 ^ 64) (tops_compared w8 leb (replicate 16 count) (zip2 (λ x y. (x + (256 - y)) % 256) lanes (replicate 16 low)))
    ∙ ap (λ v. mask_l (zip2 leb (replicate 16 count) v) % 2 ^ 64) moved
    ∙ ap (λ ms. mask_l ms % 2 ^ 64) (tested ∙ lanes_tested)
    ∙ mask_l-mod (map outside lanes) 64 (omega (arith, length-map lanes outside, long)) in
    ap (λ m. cond (eqb m 0) 16 (count_trailing_zeros 64 m)) mask_is
    ∙ first_set_mask_l outside lanes 16 long (omega arith)
    ∙ prefix_agree (λ b. not (outside b)) (is_within low count) (λ b. not_twice (is_within low count b)) lanes

-- ---- runs from an index on

module _ (p : ℕ → Bool) (bytes : List ℕ) where
  -- a whole block of a run
  pub run_goes_on : (at n next : ℕ) → at + n ≤ length bytes → prefix_len p (chunk at n bytes) ≡ n → next ≡ at + n →
      at + prefix_len p (drop at bytes) ≡ next + prefix_len p (drop next bytes)
  run_goes_on at n next room all is =
      let long = length-chunk at n bytes room in
      let whole : prefix_len p (drop at bytes) ≡ length (chunk at n bytes) + prefix_len p (drop (at + n) bytes) =
      ap (prefix_len p) (chunk-drop at n bytes)
      ∙ prefix_len-append p (chunk at n bytes) (drop (at + n) bytes)
      ∙ cond-true _ _ _ (eq-eqb _ _ (all ∙ sym long)) in
      let after : prefix_len p (drop next bytes) ≡ prefix_len p (drop (at + n) bytes) = ap (λ k. prefix_len p (drop k bytes)) is in
      omega (arith, whole, after, long, is)

  -- a block in which a run ends
  pub run_ends : (at n : ℕ) → at + n ≤ length bytes → prefix_len p (chunk at n bytes) < n → prefix_len p (drop at bytes) ≡ prefix_len p (chunk at n bytes)
  run_ends at n room some =
      let long = length-chunk at n bytes room in
      ap (prefix_len p) (chunk-drop at n bytes)
      ∙ prefix_len-append p (chunk at n bytes) (drop (at + n) bytes)
      ∙ cond-false _ _ _ (ne_eqb (prefix_len p (chunk at n bytes)) (length (chunk at n bytes)) (λ e. omega (arith, e, long, some)))

  -- one byte more of a run, its end at a byte, and at the end of the bytes
  pub run_has : (at : ℕ) → at < length bytes → p (get_or bytes at 0) ≡ true → at + prefix_len p (drop at bytes) ≡ at + 1 + prefix_len p (drop (at + 1) bytes)
  run_has at lt here =
      let more : prefix_len p (drop at bytes) ≡ 1 + prefix_len p (drop (at + 1) bytes) =
      ap (prefix_len p) (drop_more bytes at 0 lt) ∙ cond-true _ _ _ here in
      omega (arith, more)

  pub run_stops : (at : ℕ) → at < length bytes → p (get_or bytes at 0) ≡ false → prefix_len p (drop at bytes) ≡ 0
  run_stops at lt here = ap (prefix_len p) (drop_more bytes at 0 lt) ∙ cond-false _ _ _ here

  pub run_at_end : (at : ℕ) → length bytes ≤ at → prefix_len p (drop at bytes) ≡ 0
  run_at_end at past = ap (prefix_len p) (drop_all at bytes past)
