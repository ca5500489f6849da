-- Digits at a place of a longer list, with zeros before and after them.
use Rattle.std.proofs.Common.{◌≡◌, ℕ, ◌+◌, ◌-◌, ◌*◌, ◌%◌, ◌<◌, ◌≤◌, List, ◌++◌, length, get_or, replicate, take, drop}
use Rattle.std.proofs.Common.{length-append, sym, subst, ap, ◌∙◌, arith, inl, inr}
use Rattle.std.specs.Simd.Lanes.{zip2}
use Rattle.std.proofs.lemmas.Bool.{cases_lt}
use Rattle.std.proofs.lemmas.List.{get_or_append_left, get_or-append_right, get_or-replicate, get_or_past, get_or-drop}
use Rattle.std.proofs.lemmas.List.{get_or-take, ext_get_or, length-drop, length-replicate, length-take}
use Rattle.std.proofs.lemmas.List.Elements.{All-from_get_or}
use Rattle.std.proofs.lemmas.Simd.{get_or-zip2, length-zip2}
use Rattle.axe_algebra.proofs.ListEntries.{listed_length, listed_at}
use Rattle.axe_lane.specs.Bytes.{AreDigits}
use Rattle.axe_layer.specs.Digits.{digits_with_multiple}
use Rattle.axe_layer.proofs.BitLaws.{written}
use Rattle.axe_layer.proofs.DigitLaws.{digit-below, length-digits_with_multiple, get_or-digits_with_multiple}
use Rattle.axe_layer.proofs.EndLaws.{end-before, end-after, length-end}
use Rattle.axe_plane.proofs.PlaneLaws.{unchanged}
use Rattle.axe_plane.specs.Sums.{placed}

-- how many zeros stand before the index
zeros-long : (start : ℕ) → length (replicate {A = ℕ} start 0) ≡ start
zeros-long start = length-replicate {A = ℕ} start 0

-- placed digits are as many as asked for
pub length-placed : (n start : ℕ) (xs : List ℕ) → length (placed n start xs) ≡ n
length-placed n start xs = listed_length n (λ j. get_or (replicate start 0 ++ xs) j 0)

-- a digit inside is that of the list with zeros before it
placed-inside : (n start : ℕ) (xs : List ℕ) (j : ℕ) → j < n →
    get_or (placed n start xs) j 0 ≡ get_or (replicate start 0 ++ xs) j 0
placed-inside n start xs j inside = listed_at n (λ i. get_or (replicate start 0 ++ xs) i 0) j 0 inside

-- past the end there are zeros
placed-past : (n start : ℕ) (xs : List ℕ) (j : ℕ) → n ≤ j → get_or (placed n start xs) j 0 ≡ 0
placed-past n start xs j past = get_or_past (placed n start xs) j 0 (omega (arith, length-placed n start xs))

-- before the index there are zeros
pub placed-before : (n start : ℕ) (xs : List ℕ) (j : ℕ) → j < start → get_or (placed n start xs) j 0 ≡ 0
placed-before n start xs j before = elim (cases_lt j n) [
  | inl inside ↦
      placed-inside n start xs j inside
      ∙ get_or_append_left (replicate start 0) xs 0 j (omega (arith, zeros-long start))
      ∙ get_or-replicate start j 0 0 before
  | inr past ↦ placed-past n start xs j past
]

-- from the index on stand the digits
pub placed-at : (n start : ℕ) (xs : List ℕ) (k : ℕ) → start + length xs ≤ n → k < length xs →
    get_or (placed n start xs) (start + k) 0 ≡ get_or xs k 0
placed-at n start xs k within below =
    let less : start + k - start ≡ k = omega arith in
    placed-inside n start xs (start + k) (omega arith)
    ∙ get_or-append_right (replicate start 0) xs start (start + k) 0 (zeros-long start) (omega arith)
    ∙ ap (λ i. get_or xs i 0) less

-- after them there are zeros
pub placed-after : (n start : ℕ) (xs : List ℕ) (j : ℕ) → start + length xs ≤ j → get_or (placed n start xs) j 0 ≡ 0
placed-after n start xs j after = elim (cases_lt j n) [
  | inl inside ↦
      placed-inside n start xs j inside
      ∙ get_or_past (replicate start 0 ++ xs) j 0
      (omega (arith, length-append (replicate start 0) xs, zeros-long start))
  | inr past ↦ placed-past n start xs j past
]

-- placed digits are digits
pub AreDigits-placed : (p n start : ℕ) (xs : List ℕ) → AreDigits p xs → 0 < p → AreDigits p (placed n start xs)
AreDigits-placed p n start xs digits positive =
    All-from_get_or (λ digit. digit < p) (placed n start xs) 0 (λ j inside. elim (cases_lt j start) [
      | inl before ↦ subst (λ x. x < p) (sym (placed-before n start xs j before)) positive
      | inr from ↦
          let here : j < n = omega (arith, length-placed n start xs) in
          subst (λ x. x < p)
          (sym (placed-inside n start xs j here
          ∙ get_or-append_right (replicate start 0) xs start j 0 (zeros-long start) from))
          (digit-below p xs (j - start) positive digits)
    ])

-- ---- a list of digits, the middle of which is a sum with other digits

module _ (p m start count : ℕ) (xs ys new : List ℕ) (within : start + length ys ≤ length xs)
    (positive : 0 < p) (digits : AreDigits p xs) (counted : count ≡ length ys)
    (is : new ≡ zip2 (λ x y. (x + m * y) % p) (take count (drop start xs)) ys) where
  abbrev rest : List ℕ
  rest = drop count (drop start xs)

  abbrev whole : List ℕ
  whole = take start xs ++ (new ++ rest)

  abbrev others : List ℕ
  others = placed (length xs) start ys

  middle-room : start ≤ length xs
  middle-room = omega (arith, within)

  middle-long : length (take count (drop start xs)) ≡ length ys
  middle-long = omega (arith, length-take count (drop start xs), length-drop start xs, within, counted)

  new-long : length new ≡ length ys
  new-long =
      ap length is ∙ length-zip2 (λ x y. (x + m * y) % p) (take count (drop start xs)) ys middle-long ∙ middle-long

  whole-long : length whole ≡ length xs
  whole-long =
      length-end start xs (new ++ rest) middle-room
      (omega (
        arith,
        length-append new rest,
        new-long,
        counted,
        within,
        length-drop count (drop start xs),
        length-drop start xs,
      ))

  -- where the others are 0, a digit stays
  stays : (j : ℕ) → get_or others j 0 ≡ 0 → get_or xs j 0 ≡ (get_or xs j 0 + m * get_or others j 0) % p
  stays j none = sym (unchanged p m (get_or xs j 0) (get_or others j 0) (digit-below p xs j positive digits) none)

  -- in the middle stand the sums
  sums : (k : ℕ) → k < length ys → get_or new k 0 ≡ (get_or xs (start + k) 0 + m * get_or others (start + k) 0) % p
  sums k below =
      ap (λ (l : List ℕ). get_or l k 0) is
      ∙ get_or-zip2 (λ x y. (x + m * y) % p) (take count (drop start xs)) ys k 0 0 0 (omega (arith, middle-long)) below
      ∙ ap (λ x. (x + m * get_or ys k 0) % p)
      (get_or-take count (drop start xs) k 0 (omega (arith, counted)) ∙ get_or-drop start xs k 0)
      ∙ ap (λ y. (get_or xs (start + k) 0 + m * y) % p) (sym (placed-at (length xs) start ys k within below))

  -- after the middle a digit stays
  past : (k : ℕ) → length ys ≤ k → get_or (new ++ rest) k 0 ≡ get_or xs (start + k) 0
  past k after =
      let there : start + (count + (k - length ys)) ≡ start + k = omega (arith, counted) in
      get_or-append_right new rest (length ys) k 0 new-long after ∙ get_or-drop count (drop start xs) (k - length ys) 0
      ∙ get_or-drop start xs (count + (k - length ys)) 0 ∙ ap (λ i. get_or xs i 0) there

  from-start : (k : ℕ) → get_or (new ++ rest) k 0 ≡ (get_or xs (start + k) 0 + m * get_or others (start + k) 0) % p
  from-start k = elim (cases_lt k (length ys)) [
    | inl below ↦ get_or_append_left new rest 0 k (omega (arith, new-long)) ∙ sums k below
    | inr after ↦ past k after ∙ stays (start + k) (placed-after (length xs) start ys (start + k) (omega arith))
  ]

  at-middle : (j : ℕ) → get_or whole j 0 ≡ (get_or xs j 0 + m * get_or others j 0) % p
  at-middle j = elim (cases_lt j start) [
    | inl before ↦ end-before start xs (new ++ rest) middle-room j before
        ∙ stays j (placed-before (length xs) start ys j before)
    | inr from ↦
        let there : start + (j - start) ≡ j = omega arith in
        end-after start xs (new ++ rest) middle-room j from ∙ from-start (j - start)
        ∙ ap (λ i. (get_or xs i 0 + m * get_or others i 0) % p) there
  ]

  -- the whole list is a sum with the digits that are placed
  pub sum-with-placed : whole ≡ digits_with_multiple p xs m others
  sum-with-placed =
      ext_get_or 0 whole (digits_with_multiple p xs m others)
      (whole-long ∙ sym (length-digits_with_multiple p xs m others)) (λ j inside.
      at-middle j ∙ sym (get_or-digits_with_multiple p xs m others j (omega (arith, whole-long))))

-- and what a vector is, the middle of which was written anew
pub written-middle : (k r p m start count : ℕ) (xs ys v new : List ℕ) → k ≡ length xs → v ≡ xs → r ≡ p →
    start + length ys ≤ length xs → 0 < p → AreDigits p xs → count ≡ length ys →
    new ≡ zip2 (λ x y. (x + m * y) % r) (take count (drop start v)) ys →
    take k ((take start v ++ (new ++ drop count (drop start v)))
    ++ drop (length (take start v ++ (new ++ drop count (drop start v)))) xs)
    ≡ digits_with_multiple p xs m (placed (length xs) start ys)
written-middle k r p m start count xs ys v new all same prime within positive digits counted is =
    let made : new ≡ zip2 (λ x y. (x + m * y) % p) (take count (drop start xs)) ys =
    is ∙ ap (λ q. zip2 (λ x y. (x + m * y) % q) (take count (drop start v)) ys) prime
    ∙ ap (λ (l : List ℕ). zip2 (λ x y. (x + m * y) % p) (take count (drop start l)) ys) same in
    let after : take start v ++ (new ++ drop count (drop start v))
    ≡ digits_with_multiple p xs m (placed (length xs) start ys) =
    ap (λ (l : List ℕ). take start l ++ (new ++ drop count (drop start l))) same
    ∙ sum-with-placed p m start count xs ys new within positive digits counted made in
    written k _ xs all (ap length after ∙ length-digits_with_multiple p xs m (placed (length xs) start ys)) ∙ after
