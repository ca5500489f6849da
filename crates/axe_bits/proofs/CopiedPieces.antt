-- Lists in pieces of one width of which some become copies of earlier ones, all at once.
use Rattle.std.proofs.Common.{◌≡◌, ℕ, ◌+◌, ◌-◌, ◌*◌, ◌<◌, ◌≤◌, List, [], length, get_or, sym, ap, subst, ◌∙◌, arith, inl, inr}
use Rattle.std.specs.List.{copy_within}
use Rattle.std.specs.Simd.Lanes.{chunk, put_chunk}
use Rattle.std.proofs.lemmas.Bool.{cases_lt}
use Rattle.std.proofs.lemmas.List.{ext_get_or}
use Rattle.std.proofs.lemmas.Nat.{mul-le}
use Rattle.std.proofs.lemmas.Simd.{length-chunk, length-put_chunk, get_or-chunk, get_or-put_chunk_below, get_or-put_chunk_at, get_or-put_chunk_above}
use Rattle.axe_algebra.specs.Lists.{listed}
use Rattle.axe_algebra.proofs.ListEntries.{listed_length, listed_at}
use Rattle.axe_bits.specs.Combinations.{HaveEntryCopies}
use Rattle.axe_bits.proofs.PieceLaws.{copied_piece, piece_within}

-- the list whose pieces from 1 on and before `count` were copied to where those from `start` + 1 on stand
abbrev pub with_copies : ℕ → ℕ → ℕ → List ℕ → List ℕ
with_copies w start count xs = put_chunk (start * w + w) xs (chunk w (count * w - w) xs)

module _ (w many start count : ℕ) (xs : List ℕ) (some : 1 ≤ count) (early : count ≤ start) (within : start + count ≤ many)
    (long : length xs ≡ many * w) where
  one : w ≤ count * w
  one = omega (arith, mul-le 1 w count w some (omega arith))

  room : start * w + count * w ≤ length xs
  room = omega (arith, long, mul-le (start + count) w many w within (omega arith))

  source_long : length (chunk w (count * w - w) xs) ≡ count * w - w
  source_long = length-chunk w (count * w - w) xs (omega (arith, one, room))

  pub as_long : length (with_copies w start count xs) ≡ many * w
  as_long = length-put_chunk (start * w + w) xs (chunk w (count * w - w) xs) ∙ long

  pub copied : (first : ℕ) → first ≡ start * w → copy_within xs w (count * w) (first + w) ≡ with_copies w start count xs
  copied first at =
      let all : count * w ≡ w + (count * w - w) = omega (arith, one) in
      ap (λ k. copy_within xs w (count * w) (k + w)) at
      ∙ ap (λ e. copy_within xs w e (start * w + w)) all
      ∙ copied_piece xs w (count * w - w) (start * w + w) (omega (arith, one, room)) (omega (arith, one, room))

  pub copied_piece_at : (i : ℕ) → 0 < i → i < count → chunk ((start + i) * w) w (with_copies w start count xs) ≡ chunk (i * w) w xs
  copied_piece_at i positive below =
      ext_get_or 0 (chunk ((start + i) * w) w (with_copies w start count xs)) (chunk (i * w) w xs) (here ∙ sym there) (λ j inside.
      let small : j < w = omega (arith, here) in
      let place : (start + i) * w + j ≡ start * w + w + (i * w - w + j) = omega (arith, after) in
      let from : w + (i * w - w + j) ≡ i * w + j = omega (arith, after) in
      let inner : i * w - w + j < count * w - w = omega (arith, small, after, before) in
      get_or-chunk ((start + i) * w) w (with_copies w start count xs) j 0 small ∙ ap (λ k. get_or (with_copies w start count xs) k 0) place
      ∙ get_or-put_chunk_at (start * w + w) xs (chunk w (count * w - w) xs) (i * w - w + j) 0 (omega (arith, inner, source_long)) (omega (arith, source_long, one, room))
      ∙ get_or-chunk w (count * w - w) xs (i * w - w + j) 0 inner
      ∙ ap (λ k. get_or xs k 0) from ∙ sym (get_or-chunk (i * w) w xs j 0 small))
    where
      after : w ≤ i * w
      after = omega (arith, mul-le 1 w i w positive (omega arith))

      before : i * w + w ≤ count * w
      before = piece_within w count i below

      here : length (chunk ((start + i) * w) w (with_copies w start count xs)) ≡ w
      here = length-chunk ((start + i) * w) w (with_copies w start count xs) (omega (arith, as_long, long, before, room))

      there : length (chunk (i * w) w xs) ≡ w
      there = length-chunk (i * w) w xs (omega (arith, before, room))

  kept : (x : ℕ) → x < many → ((j : ℕ) → j < w → get_or (with_copies w start count xs) (x * w + j) 0 ≡ get_or xs (x * w + j) 0) →
      chunk (x * w) w (with_copies w start count xs) ≡ chunk (x * w) w xs
  kept x inside same =
      let here = length-chunk (x * w) w (with_copies w start count xs) (omega (arith, as_long, piece_within w many x inside)) in
      ext_get_or 0 (chunk (x * w) w (with_copies w start count xs)) (chunk (x * w) w xs)
      (here ∙ sym (length-chunk (x * w) w xs (omega (arith, long, piece_within w many x inside)))) (λ j at.
      let small : j < w = omega (arith, here) in
      get_or-chunk (x * w) w (with_copies w start count xs) j 0 small ∙ same j small ∙ sym (get_or-chunk (x * w) w xs j 0 small))

  pub earlier_piece : (x : ℕ) → x ≤ start → chunk (x * w) w (with_copies w start count xs) ≡ chunk (x * w) w xs
  earlier_piece x below =
      kept x (omega (arith, below, some, within)) (λ j small.
      get_or-put_chunk_below (start * w + w) xs (chunk w (count * w - w) xs) (x * w + j) 0
      (omega (arith, small, mul-le x w start w below (omega arith))))

  pub later_piece : (x : ℕ) → start + count ≤ x → x < many → chunk (x * w) w (with_copies w start count xs) ≡ chunk (x * w) w xs
  later_piece x past inside =
      kept x inside (λ j small.
      get_or-put_chunk_above (start * w + w) xs (chunk w (count * w - w) xs) (x * w + j) 0
      (omega (arith, source_long, one, mul-le (start + count) w x w past (omega arith))))

  -- each piece is one of before
  pub each_piece : (P : List ℕ → Type 0) → ((x : ℕ) → x < many → P (chunk (x * w) w xs)) → (x : ℕ) → x < many →
      P (chunk (x * w) w (with_copies w start count xs))
  each_piece P all x inside = elim (cases_lt start x) [
    | inl past ↦ elim (cases_lt x (start + count)) [
      | inl below ↦
          let i : ℕ = x - start in
          let is : start + i ≡ x = omega (arith, past) in
          subst (λ k. P (chunk (k * w) w (with_copies w start count xs))) is
          (subst P (sym (copied_piece_at i (omega (arith, past)) (omega (arith, past, below)))) (all i (omega (arith, inside))))
      | inr beyond ↦ subst P (sym (later_piece x (omega (arith, beyond)) inside)) (all x inside)
    ]
    | inr before ↦ subst P (sym (earlier_piece x (omega (arith, before)))) (all x inside)
  ]

  -- the lists that are made of the pieces
  pub copied_lists : (g : List ℕ → List ℕ) →
      HaveEntryCopies start count (listed many (λ x. g (chunk (x * w) w xs))) (listed many (λ x. g (chunk (x * w) w (with_copies w start count xs))))
  copied_lists g = record {
    as_many = listed_length many after ∙ sym (listed_length many before);
    copies = λ i positive below.
        listed_at many after (start + i) [] (omega (arith, below, within)) ∙ ap g (copied_piece_at i positive below)
        ∙ sym (listed_at many before i [] (omega (arith, below, within)));
    earlier = λ x below.
        let inside : x < many = omega (arith, below, some, within) in
        listed_at many after x [] inside ∙ ap g (earlier_piece x below) ∙ sym (listed_at many before x [] inside);
    later = λ x past there.
        let inside : x < many = omega (arith, there, listed_length many before) in
        listed_at many after x [] inside ∙ ap g (later_piece x past inside) ∙ sym (listed_at many before x [] inside);
  }
    where
      after : ℕ → List ℕ
      after x = g (chunk (x * w) w (with_copies w start count xs))

      before : ℕ → List ℕ
      before x = g (chunk (x * w) w xs)
