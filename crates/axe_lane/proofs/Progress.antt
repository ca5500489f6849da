-- What a kernel that writes has made after its first entries: the list combined with another up to an index.
use Rattle.std.proofs.Common.{◌≡◌, ℕ, zero, suc, ◌+◌, ◌<◌, ◌≤◌, List, [], ◌∷◌, length, get_or, set, take, refl, sym, ap, ◌∙◌, arith, add-one}
use Rattle.std.specs.Simd.Lanes.{chunk, put_chunk, zip2}
use Rattle.std.specs.List.{All}
use Rattle.std.proofs.lemmas.Simd.{length-chunk}
use Rattle.std.proofs.lemmas.List.Elements.{All-nil, All-cons, All-head, All-tail}

module _ (f : ℕ → ℕ → ℕ) where
  -- the first n entries are f of both lists' entries, the others are those of the first list
  abbrev pub combined_to : ℕ → List ℕ → List ℕ → List ℕ
  combined_to zero xs ys = xs
  combined_to (suc n) [] ys = []
  combined_to (suc n) (x ∷ xs) [] = x ∷ xs
  combined_to (suc n) (x ∷ xs) (y ∷ ys) = f x y ∷ combined_to n xs ys

  pub length-combined_to : (n : ℕ) (xs ys : List ℕ) → length (combined_to n xs ys) ≡ length xs
  length-combined_to zero xs ys = refl
  length-combined_to (suc n) [] ys = refl
  length-combined_to (suc n) (x ∷ xs) [] = refl
  length-combined_to (suc n) (x ∷ xs) (y ∷ ys) = ap suc (length-combined_to n xs ys)

  -- all entries
  pub combined_to_end : (n : ℕ) (xs ys : List ℕ) → length xs ≤ n → length ys ≡ length xs → combined_to n xs ys ≡ zip2 f xs ys
  combined_to_end zero [] ys h e = refl
  combined_to_end zero (x ∷ xs) ys h e = absurd (omega arith)
  combined_to_end (suc n) [] ys h e = refl
  combined_to_end (suc n) (x ∷ xs) [] h e = absurd (omega arith)
  combined_to_end (suc n) (x ∷ xs) (y ∷ ys) h e = ap (λ rest. f x y ∷ rest) (combined_to_end n xs ys (omega arith) (omega arith))

  next_entry : (n : ℕ) (xs ys : List ℕ) → n < length xs → length ys ≡ length xs
      → set (combined_to n xs ys) n (f (get_or (combined_to n xs ys) n 0) (get_or ys n 0)) ≡ combined_to (suc n) xs ys
  next_entry zero [] ys h e = absurd (omega arith)
  next_entry zero (x ∷ xs) [] h e = absurd (omega arith)
  next_entry zero (x ∷ xs) (y ∷ ys) h e = refl
  next_entry (suc n) [] ys h e = absurd (omega arith)
  next_entry (suc n) (x ∷ xs) [] h e = absurd (omega arith)
  next_entry (suc n) (x ∷ xs) (y ∷ ys) h e = ap (λ rest. f x y ∷ rest) (next_entry n xs ys (omega arith) (omega arith))

  -- one entry more
  pub combined_to_more : (n : ℕ) (xs ys : List ℕ) → n < length xs → length ys ≡ length xs
      → set (combined_to n xs ys) n (f (get_or (combined_to n xs ys) n 0) (get_or ys n 0)) ≡ combined_to (n + 1) xs ys
  combined_to_more n xs ys h e = next_entry n xs ys h e ∙ ap (λ m. combined_to m xs ys) (sym (add-one n))

  first_block : (k : ℕ) (xs ys : List ℕ) → k ≤ length xs → length ys ≡ length xs
      → put_chunk zero xs (zip2 f (take k xs) (take k ys)) ≡ combined_to k xs ys
  first_block zero [] ys h e = refl
  first_block zero (x ∷ xs) ys h e = refl
  first_block (suc k) [] ys h e = absurd (omega arith)
  first_block (suc k) (x ∷ xs) [] h e = absurd (omega arith)
  first_block (suc k) (x ∷ xs) (y ∷ ys) h e = ap (λ rest. f x y ∷ rest) (first_block k xs ys (omega arith) (omega arith))

  -- a block more, of k entries
  pub combined_to_block : (k n m : ℕ) (xs ys : List ℕ) → m ≡ n + k → m ≤ length xs → length ys ≡ length xs
      → put_chunk n (combined_to n xs ys) (zip2 f (chunk n k (combined_to n xs ys)) (chunk n k ys)) ≡ combined_to m xs ys
  combined_to_block k zero m xs ys s h e =
      let all : k ≡ m = omega arith in
      first_block k xs ys (omega arith) e ∙ ap (λ j. combined_to j xs ys) all
  combined_to_block k (suc n) zero xs ys s h e = absurd (omega arith)
  combined_to_block k (suc n) (suc m) [] ys s h e = absurd (omega arith)
  combined_to_block k (suc n) (suc m) (x ∷ xs) [] s h e = absurd (omega arith)
  combined_to_block k (suc n) (suc m) (x ∷ xs) (y ∷ ys) s h e =
      ap (λ rest. f x y ∷ rest) (combined_to_block k n m xs ys (omega arith) (omega arith) (omega arith))

  all_entries : (k n : ℕ) (xs ys : List ℕ) → length xs ≡ k → length ys ≡ length xs
      → put_chunk zero (combined_to n xs ys) (zip2 f (take k xs) (take k ys)) ≡ zip2 f xs ys
  all_entries zero zero [] [] h e = refl
  all_entries zero (suc n) [] [] h e = refl
  all_entries (suc k) n [] ys h e = absurd (omega arith)
  all_entries zero n (x ∷ xs) ys h e = absurd (omega arith)
  all_entries k n [] (y ∷ ys) h e = absurd (omega arith)
  all_entries k n (x ∷ xs) [] h e = absurd (omega arith)
  all_entries (suc k) zero (x ∷ xs) (y ∷ ys) h e = ap (λ rest. f x y ∷ rest) (all_entries k zero xs ys (omega arith) (omega arith))
  all_entries (suc k) (suc n) (x ∷ xs) (y ∷ ys) h e = ap (λ rest. f x y ∷ rest) (all_entries k n xs ys (omega arith) (omega arith))

  -- the last block, of k entries, which may overlap with what is combined before it
  pub last_block : (k m n : ℕ) (xs ys now : List ℕ) → now ≡ combined_to n xs ys → m ≤ n → length xs ≡ m + k → length ys ≡ length xs
      → put_chunk m now (zip2 f (chunk m k xs) (chunk m k ys)) ≡ zip2 f xs ys
  last_block k m n xs ys now so_far from room e = ap (λ zs. put_chunk m zs (zip2 f (chunk m k xs) (chunk m k ys))) so_far ∙ at m n xs ys from room e
    where
      at : (m n : ℕ) (xs ys : List ℕ) → m ≤ n → length xs ≡ m + k → length ys ≡ length xs
          → put_chunk m (combined_to n xs ys) (zip2 f (chunk m k xs) (chunk m k ys)) ≡ zip2 f xs ys
      at zero n xs ys from room e = all_entries k n xs ys (omega arith) e
      at (suc m) zero xs ys from room e = absurd (omega arith)
      at (suc m) (suc n) [] ys from room e = absurd (omega arith)
      at (suc m) (suc n) (x ∷ xs) [] from room e = absurd (omega arith)
      at (suc m) (suc n) (x ∷ xs) (y ∷ ys) from room e = ap (λ rest. f x y ∷ rest) (at m n xs ys (omega arith) (omega arith) (omega arith))

  -- the last entry, the last two and the last three, of which two are taken as a block
  module _ (n : ℕ) (xs ys now : List ℕ) (so_far : now ≡ combined_to n xs ys) (e : length ys ≡ length xs) where
    pub last_one : length xs ≡ n + 1 → set now n (f (get_or now n 0) (get_or ys n 0)) ≡ zip2 f xs ys
    last_one h =
        ap (λ zs. set zs n (f (get_or zs n 0) (get_or ys n 0))) so_far
        ∙ combined_to_more n xs ys (omega arith) e
        ∙ combined_to_end (n + 1) xs ys (omega arith) e

    two_more : n + 2 ≤ length xs → put_chunk n now (zip2 f (chunk n 2 now) (chunk n 2 ys)) ≡ combined_to (n + 2) xs ys
    two_more h =
        ap (λ zs. put_chunk n zs (zip2 f (chunk n 2 zs) (chunk n 2 ys))) so_far ∙ combined_to_block 2 n (n + 2) xs ys refl h e

    pub last_pair : length xs ≡ n + 2 → put_chunk n now (zip2 f (chunk n 2 now) (chunk n 2 ys)) ≡ zip2 f xs ys
    last_pair h = two_more (omega arith) ∙ combined_to_end (n + 2) xs ys (omega arith) e

    pub last_three : length xs ≡ n + 3 → (next : List ℕ) → next ≡ put_chunk n now (zip2 f (chunk n 2 now) (chunk n 2 ys)) →
        set next (n + 2) (f (get_or next (n + 2) 0) (get_or ys (n + 2) 0)) ≡ zip2 f xs ys
    last_three h next is =
        ap (λ zs. set zs (n + 2) (f (get_or zs (n + 2) 0) (get_or ys (n + 2) 0))) (is ∙ two_more (omega arith))
        ∙ combined_to_more (n + 2) xs ys (omega arith) e
        ∙ combined_to_end (n + 2 + 1) xs ys (omega arith) e

  -- a fact of each entry of the first list, and of each value of f on entries, is one of each combined entry
  pub All-combined_to : (P : ℕ → Type 0) → ((x y : ℕ) → P (f x y)) → (n : ℕ) (xs ys : List ℕ) → All P xs → All P (combined_to n xs ys)
  All-combined_to P value zero xs ys all = all
  All-combined_to P value (suc n) [] ys all = All-nil P
  All-combined_to P value (suc n) (x ∷ xs) [] all = all
  All-combined_to P value (suc n) (x ∷ xs) (y ∷ ys) all =
      All-cons P (f x y) (combined_to n xs ys) (value x y) (All-combined_to P value n xs ys (All-tail P x xs all))

  -- the same, where the value is on entries of which P and Q hold
  pub All-combined_from : (P Q : ℕ → Type 0) → ((x y : ℕ) → P x → Q y → P (f x y)) → (n : ℕ) (xs ys : List ℕ) → All P xs → All Q ys → All P (combined_to n xs ys)
  All-combined_from P Q value zero xs ys all others = all
  All-combined_from P Q value (suc n) [] ys all others = All-nil P
  All-combined_from P Q value (suc n) (x ∷ xs) [] all others = all
  All-combined_from P Q value (suc n) (x ∷ xs) (y ∷ ys) all others =
      All-cons P (f x y) (combined_to n xs ys) (value x y (All-head P x xs all) (All-head Q y ys others))
      (All-combined_from P Q value n xs ys (All-tail P x xs all) (All-tail Q y ys others))

  pub All-zip2_from : (P Q R : ℕ → Type 0) → ((x y : ℕ) → P x → Q y → R (f x y)) → (xs ys : List ℕ) → All P xs → All Q ys → All R (zip2 f xs ys)
  All-zip2_from P Q R value [] ys all others = All-nil R
  All-zip2_from P Q R value (x ∷ xs) [] all others = All-nil R
  All-zip2_from P Q R value (x ∷ xs) (y ∷ ys) all others =
      All-cons R (f x y) (zip2 f xs ys) (value x y (All-head P x xs all) (All-head Q y ys others))
      (All-zip2_from P Q R value xs ys (All-tail P x xs all) (All-tail Q y ys others))

  pub All-zip2 : (P : ℕ → Type 0) → ((x y : ℕ) → P (f x y)) → (xs ys : List ℕ) → All P (zip2 f xs ys)
  All-zip2 P value [] ys = All-nil P
  All-zip2 P value (x ∷ xs) [] = All-nil P
  All-zip2 P value (x ∷ xs) (y ∷ ys) = All-cons P (f x y) (zip2 f xs ys) (value x y) (All-zip2 P value xs ys)

-- ---- a list that another takes the place of

abbrev pub second : ℕ → ℕ → ℕ
second x y = y

zip2-second : (xs ys : List ℕ) → length ys ≡ length xs → zip2 second xs ys ≡ ys
zip2-second [] [] e = refl
zip2-second [] (y ∷ ys) e = absurd (omega arith)
zip2-second (x ∷ xs) [] e = absurd (omega arith)
zip2-second (x ∷ xs) (y ∷ ys) e = ap (λ rest. y ∷ rest) (zip2-second xs ys (omega arith))

pub put_block : (k n m : ℕ) (xs ys now : List ℕ) → now ≡ combined_to second n xs ys → m ≡ n + k → m ≤ length xs → length ys ≡ length xs →
    put_chunk n now (chunk n k ys) ≡ combined_to second m xs ys
put_block k n m xs ys now so_far next room e =
    let here : List ℕ = combined_to second n xs ys in
    let long : length (chunk n k here) ≡ k = length-chunk n k here (omega (arith, next, room, length-combined_to second n xs ys)) in
    let other : length (chunk n k ys) ≡ k = length-chunk n k ys (omega (arith, next, room, e)) in
    ap (λ zs. put_chunk n zs (chunk n k ys)) so_far
    ∙ ap (put_chunk n here) (sym (zip2-second (chunk n k here) (chunk n k ys) (other ∙ sym long)))
    ∙ combined_to_block second k n m xs ys next room e

pub put_entry : (n : ℕ) (xs ys now : List ℕ) → now ≡ combined_to second n xs ys → n < length xs → length ys ≡ length xs →
    set now n (get_or ys n 0) ≡ combined_to second (n + 1) xs ys
put_entry n xs ys now so_far below e = ap (λ zs. set zs n (get_or ys n 0)) so_far ∙ combined_to_more second n xs ys below e

pub put_all : (n : ℕ) (xs ys : List ℕ) → length xs ≤ n → length ys ≡ length xs → combined_to second n xs ys ≡ ys
put_all n xs ys all e = combined_to_end second n xs ys all e ∙ zip2-second xs ys e
