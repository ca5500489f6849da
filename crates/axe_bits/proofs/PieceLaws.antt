-- Lists in pieces of one width: piece x of width w is what stands from x w on.
use Rattle.std.proofs.Common.{◌≡◌, ◌≢◌, ℕ, ◌+◌, ◌-◌, ◌*◌, ◌<◌, ◌≤◌, List, [], ◌++◌, length, get_or, set, take, drop, replicate, sym, ap, ap₂, subst, ◌∙◌, arith, inl, inr, get_or-set_other, get_or-set_same}
use Rattle.std.specs.List.{copy_within, All}
use Rattle.std.specs.Simd.Lanes.{chunk, put_chunk}
use Rattle.std.proofs.lemmas.Bool.{cases_eq, cases_lt}
use Rattle.std.proofs.lemmas.List.{ext_get_or, get_or-replicate, get_or-take, length-replicate, length-set, length-take-le}
use Rattle.std.proofs.lemmas.List.Elements.{All-append, All-take, All-drop}
use Rattle.std.proofs.lemmas.Nat.{mul-le}
use Rattle.std.proofs.lemmas.Simd.{length-chunk, length-put_chunk, put_chunk_is, get_or-chunk, get_or-put_chunk_below, get_or-put_chunk_at, get_or-put_chunk_above}
use Rattle.axe_algebra.specs.Lists.{listed}
use Rattle.axe_algebra.proofs.ListEntries.{listed_length, listed_at}
use Rattle.axe_layer.proofs.BitLaws.{written}
use lib.Seq.{drop-drop}
use mathlib.Core.List.{append_assoc}

-- a piece lies within the list
pub piece_within : (w count x : ℕ) → x < count → x * w + w ≤ count * w
piece_within w count x below = omega (arith, mul-le (x + 1) w count w (omega arith) (omega arith))

-- a piece of a vector that was written anew
pub written_piece : (k a w : ℕ) (v items new : List ℕ) → v ≡ items → k ≡ length items → a + w ≤ length items → length new ≡ w →
    take k ((take a v ++ (new ++ drop (a + w - a) (drop a v))) ++ drop (length (take a v ++ (new ++ drop (a + w - a) (drop a v)))) items)
    ≡ put_chunk a items new
written_piece k a w v items new same all room long =
    let wide : a + w - a ≡ length new = omega (arith, long) in
    let is : take a v ++ (new ++ drop (a + w - a) (drop a v)) ≡ put_chunk a items new =
    ap (λ (n : ℕ). take a v ++ (new ++ drop n (drop a v))) wide
    ∙ ap (λ (l : List ℕ). take a l ++ (new ++ drop (length new) (drop a l))) same
    ∙ sym (put_chunk_is a items new (omega (arith, long))) in
    written k _ items all (ap length is ∙ length-put_chunk a items new) ∙ is

-- a piece of a vector that was written anew in what follows a cut
pub written_after : (k a w : ℕ) (v items front back new : List ℕ) → v ≡ items → k ≡ length items → front ≡ take a v → back ≡ drop a v →
    a + w ≤ length items → length new ≡ w →
    take k ((front ++ (new ++ drop w back)) ++ drop (length (front ++ (new ++ drop w back))) items) ≡ put_chunk a items new
written_after k a w v items front back new same all front_is back_is room long =
    let wide : w ≡ a + w - a = omega arith in
    let whole : List ℕ → List ℕ = λ after. take k (after ++ drop (length after) items) in
    ap whole (ap₂ (λ (f b : List ℕ). f ++ (new ++ drop w b)) front_is back_is ∙ ap (λ m. take a v ++ (new ++ drop m (drop a v))) wide)
    ∙ written_piece k a w v items new same all room long

-- a piece that ends before a cut
pub piece_before : (a i w : ℕ) (v items front : List ℕ) → v ≡ items → front ≡ take a v → i + w ≤ a → a ≤ length items →
    take (i + w - i) (drop i front) ≡ chunk i w items
piece_before a i w v items front same front_is before room =
    let wide : i + w - i ≡ w = omega arith in
    let cut : List ℕ = take a items in
    let all : length cut ≡ a = length-take-le a items room in
    let long = length-chunk i w cut (omega (arith, all, before)) in
    ap (λ n. take n (drop i front)) wide ∙ ap (chunk i w) (front_is ∙ ap (take a) same)
    ∙ ext_get_or 0 (chunk i w cut) (chunk i w items) (long ∙ sym (length-chunk i w items (omega (arith, before, room)))) (λ j inside.
    let small : j < w = omega (arith, long) in
    get_or-chunk i w cut j 0 small ∙ get_or-take a items (i + j) 0 (omega (arith, before)) ∙ sym (get_or-chunk i w items j 0 small))

-- a copy of a piece
pub copied_piece : (xs : List ℕ) (i w dest : ℕ) → i + w ≤ length xs → dest + w ≤ length xs →
    copy_within xs i (i + w) dest ≡ put_chunk dest xs (chunk i w xs)
copied_piece xs i w dest from to =
    let wide : i + w - i ≡ w = omega arith in
    let long = length-chunk i w xs from in
    ap (λ n. (take dest xs ++ take n (drop i xs)) ++ drop (dest + n) xs) wide
    ∙ append_assoc (take dest xs) (chunk i w xs) (drop (dest + w) xs)
    ∙ ap (λ (l : List ℕ). take dest xs ++ (chunk i w xs ++ l)) (ap (λ n. drop (dest + n) xs) (sym long) ∙ sym (drop-drop (length (chunk i w xs)) dest xs))
    ∙ sym (put_chunk_is dest xs (chunk i w xs) (omega (arith, long)))

-- the piece that was written
pub same_piece : (w x : ℕ) (xs ys : List ℕ) → length ys ≡ w → x * w + w ≤ length xs → chunk (x * w) w (put_chunk (x * w) xs ys) ≡ ys
same_piece w x xs ys long room =
    let here = length-chunk (x * w) w (put_chunk (x * w) xs ys) (omega (arith, length-put_chunk (x * w) xs ys)) in
    ext_get_or 0 (chunk (x * w) w (put_chunk (x * w) xs ys)) ys (here ∙ sym long) (λ j inside.
    let small : j < w = omega (arith, here) in
    get_or-chunk (x * w) w (put_chunk (x * w) xs ys) j 0 small
    ∙ get_or-put_chunk_at (x * w) xs ys j 0 (omega (arith, long)) (omega (arith, long)))

-- another piece
pub other_piece : (w x y : ℕ) (xs ys : List ℕ) → length ys ≡ w → y * w + w ≤ length xs → y ≢ x →
    chunk (y * w) w (put_chunk (x * w) xs ys) ≡ chunk (y * w) w xs
other_piece w x y xs ys long room other =
    let here = length-chunk (y * w) w (put_chunk (x * w) xs ys) (omega (arith, length-put_chunk (x * w) xs ys)) in
    ext_get_or 0 (chunk (y * w) w (put_chunk (x * w) xs ys)) (chunk (y * w) w xs) (here ∙ sym (length-chunk (y * w) w xs room)) (λ j inside.
    let small : j < w = omega (arith, here) in
    get_or-chunk (y * w) w (put_chunk (x * w) xs ys) j 0 small ∙ kept j small ∙ sym (get_or-chunk (y * w) w xs j 0 small))
  where
    kept : (j : ℕ) → j < w → get_or (put_chunk (x * w) xs ys) (y * w + j) 0 ≡ get_or xs (y * w + j) 0
    kept j small = elim (cases_lt y x) [
      | inl before ↦ get_or-put_chunk_below (x * w) xs ys (y * w + j) 0 (omega (arith, mul-le (y + 1) w x w (omega arith) (omega arith)))
      | inr after ↦
          let beyond : x < y = omega arith in
          get_or-put_chunk_above (x * w) xs ys (y * w + j) 0 (omega (arith, long, mul-le (x + 1) w y w (omega arith) (omega arith)))
    ]

-- the pieces after one of them was written
pub pieces_after : (g : List ℕ → List ℕ) (w count to : ℕ) (xs ys : List ℕ) → to < count → length xs ≡ count * w → length ys ≡ w →
    listed count (λ x. g (chunk (x * w) w (put_chunk (to * w) xs ys))) ≡ set (listed count (λ x. g (chunk (x * w) w xs))) to (g ys)
pieces_after g w count to xs ys below all long =
    ext_get_or [] (listed count after) (set (listed count before) to (g ys))
    (listed_length count after ∙ sym (length-set (listed count before) to (g ys) ∙ listed_length count before)) (λ x inside.
    let small : x < count = omega (arith, listed_length count after) in listed_at count after x [] small ∙ at x small)
  where
    after : ℕ → List ℕ
    after x = g (chunk (x * w) w (put_chunk (to * w) xs ys))

    before : ℕ → List ℕ
    before x = g (chunk (x * w) w xs)

    at : (x : ℕ) → x < count → after x ≡ get_or (set (listed count before) to (g ys)) x []
    at x small = elim (cases_eq x to) [
      | inl same ↦
          let there : to < length (listed count before) = omega (arith, listed_length count before) in
          ap after same ∙ ap g (same_piece w to xs ys long (omega (arith, all, piece_within w count to below)))
          ∙ sym (get_or-set_same (listed count before) to (g ys) [] there) ∙ ap (λ k. get_or (set (listed count before) to (g ys)) k []) (sym same)
      | inr other ↦
          ap g (other_piece w to x xs ys long (omega (arith, all, piece_within w count x small)) other)
          ∙ sym (listed_at count before x [] small) ∙ sym (get_or-set_other (listed count before) to x (g ys) [] other)
    ]

-- what holds of each entry still does
pub All-written : (P : ℕ → Type 0) (a : ℕ) (xs ys : List ℕ) → a + length ys ≤ length xs → All P xs → All P ys → All P (put_chunk a xs ys)
All-written P a xs ys room all new =
    subst (All P) (sym (put_chunk_is a xs ys room))
    (All-append P (take a xs) _ (All-take P a xs all) (All-append P ys _ new (All-drop P (length ys) _ (All-drop P a xs all))))

-- ---- zeros

abbrev zeros : ℕ → List ℕ
zeros n = replicate n 0

pub zero_piece : (w count x : ℕ) → x < count → chunk (x * w) w (zeros (count * w)) ≡ zeros w
zero_piece w count x below =
    let all = length-replicate {A = ℕ} (count * w) 0 in
    let room = piece_within w count x below in
    let here = length-chunk (x * w) w (zeros (count * w)) (omega (arith, all)) in
    ext_get_or 0 (chunk (x * w) w (zeros (count * w))) (zeros w) (here ∙ sym (length-replicate {A = ℕ} w 0)) (λ j inside.
    let small : j < w = omega (arith, here) in
    get_or-chunk (x * w) w (zeros (count * w)) j 0 small
    ∙ get_or-replicate (count * w) (x * w + j) 0 0 (omega arith) ∙ sym (get_or-replicate w j 0 0 small))

pub zero_pieces : (g : List ℕ → List ℕ) (w count : ℕ) →
    listed count (λ x. g (chunk (x * w) w (zeros (count * w)))) ≡ replicate count (g (zeros w))
zero_pieces g w count =
    ext_get_or [] (listed count piece) (replicate count (g (zeros w)))
    (listed_length count piece ∙ sym (length-replicate count (g (zeros w)))) (λ x inside.
    let small : x < count = omega (arith, listed_length count piece) in
    listed_at count piece x [] small ∙ ap g (zero_piece w count x small)
    ∙ sym (get_or-replicate count x (g (zeros w)) [] small))
  where
    piece : ℕ → List ℕ
    piece x = g (chunk (x * w) w (zeros (count * w)))

-- a part that is taken out of a list, by its entries
pub taken_part : (start len : ℕ) (items digits : List ℕ) → items ≡ digits → start + len ≤ length digits →
    take (start + len - start) (drop start items) ≡ listed len (λ j. get_or digits (start + j) 0)
taken_part start len items digits is room =
    let f : ℕ → ℕ = λ j. get_or digits (start + j) 0 in
    let wide : start + len - start ≡ len = omega arith in
    let long = length-chunk start len digits room in
    ap (λ n. take n (drop start items)) wide ∙ ap (λ (x : List ℕ). take len (drop start x)) is
    ∙ ext_get_or 0 (chunk start len digits) (listed len f) (long ∙ sym (listed_length len f)) (λ j inside.
    let small : j < len = omega (arith, long) in get_or-chunk start len digits j 0 small ∙ sym (listed_at len f j 0 small))
