-- Lists made of a function, tables, and rows of one length joined end to end.
use Rattle.std.proofs.Common.{◌≡◌, ℕ, zero, suc, ◌+◌, ◌-◌, ◌*◌, ◌<◌, List, [], ◌∷◌, ◌++◌, length, get_or, sym, ap, ◌∙◌, append_assoc, arith}
use Rattle.std.specs.List.{flat_map}
use Rattle.std.proofs.lemmas.List.{length-append, get_or_append_left, get_or-append_right, ext_get_or}
use Rattle.std.proofs.lemmas.List.FromFn.{map-range_with_len_more}
use Rattle.axe_algebra.specs.Lists.{listed}
use Rattle.axe_algebra.proofs.ListEntries.{listed_length, listed_at}

pub listed_is : {X : Type 0} (n : ℕ) (f : ℕ → X) (d : X) (xs : List X) → length xs ≡ n → ((i : ℕ) → i < n → get_or xs i d ≡ f i) → xs ≡ listed n f
listed_is n f d xs len h =
    ext_get_or d xs (listed n f) (len ∙ sym (listed_length n f)) (λ i lt. let below : i < n = omega arith in h i below ∙ sym (listed_at n f i d below))

pub listed_same : {X : Type 0} (n : ℕ) (f g : ℕ → X) (d : X) → ((i : ℕ) → i < n → f i ≡ g i) → listed n f ≡ listed n g
listed_same n f g d h =
    listed_is n g d (listed n f) (listed_length n f) (λ i lt. listed_at n f i d lt ∙ h i lt)

-- one element more, at the end of what stood there before
pub listed_more : {X : Type 0} (before items new : List X) (f : ℕ → X) (n : ℕ) (x : X) → items ≡ before ++ listed n f → x ≡ f n → new ≡ items ++ x ∷ [] → new ≡ before ++ listed (n + 1) f
listed_more before items new f n x so_far here pushed =
    let more : listed (n + 1) f ≡ listed n f ++ f n ∷ [] = map-range_with_len_more f 0 n n (omega arith) in
    rw (pushed, so_far, here, more) (append_assoc before (listed n f) (f n ∷ []))

-- four pieces, put one after the other
pub four_put : {X : Type 0} (old a b c new : List X) (w x y z : List X) → a ≡ old ++ w → b ≡ a ++ x → c ≡ b ++ y → new ≡ c ++ z → new ≡ old ++ (w ++ x ++ y ++ z)
four_put old a b c new w x y z ea eb ec en = rw (en, ec, eb, ea) (simp append_assoc)

-- ---- pieces of one length

pub length-pieces : {X : Type 0} (f : X → List ℕ) (w : ℕ) → ((x : X) → length (f x) ≡ w) → (xs : List X) → length (flat_map f xs) ≡ length xs * w
length-pieces f w h [] = omega arith
length-pieces f w h (x ∷ xs) =
    let rest = length-pieces f w h xs in
    let here = h x in
    let whole = length-append (f x) (flat_map f xs) in
    omega arith

pub get_or-pieces : {X : Type 0} (f : X → List ℕ) (w : ℕ) → ((x : X) → length (f x) ≡ w) → (xs : List X) (i k d : ℕ) (e : X) → i < length xs → k < w
    → get_or (flat_map f xs) (i * w + k) d ≡ get_or (f (get_or xs i e)) k d
get_or-pieces f w h [] i k d e in' lt = absurd (omega arith)
get_or-pieces f w h (x ∷ xs) zero k d e in' lt =
    let len = h x in
    let place : 0 * w + k ≡ k = omega arith in
    rw place (get_or_append_left (f x) (flat_map f xs) d k (omega arith))
get_or-pieces f w h (x ∷ xs) (suc i) k d e in' lt =
    let len = h x in
    let place : suc i * w + k - w ≡ i * w + k = omega arith in
    get_or-append_right (f x) (flat_map f xs) w (suc i * w + k) d len (omega arith)
    ∙ ap (λ (p : ℕ). get_or (flat_map f xs) p d) place
    ∙ get_or-pieces f w h xs i k d e (omega arith) lt
