-- Counts, one element after another.
use Rattle.std.proofs.Common.{◌≡◌, ℕ, zero, suc, ◌+◌, ◌<◌, ◌≤◌, Bool, true, false, cond, eqb, List, [], ◌∷◌, ◌++◌, length, take, get_or, sum_by, inl, inr, ext_get_or, refl, sym, ap, ◌∙◌, take_all, arith}
use Rattle.std.proofs.lemmas.Bool.{cases_lt, eq-eqb, ne_eqb}
use Rattle.axe_report.proofs.Orders.{length_range}
use mir.Val.{bool_byte}
use Rattle.std.specs.List.{range_with_len}
use Rattle.std.proofs.lemmas.List.{take_more, map-append, get_or-map, length-map}
use Rattle.std.proofs.lemmas.List.Sums.{sum_by_push, sum_by-cons, sum_by-append}
use Rattle.std.proofs.lemmas.List.FromFn.{get_or-map-range_with_len}
use Rattle.axe_report.specs.Names.{count_of}
use Rattle.axe_report.specs.Reports.{FactorValue, dims, multiplicities, counts_in}

count_push : (d : ℕ) (xs : List ℕ) (x : ℕ) → count_of d (xs ++ x ∷ []) ≡ count_of d xs + cond (eqb x d) 1 0
unfolding count_of
count_push d xs x = sum_by_push (λ (y : ℕ). cond (eqb y d) 1 0) xs x

-- one more number is looked at
pub count_more : (xs : List ℕ) (i d n v : ℕ) → i < length xs → n ≡ count_of d (take i xs) → v ≡ cond (eqb (get_or xs i 0) d) 1 0 → n + v ≡ count_of d (take (i + 1) xs)
count_more xs i d n v lt inv one = rw (inv, one) (sym (ap (λ (l : List ℕ). count_of d l) (take_more xs i 0 lt) ∙ count_push d (take i xs) (get_or xs i 0)))

pub count_begun : (d : ℕ) → 0 ≡ count_of d []
unfolding count_of
count_begun d = refl

pub count_done : (xs : List ℕ) (i d n : ℕ) → length xs ≤ i → n ≡ count_of d (take i xs) → n ≡ count_of d xs
count_done xs i d n le inv = inv ∙ ap (λ (l : List ℕ). count_of d l) (take_all i xs le)

-- ---- one more number at the front

pub count_cons : (d x : ℕ) (xs : List ℕ) → count_of d (x ∷ xs) ≡ cond (eqb x d) 1 0 + count_of d xs
unfolding count_of
count_cons d x xs = sum_by-cons (λ (y : ℕ). cond (eqb y d) 1 0) x xs

pub count_here : (d : ℕ) (xs : List ℕ) → count_of d (d ∷ xs) ≡ 1 + count_of d xs
count_here d xs =
    let test : eqb d d ≡ true = eq-eqb d d refl in
    count_cons d d xs ∙ ap (λ b. cond b 1 0 + count_of d xs) test

pub count_there : (d x : ℕ) (xs : List ℕ) → (x ≡ d → ⊥) → count_of d (x ∷ xs) ≡ count_of d xs
count_there d x xs differ =
    let test : eqb x d ≡ false = ne_eqb x d differ in
    let whole : count_of d (x ∷ xs) ≡ 0 + count_of d xs =
    count_cons d x xs ∙ ap (λ b. cond b 1 0 + count_of d xs) test in
    omega (arith, whole)

-- a number among others counts once more than before it
pub count_split : (d : ℕ) (before after : List ℕ)
    → count_of d (before ++ d ∷ after) ≡ count_of d before + (1 + count_of d after)
unfolding count_of
count_split d before after =
    sum_by-append (λ (y : ℕ). cond (eqb y d) 1 0) before (d ∷ after)
    ∙ ap (λ (n : ℕ). sum_by (λ (y : ℕ). cond (eqb y d) 1 0) before + n) (count_here d after)

-- what stands in a list counts
pub counted_once : (xs : List ℕ) (i d : ℕ) → i < length xs → get_or xs i 0 ≡ d → 1 ≤ count_of d xs
counted_once [] i d inside is = absurd (omega (arith, inside))
counted_once (x ∷ xs) zero d inside is =
    let here : count_of d (x ∷ xs) ≡ 1 + count_of d xs = rw is (count_here d xs) in
    omega (arith, here)
counted_once (x ∷ xs) (suc i) d inside is =
    let rest : 1 ≤ count_of d xs = counted_once xs i d (omega (arith, inside)) is in
    let whole : count_of d (x ∷ xs) ≡ cond (eqb x d) 1 0 + count_of d xs = count_cons d x xs in
    omega (arith, rest, whole)

-- the same of the dimensions of constituents
pub dim_more : (fs : List FactorValue) (f : FactorValue) (i d n v : ℕ) → i < length fs → f ≡ get_or fs i f → n ≡ count_of d (dims (take i fs)) → v ≡ cond (eqb f.dim d) 1 0
    → n + v ≡ count_of d (dims (take (i + 1) fs))
dim_more fs f i d n v lt here inv one =
    rw (inv, one)
    (sym
    (ap (λ (l : List FactorValue). count_of d (dims l)) (take_more fs i f lt)
    ∙ ap (λ (l : List ℕ). count_of d l) (map-append (λ (g : FactorValue). g.dim) (take i fs) (get_or fs i f ∷ []))
    ∙ count_push d (dims (take i fs)) (get_or fs i f).dim
    ∙ ap (λ (g : FactorValue). count_of d (dims (take i fs)) + cond (eqb g.dim d) 1 0) (sym here)))

pub dim_done : (fs : List FactorValue) (i d n : ℕ) → length fs ≤ i → n ≡ count_of d (dims (take i fs)) → n ≡ count_of d (dims fs)
dim_done fs i d n le inv = inv ∙ ap (λ (l : List FactorValue). count_of d (dims l)) (take_all i fs le)

-- ---- multiplicities

-- the first of them are counts
abbrev pub CountedTo : List FactorValue → List ℕ → ℕ → Type 0
CountedTo fs series i = (k : ℕ) → k < i → get_or (multiplicities fs) k 0 ≡ count_of k series

pub counted_more : (fs : List FactorValue) (series : List ℕ) (i n : ℕ) (f : FactorValue) → i < length fs → f ≡ get_or fs i f → n ≡ count_of i series → n ≡ f.multiplicity
    → CountedTo fs series i → CountedTo fs series (i + 1)
counted_more fs series i n f lt here count e inv k lt' = elim (cases_lt k i) [
  | inl less ↦ inv k less
  | inr ge ↦
      let same : k ≡ i = omega arith in
      rw same (get_or-map (λ (g : FactorValue). g.multiplicity) fs i f 0 lt ∙ ap (λ (g : FactorValue). g.multiplicity) (sym here) ∙ sym e ∙ count)
]

count_at : (series : List ℕ) (n k : ℕ) → k < n → get_or (counts_in series n) k 0 ≡ count_of k series
unfolding counts_in
count_at series n k lt = get_or-map-range_with_len (λ (p : ℕ). count_of p series) 0 n k k 0 lt (omega arith)

counts_length : (series : List ℕ) (n : ℕ) → length (counts_in series n) ≡ n
unfolding counts_in
counts_length series n = length-map (range_with_len 0 n) (λ (p : ℕ). count_of p series) ∙ length_range 0 n

pub counted_wrong : (fs : List FactorValue) (series : List ℕ) (i n : ℕ) (f : FactorValue) → i < length fs → f ≡ get_or fs i f → n ≡ count_of i series → (n ≡ f.multiplicity → ⊥)
    → multiplicities fs ≡ counts_in series (length fs) → ⊥
counted_wrong fs series i n f lt here count ne e =
    ne
    (count
    ∙ sym (count_at series (length fs) i lt)
    ∙ ap (λ (l : List ℕ). get_or l i 0) (sym e)
    ∙ get_or-map (λ (g : FactorValue). g.multiplicity) fs i f 0 lt
    ∙ ap (λ (g : FactorValue). g.multiplicity) (sym here))

pub counted_done : (fs : List FactorValue) (series : List ℕ) (i : ℕ) → length fs ≤ i → CountedTo fs series i → multiplicities fs ≡ counts_in series (length fs)
counted_done fs series i le inv =
    let count : length (multiplicities fs) ≡ length fs = length-map fs (λ (g : FactorValue). g.multiplicity) in
    ext_get_or 0 (multiplicities fs) (counts_in series (length fs)) (count ∙ sym (counts_length series (length fs)))
    (λ k lt. inv k (omega (arith, count)) ∙ sym (count_at series (length fs) k (omega (arith, count))))

-- ---- a test as a number

pub byte_is : (b : Bool) → bool_byte b ≡ cond b 1 0
byte_is true = refl
byte_is false = refl

pub byte_small : (b : Bool) → bool_byte b ≤ 1
byte_small true = omega arith
byte_small false = omega arith

pub byte_fits : (n : ℕ) (b : Bool) → n ≡ bool_byte b → n ≤ 1
byte_fits n b e = rw e (byte_small b)
