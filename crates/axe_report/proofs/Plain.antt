-- The constituents of a report: their numbers are small, and their names have no spaces and are different.
use Rattle.std.proofs.Common.{◌≡◌, ℕ, zero, suc, ◌+◌, ◌*◌, ◌<◌, ◌≤◌, eqb, List, [], ◌∷◌, ◌++◌, length, take, get_or, All, cond, ◌-◌, take_at, refl, sym, ap, ap₂, subst, ◌∙◌, inl, inr, append_assoc, append-nil, take-take, arith}
use Rattle.std.specs.List.{AllByRecursion}
use Rattle.std.proofs.lemmas.Bool.{cases_lt, eq-eqb}
use Rattle.std.proofs.lemmas.List.Sums.{sum_by-cons, sum_by-append, sum_by-take-le, count_by_more_yes}
use Rattle.std.proofs.lemmas.List.Elements.{All-head, All-tail, All-nil, All-cons, All-push, All-take, All-get_or}
use Rattle.std.proofs.lemmas.List.{map-append, length-map}
use Rattle.axe_report.specs.Fronts.{is_no_separator}
use Rattle.axe_report.specs.Limits.{most_dimension}
use Rattle.axe_report.specs.Names.{constituent_name, count_of, names_after, names_of}
use Rattle.axe_report.specs.Reports.{FactorValue, names, dims, multiplicities, total_dim, AreFactors, IsFactorAfter}
use Rattle.axe_report.proofs.Counts.{count_split}
use Rattle.axe_report.proofs.Fronts.{Passes}
use Rattle.axe_report.proofs.Numerals.{name_dark, name_unique}

-- a constituent as it may stand in a line
pub record IsPlain (f : FactorValue) : Type 0 where
  pub name : Passes is_no_separator f.name
  pub dim : f.dim ≤ most_dimension
  pub multiplicity : f.multiplicity ≤ most_dimension
  pub some_dim : 1 ≤ f.dim
  pub some_multiplicity : 1 ≤ f.multiplicity

-- a product of two numbers from 1 on bounds both
pub product_bounds : (a b bound : ℕ) → 1 ≤ a → 1 ≤ b → a * b ≤ bound → (a ≤ bound) × (b ≤ bound)
product_bounds zero b bound p q le = absurd (omega (arith, p))
product_bounds (suc a) zero bound p q le = absurd (omega (arith, q))
product_bounds (suc a) (suc b) bound p q le =
    let e : suc a * suc b ≡ suc a + suc b + a * b - 1 = grind arith in
    (omega (arith, e), omega (arith, e))

pub product_most : (a b : ℕ) → 1 ≤ a → b ≤ a * b
product_most zero b p = absurd (omega (arith, p))
product_most (suc a) b p =
    let e : suc a * b ≡ b + a * b = grind arith in
    omega (arith, e)

pub product_some : (a b : ℕ) → 1 ≤ a → 1 ≤ b → 1 ≤ a * b
product_some a b p q = omega (arith, product_most a b p)

pub plain_from : (f : FactorValue) (bound k : ℕ) → bound ≤ most_dimension → f.name ≡ constituent_name f.dim k → 1 ≤ f.dim → 1 ≤ f.multiplicity → f.dim * f.multiplicity ≤ bound → IsPlain f
plain_from f bound k small e d m le =
    let bounds = product_bounds f.dim f.multiplicity bound d m le in
    record {
      name = rw e (name_dark f.dim k (omega (arith, bounds.0)));
      dim = omega (arith, bounds.0);
      multiplicity = omega (arith, bounds.1);
      some_dim = d;
      some_multiplicity = m;
    }

-- ---- sums

pub total_cons : (f : FactorValue) (fs : List FactorValue) → total_dim (f ∷ fs) ≡ f.dim * f.multiplicity + total_dim fs
unfolding total_dim
total_cons f fs = sum_by-cons (λ (g : FactorValue). g.dim * g.multiplicity) f fs

pub total_append : (fs gs : List FactorValue) → total_dim (fs ++ gs) ≡ total_dim fs + total_dim gs
unfolding total_dim
total_append fs gs = sum_by-append (λ (g : FactorValue). g.dim * g.multiplicity) fs gs

pub total_none : total_dim [] ≡ 0
unfolding total_dim
total_none = refl

pub total_one : (f : FactorValue) → total_dim (f ∷ []) ≡ f.dim * f.multiplicity
total_one f =
    let none = total_none in
    let one = total_cons f [] in
    omega (arith, one, none)

pub names_none : (earlier : List ℕ) → names_after earlier [] ≡ []
unfolding names_after
names_none earlier = refl

pub names_more : (earlier : List ℕ) (d : ℕ) (ds : List ℕ) → names_after earlier (d ∷ ds) ≡ constituent_name d (count_of d earlier) ∷ names_after (earlier ++ d ∷ []) ds
unfolding names_after
names_more earlier d ds = refl

-- ---- all are plain

plain_after : (fs : List FactorValue) (earlier : List ℕ) → names fs ≡ names_after earlier (dims fs) → All (λ d. 1 ≤ d) (dims fs) → All (λ m. 1 ≤ m) (multiplicities fs) → total_dim fs ≤ most_dimension
    → AllByRecursion IsPlain fs
plain_after [] earlier n d m t = tt
plain_after (f ∷ fs) earlier n d m t =
    let total = total_cons f fs in
    let whole : f.name ∷ names fs ≡ constituent_name f.dim (count_of f.dim earlier) ∷ names_after (earlier ++ f.dim ∷ []) (dims fs) = n ∙ names_more earlier f.dim (dims fs) in
    let one : f.name ≡ constituent_name f.dim (count_of f.dim earlier) = cc in
    let rest : names fs ≡ names_after (earlier ++ f.dim ∷ []) (dims fs) = cc in
    let bound : f.dim * f.multiplicity ≤ most_dimension = omega arith in (
      plain_from f most_dimension (count_of f.dim earlier) (omega arith) one (All-head (λ d. 1 ≤ d) f.dim (dims fs) d) (All-head (λ m. 1 ≤ m) f.multiplicity (multiplicities fs) m) bound,
      plain_after fs (earlier ++ f.dim ∷ []) rest (All-tail (λ d. 1 ≤ d) f.dim (dims fs) d) (All-tail (λ m. 1 ≤ m) f.multiplicity (multiplicities fs) m) (omega arith),
    )

pub all_plain : (dim : ℕ) (fs : List FactorValue) → dim ≤ most_dimension → AreFactors dim fs → AllByRecursion IsPlain fs
unfolding names_of
all_plain dim fs le h = plain_after fs [] h.named h.some_dims h.some_multiplicities (omega (arith, h.fits))

-- ---- one constituent after others

names_push : (earlier ds : List ℕ) (d : ℕ) → names_after earlier (ds ++ d ∷ []) ≡ names_after earlier ds ++ constituent_name d (count_of d (earlier ++ ds)) ∷ []
names_push earlier [] d =
    names_more earlier d [] ∙ ap₂ (λ (e : List ℕ) (l : List (List ℕ)). constituent_name d (count_of d e) ∷ l) (sym (append-nil earlier)) (names_none (earlier ++ d ∷ []))
    ∙ ap (λ (l : List (List ℕ)). l ++ constituent_name d (count_of d (earlier ++ [])) ∷ []) (sym (names_none earlier))
names_push earlier (x ∷ ds) d =
    names_more earlier x (ds ++ d ∷ [])
    ∙ ap (λ (l : List (List ℕ)). constituent_name x (count_of x earlier) ∷ l) (names_push (earlier ++ x ∷ []) ds d)
    ∙ ap (λ (e : List ℕ). constituent_name x (count_of x earlier) ∷ (names_after (earlier ++ x ∷ []) ds ++ constituent_name d (count_of d e) ∷ [])) (append_assoc earlier (x ∷ []) ds)
    ∙ ap (λ (l : List (List ℕ)). l ++ constituent_name d (count_of d (earlier ++ x ∷ ds)) ∷ []) (sym (names_more earlier x ds))

pub names_of_push : (ds : List ℕ) (d : ℕ) → names_of (ds ++ d ∷ []) ≡ names_of ds ++ constituent_name d (count_of d ds) ∷ []
unfolding names_of
names_of_push ds d = names_push [] ds d

pub no_names : names_of [] ≡ []
unfolding names_of
no_names = names_none []

pub no_factors : (dim : ℕ) → AreFactors dim []
no_factors dim = record {
  named = sym no_names;
  some_dims = All-nil (λ d. 1 ≤ d);
  some_multiplicities = All-nil (λ m. 1 ≤ m);
  fits = omega (arith, total_none);
}

pub factors_push : (dim : ℕ) (fs : List FactorValue) (f : FactorValue) → AreFactors dim fs → IsFactorAfter dim fs f → AreFactors dim (fs ++ f ∷ [])
factors_push dim fs f h a =
    let some_names : names (fs ++ f ∷ []) ≡ names fs ++ f.name ∷ [] = map-append (λ (g : FactorValue). g.name) fs (f ∷ []) in
    let some_dims : dims (fs ++ f ∷ []) ≡ dims fs ++ f.dim ∷ [] = map-append (λ (g : FactorValue). g.dim) fs (f ∷ []) in
    let some_multiplicities : multiplicities (fs ++ f ∷ []) ≡ multiplicities fs ++ f.multiplicity ∷ [] = map-append (λ (g : FactorValue). g.multiplicity) fs (f ∷ []) in
    let total : total_dim (fs ++ f ∷ []) ≡ total_dim fs + f.dim * f.multiplicity = total_append fs (f ∷ []) ∙ ap (λ (n : ℕ). total_dim fs + n) (total_one f) in
    record {
      named = some_names ∙ ap₂ (λ (l : List (List ℕ)) (n : List ℕ). l ++ n ∷ []) h.named a.name ∙ sym (names_of_push (dims fs) f.dim) ∙ ap names_of (sym some_dims);
      some_dims = rw some_dims (All-push (λ d. 1 ≤ d) (dims fs) f.dim h.some_dims a.some_dim);
      some_multiplicities = rw some_multiplicities (All-push (λ m. 1 ≤ m) (multiplicities fs) f.multiplicity h.some_multiplicities a.some_multiplicity);
      fits = omega (arith, total, a.fits);
    }

-- ---- some of them, from the front on

cancel : {X : Type 0} (a x y : List X) → a ++ x ≡ a ++ y → x ≡ y
cancel [] x y e = e
cancel (c ∷ a) x y e =
    let rest : a ++ x ≡ a ++ y = cc in
    cancel a x y rest

All-last : (P : ℕ → Type 0) (a : List ℕ) (x : ℕ) → All P (a ++ x ∷ []) → P x
All-last P [] x h = All-head P x [] h
All-last P (y ∷ a) x h = All-last P a x (All-tail P y (a ++ x ∷ []) h)

take_within : (ds : List ℕ) (i j : ℕ) → i ≤ j → take i (take j ds) ≡ take i ds
take_within ds i j le = take-take i j ds le

names_front : (earlier ds es : List ℕ) → (l : List (List ℕ)) × (names_after earlier (ds ++ es) ≡ names_after earlier ds ++ l)
names_front earlier [] es = (names_after earlier es, ap (λ (l : List (List ℕ)). l ++ names_after earlier es) (sym (names_none earlier)))
names_front earlier (d ∷ ds) es =
    let rest = names_front (earlier ++ d ∷ []) ds es in (
      rest.0,
      names_more earlier d (ds ++ es)
          ∙ ap (λ (l : List (List ℕ)). constituent_name d (count_of d earlier) ∷ l) rest.1
          ∙ ap (λ (l : List (List ℕ)). l ++ rest.0) (sym (names_more earlier d ds)),
    )

length_names : (earlier ds : List ℕ) → length (names_after earlier ds) ≡ length ds
length_names earlier [] = ap (λ (l : List (List ℕ)). length l) (names_none earlier)
length_names earlier (d ∷ ds) = ap (λ (l : List (List ℕ)). length l) (names_more earlier d ds) ∙ ap suc (length_names (earlier ++ d ∷ []) ds)

pub length_of : (ds : List ℕ) → length (names_of ds) ≡ length ds
unfolding names_of
length_of ds = length_names [] ds

fronts_equal : {X : Type 0} (a b x y : List X) → length a ≡ length b → a ++ x ≡ b ++ y → a ≡ b
fronts_equal [] [] x y l e = refl
fronts_equal [] (d ∷ b) x y l e = absurd (omega (arith, l))
fronts_equal (c ∷ a) [] x y l e = absurd (omega (arith, l))
fronts_equal (c ∷ a) (d ∷ b) x y l e =
    let same : c ≡ d = cc in
    let rest : a ++ x ≡ b ++ y = cc in
    let count : length a ≡ length b = omega (arith, l) in
    ap₂ (λ (p : _) (q : List _). p ∷ q) same (fronts_equal a b x y count rest)

All-front : (P : ℕ → Type 0) (a b : List ℕ) → All P (a ++ b) → All P a
All-front P a b h = subst (λ (l : List ℕ). All P l) (take_at a b (length a) refl) (All-take P (length a) (a ++ b) h)

pub factors_front : (dim : ℕ) (fs gs : List FactorValue) → AreFactors dim (fs ++ gs) → AreFactors dim fs
unfolding names_of
factors_front dim fs gs h =
    let some_names : names (fs ++ gs) ≡ names fs ++ names gs = map-append (λ (g : FactorValue). g.name) fs gs in
    let some_dims : dims (fs ++ gs) ≡ dims fs ++ dims gs = map-append (λ (g : FactorValue). g.dim) fs gs in
    let some_multiplicities : multiplicities (fs ++ gs) ≡ multiplicities fs ++ multiplicities gs = map-append (λ (g : FactorValue). g.multiplicity) fs gs in
    let front = names_front [] (dims fs) (dims gs) in
    let whole : names fs ++ names gs ≡ names_after [] (dims fs) ++ front.0 = sym some_names ∙ h.named ∙ ap (λ (l : List ℕ). names_after [] l) some_dims ∙ front.1 in
    let count : length (names fs) ≡ length (names_after [] (dims fs)) =
    length-map fs (λ (g : FactorValue). g.name) ∙ sym (length-map fs (λ (g : FactorValue). g.dim)) ∙ sym (length_names [] (dims fs)) in
    record {
      named = fronts_equal (names fs) (names_after [] (dims fs)) (names gs) front.0 count whole;
      some_dims = All-front (λ d. 1 ≤ d) (dims fs) (dims gs) (rw some_dims at h.some_dims);
      some_multiplicities = All-front (λ m. 1 ≤ m) (multiplicities fs) (multiplicities gs) (rw some_multiplicities at h.some_multiplicities);
      fits = omega (arith, h.fits, total_append fs gs);
    }

-- the one after these
pub factor_after : (dim : ℕ) (fs : List FactorValue) (f : FactorValue) → AreFactors dim (fs ++ f ∷ []) → IsFactorAfter dim fs f
factor_after dim fs f h =
    let front = factors_front dim fs (f ∷ []) h in
    let some_names : names (fs ++ f ∷ []) ≡ names fs ++ f.name ∷ [] = map-append (λ (g : FactorValue). g.name) fs (f ∷ []) in
    let some_dims : dims (fs ++ f ∷ []) ≡ dims fs ++ f.dim ∷ [] = map-append (λ (g : FactorValue). g.dim) fs (f ∷ []) in
    let some_multiplicities : multiplicities (fs ++ f ∷ []) ≡ multiplicities fs ++ f.multiplicity ∷ [] = map-append (λ (g : FactorValue). g.multiplicity) fs (f ∷ []) in
    let whole : names fs ++ f.name ∷ [] ≡ names fs ++ constituent_name f.dim (count_of f.dim (dims fs)) ∷ [] =
    sym some_names ∙ h.named ∙ ap names_of some_dims ∙ names_of_push (dims fs) f.dim ∙ ap (λ (l : List (List ℕ)). l ++ constituent_name f.dim (count_of f.dim (dims fs)) ∷ []) (sym front.named) in
    let last = cancel (names fs) (f.name ∷ []) (constituent_name f.dim (count_of f.dim (dims fs)) ∷ []) whole in
    let total : total_dim (fs ++ f ∷ []) ≡ total_dim fs + f.dim * f.multiplicity = total_append fs (f ∷ []) ∙ ap (λ (n : ℕ). total_dim fs + n) (total_one f) in
    record {
      name = cc;
      some_dim = All-last (λ d. 1 ≤ d) (dims fs) f.dim (rw some_dims at h.some_dims);
      some_multiplicity = All-last (λ m. 1 ≤ m) (multiplicities fs) f.multiplicity (rw some_multiplicities at h.some_multiplicities);
      fits = omega (arith, h.fits, total);
    }

-- ---- names are different

name_at : (earlier ds : List ℕ) (i : ℕ) → i < length ds → get_or (names_after earlier ds) i [] ≡ constituent_name (get_or ds i 0) (count_of (get_or ds i 0) (earlier ++ take i ds))
name_at earlier [] i lt = absurd (omega (arith, lt))
name_at earlier (d ∷ ds) zero lt = rw (names_more earlier d ds) (ap (λ (e : List ℕ). constituent_name d (count_of d e)) (sym (append-nil earlier)))
name_at earlier (d ∷ ds) (suc i) lt =
    rw (names_more earlier d ds)
    (name_at (earlier ++ d ∷ []) ds i (omega (arith, lt)) ∙ ap (λ (e : List ℕ). constituent_name (get_or ds i 0) (count_of (get_or ds i 0) e)) (append_assoc earlier (d ∷ []) (take i ds)))

-- a later place has more of this dimension before it
more_before : (ds : List ℕ) (i j : ℕ) → i < j → j < length ds → get_or ds i 0 ≡ get_or ds j 0 → count_of (get_or ds i 0) (take i ds) < count_of (get_or ds j 0) (take j ds)
unfolding count_of
more_before ds i j lt lt' e =
    let d = get_or ds j 0 in
    let one = count_by_more_yes (λ other. eqb other d) ds i 0 (omega arith) (eq-eqb (get_or ds i 0) d e) in
    let within : take (i + 1) (take j ds) ≡ take (i + 1) ds = take_within ds (i + 1) j (omega arith) in
    let most = sum_by-take-le (λ x. cond (eqb x d) 1 0) (take j ds) (i + 1) in
    let most' = rw within at most in
    rw e (omega (arith, one, most'))

-- each name stands at one place
abbrev pub AreDistinct : List (List ℕ) → Type 0
AreDistinct ns = (i j : ℕ) → i < length ns → j < length ns → get_or ns i [] ≡ get_or ns j [] → i ≡ j

earlier_differs : (ds : List ℕ) → All (λ d. d ≤ most_dimension) ds → (i j : ℕ) → i < j → j < length ds → get_or (names_of ds) i [] ≡ get_or (names_of ds) j [] → ⊥
unfolding names_of
earlier_differs ds small i j lt lt' e =
    let si : get_or ds i 0 ≤ most_dimension = All-get_or (λ d. d ≤ most_dimension) ds i 0 (omega arith) small in
    let sj : get_or ds j 0 ≤ most_dimension = All-get_or (λ d. d ≤ most_dimension) ds j 0 (omega arith) small in
    let same = name_unique (get_or ds i 0) (get_or ds j 0) _ _ (omega arith) (omega arith) (sym (name_at [] ds i (omega arith)) ∙ e ∙ name_at [] ds j lt') in
    let less = more_before ds i j lt lt' same.0 in
    omega (arith, less, same.1)

names_distinct : (ds : List ℕ) → All (λ d. d ≤ most_dimension) ds → AreDistinct (names_of ds)
names_distinct ds small i j li lj e = elim (cases_lt i j) [
  | inl lt ↦ absurd (earlier_differs ds small i j lt (omega (arith, lj, length_of ds)) e)
  | inr ge ↦ elim (cases_lt j i) [
    | inl lt ↦ absurd (earlier_differs ds small j i lt (omega (arith, li, length_of ds)) (sym e))
    | inr le ↦ omega arith
  ]
]

dims_small : (fs : List FactorValue) → AllByRecursion IsPlain fs → All (λ d. d ≤ most_dimension) (dims fs)
dims_small [] h = All-nil (λ d. d ≤ most_dimension)
dims_small (f ∷ fs) h = All-cons (λ d. d ≤ most_dimension) f.dim (dims fs) h.0.dim (dims_small fs h.1)

pub all_distinct : (dim : ℕ) (fs : List FactorValue) → dim ≤ most_dimension → AreFactors dim fs → AreDistinct (names fs)
all_distinct dim fs le h = rw h.named (names_distinct (dims fs) (dims_small fs (all_plain dim fs le h)))

-- ---- the name after these is none of them

one_differs : (d n x : ℕ) (earlier xs : List ℕ) → d ≤ most_dimension → x ≤ most_dimension → count_of d (earlier ++ x ∷ xs) ≤ n
    → constituent_name x (count_of x earlier) ≡ constituent_name d n → ⊥
one_differs d n x earlier xs small small' le same =
    let parts = name_unique x d (count_of x earlier) n (omega arith) (omega arith) same in
    let here : count_of d earlier ≡ n = ap (λ (k : ℕ). count_of k earlier) (sym parts.0) ∙ parts.1 in
    let whole : count_of d (earlier ++ x ∷ xs) ≡ count_of d earlier + (1 + count_of d xs) =
    ap (λ (k : ℕ). count_of d (earlier ++ k ∷ xs)) parts.0 ∙ count_split d earlier xs in
    omega (arith, le, here, whole)

others_differ : (d n : ℕ) (earlier ds : List ℕ) → d ≤ most_dimension → All (λ x. x ≤ most_dimension) ds → count_of d (earlier ++ ds) ≤ n
    → AllByRecursion (λ name. name ≡ constituent_name d n → ⊥) (names_after earlier ds)
others_differ d n earlier [] small all le = rw (names_none earlier) tt
others_differ d n earlier (x ∷ xs) small all le =
    let rest : count_of d ((earlier ++ x ∷ []) ++ xs) ≤ n = rw (append_assoc earlier (x ∷ []) xs) le in
    rw (names_more earlier x xs) (
      one_differs d n x earlier xs small (All-head (λ x. x ≤ most_dimension) x xs all) le,
      others_differ d n (earlier ++ x ∷ []) xs small (All-tail (λ x. x ≤ most_dimension) x xs all) rest,
    )

pub name_is_new : (d : ℕ) (ds : List ℕ) → d ≤ most_dimension → All (λ x. x ≤ most_dimension) ds
    → AllByRecursion (λ name. name ≡ constituent_name d (count_of d ds) → ⊥) (names_of ds)
unfolding names_of
name_is_new d ds small all = others_differ d (count_of d ds) [] ds small all (omega arith)
