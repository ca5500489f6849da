-- The last line: what its reader says.
use Rattle.std.proofs.Common.{◌≡◌, ◌≢◌, ℕ, ◌<◌, List, [], ◌∷◌, ◌++◌, length, get_or, take, drop, codes, ◌+◌, inl, inr, refl, sym, ap, ap₂, subst, ◌∙◌, append_assoc, append-nil, take-append-drop, arith}
use Rattle.std.specs.List.{flat_map, prefix_len}
use Rattle.std.proofs.lemmas.Bool.{cases_lt}
use Rattle.axe_report.specs.Fronts.{is_no_separator, Stops}
use Rattle.axe_report.specs.Limits.{most_dimension}
use Rattle.axe_report.specs.Reports.{FactorValue, names, AreFactors}
use Rattle.axe_report.specs.Spelling.{place_bytes, series_line}
use Rattle.axe_report.proofs.Fronts.{front_is_prefix, prefix_stops, cancel_front}
use Rattle.axe_report.proofs.Lines.{name_at}
use Rattle.axe_report.proofs.Plain.{all_plain, all_distinct}
use Rattle.axe_report.proofs.Unique.{InRange, places_open, places_stop, place_unique, series_open, name_of_plain}

-- ---- a name

pub place_there : (fs : List FactorValue) (text word left : List ℕ) (k p : ℕ) (f : FactorValue) → k ≡ prefix_len is_no_separator text → word ≡ take k text → left ≡ drop k text → p < length fs → f ≡ get_or fs p f
    → f.name ≡ word → (p < length fs) × Stops is_no_separator left × (text ≡ get_or (names fs) p [] ++ left)
place_there fs text word left k p f count front back lt here same = (
  lt,
  subst (λ (l : List ℕ). Stops is_no_separator l) (sym (back ∙ ap (λ (i : ℕ). drop i text) count)) (prefix_stops is_no_separator text),
  sym (take-append-drop k text) ∙ ap₂ (λ (a : List ℕ) (b : List ℕ). a ++ b) (sym front ∙ sym same ∙ sym (name_at fs p f lt here)) (sym back),
)

pub no_place : (fs : List FactorValue) (text word : List ℕ) (k : ℕ) → AreFactors most_dimension fs → k ≡ prefix_len is_no_separator text → word ≡ take k text
    → ((q : ℕ) → q < length fs → get_or (names fs) q [] ≡ word → ⊥) → (p : ℕ) (x : List ℕ) → p < length fs → Stops is_no_separator x → text ≢ get_or (names fs) p [] ++ x
no_place fs text word k h count front none p x lt stops e =
    let parts = front_is_prefix is_no_separator text (get_or (names fs) p []) x (name_of_plain fs p (all_plain most_dimension fs (omega arith) h) lt) stops e in
    none p lt (sym (front ∙ ap (λ (i : ℕ). take i text) count ∙ parts.0))

pub none_more : (fs : List FactorValue) (word : List ℕ) (i : ℕ) (f : FactorValue) → i < length fs → f ≡ get_or fs i f → (f.name ≡ word → ⊥) → ((q : ℕ) → q < i → get_or (names fs) q [] ≡ word → ⊥)
    → (q : ℕ) → q < i + 1 → get_or (names fs) q [] ≡ word → ⊥
none_more fs word i f lt here ne inv q lt' e = elim (cases_lt q i) [
  | inl less ↦ inv q less e
  | inr ge ↦
      let same : i ≡ q = omega arith in
      ne (sym (name_at fs i f lt here) ∙ ap (λ (k : ℕ). get_or (names fs) k []) same ∙ e)
]

-- ---- the state of the reader: some places are read, and each series that fits goes on with what is left

pub record SeriesRead (text : List ℕ) (fs : List FactorValue) (s left : List ℕ) : Type 0 where
  pub range : InRange (length fs) s
  pub read : text ≡ codes "series" ++ (flat_map (place_bytes fs) s ++ left)
  pub only : (t x : List ℕ) → InRange (length fs) t → text ≡ series_line fs t ++ x → (u : List ℕ) × InRange (length fs) u × (left ≡ flat_map (place_bytes fs) u ++ (10 ∷ x))

pub series_begun : (text : List ℕ) (fs : List FactorValue) (left : List ℕ) → text ≡ codes "series" ++ left → SeriesRead text fs [] left
series_begun text fs left e = record {
  range = tt;
  read = e;
  only = λ t x r same. (t, r, cancel_front (codes "series") left _ (sym e ∙ same ∙ series_open fs t x));
}

range_push : (n : ℕ) (s : List ℕ) (p : ℕ) → InRange n s → p < n → InRange n (s ++ p ∷ [])
range_push n [] p h lt = (lt, tt)
range_push n (x ∷ s) p h lt = (h.0, range_push n s p h.1 lt)

flat_push : (fs : List FactorValue) (s : List ℕ) (p : ℕ) (x : List ℕ) → flat_map (place_bytes fs) (s ++ p ∷ []) ++ x ≡ flat_map (place_bytes fs) s ++ (place_bytes fs p ++ x)
flat_push fs [] p x = ap (λ (l : List ℕ). l ++ x) (append-nil (place_bytes fs p))
flat_push fs (y ∷ s) p x =
    append_assoc (place_bytes fs y) (flat_map (place_bytes fs) (s ++ p ∷ [])) x
    ∙ ap (λ (l : List ℕ). place_bytes fs y ++ l) (flat_push fs s p x)
    ∙ sym (append_assoc (place_bytes fs y) (flat_map (place_bytes fs) s) (place_bytes fs p ++ x))

place_open : (fs : List FactorValue) (p : ℕ) (x : List ℕ) → place_bytes fs p ++ x ≡ 32 ∷ (get_or (names fs) p [] ++ x)
unfolding place_bytes
place_open fs p x = refl

-- what is left after a space begins with a place that fits
next_place : (fs : List FactorValue) (u name x : List ℕ) → 32 ∷ name ≡ flat_map (place_bytes fs) u ++ (10 ∷ x) → InRange (length fs) u
    → (q : ℕ) × (v : List ℕ) × (q < length fs) × InRange (length fs) v × (name ≡ get_or (names fs) q [] ++ (flat_map (place_bytes fs) v ++ (10 ∷ x)))
next_place fs [] name x e r =
    let differ : ◌≡◌ {A = ℕ} 32 10 = cc in
    absurd (omega (arith, differ))
next_place fs (q ∷ v) name x e r = (q, v, r.0, r.1, cancel_front (32 ∷ []) name _ (e ∙ places_open fs q v (10 ∷ x)))

pub series_more : (text : List ℕ) (fs : List FactorValue) (s t left name next : List ℕ) (p : ℕ) → AreFactors most_dimension fs → SeriesRead text fs s left → left ≡ 32 ∷ name → p < length fs → Stops is_no_separator next
    → name ≡ get_or (names fs) p [] ++ next → t ≡ s ++ p ∷ [] → SeriesRead text fs t next
series_more text fs s t left name next p h inv space lt stops here new = rw new (record {
  range = range_push (length fs) s p inv.range lt;
  read =
      inv.read
      ∙ ap (λ (l : List ℕ). codes "series" ++ (flat_map (place_bytes fs) s ++ l)) (space ∙ ap (λ (l : List ℕ). 32 ∷ l) here ∙ sym (place_open fs p next))
      ∙ ap (λ (l : List ℕ). codes "series" ++ l) (sym (flat_push fs s p next));
  only = λ t x r same.
      let goes = inv.only t x r same in
      let found = next_place fs goes.0 name x (sym space ∙ goes.2) goes.1 in
      let one = place_unique fs p found.0 next _ (all_plain most_dimension fs (omega arith) h) (all_distinct most_dimension fs (omega arith) h) lt found.2 stops (places_stop fs found.1 x) (sym here ∙ found.4) in
      (found.1, found.3, one.1);
})

pub no_series_name : (text : List ℕ) (fs : List FactorValue) (s left name : List ℕ) → SeriesRead text fs s left → left ≡ 32 ∷ name
    → ((p : ℕ) (x : List ℕ) → p < length fs → Stops is_no_separator x → name ≢ get_or (names fs) p [] ++ x) → (t x : List ℕ) → InRange (length fs) t → text ≢ series_line fs t ++ x
no_series_name text fs s left name inv space none t x r same =
    let goes = inv.only t x r same in
    let found = next_place fs goes.0 name x (sym space ∙ goes.2) goes.1 in
    none found.0 _ found.2 (places_stop fs found.1 x) found.4

no_end : (fs : List FactorValue) (u left x : List ℕ) → left ≡ flat_map (place_bytes fs) u ++ (10 ∷ x) → ((y : List ℕ) → left ≢ 32 ∷ y) → ((y : List ℕ) → left ≢ 10 ∷ y) → ⊥
no_end fs [] left x e space feed = feed x e
no_end fs (q ∷ v) left x e space feed = space _ (e ∙ places_open fs q v (10 ∷ x))

pub no_series_end : (text : List ℕ) (fs : List FactorValue) (s left : List ℕ) → SeriesRead text fs s left → ((y : List ℕ) → left ≢ 32 ∷ y) → ((y : List ℕ) → left ≢ 10 ∷ y)
    → (t x : List ℕ) → InRange (length fs) t → text ≢ series_line fs t ++ x
no_series_end text fs s left inv space feed t x r same =
    let goes = inv.only t x r same in
    no_end fs goes.0 left x goes.2 space feed

pub series_there : (text : List ℕ) (fs : List FactorValue) (s left end' : List ℕ) → SeriesRead text fs s left → left ≡ 10 ∷ end' → text ≡ series_line fs s ++ end'
series_there text fs s left end' inv feed =
    inv.read ∙ ap (λ (l : List ℕ). codes "series" ++ (flat_map (place_bytes fs) s ++ l)) feed ∙ sym (series_open fs s end')

pub no_series_word : (text : List ℕ) (fs : List FactorValue) → ((y : List ℕ) → text ≢ codes "series" ++ y) → (t x : List ℕ) → InRange (length fs) t → text ≢ series_line fs t ++ x
no_series_word text fs none t x r same = none _ (same ∙ series_open fs t x)
