-- What stands at the front of bytes: the longest piece whose bytes pass a test is one piece.
use Rattle.std.specs.List.{prefix_len}
use Rattle.std.proofs.lemmas.Bool.{cases_Bool}
use Rattle.std.proofs.Common.{inl, inr, take, drop, take-append-drop, suc, arith, ◌≡◌, ℕ, Bool, true, List, [], ◌∷◌, ◌++◌, refl, ap, ap₂, ◌∙◌}
use Rattle.axe_report.specs.Fronts.{Stops}

-- each byte passes the test
abbrev pub Passes : (ℕ → Bool) → List ℕ → Type 0
Passes test [] = Unit {0}
Passes test (byte ∷ bytes) = (test byte ≡ true) × Passes test bytes

pub passes_append : (test : ℕ → Bool) (a b : List ℕ) → Passes test a → Passes test b → Passes test (a ++ b)
passes_append test [] b p q = q
passes_append test (x ∷ a) b p q = (p.0, passes_append test a b p.1 q)

-- a front whose bytes pass the test, before bytes that begin with one that does not, is the only one
pub front_unique : (test : ℕ → Bool) (a b x y : List ℕ) → Passes test a → Passes test b → Stops test x → Stops test y
    → a ++ x ≡ b ++ y → (a ≡ b) × (x ≡ y)
front_unique test [] [] x y pa pb sx sy e = (refl, e)
front_unique test [] (d ∷ b) [] y pa pb sx sy e = absurd cc
front_unique test [] (d ∷ b) (c ∷ x) y pa pb sx sy e =
    let same : c ≡ d = cc in
    absurd (cc (sx, pb.0, ap test same))
front_unique test (c ∷ a) [] x [] pa pb sx sy e = absurd cc
front_unique test (c ∷ a) [] x (d ∷ y) pa pb sx sy e =
    let same : c ≡ d = cc in
    absurd (cc (sy, pa.0, ap test same))
front_unique test (c ∷ a) (d ∷ b) x y pa pb sx sy e =
    let same : c ≡ d = cc in
    let rest : a ++ x ≡ b ++ y = cc in
    let parts = front_unique test a b x y pa.1 pb.1 sx sy rest in
    (ap₂ (λ (n : ℕ) (l : List ℕ). n ∷ l) same parts.0, parts.1)

-- the same front leaves the same rest
pub cancel_front : (a x y : List ℕ) → a ++ x ≡ a ++ y → x ≡ y
cancel_front [] x y e = e
cancel_front (c ∷ a) x y e =
    let rest : a ++ x ≡ a ++ y = cc in
    cancel_front a x y rest

-- ---- the longest front

pub prefix_passes : (test : ℕ → Bool) (xs : List ℕ) → Passes test (take (prefix_len test xs) xs)
prefix_passes test [] = tt
prefix_passes test (x ∷ xs) = elim (cases_Bool (test x)) [
  | inl t ↦
      let count : prefix_len test (x ∷ xs) ≡ suc (prefix_len test xs) = rw t (omega arith) in
      rw count (t, prefix_passes test xs)
  | inr f ↦
      let count : prefix_len test (x ∷ xs) ≡ 0 = rw f refl in
      rw count tt
]

pub prefix_stops : (test : ℕ → Bool) (xs : List ℕ) → Stops test (drop (prefix_len test xs) xs)
prefix_stops test [] = tt
prefix_stops test (x ∷ xs) = elim (cases_Bool (test x)) [
  | inl t ↦
      let count : prefix_len test (x ∷ xs) ≡ suc (prefix_len test xs) = rw t (omega arith) in
      rw count (prefix_stops test xs)
  | inr f ↦
      let count : prefix_len test (x ∷ xs) ≡ 0 = rw f refl in
      rw count f
]

-- a front whose bytes pass, and which ends where they stop, is the longest one
pub front_is_prefix : (test : ℕ → Bool) (xs a x : List ℕ) → Passes test a → Stops test x → xs ≡ a ++ x → (take (prefix_len test xs) xs ≡ a) × (drop (prefix_len test xs) xs ≡ x)
front_is_prefix test xs a x p s e =
    front_unique test (take (prefix_len test xs) xs) a (drop (prefix_len test xs) xs) x (prefix_passes test xs) p (prefix_stops test xs) s (take-append-drop (prefix_len test xs) xs ∙ e)
