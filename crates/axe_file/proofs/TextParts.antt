-- A reader of parts against the language of these parts.
use Rattle.std.proofs.Common.{◌≡◌, ℕ, ◌+◌, ◌≤◌, true, false, List, [], ◌∷◌, ◌++◌, length, Ok, Err, refl, sym, ap, ◌∙◌, inl, inr, arith}
use Rattle.std.specs.Prelude.{IsTrue, All}
use Rattle.std.proofs.lemmas.Bool.{cases_Bool}
use Rattle.std.proofs.lemmas.List.Elements.{All-nil, All-cons, All-head, All-tail}
use Rattle.axe_file.specs.TextGrammar.{is_white, is_apart, IsPart, Part, Space, Gap}
use Rattle.axe_file.specs.TextReading.{Found, Reading, read_space, read_gap}
use Rattle.axe_file.proofs.TextSteps.{space_on, space_ends, space_none, gap_on, gap_fails, gap_none}

-- the bytes begin with a word of the language, which ends at the offset found, and then come white space or the end
pub record Starts (L : List ℕ → List ℕ → Type 0) (bytes : List ℕ) (at : ℕ) (found : Found) : Type 0 where
  pub word : List ℕ
  pub rest : List ℕ
  pub whole : bytes ≡ word ++ rest
  pub end : found.end ≡ at + length word
  pub belongs : L word found.values
  pub apart : is_apart rest ≡ true

-- up to the offset k the bytes are the beginning of a word of the language
pub record Begins (L : List ℕ → List ℕ → Type 0) (bytes : List ℕ) (at k : ℕ) : Type 0 where
  pub front : List ℕ
  pub rest : List ℕ
  pub more : List ℕ
  pub values : List ℕ
  pub whole : bytes ≡ front ++ rest
  pub offset : k ≡ at + length front
  pub belongs : L (front ++ more) values

-- the reader finds the words of the language, and otherwise the first byte that does not fit
pub record Reads (L : List ℕ → List ℕ → Type 0) (next : List ℕ → ℕ → Reading) : Type 0 where
  pub some : (word : List ℕ) × (values : List ℕ) × L word values
  pub sound : (bytes : List ℕ) (at : ℕ) (found : Found) → next bytes at ≡ Ok found → Starts L bytes at found
  pub progress : (bytes : List ℕ) (at k : ℕ) → next bytes at ≡ Err k → Begins L bytes at k
  pub complete : (word rest values : List ℕ) (at : ℕ) → L word values → is_apart rest ≡ true → next (word ++ rest) at ≡ Ok (record { values = values; end = at + length word })
  pub local : (p : List ℕ) (b : ℕ) (u v : List ℕ) (at k : ℕ) → k ≡ at + length p → next (p ++ b ∷ u) at ≡ Err k → next (p ++ b ∷ v) at ≡ Err k

-- a part, and then a word of a language
abbrev pub Then : Part → (List ℕ → List ℕ → Type 0) → List ℕ → List ℕ → Type 0
Then part L bytes values =
    (first : List ℕ) × (rest : List ℕ) × (own : List ℕ) × (others : List ℕ) × (bytes ≡ first ++ rest) × (values ≡ own ++ others) × IsPart part first own × L rest others

-- each word of the language begins with a byte that is no white space
pub record IsDark (L : List ℕ → List ℕ → Type 0) : Type 0 where
  pub first : (word values : List ℕ) → L word values → (c : ℕ) × (t : List ℕ) × (word ≡ c ∷ t) × (is_white c ≡ false)

-- ---- white space, perhaps none

module _ (L : List ℕ → List ℕ → Type 0) (next : List ℕ → ℕ → Reading) (r : Reads L next) where
  pub no_space : (word values : List ℕ) → L word values → Then Space L word values
  no_space word values l = ([], word, [], values, refl, refl, (All-nil (λ byte. IsTrue (is_white byte)), refl), l)

  pub more_space : (b : ℕ) (word values : List ℕ) → is_white b ≡ true → Then Space L word values → Then Space L (b ∷ word) values
  more_space b word values w (first, rest, own, others, eb, ev, (white, none), l) =
      (b ∷ first, rest, own, others, ap (λ (x : List ℕ). b ∷ x) eb, ev, (All-cons (λ byte. IsTrue (is_white byte)) b first w white, none), l)

  pub space_sound : (bytes : List ℕ) (at : ℕ) (found : Found) → read_space next bytes at ≡ Ok found → Starts (Then Space L) bytes at found
  space_sound [] at found e =
      let s = r.sound [] at found (sym (space_none next at) ∙ e) in
      record { word = s.word; rest = s.rest; whole = s.whole; end = s.end; belongs = no_space s.word found.values s.belongs; apart = s.apart }
  space_sound (b ∷ bytes) at found e = elim (cases_Bool (is_white b)) [
    | inl w ↦
        let s = space_sound bytes (at + 1) found (sym (space_on next b bytes at w) ∙ e) in
        record { word = b ∷ s.word; rest = s.rest; whole = ap (λ (x : List ℕ). b ∷ x) s.whole; end = omega (arith, s.end); belongs = more_space b s.word found.values w s.belongs; apart = s.apart }
    | inr d ↦
        let s = r.sound (b ∷ bytes) at found (sym (space_ends next b bytes at d) ∙ e) in
        record { word = s.word; rest = s.rest; whole = s.whole; end = s.end; belongs = no_space s.word found.values s.belongs; apart = s.apart }
  ]

  pub space_progress : (bytes : List ℕ) (at k : ℕ) → read_space next bytes at ≡ Err k → Begins (Then Space L) bytes at k
  space_progress [] at k e =
      let s = r.progress [] at k (sym (space_none next at) ∙ e) in
      record { front = s.front; rest = s.rest; more = s.more; values = s.values; whole = s.whole; offset = s.offset; belongs = no_space (s.front ++ s.more) s.values s.belongs }
  space_progress (b ∷ bytes) at k e = elim (cases_Bool (is_white b)) [
    | inl w ↦
        let s = space_progress bytes (at + 1) k (sym (space_on next b bytes at w) ∙ e) in
        record { front = b ∷ s.front; rest = s.rest; more = s.more; values = s.values; whole = ap (λ (x : List ℕ). b ∷ x) s.whole; offset = omega (arith, s.offset); belongs = more_space b (s.front ++ s.more) s.values w s.belongs }
    | inr d ↦
        let s = r.progress (b ∷ bytes) at k (sym (space_ends next b bytes at d) ∙ e) in
        record { front = s.front; rest = s.rest; more = s.more; values = s.values; whole = s.whole; offset = s.offset; belongs = no_space (s.front ++ s.more) s.values s.belongs }
  ]

  pub space_stops : (bytes : List ℕ) (at c : ℕ) (t : List ℕ) → bytes ≡ c ∷ t → is_white c ≡ false → read_space next bytes at ≡ next bytes at
  space_stops bytes at c t e d =
      ap (λ (x : List ℕ). read_space next x at) e ∙ space_ends next c t at d ∙ ap (λ (x : List ℕ). next x at) (sym e)

  pub space_complete_by : IsDark L → (first word rest values : List ℕ) (at : ℕ) → (All (λ byte. IsTrue (is_white byte)) first) → L word values → is_apart rest ≡ true
      → read_space next ((first ++ word) ++ rest) at ≡ Ok (record { values = values; end = at + length (first ++ word) })
  space_complete_by dark [] word rest values at white l a =
      let f = dark.first word values l in
      space_stops (word ++ rest) at f.0 (f.1 ++ rest) (ap (λ (x : List ℕ). x ++ rest) f.2) f.3 ∙ r.complete word rest values at l a
  space_complete_by dark (b ∷ first) word rest values at white l a =
      space_on next b ((first ++ word) ++ rest) at (All-head (λ byte. IsTrue (is_white byte)) b first white)
      ∙ space_complete_by dark first word rest values (at + 1) (All-tail (λ byte. IsTrue (is_white byte)) b first white) l a
      ∙ ap (λ (n : ℕ). Ok (record { values = values; end = n })) (omega arith)

  pub space_complete : IsDark L → (word rest values : List ℕ) (at : ℕ) → Then Space L word values → is_apart rest ≡ true → read_space next (word ++ rest) at ≡ Ok (record { values = values; end = at + length word })
  space_complete dark word rest values at (first, others_word, own, others, eb, ev, (white, none), l) a =
      let whole : values ≡ others = ev ∙ ap (λ (x : List ℕ). x ++ others) none in
      rw (eb, whole) (space_complete_by dark first others_word rest others at white l a)

  pub space_local : (p : List ℕ) (b : ℕ) (u v : List ℕ) (at k : ℕ) → k ≡ at + length p → read_space next (p ++ b ∷ u) at ≡ Err k → read_space next (p ++ b ∷ v) at ≡ Err k
  space_local [] b u v at k o e = elim (cases_Bool (is_white b)) [
    | inl w ↦
        let s = space_progress u (at + 1) k (sym (space_on next b u at w) ∙ e) in
        absurd (omega (arith, s.offset, o))
    | inr d ↦ space_ends next b v at d ∙ r.local [] b u v at k o (sym (space_ends next b u at d) ∙ e)
  ]
  space_local (c ∷ p) b u v at k o e = elim (cases_Bool (is_white c)) [
    | inl w ↦ space_on next c (p ++ b ∷ v) at w ∙ space_local p b u v (at + 1) k (omega (arith, o)) (sym (space_on next c (p ++ b ∷ u) at w) ∙ e)
    | inr d ↦ space_ends next c (p ++ b ∷ v) at d ∙ r.local (c ∷ p) b u v at k o (sym (space_ends next c (p ++ b ∷ u) at d) ∙ e)
  ]

  pub reads_space : IsDark L → Reads (Then Space L) (read_space next)
  reads_space dark = record {
    some = (r.some.0, r.some.1, no_space r.some.0 r.some.1 r.some.2);
    sound = space_sound;
    progress = space_progress;
    complete = space_complete dark;
    local = space_local;
  }

  -- ---- white space, at least one byte

  pub gap_from_space : (b : ℕ) (word values : List ℕ) → is_white b ≡ true → Then Space L word values → Then Gap L (b ∷ word) values
  gap_from_space b word values w (first, rest, own, others, eb, ev, (white, none), l) =
      (b ∷ first, rest, own, others, ap (λ (x : List ℕ). b ∷ x) eb, ev, (omega arith, All-cons (λ byte. IsTrue (is_white byte)) b first w white, none), l)

  pub some_gap : Then Gap L (32 ∷ r.some.0) r.some.1
  unfolding is_white
  some_gap = gap_from_space 32 r.some.0 r.some.1 refl (no_space r.some.0 r.some.1 r.some.2)

  pub gap_sound : (bytes : List ℕ) (at : ℕ) (found : Found) → read_gap next bytes at ≡ Ok found → Starts (Then Gap L) bytes at found
  gap_sound [] at found e = absurd (cc (gap_none next at))
  gap_sound (b ∷ bytes) at found e = elim (cases_Bool (is_white b)) [
    | inl w ↦
        let s = space_sound bytes (at + 1) found (sym (gap_on next b bytes at w) ∙ e) in
        record { word = b ∷ s.word; rest = s.rest; whole = ap (λ (x : List ℕ). b ∷ x) s.whole; end = omega (arith, s.end); belongs = gap_from_space b s.word found.values w s.belongs; apart = s.apart }
    | inr d ↦ absurd (cc (gap_fails next b bytes at d))
  ]

  pub gap_missing : (bytes : List ℕ) (at k : ℕ) → at ≡ k → Begins (Then Gap L) bytes at k
  gap_missing bytes at k o =
      record { front = []; rest = bytes; more = 32 ∷ r.some.0; values = r.some.1; whole = refl; offset = omega (arith, o); belongs = some_gap }

  pub gap_progress : (bytes : List ℕ) (at k : ℕ) → read_gap next bytes at ≡ Err k → Begins (Then Gap L) bytes at k
  gap_progress [] at k e = gap_missing [] at k (cc (gap_none next at))
  gap_progress (b ∷ bytes) at k e = elim (cases_Bool (is_white b)) [
    | inl w ↦
        let s = space_progress bytes (at + 1) k (sym (gap_on next b bytes at w) ∙ e) in
        record { front = b ∷ s.front; rest = s.rest; more = s.more; values = s.values; whole = ap (λ (x : List ℕ). b ∷ x) s.whole; offset = omega (arith, s.offset); belongs = gap_from_space b (s.front ++ s.more) s.values w s.belongs }
    | inr d ↦ gap_missing (b ∷ bytes) at k (cc (gap_fails next b bytes at d))
  ]

  pub gap_complete_by : IsDark L → (first word rest values : List ℕ) (at : ℕ) → 1 ≤ length first → (All (λ byte. IsTrue (is_white byte)) first) → L word values → is_apart rest ≡ true
      → read_gap next ((first ++ word) ++ rest) at ≡ Ok (record { values = values; end = at + length (first ++ word) })
  gap_complete_by dark [] word rest values at one white l a = absurd (omega (arith, one))
  gap_complete_by dark (b ∷ first) word rest values at one white l a =
      gap_on next b ((first ++ word) ++ rest) at (All-head (λ byte. IsTrue (is_white byte)) b first white)
      ∙ space_complete_by dark first word rest values (at + 1) (All-tail (λ byte. IsTrue (is_white byte)) b first white) l a
      ∙ ap (λ (n : ℕ). Ok (record { values = values; end = n })) (omega arith)

  pub gap_complete : IsDark L → (word rest values : List ℕ) (at : ℕ) → Then Gap L word values → is_apart rest ≡ true → read_gap next (word ++ rest) at ≡ Ok (record { values = values; end = at + length word })
  gap_complete dark word rest values at (first, others_word, own, others, eb, ev, (one, white, none), l) a =
      let whole : values ≡ others = ev ∙ ap (λ (x : List ℕ). x ++ others) none in
      rw (eb, whole) (gap_complete_by dark first others_word rest others at one white l a)

  pub gap_local : (p : List ℕ) (b : ℕ) (u v : List ℕ) (at k : ℕ) → k ≡ at + length p → read_gap next (p ++ b ∷ u) at ≡ Err k → read_gap next (p ++ b ∷ v) at ≡ Err k
  gap_local [] b u v at k o e = elim (cases_Bool (is_white b)) [
    | inl w ↦
        let s = space_progress u (at + 1) k (sym (gap_on next b u at w) ∙ e) in
        absurd (omega (arith, s.offset, o))
    | inr d ↦ gap_fails next b v at d ∙ sym (gap_fails next b u at d) ∙ e
  ]
  gap_local (c ∷ p) b u v at k o e = elim (cases_Bool (is_white c)) [
    | inl w ↦ gap_on next c (p ++ b ∷ v) at w ∙ space_local p b u v (at + 1) k (omega (arith, o)) (sym (gap_on next c (p ++ b ∷ u) at w) ∙ e)
    | inr d ↦ gap_fails next c (p ++ b ∷ v) at d ∙ sym (gap_fails next c (p ++ b ∷ u) at d) ∙ e
  ]

  pub reads_gap : IsDark L → Reads (Then Gap L) (read_gap next)
  reads_gap dark = record {
    some = (32 ∷ r.some.0, r.some.1, some_gap);
    sound = gap_sound;
    progress = gap_progress;
    complete = gap_complete dark;
    local = gap_local;
  }
