-- A reader of a word, letter by letter, against its language.
use Rattle.std.proofs.Common.{◌≡◌, ℕ, ◌+◌, true, false, eqb, List, [], ◌∷◌, ◌++◌, length, Ok, Err, refl, sym, ap, ap₂, ◌∙◌, eq-eqb, eqb-true, inl, inr, arith}
use Rattle.std.proofs.lemmas.Bool.{cases_Bool}
use Rattle.axe_file.specs.TextGrammar.{is_white, is_apart, Word}
use Rattle.axe_file.specs.TextReading.{Found, Reading, read_word}
use Rattle.axe_file.proofs.TextSteps.{word_on, word_fails, word_none, word_done}
use Rattle.axe_file.proofs.TextParts.{Starts, Begins, Reads, Then, IsDark}

-- a word, and then a word of a language
abbrev pub After : List ℕ → (List ℕ → List ℕ → Type 0) → List ℕ → List ℕ → Type 0
After word L bytes values = (rest : List ℕ) × (bytes ≡ word ++ rest) × L rest values

module _ (L : List ℕ → List ℕ → Type 0) (next : List ℕ → ℕ → Reading) (r : Reads L next) where
  pub after_letter : (c : ℕ) (word : List ℕ) (b : ℕ) (bytes values : List ℕ) → eqb b c ≡ true → After word L bytes values → After (c ∷ word) L (b ∷ bytes) values
  after_letter c word b bytes values e (rest, whole, l) =
      (rest, ap₂ (λ (x : ℕ) (y : List ℕ). x ∷ y) (eqb-true b c e) whole, l)

  pub some_word : (word : List ℕ) → After word L (word ++ r.some.0) r.some.1
  some_word word = (r.some.0, refl, r.some.2)

  pub word_sound : (word bytes : List ℕ) (at : ℕ) (found : Found) → read_word word next bytes at ≡ Ok found → Starts (After word L) bytes at found
  word_sound [] bytes at found e =
      let s = r.sound bytes at found (sym (word_done next bytes at) ∙ e) in
      record { word = s.word; rest = s.rest; whole = s.whole; end = s.end; belongs = (s.word, refl, s.belongs); apart = s.apart }
  word_sound (c ∷ word) [] at found e = absurd (cc (word_none c word next at))
  word_sound (c ∷ word) (b ∷ bytes) at found e = elim (cases_Bool (eqb b c)) [
    | inl w ↦
        let s = word_sound word bytes (at + 1) found (sym (word_on c word next b bytes at w) ∙ e) in
        record { word = b ∷ s.word; rest = s.rest; whole = ap (λ (x : List ℕ). b ∷ x) s.whole; end = omega (arith, s.end); belongs = after_letter c word b s.word found.values w s.belongs; apart = s.apart }
    | inr d ↦ absurd (cc (word_fails c word next b bytes at d))
  ]

  pub word_missing : (c : ℕ) (word bytes : List ℕ) (at k : ℕ) → at ≡ k → Begins (After (c ∷ word) L) bytes at k
  word_missing c word bytes at k o =
      record { front = []; rest = bytes; more = (c ∷ word) ++ r.some.0; values = r.some.1; whole = refl; offset = omega (arith, o); belongs = some_word (c ∷ word) }

  pub word_progress : (word bytes : List ℕ) (at k : ℕ) → read_word word next bytes at ≡ Err k → Begins (After word L) bytes at k
  word_progress [] bytes at k e =
      let s = r.progress bytes at k (sym (word_done next bytes at) ∙ e) in
      record { front = s.front; rest = s.rest; more = s.more; values = s.values; whole = s.whole; offset = s.offset; belongs = (s.front ++ s.more, refl, s.belongs) }
  word_progress (c ∷ word) [] at k e = word_missing c word [] at k (cc (word_none c word next at))
  word_progress (c ∷ word) (b ∷ bytes) at k e = elim (cases_Bool (eqb b c)) [
    | inl w ↦
        let s = word_progress word bytes (at + 1) k (sym (word_on c word next b bytes at w) ∙ e) in
        record { front = b ∷ s.front; rest = s.rest; more = s.more; values = s.values; whole = ap (λ (x : List ℕ). b ∷ x) s.whole; offset = omega (arith, s.offset); belongs = after_letter c word b (s.front ++ s.more) s.values w s.belongs }
    | inr d ↦ word_missing c word (b ∷ bytes) at k (cc (word_fails c word next b bytes at d))
  ]

  pub word_complete_by : (word own rest values : List ℕ) (at : ℕ) → L own values → is_apart rest ≡ true
      → read_word word next ((word ++ own) ++ rest) at ≡ Ok (record { values = values; end = at + length (word ++ own) })
  word_complete_by [] own rest values at l a = word_done next (own ++ rest) at ∙ r.complete own rest values at l a
  word_complete_by (c ∷ word) own rest values at l a =
      word_on c word next c ((word ++ own) ++ rest) at (eq-eqb c c refl)
      ∙ word_complete_by word own rest values (at + 1) l a
      ∙ ap (λ (n : ℕ). Ok (record { values = values; end = n })) (omega arith)

  pub word_local : (word p : List ℕ) (b : ℕ) (u v : List ℕ) (at k : ℕ) → k ≡ at + length p → read_word word next (p ++ b ∷ u) at ≡ Err k → read_word word next (p ++ b ∷ v) at ≡ Err k
  word_local [] p b u v at k o e = word_done next (p ++ b ∷ v) at ∙ r.local p b u v at k o (sym (word_done next (p ++ b ∷ u) at) ∙ e)
  word_local (c ∷ word) [] b u v at k o e = elim (cases_Bool (eqb b c)) [
    | inl w ↦
        let s = word_progress word u (at + 1) k (sym (word_on c word next b u at w) ∙ e) in
        absurd (omega (arith, s.offset, o))
    | inr d ↦ word_fails c word next b v at d ∙ sym (word_fails c word next b u at d) ∙ e
  ]
  word_local (c ∷ word) (x ∷ p) b u v at k o e = elim (cases_Bool (eqb x c)) [
    | inl w ↦ word_on c word next x (p ++ b ∷ v) at w ∙ word_local word p b u v (at + 1) k (omega (arith, o)) (sym (word_on c word next x (p ++ b ∷ u) at w) ∙ e)
    | inr d ↦ word_fails c word next x (p ++ b ∷ v) at d ∙ sym (word_fails c word next x (p ++ b ∷ u) at d) ∙ e
  ]

  pub then_from_after : (word bytes values : List ℕ) → After word L bytes values → Then (Word word) L bytes values
  then_from_after word bytes values (rest, whole, l) = (word, rest, [], values, whole, refl, (refl, refl), l)

  pub reads_word : (word : List ℕ) → Reads (Then (Word word) L) (read_word word next)
  reads_word word = record {
    some = (word ++ r.some.0, r.some.1, then_from_after word (word ++ r.some.0) r.some.1 (some_word word));
    sound = λ bytes at found e.
        let s = word_sound word bytes at found e in
        record { word = s.word; rest = s.rest; whole = s.whole; end = s.end; belongs = then_from_after word s.word found.values s.belongs; apart = s.apart };
    progress = λ bytes at k e.
        let s = word_progress word bytes at k e in
        record { front = s.front; rest = s.rest; more = s.more; values = s.values; whole = s.whole; offset = s.offset; belongs = then_from_after word (s.front ++ s.more) s.values s.belongs };
    complete = λ bytes rest values at (first, others_word, own, others, eb, ev, (is, none), l) a.
        let same : values ≡ others = ev ∙ ap (λ (x : List ℕ). x ++ others) none in
        let whole : bytes ≡ word ++ others_word = eb ∙ ap (λ (x : List ℕ). x ++ others_word) is in
        rw (whole, same) (word_complete_by word others_word rest others at l a);
    local = word_local word;
  }

-- a word whose first letter is no white space
pub dark_word : (L : List ℕ → List ℕ → Type 0) (c : ℕ) (word : List ℕ) → is_white c ≡ false → IsDark (Then (Word (c ∷ word)) L)
dark_word L c word d = record {
  first = λ bytes values (first, rest, own, others, eb, ev, (is, none), l). (c, word ++ rest, eb ∙ ap (λ (x : List ℕ). x ++ rest) is, d);
}
