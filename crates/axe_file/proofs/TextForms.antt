-- The two forms of a header, read from left to right.
use Rattle.std.proofs.Common.{◌≡◌, ℕ, ◌+◌, ◌≤◌, true, false, not, eqb, List, [], ◌∷◌, ◌++◌, length, ◌⊎◌, Ok, Err, refl, sym, ap, ◌∙◌, inl, inr, add-zero, arith}
use Rattle.std.specs.Prelude.{IsTrue, All}
use Rattle.std.proofs.lemmas.Bool.{cases_Bool}
use Rattle.std.proofs.lemmas.List.Elements.{All-head}
use Rattle.axe_file.specs.TextGrammar.{is_white, is_digit, is_apart, IsNumeral, AreParts, Part, Space, Gap, Word, Numeral, plain_form, named_form}
use Rattle.axe_file.specs.TextReading.{Found, Reading, with_value, read_space, read_parts, read_form}
use Rattle.axe_file.proofs.TextSteps.{digit_is_dark}
use Rattle.axe_file.proofs.TextParts.{Starts, Begins, Reads, Then, IsDark, reads_space, reads_gap}
use Rattle.axe_file.proofs.TextWords.{reads_word, dark_word}
use Rattle.axe_file.proofs.TextNumerals.{with_value_ok, with_value_err, no_digit_first, EndsNumeral, reads_numeral, dark_numeral}

-- ---- the end of a header

pub end_found : (bytes : List ℕ) (at : ℕ) → is_apart bytes ≡ true → read_parts [] bytes at ≡ Ok (record { values = []; end = at })
unfolding read_parts
end_found bytes at e = rw e refl

pub end_missing : (bytes : List ℕ) (at : ℕ) → is_apart bytes ≡ false → read_parts [] bytes at ≡ Err at
unfolding read_parts
end_missing bytes at e = rw e refl

end_sound : (bytes : List ℕ) (at : ℕ) (found : Found) → read_parts [] bytes at ≡ Ok found → Starts (AreParts []) bytes at found
end_sound bytes at found e = elim (cases_Bool (is_apart bytes)) [
  | inl w ↦
      let same : record { values = []; end = at } ≡ found = cc (end_found bytes at w) in
      record { word = []; rest = bytes; whole = refl; end = sym (ap (λ (f : Found). f.end) same) ∙ sym (add-zero at); belongs = (refl, sym (ap (λ (f : Found). f.values) same)); apart = w }
  | inr d ↦ absurd (cc (end_missing bytes at d))
]

end_progress : (bytes : List ℕ) (at k : ℕ) → read_parts [] bytes at ≡ Err k → Begins (AreParts []) bytes at k
end_progress bytes at k e = elim (cases_Bool (is_apart bytes)) [
  | inl w ↦ absurd (cc (end_found bytes at w))
  | inr d ↦
      let o : at ≡ k = cc (end_missing bytes at d) in
      record { front = []; rest = bytes; more = []; values = []; whole = refl; offset = omega (arith, o); belongs = (refl, refl) }
]

end_complete : (word rest values : List ℕ) (at : ℕ) → AreParts [] word values → is_apart rest ≡ true → read_parts [] (word ++ rest) at ≡ Ok (record { values = values; end = at + length word })
end_complete word rest values at (eb, ev) a =
    rw (eb, ev) (end_found rest at a ∙ ap (λ (n : ℕ). Ok (record { values = []; end = n })) (sym (add-zero at)))

end_local : (p : List ℕ) (b : ℕ) (u v : List ℕ) (at k : ℕ) → k ≡ at + length p → read_parts [] (p ++ b ∷ u) at ≡ Err k → read_parts [] (p ++ b ∷ v) at ≡ Err k
end_local [] b u v at k o e = elim (cases_Bool (is_white b)) [
  | inl w ↦ absurd (cc (end_found (b ∷ u) at w))
  | inr d ↦ end_missing (b ∷ v) at d ∙ sym (end_missing (b ∷ u) at d) ∙ e
]
end_local (c ∷ p) b u v at k o e = elim (cases_Bool (is_white c)) [
  | inl w ↦ absurd (cc (end_found (c ∷ p ++ b ∷ u) at w))
  | inr d ↦ end_missing (c ∷ p ++ b ∷ v) at d ∙ sym (end_missing (c ∷ p ++ b ∷ u) at d) ∙ e
]

pub reads_end : Reads (AreParts []) (read_parts [])
reads_end = record {
  some = ([], [], (refl, refl));
  sound = end_sound;
  progress = end_progress;
  complete = end_complete;
  local = end_local;
}

-- ---- where a numeral ends

white_no_digit : (b : ℕ) → is_white b ≡ true → not (is_digit b) ≡ true
white_no_digit b w = elim (cases_Bool (is_digit b)) [
  | inl d ↦ absurd (cc (digit_is_dark b d))
  | inr d ↦ rw d refl
]

apart_no_digit : (rest : List ℕ) → is_apart rest ≡ true → no_digit_first rest ≡ true
apart_no_digit [] a = refl
apart_no_digit (b ∷ rest) a = white_no_digit b a

pub end_ends : EndsNumeral (AreParts [])
end_ends = record {
  ends = λ word rest values (eb, ev) a. rw eb (apart_no_digit rest a);
}

gap_first : (bytes first rest tail : List ℕ) → bytes ≡ first ++ rest → 1 ≤ length first → All (λ byte. IsTrue (is_white byte)) first → no_digit_first (bytes ++ tail) ≡ true
gap_first bytes [] rest tail eb one white = absurd (omega (arith, one))
gap_first bytes (b ∷ first) rest tail eb one white = rw eb (white_no_digit b (All-head (λ byte. IsTrue (is_white byte)) b first white))

pub gap_ends : (L : List ℕ → List ℕ → Type 0) → EndsNumeral (Then Gap L)
gap_ends L = record {
  ends = λ word rest values (first, others_word, own, others, eb, ev, (one, white, none), l) a. gap_first word first others_word rest eb one white;
}

-- ---- the forms

numeral_then : (parts : List Part) → EndsNumeral (AreParts parts) → Reads (AreParts parts) (read_parts parts) → Reads (AreParts (Numeral ∷ parts)) (read_parts (Numeral ∷ parts))
unfolding read_parts
numeral_then parts ends r = reads_numeral (AreParts parts) (read_parts parts) r ends

gap_numeral : (parts : List Part) → EndsNumeral (AreParts parts) → Reads (AreParts parts) (read_parts parts) → Reads (AreParts (Gap ∷ Numeral ∷ parts)) (read_parts (Gap ∷ Numeral ∷ parts))
unfolding read_parts
gap_numeral parts ends r =
    reads_gap (AreParts (Numeral ∷ parts)) (read_parts (Numeral ∷ parts)) (numeral_then parts ends r) (dark_numeral (AreParts parts))

gap_word : (c : ℕ) (word : List ℕ) (parts : List Part) → is_white c ≡ false → Reads (AreParts parts) (read_parts parts) → Reads (AreParts (Gap ∷ Word (c ∷ word) ∷ parts)) (read_parts (Gap ∷ Word (c ∷ word) ∷ parts))
unfolding read_parts
gap_word c word parts dark r =
    reads_gap (AreParts (Word (c ∷ word) ∷ parts)) (read_parts (Word (c ∷ word) ∷ parts)) (reads_word (AreParts parts) (read_parts parts) r (c ∷ word)) (dark_word (AreParts parts) c word dark)

word_then : (word : List ℕ) (parts : List Part) → Reads (AreParts parts) (read_parts parts) → Reads (AreParts (Word word ∷ parts)) (read_parts (Word word ∷ parts))
unfolding read_parts
word_then word parts r = reads_word (AreParts parts) (read_parts parts) r word

pub reads_plain : Reads (AreParts plain_form) (read_parts plain_form)
unfolding plain_form
reads_plain =
    numeral_then _ (gap_ends _) (gap_numeral _ (gap_ends _) (gap_numeral _ (gap_ends _) (gap_numeral [] end_ends reads_end)))

pub reads_named : Reads (AreParts named_form) (read_parts named_form)
unfolding named_form is_white
reads_named =
    word_then _ _ (gap_word _ _ _ refl (numeral_then _ (gap_ends _) (gap_word _ _ _ refl (numeral_then _ (gap_ends _) (gap_word _ _ _ refl (numeral_then [] end_ends reads_end))))))

-- ---- one form or the other

-- a header without the white space before it, with its four numbers
abbrev pub IsForm : List ℕ → List ℕ → Type 0
IsForm bytes values = AreParts plain_form bytes values ⊎ ((others : List ℕ) × (values ≡ 1 ∷ others) × AreParts named_form bytes others)

pub form_none : (at : ℕ) → read_form [] at ≡ read_parts plain_form [] at
unfolding read_form
form_none at = refl

pub form_named : (bytes : List ℕ) (at : ℕ) → read_form (109 ∷ bytes) at ≡ with_value 1 (read_parts named_form (109 ∷ bytes) at)
unfolding read_form
form_named bytes at = refl

pub form_m : (b : ℕ) (bytes : List ℕ) (at : ℕ) → eqb b 109 ≡ true → read_form (b ∷ bytes) at ≡ with_value 1 (read_parts named_form (b ∷ bytes) at)
unfolding read_form
form_m b bytes at e = rw e refl

pub form_plain : (b : ℕ) (bytes : List ℕ) (at : ℕ) → eqb b 109 ≡ false → read_form (b ∷ bytes) at ≡ read_parts plain_form (b ∷ bytes) at
unfolding read_form
form_plain b bytes at e = rw e refl

plain_sound : (bytes : List ℕ) (at : ℕ) (found : Found) → read_parts plain_form bytes at ≡ Ok found → Starts IsForm bytes at found
plain_sound bytes at found e =
    let s = reads_plain.sound bytes at found e in
    record { word = s.word; rest = s.rest; whole = s.whole; end = s.end; belongs = inl s.belongs; apart = s.apart }

named_sound : (bytes : List ℕ) (at : ℕ) (found : Found) → with_value 1 (read_parts named_form bytes at) ≡ Ok found → Starts IsForm bytes at found
named_sound bytes at found e =
    let f = with_value_ok 1 (read_parts named_form bytes at) found e in
    let s = reads_named.sound bytes at f.0 f.1 in
    record { word = s.word; rest = s.rest; whole = s.whole; end = f.3 ∙ s.end; belongs = inr (f.0.values, f.2, s.belongs); apart = s.apart }

form_sound : (bytes : List ℕ) (at : ℕ) (found : Found) → read_form bytes at ≡ Ok found → Starts IsForm bytes at found
form_sound [] at found e = plain_sound [] at found (sym (form_none at) ∙ e)
form_sound (b ∷ bytes) at found e = elim (cases_Bool (eqb b 109)) [
  | inl w ↦ named_sound (b ∷ bytes) at found (sym (form_m b bytes at w) ∙ e)
  | inr d ↦ plain_sound (b ∷ bytes) at found (sym (form_plain b bytes at d) ∙ e)
]

plain_progress : (bytes : List ℕ) (at k : ℕ) → read_parts plain_form bytes at ≡ Err k → Begins IsForm bytes at k
plain_progress bytes at k e =
    let s = reads_plain.progress bytes at k e in
    record { front = s.front; rest = s.rest; more = s.more; values = s.values; whole = s.whole; offset = s.offset; belongs = inl s.belongs }

named_progress : (bytes : List ℕ) (at k : ℕ) → with_value 1 (read_parts named_form bytes at) ≡ Err k → Begins IsForm bytes at k
named_progress bytes at k e =
    let s = reads_named.progress bytes at k (with_value_err 1 (read_parts named_form bytes at) k e) in
    record { front = s.front; rest = s.rest; more = s.more; values = 1 ∷ s.values; whole = s.whole; offset = s.offset; belongs = inr (s.values, refl, s.belongs) }

form_progress : (bytes : List ℕ) (at k : ℕ) → read_form bytes at ≡ Err k → Begins IsForm bytes at k
form_progress [] at k e = plain_progress [] at k (sym (form_none at) ∙ e)
form_progress (b ∷ bytes) at k e = elim (cases_Bool (eqb b 109)) [
  | inl w ↦ named_progress (b ∷ bytes) at k (sym (form_m b bytes at w) ∙ e)
  | inr d ↦ plain_progress (b ∷ bytes) at k (sym (form_plain b bytes at d) ∙ e)
]

digit_no_m : (c : ℕ) → is_digit c ≡ true → eqb c 109 ≡ false
unfolding is_digit
digit_no_m c d = grind arith

plain_first : (bytes first rest tail : List ℕ) (at : ℕ) → bytes ≡ first ++ rest → IsNumeral first → read_form (bytes ++ tail) at ≡ read_parts plain_form (bytes ++ tail) at
plain_first bytes [] rest tail at eb n = absurd (omega (arith, n.some_digit))
plain_first bytes (c ∷ first) rest tail at eb n =
    rw eb (form_plain c ((first ++ rest) ++ tail) at (digit_no_m c (All-head (λ byte. IsTrue (is_digit byte)) c first n.digits)))

plain_is_first : (word rest values : List ℕ) (at : ℕ) → AreParts plain_form word values → read_form (word ++ rest) at ≡ read_parts plain_form (word ++ rest) at
unfolding plain_form
plain_is_first word rest values at (first, others_word, own, others, eb, ev, (n, is), l) = plain_first word first others_word rest at eb n

named_is_first : (word rest values : List ℕ) (at : ℕ) → AreParts named_form word values → read_form (word ++ rest) at ≡ with_value 1 (read_parts named_form (word ++ rest) at)
unfolding named_form
named_is_first word rest values at (first, others_word, own, others, eb, ev, (is, none), l) =
    rw (eb, is) (form_named _ at)

form_complete : (word rest values : List ℕ) (at : ℕ) → IsForm word values → is_apart rest ≡ true → read_form (word ++ rest) at ≡ Ok (record { values = values; end = at + length word })
form_complete word rest values at (inl l) a = plain_is_first word rest values at l ∙ reads_plain.complete word rest values at l a
form_complete word rest values at (inr (others, ev, l)) a =
    named_is_first word rest others at l
    ∙ ap (λ (x : Reading). with_value 1 x) (reads_named.complete word rest others at l a)
    ∙ ap (λ (x : List ℕ). Ok (record { values = x; end = at + length word })) (sym ev)

named_local : (p : List ℕ) (b : ℕ) (u v : List ℕ) (at k : ℕ) → k ≡ at + length p → with_value 1 (read_parts named_form (p ++ b ∷ u) at) ≡ Err k → with_value 1 (read_parts named_form (p ++ b ∷ v) at) ≡ Err k
named_local p b u v at k o e =
    ap (λ (x : Reading). with_value 1 x) (reads_named.local p b u v at k o (with_value_err 1 (read_parts named_form (p ++ b ∷ u) at) k e))

form_local : (p : List ℕ) (b : ℕ) (u v : List ℕ) (at k : ℕ) → k ≡ at + length p → read_form (p ++ b ∷ u) at ≡ Err k → read_form (p ++ b ∷ v) at ≡ Err k
form_local [] b u v at k o e = elim (cases_Bool (eqb b 109)) [
  | inl w ↦ form_m b v at w ∙ named_local [] b u v at k o (sym (form_m b u at w) ∙ e)
  | inr d ↦ form_plain b v at d ∙ reads_plain.local [] b u v at k o (sym (form_plain b u at d) ∙ e)
]
form_local (c ∷ p) b u v at k o e = elim (cases_Bool (eqb c 109)) [
  | inl w ↦ form_m c (p ++ b ∷ v) at w ∙ named_local (c ∷ p) b u v at k o (sym (form_m c (p ++ b ∷ u) at w) ∙ e)
  | inr d ↦ form_plain c (p ++ b ∷ v) at d ∙ reads_plain.local (c ∷ p) b u v at k o (sym (form_plain c (p ++ b ∷ u) at d) ∙ e)
]

pub reads_form : Reads IsForm read_form
reads_form = record {
  some = (reads_plain.some.0, reads_plain.some.1, inl reads_plain.some.2);
  sound = form_sound;
  progress = form_progress;
  complete = form_complete;
  local = form_local;
}

dark_plain : IsDark (AreParts plain_form)
unfolding plain_form
dark_plain = dark_numeral _

dark_named : IsDark (AreParts named_form)
unfolding named_form is_white
dark_named = dark_word _ _ _ refl

dark_first : (word values : List ℕ) → IsForm word values → (c : ℕ) × (t : List ℕ) × (word ≡ c ∷ t) × (is_white c ≡ false)
dark_first word values (inl l) = dark_plain.first word values l
dark_first word values (inr (others, ev, l)) = dark_named.first word others l

pub dark_form : IsDark IsForm
dark_form = record { first = dark_first }

pub reads_header : Reads (Then Space IsForm) (read_space read_form)
reads_header = reads_space IsForm read_form reads_form dark_form
