-- Reading a header against the grammar: it is found where bytes begin with one, and where they don't the offset is that of
-- the first byte that does not fit.
use Rattle.std.proofs.Common.{◌≡◌, ℕ, suc, ◌+◌, ◌<◌, ◌≤◌, List, [], ◌∷◌, ◌++◌, length, take, drop, Ok, Err, refl, sym, ap, ap₂, subst, ◌∙◌, inl, inr, append_assoc, length-append, take-append-drop, take_at, zero-add, arith}
use Rattle.std.proofs.lemmas.Bool.{cases_lt}
use Rattle.std.proofs.lemmas.List.{take-append-le}
use Rattle.axe_file.specs.TextGrammar.{is_white, AreParts, Part, Space, Gap, Word, Numeral, plain_form, named_form, IsTextHeader, Headed, IsBeginning, HasBadHeader}
use Rattle.axe_file.specs.TextReading.{Found, Reading, read_space, read_form, read_header}
use Rattle.axe_file.proofs.TextParts.{Starts, Begins, Then}
use Rattle.axe_file.proofs.TextForms.{IsForm, reads_header}

-- ---- how many numbers a header has

-- how many numerals there are among the parts
abbrev pub numerals : List Part → ℕ
numerals [] = 0
numerals (Space ∷ parts) = numerals parts
numerals (Gap ∷ parts) = numerals parts
numerals (Word word ∷ parts) = numerals parts
numerals (Numeral ∷ parts) = suc (numerals parts)

one_each : (parts : List Part) (bytes values : List ℕ) → AreParts parts bytes values → length values ≡ numerals parts
one_each [] bytes values (eb, ev) = ap length ev
one_each (Space ∷ parts) bytes values (first, rest, own, others, eb, ev, (white, is), l) =
    ap length (ev ∙ ap (λ (x : List ℕ). x ++ others) is) ∙ one_each parts rest others l
one_each (Gap ∷ parts) bytes values (first, rest, own, others, eb, ev, (one, white, is), l) =
    ap length (ev ∙ ap (λ (x : List ℕ). x ++ others) is) ∙ one_each parts rest others l
one_each (Word word ∷ parts) bytes values (first, rest, own, others, eb, ev, (same, is), l) =
    ap length (ev ∙ ap (λ (x : List ℕ). x ++ others) is) ∙ one_each parts rest others l
one_each (Numeral ∷ parts) bytes values (first, rest, own, others, eb, ev, (n, is), l) =
    ap length (ev ∙ ap (λ (x : List ℕ). x ++ others) is) ∙ ap suc (one_each parts rest others l)

four_plain : (bytes values : List ℕ) → AreParts plain_form bytes values → length values ≡ 4
unfolding plain_form
four_plain bytes values l = one_each plain_form bytes values l

three_named : (bytes values : List ℕ) → AreParts named_form bytes values → length values ≡ 3
unfolding named_form
three_named bytes values l = one_each named_form bytes values l

four_numbers : (bytes values : List ℕ) → IsForm bytes values → length values ≡ 4
four_numbers bytes values (inl l) = four_plain bytes values l
four_numbers bytes values (inr (others, ev, l)) = ap length ev ∙ ap suc (three_named bytes others l)

in_four : (values : List ℕ) → length values ≡ 4 → (a : ℕ) × (b : ℕ) × (c : ℕ) × (d : ℕ) × (values ≡ a ∷ b ∷ c ∷ d ∷ [])
in_four [] e = absurd (omega (arith, e))
in_four (a ∷ []) e = absurd (omega (arith, e))
in_four (a ∷ b ∷ []) e = absurd (omega (arith, e))
in_four (a ∷ b ∷ c ∷ []) e = absurd (omega (arith, e))
in_four (a ∷ b ∷ c ∷ d ∷ []) e = (a, b, c, d, refl)
in_four (a ∷ b ∷ c ∷ d ∷ x ∷ xs) e = absurd (omega (arith, e))

four_of_header : (bytes values : List ℕ) → Then Space IsForm bytes values → length values ≡ 4
four_of_header bytes values (first, rest, own, others, eb, ev, (white, is), l) =
    ap length (ev ∙ ap (λ (x : List ℕ). x ++ others) is) ∙ four_numbers rest others l

-- ---- a header, and a form after white space

header_is_form : (bytes : List ℕ) (mode order rows columns : ℕ) → IsTextHeader bytes mode order rows columns → Then Space IsForm bytes (mode ∷ order ∷ rows ∷ columns ∷ [])
header_is_form bytes mode order rows columns (inl (first, rest, own, others, eb, ev, p, l)) = (first, rest, own, others, eb, ev, p, inl l)
header_is_form bytes mode order rows columns (inr (one, (first, rest, own, others, eb, ev, (white, is), l))) =
    let same : order ∷ rows ∷ columns ∷ [] ≡ others = ev ∙ ap (λ (x : List ℕ). x ++ others) is in
    (first, rest, [], 1 ∷ others, eb, ap₂ (λ (x : ℕ) (y : List ℕ). x ∷ y) one same, (white, refl), inr (others, refl, l))

form_is_header : (bytes : List ℕ) (mode order rows columns : ℕ) → Then Space IsForm bytes (mode ∷ order ∷ rows ∷ columns ∷ []) → IsTextHeader bytes mode order rows columns
form_is_header bytes mode order rows columns (first, rest, own, others, eb, ev, p, inl l) = inl (first, rest, own, others, eb, ev, p, l)
form_is_header bytes mode order rows columns (first, rest, own, others, eb, ev, (white, is), inr (three, eo, l)) =
    let whole : mode ∷ order ∷ rows ∷ columns ∷ [] ≡ 1 ∷ three = ev ∙ ap (λ (x : List ℕ). x ++ others) is ∙ eo in
    let one : mode ≡ 1 = cc in
    let same : order ∷ rows ∷ columns ∷ [] ≡ three = cc in
    inr (one, (first, rest, [], three, eb, same, (white, refl), l))

-- ---- where there is a header

-- what was found is the header that the bytes begin with
pub record FoundAt (bytes : List ℕ) (found : Found) : Type 0 where
  pub headed : Headed bytes
  pub values : found.values ≡ headed.mode ∷ headed.order ∷ headed.rows ∷ headed.columns ∷ []
  pub end : found.end ≡ length headed.header

pub header_is_found : (bytes : List ℕ) (h : Headed bytes) → read_header bytes ≡ Ok (record { values = h.mode ∷ h.order ∷ h.rows ∷ h.columns ∷ []; end = length h.header })
unfolding read_header
header_is_found bytes h =
    ap (λ (x : List ℕ). read_space read_form x 0) h.whole
    ∙ reads_header.complete h.header h.rest (h.mode ∷ h.order ∷ h.rows ∷ h.columns ∷ []) 0 (header_is_form h.header h.mode h.order h.rows h.columns h.is_header) h.apart
    ∙ ap (λ (n : ℕ). Ok (record { values = h.mode ∷ h.order ∷ h.rows ∷ h.columns ∷ []; end = n })) (zero-add (length h.header))

found_at : (bytes : List ℕ) (found : Found) (s : Starts (Then Space IsForm) bytes 0 found) (a b c d : ℕ) → found.values ≡ a ∷ b ∷ c ∷ d ∷ [] → FoundAt bytes found
found_at bytes found s a b c d e = record {
  headed = record {
    header = s.word;
    rest = s.rest;
    mode = a;
    order = b;
    rows = c;
    columns = d;
    whole = s.whole;
    is_header = form_is_header s.word a b c d (subst (λ (v : List ℕ). Then Space IsForm s.word v) e s.belongs);
    apart = s.apart;
  };
  values = e;
  end = s.end ∙ zero-add (length s.word);
}

pub found_is_header : (bytes : List ℕ) (found : Found) → read_header bytes ≡ Ok found → FoundAt bytes found
unfolding read_header
found_is_header bytes found e =
    let s = reads_header.sound bytes 0 found e in
    let four = in_four found.values (four_of_header s.word found.values s.belongs) in
    found_at bytes found s four.0 four.1 four.2 four.3 four.4

-- ---- where there is none

beginning_of : (bytes : List ℕ) (k j : ℕ) (s : Begins (Then Space IsForm) bytes 0 k) (a b c d : ℕ) → s.values ≡ a ∷ b ∷ c ∷ d ∷ [] → j < k → IsBeginning (take (j + 1) bytes)
unfolding is_white
beginning_of bytes k j s a b c d e lt =
    let within : j + 1 ≤ length s.front = omega (arith, s.offset) in
    let part : take (j + 1) bytes ≡ take (j + 1) s.front = ap (λ (x : List ℕ). take (j + 1) x) s.whole ∙ take-append-le (j + 1) s.front s.rest within in
    record {
      more = drop (j + 1) s.front ++ (s.more ++ 32 ∷ []);
      header = s.front ++ s.more;
      white = 32;
      mode = a;
      order = b;
      rows = c;
      columns = d;
      whole =
          ap (λ (x : List ℕ). x ++ (drop (j + 1) s.front ++ (s.more ++ 32 ∷ []))) part
          ∙ sym (append_assoc (take (j + 1) s.front) (drop (j + 1) s.front) (s.more ++ 32 ∷ []))
          ∙ ap (λ (x : List ℕ). x ++ (s.more ++ 32 ∷ [])) (take-append-drop (j + 1) s.front)
          ∙ sym (append_assoc s.front s.more (32 ∷ []));
      is_header = form_is_header (s.front ++ s.more) a b c d (subst (λ (v : List ℕ). Then Space IsForm (s.front ++ s.more) v) e s.belongs);
      is_space = refl;
    }

-- one byte further the bytes are no beginning of a header
stops_at : (front : List ℕ) (b : ℕ) (u : List ℕ) (k : ℕ) → k ≡ length front → read_header (front ++ b ∷ u) ≡ Err k → IsBeginning (front ++ b ∷ []) → ⊥
unfolding read_header
stops_at front b u k o e s =
    let fails : read_header (front ++ b ∷ s.more) ≡ Err k = reads_header.local front b u s.more 0 k (o ∙ sym (zero-add (length front))) e in
    let same : front ++ b ∷ s.more ≡ s.header ++ s.white ∷ [] = sym (append_assoc front (b ∷ []) s.more) ∙ s.whole in
    let whole : Headed (front ++ b ∷ s.more) = record { header = s.header; rest = s.white ∷ []; mode = s.mode; order = s.order; rows = s.rows; columns = s.columns; whole = same; is_header = s.is_header; apart = s.is_space } in
    absurd (cc (header_is_found (front ++ b ∷ s.more) whole, fails))

stops_in : (bytes : List ℕ) (k : ℕ) (front rest : List ℕ) → bytes ≡ front ++ rest → k ≡ length front → read_header bytes ≡ Err k → k < length bytes → IsBeginning (take (k + 1) bytes) → ⊥
stops_in bytes k front [] eb o e lt s =
    let len : length bytes ≡ length front + 0 = ap length eb ∙ length-append front [] in
    absurd (omega (arith, len, o, lt))
stops_in bytes k front (b ∷ u) eb o e lt s =
    let len : length (front ++ b ∷ []) ≡ k + 1 = length-append front (b ∷ []) ∙ omega (arith, o) in
    let part : take (k + 1) bytes ≡ front ++ b ∷ [] =
    ap (λ (x : List ℕ). take (k + 1) x) (eb ∙ sym (append_assoc front (b ∷ []) u)) ∙ take_at (front ++ b ∷ []) u (k + 1) len in
    stops_at front b u k o (ap read_header (sym eb) ∙ e) (subst IsBeginning part s)

pub bad_header : (bytes : List ℕ) (k : ℕ) → read_header bytes ≡ Err k → HasBadHeader bytes k
unfolding read_header
bad_header bytes k e =
    let s = reads_header.progress bytes 0 k e in
    let four = in_four s.values (four_of_header (s.front ++ s.more) s.values s.belongs) in
    let o : k ≡ length s.front = s.offset ∙ zero-add (length s.front) in
    let len : length bytes ≡ length s.front + length s.rest = ap length s.whole ∙ length-append s.front s.rest in
    record {
      no_header = λ h. absurd (cc (header_is_found bytes h, e));
      within = omega (arith, o, len);
      before = λ j lt. beginning_of bytes k j s four.0 four.1 four.2 four.3 four.4 lt;
      stops = λ lt b. stops_in bytes k s.front s.rest s.whole o e lt b;
    }

pub one_bad_header : (bytes : List ℕ) (j k : ℕ) → HasBadHeader bytes j → HasBadHeader bytes k → j < k → ⊥
one_bad_header bytes j k a b lt = a.stops (omega (arith, b.within)) (b.before j lt)

same_bad_header : (bytes : List ℕ) (j k : ℕ) → HasBadHeader bytes j → HasBadHeader bytes k → j ≡ k
same_bad_header bytes j k a b = elim (cases_lt j k) [
  | inl lt ↦ absurd (one_bad_header bytes j k a b lt)
  | inr le ↦ elim (cases_lt k j) [
    | inl lt ↦ absurd (one_bad_header bytes k j b a lt)
    | inr ge ↦ omega arith
  ]
]

only_bad_header_by : (bytes : List ℕ) (k : ℕ) (x : Reading) → read_header bytes ≡ x → HasBadHeader bytes k → read_header bytes ≡ Err k
only_bad_header_by bytes k (Ok found) e h = absurd (h.no_header (found_is_header bytes found e).headed)
only_bad_header_by bytes k (Err j) e h = e ∙ ap Err (same_bad_header bytes j k (bad_header bytes j e) h)

pub only_bad_header : (bytes : List ℕ) (k : ℕ) → HasBadHeader bytes k → read_header bytes ≡ Err k
only_bad_header bytes k h = only_bad_header_by bytes k (read_header bytes) refl h
