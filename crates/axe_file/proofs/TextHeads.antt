-- The parts of the two forms of a header, as the code reads them.
use Rattle.std.proofs.Common.{◌≡◌, ℕ, ◌+◌, ◌<◌, ◌≤◌, List, [], ◌∷◌, length, drop, get_or, Result, Ok, Err, IfOk, refl, sym, ap, ◌∙◌, eq-eqb, ne_eqb, zero-add}
use Rattle.std.specs.Prelude.{codes}
use Rattle.std.specs.List.{prefix_len}
use Rattle.std.proofs.lemmas.List.{drop_more, drop_all}
use Rattle.axe_file.specs.TextGrammar.{is_white, Part, Gap, Word, Numeral, plain_form, named_form}
use Rattle.axe_file.specs.TextReading.{GoesOn, Reading, with_value, read_gap, read_word, read_numeral, read_parts, read_form, read_header}
use Rattle.axe_file.specs.declared.fault.FileFault.{FileFault}
use Rattle.axe_file.specs.declared.text_header.TextHeader.{TextHeader}
use Rattle.axe_file.proofs.TextForms.{form_m, form_plain, form_none}
use Rattle.axe_file.proofs.TextScans.{space_is_front}
use Rattle.axe_file.proofs.TextNumerals.{valued}

-- white space and a numeral, and then more parts
abbrev pub more_numeral : List Part → List Part
more_numeral parts = Gap ∷ Numeral ∷ parts

-- white space, a name and a numeral, and then more parts
abbrev pub more_named : List ℕ → List Part → List Part
more_named name parts = Gap ∷ Word name ∷ Numeral ∷ parts

-- what comes after the numbers of a header of four numerals
abbrev pub after_mode : List Part
after_mode = more_numeral (more_numeral (more_numeral []))

abbrev pub after_order : List Part
after_order = more_numeral (more_numeral [])

abbrev pub after_rows : List Part
after_rows = more_numeral []

-- what comes after the word and the numbers of a header with names
abbrev pub after_word : List Part
after_word = more_named (codes "field=") (more_named (codes "rows=") (more_named (codes "cols=") []))

abbrev pub after_named_order : List Part
after_named_order = more_named (codes "rows=") (more_named (codes "cols=") [])

abbrev pub after_named_rows : List Part
after_named_rows = more_named (codes "cols=") []

pub plain_parts : (bytes : List ℕ) (at : ℕ) → read_parts plain_form bytes at ≡ read_numeral (valued (read_parts after_mode)) bytes at
unfolding read_parts plain_form
plain_parts bytes at = refl

pub named_parts : (bytes : List ℕ) (at : ℕ) → read_parts named_form bytes at ≡ read_word (codes "matrix") (read_parts after_word) bytes at
unfolding read_parts named_form
named_parts bytes at = refl

pub numeral_parts : (parts : List Part) (bytes : List ℕ) (at : ℕ) → read_parts (more_numeral parts) bytes at ≡ read_gap (read_word [] (read_numeral (valued (read_parts parts)))) bytes at
unfolding read_parts read_word
numeral_parts parts bytes at = refl

pub setting_parts : (name : List ℕ) (parts : List Part) (bytes : List ℕ) (at : ℕ) → read_parts (more_named name parts) bytes at ≡ read_gap (read_word name (read_numeral (valued (read_parts parts)))) bytes at
unfolding read_parts
setting_parts name parts bytes at = refl

-- ---- the white space before a header, and its form

pub front_of_header : (bytes : List ℕ) (start : ℕ) → start ≡ 0 + prefix_len is_white (drop 0 bytes) → read_header bytes ≡ read_form (drop start bytes) start
unfolding read_header
front_of_header bytes start e =
    let place = zero-add (prefix_len is_white bytes) in
    space_is_front read_form bytes 0
    ∙ ap (λ (n : ℕ). read_form (drop (prefix_len is_white bytes) bytes) n) place
    ∙ ap (λ (n : ℕ). read_form (drop n bytes) n) (sym (e ∙ place))

pub named_at : (bytes : List ℕ) (start : ℕ) → start ≡ 0 + prefix_len is_white (drop 0 bytes) → start < length bytes → get_or bytes start 0 ≡ 109 → read_header bytes ≡ with_value 1 (read_parts named_form (drop start bytes) start)
named_at bytes start e lt m =
    front_of_header bytes start e
    ∙ ap (λ (x : List ℕ). read_form x start) (drop_more bytes start 0 lt)
    ∙ form_m (get_or bytes start 0) (drop (start + 1) bytes) start (eq-eqb _ _ m)
    ∙ ap (λ (x : List ℕ). with_value 1 (read_parts named_form x start)) (sym (drop_more bytes start 0 lt))

pub plain_at : (bytes : List ℕ) (start : ℕ) → start ≡ 0 + prefix_len is_white (drop 0 bytes) → start < length bytes → (get_or bytes start 0 ≡ 109 → ⊥) → read_header bytes ≡ read_parts plain_form (drop start bytes) start
plain_at bytes start e lt m =
    front_of_header bytes start e
    ∙ ap (λ (x : List ℕ). read_form x start) (drop_more bytes start 0 lt)
    ∙ form_plain (get_or bytes start 0) (drop (start + 1) bytes) start (ne_eqb _ _ m)
    ∙ ap (λ (x : List ℕ). read_parts plain_form x start) (sym (drop_more bytes start 0 lt))

pub plain_at_end : (bytes : List ℕ) (start : ℕ) → start ≡ 0 + prefix_len is_white (drop 0 bytes) → length bytes ≤ start → read_header bytes ≡ read_parts plain_form (drop start bytes) start
plain_at_end bytes start e le =
    front_of_header bytes start e
    ∙ ap (λ (x : List ℕ). read_form x start) (drop_all start bytes le)
    ∙ form_none start
    ∙ ap (λ (x : List ℕ). read_parts plain_form x start) (sym (drop_all start bytes le))

-- what a header of mode 1 says, from what the form with names says
pub named_means : (r : Result TextHeader FileFault) (x y : Reading) → x ≡ with_value 1 y → IfOk r (λ h. h.mode ≡ 1)
    → GoesOn r y (λ h. Ok (record { values = h.order ∷ h.rows ∷ h.columns ∷ []; end = h.end })) → GoesOn r x (λ h. Ok (record { values = h.mode ∷ h.order ∷ h.rows ∷ h.columns ∷ []; end = h.end }))
named_means (Ok h) x y e one read =
    e ∙ ap (λ (z : Reading). with_value 1 z) read ∙ ap (λ (n : ℕ). Ok (record { values = n ∷ h.order ∷ h.rows ∷ h.columns ∷ []; end = h.end })) (sym one)
named_means (Err fault) x y e one (k, f, read) = (k, f, e ∙ ap (λ (z : Reading). with_value 1 z) read)
