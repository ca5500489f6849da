-- What the readers of parts say.
use Rattle.std.proofs.Common.{◌≡◌, ◌≢◌, ℕ, ◌^◌, ◌<◌, Bool, true, false, not, List, ◌++◌, take, drop, decimal, Option, Some, None, Result, Ok, MatchOption, Decides, IsUtf8, refl, sym, ap, subst, ◌∙◌, take-append-drop}
use Rattle.std.specs.List.{prefix_len}
use Rattle.std.specs.Str.Parse.{ParsesUnsigned}
use Rattle.std.proofs.lemmas.Fmt.{parse-decimal, IsAscii-decimal}
use Rattle.std.proofs.lemmas.Str.{IsUtf8-from_ascii}
use Rattle.axe_report.specs.Fronts.{is_digit, Stops}
use Rattle.axe_report.proofs.Fronts.{front_is_prefix, prefix_stops, cancel_front}
use Rattle.axe_report.proofs.Numerals.{decimal_digits}

pub not_utf8 : (bs : List ℕ) (n : ℕ) → (IsUtf8 bs → ⊥) → n < 2 ^ 64 → bs ≡ decimal n → ⊥
not_utf8 bs n bad lt e = bad (subst (λ (l : List ℕ). IsUtf8 l) (sym e) (IsUtf8-from_ascii (decimal n) (IsAscii-decimal n lt)))

pub parsed_number : {E : Type 0} (bs text : List ℕ) (n : ℕ) (r : Result ℕ E) → text ≡ bs → ParsesUnsigned 64 10 text r → n < 2 ^ 64 → bs ≡ decimal n → r ≡ Ok n
parsed_number bs text n r t p lt e = parse-decimal 64 n text r lt lt (t ∙ e) p

-- the digits at the front are no number, so no number is there
pub no_number : (text digits : List ℕ) (k n : ℕ) (rest : List ℕ) → k ≡ prefix_len is_digit text → digits ≡ take k text → ((m : ℕ) → m < 2 ^ 64 → digits ≢ decimal m)
    → n < 2 ^ 64 → Stops is_digit rest → text ≢ decimal n ++ rest
no_number text digits k n rest count e none lt stops whole =
    let front = front_is_prefix is_digit text (decimal n) rest (decimal_digits n lt) stops whole in
    none n lt (e ∙ ap (λ (i : ℕ). take i text) count ∙ front.0)

pub number_there : (text digits left : List ℕ) (k n : ℕ) → k ≡ prefix_len is_digit text → digits ≡ take k text → left ≡ drop k text → digits ≡ decimal n
    → (text ≡ decimal n ++ left) × Stops is_digit left
number_there text digits left k n count front back e = (
  sym (take-append-drop k text) ∙ ap (λ (l : List ℕ). l ++ drop k text) (sym front ∙ e) ∙ ap (λ (l : List ℕ). decimal n ++ l) (sym back),
  subst (λ (l : List ℕ). Stops is_digit l) (sym (back ∙ ap (λ (i : ℕ). drop i text) count)) (prefix_stops is_digit text),
)

-- a number after a word
pub setting_from : {T : Type 0} (number : T → ℕ) (left : T → List ℕ) (r : Option T) (text word rest : List ℕ) → text ≡ word ++ rest
    → MatchOption r ((n : ℕ) (x : List ℕ) → n < 2 ^ 64 → Stops is_digit x → rest ≢ decimal n ++ x) (λ found. (rest ≡ decimal (number found) ++ left found) × Stops is_digit (left found))
    → MatchOption r ((n : ℕ) (x : List ℕ) → n < 2 ^ 64 → Stops is_digit x → text ≢ word ++ (decimal n ++ x)) (λ found. (text ≡ word ++ (decimal (number found) ++ left found)) × Stops is_digit (left found))
setting_from number left None text word rest e h = λ n x lt stops whole. h n x lt stops (cancel_front word rest (decimal n ++ x) (sym e ∙ whole))
setting_from number left (Some found) text word rest e h = (e ∙ ap (λ (l : List ℕ). word ++ l) h.0, h.1)

not_not : (b : Bool) → not b ≡ false → b ≡ true
not_not true e = refl
not_not false e = absurd cc

-- a test for equality, as the code's comparisons give it
pub differ : (a b : List ℕ) (p r : Bool) → Decides p (a ≡ b) → r ≡ not p → r ≡ true → a ≡ b → ⊥
differ a b p r d says t e =
    let yes : p ≡ true = d.1 e in
    let other : r ≡ false = says ∙ ap not yes in
    absurd (cc (other, t))

pub same : (a b : List ℕ) (p r : Bool) → Decides p (a ≡ b) → r ≡ not p → r ≡ false → a ≡ b
same a b p r d says f = d.0 (not_not p (sym says ∙ f))
