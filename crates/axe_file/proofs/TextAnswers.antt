-- What a reader of texts answers, from the first fault that reading from left to right finds.
use Rattle.std.proofs.Common.{◌≡◌, ℕ, ◌≤◌, List, [], ◌∷◌, length, ◌⊎◌, Option, Some, None, Result, Ok, Err, IfOk, IfErr, refl, sym, subst, ◌∙◌, inl, inr, arith}
use Rattle.std.specs.Prelude.{All}
use Rattle.std.specs.List.{filter}
use Rattle.axe_field.specs.Order.{Order}
use Rattle.axe_matrix.specs.Matrices.{MatrixValue, IsMatrix}
use Rattle.axe_file.specs.Answers.{AnswersFile}
use Rattle.axe_file.specs.TextGrammar.{is_dark, IsTextOf, IsTextFault}
use Rattle.axe_file.specs.TextReading.{header_fault, digits_fault, text_fault, text_matrix}
use Rattle.axe_file.specs.declared.fault.FileFault.{FileFault}
use Rattle.axe_file.specs.declared.fault.FileFault.TheVariants.{Memory}
use Rattle.axe_file.proofs.TextDigits.{faultless_digits}
use Rattle.axe_file.proofs.TextRows.{IsDigitOf, dark_digits}
use Rattle.axe_file.proofs.TextNumbers.{AreAllowed, cases_header}
use Rattle.axe_file.proofs.TextTexts.{text_fault_is, faultless_is_text, text_is_faultless, text_is_of_this}

-- the answer of a reader
abbrev pub IsAnswer : List ℕ → Result MatrixValue FileFault → Type 0
IsAnswer bytes r = AnswersFile (text_fault bytes) (λ m. m ≡ text_matrix bytes) r

text_by : (bytes : List ℕ) (x : Option FileFault) (r : Result MatrixValue FileFault) → text_fault bytes ≡ x → AnswersFile x (λ m. m ≡ text_matrix bytes) r → IfOk r (λ m. IsTextOf bytes m)
text_by bytes (Some f) (Ok m) e a = absurd (cc)
text_by bytes (Some f) (Err g) e a = tt
text_by bytes None (Ok m) e a = subst (λ (x : MatrixValue). IsTextOf bytes x) (sym a) (faultless_is_text bytes e)
text_by bytes None (Err g) e a = tt

pub text_answered : (bytes : List ℕ) (r : Result MatrixValue FileFault) → IsAnswer bytes r → IfOk r (λ m. IsTextOf bytes m)
text_answered bytes r a = text_by bytes (text_fault bytes) r refl a

fault_by : (bytes : List ℕ) (x : Option FileFault) (r : Result MatrixValue FileFault) → text_fault bytes ≡ x → AnswersFile x (λ m. m ≡ text_matrix bytes) r
    → IfErr r (λ fault. IsTextFault bytes fault ⊎ ((fault ≡ Memory) × (m : MatrixValue) × IsTextOf bytes m))
fault_by bytes (Some f) (Ok m) e a = absurd (cc)
fault_by bytes (Some f) (Err g) e a =
    let same : g ≡ f = cc in
    inl (subst (λ (x : FileFault). IsTextFault bytes x) (sym same) (text_fault_is bytes f e))
fault_by bytes None (Ok m) e a = tt
fault_by bytes None (Err g) e a = inr (a, text_matrix bytes, faultless_is_text bytes e)

pub fault_answered : (bytes : List ℕ) (r : Result MatrixValue FileFault) → IsAnswer bytes r → IfErr r (λ fault. IsTextFault bytes fault ⊎ ((fault ≡ Memory) × (m : MatrixValue) × IsTextOf bytes m))
fault_answered bytes r a = fault_by bytes (text_fault bytes) r refl a

pub matrix_answered : (bytes : List ℕ) (r : Result MatrixValue FileFault) → IsAnswer bytes r → IfOk r (λ m. IsMatrix m)
matrix_answered bytes (Ok m) a =
    let t : IsTextOf bytes m = text_answered bytes (Ok m) a in
    t.matrix
matrix_answered bytes (Err g) a = tt

pub only_answered : (bytes : List ℕ) (a : MatrixValue) (r : Result MatrixValue FileFault) → IsTextOf bytes a → IsAnswer bytes r → AnswersFile None (λ m. m ≡ a) r
only_answered bytes a (Ok m) t h =
    let read : m ≡ text_matrix bytes = subst (λ (x : Option FileFault). AnswersFile x (λ y. y ≡ text_matrix bytes) (Ok m)) (text_is_faultless bytes a t) h in
    read ∙ text_is_of_this bytes a t
only_answered bytes a (Err g) t h = subst (λ (x : Option FileFault). AnswersFile x (λ (y : MatrixValue). y ≡ text_matrix bytes) (Err g)) (text_is_faultless bytes a t) h

-- ---- after a header without fault

pub allowed_if_faultless : (m n r c : ℕ) → header_fault (m ∷ n ∷ r ∷ c ∷ []) ≡ None → (o : Order) × AreAllowed m n r c o
allowed_if_faultless m n r c e = elim (cases_header m n r c) [
  | inl (f, is, says) ↦ absurd (cc)
  | inr (o, none, a) ↦ (o, a)
]

pub digits_left : (q w : ℕ) (bytes : List ℕ) (at : ℕ) → digits_fault q w bytes at ≡ None → All (IsDigitOf q) (filter is_dark bytes)
digits_left q w bytes at e = dark_digits q bytes (faultless_digits q w bytes at e).fit

pub enough_left : (q w : ℕ) (bytes : List ℕ) (at : ℕ) → digits_fault q w bytes at ≡ None → w ≤ length (filter is_dark bytes)
enough_left q w bytes at e = omega (arith, (faultless_digits q w bytes at e).counted)
