-- Lists in arrays, the places after the last entry filled up: one more entry.
use Rattle.std.proofs.Common.{◌≡◌, ℕ, suc, ◌+◌, ◌-◌, ◌<◌, ◌≤◌, ◌≢◌, List, [], ◌∷◌, ◌++◌, length, take, set, replicate, sym, ap, ◌∙◌, subst, arith, append_assoc, length-append}
use Rattle.std.proofs.Math.Seq.{set-append_seam, take-append_seam}
use Rattle.std.proofs.lemmas.List.Elements.{All-push}
use Rattle.axe_word.specs.Limits.{most_terms, most_numbers}
use Rattle.axe_word.specs.declared.stored.StoredTerm.TheInside.{Inside as TermInside}
use Rattle.axe_word.specs.declared.word.Word.TheInside.{Inside as WordInside}
use Rattle.axe_word.specs.Words.{WordValue, IsWord}
use Rattle.axe_word.specs.Stored.{filled_up, IsStoredTerm}
use Rattle.axe_word.specs.StoredWords.{IsStoredWord}

-- the entries stand first
pub take-filled_up : {A : Type 0} (places : ℕ) (filler : A) (entries : List A) → take (length entries) (filled_up places filler entries) ≡ entries
take-filled_up places filler entries = take-append_seam entries (replicate (places - length entries) filler)

-- what is written after them is one more
pub set-filled_up : {A : Type 0} (places : ℕ) (filler : A) (entries : List A) (entry : A) → length entries < places →
    set (filled_up places filler entries) (length entries) entry ≡ filled_up places filler (entries ++ entry ∷ [])
set-filled_up places filler entries entry room =
    ap (λ n. set (entries ++ replicate n filler) (length entries) entry) more
    ∙ set-append_seam entries filler (replicate left filler) entry
    ∙ sym (append_assoc entries (entry ∷ []) (replicate left filler))
  where
    left : ℕ
    left = places - length (entries ++ entry ∷ [])

    more : places - length entries ≡ suc left
    more = omega (arith, length-append entries (entry ∷ []))

-- an array of so many places with the entries first is one that holds one more
pub record IsPushed {A : Type 0} (places : ℕ) (filler : A) (len : ℕ) (array : List A) (entry : A) : Type 0 where
  pub view : take (len + 1) (set array len entry) ≡ take len array ++ entry ∷ []
  pub filled : set array len entry ≡ filled_up places filler (take len array ++ entry ∷ [])
  pub count : len + 1 ≡ length (take len array ++ entry ∷ [])

pub pushed : {A : Type 0} (places : ℕ) (filler : A) (len : ℕ) (array : List A) (entry : A) → len ≡ length (take len array) →
    array ≡ filled_up places filler (take len array) → len < places → IsPushed places filler len array entry
pushed places filler len array entry count filled room = record { view = view; filled = after; count = more }
  where
    after : set array len entry ≡ filled_up places filler (take len array ++ entry ∷ [])
    after =
        ap (λ a. set a len entry) filled ∙ ap (λ n. set (filled_up places filler (take len array)) n entry) count
        ∙ set-filled_up places filler (take len array) entry (omega arith)

    more : len + 1 ≡ length (take len array ++ entry ∷ [])
    more = omega (arith, length-append (take len array) (entry ∷ []))

    view : take (len + 1) (set array len entry) ≡ take len array ++ entry ∷ []
    view = ap (take (len + 1)) after ∙ ap (λ n. take n (filled_up places filler (take len array ++ entry ∷ []))) more
        ∙ take-filled_up places filler (take len array ++ entry ∷ [])

-- a stored term with one more number
pub IsStoredTerm-push : (a : TermInside) (number : ℕ) → IsStoredTerm a → length (take a.len a.places) < most_numbers →
    IsStoredTerm (record { coefficient = a.coefficient; len = a.len + 1; places = set a.places a.len number })
IsStoredTerm-push a number h room =
    let count : a.len ≡ length (take a.len a.places) = ap (λ (x : TermInside). x.len) h.filled in
    let p = pushed most_numbers 0 a.len a.places number count (ap (λ (x : TermInside). x.places) h.filled) (omega arith) in
    record {
      fits = omega arith;
      filled = λ i. record {
        coefficient = a.coefficient;
        len = (p.count ∙ ap (λ (xs : List ℕ). length xs) (sym p.view)) i;
        places = (p.filled ∙ ap (filled_up most_numbers 0) (sym p.view)) i;
      };
    }

-- a word with one more term
pub IsWord-push : (word : WordValue) (term : ℕ × List ℕ) → IsWord word → length word < most_terms → term.0 ≢ 0 → length term.1 ≤ most_numbers →
    IsWord (word ++ term ∷ [])
IsWord-push word term h room nonzero fits = record {
  terms_fit = omega (arith, length-append word (term ∷ []));
  coefficients = All-push (λ (t : ℕ × List ℕ). t.0 ≢ 0) word term h.coefficients nonzero;
  numbers_fit = All-push (λ (t : ℕ × List ℕ). length t.1 ≤ most_numbers) word term h.numbers_fit fits;
}

-- a stored word with one more term
pub IsStoredWord-push : (a : WordInside) (term : ℕ × List ℕ) → IsStoredWord a → length (take a.len a.terms) < most_terms → term.0 ≢ 0 →
    length term.1 ≤ most_numbers → IsStoredWord (record { len = a.len + 1; terms = set a.terms a.len term })
IsStoredWord-push a term h room nonzero fits =
    let count : a.len ≡ length (take a.len a.terms) = ap (λ (x : WordInside). x.len) h.filled in
    let p = pushed most_terms (0, []) a.len a.terms term count (ap (λ (x : WordInside). x.terms) h.filled) (omega arith) in
    record {
      well_formed = subst IsWord (sym p.view) (IsWord-push (take a.len a.terms) term h.well_formed room nonzero fits);
      filled = λ i. record {
        len = (p.count ∙ ap (λ (xs : WordValue). length xs) (sym p.view)) i;
        terms = (p.filled ∙ ap (filled_up most_terms (0, [])) (sym p.view)) i;
      };
    }
