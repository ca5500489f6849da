-- What a stored term and a stored word hold: lists in arrays, with the places after the last entry filled up.
use Rattle.std.specs.Prelude.{◌≡◌, ℕ, ◌-◌, ◌≤◌, List, ◌++◌, length, replicate, take}
use Rattle.axe_word.specs.Limits.{most_numbers}
use Rattle.axe_word.specs.declared.stored.StoredTerm.TheInside.{Inside as TermInside}

-- a list in an array of so many places, the ones after its last entry filled up
abbrev pub filled_up : {A : Type 0} → ℕ → A → List A → List A
filled_up places filler entries = entries ++ replicate (places - length entries) filler

-- the term that is stored
abbrev pub stored_term : TermInside → ℕ × List ℕ
stored_term a = (a.coefficient, take a.len a.places)

-- what is stored of a term
abbrev pub term_inside : ℕ × List ℕ → TermInside
term_inside term = record { coefficient = term.0; len = length term.1; places = filled_up most_numbers 0 term.1 }

-- the numbers fit, and the places after them are 0
pub record IsStoredTerm (a : TermInside) : Type 0 where
  pub fits : a.len ≤ most_numbers
  pub filled : a ≡ term_inside (stored_term a)
