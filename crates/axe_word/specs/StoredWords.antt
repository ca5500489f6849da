-- What a word holds: its terms in an array, with the places after the last one filled up.
use Rattle.std.specs.Prelude.{◌≡◌, [], length, take}
use Rattle.axe_word.specs.Limits.{most_terms}
use Rattle.axe_word.specs.declared.word.Word.TheInside.{Inside}
use Rattle.axe_word.specs.Words.{WordValue, IsWord}
use Rattle.axe_word.specs.Stored.{filled_up}

-- the word that is stored
abbrev pub stored_word : Inside → WordValue
stored_word a = take a.len a.terms

-- what is stored of a word: the places after its last term have the coefficient 0 and no numbers
abbrev pub word_inside : WordValue → Inside
word_inside word = record { len = length word; terms = filled_up most_terms (0, []) word }

-- it is a word, and the places after its terms are filled up
pub record IsStoredWord (a : Inside) : Type 0 where
  pub well_formed : IsWord (stored_word a)
  pub filled : a ≡ word_inside (stored_word a)
