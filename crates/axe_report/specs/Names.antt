-- Names of constituents: the dimension, and letters that tell apart the constituents of one dimension.
use Rattle.std.specs.Prelude.{ℕ, zero, suc, ◌+◌, ◌==◌, if◌then◌else◌, List, [], ◌∷◌, ◌++◌, reverse, count_by, decimal}

-- the letters after these, both written from the last letter to the first: the last letter goes on by one; z (122)
-- becomes a (97), and then the letters before it go on, where there are none by one letter more
abbrev pub next_letters : List ℕ → List ℕ
next_letters [] = 97 ∷ []
next_letters (letter ∷ before) = if letter == 122 then 97 ∷ next_letters before else (letter + 1) ∷ before

-- letters number k, from the last letter to the first: number 0 is a, and each number has the letters after those of
-- the number before
unfoldable pub letters_backwards : ℕ → List ℕ
letters_backwards zero = 97 ∷ []
letters_backwards (suc k) = next_letters (letters_backwards k)

-- letters number k: a to z, then aa to az, ba and so on (the MeatAxe's names of constituents, as 2a, 2b)
unfoldable pub letters : ℕ → List ℕ
letters k = reverse (letters_backwards k)

-- the name of a constituent: its dimension, and the letters for its number among those of this dimension, from 0 on
unfoldable pub constituent_name : ℕ → ℕ → List ℕ
constituent_name dim number = decimal dim ++ letters number

-- how many of the dimensions are this one
unfoldable pub count_of : ℕ → List ℕ → ℕ
count_of dim dims = count_by (λ other. other == dim) dims

-- the names of constituents with these dimensions, which come after some with earlier dimensions
unfoldable pub names_after : List ℕ → List ℕ → List (List ℕ)
names_after earlier [] = []
names_after earlier (dim ∷ dims) =
    constituent_name dim (count_of dim earlier) ∷ names_after (earlier ++ dim ∷ []) dims

-- the names of constituents with these dimensions, in order of first appearance: each has its dimension and the next
-- letters for this dimension
unfoldable pub names_of : List ℕ → List (List ℕ)
names_of dims = names_after [] dims
