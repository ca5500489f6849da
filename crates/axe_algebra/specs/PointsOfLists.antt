-- The points of a space that is given by a basis: one vector of each subspace of dimension 1 (any text on projective
-- geometry).
use Rattle.std.specs.Prelude.{ℕ, ◌==◌, ◌^◌, Bool, false, List, [], ◌∷◌, map, length, if◌then◌else◌}
use Rattle.std.specs.List.{filter}
use Rattle.axe_algebra.specs.NumberField.{NumberField}
use Rattle.axe_algebra.specs.Lists.{listed}
use Rattle.axe_algebra.specs.ListArithmetic.{combination}
use Rattle.axe_algebra.specs.Digits.{digits}

-- the first nonzero entry is 1
unfoldable pub leads_with_one : List ℕ → Bool
leads_with_one [] = false
leads_with_one (entry ∷ rest) = if entry == 0 then leads_with_one rest else entry == 1

-- the coordinates of the points of a space of dimension m over q elements: the lists of m numbers below q whose first
-- nonzero entry is 1, in ascending order as numbers in base q, first coordinate most significant
unfoldable pub point_coordinates : ℕ → ℕ → List (List ℕ)
point_coordinates q m = filter leads_with_one (listed (q ^ m) (digits q m))

-- the points of the span of a basis whose rows have so many columns: its combinations with these coordinates, in order
-- (Holt and Rees 1994 take the reduced basis)
unfoldable pub points : NumberField → ℕ → List (List ℕ) → List (List ℕ)
points K columns basis =
    map (λ coordinates. combination K columns coordinates basis) (point_coordinates K.order (length basis))
