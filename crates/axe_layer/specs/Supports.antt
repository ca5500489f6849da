-- The support of a list of numbers: the places of those other than 0.
use Rattle.std.specs.Prelude.{◌≡◌, ◌↔◌, ℕ, ◌+◌, ◌*◌, ◌<◌, ◌≤◌, List, length, slice_index, cond, eqb}
use Rattle.std.specs.Int.{bit_at}
use Rattle.axe_algebra.specs.Lists.{listed}
use Rattle.axe_lane.specs.Entries.{IsNextNonzero}

-- a list of numbers restricted to the support of another: its entries at the places where that is not 0, and 0 at all
-- others
unfoldable pub restricted : List ℕ → List ℕ → List ℕ
restricted support entries =
    listed (length entries) (λ i. cond (eqb (slice_index support i) 0) 0 (slice_index entries i))

-- word k of the support of a list: its bit i is 0 exactly where the number at 64 k + i is 0 or missing
abbrev pub IsSupportWord : List ℕ → ℕ → ℕ → Type 0
IsSupportWord numbers k word = (i : ℕ) → i < 64 → (bit_at word i ≡ 0) ↔ (slice_index numbers (k * 64 + i) ≡ 0)

-- the next four numbers other than 0 from `start` on are those at these indices
pub record AreNextFour (numbers : List ℕ) (start : ℕ) (four : List ℕ) : Type 0 where
  pub first : IsNextNonzero numbers start (slice_index four 0)
  pub second : IsNextNonzero numbers (slice_index four 0 + 1) (slice_index four 1)
  pub third : IsNextNonzero numbers (slice_index four 1 + 1) (slice_index four 2)
  pub fourth : IsNextNonzero numbers (slice_index four 2 + 1) (slice_index four 3)

-- the next four numbers other than 0 from `start` on, if there are, do not all stand before `end`
abbrev pub AreFewerThanFour : List ℕ → ℕ → ℕ → Type 0
AreFewerThanFour numbers start end = (four : List ℕ) → AreNextFour numbers start four → end ≤ slice_index four 3
