-- The numbers of pieces of bits, by bytes at whose front the pieces stand with their bits in the opposite order.
use Rattle.std.proofs.Common.{◌≡◌, ℕ, zero, suc, ◌+◌, ◌-◌, ◌*◌, ◌/◌, ◌%◌, ◌^◌, ◌<◌, ◌≤◌, List, [], ◌∷◌, Bool, true, ◌&&◌, eqb, get_or, refl, sym, ap, subst, ◌∙◌, arith, inl, inr}
use Rattle.std.specs.Int.{bit_at}
use Rattle.std.proofs.lemmas.Bool.{and_parts, cases_eq, eqb-true}
use Rattle.std.proofs.lemmas.Nat.{shr-shr}
use Rattle.axe_layer.specs.Packed.{number_of_piece}
use Rattle.axe_layer.proofs.PieceBits.{number_of_listed}
use Rattle.axe_layer.proofs.PieceDigits.{with_values, with_values-same}

-- the front of a byte is the number of its most significant bits
front_number : (byte size : ℕ) → byte < 256 → size ≤ 8 → byte / 2 ^ (8 - size) ≡ with_values 2 (λ j. bit_at byte (7 - j)) size
front_number byte zero small few = omega (arith, small)
front_number byte (suc n) small few =
    let here : 8 - suc n ≡ 7 - n = omega arith in
    let before : 7 - n + 1 ≡ 8 - n = omega (arith, few) in
    let half : byte / 2 ^ (7 - n) / 2 ^ 1 ≡ byte / 2 ^ (8 - n) = shr-shr byte (7 - n) 1 ∙ ap (λ k. byte / 2 ^ k) before in
    let parts : byte / 2 ^ (7 - n) ≡ byte / 2 ^ (7 - n) / 2 ^ 1 * 2 + byte / 2 ^ (7 - n) % 2 = omega arith in
    ap (λ k. byte / 2 ^ k) here ∙ parts
    ∙ ap (λ x. x * 2 + byte / 2 ^ (7 - n) % 2) (half ∙ front_number byte n small (omega (arith, few)))

-- the front of a byte that was turned is the number of the bits of a word that it had
pub number_of_turned : (word from size byte turned number : ℕ) → ((j : ℕ) → j < 8 → bit_at byte j ≡ bit_at word (from + j)) →
    ((j : ℕ) → j < 8 → bit_at turned j ≡ bit_at byte (7 - j)) → number ≡ turned → turned < 256 → size ≤ 8 →
    number / 2 ^ (8 - size) ≡ number_of_piece word from size
number_of_turned word from size byte turned number bits is same small few =
    front_number number size (omega (arith, same, small)) few
    ∙ with_values-same 2 _ (λ j. bit_at word (from + j)) size (λ j below.
    let low : j < 8 = omega (arith, below, few) in
    let back : 7 - (7 - j) ≡ j = omega (arith, low) in
    ap (λ b. bit_at b (7 - j)) same ∙ is (7 - j) (omega arith) ∙ ap (bit_at byte) back ∙ bits j low)
    ∙ sym (number_of_listed 2 (λ j. bit_at word (from + j)) size)

pub front_small : (byte size : ℕ) → byte < 256 → byte / 2 ^ (8 - size) < 256
front_small byte size small = omega (arith, small)

-- ---- the table of the bytes with their bits in the opposite order

abbrev pub turned_bytes : List ℕ
turned_bytes =
    0 ∷ 128 ∷ 64 ∷ 192 ∷ 32 ∷ 160 ∷ 96 ∷ 224 ∷ 16 ∷ 144 ∷ 80 ∷ 208 ∷ 48 ∷ 176 ∷ 112 ∷ 240 ∷ 8 ∷ 136 ∷ 72 ∷ 200 ∷ 40 ∷
    168 ∷ 104 ∷ 232 ∷ 24 ∷ 152 ∷ 88 ∷ 216 ∷ 56 ∷ 184 ∷ 120 ∷ 248 ∷ 4 ∷ 132 ∷ 68 ∷ 196 ∷ 36 ∷ 164 ∷ 100 ∷ 228 ∷ 20 ∷
    148 ∷ 84 ∷ 212 ∷ 52 ∷ 180 ∷ 116 ∷ 244 ∷ 12 ∷ 140 ∷ 76 ∷ 204 ∷ 44 ∷ 172 ∷ 108 ∷ 236 ∷ 28 ∷ 156 ∷ 92 ∷ 220 ∷ 60 ∷
    188 ∷ 124 ∷ 252 ∷ 2 ∷ 130 ∷ 66 ∷ 194 ∷ 34 ∷ 162 ∷ 98 ∷ 226 ∷ 18 ∷ 146 ∷ 82 ∷ 210 ∷ 50 ∷ 178 ∷ 114 ∷ 242 ∷ 10 ∷ 138
    ∷ 74 ∷ 202 ∷ 42 ∷ 170 ∷ 106 ∷ 234 ∷ 26 ∷ 154 ∷ 90 ∷ 218 ∷ 58 ∷ 186 ∷ 122 ∷ 250 ∷ 6 ∷ 134 ∷ 70 ∷ 198 ∷ 38 ∷ 166 ∷
    102 ∷ 230 ∷ 22 ∷ 150 ∷ 86 ∷ 214 ∷ 54 ∷ 182 ∷ 118 ∷ 246 ∷ 14 ∷ 142 ∷ 78 ∷ 206 ∷ 46 ∷ 174 ∷ 110 ∷ 238 ∷ 30 ∷ 158 ∷
    94 ∷ 222 ∷ 62 ∷ 190 ∷ 126 ∷ 254 ∷ 1 ∷ 129 ∷ 65 ∷ 193 ∷ 33 ∷ 161 ∷ 97 ∷ 225 ∷ 17 ∷ 145 ∷ 81 ∷ 209 ∷ 49 ∷ 177 ∷ 113
    ∷ 241 ∷ 9 ∷ 137 ∷ 73 ∷ 201 ∷ 41 ∷ 169 ∷ 105 ∷ 233 ∷ 25 ∷ 153 ∷ 89 ∷ 217 ∷ 57 ∷ 185 ∷ 121 ∷ 249 ∷ 5 ∷ 133 ∷ 69 ∷
    197 ∷ 37 ∷ 165 ∷ 101 ∷ 229 ∷ 21 ∷ 149 ∷ 85 ∷ 213 ∷ 53 ∷ 181 ∷ 117 ∷ 245 ∷ 13 ∷ 141 ∷ 77 ∷ 205 ∷ 45 ∷ 173 ∷ 109 ∷
    237 ∷ 29 ∷ 157 ∷ 93 ∷ 221 ∷ 61 ∷ 189 ∷ 125 ∷ 253 ∷ 3 ∷ 131 ∷ 67 ∷ 195 ∷ 35 ∷ 163 ∷ 99 ∷ 227 ∷ 19 ∷ 147 ∷ 83 ∷ 211
    ∷ 51 ∷ 179 ∷ 115 ∷ 243 ∷ 11 ∷ 139 ∷ 75 ∷ 203 ∷ 43 ∷ 171 ∷ 107 ∷ 235 ∷ 27 ∷ 155 ∷ 91 ∷ 219 ∷ 59 ∷ 187 ∷ 123 ∷ 251 ∷
    7 ∷ 135 ∷ 71 ∷ 199 ∷ 39 ∷ 167 ∷ 103 ∷ 231 ∷ 23 ∷ 151 ∷ 87 ∷ 215 ∷ 55 ∷ 183 ∷ 119 ∷ 247 ∷ 15 ∷ 143 ∷ 79 ∷ 207 ∷ 47
    ∷ 175 ∷ 111 ∷ 239 ∷ 31 ∷ 159 ∷ 95 ∷ 223 ∷ 63 ∷ 191 ∷ 127 ∷ 255 ∷ []

-- the first n bits of a byte's turned byte are its last ones
abbrev is_turned : ℕ → ℕ → Bool
is_turned zero byte = true
is_turned (suc n) byte = eqb (bit_at (get_or turned_bytes byte 0) n) (bit_at byte (7 - n)) && is_turned n byte

abbrev are_turned : ℕ → Bool
are_turned zero = true
are_turned (suc n) = is_turned 8 n && are_turned n

turned_at : (n byte j : ℕ) → is_turned n byte ≡ true → j < n → bit_at (get_or turned_bytes byte 0) j ≡ bit_at byte (7 - j)
turned_at zero byte j all below = absurd (omega arith)
turned_at (suc n) byte j all below =
    let both = and_parts (eqb (bit_at (get_or turned_bytes byte 0) n) (bit_at byte (7 - n))) (is_turned n byte) all in
    elim (cases_eq j n) [
      | inl same ↦ subst (λ k. bit_at (get_or turned_bytes byte 0) k ≡ bit_at byte (7 - k)) (sym same) (eqb-true _ _ both.0)
      | inr other ↦ turned_at n byte j both.1 (omega (arith, other))
    ]

turned_among : (n byte : ℕ) → are_turned n ≡ true → byte < n → is_turned 8 byte ≡ true
turned_among zero byte all below = absurd (omega arith)
turned_among (suc n) byte all below =
    let both = and_parts (is_turned 8 n) (are_turned n) all in
    elim (cases_eq byte n) [
      | inl same ↦ subst (λ k. is_turned 8 k ≡ true) (sym same) both.0
      | inr other ↦ turned_among n byte both.1 (omega (arith, other))
    ]

all_turned : are_turned 256 ≡ true
all_turned = refl

pub turned_is : (byte j : ℕ) → byte < 256 → j < 8 → bit_at (get_or turned_bytes byte 0) j ≡ bit_at byte (7 - j)
turned_is byte j small low = turned_at 8 byte j (turned_among 256 byte all_turned small) low
