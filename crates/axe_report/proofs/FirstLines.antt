-- The first line: what its reader says.
use Rattle.std.proofs.Common.{◌≡◌, ℕ, ◌^◌, ◌<◌, List, ◌∷◌, ◌++◌, decimal, codes, refl, sym, ap, ◌∙◌, arith}
use Rattle.axe_field.specs.Order.{order_number}
use Rattle.axe_report.specs.Fronts.{is_digit, Stops}
use Rattle.axe_report.specs.Reports.{version_number, IsReportHeader, HasNumbers}
use Rattle.axe_report.specs.Spelling.{header_line}
use Rattle.axe_report.specs.declared.report.ReportHeader.{ReportHeader}
use Rattle.axe_report.proofs.Numerals.{setting_unique}
use Rattle.axe_report.proofs.Unique.{header_open, version_small, order_small}

-- what stands after each number of a header
abbrev pub after_seed : ℕ → List ℕ → List ℕ
after_seed w x = codes " words=" ++ (decimal w ++ (10 ∷ x))

abbrev pub after_gens : ℕ → ℕ → List ℕ → List ℕ
after_gens s w x = codes " seed=" ++ (decimal s ++ after_seed w x)

abbrev pub after_dim : ℕ → ℕ → ℕ → List ℕ → List ℕ
after_dim g s w x = codes " gens=" ++ (decimal g ++ after_gens s w x)

abbrev pub after_order : ℕ → ℕ → ℕ → ℕ → List ℕ → List ℕ
after_order d g s w x = codes " dim=" ++ (decimal d ++ after_dim g s w x)

abbrev pub after_version : ℕ → ℕ → ℕ → ℕ → ℕ → List ℕ → List ℕ
after_version q d g s w x = codes " field=" ++ (decimal q ++ after_order d g s w x)

pub version_read : (text left : List ℕ) (v : ℕ) (h : ReportHeader) (x : List ℕ) → v < 2 ^ 64 → text ≡ codes "chop " ++ (decimal v ++ left) → Stops is_digit left → text ≡ header_line h ++ x
    → (v ≡ version_number h.version) × (left ≡ after_version (order_number h.field) h.dim h.gens h.seed h.words x)
version_read text left v h x lt there stops e =
    setting_unique (codes "chop ") text v (version_number h.version) left (after_version (order_number h.field) h.dim h.gens h.seed h.words x) lt (version_small h.version) stops refl there (e ∙ header_open h x)

pub order_read : (text left : List ℕ) (q : ℕ) (h : ReportHeader) (x : List ℕ) → q < 2 ^ 64 → text ≡ codes " field=" ++ (decimal q ++ left) → Stops is_digit left
    → text ≡ after_version (order_number h.field) h.dim h.gens h.seed h.words x → (q ≡ order_number h.field) × (left ≡ after_order h.dim h.gens h.seed h.words x)
order_read text left q h x lt there stops e =
    setting_unique (codes " field=") text q (order_number h.field) left (after_order h.dim h.gens h.seed h.words x) lt (order_small h.field) stops refl there e

pub dim_read : (text left : List ℕ) (d : ℕ) (h : ReportHeader) (x : List ℕ) → d < 2 ^ 64 → text ≡ codes " dim=" ++ (decimal d ++ left) → Stops is_digit left → IsReportHeader h
    → text ≡ after_order h.dim h.gens h.seed h.words x → (d ≡ h.dim) × (left ≡ after_dim h.gens h.seed h.words x)
dim_read text left d h x lt there stops is e =
    setting_unique (codes " dim=") text d h.dim left (after_dim h.gens h.seed h.words x) lt (omega (arith, is.dim)) stops refl there e

pub gens_read : (text left : List ℕ) (g : ℕ) (h : ReportHeader) (x : List ℕ) → g < 2 ^ 64 → text ≡ codes " gens=" ++ (decimal g ++ left) → Stops is_digit left → IsReportHeader h
    → text ≡ after_dim h.gens h.seed h.words x → (g ≡ h.gens) × (left ≡ after_gens h.seed h.words x)
gens_read text left g h x lt there stops is e =
    setting_unique (codes " gens=") text g h.gens left (after_gens h.seed h.words x) lt (omega (arith, is.gens)) stops refl there e

pub seed_read : (text left : List ℕ) (s : ℕ) (h : ReportHeader) (x : List ℕ) → s < 2 ^ 64 → text ≡ codes " seed=" ++ (decimal s ++ left) → Stops is_digit left → IsReportHeader h
    → text ≡ after_gens h.seed h.words x → (s ≡ h.seed) × (left ≡ after_seed h.words x)
seed_read text left s h x lt there stops is e = setting_unique (codes " seed=") text s h.seed left (after_seed h.words x) lt is.seed stops refl there e

pub words_read : (text left : List ℕ) (w : ℕ) (h : ReportHeader) (x : List ℕ) → w < 2 ^ 64 → text ≡ codes " words=" ++ (decimal w ++ left) → Stops is_digit left → IsReportHeader h
    → text ≡ after_seed h.words x → (w ≡ h.words) × (left ≡ 10 ∷ x)
words_read text left w h x lt there stops is e = setting_unique (codes " words=") text w h.words left (10 ∷ x) lt (omega (arith, is.words)) stops refl there e

pub header_there : (h : ReportHeader) (text z a b c d e x : List ℕ) (v q n g s w : ℕ) → HasNumbers h v q n g s w → text ≡ codes "chop " ++ (decimal v ++ z) → z ≡ codes " field=" ++ (decimal q ++ a)
    → a ≡ codes " dim=" ++ (decimal n ++ b) → b ≡ codes " gens=" ++ (decimal g ++ c) → c ≡ codes " seed=" ++ (decimal s ++ d) → d ≡ codes " words=" ++ (decimal w ++ e) → e ≡ 10 ∷ x → text ≡ header_line h ++ x
header_there h text z a b c d e x v q n g s w has p p0 p1 p2 p3 p4 p5 =
    let front : List ℕ → List ℕ = λ l. codes "chop " ++ (decimal v ++ l) in
    let front0 : List ℕ → List ℕ = λ l. front (codes " field=" ++ (decimal q ++ l)) in
    let front1 : List ℕ → List ℕ = λ l. front0 (codes " dim=" ++ (decimal n ++ l)) in
    let front2 : List ℕ → List ℕ = λ l. front1 (codes " gens=" ++ (decimal g ++ l)) in
    let front3 : List ℕ → List ℕ = λ l. front2 (codes " seed=" ++ (decimal s ++ l)) in
    let front4 : List ℕ → List ℕ = λ l. front3 (codes " words=" ++ (decimal w ++ l)) in
    p
    ∙ ap front p0
    ∙ ap front0 p1
    ∙ ap front1 p2
    ∙ ap front2 p3
    ∙ ap front3 p4
    ∙ ap front4 p5
    ∙ sym (header_open h x ∙ (λ i. codes "chop " ++ (decimal (has.version_is i) ++ after_version (has.field i) (has.dim_is i) (has.gens_is i) (has.seed_is i) (has.words_is i) x)))
