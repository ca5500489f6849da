-- A certificate is right, or there is a first reason why it is not.
use Rattle.std.proofs.Common.{◌≡◌, ℕ, ◌<◌, ◌≤◌, ◌⊎◌, inl, inr, List, length, get_or, Option, Some, None, refl, sym, ap, subst, ◌∙◌, string_bytes, String, Global, arith}
use Rattle.std.specs.List.{All}
use Rattle.std.proofs.Math.Decide.{dec_lt}
use Rattle.std.proofs.lemmas.List.{length-map, get_or_default}
use Rattle.axe_matrix.specs.Matrices.{MatrixValue, IsMatrix}
use Rattle.axe_spin.specs.Modules.{ModuleValue, IsModule}
use Rattle.axe_action.specs.Actions.{IsConjugateModule}
use Rattle.axe_norton.specs.declared.verdicts.At.{At}
use Rattle.axe_norton.specs.declared.verdicts.At.TheVariants as at
use Rattle.axe_norton.specs.Verdicts.{IsTrueOf}
use Rattle.axe_iso.specs.Forms.{FormValue}
use Rattle.axe_iso.specs.Matches.{IsMatch}
use Rattle.axe_iso.proofs.SomeForm.{some_match}
use Rattle.axe_series.specs.Series.{IsIsomorphicTo}
use Rattle.axe_report.specs.Reports.{FactorValue, dims, word_of, poly_of, IsReport}
use Rattle.axe_report.specs.declared.reasons.Reason.{Reason}
use Rattle.axe_report.specs.declared.reasons.Reason.TheVariants as reason
use Rattle.axe_report.specs.declared.report.Version.TheVariants.{Two}
use Rattle.axe_check.specs.Certificates.{Certificate, HasHeader, IsBasisOf, factor_count, dim_of, matrices_of, factor_of, factors_of, IsShaped, witnesses, WitnessSays, IsCertified}
use Rattle.axe_check.specs.Reasons.{IsNameOf, HasRightBasis, HasRightBlocks, HasRightFactors, IsFirstReason}
use Rattle.axe_check.specs.Steps.{AreShapedAs, HasAllBlocks, IsWitnessOver, LeavesOpenBy, IsLikeModule, IsSeenBy, IsFormOf, IsUnseenReason}
use Rattle.axe_check.specs.Steps.{AreIsomorphicAt, IsApartTo, IsSameReason}
use Rattle.axe_check.proofs.RightCertificates.{count_of_factors, factor_at}
use Rattle.axe_check.proofs.WordLaws.{seen_by, seen_shown, reducible_reason}
use Rattle.axe_check.proofs.PairLaws.{form_field, matched_pair, unmatched_is_not}
use Rattle.axe_check.proofs.Certifying.{nothing, name_at, witness_at, like_modules, places_fit, block_first, right_blocks, witnesses_over, right_factors, unseen_first, same_first, certified}
use Rattle.axe_check.proofs.Deciding.{first_other, either, header_or_not, basis_or_not, shape_or_not, all_blocks_or_not}
use Rattle.axe_check.proofs.SomeModules.{shaped_is_module, some_conjugates}
use Rattle.axe_check.proofs.SomeNames.{some_name}
use Rattle.axe_check.proofs.SomeWords.{some_witness_says, form_of_shown}

-- an answer
abbrev pub HasAnswer : Certificate → Type 0
HasAnswer c = IsCertified c ⊎ ((reason : Reason) × IsFirstReason c reason)

module _ (c : Certificate) (is : IsReport c.report) (two : c.report.header.version ≡ Two) (lists : length c.factors ≡ length c.report.factors) (is_module : IsModule c.m)
    (formed : IsMatrix c.basis) (matrices_formed : (number : ℕ) → number < length c.factors → All IsMatrix (matrices_of c number)) where
  abbrev reported : List FactorValue
  reported = c.report.factors

  abbrev seed : ℕ
  seed = c.report.header.seed

  name_of : (number : ℕ) → number < factor_count c → (name : String Global) × IsNameOf c number name
  name_of number below = some_name c is number (omega (arith, below, lists))

  module _ (before : HasRightBasis c) (shapes : (number : ℕ) → number < factor_count c → IsShaped c number) where
    abbrev modules : List ModuleValue
    modules = factors_of c

    shaped : AreShapedAs c.m reported c.factors modules
    shaped = record { shapes = shapes; are = refl }

    is_factor : (number : ℕ) → number < factor_count c → IsModule (factor_of c number)
    is_factor number below =
        let there : number < length (dims reported) = omega (arith, below, lists, length-map reported (λ (f : FactorValue). f.dim)) in
        let some : 1 ≤ dim_of c number = is.factors.some_dims number 0 there in
        let shape = shapes number below in
        let inside : 0 < length (matrices_of c number) = omega (arith, shape.count, is_module.some_generator) in
        let fits = (matrices_formed number below 0 c.basis inside).columns_fit in
        let columns = (shape.squares 0 c.basis inside).columns in
        shaped_is_module c.m (dim_of c number) (matrices_of c number) is_module some (omega (arith, fits, columns)) (matrices_formed number below) shape

    are : All IsModule modules
    are i d inside =
        let below : i < factor_count c = omega (arith, inside, count_of_factors c) in
        subst IsModule (sym (factor_at c i d below)) (is_factor i below)

    inside_is : (i : ℕ) → i < length modules → i < factor_count c
    inside_is i inside = omega (arith, inside, count_of_factors c)

    -- ---- words

    -- the factor of a number is seen to be irreducible, and has a form
    abbrev IsSeen : ℕ → Type 0
    IsSeen i = IsSeenBy (get_or modules i c.m) seed (get_or (witnesses reported) i None) × ((form : FormValue) × IsFormOf (get_or modules i c.m) form)

    -- it is not, for a reason
    abbrev IsUnseen : ℕ → Type 0
    IsUnseen i = (r : Reason) × IsUnseenReason (get_or modules i c.m) seed (get_or reported i nothing) r

    seen_or_not : (i : ℕ) → i < length modules → IsSeen i ⊎ IsUnseen i
    seen_or_not i inside = by_answer says.0 says.1 says.2
      where
        factor : ModuleValue
        factor = get_or modules i c.m

        below : i < factor_count c
        below = inside_is i inside

        there : i < length reported
        there = omega (arith, below, lists)

        over : IsWitnessOver (get_or modules i c.m).order (get_or (witnesses reported) i None)
        over = witnesses_over c is is_module formed lists modules shaped before are two i c.m inside

        says : (answer : At) × WitnessSays (get_or modules i c.m) seed over.value answer × IsTrueOf (get_or modules i c.m) answer
        says = some_witness_says (get_or modules i c.m) (are i c.m inside) seed over.value

        named : (name : String Global) × (string_bytes name ≡ (get_or reported i nothing).name)
        named = let found = name_of i below in (found.0, found.1 ∙ name_at reported i nothing there)

        by_answer : (answer : At) → WitnessSays (get_or modules i c.m) seed over.value answer → IsTrueOf (get_or modules i c.m) answer → IsSeen i ⊎ IsUnseen i
        by_answer (at.Irreducible poly v) said true_of =
            inl (
              seen_by (get_or modules i c.m) seed (get_or (witnesses reported) i None) over (word_of (get_or (witnesses reported) i None)) over.value.word over.value.poly (at.Irreducible poly v)
                  refl (ap word_of over.is) (sym (ap poly_of over.is)) said poly v refl true_of,
              form_of_shown (get_or modules i c.m) seed over.value.word poly v (are i c.m inside)
                  (seen_shown (get_or modules i c.m) seed (get_or (witnesses reported) i None) over (word_of (get_or (witnesses reported) i None)) over.value.word over.value.poly
                  (at.Irreducible poly v) refl (ap word_of over.is) (sym (ap poly_of over.is)) said poly poly v refl refl),
            )
        by_answer (at.Reducible space) said true_of =
            inr (
              reason.Reducible named.0,
              inr (reducible_reason (get_or modules i c.m) seed (get_or (witnesses reported) i None) over (word_of (get_or (witnesses reported) i None)) over.value.word over.value.poly
                  (at.Reducible space) refl (ap word_of over.is) (sym (ap poly_of over.is)) said space (get_or reported i nothing) named.0 (witness_at reported i nothing there) refl true_of
                  named.1),
            )
        by_answer at.Left said true_of =
            inr (
              reason.Open named.0,
              inl (record {
                name = named.0;
                is = refl;
                named = named.1;
                wrong = subst (LeavesOpenBy (get_or modules i c.m) seed) (witness_at reported i nothing there) (over.value, over.is, said);
              }),
            )

    -- ---- pairs

    module _ (seen : (i : ℕ) → i < length modules → IsSeen i) where
      -- two factors are isomorphic, or not
      same_or_not : (i j : ℕ) → i < j → j < length modules → (¬ (AreIsomorphicAt modules i j)) ⊎ AreIsomorphicAt modules i j
      same_or_not i j less inside = by_match found.0 found.1
        where
          early : i < length modules
          early = omega (arith, less, inside)

          other : ModuleValue
          other = get_or modules j c.m

          form : FormValue
          form = (seen i early).1.0

          of : IsFormOf (get_or modules i c.m) form
          of = (seen i early).1.1

          of_any : (d : ModuleValue) → IsFormOf (get_or modules i d) form
          of_any d = subst (λ (f : ModuleValue). IsFormOf f form) (get_or_default modules i c.m d early) of

          other_is : other ≡ get_or modules j other
          other_is = get_or_default modules j c.m other inside

          like_first : IsLikeModule c.m (get_or modules i c.m)
          like_first = like_modules c is is_module formed lists modules shaped before are i c.m early

          like_second : IsLikeModule c.m (get_or modules j c.m)
          like_second = like_modules c is is_module formed lists modules shaped before are j c.m inside

          found : (answer : Option MatrixValue) × IsMatch form other answer
          found =
              some_match form other of.is_form (are j c.m inside)
              (like_second.field ∙ sym like_first.field ∙ sym (form_field (get_or modules i c.m) form (are i c.m early) of))
              (like_second.count ∙ sym like_first.count ∙ sym of.from.acts.acts.count)

          by_match : (answer : Option MatrixValue) → IsMatch form other answer → (¬ (AreIsomorphicAt modules i j)) ⊎ AreIsomorphicAt modules i j
          by_match (Some t) match = inr (matched_pair modules i j other form are less inside other_is of_any t match)
          by_match None match = inl (λ same.
              unmatched_is_not (get_or modules i other) form (are i other early) (of_any other) other match
              (subst (IsIsomorphicTo (get_or modules i other)) (sym other_is) (same other other)))

      -- a later factor is isomorphic to that of a number, or none is
      apart_or_not : (i : ℕ) → i < length modules → IsApartTo modules i (length modules) ⊎ ((r : Reason) × IsSameReason modules reported i r)
      apart_or_not i inside =
          by_second
          (first_other (λ j. i < j → ¬ (AreIsomorphicAt modules i j)) (λ j. (i < j) × AreIsomorphicAt modules i j) (length modules) (λ j below. by_order j below (dec_lt i j)))
        where
          by_pair : (j : ℕ) → i < j → (¬ (AreIsomorphicAt modules i j)) ⊎ AreIsomorphicAt modules i j →
              (i < j → ¬ (AreIsomorphicAt modules i j)) ⊎ ((i < j) × AreIsomorphicAt modules i j)
          by_pair j less (inl apart) = inl (λ _. apart)
          by_pair j less (inr same) = inr (less, same)

          by_order : (j : ℕ) → j < length modules → Dec (i < j) → (i < j → ¬ (AreIsomorphicAt modules i j)) ⊎ ((i < j) × AreIsomorphicAt modules i j)
          by_order j below (no not_less) = inl (λ less. absurd (not_less less))
          by_order j below (yes less) = by_pair j less (same_or_not i j less below)

          by_second : ((j : ℕ) → j < length modules → i < j → ¬ (AreIsomorphicAt modules i j))
              ⊎ ((j : ℕ) × (j < length modules) × ((k : ℕ) → k < j → i < k → ¬ (AreIsomorphicAt modules i k)) × ((i < j) × AreIsomorphicAt modules i j)) →
              IsApartTo modules i (length modules) ⊎ ((r : Reason) × IsSameReason modules reported i r)
          by_second (inl all) = inl (λ k less below. all k below less)
          by_second (inr (j, below, earlier, (less, same))) =
              let a = name_of i (inside_is i inside) in
              let b = name_of j (inside_is j below) in
              inr (
                reason.Same a.0 b.0,
                record {
                  a = a.0;
                  b = b.0;
                  is = refl;
                  second = j;
                  ascending = less;
                  below = below;
                  first_named = a.1;
                  second_named = b.1;
                  apart = λ k later before_it. earlier k before_it later;
                  same = same;
                },
              )

      by_pairs : HasRightFactors c → ((i : ℕ) → i < length modules → IsApartTo modules i (length modules))
          ⊎ ((i : ℕ) × (i < length modules) × ((k : ℕ) → k < i → IsApartTo modules k (length modules)) × ((r : Reason) × IsSameReason modules reported i r)) → HasAnswer c
      by_pairs factors (inl apart) = inl (certified c is is_module formed lists modules shaped before are factors apart)
      by_pairs factors (inr (i, below, earlier, (r, pair))) =
          inr (r, same_first c is is_module formed lists modules shaped before are r factors (record { first = i; earlier = earlier; pair = pair }))

    -- ---- all steps from the blocks on

    seen_with : (i : ℕ) (d : ModuleValue) → i < length modules → IsSeen i → IsSeenBy (get_or modules i d) seed (get_or (witnesses reported) i None)
    seen_with i d inside seen =
        subst (λ (f : ModuleValue). IsSeenBy f seed (get_or (witnesses reported) i None)) (get_or_default modules i c.m d inside) seen.0

    by_words : HasRightBlocks c → ((i : ℕ) → i < length modules → IsSeen i) ⊎ ((i : ℕ) × (i < length modules) × ((k : ℕ) → k < i → IsSeen k) × IsUnseen i) → HasAnswer c
    by_words blocks (inl seen) =
        by_pairs seen (right_factors c is is_module formed lists modules shaped before are blocks (λ i d inside. seen_with i d inside (seen i inside)))
        (first_other (λ i. IsApartTo modules i (length modules)) (λ i. (r : Reason) × IsSameReason modules reported i r) (length modules) (apart_or_not seen))
    by_words blocks (inr (i, below, earlier, (r, unseen))) =
        inr (
          r,
          unseen_first c is is_module formed lists modules shaped before are blocks r (record {
            number = i;
            below = below;
            earlier = λ k d before_it. seen_with k d (omega (arith, before_it, below)) (earlier k before_it);
            wrong = λ d e.
                subst (λ (f : ModuleValue). IsUnseenReason f seed (get_or reported i e) r) (get_or_default modules i c.m d below)
                (subst (λ (f : FactorValue). IsUnseenReason (get_or modules i c.m) seed f r)
                (get_or_default reported i nothing e (omega (arith, inside_is i below, lists))) unseen);
          }),
        )

    by_conjugates : (made : ModuleValue) × IsConjugateModule c.m c.basis made × IsModule made → HasAnswer c
    by_conjugates (made, conjugate, made_is) =
        by_blocks
        (all_blocks_or_not made modules c.report.series (places_fit c is is_module formed lists modules shaped before are made conjugate made_is))
      where
        by_blocks : Dec (HasAllBlocks made modules c.report.series) → HasAnswer c
        by_blocks (no none) =
            inr (reason.Blocks, block_first c is is_module formed lists modules shaped before are made conjugate made_is reason.Blocks (refl, none))
        by_blocks (yes has) =
            by_words (right_blocks c is is_module formed lists modules shaped before are made conjugate made_is has) (first_other IsSeen IsUnseen (length modules) seen_or_not)

    by_basis : HasAnswer c
    by_basis = by_conjugates (some_conjugates c.m c.basis is_module formed before.basis)

  -- ---- all steps

  by_shapes : HasRightBasis c → ((i : ℕ) → i < factor_count c → IsShaped c i) ⊎ ((i : ℕ) × (i < factor_count c) × ((k : ℕ) → k < i → IsShaped c k) × (¬ (IsShaped c i))) → HasAnswer c
  by_shapes before (inl shapes) = by_basis before shapes
  by_shapes before (inr (i, below, earlier, wrong)) =
      let name = name_of i below in
      inr (reason.Shape name.0, record { before = before; number = i; below = below; named = name.1; earlier = earlier; wrong = wrong })

  with_header : HasHeader c.report.header c.m → Dec (IsBasisOf c.m c.basis) → HasAnswer c
  with_header header (no wrong) = inr (reason.Basis, (header, wrong))
  with_header header (yes basis) =
      by_shapes (record { header = header; basis = basis })
      (first_other (IsShaped c) (λ i. ¬ (IsShaped c i)) (factor_count c) (λ i below. either (shape_or_not c.m (dim_of c i) (matrices_of c i))))

  from_header : Dec (HasHeader c.report.header c.m) → HasAnswer c
  from_header (no wrong) = inr (reason.Header, wrong)
  from_header (yes header) = with_header header (basis_or_not c.m c.basis formed)

  pub some_answer : HasAnswer c
  some_answer = from_header (header_or_not c.report.header c.m)
