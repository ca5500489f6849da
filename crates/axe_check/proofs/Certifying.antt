-- From what the steps of a check find to the certificate: that it is right, or the first reason why it is not.
use Rattle.std.proofs.Common.{◌≡◌, ℕ, ◌<◌, ◌≤◌, inl, inr, List, [], length, map, get_or, None, refl, sym, ap, subst, ◌∙◌, ext_get_or, arith}
use Rattle.std.specs.List.{All}
use Rattle.std.proofs.lemmas.List.{length-map, get_or-map}
use Rattle.std.proofs.lemmas.Option.{slice_get_within, get_or_from_slice_get}
use Rattle.axe_algebra.specs.Blocks.{AreBlockSizes}
use Rattle.axe_matrix.specs.Matrices.{MatrixValue, IsMatrix}
use Rattle.axe_spin.specs.Modules.{ModuleValue, IsModule}
use Rattle.axe_action.specs.Actions.{IsConjugateModule}
use Rattle.axe_norton.specs.Spaces.{IsIrreducibleModule}
use Rattle.axe_series.specs.Series.{IsIsomorphicTo, IsPlaceOf, IsBlockOf, IsTriangularBy, AreInOrderOfAppearance, sizes_of_places}
use Rattle.axe_series.proofs.SeriesOfChain.{isomorphic_back, isomorphic_to_itself}
use Rattle.axe_series.proofs.TriangularBasis.{block_is_one}
use Rattle.axe_report.specs.Reports.{FactorValue, names, dims, IsReport}
use Rattle.axe_report.specs.declared.report.Version.TheVariants.{Two}
use Rattle.axe_check.specs.Certificates.{Certificate, HasHeader, factor_count, matrices_of, factor_of, factors_of, HasBlocks, witnesses, IsLeftOpen, IsCertified}
use Rattle.axe_check.specs.Reasons.{IsSeenIrreducible, IsEarlierPair, HasRightBasis, HasRightShapes, HasRightBlocks, HasRightFactors, AreSameFactors, IsFirstReason}
use Rattle.axe_check.specs.Steps.{IsHeaderReason, IsBasisReason, AreShapedAs, IsFirstShapeReason, IsLikeModule, HasAllBlocks, IsBlockReason, IsWitnessOver, IsSeenBy, AreSeenTo}
use Rattle.axe_check.specs.Steps.{LeavesOpenBy, IsUnseenReason, IsFirstUnseenReason, AreIsomorphicAt, AreApartTo, IsFirstSameReason}
use Rattle.axe_report.specs.declared.reasons.Reason.{Reason}
use Rattle.axe_check.proofs.RightCertificates.{count_of_factors, factor_at, factor_is_listed}
use Rattle.axe_check.proofs.ReportedSeries.{reported_order, reported_sizes, place_sizes}
use Rattle.axe_check.proofs.OneConjugate.{square_basis, conjugate_is_one}
use Rattle.axe_check.proofs.BlockLaws.{has_blocks, all_blocks}
use Rattle.axe_check.proofs.WitnessLaws.{witness_over}
use native.Mathlib.Decide.{dec_lt}

pub nothing : FactorValue
nothing = record { name = []; dim = 0; multiplicity = 0; witness = None }

-- what stands at a number
pub name_at : (reported : List FactorValue) (number : ℕ) (e : FactorValue) → number < length reported → get_or (names reported) number [] ≡ (get_or reported number e).name
name_at reported number e below = get_or-map (λ (f : FactorValue). f.name) reported number e [] below

pub dim_at : (reported : List FactorValue) (number : ℕ) (e : FactorValue) → number < length reported → get_or (dims reported) number 0 ≡ (get_or reported number e).dim
dim_at reported number e below = get_or-map (λ (f : FactorValue). f.dim) reported number e 0 below

pub witness_at : (reported : List FactorValue) (number : ℕ) (e : FactorValue) → number < length reported → get_or (witnesses reported) number None ≡ (get_or reported number e).witness
witness_at reported number e below = get_or-map (λ (f : FactorValue). f.witness) reported number e None below

module _ (c : Certificate) (is : IsReport c.report) (is_module : IsModule c.m) (formed : IsMatrix c.basis) (lists : length c.factors ≡ length c.report.factors) where
  abbrev reported : List FactorValue
  reported = c.report.factors

  -- ---- the header, the basis and the shapes

  pub header_first : (reason : Reason) → IsHeaderReason c.report.header c.m reason → IsFirstReason c reason
  header_first reason (is_header, wrong) = subst (IsFirstReason c) (sym is_header) wrong

  pub basis_first : (reason : Reason) → HasHeader c.report.header c.m → IsBasisReason c.m c.basis reason → IsFirstReason c reason
  basis_first reason header (is_basis, wrong) = subst (IsFirstReason c) (sym is_basis) (header, wrong)

  pub shape_first : (reason : Reason) → HasRightBasis c → IsFirstShapeReason c.m reported c.factors reason → IsFirstReason c reason
  shape_first reason before found = subst (IsFirstReason c) (sym found.is) (record {
    before = before;
    number = found.number;
    below = found.below;
    named = found.named;
    earlier = found.earlier;
    wrong = found.wrong;
  })

  pub some_dims : All (λ dim. 1 ≤ dim) (dims reported)
  some_dims = is.factors.some_dims

  -- ---- the constituents as modules

  module _ (modules : List ModuleValue) (shaped : AreShapedAs c.m reported c.factors modules) (before : HasRightBasis c) (are : All IsModule modules) where
    pub modules_are : modules ≡ factors_of c
    modules_are = shaped.are

    pub right_shapes : HasRightShapes c
    right_shapes = record { before = before; shapes = shaped.shapes }

    pub modules_count : length modules ≡ length reported
    modules_count = ap (λ (l : List ModuleValue). length l) shaped.are ∙ count_of_factors c ∙ lists

    are_modules : All IsModule (factors_of c)
    are_modules = subst (λ (l : List ModuleValue). All IsModule l) shaped.are are

    is_factor : (i : ℕ) → i < factor_count c → IsModule (factor_of c i)
    is_factor i below = subst IsModule (factor_at c i (factor_of c i) below) (are_modules i (factor_of c i) (omega (arith, below, count_of_factors c)))

    dims_are : map (λ (f : ModuleValue). f.dim) (factors_of c) ≡ dims reported
    dims_are =
        ext_get_or 0 (map (λ (f : ModuleValue). f.dim) (factors_of c)) (dims reported)
        (length-map (factors_of c) (λ (f : ModuleValue). f.dim) ∙ count_of_factors c ∙ lists ∙ sym (length-map reported (λ (f : FactorValue). f.dim)))
        (λ i inside. at i (omega (arith, inside, length-map (factors_of c) (λ (f : ModuleValue). f.dim), count_of_factors c)))
      where
        at : (i : ℕ) → i < factor_count c → get_or (map (λ (f : ModuleValue). f.dim) (factors_of c)) i 0 ≡ get_or (dims reported) i 0
        at i below =
            get_or-map (λ (f : ModuleValue). f.dim) (factors_of c) i (factor_of c i) 0 (omega (arith, below, count_of_factors c))
            ∙ ap (λ (f : ModuleValue). f.dim) (factor_at c i (factor_of c i) below)

    sizes_are : sizes_of_places (factors_of c) c.report.series ≡ place_sizes reported c.report.series
    sizes_are = ap (λ (ds : List ℕ). map (λ number. get_or ds number 0) c.report.series) dims_are

    sizes : AreBlockSizes c.m.dim (sizes_of_places (factors_of c) c.report.series)
    sizes =
        subst (AreBlockSizes c.m.dim) (sym sizes_are)
        (subst (λ n. AreBlockSizes n (place_sizes reported c.report.series)) before.header.dimension (reported_sizes c.report is))

    places : All (λ number. number < length (factors_of c)) c.report.series
    places = subst (λ n. All (λ number. number < n) c.report.series) (sym (count_of_factors c ∙ lists)) (reported_order c.report is).within

    order : AreInOrderOfAppearance (length (factors_of c)) c.report.series
    order = subst (λ n. AreInOrderOfAppearance n c.report.series) (sym (count_of_factors c ∙ lists)) (reported_order c.report is)

    -- each is over the module's field, and has as many generators
    like_at : (i : ℕ) → i < factor_count c → IsLikeModule c.m (factor_of c i)
    like_at i below = record {
      field = refl;
      count = length-map (matrices_of c i) (λ (x : MatrixValue). x.rows) ∙ (shaped.shapes i below).count;
    }

    like : All (IsLikeModule c.m) (factors_of c)
    like i d inside =
        let below : i < factor_count c = omega (arith, inside, count_of_factors c) in
        subst (IsLikeModule c.m) (sym (factor_at c i d below)) (like_at i below)

    pub like_modules : All (IsLikeModule c.m) modules
    like_modules = subst (λ (l : List ModuleValue). All (IsLikeModule c.m) l) (sym shaped.are) like

    -- ---- blocks

    module _ (conjugates : ModuleValue) (conjugate : IsConjugateModule c.m c.basis conjugates) (is_conjugates : IsModule conjugates) where
      pub sizes_fit : AreBlockSizes conjugates.dim (sizes_of_places modules c.report.series)
      sizes_fit =
          subst (λ (l : List ModuleValue). AreBlockSizes conjugates.dim (sizes_of_places l c.report.series)) (sym shaped.are)
          (subst (λ n. AreBlockSizes n (sizes_of_places (factors_of c) c.report.series)) (sym conjugate.dimension) sizes)

      pub places_fit : All (λ number. number < length modules) c.report.series
      places_fit = subst (λ (l : List ModuleValue). All (λ number. number < length l) c.report.series) (sym shaped.are) places

      like_conjugates : All (IsLikeModule conjugates) (factors_of c)
      like_conjugates i d inside =
          let one : IsLikeModule c.m (get_or (factors_of c) i d) = like i d inside in
          record { field = one.field ∙ sym conjugate.field; count = one.count ∙ sym conjugate.count }

      pub like_fit : All (IsLikeModule conjugates) modules
      like_fit = subst (λ (l : List ModuleValue). All (IsLikeModule conjugates) l) (sym shaped.are) like_conjugates

      factor_sizes : AreBlockSizes conjugates.dim (sizes_of_places (factors_of c) c.report.series)
      factor_sizes = subst (λ n. AreBlockSizes n (sizes_of_places (factors_of c) c.report.series)) (sym conjugate.dimension) sizes

      one_conjugate : (other : ModuleValue) → IsConjugateModule c.m c.basis other → other ≡ conjugates
      one_conjugate other is_other =
          conjugate_is_one c.m c.basis other conjugates
          (square_basis c.m c.basis before.basis.field before.basis.rows before.basis.columns formed) is_other conjugate

      in_factors : HasAllBlocks conjugates modules c.report.series → HasAllBlocks conjugates (factors_of c) c.report.series
      in_factors = subst (λ (l : List ModuleValue). HasAllBlocks conjugates l c.report.series) shaped.are

      in_modules : HasAllBlocks conjugates (factors_of c) c.report.series → HasAllBlocks conjugates modules c.report.series
      in_modules = subst (λ (l : List ModuleValue). HasAllBlocks conjugates l c.report.series) (sym shaped.are)

      pub block_first : (reason : Reason) → IsBlockReason conjugates modules c.report.series reason → IsFirstReason c reason
      block_first reason (is_block, wrong) = subst (IsFirstReason c) (sym is_block) (
        right_shapes,
        λ blocks. wrong (in_modules
            (all_blocks c.m c.basis conjugates (factors_of c) c.report.series is_conjugates are_modules like_conjugates factor_sizes places conjugate one_conjugate
            blocks)),
      )

      pub right_blocks : HasAllBlocks conjugates modules c.report.series → HasRightBlocks c
      right_blocks has = record {
        before = right_shapes;
        blocks =
            has_blocks c.m c.basis conjugates (factors_of c) c.report.series is_conjugates are_modules like_conjugates factor_sizes places conjugate
            (in_factors has);
      }

    -- ---- words

    module_at : (i : ℕ) (d : ModuleValue) → i < factor_count c → get_or modules i d ≡ factor_of c i
    module_at i d below = ap (λ (l : List ModuleValue). get_or l i d) shaped.are ∙ factor_at c i d below

    below_count : (i : ℕ) → i < length modules → i < factor_count c
    below_count i inside = omega (arith, inside, modules_count, lists)

    pub witnesses_over : c.report.header.version ≡ Two → (i : ℕ) (d : ModuleValue) → i < length modules →
        IsWitnessOver (get_or modules i d).order (get_or (witnesses reported) i None)
    witnesses_over two i d inside =
        let below : i < factor_count c = below_count i inside in
        let there : i < length reported = omega (arith, below, lists) in
        subst (λ (f : ModuleValue). IsWitnessOver f.order (get_or (witnesses reported) i None)) (sym (module_at i d below))
        (subst (λ o. IsWitnessOver o (get_or (witnesses reported) i None)) before.header.field
        (subst (IsWitnessOver c.report.header.field) (sym (witness_at reported i nothing there))
        (witness_over c.report.header c.report.header.version (get_or reported i nothing).witness two is.header (is.witnessed i nothing there))))

    left_open_at : (i : ℕ) (d : ModuleValue) → i < factor_count c → IsLeftOpen c i → LeavesOpenBy (get_or modules i d) c.report.header.seed (get_or (witnesses reported) i None)
    left_open_at i d below left =
        subst (λ (f : ModuleValue). LeavesOpenBy f c.report.header.seed (get_or (witnesses reported) i None)) (sym (module_at i d below))
        (left.witness, left.named, left.says)

    left_open_from : (i : ℕ) (d : ModuleValue) → i < factor_count c → LeavesOpenBy (get_or modules i d) c.report.header.seed (get_or (witnesses reported) i None) → IsLeftOpen c i
    left_open_from i d below left =
        let (witness, named, says) =
        subst (λ (f : ModuleValue). LeavesOpenBy f c.report.header.seed (get_or (witnesses reported) i None)) (module_at i d below) left in
        record { witness = witness; named = named; says = says }

    seen_at : (i : ℕ) → i < factor_count c → IsSeenBy (get_or modules i c.m) c.report.header.seed (get_or (witnesses reported) i None) → IsSeenIrreducible c i
    seen_at i below seen = record {
      decided = λ left. seen.decided (left_open_at i c.m below left);
      irreducible = subst IsIrreducibleModule (module_at i c.m below) seen.irreducible;
    }

    pub right_factors : HasRightBlocks c → AreSeenTo modules c.report.header.seed reported (length modules) → HasRightFactors c
    right_factors blocks seen = record {
      before = blocks;
      seen = λ i below. seen_at i below (seen i c.m (omega (arith, below, modules_count, lists)));
    }

    module _ (blocks : HasRightBlocks c) (reason : Reason) (found : IsFirstUnseenReason modules c.report.header.seed reported reason) where
      abbrev number : ℕ
      number = found.number

      below : number < factor_count c
      below = below_count number found.below

      there : number < length reported
      there = omega (arith, below, lists)

      earlier : (i : ℕ) → i < number → IsSeenIrreducible c i
      earlier i before_it = seen_at i (omega (arith, before_it, below)) (found.earlier i c.m before_it)

      here : IsUnseenReason (get_or modules number c.m) c.report.header.seed (get_or reported number nothing) reason → IsFirstReason c reason
      here (inl open_) = subst (IsFirstReason c) (sym open_.is) (record {
        before = blocks;
        number = number;
        below = below;
        named = open_.named ∙ sym (name_at reported number nothing there);
        earlier = earlier;
        wrong =
            left_open_from number c.m below
            (subst (LeavesOpenBy (get_or modules number c.m) c.report.header.seed) (sym (witness_at reported number nothing there)) open_.wrong);
      })
      here (inr reducible) = subst (IsFirstReason c) (sym reducible.is) (record {
        before = blocks;
        number = number;
        below = below;
        named = reducible.named ∙ sym (name_at reported number nothing there);
        earlier = earlier;
        wrong = record {
          decided = λ left.
              reducible.decided
              (subst (LeavesOpenBy (get_or modules number c.m) c.report.header.seed) (witness_at reported number nothing there)
              (left_open_at number c.m below left));
          reducible = λ irreducible. reducible.wrong (subst IsIrreducibleModule (sym (module_at number c.m below)) irreducible);
        };
      })

      pub unseen_first : IsFirstReason c reason
      unseen_first = here (found.wrong c.m nothing)

    -- ---- pairs

    pairs_at : (i j : ℕ) → i < factor_count c → j < factor_count c → AreSameFactors c i j → AreIsomorphicAt modules i j
    pairs_at i j below there same d e =
        subst (λ (f : ModuleValue). IsIsomorphicTo f (get_or modules j e)) (sym (module_at i d below))
        (subst (IsIsomorphicTo (factor_of c i)) (sym (module_at j e there)) same)

    pairs_from : (i j : ℕ) → i < factor_count c → j < factor_count c → AreIsomorphicAt modules i j → AreSameFactors c i j
    pairs_from i j below there same =
        subst (λ (f : ModuleValue). IsIsomorphicTo f (factor_of c j)) (module_at i c.m below)
        (subst (IsIsomorphicTo (get_or modules i c.m)) (module_at j c.m there) (same c.m c.m))

    pub same_first : (reason : Reason) → HasRightFactors c → IsFirstSameReason modules reported reason → IsFirstReason c reason
    same_first reason factors found = subst (IsFirstReason c) (sym found.pair.is) (record {
      before = factors;
      first = found.first;
      second = found.pair.second;
      ascending = found.pair.ascending;
      below = below_count found.pair.second found.pair.below;
      first_named = found.pair.first_named;
      second_named = found.pair.second_named;
      earlier = earlier;
      same = pairs_from found.first found.pair.second (omega (arith, found.pair.ascending, below_count found.pair.second found.pair.below))
          (below_count found.pair.second found.pair.below) found.pair.same;
    })
      where
        earlier : (i j : ℕ) → i < j → j < factor_count c → IsEarlierPair i j found.first found.pair.second → ¬ (AreSameFactors c i j)
        earlier i j less below (inl before_it) same =
            found.earlier i before_it j less (omega (arith, below, modules_count, lists)) (pairs_at i j (omega arith) below same)
        earlier i j less below (inr (here, before_it)) same =
            found.pair.apart j (omega (arith, here, less)) before_it
            (subst (λ k. AreIsomorphicAt modules k j) here (pairs_at i j (omega arith) below same))

    -- ---- the certificate is right

    module _ (factors : HasRightFactors c) (apart : AreApartTo modules (length modules)) where
      abbrev h : HasBlocks c.m c.basis (factors_of c) c.report.series
      h = factors.before.blocks

      triangular : IsTriangularBy c.m c.basis (sizes_of_places (factors_of c) c.report.series) h.conjugates
      triangular = record {
        field = before.basis.field;
        columns = before.basis.columns;
        rows = before.basis.rows;
        well_formed = formed;
        invertible = before.basis.invertible;
        conjugate = h.conjugate;
        sizes_are = sizes;
        triangular = h.triangular;
      }

      not_same : (i j : ℕ) → i < j → j < factor_count c → ¬ (AreSameFactors c i j)
      not_same i j less below same =
          apart i (omega (arith, less, below, modules_count, lists)) j less (omega (arith, below, modules_count, lists)) (pairs_at i j (omega arith) below same)

      numbers : (i j : ℕ) → i < factor_count c → j < factor_count c → AreSameFactors c i j → i ≡ j
      numbers i j below there same = cases (dec_lt i j) (dec_lt j i)
        where
          cases : Dec (i < j) → Dec (j < i) → i ≡ j
          cases (yes less) _ = absurd (not_same i j less there same)
          cases (no not_less) (yes more) =
              absurd (not_same j i more below (isomorphic_back (factor_of c i) (factor_of c j) (is_factor i below) (is_factor j there) refl same))
          cases (no not_less) (no not_more) = omega arith

      -- the block at a place is the factor of its number
      block_at : (a i : ℕ) (block : ModuleValue) → IsPlaceOf c.report.series a i →
          IsBlockOf h.conjugates (sizes_of_places (factors_of c) c.report.series) a block → (i < factor_count c) × (block ≡ factor_of c i)
      block_at a i block place of =
          let inside : a < length c.report.series = slice_get_within c.report.series a i place in
          let number : get_or c.report.series a 0 ≡ i = get_or_from_slice_get c.report.series a i 0 place in
          let below : i < factor_count c = omega (arith, places a 0 inside, number, count_of_factors c) in (
            below,
            block_is_one h.conjugates (sizes_of_places (factors_of c) c.report.series) a block (factor_of c i) of
                (h.diagonal a i (factor_of c i) place (factor_is_listed c i below)),
          )

      pub certified : IsCertified c
      certified = record {
        header = before.header;
        shapes = shaped.shapes;
        series = record {
          conjugates = h.conjugates;
          triangular = triangular;
          diagonal = h.diagonal;
          irreducible = λ i d inside.
              let below : i < factor_count c = omega (arith, inside, count_of_factors c) in
              subst IsIrreducibleModule (sym (factor_at c i d below)) (factors.seen i below).irreducible;
          one_number = λ a b i j block other place there of other_of.
              let (below, is_block) = block_at a i block place of in
              let (below_j, is_other) = block_at b j other there other_of in (
                λ same. subst (λ (x : ModuleValue). IsIsomorphicTo x other) (sym is_block)
                    (subst (IsIsomorphicTo (factor_of c i)) (ap (factor_of c) same ∙ sym is_other) (isomorphic_to_itself (factor_of c i) (is_factor i below))),
                λ iso. numbers i j below below_j
                    (subst (IsIsomorphicTo (factor_of c i)) is_other (subst (λ (x : ModuleValue). IsIsomorphicTo x other) is_block iso)),
              );
          order = order;
        };
        decided = λ i below. (factors.seen i below).decided;
      }
