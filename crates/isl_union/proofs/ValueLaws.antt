-- Unions of values, and what values have in common.
use Rattle.std.proofs.Common.{◌≡◌, ◌↔◌, ◌⊎◌, inl, inr, refl, sym, ap, ap₂, ◌∙◌, subst, ℕ, ◌+◌, ◌<◌, List, [], ◌∷◌, ◌++◌, All, Any}
use Rattle.std.proofs.Common.{Contains, length, fold, get_or, map, sum_by, take, unsigned_abs}
use Rattle.std.proofs.lemmas.List.{get_or-map, length-map, map-append, take_more}
use Rattle.std.proofs.lemmas.List.Elements.{All-append, All-map, All-contains_itself, Contains-append_left}
use Rattle.isl_math.proofs.ListLaws.{All-unmapped, Any-left, Any-right, Any-parts}
use Rattle.isl_meter.specs.Gauge.{Gauge, limit_of}
use Rattle.isl_meter.proofs.CutLemmas.{IsCharged_refl, IsCutBy-charged}
use Rattle.isl_space.specs.Element.{Element}
use Rattle.isl_space.specs.Name.{Name}
use Rattle.isl_space.specs.Limits.{most_parameters}
use Rattle.isl_space.specs.declared.fault.SpaceFault.{SpaceFault}
use Rattle.isl_space.specs.declared.fault.SpaceFault.TheVariants.{TooWide, NoMemory}
use Rattle.isl_space.specs.Names.{IsParameterList, joined}
use Rattle.isl_space.specs.Valuation.{Valuation}
use Rattle.isl_space.proofs.NamesLaws.{joined-self, parameters_join}
use Rattle.isl_piece.specs.Piece.{PieceView}
use Rattle.isl_union.specs.Fault.{fault_of, IsFaultBy, IsPlainFault}
use Rattle.isl_union.specs.KeptValue.{KeptPiece, KeptValue, Has, HasElement, HasNoDefinitions, IsKeptValue}
use Rattle.isl_union.specs.Live.{AreLiveOf}
use Rattle.isl_union.specs.Meet.{met_pieces, pair_count, pairs_of_one_space, partners, IsMeetOf}
use Rattle.isl_union.specs.Moved.{aligned, aligned_pieces, moved}
use Rattle.isl_union.specs.Numbers.{AreWithinLimit, HasNumbersUpTo, IsPieceUpTo, IsWithinLimit}
use Rattle.isl_union.specs.Piece.{kept_piece, IsPieceOf}
use Rattle.isl_union.specs.Union.{AreOfBoth, IsUnionOf}
use Rattle.isl_union.proofs.AlignedLaws.{aligned_has_any, aligned_kept, aligned_plain, aligned_pieces-own, aligned_up_to}
use Rattle.isl_union.proofs.LiveLaws.{live_all, live_any}
use Rattle.isl_union.proofs.MeetLaws.{pieces_have, pieces_plain, pieces_small}
use Rattle.isl_union.proofs.SystemLaws.{piece_within, view_within, IsFit}
use Rattle.isl_union.proofs.UnionLaws.{both_all, both_any}

-- ---- a loop's step: what is made of the i-th piece is put behind the others
pub moved_more : (f : KeptPiece → KeptPiece) (pieces made pushed : List PieceView) (i : ℕ) (piece x : PieceView) → i < length pieces
    → piece ≡ get_or pieces i piece
    → kept_piece x ≡ f (kept_piece piece) → pushed ≡ made ++ x ∷ [] → map kept_piece made ≡ map f (take i (map kept_piece pieces))
    → map kept_piece pushed ≡ map f (take (i + 1) (map kept_piece pieces))
moved_more f pieces made pushed i piece x low at made_of is so_far =
    let here : get_or (map kept_piece pieces) i (kept_piece piece) ≡ kept_piece piece =
    get_or-map kept_piece pieces i piece (kept_piece piece) low ∙ ap kept_piece (sym at) in
    let more : take (i + 1) (map kept_piece pieces) ≡ take i (map kept_piece pieces) ++ kept_piece piece ∷ [] =
    take_more (map kept_piece pieces) i (kept_piece piece) (rw (length-map pieces kept_piece) low) ∙
    ap (λ p. take i (map kept_piece pieces) ++ p ∷ []) here in
    ap (map kept_piece) is ∙ map-append kept_piece made (x ∷ []) ∙ ap₂ (λ l p. l ++ p ∷ []) so_far made_of
    ∙ sym (map-append f (take i (map kept_piece pieces)) (kept_piece piece ∷ [])) ∙ ap (map f) (sym more)

-- ---- pieces within the limit
pub pieces_within : (g : Gauge) (params : List Name) (pieces : List PieceView) (kept : List KeptPiece) → All (IsPieceOf params) pieces
    → map kept_piece pieces ≡ kept → All (IsPieceUpTo (unsigned_abs (limit_of g))) kept → AreWithinLimit g pieces
pieces_within g params pieces kept sound is h = λ k d l.
    view_within g params (get_or pieces k d) (sound k d l)
    (All-unmapped (IsPieceUpTo (unsigned_abs (limit_of g))) kept_piece pieces (rw is h) k d l)

pub value_fit : (g : Gauge) (value : KeptValue) → IsKeptValue value → IsWithinLimit g value → All (IsFit g value.params) value.pieces
value_fit g value kept fits = λ k d l.
    (kept.pieces k d l, piece_within g value.params (get_or value.pieces k d) (kept.pieces k d l) (fits k d l))

-- ---- over more parameters
pub same_pieces : (all : List Name) (value : KeptValue) → IsKeptValue value → all ≡ value.params → aligned_pieces all value ≡ value.pieces
same_pieces all value kept same = rw same (aligned_pieces-own value.params kept.params.distinct value.pieces kept.pieces)

module _ (g : Gauge) (all : List Name) (value : KeptValue) (kept : IsKeptValue value) (fits : IsWithinLimit g value)
    (there : All (Contains all) value.params) where
  pub aligned_have : (v : Valuation) (e : Element) → Any (HasElement all v e) (aligned_pieces all value) ↔ Has value v e
  aligned_have v e = aligned_has_any all value.params kept.params.distinct there g v e value.pieces (value_fit g value kept fits)

  pub aligned_small : (limit : ℕ) → HasNumbersUpTo limit value → All (IsPieceUpTo limit) (aligned_pieces all value)
  aligned_small limit h = All-map (IsPieceUpTo limit) (aligned all value.params) value.pieces (λ k d l.
      let fit = value_fit g value kept fits k d l in
      aligned_up_to all value.params kept.params.distinct there g (get_or value.pieces k d) fit.0 fit.1 limit (h k d l))

  pub aligned_all_plain : HasNoDefinitions value → All (λ piece. piece.definitions ≡ []) (aligned_pieces all value)
  aligned_all_plain h = All-map (λ (p : KeptPiece). p.definitions ≡ []) (aligned all value.params) value.pieces (λ k d l.
      let fit = value_fit g value kept fits k d l in
      aligned_plain all value.params kept.params.distinct there g (get_or value.pieces k d) fit.0 fit.1 (h k d l))

  pub aligned_fit : All (IsFit g all) (aligned_pieces all value)
  aligned_fit = All-map (IsFit g all) (aligned all value.params) value.pieces (λ k d l.
      let piece = get_or value.pieces k d in
      let fit = value_fit g value kept fits k d l in
      let here = aligned_kept all value.params kept.params.distinct there g piece fit.0 fit.1 in (
        here,
        piece_within g all (aligned all value.params piece) here
            (aligned_up_to all value.params kept.params.distinct there g piece fit.0 fit.1 (unsigned_abs (limit_of g)) (fits k d l)),
      ))

-- ---- pairs of one space: pieces over more parameters lie where they lay
sum_mapped : (f h : KeptPiece → ℕ) (g : KeptPiece → KeptPiece) → ((x : KeptPiece) → f (g x) ≡ h x) → (xs : List KeptPiece) (n : ℕ)
    → fold (λ a x. a + f x) n (map g xs) ≡ fold (λ a x. a + h x) n xs
sum_mapped f h g same [] n = refl
sum_mapped f h g same (x ∷ xs) n = ap (λ m. fold (λ a y. a + f y) (n + m) (map g xs)) (same x) ∙ sum_mapped f h g same xs (n + h x)

count_aligned : (all names others : List Name) (a b : KeptPiece) → pair_count (aligned all names a) (aligned all others b) ≡ pair_count a b
unfolding moved
count_aligned all names others a b = refl

pub pairs_aligned : (all : List Name) (a b : KeptValue) → sum_by (partners (aligned_pieces all b)) (aligned_pieces all a)
    ≡ pairs_of_one_space a b
pairs_aligned all a b =
    sum_mapped (partners (aligned_pieces all b)) (partners b.pieces) (aligned all a.params)
    (λ piece. sum_mapped (pair_count (aligned all a.params piece)) (pair_count piece) (aligned all b.params) (count_aligned all a.params
    b.params piece) b.pieces 0) a.pieces 0

pub pairs_are : (all : List Name) (a b : KeptValue) (own others : List PieceView) → map kept_piece own ≡ aligned_pieces all a
    → map kept_piece others ≡ aligned_pieces all b
    → sum_by (partners (map kept_piece others)) (map kept_piece own) ≡ pairs_of_one_space a b
pairs_are all a b own others first second = ap₂ (λ k l. sum_by (partners k) l) second first ∙ pairs_aligned all a b

-- ---- two values
pub first_in : (names others : List Name) → All (Contains (joined names others)) names
first_in names others = λ k d l. Contains-append_left names _ (get_or names k d) (All-contains_itself names k d l)

pub second_in : (names others : List Name) → IsParameterList names → IsParameterList others → All (Contains (joined names others)) others
second_in names others p q = (parameters_join names others (joined names others) p q refl).second

pub plain_fault : (params : List Name) (fault : SpaceFault) → (fault ≡ TooWide → most_parameters < length params)
    → IsPlainFault params (fault_of fault)
plain_fault params TooWide h = h refl
plain_fault params NoMemory h = refl

pub fault_by : (params : List Name) (g h : Gauge) (fault : SpaceFault) → h ≡ g
    → (fault ≡ TooWide → most_parameters < length params) → IsFaultBy params g h (fault_of fault)
fault_by params g h TooWide same wide = (wide refl, same)
fault_by params g h NoMemory same wide = (inr refl, IsCutBy-charged g h (IsCharged_refl g h same))

module _ (a b : KeptValue) (p : IsKeptValue a) (q : IsKeptValue b) where
  abbrev all : List Name
  all = joined a.params b.params

  first_there : All (Contains all) a.params
  first_there = first_in a.params b.params

  second_there : All (Contains all) b.params
  second_there = second_in a.params b.params p.params q.params

  -- ---- their union
  pub union_is : (params : List Name) (own others whole : List PieceView) (value : KeptValue) → params ≡ all
      → map kept_piece own ≡ aligned_pieces params a → map kept_piece others ≡ aligned_pieces params b
      → AreOfBoth (map kept_piece own) (map kept_piece others) (map kept_piece whole)
      → value ≡ record { params = params; pieces = map kept_piece whole } → IsUnionOf a b value
  union_is params own others whole value names first second both made = rw made (record {
    params = names;
    pieces = subst (λ (l : List KeptPiece). AreOfBoth l (aligned_pieces all b) (map kept_piece whole))
        (first ∙ ap (λ (l : List Name). aligned_pieces l a) names)
        (subst (λ (l : List KeptPiece). AreOfBoth (map kept_piece own) l (map kept_piece whole))
        (second ∙ ap (λ (l : List Name). aligned_pieces l b) names) both);
  })

  pub union_same : (value : KeptValue) → IsUnionOf a b value → a.params ≡ b.params → AreOfBoth a.pieces b.pieces value.pieces
  union_same value is same =
      let first : all ≡ a.params = ap (joined a.params) (sym same) ∙ joined-self a.params in
      subst (λ (l : List KeptPiece). AreOfBoth l b.pieces value.pieces) (same_pieces all a p first)
      (subst (λ (l : List KeptPiece). AreOfBoth (aligned_pieces all a) l value.pieces) (same_pieces all b q (first ∙ same)) is.pieces)

  module _ (g : Gauge) (h : IsWithinLimit g a) (k : IsWithinLimit g b) where
    pub union_has : (value : KeptValue) → IsUnionOf a b value → (v : Valuation) (e : Element) → Has value v e ↔ (Has a v e ⊎ Has b v e)
    union_has value is v e =
        let first = aligned_have g all a p h first_there v e in
        let second = aligned_have g all b q k second_there v e in
        let both = both_any (HasElement all v e) (aligned_pieces all a) (aligned_pieces all b) value.pieces is.pieces in
        let Over : List Name → Type 0 = λ l. Any (HasElement l v e) value.pieces in (
          (λ has. elim (both.0 (subst Over is.params has)) [
            | inl x ↦ inl (first.0 x)
            | inr y ↦ inr (second.0 y)
          ]),
          (λ hs. subst Over (sym is.params) (both.1 (elim hs [
            | inl x ↦ inl (first.1 x)
            | inr y ↦ inr (second.1 y)
          ]))),
        )

    pub union_small : (value : KeptValue) → IsUnionOf a b value → (limit : ℕ) → HasNumbersUpTo limit a → HasNumbersUpTo limit b
        → HasNumbersUpTo limit value
    union_small value is limit s t =
        both_all (IsPieceUpTo limit) (aligned_pieces all a) (aligned_pieces all b) value.pieces is.pieces
        (aligned_small g all a p h first_there limit s) (aligned_small g all b q k second_there limit t)

    pub union_plain : (value : KeptValue) → IsUnionOf a b value → HasNoDefinitions a → HasNoDefinitions b → HasNoDefinitions value
    union_plain value is s t =
        both_all (λ (p : KeptPiece). p.definitions ≡ []) (aligned_pieces all a) (aligned_pieces all b) value.pieces is.pieces
        (aligned_all_plain g all a p h first_there s) (aligned_all_plain g all b q k second_there t)

    -- ---- what they have in common
    pub meet_has : (value : KeptValue) → IsMeetOf a b value → (v : Valuation) (e : Element) → Has value v e ↔ (Has a v e × Has b v e)
    meet_has value is v e =
        let params = value.params in
        let own = aligned_pieces params a in
        let others = aligned_pieces params b in
        let first = subst (λ (l : List Name). All (Contains l) a.params) (sym is.params) first_there in
        let second = subst (λ (l : List Name). All (Contains l) b.params) (sym is.params) second_there in
        let kept = live_any params v e (met_pieces params own others) value.pieces is.pieces in
        let both = pieces_have g params v e own others (aligned_fit g params a p h first) (aligned_fit g params b q k second) in
        let one = aligned_have g params a p h first v e in
        let other = aligned_have g params b q k second v e in (
          (λ has. let parts = both.0 (kept.0 has) in (one.0 parts.0, other.0 parts.1)),
          (λ hs. kept.1 (both.1 (one.1 hs.0, other.1 hs.1))),
        )

    pub meet_small : (value : KeptValue) → IsMeetOf a b value → (limit : ℕ) → HasNumbersUpTo limit a → HasNumbersUpTo limit b
        → HasNumbersUpTo limit value
    meet_small value is limit s t =
        let params = value.params in
        let own = aligned_pieces params a in
        let others = aligned_pieces params b in
        let first = subst (λ (l : List Name). All (Contains l) a.params) (sym is.params) first_there in
        let second = subst (λ (l : List Name). All (Contains l) b.params) (sym is.params) second_there in
        live_all params (IsPieceUpTo limit) (IsPieceUpTo limit) (λ piece small live. small) (met_pieces params own others) value.pieces
        is.pieces
        (pieces_small g params limit own others (aligned_fit g params a p h first) (aligned_fit g params b q k second)
        (aligned_small g params a p h first limit s) (aligned_small g params b q k second limit t))

    pub meet_plain : (value : KeptValue) → IsMeetOf a b value → HasNoDefinitions a → HasNoDefinitions b → HasNoDefinitions value
    meet_plain value is s t =
        let P : KeptPiece → Type 0 = λ piece. piece.definitions ≡ [] in
        let params = value.params in
        let own = aligned_pieces params a in
        let others = aligned_pieces params b in
        let first = subst (λ (l : List Name). All (Contains l) a.params) (sym is.params) first_there in
        let second = subst (λ (l : List Name). All (Contains l) b.params) (sym is.params) second_there in
        live_all params P P (λ piece plain live. plain) (met_pieces params own others) value.pieces is.pieces
        (pieces_plain g params own others (aligned_fit g params a p h first) (aligned_fit g params b q k second)
        (aligned_all_plain g params a p h first s) (aligned_all_plain g params b q k second t))

  pub meet_written : (params : List Name) (own others met : List PieceView) (value : KeptValue) → params ≡ all
      → map kept_piece own ≡ aligned_pieces params a → map kept_piece others ≡ aligned_pieces params b
      → AreLiveOf params (met_pieces params (map kept_piece own) (map kept_piece others)) (map kept_piece met)
      → value ≡ record { params = params; pieces = map kept_piece met } → IsMeetOf a b value
  meet_written params own others met value names first second exact made = rw made (record {
    params = names;
    pieces = subst (λ (l : List KeptPiece). AreLiveOf params (met_pieces params l (aligned_pieces params b)) (map kept_piece met)) first
        (subst (λ (l : List KeptPiece). AreLiveOf params (met_pieces params (map kept_piece own) l) (map kept_piece met)) second exact);
  })
