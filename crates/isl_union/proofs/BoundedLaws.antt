-- Where values have finitely many elements.
use Rattle.std.proofs.Common.{◌≡◌, ◌↔◌, inl, inr, refl, sym, ◌∙◌, arith, subst, ℕ, ◌+◌, ◌-◌, ◌^◌, ◌<◌, ◌≤◌, ℤ, unsigned_abs}
use Rattle.std.proofs.Common.{Bool, true, false, List, [], ◌∷◌, ◌++◌, All, Any, length, length-append, get_or, map, take}
use Rattle.std.specs.Prelude.{IsTrue}
use Rattle.std.specs.List.{zip}
use Rattle.std.proofs.lemmas.Bool.{false≢true}
use Rattle.std.proofs.lemmas.List.Elements.{All-head, All-map, All-more, All-tail, All-weaker, Contains-get_or}
use Rattle.isl_math.proofs.ListLaws.{All-unmapped, Any-cases, Any-contains, Any-none, Any-weaker}
use Rattle.isl_meter.specs.Gauge.{Gauge, IsCharged}
use Rattle.isl_space.specs.Element.{Element}
use Rattle.isl_space.specs.Name.{Name}
use Rattle.isl_space.specs.Names.{AreDistinct}
use Rattle.isl_space.specs.SpaceForm.{coordinates_of}
use Rattle.isl_space.specs.Valuation.{Valuation, values_of}
use Rattle.isl_space.proofs.ValuationLaws.{length-values_of, values_of-zip}
use Rattle.isl_piece.specs.declared.system.System.{System}
use Rattle.isl_piece.specs.Piece.{PieceView}
use Rattle.isl_piece.specs.System.{HoldsSystem, IsSystemWithin, free_columns}
use Rattle.isl_piece.proofs.FormedLaws.{system_within_kept}
use Rattle.isl_elim.specs.Elimination.{HoldsAtAny}
use Rattle.isl_elim.specs.Flatten.{IsFlattening}
use Rattle.isl_elim.proofs.ProjectionLaws.{plain_free}
use Rattle.isl_tower.specs.Bounded.{AreUpTo, IsBounded, IsBoundedAt}
use Rattle.isl_union.specs.declared.bounded.Front.{Front}
use Rattle.isl_union.specs.declared.bounded.Front.TheVariants.{Each, At}
use Rattle.isl_union.specs.Finite.{IsFinite, IsFiniteAt}
use Rattle.isl_union.specs.Front.{IsBoundedBehind}
use Rattle.isl_union.specs.KeptValue.{KeptPiece, KeptValue, HasElement, piece_system}
use Rattle.isl_union.specs.Numbers.{AreWithinLimit, IsPieceUpTo, IsWithinLimit}
use Rattle.isl_union.specs.Piece.{kept_piece, IsPieceOf}
use Rattle.isl_union.proofs.MeetSteps.{charged_bits}
use Rattle.isl_union.proofs.SystemLaws.{free_of_piece, point_long, view_free, view_is, view_within}

-- ---- one bound for all
up_to_more : (b c : ℕ) (xs : List ℤ) → b ≤ c → AreUpTo b xs → AreUpTo c xs
up_to_more b c xs most all = All-weaker (λ z. unsigned_abs z ≤ b) (λ z. unsigned_abs z ≤ c) (λ z h. omega (arith, h, most)) xs all

-- where each of the xs has a bound of the numbers at its points, all have one together
module _ {X R : Type 0} (P : X → R → Type 0) (numbers : R → List ℤ) where
  abbrev HasBound : X → Type 0
  HasBound x = (b : ℕ) × ((r : R) → P x r → AreUpTo b (numbers r))

  common_bound : (xs : List X) → All HasBound xs → (b : ℕ) × ((r : R) → Any (λ x. P x r) xs → AreUpTo b (numbers r))
  common_bound [] all = (0, λ r a. absurd (Any-none (λ x. P x r) a))
  common_bound (x ∷ xs) all =
      let first = All-head HasBound x xs all in
      let rest = common_bound xs (All-tail HasBound x xs all) in (
        first.0 + rest.0,
        λ r a. elim (Any-cases (λ x. P x r) x xs a) [
          | inl h ↦ up_to_more first.0 (first.0 + rest.0) (numbers r) (omega arith) (first.1 r h)
          | inr m ↦ up_to_more rest.0 (first.0 + rest.0) (numbers r) (omega arith) (rest.1 r m)
        ],
      )

-- ---- a system is bounded exactly where those are that say the same and define no column
module _ (s : System) (plain : List System) (flat : IsFlattening s plain) where
  plain_columns : (i : ℕ) (t : System) → i < length plain → free_columns (get_or plain i t) ≡ free_columns s
  plain_columns i t low = plain_free (get_or plain i t) (flat.definitions i t low) ∙ flat.columns i t low

  module _ (front : List ℤ) where
    abbrev IsPoint : System → List ℤ → Type 0
    IsPoint t rest = (length front + length rest ≡ free_columns s) × HoldsSystem t (front ++ rest)

    point_wide : (rest : List ℤ) → length front + length rest ≡ free_columns s → length (front ++ rest) ≡ free_columns s
    point_wide rest l = length-append front rest ∙ l

    pub flat_bounded_at : All (λ t. IsBoundedAt t front) plain ↔ IsBoundedAt s front
    flat_bounded_at = (
      (λ all.
          let one : All (HasBound IsPoint (λ rest. rest)) plain =
          (λ i t low. ((all i t low).0, λ rest p. (all i t low).1 rest (p.0 ∙ sym (plain_columns i t low)) p.1)) in
          let common = common_bound IsPoint (λ rest. rest) plain one in
          (common.0, λ rest l holds. common.1 rest (any_point rest l ((flat.points (front ++ rest) (point_wide rest l)).1 holds)))),
      (λ whole i t low. (
        whole.0,
        λ rest l holds.
            let long = l ∙ plain_columns i t low in
            whole.1 rest long ((flat.points (front ++ rest) (point_wide rest long)).0
            (Any-contains (λ t. HoldsSystem t (front ++ rest)) plain (get_or plain i t) (Contains-get_or plain i t low) holds)),
      )),
    )
      where
        any_point : (rest : List ℤ) → length front + length rest ≡ free_columns s → HoldsAtAny plain (front ++ rest)
            → Any (λ t. IsPoint t rest) plain
        any_point rest l a = Any-weaker (λ t. HoldsSystem t (front ++ rest)) (λ t. IsPoint t rest) (λ t h. (l, h)) plain a

  pub flat_wide : (n : ℕ) → n ≤ free_columns s → All (λ t. n ≤ free_columns t) plain
  flat_wide n wide = λ i t low. (let same = plain_columns i t low in omega (arith, same, wide))

  pub flat_bounded : (outer : ℕ) → All (λ t. IsBounded t outer) plain ↔ IsBounded s outer
  flat_bounded outer = (
    (λ all front l. (flat_bounded_at front).0 (λ i t low. all i t low front l)),
    (λ whole i t low front l. (flat_bounded_at front).1 (whole front l) i t low),
  )

  pub flat_behind : (front : Front) → All (IsBoundedBehind front) plain ↔ IsBoundedBehind front s
  flat_behind (Each outer) = flat_bounded outer
  flat_behind (At numbers) = flat_bounded_at numbers.now

-- ---- a value has finitely many elements exactly where each of its pieces has
module _ (params : List Name) (v : Valuation) where
  -- so has the piece
  abbrev HasFew : KeptPiece → Type 0
  HasFew piece = HasBound (λ piece e. HasElement params v e piece) (λ (e : Element). e.coordinates) piece

  few_exactly : (piece : KeptPiece) → IsBoundedAt (piece_system params piece) (values_of params v) ↔ HasFew piece
  few_exactly piece = (
    (λ bounded. (bounded.0, λ e h. bounded.1 e.coordinates (long e h) h.holds)),
    (λ few. (
      few.0,
      λ rest l holds.
          let e : Element = record { space = piece.space; coordinates = rest } in
          few.1 e (record { numbers = counted rest l; space = refl; holds = holds }),
    )),
  )
    where
      long : (e : Element) → HasElement params v e piece
          → length (values_of params v) + length e.coordinates ≡ free_columns (piece_system params piece)
      long e h = sym (length-append (values_of params v) e.coordinates) ∙ point_long params v e piece h ∙ sym (free_of_piece params piece)

      counted : (rest : List ℤ) → length (values_of params v) + length rest ≡ free_columns (piece_system params piece)
          → length rest ≡ coordinates_of piece.space
      counted rest l = let front = length-values_of params v in omega (arith, front, l)

  pub few_all : (pieces : List KeptPiece) → All HasFew pieces ↔ IsFiniteAt (record { params = params; pieces = pieces }) v
  few_all pieces = (
    (λ all. common_bound (λ piece e. HasElement params v e piece) (λ (e : Element). e.coordinates) pieces all),
    (λ whole i piece low. (
      whole.0,
      λ e h. whole.1 e (Any-contains (HasElement params v e) pieces (get_or pieces i piece)
          (Contains-get_or pieces i piece low) h),
    )),
  )

  -- the same of the systems that are stored
  pub finite_at : (pieces : List PieceView) → All (IsPieceOf params) pieces
      → All (λ p. IsBoundedAt p.system (values_of params v)) pieces
      ↔ IsFiniteAt (record { params = params; pieces = map kept_piece pieces }) v
  finite_at pieces sound = (
    (λ all. (few_all (map kept_piece pieces)).0 (All-map HasFew kept_piece pieces
        (λ i p low. (few_exactly (kept_piece (get_or pieces i p))).0
        (subst (λ (s : System). IsBoundedAt s (values_of params v)) (view_is params (get_or pieces i p) (sound i p low)) (all i p low))))),
    (λ finite i p low.
        subst (λ (s : System). IsBoundedAt s (values_of params v)) (sym (view_is params (get_or pieces i p) (sound i p low)))
        ((few_exactly (kept_piece (get_or pieces i p))).1
        (All-unmapped HasFew kept_piece pieces ((few_all (map kept_piece pieces)).1 finite) i p low))),
  )

pub finite_always : (params : List Name) (pieces : List PieceView) → AreDistinct params → All (IsPieceOf params) pieces
    → All (λ p. IsBounded p.system (length params)) pieces ↔ IsFinite (record { params = params; pieces = map kept_piece pieces })
finite_always params pieces distinct sound = (
  (λ all v. (finite_at params v pieces sound).0 (λ i p low. all i p low (values_of params v) (length-values_of params v))),
  (λ finite i p low front l.
      let v : Valuation = zip params front in
      let named : values_of params v ≡ front = values_of-zip params front distinct (sym l) in
      subst (λ xs. IsBoundedAt (get_or pieces i p).system xs) named ((finite_at params v pieces sound).1 (finite v) i p low)),
)

-- ---- loops that end where one is not bounded
module _ {X : Type 0} (P : X → Type 0) (xs : List X) where
  pub all_have : All P xs → IsTrue true ↔ All P xs
  all_have all = ((λ t. all), (λ a. refl))

  module _ (i : ℕ) (x : X) (low : i < length xs) (at : x ≡ get_or xs i x) where
    pub one_has : All P xs → P x
    one_has all = subst P (sym at) (all i x low)

    pub one_lacks : ¬ P x → IsTrue false ↔ All P xs
    one_lacks n = ((λ t. absurd (false≢true t)), (λ all. absurd (n (one_has all))))

    pub one_more : P x → All P (take i xs) → All P (take (i + 1) xs)
    one_more p all = All-more P xs i x low all (subst P at p)

pub told : (Q R : Type 0) (b : Bool) → Q ↔ R → IsTrue b ↔ Q → IsTrue b ↔ R
told Q R b e h = ((λ t. e.0 (h.0 t)), (λ r. h.1 (e.1 r)))

pub systems_later : (g h : Gauge) (systems : List System) → IsCharged g h → All (IsSystemWithin g) systems → All (IsSystemWithin h) systems
systems_later g h systems p within = λ i d low. system_within_kept h g (get_or systems i d) (charged_bits g h p) (within i d low)

-- ---- the pieces of a value
module _ (g : Gauge) (value : KeptValue) (pieces : List PieceView) (sound : All (IsPieceOf value.params) pieces)
    (same : map kept_piece pieces ≡ value.pieces) where
  pub pieces_within : IsWithinLimit g value → AreWithinLimit g pieces
  pieces_within all =
      let b = 2 ^ g.bits - 1 in
      let stored = All-unmapped (IsPieceUpTo b) kept_piece pieces (subst (All (IsPieceUpTo b)) (sym same) all) in
      (λ i p low. view_within g value.params (get_or pieces i p) (sound i p low) (stored i p low))

  pub pieces_wide : (n : ℕ) → n ≡ length value.params → All (λ p. n ≤ free_columns p.system) pieces
  pieces_wide n is = λ i p low. (let free = view_free value.params (get_or pieces i p) (sound i p low) in omega (arith, free, is))

  pub finite_value : AreDistinct value.params → All (λ p. IsBounded p.system (length value.params)) pieces ↔ IsFinite value
  finite_value distinct =
      subst (λ ps. let v : KeptValue = record { params = value.params; pieces = ps } in
      All (λ p. IsBounded p.system (length value.params)) pieces ↔ IsFinite v) same
      (finite_always value.params pieces distinct sound)

  pub finite_value_at : (v : Valuation) (numbers : List ℤ) → values_of value.params v ≡ numbers
      → All (λ p. IsBoundedAt p.system numbers) pieces ↔ IsFiniteAt value v
  finite_value_at v numbers named =
      subst (λ ns. All (λ p. IsBoundedAt p.system ns) pieces ↔ IsFiniteAt value v) named
      (subst (λ ps. let w : KeptValue = record { params = value.params; pieces = ps } in
      All (λ p. IsBoundedAt p.system (values_of value.params v)) pieces ↔ IsFiniteAt w v) same
      (finite_at value.params v pieces sound))
