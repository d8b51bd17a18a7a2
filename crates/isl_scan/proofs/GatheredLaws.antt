-- The elements of pieces where the parameters have given numbers.
use Rattle.std.proofs.Common.{◌≡◌, ◌∙◌, inl, inr, ◌+◌, ◌-◌, ◌^◌, ◌<◌, ℕ, ℤ, List, [], ◌∷◌, ◌++◌, length, get_or, take, drop, map}
use Rattle.std.proofs.Common.{ap, sym, subst, refl, zero, suc, arith, string_bytes, All, Any}
use Rattle.std.specs.Prelude.{◌↔◌}
use Rattle.std.specs.List.{AllZip, Contains}
use Rattle.std.proofs.lemmas.List.{take_more, take-append-drop}
use Rattle.std.proofs.lemmas.List.Elements.{All-cons, All-drop, All-nil, All-take, Contains-append_cases, Contains-append_left}
use Rattle.std.proofs.lemmas.List.Elements.{Contains-get_or}
use Rattle.isl_math.proofs.ListLaws.{All-unmapped, Any-cases, Any-first, Any-later, Any-left, Any-none, Any-one, Any-parts, Any-right}
use Rattle.isl_math.proofs.ListLaws.{AllZip-more, AllZip-weaker, Any-unmapped, Any-with}
use Rattle.isl_meter.specs.Gauge.{Gauge, IsCharged}
use Rattle.isl_space.specs.Element.{Element}
use Rattle.isl_space.specs.Name.{Name}
use Rattle.isl_space.specs.SpaceForm.{coordinates_of, space_text_of, IsWellFormedSpace}
use Rattle.isl_space.specs.Valuation.{Valuation, values_of}
use Rattle.isl_space.proofs.ValuationLaws.{length-values_of}
use Rattle.isl_piece.specs.Piece.{PieceView}
use Rattle.isl_piece.specs.declared.system.System.{System}
use Rattle.isl_piece.specs.System.{HoldsSystem}
use Rattle.isl_piece.proofs.FormedLaws.{system_within_kept}
use Rattle.isl_points.specs.Fibre.{IsFibreOf}
use Rattle.isl_points.specs.Points.{ArePointsAt}
use Rattle.isl_points.proofs.FibreLaws.{fibre_kept}
use Rattle.isl_union.specs.Finite.{IsFiniteAt}
use Rattle.isl_union.specs.KeptValue.{KeptPiece, KeptValue, Has, HasElement, HasNoDefinitions, point_of}
use Rattle.isl_union.specs.Numbers.{HasNumbersUpTo, IsWithinLimit}
use Rattle.isl_union.specs.Piece.{kept_piece, IsPieceOf}
use Rattle.isl_union.proofs.BoundedLaws.{pieces_within}
use Rattle.isl_union.proofs.MeetSteps.{charged_bits}
use Rattle.isl_union.proofs.SystemLaws.{view_free, view_is}
use Rattle.isl_scan.specs.declared.group.Group.{Group}
use Rattle.isl_scan.specs.Gathered.{AreFibresOf, AreGathered, HasAt, IsGroupOf, IsListable}
use Rattle.isl_scan.specs.Groups.{elements_in, elements_of, space_in, AreMerged, IsGroup}
use Rattle.isl_scan.specs.Listing.{IsListingOf}
use Rattle.isl_scan.proofs.GroupLaws.{contains_in, elements_ordered}

-- ---- one piece
module _ (g : Gauge) (numbers : List ℤ) (piece : PieceView) (listable : IsListable g numbers piece) where
  -- the points of its system are its elements there
  points_have : (points : List (List ℤ)) → ArePointsAt piece.system numbers points
      → (e : Element) → Contains (elements_in piece.space points) e ↔ HasAt numbers e piece
  points_have points are e = (
    (λ c.
        let there = (contains_in piece.space points e).0 c in
        let point = (are.exact e.coordinates).0 there.1 in
        let columns = listable.columns in
        let long = point.0 in
        let count : length e.coordinates ≡ coordinates_of piece.space = omega (arith, columns, long) in
        record { counted = count ∙ ap coordinates_of there.0; space = there.0; holds = point.1 }),
    (λ h.
        let columns = listable.columns in
        let count = h.counted ∙ ap coordinates_of (sym h.space) in
        (contains_in piece.space points e).1 (h.space, (are.exact e.coordinates).1 (omega (arith, columns, count), h.holds))),
  )

  -- so they are its group
  pub group_is : (group : Group) → string_bytes group.title ≡ space_text_of (space_in group) → space_in group ≡ piece.space
      → ArePointsAt piece.system numbers group.points → IsGroupOf numbers piece group
  group_is group title of_space are = record {
    sound = record {
      title = title;
      space = subst IsWellFormedSpace (sym of_space) listable.space;
      long = subst (λ f. All (λ ns. length ns ≡ coordinates_of f) group.points) (sym of_space) (λ i d low.
          let columns = listable.columns in
          let long = ((are.exact (get_or group.points i d)).0 (Contains-get_or group.points i d low)).0 in
          omega (arith, columns, long));
      ordered = are.ordered;
    };
    exact = λ e. subst (λ f. Contains (elements_in f group.points) e ↔ HasAt numbers e piece) (sym of_space)
        (points_have group.points are e);
  }

-- what may be listed may be listed later
pub listable_later : (g h : Gauge) (numbers : List ℤ) (pieces : List PieceView) → IsCharged g h → All (IsListable g numbers) pieces
    → All (IsListable h numbers) pieces
listable_later g h numbers pieces charged all = λ i d low. (
    let one = all i d low in
    record {
      space = one.space;
      within = system_within_kept h g (get_or pieces i d).system (charged_bits g h charged) one.within;
      plain = one.plain;
      columns = one.columns;
    })

-- ---- fibres
-- the fibre of a piece over the numbers
abbrev pub IsOverPiece : Gauge → List ℤ → PieceView → List (List System) → Type 0
IsOverPiece g numbers piece fibre = IsFibreOf g piece.system numbers fibre

pub over_later : (g h : Gauge) (numbers : List ℤ) (piece : PieceView) (fibre : List (List System)) → IsCharged g h
    → IsOverPiece g numbers piece fibre → IsOverPiece h numbers piece fibre
over_later g h numbers piece fibre charged is = fibre_kept h g piece.system numbers fibre (charged_bits g h charged) is

pub fibres_later : (g h : Gauge) (numbers : List ℤ) (pieces : List PieceView) (fibres : List (List (List System))) → IsCharged g h
    → AreFibresOf g numbers pieces fibres → AreFibresOf h numbers pieces fibres
fibres_later g h numbers pieces fibres charged are = record {
  listable = listable_later g h numbers pieces charged are.listable;
  each = AllZip-weaker (IsOverPiece g numbers) (IsOverPiece h numbers) (λ p f is. over_later g h numbers p f charged is) pieces fibres
      are.each;
}

-- with that of one piece more
pub fibres_more : (g : Gauge) (numbers : List ℤ) (pieces : List PieceView) (i : ℕ) (piece : PieceView)
    (olds : List (List (List System))) (fibre : List (List System)) (news : List (List (List System))) → i < length pieces
    → piece ≡ get_or pieces i piece → AllZip (IsOverPiece g numbers) (take i pieces) olds → IsOverPiece g numbers piece fibre
    → news ≡ olds ++ fibre ∷ [] → AllZip (IsOverPiece g numbers) (take (i + 1) pieces) news
fibres_more g numbers pieces i piece olds fibre news low at so_far one is =
    subst (λ ps. AllZip (IsOverPiece g numbers) ps news) (sym (take_more pieces i piece low ∙ ap (λ p. take i pieces ++ p ∷ []) (sym at)))
    (subst (λ fs. AllZip (IsOverPiece g numbers) (take i pieces ++ piece ∷ []) fs) (sym is)
    (AllZip-more (IsOverPiece g numbers) (take i pieces) olds piece fibre so_far one))

pub zip_long : {A B : Type 0} (R : A → B → Type 0) (xs : List A) (ys : List B) → AllZip R xs ys → length xs ≡ length ys
zip_long R [] [] z = refl
zip_long R [] (y ∷ ys) z = absurd z
zip_long R (x ∷ xs) [] z = absurd z
zip_long R (x ∷ xs) (y ∷ ys) z = ap suc (zip_long R xs ys z.1)

zip_take : {A B : Type 0} (R : A → B → Type 0) (n : ℕ) (xs : List A) (ys : List B) → AllZip R xs ys → AllZip R (take n xs) (take n ys)
zip_take R zero xs ys z = tt
zip_take R (suc n) [] [] z = tt
zip_take R (suc n) [] (y ∷ ys) z = absurd z
zip_take R (suc n) (x ∷ xs) [] z = absurd z
zip_take R (suc n) (x ∷ xs) (y ∷ ys) z = (z.0, zip_take R n xs ys z.1)

zip_drop : {A B : Type 0} (R : A → B → Type 0) (n : ℕ) (xs : List A) (ys : List B) → AllZip R xs ys → AllZip R (drop n xs) (drop n ys)
zip_drop R zero xs ys z = z
zip_drop R (suc n) [] [] z = tt
zip_drop R (suc n) [] (y ∷ ys) z = absurd z
zip_drop R (suc n) (x ∷ xs) [] z = absurd z
zip_drop R (suc n) (x ∷ xs) (y ∷ ys) z = zip_drop R n xs ys z.1

-- those of the first pieces, and of the others
pub fibres_cut : (g : Gauge) (numbers : List ℤ) (pieces : List PieceView) (fibres : List (List (List System))) (n : ℕ)
    (first_pieces : List PieceView) (first_fibres : List (List (List System))) (other_pieces : List PieceView)
    (other_fibres : List (List (List System))) → first_pieces ≡ take n pieces → first_fibres ≡ take n fibres
    → other_pieces ≡ drop n pieces → other_fibres ≡ drop n fibres → AreFibresOf g numbers pieces fibres
    → AreFibresOf g numbers first_pieces first_fibres × AreFibresOf g numbers other_pieces other_fibres
fibres_cut g numbers pieces fibres n first_pieces first_fibres other_pieces other_fibres fp ff op of are = (
  subst (λ ps. AreFibresOf g numbers ps first_fibres) (sym fp) (subst (λ fs. AreFibresOf g numbers (take n pieces) fs) (sym ff) (record {
    listable = All-take (IsListable g numbers) n pieces are.listable;
    each = zip_take (IsOverPiece g numbers) n pieces fibres are.each;
  })),
  subst (λ ps. AreFibresOf g numbers ps other_fibres) (sym op) (subst (λ fs. AreFibresOf g numbers (drop n pieces) fs) (sym of) (record {
    listable = All-drop (IsListable g numbers) n pieces are.listable;
    each = zip_drop (IsOverPiece g numbers) n pieces fibres are.each;
  })),
)

-- ---- one piece after another
pub gathered_none : (numbers : List ℤ) (groups : List Group) → groups ≡ [] → AreGathered numbers [] groups
gathered_none numbers groups none = subst (AreGathered numbers []) (sym none) (record {
  sound = record { sound = λ i d low. absurd (omega arith); ordered = λ i j d l low. absurd (omega arith) };
  exact = λ e. ((λ c. absurd (let h = c.1 in omega arith)), (λ a. absurd (Any-none (HasAt numbers e) a)));
})

pub gathered_one : (numbers : List ℤ) (piece : PieceView) (group : Group) (groups : List Group) → IsGroupOf numbers piece group
    → groups ≡ group ∷ [] → AreGathered numbers (piece ∷ []) groups
gathered_one numbers piece group groups is one = subst (AreGathered numbers (piece ∷ [])) (sym one) (record {
  sound = record {
    sound = All-cons IsGroup group [] is.sound (All-nil IsGroup);
    ordered = λ i j d below low. absurd (omega (arith, below, low));
  };
  exact = λ e. (
    (λ c. elim (Contains-append_cases (elements_in (space_in group) group.points) [] e c) [
      | inl a ↦ Any-first (HasAt numbers e) piece [] ((is.exact e).0 a)
      | inr b ↦ absurd (let h = b.1 in omega arith)
    ]),
    (λ a. Contains-append_left (elements_in (space_in group) group.points) [] e ((is.exact e).1 (Any-one (HasAt numbers e) piece a))),
  );
})

pub gathered_both : (numbers : List ℤ) (pieces : List PieceView) (half : ℕ) (firsts seconds groups : List Group)
    → AreGathered numbers (take half pieces) firsts → AreGathered numbers (drop half pieces) seconds → AreMerged firsts seconds groups
    → AreGathered numbers pieces groups
gathered_both numbers pieces half firsts seconds groups a b merged =
    subst (λ ps. AreGathered numbers ps groups) (take-append-drop half pieces) (record {
      sound = merged.sound;
      exact = λ e. (
        (λ c. elim ((merged.exact e).0 c) [
          | inl f ↦ Any-left (HasAt numbers e) (take half pieces) (drop half pieces) ((a.exact e).0 f)
          | inr s ↦ Any-right (HasAt numbers e) (take half pieces) (drop half pieces) ((b.exact e).0 s)
        ]),
        (λ h. (merged.exact e).1 (elim (Any-parts (HasAt numbers e) (take half pieces) (drop half pieces) h) [
          | inl f ↦ inl ((a.exact e).1 f)
          | inr s ↦ inr ((b.exact e).1 s)
        ])),
      );
    })

-- ---- a value and its pieces
Any-mapped : {X Y : Type 0} (P : Y → Type 0) (f : X → Y) (xs : List X) → Any (λ x. P (f x)) xs → Any P (map f xs)
Any-mapped P f [] a = absurd (Any-none (λ x. P (f x)) a)
Any-mapped P f (x ∷ xs) a = elim (Any-cases (λ x. P (f x)) x xs a) [
  | inl p ↦ Any-first P (f x) (map f xs) p
  | inr b ↦ Any-later P (f x) (map f xs) (Any-mapped P f xs b)
]

module _ (params : List Name) (v : Valuation) (numbers : List ℤ) (named : values_of params v ≡ numbers) where
  has_at : (e : Element) (p : PieceView) → IsPieceOf params p → HasAt numbers e p ↔ HasElement params v e (kept_piece p)
  has_at e p sound = (
    (λ h. record {
      numbers = h.counted;
      space = h.space;
      holds = subst (λ s. HoldsSystem s (point_of params v e)) (view_is params p sound)
          (subst (λ ns. HoldsSystem p.system (ns ++ e.coordinates)) (sym named) h.holds);
    }),
    (λ h. record {
      counted = h.numbers;
      space = h.space;
      holds = subst (λ ns. HoldsSystem p.system (ns ++ e.coordinates)) named
          (subst (λ s. HoldsSystem s (point_of params v e)) (sym (view_is params p sound)) h.holds);
    }),
  )

  any_has : (e : Element) (pieces : List PieceView) → All (IsPieceOf params) pieces
      → Any (HasAt numbers e) pieces ↔ Any (HasElement params v e) (map kept_piece pieces)
  any_has e pieces sound = (
    (λ a. Any-mapped (HasElement params v e) kept_piece pieces
        (Any-with (HasAt numbers e) (IsPieceOf params) (λ p. HasElement params v e (kept_piece p)) (λ p h is. (has_at e p is).0 h)
        pieces sound a)),
    (λ a. Any-with (λ p. HasElement params v e (kept_piece p)) (IsPieceOf params) (HasAt numbers e) (λ p h is. (has_at e p is).1 h)
        pieces sound
        (Any-unmapped (HasElement params v e) kept_piece pieces a)),
  )

-- the elements of a value that has the same ones as another
module _ (value flat : KeptValue) (pieces : List PieceView) (sound : All (IsPieceOf flat.params) pieces)
    (same : map kept_piece pieces ≡ flat.pieces) where
  pub listed : (groups : List Group) (numbers : List ℤ) (v : Valuation) → values_of flat.params v ≡ numbers
      → ((e : Element) → Has flat v e ↔ Has value v e) → AreGathered numbers pieces groups → IsListingOf value v (elements_of groups)
  listed groups numbers v named alike are = record {
    exact = λ e.
        let has = any_has flat.params v numbers named e pieces sound in (
          (λ c. (alike e).0 (subst (Any (HasElement flat.params v e)) same (has.0 ((are.exact e).0 c)))),
          (λ h. (are.exact e).1 (has.1 (subst (Any (HasElement flat.params v e)) (sym same) ((alike e).1 h)))),
        );
    ordered = elements_ordered groups are.sound;
  }

-- the pieces of a value without definitions may be listed
pub listable : (g : Gauge) (value : KeptValue) (pieces : List PieceView) → All (IsPieceOf value.params) pieces
    → map kept_piece pieces ≡ value.pieces → (numbers : List ℤ) (v : Valuation) → values_of value.params v ≡ numbers
    → IsWithinLimit g value → HasNoDefinitions value → All (IsListable g numbers) pieces
listable g value pieces sound same numbers v named within none =
    let systems = pieces_within g value pieces sound same within in
    let plain = All-unmapped (λ (p : KeptPiece). p.definitions ≡ []) kept_piece pieces
    (subst (All (λ (p : KeptPiece). p.definitions ≡ [])) (sym same) none) in
    let long : length numbers ≡ length value.params = ap length (sym named) ∙ length-values_of value.params v in
    (λ i d low.
    let free = view_free value.params (get_or pieces i d) (sound i d low) in
    record {
      space = (sound i d low).kept.space;
      within = systems i d low;
      plain = plain i d low;
      columns = omega (arith, free, long);
    })

pub finite_same : (a b : KeptValue) (v : Valuation) → ((e : Element) → Has a v e ↔ Has b v e) → IsFiniteAt b v → IsFiniteAt a v
finite_same a b v alike finite = (finite.0, λ e h. finite.1 e ((alike e).0 h))

pub within_later : (g h : Gauge) (value : KeptValue) → IsCharged g h → IsWithinLimit g value → IsWithinLimit h value
within_later g h value charged within = subst (λ b. HasNumbersUpTo (2 ^ b - 1) value) (charged_bits g h charged) within
