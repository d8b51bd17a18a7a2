-- Of values of difference constraints with one piece in each space: how many units their hulls may cost.
use Rattle.std.proofs.Common.{◌≡◌, ◌≢◌, ◌∙◌, refl, sym, ap, subst, arith, ℕ, zero, suc, ◌+◌, ◌*◌, ◌<◌, ◌≤◌, Bool, true, false, not}
use Rattle.std.proofs.Common.{Any, List, [], ◌∷◌, map, length, get_or}
use Rattle.std.specs.Prelude.{AllPairs, if◌then◌else◌, Some, None}
use Rattle.std.specs.List.{All, cons_option}
use Rattle.std.proofs.Math.Nat.{mul-le-mul_left, mul-le-mul_right, mul_left_comm, one-mul}
use Rattle.std.proofs.lemmas.Bool.{false≢true}
use Rattle.std.proofs.lemmas.List.{get_or-map, length-map}
use Rattle.std.proofs.lemmas.List.Filters.{length-filter_both}
use Rattle.isl_math.proofs.ListLaws.{All-unmapped}
use Rattle.isl_space.specs.Name.{Name}
use Rattle.isl_space.specs.Space.{space_form_of}
use Rattle.isl_space.specs.declared.space.Space.{Space}
use Rattle.isl_space.specs.SpaceForm.{SpaceForm}
use Rattle.isl_piece.specs.declared.definition.Definition.{Definition}
use Rattle.isl_piece.specs.declared.system.System.{System}
use Rattle.isl_piece.specs.Piece.{PieceView}
use Rattle.isl_piece.specs.System.{free_columns}
use Rattle.isl_ledger.specs.Difference.{IsDifferenceSystem}
use Rattle.isl_ledger.specs.Work.{AreOfSize, Size, allowance, row_limit}
use Rattle.isl_by_space.specs.Spaces.{AreSpacesOf, each_once}
use Rattle.isl_span.specs.Chain.{IsPlainChain}
use Rattle.isl_span.specs.Work.{hull_units}
use Rattle.isl_span.proofs.WorkLaws.{hull_allowed, hull_wider}
use Rattle.isl_union.specs.KeptValue.{KeptPiece, KeptValue, columns_of}
use Rattle.isl_union.specs.Meet.{is_same_space}
use Rattle.isl_union.specs.Minus.{systems_in}
use Rattle.isl_union.specs.Piece.{kept_piece, IsPieceOf}
use Rattle.isl_union.specs.Tame.{IsOfSize, systems_of}
use Rattle.isl_union.proofs.MeetLaws.{space_is, space_itself}
use Rattle.isl_union.proofs.MinusLaws.{view_somewhere}
use Rattle.isl_union.proofs.SizeLaws.{pieces_of_size}
use Rattle.isl_union.proofs.SystemLaws.{view_free}
use Rattle.isl_union.proofs.TameLaws.{item_system}

-- ---- the systems of a space
none_in : (space : SpaceForm) (pieces : List PieceView)
    → ((k : ℕ) (d : PieceView) → k < length pieces → (get_or pieces k d).space ≢ space) → systems_in space pieces ≡ []
none_in space [] other = refl
none_in space (p ∷ pieces) other =
    by (is_same_space space p.space) refl (none_in space pieces (λ k d low. other (suc k) d (omega (arith, low))))
  where
    by : (b : Bool) → is_same_space space p.space ≡ b → systems_in space pieces ≡ []
        → cons_option (if b then Some p.system else None) (systems_in space pieces) ≡ []
    by true is rest = absurd (other 0 p (omega arith) (sym (space_is space p.space is)))
    by false is rest = rest

-- the piece is the one that lies in the space
record IsAlone (space : SpaceForm) (pieces : List PieceView) : Type 0 where
  pub place : ℕ
  pub piece : PieceView
  pub low : place < length pieces
  pub at : piece ≡ get_or pieces place piece
  pub lies : piece.space ≡ space
  pub systems : systems_in space pieces ≡ piece.system ∷ []

alone_in : (space : SpaceForm) (pieces : List PieceView) → AllPairs (λ p q. p.space ≢ q.space) pieces
    → Any (λ piece. piece.space ≡ space) pieces → IsAlone space pieces
alone_in space [] once any = absurd (let low = any.2 in omega (arith, low))
alone_in space (p ∷ pieces) once any = by (is_same_space space p.space) refl (λ other. alone_in space pieces tail (rest other))
  where
    later : (k : ℕ) (d : PieceView) → k < length pieces → p.space ≢ (get_or pieces k d).space
    later k d low = once 0 (suc k) d (omega arith) (omega (arith, low))

    tail : AllPairs (λ p q. p.space ≢ q.space) pieces
    tail i j d before within = once (suc i) (suc j) d (omega (arith, before)) (omega (arith, within))

    rest : p.space ≢ space → Any (λ piece. piece.space ≡ space) pieces
    rest other = from any.0 any.1 any.2 any.3 any.4
      where
        from : (k : ℕ) (q : PieceView) → k < length (p ∷ pieces) → get_or (p ∷ pieces) k q ≡ q → q.space ≡ space
            → Any (λ piece. piece.space ≡ space) pieces
        from zero q low is lies = absurd (other (ap (λ (o : PieceView). o.space) is ∙ lies))
        from (suc k) q low is lies = (k, q, omega (arith, low), is, lies)

    by : (b : Bool) → is_same_space space p.space ≡ b → (p.space ≢ space → IsAlone space pieces) → IsAlone space (p ∷ pieces)
    by true is later_one =
        let here : space ≡ p.space = space_is space p.space is in
        let none = none_in space pieces (λ k d low same. later k d low (sym here ∙ sym same)) in
        record {
          place = 0;
          piece = p;
          low = omega arith;
          at = refl;
          lies = sym here;
          systems = ap (λ (b : Bool). cons_option (if b then Some p.system else None) (systems_in space pieces)) is
              ∙ ap (λ (l : List System). p.system ∷ l) none;
        }
    by false is later_one =
        let other : p.space ≢ space = λ same. false≢true (sym is ∙ subst (λ (o : SpaceForm). is_same_space o p.space ≡ true) same
        (space_itself p.space)) in
        let found = later_one other in
        record {
          place = suc found.place;
          piece = found.piece;
          low = let l = found.low in omega (arith, l);
          at = found.at;
          lies = found.lies;
          systems = ap (λ (b : Bool). cons_option (if b then Some p.system else None) (systems_in space pieces)) is ∙ found.systems;
        }

-- its system is one of difference constraints with a point
alone_plain : (params : List Name) (size : Size) (space : SpaceForm) (pieces : List PieceView) (one : IsAlone space pieces)
    → All (IsPieceOf params) pieces → AreOfSize size (systems_of pieces)
    → IsPlainChain (columns_of params space) size.bits one.piece.system × (columns_of params space ≤ size.columns)
alone_plain params size space pieces one sound all =
    let p = one.piece in
    let own : IsPieceOf params p = subst (IsPieceOf params) (sym one.at) (sound one.place p one.low) in
    let d = item_system (IsDifferenceSystem size.columns size.bits) pieces one.place p one.low one.at all.each in
    let free : free_columns p.system ≡ columns_of params space = view_free params p own ∙ ap (columns_of params) one.lies in
    let none = ap (λ (ds : List Definition). length ds) d.undefined in
    let narrow = d.narrow in
    let wide : p.system.columns ≡ columns_of params space = omega (arith, free, none) in (
      record {
        differences = record { narrow = omega (arith, wide); undefined = d.undefined; normal = d.normal; rows = d.rows };
        columns_are = wide;
        some = λ nowhere. view_somewhere params p own (λ point long. nowhere point (long ∙ free));
      },
      omega (arith, wide, narrow),
    )

-- ---- how many
once_few : (spaces : List SpaceForm) → length (each_once spaces) ≤ length spaces
once_few [] = omega arith
once_few (s ∷ spaces) =
    let left = length-filter_both (λ (t : SpaceForm). not (is_same_space s t)) (λ (t : SpaceForm). not (not (is_same_space s t)))
    (λ t. refl) (each_once spaces) in
    let few = once_few spaces in
    omega (arith, left, few)

spaces_few : (pieces : List PieceView) (spaces : List SpaceForm) → AreSpacesOf pieces spaces → length spaces ≤ length pieces
spaces_few pieces spaces are =
    let few = once_few (map (λ (p : PieceView). p.space) pieces) in
    let long = length-map pieces (λ (p : PieceView). p.space) in
    let same = ap (λ (l : List SpaceForm). length l) are.order in
    omega (arith, few, long, same)

hulls_allowed : (p c : ℕ) → p * hull_units c ≤ 8 * ((c + 1) * (row_limit c * allowance p c))
hulls_allowed p c = by (hull_units c) (c + 1) (row_limit c) (mul-le-mul_left p (hull_allowed c))
  where
    e : ℕ
    e = 1 + c * (row_limit c * row_limit c)

    by : (h k r : ℕ) → p * h ≤ p * (8 * (k * (r * (1 * e)))) → p * h ≤ 8 * (k * (r * (p * e)))
    by h k r l =
        let inner = mul_left_comm p r (1 * e) ∙ ap (λ (x : ℕ). r * (p * x)) (one-mul e) in
        let same = mul_left_comm p 8 (k * (r * (1 * e)))
        ∙ ap (λ (x : ℕ). 8 * x) (mul_left_comm p k (r * (1 * e)) ∙ ap (λ (x : ℕ). k * x) inner) in
        subst (λ (x : ℕ). p * h ≤ x) same l

-- so many hulls, of at most so many pieces
hulls_within : (size : Size) (spaces : ℕ) → spaces ≤ size.pieces
    → spaces * hull_units size.columns ≤ 8 * ((size.columns + 1) * (row_limit size.columns * allowance size.pieces size.columns))
hulls_within size spaces few =
    let more = mul-le-mul_right {m = spaces} {n = size.pieces} (hull_units size.columns) few in
    let all = hulls_allowed size.pieces size.columns in
    by (spaces * hull_units size.columns) (size.pieces * hull_units size.columns)
    (8 * ((size.columns + 1) * (row_limit size.columns * allowance size.pieces size.columns))) more all
  where
    by : (u v w : ℕ) → u ≤ v → v ≤ w → u ≤ w
    by u v w l m = omega (arith, l, m)

-- ---- one of the spaces
one_alone : (pieces : List PieceView) (spaces : List Space) (i : ℕ) (space : Space) → i < length spaces → space ≡ get_or spaces i space
    → AreSpacesOf pieces (map space_form_of spaces) → AllPairs (λ p q. p.space ≢ q.space) pieces → IsAlone (space_form_of space) pieces
one_alone pieces spaces i space low at are once =
    alone_in (space_form_of space) pieces once (subst (λ (s : SpaceForm). Any (λ piece. piece.space ≡ s) pieces) (ap space_form_of (sym at))
    (All-unmapped (λ (s : SpaceForm). Any (λ piece. piece.space ≡ s) pieces) space_form_of spaces are.only i space low))

pieces_once : (pieces : List PieceView) (kept : List KeptPiece) → map kept_piece pieces ≡ kept
    → AllPairs (λ p q. p.space ≢ q.space) kept → AllPairs (λ p q. p.space ≢ q.space) pieces
pieces_once pieces kept is once i j d before within same =
    let long = length-map pieces kept_piece in
    subst (AllPairs (λ p q. p.space ≢ q.space)) (sym is) once i j (kept_piece d) before (omega (arith, within, long))
    (ap (λ (p : KeptPiece). p.space) (get_or-map kept_piece pieces i d (kept_piece d) (omega (arith, before, within))) ∙ same
    ∙ sym (ap (λ (p : KeptPiece). p.space) (get_or-map kept_piece pieces j d (kept_piece d) within)))

spaces_of_size : (pieces : List PieceView) (spaces : List Space) (size : Size) → AreSpacesOf pieces (map space_form_of spaces)
    → AreOfSize size (systems_of pieces) → length spaces ≤ size.pieces
spaces_of_size pieces spaces size are all =
    let few = spaces_few pieces (map space_form_of spaces) are in
    let long = length-map spaces space_form_of in
    let systems = length-map pieces (λ (p : PieceView). p.system) in
    let most = all.few in
    omega (arith, few, long, systems, most)

-- ---- a turn for each space, and all of them
-- the system of the one piece in the space, and that its hull costs no more than any
pub record IsTurn (params : List Name) (size : Size) (space : SpaceForm) (pieces : List PieceView) : Type 0 where
  pub system : System
  pub systems : systems_in space pieces ≡ system ∷ []
  pub plain : IsPlainChain (columns_of params space) size.bits system
  pub narrow : columns_of params space ≤ size.columns
  pub fits : hull_units (columns_of params space) ≤ hull_units size.columns

module _ (value : KeptValue) (pieces : List PieceView) (spaces : List Space) (size : Size)
    (are : AreSpacesOf pieces (map space_form_of spaces)) (sound : All (IsPieceOf value.params) pieces)
    (is : map kept_piece pieces ≡ value.pieces) (of_size : IsOfSize value.params size value) where
  pub turn_of : (i : ℕ) (space : Space) → i < length spaces → space ≡ get_or spaces i space
      → AllPairs (λ p q. p.space ≢ q.space) value.pieces → IsTurn value.params size (space_form_of space) pieces
  turn_of i space low at once =
      let one = one_alone pieces spaces i space low at are (pieces_once pieces value.pieces is once) in
      let plain = alone_plain value.params size (space_form_of space) pieces one sound
      (pieces_of_size value.params size pieces value.pieces sound is of_size) in
      record {
        system = one.piece.system;
        systems = one.systems;
        plain = plain.0;
        narrow = plain.1;
        fits = hull_wider (columns_of value.params (space_form_of space)) size.columns plain.1;
      }

  pub all_turns : length spaces * hull_units size.columns
      ≤ 8 * ((size.columns + 1) * (row_limit size.columns * allowance size.pieces size.columns))
  all_turns =
      hulls_within size (length spaces)
      (spaces_of_size pieces spaces size are (pieces_of_size value.params size pieces value.pieces sound is of_size))
