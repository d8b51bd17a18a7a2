-- A value in printed order is the same value, with the same text.
use Rattle.std.proofs.Common.{◌≡◌, ◌↔◌, inl, inr, ◌∙◌, ◌+◌, ℤ, Bool, true, false, List, [], ◌∷◌, ◌++◌, Option, Some, None, All, Any, map}
use Rattle.std.proofs.Common.{ap, length, sym, subst, refl, arith}
use Rattle.std.specs.Prelude.{if◌then◌else◌, option_map, IfSome}
use Rattle.std.specs.List.Sorted.{IsPermutation}
use Rattle.std.specs.Cmp.{IsStrictWeakOrder}
use Rattle.std.proofs.lemmas.List.{length-map, get_or-map}
use Rattle.std.proofs.lemmas.List.Sorted.{IsPermutation-refl, IsPermutation-cons, IsPermutation-trans, IsPermutation-sym}
use Rattle.std.proofs.lemmas.List.Sorted.{IsPermutation-middle, All-permutation, Contains-permutation, ranks_by}
use Rattle.std.proofs.lemmas.List.Elements.{All-map, All-weaker, All-head, All-tail, All-nil, All-cons}
use Rattle.isl_math.proofs.ListLaws.{Any-weaker, Any-unmapped}
use Rattle.isl_space.specs.Name.{Name}
use Rattle.isl_space.specs.Valuation.{Valuation}
use Rattle.isl_space.specs.Element.{Element}
use Rattle.isl_piece.specs.declared.row.Row.{Row}
use Rattle.isl_piece.specs.Definition.{with_defined}
use Rattle.isl_piece.specs.Row.{HoldsRow, IsWellFormed, HasModulus}
use Rattle.isl_piece.specs.Normal.{normal_row, normal_rows, kept_rows, merged, same_bound, IsNormal, Kept}
use Rattle.isl_piece.proofs.MergeLaws.{SameBound, same_bound-true, same_bound-from, AreApart, fold_apart}
use Rattle.isl_piece.proofs.NormalLaws.{IsNormal-from}
use Rattle.isl_union.specs.KeptValue.{KeptPiece, KeptValue, HasElement, Has, HasNoDefinitions, IsKeptPiece, IsKeptValue}
use Rattle.isl_union.specs.KeptValue.{point_of, columns_of}
use Rattle.isl_row_text.specs.Naming.{coordinate_names, column_names}
use Rattle.isl_row_text.specs.Ordered.{placed, in_order}
use Rattle.isl_print.specs.OrderedValue.{ordered_piece, ordered}
use Rattle.isl_print.specs.PieceOrder.{piece_before}
use Rattle.isl_print.specs.Printed.{piece_text, pieces_text, params_text, printed}
use Rattle.isl_row_text.specs.RowOrder.{row_before}
use Rattle.isl_row_text.specs.RowText.{row_text, conjunction_text}
use Rattle.isl_print.specs.Tuple.{tuples_text}
use Rattle.isl_row_text.proofs.OrderedLaws.{Rises, Least, rises_in_order, map-in_order}
use Rattle.isl_print.proofs.PieceOrderLaws.{piece_cmp_total}
use Rattle.isl_row_text.proofs.RowOrderLaws.{row_cmp_total}
use Rattle.isl_print.proofs.TextLaws.{All-in_order}

rows_ranked : IsStrictWeakOrder row_before
rows_ranked = ranks_by row_cmp_total (λ (r : Row). r)

pieces_ranked : IsStrictWeakOrder piece_before
pieces_ranked = ranks_by piece_cmp_total (λ (p : KeptPiece). p)

-- ---- what is in order stays as it is
module _ {X : Type 0} (before : X → X → Bool) where
  placed_least : (x : X) (xs : List X) → Least before x xs → placed before x xs ≡ x ∷ xs
  placed_least x [] least = refl
  placed_least x (y ∷ ys) least = ap (λ (b : Bool). if b then y ∷ placed before x ys else x ∷ y ∷ ys) least.0

  in_order-rises : (xs : List X) → Rises before xs → in_order before xs ≡ xs
  in_order-rises [] rises = refl
  in_order-rises (x ∷ xs) rises = ap (placed before x) (in_order-rises xs rises.1) ∙ placed_least x xs rises.0

  pub in_order-twice : IsStrictWeakOrder before → (xs : List X) → in_order before (in_order before xs) ≡ in_order before xs
  in_order-twice o xs = in_order-rises (in_order before xs) (rises_in_order before o xs)

  -- ---- the elements are the same
  swapped : (x y : X) (l : List X) → IsPermutation (x ∷ y ∷ l) (y ∷ x ∷ l)
  swapped x y l = IsPermutation-sym (y ∷ x ∷ l) (x ∷ y ∷ l) (IsPermutation-middle (y ∷ []) x l)

  placed_permutes : (x : X) (l : List X) → IsPermutation (x ∷ l) (placed before x l)
  placed_permutes x [] = IsPermutation-refl (x ∷ [])
  placed_permutes x (y ∷ l) = by (before y x) (placed_permutes x l)
    where
      by : (b : Bool) → IsPermutation (x ∷ l) (placed before x l)
          → IsPermutation (x ∷ y ∷ l) (if b then y ∷ placed before x l else x ∷ y ∷ l)
      by true again = IsPermutation-trans (x ∷ y ∷ l) (y ∷ x ∷ l) (y ∷ placed before x l) (swapped x y l) (IsPermutation-cons y (x ∷ l) (placed before x l) again)
      by false again = IsPermutation-refl (x ∷ y ∷ l)

  pub in_order-permutes : (xs : List X) → IsPermutation xs (in_order before xs)
  in_order-permutes [] = IsPermutation-refl []
  in_order-permutes (x ∷ xs) =
      IsPermutation-trans (x ∷ xs) (x ∷ in_order before xs) (placed before x (in_order before xs)) (IsPermutation-cons x xs (in_order before xs) (in_order-permutes xs))
      (placed_permutes x (in_order before xs))

  pub All-out_of_order : (P : X → Type 0) (xs : List X) → All P (in_order before xs) → All P xs
  All-out_of_order P xs all =
      All-permutation P (in_order before xs) xs (IsPermutation-sym xs (in_order before xs) (in_order-permutes xs)) all

-- some element of a list is one of the list in another order
any_permutation : {X : Type 0} (P : X → Type 0) (xs ys : List X) → IsPermutation xs ys → Any P xs → Any P ys
any_permutation P xs ys moves some =
    let c = Contains-permutation xs ys some.1 moves (some.0, some.2, some.3) in (c.0, some.1, c.1, c.2, some.4)

any_map : {X Y : Type 0} (f : X → Y) (P : Y → Type 0) (xs : List X) → Any (λ x. P (f x)) xs → Any P (map f xs)
any_map f P xs some =
    (some.0, f some.1, omega (arith, some.2, length-map xs f), get_or-map f xs some.0 some.1 (f some.1) some.2 ∙ ap f some.3, some.4)

-- ---- rows
same_bound_back : (a b : Row) → same_bound a b ≡ false → same_bound b a ≡ false
same_bound_back a b apart = by (same_bound b a) refl
  where
    turned : SameBound b a → SameBound a b
    turned s = record { kind = sym s.kind; coefs = sym s.coefs; k = sym s.k; constant = elim s.constant [ inl k ↦ inl (sym s.kind ∙ k) | inr c ↦ inr (sym c) ] }

    by : (q : Bool) → same_bound b a ≡ q → same_bound b a ≡ false
    by true is = let t = same_bound-from a b (turned (same_bound-true b a is)) in absurd cc
    by false is = is

apart_placed : (x : Row) (l : List Row) → All (λ b. same_bound x b ≡ false) l → AreApart l → AreApart (placed row_before x l)
apart_placed x [] first apart = (All-nil (λ b. same_bound x b ≡ false), tt)
apart_placed x (y ∷ l) first apart = by (row_before y x) (apart_placed x l (All-tail (λ b. same_bound x b ≡ false) y l first) apart.1)
  where
    back : same_bound y x ≡ false
    back = same_bound_back x y (All-head (λ b. same_bound x b ≡ false) y l first)

    by : (b : Bool) → AreApart (placed row_before x l) → AreApart (if b then y ∷ placed row_before x l else x ∷ y ∷ l)
    by true again = (All-permutation (λ b. same_bound y b ≡ false) (x ∷ l) (placed row_before x l) (placed_permutes row_before x l) (All-cons (λ b. same_bound y b ≡ false) x l back apart.0), again)
    by false again = (first, apart)

apart_in_order : (rows : List Row) → AreApart rows → AreApart (in_order row_before rows)
apart_in_order [] apart = tt
apart_in_order (r ∷ rows) apart = apart_placed r (in_order row_before rows) (All-in_order row_before (λ b. same_bound r b ≡ false) rows apart.0) (apart_in_order rows apart.1)

normal_rows_apart : (rows : List Row) → IfSome (normal_rows rows) AreApart
normal_rows_apart rows = by (kept_rows (map normal_row rows))
  where
    by : (o : Option (List Row)) → IfSome (option_map merged o) AreApart
    by None = tt
    by (Some kept) = fold_apart [] kept tt

normal_in_order : (rows : List Row) → All (λ r. HasModulus r.kind r.k) rows → IsNormal rows → IsNormal (in_order row_before rows)
normal_in_order rows divisors normal =
    let apart : AreApart rows = subst (λ (o : Option (List Row)). IfSome o AreApart) normal.itself (normal_rows_apart rows) in
    IsNormal-from (in_order row_before rows) (All-in_order row_before (λ r. normal_row r ≡ Kept r) rows normal.settled) (All-in_order row_before (λ r. HasModulus r.kind r.k) rows divisors) (apart_in_order rows apart)

-- ---- pieces and values
pub kept_in_order : (params : List Name) (piece : KeptPiece) → IsKeptPiece params piece → IsKeptPiece params (ordered_piece piece)
kept_in_order params piece kept =
    let formed : Row → Type 0 = IsWellFormed (length piece.definitions + columns_of params piece.space) in
    record {
      space = kept.space;
      definitions = kept.definitions;
      rows = All-in_order row_before formed piece.rows kept.rows;
      normal = normal_in_order piece.rows (All-weaker formed (λ r. HasModulus r.kind r.k) (λ r h. h.modulus) piece.rows kept.rows)
          kept.normal;
      live = λ void. kept.live (λ point long holds.
          void point long (All-in_order row_before (λ r. HoldsRow r (with_defined piece.definitions point)) piece.rows holds));
    }

pub IsKeptValue-ordered : (value : KeptValue) → IsKeptValue value → IsKeptValue (ordered value)
IsKeptValue-ordered value kept = record {
  params = kept.params;
  pieces = All-map (IsKeptPiece value.params) ordered_piece (in_order piece_before value.pieces)
      (All-weaker (IsKeptPiece value.params) (λ p. IsKeptPiece value.params (ordered_piece p)) (kept_in_order value.params) (in_order piece_before value.pieces)
      (All-in_order piece_before (IsKeptPiece value.params) value.pieces kept.pieces));
}

pub HasNoDefinitions-ordered : (value : KeptValue) → HasNoDefinitions value → HasNoDefinitions (ordered value)
HasNoDefinitions-ordered value none =
    let P : KeptPiece → Type 0 = λ piece. piece.definitions ≡ [] in
    All-map P ordered_piece (in_order piece_before value.pieces) (All-in_order piece_before P value.pieces none)

piece_text-ordered : (params : List Name) (piece : KeptPiece) → piece_text params (ordered_piece piece) ≡ piece_text params piece
piece_text-ordered params piece =
    ap (λ rows. tuples_text piece.space (coordinate_names params piece.space) ++ conjunction_text (map (row_text (column_names params piece.space)) rows)) (in_order-twice row_before rows_ranked piece.rows)

piece_texts-ordered : (params : List Name) (pieces : List KeptPiece)
    → map (piece_text params) (map ordered_piece pieces) ≡ map (piece_text params) pieces
piece_texts-ordered params [] = refl
piece_texts-ordered params (piece ∷ pieces) =
    ap (λ t. t ∷ map (piece_text params) (map ordered_piece pieces)) (piece_text-ordered params piece)
    ∙ ap (λ ts. piece_text params piece ∷ ts) (piece_texts-ordered params pieces)

pub rows_twice : (rows : List Row) → in_order row_before (in_order row_before rows) ≡ in_order row_before rows
rows_twice rows = in_order-twice row_before rows_ranked rows

pub pieces_twice : (pieces : List KeptPiece) → in_order piece_before (map ordered_piece (in_order piece_before pieces))
    ≡ map ordered_piece (in_order piece_before pieces)
pieces_twice pieces =
    sym (map-in_order ordered_piece piece_before (in_order piece_before pieces))
    ∙ ap (map ordered_piece) (in_order-twice piece_before pieces_ranked pieces)

pub printed-ordered : (value : KeptValue) → printed (ordered value) ≡ printed value
printed-ordered value =
    let pieces = in_order piece_before value.pieces in
    ap (λ ps. params_text value.params ++ pieces_text (map (piece_text value.params) ps)) (pieces_twice value.pieces)
    ∙ ap (λ ts. params_text value.params ++ pieces_text ts) (piece_texts-ordered value.params pieces)

module _ (params : List Name) (valuation : Valuation) (element : Element) where
  abbrev point : KeptPiece → List ℤ
  point piece = with_defined piece.definitions (point_of params valuation element)

  in_ordered : (piece : KeptPiece) → HasElement params valuation element piece → HasElement params valuation element (ordered_piece piece)
  in_ordered piece has =
      let holds = All-in_order row_before (λ r. HoldsRow r (point piece)) piece.rows has.holds in
      record { numbers = has.numbers; space = has.space; holds = holds }

  out_of_ordered : (piece : KeptPiece) → HasElement params valuation element (ordered_piece piece)
      → HasElement params valuation element piece
  out_of_ordered piece has =
      let holds = All-out_of_order row_before (λ r. HoldsRow r (point piece)) piece.rows has.holds in
      record { numbers = has.numbers; space = has.space; holds = holds }

pub Has-ordered : (value : KeptValue) (valuation : Valuation) (element : Element)
    → Has (ordered value) valuation element ↔ Has value valuation element
Has-ordered value valuation element =
    let has = HasElement value.params valuation element in
    let there = in_order-permutes piece_before value.pieces in (
      λ some. any_permutation has (in_order piece_before value.pieces) value.pieces (IsPermutation-sym value.pieces (in_order piece_before value.pieces) there)
          (Any-weaker (λ p. has (ordered_piece p)) has (out_of_ordered value.params valuation element) (in_order piece_before value.pieces) (Any-unmapped has ordered_piece (in_order piece_before value.pieces) some)),
      λ some. any_map ordered_piece has (in_order piece_before value.pieces)
          (Any-weaker has (λ p. has (ordered_piece p)) (in_ordered value.params valuation element) (in_order piece_before value.pieces) (any_permutation has value.pieces (in_order piece_before value.pieces) there some)),
    )
