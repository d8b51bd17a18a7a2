-- Normal pieces, and which of them are kept.
use Rattle.std.proofs.Common.{◌≡◌, ◌↔◌, inl, inr, refl, sym, ap, ◌∙◌, subst, ℕ, ◌+◌, ◌<◌, ℤ, Option, Some, None, option_map, option_to_list}
use Rattle.std.proofs.Common.{IfSome, List, [], ◌∷◌, ◌++◌, All, Any, length, get_or, take, filter_map}
use Rattle.std.specs.List.{cons_option}
use Rattle.std.specs.Option.{unwrap_or}
use Rattle.std.proofs.lemmas.List.{take_more}
use Rattle.std.proofs.lemmas.List.Elements.{All-cons, All-head, All-nil, All-tail, filter_map-append}
use Rattle.std.proofs.lemmas.Option.{none-some, same_Some}
use Rattle.isl_math.proofs.ListLaws.{Any-cases, Any-first, Any-later, Any-none}
use Rattle.isl_meter.specs.Gauge.{Gauge}
use Rattle.isl_space.specs.Element.{Element}
use Rattle.isl_space.specs.Name.{Name}
use Rattle.isl_space.specs.SpaceForm.{IsWellFormedSpace}
use Rattle.isl_space.specs.Valuation.{Valuation}
use Rattle.isl_piece.specs.declared.row.Row.{Row}
use Rattle.isl_piece.specs.Definition.{with_defined}
use Rattle.isl_piece.specs.Normal.{normal_rows, IsNormal}
use Rattle.isl_piece.specs.Row.{HasModulus, IsRowUpTo, IsRowWithin, IsWellFormed}
use Rattle.isl_piece.specs.System.{HoldRows, HoldsSystem, IsSystemWithin}
use Rattle.isl_piece.proofs.NormalLaws.{HoldWhere, normal_rows_hold, normal_rows_normal, normal_rows_up_to, normal_rows_well_formed}
use Rattle.isl_piece.proofs.RowsLaws.{normal_rows_within}
use Rattle.isl_union.specs.KeptValue.{KeptPiece, HasElement, IsKeptPiece, IsLive, IsVoid, columns_of, piece_system, point_of}
use Rattle.isl_union.specs.Live.{normal_of, settled, AreLiveOf, IsLiveOf}
use Rattle.isl_union.specs.Numbers.{IsPieceUpTo}
use Rattle.isl_union.proofs.SystemLaws.{kept_from, void_has}

-- the piece with other rows
abbrev pub with_rows : KeptPiece → List Row → KeptPiece
with_rows piece rows = record { space = piece.space; definitions = piece.definitions; rows = rows }

-- ---- the normal form of a piece
pub normal_case : (P : KeptPiece → Type 0) (piece new : KeptPiece)
    → ((rows : List Row) → normal_rows piece.rows ≡ Some rows → P (with_rows piece rows)) → normal_of piece ≡ Some new → P new
normal_case P piece new f e = by (normal_rows piece.rows) refl e
  where
    by : (o : Option (List Row)) → normal_rows piece.rows ≡ o → option_map (with_rows piece) o ≡ Some new → P new
    by None is e = absurd (none-some new e)
    by (Some rows) is e = subst P (same_Some (with_rows piece rows) new e) (f rows is)

module _ (g : Gauge) (params : List Name) (piece : KeptPiece) (within : IsSystemWithin g (piece_system params piece)) where
  moduli : All (λ r. HasModulus r.kind r.k) piece.rows
  moduli = λ k d l. (within.rows k d l).modulus

  hold_where : (xs : List ℤ)
      → HoldWhere (normal_rows piece.rows) (with_defined piece.definitions xs) (HoldRows piece.rows (with_defined piece.definitions xs))
  hold_where xs = normal_rows_hold piece.rows (with_defined piece.definitions xs) moduli

  pub none_void : normal_of piece ≡ None → IsVoid params piece
  none_void e point l h = by (normal_rows piece.rows) (hold_where point) e
    where
      by : (o : Option (List Row))
          → HoldWhere o (with_defined piece.definitions point) (HoldRows piece.rows (with_defined piece.definitions point))
          → option_map (with_rows piece) o ≡ None → ⊥
      by None w e = w h
      by (Some rows) w e = none-some (with_rows piece rows) (sym e)

  module _ (new : KeptPiece) (is : normal_of piece ≡ Some new) where
    pub normal_space : new.space ≡ piece.space
    normal_space = normal_case (λ p. p.space ≡ piece.space) piece new (λ rows e. refl) is

    pub normal_normal : IsNormal new.rows
    normal_normal = normal_case (λ p. IsNormal p.rows) piece new
        (λ rows e. subst (λ (o : Option (List Row)). IfSome o IsNormal) e (normal_rows_normal piece.rows moduli)) is

    pub normal_within : IsSystemWithin g (piece_system params new)
    normal_within = normal_case (λ p. IsSystemWithin g (piece_system params p)) piece new
        (λ rows e. record {
          rows = let n = length piece.definitions + columns_of params piece.space in
              subst (λ (o : Option (List Row)). IfSome o (All (IsWellFormed n))) e (normal_rows_well_formed n piece.rows within.rows);
          within = subst (λ (o : Option (List Row)). IfSome o (All (IsRowWithin g))) e
              (normal_rows_within g piece.rows moduli within.within);
          count = within.count;
          definitions = within.definitions;
        }) is

    pub normal_up_to : (b : ℕ) → IsPieceUpTo b piece → IsPieceUpTo b new
    normal_up_to b h = normal_case (IsPieceUpTo b) piece new
        (λ rows e. record {
          rows = subst (λ (o : Option (List Row)). IfSome o (All (IsRowUpTo b))) e (normal_rows_up_to b piece.rows moduli h.rows);
          definitions = h.definitions;
        }) is

    pub normal_points : (xs : List ℤ) → HoldsSystem (piece_system params new) xs ↔ HoldsSystem (piece_system params piece) xs
    normal_points xs = normal_case (λ p. HoldsSystem (piece_system params p) xs ↔ HoldsSystem (piece_system params piece) xs) piece new
        (λ rows e. subst (λ (o : Option (List Row)). HoldWhere o (with_defined piece.definitions xs)
        (HoldRows piece.rows (with_defined piece.definitions xs))) e (hold_where xs)) is

    pub normal_has : (v : Valuation) (e : Element) → HasElement params v e new ↔ HasElement params v e piece
    normal_has v e =
        let points = normal_points (point_of params v e) in (
          (λ h. record { numbers = h.numbers; space = sym normal_space ∙ h.space; holds = points.0 h.holds }),
          (λ h. record { numbers = h.numbers; space = normal_space ∙ h.space; holds = points.1 h.holds }),
        )

    pub normal_void : IsVoid params new ↔ IsVoid params piece
    normal_void =
        let same : columns_of params new.space ≡ columns_of params piece.space = ap (columns_of params) normal_space in (
          (λ n point l h. n point (l ∙ sym same) ((normal_points point).1 h)),
          (λ n point l h. n point (l ∙ same) ((normal_points point).0 h)),
        )

    pub normal_kept : IsWellFormedSpace piece.space → IsLive params piece → IsKeptPiece params new
    normal_kept space live =
        kept_from g params new (subst IsWellFormedSpace (sym normal_space) space) normal_within normal_normal (λ n. live (normal_void.0 n))

  -- ---- a piece that has elements
  module _ (live : IsLive params piece) where
    pub settled_is : normal_of piece ≡ Some (settled piece)
    settled_is = by (normal_rows piece.rows) (λ e. live (none_void e))
      where
        by : (o : Option (List Row)) → (option_map (with_rows piece) o ≡ None → ⊥)
            → option_map (with_rows piece) o ≡ Some (with_rows piece (unwrap_or o []))
        by None n = absurd (n refl)
        by (Some rows) n = refl

    pub settled_kept : IsWellFormedSpace piece.space → IsKeptPiece params (settled piece)
    settled_kept space = normal_kept (settled piece) settled_is space live

    pub settled_has : (v : Valuation) (e : Element) → HasElement params v e (settled piece) ↔ HasElement params v e piece
    settled_has v e = normal_has (settled piece) settled_is v e

    pub settled_up_to : (b : ℕ) → IsPieceUpTo b piece → IsPieceUpTo b (settled piece)
    settled_up_to b h = normal_up_to (settled piece) settled_is b h

-- a normal piece is its own normal form
pub normal-own : (piece : KeptPiece) → IsNormal piece.rows → normal_of piece ≡ Some piece
normal-own piece normal = ap (option_map (with_rows piece)) normal.itself

pub settled-own : (piece : KeptPiece) → IsNormal piece.rows → settled piece ≡ piece
settled-own piece normal = ap (λ (o : Option (List Row)). with_rows piece (unwrap_or o [])) normal.itself

-- ---- which pieces are kept
pub live_append : (params : List Name) (pieces kept others more : List KeptPiece) → AreLiveOf params pieces kept
    → AreLiveOf params others more → AreLiveOf params (pieces ++ others) (kept ++ more)
live_append params [] kept others more is q = subst (λ (k : List KeptPiece). AreLiveOf params others (k ++ more)) (sym is) q
live_append params (piece ∷ pieces) kept others more (inl p) q = inl (p.0, live_append params pieces kept others more p.1 q)
live_append params (piece ∷ pieces) kept others more (inr p) q =
    inr (p.0, p.1 ++ more, ap (λ (k : List KeptPiece). k ++ more) p.2, live_append params pieces p.1 others more p.3 q)

pub live_one : (params : List Name) (piece found : Option KeptPiece) → IsLiveOf params piece found
    → AreLiveOf params (option_to_list piece) (option_to_list found)
live_one params None None h = refl
live_one params (Some piece) None h = inl (h, refl)
live_one params piece (Some found) h = rw h.0 (inr (h.1, [], refl, refl))

-- where each of the pieces has an element, all are kept
pub live_every : (params : List Name) (pieces kept : List KeptPiece) → AreLiveOf params pieces kept → All (IsLive params) pieces
    → kept ≡ pieces
live_every params [] kept is all = is
live_every params (piece ∷ pieces) kept (inl p) all = absurd (All-head (IsLive params) piece pieces all p.0)
live_every params (piece ∷ pieces) kept (inr p) all =
    p.2 ∙ ap (λ (rest : List KeptPiece). piece ∷ rest) (live_every params pieces p.1 p.3 (All-tail (IsLive params) piece pieces all))

pub live_itself : (params : List Name) (pieces : List KeptPiece) → All (IsLive params) pieces → AreLiveOf params pieces pieces
live_itself params [] all = refl
live_itself params (piece ∷ pieces) all =
    inr (All-head (IsLive params) piece pieces all, pieces, refl, live_itself params pieces (All-tail (IsLive params) piece pieces all))

-- what the pieces have of P, and that the piece has an element, gives Q of what is kept
pub live_all : (params : List Name) (P Q : KeptPiece → Type 0) → ((piece : KeptPiece) → P piece → IsLive params piece → Q piece)
    → (pieces kept : List KeptPiece) → AreLiveOf params pieces kept → All P pieces → All Q kept
live_all params P Q f [] kept is all = rw is (All-nil Q)
live_all params P Q f (piece ∷ pieces) kept (inl p) all = live_all params P Q f pieces kept p.1 (All-tail P piece pieces all)
live_all params P Q f (piece ∷ pieces) kept (inr p) all =
    rw p.2
    (All-cons Q piece p.1 (f piece (All-head P piece pieces all) p.0) (live_all params P Q f pieces p.1 p.3 (All-tail P piece pieces all)))

module _ (params : List Name) (v : Valuation) (e : Element) where
  abbrev H : KeptPiece → Type 0
  H = HasElement params v e

  pub live_any : (pieces kept : List KeptPiece) → AreLiveOf params pieces kept → Any H kept ↔ Any H pieces
  live_any [] kept is = ((λ a. absurd (Any-none H (subst (Any H) is a))), (λ a. absurd (Any-none H a)))
  live_any (piece ∷ pieces) kept (inl p) =
      let rest = live_any pieces kept p.1 in (
        (λ a. Any-later H piece pieces (rest.0 a)),
        (λ a. elim (Any-cases H piece pieces a) [ inl h ↦ absurd (void_has params v e piece p.0 h) | inr m ↦ rest.1 m ]),
      )
  live_any (piece ∷ pieces) kept (inr p) =
      let rest = live_any pieces p.1 p.3 in (
        (λ a. elim (Any-cases H piece p.1 (subst (Any H) p.2 a)) [
          | inl h ↦ Any-first H piece pieces h
          | inr m ↦ Any-later H piece pieces (rest.0 m)
        ]),
        (λ a. subst (Any H) (sym p.2) (elim (Any-cases H piece pieces a) [
          | inl h ↦ Any-first H piece p.1 h
          | inr m ↦ Any-later H piece p.1 (rest.1 m)
        ])),
      )

-- ---- one more of a list that is looked at
pub filter_more : {A B : Type 0} (f : A → Option B) (xs : List A) (i : ℕ) (x : A) → i < length xs → get_or xs i x ≡ x
    → filter_map f (take (i + 1) xs) ≡ filter_map f (take i xs) ++ option_to_list (f x)
filter_more {A = A} {B = B} f xs i x low at =
    ap (filter_map f) (take_more xs i x low ∙ ap (λ y. take i xs ++ y ∷ []) at) ∙ filter_map-append f (take i xs) (x ∷ [])
    ∙ ap (λ l. filter_map f (take i xs) ++ l) (by (f x))
  where
    by : (o : Option B) → cons_option o [] ≡ option_to_list o
    by None = refl
    by (Some y) = refl
