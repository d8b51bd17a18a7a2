-- Values that are made of pieces.
use Rattle.std.proofs.Common.{◌≡◌, ◌↔◌, inl, inr, refl, sym, ap, ◌∙◌, arith, subst, ℕ, ◌+◌, ℤ, Option, Some, None, option_map}
use Rattle.std.proofs.Common.{Bool, false, IsTrue, IfSome, List, [], ◌∷◌, All, Any, get_or, length, map, filter_map}
use Rattle.std.specs.List.{cons_option}
use Rattle.std.specs.Option.{unwrap_or}
use Rattle.std.proofs.lemmas.List.Elements.{All-cons, All-head, All-map, All-nil, All-tail}
use Rattle.std.proofs.lemmas.Option.{same_Some}
use Rattle.isl_math.proofs.ListLaws.{Any-cases, Any-first, Any-later}
use Rattle.isl_meter.specs.Gauge.{Gauge}
use Rattle.isl_space.specs.Element.{Element}
use Rattle.isl_space.specs.Name.{Name}
use Rattle.isl_space.specs.SpaceForm.{SpaceForm, IsWellFormedSpace}
use Rattle.isl_space.specs.Valuation.{Valuation}
use Rattle.isl_piece.specs.declared.row.Row.{Row}
use Rattle.isl_piece.specs.declared.system.System.{System}
use Rattle.isl_piece.specs.Formed.{IsSystemUpTo}
use Rattle.isl_piece.specs.Normal.{normal_rows, normal_system}
use Rattle.isl_piece.specs.Piece.{PieceView}
use Rattle.isl_piece.specs.System.{HoldsSystem, IsSystemWithin, free_columns}
use Rattle.isl_elim.specs.Sample.{IsNowhere}
use Rattle.isl_union.specs.KeptValue.{KeptPiece, HasElement, IsLive, IsVoid, columns_of, piece_system}
use Rattle.isl_union.specs.Live.{normal_of, settled, AreLiveOf, IsLiveOf}
use Rattle.isl_union.specs.Numbers.{IsPieceUpTo}
use Rattle.isl_union.specs.Piece.{kept_piece, piece_of, IsPieceOf, IsPieceOver}
use Rattle.isl_union.proofs.LiveLaws.{live_all, live_any, none_void, normal_has, normal_kept, normal_up_to, normal_void, settled_has}
use Rattle.isl_union.proofs.LiveLaws.{settled_kept, settled_up_to, with_rows}
use Rattle.isl_union.proofs.SystemLaws.{columns_from, made_sound, over_is, system_is, void_has}

-- ---- the normal form of a system
pub system_case : (P : System → Type 0) (s t : System)
    → ((rows : List Row) → normal_rows s.rows ≡ Some rows → P (record { columns = s.columns; definitions = s.definitions; rows = rows }))
    → normal_system s ≡ Some t → P t
system_case P s t f e = by (normal_rows s.rows) refl e
  where
    by : (o : Option (List Row)) → normal_rows s.rows ≡ o
        → option_map (λ rows. let u : System = record { columns = s.columns; definitions = s.definitions; rows = rows } in u) o ≡ Some t
        → P t
    by None is e = cc
    by (Some rows) is e = subst P (same_Some (record { columns = s.columns; definitions = s.definitions; rows = rows }) t e) (f rows is)

pub system_free : (s t : System) → normal_system s ≡ Some t → free_columns t ≡ free_columns s
system_free s t e = system_case (λ u. free_columns u ≡ free_columns s) s t (λ rows is. refl) e

-- a system whose normal form holds nowhere holds nowhere
pub system_nowhere : (s t : System) → normal_system s ≡ Some t → ((point : List ℤ) → HoldsSystem t point ↔ HoldsSystem s point)
    → IsNowhere (free_columns t) (HoldsSystem t) → IsNowhere (free_columns s) (HoldsSystem s)
system_nowhere s t e points n point l h = n point (l ∙ sym (system_free s t e)) ((points point).1 h)

pub not_true : (b : Bool) → b ≡ false → IsTrue b → ⊥
not_true b e t = grind arith

-- a piece that is made of a space and of a system with its normal rows
pub settled_made : (m : PieceView) (space t : SpaceForm) (s : System) (rows : List Row) (o : Option (List Row)) → o ≡ normal_rows s.rows
    → o ≡ Some rows → t ≡ space
    → m ≡ record { space = t; system = record { columns = s.columns; definitions = s.definitions; rows = rows } }
    → kept_piece m ≡ settled (piece_of space s)
settled_made m space t s rows o exact some same is =
    ap (λ (x : PieceView). kept_piece x) is
    ∙ ap (λ (u : SpaceForm). let p : KeptPiece = record { space = u; definitions = s.definitions; rows = rows } in p) same
    ∙ ap (λ (rs : List Row). let p : KeptPiece = record { space = space; definitions = s.definitions; rows = rs } in p)
    (ap (λ (p : Option (List Row)). unwrap_or p []) (sym some ∙ exact))

-- ---- one piece
module _ (g : Gauge) (params : List Name) (space : SpaceForm) (s : System) (within : IsSystemWithin g s)
    (free : free_columns s ≡ columns_of params space) where
  abbrev there : KeptPiece
  there = piece_of space s

  here : s ≡ piece_system params there
  here = system_is params space s (columns_from g params space s within free)

  pub here_within : IsSystemWithin g (piece_system params there)
  here_within = subst (IsSystemWithin g) here within

  here_void : IsNowhere (free_columns s) (HoldsSystem s) → IsVoid params there
  here_void n point l h = n point (l ∙ sym free) h

  pub here_live : ¬ IsNowhere (free_columns s) (HoldsSystem s) → IsLive params there
  here_live live void = live (λ point l h. void point (l ∙ free) h)

  pub found_none : IsNowhere (free_columns s) (HoldsSystem s) → IsLiveOf params (normal_of there) None
  found_none n = by (normal_of there) refl
    where
      by : (o : Option KeptPiece) → normal_of there ≡ o → IfSome o (IsVoid params)
      by None is = tt
      by (Some new) is = (normal_void g params there here_within new is).1 (here_void n)

  module _ (t : System) (is : normal_system s ≡ Some t) (live : ¬ IsNowhere (free_columns t) (HoldsSystem t)) (m : PieceView)
      (made : m ≡ record { space = space; system = t }) where
    new_is : normal_of there ≡ Some (kept_piece m)
    new_is =
        system_case (λ u. normal_of there ≡ Some (piece_of space u)) s t (λ rows e. ap (option_map (with_rows there)) e) is
        ∙ ap (λ (x : PieceView). Some (kept_piece x)) (sym made)

    new_space : m.space ≡ space
    new_space = ap (λ (x : PieceView). x.space) made

    new_live : IsLive params (kept_piece m)
    new_live void = live (λ point l h. (rw made at void) point (l ∙ system_free s t is ∙ free) h)

    pub found_some : IsLiveOf params (normal_of there) (Some (kept_piece m))
    found_some = (new_is, new_live)

    pub found_sound : IsWellFormedSpace space → IsPieceOf params m
    found_sound formed =
        made_sound params m (kept_piece m) refl
        (rw made (system_case (λ u. u.columns ≡ length u.definitions + columns_of params space) s t
        (λ rows e. columns_from g params space s within free) is))
        (normal_kept g params there here_within (kept_piece m) new_is formed
        (λ void. new_live ((normal_void g params there here_within (kept_piece m) new_is).1 void)))

  -- ---- a piece that has elements
  module _ (live : ¬ IsNowhere (free_columns s) (HoldsSystem s)) where
    pub settled_some : (rows : List Row) (o : Option (List Row)) → o ≡ normal_rows s.rows → o ≡ Some rows → rows ≡ (settled there).rows
    settled_some rows o exact is = ap (λ (p : Option (List Row)). unwrap_or p []) (sym is ∙ exact)

    pub settled_none : (o : Option (List Row)) → o ≡ normal_rows s.rows → o ≡ None → ⊥
    settled_none o exact is = here_live live (none_void g params there here_within (ap (option_map (with_rows there)) (sym exact ∙ is)))

    pub settled_sound : (m : PieceView) → kept_piece m ≡ settled there → m.system.columns ≡ s.columns → IsWellFormedSpace space
        → IsPieceOf params m
    settled_sound m is columns formed =
        made_sound params m (settled there) is (columns ∙ columns_from g params space s within free)
        (settled_kept g params there here_within (here_live live) formed)

-- ---- lists of pieces
module _ (g : Gauge) (params : List Name) where
  -- pieces of which a value may be made, by content
  abbrev pub IsOver : KeptPiece → Type 0
  IsOver piece = IsWellFormedSpace piece.space × IsSystemWithin g (piece_system params piece)

  pub over_here : (p : PieceView) → IsPieceOver g params p → IsOver (kept_piece p)
  over_here p over = (over.space, subst (IsSystemWithin g) (over_is g params p over) over.within)

  pub all_over : (pieces : List PieceView) → All (IsPieceOver g params) pieces → All IsOver (map kept_piece pieces)
  all_over pieces all = All-map IsOver kept_piece pieces (λ k d l. over_here (get_or pieces k d) (all k d l))

  pub all_live : (pieces : List PieceView) → All (IsPieceOver g params) pieces
      → All (λ piece. ¬ IsNowhere (free_columns piece.system) (HoldsSystem piece.system)) pieces
      → All (IsLive params) (map kept_piece pieces)
  all_live pieces all live = All-map (IsLive params) kept_piece pieces (λ k d l.
      let piece = get_or pieces k d in
      let over = all k d l in
      here_live g params piece.space piece.system over.within over.columns (live k d l))

  module _ (v : Valuation) (e : Element) where
    abbrev H : KeptPiece → Type 0
    H = HasElement params v e

    normal_any : (pieces : List KeptPiece) → All IsOver pieces → Any H (filter_map normal_of pieces) ↔ Any H pieces
    normal_any [] all = ((λ a. a), (λ a. a))
    normal_any (piece ∷ pieces) all =
        let within = (All-head IsOver piece pieces all).1 in
        by within (normal_of piece) refl (normal_any pieces (All-tail IsOver piece pieces all))
      where
        by : IsSystemWithin g (piece_system params piece) → (o : Option KeptPiece) → normal_of piece ≡ o
            → Any H (filter_map normal_of pieces) ↔ Any H pieces
            → Any H (cons_option o (filter_map normal_of pieces)) ↔ Any H (piece ∷ pieces)
        by within None is rest = (
          (λ a. Any-later H piece pieces (rest.0 a)),
          (λ a. elim (Any-cases H piece pieces a) [
            | inl h ↦ absurd (void_has params v e piece (none_void g params piece within is) h)
            | inr m ↦ rest.1 m
          ]),
        )
        by within (Some new) is rest =
            let own = normal_has g params piece within new is v e in (
              (λ a. elim (Any-cases H new (filter_map normal_of pieces) a) [
                | inl h ↦ Any-first H piece pieces (own.0 h)
                | inr m ↦ Any-later H piece pieces (rest.0 m)
              ]),
              (λ a. elim (Any-cases H piece pieces a) [
                | inl h ↦ Any-first H new (filter_map normal_of pieces) (own.1 h)
                | inr m ↦ Any-later H new (filter_map normal_of pieces) (rest.1 m)
              ]),
            )

    pub live_have : (pieces kept : List KeptPiece) → All IsOver pieces → AreLiveOf params (filter_map normal_of pieces) kept
        → Any H kept ↔ Any H pieces
    live_have pieces kept all live =
        let one = live_any params v e (filter_map normal_of pieces) kept live in
        let other = normal_any pieces all in
        ((λ a. other.0 (one.0 a)), (λ a. one.1 (other.1 a)))

    pub settled_have : (pieces : List KeptPiece) → All IsOver pieces → All (IsLive params) pieces
        → Any H (map settled pieces) ↔ Any H pieces
    settled_have [] all live = ((λ a. a), (λ a. a))
    settled_have (piece ∷ pieces) all live =
        let own = settled_has g params piece (All-head IsOver piece pieces all).1 (All-head (IsLive params) piece pieces live) v e in
        let rest = settled_have pieces (All-tail IsOver piece pieces all) (All-tail (IsLive params) piece pieces live) in (
          (λ a. elim (Any-cases H (settled piece) (map settled pieces) a) [
            | inl h ↦ Any-first H piece pieces (own.0 h)
            | inr m ↦ Any-later H piece pieces (rest.0 m)
          ]),
          (λ a. elim (Any-cases H piece pieces a) [
            | inl h ↦ Any-first H (settled piece) (map settled pieces) (own.1 h)
            | inr m ↦ Any-later H (settled piece) (map settled pieces) (rest.1 m)
          ]),
        )

  pub all_small : (b : ℕ) (pieces : List PieceView) → All (λ piece. IsSystemUpTo b piece.system) pieces
      → All (IsPieceUpTo b) (map kept_piece pieces)
  all_small b pieces small =
      All-map (IsPieceUpTo b) kept_piece pieces (λ k d l. record { rows = (small k d l).rows; definitions = (small k d l).definitions })

  normal_small : (b : ℕ) (pieces : List KeptPiece) → All IsOver pieces → All (IsPieceUpTo b) pieces
      → All (IsPieceUpTo b) (filter_map normal_of pieces)
  normal_small b [] all small = All-nil (IsPieceUpTo b)
  normal_small b (piece ∷ pieces) all small =
      by (normal_of piece) refl (normal_small b pieces (All-tail IsOver piece pieces all) (All-tail (IsPieceUpTo b) piece pieces small))
    where
      by : (o : Option KeptPiece) → normal_of piece ≡ o → All (IsPieceUpTo b) (filter_map normal_of pieces)
          → All (IsPieceUpTo b) (cons_option o (filter_map normal_of pieces))
      by None is rest = rest
      by (Some new) is rest =
          All-cons (IsPieceUpTo b) new (filter_map normal_of pieces)
          (normal_up_to g params piece (All-head IsOver piece pieces all).1 new is b (All-head (IsPieceUpTo b) piece pieces small)) rest

  pub live_small : (b : ℕ) (pieces kept : List KeptPiece) → All IsOver pieces → AreLiveOf params (filter_map normal_of pieces) kept
      → All (IsPieceUpTo b) pieces → All (IsPieceUpTo b) kept
  live_small b pieces kept all live small =
      live_all params (IsPieceUpTo b) (IsPieceUpTo b) (λ piece up l. up) (filter_map normal_of pieces) kept live
      (normal_small b pieces all small)

  pub settled_small : (b : ℕ) (pieces : List KeptPiece) → All IsOver pieces → All (IsLive params) pieces → All (IsPieceUpTo b) pieces
      → All (IsPieceUpTo b) (map settled pieces)
  settled_small b [] all live small = All-nil (IsPieceUpTo b)
  settled_small b (piece ∷ pieces) all live small =
      All-cons (IsPieceUpTo b) (settled piece) (map settled pieces)
      (settled_up_to g params piece (All-head IsOver piece pieces all).1 (All-head (IsLive params) piece pieces live) b
      (All-head (IsPieceUpTo b) piece pieces small))
      (settled_small b pieces (All-tail IsOver piece pieces all) (All-tail (IsLive params) piece pieces live)
      (All-tail (IsPieceUpTo b) piece pieces small))
