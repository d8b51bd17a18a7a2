-- Pieces and values at the valuations of systems over their parameters.
use Rattle.std.proofs.Common.{◌≡◌, ◌↔◌, inl, inr, refl, sym, ap, ◌∙◌, arith, subst, ℕ, ◌+◌, ◌-◌, ◌^◌, ◌<◌, ◌≤◌, List, [], ◌∷◌, ◌++◌}
use Rattle.std.proofs.Common.{All, Any, get_or, length, length-append, map, drop, take, take-append-drop}
use Rattle.std.specs.List.{zip}
use Rattle.std.proofs.lemmas.List.{get_or-map, length-drop, length-map, length-take-le, take_all, take_at}
use Rattle.std.proofs.lemmas.List.Elements.{All-append, All-head, All-tail}
use Rattle.isl_math.proofs.ListLaws.{All-last, Any-one, Any-parts}
use Rattle.isl_meter.specs.Gauge.{Gauge, IsCharged}
use Rattle.isl_space.specs.Element.{Element}
use Rattle.isl_space.specs.Name.{Name}
use Rattle.isl_space.specs.Names.{AreDistinct}
use Rattle.isl_space.specs.SpaceForm.{coordinates_of}
use Rattle.isl_space.specs.Valuation.{Valuation, values_of}
use Rattle.isl_space.proofs.ValuationLaws.{length-values_of, values_of-zip}
use Rattle.isl_piece.specs.declared.system.System.{System}
use Rattle.isl_piece.specs.Piece.{PieceView}
use Rattle.isl_piece.specs.System.{HoldsSystem, IsSystemWithin, free_columns}
use Rattle.isl_difference.specs.Split.{IsLive}
use Rattle.isl_difference.proofs.SplitLaws.{charged_within, live_kept}
use Rattle.isl_elim.specs.Elimination.{HoldsAtAny}
use Rattle.isl_blocks.specs.Left.{HoldsBefore, IsLeftWithout}
use Rattle.isl_elim.specs.Sample.{IsNowhere}
use Rattle.isl_union.specs.KeptValue.{KeptPiece, KeptValue, Has, HasElement, IsKeptPiece, piece_system, point_of}
use Rattle.isl_union.specs.Numbers.{IsPieceUpTo}
use Rattle.isl_union.specs.Piece.{kept_piece, IsPieceOf}
use Rattle.isl_union.specs.Pieces.{IsOfAny}
use Rattle.isl_union.proofs.SystemLaws.{point_long, view_is, view_within, void_exactly}
use Rattle.isl_union.proofs.PiecesLaws.{next_piece, through}
use Rattle.isl_assumed.specs.Left.{AreLeftOfPieces, ArePairs, IsPair}
use Rattle.isl_assumed.specs.Values.{AreLiveAt, IsDeadAt}
use Rattle.isl_assumed.proofs.LeftLaws.{any_step, taken_more, IsFlat}

-- the numbers of the parameters are the first ones of a point
pub front : (params : List Name) (v : Valuation) (e : Element) → take (length params) (point_of params v e) ≡ values_of params v
front params v e = take_at (values_of params v) e.coordinates (length params) (length-values_of params v)

-- ---- one piece
module _ (params : List Name) (p : PieceView) (sound : IsPieceOf params p) where
  holds_forth : (v : Valuation) (e : Element) → HasElement params v e (kept_piece p) → HoldsSystem p.system (point_of params v e)
  holds_forth v e h = subst (λ s. HoldsSystem s (point_of params v e)) (sym (view_is params p sound)) h.holds

  long : (v : Valuation) (e : Element) → HasElement params v e (kept_piece p)
      → length (point_of params v e) ≡ length params + coordinates_of p.space
  long v e h = point_long params v e (kept_piece p) h

  -- what the pairs with some systems have
  pub under_elements : (g : Gauge) (systems pairs : List System)
      → ArePairs g (length params) (coordinates_of p.space) p.system systems pairs
      → (v : Valuation) (e : Element) → IsOfAny params p.space pairs v e
      ↔ (HasElement params v e (kept_piece p) × HoldsAtAny systems (values_of params v))
  under_elements g systems pairs are v e = (
    (λ k.
        let whole = length-append (values_of params v) e.coordinates in
        let named = length-values_of params v in
        let same = ap coordinates_of k.lies in
        let n = k.numbers in
        let l : length (point_of params v e) ≡ length params + coordinates_of p.space = omega (arith, whole, named, same, n) in
        let both = (are.points (point_of params v e) l).0 k.holds in (
          record {
            numbers = k.numbers;
            space = sym k.lies;
            holds = subst (λ s. HoldsSystem s (point_of params v e)) (view_is params p sound) both.0;
          },
          subst (HoldsAtAny systems) (front params v e) both.1,
        )),
    (λ k.
        let h = k.0 in
        record {
          numbers = h.numbers;
          lies = sym h.space;
          holds = (are.points (point_of params v e) (long v e h)).1
              (holds_forth v e h, subst (HoldsAtAny systems) (sym (front params v e)) k.1);
        }),
  )

  -- ---- whether it has an element where one of the systems holds
  abbrev At : List System → Valuation → Type 0
  At systems = λ v. HoldsAtAny systems (values_of params v)

  -- the pair with one system has no point, just where it has no element where that one holds
  module _ (distinct : AreDistinct params) (g : Gauge) (s both : System)
      (pair : IsPair g (length params) (coordinates_of p.space) p.system s both) where
    dead_from : IsNowhere (free_columns both) (HoldsSystem both) → IsDeadAt (λ v. HoldsSystem s (values_of params v)) params (kept_piece p)
    dead_from nowhere v e holds h =
        nowhere (point_of params v e) (long v e h ∙ sym pair.free)
        ((pair.points (point_of params v e) (long v e h)).1 (holds_forth v e h, subst (HoldsSystem s) (sym (front params v e)) holds))

    -- each point is one of some element at some valuation
    nowhere_from : IsDeadAt (λ v. HoldsSystem s (values_of params v)) params (kept_piece p)
        → IsNowhere (free_columns both) (HoldsSystem both)
    nowhere_from dead point l holds =
        let n = length params in
        let m : length point ≡ n + coordinates_of p.space = l ∙ pair.free in
        let k = (pair.points point m).0 holds in
        let v : Valuation = zip params (take n point) in
        let e : Element = record { space = p.space; coordinates = drop n point } in
        let first = length-take-le n point (omega (arith, m)) in
        let behind = length-drop n point in
        let named : values_of params v ≡ take n point = values_of-zip params (take n point) distinct (sym first) in
        let whole : point_of params v e ≡ point = ap (λ xs. xs ++ drop n point) named ∙ take-append-drop n point in
        dead v e (subst (HoldsSystem s) (sym named) k.1) (record {
          numbers = omega (arith, behind, m);
          space = refl;
          holds = subst (HoldsSystem (piece_system params (kept_piece p))) (sym whole)
              (subst (λ t. HoldsSystem t point) (view_is params p sound) k.0);
        })

    pub dead_exactly : IsNowhere (free_columns both) (HoldsSystem both)
        ↔ IsDeadAt (λ v. HoldsSystem s (values_of params v)) params (kept_piece p)
    dead_exactly = (dead_from, nowhere_from)

  -- ---- one system after another
  pub dead_more : (systems : List System) (i : ℕ) (s : System) → i < length systems → s ≡ get_or systems i s
      → IsDeadAt (At (take i systems)) params (kept_piece p) → IsDeadAt (λ v. HoldsSystem s (values_of params v)) params (kept_piece p)
      → IsDeadAt (At (take (i + 1) systems)) params (kept_piece p)
  dead_more systems i s low at so_far one v e holds h =
      let H : System → Type 0 = λ t. HoldsSystem t (values_of params v) in
      elim (Any-parts H (take i systems) (s ∷ []) (subst (Any H) (taken_more systems i s low at) holds)) [
        | inl old ↦ so_far v e old h
        | inr new ↦ one v e (Any-one H s new) h
      ]

  pub dead_all : (systems : List System) (i : ℕ) → length systems ≤ i → IsDeadAt (At (take i systems)) params (kept_piece p)
      → IsDeadAt (At systems) params (kept_piece p)
  dead_all systems i end dead = subst (λ l. IsDeadAt (At l) params (kept_piece p)) (take_all i systems end) dead

  -- it has one where one system of all holds
  pub live_some : (systems : List System) (i : ℕ) (s : System) → i < length systems → s ≡ get_or systems i s
      → ¬ IsDeadAt (λ v. HoldsSystem s (values_of params v)) params (kept_piece p) → ¬ IsDeadAt (At systems) params (kept_piece p)
  live_some systems i s low at not dead = not (λ v e holds h. dead v e (i, s, low, sym at, holds) h)

-- ---- a dead piece at valuations of another word
pub dead_weaker : (P Q : Valuation → Type 0) (params : List Name) (piece : KeptPiece)
    → ((v : Valuation) → Q v → (w : Valuation) × (values_of params w ≡ values_of params v) × P w)
    → IsDeadAt P params piece → IsDeadAt Q params piece
dead_weaker P Q params piece f dead v e q h =
    let k = f v q in
    dead (k.0) e (k.2) (record {
      numbers = h.numbers;
      space = h.space;
      holds = subst (λ xs. HoldsSystem (piece_system params piece) (xs ++ e.coordinates)) (sym k.1) h.holds;
    })

pub live_same : (P Q : Valuation → Type 0) (params : List Name)
    → ((v : Valuation) → Q v → (w : Valuation) × (values_of params w ≡ values_of params v) × P w)
    → ((v : Valuation) → P v → (w : Valuation) × (values_of params w ≡ values_of params v) × Q w)
    → (pieces live : List KeptPiece) → AreLiveAt P params pieces live → AreLiveAt Q params pieces live
live_same P Q params f b [] live h = h
live_same P Q params f b (piece ∷ pieces) live h = elim h [
  | inl x ↦ inl (dead_weaker P Q params piece f x.0, live_same P Q params f b pieces live x.1)
  | inr y ↦
      inr ((λ dead. y.0 (dead_weaker Q P params piece b dead)), y.1, y.2, live_same P Q params f b pieces y.1 y.3)
]

-- ---- one piece after another
pub live_skip : (P : Valuation → Type 0) (params : List Name) (pieces live : List KeptPiece) (piece : KeptPiece)
    → AreLiveAt P params pieces live → IsDeadAt P params piece → AreLiveAt P params (pieces ++ piece ∷ []) live
live_skip P params [] live piece e dead = inl (dead, e)
live_skip P params (first ∷ pieces) live piece h dead = elim h [
  | inl x ↦ inl (x.0, live_skip P params pieces live piece x.1 dead)
  | inr y ↦ inr (y.0, y.1, y.2, live_skip P params pieces y.1 piece y.3 dead)
]

pub live_take : (P : Valuation → Type 0) (params : List Name) (pieces live : List KeptPiece) (piece : KeptPiece)
    → AreLiveAt P params pieces live → ¬ IsDeadAt P params piece → AreLiveAt P params (pieces ++ piece ∷ []) (live ++ piece ∷ [])
live_take P params [] live piece e not = inr (not, [], ap (λ l. l ++ piece ∷ []) e, refl)
live_take P params (first ∷ pieces) live piece h not = elim h [
  | inl x ↦ inl (x.0, live_take P params pieces live piece x.1 not)
  | inr y ↦ inr (y.0, y.1 ++ piece ∷ [], ap (λ l. l ++ piece ∷ []) y.2, live_take P params pieces y.1 piece y.3 not)
]

-- all pieces are live where each valuation is meant, if each has an element
pub live_whole : (P : Valuation → Type 0) (params : List Name) → ((v : Valuation) → P v) → AreDistinct params → (pieces : List KeptPiece)
    → All (IsKeptPiece params) pieces → AreLiveAt P params pieces pieces
live_whole P params each distinct [] kept = refl
live_whole P params each distinct (piece ∷ pieces) kept =
    inr (
      (λ dead. (All-head (IsKeptPiece params) piece pieces kept).live ((void_exactly params piece distinct).1 (λ v e. dead v e (each v)))),
      pieces,
      refl,
      live_whole P params each distinct pieces (All-tail (IsKeptPiece params) piece pieces kept),
    )

-- ---- elements where one of the systems holds
abbrev pub HasUnder : List Name → List System → Valuation → Element → KeptPiece → Type 0
HasUnder params systems v e piece = HasElement params v e piece × HoldsAtAny systems (values_of params v)

pub under_all : (params : List Name) (systems : List System) (pieces : List KeptPiece) (v : Valuation) (e : Element)
    → Any (HasUnder params systems v e) pieces ↔ (Any (HasElement params v e) pieces × HoldsAtAny systems (values_of params v))
under_all params systems pieces v e = (
  (λ a. ((a.0, a.1, a.2, a.3, a.4.0), a.4.1)),
  (λ k. let a = k.0 in (a.0, a.1, a.2, a.3, (a.4, k.1))),
)

-- ---- where a piece has an element
-- its numbers stand behind those of the parameters
pub some_element : (params : List Name) (p : PieceView) → IsPieceOf params p → (v : Valuation)
    → HoldsBefore p.system (coordinates_of p.space) (values_of params v) ↔ ((e : Element) × HasElement params v e (kept_piece p))
some_element params p sound v = (
  (λ h.
      let e : Element = record { space = p.space; coordinates = h.0 } in (
        e,
        record {
          numbers = h.1;
          space = refl;
          holds = subst (λ s. HoldsSystem s (point_of params v e)) (view_is params p sound) (h.2);
        },
      )),
  (λ k. (
    k.0.coordinates,
    k.1.numbers ∙ ap coordinates_of (sym k.1.space),
    subst (λ s. HoldsSystem s (point_of params v k.0)) (sym (view_is params p sound)) k.1.holds,
  )),
)

pub left_next : (g h : Gauge) (params : List Name) (pieces : List PieceView) (i : ℕ) (p : PieceView) (left more pushed : List System)
    → i < length pieces → p ≡ get_or pieces i p → IsPieceOf params p → g.bits ≡ h.bits → pushed ≡ left ++ more
    → AreLeftOfPieces g params (map kept_piece (take i pieces)) left
    → IsLeftWithout h p.system (length params) (coordinates_of p.space) more
    → AreLeftOfPieces g params (map kept_piece (take (i + 1) pieces)) pushed
left_next g h params pieces i p left more pushed low at sound bits is so_far one =
    rw (is, next_piece pieces i p low at) (record {
      points = λ v.
          any_step (λ s. HoldsSystem s (values_of params v)) (λ piece. (e : Element) × HasElement params v e piece) left more
          (map kept_piece (take i pieces)) (kept_piece p) (so_far.points v)
          (through (one.points (values_of params v) (length-values_of params v)) (some_element params p sound v));
      live = All-append (IsLive g (length params)) left more so_far.live (λ k d l.
          live_kept g h (length params) (get_or more k d) (sym bits) (one.live k d l));
      definitions = λ plain.
          let parts = All-last (λ (piece : KeptPiece). piece.definitions ≡ []) (map kept_piece (take i pieces)) (kept_piece p) plain in
          All-append IsFlat left more (so_far.definitions parts.0) (one.definitions parts.1);
    })

pub left_whole : (g : Gauge) (params : List Name) (pieces : List PieceView) (kept : List KeptPiece) (i : ℕ) (left : List System)
    → length pieces ≤ i → map kept_piece pieces ≡ kept → AreLeftOfPieces g params (map kept_piece (take i pieces)) left
    → AreLeftOfPieces g params kept left
left_whole g params pieces kept i left end content so_far =
    subst (λ (l : List KeptPiece). AreLeftOfPieces g params l left) (ap (map kept_piece) (take_all i pieces end) ∙ content) so_far

-- some piece has an element where the value has one
pub some_has : (value : KeptValue) (v : Valuation)
    → Any (λ piece. (e : Element) × HasElement value.params v e piece) value.pieces ↔ ((e : Element) × Has value v e)
some_has value v = (
  (λ a. (a.4.0, (a.0, a.1, a.2, a.3, a.4.1))),
  (λ k. let a = k.1 in (a.0, a.1, a.2, a.3, (k.0, a.4))),
)

-- the system of a piece of a value within the limit
pub within_at : (g h : Gauge) (params : List Name) (pieces : List PieceView) (kept : List KeptPiece) (i : ℕ) (p : PieceView) → IsCharged g h
    → map kept_piece pieces ≡ kept → All (IsPieceOf params) pieces → All (IsPieceUpTo (2 ^ g.bits - 1)) kept → i < length pieces
    → p ≡ get_or pieces i p → IsSystemWithin h p.system
within_at g h params pieces kept i p charged content sound small low at =
    let n = length-map pieces kept_piece in
    let m = ap (λ (xs : List KeptPiece). length xs) content in
    let inside : i < length kept = omega (arith, low, n, m) in
    let here : get_or kept i (kept_piece p) ≡ kept_piece p =
    ap (λ (xs : List KeptPiece). get_or xs i (kept_piece p)) (sym content) ∙ get_or-map kept_piece pieces i p (kept_piece p) low
    ∙ ap kept_piece (sym at) in
    charged_within g h p.system charged
    (view_within g params p (subst (IsPieceOf params) (sym at) (sound i p low))
    (subst (IsPieceUpTo (2 ^ g.bits - 1)) here (small i (kept_piece p) inside)))
