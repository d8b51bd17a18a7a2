-- Spaces that are too wide.
use Rattle.std.proofs.Common.{◌≡◌, ◌↔◌, refl, sym, ap, ap₂, ◌∙◌, subst, inl, inr, ℕ, ◌+◌, ◌<◌, ◌≤◌, List, [], ◌∷◌, All, Any, Contains}
use Rattle.std.proofs.Common.{get_or, length, map, take}
use Rattle.std.proofs.lemmas.List.{take_all}
use Rattle.std.proofs.lemmas.List.Elements.{All-contains}
use Rattle.isl_math.proofs.ListLaws.{Any-contains, Any-element, Any-one, Any-parts, Any-unmapped}
use Rattle.isl_meter.specs.Gauge.{Gauge}
use Rattle.isl_space.specs.Name.{Name}
use Rattle.isl_space.specs.Names.{AreDistinct}
use Rattle.isl_space.specs.SpaceForm.{IsTooWideSpace, IsWellFormedSpace}
use Rattle.isl_piece.specs.Piece.{PieceView}
use Rattle.isl_relation.specs.Formed.{FormsCrossMaps, FormsCrossSets, FormsUniversal}
use Rattle.isl_relation.specs.Wide.{IsFormFault, IsLiveIn, PairsTooWide}
use Rattle.isl_union.specs.declared.fault.OpFault.{OpFault}
use Rattle.isl_union.specs.declared.fault.OpFault.TheVariants as op_fault
use Rattle.isl_union.specs.Fault.{IsFaultBy}
use Rattle.isl_union.specs.KeptValue.{KeptPiece, KeptValue, HasElement, IsKeptPiece, IsKeptValue}
use Rattle.isl_union.specs.Minus.{ArePiecesOver}
use Rattle.isl_union.specs.Piece.{kept_piece, IsPieceOf}
use Rattle.isl_union.proofs.AlignedLaws.{Any-mapped}
use Rattle.isl_union.proofs.PiecesLaws.{next_piece}
use Rattle.isl_union.proofs.SystemLaws.{void_exactly}
use Rattle.isl_products.specs.declared.layout.Place.{Place}
use Rattle.isl_products.specs.declared.layout.Product.{Product}
use Rattle.isl_products.specs.declared.layout.Product.TheVariants.{Universal, CrossSets, CrossMaps, Restrict}
use Rattle.isl_products.specs.Layout.{LayoutView, cross_maps_view, cross_sets_view, layout_of, universal_view, IsWide}
use Rattle.isl_products.specs.Made.{AreWide, IsWidePair}
use Rattle.isl_products.proofs.LayoutLaws.{cross_maps_of, cross_sets_of, restrict_narrow, universal_of}

-- ---- pieces and values
live_in : (value : KeptValue) (piece : KeptPiece) → Contains value.pieces piece → IsLiveIn value piece.space
live_in value piece there = Any-contains (λ (p : KeptPiece). p.space ≡ piece.space) value.pieces piece there refl

pub wide_pieces : (product : Product) (a b : KeptValue) → AreWide product a.pieces b.pieces ↔ IsWidePair product a b
wide_pieces product a b = (
  (λ h.
      let first = Any-element (λ (p : KeptPiece). Any (λ (q : KeptPiece). IsWide product p.space q.space) b.pieces) a.pieces h in
      let second = Any-element (λ (q : KeptPiece). IsWide product first.0.space q.space) b.pieces first.2 in
      record {
        s = first.0.space;
        t = second.0.space;
        own = live_in a first.0 first.1;
        other = live_in b second.0 second.1;
        wide = second.2;
      }),
  (λ h.
      let first = Any-element (λ (p : KeptPiece). p.space ≡ h.s) a.pieces h.own in
      let second = Any-element (λ (q : KeptPiece). q.space ≡ h.t) b.pieces h.other in
      let wide : IsWide product first.0.space second.0.space =
      subst (λ s. IsWide product s second.0.space) (sym first.2) (subst (IsWide product h.s) (sym second.2) h.wide) in
      Any-contains (λ (p : KeptPiece). Any (λ (q : KeptPiece). IsWide product p.space q.space) b.pieces) a.pieces first.0 first.1
      (Any-contains (λ (q : KeptPiece). IsWide product first.0.space q.space) b.pieces second.0 second.1 wide)),
)

-- a space that a piece over the joined parameters has, some piece of the value has
pub over_live : (g : Gauge) (params : List Name) (value : KeptValue) (pieces : List PieceView) (p : PieceView)
    → AreDistinct params → ArePiecesOver g params value pieces → Contains pieces p → ¬ ¬ IsLiveIn value p.space
over_live g params value pieces p distinct are there none =
    (All-contains (IsPieceOf params) pieces p are.sound there).kept.live ((void_exactly params (kept_piece p) distinct).1 (λ v e h.
    let has = (are.elements v e).0 (Any-mapped (HasElement params v e) kept_piece pieces (Any-contains (λ q. HasElement params v e
    (kept_piece q)) pieces p there h)) in
    let one = Any-element (HasElement value.params v e) value.pieces has in
    none (Any-contains (λ (q : KeptPiece). q.space ≡ p.space) value.pieces one.0 one.1 (one.2.space ∙ sym h.space))))

-- so that where no space is too wide that is formed of the values', none is that is formed of the pieces'
pub over_narrow : (g : Gauge) (params : List Name) (product : Product) (a b : KeptValue) (own others : List PieceView)
    → AreDistinct params → ArePiecesOver g params a own → ArePiecesOver g params b others → ¬ IsWidePair product a b
    → ¬ AreWide product (map kept_piece own) (map kept_piece others)
over_narrow g params product a b own others distinct p q none wide =
    let first = Any-element (λ (x : PieceView). Any (λ (y : KeptPiece). IsWide product x.space y.space) (map kept_piece others)) own
    (Any-unmapped (λ (x : KeptPiece). Any (λ (y : KeptPiece). IsWide product x.space y.space) (map kept_piece others)) kept_piece own
    wide) in
    let second = Any-element (λ (y : PieceView). IsWide product first.0.space y.space) others
    (Any-unmapped (λ (y : KeptPiece). IsWide product first.0.space y.space) kept_piece others first.2) in
    over_live g params a own first.0 distinct p first.1 (λ live.
    over_live g params b others second.0 distinct q second.1 (λ other. none (record {
      s = first.0.space;
      t = second.0.space;
      own = live;
      other = other;
      wide = second.2;
    })))

-- a product that stays in the space of the first is never too wide
pub restrict_none : (place : Place) (a b : KeptValue) → IsKeptValue a → ¬ IsWidePair (Restrict place) a b
restrict_none place a b kept w =
    let one = Any-element (λ (p : KeptPiece). p.space ≡ w.s) a.pieces w.own in
    let piece = All-contains (IsKeptPiece a.params) a.pieces one.0 kept.pieces one.1 in
    restrict_narrow place one.0.space w.t piece.space (subst (λ s. IsWide (Restrict place) s w.t) (sym one.2) w.wide)

-- nor of pieces
pub never_wide : (place : Place) (pieces others : List PieceView) → All (λ piece. IsWellFormedSpace piece.space) pieces
    → ¬ AreWide (Restrict place) (map kept_piece pieces) (map kept_piece others)
never_wide place pieces others formed wide =
    let P : KeptPiece → Type 0 = λ x. Any (λ (y : KeptPiece). IsWide (Restrict place) x.space y.space) (map kept_piece others) in
    let first = Any-element (λ (x : PieceView). P (kept_piece x)) pieces (Any-unmapped P kept_piece pieces wide) in
    let second = Any-element (λ (y : KeptPiece). IsWide (Restrict place) first.0.space y.space) (map kept_piece others) first.2 in
    restrict_narrow place first.0.space second.0.space
    (All-contains (λ (x : PieceView). IsWellFormedSpace x.space) pieces first.0 formed first.1) second.2

-- ---- in the words of spaces
pub universal_wide : (a b : KeptValue) → IsWidePair Universal a b ↔ PairsTooWide FormsUniversal a b
universal_wide a b = (
  (λ h.
      let l = h.wide.layout in
      let k = universal_of h.s h.t l h.wide.forms in
      (h.s, h.t, l.space, h.own, h.other, (k.0, k.1, k.2, k.3, ap (λ (m : LayoutView). m.space) (sym k.4)), h.wide.wide)),
  (λ h.
      let k = h.5 in
      record {
        s = h.0;
        t = h.1;
        own = h.3;
        other = h.4;
        wide = record {
          layout = universal_view k.0 k.1;
          forms = ap₂ (layout_of Universal) k.2 k.3;
          wide = subst IsTooWideSpace k.4 h.6;
        };
      }),
)

pub cross_sets_wide : (a b : KeptValue) → IsWidePair CrossSets a b ↔ PairsTooWide FormsCrossSets a b
cross_sets_wide a b = (
  (λ h.
      let l = h.wide.layout in
      let k = cross_sets_of h.s h.t l h.wide.forms in
      (h.s, h.t, l.space, h.own, h.other, (k.0, k.1, k.2, k.3, ap (λ (m : LayoutView). m.space) (sym k.4)), h.wide.wide)),
  (λ h.
      let k = h.5 in
      record {
        s = h.0;
        t = h.1;
        own = h.3;
        other = h.4;
        wide = record {
          layout = cross_sets_view k.0 k.1;
          forms = ap₂ (layout_of CrossSets) k.2 k.3;
          wide = subst IsTooWideSpace k.4 h.6;
        };
      }),
)

pub cross_maps_wide : (a b : KeptValue) → IsWidePair CrossMaps a b ↔ PairsTooWide FormsCrossMaps a b
cross_maps_wide a b = (
  (λ h.
      let l = h.wide.layout in
      let k = cross_maps_of h.s h.t l h.wide.forms in (
        h.s,
        h.t,
        l.space,
        h.own,
        h.other,
        (k.0, k.1, k.2, k.3, k.4, k.5, ap (λ (m : LayoutView). m.space) (sym k.6)),
        h.wide.wide,
      )),
  (λ h.
      let k = h.5 in
      record {
        s = h.0;
        t = h.1;
        own = h.3;
        other = h.4;
        wide = record {
          layout = cross_maps_view k.0 k.1 k.2 k.3;
          forms = ap₂ (layout_of CrossMaps) k.4 k.5;
          wide = subst IsTooWideSpace k.6 h.6;
        };
      }),
)

-- ---- faults
-- why there is no result, where what is too wide is said in other words
pub fault_in : (params : List Name) (P Q : Type 0) (g h : Gauge) (fault : OpFault) → P ↔ Q → IsFormFault params P g h fault
    → IsFormFault params Q g h fault
fault_in params P Q g h op_fault.TooWide same f = (elim f.0 [ inl many ↦ inl many | inr wide ↦ inr (wide.0, same.0 wide.1) ], f.1)
fault_in params P Q g h (op_fault.Cut cut) same f = (elim f.0 [ inl few ↦ inl (few.0, λ q. few.1 (same.1 q)) | inr none ↦ inr none ], f.1)

-- where nothing is too wide
pub fault_plain : (params : List Name) (P : Type 0) (g h : Gauge) (fault : OpFault) → ¬ P → IsFormFault params P g h fault
    → IsFaultBy params g h fault
fault_plain params P g h op_fault.TooWide none f = (elim f.0 [ inl many ↦ many | inr wide ↦ absurd (none wide.1) ], f.1)
fault_plain params P g h (op_fault.Cut cut) none f = (elim f.0 [ inl few ↦ inl few.0 | inr ended ↦ inr ended ], f.1)

-- ---- one piece after another
module _ (P : KeptPiece → Type 0) (pieces : List PieceView) (i : ℕ) where
  -- the next piece is one of them
  pub some_next : (x : PieceView) → i < length pieces → x ≡ get_or pieces i x → P (kept_piece x) → Any P (map kept_piece pieces)
  some_next x low at h = Any-mapped P kept_piece pieces (i, x, low, sym at, h)

  -- and where none before has P, and it has not, none up to it has
  pub none_next : (x : PieceView) → i < length pieces → x ≡ get_or pieces i x → ¬ Any P (map kept_piece (take i pieces))
      → ¬ P (kept_piece x)
      → ¬ Any P (map kept_piece (take (i + 1) pieces))
  none_next x low at none not some =
      elim (Any-parts P (map kept_piece (take i pieces)) (kept_piece x ∷ []) (subst (Any P) (next_piece pieces i x low at) some)) [
        | inl before ↦ none before
        | inr last ↦ not (Any-one P (kept_piece x) last)
      ]

  pub none_at_end : length pieces ≤ i → ¬ Any P (map kept_piece (take i pieces)) → ¬ Any P (map kept_piece pieces)
  none_at_end end none some = none (subst (λ l. Any P (map kept_piece l)) (sym (take_all i pieces end)) some)

-- where none has P, the next has not
pub not_next : (P : KeptPiece → Type 0) (pieces : List PieceView) (i : ℕ) (x : PieceView) → i < length pieces → x ≡ get_or pieces i x
    → ¬ Any P (map kept_piece pieces) → ¬ P (kept_piece x)
not_next P pieces i x low at none h = none (some_next P pieces i x low at h)
