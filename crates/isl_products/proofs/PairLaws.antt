-- What is made of two pieces, and of many.
use Rattle.std.proofs.Common.{◌≡◌, ◌↔◌, sym, ap, ◌∙◌, subst, ℕ, ◌+◌, ◌-◌, ◌^◌, ◌<◌, ◌≤◌, Some, None, List, [], ◌∷◌, ◌++◌, All, Any}
use Rattle.std.proofs.Common.{get_or, length, map, take}
use Rattle.std.proofs.lemmas.List.{take_all}
use Rattle.std.proofs.lemmas.Option.{none-some, same_Some}
use Rattle.isl_math.proofs.ListLaws.{Any-contains, Any-element, Any-first, Any-one}
use Rattle.isl_meter.specs.Gauge.{Gauge, IsCharged}
use Rattle.isl_space.specs.Element.{Element}
use Rattle.isl_space.specs.Name.{Name}
use Rattle.isl_space.specs.Names.{IsParameterList}
use Rattle.isl_space.specs.Valuation.{Valuation}
use Rattle.isl_piece.specs.declared.system.System.{System}
use Rattle.isl_piece.specs.Piece.{PieceView}
use Rattle.isl_piece.specs.System.{HoldsSystem}
use Rattle.isl_union.specs.KeptValue.{KeptPiece, KeptValue, Has, HasElement, IsKeptValue, point_of}
use Rattle.isl_union.specs.Minus.{IsAlignedPair}
use Rattle.isl_union.specs.Numbers.{IsPieceUpTo, IsWithinLimit}
use Rattle.isl_union.specs.Piece.{kept_piece, IsPieceOf}
use Rattle.isl_union.specs.Pieces.{IsOfAny}
use Rattle.isl_union.proofs.PieceLaws.{IsKeptValue-from_pieces}
use Rattle.isl_union.proofs.PiecesLaws.{made_more, next_piece, small_before, AreMade}
use Rattle.isl_products.specs.declared.layout.Product.{Product}
use Rattle.isl_products.specs.Layout.{LayoutView, layout_of, part}
use Rattle.isl_products.specs.Made.{IsJoinedAt, IsMadeOf, IsMadeWith, ProductHas}

-- ---- two pieces
module _ (product : Product) (params : List Name) (a b : PieceView) where
  -- nothing, where the product has no layout for their spaces
  pub none_made : layout_of product a.space b.space ≡ None → (v : Valuation) (e : Element)
      → ¬ IsMadeOf product params v e (kept_piece a) (kept_piece b)
  none_made none v e m = none-some m.layout (sym none ∙ m.forms)

  -- the elements at which the joined system holds
  pub joined_made : (g : Gauge) (l : LayoutView) (s : System) → layout_of product a.space b.space ≡ Some l
      → IsJoinedAt g params l a b s → (v : Valuation) (e : Element)
      → IsOfAny params l.space (s ∷ []) v e ↔ IsMadeOf product params v e (kept_piece a) (kept_piece b)
  joined_made g l s forms joined v e = (
    (λ h.
        let k = (joined.holds v e h.numbers (sym h.lies)).0 (Any-one (λ (t : System). HoldsSystem t (point_of params v e)) s h.holds) in
        record { layout = l; forms = forms; numbers = h.numbers; lies = sym h.lies; own = k.0; other = k.1 }),
    (λ m.
        let same : m.layout ≡ l = same_Some m.layout l (sym m.forms ∙ forms) in
        let lies : l.space ≡ e.space = ap (λ (k : LayoutView). k.space) (sym same) ∙ m.lies in
        record {
          numbers = m.numbers;
          lies = sym lies;
          holds = Any-first (λ (t : System). HoldsSystem t (point_of params v e)) s []
              ((joined.holds v e m.numbers lies).1 (
                subst (λ (k : LayoutView). HasElement params v (part a.space k.own e) (kept_piece a)) same m.own,
                subst (λ (k : LayoutView). HasElement params v (part b.space k.other e) (kept_piece b)) same m.other,
              ));
        }),
  )

-- ---- values
-- what is made of the pieces of two values over their joined parameters is what the product has of the values
module _ (g : Gauge) (product : Product) (a b : KeptValue) (params : List Name) (own others : List PieceView)
    (pair : IsAlignedPair g a b params own others) (v : Valuation) (e : Element) where
  abbrev Made : Type 0
  Made = Any (IsMadeWith product params (map kept_piece others) v e) (map kept_piece own)

  pub product_has : Made ↔ ProductHas product (Has a v) (Has b v) e
  product_has = (
    (λ made.
        let first = Any-element (IsMadeWith product params (map kept_piece others) v e) (map kept_piece own) made in
        let second = Any-element (IsMadeOf product params v e first.0) (map kept_piece others) first.2 in
        let m = second.2 in
        record {
          s = first.0.space;
          t = second.0.space;
          layout = m.layout;
          forms = m.forms;
          numbers = m.numbers;
          lies = m.lies;
          own = (pair.own.elements v (part first.0.space m.layout.own e)).0
              (Any-contains (HasElement params v (part first.0.space m.layout.own e)) (map kept_piece own) first.0 first.1 m.own);
          other = (pair.others.elements v (part second.0.space m.layout.other e)).0
              (Any-contains (HasElement params v (part second.0.space m.layout.other e)) (map kept_piece others) second.0 second.1 m.other);
        }),
    (λ h.
        let x = part h.s h.layout.own e in
        let y = part h.t h.layout.other e in
        let first = Any-element (HasElement params v x) (map kept_piece own) ((pair.own.elements v x).1 h.own) in
        let second = Any-element (HasElement params v y) (map kept_piece others) ((pair.others.elements v y).1 h.other) in
        let p : first.0.space ≡ h.s = first.2.space in
        let q : second.0.space ≡ h.t = second.2.space in
        let m : IsMadeOf product params v e first.0 second.0 = record {
          layout = h.layout;
          forms = ap (λ s. layout_of product s second.0.space) p ∙ ap (λ t. layout_of product h.s t) q ∙ h.forms;
          numbers = h.numbers;
          lies = h.lies;
          own = subst (λ s. HasElement params v (part s h.layout.own e) first.0) (sym p) first.2;
          other = subst (λ t. HasElement params v (part t h.layout.other e) second.0) (sym q) second.2;
        } in
        Any-contains (IsMadeWith product params (map kept_piece others) v e) (map kept_piece own) first.0 first.1
        (Any-contains (IsMadeOf product params v e first.0) (map kept_piece others) second.0 second.1 m)),
  )

-- ---- one piece after another
-- what is made of all of the pieces, once all of them were looked at
pub made_at_end : (g : Gauge) (params : List Name) (Q : Valuation → Element → KeptPiece → Type 0) (pieces made : List PieceView) (i : ℕ)
    → length pieces ≤ i → AreMade g params Q (map kept_piece (take i pieces)) made → AreMade g params Q (map kept_piece pieces) made
made_at_end g params Q pieces made i end so_far = subst (λ l. AreMade g params Q (map kept_piece l) made) (take_all i pieces end) so_far

-- one more of the pieces, whose part was made of the meter as it was then
pub made_next : (g h : Gauge) (params : List Name) (Q : Valuation → Element → KeptPiece → Type 0) (pieces : List PieceView)
    (piece : PieceView) (i : ℕ) (made more pushed : List PieceView) → IsCharged g h → i < length pieces → piece ≡ get_or pieces i piece
    → AreMade g params Q (map kept_piece (take i pieces)) made → pushed ≡ made ++ more
    → ((v : Valuation) (e : Element) → Any (HasElement params v e) (map kept_piece more) ↔ Q v e (kept_piece piece))
    → All (IsPieceOf params) more → All (IsPieceUpTo (2 ^ h.bits - 1)) (map kept_piece more)
    → AreMade g params Q (map kept_piece (take (i + 1) pieces)) pushed
made_next g h params Q pieces piece i made more pushed charged low at so_far is elements sound small =
    subst (λ l. AreMade g params Q l pushed) (sym (next_piece pieces i piece low at))
    (made_more g params Q (map kept_piece (take i pieces)) (kept_piece piece) made so_far more pushed is elements sound
    (small_before g h (map kept_piece more) charged small))

-- ---- the value of what is made
module _ (params : List Name) (made : List PieceView) (value : KeptValue)
    (is : value ≡ record { params = params; pieces = map kept_piece made })
  where
    pub value_kept : IsParameterList params → All (IsPieceOf params) made → IsKeptValue value
    value_kept names sound = rw is (IsKeptValue-from_pieces params made names sound)

    pub value_numbers : (g : Gauge) → All (IsPieceUpTo (2 ^ g.bits - 1)) (map kept_piece made) → IsWithinLimit g value
    value_numbers g small = rw is small

    pub value_has : (v : Valuation) (e : Element) (P : Type 0) → Any (HasElement params v e) (map kept_piece made) ↔ P → Has value v e ↔ P
    value_has v e P h = rw is h
