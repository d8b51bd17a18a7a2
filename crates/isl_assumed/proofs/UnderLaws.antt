-- Values at the valuations of a region.
use Rattle.std.proofs.Common.{◌≡◌, ◌↔◌, refl, sym, ap, ◌∙◌, arith, subst, ℕ, ◌<◌, ◌≤◌, List, [], All, Contains, get_or, length, map, take}
use Rattle.std.proofs.lemmas.List.{get_or-map, length-map, take_all}
use Rattle.isl_meter.specs.Gauge.{Gauge}
use Rattle.isl_space.specs.Element.{Element}
use Rattle.isl_space.specs.Name.{Name}
use Rattle.isl_space.specs.Names.{IsParameterList}
use Rattle.isl_space.specs.Valuation.{Valuation, values_of}
use Rattle.isl_piece.specs.declared.system.System.{System}
use Rattle.isl_piece.specs.Piece.{PieceView}
use Rattle.isl_elim.specs.Elimination.{HoldsAtAny}
use Rattle.isl_union.specs.KeptValue.{KeptPiece, KeptValue, Has, HasNoDefinitions}
use Rattle.isl_union.specs.Piece.{kept_piece, IsPieceOf}
use Rattle.isl_union.proofs.PieceLaws.{IsKeptValue-from_pieces}
use Rattle.isl_union.proofs.PiecesLaws.{made_has, made_kept, made_small, AreMade}
use Rattle.isl_assumed.specs.declared.assumed.Assumed.{Assumed}
use Rattle.isl_assumed.specs.declared.assumed.Assumed.TheVariants.{Where}
use Rattle.isl_assumed.specs.declared.region.Region.{Region}
use Rattle.isl_assumed.specs.Assumed.{Assumes}
use Rattle.isl_assumed.specs.Left.{IsOnto}
use Rattle.isl_assumed.specs.Under.{IsLiveValue, IsUnder}
use Rattle.isl_assumed.specs.Values.{AreLiveAt, AreLiveUnder, IsDeadAt}
use Rattle.isl_assumed.proofs.LeftLaws.{IsFlat}
use Rattle.isl_assumed.proofs.RegionLaws.{onto_same}
use Rattle.isl_assumed.proofs.ValueLaws.{live_same, under_all, HasUnder}

-- the system of a piece of a value that defines no column
pub plain_at : (pieces : List PieceView) (kept : List KeptPiece) (i : ℕ) (p : PieceView) → map kept_piece pieces ≡ kept
    → All (λ (q : KeptPiece). q.definitions ≡ []) kept → i < length pieces → p ≡ get_or pieces i p → p.system.definitions ≡ []
plain_at pieces kept i p content none low at =
    let n = length-map pieces kept_piece in
    let m = ap (λ (xs : List KeptPiece). length xs) content in
    let inside : i < length kept = omega (arith, low, n, m) in
    let here : get_or kept i (kept_piece p) ≡ kept_piece p =
    ap (λ (xs : List KeptPiece). get_or xs i (kept_piece p)) (sym content) ∙ get_or-map kept_piece pieces i p (kept_piece p) low
    ∙ ap kept_piece (sym at) in
    subst (λ (q : KeptPiece). q.definitions ≡ []) here (none i (kept_piece p) inside)

-- ---- the elements at its valuations
module _ (g : Gauge) (value : KeptValue) (names : List Name) (systems left : List System) (pieces kept : List PieceView) (i : ℕ)
    (under : KeptValue) (named : IsParameterList value.params) (declared : All (Contains value.params) names)
    (onto : IsOnto g names systems value.params left) (end : length pieces ≤ i) (content : map kept_piece pieces ≡ value.pieces)
    (made : AreMade g value.params (HasUnder value.params left) (map kept_piece (take i pieces)) kept)
    (is : under ≡ record { params = value.params; pieces = map kept_piece kept }) where
  abbrev Q : Valuation → Element → KeptPiece → Type 0
  Q = HasUnder value.params left

  has : (v : Valuation) (e : Element) → Has under v e ↔ (Has value v e × HoldsAtAny systems (values_of names v))
  has v e =
      let all = made_has g value.params Q pieces kept i value.pieces under end content made is v e in
      let each = under_all value.params left value.pieces v e in
      let same = onto_same g value.params names systems left declared onto v in (
        (λ h. let k = each.0 (all.0 h) in (k.0, same.0 k.1)),
        (λ k. all.1 (each.1 (k.0, same.1 k.1))),
      )

  pub under_made : (HasNoDefinitions value → All IsFlat left → All (λ (p : KeptPiece). p.definitions ≡ []) (map kept_piece kept))
      → IsUnder g value names systems under
  under_made plain = record {
    kept = made_kept g value.params Q pieces kept i value.pieces under end content made is named;
    params = ap (λ (v : KeptValue). v.params) is;
    elements = has;
    definitions = λ none flat. rw is (plain none (onto.definitions flat));
    numbers = made_small g value.params Q pieces kept i value.pieces under end content made is;
  }

pub under_assumes : (g : Gauge) (value under : KeptValue) (assumed : Assumed) (region : Region) → assumed ≡ Where region
    → IsUnder g value region.params region.systems.items under → (v : Valuation) (e : Element)
    → Has under v e ↔ (Has value v e × Assumes assumed v)
under_assumes g value under assumed region is h v e = rw is (h.elements v e)

-- ---- the pieces that have one there
pub not_live : (P : Valuation → Type 0) (params : List Name) (piece : KeptPiece) → (¬ ¬ IsDeadAt P params piece) → IsDeadAt P params piece
not_live P params piece not v e it h = not (λ dead. dead v e it h)

pub live_made : (g : Gauge) (value : KeptValue) (names : List Name) (systems left : List System) (pieces kept : List PieceView) (i : ℕ)
    (live : KeptValue) → IsParameterList value.params → IsOnto g names systems value.params left → length pieces ≤ i
    → map kept_piece pieces ≡ value.pieces
    → AreLiveAt (λ v. HoldsAtAny left (values_of value.params v)) value.params (map kept_piece (take i pieces)) (map kept_piece kept)
    → All (IsPieceOf value.params) kept → live ≡ record { params = value.params; pieces = map kept_piece kept }
    → IsLiveValue g value names systems live
live_made g value names systems left pieces kept i live named onto end content so_far sound is =
    let params = value.params in
    let L : Valuation → Type 0 = λ v. HoldsAtAny left (values_of params v) in
    let all = subst (λ l. AreLiveAt L params l (map kept_piece kept)) (ap (map kept_piece) (take_all i pieces end) ∙ content) so_far in
    rw is (record {
      kept = IsKeptValue-from_pieces params kept named sound;
      params = refl;
      pieces = live_same L (λ v. HoldsAtAny systems (values_of names v)) params (λ v it. (v, refl, (onto.points v).1 (v, refl, it)))
          (λ v it. (onto.points v).0 it) value.pieces (map kept_piece kept) all;
    })

pub live_assumes : (g : Gauge) (value live : KeptValue) (assumed : Assumed) (region : Region) → assumed ≡ Where region
    → IsLiveValue g value region.params region.systems.items live → AreLiveUnder assumed value.params value.pieces live.pieces
live_assumes g value live assumed region is h =
    rw is (live_same (λ v. HoldsAtAny region.systems.items (values_of region.params v)) (Assumes (Where region)) value.params
    (λ v it. (v, refl, it)) (λ v it. (v, refl, it)) value.pieces live.pieces h.pieces)
