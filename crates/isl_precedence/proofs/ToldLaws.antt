-- Pieces without the defined columns that equations tell have the elements of the pieces.
use Rattle.std.proofs.Common.{◌≡◌, ◌↔◌, inl, inr, refl, sym, ap, ap₂, subst, ◌∙◌, arith, ◌+◌, ◌<◌, ◌≤◌, ℕ, List, [], ◌∷◌, ◌++◌, length}
use Rattle.std.proofs.Common.{map, take, get_or}
use Rattle.std.specs.List.{All, AllZip, Any}
use Rattle.std.proofs.lemmas.List.{take_all, take_more}
use Rattle.std.proofs.lemmas.List.Elements.{All-head, All-tail}
use Rattle.isl_math.proofs.ListLaws.{All-unmapped, All-zipped, AllZip-more, Any-cases, Any-first, Any-later}
use Rattle.isl_meter.specs.Gauge.{Gauge}
use Rattle.isl_space.specs.Element.{Element}
use Rattle.isl_space.specs.Name.{Name}
use Rattle.isl_space.specs.SpaceForm.{IsWellFormedSpace}
use Rattle.isl_space.specs.Valuation.{Valuation}
use Rattle.isl_piece.specs.Piece.{PieceView}
use Rattle.isl_piece.specs.declared.definition.Definition.{Definition}
use Rattle.isl_piece.specs.declared.system.System.{System}
use Rattle.isl_piece.specs.System.{HoldsSystem, IsSystemWithin, free_columns}
use Rattle.isl_ledger.specs.Difference.{IsDifferenceSystem}
use Rattle.isl_ledger.specs.Work.{AreOfSize}
use Rattle.isl_union.specs.KeptValue.{KeptValue, HasElement, IsLive, columns_of, piece_system, point_of}
use Rattle.isl_union.specs.Minus.{ArePiecesOver}
use Rattle.isl_union.specs.Piece.{kept_piece, IsPieceOf}
use Rattle.isl_union.specs.Tame.{systems_of}
use Rattle.isl_union.proofs.SystemLaws.{kept_from, point_long, system_is, view_free, view_is}
use Rattle.isl_quotient.specs.Told.{IsPlainOf}
use Rattle.isl_precedence.specs.Told.{IsTold, IsToldPlain}

-- ---- one piece that is told
module _ (g : Gauge) (params : List Name) (old new : PieceView) (t : IsToldPlain g old new) (is : IsPieceOf params old) where
  told_columns : new.system.columns ≡ length new.system.definitions + columns_of params new.space
  told_columns =
      let none = ap (λ (ds : List Definition). length ds) t.system.definitions in
      let wide = t.system.columns in
      let free = view_free params old is in
      let same = ap (columns_of params) t.space in
      omega (arith, none, wide, free, same)

  told_view : new.system ≡ piece_system params (kept_piece new)
  told_view = system_is params new.space new.system told_columns

  plain_has : (v : Valuation) (e : Element) → HasElement params v e (kept_piece new) ↔ HasElement params v e (kept_piece old)
  plain_has v e = (
    (λ h.
        let long = point_long params v e (kept_piece new) h ∙ ap (columns_of params) t.space ∙ sym (view_free params old is) in
        let there =
        (t.system.points (point_of params v e) long).0 (subst (λ (s : System). HoldsSystem s (point_of params v e)) (sym told_view)
        h.holds) in
        record {
          numbers = h.numbers;
          space = sym t.space ∙ h.space;
          holds = subst (λ (s : System). HoldsSystem s (point_of params v e)) (view_is params old is) there;
        }),
    (λ h.
        let long = point_long params v e (kept_piece old) h ∙ sym (view_free params old is) in
        let there = (t.system.points (point_of params v e) long).1
        (subst (λ (s : System). HoldsSystem s (point_of params v e)) (sym (view_is params old is)) h.holds) in
        record {
          numbers = h.numbers;
          space = t.space ∙ h.space;
          holds = subst (λ (s : System). HoldsSystem s (point_of params v e)) told_view there;
        }),
  )

  plain_live : IsLive params (kept_piece new)
  plain_live void = is.kept.live (λ q l holds.
      let there = (t.system.points q (l ∙ sym (view_free params old is))).1
      (subst (λ (s : System). HoldsSystem s q) (sym (view_is params old is)) holds) in
      void q (l ∙ ap (columns_of params) (sym t.space)) (subst (λ (s : System). HoldsSystem s q) told_view there))

  plain_sound : IsPieceOf params new
  plain_sound = record {
    columns = told_columns;
    kept = kept_from g params (kept_piece new) (subst IsWellFormedSpace (sym t.space) is.kept.space)
        (subst (IsSystemWithin g) told_view t.system.within) t.system.normal plain_live;
  }

-- ---- one piece
module _ (g : Gauge) (params : List Name) (old new : PieceView) (told : IsTold g old new) where
  told_sound : IsPieceOf params old → IsPieceOf params new
  told_sound is = elim told [
    | inl same ↦ subst (IsPieceOf params) (sym same) is
    | inr t ↦ plain_sound g params old new t is
  ]

  told_has : IsPieceOf params old → (v : Valuation) (e : Element)
      → HasElement params v e (kept_piece new) ↔ HasElement params v e (kept_piece old)
  told_has is v e = elim told [
    | inl same ↦ rw same ((λ h. h), (λ h. h))
    | inr t ↦ plain_has g params old new t is v e
  ]

  told_within : IsSystemWithin g old.system → IsSystemWithin g new.system
  told_within w = elim told [
    | inl same ↦ subst (λ (p : PieceView). IsSystemWithin g p.system) (sym same) w
    | inr t ↦ t.system.within
  ]

  told_plain : old.system.definitions ≡ [] → new.system.definitions ≡ []
  told_plain none = elim told [
    | inl same ↦ ap (λ (p : PieceView). p.system.definitions) same ∙ none
    | inr t ↦ t.system.definitions
  ]

  told_space : new.space ≡ old.space
  told_space = elim told [
    | inl same ↦ ap (λ (p : PieceView). p.space) same
    | inr t ↦ t.space
  ]

  told_same : old.system.definitions ≡ [] → new ≡ old
  told_same none = elim told [
    | inl same ↦ same
    | inr t ↦ absurd (t.named none)
  ]

-- ---- pieces
spaces_same : (g : Gauge) (params : List Name) (pieces made : List PieceView) → AllZip (IsTold g) pieces made
    → map (λ piece. piece.space) made ≡ map (λ piece. piece.space) pieces
spaces_same g params [] [] z = refl
spaces_same g params [] (q ∷ made) z = absurd z
spaces_same g params (p ∷ pieces) [] z = absurd z
spaces_same g params (p ∷ pieces) (q ∷ made) z = ap₂ (λ x xs. x ∷ xs) (told_space g params p q z.0) (spaces_same g params pieces made z.1)

all_same : (g : Gauge) (params : List Name) (pieces made : List PieceView) → AllZip (IsTold g) pieces made
    → All (λ (p : PieceView). p.system.definitions ≡ []) pieces → made ≡ pieces
all_same g params [] [] z none = refl
all_same g params [] (q ∷ made) z none = absurd z
all_same g params (p ∷ pieces) [] z none = absurd z
all_same g params (p ∷ pieces) (q ∷ made) z none =
    let P : PieceView → Type 0 = λ x. x.system.definitions ≡ [] in
    ap₂ (λ (x : PieceView) (xs : List PieceView). x ∷ xs) (told_same g params p q z.0 (All-head P p pieces none))
    (all_same g params pieces made z.1 (All-tail P p pieces none))

all_have : (g : Gauge) (params : List Name) (v : Valuation) (e : Element) (pieces made : List PieceView) → AllZip (IsTold g) pieces made
    → All (IsPieceOf params) pieces → Any (HasElement params v e) (map kept_piece made) ↔ Any (HasElement params v e)
    (map kept_piece pieces)
all_have g params v e [] [] z sound = ((λ a. a), (λ a. a))
all_have g params v e [] (q ∷ made) z sound = absurd z
all_have g params v e (p ∷ pieces) [] z sound = absurd z
all_have g params v e (p ∷ pieces) (q ∷ made) z sound =
    let H = HasElement params v e in
    let one = told_has g params p q z.0 (All-head (IsPieceOf params) p pieces sound) v e in
    let rest = all_have g params v e pieces made z.1 (All-tail (IsPieceOf params) p pieces sound) in (
      (λ a. elim (Any-cases H (kept_piece q) (map kept_piece made) a) [
        | inl x ↦ Any-first H (kept_piece p) (map kept_piece pieces) (one.0 x)
        | inr y ↦ Any-later H (kept_piece p) (map kept_piece pieces) (rest.0 y)
      ]),
      (λ a. elim (Any-cases H (kept_piece p) (map kept_piece pieces) a) [
        | inl x ↦ Any-first H (kept_piece q) (map kept_piece made) (one.1 x)
        | inr y ↦ Any-later H (kept_piece q) (map kept_piece made) (rest.1 y)
      ]),
    )

pub over_told : (g : Gauge) (params : List Name) (value : KeptValue) (pieces made : List PieceView) → AllZip (IsTold g) pieces made
    → ArePiecesOver g params value pieces → ArePiecesOver g params value made
over_told g params value pieces made z are = record {
  sound = All-zipped (IsTold g) (IsPieceOf params) (IsPieceOf params) (λ p q t is. told_sound g params p q t is) pieces made z are.sound;
  within = All-zipped (IsTold g) (λ (p : PieceView). IsSystemWithin g p.system) (λ (p : PieceView). IsSystemWithin g p.system)
      (λ p q t w. told_within g params p q t w) pieces made z are.within;
  elements = λ v e.
      let here = all_have g params v e pieces made z are.sound in
      let there = are.elements v e in
      ((λ a. there.0 (here.0 a)), (λ h. here.1 (there.1 h)));
  definitions = λ none. All-zipped (IsTold g) (λ (p : PieceView). p.system.definitions ≡ []) (λ (p : PieceView). p.system.definitions ≡ [])
      (λ p q t d. told_plain g params p q t d) pieces made z (are.definitions none);
  spaces = spaces_same g params pieces made z ∙ are.spaces;
  sizes = λ size sized.
      let old = are.sizes size sized in
      let each = All-unmapped (IsDifferenceSystem size.columns size.bits) (λ (p : PieceView). p.system) pieces old.each in
      let same = all_same g params pieces made z (λ k d l. (each k d l).undefined) in
      subst (λ (ps : List PieceView). AreOfSize size (systems_of ps)) (sym same) old;
}

-- ---- one more
pub told_more : (g : Gauge) (pieces : List PieceView) (i : ℕ) (p q : PieceView) (made pushed : List PieceView) → i < length pieces
    → p ≡ get_or pieces i p → pushed ≡ made ++ q ∷ [] → IsTold g p q → AllZip (IsTold g) (take i pieces) made
    → AllZip (IsTold g) (take (i + 1) pieces) pushed
told_more g pieces i p q made pushed low at is one so_far =
    rw (is, take_more pieces i p low)
    (AllZip-more (IsTold g) (take i pieces) made (get_or pieces i p) q so_far (subst (λ (x : PieceView). IsTold g x q) at one))

pub told_all : (g : Gauge) (pieces : List PieceView) (i : ℕ) (made : List PieceView) → length pieces ≤ i
    → AllZip (IsTold g) (take i pieces) made → AllZip (IsTold g) pieces made
told_all g pieces i made end so_far = subst (λ (ps : List PieceView). AllZip (IsTold g) ps made) (take_all i pieces end) so_far

-- a piece that is told
pub told_new : (g : Gauge) (old new : PieceView) (plain : System) → IsPlainOf g old.system plain → ¬ (old.system.definitions ≡ [])
    → new ≡ record { space = old.space; system = plain } → IsTold g old new
told_new g old new plain is named at = inr (record {
  named = named;
  space = ap (λ (p : PieceView). p.space) at;
  system = subst (IsPlainOf g old.system) (sym (ap (λ (p : PieceView). p.system) at)) is;
})
