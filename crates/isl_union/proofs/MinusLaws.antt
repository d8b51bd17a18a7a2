-- What is left of pieces without others.
use Rattle.std.proofs.Common.{◌≡◌, ◌↔◌, inl, inr, refl, sym, ap, ap₂, ◌∙◌, subst, ℕ, ◌+◌, ◌-◌, ◌^◌, ◌<◌, Bool, true, false}
use Rattle.std.proofs.Common.{if◌then◌else◌, Some, None, option_to_list, List, [], ◌∷◌, ◌++◌, All, Any, length, get_or}
use Rattle.std.proofs.Common.{map, take}
use Rattle.std.specs.List.{cons_option}
use Rattle.std.proofs.lemmas.Bool.{false≢true, false_from_ne_true}
use Rattle.std.proofs.lemmas.List.{append-nil, map-append, take_more}
use Rattle.std.proofs.lemmas.List.Elements.{All-append, All-cons, All-head, All-map, All-nil, All-push, All-tail}
use Rattle.isl_math.proofs.ListLaws.{Any-cases, Any-first, Any-later, Any-left, Any-none, Any-one, Any-parts, Any-right}
use Rattle.isl_meter.specs.Gauge.{Gauge, IsCharged, IsCutBy}
use Rattle.isl_meter.proofs.CutLemmas.{IsCharged_refl, IsCutBy-charged}
use Rattle.isl_space.specs.Element.{Element, IsElement}
use Rattle.isl_space.specs.Name.{Name}
use Rattle.isl_space.specs.SpaceForm.{SpaceForm}
use Rattle.isl_space.specs.Valuation.{Valuation}
use Rattle.isl_piece.specs.declared.row.Row.{Row}
use Rattle.isl_piece.specs.declared.system.System.{System}
use Rattle.isl_piece.specs.Piece.{PieceView}
use Rattle.isl_piece.specs.Row.{HoldsRow}
use Rattle.isl_piece.specs.System.{HoldsSystem, IsSystemWithin, free_columns}
use Rattle.isl_piece.proofs.FormedLaws.{system_within_kept}
use Rattle.isl_elim.specs.Elimination.{HoldsAtAny}
use Rattle.isl_elim.specs.Sample.{IsNowhere}
use Rattle.isl_difference.specs.Difference.{IsDifference, IsLeftOf}
use Rattle.isl_union.specs.declared.fault.OpFault.{OpFault}
use Rattle.isl_union.specs.declared.fault.OpFault.TheVariants as op_fault
use Rattle.isl_union.specs.Fault.{IsFaultBy, IsPlainFault}
use Rattle.isl_union.specs.KeptValue.{KeptPiece, KeptValue, Has, HasElement, columns_of, point_of}
use Rattle.isl_union.specs.Meet.{is_same_space}
use Rattle.isl_union.specs.Minus.{piece_in, system_in, systems_in, AreLeftOf, IsAlignedPair}
use Rattle.isl_union.specs.Numbers.{AreWithinLimit, IsPieceUpTo, IsWithinLimit}
use Rattle.isl_union.specs.Piece.{kept_piece, piece_of, IsPieceOf}
use Rattle.isl_union.proofs.LiveLaws.{filter_more}
use Rattle.isl_union.proofs.MeetLaws.{space_is, space_itself}
use Rattle.isl_union.proofs.SystemLaws.{columns_from, kept_from, piece_up_to, point_long, system_is, view_free, view_is}

-- ---- pieces of one space
-- the element of a space has one number for each free column of a piece that lies there
pub element_long : (params : List Name) (v : Valuation) (e : Element) (space : SpaceForm) → IsElement e → space ≡ e.space
    → length (point_of params v e) ≡ columns_of params space
element_long params v e space numbers same =
    point_long params v e (record { space = space; definitions = []; rows = [] })
    (record { numbers = numbers; space = same; holds = All-nil (λ (r : Row). HoldsRow r (point_of params v e)) })

-- the system of a piece that a value may have has a point
pub view_somewhere : (params : List Name) (p : PieceView) → IsPieceOf params p → ¬ IsNowhere (free_columns p.system) (HoldsSystem p.system)
view_somewhere params p sound nowhere = sound.kept.live (λ q l. nowhere q (l ∙ sym (view_free params p sound)))

-- what the pieces of the space have, their systems have
pub systems_all : (P : System → Type 0) (space : SpaceForm) (pieces : List PieceView)
    → All (λ (p : PieceView). p.space ≡ space → P p.system) pieces → All P (systems_in space pieces)
systems_all P space [] all = All-nil P
systems_all P space (p ∷ pieces) all =
    let Q : PieceView → Type 0 = λ q. q.space ≡ space → P q.system in
    by (is_same_space space p.space) refl (All-head Q p pieces all) (systems_all P space pieces (All-tail Q p pieces all))
  where
    by : (b : Bool) → is_same_space space p.space ≡ b → (p.space ≡ space → P p.system) → All P (systems_in space pieces)
        → All P (cons_option (if b then Some p.system else None) (systems_in space pieces))
    by true is here rest = All-cons P p.system (systems_in space pieces) (here (sym (space_is space p.space is))) rest
    by false is here rest = rest

pub systems_within : (g : Gauge) (space : SpaceForm) (pieces : List PieceView) → AreWithinLimit g pieces
    → All (IsSystemWithin g) (systems_in space pieces)
systems_within g space pieces within = systems_all (IsSystemWithin g) space pieces (λ k d l same. within k d l)

pub systems_free : (params : List Name) (p : PieceView) (pieces : List PieceView) → IsPieceOf params p → All (IsPieceOf params) pieces
    → All (λ s. free_columns s ≡ free_columns p.system) (systems_in p.space pieces)
systems_free params p pieces sound all = systems_all (λ s. free_columns s ≡ free_columns p.system) p.space pieces (λ k d l same.
    view_free params (get_or pieces k d) (all k d l) ∙ ap (columns_of params) same ∙ sym (view_free params p sound))

-- one more of the pieces
module _ (space : SpaceForm) (pieces : List PieceView) (piece : PieceView) (i : ℕ) (low : i < length pieces)
    (at : piece ≡ get_or pieces i piece) where
  systems_more : systems_in space (take (i + 1) pieces) ≡ systems_in space (take i pieces) ++ option_to_list (system_in space piece)
  systems_more = filter_more (system_in space) pieces i piece low (sym at)

  -- that lies in the space
  pub systems_here : {X : Type 0} (f : X → System) (found pushed : List X) (x : X) → space ≡ piece.space → f x ≡ piece.system
      → pushed ≡ found ++ x ∷ [] → map f found ≡ systems_in space (take i pieces) → map f pushed ≡ systems_in space (take (i + 1) pieces)
  systems_here f found pushed x same is made so_far =
      ap (map f) made ∙ map-append f found (x ∷ []) ∙ ap₂ (λ l s. l ++ s ∷ []) so_far is
      ∙ ap (λ (b : Bool). systems_in space (take i pieces) ++ option_to_list (if b then Some piece.system else None))
      (sym (ap (is_same_space space) (sym same) ∙ space_itself space))
      ∙ sym systems_more

  -- that lies elsewhere
  pub systems_elsewhere : ¬ (space ≡ piece.space) → systems_in space (take i pieces) ≡ systems_in space (take (i + 1) pieces)
  systems_elsewhere differ =
      sym (append-nil (systems_in space (take i pieces)))
      ∙ ap (λ (b : Bool). systems_in space (take i pieces) ++ option_to_list (if b then Some piece.system else None))
      (sym (false_from_ne_true (is_same_space space piece.space) (λ e. differ (space_is space piece.space e))))
      ∙ sym systems_more

module _ (params : List Name) (v : Valuation) (e : Element) where
  abbrev H : KeptPiece → Type 0
  H = HasElement params v e

  abbrev P : System → Type 0
  P = λ s. HoldsSystem s (point_of params v e)

  -- pieces of a space have the element where some of their systems holds, and it lies there
  pub parts_have : (space : SpaceForm) (parts : List System)
      → Any H (map kept_piece (map (piece_in space) parts)) ↔ (IsElement e × (space ≡ e.space) × HoldsAtAny parts (point_of params v e))
  parts_have space [] = ((λ a. absurd (Any-none H a)), (λ h. absurd (Any-none P h.2)))
  parts_have space (s ∷ parts) =
      let first = kept_piece (piece_in space s) in
      let others = map kept_piece (map (piece_in space) parts) in
      let rest = parts_have space parts in (
        (λ a. elim (Any-cases H first others a) [
          | inl h ↦ (h.numbers, h.space, Any-first P s parts h.holds)
          | inr m ↦ let r = rest.0 m in (r.0, r.1, Any-later P s parts r.2)
        ]),
        (λ h. elim (Any-cases P s parts h.2) [
          | inl x ↦ Any-first H first others (record { numbers = h.0; space = h.1; holds = x })
          | inr m ↦ Any-later H first others (rest.1 (h.0, h.1, m))
        ]),
      )

  -- of an element of the space, pieces have it where some of the systems of those in the space holds
  pub in_space : (space : SpaceForm) (pieces : List PieceView) → IsElement e → space ≡ e.space
      → HoldsAtAny (systems_in space pieces) (point_of params v e) ↔ Any H (map kept_piece pieces)
  in_space space [] numbers lies = ((λ a. absurd (Any-none P a)), (λ a. absurd (Any-none H a)))
  in_space space (p ∷ pieces) numbers lies = by (is_same_space space p.space) refl (in_space space pieces numbers lies)
    where
      by : (b : Bool) → is_same_space space p.space ≡ b
          → HoldsAtAny (systems_in space pieces) (point_of params v e) ↔ Any H (map kept_piece pieces)
          → Any P (cons_option (if b then Some p.system else None) (systems_in space pieces)) ↔ Any H (kept_piece p ∷ map kept_piece pieces)
      by true is rest =
          let here = sym (space_is space p.space is) ∙ lies in (
            (λ a. elim (Any-cases P p.system (systems_in space pieces) a) [
              | inl x ↦ Any-first H (kept_piece p) (map kept_piece pieces) (record { numbers = numbers; space = here; holds = x })
              | inr m ↦ Any-later H (kept_piece p) (map kept_piece pieces) (rest.0 m)
            ]),
            (λ a. elim (Any-cases H (kept_piece p) (map kept_piece pieces) a) [
              | inl h ↦ Any-first P p.system (systems_in space pieces) h.holds
              | inr m ↦ Any-later P p.system (systems_in space pieces) (rest.1 m)
            ]),
          )
      by false is rest = (
        (λ a. Any-later H (kept_piece p) (map kept_piece pieces) (rest.0 a)),
        (λ a. elim (Any-cases H (kept_piece p) (map kept_piece pieces) a) [
          | inl h ↦ absurd (false≢true (sym is ∙ ap (is_same_space space) (h.space ∙ sym lies) ∙ space_itself space))
          | inr m ↦ rest.1 m
        ]),
      )

-- ---- what is left of one piece
module _ (g : Gauge) (params : List Name) (p : PieceView) (sound : IsPieceOf params p) where
  -- a part of its system makes a piece that a value may have
  pub left_sound : (new : System) → IsLeftOf g p.system new → IsPieceOf params (piece_in p.space new)
  left_sound new left =
      let free : free_columns new ≡ columns_of params p.space = left.columns ∙ view_free params p sound in
      let columns = columns_from g params p.space new left.within free in
      record {
        columns = columns;
        kept = kept_from g params (piece_of p.space new) sound.kept.space
            (subst (IsSystemWithin g) (system_is params p.space new columns) left.within) (left.normal sound.kept.normal)
            (λ void. left.live (view_somewhere params p sound) (λ point l. void point (l ∙ free)));
      }

  pub left_over : (others : List PieceView) (systems parts : List System) (left : List PieceView) → systems ≡ systems_in p.space others
      → IsDifference g p.system systems parts → left ≡ map (piece_in p.space) parts
      → AreLeftOf g params (kept_piece p ∷ []) (map kept_piece others) left
  left_over others systems parts left are difference made = rw made (record {
    sound = All-map (IsPieceOf params) (piece_in p.space) parts (λ k d l. left_sound (get_or parts k d) (difference.each k d l));
    within = All-map (λ (q : PieceView). IsSystemWithin g q.system) (piece_in p.space) parts (λ k d l. (difference.each k d l).within);
    elements = λ v e.
        let point = point_of params v e in
        let Q : KeptPiece → Type 0 = HasElement params v e in
        let both = parts_have params v e p.space parts in
        let long : IsElement e → p.space ≡ e.space → length point ≡ free_columns p.system = λ numbers lies.
        element_long params v e p.space numbers lies ∙ sym (view_free params p sound) in (
          (λ a. let h = both.0 a in
              let out = (difference.points point (long h.0 h.1)).0 h.2 in (
                Any-first Q (kept_piece p) [] (record { numbers = h.0; space = h.1; holds = out.0 }),
                λ b. out.1 (subst (λ ss. HoldsAtAny ss point) (sym are) ((in_space params v e p.space others h.0 h.1).1 b)),
              )),
          (λ h. let own = Any-one Q (kept_piece p) h.0 in
              both.1 (
                own.numbers,
                own.space,
                (difference.points point (long own.numbers own.space)).1 (
                  own.holds,
                  λ b. h.1 ((in_space params v e p.space others own.numbers own.space).0 (subst (λ ss. HoldsAtAny ss point) are b)),
                ),
              )),
        );
  })

  -- no other lies in its space
  pub left_alone : (others left : List PieceView) → systems_in p.space others ≡ [] → IsSystemWithin g p.system → left ≡ p ∷ []
      → AreLeftOf g params (kept_piece p ∷ []) (map kept_piece others) left
  left_alone others left none within made = rw made (record {
    sound = All-push (IsPieceOf params) [] p (All-nil (IsPieceOf params)) sound;
    within = All-push (λ (q : PieceView). IsSystemWithin g q.system) [] p (All-nil (λ (q : PieceView). IsSystemWithin g q.system)) within;
    elements = λ v e.
        let Q : KeptPiece → Type 0 = HasElement params v e in (
          (λ a. (
            a,
            λ b. let own = Any-one Q (kept_piece p) a in
                Any-none (λ (s : System). HoldsSystem s (point_of params v e)) (subst (λ ss. HoldsAtAny ss (point_of params v e)) none
                ((in_space params v e p.space others own.numbers own.space).1 b)),
          )),
          (λ h. h.0),
        );
  })

-- ---- what is left of one piece after another
pub left_first : (g : Gauge) (params : List Name) (others : List KeptPiece) → AreLeftOf g params [] others []
left_first g params others = record {
  sound = All-nil (IsPieceOf params);
  within = All-nil (λ (q : PieceView). IsSystemWithin g q.system);
  elements = λ v e. let Q : KeptPiece → Type 0 = HasElement params v e in ((λ a. absurd (Any-none Q a)), (λ h. absurd (Any-none Q h.0)));
}

-- within the limit of the meter as it was
left_before : (g h : Gauge) (params : List Name) (pieces others : List KeptPiece) (left : List PieceView) → IsCharged g h
    → AreLeftOf h params pieces others left → AreLeftOf g params pieces others left
left_before g h params pieces others left p is = record {
  sound = is.sound;
  within = λ k d l. system_within_kept g h (get_or left k d).system (ap (λ (x : Gauge). x.bits) p.same) (is.within k d l);
  elements = is.elements;
}

pub left_append : (g : Gauge) (params : List Name) (pieces more others : List KeptPiece) (left new : List PieceView)
    → AreLeftOf g params pieces others left → AreLeftOf g params more others new → AreLeftOf g params (pieces ++ more) others (left ++ new)
left_append g params pieces more others left new p q = record {
  sound = All-append (IsPieceOf params) left new p.sound q.sound;
  within = All-append (λ (x : PieceView). IsSystemWithin g x.system) left new p.within q.within;
  elements = λ v e.
      let Q : KeptPiece → Type 0 = HasElement params v e in
      let one = p.elements v e in
      let other = q.elements v e in
      rw (map-append kept_piece left new) (
        (λ a. elim (Any-parts Q (map kept_piece left) (map kept_piece new) a) [
          | inl x ↦ let h = one.0 x in (Any-left Q pieces more h.0, h.1)
          | inr y ↦ let h = other.0 y in (Any-right Q pieces more h.0, h.1)
        ]),
        (λ h. elim (Any-parts Q pieces more h.0) [
          | inl x ↦ Any-left Q (map kept_piece left) (map kept_piece new) (one.1 (x, h.1))
          | inr y ↦ Any-right Q (map kept_piece left) (map kept_piece new) (other.1 (y, h.1))
        ]),
      );
}

-- one more piece of a list
pub kept_more : (pieces : List PieceView) (piece : PieceView) (i : ℕ) → i < length pieces → piece ≡ get_or pieces i piece
    → map kept_piece (take (i + 1) pieces) ≡ map kept_piece (take i pieces) ++ kept_piece piece ∷ []
kept_more pieces piece i low at =
    ap (map kept_piece) (take_more pieces i piece low ∙ ap (λ (x : PieceView). take i pieces ++ x ∷ []) (sym at))
    ∙ map-append kept_piece (take i pieces) (piece ∷ [])

pub left_step : (g h : Gauge) (params : List Name) (pieces : List PieceView) (piece : PieceView) (i : ℕ) (others : List KeptPiece)
    (left new all : List PieceView) → IsCharged g h → i < length pieces → piece ≡ get_or pieces i piece
    → AreLeftOf g params (map kept_piece (take i pieces)) others left → AreLeftOf h params (kept_piece piece ∷ []) others new
    → all ≡ left ++ new
    → AreLeftOf g params (map kept_piece (take (i + 1) pieces)) others all
left_step g h params pieces piece i others left new all charged low at so_far more is =
    rw (is, kept_more pieces piece i low at)
    (left_append g params (map kept_piece (take i pieces)) (kept_piece piece ∷ []) others left new so_far
    (left_before g h params (kept_piece piece ∷ []) others new charged more))

-- ---- values
pub left_value : (g : Gauge) (a b value : KeptValue) (params : List Name) (own others left : List PieceView)
    → IsAlignedPair g a b params own others → AreLeftOf g params (map kept_piece own) (map kept_piece others) left
    → value ≡ record { params = params; pieces = map kept_piece left }
    → (v : Valuation) (e : Element) → Has value v e ↔ (Has a v e × ¬ Has b v e)
left_value g a b value params own others left pair is made v e =
    let one = pair.own.elements v e in
    let other = pair.others.elements v e in
    let here = is.elements v e in
    rw made (
      (λ x. let h = here.0 x in (one.0 h.0, λ y. h.1 (other.1 y))),
      (λ h. here.1 (one.1 h.0, λ y. h.1 (other.0 y))),
    )

pub left_numbers : (g : Gauge) (params : List Name) (left : List PieceView) (value : KeptValue) → All (IsPieceOf params) left
    → AreWithinLimit g left → value ≡ record { params = params; pieces = map kept_piece left } → IsWithinLimit g value
left_numbers g params left value sound within made =
    rw made (All-map (IsPieceUpTo (2 ^ g.bits - 1)) kept_piece left (λ k d l.
    let p = get_or left k d in
    piece_up_to g params (kept_piece p) (subst (IsSystemWithin g) (view_is params p (sound k d l)) (within k d l))))

-- the fault of the joined parameters, before any work
pub plain_by : (params : List Name) (g : Gauge) (fault : OpFault) → IsPlainFault params fault → IsFaultBy params g g fault
plain_by params g op_fault.TooWide wide = (wide, refl)
plain_by params g (op_fault.Cut cut) is = (inr is, subst (IsCutBy g g) (sym is) (IsCutBy-charged g g (IsCharged_refl g g refl)))
