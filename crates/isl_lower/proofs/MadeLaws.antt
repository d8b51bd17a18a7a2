-- The pieces that are made of the pieces of a literal have their elements.
use Rattle.std.proofs.Common.{◌≡◌, ◌↔◌, ◌∙◌, inl, inr, refl, sym, ap, subst, ℕ, ◌+◌, ◌-◌, ◌^◌, ◌<◌, ◌≤◌, true, false, ◌&&◌, Bool, List, [], ◌∷◌, ◌++◌}
use Rattle.std.proofs.Common.{length, get_or, map, take, Option, Some, None, option_map, IfSome, unsigned_abs, arith}
use Rattle.std.specs.List.{All, Any, filter_map, cons_option, list_all}
use Rattle.std.specs.Option.{option_to_list}
use Rattle.std.proofs.lemmas.Bool.{false≢true}
use Rattle.std.proofs.lemmas.List.{length-append, length-map, map-append, take_more}
use Rattle.std.proofs.lemmas.List.Elements.{All-append, All-cons, All-nil, filter_map-append}
use Rattle.isl_math.proofs.ListLaws.{Any-first, Any-one, Any-left, Any-right, Any-parts}
use Rattle.isl_meter.specs.Gauge.{Gauge, limit_of, IsCharged}
use Rattle.isl_space.specs.Valuation.{Valuation}
use Rattle.isl_space.specs.Element.{Element}
use Rattle.isl_space.specs.SpaceForm.{SpaceForm, coordinates_of}
use Rattle.isl_piece.specs.declared.system.System.{System}
use Rattle.isl_piece.specs.Piece.{PieceView}
use Rattle.isl_piece.specs.System.{IsSystemWithin, free_columns}
use Rattle.isl_piece.proofs.FormedLaws.{system_within_kept}
use Rattle.isl_union.specs.KeptValue.{KeptValue, HasElement, columns_of}
use Rattle.isl_union.specs.Live.{AreLiveOf, IsLiveOf}
use Rattle.isl_union.specs.Numbers.{IsPieceUpTo, IsWithinLimit}
use Rattle.isl_union.specs.Piece.{kept_piece, IsPieceOf}
use Rattle.isl_union.specs.Pieces.{IsOfAny}
use Rattle.isl_union.proofs.LiveLaws.{live_any, live_append, live_one}
use Rattle.isl_union.proofs.MeetSteps.{charged_bits}
use Rattle.isl_tree.specs.declared.tree.PieceTree.{PieceTree}
use Rattle.isl_tree.specs.declared.tree.Literal.{Literal}
use Rattle.isl_tree.specs.Known.{piece_is_known}
use Rattle.isl_tree.specs.Literal.{piece_entries, space_of_piece, piece_environment, PieceHas}
use Rattle.isl_tree.specs.Plain.{is_plain_piece}
use Rattle.isl_lower.proofs.WidthLaws.{coordinates_are}
use Rattle.isl_lower.specs.Value.{piece_lowered, IsLowered}
use Rattle.isl_lower.specs.Made.{AreSystemsOf, AreMadeOf}
use Rattle.isl_lower.proofs.ValueLaws.{entries_count, pieces_have, pieces_up_to}

-- ---- the systems of a piece
module _ (g : Gauge) (params : List (List ℕ)) (piece : PieceTree) (systems : List System) (are : AreSystemsOf g params piece systems) where
  -- one of them holds exactly at the elements of the piece
  pub systems_have : (valuation : Valuation) (element : Element)
      → IsOfAny params (space_of_piece piece) systems valuation element ↔ PieceHas params valuation element piece
  systems_have valuation element = (
    (λ h.
        let long = sym (coordinates_are piece) ∙ ap coordinates_of (sym h.lies) ∙ sym h.numbers in
        let parts = (are.points valuation element.coordinates long).0 h.holds in
        record { space = sym h.lies; entries = parts.0; body = parts.1 }),
    (λ has.
        let long = entries_count (piece_entries piece) element.coordinates (piece_environment params piece element.coordinates valuation)
        has.entries in record {
          numbers = sym long ∙ sym (coordinates_are piece) ∙ ap coordinates_of has.space;
          lies = sym has.space;
          holds = (are.points valuation element.coordinates long).1 (has.entries, has.body);
        }),
  )

  pub systems_columns : (space : SpaceForm) → space ≡ space_of_piece piece → All (λ s. free_columns s ≡ columns_of params space) systems
  systems_columns space is = λ k d low.
      are.columns k d low ∙ ap (λ (n : ℕ). length params + n) (sym (coordinates_are piece) ∙ ap coordinates_of (sym is))

-- ---- one piece
kept_option : (o : Option PieceView) → map kept_piece (option_to_list o) ≡ option_to_list (option_map kept_piece o)
kept_option None = refl
kept_option (Some x) = refl

option_few : (o : Option PieceView) → length (option_to_list o) ≤ 1
option_few None = omega arith
option_few (Some x) = omega arith

option_all : (P : PieceView → Type 0) (o : Option PieceView) → IfSome o P → All P (option_to_list o)
option_all P None h = All-nil P
option_all P (Some x) h = one x h
  where
    one : (x : PieceView) → P x → All P (x ∷ [])
    one x h = All-cons P x [] h (All-nil P)

filter_one : {A B : Type 0} (f : A → Option B) (x : A) → filter_map f (x ∷ []) ≡ option_to_list (f x)
filter_one {B = B} f x = by (f x)
  where
    by : (o : Option B) → cons_option o [] ≡ option_to_list o
    by None = refl
    by (Some b) = refl

one_true : (b : Bool) → b ≡ true → (b && true) ≡ true
one_true b e = ap (λ (c : Bool). c && true) e

-- a plain piece
pub plain_made : (g h : Gauge) (params : List (List ℕ)) (piece : PieceTree) (made : List PieceView) (found : Option PieceView)
    → is_plain_piece piece ≡ true → piece_is_known params piece ≡ true → IsCharged g h → made ≡ option_to_list found
    → IsLiveOf params (piece_lowered params piece) (option_map kept_piece found) → IfSome found (IsPieceOf params)
    → IfSome found (λ kept. IsSystemWithin g kept.system) → AreMadeOf g h params (piece ∷ []) made
plain_made g h params piece made found plain known charged is live sound within =
    let all = option_all (IsPieceOf params) found sound in
    let units = charged.units in
    let few = option_few found in
    let lives : AreLiveOf params (filter_map (piece_lowered params) (piece ∷ [])) (map kept_piece (option_to_list found)) =
    rw (filter_one (piece_lowered params) piece, kept_option found)
    (live_one params (piece_lowered params piece) (option_map kept_piece found) live) in
    rw is (record {
      elements = λ valuation element.
          let kept = live_any params valuation element (filter_map (piece_lowered params) (piece ∷ [])) (map kept_piece (option_to_list found)) lives in
          let same = pieces_have params (piece ∷ []) valuation element (one_true (is_plain_piece piece) plain)
          (one_true (piece_is_known params piece) known) in
          ((λ a. same.0 (kept.0 a)), (λ a. kept.1 (same.1 a)));
      plain = λ _. lives;
      sound = all;
      small = pieces_up_to g params (option_to_list found) all
          (option_all (λ (kept : PieceView). IsSystemWithin g kept.system) found within);
      few = omega (arith, units, few);
    })

-- another piece
pub other_made : (g h k : Gauge) (params : List (List ℕ)) (piece : PieceTree) (systems : List System) (made : List PieceView)
    → is_plain_piece piece ≡ false → AreSystemsOf g params piece systems → length systems + g.units ≤ h.units + 1 → IsCharged g h
    → IsCharged h k
    → ((valuation : Valuation) (element : Element) → Any (HasElement params valuation element) (map kept_piece made)
    ↔ IsOfAny params (space_of_piece piece) systems valuation element)
    → All (IsPieceOf params) made → All (IsPieceUpTo (unsigned_abs (limit_of h))) (map kept_piece made) → length made ≤ length systems
    → AreMadeOf g k params (piece ∷ []) made
other_made g h k params piece systems made other are counted first second have sound small few =
    let units = second.units in record {
      elements = λ valuation element.
          let any = have valuation element in
          let same = systems_have g params piece systems are valuation element in (
            (λ a. Any-first (PieceHas params valuation element) piece [] (same.0 (any.0 a))),
            (λ a. any.1 (same.1 (Any-one (PieceHas params valuation element) piece a))),
          );
      plain = λ plain. absurd (false≢true (sym (ap (λ (c : Bool). c && true) other) ∙ plain));
      sound = sound;
      small = subst (λ (n : ℕ). All (IsPieceUpTo (2 ^ n - 1)) (map kept_piece made)) (sym (charged_bits g h first)) small;
      few = omega (arith, units, counted, few);
    }

-- ---- one more piece
list_all-parts : (p : PieceTree → Bool) (xs ys : List PieceTree) → list_all p (xs ++ ys) ≡ true
    → (list_all p xs ≡ true) × (list_all p ys ≡ true)
list_all-parts p [] ys h = (refl, h)
list_all-parts p (x ∷ xs) ys h = by (p x) refl h (list_all-parts p xs ys)
  where
    by : (b : Bool) → p x ≡ b → (b && list_all p (xs ++ ys)) ≡ true
        → (list_all p (xs ++ ys) ≡ true → (list_all p xs ≡ true) × (list_all p ys ≡ true))
        → ((p x && list_all p xs) ≡ true) × (list_all p ys ≡ true)
    by true e h more = let both = more h in (ap (λ (b : Bool). b && list_all p xs) e ∙ both.0, both.1)
    by false e h more = absurd (false≢true h)

pub made_more : (g h k : Gauge) (params : List (List ℕ)) (pieces : List PieceTree) (i : ℕ) (piece : PieceTree) (made more pushed : List PieceView)
    → i < length pieces → piece ≡ get_or pieces i piece → IsCharged g h → pushed ≡ made ++ more
    → AreMadeOf g h params (take i pieces) made → AreMadeOf h k params (piece ∷ []) more → AreMadeOf g k params (take (i + 1) pieces) pushed
made_more g h k params pieces i piece made more pushed low at charged is so_far one =
    let before = take i pieces in
    let next : take (i + 1) pieces ≡ before ++ piece ∷ [] =
    take_more pieces i piece low ∙ ap (λ (p : PieceTree). before ++ p ∷ []) (sym at) in
    let joined = map-append kept_piece made more in
    let a = so_far.few in
    let b = one.few in
    let c = length-append made more in
    let d = length-append before (piece ∷ []) in
    rw (next, is) (record {
      elements = λ valuation element.
          let P = HasElement params valuation element in
          let Q = PieceHas params valuation element in
          let x = so_far.elements valuation element in
          let y = one.elements valuation element in (
            (λ any. elim (Any-parts P (map kept_piece made) (map kept_piece more) (subst (Any P) joined any)) [
              | inl l ↦ Any-left Q before (piece ∷ []) (x.0 l)
              | inr r ↦ Any-right Q before (piece ∷ []) (y.0 r)
            ]),
            (λ any. subst (Any P) (sym joined) (elim (Any-parts Q before (piece ∷ []) any) [
              | inl l ↦ Any-left P (map kept_piece made) (map kept_piece more) (x.1 l)
              | inr r ↦ Any-right P (map kept_piece made) (map kept_piece more) (y.1 r)
            ])),
          );
      plain = λ plain.
          let both = list_all-parts is_plain_piece before (piece ∷ []) plain in
          rw (filter_map-append (piece_lowered params) before (piece ∷ []), joined)
          (live_append params (filter_map (piece_lowered params) before) (map kept_piece made)
          (filter_map (piece_lowered params) (piece ∷ [])) (map kept_piece more) (so_far.plain both.0) (one.plain both.1));
      sound = All-append (IsPieceOf params) made more so_far.sound one.sound;
      small = rw joined (All-append (IsPieceUpTo (unsigned_abs (limit_of g))) (map kept_piece made) (map kept_piece more) so_far.small
          (subst (λ (n : ℕ). All (IsPieceUpTo (2 ^ n - 1)) (map kept_piece more)) (sym (charged_bits g h charged)) one.small));
      few = omega (arith, a, b, c, d);
    })

pub within_later : (g h : Gauge) (systems : List System) → IsCharged g h → All (IsSystemWithin g) systems → All (IsSystemWithin h) systems
within_later g h systems charged within = λ k d low.
    system_within_kept h g (get_or systems k d) (charged_bits g h charged) (within k d low)

-- ---- the value
pub made_value : (params names declared : List (List ℕ)) (made : List PieceView) (value : KeptValue) → params ≡ names → names ≡ declared
    → value ≡ record { params = params; pieces = map kept_piece made }
    → value ≡ record { params = declared; pieces = map kept_piece made }
made_value params names declared made value first second is =
    is ∙ ap (λ (ps : List (List ℕ)). let v : KeptValue = record { params = ps; pieces = map kept_piece made } in v) (first ∙ second)

module _ (g h : Gauge) (literal : Literal) (made : List PieceView) (all : AreMadeOf g h literal.params literal.pieces made)
    (value : KeptValue) (is : value ≡ record { params = literal.params; pieces = map kept_piece made }) where
  pub made_lowered : IsLowered literal value
  made_lowered = rw is (record { params = refl; elements = all.elements; plain = all.plain })

  pub made_within : IsWithinLimit g value
  made_within = rw is all.small

  pub made_counted : length value.pieces + g.units ≤ h.units + length literal.pieces
  made_counted =
      let few = all.few in
      let same : length value.pieces ≡ length (map kept_piece made) = ap (λ (v : KeptValue). length v.pieces) is in
      let count = length-map made kept_piece in
      omega (arith, few, same, count)
