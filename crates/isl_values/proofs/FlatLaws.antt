-- Values without their defined columns.
use Rattle.std.proofs.Common.{◌≡◌, ◌∙◌, ◌↔◌, inl, inr, ℕ, ℤ, Bool, true, false, All, List, [], map, refl, sym, subst, arith}
use Rattle.std.specs.Prelude.{unsigned_abs, IsTrue, Result, Ok, Err, MatchResult}
use Rattle.std.proofs.lemmas.Bool.{false≢true}
use Rattle.std.proofs.lemmas.List.{get_or-map, length-map}
use Rattle.std.proofs.lemmas.List.Elements.{All-map}
use Rattle.isl_meter.specs.Gauge.{Gauge, limit_of, IsCharged}
use Rattle.isl_meter.proofs.CutLemmas.{IsCharged_trans, IsCutBy-after}
use Rattle.isl_piece.specs.Piece.{PieceView}
use Rattle.isl_union.specs.KeptValue.{KeptPiece, KeptValue, Has, HasNoDefinitions, IsKeptValue}
use Rattle.isl_union.specs.Piece.{kept_piece}
use Rattle.isl_union.proofs.FlatLaws.{flat_elements, flat_itself, flat_same}
use Rattle.isl_refusal.specs.declared.refusal.Refusal.{Refusal}
use Rattle.isl_tree.specs.declared.tree.Literal.{Literal}
use Rattle.isl_tree.specs.Plain.{is_plain}
use Rattle.isl_lower.specs.Value.{IsLowered}
use Rattle.isl_lower.proofs.ValueLaws.{lowered_plain}
use Rattle.isl_tree.specs.declared.statement.Expr as e
use Rattle.isl_tree.specs.declared.statement.Expr.{Expr}
use Rattle.isl_kinds.specs.Parts.{parts_of}
use Rattle.isl_state.specs.declared.list.ListPart.{ListPart}
use Rattle.isl_assumed.specs.declared.assumed.Assumed.{Assumed}
use Rattle.isl_values.specs.Live.{IsLiveOf, IsLivePart, IsLivePartOf, IsLiveUnder}
use Rattle.isl_state.specs.State.{StateView, HasNumbersUpTo}
use Rattle.isl_values.specs.Worked.{IsWorkedAt, IsWrittenAt}
use Rattle.isl_values.specs.Selection.{SelectsAt}
use Rattle.isl_values.specs.Ends.{CutAlone, Ends, GoesOn}
use Rattle.isl_values.specs.Made.{IsPaid, IsWhyUnmade, IsWhyUnworked}
use Rattle.isl_values.specs.Three.{IsFlatAt, IsLiveFlat, IsMadeFlat}
use Rattle.isl_values.proofs.CutLaws.{working_cut}
use Rattle.isl_state.proofs.LiveLaws.{part_elements, part_itself, part_live, part_numbers, part_plain, part_same}
use Rattle.isl_values.proofs.SameLaws.{itself, same_trans}
use Rattle.isl_values.proofs.ValueLaws.{IsMadeAt, paid_works, same_limit, unmade_after, work}
pub use Rattle.isl_outcome.proofs.PaidLaws.{unmade_later}

-- ---- pieces
abbrev pub DefinesNone : PieceView → Type 0
DefinesNone piece = piece.system.definitions ≡ []

-- the value defines no column where none of its pieces does
pub plain_exactly : (value : KeptValue) (pieces : List PieceView) → map kept_piece pieces ≡ value.pieces
    → HasNoDefinitions value ↔ All DefinesNone pieces
plain_exactly value pieces are =
    let P : KeptPiece → Type 0 = λ piece. piece.definitions ≡ [] in (
      (λ plain i piece low.
          let kept = subst (All P) (sym are) plain in
          let long = length-map pieces kept_piece in
          subst P (get_or-map kept_piece pieces i piece (kept_piece piece) low) (kept i (kept_piece piece) (omega (arith, long, low)))),
      (λ all. subst (All P) are (All-map P kept_piece pieces all)),
    )

pub plain_told : (value : KeptValue) (pieces : List PieceView) → map kept_piece pieces ≡ value.pieces → (b : Bool)
    → IsTrue b ↔ All DefinesNone pieces → IsTrue b ↔ HasNoDefinitions value
plain_told value pieces are b told =
    let exact = plain_exactly value pieces are in
    ((λ t. exact.1 (told.0 t)), (λ plain. told.1 (exact.0 plain)))

-- ---- values
-- a live value is what is live of itself
pub written_itself : (state : StateView) (part : ListPart) (expr : Expr) (value : KeptValue) → IsKeptValue value
    → IsLiveUnder state.assumed value → IsWorkedAt state part expr value → IsWrittenAt state part expr value
written_itself state part expr value kept live worked =
    (value, worked, (value, kept, flat_itself value, part_itself state.assumed value live))

-- a plain literal is written in one way, whether its defined columns are left or not
pub literal_written : (state : StateView) (part : ListPart) (literal : Literal) (value : KeptValue) → is_plain literal ≡ true
    → IsWrittenAt state part (e.Literal literal) value → IsLiveOf state.assumed (IsLowered literal) value
literal_written state part literal value plain written =
    let worked = written.0 in
    let is : IsLiveOf state.assumed (IsLowered literal) worked = written.1 in
    let flat = written.2.0 in
    let none = part_plain state.assumed is.0 worked is.3 (lowered_plain literal is.0 is.2 plain) in
    let same : flat ≡ worked = flat_same worked flat written.2.2 none in
    let live = part_live state.assumed is.0 worked is.3 in
    let alike : value ≡ worked = part_same state.assumed worked value (subst (λ (v : KeptValue). IsLivePartOf state.assumed v value) same
    written.2.3) live in
    subst (IsLiveOf state.assumed (IsLowered literal)) (sym alike) is

-- a live value that defines no column is what is live of itself
module _ (assumed : Assumed) (limit : ℕ) (value : KeptValue) (kept : IsKeptValue value) (live : IsLiveUnder assumed value)
    (small : HasNumbersUpTo limit value) where
  pub live_flat_itself : HasNoDefinitions value → IsLiveFlat assumed limit value value
  live_flat_itself plain = record {
    flat = (value, kept, flat_itself value, part_itself assumed value live);
    kept = kept;
    live = live;
    params = refl;
    elements = λ v here. itself (Has value v);
    numbers = small;
    definitions = plain;
  }

-- what is live of one without its defined columns
pub live_flat : (assumed : Assumed) (limit : ℕ) (worked flat part : KeptValue) → IsMadeFlat limit worked flat → IsLivePart assumed flat part
    → IsLiveFlat assumed limit worked part
live_flat assumed limit worked flat part made is = record {
  flat = (flat, made.kept, made.flat, is.part);
  kept = is.kept;
  live = part_live assumed flat part is.part;
  params = is.part.params ∙ made.flat.params;
  elements = λ v here. same_trans (Has part v) (Has flat v) (Has worked v) (part_elements assumed flat part is.part v here)
      (flat_elements worked flat made.flat v);
  numbers = part_numbers assumed limit flat part is.part made.numbers;
  definitions = part_plain assumed flat part is.part made.definitions;
}

pub flat_live_answer : (assumed : Assumed) (g h k : Gauge) (worked one flat : KeptValue) → one ≡ worked
    → IsMadeFlat (unsigned_abs (limit_of g)) one flat → IsCharged g h → {A : Type 0} (of : A → KeptValue) (result : Result A Refusal)
    → MatchResult result (λ a. IsLivePart assumed flat (of a) × IsCharged h k) (IsWhyUnmade true CutAlone h k)
    → MatchResult result (λ a. IsLiveFlat assumed (unsigned_abs (limit_of g)) worked (of a) × IsCharged g k) (IsWhyUnmade true CutAlone g k)
flat_live_answer assumed g h k worked one flat same made charged of (Ok a) part = (
  live_flat assumed (unsigned_abs (limit_of g)) worked flat (of a)
      (subst (λ (v : KeptValue). IsMadeFlat (unsigned_abs (limit_of g)) v flat) same made) part.0,
  IsCharged_trans g h k charged part.1,
)
flat_live_answer assumed g h k worked one flat same made charged of (Err refusal) why =
    unmade_after true true true CutAlone CutAlone g h k refusal (λ none. absurd (let no : ⊥ = cc in no)) (λ end ends. ends)
    (paid_works g h charged) why

-- ---- of a value that is worked out
module _ (state : StateView) (part : ListPart) (expr : Expr) (g h k : Gauge) (value : KeptValue)
    (made : IsMadeAt state part expr g h value) (goes : GoesOn (Ends state expr)) where
  pub flat_made : (flat : KeptValue) → IsLiveFlat state.assumed (unsigned_abs (limit_of h)) value flat → IsCharged h k
      → (HasNoDefinitions value → k ≡ h)
      → IsFlatAt state part expr (unsigned_abs (limit_of g)) flat × IsPaid (work state.assumed (parts_of expr)) g k
  flat_made flat is charged free = (
    record {
      written = (value, made.0.written, is.flat);
      kept = is.kept;
      live = is.live;
      params = is.params ∙ made.0.params;
      elements = λ v here. same_trans (Has flat v) (Has value v) (SelectsAt state part expr v) (is.elements v here)
          (made.0.elements v here);
      numbers = subst (λ (z : ℤ). HasNumbersUpTo (unsigned_abs z) flat) (same_limit g h made.1.charged) is.numbers;
      definitions = λ always. is.definitions;
    },
    record {
      charged = IsCharged_trans g h k made.1.charged charged;
      free = λ none. free (made.0.definitions none) ∙ made.1.free none;
    },
  )

  pub flat_failed : (refusal : Refusal) → IsWhyUnmade true CutAlone h k refusal → (HasNoDefinitions value → ⊥)
      → IsWhyUnworked (work state.assumed (parts_of expr)) (Ends state expr) g k refusal
  flat_failed refusal why defines = by (work state.assumed (parts_of expr)) refl
    where
      by : (b : Bool) → work state.assumed (parts_of expr) ≡ b
          → IsWhyUnworked (work state.assumed (parts_of expr)) (Ends state expr) g k refusal
      by true works = inl (record {
        cut = why.cut;
        is = why.is;
        by = IsCutBy-after g h k why.cut made.1.charged why.by;
        there = inr (working_cut state expr works goes);
        free = λ none. absurd (false≢true (sym none ∙ works));
      })
      by false none = absurd (defines (made.0.definitions none))

  pub flat_answer : {A : Type 0} (of : A → KeptValue) (r : Result A Refusal)
      → MatchResult r (λ a. IsLiveFlat state.assumed (unsigned_abs (limit_of h)) value (of a) × IsCharged h k)
      (IsWhyUnmade true CutAlone h k)
      → (HasNoDefinitions value → MatchResult r (λ _. k ≡ h) (λ _. ⊥))
      → MatchResult r (λ a. IsFlatAt state part expr (unsigned_abs (limit_of g)) (of a) × IsPaid (work state.assumed (parts_of expr)) g k)
      (IsWhyUnworked (work state.assumed (parts_of expr)) (Ends state expr) g k)
  flat_answer of (Ok a) is free = flat_made (of a) is.0 is.1 free
  flat_answer of (Err refusal) why free = flat_failed refusal why free
