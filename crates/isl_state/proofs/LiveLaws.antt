-- What is live of lists of pieces, and of values.
use Rattle.std.proofs.Common.{◌≡◌, ◌∙◌, ◌↔◌, inl, inr, ℕ, List, [], ◌∷◌, All, Any, refl, sym, ap, ap₂, subst}
use Rattle.std.proofs.lemmas.List.Elements.{All-cons, All-head, All-nil, All-tail}
use Rattle.isl_math.proofs.ListLaws.{Any-cases, Any-first, Any-later, Any-none}
use Rattle.isl_space.specs.Element.{Element}
use Rattle.isl_space.specs.Name.{Name}
use Rattle.isl_space.specs.Valuation.{Valuation}
use Rattle.isl_union.specs.KeptValue.{KeptPiece, KeptValue, Has, HasElement, HasNoDefinitions, IsKeptValue}
use Rattle.isl_union.specs.Numbers.{IsPieceUpTo}
use Rattle.isl_assumed.specs.declared.assumed.Assumed.{Assumed}
use Rattle.isl_assumed.specs.declared.assumed.Assumed.TheVariants.{Nothing}
use Rattle.isl_assumed.specs.Assumed.{Assumes}
use Rattle.isl_assumed.specs.Values.{AreLiveAt, IsDeadAt}
use Rattle.isl_assumed.proofs.ValueLaws.{live_whole}
use Rattle.isl_state.specs.Live.{IsLivePartOf, IsLiveUnder}
use Rattle.isl_state.specs.State.{HasNumbersUpTo}

-- ---- lists of pieces
module _ (P : Valuation → Type 0) (params : List Name) where
  abbrev Lives : KeptPiece → Type 0
  Lives piece = ¬ IsDeadAt P params piece

  -- what each piece has, each live one has
  pub each_live : (Q : KeptPiece → Type 0) (pieces live : List KeptPiece) → AreLiveAt P params pieces live → All Q pieces → All Q live
  each_live Q [] live is all = subst (All Q) (sym is) all
  each_live Q (piece ∷ pieces) live is all = elim is [
    | inl gone ↦ each_live Q pieces live gone.1 (All-tail Q piece pieces all)
    | inr stays ↦ subst (All Q) (sym stays.2)
        (All-cons Q piece stays.1 (All-head Q piece pieces all) (each_live Q pieces stays.1 stays.3 (All-tail Q piece pieces all)))
  ]

  pub all_live : (pieces live : List KeptPiece) → AreLiveAt P params pieces live → All Lives live
  all_live [] live is = subst (All Lives) (sym is) (All-nil Lives)
  all_live (piece ∷ pieces) live is = elim is [
    | inl gone ↦ all_live pieces live gone.1
    | inr stays ↦ subst (All Lives) (sym stays.2) (All-cons Lives piece stays.1 stays.0 (all_live pieces stays.1 stays.3))
  ]

  pub live_itself : (pieces : List KeptPiece) → All Lives pieces → AreLiveAt P params pieces pieces
  live_itself [] all = refl
  live_itself (piece ∷ pieces) all =
      inr (All-head Lives piece pieces all, pieces, refl, live_itself pieces (All-tail Lives piece pieces all))

  -- where each is live none goes
  pub live_same : (pieces live : List KeptPiece) → All Lives pieces → AreLiveAt P params pieces live → live ≡ pieces
  live_same [] live all is = is
  live_same (piece ∷ pieces) live all is = elim is [
    | inl gone ↦ absurd (All-head Lives piece pieces all gone.0)
    | inr stays ↦ stays.2 ∙ ap (λ (l : List KeptPiece). piece ∷ l) (live_same pieces stays.1 (All-tail Lives piece pieces all) stays.3)
  ]

  -- the elements at such a valuation
  module _ (v : Valuation) (here : P v) (x : Element) where
    abbrev HasIt : KeptPiece → Type 0
    HasIt = HasElement params v x

    pub live_has : (pieces live : List KeptPiece) → AreLiveAt P params pieces live → Any HasIt pieces → Any HasIt live
    live_has [] live is has = absurd (Any-none HasIt has)
    live_has (piece ∷ pieces) live is has = elim is [
      | inl gone ↦ elim (Any-cases HasIt piece pieces has) [
        | inl own ↦ absurd (gone.0 v x here own)
        | inr rest ↦ live_has pieces live gone.1 rest
      ]
      | inr stays ↦ subst (Any HasIt) (sym stays.2) (elim (Any-cases HasIt piece pieces has) [
        | inl own ↦ Any-first HasIt piece stays.1 own
        | inr rest ↦ Any-later HasIt piece stays.1 (live_has pieces stays.1 stays.3 rest)
      ])
    ]

    pub had_live : (pieces live : List KeptPiece) → AreLiveAt P params pieces live → Any HasIt live → Any HasIt pieces
    had_live [] live is has = subst (Any HasIt) is has
    had_live (piece ∷ pieces) live is has = elim is [
      | inl gone ↦ Any-later HasIt piece pieces (had_live pieces live gone.1 has)
      | inr stays ↦ elim (Any-cases HasIt piece stays.1 (subst (Any HasIt) stays.2 has)) [
        | inl own ↦ Any-first HasIt piece pieces own
        | inr rest ↦ Any-later HasIt piece pieces (had_live pieces stays.1 stays.3 rest)
      ]
    ]

-- ---- values
abbrev value_with : List Name → List KeptPiece → KeptValue
value_with params pieces = record { params = params; pieces = pieces }

module _ (assumed : Assumed) (value : KeptValue) where
  pub part_itself : IsLiveUnder assumed value → IsLivePartOf assumed value value
  part_itself live = record { params = refl; pieces = live_itself (Assumes assumed) value.params value.pieces live }

  module _ (part : KeptValue) (is : IsLivePartOf assumed value part) where
    pub part_live : IsLiveUnder assumed part
    part_live = subst (λ (ns : List Name). All (λ piece. ¬ IsDeadAt (Assumes assumed) ns piece) part.pieces) (sym is.params)
        (all_live (Assumes assumed) value.params value.pieces part.pieces is.pieces)

    pub part_same : IsLiveUnder assumed value → part ≡ value
    part_same live = ap₂ value_with is.params (live_same (Assumes assumed) value.params value.pieces part.pieces live is.pieces)

    pub part_elements : (v : Valuation) → Assumes assumed v → (x : Element) → Has part v x ↔ Has value v x
    part_elements v here x = (
      (λ has. had_live (Assumes assumed) value.params v here x value.pieces part.pieces is.pieces
          (subst (λ (ns : List Name). Any (HasElement ns v x) part.pieces) is.params has)),
      (λ has. subst (λ (ns : List Name). Any (HasElement ns v x) part.pieces) (sym is.params)
          (live_has (Assumes assumed) value.params v here x value.pieces part.pieces is.pieces has)),
    )

    pub part_plain : HasNoDefinitions value → HasNoDefinitions part
    part_plain = each_live (Assumes assumed) value.params (λ piece. piece.definitions ≡ []) value.pieces part.pieces is.pieces

pub part_numbers : (assumed : Assumed) (limit : ℕ) (value part : KeptValue) → IsLivePartOf assumed value part → HasNumbersUpTo limit value
    → HasNumbersUpTo limit part
part_numbers assumed limit value part is = each_live (Assumes assumed) value.params (IsPieceUpTo limit) value.pieces part.pieces is.pieces

-- where nothing is assumed each piece that a value keeps is live
pub live_nothing : (value : KeptValue) → IsKeptValue value → IsLivePartOf Nothing value value
live_nothing value kept =
    record { params = refl; pieces = live_whole (Assumes Nothing) value.params (λ v. tt) kept.params.distinct value.pieces kept.pieces }
