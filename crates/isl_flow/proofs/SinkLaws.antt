-- Values of pieces that are made, and the sinks without the others.
use Rattle.std.proofs.Common.{◌≡◌, ◌↔◌, ◌≤◌, ◌^◌, ◌-◌, inl, ℕ, sym, ap, ◌∙◌, subst, arith, List, [], ◌∷◌, All, Any, map, length}
use Rattle.std.proofs.Common.{IfOk, Result}
use Rattle.std.proofs.lemmas.List.Elements.{All-cons, All-map, All-nil}
use Rattle.isl_math.proofs.ListLaws.{Any-contains, Any-element, Any-first, Any-one, Any-unmapped, Any-weaker}
use Rattle.isl_meter.specs.Gauge.{Gauge, IsCharged}
use Rattle.isl_space.specs.Element.{Element}
use Rattle.isl_space.specs.Form.{Form}
use Rattle.isl_space.specs.Limits.{most_parameters}
use Rattle.isl_space.specs.Name.{Name}
use Rattle.isl_space.specs.Names.{IsParameterList, joined}
use Rattle.isl_space.specs.SpaceForm.{map_of, set_of}
use Rattle.isl_space.specs.Valuation.{Valuation}
use Rattle.isl_space.proofs.NamesLaws.{joined-self}
use Rattle.isl_piece.specs.Piece.{PieceView}
use Rattle.isl_elim.proofs.ProjectionLaws.{any_mapped}
use Rattle.isl_union.specs.Fault.{IsCutFault, IsFaultBy}
use Rattle.isl_union.specs.KeptValue.{KeptPiece, KeptValue, Has, HasElement, HasNoDefinitions, IsKeptValue}
use Rattle.isl_union.specs.Minus.{ArePiecesOver}
use Rattle.isl_union.specs.Numbers.{HasNumbersUpTo, IsWithinLimit}
use Rattle.isl_union.specs.Piece.{kept_piece}
use Rattle.isl_union.specs.declared.fault.OpFault.{OpFault}
use Rattle.isl_union.specs.declared.fault.OpFault.TheVariants as op_fault
use Rattle.isl_union.proofs.MeetSteps.{charged_bits}
use Rattle.isl_images.specs.Made.{elements_of_all, ArePiecesOf, IsPlain}
use Rattle.isl_images.proofs.MadeLaws.{of_before, of_same, value_has, value_kept, value_plain, value_small}
use Rattle.isl_images.proofs.ResultLaws.{ok_case, ok_has}
use Rattle.isl_relation.specs.Wide.{IsFormFault}
use Rattle.isl_precedence.specs.declared.later.Later.{Later}
use Rattle.isl_precedence.specs.declared.precedence.Precedence.{Precedence}
use Rattle.isl_flow.specs.Last.{HasMap, IsMapElement, IsValueOf, ShowsLast, ShowsSink}
use Rattle.isl_precedence.specs.Later.{ComesLater, HasLater, IsLater, IsPlainLater, ShowsLeft}
use Rattle.isl_remainder.specs.Made.{AreMade}
use Rattle.isl_precedence.specs.Precedence.{Occurrence, HasAt, HasOccurrence, IsPlainPrecedence, IsPrecedence, IsSound, Shows}
use Rattle.isl_flow.specs.Turned.{turned_back}
use Rattle.isl_precedence.proofs.FlowLaws.{pieces_are}

-- ---- the value of the pieces
pub value_made : (g h : Gauge) (params : List Name) → IsParameterList params → IsCharged g h → (S Simple : Type 0)
    (P : Valuation × Element → Type 0) (Q : Valuation → Element → Type 0) → (Simple → S)
    → ((v : Valuation) (e : Element) → P (v, e) ↔ Q v e)
    → (made : List PieceView) → AreMade (HasAt params) (IsSound h params) IsPlain S P made
    → (value : KeptValue) → value ≡ record { params = params; pieces = map kept_piece made } → IsValueOf g params Simple Q value
value_made g h params names charged S Simple P Q simple same made are value is =
    let all : ArePiecesOf g params Simple Q made = of_before g h params Simple Q made charged
    (of_same h params S Simple (λ v e. P (v, e)) Q made simple same (pieces_are h params S P made are)) in
    record {
      kept = value_kept g params Simple Q made all value is names;
      declared = ap (λ (w : KeptValue). w.params) is;
      elements = value_has g params Simple Q made all value is;
      definitions = value_plain g params Simple Q made all value is;
      numbers = value_small g params Simple Q made all value is;
    }

pub value_same : (g h : Gauge) (params : List Name) → IsCharged g h → (S Simple : Type 0) (P Q : Valuation → Element → Type 0)
    → (Simple → S) → ((v : Valuation) (e : Element) → P v e ↔ Q v e) → (value : KeptValue) → IsValueOf h params S P value
    → IsValueOf g params Simple Q value
value_same g h params charged S Simple P Q simple same value is = record {
  kept = is.kept;
  declared = is.declared;
  elements = λ v e.
      let a = is.elements v e in
      let b = same v e in
      ((λ x. b.0 (a.0 x)), (λ x. a.1 (b.1 x)));
  definitions = λ s. is.definitions (simple s);
  numbers = subst (λ (b : ℕ). HasNumbersUpTo (2 ^ b - 1) value) (sym (charged_bits g h charged)) is.numbers;
}

-- ---- pieces without others
module _ (g : Gauge) (params : List Name) (pieces others : List PieceView) (a b : KeptValue)
    (one : a ≡ record { params = params; pieces = map kept_piece pieces })
    (two : b ≡ record { params = params; pieces = map kept_piece others }) where
  plain_kept : (ps : List PieceView) → All IsPlain ps → All (λ (p : KeptPiece). p.definitions ≡ []) (map kept_piece ps)
  plain_kept ps plain = All-map (λ (p : KeptPiece). p.definitions ≡ []) kept_piece ps (λ k d l. plain k d l)

  pub difference_made : (r : Result KeptValue OpFault) → IfOk r IsKeptValue → IfOk r (λ w. w.params ≡ joined a.params b.params)
      → ((v : Valuation) (e : Element) → IfOk r (λ w. Has w v e ↔ (Has a v e × (¬ Has b v e))))
      → (HasNoDefinitions a → HasNoDefinitions b → IfOk r HasNoDefinitions) → IfOk r (IsWithinLimit g)
      → IfOk r (IsValueOf g params (All IsPlain pieces × All IsPlain others)
      (λ v e. elements_of_all params pieces v e × (¬ elements_of_all params others v e)))
  difference_made r kept names elements plain small =
      ok_case r (IsValueOf g params (All IsPlain pieces × All IsPlain others)
      (λ v e. elements_of_all params pieces v e × (¬ elements_of_all params others v e))) (λ value is. record {
        kept = ok_has r value IsKeptValue is kept;
        declared = ok_has r value (λ w. w.params ≡ joined a.params b.params) is names ∙ rw (one, two) (joined-self params);
        elements = λ v e. rw (one, two) at
            (ok_has r value (λ w. Has w v e ↔ (Has a v e × (¬ Has b v e))) is (elements v e));
        definitions = λ all. ok_has r value HasNoDefinitions is
            (plain (rw one (plain_kept pieces all.0)) (rw two (plain_kept others all.1)));
        numbers = ok_has r value (IsWithinLimit g) is small;
      })

  -- the parameters are not too many
  pub cut_alone : IsParameterList params → (old new : Gauge) (fault : OpFault) → IsFaultBy (joined a.params b.params) old new fault
      → IsCutFault old new fault
  cut_alone names old new op_fault.TooWide h =
      let same : joined a.params b.params ≡ params = rw (one, two) (joined-self params) in
      let few = names.few in
      let n = ap length same in
      let wide = h.0 in
      absurd (omega (arith, few, n, wide))
  cut_alone names old new (op_fault.Cut cut) h = h.1

-- what cut the work, where nothing is too wide
pub formed_cut : (params : List Name) (Wide : Type 0) (old new : Gauge) → (length params ≤ most_parameters) × (¬ Wide) → (fault : OpFault)
    → IsCutFault old new fault → IsFormFault params Wide old new fault
formed_cut params Wide old new narrow op_fault.TooWide h = absurd h
formed_cut params Wide old new narrow (op_fault.Cut cut) h = (inl narrow, h)

-- ---- what the pieces show
module _ (g h : Gauge) (params : List Name) (found : List Precedence) (v : Valuation) (e : Element) where
  pub last_shown : (laters : List Later) (S : Type 0)
      → AreMade (HasLater params) (IsLater g params) IsPlainLater S (λ o. Any (ComesLater params o) found) laters
      → Any (ShowsLeft params laters v e) found ↔ ShowsLast params v e found
  last_shown laters S later = (
    (λ a.
        let one = Any-element (ShowsLeft params laters v e) found a in
        let s = one.2 in
        let o = s.occurrence in
        record {
          occurrence = o;
          at = s.at;
          has = Any-contains (HasOccurrence params o) found one.0 one.1 s.has.has;
          last = λ c. s.has.last ((later.has o).1 c);
          is = s.is;
        }),
    (λ s.
        let o = s.occurrence in
        Any-weaker (HasOccurrence params o) (ShowsLeft params laters v e)
        (λ r x. record { occurrence = o; at = s.at; has = record { has = x; last = λ k. s.last ((later.has o).0 k) }; is = s.is })
        found s.has),
  )

  pub sink_shown : (turned : List Precedence) (T : Type 0)
      → AreMade (HasOccurrence params) (IsPrecedence h params) IsPlainPrecedence T
      (λ o. Any (HasOccurrence params (turned_back o)) found) turned
      → Any (Shows params v e) turned ↔ ShowsSink params v e found
  sink_shown turned T are = (
    (λ a.
        let one = Any-element (Shows params v e) turned a in
        let s = one.2 in
        let o = s.occurrence in
        record {
          occurrence = turned_back o;
          at = s.at;
          has = (are.has o).0 (Any-contains (HasOccurrence params o) turned one.0 one.1 s.has);
          is = s.is;
        }),
    (λ s.
        let o = s.occurrence in
        let back : Occurrence = record {
          valuation = o.valuation;
          source = o.sink;
          sink = o.access;
          access = o.source;
          time = o.time;
          sink_time = o.sink_time;
        } in
        let all = (are.has back).1 s.has in
        Any-weaker (HasOccurrence params back) (Shows params v e) (λ r x. record { occurrence = back; at = s.at; has = x; is = s.is })
        turned all),
  )

-- what the pieces have is what they show
pub seen_have : (h : Gauge) (params : List Name) (S : Type 0) (P : Valuation × Element → Type 0) (made : List PieceView)
    → AreMade (HasAt params) (IsSound h params) IsPlain S P made → (v : Valuation) (e : Element)
    → elements_of_all params made v e ↔ P (v, e)
seen_have h params S P made are v e = (pieces_are h params S P made are).elements v e

-- ---- the elements of maps
module _ (g : Gauge) (params : List Name) (value : KeptValue) (pieces : List PieceView) (over : ArePiecesOver g params value pieces) where
  pub maps_have : (h : Gauge) (S : Type 0) (maps : List PieceView)
      → AreMade (HasAt params) (IsSound h params) IsPlain S (λ at. Any (HasMap params at) pieces) maps
      → (v : Valuation) (e : Element) → elements_of_all params maps v e ↔ (Has value v e × IsMapElement e)
  maps_have h S maps are v e = (
    (λ a.
        let all = (are.has (v, e)).0 (Any-unmapped H kept_piece maps a) in (
          (over.elements v e).0 (any_mapped H kept_piece pieces (Any-weaker (HasMap params (v, e)) (HasAt params (v, e)) (λ p x. x.has)
              pieces all)),
          (Any-element (HasMap params (v, e)) pieces all).2.map,
        )),
    (λ k. any_mapped H kept_piece maps ((are.has (v, e)).1 (Any-weaker (HasAt params (v, e)) (HasMap params (v, e))
        (λ p x. record { has = x; map = k.1 }) pieces (Any-unmapped H kept_piece pieces ((over.elements v e).1 k.0))))),
  )
    where
      H : KeptPiece → Type 0
      H = HasElement params v e

-- ---- one piece
module _ (g : Gauge) (params : List Name) (p : PieceView) where
  pub map_made : (x y : Form) → p.space ≡ map_of x y → IsSound g params p
      → AreMade (HasAt params) (IsSound g params) IsPlain (IsPlain p) (λ at. HasMap params at p) (p ∷ [])
  map_made x y lies is = record {
    has = λ at. (
      (λ a. let h = Any-one (HasAt params at) p a in record { has = h; map = (x, y, sym h.space ∙ lies) }),
      (λ h. Any-first (HasAt params at) p [] h.has),
    );
    sound = All-cons (IsSound g params) p [] is (All-nil (IsSound g params));
    plain = λ none. All-cons IsPlain p [] none (All-nil IsPlain);
  }

  pub never_map : (x : Form) → p.space ≡ set_of x → (at : Valuation × Element) → ¬ HasMap params at p
  never_map x lies at h = absurd (let s = sym lies ∙ h.has.space ∙ h.map.2 in cc)
