-- The same value is coalesced in another word for joint pieces.
use Rattle.std.proofs.Common.{◌≡◌, ◌↔◌, ◌⊎◌, inl, inr, refl, sym, arith, subst, List, [], ◌∷◌, ◌++◌, All, Err, Ok, Result, get_or}
use Rattle.std.specs.Prelude.{IfOk}
use Rattle.isl_space.specs.Element.{Element}
use Rattle.isl_space.specs.Name.{Name}
use Rattle.isl_space.specs.Names.{AreDistinct}
use Rattle.isl_space.specs.Valuation.{Valuation, values_of}
use Rattle.isl_piece.specs.declared.row.Row.{Row}
use Rattle.isl_piece.specs.Row.{HoldsRow}
use Rattle.isl_piece.specs.System.{HoldsSystem}
use Rattle.isl_union.specs.KeptValue.{KeptPiece, KeptValue, HasElement, IsKeptPiece, IsKeptValue, piece_system}
use Rattle.isl_union.proofs.SystemLaws.{void_exactly}
use Rattle.isl_assumed.proofs.ValueLaws.{dead_weaker}
use Rattle.isl_assumed.specs.declared.assumed.Assumed.{Assumed}
use Rattle.isl_assumed.specs.declared.assumed.Assumed.TheVariants.{Nothing}
use Rattle.isl_assumed.specs.Assumed.{Assumes, AssumesSome}
use Rattle.isl_coalesce.specs.Coalesced.{AreSteps, IsCoalesced, IsCoalescedBy, IsCoalescedUnder, IsStep}
use Rattle.isl_coalesce.specs.Joint.{AreUnjoined, IsJointAt, IsJointOf, IsTrueAt, IsTrueOn}
use Rattle.isl_coalesce.proofs.PartLaws.{parts_same}

-- ---- what is a joint piece in the one word is in the other, and back for pieces that have Q
module _ (J I : KeptPiece → KeptPiece → KeptPiece → Type 0) (Q : KeptPiece → Type 0)
    (forth : (p q joint : KeptPiece) → J p q joint → I p q joint)
    (back : (p q joint : KeptPiece) → Q p → I p q joint → J p q joint) where
  step_in : (old new : List KeptPiece) → IsStep J old new → IsStep I old new
  step_in old new h = record {
    before = h.before;
    first = h.first;
    between = h.between;
    second = h.second;
    behind = h.behind;
    joint = h.joint;
    joins = forth h.first h.second h.joint h.joins;
    from = h.from;
    to = h.to;
  }

  steps_in : (old new : List KeptPiece) (states : List (List KeptPiece)) → AreSteps J old states new → AreSteps I old states new
  steps_in old new [] e = e
  steps_in old new (next ∷ states) h = (step_in old next h.0, steps_in next new states h.1)

  unjoined_in : (p q : KeptPiece) → Q p → Q q → AreUnjoined J p q → AreUnjoined I p q
  unjoined_in p q one other h = record {
    forth = λ joint i. h.forth joint (back p q joint one i);
    back = λ joint i. h.back joint (back q p joint other i);
  }

  pub coalesced_in : (value new : KeptValue) → All Q new.pieces → IsCoalescedBy J value new → IsCoalescedBy I value new
  coalesced_in value new all h = record {
    params = h.params;
    leads = (h.leads.0, steps_in value.pieces new.pieces h.leads.0 h.leads.1);
    ended = λ i j d before within.
        unjoined_in (get_or new.pieces i d) (get_or new.pieces j d) (all i d (omega (arith, before, within))) (all j d within)
        (h.ended i j d before within);
  }

-- ---- nothing is assumed
joint_forth : (params : List Name) (p q joint : KeptPiece) → IsJointAt (λ v. Unit {0}) params p q joint → IsJointOf params p q joint
joint_forth params p q joint h = record {
  same = h.same;
  space = h.space;
  definitions = h.definitions;
  first = h.first;
  second = h.second;
  own = parts_same (IsTrueAt (λ v. Unit {0}) params q) (IsTrueOn params q) (λ r. ((λ t v e x. t v e tt x), (λ t v e u x. t v e x)))
      p.rows h.first h.own;
  others = parts_same (IsTrueAt (λ v. Unit {0}) params p) (IsTrueOn params p) (λ r. ((λ t v e x. t v e tt x), (λ t v e u x. t v e x)))
      q.rows h.second h.others;
  rows = h.rows;
  elements = λ v e. h.elements v e tt;
}

joint_back : (params : List Name) → AreDistinct params → (p q joint : KeptPiece) → IsKeptPiece params p → IsJointOf params p q joint
    → IsJointAt (λ v. Unit {0}) params p q joint
joint_back params distinct p q joint kept h = record {
  same = h.same;
  space = h.space;
  definitions = h.definitions;
  first = h.first;
  second = h.second;
  own = parts_same (IsTrueOn params q) (IsTrueAt (λ v. Unit {0}) params q) (λ r. ((λ t v e u x. t v e x), (λ t v e x. t v e tt x)))
      p.rows h.first h.own;
  others = parts_same (IsTrueOn params p) (IsTrueAt (λ v. Unit {0}) params p) (λ r. ((λ t v e u x. t v e x), (λ t v e x. t v e tt x)))
      q.rows h.second h.others;
  rows = h.rows;
  elements = λ v e u. h.elements v e;
  some = λ dead. kept.live ((void_exactly params p distinct).1 (λ v e x. dead v e tt ((h.elements v e).1 (inl x))));
}

-- where nothing is assumed this is what is meant by a coalesced value
pub coalesced_of_all : (value new : KeptValue) → IsKeptValue new → IsCoalescedUnder Nothing value new → IsCoalesced value new
coalesced_of_all value new kept h =
    let is = h.params in
    coalesced_in (IsJointAt (λ v. Unit {0}) value.params) (IsJointOf value.params) (IsKeptPiece value.params) (joint_forth value.params)
    (joint_back value.params (subst AreDistinct is kept.params.distinct)) value new
    (subst (λ (names : List Name). All (IsKeptPiece names) new.pieces) is kept.pieces) h

pub coalesced_answer : {E : Type 0} (assumed : Assumed) (value : KeptValue) (answer : Result KeptValue E) → assumed ≡ Nothing
    → IfOk answer IsKeptValue → IfOk answer (IsCoalescedUnder assumed value) → IfOk answer (IsCoalesced value)
coalesced_answer assumed value (Ok new) is kept h =
    coalesced_of_all value new kept (subst (λ (a : Assumed). IsCoalescedUnder a value new) is h)
coalesced_answer assumed value (Err e) is kept h = tt

-- ---- assumed valuations that say the same of these parameters
module _ (params : List Name) (P Q : Valuation → Type 0)
    (forth : (v : Valuation) → Q v → (w : Valuation) × (values_of params w ≡ values_of params v) × P w) where
  -- an element of a piece depends on the numbers of the parameters alone
  moved : (v w : Valuation) (e : Element) (piece : KeptPiece) → values_of params w ≡ values_of params v → HasElement params v e piece
      → HasElement params w e piece
  moved v w e piece same h = record {
    numbers = h.numbers;
    space = h.space;
    holds = subst (λ xs. HoldsSystem (piece_system params piece) (xs ++ e.coordinates)) (sym same) h.holds;
  }

  true_in : (piece : KeptPiece) (r : Row) → IsTrueAt P params piece r → IsTrueAt Q params piece r
  true_in piece r t v e q h =
      let k = forth v q in
      subst (λ xs. HoldsRow r (xs ++ e.coordinates)) (k.1) (t (k.0) e (k.2) (moved v (k.0) e piece (k.1) h))

  elements_in : (p q joint : KeptPiece)
      → ((v : Valuation) (e : Element) → P v → HasElement params v e joint ↔ (HasElement params v e p ⊎ HasElement params v e q))
      → (v : Valuation) (e : Element) → Q v → HasElement params v e joint ↔ (HasElement params v e p ⊎ HasElement params v e q)
  elements_in p q joint elements v e is =
      let k = forth v is in
      let w = k.0 in
      let same = k.1 in
      let here = elements w e (k.2) in (
        (λ h. elim (here.0 (moved v w e joint same h)) [
          | inl x ↦ inl (moved w v e p (sym same) x)
          | inr y ↦ inr (moved w v e q (sym same) y)
        ]),
        (λ some. moved w v e joint (sym same) (here.1 (elim some [
          | inl x ↦ inl (moved v w e p same x)
          | inr y ↦ inr (moved v w e q same y)
        ]))),
      )

module _ (params : List Name) (P Q : Valuation → Type 0)
    (forth : (v : Valuation) → Q v → (w : Valuation) × (values_of params w ≡ values_of params v) × P w)
    (back : (v : Valuation) → P v → (w : Valuation) × (values_of params w ≡ values_of params v) × Q w) where
  joint_in : (p q joint : KeptPiece) → IsJointAt P params p q joint → IsJointAt Q params p q joint
  joint_in p q joint h = record {
    same = h.same;
    space = h.space;
    definitions = h.definitions;
    first = h.first;
    second = h.second;
    own = parts_same (IsTrueAt P params q) (IsTrueAt Q params q) (λ r. (true_in params P Q forth q r, true_in params Q P back q r))
        p.rows h.first h.own;
    others = parts_same (IsTrueAt P params p) (IsTrueAt Q params p) (λ r. (true_in params P Q forth p r, true_in params Q P back p r))
        q.rows h.second h.others;
    rows = h.rows;
    elements = elements_in params P Q forth p q joint h.elements;
    some = λ dead. h.some (dead_weaker Q P params joint back dead);
  }

-- a value that is coalesced at the one valuations is at the others
pub coalesced_same : (P Q : Valuation → Type 0) (value new : KeptValue)
    → ((v : Valuation) → Q v → (w : Valuation) × (values_of value.params w ≡ values_of value.params v) × P w)
    → ((v : Valuation) → P v → (w : Valuation) × (values_of value.params w ≡ values_of value.params v) × Q w)
    → IsCoalescedBy (IsJointAt P value.params) value new → IsCoalescedBy (IsJointAt Q value.params) value new
coalesced_same P Q value new forth back h =
    let params = value.params in
    coalesced_in (IsJointAt P params) (IsJointAt Q params) (λ (piece : KeptPiece). Unit {0}) (joint_in params P Q forth back)
    (λ p q joint u. joint_in params Q P back forth p q joint) value new (λ k d l. tt) h

-- what is assumed, and what that says of the parameters
pub coalesced_assumed : (assumed known : Assumed) (value new : KeptValue)
    → ((v : Valuation) → Assumes known v ↔ AssumesSome assumed value.params v)
    → IsCoalescedBy (IsJointAt (Assumes known) value.params) value new → IsCoalescedUnder assumed value new
coalesced_assumed assumed known value new same h =
    coalesced_same (Assumes known) (Assumes assumed) value new (λ v it. (v, refl, (same v).1 (v, refl, it))) (λ v it. (same v).0 it) h
