-- Proofs behind tests that hold.
use Rattle.std.proofs.Common.{◌≡◌, ◌↔◌, ◌∙◌, ◌≤◌, ◌++◌, inl, inr, ap₂, refl, sym, subst, ℕ, Bool, true, false, ◌&&◌, List, []}
use Rattle.std.proofs.Common.{All, Contains, length}
use Rattle.std.proofs.lemmas.Bool.{false≢true}
use Rattle.std.proofs.lemmas.List.Elements.{All-contains_itself}
use Rattle.isl_assumed.specs.declared.assumed.Assumed.{Assumed}
use Rattle.isl_assumed.specs.declared.assumed.Assumed.TheVariants.{Nothing, Where}
use Rattle.isl_assumed.specs.Assumed.{Assumes}
use Rattle.isl_claim.specs.Claim.{claim_text, Claim, IsClaimOf}
use Rattle.isl_meter.specs.Gauge.{Gauge, IsCutBy}
use Rattle.isl_meter.specs.declared.Cut.{Cut}
use Rattle.isl_space.specs.Element.{Element}
use Rattle.isl_space.specs.Limits.{most_parameters}
use Rattle.isl_space.specs.Name.{Name}
use Rattle.isl_space.specs.Names.{joined, IsParameterList}
use Rattle.isl_space.specs.Valuation.{Valuation}
use Rattle.isl_tree.specs.declared.statement.Binary.{Binary}
use Rattle.isl_tree.specs.declared.statement.Binary.TheVariants as b
use Rattle.isl_tree.specs.declared.statement.Expr.{Expr}
use Rattle.isl_tree.specs.declared.statement.Link.{Link}
use Rattle.isl_union.specs.Compare.{IsSubset}
use Rattle.isl_union.specs.Fault.{IsFaultBy}
use Rattle.isl_union.specs.declared.fault.OpFault.TheVariants as op_fault
use Rattle.isl_union.specs.KeptValue.{KeptValue, Has, IsKeptValue}
use Rattle.isl_values.proofs.RowLaws.{same_row, same_trans}
use Rattle.isl_values.proofs.UnderLaws.{operands_part, under_here}
use Rattle.isl_refusal.specs.declared.refusal.Refusal.{Refusal}
use Rattle.isl_values.specs.Ends.{GoesOn}
use Rattle.isl_values.specs.Live.{IsUnderOf}
use Rattle.isl_values.specs.Made.{IsWhyUnworked}
use Rattle.isl_values.specs.Selection.{RowSelects, Selects}
use Rattle.isl_values.specs.State.{StateView}
use Rattle.isl_kinds.specs.Typed.{joined_names}
use Rattle.isl_eval.proofs.AssumedLaws.{both_are, under_names, under_some}
use Rattle.isl_eval.proofs.TestLaws.{SamePart}
use Rattle.isl_eval.specs.Evaluation.{past_row, EndsTwo, ShowsClaim, ShowsClaims}
use Rattle.isl_eval.specs.Claims.{claims_left, claims_right, ProvesClaim, ProvesClaims, ProvesIf, ProvesTest}
use Rattle.isl_eval.specs.Tests.{Elements, IsPartOf, TestHolds}

-- ---- values at assumed valuations
under_part : (assumed : Assumed) (names : List Name) (value under : KeptValue) → IsUnderOf assumed names value under → IsSubset under value
under_part Nothing names value under is v x has = subst (λ (u : KeptValue). Has u v x) is has
under_part (Where region) names value under is v x has = ((is.elements v x).0 has).0

-- it declares some of the names
pub under_among : (assumed : Assumed) (names : List Name) (value under : KeptValue) → All (Contains names) value.params
    → IsUnderOf assumed names value under → All (Contains names) under.params
under_among assumed names value under among is = elim (under_names assumed names value under is) [
  | inl same ↦ subst (λ (u : KeptValue). All (Contains names) u.params) (sym same) among
  | inr over ↦ subst (λ (ns : List Name). All (Contains names) ns) (sym over) (All-contains_itself names)
]

module _ (state : StateView) (names : List Name) where
  shown_claim : (lesser greater under : KeptValue) → IsUnderOf state.assumed names lesser under → (made : Bool) (lines : List ℕ)
      → ShowsClaim made names under greater lines → ProvesIf made state names (Has lesser) (Has greater) lines
  shown_claim lesser greater under of true lines shows =
      let is = shows.1 in
      let here = under_here state.assumed names lesser under of in
      record {
        claim = shows.0;
        params = is.params;
        outside = λ v _ x. (is.outside.0 v x, is.outside.1 v x);
        inside = λ v a x. ((λ h. (here v a x).0 (is.inside.0 v x h)), (λ h. is.inside.1 v x ((here v a x).1 h)));
        only = λ v x h. under_some state.assumed names lesser under of v x (is.inside.0 v x h);
        kept = is.kept;
        parts_kept = is.parts_kept;
        plain = is.plain;
        parts_plain = is.parts_plain;
        proved = is.proved;
        text = shows.2;
      }
  shown_claim lesser greater under of false lines none = none

  pub shown_claims : (test : Binary) (left right left_under right_under : KeptValue) → IsUnderOf state.assumed names left left_under
      → IsUnderOf state.assumed names right right_under → (lines : List ℕ)
      → ShowsClaims names test left right left_under right_under lines → ProvesClaims state names test (Has left) (Has right) lines
  shown_claims test left right left_under right_under one two lines shows = record {
    first = shows.first;
    second = shows.second;
    left = shown_claim left right left_under one (claims_left test) shows.first shows.in_right;
    right = shown_claim right left right_under two (claims_right test) shows.second shows.in_left;
    text = shows.text;
  }

-- ---- what a test that holds claims
test_left : (state : StateView) (test : Binary) (P Q : Elements) → claims_left test ≡ true → TestHolds state test P Q → IsPartOf state P Q
test_left state b.Equal P Q is holds = holds.0
test_left state b.Subset P Q is holds = holds
test_left state b.ProperSubset P Q is holds = holds.0
test_left state _ P Q is holds = absurd (false≢true is)

test_right : (state : StateView) (test : Binary) (P Q : Elements) → claims_right test ≡ true → TestHolds state test P Q → IsPartOf state Q P
test_right state b.Equal P Q is holds = holds.1
test_right state b.Superset P Q is holds = holds
test_right state b.ProperSuperset P Q is holds = holds.0
test_right state _ P Q is holds = absurd (false≢true is)

module _ (state : StateView) (names : List Name) (left right l r : KeptValue) (left_among : All (Contains names) left.params)
    (right_among : All (Contains names) right.params) (one : IsUnderOf state.assumed names left l)
    (two : IsUnderOf state.assumed names right r) (test : Binary) (holds : TestHolds state test (Has left) (Has right)) where
  pub left_part : claims_left test ≡ true → IsSubset l right
  left_part is v x has =
      let part = test_left state test (Has left) (Has right) is holds in
      under_part state.assumed names right r two v x
      ((operands_part state.assumed names left right l r one two left_among right_among).1 part v x has)

  pub right_part : claims_right test ≡ true → IsSubset r left
  right_part is v x has =
      let part = test_right state test (Has left) (Has right) is holds in
      under_part state.assumed names left l one v x
      ((operands_part state.assumed names right left r l two one right_among left_among).1 part v x has)

-- ---- proofs of the same elements
module _ (state : StateView) (names : List Name) where
  claim_same : (P Q R S : Elements) → SamePart state P R → SamePart state Q S → (lines : List ℕ) → ProvesClaim state names P Q lines
      → ProvesClaim state names R S lines
  claim_same P Q R S lesser greater lines proves = record {
    claim = proves.claim;
    params = proves.params;
    outside = λ v here x. (
      (λ h. (greater v here x).0 ((proves.outside v here x).0 h)),
      (λ h. (proves.outside v here x).1 ((greater v here x).1 h)),
    );
    inside = λ v here x. (
      (λ h. (lesser v here x).0 ((proves.inside v here x).0 h)),
      (λ h. (proves.inside v here x).1 ((lesser v here x).1 h)),
    );
    only = proves.only;
    kept = proves.kept;
    parts_kept = proves.parts_kept;
    plain = proves.plain;
    parts_plain = proves.parts_plain;
    proved = proves.proved;
    text = proves.text;
  }

  if_same : (made : Bool) (P Q R S : Elements) → SamePart state P R → SamePart state Q S → (lines : List ℕ)
      → ProvesIf made state names P Q lines → ProvesIf made state names R S lines
  if_same true P Q R S lesser greater lines proves = claim_same P Q R S lesser greater lines proves
  if_same false P Q R S lesser greater lines none = none

  pub proved_same : (shown : Bool) (test : Binary) (P Q R S : Elements) → SamePart state P R → SamePart state Q S → (lines : List ℕ)
      → ProvesTest shown state names test P Q lines → ProvesTest shown state names test R S lines
  proved_same true test P Q R S left right lines proves = record {
    first = proves.first;
    second = proves.second;
    left = if_same (claims_left test) P Q R S left right proves.first proves.left;
    right = if_same (claims_right test) Q P S R right left proves.second proves.right;
    text = proves.text;
  }
  proved_same false test P Q R S left right lines none = none

-- what is proved of the values of operands is proved of what these select
pub tested_proved : (state : StateView) (operator : Binary) (first operand : Expr) (before : List Link) (one left right : KeptValue)
    (shown : Bool) (names whole : List Name) → names ≡ whole
    → ((v : Valuation) → Assumes state.assumed v → (x : Element) → Has one v x ↔ Selects state first v x)
    → ((v : Valuation) → Assumes state.assumed v → (x : Element) → Has left v x ↔ RowSelects state v (Has one v) before x)
    → ((v : Valuation) → Assumes state.assumed v → (x : Element) → Has right v x ↔ Selects state operand v x)
    → (lines : List ℕ) → ProvesTest shown state names operator (Has left) (Has right) lines
    → ProvesTest shown state whole operator (past_row state first before) (λ v x. Selects state operand v x) lines
tested_proved state operator first operand before one left right shown names whole same first_has left_has right_has lines proves =
    subst (λ (ns : List Name). ProvesTest shown state ns operator (past_row state first before) (λ v x. Selects state operand v x) lines)
    same
    (proved_same state names shown operator (Has left) (Has right) (past_row state first before) (λ v x. Selects state operand v x)
    (λ v here. same_trans (Has left v) (RowSelects state v (Has one v) before) (past_row state first before v) (left_has v here)
    (same_row state v (Has one v) (Selects state first v) before (first_has v here)))
    right_has lines proves)

-- ---- whether lines are shown
pub both_true : (holds asked : Bool) → (holds && asked) ≡ true → holds ≡ true
both_true true asked is = refl
both_true false asked is = absurd (false≢true is)

module _ (state : StateView) (names : List Name) (test : Binary) (P Q : Elements) (lines : List ℕ) where
  pub none_shown : (shown : Bool) → shown ≡ false → lines ≡ [] → ProvesTest shown state names test P Q lines
  none_shown true is none = absurd (false≢true (sym is))
  none_shown false is none = none

  pub all_shown : (shown : Bool) → shown ≡ true → ProvesClaims state names test P Q lines → ProvesTest shown state names test P Q lines
  all_shown true is proves = proves
  all_shown false is proves = absurd (false≢true is)

-- ---- what calls leave
pub none_made : (made : Bool) (names : List Name) (lesser greater : KeptValue) (lines : List ℕ) → made ≡ false → lines ≡ []
    → ShowsClaim made names lesser greater lines
none_made made names lesser greater lines is none = subst (λ (b : Bool). ShowsClaim b names lesser greater lines) (sym is) none

pub claim_made : (made : Bool) (names : List Name) (lesser greater : KeptValue) (lines : List ℕ) → made ≡ true
    → ((claim : Claim) × IsClaimOf names lesser greater claim × (lines ≡ claim_text claim)) → ShowsClaim made names lesser greater lines
claim_made made names lesser greater lines is shows = subst (λ (b : Bool). ShowsClaim b names lesser greater lines) (sym is) shows

module _ (test : Binary) (names params : List Name) (is : params ≡ names) (left right left_under right_under : KeptValue) where
  pub claims_shown : (one two : Bool) (first second lines : List ℕ) → one ≡ claims_left test → two ≡ claims_right test
      → ShowsClaim one params left_under right first → ShowsClaim two params right_under left second → lines ≡ first ++ second
      → ShowsClaims names test left right left_under right_under lines
  claims_shown one two first second lines first_is second_is first_shows second_shows text = record {
    first = first;
    second = second;
    in_right = subst (λ (ns : List Name). ShowsClaim (claims_left test) ns left_under right first) is
        (subst (λ (b : Bool). ShowsClaim b params left_under right first) first_is first_shows);
    in_left = subst (λ (ns : List Name). ShowsClaim (claims_right test) ns right_under left second) is
        (subst (λ (b : Bool). ShowsClaim b params right_under left second) second_is second_shows);
    text = text;
  }

-- work behind the joined parameters was cut
pub claim_fault : (names params : List Name) (g h : Gauge) (cut : Cut) → params ≡ names → IsParameterList params → IsCutBy g h cut
    → IsFaultBy names g h (op_fault.Cut cut)
claim_fault names params g h cut is list by = (inl (subst (λ (ns : List Name). length ns ≤ most_parameters) is list.few), by)

-- ---- copies of pointers
module _ (a b left right : KeptValue) (first : a ≡ left) (second : b ≡ right) where
  at_copies : (P : KeptValue → KeptValue → Type 0) → P a b → P left right
  at_copies P h = subst (λ (k : KeptValue). P left k) second (subst (λ (k : KeptValue). P k b) first h)

  pub goes_copied : GoesOn (EndsTwo a b) → GoesOn (EndsTwo left right)
  goes_copied goes = at_copies (λ x y. GoesOn (EndsTwo x y)) goes

  pub why_copied : (works : Bool) (g h : Gauge) (refusal : Refusal) → IsWhyUnworked works (EndsTwo a b) g h refusal
      → IsWhyUnworked works (EndsTwo left right) g h refusal
  why_copied works g h refusal why = at_copies (λ x y. IsWhyUnworked works (EndsTwo x y) g h refusal) why

-- ---- values behind pointers
pub joined_here : (assumed : Assumed) (left right : KeptValue) → IsKeptValue left → IsKeptValue right → (a b : KeptValue) → a ≡ left
    → b ≡ right → joined a.params b.params ≡ joined_names left.params right.params
joined_here assumed left right left_kept right_kept a b first second =
    ap₂ (λ (x y : KeptValue). joined x.params y.params) first second ∙ both_are assumed left right left_kept right_kept

pub declared_here : (assumed : Assumed) (names whole : List Name) (value under u : KeptValue) → names ≡ whole
    → All (Contains whole) value.params → IsUnderOf assumed whole value under → u ≡ under → All (Contains names) u.params
declared_here assumed names whole value under u same among of is =
    subst (λ (k : KeptValue). All (Contains names) k.params) (sym is)
    (subst (λ (ns : List Name). All (Contains ns) under.params) (sym same) (under_among assumed whole value under among of))

pub shows_here : (test : Binary) (names whole : List Name) (left right l r a b d e : KeptValue) (lines : List ℕ) → names ≡ whole → a ≡ left
    → b ≡ right → d ≡ l → e ≡ r → ShowsClaims names test a b d e lines → ShowsClaims whole test left right l r lines
shows_here test names whole left right l r a b d e lines same first second third fourth shows =
    subst (λ (k : KeptValue). ShowsClaims whole test left right l k lines) fourth
    (subst (λ (k : KeptValue). ShowsClaims whole test left right k e lines) third
    (subst (λ (k : KeptValue). ShowsClaims whole test left k d e lines) second
    (subst (λ (k : KeptValue). ShowsClaims whole test k b d e lines) first
    (subst (λ (ns : List Name). ShowsClaims ns test a b d e lines) same shows))))
