-- Rows with a test at their end, at the constructors of the code.
use mathlib.Core.Former.{Count}
use Rattle.std.proofs.Common.{◌≡◌, ◌∙◌, ◌↔◌, ◌⊎◌, ◌<◌, ◌≤◌, inl, inr, refl, sym, ap, ap₂, subst, arith}
use Rattle.std.proofs.Common.{ℕ, Bool, true, false, List, [], ◌∷◌, ◌++◌, length, Option, Result, Ok, Err}
use Rattle.std.specs.Prelude.{unsigned_abs, not, IsTrue, IfOk, MatchResult, if◌then◌else◌, ◌||◌, ◌&&◌}
use Rattle.std.specs.List.{list_any}
use Rattle.std.proofs.lemmas.Bool.{or_parts, false≢true}
use Rattle.isl_meter.specs.Gauge.{Gauge, limit_of, IsCharged, IsCutBy}
use Rattle.isl_meter.specs.declared.Cut.{Cut}
use Rattle.isl_meter.specs.declared.Cut.TheVariants.{NoMemory}
use Rattle.isl_meter.proofs.CutLemmas.{IsCharged_refl, IsCharged_trans, IsCutBy-after}
use Rattle.isl_space.specs.Limits.{most_parameters}
use Rattle.isl_space.specs.Name.{Name}
use Rattle.isl_space.specs.Names.{joined}
use Rattle.isl_union.specs.KeptValue.{KeptValue, Has, IsKeptValue}
use Rattle.isl_union.specs.Fault.{IsFaultBy}
use Rattle.isl_union.specs.declared.fault.OpFault.{OpFault}
use Rattle.isl_union.specs.declared.fault.OpFault.TheVariants as op_fault
use Rattle.isl_refusal.specs.declared.refusal.Refusal.{Refusal}
use Rattle.isl_refusal.specs.declared.refusal.Refusal.TheVariants as refusals
use Rattle.isl_space.specs.Element.{Element}
use Rattle.isl_space.specs.Valuation.{Valuation}
use Rattle.isl_tree.specs.declared.statement.Binary.{Binary}
use Rattle.isl_tree.specs.declared.statement.Binary.TheVariants as b
use Rattle.isl_tree.specs.declared.statement.Link.{Link}
use Rattle.isl_tree.specs.declared.statement.Expr.{Expr, Row, Row_of-Link, end_of-Link}
use Rattle.isl_tree.specs.declared.statement.Expr.{more_of-Link, items-the_row-Link, items_hidden-the_row-Link-1}
use Rattle.isl_tree.specs.declared.statement.Expr.TheBlock.{hidden-the_row-Expr-0, hidden-the_row-Link-1}
use Rattle.isl_kinds.specs.Parts.{Part, parts_of, parts_of_links, parts_in_links}
use Rattle.isl_kinds.specs.Parts as part
use Rattle.isl_kinds.specs.Typed.{ScopeView, declared_of, declared_of_row, joined_names}
use Rattle.isl_kinds.proofs.DeclaredLaws.{declared_of-Row}
use Rattle.isl_kinds.proofs.PartLaws.{links_are, any_in_link}
use Rattle.isl_assumed.specs.Assumed.{Assumes}
use Rattle.isl_values.specs.Live.{IsUnderOf}
use Rattle.isl_values.specs.State.{StateView, Moment, HasNumbersUpTo, scope_of}
use Rattle.isl_operators.specs.Operations.{OperatorHas}
use Rattle.isl_operators.proofs.NamesLaws.{turned_fits}
use Rattle.isl_values.specs.Selection.{Selects, RowSelects, context_of}
use Rattle.isl_values.specs.Ends.{End, too_wide}
use Rattle.isl_values.specs.Ends as ends
use Rattle.isl_values.specs.Made.{IsPaid, IsWhyUnmade, IsWhyUnworked, refusal_of_cut, refusal_of_fault}
use Rattle.isl_values.proofs.PartLaws.{quiet_both}
use Rattle.isl_values.proofs.RowLaws.{same_row, same_trans}
use Rattle.isl_values.proofs.ValueLaws.{numbers_later, paid_works, unmade_memory, unworked_after}
use Rattle.isl_eval.specs.Claims.{ProvesTest}
use Rattle.isl_eval.specs.Tests.{Elements, is_test, ends_with_test, IsPartOf, SaysPastLinks, TestHolds}
use Rattle.isl_eval.specs.Machine.{Answer, Shows, ShowsRow, ShowsTest, told}
use Rattle.std.specs.Option.{option_map_or}
use Rattle.isl_eval.specs.Evaluated.{made_parts, shown_parts, parts_around_test}
use Rattle.isl_eval.specs.Evaluation.{EndsTwo, IsTestOf, Tells, context_in, names_tested, past_row}
use Rattle.isl_eval.specs.Evaluation.{ends_with_test as ends}
use Rattle.isl_eval.proofs.AssumedLaws.{both_same, left_among, not_same, right_among, test_told}

-- ---- the same of lists

abbrev pub around : List Link → List Part
around [] = []
around (link ∷ []) = parts_of link.operand
around (link ∷ next ∷ more) = part.operator link.operator ∷ (parts_of link.operand ++ around (next ∷ more))

abbrev SaysPast : (Binary → Elements → Elements → Type 0) → StateView → Elements → List Link → Type 0
SaysPast Says state Left [] = ⊥
SaysPast Says state Left (link ∷ []) = Says link.operator Left (λ v x. Selects state link.operand v x)
SaysPast Says state Left (link ∷ next ∷ more) =
    SaysPast Says state (λ v x. OperatorHas link.operator (Left v) (λ y. Selects state link.operand v y) x) (next ∷ more)

pub ends_are : (m : Count) (row : Row_of-Link m) → ends_with_test row ≡ ends (items-the_row-Link m row)
ends_are m end_of-Link = refl
ends_are m (more_of-Link operator operand end_of-Link) = refl
ends_are m (more_of-Link operator operand (more_of-Link next other row)) = ends_are _ (more_of-Link next other row)

around_are : (m : Count) (row : Row_of-Link m) → parts_around_test row ≡ around (items-the_row-Link m row)
around_are m end_of-Link = refl
around_are m (more_of-Link operator operand end_of-Link) = refl
around_are m (more_of-Link operator operand (more_of-Link next other row)) =
    ap (λ ps. part.operator operator ∷ (parts_of operand ++ ps)) (around_are _ (more_of-Link next other row))

module _ (Says : Binary → Elements → Elements → Type 0) (state : StateView) where
  says_are : (m : Count) (Left : Elements) (row : Row_of-Link m) → SaysPast Says state Left (items-the_row-Link m row)
      → SaysPastLinks Says state Left row
  says_are m Left end_of-Link says = says
  says_are m Left (more_of-Link operator operand end_of-Link) says = says
  says_are m Left (more_of-Link operator operand (more_of-Link next other row)) says =
      says_are _ (λ v x. OperatorHas operator (Left v) (λ y. Selects state operand v y) x) (more_of-Link next other row) says

  says_at : (Left : Elements) (before : List Link) (last : Link)
      → Says last.operator (λ v x. RowSelects state v (Left v) before x) (λ v x. Selects state last.operand v x)
      → SaysPast Says state Left (before ++ last ∷ [])
  says_at Left [] last says = says
  says_at Left (link ∷ []) last says = says
  says_at Left (link ∷ next ∷ before) last says =
      says_at (λ v x. OperatorHas link.operator (Left v) (λ y. Selects state link.operand v y) x) (next ∷ before) last says

-- ---- the last link

pub ends_at : (before : List Link) (last : Link) → ends (before ++ last ∷ []) ≡ is_test last.operator
ends_at [] last = refl
ends_at (link ∷ []) last = refl
ends_at (link ∷ next ∷ before) last = ends_at (next ∷ before) last

around_link : (test : Part → Bool) (link : Link) (links : List Link) → test (part.operator link.operator) ≡ false
    → list_any test (parts_of link.operand) ≡ false → list_any test (parts_of_links links) ≡ false
    → list_any test (parts_of_links (link ∷ links)) ≡ false
around_link test link links sign operand rest =
    any_in_link test link links sign ∙ ap₂ (λ (a b : Bool). a || b) operand rest

pub around_at : (test : Part → Bool) (before : List Link) (last : Link) → list_any test (around (before ++ last ∷ [])) ≡ false
    → (list_any test (parts_of_links before) ≡ false) × (list_any test (parts_of last.operand) ≡ false)
around_at test [] last none = (refl, none)
around_at test (link ∷ []) last none =
    let sign = or_parts (test (part.operator link.operator)) (list_any test (parts_of link.operand ++ parts_of last.operand)) none in
    let both = quiet_both test (parts_of link.operand) (parts_of last.operand) sign.1 in
    (around_link test link [] sign.0 both.0 refl, both.1)
around_at test (link ∷ next ∷ before) last none =
    let sign = or_parts (test (part.operator link.operator))
    (list_any test (parts_of link.operand ++ around (next ∷ (before ++ last ∷ [])))) none in
    let both = quiet_both test (parts_of link.operand) (around (next ∷ (before ++ last ∷ []))) sign.1 in
    let rest = around_at test (next ∷ before) last both.1 in
    (around_link test link (next ∷ before) sign.0 both.0 rest.0, rest.1)

-- the names of a row are those in front of the last link, and those of its operand
row_names : (scope : ScopeView) (names : List Name) (before : List Link) (last : Link)
    → declared_of_row scope names (before ++ last ∷ [])
    ≡ joined_names (declared_of_row scope names before) (declared_of scope last.operand)
row_names scope names [] last = refl
row_names scope names (link ∷ before) last = row_names scope (joined_names names (declared_of scope link.operand)) before last

-- ---- rows of the code

pub context_is : (m : Count) (row : Row_of-Link m) → context_of row ≡ context_in (items-the_row-Link m row)
context_is m end_of-Link = refl
context_is m (more_of-Link b.Gist operand end_of-Link) = refl
context_is m (more_of-Link _ operand end_of-Link) = refl
context_is m (more_of-Link b.Gist operand (more_of-Link next other rest)) = refl
context_is m (more_of-Link _ operand (more_of-Link next other rest)) = refl

abbrev pub made_behind : List Link → List Part
made_behind links = option_map_or (λ context. parts_of context) (context_in links) (parts_of_links links)

pub made_of-Row : (first : Expr) (links : List Link) → made_parts (Row first links) ≡ parts_of first ++ made_behind links
unfolding hidden-the_row-Expr-0 denote.Hole.Carrier.hidden
made_of-Row first links =
    let row = hidden-the_row-Link-1 links in
    let are = items_hidden-the_row-Link-1 links in
    ap (λ (c : Option Expr). parts_of first ++ option_map_or (λ context. parts_of context) c (parts_in_links row))
    (context_is _ row ∙ ap context_in are)
    ∙ ap (λ (ps : List Part). parts_of first ++ option_map_or (λ context. parts_of context) (context_in links) ps)
    (links_are _ row ∙ ap parts_of_links are)

shown_of-Row : (first : Expr) (links : List Link)
    → shown_parts (Row first links) ≡ (if ends links then parts_of first ++ around links else made_parts (Row first links))
unfolding hidden-the_row-Expr-0 denote.Hole.Carrier.hidden
shown_of-Row first links =
    let row = hidden-the_row-Link-1 links in
    let are = items_hidden-the_row-Link-1 links in
    let made = made_parts (Row first links) in
    ap (λ (b : Bool). if b then parts_of first ++ parts_around_test row else made) (ends_are _ row ∙ ap ends are)
    ∙ ap (λ (ps : List Part). if ends links then parts_of first ++ ps else made) (around_are _ row ∙ ap around are)

-- what stands around a test
pub test_parts : (test : Part → Bool) (first : Expr) (before : List Link) (last : Link) → is_test last.operator ≡ true
    → list_any test (shown_parts (Row first (before ++ last ∷ []))) ≡ false
    → (list_any test (parts_of first) ≡ false) × (list_any test (parts_of_links before) ≡ false)
    × (list_any test (parts_of last.operand) ≡ false)
test_parts test first before last is none =
    let links = before ++ last ∷ [] in
    let at_end : (if ends links then parts_of first ++ around links else made_parts (Row first links)) ≡ parts_of first ++ around links =
    ap (λ (b : Bool). if b then parts_of first ++ around links else made_parts (Row first links)) (ends_at before last ∙ is) in
    let both = quiet_both test (parts_of first) (around links) (sym (ap (list_any test) (shown_of-Row first links ∙ at_end)) ∙ none) in
    let rest = around_at test before last both.1 in
    (both.0, rest.0, rest.1)

-- a row without a test at its end is shown as what is kept of it
pub whole_row : (first : Expr) (links : List Link) → ends links ≡ false → shown_parts (Row first links) ≡ made_parts (Row first links)
whole_row first links none =
    shown_of-Row first links ∙ ap (λ (b : Bool). if b then parts_of first ++ around links else made_parts (Row first links)) none

-- ---- answers

row_shown : (before : Moment) (first : Expr) (links : List Link) (answer : Answer) → ends links ≡ true
    → SaysPast (ShowsTest before (declared_of (scope_of before.state) (Row first links)) answer) before.state
    (λ v x. Selects before.state first v x) links
    → Shows before (Row first links) answer
unfolding hidden-the_row-Expr-0 denote.Hole.Carrier.hidden
row_shown before first links answer ending says =
    let row = hidden-the_row-Link-1 links in
    let are = items_hidden-the_row-Link-1 links in
    let Says = ShowsTest before (declared_of (scope_of before.state) (Row first links)) answer in
    let Left : Elements = λ v x. Selects before.state first v x in
    subst (λ (b : Bool). ShowsRow b (SaysPastLinks Says before.state Left row) before (Row first links) answer)
    (sym (ends_are _ row ∙ ap ends are ∙ ending))
    (says_are Says before.state _ Left row (subst (λ (ls : List Link). SaysPast Says before.state Left ls) (sym are) says))

pub shows_test : (before : Moment) (x first : Expr) (links around : List Link) (last : Link) (answer : Answer) (asked : Bool)
    → asked ≡ before.options.cert → x ≡ Row first links → links ≡ around ++ last ∷ [] → is_test last.operator ≡ true
    → ((holds : Bool) × (lines : List ℕ)
    × (IsTrue holds ↔ TestHolds before.state last.operator (past_row before.state first around)
    (λ v y. Selects before.state last.operand v y))
    × ProvesTest (holds && asked) before.state (names_tested (scope_of before.state) first around last) last.operator
    (past_row before.state first around) (λ v y. Selects before.state last.operand v y) lines
    × (answer ≡ told holds lines))
    → Shows before x answer
shows_test before x first links around last answer asked option is are test shows =
    let scope = scope_of before.state in
    let declared = declared_of scope first in
    let names : names_tested scope first around last ≡ declared_of scope (Row first links) =
    sym (declared_of-Row scope first links ∙ ap (declared_of_row scope declared) are ∙ row_names scope declared around last) in
    let Left : Elements = λ v y. Selects before.state first v y in
    let Right : Elements = λ v y. Selects before.state last.operand v y in
    let Says = ShowsTest before (declared_of scope (Row first links)) answer in
    let proves = subst (λ (ns : List Name). ProvesTest (shows.0 && before.options.cert) before.state ns last.operator
    (past_row before.state first around) Right shows.1) names
    (subst (λ (a : Bool). ProvesTest (shows.0 && a) before.state (names_tested scope first around last) last.operator
    (past_row before.state first around) Right shows.1) option shows.3) in
    let here : Says last.operator (past_row before.state first around) Right = (shows.0, shows.1, shows.2, proves, shows.4) in
    subst (λ (y : Expr). Shows before y answer) (sym is)
    (row_shown before first links answer (ap ends are ∙ ends_at around last ∙ test)
    (subst (λ (ls : List Link). SaysPast Says before.state Left ls) (sym are) (says_at Says before.state Left around last here)))

-- ---- tests of the same elements

abbrev pub SamePart : StateView → Elements → Elements → Type 0
SamePart state P Q = (v : Valuation) → Assumes state.assumed v → (x : Element) → P v x ↔ Q v x

part_same : (state : StateView) (P Q R S : Elements) → SamePart state P R → SamePart state Q S → IsPartOf state P Q ↔ IsPartOf state R S
part_same state P Q R S left right = (
  (λ part v here x h. (right v here x).0 (part v here x ((left v here x).1 h))),
  (λ part v here x h. (right v here x).1 (part v here x ((left v here x).0 h))),
)

pub test_same : (state : StateView) (operator : Binary) (P Q R S : Elements) → SamePart state P R → SamePart state Q S
    → TestHolds state operator P Q ↔ TestHolds state operator R S
test_same state b.Equal P Q R S left right = both_same _ _ _ _ (part_same state P Q R S left right) (part_same state Q P S R right left)
test_same state b.Subset P Q R S left right = part_same state P Q R S left right
test_same state b.ProperSubset P Q R S left right =
    both_same _ _ _ _ (part_same state P Q R S left right) (not_same _ _ (part_same state Q P S R right left))
test_same state b.Superset P Q R S left right = part_same state Q P S R right left
test_same state b.ProperSuperset P Q R S left right =
    both_same _ _ _ _ (part_same state Q P S R right left) (not_same _ _ (part_same state P Q R S left right))
test_same state _ P Q R S left right = ((λ h. h), (λ h. h))

-- ---- what a test of values is
pub at_test : {E : Type 0} (result : Result Bool E) (operator word : Binary) (left right : KeptValue) (Holds : Type 0)
    → operator ≡ word
    → IfOk result (λ holds. IsTrue holds ↔ Holds) → Tells word left right ≡ Holds
    → IfOk result (λ holds. IsTrue holds ↔ Tells operator left right)
at_test result operator word left right Holds is exact same =
    subst (λ (o : Binary). IfOk result (λ holds. IsTrue holds ↔ Tells o left right)) (sym is)
    (subst (λ (H : Type 0). IfOk result (λ holds. IsTrue holds ↔ H)) (sym same) exact)

-- ---- parameters
-- those of the two values that are tested
pub test_names : (scope : ScopeView) (first : Expr) (before : List Link) (last : Link) (one left right : KeptValue)
    → one.params ≡ declared_of scope first → left.params ≡ declared_of_row scope one.params before
    → right.params ≡ declared_of scope last.operand
    → joined_names left.params right.params
    ≡ joined_names (declared_of_row scope (declared_of scope first) before) (declared_of scope last.operand)
test_names scope first before last one left right first_is left_is right_is =
    ap₂ joined_names (left_is ∙ ap (λ (ps : List Name). declared_of_row scope ps before) first_is) right_is

-- what a test leaves of two values, and of them in the other order
module _ (a b : KeptValue) (one : IsKeptValue a) (two : IsKeptValue b) where
  fewer : length (joined b.params a.params) ≤ length (joined a.params b.params)
  fewer = turned_fits a.params b.params one.params.distinct two.params.distinct

  pub fewer_turned : length (joined a.params b.params) ≤ most_parameters → length (joined b.params a.params) ≤ most_parameters
  fewer_turned few = let least = fewer in omega (arith, few, least)

  -- why the second of two tests has no answer
  pub second_fault : (g h k : Gauge) (fault : OpFault) → length (joined a.params b.params) ≤ most_parameters → IsCharged g h
      → IsFaultBy (joined b.params a.params) h k fault → IsFaultBy (joined a.params b.params) g k fault
  second_fault g h k op_fault.TooWide few charged by = let least = fewer in absurd (omega (arith, few, least, by.0))
  second_fault g h k (op_fault.Cut cut) few charged by = (inl few, IsCutBy-after g h k cut charged by.1)

  turned_cut : (cut : Cut) → (length (joined b.params a.params) ≤ most_parameters) ⊎ (cut ≡ NoMemory)
      → length (joined a.params b.params) ≤ length (joined b.params a.params)
      → (length (joined a.params b.params) ≤ most_parameters) ⊎ (cut ≡ NoMemory)
  turned_cut cut (inl few) least = inl (omega (arith, few, least))
  turned_cut cut (inr memory) least = inr memory

  fault_turned : (g h : Gauge) (fault : OpFault) → length (joined a.params b.params) ≤ length (joined b.params a.params)
      → IsFaultBy (joined b.params a.params) g h fault → IsFaultBy (joined a.params b.params) g h fault
  fault_turned g h op_fault.TooWide other by = let least = fewer in (omega (arith, least, by.0), by.1)
  fault_turned g h (op_fault.Cut cut) other by = (turned_cut cut by.0 other, by.1)

pub turned_units : {A : Type 0} (a b : KeptValue) (g h : Gauge) (result : Result A OpFault) → IsKeptValue a → IsKeptValue b
    → IsTestOf (joined b.params a.params) g h result → IsTestOf (joined a.params b.params) g h result
turned_units a b g h (Ok holds) one two is = (fewer_turned b a two one is.0, is.1)
turned_units a b g h (Err fault) one two is = fault_turned a b one two g h fault (fewer b a two one) is

-- what operands under what is assumed tell of a test is whether it holds
pub told_is : (state : StateView) (operator : Binary) (left right l r a b : KeptValue) (holds : Bool) → IsKeptValue left → IsKeptValue right
    → IsUnderOf state.assumed (joined_names left.params right.params) left l
    → IsUnderOf state.assumed (joined_names left.params right.params) right r → a ≡ l → b ≡ r → (IsTrue holds ↔ Tells operator a b)
    → IsTrue holds ↔ TestHolds state operator (Has left) (Has right)
told_is state operator left right l r a b holds left_kept right_kept one two first second exact =
    let names = joined_names left.params right.params in
    let told = test_told state names left right a b (left_among state.assumed left right left_kept right_kept)
    (right_among state.assumed left right left_kept right_kept) (subst (IsUnderOf state.assumed names left) (sym first) one)
    (subst (IsUnderOf state.assumed names right) (sym second) two) operator in
    ((λ h. told.0 (exact.0 h)), (λ h. exact.1 (told.1 h)))

-- the test of the values is the test of what is selected
pub tested_is : (state : StateView) (operator : Binary) (first operand : Expr) (before : List Link) (one left right : KeptValue) (holds : Bool)
    → ((v : Valuation) → Assumes state.assumed v → (x : Element) → Has one v x ↔ Selects state first v x)
    → ((v : Valuation) → Assumes state.assumed v → (x : Element) → Has left v x ↔ RowSelects state v (Has one v) before x)
    → ((v : Valuation) → Assumes state.assumed v → (x : Element) → Has right v x ↔ Selects state operand v x)
    → (IsTrue holds ↔ TestHolds state operator (Has left) (Has right))
    → IsTrue holds ↔ TestHolds state operator (past_row state first before) (λ v x. Selects state operand v x)
tested_is state operator first operand before one left right holds first_has left_has right_has exact =
    let e = test_same state operator (Has left) (Has right) (past_row state first before) (λ v x. Selects state operand v x)
    (λ v here. same_trans (Has left v) (RowSelects state v (Has one v) before) (past_row state first before v) (left_has v here)
    (same_row state v (Has one v) (Selects state first v) before (first_has v here)))
    right_has in
    ((λ h. e.0 (exact.0 h)), (λ h. exact.1 (e.1 h)))

-- ---- work that is paid, where units may be used
pub unmade_by : (Whole : End → Type 0) (g h k : Gauge) (cut : Cut) (refusal : Refusal) → IsCharged g h → IsCutBy h k cut
    → refusal ≡ refusal_of_cut cut → (cut ≡ NoMemory) ⊎ Whole ends.cut → IsWhyUnmade true Whole g k refusal
unmade_by Whole g h k cut refusal charged by is there = record {
  cut = cut;
  is = is;
  by = IsCutBy-after g h k cut charged by;
  there = there;
  free = λ none. absurd (false≢true (sym none));
}

pub unworked_on : (works : Bool) (Part Whole : End → Type 0) (g h k : Gauge) (refusal : Refusal)
    → ((why : End) → Part why → Whole why) → IsCharged g h → IsWhyUnworked works Part h k refusal → IsWhyUnworked true Whole g k refusal
unworked_on works Part Whole g h k refusal ends charged why =
    unworked_after true true works Part Whole g h k refusal (λ none. absurd (false≢true (sym none))) ends (paid_works g h charged) why

-- an operation of two values made nothing
pub two_fault : (left right : KeptValue) (names : List Name) (g h k : Gauge) (fault : OpFault) (refusal : Refusal)
    → names ≡ joined_names left.params right.params → refusal ≡ refusal_of_fault fault → IsCharged g h → IsFaultBy names h k fault
    → IsWhyUnworked true (EndsTwo left right) g k refusal
two_fault left right names g h k op_fault.TooWide refusal same is charged by =
    inr (
      too_wide,
      is,
      inl (subst (λ (ns : List Name). most_parameters < length ns) same by.0),
      paid_works g k (IsCharged_trans g h k charged (IsCharged_refl h k by.1)),
    )
two_fault left right names g h k (op_fault.Cut cut) refusal same is charged by =
    inl (unmade_by (EndsTwo left right) g h k cut refusal charged by.1 is (at by.0))
  where
    at : (length names ≤ most_parameters) ⊎ (cut ≡ NoMemory) → (cut ≡ NoMemory) ⊎ EndsTwo left right ends.cut
    at (inl few) = inr (subst (λ (ns : List Name). length ns ≤ most_parameters) same few, λ no. no)
    at (inr memory) = inl memory

-- what is returned where a call was refused
pub refused : {A E : Type 0} (result : Result A E) (P : A → Type 0) (Q : E → Type 0) (refusal : E) → result ≡ Err refusal
    → Q refusal → MatchResult result P Q
refused result P Q refusal is why = subst (λ (r : Result _ _). MatchResult r P Q) (sym is) why

-- memory ran out after work
pub memory_unworked : {A : Type 0} (result : Result A Refusal) (P : A → Type 0) (works : Bool) (Whole : End → Type 0) (g h : Gauge)
    → result ≡ Err refusals.NoMemory → IsPaid works g h → MatchResult result P (IsWhyUnworked works Whole g h)
memory_unworked result P works Whole g h is paid =
    refused result P (IsWhyUnworked works Whole g h) refusals.NoMemory is (inl (unmade_memory works Whole g h refusals.NoMemory refl paid))

-- the one holds, and the other does not
pub proper_is : (one other : Bool) (S T : Type 0) → (IsTrue one ↔ S) → one ≡ true → (IsTrue other ↔ T)
    → IsTrue (not other) ↔ (S × (¬ T))
proper_is one other S T first holds second = by other second
  where
    by : (b : Bool) → (IsTrue b ↔ T) → IsTrue (not b) ↔ (S × (¬ T))
    by true second = ((λ no. absurd (false≢true no)), (λ h. absurd (h.1 (second.0 refl))))
    by false second = ((λ _. (first.0 holds, (λ t. false≢true (second.1 t)))), (λ _. refl))

-- a value behind a pointer is within the limit later
pub at_deref : (g h : Gauge) (value v : KeptValue) → IsCharged g h → v ≡ value → HasNumbersUpTo (unsigned_abs (limit_of g)) value
    → HasNumbersUpTo (unsigned_abs (limit_of h)) v
at_deref g h value v charged is small =
    subst (λ (k : KeptValue). HasNumbersUpTo (unsigned_abs (limit_of h)) k) (sym is) (numbers_later g h value charged small)
