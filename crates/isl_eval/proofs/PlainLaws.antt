-- A test, `scan`, `codegen` and `pip` stand outermost where there is a kind, so values are worked out of nothing foreign where nothing is chosen.
use mathlib.Core.Former.{Count}
use Rattle.std.proofs.Common.{◌≡◌, ◌∙◌, refl, sym, ap, ap₂, subst}
use Rattle.std.proofs.Common.{Bool, true, false, List, [], ◌∷◌, ◌++◌, Option, Some, None}
use Rattle.std.specs.Prelude.{◌&&◌, ◌||◌, if◌then◌else◌}
use Rattle.std.specs.List.{list_all, list_any}
use Rattle.std.specs.Option.{option_and_then, option_map_or}
use Rattle.std.proofs.lemmas.Bool.{false≢true, and_parts, or_parts}
use Rattle.std.proofs.lemmas.List.Folds.{list_any-append}
use Rattle.isl_tree.specs.declared.statement.Binary.{Binary}
use Rattle.isl_tree.specs.declared.statement.Binary.TheVariants as b
use Rattle.isl_tree.specs.declared.statement.Prefix.{Prefix as Word}
use Rattle.isl_tree.specs.declared.statement.Prefix.TheVariants as p
use Rattle.isl_tree.specs.declared.statement.ValueKind.{ValueKind}
use Rattle.isl_tree.specs.declared.statement.ValueKind.TheVariants.{Set, Map, List as Pair, Empty, Truth, Listing, Code, Tree}
use Rattle.isl_tree.specs.declared.statement.Postfix.{Postfix, Inverse, Apply, Item}
use Rattle.isl_tree.specs.declared.statement.Expr as e
use Rattle.isl_tree.specs.declared.statement.Expr.{Expr, Row', Prefix', Any', Last', Post', Row_of-Expr, end_of-Expr, more_of-Expr}
use Rattle.isl_tree.specs.declared.statement.Expr.{Row_of-Link, end_of-Link, more_of-Link, Row_of-Postfix, end_of-Postfix, more_of-Postfix}
use Rattle.isl_kinds.specs.Lines.{Line, is_kind, is_set_or_map, fits, made, by_lines, by_short_lines}
use Rattle.isl_kinds.specs.Lines.{joined, applied, prefixed, inverse, item, dependence}
use Rattle.isl_kinds.specs.Parts.{Part, parts_of, parts_in, parts_in_links, parts_in_postfixes, parts_of_postfix}
use Rattle.isl_kinds.specs.Parts as part
use Rattle.isl_kinds.specs.Typed.{ScopeView, by_two, by_three, kind_of, kind_in, kind_past_links, kind_past_postfixes, kind_past}
use Rattle.isl_flat.specs.Simple.{chooses}
use Rattle.isl_values.specs.Made.{is_foreign}
use Rattle.isl_values.specs.Selection.{context_of}
use Rattle.isl_values.proofs.PartLaws.{quiet_both}
use Rattle.isl_eval.specs.Tests.{is_test, ends_with_test}
use Rattle.isl_eval.specs.Evaluated.{parts_around_test, made_parts, shown_parts}

-- ---- kinds of values
abbrev pub is_value : ValueKind → Bool
is_value Truth = false
is_value Listing = false
is_value Code = false
is_value Tree = false
is_value _ = true

fits_value : (given asked : ValueKind) → is_set_or_map asked ≡ true → fits given asked ≡ true → is_value given ≡ true
fits_value Set asked which fit = refl
fits_value Map asked which fit = refl
fits_value Empty asked which fit = refl
fits_value Pair asked which fit = refl
fits_value Truth Set which fit = absurd (false≢true fit)
fits_value Truth Map which fit = absurd (false≢true fit)
fits_value Truth _ which fit = absurd (false≢true which)
fits_value Listing Set which fit = absurd (false≢true fit)
fits_value Listing Map which fit = absurd (false≢true fit)
fits_value Listing _ which fit = absurd (false≢true which)
fits_value Code Set which fit = absurd (false≢true fit)
fits_value Code Map which fit = absurd (false≢true fit)
fits_value Code _ which fit = absurd (false≢true which)
fits_value Tree Set which fit = absurd (false≢true fit)
fits_value Tree Map which fit = absurd (false≢true fit)
fits_value Tree _ which fit = absurd (false≢true which)

-- ---- lines of two operands
-- each line asks for sets or maps, and makes a kind with P
abbrev OfValues : (ValueKind → Type 0) → List Line → Type 0
OfValues P [] = Unit {0}
OfValues P (line ∷ lines) = (is_set_or_map line.0 ≡ true) × (is_set_or_map line.1 ≡ true)
    × ((all_empty : Bool) → P (made all_empty line.2)) × OfValues P lines

abbrev IsJoined : (ValueKind → Type 0) → ValueKind → ValueKind → ValueKind → Type 0
IsJoined P l r m = (is_value l ≡ true) × (is_value r ≡ true) × P m

by_lines_of : (P : ValueKind → Type 0) (lines : List Line) (l r m : ValueKind) → OfValues P lines → by_lines lines l r ≡ Some m
    → IsJoined P l r m
by_lines_of P [] l r m all is = let e : None ≡ Some m = is in cc
by_lines_of P (line ∷ lines) l r m all is = by (fits l line.0) refl (fits r line.1) refl (by_lines_of P lines l r m all.3)
  where
    by : (x : Bool) → fits l line.0 ≡ x → (y : Bool) → fits r line.1 ≡ y → (by_lines lines l r ≡ Some m → IsJoined P l r m)
        → IsJoined P l r m
    by true p true q later =
        let found : ValueKind = made (is_kind l Empty && is_kind r Empty) line.2 in
        let e : Some found ≡ Some m = sym (rw (p, q) refl) ∙ is in
        let same : found ≡ m = cc in
        (fits_value l line.0 all.0 p, fits_value r line.1 all.1 q, subst P same (all.2 (is_kind l Empty && is_kind r Empty)))
    by true p false q later = later (sym (rw (p, q) refl) ∙ is)
    by false p y q later = later (sym (rw p refl) ∙ is)

-- what an operator that is supported does
abbrev MadeBy : Binary → ValueKind → Type 0
MadeBy operator k = (is_test operator ≡ true → k ≡ Truth) × (is_test operator ≡ false → is_foreign (part.operator operator) ≡ false)

abbrev Joins : Binary → ValueKind → ValueKind → ValueKind → Type 0
Joins operator l r m = IsJoined (MadeBy operator) l r m

no_test : {A : Type 0} → false ≡ true → A
no_test e = absurd (false≢true e)

no_other : {A : Type 0} → true ≡ false → A
no_other e = absurd (false≢true (sym e))

truth_made : (all_empty : Bool) → made all_empty Truth ≡ Truth
truth_made true = refl
truth_made false = refl

abbrev asks_values : Line → Bool
asks_values line = is_set_or_map line.0 && is_set_or_map line.1

-- an operator that makes a value
values_joined : (operator : Binary) (lines : List Line) (l r m : ValueKind) → list_all asks_values lines ≡ true
    → is_test operator ≡ false → is_foreign (part.operator operator) ≡ false → by_lines lines l r ≡ Some m → Joins operator l r m
values_joined operator lines l r m ask none plain is = by_lines_of (MadeBy operator) lines l r m (each lines ask) is
  where
    each : (lines : List Line) → list_all asks_values lines ≡ true → OfValues (MadeBy operator) lines
    each [] ask = tt
    each (line ∷ lines) ask =
        let all = and_parts (asks_values line) (list_all asks_values lines) ask in
        let own = and_parts (is_set_or_map line.0) (is_set_or_map line.1) all.0 in
        (own.0, own.1, (λ e. ((λ test. no_test (sym none ∙ test)), (λ _. plain))), each lines all.1)

-- a test, which tells a truth
truth_joined : (operator : Binary) (l r m : ValueKind) → is_test operator ≡ true
    → by_lines ((Set, Set, Truth) ∷ (Map, Map, Truth) ∷ []) l r ≡ Some m → Joins operator l r m
truth_joined operator l r m test is =
    by_lines_of (MadeBy operator) ((Set, Set, Truth) ∷ (Map, Map, Truth) ∷ []) l r m (refl, refl, line, (refl, refl, line, tt)) is
  where
    line : (all_empty : Bool) → MadeBy operator (made all_empty Truth)
    line all_empty = ((λ _. truth_made all_empty), (λ none. no_other (sym test ∙ none)))

joins : (operator : Binary) (l r m : ValueKind) → chooses (part.operator operator) ≡ false → joined operator l r ≡ Some m
    → Joins operator l r m
joins b.Union l r m low is = values_joined b.Union ((Set, Set, Set) ∷ (Map, Map, Map) ∷ []) l r m refl refl refl is
joins b.Difference l r m low is =
    values_joined b.Difference ((Set, Set, Set) ∷ (Map, Map, Map) ∷ (Map, Set, Map) ∷ []) l r m refl refl refl is
joins b.Intersection l r m low is =
    values_joined b.Intersection ((Set, Set, Set) ∷ (Map, Map, Map) ∷ (Map, Set, Map) ∷ []) l r m refl refl refl is
joins b.RangeDifference l r m low is = values_joined b.RangeDifference ((Map, Set, Map) ∷ []) l r m refl refl refl is
joins b.RangeIntersection l r m low is = values_joined b.RangeIntersection ((Map, Set, Map) ∷ []) l r m refl refl refl is
joins b.Cross l r m low is = values_joined b.Cross ((Set, Set, Set) ∷ (Map, Map, Map) ∷ []) l r m refl refl refl is
joins b.Join l r m low is = values_joined b.Join ((Map, Map, Map) ∷ []) l r m refl refl refl is
joins b.Universal l r m low is = values_joined b.Universal ((Set, Set, Map) ∷ []) l r m refl refl refl is
joins b.Equal l r m low is = truth_joined b.Equal l r m refl is
joins b.ProperSubset l r m low is = truth_joined b.ProperSubset l r m refl is
joins b.Subset l r m low is = truth_joined b.Subset l r m refl is
joins b.ProperSuperset l r m low is = truth_joined b.ProperSuperset l r m refl is
joins b.Superset l r m low is = truth_joined b.Superset l r m refl is
joins b.LexLess l r m low is = values_joined b.LexLess ((Set, Set, Map) ∷ (Map, Map, Map) ∷ []) l r m refl refl refl is
joins b.LexLessEqual l r m low is = values_joined b.LexLessEqual ((Set, Set, Map) ∷ (Map, Map, Map) ∷ []) l r m refl refl refl is
joins b.LexGreater l r m low is = values_joined b.LexGreater ((Set, Set, Map) ∷ (Map, Map, Map) ∷ []) l r m refl refl refl is
joins b.LexGreaterEqual l r m low is = values_joined b.LexGreaterEqual ((Set, Set, Map) ∷ (Map, Map, Map) ∷ []) l r m refl refl refl is
joins b.Gist l r m low is = absurd (false≢true (sym low))

value_made : (kind : ValueKind) → is_set_or_map kind ≡ true → (all_empty : Bool) → is_value (made all_empty kind) ≡ true
value_made Set which true = refl
value_made Set which false = refl
value_made Map which true = refl
value_made Map which false = refl
value_made _ which all_empty = absurd (false≢true which)

-- an application takes values, and makes one
applies : (l r m : ValueKind) → applied l r ≡ Some m → IsJoined (λ k. is_value k ≡ true) l r m
applies l r m is = by_lines_of (λ k. is_value k ≡ true) ((Map, Set, Set) ∷ (Map, Map, Map) ∷ []) l r m
    (refl, refl, value_made Set refl, (refl, refl, value_made Map refl, tt)) is

-- ---- lines of one operand
short_lines_of : (lines : List (ValueKind × ValueKind)) (k m : ValueKind) → list_all (λ line. is_set_or_map line.0) lines ≡ true
    → by_short_lines lines k ≡ Some m → is_value k ≡ true
short_lines_of [] k m all is = let e : None ≡ Some m = is in cc
short_lines_of (line ∷ lines) k m all is = by (fits k line.0) refl (short_lines_of lines k m asked.1)
  where
    asked : (is_set_or_map line.0 ≡ true) × (list_all (λ line. is_set_or_map line.0) lines ≡ true)
    asked = and_parts (is_set_or_map line.0) (list_all (λ line. is_set_or_map line.0) lines) all

    by : (x : Bool) → fits k line.0 ≡ x → (by_short_lines lines k ≡ Some m → is_value k ≡ true) → is_value k ≡ true
    by true p later = fits_value k line.0 asked.0 p
    by false p later = later (sym (rw p refl) ∙ is)

-- a word takes a value
word_takes : (word : Word) (k m : ValueKind) → prefixed word k ≡ Some m → is_value k ≡ true
word_takes p.Domain k m is = short_lines_of ((Map, Set) ∷ []) k m refl is
word_takes p.Range k m is = short_lines_of ((Map, Set) ∷ []) k m refl is
word_takes p.Deltas k m is = short_lines_of ((Map, Set) ∷ []) k m refl is
word_takes p.Identity k m is = short_lines_of ((Set, Map) ∷ []) k m refl is
word_takes p.Wrap k m is = short_lines_of ((Map, Set) ∷ []) k m refl is
word_takes p.Unwrap k m is = short_lines_of ((Set, Map) ∷ []) k m refl is
word_takes p.Zip k m is = short_lines_of ((Map, Map) ∷ []) k m refl is
word_takes p.DomainMap k m is = short_lines_of ((Map, Map) ∷ []) k m refl is
word_takes p.RangeMap k m is = short_lines_of ((Map, Map) ∷ []) k m refl is
word_takes p.Scan k m is = short_lines_of ((Set, Listing) ∷ (Map, Listing) ∷ []) k m refl is
word_takes p.Codegen k m is = short_lines_of ((Set, Code) ∷ (Map, Code) ∷ []) k m refl is
word_takes p.Pip k m is = short_lines_of ((Set, Tree) ∷ (Map, Tree) ∷ []) k m refl is
word_takes _ k m is = short_lines_of ((Set, Set) ∷ (Map, Map) ∷ []) k m refl is

-- `scan` makes no value
scan_lists : (k m : ValueKind) → prefixed p.Scan k ≡ Some m → is_value m ≡ false
scan_lists Set m is = let e : Some Listing ≡ Some m = is in let same : Listing ≡ m = cc in ap is_value (sym same)
scan_lists Map m is = let e : Some Listing ≡ Some m = is in let same : Listing ≡ m = cc in ap is_value (sym same)
scan_lists Empty m is = let e : Some Listing ≡ Some m = is in let same : Listing ≡ m = cc in ap is_value (sym same)
scan_lists _ m is = let e : None ≡ Some m = is in cc

-- nor does `codegen`
codegen_loops : (k m : ValueKind) → prefixed p.Codegen k ≡ Some m → is_value m ≡ false
codegen_loops Set m is = let e : Some Code ≡ Some m = is in let same : Code ≡ m = cc in ap is_value (sym same)
codegen_loops Map m is = let e : Some Code ≡ Some m = is in let same : Code ≡ m = cc in ap is_value (sym same)
codegen_loops Empty m is = let e : Some Code ≡ Some m = is in let same : Code ≡ m = cc in ap is_value (sym same)
codegen_loops _ m is = let e : None ≡ Some m = is in cc

-- nor does `pip`
pip_trees : (k m : ValueKind) → prefixed p.Pip k ≡ Some m → is_value m ≡ false
pip_trees Set m is = let e : Some Tree ≡ Some m = is in let same : Tree ≡ m = cc in ap is_value (sym same)
pip_trees Map m is = let e : Some Tree ≡ Some m = is in let same : Tree ≡ m = cc in ap is_value (sym same)
pip_trees Empty m is = let e : Some Tree ≡ Some m = is in let same : Tree ≡ m = cc in ap is_value (sym same)
pip_trees _ m is = let e : None ≡ Some m = is in cc

inverts : (k m : ValueKind) → inverse k ≡ Some m → (is_value k ≡ true) × (is_value m ≡ true)
inverts Map m is = (refl, let e : Some Map ≡ Some m = is in let same : Map ≡ m = cc in ap is_value (sym same))
inverts Empty m is = (refl, let e : Some Empty ≡ Some m = is in let same : Empty ≡ m = cc in ap is_value (sym same))
inverts _ m is = let e : None ≡ Some m = is in cc

-- an element is taken of a list, and is a map
takes_item : (k m : ValueKind) → item k ≡ Some m → (is_value k ≡ true) × (is_value m ≡ true)
takes_item Pair m is = (refl, let e : Some Map ≡ Some m = is in let same : Map ≡ m = cc in ap is_value (sym same))
takes_item _ m is = let e : None ≡ Some m = is in cc

-- three maps make a map, or a list
abbrev AreThree : ValueKind → ValueKind → ValueKind → ValueKind → Type 0
AreThree a b c m = (is_value a ≡ true) × (is_value b ≡ true) × (is_value c ≡ true) × (is_value m ≡ true)

depends : (result a b c m : ValueKind) → ((all_empty : Bool) → is_value (made all_empty result) ≡ true)
    → dependence result a b c ≡ Some m → AreThree a b c m
depends result a b c m of is = by (fits a Map) refl (fits b Map) refl (fits c Map) refl
  where
    by : (x : Bool) → fits a Map ≡ x → (y : Bool) → fits b Map ≡ y → (z : Bool) → fits c Map ≡ z → AreThree a b c m
    by true p true q true r =
        let found : ValueKind = made (is_kind a Empty && is_kind b Empty && is_kind c Empty) result in
        let e : Some found ≡ Some m = sym (rw (p, q, r) refl) ∙ is in
        let same : found ≡ m = cc in (
          fits_value a Map refl p,
          fits_value b Map refl q,
          fits_value c Map refl r,
          subst (λ (k : ValueKind). is_value k ≡ true) same (of (is_kind a Empty && is_kind b Empty && is_kind c Empty)),
        )
    by true p true q false r = let f : None ≡ Some m = sym (rw (p, q, r) refl) ∙ is in cc
    by true p false q z r = let f : None ≡ Some m = sym (rw (p, q) refl) ∙ is in cc
    by false p y q z r = let f : None ≡ Some m = sym (rw p refl) ∙ is in cc

list_made : (all_empty : Bool) → is_value (made all_empty Pair) ≡ true
list_made true = refl
list_made false = refl

-- ---- what has a kind
abbrev IsValue : Option ValueKind → Type 0
IsValue o = (k : ValueKind) × (o ≡ Some k) × (is_value k ≡ true)

-- two operands with a kind
abbrev Two : (ValueKind → ValueKind → Option ValueKind) → Option ValueKind → Option ValueKind → ValueKind → Type 0
Two line left right m = (l : ValueKind) × (r : ValueKind) × (left ≡ Some l) × (right ≡ Some r) × (line l r ≡ Some m)

two_of : (line : ValueKind → ValueKind → Option ValueKind) (left right : Option ValueKind) (m : ValueKind)
    → by_two line left right ≡ Some m → Two line left right m
two_of line None right m is = let e : None ≡ Some m = is in cc
two_of line (Some l) None m is = let e : None ≡ Some m = is in cc
two_of line (Some l) (Some r) m is = (l, r, refl, refl, is)

-- three operands with a kind
abbrev Three : Option ValueKind → Option ValueKind → Option ValueKind → ValueKind → Type 0
Three a b c m = IsValue a × IsValue b × IsValue c × (is_value m ≡ true)

three_of : (result : ValueKind) (a b c : Option ValueKind) (m : ValueKind) → ((all_empty : Bool) → is_value (made all_empty result) ≡ true)
    → by_three result a b c ≡ Some m → Three a b c m
three_of result None b c m of is = let f : None ≡ Some m = is in cc
three_of result (Some x) None c m of is = let f : None ≡ Some m = is in cc
three_of result (Some x) (Some y) None m of is = let f : None ≡ Some m = is in cc
three_of result (Some x) (Some y) (Some z) m of is =
    let each = depends result x y z m of is in ((x, refl, each.0), (y, refl, each.1), (z, refl, each.2), each.3)

-- nothing of this is chosen
abbrev pub IsCalm : List Part → Type 0
IsCalm ps = list_any chooses ps ≡ false

calm_left : (xs ys : List Part) → IsCalm (xs ++ ys) → IsCalm xs
calm_left xs ys calm = (quiet_both chooses xs ys calm).0

calm_right : (xs ys : List Part) → IsCalm (xs ++ ys) → IsCalm ys
calm_right xs ys calm = (quiet_both chooses xs ys calm).1

calm_head : (part : Part) (ps : List Part) → IsCalm (part ∷ ps) → chooses part ≡ false
calm_head part ps calm = (or_parts (chooses part) (list_any chooses ps) calm).0

calm_tail : (part : Part) (ps : List Part) → IsCalm (part ∷ ps) → IsCalm ps
calm_tail part ps calm = (or_parts (chooses part) (list_any chooses ps) calm).1

none_both : (xs ys : List Part) → list_any is_foreign xs ≡ false → list_any is_foreign ys ≡ false → list_any is_foreign (xs ++ ys) ≡ false
none_both xs ys one two = list_any-append is_foreign xs ys ∙ rw (one, two) refl

none_link : (sign : Part) (xs ys : List Part) → is_foreign sign ≡ false → list_any is_foreign xs ≡ false → list_any is_foreign ys ≡ false
    → list_any is_foreign (sign ∷ (xs ++ ys)) ≡ false
none_link sign xs ys own one two = rw (own, none_both xs ys one two) refl

abbrev around_test : {m : _} → Row_of-Link m → List Part
around_test row = if ends_with_test row then parts_around_test row else parts_in_links row

-- a row with a test at its end tells a truth
row_truth : (m : Count) (scope : ScopeView) (left : Option ValueKind) (row : Row_of-Link m) (k : ValueKind)
    → kind_past_links scope left row ≡ Some k
    → IsCalm (parts_in_links row) → ends_with_test row ≡ true → k ≡ Truth
row_truth m scope left end_of-Link k is calm test = absurd (false≢true test)
row_truth m scope left (more_of-Link operator operand end_of-Link) k is calm test =
    let two = two_of (joined operator) left (kind_of scope operand) k is in
    (joins operator two.0 two.1 k (calm_head (part.operator operator) (parts_of operand ++ []) calm) two.4).2.0 test
row_truth m scope left (more_of-Link operator operand (more_of-Link next other rest)) k is calm test =
    row_truth _ scope (by_two (joined operator) left (kind_of scope operand)) (more_of-Link next other rest) k is
    (calm_right (parts_of operand) (parts_in_links (more_of-Link next other rest))
    (calm_tail (part.operator operator) (parts_of operand ++ parts_in_links (more_of-Link next other rest)) calm)) test

not_truth : (k : ValueKind) → is_value k ≡ true → ¬ (k ≡ Truth)
not_truth k value is = false≢true (sym (ap is_value is) ∙ value)

-- what follows an operand makes a value of it
pub record IsPassed (left : Option ValueKind) (m : ValueKind) : Type 0 where
  pub from : IsValue left
  pub to : is_value m ≡ true

inverted : (left : Option ValueKind) (m : ValueKind) → option_and_then inverse left ≡ Some m → IsPassed left m
inverted None m is = let f : None ≡ Some m = is in cc
inverted (Some k) m is = record { from = (k, refl, (inverts k m is).0); to = (inverts k m is).1 }

taken : (left : Option ValueKind) (m : ValueKind) → option_and_then item left ≡ Some m → IsPassed left m
taken None m is = let f : None ≡ Some m = is in cc
taken (Some k) m is = record { from = (k, refl, (takes_item k m is).0); to = (takes_item k m is).1 }

word_operand : (word : Word) (operand : Option ValueKind) (k : ValueKind) → option_and_then (prefixed word) operand ≡ Some k
    → IsValue operand
word_operand word None k is = let f : None ≡ Some k = is in cc
word_operand word (Some m) k is = (m, refl, word_takes word m k is)

no_scan : (operand : Option ValueKind) (k : ValueKind) → option_and_then (prefixed p.Scan) operand ≡ Some k → ¬ (is_value k ≡ true)
no_scan None k is value = let f : None ≡ Some k = is in cc
no_scan (Some m) k is value = false≢true (sym (scan_lists m k is) ∙ value)

no_codegen : (operand : Option ValueKind) (k : ValueKind) → option_and_then (prefixed p.Codegen) operand ≡ Some k → ¬ (is_value k ≡ true)
no_codegen None k is value = let f : None ≡ Some k = is in cc
no_codegen (Some m) k is value = false≢true (sym (codegen_loops m k is) ∙ value)

no_pip : (operand : Option ValueKind) (k : ValueKind) → option_and_then (prefixed p.Pip) operand ≡ Some k → ¬ (is_value k ≡ true)
no_pip None k is value = let f : None ≡ Some k = is in cc
no_pip (Some m) k is value = false≢true (sym (pip_trees m k is) ∙ value)

-- a word that chooses nothing and makes a value is not foreign
word_value : (word : Word) (operand : Option ValueKind) (k : ValueKind) → chooses (part.prefix word) ≡ false
    → option_and_then (prefixed word) operand ≡ Some k → is_value k ≡ true → is_foreign (part.prefix word) ≡ false
word_value p.Scan operand k own is value = absurd (no_scan operand k is value)
word_value p.Codegen operand k own is value = absurd (no_codegen operand k is value)
word_value p.Pip operand k own is value = absurd (no_pip operand k is value)
word_value p.Sample operand k own is value = absurd (false≢true (sym own))
word_value _ operand k own is value = refl

none_head : (part : Part) (ps : List Part) → is_foreign part ≡ false → list_any is_foreign ps ≡ false
    → list_any is_foreign (part ∷ ps) ≡ false
none_head part ps own rest = ap₂ (λ (x y : Bool). x || y) own rest

-- what is on the left of a row of operators
abbrev LeftIs : {m : _} → Option ValueKind → Row_of-Link m → Type 0
LeftIs left end_of-Link = Unit {0}
LeftIs left (more_of-Link operator operand rest) = IsValue left

left_value : (m : Count) (scope : ScopeView) (left : Option ValueKind) (row : Row_of-Link m) (k : ValueKind)
    → kind_past_links scope left row ≡ Some k
    → is_value k ≡ true → LeftIs left row → IsValue left
left_value m scope left end_of-Link k is value given = (k, is, value)
left_value m scope left (more_of-Link operator operand rest) k is value given = given

-- a row of the kind of a value has no test at its end
without_test : (m : Count) (scope : ScopeView) (left : Option ValueKind) (row : Row_of-Link m) (k : ValueKind)
    → kind_past_links scope left row ≡ Some k
    → is_value k ≡ true → IsCalm (parts_in_links row) → list_any is_foreign (around_test row) ≡ false
    → list_any is_foreign (parts_in_links row) ≡ false
without_test m scope left row k is value calm none = by (ends_with_test row) refl (row_truth m scope left row k is calm)
  where
    by : (ends : Bool) → ends_with_test row ≡ ends → (ends_with_test row ≡ true → k ≡ Truth)
        → list_any is_foreign (parts_in_links row) ≡ false
    by true q truth = absurd (not_truth k value (truth q))
    by false q truth = sym (ap (λ (x : Bool). list_any is_foreign (if x then parts_around_test row else parts_in_links row)) q) ∙ none

sign_plain : (operator : Binary) (made : ValueKind) → is_value made ≡ true → MadeBy operator made
    → is_foreign (part.operator operator) ≡ false
sign_plain operator made value each = by (is_test operator) refl
  where
    by : (test : Bool) → is_test operator ≡ test → is_foreign (part.operator operator) ≡ false
    by true q = absurd (not_truth made value (each.0 q))
    by false q = each.1 q

last_plain : (operator : Binary) (operand : Expr) (made : ValueKind) → MadeBy operator made → list_any is_foreign (parts_of operand) ≡ false
    → list_any is_foreign (if is_test operator then parts_of operand else part.operator operator ∷ (parts_of operand ++ [])) ≡ false
last_plain operator operand made each plain = by (is_test operator) refl
  where
    by : (test : Bool) → is_test operator ≡ test
        → list_any is_foreign (if test then parts_of operand else part.operator operator ∷ (parts_of operand ++ [])) ≡ false
    by true q = plain
    by false q = none_link (part.operator operator) (parts_of operand) [] (each.1 q) plain refl

more_plain : (sign : Part) (xs ys zs : List Part) (ends : Bool) → is_foreign sign ≡ false → list_any is_foreign xs ≡ false
    → list_any is_foreign (if ends then ys else zs) ≡ false
    → list_any is_foreign (if ends then sign ∷ (xs ++ ys) else sign ∷ (xs ++ zs)) ≡ false
more_plain sign xs ys zs true own one two = none_link sign xs ys own one two
more_plain sign xs ys zs false own one two = none_link sign xs zs own one two

mutual
  -- no test and no word stands in what has the kind of a value
  pub value_plain : (scope : ScopeView) (expr : Expr) (k : ValueKind) → kind_of scope expr ≡ Some k → is_value k ≡ true
      → IsCalm (parts_of expr)
      → list_any is_foreign (parts_of expr) ≡ false
  value_plain scope (e.Name name) k is value calm = refl
  value_plain scope (e.Literal literal) k is value calm = refl
  value_plain scope (Row' s first t links) k is value calm =
      let behind = calm_right (parts_in first) (parts_in_links links) calm in
      let fine = row_fine _ scope (kind_in scope first) links k is behind in
      let left = left_value _ scope (kind_in scope first) links k is value fine.0 in
      none_both (parts_in first) (parts_in_links links)
      (in_plain _ scope first left.0 left.1 left.2 (calm_left (parts_in first) (parts_in_links links) calm))
      (without_test _ scope (kind_in scope first) links k is value behind fine.1)
  value_plain scope (Prefix' word s operand) k is value calm =
      let taken = word_operand word (kind_in scope operand) k is in
      none_head (part.prefix word) (parts_in operand)
      (word_value word (kind_in scope operand) k (calm_head (part.prefix word) (parts_in operand) calm) is value)
      (in_plain _ scope operand taken.0 taken.1 taken.2 (calm_tail (part.prefix word) (parts_in operand) calm))
  value_plain scope (Any' r source s sink t schedule) k is value calm =
      let each = three_of Map (kind_in scope source) (kind_in scope sink) (kind_in scope schedule) k (value_made Map refl) is in
      let all = calm_tail part.any (parts_in source ++ (parts_in sink ++ parts_in schedule)) calm in
      let later = calm_right (parts_in source) (parts_in sink ++ parts_in schedule) all in
      none_both (parts_in source) (parts_in sink ++ parts_in schedule)
      (in_plain _ scope source each.0.0 each.0.1 each.0.2 (calm_left (parts_in source) (parts_in sink ++ parts_in schedule) all))
      (none_both (parts_in sink) (parts_in schedule)
      (in_plain _ scope sink each.1.0 each.1.1 each.1.2 (calm_left (parts_in sink) (parts_in schedule) later))
      (in_plain _ scope schedule each.2.0 each.2.1 each.2.2 (calm_right (parts_in sink) (parts_in schedule) later)))
  value_plain scope (Last' r source s sink t schedule) k is value calm =
      let each = three_of Pair (kind_in scope source) (kind_in scope sink) (kind_in scope schedule) k list_made is in
      let all = calm_tail part.last (parts_in source ++ (parts_in sink ++ parts_in schedule)) calm in
      let later = calm_right (parts_in source) (parts_in sink ++ parts_in schedule) all in
      none_both (parts_in source) (parts_in sink ++ parts_in schedule)
      (in_plain _ scope source each.0.0 each.0.1 each.0.2 (calm_left (parts_in source) (parts_in sink ++ parts_in schedule) all))
      (none_both (parts_in sink) (parts_in schedule)
      (in_plain _ scope sink each.1.0 each.1.1 each.1.2 (calm_left (parts_in sink) (parts_in schedule) later))
      (in_plain _ scope schedule each.2.0 each.2.1 each.2.2 (calm_right (parts_in sink) (parts_in schedule) later)))
  value_plain scope (Post' s operand t postfixes) k is value calm =
      let post = post_fine _ scope (kind_in scope operand) postfixes k is value
      (calm_right (parts_in operand) (parts_in_postfixes postfixes) calm) in
      none_both (parts_in operand) (parts_in_postfixes postfixes)
      (in_plain _ scope operand post.0.0 post.0.1 post.0.2 (calm_left (parts_in operand) (parts_in_postfixes postfixes) calm)) post.1

  in_plain : (m : Count) (scope : ScopeView) (row : Row_of-Expr m) (k : ValueKind) → kind_in scope row ≡ Some k → is_value k ≡ true
      → IsCalm (parts_in row)
      → list_any is_foreign (parts_in row) ≡ false
  in_plain m scope end_of-Expr k is value calm = refl
  in_plain m scope (more_of-Expr expr rest) k is value calm = value_plain scope expr k is value calm

  -- around a test at the end of a row, and everywhere in another row
  row_fine : (m : Count) (scope : ScopeView) (left : Option ValueKind) (row : Row_of-Link m) (k : ValueKind)
      → kind_past_links scope left row ≡ Some k
      → IsCalm (parts_in_links row) → LeftIs left row × (list_any is_foreign (around_test row) ≡ false)
  row_fine m scope left end_of-Link k is calm = (tt, refl)
  row_fine m scope left (more_of-Link operator operand end_of-Link) k is calm =
      let two = two_of (joined operator) left (kind_of scope operand) k is in
      let own = calm_head (part.operator operator) (parts_of operand ++ []) calm in
      let kinds = joins operator two.0 two.1 k own two.4 in
      let inner = calm_left (parts_of operand) [] (calm_tail (part.operator operator) (parts_of operand ++ []) calm) in
      ((two.0, two.2, kinds.0), last_plain operator operand k kinds.2 (value_plain scope operand two.1 two.3 kinds.1 inner))
  row_fine m scope left (more_of-Link operator operand (more_of-Link next other rest)) k is calm =
      let row = more_of-Link next other rest in
      let later = calm_tail (part.operator operator) (parts_of operand ++ parts_in_links row) calm in
      let fine = row_fine _ scope (by_two (joined operator) left (kind_of scope operand)) (more_of-Link next other rest) k is
      (calm_right (parts_of operand) (parts_in_links row) later) in
      let two = two_of (joined operator) left (kind_of scope operand) fine.0.0 fine.0.1 in
      let own = calm_head (part.operator operator) (parts_of operand ++ parts_in_links row) calm in
      let kinds = joins operator two.0 two.1 fine.0.0 own two.4 in
      let plain = value_plain scope operand two.1 two.3 kinds.1 (calm_left (parts_of operand) (parts_in_links row) later) in (
        (two.0, two.2, kinds.0),
        more_plain (part.operator operator) (parts_of operand) (parts_around_test row) (parts_in_links row) (ends_with_test row)
            (sign_plain operator fine.0.0 fine.0.2 kinds.2) plain fine.1,
      )

  post_fine : (m : Count) (scope : ScopeView) (left : Option ValueKind) (row : Row_of-Postfix m) (k : ValueKind)
      → kind_past_postfixes scope left row ≡ Some k
      → is_value k ≡ true → IsCalm (parts_in_postfixes row) → IsValue left × (list_any is_foreign (parts_in_postfixes row) ≡ false)
  post_fine m scope left end_of-Postfix k is value calm = ((k, is, value), refl)
  post_fine m scope left (more_of-Postfix postfix rest) k is value calm =
      let fine = post_fine _ scope (kind_past scope left postfix) rest k is value
      (calm_right (parts_of_postfix postfix) (parts_in_postfixes rest) calm) in
      let one = postfix_fine scope left postfix fine.0.0 fine.0.1 (calm_left (parts_of_postfix postfix) (parts_in_postfixes rest) calm) in
      (one.0.from, none_both (parts_of_postfix postfix) (parts_in_postfixes rest) one.1 fine.1)

  postfix_fine : (scope : ScopeView) (left : Option ValueKind) (postfix : Postfix) (k : ValueKind)
      → kind_past scope left postfix ≡ Some k → IsCalm (parts_of_postfix postfix)
      → IsPassed left k × (list_any is_foreign (parts_of_postfix postfix) ≡ false)
  postfix_fine scope left Inverse k is calm = (inverted left k is, refl)
  postfix_fine scope left (Apply argument) k is calm =
      let two = two_of applied left (kind_of scope argument) k is in
      let kinds = applies two.0 two.1 k two.4 in (
        record { from = (two.0, two.2, kinds.0); to = kinds.2 },
        value_plain scope argument two.1 two.3 kinds.1 (calm_tail part.application (parts_of argument) calm),
      )
  postfix_fine scope left (Item number) k is calm = (taken left k is, refl)

-- what follows an operand makes a value
post_value : (m : Count) (scope : ScopeView) (left : Option ValueKind) (postfix : Postfix) (rest : Row_of-Postfix m) (k : ValueKind)
    → kind_past_postfixes scope (kind_past scope left postfix) rest ≡ Some k → IsCalm (parts_of_postfix postfix ++ parts_in_postfixes rest)
    → is_value k ≡ true
post_value m scope left postfix end_of-Postfix k is calm =
    (postfix_fine scope left postfix k is (calm_left (parts_of_postfix postfix) [] calm)).0.to
post_value m scope left postfix (more_of-Postfix next rest) k is calm =
    post_value _ scope (kind_past scope left postfix) next rest k is
    (calm_right (parts_of_postfix postfix) (parts_in_postfixes (more_of-Postfix next rest)) calm)

-- ---- statements

-- a row of one operand, or an operand that nothing follows
abbrev pub is_end : {m : _} → Row_of-Link m → Bool
is_end end_of-Link = true
is_end (more_of-Link operator operand rest) = false

abbrev pub is_bare : {m : _} → Row_of-Postfix m → Bool
is_bare end_of-Postfix = true
is_bare (more_of-Postfix postfix rest) = false

abbrev pub is_lone : Expr → Bool
is_lone (e.Name name) = false
is_lone (e.Literal literal) = false
is_lone (Row' s first t links) = is_end links
is_lone (Prefix' word s operand) = false
is_lone (Any' r source s sink t schedule) = false
is_lone (Last' r source s sink t schedule) = false
is_lone (Post' s operand t postfixes) = is_bare postfixes

-- a row in which nothing is chosen is no gist
no_context : (m : Count) (row : Row_of-Link m) → list_any chooses (parts_in_links row) ≡ false → context_of row ≡ None
no_context m end_of-Link none = refl
no_context m (more_of-Link b.Gist operand end_of-Link) none = absurd (false≢true (sym none))
no_context m (more_of-Link _ operand end_of-Link) none = refl
no_context m (more_of-Link b.Gist operand (more_of-Link next other rest)) none = refl
no_context m (more_of-Link _ operand (more_of-Link next other rest)) none = refl

made_row : {m n : Count} (first : Row_of-Expr m) (links : Row_of-Link n) → list_any chooses (parts_in_links links) ≡ false
    → parts_in first ++ option_map_or (λ context. parts_of context) (context_of links) (parts_in_links links)
    ≡ parts_in first ++ parts_in_links links
made_row first links none =
    ap (λ (c : Option Expr). parts_in first ++ option_map_or (λ context. parts_of context) c (parts_in_links links)) (no_context _ links none)

made_calm : (expr : Expr) → IsCalm (parts_of expr) → made_parts expr ≡ parts_of expr
made_calm (Prefix' p.Sample s operand) calm = absurd (false≢true (sym calm))
made_calm (Row' s first t links) calm = made_row first links (calm_right (parts_in first) (parts_in_links links) calm)
made_calm _ calm = refl

-- what is bound where nothing is chosen
pub bound_plain : (scope : ScopeView) (expr : Expr) (k : ValueKind) → kind_of scope expr ≡ Some k → is_value k ≡ true
    → IsCalm (parts_of expr)
    → list_any is_foreign (made_parts expr) ≡ false
bound_plain scope expr k is value calm = ap (list_any is_foreign) (made_calm expr calm) ∙ value_plain scope expr k is value calm

-- what a word stands before
operand_plain : (m : Count) (scope : ScopeView) (word : Word) (operand : Row_of-Expr m) (k : ValueKind)
    → option_and_then (prefixed word) (kind_in scope operand) ≡ Some k → IsCalm (part.prefix word ∷ parts_in operand)
    → list_any is_foreign (parts_in operand) ≡ false
operand_plain m scope word operand k is calm =
    let taken = word_operand word (kind_in scope operand) k is in
    in_plain _ scope operand taken.0 taken.1 taken.2 (calm_tail (part.prefix word) (parts_in operand) calm)

full_left : (m : Count) (left : Option ValueKind) (row : Row_of-Link m) → is_end row ≡ false → LeftIs left row → IsValue left
full_left m left end_of-Link full given = absurd (false≢true (sym full))
full_left m left (more_of-Link operator operand rest) full given = given

full_post : (m : Count) (scope : ScopeView) (left : Option ValueKind) (row : Row_of-Postfix m) (k : ValueKind)
    → kind_past_postfixes scope left row ≡ Some k
    → is_bare row ≡ false → IsCalm (parts_in_postfixes row) → is_value k ≡ true
full_post m scope left end_of-Postfix k is full calm = absurd (false≢true (sym full))
full_post m scope left (more_of-Postfix postfix rest) k is full calm = post_value _ scope left postfix rest k is calm

-- what is shown where nothing is chosen
pub shown_plain : (scope : ScopeView) (expr : Expr) (k : ValueKind) → kind_of scope expr ≡ Some k → is_lone expr ≡ false
    → IsCalm (parts_of expr)
    → list_any is_foreign (shown_parts expr) ≡ false
shown_plain scope (e.Name name) k is full calm = refl
shown_plain scope (e.Literal literal) k is full calm = refl
shown_plain scope (Row' s first t links) k is full calm =
    let fine = row_fine _ scope (kind_in scope first) links k is (calm_right (parts_in first) (parts_in_links links) calm) in
    let left = full_left _ (kind_in scope first) links full fine.0 in
    let front = in_plain _ scope first left.0 left.1 left.2 (calm_left (parts_in first) (parts_in_links links) calm) in
    let made = made_row first links (calm_right (parts_in first) (parts_in_links links) calm) in
    by (ends_with_test links) front made fine.1
  where
    by : (ends : Bool) → list_any is_foreign (parts_in first) ≡ false
        → parts_in first ++ option_map_or (λ context. parts_of context) (context_of links) (parts_in_links links)
        ≡ parts_in first ++ parts_in_links links
        → list_any is_foreign (if ends then parts_around_test links else parts_in_links links) ≡ false
        → list_any is_foreign (if ends then parts_in first ++ parts_around_test links else made_parts (Row' s first t links)) ≡ false
    by true front made behind = none_both (parts_in first) (parts_around_test links) front behind
    by false front made behind =
        ap (list_any is_foreign) made ∙ none_both (parts_in first) (parts_in_links links) front behind
shown_plain scope (Prefix' p.Scan s operand) k is full calm = operand_plain _ scope p.Scan operand k is calm
shown_plain scope (Prefix' p.Sample s operand) k is full calm = absurd (false≢true (sym calm))
shown_plain scope (Prefix' p.Codegen s operand) k is full calm = operand_plain _ scope p.Codegen operand k is calm
shown_plain scope (Prefix' p.Pip s operand) k is full calm = operand_plain _ scope p.Pip operand k is calm
shown_plain scope (Prefix' word s operand) k is full calm = operand_plain _ scope word operand k is calm
shown_plain scope (Any' r source s sink t schedule) k is full calm =
    value_plain scope (Any' r source s sink t schedule) k is
    (three_of Map (kind_in scope source) (kind_in scope sink) (kind_in scope schedule) k (value_made Map refl) is).3 calm
shown_plain scope (Last' r source s sink t schedule) k is full calm =
    value_plain scope (Last' r source s sink t schedule) k is
    (three_of Pair (kind_in scope source) (kind_in scope sink) (kind_in scope schedule) k list_made is).3 calm
shown_plain scope (Post' s operand t postfixes) k is full calm =
    value_plain scope (Post' s operand t postfixes) k is
    (full_post _ scope (kind_in scope operand) postfixes k is full (calm_right (parts_in operand) (parts_in_postfixes postfixes) calm)) calm
