-- What is kept of expressions, and what is shown of them.
use mathlib.Core.Former.{Count}
use Rattle.std.proofs.Common.{◌≡◌, ◌<◌, ◌≤◌, ◌∙◌, ◌↔◌, inl, inr, refl, sym, ap, ap₂, subst, ◌+◌}
use Rattle.std.proofs.Common.{ℕ, ℤ, Bool, true, false, List, [], ◌∷◌, ◌++◌, length, Option, None, Some, Result, Ok, Err}
use Rattle.std.specs.Prelude.{unsigned_abs, not, ◌||◌, ◌&&◌, if◌then◌else◌, is_some, IfOk, OnOk, MatchOption, MatchResult}
use Rattle.std.specs.Option.{option_and_then, option_map_or}
use Rattle.std.specs.List.{All, list_any}
use Rattle.std.proofs.lemmas.Bool.{false≢true, or_parts}
use Rattle.std.proofs.lemmas.List.Elements.{All-nil, All-append, All-head}
use Rattle.std.proofs.lemmas.List.Folds.{list_any-append}
use Rattle.isl_meter.specs.Gauge.{Gauge, limit_of, IsCharged, IsCutBy}
use Rattle.isl_meter.specs.declared.Cut.{Cut}
use Rattle.isl_meter.proofs.CutLemmas.{IsCharged_refl, IsCharged_trans}
use Rattle.isl_space.specs.Limits.{most_parameters}
use Rattle.isl_space.specs.Name.{Name}
use Rattle.isl_space.specs.Names.{joined}
use Rattle.isl_space.specs.SpaceForm.{SpaceForm}
use Rattle.isl_space.specs.Element.{Element}
use Rattle.isl_space.specs.Valuation.{Valuation, values_of}
use Rattle.isl_words.specs.Options.{OptionsView}
use Rattle.isl_union.specs.Finite.{IsFiniteAt}
use Rattle.isl_union.specs.KeptValue.{KeptValue, Has, HasNoDefinitions, IsKeptValue}
use Rattle.isl_assumed.specs.declared.assumed.Assumed.{Assumed}
use Rattle.isl_assumed.specs.Assumed.{names_of, Assumes}
use Rattle.isl_eval.specs.Params.{HasNoCoordinates, HoldsSome}
use Rattle.isl_tree.specs.Known.{literal_is_known}
use Rattle.isl_operators.specs.Operations.{WordMisses}
use Rattle.isl_operators.specs.Formed.{WordForms}
use Rattle.isl_scan.specs.declared.fault.ScanFault.{ScanFault}
use Rattle.isl_scan.specs.declared.fault.ScanFault.TheVariants as scan_fault
use Rattle.isl_scan.specs.Fault.{IsScanFault}
use Rattle.isl_scan.specs.Listing.{IsListingOf}
use Rattle.isl_refusal.specs.declared.refusal.Refusal.{Refusal}
use Rattle.isl_refusal.specs.declared.refusal.Refusal.TheVariants.{NoMemory}
use Rattle.isl_lower.specs.Value.{IsWellFormedLiteral}
use Rattle.isl_tree.specs.declared.tree.Literal.{Literal}
use Rattle.isl_tree.specs.declared.statement.Binary.{Binary}
use Rattle.isl_tree.specs.declared.statement.Binary.TheVariants as b
use Rattle.isl_tree.specs.declared.statement.Prefix.{Prefix as Word}
use Rattle.isl_tree.specs.declared.statement.Prefix.TheVariants as p
use Rattle.isl_tree.specs.declared.statement.ValueKind.{ValueKind}
use Rattle.isl_tree.specs.declared.statement.ValueKind.TheVariants as kinds
use Rattle.isl_tree.specs.declared.statement.Postfix.{Postfix}
use Rattle.isl_tree.specs.declared.statement.Stmt.{Stmt}
use Rattle.isl_tree.specs.declared.statement.Stmt.TheVariants.{Empty, Bind, Show, Assume}
use Rattle.isl_tree.specs.declared.statement.Expr.{Expr, Row, Row', Prefix', Row_of-Link, end_of-Link, more_of-Link}
use Rattle.isl_tree.specs.declared.statement.Expr.{items_hidden-the_row-Link-1}
use Rattle.isl_tree.specs.declared.statement.Expr.TheBlock.{hidden-the_row-Expr-0, hidden-the_row-Link-1}
use Rattle.isl_tree.specs.declared.statement.Expr as e
use Rattle.isl_tree.specs.declared.statement.Link.{Link}
use Rattle.isl_tree.specs.Expr.{literals_of, links_literals}
use Rattle.isl_tree.proofs.Literals.{literals_of-Prefix, literals_of-Row}
use Rattle.isl_kinds.specs.declared.types.Purpose.TheVariants as purpose
use Rattle.isl_kinds.specs.Lines.{by_short_lines, fits, is_kind, made}
use Rattle.isl_kinds.specs.Lines.{joined as kind_joined}
use Rattle.isl_kinds.specs.Parts.{Part, parts_of, parts_in, parts_in_links, parts_of_links}
use Rattle.isl_kinds.specs.Parts as part
use Rattle.isl_kinds.specs.Typed.{TypeView, ScopeView, has_unknown, is_unknown, kind_of, kind_in, kind_past_links, by_two, declared_of, joined_names}
use Rattle.isl_kinds.specs.Typed.{type_for, type_of_statement, Answers as TypeAnswers}
use Rattle.isl_flat.specs.Flat.{is_gist, is_sample, link_of}
use Rattle.isl_kinds.proofs.DeclaredLaws.{declared_of-Prefix, declared_of-Row}
use Rattle.isl_kinds.proofs.PartLaws.{parts_of-Prefix, parts_of-Row}
use Rattle.isl_state.specs.declared.list.ListPart.{ListPart}
use Rattle.isl_state.specs.declared.list.ListPart.TheVariants.{First, Second}
use Rattle.isl_state.specs.declared.list.ListValue.{ListValue}
use Rattle.isl_values.specs.State.{Binds, Fits, Kept, Moment, Narrows, StateView, HasNumbersUpTo, scope_of, type_of}
use Rattle.isl_values.specs.Worked.{IsWorked}
use Rattle.isl_values.specs.Live.{IsLiveUnder, IsSampleAt}
use Rattle.isl_values.specs.Selection.{Selects, IsContentOf, IsGistOfTwo, IsKeptOf, IsSelected, IsSelectedAt, IsSelectedIn, IsTogetherOf, Keeps}
use Rattle.isl_values.specs.Selection.{context_of}
use Rattle.isl_values.specs.Three.{AreBothFlat, IsFlatAt}
use Rattle.isl_values.specs.Made.{is_foreign, refusal_of_cut, uses_units, IsOfType, IsSoundExpr, IsValueOf, IsPaid, IsWhyUnmade}
use Rattle.isl_values.specs.Made.{IsWhyUnworked}
use Rattle.isl_values.specs.Ends.{End, because, cut, too_wide, no_minimum, nested, time_shapes, unbounded, several_times}
use Rattle.isl_values.specs.Ends.{no_valuation, not_assumed}
use Rattle.isl_values.specs.Ends.{CutAlone, Ends, GoesOn, NarrowingEnds}
use Rattle.isl_outcome.proofs.FirstLaws.{EndAlike, alike_trans, goes_alike, goes_both, turned_alike}
use Rattle.isl_values.proofs.FlatLaws.{written_itself}
use Rattle.isl_values.proofs.EndsLaws.{ends_of-Row}
use Rattle.isl_values.proofs.PartLaws.{all_left, all_right, quiet_both, sound_links}
use Rattle.isl_values.proofs.ValueLaws.{match_map, paid_in, paid_works, same_limit, unworked_in}
use Rattle.isl_eval.specs.Listed.{IsListed, AreFinite}
use Rattle.isl_eval.specs.Machine.{Answer, Does, Shows, ShowsRow, ShowsTest, ShowsValue, Step, listed, nothing, shown}
use Rattle.isl_eval.specs.Asked.{is_of_operand, question_of, shows_at_numbers}
use Rattle.isl_eval.specs.Ended.{IsAssumedWhereNeeded, ListingEnds, NarrowedEnds, StatementEnds}
use Rattle.isl_eval.specs.Tests.{is_test, RowSays}
use Rattle.isl_eval.specs.Evaluated.{made_parts, shown_parts, parts_around_test, works, IsTyped, IsEvaluable}
use Rattle.isl_eval.specs.Evaluation.{ends_with_test, context_in, is_asked, is_codegen, is_coalesce, is_pip, keeps_selected, refusal_of_fault}
use Rattle.isl_eval.specs.Evaluation.{AreKeptIn, EndsListing, EndsPair, EndsTest, EndsWork, IsKeptIn, IsMakeable, IsReadyTest, IsSampled}
use Rattle.isl_eval.specs.Evaluation.{IsChosen, IsGistIn, IsOutcome, IsPutAt, IsSimplified, IsTogether, IsValueWith}
use Rattle.isl_eval.proofs.TypeLaws.{answered_ok, found_is, bind_typed, of_type, show_typed, typed_known}
use Rattle.isl_eval.proofs.TestLaws.{context_is, ends_at, made_of-Row, test_parts, unmade_by, unworked_on}
use Rattle.isl_eval.proofs.EndsLaws.{word_alike}
use Rattle.isl_eval.proofs.ListedLaws.{listed_finite}
use Rattle.isl_eval.proofs.AskedLaws.{asked_of-Prefix, asked_of-Row, ends_none, numbered_of-Prefix, scan_word}

-- ---- what is kept of an expression that selects
selected_content : (state : StateView) (part : ListPart) (expr : Expr) (value : KeptValue) → keeps_selected expr ≡ true
    → IsSelectedAt state part expr value → IsContentOf state part expr value
selected_content state part (Prefix' p.Sample s operand) value plain is = absurd (false≢true plain)
selected_content state part (Prefix' p.Coalesce s operand) value plain is = absurd (false≢true plain)
selected_content state part (Row' s first t links) value plain is = by (context_of links) refl
  where
    by : (c : Option Expr) → context_of links ≡ c → IsContentOf state part (Row' s first t links) value
    by None none =
        subst (λ (c : Option Expr). MatchOption c (IsSelectedAt state part (Row' s first t links) value)
        (λ context. (left : KeptValue) × (right : KeptValue) × IsSelectedIn state first left × IsSelected state context right
        × IsGistOfTwo state left right value)) (sym none) is
    by (Some context) some = absurd (false≢true (sym (ap (λ (c : Option Expr). not (is_some c)) some) ∙ plain))
selected_content state part _ value plain is = is

kept_parts : (expr : Expr) → keeps_selected expr ≡ true → made_parts expr ≡ parts_of expr
kept_parts (Prefix' p.Sample s operand) is = absurd (false≢true is)
kept_parts (Row' s first t links) is = by (context_of links) refl
  where
    by : (c : Option Expr) → context_of links ≡ c → made_parts (Row' s first t links) ≡ parts_of (Row' s first t links)
    by None none = ap (λ (c : Option Expr). parts_in first ++ option_map_or (λ context. parts_of context) c (parts_in_links links)) none
    by (Some context) some = absurd (false≢true (sym (ap (λ (c : Option Expr). not (is_some c)) some) ∙ is))
kept_parts _ is = refl

pub selected_sound : (scope : ScopeView) (expr : Expr) → keeps_selected expr ≡ true → IsMakeable scope expr → IsSoundExpr scope expr
selected_sound scope expr is able = record {
  supported = sym (ap (list_any is_foreign) (kept_parts expr is)) ∙ able.plain;
  known = able.known;
  literals = able.literals;
}

module _ (state : StateView) (limit : ℤ) (part : ListPart) (expr : Expr) (value : KeptValue) where
  keeps : (before : Moment) → before.state ≡ state → limit_of before.meter ≡ limit → IsContentOf state part expr value
      → value.params ≡ declared_of (scope_of state) expr → IsKeptValue value → IsLiveUnder state.assumed value
      → HasNumbersUpTo (unsigned_abs limit) value → HasNoDefinitions value → IsKeptOf before part expr value
  keeps before same at content params kept live numbers plain = record {
    params = ap (λ (s : StateView). declared_of (scope_of s) expr) same ∙ sym params;
    content = subst (λ (s : StateView). IsContentOf s part expr value) (sym same) content;
    well_formed = kept;
    live = subst (λ (s : StateView). IsLiveUnder s.assumed value) (sym same) live;
    numbers = subst (λ (z : ℤ). HasNumbersUpTo (unsigned_abs z) value) (sym at) numbers;
    definitions = plain;
  }

  pub selected_kept : keeps_selected expr ≡ true → IsFlatAt state part expr (unsigned_abs limit) value → (before : Moment)
      → before.state ≡ state → limit_of before.meter ≡ limit → IsKeptOf before part expr value
  selected_kept is made = λ before same at.
      keeps before same at (selected_content state part expr value is (record { elements = made.elements; written = made.written }))
      made.params made.kept made.live made.numbers (made.definitions tt)

  with_kept : (Content : KeptValue → Type 0) (names : List Name) → IsValueWith state.assumed Content names (unsigned_abs limit) value
      → (Content value → IsContentOf state part expr value) → names ≡ declared_of (scope_of state) expr → (before : Moment)
      → before.state ≡ state → limit_of before.meter ≡ limit → IsKeptOf before part expr value
  with_kept Content names made into same = λ before here at.
      keeps before here at (into made.content) (made.params ∙ same) made.kept made.live made.numbers made.definitions

-- ---- at the constructors of the code
selects_of-Prefix : (word : Word) (operand : Expr) → keeps_selected (e.Prefix word operand) ≡ not (is_sample word || is_coalesce word)
unfolding hidden-the_row-Expr-0 denote.Hole.Carrier.hidden
selects_of-Prefix word operand = refl

selects_of-Row : (first : Expr) (links : List Link) → keeps_selected (Row first links) ≡ not (is_some (context_in links))
unfolding hidden-the_row-Expr-0 denote.Hole.Carrier.hidden
selects_of-Row first links =
    ap (λ (c : Option Expr). not (is_some c))
    (context_is _ (hidden-the_row-Link-1 links) ∙ ap context_in (items_hidden-the_row-Link-1 links))

selects_of-Any : (source sink schedule : Expr) → keeps_selected (e.Any source sink schedule) ≡ true
unfolding hidden-the_row-Expr-0 denote.Hole.Carrier.hidden
selects_of-Any source sink schedule = refl

selects_of-Last : (source sink schedule : Expr) → keeps_selected (e.Last source sink schedule) ≡ true
unfolding hidden-the_row-Expr-0 denote.Hole.Carrier.hidden
selects_of-Last source sink schedule = refl

selects_of-Post : (operand : Expr) (postfixes : List Postfix) → keeps_selected (e.Post operand postfixes) ≡ true
unfolding hidden-the_row-Expr-0 denote.Hole.Carrier.hidden
selects_of-Post operand postfixes = refl

module _ (expr : Expr) where
  pub name_selects : (name : Name) → expr ≡ e.Name name → keeps_selected expr ≡ true
  name_selects name is = ap keeps_selected is

  pub literal_selects : (literal : Literal) → expr ≡ e.Literal literal → keeps_selected expr ≡ true
  literal_selects literal is = ap keeps_selected is

  pub any_selects : (source sink schedule : Expr) → expr ≡ e.Any source sink schedule → keeps_selected expr ≡ true
  any_selects source sink schedule is = ap keeps_selected is ∙ selects_of-Any source sink schedule

  pub last_selects : (source sink schedule : Expr) → expr ≡ e.Last source sink schedule → keeps_selected expr ≡ true
  last_selects source sink schedule is = ap keeps_selected is ∙ selects_of-Last source sink schedule

  pub post_selects : (operand : Expr) (postfixes : List Postfix) → expr ≡ e.Post operand postfixes → keeps_selected expr ≡ true
  post_selects operand postfixes is = ap keeps_selected is ∙ selects_of-Post operand postfixes

  pub word_selects : (word : Word) (operand : Expr) → expr ≡ e.Prefix word operand → is_sample word ≡ false → is_coalesce word ≡ false
      → keeps_selected expr ≡ true
  word_selects word operand is one two =
      ap keeps_selected is ∙ selects_of-Prefix word operand ∙ ap₂ (λ (x y : Bool). not (x || y)) one two

  pub row_selects : (first : Expr) (links : List Link) → expr ≡ Row first links → context_in links ≡ None → keeps_selected expr ≡ true
  row_selects first links is none = ap keeps_selected is ∙ selects_of-Row first links ∙ ap (λ (c : Option Expr). not (is_some c)) none

-- ---- a value that is made once
-- the value that a call made, shared
with_value : (assumed : Assumed) (g h : Gauge) (Content : KeptValue → Type 0) (names : List Name) (made value : KeptValue) → IsCharged g h
    → value ≡ made → Content made → IsKeptValue made → IsLiveUnder assumed made → made.params ≡ names
    → HasNumbersUpTo (unsigned_abs (limit_of h)) made → HasNoDefinitions made
    → IsValueWith assumed Content names (unsigned_abs (limit_of g)) value
with_value assumed g h Content names made value charged same content kept live params small plain =
    subst (IsValueWith assumed Content names (unsigned_abs (limit_of g))) (sym same) (record {
      content = content;
      kept = kept;
      live = live;
      params = params;
      numbers = subst (λ (z : ℤ). HasNumbersUpTo (unsigned_abs z) made) (same_limit g h charged) small;
      definitions = plain;
    })

pub worked_selects : {Plain : Type 0} (state : StateView) (operand : Expr) (limit : ℕ) (value : KeptValue)
    → IsValueOf state.assumed (IsWorked state operand) (declared_of (scope_of state) operand) (Selects state operand) limit Plain value
    → IsSelected state operand value
worked_selects state operand limit value of =
    record { elements = of.elements; written = written_itself state First operand value of.kept of.live of.written }

pub flat_selects : (state : StateView) (operand : Expr) (limit : ℕ) (value : KeptValue) → IsFlatAt state First operand limit value
    → IsSelected state operand value
flat_selects state operand limit value of = record { elements = of.elements; written = of.written }

-- what is chosen of a value that is selected
pub sampled_is : (state : StateView) (operand : Expr) (g h : Gauge) (value made : KeptValue) → IsSelected state operand value
    → value.params ≡ declared_of (scope_of state) operand → IsCharged g h → IsChosen state.assumed (unsigned_abs (limit_of h)) value made
    → IsSampled state operand (unsigned_abs (limit_of g)) made
sampled_is state operand g h value made selects named charged is =
    with_value state.assumed g h
    (λ w. (argument : KeptValue) × IsSelected state operand argument × IsSampleAt state.assumed argument w)
    (declared_of (scope_of state) operand) made made charged refl (value, selects, is.sample) is.kept is.live (is.sample.params ∙ named)
    is.numbers is.definitions

-- what is put together of one
pub together_is : (state : StateView) (operand : Expr) (g h : Gauge) (value made : KeptValue) → IsSelected state operand value
    → value.params ≡ declared_of (scope_of state) operand → IsCharged g h → IsPutAt state (unsigned_abs (limit_of h)) value made
    → IsTogether state operand (unsigned_abs (limit_of g)) made
together_is state operand g h value made selects named charged is =
    with_value state.assumed g h
    (λ w. (argument : KeptValue) × IsSelected state operand argument × IsTogetherOf state argument w)
    (declared_of (scope_of state) operand) made made charged refl (value, selects, is.together) is.kept is.live
    (is.together.coalesced.params ∙ named) is.numbers is.definitions

-- work behind an operand is cut
pub work_cut : (state : StateView) (operand : Expr) (g h k : Gauge) (refusal : Refusal) → GoesOn (Ends state operand) → IsCharged g h
    → IsWhyUnmade true CutAlone h k refusal → IsWhyUnworked true (EndsWork state operand) g k refusal
work_cut state operand g h k refusal goes charged why =
    unworked_on true CutAlone (EndsWork state operand) g h k refusal (λ end ends. inr (goes, ends)) charged (inl why)

pub work_goes : (state : StateView) (operand : Expr) → GoesOn (Ends state operand) → GoesOn (EndsWork state operand)
work_goes state operand goes = goes_both (Ends state operand) CutAlone goes (λ reason no. no)

-- the limit stays
pub flat_at : (state : StateView) (expr : Expr) (g h : Gauge) (value : KeptValue) → IsCharged g h
    → IsFlatAt state First expr (unsigned_abs (limit_of h)) value → IsFlatAt state First expr (unsigned_abs (limit_of g)) value
flat_at state expr g h value charged is =
    subst (λ (z : ℤ). IsFlatAt state First expr (unsigned_abs z) value) (same_limit g h charged) is

pub gist_later : (state : StateView) (g h : Gauge) (value context gist : KeptValue) → IsCharged g h
    → IsGistIn state (unsigned_abs (limit_of h)) value context gist → IsGistIn state (unsigned_abs (limit_of g)) value context gist
gist_later state g h value context gist charged is =
    subst (λ (z : ℤ). IsGistIn state (unsigned_abs z) value context gist) (same_limit g h charged) is

-- ---- a word that makes a value once
sample_content : (state : StateView) (operand : Expr) (value : KeptValue)
    → (argument : KeptValue) × IsSelected state operand argument × IsSampleAt state.assumed argument value
    → IsContentOf state First (e.Prefix p.Sample operand) value
unfolding hidden-the_row-Expr-0 denote.Hole.Carrier.hidden
sample_content state operand value h = h

together_content : (state : StateView) (operand : Expr) (value : KeptValue)
    → (argument : KeptValue) × IsSelected state operand argument × IsTogetherOf state argument value
    → IsContentOf state First (e.Prefix p.Coalesce operand) value
unfolding hidden-the_row-Expr-0 denote.Hole.Carrier.hidden
together_content state operand value h = h

-- of a word that is about its operand
shown_of-word : (word : Word) (operand : Expr) → is_of_operand (question_of word) ≡ true
    → shown_parts (e.Prefix word operand) ≡ parts_of operand
unfolding hidden-the_row-Expr-0 denote.Hole.Carrier.hidden
shown_of-word p.Scan operand about = refl
shown_of-word p.Codegen operand about = refl
shown_of-word p.Pip operand about = refl
shown_of-word _ operand about = absurd (false≢true about)

asked_uses : (assumed : Assumed) (word : Word) → is_of_operand (question_of word) ≡ true → uses_units assumed (part.prefix word) ≡ true
asked_uses assumed p.Scan about = refl
asked_uses assumed p.Codegen about = refl
asked_uses assumed p.Pip about = refl
asked_uses assumed _ about = absurd (false≢true about)

-- the operand of a word is ready where what is made of it is plain
pub word_sound : (scope : ScopeView) (word : Word) (operand : Expr) → list_any is_foreign (parts_of operand) ≡ false
    → has_unknown scope (e.Prefix word operand) ≡ false → All IsWellFormedLiteral (literals_of (e.Prefix word operand))
    → IsSoundExpr scope operand
word_sound scope word operand plain known literals = record {
  supported = plain;
  known = (or_parts false (list_any (is_unknown scope) (parts_of operand))
      (sym (ap (list_any (is_unknown scope)) (parts_of-Prefix word operand)) ∙ known)).1;
  literals = subst (All IsWellFormedLiteral) (literals_of-Prefix word operand) literals;
}

pub at_word : (known word : Word) (expr operand x : Expr) → expr ≡ e.Prefix word operand → word ≡ known → x ≡ operand
    → expr ≡ e.Prefix known x
at_word known word expr operand x is which same =
    is ∙ ap (λ (w : Word). e.Prefix w operand) which ∙ ap (e.Prefix known) (sym same)

or_true : (b : Bool) → (b || true) ≡ true
or_true true = refl
or_true false = refl

-- `sample` and `coalesce` form no space, look for nothing, and are work
abbrev makes_once : Word → Bool
makes_once word = is_sample word || is_coalesce word

pub once_sample : (word : Word) → is_sample word ≡ true → (is_sample word || is_coalesce word) ≡ true
once_sample word is = ap (λ (b : Bool). b || is_coalesce word) is

pub once_coalesce : (word : Word) → is_coalesce word ≡ true → (is_sample word || is_coalesce word) ≡ true
once_coalesce word is = ap (λ (b : Bool). is_sample word || b) is ∙ or_true (is_sample word)

once_forms : (word : Word) → makes_once word ≡ true → (s formed : SpaceForm) → ¬ WordForms word s formed
once_forms p.Sample once s formed h = h
once_forms p.Coalesce once s formed h = h
once_forms _ once s formed h = absurd (false≢true once)

once_finds : (word : Word) (Operand : Valuation → Element → Type 0) → makes_once word ≡ true → ¬ WordMisses word Operand
once_finds p.Sample Operand once h = h
once_finds p.Coalesce Operand once h = h
once_finds _ Operand once h = absurd (false≢true once)

once_uses : (assumed : Assumed) (word : Word) → makes_once word ≡ true → uses_units assumed (part.prefix word) ≡ true
once_uses assumed p.Sample once = refl
once_uses assumed p.Coalesce once = refl
once_uses assumed _ once = absurd (false≢true once)

once_parts : (word : Word) (operand : Expr) → makes_once word ≡ true
    → list_any is_foreign (made_parts (e.Prefix word operand)) ≡ list_any is_foreign (parts_of operand)
unfolding hidden-the_row-Expr-0 denote.Hole.Carrier.hidden
once_parts p.Sample operand once = refl
once_parts p.Coalesce operand once = refl
once_parts _ operand once = absurd (false≢true once)

module _ (state : StateView) (expr operand : Expr) (word : Word) (is : expr ≡ e.Prefix word operand)
    (once : (is_sample word || is_coalesce word) ≡ true) where
  pub once_sound : IsMakeable (scope_of state) expr → IsSoundExpr (scope_of state) operand
  once_sound able =
      let here = subst (IsMakeable (scope_of state)) is able in
      word_sound (scope_of state) word operand (sym (once_parts word operand once) ∙ here.plain) here.known here.literals

  pub once_works : true ≡ list_any (uses_units state.assumed) (parts_of expr)
  once_works =
      sym (ap (λ (y : Expr). list_any (uses_units state.assumed) (parts_of y)) is
      ∙ ap (list_any (uses_units state.assumed)) (parts_of-Prefix word operand)
      ∙ ap (λ (b : Bool). b || list_any (uses_units state.assumed) (parts_of operand)) (once_uses state.assumed word once))

  pub once_alike : EndAlike (EndsWork state operand) (Ends state expr)
  once_alike =
      subst (λ (y : Expr). EndAlike (EndsWork state operand) (Ends state y)) (sym is)
      (word_alike state word operand (once_forms word once) (λ Operand. once_finds word Operand once))

  kept_of : (known : Word) (limit : ℤ) (value : KeptValue) (Content : KeptValue → Type 0) → word ≡ known
      → IsValueWith state.assumed Content (declared_of (scope_of state) operand) (unsigned_abs limit) value
      → (Content value → IsContentOf state First (e.Prefix known operand) value) → IsKeptIn state limit expr value
  kept_of known limit value Content which of content =
      subst (λ (y : Expr). IsKeptIn state limit y value) (sym (at_word known word expr operand operand is which refl))
      (with_kept state limit First (e.Prefix known operand) value _ _ of content (sym (declared_of-Prefix (scope_of state) known operand)))

  pub sample_kept : word ≡ p.Sample → (limit : ℤ) (value : KeptValue) → IsSampled state operand (unsigned_abs limit) value
      → IsKeptIn state limit expr value
  sample_kept which limit value of = kept_of p.Sample limit value _ which of (sample_content state operand value)

  pub together_kept : word ≡ p.Coalesce → (limit : ℤ) (value : KeptValue) → IsTogether state operand (unsigned_abs limit) value
      → IsKeptIn state limit expr value
  together_kept which limit value of = kept_of p.Coalesce limit value _ which of (together_content state operand value)

-- ---- what calls leave
-- what is made of what a part makes, which ends as the whole does
pub outcome_in : {A : Type 0} (result : Result A Refusal) (all works : Bool) (Part Whole : End → Type 0) (P Q : A → Type 0) (g h : Gauge)
    → (all ≡ false → works ≡ false) → EndAlike Part Whole → ((a : A) → P a → Q a) → IsOutcome works Part g h P result
    → IsOutcome all Whole g h Q result
outcome_in result all works Part Whole P Q g h quiet same into made =
    match_map result _ _ _ _ (λ a x. (into a x.0, paid_in all works g h quiet x.1, goes_alike Part Whole same x.2))
    (λ refusal why. unworked_in all works Part Whole g h refusal quiet (λ end ends. (same end).0 ends) why) made

-- the same behind other work
pub outcome_after : {A : Type 0} (result : Result A Refusal) (Part Whole : End → Type 0) (P Q : A → Type 0) (g h k : Gauge) → IsCharged g h
    → ((why : End) → Part why → Whole why) → (GoesOn Part → GoesOn Whole) → ((a : A) → P a → Q a) → IsOutcome true Part h k P result
    → IsOutcome true Whole g k Q result
outcome_after result Part Whole P Q g h k charged ends goes into made =
    match_map result _ _ _ _ (λ a x. (into a x.0, paid_works g k (IsCharged_trans g h k charged x.1.charged), goes x.2))
    (λ refusal why. unworked_on true Part Whole g h k refusal ends charged why) made

-- what a call makes that tells apart whether it ends
pub outcome_of : {A : Type 0} (result : Result A Refusal) (works : Bool) (Whole : End → Type 0) (P Q : A → Type 0) (g h : Gauge)
    → ((a : A) → P a → Q a) → MatchResult result (λ a. P a × IsPaid works g h) (IsWhyUnworked works Whole g h)
    → IfOk result (λ _. GoesOn Whole) → IsOutcome works Whole g h Q result
outcome_of (Ok a) works Whole P Q g h into made goes = (into a made.0, made.1, goes)
outcome_of (Err refusal) works Whole P Q g h into why goes = why

-- ---- what is shown
-- the moment of a state and a meter
abbrev pub moment_of : StateView → Gauge → OptionsView → Moment
moment_of state meter options = record { state = state; meter = meter; options = options }

abbrev pub no_options : OptionsView
no_options = record { bits = 0; budget = 0; at = []; run = false; make = None; keep_going = false; cert = false }

pub kept_plain : (state : StateView) (meter : Gauge) (expr : Expr) (value : KeptValue) → IsKeptIn state (limit_of meter) expr value
    → HasNoDefinitions value
kept_plain state meter expr value kept = (kept (moment_of state meter no_options) refl refl).definitions

pub value_shows : (before : Moment) (state : StateView) (limit : ℤ) (expr : Expr) (kept : Kept) (answer : Answer)
    → AreKeptIn state limit expr kept → answer ≡ shown kept → before.state ≡ state → limit_of before.meter ≡ limit
    → ShowsValue before expr answer
value_shows before state limit expr kept answer of line here at = (kept, of before here at, line)

-- ---- listings
pub listed_is : (state : StateView) (operand : Expr) (at : Valuation) (value v : KeptValue) (listing : List Element)
    → ((x : Element) → Has value at x ↔ Selects state operand at x) → v ≡ value → IsListingOf v at listing
    → IsListed (λ x. Selects state operand at x) listing
listed_is state operand at value v listing has same of =
    let is = subst (λ (k : KeptValue). IsListingOf k at listing) same of in
    record {
      exact = λ x. ((λ h. (has x).0 ((is.exact x).0 h)), (λ h. (is.exact x).1 ((has x).1 h)));
      ordered = is.ordered;
    }

pub infinite_is : (state : StateView) (operand : Expr) (at : Valuation) (value v : KeptValue)
    → ((x : Element) → Has value at x ↔ Selects state operand at x) → v ≡ value → ¬ IsFiniteAt v at
    → ¬ AreFinite (λ x. Selects state operand at x)
infinite_is state operand at value v has same endless finite =
    endless (subst (λ (k : KeptValue). IsFiniteAt k at) (sym same) (finite.0, (λ x h. finite.1 x ((has x).0 h))))

-- ---- the operand of `scan`
pub show_kind : (scope : ScopeView) (expr : Expr) → IsTyped scope (Show expr) → (u : TypeView) × IsOfType scope expr u
show_kind scope expr typed =
    let u = found_is (type_for purpose.Shown scope expr) typed.0 typed.1 in
    (u.0, of_type scope expr purpose.Shown u.0 u.1)

Listing : Moment → Expr → Answer → Type 0
Listing before operand answer =
    (elements : List Element) × IsListed (λ x. Selects before.state operand before.options.at x) elements × (answer ≡ listed elements)

shows_of-Scan : (before : Moment) (operand : Expr) (answer : Answer) → Listing before operand answer
    → Shows before (e.Prefix p.Scan operand) answer
unfolding Listing hidden-the_row-Expr-0 denote.Hole.Carrier.hidden
shows_of-Scan before operand answer h = h

ends_of-Scan : (before : Moment) (operand : Expr)
    → EndAlike (EndsListing before.state operand before.options.at) (StatementEnds before (Show (e.Prefix p.Scan operand)))
unfolding hidden-the_row-Expr-0 denote.Hole.Carrier.hidden
ends_of-Scan before operand why = ((λ h. h), (λ h. h))

-- where elements are listed there are finitely many
pub listing_goes_on : (state : StateView) (operand : Expr) (at : Valuation) (elements : List Element) → GoesOn (Ends state operand)
    → IsListed (λ x. Selects state operand at x) elements → GoesOn (EndsListing state operand at)
listing_goes_on state operand at elements goes listing =
    goes_both (Ends state operand) (ListingEnds (λ x. Selects state operand at x)) goes by
  where
    by : GoesOn (ListingEnds (λ x. Selects state operand at x))
    by too_wide h = h
    by no_minimum h = h
    by nested h = h
    by time_shapes h = h
    by unbounded h = h (listed_finite (λ x. Selects state operand at x) elements listing)
    by several_times h = h
    by no_valuation h = h
    by not_assumed h = h

-- a word that is about its operand
module _ (before : Moment) (expr operand x : Expr) (known word : Word) (is : expr ≡ e.Prefix word operand) (which : word ≡ known)
    (same : x ≡ operand) (about : is_of_operand (question_of known) ≡ true) where
  asked_is : expr ≡ e.Prefix known x
  asked_is = at_word known word expr operand x is which same

  pub asked_sound : IsEvaluable (scope_of before.state) (Show expr) → IsSoundExpr (scope_of before.state) x
  asked_sound able =
      let here = subst (λ (y : Expr). IsEvaluable (scope_of before.state) (Show y)) asked_is able in
      word_sound (scope_of before.state) known x (sym (ap (list_any is_foreign) (shown_of-word known x about)) ∙ here.plain)
      (show_kind (scope_of before.state) (e.Prefix known x) here.typed).1.known here.literals

  abbrev Units : Part → Bool
  Units = uses_units before.state.assumed

  pub asked_works : true ≡ list_any Units (parts_of expr)
  asked_works =
      sym (ap (λ (y : Expr). list_any Units (parts_of y)) asked_is ∙ ap (list_any Units) (parts_of-Prefix known x)
      ∙ ap (λ (b : Bool). b || list_any Units (parts_of x)) (asked_uses before.state.assumed known about))

module _ (before : Moment) (expr operand x : Expr) (word : Word) (is : expr ≡ e.Prefix word operand) (which : word ≡ p.Scan)
    (same : x ≡ operand) where
  scan_is : expr ≡ e.Prefix p.Scan x
  scan_is = at_word p.Scan word expr operand x is which same

  -- the numbers that parameters are given are assumed
  pub scan_assumed : IsAssumedWhereNeeded before (Show expr) → Assumes before.state.assumed before.options.at
  scan_assumed assumed =
      assumed (ap (shows_at_numbers before.options.run) scan_is ∙ numbered_of-Prefix before.options.run p.Scan x)

  pub scan_shows : (answer : Answer) → (elements : List Element) × IsListed (λ y. Selects before.state x before.options.at y) elements
      × (answer ≡ listed elements)
      → Shows before expr answer
  unfolding Listing
  scan_shows answer h = subst (λ (y : Expr). Shows before y answer) (sym scan_is) (shows_of-Scan before x answer h)

  pub scan_ends : EndAlike (EndsListing before.state x before.options.at) (StatementEnds before (Show expr))
  scan_ends =
      subst (λ (y : Expr). EndAlike (EndsListing before.state x before.options.at) (StatementEnds before (Show y))) (sym scan_is)
      (ends_of-Scan before x)

-- ---- what is around a test
none_both : (test : Part → Bool) (xs ys : List Part) → list_any test xs ≡ false → list_any test ys ≡ false
    → list_any test (xs ++ ys) ≡ false
none_both test xs ys one two = list_any-append test xs ys ∙ ap₂ (λ (a b : Bool). a || b) one two

parts_with : (test : Part → Bool) (before : List Link) (last : Link) → list_any test (parts_of_links (before ++ last ∷ [])) ≡ false
    → (list_any test (parts_of_links before) ≡ false) × (list_any test (parts_of last.operand) ≡ false)
parts_with test [] last none =
    let own = or_parts (test (part.operator last.operator)) (list_any test (parts_of last.operand ++ [])) none in
    (refl, (quiet_both test (parts_of last.operand) [] own.1).0)
parts_with test (link ∷ before) last none =
    let own = or_parts (test (part.operator link.operator))
    (list_any test (parts_of link.operand ++ parts_of_links (before ++ last ∷ []))) none in
    let both = quiet_both test (parts_of link.operand) (parts_of_links (before ++ last ∷ [])) own.1 in
    let rest = parts_with test before last both.1 in
    (rw own.0 (none_both test (parts_of link.operand) (parts_of_links before) both.0 rest.0), rest.1)

literals_with : (P : Literal → Type 0) (before : List Link) (last : Link) → All P (links_literals (before ++ last ∷ []))
    → All P (links_literals before) × All P (literals_of last.operand)
literals_with P [] last all = (All-nil P, all_left P (literals_of last.operand) [] all)
literals_with P (link ∷ before) last all =
    let rest = literals_with P before last (all_right P (literals_of link.operand) (links_literals (before ++ last ∷ [])) all) in (
      All-append P (literals_of link.operand) (links_literals before)
          (all_left P (literals_of link.operand) (links_literals (before ++ last ∷ [])) all) rest.0,
      rest.1,
    )

pub test_ready : (scope : ScopeView) (expr first x : Expr) (links list before : List Link) (last : Link) → expr ≡ Row first links
    → x ≡ first → list ≡ links
    → list ≡ before ++ last ∷ [] → true ≡ is_test last.operator → IsEvaluable scope (Show expr) → IsReadyTest scope x before last
test_ready scope expr first x links list before last is same are split test able =
    let row : expr ≡ Row x (before ++ last ∷ []) = is ∙ ap (λ (y : Expr). Row y links) (sym same) ∙ ap (Row x) (sym are ∙ split) in
    let here = subst (λ (y : Expr). IsEvaluable scope (Show y)) row able in
    let whole = before ++ last ∷ [] in
    let plain = test_parts is_foreign x before last (sym test) here.plain in
    let unknown = quiet_both (is_unknown scope) (parts_of x) (parts_of_links whole)
    (sym (ap (list_any (is_unknown scope)) (parts_of-Row x whole)) ∙ (show_kind scope (Row x whole) here.typed).1.known) in
    let others = parts_with (is_unknown scope) before last unknown.1 in
    let literals = subst (All IsWellFormedLiteral) (literals_of-Row x whole) here.literals in
    let front = all_left IsWellFormedLiteral (literals_of x) (links_literals whole) literals in
    let behind = literals_with IsWellFormedLiteral before last
    (all_right IsWellFormedLiteral (literals_of x) (links_literals whole) literals) in
    let row_sound : IsSoundExpr scope (Row x before) = record {
      supported = ap (list_any is_foreign) (parts_of-Row x before)
          ∙ none_both is_foreign (parts_of x) (parts_of_links before) plain.0 plain.1;
      known = ap (list_any (is_unknown scope)) (parts_of-Row x before)
          ∙ none_both (is_unknown scope) (parts_of x) (parts_of_links before) unknown.0 others.0;
      literals = subst (All IsWellFormedLiteral) (sym (literals_of-Row x before))
          (All-append IsWellFormedLiteral (literals_of x) (links_literals before) front behind.0);
    } in
    record {
      left = record { supported = plain.0; known = unknown.0; literals = front };
      others = sound_links scope x before row_sound;
      right = record { supported = plain.2; known = others.1; literals = behind.1 };
      test = sym test;
    }

-- ---- what is shown of a row with a test at its end
module _ (assumed : Assumed) where
  abbrev Uses : Part → Bool
  Uses = uses_units assumed

  test_unit : (operator : Binary) → is_test operator ≡ true → Uses (part.operator operator) ≡ true
  test_unit b.Equal is = refl
  test_unit b.Subset is = refl
  test_unit b.ProperSubset is = refl
  test_unit b.Superset is = refl
  test_unit b.ProperSuperset is = refl
  test_unit _ is = absurd (false≢true is)

  links_work : (before : List Link) (last : Link) → is_test last.operator ≡ true
      → list_any Uses (parts_of_links (before ++ last ∷ [])) ≡ true
  links_work [] last is = ap (λ (b : Bool). b || list_any Uses (parts_of last.operand ++ [])) (test_unit last.operator is)
  links_work (link ∷ before) last is =
      ap (λ (b : Bool). Uses (part.operator link.operator) || b)
      (list_any-append Uses (parts_of link.operand) (parts_of_links (before ++ last ∷ []))
      ∙ ap (λ (b : Bool). list_any Uses (parts_of link.operand) || b) (links_work before last is)
      ∙ or_true (list_any Uses (parts_of link.operand)))
      ∙ or_true (Uses (part.operator link.operator))

  pub test_works : (expr first : Expr) (links list before : List Link) (last : Link) → expr ≡ Row first links → list ≡ links
      → list ≡ before ++ last ∷ []
      → true ≡ is_test last.operator → true ≡ list_any Uses (parts_of expr)
  test_works expr first links list before last is are split test =
      sym (ap (λ (y : Expr). list_any Uses (parts_of y)) (is ∙ ap (Row first) (sym are ∙ split))
      ∙ ap (list_any Uses) (parts_of-Row first (before ++ last ∷ []))
      ∙ list_any-append Uses (parts_of first) (parts_of_links (before ++ last ∷ []))
      ∙ ap (λ (b : Bool). list_any Uses (parts_of first) || b) (links_work before last (sym test))
      ∙ or_true (list_any Uses (parts_of first)))

-- ---- `%` of two operands
abbrev gist_row : Expr → List Link
gist_row right = link_of b.Gist right ∷ []

gist_word : (operator : Binary) → is_gist operator ≡ true → operator ≡ b.Gist
gist_word b.Gist is = refl
gist_word _ is = absurd (false≢true is)

gist_alone : (links : List Link) (right : Expr) → context_in links ≡ Some right → links ≡ gist_row right
gist_alone [] right is = let no : None ≡ Some right = is in cc
gist_alone (link ∷ next ∷ more) right is = let no : None ≡ Some right = is in cc
gist_alone (link ∷ []) right is = by (is_gist link.operator) refl
  where
    by : (own : Bool) → is_gist link.operator ≡ own → link ∷ [] ≡ gist_row right
    by false other = let no : None ≡ Some right = sym (ap (λ (x : Bool). if x then Some link.operand else None) other) ∙ is in cc
    by true own =
        let some : Some link.operand ≡ Some right = sym (ap (λ (x : Bool). if x then Some link.operand else None) own) ∙ is in
        let same : link.operand ≡ right = cc in
        ap₂ (λ (o : Binary) (x : Expr). link_of o x ∷ []) (gist_word link.operator own) same

gist_content : (state : StateView) (first right : Expr) (value : KeptValue)
    → (l : KeptValue) × (r : KeptValue) × IsSelected state first l × IsSelected state right r × IsGistOfTwo state l r value
    → IsContentOf state First (Row first (gist_row right)) value
unfolding hidden-the_row-Expr-0 denote.Hole.Carrier.hidden
gist_content state first right value content =
    subst (λ (c : Option Expr). MatchOption c (IsSelectedAt state First (Row first (gist_row right)) value)
    (λ context. (l : KeptValue) × (r : KeptValue) × IsSelected state first l × IsSelected state context r × IsGistOfTwo state l r value))
    (sym (context_is _ (hidden-the_row-Link-1 (gist_row right)) ∙ ap context_in (items_hidden-the_row-Link-1 (gist_row right)))) content

module _ (state : StateView) (expr first right : Expr) (links : List Link) (is : expr ≡ Row first links)
    (only : context_in links ≡ Some right) where
  gist_is : expr ≡ Row first (gist_row right)
  gist_is = is ∙ ap (Row first) (gist_alone links right only)

  pub gist_sound : IsMakeable (scope_of state) expr → IsSoundExpr (scope_of state) first × IsSoundExpr (scope_of state) right
  gist_sound able =
      let scope = scope_of state in
      let row = gist_row right in
      let here = subst (IsMakeable scope) gist_is able in
      let plain = quiet_both is_foreign (parts_of first) (parts_of right)
      (sym (ap (list_any is_foreign) (made_of-Row first row)) ∙ here.plain) in
      let unknown = quiet_both (is_unknown scope) (parts_of first) (parts_of_links row)
      (sym (ap (list_any (is_unknown scope)) (parts_of-Row first row)) ∙ here.known) in
      let behind = quiet_both (is_unknown scope) (parts_of right) [] unknown.1 in
      let literals = subst (All IsWellFormedLiteral) (literals_of-Row first row) here.literals in (
        record {
          supported = plain.0;
          known = unknown.0;
          literals = all_left IsWellFormedLiteral (literals_of first) (links_literals row) literals;
        },
        record {
          supported = plain.1;
          known = behind.0;
          literals = all_left IsWellFormedLiteral (literals_of right) []
              (all_right IsWellFormedLiteral (literals_of first) (links_literals row) literals);
        },
      )

  abbrev Used : Part → Bool
  Used = uses_units state.assumed

  pub gist_works : true ≡ list_any Used (parts_of expr)
  gist_works = sym (ap (λ (y : Expr). list_any Used (parts_of y)) gist_is
      ∙ ap (list_any Used) (parts_of-Row first (gist_row right))
      ∙ list_any-append Used (parts_of first) (parts_of_links (gist_row right))
      ∙ or_true (list_any Used (parts_of first)))

  pub gist_ends : EndAlike (EndsPair state first b.Gist right) (Ends state expr)
  gist_ends =
      subst (λ (y : Expr). EndAlike (EndsPair state first b.Gist right) (Ends state y)) (sym gist_is)
      (turned_alike (Ends state (Row first (gist_row right))) (EndsPair state first b.Gist right) (ends_of-Row state first (gist_row right)))

  pub gist_kept : (limit : ℤ) (value : KeptValue) → IsSimplified state first right (unsigned_abs limit) value
      → IsKeptIn state limit expr value
  gist_kept limit value made =
      subst (λ (y : Expr). IsKeptIn state limit y value) (sym gist_is)
      (with_kept state limit First (Row first (gist_row right)) value _ _ made (gist_content state first right value)
      (sym (declared_of-Row (scope_of state) first (gist_row right))))

-- what it makes of two values
module _ (state : StateView) (left right : Expr) (limit : ℕ) (value context : KeptValue) (own : IsFlatAt state First left limit value)
    (other : IsFlatAt state First right limit context) where
  pub pair_names : joined_names value.params context.params ≡ joined_names (declared_of (scope_of state) left) (declared_of (scope_of state) right)
  pair_names = ap₂ joined_names own.params other.params

  pub simplified_is : (gist : KeptValue) → IsGistIn state limit value context gist → IsSimplified state left right limit gist
  simplified_is gist is = record {
    content = (
      value,
      context,
      record { elements = own.elements; written = own.written },
      record { elements = other.elements; written = other.written },
      is.gist,
    );
    kept = is.kept;
    live = is.live;
    params = is.params ∙ pair_names;
    numbers = is.numbers;
    definitions = is.definitions;
  }

-- ---- lists
no_pair : (x y z : Bool) → (if x then Some (made z kinds.Set) else (if y then Some (made z kinds.Map) else None)) ≡ Some kinds.List → ⊥
no_pair true y true is = let no : Some kinds.Empty ≡ Some kinds.List = is in cc
no_pair true y false is = let no : Some kinds.Set ≡ Some kinds.List = is in cc
no_pair false true true is = let no : Some kinds.Empty ≡ Some kinds.List = is in cc
no_pair false true false is = let no : Some kinds.Map ≡ Some kinds.List = is in cc
no_pair false false z is = let no : None ≡ Some kinds.List = is in cc

word_pair : (k : Option ValueKind) → option_and_then (by_short_lines ((kinds.Set, kinds.Set) ∷ (kinds.Map, kinds.Map) ∷ [])) k ≡ Some kinds.List
    → ⊥
word_pair None is = let no : None ≡ Some kinds.List = is in cc
word_pair (Some k) is = no_pair (fits k kinds.Set) (fits k kinds.Map) (is_kind k kinds.Empty) is

gist_pair : (l r : Option ValueKind) → by_two (kind_joined b.Gist) l r ≡ Some kinds.List → ⊥
gist_pair None r is = let no : None ≡ Some kinds.List = is in cc
gist_pair (Some l) None is = let no : None ≡ Some kinds.List = is in cc
gist_pair (Some l) (Some r) is =
    no_pair (fits l kinds.Set && fits r kinds.Set) (fits l kinds.Map && fits r kinds.Map) (is_kind l kinds.Empty && is_kind r kinds.Empty) is

none_context : (m : Count) (scope : ScopeView) (left : Option ValueKind) (row : Row_of-Link m)
    → kind_past_links scope left row ≡ Some kinds.List → context_of row ≡ None
none_context m scope left end_of-Link is = refl
none_context m scope left (more_of-Link b.Gist operand end_of-Link) is = absurd (gist_pair left (kind_of scope operand) is)
none_context m scope left (more_of-Link _ operand end_of-Link) is = refl
none_context m scope left (more_of-Link b.Gist operand (more_of-Link next other rest)) is = refl
none_context m scope left (more_of-Link _ operand (more_of-Link next other rest)) is = refl

-- neither a word that chooses, nor `coalesce` or `%`, makes a list
pub list_selects : (scope : ScopeView) (expr : Expr) → kind_of scope expr ≡ Some kinds.List → keeps_selected expr ≡ true
list_selects scope (Prefix' p.Sample s operand) is = absurd (word_pair (kind_in scope operand) is)
list_selects scope (Prefix' p.Coalesce s operand) is = absurd (word_pair (kind_in scope operand) is)
list_selects scope (Row' s first t links) is =
    ap (λ (c : Option Expr). not (is_some c)) (none_context _ scope (kind_in scope first) links is)
list_selects scope _ is = refl

module _ (state : StateView) (limit : ℤ) (expr : Expr) where
  pub list_keeps : (values : ListValue) (kept : Kept) → kind_of (scope_of state) expr ≡ Some kinds.List
      → AreBothFlat state expr (unsigned_abs limit) values
      → kept ≡ record { kind = kinds.List; value = values.first.value; second = Some values.second.value }
      → AreKeptIn state limit expr kept
  list_keeps values kept kind both is =
      subst (AreKeptIn state limit expr) (sym is)
      (λ before same at. record {
        kind = ap (λ (s : StateView). kind_of (scope_of s) expr) same ∙ kind;
        value = selected_kept state limit First expr values.first.value (list_selects (scope_of state) expr kind) both.0 before same at;
        list = refl;
        second = selected_kept state limit Second expr values.second.value (list_selects (scope_of state) expr kind) both.1 before same at;
      })

  pub value_keeps : (kind : ValueKind) (value : KeptValue) (kept : Kept) → kind_of (scope_of state) expr ≡ Some kind
      → is_kind kind kinds.List ≡ false → IsKeptIn state limit expr value → kept ≡ record { kind = kind; value = value; second = None }
      → AreKeptIn state limit expr kept
  value_keeps kind value kept is other of same =
      subst (AreKeptIn state limit expr) (sym same)
      (λ before here at. record {
        kind = ap (λ (s : StateView). kind_of (scope_of s) expr) here ∙ is;
        value = of before here at;
        list = sym other;
        second = tt;
      })

-- ---- what is shown as a value

pub shows_value : (before : Moment) (expr : Expr) (answer : Answer) → is_asked expr ≡ false → ShowsValue before expr answer
    → Shows before expr answer
shows_value before (Prefix' p.Scan s operand) answer none value = absurd (false≢true (sym none))
shows_value before (Prefix' p.Codegen s operand) answer none value = absurd (false≢true (sym none))
shows_value before (Prefix' p.Pip s operand) answer none value = absurd (false≢true (sym none))
shows_value before (Row' s first t links) answer none value =
    subst (λ (b : Bool). ShowsRow b
    (RowSays (ShowsTest before (declared_of (scope_of before.state) (Row' s first t links)) answer) before.state first links) before
    (Row' s first t links) answer) (sym none) value
shows_value before _ answer none value = value

shown_made : (expr : Expr) → is_asked expr ≡ false → shown_parts expr ≡ made_parts expr
shown_made (Prefix' p.Scan s operand) none = absurd (false≢true (sym none))
shown_made (Prefix' p.Codegen s operand) none = absurd (false≢true (sym none))
shown_made (Prefix' p.Pip s operand) none = absurd (false≢true (sym none))
shown_made (Row' s first t links) none =
    ap (λ (x : Bool). if x then parts_in first ++ parts_around_test links else made_parts (Row' s first t links)) none
shown_made _ none = refl

pub show_makeable : (scope : ScopeView) (expr : Expr) → is_asked expr ≡ false → IsEvaluable scope (Show expr) → IsMakeable scope expr
show_makeable scope expr none able = record {
  plain = sym (ap (list_any is_foreign) (shown_made expr none)) ∙ able.plain;
  known = (show_kind scope expr able.typed).1.known;
  literals = able.literals;
}

pub show_is : (scope : ScopeView) (stmt : Stmt) (expr : Expr) (t : TypeView) (kind : ValueKind) → stmt ≡ Show expr
    → type_of_statement scope stmt ≡ Ok (Some t) → kind ≡ t.kind → kind_of scope expr ≡ Some kind
show_is scope stmt expr t kind is typed same =
    (show_typed scope expr t (subst (λ (x : Stmt). type_of_statement scope x ≡ Ok (Some t)) is typed)).kind ∙ ap Some (sym same)

-- ---- what is bound
module _ (scope : ScopeView) (stmt : Stmt) (name : Name) (expr : Expr) (is : stmt ≡ Bind name expr) where
  pub bind_makeable : IsEvaluable scope stmt → IsMakeable scope expr
  bind_makeable able =
      let here = subst (IsEvaluable scope) is able in
      let u = found_is (type_for purpose.Bound scope expr) here.typed.0 here.typed.1 in record {
        plain = here.plain;
        known = (of_type scope expr purpose.Bound u.0 u.1).known;
        literals = here.literals;
      }

  pub bind_type : (t : TypeView) → type_of_statement scope stmt ≡ Ok (Some t) → IsOfType scope expr t
  bind_type t typed = bind_typed scope name expr t (subst (λ (x : Stmt). type_of_statement scope x ≡ Ok (Some t)) is typed)

  pub bind_kind : (t : TypeView) (kind : ValueKind) → type_of_statement scope stmt ≡ Ok (Some t) → kind ≡ t.kind
      → kind_of scope expr ≡ Some kind
  bind_kind t kind typed same = (bind_type t typed).kind ∙ ap Some (sym same)

-- what an assumption has that may be evaluated
module _ (scope : ScopeView) (stmt : Stmt) (set : Literal) (is : stmt ≡ Assume set) (able : IsEvaluable scope stmt) where
  here : IsEvaluable scope (Assume set)
  here = subst (IsEvaluable scope) is able

  pub set_known : literal_is_known set ≡ true
  set_known = typed_known scope set here.typed.0 here.typed.1

  pub set_well_formed : IsWellFormedLiteral set
  set_well_formed = All-head IsWellFormedLiteral set [] here.literals

  pub set_formulas : All HasNoCoordinates set.pieces
  set_formulas = here.formulas

pub kept_type : (state : StateView) (meter : Gauge) (expr : Expr) (kept : Kept) (t : TypeView) → IsOfType (scope_of state) expr t
    → AreKeptIn state (limit_of meter) expr kept → t ≡ type_of kept
kept_type state meter expr kept t typed of =
    let keeps = of (moment_of state meter no_options) refl refl in
    let some : Some t.kind ≡ Some kept.kind = sym typed.kind ∙ keeps.kind in
    let kind : t.kind ≡ kept.kind = cc in
    ap₂ (λ (k : ValueKind) (ps : List Name). record { kind = k; params = ps }) kind (sym typed.params ∙ keeps.value.params)

-- ---- the type of a statement
pub type_found : (scope s : ScopeView) (stmt : Stmt) (result : Result (Option TypeView) Refusal) → s ≡ scope → IsTyped scope stmt
    → TypeAnswers result (type_of_statement s stmt)
    → MatchResult result (λ t. type_of_statement scope stmt ≡ Ok t) (λ refusal. refusal ≡ NoMemory)
type_found scope s stmt (Ok t) same typed answers =
    subst (λ (z : ScopeView). type_of_statement z stmt ≡ Ok t) same (answered_ok t (type_of_statement s stmt) answers)
type_found scope s stmt (Err refusal) same typed (inl is) =
    let here : type_of_statement s stmt ≡ Ok typed.0 = subst (λ (z : ScopeView). type_of_statement z stmt ≡ Ok typed.0) (sym same) typed.1 in
    let no : Err refusal ≡ Ok typed.0 = is ∙ here in cc
type_found scope s stmt (Err refusal) same typed (inr is) = let no : Err refusal ≡ Err NoMemory = is in cc

-- the word of what is asked for is `codegen`, `pip` or `scan`, and the last operator a test
pub asked_scan : (expr operand : Expr) (word : Word) → expr ≡ e.Prefix word operand → is_asked expr ≡ true → is_codegen word ≡ false
    → is_pip word ≡ false → word ≡ p.Scan
asked_scan expr operand word is asked other none = scan_word word (sym (ap is_asked is ∙ asked_of-Prefix word operand) ∙ asked) other none

pub asked_test : (expr first : Expr) (links list before : List Link) (last : Link) → expr ≡ Row first links → list ≡ links
    → list ≡ before ++ last ∷ []
    → is_asked expr ≡ true → true ≡ is_test last.operator
asked_test expr first links list before last is are split asked =
    sym asked ∙ ap is_asked is ∙ asked_of-Row first links ∙ ap ends_with_test (sym are ∙ split) ∙ ends_at before last

-- ---- numbers of parameters
pub at_numbers : (at : Valuation) (value d v : KeptValue) (ps : List Name) (numbers slice : List ℤ) → d ≡ value → v ≡ value → ps ≡ d.params
    → numbers ≡ values_of ps at → slice ≡ numbers → values_of v.params at ≡ slice
at_numbers at value d v ps numbers slice one two are is same =
    sym (same ∙ is ∙ ap (λ (names : List Name). values_of names at) (are ∙ ap (λ (k : KeptValue). k.params) (one ∙ sym two)))

-- ---- a scan without a listing
pub scan_failed : {A : Type 0} (result : Result A ScanFault) (state : StateView) (operand : Expr) (at : Valuation) (value v : KeptValue)
    (g h k : Gauge) (fault : ScanFault) (refusal : Refusal) → result ≡ Err fault
    → ((x : Element) → Has value at x ↔ Selects state operand at x) → v ≡ value → IsCharged g h
    → (result ≡ Err scan_fault.Unbounded → ¬ IsFiniteAt v at) → IsScanFault h k fault → refusal ≡ refusal_of_fault fault
    → GoesOn (Ends state operand) → IsWhyUnworked true (EndsListing state operand at) g k refusal
scan_failed result state operand at value v g h k (scan_fault.Cut what) refusal found has same charged endless by is goes =
    inl (unmade_by (EndsListing state operand at) g h k what refusal charged by is (inr (inr (goes, tt))))
scan_failed result state operand at value v g h k scan_fault.Unbounded refusal found has same charged endless by is goes =
    let listed = infinite_is state operand at value v has same (endless found) in
    inr (unbounded, is, inr (goes, listed), paid_works g k (IsCharged_trans g h k charged by))

-- ---- a row that is asked for
pub row_is : (expr first x : Expr) (links list before : List Link) (last : Link) → expr ≡ Row first links → x ≡ first → list ≡ links
    → list ≡ before ++ last ∷ [] → expr ≡ Row x (before ++ last ∷ [])
row_is expr first x links list before last is same are split = is ∙ ap (λ (y : Expr). Row y links) (sym same) ∙ ap (Row x) (sym are ∙ split)

pub asked_none : (expr first : Expr) (links list : List Link) → expr ≡ Row first links → list ≡ links → length list ≡ 0
    → is_asked expr ≡ true → ⊥
asked_none expr first links list is are none asked =
    false≢true (ends_none list none ∙ ap ends_with_test are ∙ sym (asked_of-Row first links) ∙ sym (ap is_asked is) ∙ asked)

-- ---- bindings
pub bound_kept : (before : Moment) (state new : StateView) (limit : ℤ) (name copy : Name) (expr : Expr) (kept : Kept)
    → before.state ≡ state → limit_of before.meter ≡ limit → AreKeptIn state limit expr kept → copy ≡ name → Binds state copy kept new
    → (kept : Kept) × Keeps before expr kept × Binds state name kept new
bound_kept before state new limit name copy expr kept here at of same binds =
    (kept, of before here at, subst (λ (n : Name). Binds state n kept new) same binds)

pub bind_paid : (assumed : Assumed) (stmt : Stmt) (name : Name) (expr : Expr) (g h : Gauge) → stmt ≡ Bind name expr
    → IsPaid (list_any (uses_units assumed) (parts_of expr)) g h
    → IsPaid (works assumed stmt) g h
bind_paid assumed stmt name expr g h is paid = subst (λ (x : Stmt). IsPaid (works assumed x) g h) (sym is) paid

-- ---- assumptions
-- a set that is read as what is assumed
module _ (state : StateView) (tree : Literal) (set : Assumed) (names : names_of set ≡ tree.params)
    (valuations : (v : Valuation) → Assumes set v ↔ HoldsSome tree v) where
  pub narrows_tree : (after : StateView) → Narrows state (names_of set) (Assumes set) after → Narrows state tree.params (HoldsSome tree) after
  narrows_tree after is = record {
    assumed = record {
      names = is.assumed.names ∙ ap (joined (names_of state.assumed)) names;
      valuations = λ v. (
        (λ h. let both = (is.assumed.valuations v).0 h in (both.0, (valuations v).0 both.1)),
        (λ h. (is.assumed.valuations v).1 (h.0, (valuations v).1 h.1)),
      );
      some = is.assumed.some;
    };
    bound = is.bound;
  }

  tree_ends : (why : End) → NarrowingEnds state.assumed (names_of set) (Assumes set) why
      → NarrowingEnds state.assumed tree.params (HoldsSome tree) why
  tree_ends (because too_wide) many = subst (λ (ns : List Name). most_parameters < length (joined (names_of state.assumed) ns)) names many
  tree_ends (because no_valuation) h = (
    subst (λ (ns : List Name). length (joined (names_of state.assumed) ns) ≤ most_parameters) names h.0,
    (λ v here holds. h.1 v here ((valuations v).1 holds)),
  )
  tree_ends (because no_minimum) h = h
  tree_ends (because nested) h = h
  tree_ends (because time_shapes) h = h
  tree_ends (because unbounded) h = h
  tree_ends (because several_times) h = h
  tree_ends (because not_assumed) h = h
  tree_ends cut few = subst (λ (ns : List Name). length (joined (names_of state.assumed) ns) ≤ most_parameters) names few

  set_ends : (why : End) → NarrowingEnds state.assumed tree.params (HoldsSome tree) why
      → NarrowingEnds state.assumed (names_of set) (Assumes set) why
  set_ends (because too_wide) many =
      subst (λ (ns : List Name). most_parameters < length (joined (names_of state.assumed) ns)) (sym names) many
  set_ends (because no_valuation) h = (
    subst (λ (ns : List Name). length (joined (names_of state.assumed) ns) ≤ most_parameters) (sym names) h.0,
    (λ v here holds. h.1 v here ((valuations v).0 holds)),
  )
  set_ends (because no_minimum) h = h
  set_ends (because nested) h = h
  set_ends (because time_shapes) h = h
  set_ends (because unbounded) h = h
  set_ends (because several_times) h = h
  set_ends (because not_assumed) h = h
  set_ends cut few = subst (λ (ns : List Name). length (joined (names_of state.assumed) ns) ≤ most_parameters) (sym names) few

  -- the set comes first, which is work
  pub narrowed_ends : (why : End) → NarrowingEnds state.assumed (names_of set) (Assumes set) why → NarrowedEnds state tree why
  narrowed_ends why ends = inr ((λ reason h. h), tree_ends why ends)

  pub narrowed_goes : GoesOn (NarrowingEnds state.assumed (names_of set) (Assumes set)) → GoesOn (NarrowedEnds state tree)
  narrowed_goes goes reason (inl none) = none
  narrowed_goes goes reason (inr ends) = goes reason (set_ends (because reason) ends.1)

  -- what the call leaves that narrows the assumed valuations to those of the set
  pub narrowed_made : (g h k : Gauge) (after : StateView) (result : Result (Unit {0}) Refusal) → IsCharged g h
      → OnOk result (Narrows state (names_of set) (Assumes set) after)
      → MatchResult result (λ _. IsCharged h k) (IsWhyUnworked true (NarrowingEnds state.assumed (names_of set) (Assumes set)) h k)
      → OnOk result (GoesOn (NarrowingEnds state.assumed (names_of set) (Assumes set)))
      → IsOutcome true (NarrowedEnds state tree) g k (λ _. Narrows state tree.params (HoldsSome tree) after) result
  narrowed_made g h k after (Ok done) charged narrows paid goes =
      (narrows_tree after narrows, paid_works g k (IsCharged_trans g h k charged paid), narrowed_goes goes)
  narrowed_made g h k after (Err refusal) charged narrows why goes =
      unworked_on true (NarrowingEnds state.assumed (names_of set) (Assumes set)) (NarrowedEnds state tree) g h k refusal narrowed_ends charged why

-- lowering it is cut
pub narrowed_cut : (state : StateView) (tree : Literal) (g h : Gauge) (what : Cut) (refusal : Refusal) → IsCutBy g h what
    → refusal ≡ refusal_of_cut what → IsWhyUnworked true (NarrowedEnds state tree) g h refusal
narrowed_cut state tree g h what refusal by is =
    inl (unmade_by (NarrowedEnds state tree) g g h what refusal (IsCharged_refl g g refl) by is (inr (inl tt)))

-- what is within a limit stays so
pub fits_still : (g h : Gauge) (after : StateView) (result : Result (Unit {0}) Refusal) → IsCharged g h
    → OnOk result (Fits (limit_of h) after) → OnOk result (Fits (limit_of g) after)
fits_still g h after (Ok done) charged fits = subst (λ (z : ℤ). Fits z after) (same_limit g h charged) fits
fits_still g h after (Err refusal) charged fits = tt

-- ---- steps
-- what is shown ends as the expression does, where nothing is listed
pub shown_ends : (before : Moment) (expr : Expr) → is_asked expr ≡ false → EndAlike (Ends before.state expr) (StatementEnds before (Show expr))
shown_ends before (Prefix' p.Scan s operand) none why = absurd (false≢true (sym none))
shown_ends before (Prefix' p.Codegen s operand) none why = absurd (false≢true (sym none))
shown_ends before (Prefix' p.Pip s operand) none why = absurd (false≢true (sym none))
shown_ends before _ none why = ((λ h. h), (λ h. h))

row_ends : (before : Moment) (first : Expr) (links : List Link)
    → EndAlike (Ends before.state (Row first links)) (StatementEnds before (Show (Row first links)))
unfolding hidden-the_row-Expr-0 denote.Hole.Carrier.hidden
row_ends before first links why = ((λ h. h), (λ h. h))

pub test_ends : (before : Moment) (expr x : Expr) (around : List Link) (last : Link) → expr ≡ Row x (around ++ last ∷ [])
    → EndAlike (EndsTest before.state x around last) (StatementEnds before (Show expr))
test_ends before expr x around last is =
    let row = Row x (around ++ last ∷ []) in
    subst (λ (y : Expr). EndAlike (EndsTest before.state x around last) (StatementEnds before (Show y))) (sym is)
    (alike_trans (EndsTest before.state x around last) (Ends before.state row) (StatementEnds before (Show row))
    (turned_alike (Ends before.state row) (EndsTest before.state x around last) (ends_of-Row before.state x (around ++ last ∷ [])))
    (row_ends before x (around ++ last ∷ [])))

module _ (before : Moment) (stmt : Stmt) where
  pub empty_step : stmt ≡ Empty → Step before stmt before nothing
  empty_step is = record {
    does = subst (λ (x : Stmt). Does before x before nothing) (sym is) (refl, refl);
    goes_on = subst (λ (x : Stmt). GoesOn (StatementEnds before x)) (sym is) (λ why h. h);
    meter = IsCharged_refl before.meter before.meter refl;
    options = refl;
  }

  pub show_step : (after : Moment) (expr : Expr) (answer : Answer) → stmt ≡ Show expr → after.state ≡ before.state → after.options ≡ before.options
      → IsCharged before.meter after.meter → GoesOn (StatementEnds before (Show expr)) → Shows before expr answer
      → Step before stmt after answer
  show_step after expr answer is same options charged goes shows = record {
    does = subst (λ (x : Stmt). Does before x after answer) (sym is) (same, shows);
    goes_on = subst (λ (x : Stmt). GoesOn (StatementEnds before x)) (sym is) goes;
    meter = charged;
    options = options;
  }

  pub show_answered : (now : Gauge) (expr : Expr) (works : Bool) (result : Result Answer Refusal) → stmt ≡ Show expr
      → IsOutcome works (StatementEnds before (Show expr)) before.meter now (Shows before expr) result
      → IfOk result (Step before stmt (record before { meter = now }))
  show_answered now expr works (Ok answer) is made =
      show_step (record before { meter = now }) expr answer is refl refl made.1.charged made.2 made.0
  show_answered now expr works (Err refusal) is made = tt

  -- an assumption
  pub narrow_step : (after : Moment) (set : Literal) → stmt ≡ Assume set → after.options ≡ before.options → IsCharged before.meter after.meter
      → GoesOn (NarrowedEnds before.state set) → Narrows before.state set.params (HoldsSome set) after.state → Step before stmt after nothing
  narrow_step after set is options charged goes narrows = record {
    does = subst (λ (x : Stmt). Does before x after nothing) (sym is) (narrows, refl);
    goes_on = subst (λ (x : Stmt). GoesOn (StatementEnds before x)) (sym is) goes;
    meter = charged;
    options = options;
  }

  pub bind_step : (after : Moment) (name : Name) (expr : Expr) → stmt ≡ Bind name expr → after.options ≡ before.options
      → IsCharged before.meter after.meter → GoesOn (Ends before.state expr)
      → (kept : Kept) × Keeps before expr kept × Binds before.state name kept after.state → Step before stmt after nothing
  bind_step after name expr is options charged goes kept = record {
    does = subst (λ (x : Stmt). Does before x after nothing) (sym is) (kept, refl);
    goes_on = subst (λ (x : Stmt). GoesOn (StatementEnds before x)) (sym is) goes;
    meter = charged;
    options = options;
  }
