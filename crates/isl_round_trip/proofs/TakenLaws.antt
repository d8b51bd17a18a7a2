-- What the program answers, it takes again.
use Rattle.std.proofs.Common.{◌≡◌, ◌<◌, ◌≤◌, ◌-◌, ◌^◌, ◌∙◌, inl, inr, ℕ, suc, Bool, true, false, List, [], ◌∷◌, ◌++◌, Option, Some, None}
use Rattle.std.proofs.Common.{Result, Ok, Err, All, ap, sym, subst, refl, arith, pow_mono}
use Rattle.std.specs.Prelude.{length, is_some, IfSome, unwrap_or}
use Rattle.std.specs.Str.{bytes_eq}
use Rattle.std.proofs.lemmas.Bool.{false≢true}
use Rattle.std.proofs.lemmas.List.Elements.{All-head, All-tail}
use Rattle.std.proofs.lemmas.List.{length-append}
use Rattle.isl_math.proofs.ListLaws.{All-parts}
use Rattle.std.proofs.lemmas.Slice.Eq.{bytes_eq-Decides}
use Rattle.isl_meter.specs.Gauge.{Gauge, limit_of, IsCharged}
use Rattle.isl_space.specs.Name.{Name}
use Rattle.isl_union.specs.KeptValue.{KeptValue}
use Rattle.isl_union.specs.Numbers.{HasNumbersUpTo}
use Rattle.isl_print.specs.OrderedValue.{ordered}
use Rattle.isl_print.specs.Printed.{printed}
use Rattle.isl_print.proofs.OrderedValueLaws.{printed-ordered}
use Rattle.isl_token.specs.Number.{too_great}
use Rattle.isl_token.specs.Lex.{tokens}
use Rattle.isl_token.specs.Spelling.{Spells}
use Rattle.isl_tree.specs.declared.tree.Literal.{Literal}
use Rattle.isl_tree.specs.declared.tree.PieceTree.{PieceTree}
use Rattle.isl_tree.specs.declared.tree.Tuple.{Tuple}
use Rattle.isl_tree.specs.Known.{literal_is_known}
use Rattle.isl_assumed.specs.declared.assumed.Assumed.{Assumed}
use Rattle.isl_text.specs.Read.{has_wide_number}
use Rattle.isl_lower.proofs.ValueLaws.{same_elements}
use Rattle.isl_tree.specs.declared.statement.Stmt.{Stmt}
use Rattle.isl_tree.specs.declared.statement.Stmt.TheVariants.{Empty, Bind, Show, Assume}
use Rattle.isl_tree.specs.declared.statement.Expr.{Expr}
use Rattle.isl_tree.specs.declared.statement.ValueKind.{ValueKind}
use Rattle.isl_tree.specs.declared.statement.ValueKind.TheVariants.{List as Pair}
use Rattle.isl_tree.specs.declared.statement.Expr as e
use Rattle.isl_tree.specs.Expr.{literals_of, statement_literals}
use Rattle.isl_space.specs.Limits.{most_leaves}
use Rattle.isl_flat_law.proofs.SimpleLaws.{literals_kept}
use Rattle.isl_stmt.specs.StatementGrammar.{statement_grammar}
use Rattle.isl_stmt.specs.Limits.{statement_is_within}
use Rattle.isl_stmt.specs.Read.{NoStatement}
use Rattle.isl_kinds.specs.Lines.{is_kind}
use Rattle.isl_kinds.specs.Typed.{ScopeView, is_dollar, kind_of, kind_of_image, kind_of_pieces, declared_of, type_of_statement}
use Rattle.isl_refusal.specs.declared.refusal.Refusal.{Refusal}
use Rattle.isl_refusal.specs.declared.refusal.Refusal.TheVariants.{UnknownName, WrongKind, NoElement}
use Rattle.isl_state.specs.declared.list.ListPart.{ListPart}
use Rattle.isl_state.specs.declared.list.ListPart.TheVariants.{First, Second}
use Rattle.isl_values.specs.State.{Kept, Moment, StateView, Binds, unbound, kept_of, scope_of, forgotten, value_at}
use Rattle.isl_values.specs.Selection.{IsKeptOf, Keeps}
use Rattle.isl_values.specs.Live.{IsLivePartOf, IsLiveUnder}
use Rattle.isl_values.specs.Ends.{GoesOn, Reason, because, too_wide, no_minimum, nested, time_shapes, unbounded, several_times}
use Rattle.isl_values.specs.Ends.{no_valuation, not_assumed}
use Rattle.isl_eval.specs.Spelled.{BytesSpell, OfStatement, OfTokens}
use Rattle.isl_flat.specs.Flat.{flat}
use Rattle.isl_eval.specs.Ended.{AskedEnds, StatementEnds}
use Rattle.isl_eval.specs.Causes.{AreDone, EvaluationEnds, IsClear, IsEnded, IsValid, Stops, is_parametric}
use Rattle.isl_eval.specs.Machine.{Answer, Performs, Step, Steps, nothing, shown, text_of_two}
use Rattle.isl_eval.specs.Run.{Answers}
use Rattle.isl_eval.proofs.CauseLaws.{of_tokens, of_statement, one as one_spelled}
use Rattle.isl_token.proofs.LexLaws.{lexed}
use Rattle.isl_eval.proofs.LiteralLaws.{IsSpelled, literals_spelled}
use Rattle.isl_values.proofs.FlatLaws.{literal_written}
use Rattle.isl_state.proofs.LiveLaws.{part_same}
use Rattle.isl_state.proofs.ForgetLaws.{kept_of_dollar, kept_of_forgotten}
use Rattle.isl_round_trip.specs.Tree.{printed_tree}
use Rattle.isl_round_trip.specs.Written.{HasFewRemainders, IsOfKind}
use Rattle.isl_round_trip.specs.RoundTrip.{IsWritableValue, ReadsAs}
use Rattle.isl_round_trip.specs.TakenAgain.{AreWritable, IsShallow, IsShownAgain, IsTakenAgain, ShowsKept}
use Rattle.isl_round_trip.proofs.ValueTokenLaws.{printed_tokens, tokens-printed}
use Rattle.isl_round_trip.proofs.TakenTokens.{narrow}
use Rattle.isl_round_trip.proofs.RoundTripLaws.{tree_at, reads_as}
use Rattle.isl_round_trip.proofs.AloneLaws.{shown_alone}
use Rattle.isl_round_trip.proofs.HeldLaws.{IsSteady, done_holds, flat_steady, left_writable, live_ordered, steps_hold}
use Rattle.isl_round_trip.proofs.KindLaws.{content_kind, of_kind_uniform}
use Rattle.isl_round_trip.proofs.PieceKinds.{live_kind}
use Rattle.isl_round_trip.proofs.KindOfOperations.{some_same}
use Rattle.isl_round_trip.proofs.WritableLaws.{writable_numbers}

is_not : (a : Bool) → a ≡ false → ¬ (a ≡ true)
is_not a not_so so = false≢true (sym not_so ∙ so)

is_so : (a : Bool) → a ≡ true → ¬ (a ≡ false)
is_so a so not_so = false≢true (sym not_so ∙ so)

-- the answer that is this text
abbrev line : List ℕ → Answer
line text = record { bytes = text ++ 10 ∷ []; is_true = false; elements = 0 }

-- what is no list is shown by its only value
single : (kept : Kept) → kept.second ≡ None → shown kept ≡ line (printed kept.value)
single kept none = ap (λ (o : Option KeptValue). line (text_of_two kept.value o)) none

-- a literal is no list
image_no_list : (second : Option Tuple) → is_kind (kind_of_image second) Pair ≡ false
image_no_list None = refl
image_no_list (Some tuple) = refl

literal_no_list : (pieces : List PieceTree) → is_kind (kind_of_pieces pieces) Pair ≡ false
literal_no_list [] = refl
literal_no_list (piece ∷ pieces) = image_no_list piece.second

no_second : (o : Option KeptValue) → is_some o ≡ false → o ≡ None
no_second None is = refl
no_second (Some second) is = absurd (false≢true (sym is))

-- ---- a literal of known names has a type
literal_typed : (scope : ScopeView) (literal : Literal) → literal_is_known literal ≡ true
    → type_of_statement scope (Show (e.Literal literal))
    ≡ Ok (Some (record { kind = kind_of_pieces literal.pieces; params = declared_of scope (e.Literal literal) }))
literal_typed scope literal known = rw known refl

ok_err : {A E : Type 0} {x : A} {y : E} → ◌≡◌ {A = Result A E} (Ok x) (Err y) → ⊥
ok_err e = cc

-- the only statement of a list
next_alone : (x : Stmt) (done later : List Stmt) (next : Stmt) → x ∷ [] ≡ done ++ next ∷ later → next ≡ x
next_alone x [] later next is = cc
next_alone x (first ∷ more) later next is = absurd (omega (arith, ap length is, length-append more (next ∷ later)))

-- ---- the text of a value, and its answer
module _ (value : KeptValue) (writable : IsWritableValue value) where
  lexes : tokens (printed value) ≡ Some (printed_tokens value)
  lexes = tokens-printed value writable.kept writable.numbers

  spells : Spells statement_grammar (Show (e.Literal (printed_tree value))) (printed_tokens value)
  spells =
      shown_alone (suc most_leaves) (printed_tree value) (printed_tokens value)
      (tree_at value writable.kept writable.numbers writable.uniform)

  pub text_spells : BytesSpell (printed value) (Show (e.Literal (printed_tree value)))
  text_spells = record { tokens = printed_tokens value; cut = lexes; spelled = spells }

  reads : ReadsAs (printed_tree value) value
  reads = reads_as value writable

  at_text : (P : Stmt → Type 0) → OfStatement (printed value) P → P (Show (e.Literal (printed_tree value)))
  at_text P there = of_statement (printed value) (Show (e.Literal (printed_tree value))) P text_spells there

  -- the text spells no other statement, and what is shown where it is answered is what is live of the value
  pub text_shows : (moment last : Moment) (other : Answer) → Answers moment (printed value) last other
      → (live : KeptValue) × IsLivePartOf moment.state.assumed (ordered value) live × (other ≡ line (printed live))
  unfolding Steps
  text_shows moment last other answers =
      by answers.stmt
      (one_spelled (printed value) answers.stmt (Show (e.Literal (printed_tree value))) answers.spelled text_spells)
      answers.performed.1
    where
      by : (stmt : Stmt) → stmt ≡ Show (e.Literal (printed_tree value)) → Steps moment (flat stmt) answers.performed.0 other
          → (live : KeptValue) × IsLivePartOf moment.state.assumed (ordered value) live × (other ≡ line (printed live))
      by stmt same steps =
          let step : Step moment (Show (e.Literal (printed_tree value))) answers.performed.0 other =
          subst (λ (s : Stmt). Steps moment (flat s) answers.performed.0 other) same steps in
          let made = step.does.1 in
          let low = literal_written moment.state First (printed_tree value) made.0.value reads.plain made.1.value.content.written in
          let kind : kind_of_pieces (printed_tree value).pieces ≡ made.0.kind =
          some_same (kind_of_pieces (printed_tree value).pieces) made.0.kind made.1.kind in
          let one : made.0.second ≡ None =
          no_second made.0.second
          (made.1.list ∙ ap (λ (k : ValueKind). is_kind k Pair) (sym kind) ∙ literal_no_list (printed_tree value).pieces) in (
            made.0.value,
            subst (λ (v : KeptValue). IsLivePartOf moment.state.assumed v made.0.value) (reads.read low.0 low.2) low.3,
            made.2 ∙ single made.0 one,
          )

  -- where each piece of the value is live that is the same text
  pub text_answered : (moment : Moment) → IsLiveUnder moment.state.assumed value → (answer : Answer) → answer ≡ line (printed value)
      → (last : Moment) (other : Answer) → Answers moment (printed value) last other → other ≡ answer
  text_answered moment live answer is last other answers =
      let shows = text_shows moment last other answers in
      let same = part_same moment.state.assumed (ordered value) shows.0 shows.1 (live_ordered moment.state.assumed value live) in
      shows.2 ∙ ap (λ (v : KeptValue). line (printed v)) same ∙ ap line (printed-ordered value) ∙ sym is

-- ---- why it is taken
module _ (moment : Moment) (bits : moment.meter.bits ≤ 127) (value : KeptValue) (writable : IsWritableValue value)
    (small : HasNumbersUpTo (2 ^ moment.meter.bits - 1) value) where
  below : 2 ^ moment.meter.bits - 1 < too_great
  below = let large : 2 ^ moment.meter.bits ≤ 2 ^ 127 = pow_mono bits in omega (arith, large)

  within : HasFewRemainders value → statement_is_within (Show (e.Literal (printed_tree value))) ≡ true
  within few = rw ((reads value writable).within few) refl

  cut : tokens (printed value) ≡ Some (printed_tokens value)
  cut = lexes value writable

  -- none of the causes is there
  at_tree : (P : Stmt → Type 0) → OfStatement (printed value) P → P (Show (e.Literal (printed_tree value)))
  at_tree P there = at_text value writable P there

  typed : type_of_statement (scope_of moment.state) (Show (e.Literal (printed_tree value)))
      ≡ Ok (Some (record {
        kind = kind_of_pieces (printed_tree value).pieces;
        params = declared_of (scope_of moment.state) (e.Literal (printed_tree value));
      }))
  typed = literal_typed (scope_of moment.state) (printed_tree value) (reads value writable).known

  no_error : (refusal : Refusal) → ¬ OfStatement (printed value) (λ stmt. type_of_statement (scope_of moment.state) stmt ≡ Err refusal)
  no_error refusal there = ok_err (sym typed ∙ at_tree (λ stmt. type_of_statement (scope_of moment.state) stmt ≡ Err refusal) there)

  small_numbers : ¬ OfTokens (printed value) (λ ts. has_wide_number (limit_of moment.meter) ts ≡ true)
  small_numbers there =
      is_not _ (narrow (2 ^ moment.meter.bits - 1) below value writable small)
      (of_tokens (printed value) (printed_tokens value) (λ ts. has_wide_number (limit_of moment.meter) ts ≡ true) cut there)

  text_clear : IsShallow (printed value) → HasFewRemainders value → IsClear moment (printed value)
  text_clear shallow few = (
    (λ none. let f : Some (printed_tokens value) ≡ None = sym cut ∙ none in cc),
    (
      shallow,
      (
        (λ there. of_tokens (printed value) (printed_tokens value) NoStatement cut there (Show (e.Literal (printed_tree value)))
            (spells value writable)),
        (
          (λ there. is_so _ (within few) (at_tree (λ stmt. statement_is_within stmt ≡ false) there)),
          (
            small_numbers,
            (
              no_error UnknownName,
              (
                no_error WrongKind,
                (
                  no_error NoElement,
                  ((λ there. is_not _ refl (at_tree (λ stmt. is_parametric (scope_of moment.state) moment.options stmt ≡ true) there)), tt),
                ),
              ),
            ),
          ),
        ),
      ),
    ),
  )

  -- the text stops only at the literal, which ends nothing, and no elements are listed
  at_next : (P : Moment → Stmt → Type 0) → Stops moment (Show (e.Literal (printed_tree value))) P
      → (now : Moment) × P now (Show (e.Literal (printed_tree value)))
  at_next P stops =
      let literal = next_alone (Show (e.Literal (printed_tree value))) stops.done stops.later stops.next stops.split in
      (stops.now, subst (P stops.now) literal stops.stops)

  not_asked : (reason : Reason) → ¬ AskedEnds moment (Show (e.Literal (printed_tree value))) (because reason)
  not_asked too_wide asked = absurd asked
  not_asked no_minimum asked = absurd asked
  not_asked nested asked = absurd asked
  not_asked time_shapes asked = absurd asked
  not_asked unbounded asked = absurd asked
  not_asked several_times asked = absurd asked
  not_asked no_valuation asked = absurd asked
  not_asked not_assumed asked = absurd (false≢true asked.0)

  text_goes_on : GoesOn (IsEnded moment (printed value))
  text_goes_on reason there = elim (at_tree (λ stmt. EvaluationEnds moment stmt (because reason)) there) [
    | inl asked ↦ not_asked reason asked
    | inr ends ↦ (at_next (λ now next. StatementEnds now next (because reason)) ends.1).1
  ]

  pub text_valid : IsShallow (printed value) → HasFewRemainders value → IsValid moment (printed value)
  text_valid shallow few = record { clear = text_clear shallow few; goes_on = text_goes_on }

-- ---- what an answered statement shows or binds can be written
abbrev AreSpelled : Stmt → Type 0
AreSpelled stmt = All IsSpelled (statement_literals stmt)

abbrev IsWritten : Kept → Type 0
IsWritten kept = (part : ListPart) → IsOfKind kept.kind (value_at part kept) × IsWritableValue (value_at part kept)

-- the value of each part is one that is kept of a part of the expression
kept_at : (before : Moment) (expr : Expr) (kept : Kept) → Keeps before expr kept → (part : ListPart)
    → (other : ListPart) × IsKeptOf before other expr (value_at part kept)
kept_at before expr kept keeps First = (First, keeps.value)
kept_at before expr kept keeps Second = by kept.second refl keeps.second
  where
    by : (o : Option KeptValue) → kept.second ≡ o → IfSome o (IsKeptOf before Second expr)
        → (other : ListPart) × IsKeptOf before other expr (value_at Second kept)
    by None is h = (First, subst (λ (o : Option KeptValue). IsKeptOf before First expr (unwrap_or o kept.value)) (sym is) keeps.value)
    by (Some second) is h = (Second, subst (λ (o : Option KeptValue). IsKeptOf before Second expr (unwrap_or o kept.value)) (sym is) h)

module _ (before : Moment) (bits : before.meter.bits ≤ 127) (all : AreWritable before.state) where
  part_kind : (part : ListPart) (expr : Expr) (kind : ValueKind) (value : KeptValue) → All IsSpelled (literals_of expr)
      → kind_of (scope_of before.state) expr ≡ Some kind → IsKeptOf before part expr value → IsOfKind kind value
  part_kind part expr kind value spelled is kept =
      live_kind kind before.state.assumed value kept.live
      (λ valuation element here has. content_kind before.state all part expr value spelled kept.content kind is valuation element here has)

  expr_writable : (expr : Expr) (kept : Kept) → All IsSpelled (literals_of expr) → Keeps before expr kept → IsWritten kept
  expr_writable expr kept spelled keeps = λ part.
      let value = value_at part kept in
      let there = kept_at before expr kept keeps part in
      let lies = part_kind there.0 expr kept.kind value spelled keeps.kind there.1 in (
        lies,
        record {
          kept = there.1.well_formed;
          definitions = there.1.definitions;
          numbers = writable_numbers before.meter value bits there.1.numbers;
          uniform = of_kind_uniform value kept.kind lies;
        },
      )

  show_again : (expr : Expr) (kept : Kept) (after : Moment) (answer : Answer) → All IsSpelled (literals_of expr) → Keeps before expr kept
      → kept.second ≡ None → answer ≡ shown kept → after.meter.bits ≡ before.meter.bits → after.state.assumed ≡ before.state.assumed
      → IsShownAgain after kept.value answer
  show_again expr kept after answer spelled keeps none is same held =
      let writable = (expr_writable expr kept spelled keeps First).1 in
      let reads = reads_as kept.value writable in
      let bits_after : after.meter.bits ≤ 127 = subst (λ (n : ℕ). n ≤ 127) (sym same) bits in
      let small : HasNumbersUpTo (2 ^ after.meter.bits - 1) kept.value =
      subst (λ (n : ℕ). HasNumbersUpTo (2 ^ n - 1) kept.value) (sym same) keeps.value.numbers in
      let live : IsLiveUnder after.state.assumed kept.value =
      subst (λ (a : Assumed). IsLiveUnder a kept.value) (sym held) keeps.value.live in
      let only = is ∙ single kept none in
      record {
        line = ap (λ (a : Answer). a.bytes) only;
        again = printed_tree kept.value;
        spelled = text_spells kept.value writable;
        elements = λ valuation element.
            let now = same_elements (printed_tree kept.value) reads.plain reads.known valuation element in
            let values = reads.elements valuation element in
            ((λ h. values.0 (now.1 h)), (λ h. now.0 (values.1 h)));
        reads = reads;
        valid = text_valid after bits_after kept.value writable small;
        answered = text_answered kept.value writable after live answer only;
      }

  bound_writable : (name : Name) (expr : Expr) (kept : Kept) (after : StateView) → All IsSpelled (literals_of expr) → Keeps before expr kept
      → Binds before.state name kept after → AreWritable after
  bound_writable name expr kept after spelled keeps binds = λ other found is. by other found is (bytes_eq other name) refl
    where
      by : (other : Name) (found : Kept) → kept_of after other ≡ Some found → (b : Bool) → bytes_eq other name ≡ b → IsWritten found
      by other found is true same =
          let there : kept_of after other ≡ Some kept = ap (kept_of after) ((bytes_eq-Decides other name).0 same) ∙ binds.named in
          let e : kept ≡ found = let f : Some kept ≡ Some found = sym there ∙ is in cc in
          subst IsWritten e (expr_writable expr kept spelled keeps)
      by other found is false apart =
          all other found (sym (binds.others other (λ e. false≢true (sym apart ∙ (bytes_eq-Decides other name).1 e))) ∙ is)

  step_writable : (stmt : Stmt) (after : Moment) (answer : Answer) → AreSpelled stmt → Step before stmt after answer
      → AreWritable after.state
  step_writable Empty after answer spelled step = subst AreWritable (sym step.does.0) all
  step_writable (Show expr) after answer spelled step = subst AreWritable (sym step.does.0) all
  step_writable (Assume set) after answer spelled step = left_writable before.state after.state step.does.0.bound all
  step_writable (Bind name expr) after answer spelled step =
      let made = step.does.0 in bound_writable name expr made.0 after.state spelled made.1 made.2

pub same_bits : (g h : Gauge) → IsCharged g h → h.bits ≡ g.bits
same_bits g h charged = ap (λ (m : Gauge). m.bits) charged.same

-- simple statements that are done, one after another
done_writable : (before : Moment) (done : List Stmt) (now : Moment) → before.meter.bits ≤ 127 → AreWritable before.state
    → All AreSpelled done → AreDone before done now → AreWritable now.state × (now.meter.bits ≡ before.meter.bits)
unfolding AreDone
done_writable before [] now bits all spelled done =
    (subst (λ (m : Moment). AreWritable m.state) (sym done) all, ap (λ (m : Moment). m.meter.bits) done)
done_writable before (stmt ∷ more) now bits all spelled done =
    let next = done.0 in
    let kept = same_bits before.meter next.meter done.1.meter in
    let written = step_writable before bits all stmt next nothing (All-head AreSpelled stmt more spelled) done.1 in
    let rest = done_writable next more now (subst (λ (n : ℕ). n ≤ 127) (sym kept) bits) written
    (All-tail AreSpelled stmt more spelled) done.2 in
    (rest.0, rest.1 ∙ kept)

steps_writable : (before : Moment) (stmts : List Stmt) (after : Moment) (answer : Answer) → before.meter.bits ≤ 127
    → AreWritable before.state → All AreSpelled stmts → Steps before stmts after answer → AreWritable after.state
unfolding Steps
steps_writable before [] after answer bits all spelled steps = absurd steps
steps_writable before (stmt ∷ []) after answer bits all spelled steps =
    step_writable before bits all stmt after answer (All-head AreSpelled stmt [] spelled) steps
steps_writable before (stmt ∷ second ∷ more) after answer bits all spelled steps =
    let next = steps.0 in
    let kept = same_bits before.meter next.meter steps.1.meter in
    let written = step_writable before bits all stmt next nothing (All-head AreSpelled stmt (second ∷ more) spelled) steps.1 in
    steps_writable next (second ∷ more) after answer (subst (λ (n : ℕ). n ≤ 127) (sym kept) bits) written
    (All-tail AreSpelled stmt (second ∷ more) spelled) steps.2

-- the literals of a statement, and of its simple statements, are spelled
of_text : (bytes : List ℕ) (stmt : Stmt) → BytesSpell bytes stmt → AreSpelled stmt
of_text bytes stmt spelled = literals_spelled stmt spelled.tokens (lexed bytes spelled.tokens spelled.cut) spelled.spelled

of_simple : (bytes : List ℕ) (stmt : Stmt) → BytesSpell bytes stmt → All AreSpelled (flat stmt)
of_simple bytes stmt spelled = literals_kept IsSpelled stmt (of_text bytes stmt spelled)

-- what is shown of a kept value
shows_again : (now : Moment) (stmt : Stmt) (kept : Kept) (after : Moment) (answer : Answer) → now.meter.bits ≤ 127 → AreWritable now.state
    → AreSpelled stmt → ShowsKept kept now stmt → kept.second ≡ None → answer ≡ shown kept → after.meter.bits ≡ now.meter.bits
    → after.state.assumed ≡ now.state.assumed → IsShownAgain after kept.value answer
shows_again now (Show expr) kept after answer bits all spelled keeps none is same held =
    show_again now bits all expr kept after answer spelled keeps none is same held
shows_again now Empty kept after answer bits all spelled keeps none is same held = absurd keeps
shows_again now (Assume set) kept after answer bits all spelled keeps none is same held = absurd keeps
shows_again now (Bind name expr) kept after answer bits all spelled keeps none is same held = absurd keeps

-- an assumption shows nothing
steady_shown : (kept : Kept) (now : Moment) (stmt : Stmt) (done later : List Stmt) (next : Stmt) → flat stmt ≡ done ++ next ∷ later
    → ShowsKept kept now next → IsSteady stmt
steady_shown kept now Empty done later next split shows = tt
steady_shown kept now (Bind name expr) done later next split shows = tt
steady_shown kept now (Show expr) done later next split shows = tt
steady_shown kept now (Assume set) done later next split shows =
    absurd (subst (ShowsKept kept now) (next_alone (Assume set) done later next split) shows)

-- so that what is assumed behind a statement that shows something is what is assumed before
shown_held : (before : Moment) (stmt : Stmt) (after : Moment) (answer : Answer) (kept : Kept) → Performs before stmt after answer
    → (stops : Stops before stmt (ShowsKept kept)) → after.state.assumed ≡ stops.now.state.assumed
shown_held before stmt after answer kept performed stops =
    let steady = flat_steady stmt (steady_shown kept stops.now stmt stops.done stops.later stops.next stops.split stops.stops) in
    let first = All-parts IsSteady stops.done (stops.next ∷ stops.later) (subst (All IsSteady) stops.split steady) in
    ap (λ (m : Moment). m.state.assumed) performed.2 ∙ steps_hold before (flat stmt) performed.0 answer steady performed.1
    ∙ sym (done_holds before stops.done stops.now first.0 stops.steps)

pub taken_again : (before : Moment) (bytes : List ℕ) (after : Moment) (answer : Answer) → before.meter.bits ≤ 127 → AreWritable before.state
    → (answered : Answers before bytes after answer) → IsTakenAgain before answered.stmt after answer
taken_again before bytes after answer bits all answered kept stops none is =
    let spelled = subst (All AreSpelled) stops.split (of_simple bytes answered.stmt answered.spelled) in
    let parts = All-parts AreSpelled stops.done (stops.next ∷ stops.later) spelled in
    let now = done_writable before stops.done stops.now bits all parts.0 stops.steps in
    shows_again stops.now stops.next kept after answer (subst (λ (n : ℕ). n ≤ 127) (sym now.1) bits) now.0
    (All-head AreSpelled stops.next stops.later parts.1) stops.stops none is (same_bits before.meter after.meter answered.meter ∙ sym now.1)
    (shown_held before answered.stmt after answer kept answered.performed stops)

kept_before : (state : StateView) (name : Name) (kept : Kept) → kept_of (forgotten state) name ≡ Some kept → kept_of state name ≡ Some kept
kept_before state name kept is = by (is_dollar name) refl
  where
    by : (b : Bool) → is_dollar name ≡ b → kept_of state name ≡ Some kept
    by true dollar = let f : None ≡ Some kept = sym (kept_of_dollar state name dollar) ∙ is in cc
    by false plain = sym (kept_of_forgotten state name plain) ∙ is

forgotten_writable : (state : StateView) → AreWritable state → AreWritable (forgotten state)
forgotten_writable state all = λ name kept is. all name kept (kept_before state name kept is)

pub stays_writable : (before : Moment) (bytes : List ℕ) (after : Moment) (answer : Answer) → before.meter.bits ≤ 127
    → AreWritable before.state → Answers before bytes after answer → AreWritable after.state
stays_writable before bytes after answer bits all answered =
    let now = answered.performed.0 in
    let written = steps_writable before (flat answered.stmt) now answer bits all
    (of_simple bytes answered.stmt answered.spelled) answered.performed.1 in
    subst (λ (m : Moment). AreWritable m.state) (sym answered.performed.2) (forgotten_writable now.state written)

pub starts_writable : AreWritable unbound
starts_writable = λ name kept is. let f : None ≡ Some kept = is in cc
