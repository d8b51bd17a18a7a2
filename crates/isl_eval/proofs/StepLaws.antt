-- One simple statement after another: what is answered, and what is refused.
use Rattle.std.proofs.Common.{◌≡◌, ◌≢◌, ◌⊎◌, ◌∙◌, ◌<◌, ◌+◌, inl, inr, refl, sym, ap, ap₂, subst, arith, ◌^◌, ◌-◌, ℕ, zero, suc, length}
use Rattle.std.proofs.Common.{take, drop, get_or, ℤ, pos, Bool, true, false, List, []}
use Rattle.std.proofs.Common.{◌∷◌, ◌++◌, append_assoc, Option, None, Some, Result, Ok, Err, option_map}
use Rattle.std.specs.Prelude.{unsigned_abs, unwrap_or, IfOk, IfErr, IfSome, OnErr, OnOk, MatchResult}
use Rattle.std.specs.List.{All, list_any}
use Rattle.std.proofs.lemmas.List.Elements.{All-head, All-tail}
use Rattle.std.proofs.lemmas.Bool.{or_parts, false_from_ne_true}
use Rattle.std.proofs.Math.Seq.{take-length, drop-length}
use Rattle.std.proofs.lemmas.List.{get_or_append_left, length-append, take_more, take-append-drop}
use Rattle.std.proofs.lemmas.List.Folds.{list_any_none, list_any-append}
use Rattle.isl_meter.specs.Gauge.{Gauge, limit_of, IsCharged, IsCutBy, IsKept}
use Rattle.isl_meter.proofs.CutLemmas.{IsKept-charged, IsKept_trans}
use Rattle.isl_meter.specs.declared.Cut.{Cut}
use Rattle.isl_meter.specs.declared.Cut.TheVariants as cuts
use Rattle.isl_union.specs.KeptValue.{KeptValue}
use Rattle.isl_assumed.specs.declared.assumed.Assumed.{Assumed}
use Rattle.isl_assumed.specs.Assumed.{Assumes}
use Rattle.isl_words.specs.Options.{OptionsView}
use Rattle.isl_refusal.specs.declared.refusal.Refusal.{Refusal}
use Rattle.isl_tree.specs.declared.statement.ValueKind.{ValueKind}
use Rattle.isl_tree.specs.declared.statement.Stmt.{Stmt}
use Rattle.isl_tree.specs.declared.statement.Stmt.TheVariants.{Empty, Bind, Show, Assume}
use Rattle.isl_tree.specs.declared.statement.Expr.{Expr}
use Rattle.isl_kinds.specs.Typed.{TypeView, is_dollar, kind_of, type_of_statement}
use Rattle.isl_flat.specs.Flat.{flat}
use Rattle.isl_flat.specs.Simple.{BindsIn}
use Rattle.isl_flat_law.proofs.SimpleLaws.{parts_kept}
use Rattle.isl_stmt.specs.Names.{binds_dollar}
use Rattle.isl_state.specs.declared.list.ListPart.{ListPart}
use Rattle.isl_state.specs.declared.list.ListPart.TheVariants.{First, Second}
use Rattle.isl_values.specs.State.{Kept, Moment, StateView, Binds, Fits, HasNumbersUpTo, IsKeptLive, IsSettled, type_of, scope_of, forgotten}
use Rattle.isl_values.specs.State.{value_at}
use Rattle.isl_values.specs.Selection.{IsKeptOf, Keeps}
use Rattle.isl_values.specs.Live.{IsLiveUnder}
use Rattle.isl_values.specs.Ends.{End, Reason, because, too_wide, no_minimum, nested, time_shapes, unbounded, several_times}
use Rattle.isl_values.specs.Ends.{no_valuation, not_assumed, refusal_of_reason}
use Rattle.isl_values.specs.Ends as ends
use Rattle.isl_values.specs.Made.{IsPaid, IsWhyUnworked, refusal_of_cut, uses_units}
use Rattle.isl_state.proofs.StateLaws.{bound_at}
use Rattle.isl_state.proofs.ForgetLaws.{forgotten_itself, forgotten_settled, fits_forgotten}
use Rattle.isl_values.proofs.ValueLaws.{same_limit, paid_same, paid_after, unworked_after}
use Rattle.isl_eval.specs.Machine.{Answer, Does, Step, Steps, behind, nothing}
use Rattle.isl_eval.specs.Causes.{AreDone, IsEnded, Refuses, RefusesBecause}
use Rattle.isl_eval.specs.Asked.{needs_numbers}
use Rattle.isl_eval.specs.Ended.{AskedEnds, IsAssumedWhereNeeded, StatementEnds}
use Rattle.isl_eval.specs.Run.{Answers}
use Rattle.isl_eval.specs.Evaluated.{IsEvaluable, IsWhyEnded, works}
use Rattle.isl_eval.specs.Evaluation.{AreEvaluable, AreLeft, IsClearStatement, IsTaken, IsWhyStopped, StopsAt}
use Rattle.isl_eval.proofs.ChainLaws.{one_alone, one_of}
use Rattle.isl_eval.proofs.TypeLaws.{bind_typed}
use Rattle.isl_eval.proofs.UnaskedLaws.{statement_asks}
use Rattle.isl_eval.proofs.RefusalLaws.{clear, has_work, no_work}

-- ---- units
module _ (assumed : Assumed) where
  abbrev Works : Stmt → Bool
  Works stmt = works assumed stmt

  works_both : (done left : List Stmt) → list_any Works (done ++ left) ≡ false
      → (list_any Works done ≡ false) × (list_any Works left ≡ false)
  works_both done left none = or_parts (list_any Works done) (list_any Works left) (sym (list_any-append Works done left) ∙ none)

  works_at : (done : List Stmt) (stmt : Stmt) (left : List Stmt) → list_any Works (done ++ stmt ∷ left) ≡ false
      → (list_any Works done ≡ false) × (Works stmt ≡ false)
  works_at done stmt left none =
      let both = works_both done (stmt ∷ left) none in
      (both.0, (or_parts (Works stmt) (list_any Works left) both.1).0)

-- ---- one more is done
pub done_more : (before now next : Moment) (done : List Stmt) (stmt : Stmt) → AreDone before done now → Step now stmt next nothing
    → AreDone before (done ++ stmt ∷ []) next
unfolding AreDone
done_more before now next [] stmt is step = (next, subst (λ (m : Moment). Step m stmt next nothing) is step, refl)
done_more before now next (first ∷ done) stmt h step = (h.0, h.1, done_more h.0 now next done stmt h.2 step)

pub last_done : (before now after : Moment) (done : List Stmt) (last : Stmt) (answer : Answer) → AreDone before done now
    → Step now last after answer
    → Steps before (done ++ last ∷ []) after answer
unfolding AreDone Steps
last_done before now after [] last answer is step = subst (λ (m : Moment). Step m last after answer) is step
last_done before now after (first ∷ []) last answer h step =
    (h.0, h.1, subst (λ (m : Moment). Step m last after answer) h.2 step)
last_done before now after (first ∷ next ∷ done) last answer h step =
    (h.0, h.1, last_done h.0 now after (next ∷ done) last answer h.2 step)

-- ---- bindings
kind_same : (a b : ValueKind) (o : Option ValueKind) → o ≡ Some a → o ≡ Some b → a ≡ b
kind_same a b o x y = let e : Some a ≡ Some b = sym x ∙ y in cc

kept_type : (now : Moment) (name : List ℕ) (expr : Expr) (t : TypeView) (kept : Kept)
    → type_of_statement (scope_of now.state) (Bind name expr) ≡ Ok (Some t)
    → Keeps now expr kept → type_of kept ≡ t
kept_type now name expr t kept typed keeps =
    let is = bind_typed (scope_of now.state) name expr t typed in
    ap₂ (λ (k : ValueKind) (p : List (List ℕ)). record { kind = k; params = p })
    (kind_same kept.kind t.kind (kind_of (scope_of now.state) expr) keeps.kind is.kind)
    (sym keeps.value.params ∙ is.params)

binds_in : (now next : Moment) (name : List ℕ) (kept : Kept) (t : TypeView) → type_of kept ≡ t → Binds now.state name kept next.state
    → BindsIn (scope_of now.state) name t (scope_of next.state)
binds_in now next name kept t same binds = record {
  bound = bound_at next.state name ∙ ap (option_map type_of) binds.named ∙ ap Some same;
  others = λ other apart. bound_at next.state other ∙ ap (option_map type_of) (binds.others other apart) ∙ sym (bound_at now.state other);
}

-- no number of both values is above the limit
abbrev HasNumbers : ℤ → Kept → Type 0
HasNumbers limit kept = (part : ListPart) → HasNumbersUpTo (unsigned_abs limit) (value_at part kept)

pub kept_numbers : (now : Moment) (expr : Expr) (kept : Kept) → Keeps now expr kept → HasNumbers (limit_of now.meter) kept
kept_numbers now expr kept keeps First = keeps.value.numbers
kept_numbers now expr kept keeps Second = by kept.second keeps.second
  where
    by : (second : Option KeptValue) → IfSome second (IsKeptOf now Second expr)
        → HasNumbersUpTo (unsigned_abs (limit_of now.meter)) (unwrap_or second kept.value)
    by None none = keeps.value.numbers
    by (Some value) is = is.numbers

-- what is kept has an element of each piece at an assumed valuation
pub kept_live : (now : Moment) (expr : Expr) (kept : Kept) → Keeps now expr kept → IsKeptLive now.state.assumed kept
kept_live now expr kept keeps First = keeps.value.live
kept_live now expr kept keeps Second = by kept.second keeps.second
  where
    by : (second : Option KeptValue) → IfSome second (IsKeptOf now Second expr)
        → IsLiveUnder now.state.assumed (unwrap_or second kept.value)
    by None none = keeps.value.live
    by (Some value) is = is.live

-- ---- what is left
pub left_start : {type : Option TypeView} (before : Moment) (statements : List Stmt)
    → AreEvaluable (scope_of before.state) statements type
    → Fits (limit_of before.meter) before.state
    → AreLeft before before [] statements type
unfolding AreDone
left_start before statements ready fits = record {
  ready = ready;
  steps = refl;
  fits = fits;
  others = refl;
  paid = paid_same false before.meter before.meter refl;
  options = refl;
}

-- what is assumed is as it was
pub left_assumed : (before now : Moment) → forgotten now.state ≡ forgotten before.state → now.state.assumed ≡ before.state.assumed
left_assumed before now others = ap (λ (s : StateView). s.assumed) others

pub left_next : {type : Option TypeView} (before now next : Moment) (done : List Stmt) (stmt : Stmt) (other : Stmt) (left : List Stmt)
    (answer : Answer)
    → AreLeft before now done (stmt ∷ other ∷ left) type → Step now stmt next answer → IsPaid (works now.state.assumed stmt) now.meter next.meter
    → ((name : List ℕ) (expr : Expr) → stmt ≡ Bind name expr → is_dollar name ≡ true → forgotten next.state ≡ forgotten now.state)
    → Fits (limit_of now.meter) next.state
    → AreLeft before next (done ++ stmt ∷ []) (other ∷ left) type × (answer ≡ nothing)
left_next before now next done (Bind name expr) other left answer h step paid dollar fits =
    let kept = step.does.0.0 in
    let keeps = step.does.0.1 in
    let binds = step.does.0.2 in (
      record {
        ready = h.ready.4 (scope_of next.state)
            (binds_in now next name kept h.ready.0 (kept_type now name expr h.ready.0 kept h.ready.1 keeps) binds);
        steps = done_more before now next done (Bind name expr) h.steps
            (subst (λ (a : Answer). Step now (Bind name expr) next a) step.does.1 step);
        fits = subst (λ (z : ℤ). Fits z next.state) (same_limit before.meter now.meter h.paid.charged) fits;
        others = dollar name expr refl h.ready.2 ∙ h.others;
        paid = paid_after (list_any (works before.state.assumed) (done ++ Bind name expr ∷ [])) (list_any (works before.state.assumed) done)
            (works before.state.assumed (Bind name expr)) before.meter now.meter next.meter
            (λ none. works_at before.state.assumed done (Bind name expr) [] none) h.paid
            (subst (λ (a : Assumed). IsPaid (works a (Bind name expr)) now.meter next.meter) (left_assumed before now h.others) paid);
        options = step.options ∙ h.options;
      },
      step.does.1,
    )
left_next before now next done Empty other left answer h step paid dollar fits = absurd h.ready
left_next before now next done (Show expr) other left answer h step paid dollar fits = absurd h.ready
left_next before now next done (Assume set) other left answer h step paid dollar fits = absurd h.ready

-- what is left may be evaluated first
pub left_first : {type : Option TypeView} (before now : Moment) (done : List Stmt) (stmt : Stmt) (left : List Stmt)
    → AreLeft before now done (stmt ∷ left) type
    → IsEvaluable (scope_of now.state) stmt × Fits (limit_of now.meter) now.state
left_first {type} before now done stmt left h = (
  ready stmt left h.ready,
  subst (λ (z : ℤ). Fits z now.state)
      (sym (same_limit before.meter now.meter h.paid.charged)) h.fits,
)
  where
    ready : (stmt : Stmt) (left : List Stmt) → AreEvaluable (scope_of now.state) (stmt ∷ left) type → IsEvaluable (scope_of now.state) stmt
    ready stmt [] h = h.0
    ready (Bind name expr) (other ∷ left) h = h.3
    ready Empty (other ∷ left) h = absurd h
    ready (Show expr) (other ∷ left) h = absurd h
    ready (Assume set) (other ∷ left) h = absurd h

pub left_paid : {type : Option TypeView} (before now after : Moment) (done : List Stmt) (last : Stmt)
    → AreLeft before now done (last ∷ []) type
    → IsPaid (works now.state.assumed last) now.meter after.meter
    → IsPaid (list_any (works before.state.assumed) (done ++ last ∷ [])) before.meter after.meter
left_paid before now after done last h paid =
    paid_after (list_any (works before.state.assumed) (done ++ last ∷ [])) (list_any (works before.state.assumed) done)
    (works before.state.assumed last) before.meter now.meter after.meter
    (λ none. works_at before.state.assumed done last [] none) h.paid
    (subst (λ (a : Assumed). IsPaid (works a last) now.meter after.meter) (left_assumed before now h.others) paid)

-- one is not
pub left_stopped : {type : Option TypeView} (before now : Moment) (done : List Stmt) (stmt : Stmt) (left : List Stmt) (gauge : Gauge)
    (refusal : Refusal)
    → AreLeft before now done (stmt ∷ left) type → IsWhyEnded now stmt gauge refusal → IsWhyStopped before (done ++ stmt ∷ left) gauge refusal
left_stopped before now done stmt left gauge refusal h why =
    let assumed = before.state.assumed in
    unworked_after (list_any (works assumed) (done ++ stmt ∷ left)) (list_any (works assumed) done) (works assumed stmt) (StatementEnds now stmt)
    (λ end. StopsAt before (done ++ stmt ∷ left) (λ moment next. StatementEnds moment next end)) before.meter now.meter gauge refusal
    (λ none. works_at assumed done stmt left none) (λ end ends. (done, stmt, left, refl, (now, h.steps, ends))) h.paid
    (subst (λ (a : Assumed). IsWhyUnworked (works a stmt) (StatementEnds now stmt) now.meter gauge refusal)
    (left_assumed before now h.others) why)

-- the last has the type
pub last_typed : {type : Option TypeView} (before now : Moment) (done : List Stmt) (last : Stmt) → AreLeft before now done (last ∷ []) type
    → type_of_statement (scope_of now.state) last ≡ Ok type
last_typed before now done last h = h.ready.1

-- where there is one statement alone
pub turn_alone : {A : Type 0} (statements others : List Stmt) (last only : Stmt) (i : ℕ) → statements ≡ others ++ last ∷ []
    → statements ≡ only ∷ []
    → i < length others → A
turn_alone statements others last only i split is low =
    let none = (one_alone others last only (sym split ∙ is)).0 in
    let size = ap length none in
    absurd (omega (arith, low, size))

none_done : (before now : Moment) (done : List Stmt) → done ≡ [] → AreDone before done now → now ≡ before
unfolding AreDone
none_done before now done none steps = subst (λ (s : List Stmt). AreDone before s now) none steps

pub alone_settled : {type : Option TypeView} (before now : Moment) (statements others : List Stmt) (last only : Stmt) (after : StateView)
    → statements ≡ others ++ last ∷ []
    → statements ≡ only ∷ [] → AreLeft before now others (last ∷ []) type → binds_dollar only ≡ false → IsSettled before.state
    → (binds_dollar last ≡ false → IsSettled now.state → IsSettled after) → IsSettled after
alone_settled before now statements others last only after split is h plain settled ends =
    let alone = one_alone others last only (sym split ∙ is) in
    ends (ap binds_dollar alone.1 ∙ plain) (subst (λ (m : Moment). IsSettled m.state)
    (sym (none_done before now others alone.0 h.steps)) settled)

pub forgotten_alone : (state : StateView) (statements : List Stmt) → ((only : Stmt) → statements ≡ only ∷ [] → IsSettled state)
    → length statements ≡ 1 → state ≡ forgotten state
forgotten_alone state statements settled one =
    let only = one_of statements one in sym (forgotten_itself state (settled only.0 only.1))

-- the end of the loop
pub answered_last : {type : Option TypeView} (before now after : Moment) (statements others : List Stmt) (last : Stmt)
    (result : Result Answer Refusal)
    → statements ≡ others ++ last ∷ [] → AreLeft before now others (last ∷ []) type → IfOk result (Step now last after)
    → MatchResult result (λ _. IsPaid (works now.state.assumed last) now.meter after.meter) (λ _. IsKept now.meter after.meter)
    → IfOk result (Steps before statements after)
answered_last before now after statements others last (Ok answer) split h step paid =
    subst (λ (s : List Stmt). Steps before s after answer) (sym split) (last_done before now after others last answer h.steps step)
answered_last before now after statements others last (Err refusal) split h step paid = tt

pub paid_last : {type : Option TypeView} (before now after : Moment) (statements others : List Stmt) (last : Stmt)
    (result : Result Answer Refusal)
    → statements ≡ others ++ last ∷ [] → AreLeft before now others (last ∷ []) type
    → MatchResult result (λ _. IsPaid (works now.state.assumed last) now.meter after.meter) (λ _. IsKept now.meter after.meter)
    → MatchResult result (λ _. IsPaid (list_any (works before.state.assumed) statements) before.meter after.meter)
    (λ _. IsKept before.meter after.meter)
paid_last before now after statements others last (Ok answer) split h paid =
    subst (λ (s : List Stmt). IsPaid (list_any (works before.state.assumed) s) before.meter after.meter) (sym split)
    (left_paid before now after others last h paid)
paid_last before now after statements others last (Err refusal) split h kept =
    IsKept_trans before.meter now.meter after.meter (IsKept-charged before.meter now.meter h.paid.charged) kept

-- what answers with bytes binds nothing
does_show : (before : Moment) (stmt : Stmt) (after : Moment) (answer : Answer) → Does before stmt after answer → answer.bytes ≢ []
    → after.state ≡ before.state
does_show before Empty after answer does some = does.0
does_show before (Show expr) after answer does some = does.0
does_show before (Assume set) after answer does some = absurd (some (ap (λ (a : Answer). a.bytes) does.1))
does_show before (Bind name expr) after answer does some = absurd (some (ap (λ (a : Answer). a.bytes) does.1))

pub shown_last : {type : Option TypeView} (before now after : Moment) (others : List Stmt) (last : Stmt) (result : Result Answer Refusal)
    → AreLeft before now others (last ∷ []) type → IfOk result (Step now last after)
    → IfOk result (λ answer. answer.bytes ≢ [] → forgotten after.state ≡ forgotten before.state)
shown_last before now after others last (Ok answer) h step =
    λ some. ap forgotten (does_show now last after answer step.does some) ∙ h.others
shown_last before now after others last (Err refusal) h step = tt

pub stopped_last : {type : Option TypeView} (before now : Moment) (statements others : List Stmt) (last : Stmt) (gauge : Gauge)
    (result : Result Answer Refusal)
    → statements ≡ others ++ last ∷ [] → AreLeft before now others (last ∷ []) type → IfErr result (IsWhyEnded now last gauge)
    → IfErr result (IsWhyStopped before statements gauge)
stopped_last before now statements others last gauge (Ok answer) split h why = tt
stopped_last before now statements others last gauge (Err refusal) split h why =
    subst (λ (s : List Stmt). IsWhyStopped before s gauge refusal) (sym split) (left_stopped before now others last [] gauge refusal h why)

-- ---- a statement that was read
module _ {type : Option TypeView} (before : Moment) (bytes : List ℕ) (stmt : Stmt) (found : IsClearStatement before bytes stmt type)
    (asked : IsAssumedWhereNeeded before stmt) where
  abbrev At : Assumed
  At = before.state.assumed

  idle : works At stmt ≡ false → list_any (works At) (flat stmt) ≡ false
  idle none = list_any_none (works At) (flat stmt) (parts_kept (uses_units At) (λ n. refl) stmt none)

  -- it is answered
  pub answered : (now : Moment) (after : Moment) (answer : Answer) → Steps before (flat stmt) now answer
      → IsPaid (list_any (works At) (flat stmt)) before.meter now.meter → now.options ≡ before.options → after ≡ behind now
      → Answers before bytes after answer
  answered now after answer steps paid same is =
      let meter : after.meter ≡ now.meter = ap (λ (m : Moment). m.meter) is in
      record {
        clear = clear before bytes stmt found.read found.able;
        stmt = stmt;
        spelled = found.read.spelled;
        asked = asked;
        performed = (now, steps, is);
        meter = subst (IsCharged before.meter) (sym meter) paid.charged;
        options = ap (λ (m : Moment). m.options) is ∙ same;
        units = λ none. ap (λ (g : Gauge). g.units) (meter ∙ paid.free (idle (false_from_ne_true (works At stmt) none)));
      }

  -- the evaluation of one of its simple statements ends so
  abbrev EndsAt : End → Type 0
  EndsAt why = StopsAt before (flat stmt) (λ moment next. StatementEnds moment next why)

  -- nothing that is asked first ends it
  asked_goes : (reason : Reason) → ¬ AskedEnds before stmt (because reason)
  asked_goes too_wide ends = ends
  asked_goes no_minimum ends = ends
  asked_goes nested ends = ends
  asked_goes time_shapes ends = ends
  asked_goes unbounded ends = ends
  asked_goes several_times ends = ends
  asked_goes no_valuation ends = ends
  asked_goes not_assumed ends = ends.1 (asked ends.0)

  -- its evaluation ends so
  ended_in : (why : End) → EndsAt why → IsEnded before bytes why
  ended_in why h = (
    stmt,
    found.read.spelled,
    inr (asked_goes, record { done = h.0; next = h.1; later = h.2; split = h.3; now = h.4.0; steps = h.4.1; stops = h.4.2 }),
  )

  -- its work is cut, where nothing ends its evaluation before
  cut_refuses : (now : Gauge) (what : Cut) → IsCutBy before.meter now what → (what ≡ cuts.NoMemory) ⊎ EndsAt ends.cut
      → (list_any (works At) (flat stmt) ≡ false → (what ≡ cuts.NoMemory) × (now ≡ before.meter))
      → Refuses before bytes now (refusal_of_cut what)
  cut_refuses now cuts.Overflow by (inl memory) free = absurd (let no : ⊥ = cc in no)
  cut_refuses now cuts.Overflow by (inr there) free = (
    clear before bytes stmt found.read found.able,
    has_work At bytes stmt found.read.spelled (λ none. let bad : cuts.Overflow ≡ cuts.NoMemory = (free (idle none)).0 in absurd
        (let no : ⊥ = cc in no)),
    ended_in ends.cut there,
    by,
  )
  cut_refuses now cuts.Budget by (inl memory) free = absurd (let no : ⊥ = cc in no)
  cut_refuses now cuts.Budget by (inr there) free = (
    clear before bytes stmt found.read found.able,
    has_work At bytes stmt found.read.spelled (λ none. let bad : cuts.Budget ≡ cuts.NoMemory = (free (idle none)).0 in absurd
        (let no : ⊥ = cc in no)),
    ended_in ends.cut there,
    by,
  )
  cut_refuses now cuts.NoMemory by there free = (by.cause, λ none. (free (idle (no_work At bytes stmt found.read.spelled none))).1)

  -- it is not
  reason_refuses : (now : Gauge) (reason : Reason) → EndsAt (because reason) → IsPaid (list_any (works At) (flat stmt)) before.meter now
      → RefusesBecause before bytes now reason
  reason_refuses now reason stops paid = (
    clear before bytes stmt found.read found.able,
    ended_in (because reason) stops,
    paid.charged,
    (λ none. paid.free (idle (no_work At bytes stmt found.read.spelled none))),
  )

  end_refuses : (now : Gauge) (reason : Reason) → EndsAt (because reason) → IsPaid (list_any (works At) (flat stmt)) before.meter now
      → Refuses before bytes now (refusal_of_reason reason)
  end_refuses now too_wide stops paid = inr (reason_refuses now too_wide stops paid)
  end_refuses now no_minimum stops paid = reason_refuses now no_minimum stops paid
  end_refuses now nested stops paid = reason_refuses now nested stops paid
  end_refuses now time_shapes stops paid = reason_refuses now time_shapes stops paid
  end_refuses now unbounded stops paid = reason_refuses now unbounded stops paid
  end_refuses now several_times stops paid = reason_refuses now several_times stops paid
  end_refuses now no_valuation stops paid = reason_refuses now no_valuation stops paid
  end_refuses now not_assumed stops paid = absurd (statement_asks stops.4.0 stops.1 stops.4.2)

  pub stopped_refuses : (now : Gauge) (refusal : Refusal) → IsWhyStopped before (flat stmt) now refusal → Refuses before bytes now refusal
  stopped_refuses now refusal (inl why) =
      subst (Refuses before bytes now) (sym why.is) (cut_refuses now why.cut why.by why.there why.free)
  stopped_refuses now refusal (inr why) = subst (Refuses before bytes now) (sym why.1) (end_refuses now why.0 why.2 why.3)

pub kept_limit : (g h : Gauge) → IsKept g h → limit_of h ≡ limit_of g
kept_limit g h kept = ap (λ (bits : ℕ). pos (2 ^ bits - 1)) kept.bits

-- ---- the loop
drop_head : (xs : List Stmt) (i : ℕ) (x : Stmt) → i < length xs → x ≡ get_or xs i x → drop i xs ≡ x ∷ drop (i + 1) xs
drop_head [] i x low is = absurd (omega (arith, low))
drop_head (y ∷ xs) zero x low is = ap (λ (z : Stmt). z ∷ xs) (sym is)
drop_head (y ∷ xs) (suc i) x low is =
    drop_head xs i x (omega (arith, low)) is ∙ ap (λ (n : ℕ). x ∷ drop n (y ∷ xs)) (next i)
  where
    next : (n : ℕ) → suc (n + 1) ≡ suc n + 1
    next n = omega arith

pub loop_first : {type : Option TypeView} (before now : Moment) (done others : List Stmt) (last stmt : Stmt) (i : ℕ) → i < length others
    → stmt ≡ get_or others i stmt
    → AreLeft before now done (drop i others ++ last ∷ []) type → AreLeft before now done (stmt ∷ (drop (i + 1) others ++ last ∷ [])) type
loop_first {type} before now done others last stmt i low is h =
    subst (λ (s : List Stmt). AreLeft before now done (s ++ last ∷ []) type) (drop_head others i stmt low is) h

next_left : {type : Option TypeView} (before now next : Moment) (done : List Stmt) (stmt : Stmt) (rest : List Stmt) (last : Stmt)
    (answer : Answer)
    → AreLeft before now done (stmt ∷ (rest ++ last ∷ [])) type → Step now stmt next answer
    → IsPaid (works now.state.assumed stmt) now.meter next.meter
    → ((name : List ℕ) (expr : Expr) → stmt ≡ Bind name expr → is_dollar name ≡ true → forgotten next.state ≡ forgotten now.state)
    → Fits (limit_of now.meter) next.state → AreLeft before next (done ++ stmt ∷ []) (rest ++ last ∷ []) type × (answer ≡ nothing)
next_left before now next done stmt [] last answer h step paid dollar fits =
    left_next before now next done stmt last [] answer h step paid dollar fits
next_left before now next done stmt (other ∷ rest) last answer h step paid dollar fits =
    left_next before now next done stmt other (rest ++ last ∷ []) answer h step paid dollar fits

-- one turn
pub loop_next : {type : Option TypeView} (before now next : Moment) (others : List Stmt) (last stmt : Stmt) (i : ℕ) (answer : Answer)
    → i < length others → stmt ≡ get_or others i stmt → AreLeft before now (take i others) (drop i others ++ last ∷ []) type
    → Step now stmt next answer
    → IsPaid (works now.state.assumed stmt) now.meter next.meter
    → ((name : List ℕ) (expr : Expr) → stmt ≡ Bind name expr → is_dollar name ≡ true → forgotten next.state ≡ forgotten now.state)
    → Fits (limit_of now.meter) next.state → AreLeft before next (take (i + 1) others) (drop (i + 1) others ++ last ∷ []) type
loop_next {type} before now next others last stmt i answer low is h step paid dollar fits =
    let first = loop_first before now (take i others) others last stmt i low is h in
    let then = next_left before now next (take i others) stmt (drop (i + 1) others) last answer first step paid dollar fits in
    let taken : take i others ++ stmt ∷ [] ≡ take (i + 1) others =
    ap (λ (s : Stmt). take i others ++ s ∷ []) is ∙ sym (take_more others i stmt low) in
    subst (λ (done : List Stmt). AreLeft before next done (drop (i + 1) others ++ last ∷ []) type) taken then.0

-- a turn that ends
pub loop_stopped : {type : Option TypeView} (before now : Moment) (statements others : List Stmt) (last stmt : Stmt) (i : ℕ)
    (gauge : Gauge) (refusal : Refusal)
    → statements ≡ others ++ last ∷ [] → i < length others → stmt ≡ get_or others i stmt
    → AreLeft before now (take i others) (drop i others ++ last ∷ []) type → IsWhyEnded now stmt gauge refusal
    → IsWhyStopped before statements gauge refusal
loop_stopped before now statements others last stmt i gauge refusal split low is h why =
    let first = loop_first before now (take i others) others last stmt i low is h in
    let all : take i others ++ stmt ∷ (drop (i + 1) others ++ last ∷ []) ≡ statements =
    ap (λ (s : List Stmt). take i others ++ (s ++ last ∷ [])) (sym (drop_head others i stmt low is))
    ∙ sym (append_assoc (take i others) (drop i others) (last ∷ [])) ∙ ap (λ (s : List Stmt). s ++ last ∷ []) (take-append-drop i others)
    ∙ sym split in
    subst (λ (s : List Stmt). IsWhyStopped before s gauge refusal) all
    (left_stopped before now (take i others) stmt (drop (i + 1) others ++ last ∷ []) gauge refusal first why)

-- the last
pub loop_last : {type : Option TypeView} (before now : Moment) (others : List Stmt) (last : Stmt) (i : ℕ) → i ≡ length others
    → AreLeft before now (take i others) (drop i others ++ last ∷ []) type → AreLeft before now others (last ∷ []) type
loop_last {type} before now others last i end h =
    subst (λ (done : List Stmt). AreLeft before now done (last ∷ []) type) (ap (λ (n : ℕ). take n others) end ∙ take-length others)
    (subst (λ (left : List Stmt). AreLeft before now (take i others) (left ++ last ∷ []) type) (ap (λ (n : ℕ). drop n others) end
    ∙ drop-length others) h)

-- where elements are listed or loops run, the numbers are assumed when the statements before are done
asked_here : (before now : Moment) (stmt : Stmt) → forgotten now.state ≡ forgotten before.state → now.options ≡ before.options
    → IsAssumedWhereNeeded before stmt → IsAssumedWhereNeeded now stmt
asked_here before now stmt others options asked = λ needed.
    subst (λ (a : Assumed). Assumes a now.options.at) (sym (left_assumed before now others))
    (subst (λ (o : OptionsView). Assumes before.state.assumed o.at) (sym options)
    (asked (ap (λ (o : OptionsView). needs_numbers o.run stmt) (sym options) ∙ needed)))

pub asked_next : {type : Option TypeView} (before now : Moment) (statements others done left : List Stmt) (last stmt : Stmt) (i : ℕ)
    → statements ≡ others ++ last ∷ [] → i < length others → stmt ≡ get_or others i stmt → All (IsAssumedWhereNeeded before) statements
    → AreLeft before now done left type → IsAssumedWhereNeeded now stmt
asked_next before now statements others done left last stmt i split low is all h =
    let within : i < length (others ++ last ∷ []) = (let e = length-append others (last ∷ []) in omega arith) in
    asked_here before now stmt h.others h.options
    (subst (IsAssumedWhereNeeded before) (get_or_append_left others (last ∷ []) stmt i low ∙ sym is)
    (subst (All (IsAssumedWhereNeeded before)) split all i stmt within))

asked_end : (before : Moment) (others : List Stmt) (last : Stmt) → All (IsAssumedWhereNeeded before) (others ++ last ∷ [])
    → IsAssumedWhereNeeded before last
asked_end before [] last all = All-head (IsAssumedWhereNeeded before) last [] all
asked_end before (stmt ∷ others) last all =
    asked_end before others last (All-tail (IsAssumedWhereNeeded before) stmt (others ++ last ∷ []) all)

pub asked_last : {type : Option TypeView} (before now : Moment) (statements others done left : List Stmt) (last : Stmt)
    → statements ≡ others ++ last ∷ []
    → All (IsAssumedWhereNeeded before) statements → AreLeft before now done left type → IsAssumedWhereNeeded now last
asked_last before now statements others done left last split all h =
    asked_here before now last h.others h.options (asked_end before others last (subst (All (IsAssumedWhereNeeded before)) split all))

-- what is bound at the end is within the limit
pub fits_last : {type : Option TypeView} (before now : Moment) (others : List Stmt) (last : Stmt) (after : StateView)
    (result : Result Answer Refusal)
    → AreLeft before now others (last ∷ []) type → OnOk result (Fits (limit_of now.meter) after)
    → OnOk result (Fits (limit_of before.meter) after)
fits_last before now others last after (Ok answer) h fits =
    subst (λ (z : ℤ). Fits z after) (same_limit before.meter now.meter h.paid.charged) fits
fits_last before now others last after (Err refusal) h fits = tt

-- ---- the answer of the bytes
-- what a statement leaves
pub record IsAnswered (before : Moment) (bytes : List ℕ) (meter : Gauge) (after : StateView) (result : Result Answer Refusal) : Type 0 where
  pub fits : Fits (limit_of meter) after
  pub settled : IsSettled after
  pub ok : IfOk result (Answers before bytes (record { state = after; meter = meter; options = before.options }))
  pub err : OnErr result (after ≡ before.state)
  pub shown : IfOk result (λ answer. answer.bytes ≢ [] → after ≡ before.state)
  pub cause : IfErr result (Refuses before bytes meter)
  pub charged : MatchResult result (λ _. IsCharged before.meter meter) (λ _. IsKept before.meter meter)

module _ {type : Option TypeView} (before : Moment) (bytes : List ℕ) (statements : List Stmt) (taken : IsTaken before bytes statements type)
    (settled : IsSettled before.state) (fits : Fits (limit_of before.meter) before.state) (state after : StateView) (meter : Gauge)
    (is : after ≡ forgotten state) where
  abbrev now : Moment
  now = record { state = state; meter = meter; options = before.options }

  unchanged : forgotten state ≡ forgotten before.state → after ≡ before.state
  unchanged others = is ∙ others ∙ forgotten_itself before.state settled

  forgets : IsSettled after
  forgets = subst IsSettled (sym is) (forgotten_settled state)

  pub finished : (result : Result Answer Refusal) → IfOk result (Steps before statements now)
      → OnErr result (forgotten state ≡ forgotten before.state)
      → IfOk result (λ answer. answer.bytes ≢ [] → forgotten state ≡ forgotten before.state)
      → IfErr result (IsWhyStopped before statements meter)
      → MatchResult result (λ _. IsPaid (list_any (works before.state.assumed) statements) before.meter meter) (λ _. IsKept before.meter meter)
      → OnOk result (Fits (limit_of before.meter) state) → IsAnswered before bytes meter after result
  finished (Ok answer) steps same shown why paid fit = record {
    fits = subst (λ (z : ℤ). Fits z after) (sym (same_limit before.meter meter paid.charged))
        (subst (Fits (limit_of before.meter)) (sym is) (fits_forgotten (limit_of before.meter) state fit));
    settled = forgets;
    ok = answered before bytes taken.stmt taken.clear taken.asked now (record { state = after; meter = meter; options = before.options }) answer
        (subst (λ (s : List Stmt). Steps before s now answer) taken.simple steps)
        (subst (λ (s : List Stmt). IsPaid (list_any (works before.state.assumed) s) before.meter meter) taken.simple paid) refl
        (ap (λ (s : StateView). record { state = s; meter = meter; options = before.options }) is);
    err = tt;
    shown = λ some. unchanged (shown some);
    cause = tt;
    charged = paid.charged;
  }
  finished (Err refusal) steps same shown why kept fit = record {
    fits = subst (λ (z : ℤ). Fits z after) (sym (kept_limit before.meter meter kept))
        (subst (Fits (limit_of before.meter)) (sym (unchanged same)) fits);
    settled = forgets;
    ok = tt;
    err = unchanged same;
    shown = tt;
    cause = stopped_refuses before bytes taken.stmt taken.clear taken.asked meter refusal
        (subst (λ (s : List Stmt). IsWhyStopped before s meter refusal) taken.simple why);
    charged = kept;
  }
