-- Loops that visit what an operand selects.
use Rattle.std.proofs.Common.{◌≡◌, ◌∙◌, ◌↔◌, inl, inr, refl, sym, ap, ap₂, subst, Bool, true, List, ℕ, length, Result, Ok, Err}
use Rattle.std.specs.Prelude.{MatchResult}
use Rattle.isl_meter.specs.Gauge.{Gauge, IsCharged}
use Rattle.isl_meter.proofs.CutLemmas.{IsCharged_refl, IsCharged_trans}
use Rattle.isl_space.specs.Element.{Element}
use Rattle.isl_space.specs.Name.{Name}
use Rattle.isl_space.specs.Valuation.{Valuation, values_of}
use Rattle.isl_words.specs.Options.{OptionsView}
use Rattle.isl_loop.specs.declared.tree.Loop.{Loop}
use Rattle.isl_loop.specs.Formed.{IsLoopOver}
use Rattle.isl_loop.specs.Good.{AreGood}
use Rattle.isl_loop.specs.Program.{IsProgram}
use Rattle.isl_loop.specs.Run.{trace}
use Rattle.isl_loop.proofs.LimitLaws.{IsLoopOver-same}
use Rattle.isl_schedule.specs.Refused.{IsRefused}
use Rattle.isl_schedule.specs.declared.fault.GenFault.{GenFault}
use Rattle.isl_schedule.specs.declared.fault.GenFault.TheVariants as gen_fault
use Rattle.isl_schedule.specs.Due.{IsDue}
use Rattle.isl_refusal.specs.declared.refusal.Refusal.{Refusal}
use Rattle.isl_union.specs.KeptValue.{KeptValue, Has, IsKeptValue}
use Rattle.isl_assumed.specs.declared.assumed.Assumed.{Assumed}
use Rattle.isl_assumed.specs.declared.assumed.Assumed.TheVariants.{Nothing, Where}
use Rattle.isl_assumed.specs.Assumed.{Assumes}
use Rattle.isl_tree.specs.declared.statement.Prefix.{Prefix as Word}
use Rattle.isl_tree.specs.declared.statement.Prefix.TheVariants as p
use Rattle.isl_tree.specs.declared.statement.Expr.{Expr}
use Rattle.isl_tree.specs.declared.statement.Expr.TheBlock.{hidden-the_row-Expr-0}
use Rattle.isl_tree.specs.declared.statement.Expr as e
use Rattle.isl_tree.specs.declared.statement.Stmt.TheVariants.{Show}
use Rattle.isl_kinds.specs.Typed.{declared_of}
use Rattle.isl_values.specs.Live.{IsUnderOf}
use Rattle.isl_values.specs.State.{Moment, StateView, scope_of}
use Rattle.isl_values.specs.Made.{IsPaid, IsWhyUnmade, IsWhyUnworked}
use Rattle.isl_values.specs.Three.{IsFlatAt}
use Rattle.isl_state.specs.declared.list.ListPart.TheVariants.{First}
use Rattle.isl_values.specs.Selection.{Selects}
use Rattle.isl_values.specs.Ends.{because, cut, CutAlone, CutUnder, End, Ends, GoesOn, nested, time_shapes, unbounded, several_times}
use Rattle.isl_outcome.proofs.FirstLaws.{EndAlike, goes_alike, goes_both}
use Rattle.isl_values.proofs.UnderLaws.{has_same}
use Rattle.isl_values.proofs.ValueLaws.{paid_works}
use Rattle.isl_eval.specs.Coded.{AtAssumedNumbers, GenerationEnds, IsCodeOf, code_text}
use Rattle.isl_eval.specs.Machine.{Answer, Shows, coded}
use Rattle.isl_eval.specs.Ended.{StatementEnds}
use Rattle.isl_eval.specs.Evaluation.{refusal_of_generation, EndsGeneration, IsCodeOfValue, IsOutcome, IsTreeOf}
use Rattle.isl_eval.proofs.ShownLaws.{at_word}
use Rattle.isl_eval.proofs.TestLaws.{unmade_by, unworked_on}
use Rattle.isl_eval.proofs.VisitLaws.{a_pair, generation_alike, good_alike, no_pair, one_form, several_forms}

-- ---- a value without loops
pub generation_refused : (value : KeptValue) (kept : IsKeptValue value) (g h : Gauge) (fault : GenFault) (refusal : Refusal)
    → refusal ≡ refusal_of_generation fault → IsRefused value g h fault → IsWhyUnworked true (GenerationEnds (Has value)) g h refusal
generation_refused value kept g h gen_fault.Nested refusal is why =
    inr (nested, is, a_pair value kept why.0, paid_works g h (IsCharged_refl g h why.1))
generation_refused value kept g h gen_fault.TimeShape refusal is why =
    inr (time_shapes, is, (no_pair value why.0, several_forms value kept why.1), paid_works g h (IsCharged_refl g h why.2))
generation_refused value kept g h gen_fault.Unbounded refusal is why =
    inr (unbounded, is, (no_pair value why.0, one_form value why.1, why.2), paid_works g h why.3)
generation_refused value kept g h gen_fault.SeveralTimes refusal is why =
    inr (several_times, is, (no_pair value why.0, one_form value why.1, why.2, why.3), paid_works g h why.4)
generation_refused value kept g h (gen_fault.Cut what) refusal is why =
    inl (unmade_by (GenerationEnds (Has value)) g g h what refusal (IsCharged_refl g g refl) why.2 is (inr tt))

-- ---- the operand under what is assumed
module _ (state : StateView) (names : List Name) (P : Valuation → Element → Type 0) (value : KeptValue) (are : value.params ≡ names)
    (has : (v : Valuation) → Assumes state.assumed v → (x : Element) → Has value v x ↔ P v x) where
  abbrev There : Valuation → Element → Type 0
  There = AtAssumedNumbers state names P

  abbrev Is : Valuation → Element → Type 0
  Is v x = (other : Valuation) × (values_of value.params other ≡ values_of value.params v) × Assumes state.assumed other × Has value other x

  selected_there : (v : Valuation) (x : Element) → Is v x ↔ There v x
  selected_there v x = (
    (λ h. (h.0, subst (λ (ns : List Name). values_of ns h.0 ≡ values_of ns v) are h.1, h.2, (has h.0 h.2 x).0 h.3)),
    (λ h. (h.0, subst (λ (ns : List Name). values_of ns h.0 ≡ values_of ns v) (sym are) h.1, h.2, (has h.0 h.2 x).1 h.3)),
  )

  under_is : (under : KeptValue) → IsUnderOf state.assumed value.params value under → (v : Valuation) (x : Element) → Has under v x ↔ Is v x
  under_is under is v x = by state.assumed is
    where
      by : (a : Assumed) → IsUnderOf a value.params value under
          → Has under v x ↔ ((other : Valuation) × (values_of value.params other ≡ values_of value.params v) × Assumes a other × Has value other x)
      by Nothing same = (
        (λ h. (v, refl, tt, subst (λ (k : KeptValue). Has k v x) same h)),
        (λ h. subst (λ (k : KeptValue). Has k v x) (sym same) (has_same value v h.0 h.1 x h.3)),
      )
      by (Where region) over = (
        (λ h. let both = (over.elements v x).0 h in (both.1.0, both.1.1, both.1.2, has_same value both.1.0 v (sym both.1.1) x both.0)),
        (λ h. (over.elements v x).1 (has_same value v h.0 h.1 x h.3, (h.0, h.1, h.2))),
      )

  pub under_there : (under : KeptValue) → IsUnderOf state.assumed value.params value under
      → (v : Valuation) (x : Element) → Has under v x ↔ There v x
  under_there under is v x =
      let one = under_is under is v x in
      let two = selected_there v x in ((λ h. two.0 (one.0 h)), (λ h. one.1 (two.1 h)))

  pub under_named : (under : KeptValue) → IsUnderOf state.assumed value.params value under → under.params ≡ names
  under_named under is = by state.assumed is ∙ are
    where
      by : (a : Assumed) → IsUnderOf a value.params value under → under.params ≡ value.params
      by Nothing same = ap (λ (k : KeptValue). k.params) same
      by (Where region) over = over.params

  -- at an assumed valuation it has what the operand selects
  under_here : (under : KeptValue) → IsUnderOf state.assumed value.params value under → (v : Valuation) → Assumes state.assumed v
      → (x : Element) → Has under v x ↔ P v x
  under_here under is v here x =
      let at = under_is under is v x in (
        (λ h. let other = at.0 h in (has v here x).0 (has_same value v other.0 other.1 x other.3)),
        (λ h. at.1 (v, refl, here, (has v here x).1 h)),
      )

  -- what is answered of loops of the one is so of the other
  pub code_there : (g h : Gauge) (options : OptionsView) (under : KeptValue) (text : List ℕ)
      → IsUnderOf state.assumed value.params value under → IsCharged g h → IsCodeOfValue h options under text
      → IsCodeOf state g options names P text
  code_there g h options under text is charged code =
      let named = under_named under is in
      let tree = code.0 in (
        tree,
        IsLoopOver-same h g (length names) tree (sym (ap (λ (k : Gauge). k.bits) charged.same))
            (subst (λ (ns : List Name). IsLoopOver h (length ns) tree) named code.1.0),
        subst (λ (ns : List Name). IsProgram ns tree) named code.1.1,
        (λ v here. subst (λ (ns : List Name). AreGood (λ event time. IsDue (P v) (time, event)) (trace tree (values_of ns v))) named
            (good_alike (Has under v) (P v) (trace tree (values_of under.params v)) (under_here under is v here) (code.1.2 v))),
        code.2 ∙ ap (λ (ns : List Name). code_text options ns tree) named,
      )

-- ---- loops of a value
-- while units are used
pub tree_later : (g h : Gauge) (value : KeptValue) (tree t : Loop) (names : List Name) → IsCharged g h → t ≡ tree → names ≡ value.params
    → IsTreeOf g value tree → IsLoopOver h (length names) t
tree_later g h value tree t names charged same are is =
    subst (λ (ns : List Name). IsLoopOver h (length ns) t) (sym are)
    (subst (IsLoopOver h (length value.params)) (sym same)
    (IsLoopOver-same g h (length value.params) tree (ap (λ (k : Gauge). k.bits) charged.same) is.0))

generation_cut : (P : Valuation → Element → Type 0) (why : End) → CutAlone why → GenerationEnds P why
generation_cut P (because reason) none = absurd none
generation_cut P cut free = tt

-- the text of a tree
pub code_written : {A : Type 0} (view : A → List ℕ) (result : Result A Refusal) (options : OptionsView) (value : KeptValue) (tree t : Loop)
    (names : List Name) (g h k : Gauge) → t ≡ tree → names ≡ value.params → IsTreeOf g value tree
    → GoesOn (GenerationEnds (Has value)) → IsCharged g h
    → MatchResult result (λ text. (view text ≡ code_text options names t) × IsCharged h k) (IsWhyUnmade true CutAlone h k)
    → IsOutcome true (GenerationEnds (Has value)) g k (λ text. IsCodeOfValue g options value (view text)) result
code_written view (Ok text) options value tree t names g h k same are is goes charged made = (
  (tree, is, made.0 ∙ ap₂ (code_text options) are same),
  paid_works g k (IsCharged_trans g h k charged made.1),
  goes,
)
code_written view (Err refusal) options value tree t names g h k same are is goes charged why =
    unworked_on true CutAlone (GenerationEnds (Has value)) g h k refusal (generation_cut (Has value)) charged (inl why)

-- ---- the operand, and then its loops
module _ (state : StateView) (operand : Expr) (goes : GoesOn (Ends state operand)) where
  abbrev Names : List Name
  Names = declared_of (scope_of state) operand

  abbrev Behind : End → Type 0
  Behind = GenerationEnds (AtAssumedNumbers state Names (Selects state operand))

  narrowing_cut : (why : End) → CutUnder state why → EndsGeneration state operand why
  narrowing_cut (because reason) none = absurd none
  narrowing_cut cut free = inr (goes, tt)

  -- putting it under what is assumed is cut
  pub under_cut : (works : Bool) (g h k : Gauge) (refusal : Refusal) → IsCharged g h → IsWhyUnmade works (CutUnder state) h k refusal
      → IsWhyUnworked true (EndsGeneration state operand) g k refusal
  under_cut works g h k refusal charged why =
      unworked_on works (CutUnder state) (EndsGeneration state operand) g h k refusal narrowing_cut charged (inl why)

  module _ (limit : ℕ) (value under u : KeptValue) (at : IsFlatAt state First operand limit value)
      (put : IsUnderOf state.assumed value.params value under) (same : u ≡ under) where
    here : (v : Valuation) (x : Element) → Has u v x ↔ AtAssumedNumbers state Names (Selects state operand) v x
    here v x =
        subst (λ (k : KeptValue). Has k v x ↔ AtAssumedNumbers state Names (Selects state operand) v x) (sym same)
        (under_there state Names (Selects state operand) value at.params at.elements under put v x)

    alike : EndAlike (GenerationEnds (Has u)) Behind
    alike = generation_alike (Has u) (AtAssumedNumbers state Names (Selects state operand)) here

    -- what is answered of the one is answered of the operand
    pub code_shown : (g h k : Gauge) (options : OptionsView) (text written : List ℕ) (answer : Answer) → IsCharged g h → IsPaid true h k
        → GoesOn (GenerationEnds (Has u)) → IsCodeOfValue h options u text → written ≡ text → answer ≡ coded written
        → ((found : List ℕ) × IsCodeOf state g options Names (Selects state operand) found × (answer ≡ coded found))
        × IsPaid true g k × GoesOn (EndsGeneration state operand)
    code_shown g h k options text written answer charged paid on code is line = (
      (
        text,
        code_there state Names (Selects state operand) value at.params at.elements g h options under text put charged
            (subst (λ (w : KeptValue). IsCodeOfValue h options w text) same code),
        line ∙ ap coded is,
      ),
      paid_works g k (IsCharged_trans g h k charged paid.charged),
      goes_both (Ends state operand) Behind goes (goes_alike (GenerationEnds (Has u)) Behind alike on),
    )

    pub code_failed : (g h k : Gauge) (refusal : Refusal) → IsCharged g h → IsWhyUnworked true (GenerationEnds (Has u)) h k refusal
        → IsWhyUnworked true (EndsGeneration state operand) g k refusal
    code_failed g h k refusal charged why =
        unworked_on true (GenerationEnds (Has u)) (EndsGeneration state operand) g h k refusal
        (λ end ends. inr (goes, (alike end).0 ends)) charged why

-- ---- at the constructors of the code
Loops : Moment → Expr → Answer → Type 0
Loops before operand answer =
    (text : List ℕ)
    × IsCodeOf before.state before.meter before.options (declared_of (scope_of before.state) operand) (Selects before.state operand) text
    × (answer ≡ coded text)

shows_of-Codegen : (before : Moment) (operand : Expr) (answer : Answer) → Loops before operand answer
    → Shows before (e.Prefix p.Codegen operand) answer
unfolding Loops hidden-the_row-Expr-0 denote.Hole.Carrier.hidden
shows_of-Codegen before operand answer h = h

ends_of-Codegen : (before : Moment) (operand : Expr)
    → EndAlike (EndsGeneration before.state operand) (StatementEnds before (Show (e.Prefix p.Codegen operand)))
unfolding hidden-the_row-Expr-0 denote.Hole.Carrier.hidden
ends_of-Codegen before operand why = ((λ h. h), (λ h. h))

module _ (before : Moment) (expr operand x : Expr) (word : Word) (is : expr ≡ e.Prefix word operand) (which : word ≡ p.Codegen)
    (same : x ≡ operand) where
  codegen_is : expr ≡ e.Prefix p.Codegen x
  codegen_is = at_word p.Codegen word expr operand x is which same

  pub codegen_shows : (answer : Answer)
      → (text : List ℕ)
      × IsCodeOf before.state before.meter before.options (declared_of (scope_of before.state) x) (Selects before.state x) text
      × (answer ≡ coded text)
      → Shows before expr answer
  unfolding Loops
  codegen_shows answer h = subst (λ (y : Expr). Shows before y answer) (sym codegen_is) (shows_of-Codegen before x answer h)

  pub codegen_ends : EndAlike (EndsGeneration before.state x) (StatementEnds before (Show expr))
  codegen_ends =
      subst (λ (y : Expr). EndAlike (EndsGeneration before.state x) (StatementEnds before (Show y))) (sym codegen_is)
      (ends_of-Codegen before x)
