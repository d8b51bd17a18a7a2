-- Trees of the least images of what an operand selects.
use Rattle.std.proofs.Common.{◌≡◌, ◌↔◌, inl, inr, refl, sym, subst, arith, ℕ, Bool, true, List, []}
use Rattle.isl_meter.specs.Gauge.{Gauge, IsCharged}
use Rattle.isl_meter.proofs.CutLemmas.{IsCharged_refl, IsCharged_trans}
use Rattle.isl_space.specs.Element.{Element}
use Rattle.isl_space.specs.Name.{Name}
use Rattle.isl_space.specs.Valuation.{Valuation}
use Rattle.isl_refusal.specs.declared.refusal.Refusal.{Refusal}
use Rattle.isl_union.specs.KeptValue.{KeptValue, Has, IsKeptValue}
use Rattle.isl_relation.specs.Extremes.{HasFirst, HasFirstEverywhere}
use Rattle.isl_relation.specs.Orders.{ComesBefore}
use Rattle.isl_quast.specs.ForestText.{ForestView, forest_text}
use Rattle.isl_greatest.specs.Fault.{IsPipFault}
use Rattle.isl_greatest.specs.declared.fault.PipFault.{PipFault}
use Rattle.isl_greatest.specs.declared.fault.PipFault.TheVariants as pip_fault
use Rattle.isl_pip.specs.Least.{IsForestOf}
use Rattle.isl_tree.specs.declared.statement.Prefix.{Prefix as Word}
use Rattle.isl_tree.specs.declared.statement.Prefix.TheVariants as p
use Rattle.isl_tree.specs.declared.statement.Expr.{Expr}
use Rattle.isl_tree.specs.declared.statement.Expr.TheBlock.{hidden-the_row-Expr-0}
use Rattle.isl_tree.specs.declared.statement.Expr as e
use Rattle.isl_tree.specs.declared.statement.Stmt.TheVariants.{Show}
use Rattle.isl_kinds.specs.Typed.{declared_of}
use Rattle.isl_state.specs.declared.list.ListPart.TheVariants.{First}
use Rattle.isl_operators.specs.Formed.{FormsWide, WordForms}
use Rattle.isl_operators.specs.Operations.{WordMisses}
use Rattle.isl_values.specs.Live.{IsUnderOf}
use Rattle.isl_values.specs.State.{AtAssumed, Moment, StateView, scope_of}
use Rattle.isl_values.specs.Made.{IsPaid, IsWhyUnmade, IsWhyUnworked}
use Rattle.isl_values.specs.Three.{IsFlatAt}
use Rattle.isl_values.specs.Selection.{Selects}
use Rattle.isl_values.specs.Ends.{because, cut, too_wide, no_minimum, nested, time_shapes, unbounded, several_times, no_valuation, not_assumed}
use Rattle.isl_values.specs.Ends.{CutUnder, End, Ends, GoesOn, WordEnds}
use Rattle.isl_outcome.proofs.FirstLaws.{EndAlike, alike_trans, goes_alike, goes_both, operation_alike}
use Rattle.isl_values.proofs.AskedLaws.{asked_alike}
use Rattle.isl_values.proofs.SameLaws.{has_first}
use Rattle.isl_values.proofs.ValueLaws.{paid_works}
use Rattle.isl_eval.specs.Trees.{IsTextOfTrees}
use Rattle.isl_eval.specs.Machine.{Answer, Shows, coded}
use Rattle.isl_eval.specs.Ended.{StatementEnds}
use Rattle.isl_eval.specs.Evaluation.{refusal_of_trees, EndsTrees}
use Rattle.isl_eval.proofs.CodedLaws.{under_named, under_there}
use Rattle.isl_eval.proofs.ShownLaws.{at_word}
use Rattle.isl_eval.proofs.TestLaws.{unmade_by, unworked_on}

-- ---- a value without a least element
pub trees_refused : (value : KeptValue) (g h : Gauge) (fault : PipFault) (refusal : Refusal) → refusal ≡ refusal_of_trees fault
    → IsPipFault (¬ HasFirstEverywhere ComesBefore value) g h fault → IsWhyUnworked true (WordEnds p.LexMin (Has value)) g h refusal
trees_refused value g h pip_fault.NoMinimum refusal is why =
    inr (no_minimum, is, (omega arith, (λ wide. wide.3), why.0), paid_works g h why.1)
trees_refused value g h (pip_fault.Cut what) refusal is why =
    inl (unmade_by (WordEnds p.LexMin (Has value)) g g h what refusal (IsCharged_refl g g refl) why is (inr (omega arith, (λ wide. wide.3))))

-- with one
pub trees_go : (value : KeptValue) → HasFirstEverywhere ComesBefore value → GoesOn (WordEnds p.LexMin (Has value))
trees_go value all too_wide (inl many) = omega (arith, many)
trees_go value all too_wide (inr wide) = wide.1.3
trees_go value all no_minimum h = h.2 all
trees_go value all nested h = h
trees_go value all time_shapes h = h
trees_go value all unbounded h = h
trees_go value all several_times h = h
trees_go value all no_valuation h = h
trees_go value all not_assumed h = h

-- ---- the operand, and then its trees
module _ (state : StateView) (operand : Expr) (goes : GoesOn (Ends state operand)) where
  abbrev Names : List Name
  Names = declared_of (scope_of state) operand

  abbrev Behind : End → Type 0
  Behind = WordEnds p.LexMin (AtAssumed state (Selects state operand))

  narrowing_cut : (why : End) → CutUnder state why → EndsTrees state operand why
  narrowing_cut (because reason) none = absurd none
  narrowing_cut cut free = inr (goes, (omega arith, (λ wide. wide.3)))

  -- putting it under what is assumed is cut
  pub trees_under_cut : (works : Bool) (g h k : Gauge) (refusal : Refusal) → IsCharged g h → IsWhyUnmade works (CutUnder state) h k refusal
      → IsWhyUnworked true (EndsTrees state operand) g k refusal
  trees_under_cut works g h k refusal charged why =
      unworked_on works (CutUnder state) (EndsTrees state operand) g h k refusal narrowing_cut charged (inl why)

  module _ (limit : ℕ) (value under u : KeptValue) (at : IsFlatAt state First operand limit value)
      (put : IsUnderOf state.assumed value.params value under) (same : u ≡ under) where
    here : (v : Valuation) (x : Element) → AtAssumed state (Has value) v x ↔ AtAssumed state (Selects state operand) v x
    here v x = ((λ h. (h.0, (at.elements v h.0 x).0 h.1)), (λ h. (h.0, (at.elements v h.0 x).1 h.1)))

    first_to : ((v : Valuation) → HasFirst ComesBefore (AtAssumed state (Has value) v)) → (v : Valuation)
        → HasFirst ComesBefore (AtAssumed state (Selects state operand) v)
    first_to all v = has_first (AtAssumed state (Has value) v) (AtAssumed state (Selects state operand) v) (here v) ComesBefore (all v)

    first_from : ((v : Valuation) → HasFirst ComesBefore (AtAssumed state (Selects state operand) v)) → (v : Valuation)
        → HasFirst ComesBefore (AtAssumed state (Has value) v)
    first_from all v =
        has_first (AtAssumed state (Selects state operand) v) (AtAssumed state (Has value) v) (λ x. let b = here v x in (b.1, b.0)) ComesBefore (all v)

    selected : EndAlike (WordEnds p.LexMin (AtAssumed state (Has value))) Behind
    selected =
        operation_alike [] (FormsWide (WordForms p.LexMin) (AtAssumed state (Has value)))
        (FormsWide (WordForms p.LexMin) (AtAssumed state (Selects state operand))) (WordMisses p.LexMin (AtAssumed state (Has value)))
        (WordMisses p.LexMin (AtAssumed state (Selects state operand))) ((λ h. absurd h.3), (λ h. absurd h.3))
        ((λ no all. no (first_from all)), (λ no all. no (first_to all)))

    alike : EndAlike (WordEnds p.LexMin (Has u)) Behind
    alike =
        subst (λ (k : KeptValue). EndAlike (WordEnds p.LexMin (Has k)) Behind) (sym same)
        (alike_trans (WordEnds p.LexMin (Has under)) (WordEnds p.LexMin (AtAssumed state (Has value))) Behind
        (asked_alike state value under at.live p.LexMin put) selected)

    pub trees_shown : (g h k : Gauge) (forest : ForestView) (text : List ℕ) (answer : Answer) → IsKeptValue under → IsCharged g h
        → IsPaid true h k → GoesOn (WordEnds p.LexMin (Has u)) → IsForestOf u forest → text ≡ forest_text forest → answer ≡ coded text
        → ((found : List ℕ) × IsTextOfTrees state Names (Selects state operand) found × (answer ≡ coded found))
        × IsPaid true g k × GoesOn (EndsTrees state operand)
    trees_shown g h k forest text answer kept charged paid on is written line = (
      (
        text,
        (
          forest,
          record {
            value = under;
            params = under_named state Names (Selects state operand) value at.params at.elements under put;
            kept = kept;
            elements = under_there state Names (Selects state operand) value at.params at.elements under put;
            trees = subst (λ (w : KeptValue). IsForestOf w forest) same is;
          },
          written,
        ),
        line,
      ),
      paid_works g k (IsCharged_trans g h k charged paid.charged),
      goes_both (Ends state operand) Behind goes (goes_alike (WordEnds p.LexMin (Has u)) Behind alike on),
    )

    pub trees_failed : (g h k : Gauge) (refusal : Refusal) → IsCharged g h → IsWhyUnworked true (WordEnds p.LexMin (Has u)) h k refusal
        → IsWhyUnworked true (EndsTrees state operand) g k refusal
    trees_failed g h k refusal charged why =
        unworked_on true (WordEnds p.LexMin (Has u)) (EndsTrees state operand) g h k refusal
        (λ end ends. inr (goes, (alike end).0 ends)) charged why

-- ---- at the constructors of the code
Trees : Moment → Expr → Answer → Type 0
Trees before operand answer =
    (text : List ℕ) × IsTextOfTrees before.state (declared_of (scope_of before.state) operand) (Selects before.state operand) text
    × (answer ≡ coded text)

shows_of-Pip : (before : Moment) (operand : Expr) (answer : Answer) → Trees before operand answer → Shows before (e.Prefix p.Pip operand) answer
unfolding Trees hidden-the_row-Expr-0 denote.Hole.Carrier.hidden
shows_of-Pip before operand answer h = h

ends_of-Pip : (before : Moment) (operand : Expr) → EndAlike (EndsTrees before.state operand) (StatementEnds before (Show (e.Prefix p.Pip operand)))
unfolding hidden-the_row-Expr-0 denote.Hole.Carrier.hidden
ends_of-Pip before operand why = ((λ h. h), (λ h. h))

module _ (before : Moment) (expr operand x : Expr) (word : Word) (is : expr ≡ e.Prefix word operand) (which : word ≡ p.Pip)
    (same : x ≡ operand) where
  pip_is : expr ≡ e.Prefix p.Pip x
  pip_is = at_word p.Pip word expr operand x is which same

  pub pip_shows : (answer : Answer)
      → (text : List ℕ) × IsTextOfTrees before.state (declared_of (scope_of before.state) x) (Selects before.state x) text × (answer ≡ coded text)
      → Shows before expr answer
  unfolding Trees
  pip_shows answer h = subst (λ (y : Expr). Shows before y answer) (sym pip_is) (shows_of-Pip before x answer h)

  pub pip_ends : EndAlike (EndsTrees before.state x) (StatementEnds before (Show expr))
  pip_ends =
      subst (λ (y : Expr). EndAlike (EndsTrees before.state x) (StatementEnds before (Show y))) (sym pip_is) (ends_of-Pip before x)
