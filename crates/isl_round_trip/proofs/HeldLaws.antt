-- What statements leave of what is assumed, and assumptions of what is bound.
use Rattle.std.proofs.Common.{◌≡◌, ◌∙◌, ◌-◌, inl, inr, ℕ, List, [], ◌∷◌, All, sym, ap, subst}
use Rattle.std.proofs.lemmas.List.Elements.{All-nil, All-cons, All-head, All-tail, All-append, All-map, All-weaker}
use Rattle.isl_space.specs.Name.{Name}
use Rattle.isl_space.specs.Names.{IsParameterList}
use Rattle.isl_piece.specs.Definition.{with_defined}
use Rattle.isl_piece.specs.Row.{HoldsRow}
use Rattle.isl_union.specs.KeptValue.{KeptPiece, KeptValue, IsKeptPiece, IsKeptValue, point_of}
use Rattle.isl_row_text.specs.RowOrder.{row_before}
use Rattle.isl_print.specs.OrderedValue.{ordered_piece, ordered}
use Rattle.isl_print.specs.Ordered.{in_order}
use Rattle.isl_print.specs.PieceOrder.{piece_before}
use Rattle.isl_print.proofs.TextLaws.{All-in_order}
use Rattle.isl_token.specs.Number.{too_great}
use Rattle.isl_assumed.specs.declared.assumed.Assumed.{Assumed}
use Rattle.isl_assumed.specs.Assumed.{Assumes}
use Rattle.isl_assumed.specs.Values.{IsDeadAt}
use Rattle.isl_tree.specs.declared.statement.Stmt.{Stmt}
use Rattle.isl_tree.specs.declared.statement.Stmt.TheVariants.{Empty, Bind, Show, Assume}
use Rattle.isl_tree.specs.declared.statement.ValueKind.{ValueKind}
use Rattle.isl_flat.specs.Flat.{flat}
use Rattle.isl_flat.specs.Simple.{bindings_of, last_of, BindFrom}
use Rattle.isl_flat_law.proofs.SimpleLaws.{flat_ends, bindings_are_numbered}
use Rattle.isl_values.specs.Live.{IsLivePartOf, IsLiveUnder}
use Rattle.isl_values.specs.State.{Moment, StateView, AreLeftOf, value_at}
use Rattle.isl_state.proofs.LiveLaws.{each_live, part_numbers, part_plain}
use Rattle.isl_state.proofs.LeftLaws.{left_lookup}
use Rattle.isl_eval.specs.Causes.{AreDone}
use Rattle.isl_eval.specs.Machine.{Answer, Step, Steps, nothing}
use Rattle.isl_round_trip.specs.Written.{IsSet, IsMap, IsSpaceOf, IsOfKind, IsUniform}
use Rattle.isl_round_trip.specs.RoundTrip.{IsWritableValue}
use Rattle.isl_round_trip.specs.TakenAgain.{AreWritable}

-- ---- what is live
-- in printed order the pieces are as live as they were
pub live_ordered : (assumed : Assumed) (value : KeptValue) → IsLiveUnder assumed value → IsLiveUnder assumed (ordered value)
live_ordered assumed value live =
    let Lives : KeptPiece → Type 0 = λ p. ¬ IsDeadAt (Assumes assumed) value.params p in
    All-map Lives ordered_piece (in_order piece_before value.pieces)
    (All-weaker Lives (λ p. Lives (ordered_piece p))
    (λ p lives dead. lives (λ valuation element here has. dead valuation element here (record {
      numbers = has.numbers;
      space = has.space;
      holds = All-in_order row_before (λ r. HoldsRow r (with_defined p.definitions (point_of value.params valuation element))) p.rows
          has.holds;
    })))
    (in_order piece_before value.pieces)
    (All-in_order piece_before Lives value.pieces live))

-- what is live of a value is of its kind, and can be written as the value can
module _ (assumed : Assumed) (value part : KeptValue) (is : IsLivePartOf assumed value part) where
  each : (P : KeptPiece → Type 0) → All P value.pieces → All P part.pieces
  each P all = each_live (Assumes assumed) value.params P value.pieces part.pieces is.pieces all

  part_kept : IsKeptValue value → IsKeptValue part
  part_kept kept = record {
    params = subst IsParameterList (sym is.params) kept.params;
    pieces = subst (λ (ns : List Name). All (IsKeptPiece ns) part.pieces) (sym is.params) (each (IsKeptPiece value.params) kept.pieces);
  }

  part_uniform : IsUniform value → IsUniform part
  part_uniform uniform = elim uniform [
    | inl sets ↦ inl (each (λ p. IsSet p.space) sets)
    | inr maps ↦ inr (each (λ p. IsMap p.space) maps)
  ]

  pub part_of_kind : (kind : ValueKind) → IsOfKind kind value → IsOfKind kind part
  part_of_kind kind all = each (λ p. IsSpaceOf kind p.space) all

  pub part_writable : IsWritableValue value → IsWritableValue part
  part_writable writable = record {
    kept = part_kept writable.kept;
    definitions = part_plain assumed value part is writable.definitions;
    numbers = part_numbers assumed (too_great - 1) value part is writable.numbers;
    uniform = part_uniform writable.uniform;
  }

-- what an assumption leaves of what is bound can be written
pub left_writable : (before after : StateView) → AreLeftOf after.assumed before.bound after.bound → AreWritable before → AreWritable after
left_writable before after are all = λ name kept is part.
    let old = left_lookup after.assumed name kept before.bound after.bound are is in
    let was = all name old.0 old.1 part in
    let of = old.2.values part in (
      subst (λ (k : ValueKind). IsOfKind k (value_at part kept)) (sym old.2.kind)
          (part_of_kind after.assumed (value_at part old.0) (value_at part kept) of old.0.kind was.0),
      part_writable after.assumed (value_at part old.0) (value_at part kept) of was.1,
    )

-- ---- what is assumed
-- the statement is no assumption
abbrev pub IsSteady : Stmt → Type 0
IsSteady Empty = Unit {0}
IsSteady (Bind name expr) = Unit {0}
IsSteady (Show expr) = Unit {0}
IsSteady (Assume set) = ⊥

bindings_steady : (n : ℕ) (made : List Stmt) → BindFrom n made → All IsSteady made
bindings_steady n [] are = All-nil IsSteady
bindings_steady n (Bind name expr ∷ rest) are = All-cons IsSteady (Bind name expr) rest tt (bindings_steady _ rest are.1)
bindings_steady n (Empty ∷ rest) are = absurd are
bindings_steady n (Show expr ∷ rest) are = absurd are
bindings_steady n (Assume set ∷ rest) are = absurd are

last_steady : (stmt : Stmt) → IsSteady stmt → IsSteady (last_of stmt)
last_steady Empty is = tt
last_steady (Bind name expr) is = tt
last_steady (Show expr) is = tt
last_steady (Assume set) is = absurd is

pub flat_steady : (stmt : Stmt) → IsSteady stmt → All IsSteady (flat stmt)
flat_steady stmt is =
    subst (All IsSteady) (sym (flat_ends stmt))
    (All-append IsSteady (bindings_of stmt) (last_of stmt ∷ []) (bindings_steady 1 (bindings_of stmt) (bindings_are_numbered stmt))
    (All-cons IsSteady (last_of stmt) [] (last_steady stmt is) (All-nil IsSteady)))

-- where nothing is assumed by a statement, what is assumed is as it was
step_holds : (before : Moment) (stmt : Stmt) (after : Moment) (answer : Answer) → IsSteady stmt → Step before stmt after answer
    → after.state.assumed ≡ before.state.assumed
step_holds before Empty after answer is step = ap (λ (s : StateView). s.assumed) step.does.0
step_holds before (Show expr) after answer is step = ap (λ (s : StateView). s.assumed) step.does.0
step_holds before (Bind name expr) after answer is step = step.does.0.2.assumed
step_holds before (Assume set) after answer is step = absurd is

pub done_holds : (before : Moment) (done : List Stmt) (now : Moment) → All IsSteady done → AreDone before done now
    → now.state.assumed ≡ before.state.assumed
unfolding AreDone
done_holds before [] now are done = ap (λ (m : Moment). m.state.assumed) done
done_holds before (stmt ∷ more) now are done =
    done_holds done.0 more now (All-tail IsSteady stmt more are) done.2
    ∙ step_holds before stmt done.0 nothing (All-head IsSteady stmt more are) done.1

pub steps_hold : (before : Moment) (stmts : List Stmt) (after : Moment) (answer : Answer) → All IsSteady stmts
    → Steps before stmts after answer → after.state.assumed ≡ before.state.assumed
unfolding Steps
steps_hold before [] after answer are steps = absurd steps
steps_hold before (stmt ∷ []) after answer are steps = step_holds before stmt after answer (All-head IsSteady stmt [] are) steps
steps_hold before (stmt ∷ second ∷ more) after answer are steps =
    steps_hold steps.0 (second ∷ more) after answer (All-tail IsSteady stmt (second ∷ more) are) steps.2
    ∙ step_holds before stmt steps.0 nothing (All-head IsSteady stmt (second ∷ more) are) steps.1
