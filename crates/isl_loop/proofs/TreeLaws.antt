-- Expressions and loops at the constructors of the code.
use mathlib.Core.Former.{Count}
use Rattle.std.proofs.Common.{◌≡◌, ◌⊎◌, ◌∙◌, inl, inr, refl, sym, ap, subst, ℕ, ◌+◌, ◌<◌, ℤ, pos, ◌+ℤ◌, ◌*ℤ◌, ◌<ℤ◌}
use Rattle.std.proofs.Common.{List, [], ◌∷◌, ◌++◌, length, true, arith}
use Rattle.std.specs.Prelude.{if◌then◌else◌}
use Rattle.std.proofs.lemmas.List.{append-nil}
use Rattle.std.specs.List.{All, Any, sum_by}
use Rattle.std.specs.Int.{int_max, int_min}
use Rattle.std.proofs.lemmas.List.Elements.{All-nil, All-cons}
use Rattle.std.proofs.lemmas.List.Sums.{sum_by-cons}
use Rattle.isl_math.specs.Divide.{floor_div}
use Rattle.isl_math.proofs.ListLaws.{Any-cases, Any-none, Any-weaker}
use Rattle.isl_meter.specs.Gauge.{Gauge, IsWithin}
use Rattle.isl_piece.specs.declared.row.Row.{Row}
use Rattle.isl_piece.specs.Row.{FormPassesLimit}
use Rattle.isl_loop.specs.declared.tree.Expr.{Expr, Expr', out-Expr, Row_of-Item, end_of-Item, more_of-Item, items-the_row-Item}
use Rattle.isl_loop.specs.declared.tree.Expr.{items_shown-the_row-Item-2}
use Rattle.isl_loop.specs.declared.tree.Item.{Item}
use Rattle.isl_loop.specs.declared.tree.Atom.{Floor, Ceil, Min, Max, Row_of-Expr, end_of-Expr, more_of-Expr}
use Rattle.isl_loop.specs.declared.tree.Atom.{items-the_row-Expr, items_hidden-the_row-Expr-1}
use Rattle.isl_loop.specs.declared.tree.Atom.TheBlock.{hidden-the_row-Expr-0, hidden-the_row-Expr-1}
use Rattle.isl_loop.specs.declared.tree.Loop.{Loop, Block, For, If, Row_of-Loop, end_of-Loop, more_of-Loop}
use Rattle.isl_loop.specs.declared.tree.Loop.{items-the_row-Loop, items_hidden-the_row-Loop-0}
use Rattle.isl_loop.specs.declared.tree.Loop.TheBlock.{hidden-the_row-Loop-0, hidden-the_row-Loop-1}
use Rattle.isl_loop.specs.Expr.{atom_value, ceil_div, expr_value, extreme_after, extreme_of, sum_value}
use Rattle.isl_loop.specs.Formed.{AtomPasses, AreExprsOver, AreLoopsOver, AreSome, ExprPasses, IsAtomOver, IsExprOver, IsLoopOver}
use Rattle.isl_loop.specs.Formed.{IsRowOver, IsSumOver, RunPasses, RunsPass, SomePasses, SumPasses}
use Rattle.isl_loop.specs.Lists.{calls_of, extreme_in, extreme_past, IsItemOver, ItemsPass, sum_of, turns_through}
use Rattle.isl_loop.specs.Run.{Event, each_in, rows_hold, trace, traces, turns_in, turns_of}
use Rattle.isl_loop.specs.Turns.{turns}

-- ---- sums
sum_is : (m : Count) (row : Row_of-Item m) (point : List ℤ) → sum_value row point ≡ sum_of (items-the_row-Item m row) point
sum_is m end_of-Item point = refl
sum_is m (more_of-Item coef atom row) point = ap (λ (z : ℤ). coef *ℤ atom_value atom point +ℤ z) (sum_is _ row point)

pub value_of-Expr : (x : Expr) (point : List ℤ) → expr_value x point ≡ sum_of (out-Expr x).items point +ℤ (out-Expr x).constant
unfolding out-Expr denote.Hole.Carrier.out
value_of-Expr (Expr' s row constant) point =
    ap (λ (z : ℤ). z +ℤ constant) (sum_is _ row point ∙ ap (λ (l : List Item). sum_of l point) (sym (items_shown-the_row-Item-2 s row)))

items_over : (g : Gauge) (n : ℕ) (m : Count) (row : Row_of-Item m) → IsSumOver g n row → All (IsItemOver g n) (items-the_row-Item m row)
items_over g n m end_of-Item over = All-nil (IsItemOver g n)
items_over g n m (more_of-Item coef atom row) over =
    All-cons (IsItemOver g n) (record { coef = coef; atom = atom }) (items-the_row-Item _ row) (record { coef = over.0; atom = over.1 })
    (items_over g n _ row over.2)

pub over-Expr : (g : Gauge) (n : ℕ) (x : Expr) → IsExprOver g n x
    → All (IsItemOver g n) (out-Expr x).items × IsWithin g (out-Expr x).constant
unfolding out-Expr denote.Hole.Carrier.out
over-Expr g n (Expr' s row constant) over =
    (subst (All (IsItemOver g n)) (sym (items_shown-the_row-Item-2 s row)) (items_over g n _ row over.0), over.1)

items_pass : (g : Gauge) (point : List ℤ) (sum : ℤ) (m : Count) (row : Row_of-Item m)
    → SumPasses g point sum row ≡ ItemsPass g point sum (items-the_row-Item m row)
items_pass g point sum m end_of-Item = refl
items_pass g point sum m (more_of-Item coef atom row) = rw (items_pass g point (sum +ℤ coef *ℤ atom_value atom point) _ row) refl

pub passes-Expr : (g : Gauge) (point : List ℤ) (x : Expr)
    → ItemsPass g point (pos 0) (out-Expr x).items ⊎ (¬ IsWithin g (expr_value x point)) → ExprPasses g point x
unfolding out-Expr denote.Hole.Carrier.out
passes-Expr g point (Expr' s row constant) (inl p) =
    inl (rw (items_pass g point (pos 0) _ row) (subst (ItemsPass g point (pos 0)) (items_shown-the_row-Item-2 s row) p))
passes-Expr g point (Expr' s row constant) (inr n) = inr n

-- ---- the least, and the greatest
past_is : (better : ℤ → ℤ → ℤ) (best : ℤ) (m : Count) (row : Row_of-Expr m) (point : List ℤ)
    → extreme_after better best row point ≡ extreme_past better best (items-the_row-Expr m row) point
past_is better best m end_of-Expr point = refl
past_is better best m (more_of-Expr e row) point = past_is better (better best (expr_value e point)) _ row point

extreme_is : (better : ℤ → ℤ → ℤ) (m : Count) (row : Row_of-Expr m) (point : List ℤ)
    → extreme_of better row point ≡ extreme_in better (items-the_row-Expr m row) point
extreme_is better m end_of-Expr point = refl
extreme_is better m (more_of-Expr e row) point = past_is better (expr_value e point) _ row point

pub value_of-Min : (es : List Expr) (point : List ℤ) → atom_value (Min es) point ≡ extreme_in int_min es point
value_of-Min es point =
    extreme_is int_min _ (hidden-the_row-Expr-1 es) point
    ∙ ap (λ (l : List Expr). extreme_in int_min l point) (items_hidden-the_row-Expr-1 es)

pub value_of-Max : (es : List Expr) (point : List ℤ) → atom_value (Max es) point ≡ extreme_in int_max es point
value_of-Max es point =
    extreme_is int_max _ (hidden-the_row-Expr-1 es) point
    ∙ ap (λ (l : List Expr). extreme_in int_max l point) (items_hidden-the_row-Expr-1 es)

-- there is one at least
some_length : (m : Count) (row : Row_of-Expr m) → AreSome row → 0 < length (items-the_row-Expr m row)
some_length m end_of-Expr some = elim some [ ]
some_length m (more_of-Expr e row) some = omega arith

exprs_over : (g : Gauge) (n : ℕ) (m : Count) (row : Row_of-Expr m) → AreExprsOver g n row → All (IsExprOver g n) (items-the_row-Expr m row)
exprs_over g n m end_of-Expr over = All-nil (IsExprOver g n)
exprs_over g n m (more_of-Expr e row) over =
    All-cons (IsExprOver g n) e (items-the_row-Expr _ row) over.0 (exprs_over g n _ row over.1)

some_over : (g : Gauge) (n : ℕ) (es : List Expr) → AreExprsOver g n (hidden-the_row-Expr-1 es) → AreSome (hidden-the_row-Expr-1 es)
    → All (IsExprOver g n) es × (0 < length es)
some_over g n es over some =
    subst (λ (l : List Expr). All (IsExprOver g n) l × (0 < length l)) (items_hidden-the_row-Expr-1 es)
    (exprs_over g n _ (hidden-the_row-Expr-1 es) over, some_length _ (hidden-the_row-Expr-1 es) some)

pub over-Min : (g : Gauge) (n : ℕ) (es : List Expr) → IsAtomOver g n (Min es) → All (IsExprOver g n) es × (0 < length es)
over-Min g n es over = some_over g n es over.0 over.1

pub over-Max : (g : Gauge) (n : ℕ) (es : List Expr) → IsAtomOver g n (Max es) → All (IsExprOver g n) es × (0 < length es)
over-Max g n es over = some_over g n es over.0 over.1

some_pass : (g : Gauge) (point : List ℤ) (m : Count) (row : Row_of-Expr m) → Any (ExprPasses g point) (items-the_row-Expr m row)
    → SomePasses g point row
some_pass g point m end_of-Expr any = absurd (Any-none (ExprPasses g point) any)
some_pass g point m (more_of-Expr e row) any = elim (Any-cases (ExprPasses g point) e (items-the_row-Expr _ row) any) [
  | inl now ↦ inl now
  | inr later ↦ inr (some_pass g point _ row later)
]

some_of : (g : Gauge) (point : List ℤ) (es : List Expr) → Any (ExprPasses g point) es → SomePasses g point (hidden-the_row-Expr-1 es)
some_of g point es any =
    some_pass g point _ (hidden-the_row-Expr-1 es) (subst (Any (ExprPasses g point)) (sym (items_hidden-the_row-Expr-1 es)) any)

pub passes-Min : (g : Gauge) (point : List ℤ) (es : List Expr) → Any (ExprPasses g point) es → AtomPasses g point (Min es)
passes-Min g point es any = some_of g point es any

pub passes-Max : (g : Gauge) (point : List ℤ) (es : List Expr) → Any (ExprPasses g point) es → AtomPasses g point (Max es)
passes-Max g point es any = some_of g point es any

-- ---- quotients
pub value_of-Floor : (e : Expr) (k : ℤ) (point : List ℤ) → atom_value (Floor e k) point ≡ floor_div (expr_value e point) k
unfolding hidden-the_row-Expr-0 denote.Hole.Carrier.hidden
value_of-Floor e k point = refl

pub value_of-Ceil : (e : Expr) (k : ℤ) (point : List ℤ) → atom_value (Ceil e k) point ≡ ceil_div (expr_value e point) k
unfolding hidden-the_row-Expr-0 denote.Hole.Carrier.hidden
value_of-Ceil e k point = refl

pub over-Floor : (g : Gauge) (n : ℕ) (e : Expr) (k : ℤ) → IsAtomOver g n (Floor e k) → IsExprOver g n e × (pos 0 <ℤ k) × IsWithin g k
unfolding hidden-the_row-Expr-0 denote.Hole.Carrier.hidden
over-Floor g n e k over = (over.0.0, over.1, over.2)

pub over-Ceil : (g : Gauge) (n : ℕ) (e : Expr) (k : ℤ) → IsAtomOver g n (Ceil e k) → IsExprOver g n e × (pos 0 <ℤ k) × IsWithin g k
unfolding hidden-the_row-Expr-0 denote.Hole.Carrier.hidden
over-Ceil g n e k over = (over.0.0, over.1, over.2)

pub passes-Floor : (g : Gauge) (point : List ℤ) (e : Expr) (k : ℤ) → ExprPasses g point e → AtomPasses g point (Floor e k)
unfolding hidden-the_row-Expr-0 denote.Hole.Carrier.hidden
passes-Floor g point e k passes = inl passes

pub passes-Ceil : (g : Gauge) (point : List ℤ) (e : Expr) (k : ℤ) → ExprPasses g point e → AtomPasses g point (Ceil e k)
unfolding hidden-the_row-Expr-0 denote.Hole.Carrier.hidden
passes-Ceil g point e k passes = inl passes

-- ---- loops
calls_are : (m : Count) (row : Row_of-Loop m) (point : List ℤ) → traces row point ≡ calls_of (items-the_row-Loop m row) point
calls_are m end_of-Loop point = refl
calls_are m (more_of-Loop part row) point = ap (λ (es : List Event). trace part point ++ es) (calls_are _ row point)

pub trace_of-Block : (parts : List Loop) (point : List ℤ) → trace (Block parts) point ≡ calls_of parts point
trace_of-Block parts point =
    calls_are _ (hidden-the_row-Loop-0 parts) point ∙ ap (λ (l : List Loop). calls_of l point) (items_hidden-the_row-Loop-0 parts)

one_trace : (body : Loop) (point : List ℤ) → traces (hidden-the_row-Loop-1 body) point ≡ trace body point
unfolding hidden-the_row-Loop-1 denote.Hole.Carrier.hidden
one_trace body point = append-nil (trace body point)

pub each_same : {X : Type 0} (f h : ℤ → List X) (xs : List ℤ) → ((x : ℤ) → f x ≡ h x) → each_in f xs ≡ each_in h xs
each_same f h [] same = refl
each_same f h (x ∷ xs) same = rw (same x, each_same f h xs same) refl

pub trace_of-For : (low high : Expr) (step : ℤ) (body : Loop) (point : List ℤ)
    → trace (For low high step body) point
    ≡ each_in (λ x. trace body (point ++ x ∷ [])) (turns (expr_value low point) (expr_value high point) step)
trace_of-For low high step body point =
    each_same (λ x. traces (hidden-the_row-Loop-1 body) (point ++ x ∷ [])) (λ x. trace body (point ++ x ∷ []))
    (turns (expr_value low point) (expr_value high point) step) (λ x. one_trace body (point ++ x ∷ []))

pub trace_of-If : (rows : List Row) (body : Loop) (point : List ℤ)
    → trace (If rows body) point ≡ (if rows_hold rows point then trace body point else [])
trace_of-If rows body point = ap (λ (es : List Event). if rows_hold rows point then es else []) (one_trace body point)

-- ---- turns
turns_are : (m : Count) (row : Row_of-Loop m) (point : List ℤ) → turns_in row point ≡ turns_through (items-the_row-Loop m row) point
turns_are m end_of-Loop point = refl
turns_are m (more_of-Loop part row) point = ap (λ (n : ℕ). turns_of part point + n) (turns_are _ row point)

pub turns_of-Block : (parts : List Loop) (point : List ℤ) → turns_of (Block parts) point ≡ turns_through parts point
turns_of-Block parts point =
    turns_are _ (hidden-the_row-Loop-0 parts) point ∙ ap (λ (l : List Loop). turns_through l point) (items_hidden-the_row-Loop-0 parts)

one_turns : (body : Loop) (point : List ℤ) → turns_in (hidden-the_row-Loop-1 body) point ≡ turns_of body point
unfolding hidden-the_row-Loop-1 denote.Hole.Carrier.hidden
one_turns body point = omega arith

sum_same : (f h : ℤ → ℕ) (xs : List ℤ) → ((x : ℤ) → f x ≡ h x) → sum_by f xs ≡ sum_by h xs
sum_same f h [] same = refl
sum_same f h (x ∷ xs) same = rw (sum_by-cons f x xs, sum_by-cons h x xs, same x, sum_same f h xs same) refl

pub turns_of-For : (low high : Expr) (step : ℤ) (body : Loop) (point : List ℤ)
    → turns_of (For low high step body) point
    ≡ sum_by (λ x. 1 + turns_of body (point ++ x ∷ [])) (turns (expr_value low point) (expr_value high point) step)
turns_of-For low high step body point =
    sum_same (λ x. 1 + turns_in (hidden-the_row-Loop-1 body) (point ++ x ∷ [])) (λ x. 1 + turns_of body (point ++ x ∷ []))
    (turns (expr_value low point) (expr_value high point) step) (λ x. ap (λ (n : ℕ). 1 + n) (one_turns body (point ++ x ∷ [])))

pub turns_of-If : (rows : List Row) (body : Loop) (point : List ℤ)
    → turns_of (If rows body) point ≡ (if rows_hold rows point then turns_of body point else 0)
turns_of-If rows body point = ap (λ (n : ℕ). if rows_hold rows point then n else 0) (one_turns body point)

-- ---- well formed loops
loops_over : (g : Gauge) (n : ℕ) (m : Count) (row : Row_of-Loop m) → AreLoopsOver g n row → All (IsLoopOver g n) (items-the_row-Loop m row)
loops_over g n m end_of-Loop over = All-nil (IsLoopOver g n)
loops_over g n m (more_of-Loop part row) over =
    All-cons (IsLoopOver g n) part (items-the_row-Loop _ row) over.0 (loops_over g n _ row over.1)

pub over-Block : (g : Gauge) (n : ℕ) (parts : List Loop) → IsLoopOver g n (Block parts) → All (IsLoopOver g n) parts
over-Block g n parts over =
    subst (All (IsLoopOver g n)) (items_hidden-the_row-Loop-0 parts) (loops_over g n _ (hidden-the_row-Loop-0 parts) over)

pub over-For : (g : Gauge) (n : ℕ) (low high : Expr) (step : ℤ) (body : Loop) → IsLoopOver g n (For low high step body)
    → IsExprOver g n low × IsExprOver g n high × (pos 0 <ℤ step) × IsLoopOver g (n + 1) body
unfolding hidden-the_row-Loop-1 denote.Hole.Carrier.hidden
over-For g n low high step body over = (over.0, over.1, over.2, over.4.0)

pub over-If : (g : Gauge) (n : ℕ) (rows : List Row) (body : Loop) → IsLoopOver g n (If rows body)
    → All (IsRowOver g n) rows × IsLoopOver g n body
unfolding hidden-the_row-Loop-1 denote.Hole.Carrier.hidden
over-If g n rows body over = (over.0, over.1.0)

-- ---- what passes the limit
loops_pass : (g : Gauge) (point : List ℤ) (m : Count) (row : Row_of-Loop m) → Any (RunPasses g point) (items-the_row-Loop m row)
    → RunsPass g point row
loops_pass g point m end_of-Loop any = absurd (Any-none (RunPasses g point) any)
loops_pass g point m (more_of-Loop part row) any = elim (Any-cases (RunPasses g point) part (items-the_row-Loop _ row) any) [
  | inl now ↦ inl now
  | inr later ↦ inr (loops_pass g point _ row later)
]

pub passes-Block : (g : Gauge) (point : List ℤ) (parts : List Loop) → Any (RunPasses g point) parts → RunPasses g point (Block parts)
passes-Block g point parts any =
    loops_pass g point _ (hidden-the_row-Loop-0 parts) (subst (Any (RunPasses g point)) (sym (items_hidden-the_row-Loop-0 parts)) any)

one_passes : (g : Gauge) (point : List ℤ) (body : Loop) → RunPasses g point body → RunsPass g point (hidden-the_row-Loop-1 body)
unfolding hidden-the_row-Loop-1 denote.Hole.Carrier.hidden
one_passes g point body passes = inl passes

pub passes-For : (g : Gauge) (point : List ℤ) (low high : Expr) (step : ℤ) (body : Loop)
    → Any (λ x. RunPasses g (point ++ x ∷ []) body) (turns (expr_value low point) (expr_value high point) step)
    → RunPasses g point (For low high step body)
passes-For g point low high step body any =
    inr (inr (Any-weaker (λ x. RunPasses g (point ++ x ∷ []) body) (λ x. RunsPass g (point ++ x ∷ []) (hidden-the_row-Loop-1 body))
    (λ x. one_passes g (point ++ x ∷ []) body) (turns (expr_value low point) (expr_value high point) step) any))

pub passes-low : (g : Gauge) (point : List ℤ) (low high : Expr) (step : ℤ) (body : Loop) → ExprPasses g point low
    → RunPasses g point (For low high step body)
passes-low g point low high step body passes = inl passes

pub passes-high : (g : Gauge) (point : List ℤ) (low high : Expr) (step : ℤ) (body : Loop) → ExprPasses g point high
    → RunPasses g point (For low high step body)
passes-high g point low high step body passes = inr (inl passes)

pub passes-rows : (g : Gauge) (point : List ℤ) (rows : List Row) (body : Loop)
    → Any (λ r. FormPassesLimit g r.coefs r.constant point) rows → RunPasses g point (If rows body)
passes-rows g point rows body any = inl any

pub passes-If : (g : Gauge) (point : List ℤ) (rows : List Row) (body : Loop) → rows_hold rows point ≡ true → RunPasses g point body
    → RunPasses g point (If rows body)
passes-If g point rows body holds passes = inr (holds, one_passes g point body passes)
