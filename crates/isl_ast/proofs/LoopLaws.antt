-- The loops of the code.
use Rattle.std.proofs.Common.{◌≡◌, ◌∙◌, refl, sym, ap, subst, arith, ℕ, ◌+◌, ℤ, pos, ◌<ℤ◌, Bool, true, false, List, [], ◌∷◌, map, Option}
use Rattle.std.specs.Prelude.{Result, Ok, Err, if◌then◌else◌}
use Rattle.std.specs.List.{All, Any}
use Rattle.isl_meter.specs.Gauge.{Gauge}
use Rattle.isl_meter.specs.declared.Cut.{Cut}
use Rattle.isl_piece.specs.declared.row.Row.{Row}
use Rattle.isl_piece.specs.Row.{HasModulus}
use Rattle.isl_piece.specs.System.{HoldRows}
use Rattle.isl_loop.specs.declared.tree.Expr.{Expr}
use Rattle.isl_loop.specs.declared.tree.Loop.{Loop, Block, For, If, Call}
use Rattle.isl_loop.specs.Expr.{expr_value}
use Rattle.isl_loop.specs.Formed.{IsLoopOver, RunPasses}
use Rattle.isl_loop.specs.Lists.{calls_of, turns_through}
use Rattle.isl_loop.specs.Run.{Event, rows_hold, trace, turns_of}
use Rattle.isl_loop.specs.Turns.{turns}
use Rattle.isl_loop.proofs.RowLaws.{rows_tell}
use Rattle.isl_loop.proofs.TreeLaws.{over-Block, over-For, over-If, passes-Block, passes-For, passes-If, trace_of-Block, trace_of-For}
use Rattle.isl_loop.proofs.TreeLaws.{trace_of-If}
use Rattle.isl_loop.proofs.TreeLaws.{turns_of-Block, turns_of-For, turns_of-If}
use Rattle.isl_ast.specs.Called.{AreCalled}
use Rattle.isl_ast.specs.Run.{charged, turn_calls, turn_units, IsAppended, TurnsPass}
use Rattle.isl_ast.proofs.RunLaws.{ended-weaker}

appended_same : {S A : Type 0} (Called : S → Event → S → Type 0) (g h : Gauge) (before now : S) (calls own : List Event) (units turns : ℕ)
    (P Q : Type 0) (result : Result A Cut)
    → IsAppended Called g h before now calls units P result → own ≡ calls → turns ≡ units → (P → Q)
    → IsAppended Called g h before now own turns Q result
appended_same Called g h before now calls own units turns P Q (Ok v) p same as_many f =
    (subst (λ (es : List Event). AreCalled Called before es now) (sym same) p.0, p.1 ∙ ap (charged g) (sym as_many))
appended_same Called g h before now calls own units turns P Q (Err cut) e same as_many f =
    ended-weaker g h units turns P Q cut e (omega (arith, as_many)) f

-- ---- blocks
pub block_over : (g : Gauge) (n : ℕ) (x : Loop) (parts slice : List Loop) → x ≡ Block parts → slice ≡ parts → IsLoopOver g n x
    → All (IsLoopOver g n) slice
block_over g n x parts slice is same over =
    subst (All (IsLoopOver g n)) (sym same) (over-Block g n parts (subst (IsLoopOver g n) is over))

pub block_is : {S A : Type 0} (Called : S → Event → S → Type 0) (g h : Gauge) (before now : S) (point : List ℤ) (x : Loop)
    (parts slice : List Loop)
    (result : Result A Cut)
    → x ≡ Block parts → slice ≡ parts
    → IsAppended Called g h before now (calls_of slice point) (turns_through slice point) (Any (RunPasses g point) slice) result
    → IsAppended Called g h before now (trace x point) (turns_of x point) (RunPasses g point x) result
block_is Called g h before now point x parts slice result is same p =
    appended_same Called g h before now (calls_of slice point) (trace x point) (turns_through slice point) (turns_of x point)
    (Any (RunPasses g point) slice) (RunPasses g point x) result p
    (ap (λ (t : Loop). trace t point) is ∙ trace_of-Block parts point ∙ ap (λ (l : List Loop). calls_of l point) (sym same))
    (ap (λ (t : Loop). turns_of t point) is ∙ turns_of-Block parts point ∙ ap (λ (l : List Loop). turns_through l point) (sym same))
    (λ any. subst (RunPasses g point) (sym is) (passes-Block g point parts (subst (Any (RunPasses g point)) same any)))

-- ---- loops
pub for_over : (g h : Gauge) (n : ℕ) (x : Loop) (low high : Expr) (step : ℤ) (body inner : Loop) → x ≡ For low high step body → inner ≡ body
    → h ≡ g → IsLoopOver g n x → IsLoopOver h (n + 1) inner × (pos 0 <ℤ step)
for_over g h n x low high step body inner is same kept over =
    let parts = over-For g n low high step body (subst (IsLoopOver g n) is over) in (
      subst (λ (m : Gauge). IsLoopOver m (n + 1) inner) (sym kept) (subst (IsLoopOver g (n + 1)) (sym same) parts.3),
      parts.2,
    )

pub for_is : {S A : Type 0} (Called : S → Event → S → Type 0) (g mid h : Gauge) (before now : S) (point : List ℤ) (x : Loop)
    (low high : Expr) (step : ℤ)
    (body inner : Loop) (from to by : ℤ) (result : Result A Cut) → x ≡ For low high step body → inner ≡ body → from ≡ expr_value low point
    → to ≡ expr_value high point → by ≡ step → mid ≡ g
    → IsAppended Called mid h before now (turn_calls inner point (turns from to by)) (turn_units inner point (turns from to by))
    (TurnsPass mid inner point (turns from to by)) result
    → IsAppended Called g h before now (trace x point) (turns_of x point) (RunPasses g point x) result
for_is Called g mid h before now point x low high step body inner from to by result is same first last apart kept p =
    let xs = turns (expr_value low point) (expr_value high point) step in
    appended_same Called g h before now (turn_calls body point xs) (trace x point) (turn_units body point xs) (turns_of x point)
    (TurnsPass g body point xs) (RunPasses g point x) result (rw (kept, same, first, last, apart) at p)
    (ap (λ (t : Loop). trace t point) is ∙ trace_of-For low high step body point)
    (ap (λ (t : Loop). turns_of t point) is ∙ turns_of-For low high step body point)
    (λ any. subst (RunPasses g point) (sym is) (passes-For g point low high step body any))

-- ---- calls
pub call_is : {S : Type 0} (Called : S → Event → S → Type 0) (g h : Gauge) (before now : S) (point own : List ℤ) (x : Loop)
    (name : Option (List ℕ)) (args slice : List Expr) (numbers given : List ℤ)
    → x ≡ Call name args → slice ≡ args → own ≡ point → numbers ≡ map (λ e. expr_value e own) slice → given ≡ numbers
    → Called before (record { name = name; args = given }) now → h ≡ g
    → AreCalled Called before (trace x point) now × (h ≡ charged g (turns_of x point))
call_is Called g h before now point own x name args slice numbers given is same here values gave called kept =
    let none : turns_of x point ≡ 0 = ap (λ (t : Loop). turns_of t point) is in
    let all : given ≡ map (λ e. expr_value e point) args =
    gave ∙ values ∙ ap (λ (ys : List ℤ). map (λ e. expr_value e ys) slice) here
    ∙ ap (λ (es : List Expr). map (λ e. expr_value e point) es) same in
    let event : trace x point ≡ record { name = name; args = given } ∷ [] =
    ap (λ (t : Loop). trace t point) is ∙ ap (λ (zs : List ℤ). record { name = name; args = zs } ∷ []) (sym all) in (
      subst (λ (es : List Event). AreCalled Called before es now) (sym event) (now, called, refl),
      kept ∙ ap (λ (u : ℕ). record g { units = u }) (omega (arith, none)),
    )

-- ---- rows
pub then_over : (g h : Gauge) (n : ℕ) (x : Loop) (rows : List Row) (body inner : Loop) → x ≡ If rows body → inner ≡ body → h ≡ g
    → IsLoopOver g n x → IsLoopOver h n inner
then_over g h n x rows body inner is same kept over =
    subst (λ (m : Gauge). IsLoopOver m n inner) (sym kept)
    (subst (IsLoopOver g n) (sym same) (over-If g n rows body (subst (IsLoopOver g n) is over)).1)

moduli : (g : Gauge) (n : ℕ) (x : Loop) (rows : List Row) (body : Loop) → x ≡ If rows body → IsLoopOver g n x
    → All (λ r. HasModulus r.kind r.k) rows
moduli g n x rows body is over = λ i d l. ((over-If g n rows body (subst (IsLoopOver g n) is over)).0 i d l).shape.modulus

pub then_is : {S A : Type 0} (Called : S → Event → S → Type 0) (g mid h : Gauge) (n : ℕ) (before now : S) (point : List ℤ) (x : Loop)
    (rows : List Row)
    (body inner : Loop)
    (result : Result A Cut) → x ≡ If rows body → inner ≡ body → mid ≡ g → IsLoopOver g n x → HoldRows rows point
    → IsAppended Called mid h before now (trace inner point) (turns_of inner point) (RunPasses mid point inner) result
    → IsAppended Called g h before now (trace x point) (turns_of x point) (RunPasses g point x) result
then_is Called g mid h n before now point x rows body inner result is same kept over hold p =
    let yes : rows_hold rows point ≡ true = (rows_tell rows point (moduli g n x rows body is over)).1 hold in
    appended_same Called g h before now (trace body point) (trace x point) (turns_of body point) (turns_of x point)
    (RunPasses g point body) (RunPasses g point x) result (rw (kept, same) at p)
    (ap (λ (t : Loop). trace t point) is ∙ trace_of-If rows body point
    ∙ ap (λ (b : Bool). if b then trace body point else []) yes)
    (ap (λ (t : Loop). turns_of t point) is ∙ turns_of-If rows body point ∙ ap (λ (b : Bool). if b then turns_of body point else 0) yes)
    (λ passes. subst (RunPasses g point) (sym is) (passes-If g point rows body yes passes))

pub else_is : {S : Type 0} (Called : S → Event → S → Type 0) (g h : Gauge) (n : ℕ) (before now : S) (point : List ℤ) (x : Loop)
    (rows : List Row) (body : Loop)
    → x ≡ If rows body → h ≡ g → now ≡ before → IsLoopOver g n x → ¬ HoldRows rows point
    → AreCalled Called before (trace x point) now × (h ≡ charged g (turns_of x point))
else_is Called g h n before now point x rows body is kept none over fail =
    let no = fails (rows_hold rows point) refl in
    let calls : trace x point ≡ [] =
    ap (λ (t : Loop). trace t point) is ∙ trace_of-If rows body point ∙ ap (λ (b : Bool). if b then trace body point else []) no in
    let units : turns_of x point ≡ 0 =
    ap (λ (t : Loop). turns_of t point) is ∙ turns_of-If rows body point ∙ ap (λ (b : Bool). if b then turns_of body point else 0) no in (
      subst (λ (es : List Event). AreCalled Called before es now) (sym calls) none,
      kept ∙ ap (λ (u : ℕ). record g { units = u }) (omega (arith, units)),
    )
  where
    fails : (b : Bool) → rows_hold rows point ≡ b → rows_hold rows point ≡ false
    fails false e = e
    fails true e = absurd (fail ((rows_tell rows point (moduli g n x rows body is over)).0 e))
