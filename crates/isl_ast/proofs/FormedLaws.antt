-- Well formed trees, part by part.
use mathlib.Core.Former.{Count}
use Rattle.std.proofs.Common.{◌≡◌, ◌↔◌, ◌∙◌, refl, sym, subst, arith, Bool, true, false, ℕ, ◌+◌, ◌<◌, ◌≤◌}
use Rattle.std.proofs.Common.{ℤ, pos, ◌<ℤ◌, List, length, get_or, take}
use Rattle.std.specs.Prelude.{IfOk, IsTrue, Result, Ok, Err}
use Rattle.std.specs.List.{All}
use Rattle.std.proofs.lemmas.Bool.{false≢true}
use Rattle.std.proofs.lemmas.List.{take_all}
use Rattle.std.proofs.lemmas.List.Elements.{All-nil, All-cons, All-head, All-tail, All-more}
use Rattle.isl_meter.specs.Gauge.{Gauge, IsWithin}
use Rattle.isl_piece.specs.declared.row.RowKind.{RowKind}
use Rattle.isl_piece.specs.declared.row.Row.{Row}
use Rattle.isl_loop.specs.declared.tree.Expr.{Expr, out-Expr, Row_of-Item, end_of-Item, more_of-Item, items-the_row-Item}
use Rattle.isl_loop.specs.declared.tree.Expr.{Expr', items_shown-the_row-Item-2}
use Rattle.isl_loop.specs.declared.tree.Item.{Item}
use Rattle.isl_loop.specs.declared.tree.Atom.{Atom, Column, Floor, Ceil, Min, Max, Row_of-Expr, end_of-Expr, more_of-Expr}
use Rattle.isl_loop.specs.declared.tree.Atom.{items-the_row-Expr, items_hidden-the_row-Expr-1}
use Rattle.isl_loop.specs.declared.tree.Atom.TheBlock.{hidden-the_row-Expr-0, hidden-the_row-Expr-1}
use Rattle.isl_loop.specs.declared.tree.Loop.{Loop, Block, For, If, Row_of-Loop, end_of-Loop, more_of-Loop}
use Rattle.isl_loop.specs.declared.tree.Loop.{items-the_row-Loop, items_hidden-the_row-Loop-0}
use Rattle.isl_loop.specs.declared.tree.Loop.TheBlock.{hidden-the_row-Loop-0, hidden-the_row-Loop-1}
use Rattle.isl_loop.specs.Formed.{AreExprsOver, AreLoopsOver, AreSome, IsAtomOver, IsExprOver, IsLoopOver, IsRowOver, IsSumOver}
use Rattle.isl_loop.specs.Lists.{IsItemOver}
use Rattle.isl_loop.proofs.TreeLaws.{over-Block, over-Ceil, over-Expr, over-Floor, over-For, over-If}

-- ---- tests
-- R is P and Q, and the first of two tests was passed, or was not
both_tell : (P Q R : Type 0) (a b : Bool) → R ↔ (P × Q) → a ≡ true → IsTrue a ↔ P → IsTrue b ↔ Q → IsTrue b ↔ R
both_tell P Q R a b parts passed first second =
    ((λ t. parts.1 (first.0 passed, second.0 t)), (λ r. second.1 (parts.0 r).1))

first_fails : (P Q R : Type 0) (a : Bool) → R ↔ (P × Q) → IsTrue a ↔ P → a ≡ false → IsTrue a ↔ R
first_fails P Q R a parts first failed =
    ((λ t. absurd (false≢true (sym failed ∙ t))), (λ r. first.1 (parts.0 r).0))

same_told : (P Q : Type 0) (b : Bool) → P ↔ Q → IsTrue b ↔ Q → IsTrue b ↔ P
same_told P Q b same told = ((λ t. same.1 (told.0 t)), (λ p. told.1 (same.0 p)))

module _ {X : Type 0} (P : X → Type 0) (xs : List X) where
  pub all_found : (i : ℕ) → length xs ≤ i → All P (take i xs) → IsTrue true ↔ All P xs
  all_found i end all = ((λ t. subst (All P) (take_all i xs end) all), (λ a. refl))

  module _ (i : ℕ) (x : X) (low : i < length xs) (at : x ≡ get_or xs i x) where
    pub one_missed : (b : Bool) → b ≡ false → IsTrue b ↔ P x → IsTrue false ↔ All P xs
    one_missed b failed told = (
      (λ t. absurd (false≢true t)),
      (λ all. absurd (false≢true (sym failed ∙ told.1 (subst P (sym at) (all i x low))))),
    )

    pub one_all : P x → All P (take i xs) → All P (take (i + 1) xs)
    one_all p all = All-more P xs i x low all (subst P at p)

-- ---- sums
sum_in : (g : Gauge) (n : ℕ) (m : Count) (row : Row_of-Item m) → All (IsItemOver g n) (items-the_row-Item m row) → IsSumOver g n row
sum_in g n m end_of-Item all = tt
sum_in g n m (more_of-Item coef atom row) all =
    let item : Item = record { coef = coef; atom = atom } in
    let first = All-head (IsItemOver g n) item (items-the_row-Item _ row) all in
    (first.coef, first.atom, sum_in g n _ row (All-tail (IsItemOver g n) item (items-the_row-Item _ row) all))

expr_in : (g : Gauge) (n : ℕ) (x : Expr) → All (IsItemOver g n) (out-Expr x).items → IsWithin g (out-Expr x).constant → IsExprOver g n x
unfolding out-Expr denote.Hole.Carrier.out
expr_in g n (Expr' s row constant) all within =
    (sum_in g n _ row (subst (All (IsItemOver g n)) (items_shown-the_row-Item-2 s row) all), within)

pub expr_parts : (g : Gauge) (n : ℕ) (x : Expr) (items : List Item) (z : ℤ) → items ≡ (out-Expr x).items → z ≡ (out-Expr x).constant
    → IsExprOver g n x ↔ (IsWithin g z × All (IsItemOver g n) items)
expr_parts g n x items z is number = (
  (λ over. let parts = over-Expr g n x over in
      (subst (IsWithin g) (sym number) parts.1, subst (All (IsItemOver g n)) (sym is) parts.0)),
  (λ both. expr_in g n x (subst (All (IsItemOver g n)) is both.1) (subst (IsWithin g) number both.0)),
)

-- ---- atoms
pub column_parts : (g : Gauge) (n : ℕ) (x : Atom) (place : ℕ) → x ≡ Column place → IsAtomOver g n x ↔ (place < n)
column_parts g n x place is = (subst (IsAtomOver g n) is, subst (IsAtomOver g n) (sym is))

floor_in : (g : Gauge) (n : ℕ) (e : Expr) (k : ℤ) → IsExprOver g n e → pos 0 <ℤ k → IsWithin g k → IsAtomOver g n (Floor e k)
unfolding hidden-the_row-Expr-0 denote.Hole.Carrier.hidden
floor_in g n e k over above within = ((over, tt), above, within)

ceiling_in : (g : Gauge) (n : ℕ) (e : Expr) (k : ℤ) → IsExprOver g n e → pos 0 <ℤ k → IsWithin g k → IsAtomOver g n (Ceil e k)
unfolding hidden-the_row-Expr-0 denote.Hole.Carrier.hidden
ceiling_in g n e k over above within = ((over, tt), above, within)

abbrev pub IsDivisor : Gauge → ℤ → Type 0
IsDivisor g k = (pos 0 <ℤ k) × IsWithin g k

pub floor_parts : (g : Gauge) (n : ℕ) (x : Atom) (e inner : Expr) (k m : ℤ) → x ≡ Floor e k → inner ≡ e → m ≡ k
    → IsAtomOver g n x ↔ (IsDivisor g m × IsExprOver g n inner)
floor_parts g n x e inner k m is same number = (
  (λ over. let parts = over-Floor g n e k (subst (IsAtomOver g n) is over) in
      (subst (IsDivisor g) (sym number) (parts.1, parts.2), subst (IsExprOver g n) (sym same) parts.0)),
  (λ both. let divisor = subst (IsDivisor g) number both.0 in
      subst (IsAtomOver g n) (sym is) (floor_in g n e k (subst (IsExprOver g n) same both.1) divisor.0 divisor.1)),
)

pub ceiling_parts : (g : Gauge) (n : ℕ) (x : Atom) (e inner : Expr) (k m : ℤ) → x ≡ Ceil e k → inner ≡ e → m ≡ k
    → IsAtomOver g n x ↔ (IsDivisor g m × IsExprOver g n inner)
ceiling_parts g n x e inner k m is same number = (
  (λ over. let parts = over-Ceil g n e k (subst (IsAtomOver g n) is over) in
      (subst (IsDivisor g) (sym number) (parts.1, parts.2), subst (IsExprOver g n) (sym same) parts.0)),
  (λ both. let divisor = subst (IsDivisor g) number both.0 in
      subst (IsAtomOver g n) (sym is) (ceiling_in g n e k (subst (IsExprOver g n) same both.1) divisor.0 divisor.1)),
)

-- ---- two or more
abbrev AreTwo : Gauge → ℕ → List Expr → Type 0
AreTwo g n es = All (IsExprOver g n) es × (2 ≤ length es)

some_out : (g : Gauge) (n : ℕ) (m : Count) (row : Row_of-Expr m) → AreExprsOver g n row → AreSome row → AreTwo g n (items-the_row-Expr m row)
some_out g n m row over some = (all _ row over, two _ row some)
  where
    all : (m : Count) (row : Row_of-Expr m) → AreExprsOver g n row → All (IsExprOver g n) (items-the_row-Expr m row)
    all m end_of-Expr over = All-nil (IsExprOver g n)
    all m (more_of-Expr e row) over = All-cons (IsExprOver g n) e (items-the_row-Expr _ row) over.0 (all _ row over.1)

    two : (m : Count) (row : Row_of-Expr m) → AreSome row → 2 ≤ length (items-the_row-Expr m row)
    two m end_of-Expr some = elim some [ ]
    two m (more_of-Expr e end_of-Expr) some = elim some [ ]
    two m (more_of-Expr e (more_of-Expr f row)) some = omega arith

some_in : (g : Gauge) (n : ℕ) (m : Count) (row : Row_of-Expr m) → AreTwo g n (items-the_row-Expr m row) → AreExprsOver g n row × AreSome row
some_in g n m row two = (all _ row two.0, some _ row two.1)
  where
    all : (m : Count) (row : Row_of-Expr m) → All (IsExprOver g n) (items-the_row-Expr m row) → AreExprsOver g n row
    all m end_of-Expr over = tt
    all m (more_of-Expr e row) over = (
      All-head (IsExprOver g n) e (items-the_row-Expr _ row) over,
      all _ row (All-tail (IsExprOver g n) e (items-the_row-Expr _ row) over),
    )

    some : (m : Count) (row : Row_of-Expr m) → 2 ≤ length (items-the_row-Expr m row) → AreSome row
    some m end_of-Expr long = absurd (omega (arith, long))
    some m (more_of-Expr e end_of-Expr) long = absurd (omega (arith, long))
    some m (more_of-Expr e (more_of-Expr f row)) long = tt

pub least_parts : (g : Gauge) (n : ℕ) (x : Atom) (es slice : List Expr) → x ≡ Min es → slice ≡ es
    → IsAtomOver g n x ↔ (All (IsExprOver g n) slice × (2 ≤ length slice))
least_parts g n x es slice is same = (
  (λ over. let parts = subst (IsAtomOver g n) is over in
      subst (AreTwo g n) (items_hidden-the_row-Expr-1 es ∙ sym same) (some_out g n _ (hidden-the_row-Expr-1 es) parts.0 parts.1)),
  (λ two. subst (IsAtomOver g n) (sym is)
      (some_in g n _ (hidden-the_row-Expr-1 es) (subst (AreTwo g n) (same ∙ sym (items_hidden-the_row-Expr-1 es)) two))),
)

pub greatest_parts : (g : Gauge) (n : ℕ) (x : Atom) (es slice : List Expr) → x ≡ Max es → slice ≡ es
    → IsAtomOver g n x ↔ (All (IsExprOver g n) slice × (2 ≤ length slice))
greatest_parts g n x es slice is same = (
  (λ over. let parts = subst (IsAtomOver g n) is over in
      subst (AreTwo g n) (items_hidden-the_row-Expr-1 es ∙ sym same) (some_out g n _ (hidden-the_row-Expr-1 es) parts.0 parts.1)),
  (λ two. subst (IsAtomOver g n) (sym is)
      (some_in g n _ (hidden-the_row-Expr-1 es) (subst (AreTwo g n) (same ∙ sym (items_hidden-the_row-Expr-1 es)) two))),
)

-- ---- rows
pub rows_same : (a b : Row) → a.kind ≡ b.kind → a.constant ≡ b.constant → a.k ≡ b.k → b.coefs ≡ a.coefs → b ≡ a
rows_same a b kind constant k coefs = by b.kind a.kind b.coefs a.coefs b.constant a.constant b.k a.k (sym kind) coefs (sym constant) (sym k)
  where
    row : RowKind → List ℤ → ℤ → ℤ → Row
    row kind coefs constant k = record { kind = kind; coefs = coefs; constant = constant; k = k }

    by : (p q : RowKind) (cs ds : List ℤ) (x y m n : ℤ) → p ≡ q → cs ≡ ds → x ≡ y → m ≡ n → row p cs x m ≡ row q ds y n
    by p q cs ds x y m n e f g h = cc

-- ---- loops
loops_in : (g : Gauge) (n : ℕ) (m : Count) (row : Row_of-Loop m) → All (IsLoopOver g n) (items-the_row-Loop m row) → AreLoopsOver g n row
loops_in g n m end_of-Loop all = tt
loops_in g n m (more_of-Loop part row) all = (
  All-head (IsLoopOver g n) part (items-the_row-Loop _ row) all,
  loops_in g n _ row (All-tail (IsLoopOver g n) part (items-the_row-Loop _ row) all),
)

pub block_parts : (g : Gauge) (n : ℕ) (x : Loop) (parts slice : List Loop) → x ≡ Block parts → slice ≡ parts
    → IsLoopOver g n x ↔ All (IsLoopOver g n) slice
block_parts g n x parts slice is same = (
  (λ over. subst (All (IsLoopOver g n)) (sym same) (over-Block g n parts (subst (IsLoopOver g n) is over))),
  (λ all. subst (IsLoopOver g n) (sym is)
      (loops_in g n _ (hidden-the_row-Loop-0 parts)
      (subst (All (IsLoopOver g n)) (same ∙ sym (items_hidden-the_row-Loop-0 parts)) all))),
)

for_in : (g : Gauge) (n : ℕ) (low high : Expr) (step : ℤ) (body : Loop) → IsExprOver g n low → IsExprOver g n high → IsDivisor g step
    → IsLoopOver g (n + 1) body → IsLoopOver g n (For low high step body)
unfolding hidden-the_row-Loop-1 denote.Hole.Carrier.hidden
for_in g n low high step body first last divisor over = (first, last, divisor.0, divisor.1, (over, tt))

step_within : (g : Gauge) (n : ℕ) (low high : Expr) (step : ℤ) (body : Loop) → IsLoopOver g n (For low high step body) → IsWithin g step
step_within g n low high step body over = over.3

-- the two ends, the step, and the body
pub for_parts : (g : Gauge) (n more : ℕ) (x : Loop) (low high : Expr) (step m : ℤ) (body inner : Loop) → x ≡ For low high step body
    → inner ≡ body → m ≡ step → more ≡ n + 1
    → IsLoopOver g n x ↔ (IsExprOver g n low × IsExprOver g n high × IsDivisor g m × IsLoopOver g more inner)
for_parts g n more x low high step m body inner is same number one = (
  (λ over.
      let own = subst (IsLoopOver g n) is over in
      let parts = over-For g n low high step body own in (
        parts.0,
        parts.1,
        subst (IsDivisor g) (sym number) (parts.2, step_within g n low high step body own),
        subst (λ (k : ℕ). IsLoopOver g k inner) (sym one) (subst (IsLoopOver g (n + 1)) (sym same) parts.3),
      )),
  (λ all. subst (IsLoopOver g n) (sym is)
      (for_in g n low high step body all.0 all.1 (subst (IsDivisor g) number all.2)
      (subst (IsLoopOver g (n + 1)) same (subst (λ (k : ℕ). IsLoopOver g k inner) one all.3)))),
)

if_in : (g : Gauge) (n : ℕ) (rows : List Row) (body : Loop) → All (IsRowOver g n) rows → IsLoopOver g n body → IsLoopOver g n (If rows body)
unfolding hidden-the_row-Loop-1 denote.Hole.Carrier.hidden
if_in g n rows body all over = (all, (over, tt))

pub if_parts : (g : Gauge) (n : ℕ) (x : Loop) (rows slice : List Row) (body inner : Loop) → x ≡ If rows body → slice ≡ rows → inner ≡ body
    → IsLoopOver g n x ↔ (All (IsRowOver g n) slice × IsLoopOver g n inner)
if_parts g n x rows slice body inner is rows_are same = (
  (λ over. let parts = over-If g n rows body (subst (IsLoopOver g n) is over) in
      (subst (All (IsRowOver g n)) (sym rows_are) parts.0, subst (IsLoopOver g n) (sym same) parts.1)),
  (λ both. subst (IsLoopOver g n) (sym is)
      (if_in g n rows body (subst (All (IsRowOver g n)) rows_are both.0) (subst (IsLoopOver g n) same both.1))),
)

-- ---- what tests tell of the parts
module _ (g : Gauge) (n : ℕ) where
  pub expr_passed : (x : Expr) (items : List Item) (z : ℤ) (a b : Bool) → items ≡ (out-Expr x).items → z ≡ (out-Expr x).constant → a ≡ true
      → IsTrue a ↔ IsWithin g z → IsTrue b ↔ All (IsItemOver g n) items → IsTrue b ↔ IsExprOver g n x
  expr_passed x items z a b is number passed first second =
      both_tell (IsWithin g z) (All (IsItemOver g n) items) (IsExprOver g n x) a b (expr_parts g n x items z is number) passed first second

  pub expr_failed : (x : Expr) (z : ℤ) (a : Bool) → z ≡ (out-Expr x).constant → a ≡ false → IsTrue a ↔ IsWithin g z
      → IsTrue a ↔ IsExprOver g n x
  expr_failed x z a number failed first =
      first_fails (IsWithin g z) (All (IsItemOver g n) (out-Expr x).items) (IsExprOver g n x) a
      (expr_parts g n x (out-Expr x).items z refl number) first failed

  pub floor_passed : (x : Atom) (e inner : Expr) (k m : ℤ) (a b : Bool) → x ≡ Floor e k → inner ≡ e → m ≡ k → a ≡ true
      → IsTrue a ↔ IsDivisor g m → IsTrue b ↔ IsExprOver g n inner → IsTrue b ↔ IsAtomOver g n x
  floor_passed x e inner k m a b is same number passed first second =
      both_tell (IsDivisor g m) (IsExprOver g n inner) (IsAtomOver g n x) a b (floor_parts g n x e inner k m is same number) passed first
      second

  pub ceiling_passed : (x : Atom) (e inner : Expr) (k m : ℤ) (a b : Bool) → x ≡ Ceil e k → inner ≡ e → m ≡ k → a ≡ true
      → IsTrue a ↔ IsDivisor g m → IsTrue b ↔ IsExprOver g n inner → IsTrue b ↔ IsAtomOver g n x
  ceiling_passed x e inner k m a b is same number passed first second =
      both_tell (IsDivisor g m) (IsExprOver g n inner) (IsAtomOver g n x) a b (ceiling_parts g n x e inner k m is same number) passed first
      second

  pub least_told : (x : Atom) (es slice : List Expr) (b : Bool) → x ≡ Min es → slice ≡ es
      → IsTrue b ↔ (All (IsExprOver g n) slice × (2 ≤ length slice)) → IsTrue b ↔ IsAtomOver g n x
  least_told x es slice b is same told =
      same_told (IsAtomOver g n x) (All (IsExprOver g n) slice × (2 ≤ length slice)) b (least_parts g n x es slice is same) told

  pub greatest_told : (x : Atom) (es slice : List Expr) (b : Bool) → x ≡ Max es → slice ≡ es
      → IsTrue b ↔ (All (IsExprOver g n) slice × (2 ≤ length slice)) → IsTrue b ↔ IsAtomOver g n x
  greatest_told x es slice b is same told =
      same_told (IsAtomOver g n x) (All (IsExprOver g n) slice × (2 ≤ length slice)) b (greatest_parts g n x es slice is same) told

  pub block_told : {E : Type 0} (x : Loop) (parts slice : List Loop) (r : Result Bool E) → x ≡ Block parts → slice ≡ parts
      → IfOk r (λ b. IsTrue b ↔ All (IsLoopOver g n) slice) → IfOk r (λ b. IsTrue b ↔ IsLoopOver g n x)
  block_told x parts slice (Ok b) is same told =
      same_told (IsLoopOver g n x) (All (IsLoopOver g n) slice) b (block_parts g n x parts slice is same) told
  block_told x parts slice (Err e) is same told = told

  pub for_told : {E : Type 0} (more : ℕ) (x : Loop) (low high : Expr) (step m : ℤ) (body inner : Loop) (a b c : Bool) (r : Result Bool E)
      → x ≡ For low high step body → inner ≡ body → m ≡ step → more ≡ n + 1
      → a ≡ true → IsTrue a ↔ IsExprOver g n low → b ≡ true → IsTrue b ↔ IsExprOver g n high → c ≡ true → IsTrue c ↔ IsDivisor g m
      → IfOk r (λ d. IsTrue d ↔ IsLoopOver g more inner) → IfOk r (λ d. IsTrue d ↔ IsLoopOver g n x)
  for_told more x low high step m body inner a b c (Ok d) is same number one a_is first b_is second c_is third told =
      let parts = for_parts g n more x low high step m body inner is same number one in
      ((λ t. parts.1 (first.0 a_is, second.0 b_is, third.0 c_is, told.0 t)), (λ over. told.1 (parts.0 over).3))
  for_told more x low high step m body inner a b c (Err e) is same number one a_is first b_is second c_is third told = told

  pub if_told : {E : Type 0} (x : Loop) (rows slice : List Row) (body inner : Loop) (a : Bool) (r : Result Bool E) → x ≡ If rows body
      → slice ≡ rows → inner ≡ body → a ≡ true → IsTrue a ↔ All (IsRowOver g n) slice → IfOk r (λ b. IsTrue b ↔ IsLoopOver g n inner)
      → IfOk r (λ b. IsTrue b ↔ IsLoopOver g n x)
  if_told x rows slice body inner a (Ok b) is rows_are same passed first told =
      both_tell (All (IsRowOver g n) slice) (IsLoopOver g n inner) (IsLoopOver g n x) a b
      (if_parts g n x rows slice body inner is rows_are same) passed first told
  if_told x rows slice body inner a (Err e) is rows_are same passed first told = told
