-- Trees that are right wherever a context holds.
use Rattle.std.proofs.Common.{◌≡◌, ◌⊎◌, ◌↔◌, inl, inr, refl, sym, ap, ◌∙◌, subst, arith, ℕ, ◌+◌, ◌<◌, ℤ, pos, neg_ℤ, ◌<ℤ◌, ◌≤ℤ◌, Bool, true, false}
use Rattle.std.proofs.Common.{List, [], ◌∷◌, ◌++◌, length, drop, map, replicate, Option, Some, None}
use Rattle.std.specs.Prelude.{int_lt, if◌then◌else◌, option_map}
use Rattle.std.specs.List.{All}
use Rattle.std.proofs.lemmas.List.{append-nil, length-append, length-replicate}
use Rattle.std.proofs.lemmas.List.Elements.{All-nil}
use Rattle.isl_math.proofs.Ring.{linear}
use Rattle.isl_meter.specs.Gauge.{Gauge}
use Rattle.isl_piece.specs.declared.definition.Definition.{Definition}
use Rattle.isl_piece.specs.declared.system.System.{System}
use Rattle.isl_piece.specs.Definition.{with_defined}
use Rattle.isl_piece.specs.System.{HoldRows, HoldsSystem}
use Rattle.isl_piece.specs.Row.{HoldsRow, IsRowWithin, IsWellFormed}
use Rattle.isl_elim.specs.Sample.{IsNowhere}
use Rattle.isl_loop.specs.declared.tree.Expr.{Expr}
use Rattle.isl_loop.specs.Expr.{expr_value}
use Rattle.isl_quast.specs.declared.tree.Quast.{Quast, Missing, Leaf, If}
use Rattle.isl_quast.specs.Tree.{quast_at, HasWidth, IsQuastOver}
use Rattle.isl_quast.proofs.TreeLaws.{at-If, If-over, If-width}
use Rattle.isl_greatest_law.specs.Front.{GivesGreatest, IsGreatest}
use Rattle.isl_greatest_law.proofs.StageLaws.{level_start}
use Rattle.isl_greatest.specs.declared.state.State.{State}
use Rattle.isl_greatest.specs.declared.state.Trial.TheVariants.{Entering}
use Rattle.isl_greatest.specs.Decision.{AreParted, IsContext}
use Rattle.isl_greatest.specs.Expressed.{AreExpressed, IsTestOf}
use Rattle.isl_greatest.specs.Next.{AsksFor, EndsIn, GoesOn, IsEnd, numbers_behind}
use Rattle.isl_greatest.specs.Problem.{ProblemView, IsListOf, IsProblem, cases_at}
use Rattle.isl_greatest.specs.Search.{AllHaveGreatest, AreEnds, EndsAt, HasGreatest, IsReached, IsSplit, IsTreeWithin}
use Rattle.isl_greatest.specs.State.{depth_of, full, IsFrame, IsQuestion, IsStage, IsState}
use Rattle.isl_greatest.proofs.DecideLaws.{question_sorts}

-- ---- steps
pub reached_goes : (g : Gauge) (p : ProblemView) (context : System) (s t : State) → IsReached p context s → GoesOn g p s t → IsReached p context t
reached_goes g p context s t reached goes v long h = goes.leads v long (reached v long h)

pub reached_yes : (g : Gauge) (p : ProblemView) (context question : System) (s so other : State) → IsReached p context s
    → AsksFor g p s question so other → ((v : List ℤ) → length v ≡ p.front → HoldsSystem context v → HoldsSystem question v) → IsReached p context so
reached_yes g p context question s so other reached asks holds v long h = asks.holds v long (reached v long h) (holds v long h)

pub reached_no : (g : Gauge) (p : ProblemView) (context question : System) (s so other : State) → IsReached p context s
    → AsksFor g p s question so other → ((v : List ℤ) → length v ≡ p.front → HoldsSystem context v → ¬ HoldsSystem question v) → IsReached p context other
reached_no g p context question s so other reached asks fails v long h = asks.fails v long (reached v long h) (fails v long h)

pub ends_at : (g : Gauge) (p : ProblemView) (context : System) (s : State) (end : Option System) → IsReached p context s → IsEnd g p s end
    → AreEnds g p context end
ends_at g p context s None reached end = record { frame = end.frame; ends = λ v long h. end.ends v long (reached v long h) }
ends_at g p context s (Some numbers) reached end = record { frame = end.frame; ends = λ v long h. end.ends v long (reached v long h) }

pub away_at : (p : ProblemView) (context : System) (s : State) → IsReached p context s
    → ((v : List ℤ) → length v ≡ p.front → IsStage p s v → (r : Option (List ℤ)) → ¬ GivesGreatest (IsListOf p v) r)
    → (v : List ℤ) → length v ≡ p.front → HoldsSystem context v → (r : Option (List ℤ)) → ¬ GivesGreatest (IsListOf p v) r
away_at p context s reached away v long h r = away v long (reached v long h) r

pub split_at : (g : Gauge) (p : ProblemView) (context question inside outside : System) (s so other : State) → IsReached p context s
    → AsksFor g p s question so other → AreParted g p.front context question inside outside
    → IsSplit g p context (record { question = question; inside = inside; outside = outside; yes = so; other = other })
split_at g p context question inside outside s so other reached asks parted = record {
  asked = asks.asked;
  first = parted.first;
  second = parted.second;
  holds = parted.either;
  fails = parted.other;
  after_yes = asks.after_yes;
  after_no = asks.after_no;
  reached_yes = λ v long h. let both = parted.holds v long h in asks.holds v long (reached v long both.0) both.1;
  reached_no = λ v long h. let both = parted.fails v long h in asks.fails v long (reached v long both.0) both.1;
}

-- ---- trees
pub tree_missing : (g : Gauge) (p : ProblemView) (context : System) → AreEnds g p context None → IsTreeWithin g p (HoldsSystem context) Missing
tree_missing g p context ends = record { gives = ends.ends; over = tt; width = tt }

twice : (xs : List ℤ) → map neg_ℤ (map neg_ℤ xs) ≡ xs
twice [] = refl
twice (x ∷ xs) = by (neg_ℤ (neg_ℤ x)) x (omega (arith, linear)) (map neg_ℤ (map neg_ℤ xs)) xs (twice xs)
  where
    by : (a b : ℤ) → a ≡ b → (us vs : List ℤ) → us ≡ vs → (a ∷ us) ≡ (b ∷ vs)
    by a b e us vs f = cc

pub tree_leaf : (g : Gauge) (p : ProblemView) (context numbers : System) (leaf : List Expr) → AreEnds g p context (Some numbers)
    → AreExpressed g p.front numbers leaf → IsTreeWithin g p (HoldsSystem context) (Leaf leaf)
tree_leaf g p context numbers leaf ends expressed = record {
  gives = λ v long h.
      let values : map neg_ℤ (map (λ e. expr_value e v) leaf) ≡ numbers_behind p numbers v =
      ap (map neg_ℤ) (expressed.value v long) ∙ twice (numbers_behind p numbers v) in
      subst (λ (us : List ℤ). GivesGreatest (IsListOf p v) (Some us)) (sym values) (ends.ends v long h);
  over = expressed.over;
  width =
      let c = expressed.count in
      let f = ends.frame numbers refl in
      let free = f.0.free in
      let inside = f.0.within.count in
      let d = f.1 in
      omega (arith, c, free, inside, d);
}

below : (z : ℤ) → ¬ (pos 0 ≤ℤ z) → int_lt z (pos 0) ≡ true
below z n = grind (arith, linear)

not_below : (z : ℤ) → pos 0 ≤ℤ z → int_lt z (pos 0) ≡ false
not_below z n = grind (arith, linear)

pub tree_if : (g : Gauge) (p : ProblemView) (context question inside outside : System) (test : Expr) (up down : Quast)
    → IsQuestion g p.front question
    → ((v : List ℤ) → length v ≡ p.front → HoldsSystem context v → HoldsSystem question v → HoldsSystem inside v)
    → ((v : List ℤ) → length v ≡ p.front → HoldsSystem context v → (¬ HoldsSystem question v) → HoldsSystem outside v)
    → IsTestOf g p.front question test → IsTreeWithin g p (HoldsSystem inside) up → IsTreeWithin g p (HoldsSystem outside) down
    → IsTreeWithin g p (HoldsSystem context) (If test up down)
tree_if g p context question inside outside test up down asked holds fails tells first second = record {
  gives = λ v long h. elim (question_sorts g p.front question v asked) [
    | inl so ↦
        let value : quast_at (If test up down) v ≡ quast_at up v =
        at-If test up down v ∙ ap (λ (b : Bool). if b then quast_at down v else quast_at up v) (not_below (expr_value test v) ((tells.tells v long).1 so)) in
        subst (λ (r : Option (List ℤ)). GivesGreatest (IsListOf p v) (option_map (map neg_ℤ) r)) (sym value) (first.gives v long (holds v long h so))
    | inr no' ↦
        let value : quast_at (If test up down) v ≡ quast_at down v =
        at-If test up down v
        ∙ ap (λ (b : Bool). if b then quast_at down v else quast_at up v) (below (expr_value test v) (λ x. no' ((tells.tells v long).0 x))) in
        subst (λ (r : Option (List ℤ)). GivesGreatest (IsListOf p v) (option_map (map neg_ℤ) r)) (sym value) (second.gives v long (fails v long h no'))
  ];
  over = If-over g p.front test up down tells.over first.over second.over;
  width = If-width (length p.levels) test up down first.width second.width;
}

-- ---- no tree
pub none_greatest : (g : Gauge) (p : ProblemView) (context : System) → IsContext g p.front context
    → ((v : List ℤ) → length v ≡ p.front → HoldsSystem context v → (r : Option (List ℤ)) → ¬ GivesGreatest (IsListOf p v) r) → ¬ AllHaveGreatest p
none_greatest g p context c away all = c.somewhere (λ v long h.
    away v long h None (λ us is. let most = all v long us is in away v long h (Some most.0) most.1))

-- ---- the start
pub start_state : (g : Gauge) (p : ProblemView) (chosen : System) → IsProblem g p → IsFrame g p.front chosen → chosen.definitions ≡ []
    → IsState g p (record { chosen = chosen; case = 0; best = None; trial = Entering })
start_state g p chosen problem frame none = record {
  chosen = frame;
  depth_in = let l = ap length none in omega (arith, l);
  whole = λ e. (refl, refl, refl);
  best = tt;
  trial = tt;
}

pub start_reached : (p : ProblemView) (context chosen : System) → chosen.definitions ≡ []
    → IsReached p context (record { chosen = chosen; case = 0; best = None; trial = Entering })
start_reached p context chosen none v long h = record {
  us = [];
  is = ap (λ (ds : List Definition). with_defined ds v) none ∙ sym (append-nil v);
  count = sym (ap length none);
  on = level_start (IsListOf p v) v [] (cases_at p (length chosen.definitions)) (length p.levels) (λ ys is. is.0) refl;
  trial = tt;
}

pub empty_frame : (g : Gauge) (n : ℕ) (s : System) → s ≡ record { columns = n; definitions = []; rows = [] } → IsFrame g n s
empty_frame g n s is = subst (IsFrame g n) (sym is) (record {
  within = record { rows = All-nil (IsWellFormed n); within = All-nil (IsRowWithin g); count = omega arith; definitions = tt };
  rows = refl;
  free = omega arith;
})

pub empty_context : (g : Gauge) (n : ℕ) (s : System) → s ≡ record { columns = n; definitions = []; rows = [] } → IsContext g n s
empty_context g n s is = subst (IsContext g n) (sym is) (record {
  within = (empty_frame g n (record { columns = n; definitions = []; rows = [] }) refl).within;
  free = omega arith;
  somewhere = λ none. none (replicate n (pos 0)) (length-replicate n (pos 0)) (All-nil (λ r. HoldsRow r (replicate n (pos 0))));
})

-- without rows it holds everywhere
pub tree_everywhere : (g : Gauge) (p : ProblemView) (context : System) (tree : Quast) → context.rows ≡ []
    → IsTreeWithin g p (HoldsSystem context) tree → IsTreeWithin g p (λ _. Unit {0}) tree
tree_everywhere g p context tree none made = record {
  gives = λ v long h. made.gives v long (subst (λ rs. HoldRows rs (full context v)) (sym none) (All-nil (λ r. HoldsRow r (full context v))));
  over = made.over;
  width = made.width;
}
