-- What is within the limit of a meter is within that of one with the same limit.
use Rattle.std.proofs.Common.{◌≡◌, refl, sym, ap, subst, ℕ, ◌+◌, ◌<◌, ◌^◌, ℤ, List, [], ◌∷◌, get_or, length, Option, Some, None}
use Rattle.std.specs.Prelude.{unsigned_abs, MatchOption}
use Rattle.std.specs.List.{All}
use Rattle.std.proofs.lemmas.List.Elements.{All-cons, All-head, All-nil}
use Rattle.isl_meter.specs.Gauge.{Gauge, IsCharged, IsWithin}
use Rattle.isl_piece.specs.declared.row.Row.{Row}
use Rattle.isl_piece.specs.declared.system.System.{System}
use Rattle.isl_piece.specs.Row.{IsRowWithin}
use Rattle.isl_piece.specs.System.{HoldsSystem}
use Rattle.isl_piece.proofs.FormedLaws.{system_within_kept}
use Rattle.isl_piece.proofs.RowMagnitudes.{rows_within_kept}
use Rattle.isl_loop.specs.declared.tree.Expr.{Expr}
use Rattle.isl_loop.specs.declared.tree.Loop.{Call}
use Rattle.isl_loop.specs.Formed.{IsExprOver}
use Rattle.isl_loop.proofs.LimitLaws.{IsLoopOver-same}
use Rattle.isl_quast.specs.declared.tree.Quast.{Quast, Missing, Leaf, If', Row_of-Quast, end_of-Quast, more_of-Quast}
use Rattle.isl_quast.specs.Tree.{AreQuastsOver, IsQuastOver}
use Rattle.isl_greatest_law.specs.Case.{CaseView}
use Rattle.isl_greatest.specs.declared.state.State.{State}
use Rattle.isl_greatest.specs.declared.state.Trial.{Trial}
use Rattle.isl_greatest.specs.declared.state.Trial.TheVariants.{Entering, Bounding, Asking, Comparing}
use Rattle.isl_greatest.specs.Decision.{IsContext}
use Rattle.isl_greatest.specs.Expressed.{AreExpressed, IsTestOf}
use Rattle.isl_greatest.specs.Problem.{ProblemView, IsCaseWithin, IsProblem, cases_at}
use Rattle.isl_greatest.specs.declared.search.Settled.{Settled}
use Rattle.isl_greatest.specs.declared.search.Settled.TheVariants.{Ends, Away, Splits}
use Rattle.isl_greatest.specs.declared.search.Split.{Split}
use Rattle.isl_greatest.specs.Search.{AreEnds, IsSettled, IsSplit, IsTreeWithin}
use Rattle.isl_greatest.specs.State.{IsCandidate, IsFrame, IsQuestion, IsState, IsTrialOf}

pub bits_of : (g h : Gauge) → IsCharged g h → h.bits ≡ g.bits
bits_of g h charged = ap (λ (k : Gauge). k.bits) charged.same

module _ (g h : Gauge) (same : h.bits ≡ g.bits) where
  within : (z : ℤ) → IsWithin g z → IsWithin h z
  within z w = subst (λ (b : ℕ). unsigned_abs z < 2 ^ b) (sym same) w

  -- ---- systems
  pub frame_kept : (n : ℕ) (s : System) → IsFrame g n s → IsFrame h n s
  frame_kept n s frame = record { within = system_within_kept h g s (sym same) frame.within; rows = frame.rows; free = frame.free }

  pub candidate_kept : (n : ℕ) (chosen cur : System) → IsCandidate g n chosen cur → IsCandidate h n chosen cur
  candidate_kept n chosen cur cand = record {
    frame = frame_kept n cur cand.frame;
    definition = cand.definition;
    is = cand.is;
    columns = cand.columns;
  }

  pub question_kept : (n : ℕ) (s : System) → IsQuestion g n s → IsQuestion h n s
  question_kept n s asked = record {
    within = system_within_kept h g s (sym same) asked.within;
    free = asked.free;
    row = asked.row;
    rows = asked.rows;
    kind = asked.kind;
  }

  pub context_kept : (n : ℕ) (s : System) → IsContext g n s → IsContext h n s
  context_kept n s context = record {
    within = system_within_kept h g s (sym same) context.within;
    free = context.free;
    somewhere = context.somewhere;
  }

  -- ---- problems and states
  pub case_kept : (n : ℕ) (c : CaseView) → IsCaseWithin g n c → IsCaseWithin h n c
  case_kept n c own = record {
    case = own.case;
    tops = rows_within_kept h g c.tops (sym same) own.tops;
    others = rows_within_kept h g c.others (sym same) own.others;
    period = within c.period own.period;
  }

  pub problem_kept : (p : ProblemView) → IsProblem g p → IsProblem h p
  problem_kept p problem = record {
    cases = λ depth low k d inside. case_kept (p.front + depth) (get_or (cases_at p depth) k d) (problem.cases depth low k d inside);
    points = problem.points;
    some = problem.some;
    fits = problem.fits;
  }

  trial_kept : (p : ProblemView) (chosen : System) (i : ℕ) (t : Trial) → IsTrialOf g p chosen i t → IsTrialOf h p chosen i t
  trial_kept p chosen i Entering told = told
  trial_kept p chosen i (Bounding cur next) told = (candidate_kept p.front chosen cur told.0, told.1)
  trial_kept p chosen i (Asking cur tried next) told = (candidate_kept p.front chosen cur told.0, told.1, told.2, told.3)
  trial_kept p chosen i (Comparing cur) told = (candidate_kept p.front chosen cur told.0, told.1)

  pub state_kept : (p : ProblemView) (s : State) → IsState g p s → IsState h p s
  state_kept p s state = record {
    chosen = frame_kept p.front s.chosen state.chosen;
    depth_in = state.depth_in;
    whole = state.whole;
    best = by s.best refl;
    trial = trial_kept p s.chosen s.case s.trial state.trial;
  }
    where
      by : (b : Option System) → s.best ≡ b → MatchOption s.best (Unit {0}) (IsCandidate h p.front s.chosen)
      by None e = subst (λ (o : Option System). MatchOption o (Unit {0}) (IsCandidate h p.front s.chosen)) (sym e) tt
      by (Some best) e =
          subst (λ (o : Option System). MatchOption o (Unit {0}) (IsCandidate h p.front s.chosen)) (sym e)
          (candidate_kept p.front s.chosen best (subst (λ (o : Option System). MatchOption o (Unit {0}) (IsCandidate g p.front s.chosen)) e state.best))

  -- ---- what steps come to
  pub ends_kept : (p : ProblemView) (context : System) (end : Option System) → AreEnds g p context end → AreEnds h p context end
  ends_kept p context end told = record {
    frame = λ numbers is. let f = told.frame numbers is in (frame_kept p.front numbers f.0, f.1);
    ends = told.ends;
  }

  pub split_kept : (p : ProblemView) (context : System) (s : Split) → IsSplit g p context s → IsSplit h p context s
  split_kept p context s told = record {
    asked = question_kept p.front s.question told.asked;
    first = context_kept p.front s.inside told.first;
    second = context_kept p.front s.outside told.second;
    holds = told.holds;
    fails = told.fails;
    after_yes = state_kept p s.yes told.after_yes;
    after_no = state_kept p s.other told.after_no;
    reached_yes = told.reached_yes;
    reached_no = told.reached_no;
  }

  pub settled_kept : (p : ProblemView) (context : System) (s : Settled) → IsSettled g p context s → IsSettled h p context s
  settled_kept p context (Ends end) told = ends_kept p context end told
  settled_kept p context Away told = told
  settled_kept p context (Splits split) told = split_kept p context split told

  -- ---- trees
  pub exprs_kept : (n : ℕ) (es : List Expr) → All (IsExprOver g n) es → All (IsExprOver h n) es
  exprs_kept n es over = IsLoopOver-same g h n (Call None es) same over

  pub expr_kept : (n : ℕ) (e : Expr) → IsExprOver g n e → IsExprOver h n e
  expr_kept n e over = All-head (IsExprOver h n) e [] (exprs_kept n (e ∷ []) (All-cons (IsExprOver g n) e [] over (All-nil (IsExprOver g n))))

  pub leaf_kept : (n : ℕ) (numbers : System) (leaf : List Expr) → AreExpressed g n numbers leaf → AreExpressed h n numbers leaf
  leaf_kept n numbers leaf told = record { over = exprs_kept n leaf told.over; count = told.count; value = told.value }

  pub test_kept : (n : ℕ) (question : System) (e : Expr) → IsTestOf g n question e → IsTestOf h n question e
  test_kept n question e told = record { over = expr_kept n e told.over; tells = told.tells }

  mutual
    pub quast_kept : (n : ℕ) (tree : Quast) → IsQuastOver g n tree → IsQuastOver h n tree
    quast_kept n Missing over = over
    quast_kept n (Leaf exprs) over = exprs_kept n exprs over
    quast_kept n (If' test s up t down) over = (expr_kept n test over.0, quasts_kept n up over.1, quasts_kept n down over.2)

    quasts_kept : {m : _} → (n : ℕ) (row : Row_of-Quast m) → AreQuastsOver g n row → AreQuastsOver h n row
    quasts_kept n end_of-Quast over = over
    quasts_kept n (more_of-Quast tree rest) over = quast_kept n tree over

  pub tree_kept : (p : ProblemView) (Context : List ℤ → Type 0) (tree : Quast) → IsTreeWithin g p Context tree → IsTreeWithin h p Context tree
  tree_kept p Context tree made = record { gives = made.gives; over = quast_kept p.front tree made.over; width = made.width }
