-- The steps of the search: each leads from a state to the next one.
use Rattle.std.proofs.Common.{◌≡◌, ◌≢◌, ◌↔◌, ◌⊎◌, inl, inr, refl, sym, ap, ◌∙◌, subst, arith, ℕ, zero, suc, ◌+◌, ◌-◌, ◌<◌, ◌≤◌, ℤ, pos, ◌<ℤ◌, ◌≤ℤ◌, ◌+ℤ◌, ◌-ℤ◌}
use Rattle.std.proofs.Common.{List, [], ◌∷◌, ◌++◌, length, get_or, drop, Option, Some, None}
use Rattle.std.specs.Prelude.{MatchOption}
use Rattle.std.specs.List.{All}
use Rattle.std.proofs.lemmas.List.{append_assoc, length-append}
use Rattle.std.proofs.Math.Seq.{drop-append_seam}
use Rattle.isl_math.proofs.OrderLaws.{at_most_or_above}
use Rattle.isl_math.proofs.Ring.{linear}
use Rattle.isl_meter.specs.Gauge.{Gauge}
use Rattle.isl_piece.specs.declared.row.Row.{Row}
use Rattle.isl_piece.specs.declared.system.System.{System}
use Rattle.isl_piece.specs.Row.{HoldsRow}
use Rattle.isl_piece.specs.System.{HoldsSystem}
use Rattle.isl_greatest_law.specs.Case.{At, CaseView, IsCase, IsCongruence, IsSteep}
use Rattle.isl_greatest_law.specs.Front.{GivesGreatest, IsGreatestOf}
use Rattle.isl_greatest_law.specs.Stage.{IsAsking, IsBounding, IsLevel, IsOnLevel}
use Rattle.isl_greatest_law.proofs.StageLaws.{asks_all, asks_away, asks_next, asks_over, asks_tried, asks_yes, bounds_all, bounds_first, bounds_no, bounds_none, bounds_yes}
use Rattle.isl_greatest_law.proofs.StageLaws.{level_away, level_before, level_first, level_later, level_missing, level_more, level_none, level_whole}
use Rattle.isl_greatest.specs.declared.state.State.{State}
use Rattle.isl_greatest.specs.declared.state.Trial.{Trial}
use Rattle.isl_greatest.specs.declared.state.Trial.TheVariants.{Entering, Bounding, Asking, Comparing}
use Rattle.isl_greatest.specs.Next.{AsksFor, EndsIn, GoesOn, IsAsked, IsEnd, IsFailed, IsOtherAt, Leads, numbers_behind}
use Rattle.isl_greatest.specs.Numbers.{top_number}
use Rattle.isl_greatest.specs.Problem.{ProblemView, IsCaseWithin, IsListOf, IsProblem, cases_at}
use Rattle.isl_greatest.specs.State.{best_at, case_at, depth_of, full, number, IsCandidate, IsFrame, IsOnTrial, IsQuestion, IsStage, IsState, IsTrialOf, TrialSays}
use Rattle.isl_greatest.proofs.CandidateLaws.{frame_columns, full_behind}

pub default_free : {X : Type 0} (xs : List X) (i : ℕ) (d e : X) → i < length xs → get_or xs i d ≡ get_or xs i e
default_free [] i d e l = absurd (omega (arith, l))
default_free (x ∷ xs) zero d e l = refl
default_free (x ∷ xs) (suc i) d e l = default_free xs i d e (omega (arith, l))

module _ (g : Gauge) (p : ProblemView) (problem : IsProblem g p) (s : State) (state : IsState g p s) where
  -- ---- states
  columns_are : s.chosen.columns ≡ p.front + depth_of s
  columns_are = frame_columns g p.front s.chosen state.chosen

  -- another trial
  pub trial_state : (t : Trial) → depth_of s < length p.levels → IsTrialOf g p s.chosen s.case t → IsState g p (record s { trial = t })
  trial_state t low trial = record {
    chosen = state.chosen;
    depth_in = state.depth_in;
    whole = λ e. absurd (omega (arith, e, low));
    best = state.best;
    trial = trial;
  }

  -- another case
  pub case_state : (best : Option System) → depth_of s < length p.levels → MatchOption best (Unit {0}) (IsCandidate g p.front s.chosen)
      → IsState g p (record { chosen = s.chosen; case = s.case + 1; best = best; trial = Entering })
  case_state best low found = record {
    chosen = state.chosen;
    depth_in = state.depth_in;
    whole = λ e. absurd (omega (arith, e, low));
    best = found;
    trial = tt;
  }

  -- more numbers
  pub more_state : (cur : System) → depth_of s < length p.levels → IsCandidate g p.front s.chosen cur
      → IsState g p (record { chosen = cur; case = 0; best = None; trial = Entering })
  more_state cur low cand =
      let l = ap length cand.is ∙ length-append s.chosen.definitions (cand.definition ∷ []) in
      record {
        chosen = cand.frame;
        depth_in = omega (arith, l, low);
        whole = λ e. (refl, refl, refl);
        best = tt;
        trial = tt;
      }

  -- ---- where the front has these numbers
  module _ (v : List ℤ) (long : length v ≡ p.front) (stage : IsStage p s v) where
    q_long : length (v ++ stage.us) ≡ p.front + depth_of s
    q_long = let l = length-append v stage.us in let c = stage.count in omega (arith, l, c, long)

    at_number : (cur : System) → IsCandidate g p.front s.chosen cur → full cur v ≡ (v ++ stage.us) ++ number cur v ∷ []
    at_number cur cand = full_behind g p.front s.chosen cur v cand ∙ ap (λ q. q ++ number cur v ∷ []) stage.is

    holds_at : (cur : System) (row : Row) → IsCandidate g p.front s.chosen cur → HoldsRow row (full cur v)
        → HoldsRow row ((v ++ stage.us) ++ number cur v ∷ [])
    holds_at cur row cand h = subst (HoldsRow row) (at_number cur cand) h

    fails_at : (cur : System) (row : Row) → IsCandidate g p.front s.chosen cur → (¬ HoldsRow row (full cur v))
        → ¬ HoldsRow row ((v ++ stage.us) ++ number cur v ∷ [])
    fails_at cur row cand h at = h (subst (HoldsRow row) (sym (at_number cur cand)) at)

    level_here : depth_of s < length p.levels → IsLevel (IsListOf p v) v stage.us (cases_at p (depth_of s))
    level_here low =
        subst (λ n. IsLevel (IsListOf p v) v stage.us (cases_at p n)) stage.count
        (problem.points v stage.us long (let c = stage.count in omega (arith, c, low)))

    long_lists : (us : List ℤ) → IsListOf p v us → length us ≡ length p.levels
    long_lists us is = is.0

    top_is : (cur : System) (row : Row) → number cur v ≡ top_number s.chosen.columns row (full s.chosen v)
        → number cur v ≡ top_number (p.front + depth_of s) row (v ++ stage.us)
    top_is cur row is = is ∙ ap (λ n. top_number n row (full s.chosen v)) columns_are ∙ ap (top_number (p.front + depth_of s) row) stage.is

    -- the same level with another trial
    pub stage_trial : (t : Trial) → TrialSays (p.front + depth_of s) (case_at p (depth_of s) s.case) (v ++ stage.us) v t
        → IsStage p (record s { trial = t }) v
    stage_trial t says = record { us = stage.us; is = stage.is; count = stage.count; on = stage.on; trial = says }

    -- another case
    pub stage_case : (best : Option System) → IsOnLevel (IsListOf p v) v stage.us (cases_at p (depth_of s)) (s.case + 1) (best_at best v)
        → IsStage p (record { chosen = s.chosen; case = s.case + 1; best = best; trial = Entering }) v
    stage_case best on = record { us = stage.us; is = stage.is; count = stage.count; on = on; trial = tt }

    -- all cases were tried: the numbers go on
    pub stage_more : (cur : System) → depth_of s < length p.levels → length (cases_at p (depth_of s)) ≤ s.case → s.best ≡ Some cur
        → IsCandidate g p.front s.chosen cur → IsStage p (record { chosen = cur; case = 0; best = None; trial = Entering }) v
    stage_more cur low all best cand =
        let l = ap length cand.is ∙ length-append s.chosen.definitions (cand.definition ∷ []) in
        let n = length-append stage.us (number cur v ∷ []) in
        let c = stage.count in
        record {
          us = stage.us ++ number cur v ∷ [];
          is = at_number cur cand ∙ append_assoc v stage.us (number cur v ∷ []);
          count = omega (arith, l, n, c);
          on = level_more (IsListOf p v) v stage.us (cases_at p (depth_of s)) (length p.levels) long_lists s.case (number cur v)
              (cases_at p (length cur.definitions)) all (level_here low)
              (subst (λ (b : Option System). IsOnLevel (IsListOf p v) v stage.us (cases_at p (depth_of s)) s.case (best_at b v)) best stage.on);
          trial = tt;
        }

    pub stage_missing : depth_of s < length p.levels → length (cases_at p (depth_of s)) ≤ s.case → s.best ≡ None → GivesGreatest (IsListOf p v) None
    stage_missing low all best =
        level_missing (IsListOf p v) v stage.us (cases_at p (depth_of s)) (length p.levels) long_lists s.case all
        (let c = stage.count in omega (arith, c, low)) (level_here low)
        (subst (λ (b : Option System). IsOnLevel (IsListOf p v) v stage.us (cases_at p (depth_of s)) s.case (best_at b v)) best stage.on)

    pub stage_whole : depth_of s ≡ length p.levels → (copy : System) → copy ≡ s.chosen → GivesGreatest (IsListOf p v) (Some (numbers_behind p copy v))
    stage_whole e copy same =
        let parts = state.whole e in
        let on = subst (λ (b : Option System). IsOnLevel (IsListOf p v) v stage.us (cases_at p (depth_of s)) s.case (best_at b v)) parts.1 stage.on in
        let on' = subst (λ (i : ℕ). IsOnLevel (IsListOf p v) v stage.us (cases_at p (depth_of s)) i None) parts.0 on in
        let numbers : numbers_behind p copy v ≡ stage.us =
        ap (λ (c : System). drop p.front (full c v)) same ∙ ap (drop p.front) stage.is
        ∙ ap (λ n. drop n (v ++ stage.us)) (sym long) ∙ drop-append_seam v stage.us in
        subst (λ (us : List ℤ). GivesGreatest (IsListOf p v) (Some us)) (sym numbers)
        (level_whole (IsListOf p v) v stage.us (cases_at p (depth_of s)) (length p.levels) long_lists
        (let c = stage.count in omega (arith, c, e)) problem.some on')

  -- ---- a case on trial
  module _ (on : IsOnTrial p (depth_of s) s.case) where
    abbrev own : CaseView
    own = case_at p (depth_of s) s.case

    own_is : own ≡ get_or (cases_at p (depth_of s)) s.case own
    own_is = default_free (cases_at p (depth_of s)) s.case (record { tops = []; others = []; period = pos 1 }) own on.case_in

    pub own_within : IsCaseWithin g (p.front + depth_of s) (case_at p (depth_of s) s.case)
    own_within = problem.cases (depth_of s) on.depth_in s.case (record { tops = []; others = []; period = pos 1 }) on.case_in

    case : IsCase (p.front + depth_of s) own
    case = own_within.case

    -- the first bound
    pub goes_first : (row : Row) (cur : System) → s.trial ≡ Entering → 0 < length (case_at p (depth_of s) s.case).tops
        → row ≡ get_or (case_at p (depth_of s) s.case).tops 0 row → IsCandidate g p.front s.chosen cur
        → ((v : List ℤ) → number cur v ≡ top_number s.chosen.columns row (full s.chosen v))
        → GoesOn g p s (record s { trial = Bounding cur 1 })
    goes_first row cur entering some is cand top = record {
      state = trial_state (Bounding cur 1) on.depth_in (cand, on);
      leads = λ v long stage. stage_trial v long stage (Bounding cur 1)
          (subst (λ z. IsBounding own (v ++ stage.us) z 1) (sym (top_is v long stage cur row (top v)))
          (bounds_first (p.front + depth_of s) own (v ++ stage.us) case (q_long v long stage) row some is));
    }

    -- there is no bound
    pub goes_open : (cur : System) → length (case_at p (depth_of s) s.case).tops ≡ 0 → IsCandidate g p.front s.chosen cur
        → GoesOn g p s (record s { trial = Asking cur (pos 0) 0 })
    goes_open cur none cand = record {
      state = trial_state (Asking cur (pos 0) 0) on.depth_in (cand, on, omega (arith, linear), case.period);
      leads = λ v long stage. stage_trial v long stage (Asking cur (pos 0) 0)
          (bounds_none (p.front + depth_of s) own (v ++ stage.us) case (q_long v long stage) (number cur v) none);
    }

    says_bounding : (v : List ℤ) (stage : IsStage p s v) (cur : System) (next : ℕ) → s.trial ≡ Bounding cur next
        → IsBounding own (v ++ stage.us) (number cur v) next
    says_bounding v stage cur next is = subst (TrialSays (p.front + depth_of s) own (v ++ stage.us) v) is stage.trial

    says_asking : (v : List ℤ) (stage : IsStage p s v) (cur : System) (tried : ℤ) (next : ℕ) → s.trial ≡ Asking cur tried next
        → IsAsking (p.front + depth_of s) own (v ++ stage.us) (number cur v) tried next
    says_asking v stage cur tried next is = subst (TrialSays (p.front + depth_of s) own (v ++ stage.us) v) is stage.trial

    says_comparing : (v : List ℤ) (stage : IsStage p s v) (cur : System) → s.trial ≡ Comparing cur → IsGreatestOf (At own (v ++ stage.us)) (number cur v)
    says_comparing v stage cur is = subst (TrialSays (p.front + depth_of s) own (v ++ stage.us) v) is stage.trial

    -- all bounds were looked at
    pub goes_bounded : (cur copy : System) (next : ℕ) → s.trial ≡ Bounding cur next → copy ≡ cur → length (case_at p (depth_of s) s.case).tops ≤ next
        → IsCandidate g p.front s.chosen cur → GoesOn g p s (record s { trial = Asking copy (pos 0) 0 })
    goes_bounded cur copy next is same all cand = subst (λ (c : System). GoesOn g p s (record s { trial = Asking c (pos 0) 0 })) (sym same) (record {
      state = trial_state (Asking cur (pos 0) 0) on.depth_in (cand, on, omega (arith, linear), case.period);
      leads = λ v long stage. stage_trial v long stage (Asking cur (pos 0) 0)
          (bounds_all (p.front + depth_of s) own (v ++ stage.us) case (q_long v long stage) (number cur v) next all
          (says_bounding v stage cur next is));
    })

    -- a bound is asked
    pub asks_bound : (row : Row) (cur copy other question : System) (next : ℕ) → s.trial ≡ Bounding cur next → copy ≡ cur
        → next < length (case_at p (depth_of s) s.case).tops → row ≡ get_or (case_at p (depth_of s) s.case).tops next row
        → IsCandidate g p.front s.chosen cur → IsCandidate g p.front s.chosen other
        → ((v : List ℤ) → number other v ≡ top_number s.chosen.columns row (full s.chosen v))
        → IsQuestion g p.front question → ((v : List ℤ) → HoldsSystem question v ↔ HoldsRow row (full cur v))
        → AsksFor g p s question (record s { trial = Bounding copy (next + 1) }) (record s { trial = Bounding other (next + 1) })
    asks_bound row cur copy other question next is same inside read cand more top asked points =
        subst (λ (c : System). AsksFor g p s question (record s { trial = Bounding c (next + 1) }) (record s { trial = Bounding other (next + 1) }))
        (sym same) (record {
          asked = asked;
          after_yes = trial_state (Bounding cur (next + 1)) on.depth_in (cand, on);
          after_no = trial_state (Bounding other (next + 1)) on.depth_in (more, on);
          holds = λ v long stage so. stage_trial v long stage (Bounding cur (next + 1))
              (bounds_yes (p.front + depth_of s) own (v ++ stage.us) case (q_long v long stage) row (number cur v) next inside read
              (says_bounding v stage cur next is) (holds_at v long stage cur row cand ((points v).0 so)));
          fails = λ v long stage no'. stage_trial v long stage (Bounding other (next + 1))
              (subst (λ z. IsBounding own (v ++ stage.us) z (next + 1)) (sym (top_is v long stage other row (top v)))
              (bounds_no (p.front + depth_of s) own (v ++ stage.us) case (q_long v long stage) row (number cur v) next inside read
              (says_bounding v stage cur next is) (fails_at v long stage cur row cand (λ h. no' ((points v).1 h)))));
        })

    -- all other rows hold
    pub goes_comparing : (cur copy : System) (tried : ℤ) (next : ℕ) → s.trial ≡ Asking cur tried next → copy ≡ cur
        → length (case_at p (depth_of s) s.case).others ≤ next → 0 < length (case_at p (depth_of s) s.case).tops
        → IsCandidate g p.front s.chosen cur → GoesOn g p s (record s { trial = Comparing copy })
    goes_comparing cur copy tried next is same all some cand = subst (λ (c : System). GoesOn g p s (record s { trial = Comparing c })) (sym same) (record {
      state = trial_state (Comparing cur) on.depth_in (cand, on);
      leads = λ v long stage. stage_trial v long stage (Comparing cur)
          (asks_all (p.front + depth_of s) own (v ++ stage.us) case (q_long v long stage) (number cur v) tried next all some
          (says_asking v stage cur tried next is));
    })

    pub goes_away : (cur : System) (tried : ℤ) (next : ℕ) → s.trial ≡ Asking cur tried next
        → length (case_at p (depth_of s) s.case).others ≤ next → length (case_at p (depth_of s) s.case).tops ≡ 0
        → (v : List ℤ) → length v ≡ p.front → IsStage p s v → (r : Option (List ℤ)) → ¬ GivesGreatest (IsListOf p v) r
    goes_away cur tried next is all none v long stage r =
        level_away (IsListOf p v) v stage.us (cases_at p (depth_of s)) (length p.levels) (long_lists v long stage) own s.case (best_at s.best v)
        on.case_in own_is (let c = stage.count in let d = on.depth_in in omega (arith, c, d)) (level_here v long stage on.depth_in) stage.on
        (asks_away (p.front + depth_of s) own (v ++ stage.us) case (q_long v long stage) (number cur v) tried next all none
        (says_asking v stage cur tried next is)) r

    asking_yes : (row : Row) (cur : System) (tried : ℤ) (next : ℕ) → s.trial ≡ Asking cur tried next → IsOtherAt own next row
        → (v : List ℤ) (long : length v ≡ p.front) (stage : IsStage p s v)
        → ((length own.tops ≡ 0 → ¬ IsSteep (p.front + depth_of s) row) → HoldsRow row ((v ++ stage.us) ++ number cur v ∷ []))
        → IsStage p (record s { trial = Asking cur tried (next + 1) }) v
    asking_yes row cur tried next is at v long stage holds =
        stage_trial v long stage (Asking cur tried (next + 1))
        (asks_yes (p.front + depth_of s) own (v ++ stage.us) case (q_long v long stage) row (number cur v) tried next at.0 at.1
        (says_asking v stage cur tried next is) holds)

    -- a bound from below, where nothing bounds the numbers from above
    pub goes_steep : (row : Row) (cur copy : System) (tried : ℤ) (next : ℕ) → s.trial ≡ Asking cur tried next → copy ≡ cur
        → IsOtherAt (case_at p (depth_of s) s.case) next row → length (case_at p (depth_of s) s.case).tops ≡ 0 → IsSteep (p.front + depth_of s) row
        → IsTrialOf g p s.chosen s.case (Asking cur tried next) → GoesOn g p s (record s { trial = Asking copy tried (next + 1) })
    goes_steep row cur copy tried next is same at none steep trial =
        subst (λ (c : System). GoesOn g p s (record s { trial = Asking c tried (next + 1) })) (sym same) (record {
          state = trial_state (Asking cur tried (next + 1)) on.depth_in trial;
          leads = λ v long stage. asking_yes row cur tried next is at v long stage (λ flat. absurd (flat none steep));
        })

    -- another row is asked
    pub asks_other : (row : Row) (cur copy question : System) (other : State) (tried : ℤ) (next : ℕ) → s.trial ≡ Asking cur tried next → copy ≡ cur
        → IsOtherAt (case_at p (depth_of s) s.case) next row → IsTrialOf g p s.chosen s.case (Asking cur tried next)
        → IsQuestion g p.front question → ((v : List ℤ) → HoldsSystem question v ↔ HoldsRow row (full cur v)) → IsFailed g p s row cur other
        → AsksFor g p s question (record s { trial = Asking copy tried (next + 1) }) other
    asks_other row cur copy question other tried next is same at trial asked points failed =
        subst (λ (c : System). AsksFor g p s question (record s { trial = Asking c tried (next + 1) }) other) (sym same) (record {
          asked = asked;
          after_yes = trial_state (Asking cur tried (next + 1)) on.depth_in trial;
          after_no = failed.state;
          holds = λ v long stage so. asking_yes row cur tried next is at v long stage
              (λ flat. holds_at v long stage cur row trial.0 ((points v).0 so));
          fails = λ v long stage no'. failed.fails v long stage (λ h. no' ((points v).1 h));
        })

    -- it fails, and the case has no number
    none_here : (v : List ℤ) (long : length v ≡ p.front) (stage : IsStage p s v) → ((z : ℤ) → ¬ At own (v ++ stage.us) z)
        → IsStage p (record { chosen = s.chosen; case = s.case + 1; best = s.best; trial = Entering }) v
    none_here v long stage none =
        stage_case v long stage s.best (level_none (IsListOf p v) v stage.us (cases_at p (depth_of s)) s.case (best_at s.best v) own on.case_in own_is
        stage.on none)

    pub fails_case : (row : Row) (cur : System) (tried : ℤ) (next : ℕ) → s.trial ≡ Asking cur tried next
        → IsOtherAt (case_at p (depth_of s) s.case) next row → IsAsked p s (case_at p (depth_of s) s.case) row
        → IsCandidate g p.front s.chosen cur → (IsCongruence row → (case_at p (depth_of s) s.case).period ≤ℤ (tried +ℤ pos 1)) → (IsCongruence row ⊎ (¬ IsCongruence row))
        → IsFailed g p s row cur (record { chosen = s.chosen; case = s.case + 1; best = s.best; trial = Entering })
    fails_case row cur tried next is at asked cand last sort = record {
      state = case_state s.best on.depth_in state.best;
      fails = λ v long stage no'. none_here v long stage
          (elim sort [
            | inl congruence ↦ asks_tried (p.front + depth_of s) own (v ++ stage.us) case (q_long v long stage) row (number cur v) tried next at.0 at.1
                (says_asking v stage cur tried next is) congruence (fails_at v long stage cur row cand no') (last congruence)
            | inr other ↦ asks_over (p.front + depth_of s) own (v ++ stage.us) case (q_long v long stage) row (number cur v) tried next at.0 at.1
                (says_asking v stage cur tried next is) other asked (fails_at v long stage cur row cand no')
          ]);
    }

    pub fails_next : (row : Row) (cur lower : System) (tried more : ℤ) (next : ℕ) → s.trial ≡ Asking cur tried next
        → IsOtherAt (case_at p (depth_of s) s.case) next row → IsTrialOf g p s.chosen s.case (Asking cur tried next)
        → IsCandidate g p.front s.chosen lower → ((v : List ℤ) → number lower v ≡ number cur v -ℤ pos 1) → IsCongruence row
        → more ≡ tried +ℤ pos 1 → more <ℤ (case_at p (depth_of s) s.case).period
        → IsFailed g p s row cur (record s { trial = Asking lower more 0 })
    fails_next row cur lower tried more next is at trial cand less congruence count few =
        let some = trial.2 in
        record {
          state = trial_state (Asking lower more 0) on.depth_in (cand, on, omega (arith, linear, some, count), few);
          fails = λ v long stage no'. stage_trial v long stage (Asking lower more 0)
              (subst (λ m. IsAsking (p.front + depth_of s) own (v ++ stage.us) (number lower v) m 0) (sym count)
              (subst (λ z. IsAsking (p.front + depth_of s) own (v ++ stage.us) z (tried +ℤ pos 1) 0) (sym (less v))
              (asks_next (p.front + depth_of s) own (v ++ stage.us) case (q_long v long stage) row (number cur v) tried next at.0 at.1
              (says_asking v stage cur tried next is) congruence (fails_at v long stage cur row trial.0 no'))));
        }

    -- the number is the first one, or it is compared with the best one
    pub goes_best : (cur copy : System) → s.trial ≡ Comparing cur → copy ≡ cur → s.best ≡ None → IsCandidate g p.front s.chosen cur
        → GoesOn g p s (record { chosen = s.chosen; case = s.case + 1; best = Some copy; trial = Entering })
    goes_best cur copy is same none cand =
        subst (λ (c : System). GoesOn g p s (record { chosen = s.chosen; case = s.case + 1; best = Some c; trial = Entering })) (sym same) (record {
          state = case_state (Some cur) on.depth_in cand;
          leads = λ v long stage. stage_case v long stage (Some cur)
              (level_first (IsListOf p v) v stage.us (cases_at p (depth_of s)) s.case (number cur v) own on.case_in own_is
              (subst (λ (b : Option System). IsOnLevel (IsListOf p v) v stage.us (cases_at p (depth_of s)) s.case (best_at b v)) none stage.on)
              (says_comparing v stage cur is));
        })

    pub asks_best : (cur copy best question : System) → s.trial ≡ Comparing cur → copy ≡ cur → s.best ≡ Some best → IsCandidate g p.front s.chosen cur
        → IsQuestion g p.front question
        → ((v : List ℤ) → length v ≡ p.front → HoldsSystem question v ↔ (number best v <ℤ number cur v))
        → AsksFor g p s question (record { chosen = s.chosen; case = s.case + 1; best = Some copy; trial = Entering })
        (record { chosen = s.chosen; case = s.case + 1; best = s.best; trial = Entering })
    asks_best cur copy best question is same found cand asked points =
        subst (λ (c : System). AsksFor g p s question (record { chosen = s.chosen; case = s.case + 1; best = Some c; trial = Entering })
        (record { chosen = s.chosen; case = s.case + 1; best = s.best; trial = Entering })) (sym same) (record {
          asked = asked;
          after_yes = case_state (Some cur) on.depth_in cand;
          after_no = case_state s.best on.depth_in state.best;
          holds = λ v long stage so. stage_case v long stage (Some cur)
              (level_later (IsListOf p v) v stage.us (cases_at p (depth_of s)) s.case (number best v) (number cur v) own on.case_in own_is
              (subst (λ (b : Option System). IsOnLevel (IsListOf p v) v stage.us (cases_at p (depth_of s)) s.case (best_at b v)) found stage.on)
              (says_comparing v stage cur is) ((points v long).0 so));
          fails = λ v long stage no'. stage_case v long stage s.best
              (subst (λ (b : Option System). IsOnLevel (IsListOf p v) v stage.us (cases_at p (depth_of s)) (s.case + 1) (best_at b v)) (sym found)
              (level_before (IsListOf p v) v stage.us (cases_at p (depth_of s)) s.case (number best v) (number cur v) own on.case_in own_is
              (subst (λ (b : Option System). IsOnLevel (IsListOf p v) v stage.us (cases_at p (depth_of s)) s.case (best_at b v)) found stage.on)
              (says_comparing v stage cur is)
              (elim (at_most_or_above (number cur v) (number best v)) [
                | inl low ↦ low
                | inr above ↦ absurd (no' ((points v long).1 above))
              ])));
        })
