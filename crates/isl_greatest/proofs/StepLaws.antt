-- The steps of the search, as the code makes them.
use Rattle.std.proofs.Common.{◌≡◌, ◌≢◌, ◌↔◌, ◌⊎◌, inl, inr, refl, sym, ap, ◌∙◌, subst, arith, ℕ, ◌+◌, ◌-◌, ◌<◌, ◌≤◌, ℤ, pos, ◌<ℤ◌, ◌≤ℤ◌, ◌+ℤ◌, ◌-ℤ◌}
use Rattle.std.proofs.Common.{List, [], ◌∷◌, ◌++◌, length, get_or, Option, Some, None, true, false, int_le}
use Rattle.std.specs.Int.{w128}
use Rattle.std.specs.Prelude.{slice_get, FitsSigned, MatchOption}
use Rattle.std.specs.List.{All}
use Rattle.std.proofs.lemmas.Int.{ints}
use Rattle.isl_meter.specs.Gauge.{Gauge}
use Rattle.isl_piece.specs.declared.row.RowKind.TheVariants as kind
use Rattle.isl_piece.specs.declared.row.Row.{Row}
use Rattle.isl_piece.specs.declared.system.System.{System}
use Rattle.isl_piece.specs.Row.{HoldsRow, IsRowWithin, IsWellFormed}
use Rattle.isl_piece.specs.System.{HoldsSystem, free_columns}
use Rattle.isl_greatest_law.specs.Case.{CaseView, IsBound, IsCongruence, IsOther, IsRising, IsSteep, IsTop}
use Rattle.isl_greatest.specs.declared.state.State.{State}
use Rattle.isl_greatest.specs.declared.state.Trial.{Trial}
use Rattle.isl_greatest.specs.declared.state.Trial.TheVariants.{Entering, Bounding, Asking, Comparing}
use Rattle.isl_greatest.specs.Next.{AsksFor, GoesOn, IsEnd, IsOtherAt}
use Rattle.isl_greatest.specs.Problem.{ProblemView, IsCaseWithin, IsProblem, cases_at}
use Rattle.isl_greatest.specs.State.{case_at, depth_of, full, number, IsCandidate, IsFrame, IsOnTrial, IsQuestion, IsState, IsTrialOf}
use Rattle.isl_greatest.proofs.CandidateLaws.{frame_columns}
use Rattle.isl_greatest.proofs.StateLaws.{default_free, more_state, own_within, stage_missing, stage_more, stage_whole}

-- ---- lists and numbers as they are read
pub first_some : {X : Type 0} (xs : List X) (x : X) → slice_get xs 0 ≡ Some x → (0 < length xs) × (x ≡ get_or xs 0 x)
first_some [] x e = absurd (by x e)
  where
    by : {X : Type 0} (x : X) → None ≡ Some x → ⊥
    by x e = cc
first_some (y ∷ xs) x e = (omega arith, by y x e)
  where
    by : {X : Type 0} (y x : X) → Some y ≡ Some x → x ≡ y
    by y x e = cc

pub first_none : {X : Type 0} (xs : List X) → slice_get xs 0 ≡ None → length xs ≡ 0
first_none [] e = refl
first_none (y ∷ xs) e = absurd (by y e)
  where
    by : {X : Type 0} (y : X) → Some y ≡ None → ⊥
    by y e = cc

-- one more than a number below another one fits
pub at_most : (a b : ℤ) → int_le a b ≡ true → a ≤ℤ b
at_most a b told = omega (arith, ints, told)

pub above : (a b : ℤ) → int_le a b ≡ false → b <ℤ a
above a b told = omega (arith, ints, told)

pub more_fits : (tried read period : ℤ) → FitsSigned w128 period → pos 0 ≤ℤ tried → tried <ℤ period → read ≡ tried → FitsSigned w128 (read +ℤ pos 1)
more_fits tried read period fits low few is = omega (arith, ints, fits, low, few, is)

-- ---- with the columns that a system has
pub own_frame : (g : Gauge) (n : ℕ) (s : System) → IsFrame g n s → IsFrame g (free_columns s) s
own_frame g n s frame = subst (λ k. IsFrame g k s) (sym frame.free) frame

pub own_candidate : (g : Gauge) (n : ℕ) (chosen cur : System) → IsFrame g n chosen → IsCandidate g n chosen cur
    → IsCandidate g (free_columns chosen) chosen cur
own_candidate g n chosen cur frame cand = subst (λ k. IsCandidate g k chosen cur) (sym frame.free) cand

pub back_candidate : (g : Gauge) (n : ℕ) (chosen cur : System) → IsFrame g n chosen → IsCandidate g (free_columns chosen) chosen cur
    → IsCandidate g n chosen cur
back_candidate g n chosen cur frame cand = subst (λ k. IsCandidate g k chosen cur) frame.free cand

pub back_question : (g : Gauge) (n : ℕ) (s question : System) → IsFrame g n s → IsQuestion g (free_columns s) question → IsQuestion g n question
back_question g n s question frame asked = subst (λ k. IsQuestion g k question) frame.free asked

-- ---- a state's own
module _ (g : Gauge) (p : ProblemView) (problem : IsProblem g p) (s : State) (state : IsState g p s) where
  chosen_columns : s.chosen.columns ≡ p.front + depth_of s
  chosen_columns = frame_columns g p.front s.chosen state.chosen

  -- what a trial says of itself
  pub trial_bounding : (cur : System) (next : ℕ) → s.trial ≡ Bounding cur next
      → IsCandidate g p.front s.chosen cur × IsOnTrial p (depth_of s) s.case
  trial_bounding cur next is = subst (IsTrialOf g p s.chosen s.case) is state.trial

  pub trial_asking : (cur : System) (tried : ℤ) (next : ℕ) → s.trial ≡ Asking cur tried next → IsTrialOf g p s.chosen s.case (Asking cur tried next)
  trial_asking cur tried next is = subst (IsTrialOf g p s.chosen s.case) is state.trial

  pub trial_comparing : (cur : System) → s.trial ≡ Comparing cur → IsCandidate g p.front s.chosen cur × IsOnTrial p (depth_of s) s.case
  trial_comparing cur is = subst (IsTrialOf g p s.chosen s.case) is state.trial

  pub best_is : (best : System) → s.best ≡ Some best → IsCandidate g p.front s.chosen best
  best_is best is = subst (λ (b : Option System). MatchOption b (Unit {0}) (IsCandidate g p.front s.chosen)) is state.best

  -- ---- ends
  same_some : (a b : System) → Some a ≡ Some b → a ≡ b
  same_some a b e = cc

  pub ends_whole : (copy : System) → depth_of s ≡ length p.levels → copy ≡ s.chosen → IsEnd g p s (Some copy)
  ends_whole copy whole same = record {
    frame = λ numbers is.
        let own = sym (same_some copy numbers is) ∙ same in
        (subst (IsFrame g p.front) (sym own) state.chosen, ap (λ (t : System). length t.definitions) own ∙ whole);
    ends = λ v long stage. stage_whole g p problem s state v long stage whole copy same;
  }

  pub ends_missing : depth_of s < length p.levels → length (cases_at p (depth_of s)) ≤ s.case → s.best ≡ None → IsEnd g p s None
  ends_missing low all none = record {
    frame = λ numbers is. absurd (nothing numbers is);
    ends = λ v long stage. stage_missing g p problem s state v long stage low all none;
  }
    where
      nothing : (numbers : System) → None ≡ Some numbers → ⊥
      nothing numbers e = cc

  -- one number more
  pub goes_more : (cur copy : System) → depth_of s < length p.levels → length (cases_at p (depth_of s)) ≤ s.case → s.best ≡ Some cur → copy ≡ cur
      → GoesOn g p s (record { chosen = copy; case = 0; best = None; trial = Entering })
  goes_more cur copy low all best same =
      let cand = best_is cur best in
      subst (λ (c : System). GoesOn g p s (record { chosen = c; case = 0; best = None; trial = Entering })) (sym same) (record {
        state = more_state g p problem s state cur low cand;
        leads = λ v long stage. stage_more g p problem s state v long stage cur low all best cand;
      })

  -- ---- the case on trial
  module _ (on : IsOnTrial p (depth_of s) s.case) where
    pub top_at : (row : Row) (next : ℕ) → next < length (case_at p (depth_of s) s.case).tops
        → row ≡ get_or (case_at p (depth_of s) s.case).tops next row → IsTop s.chosen.columns row × IsRowWithin g row
    top_at row next inside is =
        let own = own_within g p problem s state on in (
          subst (λ n. IsTop n row) (sym chosen_columns) (subst (IsTop (p.front + depth_of s)) (sym is) (own.case.tops next row inside)),
          subst (IsRowWithin g) (sym is) (own.tops next row inside),
        )

    other_row : (row : Row) (next : ℕ) → IsOtherAt (case_at p (depth_of s) s.case) next row → IsOther (p.front + depth_of s) row × IsRowWithin g row
    other_row row next at =
        let own = own_within g p problem s state on in
        (subst (IsOther (p.front + depth_of s)) (sym at.1) (own.case.others next row at.0), subst (IsRowWithin g) (sym at.1) (own.others next row at.0))

    pub other_at : (row : Row) (next : ℕ) → IsOtherAt (case_at p (depth_of s) s.case) next row
        → IsWellFormed (s.chosen.columns + 1) row × IsRowWithin g row × (row.kind ≢ kind.Zero)
    other_at row next at =
        let told = other_row row next at in (
          subst (λ n. IsWellFormed (n + 1) row) (sym chosen_columns) told.0.formed,
          told.1,
          no_zero told.0.says,
        )
      where
        no_zero : IsRising (p.front + depth_of s) row ⊎ IsCongruence row → row.kind ≢ kind.Zero
        no_zero (inl rising) zero = let e = sym rising.bound ∙ zero in cc
        no_zero (inr (inl is)) zero = let e = sym is ∙ zero in cc
        no_zero (inr (inr is)) zero = let e = sym is ∙ zero in cc

    pub top_asked : (row : Row) → IsTop s.chosen.columns row × IsRowWithin g row
        → IsWellFormed (s.chosen.columns + 1) row × IsRowWithin g row × (row.kind ≢ kind.Zero)
    top_asked row top = (top.0.formed, top.1, λ zero. let e = sym top.0.bound ∙ zero in cc)

  -- the case that is read is the one on trial
  pub case_is : (c : CaseView) → s.case < length (cases_at p (depth_of s)) → c ≡ get_or (cases_at p (depth_of s)) s.case c
      → c ≡ case_at p (depth_of s) s.case
  case_is c inside is =
      is ∙ default_free (cases_at p (depth_of s)) s.case c (record { tops = []; others = []; period = pos 1 }) inside

-- steep where the columns are counted the other way
pub steep_is : (g : Gauge) (p : ProblemView) (s : State) (row : Row) → IsFrame g p.front s.chosen
    → IsBound row × (pos 0 <ℤ get_or row.coefs s.chosen.columns (pos 0)) → IsSteep (p.front + depth_of s) row
steep_is g p s row frame h =
    let n = frame_columns g p.front s.chosen frame in
    record { bound = h.0; rises = subst (λ k. pos 0 <ℤ get_or row.coefs k (pos 0)) n h.1 }

pub not_steep : (g : Gauge) (p : ProblemView) (s : State) (row : Row) → IsFrame g p.front s.chosen
    → ¬ (IsBound row × (pos 0 <ℤ get_or row.coefs s.chosen.columns (pos 0))) → ¬ IsSteep (p.front + depth_of s) row
not_steep g p s row frame flat steep =
    let n = frame_columns g p.front s.chosen frame in
    flat (steep.bound, subst (λ k. pos 0 <ℤ get_or row.coefs k (pos 0)) (sym n) steep.rises)
