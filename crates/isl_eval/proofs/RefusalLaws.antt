-- Which causes a statement has that was read, and what that refuses.
use Rattle.std.proofs.Common.{◌≡◌, ◌≢◌, ◌∙◌, ◌⊎◌, inl, inr, refl, sym, ap, subst, ℕ}
use Rattle.std.proofs.Common.{Bool, true, false, List, [], ◌∷◌, ◌++◌, Option, Result, Ok, Err}
use Rattle.std.specs.List.{list_any}
use Rattle.std.proofs.lemmas.Bool.{false≢true, false_from_ne_true}
use Rattle.isl_meter.specs.Gauge.{Gauge, IsKept}
use Rattle.isl_meter.specs.declared.Cut.{Cut}
use Rattle.isl_meter.specs.declared.Cut.TheVariants as cuts
use Rattle.isl_meter.proofs.CutLemmas.{IsCharged_refl, IsCutBy-overflown, IsKept_refl, IsKept-overflown}
use Rattle.isl_assumed.specs.declared.assumed.Assumed.{Assumed}
use Rattle.isl_piece.specs.Cut.{IsCutFor}
use Rattle.isl_refusal.specs.declared.refusal.Refusal.{Refusal}
use Rattle.isl_refusal.specs.declared.refusal.Refusal.TheVariants as r
use Rattle.isl_tree.specs.declared.statement.Prefix.TheVariants as p
use Rattle.isl_tree.specs.declared.statement.Expr.{Expr, Prefix'}
use Rattle.isl_tree.specs.declared.statement.Stmt.{Stmt}
use Rattle.isl_tree.specs.declared.statement.Stmt.TheVariants.{Empty, Bind, Show, Assume}
use Rattle.isl_kinds.specs.Typed.{TypeView, type_of_statement}
use Rattle.isl_kinds.specs.Parts.{parts_of_statement}
use Rattle.isl_values.specs.Made.{uses_units}
use Rattle.isl_values.specs.State.{Moment, scope_of}
use Rattle.isl_eval.specs.Spelled.{BytesSpell, OfStatement}
use Rattle.isl_eval.specs.Causes.{Cause, no_token, too_deep, no_statement, too_wide}
use Rattle.isl_eval.specs.Causes.{wide_number, unknown_name, wrong_kind, no_element}
use Rattle.isl_eval.specs.Causes.{parametric, causes, refusal_of, is_parametric}
use Rattle.isl_eval.specs.Causes.{IsThere, FirstGives, NoneIs, IsClear, Refuses, HasWork}
use Rattle.isl_eval.specs.Evaluated.{IsTyped}
use Rattle.isl_eval.specs.Asked.{needs_numbers, shows_at_numbers}
use Rattle.isl_eval.specs.Ended.{AskedEnds, IsAssumedWhereNeeded}
use Rattle.isl_values.specs.Ends as ends
use Rattle.isl_values.specs.Made.{refusal_of_cut}
use Rattle.isl_eval.specs.Evaluation.{causes_of_bytes, IsRead, IsWhyNot, IsWhyUnasked, IsWorkable, IsWhyUnworkable}
use Rattle.isl_eval.proofs.CauseLaws.{of_statement, is_not}
use Rattle.isl_eval.proofs.TypeLaws.{no_type}

-- ---- refusals
module _ (before : Moment) (bytes : List ℕ) (now : Gauge) (same : now ≡ before.meter) where
  Why : Refusal → Type 0
  Why refusal = FirstGives (IsThere before bytes) causes refusal

  -- the refusals of the table are refusals by it
  by_cause : (cause : Cause) → Why (refusal_of cause) → Refuses before bytes now (refusal_of cause)
  unfolding Why
  by_cause no_token h = (h, same)
  by_cause too_deep h = (h, same)
  by_cause no_statement h = (h, same)
  by_cause too_wide h = inl (h, same)
  by_cause wide_number h = (h, same)
  by_cause unknown_name h = (h, same)
  by_cause wrong_kind h = (h, same)
  by_cause no_element h = (h, same)
  by_cause parametric h = (h, same)

  -- some cause of these gives the refusal
  given : (list : List Cause) (refusal : Refusal) → FirstGives (IsThere before bytes) list refusal → (cause : Cause)
      × (refusal ≡ refusal_of cause)
  given [] refusal h = absurd h
  given (cause ∷ later) refusal (inl h) = (cause, h.1)
  given (cause ∷ later) refusal (inr h) = given later refusal h.1

  pub first_refuses : (refusal : Refusal) → FirstGives (IsThere before bytes) causes refusal → Refuses before bytes now refusal
  unfolding Why
  first_refuses refusal h =
      let cause = given causes refusal h in
      subst (Refuses before bytes now) (sym cause.1) (by_cause cause.0 (subst Why cause.1 h))

  pub memory_refuses : (refusal : Refusal) → refusal ≡ r.NoMemory → Refuses before bytes now refusal
  memory_refuses refusal is = subst (Refuses before bytes now) (sym is) (IsCharged_refl before.meter now same, λ none. same)

pub unread_refuses : (before : Moment) (bytes : List ℕ) (refusal : Refusal) → IsWhyNot before bytes refusal
    → Refuses before bytes before.meter refusal
unread_refuses before bytes refusal (inl is) = memory_refuses before bytes before.meter refl refusal is
unread_refuses before bytes refusal (inr h) = first_refuses before bytes before.meter refl refusal h

-- ---- causes that are not there
none_both : (There : Cause → Type 0) (front back : List Cause) → NoneIs There front → NoneIs There back → NoneIs There (front ++ back)
none_both There [] back none later = later
none_both There (cause ∷ front) back none later = (none.0, none_both There front back none.1 later)

first_past : (There : Cause → Type 0) (front back : List Cause) (refusal : Refusal) → NoneIs There front → FirstGives There back refusal
    → FirstGives There (front ++ back) refusal
first_past There [] back refusal none later = later
first_past There (cause ∷ front) back refusal none later = inr (none.0, first_past There front back refusal none.1 later)

-- ---- work
module _ (assumed : Assumed) (bytes : List ℕ) (stmt : Stmt) (spelled : BytesSpell bytes stmt) where
  abbrev Works : Bool
  Works = list_any (uses_units assumed) (parts_of_statement stmt)

  pub no_work : ¬ OfStatement bytes (HasWork assumed) → Works ≡ false
  no_work none = false_from_ne_true Works (λ work. none (stmt, spelled, work))

  pub has_work : ¬ (Works ≡ false) → OfStatement bytes (HasWork assumed)
  has_work some = by Works refl
    where
      by : (b : Bool) → Works ≡ b → OfStatement bytes (HasWork assumed)
      by true works = (stmt, spelled, works)
      by false none = absurd (some none)

-- what asking whether numbers are assumed says
pub not_needed : (before : Moment) (stmt : Stmt) (b : Bool) → b ≡ needs_numbers before.options.run stmt → b ≡ false
    → IsAssumedWhereNeeded before stmt
not_needed before stmt b is none = λ needed. absurd (false≢true (sym none ∙ is ∙ needed))

-- to list elements is work, and so is to run loops
shown_works : (assumed : Assumed) (run : Bool) (expr : Expr) → shows_at_numbers run expr ≡ true → HasWork assumed (Show expr)
shown_works assumed run (Prefix' p.Scan s operand) needed = refl
shown_works assumed run (Prefix' p.Codegen s operand) needed = refl
shown_works assumed run _ needed = absurd (false≢true needed)

needed_works : (assumed : Assumed) (run : Bool) (stmt : Stmt) → needs_numbers run stmt ≡ true → HasWork assumed stmt
needed_works assumed run Empty needed = absurd (false≢true needed)
needed_works assumed run (Bind name expr) needed = absurd (false≢true needed)
needed_works assumed run (Show expr) needed = shown_works assumed run expr needed
needed_works assumed run (Assume set) needed = absurd (false≢true needed)

-- ---- a statement that was read
module _ (before : Moment) (bytes : List ℕ) (stmt : Stmt) (read : IsRead before bytes stmt) where
  -- it has one type
  other_type : (a b : Result (Option TypeView) Refusal) → type_of_statement (scope_of before.state) stmt ≡ a → a ≢ b
      → ¬ OfStatement bytes (λ stmt. type_of_statement (scope_of before.state) stmt ≡ b)
  other_type a b is apart there =
      apart (sym is ∙ of_statement bytes stmt (λ stmt. type_of_statement (scope_of before.state) stmt ≡ b) read.spelled there)

  module _ (typed : IsTyped (scope_of before.state) stmt) where
    apart : (refusal : Refusal) → Ok typed.0 ≢ Err refusal
    apart refusal e = cc

    typed_none : NoneIs (IsThere before bytes) (unknown_name ∷ wrong_kind ∷ no_element ∷ [])
    typed_none = (
      other_type (Ok typed.0) (Err r.UnknownName) typed.1 (apart r.UnknownName),
      (
        other_type (Ok typed.0) (Err r.WrongKind) typed.1 (apart r.WrongKind),
        (other_type (Ok typed.0) (Err r.NoElement) typed.1 (apart r.NoElement), tt),
      ),
    )

  given_none : is_parametric (scope_of before.state) before.options stmt ≡ false → ¬ IsThere before bytes parametric
  given_none given there =
      is_not (is_parametric (scope_of before.state) before.options stmt) given
      (of_statement bytes stmt (λ stmt. is_parametric (scope_of before.state) before.options stmt ≡ true) read.spelled there)

  pub clear : {type : Option TypeView} → IsWorkable (scope_of before.state) before.options stmt type → IsClear before bytes
  clear {type} able =
      none_both (IsThere before bytes) causes_of_bytes
      (unknown_name ∷ wrong_kind ∷ no_element ∷ parametric ∷ []) read.none
      (none_both (IsThere before bytes) (unknown_name ∷ wrong_kind ∷ no_element ∷ []) (parametric ∷ [])
      (typed_none (type, able.typed))
      (given_none able.given, tt))

  -- it has no type
  untyped : (refusal : Refusal) → type_of_statement (scope_of before.state) stmt ≡ Err refusal
      → ((refusal ≡ r.UnknownName) ⊎ ((refusal ≡ r.WrongKind) ⊎ (refusal ≡ r.NoElement)))
      → FirstGives (IsThere before bytes) (unknown_name ∷ wrong_kind ∷ no_element ∷ parametric ∷ []) refusal
  untyped refusal is (inl e) = inl ((stmt, read.spelled, is ∙ ap Err e), e)
  untyped refusal is (inr (inl e)) =
      inr (
        other_type (Err refusal) (Err r.UnknownName) is (λ f. let g : r.WrongKind ≡ r.UnknownName = sym e ∙ (let h = f in cc) in cc),
        inl ((stmt, read.spelled, is ∙ ap Err e), e),
      )
  untyped refusal is (inr (inr e)) =
      inr (
        other_type (Err refusal) (Err r.UnknownName) is (λ f. let g : r.NoElement ≡ r.UnknownName = sym e ∙ (let h = f in cc) in cc),
        inr (
          other_type (Err refusal) (Err r.WrongKind) is (λ f. let g : r.NoElement ≡ r.WrongKind = sym e ∙ (let h = f in cc) in cc),
          inl ((stmt, read.spelled, is ∙ ap Err e), e),
        ),
      )

  -- what is bound has a cause
  bound_cause : (refusal : Refusal) → FirstGives (IsThere before bytes)
      (unknown_name ∷ wrong_kind ∷ no_element ∷ parametric ∷ []) refusal
      → FirstGives (IsThere before bytes) causes refusal
  bound_cause refusal first =
      first_past (IsThere before bytes) causes_of_bytes
      (unknown_name ∷ wrong_kind ∷ no_element ∷ parametric ∷ []) refusal read.none first

  typed_cause : (refusal : Refusal) → IsTyped (scope_of before.state) stmt
      → FirstGives (IsThere before bytes) (parametric ∷ []) refusal
      → FirstGives (IsThere before bytes) causes refusal
  typed_cause refusal typed first =
      bound_cause refusal (first_past (IsThere before bytes) (unknown_name ∷ wrong_kind ∷ no_element ∷ [])
      (parametric ∷ []) refusal (typed_none typed) first)

  pub unworkable_refuses : (refusal : Refusal) → IsWhyUnworkable (scope_of before.state) before.options stmt refusal
      → Refuses before bytes before.meter refusal
  unworkable_refuses refusal (inl h) =
      first_refuses before bytes before.meter refl refusal
      (bound_cause refusal (untyped refusal h (no_type (scope_of before.state) stmt refusal h)))
  unworkable_refuses refusal (inr (inl h)) =
      first_refuses before bytes before.meter refl refusal (typed_cause refusal h.0 (inl ((stmt, read.spelled, h.1), h.2)))
  unworkable_refuses refusal (inr (inr h)) = memory_refuses before bytes before.meter refl refusal h

  -- it is not evaluated, since numbers are not assumed, or asking that was cut
  module _ {type : Option TypeView} (able : IsWorkable (scope_of before.state) before.options stmt type) (now : Gauge) where
    cut_asked : (what : Cut) → IsCutFor (AskedEnds before stmt ends.cut) before.meter now what
        → Refuses before bytes now (refusal_of_cut what)
    cut_asked cuts.Overflow why = (
      clear able,
      (stmt, read.spelled, needed_works before.state.assumed before.options.run stmt why.0.0),
      (stmt, read.spelled, inl why.0),
      IsCutBy-overflown before.meter now why.1,
    )
    cut_asked cuts.Budget why = absurd why
    cut_asked cuts.NoMemory why = (IsCharged_refl before.meter now why, λ none. why)

    pub unasked_refuses : (refusal : Refusal) → IsWhyUnasked before stmt now refusal → Refuses before bytes now refusal
    unasked_refuses refusal (inl h) =
        subst (Refuses before bytes now) (sym h.0)
        (clear able, (stmt, read.spelled, inl h.1), h.2)
    unasked_refuses refusal (inr h) = subst (Refuses before bytes now) (sym h.1) (cut_asked h.0 h.2)

    pub unasked_kept : (refusal : Refusal) → IsWhyUnasked before stmt now refusal → IsKept before.meter now
    unasked_kept refusal (inl h) = IsKept_refl before.meter now h.2
    unasked_kept refusal (inr h) = by h.0 h.2
      where
        by : (what : Cut) → IsCutFor (AskedEnds before stmt ends.cut) before.meter now what → IsKept before.meter now
        by cuts.Overflow why = IsKept-overflown before.meter now why.1
        by cuts.Budget why = absurd why
        by cuts.NoMemory why = IsKept_refl before.meter now why
