-- A statement that is refused stops its session at the byte that ends it.
use Rattle.std.proofs.Common.{◌≡◌, ℕ, ◌<◌, List, [], ◌∷◌, true, refl, sym, ◌∙◌, ap, subst, inl, inr, arith}
use Rattle.isl_meter.specs.Gauge.{Gauge, IsKept}
use Rattle.isl_script.specs.Script.{ends}
use Rattle.isl_refusal.specs.declared.refusal.Refusal.{Refusal}
use Rattle.isl_refusal.specs.declared.refusal.Refusal.TheVariants.{Overflow, Budget, NoMemory, NoMinimum, NotAssumed, NoValuation, TooWide}
use Rattle.isl_refusal.specs.declared.refusal.Refusal.TheVariants.{Nested, SeveralTimes, TimeShape, Unbounded}
use Rattle.isl_values.specs.State.{Moment, StateView}
use Rattle.isl_eval.specs.Causes as c
use Rattle.isl_eval.specs.Causes.{Cause, FirstGives, Refuses, causes, refusal_of}
use Rattle.isl_eval.specs.Machine.{Answer}
use Rattle.isl_eval.specs.Run.{Answers, started}
use Rattle.isl_space.specs.Limits.{most_script_bytes}
use Rattle.isl_refusal.specs.Refusal.{Place, in_statement, place_of}
use Rattle.isl_session.specs.View.{View, BreaksIn, IsMeterAt, IsRefusedAt, moment_of}

-- the causes of a statement's bytes come about where the statement ends
place_of_cause : (cause : Cause) → place_of (refusal_of cause) ≡ in_statement
place_of_cause c.no_token = refl
place_of_cause c.too_deep = refl
place_of_cause c.no_statement = refl
place_of_cause c.too_wide = refl
place_of_cause c.wide_number = refl
place_of_cause c.unknown_name = refl
place_of_cause c.wrong_kind = refl
place_of_cause c.no_element = refl
place_of_cause c.parametric = refl

place_of_first : (There : Cause → Type 0) (all : List Cause) (refusal : Refusal) → FirstGives There all refusal
    → place_of refusal ≡ in_statement
place_of_first There [] refusal gives = absurd gives
place_of_first There (cause ∷ later) refusal (inl here) = ap place_of here.1 ∙ place_of_cause cause
place_of_first There (cause ∷ later) refusal (inr behind) = place_of_first There later refusal behind.1

pub breaks_in_statement : (refusal : Refusal) (view : View) (byte : ℕ) (now : Gauge) → view.taken < most_script_bytes
    → ends view.rest byte ≡ true
    → Refuses (started (moment_of view)) view.rest now refusal → BreaksIn (place_of refusal) view byte now refusal
breaks_in_statement Overflow view byte now room ended cause = (room, ended, cause)
breaks_in_statement Budget view byte now room ended cause = (room, ended, cause)
breaks_in_statement NoMemory view byte now room ended cause = (room, inl (ended, cause))
breaks_in_statement TooWide view byte now room ended cause = (room, ended, cause)
breaks_in_statement NoMinimum view byte now room ended cause = (room, ended, cause)
breaks_in_statement Unbounded view byte now room ended cause = (room, ended, cause)
breaks_in_statement SeveralTimes view byte now room ended cause = (room, ended, cause)
breaks_in_statement TimeShape view byte now room ended cause = (room, ended, cause)
breaks_in_statement Nested view byte now room ended cause = (room, ended, cause)
breaks_in_statement NoValuation view byte now room ended cause = (room, ended, cause)
breaks_in_statement NotAssumed view byte now room ended cause = (room, ended, cause)
breaks_in_statement refusal view byte now room ended cause =
    subst (λ (p : Place). BreaksIn p view byte now refusal)
    (sym (place_of_first (c.IsThere (started (moment_of view)) view.rest) causes refusal cause.0)) (room, ended, cause)

-- the meter of a statement that is refused
pub meter_in_statement : (before : Moment) (bytes : List ℕ) (now : Gauge) (refusal : Refusal) → Refuses (started before) bytes now refusal
    → IsKept (record before.meter { units = 0 }) now → IsMeterAt (place_of refusal) before.meter now
meter_in_statement before bytes now Overflow cause kept = kept
meter_in_statement before bytes now Budget cause kept = kept
meter_in_statement before bytes now NoMemory cause kept = cause.0
meter_in_statement before bytes now TooWide cause kept = kept
meter_in_statement before bytes now NoMinimum cause kept = kept
meter_in_statement before bytes now Unbounded cause kept = kept
meter_in_statement before bytes now SeveralTimes cause kept = kept
meter_in_statement before bytes now TimeShape cause kept = kept
meter_in_statement before bytes now Nested cause kept = kept
meter_in_statement before bytes now NoValuation cause kept = kept
meter_in_statement before bytes now NotAssumed cause kept = kept
meter_in_statement before bytes now refusal cause kept =
    subst (λ (p : Place). IsMeterAt p before.meter now)
    (sym (place_of_first (c.IsThere (started before) bytes) causes refusal cause.0)) kept

-- memory may end for the text of an answer
pub no_room_for : (before : Moment) (bytes : List ℕ) (after : Moment) (answer : Answer) → Answers before bytes after answer
    → Refuses before bytes after.meter NoMemory
no_room_for before bytes after answer h = (
  h.meter,
  λ none. h.meter.same ∙ ap (λ (n : ℕ). let g : Gauge = record before.meter { units = n } in g)
      (h.units (λ work. none (h.stmt, h.spelled, work))),
)

-- at a byte that ends a statement, which is refused and leaves what is bound
pub refused_at_end : (old : View) (byte : ℕ) (state : StateView) (meter : Gauge) (refusal : Refusal) → old.taken < most_script_bytes
    → ends old.rest byte ≡ true → state ≡ old.state → Refuses (started (moment_of old)) old.rest meter refusal
    → IsKept (record old.meter { units = 0 }) meter
    → IsRefusedAt old byte refusal (record old { state = state; meter = meter })
refused_at_end old byte state meter refusal room ended same cause kept = record {
  breaks = breaks_in_statement refusal old byte meter room ended cause;
  same = ap (λ (s : StateView). let v : View = record old { state = s; meter = meter } in v) same;
  meter = meter_in_statement (moment_of old) old.rest meter refusal cause kept;
  room = omega arith;
}
