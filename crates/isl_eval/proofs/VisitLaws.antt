-- What is visited, and why there are no loops, depends on the elements alone; what a value has at all valuations, put under what is assumed.
use Rattle.std.proofs.Common.{◌≡◌, ◌∙◌, ◌↔◌, inl, inr, refl, sym, ap, Bool, true, false, List}
use Rattle.std.proofs.lemmas.Bool.{false≢true}
use Rattle.isl_space.specs.Element.{Element}
use Rattle.isl_space.specs.Form.{Form}
use Rattle.isl_space.specs.SpaceForm.{SpaceForm}
use Rattle.isl_space.specs.Valuation.{Valuation}
use Rattle.isl_union.specs.KeptValue.{KeptValue, Has, IsKeptValue}
use Rattle.isl_union.specs.Meet.{is_same_form}
use Rattle.isl_relation.proofs.TogetherLaws.{form_itself, same_form}
use Rattle.isl_relation.specs.Point.{Point, map_element, set_element}
use Rattle.isl_loop.specs.Good.{AreGood}
use Rattle.isl_loop.specs.Nest.{Timed}
use Rattle.isl_loop.specs.Run.{Event}
use Rattle.isl_schedule.specs.Schedule.{HasNested, HasOneTimeForm, IsSchedule, IsVisitedAt}
use Rattle.isl_schedule.specs.Due.{IsDue}
use Rattle.isl_operators.specs.Formed.{AreIn}
use Rattle.isl_operators.proofs.ElementLaws.{lives}
use Rattle.isl_operators.proofs.WideLaws.{are_in}
use Rattle.isl_values.specs.Ends.{End, because, cut, too_wide, no_minimum, nested, time_shapes, unbounded, several_times}
use Rattle.isl_values.specs.Ends.{no_valuation, not_assumed, Elements, GoesOn}
use Rattle.isl_outcome.proofs.FirstLaws.{EndAlike}
use Rattle.isl_eval.specs.Coded.{AreFiniteEverywhere, GenerationEnds, HaveOneTimeForm, HaveSingleTimes, VisitsPair}

-- ---- more elements, more visits
more_visited : (P Q : Element → Type 0) → ((e : Element) → P e → Q e) → (x t : Point) → IsVisitedAt P x t → IsVisitedAt Q x t
more_visited P Q more x t (inl h) = inl (record { point = h.0.point; has = more (set_element x) h.0.has }, h.1)
more_visited P Q more x t (inr h) = inr (record { from = h.from; to = h.to; has = more (map_element x t) h.has })

more_due : (P Q : Element → Type 0) → ((e : Element) → P e → Q e) → (timed : Timed) → IsDue P timed → IsDue Q timed
more_due P Q more timed due = (due.0, due.1, more_visited P Q more due.0 due.1 due.2, due.3)

-- calls that are good for elements are good for the same elements
pub good_alike : (P Q : Element → Type 0) (calls : List Event) → ((e : Element) → P e ↔ Q e)
    → AreGood (λ event time. IsDue P (time, event)) calls → AreGood (λ event time. IsDue Q (time, event)) calls
good_alike P Q calls same good =
    let forth : (e : Element) → P e → Q e = λ e. (same e).0 in
    let back : (e : Element) → Q e → P e = λ e. (same e).1 in
    record {
      exact = λ event. (
        (λ there. let due = (good.exact event).0 there in (due.0, more_due P Q forth (due.0, event) due.1)),
        (λ due. (good.exact event).1 (due.0, more_due Q P back (due.0, event) due.1)),
      );
      once = good.once;
      ordered = λ i j d below low s t one other.
          good.ordered i j d below low s t (more_due Q P back (s, _) one) (more_due Q P back (t, _) other);
    }

-- ---- why there are no loops
module _ (P Q : Elements) (more : (v : Valuation) (e : Element) → P v e → Q v e) where
  more_in : (s : SpaceForm) → AreIn P s → AreIn Q s
  more_in s some none = some (λ v e has at. none v e (more v e has) at)

  more_pairs : VisitsPair P → VisitsPair Q
  more_pairs h = (h.0, more_in h.0 h.1, h.2)

  fewer_forms : HaveOneTimeForm Q → HaveOneTimeForm P
  fewer_forms one s t here there = one s t (more_in s here) (more_in t there)

  fewer_finite : AreFiniteEverywhere Q → AreFiniteEverywhere P
  fewer_finite finite v = let bound = finite v in (bound.0, (λ e has. bound.1 e (more v e has)))

  fewer_times : HaveSingleTimes Q → HaveSingleTimes P
  fewer_times single v x t u one other =
      single v x t u (more_visited (P v) (Q v) (more v) x t one) (more_visited (P v) (Q v) (more v) x u other)

generation_from : (P Q : Elements) → ((v : Valuation) (e : Element) → P v e → Q v e) → ((v : Valuation) (e : Element) → Q v e → P v e)
    → (why : End) → GenerationEnds P why → GenerationEnds Q why
generation_from P Q forth back (because nested) h = more_pairs P Q forth h
generation_from P Q forth back (because time_shapes) h = (
  (λ pair. h.0 (more_pairs Q P back pair)),
  (λ one. h.1 (fewer_forms P Q forth one)),
)
generation_from P Q forth back (because unbounded) h = (
  (λ pair. h.0 (more_pairs Q P back pair)),
  fewer_forms Q P back h.1,
  (λ finite. h.2 (fewer_finite P Q forth finite)),
)
generation_from P Q forth back (because several_times) h = (
  (λ pair. h.0 (more_pairs Q P back pair)),
  fewer_forms Q P back h.1,
  fewer_finite Q P back h.2,
  (λ single. h.3 (fewer_times P Q forth single)),
)
generation_from P Q forth back (because too_wide) h = h
generation_from P Q forth back (because no_minimum) h = h
generation_from P Q forth back (because no_valuation) h = h
generation_from P Q forth back (because not_assumed) h = h
generation_from P Q forth back cut h = h

pub generation_alike : (P Q : Elements) → ((v : Valuation) (e : Element) → P v e ↔ Q v e) → EndAlike (GenerationEnds P) (GenerationEnds Q)
generation_alike P Q same why = (
  generation_from P Q (λ v e. (same v e).0) (λ v e. (same v e).1) why,
  generation_from Q P (λ v e. (same v e).1) (λ v e. (same v e).0) why,
)

-- ---- of a value
form_settled : (x y : Form) → ¬ (¬ (x ≡ y)) → x ≡ y
form_settled x y twice = by (is_same_form x y) refl
  where
    by : (b : Bool) → is_same_form x y ≡ b → x ≡ y
    by true same = same_form x y same
    by false other = absurd (twice (λ same. false≢true (sym other ∙ ap (is_same_form x) (sym same) ∙ form_itself x)))

module _ (value : KeptValue) where
  pub no_pair : ¬ HasNested value → ¬ VisitsPair (Has value)
  no_pair never pair = pair.1 (λ v e has at. never (pair.0, lives value v e pair.0 has at, pair.2))

  pub one_form : HasOneTimeForm value → HaveOneTimeForm (Has value)
  one_form one s t here there =
      form_settled _ _ (λ apart. here (λ v e has at. there (λ w f have on.
      apart (one s t (lives value v e s has at) (lives value w f t have on)))))

  -- where it tells what to visit and when, there are loops
  pub schedule_goes : IsSchedule value → GoesOn (GenerationEnds (Has value))
  schedule_goes is nested h = no_pair is.flat h
  schedule_goes is time_shapes h = h.1 (one_form is.one_form)
  schedule_goes is unbounded h = h.2 is.finite
  schedule_goes is several_times h = h.3 is.single
  schedule_goes is too_wide h = h
  schedule_goes is no_minimum h = h
  schedule_goes is no_valuation h = h
  schedule_goes is not_assumed h = h

  module _ (kept : IsKeptValue value) where
    pub a_pair : HasNested value → VisitsPair (Has value)
    a_pair h = (h.0, are_in value h.0 kept h.1, h.2)

    pub several_forms : ¬ HasOneTimeForm value → ¬ HaveOneTimeForm (Has value)
    several_forms never one = never (λ s t here there. one s t (are_in value s kept here) (are_in value t kept there))
