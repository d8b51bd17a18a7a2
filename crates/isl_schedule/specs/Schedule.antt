-- public: what a value tells to be visited, and when. (isl manual, on schedules and on code generation; the iscc chapter of the barvinok
-- manual)
use Rattle.std.specs.Prelude.{◌≡◌, ◌⊎◌}
use Rattle.isl_space.specs.Element.{Element}
use Rattle.isl_space.specs.Form.{Form, leaf, pair}
use Rattle.isl_space.specs.SpaceForm.{SpaceForm, set_of, map_of}
use Rattle.isl_space.specs.Valuation.{Valuation}
use Rattle.isl_union.specs.Finite.{IsFinite}
use Rattle.isl_union.specs.KeptValue.{KeptValue, Has}
use Rattle.isl_relation.specs.Point.{Point, HasPoint, Relates}
use Rattle.isl_relation.specs.Wide.{IsLiveIn}

-- x is visited at t: the points of a set at themselves, and what a map relates to t at t
abbrev pub IsVisitedAt : (Element → Type 0) → Point → Point → Type 0
IsVisitedAt P x t = (HasPoint P x × (t ≡ x)) ⊎ Relates P x t

-- ---- shapes
-- the form of what is visited
abbrev pub domain_form : SpaceForm → Form
domain_form (set_of form) = form
domain_form (map_of from to) = from

-- and of the times
abbrev pub time_form : SpaceForm → Form
time_form (set_of form) = form
time_form (map_of from to) = to

abbrev pub IsPair : Form → Type 0
IsPair (leaf name width) = ⊥
IsPair (pair left right) = Unit {0}

-- a pair is visited at some valuation
abbrev pub HasNested : KeptValue → Type 0
HasNested value = (s : SpaceForm) × IsLiveIn value s × IsPair (domain_form s)

-- all times have one form
abbrev pub HasOneTimeForm : KeptValue → Type 0
HasOneTimeForm value = (s t : SpaceForm) → IsLiveIn value s → IsLiveIn value t → time_form s ≡ time_form t

-- ---- times
-- no point has two times at one valuation
abbrev pub HasSingleTimes : KeptValue → Type 0
HasSingleTimes value =
    (valuation : Valuation) (x t u : Point) → IsVisitedAt (Has value valuation) x t → IsVisitedAt (Has value valuation) x u → t ≡ u

-- there are loops that visit each point once, at its time
pub record IsSchedule (value : KeptValue) : Type 0 where
  pub flat : ¬ HasNested value
  pub one_form : HasOneTimeForm value
  pub finite : IsFinite value
  pub single : HasSingleTimes value
