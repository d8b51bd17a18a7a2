-- public: what is called for points, and when. (isl manual, on abstract syntax trees)
use Rattle.std.specs.Prelude.{◌≡◌, Option, None}
use Rattle.isl_space.specs.Element.{Element}
use Rattle.isl_space.specs.Form.{Form, leaf, pair}
use Rattle.isl_space.specs.Name.{Name}
use Rattle.isl_loop.specs.Nest.{Timed}
use Rattle.isl_loop.specs.Run.{Event}
use Rattle.isl_relation.specs.Point.{Point}
use Rattle.isl_schedule.specs.Schedule.{IsVisitedAt}

-- the name of a leaf; a pair has none
abbrev pub name_of : Form → Option Name
name_of (leaf name width) = name
name_of (pair left right) = None

-- a point is called by the name of its form, with its numbers
abbrev pub call_of : Point → Event
call_of x = record { name = name_of x.form; args = x.numbers }

-- a point, and the numbers of its time
abbrev pub timed_call : Point → Point → Timed
timed_call x t = (t.numbers, call_of x)

-- the call of a point that is visited at this time
abbrev pub IsDue : (Element → Type 0) → Timed → Type 0
IsDue P timed = (x : Point) × (t : Point) × IsVisitedAt P x t × (timed ≡ timed_call x t)
