-- public: the items of a value. (isl manual, on code generation; Bastoul, code generation in the polyhedral model)
use Rattle.std.specs.Prelude.{◌≡◌, ◌↔◌, ◌≤◌, ℕ, true, List, [], ◌∷◌, All, AllPairs, Any, IfSome, length}
use Rattle.isl_meter.specs.Gauge.{Gauge}
use Rattle.isl_space.specs.Form.{Form, width_of}
use Rattle.isl_space.specs.Limits.{most_coordinates}
use Rattle.isl_space.specs.Name.{Name, IsLiteralName}
use Rattle.isl_space.specs.Shape.{form_of}
use Rattle.isl_space.specs.Valuation.{Valuation, values_of}
use Rattle.isl_piece.specs.declared.row.Row.{Row}
use Rattle.isl_loop.specs.Nest.{Timed}
use Rattle.isl_nest.specs.Covered.{view_of, IsCovered}
use Rattle.isl_nest.specs.Item.{IsCalledBehind}
use Rattle.isl_nest.specs.declared.item.Item.{Item}
use Rattle.isl_relation.specs.Point.{Point}
use Rattle.isl_union.specs.KeptValue.{KeptValue, Has}
use Rattle.isl_calls.specs.Calls.{IsCalledAt, IsSetForm, IsSetOf}
use Rattle.isl_calls.specs.declared.calls.Calls.{Calls}
use Rattle.isl_schedule.specs.Due.{timed_call, IsDue}

-- what the item calls where the parameters have their numbers
abbrev pub CallsAt : List Name → Valuation → Timed → Item → Type 0
CallsAt params valuation timed item = IsCalledBehind (view_of item) (values_of params valuation) timed

-- the only item has these rows over the parameters and so many columns, which are its time
pub record IsOnlyItem (levels : ℕ) (rows : List Row) (items : List Item) : Type 0 where
  pub item : Item
  pub only : items ≡ item ∷ []
  pub levels_are : item.levels ≡ levels
  pub times : item.times ≡ levels
  pub rows_are : item.rows ≡ rows

-- Items over the parameters, with covers, whose times have as many numbers, and not too many; what they call has no name, or one that may
-- stand in a literal. At each valuation they call what is due, and nothing else; no two of them call the same at one time. Where all pieces
-- are of sets, items have no columns but the time's; of one set there is one, with its rows.
pub record AreItemsOf (g : Gauge) (value : KeptValue) (items : List Item) : Type 0 where
  pub covered : All (IsCovered g) items
  pub params : All (λ item. item.params ≡ length value.params) items
  pub times : All (λ a. All (λ b. a.times ≡ b.times) items) items
  pub narrow : All (λ item. item.times ≤ most_coordinates) items
  pub named : All (λ item. IfSome item.name IsLiteralName) items
  pub exact : (valuation : Valuation) (timed : Timed) → Any (CallsAt value.params valuation timed) items ↔ IsDue (Has value valuation) timed
  pub once : (valuation : Valuation) (timed : Timed)
      → AllPairs (λ a b. CallsAt value.params valuation timed a → ¬ CallsAt value.params valuation timed b) items
  pub sets : All (λ piece. IsSetForm piece.space) value.pieces → All (λ item. item.levels ≡ item.times) items
  pub own : (form : Form) (rows : List Row) → IsSetOf form rows value → IsOnlyItem (width_of form) rows items

-- ---- one item
-- the item calls what the calls tell, by their rows and by their name; where each point is its time, so are its columns
pub record IsItemOf (g : Gauge) (params : ℕ) (calls : Calls) (item : Item) : Type 0 where
  pub covered : IsCovered g item
  pub params_are : item.params ≡ params
  pub times : item.times ≡ width_of (form_of calls.time.value)
  pub rows_are : item.rows ≡ calls.system.rows
  pub named : IfSome item.name IsLiteralName
  pub own : calls.is_own ≡ true → item.levels ≡ item.times
  pub called : (names : List Name) (valuation : Valuation) (timed : Timed) → length names ≡ params
      → CallsAt names valuation timed item
      ↔ ((x : Point) × (t : Point) × IsCalledAt names valuation x t calls × (timed ≡ timed_call x t))
