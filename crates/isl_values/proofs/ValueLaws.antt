-- Values that are made of expressions.
use Rattle.std.proofs.Common.{◌≡◌, ℕ, ℤ, Bool, List, sym, subst}
use Rattle.std.specs.Prelude.{unsigned_abs}
use Rattle.std.specs.List.{list_any}
use Rattle.isl_meter.specs.Gauge.{Gauge, limit_of, IsCharged}
use Rattle.isl_space.specs.Name.{Name}
use Rattle.isl_space.specs.Valuation.{Valuation}
use Rattle.isl_space.specs.Element.{Element}
use Rattle.isl_union.specs.KeptValue.{KeptValue}
use Rattle.isl_tree.specs.declared.statement.Expr.{Expr}
use Rattle.isl_kinds.specs.Parts.{Part, parts_of}
use Rattle.isl_assumed.specs.declared.assumed.Assumed.{Assumed}
use Rattle.isl_state.specs.declared.list.ListPart.{ListPart}
use Rattle.isl_state.specs.declared.list.ListPart.TheVariants.{First}
use Rattle.isl_state.specs.State.{StateView}
use Rattle.isl_values.specs.Made.{uses_units, IsMadeOf, IsValueOf, IsPaid}
use Rattle.isl_values.specs.Three.{IsValueAt}
pub use Rattle.isl_outcome.proofs.PaidLaws.{same_limit, paid_same, paid_works, paid_after, paid_in, unmade_after, unmade_in, unmade_memory}
pub use Rattle.isl_outcome.proofs.PaidLaws.{unworked_after, unworked_in, match_map, both_map, ok_of, ok_map}
pub use Rattle.isl_state.proofs.StateLaws.{fits_later, numbers_later, numbers_of}

pub value_before : {Plain : Type 0} {assumed : Assumed} (g h : Gauge) (Exact : KeptValue → Type 0) (params : List Name)
    (Holds : Valuation → Element → Type 0) (value : KeptValue) → IsCharged g h
    → IsValueOf assumed Exact params Holds (unsigned_abs (limit_of h)) Plain value
    → IsValueOf assumed Exact params Holds (unsigned_abs (limit_of g)) Plain value
value_before {Plain} {assumed} g h Exact params Holds value charged made =
    subst (λ (z : ℤ). IsValueOf assumed Exact params Holds (unsigned_abs z) Plain value) (same_limit g h charged) made

pub made_before : {Plain : Type 0} (g h : Gauge) (Exact : KeptValue → Type 0) (params : List Name)
    (Holds : Valuation → Element → Type 0) (value : KeptValue) → IsCharged g h
    → IsMadeOf Exact params Holds (unsigned_abs (limit_of h)) Plain value
    → IsMadeOf Exact params Holds (unsigned_abs (limit_of g)) Plain value
made_before {Plain} g h Exact params Holds value charged made =
    subst (λ (z : ℤ). IsMadeOf Exact params Holds (unsigned_abs z) Plain value) (same_limit g h charged) made

-- ---- what is made of an expression
-- whether some of these parts uses units
abbrev pub work : Assumed → List Part → Bool
work assumed parts = list_any (uses_units assumed) parts

-- this part of it is made, over the units that its parts use
abbrev pub IsMadeAt : StateView → ListPart → Expr → Gauge → Gauge → KeptValue → Type 0
IsMadeAt state part expr g h value = IsValueAt state part expr (unsigned_abs (limit_of g)) value
    × IsPaid (work state.assumed (parts_of expr)) g h

abbrev pub IsMade : StateView → Expr → Gauge → Gauge → KeptValue → Type 0
IsMade state expr g h value = IsMadeAt state First expr g h value

-- ---- what calls make
pub value_same : {Plain : Type 0} (made value : KeptValue) (Exact : KeptValue → Type 0) (names : List Name)
    (Holds : Valuation → Element → Type 0) (limit : ℕ) → value ≡ made
    → IsMadeOf Exact names Holds limit Plain made → IsMadeOf Exact names Holds limit Plain value
value_same {Plain} made value Exact names Holds limit same is = subst (IsMadeOf Exact names Holds limit Plain) (sym same) is
