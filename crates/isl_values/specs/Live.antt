-- public: what operations are asked of at assumed valuations of parameters alone. (isl manual, on parameter domains)
use Rattle.std.specs.Prelude.{◌≡◌, ◌⊎◌, ℕ, List, [], ◌∷◌}
use Rattle.isl_meter.specs.Gauge.{Gauge}
use Rattle.isl_space.specs.Element.{Element}
use Rattle.isl_space.specs.Name.{Name}
use Rattle.isl_space.specs.Valuation.{Valuation}
use Rattle.isl_union.specs.KeptValue.{KeptValue, Has, HasNoDefinitions, IsKeptValue}
use Rattle.isl_union.specs.Numbers.{HasNumbersUpTo, IsWithinLimit}
use Rattle.isl_union.specs.Sample.{only_piece}
use Rattle.isl_assumed.specs.declared.assumed.Assumed.{Assumed}
use Rattle.isl_assumed.specs.declared.assumed.Assumed.TheVariants.{Nothing, Where}
use Rattle.isl_assumed.specs.Assumed.{Assumes, AssumesSome}
use Rattle.isl_operators.specs.Made.{IsOver}
pub use Rattle.isl_state.specs.Live.{narrows, IsLiveOf, IsLivePart, IsLivePartOf, IsLiveUnder}

-- Where something is assumed, the elements of the value at the valuations that have the same numbers of these names as some assumed one,
-- over these names; and else the value itself.
abbrev pub IsUnderOf : Assumed → List Name → KeptValue → KeptValue → Type 0
IsUnderOf Nothing names value under = under ≡ value
IsUnderOf (Where region) names value under =
    IsOver names (λ valuation element. Has value valuation element × AssumesSome (Where region) names valuation) under

-- that, with what a value keeps, and no number above the limit
pub record IsOperandOf (assumed : Assumed) (names : List Name) (limit : ℕ) (value operand : KeptValue) : Type 0 where
  pub under : IsUnderOf assumed names value operand
  pub kept : IsKeptValue operand
  pub numbers : HasNumbersUpTo limit operand
  pub definitions : HasNoDefinitions value → HasNoDefinitions operand

-- the same where something is assumed
pub record IsOperandIn (g : Gauge) (assumed : Assumed) (names : List Name) (value operand : KeptValue) : Type 0 where
  pub over : IsOver names (λ valuation element. Has value valuation element × AssumesSome assumed names valuation) operand
  pub kept : IsKeptValue operand
  pub numbers : IsWithinLimit g operand
  pub definitions : HasNoDefinitions value → HasNoDefinitions operand

-- no piece where the value has no element at an assumed valuation; else one element that it has at some assumed one, with a row for each
-- number
pub record IsSampleAt (assumed : Assumed) (value sample : KeptValue) : Type 0 where
  pub params : sample.params ≡ value.params
  pub pieces : (((valuation : Valuation) (element : Element) → Assumes assumed valuation → ¬ Has value valuation element)
      × (sample.pieces ≡ []))
      ⊎ ((valuation : Valuation) × (element : Element) × Assumes assumed valuation × Has value valuation element
      × (sample.pieces ≡ only_piece value.params valuation element ∷ []))
