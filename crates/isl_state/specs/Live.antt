-- public: the pieces of values that have an element at an assumed valuation of the parameters. (isl manual, on parameter domains)
use Rattle.std.specs.Prelude.{◌≡◌, Bool, true, false, All}
use Rattle.isl_union.specs.KeptValue.{KeptValue, IsKeptValue}
use Rattle.isl_assumed.specs.declared.assumed.Assumed.{Assumed}
use Rattle.isl_assumed.specs.declared.assumed.Assumed.TheVariants.{Nothing, Where}
use Rattle.isl_assumed.specs.Assumed.{Assumes}
use Rattle.isl_assumed.specs.Values.{AreLiveUnder, IsDeadAt}

-- whether something is assumed
abbrev pub narrows : Assumed → Bool
narrows Nothing = false
narrows (Where region) = true

-- each piece of the value has an element at an assumed valuation
abbrev pub IsLiveUnder : Assumed → KeptValue → Type 0
IsLiveUnder assumed value = All (λ piece. ¬ IsDeadAt (Assumes assumed) value.params piece) value.pieces

-- the pieces of the value that have an element at an assumed valuation, unchanged and in order: where nothing is assumed, all of them
pub record IsLivePartOf (assumed : Assumed) (value part : KeptValue) : Type 0 where
  pub params : part.params ≡ value.params
  pub pieces : AreLiveUnder assumed value.params value.pieces part.pieces

-- those of a value that is made so
abbrev pub IsLiveOf : Assumed → (KeptValue → Type 0) → KeptValue → Type 0
IsLiveOf assumed Made value = (made : KeptValue) × IsKeptValue made × Made made × IsLivePartOf assumed made value

-- that, with what a value keeps
pub record IsLivePart (assumed : Assumed) (value live : KeptValue) : Type 0 where
  pub part : IsLivePartOf assumed value live
  pub kept : IsKeptValue live
