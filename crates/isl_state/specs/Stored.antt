-- inner: how what is bound is stored, which a model asks for: as the tuples of its parts; and what is true of all of it.
use Rattle.std.specs.Prelude.{◌≡◌, List, Option, refl}
use Rattle.std.specs.Coded.{Coded, code_by, coded×, coded_list, coded_option, coded_ℕ}
use Rattle.isl_space.specs.Name.{Name}
use Rattle.isl_tree.specs.declared.statement.ValueKind.{ValueKind}
use Rattle.isl_tree.specs.contracts.statement.ValueKind as kind
use Rattle.isl_assumed.specs.contracts.assumed.Assumed as assumed
use Rattle.isl_assumed.specs.declared.assumed.Assumed.{Assumed}
use Rattle.isl_union.specs.KeptValue.{KeptValue, HasNoDefinitions}
use Rattle.isl_union.specs.Stored.{kept_value_code}
use Rattle.isl_state.specs.declared.list.ListPart.{ListPart}
use Rattle.isl_state.specs.declared.list.ListPart.TheVariants.{Second}
use Rattle.isl_state.specs.State.{Kept, StateView, value_at}

abbrev pub kept_code : Coded Kept
kept_code =
    code_by ((ValueKind × KeptValue) × Option KeptValue)
    (coded× (coded× kind.the_row.coded kept_value_code) (coded_option kept_value_code)) (λ kept. ((kept.kind, kept.value), kept.second))
    (λ parts. record { kind = parts.0.0; value = parts.0.1; second = parts.1 }) (λ _. refl)

abbrev pub state_code : Coded StateView
state_code =
    code_by (List (Name × Kept) × Assumed)
    (coded× (coded_list (coded× (coded_list coded_ℕ) kept_code)) assumed.the_row.coded)
    (λ state. (state.bound, state.assumed)) (λ parts. record { bound = parts.0; assumed = parts.1 }) (λ _. refl)

-- no value of what is kept defines a column, and both values of a list are over one list of parameters
pub record IsPlainKept (kept : Kept) : Type 0 where
  pub definitions : (part : ListPart) → HasNoDefinitions (value_at part kept)
  pub params : (value_at Second kept).params ≡ kept.value.params
