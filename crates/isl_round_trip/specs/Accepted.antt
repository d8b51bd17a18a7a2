-- public: when a printed value keeps what the reader of literals limits: depth and numbers.
use Rattle.std.specs.Prelude.{◌≡◌, ℕ, pos, false, List, length, All, Some, IfSome, Result, Ok}
use Rattle.isl_space.specs.Name.{Name}
use Rattle.isl_space.specs.Form.{Form, leaf, pair}
use Rattle.isl_space.specs.SpaceForm.{SpaceForm, set_of, map_of}
use Rattle.isl_union.specs.KeptValue.{KeptValue}
use Rattle.isl_print.specs.Printed.{printed}
use Rattle.isl_token.specs.TokenView.{Token}
use Rattle.isl_token.specs.Depth.{is_stacking_word}
use Rattle.isl_token.specs.Lex.{tokens}
use Rattle.isl_tree.specs.declared.tree.Literal.{Literal}
use Rattle.isl_refusal.specs.declared.refusal.Refusal.{Refusal}
use Rattle.isl_text.specs.Read.{Answers, ExactlyWhere}
use Rattle.isl_round_trip.specs.Tree.{printed_tree}

-- a name that adds nothing to the depth of a text, as `dom` and `last` would
abbrev pub IsQuiet : Name → Type 0
IsQuiet name = is_stacking_word name ≡ false

abbrev pub IsQuietForm : Form → Type 0
IsQuietForm (leaf name width) = IfSome name IsQuiet
IsQuietForm (pair left right) = IsQuietForm left × IsQuietForm right

abbrev pub IsQuietSpace : SpaceForm → Type 0
IsQuietSpace (set_of form) = IsQuietForm form
IsQuietSpace (map_of from to) = IsQuietForm from × IsQuietForm to

-- the parameters and the names of the tuples
pub record HasQuietNames (value : KeptValue) : Type 0 where
  pub params : All IsQuiet value.params
  pub spaces : All (λ piece. IsQuietSpace piece.space) value.pieces

-- what reading the tokens of the text answers by the contract of the reader is the printed tree and the end, unless memory runs out
abbrev pub IsAccepted : ℕ → KeptValue → Type 0
IsAccepted limit value =
    (ts : List Token) (result : Result (Literal × ℕ) Refusal) → tokens (printed value) ≡ Some ts → ExactlyWhere ts 0 (pos limit) result
    → Answers result (Ok (printed_tree value, length ts))
