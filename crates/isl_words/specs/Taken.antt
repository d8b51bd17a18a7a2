-- public: the option table, and what the words of the command line choose by it. Which lists of words such a command takes is said by the
-- definitions of `clap`.
use Rattle.std.specs.Prelude.{◌≡◌, ◌<◌, ℕ, ℤ, ◌-◌, ◌^◌, Bool, true, false, List, [], ◌∷◌, codes, length, if◌then◌else◌}
use Rattle.std.specs.Prelude.{Option, Some, None, MatchOption, option_map}
use Rattle.std.specs.List.{list_any}
use Rattle.std.specs.Option.{option_map_or}
use Rattle.std.specs.Str.{bytes_eq}
use Rattle.clap.specs.Walk.{Row, Rule, Text, first_of}
use Rattle.clap.specs.Simple.{App, matches_of, new_app, new_rule, with_rule}
use Rattle.clap.specs.Faults.{fault_of}
use Rattle.clap.specs.declared.builder.action.ArgAction.TheVariants.{Set, SetTrue}
use Rattle.isl_words.specs.Number.{number}
use Rattle.isl_words.specs.Binding.{AreBindings}
use Rattle.isl_words.specs.Options.{OptionsView, least_bits, most_bits, usual_bits, least_budget, most_budget, usual_budget}
use Rattle.isl_words.specs.Options.{least_made, most_made}

-- ---- the table
-- each option's name, and whether a value stands behind it: `[--bits B] [--budget N] [--at NAME=INT,..] [--run] [--make N] [--keep-going]
-- [--cert]`
abbrev pub table : List (Text × Bool)
table =
    (codes "bits", true) ∷ (codes "budget", true) ∷ (codes "at", true) ∷ (codes "run", false) ∷ (codes "make", true)
    ∷ (codes "keep-going", false) ∷ (codes "cert", false) ∷ []

-- `--name VALUE` or `--name`
abbrev pub rule : Text × Bool → Rule
rule row = record (new_rule row.0) { long = Some row.0; action = Some (if row.1 then Set else SetTrue) }

-- no argument; help and version are switched off
abbrev pub bare : App
bare =
    let plain = new_app (codes "iscc") in
    record plain { top = record plain.top { disable_help_flag = true; disable_version_flag = true } }

abbrev pub with_rows : App → List (Text × Bool) → App
with_rows app [] = app
with_rows app (row ∷ rows) = with_rows (with_rule app (rule row)) rows

-- the options of the table, each at most once, and no positional
abbrev pub command : App
command = with_rows bare table

-- ---- what is chosen
-- the number between the two that is given, or the usual one where none is given
abbrev pub chosen : ℕ → ℕ → ℕ → Option Text → Option ℕ
chosen low high usual given = option_map_or (number low high) given (Some usual)

-- B of `--bits B`, the usual bits where it is left out; N of `--budget N`, the usual budget where it is left out
abbrev pub bits_of : Option Text → Option ℕ
bits_of given = chosen least_bits most_bits usual_bits given

abbrev pub budget_of : Option Text → Option ℕ
budget_of given = chosen least_budget most_budget usual_budget given

-- the bindings of `--at NAME=INT,..`, none where it is left out
abbrev pub AreGiven : ℕ → Option Text → List (List ℕ × ℤ) → Type 0
AreGiven limit given at = MatchOption given (at ≡ []) (λ text. AreBindings limit text at)

-- whether the flag is given, of which the value then is `true`
abbrev pub is_set : Option Text → Bool
is_set given = option_map_or (λ text. bytes_eq text (codes "true")) given false

-- N of `--make N`; nothing is made where it is left out
abbrev pub make_of : Option Text → Option (Option ℕ)
make_of None = Some None
make_of (Some text) = option_map (λ n. Some n) (number least_made most_made text)

-- what the values choose that are given to the options; the numbers of `--at` are within the limit of the bits that are chosen
pub record Chooses (rows : List Row) (options : OptionsView) : Type 0 where
  pub bits : bits_of (first_of (codes "bits") rows) ≡ Some options.bits
  pub budget : budget_of (first_of (codes "budget") rows) ≡ Some options.budget
  pub at : AreGiven (2 ^ options.bits - 1) (first_of (codes "at") rows) options.at
  pub run : is_set (first_of (codes "run") rows) ≡ options.run
  pub make : make_of (first_of (codes "make") rows) ≡ Some options.make
  pub keep_going : is_set (first_of (codes "keep-going") rows) ≡ options.keep_going
  pub cert : is_set (first_of (codes "cert") rows) ≡ options.cert

-- ---- the words
-- `--`, behind which no word is an option
abbrev pub is_dashes : Text → Bool
is_dashes word = bytes_eq word (codes "--")

-- the words, of which the first is the program's name, are in the option table and choose these options; none is `--`
pub record AreTaken (words : List Text) (options : OptionsView) : Type 0 where
  pub named : 0 < length words
  pub no_dashes : list_any is_dashes words ≡ false
  pub in_table : fault_of command words ≡ []
  pub chosen : Chooses (matches_of command words) options
