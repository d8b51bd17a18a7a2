-- public: what a word is outside literals.
use Rattle.std.specs.Prelude.{Bool, List, [], ◌∷◌, Option, Some, None, codes, if◌then◌else◌}
use denote.Enum.Bare.{sameb}
use Rattle.isl_token.specs.TokenView.{Token}
use Rattle.isl_token.specs.TokenView as token
use Rattle.isl_token.specs.Token.{Text}
use Rattle.isl_token.specs.AnyWord.{any_word}
use Rattle.isl_token.specs.Reading.{Parser, ◌>>◌, pure, none, tail, skip}
use Rattle.isl_tree.specs.declared.statement.Prefix.{Prefix}
use Rattle.isl_tree.specs.Words.{look_up, prefix_of}
use Rattle.isl_stmt.specs.contracts.word.Role.{the_type}
use Rattle.isl_stmt.specs.declared.word.Role.{Role}
use Rattle.isl_stmt.specs.declared.word.Role.TheVariants as role

-- the words beside those of the table that are no names
abbrev pub keywords : List (Text × Role)
keywords =
    (codes "print", role.Print) ∷ (codes "any", role.Any) ∷ (codes "last", role.Last) ∷ (codes "before", role.Before)
    ∷ (codes "under", role.Under) ∷ (codes "cross", role.Cross) ∷ (codes "assume", role.Assume) ∷ []

unfoldable pub keyword_of : Text → Option Role
keyword_of word = look_up keywords word

-- every other word is a name
abbrev pub name_unless : Option Role → Role
name_unless (Some r) = r
name_unless None = role.Name

abbrev pub role_by : Option Prefix → Text → Role
role_by (Some prefix) word = role.Prefix
role_by None word = name_unless (keyword_of word)

abbrev pub role_of : Text → Role
role_of word = role_by (prefix_of word) word

-- `==` on roles
abbrev pub is_role : Role → Role → Bool
is_role = sameb the_type

-- what a token is, where it is a word
abbrev pub token_role : Token → Role
token_role (token.Word word) = role_of word
token_role (token.Number digits) = role.NoWord
token_role (token.Sign sign) = role.NoWord

abbrev pub head_role : List Token → Role
head_role [] = role.NoWord
head_role (t ∷ ts) = token_role t

-- ---- how words are read

abbrev pub look : Parser Role
look = λ ts. Some (head_role ts, ts)

unfoldable pub expect_word : Role → Parser (Unit {0})
expect_word r = λ ts. if is_role (head_role ts) r then Some (tt, tail ts) else None

-- a name
unfoldable pub variable : Parser Text
variable = λ ts. if is_role (head_role ts) role.Name then any_word ts else None

-- the next token, where it is a word before an operand
abbrev pub token_prefix : Token → Option Prefix
token_prefix (token.Word word) = prefix_of word
token_prefix (token.Number digits) = None
token_prefix (token.Sign sign) = None

abbrev pub head_prefix : List Token → Option Prefix
head_prefix [] = None
head_prefix (t ∷ ts) = token_prefix t

abbrev pub prefix_given : Option Prefix → Parser Prefix
prefix_given (Some prefix) = skip >> pure prefix
prefix_given None = none

-- a word that stands before an operand
unfoldable pub prefix : Parser Prefix
prefix = λ ts. prefix_given (head_prefix ts) ts
