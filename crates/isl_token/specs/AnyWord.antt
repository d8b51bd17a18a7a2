-- public: how a word is read, whatever it means inside a literal.
use Rattle.std.specs.Prelude.{[], ◌∷◌, Some, None}
use Rattle.isl_token.specs.TokenView.{Token}
use Rattle.isl_token.specs.TokenView as token
use Rattle.isl_token.specs.Token.{Text}
use Rattle.isl_token.specs.Reading.{Parser}

unfoldable pub any_word : Parser Text
any_word [] = None
any_word (token.Word word ∷ ts) = Some (word, ts)
any_word (token.Number digits ∷ ts) = None
any_word (token.Sign sign ∷ ts) = None
