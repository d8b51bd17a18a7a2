-- What the text of a word tells of the next token.
use Rattle.std.proofs.Common.{◌≡◌, List, [], ◌∷◌, Option, Some, None, refl, sym, ap, ◌∙◌}
use Rattle.isl_token.specs.TokenView.{Token}
use Rattle.isl_token.specs.TokenView as token
use Rattle.isl_token.specs.Token.{Text}
use Rattle.isl_token.specs.AnyWord.{any_word}
use Rattle.isl_token.proofs.Taking.{same_read}
use Rattle.isl_tree.specs.declared.statement.Prefix.{Prefix}
use Rattle.isl_stmt.specs.declared.word.Role.{Role}
use Rattle.isl_stmt.specs.declared.word.Role.TheVariants as role
use Rattle.isl_tree.specs.Words.{prefix_of}
use Rattle.isl_stmt.specs.Word.{head_role, head_prefix, role_of}

pub role_there : (ts us : List Token) (w : Text) (r : Role) → any_word ts ≡ Some (w, us) → r ≡ role_of w → r ≡ head_role ts
unfolding any_word
role_there [] us w r is of_word = absurd cc
role_there (token.Word word ∷ ts) us w r is of_word = of_word ∙ ap role_of (sym (same_read word w ts us is).0)
role_there (token.Number digits ∷ ts) us w r is of_word = absurd cc
role_there (token.Sign sign ∷ ts) us w r is of_word = absurd cc

pub no_role : (ts : List Token) → any_word ts ≡ None → role.NoWord ≡ head_role ts
unfolding any_word
no_role [] is = refl
no_role (token.Word word ∷ ts) is = absurd cc
no_role (token.Number digits ∷ ts) is = refl
no_role (token.Sign sign ∷ ts) is = refl

pub prefix_there : (ts us : List Token) (w : Text) (p : Option Prefix) → any_word ts ≡ Some (w, us) → p ≡ prefix_of w → p ≡ head_prefix ts
unfolding any_word
prefix_there [] us w p is of_word = absurd cc
prefix_there (token.Word word ∷ ts) us w p is of_word = of_word ∙ ap prefix_of (sym (same_read word w ts us is).0)
prefix_there (token.Number digits ∷ ts) us w p is of_word = absurd cc
prefix_there (token.Sign sign ∷ ts) us w p is of_word = absurd cc

abbrev no_prefix_found : Option Prefix
no_prefix_found = None

pub no_prefix : (ts : List Token) → any_word ts ≡ None → no_prefix_found ≡ head_prefix ts
unfolding any_word
no_prefix [] is = refl
no_prefix (token.Word word ∷ ts) is = absurd cc
no_prefix (token.Number digits ∷ ts) is = refl
no_prefix (token.Sign sign ∷ ts) is = refl

pub ruleset word_reads = (role_there, no_role, prefix_there, no_prefix)
