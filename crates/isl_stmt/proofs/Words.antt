-- What words are not: no word is a sign of statements.
use Rattle.std.proofs.Common.{◌≡◌, Bool, true, false, cond, not, ◌&&◌, List, [], ◌∷◌, refl, sym, ap, ◌∙◌}
use Rattle.std.specs.Str.{bytes_eq}
use Rattle.std.proofs.lemmas.Bool.{false≢true}
use Rattle.std.proofs.Common.{rules}
use denote.Enum.Bare.{same_true, true_same}
use Rattle.isl_token.specs.TokenView.{Token}
use Rattle.isl_token.specs.TokenView as token
use Rattle.isl_token.specs.declared.token.Kind.{Kind}
use Rattle.isl_token.specs.declared.token.Kind.TheVariants as k
use Rattle.isl_token.specs.Token.{Text, kind_in, word_kinds, word_kind, kind_of}
use Rattle.isl_token.proofs.Taking.{both_left, both_right}
use Rattle.isl_stmt.specs.declared.word.Role.{Role}
use Rattle.isl_stmt.specs.declared.word.Role.TheVariants as role
use Rattle.isl_stmt.specs.contracts.word.Role.{the_type}
use Rattle.isl_stmt.specs.Word.{is_role, token_role}

pub is_role_true : (a b : Role) → is_role a b ≡ true → a ≡ b
is_role_true a b e = same_true the_type (search rules) a b e

pub is_role_same : (a b : Role) → a ≡ b → is_role a b ≡ true
is_role_same a b e = true_same the_type a b e

-- each kind of a table passes the test
abbrev all_pass : (Kind → Bool) → List (Text × Kind) → Bool
all_pass test [] = true
all_pass test (entry ∷ entries) = test entry.1 && all_pass test entries

kind_passes : (test : Kind → Bool) (table : List (Text × Kind)) (text : Text) (other : Kind) → all_pass test table ≡ true
    → test other ≡ true → test (kind_in table text other) ≡ true
kind_passes test [] text other all e = e
kind_passes test (entry ∷ entries) text other all e = by_test (bytes_eq entry.0 text) (both_left _ _ all)
    (kind_passes test entries text other (both_right _ _ all) e)
  where
    by_test : (b : Bool) → test entry.1 ≡ true → test (kind_in entries text other) ≡ true
        → test (cond b entry.1 (kind_in entries text other)) ≡ true
    by_test true here there = here
    by_test false here there = there

-- what holds of every kind of word
pub word_passes : (test : Kind → Bool) → all_pass test word_kinds ≡ true → test k.Name ≡ true → (word : Text)
    → test (kind_of (token.Word word)) ≡ true
unfolding word_kind
word_passes test all e word = kind_passes test word_kinds word k.Name all e

-- what no word is
pub sign_is_no_word : (t : Token) (test : Kind → Bool) → all_pass (λ kind. not (test kind)) word_kinds ≡ true → test k.Name ≡ false
    → test (kind_of t) ≡ true → token_role t ≡ role.NoWord
sign_is_no_word (token.Word word) test all name e = absurd
    (false≢true (ap not (sym e) ∙ word_passes (λ kind. not (test kind)) all (ap not name) word))
sign_is_no_word (token.Number digits) test all name e = refl
sign_is_no_word (token.Sign sign) test all name e = refl
