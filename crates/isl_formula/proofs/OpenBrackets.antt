-- A bracket that is looked into is the next token.
use Rattle.std.proofs.Common.{◌≡◌, Bool, true, false, cond, List, [], ◌∷◌, refl}
use Rattle.std.proofs.lemmas.Bool.{false≢true}
use Rattle.isl_token.specs.TokenView.{Token}
use Rattle.isl_token.specs.declared.token.Kind.{Kind}
use Rattle.isl_token.specs.Token.{is_kind, kind_of}
use Rattle.isl_token.specs.Reading.{head_kind}
use Rattle.isl_token.proofs.Taking.{is_kind_true}
use Rattle.isl_formula.specs.declared.ahead.Mark.{Mark}
use Rattle.isl_formula.specs.Ahead.{begins, holds}

pub begins_bracket : (bracket : Kind) (m : Mark) (ts : List Token) → begins bracket m ts ≡ true → head_kind ts ≡ bracket
begins_bracket bracket m [] h = absurd (false≢true h)
begins_bracket bracket m (t ∷ ts) h = is_kind_true (kind_of t) bracket (first (is_kind (kind_of t) bracket) h)
  where
    first : (q : Bool) → cond q (holds m ts 0) false ≡ true → q ≡ true
    first true h = refl
    first false h = h
