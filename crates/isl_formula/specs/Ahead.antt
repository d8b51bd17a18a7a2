-- inner: what a bracket begins, as the tokens up to the bracket that closes it tell.
use Rattle.std.specs.Prelude.{ℕ, zero, suc, Bool, true, false, List, [], ◌∷◌, if◌then◌else◌}
use Rattle.isl_token.specs.TokenView.{Token}
use Rattle.isl_token.specs.declared.token.Kind.{Kind}
use Rattle.isl_token.specs.declared.token.Kind.TheVariants as k
use Rattle.isl_token.specs.Token.{is_kind, kind_of}
use Rattle.isl_formula.specs.declared.ahead.Mark.{Mark}
use Rattle.isl_formula.specs.declared.ahead.Mark.TheVariants.{Formula, Arrow}

abbrev pub is_formula : Mark → Bool
is_formula Formula = true
is_formula Arrow = false

abbrev pub is_arrow : Mark → Bool
is_arrow Formula = false
is_arrow Arrow = true

-- a compare sign or a word of formulas, or an arrow
abbrev pub is_mark : Mark → Kind → Bool
is_mark m k.And = is_formula m
is_mark m k.Or = is_formula m
is_mark m k.Not = is_formula m
is_mark m k.Implies = is_formula m
is_mark m k.Exists = is_formula m
is_mark m k.True = is_formula m
is_mark m k.False = is_formula m
is_mark m k.Equal = is_formula m
is_mark m k.Less = is_formula m
is_mark m k.LessEqual = is_formula m
is_mark m k.Greater = is_formula m
is_mark m k.GreaterEqual = is_formula m
is_mark m k.Differs = is_formula m
is_mark m k.Arrow = is_arrow m
is_mark m _ = false

-- one token, with so many brackets open within the first, before what goes on
abbrev pub mark_step : Mark → Kind → ℕ → (ℕ → Bool) → Bool
mark_step m k.Open level go = go (suc level)
mark_step m k.OpenSquare level go = go (suc level)
mark_step m k.Close zero go = false
mark_step m k.Close (suc level) go = go level
mark_step m k.CloseSquare zero go = false
mark_step m k.CloseSquare (suc level) go = go level
mark_step m kind level go = if is_mark m kind then true else go level

-- whether a mark stands before the bracket that closes the first, with so many more open
unfoldable pub holds : Mark → List Token → ℕ → Bool
holds m [] level = false
holds m (t ∷ ts) level = mark_step m (kind_of t) level (holds m ts)

-- the bracket, in which a mark stands
abbrev pub begins : Kind → Mark → List Token → Bool
begins bracket m [] = false
begins bracket m (t ∷ ts) = if is_kind (kind_of t) bracket then holds m ts 0 else false
