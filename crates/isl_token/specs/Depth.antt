-- public: how deep the tokens of a text are nested.
use Rattle.std.specs.Prelude.{ℕ, ◌+◌, ◌-◌, Bool, false, nat_lt, List, [], ◌∷◌, ◌++◌, map, codes, if◌then◌else◌}
use Rattle.std.specs.List.{list_any}
use Rattle.std.specs.Str.{bytes_eq}
use Rattle.isl_space.specs.Limits.{most_depth}
use Rattle.isl_tree.specs.Words.{spellings}
use Rattle.isl_token.specs.declared.depth.Place.{Place}
use Rattle.isl_token.specs.TokenView.{Token}
use Rattle.isl_token.specs.TokenView as token
use Rattle.isl_token.specs.declared.token.Kind.{Kind}
use Rattle.isl_token.specs.declared.token.Kind.TheVariants as kind
use Rattle.isl_token.specs.Token.{Text, is_kind, kind_of}

-- the words that stand before an operand, so that they can stand in a row: two of formulas, those of the table, `any` and `last`
unfoldable pub stacking_words : List Text
stacking_words = codes "not" ∷ codes "exists" ∷ (map (λ entry. entry.0) spellings ++ codes "any" ∷ codes "last" ∷ [])

abbrev pub is_stacking_word : Text → Bool
is_stacking_word word = list_any (bytes_eq word) stacking_words

-- a stacking word, or `!`
abbrev pub is_stacking : Token → Bool
is_stacking (token.Word word) = is_stacking_word word
is_stacking (token.Number digits) = false
is_stacking (token.Sign sign) = is_kind (kind_of (token.Sign sign)) kind.Not

abbrev pub head_is_stacking : List Token → Bool
head_is_stacking [] = false
head_is_stacking (t ∷ ts) = is_stacking t

-- Brackets open and close. A brace or `;` begins the count of words anew.
abbrev pub step_by : Place → Bool → Kind → Place
step_by p stacking kind.Open = record { brackets = p.brackets + 1; words = p.words }
step_by p stacking kind.OpenSquare = record { brackets = p.brackets + 1; words = p.words }
step_by p stacking kind.OpenBrace = record { brackets = p.brackets + 1; words = 0 }
step_by p stacking kind.Close = record { brackets = p.brackets - 1; words = p.words }
step_by p stacking kind.CloseSquare = record { brackets = p.brackets - 1; words = p.words }
step_by p stacking kind.CloseBrace = record { brackets = p.brackets - 1; words = 0 }
step_by p stacking kind.Semicolon = record { brackets = p.brackets; words = 0 }
step_by p stacking _ = record { brackets = p.brackets; words = p.words + (if stacking then 1 else 0) }

-- the place behind a token
abbrev pub step : Place → Token → Place
step p t = step_by p (is_stacking t) (kind_of t)

abbrev pub start : Place
start = record { brackets = 0; words = 0 }

-- the depth at each token, which counts itself
abbrev pub depths : Place → List Token → List ℕ
depths p [] = []
depths p (t ∷ ts) = ((step p t).brackets + (step p t).words) ∷ depths (step p t) ts

-- the depth is above 200 at some token
abbrev pub is_too_deep : List Token → Bool
is_too_deep ts = list_any (nat_lt most_depth) (depths start ts)
