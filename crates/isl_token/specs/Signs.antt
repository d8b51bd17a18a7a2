-- inner: signs by their first three bytes, where a byte that is missing is 0. So they are found, and laws say that it is the longest.
use Rattle.std.specs.Prelude.{ℕ, ◌&&◌, ◌==◌, if◌then◌else◌}
use Rattle.isl_token.specs.declared.token.Kind.{Kind}
use Rattle.isl_token.specs.declared.token.Kind.TheVariants as kind

-- a sign's kind and its length, 0 where no sign begins so
abbrev pub Found : Type 0
Found = Kind × ℕ

abbrev pub none : Found
none = (kind.End, 0)

-- the signs with which no other begins
abbrev pub alone : ℕ → Found
alone a =
    if a == 44 then (kind.Comma, 1)
    else (if a == 59 then (kind.Semicolon, 1)
    else (if a == 40 then (kind.Open, 1)
    else (if a == 41 then (kind.Close, 1)
    else (if a == 91 then (kind.OpenSquare, 1)
    else (if a == 93 then (kind.CloseSquare, 1)
    else (if a == 123 then (kind.OpenBrace, 1)
    else (if a == 125 then (kind.CloseBrace, 1)
    else (if a == 43 then (kind.Plus, 1)
    else (if a == 42 then (kind.Star, 1)
    else (if a == 46 then (kind.Dot, 1)
    else (if a == 47 then (kind.Slash, 1)
    else (if a == 37 then (kind.Mod, 1)
    else none))))))))))))

-- `-` and what begins with it
abbrev pub dashes : ℕ → ℕ → Found
dashes b c =
    if b == 62 then (if c == 45 then (kind.ArrowMinus, 3) else (if c == 42 then (kind.ArrowStar, 3) else (kind.Arrow, 2)))
    else (kind.Minus, 1)

abbrev pub less : ℕ → ℕ → Found
less b c =
    if b == 60 then (if c == 61 then (kind.LexLessEqual, 3) else (kind.LexLess, 2))
    else (if b == 61 then (kind.LessEqual, 2) else (kind.Less, 1))

abbrev pub greater : ℕ → ℕ → Found
greater b c =
    if b == 62 then (if c == 61 then (kind.LexGreaterEqual, 3) else (kind.LexGreater, 2))
    else (if b == 61 then (kind.GreaterEqual, 2) else (kind.Greater, 1))

-- the others
abbrev pub doubled : ℕ → ℕ → ℕ → Found
doubled a b c =
    if a == 58 then (if b == 61 then (kind.Assign, 2) else (kind.Colon, 1))
    else (if a == 61 then (if b == 61 then (kind.Equal, 2) else (kind.Equal, 1))
    else (if a == 33 then (if b == 61 then (kind.Differs, 2) else (kind.Not, 1))
    else (if a == 38 then (if b == 38 then (kind.And, 2) else none)
    else (if a == 124 then (if b == 124 then (kind.Or, 2) else none)
    else (if a == 94 then (if b == 45 && c == 49 then (kind.Inverse, 3) else none)
    else alone a)))))

abbrev pub sign_by : ℕ → ℕ → ℕ → Found
sign_by a b c =
    if a == 45 then dashes b c
    else (if a == 60 then less b c
    else (if a == 62 then greater b c
    else doubled a b c))
