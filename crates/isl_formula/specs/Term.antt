-- inner: terms: how they are read.
use Rattle.std.specs.Prelude.{ℕ, ℤ, zero, suc, Bool, true, false, ◌&&◌, List, [], ◌∷◌, Option, Some, None, if◌then◌else◌}
use Rattle.isl_token.specs.TokenView.{Token}
use Rattle.isl_token.specs.declared.token.Kind.{Kind}
use Rattle.isl_token.specs.declared.token.Kind.TheVariants as k
use Rattle.isl_token.specs.Token.{is_kind}
use Rattle.isl_token.specs.Reading.{Parser, ◌>>=◌, ◌>>◌, pure, none, head_kind, second_kind, tail, sees, peek, skip, expect, name, number}
use Rattle.isl_token.specs.Reading.{positive, row}
use Rattle.isl_tree.specs.declared.tree.Factor.{Factor}
use Rattle.isl_tree.specs.declared.tree.Factor.TheVariants as f
use Rattle.isl_tree.specs.declared.tree.Modded.{Modded, roll-Modded}
use Rattle.isl_tree.specs.declared.tree.Product.{Product, roll-Product}
use Rattle.isl_tree.specs.declared.tree.Signed.{Signed, roll-Signed}
use Rattle.isl_formula.specs.declared.term.Rounding.{Rounding}
use Rattle.isl_formula.specs.declared.term.Rounding.TheVariants.{Down, Up}

-- ---- how the code makes a tree

abbrev pub make_modded : Factor → List ℤ → Modded
make_modded factor moduli = roll-Modded (record { factor = factor; moduli = moduli })

abbrev pub make_product : List ℤ → Option Modded → Product
make_product numbers inner = roll-Product (record { numbers = numbers; inner = inner })

abbrev pub make_signed : Bool → Product → Signed
make_signed negative product = roll-Signed (record { negative = negative; product = product })

abbrev pub rounded : Rounding → List Signed → ℤ → Factor
rounded Down term divisor = f.Floor term divisor
rounded Up term divisor = f.Ceil term divisor

-- ---- tests of the next tokens

abbrev pub is_additive : Kind → Bool
is_additive k.Plus = true
is_additive k.Minus = true
is_additive _ = false

abbrev pub begins_factor : Kind → Bool
begins_factor k.Name = true
begins_factor k.Open = true
begins_factor k.Floor = true
begins_factor k.Ceil = true
begins_factor k.OpenSquare = true
begins_factor k.FloorDiv = true
begins_factor k.CeilDiv = true
begins_factor _ = false

-- `*` and a number
abbrev pub sees_times : List Token → Bool
sees_times ts = sees k.Star ts && is_kind (second_kind ts) k.Number

-- ---- readers

-- a sign that may be missing
abbrev pub sign_by : Kind → Parser Bool
sign_by k.Minus = skip >> pure true
sign_by k.Plus = skip >> pure false
sign_by _ = pure false

unfoldable pub sign : Parser Bool
sign = peek >>= sign_by

-- a `-` that may be missing
unfoldable pub minus : Parser Bool
minus = λ ts. if sees k.Minus ts then Some (true, tail ts) else Some (false, ts)

unfoldable pub next_number : Parser ℤ
next_number = skip >> number

-- `*` and a number, as often as these come, after some numbers
abbrev pub times : List ℤ → Parser (List ℤ)
times = row sees_times next_number

unfoldable pub modulus : Parser ℤ
modulus = skip >> positive

abbrev pub moduli : Parser (List ℤ)
moduli = row (sees k.Mod) modulus []

-- The parameter reads a product, with brackets nested one level less.
module _ (nested : Parser Product) where
  unfoldable pub signed : Parser Signed
  signed = do
    negative ← sign
    product ← nested
    pure (make_signed negative product)

  unfoldable pub terms : Parser (List Signed)
  terms = do
    first ← signed
    row (λ ts. is_additive (head_kind ts)) signed (first ∷ [])

  -- a term and `)`, after the bracket
  unfoldable pub enclosed : Parser Factor
  enclosed = do
    inner ← terms
    expect k.Close
    pure (f.Inner inner)

  -- a product that may have a `-`
  unfoldable pub over : Parser (List Signed)
  over = do
    negative ← minus
    product ← nested
    pure (make_signed negative product ∷ [])

  -- such a product, `/` and a divisor
  unfoldable pub ratio : Rounding → Parser Factor
  ratio rounding = do
    term ← over
    expect k.Slash
    divisor ← positive
    pure (rounded rounding term divisor)

  -- `(` ratio `)`
  unfoldable pub in_brackets : Rounding → Parser Factor
  in_brackets rounding = do
    expect k.Open
    quotient ← ratio rounding
    expect k.Close
    pure quotient

  -- a ratio and `]`, after the bracket
  unfoldable pub in_squares : Parser Factor
  in_squares = do
    quotient ← ratio Down
    expect k.CloseSquare
    pure quotient

  -- `(` term `,` divisor `)`
  unfoldable pub divided : Rounding → Parser Factor
  divided rounding = do
    expect k.Open
    term ← terms
    expect k.Comma
    divisor ← positive
    expect k.Close
    pure (rounded rounding term divisor)

  -- a quotient, from its first token on, which is of the kind
  abbrev pub quotient_by : Kind → Parser Factor
  quotient_by k.OpenSquare = skip >> in_squares
  quotient_by k.Floor = skip >> in_brackets Down
  quotient_by k.Ceil = skip >> in_brackets Up
  quotient_by k.FloorDiv = skip >> divided Down
  quotient_by k.CeilDiv = skip >> divided Up
  quotient_by _ = none

  abbrev pub factor_by : Kind → Parser Factor
  factor_by k.Name = name >>= λ n. pure (f.Name n)
  factor_by k.Open = skip >> enclosed
  factor_by kind = quotient_by kind

  unfoldable pub factor : Parser Factor
  factor = peek >>= factor_by

  unfoldable pub modded : Parser Modded
  modded = do
    inner ← factor
    found ← moduli
    pure (make_modded inner found)

  unfoldable pub held : Parser (Option Modded)
  held = modded >>= λ m. pure (Some m)

  abbrev pub inner_by : Kind → Parser (Option Modded)
  inner_by kind = if is_kind kind k.Star then skip >> held else (if begins_factor kind then held else pure None)

  -- what follows the numbers of a product
  unfoldable pub inner : Parser (Option Modded)
  inner = peek >>= inner_by

  unfoldable pub numbered : Parser Product
  numbered = do
    first ← number
    numbers ← times (first ∷ [])
    last ← inner
    pure (make_product numbers last)

  unfoldable pub named : Parser Product
  named = do
    first ← modded
    numbers ← times []
    pure (make_product numbers (Some first))

  abbrev pub level_by : Kind → Parser Product
  level_by kind = if is_kind kind k.Number then numbered else named

  unfoldable pub product_level : Parser Product
  product_level = peek >>= level_by

-- with brackets nested less deep than the number
unfoldable pub product : ℕ → Parser Product
product zero = none
product (suc n) = product_level (product n)

abbrev pub term : ℕ → Parser (List Signed)
term n = terms (product n)
