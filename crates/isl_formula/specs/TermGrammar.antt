-- public: the grammar of terms. (isl manual, the notation of sets and relations: affine expressions)
use Rattle.std.specs.Prelude.{ℕ, ℤ, zero, suc, Bool, true, false, List, [], ◌∷◌, Option, Some, None}
use Rattle.isl_token.specs.declared.token.Kind.{Kind}
use Rattle.isl_token.specs.declared.token.Kind.TheVariants as k
use Rattle.isl_token.specs.Spelling.{Grammar, ◌>>=◌, ◌>>◌, ◌∪◌, pure, nothing, word, name, number, positive, many}
use Rattle.isl_tree.specs.declared.tree.Factor.{Factor}
use Rattle.isl_tree.specs.declared.tree.Factor.TheVariants as f
use Rattle.isl_tree.specs.declared.tree.Modded.{Modded}
use Rattle.isl_tree.specs.declared.tree.Product.{Product}
use Rattle.isl_tree.specs.declared.tree.Signed.{Signed}
use Rattle.isl_formula.specs.declared.term.Rounding.{Rounding}
use Rattle.isl_formula.specs.declared.term.Rounding.TheVariants.{Down, Up}
use Rattle.isl_formula.specs.Term.{make_modded, make_product, make_signed, rounded}

-- `-` or `+`
abbrev pub plus_or_minus : Grammar Bool
plus_or_minus = (word k.Minus >> pure true) ∪ (word k.Plus >> pure false)

abbrev pub minus : Grammar Bool
minus = (word k.Minus >> pure true) ∪ pure false

-- {"*" number}
abbrev pub times : Grammar (List ℤ)
times = many (word k.Star >> number)

-- The parameter is a product, with brackets nested one level less.
module _ (nested : Grammar Product) where
  abbrev pub signed_by : Grammar Bool → Grammar Signed
  signed_by sign = do
    negative ← sign
    product ← nested
    pure (make_signed negative product)

  -- ["-" | "+"] product {("+" | "-") product}
  abbrev pub terms : Grammar (List Signed)
  terms = do
    first ← signed_by (plus_or_minus ∪ pure false)
    others ← many (signed_by plus_or_minus)
    pure (first ∷ others)

  -- "(" term ")"
  abbrev pub enclosed : Grammar Factor
  enclosed = do
    word k.Open
    inner ← terms
    word k.Close
    pure (f.Inner inner)

  -- ["-"] product
  abbrev pub over : Grammar (List Signed)
  over = do
    negative ← minus
    product ← nested
    pure (make_signed negative product ∷ [])

  -- ["-"] product "/" number
  abbrev pub ratio : Rounding → Grammar Factor
  ratio rounding = do
    term ← over
    word k.Slash
    divisor ← positive
    pure (rounded rounding term divisor)

  -- ("floor" | "ceil") "(" ratio ")"
  abbrev pub in_brackets : Kind → Rounding → Grammar Factor
  in_brackets kind rounding = do
    word kind
    word k.Open
    quotient ← ratio rounding
    word k.Close
    pure quotient

  -- "[" ratio "]"
  abbrev pub in_squares : Grammar Factor
  in_squares = do
    word k.OpenSquare
    quotient ← ratio Down
    word k.CloseSquare
    pure quotient

  -- ("floord" | "ceild") "(" term "," number ")"
  abbrev pub divided : Kind → Rounding → Grammar Factor
  divided kind rounding = do
    word kind
    word k.Open
    term ← terms
    word k.Comma
    divisor ← positive
    word k.Close
    pure (rounded rounding term divisor)

  abbrev pub quotient : Grammar Factor
  quotient = in_squares ∪ in_brackets k.Floor Down ∪ in_brackets k.Ceil Up ∪ divided k.FloorDiv Down ∪ divided k.CeilDiv Up

  abbrev pub lone : Grammar Factor
  lone = name >>= λ n. pure (f.Name n)

  -- name | "(" term ")" | ("floor" | "ceil") "(" ratio ")" | "[" ratio "]" | ("floord" | "ceild") "(" term "," number ")"
  abbrev pub factor : Grammar Factor
  factor = lone ∪ enclosed ∪ quotient

  -- factor {("mod" | "%") number}
  abbrev pub modded : Grammar Modded
  modded = do
    inside ← factor
    moduli ← many (word k.Mod >> positive)
    pure (make_modded inside moduli)

  abbrev pub held : Grammar (Option Modded)
  held = modded >>= λ m. pure (Some m)

  -- [["*"] modded]
  abbrev pub inner : Grammar (Option Modded)
  inner = pure None ∪ ((word k.Star ∪ nothing) >> held)

  -- number {"*" number} [["*"] modded]
  abbrev pub numbered : Grammar Product
  numbered = do
    first ← number
    others ← times
    last ← inner
    pure (make_product (first ∷ others) last)

  -- modded {"*" number}
  abbrev pub named : Grammar Product
  named = do
    first ← modded
    numbers ← times
    pure (make_product numbers (Some first))

  abbrev pub product_level : Grammar Product
  product_level = numbered ∪ named

-- with brackets nested less deep than the number
unfoldable pub product : ℕ → Grammar Product
product zero = λ _ _. ⊥
product (suc n) = product_level (product n)

abbrev pub term : ℕ → Grammar (List Signed)
term n = terms (product n)
