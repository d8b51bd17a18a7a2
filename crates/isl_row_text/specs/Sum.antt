-- public: linear forms as sums of what is above 0, on two sides. (isl manual, the notation of sets and relations: affine constraints)
use Rattle.std.specs.Prelude.{ℕ, suc, ℤ, pos, negsuc, Bool, true, false, ◌==◌, List, [], ◌∷◌, ◌++◌, map, codes, if◌then◌else◌}
use Rattle.std.specs.Fmt.{decimal}
use Rattle.isl_space.specs.Name.{Name}
use Rattle.isl_row_text.specs.declared.sum.Side.{Side}
use Rattle.isl_row_text.specs.declared.sum.Side.TheVariants.{Left, Right}
use Rattle.isl_row_text.specs.Joined.{Text, each_after, joined_by}

-- how much of a number stands on a side: on the left what is above 0, on the right the magnitude of what is below
abbrev pub share : Side → ℤ → ℕ
share Left (pos n) = n
share Left (negsuc n) = 0
share Right (pos n) = 0
share Right (negsuc n) = suc n

-- a coefficient, and the name that it stands before
abbrev pub Term : Type 0
Term = ℕ × Name

-- the terms on a side, in the order of the columns
abbrev pub terms_of : Side → List Name → List ℤ → List Term
terms_of side (name ∷ names) (number ∷ numbers) =
    if share side number == 0 then terms_of side names numbers else (share side number, name) ∷ terms_of side names numbers
terms_of side _ _ = []

-- the coefficient 1 is not written
abbrev pub term_text : Term → Text
term_text term = if term.0 == 1 then term.1 else decimal term.0 ++ term.1

-- nor is the constant 0
abbrev pub constant_texts : ℕ → List Text
constant_texts constant = if constant == 0 then [] else decimal constant ∷ []

-- the terms, and the constant behind them
abbrev pub summands : Side → List Name → List ℤ → ℤ → List Text
summands side names numbers constant = map term_text (terms_of side names numbers) ++ constant_texts (share side constant)

-- a sum of texts; one of none is `0`
abbrev pub sum_of : List Text → Text
sum_of [] = codes "0"
sum_of (text ∷ texts) = joined_by (codes " + ") (text ∷ texts)

-- what stands before a summand: nothing before the first
abbrev pub lead_text : Bool → Text
lead_text true = []
lead_text false = codes " + "

-- what is left to write of a sum, of which nothing was written yet, or something
abbrev pub rest_of_sum : Bool → List Text → Text
rest_of_sum true texts = sum_of texts
rest_of_sum false texts = each_after (codes " + ") texts

-- the part of a linear form that stands on a side
abbrev pub side_text : Side → List Name → List ℤ → ℤ → Text
side_text side names numbers constant = sum_of (summands side names numbers constant)
