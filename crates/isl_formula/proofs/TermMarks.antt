-- A term holds no mark, and its brackets are closed.
use Rattle.std.proofs.Common.{◌≡◌, ℕ, zero, suc, Bool, true, false, None, refl}
use Rattle.isl_token.specs.declared.token.Kind.{Kind}
use Rattle.isl_token.specs.declared.token.Kind.TheVariants as k
use Rattle.isl_token.specs.Spelling.{Grammar}
use Rattle.isl_token.specs.Spelling as s
use Rattle.isl_token.proofs.Again.{Starts, Follows, follows_either, follows_starts, follows_pure, starts_then, starts_bind, starts_either}
use Rattle.isl_token.proofs.Again.{starts_with}
use Rattle.isl_tree.specs.declared.tree.Factor.TheVariants as f
use Rattle.isl_tree.specs.declared.tree.Product.{Product}
use Rattle.isl_formula.specs.declared.ahead.Mark.{Mark}
use Rattle.isl_formula.specs.declared.term.Rounding.{Rounding}
use Rattle.isl_formula.specs.declared.term.Rounding.TheVariants.{Down, Up}
use Rattle.isl_formula.specs.Ahead.{mark_step}
use Rattle.isl_formula.specs.TermGrammar as spell
use Rattle.isl_formula.proofs.Marks.{Clear, Closes, clear_pure, clear_nothing, clear_bind, clear_map, clear_either, clear_many, clear_word}
use Rattle.isl_formula.proofs.Marks.{clear_name, clear_number, clear_positive, closes_end, closes_bind, clear_brackets, plain}
use Rattle.isl_formula.proofs.Marks.{plain_brackets, plain_other}
use Rattle.isl_formula.proofs.TermAgain.{lone_starts, numbered_starts}

module _ (m : Mark) where
  minus_clear : Clear m (s.word k.Minus)
  minus_clear = clear_word m k.Minus (λ d go. refl)

  plus_or_minus_clear : Clear m spell.plus_or_minus
  plus_or_minus_clear = clear_either m (clear_bind m minus_clear (λ _. clear_pure m true))
      (clear_bind m (clear_word m k.Plus (λ d go. refl)) (λ _. clear_pure m false))

  opt_minus_clear : Clear m spell.minus
  opt_minus_clear = clear_either m (clear_bind m minus_clear (λ _. clear_pure m true)) (clear_pure m false)

  times_clear : Clear m spell.times
  times_clear = clear_many m (clear_bind m (clear_word m k.Star (λ d go. refl)) (λ _. clear_number m))

  close : {A : Type 0} (x : A) → Closes m (s.◌>>◌ (s.word k.Close) (s.pure x))
  close = closes_end m k.Close (λ d go. refl) (λ go. refl)

  module _ (L : Grammar Product) (nested : Clear m L) where
    signed_clear : (sign : Grammar Bool) → Clear m sign → Clear m (spell.signed_by L sign)
    signed_clear sign h = clear_bind m h (λ negative. clear_map m _ nested)

    terms_clear : Clear m (spell.terms L)
    terms_clear = clear_bind m (signed_clear _ (clear_either m plus_or_minus_clear (clear_pure m false)))
        (λ first. clear_map m _ (clear_many m (signed_clear _ plus_or_minus_clear)))

    enclosed_closes : Closes m (s.◌>>=◌ (spell.terms L) (λ inner. s.◌>>◌ (s.word k.Close) (s.pure (f.Inner inner))))
    enclosed_closes = closes_bind m terms_clear (λ inner. close _)

    ratio_clear : (rounding : Rounding) → Clear m (spell.ratio L rounding)
    ratio_clear rounding = clear_bind m (clear_bind m opt_minus_clear (λ negative. clear_map m _ nested))
        (λ term. clear_bind m (clear_word m k.Slash (λ d go. refl)) (λ _. clear_map m _ (clear_positive m)))

    in_brackets_clear : (kind : Kind) → ((level : ℕ) (go : ℕ → Bool) → mark_step m kind level go ≡ go level) → (rounding : Rounding)
        → Clear m (spell.in_brackets L kind rounding)
    in_brackets_clear kind e rounding = clear_bind m (clear_word m kind e)
        (λ _. clear_brackets m k.Open (λ d go. refl) (closes_bind m (ratio_clear rounding) (λ quotient. close _)))

    squares_closes : Closes m (s.◌>>=◌ (spell.ratio L Down) (λ quotient. s.◌>>◌ (s.word k.CloseSquare) (s.pure quotient)))
    squares_closes = closes_bind m (ratio_clear Down) (λ quotient. closes_end m k.CloseSquare (λ d go. refl) (λ go. refl) _)

    divided_clear : (kind : Kind) → ((level : ℕ) (go : ℕ → Bool) → mark_step m kind level go ≡ go level) → (rounding : Rounding)
        → Clear m (spell.divided L kind rounding)
    divided_clear kind e rounding = clear_bind m (clear_word m kind e) (λ _. clear_brackets m k.Open (λ d go. refl)
        (closes_bind m terms_clear (λ term. closes_bind m (clear_word m k.Comma (λ d go. refl))
        (λ _. closes_bind m (clear_positive m) (λ divisor. close _)))))

    quotient_clear : Clear m (spell.quotient L)
    quotient_clear = clear_either m (clear_brackets m k.OpenSquare (λ d go. refl) squares_closes)
        (clear_either m (in_brackets_clear k.Floor (λ d go. refl) Down) (clear_either m (in_brackets_clear k.Ceil (λ d go. refl) Up)
        (clear_either m (divided_clear k.FloorDiv (λ d go. refl) Down) (divided_clear k.CeilDiv (λ d go. refl) Up))))

    factor_clear : Clear m (spell.factor L)
    factor_clear = clear_either m (clear_map m _ (clear_name m))
        (clear_either m (clear_brackets m k.Open (λ d go. refl) enclosed_closes) quotient_clear)

    modded_clear : Clear m (spell.modded L)
    modded_clear = clear_bind m factor_clear (λ inside. clear_map m
        _ (clear_many m (clear_bind m (clear_word m k.Mod (λ d go. refl)) (λ _. clear_positive m))))

    inner_clear : Clear m (spell.inner L)
    inner_clear = clear_either m (clear_pure m None)
        (clear_bind m (clear_either m (clear_word m k.Star (λ d go. refl)) (clear_nothing m)) (λ _. clear_map m _ modded_clear))

    level_clear : Clear m (spell.product_level L)
    level_clear = clear_either m (clear_bind m (clear_number m) (λ first. clear_bind m times_clear (λ others. clear_map m _ inner_clear)))
        (clear_bind m modded_clear (λ first. clear_map m _ times_clear))

    -- no round bracket at its front holds a mark
    factor_plain : Starts (spell.factor L) (plain m k.Open)
    factor_plain = starts_either _ _ (plain m k.Open) (plain_other m k.Open k.Name (lone_starts L) refl)
        (starts_either _ _ (plain m k.Open) (plain_brackets m k.Open k.Open enclosed_closes)
        (starts_either _ _ (plain m k.Open) (plain_other m k.Open k.OpenSquare (starts_with k.OpenSquare _) refl)
        (starts_either _ _ (plain m k.Open) (plain_other m k.Open k.Floor (starts_with k.Floor _) refl)
        (starts_either _ _ (plain m k.Open) (plain_other m k.Open k.Ceil (starts_with k.Ceil _) refl)
        (starts_either _ _ (plain m k.Open) (plain_other m k.Open k.FloorDiv (starts_with k.FloorDiv _) refl)
        (plain_other m k.Open k.CeilDiv (starts_with k.CeilDiv _) refl))))))

    level_plain : Starts (spell.product_level L) (plain m k.Open)
    level_plain = starts_either _ _ (plain m k.Open) (plain_other m k.Open k.Number (numbered_starts L) refl)
        (starts_bind _ _ (plain m k.Open) (starts_bind _ _ (plain m k.Open) factor_plain))

  pub product_clear : (n : ℕ) → Clear m (spell.product n)
  unfolding spell.product
  product_clear zero = record { by = λ a us rest level l. absurd l }
  product_clear (suc n) = level_clear (spell.product n) (product_clear n)

  product_plain : (n : ℕ) → Starts (spell.product n) (plain m k.Open)
  unfolding spell.product
  product_plain zero = record { by = λ a us rest l. absurd l }
  product_plain (suc n) = level_plain (spell.product n) (product_clear n)

  pub term_clear : (n : ℕ) → Clear m (spell.term n)
  term_clear n = terms_clear (spell.product n) (product_clear n)

  sign_plain : Follows (s.◌∪◌ spell.plus_or_minus (s.pure false)) (plain m k.Open) (plain m k.Open)
  sign_plain = follows_either (follows_starts (plain m k.Open)
      (starts_either _ _ (plain m k.Open) (plain_other m k.Open k.Minus (starts_with k.Minus _) refl)
      (plain_other m k.Open k.Plus (starts_with k.Plus _) refl)))
      (follows_pure false (plain m k.Open) (plain m k.Open) (λ rest e. e))

  pub term_plain : (n : ℕ) → Starts (spell.term n) (plain m k.Open)
  term_plain n = starts_bind _ _ (plain m k.Open)
      (starts_then _ _ (plain m k.Open) sign_plain (λ negative. starts_bind _ _ (plain m k.Open) (product_plain n)))
