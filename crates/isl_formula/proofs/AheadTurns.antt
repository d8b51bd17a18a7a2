-- One turn of the loop that looks for a mark.
use Rattle.std.proofs.Common.{◌≡◌, ◌≢◌, ℕ, suc, ◌+◌, ◌-◌, ◌<◌, Bool, true, false, cond, List, [], ◌∷◌, length, refl, sym, ap, ◌∙◌, arith}
use Rattle.isl_token.specs.TokenView.{Token}
use Rattle.isl_token.specs.declared.token.Kind.{Kind}
use Rattle.isl_token.specs.declared.token.Kind.TheVariants as k
use Rattle.isl_token.specs.Reading.{head_kind, tail}
use Rattle.isl_formula.specs.declared.ahead.Mark.{Mark}
use Rattle.isl_formula.specs.Ahead.{is_mark, mark_step, holds, begins}

next : (m : Mark) (ts : List Token) (level : ℕ) → 0 < length ts → holds m ts level ≡ mark_step m (head_kind ts) level (holds m (tail ts))
unfolding holds
next m [] level some = absurd (omega (arith, some))
next m (t ∷ ts) level some = refl

mark_or_on : (m : Mark) (kind : Kind) (level : ℕ) (go : ℕ → Bool) → kind ≢ k.Open → kind ≢ k.OpenSquare → kind ≢ k.Close
    → kind ≢ k.CloseSquare
    → mark_step m kind level go ≡ cond (is_mark m kind) true (go level)
mark_or_on m k.Open level go a b c d = absurd (a refl)
mark_or_on m k.OpenSquare level go a b c d = absurd (b refl)
mark_or_on m k.Close level go a b c d = absurd (c refl)
mark_or_on m k.CloseSquare level go a b c d = absurd (d refl)
mark_or_on m _ level go a b c d = refl

module _ (total : Bool) (m : Mark) (ts : List Token) (level : ℕ) (kind : Kind) (so_far : total ≡ holds m ts level)
    (some : 0 < length ts) (head : kind ≡ head_kind ts) where
  step : total ≡ mark_step m kind level (holds m (tail ts))
  step = so_far ∙ next m ts level some ∙ ap (λ h. mark_step m h level (holds m (tail ts))) (sym head)

  pub opens : kind ≡ k.Open → total ≡ holds m (tail ts) (level + 1)
  opens is = let e : suc level ≡ level + 1 = omega arith in step ∙ rw is (ap (holds m (tail ts)) e)

  pub opens_square : kind ≡ k.OpenSquare → total ≡ holds m (tail ts) (level + 1)
  opens_square is = let e : suc level ≡ level + 1 = omega arith in step ∙ rw is (ap (holds m (tail ts)) e)

  pub ends : kind ≡ k.Close → level ≡ 0 → total ≡ false
  ends is none = step ∙ rw (is, none) refl

  pub ends_square : kind ≡ k.CloseSquare → level ≡ 0 → total ≡ false
  ends_square is none = step ∙ rw (is, none) refl

  pub closes : kind ≡ k.Close → level ≢ 0 → total ≡ holds m (tail ts) (level - 1)
  closes is more = let e : level ≡ suc (level - 1) = omega arith in step ∙ rw is (ap (λ l. mark_step m k.Close l (holds m (tail ts))) e)

  pub closes_square : kind ≡ k.CloseSquare → level ≢ 0 → total ≡ holds m (tail ts) (level - 1)
  closes_square is more = let e : level ≡ suc (level - 1) = omega arith in step ∙ rw is
      (ap (λ l. mark_step m k.CloseSquare l (holds m (tail ts))) e)

  pub goes_on : kind ≢ k.Open → kind ≢ k.OpenSquare → kind ≢ k.Close → kind ≢ k.CloseSquare → is_mark m kind ≡ false → total ≡ holds m
      (tail ts) level
  goes_on a b c d none = step ∙ mark_or_on m kind level (holds m (tail ts)) a b c d ∙ rw none refl

  pub found : kind ≢ k.Open → kind ≢ k.OpenSquare → kind ≢ k.Close → kind ≢ k.CloseSquare → is_mark m kind ≡ true → total ≡ true
  found a b c d one = step ∙ mark_or_on m kind level (holds m (tail ts)) a b c d ∙ rw one refl

pub over : (total : Bool) (m : Mark) (ts : List Token) (level : ℕ) → total ≡ holds m ts level → length ts ≡ 0 → total ≡ false
unfolding holds
over total m [] level so_far none = so_far
over total m (t ∷ ts) level so_far none = absurd (omega (arith, none))

pub begins_not : (bracket kind : Kind) (m : Mark) (ts : List Token) → length ts ≡ 0 → false ≡ begins bracket m ts
begins_not bracket kind m [] none = refl
begins_not bracket kind m (t ∷ ts) none = absurd (omega (arith, none))

pub ruleset turns = (opens, opens_square, ends, ends_square, closes, closes_square, goes_on, found, over)

pub ruleset begun = (begins_not)
