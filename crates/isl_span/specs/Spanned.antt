-- public: functions of points that are sums of multiples of others, up to a factor; and functions that have points of their own. (linear
-- algebra)
use Rattle.std.specs.Prelude.{◌≡◌, ◌≢◌, ℤ, pos, ◌+ℤ◌, ◌*ℤ◌, ◌-ℤ◌, List, [], ◌∷◌}
use Rattle.std.specs.List.{AllByRecursion}

abbrev pub Fun : Type 0
Fun = List ℤ → ℤ

-- ---- sums
-- the sum of the functions, each times its factor
abbrev pub total : List ℤ → List Fun → List ℤ → ℤ
total [] gs x = pos 0
total (a ∷ factors) [] x = pos 0
total (a ∷ factors) (g ∷ gs) x = a *ℤ g x +ℤ total factors gs x

-- a multiple of the function is such a sum of those that are proved to vanish, and of those that may
pub record IsSpanned (proved others : List Fun) (f : Fun) : Type 0 where
  pub times : ℤ
  pub nonzero : times ≢ pos 0
  pub first : List ℤ
  pub second : List ℤ
  pub is : (x : List ℤ) → times *ℤ f x ≡ total first proved x +ℤ total second others x

-- where h is not 0 at q: g made so that it vanishes at q
abbrev pub exchanged : Fun → List ℤ → Fun → Fun
exchanged h q g x = h q *ℤ g x -ℤ g q *ℤ h x

-- the first is the second times a number that is not 0
pub record IsMultipleOf (f g : Fun) : Type 0 where
  pub factor : ℤ
  pub nonzero : factor ≢ pos 0
  pub is : (x : List ℤ) → f x ≡ factor *ℤ g x

-- ---- points of their own
-- all of the functions are 0 at the point
abbrev pub Vanish : List Fun → List ℤ → Type 0
Vanish gs x = AllByRecursion (λ (g : Fun). g x ≡ pos 0) gs

-- the function is 0 at all of the points
abbrev pub VanishesAt : Fun → List (List ℤ) → Type 0
VanishesAt g xs = AllByRecursion (λ x. g x ≡ pos 0) xs

-- the points are those of the functions, in order: each function is 0 at all of them but its own
abbrev pub HaveOwn : List Fun → List (List ℤ) → Type 0
HaveOwn [] [] = Unit {0}
HaveOwn [] (x ∷ xs) = ⊥
HaveOwn (g ∷ gs) [] = ⊥
HaveOwn (g ∷ gs) (x ∷ xs) = (g x ≢ pos 0) × Vanish gs x × VanishesAt g xs × HaveOwn gs xs
