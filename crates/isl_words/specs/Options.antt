-- public: what the command line chooses.
use Rattle.std.specs.Prelude.{ℕ, ℤ, ◌-◌, ◌^◌, ◌≤◌, Bool, List, All, map, unsigned_abs, Option, IfSome}
use Rattle.isl_space.specs.Name.{Name, IsIdentifier}
use Rattle.isl_space.specs.Names.{AreDistinct}

-- the fewest and the most bits that the magnitudes of numbers may have, and how many they have where none are chosen
abbrev pub least_bits : ℕ
least_bits = 8

abbrev pub most_bits : ℕ
most_bits = 127

abbrev pub usual_bits : ℕ
usual_bits = 127

-- the fewest and the most units of work that a statement may be given, and how many it has where none are chosen
abbrev pub least_budget : ℕ
least_budget = 1

abbrev pub most_budget : ℕ
most_budget = 10 ^ 12

abbrev pub usual_budget : ℕ
usual_budget = 10 ^ 7

-- the fewest and the most sizes for which a script may be made
abbrev pub least_made : ℕ
least_made = 1

abbrev pub most_made : ℕ
most_made = 1000

-- the bits of numbers; the units that a statement may use; the numbers of parameters; whether loops are run; for how many sizes a script
-- is made, where the source's is not read; whether refused statements are skipped; whether each `True` is followed by its proofs
pub record OptionsView : Type 0 where
  pub bits : ℕ
  pub budget : ℕ
  pub at : List (Name × ℤ)
  pub run : Bool
  pub make : Option ℕ
  pub keep_going : Bool
  pub cert : Bool

-- identifiers, each with one number, whose magnitude is at most the limit
pub record AreNumbers (limit : ℕ) (at : List (Name × ℤ)) : Type 0 where
  pub named : All (λ given. IsIdentifier given.0) at
  pub distinct : AreDistinct (map (λ given. given.0) at)
  pub small : All (λ given. unsigned_abs given.1 ≤ limit) at

-- what may be chosen: so many bits and units, numbers of parameters within the limit of the bits, and so many sizes
pub record AreInRange (b n : ℕ) (numbers : List (Name × ℤ)) (sizes : Option ℕ) : Type 0 where
  pub bits : (least_bits ≤ b) × (b ≤ most_bits)
  pub budget : (least_budget ≤ n) × (n ≤ most_budget)
  pub at : AreNumbers (2 ^ b - 1) numbers
  pub make : IfSome sizes (λ n. (least_made ≤ n) × (n ≤ most_made))

abbrev pub IsChoice : OptionsView → Type 0
IsChoice options = AreInRange options.bits options.budget options.at options.make
