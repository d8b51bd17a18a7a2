-- public: listings of what an expression selects at one valuation. (the iscc chapter of the barvinok manual)
use Rattle.std.specs.Prelude.{◌↔◌, ℕ, ◌≤◌, List, All, AllPairs, Contains, unsigned_abs}
use Rattle.isl_space.specs.Element.{Element}
use Rattle.isl_scan.specs.Listing.{IsElementBefore}

-- exactly these elements, each once, ordered by the text of their spaces and then by their numbers from the left
pub record IsListed (P : Element → Type 0) (listing : List Element) : Type 0 where
  pub exact : (element : Element) → Contains listing element ↔ P element
  pub ordered : AllPairs IsElementBefore listing

-- some number bounds the magnitudes of all numbers of these elements
abbrev pub AreFinite : (Element → Type 0) → Type 0
AreFinite P = (bound : ℕ) × ((element : Element) → P element → All (λ z. unsigned_abs z ≤ bound) element.coordinates)
