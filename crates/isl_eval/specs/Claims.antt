-- public: the lines behind `True` where proofs are asked for: of a test's subset claims, in their order.
use Rattle.std.specs.Prelude.{◌≡◌, ◌↔◌, true, false, All, Bool, ℕ, List, [], ◌++◌}
use Rattle.isl_assumed.specs.Assumed.{AssumesSome}
use Rattle.isl_claim.specs.Claim.{claim_text, lesser_of, Claim, IsProved}
use Rattle.isl_space.specs.Element.{Element}
use Rattle.isl_space.specs.Name.{Name}
use Rattle.isl_space.specs.Valuation.{Valuation}
use Rattle.isl_tree.specs.declared.statement.Binary.{Binary}
use Rattle.isl_tree.specs.declared.statement.Binary.TheVariants as b
use Rattle.isl_union.specs.KeptValue.{Has, HasNoDefinitions, IsKeptValue}
use Rattle.isl_values.specs.State.{StateView, Everywhere}
use Rattle.isl_eval.specs.Tests.{Elements}

-- The lines prove that at each assumed valuation each element of the lesser side is one of the greater one. They show, over these names and
-- without defined columns, a value of the greater side's elements, and pieces that have together the lesser side's at assumed valuations
-- and none at others; behind each of these a proof, which refutes its rows outside the pieces of the value in its space.
pub record ProvesClaim (state : StateView) (names : List Name) (lesser greater : Elements) (lines : List ℕ) : Type 0 where
  pub claim : Claim
  pub params : claim.outside.params ≡ names
  pub outside : Everywhere state (λ valuation. (element : Element) → Has claim.outside valuation element ↔ greater valuation element)
  pub inside : Everywhere state (λ valuation. (element : Element) → Has (lesser_of claim) valuation element ↔ lesser valuation element)
  pub only : (valuation : Valuation) (element : Element) → Has (lesser_of claim) valuation element
      → AssumesSome state.assumed names valuation
  pub kept : IsKeptValue claim.outside
  pub parts_kept : IsKeptValue (lesser_of claim)
  pub plain : HasNoDefinitions claim.outside
  pub parts_plain : HasNoDefinitions (lesser_of claim)
  pub proved : All (IsProved claim.outside) claim.parts
  pub text : lines ≡ claim_text claim

-- a test claims that the left is part of the right: `=`, `<=` and `<`
abbrev pub claims_left : Binary → Bool
claims_left b.Equal = true
claims_left b.Subset = true
claims_left b.ProperSubset = true
claims_left _ = false

-- it claims that the right is part of the left: `=`, `>=` and `>`
abbrev pub claims_right : Binary → Bool
claims_right b.Equal = true
claims_right b.Superset = true
claims_right b.ProperSuperset = true
claims_right _ = false

-- the lines of a claim where it is made, and else none
abbrev pub ProvesIf : Bool → StateView → List Name → Elements → Elements → List ℕ → Type 0
ProvesIf true state names P Q lines = ProvesClaim state names P Q lines
ProvesIf false state names P Q lines = lines ≡ []

-- the lines of the claims of a test of what is on its left and right: first that the left is part of the right
pub record ProvesClaims (state : StateView) (names : List Name) (test : Binary) (P Q : Elements) (lines : List ℕ) : Type 0 where
  pub first : List ℕ
  pub second : List ℕ
  pub left : ProvesIf (claims_left test) state names P Q first
  pub right : ProvesIf (claims_right test) state names Q P second
  pub text : lines ≡ first ++ second

-- what stands behind the answer to a test: these lines where it holds and they are asked for, and else nothing
abbrev pub ProvesTest : Bool → StateView → List Name → Binary → Elements → Elements → List ℕ → Type 0
ProvesTest true state names test P Q lines = ProvesClaims state names test P Q lines
ProvesTest false state names test P Q lines = lines ≡ []
