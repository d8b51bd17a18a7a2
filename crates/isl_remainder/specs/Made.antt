-- public: lists of things one of which has just what is asked for.
use Rattle.std.specs.Prelude.{◌↔◌, List, All, Any}

-- things of K, of which some one has i exactly where P says so; where S holds each is plain
pub record AreMade {I C : Type 0} (Has : I → C → Type 0) (K Plain : C → Type 0) (S : Type 0) (P : I → Type 0) (made : List C) : Type 0 where
  pub has : (i : I) → Any (Has i) made ↔ P i
  pub sound : All K made
  pub plain : S → All Plain made
