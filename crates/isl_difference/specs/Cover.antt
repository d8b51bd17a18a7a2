-- inner: answers whether each point of a system is one of another. (isl manual, on comparing sets and relations)
use Rattle.std.specs.Prelude.{All, Bool, IsTrue, List, [], ◌∷◌}
use Rattle.isl_piece.specs.declared.system.System.{System}
use Rattle.isl_piece.specs.System.{HoldsSystem, free_columns}
use Rattle.isl_elim.specs.Sample.{IsNowhere}
use Rattle.isl_difference.specs.Difference.{IsCovered}

-- yes only where each point of the system is one of the other; and there, where the system has a point
pub record IsInside (s other : System) (answer : Bool) : Type 0 where
  pub covered : IsTrue answer → IsCovered s (other ∷ [])
  pub only : ¬ IsNowhere (free_columns s) (HoldsSystem s) → IsCovered s (other ∷ []) → IsTrue answer

-- the same of several systems
pub record AreInside (systems : List System) (other : System) (answer : Bool) : Type 0 where
  pub covered : IsTrue answer → All (λ s. IsCovered s (other ∷ [])) systems
  pub only : All (λ s. ¬ IsNowhere (free_columns s) (HoldsSystem s)) systems → All (λ s. IsCovered s (other ∷ [])) systems → IsTrue answer
