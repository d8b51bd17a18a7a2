-- public: what is left of a system whose column two bounds pin to a quotient. (isl manual, on integer divisions)
use Rattle.std.specs.Prelude.{◌≡◌, ℕ, List, All, Contains, option_to_list}
use Rattle.isl_piece.specs.declared.row.Row.{Row}
use Rattle.isl_piece.specs.declared.system.System.{System}
use Rattle.isl_piece.specs.Normal.{normal_system}
use Rattle.isl_elim.specs.Solved.{IsUnitEquality}
use Rattle.isl_quotient.specs.Quotient.{with_quotient, HavePinning, IsQuotient, IsUndefining}

-- no definition names the column, no equation has it with 1 or -1, and two bounds pin it: k x <= e <= k x + s, where 0 <= s < k and 1 < k
pub record IsPinned (col : ℕ) (s : System) : Type 0 where
  pub undefining : IsUndefining col s.definitions
  pub ungiven : All (λ r. ¬ IsUnitEquality col r) s.rows
  pub bounds : HavePinning s.rows col

-- the normal form of the system in which the quotient that two of its bounds tell stands for the column, as a last one, which is defined;
-- no system where a row holds nowhere
pub record IsKept (col : ℕ) (s : System) (left : List System) : Type 0 where
  pub upper : Row
  pub lower : Row
  pub has_upper : Contains s.rows upper
  pub has_lower : Contains s.rows lower
  pub quotient : IsQuotient col upper lower
  pub normal : left ≡ option_to_list (normal_system (with_quotient col upper lower s))
