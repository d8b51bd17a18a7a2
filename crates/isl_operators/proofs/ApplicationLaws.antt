-- Maps applied to what has no maps.
use Rattle.std.proofs.Common.{refl, subst}
use Rattle.isl_space.specs.Element.{Element}
use Rattle.isl_space.specs.SpaceForm.{map_of}
use Rattle.isl_space.specs.Valuation.{Valuation}
use Rattle.isl_union.specs.KeptValue.{KeptValue, Has}
use Rattle.isl_relation.specs.Formed.{FormsJoin}
use Rattle.isl_relation.specs.Maps.{JoinHas}
use Rattle.isl_relation.specs.Point.{map_element}
use Rattle.isl_relation.specs.Wide.{IsLiveIn, PairsTooWide}
use Rattle.isl_operators.specs.Formed.{ApplicationForms, PairsWide}
use Rattle.isl_operators.specs.Made.{HasMaps}
use Rattle.isl_operators.proofs.ElementLaws.{lives}
use Rattle.isl_operators.proofs.WideLaws.{pairs_narrow, turned_narrow}

module _ (map argument : KeptValue) where
  -- no pairs are followed
  pub none_follow : (v : Valuation) (e : Element) → ¬ HasMaps argument → ¬ JoinHas (Has argument v) (Has map v) e
  none_follow v e none h =
      none (h.0.form, h.1.form, lives argument v (map_element h.0 h.1) (map_of h.0.form h.1.form) h.3.has refl)

  unjoined : ¬ HasMaps argument → ¬ PairsTooWide FormsJoin argument map
  unjoined none wide = none (wide.5.0, wide.5.1, subst (IsLiveIn argument) wide.5.3 wide.3)

  -- no space is formed
  pub none_formed : ¬ HasMaps argument → ¬ PairsWide ApplicationForms (Has map) (Has argument)
  none_formed none = turned_narrow FormsJoin (Has map) (Has argument) (pairs_narrow FormsJoin argument map (unjoined none))
