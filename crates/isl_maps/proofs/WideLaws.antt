-- Which operations form spaces that are too wide.
use Rattle.std.proofs.Common.{◌≡◌, ◌∙◌, refl, sym, ap, subst, Some, List, All, Any}
use Rattle.isl_meter.specs.Gauge.{Gauge}
use Rattle.isl_space.specs.Form.{pair}
use Rattle.isl_space.specs.SpaceForm.{SpaceForm, set_of, map_of, IsTooWideSpace}
use Rattle.isl_relation.specs.Formed.{FormsDomainMap, FormsIdentity, FormsRangeMap}
use Rattle.isl_relation.specs.Wide.{FormsTooWide, IsFormedFault}
use Rattle.isl_union.specs.KeptValue.{KeptPiece, KeptValue}
use Rattle.isl_union.specs.declared.fault.OpFault.{OpFault}
use Rattle.isl_union.specs.declared.fault.OpFault.TheVariants as op_fault
use Rattle.isl_maps.specs.Change.{formed_space, FormsWide, IsChangeFault}
use Rattle.isl_maps.specs.declared.change.Change.{Change}
use Rattle.isl_maps.specs.declared.change.Change.TheVariants.{Identity, DomainMap, RangeMap}

all_none : {X : Type 0} (P : X → Type 0) (xs : List X) → All (λ x. ¬ P x) xs → ¬ Any P xs
all_none P xs all a = subst (λ x. ¬ P x) a.3 (all a.0 a.1 a.2) a.4

module _ (a : KeptValue) where
  -- an operation forms a space that is too wide exactly where it forms one of a piece's
  abbrev IsWideAt : Change → KeptPiece → Type 0
  IsWideAt change piece = FormsWide change piece.space

  pub identity_wide : Any (IsWideAt Identity) a.pieces → FormsTooWide FormsIdentity a
  identity_wide h = by h.1.space refl h.4
    where
      by : (s : SpaceForm) → h.1.space ≡ s → FormsWide Identity s → FormsTooWide FormsIdentity a
      by (set_of x) e w = (set_of x, map_of x x, (h.0, h.1, h.2, h.3, e), (x, refl, refl), w)
      by (map_of x y) e w = absurd w

  pub domain_map_wide : Any (IsWideAt DomainMap) a.pieces → FormsTooWide FormsDomainMap a
  domain_map_wide h = by h.1.space refl h.4
    where
      by : (s : SpaceForm) → h.1.space ≡ s → FormsWide DomainMap s → FormsTooWide FormsDomainMap a
      by (set_of x) e w = absurd w
      by (map_of x y) e w = (map_of x y, map_of (pair x y) x, (h.0, h.1, h.2, h.3, e), (x, y, refl, refl), w)

  pub range_map_wide : Any (IsWideAt RangeMap) a.pieces → FormsTooWide FormsRangeMap a
  range_map_wide h = by h.1.space refl h.4
    where
      by : (s : SpaceForm) → h.1.space ≡ s → FormsWide RangeMap s → FormsTooWide FormsRangeMap a
      by (set_of x) e w = absurd w
      by (map_of x y) e w = (map_of x y, map_of (pair x y) y, (h.0, h.1, h.2, h.3, e), (x, y, refl, refl), w)

  formed_wide : (change : Change) (s t formed : SpaceForm) → t ≡ s → formed_space change s ≡ Some formed → IsTooWideSpace formed
      → FormsWide change t
  formed_wide change s t formed e is w = rw (e, is) w

  -- none is formed where none of the pieces' forms one
  module _ (change : Change) (Forms : SpaceForm → SpaceForm → Type 0)
      (forms : (s formed : SpaceForm) → Forms s formed → formed_space change s ≡ Some formed)
      (all : All (λ piece. ¬ FormsWide change piece.space) a.pieces) where
    not_wide : ¬ FormsTooWide Forms a
    not_wide h =
        let live = h.2 in
        all_none (IsWideAt change) a.pieces all
        (live.0, live.1, live.2, live.3, formed_wide change h.0 live.1.space h.1 live.4 (forms h.0 h.1 h.3) h.4)

  pub identity_narrow : All (λ piece. ¬ FormsWide Identity piece.space) a.pieces → ¬ FormsTooWide FormsIdentity a
  identity_narrow all = not_wide Identity FormsIdentity (λ s formed f. ap (formed_space Identity) f.1 ∙ ap Some (sym f.2)) all

  pub domain_map_narrow : All (λ piece. ¬ FormsWide DomainMap piece.space) a.pieces → ¬ FormsTooWide FormsDomainMap a
  domain_map_narrow all = not_wide DomainMap FormsDomainMap (λ s formed f. ap (formed_space DomainMap) f.2 ∙ ap Some (sym f.3)) all

  pub range_map_narrow : All (λ piece. ¬ FormsWide RangeMap piece.space) a.pieces → ¬ FormsTooWide FormsRangeMap a
  range_map_narrow all = not_wide RangeMap FormsRangeMap (λ s formed f. ap (formed_space RangeMap) f.2 ∙ ap Some (sym f.3)) all

-- so is the fault
pub formed_fault : (Wide Formed : Type 0) → (Wide → Formed) → (g h : Gauge) (fault : OpFault) → h ≡ g → IsChangeFault Wide fault
    → IsFormedFault Formed g h fault
formed_fault Wide Formed f g h op_fault.TooWide same w = (f w, same)
formed_fault Wide Formed f g h (op_fault.Cut cut) same e = (e, same)
