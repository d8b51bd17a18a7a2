-- What is left of a system without some coordinates.
use Rattle.std.proofs.Common.{◌≡◌, ◌↔◌, refl, arith, ℕ, ◌+◌, ◌≤◌, ℤ, None, List, ◌++◌, All, length, length-append, take, drop}
use Rattle.std.proofs.Common.{map, ap, unsigned_abs}
use Rattle.std.specs.List.{range_with_len}
use Rattle.std.proofs.lemmas.List.{length-drop, length-take-le}
use Rattle.isl_meter.specs.Gauge.{Gauge, IsCharged, limit_of}
use Rattle.isl_space.specs.Element.{Element}
use Rattle.isl_space.specs.Form.{leaf}
use Rattle.isl_space.specs.Name.{Name}
use Rattle.isl_space.specs.SpaceForm.{SpaceForm, coordinates_of, set_of}
use Rattle.isl_space.specs.Valuation.{Valuation}
use Rattle.isl_piece.specs.declared.system.System.{System}
use Rattle.isl_piece.specs.Piece.{PieceView}
use Rattle.isl_piece.specs.System.{free_columns}
use Rattle.isl_elim.specs.Elimination.{IsProjectionAlong}
use Rattle.isl_union.specs.KeptValue.{columns_of}
use Rattle.isl_union.specs.Numbers.{IsPieceUpTo}
use Rattle.isl_union.specs.Piece.{kept_piece, IsPieceOf}
use Rattle.isl_union.specs.Pieces.{IsOfAny}
use Rattle.isl_union.specs.Project.{IsNarrower, put_between}
use Rattle.isl_union.proofs.PiecesLaws.{through}
use Rattle.isl_union.proofs.ProjectLaws.{projected, projected_columns}
use Rattle.isl_union.proofs.ValueLaws.{pieces_within}
use Rattle.isl_images.specs.declared.shadow.Gap.{Gap}
use Rattle.isl_images.specs.Made.{elements_of_all, ArePiecesOf}
use Rattle.isl_images.specs.Shadow.{HasGap, IsShadow}
use Rattle.isl_images.proofs.MadeLaws.{within_before}

put_long : (from : ℕ) (middle xs : List ℤ) → from ≤ length xs → length (put_between from middle xs) ≡ length xs + length middle
put_long from middle xs inside =
    let first = length-append (take from xs) (middle ++ drop from xs) in
    let second = length-append middle (drop from xs) in
    let front = length-take-le from xs inside in
    let behind = length-drop from xs in
    omega (arith, first, second, front, behind, inside)

module _ (params : List Name) (s : System) (space : SpaceForm) (gap : Gap) (fits : HasGap params space s gap) (systems : List System)
    (projection : IsProjectionAlong s (range_with_len (length params + gap.from) gap.count) systems) where
  -- a space of all coordinates
  abbrev wide : SpaceForm
  wide = set_of (leaf None (coordinates_of space + gap.count))

  abbrev whole : PieceView
  whole = record { space = wide; system = s }

  narrower : IsNarrower wide gap.from gap.count space
  narrower = record { inside = (let i = fits.inside in omega (arith, i)); left = refl }

  pub shadow_columns : All (λ t. free_columns t ≡ columns_of params space) systems
  shadow_columns = projected_columns params whole wide space gap.from gap.count narrower refl fits.columns systems projection

  pub shadow_has : (v : Valuation) (e : Element) → IsOfAny params space systems v e ↔ IsShadow params space s gap v e
  shadow_has v e =
      let both = projected params whole wide space gap.from gap.count narrower refl fits.columns systems projection v e in (
        (λ h.
            let k = both.0 h in
            record { numbers = k.0; lies = k.1; middle = k.2; long = k.3; holds = k.4.holds }),
        (λ h. both.1 (
          h.numbers,
          h.lies,
          h.middle,
          h.long,
          record {
            numbers =
                let n = h.numbers in
                let l = ap coordinates_of h.lies in
                let i = fits.inside in
                let m = h.long in
                let p = put_long gap.from h.middle e.coordinates (omega (arith, n, l, i)) in
                omega (arith, n, l, m, p);
            space = refl;
            holds = h.holds;
          },
        )),
      )

  -- the pieces with what is left
  pub shadow_made : (g h : Gauge) → IsCharged g h → (made : List PieceView)
      → ((v : Valuation) (e : Element) → elements_of_all params made v e ↔ IsOfAny params space systems v e)
      → All (IsPieceOf params) made → All (IsPieceUpTo (unsigned_abs (limit_of h))) (map kept_piece made)
      → ArePiecesOf g params ⊥ (IsShadow params space s gap) made
  shadow_made g h charged made elements sound small = record {
    elements = λ v e. through (elements v e) (shadow_has v e);
    sound = sound;
    within = within_before g h made charged (pieces_within h params made (map kept_piece made) sound refl small);
    definitions = λ never. absurd never;
  }
