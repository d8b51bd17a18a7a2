-- Systems of pieces at the elements of formed spaces.
use Rattle.std.proofs.Common.{◌≡◌, ◌↔◌, refl, sym, ap, ◌∙◌, arith, subst, ℕ, ◌+◌, ◌≤◌, ℤ, List, [], length, IfOk, Result, Ok, Err}
use Rattle.isl_meter.specs.Gauge.{Gauge}
use Rattle.isl_space.specs.Element.{Element, IsElement}
use Rattle.isl_space.specs.Name.{Name}
use Rattle.isl_space.specs.SpaceForm.{SpaceForm, coordinates_of}
use Rattle.isl_space.specs.Valuation.{Valuation, values_of}
use Rattle.isl_space.proofs.ValuationLaws.{length-values_of}
use Rattle.isl_piece.specs.declared.definition.Definition.{Definition}
use Rattle.isl_piece.specs.declared.system.System.{System}
use Rattle.isl_piece.specs.Meet.{numbers_at}
use Rattle.isl_piece.specs.Piece.{PieceView}
use Rattle.isl_piece.specs.Placed.{ArePlacesAmong, both_systems, placed_system, placing_of}
use Rattle.isl_piece.specs.System.{HoldsSystem, IsSystemWithin, free_columns}
use Rattle.isl_piece.proofs.MeetLaws.{both_same, placed_free, placed_points, placed_system_within}
use Rattle.isl_union.specs.KeptValue.{HasElement, columns_of, point_of}
use Rattle.isl_union.specs.Piece.{kept_piece, IsPieceOf}
use Rattle.isl_union.proofs.MinusLaws.{element_long}
use Rattle.isl_union.proofs.SystemLaws.{view_free, view_is}
use Rattle.isl_products.specs.declared.layout.Pick.{Pick}
use Rattle.isl_products.specs.Layout.{LayoutView, part, picked_places, IsPickOf}
use Rattle.isl_products.specs.Made.{IsJoinedAt, IsPlacedAt}
use Rattle.isl_products.proofs.PickLaws.{length-picked, length-picked_places, numbers_picked, places_picked}

-- ---- one piece
pub made_places : (params : List Name) (space to : SpaceForm) (pick : Pick) → IsPickOf space pick to → (n : ℕ) (ps : List ℕ)
    → n ≡ columns_of params space → ps ≡ picked_places (length params) pick → ArePlacesAmong n ps
made_places params space to pick of n ps first second =
    rw (first, second) (places_picked (length params) (coordinates_of space) pick of.inside)

module _ (g : Gauge) (params : List Name) (space : SpaceForm) (pick : Pick) (p : PieceView) (sound : IsPieceOf params p)
    (within : IsSystemWithin g p.system) (of : IsPickOf space pick p.space) where
  abbrev columns : ℕ
  columns = columns_of params space

  abbrev places : List ℕ
  places = picked_places (length params) pick

  are : ArePlacesAmong columns places
  are = places_picked (length params) (coordinates_of space) pick of.inside

  long : length places ≡ free_columns p.system
  long =
      let all = length-picked_places (length params) pick in
      let free = view_free params p sound in
      let count = of.count in
      omega (arith, all, free, count)

  abbrev there : System
  there = placed_system columns places p.system

  pub picked_number : (v : Valuation) (e : Element) → IsElement e → space ≡ e.space → IsElement (part p.space pick e)
  picked_number v e numbers same =
      let wide : pick.before + pick.first + pick.between + pick.second ≤ length e.coordinates =
      let i = of.inside in let s = ap coordinates_of same in omega (arith, i, s, numbers) in
      length-picked e.coordinates pick wide ∙ of.count

  picked_point : (v : Valuation) (e : Element) → IsElement e → space ≡ e.space
      → numbers_at places (point_of params v e) ≡ point_of params v (part p.space pick e)
  picked_point v e numbers same =
      let wide : pick.before + pick.first + pick.between + pick.second ≤ length e.coordinates =
      let i = of.inside in let s = ap coordinates_of same in omega (arith, i, s, numbers) in
      numbers_picked (values_of params v) e.coordinates (length params) pick (sym (length-values_of params v)) wide

  holds_there : (v : Valuation) (e : Element) → IsElement e → space ≡ e.space
      → HoldsSystem there (point_of params v e) ↔ HasElement params v (part p.space pick e) (kept_piece p)
  holds_there v e numbers same =
      let wide = element_long params v e space numbers same in
      let at = placed_points g columns places p.system are within long (point_of params v e) wide in
      let own = view_is params p sound in (
        (λ h. record {
          numbers = picked_number v e numbers same;
          space = refl;
          holds = subst (λ (s : System). HoldsSystem s (point_of params v (part p.space pick e))) own
              (subst (HoldsSystem p.system) (picked_point v e numbers same) (at.0 h));
        }),
        (λ h. at.1 (subst (HoldsSystem p.system) (sym (picked_point v e numbers same))
            (subst (λ (s : System). HoldsSystem s (point_of params v (part p.space pick e))) (sym own) h.holds))),
      )

  plain_there : p.system.definitions ≡ [] → there.definitions ≡ []
  plain_there none = ap (λ (ds : List Definition). (placing_of columns places ds).definitions) none

  pub placed_at : (s : System) (n : ℕ) (ps : List ℕ) (own : System) → n ≡ columns → ps ≡ places → own ≡ p.system
      → s ≡ placed_system n ps own → IsPlacedAt g params space pick p s
  placed_at s n ps own first second third is = rw (is, first, second, third) (record {
    over = record {
      within = placed_system_within g columns places p.system are within long;
      free = placed_free g columns places p.system are within long;
    };
    plain = plain_there;
    holds = holds_there;
  })

-- ---- two of them
module _ (g : Gauge) (params : List Name) (layout : LayoutView) (a b : PieceView) (own other : System)
    (first : IsPlacedAt g params layout.space layout.own a own) (second : IsPlacedAt g params layout.space layout.other b other) where
  pub joined_free : free_columns own ≡ free_columns other
  joined_free = first.over.free ∙ sym second.over.free

  abbrev HoldsBoth : System → List ℤ → Type 0
  HoldsBoth s point = HoldsSystem s point ↔ (HoldsSystem own point × HoldsSystem other point)

  joined_at : (s : System) → s ≡ both_systems own other → ((point : List ℤ) → length point ≡ free_columns own → HoldsBoth s point)
      → IsSystemWithin g s → free_columns s ≡ free_columns own → IsJoinedAt g params layout a b s
  joined_at s is points within free = record {
    over = record { within = within; free = free ∙ first.over.free };
    plain = λ p q.
        let x = first.plain p in
        let y = second.plain q in
        ap (λ (t : System). t.definitions) (is ∙ both_same own other (x ∙ sym y)) ∙ x;
    holds = λ v e numbers same.
        let wide = element_long params v e layout.space numbers same ∙ sym first.over.free in
        let at = points (point_of params v e) wide in
        let x = first.holds v e numbers same in
        let y = second.holds v e numbers same in (
          (λ h. let k = at.0 h in (x.0 k.0, y.0 k.1)),
          (λ k. at.1 (x.1 k.0, y.1 k.1)),
        );
  }

  pub joined_all : {E : Type 0} (r : Result System E) → IfOk r (λ s. s ≡ both_systems own other)
      → ((point : List ℤ) → length point ≡ free_columns own → IfOk r (λ s. HoldsBoth s point)) → IfOk r (IsSystemWithin g)
      → IfOk r (λ s. free_columns s ≡ free_columns own) → IfOk r (IsJoinedAt g params layout a b)
  joined_all (Ok s) is points within free = joined_at s is points within free
  joined_all (Err e) is points within free = tt
