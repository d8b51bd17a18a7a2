-- Regions over other names.
use Rattle.std.proofs.Common.{◌≡◌, ◌↔◌, refl, sym, ap, ◌∙◌, arith, subst, ℕ, ◌+◌, ℤ, List, ◌++◌, All, Any}
use Rattle.std.proofs.Common.{filter, get_or, length, length-append, map, not, take}
use Rattle.std.specs.List.{zip}
use Rattle.std.proofs.lemmas.List.{length-map, map-append, take_at}
use Rattle.std.proofs.lemmas.List.Elements.{All-map}
use Rattle.isl_math.proofs.ListLaws.{Any-unmapped}
use Rattle.isl_meter.specs.Gauge.{Gauge}
use Rattle.isl_space.specs.Name.{Name}
use Rattle.isl_space.specs.Names.{AreDistinct, ArePlaces, is_among, joined}
use Rattle.isl_space.specs.Valuation.{Valuation, value_at, values_of}
use Rattle.isl_space.proofs.NamesLaws.{joined_distinct}
use Rattle.isl_space.proofs.ValuationLaws.{length-values_of, values_of-joined, values_of-zip}
use Rattle.isl_piece.specs.declared.definition.Definition.{Definition}
use Rattle.isl_piece.specs.declared.system.System.{System}
use Rattle.isl_piece.specs.Placed.{placed_system, placing_of, ArePlacesAmong}
use Rattle.isl_piece.specs.System.{HoldsSystem, IsSystemWithin, free_columns}
use Rattle.isl_piece.proofs.MeetLaws.{placed_free, placed_points, placed_system_within}
use Rattle.isl_difference.specs.Split.{IsLive}
use Rattle.isl_elim.specs.Elimination.{HoldsAtAny}
use Rattle.isl_elim.specs.Sample.{IsNowhere}
use Rattle.isl_blocks.specs.Left.{HoldsBefore}
use Rattle.isl_union.proofs.AlignedLaws.{Any-mapped}
use Rattle.isl_assumed.specs.Left.{AreLeftOf, IsOnto}
use Rattle.isl_assumed.proofs.LeftLaws.{IsFlat}
use Rattle.isl_assumed.proofs.PlacesLaws.{numbers_are, places_among}

module _ (g : Gauge) (params names : List Name) (first : AreDistinct params) (second : AreDistinct names) (places : List ℕ)
    (are : ArePlaces (joined params names) names places) (new : ℕ) (count : length (joined params names) ≡ length params + new) where
  abbrev all : List Name
  all = joined params names

  abbrev columns : ℕ
  columns = length params + new

  abbrev extra : List Name
  extra = filter (λ n. not (is_among params n)) names

  -- the numbers of all names are those of the first ones, and then those of the new ones
  parts : (v : Valuation) → values_of all v ≡ values_of params v ++ values_of extra v
  parts v = map-append (λ n. value_at v n) params extra

  all_long : (v : Valuation) → length (values_of all v) ≡ columns
  all_long v = length-values_of all v ∙ count

  extra_long : (v : Valuation) → length (values_of extra v) ≡ new
  extra_long v =
      let whole = all_long v in
      let split = ap (length {A = ℤ}) (parts v) ∙ length-append (values_of params v) (values_of extra v) in
      let front = length-values_of params v in
      omega (arith, whole, split, front)

  -- ---- one system
  module _ (s : System) (live : IsLive g (length names) s) where
    long : length places ≡ free_columns s
    long = are.count ∙ sym live.free

    pub placed_inside : IsSystemWithin g (placed_system columns places s)
    placed_inside =
        placed_system_within g columns places s (subst (λ n. ArePlacesAmong n places) count (places_among all names places second are))
        live.within long

    pub placed_columns : free_columns (placed_system columns places s) ≡ length params + new
    placed_columns =
        placed_free g columns places s (subst (λ n. ArePlacesAmong n places) count (places_among all names places second are))
        live.within long

    -- at the numbers of a valuation
    at : (v : Valuation) → HoldsSystem (placed_system columns places s) (values_of all v) ↔ HoldsSystem s (values_of names v)
    at v =
        let h =
        placed_points g columns places s (subst (λ n. ArePlacesAmong n places) count (places_among all names places second are)) live.within
        long (values_of all v) (all_long v) in
        let same = numbers_are all names places v are in
        ((λ k. subst (HoldsSystem s) same (h.0 k)), (λ k. h.1 (subst (HoldsSystem s) (sym same) k)))

    abbrev HoldsSome : Valuation → Type 0
    HoldsSome v = (w : Valuation) × (values_of params w ≡ values_of params v) × HoldsSystem s (values_of names w)

    pub placed_some : (v : Valuation) → HoldsBefore (placed_system columns places s) new (values_of params v) ↔ HoldsSome v
    placed_some v = (
      (λ h.
          let numbers = values_of params v ++ h.0 in
          let w : Valuation = zip all numbers in
          let front = length-values_of params v in
          let whole = length-append (values_of params v) (h.0) in
          let behind = h.1 in
          let named : values_of all w ≡ numbers =
          values_of-zip all numbers (joined_distinct params names first second) (omega (arith, count, front, whole, behind)) in
          let own : values_of params w ≡ values_of params v =
          sym (values_of-joined params names w) ∙ ap (take (length params)) named
          ∙ take_at (values_of params v) (h.0) (length params) front in
          (w, own, (at w).0 (subst (HoldsSystem (placed_system columns places s)) (sym named) h.2))),
      (λ k.
          let w = k.0 in
          let split : values_of all w ≡ values_of params v ++ values_of extra w =
          parts w ∙ ap (λ xs. xs ++ values_of extra w) (k.1) in
          (values_of extra w, extra_long w, subst (HoldsSystem (placed_system columns places s)) split ((at w).1 k.2))),
    )

    pub placed_somewhere : ¬ IsNowhere (length params) (HoldsBefore (placed_system columns places s) new)
    placed_somewhere nowhere = live.somewhere (λ point long holds.
        let v : Valuation = zip names point in
        let named : values_of names v ≡ point = values_of-zip names point second (sym long) in
        nowhere (values_of params v) (length-values_of params v) ((placed_some v).1 (v, refl, subst (HoldsSystem s) (sym named) holds)))

  -- ---- all of them
  module _ (systems placed left : List System) (live : All (IsLive g (length names)) systems)
      (is : placed ≡ map (placed_system columns places) systems) where
    pub all_inside : All (IsSystemWithin g) placed
    all_inside = rw is (All-map (IsSystemWithin g) (placed_system columns places) systems (λ k d l.
        placed_inside (get_or systems k d) (live k d l)))

    pub all_columns : All (λ s. free_columns s ≡ length params + new) placed
    all_columns = rw is (All-map (λ s. free_columns s ≡ length params + new) (placed_system columns places) systems (λ k d l.
        placed_columns (get_or systems k d) (live k d l)))

    somewhere : All (λ s. ¬ IsNowhere (length params) (HoldsBefore s new)) placed
    somewhere = rw is (All-map (λ s. ¬ IsNowhere (length params) (HoldsBefore s new)) (placed_system columns places) systems (λ k d l.
        placed_somewhere (get_or systems k d) (live k d l)))

    flat : All IsFlat systems → All IsFlat placed
    flat none = rw is (All-map IsFlat (placed_system columns places) systems (λ k d l.
        ap (λ (ds : List Definition). (placing_of columns places ds).definitions) (none k d l)))

    some_forth : (v : Valuation) → Any (λ s. HoldsBefore s new (values_of params v)) placed
        → (w : Valuation) × (values_of params w ≡ values_of params v) × HoldsAtAny systems (values_of names w)
    some_forth v a =
        let H : System → Type 0 = λ s. HoldsBefore s new (values_of params v) in
        let b = Any-unmapped H (placed_system columns places) systems (rw is at a) in
        let k = (placed_some b.1 (subst (IsLive g (length names)) (b.3) (live b.0 b.1 b.2)) v).0 b.4 in
        (k.0, k.1, (b.0, b.1, b.2, b.3, k.2))

    some_back : (v w : Valuation) → values_of params w ≡ values_of params v → HoldsAtAny systems (values_of names w)
        → Any (λ s. HoldsBefore s new (values_of params v)) placed
    some_back v w same b =
        let H : System → Type 0 = λ s. HoldsBefore s new (values_of params v) in
        let k = (placed_some b.1 (subst (IsLive g (length names)) (b.3) (live b.0 b.1 b.2)) v).1 (w, same, b.4) in
        rw is (Any-mapped H (placed_system columns places) systems (b.0, b.1, b.2, b.3, k))

    pub onto_made : (h : Gauge) → h ≡ g → AreLeftOf h (length params) new placed left → IsOnto g names systems params left
    onto_made h same l =
        let own = subst (λ m. AreLeftOf m (length params) new placed left) same l in
        record {
          points = λ v.
              let p = own.points (values_of params v) (length-values_of params v) in (
                (λ a. some_forth v (p.0 a)),
                (λ b. p.1 (some_back v b.0 b.1 b.2)),
              );
          live = own.live;
          many = let count = length-map systems (placed_system columns places) in let many = own.many somewhere in rw (sym count ∙ sym (ap (length {A = System}) is)) many;
          definitions = λ none. own.definitions (flat none);
        }
