-- Valuations of two regions.
use Rattle.std.proofs.Common.{◌≡◌, ◌↔◌, inl, inr, refl, sym, ap, ap₂, ◌∙◌, arith, subst, ℕ, ◌+◌, ◌<◌, ◌≤◌, ℤ, List, [], ◌∷◌, ◌++◌}
use Rattle.std.proofs.Common.{◌==◌, All, Bool, Contains, Some, get_or, length, slice_get, take}
use Rattle.std.specs.List.{zip}
use Rattle.std.specs.Prelude.{IsTrue}
use Rattle.std.proofs.lemmas.Grind.{common_steps}
use Rattle.std.proofs.lemmas.List.{map-append, take_all, take_more}
use Rattle.std.proofs.lemmas.Option.{get_or_from_slice_get, slice_get_within}
use Rattle.std.proofs.lemmas.List.Elements.{All-append, All-head, All-push}
use Rattle.isl_math.proofs.ListLaws.{All-last, Any-none, Any-one, Any-first, Any-left, Any-parts, Any-right}
use Rattle.isl_meter.specs.Gauge.{Gauge, IsCharged}
use Rattle.isl_space.specs.Name.{Name}
use Rattle.isl_space.specs.Names.{IsParameterList, joined}
use Rattle.isl_space.specs.Valuation.{Valuation, value_at, values_of}
use Rattle.isl_space.proofs.ValuationLaws.{length-values_of, values_of-zip}
use Rattle.isl_piece.specs.declared.system.System.{System}
use Rattle.isl_piece.specs.Meet.{numbers_at}
use Rattle.isl_piece.specs.System.{HoldsSystem, IsSystemWithin, free_columns}
use Rattle.isl_difference.specs.Split.{IsLive}
use Rattle.isl_difference.proofs.SplitLaws.{charged_within, live_kept, system_kept}
use Rattle.isl_elim.specs.Elimination.{HoldsAtAny}
use Rattle.isl_union.specs.Moved.{places_in}
use Rattle.isl_union.proofs.MeetSteps.{charged_bits}
use Rattle.isl_union.proofs.PlacesLaws.{places_are}
use Rattle.isl_union.proofs.ValueLaws.{first_in, second_in}
use Rattle.isl_assumed.specs.declared.assumed.Assumed.{Assumed}
use Rattle.isl_assumed.specs.declared.assumed.Assumed.TheVariants.{Where}
use Rattle.isl_assumed.specs.declared.region.Region.{Region}
use Rattle.isl_assumed.specs.Assumed.{AssumesSome}
use Rattle.isl_assumed.specs.Left.{AreLeftOf, AreMet, ArePairs, IsCommon, IsOnto}
use Rattle.isl_assumed.specs.Region.{IsRegion}
use Rattle.isl_assumed.proofs.LeftLaws.{any_behind, taken_more, IsFlat}
use Rattle.isl_assumed.proofs.PlacesLaws.{numbers_are}

-- ---- names of which all are among others
-- valuations that have the same numbers of these have the same of those
pub values_same : (all names : List Name) (v w : Valuation) → All (Contains all) names → values_of all w ≡ values_of all v
    → values_of names w ≡ values_of names v
values_same all names v w there same =
    let are = places_are all names there in
    sym (numbers_are all names (places_in all names) w are) ∙ ap (numbers_at (places_in all names)) same
    ∙ numbers_are all names (places_in all names) v are

-- so a region over more names has the same valuations
pub onto_same : (g : Gauge) (all names : List Name) (systems left : List System) → All (Contains all) names
    → IsOnto g names systems all left → (v : Valuation) → HoldsAtAny left (values_of all v) ↔ HoldsAtAny systems (values_of names v)
onto_same g all names systems left there onto v =
    let p = onto.points v in (
      (λ a. let k = p.0 a in subst (HoldsAtAny systems) (values_same all names v (k.0) there (k.1)) (k.2)),
      (λ b. p.1 (v, refl, b)),
    )

-- ---- pairs of all systems
pub met_more : (g h : Gauge) (names : ℕ) (systems others : List System) (i : ℕ) (s : System) (met more pushed : List System)
    → i < length systems → s ≡ get_or systems i s → g.bits ≡ h.bits → pushed ≡ met ++ more → AreMet g names (take i systems) others met
    → ArePairs h names 0 s others more → AreMet g names (take (i + 1) systems) others pushed
met_more g h names systems others i s met more pushed low at bits is so_far one =
    let none : names + 0 ≡ names = omega arith in
    rw (is, taken_more systems i s low at) (record {
      points = λ point long.
          let H : System → Type 0 = λ t. HoldsSystem t point in
          let a = so_far.points point long in
          let b = one.points point (long ∙ sym none) in
          let whole : take names point ≡ point = take_all names point (omega (arith, long)) in (
            (λ k. elim (Any-parts H met more k) [
              | inl old ↦ let m = a.0 old in (Any-left H (take i systems) (s ∷ []) (m.0), m.1)
              | inr new ↦
                  let m = b.0 new in
                  (Any-right H (take i systems) (s ∷ []) (Any-first H s [] (m.0)), subst (HoldsAtAny others) whole (m.1))
            ]),
            (λ k. elim (Any-parts H (take i systems) (s ∷ []) (k.0)) [
              | inl old ↦ Any-left H met more (a.1 (old, k.1))
              | inr new ↦ Any-right H met more (b.1 (Any-one H s new, subst (HoldsAtAny others) (sym whole) (k.1)))
            ]),
          );
      within = All-append (IsSystemWithin g) met more so_far.within (λ k d l.
          system_kept g h (get_or more k d) (sym bits) (one.within k d l));
      free = All-append (λ t. free_columns t ≡ names) met more so_far.free (λ k d l. one.free k d l ∙ none);
      definitions = λ flat all.
          let parts = All-last IsFlat (take i systems) s flat in
          All-append IsFlat met more (so_far.definitions parts.0 all) (one.definitions parts.1 all);
    })

-- ---- two regions over the joined names
pub common_made : (g h k j : Gauge) (all names others : List Name) (first second own other met common : List System)
    → IsParameterList names → IsParameterList others → all ≡ joined names others
    → g.bits ≡ h.bits → g.bits ≡ k.bits → g.bits ≡ j.bits
    → IsOnto g names first all own → IsOnto h others second all other → AreMet k (length all) own other met
    → AreLeftOf j (length all) 0 met common → IsCommon g all names first others second common
common_made g h k j all names others first second own other met common one two is hb kb jb a b m l = record {
  points = λ v.
      let long = length-values_of all v in
      let p = l.points (values_of all v) long in
      let q = any_behind met (values_of all v) in
      let r = m.points (values_of all v) long in
      let x = onto_same g all names first own (subst (λ n. All (Contains n) names) (sym is) (first_in names others)) a v in
      let y = onto_same h all others second other (subst (λ n. All (Contains n) others) (sym is) (second_in names others one two)) b v in (
        (λ c. let z = r.0 (q.0 (p.0 c)) in (x.0 z.0, y.0 z.1)),
        (λ z. p.1 (q.1 (r.1 (x.1 z.0, y.1 z.1)))),
      );
  live = λ i d low. live_kept g j (length all) (get_or common i d) (sym jb) (l.live i d low);
  definitions = λ flat other_flat. l.definitions (m.definitions (a.definitions flat) (b.definitions other_flat));
}

-- ---- the numbers of names
pub numbers_next : (params : List Name) (at : Valuation) (place : ℕ) (name : Name) (items new : List ℤ) (number : ℤ)
    → slice_get params place ≡ Some name → items ≡ values_of (take place params) at → number ≡ value_at at name
    → new ≡ items ++ number ∷ [] → new ≡ values_of (take (place + 1) params) at
numbers_next params at place name items new number there are is grown =
    let low = slice_get_within params place name there in
    let taken : take (place + 1) params ≡ take place params ++ name ∷ [] =
    take_more params place name low ∙ ap (λ (n : Name). take place params ++ n ∷ []) (get_or_from_slice_get params place name name there) in
    grown ∙ ap₂ (λ (xs : List ℤ) (z : ℤ). xs ++ z ∷ []) are is
    ∙ sym (ap (λ (ps : List Name). values_of ps at) taken ∙ map-append (λ (n : Name). value_at at n) (take place params) (name ∷ []))

-- ---- systems of which each has a point
-- the names have some numbers there, so some valuation is one of the region's
pub region_empty : (g : Gauge) (names : List Name) (systems : List System) → IsRegion g names systems → (b : Bool)
    → (IsTrue b ↔ (systems ≡ [])) → IsTrue b ↔ ((v : Valuation) → ¬ HoldsAtAny systems (values_of names v))
region_empty g names systems is b empty = (
  (λ yes v any. Any-none (λ s. HoldsSystem s (values_of names v)) (subst (λ l. HoldsAtAny l (values_of names v)) (empty.0 yes) any)),
  (λ none. empty.1 (by systems refl none)),
)
  where
    by : (l : List System) → systems ≡ l → ((v : Valuation) → ¬ HoldsAtAny systems (values_of names v)) → l ≡ []
    by [] e none = refl
    by (s ∷ rest) e none =
        let live : IsLive g (length names) s =
        All-head (IsLive g (length names)) s rest (subst (All (IsLive g (length names))) e is.live) in
        absurd (live.somewhere (λ point long holds.
        let v : Valuation = zip names point in
        let named : values_of names v ≡ point = values_of-zip names point is.named.distinct (sym long) in
        none v (subst (λ l. HoldsAtAny l (values_of names v)) (sym e)
        (Any-first (λ t. HoldsSystem t (values_of names v)) s rest (subst (HoldsSystem s) (sym named) holds)))))

-- ---- one system after another at a point
pub none_more : (systems : List System) (i : ℕ) (s : System) (point : List ℤ) → i < length systems → s ≡ get_or systems i s
    → All (λ t. ¬ HoldsSystem t point) (take i systems) → ¬ HoldsSystem s point → All (λ t. ¬ HoldsSystem t point) (take (i + 1) systems)
none_more systems i s point low at so_far not =
    rw (taken_more systems i s low at) (All-push (λ t. ¬ HoldsSystem t point) (take i systems) s so_far not)

pub none_all : (systems : List System) (i : ℕ) (point : List ℤ) → length systems ≤ i → All (λ t. ¬ HoldsSystem t point) (take i systems)
    → ¬ HoldsAtAny systems point
none_all systems i point end none any =
    let a = subst (λ l. HoldsAtAny l point) (sym (take_all i systems end)) any in
    subst (λ t. ¬ HoldsSystem t point) (a.3) (none (a.0) (a.1) (a.2)) (a.4)

pub empty_is : (systems : List System) (b : Bool) → b ≡ (length systems == 0) → IsTrue b ↔ (systems ≡ [])
empty_is [] b e = ((λ yes. refl), (λ none. grind (arith, common_steps)))
empty_is (s ∷ systems) b e = (
  (λ yes. absurd (grind (arith, common_steps))),
  (λ none. let n = ap (λ (l : List System). length l) none in absurd (omega (arith, n))),
)

-- ---- at another time
pub region_later : (g h : Gauge) (names : List Name) (systems : List System) → IsCharged g h → IsRegion g names systems
    → IsRegion h names systems
region_later g h names systems charged is = record {
  named = is.named;
  live = λ k d l. live_kept h g (length names) (get_or systems k d) (charged_bits g h charged) (is.live k d l);
}

pub lives_later : (g h : Gauge) (n m : ℕ) (systems same : List System) → same ≡ systems → m ≡ n → IsCharged g h → All (IsLive g n) systems
    → All (IsLive h m) same
lives_later g h n m systems same is count charged live =
    rw (is, count) (λ k d l. live_kept h g n (get_or systems k d) (charged_bits g h charged) (live k d l))

pub withins_later : (g h : Gauge) (systems same : List System) → same ≡ systems → IsCharged g h → All (IsSystemWithin g) systems
    → All (IsSystemWithin h) same
withins_later g h systems same is charged within = rw is (λ k d l. charged_within g h (get_or systems k d) charged (within k d l))

-- ---- what is assumed
pub onto_assumes : (g : Gauge) (self : Assumed) (region : Region) (params copied : List Name) (left : List System) → self ≡ Where region
    → copied ≡ params → IsOnto g region.params region.systems.items params left → (v : Valuation)
    → HoldsAtAny left (values_of copied v) ↔ AssumesSome self params v
onto_assumes g self region params copied left is same onto v = rw (is, same) (onto.points v)

-- names that are joined to none
pub nothing_joined : (names : List Name) → joined [] names ≡ names
nothing_joined [] = refl
nothing_joined (n ∷ names) = ap (λ l. n ∷ l) (nothing_joined names)
