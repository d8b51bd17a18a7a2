-- Whether each point of one system is one of others.
use Rattle.std.proofs.Common.{◌≡◌, ◌↔◌, inl, inr, refl, sym, ap, ◌∙◌, subst, arith, Bool, true, false, ℕ, ◌+◌, ◌<◌, ◌≤◌, List, [], ◌∷◌, ◌++◌}
use Rattle.std.proofs.Common.{length, get_or, map, take}
use Rattle.std.specs.List.{All}
use Rattle.std.specs.Prelude.{IsTrue}
use Rattle.std.proofs.lemmas.Bool.{false≢true}
use Rattle.std.proofs.lemmas.List.{map_more, take_all, take_more, take-map}
use Rattle.std.proofs.lemmas.List.Elements.{All-push, All-take}
use Rattle.isl_math.proofs.ListLaws.{Any-parts, Any-left, Any-right, Any-one, Any-first}
use Rattle.isl_meter.specs.Gauge.{Gauge}
use Rattle.isl_meter.proofs.CutLemmas.{charges}
use Rattle.isl_piece.specs.declared.system.System.{System}
use Rattle.isl_piece.specs.Definition.{with_defined}
use Rattle.isl_piece.specs.System.{HoldsSystem, IsSystemWithin, free_columns}
use Rattle.isl_elim.specs.Sample.{IsNowhere}
use Rattle.isl_difference.specs.Bounds.{ImplyRows, AreApartRows}
use Rattle.isl_difference.specs.Cover.{AreInside, IsInside}
use Rattle.isl_difference.specs.Difference.{IsCovered, IsDifference}
use Rattle.isl_difference.specs.Split.{AreAligned, HoldsBut}
use Rattle.isl_difference.proofs.DifferenceLaws.{all_left, back, there}
use Rattle.isl_difference.proofs.PartitionLaws.{any_at}
use Rattle.isl_difference.proofs.RowCases.{system_cases, systems_cases}
use Rattle.isl_difference.proofs.SplitLaws.{charged_within}

-- ---- over the same columns
pub inside_all : (s other : System) → other.definitions ≡ s.definitions → ImplyRows s.rows other.rows → IsInside s other true
inside_all s other e p = record {
  covered = λ t point l h. Any-first (λ (u : System). HoldsSystem u point) other []
      (back s other e point (p.holds (with_defined s.definitions point) h));
  only = λ live c. refl;
}

pub inside_apart : (s other : System) → other.definitions ≡ s.definitions → AreApartRows s.rows other.rows → IsInside s other false
inside_apart s other e p = record {
  covered = λ t. absurd (false≢true t);
  only = λ live c. absurd (live (λ point l h.
      (all_left s other e p).apart point l h (Any-one (λ (u : System). HoldsSystem u point) other (c point l h))));
}

pub inside_rows : (g : Gauge) (s other : System) (b : Bool) → IsSystemWithin g other → other.definitions ≡ s.definitions
    → (IsTrue b ↔ IsNowhere (free_columns s) (HoldsBut s other.rows)) → IsInside s other b
inside_rows g s other b w e same = record {
  covered = λ t point l h. elim (system_cases g other point w) [
    | inl holds ↦ Any-first (λ (u : System). HoldsSystem u point) other [] holds
    | inr fails ↦ absurd (same.0 t point l (h, λ rows. fails (back s other e point rows)))
  ];
  only = λ live c. same.1 (λ point l x.
      x.1 (there s other e point (Any-one (λ (u : System). HoldsSystem u point) other (c point l x.0))));
}

-- ---- over the columns of both
pub inside_moved : (g : Gauge) (s other wide moved : System) (b : Bool) → AreAligned g s other wide moved → IsInside wide moved b
    → IsInside s other b
inside_moved g s other wide moved b a p = record {
  covered = λ t point l h.
      Any-first (λ (u : System). HoldsSystem u point) other []
      ((a.moved_points point l).0 (Any-one (λ (u : System). HoldsSystem u point) moved
      (p.covered t point (l ∙ sym a.free) ((a.points point l).1 h))));
  only = λ live c. p.only (λ nowhere. live (λ point l h. nowhere point (l ∙ sym a.free) ((a.points point l).1 h)))
      (λ point l h.
      let long = l ∙ a.free in
      Any-first (λ (u : System). HoldsSystem u point) moved []
      ((a.moved_points point long).1 (Any-one (λ (u : System). HoldsSystem u point) other
      (c point long ((a.points point long).0 h)))));
}

-- ---- several systems
module _ (systems : List System) (other : System) (i : ℕ) where
  pub all_inside : length systems ≤ i → All (λ s. IsCovered s (other ∷ [])) (take i systems) → AreInside systems other true
  all_inside end all = record {
    covered = λ t. subst (All (λ s. IsCovered s (other ∷ []))) (take_all i systems end) all;
    only = λ live c. refl;
  }

  module _ (s : System) (b : Bool) (low : i < length systems) (is : s ≡ get_or systems i s) (inside : IsInside s other b) where
    pub inside_more : b ≡ true → All (λ t. IsCovered t (other ∷ [])) (take i systems)
        → All (λ t. IsCovered t (other ∷ [])) (take (i + 1) systems)
    inside_more e all =
        let P : System → Type 0 = λ t. IsCovered t (other ∷ []) in
        let more : take (i + 1) systems ≡ take i systems ++ s ∷ [] =
        take_more systems i s low ∙ ap (λ (t : System). take i systems ++ t ∷ []) (sym is) in
        rw more (All-push P (take i systems) s all (inside.covered e))

    pub one_outside : b ≡ false → AreInside systems other false
    one_outside e = record {
      covered = λ t. absurd (false≢true t);
      only = λ live c.
          absurd (false≢true (sym e ∙ inside.only
          (subst (λ (t : System). ¬ IsNowhere (free_columns t) (HoldsSystem t)) (sym is) (live i s low))
          (subst (λ (t : System). IsCovered t (other ∷ [])) (sym is) (c i s low))));
    }

-- ---- all of the others
module _ (g : Gauge) (s : System) (before : List System) (last : System) (all left : List System) (b : Bool) (is : all ≡ before ++ last ∷ [])
    (d : IsDifference g s before left) (inside : AreInside left last b) where
  pub covered_by : All (IsSystemWithin g) before → IsTrue b → IsCovered s all
  covered_by w t =
      let whole : IsCovered s (before ++ last ∷ []) = λ point l h.
      let P : System → Type 0 = λ u. HoldsSystem u point in
      elim (systems_cases g before point w) [
        | inl a ↦ Any-left P before (last ∷ []) a
        | inr n ↦
            let found = (d.points point l).1 (h, n) in
            let part = inside.covered t found.0 found.1 found.2 in
            let long = l ∙ sym (d.each found.0 found.1 found.2).columns in
            Any-right P before (last ∷ []) (part point long (subst P (sym found.3) found.4))
      ] in
      subst (λ (us : List System). IsCovered s us) (sym is) whole

  pub covered_only : ¬ IsNowhere (free_columns s) (HoldsSystem s) → IsCovered s all → IsTrue b
  covered_only live c =
      let whole = subst (λ (us : List System). IsCovered s us) is c in
      inside.only (λ k t low. (d.each k t low).live live) (λ k t low point l h.
      let P : System → Type 0 = λ u. HoldsSystem u point in
      let long = l ∙ (d.each k t low).columns in
      let out = (d.points point long).0 (any_at P left k t low h) in
      elim (Any-parts P before (last ∷ []) (whole point long out.0)) [ inl a ↦ absurd (out.1 a) | inr a ↦ a ])

-- the systems, of which one is the last
pub with_last : {X : Type 0} (f : X → System) (xs : List X) (n : ℕ) (x : X) → n + 1 ≡ length xs → get_or xs n x ≡ x
    → map f xs ≡ map f (take n xs) ++ f x ∷ []
with_last f xs n x long at =
    ap (map f) (sym (take_all (n + 1) xs (omega arith))) ∙ map_more f xs n x (omega arith)
    ∙ ap (λ y. map f (take n xs) ++ f y ∷ []) at

pub all_before : {X : Type 0} (P : System → Type 0) (f : X → System) (xs : List X) (n : ℕ) → All P (map f xs) → All P (map f (take n xs))
all_before P f xs n all = subst (All P) (take-map f n xs) (All-take P n (map f xs) all)

pub ruleset cover_steps = (charges, charged_within, inside_all, inside_apart)
