-- Normal systems that have a point.
use Rattle.std.proofs.Common.{◌≡◌, ◌↔◌, refl, ◌∙◌, sym, arith, Bool, true, false, not, ℕ, ℤ, List, [], ◌∷◌, ◌++◌, append-nil}
use Rattle.std.specs.List.{All}
use Rattle.std.proofs.lemmas.List.Elements.{All-nil, All-cons, All-push}
use Rattle.std.specs.Prelude.{IsTrue, MatchOption, Option, Some, None, is_some, option_map}
use Rattle.std.proofs.lemmas.Bool.{false≢true}
use Rattle.isl_meter.specs.Gauge.{Gauge}
use Rattle.isl_piece.specs.declared.row.Row.{Row}
use Rattle.isl_piece.specs.declared.system.System.{System}
use Rattle.isl_piece.specs.Normal.{IsNormal, normal_rows, normal_system}
use Rattle.isl_piece.specs.System.{HoldsSystem, IsSystemWithin, free_columns}
use Rattle.isl_ledger.specs.Difference.{IsDifferenceSystem}
use Rattle.isl_elim.specs.Sample.{IsNowhere}
use Rattle.isl_difference.specs.Split.{IsLive, IsLiveFormOf, IsPushed}
use Rattle.isl_difference.proofs.PartitionLaws.{partition_none, partition_one}

pub not_true : (b : Bool) → b ≡ false → IsTrue b → ⊥
not_true b e t = grind arith

normal_free : (s kept : System) → Some kept ≡ normal_system s → free_columns kept ≡ free_columns s
normal_free s kept e = by (normal_rows s.rows) e
  where
    by : (found : Option (List Row)) → Some kept ≡ option_map (λ rows. record { columns = s.columns; definitions = s.definitions; rows = rows }) found → free_columns kept ≡ free_columns s
    by None e = absurd (cc)
    by (Some rows) e = let f : kept ≡ record { columns = s.columns; definitions = s.definitions; rows = rows } = cc in rw f refl

normal_definitions : (s kept : System) → Some kept ≡ normal_system s → kept.definitions ≡ s.definitions
normal_definitions s kept e = by (normal_rows s.rows) e
  where
    by : (found : Option (List Row))
        → Some kept ≡ option_map (λ rows. record { columns = s.columns; definitions = s.definitions; rows = rows }) found
        → kept.definitions ≡ s.definitions
    by None e = absurd (cc)
    by (Some rows) e = let f : kept ≡ record { columns = s.columns; definitions = s.definitions; rows = rows } = cc in rw f refl

pub normal_nowhere : (s kept : System) → Some kept ≡ normal_system s → ((point : List ℤ) → HoldsSystem kept point ↔ HoldsSystem s point)
    → IsNowhere (free_columns kept) (HoldsSystem kept) → IsNowhere (free_columns s) (HoldsSystem s)
normal_nowhere s kept e same none point l h = none point (l ∙ sym (normal_free s kept e)) ((same point).1 h)

pub normal_live : (g : Gauge) (s kept : System) → Some kept ≡ normal_system s → ((point : List ℤ) → HoldsSystem kept point ↔ HoldsSystem s point)
    → IsSystemWithin g kept → IsNormal kept.rows → ¬ IsNowhere (free_columns kept) (HoldsSystem kept) → IsLiveFormOf g s kept
normal_live g s kept e same w n some = record {
  live = record {
    free = normal_free s kept e;
    within = w;
    normal = n;
    somewhere = λ none. some (λ point l h. none point (l ∙ normal_free s kept e) h);
  };
  points = same;
  definitions = normal_definitions s kept e;
}

-- whether there is a live form
pub asked_form : (g : Gauge) (s : System) (found : Option System) (b : Bool) → is_some found ≡ not b
    → MatchOption found (IsNowhere (free_columns s) (HoldsSystem s)) (IsLiveFormOf g s)
    → IsTrue b ↔ IsNowhere (free_columns s) (HoldsSystem s)
asked_form g s None true e m = ((λ t. m), (λ n. refl))
asked_form g s None false e m = absurd (false≢true e)
asked_form g s (Some kept) true e m = absurd (false≢true (sym e))
asked_form g s (Some kept) false e m =
    ((λ t. absurd (false≢true t)), (λ n. absurd (m.live.somewhere (λ point l h. n point l ((m.points point).0 h)))))

-- the live form put to others that are systems of difference constraints
pub pushed_differences : (c b : ℕ) (old new : List System) (part : System) → new ≡ old ++ part ∷ [] → IsDifferenceSystem c b part
    → All (IsDifferenceSystem c b) old → All (IsDifferenceSystem c b) new
pushed_differences c b old new part e d all = rw e (All-push (IsDifferenceSystem c b) old part all d)

pub pushed_none : (g : Gauge) (s : System) (old new : List System) → new ≡ old → IsNowhere (free_columns s) (HoldsSystem s) → IsPushed g s old new
pushed_none g s old new e none = record {
  added = [];
  is = e ∙ sym (append-nil old);
  few = omega arith;
  definitions = All-nil (λ (t : System). t.definitions ≡ s.definitions);
  partition = partition_none (IsLive g (free_columns s)) (free_columns s) (HoldsSystem s) none;
}

pub pushed_some : (g : Gauge) (s part : System) (old new : List System) → new ≡ old ++ part ∷ [] → IsLiveFormOf g s part → IsPushed g s old new
pushed_some g s part old new e f = record {
  added = part ∷ [];
  is = e;
  few = omega arith;
  definitions =
      let P : System → Type 0 = λ t. t.definitions ≡ s.definitions in
      All-cons P part [] f.definitions (All-nil P);
  partition = partition_one (IsLive g (free_columns s)) (free_columns s) (HoldsSystem s) part f.live (λ point l. f.points point);
}

pub ruleset live_steps = (pushed_none, pushed_some)
