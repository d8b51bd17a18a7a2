-- What is left, and what is covered.
use Rattle.std.proofs.Common.{◌≡◌, ◌↔◌, refl, sym, ap, arith, Bool, true, false, not, List, [], ◌∷◌, length}
use Rattle.std.proofs.Common.{Some}
use Rattle.std.specs.Prelude.{IsNone, IsTrue}
use Rattle.std.specs.List.{All}
use Rattle.std.proofs.lemmas.Bool.{true≢false}
use Rattle.std.proofs.lemmas.List.Elements.{All-nil, All-cons, All-head, All-tail, All-weaker}
use Rattle.isl_difference.specs.Difference.{IsCovered}
use Rattle.isl_difference.proofs.SplitLaws.{charged_within}
use Rattle.isl_elim.specs.Sample.{IsNowhere}
use Rattle.isl_meter.specs.Gauge.{Gauge, IsCharged}
use Rattle.isl_piece.specs.declared.system.System.{System}
use Rattle.isl_piece.specs.System.{free_columns, HoldsSystem, IsSystemWithin}
use Rattle.isl_cert.proofs.LivingLaws.{of_living}
use Rattle.isl_cert.specs.Living.{AreLiving}

-- ---- another moment of the meter
pub later : (g h : Gauge) (systems : List System) → IsCharged g h → All (IsSystemWithin g) systems → All (IsSystemWithin h) systems
later g h systems charged all =
    All-weaker (IsSystemWithin g) (IsSystemWithin h) (λ s w. charged_within g h s charged w) systems all

pub later_living : (g h : Gauge) (systems own : List System) → AreLiving systems own → IsCharged g h → All (IsSystemWithin g) systems
    → All (IsSystemWithin h) own
later_living g h systems own are charged all = of_living (IsSystemWithin h) systems own are (later g h systems charged all)

-- ---- free columns
same_free : (system out : System) → out.columns ≡ system.columns → system.definitions ≡ [] → out.definitions ≡ []
    → free_columns out ≡ free_columns system
same_free system out same plain own =
    let a = ap length plain in
    let b = ap length own in
    omega (arith, same, a, b)

pub all_free : (system : System) (outs : List System) → system.definitions ≡ [] → All (λ out. out.columns ≡ system.columns) outs
    → All (λ out. out.definitions ≡ []) outs → All (λ out. free_columns out ≡ free_columns system) outs
all_free system [] plain columns none = All-nil (λ out. free_columns out ≡ free_columns system)
all_free system (out ∷ outs) plain columns none =
    All-cons (λ one. free_columns one ≡ free_columns system) out outs
    (same_free system out (All-head (λ one. one.columns ≡ system.columns) out outs columns) plain
    (All-head (λ one. one.definitions ≡ []) out outs none))
    (all_free system outs plain (All-tail (λ one. one.columns ≡ system.columns) out outs columns)
    (All-tail (λ one. one.definitions ≡ []) out outs none))

pub free_living : (system : System) (outs own : List System) → AreLiving outs own → system.definitions ≡ []
    → All (λ out. out.columns ≡ system.columns) outs → All (λ out. out.definitions ≡ []) outs
    → All (λ out. free_columns out ≡ free_columns system) own
free_living system outs own are plain columns none =
    of_living (λ out. free_columns out ≡ free_columns system) outs own are (all_free system outs plain columns none)

-- ---- answers
pub empty_covered : (system : System) (outs : List System) → IsNowhere (free_columns system) (HoldsSystem system) → IsCovered system outs
empty_covered system outs nowhere point wide holds = absurd (nowhere point wide holds)

pub empty_left : (system : System) (outs : List System) → IsCovered system outs → IsTrue false ↔ (¬ IsCovered system outs)
empty_left system outs covered = ((λ t. absurd (true≢false (sym t))), (λ n. absurd (n covered)))

pub covered_left : (C : Type 0) (covered : Bool) → (IsTrue covered → C) → (C → IsTrue covered) → IsTrue (not covered) ↔ (¬ C)
covered_left C true f g = ((λ t. absurd (true≢false (sym t))), (λ n. absurd (n (f refl))))
covered_left C false f g = ((λ t c. true≢false (sym (g c))), (λ n. refl))

pub covered_told : (C : Type 0) (covered : Bool) → (IsTrue covered → C) → not covered ≡ false → C
covered_told C true f e = f refl
covered_told C false f e = absurd (true≢false e)

pub some_told : {A : Type 0} (C : Type 0) (x : A) → C → IsNone (Some x) ↔ (¬ C)
some_told C x covered = ((λ i. absurd (true≢false i)), (λ n. absurd (n covered)))

pub left_exact : (system : System) (outs own : List System) (covered : Bool) → IsCovered system own ↔ IsCovered system outs
    → (IsTrue covered → IsCovered system own) → (IsCovered system own → IsTrue covered) → IsTrue (not covered) ↔ (¬ IsCovered system outs)
left_exact system outs own covered same f g =
    covered_left (IsCovered system outs) covered (λ t. same.0 (f t)) (λ all. g (same.1 all))

pub left_covered : (system : System) (outs own : List System) (covered : Bool) → IsCovered system own ↔ IsCovered system outs
    → (IsTrue covered → IsCovered system own) → not covered ≡ false → IsCovered system outs
left_covered system outs own covered same f e = covered_told (IsCovered system outs) covered (λ t. same.0 (f t)) e
