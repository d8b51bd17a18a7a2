-- What is refuted, of systems.
use Rattle.std.proofs.Common.{◌≡◌, ◌∙◌, sym, ap, arith, subst, Bool, true, ℕ, ◌+◌, ◌-◌, ◌≤◌, ◌<◌, ℤ, List, [], ◌∷◌, length, map}
use Rattle.std.specs.Prelude.{IfErr, IfOk, IsTrue, MatchResult, Result, Ok, Err}
use Rattle.std.specs.List.{All}
use Rattle.std.proofs.lemmas.List.Elements.{All-nil, All-cons, All-head, All-tail, All-weaker}
use Rattle.isl_meter.specs.Gauge.{Gauge, IsMetered}
use Rattle.isl_meter.specs.declared.Cut.{Cut}
use Rattle.isl_meter.specs.declared.Cut.TheVariants.{Overflow, Budget}
use Rattle.isl_piece.specs.declared.definition.Definition.{Definition}
use Rattle.isl_piece.specs.declared.row.Row.{Row}
use Rattle.isl_piece.specs.declared.system.System.{System}
use Rattle.isl_piece.specs.Definition.{with_defined}
use Rattle.isl_piece.specs.Row.{HasModulus, HoldsRow, IsRowWithin, IsWellFormed}
use Rattle.isl_piece.specs.System.{HoldRows, HoldsSystem, IsSystemWithin}
use Rattle.isl_refute.specs.declared.tree.Cert.{Cert}
use Rattle.isl_refute.specs.Checked.{IsChecked, IsFact, IsOut, IsOutRow}
use Rattle.isl_refute.specs.Passes.{nodes, Passes}
use Rattle.isl_refute.specs.Refutes.{refutes, rows_of, HasNoneOutside}
use Rattle.isl_refute.specs.Visited.{visited}
use Rattle.isl_refute.proofs.Sound.{Fails, sound}
use Rattle.isl_refute.proofs.StepLaws.{Stands}
use Rattle.isl_refute.proofs.VisitedLaws.{visited_whole}

-- the columns of a system without definitions are free
plain_point : (definitions : List Definition) (point : List ℤ) → definitions ≡ [] → with_defined definitions point ≡ point
plain_point definitions point none = ap (λ (ds : List Definition). with_defined ds point) none

both : {X : Type 0} (P Q : X → Type 0) (xs : List X) → All P xs → All Q xs → All (λ x. P x × Q x) xs
both P Q [] p q = All-nil (λ x. P x × Q x)
both P Q (x ∷ xs) p q =
    All-cons (λ y. P y × Q y) x xs (All-head P x xs p, All-head Q x xs q) (both P Q xs (All-tail P x xs p) (All-tail Q x xs q))

-- ---- what the checker begins with
pub own_facts : (g : Gauge) (system : System) → IsSystemWithin g system → All (IsFact g system.columns) system.rows
own_facts g system w =
    All-weaker (λ r. IsWellFormed system.columns r × IsRowWithin g r) (IsFact g system.columns)
    (λ r h. record { formed = h.0; within = h.1 }) system.rows
    (both (IsWellFormed system.columns) (IsRowWithin g) system.rows w.rows w.within)

out_rows : (g : Gauge) (n : ℕ) (out : System) → IsSystemWithin g out → out.columns ≡ n → IsOut g n out
out_rows g n out w same =
    All-weaker (λ r. IsWellFormed out.columns r × IsRowWithin g r) (IsOutRow g n)
    (λ r h. record { width = (let e = h.0.width in omega (arith, e, same)); modulus = h.0.modulus; within = h.1 }) out.rows
    (both (IsWellFormed out.columns) (IsRowWithin g) out.rows w.rows w.within)

pub own_outs : (g : Gauge) (n : ℕ) (outs : List System) → All (IsSystemWithin g) outs → All (λ out. out.columns ≡ n) outs
    → All (IsOut g n) outs
own_outs g n outs w c =
    All-weaker (λ out. IsSystemWithin g out × (out.columns ≡ n)) (IsOut g n) (λ out h. out_rows g n out h.0 h.1) outs
    (both (IsSystemWithin g) (λ out. out.columns ≡ n) outs w c)

-- ---- the theorem, of systems
module _ (g : Gauge) (system : System) (outs : List System) (within : IsSystemWithin g system) (outs_within : All (IsSystemWithin g) outs)
    (columns : All (λ out. out.columns ≡ system.columns) outs) (plain : system.definitions ≡ [])
    (plain_outs : All (λ out. out.definitions ≡ []) outs) where
  stand : (point : List ℤ) (rows : List Row) → All (IsWellFormed system.columns) rows → HoldRows rows point
      → All (Stands system.columns point) rows
  stand point rows formed hold =
      All-weaker (λ r. IsWellFormed system.columns r × HoldsRow r point) (Stands system.columns point)
      (λ r h. record { holds = h.1; formed = h.0 }) rows (both (IsWellFormed system.columns) (λ r. HoldsRow r point) rows formed hold)

  fail : (point : List ℤ) (list : List System) → All (IsOut g system.columns) list → All (λ out. out.definitions ≡ []) list
      → All (λ out. ¬ HoldsSystem out point) list → All (Fails system.columns point) (map rows_of list)
  fail point [] over none fails = All-nil (Fails system.columns point)
  fail point (out ∷ list) over none fails =
      All-cons (Fails system.columns point) out.rows (map rows_of list) (record {
        formed = All-weaker (IsOutRow g system.columns) (λ r. (length r.coefs ≤ system.columns) × HasModulus r.kind r.k)
            (λ r o. (o.width, o.modulus)) out.rows (All-head (IsOut g system.columns) out list over);
        fails = λ h. All-head (λ one. ¬ HoldsSystem one point) out list fails
            (subst (HoldRows out.rows) (sym (plain_point out.definitions point (All-head (λ one. one.definitions ≡ []) out list none))) h);
      })
      (fail point list (All-tail (IsOut g system.columns) out list over) (All-tail (λ one. one.definitions ≡ []) out list none)
      (All-tail (λ one. ¬ HoldsSystem one point) out list fails))

  pub certified : (cert : Cert) → refutes (map rows_of outs) system.columns system.rows cert ≡ true → HasNoneOutside system outs
  certified cert told point wide holds none =
      sound (map rows_of outs) cert system.columns system.rows point
      (record {
        wide = wide;
        stand = stand point system.rows within.rows (subst (HoldRows system.rows) (plain_point system.definitions point plain) holds);
      })
      (fail point outs (own_outs g system.columns outs outs_within columns) plain_outs none) told

  pub certified_says : (cert : Cert) (says : Bool) → says ≡ refutes (map rows_of outs) system.columns system.rows cert → IsTrue says
      → HasNoneOutside system outs
  certified_says cert says is told = certified cert (sym is ∙ told)

-- ---- what the clauses of the call say
abbrev IsAnswer : Gauge → Gauge → System → List System → Cert → Result Bool Cut → Type 0
IsAnswer g h system outs cert result =
    IsChecked g h (refutes (map rows_of outs) system.columns system.rows cert) (visited (map rows_of outs) system.columns system.rows cert)
    (Passes g.bits (map rows_of outs) system.columns system.rows cert) result

pub answer_shown : (g h : Gauge) (system : System) (outs : List System) (cert : Cert) (rows : List Row) (result : Result Bool Cut)
    → rows ≡ system.rows
    → IsChecked g h (refutes (map rows_of outs) system.columns rows cert) (visited (map rows_of outs) system.columns rows cert)
    (Passes g.bits (map rows_of outs) system.columns rows cert) result
    → IsAnswer g h system outs cert result
answer_shown g h system outs cert rows result is p =
    subst (λ (l : List Row). IsChecked g h (refutes (map rows_of outs) system.columns l cert)
    (visited (map rows_of outs) system.columns l cert)
    (Passes g.bits (map rows_of outs) system.columns l cert) result) is p

pub exact_told : (g h : Gauge) (system : System) (outs : List System) (cert : Cert) (result : Result Bool Cut)
    → IsAnswer g h system outs cert result → IfOk result (λ says. says ≡ refutes (map rows_of outs) system.columns system.rows cert)
exact_told g h system outs cert (Ok b) p = p.0
exact_told g h system outs cert (Err cut) p = tt

pub sound_told : (g h : Gauge) (system : System) (outs : List System) (cert : Cert) (result : Result Bool Cut) → IsSystemWithin g system
    → All (IsSystemWithin g) outs → All (λ out. out.columns ≡ system.columns) outs → system.definitions ≡ []
    → All (λ out. out.definitions ≡ []) outs
    → IsAnswer g h system outs cert result → IfOk result (λ says. IsTrue says → HasNoneOutside system outs)
sound_told g h system outs cert (Ok b) within outs_within columns plain plain_outs p =
    certified_says g system outs within outs_within columns plain plain_outs cert b p.0
sound_told g h system outs cert (Err cut) within outs_within columns plain plain_outs p = tt

pub units_told : (g h : Gauge) (system : System) (outs : List System) (cert : Cert) (result : Result Bool Cut)
    → IsAnswer g h system outs cert result
    → MatchResult result (λ _. h.units ≡ g.units + visited (map rows_of outs) system.columns system.rows cert)
    (λ _. h.units ≤ g.units + visited (map rows_of outs) system.columns system.rows cert)
units_told g h system outs cert (Ok b) p = p.1.units
units_told g h system outs cert (Err cut) p = p.most

pub whole_told : (g h : Gauge) (system : System) (outs : List System) (cert : Cert) (result : Result Bool Cut)
    → IsAnswer g h system outs cert result
    → IfOk result (λ says. IsTrue says → visited (map rows_of outs) system.columns system.rows cert ≡ nodes cert)
whole_told g h system outs cert (Ok b) p = λ t. visited_whole (map rows_of outs) cert system.columns system.rows (sym p.0 ∙ t)
whole_told g h system outs cert (Err cut) p = tt

pub meter_told : (g h : Gauge) (system : System) (outs : List System) (cert : Cert) (result : Result Bool Cut)
    → IsAnswer g h system outs cert result → IsMetered g h result
meter_told g h system outs cert (Ok b) p = p.1.charged
meter_told g h system outs cert (Err cut) p = p.by

pub overflow_told : (g h : Gauge) (system : System) (outs : List System) (cert : Cert) (result : Result Bool Cut)
    → IsAnswer g h system outs cert result
    → IfErr result (λ cut. cut ≡ Overflow → Passes g.bits (map rows_of outs) system.columns system.rows cert (h.units - g.units))
overflow_told g h system outs cert (Ok b) p = tt
overflow_told g h system outs cert (Err cut) p = p.overflow

pub budget_told : (g h : Gauge) (system : System) (outs : List System) (cert : Cert) (result : Result Bool Cut)
    → IsAnswer g h system outs cert result
    → IfErr result (λ cut. cut ≡ Budget → h.units < g.units + visited (map rows_of outs) system.columns system.rows cert)
budget_told g h system outs cert (Ok b) p = tt
budget_told g h system outs cert (Err cut) p = p.budget
