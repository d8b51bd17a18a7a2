use Rattle.std.proofs.Common.{◌≡◌, ◌↔◌, ◌∙◌, ◌+◌, ◌∷◌, [], ap, arith, refl, subst, sym, Bool, List, ℤ, pos, ◌-ℤ◌, ◌≤ℤ◌}
use Rattle.std.specs.Bool.{IsTrue}
use Rattle.std.proofs.lemmas.Grind.{common_steps}
use Rattle.std.specs.Prelude.{⊤}
use Rattle.std.proofs.lemmas.Result.{IfOk-weaker, err_from_is_err_and}
use Rattle.isl_meter.specs.Gauge.{Gauge, IsWithin}
use Rattle.isl_piece.specs.declared.row.Row.{Row}
use Rattle.isl_piece.specs.declared.row.RowKind.TheVariants.{AtLeast}
use Rattle.isl_piece.specs.declared.system.System.{System}
use Rattle.isl_piece.specs.Row.{IsRowWithin, value_at}
use Rattle.isl_piece.specs.System.{HoldsSystem, IsSystemWithin, free_columns}
use Rattle.isl_elim.specs.Sample.{IsNowhere}
use Rattle.isl_ledger.specs.Answered.{IsTame}
use Rattle.isl_ledger.specs.Difference.{HasDifferenceRows}
use Rattle.isl_difference.proofs.TameLaws.{differences_wider, tame_memory}
use Rattle.isl_span.specs.Work.{test_units}
use Rattle.isl_span.proofs.LinkLaws.{below_one}
use Rattle.isl_span.proofs.WorkLaws.{above_difference, above_within, both_rows, only_rows}
use Rattle.isl_span.proofs.PointLaws.{both_hold, only_within}
use Rattle.isl_span.proofs.last.is_below_one.Goals as goal

pub is_nowhere-requires : goal.is_nowhere-requires
is_nowhere-requires c =
    let g = c.args.meter.now in
    let n = c.args.columns in
    let r = c.args.row.now in
    let d = c.in_ok-constant.constant in
    let both = c.in_ok-both.both in
    let above : Row = record { kind = AtLeast; coefs = r.coefs; constant = d; k = pos 1 } in
    let made : c.new-above.result ≡ above = grind (arith, common_steps) in
    let alone : System = record { columns = n; definitions = []; rows = above ∷ [] } in
    let is : c.in_ok-only.field-0 ≡ alone =
    c.in_ok-only.ensures ∙ ap (λ (a : Row). let s : System = record { columns = n; definitions = []; rows = a ∷ [] } in s) made in
    let within : IsRowWithin g above = record {
      coefs = c.requires.within.coefs;
      constant = c.in_ok-constant.ensures.1;
      k = subst (IsWithin g) c.requires.modulus c.requires.within.k;
    } in
    let only = subst (IsSystemWithin g) (sym is)
    (only_within g n above (record { width = c.requires.formed.width; modulus = refl }) within) in
    subst (λ (h : Gauge). IsSystemWithin h both) (sym c.in_ok-constant.ensures.2)
    (c.in_ok-both.ensures.within g c.requires.over.within only)

pub returns-clause-exact : goal.returns-clause-exact
returns-clause-exact c =
    let s = c.args.system.now in
    let g = c.args.meter.now in
    let n = c.args.columns in
    let r = c.args.row.now in
    let d = c.in_ok-constant.constant in
    let both = c.in_ok-both.both in
    let above : Row = record { kind = AtLeast; coefs = r.coefs; constant = d; k = pos 1 } in
    let made : c.new-above.result ≡ above = grind (arith, common_steps) in
    let alone : System = record { columns = n; definitions = []; rows = above ∷ [] } in
    let is : c.in_ok-only.field-0 ≡ alone =
    c.in_ok-only.ensures ∙ ap (λ (a : Row). let s : System = record { columns = n; definitions = []; rows = a ∷ [] } in s) made in
    let within : IsRowWithin g above = record {
      coefs = c.requires.within.coefs;
      constant = c.in_ok-constant.ensures.1;
      k = subst (IsWithin g) c.requires.modulus c.requires.within.k;
    } in
    let only = subst (IsSystemWithin g) (sym is)
    (only_within g n above (record { width = c.requires.formed.width; modulus = refl }) within) in
    let own = c.requires.over.within in
    let less : d ≡ r.constant -ℤ pos 1 = grind (arith, common_steps) in
    let told = below_one (free_columns both) n s both r d (c.in_ok-both.ensures.free g own only ∙ c.requires.over.free) less
    (λ x long. both_hold n s both above x
    (subst (λ (t : System). HoldsSystem both x ↔ (HoldsSystem s x × HoldsSystem t x)) is
    (c.in_ok-both.ensures.points g x own only (long ∙ sym c.requires.over.free)))) in
    IfOk-weaker c.is_nowhere.result
    (λ (below : Bool). IsTrue below ↔ IsNowhere (free_columns both) (HoldsSystem both))
    (λ (below : Bool). IsTrue below ↔ IsNowhere n (λ (point : List ℤ). HoldsSystem s point × (pos 1 ≤ℤ value_at r point)))
    (λ b h. ((λ t. told.0 (h.0 t)), (λ none. h.1 (told.1 none)))) c.is_nowhere.ensures.exact

-- ---- of difference constraints
pub returns-in_err-constant-clause-tame : goal.returns-in_err-constant-clause-tame
returns-in_err-constant-clause-tame c = λ bits limit room d r.
    let within = above_within c.args.meter.now bits c.args.row.now limit (omega (arith, room)) r in
    absurd (c.in_err-constant.ensures.0 (rw c.constant.ensures within))

pub returns-in_err-copy-clause-tame : goal.returns-in_err-copy-clause-tame
returns-in_err-copy-clause-tame c = λ bits limit room d r.
    let same = ap (λ (x : Gauge). x.units) c.in_ok-constant.ensures.2 in
    let p = err_from_is_err_and c.from_residual-in_err-copy.result c.from_residual-in_err-copy.ensures.1 in
    rw (p.1, p.2) (tame_memory 0 (test_units c.args.columns) c.args.meter.now c.sub.new.meter _ (omega (arith, same)) (omega arith))

pub returns-in_err-only-clause-tame : goal.returns-in_err-only-clause-tame
returns-in_err-only-clause-tame c = λ bits limit room d r.
    let same = ap (λ (x : Gauge). x.units) c.in_ok-constant.ensures.2 in
    let p = err_from_is_err_and c.from_residual-in_err-only.result c.from_residual-in_err-only.ensures.1 in
    rw (p.1, p.2) (tame_memory 0 (test_units c.args.columns) c.args.meter.now c.sub.new.meter _ (omega (arith, same)) (omega arith))

pub returns-in_err-both-clause-tame : goal.returns-in_err-both-clause-tame
returns-in_err-both-clause-tame c = λ bits limit room d r.
    let same = ap (λ (x : Gauge). x.units) c.in_ok-constant.ensures.2 in
    let p = err_from_is_err_and c.from_residual-in_err-both.result c.from_residual-in_err-both.ensures.1 in
    rw (p.1, p.2) (tame_memory 0 (test_units c.args.columns) c.args.meter.now c.sub.new.meter _ (omega (arith, same)) (omega arith))

pub returns-clause-tame : goal.returns-clause-tame
returns-clause-tame c = λ bits limit room d r.
    let g = c.args.meter.now in
    let n = c.args.columns in
    let s = c.args.system.now in
    let row = c.args.row.now in
    let constant = c.in_ok-constant.constant in
    let both = c.in_ok-both.both in
    let above : Row = record { kind = AtLeast; coefs = row.coefs; constant = constant; k = pos 1 } in
    let made : c.new-above.result ≡ above = grind (arith, common_steps) in
    let alone : System = record { columns = n; definitions = []; rows = above ∷ [] } in
    let is : c.in_ok-only.field-0 ≡ alone =
    c.in_ok-only.ensures ∙ ap (λ (a : Row). let s : System = record { columns = n; definitions = []; rows = a ∷ [] } in s) made in
    let less : constant ≡ row.constant -ℤ pos 1 = grind (arith, common_steps) in
    let only = subst (HasDifferenceRows n (bits + 1)) (sym is)
    (only_rows n n (bits + 1) above (omega arith) (above_difference bits row constant r less)) in
    let undefined = ap (λ (t : System). t.definitions) is in
    let rows = both_rows n (bits + 1) s c.in_ok-only.field-0 both (c.in_ok-both.ensures.same (d.undefined ∙ sym undefined))
    (differences_wider n bits (bits + 1) s (omega arith) d) only in
    let same = c.in_ok-constant.ensures.2 in
    subst (λ (m : Gauge). IsTame (test_units n) m c.is_nowhere.new.meter (λ _. ⊤) c.is_nowhere.result) same
    (c.is_nowhere.ensures.tame n (bits + 1) (ap (λ (x : Gauge). x.bits) same ∙ limit) room rows)
