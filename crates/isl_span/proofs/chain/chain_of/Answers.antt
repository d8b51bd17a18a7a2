use Rattle.std.proofs.Common.{◌≡◌, ◌∙◌, ◌+◌, ◌-◌, ◌*◌, ◌<◌, ◌≤◌, ap, arith, get_or, refl, subst, sym, List, ℕ, true, false}
use Rattle.std.specs.List.{All}
use Rattle.std.proofs.lemmas.Grind.{common_steps}
use Rattle.std.proofs.lemmas.List.Elements.{All-weaker}
use Rattle.std.proofs.lemmas.Result.{err_from_is_err_and}
use Rattle.isl_meter.specs.Gauge.{Gauge}
use Rattle.isl_meter.proofs.CutLemmas.{IsCharged_refl, IsCharged_trans}
use Rattle.isl_piece.specs.declared.row.Row.{Row}
use Rattle.isl_piece.specs.declared.system.System.{System}
use Rattle.isl_piece.specs.System.{IsSystemWithin}
use Rattle.isl_piece.proofs.FormedLaws.{system_within_kept}
use Rattle.isl_span.specs.Chain.{IsChainOf, IsPlainChain, IsPushed}
use Rattle.isl_span.specs.Points.{IsOver}
use Rattle.isl_span.proofs.ChainLaws.{chain_none, chain_step, first_over, none_seen, one_left, one_over}
use Rattle.isl_span.proofs.PointLaws.{all_over_later}
use Rattle.isl_ledger.specs.Difference.{IsDifferenceSystem}
use Rattle.isl_ledger.specs.Work.{Size}
use Rattle.isl_difference.proofs.TameLaws.{one_of_size, tame_cut, tame_memory, tame_ok}
use Rattle.isl_span.specs.Work.{column_units, hull_units, link_units}
use Rattle.isl_span.proofs.WorkLaws.{chain_ended, chain_first, chain_next, turn_room, units_ended}
use Rattle.isl_span.proofs.chain.chain_of.Goals as goal

pub loop-first-init : goal.loop-first-init
loop-first-init c = record {
  chain = subst (λ (l : List Row). IsChainOf c.args.meter.now c.args.columns c.args.systems.items l c.args.columns c.args.systems.items)
      (sym c.new-rows.ensures) (chain_none c.args.meter.now c.args.columns c.args.systems.items c.requires);
  charged = IsCharged_refl c.args.meter.now c.args.meter.now refl;
  tame = λ bits s limit room is plain. chain_first c.args.meter.now c.args.columns bits c.args.systems.items s is plain;
}

pub link_of-requires : goal.link_of-requires
link_of-requires c =
    let h = c.loop-first.meter in
    let n = c.loop-first.first in
    let left = c.loop-first.left.items in
    let one_more : n ≡ n - 1 + 1 = omega arith in
    rw c.as_slice.ensures.value (subst (λ (k : ℕ). All (IsOver h k) left) one_more
    (all_over_later c.args.meter.now h n left (ap (λ (x : Gauge). x.bits) c.loop-first.invariant.charged.same)
    c.loop-first.invariant.chain.over))

pub returns-then-not-seen-clause-exact : goal.returns-then-not-seen-clause-exact
returns-then-not-seen-clause-exact c =
    let columns = c.args.columns in
    let systems = c.args.systems.items in
    let first = c.loop-first.first in
    let left = c.loop-first.left.items in
    let rows = c.loop-first.rows in
    let new = c.push_link.new.rows in
    let link = c.in_ok-link.link in
    let quiet : c.in_ok-seen.seen ≡ false = grind (arith, common_steps) in
    let linked = rw c.as_slice.ensures.value at c.in_ok-link.ensures.exact in
    let same = ap (λ (x : Gauge). x.bits) c.loop-first.invariant.charged.same in
    let none = none_seen c.args.meter.now c.loop-first.meter same columns systems rows new (first - 1) left link linked
    (subst (IsPushed columns link rows new) quiet c.in_ok-seen.ensures) in
    subst (λ (l : List Row). IsChainOf c.args.meter.now columns systems l first left) (sym none.1) c.loop-first.invariant.chain

pub returns-then-not-seen-clause-far : goal.returns-then-not-seen-clause-far
returns-then-not-seen-clause-far c bits s is plain =
    let columns = c.args.columns in
    let first = c.loop-first.first in
    let left = c.loop-first.left.items in
    let rows = c.loop-first.rows in
    let new = c.push_link.new.rows in
    let link = c.in_ok-link.link in
    let one_more : first ≡ first - 1 + 1 = omega arith in
    let quiet : c.in_ok-seen.seen ≡ false = grind (arith, common_steps) in
    let linked = rw c.as_slice.ensures.value at c.in_ok-link.ensures.exact in
    let same = ap (λ (x : Gauge). x.bits) c.loop-first.invariant.charged.same in
    let none = none_seen c.args.meter.now c.loop-first.meter same columns c.args.systems.items rows new (first - 1) left link linked
    (subst (IsPushed columns link rows new) quiet c.in_ok-seen.ensures) in
    absurd (c.in_ok-link.ensures.seen bits s (c.as_slice.ensures.value ∙ is)
    (subst (λ (k : ℕ). IsPlainChain k bits s) one_more plain) none.0)

pub index-requires : goal.index-requires
index-requires c =
    let columns = c.args.columns in
    let rows = c.loop-first.rows in
    let new = c.push_link.new.rows in
    let link = c.in_ok-link.link in
    let sure : c.in_ok-seen.seen ≡ true = grind (arith, common_steps) in
    let linked = rw c.as_slice.ensures.value at c.in_ok-link.ensures.exact in
    let same = ap (λ (x : Gauge). x.bits) c.loop-first.invariant.charged.same in
    let one = one_left c.args.meter.now c.loop-first.meter same columns c.args.systems.items rows new (c.loop-first.first - 1)
    c.loop-first.left.items link linked (subst (IsPushed columns link rows new) sure c.in_ok-seen.ensures) in
    omega (arith, one)

pub eliminate-requires-clause-well_formed : goal.eliminate-requires-clause-well_formed
eliminate-requires-clause-well_formed c =
    let columns = c.args.columns in
    let g = c.args.meter.now in
    let first = c.loop-first.first in
    let left = c.loop-first.left.items in
    let rows = c.loop-first.rows in
    let new = c.push_link.new.rows in
    let link = c.in_ok-link.link in
    let s = c.index.result.now in
    let same = ap (λ (x : Gauge). x.bits) c.loop-first.invariant.charged.same in
    let later = ap (λ (x : Gauge). x.bits) c.in_ok-link.ensures.meter.same in
    let sure : c.in_ok-seen.seen ≡ true = grind (arith, common_steps) in
    let linked = rw c.as_slice.ensures.value at c.in_ok-link.ensures.exact in
    let one = one_left g c.loop-first.meter same columns c.args.systems.items rows new (first - 1) left link linked
    (subst (IsPushed columns link rows new) sure c.in_ok-seen.ensures) in
    let over = first_over g first left s c.loop-first.invariant.chain.over one c.index.ensures in
    system_within_kept c.link_of.new.meter g s (sym (later ∙ same)) over.within

pub eliminate-requires-clause-col_in : goal.eliminate-requires-clause-col_in
eliminate-requires-clause-col_in c =
    let columns = c.args.columns in
    let g = c.args.meter.now in
    let first = c.loop-first.first in
    let left = c.loop-first.left.items in
    let rows = c.loop-first.rows in
    let new = c.push_link.new.rows in
    let link = c.in_ok-link.link in
    let s = c.index.result.now in
    let same = ap (λ (x : Gauge). x.bits) c.loop-first.invariant.charged.same in
    let sure : c.in_ok-seen.seen ≡ true = grind (arith, common_steps) in
    let linked = rw c.as_slice.ensures.value at c.in_ok-link.ensures.exact in
    let one = one_left g c.loop-first.meter same columns c.args.systems.items rows new (first - 1) left link linked
    (subst (IsPushed columns link rows new) sure c.in_ok-seen.ensures) in
    let free = (first_over g first left s c.loop-first.invariant.chain.over one c.index.ensures).free in
    omega (arith, free)

pub loop-first-preserved : goal.loop-first-preserved
loop-first-preserved c =
    let columns = c.args.columns in
    let systems = c.args.systems.items in
    let g = c.args.meter.now in
    let h = c.loop-first.meter in
    let first = c.loop-first.first in
    let left = c.loop-first.left.items in
    let rows = c.loop-first.rows in
    let new = c.push_link.new.rows in
    let link = c.in_ok-link.link in
    let next = c.in_ok-left.left.items in
    let s = c.index.result.now in
    let one_more : first ≡ first - 1 + 1 = omega arith in
    let same = ap (λ (x : Gauge). x.bits) c.loop-first.invariant.charged.same in
    let later = ap (λ (x : Gauge). x.bits) c.in_ok-link.ensures.meter.same in
    let sure : c.in_ok-seen.seen ≡ true = grind (arith, common_steps) in
    let linked = rw c.as_slice.ensures.value at c.in_ok-link.ensures.exact in
    record {
      chain = chain_step g h same columns systems rows new (first - 1) left link linked
          (subst (IsPushed columns link rows new) sure c.in_ok-seen.ensures)
          (subst (λ (k : ℕ). IsChainOf g columns systems rows k left) one_more c.loop-first.invariant.chain) s c.index.ensures next
          c.in_ok-left.ensures.projection
          (All-weaker (IsSystemWithin c.link_of.new.meter) (IsSystemWithin h)
          (λ t w. system_within_kept h c.link_of.new.meter t later w) next c.in_ok-left.ensures.within);
      charged = IsCharged_trans g c.link_of.new.meter c.eliminate.new.meter
          (IsCharged_trans g h c.link_of.new.meter c.loop-first.invariant.charged c.in_ok-link.ensures.meter) c.in_ok-left.ensures.meter;
      tame = λ bits s limit room is plain.
          let g = c.args.meter.now in
          let h = c.loop-first.meter in
          let columns = c.args.columns in
          let first = c.loop-first.first in
          let so = c.loop-first.invariant.tame bits s limit room is plain in
          let before = so.units in
          let few = c.loop-first.invariant.chain.few in
          let some : 0 < first = omega arith in
          let one_more : first ≡ first - 1 + 1 = omega (arith, some) in
          let limit_then = ap (λ (x : Gauge). x.bits) c.loop-first.invariant.charged.same ∙ limit in
          let left = c.as_slice.ensures.value ∙ so.is in
          let own = subst (λ (k : ℕ). IsPlainChain k (bits + (columns - first)) so.now) one_more so.plain in
          let narrow : bits + (columns - first) + 1 + (first - 1 + 1) ≤ 120 = omega (arith, room, few, some) in
          let link = c.in_ok-link.ensures.tame (bits + (columns - first)) so.now limit_then narrow left own in
          let asked = subst (λ (k : ℕ). c.link_of.new.meter.units ≤ h.units + link_units k) (sym one_more) link.within.units in
          let later = ap (λ (x : Gauge). x.bits) c.in_ok-link.ensures.meter.same in
          let charged = IsCharged_trans g h c.link_of.new.meter c.loop-first.invariant.charged c.in_ok-link.ensures.meter in
          let z : Size = record { pieces = 1; columns = first; bits = bits + (columns - first) } in
          let t = c.index.result.now in
          let same : t ≡ so.now = c.index.ensures ∙ ap (λ (l : List System). get_or l 0 t) so.is in
          let size = one_of_size first (bits + (columns - first)) t
          (subst (IsDifferenceSystem first (bits + (columns - first))) (sym same) so.plain.differences) in
          let went = c.in_ok-left.ensures.tame z (later ∙ limit_then) (omega (arith, narrow)) size in
          let used = went.within.units in
          let over = one_over g first c.loop-first.left.items so.now so.is c.loop-first.invariant.chain.over in
          chain_next g h c.eliminate.new.meter g columns bits first (first - 1) c.loop-first.left.items c.in_ok-left.left.items t
          one_more few so c.index.ensures (subst (IsOver g first) (sym same) over)
          (omega (arith, asked, used)) c.in_ok-left.ensures.projection went.answer;
    }

-- ---- of difference constraints
pub returns-in_err-link-clause-tame : goal.returns-in_err-link-clause-tame
returns-in_err-link-clause-tame c = λ bits s limit room is plain.
    let g = c.args.meter.now in
    let h = c.loop-first.meter in
    let columns = c.args.columns in
    let first = c.loop-first.first in
    let so = c.loop-first.invariant.tame bits s limit room is plain in
    let before = so.units in
    let few = c.loop-first.invariant.chain.few in
    let some : 0 < first = omega arith in
    let one_more : first ≡ first - 1 + 1 = omega (arith, some) in
    let limit_then = ap (λ (x : Gauge). x.bits) c.loop-first.invariant.charged.same ∙ limit in
    let left = c.as_slice.ensures.value ∙ so.is in
    let own = subst (λ (k : ℕ). IsPlainChain k (bits + (columns - first)) so.now) one_more so.plain in
    let narrow : bits + (columns - first) + 1 + (first - 1 + 1) ≤ 120 = omega (arith, room, few, some) in
    let p = err_from_is_err_and c.from_residual.result c.from_residual.ensures.1 in
    rw (p.1, p.2) (tame_cut ((columns - first) * column_units columns) (link_units (first - 1 + 1)) (hull_units columns) g h
    c.link_of.new.meter _ _ c.in_err-link.field-0.0 c.loop-first.invariant.charged before
    (turn_room columns first (link_units (first - 1 + 1)) some few
    (subst (λ (k : ℕ). link_units k ≤ column_units first) one_more (omega arith)))
    (c.in_err-link.ensures.tame (bits + (columns - first)) so.now limit_then narrow left own))

pub returns-in_err-seen-clause-tame : goal.returns-in_err-seen-clause-tame
returns-in_err-seen-clause-tame c = λ bits s limit room is plain.
    let g = c.args.meter.now in
    let h = c.loop-first.meter in
    let columns = c.args.columns in
    let first = c.loop-first.first in
    let so = c.loop-first.invariant.tame bits s limit room is plain in
    let before = so.units in
    let few = c.loop-first.invariant.chain.few in
    let some : 0 < first = omega arith in
    let one_more : first ≡ first - 1 + 1 = omega (arith, some) in
    let limit_then = ap (λ (x : Gauge). x.bits) c.loop-first.invariant.charged.same ∙ limit in
    let left = c.as_slice.ensures.value ∙ so.is in
    let own = subst (λ (k : ℕ). IsPlainChain k (bits + (columns - first)) so.now) one_more so.plain in
    let narrow : bits + (columns - first) + 1 + (first - 1 + 1) ≤ 120 = omega (arith, room, few, some) in
    let link = c.in_ok-link.ensures.tame (bits + (columns - first)) so.now limit_then narrow left own in
    let asked = subst (λ (k : ℕ). c.link_of.new.meter.units ≤ h.units + link_units k) (sym one_more) link.within.units in
    let later = ap (λ (x : Gauge). x.bits) c.in_ok-link.ensures.meter.same in
    let charged = IsCharged_trans g h c.link_of.new.meter c.loop-first.invariant.charged c.in_ok-link.ensures.meter in
    let most = turn_room columns first (link_units first) some few (omega arith) in
    let p = err_from_is_err_and c.from_residual-in_err-seen.result c.from_residual-in_err-seen.ensures.1 in
    rw (p.1, p.2) (tame_memory (hull_units columns) (hull_units columns) g c.link_of.new.meter _ (omega (arith, before, asked, most))
    (omega arith))

pub returns-then-not-seen-clause-tame : goal.returns-then-not-seen-clause-tame
returns-then-not-seen-clause-tame c = λ bits s limit room is plain.
    let g = c.args.meter.now in
    let h = c.loop-first.meter in
    let columns = c.args.columns in
    let first = c.loop-first.first in
    let so = c.loop-first.invariant.tame bits s limit room is plain in
    let before = so.units in
    let few = c.loop-first.invariant.chain.few in
    let some : 0 < first = omega arith in
    let one_more : first ≡ first - 1 + 1 = omega (arith, some) in
    let limit_then = ap (λ (x : Gauge). x.bits) c.loop-first.invariant.charged.same ∙ limit in
    let left = c.as_slice.ensures.value ∙ so.is in
    let own = subst (λ (k : ℕ). IsPlainChain k (bits + (columns - first)) so.now) one_more so.plain in
    let narrow : bits + (columns - first) + 1 + (first - 1 + 1) ≤ 120 = omega (arith, room, few, some) in
    let rows = c.loop-first.rows in
    let new = c.push_link.new.rows in
    let link = c.in_ok-link.link in
    let quiet : c.in_ok-seen.seen ≡ false = grind (arith, common_steps) in
    let linked = rw c.as_slice.ensures.value at c.in_ok-link.ensures.exact in
    let kept = ap (λ (x : Gauge). x.bits) c.loop-first.invariant.charged.same in
    let none = none_seen g h kept columns c.args.systems.items rows new (first - 1) c.loop-first.left.items link linked
    (subst (IsPushed columns link rows new) quiet c.in_ok-seen.ensures) in
    absurd (c.in_ok-link.ensures.seen (bits + (columns - first)) so.now left own none.0)

pub returns-in_err-left-clause-tame : goal.returns-in_err-left-clause-tame
returns-in_err-left-clause-tame c = λ bits s limit room is plain.
    let g = c.args.meter.now in
    let h = c.loop-first.meter in
    let columns = c.args.columns in
    let first = c.loop-first.first in
    let so = c.loop-first.invariant.tame bits s limit room is plain in
    let before = so.units in
    let few = c.loop-first.invariant.chain.few in
    let some : 0 < first = omega arith in
    let one_more : first ≡ first - 1 + 1 = omega (arith, some) in
    let limit_then = ap (λ (x : Gauge). x.bits) c.loop-first.invariant.charged.same ∙ limit in
    let left = c.as_slice.ensures.value ∙ so.is in
    let own = subst (λ (k : ℕ). IsPlainChain k (bits + (columns - first)) so.now) one_more so.plain in
    let narrow : bits + (columns - first) + 1 + (first - 1 + 1) ≤ 120 = omega (arith, room, few, some) in
    let link = c.in_ok-link.ensures.tame (bits + (columns - first)) so.now limit_then narrow left own in
    let asked = subst (λ (k : ℕ). c.link_of.new.meter.units ≤ h.units + link_units k) (sym one_more) link.within.units in
    let later = ap (λ (x : Gauge). x.bits) c.in_ok-link.ensures.meter.same in
    let charged = IsCharged_trans g h c.link_of.new.meter c.loop-first.invariant.charged c.in_ok-link.ensures.meter in
    let z : Size = record { pieces = 1; columns = first; bits = bits + (columns - first) } in
    let t = c.index.result.now in
    let same : t ≡ so.now = c.index.ensures ∙ ap (λ (l : List System). get_or l 0 t) so.is in
    let size = one_of_size first (bits + (columns - first)) t
    (subst (IsDifferenceSystem first (bits + (columns - first))) (sym same) so.plain.differences) in
    let most = turn_room columns first (link_units first + first * first) some few (omega arith) in
    let p = err_from_is_err_and c.from_residual-in_err-left.result c.from_residual-in_err-left.ensures.1 in
    rw (p.1, p.2) (tame_cut ((columns - first) * column_units columns + link_units first) (first * first) (hull_units columns) g
    c.link_of.new.meter c.eliminate.new.meter _ _ c.in_err-left.field-0.0 charged (omega (arith, before, asked)) (omega (arith, most))
    (c.in_err-left.ensures.tame z (later ∙ limit_then) (omega (arith, narrow)) size))

pub returns-clause-tame : goal.returns-clause-tame
returns-clause-tame c = λ bits s limit room is plain.
    let g = c.args.meter.now in
    let h = c.loop-first.meter in
    let columns = c.args.columns in
    let first = c.loop-first.first in
    let so = c.loop-first.invariant.tame bits s limit room is plain in
    let none : first ≡ 0 = omega arith in
    tame_ok (hull_units columns) g h _ _ (units_ended g.units h.units columns first (column_units columns) none so.units)
    (chain_ended g h columns bits first c.loop-first.left.items none so)
