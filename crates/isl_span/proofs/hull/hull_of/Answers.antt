use Rattle.std.proofs.Common.{◌≡◌, ◌∙◌, ◌+◌, ◌++◌, ap, arith, map, refl, subst, sym, All, List, ℤ}
use Rattle.std.proofs.lemmas.Result.{err_from_is_err_and}
use Rattle.isl_meter.specs.Gauge.{Gauge}
use Rattle.isl_piece.specs.declared.row.Row.{Row}
use Rattle.isl_piece.specs.declared.system.System.{System}
use Rattle.isl_span.specs.Chain.{AreHullRows, padded}
use Rattle.isl_span.specs.Points.{IsHullSystem, IsOver, IsPoint}
use Rattle.isl_ledger.specs.Work.{AreOfSize, Size}
use Rattle.isl_difference.proofs.TameLaws.{tame_cut, tame_cut_first, tame_memory, tame_ok}
use Rattle.isl_span.specs.Work.{hull_units}
use Rattle.isl_span.proofs.ChainLaws.{hull_rows_kept}
use Rattle.isl_span.proofs.EndLaws.{hull_is}
use Rattle.isl_span.proofs.FewLaws.{hull_rows_alike, nowhere_alike}
use Rattle.isl_span.proofs.PointLaws.{all_over_later}
use Rattle.isl_span.proofs.hull.hull_of.Goals as goal

pub all_with_few_rows-requires : goal.all_with_few_rows-requires
all_with_few_rows-requires c =
    let chain = c.in_ok-chain.chain in
    rw c.as_slice.ensures.value (all_over_later c.args.meter.now c.chain_of.new.meter chain.first chain.left.items
    (ap (λ (x : Gauge). x.bits) c.in_ok-chain.ensures.meter.same) c.in_ok-chain.ensures.exact.over)

pub equations_of-requires : goal.equations_of-requires
equations_of-requires c =
    subst (All (IsOver c.chain_of.new.meter c.in_ok-chain.chain.first)) (sym c.as_slice-2.ensures.value) c.in_ok-few.ensures.over

pub returns-in_default-clause-exact : goal.returns-in_default-clause-exact
returns-in_default-clause-exact c =
    let chain = c.in_ok-chain.chain in
    let same = rw c.as_slice.ensures.value at c.in_ok-few.ensures.points in
    let found = rw c.as_slice-2.ensures.value at c.in_ok-rest.ensures.exact in
    c.in_ok-chain.ensures.exact.none
    (nowhere_alike chain.first c.in_ok-few.few.items chain.left.items same (rw c.in_default.is at found))

pub returns-clause-exact : goal.returns-clause-exact
returns-clause-exact c =
    let g = c.args.meter.now in
    let h = c.chain_of.new.meter in
    let n = c.args.columns in
    let P : List ℤ → Type 0 = IsPoint n c.args.systems.items in
    let chain = c.in_ok-chain.chain in
    let few = c.in_ok-few.few.items in
    let rest : List Row = c.in-Some.rest in
    let bits = ap (λ (x : Gauge). x.bits) c.in_ok-chain.ensures.meter.same in
    let same = rw c.as_slice.ensures.value at c.in_ok-few.ensures.points in
    let found = rw c.as_slice-2.ensures.value at c.in_ok-rest.ensures.exact in
    let of_few = hull_rows_kept g h chain.first (IsPoint chain.first few) rest bits (rw c.in-Some.is at found) in
    let left = hull_rows_alike chain.first few chain.left.items same g rest of_few in
    let pushed : c.push_padded.new.rows ≡ chain.rows ++ map (padded n) rest =
    c.in_ok-push_padded.ensures ∙ ap (λ (l : List Row). chain.rows ++ map (padded n) l) c.as_slice-3.ensures in
    subst (IsHullSystem g n P) (sym c.from_rows.ensures) (hull_is g n P c.push_padded.new.rows
    (subst (AreHullRows g n P) (sym pushed) (c.in_ok-chain.ensures.exact.hull rest left)))

-- ---- of difference constraints
pub returns-in_err-chain-clause-tame : goal.returns-in_err-chain-clause-tame
returns-in_err-chain-clause-tame c = λ bits s limit room is plain.
    let p = err_from_is_err_and c.from_residual.result c.from_residual.ensures.1 in
    rw (p.1, p.2) (tame_cut_first (hull_units c.args.columns) c.args.meter.now c.chain_of.new.meter _ _ c.in_err-chain.field-0.0
    (c.in_err-chain.ensures.tame bits s limit room is plain))

pub returns-in_err-few-clause-tame : goal.returns-in_err-few-clause-tame
returns-in_err-few-clause-tame c = λ bits s limit room is plain.
    let g = c.args.meter.now in
    let n = c.args.columns in
    let made = c.in_ok-chain.ensures.tame bits s limit room is plain in
    let p = err_from_is_err_and c.from_residual-in_err-few.result c.from_residual-in_err-few.ensures.1 in
    rw (p.1, p.2) (tame_memory (hull_units n) (hull_units n) g c.chain_of.new.meter _ made.within.units (omega arith))

pub returns-in_err-rest-clause-tame : goal.returns-in_err-rest-clause-tame
returns-in_err-rest-clause-tame c = λ bits s limit room is plain.
    let g = c.args.meter.now in
    let h = c.chain_of.new.meter in
    let n = c.args.columns in
    let chain = c.in_ok-chain.chain in
    let made = c.in_ok-chain.ensures.tame bits s limit room is plain in
    let before = made.within.units in
    let size : Size = record { pieces = 1; columns = 0; bits = bits + n } in
    let limit_then = ap (λ (x : Gauge). x.bits) c.in_ok-chain.ensures.meter.same ∙ limit in
    let left = subst (AreOfSize size) (sym c.as_slice.ensures.value) made.answer.size in
    let few = subst (AreOfSize size) (sym c.as_slice-2.ensures.value) (c.in_ok-few.ensures.size size left) in
    let p = err_from_is_err_and c.from_residual-in_err-rest.result c.from_residual-in_err-rest.ensures.1 in
    rw (p.1, p.2) (tame_cut (hull_units n) 0 (hull_units n) g h c.equations_of.new.meter _ _ c.in_err-rest.field-0.0
    c.in_ok-chain.ensures.meter before (omega arith)
    (c.in_err-rest.ensures.tame size limit_then made.answer.none refl (omega (arith, room)) few))

pub returns-in_default-clause-tame : goal.returns-in_default-clause-tame
returns-in_default-clause-tame c = λ bits s limit room is plain.
    let g = c.args.meter.now in
    let h = c.chain_of.new.meter in
    let n = c.args.columns in
    let chain = c.in_ok-chain.chain in
    let made = c.in_ok-chain.ensures.tame bits s limit room is plain in
    let before = made.within.units in
    let size : Size = record { pieces = 1; columns = 0; bits = bits + n } in
    let limit_then = ap (λ (x : Gauge). x.bits) c.in_ok-chain.ensures.meter.same ∙ limit in
    let left = subst (AreOfSize size) (sym c.as_slice.ensures.value) made.answer.size in
    let few = subst (AreOfSize size) (sym c.as_slice-2.ensures.value) (c.in_ok-few.ensures.size size left) in
    let asked = c.in_ok-rest.ensures.tame size limit_then made.answer.none refl (omega (arith, room)) few in
    let used = asked.within.units in
    tame_ok (hull_units n) g c.equations_of.new.meter _ _ (omega (arith, before, used)) tt

pub returns-in_err-push_padded-clause-tame : goal.returns-in_err-push_padded-clause-tame
returns-in_err-push_padded-clause-tame c = λ bits s limit room is plain.
    let g = c.args.meter.now in
    let h = c.chain_of.new.meter in
    let n = c.args.columns in
    let chain = c.in_ok-chain.chain in
    let made = c.in_ok-chain.ensures.tame bits s limit room is plain in
    let before = made.within.units in
    let size : Size = record { pieces = 1; columns = 0; bits = bits + n } in
    let limit_then = ap (λ (x : Gauge). x.bits) c.in_ok-chain.ensures.meter.same ∙ limit in
    let left = subst (AreOfSize size) (sym c.as_slice.ensures.value) made.answer.size in
    let few = subst (AreOfSize size) (sym c.as_slice-2.ensures.value) (c.in_ok-few.ensures.size size left) in
    let asked = c.in_ok-rest.ensures.tame size limit_then made.answer.none refl (omega (arith, room)) few in
    let used = asked.within.units in
    let p = err_from_is_err_and c.from_residual-in_err-push_padded.result c.from_residual-in_err-push_padded.ensures.1 in
    rw (p.1, p.2) (tame_memory (hull_units n) (hull_units n) g c.equations_of.new.meter _ (omega (arith, before, used)) (omega arith))

pub returns-clause-tame : goal.returns-clause-tame
returns-clause-tame c = λ bits s limit room is plain.
    let g = c.args.meter.now in
    let h = c.chain_of.new.meter in
    let n = c.args.columns in
    let chain = c.in_ok-chain.chain in
    let made = c.in_ok-chain.ensures.tame bits s limit room is plain in
    let before = made.within.units in
    let size : Size = record { pieces = 1; columns = 0; bits = bits + n } in
    let limit_then = ap (λ (x : Gauge). x.bits) c.in_ok-chain.ensures.meter.same ∙ limit in
    let left = subst (AreOfSize size) (sym c.as_slice.ensures.value) made.answer.size in
    let few = subst (AreOfSize size) (sym c.as_slice-2.ensures.value) (c.in_ok-few.ensures.size size left) in
    let asked = c.in_ok-rest.ensures.tame size limit_then made.answer.none refl (omega (arith, room)) few in
    let used = asked.within.units in
    tame_ok (hull_units n) g c.equations_of.new.meter _ _ (omega (arith, before, used)) tt
