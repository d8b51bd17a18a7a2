use Rattle.std.proofs.Common.{◌≡◌, ◌+◌, ◌<◌, ◌++◌, refl, sym, arith, subst, length, map, drop, get_or, List}
use Rattle.std.proofs.lemmas.Grind.{common_steps}
use Rattle.isl_meter.proofs.CutLemmas.{IsCharged_refl, IsCharged_trans}
use Rattle.isl_piece.specs.declared.row.Row.{Row}
use Rattle.isl_piece.specs.declared.system.System.{System}
use Rattle.isl_gist.specs.Thinned.{plain_system, IsAmong, IsPart, IsPlain}
use Rattle.isl_gist.proofs.IdleLaws.{plain_later, plain_over}
use Rattle.isl_gist.proofs.SweepLaws.{beside_over, kept_over, swept_first, swept_more, IsSwept}
use Rattle.isl_gist.proofs.needed.swept.Goals as goal

pub loop-at-init : goal.loop-at-init
loop-at-init c =
    let P = IsAmong c.args.system.now.columns (map (λ o. o.now) c.args.contexts.now) in
    let rows = c.args.system.now.rows in record {
      swept = subst (λ (l : List Row). IsSwept c.args.pass P rows l 0) (sym c.new-kept.ensures)
          (swept_first c.args.pass P rows c.requires.needed);
      charged = IsCharged_refl c.args.meter.now c.args.meter.now refl;
    }

pub part-requires-clause-others : goal.part-requires-clause-others
part-requires-clause-others c =
    let g = c.args.meter.now in
    let h = c.loop-at.meter in
    let P = IsAmong c.args.system.now.columns (map (λ o. o.now) c.args.contexts.now) in
    let n = c.args.system.now.columns in
    let rows = c.args.system.now.rows in
    let kept = c.loop-at.kept in
    let i = c.loop-at.at in
    let beside = kept ++ drop (i + 1) rows in
    subst (λ (s : System). IsPlain h s.columns s) (sym c.in_ok-others.ensures)
    (plain_later g h n (plain_system n beside) c.loop-at.invariant.charged
    (plain_over g n beside (beside_over c.args.pass P rows kept i c.loop-at.invariant.swept g n c.requires.system.rows)))

pub loop-at-preserved : goal.loop-at-preserved
loop-at-preserved c =
    let contexts = map (λ o. o.now) c.args.contexts.now in
    let n = c.args.system.now.columns in
    let P = IsAmong n contexts in
    let rows = c.args.system.now.rows in
    let kept = c.loop-at.kept in
    let i = c.loop-at.at in
    let r = c.index-as_slice-at.result in
    let left = c.in_ok-left.left in
    let low : i < length rows = grind (arith, common_steps) in
    let at : r ≡ get_or rows i r = grind (arith, common_steps) in
    let part = subst (λ (s : System). IsPart c.args.pass (IsAmong s.columns contexts) s.rows r left) c.in_ok-others.ensures
    c.in_ok-left.ensures.exact in
    record {
      swept = subst (λ (l : List Row). IsSwept c.args.pass P rows l (i + 1)) (sym c.in_ok-append.ensures)
          (swept_more c.args.pass P rows kept i c.loop-at.invariant.swept r low at left part);
      charged = IsCharged_trans c.args.meter.now c.loop-at.meter c.part.new.meter c.loop-at.invariant.charged c.in_ok-left.ensures.meter;
    }

pub returns-clause-plain : goal.returns-clause-plain
returns-clause-plain c =
    let g = c.args.meter.now in
    let n = c.args.system.now.columns in
    let P = IsAmong n (map (λ o. o.now) c.args.contexts.now) in
    let rows = c.args.system.now.rows in
    let kept = c.loop-at.kept in
    subst (IsPlain g n) (sym c.from_rows.ensures)
    (plain_over g n kept (kept_over c.args.pass P rows kept c.loop-at.at c.loop-at.invariant.swept g n c.requires.system.rows))
