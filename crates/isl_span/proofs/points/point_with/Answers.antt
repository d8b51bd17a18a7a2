use Rattle.std.proofs.Common.{◌↔◌, ◌∙◌, ◌∷◌, [], MatchOption, subst, sym}
use Rattle.std.proofs.lemmas.Result.{IfOk-weaker}
use Rattle.isl_piece.specs.declared.system.System.{System}
use Rattle.isl_piece.specs.System.{HoldsSystem, IsSystemWithin, free_columns}
use Rattle.isl_elim.specs.Sample.{IsNowhere, IsSample}
use Rattle.isl_span.proofs.PointLaws.{HoldsBeside, both_hold, found_of, only_within}
use Rattle.isl_span.proofs.points.point_with.Goals as goal

pub sample_point-requires : goal.sample_point-requires
sample_point-requires c =
    let g = c.args.meter.now in
    let only = subst (IsSystemWithin g) (sym c.in_ok-only.ensures)
    (only_within g c.args.columns c.args.row.now c.requires.formed c.requires.within) in
    record { well_formed = c.in_ok-both.ensures.within g c.requires.system.within only }

pub returns-clause-exact : goal.returns-clause-exact
returns-clause-exact c =
    let g = c.args.meter.now in
    let n = c.args.columns in
    let system = c.args.system.now in
    let row = c.args.row.now in
    let both = c.in_ok-both.both in
    let alone : System = record { columns = n; definitions = []; rows = row ∷ [] } in
    let only = subst (IsSystemWithin g) (sym c.in_ok-only.ensures) (only_within g n row c.requires.formed c.requires.within) in
    let free = c.in_ok-both.ensures.free g c.requires.system.within only ∙ c.requires.system.free in
    IfOk-weaker c.sample_point.result
    (λ found. MatchOption found (IsNowhere (free_columns both) (HoldsSystem both))
    (λ point. IsSample g (free_columns both) (HoldsSystem both) point.items))
    (λ found. MatchOption found (IsNowhere n (HoldsBeside system row)) (λ point. IsSample g n (HoldsBeside system row) point.items))
    (λ found h. found_of (λ point. point.items) g (free_columns both) n (HoldsSystem both) (HoldsBeside system row) free
    (λ point long. both_hold n system both row point
    (subst (λ (s : System). HoldsSystem both point ↔ (HoldsSystem system point × HoldsSystem s point)) c.in_ok-only.ensures
    (c.in_ok-both.ensures.points g point c.requires.system.within only (long ∙ sym c.requires.system.free)))) found h)
    c.sample_point.ensures.exact
