use Rattle.std.proofs.Common.{◌/◌, length, arith, subst}
use Rattle.std.proofs.lemmas.Grind.{common_steps}
use Rattle.isl_scan.specs.Gathered.{AreGathered}
use Rattle.isl_scan.proofs.GatheredLaws.{IsOverPiece, fibres_cut, fibres_later, gathered_both, zip_long}
use Rattle.isl_scan.proofs.elements.+groups_of.Goals as goal

pub split_at-requires-in_default : goal.split_at-requires-in_default
split_at-requires-in_default t c =
    let long = zip_long (IsOverPiece c.args.meter.now c.requires.0) c.args.pieces.now c.args.fibres.now c.requires.1.each in
    omega (arith, long)

pub groups_of-requires : goal.groups_of-requires
groups_of-requires t c =
    let cut = fibres_cut c.args.meter.now c.requires.0 c.args.pieces.now c.args.fibres.now (length c.args.pieces.now / 2)
    c.split_at.result.0.now c.split_at-in_default.result.0.now c.split_at.result.1.now c.split_at-in_default.result.1.now
    c.split_at.ensures.front c.split_at-in_default.ensures.front c.split_at.ensures.back c.split_at-in_default.ensures.back c.requires.1 in
    (grind (arith, common_steps), (c.requires.0, cut.0))

pub groups_of-requires-in_default : goal.groups_of-requires-in_default
groups_of-requires-in_default t c =
    let g = c.args.meter.now in
    let h = c.groups_of.new.meter in
    let cut = fibres_cut g c.requires.0 c.args.pieces.now c.args.fibres.now (length c.args.pieces.now / 2)
    c.split_at.result.0.now c.split_at-in_default.result.0.now c.split_at.result.1.now c.split_at-in_default.result.1.now
    c.split_at.ensures.front c.split_at-in_default.ensures.front c.split_at.ensures.back c.split_at-in_default.ensures.back c.requires.1 in (
      grind (arith, common_steps),
      (
        c.requires.0,
        fibres_later g h c.requires.0 c.split_at.result.1.now
            c.split_at-in_default.result.1.now c.in_ok-firsts-in_default.ensures.meter cut.1,
      ),
    )

pub returns-in_ok-merged_groups-in_default-clause-exact : goal.returns-in_ok-merged_groups-in_default-clause-exact
returns-in_ok-merged_groups-in_default-clause-exact t c = λ numbers are.
    let g = c.args.meter.now in
    let h = c.groups_of.new.meter in
    let pieces = c.args.pieces.now in
    let half = length c.args.pieces.now / 2 in
    let firsts = c.in_ok-firsts-in_default.firsts.items in
    let seconds = c.in_ok-seconds-in_default.seconds.items in
    let groups = c.in_ok-merged_groups-in_default.field-0.items in
    let cut = fibres_cut g numbers pieces c.args.fibres.now half
    c.split_at.result.0.now c.split_at-in_default.result.0.now c.split_at.result.1.now c.split_at-in_default.result.1.now
    c.split_at.ensures.front c.split_at-in_default.ensures.front c.split_at.ensures.back c.split_at-in_default.ensures.back are in
    let later = fibres_later g h numbers c.split_at.result.1.now c.split_at-in_default.result.1.now
    c.in_ok-firsts-in_default.ensures.meter cut.1 in
    let front = subst (λ ps. AreGathered numbers ps firsts) c.split_at.ensures.front (c.in_ok-firsts-in_default.ensures.exact numbers cut.0) in
    let back = subst (λ ps. AreGathered numbers ps seconds) c.split_at.ensures.back (c.in_ok-seconds-in_default.ensures.exact numbers later) in
    gathered_both numbers pieces half firsts seconds groups front back c.in_ok-merged_groups-in_default.ensures
