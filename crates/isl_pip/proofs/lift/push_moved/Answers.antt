use Rattle.std.proofs.Common.{◌≡◌, ◌≢◌, ◌∙◌, ◌+◌, ◌-◌, ◌++◌, ◌∷◌, [], ◌<◌, ◌≤◌, ◌^◌, ◌+ℤ◌, ◌-ℤ◌, ◌<ℤ◌, refl, sym, ap, subst, arith, ℕ, ℤ, pos, negsuc, neg_ℤ, Bool, true, false, List, drop, length, get_or, map, replicate, take, to_z, of_z, to_z-of_z}
use Rattle.std.specs.Int.{w128}
use Rattle.std.specs.List.{All}
use Rattle.std.proofs.lemmas.Bool.{false≢true}
use Rattle.std.proofs.lemmas.Grind.{common_steps}
use Rattle.isl_meter.specs.Gauge.{Gauge, IsCharged, IsWithin}
use Rattle.std.specs.List.{insert}
use Rattle.isl_piece.specs.Row.{IsRowWithin, IsWellFormed}
use Rattle.isl_pip.proofs.LevelLaws.{one_of}
use Rattle.isl_pip.proofs.LiftedLaws.{inserted_within, moved_all, moved_more, moved_none, moved_skip}
use Rattle.isl_pip.proofs.lift.push_moved.Goals as goal

pub loop-row-init : goal.loop-row-init
loop-row-init c = moved_none c.args.column c.args.anchor.now c.args.rows.now c.args.made.now

pub inserted-requires : goal.inserted-requires
inserted-requires c =
    let rows = c.args.rows.now in
    let inside : c.loop-row.row-index < length rows = omega arith in
    let w = (one_of (IsWellFormed (length c.args.anchor.now.coefs)) rows c.loop-row.row-index c.row-item.result inside c.row-item.is c.requires.formed).width in
    let i = c.requires.inside in
    grind (arith, common_steps, w, i)

pub loop-row-preserved-then-is_same_row : goal.loop-row-preserved-then-is_same_row
loop-row-preserved-then-is_same_row c =
    let rows = c.args.rows.now in
    let inside : c.loop-row.row-index < length rows = omega arith in
    let same : c.row-item.result ≡ c.args.anchor.now = c.is_same_row.ensures.0 c.if-is_same_row.true in
    moved_skip c.args.column c.args.anchor.now rows c.loop-row.row-index c.row-item.result c.args.made.now c.loop-row.made inside c.row-item.is same
    c.loop-row.invariant

pub loop-row-preserved : goal.loop-row-preserved
loop-row-preserved c =
    let rows = c.args.rows.now in
    let s = c.row-item.result in
    let inside : c.loop-row.row-index < length rows = omega arith in
    let other : s ≢ c.args.anchor.now = λ same. false≢true (sym c.if-is_same_row.false ∙ c.is_same_row.ensures.1 same) in
    let formed = one_of (IsWellFormed (length c.args.anchor.now.coefs)) rows c.loop-row.row-index s inside c.row-item.is c.requires.formed in
    let coefs : c.in_ok-coefs.coefs ≡ insert s.coefs c.args.column (pos 0) = grind (arith, common_steps) in
    moved_more c.args.column c.args.anchor.now rows c.loop-row.row-index s c.new-wider.result c.in_ok-coefs.coefs c.args.made.now c.loop-row.made c.push.new.self
    inside c.row-item.is other formed c.requires.inside coefs (grind (arith, common_steps)) (grind (arith, common_steps))
    (λ g none within. inserted_within g s.coefs c.args.column (pos 0) within.coefs none) c.loop-row.invariant

pub returns : goal.returns
returns c =
    let end : length c.args.rows.now ≤ c.loop-row.row-index = omega arith in
    moved_all c.args.column c.args.anchor.now c.args.rows.now c.loop-row.row-index c.args.made.now c.loop-row.made end c.loop-row.invariant
