use Rattle.std.proofs.Common.{◌≡◌, ◌≢◌, ◌∙◌, ◌+◌, ◌-◌, ◌++◌, ◌∷◌, [], ◌<◌, ◌≤◌, ◌^◌, ◌+ℤ◌, ◌-ℤ◌, ◌<ℤ◌, refl, sym, ap, subst, arith, ℕ, ℤ, pos, negsuc, neg_ℤ, Bool, true, false, List, drop, length, get_or, map, replicate, take, to_z, of_z, to_z-of_z}
use Rattle.std.specs.Int.{w128}
use Rattle.std.specs.List.{All}
use Rattle.std.proofs.lemmas.Grind.{common_steps}
use Rattle.isl_meter.specs.Gauge.{Gauge, IsCharged, IsWithin}
use Rattle.std.specs.List.{Any}
use Rattle.isl_meter.proofs.LimitLemmas.{IsWithin-zero}
use Rattle.isl_piece.specs.declared.row.Row.{Row}
use Rattle.isl_piece.specs.Row.{IsWellFormed}
use Rattle.isl_pip.specs.Lift.{AreMoved, HaveLink, IsAnchor}
use Rattle.isl_pip.proofs.LiftedLaws.{system_lifted, IsIt}
use Rattle.isl_pip.proofs.lift.lifted.Goals as goal

pub link_rows-requires : goal.link_rows-requires
link_rows-requires c =
    record {
      anchor = subst (λ n. IsAnchor c.args.meter.now n c.args.column c.args.anchor.now) (sym c.requires.anchor.formed.width) c.requires.anchor;
    }

pub push_moved-requires : goal.push_moved-requires
push_moved-requires c =
    let a = c.requires.anchor in
    let w = a.formed.width in
    let i = a.inside in
    let own = subst (λ (rs : List Row). All (IsWellFormed c.args.system.now.columns) rs) (sym c.as_slice-own.ensures) c.requires.within.rows in
    record {
      inside = omega (arith, w, i);
      formed = subst (λ n. All (IsWellFormed n) c.as_slice-own.result.now) (c.requires.columns ∙ sym w) own;
    }

pub returns : goal.returns
returns c =
    let g = c.args.meter.now in
    let s = c.args.system.now in
    let r = c.args.anchor.now in
    let link = c.in_ok-rows.rows in
    let told = c.in_ok-rows.ensures in
    let moved = subst (λ (rs : List Row). AreMoved c.args.column r rs link c.push_moved.new.made) c.as_slice-own.ensures c.in_ok-push_moved.ensures in (
      system_lifted g c.args.columns c.args.column r s c.from_rows.result c.has_row.result link c.push_moved.new.made c.requires.anchor (IsWithin-zero g)
          c.requires.within c.requires.plain c.requires.columns (grind (arith, common_steps)) (grind (arith, common_steps)) told.0 moved c.from_rows.ensures,
      told.1,
    )
