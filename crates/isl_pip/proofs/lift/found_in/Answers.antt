use Rattle.std.proofs.Common.{◌≡◌, ◌<◌, inl, inr, sym, subst, arith, List, Option, length}
use Rattle.std.specs.Prelude.{IfSome}
use Rattle.isl_piece.specs.declared.row.Row.{Row}
use Rattle.isl_piece.specs.Row.{IsRowWithin, IsWellFormed}
use Rattle.isl_pip.specs.Lift.{IsAnchor}
use Rattle.isl_pip.proofs.LevelLaws.{one_of}
use Rattle.isl_pip.proofs.lift.found_in.Goals as goal

pub congruence_of-requires : goal.congruence_of-requires
congruence_of-requires c =
    let rows = c.args.rows.now in
    let i = c.loop-row.row-index in
    let row = c.row-item.result in
    let inside : i < length rows = omega arith in
    let formed = one_of (IsWellFormed c.args.columns) rows i row inside c.row-item.is c.requires.formed in
    let wide = sym formed.width in
    record {
      formed = subst (λ n. IsWellFormed n row) wide formed;
      within = one_of (IsRowWithin c.args.meter.now) rows i row inside c.row-item.is c.requires.within;
      inside = subst (λ n. c.args.column < n) wide c.requires.inside;
    }

pub loop-row-preserved : goal.loop-row-preserved
loop-row-preserved c =
    let g = c.args.meter.now in
    let rows = c.args.rows.now in
    let i = c.loop-row.row-index in
    let row = c.row-item.result in
    let inside : i < length rows = omega arith in
    let formed = one_of (IsWellFormed c.args.columns) rows i row inside c.row-item.is c.requires.formed in
    let other = subst (λ n. IfSome c.in_ok-other.other (IsAnchor g n c.args.column)) formed.width c.in_ok-other.ensures in
    elim c.greater-found.ensures [
      | inl first ↦ subst (λ (o : Option Row). IfSome o (IsAnchor g c.args.columns c.args.column)) (sym first) c.loop-row.invariant
      | inr second ↦ subst (λ (o : Option Row). IfSome o (IsAnchor g c.args.columns c.args.column)) (sym second) other
    ]
