use Rattle.std.proofs.Common.{◌≡◌, ◌<◌, sym, subst, List, length}
use Rattle.std.specs.List.{All}
use Rattle.isl_meter.specs.Gauge.{IsWithin}
use Rattle.isl_piece.specs.declared.row.Row.{Row}
use Rattle.isl_pip.specs.Lift.{IsAnchor}
use Rattle.isl_pip.proofs.lift.congruence_of.Goals as goal

pub returns-then-ends_at : goal.returns-then-ends_at
returns-then-ends_at c =
    let r = c.args.row.now in
    subst (IsAnchor c.args.meter.now (length r.coefs) c.args.column) (sym c.in_ok-same.ensures) (record {
      ends = c.ends_at.ensures.0 c.if-ends_at.true;
      formed = c.requires.formed;
      within = c.requires.within;
      inside = c.requires.inside;
    })

pub factor_behind-factor-requires : goal.factor_behind-factor-requires
factor_behind-factor-requires c = record {
  inside = subst (λ l. c.args.column < length l) (sym c.as_slice.ensures) c.requires.inside;
  within = subst (All (IsWithin c.args.meter.now)) (sym c.as_slice.ensures) c.requires.within.coefs;
}

pub cut_off-requires : goal.cut_off-requires
cut_off-requires c =
    let told = c.is_cut.ensures c.if-not-is_cut.false in
    record {
      formed = c.requires.formed;
      within = c.requires.within;
      inside = c.requires.inside;
      some = told.0;
      factor = (told.1, c.factor_behind-factor.ensures.within);
    }
