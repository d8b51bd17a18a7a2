use Rattle.std.proofs.Common.{◌≡◌, ◌-ℤ◌, set, arith, ◌^◌, ◌≤◌, unsigned_abs}
use Rattle.isl_meter.specs.Gauge.{IsWithin}
use Rattle.isl_piece.specs.Row.{IsRowWithin, coef_at}
use Rattle.isl_omega.specs.Substitution.{AreProgressionParts, offsets_of}
use Rattle.isl_piece.proofs.RowLemmas.{HasModulus-positive}
use Rattle.isl_omega.proofs.SubstitutionLemmas.{offsets_wide, offsets_set, set_within, is_progression}
use Rattle.isl_omega.proofs.SmallSteps.{scale_up_to, offsets_up_to}
use Rattle.isl_omega.proofs.substitution.Substitution.of.Goals as goal

pub set-requires : goal.set-requires
set-requires c =
    let is : c.in_ok-row.row ≡ offsets_of c.parts-scale.result.1 c.args.one.now = grind arith in
    let wide = offsets_wide c.args.column.columns c.parts-scale.result.1 c.args.one.now c.in_ok-row.row c.requires.well_formed is in
    omega arith

pub returns-clause-exact : goal.returns-clause-exact
returns-clause-exact c =
    let one = c.args.one.now in
    let row = c.in_ok-row.row in
    let scale = c.parts-scale.result.0 in
    let factor = c.parts-scale.result.1 in
    let is : row ≡ offsets_of factor one = grind arith in
    let written : c.set.new.self ≡ set row.coefs c.args.column.at c.in_ok-sub.field-0 = grind arith in
    let number : c.in_ok-sub.field-0 ≡ one.k -ℤ scale = grind arith in
    let number_within : IsWithin c.args.meter.now c.in_ok-sub.field-0 = grind arith in
    let row_within : IsRowWithin c.args.meter.now row = grind arith in
    let are : AreProgressionParts (coef_at one c.args.column.at) one.k scale factor = grind arith in (
      (
        is_progression c.args.column.columns c.args.column.at one scale factor _ c.requires.kind c.requires.well_formed c.args.column.in_range are (offsets_set factor (one.k -ℤ scale) c.in_ok-sub.field-0 one row c.args.column.at c.set.new.self is written number),
        grind arith,
        set_within c.args.meter.now row c.args.column.at c.set.new.self c.in_ok-sub.field-0 row_within number_within written,
      ),
      grind arith,
    )

pub returns-clause-no_overflow : goal.returns-clause-no_overflow
returns-clause-no_overflow c = λ bits small.
    let one = c.args.one.now in
    let row = c.in_ok-row.row in
    let scale = c.parts-scale.result.0 in
    let factor = c.parts-scale.result.1 in
    let z = c.in_ok-sub.field-0 in
    let is : row ≡ offsets_of factor one = grind arith in
    let written : c.set.new.self ≡ set row.coefs c.args.column.at z = grind arith in
    let number : z ≡ one.k -ℤ scale = grind arith in
    let are : AreProgressionParts (coef_at one c.args.column.at) one.k scale factor = grind arith in
    let positive = HasModulus-positive one.kind one.k c.requires.well_formed.modulus in
    let sizes = scale_up_to (2 ^ 30) scale one.k are.positive positive are.modulus small.k in
    let last : unsigned_abs z ≤ 2 ^ 30 = rw number (sizes.1) in
    (sizes.0, offsets_up_to (2 ^ 30) factor one row c.args.column.at z c.set.new.self positive small.k last is written)
