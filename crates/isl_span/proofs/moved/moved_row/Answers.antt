use Rattle.std.proofs.Common.{ap, arith, subst, sym}
use Rattle.std.specs.List.{All}
use Rattle.std.proofs.lemmas.Result.{err_from_is_err_and}
use Rattle.isl_meter.specs.Gauge.{Gauge, IsWithin}
use Rattle.isl_piece.specs.Row.{IsRowWithin}
use Rattle.isl_difference.proofs.TameLaws.{tame_memory, tame_ok}
use Rattle.isl_span.proofs.WorkLaws.{moved_within}
use Rattle.isl_span.proofs.moved.moved_row.Goals as goal

pub get-requires : goal.get-requires
get-requires c = let wide = c.requires.formed.width in omega (arith, wide)

pub returns-clause-within : goal.returns-clause-within
returns-clause-within c =
    let g = c.args.meter.now in
    subst (IsRowWithin g) (sym c.new.ensures) (record {
      coefs = subst (All (IsWithin g)) (sym c.in_ok-coefs.ensures) c.requires.within.coefs;
      constant = c.in_ok-constant.ensures.1;
      k = subst (IsWithin g) (sym c.modulus.ensures) c.requires.within.k;
    })

-- ---- of difference constraints
pub returns-in_err-constant-clause-tame : goal.returns-in_err-constant-clause-tame
returns-in_err-constant-clause-tame c = λ bits limit room d.
    let wide = c.requires.formed.width in
    let within = moved_within c.args.meter.now bits c.args.column c.args.row.now limit room d (omega (arith, wide)) in
    absurd (c.in_err-constant.ensures.0 (rw (c.constant.ensures, c.get.ensures) within))

pub returns-in_err-coefs-clause-tame : goal.returns-in_err-coefs-clause-tame
returns-in_err-coefs-clause-tame c = λ bits limit room d.
    let same = ap (λ (x : Gauge). x.units) c.in_ok-constant.ensures.2 in
    let p = err_from_is_err_and c.from_residual-in_err-coefs.result c.from_residual-in_err-coefs.ensures.1 in
    rw (p.1, p.2) (tame_memory 0 0 c.args.meter.now c.add.new.meter _ (omega (arith, same)) (omega arith))

pub returns-clause-tame : goal.returns-clause-tame
returns-clause-tame c = λ bits limit room d.
    let same = ap (λ (x : Gauge). x.units) c.in_ok-constant.ensures.2 in
    tame_ok 0 c.args.meter.now c.add.new.meter _ _ (omega (arith, same)) tt
