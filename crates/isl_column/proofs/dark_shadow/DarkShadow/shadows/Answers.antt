use Rattle.std.proofs.Common.{◌≡◌, pos, length, map, ◌*◌, arith, ◌^◌, ap, ◌∙◌, lit≤}
use Rattle.std.specs.List.{All}
use Rattle.std.proofs.lemmas.List.{length-map}
use Rattle.isl_piece.specs.Row.{IsRowWithin, IsRowUpTo}
use Rattle.isl_shadows.specs.Splinters.{shifted_row}
use Rattle.isl_omega.specs.Shadow.{IsShadow}
use Rattle.isl_piece.proofs.RowMagnitudes.{rows_more}
use Rattle.isl_shadows.proofs.DarkShadowLemmas.{shifted_upper, shifted_none}
use Rattle.std.proofs.lemmas.Result.{err_from_is_err_and}
use Rattle.isl_meter.specs.Gauge.{Gauge}
use Rattle.isl_omega.specs.Units.{paid}
use Rattle.isl_shadows.proofs.SmallSplinters.{all_shifted}
use Rattle.isl_column.proofs.dark_shadow.DarkShadow.shadows.Goals as goal

pub returns-clause-exact : goal.returns-clause-exact
returns-clause-exact c =
    let sides = c.args.sides.now in
    let g = c.args.meter.now in
    let uppers = map (shifted_row c.args.neighbours c.args.column.at) sides.uppers in
    let same : c.in_ok-shifted.shifted ≡ uppers = grind arith in
    let within : All (IsRowWithin g) c.in_ok-shifted.shifted = grind arith in
    let shadow : IsShadow g c.args.column.columns c.args.column.at c.args.neighbours sides.lowers c.in_ok-shifted.shifted c.in_ok-pair-2.pair.0 c.in_ok-pair-2.pair.1.items = grind arith in
    let meter : c.shifted.new.meter ≡ g = grind arith in
    let exact : c.shadow-2.new.meter ≡ paid (length sides.lowers * length c.in_ok-shifted.shifted) c.shifted.new.meter = grind arith in
    let n : length uppers ≡ length sides.uppers = length-map sides.uppers (shifted_row c.args.neighbours c.args.column.at) in (
      record { uppers = shifted_upper g c.args.column.columns c.args.neighbours c.args.column.at sides.uppers c.requires.sided.uppers (rw same at within); shadow = rw same at shadow },
      rw (same, n, meter) at exact,
    )

pub returns-then-is_zero-clause-exact : goal.returns-then-is_zero-clause-exact
returns-then-is_zero-clause-exact c =
    let sides = c.args.sides.now in
    let g = c.args.meter.now in
    let zero : c.args.neighbours ≡ pos 0 = grind arith in
    let same : map (shifted_row c.args.neighbours c.args.column.at) sides.uppers ≡ sides.uppers = rw zero (shifted_none c.args.column.at sides.uppers) in
    let shadow : IsShadow g c.args.column.columns c.args.column.at c.args.neighbours sides.lowers sides.uppers c.in_ok-pair.pair.0 c.in_ok-pair.pair.1.items = grind arith in
    (record { uppers = rw same c.requires.sided.uppers; shadow = rw same shadow }, grind arith)

pub shadow-requires-2-clause-uppers : goal.shadow-requires-2-clause-uppers
shadow-requires-2-clause-uppers c =
    let sides = c.args.sides.now in
    let g = c.args.meter.now in
    let uppers = map (shifted_row c.args.neighbours c.args.column.at) sides.uppers in
    let same : c.as_slice-3.result.now ≡ uppers = grind arith in
    let meter : c.shifted.new.meter ≡ g = grind arith in
    let within : All (IsRowWithin g) c.as_slice-3.result.now = grind arith in
    rw (same, meter) (shifted_upper g c.args.column.columns c.args.neighbours c.args.column.at sides.uppers c.requires.sided.uppers (rw same at within))

pub returns-in_err-pair-2-clause-no_overflow : goal.returns-in_err-pair-2-clause-no_overflow
returns-in_err-pair-2-clause-no_overflow c = λ bits small one.
    let sides = c.args.sides.now in
    let g = c.args.meter.now in
    let meter : c.shifted.new.meter ≡ g = grind arith in
    let lowers : c.as_slice-lowers.result.now ≡ sides.lowers = grind arith in
    let uppers : c.as_slice-3.result.now ≡ map (shifted_row c.args.neighbours c.args.column.at) sides.uppers = grind arith in
    let low : All (IsRowUpTo (2 ^ 62)) c.as_slice-lowers.result.now = rw lowers (rows_more (2 ^ 61) (2 ^ 62) sides.lowers (lit≤ tt) small.lowers) in
    let up : All (IsRowUpTo (2 ^ 62)) c.as_slice-3.result.now = rw uppers (all_shifted c.args.neighbours c.args.column.at sides.uppers one small.uppers) in
    let p = err_from_is_err_and c.from_residual-in_err-pair-2.result c.from_residual-in_err-pair-2.ensures.1 in
    rw (p.1, p.2) (c.in_err-pair-2.ensures.no_overflow (ap (λ (x : Gauge). x.bits) meter ∙ bits) low up one)
