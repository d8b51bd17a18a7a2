use Rattle.std.proofs.Common.{◌≡◌, ◌-◌, arith, map}
use Rattle.std.specs.List.{All}
use Rattle.isl_piece.specs.Row.{IsWellFormed}
use Rattle.isl_omega.specs.Column.{dropped}
use Rattle.isl_omega.proofs.ColumnLemmas.{rows_formed, rows_within, moduli_of, settled_is}
use Rattle.isl_omega.proofs.rows.settled.Goals as goal

pub normalise-requires-clause-moduli : goal.normalise-requires-clause-moduli
normalise-requires-clause-moduli c =
    let e : c.in_ok-short.short ≡ map (λ r. dropped r c.args.column.at) c.args.rows.now = grind arith in
    rw e (moduli_of (c.args.column.columns - 1) (map (λ r. dropped r c.args.column.at) c.args.rows.now) (rows_formed c.args.column.columns c.args.column.at c.args.rows.now c.args.column.in_range c.requires.well_formed))

pub normalise-requires-clause-within : goal.normalise-requires-clause-within
normalise-requires-clause-within c =
    let e : c.in_ok-short.short ≡ map (λ r. dropped r c.args.column.at) c.args.rows.now = grind arith in
    rw e (rows_within c.args.meter.now c.args.column.at c.args.rows.now c.requires.within)

pub returns-clause-exact : goal.returns-clause-exact
returns-clause-exact c =
    let e : c.in_ok-short.short ≡ map (λ r. dropped r c.args.column.at) c.args.rows.now = grind arith in
    let formed : All (IsWellFormed (c.args.column.columns - 1)) c.in_ok-short.short = rw e (rows_formed c.args.column.columns c.args.column.at c.args.rows.now c.args.column.in_range c.requires.well_formed) in (
      settled_is c.args.meter.now c.args.column.columns c.args.column.at c.args.rows.now c.in_ok-short.short c.in_ok-normalise.field-0 c.args.column.in_range c.requires.well_formed c.requires.free e c.in_ok-normalise.ensures.points c.in_ok-normalise.ensures.normal (c.in_ok-normalise.ensures.shape (c.args.column.columns - 1) formed) c.in_ok-normalise.ensures.within,
      grind arith,
    )
