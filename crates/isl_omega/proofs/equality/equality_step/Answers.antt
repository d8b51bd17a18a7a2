use Rattle.std.proofs.Common.{◌≡◌, ◌∙◌, ◌-◌, ap, arith}
use Rattle.std.specs.List.{All}
use Rattle.isl_piece.specs.Row.{IsWellFormed}
use Rattle.isl_piece.specs.Normal.{normal_rows}
use Rattle.isl_omega.specs.Equality.{short_images_of}
use Rattle.isl_omega.proofs.ColumnLemmas.{moduli_of}
use Rattle.isl_omega.proofs.ShortImages.{short_formed, short_normal, short_step_is}
use Rattle.isl_omega.proofs.equality.equality_step.Goals as goal

pub normalise-requires-clause-moduli : goal.normalise-requires-clause-moduli
normalise-requires-clause-moduli c =
    let made : c.in_ok-short.short ≡ short_images_of c.args.fixed.now c.args.column.at c.args.rows.now = grind arith in
    let formed = short_formed c.args.column.columns c.args.fixed.now c.args.column.at c.args.rows.now c.requires.occurs c.requires.rows_formed c.requires.fixed_formed c.args.column.in_range in
    rw made (moduli_of (c.args.column.columns - 1) (short_images_of c.args.fixed.now c.args.column.at c.args.rows.now) formed)

pub returns-clause-exact : goal.returns-clause-exact
returns-clause-exact c =
    let made : c.in_ok-short.short ≡ short_images_of c.args.fixed.now c.args.column.at c.args.rows.now = grind arith in
    let formed = short_formed c.args.column.columns c.args.fixed.now c.args.column.at c.args.rows.now c.requires.occurs c.requires.rows_formed c.requires.fixed_formed c.args.column.in_range in
    let same : c.images_without.new.meter ≡ c.args.meter.now = grind arith in
    let shape : All (IsWellFormed (c.args.column.columns - 1)) c.in_ok-short.short = rw made formed in (
      short_step_is c.args.meter.now c.args.column.columns c.args.fixed.now c.args.column.at c.args.rows.now c.in_ok-short.short c.in_ok-left.left
          c.requires.occurs c.requires.rows_formed c.requires.fixed_formed c.args.column.in_range made c.in_ok-left.ensures.points c.in_ok-left.ensures.normal
          (c.in_ok-left.ensures.shape (c.args.column.columns - 1) shape) (rw same at c.in_ok-left.ensures.within),
      grind arith,
    )

pub returns-clause-function : goal.returns-clause-function
returns-clause-function c =
    let made : c.in_ok-short.short ≡ short_images_of c.args.fixed.now c.args.column.at c.args.rows.now = grind arith in
    let normal : c.in_ok-left.left ≡ normal_rows c.in_ok-short.short = grind arith in
    normal ∙ ap normal_rows made ∙ short_normal c.args.fixed.now c.args.column.at c.args.rows.now
