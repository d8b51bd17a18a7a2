use Rattle.std.proofs.Common.{◌≡◌, ◌∙◌, ◌+◌, sym, subst, arith}
use Rattle.std.proofs.lemmas.Grind.{common_steps}
use Rattle.isl_meter.specs.Gauge.{Gauge}
use Rattle.isl_piece.specs.declared.row.RowKind.TheVariants as kind
use Rattle.isl_piece.specs.Row.{IsWellFormed}
use Rattle.isl_greatest.specs.Parts.{PushesRow}
use Rattle.isl_greatest.proofs.PartsLaws.{pushed_halves, second_formed}
use Rattle.isl_greatest.proofs.case.Parts.add.Goals as goal

pub push-requires-3-clause-formed : goal.push-requires-3-clause-formed
push-requires-3-clause-formed c =
    subst (IsWellFormed (c.args.column + 1)) (sym c.in_ok-second.ensures.0) (second_formed (c.args.column + 1) c.args.row.now c.requires.formed)

pub returns : goal.returns
returns c =
    let g = c.args.meter.now in
    let zero : c.args.row.now.kind ≡ kind.Zero = grind (arith, common_steps) in
    let one = subst (λ (m : Gauge). PushesRow m c.args.column c.in_ok-first.first c.args.self.now c.push-2.new.self) c.in_ok-first.ensures.2
    c.in_ok-push-2.ensures in
    let meter : c.half-2.new.meter ≡ g = c.in_ok-second.ensures.2 ∙ c.in_ok-first.ensures.2 in
    let two = subst (λ (m : Gauge). PushesRow m c.args.column c.in_ok-second.second c.push-2.new.self c.push-3.new.self) meter c.in_ok-push-3.ensures in (
      pushed_halves g c.args.column c.args.row.now c.args.self.now c.push-2.new.self c.push-3.new.self c.in_ok-first.first c.in_ok-second.second zero
          c.in_ok-first.ensures.0 c.in_ok-second.ensures.0 one two,
      meter,
    )
