use Rattle.std.proofs.Common.{◌≡◌, ◌++◌, ◌∙◌, List, ℤ, ap, sym, arith, refl}
use Rattle.isl_points.specs.Flat.{laid_out}
use Rattle.isl_points.specs.Level.{behind}
use Rattle.isl_points.proofs.FlatLaws.{laid_out-append}
use Rattle.isl_points.proofs.level.lengthen.Goals as goal

pub returns : goal.returns
returns c = λ lists laid.
    let prefix = c.args.prefix.now in
    let numbers = c.in_ok-room.room.numbers.items in
    let pushed : c.push_each.new.longer.items ≡ c.args.longer.now.items ++ laid_out (behind prefix numbers) = grind arith in (
      lists ++ behind prefix numbers,
      record { numbers = numbers; listed = c.in_ok-room.ensures.exact; pushed = refl },
      pushed ∙ ap (λ (l : List ℤ). l ++ laid_out (behind prefix numbers)) laid ∙ sym (laid_out-append lists (behind prefix numbers)),
    )
