use Rattle.std.proofs.Common.{◌≡◌, ◌↔◌, ℤ, [], ◌∷◌, ◌++◌, arith, subst}
use Rattle.isl_meter.specs.Gauge.{Gauge, IsCutBy}
use Rattle.isl_piece.specs.System.{HoldRows, HoldsSystem}
use Rattle.isl_tower.specs.Numbers.{system_at}
use Rattle.isl_points.specs.Line.{IsListing}
use Rattle.isl_points.proofs.PrefixLaws.{at_prefix, left_ended, same_listing, same_result}
use Rattle.isl_points.proofs.RowLaws.{rows_proper}
use Rattle.isl_points.proofs.level.numbers_of.Goals as goal

pub on_rows-requires-clause-rows : goal.on_rows-requires-clause-rows
on_rows-requires-clause-rows c =
    let g = c.args.meter.now in
    let s = c.args.system.now in
    let prefix = c.args.prefix.now in
    let rs = c.in_ok-rows.rows.items in
    let same : c.rows_behind.new.meter ≡ g = grind arith in
    let rows : rs ≡ (system_at prefix s).rows = grind arith in
    rw same (rows_proper g s prefix rs c.requires.well_formed c.requires.plain c.requires.columns rows c.in_ok-rows.ensures.1)

pub on_rows-requires-clause-ended : goal.on_rows-requires-clause-ended
on_rows-requires-clause-ended c =
    let s = c.args.system.now in
    let prefix = c.args.prefix.now in
    let rs = c.in_ok-rows.rows.items in
    let rows : rs ≡ (system_at prefix s).rows = grind arith in
    left_ended c.args.meter.now s prefix rs c.requires.well_formed c.requires.plain c.requires.columns c.requires.ended rows

pub returns : goal.returns
returns c =
    let g = c.args.meter.now in
    let h = c.rows_behind.new.meter in
    let k = c.on_rows.new.meter in
    let s = c.args.system.now in
    let prefix = c.args.prefix.now in
    let rs = c.in_ok-rows.rows.items in
    let P : ℤ → Type 0 = λ x. HoldRows rs (x ∷ []) in
    let Q : ℤ → Type 0 = λ x. HoldsSystem s (prefix ++ x ∷ []) in
    let same : h ≡ g = grind arith in
    let rows : rs ≡ (system_at prefix s).rows = grind arith in
    let both : (x : ℤ) → P x ↔ Q x =
    λ x. at_prefix g s prefix rs x c.requires.well_formed c.requires.plain c.requires.columns rows in
    record {
      exact = same_result c.on_rows.result (λ found. IsListing h k P found.numbers.items) (λ found. IsListing g k Q found.numbers.items)
          (IsCutBy h k) (IsCutBy g k) (λ found l. same_listing g h k P Q found.numbers.items same both l)
          (λ cut b. subst (λ (m : Gauge). IsCutBy m k cut) same b) c.on_rows.ensures;
    }
