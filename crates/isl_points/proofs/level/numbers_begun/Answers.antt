use Rattle.std.proofs.Common.{◌≡◌, ◌↔◌, ℤ, [], ◌∷◌, ◌++◌, arith, length, subst}
use Rattle.isl_meter.specs.Gauge.{Gauge, IsCutBy}
use Rattle.isl_piece.specs.System.{HoldRows, HoldsSystem}
use Rattle.isl_tower.specs.Numbers.{system_at}
use Rattle.isl_points.specs.Line.{IsListing}
use Rattle.isl_points.specs.Shorn.{shorn}
use Rattle.isl_points.proofs.PrefixLaws.{at_prefix, left_ended, same_listing, same_result}
use Rattle.isl_points.proofs.RowLaws.{rows_proper}
use Rattle.isl_points.proofs.ShornLaws.{shorn_ended, shorn_holds, shorn_within}
use Rattle.isl_points.proofs.level.numbers_begun.Goals as goal

pub on_rows-requires-clause-rows : goal.on_rows-requires-clause-rows
on_rows-requires-clause-rows c =
    let g = c.args.meter.now in
    let s = c.args.system.now in
    let prefix = c.args.prefix.now in
    let n = length prefix in
    let rs = c.in_ok-rows.rows.items in
    let same : c.rows_behind_on.new.meter ≡ g = grind arith in
    let rows : rs ≡ (system_at prefix (shorn n s)).rows = grind arith in
    rw same (rows_proper g (shorn n s) prefix rs (shorn_within g s n c.requires.well_formed) c.requires.plain c.requires.columns rows
    c.in_ok-rows.ensures.1)

pub on_rows-requires-clause-ended : goal.on_rows-requires-clause-ended
on_rows-requires-clause-ended c =
    let g = c.args.meter.now in
    let s = c.args.system.now in
    let prefix = c.args.prefix.now in
    let n = length prefix in
    let rs = c.in_ok-rows.rows.items in
    let rows : rs ≡ (system_at prefix (shorn n s)).rows = grind arith in
    left_ended g (shorn n s) prefix rs (shorn_within g s n c.requires.well_formed) c.requires.plain c.requires.columns
    (shorn_ended s prefix c.requires.begun.0 c.requires.columns c.requires.ended c.requires.begun.1) rows

pub returns : goal.returns
returns c =
    let g = c.args.meter.now in
    let h = c.rows_behind_on.new.meter in
    let k = c.on_rows.new.meter in
    let s = c.args.system.now in
    let prefix = c.args.prefix.now in
    let n = length prefix in
    let rs = c.in_ok-rows.rows.items in
    let P : ℤ → Type 0 = λ x. HoldRows rs (x ∷ []) in
    let Q : ℤ → Type 0 = λ x. HoldsSystem s (prefix ++ x ∷ []) in
    let same : h ≡ g = grind arith in
    let rows : rs ≡ (system_at prefix (shorn n s)).rows = grind arith in
    let both : (x : ℤ) → P x ↔ Q x = λ x.
    let cut = at_prefix g (shorn n s) prefix rs x (shorn_within g s n c.requires.well_formed) c.requires.plain c.requires.columns rows in
    let own = shorn_holds g s prefix x c.requires.begun.0 c.requires.well_formed c.requires.plain c.requires.columns c.requires.begun.1 in
    ((λ m. own.0 (cut.0 m)), (λ m. cut.1 (own.1 m))) in
    record {
      exact = same_result c.on_rows.result (λ found. IsListing h k P found.numbers.items) (λ found. IsListing g k Q found.numbers.items)
          (IsCutBy h k) (IsCutBy g k) (λ found l. same_listing g h k P Q found.numbers.items same both l)
          (λ cut b. subst (λ (m : Gauge). IsCutBy m k cut) same b) c.on_rows.ensures;
    }
