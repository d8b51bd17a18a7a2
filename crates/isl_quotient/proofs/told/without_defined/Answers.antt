use Rattle.std.proofs.Common.{◌≡◌, ◌≢◌, ◌<◌, ◌++◌, [], arith, length, ℕ}
use Rattle.std.specs.Prelude.{AllPairs, IfSome}
use Rattle.std.specs.List.{range_with_len}
use Rattle.std.proofs.lemmas.List.Elements.{All-nil}
use Rattle.std.proofs.lemmas.Result.{IfOk-weaker}
use Rattle.isl_piece.specs.System.{IsSystemWithin, free_columns}
use Rattle.isl_quotient.specs.Opened.{opened_system}
use Rattle.isl_quotient.specs.Told.{IsPlainLeft, IsPlainOf}
use Rattle.isl_quotient.proofs.OpeningLaws.{all_columns}
use Rattle.isl_quotient.proofs.ToldLaws.{none_distinct, plain_of}
use Rattle.isl_quotient.proofs.told.without_defined.Goals as goal

pub without_given-requires : goal.without_given-requires
without_given-requires c =
    let g = c.args.meter.now in
    let s = c.args.system.now in
    let whole : c.in_ok-whole.whole ≡ opened_system s = grind arith in
    let same : c.opened.new.meter ≡ g = grind arith in
    let within : IsSystemWithin g c.in_ok-whole.whole = grind arith in
    let all : c.as_slice.result.now ≡ [] ++ range_with_len (free_columns s) (length s.definitions) = grind arith in
    let columns = all_columns g s c.in_ok-whole.whole [] c.as_slice.result.now c.requires.well_formed whole all none_distinct
    (All-nil (λ (col : ℕ). col < free_columns s)) in
    record {
      well_formed = rw same within;
      distinct = columns.0;
      cols_in = columns.1;
      plain = grind arith;
    }

pub returns-clause-left : goal.returns-clause-left
returns-clause-left c =
    let g = c.args.meter.now in
    let s = c.args.system.now in
    let whole = c.in_ok-whole.whole in
    let is : whole ≡ opened_system s = grind arith in
    let same : c.opened.new.meter ≡ g = grind arith in
    let all : c.as_slice.result.now ≡ [] ++ range_with_len (free_columns s) (length s.definitions) = grind arith in
    IfOk-weaker c.without_given.result (λ found. IfSome found (IsPlainLeft g whole c.as_slice.result.now))
    (λ found. IfSome found (IsPlainOf g s))
    (λ found left. plain_of g s whole c.as_slice.result.now c.requires.well_formed is all found left)
    (rw same at c.without_given.ensures.left)
