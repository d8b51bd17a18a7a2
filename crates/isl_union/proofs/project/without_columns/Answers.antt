use Rattle.std.proofs.Common.{◌≡◌, ◌≢◌, ◌∙◌, sym, ap, arith, subst, ◌+◌, ◌*◌, ◌-◌, ◌<◌, ℕ, List, length}
use Rattle.std.specs.Prelude.{AllPairs}
use Rattle.std.specs.List.{All, range_with_len}
use Rattle.std.proofs.lemmas.List.FromFn.{length-range_with_len}
use Rattle.std.proofs.lemmas.Result.{err_from_is_err_and}
use Rattle.isl_piece.specs.System.{free_columns}
use Rattle.isl_ledger.specs.Answered.{IsTame}
use Rattle.isl_ledger.specs.Work.{AreOfSize, drop_size}
use Rattle.isl_ledger.proofs.SizeLaws.{differences_of}
use Rattle.isl_difference.proofs.TameLaws.{tame_memory}
use Rattle.isl_union.specs.Tame.{size_of}
use Rattle.isl_elim.proofs.RangeLaws.{range_below, range_distinct}
use Rattle.isl_union.proofs.project.without_columns.Goals as goal

pub eliminate_all-requires-clause-distinct : goal.eliminate_all-requires-clause-distinct
eliminate_all-requires-clause-distinct c =
    let first = c.args.first in
    let count = c.args.count in
    let width : first + count - first ≡ count = omega arith in
    subst (λ (cols : List ℕ). AllPairs (λ a b. a ≢ b) cols)
    (sym (c.as_slice.ensures.value ∙ c.in_ok-cols.ensures ∙ ap (range_with_len first) width)) (range_distinct first count)

pub eliminate_all-requires-clause-cols_in : goal.eliminate_all-requires-clause-cols_in
eliminate_all-requires-clause-cols_in c =
    let first = c.args.first in
    let count = c.args.count in
    let width : first + count - first ≡ count = omega arith in
    subst (λ (cols : List ℕ). All (λ col. col < free_columns c.args.system.now) cols)
    (sym (c.as_slice.ensures.value ∙ c.in_ok-cols.ensures ∙ ap (range_with_len first) width))
    (range_below first count (free_columns c.args.system.now) c.requires.inside)

-- ---- of difference constraints
pub returns-in_err-cols-clause-tame : goal.returns-in_err-cols-clause-tame
returns-in_err-cols-clause-tame c = λ columns bits limit room d.
    let p = err_from_is_err_and c.from_residual.result c.from_residual.ensures.1 in
    rw (p.1, p.2) (tame_memory 0 _ c.args.meter.now c.args.meter.now _ (omega arith) (omega arith))

pub returns-clause-tame : goal.returns-clause-tame
returns-clause-tame c = λ columns bits limit room d.
    let first = c.args.first in
    let count = c.args.count in
    let width : first + count - first ≡ count = omega arith in
    let cols = c.as_slice.ensures.value ∙ c.in_ok-cols.ensures ∙ ap (range_with_len first) width in
    let long : length c.as_slice.result.now ≡ count = ap (λ (l : List ℕ). length l) cols ∙ length-range_with_len first count in
    subst (λ n. IsTame (n * (columns * columns)) c.args.meter.now c.eliminate_all.new.meter
    (λ systems. AreOfSize (drop_size n (size_of 1 columns bits)) systems.items) c.eliminate_all.result) long
    (c.eliminate_all.ensures.tame (size_of 1 columns bits) limit
    (let few = c.requires.inside in let narrow = d.narrow in omega (arith, room, few, narrow, long))
    (record { some = omega arith; rows = differences_of columns bits c.args.system.now d }) (λ one. d.normal))
