use Rattle.std.proofs.Common.{◌≡◌, ◌-◌, ◌+◌, ◌*◌, ◌∙◌, map, length, arith, Vec, Global, List}
use Rattle.std.proofs.lemmas.Result.{err_from_is_err_and}
use Rattle.isl_meter.specs.declared.Cut.TheVariants.{Overflow}
use Rattle.isl_piece.specs.declared.row.Row.{Row}
use Rattle.isl_piece.specs.declared.system.System.{System}
use Rattle.isl_ledger.specs.Work.{AreOfSize, drop_size}
use Rattle.isl_elim.specs.Tame.{AreFewDifferences}
use Rattle.isl_elim.proofs.TameLaws.{tame_ok, tame_memory, tame_cut}
use Rattle.isl_elim.proofs.TameSystems.{plain_of_one, gone_plain, units_left, size_dropped}
use Rattle.isl_shadows.specs.Exact.{exact_rows}
use Rattle.isl_shadows.specs.Solved.{solved_rows}
use Rattle.isl_piece.specs.System.{free_columns}
use Rattle.isl_elim.specs.Dependents.{with_dependents, kept_definitions}
use Rattle.isl_elim.specs.Elimination.{system_of}
use Rattle.isl_elim.proofs.KeptLaws.{gone_distinct, gone_inside}
use Rattle.isl_elim.proofs.ProjectionLaws.{systems_left, gone_one, low_one, left_of_one}
use Rattle.isl_elim.proofs.projection.eliminate_all.Goals as goal

pub lists_left-requires-clause-distinct : goal.lists_left-requires-clause-distinct
lists_left-requires-clause-distinct c =
    let s = c.args.system.now in
    let cols = c.args.cols.now in
    let gone : c.as_slice-2.result.now ≡ with_dependents s cols = grind arith in
    rw gone (gone_distinct (free_columns s) cols s.definitions c.requires.distinct c.requires.cols_in)

pub lists_left-requires-clause-gone_in : goal.lists_left-requires-clause-gone_in
lists_left-requires-clause-gone_in c =
    let s = c.args.system.now in
    let cols = c.args.cols.now in
    let gone : c.as_slice-2.result.now ≡ with_dependents s cols = grind arith in
    let count = c.requires.well_formed.count in
    let sum : free_columns s + length s.definitions ≡ s.columns = omega (arith, count) in
    rw gone (gone_inside (free_columns s) s.columns cols s.definitions sum c.requires.cols_in)

pub returns-clause-projection : goal.returns-clause-projection
returns-clause-projection c =
    let g = c.args.meter.now in
    let s = c.args.system.now in
    let cols = c.args.cols.now in
    let gone : c.as_slice-2.result.now ≡ with_dependents s cols = grind arith in
    let are : c.in_ok-systems.systems.items ≡ map (system_of c.in_ok-left.left.columns c.in_ok-left.left.definitions) c.in_ok-lists.lists.items = grind arith in
    let kept : c.in_ok-left.left.definitions ≡ kept_definitions s cols = grind arith in
    let columns : c.in_ok-left.left.columns ≡ s.columns - length (with_dependents s cols) = grind arith in
    let added = (rw gone at c.in_ok-lists.ensures.exact).0 in
    (systems_left g s cols c.in_ok-left.left c.in_ok-lists.lists.items c.in_ok-systems.systems.items c.requires.well_formed c.requires.distinct c.requires.cols_in kept columns c.in_ok-left.ensures.within added are).projection

pub returns-clause-definitions : goal.returns-clause-definitions
returns-clause-definitions c =
    let g = c.args.meter.now in
    let s = c.args.system.now in
    let cols = c.args.cols.now in
    let gone : c.as_slice-2.result.now ≡ with_dependents s cols = grind arith in
    let are : c.in_ok-systems.systems.items ≡ map (system_of c.in_ok-left.left.columns c.in_ok-left.left.definitions) c.in_ok-lists.lists.items = grind arith in
    let kept : c.in_ok-left.left.definitions ≡ kept_definitions s cols = grind arith in
    let columns : c.in_ok-left.left.columns ≡ s.columns - length (with_dependents s cols) = grind arith in
    let added = (rw gone at c.in_ok-lists.ensures.exact).0 in
    (systems_left g s cols c.in_ok-left.left c.in_ok-lists.lists.items c.in_ok-systems.systems.items c.requires.well_formed c.requires.distinct c.requires.cols_in kept columns c.in_ok-left.ensures.within added are).definitions

pub returns-clause-within : goal.returns-clause-within
returns-clause-within c =
    let g = c.args.meter.now in
    let s = c.args.system.now in
    let cols = c.args.cols.now in
    let gone : c.as_slice-2.result.now ≡ with_dependents s cols = grind arith in
    let are : c.in_ok-systems.systems.items ≡ map (system_of c.in_ok-left.left.columns c.in_ok-left.left.definitions) c.in_ok-lists.lists.items = grind arith in
    let kept : c.in_ok-left.left.definitions ≡ kept_definitions s cols = grind arith in
    let columns : c.in_ok-left.left.columns ≡ s.columns - length (with_dependents s cols) = grind arith in
    let added = (rw gone at c.in_ok-lists.ensures.exact).0 in
    (systems_left g s cols c.in_ok-left.left c.in_ok-lists.lists.items c.in_ok-systems.systems.items c.requires.well_formed c.requires.distinct c.requires.cols_in kept columns c.in_ok-left.ensures.within added are).within

pub returns-clause-normal : goal.returns-clause-normal
returns-clause-normal c =
    let g = c.args.meter.now in
    let s = c.args.system.now in
    let cols = c.args.cols.now in
    let gone : c.as_slice-2.result.now ≡ with_dependents s cols = grind arith in
    let are : c.in_ok-systems.systems.items ≡ map (system_of c.in_ok-left.left.columns c.in_ok-left.left.definitions) c.in_ok-lists.lists.items = grind arith in
    let kept : c.in_ok-left.left.definitions ≡ kept_definitions s cols = grind arith in
    let columns : c.in_ok-left.left.columns ≡ s.columns - length (with_dependents s cols) = grind arith in
    let added = (rw gone at c.in_ok-lists.ensures.exact).0 in
    (systems_left g s cols c.in_ok-left.left c.in_ok-lists.lists.items c.in_ok-systems.systems.items c.requires.well_formed c.requires.distinct c.requires.cols_in kept columns c.in_ok-left.ensures.within added are).normal

pub returns-clause-exact_column : goal.returns-clause-exact_column
returns-clause-exact_column c = λ col e none exact no.
    let s = c.args.system.now in
    let cols = c.args.cols.now in
    let gone : c.as_slice-2.result.now ≡ with_dependents s cols = grind arith in
    let are : c.in_ok-systems.systems.items ≡ map (system_of c.in_ok-left.left.columns c.in_ok-left.left.definitions) c.in_ok-lists.lists.items = grind arith in
    let kept : c.in_ok-left.left.definitions ≡ kept_definitions s cols = grind arith in
    let columns : c.in_ok-left.left.columns ≡ s.columns - length (with_dependents s cols) = grind arith in
    let one = gone_one s cols col e none in
    let lists = c.in_ok-lists.ensures.exact_column col (gone ∙ one) (low_one s cols col e c.requires.cols_in) exact no in
    left_of_one s cols col (exact_rows s.rows col) c.in_ok-left.left c.in_ok-lists.lists.items c.in_ok-systems.systems.items one kept columns are lists

pub returns-clause-solved_column : goal.returns-clause-solved_column
returns-clause-solved_column c = λ col e none equality.
    let s = c.args.system.now in
    let cols = c.args.cols.now in
    let gone : c.as_slice-2.result.now ≡ with_dependents s cols = grind arith in
    let are : c.in_ok-systems.systems.items ≡ map (system_of c.in_ok-left.left.columns c.in_ok-left.left.definitions) c.in_ok-lists.lists.items = grind arith in
    let kept : c.in_ok-left.left.definitions ≡ kept_definitions s cols = grind arith in
    let columns : c.in_ok-left.left.columns ≡ s.columns - length (with_dependents s cols) = grind arith in
    let one = gone_one s cols col e none in
    let lists = c.in_ok-lists.ensures.solved_column col (gone ∙ one) (low_one s cols col e c.requires.cols_in) equality in
    left_of_one s cols col (solved_rows s.rows col) c.in_ok-left.left c.in_ok-lists.lists.items c.in_ok-systems.systems.items one kept columns are lists

pub returns-in_err-lists-clause-units : goal.returns-in_err-lists-clause-units
returns-in_err-lists-clause-units c = λ col e none.
    let s = c.args.system.now in
    let cols = c.args.cols.now in
    let gone : c.as_slice-2.result.now ≡ with_dependents s cols = grind arith in
    c.lists_left.ensures.units col (gone ∙ gone_one s cols col e none) (low_one s cols col e c.requires.cols_in)

pub returns-in_err-lists-clause-equality : goal.returns-in_err-lists-clause-equality
returns-in_err-lists-clause-equality c = λ col e none.
    let s = c.args.system.now in
    let cols = c.args.cols.now in
    let gone : c.as_slice-2.result.now ≡ with_dependents s cols = grind arith in
    c.lists_left.ensures.equality col (gone ∙ gone_one s cols col e none) (low_one s cols col e c.requires.cols_in)

pub returns-in_err-lists-clause-magnitude : goal.returns-in_err-lists-clause-magnitude
returns-in_err-lists-clause-magnitude c = λ col e none full small one.
    let s = c.args.system.now in
    let cols = c.args.cols.now in
    let gone : c.as_slice-2.result.now ≡ with_dependents s cols = grind arith in
    let p = err_from_is_err_and c.from_residual-in_err-lists.result c.from_residual-in_err-lists.ensures.1 in
    let spared = c.in_err-lists.ensures.magnitude col (gone ∙ gone_one s cols col e none) (low_one s cols col e c.requires.cols_in) full small one in
    rw (p.1, p.2) (λ passed. spared (let cut : c.in_err-lists.field-0.0 ≡ Overflow = cc in cc))

pub returns-in_err-systems-clause-units : goal.returns-in_err-systems-clause-units
returns-in_err-systems-clause-units c = λ col e none.
    let s = c.args.system.now in
    let cols = c.args.cols.now in
    let gone : c.as_slice-2.result.now ≡ with_dependents s cols = grind arith in
    c.lists_left.ensures.units col (gone ∙ gone_one s cols col e none) (low_one s cols col e c.requires.cols_in)

pub returns-in_err-systems-clause-equality : goal.returns-in_err-systems-clause-equality
returns-in_err-systems-clause-equality c = λ col e none.
    let s = c.args.system.now in
    let cols = c.args.cols.now in
    let gone : c.as_slice-2.result.now ≡ with_dependents s cols = grind arith in
    c.lists_left.ensures.equality col (gone ∙ gone_one s cols col e none) (low_one s cols col e c.requires.cols_in)

pub returns-clause-units : goal.returns-clause-units
returns-clause-units c = λ col e none.
    let s = c.args.system.now in
    let cols = c.args.cols.now in
    let gone : c.as_slice-2.result.now ≡ with_dependents s cols = grind arith in
    c.lists_left.ensures.units col (gone ∙ gone_one s cols col e none) (low_one s cols col e c.requires.cols_in)

pub returns-clause-equality : goal.returns-clause-equality
returns-clause-equality c = λ col e none.
    let s = c.args.system.now in
    let cols = c.args.cols.now in
    let gone : c.as_slice-2.result.now ≡ with_dependents s cols = grind arith in
    c.lists_left.ensures.equality col (gone ∙ gone_one s cols col e none) (low_one s cols col e c.requires.cols_in)

pub returns-in_err-gone-clause-tame : goal.returns-in_err-gone-clause-tame
returns-in_err-gone-clause-tame c = λ size full room of normal.
    let cols = c.args.cols.now in
    let p = err_from_is_err_and c.from_residual.result c.from_residual.ensures.1 in
    rw (p.1, p.2) (tame_memory (length cols * (size.columns * size.columns)) c.args.meter.now c.args.meter.now
    (λ (systems : Vec System Global). AreOfSize (drop_size (length cols) size) systems.items) (omega arith))

pub returns-in_err-left-clause-tame : goal.returns-in_err-left-clause-tame
returns-in_err-left-clause-tame c = λ size full room of normal.
    let cols = c.args.cols.now in
    let p = err_from_is_err_and c.from_residual-in_err-left.result c.from_residual-in_err-left.ensures.1 in
    rw (p.1, p.2) (tame_memory (length cols * (size.columns * size.columns)) c.args.meter.now c.args.meter.now
    (λ (systems : Vec System Global). AreOfSize (drop_size (length cols) size) systems.items) (omega arith))

pub returns-in_err-lists-clause-tame : goal.returns-in_err-lists-clause-tame
returns-in_err-lists-clause-tame c = λ size full room of normal.
    let s = c.args.system.now in
    let cols = c.args.cols.now in
    let gone : c.as_slice-2.result.now ≡ with_dependents s cols = grind arith in
    let plain = plain_of_one size s of in
    let same = gone ∙ gone_plain s cols plain.undefined in
    let own = ((rw same at c.in_err-lists.ensures.tame) normal).tame size.bits full room plain in
    let p = err_from_is_err_and c.from_residual-in_err-lists.result c.from_residual-in_err-lists.ensures.1 in
    rw (p.1, p.2) (tame_cut (length cols * (s.columns * s.columns)) (length cols * (size.columns * size.columns)) c.args.meter.now
    c.lists_left.new.meter
    (λ (lists : Vec (List Row) Global). AreFewDifferences (size.bits + length cols) lists.items)
    (λ (systems : Vec System Global). AreOfSize (drop_size (length cols) size) systems.items) c.in_err-lists.field-0.0
    (units_left size s (length cols) of) own)

pub returns-in_err-systems-clause-tame : goal.returns-in_err-systems-clause-tame
returns-in_err-systems-clause-tame c = λ size full room of normal.
    let s = c.args.system.now in
    let cols = c.args.cols.now in
    let gone : c.as_slice-2.result.now ≡ with_dependents s cols = grind arith in
    let plain = plain_of_one size s of in
    let same = gone ∙ gone_plain s cols plain.undefined in
    let own = ((rw same at c.in_ok-lists.ensures.tame) normal).tame size.bits full room plain in
    let p = err_from_is_err_and c.from_residual-in_err-systems.result c.from_residual-in_err-systems.ensures.1 in
    rw (p.1, p.2) (tame_memory (length cols * (size.columns * size.columns)) c.args.meter.now c.lists_left.new.meter
    (λ (systems : Vec System Global). AreOfSize (drop_size (length cols) size) systems.items)
    (let u = own.within.units in let v = units_left size s (length cols) of in omega arith))

pub returns-clause-tame : goal.returns-clause-tame
returns-clause-tame c = λ size full room of normal.
    let g = c.args.meter.now in
    let s = c.args.system.now in
    let cols = c.args.cols.now in
    let gone : c.as_slice-2.result.now ≡ with_dependents s cols = grind arith in
    let are : c.in_ok-systems.systems.items ≡ map (system_of c.in_ok-left.left.columns c.in_ok-left.left.definitions) c.in_ok-lists.lists.items = grind arith in
    let kept : c.in_ok-left.left.definitions ≡ kept_definitions s cols = grind arith in
    let columns : c.in_ok-left.left.columns ≡ s.columns - length (with_dependents s cols) = grind arith in
    let added = (rw gone at c.in_ok-lists.ensures.exact).0 in
    let left = systems_left g s cols c.in_ok-left.left c.in_ok-lists.lists.items c.in_ok-systems.systems.items c.requires.well_formed c.requires.distinct
    c.requires.cols_in kept columns c.in_ok-left.ensures.within added are in
    let plain = plain_of_one size s of in
    let same = gone ∙ gone_plain s cols plain.undefined in
    let own = ((rw same at c.in_ok-lists.ensures.tame) normal).tame size.bits full room plain in
    tame_ok (length cols * (size.columns * size.columns)) g c.lists_left.new.meter
    (λ (systems : Vec System Global). AreOfSize (drop_size (length cols) size) systems.items) c.in_ok-systems.systems
    (let u = own.within.units in let v = units_left size s (length cols) of in omega arith)
    (size_dropped size s cols c.in_ok-left.left c.in_ok-lists.lists.items c.in_ok-systems.systems.items of kept columns are left.normal own.answer)
