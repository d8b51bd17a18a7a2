use Rattle.std.proofs.Common.{◌≡◌, inl, inr, subst}
use Rattle.std.proofs.lemmas.Result.{IfOk-weaker}
use Rattle.isl_math.specs.Divide as divide
use Rattle.isl_math.proofs.DivideLaws.{Divides_self}
use Rattle.isl_piece.specs.declared.row.Row.{Row}
use Rattle.isl_piece.specs.Normal.{normal_row, Always, Kept, Never}
use Rattle.isl_piece.specs.Row.{coef_at}
use Rattle.isl_frame.specs.Frame.{isolated, IsLowest, IsSolved}
use Rattle.isl_frame.proofs.LowestLaws.{isolated_divides, isolated_lowest, never_always, never_holds, normal_formed, normal_least}
use Rattle.isl_frame.proofs.LowestLaws.{normal_solved, normal_within}
use Rattle.isl_frame.proofs.equality.solution.Goals as goal

pub isolated-requires-clause-row : goal.isolated-requires-clause-row
isolated-requires-clause-row c =
    let row = c.args.row.now in
    let normal = c.settle.new.row in
    let is : normal_row row ≡ Kept normal = subst (λ (r : Row). normal_row r ≡ Kept normal) c.in_ok-normal.ensures
    (rw c.in-Stays.is at c.settle.ensures) in
    normal_formed c.args.variables row normal c.requires.row is

pub isolated-requires-clause-within : goal.isolated-requires-clause-within
isolated-requires-clause-within c =
    let row = c.args.row.now in
    let normal = c.settle.new.row in
    let is : normal_row row ≡ Kept normal = subst (λ (r : Row). normal_row r ≡ Kept normal) c.in_ok-normal.ensures
    (rw c.in-Stays.is at c.settle.ensures) in
    normal_within c.args.variables row normal c.requires.row is c.args.meter.now c.requires.within

pub returns-in-Stays-clause-solved : goal.returns-in-Stays-clause-solved
returns-in-Stays-clause-solved c zero some =
    let variables = c.args.variables in
    let row = c.args.row.now in
    let normal = c.settle.new.row in
    let is : normal_row row ≡ Kept normal = subst (λ (r : Row). normal_row r ≡ Kept normal) c.in_ok-normal.ensures
    (rw c.in-Stays.is at c.settle.ensures) in
    let least = normal_least variables row normal c.requires.row is zero some in
    IfOk-weaker c.isolated.result (IsSolved variables normal) (IsSolved variables row)
    (λ entry s. normal_solved variables row normal entry c.requires.row is s) (c.isolated.ensures.solved least.kind least.names)

pub returns-in-Stays-clause-divides : goal.returns-in-Stays-clause-divides
returns-in-Stays-clause-divides c zero some =
    let variables = c.args.variables in
    let row = c.args.row.now in
    let normal = c.settle.new.row in
    let is : normal_row row ≡ Kept normal = subst (λ (r : Row). normal_row r ≡ Kept normal) c.in_ok-normal.ensures
    (rw c.in-Stays.is at c.settle.ensures) in
    let least = normal_least variables row normal c.requires.row is zero some in
    IfOk-weaker c.isolated.result (λ (entry : Row). entry ≡ isolated variables normal)
    (λ (entry : Row). divide.Divides entry.k (coef_at row variables))
    (λ entry e. isolated_divides variables normal entry (coef_at row variables) e least.divides) c.isolated.ensures.exact

pub returns-in-Stays-clause-lowest : goal.returns-in-Stays-clause-lowest
returns-in-Stays-clause-lowest c point zero some holds =
    let variables = c.args.variables in
    let row = c.args.row.now in
    let normal = c.settle.new.row in
    let is : normal_row row ≡ Kept normal = subst (λ (r : Row). normal_row r ≡ Kept normal) c.in_ok-normal.ensures
    (rw c.in-Stays.is at c.settle.ensures) in
    let least = normal_least variables row normal c.requires.row is zero some in
    let formed = normal_formed variables row normal c.requires.row is in
    IfOk-weaker c.isolated.result (λ (entry : Row). entry ≡ isolated variables normal) IsLowest
    (λ entry e. isolated_lowest variables normal entry formed least.names least.least e) c.isolated.ensures.exact

pub returns-clause-divides : goal.returns-clause-divides
returns-clause-divides c zero some =
    let variables = c.args.variables in
    let row = c.args.row.now in
    let last = coef_at row variables in
    IfOk-weaker c.isolated-in-Holds.result (λ (entry : Row). entry ≡ isolated variables row) (λ (entry : Row). divide.Divides entry.k last)
    (λ entry e. isolated_divides variables row entry last e (Divides_self last)) c.isolated-in-Holds.ensures.exact

pub returns-clause-lowest : goal.returns-clause-lowest
returns-clause-lowest c point zero some holds =
    let row = c.args.row.now in
    absurd (elim c.in-Holds.is [
      | inl always ↦
          never_always c.args.variables row c.requires.row zero some
          (subst (λ (r : Row). normal_row r ≡ Always) c.in_ok-normal.ensures (rw always at c.settle.ensures))
      | inr never ↦
          never_holds row point c.requires.row.modulus
          (subst (λ (r : Row). normal_row r ≡ Never) c.in_ok-normal.ensures (rw never at c.settle.ensures)) holds
    ])
