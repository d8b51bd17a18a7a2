-- public: what is asked in a loop names its variable: nothing is asked at each turn that does not change. (isl manual, on abstract syntax
-- trees)
use Rattle.std.specs.Prelude.{◌≡◌, ◌≢◌, ℕ, ◌+◌, pos, List, [], All}
use Rattle.isl_piece.specs.declared.row.Row.{Row}
use Rattle.isl_piece.specs.Row.{coef_at}
use Rattle.isl_loop.specs.declared.tree.Loop.{Loop, Block', For', If', Call, Row_of-Loop, end_of-Loop, more_of-Loop}

-- the rows that a tree asks in front of all that it does
abbrev pub asked_first : Loop → List Row
asked_first (Block' s row) = []
asked_first (For' low high step s body) = []
asked_first (If' rows s body) = rows
asked_first (Call name args) = []

-- those of a body
abbrev pub asked_within : {m : _} → Row_of-Loop m → List Row
asked_within end_of-Loop = []
asked_within (more_of-Loop part rest) = asked_first part

abbrev mutual
  -- With so many variables in scope, the rows that a loop's body asks first all name the loop's variable. Rows that are asked one behind the
  -- other are asked at once.
  pub AsksWhatChanges : ℕ → Loop → Type 0
  AsksWhatChanges n (Block' s row) = AskWhatChanges n row
  AsksWhatChanges n (For' low high step s body) = All (λ r. coef_at r n ≢ pos 0) (asked_within body) × AskWhatChanges (n + 1) body
  AsksWhatChanges n (If' rows s body) = (asked_within body ≡ []) × AskWhatChanges n body
  AsksWhatChanges n (Call name args) = Unit {0}

  pub AskWhatChanges : {m : _} → ℕ → Row_of-Loop m → Type 0
  AskWhatChanges n end_of-Loop = Unit {0}
  AskWhatChanges n (more_of-Loop part rest) = AsksWhatChanges n part × AskWhatChanges n rest
