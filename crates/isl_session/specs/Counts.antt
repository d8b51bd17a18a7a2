-- public: what a session has answered, in numbers.
use Rattle.std.specs.Prelude.{◌+◌, ◌*◌, ◌-◌, ◌^◌, ◌≤◌, List, length, count_by, sum_by}
use Rattle.isl_eval.specs.Machine.{Answer}
use Rattle.isl_session.specs.declared.counts.Counts.{Counts}

-- nothing is answered
abbrev pub none : Counts
none = record { statements = 0; trues = 0; elements = 0 }

-- with these answers: one for each statement; those that are `True`; the elements that they list
abbrev pub counted : Counts → List Answer → Counts
counted counts answers = record {
  statements = counts.statements + length answers;
  trues = counts.trues + count_by (λ answer. answer.is_true) answers;
  elements = counts.elements + sum_by (λ answer. answer.elements) answers;
}

-- no more answers are `True` than there are, and each lists fewer than 2^64 elements
pub record AreCounts (counts : Counts) : Type 0 where
  pub trues : counts.trues ≤ counts.statements
  pub elements : counts.elements ≤ counts.statements * (2 ^ 64 - 1)
