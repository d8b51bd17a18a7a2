-- What the test on places tells.
use Rattle.std.proofs.Common.{◌≡◌, ◌≢◌, Bool, true, false, refl, sym, ◌∙◌}
use Rattle.std.specs.Prelude.{MatchBool}
use Rattle.std.proofs.lemmas.Bool.{false≢true}
use Rattle.isl_refusal.specs.Refusal.{Place, at_words, in_statement, too_long, past_limit, at_end, at_read, at_write, anywhere}
use Rattle.isl_refusal.specs.Refusal.{is_in_statement}

of_place : (p : Place) → MatchBool (is_in_statement p) (p ≡ in_statement) (p ≢ in_statement)
of_place at_words = λ e. cc
of_place in_statement = refl
of_place too_long = λ e. cc
of_place past_limit = λ e. cc
of_place at_end = λ e. cc
of_place at_read = λ e. cc
of_place at_write = λ e. cc
of_place anywhere = λ e. cc

pub told : (p : Place) (b : Bool) → b ≡ is_in_statement p → MatchBool b (p ≡ in_statement) (p ≢ in_statement)
told p b is = rw is (of_place p)
