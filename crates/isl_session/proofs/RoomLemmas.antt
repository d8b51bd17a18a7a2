-- What is only held, within the room, asks for no memory.
use Rattle.std.proofs.Common.{◌≡◌, ◌⊎◌, ℕ, ◌<◌, ◌≤◌, List, [], ◌∷◌, ◌++◌, length, true, sym, ◌∙◌, ap, arith}
use mathlib.Core.Logic.{inl, inr}
use Rattle.std.proofs.lemmas.List.{append_assoc, length-append}
use Rattle.isl_script.specs.Script.{statements, rest_of, with_ends, ends}
use Rattle.isl_script.proofs.ScriptLaws.{is_cut, statements-append}
use Rattle.isl_session.specs.declared.fault.Fault.{Fault}
use Rattle.isl_space.specs.Limits.{most_statement_bytes}
use Rattle.isl_refusal.specs.Refusal.{Place, at_words, in_statement, too_long, past_limit, at_end, at_read, at_write, anywhere, place_of}
use Rattle.isl_eval.specs.Causes.{Refuses}
use Rattle.isl_eval.specs.Run.{started}
use Rattle.isl_session.specs.Outcome.{Outcome}
use Rattle.isl_session.specs.View.{View, BreaksIn, HasRoomFor, Stopped, moment_of}
use Rattle.isl_session.proofs.ScriptLemmas.{statements-ended}
use Rattle.isl_session.proofs.FedLemmas.{fed_ready}
use Rattle.isl_session.proofs.OutcomeLemmas.{none_before, none_behind}

-- bytes in which no statement ends are the rest
rest_whole : (bytes : List ℕ) → statements bytes ≡ [] → bytes ≡ rest_of bytes
rest_whole bytes none = (is_cut bytes).whole ∙ ap (λ (l : List (List ℕ)). with_ends l ++ rest_of bytes) none

module _ (old : View) (piece : List ℕ) (outcomes : List Outcome) (new : View) (fault : Fault)
    (stopped : Stopped old piece outcomes new fault) (room : HasRoomFor old piece) where
  abbrev before : List ℕ
  before = old.rest ++ stopped.front

  abbrev tail : List ℕ
  tail = stopped.byte ∷ stopped.behind

  abbrev rest : List ℕ
  rest = stopped.at_front.rest

  joined : old.rest ++ piece ≡ before ++ tail
  joined = ap (λ (l : List ℕ). old.rest ++ l) stopped.split ∙ sym (append_assoc old.rest stopped.front tail)

  none_there : statements before ++ statements (rest ++ tail) ≡ []
  none_there =
      ap (λ (l : List ℕ). statements before ++ statements (l ++ tail)) stopped.fed.rest ∙ sym (statements-append before tail)
      ∙ ap statements (sym joined) ∙ room.none

  rest_is : before ≡ rest
  rest_is = rest_whole before (none_before (statements before) (statements (rest ++ tail)) none_there) ∙ sym stopped.fed.rest

  shorter : length rest < length (old.rest ++ piece)
  shorter = omega (arith, ap length rest_is, ap length joined, length-append before tail)

  no_end : ends rest stopped.byte ≡ true → ⊥
  no_end is =
      let ready = fed_ready old stopped.front outcomes stopped.at_front stopped.fed in
      let next = rest ++ stopped.byte ∷ [] in
      let behind = statements (rest_of next ++ stopped.behind) in
      let first : statements (rest ++ tail) ≡ rest ∷ behind =
      ap statements (sym (append_assoc rest (stopped.byte ∷ []) stopped.behind)) ∙ statements-append next stopped.behind
      ∙ ap (λ (l : List (List ℕ)). l ++ behind) (statements-ended rest stopped.byte ready.open_rest is) in
      omega (arith, ap length first, ap length (none_behind (statements before) (statements (rest ++ tail)) none_there))

  no_want : ((ends rest stopped.byte ≡ true) × Refuses (started (moment_of stopped.at_front)) rest new.meter fault.refusal)
      ⊎ ((length rest < most_statement_bytes) × (stopped.at_front.room ≤ length rest) × (new.meter ≡ stopped.at_front.meter)) → ⊥
  no_want (inl is) = no_end is.0
  no_want (inr full) = omega (arith, full.1, stopped.fed.room, shorter, room.room)

  no_break : (place : Place) → BreaksIn place stopped.at_front stopped.byte new.meter fault.refusal → ⊥
  no_break at_words breaks = breaks
  no_break at_end breaks = breaks
  no_break at_read breaks = breaks
  no_break at_write breaks = breaks
  no_break in_statement breaks = no_end breaks.1
  no_break too_long breaks = omega (arith, breaks.2, shorter, room.short)
  no_break past_limit breaks =
      omega (arith, breaks, stopped.fed.taken, room.within, ap length stopped.split, length-append stopped.front tail)
  no_break anywhere breaks = no_want breaks.1

  pub is_not_stopped : ⊥
  is_not_stopped = no_break (place_of fault.refusal) stopped.breaks
