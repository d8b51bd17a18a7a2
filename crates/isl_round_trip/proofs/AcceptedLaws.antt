-- A reader of literals accepts printed values.
use Rattle.std.proofs.Common.{◌≡◌, ◌<◌, ◌∙◌, ℕ, pos, true, false, List, length, ap, sym, subst, refl, arith}
use Rattle.std.specs.Prelude.{◌-◌, slice_range, Ok}
use Rattle.std.proofs.lemmas.List.{take_all}
use Rattle.isl_union.specs.KeptValue.{KeptValue}
use Rattle.isl_token.specs.TokenView.{Token}
use Rattle.isl_token.specs.Depth.{is_too_deep}
use Rattle.isl_token.specs.Number.{too_great}
use Rattle.isl_token.specs.Spelling.{Spells}
use Rattle.isl_tree.specs.declared.tree.Literal.{Literal}
use Rattle.isl_text.specs.Limits.{is_within}
use Rattle.isl_text.specs.Literal.{literal_grammar}
use Rattle.isl_text.specs.Read.{Answers, IsLiteralAt, has_wide_number, judged}
use Rattle.isl_union.specs.Numbers.{HasNumbersUpTo}
use Rattle.isl_round_trip.specs.Tree.{printed_tree}
use Rattle.isl_round_trip.specs.Written.{HasFewRemainders}
use Rattle.isl_round_trip.specs.RoundTrip.{IsWritableValue}
use Rattle.isl_round_trip.specs.Accepted.{HasQuietNames, IsAccepted}
use Rattle.isl_round_trip.proofs.TokenLaws.{Tokens}
use Rattle.isl_round_trip.proofs.ValueTokenLaws.{printed_tokens, tokens-printed}
use Rattle.isl_round_trip.proofs.AcceptedTokens.{at, not_deep, printed_leads as quiet_leads}
use Rattle.isl_round_trip.proofs.TakenTokens.{narrow}
use Rattle.isl_round_trip.proofs.RoundTripLaws.{some_same, tree_spelled}
use Rattle.isl_round_trip.proofs.WithinTree.{tree_within}

whole_range : (ts : List Token) → slice_range ts 0 (length ts) ≡ ts
whole_range ts = take_all (length ts - 0) ts (omega arith)

not_refused : (limit : ℕ) (ts : List Token) (literal : Literal) (next : ℕ) → is_within literal ≡ true → has_wide_number (pos limit) ts ≡ false → judged (pos limit) ts literal next ≡ Ok (literal, next)
not_refused limit ts literal next within small = rw (within, small) refl

pub printed_accepted : (limit : ℕ) (value : KeptValue) → limit < too_great → IsWritableValue value → HasFewRemainders value → HasNumbersUpTo limit value → HasQuietNames value → IsAccepted limit value
printed_accepted limit value below writable few numbers quiet ts result lexed exactly =
    let written = tree_spelled value writable.kept writable.numbers writable.uniform in
    let same : printed_tokens value ≡ ts = some_same (printed_tokens value) ts (sym (tokens-printed value writable.kept writable.numbers) ∙ lexed) in
    let read : written.0 ≡ ts = some_same written.0 ts (sym written.1 ∙ lexed) in
    let whole = whole_range ts in
    let spelled = subst (λ (l : Tokens). Spells literal_grammar (printed_tree value) l) (read ∙ sym whole) written.2 in
    let stands : IsLiteralAt ts 0 (printed_tree value) (length ts) = record { ends = (omega arith, omega arith); spelled = spelled } in
    let shallow = ap is_too_deep (sym same) ∙ not_deep (at 0) (at 0) (printed_tokens value) (quiet_leads limit value writable numbers quiet) in
    let answer = exactly.some shallow (printed_tree value) (length ts) stands in
    let small : has_wide_number (pos limit) (slice_range ts 0 (length ts)) ≡ false =
    ap (has_wide_number (pos limit)) (whole ∙ sym same) ∙ narrow limit below value writable numbers in
    subst (Answers result) (not_refused limit (slice_range ts 0 (length ts)) (printed_tree value) (length ts) (tree_within value writable.kept few) small) answer
