use Rattle.std.proofs.Common.{◌≡◌, ◌-◌, ◌≤◌, Some, length, drop}
use Rattle.std.specs.Prelude.{All}
use Rattle.isl_token.specs.Token.{IsToken}
use Rattle.isl_token.specs.Lex.{tokens, join, IsKindAt}
use Rattle.isl_token.proofs.Pieces.{tokens_at}
use Rattle.isl_token.proofs.lex.tokens.Given as goal

abbrev pub invariant-loop-at : goal.invariant-loop-at
invariant-loop-at l = record {
  same : tokens l.text ≡ join (Some (tokens_at l.text l.marks.items)) (tokens (drop l.at l.text));
  kinds : All (λ m. IsKindAt l.text m.place m.kind) l.marks.items;
  formed : All IsToken (tokens_at l.text l.marks.items);
  within : l.at ≤ length l.text;
}

abbrev pub decreases-loop-at : goal.decreases-loop-at
decreases-loop-at l = length l.text - l.at
