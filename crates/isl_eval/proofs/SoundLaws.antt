-- What a literal that is taken declares and names is what a value may have.
use Rattle.std.proofs.Common.{◌≡◌, ◌≢◌, ◌∙◌, sym, ℕ, true, false, List, [], ◌∷◌, length, get_or, arith}
use Rattle.std.specs.Prelude.{not, ◌&&◌, nat_le}
use Rattle.std.specs.List.{All, list_all}
use Rattle.std.specs.Str.{bytes_eq}
use Rattle.std.proofs.lemmas.Bool.{false≢true, and_parts, or_parts, not-true, leb-true}
use Rattle.std.proofs.lemmas.List.Elements.{All-nil, All-cons}
use Rattle.std.proofs.lemmas.List.Kept.{AllPairs-cons}
use Rattle.std.proofs.lemmas.Slice.Eq.{bytes_eq-Decides}
use Rattle.isl_math.proofs.ListLaws.{All-pass}
use Rattle.isl_space.specs.Name.{Name}
use Rattle.isl_space.specs.Names.{AreDistinct}
use Rattle.isl_tree.specs.declared.tree.Literal.{Literal}
use Rattle.isl_tree.specs.Literal.{is_among}
use Rattle.isl_text.specs.Formed.{are_distinct, are_alike, piece_is_formed}
use Rattle.isl_text.specs.Limits.{is_within, piece_is_within}
use Rattle.isl_lower.specs.Value.{IsWellFormedLiteral}
use Rattle.isl_tree.specs.declared.statement.Stmt.{Stmt}
use Rattle.isl_tree.specs.Expr.{statement_literals}
use Rattle.isl_stmt.specs.Limits.{statement_is_within}
use Rattle.isl_eval.specs.Spelled.{BytesSpell}
use Rattle.isl_token.proofs.LexLaws.{lexed}
use Rattle.isl_eval.proofs.LiteralLaws.{IsSpelled, literals_spelled}
use Rattle.isl_eval.proofs.SizeLaws.{narrow}

-- ---- distinct names
each_apart : (name : Name) (names : List Name) → is_among names name ≡ false → All (λ other. name ≢ other) names
each_apart name [] none = All-nil (λ other. name ≢ other)
each_apart name (other ∷ names) none =
    let parts = or_parts (bytes_eq other name) (is_among names name) none in
    All-cons (λ m. name ≢ m) other names (λ e. false≢true (sym parts.0 ∙ (bytes_eq-Decides other name).1 (sym e)))
    (each_apart name names parts.1)

distinct_from : (names : List Name) → are_distinct names ≡ true → AreDistinct names
distinct_from [] e = λ i j d low high. absurd (omega arith)
distinct_from (name ∷ names) e =
    let parts = and_parts (not (is_among names name)) (are_distinct names) e in
    AllPairs-cons (λ a b. a ≢ b) name names (each_apart name names (not-true (is_among names name) parts.0)) (distinct_from names parts.1)

-- ---- what is taken is sound
pub sound : (literal : Literal) → is_within literal ≡ true → IsSpelled literal → IsWellFormedLiteral literal
sound literal within_literal spelled =
    let formed = and_parts (are_distinct literal.params && are_alike literal.pieces)
    (list_all (piece_is_formed literal.params) literal.pieces) spelled.formed in
    let distinct = and_parts (are_distinct literal.params) (are_alike literal.pieces) formed.0 in
    let sizes = and_parts (nat_le (length literal.params) 16) (list_all piece_is_within literal.pieces) within_literal in
    let within = All-pass piece_is_within literal.pieces sizes.1 in record {
      params = record {
        distinct = distinct_from literal.params distinct.0;
        named = spelled.named.params;
        few = leb-true (length literal.params) 16 sizes.0;
      };
      spaces = λ i d low. record { named = spelled.named.spaces i d low; narrow = narrow (get_or literal.pieces i d) (within i d low) };
      divisors = spelled.divided;
    }

-- the literals of a statement that is taken
pub spelled_sound : (bytes : List ℕ) (stmt : Stmt) → BytesSpell bytes stmt → statement_is_within stmt ≡ true
    → All IsWellFormedLiteral (statement_literals stmt)
spelled_sound bytes stmt spelled within =
    let all = literals_spelled stmt spelled.tokens (lexed bytes spelled.tokens spelled.cut) spelled.spelled in
    let fits = All-pass is_within (statement_literals stmt) within in
    λ i d low. sound (get_or (statement_literals stmt) i d) (fits i d low) (all i d low)
