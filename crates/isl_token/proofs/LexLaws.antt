-- The tokens of a text are tokens.
use Rattle.std.proofs.Common.{◌≡◌, ◌-◌, ℕ, zero, suc, List, [], ◌∷◌, take, Option, Some, None, IfSome, subst, rules}
use Rattle.std.specs.List.{All}
use Rattle.std.proofs.lemmas.List.Elements.{All-nil, All-append}
use Rattle.isl_token.specs.TokenView.{Token}
use Rattle.isl_token.specs.Token.{Text, IsToken}
use Rattle.isl_token.specs.Lex.{cut, tokens_of, join, tokens_from, tokens, IsPiece}
use Rattle.isl_token.proofs.Fronts.{front_piece}

-- the pieces of a text, whose type has a name in its own crate alone
abbrev type_of : {A : Type 0} → A → Type 0
type_of {A} a = A

abbrev Piece : Type 0
Piece = type_of (cut []).0

of_piece : (p : Piece) (text : Text) → IsPiece p text → IfSome (tokens_of p text) (All IsToken)
of_piece p text is = search rules

of_both : (a b : Option (List Token)) → IfSome a (All IsToken) → IfSome b (All IsToken) → IfSome (join a b) (All IsToken)
of_both None b x y = tt
of_both (Some us) None x y = tt
of_both (Some us) (Some ts) x y = All-append IsToken us ts x y

of_rest : (left : ℕ) (z : Text) → IfSome (tokens_from left z) (All IsToken)
of_rest left [] = All-nil IsToken
of_rest (suc left) (b ∷ z) = of_rest left z
of_rest zero (b ∷ z) =
    let c = cut (b ∷ z) in
    of_both (tokens_of c.0 (take c.1 (b ∷ z))) (tokens_from (c.1 - 1) z) (of_piece c.0 (take c.1 (b ∷ z)) (front_piece (b ∷ z)))
    (of_rest (c.1 - 1) z)

pub lexed : (text : Text) (ts : List Token) → tokens text ≡ Some ts → All IsToken ts
unfolding tokens
lexed text ts is = let motive : Option (List Token) → Type 0 = λ o. IfSome o (All IsToken) in subst motive is (of_rest 0 text)
