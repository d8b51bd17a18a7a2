-- The pieces of two lists, where equal lists are there once.
use Rattle.std.proofs.Common.{◌≡◌, ◌↔◌, ◌⊎◌, inl, inr, sym, subst, List, ◌++◌, All, Any}
use Rattle.std.proofs.lemmas.List.Elements.{All-append}
use Rattle.isl_math.proofs.ListLaws.{Any-left, Any-right, Any-parts}
use Rattle.isl_union.specs.KeptValue.{KeptPiece}
use Rattle.isl_union.specs.Union.{AreOfBoth}

pub both_any : (P : KeptPiece → Type 0) (own others pieces : List KeptPiece) → AreOfBoth own others pieces
    → Any P pieces ↔ (Any P own ⊎ Any P others)
both_any P own others pieces (inl once) = rw once.1 (
  (λ a. inl a),
  (λ either. elim either [
    | inl x ↦ x
    | inr y ↦ subst (Any P) (sym once.0) y
  ]),
)
both_any P own others pieces (inr apart) = rw apart.1 (
  Any-parts P own others,
  (λ either. elim either [
    | inl x ↦ Any-left P own others x
    | inr y ↦ Any-right P own others y
  ]),
)

pub both_all : (P : KeptPiece → Type 0) (own others pieces : List KeptPiece) → AreOfBoth own others pieces → All P own → All P others
    → All P pieces
both_all P own others pieces (inl once) p q = rw once.1 p
both_all P own others pieces (inr apart) p q = rw apart.1 (All-append P own others p q)
