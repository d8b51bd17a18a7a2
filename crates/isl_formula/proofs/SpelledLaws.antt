-- What all values have that a grammar spells.
use Rattle.std.proofs.Common.{inl, inr, sym, subst, List, [], ◌∷◌, ◌++◌, arith}
use Rattle.std.specs.List.{All}
use Rattle.std.proofs.lemmas.List.{length-append, get_or_append_left}
use Rattle.std.proofs.lemmas.List.Elements.{All-nil, All-cons, All-tail}
use Rattle.isl_token.specs.TokenView.{Token}
use Rattle.isl_token.specs.Token.{IsToken}
use Rattle.isl_token.specs.Spelling as s
use Rattle.isl_token.specs.Spelling.{Grammar}

-- what all values that a grammar spells have, where the tokens are some text's
pub record Has {A : Type 0} (Q : A → Type 0) (L : Grammar A) : Type 0 where
  pub by : (a : A) (ts : List Token) → All IsToken ts → L a ts → Q a

all_left : (us vs : List Token) → All IsToken (us ++ vs) → All IsToken us
all_left us vs h i d low = subst IsToken (get_or_append_left us vs d i low) (h i d (let e = length-append us vs in omega arith))

all_right : (us vs : List Token) → All IsToken (us ++ vs) → All IsToken vs
all_right [] vs h = h
all_right (u ∷ us) vs h = all_right us vs (All-tail IsToken u (us ++ vs) h)

pub whatever : {A : Type 0} (L : Grammar A) → Has (λ _. Unit {0}) L
whatever L = record { by = λ a ts h l. tt }

pub pure_has : {A : Type 0} (Q : A → Type 0) (a : A) → Q a → Has Q (s.pure a)
pure_has Q a q = record { by = λ b ts h l. subst Q (sym l.0) q }

pub bind_has : {A B : Type 0} (P : A → Type 0) (Q : B → Type 0) (L : Grammar A) (M : A → Grammar B) → Has P L → ((a : A) → P a → Has Q (M a)) → Has Q (s.◌>>=◌ L M)
bind_has P Q L M first second = record {
  by = λ b ts h l.
      let us = l.1 in
      let vs = l.2 in
      let whole : All IsToken (us ++ vs) = subst (All IsToken) l.3 h in
      (second l.0 (first.by l.0 us (all_left us vs whole) l.4)).by b vs (all_right us vs whole) l.5;
}

pub then_has : {A B : Type 0} (Q : B → Type 0) (L : Grammar A) (M : Grammar B) → Has Q M → Has Q (s.◌>>◌ L M)
then_has Q L M second = bind_has (λ _. Unit {0}) Q L (λ _. M) (whatever L) (λ _ _. second)

pub either_has : {A : Type 0} (Q : A → Type 0) (L M : Grammar A) → Has Q L → Has Q M → Has Q (s.◌∪◌ L M)
either_has Q L M first second = record {
  by = λ a ts h l. elim l [
    | inl x ↦ first.by a ts h x
    | inr y ↦ second.by a ts h y
  ];
}

many_by : {A : Type 0} (Q : A → Type 0) (L : Grammar A) → Has Q L → (xs : List A) (ts : List Token) → All IsToken ts → s.many L xs ts → All Q xs
many_by Q L each [] ts h l = All-nil Q
many_by Q L each (x ∷ xs) ts h l =
    let us = l.0 in
    let vs = l.1 in
    let whole : All IsToken (us ++ vs) = subst (All IsToken) l.2 h in
    All-cons Q x xs (each.by x us (all_left us vs whole) l.3) (many_by Q L each xs vs (all_right us vs whole) l.4)

pub many_has : {A : Type 0} (Q : A → Type 0) (L : Grammar A) → Has Q L → Has (All Q) (s.many L)
many_has Q L each = record { by = λ xs ts h l. many_by Q L each xs ts h l }
