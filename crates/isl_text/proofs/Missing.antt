-- What may be missing is read again.
use Rattle.std.proofs.Common.{◌≡◌, ℕ, ◌<◌, true, false, cond, not, List, [], ◌++◌, length, Some, refl, inl, inr}
use Rattle.std.proofs.lemmas.Bool.{not-true}
use Rattle.isl_token.specs.TokenView.{Token}
use Rattle.isl_token.specs.declared.token.Kind.{Kind}
use Rattle.isl_token.specs.Reading.{Parser, sees}
use Rattle.isl_token.specs.Spelling.{Grammar}
use Rattle.isl_token.specs.Spelling as s
use Rattle.isl_token.proofs.Again.{Stops, Again, Starts}

-- a row that may be missing where the bracket closes
module _ {A : Type 0} (size : ℕ) (close : Kind) (p : Parser (List A)) (L : Grammar (List A)) (again : Again size p L (sees close))
    (starts : Starts L (λ ts. not (sees close ts))) where
  unless_read : (a : List A) (us rest : List Token) → (s.◌∪◌ (s.pure []) L) a us → length us < size → sees close rest ≡ true
      → cond (sees close (us ++ rest)) (Some ([], us ++ rest)) (p (us ++ rest)) ≡ Some (a, rest)
  unless_read a us rest (inl l) lt stop = rw (l.1, stop, l.0) refl
  unless_read a us rest (inr l) lt stop = rw (not-true _ (starts.by a us rest l)) (again.by a us rest l lt stop)

  pub again_unless : Again size (λ ts. cond (sees close ts) (Some ([], ts)) (p ts)) (s.◌∪◌ (s.pure []) L) (sees close)
  again_unless = record { by = λ a us rest l lt stop. unless_read a us rest l lt stop }

-- what begins with a token of a kind, and may be missing
module _ {A : Type 0} (size : ℕ) (k : Kind) (x : A) (p : Parser A) (L : Grammar A) (stops : Stops) (again : Again size p L stops)
    (starts : Starts L (sees k))
    (after : Stops) (weaker : (rest : List Token) → after rest ≡ true → stops rest ≡ true)
    (apart : (rest : List Token) → after rest ≡ true → sees k rest ≡ false) where
  given_read : (a : A) (us rest : List Token) → (s.◌∪◌ L (s.pure x)) a us → length us < size → after rest ≡ true
      → cond (sees k (us ++ rest)) (p (us ++ rest)) (Some (x, us ++ rest)) ≡ Some (a, rest)
  given_read a us rest (inl l) lt stop = rw (starts.by a us rest l) (again.by a us rest l lt (weaker rest stop))
  given_read a us rest (inr l) lt stop = rw (l.1, apart rest stop, l.0) refl

  pub again_given : Again size (λ ts. cond (sees k ts) (p ts) (Some (x, ts))) (s.◌∪◌ L (s.pure x)) after
  again_given = record { by = λ a us rest l lt stop. given_read a us rest l lt stop }
