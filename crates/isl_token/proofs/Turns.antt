-- One turn of a loop that reads a row.
use Rattle.std.proofs.Common.{◌≡◌, ℕ, zero, suc, ◌+◌, ◌-◌, ◌<◌, ◌≤◌, Bool, true, false, List, [], ◌∷◌, ◌++◌, Option, Some, None, refl, sym}
use Rattle.std.proofs.Common.{ap, ◌∙◌, arith}
use Rattle.isl_token.specs.TokenView.{Token}
use Rattle.isl_token.specs.declared.fault.Fault.{Fault}
use Rattle.isl_token.specs.declared.fault.Fault.TheVariants.{NoMemory, Syntax}
use Rattle.std.specs.Prelude.{Err}
use Rattle.isl_token.specs.Reading.{Parser, rest_of, Reads}

module _ {A : Type 0} (goes_on : List Token → Bool) (item : Parser A) where
  one_more : (n : ℕ) (found : List A) (ts us : List Token) (x : A) → goes_on ts ≡ true → item ts ≡ Some (x, us)
      → rest_of goes_on item (suc n) found ts ≡ rest_of goes_on item n (found ++ x ∷ []) us
  unfolding rest_of
  one_more n found ts us x test read = rw (test, read) refl

  pub turn_goes_on : (total : Option (List A × List Token)) (n at : ℕ) (found more : List A) (ts us : List Token) (x : A)
      → at < n → goes_on ts ≡ true → item ts ≡ Some (x, us) → more ≡ found ++ x ∷ []
      → total ≡ rest_of goes_on item (n - at) found ts → total ≡ rest_of goes_on item (n - (at + 1)) more us
  turn_goes_on total n at found more ts us x below test read pushed so_far =
      let turn : n - at ≡ suc (n - (at + 1)) = omega arith in
      so_far ∙ ap (λ k. rest_of goes_on item k found ts) turn ∙ one_more (n - (at + 1)) found ts us x test read
      ∙ ap (λ l. rest_of goes_on item (n - (at + 1)) l us) (sym pushed)

  pub stops : (n : ℕ) (found : List A) (ts : List Token) → goes_on ts ≡ false → rest_of goes_on item n found ts ≡ Some (found, ts)
  unfolding rest_of
  stops zero found ts test = refl
  stops (suc n) found ts test = rw test refl

  pub turn_stops : (total : Option (List A × List Token)) (n at : ℕ) (found : List A) (ts : List Token)
      → goes_on ts ≡ false → total ≡ rest_of goes_on item (n - at) found ts → total ≡ Some (found, ts)
  turn_stops total n at found ts test so_far = so_far ∙ stops (n - at) found ts test

  pub turns_end : (total : Option (List A × List Token)) (n at : ℕ) (found : List A) (ts : List Token)
      → n ≤ at → total ≡ rest_of goes_on item (n - at) found ts → total ≡ Some (found, ts)
  unfolding rest_of
  turns_end total n at found ts over so_far =
      let none : n - at ≡ 0 = omega arith in
      so_far ∙ ap (λ k. rest_of goes_on item k found ts) none

  fails : (n : ℕ) (found : List A) (ts : List Token) → goes_on ts ≡ true → item ts ≡ None → rest_of goes_on item (suc n) found ts ≡ None
  unfolding rest_of
  fails n found ts test read = rw (test, read) refl

  pub turn_fails : (total : Option (List A × List Token)) (n at : ℕ) (found : List A) (ts rest : List Token) (e : Fault)
      → at < n → goes_on ts ≡ true → Reads (item ts) (Err e) rest → total ≡ rest_of goes_on item (n - at) found ts
      → Reads total (Err e) rest
  turn_fails total n at found ts rest NoMemory below test read so_far = tt
  turn_fails total n at found ts rest Syntax below test read so_far =
      let turn : n - at ≡ suc (n - (at + 1)) = omega arith in
      so_far ∙ ap (λ k. rest_of goes_on item k found ts) turn ∙ fails (n - (at + 1)) found ts test read

pub ruleset turns = (turn_goes_on, turn_stops, turns_end, turn_fails)
