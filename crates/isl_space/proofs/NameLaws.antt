-- What an identifier is, in plain words.
use Rattle.std.proofs.Common.{◌≡◌, ◌∙◌, ℕ, suc, zero, ◌+◌, true, false, [], ◌∷◌, ◌++◌, length, replicate, drop, arith, ap, sym, refl, subst}
use Rattle.std.proofs.Common.{IsTrue, ◌↔◌, ◌⊎◌, inl, inr}
use Rattle.std.specs.List.{list_all, prefix_len, AllPass}
use Rattle.std.proofs.lemmas.Bool.{and_parts, and_from, cases_Bool, eqb-true, false≢true}
use Rattle.std.proofs.lemmas.List.Elements.{All-nil, All-cons, All-head, All-tail}
use Rattle.isl_space.specs.Name.{Name, begins_name, goes_on_name, is_prime, IsIdentifier}

-- a letter or `_`, then letters, digits and `_`, then any number of `'`
pub record Reads (name : Name) : Type 0 where
  pub first : ℕ
  pub middle : Name
  pub primes : ℕ
  pub is : name ≡ first ∷ (middle ++ replicate primes 39)
  pub begins : IsTrue (begins_name first)
  pub goes_on : AllPass goes_on_name middle

-- bytes that are all `'`
all_primes : (z : Name) → list_all is_prime z ≡ true → z ≡ replicate (length z) 39
all_primes [] h = refl
all_primes (b ∷ z) h =
    let parts = and_parts _ _ h in
    let first : b ≡ 39 = eqb-true b 39 parts.0 in
    rw first (ap (λ l. 39 ∷ l) (all_primes z parts.1))

replicate_primes : (n : ℕ) → list_all is_prime (replicate n 39) ≡ true
replicate_primes zero = refl
replicate_primes (suc n) = replicate_primes n

-- what may begin a name may go on in it
begins_goes_on : (b : ℕ) → begins_name b ≡ true → goes_on_name b ≡ true
begins_goes_on b h = grind arith

-- the bytes after the first, as the test reads them
record Rest (z : Name) : Type 0 where
  middle : Name
  primes : ℕ
  is : z ≡ middle ++ replicate primes 39
  goes_on : AllPass goes_on_name middle

-- a byte that may go on in a name is passed over
passed : (b : ℕ) (z : Name) → goes_on_name b ≡ true → drop (prefix_len goes_on_name (b ∷ z)) (b ∷ z) ≡ drop (prefix_len goes_on_name z) z
passed b z passes =
    let one : 1 + prefix_len goes_on_name z ≡ suc (prefix_len goes_on_name z) = omega arith in
    rw (passes, one) refl

rest_of : (z : Name) → list_all is_prime (drop (prefix_len goes_on_name z) z) ≡ true → Rest z
rest_of [] h = record { middle = []; primes = 0; is = refl; goes_on = All-nil _ }
rest_of (b ∷ z) h =
    by_test (cases_Bool (goes_on_name b)) (λ (shorter : list_all is_prime (drop (prefix_len goes_on_name z) z) ≡ true). rest_of z shorter)
  where
    by_test : (goes_on_name b ≡ true) ⊎ (goes_on_name b ≡ false) → (list_all is_prime (drop (prefix_len goes_on_name z) z) ≡ true → Rest z)
        → Rest (b ∷ z)
    by_test (inl passes) rest =
        let shorter = rest (sym (ap (λ l. list_all is_prime l) (passed b z passes)) ∙ h) in
        record {
          middle = b ∷ shorter.middle;
          primes = shorter.primes;
          is = ap (λ l. b ∷ l) shorter.is;
          goes_on = All-cons (λ c. goes_on_name c ≡ true) b shorter.middle passes shorter.goes_on;
        }
    by_test (inr ends) rest =
        let here : list_all is_prime (b ∷ z) ≡ true = rw ends at h in
        record { middle = []; primes = length (b ∷ z); is = all_primes (b ∷ z) here; goes_on = All-nil _ }

tested : (middle : Name) (n : ℕ) → AllPass goes_on_name middle
    → list_all is_prime (drop (prefix_len goes_on_name (middle ++ replicate n 39)) (middle ++ replicate n 39)) ≡ true
tested [] zero all = refl
tested [] (suc n) all = replicate_primes n
tested (b ∷ middle) n all =
    let first : goes_on_name b ≡ true = All-head (λ c. goes_on_name c ≡ true) b middle all in
    ap (λ l. list_all is_prime l) (passed b (middle ++ replicate n 39) first)
    ∙ tested middle n (All-tail (λ c. goes_on_name c ≡ true) b middle all)

reads : (name : Name) → IsIdentifier name → Reads name
reads [] h = absurd (false≢true h)
reads (b ∷ z) h =
    let parts = and_parts (begins_name b) _ h in
    let rest = rest_of z (sym (ap (λ l. list_all is_prime l) (passed b z (begins_goes_on b parts.0))) ∙ parts.1) in
    record { first = b; middle = rest.middle; primes = rest.primes; is = ap (λ l. b ∷ l) rest.is; begins = parts.0; goes_on = rest.goes_on }

identifies : (name : Name) → Reads name → IsIdentifier name
identifies name r =
    let all = r.middle ++ replicate r.primes 39 in
    let primes : list_all is_prime (drop (prefix_len goes_on_name (r.first ∷ all)) (r.first ∷ all)) ≡ true =
    ap (λ l. list_all is_prime l) (passed r.first all (begins_goes_on r.first r.begins)) ∙ tested r.middle r.primes r.goes_on in
    subst (λ (l : Name). IsIdentifier l) (sym r.is) (and_from _ _ r.begins primes)

pub identifier_reads : (name : Name) → IsIdentifier name ↔ Reads name
identifier_reads name = (reads name, identifies name)
