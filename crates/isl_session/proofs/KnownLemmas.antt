-- Pieces of a text that is written in turn.
use Rattle.std.proofs.Common.{◌≡◌, ℕ, zero, suc, ◌+◌, ◌-◌, List, [], ◌∷◌, ◌++◌, length, take, drop, sym, ◌∙◌, ap, subst, arith}
use Rattle.std.proofs.Common.{append_assoc, Option}
use Rattle.std.proofs.Common.{None, Some}
use Rattle.std.specs.Io.KnownBytes.{Consumes, Keeps}
use Rattle.std.proofs.lemmas.List.{take_rest}

-- a front, and the front of what is behind it
pub take_join : (at n : ℕ) (xs : List ℕ) → take at xs ++ take n (drop at xs) ≡ take (at + n) xs
take_join zero n xs = let same : n ≡ 0 + n = omega arith in ap (λ (k : ℕ). take k xs) same
take_join (suc at) zero [] = let same : suc at ≡ suc at + 0 = omega arith in ap (λ (k : ℕ). take k []) same
take_join (suc at) (suc n) [] = let same : suc (at + suc n) ≡ suc at + suc n = omega arith in ap (λ (k : ℕ). take k []) same
take_join (suc at) n (x ∷ xs) = let same : suc (at + n) ≡ suc at + n = omega arith in ap (λ (l : List ℕ). x ∷ l) (take_join at n xs)
    ∙ ap (λ (k : ℕ). take k (x ∷ xs)) same

pub take_on : (at n : ℕ) (xs : List ℕ) → take at xs ++ take n (take (length xs - at) (drop at xs)) ≡ take (at + n) xs
take_on at n xs = ap (λ (l : List ℕ). take at xs ++ take n l) (take_rest xs at) ∙ take_join at n xs

-- a read that took nothing
pub keeps_none : (a b : Option (List ℕ)) (n : ℕ) (buf : List ℕ) → n ≡ 0 → Consumes a b (take n buf) → Keeps a b
keeps_none None b n buf is_zero c = tt
keeps_none (Some xs) None n buf is_zero c = c
keeps_none (Some xs) (Some ys) n buf is_zero c = sym (subst (λ (k : ℕ). xs ≡ take k buf ++ ys) is_zero c)

-- a text that was empty, and to which this was added
pub text_added : (now text before added : List ℕ) → now ≡ text → text ≡ before ++ added → before ≡ [] → now ≡ added
text_added now text before added same is none = same ∙ is ∙ ap (λ (l : List ℕ). l ++ added) none

-- a text, and then another
pub pushed : (x y z first last : List ℕ) → y ≡ x ++ first → z ≡ y ++ last → z ≡ x ++ (first ++ last)
pushed x y z first last one two = two ∙ ap (λ (l : List ℕ). l ++ last) one ∙ append_assoc x first last
