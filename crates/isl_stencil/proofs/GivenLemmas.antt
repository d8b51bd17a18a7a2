-- Texts behind one another, and bytes that are given from the front.
use Rattle.std.proofs.Common.{◌≡◌, ℕ, zero, suc, ◌+◌, ◌-◌, ◌<◌, ◌≤◌, min, List, [], ◌++◌, length, take, drop, refl, sym, ◌∙◌, ap, ap₂}
use Rattle.std.proofs.Common.{arith, append_assoc}
use Rattle.std.proofs.lemmas.List.{length-take, take-append-le, take-append-drop, take_all}
use Rattle.isl_stencil.specs.Stencil.{from, lines_of}

-- a text, and then another
pub pushed : (x y z first last : List ℕ) → y ≡ x ++ first → z ≡ y ++ last → z ≡ x ++ (first ++ last)
pushed x y z first last one two = two ∙ ap (λ (l : List ℕ). l ++ last) one ∙ append_assoc x first last

-- what was given, and what is left
module _ (unread left buf given later : List ℕ) (n : ℕ) (count : n ≡ min (length buf) (length unread))
    (given_is : given ≡ take n unread ++ drop n buf) (left_is : left ≡ drop n unread) where
  pub gave : unread ++ later ≡ take n given ++ (left ++ later)
  gave =
      let few : n ≤ length (take n unread) = omega (arith, count, length-take n unread) in
      let front : take n given ≡ take n unread = ap (take n) given_is ∙ take-append-le n (take n unread) (drop n buf) few
      ∙ take_all n (take n unread) (omega (arith, length-take n unread)) in
      sym (ap₂ (λ (a b : List ℕ). a ++ (b ++ later)) front left_is ∙ sym (append_assoc (take n unread) (drop n unread) later)
      ∙ ap (λ (l : List ℕ). l ++ later) (take-append-drop n unread))

-- the lines of one more size
pub from_next : (k later : ℕ) → 0 < later → (rest : ℕ) → rest ≡ later - 1 → from k later ≡ lines_of k ++ from (k + 1) rest
unfolding from
from_next k zero some rest is = absurd (omega arith)
from_next k (suc later) some rest is = let same : later ≡ rest = omega (arith, is) in ap (λ (r : ℕ). lines_of k ++ from (k + 1) r) same

pub from_none : (k later : ℕ) → later ≡ 0 → from k later ≡ []
unfolding from
from_none k zero is = refl
from_none k (suc later) is = absurd (omega (arith, is))
