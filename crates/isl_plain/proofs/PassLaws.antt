-- Products and sums, one number after the other.
use Rattle.std.proofs.Common.{◌≡◌, ◌∙◌, refl, sym, ap, ℕ, zero, suc, ◌+◌, ◌<◌, ℤ, pos, ◌*ℤ◌, List, [], ◌∷◌, ◌++◌, length, take, get_or}
use Rattle.std.proofs.Common.{arith, to_z-of_z, Bool, true, false, neg_ℤ, set}
use Rattle.std.specs.Prelude.{All, IfSome, None, Some}
use Rattle.std.proofs.lemmas.List.Elements.{All-set, All-take}
use lib.IntN.{neg_ℤ-neg_ℤ}
use Rattle.isl_meter.specs.Gauge.{Gauge, IsWithin, overflown}
use mathlib.Core.Logic.{inl, inr}
use Rattle.std.specs.List.{remove}
use Rattle.std.proofs.Common.{◌≤◌}
use Rattle.isl_piece.specs.declared.row.RowKind.{RowKind}
use Rattle.isl_piece.specs.declared.row.Row.{Row}
use Rattle.isl_piece.specs.Row.{IsRowWithin}
use Rattle.isl_plain.specs.Rows.{Written, added, amounts_in}
use Rattle.std.proofs.Common.{map, drop, subst, ◌⊎◌, Result, Ok, Err, Option}
use Rattle.std.specs.Result.{MatchResult}
use Rattle.isl_plain.proofs.AmountLaws.{length-with_amounts}
use Rattle.std.proofs.lemmas.List.{take-append-drop, length-set, drop_all, append-nil}
use Rattle.isl_tree.specs.declared.tree.Signed.{Signed}
use Rattle.isl_plain.specs.Linear.{Place, Amount, turned, signed_product, is_taken, with_amount, with_amounts, amount_of, amounts_of}
use Rattle.isl_plain.specs.Linear.{numbers_of, one_less, difference, row_of}
use Rattle.isl_plain.specs.Passes.{ProductPasses, PartsPass, SumPasses, DifferencePasses}
use Rattle.isl_math.proofs.Ring.{expand, linear}
use Rattle.std.proofs.Common.{◌+ℤ◌}
use Rattle.isl_tree.specs.Term.{Term, product_of}
use Rattle.std.proofs.lemmas.List.{take_more}

product_of-push : (xs : List ℤ) (x : ℤ) → product_of (xs ++ x ∷ []) ≡ product_of xs *ℤ x
product_of-push [] x = by x
  where
    by : (x : ℤ) → x *ℤ pos 1 ≡ pos 1 *ℤ x
    by x = simp expand (omega (arith, linear))
product_of-push (y ∷ xs) x = by y x (product_of (xs ++ x ∷ [])) (product_of xs) (product_of-push xs x)
  where
    by : (y x p q : ℤ) → p ≡ q *ℤ x → y *ℤ p ≡ y *ℤ q *ℤ x
    by y x p q e = rw e (simp expand (omega (arith, linear)))

pub product_of-take_more : (xs : List ℤ) (i : ℕ) → i < length xs
    → product_of (take (i + 1) xs) ≡ product_of (take i xs) *ℤ get_or xs i (pos 0)
product_of-take_more xs i inside = ap product_of (take_more xs i (pos 0) inside) ∙ product_of-push (take i xs) (get_or xs i (pos 0))

pub ruleset products = (to_z-of_z, product_of-take_more)

pub within_set : (g : Gauge) (xs : List ℤ) (i : ℕ) (a : ℤ) → IsWithin g a → All (IsWithin g) xs → All (IsWithin g) (set xs i a)
within_set g xs i a small all = All-set (IsWithin g) xs i a small all

-- the sign of a part that is added or taken away
pub turned_part : (takes negative : Bool) (at : ℕ) (p : ℤ) (ns : List ℤ) → p ≡ product_of ns
    → turned (is_taken takes negative) (at, p) ≡ turned takes (at, signed_product negative ns)
turned_part false false at p ns e = ap (λ (z : ℤ). (at, z)) e
turned_part false true at p ns e = ap (λ (z : ℤ). (at, neg_ℤ z)) e
turned_part true false at p ns e = ap (λ (z : ℤ). (at, neg_ℤ z)) e
turned_part true true at p ns e = ap (λ (z : ℤ). (at, z)) (e ∙ sym (neg_ℤ-neg_ℤ (product_of ns)))

pub ruleset one_part = (turned_part)

-- ---- the parts of a term, one after the other
with_amounts-append : (row : List ℤ) (xs ys : List Amount) → with_amounts row (xs ++ ys) ≡ with_amounts (with_amounts row xs) ys
with_amounts-append row [] ys = refl
with_amounts-append row (x ∷ xs) ys = with_amounts-append (with_amount row x) xs ys

map-push : (takes : Bool) (n : ℕ) (place : Place) (term : Term) (part : Signed)
    → map (turned takes) (amounts_of n place (term ++ part ∷ [])) ≡ map (turned takes) (amounts_of n place term) ++ turned takes
    (amount_of n place part) ∷ []
map-push takes n place [] part = refl
map-push takes n place (x ∷ term) part = ap (λ (l : List Amount). turned takes (amount_of n place x) ∷ l) (map-push takes n place term part)

pub added_more : (row : List ℤ) (takes : Bool) (n : ℕ) (place : Place) (term : Term) (i : ℕ) (d : Signed) → i < length term
    → with_amounts row (map (turned takes) (amounts_of n place (take (i + 1) term))) ≡ with_amount
    (with_amounts row (map (turned takes) (amounts_of n place (take i term)))) (turned takes (amount_of n place (get_or term i d)))
added_more row takes n place term i d inside =
    ap (λ (l : Term). with_amounts row (map (turned takes) (amounts_of n place l))) (take_more term i d inside)
    ∙ ap (with_amounts row) (map-push takes n place (take i term) (get_or term i d))
    ∙ with_amounts-append row (map (turned takes) (amounts_of n place (take i term)))
    (turned takes (amount_of n place (get_or term i d)) ∷ [])

pub parts_pass_at : (g : Gauge) (term : Term) (i : ℕ) (d : Signed) → i < length term → ProductPasses g (numbers_of (get_or term i d))
    → PartsPass g term
parts_pass_at g [] i d inside passes = absurd (omega arith)
parts_pass_at g (part ∷ parts) zero d inside passes = inl passes
parts_pass_at g (part ∷ parts) (suc i) d inside passes = inr (parts_pass_at g parts i d (omega arith) passes)

pub sum_passes_left : (g : Gauge) (row : List ℤ) (xs ys : List Amount) → SumPasses g row xs → SumPasses g row (xs ++ ys)
sum_passes_left g row [] ys passes = absurd passes
sum_passes_left g row (x ∷ xs) ys (inl here) = inl here
sum_passes_left g row (x ∷ xs) ys (inr later) = inr (sum_passes_left g (with_amount row x) xs ys later)

pub sum_passes_right : (g : Gauge) (row : List ℤ) (xs ys : List Amount) → SumPasses g (with_amounts row xs) ys → SumPasses g row (xs ++ ys)
sum_passes_right g row [] ys passes = passes
sum_passes_right g row (x ∷ xs) ys passes = inr (sum_passes_right g (with_amount row x) xs ys passes)

amounts-append : (takes : Bool) (n : ℕ) (place : Place) (xs ys : Term)
    → map (turned takes) (amounts_of n place (xs ++ ys)) ≡ map (turned takes) (amounts_of n place xs) ++ map (turned takes)
    (amounts_of n place ys)
amounts-append takes n place [] ys = refl
amounts-append takes n place (x ∷ xs) ys =
    ap (λ (l : List Amount). turned takes (amount_of n place x) ∷ l) (amounts-append takes n place xs ys)

pub sum_passes_at : (g : Gauge) (row : List ℤ) (takes : Bool) (n : ℕ) (place : Place) (term : Term) (i : ℕ) (d : Signed) → i < length term
    → SumPasses g (with_amounts row (map (turned takes) (amounts_of n place (take i term))))
    (turned takes (amount_of n place (get_or term i d)) ∷ []) → SumPasses g row (map (turned takes) (amounts_of n place term))
sum_passes_at g row takes n place term i d inside passes =
    let split : term ≡ (take i term ++ get_or term i d ∷ []) ++ drop (i + 1) term = sym
    (ap (λ (l : Term). l ++ drop (i + 1) term) (sym (take_more term i d inside)) ∙ take-append-drop (i + 1) term) in
    let whole = ap (λ (l : Term). map (turned takes) (amounts_of n place l)) split ∙ amounts-append takes n place
    (take i term ++ get_or term i d ∷ []) (drop (i + 1) term)
    ∙ ap (λ (l : List Amount). l ++ map (turned takes) (amounts_of n place (drop (i + 1) term)))
    (map-push takes n place (take i term) (get_or term i d)) in
    subst (λ (l : List Amount). SumPasses g row l) (sym whole)
    (sum_passes_left g row (map (turned takes) (amounts_of n place (take i term)) ++ turned takes
    (amount_of n place (get_or term i d)) ∷ []) (map (turned takes) (amounts_of n place (drop (i + 1) term)))
    (sum_passes_right g row (map (turned takes) (amounts_of n place (take i term)))
    (turned takes (amount_of n place (get_or term i d)) ∷ []) passes))

pub length-with_amount : (row : List ℤ) (a : Amount) → length (with_amount row a) ≡ length row
length-with_amount row a = length-set row a.0 _

-- a part that is refused, of a term whose parts before it were added
pub term_failed : (g h k : Gauge) (row r : List ℤ) (takes : Bool) (n : ℕ) (place : Place) (term : Term) (i : ℕ) (part : Signed)
    → part ≡ get_or term i part → i < length term
    → r ≡ with_amounts row (map (turned takes) (amounts_of n place (take i term))) → h ≡ g
    → (ProductPasses h (numbers_of part) ⊎ SumPasses h r (turned takes (amount_of n place part) ∷ [])) × (k ≡ overflown h)
    → (PartsPass g term ⊎ SumPasses g row (map (turned takes) (amounts_of n place term))) × (k ≡ overflown g)
term_failed g h k row r takes n place term i part is inside added same failed = (
  elim failed.0 [
    | inl product ↦ inl (parts_pass_at g term i part inside
        (subst (λ (p : Signed). ProductPasses g (numbers_of p)) is (subst (λ (l : Gauge). ProductPasses l (numbers_of part)) same product)))
    | inr sum ↦ inr (sum_passes_at g row takes n place term i part inside
        (subst (λ (l : List ℤ). SumPasses g l (turned takes (amount_of n place (get_or term i part)) ∷ [])) added
        (subst (λ (p : Signed). SumPasses g r (turned takes (amount_of n place p) ∷ [])) is
        (subst (λ (l : Gauge). SumPasses l r (turned takes (amount_of n place part) ∷ [])) same sum))))
  ],
  failed.1 ∙ ap overflown same,
)

-- ---- a difference of two terms
pub match_weaker : {A E : Type 0} (r : Result A E) (P P' : A → Type 0) (Q Q' : E → Type 0) → ((a : A) → P a → P' a) → ((e : E) → Q e → Q' e)
    → MatchResult r P Q → MatchResult r P' Q'
match_weaker (Ok a) P P' Q Q' ok err h = ok a h
match_weaker (Err e) P P' Q Q' ok err h = err e h

pub length-with_amounts' : (row r : List ℤ) (amounts : List Amount) (n : ℕ) → r ≡ with_amounts row amounts → length row ≡ n → length r ≡ n
length-with_amounts' row r amounts n is long = ap length is ∙ length-with_amounts row amounts ∙ long

module _ (g : Gauge) (n : ℕ) (place : Place) (row : List ℤ) (greater less : Term) (last : Option ℕ) where
  pub difference_first : PartsPass g greater ⊎ SumPasses g row (map (turned false) (amounts_of n place greater))
      → DifferencePasses g n place row greater less last
  difference_first (inl parts) = inl parts
  difference_first (inr sum) =
      inr (inr (sum_passes_left g row _ (one_less last)
      (sum_passes_left g row (map (turned false) (amounts_of n place greater)) (map (turned true) (amounts_of n place less)) sum)))

  pub difference_second : (h : Gauge) (r : List ℤ) → h ≡ g → r ≡ with_amounts row (map (turned false) (amounts_of n place greater))
      → PartsPass h less ⊎ SumPasses h r (map (turned true) (amounts_of n place less)) → DifferencePasses g n place row greater less last
  difference_second h r same is (inl parts) = inr (inl (subst (λ (l : Gauge). PartsPass l less) same parts))
  difference_second h r same is (inr sum) =
      inr (inr (sum_passes_left g row _ (one_less last)
      (sum_passes_right g row (map (turned false) (amounts_of n place greater)) (map (turned true) (amounts_of n place less))
      (subst (λ (l : List ℤ). SumPasses g l (map (turned true) (amounts_of n place less))) is
      (subst (λ (l : Gauge). SumPasses l r (map (turned true) (amounts_of n place less))) same sum)))))

  both_added : (r q : List ℤ) → r ≡ with_amounts row (map (turned false) (amounts_of n place greater))
      → q ≡ with_amounts r (map (turned true) (amounts_of n place less))
      → q ≡ with_amounts row (map (turned false) (amounts_of n place greater) ++ map (turned true) (amounts_of n place less))
  both_added r q is then_is =
      then_is ∙ ap (λ (l : List ℤ). with_amounts l (map (turned true) (amounts_of n place less))) is
      ∙ sym (with_amounts-append row (map (turned false) (amounts_of n place greater)) (map (turned true) (amounts_of n place less)))

  pub difference_last : (h : Gauge) (r q : List ℤ) → h ≡ g → r ≡ with_amounts row (map (turned false) (amounts_of n place greater))
      → q ≡ with_amounts r (map (turned true) (amounts_of n place less))
      → SumPasses h q (one_less last) → DifferencePasses g n place row greater less last
  difference_last h r q same is then_is sum =
      inr (inr (sum_passes_right g row (map (turned false) (amounts_of n place greater) ++ map (turned true) (amounts_of n place less))
      (one_less last)
      (subst (λ (l : List ℤ). SumPasses g l (one_less last)) (both_added r q is then_is)
      (subst (λ (l : Gauge). SumPasses l q (one_less last)) same sum))))

  pub difference_added : (r q s : List ℤ) → r ≡ with_amounts row (map (turned false) (amounts_of n place greater))
      → q ≡ with_amounts r (map (turned true) (amounts_of n place less))
      → s ≡ with_amounts q (one_less last) → s ≡ with_amounts row (difference n place greater less last)
  difference_added r q s is then_is last_is = last_is ∙ ap (λ (l : List ℤ). with_amounts l (one_less last)) (both_added r q is then_is)
      ∙ sym (with_amounts-append row (map (turned false) (amounts_of n place greater) ++ map (turned true) (amounts_of n place less))
      (one_less last))

-- ---- a finished row
pub remove_last : (xs : List ℤ) (n : ℕ) → length xs ≡ n + 1 → remove xs n ≡ take n xs
remove_last xs n long = ap (λ (l : List ℤ). take n xs ++ l) (drop_all (suc n) xs (omega arith)) ∙ append-nil (take n xs)

abbrev finished_row : RowKind → ℤ → ℕ → List ℤ → Row
finished_row kind k c row = record { kind = kind; coefs = take c row; constant = get_or row c (pos 0); k = k }

pub added_is : (w : Written) (m : ℤ) (n c : ℕ) (place : Place) (row : List ℤ) (r : Row) → c ≡ n → m ≡ w.modulus
    → row ≡ row_of n (amounts_in n place w)
    → r ≡ record { kind = w.kind; coefs = take c row; constant = get_or row c (pos 0); k = m } → r ≡ added n place w
added_is w m n c place row r columns modulus is made =
    made ∙ ap (λ (k : ℕ). finished_row w.kind m k row) columns ∙ ap (λ (z : ℤ). finished_row w.kind z n row) modulus
    ∙ ap (finished_row w.kind w.modulus n) is

pub row_within : (g : Gauge) (kind : RowKind) (m : ℤ) (c : ℕ) (row : List ℤ) (r : Row) → IsWithin g m → All (IsWithin g) row
    → length row ≡ c + 1
    → r ≡ record { kind = kind; coefs = take c row; constant = get_or row c (pos 0); k = m } → IsRowWithin g r
row_within g kind m c row r modulus all long made = subst (IsRowWithin g) (sym made) (record {
  coefs = All-take (IsWithin g) c row all;
  constant = all c (pos 0) (omega arith);
  k = modulus;
})

pub place_inside : (last : Option ℕ) (n long : ℕ) → long ≡ n + 1 → IfSome last (λ at. at ≤ n) → IfSome last (λ at. at < long)
place_inside None n long is inside = inside
place_inside (Some at) n long is inside = omega arith

pub add_nothing : (z : ℤ) → z +ℤ pos 0 ≡ z
add_nothing z = omega (arith, linear)

pub ruleset measured = (add_nothing)
