-- Sums of multiples of lists, without the number at a column.
use Rattle.std.proofs.Common.{◌≡◌, ◌≢◌, ◌∙◌, refl, sym, ap, arith, ℕ, zero, suc, ◌+◌, ◌<◌, ℤ, pos, ◌+ℤ◌, ◌*ℤ◌, List, [], ◌∷◌, ◌++◌, length, get_or, take}
use Rattle.std.specs.List.{remove}
use Rattle.std.proofs.lemmas.List.{length-take, take_all}
use Rattle.std.proofs.lemmas.List.Elements.{All-push}
use Rattle.isl_math.specs.Dot.{weighted_sum}
use Rattle.isl_math.proofs.ColumnLaws.{weighted_sum-take_more, length-weighted_sum}

-- a last number, at the column or not
remove-push : (xs : List ℤ) (z : ℤ) (col : ℕ) → length xs ≢ col → remove (xs ++ z ∷ []) col ≡ remove xs col ++ z ∷ []
remove-push [] z zero n = absurd (n refl)
remove-push [] z (suc col) n = rw (take_all {A = ℤ} col [] (omega arith)) refl
remove-push (x ∷ xs) z zero n = refl
remove-push (x ∷ xs) z (suc col) n = ap (λ ys. x ∷ ys) (remove-push xs z col (λ e. n (ap suc e)))

remove-last : (xs : List ℤ) (z : ℤ) (col : ℕ) → length xs ≡ col → remove (xs ++ z ∷ []) col ≡ remove xs col
remove-last [] z zero e = refl
remove-last [] z (suc col) e = absurd (omega arith)
remove-last (x ∷ xs) z zero e = absurd (omega arith)
remove-last (x ∷ xs) z (suc col) e = ap (λ ys. x ∷ ys) (remove-last xs z col (omega arith))

sum_length : (m : ℤ) (xs : List ℤ) (n : ℤ) (ys : List ℤ) (i : ℕ) → i < length xs → i < length ys → length (weighted_sum m (take i xs) n (take i ys)) ≡ i
sum_length m xs n ys i h k = let p = length-take i xs in let q = length-take i ys in let e = length-weighted_sum m (take i xs) n (take i ys) (omega arith) in omega arith

pub weighted_without-more : (m : ℤ) (xs : List ℤ) (n : ℤ) (ys : List ℤ) (col i : ℕ) → i < length xs → i < length ys → i ≢ col
    → remove (weighted_sum m (take (i + 1) xs) n (take (i + 1) ys)) col ≡ remove (weighted_sum m (take i xs) n (take i ys)) col ++ (m *ℤ get_or xs i (pos 0) +ℤ n *ℤ get_or ys i (pos 0)) ∷ []
weighted_without-more m xs n ys col i h k d =
    rw (weighted_sum-take_more m xs n ys i h k) (remove-push (weighted_sum m (take i xs) n (take i ys)) (m *ℤ get_or xs i (pos 0) +ℤ n *ℤ get_or ys i (pos 0)) col (λ e. d (sym (sum_length m xs n ys i h k) ∙ e)))

pub weighted_without-at : (m : ℤ) (xs : List ℤ) (n : ℤ) (ys : List ℤ) (col i : ℕ) → i < length xs → i < length ys → i ≡ col
    → remove (weighted_sum m (take (i + 1) xs) n (take (i + 1) ys)) col ≡ remove (weighted_sum m (take i xs) n (take i ys)) col
weighted_without-at m xs n ys col i h k d =
    rw (weighted_sum-take_more m xs n ys i h k) (remove-last (weighted_sum m (take i xs) n (take i ys)) (m *ℤ get_or xs i (pos 0) +ℤ n *ℤ get_or ys i (pos 0)) col (sum_length m xs n ys i h k ∙ d))

-- what the loops want
pub ruleset weighted_steps = (weighted_sum-take_more, weighted_without-more, weighted_without-at, All-push)
