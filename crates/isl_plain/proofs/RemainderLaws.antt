-- Remainders of terms: their values, their names, and how the code finds them.
use mathlib.Core.Former.{Count}
use Rattle.std.proofs.Common.{◌≡◌, ◌∙◌, refl, sym, ap, ◌↔◌, ℕ, ℤ, pos, ◌+ℤ◌, ◌*ℤ◌, ◌<ℤ◌, ◌≢◌, true, false, List, [], ◌∷◌, ◌++◌}
use Rattle.std.proofs.Common.{None, Some}
use Rattle.std.proofs.lemmas.Bool.{false≢true}
use Rattle.std.proofs.lemmas.Bool.Decides.{Decides-int_eq}
use Rattle.std.proofs.lemmas.List.{append-nil}
use Rattle.isl_math.proofs.Ring.{linear}
use Rattle.isl_math.specs.Divide.{floor_mod, Divides}
use Rattle.isl_math.proofs.DivideLaws.{Divides-from_mod, mod-from_Divides}
use Rattle.isl_tree.specs.declared.tree.Factor.{Factor, Name, Inner, Inner', Floor', Ceil', Row_of-Signed, end_of-Signed, more_of-Signed}
use Rattle.isl_tree.specs.declared.tree.Factor.{items-the_row-Signed, items_hidden-the_row-Signed-0}
use Rattle.isl_tree.specs.declared.tree.Factor.TheBlock.{hidden-the_row-Signed-0}
use Rattle.isl_tree.specs.declared.tree.Signed.{Signed'}
use Rattle.isl_tree.specs.declared.tree.Product.{Product', None', Some'}
use Rattle.isl_tree.specs.Environment.{Environment}
use Rattle.isl_tree.specs.Term.{Term, signed_value, sum_value, term_value}
use Rattle.isl_tree.specs.Known.{sum_names, signed_names, term_names}
use Rattle.isl_tree.specs.Plain.{Remainder, parts_in, remainder_by, lone_remainder, is_zero}
use Rattle.std.proofs.Common.{arith, length, get_or, ◌<◌, ◌≤◌}

-- ---- terms in brackets
value_in_brackets : (m : Count) (row : Row_of-Signed m) (env : Environment) → sum_value row env ≡ term_value (parts_in row) env
value_in_brackets m end_of-Signed env = refl
value_in_brackets m (more_of-Signed part row) env = ap (λ (z : ℤ). signed_value part env +ℤ z) (value_in_brackets _ row env)

names_in_brackets : (m : Count) (row : Row_of-Signed m) → sum_names row ≡ term_names (parts_in row)
names_in_brackets m end_of-Signed = refl
names_in_brackets m (more_of-Signed part row) = ap (λ (ns : List (List ℕ)). signed_names part ++ ns) (names_in_brackets _ row)

parts_are : (m : Count) (row : Row_of-Signed m) → parts_in row ≡ items-the_row-Signed m row
parts_are m end_of-Signed = refl
parts_are m (more_of-Signed part row) = ap (λ (l : Term). part ∷ l) (parts_are _ row)

pub parts_hidden : (term : Term) → parts_in (hidden-the_row-Signed-0 term) ≡ term
parts_hidden term = parts_are _ (hidden-the_row-Signed-0 term) ∙ items_hidden-the_row-Signed-0 term

-- ---- as the code finds them
one_item : (ks : List ℤ) (d : ℤ) → 1 ≤ length ks → length ks < 2 → ks ≡ get_or ks 0 d ∷ []
one_item [] d least most = absurd (omega arith)
one_item (k ∷ []) d least most = refl
one_item (k ∷ (l ∷ ks)) d least most = absurd (omega arith)

pub found_remainder : (factor : Factor) (ks : List ℤ) (term : Term) (d k : ℤ) → factor ≡ Inner term → 1 ≤ length ks → length ks < 2
    → k ≡ get_or ks 0 d → Some (term, k) ≡ remainder_by factor ks
found_remainder factor ks term d k is least most modulus =
    ap (λ (z : ℤ). Some (term, z)) modulus ∙ ap (λ (t : Term). Some (t, get_or ks 0 d)) (sym (parts_hidden term))
    ∙ ap (λ (f : Factor). remainder_by f (get_or ks 0 d ∷ [])) (sym is) ∙ ap (remainder_by factor) (sym (one_item ks d least most))

pub several : (factor : Factor) (ks : List ℤ) → 2 ≤ length ks → None ≡ remainder_by factor ks
several factor [] least = absurd (omega arith)
several factor (k ∷ []) least = absurd (omega arith)
several (Name m) (k ∷ (l ∷ ks)) least = refl
several (Inner' s row) (k ∷ (l ∷ ks)) least = refl
several (Floor' s row d) (k ∷ (l ∷ ks)) least = refl
several (Ceil' s row d) (k ∷ (l ∷ ks)) least = refl

pub ruleset remainders = (several)

-- ---- what a remainder is
no_remainder : (r : Remainder) → None ≡ Some r → ⊥
no_remainder r e = cc

pub remainder_value : (term : Term) (r : Remainder) (env : Environment) → lone_remainder term ≡ Some r
    → term_value term env ≡ floor_mod (term_value r.0 env) r.1
remainder_value [] r env e = absurd (no_remainder r e)
remainder_value (Signed' true product ∷ parts) r env e = absurd (no_remainder r e)
remainder_value (Signed' false (Product' (m ∷ ms) inner) ∷ parts) r env e = absurd (no_remainder r e)
remainder_value (Signed' false (Product' [] None') ∷ parts) r env e = absurd (no_remainder r e)
remainder_value (Signed' false (Product' [] (Some' factor ks)) ∷ (part ∷ parts)) r env e = absurd (no_remainder r e)
remainder_value (Signed' false (Product' [] (Some' (Name m) ks)) ∷ []) r env e = absurd (no_remainder r e)
remainder_value (Signed' false (Product' [] (Some' (Floor' s row k) ks)) ∷ []) r env e = absurd (no_remainder r e)
remainder_value (Signed' false (Product' [] (Some' (Ceil' s row k) ks)) ∷ []) r env e = absurd (no_remainder r e)
remainder_value (Signed' false (Product' [] (Some' (Inner' s row) [])) ∷ []) r env e = absurd (no_remainder r e)
remainder_value (Signed' false (Product' [] (Some' (Inner' s row) (k ∷ (l ∷ ks)))) ∷ []) r env e = absurd (no_remainder r e)
remainder_value (Signed' false (Product' [] (Some' (Inner' s row) (k ∷ []))) ∷ []) r env e =
    let same : (parts_in row, k) ≡ r = cc in
    by (floor_mod (sum_value row env) k) _ (ap (λ (z : ℤ). floor_mod z k) (value_in_brackets _ row env)
    ∙ ap (λ (q : Remainder). floor_mod (term_value q.0 env) q.1) same)
  where
    by : (v w : ℤ) → v ≡ w → pos 1 *ℤ v +ℤ pos 0 ≡ w
    by v w e = omega (arith, linear)

pub remainder_names : (term : Term) (r : Remainder) → lone_remainder term ≡ Some r → term_names term ≡ term_names r.0
remainder_names [] r e = absurd (no_remainder r e)
remainder_names (Signed' true product ∷ parts) r e = absurd (no_remainder r e)
remainder_names (Signed' false (Product' (m ∷ ms) inner) ∷ parts) r e = absurd (no_remainder r e)
remainder_names (Signed' false (Product' [] None') ∷ parts) r e = absurd (no_remainder r e)
remainder_names (Signed' false (Product' [] (Some' factor ks)) ∷ (part ∷ parts)) r e = absurd (no_remainder r e)
remainder_names (Signed' false (Product' [] (Some' (Name m) ks)) ∷ []) r e = absurd (no_remainder r e)
remainder_names (Signed' false (Product' [] (Some' (Floor' s row k) ks)) ∷ []) r e = absurd (no_remainder r e)
remainder_names (Signed' false (Product' [] (Some' (Ceil' s row k) ks)) ∷ []) r e = absurd (no_remainder r e)
remainder_names (Signed' false (Product' [] (Some' (Inner' s row) [])) ∷ []) r e = absurd (no_remainder r e)
remainder_names (Signed' false (Product' [] (Some' (Inner' s row) (k ∷ (l ∷ ks)))) ∷ []) r e = absurd (no_remainder r e)
remainder_names (Signed' false (Product' [] (Some' (Inner' s row) (k ∷ []))) ∷ []) r e =
    let same : (parts_in row, k) ≡ r = cc in
    append-nil (sum_names row) ∙ names_in_brackets _ row ∙ ap (λ (q : Remainder). term_names q.0) same

pub zero_value : (term : Term) (env : Environment) → is_zero term ≡ true → term_value term env ≡ pos 0
zero_value [] env zero = absurd (false≢true zero)
zero_value (Signed' true product ∷ parts) env zero = absurd (false≢true zero)
zero_value (Signed' false (Product' [] inner) ∷ parts) env zero = absurd (false≢true zero)
zero_value (Signed' false (Product' (z ∷ (y ∷ zs)) inner) ∷ parts) env zero = absurd (false≢true zero)
zero_value (Signed' false (Product' (z ∷ []) (Some' factor ks)) ∷ parts) env zero = absurd (false≢true zero)
zero_value (Signed' false (Product' (z ∷ []) None') ∷ (part ∷ parts)) env zero = absurd (false≢true zero)
zero_value (Signed' false (Product' (z ∷ []) None') ∷ []) env zero = by z ((Decides-int_eq z (pos 0)).0 zero)
  where
    by : (z : ℤ) → z ≡ pos 0 → z *ℤ pos 1 *ℤ pos 1 +ℤ pos 0 ≡ pos 0
    by z e = rw e refl

-- ---- a remainder is 0 exactly where its number divides
pub equals_zero : (v k d a b : ℤ) → pos 0 <ℤ k → d ≡ v → a ≡ floor_mod v k → b ≡ pos 0 → (a ≡ b) ↔ Divides k d
equals_zero v k d a b above is left right = (
  λ e. Divides-from_mod k d above (ap (λ (z : ℤ). floor_mod z k) is ∙ sym left ∙ e ∙ right),
  λ h. left ∙ sym (ap (λ (z : ℤ). floor_mod z k) is) ∙ mod-from_Divides k d above h ∙ sym right,
)

pub differs_from_zero : (v k d a b : ℤ) → pos 0 <ℤ k → d ≡ v → a ≡ floor_mod v k → b ≡ pos 0 → (a ≢ b) ↔ (¬ Divides k d)
differs_from_zero v k d a b above is left right =
    let same = equals_zero v k d a b above is left right in (λ other divides. other (same.1 divides), λ apart e. apart (same.0 e))
