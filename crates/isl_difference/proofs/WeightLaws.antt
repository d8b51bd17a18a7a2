-- What stands still at the top of the machine's counts passes the bound on memory exactly where it would without a top.
use Rattle.std.proofs.Common.{◌≡◌, ◌∙◌, ◌↔◌, inl, inr, Bool, true, false, ℕ, zero, suc, ◌+◌, ◌-◌, ◌*◌, ◌/◌, ◌<◌, ◌≤◌, min, arith}
use Rattle.std.proofs.Common.{ap, subst, sym, refl, List, length, get_or, if◌then◌else◌, nat_le}
use Rattle.std.proofs.lemmas.List.{get_or-map}
use Rattle.isl_piece.specs.declared.system.System.{System}
use Rattle.std.proofs.lemmas.Bool.{cases_lt}
use Rattle.isl_column.specs.Weight.{row_bytes}
use Rattle.isl_difference.specs.Weight.{counted, last_columns, shared_weight, weight, AreTooHeavy}

le_times : (a b : ℕ) → 0 < b → a ≤ a * b
le_times a zero h = omega (arith, h)
le_times a (suc k) h = omega arith

times_ge : (a b : ℕ) → 0 < a → b ≤ a * b
times_ge zero b h = omega (arith, h)
times_ge (suc k) b h = omega arith

-- ---- products: a factor may be taken at its top
saturated_right : (m a b : ℕ) → min (a * min b m) m ≡ min (a * b) m
saturated_right m zero b = omega arith
saturated_right m (suc k) b = elim (cases_lt m b) [
  | inl more ↦ let h = times_ge (suc k) b (omega arith) in let l = times_ge (suc k) (min b m) (omega arith) in omega (arith, h, l, more)
  | inr fits ↦ let e : min b m ≡ b = omega (arith, fits) in subst (λ x. min (suc k * x) m ≡ min (suc k * b) m) (sym e) refl
]

saturated_left : (m a b : ℕ) → min (min a m * b) m ≡ min (a * b) m
saturated_left m a zero = omega arith
saturated_left m a (suc k) = elim (cases_lt m a) [
  | inl more ↦ let h = le_times a (suc k) (omega arith) in let l = le_times (min a m) (suc k) (omega arith) in omega (arith, h, l, more)
  | inr fits ↦ let e : min a m ≡ a = omega (arith, fits) in subst (λ x. min (x * suc k) m ≡ min (a * suc k) m) (sym e) refl
]

pub counted_times : (n a b : ℕ) → n ≡ counted b → counted (a * n) ≡ counted (a * b)
counted_times n a b e = ap (λ x. counted (a * x)) e ∙ saturated_right 18446744073709551615 a b

pub times_counted : (n a b : ℕ) → n ≡ counted a → counted (n * b) ≡ counted (a * b)
times_counted n a b e = ap (λ x. counted (x * b)) e ∙ saturated_left 18446744073709551615 a b

-- ---- the bound
positive_bytes : (columns : ℕ) → 0 < row_bytes columns
positive_bytes columns = of_both (nat_le columns 8)
  where
    of_both : (b : Bool) → 0 < (if b then 208 else columns * 16 + 208)
    of_both true = omega arith
    of_both false = omega arith

many_are_too_heavy : (rows columns : ℕ) → 100663296 < rows → AreTooHeavy rows columns
many_are_too_heavy rows columns h =
    let l = le_times (rows + rows / 2) (row_bytes columns) (positive_bytes columns) in omega (arith, h, l)

pub heavy_counted : (n x columns : ℕ) → n ≡ counted x → AreTooHeavy n columns ↔ AreTooHeavy x columns
heavy_counted n x columns is = subst (λ (y : ℕ). AreTooHeavy y columns ↔ AreTooHeavy x columns) (sym is)
    (elim (cases_lt 18446744073709551615 x) [
      | inl more ↦ (
        (λ h. many_are_too_heavy x columns (omega (arith, more))),
        (λ h. many_are_too_heavy (counted x) columns (omega (arith, more))),
      )
      | inr fits ↦ subst (λ (y : ℕ). AreTooHeavy y columns ↔ AreTooHeavy x columns) (sym (same fits)) ((λ h. h), (λ h. h))
    ])
  where
    same : x ≤ 18446744073709551615 → counted x ≡ x
    same h = omega (arith, h)

-- the same of what is above the bound when a half is put to it
pub bytes_counted : (n x columns : ℕ) → n ≡ counted x → (100663296 < n * row_bytes columns) ↔ (100663296 < x * row_bytes columns)
bytes_counted n x columns is = subst (λ (y : ℕ). (100663296 < y * row_bytes columns) ↔ (100663296 < x * row_bytes columns)) (sym is)
    (elim (cases_lt 18446744073709551615 x) [
      | inl more ↦ ((λ h. over x (omega (arith, more))), (λ h. over (counted x) (omega (arith, more))))
      | inr fits ↦ subst (λ (y : ℕ). (100663296 < y * row_bytes columns) ↔ (100663296 < x * row_bytes columns)) (sym (same fits))
          ((λ h. h), (λ h. h))
    ])
  where
    same : x ≤ 18446744073709551615 → counted x ≡ x
    same h = omega (arith, h)

    over : (rows : ℕ) → 100663296 < rows → 100663296 < rows * row_bytes columns
    over rows h = let l = le_times rows (row_bytes columns) (positive_bytes columns) in omega (arith, h, l)

heavy_times : (n s a times columns : ℕ) → s ≡ counted a → n ≡ counted (s * times) → AreTooHeavy n columns ↔ AreTooHeavy (a * times) columns
heavy_times n s a times columns e h = heavy_counted n (a * times) columns (h ∙ times_counted s a times e)

-- ---- two lists
columns_of_last : {X : Type 0} (f : X → System) (xs : List X) (x : X) → 0 < length xs → x ≡ get_or xs (length xs - 1) x
    → (f x).columns ≡ last_columns f xs
columns_of_last f xs x some is =
    ap (λ y. (f y).columns) is ∙ sym (get_or-map (λ y. (f y).columns) xs (length xs - 1) x 0 (omega (arith, some)))

pub share_heavy : {X : Type 0} (f : X → System) (xs others : List X) (x : X) (count w share times product : ℕ)
    → 0 < length others → x ≡ get_or others (length others - 1) x → count ≡ counted (length xs + length others)
    → w ≡ counted (weight f others) → share ≡ counted (count * (w / length others)) → product ≡ counted (share * times)
    → AreTooHeavy product (f x).columns ↔ AreTooHeavy (shared_weight f xs others * times) (last_columns f others)
share_heavy f xs others x count w share times product some is c v s p =
    let both = length others in
    let own : share ≡ counted (shared_weight f xs others)
    = s ∙ ap (λ n. counted (n * (w / both))) c ∙ ap (λ n. counted (counted (length xs + both) * (n / both))) v in
    subst (λ (columns : ℕ). AreTooHeavy product (f x).columns ↔ AreTooHeavy (shared_weight f xs others * times) columns)
    (columns_of_last f others x some is) (heavy_times product share (shared_weight f xs others) times (f x).columns own p)

pub all_heavy : {X : Type 0} (f : X → System) (xs others : List X) (x : X) (w v all times product : ℕ)
    → 0 < length others → x ≡ get_or others (length others - 1) x → w ≡ counted (weight f others) → v ≡ counted (weight f xs)
    → all ≡ counted (w + v) → product ≡ counted (all * times)
    → AreTooHeavy product (f x).columns ↔ AreTooHeavy ((weight f others + weight f xs) * times) (last_columns f others)
all_heavy f xs others x w v all times product some is e h a p =
    let own : all ≡ counted (weight f others + weight f xs) = omega (arith, e, h, a) in
    subst (λ (columns : ℕ). AreTooHeavy product (f x).columns ↔ AreTooHeavy ((weight f others + weight f xs) * times) columns)
    (columns_of_last f others x some is) (heavy_times product all (weight f others + weight f xs) times (f x).columns own p)
