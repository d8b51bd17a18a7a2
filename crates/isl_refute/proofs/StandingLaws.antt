-- The normal form of one row holds where the row does, and is over its columns.
use Rattle.std.proofs.Common.{◌≡◌, ◌↔◌, ◌∙◌, refl, arith, subst, ℕ, ℤ, pos, ◌+ℤ◌, List, [], length, replicate}
use Rattle.std.proofs.lemmas.List.{length-replicate}
use Rattle.isl_math.specs.Divide as divide
use Rattle.isl_math.specs.Dot.{dot}
use Rattle.isl_math.proofs.DivideLaws.{one-Divides, Divides-same}
use Rattle.isl_math.proofs.DotLaws.{dot-zeros, dot-nil_right}
use Rattle.isl_math.proofs.Ring.{linear}
use Rattle.isl_piece.specs.declared.row.RowKind.{RowKind}
use Rattle.isl_piece.specs.declared.row.RowKind.TheVariants.{Zero, AtLeast, Divides, NotDivides}
use Rattle.isl_piece.specs.declared.row.Row.{Row}
use Rattle.isl_piece.specs.Normal.{Verdict, Always, Never, Kept, normal_row}
use Rattle.isl_piece.specs.Row.{HoldsRow, HoldsValue, HasModulus, IsWellFormed}
use Rattle.isl_piece.proofs.PointLaws.{HoldsVerdict, normal_row_holds}
use Rattle.isl_piece.proofs.ShapeLaws.{IfKept, normal_row_well_formed}
use Rattle.isl_refute.specs.Refutes.{always_row, never_row, standing_row, standing_as}

-- ---- constant rows
constant_value : (n : ℕ) (c : ℤ) (xs : List ℤ) → dot (replicate n (pos 0)) xs +ℤ c ≡ c
constant_value n c xs = let z = dot-zeros n xs in omega (arith, linear)

one_odd : divide.Divides (pos 2) (pos 1) → ⊥
one_odd d = let e = d.is in omega (arith, linear)

always_holds : (kind : RowKind) (cs : List ℤ) (c k : ℤ) (xs : List ℤ) → HoldsValue kind k (dot cs [] +ℤ c)
    → HoldsRow (always_row kind cs c) xs
always_holds Zero cs c k xs h = constant_value (length cs) (pos 0) xs
always_holds AtLeast cs c k xs h =
    let v = constant_value (length cs) c xs in
    let n = dot-nil_right cs in
    omega (arith, linear)
always_holds Divides cs c k xs h = one-Divides (dot (replicate (length cs) (pos 0)) xs +ℤ pos 0)
always_holds NotDivides cs c k xs h =
    λ d. one_odd (Divides-same (pos 2) (dot (replicate (length cs) (pos 0)) xs +ℤ pos 1) (pos 1) (constant_value (length cs) (pos 1) xs) d)

never_fails : (kind : RowKind) (cs : List ℤ) (c k : ℤ) (xs : List ℤ) → ¬ HoldsValue kind k (dot cs [] +ℤ c)
    → ¬ HoldsRow (never_row kind cs c) xs
never_fails Zero cs c k xs n h = let v = constant_value (length cs) (pos 1) xs in omega (arith, linear)
never_fails AtLeast cs c k xs n h =
    let v = constant_value (length cs) c xs in
    let e = dot-nil_right cs in
    n (omega (arith, linear))
never_fails Divides cs c k xs n h =
    one_odd (Divides-same (pos 2) (dot (replicate (length cs) (pos 0)) xs +ℤ pos 1) (pos 1) (constant_value (length cs) (pos 1) xs) h)
never_fails NotDivides cs c k xs n h = h (one-Divides (dot (replicate (length cs) (pos 0)) xs +ℤ pos 0))

-- ---- any row
pub standing_holds : (r : Row) (xs : List ℤ) → HasModulus r.kind r.k → HoldsRow (standing_row r) xs ↔ HoldsRow r xs
standing_holds r xs m = by (normal_row r) refl
  where
    told : (v : Verdict) → normal_row r ≡ v → (ys : List ℤ) → HoldsVerdict v ys ↔ HoldsRow r ys
    told v e ys = subst (λ w. HoldsVerdict w ys ↔ HoldsRow r ys) e (normal_row_holds r ys m)

    by : (v : Verdict) → normal_row r ≡ v → HoldsRow (standing_as r v) xs ↔ HoldsRow r xs
    by Always e = (
      (λ h. (told Always e xs).0 tt),
      (λ h. always_holds r.kind r.coefs r.constant r.k xs ((told Always e []).0 tt)),
    )
    by Never e = (
      (λ h. absurd (never_fails r.kind r.coefs r.constant r.k xs (told Never e []).1 h)),
      (λ h. absurd ((told Never e xs).1 h)),
    )
    by (Kept n) e = told (Kept n) e xs

always_formed : (n : ℕ) (kind : RowKind) (cs : List ℤ) (c : ℤ) → length cs ≡ n → IsWellFormed n (always_row kind cs c)
always_formed n Zero cs c w = record { width = length-replicate (length cs) (pos 0) ∙ w; modulus = refl }
always_formed n AtLeast cs c w = record { width = length-replicate (length cs) (pos 0) ∙ w; modulus = refl }
always_formed n Divides cs c w = record { width = length-replicate (length cs) (pos 0) ∙ w; modulus = omega arith }
always_formed n NotDivides cs c w = record { width = length-replicate (length cs) (pos 0) ∙ w; modulus = omega arith }

never_formed : (n : ℕ) (kind : RowKind) (cs : List ℤ) (c : ℤ) → length cs ≡ n → IsWellFormed n (never_row kind cs c)
never_formed n Zero cs c w = record { width = length-replicate (length cs) (pos 0) ∙ w; modulus = refl }
never_formed n AtLeast cs c w = record { width = length-replicate (length cs) (pos 0) ∙ w; modulus = refl }
never_formed n Divides cs c w = record { width = length-replicate (length cs) (pos 0) ∙ w; modulus = omega arith }
never_formed n NotDivides cs c w = record { width = length-replicate (length cs) (pos 0) ∙ w; modulus = omega arith }

pub standing_over : (n : ℕ) (r : Row) → IsWellFormed n r → IsWellFormed n (standing_row r)
standing_over n r f = by (normal_row r) refl
  where
    by : (v : Verdict) → normal_row r ≡ v → IsWellFormed n (standing_as r v)
    by Always e = always_formed n r.kind r.coefs r.constant f.width
    by Never e = never_formed n r.kind r.coefs r.constant f.width
    by (Kept s) e = subst (IfKept (IsWellFormed n)) e (normal_row_well_formed n r f)
