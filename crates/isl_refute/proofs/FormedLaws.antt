-- What a step adds is over the columns of the rows before it.
use Rattle.std.proofs.Common.{◌≡◌, ◌∙◌, refl, sym, arith, subst, Bool, true, false, ◌&&◌, int_lt, int_eq, ℕ, ◌+◌, ℤ, pos, neg_ℤ, negsuc}
use Rattle.std.proofs.Common.{◌+ℤ◌, ◌*ℤ◌, List, [], ◌∷◌, ◌++◌, length, length-append, Option, Some, None, cond}
use Rattle.std.specs.Cmp.Lexicographic.{pointwise}
use Rattle.std.proofs.lemmas.Bool.{and_parts}
use Rattle.std.proofs.lemmas.Option.{cond_some, none-some, same_Some}
use Rattle.isl_math.specs.Divide.{floor_mod}
use Rattle.isl_math.specs.Dot.{scaled, weighted_sum}
use Rattle.isl_math.proofs.Ring.{linear}
use Rattle.isl_piece.specs.declared.row.RowKind.{RowKind}
use Rattle.isl_piece.specs.declared.row.RowKind.TheVariants.{Zero, AtLeast, Divides, NotDivides}
use Rattle.isl_piece.specs.declared.row.Row.{Row}
use Rattle.isl_piece.specs.Normal.{congruence}
use Rattle.isl_piece.specs.Row.{HasModulus, IsWellFormed}
use Rattle.isl_refute.specs.Refutes.{is_factor, kind_of_sum, same_modulus, of_kind, sum_row, tie_row, mod_row, weaken_row, fresh_row}
use Rattle.isl_refute.specs.Refutes.{is_equality, is_bound, is_congruence, equality}
use Rattle.isl_refute.proofs.StepLaws.{lt_from, length-sum}

-- ---- sums
abbrev HasOne : Option (RowKind × ℤ) → Type 0
HasOne None = Unit {0}
HasOne (Some both) = HasModulus both.0 both.1

same_one : (kind : RowKind) (j k : ℤ) → HasModulus kind j → HasOne (same_modulus kind j k)
same_one kind j k m = by (int_eq j k)
  where
    by : (t : Bool) → HasOne (cond t (Some (kind, j)) None)
    by true = m
    by false = tt

kinds_formed : (first second : RowKind) (j k : ℤ) → HasModulus first j → HasModulus second k → HasOne (kind_of_sum first j second k)
kinds_formed Zero other j k l m = m
kinds_formed AtLeast Zero j k l m = l
kinds_formed AtLeast AtLeast j k l m = l
kinds_formed AtLeast Divides j k l m = tt
kinds_formed AtLeast NotDivides j k l m = tt
kinds_formed Divides Zero j k l m = l
kinds_formed Divides AtLeast j k l m = tt
kinds_formed Divides Divides j k l m = same_one Divides j k l
kinds_formed Divides NotDivides j k l m = same_one NotDivides j k l
kinds_formed NotDivides Zero j k l m = l
kinds_formed NotDivides AtLeast j k l m = tt
kinds_formed NotDivides Divides j k l m = same_one NotDivides j k l
kinds_formed NotDivides NotDivides j k l m = tt

of_kind_formed : (n : ℕ) (o : Option (RowKind × ℤ)) (cs : List ℤ) (c : ℤ) (made : Row) → HasOne o → length cs ≡ n
    → of_kind o cs c ≡ Some made
    → IsWellFormed n made
of_kind_formed n None cs c made h w e = absurd (none-some made e)
of_kind_formed n (Some both) cs c made h w e =
    subst (IsWellFormed n) (same_Some (record { kind = both.0; coefs = cs; constant = c; k = both.1 }) made e)
    (record { width = w; modulus = h })

split_some : (t : Bool) (o : Option Row) (made : Row) → cond t o None ≡ Some made → o ≡ Some made
split_some true o made e = e
split_some false o made e = absurd (none-some made e)

pub sum_formed : (n : ℕ) (a b : ℤ) (r s made : Row) → IsWellFormed n r → IsWellFormed n s → sum_row a b r s ≡ Some made
    → IsWellFormed n made
sum_formed n a b r s made p q e =
    of_kind_formed n (kind_of_sum r.kind r.k s.kind s.k) (weighted_sum a r.coefs b s.coefs) (a *ℤ r.constant +ℤ b *ℤ s.constant) made
    (kinds_formed r.kind s.kind r.k s.k p.modulus q.modulus) (length-sum a b r.coefs s.coefs (p.width ∙ sym q.width) ∙ p.width)
    (split_some (is_factor r.kind a && is_factor s.kind b)
    (of_kind (kind_of_sum r.kind r.k s.kind s.k) (weighted_sum a r.coefs b s.coefs) (a *ℤ r.constant +ℤ b *ℤ s.constant)) made e)

-- ---- one row or two
pub tie_formed : (n : ℕ) (r s made : Row) → IsWellFormed n r → tie_row r s ≡ Some made → IsWellFormed n made
tie_formed n r s made p e =
    subst (IsWellFormed n)
    (cond_some
    (is_bound r.kind && (is_bound s.kind && (pointwise int_eq s.coefs (scaled (negsuc 0) r.coefs) && int_eq s.constant (neg_ℤ r.constant))))
    (equality r.coefs r.constant) made e).1
    (record { width = p.width; modulus = refl })

pub mod_formed : (n : ℕ) (k : ℤ) (r made : Row) → IsWellFormed n r → mod_row k r ≡ Some made → IsWellFormed n made
mod_formed n k r made p e =
    let found = cond_some (is_equality r.kind && int_lt (pos 1) k) (congruence r.coefs r.constant k) made e in
    let large = lt_from (pos 1) k (and_parts (is_equality r.kind) (int_lt (pos 1) k) found.0).1 in
    subst (IsWellFormed n) found.1 (record { width = p.width; modulus = omega (arith, linear) })

pub weaken_formed : (n : ℕ) (k : ℤ) (r made : Row) → IsWellFormed n r → weaken_row k r ≡ Some made → IsWellFormed n made
weaken_formed n k r made p e =
    let multiple = int_eq (floor_mod r.k k) (pos 0) in
    let found = cond_some (is_congruence r.kind && (int_lt (pos 1) k && multiple)) (congruence r.coefs r.constant k) made e in
    let rest = and_parts (is_congruence r.kind) (int_lt (pos 1) k && multiple) found.0 in
    let large = lt_from (pos 1) k (and_parts (int_lt (pos 1) k) multiple rest.1).0 in
    subst (IsWellFormed n) found.1 (record { width = p.width; modulus = omega (arith, linear) })

pub fresh_formed : (n : ℕ) (r made : Row) → IsWellFormed n r → fresh_row r ≡ Some made → IsWellFormed (n + 1) made
fresh_formed n r made p e =
    let found = cond_some (is_congruence r.kind) (equality (r.coefs ++ neg_ℤ r.k ∷ []) r.constant) made e in
    subst (IsWellFormed (n + 1)) found.1 (record {
      width = (let l = length-append r.coefs (neg_ℤ r.k ∷ []) in let w = p.width in omega arith);
      modulus = refl;
    })
