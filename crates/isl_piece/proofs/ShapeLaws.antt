-- The normal form of a row is a row over the same columns, with no greater numbers, and is its own normal form.
use Rattle.std.proofs.Common.{◌≡◌, refl, ◌∙◌, arith, ℕ, zero, suc, ◌≤◌, ℤ, pos, negsuc, neg_ℤ, ◌*ℤ◌, ◌<ℤ◌, List, [], ◌∷◌, length, unsigned_abs}
use Rattle.std.specs.List.{All}
use Rattle.std.proofs.lemmas.List.Elements.{All-nil, All-cons, All-head, All-tail}
use Rattle.isl_math.specs.Divide as divide
use Rattle.isl_math.specs.Divide.{floor_div, floor_mod}
use Rattle.isl_math.specs.Dot.{scaled}
use Rattle.isl_math.specs.Gcd.{content}
use Rattle.isl_math.specs.Order.{sign_of}
use Rattle.isl_math.proofs.Ring.{linear}
use Rattle.isl_math.proofs.MagnitudeLaws.{IsUpTo, up_to-floor_div, up_to-floor_mod}
use Rattle.isl_math.proofs.GcdLaws.{IsContentOf-content}
use Rattle.isl_piece.specs.declared.row.RowKind.{RowKind}
use Rattle.isl_piece.specs.declared.row.RowKind.TheVariants.{Zero, AtLeast, Divides, NotDivides}
use Rattle.isl_piece.specs.declared.row.Row.{Row}
use Rattle.isl_piece.specs.Normal.{Verdict, Always, Never, Kept}
use Rattle.isl_piece.specs.Numbers.{divided, reduced, lead}
use Rattle.isl_piece.specs.Row.{HasModulus, IsWellFormed, IsRowUpTo}
use Rattle.isl_piece.specs.Normal.{normal_divides, normal_form, normal_row, negated, lesser}
use Rattle.isl_piece.proofs.NumberLaws.{length-divided, length-reduced, length-opposite, IsUpTo-divided, IsUpTo-reduced, IsUpTo-opposite, positive-divided}
use Rattle.isl_piece.proofs.ContentLaws.{length-scaled}
use Rattle.isl_piece.proofs.NormalCases.{content_positive, common_part, common_part-positive, divided_congruence, normal_zero_by, normal_at_least_by, normal_divides_by, lesser_by}

-- the kept row, if there is one, has P
abbrev pub IfKept : (Row → Type 0) → Verdict → Type 0
IfKept P Always = Unit {0}
IfKept P Never = Unit {0}
IfKept P (Kept r) = P r

-- ---- columns and modulus
well_formed_lesser : (n : ℕ) (r : Row) → IsWellFormed n r → IsWellFormed n (lesser r)
well_formed_lesser n r h = lesser_by (IsWellFormed n) r h (record { width = length-opposite r.k r.coefs ∙ h.width; modulus = h.modulus })

well_formed_divides : (n : ℕ) (cs : List ℤ) (c k : ℤ) → length cs ≡ n → pos 0 <ℤ k → IfKept (λ r. IsWellFormed n r × (r.kind ≡ Divides)) (normal_divides cs c k)
well_formed_divides n cs c k w p = normal_divides_by (IfKept (λ r. IsWellFormed n r × (r.kind ≡ Divides))) cs c k p
    (λ m. tt)
    (λ d e. tt)
    (λ d m. (
      well_formed_lesser n (divided_congruence cs c k) (record {
        width = length-divided (common_part cs k) (reduced k cs) ∙ length-reduced k cs ∙ w;
        modulus = positive-divided (common_part cs k) k (common_part-positive cs k p) p (All-head (divide.Divides (common_part cs k)) k (reduced k cs) (IsContentOf-content (k ∷ reduced k cs)).common);
      }),
      lesser_by (λ r. r.kind ≡ Divides) (divided_congruence cs c k) refl refl,
    ))

well_formed_negated : (n : ℕ) (v : Verdict) → IfKept (λ r. IsWellFormed n r × (r.kind ≡ Divides)) v → IfKept (IsWellFormed n) (negated v)
well_formed_negated n Always h = tt
well_formed_negated n Never h = tt
well_formed_negated n (Kept r) h = record { width = h.0.width; modulus = rw h.1 at h.0.modulus }

pub IfKept-weaker : (P Q : Row → Type 0) (v : Verdict) → ((r : Row) → P r → Q r) → IfKept P v → IfKept Q v
IfKept-weaker P Q Always f h = tt
IfKept-weaker P Q Never f h = tt
IfKept-weaker P Q (Kept r) f h = f r h

well_formed_form : (n : ℕ) (kind : RowKind) (cs : List ℤ) (c k : ℤ) → length cs ≡ n → HasModulus kind k → IfKept (IsWellFormed n) (normal_form kind cs c k)
well_formed_form n Zero cs c k w h = normal_zero_by (IfKept (IsWellFormed n)) cs c (λ e f. tt) (λ e f. tt) (λ e f. tt)
    (λ m d. record { width = length-scaled (sign_of (lead (divided (content cs) cs))) (divided (content cs) cs) ∙ length-divided (content cs) cs ∙ w; modulus = refl })
well_formed_form n AtLeast cs c k w h = normal_at_least_by (IfKept (IsWellFormed n)) cs c (λ e f. tt) (λ e f. tt)
    (λ m. record { width = length-divided (content cs) cs ∙ w; modulus = refl })
well_formed_form n Divides cs c k w h = IfKept-weaker (λ r. IsWellFormed n r × (r.kind ≡ Divides)) (IsWellFormed n) (normal_divides cs c k) (λ r g. g.0) (well_formed_divides n cs c k w h)
well_formed_form n NotDivides cs c k w h = well_formed_negated n (normal_divides cs c k) (well_formed_divides n cs c k w h)

pub normal_row_well_formed : (n : ℕ) (r : Row) → IsWellFormed n r → IfKept (IsWellFormed n) (normal_row r)
normal_row_well_formed n r h = well_formed_form n r.kind r.coefs r.constant r.k h.width h.modulus

-- ---- magnitudes
abs-signed : (b : ℕ) (y z : ℤ) → unsigned_abs z ≤ b → unsigned_abs (sign_of y *ℤ z) ≤ b
abs-signed b (pos zero) z h = omega (arith, linear)
abs-signed b (pos (suc y)) z h = omega (arith, linear)
abs-signed b (negsuc y) z h = omega (arith, linear)

IsUpTo-signed : (b : ℕ) (y : ℤ) (xs : List ℤ) → All (IsUpTo b) xs → All (IsUpTo b) (scaled (sign_of y) xs)
IsUpTo-signed b y [] h = All-nil (IsUpTo b)
IsUpTo-signed b y (x ∷ xs) h = All-cons (IsUpTo b) (sign_of y *ℤ x) (scaled (sign_of y) xs) (abs-signed b y x (All-head (IsUpTo b) x xs h)) (IsUpTo-signed b y xs (All-tail (IsUpTo b) x xs h))

one_up_to : (b : ℕ) (k : ℤ) → pos 0 <ℤ k → unsigned_abs k ≤ b → 1 ≤ b
one_up_to b k p h = omega (arith, linear)

up_to_lesser : (b : ℕ) (r : Row) → pos 0 <ℤ r.k → IsRowUpTo b r → IsRowUpTo b (lesser r)
up_to_lesser b r p h = lesser_by (IsRowUpTo b) r h (record { coefs = IsUpTo-opposite b r.k r.coefs p h.k; constant = up_to-floor_mod b (neg_ℤ r.constant) r.k p h.k; k = h.k })

up_to_divides : (b : ℕ) (cs : List ℤ) (c k : ℤ) → pos 0 <ℤ k → unsigned_abs k ≤ b → IfKept (IsRowUpTo b) (normal_divides cs c k)
up_to_divides b cs c k p h = normal_divides_by (IfKept (IsRowUpTo b)) cs c k p
    (λ m. tt)
    (λ d e. tt)
    (λ d m.
    let g = common_part cs k in
    let q = common_part-positive cs k p in
    let part = All-head (divide.Divides g) k (reduced k cs) (IsContentOf-content (k ∷ reduced k cs)).common in
    up_to_lesser b (divided_congruence cs c k) (positive-divided g k q p part) (record {
      coefs = IsUpTo-divided b g (reduced k cs) q (IsUpTo-reduced b k cs p h);
      constant = up_to-floor_div b (floor_mod c k) g q (up_to-floor_mod b c k p h);
      k = up_to-floor_div b k g q h;
    }))

up_to_negated : (b : ℕ) (v : Verdict) → IfKept (IsRowUpTo b) v → IfKept (IsRowUpTo b) (negated v)
up_to_negated b Always h = tt
up_to_negated b Never h = tt
up_to_negated b (Kept r) h = record { coefs = h.coefs; constant = h.constant; k = h.k }

up_to_form : (b : ℕ) (kind : RowKind) (cs : List ℤ) (c k : ℤ) → HasModulus kind k → All (IsUpTo b) cs → IsUpTo b c → IsUpTo b k → IfKept (IsRowUpTo b) (normal_form kind cs c k)
up_to_form b Zero cs c k p h i j = normal_zero_by (IfKept (IsRowUpTo b)) cs c (λ e f. tt) (λ e f. tt) (λ e f. tt)
    (λ m d.
    let g = content cs in
    let q = content_positive cs m in
    let first = lead (divided g cs) in
    record { coefs = IsUpTo-signed b first (divided g cs) (IsUpTo-divided b g cs q h); constant = abs-signed b first (floor_div c g) (up_to-floor_div b c g q i); k = rw p at j })
up_to_form b AtLeast cs c k p h i j = normal_at_least_by (IfKept (IsRowUpTo b)) cs c (λ e f. tt) (λ e f. tt)
    (λ m. let q = content_positive cs m in record { coefs = IsUpTo-divided b (content cs) cs q h; constant = up_to-floor_div b c (content cs) q i; k = rw p at j })
up_to_form b Divides cs c k p h i j = up_to_divides b cs c k p j
up_to_form b NotDivides cs c k p h i j = up_to_negated b (normal_divides cs c k) (up_to_divides b cs c k p j)

-- no number passes the greatest magnitude that was there
pub normal_row_up_to : (b : ℕ) (r : Row) → HasModulus r.kind r.k → IsRowUpTo b r → IfKept (IsRowUpTo b) (normal_row r)
normal_row_up_to b r d h = up_to_form b r.kind r.coefs r.constant r.k d h.coefs h.constant h.k
