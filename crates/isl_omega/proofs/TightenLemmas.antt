-- A bound divided by the content of its columns.
use Rattle.std.proofs.Common.{◌≡◌, ◌≢◌, ◌∙◌, refl, sym, ap, arith, ℕ, zero, suc, ◌-◌, ◌^◌, ◌<◌, ℤ, pos, ◌<ℤ◌, List, [], ◌∷◌, length, get_or, unsigned_abs}
use Rattle.isl_meter.specs.Gauge.{Gauge}
use Rattle.isl_math.specs.Divide.{Divides, floor_div}
use Rattle.isl_math.specs.Gcd.{content}
use Rattle.isl_math.proofs.Ring.{linear}
use Rattle.isl_math.proofs.OrderLaws.{<ℤ-from_*ℤ}
use Rattle.isl_math.proofs.GcdLaws.{IsContentOf-content}
use Rattle.isl_piece.specs.declared.row.RowKind.{RowKind}
use Rattle.isl_piece.specs.declared.row.RowKind.TheVariants.{AtLeast}
use Rattle.isl_piece.specs.declared.row.Row.{Row}
use Rattle.isl_piece.specs.Normal.{Kept, normal_row, normal_form, normal_at_least, bound}
use Rattle.isl_piece.specs.Numbers.{divided}
use Rattle.isl_piece.specs.Row.{IsWellFormed, IsRowWithin, coef_at}
use Rattle.isl_piece.proofs.NormalCases.{normal_at_least_by, content_positive}
use Rattle.isl_math.proofs.DivideLaws.{exact_quotient}
use Rattle.isl_math.proofs.MagnitudeLaws.{up_to-floor_div}
use Rattle.isl_piece.proofs.RowMagnitudes.{up_to_limit, within_limit}
use Rattle.isl_piece.proofs.PointLaws.{normal_row_holds}
use Rattle.isl_piece.proofs.ShapeLaws.{normal_row_well_formed, normal_row_up_to}
use Rattle.isl_omega.specs.Tighten.{IsLessened, IsTightened}

lessened_quotient : (c g : ℤ) → pos 0 <ℤ g → Divides g c → IsLessened c (floor_div c g)
lessened_quotient c g p d =
    let e = exact_quotient g c p d in
    record {
      above = λ h. <ℤ-from_*ℤ g (pos 0) (floor_div c g) (omega (arith, linear)) (omega (arith, linear));
      below = λ h. <ℤ-from_*ℤ g (floor_div c g) (pos 0) (omega (arith, linear)) (omega (arith, linear));
      small = up_to-floor_div (unsigned_abs c) c g p (omega arith);
    }

get_or-divided : (g : ℤ) (xs : List ℤ) (i : ℕ) → i < length xs → get_or (divided g xs) i (pos 0) ≡ floor_div (get_or xs i (pos 0)) g
get_or-divided g [] i h = absurd (omega arith)
get_or-divided g (x ∷ xs) zero h = refl
get_or-divided g (x ∷ xs) (suc i) h = get_or-divided g xs i (omega arith)

lessened_columns : (cs : List ℤ) (c : ℤ) (tight : Row) → normal_at_least cs c ≡ Kept tight → (i : ℕ) → i < length cs → IsLessened (get_or cs i (pos 0)) (coef_at tight i)
lessened_columns cs c tight = normal_at_least_by (λ v. v ≡ Kept tight → (i : ℕ) → i < length cs → IsLessened (get_or cs i (pos 0)) (coef_at tight i)) cs c
    (λ e h f. cc)
    (λ e h f. cc)
    (λ n f i l. by n f i l)
  where
    by : content cs ≢ pos 0 → Kept (bound (divided (content cs) cs) (floor_div c (content cs))) ≡ Kept tight → (i : ℕ) → i < length cs → IsLessened (get_or cs i (pos 0)) (coef_at tight i)
    by n f i l =
        let same : bound (divided (content cs) cs) (floor_div c (content cs)) ≡ tight = cc in
        let read : coef_at tight i ≡ floor_div (get_or cs i (pos 0)) (content cs) = ap (λ (r : Row). coef_at r i) (sym same) ∙ get_or-divided (content cs) cs i l in
        rw read (lessened_quotient (get_or cs i (pos 0)) (content cs) (content_positive cs n) ((IsContentOf-content cs).common i (pos 0) l))

kind_kept : (cs : List ℤ) (c : ℤ) (tight : Row) → normal_at_least cs c ≡ Kept tight → tight.kind ≡ AtLeast
kind_kept cs c tight = normal_at_least_by (λ v. v ≡ Kept tight → tight.kind ≡ AtLeast) cs c (λ e h f. cc) (λ e h f. cc) (λ n f. by n f)
  where
    by : content cs ≢ pos 0 → Kept (bound (divided (content cs) cs) (floor_div c (content cs))) ≡ Kept tight → tight.kind ≡ AtLeast
    by n f = let same : bound (divided (content cs) cs) (floor_div c (content cs)) ≡ tight = cc in ap (λ (r : Row). r.kind) (sym same)

at_least_form : (kind : RowKind) (cs : List ℤ) (c k : ℤ) (tight : Row) → kind ≡ AtLeast → normal_form kind cs c k ≡ Kept tight → normal_at_least cs c ≡ Kept tight
at_least_form kind cs c k tight is e = rw is at e

pub tightened_kept : (columns : ℕ) (row tight : Row) → row.kind ≡ AtLeast → IsWellFormed columns row → normal_row row ≡ Kept tight → IsTightened columns row tight
tightened_kept columns row tight is w e =
    let f = at_least_form row.kind row.coefs row.constant row.k tight is e in
    record {
      formed = rw e at (normal_row_well_formed columns row w);
      kind = kind_kept row.coefs row.constant tight f;
      same = λ xs. rw e at (normal_row_holds row xs w.modulus);
      coefs = λ col l. lessened_columns row.coefs row.constant tight f col (let n = w.width in omega arith);
      up_to = λ b h. rw e at (normal_row_up_to b row w.modulus h);
    }

pub tightened_itself : (columns : ℕ) (row : Row) → row.kind ≡ AtLeast → IsWellFormed columns row → IsTightened columns row row
tightened_itself columns row is w = record {
  formed = w;
  kind = is;
  same = λ xs. ((λ h. h), (λ h. h));
  coefs = λ col l. record { above = λ h. h; below = λ h. h; small = omega arith };
  up_to = λ b h. h;
}

-- ---- numbers within a limit
pub tightened_within : (g : Gauge) (columns : ℕ) (row tight : Row) → IsTightened columns row tight → IsRowWithin g row → IsRowWithin g tight
tightened_within g columns row tight t w = within_limit g tight (t.up_to (2 ^ g.bits - 1) (up_to_limit g row w))

pub kept_is_bound : (row tight : Row) → row.kind ≡ AtLeast → normal_row row ≡ Kept tight → tight.kind ≡ AtLeast
kept_is_bound row tight is e = kind_kept row.coefs row.constant tight (at_least_form row.kind row.coefs row.constant row.k tight is e)
