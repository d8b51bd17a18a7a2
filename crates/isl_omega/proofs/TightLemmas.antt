-- What the normal forms of the real and the dark row of a pair show.
use Rattle.std.proofs.Common.{◌≡◌, refl, ℤ, List}
use Rattle.isl_piece.specs.declared.row.RowKind.{RowKind}
use Rattle.isl_piece.specs.declared.row.RowKind.TheVariants.{AtLeast}
use Rattle.isl_piece.specs.declared.row.Row.{Row}
use Rattle.isl_piece.specs.Normal.{Always, Never, Kept, normal_row}
use Rattle.isl_piece.specs.Row.{HoldsRow, HoldsValue, HasModulus, value_at}
use Rattle.isl_piece.proofs.PointLaws.{normal_row_holds}
use Rattle.isl_omega.proofs.TightenLemmas.{kept_is_bound}

-- the real row holds nowhere
pub tight_never : (real dark : Row) → HasModulus real.kind real.k → normal_row real ≡ Never → (xs : List ℤ) → HoldsRow real xs → HoldsRow dark xs
tight_never real dark d e xs h = absurd (rw e at ((normal_row_holds real xs d).1 h))

-- the dark row holds everywhere
pub tight_always : (real dark : Row) → HasModulus dark.kind dark.k → normal_row dark ≡ Always → (xs : List ℤ) → HoldsRow real xs → HoldsRow dark xs
tight_always real dark d e xs h = (rw e at (normal_row_holds dark xs d)).0 tt

-- both are the same when they are normal
pub tight_same : (real dark a b : Row) → real.kind ≡ AtLeast → dark.kind ≡ AtLeast → HasModulus real.kind real.k → HasModulus dark.kind dark.k → normal_row real ≡ Kept a → normal_row dark ≡ Kept b → a.coefs ≡ b.coefs → a.constant ≡ b.constant
    → (xs : List ℤ) → HoldsRow real xs → HoldsRow dark xs
tight_same real dark a b r s d f e g same_coefs same_constant xs h =
    let first = (rw e at (normal_row_holds real xs d)).1 h in
    let second = rw g at (normal_row_holds dark xs f) in
    second.0 (by a.kind b.kind a.k b.k (value_at a xs) (value_at b xs) (kept_is_bound real a r e) (kept_is_bound dark b s g) (values a b same_coefs same_constant) first)
  where
    by : (ka kb : RowKind) (k l v w : ℤ) → ka ≡ AtLeast → kb ≡ AtLeast → v ≡ w → HoldsValue ka k v → HoldsValue kb l w
    by ka kb k l v w e f g h = rw f (rw (e, g) at h)

    values : (a b : Row) → a.coefs ≡ b.coefs → a.constant ≡ b.constant → value_at a xs ≡ value_at b xs
    values a b e f = rw (e, f) refl
