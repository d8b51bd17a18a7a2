use Rattle.std.proofs.Common.{◌≡◌, ◌+ℤ◌, ◌*ℤ◌, pos, [], ◌∷◌, arith, ap, sym, subst}
use Rattle.std.specs.Prelude.{◌<ℤ◌}
use Rattle.isl_piece.specs.declared.row.RowKind.{RowKind}
use Rattle.isl_piece.specs.declared.row.Row.{Row}
use Rattle.isl_piece.specs.Row.{HasModulus}
use Rattle.isl_points.proofs.RowLaws.{spared}
use Rattle.isl_points.proofs.row.LineRow.spares.Goals as goal

pub returns : goal.returns
returns c =
    let r = c.args.self.now in
    let coef = c.self.inside.coef in
    let coefs : r.coefs ≡ coef ∷ [] = ap (λ (q : Row). q.coefs) (sym c.self.view_is) in
    let constant : r.constant ≡ c.self.inside.constant = ap (λ (q : Row). q.constant) (sym c.self.view_is) in
    let modulus : r.k ≡ c.self.inside.modulus = ap (λ (q : Row). q.k) (sym c.self.view_is) in
    let above : pos 0 <ℤ r.k = subst (λ (kind : RowKind). HasModulus kind r.k) c.requires.kind c.requires.row.formed.modulus in
    let value : c.in_ok-value.value ≡ coef *ℤ c.args.x +ℤ r.constant = grind arith in
    let rest = rw (sym modulus) at c.modulo.ensures.value in (
      spared r coef c.args.x c.in_ok-value.value c.modulo.result c.is_zero.result c.requires.kind coefs value above rest c.is_zero.ensures,
      grind arith,
    )
