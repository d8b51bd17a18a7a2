use Rattle.std.proofs.Common.{◌≡◌, ◌∙◌, ◌+◌, sym, ap, subst, ℤ, pos, List, drop}
use Rattle.std.specs.List.{All}
use Rattle.std.proofs.lemmas.Bool.{false≢true}
use Rattle.isl_pip.proofs.LiftedLaws.{last_from, last_to}
use Rattle.isl_pip.proofs.lift.ends_at.Goals as goal

pub returns-then-not-falls_at : goal.returns-then-not-falls_at
returns-then-not-falls_at c = (
  (λ t. absurd (false≢true t)),
  (λ ends. absurd (false≢true (sym c.if-not-falls_at.true ∙ c.falls_at.ensures.1 (ends.kind, ends.falls)))),
)

pub returns : goal.returns
returns c =
    let cs = c.args.row.now.coefs in
    let n = c.args.column in
    let both = c.falls_at.ensures.0 c.if-not-falls_at.false in
    let slice = c.as_slice.ensures in (
      (λ t. record {
        kind = both.0;
        falls = both.1;
        last = last_from cs n (subst (λ (l : List ℤ). All (λ x. x ≡ pos 0) (drop (n + 1) l)) slice (c.is_last.ensures.0 t));
      }),
      (λ ends. c.is_last.ensures.1 (subst (λ (l : List ℤ). All (λ x. x ≡ pos 0) (drop (n + 1) l)) (sym slice) (last_to cs n ends.last))),
    )
