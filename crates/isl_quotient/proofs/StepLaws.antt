-- One column goes, and then the others: together a projection.
use Rattle.std.proofs.Common.{◌≡◌, ◌≢◌, ◌↔◌, sym, ap, subst, ◌∙◌, arith, true, ℕ, ◌-◌, ◌<◌, ℤ, pos, List, [], ◌∷◌, length, get_or}
use Rattle.std.specs.Prelude.{AllPairs}
use Rattle.std.specs.List.{insert, remove}
use Rattle.std.proofs.lemmas.List.Edits.{length-remove, length-insert}
use Rattle.std.proofs.lemmas.List.Elements.{All-nil, All-cons}
use Rattle.isl_math.proofs.ListLaws.{Any-one, Any-first, Any-none}
use Rattle.isl_piece.specs.declared.system.System.{System}
use Rattle.isl_piece.specs.System.{HoldsSystem, free_columns}
use Rattle.isl_elim.specs.Elimination.{IsProjection, IsProjectionAlong, without}
use Rattle.isl_elim.specs.Others.{others_of}
use Rattle.isl_elim.proofs.EmptinessLaws.{insert-remove}
use Rattle.isl_elim.proofs.OthersLaws.{among, without_insert, others_count}

-- one system is left of the first column
pub one_then_others : (s t : System) (col : ℕ) (cols : List ℕ) (systems : List System) → AllPairs (λ a b. a ≢ b) cols
    → among col cols ≡ true → col < free_columns s
    → IsProjection s col (t ∷ []) → free_columns t ≡ free_columns s - 1 → IsProjectionAlong t (others_of col cols) systems
    → IsProjectionAlong s cols systems
one_then_others s t col cols systems d a i one f rest =
    let count = others_count col cols d a in
    record {
      columns = λ k z l. let c = rest.columns k z l in omega (arith, c, f, count, i);
      points = λ point e.
          let at = rest.points point (omega (arith, e, f, count, i)) in (
            (λ h.
                let whole = (at.0 h).0 in
                let long = (at.0 h).1 in
                let left = (at.0 h).2 in
                let back = (one.points whole (omega (arith, long, f))).0 (Any-first (λ u. HoldsSystem u whole) t [] (at.0 h).3) in
                let wide = length-insert whole col back.0 (omega (arith, long, f, i)) in (
                  insert whole col back.0,
                  omega (arith, wide, long, f, i),
                  without_insert cols col whole back.0 a
                      (omega (arith, long, f, i)) ∙ left,
                  back.1,
                )),
            (λ h.
                let full = h.1 in
                let whole = remove h.0 col in
                let x = get_or h.0 col (pos 0) in
                let again : insert whole col x ≡ h.0 = insert-remove h.0 col (omega (arith, full, i)) in
                let short = length-remove h.0 col (omega (arith, full, i)) in
                let left : without (others_of col cols) whole ≡ point =
                sym (without_insert cols col whole x a (omega (arith, short, full, i))) ∙ ap (without cols) again ∙ h.2 in
                let holds = (one.points whole (omega (arith, short, full, i))).1 (x, subst (HoldsSystem s) (sym again) h.3) in
                at.1 (whole, omega (arith, short, full, f, i), left, Any-one (λ u. HoldsSystem u whole) t holds)),
          );
    }

-- nothing is left
pub none_left : (s : System) (col : ℕ) (cols : List ℕ) → AllPairs (λ a b. a ≢ b) cols → among col cols ≡ true → col < free_columns s
    → IsProjection s col [] → IsProjectionAlong s cols []
none_left s col cols d a i one = record {
  columns = All-nil (λ u. free_columns u ≡ free_columns s - length cols);
  points = λ point e. (
    (λ h. absurd (Any-none (λ u. HoldsSystem u point) h)),
    (λ h.
        let full = h.1 in
        let whole = remove h.0 col in
        let short = length-remove h.0 col (omega (arith, full, i)) in
        let again = insert-remove h.0 col (omega (arith, full, i)) in
        absurd (Any-none (λ u. HoldsSystem u whole) ((one.points whole (omega (arith, short, full, i))).1
        (get_or h.0 col (pos 0), subst (HoldsSystem s) (sym again) h.3)))),
  );
}

-- ---- the step
-- one system is a projection, where it holds at a point exactly where some number put at the column makes the old one hold
pub one_projection : (s t : System) (col : ℕ) → free_columns t ≡ free_columns s - 1
    → ((point : List ℤ) → length point ≡ free_columns s - 1 → HoldsSystem t point ↔ ((x : ℤ) × HoldsSystem s (insert point col x)))
    → IsProjection s col (t ∷ [])
one_projection s t col f h = record {
  columns = All-cons (λ u. free_columns u ≡ free_columns s - 1) t [] f (All-nil (λ u. free_columns u ≡ free_columns s - 1));
  points = λ point l. let same = h point l in (
    (λ any. same.0 (Any-one (λ u. HoldsSystem u point) t any)),
    (λ x. Any-first (λ u. HoldsSystem u point) t [] (same.1 x)),
  );
}
