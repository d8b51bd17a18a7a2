-- Rows that are made normal in a slice: those that are kept stand in front, the rest is still to come.
use Rattle.std.proofs.Common.{◌≡◌, sym, ap, ◌∙◌, arith, ℕ, suc, ◌+◌, ◌<◌, ◌≤◌, List, [], ◌∷◌, ◌++◌, length, get_or, set, take, drop, drop-cons, add-one, length-take, get_or-take, Option, None}
use Rattle.std.specs.Int.{int_min}
use Rattle.std.specs.List.{SwappedAt}
use Rattle.std.proofs.Math.Seq.{take-set-lt}
use Rattle.std.proofs.lemmas.Grind.{common_steps}
use Rattle.std.proofs.lemmas.List.{get_or_read, take-set-le}
use Rattle.isl_piece.specs.declared.row.Row.{Row}
use Rattle.isl_piece.specs.Normal.{Always, Never, Kept, normal_row, tighter, with_row}
use Rattle.isl_piece.proofs.NormalLaws.{normal_from, normal_from_always, normal_from_never, normal_from_kept}

-- ---- one row is kept
-- in the place of a row with the same bound
pub kept_place : (rows : List Row) (kept at place : ℕ) (p q r new : Row) → at < length rows → place < length (take kept rows) → with_row (take kept rows) r ≡ set (take kept rows) place (tighter (get_or (take kept rows) place r) r)
    → r ≡ get_or rows at r → q ≡ get_or rows at q → p ≡ get_or rows place p → new ≡ record p { constant = int_min p.constant q.constant } → (d : Row) → take kept (set rows place new) ≡ with_row (take kept rows) (get_or rows at d)
kept_place rows kept at place p q r new l h w r_is q_is p_is e d =
    let inside : place < length rows = omega (arith, length-take kept rows) in
    let before : place < kept = omega (arith, length-take kept rows) in
    let same : q ≡ r = get_or_read rows at q l q_is d ∙ sym (get_or_read rows at r l r_is d) in
    let first : get_or (take kept rows) place r ≡ p = rw get_or-take (sym (get_or_read rows place p inside p_is r)) in
    let made : tighter (get_or (take kept rows) place r) r ≡ new = ap (λ (x : Row). tighter x r) first ∙ ap (λ (x : Row). tighter p x) (sym same) ∙ sym e in
    take-set-lt kept rows place new before ∙ ap (set (take kept rows) place) (sym made) ∙ sym w ∙ ap (with_row (take kept rows)) (get_or_read rows at r l r_is d)

-- behind them
pub kept_last : (rows ys : List Row) (kept at : ℕ) (r : Row) → kept ≤ at → at < length rows → r ≡ get_or rows at r → SwappedAt rows ys kept at → with_row (take kept rows) r ≡ take kept rows ++ r ∷ [] → (d : Row) → take (kept + 1) ys ≡ with_row (take kept rows) (get_or rows at d)
kept_last rows ys kept at r h l is s w d =
    let here : get_or rows at d ≡ r = sym (get_or_read rows at r l is d) in
    front ∙ ap (λ x. take kept rows ++ x ∷ []) here ∙ sym w ∙ ap (with_row (take kept rows)) (sym here)
  where
    front : take (kept + 1) ys ≡ take kept rows ++ get_or rows at d ∷ []
    front = grind (arith, common_steps)

-- ---- one row more has come
module _ (rows : List Row) (kept at : ℕ) (r : Row) (h : kept ≤ at) (l : at < length rows) (is : r ≡ get_or rows at r) where
  next_row : drop at rows ≡ r ∷ drop (at + 1) rows
  next_row = rw add-one (drop-cons rows at r l ∙ ap (λ x. x ∷ drop (suc at) rows) (sym is))

  kept_front : (s : Row) → take kept (set rows at s) ≡ take kept rows
  kept_front s = take-set-le kept rows at s h

  rest_after : (s : Row) → drop (at + 1) (set rows at s) ≡ drop (at + 1) rows
  rest_after s = grind (arith, common_steps)

  pub come_always : (s : Row) (o : Option (List Row)) → normal_row r ≡ Always → normal_from (take kept rows) (drop at rows) ≡ o → normal_from (take kept (set rows at s)) (drop (at + 1) (set rows at s)) ≡ o
  come_always s o v e = ap (λ xs. normal_from xs (drop (at + 1) (set rows at s))) (kept_front s) ∙ ap (normal_from (take kept rows)) (rest_after s) ∙ sym (normal_from_always (take kept rows) r (drop (at + 1) rows) v) ∙ ap (normal_from (take kept rows)) (sym next_row) ∙ e

  pub come_never : (o : Option (List Row)) → normal_row r ≡ Never → normal_from (take kept rows) (drop at rows) ≡ o → o ≡ None
  come_never o v e = sym e ∙ ap (normal_from (take kept rows)) next_row ∙ normal_from_never (take kept rows) r (drop (at + 1) rows) v

  pub come_kept : (s : Row) (ys : List Row) (more : ℕ) (o : Option (List Row)) → normal_row r ≡ Kept s → ((d : Row) → take more ys ≡ with_row (take kept (set rows at s)) (get_or (set rows at s) at d)) → drop (at + 1) ys ≡ drop (at + 1) (set rows at s)
      → normal_from (take kept rows) (drop at rows) ≡ o → normal_from (take more ys) (drop (at + 1) ys) ≡ o
  come_kept s ys more o v front rest e =
      let here : get_or (set rows at s) at r ≡ s = grind (arith, common_steps) in
      ap (λ xs. normal_from xs (drop (at + 1) ys)) (front r ∙ ap (λ xs. with_row xs (get_or (set rows at s) at r)) (kept_front s) ∙ ap (with_row (take kept rows)) here)
      ∙ ap (normal_from (with_row (take kept rows) s)) (rest ∙ rest_after s)
      ∙ sym (normal_from_kept (take kept rows) r (drop (at + 1) rows) s v) ∙ ap (normal_from (take kept rows)) (sym next_row) ∙ e
