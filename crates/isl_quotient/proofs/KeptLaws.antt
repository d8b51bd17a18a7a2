-- What a step keeps: no definition names a column that is still to go; and the rows that the new definition tells.
use Rattle.std.proofs.Common.{◌≡◌, ◌≢◌, ◌⊎◌, inl, inr, refl, sym, ap, subst, ◌∙◌, arith, true, false, ℕ, zero, suc, ◌-◌, ◌<◌, ◌≤◌, ℤ, pos}
use Rattle.std.proofs.Common.{neg_ℤ, ◌+ℤ◌, ◌-ℤ◌, ◌*ℤ◌, ◌≤ℤ◌, ◌<ℤ◌, List, [], ◌∷◌, ◌++◌, length, get_or, map}
use Rattle.std.specs.Prelude.{nat_lt}
use Rattle.std.specs.List.{insert, remove}
use Rattle.std.proofs.lemmas.List.Elements.{All-nil, All-cons, All-map, All-append}
use Rattle.isl_math.specs.Dot.{dot}
use Rattle.isl_math.proofs.Ring.{expand, linear}
use Rattle.isl_math.proofs.ColumnLaws.{dot-insert}
use Rattle.isl_math.proofs.DivideLaws.{IsFloor-floor_div}
use Rattle.isl_piece.specs.declared.definition.Definition.{Definition}
use Rattle.isl_piece.specs.declared.row.Row.{Row}
use Rattle.isl_piece.specs.Definition.{defined_value}
use Rattle.isl_piece.specs.Row.{HoldsRow, HoldsValue, value_at, coef_at}
use Rattle.isl_elim.specs.Others.{lowered}
use Rattle.isl_quotient.specs.Quotient.{turned_row, short_definition, quotient_of, IsQuotient, IsUndefining}
use Rattle.isl_quotient.proofs.QuotientLaws.{value-turned, opposite-at, dot-opposite}

-- ---- columns that are still to go
removed_below : (cs : List ℤ) (col c : ℕ) → c < col → get_or (remove cs col) c (pos 0) ≡ get_or cs c (pos 0)
removed_below [] zero c l = absurd (omega arith)
removed_below [] (suc col) c l = refl
removed_below (x ∷ cs) zero c l = absurd (omega arith)
removed_below (x ∷ cs) (suc col) zero l = refl
removed_below (x ∷ cs) (suc col) (suc c) l = removed_below cs col c (omega arith)

removed_above : (cs : List ℤ) (col c : ℕ) → col ≤ c → get_or (remove cs col) c (pos 0) ≡ get_or cs (suc c) (pos 0)
removed_above [] zero c l = refl
removed_above [] (suc col) c l = refl
removed_above (x ∷ cs) zero c l = refl
removed_above (x ∷ cs) (suc col) zero l = absurd (omega arith)
removed_above (x ∷ cs) (suc col) (suc c) l = removed_above cs col c (omega arith)

sides : (c col : ℕ) → c ≢ col → (c < col) ⊎ (col < c)
sides c col n = grind arith

-- a coefficient moves as its column does
pub removed_lowered : (cs : List ℤ) (col c : ℕ) → c ≢ col → get_or (remove cs col) (lowered col c) (pos 0) ≡ get_or cs c (pos 0)
removed_lowered cs col c n = elim (sides c col n) [
  | inl l ↦ let m : nat_lt col c ≡ false = grind arith in rw m (removed_below cs col c l)
  | inr l ↦
      let m : nat_lt col c ≡ true = grind arith in
      let back : suc (c - 1) ≡ c = omega (arith, l) in
      rw m (removed_above cs col (c - 1) (omega (arith, l)) ∙ ap (λ (j : ℕ). get_or cs j (pos 0)) back)
]

-- no definition names the column where it stands then
pub undefining_kept : (col c : ℕ) (definitions : List Definition) (upper lower : Row) → c ≢ col → IsUndefining c definitions
    → get_or upper.coefs c (pos 0) ≡ pos 0
    → IsUndefining (lowered col c) (map (short_definition col) definitions ++ quotient_of col upper lower ∷ [])
undefining_kept col c definitions upper lower n h z =
    let P : Definition → Type 0 = λ d. get_or d.coefs (lowered col c) (pos 0) ≡ pos 0 in
    All-append P (map (short_definition col) definitions) (quotient_of col upper lower ∷ [])
    (All-map P (short_definition col) definitions (λ k d i. removed_lowered (get_or definitions k d).coefs col c n ∙ h k d i))
    (All-cons P (quotient_of col upper lower) [] (removed_lowered upper.coefs col c n ∙ z) (All-nil P))

-- ---- rows that the definition tells
told_least : (v u c f k x d : ℤ) → v ≡ u +ℤ d → u ≡ c *ℤ x +ℤ f → c ≡ neg_ℤ k → (k *ℤ x) ≤ℤ (f +ℤ d) → pos 0 ≤ℤ v
told_least v u c f k x d e g h l =
    let g' = simp expand at (g ∙ ap (λ w. w *ℤ x +ℤ f) h) in
    let l' = simp expand at l in
    simp expand (omega (arith, linear, e))

-- the upper bound holds at the quotient
pub upper_told : (col : ℕ) (upper lower : Row) (full : List ℤ) → IsQuotient col upper lower → length upper.coefs ≡ suc (length full)
    → col ≤ length full
    → HoldsRow (turned_row col upper) (full ++ defined_value (quotient_of col upper lower) full ∷ [])
upper_told col upper lower full q w l =
    let x = defined_value (quotient_of col upper lower) full in
    let f = dot (remove upper.coefs col) full in
    let k = coef_at lower col in
    let turn : get_or upper.coefs col (pos 0) ≡ neg_ℤ k =
    ap (λ (cs : List ℤ). get_or cs col (pos 0)) q.opposite ∙ opposite-at lower.coefs col in
    let there = dot-insert upper.coefs full col x (omega (arith, w, l)) l in
    let value = value-turned col upper full x w l in
    let floor = IsFloor-floor_div (f +ℤ upper.constant) k q.positive in
    subst (λ kind. HoldsValue kind upper.k (value_at (turned_row col upper) (full ++ x ∷ []))) (sym q.upper_kind)
    (told_least (value_at (turned_row col upper) (full ++ x ∷ [])) (dot upper.coefs (insert full col x)) (get_or upper.coefs col (pos 0)) f
    k x upper.constant value there turn floor.below)

told_most : (v u t c f k x d e : ℤ) → v ≡ t +ℤ e → t ≡ neg_ℤ u → u ≡ c *ℤ x +ℤ f → c ≡ neg_ℤ k → d +ℤ e ≡ k -ℤ pos 1
    → (f +ℤ d) <ℤ (k *ℤ x +ℤ k) → pos 0 ≤ℤ v
told_most v u t c f k x d e a b g h s l =
    let g' = simp expand at (g ∙ ap (λ w. w *ℤ x +ℤ f) h) in
    let l' = simp expand at l in
    simp expand (omega (arith, linear, a, b, s))

-- and the lower one, where it leaves all remainders
pub lower_told : (col : ℕ) (upper lower : Row) (full : List ℤ) → IsQuotient col upper lower
    → upper.constant +ℤ lower.constant ≡ coef_at lower col -ℤ pos 1
    → length upper.coefs ≡ suc (length full) → length lower.coefs ≡ suc (length full) → col ≤ length full
    → HoldsRow (turned_row col lower) (full ++ defined_value (quotient_of col upper lower) full ∷ [])
lower_told col upper lower full q s w v l =
    let x = defined_value (quotient_of col upper lower) full in
    let xs = insert full col x in
    let f = dot (remove upper.coefs col) full in
    let k = coef_at lower col in
    let turn : get_or upper.coefs col (pos 0) ≡ neg_ℤ k =
    ap (λ (cs : List ℤ). get_or cs col (pos 0)) q.opposite ∙ opposite-at lower.coefs col in
    let both : dot upper.coefs xs ≡ neg_ℤ (dot lower.coefs xs) = ap (λ (cs : List ℤ). dot cs xs) q.opposite ∙ dot-opposite lower.coefs xs in
    let there = dot-insert upper.coefs full col x (omega (arith, w, l)) l in
    let value = value-turned col lower full x v l in
    let floor = IsFloor-floor_div (f +ℤ upper.constant) k q.positive in
    subst (λ kind. HoldsValue kind lower.k (value_at (turned_row col lower) (full ++ x ∷ []))) (sym q.lower_kind)
    (told_most (value_at (turned_row col lower) (full ++ x ∷ [])) (dot upper.coefs xs) (dot lower.coefs xs) (get_or upper.coefs col (pos 0))
    f k x upper.constant lower.constant
    value (by (dot upper.coefs xs) (dot lower.coefs xs) both) there turn s floor.above)
  where
    by : (a b : ℤ) → a ≡ neg_ℤ b → b ≡ neg_ℤ a
    by a b e = omega (arith, linear, e)
