-- Frames of strided rows: the columns that congruences of later columns name are forms.
use Rattle.std.proofs.Common.{◌≡◌, ◌≢◌, ◌⊎◌, inl, inr, refl, sym, ap, ◌∙◌, subst, arith, ℕ, ◌+◌, ◌-◌, ◌<◌, ◌≤◌, ℤ, pos, negsuc, ◌-ℤ◌}
use Rattle.std.proofs.Common.{List, [], ◌∷◌, ◌++◌, length, length-append, get_or}
use Rattle.std.specs.Prelude.{map}
use Rattle.std.specs.List.{All, Contains}
use Rattle.std.proofs.lemmas.Bool.{cases_lt}
use Rattle.std.proofs.lemmas.List.{get_or_append_left, get_or-map, get_or_at, get_or_read, length-map}
use Rattle.isl_math.specs.Divide.{IsGcdOf}
use Rattle.isl_math.proofs.DivideLaws.{coprime_from_sum}
use Rattle.isl_math.proofs.Ring.{linear}
use Rattle.isl_piece.specs.declared.row.RowKind.TheVariants.{Divides}
use Rattle.isl_piece.specs.declared.row.Row.{Row}
use Rattle.isl_piece.specs.Row.{coef_at}
use Rattle.isl_piece.specs.System.{widened}
use Rattle.isl_frame.specs.Frame.{own_column, NamesForms}
use Rattle.isl_nest.specs.declared.place.Place.{Place}
use Rattle.isl_nest.specs.Item.{named, ItemView}
use Rattle.isl_nest.specs.Nest.{IsFixedAt}
use Rattle.isl_nest.specs.Striding.{AreStriding, IsOwn}
use Rattle.isl_nest.specs.Strided.{last_coef, level_of, IsStrided}

-- the columns of the frame that a congruence of a later column names are forms
abbrev pub LaterNameForms : List Row → List Row → Type 0
LaterNameForms rows frame = All (λ r. r.kind ≡ Divides → length frame < named r.coefs → NamesForms frame r) rows

pub all_forms : (rows frame : List Row) → All (λ e. e.k ≡ pos 1) frame → LaterNameForms rows frame
all_forms rows frame ones = λ i c l kind later at d low some. ones at d low

-- ---- one column more
-- that stands behind the others, and is a form where the row names it
behind : (frame : List Row) (entry r : Row) → NamesForms frame r → (coef_at r (length frame) ≢ pos 0 → entry.k ≡ pos 1)
    → NamesForms (frame ++ entry ∷ []) r
behind frame entry r forms last at d low some = elim (cases_lt at (length frame)) [
  | inl inside ↦ ap (λ (e : Row). e.k) (get_or_append_left frame (entry ∷ []) d at inside) ∙ forms at d inside some
  | inr past ↦ (let long = length-append frame (entry ∷ []) in
      let same : at ≡ length frame = omega (arith, low, long, past) in
      ap (λ (e : Row). e.k) (ap (λ n. get_or (frame ++ entry ∷ []) n d) same ∙ get_or_at frame entry [] d (length frame) refl)
      ∙ last (subst (λ n. coef_at r n ≢ pos 0) same some))
]

pub entry_forms : (item : ItemView) (place : Place) (entry : Row) (rows : List Row) → IsFixedAt item place entry rows
    → item.times ≡ item.levels → length place.frame < item.params + item.levels → LaterNameForms item.rows place.frame
    → LaterNameForms item.rows (place.frame ++ entry ∷ [])
entry_forms item place entry rows fixed timed room forms = λ i c l kind later.
    let frame = place.frame in
    let long = length-append frame (entry ∷ []) in
    behind frame entry (get_or item.rows i c) (forms i c l kind (omega (arith, later, long)))
    (λ some. elim fixed.form [
      | inl form ↦ form
      | inr other ↦ elim other [
        | inl past ↦ absurd (omega (arith, past, timed, room))
        | inr asks ↦ absurd (asks i c l (record { kind = kind; later = omega (arith, later, long); names = some }))
      ]
    ])

pub loop_forms : (rows : List Row) (variables : ℕ) (frame : List Row) → LaterNameForms rows frame
    → LaterNameForms rows (map widened frame ++ own_column variables ∷ [])
loop_forms rows variables frame forms = λ i c l kind later.
    let wide = length-map frame widened in
    let long = length-append (map widened frame) (own_column variables ∷ []) in
    let old = forms i c l kind (omega (arith, later, long, wide)) in
    behind (map widened frame) (own_column variables) (get_or rows i c)
    (λ at d low some. ap (λ (e : Row). e.k) (get_or-map widened frame at d d (omega (arith, low, wide))) ∙ old at d (omega (arith, low, wide)) some)
    (λ some. refl)

-- ---- the rows of one level
-- a coefficient of 1 or k - 1 has no divisor in common with k
unit : (c k : ℤ) → (c ≡ pos 1) ⊎ (c ≡ k -ℤ pos 1) → IsGcdOf c k (pos 1)
unit c k (inl e) = coprime_from_sum c k (pos 1) (pos 0) (omega (arith, linear, e))
unit c k (inr e) = coprime_from_sum c k (negsuc 0) (pos 1) (omega (arith, linear, e))

pub level_striding : (params levels : ℕ) (rows : List Row) → IsStrided params levels rows → (frame : List Row) → params ≤ length frame
    → LaterNameForms rows frame → AreStriding frame rows
level_striding params levels rows strided frame low forms = record {
  whole = λ i c l own. strided.whole i c l;
  steps = λ i c l own kind.
      let r = get_or rows i c in
      let at : named r.coefs - 1 ≡ length frame = omega (arith, own) in (
        record {
          kind = kind;
          coprime = subst (λ n. IsGcdOf (coef_at r n) r.k (pos 1)) at
              (unit (last_coef r) r.k (strided.unit i c l kind (omega (arith, own, low))));
        },
        forms i c l kind (omega (arith, own)),
      );
  one = same;
}
  where
    -- two of them stand at one place
    apart : (i j : ℕ) (r s : Row) → i < j → j < length rows → r ≡ get_or rows i r → s ≡ get_or rows j r → IsOwn frame r → IsOwn frame s
        → r.kind ≡ Divides → s.kind ≡ Divides → ⊥
    apart i j r s below inside e f own_r own_s kind_r kind_s =
        let second : Row = get_or rows j r in
        let one = subst (λ (x : Row). x.kind ≡ Divides → second.kind ≡ Divides → level_of params x ≡ level_of params second
        → level_of params x ≡ 0) (sym e) (strided.one i j r below inside) in
        let both = subst (λ (y : Row). r.kind ≡ Divides → y.kind ≡ Divides → level_of params r ≡ level_of params y → level_of params r ≡ 0)
        (sym f) one in
        let none = both kind_r kind_s (omega (arith, own_r, own_s)) in
        omega (arith, none, own_r, low)

    at : (i : ℕ) (x d : Row) → i < length rows → get_or rows i x ≡ x → x ≡ get_or rows i d
    at i x d inside e = get_or_read rows i x inside (sym e) d

    same : (r s : Row) → Contains rows r → Contains rows s → IsOwn frame r → IsOwn frame s → r.kind ≡ Divides → s.kind ≡ Divides → r ≡ s
    same r s (i, inside_r, is_r) (j, inside_s, is_s) own_r own_s e f = elim (cases_lt i j) [
      | inl below ↦ absurd (apart i j r s below inside_s (at i r r inside_r is_r) (at j s r inside_s is_s) own_r own_s e f)
      | inr past ↦ elim (cases_lt j i) [
        | inl below ↦ absurd (apart j i s r below inside_r (at j s s inside_s is_s) (at i r s inside_r is_r) own_s own_r f e)
        | inr back ↦ at i r r inside_r is_r ∙ ap (λ n. get_or rows n r) (omega (arith, past, back)) ∙ sym (at j s r inside_s is_s)
      ]
    ]
