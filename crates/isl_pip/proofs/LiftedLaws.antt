-- Systems with one column more, for the quotient of a congruence.
use Rattle.std.proofs.Common.{◌≡◌, ◌≢◌, ◌⊎◌, ◌↔◌, inl, inr, refl, sym, ap, ap₂, ◌∙◌, subst, arith, ℕ, zero, suc, ◌+◌, ◌-◌, ◌<◌, ◌≤◌, ℤ, pos, negsuc, neg_ℤ, ◌<ℤ◌, ◌≤ℤ◌, ◌+ℤ◌, ◌-ℤ◌, ◌*ℤ◌, Bool, true, false}
use Rattle.std.proofs.Common.{List, [], ◌∷◌, ◌++◌, drop, get_or, length, map, replicate, set, take, Option, Some, None, get_or-set_other, get_or-set_same}
use Rattle.std.specs.Prelude.{if◌then◌else◌, option_map}
use Rattle.std.specs.List.{insert, remove}
use Rattle.std.specs.List.{All, AllZip, Any}
use Rattle.std.proofs.lemmas.List.{length-append, length-replicate, length-set, take_all, take_more}
use Rattle.std.proofs.lemmas.List.Edits.{get_or-insert_at, insert-append_right, length-insert}
use Rattle.std.proofs.lemmas.List.Elements.{All-append, All-cons, All-drop, All-head, All-nil, All-push, All-replicate, All-set, All-tail, All-take}
use Rattle.isl_math.specs.Divide as divide
use Rattle.isl_math.specs.Divide.{floor_div}
use Rattle.isl_math.specs.Dot.{dot, weighted_sum}
use Rattle.isl_math.proofs.ColumnLaws.{dot-insert, dot-weighted_sum, length-weighted_sum}
use Rattle.isl_math.proofs.DivideLaws.{at_most_floor, exact_quotient, floor_mod_bounds, floor_split, floor_unique}
use Rattle.isl_math.proofs.ListLaws.{All-last, AllZip-more, Any-contains}
use Rattle.isl_math.proofs.OrderLaws.{*ℤ-≤ℤ, cases_ℤ}
use Rattle.isl_math.proofs.Ring.{expand, linear}
use Rattle.isl_meter.specs.Gauge.{Gauge, IsWithin}
use Rattle.isl_piece.specs.declared.row.RowKind.{RowKind}
use Rattle.isl_piece.specs.declared.row.RowKind.TheVariants as kind
use Rattle.isl_piece.specs.declared.row.Row.{Row}
use Rattle.isl_piece.specs.declared.system.System.{System}
use Rattle.isl_piece.specs.declared.definition.Definition.{Definition}
use Rattle.isl_piece.specs.Definition.{with_defined}
use Rattle.isl_piece.specs.Row.{coef_at, value_at, HasModulus, HoldsRow, HoldsValue, IsRowWithin, IsWellFormed}
use Rattle.isl_piece.specs.System.{HoldRows, HoldsSystem, IsSystemWithin, free_columns}
use Rattle.isl_elim.specs.Elimination.{HoldsAtAny}
use Rattle.isl_greatest.proofs.DecideLaws.{row_sorts}
use Rattle.isl_greatest.proofs.StateLaws.{default_free}
use Rattle.isl_pip_law.specs.Levels.{AreBehind}
use Rattle.isl_pip_law.specs.Lift.{AreLifted, IsTold}
use Rattle.isl_pip_law.proofs.LiftLaws.{put_back, taken_back}
use Rattle.isl_pip.specs.Levels.{ArePlainOver}
use Rattle.isl_pip.specs.Lift.{AreLiftedSystems, AreMoved, EndsAt, HaveLink, IsAnchor, IsLiftedSystem, IsLink, OthersHold}
use Rattle.isl_pip.proofs.LevelLaws.{more_is, one_of, IsPlain}

-- ---- rows with one column more
inserted_dot : (cs xs : List ℤ) (i : ℕ) (c z : ℤ) → i ≤ length cs → length xs ≡ length cs → dot (insert cs i c) (insert xs i z) ≡ c *ℤ z +ℤ dot cs xs
inserted_dot cs xs i c z low same =
    let l = length-insert cs i c low in
    dot-insert (insert cs i c) xs i z (omega (arith, l, low)) (omega (arith, low, same))
    ∙ ap₂ (λ (a : ℤ) (ds : List ℤ). a *ℤ z +ℤ dot ds xs) (get_or-insert_at cs i c (pos 0) low) (taken_back cs i c low)

pub inserted_value : (k j : RowKind) (m n : ℤ) (cs : List ℤ) (a : ℤ) (xs : List ℤ) (i : ℕ) (c z : ℤ) → i ≤ length cs → length xs ≡ length cs
    → value_at (record { kind = k; coefs = insert cs i c; constant = a; k = m }) (insert xs i z)
    ≡ c *ℤ z +ℤ value_at (record { kind = j; coefs = cs; constant = a; k = n }) xs
inserted_value k j m n cs a xs i c z low same = by (inserted_dot cs xs i c z low same)
  where
    by : dot (insert cs i c) (insert xs i z) ≡ c *ℤ z +ℤ dot cs xs → dot (insert cs i c) (insert xs i z) +ℤ a ≡ c *ℤ z +ℤ (dot cs xs +ℤ a)
    by e = omega (arith, linear, e)

pub inserted_within : (g : Gauge) (cs : List ℤ) (i : ℕ) (c : ℤ) → All (IsWithin g) cs → IsWithin g c → All (IsWithin g) (insert cs i c)
inserted_within g cs i c all own =
    All-append (IsWithin g) (take i cs) (c ∷ drop i cs) (All-take (IsWithin g) i cs all) (All-cons (IsWithin g) c (drop i cs) own (All-drop (IsWithin g) i cs all))

-- ---- numbers behind a column
zero_at : (cs : List ℤ) → All (λ c. c ≡ pos 0) cs → (i : ℕ) → get_or cs i (pos 0) ≡ pos 0
zero_at [] all i = refl
zero_at (c ∷ cs) all zero = All-head (λ x. x ≡ pos 0) c cs all
zero_at (c ∷ cs) all (suc i) = zero_at cs (All-tail (λ x. x ≡ pos 0) c cs all) i

all_zero : (cs : List ℤ) → ((i : ℕ) → get_or cs i (pos 0) ≡ pos 0) → All (λ c. c ≡ pos 0) cs
all_zero [] none = All-nil (λ x. x ≡ pos 0)
all_zero (c ∷ cs) none = All-cons (λ x. x ≡ pos 0) c cs (none 0) (all_zero cs (λ i. none (suc i)))

behind_at : (cs : List ℤ) (n : ℕ) → All (λ c. c ≡ pos 0) (drop (suc n) cs) → (i : ℕ) → n < i → get_or cs i (pos 0) ≡ pos 0
behind_at [] n all i l = refl
behind_at (c ∷ cs) n all zero l = absurd (omega (arith, l))
behind_at (c ∷ cs) zero all (suc i) l = zero_at cs all i
behind_at (c ∷ cs) (suc n) all (suc i) l = behind_at cs n all i (omega (arith, l))

all_behind : (cs : List ℤ) (n : ℕ) → ((i : ℕ) → n < i → get_or cs i (pos 0) ≡ pos 0) → All (λ c. c ≡ pos 0) (drop (suc n) cs)
all_behind [] n none = All-nil (λ x. x ≡ pos 0)
all_behind (c ∷ cs) zero none = all_zero cs (λ i. none (suc i) (omega arith))
all_behind (c ∷ cs) (suc n) none = all_behind cs n (λ i l. none (suc i) (omega (arith, l)))

next_is : (n : ℕ) → n + 1 ≡ suc n
next_is n = omega arith

pub last_from : (cs : List ℤ) (n : ℕ) → All (λ c. c ≡ pos 0) (drop (n + 1) cs) → (i : ℕ) → n < i → get_or cs i (pos 0) ≡ pos 0
last_from cs n all = behind_at cs n (subst (λ k. All (λ c. c ≡ pos 0) (drop k cs)) (next_is n) all)

pub last_to : (cs : List ℤ) (n : ℕ) → ((i : ℕ) → n < i → get_or cs i (pos 0) ≡ pos 0) → All (λ c. c ≡ pos 0) (drop (n + 1) cs)
last_to cs n none = subst (λ k. All (λ c. c ≡ pos 0) (drop k cs)) (sym (next_is n)) (all_behind cs n none)

-- ---- what an equation says up to a column
pub record AreCut (g : Gauge) (m column i : ℕ) (coefs : List ℤ) : Type 0 where
  pub long : length coefs ≡ m
  pub within : All (IsWithin g) coefs
  pub none : (j : ℕ) → i ≤ j → get_or coefs j (pos 0) ≡ pos 0
  pub falls : column < i → get_or coefs column (pos 0) <ℤ pos 0

zeros_at : (m j : ℕ) → get_or (replicate m (pos 0)) j (pos 0) ≡ pos 0
zeros_at zero j = refl
zeros_at (suc m) zero = refl
zeros_at (suc m) (suc j) = zeros_at m j

pub cut_none : (g : Gauge) (m column : ℕ) (coefs : List ℤ) → IsWithin g (pos 0) → coefs ≡ replicate m (pos 0) → AreCut g m column 0 coefs
cut_none g m column coefs small is = subst (AreCut g m column 0) (sym is) (record {
  long = length-replicate m (pos 0);
  within = All-replicate (IsWithin g) m (pos 0) small;
  none = λ j l. zeros_at m j;
  falls = λ l. absurd (omega (arith, l));
})

pub cut_more : (g : Gauge) (m column i : ℕ) (coefs all : List ℤ) (z : ℤ) → i < m → column < m → all ≡ set coefs i z → IsWithin g z
    → (i ≡ column → z <ℤ pos 0) → AreCut g m column i coefs → AreCut g m column (i + 1) all
cut_more g m column i coefs all z low inside is small falls so_far = subst (AreCut g m column (i + 1)) (sym is) (record {
  long = length-set coefs i z ∙ so_far.long;
  within = All-set (IsWithin g) coefs i z small so_far.within;
  none = λ j l. let other : j ≢ i = omega (arith, l) in get_or-set_other' j other ∙ so_far.none j (omega (arith, l));
  falls = λ l. by (apart i column) l;
})
  where
    get_or-set_other' : (j : ℕ) → j ≢ i → get_or (set coefs i z) j (pos 0) ≡ get_or coefs j (pos 0)
    get_or-set_other' j other = rw get_or-set_other refl

    get_or-set_same' : get_or (set coefs i z) i (pos 0) ≡ z
    get_or-set_same' = let here : i < length coefs = (let e = so_far.long in omega (arith, e, low)) in rw get_or-set_same refl

    apart : (a b : ℕ) → (a ≡ b) ⊎ (a ≢ b)
    apart a b = grind arith

    by : (i ≡ column) ⊎ (i ≢ column) → column < i + 1 → get_or (set coefs i z) column (pos 0) <ℤ pos 0
    by (inl same) l =
        let value = ap (λ k. get_or (set coefs i z) k (pos 0)) (sym same) ∙ get_or-set_same' in
        let less = falls same in
        omega (arith, linear, value, less)
    by (inr other) l =
        let value = get_or-set_other' column (λ e. other (sym e)) in
        let less = so_far.falls (omega (arith, l, other)) in
        omega (arith, linear, value, less)

pub signed_falls : (b : Bool) (c z : ℤ) → c ≢ pos 0 → (b ≡ true → pos 0 <ℤ c) → (pos 0 <ℤ c → b ≡ true) → z ≡ (if b then neg_ℤ c else c) → z <ℤ pos 0
signed_falls true c z some up back is = let l = up refl in omega (arith, linear, l, is)
signed_falls false c z some up back is = elim (cases_ℤ c (pos 0)) [
  | inl below ↦ omega (arith, linear, below, is)
  | inr other ↦ elim other [
    | inl same ↦ absurd (some same)
    | inr above ↦ absurd (let e = back above in cc)
  ]
]

pub anchor_made : (g : Gauge) (m column : ℕ) (coefs : List ℤ) (constant factor : ℤ) (row : Row)
    → row ≡ record { kind = kind.Divides; coefs = coefs; constant = constant; k = factor } → column < m → AreCut g m column (column + 1) coefs
    → IsWithin g constant → pos 0 <ℤ factor → IsWithin g factor → IsAnchor g m column row
anchor_made g m column coefs constant factor row is inside cut own up small = subst (IsAnchor g m column) (sym is) (record {
  ends = record { kind = refl; falls = cut.falls (omega arith); last = λ i l. cut.none i (omega (arith, l)) };
  formed = record { width = cut.long; modulus = up };
  within = record { coefs = cut.within; constant = own; k = small };
  inside = inside;
})

-- ---- the anchor
anchor_positive : (g : Gauge) (columns column : ℕ) (r : Row) → IsAnchor g columns column r → pos 0 <ℤ r.k
anchor_positive g columns column r a = subst (λ k. HasModulus k r.k) a.ends.kind a.formed.modulus

-- the quotient, rounded down, by what it leaves
quotient_is : (v k z : ℤ) → pos 0 <ℤ k → ((pos 0 ≤ℤ (neg_ℤ v -ℤ k *ℤ z)) × ((neg_ℤ v -ℤ k *ℤ z) <ℤ k)) ↔ (z ≡ floor_div (neg_ℤ v) k)
quotient_is v k z up = (
  (λ h. (floor_unique (neg_ℤ v) k z (neg_ℤ v -ℤ k *ℤ z) (omega (arith, linear)) h.0 h.1).0),
  (λ e.
      let s = floor_split (neg_ℤ v) k up in
      let b = floor_mod_bounds (neg_ℤ v) k up in
      let low = b.0 in
      let high = b.1 in
      let m = ap (λ q. k *ℤ q) e in
      (omega (arith, linear, s, low, m), omega (arith, linear, s, high, m))),
)

-- where the congruence holds, the quotient is exact
link_exact : (g : Gauge) (columns column : ℕ) (r : Row) (point : List ℤ) (z : ℤ) → IsAnchor g columns column r
    → (HoldsRow r point × IsLink false r point z) ↔ IsLink true r point z
link_exact g columns column r point z a =
    let up = anchor_positive g columns column r a in
    let holds : divide.Divides r.k (value_at r point) ↔ HoldsRow r point =
    ((λ h. subst (λ k. HoldsValue k r.k (value_at r point)) (sym a.ends.kind) h), (λ h. subst (λ k. HoldsValue k r.k (value_at r point)) a.ends.kind h)) in (
      (λ h. by0 (value_at r point) r.k z up (holds.1 h.0) h.1),
      (λ e. let p = by1 (value_at r point) r.k z up e in (holds.0 p.0, p.1)),
    )
  where
    by0 : (v k z : ℤ) → pos 0 <ℤ k → divide.Divides k v → z ≡ floor_div (neg_ℤ v) k → v +ℤ k *ℤ z ≡ pos 0
    by0 v k z up d e =
        let back : divide.Divides k (neg_ℤ v) =
        record { quotient = neg_ℤ d.quotient; is = (let q = simp expand at d.is in simp expand (omega (arith, linear, q))) } in
        let q = exact_quotient k (neg_ℤ v) up back in
        let m = ap (λ t. k *ℤ t) e in
        omega (arith, linear, q, m)

    by1 : (v k z : ℤ) → pos 0 <ℤ k → v +ℤ k *ℤ z ≡ pos 0 → divide.Divides k v × (z ≡ floor_div (neg_ℤ v) k)
    by1 v k z up e = (
      record { quotient = neg_ℤ z; is = (let e' = simp expand at e in simp expand (omega (arith, linear, e'))) },
      (quotient_is v k z up).0 (omega (arith, linear, e), omega (arith, linear, e, up)),
    )

-- ---- the rows of the link
module _ (g : Gauge) (columns column : ℕ) (r : Row) (a : IsAnchor g columns column r) (n_is : columns ≡ length r.coefs) (one : IsWithin g (pos 1)) where
  low : column ≤ length r.coefs
  low = let i = a.inside in omega (arith, i, n_is)

  abbrev link_coefs : List ℤ
  link_coefs = insert r.coefs column r.k

  link_long : length (insert r.coefs column r.k) ≡ length r.coefs + 1
  link_long = length-insert r.coefs column r.k low

  holds_one : (row : Row) (point : List ℤ) → HoldRows (row ∷ []) point ↔ HoldsRow row point
  holds_one row point = (
    (λ h. All-head (λ s. HoldsRow s point) row [] h),
    (λ h. All-cons (λ s. HoldsRow s point) row [] h (All-nil (λ s. HoldsRow s point))),
  )

  pub exact_link : (rows : List Row) (coefs : List ℤ) → coefs ≡ insert r.coefs column r.k → All (IsWithin g) (insert r.coefs column r.k)
      → rows ≡ record { kind = kind.Zero; coefs = coefs; constant = r.constant; k = pos 1 } ∷ [] → HaveLink g column r true rows
  exact_link rows coefs same small is =
      let row : Row = record { kind = kind.Zero; coefs = insert r.coefs column r.k; constant = r.constant; k = pos 1 } in
      let whole : rows ≡ row ∷ [] =
      is ∙ ap (λ (cs : List ℤ). let q : Row = record { kind = kind.Zero; coefs = cs; constant = r.constant; k = pos 1 } in q ∷ []) same in
      subst (HaveLink g column r true) (sym whole) (record {
        formed = All-cons (IsWellFormed (length r.coefs + 1)) row [] (record { width = link_long; modulus = refl }) (All-nil (IsWellFormed (length r.coefs + 1)));
        within = All-cons (IsRowWithin g) row [] (record { coefs = small; constant = a.within.constant; k = one }) (All-nil (IsRowWithin g));
        points = λ point z long.
            let h = holds_one row (insert point column z) in
            let v = inserted_value kind.Zero r.kind (pos 1) r.k r.coefs r.constant point column r.k z low long in (
              (λ x. by (value_at row (insert point column z)) (value_at r point) z v (h.0 x)),
              (λ e. h.1 (back (value_at row (insert point column z)) (value_at r point) z v e)),
            );
      })
    where
      by : (w v z : ℤ) → w ≡ r.k *ℤ z +ℤ v → w ≡ pos 0 → v +ℤ r.k *ℤ z ≡ pos 0
      by w v z e h = omega (arith, linear, e, h)

      back : (w v z : ℤ) → w ≡ r.k *ℤ z +ℤ v → v +ℤ r.k *ℤ z ≡ pos 0 → w ≡ pos 0
      back w v z e h = omega (arith, linear, e, h)

  pub floor_link : (rows : List Row) (opposite coefs : List ℤ) (constant most : ℤ) → coefs ≡ insert r.coefs column r.k
      → opposite ≡ weighted_sum (negsuc 0) coefs (pos 0) coefs → All (IsWithin g) coefs → All (IsWithin g) opposite
      → constant ≡ neg_ℤ r.constant → IsWithin g constant → most ≡ (r.k -ℤ pos 1) +ℤ r.constant → IsWithin g most
      → rows ≡ record { kind = kind.AtLeast; coefs = opposite; constant = constant; k = pos 1 }
      ∷ record { kind = kind.AtLeast; coefs = coefs; constant = most; k = pos 1 } ∷ []
      → HaveLink g column r false rows
  floor_link rows opposite coefs constant most same is_opposite small small' is_constant in_constant is_most in_most is =
      let first : Row = record { kind = kind.AtLeast; coefs = opposite; constant = constant; k = pos 1 } in
      let second : Row = record { kind = kind.AtLeast; coefs = coefs; constant = most; k = pos 1 } in
      let long : length coefs ≡ length r.coefs + 1 = ap length same ∙ link_long in
      let long' : length opposite ≡ length r.coefs + 1 = ap length is_opposite ∙ length-weighted_sum (negsuc 0) coefs (pos 0) coefs refl ∙ long in
      subst (HaveLink g column r false) (sym is) (record {
        formed = All-cons (IsWellFormed (length r.coefs + 1)) first (second ∷ []) (record { width = long'; modulus = refl })
            (All-cons (IsWellFormed (length r.coefs + 1)) second [] (record { width = long; modulus = refl }) (All-nil (IsWellFormed (length r.coefs + 1))));
        within = All-cons (IsRowWithin g) first (second ∷ []) (record { coefs = small'; constant = in_constant; k = one })
            (All-cons (IsRowWithin g) second [] (record { coefs = small; constant = in_most; k = one }) (All-nil (IsRowWithin g)));
        points = λ point z wide.
            let whole = insert point column z in
            let d : dot coefs whole ≡ r.k *ℤ z +ℤ dot r.coefs point =
            ap (λ (cs : List ℤ). dot cs whole) same ∙ inserted_dot r.coefs point column r.k z low wide in
            let o : dot opposite whole ≡ negsuc 0 *ℤ dot coefs whole +ℤ pos 0 *ℤ dot coefs whole =
            ap (λ (cs : List ℤ). dot cs whole) is_opposite ∙ dot-weighted_sum (negsuc 0) coefs (pos 0) coefs whole refl in
            let q = quotient_is (value_at r point) r.k z (anchor_positive g columns column r a) in (
              (λ h.
                  let one' = All-head (λ s. HoldsRow s whole) first (second ∷ []) h in
                  let two = (holds_one second whole).0 (rest first (second ∷ []) whole h) in
                  q.0 (to (dot r.coefs point) (dot coefs whole) (dot opposite whole) z d o one' two)),
              (λ e.
                  let b = q.1 e in
                  let p = from (dot r.coefs point) (dot coefs whole) (dot opposite whole) z d o b.0 b.1 in
                  All-cons (λ s. HoldsRow s whole) first (second ∷ []) p.0 ((holds_one second whole).1 p.1)),
            );
      })
    where
      rest : (s : Row) (ss : List Row) (whole : List ℤ) → HoldRows (s ∷ ss) whole → HoldRows ss whole
      rest s ss whole h = λ k d inside. h (suc k) d (omega (arith, inside))

      to : (f c o z : ℤ) → c ≡ r.k *ℤ z +ℤ f → o ≡ negsuc 0 *ℤ c +ℤ pos 0 *ℤ c → pos 0 ≤ℤ (o +ℤ constant) → pos 0 ≤ℤ (c +ℤ most)
          → (pos 0 ≤ℤ (neg_ℤ (f +ℤ r.constant) -ℤ r.k *ℤ z)) × ((neg_ℤ (f +ℤ r.constant) -ℤ r.k *ℤ z) <ℤ r.k)
      to f c o z d e x y = (omega (arith, linear, d, e, x, is_constant), omega (arith, linear, d, y, is_most))

      from : (f c o z : ℤ) → c ≡ r.k *ℤ z +ℤ f → o ≡ negsuc 0 *ℤ c +ℤ pos 0 *ℤ c → pos 0 ≤ℤ (neg_ℤ (f +ℤ r.constant) -ℤ r.k *ℤ z)
          → (neg_ℤ (f +ℤ r.constant) -ℤ r.k *ℤ z) <ℤ r.k → (pos 0 ≤ℤ (o +ℤ constant)) × (pos 0 ≤ℤ (c +ℤ most))
      from f c o z d e x y = (omega (arith, linear, d, e, x, is_constant), omega (arith, linear, d, y, is_most))

-- ---- rows that are moved
hold_push : (rows : List Row) (r : Row) (point : List ℤ) → HoldRows (rows ++ r ∷ []) point ↔ (HoldRows rows point × HoldsRow r point)
hold_push rows r point = (
  (λ h. All-last (λ s. HoldsRow s point) rows r h),
  (λ h. All-push (λ s. HoldsRow s point) rows r h.0 h.1),
)

pub moved_none : (column : ℕ) (r : Row) (rows old : List Row) → AreMoved column r (take 0 rows) old old
moved_none column r rows old = record {
  formed = λ all. all;
  within = λ g none all within. within;
  points = λ point z long. ((λ h. (h, All-nil (λ s. s ≢ r → HoldsRow s point))), (λ h. h.0));
}

pub moved_skip : (column : ℕ) (r : Row) (rows : List Row) (i : ℕ) (s : Row) (old new : List Row) → i < length rows → s ≡ get_or rows i s → s ≡ r
    → AreMoved column r (take i rows) old new → AreMoved column r (take (i + 1) rows) old new
moved_skip column r rows i s old new inside read same so_far =
    subst (λ (rs : List Row). AreMoved column r rs old new) (sym (more_is rows i s inside read)) (record {
      formed = so_far.formed;
      within = λ g none all within. so_far.within g none (All-last (IsRowWithin g) (take i rows) s all).0 within;
      points = λ point z long.
          let p = so_far.points point z long in (
            (λ h. let q = p.0 h in (q.0, All-push (λ t. t ≢ r → HoldsRow t point) (take i rows) s q.1 (λ other. absurd (other same)))),
            (λ h. p.1 (h.0, (All-last (λ t. t ≢ r → HoldsRow t point) (take i rows) s h.1).0)),
          );
    })

pub moved_more : (column : ℕ) (r : Row) (rows : List Row) (i : ℕ) (s made : Row) (coefs : List ℤ) (old new all : List Row) → i < length rows
    → s ≡ get_or rows i s → s ≢ r → IsWellFormed (length r.coefs) s → column ≤ length r.coefs → coefs ≡ insert s.coefs column (pos 0)
    → made ≡ record { kind = s.kind; coefs = coefs; constant = s.constant; k = s.k } → all ≡ new ++ made ∷ []
    → ((g : Gauge) → IsWithin g (pos 0) → IsRowWithin g s → All (IsWithin g) (insert s.coefs column (pos 0)))
    → AreMoved column r (take i rows) old new → AreMoved column r (take (i + 1) rows) old all
moved_more column r rows i s made coefs old new all inside read other formed low same is pushed small so_far =
    let row : Row = record { kind = s.kind; coefs = insert s.coefs column (pos 0); constant = s.constant; k = s.k } in
    let made_is : made ≡ row = is ∙ ap (λ (cs : List ℤ). let q : Row = record { kind = s.kind; coefs = cs; constant = s.constant; k = s.k } in q) same in
    let whole : all ≡ new ++ row ∷ [] = pushed ∙ ap (λ (t : Row). new ++ t ∷ []) made_is in
    let wide = formed.width in
    let low' : column ≤ length s.coefs = omega (arith, wide, low) in
    let l = length-insert s.coefs column (pos 0) low' in
    subst (λ (rs : List Row). AreMoved column r rs old all) (sym (more_is rows i s inside read))
    (subst (AreMoved column r (take i rows ++ s ∷ []) old) (sym whole) (record {
      formed = λ first. All-push (IsWellFormed (length r.coefs + 1)) new row (so_far.formed first)
          (record { width = omega (arith, l, wide); modulus = formed.modulus });
      within = λ g none some within.
          let parts = All-last (IsRowWithin g) (take i rows) s some in
          All-push (IsRowWithin g) new row (so_far.within g none parts.0 within)
          (record { coefs = small g none parts.1; constant = parts.1.constant; k = parts.1.k });
      points = λ point z long.
          let p = so_far.points point z long in
          let point_long : length point ≡ length s.coefs = long ∙ sym wide in
          let v = inserted_value s.kind s.kind s.k s.k s.coefs s.constant point column (pos 0) z low' point_long in
          let value : value_at row (insert point column z) ≡ value_at s point = by (value_at row (insert point column z)) (value_at s point) z v in
          let own : HoldsRow row (insert point column z) ↔ HoldsRow s point =
          (subst (HoldsValue s.kind s.k) value, subst (HoldsValue s.kind s.k) (sym value)) in
          let pushed' = hold_push new row (insert point column z) in (
            (λ h.
                let q = pushed'.0 h in
                let o = p.0 q.0 in
                (o.0, All-push (λ t. t ≢ r → HoldsRow t point) (take i rows) s o.1 (λ apart. own.0 q.1))),
            (λ h.
                let parts = All-last (λ t. t ≢ r → HoldsRow t point) (take i rows) s h.1 in
                pushed'.1 (p.1 (h.0, parts.0), own.1 (parts.1 other))),
          );
    }))
  where
    by : (a b z : ℤ) → a ≡ pos 0 *ℤ z +ℤ b → a ≡ b
    by a b z e = omega (arith, linear, e)

pub moved_all : (column : ℕ) (r : Row) (rows : List Row) (i : ℕ) (old new : List Row) → length rows ≤ i → AreMoved column r (take i rows) old new
    → AreMoved column r rows old new
moved_all column r rows i old new end = subst (λ (rs : List Row). AreMoved column r rs old new) (take_all i rows end)

-- ---- one system
abbrev pub IsIt : Row → Row → Type 0
IsIt r s = s ≡ r

pub system_lifted : (g : Gauge) (columns column : ℕ) (r : Row) (s made : System) (is_own : Bool) (link rows : List Row) → IsAnchor g columns column r
    → IsWithin g (pos 0) → IsSystemWithin g s → s.definitions ≡ [] → s.columns ≡ columns → (is_own ≡ true → Any (IsIt r) s.rows)
    → (is_own ≡ false → ¬ Any (IsIt r) s.rows) → HaveLink g column r is_own link → AreMoved column r s.rows link rows
    → made ≡ record { columns = columns + 1; definitions = []; rows = rows } → IsLiftedSystem g columns column r s made
system_lifted g columns column r s made is_own link rows a none within plain wide own other have moved is =
    subst (IsLiftedSystem g columns column r s) (sym is) (record {
      within = record {
        rows = subst (λ n. All (IsWellFormed n) rows) n_more (moved.formed have.formed);
        within = moved.within g none within.within have.within;
        count = omega arith;
        definitions = tt;
      };
      plain = refl;
      columns = refl;
      points = λ point z long.
          let long' : length point ≡ length r.coefs = long ∙ sym a.formed.width in
          let m = moved.points point z long' in
          let l = have.points point z long' in
          let p = by is_own own other point z long in (
            (λ h. let q = m.0 h in p.0 (l.0 q.0, q.1)),
            (λ h. let q = p.1 h in m.1 (l.1 q.0, q.1)),
          );
    })
  where
    n_more : length r.coefs + 1 ≡ columns + 1
    n_more = ap (λ n. n + 1) a.formed.width

    holds_plain : (point : List ℤ) → HoldsSystem s point ↔ HoldRows s.rows point
    holds_plain point =
        let same : with_defined s.definitions point ≡ point = ap (λ (ds : List Definition). with_defined ds point) plain in
        (subst (HoldRows s.rows) same, subst (HoldRows s.rows) (sym same))

    all_from : (point : List ℤ) → HoldsRow r point → OthersHold r s.rows point → HoldRows s.rows point
    all_from point holds others = λ k d inside.
        let t = get_or s.rows k d in
        elim (row_sorts t point (within.rows k d inside).modulus) [
          | inl so ↦ so
          | inr no' ↦ others k d inside (λ same. no' (subst (λ (q : Row). HoldsRow q point) (sym same) holds))
        ]

    some_holds : (point : List ℤ) → Any (IsIt r) s.rows → HoldRows s.rows point → HoldsRow r point
    some_holds point some h = subst (λ (q : Row). HoldsRow q point) (some.3 ∙ some.4) (h some.0 some.1 some.2)

    by : (b : Bool) → (b ≡ true → Any (IsIt r) s.rows) → (b ≡ false → ¬ Any (IsIt r) s.rows) → (point : List ℤ) (z : ℤ) → length point ≡ columns
        → (IsLink b r point z × OthersHold r s.rows point) ↔ (HoldsSystem s point × IsLink false r point z)
    by true here other point z long =
        let e = link_exact g columns column r point z a in (
          (λ h. let q = e.1 h.0 in ((holds_plain point).1 (all_from point q.0 h.1), q.1)),
          (λ h.
              let all = (holds_plain point).0 h.0 in
              (e.0 (some_holds point (here refl) all, h.1), λ k d inside apart. all k d inside)),
        )
    by false here other point z long = (
      (λ h. (
        (holds_plain point).1 (λ k d inside. h.1 k d inside (λ same. other refl
            (Any-contains (IsIt r) s.rows (get_or s.rows k d) (k, inside, default_free s.rows k (get_or s.rows k d) d inside) same))),
        h.0,
      )),
      (λ h. let all = (holds_plain point).0 h.0 in (h.1, λ k d inside apart. all k d inside)),
    )

-- ---- one after another
pub lifted_none : (g : Gauge) (columns column : ℕ) (r : Row) (systems made : List System) → made ≡ []
    → AreLiftedSystems g columns column r (take 0 systems) made
lifted_none g columns column r systems made is = subst (AreLiftedSystems g columns column r []) (sym is) (record {
  plain = record {
    within = All-nil (IsSystemWithin g);
    plain = All-nil IsPlain;
    columns = All-nil (λ s. free_columns s ≡ columns + 1);
  };
  each = tt;
})

pub lifted_more : (g : Gauge) (columns column : ℕ) (r : Row) (systems : List System) (i : ℕ) (s one : System) (made all : List System)
    → i < length systems → s ≡ get_or systems i s → all ≡ made ++ one ∷ [] → AreLiftedSystems g columns column r (take i systems) made
    → IsLiftedSystem g columns column r s one → AreLiftedSystems g columns column r (take (i + 1) systems) all
lifted_more g columns column r systems i s one made all inside read is so_far new =
    subst (λ (ss : List System). AreLiftedSystems g columns column r ss all) (sym (more_is systems i s inside read))
    (subst (AreLiftedSystems g columns column r (take i systems ++ s ∷ [])) (sym is) (record {
      plain = record {
        within = All-push (IsSystemWithin g) made one so_far.plain.within new.within;
        plain = All-push IsPlain made one so_far.plain.plain new.plain;
        columns = All-push (λ t. free_columns t ≡ columns + 1) made one so_far.plain.columns
            (let c = new.columns in let l = ap length new.plain in omega (arith, c, l));
      };
      each = AllZip-more (IsLiftedSystem g columns column r) (take i systems) made s one so_far.each new;
    }))

pub lifted_all : (g : Gauge) (columns column : ℕ) (r : Row) (systems : List System) (i : ℕ) (made : List System) → length systems ≤ i
    → AreLiftedSystems g columns column r (take i systems) made → AreLiftedSystems g columns column r systems made
lifted_all g columns column r systems i made end =
    subst (λ (ss : List System). AreLiftedSystems g columns column r ss made) (take_all i systems end)
