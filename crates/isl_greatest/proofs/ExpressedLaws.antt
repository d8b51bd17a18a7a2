-- Forms over defined columns as sums with quotients, and questions as tests.
use Rattle.std.proofs.Common.{◌≡◌, ◌≢◌, ◌⊎◌, ◌↔◌, inl, inr, refl, sym, ap, ap₂, ◌∙◌, subst, arith, ℕ, zero, suc, ◌+◌, ◌-◌, ◌<◌, ◌≤◌, ℤ, pos, negsuc, neg_ℤ, ◌<ℤ◌, ◌≤ℤ◌, ◌+ℤ◌, ◌-ℤ◌, ◌*ℤ◌}
use Rattle.std.proofs.Common.{List, [], ◌∷◌, ◌++◌, length, get_or, take, drop, map, replicate, set}
use Rattle.std.specs.List.{All}
use Rattle.std.proofs.lemmas.List.{take_all, take_more, length-append, append_assoc, drop_more, drop_all, map-append}
use Rattle.std.proofs.lemmas.List.Elements.{All-push, All-nil, All-take}
use Rattle.isl_math.specs.Divide as divide
use Rattle.isl_math.specs.Divide.{floor_div}
use Rattle.isl_math.specs.Dot.{dot, weighted_sum}
use Rattle.isl_math.proofs.ColumnLaws.{dot-weighted_sum, length-weighted_sum}
use Rattle.isl_math.proofs.DivideLaws.{floor_split, floor_mod_bounds, at_most_floor, IsFloor-floor_div, exact_quotient}
use Rattle.isl_math.proofs.DotLaws.{dot-append, dot-set_left, dot-zeros}
use Rattle.isl_math.proofs.OrderLaws.{cases_ℤ}
use Rattle.isl_math.proofs.Ring.{expand, linear}
use Rattle.isl_meter.specs.Gauge.{Gauge, IsWithin}
use Rattle.isl_piece.specs.declared.definition.Definition.{Definition}
use Rattle.isl_piece.specs.declared.row.RowKind.TheVariants as kind
use Rattle.isl_piece.specs.declared.row.Row.{Row}
use Rattle.isl_piece.specs.declared.system.System.{System}
use Rattle.isl_piece.specs.Definition.{defined_value, with_defined, AreDefinitions, IsDefinition}
use Rattle.isl_piece.specs.Row.{value_at, HasModulus, HoldsRow, HoldsValue}
use Rattle.isl_piece.specs.System.{HoldsSystem}
use Rattle.isl_piece.proofs.DefinedLaws.{length-with_defined, with_defined_push}
use Rattle.isl_loop.specs.declared.tree.Expr.{Expr}
use Rattle.isl_loop.specs.Expr.{expr_value}
use Rattle.isl_loop.specs.Formed.{IsExprOver}
use Rattle.isl_greatest.specs.Expressed.{AreExpressed, IsExpressed, IsNegatedColumn, IsRowTest, IsTestOf}
use Rattle.isl_greatest.specs.State.{full, IsFrame, IsQuestion}
use Rattle.isl_greatest.proofs.CandidateLaws.{frame_full}
use Rattle.isl_greatest.proofs.DecideLaws.{question_holds}

-- ---- the last of a list
pub last_split : {X : Type 0} (xs : List X) (n : ℕ) (x : X) → length xs ≡ n + 1 → x ≡ get_or xs n x → xs ≡ take n xs ++ x ∷ []
last_split {X = X} xs n x e is =
    sym (take_all (n + 1) xs (omega (arith, e))) ∙ take_more xs n x (omega (arith, e)) ∙ ap (λ (y : X). take n xs ++ y ∷ []) (sym is)

definitions_split : (g : Gauge) (n : ℕ) (ds : List Definition) (d : Definition) → AreDefinitions g n (ds ++ d ∷ [])
    → AreDefinitions g n ds × IsDefinition g (n + length ds) d
definitions_split g n [] d h =
    let none : n ≡ n + 0 = omega arith in
    (tt, subst (λ (m : ℕ). IsDefinition g m d) none h.0)
definitions_split g n (e ∷ ds) d h =
    let rest = definitions_split g (suc n) ds d h.1 in
    let more : suc n + length ds ≡ n + suc (length ds) = omega arith in
    ((h.0, rest.0), subst (λ (m : ℕ). IsDefinition g m d) more rest.1)

floor_one : (z : ℤ) → floor_div z (pos 1) ≡ z
floor_one z =
    let s = floor_split z (pos 1) (omega (arith, linear)) in
    let b = floor_mod_bounds z (pos 1) (omega (arith, linear)) in
    let low = b.0 in
    let high = b.1 in
    omega (arith, linear, s, low, high)

-- ---- a form with a defined column more
pub expressed_none : (g : Gauge) (n : ℕ) (ds : List Definition) (coefs : List ℤ) (constant : ℤ) (e : Expr) → ds ≡ [] → length coefs ≡ n + length ds
    → IsExprOver g n e → ((v : List ℤ) → length coefs ≡ length v → expr_value e v ≡ dot coefs v +ℤ constant) → IsExpressed g n ds coefs constant e
expressed_none g n ds coefs constant e none count over value = record {
  over = over;
  value = λ v long. value v (let l = ap length none in omega (arith, count, l, long))
      ∙ ap (λ (xs : List ℤ). dot coefs xs +ℤ constant) (ap (λ (l : List Definition). with_defined l v) (sym none));
}

module _ (g : Gauge) (n count : ℕ) (ds : List Definition) (coefs : List ℤ) (d : Definition) (coef constant : ℤ) (e_ds : length ds ≡ count + 1)
    (e_coefs : length coefs ≡ n + length ds) (is_d : d ≡ get_or ds count d) (is_coef : coef ≡ get_or coefs (n + count) coef) where
  abbrev others : List Definition
  others = take count ds

  abbrev first : List ℤ
  first = take (n + count) coefs

  ds_is : ds ≡ others ++ d ∷ []
  ds_is = last_split ds count d e_ds is_d

  coefs_is : coefs ≡ first ++ coef ∷ []
  coefs_is = last_split coefs (n + count) coef (omega (arith, e_coefs, e_ds)) is_coef

  pub others_long : length (take count ds) ≡ count
  others_long = let l = ap length ds_is in let m = length-append others (d ∷ []) in omega (arith, l, m, e_ds)

  first_long : length first ≡ n + count
  first_long = let l = ap length coefs_is in let m = length-append first (coef ∷ []) in omega (arith, l, m, e_coefs, e_ds)

  pub first_count : length (take (n + count) coefs) ≡ n + length (take count ds)
  first_count = let a = first_long in let b = others_long in omega (arith, a, b)

  pub others_sound : AreDefinitions g n ds → AreDefinitions g n (take count ds) × IsDefinition g (n + count) d
  others_sound all =
      let parts = definitions_split g n others d (subst (AreDefinitions g n) ds_is all) in
      (parts.0, subst (λ m. IsDefinition g (n + m) d) others_long parts.1)

  value_whole : (v : List ℤ) → length v ≡ n
      → dot coefs (with_defined ds v) ≡ dot first (with_defined others v) +ℤ coef *ℤ defined_value d (with_defined others v)
  value_whole v long =
      let q = with_defined others v in
      let l = length-with_defined others v in
      let a = others_long in
      let b = first_long in
      let same : length first ≡ length q = omega (arith, l, a, b, long) in
      let full_is : with_defined ds v ≡ q ++ defined_value d q ∷ [] =
      ap (λ (l : List Definition). with_defined l v) ds_is ∙ with_defined_push others d v in
      by (dot first q) (coef *ℤ defined_value d q) (dot coefs (with_defined ds v))
      (ap (λ (xs : List ℤ). dot coefs xs) full_is ∙ ap (λ (cs : List ℤ). dot cs (q ++ defined_value d q ∷ [])) coefs_is
      ∙ dot-append first (coef ∷ []) q (defined_value d q ∷ []) same)
    where
      by : (a p w : ℤ) → w ≡ a +ℤ (p +ℤ pos 0) → w ≡ a +ℤ p
      by a p w h = omega (arith, linear, h)

  pub expressed_zero : (e : Expr) → coef ≡ pos 0 → IsExpressed g n (take count ds) (take (n + count) coefs) constant e → IsExpressed g n ds coefs constant e
  expressed_zero e none small = record {
    over = small.over;
    value = λ v long. by (dot first (with_defined others v)) (defined_value d (with_defined others v)) (dot coefs (with_defined ds v)) (expr_value e v)
        (value_whole v long) (small.value v long);
  }
    where
      by : (a x w z : ℤ) → w ≡ a +ℤ coef *ℤ x → z ≡ a +ℤ constant → z ≡ w +ℤ constant
      by a x w z h k = let m = ap (λ c. c *ℤ x) none in omega (arith, linear, h, k, m)

  pub expressed_merged : (e : Expr) (merged : List ℤ) (sum : ℤ) → IsDefinition g (n + count) d → d.k ≡ pos 1
      → merged ≡ weighted_sum (pos 1) (take (n + count) coefs) coef d.coefs → sum ≡ pos 1 *ℤ constant +ℤ coef *ℤ d.constant
      → IsExpressed g n (take count ds) merged sum e → IsExpressed g n ds coefs constant e
  expressed_merged e merged sum sound unit is more small = record {
    over = small.over;
    value = λ v long.
        let q = with_defined others v in
        let form = dot-weighted_sum (pos 1) first coef d.coefs q (let a = first_long in let b = sound.width in omega (arith, a, b)) in
        let number : defined_value d q ≡ dot d.coefs q +ℤ d.constant =
        ap (λ k. floor_div (dot d.coefs q +ℤ d.constant) k) unit ∙ floor_one (dot d.coefs q +ℤ d.constant) in
        by (dot first q) (dot d.coefs q) (defined_value d q) (dot coefs (with_defined ds v)) (dot merged q) (expr_value e v) number (value_whole v long)
        (ap (λ (cs : List ℤ). dot cs q) is ∙ form) (small.value v long);
  }
    where
      by : (a b x w m z : ℤ) → x ≡ b +ℤ d.constant → w ≡ a +ℤ coef *ℤ x → m ≡ pos 1 *ℤ a +ℤ coef *ℤ b → z ≡ m +ℤ sum → z ≡ w +ℤ constant
      by a b x w m z hx hw hm hz =
          let p = simp expand at (ap (λ t. coef *ℤ t) hx) in
          let s = simp expand at more in
          let m' = simp expand at hm in
          let w' = simp expand at hw in
          simp expand (omega (arith, linear, w', hz, p, s, m'))

  pub expressed_quotient : (dividend rest e : Expr) → IsExpressed g n (take count ds) d.coefs d.constant dividend
      → IsExpressed g n (take count ds) (take (n + count) coefs) constant rest → IsExprOver g n e
      → ((v : List ℤ) → expr_value e v ≡ expr_value rest v +ℤ coef *ℤ floor_div (expr_value dividend v) d.k) → IsExpressed g n ds coefs constant e
  expressed_quotient dividend rest e inner small over value = record {
    over = over;
    value = λ v long.
        by (dot first (with_defined others v)) (floor_div (expr_value dividend v) d.k) (defined_value d (with_defined others v))
        (dot coefs (with_defined ds v)) (expr_value rest v) (expr_value e v) (ap (λ z. floor_div z d.k) (inner.value v long)) (value_whole v long)
        (small.value v long) (value v);
  }
    where
      by : (a y x w r z : ℤ) → y ≡ x → w ≡ a +ℤ coef *ℤ x → r ≡ a +ℤ constant → z ≡ r +ℤ coef *ℤ y → z ≡ w +ℤ constant
      by a y x w r z same hw hr hz = let m = ap (λ t. coef *ℤ t) same in omega (arith, linear, m, hw, hr, hz)

-- the last column and those before it
pub record AreSplit (g : Gauge) (n count : ℕ) (ds : List Definition) (coefs : List ℤ) (d : Definition) (coef : ℤ) : Type 0 where
  pub sound : AreDefinitions g n (take count ds)
  pub own : IsDefinition g (n + count) d
  pub shorter : length (take count ds) < length ds
  pub width : length (take (n + count) coefs) ≡ n + length (take count ds)
  pub inner : length d.coefs ≡ n + length (take count ds)
  pub within : All (IsWithin g) (take (n + count) coefs)
  pub small : IsWithin g coef

pub split_last : (g : Gauge) (n count : ℕ) (ds : List Definition) (coefs : List ℤ) (d : Definition) (coef : ℤ) → length ds ≡ count + 1
    → length coefs ≡ n + length ds → d ≡ get_or ds count d → coef ≡ get_or coefs (n + count) coef → AreDefinitions g n ds → All (IsWithin g) coefs
    → AreSplit g n count ds coefs d coef
split_last g n count ds coefs d coef many wide is_d is_coef all within =
    let both = others_sound g n count ds coefs d coef coef many wide is_d is_coef all in
    let long = others_long g n count ds coefs d coef coef many wide is_d is_coef in
    let width = both.1.width in
    let low : n + count < length coefs = omega (arith, many, wide) in
    record {
      sound = both.0;
      own = both.1;
      shorter = omega (arith, long, many);
      width = first_count g n count ds coefs d coef coef many wide is_d is_coef;
      inner = omega (arith, width, long);
      within = All-take (IsWithin g) (n + count) coefs within;
      small = subst (IsWithin g) (sym is_coef) (within (n + count) coef low);
    }

-- ---- tests
module _ (g : Gauge) (n : ℕ) (ds : List Definition) (r : Row) where
  pub test_bound : (e : Expr) → r.kind ≡ kind.AtLeast → IsExpressed g n ds r.coefs r.constant e → IsRowTest g n ds r e
  test_bound e sort form = record {
    over = form.over;
    tells = λ v long.
        subst (λ k. (pos 0 ≤ℤ expr_value e v) ↔ HoldsValue k r.k (value_at r (with_defined ds v))) (sym sort)
        (subst (λ z. (pos 0 ≤ℤ expr_value e v) ↔ (pos 0 ≤ℤ z)) (form.value v long) ((λ h. h), (λ h. h)));
  }

  multiple : (k z y : ℤ) → pos 0 <ℤ k → y ≡ neg_ℤ z +ℤ k *ℤ floor_div z k → (pos 0 ≤ℤ y) ↔ divide.Divides k z
  multiple k z y up is =
      let s = floor_split z k up in
      let b = floor_mod_bounds z k up in
      let low = b.0 in (
        (λ h. record { quotient = floor_div z k; is = omega (arith, linear, is, s, low, h) }),
        (λ h. let e = exact_quotient k z up h in omega (arith, linear, is, e)),
      )

  pub test_multiple : (form rest e : Expr) (opposite : List ℤ) (constant : ℤ) → r.kind ≡ kind.Divides → pos 0 <ℤ r.k
      → opposite ≡ weighted_sum (negsuc 0) r.coefs (pos 0) r.coefs → constant ≡ neg_ℤ r.constant → IsExpressed g n ds r.coefs r.constant form
      → IsExpressed g n ds opposite constant rest → IsExprOver g n e
      → ((v : List ℤ) → expr_value e v ≡ expr_value rest v +ℤ r.k *ℤ floor_div (expr_value form v) r.k) → IsRowTest g n ds r e
  test_multiple form rest e opposite constant sort up is_opposite is_constant plain minus over value = record {
    over = over;
    tells = λ v long.
        let q = with_defined ds v in
        subst (λ k. (pos 0 ≤ℤ expr_value e v) ↔ HoldsValue k r.k (value_at r q)) (sym sort)
        (subst (λ z. (pos 0 ≤ℤ expr_value e v) ↔ divide.Divides r.k z) (plain.value v long)
        (multiple r.k (expr_value form v) (expr_value e v) up
        (by (dot r.coefs q) (dot opposite q) (expr_value form v) (expr_value rest v) (r.k *ℤ floor_div (expr_value form v) r.k) (expr_value e v)
        (ap (λ (cs : List ℤ). dot cs q) is_opposite ∙ dot-weighted_sum (negsuc 0) r.coefs (pos 0) r.coefs q refl)
        (plain.value v long) (minus.value v long) (value v))));
  }
    where
      by : (a b f m p y : ℤ) → b ≡ negsuc 0 *ℤ a +ℤ pos 0 *ℤ a → f ≡ a +ℤ r.constant → m ≡ b +ℤ constant → y ≡ m +ℤ p → y ≡ neg_ℤ f +ℤ p
      by a b f m p y hb hf hm hy = omega (arith, linear, hb, hf, hm, hy, is_constant)

  no_multiple : (k z y : ℤ) → pos 0 <ℤ k → y ≡ (z -ℤ pos 1) +ℤ neg_ℤ k *ℤ floor_div z k → (pos 0 ≤ℤ y) ↔ (¬ divide.Divides k z)
  no_multiple k z y up is =
      let s = floor_split z k up in
      let b = floor_mod_bounds z k up in
      let low = b.0 in
      let is' = simp expand at is in (
        (λ h d. let e = exact_quotient k z up d in let e' = simp expand at e in omega (arith, linear, is', e', h)),
        (λ h. elim (cases_ℤ (divide.floor_mod z k) (pos 0)) [
          | inl below ↦ absurd (omega (arith, linear, low, below))
          | inr other ↦ elim other [
            | inl same ↦ absurd (h (record { quotient = floor_div z k; is = omega (arith, linear, s, same) }))
            | inr above ↦ let s' = simp expand at s in simp expand (omega (arith, linear, is', s', above))
          ]
        ]),
      )

  pub test_no_multiple : (form rest e : Expr) (constant times : ℤ) → r.kind ≡ kind.NotDivides → pos 0 <ℤ r.k → constant ≡ r.constant -ℤ pos 1
      → times ≡ neg_ℤ r.k → IsExpressed g n ds r.coefs r.constant form → IsExpressed g n ds r.coefs constant rest → IsExprOver g n e
      → ((v : List ℤ) → expr_value e v ≡ expr_value rest v +ℤ times *ℤ floor_div (expr_value form v) r.k) → IsRowTest g n ds r e
  test_no_multiple form rest e constant times sort up is_constant is_times plain minus over value = record {
    over = over;
    tells = λ v long.
        let q = with_defined ds v in
        subst (λ j. (pos 0 ≤ℤ expr_value e v) ↔ HoldsValue j r.k (value_at r q)) (sym sort)
        (subst (λ z. (pos 0 ≤ℤ expr_value e v) ↔ (¬ divide.Divides r.k z)) (plain.value v long)
        (no_multiple r.k (expr_value form v) (expr_value e v) up
        (by (dot r.coefs q) (expr_value form v) (expr_value rest v) (times *ℤ floor_div (expr_value form v) r.k) (expr_value e v)
        (plain.value v long) (minus.value v long) (value v)
        ∙ ap (λ j. (expr_value form v -ℤ pos 1) +ℤ j *ℤ floor_div (expr_value form v) r.k) is_times)));
  }
    where
      by : (a f m p y : ℤ) → f ≡ a +ℤ r.constant → m ≡ a +ℤ constant → y ≡ m +ℤ p → y ≡ (f -ℤ pos 1) +ℤ p
      by a f m p y hf hm hy = omega (arith, linear, hf, hm, hy, is_constant)

-- the row of a question
pub test_question : (g : Gauge) (n : ℕ) (s : System) (asked : IsQuestion g n s) (r : Row) → r ≡ asked.row → (e : Expr)
    → IsRowTest g n s.definitions r e → IsTestOf g n s e
test_question g n s asked r is e told = record {
  over = told.over;
  tells = λ v long.
      let q = question_holds g n s v asked in
      let t = subst (λ (x : Row). (pos 0 ≤ℤ expr_value e v) ↔ HoldsRow x (full s v)) is (told.tells v long) in
      ((λ h. q.1 (t.0 h)), (λ h. t.1 (q.0 h)));
}

-- ---- leaves
pub column_value : (g : Gauge) (n : ℕ) (numbers : System) (column : ℕ) (coefs : List ℤ) (e : Expr) → IsFrame g n numbers → column < numbers.columns
    → coefs ≡ set (replicate numbers.columns (pos 0)) column (negsuc 0) → IsExpressed g n numbers.definitions coefs (pos 0) e
    → IsNegatedColumn g n numbers column e
column_value g n numbers column coefs e frame inside is form = record {
  over = form.over;
  value = λ v long.
      let q = full numbers v in
      let l = frame_full g n numbers v frame long in
      form.value v long ∙ ap (λ (cs : List ℤ). dot cs q +ℤ pos 0) is ∙ unit numbers.columns column q inside;
}
  where
    unit : (m c : ℕ) (q : List ℤ) → c < m → dot (set (replicate m (pos 0)) c (negsuc 0)) q +ℤ pos 0 ≡ neg_ℤ (get_or q c (pos 0))
    unit zero c q l = absurd (omega (arith, l))
    unit (suc m) zero [] l = refl
    unit (suc m) (suc c) [] l = refl
    unit (suc m) zero (x ∷ q) l = let z = dot-zeros m q in omega (arith, linear, z)
    unit (suc m) (suc c) (x ∷ q) l = let rest = unit m c q (omega (arith, l)) in omega (arith, linear, rest)

-- the first columns behind the front
pub record AreFirst (g : Gauge) (n : ℕ) (numbers : System) (column : ℕ) (leaf : List Expr) : Type 0 where
  pub over : All (IsExprOver g n) leaf
  pub count : n + length leaf ≡ column
  pub value : (v : List ℤ) → length v ≡ n → map (λ e. expr_value e v) leaf ++ map neg_ℤ (drop column (full numbers v)) ≡ map neg_ℤ (drop n (full numbers v))

pub first_none : (g : Gauge) (n : ℕ) (numbers : System) (leaf : List Expr) → leaf ≡ [] → AreFirst g n numbers n leaf
first_none g n numbers leaf none = subst (AreFirst g n numbers n) (sym none) (record {
  over = All-nil (IsExprOver g n);
  count = omega arith;
  value = λ v long. refl;
})

pub first_more : (g : Gauge) (n : ℕ) (numbers : System) (column : ℕ) (leaf more : List Expr) (e : Expr) → IsFrame g n numbers → column < numbers.columns
    → AreFirst g n numbers column leaf → IsNegatedColumn g n numbers column e → more ≡ leaf ++ e ∷ [] → AreFirst g n numbers (column + 1) more
first_more g n numbers column leaf more e frame inside so_far own is = subst (AreFirst g n numbers (column + 1)) (sym is) (record {
  over = All-push (IsExprOver g n) leaf e so_far.over own.over;
  count = let c = so_far.count in let l = length-append leaf (e ∷ []) in omega (arith, c, l);
  value = λ v long.
      let q = full numbers v in
      let l = frame_full g n numbers v frame long in
      let here : drop column q ≡ get_or q column (pos 0) ∷ drop (column + 1) q = drop_more q column (pos 0) (omega (arith, l, inside)) in
      ap (λ (zs : List ℤ). zs ++ map neg_ℤ (drop (column + 1) q)) (map-append (λ f. expr_value f v) leaf (e ∷ []))
      ∙ append_assoc (map (λ f. expr_value f v) leaf) (expr_value e v ∷ []) (map neg_ℤ (drop (column + 1) q))
      ∙ ap (λ z. map (λ f. expr_value f v) leaf ++ (z ∷ map neg_ℤ (drop (column + 1) q))) (own.value v long)
      ∙ ap (λ (zs : List ℤ). map (λ f. expr_value f v) leaf ++ map neg_ℤ zs) (sym here)
      ∙ so_far.value v long;
})

pub first_all : (g : Gauge) (n : ℕ) (numbers : System) (column : ℕ) (leaf : List Expr) → IsFrame g n numbers → numbers.columns ≡ column
    → AreFirst g n numbers column leaf → AreExpressed g n numbers leaf
first_all g n numbers column leaf frame end all = record {
  over = all.over;
  count = let c = all.count in omega (arith, c, end);
  value = λ v long.
      let q = full numbers v in
      let l = frame_full g n numbers v frame long in
      sym (nothing (map (λ e. expr_value e v) leaf) (drop column q) (drop_all column q (omega (arith, l, end)))) ∙ all.value v long;
}
  where
    nothing : (xs zs : List ℤ) → zs ≡ [] → xs ++ map neg_ℤ zs ≡ xs
    nothing xs zs none = ap (λ (y : List ℤ). xs ++ map neg_ℤ y) none ∙ append_none xs
      where
        append_none : (ys : List ℤ) → ys ++ [] ≡ ys
        append_none [] = refl
        append_none (y ∷ ys) = ap (λ l. y ∷ l) (append_none ys)
