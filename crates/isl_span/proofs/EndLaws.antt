-- What is left when all forms were asked for.
use Rattle.std.proofs.Common.{◌≡◌, ◌↔◌, ◌∙◌, inl, inr, refl, sym, ap, subst, ℕ, zero, suc, ◌<◌, arith, ℤ, pos, ◌+ℤ◌, true, false}
use Rattle.std.proofs.Common.{List, [], ◌∷◌, ◌++◌, length, length-append, get_or, take, drop}
use Rattle.std.specs.List.{All}
use Rattle.std.proofs.lemmas.Bool.{false_from_ne_true}
use Rattle.std.proofs.lemmas.List.{append_assoc, map-append}
use Rattle.std.proofs.lemmas.List.Elements.{All-append, All-cons, All-head, All-nil, All-tail, All-weaker}
use Rattle.isl_math.specs.Dot.{dot}
use Rattle.isl_math.proofs.ListLaws.{All-parts}
use Rattle.isl_meter.specs.Gauge.{Gauge}
use Rattle.isl_piece.specs.declared.row.Row.{Row}
use Rattle.isl_piece.specs.declared.row.RowKind.{RowKind}
use Rattle.isl_piece.specs.declared.row.RowKind.TheVariants.{Zero, AtLeast}
use Rattle.isl_piece.specs.declared.system.System.{System}
use Rattle.isl_piece.specs.Normal.{Kept, normal_row, same_bound}
use Rattle.isl_piece.specs.Row.{HasModulus, HoldsRow, HoldsValue, IsRowWithin, IsWellFormed, value_at}
use Rattle.isl_piece.specs.System.{HoldRows}
use Rattle.isl_piece.proofs.MergeLaws.{same_bound-true, AreApart}
use Rattle.isl_piece.proofs.NormalLaws.{IsNormal-from}
use Rattle.isl_span.specs.Chain.{AreHullRows}
use Rattle.isl_span.specs.Forms.{IsForm, forms_of}
use Rattle.isl_span.specs.Independent.{AreIndependent}
use Rattle.isl_span.specs.Points.{AreFormsFor, IsHullSystem, IsPoint}
use Rattle.isl_span.proofs.StepLaws.{later}
use Rattle.isl_span.specs.Spanned.{Fun, HaveOwn, Vanish}
use Rattle.isl_span.proofs.OwnLaws.{own_point}
use Rattle.isl_span.proofs.SpannedLaws.{vanishes}

-- ---- equations hold where their forms are 0
pub equation_holds : (r : Row) (x : List ℤ) → r.kind ≡ Zero → HoldsRow r x ↔ (value_at r x ≡ pos 0)
equation_holds r x is = (
  (λ h. subst (λ (kind : RowKind). HoldsValue kind r.k (value_at r x)) is h),
  (λ z. subst (λ (kind : RowKind). HoldsValue kind r.k (value_at r x)) (sym is) z),
)

abbrev IsEquation : Row → Type 0
IsEquation r = r.kind ≡ Zero

vanish_hold : (rows : List Row) (x : List ℤ) → All IsEquation rows → Vanish (forms_of rows) x → HoldRows rows x
vanish_hold [] x all zeros = All-nil (λ r. HoldsRow r x)
vanish_hold (r ∷ rows) x all zeros =
    All-cons (λ r. HoldsRow r x) r rows ((equation_holds r x (All-head IsEquation r rows all)).1 zeros.0)
    (vanish_hold rows x (All-tail IsEquation r rows all) zeros.1)

hold_vanish : (rows : List Row) (x : List ℤ) → All IsEquation rows → HoldRows rows x → Vanish (forms_of rows) x
hold_vanish [] x all holds = tt
hold_vanish (r ∷ rows) x all holds = (
  (equation_holds r x (All-head IsEquation r rows all)).0 (All-head (λ r. HoldsRow r x) r rows holds),
  hold_vanish rows x (All-tail IsEquation r rows all) (All-tail (λ r. HoldsRow r x) r rows holds),
)

-- ---- no two of them are equal
split_at : {X : Type 0} (xs : List X) (k : ℕ) (d : X) → k < length xs → xs ≡ take k xs ++ get_or xs k d ∷ drop (suc k) xs
split_at [] k d low = absurd (omega arith)
split_at (x ∷ xs) zero d low = refl
split_at (x ∷ xs) (suc k) d low = ap (λ l. x ∷ l) (split_at xs k d (omega arith))

not_zero : AtLeast ≡ Zero → ⊥
not_zero e = cc

same_holds : (r s : Row) → IsEquation r → IsEquation s → same_bound r s ≡ true → (x : List ℤ) → HoldsRow r x → HoldsRow s x
same_holds r s is also same x h =
    let b = same_bound-true r s same in
    let constant : r.constant ≡ s.constant = elim b.constant [ inl e ↦ absurd (not_zero (sym e ∙ is)) | inr e ↦ e ] in
    let value : value_at r x ≡ value_at s x =
    ap (λ (cs : List ℤ). dot cs x +ℤ r.constant) b.coefs ∙ ap (λ (k : ℤ). dot s.coefs x +ℤ k) constant in
    (equation_holds s x also).1 (sym value ∙ (equation_holds r x is).0 h)

rows_apart : (n : ℕ) (before rows : List Row) → AreIndependent n (before ++ rows) → All IsEquation rows → AreApart rows
rows_apart n before [] needed all = tt
rows_apart n before (r ∷ rows) needed all = (
  others,
  rows_apart n (before ++ r ∷ []) rows (subst (AreIndependent n) (sym (append_assoc before (r ∷ []) rows)) needed)
      (All-tail IsEquation r rows all),
)
  where
    others : All (λ s. same_bound r s ≡ false) rows
    others k d low =
        let s = get_or rows k d in
        let split : before ++ r ∷ rows ≡ (before ++ r ∷ take k rows) ++ s ∷ drop (suc k) rows =
        ap (λ l. before ++ r ∷ l) (split_at rows k d low) ∙ sym (append_assoc before (r ∷ take k rows) (s ∷ drop (suc k) rows)) in
        false_from_ne_true (same_bound r s) (λ same.
        needed (before ++ r ∷ take k rows) s (drop (suc k) rows) split (λ x long holds.
        let first = All-parts (λ o. HoldsRow o x) (before ++ r ∷ take k rows) (drop (suc k) rows) holds in
        let here = All-parts (λ o. HoldsRow o x) before (r ∷ take k rows) first.0 in
        same_holds r s (All-head IsEquation r rows all) (All-tail IsEquation r rows all k d low) same x
        (All-head (λ o. HoldsRow o x) r (take k rows) here.1)))

-- ---- the hull
module _ (g : Gauge) (n : ℕ) (P : List ℤ → Type 0) (rows : List Row) (all : AreFormsFor g n P 0 rows) where
  equations : All IsEquation rows
  equations = All-weaker (IsForm g n) IsEquation (λ r f. f.kind) rows all.forms

  parts_independent : AreIndependent n rows
  parts_independent before r behind is implied =
      let split : forms_of rows ≡ forms_of before ++ value_at r ∷ forms_of behind = ap forms_of is ∙ map-append value_at before
      (r ∷ behind) in
      let own = own_point (λ x. length x ≡ n) (forms_of before) (value_at r) (forms_of behind) all.points all.long
      (subst (λ l. HaveOwn l all.points) split all.own) in
      let parts = All-parts IsEquation before (r ∷ behind) (subst (All IsEquation) is equations) in
      let x = own.0 in
      own.2 ((equation_holds r x (All-head IsEquation r behind parts.1)).0 (implied x own.1
      (All-append (λ o. HoldsRow o x) before behind (vanish_hold before x parts.0 own.3)
      (vanish_hold behind x (All-tail IsEquation r behind parts.1) own.4))))

  pub rows_are : (p : List ℤ) → P p → AreHullRows g n P rows
  rows_are p here = record {
    forms = all.forms;
    independent = parts_independent;
    some = λ none. none p here;
    exact = λ x. (
      (λ holds coefs constant v.
          let f : Fun = λ point. dot coefs point +ℤ constant in
          vanishes (forms_of rows) f x (all.spanned coefs constant v) (hold_vanish rows x equations holds)),
      (λ zero k d low.
          let r = get_or rows k d in
          (equation_holds r x (equations k d low)).1 (zero r.coefs r.constant (record {
            long = (all.forms k d low).formed.width;
            zero = λ y q. (equation_holds r y (equations k d low)).0 (vanish_hold rows y equations (all.proved y q) k d low);
          }))),
    );
  }

-- the system of such rows
pub hull_is : (g : Gauge) (n : ℕ) (P : List ℤ → Type 0) (rows : List Row) → AreHullRows g n P rows
    → IsHullSystem g n P (record { columns = n; definitions = []; rows = rows })
hull_is g n P rows are =
    let equations : All IsEquation rows = All-weaker (IsForm g n) IsEquation (λ r f. f.kind) rows are.forms in
    record {
      width = refl;
      plain = refl;
      equations = equations;
      formed = All-weaker (IsForm g n) (IsWellFormed n) (λ r f. f.formed) rows are.forms;
      within = All-weaker (IsForm g n) (IsRowWithin g) (λ r f. f.within) rows are.forms;
      normal = IsNormal-from rows (All-weaker (IsForm g n) (λ r. normal_row r ≡ Kept r) (λ r f. f.normal) rows are.forms)
          (All-weaker (IsForm g n) (λ r. HasModulus r.kind r.k) (λ r f. f.formed.modulus) rows are.forms)
          (rows_apart n [] rows are.independent equations);
      independent = are.independent;
      some = are.some;
      exact = are.exact;
    }

-- ---- where these are those of the points of systems
pub forms_before : (g h : Gauge) (n m : ℕ) (systems : List System) (rows : List Row) → h.bits ≡ g.bits → m ≡ n
    → AreFormsFor h m (IsPoint m systems) 0 rows → AreFormsFor g n (IsPoint n systems) 0 rows
forms_before g h n m systems rows same wide all =
    later h g n (IsPoint n systems) 0 rows (sym same) (subst (λ k. AreFormsFor h k (IsPoint k systems) 0 rows) wide all)

-- ---- no columns
pub empty_hull : (g : Gauge) (n : ℕ) (P : List ℤ → Type 0) → n ≡ 0 → (p : List ℤ) → length p ≡ n → P p → AreHullRows g n P []
empty_hull g n P none p long here = record {
  forms = All-nil (IsForm g n);
  independent = λ before r behind is. absurd (let l = ap length is in let m = length-append before (r ∷ behind) in omega (arith, l, m));
  some = λ never. never p here;
  exact = λ x. (
    (λ holds cs k v. by cs k x (v.long ∙ none) (v.zero p here)),
    (λ zeros. All-nil (λ o. HoldsRow o x)),
  );
}
  where
    by : (cs : List ℤ) (k : ℤ) (x : List ℤ) → length cs ≡ 0 → dot cs p +ℤ k ≡ pos 0 → dot cs x +ℤ k ≡ pos 0
    by [] k x e z = z
    by (c ∷ cs) k x e z = absurd (omega (arith, e))
