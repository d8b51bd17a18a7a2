-- Rows of forms, and what comparisons say.
use Rattle.std.proofs.Common.{◌≡◌, ◌↔◌, ◌∙◌, refl, sym, ap, subst, arith, ℕ, ◌<◌, ◌≤◌, ℤ, pos, negsuc, neg_ℤ, ◌+ℤ◌, ◌-ℤ◌, ◌*ℤ◌, ◌≤ℤ◌, ◌<ℤ◌}
use Rattle.std.proofs.Common.{Bool, true, false, ◌&&◌, List, [], ◌∷◌, ◌++◌, length, get_or, Option, None, Some}
use Rattle.std.specs.Prelude.{is_some, if◌then◌else◌, not}
use Rattle.std.specs.List.{list_all}
use Rattle.std.proofs.lemmas.Bool.{false≢true}
use Rattle.std.proofs.lemmas.Bool.Decides.{Decides-int_eq}
use Rattle.std.proofs.lemmas.List.{get_or_append_left}
use Rattle.std.proofs.lemmas.List.Elements.{All-append, All-nil, All-cons}
use Rattle.isl_math.specs.Dot.{dot}
use Rattle.isl_math.specs.Divide.{floor_mod}
use Rattle.isl_math.proofs.DivideLaws.{Divides-from_mod, mod-from_Divides}
use Rattle.isl_math.proofs.ListLaws.{All-parts}
use Rattle.isl_math.proofs.Ring.{expand, linear}
use Rattle.isl_meter.specs.Gauge.{Gauge, IsWithin}
use Rattle.isl_piece.specs.declared.row.RowKind.{RowKind}
use Rattle.isl_piece.specs.declared.row.RowKind.TheVariants as kind
use Rattle.isl_piece.specs.declared.row.Row.{Row}
use Rattle.isl_piece.specs.declared.system.System.{System}
use Rattle.isl_piece.specs.Definition.{with_defined}
use Rattle.isl_piece.specs.Row.{HasModulus, HoldsValue, HoldsRow, IsWellFormed, IsRowWithin}
use Rattle.isl_piece.specs.System.{HoldsSystem, IsSystemWithin, free_columns}
use Rattle.isl_tree.specs.declared.tree.Factor.{Factor}
use Rattle.isl_tree.specs.declared.tree.Signed.{Signed'}
use Rattle.isl_tree.specs.declared.tree.Product.{Product', None', Some'}
use Rattle.isl_tree.specs.declared.tree.Compare.{Compare}
use Rattle.isl_tree.specs.declared.tree.Compare.TheVariants.{Equal, Less, LessEqual, Greater, GreaterEqual, Differs}
use Rattle.isl_tree.specs.Environment.{Environment}
use Rattle.isl_tree.specs.Formula.{Compares}
use Rattle.isl_tree.specs.Literal.{is_among}
use Rattle.isl_tree.specs.Term.{Term, factor_value, term_value}
use Rattle.isl_tree.specs.Known.{term_names}
use Rattle.isl_affine.specs.declared.difference.Bound.{Bound}
use Rattle.isl_affine.specs.declared.difference.Bound.TheVariants as bound
use Rattle.isl_affine.specs.declared.form.Form.{Form}
use Rattle.isl_affine.specs.Comparison.{lone_remainder, is_zero, is_equation, zero_remainder, differs, splits}
use Rattle.isl_tree.specs.Divisors.{HasDivisors}
use Rattle.isl_affine.specs.Form.{form_at, padded, IsColumn, IsFormWithin, IsSumOf, IsOver, GivesForm, IsReady}
use Rattle.isl_affine.specs.Parts.{is_in, IsTermIn, IsPartIn, IsFactorIn}
use Rattle.isl_affine.specs.Rows.{IsWithRow, Narrows, BoundHolds, difference_of, congruence_kind}
use Rattle.isl_affine.specs.Scope.{Scope, IsNumbered, IsTermKnown}
use Rattle.isl_affine.proofs.FormLaws.{dot-padded, length-padded_up, padded_within}
use Rattle.isl_affine.proofs.DivisionLaws.{Extends_trans, IsOver-longer, form_kept, longer, over_within, sum_meter}
use Rattle.isl_affine.proofs.TermLaws.{gives_over, gives_ready, gives_within, in-factor, in-moduli, term_part}

-- ---- a row behind the others
row_behind : (g : Gauge) (s : System) (rk : RowKind) (k : ℤ) (form : Form) → IsOver g s form → HasModulus rk k → IsWithin g k
    → IsWithRow g s rk k form (record {
      columns = s.columns;
      definitions = s.definitions;
      rows = s.rows ++ record { kind = rk; coefs = padded s.columns form.coefs; constant = form.constant; k = k } ∷ [];
    })
row_behind g s rk k form over modulus small =
    let row : Row = record { kind = rk; coefs = padded s.columns form.coefs; constant = form.constant; k = k } in
    record {
      within = record {
        rows = All-append (IsWellFormed s.columns) s.rows (row ∷ []) over.system.rows (All-cons (IsWellFormed s.columns) row []
            (record { width = length-padded_up s.columns form.coefs over.width; modulus = modulus }) (All-nil (IsWellFormed s.columns)));
        within = All-append (IsRowWithin g) s.rows (row ∷ []) over.system.within (All-cons (IsRowWithin g) row []
            (record { coefs = padded_within g s.columns form.coefs over.within.coefs; constant = over.within.constant; k = small })
            (All-nil (IsRowWithin g)));
        count = over.system.count;
        definitions = over.system.definitions;
      };
      free = refl;
      points = λ point e.
          let full = with_defined s.definitions point in
          let same : dot (padded s.columns form.coefs) full +ℤ form.constant ≡ form_at form full =
          ap (λ (z : ℤ). z +ℤ form.constant) (dot-padded s.columns form.coefs full) in (
            (λ h.
                let both = All-parts (λ r. HoldsRow r full) s.rows (row ∷ []) h in
                (both.0, subst (HoldsValue rk k) same (both.1 0 row (omega arith)))),
            (λ h. All-append (λ r. HoldsRow r full) s.rows (row ∷ []) h.0
                (All-cons (λ r. HoldsRow r full) row [] (subst (HoldsValue rk k) (sym same) h.1) (All-nil (λ r. HoldsRow r full)))),
          );
    }

pub row_pushed : (g : Gauge) (s : System) (rk : RowKind) (k m : ℤ) (form : Form) (coefs : List ℤ) (row : Row) (rows : List Row) → IsOver g s form
    → HasModulus rk k → m ≡ k → IsWithin g m → coefs ≡ padded s.columns form.coefs
    → row ≡ record { kind = rk; coefs = coefs; constant = form.constant; k = m } → rows ≡ s.rows ++ row ∷ []
    → IsWithRow g s rk k form (record { columns = s.columns; definitions = s.definitions; rows = rows })
row_pushed g s rk k m form coefs row rows over modulus same small is made pushed =
    let exact : row ≡ record { kind = rk; coefs = padded s.columns form.coefs; constant = form.constant; k = k } =
    made ∙ ap (λ (cs : List ℤ). record { kind = rk; coefs = cs; constant = form.constant; k = m }) is
    ∙ ap (λ (n : ℤ). record { kind = rk; coefs = padded s.columns form.coefs; constant = form.constant; k = n }) same in
    subst (λ (rs : List Row). IsWithRow g s rk k form (record { columns = s.columns; definitions = s.definitions; rows = rs }))
    (sym (pushed ∙ ap (λ (r : Row). s.rows ++ r ∷ []) exact))
    (row_behind g s rk k form over modulus (subst (IsWithin g) same small))

pub ruleset pushes = (row_pushed)

-- ---- differences
pub difference_made : (g h i j : Gauge) (scope : Scope) (a b c : System) (greater less : Term) (left right form : Form) (m : ℤ)
    → GivesForm g scope a b (term_value greater) left → h ≡ g → GivesForm h scope b c (term_value less) right → i ≡ h → m ≡ negsuc 0
    → IsSumOf i j left m right form → GivesForm g scope a c (λ env. term_value greater env -ℤ term_value less env) form
difference_made g h i j scope a b c greater less left right form m first e1 second' e2 minus last =
    let second = subst (λ (x : Gauge). GivesForm x scope b c (term_value less) right) e1 second' in
    let kept = IsOver-longer g b c left first.is.over second.extends in
    record {
      extends = Extends_trans g a b c first.extends second.extends;
      is = record {
        over = record {
          system = second.extends.within;
          within = subst (λ (x : Gauge). IsFormWithin x form) (e2 ∙ e1) last.within;
          width = last.width c.columns kept.width second.is.over.width;
        };
        number = λ point env e numbered.
            let before = e ∙ second.extends.free in
            let full = with_defined c.definitions point in
            by (form_at form full) (form_at left full) (form_at right full) m (term_value greater env) (term_value less env) (last.number full)
            (form_kept g b c left point first.is.over second.extends before ∙ first.is.number point env before numbered)
            (second.is.number point env e numbered) minus;
      };
    }
  where
    by : (s f x m t v : ℤ) → s ≡ f +ℤ m *ℤ x → f ≡ t → x ≡ v → m ≡ negsuc 0 → s ≡ t -ℤ v
    by s f x m t v e1 e2 e3 e4 = e1 ∙ other f x m t v e2 e3 e4
      where
        other : (f x m t v : ℤ) → f ≡ t → x ≡ v → m ≡ negsuc 0 → f +ℤ m *ℤ x ≡ t -ℤ v
        other f x m t v e2 e3 e4 = rw (e2, e3, e4) (simp expand (omega (arith, linear)))

pub ruleset differences = (gives_ready, gives_within, difference_made, sum_meter)

-- a row of a form of a value
narrowed : (g : Gauge) (scope : Scope) (old mid new : System) (v : Environment → ℤ) (form : Form) (rk : RowKind) (k : ℤ)
    (says : List ℤ → Environment → Type 0) → GivesForm g scope old mid v form → IsWithRow g mid rk k form new
    → ((point : List ℤ) (env : Environment) → HoldsValue rk k (v env) ↔ says point env) → Narrows g scope old new says
narrowed g scope old mid new v form rk k says gives row means = record {
  within = row.within;
  free = row.free ∙ gives.extends.free;
  points = λ point env e numbered.
      let there = e ∙ sym gives.extends.free in
      let at = row.points point there in
      let same = gives.extends.points point e in
      let number = gives.is.number point env there numbered in
      let said = means point env in (
        (λ h. let both = at.0 h in (same.0 both.0, said.0 (subst (HoldsValue rk k) number both.1))),
        (λ h. at.1 (same.1 h.0, subst (HoldsValue rk k) (sym number) (said.1 h.1))),
      );
}

pub zero_bound : (g h : Gauge) (scope : Scope) (old mid new : System) (greater less : Term) (form : Form) (b : Bound)
    → GivesForm g scope old mid (λ env. term_value greater env -ℤ term_value less env) form → h ≡ g
    → IsWithRow h mid kind.Zero (pos 1) form new → b ≡ bound.Zero
    → Narrows g scope old new (λ _. λ env. BoundHolds b (term_value greater env -ℤ term_value less env))
zero_bound g h scope old mid new greater less form b gives same row is =
    subst (λ (b : Bound). Narrows g scope old new (λ _. λ env. BoundHolds b (term_value greater env -ℤ term_value less env))) (sym is)
    (narrowed g scope old mid new (λ env. term_value greater env -ℤ term_value less env) form kind.Zero (pos 1)
    (λ _. λ env. BoundHolds bound.Zero (term_value greater env -ℤ term_value less env)) gives
    (subst (λ (x : Gauge). IsWithRow x mid kind.Zero (pos 1) form new) same row) (λ point env. ((λ p. p), (λ p. p))))

pub least_bound : (g h : Gauge) (scope : Scope) (old mid new : System) (greater less : Term) (form : Form) (b : Bound)
    → GivesForm g scope old mid (λ env. term_value greater env -ℤ term_value less env) form → h ≡ g
    → IsWithRow h mid kind.AtLeast (pos 1) form new → b ≡ bound.AtLeast
    → Narrows g scope old new (λ _. λ env. BoundHolds b (term_value greater env -ℤ term_value less env))
least_bound g h scope old mid new greater less form b gives same row is =
    subst (λ (b : Bound). Narrows g scope old new (λ _. λ env. BoundHolds b (term_value greater env -ℤ term_value less env))) (sym is)
    (narrowed g scope old mid new (λ env. term_value greater env -ℤ term_value less env) form kind.AtLeast (pos 1)
    (λ _. λ env. BoundHolds bound.AtLeast (term_value greater env -ℤ term_value less env)) gives
    (subst (λ (x : Gauge). IsWithRow x mid kind.AtLeast (pos 1) form new) same row) (λ point env. ((λ p. p), (λ p. p))))

-- a form less one
pub less_over : (g h i : Gauge) (scope : Scope) (old mid : System) (v : Environment → ℤ) (form unit less : Form) (m z : ℤ)
    → GivesForm g scope old mid v form → h ≡ g → unit ≡ record { coefs = []; constant = z } → IsSumOf h i form m unit less → IsOver i mid less
less_over g h i scope old mid v form unit less m z gives same is sum = subst (λ (x : Gauge). IsOver x mid less) (sym (sum.meter ∙ same)) (record {
  system = gives.extends.within;
  within = subst (λ (x : Gauge). IsFormWithin x less) same sum.within;
  width = sum.width mid.columns gives.is.over.width (subst (λ (f : Form). length f.coefs ≤ mid.columns) (sym is) (omega arith));
})

pub unit_within : (g : Gauge) (unit : Form) (z : ℤ) → unit ≡ record { coefs = []; constant = z } → IsWithin g z → IsFormWithin g unit
unit_within g unit z is small =
    subst (IsFormWithin g) (sym is) (record { coefs = λ i d l. absurd (omega arith); constant = small })

pub above_bound : (g h i : Gauge) (scope : Scope) (old mid new : System) (greater less : Term) (form unit lesser : Form) (m z : ℤ) (b : Bound)
    → GivesForm g scope old mid (λ env. term_value greater env -ℤ term_value less env) form → h ≡ g → m ≡ negsuc 0
    → unit ≡ record { coefs = []; constant = z } → z ≡ pos 1 → IsSumOf h i form m unit lesser → IsWithRow i mid kind.AtLeast (pos 1) lesser new
    → b ≡ bound.Above → Narrows g scope old new (λ _. λ env. BoundHolds b (term_value greater env -ℤ term_value less env))
above_bound g h i scope old mid new greater less form unit lesser m z b gives same minus is one sum row' bound_is =
    let all : i ≡ g = sum.meter ∙ same in
    let row = subst (λ (x : Gauge). IsWithRow x mid kind.AtLeast (pos 1) lesser new) all row' in
    let lower : GivesForm g scope old mid (λ env. term_value greater env -ℤ term_value less env -ℤ pos 1) lesser = record {
      extends = gives.extends;
      is = record {
        over = subst (λ (x : Gauge). IsOver x mid lesser) all
            (less_over g h i scope old mid (λ env. term_value greater env -ℤ term_value less env) form unit lesser m z gives same is sum);
        number = λ point env e numbered.
            let full = with_defined mid.definitions point in
            by (form_at lesser full) (form_at form full) (form_at unit full) m z (term_value greater env -ℤ term_value less env) (sum.number full)
            (ap (λ (f : Form). form_at f full) is) (gives.is.number point env e numbered) minus one;
      };
    } in
    subst (λ (b : Bound). Narrows g scope old new (λ _. λ env. BoundHolds b (term_value greater env -ℤ term_value less env))) (sym bound_is)
    (narrowed g scope old mid new (λ env. term_value greater env -ℤ term_value less env -ℤ pos 1) lesser kind.AtLeast (pos 1)
    (λ _. λ env. BoundHolds bound.Above (term_value greater env -ℤ term_value less env)) lower row
    (λ point env. strict (term_value greater env -ℤ term_value less env)))
  where
    strict : (v : ℤ) → (pos 0 ≤ℤ (v -ℤ pos 1)) ↔ (pos 0 <ℤ v)
    strict v = ((λ h. omega (arith, linear)), (λ h. omega (arith, linear)))

    by : (s f u m z v : ℤ) → s ≡ f +ℤ m *ℤ u → u ≡ pos 0 +ℤ z → f ≡ v → m ≡ negsuc 0 → z ≡ pos 1 → s ≡ v -ℤ pos 1
    by s f u m z v e1 e2 e3 e4 e5 = e1 ∙ other f u m z v e2 e3 e4 e5
      where
        other : (f u m z v : ℤ) → u ≡ pos 0 +ℤ z → f ≡ v → m ≡ negsuc 0 → z ≡ pos 1 → f +ℤ m *ℤ u ≡ v -ℤ pos 1
        other f u m z v e2 e3 e4 e5 = rw (e2, e3, e4, e5) (simp expand (omega (arith, linear)))

pub ruleset bounds = (gives_over, gives_within, unit_within, less_over, zero_bound, least_bound, above_bound, sum_meter)

-- ---- congruences
pub congruence_made : (g h : Gauge) (scope : Scope) (old mid new : System) (factor : Factor) (form : Form) (rk : RowKind) (k m : ℤ)
    → GivesForm g scope old mid (factor_value factor) form → h ≡ g → IsWithRow h mid rk m form new → m ≡ k
    → Narrows g scope old new (λ _. λ env. HoldsValue rk k (factor_value factor env))
congruence_made g h scope old mid new factor form rk k m gives same row' number_is =
    let row = subst (λ (n : ℤ). IsWithRow h mid rk n form new) number_is row' in
    narrowed g scope old mid new (factor_value factor) form rk k (λ _. λ env. HoldsValue rk k (factor_value factor env)) gives
    (subst (λ (x : Gauge). IsWithRow x mid rk k form new) same row) (λ point env. ((λ p. p), (λ p. p)))

pub ruleset congruences = (gives_over, congruence_made)

-- ---- entries
pub entry_over : (g h i : Gauge) (scope : Scope) (old mid : System) (v : Environment → ℤ) (form unit sum : Form) (m : ℤ) (column : ℕ)
    → column < free_columns old → GivesForm g scope old mid v form → h ≡ g → IsColumn h column unit → IsSumOf h i form m unit sum → IsOver i mid sum
entry_over g h i scope old mid v form unit sum m column inside gives same is last = subst (λ (x : Gauge). IsOver x mid sum) (sym (last.meter ∙ same))
    (record {
      system = gives.extends.within;
      within = subst (λ (x : Gauge). IsFormWithin x sum) same last.within;
      width = last.width mid.columns gives.is.over.width (let w = is.width in let f = gives.extends.free in omega arith);
    })

pub column_within : (g : Gauge) (column : ℕ) (form : Form) → IsColumn g column form → IsFormWithin g form
column_within g column form is = is.within

pub entry_made : (g h i : Gauge) (scope : Scope) (old mid new : System) (term : Term) (form unit sum : Form) (m : ℤ) (column : ℕ)
    → column < free_columns old → GivesForm g scope old mid (term_value term) form → h ≡ g → IsColumn h column unit → m ≡ negsuc 0
    → IsSumOf h i form m unit sum → IsWithRow i mid kind.Zero (pos 1) sum new
    → Narrows g scope old new (λ point. λ env. term_value term env ≡ get_or point column (pos 0))
entry_made g h i scope old mid new term form unit sum m column inside gives same is minus last row = record {
  within = subst (λ (x : Gauge). IsSystemWithin x new) (last.meter ∙ same) row.within;
  free = row.free ∙ gives.extends.free;
  points = λ point env e numbered.
      let there = e ∙ sym gives.extends.free in
      let at = row.points point there in
      let kept = gives.extends.points point e in
      let full = with_defined mid.definitions point in
      let later = longer mid.definitions point in
      let here : form_at unit full ≡ get_or point column (pos 0) =
      is.number full ∙ ap (λ (xs : List ℤ). get_or xs column (pos 0)) later.is
      ∙ get_or_append_left point later.rest (pos 0) column (omega arith) in
      let number : form_at sum full ≡ term_value term env -ℤ get_or point column (pos 0) =
      by (form_at sum full) (form_at form full) (form_at unit full) m (term_value term env) (get_or point column (pos 0)) (last.number full)
      (gives.is.number point env there numbered) here minus in (
        (λ p. let both = at.0 p in (kept.0 both.0, equal (term_value term env) (get_or point column (pos 0)) (sym number ∙ both.1))),
        (λ p. at.1 (kept.1 p.0, number ∙ none (term_value term env) (get_or point column (pos 0)) p.1)),
      );
}
  where
    by : (s f x m t v : ℤ) → s ≡ f +ℤ m *ℤ x → f ≡ t → x ≡ v → m ≡ negsuc 0 → s ≡ t -ℤ v
    by s f x m t v e1 e2 e3 e4 = e1 ∙ other f x m t v e2 e3 e4
      where
        other : (f x m t v : ℤ) → f ≡ t → x ≡ v → m ≡ negsuc 0 → f +ℤ m *ℤ x ≡ t -ℤ v
        other f x m t v e2 e3 e4 = rw (e2, e3, e4) (simp expand (omega (arith, linear)))

    equal : (a b : ℤ) → a -ℤ b ≡ pos 0 → a ≡ b
    equal a b e = omega (arith, linear)

    none : (a b : ℤ) → a ≡ b → a -ℤ b ≡ pos 0
    none a b e = omega (arith, linear)

pub ruleset entries = (entry_over, column_within, entry_made, gives_within, sum_meter)

-- ---- what is known
list_all_same : {A : Type 0} (p q : A → Bool) (xs : List A) → ((x : A) → p x ≡ q x) → list_all p xs ≡ list_all q xs
list_all_same p q [] same = refl
list_all_same p q (x ∷ xs) same = by (p x) (q x) (list_all p xs) (list_all q xs) (same x) (list_all_same p q xs same)
  where
    by : (a b c d : Bool) → a ≡ b → c ≡ d → (a && c) ≡ (b && d)
    by a b c d e f = ap (λ (x : Bool). x && c) e ∙ ap (λ (x : Bool). b && x) f

pub term_in : (scope : Scope) (term : Term) → IsTermKnown scope term → HasDivisors term → IsTermIn scope term
term_in scope term (known, knows, is) divisors = record {
  known = sym (list_all_same (is_among known) (is_in scope) (term_names term) knows) ∙ is;
  divisors = divisors;
}

pub ready : (g : Gauge) (scope : Scope) (s : System) → IsSystemWithin g s → length scope ≤ free_columns s → IsReady g scope s
ready g scope s within columns = record { system = within; columns = columns }

-- ---- comparisons
pub difference_means : (c : Compare) (left right : Term) (env : Environment) → differs c ≡ false
    → BoundHolds (difference_of c left right).2 (term_value (difference_of c left right).0 env -ℤ term_value (difference_of c left right).1 env)
    ↔ Compares c (term_value left env) (term_value right env)
difference_means Equal left right env plain = by (term_value left env) (term_value right env)
  where
    by : (a b : ℤ) → (a -ℤ b ≡ pos 0) ↔ (a ≡ b)
    by a b = ((λ h. omega (arith, linear)), (λ h. omega (arith, linear)))
difference_means Less left right env plain = by (term_value left env) (term_value right env)
  where
    by : (a b : ℤ) → (pos 0 <ℤ (b -ℤ a)) ↔ (a <ℤ b)
    by a b = ((λ h. omega (arith, linear)), (λ h. omega (arith, linear)))
difference_means LessEqual left right env plain = by (term_value left env) (term_value right env)
  where
    by : (a b : ℤ) → (pos 0 ≤ℤ (b -ℤ a)) ↔ (a ≤ℤ b)
    by a b = ((λ h. omega (arith, linear)), (λ h. omega (arith, linear)))
difference_means Greater left right env plain = by (term_value left env) (term_value right env)
  where
    by : (a b : ℤ) → (pos 0 <ℤ (a -ℤ b)) ↔ (b <ℤ a)
    by a b = ((λ h. omega (arith, linear)), (λ h. omega (arith, linear)))
difference_means GreaterEqual left right env plain = by (term_value left env) (term_value right env)
  where
    by : (a b : ℤ) → (pos 0 ≤ℤ (a -ℤ b)) ↔ (b ≤ℤ a)
    by a b = ((λ h. omega (arith, linear)), (λ h. omega (arith, linear)))
difference_means Differs left right env plain = absurd (false≢true (sym plain))

and_split : (a b : Bool) → (a && b) ≡ true → (a ≡ true) × (b ≡ true)
and_split true b e = (refl, e)
and_split false b e = absurd (false≢true e)

some_is_none : {A : Type 0} (x : A) → None ≡ Some x → ⊥
some_is_none {A = A} x e = false≢true (ap (λ (o : Option A). is_some o) e)

remainder_parts : (c : Compare) (left right : Term) (factor : Factor) (k : ℤ) → zero_remainder c left right ≡ Some (factor, k)
    → (is_equation c ≡ true) × (is_zero right ≡ true) × (lone_remainder left ≡ Some (factor, k))
remainder_parts c left right factor k is = by (is_equation c) (is_zero right) is
  where
    by : (a b : Bool) → (if a && b then lone_remainder left else None) ≡ Some (factor, k)
        → (a ≡ true) × (b ≡ true) × (lone_remainder left ≡ Some (factor, k))
    by true true e = (refl, refl, e)
    by true false e = absurd (some_is_none (factor, k) e)
    by false b e = absurd (some_is_none (factor, k) e)

lone_shape : (left : Term) (factor : Factor) (k : ℤ) → lone_remainder left ≡ Some (factor, k)
    → left ≡ Signed' false (Product' [] (Some' factor (k ∷ []))) ∷ []
lone_shape [] factor k e = absurd (some_is_none (factor, k) e)
lone_shape (Signed' true product ∷ parts) factor k e = absurd (some_is_none (factor, k) e)
lone_shape (Signed' false (Product' (n ∷ ns) inner) ∷ parts) factor k e = absurd (some_is_none (factor, k) e)
lone_shape (Signed' false (Product' [] None') ∷ parts) factor k e = absurd (some_is_none (factor, k) e)
lone_shape (Signed' false (Product' [] (Some' f [])) ∷ parts) factor k e = absurd (some_is_none (factor, k) e)
lone_shape (Signed' false (Product' [] (Some' f (m ∷ (l ∷ ms)))) ∷ parts) factor k e = absurd (some_is_none (factor, k) e)
lone_shape (Signed' false (Product' [] (Some' f (m ∷ []))) ∷ (x ∷ parts)) factor k e = absurd (some_is_none (factor, k) e)
lone_shape (Signed' false (Product' [] (Some' f (m ∷ []))) ∷ []) factor k e =
    ap (λ (o : Option (Factor × ℤ)). held o) e
  where
    held : Option (Factor × ℤ) → Term
    held None = []
    held (Some pair) = Signed' false (Product' [] (Some' pair.0 (pair.1 ∷ []))) ∷ []

zero_value : (right : Term) (env : Environment) → is_zero right ≡ true → term_value right env ≡ pos 0
zero_value [] env e = refl
zero_value (Signed' negative (Product' [] inner) ∷ parts) env e = absurd (false≢true e)
zero_value (Signed' negative (Product' (n ∷ (m ∷ ns)) inner) ∷ parts) env e = absurd (false≢true e)
zero_value (Signed' negative (Product' (n ∷ []) (Some' f ks)) ∷ parts) env e = absurd (false≢true e)
zero_value (Signed' negative (Product' (n ∷ []) None') ∷ (x ∷ parts)) env e = absurd (false≢true e)
zero_value (Signed' true (Product' (n ∷ []) None') ∷ []) env e = by n ((Decides-int_eq n (pos 0)).0 e)
  where
    by : (n : ℤ) → n ≡ pos 0 → neg_ℤ (n *ℤ pos 1 *ℤ pos 1) +ℤ pos 0 ≡ pos 0
    by n e = rw e (simp expand (omega (arith, linear)))
zero_value (Signed' false (Product' (n ∷ []) None') ∷ []) env e = by n ((Decides-int_eq n (pos 0)).0 e)
  where
    by : (n : ℤ) → n ≡ pos 0 → n *ℤ pos 1 *ℤ pos 1 +ℤ pos 0 ≡ pos 0
    by n e = rw e (simp expand (omega (arith, linear)))

-- what a remainder that is compared with 0 says
remainder_value : (left : Term) (factor : Factor) (k : ℤ) (env : Environment) → left ≡ Signed' false (Product' [] (Some' factor (k ∷ []))) ∷ []
    → term_value left env ≡ floor_mod (factor_value factor env) k
remainder_value left factor k env is = ap (λ (t : Term). term_value t env) is ∙ by (floor_mod (factor_value factor env) k)
  where
    by : (v : ℤ) → pos 1 *ℤ v +ℤ pos 0 ≡ v
    by v = simp expand (omega (arith, linear))

kind_means : (c : Compare) (k v a b : ℤ) → is_equation c ≡ true → pos 0 <ℤ k → a ≡ floor_mod v k → b ≡ pos 0
    → HoldsValue (congruence_kind c) k v ↔ Compares c a b
kind_means Equal k v a b e positive p q = rw (p, q) ((λ h. mod-from_Divides k v positive h), (λ h. Divides-from_mod k v positive h))
kind_means Differs k v a b e positive p q =
    rw (p, q) ((λ h. λ m. h (Divides-from_mod k v positive m)), (λ h. λ d. h (mod-from_Divides k v positive d)))
kind_means Less k v a b e positive p q = absurd (false≢true e)
kind_means LessEqual k v a b e positive p q = absurd (false≢true e)
kind_means Greater k v a b e positive p q = absurd (false≢true e)
kind_means GreaterEqual k v a b e positive p q = absurd (false≢true e)

pub remainder_means : (c : Compare) (left right : Term) (factor : Factor) (k : ℤ) (env : Environment) → zero_remainder c left right ≡ Some (factor, k)
    → pos 0 <ℤ k → HoldsValue (congruence_kind c) k (factor_value factor env) ↔ Compares c (term_value left env) (term_value right env)
remainder_means c left right factor k env is positive =
    let parts = remainder_parts c left right factor k is in
    kind_means c k (factor_value factor env) (term_value left env) (term_value right env) parts.0 positive
    (remainder_value left factor k env (lone_shape left factor k parts.2)) (zero_value right env parts.1)

remainder_in : (scope : Scope) (c : Compare) (left right : Term) (factor : Factor) (k : ℤ) → zero_remainder c left right ≡ Some (factor, k)
    → IsTermIn scope left → (pos 0 <ℤ k) × IsFactorIn scope factor
remainder_in scope c left right factor k is known =
    let shape = lone_shape left factor k (remainder_parts c left right factor k is).2 in
    let here = subst (IsTermIn scope) shape known in
    let part : IsPartIn scope (Signed' false (Product' [] (Some' factor (k ∷ [])))) =
    term_part scope (Signed' false (Product' [] (Some' factor (k ∷ []))) ∷ []) 0 (Signed' false (Product' [] (Some' factor (k ∷ [])))) here
    (omega arith) refl in (
      in-moduli scope (Signed' false (Product' [] (Some' factor (k ∷ [])))) (k ∷ []) refl part 0 (pos 0) (omega arith),
      in-factor scope (Signed' false (Product' [] (Some' factor (k ∷ [])))) factor refl part,
    )

pub remainder_factor : (scope : Scope) (c : Compare) (left right : Term) (factor : Factor) (k : ℤ) → zero_remainder c left right ≡ Some (factor, k)
    → IsTermIn scope left → IsFactorIn scope factor
remainder_factor scope c left right factor k is known = (remainder_in scope c left right factor k is known).1

pub remainder_divisor : (scope : Scope) (c : Compare) (left right : Term) (factor : Factor) (k : ℤ) → zero_remainder c left right ≡ Some (factor, k)
    → IsTermIn scope left → pos 0 <ℤ k
remainder_divisor scope c left right factor k is known = (remainder_in scope c left right factor k is known).0

pub kind_modulus : (c : Compare) (k : ℤ) → pos 0 <ℤ k → HasModulus (congruence_kind c) k
kind_modulus Equal k positive = positive
kind_modulus Differs k positive = positive
kind_modulus Less k positive = positive
kind_modulus LessEqual k positive = positive
kind_modulus Greater k positive = positive
kind_modulus GreaterEqual k positive = positive

pub no_difference : (c : Compare) (left right : Term) → splits c left right ≡ false → zero_remainder c left right ≡ None → differs c ≡ false
no_difference c left right whole none = by (differs c) (ap (λ (o : Option (Factor × ℤ)). differs c && not (is_some o)) (sym none) ∙ whole)
  where
    by : (b : Bool) → (b && true) ≡ false → b ≡ false
    by true e = e
    by false e = refl

-- one claim for another that says the same
narrows_same : (g : Gauge) (scope : Scope) (old new : System) (P Q : List ℤ → Environment → Type 0)
    → ((point : List ℤ) (env : Environment) → P point env ↔ Q point env) → Narrows g scope old new P → Narrows g scope old new Q
narrows_same g scope old new P Q same is = record {
  within = is.within;
  free = is.free;
  points = λ point env e numbered.
      let at = is.points point env e numbered in
      let both = same point env in (
        (λ h. let parts = at.0 h in (parts.0, both.0 parts.1)),
        (λ h. at.1 (h.0, both.1 h.1)),
      );
}

pub compared_remainder : (g : Gauge) (scope : Scope) (old new : System) (c : Compare) (left right : Term) (factor : Factor) (k m : ℤ) (rk : RowKind)
    → zero_remainder c left right ≡ Some (factor, k) → IsTermIn scope left → rk ≡ congruence_kind c
    → Narrows g scope old new (λ _. λ env. HoldsValue rk m (factor_value factor env)) → m ≡ k
    → Narrows g scope old new (λ _. λ env. Compares c (term_value left env) (term_value right env))
compared_remainder g scope old new c left right factor k m rk is known same given number_is =
    let narrows = subst (λ (n : ℤ). Narrows g scope old new (λ _. λ env. HoldsValue rk n (factor_value factor env))) number_is given in
    narrows_same g scope old new (λ _. λ env. HoldsValue (congruence_kind c) k (factor_value factor env))
    (λ _. λ env. Compares c (term_value left env) (term_value right env))
    (λ point env. remainder_means c left right factor k env is (remainder_divisor scope c left right factor k is known))
    (subst (λ (r : RowKind). Narrows g scope old new (λ _. λ env. HoldsValue r k (factor_value factor env))) same narrows)

pub remainder_modulus : (scope : Scope) (c : Compare) (left right : Term) (factor : Factor) (k : ℤ) (rk : RowKind)
    → zero_remainder c left right ≡ Some (factor, k) → IsTermIn scope left → rk ≡ congruence_kind c → HasModulus rk k
remainder_modulus scope c left right factor k rk is known same =
    subst (λ (r : RowKind). HasModulus r k) (sym same) (kind_modulus c k (remainder_divisor scope c left right factor k is known))

pub compared_difference : (g : Gauge) (scope : Scope) (old new : System) (c : Compare) (left right greater less : Term) (b : Bound)
    → splits c left right ≡ false → zero_remainder c left right ≡ None → (greater, less, b) ≡ difference_of c left right
    → Narrows g scope old new (λ _. λ env. BoundHolds b (term_value greater env -ℤ term_value less env))
    → Narrows g scope old new (λ _. λ env. Compares c (term_value left env) (term_value right env))
compared_difference g scope old new c left right greater less b single none is narrows =
    narrows_same g scope old new (λ _. λ env. BoundHolds (difference_of c left right).2
    (term_value (difference_of c left right).0 env -ℤ term_value (difference_of c left right).1 env))
    (λ _. λ env. Compares c (term_value left env) (term_value right env))
    (λ point env. difference_means c left right env (no_difference c left right single none))
    (subst (λ (d : Term × Term × Bound). Narrows g scope old new (λ _. λ env. BoundHolds d.2 (term_value d.0 env -ℤ term_value d.1 env))) is narrows)

parts_in : (scope : Scope) (c : Compare) (left right : Term) → IsTermIn scope left → IsTermIn scope right
    → IsTermIn scope (difference_of c left right).0 × IsTermIn scope (difference_of c left right).1
parts_in scope Equal left right l r = (l, r)
parts_in scope Less left right l r = (r, l)
parts_in scope LessEqual left right l r = (r, l)
parts_in scope Greater left right l r = (l, r)
parts_in scope GreaterEqual left right l r = (l, r)
parts_in scope Differs left right l r = (l, r)

pub greater_in : (scope : Scope) (c : Compare) (left right greater less : Term) (b : Bound) → (greater, less, b) ≡ difference_of c left right
    → IsTermIn scope left → IsTermIn scope right → IsTermIn scope greater
greater_in scope c left right greater less b is l r =
    subst (λ (d : Term × Term × Bound). IsTermIn scope d.0) (sym is) (parts_in scope c left right l r).0

pub less_in : (scope : Scope) (c : Compare) (left right greater less : Term) (b : Bound) → (greater, less, b) ≡ difference_of c left right
    → IsTermIn scope left → IsTermIn scope right → IsTermIn scope less
less_in scope c left right greater less b is l r =
    subst (λ (d : Term × Term × Bound). IsTermIn scope d.1) (sym is) (parts_in scope c left right l r).1

pub ruleset comparisons = (
  compared_remainder,
  remainder_factor,
  remainder_divisor,
  remainder_modulus,
  compared_difference,
  greater_in,
  less_in,
)

-- ---- the calls
pub comparison_points : (g : Gauge) (scope : Scope) (old new : System) (c : Compare) (left right : Term) (point : List ℤ) (env : Environment)
    → Narrows g scope old new (λ _. λ env. Compares c (term_value left env) (term_value right env)) → length point ≡ free_columns old
    → IsNumbered scope point env → HoldsSystem new point ↔ (HoldsSystem old point × Compares c (term_value left env) (term_value right env))
comparison_points g scope old new c left right point env is e numbered = is.points point env e numbered

pub entry_points : (g : Gauge) (scope : Scope) (old new : System) (term : Term) (column : ℕ) (point : List ℤ) (env : Environment)
    → Narrows g scope old new (λ point. λ env. term_value term env ≡ get_or point column (pos 0)) → length point ≡ free_columns old
    → IsNumbered scope point env → HoldsSystem new point ↔ (HoldsSystem old point × (term_value term env ≡ get_or point column (pos 0)))
entry_points g scope old new term column point env is e numbered = is.points point env e numbered

pub narrows_within : (g : Gauge) (scope : Scope) (old new : System) (says : List ℤ → Environment → Type 0) → Narrows g scope old new says
    → IsSystemWithin g new
narrows_within g scope old new says is = is.within

pub narrows_free : (g : Gauge) (scope : Scope) (old new : System) (says : List ℤ → Environment → Type 0) → Narrows g scope old new says
    → free_columns new ≡ free_columns old
narrows_free g scope old new says is = is.free

pub ruleset outer = (term_in, ready, comparison_points, entry_points, narrows_within, narrows_free)
