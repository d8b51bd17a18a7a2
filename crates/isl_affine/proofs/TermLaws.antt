-- The forms of terms, at the constructors of the code.
use mathlib.Core.Former.{Count}
use Rattle.std.proofs.Common.{◌≡◌, ◌∙◌, refl, sym, ap, subst, arith, ℕ, zero, suc, ◌+◌, ◌<◌, ◌≤◌, ℤ, pos, negsuc, neg_ℤ, ◌+ℤ◌, ◌*ℤ◌, ◌<ℤ◌, Bool, true, false, ◌&&◌}
use Rattle.std.proofs.Common.{List, [], ◌∷◌, ◌++◌, length, get_or, take, drop, Option, None, Some, to_z-of_z}
use Rattle.std.specs.Prelude.{is_some, IfSome}
use Rattle.std.specs.List.{All, list_all}
use Rattle.std.proofs.lemmas.Bool.{false≢true}
use Rattle.std.proofs.lemmas.List.{take_more, take_all, get_or_append_left}
use Rattle.std.proofs.lemmas.List.Folds.{list_all-append}
use Rattle.isl_math.specs.Divide.{floor_div}
use Rattle.isl_math.proofs.Ring.{expand, linear}
use Rattle.isl_math.proofs.ListLaws.{All-parts}
use Rattle.isl_meter.specs.Gauge.{Gauge, IsWithin}
use Rattle.isl_meter.proofs.LimitLemmas.{IsWithin-zero}
use Rattle.isl_piece.specs.declared.system.System.{System}
use Rattle.isl_piece.specs.Definition.{with_defined}
use Rattle.isl_tree.specs.declared.tree.Factor.{Factor, Name, Inner, Floor, Ceil, Row_of-Signed, end_of-Signed, more_of-Signed}
use Rattle.isl_tree.specs.declared.tree.Factor.{items-the_row-Signed, items_hidden-the_row-Signed-0}
use Rattle.isl_tree.specs.declared.tree.Factor.TheBlock.{hidden-the_row-Signed-0}
use Rattle.isl_tree.specs.declared.tree.Modded.{Modded}
use Rattle.isl_tree.specs.declared.tree.Signed.{Signed, Signed', out-Signed}
use Rattle.isl_tree.specs.declared.tree.Product.{Product', Held-Product-inner, None', Some', out-Product}
use Rattle.isl_tree.specs.Environment.{Environment, value_in}
use Rattle.isl_tree.specs.Term.{Term, product_of, remainder_of, factor_value, inner_value, signed_value, sum_value, term_value}
use Rattle.isl_tree.specs.Known.{factor_names, inner_names, signed_names, sum_names, term_names}
use Rattle.isl_affine.specs.declared.form.Form.{Form}
use Rattle.isl_tree.specs.Divisors.{factor_divisors, inner_divisors, signed_divisors, sum_divisors, term_divisors}
use Rattle.isl_affine.specs.Form.{form_at, IsColumn, IsFormWithin, IsSumOf, IsOver, IsStep, IsFormOf, GivesForm, IsReady}
use Rattle.isl_affine.specs.Parts.{inner_of, moduli_of, amount_of, is_in, IsTermIn, IsPartIn, IsFactorIn}
use Rattle.isl_affine.specs.Scope.{Scope, column_of}
use Rattle.isl_affine.specs.Size.{factor_size, inner_size, part_size, sum_size, term_size}
use Rattle.isl_affine.proofs.DivisionLaws.{Extends_refl, Extends_trans, IsOver-longer, form_kept, longer, over_within, sum_meter, zero_form, full_length}

-- ---- products
product_of-push : (xs : List ℤ) (x : ℤ) → product_of (xs ++ x ∷ []) ≡ product_of xs *ℤ x
product_of-push [] x = by x
  where
    by : (x : ℤ) → x *ℤ pos 1 ≡ pos 1 *ℤ x
    by x = simp expand (omega (arith, linear))
product_of-push (y ∷ xs) x = by y x (product_of (xs ++ x ∷ [])) (product_of xs) (product_of-push xs x)
  where
    by : (y x p q : ℤ) → p ≡ q *ℤ x → y *ℤ p ≡ y *ℤ q *ℤ x
    by y x p q e = rw e (simp expand (omega (arith, linear)))

pub times_none : (first : ℤ) (ns : List ℤ) → first ≡ first *ℤ product_of (take 0 ns)
times_none first ns = by first
  where
    by : (x : ℤ) → x ≡ x *ℤ pos 1
    by x = simp expand (omega (arith, linear))

pub times_more : (first p z : ℤ) (ns : List ℤ) (i : ℕ) → i < length ns → p ≡ first *ℤ product_of (take i ns) → z ≡ p *ℤ get_or ns i (pos 0)
    → z ≡ first *ℤ product_of (take (i + 1) ns)
times_more first p z ns i inside before is =
    is ∙ ap (λ (y : ℤ). y *ℤ get_or ns i (pos 0)) before
    ∙ by first (product_of (take i ns)) (get_or ns i (pos 0))
    ∙ sym (ap (λ (y : ℤ). first *ℤ y) (ap product_of (take_more ns i (pos 0) inside) ∙ product_of-push (take i ns) (get_or ns i (pos 0))))
  where
    by : (f p n : ℤ) → f *ℤ p *ℤ n ≡ f *ℤ (p *ℤ n)
    by f p n = simp expand (omega (arith, linear))

pub ruleset products = (to_z-of_z, times_none, times_more)

-- ---- names
pub name_column : (g : Gauge) (scope : Scope) (s : System) (name : List ℕ) (column : ℕ) (made : Form) → IsReady g scope s
    → Some column ≡ column_of scope name → column < length scope → IsColumn g column made → IsFormOf g scope s (λ env. value_in env name) made
name_column g scope s name column made ready at inside is = record {
  over = record {
    system = ready.system;
    within = is.within;
    width = let w = is.width in let c = ready.columns in let n = ready.system.count in omega arith;
  };
  number = λ point env e numbered.
      let later = longer s.definitions point in
      let c = ready.columns in
      let here : value_in env name ≡ get_or point column (pos 0) =
      subst (λ (o : Option ℕ). IfSome o (λ at. value_in env name ≡ get_or point at (pos 0))) (sym at) (numbered.value name) in
      is.number (with_defined s.definitions point)
      ∙ ap (λ (xs : List ℤ). get_or xs column (pos 0)) later.is
      ∙ get_or_append_left point later.rest (pos 0) column (omega arith) ∙ sym here;
}

pub name_none : (scope : Scope) (name : List ℕ) → is_in scope name ≡ true → None ≡ column_of scope name → ⊥
name_none scope name known none = false≢true (ap (λ (o : Option ℕ). is_some o) none ∙ known)

pub ruleset names = (name_column, name_none)

-- ---- factors
-- a row of parts is their list
sum_is : (m : Count) (row : Row_of-Signed m) (env : Environment) → sum_value row env ≡ term_value (items-the_row-Signed m row) env
sum_is m end_of-Signed env = refl
sum_is m (more_of-Signed part row) env = ap (λ (z : ℤ). signed_value part env +ℤ z) (sum_is _ row env)

inside_value : (term : List Signed) (env : Environment) → sum_value (hidden-the_row-Signed-0 term) env ≡ term_value term env
inside_value term env =
    sum_is _ (hidden-the_row-Signed-0 term) env ∙ ap (λ (t : Term). term_value t env) (items_hidden-the_row-Signed-0 term)

names_are : (m : Count) (row : Row_of-Signed m) → sum_names row ≡ term_names (items-the_row-Signed m row)
names_are m end_of-Signed = refl
names_are m (more_of-Signed part row) = ap (λ ns. signed_names part ++ ns) (names_are _ row)

inside_names : (term : List Signed) → sum_names (hidden-the_row-Signed-0 term) ≡ term_names term
inside_names term = names_are _ (hidden-the_row-Signed-0 term) ∙ ap term_names (items_hidden-the_row-Signed-0 term)

divisors_are : (m : Count) (row : Row_of-Signed m) → sum_divisors row ≡ term_divisors (items-the_row-Signed m row)
divisors_are m end_of-Signed = refl
divisors_are m (more_of-Signed part row) = ap (λ ks. signed_divisors part ++ ks) (divisors_are _ row)

inside_divisors : (term : List Signed) → sum_divisors (hidden-the_row-Signed-0 term) ≡ term_divisors term
inside_divisors term = divisors_are _ (hidden-the_row-Signed-0 term) ∙ ap term_divisors (items_hidden-the_row-Signed-0 term)

pub in-Name : (scope : Scope) (x : Factor) (name : List ℕ) → x ≡ Name name → IsFactorIn scope x → is_in scope name ≡ true
in-Name scope x name is known = by (is_in scope name) (subst (λ (f : Factor). list_all (is_in scope) (factor_names f) ≡ true) is known.known)
  where
    by : (b : Bool) → (b && true) ≡ true → b ≡ true
    by true e = refl
    by false e = e

inner_in : (scope : Scope) (x : Factor) (term : Term) → x ≡ Inner term → IsFactorIn scope x → IsTermIn scope term
inner_in scope x term is known =
    let here = subst (IsFactorIn scope) is known in
    record {
      known = subst (λ (ns : List (List ℕ)). list_all (is_in scope) ns ≡ true) (inside_names term) here.known;
      divisors = subst (λ (ks : List ℤ). All (λ k. pos 0 <ℤ k) ks) (inside_divisors term) here.divisors;
    }

pub in-Inner : (scope : Scope) (x : Factor) (term slice : Term) → x ≡ Inner term → slice ≡ term → IsFactorIn scope x → IsTermIn scope slice
in-Inner scope x term slice is same known = subst (IsTermIn scope) (sym same) (inner_in scope x term is known)

divided_in : (scope : Scope) (term : Term) (k : ℤ) → list_all (is_in scope) (sum_names (hidden-the_row-Signed-0 term)) ≡ true
    → All (λ k. pos 0 <ℤ k) (k ∷ sum_divisors (hidden-the_row-Signed-0 term)) → (pos 0 <ℤ k) × IsTermIn scope term
divided_in scope term k known divisors =
    let both = All-parts (λ k. pos 0 <ℤ k) (k ∷ []) (sum_divisors (hidden-the_row-Signed-0 term)) divisors in (
      both.0 0 (pos 0) (omega arith),
      record {
        known = subst (λ (ns : List (List ℕ)). list_all (is_in scope) ns ≡ true) (inside_names term) known;
        divisors = subst (λ (ks : List ℤ). All (λ k. pos 0 <ℤ k) ks) (inside_divisors term) both.1;
      },
    )

pub in-Floor : (scope : Scope) (x : Factor) (term slice : Term) (k : ℤ) → x ≡ Floor term k → slice ≡ term → IsFactorIn scope x → IsTermIn scope slice
in-Floor scope x term slice k is same known =
    let here = subst (IsFactorIn scope) is known in
    subst (IsTermIn scope) (sym same) (divided_in scope term k here.known here.divisors).1

pub by-Floor : (scope : Scope) (x : Factor) (term : Term) (k : ℤ) → x ≡ Floor term k → IsFactorIn scope x → pos 0 <ℤ k
by-Floor scope x term k is known = let here = subst (IsFactorIn scope) is known in (divided_in scope term k here.known here.divisors).0

pub in-Ceil : (scope : Scope) (x : Factor) (term slice : Term) (k : ℤ) → x ≡ Ceil term k → slice ≡ term → IsFactorIn scope x → IsTermIn scope slice
in-Ceil scope x term slice k is same known =
    let here = subst (IsFactorIn scope) is known in
    subst (IsTermIn scope) (sym same) (divided_in scope term k here.known here.divisors).1

pub by-Ceil : (scope : Scope) (x : Factor) (term : Term) (k : ℤ) → x ≡ Ceil term k → IsFactorIn scope x → pos 0 <ℤ k
by-Ceil scope x term k is known = let here = subst (IsFactorIn scope) is known in (divided_in scope term k here.known here.divisors).0

pub gives_over : (g h : Gauge) (scope : Scope) (old new : System) (v : Environment → ℤ) (form : Form) → h ≡ g → GivesForm g scope old new v form
    → IsOver h new form
gives_over g h scope old new v form same gives = subst (λ (x : Gauge). IsOver x new form) (sym same) gives.is.over

pub gives_ready : (g h : Gauge) (scope : Scope) (old new : System) (v : Environment → ℤ) (form : Form) → h ≡ g → IsReady g scope old
    → GivesForm g scope old new v form → IsReady h scope new
gives_ready g h scope old new v form same ready gives = subst (λ (x : Gauge). IsReady x scope new) (sym same) (record {
  system = gives.extends.within;
  columns = let c = ready.columns in let f = gives.extends.free in omega arith;
})

form_same : (g : Gauge) (scope : Scope) (s : System) (v w : Environment → ℤ) (form : Form) → ((env : Environment) → v env ≡ w env)
    → IsFormOf g scope s v form → IsFormOf g scope s w form
form_same g scope s v w form same is =
    record { over = is.over; number = λ point env e numbered. is.number point env e numbered ∙ same env }

-- a step on a form of a value
stepped : (g h : Gauge) (scope : Scope) (old mid new : System) (v : Environment → ℤ) (form made : Form) (f : ℤ → ℤ)
    → GivesForm g scope old mid v form → h ≡ g → IsStep h mid new form f made → GivesForm g scope old new (λ env. f (v env)) made
stepped g h scope old mid new v form made f gives same step' =
    let step = subst (λ (x : Gauge). IsStep x mid new form f made) same step' in
    record {
      extends = Extends_trans g old mid new gives.extends step.extends;
      is = record {
        over = step.over;
        number = λ point env e numbered.
            let there = e ∙ step.extends.free in
            step.number point there ∙ ap f (gives.is.number point env there numbered);
      };
    }

gives_same : (g : Gauge) (scope : Scope) (old new : System) (v w : Environment → ℤ) (form : Form) → ((env : Environment) → v env ≡ w env)
    → GivesForm g scope old new v form → GivesForm g scope old new w form
gives_same g scope old new v w form same gives = record { extends = gives.extends; is = form_same g scope new v w form same gives.is }

pub at-Name : (g : Gauge) (scope : Scope) (s : System) (x : Factor) (name : List ℕ) (form : Form) → x ≡ Name name
    → IsFormOf g scope s (λ env. value_in env name) form → GivesForm g scope s s (factor_value x) form
at-Name g scope s x name form is of = record {
  extends = Extends_refl g s of.over.system;
  is = subst (λ (f : Factor). IsFormOf g scope s (factor_value f) form) (sym is) of;
}

pub at-Inner : (g : Gauge) (scope : Scope) (old new : System) (x : Factor) (term slice : Term) (form : Form) → x ≡ Inner term
    → slice ≡ term → GivesForm g scope old new (term_value slice) form → GivesForm g scope old new (factor_value x) form
at-Inner g scope old new x term slice form is slice_is given =
    let gives = subst (λ (t : Term). GivesForm g scope old new (term_value t) form) slice_is given in
    subst (λ (f : Factor). GivesForm g scope old new (factor_value f) form) (sym is)
    (gives_same g scope old new (term_value term) (factor_value (Inner term)) form (λ env. sym (inside_value term env)) gives)

pub at-Floor : (g h : Gauge) (scope : Scope) (old mid new : System) (x : Factor) (term slice : Term) (k m : ℤ) (form made : Form) → x ≡ Floor term k
    → slice ≡ term → GivesForm g scope old mid (term_value slice) form → h ≡ g → IsStep h mid new form (λ z. floor_div z m) made → m ≡ k
    → GivesForm g scope old new (factor_value x) made
at-Floor g h scope old mid new x term slice k m form made is slice_is given same step' number_is =
    let step = subst (λ (n : ℤ). IsStep h mid new form (λ z. floor_div z n) made) number_is step' in
    let gives = subst (λ (t : Term). GivesForm g scope old mid (term_value t) form) slice_is given in
    subst (λ (f : Factor). GivesForm g scope old new (factor_value f) made) (sym is)
    (gives_same g scope old new (λ env. floor_div (term_value term env) k) (factor_value (Floor term k)) made
    (λ env. ap (λ (z : ℤ). floor_div z k) (sym (inside_value term env)))
    (stepped g h scope old mid new (term_value term) form made (λ z. floor_div z k) gives same step))

pub at-Ceil : (g h : Gauge) (scope : Scope) (old mid new : System) (x : Factor) (term slice : Term) (k m : ℤ) (form made : Form) → x ≡ Ceil term k
    → slice ≡ term → GivesForm g scope old mid (term_value slice) form → h ≡ g → IsStep h mid new form (λ z. neg_ℤ (floor_div (neg_ℤ z) m)) made → m ≡ k
    → GivesForm g scope old new (factor_value x) made
at-Ceil g h scope old mid new x term slice k m form made is slice_is given same step' number_is =
    let step = subst (λ (n : ℤ). IsStep h mid new form (λ z. neg_ℤ (floor_div (neg_ℤ z) n)) made) number_is step' in
    let gives = subst (λ (t : Term). GivesForm g scope old mid (term_value t) form) slice_is given in
    subst (λ (f : Factor). GivesForm g scope old new (factor_value f) made) (sym is)
    (gives_same g scope old new (λ env. neg_ℤ (floor_div (neg_ℤ (term_value term env)) k)) (factor_value (Ceil term k)) made
    (λ env. ap (λ (z : ℤ). neg_ℤ (floor_div (neg_ℤ z) k)) (sym (inside_value term env)))
    (stepped g h scope old mid new (term_value term) form made (λ z. neg_ℤ (floor_div (neg_ℤ z) k)) gives same step))

pub ruleset factors = (
  in-Name,
  in-Inner,
  in-Floor,
  by-Floor,
  in-Ceil,
  by-Ceil,
  gives_over,
  at-Name,
  at-Inner,
  at-Floor,
  at-Ceil,
)

-- ---- parts
part_names : (part : Signed) → signed_names part ≡ inner_names (inner_of part)
part_names (Signed' negative (Product' ns inner)) = refl

part_divisors : (part : Signed) → signed_divisors part ≡ inner_divisors (inner_of part)
part_divisors (Signed' negative (Product' ns inner)) = refl

pub part_in : (scope : Scope) (part : Signed) (factor : Factor) (moduli : List ℤ) → inner_of part ≡ Some' factor moduli → IsPartIn scope part
    → All (λ k. pos 0 <ℤ k) moduli × IsFactorIn scope factor
part_in scope part factor moduli is known =
    let names = part_names part ∙ ap inner_names is in
    let divisors = part_divisors part ∙ ap inner_divisors is in
    let both = All-parts (λ k. pos 0 <ℤ k) moduli (factor_divisors factor) (subst (λ (ks : List ℤ). All (λ k. pos 0 <ℤ k) ks) divisors known.divisors) in (
      both.0,
      record { known = subst (λ (ns : List (List ℕ)). list_all (is_in scope) ns ≡ true) names known.known; divisors = both.1 },
    )

pub in-factor : (scope : Scope) (part : Signed) (factor : Factor) → inner_of part ≡ Some' factor (moduli_of part) → IsPartIn scope part
    → IsFactorIn scope factor
in-factor scope part factor is known = (part_in scope part factor (moduli_of part) is known).1

pub in-moduli : (scope : Scope) (part : Signed) (slice : List ℤ) → slice ≡ moduli_of part → IsPartIn scope part → All (λ k. pos 0 <ℤ k) slice
in-moduli scope part slice is known = subst (λ (ks : List ℤ). All (λ k. pos 0 <ℤ k) ks) (sym is) (by part known)
  where
    by : (part : Signed) → IsPartIn scope part → All (λ k. pos 0 <ℤ k) (moduli_of part)
    by (Signed' negative (Product' ns None')) known = λ i d l. absurd (omega arith)
    by (Signed' negative (Product' ns (Some' factor moduli))) known =
        (All-parts (λ k. pos 0 <ℤ k) moduli (factor_divisors factor) known.divisors).0

pub at-Some : (g h : Gauge) (scope : Scope) (old mid new : System) (part : Signed) (factor : Factor) (slice : List ℤ) (form made : Form)
    → GivesForm g scope old mid (factor_value factor) form → h ≡ g → IsStep h mid new form (λ z. remainder_of z slice) made
    → slice ≡ moduli_of part → inner_of part ≡ Some' factor (moduli_of part) → GivesForm g scope old new (inner_value (inner_of part)) made
at-Some g h scope old mid new part factor slice form made gives same step' slice_is is =
    let step = subst (λ (ks : List ℤ). IsStep h mid new form (λ z. remainder_of z ks) made) slice_is step' in
    subst (λ (inner : Held-Product-inner). GivesForm g scope old new (inner_value inner) made) (sym is)
    (stepped g h scope old mid new (factor_value factor) form made (λ z. remainder_of z (moduli_of part)) gives same step)

-- a factor and its moduli, as the code finds them
pub inner_held : (part : Signed) (modded : Modded) → (out-Product (out-Signed part).product).inner ≡ Some modded
    → inner_of part ≡ Some' modded.factor modded.moduli
unfolding out-Product denote.Hole.Carrier.out out-Signed
inner_held (Signed' negative (Product' ns None')) modded e = absurd (false≢true (ap (λ (o : Option Modded). is_some o) e))
inner_held (Signed' negative (Product' ns (Some' factor moduli))) modded e = ap (λ (o : Option Modded). held o) e
  where
    held : Option Modded → Held-Product-inner
    held None = None'
    held (Some m) = Some' m.factor m.moduli

pub at-Held : (g h : Gauge) (scope : Scope) (old mid new : System) (part : Signed) (factor : Factor) (moduli slice : List ℤ) (form made : Form)
    → inner_of part ≡ Some' factor moduli → slice ≡ moduli → GivesForm g scope old mid (factor_value factor) form → h ≡ g
    → IsStep h mid new form (λ z. remainder_of z slice) made → GivesForm g scope old new (inner_value (inner_of part)) made
at-Held g h scope old mid new part factor moduli slice form made is slice_is gives same step' =
    let step = subst (λ (ks : List ℤ). IsStep h mid new form (λ z. remainder_of z ks) made) slice_is step' in
    subst (λ (inner : Held-Product-inner). GivesForm g scope old new (inner_value inner) made) (sym is)
    (stepped g h scope old mid new (factor_value factor) form made (λ z. remainder_of z moduli) gives same step)

pub at-None : (g : Gauge) (scope : Scope) (s : System) (part : Signed) (z : ℤ) → inner_of part ≡ None' → IsReady g scope s → z ≡ pos 1
    → IsWithin g z → GivesForm g scope s s (inner_value (inner_of part)) (record { coefs = []; constant = z })
at-None g scope s part z is ready one small = record {
  extends = Extends_refl g s ready.system;
  is = record {
    over = record {
      system = ready.system;
      within = record { coefs = λ i d l. absurd (omega arith); constant = small };
      width = omega arith;
    };
    number = λ point env e numbered.
        by z one ∙ sym (ap (λ (inner : Held-Product-inner). inner_value inner env) is);
  };
}
  where
    by : (z : ℤ) → z ≡ pos 1 → pos 0 +ℤ z ≡ pos 1
    by z e = omega (arith, linear)

pub ruleset parts = (in-factor, in-moduli, gives_over, at-Some, at-None)

-- ---- terms
pub term_start : (g : Gauge) (scope : Scope) (s : System) (form : Form) (term : Term) → IsReady g scope s
    → form ≡ record { coefs = []; constant = pos 0 } → GivesForm g scope s s (term_value (take 0 term)) form
term_start g scope s form term ready is = record {
  extends = Extends_refl g s ready.system;
  is = subst (λ (f : Form). IsFormOf g scope s (term_value (take 0 term)) f) (sym is) (record {
    over = record {
      system = ready.system;
      within = record { coefs = λ i d l. absurd (omega arith); constant = IsWithin-zero g };
      width = omega arith;
    };
    number = λ point env e numbered. refl;
  });
}

term_value-push : (term : Term) (part : Signed) (env : Environment) → term_value (term ++ part ∷ []) env ≡ term_value term env +ℤ signed_value part env
term_value-push [] part env = omega (arith, linear)
term_value-push (x ∷ term) part env = omega (arith, linear, term_value-push term part env)

part_value : (part : Signed) (env : Environment) → signed_value part env ≡ amount_of part *ℤ inner_value (inner_of part) env
part_value (Signed' true (Product' ns inner)) env = by (product_of ns) (inner_value inner env)
  where
    by : (p v : ℤ) → neg_ℤ (p *ℤ v) ≡ negsuc 0 *ℤ p *ℤ v
    by p v = simp expand (omega (arith, linear))
part_value (Signed' false (Product' ns inner)) env = by (product_of ns) (inner_value inner env)
  where
    by : (p v : ℤ) → p *ℤ v ≡ pos 1 *ℤ p *ℤ v
    by p v = simp expand (omega (arith, linear))

pub term_more : (g h i j k : Gauge) (scope : Scope) (a b c : System) (term : Term) (n : ℕ) (part : Signed) (form inner sum : Form) (amount : ℤ)
    → n < length term → part ≡ get_or term n part → GivesForm g scope a b (term_value (take n term)) form → h ≡ g → amount ≡ amount_of part
    → i ≡ h → GivesForm i scope b c (inner_value (inner_of part)) inner → j ≡ i → IsSumOf j k form amount inner sum
    → GivesForm g scope a c (term_value (take (n + 1) term)) sum
term_more g h i j k scope a b c term n part form inner sum amount inside is first e1 times e2 second' e3 last =
    let second = subst (λ (x : Gauge). GivesForm x scope b c (inner_value (inner_of part)) inner) (e2 ∙ e1) second' in
    let kept = IsOver-longer g b c form first.is.over second.extends in
    record {
      extends = Extends_trans g a b c first.extends second.extends;
      is = record {
        over = record {
          system = second.extends.within;
          within = subst (λ (x : Gauge). IsFormWithin x sum) (e3 ∙ e2 ∙ e1) last.within;
          width = last.width c.columns kept.width second.is.over.width;
        };
        number = λ point env e numbered.
            let before = e ∙ second.extends.free in
            let full = with_defined c.definitions point in
            by (form_at sum full) (form_at form full) (form_at inner full) amount (amount_of part) (term_value (take n term) env)
            (signed_value part env) (inner_value (inner_of part) env) (last.number full)
            (form_kept g b c form point first.is.over second.extends before ∙ first.is.number point env before numbered)
            (second.is.number point env e numbered) times (part_value part env)
            ∙ sym (ap (λ (t : Term). term_value t env) (take_more term n part inside ∙ sym (ap (λ (p : Signed). take n term ++ p ∷ []) is))
            ∙ term_value-push (take n term) part env);
      };
    }
  where
    by : (s f x m a t p v : ℤ) → s ≡ f +ℤ m *ℤ x → f ≡ t → x ≡ v → m ≡ a → p ≡ a *ℤ v → s ≡ t +ℤ p
    by s f x m a t p v e1 e2 e3 e4 e5 = e1 ∙ ap (λ (y : ℤ). y +ℤ m *ℤ x) e2 ∙ ap (λ (y : ℤ). t +ℤ y) (ap (λ (y : ℤ). y *ℤ x) e4 ∙ ap (λ (y : ℤ). a *ℤ y) e3 ∙ sym e5)

pub term_end : (g : Gauge) (scope : Scope) (a b : System) (term : Term) (form : Form) (n : ℕ) → length term ≤ n
    → GivesForm g scope a b (term_value (take n term)) form → GivesForm g scope a b (term_value term) form
term_end g scope a b term form n long gives = subst (λ (t : Term). GivesForm g scope a b (term_value t) form) (take_all n term long) gives

names_at : (scope : Scope) (term : Term) (n : ℕ) (d : Signed) → n < length term → list_all (is_in scope) (term_names term) ≡ true
    → list_all (is_in scope) (signed_names (get_or term n d)) ≡ true
names_at scope [] n d inside e = absurd (omega arith)
names_at scope (part ∷ term) zero d inside e =
    (both (list_all (is_in scope) (signed_names part)) (list_all (is_in scope) (term_names term))
    (sym (list_all-append (is_in scope) (signed_names part) (term_names term)) ∙ e)).0
  where
    both : (a b : Bool) → (a && b) ≡ true → (a ≡ true) × (b ≡ true)
    both true b e = (refl, e)
    both false b e = absurd (false≢true e)
names_at scope (part ∷ term) (suc n) d inside e =
    names_at scope term n d (omega arith)
    (both (list_all (is_in scope) (signed_names part)) (list_all (is_in scope) (term_names term))
    (sym (list_all-append (is_in scope) (signed_names part) (term_names term)) ∙ e)).1
  where
    both : (a b : Bool) → (a && b) ≡ true → (a ≡ true) × (b ≡ true)
    both true b e = (refl, e)
    both false b e = absurd (false≢true e)

divisors_at : (term : Term) (n : ℕ) (d : Signed) → n < length term → All (λ k. pos 0 <ℤ k) (term_divisors term)
    → All (λ k. pos 0 <ℤ k) (signed_divisors (get_or term n d))
divisors_at [] n d inside all = absurd (omega arith)
divisors_at (part ∷ term) zero d inside all = (All-parts (λ k. pos 0 <ℤ k) (signed_divisors part) (term_divisors term) all).0
divisors_at (part ∷ term) (suc n) d inside all =
    divisors_at term n d (omega arith) (All-parts (λ k. pos 0 <ℤ k) (signed_divisors part) (term_divisors term) all).1

pub term_part : (scope : Scope) (term : Term) (n : ℕ) (part : Signed) → IsTermIn scope term → n < length term → part ≡ get_or term n part
    → IsPartIn scope part
term_part scope term n part known inside is = subst (IsPartIn scope) (sym is) (record {
  known = names_at scope term n part inside known.known;
  divisors = divisors_at term n part inside known.divisors;
})

pub gives_within : (g h : Gauge) (scope : Scope) (old new : System) (v : Environment → ℤ) (form : Form) → h ≡ g
    → GivesForm g scope old new v form → IsFormWithin h form
gives_within g h scope old new v form same gives = subst (λ (x : Gauge). IsFormWithin x form) (sym same) gives.is.over.within

pub ruleset terms = (term_start, term_more, term_end, term_part, gives_within, gives_ready, sum_meter)

-- ---- what stands in a term is smaller
sizes_are : (m : Count) (row : Row_of-Signed m) → sum_size row ≡ term_size (items-the_row-Signed m row)
sizes_are m end_of-Signed = refl
sizes_are m (more_of-Signed part row) = ap (λ (n : ℕ). 1 + (part_size part + n)) (sizes_are _ row)

inside_size : (term : List Signed) → sum_size (hidden-the_row-Signed-0 term) ≡ term_size term
inside_size term = sizes_are _ (hidden-the_row-Signed-0 term) ∙ ap term_size (items_hidden-the_row-Signed-0 term)

pub inner_smaller : (x : Factor) (term slice : Term) → x ≡ Inner term → slice ≡ term → term_size slice < factor_size x
inner_smaller x term slice is same =
    let whole : factor_size x ≡ 1 + term_size term = ap factor_size is ∙ ap (λ (n : ℕ). 1 + n) (inside_size term) in
    let own : term_size slice ≡ term_size term = ap term_size same in
    omega (arith, whole, own)

pub floor_smaller : (x : Factor) (term slice : Term) (k : ℤ) → x ≡ Floor term k → slice ≡ term → term_size slice < factor_size x
floor_smaller x term slice k is same =
    let whole : factor_size x ≡ 1 + term_size term = ap factor_size is ∙ ap (λ (n : ℕ). 1 + n) (inside_size term) in
    let own : term_size slice ≡ term_size term = ap term_size same in
    omega (arith, whole, own)

pub ceiling_smaller : (x : Factor) (term slice : Term) (k : ℤ) → x ≡ Ceil term k → slice ≡ term → term_size slice < factor_size x
ceiling_smaller x term slice k is same =
    let whole : factor_size x ≡ 1 + term_size term = ap factor_size is ∙ ap (λ (n : ℕ). 1 + n) (inside_size term) in
    let own : term_size slice ≡ term_size term = ap term_size same in
    omega (arith, whole, own)

part_is : (part : Signed) → part_size part ≡ inner_size (inner_of part)
part_is (Signed' negative (Product' ns inner)) = refl

pub factor_smaller : (part : Signed) (factor : Factor) (moduli : List ℤ) → inner_of part ≡ Some' factor moduli → factor_size factor < part_size part
factor_smaller part factor moduli is =
    let whole : part_size part ≡ 1 + factor_size factor = part_is part ∙ ap inner_size is in
    omega (arith, whole)

pub part_smaller : (term : Term) (i : ℕ) (part : Signed) → i < length term → part ≡ get_or term i part → part_size part < term_size term
part_smaller [] i part low is = absurd (omega (arith, low))
part_smaller (other ∷ term) zero part low is = let own : part_size part ≡ part_size other = ap part_size is in omega (arith, own)
part_smaller (other ∷ term) (suc i) part low is = let rest = part_smaller term i part (omega (arith, low)) is in omega (arith, rest)
