-- Systems with more definitions, and the columns of divisions.
use Rattle.std.proofs.Common.{◌≡◌, ◌↔◌, ◌∙◌, refl, sym, ap, subst, arith, ℕ, zero, suc, ◌+◌, ◌-◌, ◌<◌, ◌≤◌, ℤ, pos, negsuc, neg_ℤ, ◌+ℤ◌, ◌-ℤ◌, ◌*ℤ◌, ◌<ℤ◌}
use Rattle.std.proofs.Common.{List, [], ◌∷◌, ◌++◌, length, get_or, take, drop, length-append, true, to_z-of_z}
use Rattle.std.specs.Prelude.{Result}
use Rattle.std.specs.List.{All, list_all}
use Rattle.std.proofs.lemmas.List.{append-nil, length-take-le, take-append-drop, get_or-append-add, take_more, take_all}
use Rattle.std.proofs.Math.Seq.{get_or-append_seam}
use Rattle.isl_math.specs.Dot.{dot}
use Rattle.isl_math.specs.Divide.{floor_div, floor_mod}
use Rattle.isl_math.proofs.DivideLaws.{floor_split}
use Rattle.isl_math.proofs.Ring.{expand, linear}
use Rattle.isl_meter.specs.Gauge.{Gauge, IsWithin, IsMeasured}
use Rattle.isl_meter.proofs.LimitLemmas.{IsWithin-zero}
use Rattle.isl_piece.specs.declared.definition.Definition.{Definition}
use Rattle.isl_piece.specs.declared.system.System.{System}
use Rattle.isl_piece.specs.Definition.{defined_value, with_next, with_defined, AreDefinitions, IsDefinition}
use Rattle.isl_piece.specs.System.{IsSystemWithin, free_columns, with_definition}
use Rattle.isl_piece.proofs.DefinedLaws.{with_defined_push, length-with_defined, definition_at, definition_points, definition_within}
use Rattle.isl_tree.specs.Term.{remainder_of}
use Rattle.isl_affine.specs.declared.form.Form.{Form}
use Rattle.isl_affine.specs.Extends.{Extends}
use Rattle.isl_affine.specs.Form.{form_at, padded, is_nil, AreSame, IsColumn, IsFormWithin, IsSumOf, IsOver, IsDivisible, IsDivisionOf, IsDivisionAt}
use Rattle.isl_affine.specs.Form.{IsDivision, IsStep}
use Rattle.isl_affine.proofs.FormLaws.{dot-padded, length-padded_up, padded_within, dot-nils, append_again}

-- ---- more definitions
pub record Longer (definitions : List Definition) (xs : List ℤ) : Type 0 where
  pub rest : List ℤ
  pub is : with_defined definitions xs ≡ xs ++ rest

pub longer : (definitions : List Definition) (xs : List ℤ) → Longer definitions xs
longer [] xs = record { rest = []; is = sym (append-nil xs) }
longer (d ∷ definitions) xs =
    let later = longer definitions (with_next xs d) in
    record { rest = defined_value d xs ∷ later.rest; is = later.is ∙ append_again xs (defined_value d xs ∷ []) later.rest }

with_defined-append : (ds more : List Definition) (xs : List ℤ) → with_defined (ds ++ more) xs ≡ with_defined more (with_defined ds xs)
with_defined-append [] more xs = refl
with_defined-append (d ∷ ds) more xs = with_defined-append ds more (with_next xs d)

dot-short : (cs xs ys : List ℤ) → length cs ≤ length xs → dot cs (xs ++ ys) ≡ dot cs xs
dot-short [] xs ys le = refl
dot-short (c ∷ cs) [] ys le = absurd (omega arith)
dot-short (c ∷ cs) (x ∷ xs) ys le = ap (λ (z : ℤ). c *ℤ x +ℤ z) (dot-short cs xs ys (omega arith))

pub full_length : (g : Gauge) (s : System) (point : List ℤ) → IsSystemWithin g s → length point ≡ free_columns s
    → length (with_defined s.definitions point) ≡ s.columns
full_length g s point h e = let c = h.count in let f = length-with_defined s.definitions point in omega arith

-- a form reads nothing of the columns behind its own
pub form_kept : (g : Gauge) (old new : System) (form : Form) (point : List ℤ) → IsOver g old form → Extends g old new → length point ≡ free_columns old
    → form_at form (with_defined new.definitions point) ≡ form_at form (with_defined old.definitions point)
form_kept g old new form point over extends e =
    let full = with_defined old.definitions point in
    let more = extends.definitions.0 in
    let later = longer more full in
    let whole : with_defined new.definitions point ≡ full ++ later.rest =
    ap (λ (ds : List Definition). with_defined ds point) extends.definitions.1 ∙ with_defined-append old.definitions more point ∙ later.is in
    let long = full_length g old point over.system e in
    let w = over.width in
    ap (λ (xs : List ℤ). dot form.coefs xs +ℤ form.constant) whole
    ∙ ap (λ (z : ℤ). z +ℤ form.constant) (dot-short form.coefs full later.rest (omega arith))

pub Extends_refl : (g : Gauge) (s : System) → IsSystemWithin g s → Extends g s s
Extends_refl g s h = record {
  definitions = ([], sym (append-nil s.definitions));
  free = refl;
  within = h;
  points = λ point e. ((λ p. p), (λ p. p));
}

pub Extends_trans : (g : Gauge) (a b c : System) → Extends g a b → Extends g b c → Extends g a c
Extends_trans g a b c p q = record {
  definitions = (
    p.definitions.0 ++ q.definitions.0,
    q.definitions.1 ∙ ap (λ (ds : List Definition). ds ++ q.definitions.0) p.definitions.1
        ∙ again a.definitions p.definitions.0 q.definitions.0,
  );
  free = q.free ∙ p.free;
  within = q.within;
  points = λ point e.
      let first = p.points point e in
      let second = q.points point (e ∙ sym p.free) in ((λ h. first.0 (second.0 h)), (λ h. second.1 (first.1 h)));
}
  where
    again : (xs ys zs : List Definition) → (xs ++ ys) ++ zs ≡ xs ++ (ys ++ zs)
    again [] ys zs = refl
    again (x ∷ xs) ys zs = ap (λ (l : List Definition). x ∷ l) (again xs ys zs)

columns_grow : (g : Gauge) (old new : System) → IsSystemWithin g old → Extends g old new → old.columns ≤ new.columns
columns_grow g old new h extends =
    let more = extends.definitions.0 in
    let long = ap length extends.definitions.1 ∙ length-append old.definitions more in
    let a = h.count in
    let b = extends.within.count in
    let f = extends.free in
    omega arith

-- a form stays one when columns come
pub IsOver-longer : (g : Gauge) (old new : System) (form : Form) → IsOver g old form → Extends g old new → IsOver g new form
IsOver-longer g old new form over extends =
    let grown = columns_grow g old new over.system extends in
    record { system = extends.within; within = over.within; width = let w = over.width in omega arith }

-- ---- definitions
pub division_of : (form : Form) (k : ℤ) (d : Definition) → d.k ≡ k → d.constant ≡ form.constant → AreSame d.coefs form.coefs
    → IsDivisionOf form k d
division_of form k d e f same = record { coefs = same; constant = f; divisor = e }

get_or_any : (xs : List Definition) (i : ℕ) (d e : Definition) → i < length xs → get_or xs i d ≡ get_or xs i e
get_or_any [] i d e inside = absurd (omega arith)
get_or_any (x ∷ xs) zero d e inside = refl
get_or_any (x ∷ xs) (suc i) d e inside = get_or_any xs i d e (omega arith)

pub division_at : (s : System) (form : Form) (k : ℤ) (i : ℕ) (d : Definition) (column : ℕ) → i < length s.definitions
    → d ≡ get_or s.definitions i d → IsDivisionOf form k d → column ≡ free_columns s + i → IsDivisionAt s form k column
division_at s form k i d column inside is division place = record {
  index = i;
  inside = inside;
  place = place;
  division = λ e. subst (IsDivisionOf form k) (is ∙ get_or_any s.definitions i d e inside) division;
}

number_at : (definitions : List Definition) (xs : List ℤ) (i : ℕ) (d : Definition) → i < length definitions
    → get_or (with_defined definitions xs) (length xs + i) (pos 0) ≡ defined_value (get_or definitions i d) (with_defined (take i definitions) xs)
number_at [] xs i d l = absurd (omega arith)
number_at (first ∷ definitions) xs zero d l =
    let v = defined_value first xs in
    let later = longer definitions (with_next xs first) in
    ap (λ (full : List ℤ). get_or full (length xs + 0) (pos 0)) (later.is ∙ append_again xs (v ∷ []) later.rest)
    ∙ get_or-append-add xs (v ∷ later.rest) 0 (pos 0)
number_at (first ∷ definitions) xs (suc i) d l =
    let one = length-append xs (defined_value first xs ∷ []) in
    let place : length (with_next xs first) + i ≡ length xs + suc i = omega arith in
    ap (λ (n : ℕ). get_or (with_defined definitions (with_next xs first)) n (pos 0)) (sym place)
    ∙ number_at definitions (with_next xs first) i d (omega arith)

-- the number at a defined column is the one that its definition gives at the full point
pub number_of : (g : Gauge) (definitions : List Definition) (xs : List ℤ) (i : ℕ) (d : Definition) → AreDefinitions g (length xs) definitions
    → i < length definitions
    → get_or (with_defined definitions xs) (length xs + i) (pos 0) ≡ defined_value (get_or definitions i d) (with_defined definitions xs)
number_of g definitions xs i d all l =
    let one = get_or definitions i d in
    let before = with_defined (take i definitions) xs in
    let later = longer (drop i definitions) before in
    let whole : with_defined definitions xs ≡ before ++ later.rest =
    ap (λ (ds : List Definition). with_defined ds xs) (sym (take-append-drop i definitions))
    ∙ with_defined-append (take i definitions) (drop i definitions) xs ∙ later.is in
    let long = length-with_defined (take i definitions) xs in
    let taken = length-take-le i definitions (omega arith) in
    let wide = (definition_at g (length xs) definitions i d all l).width in
    number_at definitions xs i d l
    ∙ sym (ap (defined_value one) whole
    ∙ ap (λ (z : ℤ). floor_div (z +ℤ one.constant) one.k) (dot-short one.coefs before later.rest (omega arith)))

-- a column that has the definition has the number
pub division_found : (g : Gauge) (s : System) (form : Form) (k : ℤ) (column : ℕ) → IsDivisible g s form k → IsDivisionAt s form k column
    → IsDivision g s s form k column
division_found g s form k column given at = record {
  extends = Extends_refl g s given.over.system;
  inside = let c = given.over.system.count in let i = at.inside in let p = at.place in omega arith;
  number = λ point e.
      let none : Definition = record { coefs = []; constant = pos 0; k = pos 1 } in
      let full = with_defined s.definitions point in
      let d = get_or s.definitions at.index none in
      let place : column ≡ length point + at.index = at.place ∙ ap (λ (n : ℕ). n + at.index) (sym e) in
      let all = subst (λ (n : ℕ). AreDefinitions g n s.definitions) (sym e) given.over.system.definitions in
      let division = at.division none in
      ap (λ (n : ℕ). get_or full n (pos 0)) place
      ∙ number_of g s.definitions point at.index none all at.inside
      ∙ by (dot d.coefs full) (dot form.coefs full) d.constant form.constant d.k k (division.coefs.numbers full) division.constant division.divisor;
}
  where
    by : (a b c d k l : ℤ) → a ≡ b → c ≡ d → k ≡ l → floor_div (a +ℤ c) k ≡ floor_div (b +ℤ d) l
    by a b c d k l p q r = rw (p, q, r) refl

definition_extends : (g : Gauge) (s : System) (d : Definition) → IsSystemWithin g s → IsDefinition g s.columns d → Extends g s (with_definition s d)
definition_extends g s d h is = record {
  definitions = (d ∷ [], refl);
  free = let c = h.count in let n = length-append s.definitions (d ∷ []) in omega arith;
  within = definition_within s d g h is;
  points = λ point e. definition_points s d point h.rows (let c = h.count in omega arith);
}

definition_divides : (g : Gauge) (s : System) (form : Form) (k : ℤ) → IsDivisible g s form k
    → IsDivision g s (with_definition s (record { coefs = padded s.columns form.coefs; constant = form.constant; k = k })) form k s.columns
definition_divides g s form k given =
    let d : Definition = record { coefs = padded s.columns form.coefs; constant = form.constant; k = k } in
    let is : IsDefinition g s.columns d = record {
      width = length-padded_up s.columns form.coefs given.over.width;
      modulus = given.divisor;
      coefs = padded_within g s.columns form.coefs given.over.within.coefs;
      constant = given.over.within.constant;
      k = given.divisor_within;
    } in
    record {
      extends = definition_extends g s d given.over.system is;
      inside = omega arith;
      number = λ point e.
          let full = with_defined s.definitions point in
          let long = full_length g s point given.over.system e in
          ap (λ (xs : List ℤ). get_or xs s.columns (pos 0)) (with_defined_push s.definitions d point)
          ∙ ap (λ (n : ℕ). get_or (full ++ defined_value d full ∷ []) n (pos 0)) (sym long)
          ∙ get_or-append_seam full (defined_value d full) [] (pos 0)
          ∙ ap (λ (z : ℤ). floor_div (z +ℤ form.constant) k) (dot-padded s.columns form.coefs full);
    }

pub defined : (g : Gauge) (old new : System) (form : Form) (k : ℤ) (copy coefs slice numbers given_numbers : List ℤ) (constant m : ℤ) (column : ℕ)
    → IsDivisible g old form k → copy ≡ form.coefs → coefs ≡ padded old.columns copy → slice ≡ coefs → numbers ≡ slice → given_numbers ≡ numbers
    → constant ≡ form.constant → m ≡ k → column ≡ old.columns
    → new ≡ with_definition old (record { coefs = given_numbers; constant = constant; k = m }) → IsDivision g old new form k column
defined g old new form k copy coefs slice numbers given_numbers constant m column given a b c d e f h place is =
    let same : given_numbers ≡ padded old.columns form.coefs = e ∙ d ∙ c ∙ b ∙ ap (padded old.columns) a in
    let made : new ≡ with_definition old (record { coefs = padded old.columns form.coefs; constant = form.constant; k = k }) =
    is ∙ ap (λ (cs : List ℤ). with_definition old (record { coefs = cs; constant = constant; k = m })) same
    ∙ ap (λ (z : ℤ). with_definition old (record { coefs = padded old.columns form.coefs; constant = z; k = m })) f
    ∙ ap (λ (z : ℤ). with_definition old (record { coefs = padded old.columns form.coefs; constant = form.constant; k = z })) h in
    subst (λ (n : ℕ). IsDivision g old new form k n) (sym place)
    (subst (λ (s : System). IsDivision g old s form k old.columns) (sym made) (definition_divides g old form k given))

pub defined_width : (g : Gauge) (old : System) (form : Form) (k : ℤ) (copy coefs numbers : List ℤ) → IsDivisible g old form k
    → copy ≡ form.coefs → coefs ≡ padded old.columns copy → numbers ≡ coefs → length numbers ≡ old.columns
defined_width g old form k copy coefs numbers given a b c =
    ap length (c ∙ b ∙ ap (padded old.columns) a) ∙ length-padded_up old.columns form.coefs given.over.width

pub divisor_positive : (g : Gauge) (s : System) (form : Form) (k : ℤ) → IsDivisible g s form k → pos 0 <ℤ k
divisor_positive g s form k given = given.divisor

pub count_fits : (g : Gauge) (s : System) (form : Form) (k : ℤ) → IsDivisible g s form k → length s.definitions ≤ s.columns
count_fits g s form k given = given.over.system.count

pub ruleset definitions = (to_z-of_z, defined_width, divisor_positive)

pub ruleset founds = (division_found, count_fits)

-- ---- quotients
pub quotient_constant : (g : Gauge) (s : System) (form : Form) (k z : ℤ) → IsDivisible g s form k → list_all is_nil form.coefs ≡ true
    → z ≡ floor_div form.constant k → IsWithin g z → IsStep g s s form (λ y. floor_div y k) (record { coefs = []; constant = z })
quotient_constant g s form k z given nil is small = record {
  extends = Extends_refl g s given.over.system;
  over = record {
    system = given.over.system;
    within = record { coefs = λ i d l. absurd (omega arith); constant = small };
    width = omega arith;
  };
  number = λ point e.
      by (dot form.coefs (with_defined s.definitions point)) form.constant z k
      (dot-nils form.coefs (with_defined s.definitions point) nil) is;
}
  where
    by : (d c z k : ℤ) → d ≡ pos 0 → z ≡ floor_div c k → pos 0 +ℤ z ≡ floor_div (d +ℤ c) k
    by d c z k p q =
        let left : pos 0 +ℤ z ≡ z = omega (arith, linear) in
        let right : c ≡ d +ℤ c = omega (arith, linear) in
        left ∙ q ∙ ap (λ (y : ℤ). floor_div y k) right

pub quotient_column : (g : Gauge) (old new : System) (form : Form) (k : ℤ) (column : ℕ) (made : Form) → IsDivision g old new form k column
    → IsColumn g column made → IsStep g old new form (λ y. floor_div y k) made
quotient_column g old new form k column made division is = record {
  extends = division.extends;
  over = record {
    system = division.extends.within;
    within = is.within;
    width = let w = is.width in let i = division.inside in omega arith;
  };
  number = λ point e. is.number (with_defined new.definitions point) ∙ division.number point e;
}

pub constant_within : (g : Gauge) (s : System) (form : Form) (k : ℤ) → IsDivisible g s form k → IsWithin g form.constant
constant_within g s form k given = given.over.within.constant

pub ruleset quotients = (quotient_constant, quotient_column, constant_within, divisor_positive)

pub measured_plus : {E : Type 0} (g h : Gauge) (z : ℤ) (r : Result ℤ E) → IsMeasured g h (z +ℤ pos 0) r → IsMeasured g h z r
measured_plus g h z r is = let e : z +ℤ pos 0 ≡ z = omega (arith, linear) in subst (λ (y : ℤ). IsMeasured g h y r) e is

pub divisible : (g h : Gauge) (s : System) (form : Form) (k m : ℤ) → IsOver g s form → pos 0 <ℤ k → m ≡ k → IsWithin g m → h ≡ g
    → IsDivisible h s form m
divisible g h s form k m over positive is small same = subst (λ (x : Gauge). IsDivisible x s form m) (sym same) (record {
  over = over;
  divisor = subst (λ (z : ℤ). pos 0 <ℤ z) (sym is) positive;
  divisor_within = small;
})

pub floor_step : (g h : Gauge) (old new : System) (form made : Form) (k m : ℤ) → m ≡ k → h ≡ g
    → IsStep h old new form (λ z. floor_div z m) made → IsStep g old new form (λ z. floor_div z k) made
floor_step g h old new form made k m is same step =
    subst (λ (x : Gauge). IsStep x old new form (λ z. floor_div z k) made) same
    (subst (λ (n : ℤ). IsStep h old new form (λ z. floor_div z n) made) is step)

pub ruleset floors = (to_z-of_z, divisible, floor_step)

-- ---- ceilings
none_within : (g : Gauge) → IsFormWithin g (record { coefs = []; constant = pos 0 })
none_within g = record { coefs = λ i d l. absurd (omega arith); constant = IsWithin-zero g }

pub zero_form : (g : Gauge) (form : Form) → form ≡ record { coefs = []; constant = pos 0 } → IsFormWithin g form
zero_form g form is = subst (IsFormWithin g) (sym is) (none_within g)

-- a sum of forms over a system is one
pub sum_over : (g h : Gauge) (s : System) (left right sum : Form) (m : ℤ) → IsOver g s left → length right.coefs ≤ s.columns
    → IsSumOf g h left m right sum → IsOver g s sum
sum_over g h s left right sum m over wide is =
    record { system = over.system; within = is.within; width = is.width s.columns over.width wide }

pub step_over : (g h : Gauge) (old new : System) (form made : Form) (f : ℤ → ℤ) → h ≡ g → IsStep g old new form f made → IsOver h new made
step_over g h old new form made f same step = subst (λ (x : Gauge). IsOver x new made) (sym same) step.over

pub over_within : (g h : Gauge) (s : System) (form : Form) → h ≡ g → IsOver g s form → IsFormWithin h form
over_within g h s form same over = subst (λ (x : Gauge). IsFormWithin x form) (sym same) over.within

pub step_within : (g h : Gauge) (old new : System) (form made : Form) (f : ℤ → ℤ) → h ≡ g → IsStep g old new form f made → IsFormWithin h made
step_within g h old new form made f same step = over_within g h new made same step.over

pub sum_meter : (g h : Gauge) (left right sum : Form) (m : ℤ) → IsSumOf g h left m right sum → h ≡ g
sum_meter g h left right sum m is = is.meter

pub opposite_over : (g h : Gauge) (s : System) (empty form opposite : Form) (m : ℤ) → empty ≡ record { coefs = []; constant = pos 0 }
    → IsOver g s form → IsSumOf g h empty m form opposite → IsOver h s opposite
opposite_over g h s empty form opposite m is over sum = subst (λ (x : Gauge). IsOver x s opposite) (sym sum.meter) (record {
  system = over.system;
  within = sum.within;
  width = sum.width s.columns (subst (λ (f : Form). length f.coefs ≤ s.columns) (sym is) (omega arith)) over.width;
})

empty_at : (empty : Form) (xs : List ℤ) → empty ≡ record { coefs = []; constant = pos 0 } → form_at empty xs ≡ pos 0
empty_at empty xs is = ap (λ (f : Form). form_at f xs) is

opposite_at : (g h : Gauge) (empty form opposite : Form) (m : ℤ) (xs : List ℤ) → empty ≡ record { coefs = []; constant = pos 0 } → m ≡ negsuc 0
    → IsSumOf g h empty m form opposite → form_at opposite xs ≡ neg_ℤ (form_at form xs)
opposite_at g h empty form opposite m xs is minus sum = sum.number xs ∙ by (form_at empty xs) m (form_at form xs) (empty_at empty xs is) minus
  where
    by : (e m f : ℤ) → e ≡ pos 0 → m ≡ negsuc 0 → e +ℤ m *ℤ f ≡ neg_ℤ f
    by e m f p q = rw (p, q) (simp expand (omega (arith, linear)))

pub ceiling_step : (g h i j : Gauge) (old new : System) (form first second opposite below made : Form) (k l m n : ℤ) → IsOver g old form
    → first ≡ record { coefs = []; constant = pos 0 } → second ≡ record { coefs = []; constant = pos 0 } → m ≡ negsuc 0 → n ≡ negsuc 0
    → IsSumOf g h first m form opposite → IsStep h old new opposite (λ z. floor_div z l) below → l ≡ k → i ≡ h
    → IsSumOf i j second n below made → IsStep g old new form (λ z. neg_ℤ (floor_div (neg_ℤ z) k)) made
ceiling_step g h i j old new form first second opposite below made k l m n over is then_is minus again sum step' number_is same last =
    let step = subst (λ (y : ℤ). IsStep h old new opposite (λ z. floor_div z y) below) number_is step' in
    let all : i ≡ g = same ∙ sum.meter in
    let extends = subst (λ (x : Gauge). Extends x old new) sum.meter step.extends in
    record {
      extends = extends;
      over = record {
        system = extends.within;
        within = subst (λ (x : Gauge). IsFormWithin x made) all last.within;
        width = last.width new.columns (subst (λ (f : Form). length f.coefs ≤ new.columns) (sym then_is) (omega arith)) step.over.width;
      };
      number = λ point e.
          opposite_at i j second below made n (with_defined new.definitions point) then_is again last
          ∙ ap (λ (z : ℤ). neg_ℤ z) (step.number point e
          ∙ ap (λ (z : ℤ). floor_div z k) (opposite_at g h first form opposite m (with_defined old.definitions point) is minus sum));
    }

pub ruleset ceils = (to_z-of_z, zero_form, opposite_over, over_within, step_within, sum_meter)

-- ---- remainders
pub remainder_step : (g h i j : Gauge) (old new : System) (form below made : Form) (k l o : ℤ) → IsOver g old form → pos 0 <ℤ k
    → IsStep g old new form (λ z. floor_div z l) below → l ≡ k → h ≡ g → o ≡ pos 0 -ℤ k → i ≡ h → IsSumOf i j form o below made
    → IsStep g old new form (λ z. floor_mod z k) made
remainder_step g h i j old new form below made k l o over positive step' number_is same is then_same last =
    let step = subst (λ (y : ℤ). IsStep g old new form (λ z. floor_div z y) below) number_is step' in
    let all : i ≡ g = then_same ∙ same in
    let kept = IsOver-longer g old new form over step.extends in
    record {
      extends = step.extends;
      over = record {
        system = step.extends.within;
        within = subst (λ (x : Gauge). IsFormWithin x made) all last.within;
        width = last.width new.columns kept.width step.over.width;
      };
      number = λ point e.
          let full = with_defined new.definitions point in
          let f = form_at form (with_defined old.definitions point) in
          by (form_at made full) (form_at form full) (form_at below full) f (floor_div f k) (floor_mod f k) k o (last.number full)
          (form_kept g old new form point over step.extends e) (step.number point e) is (floor_split f k positive);
    }
  where
    by : (made a b f q r k o : ℤ) → made ≡ a +ℤ o *ℤ b → a ≡ f → b ≡ q → o ≡ pos 0 -ℤ k → k *ℤ q +ℤ r ≡ f → made ≡ r
    by made a b f q r k o p1 p2 p3 p4 p5 = p1 ∙ ap (λ (z : ℤ). z +ℤ o *ℤ b) p2 ∙ last_step b f q r k o p3 p4 p5
      where
        last_step : (b f q r k o : ℤ) → b ≡ q → o ≡ pos 0 -ℤ k → k *ℤ q +ℤ r ≡ f → f +ℤ o *ℤ b ≡ r
        last_step b f q r k o p3 p4 p5 = rw (p3, p4, ← p5) (simp expand (omega (arith, linear)))

pub ruleset rests = (to_z-of_z, over_within, step_within, sum_meter)

remainder_of-push : (z : ℤ) (ks : List ℤ) (k : ℤ) → remainder_of z (ks ++ k ∷ []) ≡ floor_mod (remainder_of z ks) k
remainder_of-push z [] k = refl
remainder_of-push z (x ∷ ks) k = remainder_of-push (floor_mod z x) ks k

pub turn_start : (g : Gauge) (s : System) (form : Form) (ks : List ℤ) → IsOver g s form → IsStep g s s form (λ z. remainder_of z (take 0 ks)) form
turn_start g s form ks over = record { extends = Extends_refl g s over.system; over = over; number = λ point e. refl }

pub turn_more : (g h : Gauge) (a b c : System) (form made rest : Form) (ks : List ℤ) (i : ℕ) (k : ℤ) → i < length ks
    → IsStep g a b form (λ z. remainder_of z (take i ks)) made → h ≡ g → IsStep h b c made (λ z. floor_mod z k) rest → k ≡ get_or ks i (pos 0)
    → IsStep g a c form (λ z. remainder_of z (take (i + 1) ks)) rest
turn_more g h a b c form made rest ks i k inside first same second' is =
    let second = subst (λ (x : Gauge). IsStep x b c made (λ z. floor_mod z k) rest) same second' in
    record {
      extends = Extends_trans g a b c first.extends second.extends;
      over = second.over;
      number = λ point e.
          let z = form_at form (with_defined a.definitions point) in
          second.number point (e ∙ sym first.extends.free) ∙ ap (λ (y : ℤ). floor_mod y k) (first.number point e)
          ∙ ap (floor_mod (remainder_of z (take i ks))) is
          ∙ sym (ap (remainder_of z) (take_more ks i (pos 0) inside) ∙ remainder_of-push z (take i ks) (get_or ks i (pos 0)));
    }

pub turn_end : (g : Gauge) (a b : System) (form made : Form) (ks : List ℤ) (n : ℕ) → length ks ≤ n
    → IsStep g a b form (λ z. remainder_of z (take n ks)) made → IsStep g a b form (λ z. remainder_of z ks) made
turn_end g a b form made ks n long step =
    subst (λ (l : List ℤ). IsStep g a b form (λ z. remainder_of z l) made) (take_all n ks long) step

pub turn_divisor : (ks : List ℤ) (i : ℕ) (k : ℤ) → All (λ z. pos 0 <ℤ z) ks → i < length ks → k ≡ get_or ks i (pos 0) → pos 0 <ℤ k
turn_divisor ks i k all inside is = subst (λ (z : ℤ). pos 0 <ℤ z) (sym is) (all i (pos 0) inside)

pub ruleset turns = (to_z-of_z, turn_start, turn_more, turn_end, turn_divisor, step_over)
