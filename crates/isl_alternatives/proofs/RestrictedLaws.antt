-- Lists of systems restricted to where a condition holds: one after the other, beside one another, and of the same points.
use Rattle.std.proofs.Common.{◌≡◌, ◌↔◌, ◌⊎◌, inl, inr, refl, sym, ap, ◌∙◌, subst, arith, ℕ, ◌+◌, ◌<◌, ◌≤◌, ℤ, List, [], ◌∷◌, ◌++◌, length, length-append, get_or, take}
use Rattle.std.specs.List.{All, Any}
use Rattle.std.specs.Prelude.{Result, Ok, Err, MatchResult, Option, Some, None, option_map}
use Rattle.std.proofs.lemmas.List.{take_more, take_all, append_assoc, append-nil}
use Rattle.std.proofs.lemmas.List.Elements.{All-nil, All-cons, All-append, All-head}
use Rattle.isl_math.proofs.ListLaws.{All-parts, Any-parts, Any-left, Any-right, Any-one, Any-first, Any-none}
use Rattle.isl_meter.specs.Gauge.{Gauge, IsCharged}
use Rattle.isl_meter.proofs.CutLemmas.{IsCharged_refl, IsCharged_trans, charges}
use Rattle.isl_piece.specs.declared.system.System.{System}
use Rattle.isl_piece.specs.declared.row.Row.{Row}
use Rattle.isl_piece.specs.Normal.{normal_rows, normal_system}
use Rattle.isl_piece.specs.System.{HoldsSystem, IsSystemWithin, free_columns}
use Rattle.isl_elim.specs.Elimination.{HoldsAtAny}
use Rattle.isl_elim.specs.Sample.{IsNowhere}
use Rattle.isl_elim.proofs.PartsLaws.{charged_bits}
use Rattle.isl_difference.specs.Difference.{IsDifference}
use Rattle.isl_difference.specs.Split.{IsLiveFormOf}
use Rattle.isl_difference.proofs.RowCases.{systems_cases}
use Rattle.isl_difference.proofs.SplitLaws.{system_kept}
use Rattle.isl_affine.specs.Scope.{Scope, IsNumbered}
use Rattle.isl_tree.specs.Environment.{Environment}
use Rattle.isl_piece.specs.Row.{HoldsRow}
use Rattle.isl_piece.specs.Definition.{with_defined}
use Rattle.isl_alternatives.specs.Restricted.{AreRestricted, Condition, HoldEverywhere, IsOver}

-- ---- the limit at another time
over_kept : (g h : Gauge) (scope : Scope) (s : System) → h.bits ≡ g.bits → IsOver h scope s → IsOver g scope s
over_kept g h scope s e o = record { within = system_kept g h s e o.within; columns = o.columns }

pub over_before : (g h : Gauge) (scope : Scope) (systems : List System) → IsCharged g h → All (IsOver h scope) systems → All (IsOver g scope) systems
over_before g h scope systems c o k d l = over_kept g h scope (get_or systems k d) (charged_bits g h c) (o k d l)

pub over_after : (g h : Gauge) (scope : Scope) (systems : List System) → IsCharged g h → All (IsOver g scope) systems → All (IsOver h scope) systems
over_after g h scope systems c o k d l = over_kept h g scope (get_or systems k d) (sym (charged_bits g h c)) (o k d l)

-- ---- an answer of the same call
pub ok_same : {T E : Type 0} (P R : T → Type 0) (Q : E → Type 0) (r : Result T E) → MatchResult r P Q → ((v : T) → P v → R v) → MatchResult r R Q
ok_same P R Q (Ok v) m f = f v m
ok_same P R Q (Err e) m f = m

-- ---- one list
pub restricted_all : (g : Gauge) (scope : Scope) (a : List System) (P : Condition) → All (IsOver g scope) a
    → ((point : List ℤ) (env : Environment) → P point env) → AreRestricted g g scope a P a
restricted_all g scope a P o p = record {
  charged = IsCharged_refl g g refl;
  over = o;
  counted = omega arith;
  points = λ point env l n. ((λ h. (h, p point env)), (λ h. h.0));
}

pub as_they_are : (g : Gauge) (scope : Scope) (a : List System) → All (IsOver g scope) a
    → AreRestricted g g scope a (λ point env. Unit {0}) a
as_they_are g scope a over = restricted_all g scope a (λ point env. Unit {0}) over (λ point env. tt)

pub restricted_none : (g : Gauge) (scope : Scope) (a : List System) (P : Condition)
    → ((point : List ℤ) (env : Environment) → ¬ P point env) → AreRestricted g g scope a P []
restricted_none g scope a P p = record {
  charged = IsCharged_refl g g refl;
  over = All-nil (IsOver g scope);
  counted = omega arith;
  points = λ point env l n. let Q : System → Type 0 = λ s. HoldsSystem s point in
      ((λ h. absurd (Any-none Q h)), (λ h. absurd (p point env h.1)));
}

-- what a system that holds everywhere leaves of others is these themselves
pub everywhere_met : (g h : Gauge) (scope : Scope) (systems others : List System) → HoldEverywhere systems → All (IsOver g scope) others
    → IsCharged g h → length others + g.units ≤ h.units + 1
    → AreRestricted g h scope systems (λ point env. HoldsAtAny others point) others
everywhere_met g h scope systems others e over charged units =
    let holds : (point : List ℤ) → HoldsSystem e.one point =
    λ point. rw e.rows (All-nil (λ (r : Row). HoldsRow r (with_defined e.one.definitions point))) in
    let whole : (point : List ℤ) → HoldsAtAny systems point =
    λ point. rw e.alone (Any-first (λ (s : System). HoldsSystem s point) e.one [] (holds point)) in
    record {
      charged = charged;
      over = over;
      counted = let long = ap (λ (xs : List System). length xs) e.alone in omega (arith, long);
      points = λ point env l n. ((λ h. (whole point, h)), (λ x. x.1));
    }

-- whether the condition holds is decided
decided : (g h : Gauge) (scope : Scope) (a : List System) (P : Condition) (b : List System) → AreRestricted g h scope a P b
    → (point : List ℤ) (env : Environment) → length point ≡ length scope → IsNumbered scope point env → HoldsAtAny a point
    → P point env ⊎ (¬ P point env)
decided g h scope a P b r point env l n at =
    let same = r.points point env l n in
    elim (systems_cases g b point (λ k d i. (r.over k d i).within)) [
      | inl y ↦ inl (same.0 y).1
      | inr fails ↦ inr (λ p. fails (same.1 (at, p)))
    ]

-- the same where the condition is decided
pub restricted_same : (g h : Gauge) (scope : Scope) (a : List System) (P Q : Condition) (b : List System) → AreRestricted g h scope a P b
    → ((point : List ℤ) (env : Environment) → P point env ⊎ (¬ P point env) → P point env ↔ Q point env) → AreRestricted g h scope a Q b
restricted_same g h scope a P Q b r f = record {
  charged = r.charged;
  over = r.over;
  counted = r.counted;
  points = λ point env l n. let same = r.points point env l n in (
    (λ y. let x = same.0 y in (x.0, (f point env (inl x.1)).0 x.1)),
    (λ x. same.1 (x.0, (f point env (decided g h scope a P b r point env l n x.0)).1 x.1)),
  );
}

-- ---- one condition after another
pub restricted_then : (g h k : Gauge) (scope : Scope) (a : List System) (P : Condition) (b : List System) (Q : Condition) (c : List System) (R : Condition)
    → AreRestricted g h scope a P b → AreRestricted h k scope b Q c
    → ((point : List ℤ) (env : Environment) → P point env → Q point env → R point env)
    → ((point : List ℤ) (env : Environment) → R point env → P point env)
    → ((point : List ℤ) (env : Environment) → R point env → Q point env ⊎ (¬ Q point env) → Q point env)
    → AreRestricted g k scope a R c
restricted_then g h k scope a P b Q c R p q both first second = record {
  charged = IsCharged_trans g h k p.charged q.charged;
  over = over_before g h scope c p.charged q.over;
  counted = let one = p.counted in let two = q.counted in omega arith;
  points = λ point env l n. let u = p.points point env l n in let v = q.points point env l n in (
    (λ z. let y = v.0 z in let x = u.0 y.0 in (x.0, both point env x.1 y.1)),
    (λ x.
        let y = u.1 (x.0, first point env x.1) in
        v.1 (y, second point env x.1 (decided h k scope b Q c q point env l n y))),
  );
}

-- ---- one condition or another
pub restricted_either : (g h j k : Gauge) (scope : Scope) (a : List System) (P : Condition) (b : List System) (Q : Condition) (c : List System) (R : Condition)
    → AreRestricted g h scope a P b → IsCharged h j → (b ≡ []) ⊎ (h.units + length a ≤ j.units) → AreRestricted j k scope a Q c
    → ((point : List ℤ) (env : Environment) → P point env → R point env)
    → ((point : List ℤ) (env : Environment) → Q point env → R point env)
    → ((point : List ℤ) (env : Environment) → R point env → P point env ⊎ (¬ P point env) → P point env ⊎ Q point env)
    → AreRestricted g k scope a R (b ++ c)
restricted_either g h j k scope a P b Q c R p paid units q one two some =
    let before : IsCharged g j = IsCharged_trans g h j p.charged paid in
    let few = p.counted in
    let more = q.counted in
    let later = paid.units in
    let since = p.charged in
    let start = since.units in
    let sum = length-append b c in
    record {
      charged = IsCharged_trans g j k before q.charged;
      over = All-append (IsOver g scope) b c p.over (over_before g j scope c before q.over);
      counted = elim units [
        | inl none ↦ let none_long : length b ≡ 0 = ap (λ (xs : List System). length xs) none in omega arith
        | inr full ↦ omega arith
      ];
      points = λ point env l n.
          let u = p.points point env l n in
          let v = q.points point env l n in
          let S : System → Type 0 = λ s. HoldsSystem s point in (
            (λ h. elim (Any-parts S b c h) [
              | inl y ↦ let x = u.0 y in (x.0, one point env x.1)
              | inr z ↦ let x = v.0 z in (x.0, two point env x.1)
            ]),
            (λ x. elim (some point env x.1 (decided g h scope a P b p point env l n x.0)) [
              | inl y ↦ Any-left S b c (u.1 (x.0, y))
              | inr z ↦ Any-right S b c (v.1 (x.0, z))
            ]),
          );
    }

-- the same where the units were paid before the first was worked out
pub restricted_both : (h j k end : Gauge) (scope : Scope) (a : List System) (P : Condition) (b : List System) (Q : Condition) (c : List System) (R : Condition)
    → IsCharged h j → (a ≡ []) ⊎ (h.units + length a ≤ j.units) → AreRestricted j k scope a P b → AreRestricted k end scope a Q c
    → ((point : List ℤ) (env : Environment) → P point env → R point env)
    → ((point : List ℤ) (env : Environment) → Q point env → R point env)
    → ((point : List ℤ) (env : Environment) → R point env → P point env ⊎ (¬ P point env) → P point env ⊎ Q point env)
    → AreRestricted h end scope a R (b ++ c)
restricted_both h j k end scope a P b Q c R paid units p q one two some =
    let first : IsCharged h k = IsCharged_trans h j k paid p.charged in
    let few = p.counted in
    let many = q.counted in
    let later = paid.units in
    let sum = length-append b c in
    record {
      charged = IsCharged_trans h k end first q.charged;
      over = All-append (IsOver h scope) b c (over_before h j scope b paid p.over) (over_before h k scope c first q.over);
      counted = elim units [
        | inl none ↦ let none_long : length a ≡ 0 = ap (λ (xs : List System). length xs) none in omega arith
        | inr full ↦ omega arith
      ];
      points = λ point env l n.
          let u = p.points point env l n in
          let v = q.points point env l n in
          let S : System → Type 0 = λ s. HoldsSystem s point in (
            (λ h. elim (Any-parts S b c h) [
              | inl y ↦ let x = u.0 y in (x.0, one point env x.1)
              | inr z ↦ let x = v.0 z in (x.0, two point env x.1)
            ]),
            (λ x. elim (some point env x.1 (decided j k scope a P b p point env l n x.0)) [
              | inl y ↦ Any-left S b c (u.1 (x.0, y))
              | inr z ↦ Any-right S b c (v.1 (x.0, z))
            ]),
          );
    }

-- ---- more systems
pub restricted_beside : (g h k : Gauge) (scope : Scope) (P : Condition) (a b c d : List System) → AreRestricted g h scope a P b
    → AreRestricted h k scope c P d → AreRestricted g k scope (a ++ c) P (b ++ d)
restricted_beside g h k scope P a b c d p q =
    let few = p.counted in
    let more = q.counted in
    let old = length-append a c in
    let new = length-append b d in
    record {
      charged = IsCharged_trans g h k p.charged q.charged;
      over = All-append (IsOver g scope) b d p.over (over_before g h scope d p.charged q.over);
      counted = omega arith;
      points = λ point env l n.
          let u = p.points point env l n in
          let v = q.points point env l n in
          let S : System → Type 0 = λ s. HoldsSystem s point in (
            (λ h. elim (Any-parts S b d h) [
              | inl y ↦ let x = u.0 y in (Any-left S a c x.0, x.1)
              | inr z ↦ let x = v.0 z in (Any-right S a c x.0, x.1)
            ]),
            (λ x. elim (Any-parts S a c x.0) [
              | inl y ↦ Any-left S b d (u.1 (y, x.1))
              | inr z ↦ Any-right S b d (v.1 (z, x.1))
            ]),
          );
    }

-- one system for one
pub restricted_one : (g : Gauge) (scope : Scope) (P : Condition) (s t : System) → IsOver g scope t
    → ((point : List ℤ) (env : Environment) → length point ≡ length scope → IsNumbered scope point env
    → HoldsSystem t point ↔ (HoldsSystem s point × P point env))
    → AreRestricted g g scope (s ∷ []) P (t ∷ [])
restricted_one g scope P s t o same = record {
  charged = IsCharged_refl g g refl;
  over = All-cons (IsOver g scope) t [] o (All-nil (IsOver g scope));
  counted = omega arith;
  points = λ point env l n.
      let S : System → Type 0 = λ u. HoldsSystem u point in (
        (λ h. let x = (same point env l n).0 (Any-one S t h) in (Any-first S s [] x.0, x.1)),
        (λ h. Any-first S t [] ((same point env l n).1 (Any-one S s h.0, h.1))),
      );
}

-- ---- systems that are handed over one by one
pub record AreDone (g h : Gauge) (scope : Scope) (all rest : List System) (P : Condition) (new : List System) : Type 0 where
  pub done : List System
  pub parts : done ++ rest ≡ all
  pub restricted : AreRestricted g h scope done P new

pub done_first : (g : Gauge) (scope : Scope) (all : List System) (P : Condition) → AreDone g g scope all all P []
done_first g scope all P = record {
  done = [];
  parts = refl;
  restricted = record {
    charged = IsCharged_refl g g refl;
    over = All-nil (IsOver g scope);
    counted = omega arith;
    points = λ point env l n. let S : System → Type 0 = λ s. HoldsSystem s point in
        ((λ h. absurd (Any-none S h)), (λ h. absurd (Any-none S h.0)));
  };
}

pub done_more : (g h k : Gauge) (scope : Scope) (all before rest : List System) (s : System) (P : Condition) (new more newer : List System)
    → before ≡ s ∷ rest → newer ≡ new ++ more → AreDone g h scope all before P new → AreRestricted h k scope (s ∷ []) P more
    → AreDone g k scope all rest P newer
done_more g h k scope all before rest s P new more newer e f d r = record {
  done = d.done ++ s ∷ [];
  parts = append_assoc d.done (s ∷ []) rest ∙ ap (λ (xs : List System). d.done ++ xs) (sym e) ∙ d.parts;
  restricted = rw f (restricted_beside g h k scope P d.done new (s ∷ []) more d.restricted r);
}

pub done_all : (g h : Gauge) (scope : Scope) (all rest : List System) (P : Condition) (new : List System) → rest ≡ []
    → AreDone g h scope all rest P new → AreRestricted g h scope all P new
done_all g h scope all rest P new e d =
    let whole : d.done ≡ all = sym (append-nil d.done) ∙ ap (λ (xs : List System). d.done ++ xs) (sym e) ∙ d.parts in
    subst (λ (xs : List System). AreRestricted g h scope xs P new) whole d.restricted

pub done_over : (g h : Gauge) (scope : Scope) (all before rest : List System) (s : System) (P : Condition) (new : List System)
    → before ≡ s ∷ rest → AreDone g h scope all before P new → All (IsOver g scope) all → IsOver h scope s
done_over g h scope all before rest s P new e d o =
    let there : d.done ++ s ∷ rest ≡ all = ap (λ (xs : List System). d.done ++ xs) (sym e) ∙ d.parts in
    let each : All (IsOver g scope) (d.done ++ s ∷ rest) = rw there o in
    let behind = (All-parts (IsOver g scope) d.done (s ∷ rest) each).1 in
    over_kept h g scope s (sym (charged_bits g h d.restricted.charged)) (All-head (IsOver g scope) s rest behind)

-- ---- lists of systems together
module _ (g h k : Gauge) (scope : Scope) (systems : List System) (i : ℕ) (s : System) (P : Condition) (new more newer : List System)
    (inside : i < length systems) (is : s ≡ get_or systems i s) where
  next : take (i + 1) systems ≡ take i systems ++ s ∷ []
  next = take_more systems i s inside ∙ ap (λ (t : System). take i systems ++ t ∷ []) (sym is)

  pub beside_more : newer ≡ new ++ more → AreRestricted g h scope (take i systems) P new → AreRestricted h k scope (s ∷ []) P more
      → AreRestricted g k scope (take (i + 1) systems) P newer
  beside_more e p q = rw (next, e) (restricted_beside g h k scope P (take i systems) new (s ∷ []) more p q)

pub beside_none : (g : Gauge) (scope : Scope) (P : Condition) (new : List System) → new ≡ [] → AreRestricted g g scope [] P new
beside_none g scope P new e = rw e (record {
  charged = IsCharged_refl g g refl;
  over = All-nil (IsOver g scope);
  counted = omega arith;
  points = λ point env l n. let S : System → Type 0 = λ s. HoldsSystem s point in
      ((λ h. absurd (Any-none S h)), (λ h. absurd (Any-none S h.0)));
})

pub over_at : (g : Gauge) (scope : Scope) (systems : List System) (i : ℕ) (s : System) → All (IsOver g scope) systems → i < length systems
    → s ≡ get_or systems i s → IsOver g scope s
over_at g scope systems i s o l is = rw is (o i s l)

abbrev pub WhereSome : List System → Condition
WhereSome others point env = HoldsAtAny others point

abbrev pub WhereNone : List System → Condition
WhereNone others point env = ¬ HoldsAtAny others point

abbrev pub WhereOne : System → Condition
WhereOne other point env = HoldsSystem other point

pub met_none : (g : Gauge) (scope : Scope) (a new : List System) → new ≡ [] → AreRestricted g g scope a (WhereSome []) new
met_none g scope a new e = rw e (restricted_none g scope a (WhereSome []) (λ point env h. Any-none (λ (s : System). HoldsSystem s point) h))

pub met_more : (g h j : Gauge) (scope : Scope) (a others : List System) (i : ℕ) (other : System) (found more newer : List System)
    → i < length others → other ≡ get_or others i other → newer ≡ found ++ more
    → AreRestricted g h scope a (WhereSome (take i others)) found → IsCharged h j → (found ≡ []) ⊎ (h.units + length a ≤ j.units)
    → AreRestricted j j scope a (WhereOne other) more → AreRestricted g j scope a (WhereSome (take (i + 1) others)) newer
met_more g h j scope a others i other found more newer inside is e p paid units q =
    let next : take (i + 1) others ≡ take i others ++ other ∷ [] =
    take_more others i other inside ∙ ap (λ (t : System). take i others ++ t ∷ []) (sym is) in
    rw (next, e) (restricted_either g h j j scope a (WhereSome (take i others)) found (WhereOne other) more (WhereSome (take i others ++ other ∷ [])) p paid units q
    (λ point env x. Any-left (λ (s : System). HoldsSystem s point) (take i others) (other ∷ []) x)
    (λ point env x. Any-right (λ (s : System). HoldsSystem s point) (take i others) (other ∷ []) (Any-first (λ (s : System). HoldsSystem s point) other [] x))
    (λ point env x d. elim (Any-parts (λ (s : System). HoldsSystem s point) (take i others) (other ∷ []) x) [
      | inl y ↦ inl y
      | inr z ↦ inr (Any-one (λ (s : System). HoldsSystem s point) other z)
    ]))

pub some_all : (g h : Gauge) (scope : Scope) (a others : List System) (i : ℕ) (new : List System) → length others ≤ i
    → AreRestricted g h scope a (WhereSome (take i others)) new → AreRestricted g h scope a (WhereSome others) new
some_all g h scope a others i new l r = subst (λ (xs : List System). AreRestricted g h scope a (WhereSome xs) new) (take_all i others l) r

pub whole_taken : (g h : Gauge) (scope : Scope) (a : List System) (P : Condition) (new : List System) (i : ℕ) → length a ≤ i
    → AreRestricted g h scope (take i a) P new → AreRestricted g h scope a P new
whole_taken g h scope a P new i l r = subst (λ (xs : List System). AreRestricted g h scope xs P new) (take_all i a l) r

-- what is left of one system without others
pub outside_one : (g k : Gauge) (scope : Scope) (s : System) (others left : List System) → IsOver g scope s
    → IsDifference g s others left → IsCharged g k → length left + g.units ≤ k.units + 1 → AreRestricted g k scope (s ∷ []) (WhereNone others) left
outside_one g k scope s others left o d c few = record {
  charged = c;
  over = λ i t l. let e = d.each i t l in record { within = e.within; columns = e.columns ∙ o.columns };
  counted = omega arith;
  points = λ point env l n.
      let S : System → Type 0 = λ t. HoldsSystem t point in
      let same = d.points point (l ∙ sym o.columns) in (
        (λ h. let x = same.0 h in (Any-first S s [] x.0, x.1)),
        (λ h. same.1 (Any-one S s h.0, h.1)),
      );
}

-- a system that holds nowhere is left out
pub live_left_out : (g k : Gauge) (scope : Scope) (s : System) → IsOver g scope s → IsCharged g k → IsNowhere (free_columns s) (HoldsSystem s)
    → AreRestricted g k scope (s ∷ []) (λ point env. Unit {0}) []
live_left_out g k scope s o c none = record {
  charged = c;
  over = All-nil (IsOver g scope);
  counted = let later = c.units in omega arith;
  points = λ point env l n. let S : System → Type 0 = λ t. HoldsSystem t point in (
    (λ h. absurd (Any-none S h)),
    (λ h. absurd (none point (l ∙ sym o.columns) (Any-one S s h.0))),
  );
}

pub live_formed : (g k : Gauge) (scope : Scope) (s t : System) → IsOver g scope s → IsCharged g k → IsLiveFormOf g s t
    → AreRestricted g k scope (s ∷ []) (λ point env. Unit {0}) (t ∷ [])
live_formed g k scope s t o c f =
    let over : IsOver g scope t = record { within = f.live.within; columns = f.live.free ∙ o.columns } in
    record {
      charged = c;
      over = All-cons (IsOver g scope) t [] over (All-nil (IsOver g scope));
      counted = let later = c.units in omega arith;
      points = λ point env l n.
          let S : System → Type 0 = λ u. HoldsSystem u point in (
            (λ h. (Any-first S s [] ((f.points point).0 (Any-one S t h)), tt)),
            (λ h. Any-first S t [] ((f.points point).1 (Any-one S s h.0))),
          );
    }

pub normal_left_out : (g k : Gauge) (scope : Scope) (s : System) → IsOver g scope s → IsCharged g k
    → ((point : List ℤ) → ¬ HoldsSystem s point)
    → AreRestricted g k scope (s ∷ []) (λ point env. Unit {0}) []
normal_left_out g k scope s o c none = live_left_out g k scope s o c (λ point l. none point)

normal_free : (s form : System) → Some form ≡ normal_system s → free_columns form ≡ free_columns s
normal_free s form e = by (normal_rows s.rows) e
  where
    by : (found : Option (List Row))
        → Some form ≡ option_map (λ rows. record { columns = s.columns; definitions = s.definitions; rows = rows }) found
        → free_columns form ≡ free_columns s
    by None e = absurd (cc)
    by (Some rows) e = let f : form ≡ record { columns = s.columns; definitions = s.definitions; rows = rows } = cc in rw f refl

pub normal_formed : (g k : Gauge) (scope : Scope) (s t : System) → IsOver g scope s → IsCharged g k → Some t ≡ normal_system s
    → IsSystemWithin g t → ((point : List ℤ) → HoldsSystem t point ↔ HoldsSystem s point)
    → AreRestricted g k scope (s ∷ []) (λ point env. Unit {0}) (t ∷ [])
normal_formed g k scope s t o c e w same =
    let over : IsOver g scope t = record { within = w; columns = normal_free s t e ∙ o.columns } in
    record {
      charged = c;
      over = All-cons (IsOver g scope) t [] over (All-nil (IsOver g scope));
      counted = let later = c.units in omega arith;
      points = λ point env l n.
          let S : System → Type 0 = λ u. HoldsSystem u point in (
            (λ h. (Any-first S s [] ((same point).0 (Any-one S t h)), tt)),
            (λ h. Any-first S t [] ((same point).1 (Any-one S s h.0))),
          );
    }

-- one system that holds where it and another do
pub met_one : (g : Gauge) (scope : Scope) (s other both : System) → IsOver g scope s → IsOver g scope other
    → ((point : List ℤ) → length point ≡ free_columns s → HoldsSystem both point ↔ (HoldsSystem s point × HoldsSystem other point))
    → IsSystemWithin g both → free_columns both ≡ free_columns s → AreRestricted g g scope (s ∷ []) (WhereOne other) (both ∷ [])
met_one g scope s other both o p same w f =
    restricted_one g scope (WhereOne other) s both (record { within = w; columns = f ∙ o.columns }) (λ point env l n. same point (l ∙ sym o.columns))

-- one system with a row: the meter is as it was
pub row_one : (h k : Gauge) (scope : Scope) (P : Environment → Type 0) (s t : System) → IsOver h scope s → k ≡ h
    → IsSystemWithin h t × (free_columns t ≡ free_columns s)
    → ((point : List ℤ) (env : Environment) → length point ≡ free_columns s → IsNumbered scope point env → HoldsSystem t point ↔ (HoldsSystem s point × P env))
    → AreRestricted h k scope (s ∷ []) (λ point env. P env) (t ∷ [])
row_one h k scope P s t o e w same = rw e (restricted_one h scope (λ point env. P env) s t (record { within = w.0; columns = w.1 ∙ o.columns })
    (λ point env l n. same point env (l ∙ sym o.columns) n))

pub others_within : (g h : Gauge) (scope : Scope) (others : List System) → IsCharged g h → All (IsOver g scope) others → All (IsSystemWithin h) others
others_within g h scope others c o k d l = (over_after g h scope others c o k d l).within

pub others_free : (g : Gauge) (scope : Scope) (s : System) (others : List System) → IsOver g scope s → All (IsOver g scope) others
    → All (λ other. free_columns other ≡ free_columns s) others
others_free g scope s others o all k d l = (all k d l).columns ∙ sym o.columns

pub ruleset steps = (charges)

pub ruleset met_steps = (charges)

pub ruleset live_steps = (charges)
