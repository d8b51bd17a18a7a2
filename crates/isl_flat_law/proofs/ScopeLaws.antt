-- The scopes that bindings leave, and what holds in them.
use Rattle.std.proofs.Common.{◌≡◌, ◌∙◌, ◌+◌, ◌<◌, ◌≤◌, ◌^◌, ℕ, suc, Bool, true, false, List, [], ◌∷◌, ◌++◌, length, Option, Some, None}
use Rattle.std.proofs.Common.{Ok, Err, refl, sym, ap, subst, arith, if◌then◌else◌}
use Rattle.std.specs.Prelude.{not}
use Rattle.std.specs.Option.{option_map}
use Rattle.isl_space.specs.Name.{Name}
use Rattle.isl_refusal.specs.declared.refusal.Refusal.{Refusal}
use Rattle.isl_refusal.specs.declared.refusal.Refusal.TheVariants.{UnknownName, WrongKind, NoElement}
use Rattle.isl_tree.specs.declared.statement.ValueKind.{ValueKind}
use Rattle.isl_tree.specs.declared.statement.Stmt.{Stmt}
use Rattle.isl_tree.specs.declared.statement.Stmt.TheVariants.{Empty, Bind, Show, Assume}
use Rattle.isl_tree.specs.declared.statement.Expr.{Expr}
use Rattle.isl_tree.specs.declared.statement.Expr as e
use Rattle.isl_kinds.specs.declared.types.Purpose.{Purpose}
use Rattle.isl_kinds.specs.declared.types.Purpose.TheVariants.{Bound}
use Rattle.isl_kinds.specs.Parts.{parts_of}
use Rattle.isl_kinds.specs.Typed.{ScopeView, TypeView, kind_of, declared_of, params_of, has_unknown, has_no_item}
use Rattle.isl_kinds.specs.Typed.{takes, kind_for, with_params, type_for, found}
use Rattle.isl_kinds.proofs.DeclaredLaws.{IsOnce}
use Rattle.isl_flat.specs.Flat.{Flattened, dollar, bound, is_name, named}
use Rattle.isl_flat.specs.Simple.{HasType, BindsIn, AreTyped}
use Rattle.isl_flat_law.proofs.EachLaws.{Each}
use Rattle.isl_flat_law.proofs.ViewLaws.{IsClear, Agree, same, known, items_there}

-- ---- types and their parts

pub record TypeParts (purpose : Purpose) (scope : ScopeView) (expr : Expr) (t : TypeView) : Type 0 where
  pub unknown : has_unknown scope expr ≡ false
  pub kind : kind_of scope expr ≡ Some t.kind
  pub allowed : takes purpose t.kind ≡ true
  pub items : has_no_item expr ≡ false
  pub params : declared_of scope expr ≡ t.params

no_type : {T : Type 0} (r : Refusal) (t : TypeView) → Err r ≡ Ok t → T
no_type r t is = absurd cc

same_type : (s t : TypeView) → with_params s.params (Ok s.kind) ≡ Ok t → s ≡ t
same_type s t is = cc

pub type_parts : (purpose : Purpose) (scope : ScopeView) (expr : Expr) (t : TypeView) → type_for purpose scope expr ≡ Ok t
    → TypeParts purpose scope expr t
type_parts purpose scope expr t is = by (has_unknown scope expr) refl (kind_of scope expr) refl is
  where
    with_kind : (k : ValueKind) (b c : Bool) → has_unknown scope expr ≡ false → kind_of scope expr ≡ Some k → takes purpose k ≡ b
        → has_no_item expr ≡ c
        → with_params (declared_of scope expr) (if not b then Err WrongKind else (if c then Err NoElement else Ok k)) ≡ Ok t
        → TypeParts purpose scope expr t
    with_kind k false c unknown kind allowed items is = no_type WrongKind t is
    with_kind k true true unknown kind allowed items is = no_type NoElement t is
    with_kind k true false unknown kind allowed items is =
        let made = same_type (record { kind = k; params = declared_of scope expr }) t is in
        let same_kind : k ≡ t.kind = ap (λ (s : TypeView). s.kind) made in record {
          unknown = unknown;
          kind = kind ∙ ap (λ (j : ValueKind). Some j) same_kind;
          allowed = ap (takes purpose) (sym same_kind) ∙ allowed;
          items = items;
          params = ap (λ (s : TypeView). s.params) made;
        }

    by : (b : Bool) → has_unknown scope expr ≡ b → (o : Option ValueKind) → kind_of scope expr ≡ o
        → (if b then Err UnknownName else with_params (declared_of scope expr) (kind_for purpose expr o)) ≡ Ok t
        → TypeParts purpose scope expr t
    by true unknown o kind is = no_type UnknownName t is
    by false unknown None kind is = no_type WrongKind t is
    by false unknown (Some k) kind is = with_kind k (takes purpose k) (has_no_item expr) unknown kind refl refl is

pub type_made : (purpose : Purpose) (scope : ScopeView) (expr : Expr) (t : TypeView) → TypeParts purpose scope expr t
    → type_for purpose scope expr ≡ Ok t
type_made purpose scope expr t parts =
    ap (λ (b : Bool). if b then Err UnknownName else with_params (declared_of scope expr) (kind_for purpose expr (kind_of scope expr)))
    parts.unknown
    ∙ ap (λ (ns : List Name). with_params ns (kind_for purpose expr (kind_of scope expr))) parts.params
    ∙ ap (λ (o : Option ValueKind). with_params t.params (kind_for purpose expr o)) parts.kind
    ∙ ap (λ (b : Bool). with_params t.params (if not b then Err WrongKind else (if has_no_item expr then Err NoElement else Ok t.kind)))
    parts.allowed
    ∙ ap (λ (b : Bool). with_params t.params (if b then Err NoElement else Ok t.kind)) parts.items

-- ---- the scopes that statements leave

module _ (most : ℕ) where
  -- Each statement binds a name to what it has the type of, and the scope that they leave has P; of so many statements as are told apart.
  abbrev pub Leave : ℕ → ScopeView → List Stmt → (ScopeView → Type 0) → Type 0
  Leave n scope [] P = P scope
  Leave n scope (Bind name expr ∷ rest) P =
      (t : TypeView) × HasType most scope (Bind name expr) (Some t)
      × (suc n < 2 ^ 64 → (later : ScopeView) → BindsIn scope name t later → Leave (suc n) later rest P)
  Leave n scope (_ ∷ rest) P = ⊥

  pub leave_map : (P R : ScopeView → Type 0) → ((scope : ScopeView) → P scope → R scope) → (n : ℕ) (scope : ScopeView) (made : List Stmt)
      → Leave n scope made P → Leave n scope made R
  leave_map P R weaker n scope [] left = weaker scope left
  leave_map P R weaker n scope (Bind name expr ∷ made) left =
      (left.0, left.1, λ small later binds. leave_map P R weaker (suc n) later made (left.2 small later binds))
  leave_map P R weaker n scope (Empty ∷ made) left = absurd left
  leave_map P R weaker n scope (Show expr ∷ made) left = absurd left
  leave_map P R weaker n scope (Assume set ∷ made) left = absurd left

  -- one more binding
  abbrev pub BindsNext : ℕ → Name → Expr → (ScopeView → Type 0) → ScopeView → Type 0
  BindsNext k name expr P scope =
      (t : TypeView) × HasType most scope (Bind name expr) (Some t)
      × (suc k < 2 ^ 64 → (later : ScopeView) → BindsIn scope name t later → P later)

  pub leave_with : (P : ScopeView → Type 0) (n k : ℕ) (scope : ScopeView) (made : List Stmt) (name : Name) (expr : Expr)
      → k ≡ n + length made → Leave n scope made (BindsNext k name expr P) → Leave n scope (made ++ Bind name expr ∷ []) P
  leave_with P n k scope [] name expr is left = (left.0, left.1, λ small. left.2 (omega (arith, is, small)))
  leave_with P n k scope (Bind other first ∷ made) name expr is left =
      (left.0, left.1, λ small later binds. leave_with P (suc n) k later made name expr (omega (arith, is)) (left.2 small later binds))
  leave_with P n k scope (Empty ∷ made) name expr is left = absurd left
  leave_with P n k scope (Show first ∷ made) name expr is left = absurd left
  leave_with P n k scope (Assume set ∷ made) name expr is left = absurd left

  -- the last statement has a type in the scope that the others leave
  pub all_typed : (n : ℕ) (scope : ScopeView) (made : List Stmt) (last : Stmt) (t : Option TypeView) → n + length made < 2 ^ 64
      → Leave n scope made (λ later. HasType most later last t) → AreTyped most scope (made ++ last ∷ []) t
  all_typed n scope [] last t small left = left
  all_typed n scope (Bind name expr ∷ []) last t small left = (left.0, left.1, λ later binds. left.2 (omega (arith, small)) later binds)
  all_typed n scope (Bind name expr ∷ next ∷ made) last t small left = (
    left.0,
    left.1,
    λ later binds. all_typed (suc n) later (next ∷ made) last t (omega (arith, small))
        (left.2 (omega (arith, small)) later binds),
  )
  all_typed n scope (Empty ∷ made) last t small left = absurd left
  all_typed n scope (Show expr ∷ made) last t small left = absurd left
  all_typed n scope (Assume set ∷ made) last t small left = absurd left

-- ---- what stays

abbrev pub Stable : ℕ → (ScopeView → Type 0) → Type 0
Stable k F = (before later : ScopeView) → Agree k before later → F before → F later

pub agree_up : (j k : ℕ) (before later : ScopeView) → j ≤ k → Agree k before later → Agree j before later
agree_up j k before later low agree = λ name is_low. agree name (λ i behind small. is_low i (omega (arith, low, behind)) small)

-- the next dollar name is none of those before it
pub agree_next : (k : ℕ) (before later : ScopeView) (t : TypeView) → suc k < 2 ^ 64 → BindsIn before (dollar (k + 1)) t later
    → Agree k before later
agree_next k before later t small binds =
    λ name is_low. binds.others name (is_low (k + 1) (omega arith) (omega (arith, small)))

-- the expression is of this kind, and declares these
pub record Sees (kind : ValueKind) (names : List Name) (expr : Expr) (scope : ScopeView) : Type 0 where
  pub kind_is : kind_of scope expr ≡ Some kind
  pub params : declared_of scope expr ≡ names

pub sees_stable : (k : ℕ) (kind : ValueKind) (names : List Name) (expr : Expr) → Each (IsClear k) (parts_of expr)
    → Stable k (Sees kind names expr)
sees_stable k kind names expr clear before later agree sees =
    let both = same k before later agree expr clear in record { kind_is = both.0 ∙ sees.kind_is; params = both.1 ∙ sees.params }

-- What holds behind so many statements, and says that the names that are no dollar names are bound as at first.
pub record Frame (first : ScopeView) (k : ℕ) (F : ScopeView → Type 0) : Type 0 where
  pub stable : Stable k F
  pub base : (scope : ScopeView) → F scope → Agree 0 first scope

pub frame_up : (first : ScopeView) (j k : ℕ) (F : ScopeView → Type 0) → j ≤ k → Frame first j F → Frame first k F
frame_up first j k F low frame = record {
  stable = λ before later agree. frame.stable before later (agree_up j k before later low agree);
  base = frame.base;
}

pub frame_with : (first : ScopeView) (j k : ℕ) (F G : ScopeView → Type 0) → j ≤ k → Frame first j F → Stable k G
    → Frame first k (λ scope. F scope × G scope)
frame_with first j k F G low frame stable = record {
  stable = λ before later agree h. (frame.stable before later (agree_up j k before later low agree) h.0, stable before later agree h.1);
  base = λ scope h. frame.base scope h.0;
}

-- ---- bindings of what has a type

module _ (most : ℕ) (first : ScopeView) where
  -- the statements have types, and in the scope that they leave F holds, and the expression is of this kind and declares these
  abbrev pub Typed : (ScopeView → Type 0) → ValueKind → List Name → Flattened → Type 0
  Typed F kind names f = Leave most 0 first f.0 (λ scope. F scope × Sees kind names f.1 scope)

  pub bound_typed : (F : ScopeView → Type 0) (kind : ValueKind) (names : List Name) (f : Flattened) → Frame first (length f.0) F
      → Each (IsClear (length f.0)) (parts_of f.1) → IsOnce names → length names ≤ most
      → ((scope : ScopeView) → Sees kind names f.1 scope → takes Bound kind ≡ true) → Typed F kind names f → Typed F kind names (bound f)
  bound_typed F kind names f frame clear once few allowed typed =
      leave_with most After 0 (length f.0) first f.0 name f.1 (omega arith)
      (leave_map most (λ scope. F scope × Sees kind names f.1 scope) (BindsNext most (length f.0) name f.1 After) step 0 first f.0 typed)
    where
      name : Name
      name = dollar (length f.0 + 1)

      After : ScopeView → Type 0
      After scope = F scope × Sees kind names (e.Name name) scope

      t : TypeView
      t = record { kind = kind; params = names }

      step : (scope : ScopeView) → F scope × Sees kind names f.1 scope → BindsNext most (length f.0) name f.1 After scope
      step scope h = (
        t,
        record {
          typed = ap found (type_made Bound scope f.1 t (record {
            unknown = known scope (length f.0) f.1 kind clear h.1.kind_is;
            kind = h.1.kind_is;
            allowed = allowed scope h.1;
            items = items_there scope (length f.0) f.1 clear;
            params = h.1.params;
          }));
          few = subst (λ (ns : List Name). length ns ≤ most) (sym h.1.params) few;
        },
        λ small later binds. (
          frame.stable scope later (agree_next (length f.0) scope later t small binds) h.0,
          record { kind_is = ap (option_map (λ (s : TypeView). s.kind)) binds.bound; params = ap params_of binds.bound ∙ once },
        ),
      )

  pub named_typed : (F : ScopeView → Type 0) (kind : ValueKind) (names : List Name) (f : Flattened) → Frame first (length f.0) F
      → Each (IsClear (length f.0)) (parts_of f.1) → IsOnce names → length names ≤ most → takes Bound kind ≡ true
      → Typed F kind names f → Typed F kind names (named f)
  named_typed F kind names f frame clear once few allowed typed = by (is_name f.1)
    where
      by : (b : Bool) → Typed F kind names (if b then f else bound f)
      by true = typed
      by false = bound_typed F kind names f frame clear once few (λ scope sees. allowed) typed
