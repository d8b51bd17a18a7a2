-- The types of statements.
use Rattle.std.proofs.Common.{◌≡◌, ◌∙◌, ◌⊎◌, inl, inr, refl, sym, ap, ℕ, Bool, true, false, List, [], Option, Some, None, Result, Ok, Err}
use Rattle.std.specs.Prelude.{if◌then◌else◌}
use Rattle.isl_tree.specs.declared.tree.Literal.{Literal}
use Rattle.isl_tree.specs.Known.{literal_is_known}
use Rattle.isl_refusal.specs.declared.refusal.Refusal.{Refusal}
use Rattle.isl_refusal.specs.declared.refusal.Refusal.TheVariants as r
use Rattle.isl_tree.specs.declared.statement.ValueKind.{ValueKind}
use Rattle.isl_tree.specs.declared.statement.Stmt.{Stmt}
use Rattle.isl_tree.specs.declared.statement.Stmt.TheVariants.{Empty, Bind, Show, Assume}
use Rattle.isl_tree.specs.declared.statement.Expr.{Expr}
use Rattle.isl_kinds.specs.declared.types.Purpose.{Purpose}
use Rattle.isl_kinds.specs.declared.types.Purpose.TheVariants as purpose
use Rattle.isl_kinds.specs.Typed.{TypeView, ScopeView, takes, has_unknown, has_no_item, kind_of}
use Rattle.isl_kinds.specs.Typed.{declared_of, kind_for, with_params, type_for, known_params, untyped, found, type_of_statement}
use Rattle.isl_flat.specs.Simple.{statement_declared}
use Rattle.isl_values.specs.Made.{IsOfType}

-- ---- types
module _ (scope : ScopeView) (expr : Expr) where
  kind_typed : (p : Purpose) (t : TypeView) (kind : Option ValueKind) → kind_of scope expr ≡ kind → has_unknown scope expr ≡ false
      → with_params (declared_of scope expr) (kind_for p expr kind) ≡ Ok t → IsOfType scope expr t
  kind_typed p t None is known e = let f : Err r.WrongKind ≡ Ok t = e in cc
  kind_typed p t (Some kind) is known e = by (takes p kind) refl (has_no_item expr) refl
    where
      by : (b : Bool) → takes p kind ≡ b → (c : Bool) → has_no_item expr ≡ c → IsOfType scope expr t
      by false q c w = let f : Err r.WrongKind ≡ Ok t = sym (rw q refl) ∙ e in cc
      by true q true w = let f : Err r.NoElement ≡ Ok t = sym (rw (q, w) refl) ∙ e in cc
      by true q false w =
          let made : TypeView = record { kind = kind; params = declared_of scope expr } in
          let f : Ok made ≡ Ok t = sym (rw (q, w) refl) ∙ e in
          let same : made ≡ t = cc in
          record { known = known; kind = is ∙ ap (λ (u : TypeView). Some u.kind) same; params = ap (λ (u : TypeView). u.params) same }

  pub of_type : (p : Purpose) (t : TypeView) → type_for p scope expr ≡ Ok t → IsOfType scope expr t
  of_type p t e = by (has_unknown scope expr) refl
    where
      by : (b : Bool) → has_unknown scope expr ≡ b → IsOfType scope expr t
      by true q = let f : Err r.UnknownName ≡ Ok t = sym (rw q refl) ∙ e in cc
      by false q = kind_typed p t (kind_of scope expr) refl q (sym (rw q refl) ∙ e)

  -- an expression without a type has one of three causes
  wrong_kind_of : (p : Purpose) (kind : Option ValueKind) (refusal : Refusal)
      → with_params (declared_of scope expr) (kind_for p expr kind) ≡ Err refusal
      → (refusal ≡ r.WrongKind) ⊎ (refusal ≡ r.NoElement)
  wrong_kind_of p None refusal e = inl cc
  wrong_kind_of p (Some kind) refusal e = by (takes p kind) refl (has_no_item expr) refl
    where
      by : (b : Bool) → takes p kind ≡ b → (c : Bool) → has_no_item expr ≡ c → (refusal ≡ r.WrongKind) ⊎ (refusal ≡ r.NoElement)
      by false q c w = let f : Err r.WrongKind ≡ Err refusal = sym (rw q refl) ∙ e in inl cc
      by true q true w = let f : Err r.NoElement ≡ Err refusal = sym (rw (q, w) refl) ∙ e in inr cc
      by true q false w =
          let made : TypeView = record { kind = kind; params = declared_of scope expr } in
          let f : Ok made ≡ Err refusal = sym (rw (q, w) refl) ∙ e in cc

  without_type : (p : Purpose) (refusal : Refusal) → type_for p scope expr ≡ Err refusal
      → (refusal ≡ r.UnknownName) ⊎ ((refusal ≡ r.WrongKind) ⊎ (refusal ≡ r.NoElement))
  without_type p refusal e = by (has_unknown scope expr) refl
    where
      by : (b : Bool) → has_unknown scope expr ≡ b → (refusal ≡ r.UnknownName) ⊎ ((refusal ≡ r.WrongKind) ⊎ (refusal ≡ r.NoElement))
      by true q = let f : Err r.UnknownName ≡ Err refusal = sym (rw q refl) ∙ e in inl cc
      by false q = inr (wrong_kind_of p (kind_of scope expr) refusal (sym (rw q refl) ∙ e))

-- what a function that finds a type answers
pub answered_ok : (t : Option TypeView) (answer : Result (Option TypeView) Refusal) → (Ok t ≡ answer) ⊎ (Ok t ≡ Err r.NoMemory)
    → answer ≡ Ok t
answered_ok t answer (inl e) = sym e
answered_ok t answer (inr e) = let f : Ok t ≡ Err r.NoMemory = e in cc

found_err : (t : Result TypeView Refusal) (refusal : Refusal) → found t ≡ Err refusal → t ≡ Err refusal
found_err (Ok t) refusal e = let f : Ok (Some t) ≡ Err refusal = e in cc
found_err (Err other) refusal e = cc

found_ok : (t : Result TypeView Refusal) (u : TypeView) → found t ≡ Ok (Some u) → t ≡ Ok u
found_ok (Ok t) u e = cc
found_ok (Err other) u e = let f : Err other ≡ Ok (Some u) = e in cc

pub found_some : (t : Result TypeView Refusal) → ¬ (found t ≡ Ok None)
found_some (Ok t) e = cc
found_some (Err other) e = let f : Err other ≡ Ok None = e in cc

-- an assumption is refused for an unknown identifier alone
unknown_alone : (b : Bool) (refusal : Refusal) → untyped (if b then Ok tt else Err r.UnknownName) ≡ Err refusal → refusal ≡ r.UnknownName
unknown_alone true refusal e = let f : Ok None ≡ Err refusal = e in cc
unknown_alone false refusal e = cc

pub no_typed_set : (set : Literal) (t : TypeView) → ¬ (untyped (known_params set) ≡ Ok (Some t))
no_typed_set set t = by (literal_is_known set)
  where
    by : (b : Bool) → ¬ (untyped (if b then Ok tt else Err r.UnknownName) ≡ Ok (Some t))
    by true e = let f : Ok None ≡ Ok (Some t) = e in cc
    by false e = let f : Err r.UnknownName ≡ Ok (Some t) = e in cc

-- the identifiers of an assumption with a type are known
pub typed_known : (scope : ScopeView) (set : Literal) (t : Option TypeView) → type_of_statement scope (Assume set) ≡ Ok t
    → literal_is_known set ≡ true
typed_known scope set t e = by (literal_is_known set) e
  where
    by : (b : Bool) → untyped (if b then Ok tt else Err r.UnknownName) ≡ Ok t → b ≡ true
    by true e = refl
    by false e = let f : Err r.UnknownName ≡ Ok t = e in cc

pub no_type : (scope : ScopeView) (stmt : Stmt) (refusal : Refusal) → type_of_statement scope stmt ≡ Err refusal
    → (refusal ≡ r.UnknownName) ⊎ ((refusal ≡ r.WrongKind) ⊎ (refusal ≡ r.NoElement))
no_type scope Empty refusal e = let f : Ok None ≡ Err refusal = e in cc
no_type scope (Bind name expr) refusal e = without_type scope expr purpose.Bound refusal
    (found_err (type_for purpose.Bound scope expr) refusal e)
no_type scope (Show expr) refusal e = without_type scope expr purpose.Shown refusal
    (found_err (type_for purpose.Shown scope expr) refusal e)
no_type scope (Assume set) refusal e = inl (unknown_alone (literal_is_known set) refusal e)

-- what a statement with a type has
pub show_typed : (scope : ScopeView) (expr : Expr) (t : TypeView) → type_of_statement scope (Show expr) ≡ Ok (Some t)
    → IsOfType scope expr t
show_typed scope expr t e = of_type scope expr purpose.Shown t (found_ok (type_for purpose.Shown scope expr) t e)

pub bind_typed : (scope : ScopeView) (name : List ℕ) (expr : Expr) (t : TypeView) → type_of_statement scope (Bind name expr) ≡ Ok (Some t)
    → IsOfType scope expr t
bind_typed scope name expr t e = of_type scope expr purpose.Bound t (found_ok (type_for purpose.Bound scope expr) t e)

-- the parameters of a statement are those of its type
pub typed_declares : (scope : ScopeView) (stmt : Stmt) (t : TypeView) → type_of_statement scope stmt ≡ Ok (Some t)
    → statement_declared scope stmt ≡ t.params
typed_declares scope Empty t e = let f : Ok None ≡ Ok (Some t) = e in cc
typed_declares scope (Bind name expr) t e = (bind_typed scope name expr t e).params
typed_declares scope (Show expr) t e = (show_typed scope expr t e).params
typed_declares scope (Assume set) t e = absurd (no_typed_set set t e)

pub untyped_declares : (scope : ScopeView) (stmt : Stmt) → type_of_statement scope stmt ≡ Ok None → statement_declared scope stmt ≡ []
untyped_declares scope Empty e = refl
untyped_declares scope (Bind name expr) e = absurd (found_some (type_for purpose.Bound scope expr) e)
untyped_declares scope (Show expr) e = absurd (found_some (type_for purpose.Shown scope expr) e)
untyped_declares scope (Assume set) e = refl

pub found_is : (made : Result TypeView Refusal) (t : Option TypeView) → found made ≡ Ok t → (u : TypeView) × (made ≡ Ok u)
found_is (Ok u) t is = (u, refl)
found_is (Err refusal) t is = let f : Err refusal ≡ Ok t = is in cc
