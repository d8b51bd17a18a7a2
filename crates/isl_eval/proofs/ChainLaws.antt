-- The simple statements of a statement that may be worked out, one after another.
use Rattle.std.proofs.Common.{◌≡◌, ◌∙◌, inl, inr, refl, sym, ap, subst, arith, ◌≤◌, ◌^◌, ℕ, suc}
use Rattle.std.proofs.Common.{Bool, true, false, List, [], ◌∷◌, ◌++◌, length, get_or, Option, Some, Ok, Err}
use Rattle.std.specs.List.{All, list_any}
use Rattle.std.proofs.lemmas.Bool.{false≢true}
use Rattle.std.proofs.lemmas.List.Elements.{All-nil, All-cons, All-append}
use Rattle.isl_space.specs.Name.{Name}
use Rattle.isl_refusal.specs.declared.refusal.Refusal.TheVariants as r
use Rattle.isl_lower.specs.Value.{IsWellFormedLiteral}
use Rattle.isl_tree.specs.declared.statement.Binary.TheVariants.{Gist}
use Rattle.isl_tree.specs.declared.statement.Prefix.TheVariants.{Sample}
use Rattle.isl_tree.specs.declared.statement.ValueKind.{ValueKind}
use Rattle.isl_tree.specs.declared.statement.ValueKind.TheVariants as k
use Rattle.isl_tree.specs.declared.statement.Stmt.{Stmt}
use Rattle.isl_tree.specs.declared.statement.Stmt.TheVariants.{Empty, Bind, Show, Assume}
use Rattle.isl_tree.specs.declared.statement.Expr.{Expr}
use Rattle.isl_tree.specs.declared.statement.Expr.TheBlock.{hidden-the_row-Expr-0}
use Rattle.isl_tree.specs.declared.statement.Expr as e
use Rattle.isl_tree.specs.Expr.{statement_literals}
use Rattle.isl_kinds.specs.declared.types.Purpose.TheVariants as purpose
use Rattle.isl_kinds.specs.Typed.{TypeView, ScopeView, is_dollar, has_unknown, kind_of}
use Rattle.isl_kinds.specs.Typed.{declared_of, kind_for, with_params, type_for, type_of_statement}
use Rattle.isl_eval.proofs.TestLaws.{made_of-Row, whole_row}
use Rattle.isl_flat.specs.Flat.{flat, link_of}
use Rattle.isl_flat.specs.Simple.{bindings_of, last_of, BindFrom, IsSimple, IsSimpleExpr, HasType, AreTyped, statement_declared}
use Rattle.isl_flat_law.proofs.SimpleLaws.{flat_ends, literals_kept, flat_is_simple, bindings_are_numbered}
use Rattle.isl_flat_law.proofs.TypedLaws.{flat_is_typed}
use Rattle.isl_stmt.specs.Names.{HasNoDollar, binds_dollar}
use Rattle.isl_stmt.proofs.NameLaws.{bytes_spell_no_dollar}
use Rattle.isl_values.specs.State.{Moment, scope_of}
use Rattle.isl_values.specs.Made.{is_foreign}
use Rattle.isl_eval.specs.Evaluated.{made_parts, shown_parts, worked_parts, AssumesFormulas, IsEvaluable}
use Rattle.isl_eval.specs.Asked.{needs_numbers}
use Rattle.isl_eval.specs.Ended.{IsAssumedWhereNeeded}
use Rattle.isl_eval.specs.Evaluation.{IsClearStatement, IsTaken, AreEvaluable}
use Rattle.isl_eval.specs.Spelled.{BytesSpell}
use Rattle.isl_token.proofs.LexLaws.{lexed}
use Rattle.isl_eval.proofs.TypeLaws.{found_is, of_type}
use Rattle.isl_eval.proofs.PlainLaws.{is_value, is_lone, bound_plain, shown_plain}
use Rattle.isl_eval.proofs.FullLaws.{outermost_like}
use Rattle.isl_eval.proofs.LiteralLaws.{FullStmt, full_spelled}

-- ---- the kinds of statements with types
taken_value : (expr : Expr) (params : List Name) (kind : ValueKind) (u : TypeView)
    → with_params params (kind_for purpose.Bound expr (Some kind)) ≡ Ok u → is_value kind ≡ true
taken_value expr params k.Truth u is = let f : Err r.WrongKind ≡ Ok u = is in cc
taken_value expr params k.Listing u is = let f : Err r.WrongKind ≡ Ok u = is in cc
taken_value expr params k.Code u is = let f : Err r.WrongKind ≡ Ok u = is in cc
taken_value expr params k.Tree u is = let f : Err r.WrongKind ≡ Ok u = is in cc
taken_value expr params _ u is = refl

bound_value : (scope : ScopeView) (expr : Expr) (u : TypeView) → type_for purpose.Bound scope expr ≡ Ok u → is_value u.kind ≡ true
bound_value scope expr u is = by (has_unknown scope expr) refl
  where
    kind_is : kind_of scope expr ≡ Some u.kind
    kind_is = (of_type scope expr purpose.Bound u is).kind

    by : (b : Bool) → has_unknown scope expr ≡ b → is_value u.kind ≡ true
    by true q = let f : Err r.UnknownName ≡ Ok u = sym (rw q refl) ∙ is in cc
    by false q =
        let made : with_params (declared_of scope expr) (kind_for purpose.Bound expr (kind_of scope expr)) ≡ Ok u = sym (rw q refl) ∙ is in
        taken_value expr (declared_of scope expr) u.kind u
        (sym (ap (λ (o : Option ValueKind). with_params (declared_of scope expr) (kind_for purpose.Bound expr o)) kind_is) ∙ made)

-- ---- what is chosen
sample_made : (name : Name) → list_any is_foreign (made_parts (e.Prefix Sample (e.Name name))) ≡ false
unfolding hidden-the_row-Expr-0 denote.Hole.Carrier.hidden
sample_made name = refl

sample_shown : (name : Name) → list_any is_foreign (shown_parts (e.Prefix Sample (e.Name name))) ≡ false
unfolding hidden-the_row-Expr-0 denote.Hole.Carrier.hidden
sample_shown name = refl

-- `%` of two names works them out, and no more
gist_made : (left right : Name) → list_any is_foreign (made_parts (e.Row (e.Name left) (link_of Gist (e.Name right) ∷ []))) ≡ false
gist_made left right =
    ap (list_any is_foreign) (made_of-Row (e.Name left) (link_of Gist (e.Name right) ∷ []))

gist_shown : (left right : Name) → list_any is_foreign (shown_parts (e.Row (e.Name left) (link_of Gist (e.Name right) ∷ []))) ≡ false
gist_shown left right =
    ap (list_any is_foreign) (whole_row (e.Name left) (link_of Gist (e.Name right) ∷ []) refl) ∙ gist_made left right

bound_simple : (scope : ScopeView) (expr : Expr) (kind : ValueKind) → kind_of scope expr ≡ Some kind → is_value kind ≡ true
    → IsSimpleExpr expr → list_any is_foreign (made_parts expr) ≡ false
bound_simple scope expr kind is value (inl quiet) = bound_plain scope expr kind is value quiet
bound_simple scope expr kind is value (inr (inl h)) =
    ap (λ (x : Expr). list_any is_foreign (made_parts x)) h.1 ∙ sample_made h.0
bound_simple scope expr kind is value (inr (inr h)) =
    ap (λ (x : Expr). list_any is_foreign (made_parts x)) h.2 ∙ gist_made h.0 h.1

shown_simple : (scope : ScopeView) (expr : Expr) (kind : ValueKind) → kind_of scope expr ≡ Some kind → is_lone expr ≡ false
    → IsSimpleExpr expr → list_any is_foreign (shown_parts expr) ≡ false
shown_simple scope expr kind is full (inl quiet) = shown_plain scope expr kind is full quiet
shown_simple scope expr kind is full (inr (inl h)) =
    ap (λ (x : Expr). list_any is_foreign (shown_parts x)) h.1 ∙ sample_shown h.0
shown_simple scope expr kind is full (inr (inr h)) =
    ap (λ (x : Expr). list_any is_foreign (shown_parts x)) h.2 ∙ gist_shown h.0 h.1

-- ---- one simple statement
formulas_of : (stmt : Stmt) → FullStmt stmt → AssumesFormulas stmt
formulas_of Empty full = tt
formulas_of (Bind name expr) full = tt
formulas_of (Show expr) full = tt
formulas_of (Assume set) full = full

plain : (scope : ScopeView) (stmt : Stmt) (t : Option TypeView) → type_of_statement scope stmt ≡ Ok t → FullStmt stmt
    → IsSimple stmt → list_any is_foreign (worked_parts stmt) ≡ false
plain scope Empty t typed full simple = refl
plain scope (Bind name expr) t typed full simple =
    let u = found_is (type_for purpose.Bound scope expr) t typed in
    bound_simple scope expr u.0.kind (of_type scope expr purpose.Bound u.0 u.1).kind (bound_value scope expr u.0 u.1) simple
plain scope (Show expr) t typed full simple =
    let u = found_is (type_for purpose.Shown scope expr) t typed in
    shown_simple scope expr u.0.kind (of_type scope expr purpose.Shown u.0 u.1).kind full simple
plain scope (Assume set) t typed full simple = refl

abbrev MayBe : ℕ → Stmt → Type 0
MayBe most stmt = (scope : ScopeView) (t : Option TypeView) → HasType most scope stmt t → IsEvaluable scope stmt

may_be : (most : ℕ) (stmt : Stmt) → FullStmt stmt → All IsWellFormedLiteral (statement_literals stmt) → IsSimple stmt → MayBe most stmt
may_be most stmt full literals simple = λ scope t has. record {
  typed = (t, has.typed);
  plain = plain scope stmt t has.typed full simple;
  literals = literals;
  formulas = formulas_of stmt full;
}

-- ---- one after another
chain : (most n : ℕ) (scope : ScopeView) (bindings : List Stmt) (last : Stmt) (t : Option TypeView)
    → AreTyped most scope (bindings ++ last ∷ []) t
    → BindFrom n bindings → All (MayBe most) (bindings ++ last ∷ []) → AreEvaluable scope (bindings ++ last ∷ []) t
chain most n scope [] last t typed from all = (all 0 last (omega arith) scope t typed, typed.typed)
chain most n scope (Bind name expr ∷ []) last t typed from all = (
  typed.0,
  typed.1.typed,
  ap is_dollar from.0,
  all 0 last (omega arith) scope (Some typed.0) typed.1,
  (λ later binds. let has = typed.2 later binds in (all 1 last (omega arith) later t has, has.typed)),
)
chain most n scope (Bind name expr ∷ next ∷ more) last t typed from all = (
  typed.0,
  typed.1.typed,
  ap is_dollar from.0,
  all 0 last (omega arith) scope (Some typed.0) typed.1,
  (λ later binds. chain most (suc n) later (next ∷ more) last t (typed.2 later binds) from.1
      (λ i d low. all (suc i) d (omega (arith, low)))),
)
chain most n scope (Empty ∷ more) last t typed from all = absurd from
chain most n scope (Show expr ∷ more) last t typed from all = absurd from
chain most n scope (Assume set ∷ more) last t typed from all = absurd from

full_bindings : (n : ℕ) (bindings : List Stmt) → BindFrom n bindings → All FullStmt bindings
full_bindings n [] from = All-nil FullStmt
full_bindings n (Bind name expr ∷ more) from = All-cons FullStmt (Bind name expr) more tt (full_bindings (suc n) more from.1)
full_bindings n (Empty ∷ more) from = absurd from
full_bindings n (Show expr ∷ more) from = absurd from
full_bindings n (Assume set ∷ more) from = absurd from

full_last : (stmt : Stmt) → FullStmt stmt → FullStmt (last_of stmt)
full_last Empty full = tt
full_last (Bind name expr) full = tt
full_last (Show expr) full = (outermost_like false expr full).0
full_last (Assume set) full = full

all_full : (stmt : Stmt) → FullStmt stmt → All FullStmt (flat stmt)
all_full stmt full =
    subst (All FullStmt) (sym (flat_ends stmt))
    (All-append FullStmt (bindings_of stmt) (last_of stmt ∷ []) (full_bindings 1 (bindings_of stmt) (bindings_are_numbered stmt))
    (All-cons FullStmt (last_of stmt) [] (full_last stmt full) (All-nil FullStmt)))

bytes_full : (bytes : List ℕ) (stmt : Stmt) → BytesSpell bytes stmt → FullStmt stmt
bytes_full bytes stmt spelled = full_spelled stmt spelled.tokens (lexed bytes spelled.tokens spelled.cut) spelled.spelled

pub no_dollar : (bytes : List ℕ) (stmt : Stmt) → BytesSpell bytes stmt → HasNoDollar stmt
no_dollar bytes stmt spelled = bytes_spell_no_dollar bytes stmt spelled.tokens spelled.cut spelled.spelled

-- the simple statements of a statement that was read and may be worked out
pub evaluable : {type : Option TypeView} (before : Moment) (bytes : List ℕ) (stmt : Stmt) (statements : List Stmt)
    → IsClearStatement before bytes stmt type → statements ≡ flat stmt → length statements ≤ 2 ^ 64
    → AreEvaluable (scope_of before.state) statements type
evaluable {type} before bytes stmt statements found is short =
    let read = found.read in
    let most = length (statement_declared (scope_of before.state) stmt) in
    let typed = flat_is_typed (scope_of before.state) stmt type (no_dollar bytes stmt read.spelled).inside
    (subst (λ (s : List Stmt). length s ≤ 2 ^ 64) is short) found.able.typed in
    let literals = literals_kept IsWellFormedLiteral stmt read.sound in
    let simple = flat_is_simple stmt in
    let full = all_full stmt (bytes_full bytes stmt read.spelled) in
    let each : All (MayBe most) (flat stmt) = λ i d low.
    may_be most (get_or (flat stmt) i d) (full i d low) (literals i d low) (simple i d low) in
    subst (λ (s : List Stmt). AreEvaluable (scope_of before.state) s type) (sym (is ∙ flat_ends stmt))
    (chain most 1 (scope_of before.state) (bindings_of stmt) (last_of stmt) type
    (subst (λ (s : List Stmt). AreTyped most (scope_of before.state) s type) (flat_ends stmt) typed) (bindings_are_numbered stmt)
    (subst (All (MayBe most)) (flat_ends stmt) each))

-- ---- what is asked first
last_needs : (run : Bool) (stmt : Stmt) → FullStmt stmt → needs_numbers run (last_of stmt) ≡ needs_numbers run stmt
last_needs run Empty full = refl
last_needs run (Bind name expr) full = refl
last_needs run (Show expr) full = (outermost_like run expr full).1
last_needs run (Assume set) full = refl

bindings_asked : (before : Moment) (n : ℕ) (bindings : List Stmt) → BindFrom n bindings → All (IsAssumedWhereNeeded before) bindings
bindings_asked before n [] from = All-nil (IsAssumedWhereNeeded before)
bindings_asked before n (Bind name expr ∷ more) from =
    All-cons (IsAssumedWhereNeeded before) (Bind name expr) more (λ needed. absurd (false≢true needed))
    (bindings_asked before (suc n) more from.1)
bindings_asked before n (Empty ∷ more) from = absurd from
bindings_asked before n (Show expr ∷ more) from = absurd from
bindings_asked before n (Assume set ∷ more) from = absurd from

-- where a statement lists elements or runs loops, one of its simple statements does, at the same numbers
pub asked_each : (before : Moment) (bytes : List ℕ) (stmt : Stmt) (statements : List Stmt) → BytesSpell bytes stmt → statements ≡ flat stmt
    → IsAssumedWhereNeeded before stmt → All (IsAssumedWhereNeeded before) statements
asked_each before bytes stmt statements spelled is asked =
    subst (All (IsAssumedWhereNeeded before)) (sym (is ∙ flat_ends stmt))
    (All-append (IsAssumedWhereNeeded before) (bindings_of stmt) (last_of stmt ∷ [])
    (bindings_asked before 1 (bindings_of stmt) (bindings_are_numbered stmt))
    (All-cons (IsAssumedWhereNeeded before) (last_of stmt) []
    (λ needed. asked (sym (last_needs before.options.run stmt (bytes_full bytes stmt spelled)) ∙ needed))
    (All-nil (IsAssumedWhereNeeded before))))

-- ---- one simple statement alone
pub one_alone : (others : List Stmt) (x only : Stmt) → others ++ x ∷ [] ≡ only ∷ [] → (others ≡ []) × (x ≡ only)
one_alone [] x only is = (refl, let e : (x ∷ []) ≡ (only ∷ []) = is in cc)
one_alone (y ∷ []) x only is = let e : (y ∷ x ∷ []) ≡ (only ∷ []) = is in cc
one_alone (y ∷ z ∷ others) x only is = let e : (y ∷ z ∷ (others ++ x ∷ [])) ≡ (only ∷ []) = is in cc

pub one_of : (statements : List Stmt) → length statements ≡ 1 → (only : Stmt) × (statements ≡ only ∷ [])
one_of [] one = absurd (omega (arith, one))
one_of (x ∷ []) one = (x, refl)
one_of (x ∷ y ∷ more) one = absurd (omega (arith, one))

last_binds : (stmt : Stmt) → binds_dollar stmt ≡ false → binds_dollar (last_of stmt) ≡ false
last_binds Empty none = refl
last_binds (Bind name expr) none = none
last_binds (Show expr) none = refl
last_binds (Assume set) none = refl

-- it binds no name that no script has
pub alone_plain : {type : Option TypeView} (before : Moment) (bytes : List ℕ) (statements : List Stmt) (only : Stmt)
    → IsTaken before bytes statements type
    → statements ≡ only ∷ []
    → binds_dollar only ≡ false
alone_plain before bytes statements only taken is =
    let same = one_alone (bindings_of taken.stmt) (last_of taken.stmt) only (sym (flat_ends taken.stmt) ∙ sym taken.simple ∙ is) in
    sym (ap binds_dollar same.1) ∙ last_binds taken.stmt (no_dollar bytes taken.stmt taken.clear.read.spelled).bound
