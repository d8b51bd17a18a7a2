-- What a statement is refused for before any of it is worked out.
use Rattle.std.proofs.Common.{◌≡◌, ◌∙◌, inl, inr, refl, sym, ap, ap₂}
use Rattle.std.proofs.Common.{Bool, true, false, List, Option, None, Some, Ok}
use Rattle.std.specs.Prelude.{not, ◌&&◌}
use Rattle.std.specs.List.{list_any}
use Rattle.isl_space.specs.Name.{Name}
use Rattle.isl_space.specs.Valuation.{Valuation}
use Rattle.isl_tree.specs.declared.statement.Stmt.{Stmt}
use Rattle.isl_tree.specs.declared.statement.Stmt.TheVariants.{Show}
use Rattle.isl_tree.specs.declared.statement.Expr.{Expr}
use Rattle.isl_refusal.specs.declared.refusal.Refusal.TheVariants as r
use Rattle.isl_kinds.specs.Typed.{TypeView, ScopeView, type_of_statement, Answers as TypeAnswers}
use Rattle.isl_flat.specs.Simple.{statement_declared}
use Rattle.isl_words.specs.Options.{OptionsView}
use Rattle.isl_eval.specs.Asked.{shows_at_numbers}
use Rattle.isl_eval.specs.Causes.{is_given, is_parametric}
use Rattle.isl_eval.specs.Evaluated.{IsTyped}
use Rattle.isl_eval.specs.Evaluation.{names_of, IsWorkable, IsWhyUnworkable}
use Rattle.isl_eval.proofs.TypeLaws.{answered_ok, typed_declares, untyped_declares}

abbrev pub lacks : Valuation → List Name → Bool
lacks at names = list_any (λ name. not (is_given at name)) names

pub parametric-Show : (scope : ScopeView) (options : OptionsView) (stmt : Stmt) (expr : Expr) (declared : List Name) (run a b : Bool)
    (at : Valuation) → stmt ≡ Show expr → declared ≡ statement_declared scope stmt → run ≡ options.run → at ≡ options.at
    → a ≡ shows_at_numbers run expr → b ≡ list_any (λ name. not (is_given at name)) declared → (a && b) ≡ is_parametric scope options stmt
parametric-Show scope options stmt expr declared run a b at is are running there one two =
    ap₂ (λ (p q : Bool). p && q) (one ∙ ap (λ (r : Bool). shows_at_numbers r expr) running)
    (two ∙ ap₂ lacks there (are ∙ ap (statement_declared scope) is))
    ∙ sym (ap (is_parametric scope options) is)

pub ruleset parametric = (parametric-Show)

-- ---- declared parameters
pub declared_is : (scope : ScopeView) (stmt : Stmt) (o : Option TypeView) (names : List Name)
    → TypeAnswers (Ok o) (type_of_statement scope stmt)
    → names ≡ names_of o → names ≡ statement_declared scope stmt
declared_is scope stmt None names typed is = is ∙ sym (untyped_declares scope stmt (answered_ok None (type_of_statement scope stmt) typed))
declared_is scope stmt (Some t) names typed is = is
    ∙ sym (typed_declares scope stmt t (answered_ok (Some t) (type_of_statement scope stmt) typed))

module _ (scope : ScopeView) (options : OptionsView) (stmt : Stmt) (o : Option TypeView) (names : List Name)
    (typed : TypeAnswers (Ok o) (type_of_statement scope stmt))
    (is : names ≡ names_of o) (b : Bool)
    (found : (scope : ScopeView) → names ≡ statement_declared scope stmt → b ≡ is_parametric scope options stmt) where
  has_type : IsTyped scope stmt
  has_type = (o, answered_ok o (type_of_statement scope stmt) typed)

  pub parametric_why : b ≡ true → IsWhyUnworkable scope options stmt r.Parametric
  parametric_why lacking = inr (inl (has_type, sym (found scope (declared_is scope stmt o names typed is)) ∙ lacking, refl))

  pub workable_is : b ≡ false → IsWorkable scope options stmt o
  workable_is given =
      record {
        typed = answered_ok o (type_of_statement scope stmt) typed;
        given = sym (found scope (declared_is scope stmt o names typed is)) ∙ given;
      }
