-- What the bytes of a statement are taken for: its simple statements, or a refusal.
use Rattle.std.proofs.Common.{◌≡◌, sym, ap, subst, ◌≤◌, ◌^◌, ℕ, List, Option, length}
use Rattle.isl_meter.specs.Gauge.{Gauge}
use Rattle.isl_refusal.specs.declared.refusal.Refusal.{Refusal}
use Rattle.isl_refusal.specs.declared.refusal.Refusal.TheVariants as r
use Rattle.isl_tree.specs.declared.statement.Stmt.{Stmt}
use Rattle.isl_kinds.specs.Typed.{ScopeView, TypeView}
use Rattle.isl_flat.specs.Flat.{flat}
use Rattle.isl_words.specs.Options.{OptionsView}
use Rattle.isl_values.specs.State.{Moment, StateView, scope_of}
use Rattle.isl_eval.specs.Causes.{Refuses}
use Rattle.isl_eval.specs.Ended.{IsAssumedWhereNeeded}
use Rattle.isl_eval.specs.Evaluation.{IsClearStatement, IsRead, IsTaken, IsWhyNot, IsWhyUnasked, IsWhyUnworkable, IsWorkable}
use Rattle.isl_eval.proofs.ChainLaws.{asked_each, evaluable}
use Rattle.isl_eval.proofs.RefusalLaws.{memory_refuses, unasked_refuses, unread_refuses, unworkable_refuses}
use Rattle.isl_eval.proofs.MomentLaws.{moment_of}

module _ (before : Moment) (state : StateView) (meter : Gauge) (options : OptionsView) (bytes : List ℕ)
    (here : before ≡ moment_of state meter options) where
  pub same_meter : before.meter ≡ meter
  same_meter = ap (λ (m : Moment). m.meter) here

  scope_here : (scope : ScopeView) → scope ≡ scope_of state → scope ≡ scope_of before.state
  scope_here scope is = subst (λ (m : Moment). scope ≡ scope_of m.state) (sym here) is

  pub clear_statement : (stmt : Stmt) (type : Option TypeView) (scope : ScopeView) → IsRead before bytes stmt → scope ≡ scope_of state
      → IsWorkable scope options stmt type → IsClearStatement before bytes stmt type
  clear_statement stmt type scope read is able = record {
    read = read;
    able = subst (λ (m : Moment). IsWorkable (scope_of m.state) m.options stmt type) (sym here)
        (subst (λ (s : ScopeView). IsWorkable s options stmt type) is able);
  }

  pub taken : {type : Option TypeView} (stmt : Stmt) (statements : List Stmt) → IsClearStatement before bytes stmt type
      → IsAssumedWhereNeeded (moment_of state meter options) stmt
      → statements ≡ flat stmt → length statements ≤ 2 ^ 64 → IsTaken before bytes statements type
  taken stmt statements clear asked simple short =
      let asks : IsAssumedWhereNeeded before stmt = subst (λ (m : Moment). IsAssumedWhereNeeded m stmt) (sym here) asked in
      record {
        stmt = stmt;
        clear = clear;
        asked = asks;
        simple = simple;
        ready = evaluable before bytes stmt statements clear simple short;
        each = asked_each before bytes stmt statements clear.read.spelled simple asks;
      }

  pub unasked : {type : Option TypeView} (stmt : Stmt) (now : Gauge) (refusal : Refusal) → IsClearStatement before bytes stmt type
      → IsWhyUnasked (moment_of state meter options) stmt now refusal → Refuses before bytes now refusal
  unasked stmt now refusal clear why =
      unasked_refuses before bytes stmt clear.read clear.able now refusal
      (subst (λ (m : Moment). IsWhyUnasked m stmt now refusal) (sym here) why)

  at_meter : (refusal : Refusal) → Refuses before bytes before.meter refusal → Refuses before bytes meter refusal
  at_meter refusal h = subst (λ (g : Gauge). Refuses before bytes g refusal) same_meter h

  pub unread : (refusal : Refusal) → IsWhyNot before bytes refusal → Refuses before bytes meter refusal
  unread refusal why = at_meter refusal (unread_refuses before bytes refusal why)

  pub unworkable : (stmt : Stmt) (scope : ScopeView) (refusal : Refusal) → IsRead before bytes stmt → scope ≡ scope_of state
      → IsWhyUnworkable scope options stmt refusal
      → Refuses before bytes meter refusal
  unworkable stmt scope refusal read is why =
      at_meter refusal (unworkable_refuses before bytes stmt read refusal
      (subst (λ (m : Moment). IsWhyUnworkable (scope_of m.state) m.options stmt refusal) (sym here)
      (subst (λ (s : ScopeView). IsWhyUnworkable s options stmt refusal) is why)))

  pub memory : (refusal : Refusal) → refusal ≡ r.NoMemory → Refuses before bytes meter refusal
  memory refusal is = memory_refuses before bytes meter (sym same_meter) refusal is
