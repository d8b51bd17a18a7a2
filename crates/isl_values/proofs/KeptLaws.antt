-- Values of names and literals.
use Rattle.std.proofs.Common.{◌≡◌, ◌∙◌, ◌↔◌, inl, refl, sym, ap, subst, ℕ, ℤ, true, false, is_some, List, [], ◌∷◌, ◌++◌, Option, Some, None}
use Rattle.std.proofs.Common.{option_map}
use Rattle.std.specs.Prelude.{not, ◌||◌, unsigned_abs}
use Rattle.std.specs.List.{list_any}
use Rattle.std.specs.Str.{bytes_eq}
use Rattle.std.proofs.lemmas.Bool.{false≢true, or_parts, not-false}
use Rattle.std.proofs.lemmas.List.Elements.{All-head}
use Rattle.std.proofs.lemmas.List.{append-nil}
use Rattle.indexmap.specs.IndexSet.{insert_all, insert_key}
use Rattle.isl_meter.specs.Gauge.{Gauge}
use Rattle.isl_space.specs.Name.{Name}
use Rattle.isl_space.specs.Names.{AreDistinct}
use Rattle.isl_space.specs.Valuation.{Valuation}
use Rattle.isl_space.specs.Element.{Element}
use Rattle.isl_space.proofs.NamesLaws.{inserted}
use Rattle.isl_union.specs.KeptValue.{KeptValue, Has, HasNoDefinitions, IsKeptValue}
use Rattle.isl_refusal.specs.declared.refusal.Refusal.{Refusal}
use Rattle.isl_tree.specs.declared.tree.Literal.{Literal}
use Rattle.isl_tree.specs.Literal.{LiteralHas}
use Rattle.isl_tree.specs.Plain.{is_plain}
use Rattle.isl_tree.specs.Known.{literal_is_known}
use Rattle.isl_lower.specs.Value.{IsLowered, IsWellFormedLiteral}
use Rattle.isl_tree.specs.declared.statement.Expr.{Expr}
use Rattle.isl_tree.specs.declared.statement.Expr as e
use Rattle.isl_kinds.specs.Parts.{parts_of}
use Rattle.isl_kinds.specs.Typed.{TypeView, ScopeView, params_of, has_unknown, bound_to}
use Rattle.isl_state.specs.declared.list.ListPart.{ListPart}
use Rattle.isl_state.specs.declared.list.ListPart.TheVariants.{First, Second}
use Rattle.isl_state.specs.declared.list.ListValue.{ListValue}
use Rattle.isl_assumed.specs.declared.assumed.Assumed.{Assumed}
use Rattle.isl_values.specs.Live.{IsLiveOf}
use Rattle.isl_state.specs.State.{Kept, StateView, kept_of, type_of, scope_of, value_at, HasNumbersUpTo, Fits}
use Rattle.isl_values.specs.Ends.{CutAlone, Ends, GoesOn}
use Rattle.isl_values.specs.Selection.{KeptHas, SelectsAt}
use Rattle.isl_values.specs.Made.{uses_units, IsSoundExpr, IsMadeOf, IsValueOf, IsPaid, IsWhyUnmade, IsWhyUnworked}
use Rattle.isl_values.specs.Three.{AreBothOf, AreKept, IsValueAt}
use Rattle.isl_state.proofs.StateLaws.{bound_at}

-- ---- a list of distinct names, joined to none, is itself
inserted_all : (done rest names : List Name) → AreDistinct names → done ++ rest ≡ names → insert_all bytes_eq done rest ≡ names
inserted_all done [] names distinct is = sym (append-nil done) ∙ is
inserted_all done (name ∷ rest) names distinct is =
    inserted_all (insert_key bytes_eq done name) rest names distinct (inserted names done rest name distinct is)

pub declared_itself : (names : List Name) → AreDistinct names → insert_all bytes_eq [] names ≡ names
declared_itself names distinct = inserted_all [] names names distinct refl

-- ---- a name
module _ (state : StateView) (name : Name) (kept : Kept) (there : kept_of state name ≡ Some kept) where
  type_there : bound_to (scope_of state) name ≡ Some (type_of kept)
  type_there = bound_at state name ∙ ap (option_map type_of) there

  module _ (part : ListPart) where
    selects_there : (valuation : Valuation) (element : Element)
        → Has (value_at part kept) valuation element ↔ SelectsAt state part (e.Name name) valuation element
    selects_there valuation element =
        subst (λ (o : Option Kept). Has (value_at part kept) valuation element ↔ KeptHas part o valuation element) (sym there)
        ((λ h. h), (λ h. h))

    -- the values of what is kept are over one list of parameters, which its type has
    pub name_value : (limit : ℤ) → IsKeptValue (value_at part kept) → (value_at part kept).params ≡ kept.value.params
        → HasNoDefinitions (value_at part kept) → Fits limit state
        → IsValueAt state part (e.Name name) (unsigned_abs limit) (value_at part kept)
    name_value limit sound names plain fits = record {
      written = (kept, there, refl);
      kept = sound;
      params = names ∙ sym (ap params_of type_there ∙ declared_itself kept.value.params
          (subst AreDistinct names sound.params.distinct));
      live = fits.live name kept there part;
      elements = λ v here. selects_there v;
      numbers = fits.numbers name kept there part;
      definitions = λ none. plain;
    }

pub name_makes : (state : StateView) (part : ListPart) (limit : ℤ) (expr : Expr) (name : Name) (kept : Kept) (value : KeptValue)
    → expr ≡ e.Name name → value ≡ value_at part kept → kept_of state name ≡ Some kept → IsKeptValue (value_at part kept)
    → (value_at part kept).params ≡ kept.value.params → HasNoDefinitions (value_at part kept) → Fits limit state
    → IsValueAt state part expr (unsigned_abs limit) value
name_makes state part limit expr name kept value is same there sound names plain fits =
    subst (λ (x : Expr). IsValueAt state part x (unsigned_abs limit) value) (sym is)
    (subst (λ (v : KeptValue). IsValueAt state part (e.Name name) (unsigned_abs limit) v) (sym same)
    (name_value state name kept there part limit sound names plain fits))

-- both parts of what a name stands for
pub name_both : (state : StateView) (limit : ℤ) (expr : Expr) (name : Name) (kept : Kept) (list : ListValue) → expr ≡ e.Name name
    → kept_of state name ≡ Some kept → AreKept kept list → Fits limit state → AreBothOf state expr (unsigned_abs limit) list
name_both state limit expr name kept list is there are fits = (
  name_makes state First limit expr name kept list.first.value is are.first there (are.kept First) (are.params First)
      (are.definitions First) fits,
  name_makes state Second limit expr name kept list.second.value is are.second there (are.kept Second) (are.params Second)
      (are.definitions Second) fits,
)

-- ---- a literal
pub literal_makes : (state : StateView) (part : ListPart) (limit : ℤ) (expr : Expr) (literal : Literal) (value : KeptValue)
    → expr ≡ e.Literal literal → IsWellFormedLiteral literal
    → IsValueOf state.assumed (IsLiveOf state.assumed (IsLowered literal)) literal.params (LiteralHas literal) (unsigned_abs limit)
    (is_plain literal ≡ true) value
    → IsValueAt state part expr (unsigned_abs limit) value
literal_makes state part limit expr literal value is formed made =
    subst (λ (x : Expr). IsValueAt state part x (unsigned_abs limit) value) (sym is)
    (record {
      written = made.written;
      kept = made.kept;
      live = made.live;
      params = made.params ∙ sym (declared_itself literal.params formed.params.distinct);
      elements = made.elements;
      numbers = made.numbers;
      definitions = λ none. absurd (false≢true (sym none));
    })

pub literal_value : (limit : ℕ) (literal : Literal) (value : KeptValue) → IsLowered literal value → IsKeptValue value
    → (is_plain literal ≡ true → HasNoDefinitions value) → HasNumbersUpTo limit value
    → IsMadeOf (IsLowered literal) literal.params (LiteralHas literal) limit (is_plain literal ≡ true) value
literal_value limit literal value is kept plain small =
    record { written = is; kept = kept; params = is.params; elements = is.elements; numbers = small; definitions = plain }

pub literal_paid : (assumed : Assumed) (expr : Expr) (literal : Literal) (g h : Gauge) → expr ≡ e.Literal literal → IsPaid true g h
    → IsPaid (list_any (uses_units assumed) (parts_of expr)) g h
literal_paid assumed expr literal g h is paid = subst (λ (x : Expr). IsPaid (list_any (uses_units assumed) (parts_of x)) g h) (sym is) paid

pub literal_unmade : (state : StateView) (expr : Expr) (literal : Literal) (g h : Gauge) (refusal : Refusal) → expr ≡ e.Literal literal
    → IsWhyUnmade true CutAlone g h refusal
    → IsWhyUnworked (list_any (uses_units state.assumed) (parts_of expr)) (Ends state expr) g h refusal
literal_unmade state expr literal g h refusal is why =
    inl (subst (λ (x : Expr). IsWhyUnmade (list_any (uses_units state.assumed) (parts_of x)) (Ends state x) g h refusal) (sym is) why)

-- a name, or a literal, ends nothing
pub literal_goes_on : (state : StateView) (expr : Expr) (literal : Literal) → expr ≡ e.Literal literal → GoesOn (Ends state expr)
literal_goes_on state expr literal is = subst (λ (x : Expr). GoesOn (Ends state x)) (sym is) (λ reason ends. ends)

pub name_goes_on : (state : StateView) (expr : Expr) (name : Name) → expr ≡ e.Name name → GoesOn (Ends state expr)
name_goes_on state expr name is = subst (λ (x : Expr). GoesOn (Ends state x)) (sym is) (λ reason ends. ends)

-- ---- a name is bound, and a literal known
pub never_unbound : (state : StateView) (name : Name) → kept_of state name ≡ None → ¬ (has_unknown (scope_of state) (e.Name name) ≡ false)
never_unbound state name none known =
    let unbound : bound_to (scope_of state) name ≡ None = bound_at state name ∙ ap (option_map type_of) none in
    false≢true (sym known ∙ ap (λ (o : Option TypeView). not (is_some o) || false) unbound)

pub only_literal : (scope : ScopeView) (expr : Expr) (literal : Literal) → expr ≡ e.Literal literal → IsSoundExpr scope expr
    → (literal_is_known literal ≡ true) × IsWellFormedLiteral literal
only_literal scope expr literal is sound =
    let of_literal = subst (IsSoundExpr scope) is sound in (
      not-false (literal_is_known literal) (or_parts (not (literal_is_known literal)) false of_literal.known).0,
      All-head IsWellFormedLiteral literal [] of_literal.literals,
    )
