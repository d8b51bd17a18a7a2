-- The names of a statement that bytes spell begin with a letter or `_`.
use Rattle.std.proofs.Common.{◌≡◌, ◌∙◌, ℕ, zero, suc, Bool, true, false, List, [], ◌∷◌, Some, refl, sym, ap, subst}
use Rattle.std.specs.Prelude.{IsTrue}
use Rattle.std.specs.Bool.{nat_eq}
use Rattle.std.specs.List.{All, list_any}
use Rattle.std.proofs.lemmas.Bool.{false≢true, and_parts, eqb-true}
use Rattle.std.proofs.lemmas.List.Elements.{All-head, All-tail}
use Rattle.isl_space.specs.Name.{Name, is_identifier, begins_name}
use Rattle.isl_token.specs.TokenView.{Token}
use Rattle.isl_token.specs.TokenView as token
use Rattle.isl_token.specs.Token.{IsToken}
use Rattle.isl_token.specs.Lex.{tokens}
use Rattle.isl_token.specs.Spelling as s
use Rattle.isl_token.specs.Spelling.{Grammar}
use Rattle.isl_tree.specs.declared.tree.Literal.{Literal}
use Rattle.isl_text.specs.Literal.{literal_grammar}
use Rattle.isl_tree.specs.declared.statement.Stmt.{Stmt}
use Rattle.isl_tree.specs.declared.statement.Stmt.TheVariants.{Empty, Bind, Show, Assume}
use Rattle.isl_tree.specs.declared.statement.Prefix.{Prefix as Word}
use Rattle.isl_tree.specs.declared.statement.Link.{Link}
use Rattle.isl_tree.specs.declared.statement.Postfix.{Postfix}
use Rattle.isl_tree.specs.declared.statement.Postfix.TheVariants.{Inverse, Apply, Item}
use Rattle.isl_tree.specs.declared.statement.Expr.{Expr}
use Rattle.isl_tree.specs.declared.statement.Expr.TheVariants as e
use Rattle.isl_formula.proofs.SpelledLaws.{Has, whatever, pure_has, bind_has, then_has, either_has, many_has}
use Rattle.isl_kinds.specs.Parts.{Part, parts_of, parts_of_links, parts_of_postfix, parts_of_postfixes}
use Rattle.isl_kinds.specs.Typed.{is_dollar}
use Rattle.isl_flat.specs.Simple.{names_dollar}
use Rattle.isl_flat_law.proofs.EachLaws.{Each, each_both, quiet_each, each_Row, each_Post, each_Prefix, each_Any, each_Last}
use Rattle.isl_text.specs.PsetGrammar.{pset_grammar}
use Rattle.isl_stmt.specs.declared.expression.Flow.{Flow}
use Rattle.isl_stmt.specs.declared.expression.Flow.TheVariants as flow
use Rattle.isl_stmt.specs.declared.operator.Precedence.{Precedence}
use Rattle.isl_stmt.specs.declared.operator.Precedence.TheVariants.{Test, Universal, Sum, Product, Join}
use Rattle.isl_stmt.specs.declared.word.Role.{Role}
use Rattle.isl_stmt.specs.declared.word.Role.TheVariants as role
use Rattle.isl_stmt.specs.Expression.{row_of, post_of, dependence}
use Rattle.isl_stmt.specs.ExpressionGrammar as g
use Rattle.isl_stmt.specs.StatementGrammar as statement
use Rattle.isl_stmt.specs.Names.{HasNoDollar}
use Rattle.isl_token.proofs.LexLaws.{lexed}

-- ---- words

-- the name does not begin with `$`
Free : Name → Type 0
Free name = is_dollar name ≡ false

identifier_free : (name : Name) → IsTrue (is_identifier name) → Free name
unfolding Free
identifier_free [] is = refl
identifier_free (byte ∷ others) is = by (nat_eq byte 36) refl
  where
    by : (b : Bool) → nat_eq byte 36 ≡ b → b ≡ false
    by false same = refl
    by true same = absurd (false≢true (sym (ap begins_name (eqb-true byte 36 same)) ∙ (and_parts (begins_name byte) _ is).0))

variable_has : Has Free g.variable
variable_has = record { by = λ n ts h l. identifier_free n (All-head IsToken (token.Word n) [] (subst (All IsToken) l.0 h)) }

-- ---- expressions

-- no part is a name that begins with `$`
Quiet : List Part → Type 0
Quiet ps = Each (λ p. names_dollar p ≡ false) ps

Inside : Expr → Type 0
Inside expr = Quiet (parts_of expr)

InsideLink : Link → Type 0
InsideLink link = Inside link.operand

InsidePostfix : Postfix → Type 0
InsidePostfix postfix = Quiet (parts_of_postfix postfix)

links_quiet : (links : List Link) → All InsideLink links → Quiet (parts_of_links links)
unfolding Quiet Inside InsideLink
links_quiet [] h = tt
links_quiet (link ∷ links) h = (
  refl,
  each_both (λ p. names_dollar p ≡ false) (parts_of link.operand) (parts_of_links links) (All-head InsideLink link links h)
      (links_quiet links (All-tail InsideLink link links h)),
)

postfixes_quiet : (postfixes : List Postfix) → All InsidePostfix postfixes → Quiet (parts_of_postfixes postfixes)
unfolding Quiet InsidePostfix
postfixes_quiet [] h = tt
postfixes_quiet (postfix ∷ postfixes) h =
    each_both (λ p. names_dollar p ≡ false) (parts_of_postfix postfix) (parts_of_postfixes postfixes)
    (All-head InsidePostfix postfix postfixes h) (postfixes_quiet postfixes (All-tail InsidePostfix postfix postfixes h))

row_inside : (first : Expr) (links : List Link) → Inside first → All InsideLink links → Inside (row_of first links)
unfolding Quiet Inside
row_inside first [] one more = one
row_inside first (link ∷ links) one more =
    each_Row (λ p. names_dollar p ≡ false) first (link ∷ links) one (links_quiet (link ∷ links) more)

post_inside : (operand : Expr) (postfixes : List Postfix) → Inside operand → All InsidePostfix postfixes
    → Inside (post_of operand postfixes)
unfolding Quiet Inside
post_inside operand [] one more = one
post_inside operand (postfix ∷ postfixes) one more =
    each_Post (λ p. names_dollar p ≡ false) operand (postfix ∷ postfixes) one (postfixes_quiet (postfix ∷ postfixes) more)

prefix_inside : (word : Word) (operand : Expr) → Inside operand → Inside (e.Prefix word operand)
unfolding Quiet Inside
prefix_inside word operand one = each_Prefix (λ p. names_dollar p ≡ false) word operand refl one

flow_inside : (found : Flow) (a b c : Expr) → Inside a → Inside b → Inside c → Inside (dependence found a b c)
unfolding Quiet Inside
flow_inside flow.Any a b c x y z = each_Any (λ p. names_dollar p ≡ false) a b c refl x y z
flow_inside flow.Last a b c x y z = each_Last (λ p. names_dollar p ≡ false) a b c refl x y z

name_inside : (name : Name) → Free name → Inside (e.Name name)
unfolding Quiet Inside Free
name_inside name free = (free, tt)

literal_inside : (literal : Literal) → Inside (e.Literal literal)
unfolding Quiet Inside
literal_inside literal = (refl, tt)

inverse_inside : InsidePostfix Inverse
unfolding Quiet InsidePostfix
inverse_inside = (refl, tt)

apply_inside : (argument : Expr) → Inside argument → InsidePostfix (Apply argument)
unfolding Quiet InsidePostfix Inside
apply_inside argument h = (refl, h)

item_inside : (number : _) → InsidePostfix (Item number)
unfolding Quiet InsidePostfix
item_inside number = (refl, tt)

-- ---- rows

module _ (p : Precedence) (item : Grammar Expr) (each : Has Inside item) where
  link_has : Has InsideLink (g.link p item)
  unfolding InsideLink
  link_has =
      bind_has (λ _. Unit {0}) InsideLink _ _ (whatever _)
      (λ binary _. bind_has Inside InsideLink _ _ each (λ operand one. pure_has InsideLink _ one))

  rows_has : Has Inside (g.rows p item)
  rows_has =
      bind_has Inside Inside _ _ each (λ first one. bind_has (All InsideLink) Inside _ _ (many_has InsideLink _ link_has) (λ more all.
      pure_has Inside (row_of first more) (row_inside first more one all)))

expr_has : (pre : Grammar Expr) → Has Inside pre → Has Inside (g.expr_with pre)
expr_has pre h = rows_has Test _ (rows_has Universal _ (rows_has Sum _ (rows_has Product _ (rows_has Join pre h))))

-- ---- operands

module _ (literal : Grammar Literal) (nested : Grammar Expr) (inner : Has Inside nested) where
  enclosed_has : Has Inside (g.enclosed nested)
  enclosed_has =
      then_has Inside _ _ (bind_has Inside Inside _ _ (expr_has nested inner)
      (λ found one. then_has Inside _ _ (pure_has Inside found one)))

  lone_has : Has Inside g.lone
  lone_has = bind_has Free Inside _ _ variable_has (λ name free. pure_has Inside (e.Name name) (name_inside name free))

  whole_has : Has Inside (g.whole_literal literal)
  whole_has =
      bind_has (λ _. Unit {0}) Inside _ _ (whatever _) (λ found _. pure_has Inside (e.Literal found) (literal_inside found))

  atom_has : Has Inside (g.atom literal nested)
  atom_has = either_has Inside _ _ lone_has (either_has Inside _ _ whole_has enclosed_has)

  postfix_has : Has InsidePostfix (g.postfix nested)
  postfix_has =
      either_has InsidePostfix _ _ (then_has InsidePostfix _ _ (pure_has InsidePostfix Inverse inverse_inside))
      (either_has InsidePostfix _ _
      (bind_has Inside InsidePostfix _ _ enclosed_has (λ argument one. pure_has InsidePostfix (Apply argument) (apply_inside argument one)))
      (then_has InsidePostfix _ _ (bind_has (λ _. Unit {0}) InsidePostfix _ _ (whatever _)
      (λ at _. then_has InsidePostfix _ _ (pure_has InsidePostfix (Item at) (item_inside at))))))

  post_has : Has Inside (g.post literal nested)
  post_has =
      bind_has Inside Inside _ _ atom_has (λ operand one. bind_has (All InsidePostfix) Inside _ _ (many_has InsidePostfix _ postfix_has)
      (λ more all. pure_has Inside (post_of operand more) (post_inside operand more one all)))

  flows_has : (first : Role) (found : Flow) → Has Inside (g.flows literal nested first found)
  flows_has first found =
      then_has Inside _ _ (bind_has Inside Inside _ _ post_has (λ a x. then_has Inside _ _ (bind_has Inside Inside _ _ post_has (λ b y.
      then_has Inside _ _ (bind_has Inside Inside _ _ post_has (λ c z.
      pure_has Inside (dependence found a b c) (flow_inside found a b c x y z)))))))

  prefixed_has : Has Inside (g.prefixed nested)
  prefixed_has =
      bind_has (λ _. Unit {0}) Inside _ _ (whatever _) (λ word _. bind_has Inside Inside _ _ inner (λ operand one.
      pure_has Inside (e.Prefix word operand) (prefix_inside word operand one)))

  level_has : Has Inside (g.pre_level literal nested)
  level_has =
      either_has Inside _ _ prefixed_has (either_has Inside _ _ (flows_has role.Any flow.Any)
      (either_has Inside _ _ (flows_has role.Last flow.Last) post_has))

pre_has : (n : ℕ) → Has Inside (g.pre n)
unfolding g.pre
pre_has zero = record { by = λ a ts h l. absurd l }
pre_has (suc n) = level_has (literal_grammar (suc n)) (g.pre n) (pre_has n)

-- ---- statements

quiet_is : (expr : Expr) → Inside expr → list_any names_dollar (parts_of expr) ≡ false
unfolding Quiet Inside
quiet_is expr h = quiet_each names_dollar (parts_of expr) h

bind_free : (name : Name) (expr : Expr) → Free name → Inside expr → HasNoDollar (Bind name expr)
unfolding Free
bind_free name expr free h = record { inside = quiet_is expr h; bound = free }

assume_free : (set : Literal) → HasNoDollar (Assume set)
assume_free set = record { inside = refl; bound = refl }

show_free : (expr : Expr) → Inside expr → HasNoDollar (Show expr)
show_free expr h = record { inside = quiet_is expr h; bound = refl }

statement_has : (n : ℕ) → Has HasNoDollar (statement.statement_grammar n)
statement_has n =
    let inside = expr_has (g.pre n) (pre_has n) in
    let shows = bind_has Inside HasNoDollar _ _ inside (λ expr one. pure_has HasNoDollar (Show expr) (show_free expr one)) in
    let assumes =
    bind_has (λ _. Unit {0}) HasNoDollar (pset_grammar n) _ (whatever _) (λ set _. pure_has HasNoDollar (Assume set) (assume_free set)) in
    either_has HasNoDollar _ _ (pure_has HasNoDollar Empty (record { inside = refl; bound = refl })) (either_has HasNoDollar _ _
    (bind_has Free HasNoDollar _ _ variable_has (λ name free. then_has HasNoDollar _ _ (bind_has Inside HasNoDollar _ _ inside
    (λ expr one. pure_has HasNoDollar (Bind name expr) (bind_free name expr free one)))))
    (either_has HasNoDollar _ _ (then_has HasNoDollar _ _ shows) (either_has HasNoDollar _ _ shows (then_has HasNoDollar _ _ assumes))))

-- What tokens of a text spell has no name that begins with `$`.
pub tokens_spell_no_dollar : (stmt : Stmt) (ts : List Token) → All IsToken ts → s.Spells statement.statement_grammar stmt ts
    → HasNoDollar stmt
tokens_spell_no_dollar stmt ts are spelled = (statement_has spelled.depth).by stmt ts are spelled.spelled

pub bytes_spell_no_dollar : (bytes : List ℕ) (stmt : Stmt) (ts : List Token) → tokens bytes ≡ Some ts
    → s.Spells statement.statement_grammar stmt ts → HasNoDollar stmt
bytes_spell_no_dollar bytes stmt ts cut spelled = tokens_spell_no_dollar stmt ts (lexed bytes ts cut) spelled
