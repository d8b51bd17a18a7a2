-- What a statement has whose tokens are some text's: what its literals declare and name is what a value may have; what it shows is no row of
-- one operand, and no operand that nothing follows; what it assumes are formulas alone.
use Rattle.std.proofs.Common.{◌≡◌, refl, sym, subst, ℕ, zero, suc, true, false, List, [], ◌∷◌, ◌++◌}
use Rattle.std.specs.List.{All}
use Rattle.std.proofs.lemmas.List.Elements.{All-nil, All-cons, All-head, All-tail, All-append}
use Rattle.isl_token.specs.TokenView.{Token}
use Rattle.isl_token.specs.Token.{IsToken}
use Rattle.isl_token.specs.Spelling as s
use Rattle.isl_token.specs.Spelling.{Grammar}
use Rattle.isl_tree.specs.declared.tree.Literal.{Literal}
use Rattle.isl_text.specs.Literal.{literal_grammar}
use Rattle.isl_text.specs.Formed.{is_formed}
use Rattle.isl_tree.specs.declared.statement.Stmt.{Stmt}
use Rattle.isl_tree.specs.declared.statement.Stmt.TheVariants.{Empty, Bind, Show, Assume}
use Rattle.isl_tree.specs.declared.statement.Link.{Link}
use Rattle.isl_tree.specs.declared.statement.Postfix.{Postfix}
use Rattle.isl_tree.specs.declared.statement.Postfix.TheVariants.{Inverse, Apply, Item}
use Rattle.isl_tree.specs.declared.statement.Expr.{Expr}
use Rattle.isl_tree.specs.declared.statement.Expr.TheVariants as e
use Rattle.isl_tree.specs.Expr.{literals_of, links_literals, postfixes_literals, literals_in_postfix, statement_literals}
use Rattle.isl_tree.proofs.Literals.{literals_of-Prefix, literals_of-Row, literals_of-Post, literals_of-Any, literals_of-Last}
use Rattle.isl_stmt.specs.declared.expression.Flow.{Flow}
use Rattle.isl_stmt.specs.declared.expression.Flow.TheVariants as flow
use Rattle.isl_stmt.specs.declared.operator.Precedence.{Precedence}
use Rattle.isl_stmt.specs.declared.operator.Precedence.TheVariants.{Test, Universal, Sum, Product, Join}
use Rattle.isl_stmt.specs.declared.word.Role.{Role}
use Rattle.isl_stmt.specs.declared.word.Role.TheVariants as role
use Rattle.isl_stmt.specs.Expression.{row_of, post_of, dependence}
use Rattle.isl_stmt.specs.ExpressionGrammar as g
use Rattle.isl_stmt.specs.StatementGrammar as statement
use Rattle.isl_formula.proofs.SpelledLaws.{Has, whatever, pure_has, bind_has, then_has, either_has, many_has}
use Rattle.isl_text.proofs.DivisorLaws.{IsDivided, outline_divided}
use Rattle.isl_formula.specs.FormulaGrammar.{formula}
use Rattle.isl_text.specs.Piece.{make_literal}
use Rattle.isl_eval.specs.Params.{HasNoCoordinates}
use Rattle.isl_text.specs.PsetGrammar.{pset_grammar}
use Rattle.isl_text.specs.PsetGrammar as psets_grammar
use Rattle.isl_text.proofs.PsetSpelled as psets
use Rattle.isl_eval.proofs.NameLaws.{IsNamedLiteral, outline_has, pset_outline_has}
use Rattle.isl_eval.proofs.PlainLaws.{is_lone}
use Rattle.isl_eval.proofs.FullLaws.{lone_of-Row, lone_of-Post, lone_of-Prefix, lone_of-Any, lone_of-Last}

-- a literal by its grammar: named, and formed, with divisors that are at least 1
pub record IsSpelled (literal : Literal) : Type 0 where
  pub named : IsNamedLiteral literal
  pub formed : is_formed literal ≡ true
  pub divided : IsDivided literal

literal_has : (n : ℕ) → Has IsSpelled (literal_grammar n)
literal_has n = record {
  by = λ a ts tokens l. record {
    named = (outline_has n).by a ts tokens l.0;
    formed = l.1;
    divided =
        (outline_divided n).by a ts tokens l.0;
  };
}

-- of formulas alone
AreFormulas : Literal → Type 0
AreFormulas set = All HasNoCoordinates set.pieces

outline_formulas : (n : ℕ) → Has AreFormulas (psets_grammar.outline (formula n))
unfolding AreFormulas
outline_formulas n =
    bind_has (λ _. Unit {0}) AreFormulas _ _ (whatever _) (λ params _. bind_has (All HasNoCoordinates) AreFormulas _ _
    (psets.pieces_have (λ _. Unit {0}) HasNoCoordinates (record { first = refl; second = refl })
    (λ held _. record { first = refl; second = refl }) (formula n) (whatever _))
    (λ found all. pure_has AreFormulas (make_literal params found) all))

SpelledSet : Literal → Type 0
SpelledSet set = IsSpelled set × AreFormulas set

pset_has : (n : ℕ) → Has SpelledSet (pset_grammar n)
unfolding SpelledSet
pset_has n = record {
  by = λ a ts tokens l. (
    record {
      named = (pset_outline_has n).by a ts tokens l.0;
      formed = l.1;
      divided = (psets.outline_divided n).by a ts tokens l.0;
    },
    (outline_formulas n).by a ts tokens l.0,
  );
}

Spelled : List Literal → Type 0
Spelled literals = All IsSpelled literals

Inside : Expr → Type 0
Inside expr = Spelled (literals_of expr) × (is_lone expr ≡ false)

InsideLink : Link → Type 0
InsideLink link = Inside link.operand

InsidePostfix : Postfix → Type 0
InsidePostfix postfix = Spelled (literals_in_postfix postfix)

links_spelled : (links : List Link) → All InsideLink links → Spelled (links_literals links)
unfolding Spelled InsideLink Inside
links_spelled [] h = All-nil IsSpelled
links_spelled (link ∷ links) h =
    All-append IsSpelled (literals_of link.operand) (links_literals links) (All-head InsideLink link links h).0
    (links_spelled links (All-tail InsideLink link links h))

postfixes_spelled : (postfixes : List Postfix) → All InsidePostfix postfixes → Spelled (postfixes_literals postfixes)
unfolding Spelled InsidePostfix
postfixes_spelled [] h = All-nil IsSpelled
postfixes_spelled (postfix ∷ postfixes) h =
    All-append IsSpelled (literals_in_postfix postfix) (postfixes_literals postfixes) (All-head InsidePostfix postfix postfixes h)
    (postfixes_spelled postfixes (All-tail InsidePostfix postfix postfixes h))

row_inside : (first : Expr) (links : List Link) → Inside first → All InsideLink links → Inside (row_of first links)
unfolding Inside Spelled
row_inside first [] one more = one
row_inside first (link ∷ links) one more = (
  subst Spelled (sym (literals_of-Row first (link ∷ links)))
      (All-append IsSpelled (literals_of first) (links_literals (link ∷ links)) one.0 (links_spelled (link ∷ links) more)),
  lone_of-Row first (link ∷ links),
)

post_inside : (operand : Expr) (postfixes : List Postfix) → Inside operand → All InsidePostfix postfixes
    → Inside (post_of operand postfixes)
unfolding Inside Spelled
post_inside operand [] one more = one
post_inside operand (postfix ∷ postfixes) one more = (
  subst Spelled (sym (literals_of-Post operand (postfix ∷ postfixes)))
      (All-append IsSpelled (literals_of operand) (postfixes_literals (postfix ∷ postfixes)) one.0
      (postfixes_spelled (postfix ∷ postfixes) more)),
  lone_of-Post operand (postfix ∷ postfixes),
)

prefix_inside : (word : _) (operand : Expr) → Inside operand → Inside (e.Prefix word operand)
unfolding Inside
prefix_inside word operand one = (subst Spelled (sym (literals_of-Prefix word operand)) one.0, lone_of-Prefix word operand)

flow_inside : (found : Flow) (a b c : Expr) → Inside a → Inside b → Inside c → Inside (dependence found a b c)
unfolding Inside Spelled
flow_inside found a b c x y z = by found
  where
    all : Spelled (literals_of a ++ (literals_of b ++ literals_of c))
    all = All-append IsSpelled (literals_of a) (literals_of b ++ literals_of c) x.0
        (All-append IsSpelled (literals_of b) (literals_of c) y.0 z.0)

    by : (found : Flow) → Inside (dependence found a b c)
    by flow.Any = (subst Spelled (sym (literals_of-Any a b c)) all, lone_of-Any a b c)
    by flow.Last = (subst Spelled (sym (literals_of-Last a b c)) all, lone_of-Last a b c)

name_inside : (name : List ℕ) → Inside (e.Name name)
unfolding Inside Spelled
name_inside name = (All-nil IsSpelled, refl)

literal_inside : (literal : Literal) → IsSpelled literal → Inside (e.Literal literal)
unfolding Inside Spelled
literal_inside literal h = (All-cons IsSpelled literal [] h (All-nil IsSpelled), refl)

inverse_inside : InsidePostfix Inverse
unfolding InsidePostfix Spelled
inverse_inside = All-nil IsSpelled

apply_inside : (argument : Expr) → Inside argument → InsidePostfix (Apply argument)
unfolding InsidePostfix Inside
apply_inside argument h = h.0

item_inside : (number : _) → InsidePostfix (Item number)
unfolding InsidePostfix Spelled
item_inside number = All-nil IsSpelled

-- ---- rows
module _ (p : Precedence) (item : Grammar Expr) (each : Has Inside item) where
  link_has : Has InsideLink (g.link p item)
  unfolding InsideLink
  link_has = bind_has (λ _. Unit {0}) InsideLink _ _ (whatever _)
      (λ binary _. bind_has Inside InsideLink _ _ each (λ operand one. pure_has InsideLink _ one))

  rows_has : Has Inside (g.rows p item)
  rows_has = bind_has Inside Inside _ _ each
      (λ first one. bind_has (All InsideLink) Inside _ _ (many_has InsideLink _ link_has) (λ more all.
      pure_has Inside (row_of first more) (row_inside first more one all)))

expr_has : (pre : Grammar Expr) → Has Inside pre → Has Inside (g.expr_with pre)
expr_has pre h = rows_has Test _ (rows_has Universal _ (rows_has Sum _ (rows_has Product _ (rows_has Join pre h))))

-- ---- operands
module _ (literal : Grammar Literal) (nested : Grammar Expr) (literals : Has IsSpelled literal) (inner : Has Inside nested) where
  enclosed_has : Has Inside (g.enclosed nested)
  enclosed_has = then_has Inside _ _ (bind_has Inside Inside _ _ (expr_has nested inner)
      (λ found one. then_has Inside _ _ (pure_has Inside found one)))

  lone_has : Has Inside g.lone
  lone_has = bind_has (λ _. Unit {0}) Inside _ _ (whatever _) (λ name _. pure_has Inside (e.Name name) (name_inside name))

  whole_has : Has Inside (g.whole_literal literal)
  whole_has = bind_has IsSpelled Inside _ _ literals (λ found one. pure_has Inside (e.Literal found) (literal_inside found one))

  atom_has : Has Inside (g.atom literal nested)
  atom_has = either_has Inside _ _ lone_has (either_has Inside _ _ whole_has enclosed_has)

  postfix_has : Has InsidePostfix (g.postfix nested)
  postfix_has = either_has InsidePostfix _ _ (then_has InsidePostfix _ _ (pure_has InsidePostfix Inverse inverse_inside))
      (either_has InsidePostfix _ _ (bind_has Inside InsidePostfix _ _ enclosed_has
      (λ argument one. pure_has InsidePostfix (Apply argument) (apply_inside argument one)))
      (then_has InsidePostfix _ _ (bind_has (λ _. Unit {0}) InsidePostfix _ _ (whatever _)
      (λ at _. then_has InsidePostfix _ _ (pure_has InsidePostfix (Item at) (item_inside at))))))

  post_has : Has Inside (g.post literal nested)
  post_has = bind_has Inside Inside _ _ atom_has
      (λ operand one. bind_has (All InsidePostfix) Inside _ _ (many_has InsidePostfix _ postfix_has) (λ more all.
      pure_has Inside (post_of operand more) (post_inside operand more one all)))

  flows_has : (first : Role) (found : Flow) → Has Inside (g.flows literal nested first found)
  flows_has first found =
      then_has Inside _ _ (bind_has Inside Inside _ _ post_has
      (λ a x. then_has Inside _ _ (bind_has Inside Inside _ _ post_has (λ b y. then_has Inside _ _
      (bind_has Inside Inside _ _ post_has (λ c z. pure_has Inside (dependence found a b c) (flow_inside found a b c x y z)))))))

  prefixed_has : Has Inside (g.prefixed nested)
  prefixed_has = bind_has (λ _. Unit {0}) Inside _ _ (whatever _) (λ word _. bind_has Inside Inside _ _ inner (λ operand one.
      pure_has Inside (e.Prefix word operand) (prefix_inside word operand one)))

  level_has : Has Inside (g.pre_level literal nested)
  level_has = either_has Inside _ _ prefixed_has
      (either_has Inside _ _ (flows_has role.Any flow.Any) (either_has Inside _ _ (flows_has role.Last flow.Last) post_has))

pre_has : (n : ℕ) → Has Inside (g.pre n)
unfolding g.pre
pre_has zero = record { by = λ a ts h l. absurd l }
pre_has (suc n) = level_has (literal_grammar (suc n)) (g.pre n) (literal_has (suc n)) (pre_has n)

-- ---- statements
abbrev pub FullStmt : Stmt → Type 0
FullStmt (Show expr) = is_lone expr ≡ false
FullStmt (Assume set) = All HasNoCoordinates set.pieces
FullStmt (Bind name expr) = Unit {0}
FullStmt Empty = Unit {0}

InsideStmt : Stmt → Type 0
InsideStmt stmt = Spelled (statement_literals stmt) × FullStmt stmt

empty_inside : InsideStmt Empty
unfolding InsideStmt Spelled
empty_inside = (All-nil IsSpelled, tt)

bind_inside : (name : List ℕ) (expr : Expr) → Inside expr → InsideStmt (Bind name expr)
unfolding InsideStmt Inside
bind_inside name expr h = (h.0, tt)

assume_inside : (set : Literal) → SpelledSet set → InsideStmt (Assume set)
unfolding InsideStmt Spelled SpelledSet AreFormulas
assume_inside set one = (All-cons IsSpelled set [] one.0 (All-nil IsSpelled), one.1)

show_inside : (expr : Expr) → Inside expr → InsideStmt (Show expr)
unfolding InsideStmt Inside
show_inside expr h = h

statement_has : (n : ℕ) → Has InsideStmt (statement.statement_grammar n)
statement_has n =
    let inside = expr_has (g.pre n) (pre_has n) in
    let shows = bind_has Inside InsideStmt _ _ inside (λ expr one. pure_has InsideStmt (Show expr) (show_inside expr one)) in
    either_has InsideStmt _ _ (pure_has InsideStmt Empty empty_inside) (either_has InsideStmt _ _
    (bind_has (λ _. Unit {0}) InsideStmt _ _ (whatever _)
    (λ name _. then_has InsideStmt _ _ (bind_has Inside InsideStmt _ _ inside
    (λ expr one. pure_has InsideStmt (Bind name expr) (bind_inside name expr one)))))
    (either_has InsideStmt _ _ (then_has InsideStmt _ _ shows) (either_has InsideStmt _ _ shows (then_has InsideStmt _ _
    (bind_has SpelledSet InsideStmt (pset_grammar n) _ (pset_has n) (λ set one. pure_has InsideStmt (Assume set) (assume_inside set one)))))))

module _ (stmt : Stmt) (ts : List Token) (tokens : All IsToken ts) (spelled : s.Spells statement.statement_grammar stmt ts) where
  pub literals_spelled : All IsSpelled (statement_literals stmt)
  unfolding InsideStmt Spelled
  literals_spelled = ((statement_has spelled.depth).by stmt ts tokens spelled.spelled).0

  pub full_spelled : FullStmt stmt
  unfolding InsideStmt
  full_spelled = ((statement_has spelled.depth).by stmt ts tokens spelled.spelled).1
