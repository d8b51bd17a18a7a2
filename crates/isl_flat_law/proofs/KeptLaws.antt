-- What flattening keeps of an expression, and what it makes of it.
use mathlib.Core.Former.{Count}
use Rattle.std.proofs.Common.{◌≡◌, ◌∙◌, ◌+◌, ◌≤◌, ◌⊎◌, inl, inr, ℕ, suc, Bool, true, false, List, [], ◌∷◌, ◌++◌, length}
use Rattle.std.proofs.Common.{refl, sym, ap, subst, arith, if◌then◌else◌}
use Rattle.std.specs.List.{All, list_any}
use Rattle.std.proofs.lemmas.Bool.{false≢true}
use Rattle.std.proofs.lemmas.List.{length-append}
use Rattle.std.proofs.lemmas.List.Elements.{All-nil, All-cons, All-append}
use Rattle.isl_space.specs.Name.{Name}
use Rattle.isl_tree.specs.declared.statement.Binary.{Binary}
use Rattle.isl_tree.specs.declared.statement.Binary.TheVariants.{Gist}
use Rattle.isl_tree.specs.declared.statement.Prefix.{Prefix as Word}
use Rattle.isl_tree.specs.declared.statement.Prefix.TheVariants.{Sample}
use Rattle.isl_tree.specs.declared.tree.Literal.{Literal}
use Rattle.isl_tree.specs.declared.statement.Stmt.{Stmt}
use Rattle.isl_tree.specs.declared.statement.Stmt.TheVariants.{Empty, Bind, Show, Assume}
use Rattle.isl_tree.specs.declared.statement.Link.{Link}
use Rattle.isl_tree.specs.declared.statement.Postfix.{Postfix, Inverse, Apply, Item}
use Rattle.isl_tree.specs.declared.statement.Expr as e
use Rattle.isl_tree.specs.declared.statement.Expr.{Expr, Row', Prefix', Any', Last', Post', Row_of-Expr, end_of-Expr, more_of-Expr}
use Rattle.isl_tree.specs.declared.statement.Expr.{Row_of-Link, end_of-Link, more_of-Link, Row_of-Postfix, end_of-Postfix, more_of-Postfix}
use Rattle.isl_kinds.specs.Parts.{Part, parts_of, parts_in, parts_in_links, parts_in_postfixes, parts_of_postfix, parts_of_links}
use Rattle.isl_kinds.specs.Parts.{parts_of_postfixes, parts_of_statement}
use Rattle.isl_kinds.specs.Parts as part
use Rattle.isl_flat.specs.declared.flattening.Standing.{Standing}
use Rattle.isl_flat.specs.declared.flattening.Standing.TheVariants.{Outermost, Inside}
use Rattle.isl_flat.specs.Flat.{Flattened, Partial, Followed, dollar, bound, is_name, named, is_gist, is_gist_alone, is_chosen, settled}
use Rattle.isl_flat.specs.Flat.{whole, begun, settled_row, link_of, gist, with_link, ended, names_operand, operand_of, behind_word}
use Rattle.isl_flat.specs.Flat.{followed_by, behind, unfollowed, flattened, nested_in, past_links, past_postfixes, nested_postfix, nested}
use Rattle.isl_flat.specs.Flat.{outermost, flat}
use Rattle.isl_flat.specs.Simple.{chooses, IsSimpleExpr, BindFrom, bindings_of}
use Rattle.isl_flat.proofs.FlatLaws.{is_chosen-Row, is_chosen-Prefix}
use Rattle.isl_flat_law.proofs.EachLaws.{Each, each_weaker, each_zip, each_quiet, quiet_each, each_left, each_right, each_Row}
use Rattle.isl_flat_law.proofs.EachLaws.{each_Post, each_Prefix, each_Any, each_Last, each_link, each_postfix}

-- ---- names

pub is_the_name : (expr : Expr) → is_name expr ≡ true → (name : Name) × (expr ≡ e.Name name)
is_the_name (e.Name name) is = (name, refl)
is_the_name _ is = absurd (false≢true is)

pub gist_or_not : (operator : Binary) → (operator ≡ Gist) ⊎ ((is_gist operator ≡ false) × (chooses (part.operator operator) ≡ false))
gist_or_not Gist = inl refl
gist_or_not _ = inr (refl, refl)

pub sample_or_not : (word : Word) → (word ≡ Sample) ⊎ (chooses (part.prefix word) ≡ false)
sample_or_not Sample = inl refl
sample_or_not _ = inr refl

-- What parts have after so many bindings: they keep it, the last dollar name has it, and so has the name of nothing.
pub record IsSteady (Q : ℕ → Part → Type 0) : Type 0 where
  pub up : (j k : ℕ) (p : Part) → j ≤ k → Q j p → Q k p
  pub new : (k : ℕ) → Q k (part.name (dollar k))
  pub blank : Q 0 (part.name [])

module _ (Q : ℕ → Part → Type 0) (steady : IsSteady Q) where
  -- nothing is chosen in it
  abbrev pub Calm : ℕ → List Part → Type 0
  Calm k ps = Each (λ p. Q k p × (chooses p ≡ false)) ps

  abbrev pub IsCalm : ℕ → Expr → Type 0
  IsCalm k expr = Calm k (parts_of expr)

  abbrev pub IsPlain : ℕ → Expr → Type 0
  IsPlain k expr = Each (Q k) (parts_of expr) × IsSimpleExpr expr

  -- the statements behind so many bindings are bindings too, each of the next name
  abbrev pub Fine : ℕ → List Stmt → Type 0
  Fine n [] = Unit {0}
  Fine n (Bind name expr ∷ rest) = (name ≡ dollar (suc n)) × IsPlain n expr × Fine (suc n) rest
  Fine n (_ ∷ rest) = ⊥

  -- what is made behind statements
  pub record Made (E : ℕ → Expr → Type 0) (old : List Stmt) (f : Flattened) : Type 0 where
    pub fine : Fine 0 f.0
    pub more : length old ≤ length f.0
    pub expr : E (length f.0) f.1

  pub calm_up : (j k : ℕ) (ps : List Part) → j ≤ k → Calm j ps → Calm k ps
  calm_up j k ps low calm =
      each_weaker (λ p. Q j p × (chooses p ≡ false)) (λ p. Q k p × (chooses p ≡ false)) (λ p h. (steady.up j k p low h.0, h.1)) ps calm

  each_up : (j k : ℕ) (ps : List Part) → j ≤ k → Each (Q j) ps → Each (Q k) ps
  each_up j k ps low all = each_weaker (Q j) (Q k) (λ p h. steady.up j k p low h) ps all

  calm_plain : (k : ℕ) (expr : Expr) → IsCalm k expr → IsPlain k expr
  calm_plain k expr calm = (
    each_weaker (λ p. Q k p × (chooses p ≡ false)) (Q k) (λ p h. h.0) (parts_of expr) calm,
    inl (quiet_each chooses (parts_of expr)
        (each_weaker (λ p. Q k p × (chooses p ≡ false)) (λ p. chooses p ≡ false) (λ p h. h.1) (parts_of expr) calm)),
  )

  -- ---- bindings

  fine_with : (n k : ℕ) (old : List Stmt) (expr : Expr) → k ≡ n + length old → Fine n old → IsPlain k expr
      → Fine n (old ++ Bind (dollar (k + 1)) expr ∷ [])
  fine_with n k [] expr is fine plain =
      let same : k ≡ n = omega (arith, is) in
      let next : k + 1 ≡ suc n = omega (arith, is) in
      (ap dollar next, subst (λ (j : ℕ). IsPlain j expr) same plain, tt)
  fine_with n k (Bind name first ∷ old) expr is fine plain =
      (fine.0, fine.1, fine_with (suc n) k old expr (omega (arith, is)) fine.2 plain)
  fine_with n k (Empty ∷ old) expr is fine plain = absurd fine
  fine_with n k (Show first ∷ old) expr is fine plain = absurd fine
  fine_with n k (Assume set ∷ old) expr is fine plain = absurd fine

  pub bound_made : (old : List Stmt) (f : Flattened) → Made IsPlain old f → Made IsCalm old (bound f)
  bound_made old f made =
      let size = length-append f.0 (Bind (dollar (length f.0 + 1)) f.1 ∷ []) in record {
        fine = fine_with 0 (length f.0) f.0 f.1 (omega arith) made.fine made.expr;
        more = omega (arith, size, made.more);
        expr = (
          (
            steady.up (length f.0 + 1) (length (bound f).0) (part.name (dollar (length f.0 + 1))) (omega (arith, size))
                (steady.new (length f.0 + 1)),
            refl,
          ),
          tt,
        );
      }

  -- a name, in which nothing is chosen
  abbrev pub IsCalmName : ℕ → Expr → Type 0
  IsCalmName k expr = IsCalm k expr × ((name : Name) × (expr ≡ e.Name name))

  plain_of_calm : (old : List Stmt) (f : Flattened) → Made IsCalm old f → Made IsPlain old f
  plain_of_calm old f made = record { fine = made.fine; more = made.more; expr = calm_plain (length f.0) f.1 made.expr }

  pub named_made : (old : List Stmt) (f : Flattened) → Made IsCalm old f → Made IsCalmName old (named f)
  named_made old f made = by (is_name f.1) refl
    where
      by : (b : Bool) → is_name f.1 ≡ b → Made IsCalmName old (if b then f else bound f)
      by true is = record { fine = made.fine; more = made.more; expr = (made.expr, is_the_name f.1 is) }
      by false is =
          let behind = bound_made old f (plain_of_calm old f made) in
          record { fine = behind.fine; more = behind.more; expr = (behind.expr, (dollar (length f.0 + 1), refl)) }

  -- what is not chosen has nothing that is
  unchosen : (k : ℕ) (expr : Expr) → is_chosen expr ≡ false → IsPlain k expr → IsCalm k expr
  unchosen k expr is plain = elim plain.1 [
    | inl quiet ↦ each_zip (Q k) (λ p. chooses p ≡ false) (parts_of expr) plain.0 (each_quiet chooses (parts_of expr) quiet)
    | inr choice ↦ absurd (elim choice [
      | inl s ↦ false≢true (sym is ∙ ap is_chosen s.1 ∙ is_chosen-Prefix Sample (e.Name s.0))
      | inr g ↦ false≢true (sym is ∙ ap is_chosen g.2 ∙ is_chosen-Row (e.Name g.0) (link_of Gist (e.Name g.1) ∷ []))
    ])
  ]

  pub settled_made : (old : List Stmt) (f : Flattened) → Made IsPlain old f → Made IsCalm old (settled f)
  settled_made old f made = by (is_chosen f.1) refl
    where
      by : (b : Bool) → is_chosen f.1 ≡ b → Made IsCalm old (if b then bound f else f)
      by true is = bound_made old f made
      by false is = record { fine = made.fine; more = made.more; expr = unchosen (length f.0) f.1 is made.expr }

  -- ---- rows

  -- nothing is chosen in its operands, or it is a `%` of two names
  pub record IsGistOf (k : ℕ) (p : Partial) : Type 0 where
    pub left : Name
    pub right : Name
    pub first : p.first ≡ e.Name left
    pub links : p.links ≡ link_of Gist (e.Name right) ∷ []
    pub parts : Each (Q k) (part.name left ∷ part.operator Gist ∷ part.name right ∷ [])

  pub record IsCalmRow (k : ℕ) (p : Partial) : Type 0 where
    pub first : IsCalm k p.first
    pub links : Calm k (parts_of_links p.links)

  abbrev pub IsRow : ℕ → Partial → Type 0
  IsRow k p = IsCalmRow k p ⊎ IsGistOf k p

  pub record MadeRow (R : ℕ → Partial → Type 0) (old : List Stmt) (p : Partial) : Type 0 where
    pub fine : Fine 0 p.statements
    pub more : length old ≤ length p.statements
    pub row : R (length p.statements) p

  pub calm_whole : (k : ℕ) (first : Expr) (links : List Link) → IsCalm k first → Calm k (parts_of_links links)
      → IsCalm k (whole first links)
  calm_whole k first [] one more = one
  calm_whole k first (link ∷ links) one more = each_Row (λ p. Q k p × (chooses p ≡ false)) first (link ∷ links) one more

  gist_plain : (k : ℕ) (p : Partial) → IsGistOf k p → IsPlain k (whole p.first p.links)
  gist_plain k p g =
      let links = link_of Gist (e.Name g.right) ∷ [] in
      let is : whole p.first p.links ≡ e.Row (e.Name g.left) links =
      ap (λ (x : Expr). whole x p.links) g.first ∙ ap (whole (e.Name g.left)) g.links in (
        subst (λ (x : Expr). Each (Q k) (parts_of x)) (sym is)
            (each_Row (Q k) (e.Name g.left) links (g.parts.0, tt) g.parts.1),
        inr (inr (g.left, g.right, is)),
      )

  pub whole_plain : (k : ℕ) (p : Partial) → IsRow k p → IsPlain k (whole p.first p.links)
  whole_plain k p row = elim row [
    | inl calm ↦ calm_plain k (whole p.first p.links) (calm_whole k p.first p.links calm.first calm.links)
    | inr g ↦ gist_plain k p g
  ]

  pub ended_made : (old : List Stmt) (p : Partial) → MadeRow IsRow old p → Made IsPlain old (ended p)
  ended_made old p made = record { fine = made.fine; more = made.more; expr = whole_plain (length p.statements) p made.row }

  pub begun_made : (old : List Stmt) (f : Flattened) → Made IsCalm old f → MadeRow IsCalmRow old (begun f)
  begun_made old f made = record { fine = made.fine; more = made.more; row = record { first = made.expr; links = tt } }

  no_gist : (k : ℕ) (p : Partial) → is_gist_alone p.links ≡ false → IsRow k p → IsCalmRow k p
  no_gist k p is row = elim row [
    | inl calm ↦ calm
    | inr g ↦ absurd (false≢true (sym is ∙ ap is_gist_alone g.links))
  ]

  pub settled_row_made : (old : List Stmt) (p : Partial) → MadeRow IsRow old p → MadeRow IsCalmRow old (settled_row p)
  settled_row_made old p made = by (is_gist_alone p.links) refl
    where
      by : (b : Bool) → is_gist_alone p.links ≡ b
          → MadeRow IsCalmRow old (if b then begun (bound (p.statements, whole p.first p.links)) else p)
      by true is =
          begun_made old (bound (p.statements, whole p.first p.links)) (bound_made old (p.statements, whole p.first p.links)
          (ended_made old p made))
      by false is = record { fine = made.fine; more = made.more; row = no_gist (length p.statements) p is made.row }

  pub gist_made : (old so_far : List Stmt) (left right : Expr) → length old ≤ length so_far → Fine 0 so_far → Q 0 (part.operator Gist)
      → IsCalm (length so_far) left → IsCalm (length so_far) right → MadeRow IsRow old (gist left right so_far)
  gist_made old so_far left right low fine allowed one two =
      let l = named_made so_far (so_far, left) (record { fine = fine; more = omega arith; expr = one }) in
      let so_far_l = (named (so_far, left)).0 in
      let r = named_made so_far_l (so_far_l, right)
      (record { fine = l.fine; more = omega arith; expr = calm_up (length so_far) (length so_far_l) (parts_of right) l.more two }) in
      let so_far_r = (named (so_far_l, right)).0 in
      let k = length so_far_r in
      let l_parts : Calm k (part.name l.expr.1.0 ∷ []) = calm_up (length so_far_l) k (part.name l.expr.1.0 ∷ []) r.more
      (subst (λ (x : Expr). IsCalm (length so_far_l) x) l.expr.1.1 l.expr.0) in
      let r_parts : Calm k (part.name r.expr.1.0 ∷ []) = subst (λ (x : Expr). IsCalm k x) r.expr.1.1 r.expr.0 in record {
        fine = r.fine;
        more = omega (arith, low, l.more, r.more);
        row = inr (record {
          left = l.expr.1.0;
          right = r.expr.1.0;
          first = l.expr.1.1;
          links = ap (λ (x : Expr). link_of Gist x ∷ []) r.expr.1.1;
          parts = (l_parts.0.0, (steady.up 0 k (part.operator Gist) (omega arith) allowed, (r_parts.0.0, tt)));
        });
      }

  pub with_link_made : (old : List Stmt) (operator : Binary) (p : Partial) (f : Flattened) → MadeRow IsCalmRow old p
      → Made IsCalm p.statements f → Q 0 (part.operator operator) → MadeRow IsRow old (with_link operator p f)
  with_link_made old operator p f row made allowed = by (gist_or_not operator)
    where
      first_up : IsCalm (length f.0) p.first
      first_up = calm_up (length p.statements) (length f.0) (parts_of p.first) made.more row.row.first

      links_up : Calm (length f.0) (parts_of_links p.links)
      links_up = calm_up (length p.statements) (length f.0) (parts_of_links p.links) made.more row.row.links

      low : length old ≤ length f.0
      low = omega (arith, row.more, made.more)

      by : (operator ≡ Gist) ⊎ ((is_gist operator ≡ false) × (chooses (part.operator operator) ≡ false))
          → MadeRow IsRow old (with_link operator p f)
      by (inl is) =
          subst (λ (o : Binary). MadeRow IsRow old (with_link o p f)) (sym is)
          (gist_made old f.0 (whole p.first p.links) f.1 low made.fine (subst (λ (o : Binary). Q 0 (part.operator o)) is allowed)
          (calm_whole (length f.0) p.first p.links first_up links_up) made.expr)
      by (inr other) =
          subst (λ (b : Bool). MadeRow IsRow old (if b then gist (whole p.first p.links) f.1 f.0
          else record { statements = f.0; first = p.first; links = p.links ++ link_of operator f.1 ∷ [] })) (sym other.0)
          (record {
            fine = made.fine;
            more = low;
            row = inl (record {
              first = first_up;
              links = each_link (λ q. Q (length f.0) q × (chooses q ≡ false)) p.links (link_of operator f.1) links_up
                  (steady.up 0 (length f.0) (part.operator operator) (omega arith) allowed, other.1) made.expr;
            });
          })

  pub row_of_calm : (old : List Stmt) (p : Partial) → MadeRow IsCalmRow old p → MadeRow IsRow old p
  row_of_calm old p made = record { fine = made.fine; more = made.more; row = inl made.row }

  -- ---- words, and what follows an operand

  pub operand_made : (old : List Stmt) (standing : Standing) (word : Word) (f : Flattened) → Made IsCalm old f
      → Made IsCalm old (operand_of standing word f)
  operand_made old standing word f made = by (names_operand standing word)
    where
      by : (b : Bool) → Made IsCalm old (if b then named f else f)
      by true = let n = named_made old f made in record { fine = n.fine; more = n.more; expr = n.expr.0 }
      by false = made

  pub word_made : (old : List Stmt) (standing : Standing) (word : Word) (f : Flattened) → Made IsCalm old f → Q 0 (part.prefix word)
      → Made IsPlain old (behind_word word (operand_of standing word f))
  word_made old standing word f made allowed = by (sample_or_not word)
    where
      of_name : Q 0 (part.prefix Sample) → Made IsPlain old (behind_word Sample (named f))
      of_name here =
          let n = named_made old f made in
          let k = length (named f).0 in record {
            fine = n.fine;
            more = n.more;
            expr = (
              each_Prefix (Q k) Sample (named f).1 (steady.up 0 k (part.prefix Sample) (omega arith) here)
                  (calm_plain k (named f).1 n.expr.0).0,
              inr (inl (n.expr.1.0, ap (e.Prefix Sample) n.expr.1.1)),
            );
          }

      by : (word ≡ Sample) ⊎ (chooses (part.prefix word) ≡ false) → Made IsPlain old (behind_word word (operand_of standing word f))
      by (inl is) =
          subst (λ (w : Word). Made IsPlain old (behind_word w (operand_of standing w f))) (sym is)
          (of_name (subst (λ (w : Word). Q 0 (part.prefix w)) is allowed))
      by (inr quiet) =
          let g = operand_of standing word f in
          let o = operand_made old standing word f made in
          let k = length g.0 in
          plain_of_calm old (behind_word word g) (record {
            fine = o.fine;
            more = o.more;
            expr = each_Prefix (λ p. Q k p × (chooses p ≡ false)) word g.1
                (steady.up 0 k (part.prefix word) (omega arith) allowed, quiet) o.expr;
          })

  pub record MadePost (old : List Stmt) (p : Followed) : Type 0 where
    pub fine : Fine 0 p.statements
    pub more : length old ≤ length p.statements
    pub parts : Calm (length p.statements) (parts_of_postfixes p.postfixes)

  pub behind_made : (old : List Stmt) (f : Flattened) (p : Followed) → Made IsCalm old f → MadePost f.0 p → Made IsPlain old (behind f.1 p)
  behind_made old f p made post =
      let k = length p.statements in
      plain_of_calm old (behind f.1 p) (record {
        fine = post.fine;
        more = omega (arith, made.more, post.more);
        expr = each_Post (λ q. Q k q × (chooses q ≡ false)) f.1 p.postfixes (calm_up (length f.0) k (parts_of f.1) post.more made.expr)
            post.parts;
      })

  -- ---- three operands

  module _ (made : Expr → Expr → Expr → Expr) (here : Part) (quiet : chooses here ≡ false) (allowed : Q 0 here)
      (parts : (P : Part → Type 0) (a b c : Expr) → P here → Each P (parts_of a) → Each P (parts_of b) → Each P (parts_of c)
      → Each P (parts_of (made a b c))) where
    three_made : (old : List Stmt) (f g h : Flattened) → Made IsCalm old f → Made IsCalm f.0 g → Made IsCalm g.0 h
        → Made IsPlain old (h.0, made f.1 g.1 h.1)
    three_made old f g h one two three =
        let k = length h.0 in
        plain_of_calm old (h.0, made f.1 g.1 h.1) (record {
          fine = three.fine;
          more = omega (arith, one.more, two.more, three.more);
          expr = parts (λ p. Q k p × (chooses p ≡ false)) f.1 g.1 h.1 (steady.up 0 k here (omega arith) allowed, quiet)
              (calm_up (length f.0) k (parts_of f.1) (omega (arith, two.more, three.more)) one.expr)
              (calm_up (length g.0) k (parts_of g.1) three.more two.expr) three.expr;
        })

  -- ---- postfixes

  pub record MadePostfix (old : List Stmt) (q : List Stmt × Postfix) : Type 0 where
    pub fine : Fine 0 q.0
    pub more : length old ≤ length q.0
    pub parts : Calm (length q.0) (parts_of_postfix q.1)

  pub followed_made : (old : List Stmt) (p : Followed) (q : List Stmt × Postfix) → MadePost old p → MadePostfix p.statements q
      → MadePost old (followed_by p q)
  followed_made old p q made here = record {
    fine = here.fine;
    more = omega (arith, made.more, here.more);
    parts = each_postfix (λ r. Q (length q.0) r × (chooses r ≡ false)) p.postfixes q.1
        (calm_up (length p.statements) (length q.0) (parts_of_postfixes p.postfixes) here.more made.parts) here.parts;
  }

  leaf_made : (old : List Stmt) (expr : Expr) → Fine 0 old → Each (Q 0) (parts_of expr) → list_any chooses (parts_of expr) ≡ false
      → Made IsPlain old (old, expr)
  leaf_made old expr fine all quiet =
      record { fine = fine; more = omega arith; expr = (each_up 0 (length old) (parts_of expr) (omega arith) all, inl quiet) }

  pub three_parts : (P : Part → Type 0) (xs ys zs : List Part) → Each P (xs ++ (ys ++ zs)) → Each P xs × Each P ys × Each P zs
  three_parts P xs ys zs all =
      let behind = each_right P xs (ys ++ zs) all in
      (each_left P xs (ys ++ zs) all, each_left P ys zs behind, each_right P ys zs behind)

  mutual
    pub flattened_made : (standing : Standing) (old : List Stmt) (expr : Expr) → Fine 0 old → Each (Q 0) (parts_of expr)
        → Made IsPlain old (flattened standing old expr)
    flattened_made standing old (e.Name name) fine all = leaf_made old (e.Name name) fine all refl
    flattened_made standing old (e.Literal literal) fine all = leaf_made old (e.Literal literal) fine all refl
    flattened_made standing old (Row' s first t links) fine all =
        let one = nested_in_made _ old first fine (each_left (Q 0) (parts_in first) (parts_in_links links) all) in
        let begin = row_of_calm old (begun (nested_in old first)) (begun_made old (nested_in old first) one) in
        ended_made old (past_links (begun (nested_in old first)) links)
        (past_links_made _ old (begun (nested_in old first)) links begin (each_right (Q 0) (parts_in first) (parts_in_links links) all))
    flattened_made standing old (Prefix' word s operand) fine all =
        word_made old standing word (nested_in old operand) (nested_in_made _ old operand fine all.1) all.0
    flattened_made standing old (Any' r source s sink t schedule) fine all =
        let parts = three_parts (Q 0) (parts_in source) (parts_in sink) (parts_in schedule) all.1 in
        let a = nested_in old source in
        let b = nested_in a.0 sink in
        let c = nested_in b.0 schedule in
        let one = nested_in_made _ old source fine parts.0 in
        let two = nested_in_made _ a.0 sink one.fine parts.1 in
        three_made e.Any part.any refl all.0 (λ P x y z. each_Any P x y z) old a b c one two
        (nested_in_made _ b.0 schedule two.fine parts.2)
    flattened_made standing old (Last' r source s sink t schedule) fine all =
        let parts = three_parts (Q 0) (parts_in source) (parts_in sink) (parts_in schedule) all.1 in
        let a = nested_in old source in
        let b = nested_in a.0 sink in
        let c = nested_in b.0 schedule in
        let one = nested_in_made _ old source fine parts.0 in
        let two = nested_in_made _ a.0 sink one.fine parts.1 in
        three_made e.Last part.last refl all.0 (λ P x y z. each_Last P x y z) old a b c one two
        (nested_in_made _ b.0 schedule two.fine parts.2)
    flattened_made standing old (Post' s operand t postfixes) fine all =
        let f = nested_in old operand in
        let one = nested_in_made _ old operand fine (each_left (Q 0) (parts_in operand) (parts_in_postfixes postfixes) all) in
        behind_made old f (past_postfixes (unfollowed f.0) postfixes) one
        (past_postfixes_made _ f.0 (unfollowed f.0) postfixes (record { fine = one.fine; more = omega arith; parts = tt })
        (each_right (Q 0) (parts_in operand) (parts_in_postfixes postfixes) all))

    pub nested_in_made : (m : Count) (old : List Stmt) (row : Row_of-Expr m) → Fine 0 old → Each (Q 0) (parts_in row)
        → Made IsCalm old (nested_in old row)
    nested_in_made m old end_of-Expr fine all =
        record { fine = fine; more = omega arith; expr = ((steady.up 0 (length old) (part.name []) (omega arith) steady.blank, refl), tt) }
    nested_in_made m old (more_of-Expr expr rest) fine all =
        settled_made old (flattened Inside old expr) (flattened_made Inside old expr fine all)

    pub past_links_made : (m : Count) (old : List Stmt) (p : Partial) (row : Row_of-Link m) → MadeRow IsRow old p
        → Each (Q 0) (parts_in_links row) → MadeRow IsRow old (past_links p row)
    past_links_made m old p end_of-Link made all = made
    past_links_made m old p (more_of-Link operator operand rest) made all =
        let q = settled_row p in
        let left = settled_row_made old p made in
        let right = settled_made q.statements (flattened Inside q.statements operand) (flattened_made Inside q.statements operand left.fine
        (each_left (Q 0) (parts_of operand) (parts_in_links rest) all.1)) in
        past_links_made _ old (with_link operator q (nested q.statements operand)) rest
        (with_link_made old operator q (nested q.statements operand) left right all.0)
        (each_right (Q 0) (parts_of operand) (parts_in_links rest) all.1)

    pub past_postfixes_made : (m : Count) (old : List Stmt) (p : Followed) (row : Row_of-Postfix m) → MadePost old p
        → Each (Q 0) (parts_in_postfixes row) → MadePost old (past_postfixes p row)
    past_postfixes_made m old p end_of-Postfix made all = made
    past_postfixes_made m old p (more_of-Postfix postfix rest) made all =
        let q = nested_postfix p.statements postfix in
        past_postfixes_made _ old (followed_by p q) rest
        (followed_made old p q made
        (postfix_made p.statements postfix made.fine (each_left (Q 0) (parts_of_postfix postfix) (parts_in_postfixes rest) all)))
        (each_right (Q 0) (parts_of_postfix postfix) (parts_in_postfixes rest) all)

    pub postfix_made : (old : List Stmt) (postfix : Postfix) → Fine 0 old → Each (Q 0) (parts_of_postfix postfix)
        → MadePostfix old (nested_postfix old postfix)
    postfix_made old Inverse fine all =
        record { fine = fine; more = omega arith; parts = ((steady.up 0 (length old) part.inverse (omega arith) all.0, refl), tt) }
    postfix_made old (Apply argument) fine all =
        let f = nested old argument in
        let made = settled_made old (flattened Inside old argument) (flattened_made Inside old argument fine all.1) in
        record {
          fine = made.fine;
          more = made.more;
          parts = ((steady.up 0 (length f.0) part.application (omega arith) all.0, refl), made.expr);
        }
    postfix_made old (Item number) fine all =
        record { fine = fine; more = omega arith; parts = ((steady.up 0 (length old) (part.item number) (omega arith) all.0, refl), tt) }

  pub nested_made : (old : List Stmt) (expr : Expr) → Fine 0 old → Each (Q 0) (parts_of expr) → Made IsCalm old (nested old expr)
  nested_made old expr fine all = settled_made old (flattened Inside old expr) (flattened_made Inside old expr fine all)

  -- ---- statements

  fine_all : (K : Stmt → Type 0) → ((k : ℕ) (name : Name) (expr : Expr) → IsPlain k expr → K (Bind name expr)) → (n : ℕ)
      (made : List Stmt) → Fine n made → All K made
  fine_all K binding n [] fine = All-nil K
  fine_all K binding n (Bind name expr ∷ made) fine =
      All-cons K (Bind name expr) made (binding n name expr fine.1) (fine_all K binding (suc n) made fine.2)
  fine_all K binding n (Empty ∷ made) fine = absurd fine
  fine_all K binding n (Show expr ∷ made) fine = absurd fine
  fine_all K binding n (Assume set ∷ made) fine = absurd fine

  pub outermost_made : (expr : Expr) → Each (Q 0) (parts_of expr) → Made IsPlain [] (outermost expr)
  outermost_made expr all = flattened_made Outermost [] expr tt all

  -- what each binding has whose expression is plain, and the last statement with it, and what an assumption has
  pub flat_all : (K : Stmt → Type 0) → K Empty → ((k : ℕ) (name : Name) (expr : Expr) → IsPlain k expr → K (Bind name expr))
      → ((k : ℕ) (expr : Expr) → IsPlain k expr → K (Show expr)) → ((set : Literal) → Q 0 (part.literal set) → K (Assume set))
      → (stmt : Stmt) → Each (Q 0) (parts_of_statement stmt) → All K (flat stmt)
  flat_all K nothing binding showing assuming Empty all = All-cons K Empty [] nothing (All-nil K)
  flat_all K nothing binding showing assuming (Bind name expr) all =
      let made = outermost_made expr all in
      let f = outermost expr in
      All-append K f.0 (Bind name f.1 ∷ []) (fine_all K binding 0 f.0 made.fine)
      (All-cons K (Bind name f.1) [] (binding (length f.0) name f.1 made.expr) (All-nil K))
  flat_all K nothing binding showing assuming (Show expr) all =
      let made = outermost_made expr all in
      let f = outermost expr in
      All-append K f.0 (Show f.1 ∷ []) (fine_all K binding 0 f.0 made.fine)
      (All-cons K (Show f.1) [] (showing (length f.0) f.1 made.expr) (All-nil K))
  flat_all K nothing binding showing assuming (Assume set) all = All-cons K (Assume set) [] (assuming set all.0) (All-nil K)

  fine_from : (n : ℕ) (made : List Stmt) → Fine n made → BindFrom (suc n) made
  fine_from n [] fine = tt
  fine_from n (Bind name expr ∷ made) fine = (fine.0, fine_from (suc n) made fine.2)
  fine_from n (Empty ∷ made) fine = absurd fine
  fine_from n (Show expr ∷ made) fine = absurd fine
  fine_from n (Assume set ∷ made) fine = absurd fine

  pub bindings_from : (stmt : Stmt) → Each (Q 0) (parts_of_statement stmt) → BindFrom 1 (bindings_of stmt)
  bindings_from Empty all = tt
  bindings_from (Bind name expr) all = fine_from 0 (outermost expr).0 (outermost_made expr all).fine
  bindings_from (Show expr) all = fine_from 0 (outermost expr).0 (outermost_made expr all).fine
  bindings_from (Assume set) all = tt
