-- What stands in an expression, operand by operand.
use Rattle.std.proofs.Common.{◌≡◌, ◌∙◌, ◌<◌, ℕ, zero, suc, Bool, false, List, [], ◌∷◌, ◌++◌, length, get_or, sym, ap, subst, arith}
use Rattle.std.specs.List.{All, list_any}
use Rattle.std.proofs.lemmas.Bool.{or_parts}
use Rattle.std.proofs.lemmas.List.Elements.{All-nil, All-cons, All-head, All-tail}
use Rattle.std.proofs.lemmas.List.Folds.{list_any-append}
use Rattle.isl_lower.specs.Value.{IsWellFormedLiteral}
use Rattle.isl_tree.specs.declared.statement.Prefix.{Prefix as Word}
use Rattle.isl_tree.specs.declared.statement.Link.{Link}
use Rattle.isl_tree.specs.declared.statement.Postfix.{Postfix, Inverse, Apply, Item}
use Rattle.isl_tree.specs.declared.statement.Expr.{Expr, Row, Prefix, Post}
use Rattle.isl_tree.specs.Expr.{literals_of, literals_in_postfix, links_literals, postfixes_literals}
use Rattle.isl_tree.proofs.Literals.{literals_of-Row, literals_of-Prefix, literals_of-Post}
use Rattle.isl_kinds.specs.Parts.{Part, parts_of, parts_of_postfix, parts_of_links, parts_of_postfixes}
use Rattle.isl_kinds.specs.Parts as part
use Rattle.isl_kinds.specs.Typed.{ScopeView, is_unknown}
use Rattle.isl_kinds.proofs.PartLaws.{parts_of-Row, parts_of-Prefix, parts_of-Post}
use Rattle.isl_values.specs.Made.{is_foreign, IsSoundExpr, IsSoundLink, IsSoundPostfix}

-- ---- all of a list
module _ {X : Type 0} (P : X → Type 0) where
  pub all_left : (xs ys : List X) → All P (xs ++ ys) → All P xs
  all_left [] ys all = All-nil P
  all_left (x ∷ xs) ys all = All-cons P x xs (All-head P x (xs ++ ys) all) (all_left xs ys (All-tail P x (xs ++ ys) all))

  pub all_right : (xs ys : List X) → All P (xs ++ ys) → All P ys
  all_right [] ys all = all
  all_right (x ∷ xs) ys all = all_right xs ys (All-tail P x (xs ++ ys) all)

-- ---- what no part of two lists is, no part of either is
module _ (test : Part → Bool) where
  pub quiet_both : (xs ys : List Part) → list_any test (xs ++ ys) ≡ false → (list_any test xs ≡ false) × (list_any test ys ≡ false)
  quiet_both xs ys none = or_parts (list_any test xs) (list_any test ys) (sym (list_any-append test xs ys) ∙ none)

-- ---- operands
module _ (scope : ScopeView) where
  pub row_quiet : (test : Part → Bool) (first : Expr) (links : List Link) → list_any test (parts_of (Row first links)) ≡ false
      → (list_any test (parts_of first) ≡ false) × (list_any test (parts_of_links links) ≡ false)
  row_quiet test first links none =
      quiet_both test (parts_of first) (parts_of_links links) (sym (ap (list_any test) (parts_of-Row first links)) ∙ none)

  pub post_quiet : (test : Part → Bool) (operand : Expr) (postfixes : List Postfix)
      → list_any test (parts_of (Post operand postfixes)) ≡ false
      → (list_any test (parts_of operand) ≡ false) × (list_any test (parts_of_postfixes postfixes) ≡ false)
  post_quiet test operand postfixes none =
      quiet_both test (parts_of operand) (parts_of_postfixes postfixes) (sym (ap (list_any test) (parts_of-Post operand postfixes)) ∙ none)

  pub word_quiet : (test : Part → Bool) (word : Word) (operand : Expr) → list_any test (parts_of (Prefix word operand)) ≡ false
      → (test (part.prefix word) ≡ false) × (list_any test (parts_of operand) ≡ false)
  word_quiet test word operand none =
      or_parts (test (part.prefix word)) (list_any test (parts_of operand)) (sym (ap (list_any test) (parts_of-Prefix word operand)) ∙ none)

  pub sound_first : (first : Expr) (links : List Link) → IsSoundExpr scope (Row first links) → IsSoundExpr scope first
  sound_first first links sound = record {
    supported = (row_quiet is_foreign first links sound.supported).0;
    known = (row_quiet (is_unknown scope) first links sound.known).0;
    literals = all_left IsWellFormedLiteral (literals_of first) (links_literals links)
        (subst (All IsWellFormedLiteral) (literals_of-Row first links) sound.literals);
  }

  links_sound : (links : List Link) → list_any is_foreign (parts_of_links links) ≡ false
      → list_any (is_unknown scope) (parts_of_links links) ≡ false
      → All IsWellFormedLiteral (links_literals links) → All (IsSoundLink scope) links
  links_sound [] supported known literals = All-nil (IsSoundLink scope)
  links_sound (link ∷ links) supported known literals =
      let sign = or_parts (is_foreign (part.operator link.operator))
      (list_any is_foreign (parts_of link.operand ++ parts_of_links links)) supported in
      let now = quiet_both is_foreign (parts_of link.operand) (parts_of_links links) sign.1 in
      let there = quiet_both (is_unknown scope) (parts_of link.operand) (parts_of_links links) known in
      All-cons (IsSoundLink scope) link links
      (record {
        supported = sign.0;
        operand = record {
          supported = now.0;
          known = there.0;
          literals = all_left IsWellFormedLiteral (literals_of link.operand) (links_literals links) literals;
        };
      })
      (links_sound links now.1 there.1 (all_right IsWellFormedLiteral (literals_of link.operand) (links_literals links) literals))

  pub sound_links : (first : Expr) (links : List Link) → IsSoundExpr scope (Row first links) → All (IsSoundLink scope) links
  sound_links first links sound =
      links_sound links (row_quiet is_foreign first links sound.supported).1 (row_quiet (is_unknown scope) first links sound.known).1
      (all_right IsWellFormedLiteral (literals_of first) (links_literals links)
      (subst (All IsWellFormedLiteral) (literals_of-Row first links) sound.literals))

  pub sound_operand : (operand : Expr) (postfixes : List Postfix) → IsSoundExpr scope (Post operand postfixes) → IsSoundExpr scope operand
  sound_operand operand postfixes sound = record {
    supported = (post_quiet is_foreign operand postfixes sound.supported).0;
    known = (post_quiet (is_unknown scope) operand postfixes sound.known).0;
    literals = all_left IsWellFormedLiteral (literals_of operand) (postfixes_literals postfixes)
        (subst (All IsWellFormedLiteral) (literals_of-Post operand postfixes) sound.literals);
  }

  postfix_sound : (postfix : Postfix) → list_any is_foreign (parts_of_postfix postfix) ≡ false
      → list_any (is_unknown scope) (parts_of_postfix postfix) ≡ false
      → All IsWellFormedLiteral (literals_in_postfix postfix) → IsSoundPostfix scope postfix
  postfix_sound Inverse supported known literals = tt
  postfix_sound (Apply argument) supported known literals = record { supported = supported; known = known; literals = literals }
  postfix_sound (Item number) supported known literals = tt

  postfixes_sound : (postfixes : List Postfix) → list_any is_foreign (parts_of_postfixes postfixes) ≡ false
      → list_any (is_unknown scope) (parts_of_postfixes postfixes) ≡ false
      → All IsWellFormedLiteral (postfixes_literals postfixes) → All (IsSoundPostfix scope) postfixes
  postfixes_sound [] supported known literals = All-nil (IsSoundPostfix scope)
  postfixes_sound (postfix ∷ postfixes) supported known literals =
      let now = quiet_both is_foreign (parts_of_postfix postfix) (parts_of_postfixes postfixes) supported in
      let there = quiet_both (is_unknown scope) (parts_of_postfix postfix) (parts_of_postfixes postfixes) known in
      All-cons (IsSoundPostfix scope) postfix postfixes
      (postfix_sound postfix now.0 there.0
      (all_left IsWellFormedLiteral (literals_in_postfix postfix) (postfixes_literals postfixes) literals))
      (postfixes_sound postfixes now.1 there.1
      (all_right IsWellFormedLiteral (literals_in_postfix postfix) (postfixes_literals postfixes) literals))

  pub sound_postfixes : (operand : Expr) (postfixes : List Postfix) → IsSoundExpr scope (Post operand postfixes)
      → All (IsSoundPostfix scope) postfixes
  sound_postfixes operand postfixes sound =
      postfixes_sound postfixes (post_quiet is_foreign operand postfixes sound.supported).1
      (post_quiet (is_unknown scope) operand postfixes sound.known).1
      (all_right IsWellFormedLiteral (literals_of operand) (postfixes_literals postfixes)
      (subst (All IsWellFormedLiteral) (literals_of-Post operand postfixes) sound.literals))

  pub sound_argument : (word : Word) (operand : Expr) → IsSoundExpr scope (Prefix word operand) → IsSoundExpr scope operand
  sound_argument word operand sound = record {
    supported = (word_quiet is_foreign word operand sound.supported).1;
    known = (word_quiet (is_unknown scope) word operand sound.known).1;
    literals = subst (All IsWellFormedLiteral) (literals_of-Prefix word operand) sound.literals;
  }

  -- source, sink and schedule, where these parts and literals stand in the whole
  module _ (expr source sink schedule : Expr) (one : Part)
      (parts : parts_of expr ≡ one ∷ (parts_of source ++ (parts_of sink ++ parts_of schedule)))
      (literals : literals_of expr ≡ literals_of source ++ (literals_of sink ++ literals_of schedule))
      (sound : IsSoundExpr scope expr) where
    three_quiet : (test : Part → Bool) → list_any test (parts_of expr) ≡ false
        → (list_any test (parts_of source) ≡ false) × (list_any test (parts_of sink) ≡ false) × (list_any test (parts_of schedule) ≡ false)
    three_quiet test none =
        let all = or_parts (test one) (list_any test (parts_of source ++ (parts_of sink ++ parts_of schedule)))
        (sym (ap (list_any test) parts) ∙ none) in
        let first = quiet_both test (parts_of source) (parts_of sink ++ parts_of schedule) all.1 in
        let more = quiet_both test (parts_of sink) (parts_of schedule) first.1 in
        (first.0, more.0, more.1)

    three_formed : All IsWellFormedLiteral (literals_of source ++ (literals_of sink ++ literals_of schedule))
    three_formed = subst (All IsWellFormedLiteral) literals sound.literals

    pub sound_source : IsSoundExpr scope source
    sound_source = record {
      supported = (three_quiet is_foreign sound.supported).0;
      known = (three_quiet (is_unknown scope) sound.known).0;
      literals = all_left IsWellFormedLiteral (literals_of source) (literals_of sink ++ literals_of schedule) three_formed;
    }

    pub sound_sink : IsSoundExpr scope sink
    sound_sink = record {
      supported = (three_quiet is_foreign sound.supported).1;
      known = (three_quiet (is_unknown scope) sound.known).1;
      literals = all_left IsWellFormedLiteral (literals_of sink) (literals_of schedule)
          (all_right IsWellFormedLiteral (literals_of source) (literals_of sink ++ literals_of schedule) three_formed);
    }

    pub sound_schedule : IsSoundExpr scope schedule
    sound_schedule = record {
      supported = (three_quiet is_foreign sound.supported).2;
      known = (three_quiet (is_unknown scope) sound.known).2;
      literals = all_right IsWellFormedLiteral (literals_of sink) (literals_of schedule)
          (all_right IsWellFormedLiteral (literals_of source) (literals_of sink ++ literals_of schedule) three_formed);
    }

-- ---- the operand at a place
pub quiet_at : (test : Part → Bool) (links : List Link) (i : ℕ) (link : Link) → i < length links → link ≡ get_or links i link
    → list_any test (parts_of_links links) ≡ false
    → (test (part.operator link.operator) ≡ false) × (list_any test (parts_of link.operand) ≡ false)
quiet_at test [] i link low is none = absurd (omega (arith, low))
quiet_at test (other ∷ links) zero link low is none =
    let sign = or_parts (test (part.operator other.operator)) (list_any test (parts_of other.operand ++ parts_of_links links)) none in
    let now = quiet_both test (parts_of other.operand) (parts_of_links links) sign.1 in
    subst (λ (l : Link). (test (part.operator l.operator) ≡ false) × (list_any test (parts_of l.operand) ≡ false)) (sym is) (sign.0, now.0)
quiet_at test (other ∷ links) (suc i) link low is none =
    let sign = or_parts (test (part.operator other.operator)) (list_any test (parts_of other.operand ++ parts_of_links links)) none in
    quiet_at test links i link (omega (arith, low)) is (quiet_both test (parts_of other.operand) (parts_of_links links) sign.1).1

pub quiet_in : (test : Part → Bool) (postfixes : List Postfix) (i : ℕ) (postfix : Postfix) → i < length postfixes
    → postfix ≡ get_or postfixes i postfix
    → list_any test (parts_of_postfixes postfixes) ≡ false → list_any test (parts_of_postfix postfix) ≡ false
quiet_in test [] i postfix low is none = absurd (omega (arith, low))
quiet_in test (other ∷ postfixes) zero postfix low is none =
    subst (λ (p : Postfix). list_any test (parts_of_postfix p) ≡ false) (sym is)
    (quiet_both test (parts_of_postfix other) (parts_of_postfixes postfixes) none).0
quiet_in test (other ∷ postfixes) (suc i) postfix low is none =
    quiet_in test postfixes i postfix (omega (arith, low)) is
    (quiet_both test (parts_of_postfix other) (parts_of_postfixes postfixes) none).1
