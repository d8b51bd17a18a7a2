-- What is asked for, at the constructors of the code.
use Rattle.std.proofs.Common.{◌≡◌, ◌∙◌, refl, sym, ap, Bool, true, false, List, [], ◌∷◌, ◌++◌, length}
use Rattle.std.proofs.lemmas.List.{nil_from_length}
use Rattle.isl_tree.specs.declared.statement.Prefix.{Prefix as Word}
use Rattle.isl_tree.specs.declared.statement.Prefix.TheVariants as p
use Rattle.isl_tree.specs.declared.statement.Link.{Link}
use Rattle.isl_tree.specs.declared.statement.Expr.{Expr, Row, items_hidden-the_row-Link-1}
use Rattle.isl_tree.specs.declared.statement.Expr.TheBlock.{hidden-the_row-Expr-0, hidden-the_row-Link-1}
use Rattle.isl_tree.specs.declared.statement.Expr as e
use Rattle.isl_flat.specs.Flat.{is_sample}
use Rattle.isl_eval.specs.Tests.{is_test}
use Rattle.isl_eval.specs.Asked.{is_at_numbers, is_of_operand, question_of, shows_at_numbers}
use Rattle.isl_eval.specs.Evaluation.{ends_with_test, is_codegen, is_coalesce, is_asked, is_pip}
use Rattle.isl_eval.proofs.TestLaws.{ends_are, ends_at}

pub numbered_of-Prefix : (run : Bool) (word : Word) (operand : Expr)
    → shows_at_numbers run (e.Prefix word operand) ≡ is_at_numbers run (question_of word)
unfolding hidden-the_row-Expr-0 denote.Hole.Carrier.hidden
numbered_of-Prefix run word operand = refl

pub asked_of-Prefix : (word : Word) (operand : Expr) → is_asked (e.Prefix word operand) ≡ is_of_operand (question_of word)
unfolding hidden-the_row-Expr-0 denote.Hole.Carrier.hidden
asked_of-Prefix word operand = refl

pub asked_of-Row : (first : Expr) (links : List Link) → is_asked (Row first links) ≡ ends_with_test links
unfolding hidden-the_row-Expr-0 denote.Hole.Carrier.hidden
asked_of-Row first links = ends_are _ (hidden-the_row-Link-1 links) ∙ ap ends_with_test (items_hidden-the_row-Link-1 links)

pub numbered-Prefix : (run : Bool) (x operand : Expr) (word : Word) (b : Bool) → x ≡ e.Prefix word operand
    → b ≡ is_at_numbers run (question_of word) → b ≡ shows_at_numbers run x
numbered-Prefix run x operand word b is own = own ∙ sym (ap (shows_at_numbers run) is ∙ numbered_of-Prefix run word operand)

pub asked-Prefix : (x operand : Expr) (word : Word) (b : Bool) → x ≡ e.Prefix word operand → b ≡ is_of_operand (question_of word)
    → b ≡ is_asked x
asked-Prefix x operand word b is own = own ∙ sym (ap is_asked is ∙ asked_of-Prefix word operand)

pub asked-Row : (x first : Expr) (links : List Link) (b : Bool) → x ≡ Row first links → b ≡ ends_with_test links → b ≡ is_asked x
asked-Row x first links b is ends = ends ∙ sym (ap is_asked is ∙ asked_of-Row first links)

pub ruleset at_numbers = (numbered-Prefix)

pub ruleset asked = (asked-Prefix, asked-Row)

-- ---- the end of a row
pub ends_some : (links before : List Link) (last : Link) (b : Bool) → links ≡ before ++ last ∷ [] → b ≡ is_test last.operator
    → b ≡ ends_with_test links
ends_some links before last b is test = test ∙ sym (ap ends_with_test is ∙ ends_at before last)

pub ends_none : (links : List Link) → length links ≡ 0 → false ≡ ends_with_test links
ends_none links none = sym (ap ends_with_test (nil_from_length links none))

-- ---- the words of what asks, and of what chooses
pub codegen_word : (word : Word) → is_codegen word ≡ true → word ≡ p.Codegen
codegen_word p.Codegen is = refl
codegen_word _ is = let no : false ≡ true = is in cc

pub pip_word : (word : Word) → is_pip word ≡ true → word ≡ p.Pip
pip_word p.Pip is = refl
pip_word _ is = let no : false ≡ true = is in cc

-- the other word that is about its operand
pub scan_word : (word : Word) → is_of_operand (question_of word) ≡ true → is_codegen word ≡ false → is_pip word ≡ false → word ≡ p.Scan
scan_word p.Scan is other none = refl
scan_word p.Codegen is other none = let no : true ≡ false = other in cc
scan_word p.Pip is other none = let no : true ≡ false = none in cc
scan_word _ is other none = let no : false ≡ true = is in cc

pub sample_word : (word : Word) → is_sample word ≡ true → word ≡ p.Sample
sample_word p.Sample is = refl
sample_word _ is = let no : false ≡ true = is in cc

pub coalesce_word : (word : Word) → is_coalesce word ≡ true → word ≡ p.Coalesce
coalesce_word p.Coalesce is = refl
coalesce_word _ is = let no : false ≡ true = is in cc
