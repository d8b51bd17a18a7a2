-- The rows that a plain piece writes have a modulus of their kind.
use mathlib.Core.Former.{Count}
use Rattle.std.proofs.Common.{◌≡◌, refl, ℕ, pos, true, ◌&&◌, List, [], ◌∷◌, Option, None, Some, All}
use Rattle.std.specs.Prelude.{int_lt}
use Rattle.std.specs.List.{list_all}
use Rattle.std.proofs.lemmas.Bool.{false≢true}
use Rattle.std.proofs.lemmas.List.Elements.{All-nil, All-cons, All-append}
use Rattle.isl_piece.specs.Row.{HasModulus}
use Rattle.isl_tree.specs.declared.tree.Compare.{Compare}
use Rattle.isl_tree.specs.declared.tree.Compare.TheVariants.{Equal, Less, LessEqual, Greater, GreaterEqual, Differs}
use Rattle.isl_tree.specs.declared.tree.Entry.{Entry}
use Rattle.isl_tree.specs.declared.tree.Formula.{Formula, Implies', Or', And', Not', True, False, Exists', Chain, Row_of-Formula}
use Rattle.isl_tree.specs.declared.tree.Formula.{end_of-Formula, more_of-Formula}
use Rattle.isl_tree.specs.declared.tree.PieceTree.{PieceTree}
use Rattle.isl_tree.specs.Term.{Term}
use Rattle.isl_tree.specs.Formula.{Link, Side}
use Rattle.isl_tree.specs.Literal.{new_name, known_after, piece_entries}
use Rattle.isl_tree.specs.Plain.{Remainder, lone_remainder, is_linear, is_zero, tells_equality, is_plain_remainder, is_plain_comparison}
use Rattle.isl_tree.specs.Plain.{is_plain_entry, are_plain_sides, are_plain_chains, is_plain_formula, body_is_plain}
use Rattle.isl_tree.specs.Plain.{is_plain_piece}
use Rattle.isl_plain.specs.Rows.{Written, compared, divided, written_entry, written_entries, written_links, written_remainder}
use Rattle.isl_plain.specs.Rows.{written_from, written_sides, written_chains, written_formula, written_body, written_piece}
use Rattle.isl_plain.specs.Rows.{piece_width}
use Rattle.isl_plain.proofs.FormulaLaws.{is_above}
use Rattle.isl_plain.proofs.TermLaws.{both_true}
use Rattle.std.proofs.Common.{length}

abbrev pub HasOwnModulus : Written → Type 0
HasOwnModulus w = HasModulus w.kind w.modulus

of_entry : (entry : Entry) (at : ℕ) (found : Option (List ℕ)) → All HasOwnModulus (written_entry entry at found)
of_entry entry at None = All-cons HasOwnModulus _ [] refl (All-nil HasOwnModulus)
of_entry entry at (Some name) = All-nil HasOwnModulus

of_entries : (known : List (List ℕ)) (entries : List Entry) (at : ℕ) → All HasOwnModulus (written_entries known entries at)
of_entries known [] at = All-nil HasOwnModulus
of_entries known (entry ∷ entries) at =
    All-append HasOwnModulus (written_entry entry at (new_name known entry)) _ (of_entry entry at (new_name known entry))
    (of_entries (known_after known (new_name known entry)) entries _)

of_compared : (n : ℕ) (c : Compare) (left right : Term) → HasOwnModulus (compared n c left right)
of_compared n Equal left right = refl
of_compared n Less left right = refl
of_compared n LessEqual left right = refl
of_compared n Greater left right = refl
of_compared n GreaterEqual left right = refl
of_compared n Differs left right = refl

of_links : (n : ℕ) (left : Term) (links : List Link) → All HasOwnModulus (written_links n left links)
of_links n left [] = All-nil HasOwnModulus
of_links n left ((c, []) ∷ links) = All-nil HasOwnModulus
of_links n left ((c, (a ∷ b ∷ rights)) ∷ links) = All-nil HasOwnModulus
of_links n left ((c, (right ∷ [])) ∷ links) = All-cons HasOwnModulus _ _ (of_compared n c left right) (of_links n right links)

of_divided : (r : Remainder) (c : Compare) → int_lt (pos 0) r.1 ≡ true → HasOwnModulus (divided r c)
of_divided r Equal above = is_above r.1 above
of_divided r Less above = is_above r.1 above
of_divided r LessEqual above = is_above r.1 above
of_divided r Greater above = is_above r.1 above
of_divided r GreaterEqual above = is_above r.1 above
of_divided r Differs above = is_above r.1 above

of_remainder : (r : Remainder) (links : List Link) → is_plain_remainder r links ≡ true → All HasOwnModulus (written_remainder r links)
of_remainder r [] plain = absurd (false≢true plain)
of_remainder r ((c, []) ∷ links) plain = absurd (false≢true plain)
of_remainder r ((c, (a ∷ b ∷ rights)) ∷ links) plain = absurd (false≢true plain)
of_remainder r ((c, (right ∷ [])) ∷ (link ∷ links)) plain = absurd (false≢true plain)
of_remainder r ((c, (right ∷ [])) ∷ []) plain =
    let all = both_true ((is_linear r.0 && int_lt (pos 0) r.1) && tells_equality c) (is_zero right) plain in
    let three = both_true (is_linear r.0 && int_lt (pos 0) r.1) (tells_equality c) all.0 in
    let two = both_true (is_linear r.0) (int_lt (pos 0) r.1) three.0 in
    All-cons HasOwnModulus _ [] (of_divided r c two.1) (All-nil HasOwnModulus)

of_from : (n : ℕ) (o : Option Remainder) (left : Term) (links : List Link) → is_plain_comparison o left links ≡ true
    → All HasOwnModulus (written_from n o left links)
of_from n None left links plain = of_links n left links
of_from n (Some r) left links plain = of_remainder r links plain

of_sides : (n : ℕ) (first : Side) (links : List Link) → are_plain_sides first links ≡ true → All HasOwnModulus (written_sides n first links)
of_sides n [] links plain = All-nil HasOwnModulus
of_sides n (a ∷ b ∷ first) links plain = All-nil HasOwnModulus
of_sides n (left ∷ []) links plain = of_from n (lone_remainder left) left links plain

of_chains : (n : ℕ) (m : Count) (row : Row_of-Formula m) → are_plain_chains row ≡ true → All HasOwnModulus (written_chains n row)
of_chains n m end_of-Formula plain = All-nil HasOwnModulus
of_chains n m (more_of-Formula (Chain first links) rest) plain =
    let each = both_true (are_plain_sides first links) (are_plain_chains rest) plain in
    All-append HasOwnModulus (written_sides n first links) (written_chains n rest) (of_sides n first links each.0) (of_chains n _ rest each.1)
of_chains n m (more_of-Formula (Implies' s row) rest) plain = absurd (false≢true plain)
of_chains n m (more_of-Formula (Or' s row) rest) plain = absurd (false≢true plain)
of_chains n m (more_of-Formula (And' s row) rest) plain = absurd (false≢true plain)
of_chains n m (more_of-Formula (Not' s row) rest) plain = absurd (false≢true plain)
of_chains n m (more_of-Formula True rest) plain = absurd (false≢true plain)
of_chains n m (more_of-Formula False rest) plain = absurd (false≢true plain)
of_chains n m (more_of-Formula (Exists' binders s row) rest) plain = absurd (false≢true plain)

of_formula : (n : ℕ) (f : Formula) → is_plain_formula f ≡ true → All HasOwnModulus (written_formula n f)
of_formula n (Chain first links) plain = of_sides n first links plain
of_formula n (And' s row) plain = of_chains n _ row plain
of_formula n (Implies' s row) plain = absurd (false≢true plain)
of_formula n (Or' s row) plain = absurd (false≢true plain)
of_formula n (Not' s row) plain = absurd (false≢true plain)
of_formula n True plain = absurd (false≢true plain)
of_formula n False plain = absurd (false≢true plain)
of_formula n (Exists' binders s row) plain = absurd (false≢true plain)

of_body : (n : ℕ) (body : Option Formula) → body_is_plain body ≡ true → All HasOwnModulus (written_body n body)
of_body n None plain = All-nil HasOwnModulus
of_body n (Some f) plain = of_formula n f plain

pub moduli_are : (params : List (List ℕ)) (piece : PieceTree) → is_plain_piece piece ≡ true → All HasOwnModulus (written_piece params piece)
moduli_are params piece plain =
    All-append HasOwnModulus (written_entries params (piece_entries piece) (length params)) (written_body (piece_width params piece) piece.body)
    (of_entries params (piece_entries piece) (length params))
    (of_body (piece_width params piece) piece.body (both_true (list_all is_plain_entry (piece_entries piece)) (body_is_plain piece.body) plain).1)
