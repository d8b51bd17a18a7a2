-- The text of proofs at the constructors of the code.
use mathlib.Core.Former.{Count}
use Rattle.std.proofs.Common.{◌≡◌, ◌∙◌, refl, sym, ap, ap₂, ℕ, ◌+◌, ◌<◌, ◌≤◌, ℤ, List, ◌∷◌, ◌++◌, length, get_or, drop}
use Rattle.std.specs.Prelude.{codes}
use Rattle.std.specs.Fmt.{signed_decimal}
use Rattle.std.proofs.lemmas.List.{append_assoc, append-nil, drop_more, drop_all}
use Rattle.isl_refute.specs.declared.tree.Cert.{Cert, False, Add, Tie, Mod, Weaken, Fresh, Split, Residue, Outside, Row_of-Cert}
use Rattle.isl_refute.specs.declared.tree.Cert.{end_of-Cert, more_of-Cert}
use Rattle.isl_refute.specs.declared.tree.Cert.{items-the_row-Cert, items_hidden-the_row-Cert-1}
use Rattle.isl_refute.specs.declared.tree.Cert.TheBlock.{hidden-the_row-Cert-0, hidden-the_row-Cert-1}
use Rattle.isl_refute.specs.declared.tree.Form.{Form}
use Rattle.isl_refute.specs.CertText.{cert_text, numbers_text, parts_text}
use Rattle.isl_refute.specs.CertText.{false_head, add_head, tie_head, mod_head, weaken_head, fresh_head, split_head, residue_head}
use Rattle.isl_refute.specs.CertText.{outside_head}
use Rattle.isl_refute.specs.Parts.{texts_of}

abbrev Text : Type 0
Text = List ℕ

-- a text behind another one, and one more
pub linked : (a b c x y : Text) → b ≡ a ++ x → c ≡ b ++ y → c ≡ a ++ (x ++ y)
linked a b c x y first second = second ∙ ap (λ t. t ++ y) first ∙ append_assoc a x y

abbrev part_text : Cert → Text
part_text cert = codes " " ++ cert_text cert

one_part : (part : Cert) → parts_text (hidden-the_row-Cert-0 part) ≡ part_text part
unfolding hidden-the_row-Cert-0 denote.Hole.Carrier.hidden
one_part part = append-nil (part_text part)

texts_are : (m : Count) (row : Row_of-Cert m) → parts_text row ≡ texts_of (items-the_row-Cert m row)
texts_are m end_of-Cert = refl
texts_are m (more_of-Cert cert row) = ap (λ t. part_text cert ++ t) (texts_are _ row)

all_parts : (parts : List Cert) → parts_text (hidden-the_row-Cert-1 parts) ≡ texts_of parts
all_parts parts = texts_are _ (hidden-the_row-Cert-1 parts) ∙ ap texts_of (items_hidden-the_row-Cert-1 parts)

pub add_written : (x : Cert) (i : ℕ) (a : ℤ) (j : ℕ) (b c d : ℤ) (part inner : Cert) (old mid new : Text) → x ≡ Add i a j b part
    → inner ≡ part → c ≡ a → d ≡ b
    → mid ≡ old ++ add_head i c j d → new ≡ mid ++ (codes " " ++ cert_text inner) → new ≡ old ++ cert_text x
add_written x i a j b c d part inner old mid new is same n0 n1 first second =
    linked old mid new (add_head i a j b) (part_text inner) (first ∙ ap₂ (λ (y z : ℤ). old ++ add_head i y j z) n0 n1) second
    ∙ ap (λ t. old ++ (add_head i a j b ++ part_text t)) same
    ∙ ap (λ t. old ++ (add_head i a j b ++ t)) (sym (one_part part))
    ∙ ap (λ t. old ++ cert_text t) (sym is)

pub tie_written : (x : Cert) (i j : ℕ) (part inner : Cert) (old mid new : Text) → x ≡ Tie i j part → inner ≡ part
    → mid ≡ old ++ tie_head i j → new ≡ mid ++ (codes " " ++ cert_text inner) → new ≡ old ++ cert_text x
tie_written x i j part inner old mid new is same first second =
    linked old mid new (tie_head i j) (part_text inner) first second
    ∙ ap (λ t. old ++ (tie_head i j ++ part_text t)) same
    ∙ ap (λ t. old ++ (tie_head i j ++ t)) (sym (one_part part))
    ∙ ap (λ t. old ++ cert_text t) (sym is)

pub mod_written : (x : Cert) (i : ℕ) (k l : ℤ) (part inner : Cert) (old mid new : Text) → x ≡ Mod i k part → inner ≡ part → l ≡ k
    → mid ≡ old ++ mod_head i l → new ≡ mid ++ (codes " " ++ cert_text inner) → new ≡ old ++ cert_text x
mod_written x i k l part inner old mid new is same n0 first second =
    linked old mid new (mod_head i k) (part_text inner) (first ∙ ap (λ (z : ℤ). old ++ mod_head i z) n0) second
    ∙ ap (λ t. old ++ (mod_head i k ++ part_text t)) same
    ∙ ap (λ t. old ++ (mod_head i k ++ t)) (sym (one_part part))
    ∙ ap (λ t. old ++ cert_text t) (sym is)

pub weaken_written : (x : Cert) (i : ℕ) (k l : ℤ) (part inner : Cert) (old mid new : Text) → x ≡ Weaken i k part → inner ≡ part → l ≡ k
    → mid ≡ old ++ weaken_head i l → new ≡ mid ++ (codes " " ++ cert_text inner) → new ≡ old ++ cert_text x
weaken_written x i k l part inner old mid new is same n0 first second =
    linked old mid new (weaken_head i k) (part_text inner) (first ∙ ap (λ (z : ℤ). old ++ weaken_head i z) n0) second
    ∙ ap (λ t. old ++ (weaken_head i k ++ part_text t)) same
    ∙ ap (λ t. old ++ (weaken_head i k ++ t)) (sym (one_part part))
    ∙ ap (λ t. old ++ cert_text t) (sym is)

pub fresh_written : (x : Cert) (i : ℕ) (part inner : Cert) (old mid new : Text) → x ≡ Fresh i part → inner ≡ part
    → mid ≡ old ++ fresh_head i → new ≡ mid ++ (codes " " ++ cert_text inner) → new ≡ old ++ cert_text x
fresh_written x i part inner old mid new is same first second =
    linked old mid new (fresh_head i) (part_text inner) first second
    ∙ ap (λ t. old ++ (fresh_head i ++ part_text t)) same
    ∙ ap (λ t. old ++ (fresh_head i ++ t)) (sym (one_part part))
    ∙ ap (λ t. old ++ cert_text t) (sym is)

pub residue_written : (x : Cert) (form : Form) (k l : ℤ) (parts slice : List Cert) (old mid new : Text) → x ≡ Residue form k parts
    → slice ≡ parts → l ≡ k
    → mid ≡ old ++ residue_head form l → new ≡ mid ++ texts_of slice → new ≡ old ++ cert_text x
residue_written x form k l parts slice old mid new is same n0 first second =
    linked old mid new (residue_head form k) (texts_of slice) (first ∙ ap (λ (z : ℤ). old ++ residue_head form z) n0) second
    ∙ ap (λ t. old ++ (residue_head form k ++ texts_of t)) same
    ∙ ap (λ t. old ++ (residue_head form k ++ t)) (sym (all_parts parts))
    ∙ ap (λ t. old ++ cert_text t) (sym is)

pub outside_written : (x : Cert) (q : ℕ) (parts slice : List Cert) (old mid new : Text) → x ≡ Outside q parts → slice ≡ parts
    → mid ≡ old ++ outside_head q → new ≡ mid ++ texts_of slice → new ≡ old ++ cert_text x
outside_written x q parts slice old mid new is same first second =
    linked old mid new (outside_head q) (texts_of slice) first second
    ∙ ap (λ t. old ++ (outside_head q ++ texts_of t)) same
    ∙ ap (λ t. old ++ (outside_head q ++ t)) (sym (all_parts parts))
    ∙ ap (λ t. old ++ cert_text t) (sym is)

pub split_written : (x : Cert) (form : Form) (up down first second : Cert) (old mid next new : Text) → x ≡ Split form up down → first ≡ up
    → second ≡ down → mid ≡ old ++ split_head form → next ≡ mid ++ (codes " " ++ cert_text first)
    → new ≡ next ++ (codes " " ++ cert_text second) → new ≡ old ++ cert_text x
split_written x form up down first second old mid next new is one two begun more last =
    linked old next new (split_head form ++ part_text first) (part_text second)
    (linked old mid next (split_head form) (part_text first) begun more) last
    ∙ ap₂ (λ t u. old ++ ((split_head form ++ part_text t) ++ part_text u)) one two
    ∙ ap₂ (λ t u. old ++ ((split_head form ++ t) ++ u)) (sym (one_part up)) (sym (one_part down))
    ∙ ap (λ t. old ++ cert_text t) (sym is)

pub false_written : (x : Cert) (i : ℕ) (old new : Text) → x ≡ False i → new ≡ old ++ false_head i → new ≡ old ++ cert_text x
false_written x i old new is last = last ∙ ap (λ t. old ++ cert_text t) (sym is)

-- ---- steps of loops
pub numbers_more : (numbers : List ℤ) (i : ℕ) (z : ℤ) (before after whole : Text) → i < length numbers → z ≡ get_or numbers i z
    → after ≡ before ++ (signed_decimal z ++ codes " ") → before ++ numbers_text (drop i numbers) ≡ whole
    → after ++ numbers_text (drop (i + 1) numbers) ≡ whole
numbers_more numbers i z before after whole low at more so_far =
    let rest = numbers_text (drop (i + 1) numbers) in
    let here : drop i numbers ≡ z ∷ drop (i + 1) numbers = drop_more numbers i z low ∙ ap (λ y. y ∷ drop (i + 1) numbers) (sym at) in
    ap (λ t. t ++ rest) more ∙ append_assoc before (signed_decimal z ++ codes " ") rest
    ∙ ap (λ l. before ++ numbers_text l) (sym here) ∙ so_far

pub numbers_end : (numbers : List ℤ) (i : ℕ) (before whole : Text) → length numbers ≤ i → before ++ numbers_text (drop i numbers) ≡ whole
    → before ≡ whole
numbers_end numbers i before whole over so_far =
    sym (ap (λ l. before ++ numbers_text l) (drop_all i numbers over) ∙ append-nil before) ∙ so_far

pub parts_more : (parts : List Cert) (i : ℕ) (part : Cert) (before after whole : Text) → i < length parts → part ≡ get_or parts i part
    → after ≡ before ++ (codes " " ++ cert_text part) → before ++ texts_of (drop i parts) ≡ whole
    → after ++ texts_of (drop (i + 1) parts) ≡ whole
parts_more parts i part before after whole low at more so_far =
    let rest = texts_of (drop (i + 1) parts) in
    let here : drop i parts ≡ part ∷ drop (i + 1) parts = drop_more parts i part low ∙ ap (λ y. y ∷ drop (i + 1) parts) (sym at) in
    ap (λ t. t ++ rest) more ∙ append_assoc before (part_text part) rest ∙ ap (λ l. before ++ texts_of l) (sym here) ∙ so_far

pub parts_end : (parts : List Cert) (i : ℕ) (before whole : Text) → length parts ≤ i → before ++ texts_of (drop i parts) ≡ whole
    → before ≡ whole
parts_end parts i before whole over so_far =
    sym (ap (λ l. before ++ texts_of l) (drop_all i parts over) ∙ append-nil before) ∙ so_far

pub ruleset numbers_steps = (numbers_more, numbers_end)

pub ruleset parts_steps = (parts_more, parts_end)
