-- Spaces that a value may have are equal where their texts are: what follows a text shows where it ends.
use Rattle.std.proofs.Common.{◌≡◌, ◌≢◌, ◌∙◌, ◌<◌, ◌^◌, ℕ, true, List, [], ◌∷◌, ◌++◌, length, replicate, ap, sym, refl, subst, arith}
use Rattle.std.specs.Prelude.{Option, Some, None, IfSome, codes}
use Rattle.std.specs.Char.{digit_value}
use Rattle.std.specs.Fmt.{decimal}
use Rattle.std.specs.List.{AllByRecursion}
use Rattle.std.specs.Str.Parse.{AllDigits}
use Rattle.std.proofs.lemmas.Bool.{and_parts}
use Rattle.std.proofs.lemmas.Fmt.{decimal_injective, decimal_is_IsNumeral}
use Rattle.std.proofs.lemmas.List.{append_assoc, append-nil}
use Rattle.std.proofs.lemmas.List.Elements.{All-append, All-cons, All-replicate, All-weaker, recursion_from_All}
use Rattle.isl_space.specs.Form.{Form, leaf, pair, width_of, name_text, text_of, IsNamed, IsWellFormed}
use Rattle.isl_space.specs.Name.{Name, begins_name, goes_on_name, IsLiteralName}
use Rattle.isl_space.specs.SpaceForm.{SpaceForm, set_of, map_of, space_text_of, IsWellFormedSpace}
use Rattle.isl_space.proofs.NameLaws.{Reads, identifier_reads}

-- ---- a text up to a byte that does not stand in it
abbrev Lacks : ℕ → List ℕ → Type 0
Lacks byte text = AllByRecursion (λ b. b ≢ byte) text

same_up_to : (byte : ℕ) (xs ys r s : List ℕ) → Lacks byte xs → Lacks byte ys → xs ++ (byte ∷ r) ≡ ys ++ (byte ∷ s) → (xs ≡ ys) × (r ≡ s)
same_up_to byte [] [] r s a b e = (refl, cc)
same_up_to byte [] (y ∷ ys) r s a b e = absurd (b.0 (let h : byte ≡ y = cc in sym h))
same_up_to byte (x ∷ xs) [] r s a b e = absurd (a.0 (let h : x ≡ byte = cc in h))
same_up_to byte (x ∷ xs) (y ∷ ys) r s a b e =
    let first : x ≡ y = cc in
    let more = same_up_to byte xs ys r s a.1 b.1 (let h : xs ++ (byte ∷ r) ≡ ys ++ (byte ∷ s) = cc in h) in
    (let rest = more.0 in cc, more.1)

-- ---- names and numbers
begins_other : (b : ℕ) → begins_name b ≡ true → b ≢ 91
begins_other b h = grind arith

goes_on_other : (b : ℕ) → goes_on_name b ≡ true → b ≢ 91
goes_on_other b h = grind arith

begins_no_digit : (b : ℕ) → begins_name b ≡ true → ¬ (digit_value b < 10)
begins_no_digit b h d = grind arith

literal_reads : (name : Name) → IsLiteralName name → Reads name
literal_reads name h = (identifier_reads name).0 (and_parts _ _ h).0

name_lacks : (name : Name) → IsLiteralName name → Lacks 91 name
name_lacks name h =
    let r = literal_reads name h in
    let rest = All-append (λ b. b ≢ 91) r.middle (replicate r.primes 39)
    (All-weaker (λ b. goes_on_name b ≡ true) (λ b. b ≢ 91) goes_on_other r.middle r.goes_on)
    (All-replicate (λ b. b ≢ 91) r.primes 39 (omega arith)) in
    subst (Lacks 91) (sym r.is)
    (recursion_from_All (λ b. b ≢ 91) (r.first ∷ (r.middle ++ replicate r.primes 39))
    (All-cons (λ b. b ≢ 91) r.first (r.middle ++ replicate r.primes 39) (begins_other r.first r.begins) rest))

name_text_lacks : (name : Option Name) → IfSome name IsLiteralName → Lacks 91 (name_text name)
name_text_lacks None h = tt
name_text_lacks (Some name) h = name_lacks name h

digit_other : (d : ℕ) → digit_value d < 10 → d ≢ 93
digit_other d h = grind arith

digit_bracket : ¬ (digit_value 91 < 10)
digit_bracket h = omega (arith, h)

digits_lack : (ds : List ℕ) → AllDigits 10 ds → Lacks 93 ds
digits_lack [] all = tt
digits_lack (d ∷ ds) all = (digit_other d all.0, digits_lack ds all.1)

same_name : (a b : Option Name) → IfSome a IsLiteralName → IfSome b IsLiteralName → name_text a ≡ name_text b → a ≡ b
same_name None None h k e = refl
same_name None (Some name) h k e = let r = (literal_reads name k).is in absurd cc
same_name (Some name) None h k e = let r = (literal_reads name h).is in absurd cc
same_name (Some a) (Some b) h k e = cc

-- ---- what a form's text begins with is no digit
record BeginsOther (text : List ℕ) : Type 0 where
  first : ℕ
  others : List ℕ
  is : text ≡ first ∷ others
  other : ¬ (digit_value first < 10)

decimal_begins : (n : ℕ) → n < 2 ^ 64 → (first : ℕ) × (others : List ℕ) × (decimal n ≡ first ∷ others) × (digit_value first < 10)
decimal_begins n small = let numeral = (decimal_is_IsNumeral n small).0 in by (decimal n) numeral.0 numeral.1
  where
    by : (ds : List ℕ) → 0 < length ds → AllDigits 10 ds
        → (first : ℕ) × (others : List ℕ) × (ds ≡ first ∷ others) × (digit_value first < 10)
    by [] some all = absurd (omega (arith, some))
    by (d ∷ ds) some all = (d, ds, refl, all.0)

-- ---- the text of a form, and what follows it
leaf_text : (name : Option Name) (width : ℕ) (r : List ℕ)
    → text_of (leaf name width) ++ r ≡ name_text name ++ (91 ∷ (decimal width ++ (93 ∷ r)))
leaf_text name width r = simp append_assoc

pair_text : (left right : Form) (r : List ℕ)
    → text_of (pair left right) ++ r ≡ 91 ∷ (text_of left ++ (codes " -> " ++ (text_of right ++ (93 ∷ r))))
pair_text left right r = simp append_assoc

begins_other_form : (form : Form) → IsNamed form → BeginsOther (text_of form)
begins_other_form (leaf None width) h = record { first = 91; others = decimal width ++ codes "]"; is = refl; other = digit_bracket }
begins_other_form (leaf (Some name) width) h =
    let r = literal_reads name h in
    record {
      first = r.first;
      others = ((r.middle ++ replicate r.primes 39) ++ codes "[" ++ decimal width) ++ codes "]";
      is = ap (λ n. ((n ++ codes "[") ++ decimal width) ++ codes "]") r.is;
      other = begins_no_digit r.first r.begins;
    }
begins_other_form (pair left right) h = record { first = 91; others = _; is = refl; other = digit_bracket }

-- no form that is a leaf has the text of a pair
leaf_no_pair : (name : Option Name) (width : ℕ) (left right : Form) (r s : List ℕ) → width < 2 ^ 64 → IfSome name IsLiteralName
    → IsNamed left
    → name_text name ++ (91 ∷ (decimal width ++ (93 ∷ r))) ≡ 91 ∷ (text_of left ++ s) → ⊥
leaf_no_pair None width left right r s small h k e =
    let d = decimal_begins width small in
    let b = begins_other_form left k in
    let tails : decimal width ++ (93 ∷ r) ≡ text_of left ++ s = cc in
    let firsts : d.0 ∷ (d.1 ++ (93 ∷ r)) ≡ b.first ∷ (b.others ++ s) =
    ap (λ t. t ++ (93 ∷ r)) (sym d.2) ∙ tails ∙ ap (λ t. t ++ s) b.is in
    let same : d.0 ≡ b.first = cc in
    b.other (subst (λ x. digit_value x < 10) same d.3)
leaf_no_pair (Some name) width left right r s small h k e =
    let n = literal_reads name h in
    let same : n.first ∷ ((n.middle ++ replicate n.primes 39) ++ (91 ∷ (decimal width ++ (93 ∷ r)))) ≡ 91 ∷ (text_of left ++ s) =
    ap (λ t. t ++ (91 ∷ (decimal width ++ (93 ∷ r)))) (sym n.is) ∙ e in
    begins_other n.first n.begins (let first : n.first ≡ 91 = cc in first)

same_leaf : (a b : Option Name) (m n : ℕ) (r s : List ℕ) → IfSome a IsLiteralName → IfSome b IsLiteralName → m < 2 ^ 64 → n < 2 ^ 64
    → name_text a ++ (91 ∷ (decimal m ++ (93 ∷ r))) ≡ name_text b ++ (91 ∷ (decimal n ++ (93 ∷ s)))
    → (leaf a m ≡ leaf b n) × (r ≡ s)
same_leaf a b m n r s h k p q e =
    let names = same_up_to 91 (name_text a) (name_text b) (decimal m ++ (93 ∷ r)) (decimal n ++ (93 ∷ s)) (name_text_lacks a h)
    (name_text_lacks b k) e in
    let widths = same_up_to 93 (decimal m) (decimal n) r s (digits_lack (decimal m) (decimal_is_IsNumeral m p).0.1)
    (digits_lack (decimal n) (decimal_is_IsNumeral n q).0.1) names.1 in
    let name : a ≡ b = same_name a b h k names.0 in
    let width : m ≡ n = decimal_injective m n p q widths.0 in
    (cc, widths.1)

same_form : (a b : Form) (r s : List ℕ) → IsNamed a → IsNamed b → width_of a < 2 ^ 64 → width_of b < 2 ^ 64
    → text_of a ++ r ≡ text_of b ++ s
    → (a ≡ b) × (r ≡ s)
same_form (leaf a m) (leaf b n) r s h k p q e = same_leaf a b m n r s h k p q (sym (leaf_text a m r) ∙ e ∙ leaf_text b n s)
same_form (leaf a m) (pair c d) r s h k p q e =
    absurd (leaf_no_pair a m c d r (codes " -> " ++ (text_of d ++ (93 ∷ s))) p h k.0 (sym (leaf_text a m r) ∙ e ∙ pair_text c d s))
same_form (pair a b) (leaf c n) r s h k p q e =
    absurd (leaf_no_pair c n a b s (codes " -> " ++ (text_of b ++ (93 ∷ r))) q k h.0 (sym (leaf_text c n s) ∙ sym e ∙ pair_text a b r))
same_form (pair a b) (pair c d) r s h k p q e =
    let after = codes " -> " ++ (text_of b ++ (93 ∷ r)) in
    let other = codes " -> " ++ (text_of d ++ (93 ∷ s)) in
    let whole : 91 ∷ (text_of a ++ after) ≡ 91 ∷ (text_of c ++ other) =
    sym (pair_text a b r) ∙ e ∙ pair_text c d s in
    let lefts = same_form a c after other h.0 k.0 (omega arith) (omega arith) cc in
    let tails : text_of b ++ (93 ∷ r) ≡ text_of d ++ (93 ∷ s) = let t = lefts.1 in cc in
    let rights = same_form b d (93 ∷ r) (93 ∷ s) h.1 k.1 (omega arith) (omega arith) tails in
    (let x = lefts.0 in let y = rights.0 in cc, let t = rights.1 in cc)

-- ---- shapes
pub same_shape : (a b : Form) → IsWellFormed a → IsWellFormed b → text_of a ≡ text_of b → a ≡ b
same_shape a b h k e =
    let m = h.narrow.coordinates in let n = k.narrow.coordinates in
    let both = same_form a b [] [] h.named k.named (omega arith) (omega arith)
    (append-nil (text_of a) ∙ e ∙ sym (append-nil (text_of b))) in
    both.0

-- ---- spaces
set_no_map : (a b c : Form) → IsNamed a → IsNamed b → width_of a < 2 ^ 64 → width_of b < 2 ^ 64
    → text_of a ≡ text_of b ++ codes " -> " ++ text_of c → ⊥
set_no_map a b c h k p q e =
    let both = same_form a b [] (codes " -> " ++ text_of c) h k p q
    (append-nil (text_of a) ∙ e ∙ append_assoc (text_of b) (codes " -> ") (text_of c)) in
    let tails = both.1 in
    absurd cc

pub same_space : (a b : SpaceForm) → IsWellFormedSpace a → IsWellFormedSpace b → space_text_of a ≡ space_text_of b → a ≡ b
same_space (set_of a) (set_of b) h k e =
    let m = h.narrow.coordinates in let n = k.narrow.coordinates in
    let both = same_form a b [] [] h.named k.named (omega arith) (omega arith)
    (append-nil (text_of a) ∙ e ∙ sym (append-nil (text_of b))) in
    ap set_of both.0
same_space (set_of a) (map_of b c) h k e =
    let m = h.narrow.coordinates in let n = k.narrow.coordinates in
    absurd (set_no_map a b c h.named k.named.0 (omega arith) (omega arith) e)
same_space (map_of b c) (set_of a) h k e =
    let m = h.narrow.coordinates in let n = k.narrow.coordinates in
    absurd (set_no_map a b c k.named h.named.0 (omega arith) (omega arith) (sym e))
same_space (map_of a b) (map_of c d) h k e =
    let m = h.narrow.coordinates in let n = k.narrow.coordinates in
    let whole = sym (append_assoc (text_of a) (codes " -> ") (text_of b)) ∙ e ∙ append_assoc (text_of c) (codes " -> ") (text_of d) in
    let firsts = same_form a c (codes " -> " ++ text_of b) (codes " -> " ++ text_of d) h.named.0 k.named.0 (omega arith) (omega arith)
    whole in
    let tails : text_of b ≡ text_of d = let t = firsts.1 in cc in
    let seconds = same_form b d [] [] h.named.1 k.named.1 (omega arith) (omega arith)
    (append-nil (text_of b) ∙ tails ∙ sym (append-nil (text_of d))) in
    let x = firsts.0 in let y = seconds.0 in cc
