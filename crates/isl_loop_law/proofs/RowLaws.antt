-- Rows with one text, before what cannot go on with it, are equal.
use Rattle.std.proofs.Common.{◌≡◌, ◌<◌, ◌≤◌, ◌∙◌, ◌^◌, ◌==◌, ℕ, false, List, [], ◌∷◌, ◌++◌, length, map}
use Rattle.std.proofs.Common.{slice_index, ap, ap₂, sym, refl, arith, ℤ, pos, negsuc, ◌≤ℤ◌, ◌<ℤ◌}
use Rattle.std.specs.Prelude.{codes, unsigned_abs}
use Rattle.std.specs.Fmt.{decimal}
use Rattle.std.specs.List.{AllByRecursion}
use Rattle.std.proofs.lemmas.List.{append_assoc, append_cancel_left}
use Rattle.std.proofs.lemmas.List.Elements.{recursion_from_All}
use Rattle.isl_meter.specs.Gauge.{Gauge, IsWithin}
use Rattle.isl_space.specs.Name.{Name}
use Rattle.isl_space.proofs.DistinctLaws.{Distinct}
use Rattle.isl_piece.specs.declared.row.RowKind.{RowKind}
use Rattle.isl_piece.specs.declared.row.RowKind.TheVariants.{Zero, AtLeast, Divides, NotDivides}
use Rattle.isl_piece.specs.declared.row.Row.{Row}
use Rattle.isl_piece.specs.Row.{HasModulus}
use Rattle.isl_row_text.specs.declared.sum.Side.{Side}
use Rattle.isl_row_text.specs.declared.sum.Side.TheVariants.{Left, Right}
use Rattle.isl_row_text.specs.Joined.{Text, each_after}
use Rattle.isl_row_text.specs.RowText.{row_text, kind_text}
use Rattle.isl_row_text.specs.Sum.{share, side_text}
use Rattle.isl_loop.specs.Formed.{IsRowOver}
use Rattle.isl_loop_text.specs.LoopText.{condition_text}
use Rattle.isl_loop_law.proofs.WordLaws.{in_word, IsWord, tails, decimals, IsNaming, positive_same, wide}
use Rattle.isl_loop_law.proofs.TermLaws.{EndsSum}
use Rattle.isl_loop_law.proofs.SideLaws.{AreSmall, shares, side_splits, side_head}
use Rattle.isl_loop_law.proofs.SignLaws.{clash}
use Rattle.isl_loop_law.proofs.LeftLaws.{IsLeftRow, divides_left, not_divides_left}

-- ---- numbers and their shares
share_small : (side : Side) (x : ℤ) → unsigned_abs x < 10 ^ 64 → share side x < 10 ^ 64
share_small Left (pos n) small = small
share_small Left (negsuc n) small = omega arith
share_small Right (pos n) small = omega arith
share_small Right (negsuc n) small = small

shares_small : (g : Gauge) → g.bits ≤ 127 → (side : Side) (xs : List ℤ) → AllByRecursion (IsWithin g) xs → AreSmall side xs
shares_small g gb side [] within = tt
shares_small g gb side (x ∷ xs) within = (share_small side x (wide g x gb within.0), shares_small g gb side xs within.1)

number_same : (x y : ℤ) → share Left x ≡ share Left y → share Right x ≡ share Right y → x ≡ y
number_same (pos m) (pos n) a b = ap pos a
number_same (pos m) (negsuc n) a b = absurd (omega (arith, b))
number_same (negsuc m) (pos n) a b = absurd (omega (arith, b))
number_same (negsuc m) (negsuc n) a b = let less : m ≡ n = omega (arith, b) in ap negsuc less

first_number : (m n : ℕ) (ms ns : List ℕ) → m ∷ ms ≡ n ∷ ns → m ≡ n
first_number m n ms ns same = cc

more_numbers : (m n : ℕ) (ms ns : List ℕ) → m ∷ ms ≡ n ∷ ns → ms ≡ ns
more_numbers m n ms ns same = cc

numbers_same : (xs ys : List ℤ) → shares Left xs ≡ shares Left ys → shares Right xs ≡ shares Right ys → xs ≡ ys
numbers_same [] [] a b = refl
numbers_same [] (y ∷ ys) a b = absurd (omega (arith, ap (λ (l : List ℕ). length l) a))
numbers_same (x ∷ xs) [] a b = absurd (omega (arith, ap (λ (l : List ℕ). length l) a))
numbers_same (x ∷ xs) (y ∷ ys) a b =
    ap₂ (λ (z : ℤ) (zs : List ℤ). z ∷ zs)
    (number_same x y (first_number (share Left x) (share Left y) (shares Left xs) (shares Left ys) a)
    (first_number (share Right x) (share Right y) (shares Right xs) (shares Right ys) b))
    (numbers_same xs ys (more_numbers (share Left x) (share Left y) (shares Left xs) (shares Left ys) a)
    (more_numbers (share Right x) (share Right y) (shares Right xs) (shares Right ys) b))

-- what is not below 0 has its share on the left alone
left_share : (x : ℤ) → pos 0 ≤ℤ x → share Right x ≡ 0
left_share (pos n) low = refl
left_share (negsuc n) low = grind arith

left_shares : (xs ys : List ℤ) → AllByRecursion (λ x. pos 0 ≤ℤ x) xs → AllByRecursion (λ x. pos 0 ≤ℤ x) ys → shares Left xs ≡ shares Left ys
    → shares Right xs ≡ shares Right ys
left_shares [] [] a b same = refl
left_shares [] (y ∷ ys) a b same = absurd (omega (arith, ap (λ (l : List ℕ). length l) same))
left_shares (x ∷ xs) [] a b same = absurd (omega (arith, ap (λ (l : List ℕ). length l) same))
left_shares (x ∷ xs) (y ∷ ys) a b same =
    ap₂ (λ (n : ℕ) (ns : List ℕ). n ∷ ns) (left_share x a.0 ∙ sym (left_share y b.0))
    (left_shares xs ys a.1 b.1 (more_numbers (share Left x) (share Left y) (shares Left xs) (shares Left ys) same))

row_same : (r s : Row) → r.kind ≡ s.kind → r.coefs ≡ s.coefs → r.constant ≡ s.constant → r.k ≡ s.k → r ≡ s
row_same r s a b c d = λ i. record { kind = a i; coefs = b i; constant = c i; k = d i }

-- ---- one row
three : (l r m z : Text) → ((l ++ r) ++ m) ++ z ≡ l ++ (r ++ (m ++ z))
three l r m z = simp append_assoc

four : (l r m e z : Text) → (((l ++ r) ++ m) ++ e) ++ z ≡ l ++ (r ++ (m ++ (e ++ z)))
four l r m e z = simp append_assoc

-- two rows over columns with these names
module _ (names : List Name) (n : ℕ) (count : n ≡ length names) (distinct : Distinct names) (named : AllByRecursion IsNaming names)
    (g h : Gauge) (gb : g.bits ≤ 127) (hb : h.bits ≤ 127) where
  module _ (r s : Row) (over : IsRowOver g n r) (ov : IsRowOver h n s) (z y : Text) (p : EndsSum z) (q : EndsSum y) where
    side_same : (side : Side) (w v : Text) → EndsSum w → EndsSum v
        → side_text side names r.coefs r.constant ++ w ≡ side_text side names s.coefs s.constant ++ v
        → (shares side r.coefs ≡ shares side s.coefs) × (share side r.constant ≡ share side s.constant) × (w ≡ v)
    side_same side w v a b same =
        side_splits names distinct named side r.coefs s.coefs r.constant s.constant w v (over.shape.width ∙ count) (ov.shape.width ∙ count)
        (shares_small g gb side r.coefs (recursion_from_All (IsWithin g) r.coefs over.within.coefs))
        (shares_small h hb side s.coefs (recursion_from_All (IsWithin h) s.coefs ov.within.coefs))
        (share_small side r.constant (wide g r.constant gb over.within.constant))
        (share_small side s.constant (wide h s.constant hb ov.within.constant))
        a b same

    -- two sides, with a relation between them
    relation_splits : (relation : Text) → ((w : Text) → EndsSum (relation ++ w)) → r.kind ≡ s.kind → r.k ≡ s.k
        → ((side_text Left names r.coefs r.constant ++ relation) ++ side_text Right names r.coefs r.constant) ++ z
        ≡ ((side_text Left names s.coefs s.constant ++ relation) ++ side_text Right names s.coefs s.constant) ++ y
        → (r ≡ s) × (z ≡ y)
    relation_splits relation ends kinds moduli same =
        let first = side_text Right names r.coefs r.constant in
        let second = side_text Right names s.coefs s.constant in
        let left = side_same Left (relation ++ (first ++ z)) (relation ++ (second ++ y)) (ends (first ++ z)) (ends (second ++ y))
        (sym (three (side_text Left names r.coefs r.constant) relation first z) ∙ same
        ∙ three (side_text Left names s.coefs s.constant) relation second y) in
        let right = side_same Right z y p q (append_cancel_left relation (first ++ z) (second ++ y) left.2) in (
          row_same r s kinds (numbers_same r.coefs s.coefs left.0 right.0) (number_same r.constant s.constant left.1 right.1) moduli,
          right.2,
        )

    -- other relations
    relations_apart : {A : Type 0} (relation other : Text) → ((w : Text) → EndsSum (relation ++ w)) → ((w : Text) → EndsSum (other ++ w))
        → ((w v : Text) → slice_index (relation ++ w) 1 == slice_index (other ++ v) 1 ≡ false)
        → ((side_text Left names r.coefs r.constant ++ relation) ++ side_text Right names r.coefs r.constant) ++ z
        ≡ ((side_text Left names s.coefs s.constant ++ other) ++ side_text Right names s.coefs s.constant) ++ y → A
    relations_apart relation other a b differs same =
        let first = side_text Right names r.coefs r.constant ++ z in
        let second = side_text Right names s.coefs s.constant ++ y in
        let left = side_same Left (relation ++ first) (other ++ second) (a first) (b second)
        (sym (three (side_text Left names r.coefs r.constant) relation (side_text Right names r.coefs r.constant) z) ∙ same
        ∙ three (side_text Left names s.coefs s.constant) other (side_text Right names s.coefs s.constant) y) in
        clash 1 (relation ++ first) (other ++ second) (differs first second) left.2

    -- remainders
    remainder_parts : (e f : Text) → pos 0 <ℤ r.k → pos 0 <ℤ s.k
        → (((side_text Left names r.coefs r.constant ++ codes ") mod ") ++ decimal (unsigned_abs r.k)) ++ (32 ∷ e)) ++ z
        ≡ (((side_text Left names s.coefs s.constant ++ codes ") mod ") ++ decimal (unsigned_abs s.k)) ++ (32 ∷ f)) ++ y
        → (shares Left r.coefs ≡ shares Left s.coefs) × (share Left r.constant ≡ share Left s.constant) × (r.k ≡ s.k) × (e ++ z ≡ f ++ y)
    remainder_parts e f low high same =
        let first = decimal (unsigned_abs r.k) ++ (32 ∷ (e ++ z)) in
        let second = decimal (unsigned_abs s.k) ++ (32 ∷ (f ++ y)) in
        let left = side_same Left (codes ") mod " ++ first) (codes ") mod " ++ second) (record { stops = refl; other = refl })
        (record { stops = refl; other = refl })
        (sym (four (side_text Left names r.coefs r.constant) (codes ") mod ") (decimal (unsigned_abs r.k)) (32 ∷ e) z)
        ∙ same ∙ four (side_text Left names s.coefs s.constant) (codes ") mod ") (decimal (unsigned_abs s.k)) (32 ∷ f) y) in
        let parts = decimals (unsigned_abs r.k) (unsigned_abs s.k) (32 ∷ (e ++ z)) (32 ∷ (f ++ y)) (wide g r.k gb over.within.k)
        (wide h s.k hb ov.within.k) refl refl (append_cancel_left (codes ") mod ") first second left.2) in
        (left.0, left.1, positive_same r.k s.k low high parts.0, tails 32 32 (e ++ z) (f ++ y) parts.1)

    remainder_splits : (e : Text) → r.kind ≡ s.kind → pos 0 <ℤ r.k → pos 0 <ℤ s.k → IsLeftRow r → IsLeftRow s
        → (((side_text Left names r.coefs r.constant ++ codes ") mod ") ++ decimal (unsigned_abs r.k)) ++ (32 ∷ e)) ++ z
        ≡ (((side_text Left names s.coefs s.constant ++ codes ") mod ") ++ decimal (unsigned_abs s.k)) ++ (32 ∷ e)) ++ y
        → (r ≡ s) × (z ≡ y)
    remainder_splits e kinds low high rl sl same =
        let parts = remainder_parts e e low high same in
        let right = left_shares r.coefs s.coefs (recursion_from_All (λ c. pos 0 ≤ℤ c) r.coefs rl.coefs)
        (recursion_from_All (λ c. pos 0 ≤ℤ c) s.coefs sl.coefs) parts.0 in (
          row_same r s kinds (numbers_same r.coefs s.coefs parts.0 right)
              (number_same r.constant s.constant parts.1 (left_share r.constant rl.constant ∙ sym (left_share s.constant sl.constant))) parts.2,
          append_cancel_left e z y parts.3,
        )

-- a relation is no remainder, and no `true`
no_side : {A : Type 0} (names : List Name) (n : ℕ) (g : Gauge) → g.bits ≤ 127 → AllByRecursion IsNaming names → (r : Row) → IsRowOver g n r
    → (w t z v : Text) → IsWord v → in_word (slice_index t 0) ≡ false → slice_index t 0 == 32 ≡ false
    → ((side_text Left names r.coefs r.constant ++ (32 ∷ w)) ++ side_text Right names r.coefs r.constant) ++ z ≡ v ++ t → A
no_side names n g gb named r over w t z v word stop other same =
    let right = side_text Right names r.coefs r.constant in
    side_head Left names r.coefs r.constant v (32 ∷ (w ++ (right ++ z))) t named
    (shares_small g gb Left r.coefs (recursion_from_All (IsWithin g) r.coefs over.within.coefs))
    (share_small Left r.constant (wide g r.constant gb over.within.constant)) refl refl stop other word
    (sym (three (side_text Left names r.coefs r.constant) (32 ∷ w) right z) ∙ same)

module _ (names : List Name) (n : ℕ) (count : n ≡ length names) (distinct : Distinct names) (named : AllByRecursion IsNaming names)
    (g h : Gauge) (gb : g.bits ≤ 127) (hb : h.bits ≤ 127) where
  row_splits : (r s : Row) → IsRowOver g n r → IsRowOver h n s → (z y : Text) → EndsSum z → EndsSum y
      → row_text names r ++ z ≡ row_text names s ++ y → (r ≡ s) × (z ≡ y)
  row_splits r s over ov z y p q same = by r.kind s.kind refl refl over.shape.modulus ov.shape.modulus same
    where
      equal : (w : Text) → EndsSum (codes " = " ++ w)
      equal w = record { stops = refl; other = refl }

      least : (w : Text) → EndsSum (codes " >= " ++ w)
      least w = record { stops = refl; other = refl }

      by : (k l : RowKind) → r.kind ≡ k → s.kind ≡ l → HasModulus k r.k → HasModulus l s.k
          → kind_text k names r ++ z ≡ kind_text l names s ++ y → (r ≡ s) × (z ≡ y)
      by Zero Zero a b c d same =
          relation_splits names n count distinct named g h gb hb r s over ov z y p q (codes " = ") equal (a ∙ sym b) (c ∙ sym d) same
      by AtLeast AtLeast a b c d same =
          relation_splits names n count distinct named g h gb hb r s over ov z y p q (codes " >= ") least (a ∙ sym b) (c ∙ sym d) same
      by Zero AtLeast a b c d same =
          relations_apart names n count distinct named g h gb hb r s over ov z y p q (codes " = ") (codes " >= ") equal least
          (λ w v. refl) same
      by AtLeast Zero a b c d same =
          relations_apart names n count distinct named g h gb hb r s over ov z y p q (codes " >= ") (codes " = ") least equal
          (λ w v. refl) same
      by Divides Divides a b c d same =
          remainder_splits names n count distinct named g h gb hb r s over ov z y p q (codes "= 0") (a ∙ sym b) c d
          (divides_left r a c over.normal)
          (divides_left s b d ov.normal) (tails 40 40 _ _ same)
      by NotDivides NotDivides a b c d same =
          remainder_splits names n count distinct named g h gb hb r s over ov z y p q (codes "!= 0") (a ∙ sym b) c d
          (not_divides_left r a c over.normal)
          (not_divides_left s b d ov.normal) (tails 40 40 _ _ same)
      by Divides NotDivides a b c d same =
          let parts = remainder_parts names n count distinct named g h gb hb r s over ov z y p q (codes "= 0") (codes "!= 0") c d
          (tails 40 40 _ _ same) in
          clash 0 (codes "= 0" ++ z) (codes "!= 0" ++ y) refl parts.3
      by NotDivides Divides a b c d same =
          let parts = remainder_parts names n count distinct named g h gb hb r s over ov z y p q (codes "!= 0") (codes "= 0") c d
          (tails 40 40 _ _ same) in
          clash 0 (codes "!= 0" ++ z) (codes "= 0" ++ y) refl parts.3
      by Zero Divides a b c d same = no_side names n g gb named r over (codes "= ") (kind_text Divides names s ++ y) z [] tt refl refl same
      by Zero NotDivides a b c d same =
          no_side names n g gb named r over (codes "= ") (kind_text NotDivides names s ++ y) z [] tt refl refl same
      by AtLeast Divides a b c d same =
          no_side names n g gb named r over (codes ">= ") (kind_text Divides names s ++ y) z [] tt refl refl same
      by AtLeast NotDivides a b c d same =
          no_side names n g gb named r over (codes ">= ") (kind_text NotDivides names s ++ y) z [] tt refl refl same
      by Divides Zero a b c d same =
          no_side names n h hb named s ov (codes "= ") (kind_text Divides names r ++ z) y [] tt refl refl (sym same)
      by NotDivides Zero a b c d same =
          no_side names n h hb named s ov (codes "= ") (kind_text NotDivides names r ++ z) y [] tt refl refl (sym same)
      by Divides AtLeast a b c d same =
          no_side names n h hb named s ov (codes ">= ") (kind_text Divides names r ++ z) y [] tt refl refl (sym same)
      by NotDivides AtLeast a b c d same =
          no_side names n h hb named s ov (codes ">= ") (kind_text NotDivides names r ++ z) y [] tt refl refl (sym same)

  -- ---- rows that are all to hold
  ends_rows : (texts : List Text) (z : Text) → EndsSum (each_after (codes " && ") texts ++ (41 ∷ 32 ∷ z))
  ends_rows [] z = record { stops = refl; other = refl }
  ends_rows (text ∷ texts) z = record { stops = refl; other = refl }

  more_splits : (rs ss : List Row) (z y : Text) → AllByRecursion (IsRowOver g n) rs → AllByRecursion (IsRowOver h n) ss
      → each_after (codes " && ") (map (row_text names) rs) ++ (41 ∷ 32 ∷ z)
      ≡ each_after (codes " && ") (map (row_text names) ss) ++ (41 ∷ 32 ∷ y)
      → (rs ≡ ss) × (z ≡ y)
  more_splits [] [] z y over ov same = (refl, append_cancel_left (codes ") ") z y same)
  more_splits [] (s ∷ ss) z y over ov same =
      clash 0 (41 ∷ 32 ∷ z) (each_after (codes " && ") (map (row_text names) (s ∷ ss)) ++ (41 ∷ 32 ∷ y)) refl same
  more_splits (r ∷ rs) [] z y over ov same =
      clash 0 (each_after (codes " && ") (map (row_text names) (r ∷ rs)) ++ (41 ∷ 32 ∷ z)) (41 ∷ 32 ∷ y) refl same
  more_splits (r ∷ rs) (s ∷ ss) z y over ov same =
      let first = each_after (codes " && ") (map (row_text names) rs) in
      let second = each_after (codes " && ") (map (row_text names) ss) in
      let one = row_splits r s over.0 ov.0 (first ++ (41 ∷ 32 ∷ z)) (second ++ (41 ∷ 32 ∷ y)) (ends_rows (map (row_text names) rs) z)
      (ends_rows (map (row_text names) ss) y)
      (sym (append_assoc (row_text names r) first (41 ∷ 32 ∷ z))
      ∙ append_cancel_left (codes " && ") ((row_text names r ++ first) ++ (41 ∷ 32 ∷ z))
      ((row_text names s ++ second) ++ (41 ∷ 32 ∷ y)) same
      ∙ append_assoc (row_text names s) second (41 ∷ 32 ∷ y)) in
      let rest = more_splits rs ss z y over.1 ov.1 one.1 in
      (ap₂ (λ (x : Row) (xs : List Row). x ∷ xs) one.0 rest.0, rest.1)

  true_word : IsWord (codes "true")
  true_word = (refl, (refl, (refl, (refl, tt))))

  -- a row is not `true`
  no_true : {A : Type 0} (k : Gauge) → k.bits ≤ 127 → (r : Row) → IsRowOver k n r → (w z : Text)
      → row_text names r ++ w ≡ codes "true" ++ (41 ∷ z) → A
  no_true {A} k kb r over w z same = by r.kind same
    where
      by : (kind : RowKind) → kind_text kind names r ++ w ≡ codes "true" ++ (41 ∷ z) → A
      by Zero same = no_side names n k kb named r over (codes "= ") (41 ∷ z) w (codes "true") true_word refl refl same
      by AtLeast same = no_side names n k kb named r over (codes ">= ") (41 ∷ z) w (codes "true") true_word refl refl same
      by Divides same = clash 0 (kind_text Divides names r ++ w) (codes "true" ++ (41 ∷ z)) refl same
      by NotDivides same = clash 0 (kind_text NotDivides names r ++ w) (codes "true" ++ (41 ∷ z)) refl same

  pub condition_splits : (rs ss : List Row) (z y : Text) → AllByRecursion (IsRowOver g n) rs → AllByRecursion (IsRowOver h n) ss
      → condition_text (map (row_text names) rs) ++ (41 ∷ 32 ∷ z) ≡ condition_text (map (row_text names) ss) ++ (41 ∷ 32 ∷ y)
      → (rs ≡ ss) × (z ≡ y)
  condition_splits [] [] z y over ov same = (refl, append_cancel_left (codes "true) ") z y same)
  condition_splits [] (s ∷ ss) z y over ov same =
      let second = each_after (codes " && ") (map (row_text names) ss) in
      no_true h hb s ov.0 (second ++ (41 ∷ 32 ∷ y)) (32 ∷ z) (sym (append_assoc (row_text names s) second (41 ∷ 32 ∷ y)) ∙ sym same)
  condition_splits (r ∷ rs) [] z y over ov same =
      let first = each_after (codes " && ") (map (row_text names) rs) in
      no_true g gb r over.0 (first ++ (41 ∷ 32 ∷ z)) (32 ∷ y) (sym (append_assoc (row_text names r) first (41 ∷ 32 ∷ z)) ∙ same)
  condition_splits (r ∷ rs) (s ∷ ss) z y over ov same =
      more_splits (r ∷ rs) (s ∷ ss) z y over ov (ap (λ (t : Text). codes " && " ++ t) same)
