-- The systems of a space, with negatives behind the front.
use Rattle.std.proofs.Common.{◌≡◌, ◌≢◌, ◌↔◌, inl, inr, refl, sym, ap, ◌∙◌, subst, arith, ℕ, zero, suc, ◌+◌, ◌<◌, ◌≤◌, ℤ, pos, neg_ℤ, List, [], ◌∷◌, ◌++◌, length, get_or, map, take, Option, Some, None}
use Rattle.std.specs.Prelude.{option_map, IfOk, Result}
use Rattle.std.specs.List.{All, AllZip, Any}
use Rattle.std.proofs.lemmas.List.{append-nil, length-map, take_all}
use Rattle.std.proofs.lemmas.List.Elements.{All-head, All-nil, All-push, All-tail}
use Rattle.isl_math.specs.Order.{IsBefore}
use Rattle.isl_math.proofs.ListLaws.{AllZip-more, AllZip-with, Any-cases, Any-first, Any-later, Any-none, Any-zipped}
use Rattle.isl_math.proofs.OrderLaws.{IsBefore_irrefl}
use Rattle.isl_math.proofs.Ring.{linear}
use Rattle.isl_meter.specs.Gauge.{Gauge}
use Rattle.isl_piece.specs.declared.definition.Definition.{Definition}
use Rattle.isl_piece.specs.declared.system.System.{System}
use Rattle.isl_piece.specs.System.{HoldsSystem, IsSystemWithin, free_columns}
use Rattle.isl_elim.specs.Elimination.{HoldsAtAny}
use Rattle.isl_greatest_law.specs.Front.{GivesGreatest, IsGreatest}
use Rattle.isl_greatest.specs.Search.{HasGreatest}
use Rattle.isl_pip_law.specs.Least.{GivesLeast, IsLeast}
use Rattle.isl_pip_law.specs.Levels.{AreBehind}
use Rattle.isl_pip_law.specs.Mirror.{IsMirror, IsOneMore}
use Rattle.isl_pip_law.proofs.MirrorLaws.{greatest_from, least_from}
use Rattle.isl_pip.specs.Behind.{chosen_width, ArePutBehind, IsPutBehind}
use Rattle.isl_pip.specs.Greatest.{HaveGreatest}
use Rattle.isl_pip.specs.Levels.{ArePlainOver}
use Rattle.isl_pip.proofs.LevelLaws.{more_is, IsPlain}
use Rattle.isl_pip.proofs.WithoutLaws.{without_at}

-- ---- made one after another
plain_columns : (s : System) → s.definitions ≡ [] → free_columns s ≡ s.columns
plain_columns s plain = let l = ap length plain in omega (arith, l)

pub put_none : (g : Gauge) (front width : ℕ) (systems made : List System) → made ≡ [] → ArePutBehind g front width (take 0 systems) made
put_none g front width systems made is = subst (ArePutBehind g front width []) (sym is) (record {
  plain = record {
    within = All-nil (IsSystemWithin g);
    plain = All-nil IsPlain;
    columns = All-nil (λ s. free_columns s ≡ front + chosen_width width);
  };
  each = tt;
})

one_over : (g : Gauge) (front width : ℕ) (s made : System) → free_columns s ≡ front + width → s.definitions ≡ []
    → IsPutBehind g front width s made
    → IsSystemWithin g made × (made.definitions ≡ []) × (free_columns made ≡ front + chosen_width width)
one_over g front zero s made free plain one =
    (one.within, one.plain, (let a = plain_columns s plain in let b = plain_columns made one.plain in let c = one.columns in omega (arith, a, b, c, free)))
one_over g front (suc width) s made free plain one =
    (one.within, one.plain, (let a = plain_columns s plain in let b = plain_columns made one.plain in let c = one.columns in omega (arith, a, b, c, free)))

pub put_more : (g : Gauge) (front width : ℕ) (systems : List System) (i : ℕ) (s : System) (made all : List System) (one : System)
    → i < length systems → s ≡ get_or systems i s → all ≡ made ++ one ∷ [] → free_columns s ≡ front + width → s.definitions ≡ []
    → ArePutBehind g front width (take i systems) made → IsPutBehind g front width s one → ArePutBehind g front width (take (i + 1) systems) all
put_more g front width systems i s made all one inside read is free plain so_far new =
    let own = one_over g front width s one free plain new in
    subst (λ (ss : List System). ArePutBehind g front width ss all) (sym (more_is systems i s inside read))
    (subst (ArePutBehind g front width (take i systems ++ s ∷ [])) (sym is) (record {
      plain = record {
        within = All-push (IsSystemWithin g) made one so_far.plain.within own.0;
        plain = All-push IsPlain made one so_far.plain.plain own.1;
        columns = All-push (λ t. free_columns t ≡ front + chosen_width width) made one so_far.plain.columns own.2;
      };
      each = AllZip-more (IsPutBehind g front width) (take i systems) made s one so_far.each new;
    }))

pub put_all : (g : Gauge) (front width : ℕ) (systems : List System) (i : ℕ) (made : List System) → length systems ≤ i
    → ArePutBehind g front width (take i systems) made → ArePutBehind g front width systems made
put_all g front width systems i made end = subst (λ (ss : List System). ArePutBehind g front width ss made) (take_all i systems end)

-- by the width
pub behind_zero : {E : Type 0} (g : Gauge) (front width : ℕ) (s : System) (r : Result System E) → width ≡ 0 → IfOk r (IsOneMore g s) → IfOk r (IsPutBehind g front width s)
behind_zero g front zero s r none told = told
behind_zero g front (suc width) s r none told = absurd (omega (arith, none))

pub behind_some : {E : Type 0} (g : Gauge) (front width : ℕ) (s : System) (r : Result System E) → width ≢ 0 → IfOk r (IsMirror g front s)
    → IfOk r (IsPutBehind g front width s)
behind_some g front zero s r some told = absurd (some refl)
behind_some g front (suc width) s r some told = told

-- ---- which lists they leave behind a front
pub zipped_same : (R : System → System → Type 0) (P Q : System → Type 0) → ((s t : System) → R s t → Q t ↔ P s)
    → (systems made : List System) → AllZip R systems made → Any Q made ↔ Any P systems
zipped_same R P Q same [] [] z = ((λ a. absurd (Any-none Q a)), (λ a. absurd (Any-none P a)))
zipped_same R P Q same [] (t ∷ made) z = absurd z
zipped_same R P Q same (s ∷ systems) [] z = absurd z
zipped_same R P Q same (s ∷ systems) (t ∷ made) z =
    let here = same s t z.0 in
    let rest = zipped_same R P Q same systems made z.1 in (
      (λ a. elim (Any-cases Q t made a) [ inl q ↦ Any-first P s systems (here.0 q) | inr b ↦ Any-later P s systems (rest.0 b) ]),
      (λ a. elim (Any-cases P s systems a) [ inl p ↦ Any-first Q t made (here.1 p) | inr b ↦ Any-later Q t made (rest.1 b) ]),
    )

-- the tree's numbers: all of them, or none where nothing stands behind the front
abbrev pub shown : ℕ → Option (List ℤ) → Option (List ℤ)
shown zero r = without_at 0 r
shown (suc width) r = r

module _ (g : Gauge) (front : ℕ) (systems made : List System) (v : List ℤ) (long : length v ≡ front) where
  -- negatives
  module _ (width : ℕ) (each : AllZip (IsMirror g front) systems made) where
    mirror_lists : (us : List ℤ) → AreBehind width made v us ↔ AreBehind width systems v (map neg_ℤ us)
    mirror_lists us =
        let both = zipped_same (IsMirror g front) (λ s. HoldsSystem s (v ++ map neg_ℤ us)) (λ t. HoldsSystem t (v ++ us))
        (λ s t m. m.points v us long) systems made each in
        let l = length-map us neg_ℤ in (
          (λ h. (l ∙ h.0, both.0 h.1)),
          (λ h. (sym l ∙ h.0, both.1 h.1)),
        )

  -- one column that is 0
  module _ (columns : All (λ s. s.columns ≡ front) systems) (each : AllZip (IsOneMore g) systems made) where
    zero_at : (z : ℤ) → HoldsAtAny made (v ++ z ∷ []) ↔ Any (λ s. HoldsSystem s v × (z ≡ pos 0)) systems
    zero_at z =
        zipped_same (λ s t. IsOneMore g s t × (s.columns ≡ front)) (λ s. HoldsSystem s v × (z ≡ pos 0)) (λ t. HoldsSystem t (v ++ z ∷ []))
        (λ s t m. m.0.points v z (long ∙ sym m.1)) systems made (AllZip-with (IsOneMore g) (λ s. s.columns ≡ front) systems made each columns)

    zero_from : (z : ℤ) → HoldsAtAny made (v ++ z ∷ []) → HoldsAtAny systems v × (z ≡ pos 0)
    zero_from z h =
        let some = (zero_at z).0 h in
        ((some.0, some.1, some.2, some.3, some.4.0), some.4.1)

    zero_to : HoldsAtAny systems v → HoldsAtAny made (v ++ pos 0 ∷ [])
    zero_to some = (zero_at (pos 0)).1 (some.0, some.1, some.2, some.3, (some.4, refl))

    one_number : (us : List ℤ) → AreBehind 1 made v us → (us ≡ pos 0 ∷ []) × HoldsAtAny systems v
    one_number [] h = absurd (let l = h.0 in omega (arith, l))
    one_number (z ∷ []) h = let p = zero_from z h.1 in (ap (λ y. y ∷ []) p.1, p.0)
    one_number (z ∷ y ∷ us) h = absurd (let l = h.0 in omega (arith, l))

    no_numbers : (ys : List ℤ) → AreBehind 0 systems v ys → (ys ≡ []) × HoldsAtAny systems v
    no_numbers [] h = (refl, subst (HoldsAtAny systems) (append-nil v) h.1)
    no_numbers (y ∷ ys) h = absurd (let l = h.0 in omega (arith, l))

    none_least : (zs : List ℤ) → AreBehind 0 systems v zs → ¬ IsBefore zs []
    none_least [] h before = before
    none_least (z ∷ zs) h before = before

    bare_least : (r : Option (List ℤ)) → GivesGreatest (AreBehind 1 made v) (option_map (map neg_ℤ) r) → GivesLeast (AreBehind 0 systems v) (without_at 0 r)
    bare_least None none = λ ys h. none (pos 0 ∷ []) (refl, zero_to (no_numbers ys h).1)
    bare_least (Some []) most = absurd (let l = most.0.0 in omega (arith, l))
    bare_least (Some (u ∷ [])) most = (
      (refl, subst (HoldsAtAny systems) (sym (append-nil v)) (one_number (neg_ℤ u ∷ []) most.0).1),
      none_least,
    )
    bare_least (Some (u ∷ y ∷ us)) most = absurd (let l = most.0.0 in omega (arith, l))

    bare_greatest : HasGreatest (AreBehind 1 made v)
    bare_greatest us h = (
      us,
      (
        h,
        λ zs is before.
            IsBefore_irrefl (pos 0 ∷ [])
            (subst (λ l. IsBefore (pos 0 ∷ []) l) (one_number zs is).0 (subst (λ l. IsBefore l zs) (one_number us h).0 before)),
      ),
    )

-- ---- of the systems as they are
module _ (g : Gauge) (front width : ℕ) (systems made : List System) (over : ArePlainOver g (front + width) systems)
    (put : ArePutBehind g front width systems made) where
  columns_front : width ≡ 0 → All (λ s. s.columns ≡ front) systems
  columns_front none = λ k d inside.
      let free = over.columns k d inside in
      let same = plain_columns (get_or systems k d) (over.plain k d inside) in
      omega (arith, free, same, none)

  pub least_of : (v : List ℤ) → length v ≡ front → (r : Option (List ℤ))
      → GivesGreatest (AreBehind (chosen_width width) made v) (option_map (map neg_ℤ) r) → GivesLeast (AreBehind width systems v) (shown width r)
  least_of v long r most = by width refl put.each most
    where
      by : (w : ℕ) → w ≡ width → AllZip (IsPutBehind g front w) systems made
          → GivesGreatest (AreBehind (chosen_width w) made v) (option_map (map neg_ℤ) r) → GivesLeast (AreBehind w systems v) (shown w r)
      by zero e each told = bare_least g front systems made v long (columns_front (sym e)) each r told
      by (suc w) e each told =
          least_from (AreBehind (suc w) systems v) (AreBehind (suc w) made v) (mirror_lists g front systems made v long (suc w) each) r told

  pub has_greatest : ((v ys : List ℤ) → length v ≡ front → AreBehind width systems v ys → (zs : List ℤ) × IsLeast (AreBehind width systems v) zs)
      → HaveGreatest front (chosen_width width) made
  has_greatest least v long = by width refl put.each (λ ys is. least v ys long is)
    where
      by : (w : ℕ) → w ≡ width → AllZip (IsPutBehind g front w) systems made
          → ((ys : List ℤ) → AreBehind w systems v ys → (zs : List ℤ) × IsLeast (AreBehind w systems v) zs)
          → HasGreatest (AreBehind (chosen_width w) made v)
      by zero e each has = bare_greatest g front systems made v long (columns_front (sym e)) each
      by (suc w) e each has = λ us h.
          let same = mirror_lists g front systems made v long (suc w) each in
          let found = has (map neg_ℤ us) ((same us).0 h) in
          (map neg_ℤ found.0, greatest_from (AreBehind (suc w) systems v) (AreBehind (suc w) made v) same found.0 found.1)
