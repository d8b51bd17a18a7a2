-- What checking a node leaves, from what checking its parts leaves.
use Rattle.std.proofs.Common.{◌≡◌, ◌≢◌, ◌⊎◌, inl, inr, ◌∙◌, refl, sym, ap, ap₂, subst, arith, Bool, true, false, ◌&&◌, int_lt, nat_eq, ℕ}
use Rattle.std.proofs.Common.{suc, ◌+◌, ◌-◌, ◌≤◌, ◌<◌, ℤ, pos, ◌-ℤ◌, ◌<ℤ◌, ◌≤ℤ◌, unsigned_abs, List, [], ◌∷◌, length, drop, get_or}
use Rattle.std.specs.Prelude.{Result, Ok, Err, if◌then◌else◌}
use Rattle.std.specs.List.{Any}
use Rattle.std.proofs.lemmas.Bool.{true≢false, eqb-true, eqb-false}
use Rattle.isl_math.proofs.Ring.{linear}
use Rattle.isl_piece.proofs.NormalCases.{int_lt-true, int_lt-false}
use Rattle.std.proofs.lemmas.List.{drop_all, drop_more}
use Rattle.std.proofs.lemmas.List.FromFn.{length-map-range_with_len}
use Rattle.isl_meter.specs.Gauge.{Gauge, IsCharged, spent_out}
use Rattle.isl_meter.specs.declared.Cut.{Cut}
use Rattle.isl_meter.specs.declared.Cut.TheVariants.{Overflow, Budget, NoMemory}
use Rattle.isl_meter.proofs.CutLemmas.{IsCharged_refl, IsCharged_trans, IsCharged-unit, IsCutBy-after, IsCutBy-charged, IsCutBy-overflown}
use Rattle.isl_meter.proofs.CutLemmas.{IsCutBy-spent_out}
use Rattle.isl_piece.specs.Cut.{IsCutFor}
use Rattle.isl_piece.specs.declared.row.Row.{Row}
use Rattle.isl_piece.specs.Negation.{below}
use Rattle.isl_piece.specs.Normal.{bound, congruence}
use Rattle.isl_refute.specs.declared.tree.Cert.{Cert}
use Rattle.isl_refute.specs.declared.tree.Form.{Form}
use Rattle.isl_refute.specs.Checked.{IsChecked, IsCutOnly}
use Rattle.isl_refute.specs.Parts.{fit, refute_all, residues_refute, sides_refute, visit_all, visit_outside, visit_residues, visit_sides}
use Rattle.isl_refute.specs.Parts.{IsLeft, OutsidePass, ResiduesPass, RowsPass, SidesPass, SomePass}
use Rattle.isl_refute.specs.Passes.{IsCounted, Passes, RowPasses}
use Rattle.isl_refute.specs.Refutes.{and_row, is_over, negations, refutes, residue_rows}
use Rattle.isl_refute.specs.Visited.{visited}
use Rattle.isl_refute.proofs.StepLaws.{lt_from}

-- ---- cuts
abbrev is_over_limit : Cut → Bool
is_over_limit Overflow = true
is_over_limit Budget = false
is_over_limit NoMemory = false

abbrev is_spent : Cut → Bool
is_spent Overflow = false
is_spent Budget = true
is_spent NoMemory = false

memory_not : (P : Type 0) → NoMemory ≡ Overflow → P
memory_not P e = absurd (true≢false (sym (ap is_over_limit e)))

budget_not : (P : Type 0) → Budget ≡ Overflow → P
budget_not P e = absurd (true≢false (sym (ap is_over_limit e)))

overflow_unspent : (P : Type 0) → Overflow ≡ Budget → P
overflow_unspent P e = absurd (true≢false (ap is_over_limit e))

memory_unspent : (P : Type 0) → NoMemory ≡ Budget → P
memory_unspent P e = absurd (true≢false (sym (ap is_spent e)))

-- of an equal number
pub moved : (Q : ℕ → Type 0) (x y : ℕ) → x ≡ y → Q x → Q y
moved Q x y e p = subst Q e p

pub plus_few : (few more : ℕ) → few ≤ few + more
plus_few few more = omega arith

-- before any unit
pub cut_for : (g h : Gauge) (P : Type 0) (Q : ℕ → Type 0) (count : ℕ) (cut : Cut) → IsCutFor P g h cut → (P → Q 0)
    → IsCutOnly Q count g h cut
cut_for g h P Q count Overflow e f = record {
  by = IsCutBy-overflown g h e.1;
  most = let u = ap (λ (m : Gauge). m.units) e.1 in omega (arith, u);
  budget = overflow_unspent (h.units < g.units + count);
  overflow = λ o. moved Q 0 (h.units - g.units) (let u = ap (λ (m : Gauge). m.units) e.1 in omega (arith, u)) (f e.0);
}
cut_for g h P Q count Budget e f = absurd e
cut_for g h P Q count NoMemory e f = record {
  by = IsCutBy-charged g h (IsCharged_refl g h e);
  most = let u = ap (λ (m : Gauge). m.units) e in omega (arith, u);
  budget = memory_unspent (h.units < g.units + count);
  overflow = memory_not (Q (h.units - g.units));
}

pub cut_spent : (g h : Gauge) (Q : ℕ → Type 0) (count : ℕ) → g.units ≡ g.budget → h ≡ spent_out g → 1 ≤ count
    → IsCutOnly Q count g h Budget
cut_spent g h Q count full spent some = record {
  by = IsCutBy-spent_out g h full spent;
  most = let u = ap (λ (m : Gauge). m.units) spent in omega (arith, u);
  budget = λ e. let u = ap (λ (m : Gauge). m.units) spent in omega (arith, u, some);
  overflow = budget_not (Q (h.units - g.units));
}

pub no_memory : (g h : Gauge) (Q : ℕ → Type 0) (count : ℕ) → h ≡ g → IsCutOnly Q count g h NoMemory
no_memory g h Q count same = record {
  by = IsCutBy-charged g h (IsCharged_refl g h same);
  most = let u = ap (λ (m : Gauge). m.units) same in omega (arith, u);
  budget = memory_unspent (h.units < g.units + count);
  overflow = memory_not (Q (h.units - g.units));
}

pub cut_weaker : (g h : Gauge) (P Q : ℕ → Type 0) (few count : ℕ) (cut : Cut) → IsCutOnly P few g h cut → few ≤ count
    → ((m : ℕ) → P m → Q m) → IsCutOnly Q count g h cut
cut_weaker g h P Q few count cut e below f = record {
  by = e.by;
  most = let m = e.most in omega (arith, m, below);
  budget = λ o. let m = e.budget o in omega (arith, m, below);
  overflow = λ o. f (h.units - g.units) (e.overflow o);
}

-- behind so many units
pub cut_after : (g h k : Gauge) (P Q : ℕ → Type 0) (used few count : ℕ) (cut : Cut) → IsCounted g h used → IsCutOnly P few h k cut
    → used + few ≤ count → ((m : ℕ) → P m → Q (used + m)) → IsCutOnly Q count g k cut
cut_after g h k P Q used few count cut c e below f = record {
  by = IsCutBy-after g h k cut c.charged e.by;
  most = let u = c.units in let m = e.most in omega (arith, u, m, below);
  budget = λ o. let u = c.units in let m = e.budget o in omega (arith, u, m, below);
  overflow = λ o. moved Q (used + (k.units - h.units)) (k.units - g.units)
      (let u = c.units in let l = e.by.kept.units in omega (arith, u, l)) (f (k.units - h.units) (e.overflow o));
}

-- ---- answers
pub counted_same : (g h : Gauge) (count number : ℕ) → IsCounted g h count → number ≡ count → IsCounted g h number
counted_same g h count number c same = subst (IsCounted g h) (sym same) c

-- an answer for no unit: the meter is as it was
pub counted_no : (g h : Gauge) (count : ℕ) → h ≡ g → count ≡ 0 → IsCounted g h count
counted_no g h count same none = record {
  charged = IsCharged_refl g h same;
  units = let u = ap (λ (m : Gauge). m.units) same in omega (arith, u, none);
}

pub counted_unit : (g h : Gauge) → h ≡ record g { units = g.units + 1 } → IsCounted g h 1
counted_unit g h unit = record { charged = IsCharged-unit g h unit; units = ap (λ (m : Gauge). m.units) unit }

pub checked_same : (g h : Gauge) (says own : Bool) (count number : ℕ) (P Q : ℕ → Type 0) (result : Result Bool Cut)
    → IsChecked g h says count P result → own ≡ says → number ≡ count → ((m : ℕ) → P m → Q m) → IsChecked g h own number Q result
checked_same g h says own count number P Q (Ok b) p same as_many f = (p.0 ∙ sym same, counted_same g h count number p.1 as_many)
checked_same g h says own count number P Q (Err cut) e same as_many f = cut_weaker g h P Q count number cut e (omega (arith, as_many)) f

-- behind a unit
pub checked_unit : (g h k : Gauge) (says : Bool) (count : ℕ) (P : ℕ → Type 0) (result : Result Bool Cut)
    → h ≡ record g { units = g.units + 1 } → 1 ≤ count → IsChecked h k says (count - 1) (λ m. P (1 + m)) result
    → IsChecked g k says count P result
checked_unit g h k says count P (Ok b) unit some p = (
  p.0,
  record {
    charged = IsCharged_trans g h k (IsCharged-unit g h unit) p.1.charged;
    units = let v = p.1.units in let u = ap (λ (m : Gauge). m.units) unit in omega (arith, v, u, some);
  },
)
checked_unit g h k says count P (Err cut) unit some e =
    cut_after g h k (λ m. P (1 + m)) P 1 (count - 1) count cut (counted_unit g h unit) e (omega (arith, some)) (λ m p. p)

-- ---- one part after another
counted_on : (outs : List (List Row)) (n : ℕ) (rows : List Row) (r : Row) (part : Cert) (more : List Row) (certs : List Cert)
    → refutes outs n (and_row rows r) part ≡ true
    → visit_all outs n rows (r ∷ more) (part ∷ certs) ≡ visited outs n (and_row rows r) part + visit_all outs n rows more certs
counted_on outs n rows r part more certs says =
    ap (λ b. visited outs n (and_row rows r) part + (if b then visit_all outs n rows more certs else 0)) says

counted_off : (outs : List (List Row)) (n : ℕ) (rows : List Row) (r : Row) (part : Cert) (more : List Row) (certs : List Cert)
    → refutes outs n (and_row rows r) part ≡ false
    → visit_all outs n rows (r ∷ more) (part ∷ certs) ≡ visited outs n (and_row rows r) part + 0
counted_off outs n rows r part more certs says =
    ap (λ b. visited outs n (and_row rows r) part + (if b then visit_all outs n rows more certs else 0)) says

counted_few : (outs : List (List Row)) (n : ℕ) (rows : List Row) (r : Row) (part : Cert) (more : List Row) (certs : List Cert)
    → visited outs n (and_row rows r) part ≤ visit_all outs n rows (r ∷ more) (part ∷ certs)
counted_few outs n rows r part more certs =
    plus_few (visited outs n (and_row rows r) part) (if refutes outs n (and_row rows r) part then visit_all outs n rows more certs else 0)

behind : (used m : ℕ) → m ≡ (used + m) - used
behind used m = omega arith

module _ (bits : ℕ) (outs : List (List Row)) (n : ℕ) (rows : List Row) where
  pub left_start : (g h : Gauge) (all : List Row) (whole : List Cert) → h ≡ g → IsLeft bits outs n rows g h all all whole whole
  left_start g h all whole same = record {
    answer = refl;
    charged = IsCharged_refl g h same;
    units = let u = ap (λ (m : Gauge). m.units) same in omega (arith, u);
    passes = λ m p. moved (SomePass bits outs n rows all whole) m ((h.units - g.units) + m)
        (let u = ap (λ (k : Gauge). k.units) same in omega (arith, u)) p;
  }

  opened : {X : Type 0} (xs : List X) (i : ℕ) (x : X) → i < length xs → x ≡ get_or xs i x → drop i xs ≡ x ∷ drop (i + 1) xs
  opened xs i x low at = drop_more xs i x low ∙ ap (λ y. y ∷ drop (i + 1) xs) (sym at)

  -- the first of those that are left
  first_left : (g h : Gauge) (all : List Row) (whole : List Cert) (i : ℕ) (r : Row) (part : Cert)
      → i < length all → i < length whole → r ≡ get_or all i r → part ≡ get_or whole i part
      → IsLeft bits outs n rows g h (drop i all) all (drop i whole) whole
      → IsLeft bits outs n rows g h (r ∷ drop (i + 1) all) all (part ∷ drop (i + 1) whole) whole
  first_left g h all whole i r part low under at by s =
      subst (λ l. IsLeft bits outs n rows g h (r ∷ drop (i + 1) all) all l whole) (opened whole i part under by)
      (subst (λ l. IsLeft bits outs n rows g h l all (drop i whole) whole) (opened all i r low at) s)

  pub left_more : (g h k : Gauge) (all : List Row) (whole : List Cert) (i : ℕ) (r : Row) (part : Cert) (b : Bool)
      → i < length all → i < length whole → r ≡ get_or all i r → part ≡ get_or whole i part
      → IsLeft bits outs n rows g h (drop i all) all (drop i whole) whole
      → b ≡ refutes outs n (and_row rows r) part → b ≡ true → IsCounted h k (visited outs n (and_row rows r) part)
      → IsLeft bits outs n rows g k (drop (i + 1) all) all (drop (i + 1) whole) whole
  left_more g h k all whole i r part b low under at by s is says counted =
      let t = first_left g h all whole i r part low under at by s in record {
        answer =
            ap (λ c. c && refute_all outs n rows (drop (i + 1) all) (drop (i + 1) whole)) (sym says ∙ is) ∙ t.answer;
        charged = IsCharged_trans g h k t.charged counted.charged;
        units = let u = t.units in let w = counted.units in
            let e = counted_on outs n rows r part (drop (i + 1) all) (drop (i + 1) whole) (sym is ∙ says) in omega (arith, u, w, e);
        passes = λ m p.
            moved (SomePass bits outs n rows all whole) ((h.units - g.units) + (visited outs n (and_row rows r) part + m))
            ((k.units - g.units) + m) (let l = t.charged.units in let w = counted.units in omega (arith, l, w))
            (t.passes (visited outs n (and_row rows r) part + m) (inr (
              sym is ∙ says,
              moved (SomePass bits outs n rows (drop (i + 1) all) (drop (i + 1) whole)) m
                  ((visited outs n (and_row rows r) part + m) - visited outs n (and_row rows r) part)
                  (behind (visited outs n (and_row rows r) part) m) p,
            )));
      }

  pub left_no : (g h k : Gauge) (all : List Row) (whole : List Cert) (i : ℕ) (r : Row) (part : Cert) (b : Bool)
      → i < length all → i < length whole → r ≡ get_or all i r → part ≡ get_or whole i part
      → IsLeft bits outs n rows g h (drop i all) all (drop i whole) whole
      → b ≡ refutes outs n (and_row rows r) part → b ≡ false → IsCounted h k (visited outs n (and_row rows r) part)
      → (false ≡ refute_all outs n rows all whole) × IsCounted g k (visit_all outs n rows all whole)
  left_no g h k all whole i r part b low under at by s is fails counted =
      let t = first_left g h all whole i r part low under at by s in (
        ap (λ c. c && refute_all outs n rows (drop (i + 1) all) (drop (i + 1) whole)) (sym fails ∙ is) ∙ t.answer,
        record {
          charged = IsCharged_trans g h k t.charged counted.charged;
          units = let u = t.units in let w = counted.units in
              let e = counted_off outs n rows r part (drop (i + 1) all) (drop (i + 1) whole) (sym is ∙ fails) in omega (arith, u, w, e);
        },
      )

  pub left_cut : (g h k : Gauge) (all : List Row) (whole : List Cert) (i : ℕ) (r : Row) (part : Cert) (cut : Cut)
      → i < length all → i < length whole → r ≡ get_or all i r → part ≡ get_or whole i part → h.bits ≡ bits
      → IsLeft bits outs n rows g h (drop i all) all (drop i whole) whole
      → IsCutOnly (Passes h.bits outs n (and_row rows r) part) (visited outs n (and_row rows r) part) h k cut
      → IsCutOnly (SomePass bits outs n rows all whole) (visit_all outs n rows all whole) g k cut
  left_cut g h k all whole i r part cut low under at by same s e =
      let t = first_left g h all whole i r part low under at by s in record {
        by = IsCutBy-after g h k cut t.charged e.by;
        most = let u = t.units in let m = e.most in
            let f = counted_few outs n rows r part (drop (i + 1) all) (drop (i + 1) whole) in omega (arith, u, m, f);
        budget = λ o. let u = t.units in let m = e.budget o in
            let f = counted_few outs n rows r part (drop (i + 1) all) (drop (i + 1) whole) in omega (arith, u, m, f);
        overflow = λ o. moved (SomePass bits outs n rows all whole) ((h.units - g.units) + (k.units - h.units)) (k.units - g.units)
            (let l = t.charged.units in let w = e.by.kept.units in omega (arith, l, w))
            (t.passes (k.units - h.units)
            (inl (subst (λ (b : ℕ). Passes b outs n (and_row rows r) part (k.units - h.units)) same (e.overflow o))));
      }

  pub left_end : (g h : Gauge) (all : List Row) (whole : List Cert) (i : ℕ) → length all ≤ i → length all ≡ length whole
      → IsLeft bits outs n rows g h (drop i all) all (drop i whole) whole
      → (true ≡ refute_all outs n rows all whole) × IsCounted g h (visit_all outs n rows all whole)
  left_end g h all whole i past same s =
      let none : drop i all ≡ [] = drop_all i all past in
      let none_left : drop i whole ≡ [] = drop_all i whole (omega (arith, past, same)) in
      let t = subst (λ l. IsLeft bits outs n rows g h [] all l whole) none_left
      (subst (λ l. IsLeft bits outs n rows g h l all (drop i whole) whole) none s) in (
        t.answer,
        record {
          charged = t.charged;
          units = let u = t.units in omega (arith, u);
        },
      )

-- ---- the two parts of a split
-- a part with a row that is told otherwise, at a meter that is told otherwise
pub side_shown : (g m h : Gauge) (outs : List (List Row)) (n : ℕ) (rows : List Row) (row own : Row) (part : Cert)
    (result : Result Bool Cut) → m ≡ g → own ≡ row
    → IsChecked m h (refutes outs n (and_row rows own) part) (visited outs n (and_row rows own) part)
    (Passes m.bits outs n (and_row rows own) part) result
    → IsChecked g h (refutes outs n (and_row rows row) part) (visited outs n (and_row rows row) part)
    (Passes g.bits outs n (and_row rows row) part) result
side_shown g m h outs n rows row own part result same is p =
    let says : Row → Bool = λ r. refutes outs n (and_row rows r) part in
    let count : Row → ℕ = λ r. visited outs n (and_row rows r) part in
    let passes : Gauge → Row → ℕ → Type 0 = λ k r. Passes k.bits outs n (and_row rows r) part in
    subst (λ (k : Gauge). IsChecked k h (says row) (count row) (passes k row) result) same
    (subst (λ (r : Row). IsChecked m h (says r) (count r) (passes m r) result) is p)

module _ (outs : List (List Row)) (n : ℕ) (rows : List Row) (form : Form) (up down : Cert) where
  abbrev Up : List Row
  Up = and_row rows (bound form.coefs form.constant)

  abbrev Down : List Row
  Down = and_row rows (below form.coefs form.constant)

  abbrev IsSides : Gauge → Gauge → Result Bool Cut → Type 0
  IsSides g h result =
      IsChecked g h (sides_refute outs n rows form up down) (visit_sides outs n rows form up down)
      (SidesPass g.bits outs n rows form up down) result

  sides_on : refutes outs n Up up ≡ true
      → visit_sides outs n rows form up down ≡ visited outs n Up up + visited outs n Down down
  sides_on says = ap (λ b. visited outs n Up up + (if b then visited outs n Down down else 0)) says

  sides_off : refutes outs n Up up ≡ false → visit_sides outs n rows form up down ≡ visited outs n Up up + 0
  sides_off says = ap (λ b. visited outs n Up up + (if b then visited outs n Down down else 0)) says

  sides_few : visited outs n Up up ≤ visit_sides outs n rows form up down
  sides_few = plus_few (visited outs n Up up) (if refutes outs n Up up then visited outs n Down down else 0)

  pub sides_bound_cut : (g h : Gauge) (cut : Cut) → IsCutFor (RowPasses g.bits (bound form.coefs form.constant)) g h cut
      → IsSides g h (Err cut)
  sides_bound_cut g h cut e =
      cut_for g h (RowPasses g.bits (bound form.coefs form.constant)) (SidesPass g.bits outs n rows form up down)
      (visit_sides outs n rows form up down) cut e (λ p. inl (refl, inl p))

  pub sides_below_cut : (g m h : Gauge) (own : Row) (cut : Cut) → m ≡ g → own ≡ bound form.coefs form.constant
      → IsCutFor (RowPasses m.bits (below own.coefs own.constant)) m h cut → IsSides g h (Err cut)
  sides_below_cut g m h own cut same is e =
      cut_for g h (RowPasses g.bits (below form.coefs form.constant)) (SidesPass g.bits outs n rows form up down)
      (visit_sides outs n rows form up down) cut
      (subst (λ (k : Gauge). IsCutFor (RowPasses k.bits (below form.coefs form.constant)) k h cut) same
      (subst (λ (r : Row). IsCutFor (RowPasses m.bits (below r.coefs r.constant)) m h cut) is e)) (λ p. inl (refl, inr p))

  pub sides_up_cut : (g m h : Gauge) (own : Row) (cut : Cut) → m ≡ g → own ≡ bound form.coefs form.constant
      → IsCutOnly (Passes m.bits outs n (and_row rows own) up) (visited outs n (and_row rows own) up) m h cut → IsSides g h (Err cut)
  sides_up_cut g m h own cut same is e =
      cut_weaker g h (Passes g.bits outs n Up up) (SidesPass g.bits outs n rows form up down) (visited outs n Up up)
      (visit_sides outs n rows form up down) cut
      (side_shown g m h outs n rows (bound form.coefs form.constant) own up (Err cut) same is e) sides_few (λ u p. inr (inl p))

  pub sides_no : (g m h : Gauge) (own : Row) (says : Bool) → m ≡ g → own ≡ bound form.coefs form.constant
      → says ≡ refutes outs n (and_row rows own) up → IsCounted m h (visited outs n (and_row rows own) up) → says ≡ false
      → IsSides g h (Ok false)
  sides_no g m h own says same is told counted fails =
      let p : (says ≡ refutes outs n Up up) × IsCounted g h (visited outs n Up up) =
      side_shown g m h outs n rows (bound form.coefs form.constant) own up (Ok says) same is (told, counted) in
      let first : refutes outs n Up up ≡ false = sym p.0 ∙ fails in (
        sym (ap (λ b. b && refutes outs n Down down) first),
        counted_same g h (visited outs n Up up) (visit_sides outs n rows form up down) p.1
            (let e = sides_off first in omega (arith, e)),
      )

  pub sides_end : (g m k h : Gauge) (own opposite : Row) (says : Bool) (result : Result Bool Cut) → m ≡ g
      → own ≡ bound form.coefs form.constant → opposite ≡ below own.coefs own.constant
      → says ≡ refutes outs n (and_row rows own) up → IsCounted m k (visited outs n (and_row rows own) up) → says ≡ true
      → IsChecked k h (refutes outs n (and_row rows opposite) down) (visited outs n (and_row rows opposite) down)
      (Passes k.bits outs n (and_row rows opposite) down) result
      → IsSides g h result
  sides_end g m k h own opposite says result same is turned told counted yes' q =
      both result (side_shown k k h outs n rows (below form.coefs form.constant) opposite down result refl
      (turned ∙ ap (λ (r : Row). below r.coefs r.constant) is) q)
    where
      p : (says ≡ refutes outs n Up up) × IsCounted g k (visited outs n Up up)
      p = side_shown g m k outs n rows (bound form.coefs form.constant) own up (Ok says) same is (told, counted)

      first : refutes outs n Up up ≡ true
      first = sym p.0 ∙ yes'

      both : (r : Result Bool Cut)
          → IsChecked k h (refutes outs n Down down) (visited outs n Down down) (Passes k.bits outs n Down down) r → IsSides g h r
      both (Ok b) r = (
        r.0 ∙ sym (ap (λ c. c && refutes outs n Down down) first),
        record {
          charged = IsCharged_trans g k h p.1.charged r.1.charged;
          units = let u = p.1.units in let v = r.1.units in let e = sides_on first in omega (arith, u, v, e);
        },
      )
      both (Err cut) r =
          cut_after g k h (Passes k.bits outs n Down down) (SidesPass g.bits outs n rows form up down) (visited outs n Up up)
          (visited outs n Down down) (visit_sides outs n rows form up down) cut p.1 r (let e = sides_on first in omega (arith, e))
          (λ u s. inr (inr (
            first,
            moved (Passes g.bits outs n Down down) u ((visited outs n Up up + u) - visited outs n Up up)
                (behind (visited outs n Up up) u)
                (subst (λ (b : ℕ). Passes b outs n Down down u) (ap (λ (w : Gauge). w.bits) p.1.charged.same) s),
          )))

pub form_over : (n : ℕ) (form : Form) → length form.coefs ≡ n → is_over n form ≡ true
form_over n form e = by (is_over n form) refl
  where
    by : (b : Bool) → is_over n form ≡ b → b ≡ true
    by true e' = refl
    by false e' = absurd (eqb-false (length form.coefs) n e' e)

pub form_not_over : (n : ℕ) (form : Form) → length form.coefs ≢ n → is_over n form ≡ false
form_not_over n form d = by (is_over n form) refl
  where
    by : (b : Bool) → is_over n form ≡ b → b ≡ false
    by true e = absurd (d (eqb-true (length form.coefs) n e))
    by false e = refl

-- ---- too few parts, or too many
pub all_differ : (outs : List (List Row)) (n : ℕ) (rows more : List Row) (certs : List Cert) → length more ≢ length certs
    → refute_all outs n rows more certs ≡ false
all_differ outs n rows [] [] d = absurd (d refl)
all_differ outs n rows [] (cert ∷ certs) d = refl
all_differ outs n rows (r ∷ more) [] d = refl
all_differ outs n rows (r ∷ more) (cert ∷ certs) d =
    by (refutes outs n (and_row rows r) cert) (all_differ outs n rows more certs (λ e. d (ap suc e)))
  where
    by : (b : Bool) → refute_all outs n rows more certs ≡ false → (b && refute_all outs n rows more certs) ≡ false
    by true e = e
    by false e = refl

fit_same : (more : List Row) (certs : List Cert) → length more ≡ length certs → fit more certs ≡ true
fit_same [] [] e = refl
fit_same [] (cert ∷ certs) e = absurd (omega (arith, e))
fit_same (r ∷ more) [] e = absurd (omega (arith, e))
fit_same (r ∷ more) (cert ∷ certs) e = fit_same more certs (omega (arith, e))

fit_differ : (more : List Row) (certs : List Cert) → length more ≢ length certs → fit more certs ≡ false
fit_differ [] [] d = absurd (d refl)
fit_differ [] (cert ∷ certs) d = refl
fit_differ (r ∷ more) [] d = refl
fit_differ (r ∷ more) (cert ∷ certs) d = fit_differ more certs (λ e. d (ap suc e))

-- ---- parts for rows
module _ (outs : List (List Row)) (n : ℕ) (rows : List Row) where
  differ : (more : List Row) (certs : List Cert) → length more ≢ length certs → false ≡ refute_all outs n rows more certs
  differ more certs d = sym (all_differ outs n rows more certs d)

  abbrev IsAll : Gauge → Gauge → List Row → List Cert → Result Bool Cut → Type 0
  IsAll g h more certs result =
      IsChecked g h (refute_all outs n rows more certs) (visit_all outs n rows more certs) (SomePass g.bits outs n rows more certs) result

  pub all_shown : (g m h : Gauge) (more own : List Row) (certs : List Cert) (result : Result Bool Cut) → m ≡ g → own ≡ more
      → IsAll m h own certs result → IsAll g h more certs result
  all_shown g m h more own certs result same is p =
      subst (λ (k : Gauge). IsAll k h more certs result) same (subst (λ (l : List Row). IsAll m h l certs result) is p)

  -- ---- an out
  abbrev IsOutside : Gauge → Gauge → List Row → List Cert → Result Bool Cut → Type 0
  IsOutside g h out certs result =
      IsChecked g h (refute_all outs n rows (negations n out) certs) (visit_outside outs n rows out certs)
      (OutsidePass g.bits outs n rows out certs) result

  pub outside_none_told : (g : Gauge) (out : List Row) (certs : List Cert) → nat_eq (length certs) (length (negations n out)) ≡ false
      → IsOutside g g out certs (Ok false)
  outside_none_told g out certs e =
      let other : length (negations n out) ≢ length certs = λ same. eqb-false (length certs) (length (negations n out)) e (sym same) in
      let none = ap (λ b. if b then visit_all outs n rows (negations n out) certs else 0) (fit_differ (negations n out) certs other) in
      (differ (negations n out) certs other, counted_no g g (visit_outside outs n rows out certs) refl none)

  pub as_many : (out : List Row) (certs : List Cert) → nat_eq (length certs) (length (negations n out)) ≡ true
      → length (negations n out) ≡ length certs
  as_many out certs e = sym (eqb-true (length certs) (length (negations n out)) e)

  pub outside_cut : (g h : Gauge) (out : List Row) (certs : List Cert) (cut : Cut) → nat_eq (length certs) (length (negations n out)) ≡ true
      → IsCutFor (Any (RowPasses g.bits) (negations n out)) g h cut → IsOutside g h out certs (Err cut)
  outside_cut g h out certs cut e p =
      cut_for g h (Any (RowPasses g.bits) (negations n out)) (OutsidePass g.bits outs n rows out certs)
      (visit_outside outs n rows out certs) cut p
      (λ q. (as_many out certs e, inl (refl, q)))

  pub outside_end : (g m h : Gauge) (out own : List Row) (certs : List Cert) (result : Result Bool Cut)
      → nat_eq (length certs) (length (negations n out)) ≡ true → m ≡ g → own ≡ negations n out → IsAll m h own certs result
      → IsOutside g h out certs result
  outside_end g m h out own certs result e same is p =
      let count = visit_all outs n rows (negations n out) certs in
      let told = ap (λ b. if b then count else 0) (fit_same (negations n out) certs (as_many out certs e)) in
      checked_same g h (refute_all outs n rows (negations n out) certs) (refute_all outs n rows (negations n out) certs) count
      (visit_outside outs n rows out certs) (SomePass g.bits outs n rows (negations n out) certs)
      (OutsidePass g.bits outs n rows out certs) result
      (all_shown g m h (negations n out) own certs result same is p) refl told (λ u q. (as_many out certs e, inr q))

  -- ---- residues
  abbrev IsResidues : Gauge → Gauge → Form → ℤ → List Cert → Result Bool Cut → Type 0
  IsResidues g h form k certs result =
      IsChecked g h (residues_refute outs n rows form k certs) (visit_residues outs n rows form k certs)
      (ResiduesPass g.bits outs n rows form k certs) result

  length-residues : (form : Form) (k : ℤ) → length (residue_rows form k) ≡ unsigned_abs k
  length-residues form k =
      length-map-range_with_len (λ (r : ℕ). congruence form.coefs (form.constant -ℤ pos r) k) 0 (unsigned_abs k)

  large : (k : ℤ) → pos 1 <ℤ k → int_lt (pos 1) k ≡ true
  large k l = int_lt-true (pos 1) k l

  pub residues_none : (g : Gauge) (form : Form) (k : ℤ) (certs : List Cert)
      → (length form.coefs ≢ n) ⊎ ((k ≤ℤ pos 1) ⊎ (k ≢ pos (length certs))) → IsResidues g g form k certs (Ok false)
  residues_none g form k certs d = (
    sym (by (is_over n form) (refute_all outs n rows (residue_rows form k) certs) (all_differ outs n rows (residue_rows form k) certs) refl
        d),
    counted_no g g (visit_residues outs n rows form k certs) refl
        (ap (λ b. if b then visit_all outs n rows (residue_rows form k) certs else 0)
        (by (is_over n form) (fit (residue_rows form k) certs) (fit_differ (residue_rows form k) certs) refl d)),
  )
    where
      -- whatever is false where there are too few parts, or too many
      last : (b : Bool) (own : Bool) → (length (residue_rows form k) ≢ length certs → own ≡ false) → int_lt (pos 1) k ≡ b
          → (k ≤ℤ pos 1) ⊎ (k ≢ pos (length certs)) → (b && own) ≡ false
      last false own f e d = refl
      last true own f e (inl l) = absurd (true≢false (sym e ∙ int_lt-false (pos 1) k (omega (arith, linear))))
      last true own f e (inr m) =
          f (λ same. m (positive (let l = lt_from (pos 1) k e in omega (arith, linear)) (sym (length-residues form k) ∙ same)))
        where
          positive : pos 0 ≤ℤ k → unsigned_abs k ≡ length certs → k ≡ pos (length certs)
          positive p e = omega (arith, linear)

      by : (b : Bool) (own : Bool) → (length (residue_rows form k) ≢ length certs → own ≡ false) → is_over n form ≡ b
          → (length form.coefs ≢ n) ⊎ ((k ≤ℤ pos 1) ⊎ (k ≢ pos (length certs))) → (b && (int_lt (pos 1) k && own)) ≡ false
      by false own f e d = refl
      by true own f e (inl m) = absurd (m (eqb-true (length form.coefs) n e))
      by true own f e (inr m) = last (int_lt (pos 1) k) own f refl m

  pub fits_count : (form : Form) (k : ℤ) (certs : List Cert) → k ≡ pos (length certs) → length (residue_rows form k) ≡ length certs
  fits_count form k certs e = length-residues form k ∙ ap unsigned_abs e

  conditions : (bits : ℕ) (form : Form) (k : ℤ) (certs : List Cert) → length form.coefs ≡ n → pos 1 <ℤ k → k ≡ pos (length certs)
      → (m : ℕ) → RowsPass bits outs n rows (residue_rows form k) certs m → ResiduesPass bits outs n rows form k certs m
  conditions bits form k certs wide above same m q =
      (form_over n form wide, large k above, fits_count form k certs same, q)

  pub residues_cut : (g h : Gauge) (form : Form) (k : ℤ) (certs : List Cert) (cut : Cut) → length form.coefs ≡ n → pos 1 <ℤ k
      → k ≡ pos (length certs) → IsCutFor (Any (RowPasses g.bits) (residue_rows form k)) g h cut → IsResidues g h form k certs (Err cut)
  residues_cut g h form k certs cut wide above same p =
      cut_for g h (Any (RowPasses g.bits) (residue_rows form k)) (ResiduesPass g.bits outs n rows form k certs)
      (visit_residues outs n rows form k certs) cut p
      (λ q. conditions g.bits form k certs wide above same 0 (inl (refl, q)))

  pub residues_end : (g m h : Gauge) (form : Form) (k : ℤ) (own : List Row) (certs : List Cert) (result : Result Bool Cut)
      → length form.coefs ≡ n → pos 1 <ℤ k → k ≡ pos (length certs) → m ≡ g → own ≡ residue_rows form k → IsAll m h own certs result
      → IsResidues g h form k certs result
  residues_end g m h form k own certs result wide above same kept is p =
      let all = refute_all outs n rows (residue_rows form k) certs in
      let count = visit_all outs n rows (residue_rows form k) certs in
      let fitting = fit_same (residue_rows form k) certs (fits_count form k certs same) in
      let told : visit_residues outs n rows form k certs ≡ count =
      ap (λ b. if b then count else 0)
      (ap₂ (λ b c. b && (c && fit (residue_rows form k) certs)) (form_over n form wide) (large k above) ∙ fitting) in
      checked_same g h all (residues_refute outs n rows form k certs) count (visit_residues outs n rows form k certs)
      (SomePass g.bits outs n rows (residue_rows form k) certs) (ResiduesPass g.bits outs n rows form k certs) result
      (all_shown g m h (residue_rows form k) own certs result kept is p)
      (ap₂ (λ b c. b && (c && all)) (form_over n form wide) (large k above)) told
      (λ u q. conditions g.bits form k certs wide above same u (inr q))
