-- What the constructors of the code refute, how many nodes they have and are looked at, and where they pass the limit.
use mathlib.Core.Former.{Count}
use Rattle.std.proofs.Common.{◌≡◌, ◌⊎◌, inl, inr, ◌∙◌, refl, sym, ap, ap₂, subst, arith, Bool, true, ◌&&◌, int_lt, ℕ, ◌+◌, ◌-◌, ℤ, pos}
use Rattle.std.proofs.Common.{List, [], ◌∷◌, map, length, slice_get, Option, Some, None}
use Rattle.std.specs.Prelude.{MatchOption, if◌then◌else◌}
use Rattle.std.specs.List.{Any}
use Rattle.isl_piece.specs.declared.row.Row.{Row}
use Rattle.isl_piece.specs.Negation.{below}
use Rattle.isl_piece.specs.Normal.{bound}
use Rattle.isl_piece.specs.System.{widened}
use Rattle.isl_refute.specs.declared.tree.Cert.{Cert, Add, Tie, Mod, Weaken, Fresh, Split, Residue, Outside, Row_of-Cert, end_of-Cert}
use Rattle.isl_refute.specs.declared.tree.Cert.{more_of-Cert}
use Rattle.isl_refute.specs.declared.tree.Cert.{items-the_row-Cert, items_hidden-the_row-Cert-1}
use Rattle.isl_refute.specs.declared.tree.Cert.TheBlock.{hidden-the_row-Cert-0, hidden-the_row-Cert-1}
use Rattle.isl_refute.specs.declared.tree.Form.{Form}
use Rattle.isl_refute.specs.Parts.{fit, nodes_of, refute_all, visit_all, RowsPass, SidesPass, SomePass}
use Rattle.isl_refute.specs.Passes.{nodes, nodes_each, nodes_in, Passes, PassesEach, RowPasses, SumAtPasses}
use Rattle.isl_refute.specs.Refutes.{and_row, with_both, with_one, where_some, is_over, negations, residue_rows}
use Rattle.isl_refute.specs.Refutes.{sum_row, tie_row, mod_row, weaken_row, fresh_row, refutes, refutes_each}
use Rattle.isl_refute.specs.Visited.{fits, visited, visited_each, where_count}

-- ---- what they refute
module _ (outs : List (List Row)) (n : ℕ) (rows : List Row) where
  each_is : (m : Count) (more : List Row) (row : Row_of-Cert m)
      → refutes_each outs n rows more row ≡ refute_all outs n rows more (items-the_row-Cert m row)
  each_is m [] end_of-Cert = refl
  each_is m [] (more_of-Cert cert row) = refl
  each_is m (r ∷ more) end_of-Cert = refl
  each_is m (r ∷ more) (more_of-Cert cert row) = ap (λ b. refutes outs n (and_row rows r) cert && b) (each_is _ more row)

  pub refutes-Add : (i : ℕ) (a : ℤ) (j : ℕ) (b : ℤ) (part : Cert) → refutes outs n rows (Add i a j b part)
      ≡ where_some (with_both (slice_get rows i) (slice_get rows j) (sum_row a b)) (λ r. refutes outs n (and_row rows r) part)
  unfolding hidden-the_row-Cert-0 denote.Hole.Carrier.hidden
  refutes-Add i a j b part = refl

  pub refutes-Tie : (i j : ℕ) (part : Cert) → refutes outs n rows (Tie i j part)
      ≡ where_some (with_both (slice_get rows i) (slice_get rows j) tie_row) (λ r. refutes outs n (and_row rows r) part)
  unfolding hidden-the_row-Cert-0 denote.Hole.Carrier.hidden
  refutes-Tie i j part = refl

  pub refutes-Mod : (i : ℕ) (k : ℤ) (part : Cert) → refutes outs n rows (Mod i k part)
      ≡ where_some (with_one (slice_get rows i) (mod_row k)) (λ r. refutes outs n (and_row rows r) part)
  unfolding hidden-the_row-Cert-0 denote.Hole.Carrier.hidden
  refutes-Mod i k part = refl

  pub refutes-Weaken : (i : ℕ) (k : ℤ) (part : Cert) → refutes outs n rows (Weaken i k part)
      ≡ where_some (with_one (slice_get rows i) (weaken_row k)) (λ r. refutes outs n (and_row rows r) part)
  unfolding hidden-the_row-Cert-0 denote.Hole.Carrier.hidden
  refutes-Weaken i k part = refl

  pub refutes-Fresh : (i : ℕ) (part : Cert) → refutes outs n rows (Fresh i part)
      ≡ where_some (with_one (slice_get rows i) fresh_row) (λ r. refutes outs (n + 1) (and_row (map widened rows) r) part)
  unfolding hidden-the_row-Cert-0 denote.Hole.Carrier.hidden
  refutes-Fresh i part = refl

  pub refutes-Split : (form : Form) (up down : Cert) → refutes outs n rows (Split form up down)
      ≡ (is_over n form && (refutes outs n (and_row rows (bound form.coefs form.constant)) up
      && refutes outs n (and_row rows (below form.coefs form.constant)) down))
  unfolding hidden-the_row-Cert-0 denote.Hole.Carrier.hidden
  refutes-Split form up down = refl

  pub refutes-Residue : (form : Form) (k : ℤ) (parts : List Cert) → refutes outs n rows (Residue form k parts)
      ≡ (is_over n form && (int_lt (pos 1) k && refute_all outs n rows (residue_rows form k) parts))
  refutes-Residue form k parts = ap (λ b. is_over n form && (int_lt (pos 1) k && b))
      (each_is _ (residue_rows form k) (hidden-the_row-Cert-1 parts)
      ∙ ap (λ certs. refute_all outs n rows (residue_rows form k) certs) (items_hidden-the_row-Cert-1 parts))

  pub refutes-Outside : (q : ℕ) (parts : List Cert) → refutes outs n rows (Outside q parts)
      ≡ where_some (slice_get outs q) (λ out. refute_all outs n rows (negations n out) parts)
  refutes-Outside q parts = by (slice_get outs q)
    where
      by : (o : Option (List Row)) → where_some o (λ out. refutes_each outs n rows (negations n out) (hidden-the_row-Cert-1 parts))
          ≡ where_some o (λ out. refute_all outs n rows (negations n out) parts)
      by None = refl
      by (Some out) = each_is _ (negations n out) (hidden-the_row-Cert-1 parts)
          ∙ ap (λ certs. refute_all outs n rows (negations n out) certs) (items_hidden-the_row-Cert-1 parts)

-- ---- nodes
nodes_are : (m : Count) (row : Row_of-Cert m) → nodes_each row ≡ nodes_of (items-the_row-Cert m row)
nodes_are m end_of-Cert = refl
nodes_are m (more_of-Cert cert row) = ap (λ (u : ℕ). nodes cert + u) (nodes_are _ row)

parts_nodes : (parts : List Cert) → nodes_each (hidden-the_row-Cert-1 parts) ≡ nodes_of parts
parts_nodes parts = nodes_are _ (hidden-the_row-Cert-1 parts) ∙ ap nodes_of (items_hidden-the_row-Cert-1 parts)

one_node : (part : Cert) → nodes_in (hidden-the_row-Cert-0 part) ≡ nodes part
unfolding hidden-the_row-Cert-0 denote.Hole.Carrier.hidden
one_node part = refl

pub nodes-Add : (i : ℕ) (a : ℤ) (j : ℕ) (b : ℤ) (part : Cert) → nodes (Add i a j b part) ≡ 1 + nodes part
nodes-Add i a j b part = ap (λ (u : ℕ). 1 + u) (one_node part)

pub nodes-Tie : (i j : ℕ) (part : Cert) → nodes (Tie i j part) ≡ 1 + nodes part
nodes-Tie i j part = ap (λ (u : ℕ). 1 + u) (one_node part)

pub nodes-Mod : (i : ℕ) (k : ℤ) (part : Cert) → nodes (Mod i k part) ≡ 1 + nodes part
nodes-Mod i k part = ap (λ (u : ℕ). 1 + u) (one_node part)

pub nodes-Weaken : (i : ℕ) (k : ℤ) (part : Cert) → nodes (Weaken i k part) ≡ 1 + nodes part
nodes-Weaken i k part = ap (λ (u : ℕ). 1 + u) (one_node part)

pub nodes-Fresh : (i : ℕ) (part : Cert) → nodes (Fresh i part) ≡ 1 + nodes part
nodes-Fresh i part = ap (λ (u : ℕ). 1 + u) (one_node part)

pub nodes-Split : (form : Form) (up down : Cert) → nodes (Split form up down) ≡ 1 + (nodes up + nodes down)
nodes-Split form up down = ap₂ (λ (u v : ℕ). 1 + (u + v)) (one_node up) (one_node down)

pub nodes-Residue : (form : Form) (k : ℤ) (parts : List Cert) → nodes (Residue form k parts) ≡ 1 + nodes_of parts
nodes-Residue form k parts = ap (λ (u : ℕ). 1 + u) (parts_nodes parts)

pub nodes-Outside : (q : ℕ) (parts : List Cert) → nodes (Outside q parts) ≡ 1 + nodes_of parts
nodes-Outside q parts = ap (λ (u : ℕ). 1 + u) (parts_nodes parts)

-- ---- nodes that are looked at
module _ (outs : List (List Row)) (n : ℕ) (rows : List Row) where
  fits_is : (m : Count) (more : List Row) (row : Row_of-Cert m) → fits more row ≡ fit more (items-the_row-Cert m row)
  fits_is m [] end_of-Cert = refl
  fits_is m [] (more_of-Cert cert row) = refl
  fits_is m (r ∷ more) end_of-Cert = refl
  fits_is m (r ∷ more) (more_of-Cert cert row) = fits_is _ more row

  visits_are : (m : Count) (more : List Row) (row : Row_of-Cert m)
      → visited_each outs n rows more row ≡ visit_all outs n rows more (items-the_row-Cert m row)
  visits_are m [] end_of-Cert = refl
  visits_are m [] (more_of-Cert cert row) = refl
  visits_are m (r ∷ more) end_of-Cert = refl
  visits_are m (r ∷ more) (more_of-Cert cert row) =
      ap (λ (u : ℕ). visited outs n (and_row rows r) cert + (if refutes outs n (and_row rows r) cert then u else 0)) (visits_are _ more row)

  parts_fit : (more : List Row) (parts : List Cert) → fits more (hidden-the_row-Cert-1 parts) ≡ fit more parts
  parts_fit more parts = fits_is _ more (hidden-the_row-Cert-1 parts) ∙ ap (fit more) (items_hidden-the_row-Cert-1 parts)

  parts_visits : (more : List Row) (parts : List Cert)
      → visited_each outs n rows more (hidden-the_row-Cert-1 parts) ≡ visit_all outs n rows more parts
  parts_visits more parts =
      visits_are _ more (hidden-the_row-Cert-1 parts) ∙ ap (visit_all outs n rows more) (items_hidden-the_row-Cert-1 parts)

  pub visited-Add : (i : ℕ) (a : ℤ) (j : ℕ) (b : ℤ) (part : Cert) → visited outs n rows (Add i a j b part)
      ≡ 1 + where_count (with_both (slice_get rows i) (slice_get rows j) (sum_row a b)) (λ r. visited outs n (and_row rows r) part)
  unfolding hidden-the_row-Cert-0 denote.Hole.Carrier.hidden
  visited-Add i a j b part = refl

  pub visited-Tie : (i j : ℕ) (part : Cert) → visited outs n rows (Tie i j part)
      ≡ 1 + where_count (with_both (slice_get rows i) (slice_get rows j) tie_row) (λ r. visited outs n (and_row rows r) part)
  unfolding hidden-the_row-Cert-0 denote.Hole.Carrier.hidden
  visited-Tie i j part = refl

  pub visited-Mod : (i : ℕ) (k : ℤ) (part : Cert) → visited outs n rows (Mod i k part)
      ≡ 1 + where_count (with_one (slice_get rows i) (mod_row k)) (λ r. visited outs n (and_row rows r) part)
  unfolding hidden-the_row-Cert-0 denote.Hole.Carrier.hidden
  visited-Mod i k part = refl

  pub visited-Weaken : (i : ℕ) (k : ℤ) (part : Cert) → visited outs n rows (Weaken i k part)
      ≡ 1 + where_count (with_one (slice_get rows i) (weaken_row k)) (λ r. visited outs n (and_row rows r) part)
  unfolding hidden-the_row-Cert-0 denote.Hole.Carrier.hidden
  visited-Weaken i k part = refl

  pub visited-Fresh : (i : ℕ) (part : Cert) → visited outs n rows (Fresh i part)
      ≡ 1 + where_count (with_one (slice_get rows i) fresh_row) (λ r. visited outs (n + 1) (and_row (map widened rows) r) part)
  unfolding hidden-the_row-Cert-0 denote.Hole.Carrier.hidden
  visited-Fresh i part = refl

  pub visited-Split : (form : Form) (up down : Cert) → visited outs n rows (Split form up down)
      ≡ 1 + (if is_over n form then visited outs n (and_row rows (bound form.coefs form.constant)) up
      + (if refutes outs n (and_row rows (bound form.coefs form.constant)) up
      then visited outs n (and_row rows (below form.coefs form.constant)) down else 0) else 0)
  unfolding hidden-the_row-Cert-0 denote.Hole.Carrier.hidden
  visited-Split form up down = refl

  pub visited-Residue : (form : Form) (k : ℤ) (parts : List Cert) → visited outs n rows (Residue form k parts)
      ≡ 1 + (if is_over n form && (int_lt (pos 1) k && fit (residue_rows form k) parts)
      then visit_all outs n rows (residue_rows form k) parts else 0)
  visited-Residue form k parts =
      ap₂ (λ (b : Bool) (u : ℕ). 1 + (if is_over n form && (int_lt (pos 1) k && b) then u else 0))
      (parts_fit (residue_rows form k) parts) (parts_visits (residue_rows form k) parts)

  pub visited-Outside : (q : ℕ) (parts : List Cert) → visited outs n rows (Outside q parts)
      ≡ 1 + where_count (slice_get outs q)
      (λ out. if fit (negations n out) parts then visit_all outs n rows (negations n out) parts else 0)
  visited-Outside q parts = ap (λ (u : ℕ). 1 + u) (by (slice_get outs q))
    where
      by : (o : Option (List Row)) → where_count o (λ out. if fits (negations n out) (hidden-the_row-Cert-1 parts)
          then visited_each outs n rows (negations n out) (hidden-the_row-Cert-1 parts) else 0)
          ≡ where_count o (λ out. if fit (negations n out) parts then visit_all outs n rows (negations n out) parts else 0)
      by None = refl
      by (Some out) = ap₂ (λ (b : Bool) (u : ℕ). if b then u else 0) (parts_fit (negations n out) parts)
          (parts_visits (negations n out) parts)

-- ---- numbers past the limit
-- the node itself is number 1, and its parts are numbered behind it
behind_own : (m : ℕ) → m ≡ (1 + m) - 1
behind_own m = omega arith

own_first : (m : ℕ) (P Q : Type 0) → ((m ≡ 0) × P) ⊎ Q → ((1 + m ≡ 1) × P) ⊎ Q
own_first m P Q (inl p) = let e = p.0 in inl (omega (arith, e), p.1)
own_first m P Q (inr q) = inr q

module _ (bits : ℕ) (outs : List (List Row)) (n : ℕ) (rows : List Row) where
  pub passes-Add : (i : ℕ) (a : ℤ) (j : ℕ) (b : ℤ) (part : Cert) (m : ℕ)
      → ((m ≡ 0) × SumAtPasses bits rows i a j b)
      ⊎ MatchOption (with_both (slice_get rows i) (slice_get rows j) (sum_row a b)) ⊥ (λ r. Passes bits outs n (and_row rows r) part m)
      → Passes bits outs n rows (Add i a j b part) (1 + m)
  unfolding hidden-the_row-Cert-0 denote.Hole.Carrier.hidden
  passes-Add i a j b part m p =
      own_first m (SumAtPasses bits rows i a j b)
      (MatchOption (with_both (slice_get rows i) (slice_get rows j) (sum_row a b)) ⊥
      (λ r. Passes bits outs n (and_row rows r) part ((1 + m) - 1)))
      (subst (λ (u : ℕ). ((m ≡ 0) × SumAtPasses bits rows i a j b)
      ⊎ MatchOption (with_both (slice_get rows i) (slice_get rows j) (sum_row a b)) ⊥ (λ r. Passes bits outs n (and_row rows r) part u))
      (behind_own m) p)

  pub passes-Tie : (i j : ℕ) (part : Cert) (m : ℕ)
      → MatchOption (with_both (slice_get rows i) (slice_get rows j) tie_row) ⊥ (λ r. Passes bits outs n (and_row rows r) part m)
      → Passes bits outs n rows (Tie i j part) (1 + m)
  unfolding hidden-the_row-Cert-0 denote.Hole.Carrier.hidden
  passes-Tie i j part m p =
      subst (λ (u : ℕ). MatchOption (with_both (slice_get rows i) (slice_get rows j) tie_row) ⊥
      (λ r. Passes bits outs n (and_row rows r) part u)) (behind_own m) p

  pub passes-Mod : (i : ℕ) (k : ℤ) (part : Cert) (m : ℕ)
      → MatchOption (with_one (slice_get rows i) (mod_row k)) ⊥
      (λ r. ((m ≡ 0) × RowPasses bits r) ⊎ Passes bits outs n (and_row rows r) part m)
      → Passes bits outs n rows (Mod i k part) (1 + m)
  unfolding hidden-the_row-Cert-0 denote.Hole.Carrier.hidden
  passes-Mod i k part m p = by (with_one (slice_get rows i) (mod_row k)) p
    where
      by : (o : Option Row) → MatchOption o ⊥ (λ r. ((m ≡ 0) × RowPasses bits r) ⊎ Passes bits outs n (and_row rows r) part m)
          → MatchOption o ⊥ (λ r. ((1 + m ≡ 1) × RowPasses bits r) ⊎ Passes bits outs n (and_row rows r) part ((1 + m) - 1))
      by None q = q
      by (Some r) q = own_first m (RowPasses bits r) (Passes bits outs n (and_row rows r) part ((1 + m) - 1))
          (subst (λ (u : ℕ). ((m ≡ 0) × RowPasses bits r) ⊎ Passes bits outs n (and_row rows r) part u) (behind_own m) q)

  pub passes-Weaken : (i : ℕ) (k : ℤ) (part : Cert) (m : ℕ)
      → MatchOption (with_one (slice_get rows i) (weaken_row k)) ⊥ (λ r. Passes bits outs n (and_row rows r) part m)
      → Passes bits outs n rows (Weaken i k part) (1 + m)
  unfolding hidden-the_row-Cert-0 denote.Hole.Carrier.hidden
  passes-Weaken i k part m p =
      subst (λ (u : ℕ). MatchOption (with_one (slice_get rows i) (weaken_row k)) ⊥ (λ r. Passes bits outs n (and_row rows r) part u))
      (behind_own m) p

  pub passes-Fresh : (i : ℕ) (part : Cert) (m : ℕ)
      → MatchOption (with_one (slice_get rows i) fresh_row) ⊥ (λ r. Passes bits outs (n + 1) (and_row (map widened rows) r) part m)
      → Passes bits outs n rows (Fresh i part) (1 + m)
  unfolding hidden-the_row-Cert-0 denote.Hole.Carrier.hidden
  passes-Fresh i part m p =
      subst (λ (u : ℕ). MatchOption (with_one (slice_get rows i) fresh_row) ⊥
      (λ r. Passes bits outs (n + 1) (and_row (map widened rows) r) part u)) (behind_own m) p

  abbrev SidesOwn : Form → Type 0
  SidesOwn form = RowPasses bits (bound form.coefs form.constant) ⊎ RowPasses bits (below form.coefs form.constant)

  abbrev SidesParts : Form → Cert → Cert → ℕ → Type 0
  SidesParts form up down u =
      Passes bits outs n (and_row rows (bound form.coefs form.constant)) up u
      ⊎ ((refutes outs n (and_row rows (bound form.coefs form.constant)) up ≡ true)
      × Passes bits outs n (and_row rows (below form.coefs form.constant)) down
      (u - visited outs n (and_row rows (bound form.coefs form.constant)) up))

  sides_pass : (form : Form) (up down : Cert) (m : ℕ) → SidesPass bits outs n rows form up down m
      → ((1 + m ≡ 1) × SidesOwn form) ⊎ SidesParts form up down ((1 + m) - 1)
  sides_pass form up down m p =
      own_first m (SidesOwn form) (SidesParts form up down ((1 + m) - 1))
      (subst (λ (u : ℕ). ((m ≡ 0) × SidesOwn form) ⊎ SidesParts form up down u) (behind_own m) p)

  pub passes-Split : (form : Form) (up down : Cert) (m : ℕ) → is_over n form ≡ true → SidesPass bits outs n rows form up down m
      → Passes bits outs n rows (Split form up down) (1 + m)
  unfolding hidden-the_row-Cert-0 denote.Hole.Carrier.hidden
  passes-Split form up down m over p = (over, sides_pass form up down m p)

  -- there are as many parts as rows
  fits_all : (m : Count) (more : List Row) (row : Row_of-Cert m) → length more ≡ length (items-the_row-Cert m row) → fits more row ≡ true
  fits_all m [] end_of-Cert e = refl
  fits_all m [] (more_of-Cert cert row) e = absurd (omega (arith, e))
  fits_all m (r ∷ more) end_of-Cert e = absurd (omega (arith, e))
  fits_all m (r ∷ more) (more_of-Cert cert row) e = fits_all _ more row (omega (arith, e))

  each_passes : (m : Count) (more : List Row) (row : Row_of-Cert m) (u : ℕ) → SomePass bits outs n rows more (items-the_row-Cert m row) u
      → PassesEach bits outs n rows more row u
  each_passes m [] row u p = absurd p
  each_passes m (r ∷ more) end_of-Cert u p = absurd p
  each_passes m (r ∷ more) (more_of-Cert cert row) u (inl p) = inl p
  each_passes m (r ∷ more) (more_of-Cert cert row) u (inr p) =
      inr (p.0, each_passes _ more row (u - visited outs n (and_row rows r) cert) p.1)

  -- the rows of a node, and then its parts
  rows_pass : (m : Count) (more : List Row) (row : Row_of-Cert m) (parts : List Cert) (u : ℕ) → items-the_row-Cert m row ≡ parts
      → RowsPass bits outs n rows more parts u
      → ((1 + u ≡ 1) × Any (RowPasses bits) more) ⊎ PassesEach bits outs n rows more row ((1 + u) - 1)
  rows_pass m more row parts u is p =
      own_first u (Any (RowPasses bits) more) (PassesEach bits outs n rows more row ((1 + u) - 1)) (by p)
    where
      by : ((u ≡ 0) × Any (RowPasses bits) more) ⊎ SomePass bits outs n rows more parts u
          → ((u ≡ 0) × Any (RowPasses bits) more) ⊎ PassesEach bits outs n rows more row ((1 + u) - 1)
      by (inl q) = inl q
      by (inr q) = inr (each_passes m more row ((1 + u) - 1)
          (subst (λ (v : ℕ). SomePass bits outs n rows more (items-the_row-Cert m row) v) (behind_own u)
          (subst (λ (l : List Cert). SomePass bits outs n rows more l u) (sym is) q)))

  pub passes-Residue : (form : Form) (k : ℤ) (parts : List Cert) (m : ℕ) → is_over n form ≡ true → int_lt (pos 1) k ≡ true
      → length (residue_rows form k) ≡ length parts → RowsPass bits outs n rows (residue_rows form k) parts m
      → Passes bits outs n rows (Residue form k parts) (1 + m)
  passes-Residue form k parts m over large same p =
      let row = hidden-the_row-Cert-1 parts in
      let is = items_hidden-the_row-Cert-1 parts in (
        over,
        large,
        fits_all _ (residue_rows form k) row (same ∙ ap length (sym is)),
        rows_pass _ (residue_rows form k) row parts m is p,
      )

  pub passes-Outside : (q : ℕ) (parts : List Cert) (out : List Row) (m : ℕ) → slice_get outs q ≡ Some out
      → length (negations n out) ≡ length parts → RowsPass bits outs n rows (negations n out) parts m
      → Passes bits outs n rows (Outside q parts) (1 + m)
  passes-Outside q parts out m found same p =
      let row = hidden-the_row-Cert-1 parts in
      let is = items_hidden-the_row-Cert-1 parts in
      subst (λ (o : Option (List Row)). MatchOption o ⊥ (λ own. (fits (negations n own) row ≡ true)
      × (((1 + m ≡ 1) × Any (RowPasses bits) (negations n own)) ⊎ PassesEach bits outs n rows (negations n own) row ((1 + m) - 1))))
      (sym found)
      (fits_all _ (negations n out) row (same ∙ ap length (sym is)), rows_pass _ (negations n out) row parts m is p)
