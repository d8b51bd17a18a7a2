-- Nodes as the code matches them.
use Rattle.std.proofs.Common.{◌≡◌, ◌≢◌, ◌⊎◌, inl, inr, ◌∙◌, refl, sym, ap, ap₂, subst, arith, Bool, false, ◌&&◌, ℕ, zero, suc}
use Rattle.std.proofs.Common.{◌+◌, ◌-◌, ◌≤◌, ◌<◌, ℤ, pos, negsuc, ◌<ℤ◌, List, [], ◌∷◌, length, length-append, map, slice_get, option_map}
use Rattle.std.proofs.Common.{get_or, unsigned_abs, Option, Some, None}
use Rattle.std.specs.Prelude.{Result, Ok, Err, MatchOption, if◌then◌else◌}
use Rattle.std.specs.List.{All, range_with_len}
use Rattle.std.proofs.lemmas.Option.{none-some, same_Some, slice_get-map}
use Rattle.std.proofs.lemmas.List.Elements.{All-nil, All-cons, All-head, All-tail, All-push, All-weaker, All-map}
use Rattle.isl_math.proofs.Ring.{linear}
use Rattle.isl_meter.specs.Gauge.{Gauge, IsCharged, IsWithin}
use Rattle.isl_meter.proofs.LimitLemmas.{IsWithin-zero}
use Rattle.isl_meter.specs.declared.Cut.{Cut}
use Rattle.isl_piece.specs.Cut.{IsCutFor}
use Rattle.isl_piece.specs.declared.row.Row.{Row}
use Rattle.isl_piece.specs.declared.system.System.{System}
use Rattle.isl_piece.specs.Negation.{below}
use Rattle.isl_piece.specs.Normal.{bound}
use Rattle.isl_piece.specs.Row.{HasModulus, IsRowWithin, IsWellFormed}
use Rattle.isl_piece.specs.System.{widened}
use Rattle.isl_piece.proofs.ContentLaws.{length-scaled}
use Rattle.isl_piece.proofs.RowMagnitudes.{row_within_kept}
use Rattle.isl_refute.specs.declared.tree.Cert.{Cert, False, Add, Tie, Mod, Weaken, Fresh, Split, Residue, Outside}
use Rattle.isl_refute.specs.declared.tree.Cert.{Add', Tie', Mod', Weaken', Fresh', Split', Residue', Outside'}
use Rattle.isl_refute.specs.declared.tree.Form.{Form}
use Rattle.isl_refute.specs.Checked.{IsChecked, IsFact, IsOut, IsOutRow}
use Rattle.isl_refute.specs.Parts.{nodes_of, refute_all, residues_refute, sides_refute, visit_outside, visit_residues, visit_sides}
use Rattle.isl_refute.specs.Parts.{OutsidePass, ResiduesPass, SidesPass}
use Rattle.isl_refute.specs.Passes.{nodes, Passes, RowPasses, SumAtPasses}
use Rattle.isl_refute.specs.Refutes.{and_row, is_false, negations, refutes, residue_rows, rows_of, where_some, with_both, with_one}
use Rattle.isl_refute.specs.Refutes.{sum_row, tie_row, mod_row, weaken_row, fresh_row}
use Rattle.isl_refute.specs.Visited.{visited, where_count}
use Rattle.isl_refute.proofs.CheckLaws.{checked_same, checked_unit, counted_no, cut_for, form_not_over, form_over}
use Rattle.isl_refute.proofs.Sound.{negations_formed, residue_formed}
use Rattle.isl_refute.proofs.WithinLaws.{fact_kept, out_kept, out_wider}
use Rattle.isl_refute.proofs.TreeLaws.{refutes-Add, refutes-Tie, refutes-Mod, refutes-Weaken, refutes-Fresh, refutes-Split, refutes-Residue}
use Rattle.isl_refute.proofs.TreeLaws.{refutes-Outside}
use Rattle.isl_refute.proofs.TreeLaws.{nodes-Split, nodes-Residue, nodes-Outside, visited-Add, visited-Tie, visited-Mod, visited-Weaken}
use Rattle.isl_refute.proofs.TreeLaws.{visited-Fresh, visited-Split, visited-Residue, visited-Outside}
use Rattle.isl_refute.proofs.TreeLaws.{passes-Add, passes-Tie, passes-Mod, passes-Weaken, passes-Fresh, passes-Split, passes-Residue}
use Rattle.isl_refute.proofs.TreeLaws.{passes-Outside}

-- what checking a node leaves, beside its own unit
abbrev pub IsNode : Gauge → Gauge → List (List Row) → ℕ → List Row → Cert → Result Bool Cut → Type 0
IsNode g h outs n rows x result =
    IsChecked g h (refutes outs n rows x) (visited outs n rows x - 1) (λ m. Passes g.bits outs n rows x (1 + m)) result

-- a part with a row, where there is one
abbrev pub IsPart : Gauge → Gauge → List (List Row) → ℕ → List Row → Option Row → Cert → Result Bool Cut → Type 0
IsPart g h outs n rows row part result =
    IsChecked g h (where_some row (λ r. refutes outs n (and_row rows r) part))
    (where_count row (λ r. visited outs n (and_row rows r) part))
    (λ m. MatchOption row ⊥ (λ r. Passes g.bits outs n (and_row rows r) part m)) result

module _ (outs : List (List Row)) (n : ℕ) (rows : List Row) where
  shown : (g h : Gauge) (x y : Cert) (result : Result Bool Cut) → x ≡ y → IsNode g h outs n rows y result → IsNode g h outs n rows x result
  shown g h x y result is p = subst (λ (t : Cert). IsNode g h outs n rows t result) (sym is) p

  part_shown : (g mid h : Gauge) (row own : Option Row) (inner part : Cert) (result : Result Bool Cut) → mid ≡ g → row ≡ own → inner ≡ part
      → IsPart mid h outs n rows row inner result → IsPart g h outs n rows own part result
  part_shown g mid h row own inner part result kept found same p =
      subst (λ (m : Gauge). IsPart m h outs n rows own part result) kept
      (subst (λ (o : Option Row). IsPart mid h outs n rows o part result) found
      (subst (λ (t : Cert). IsPart mid h outs n rows row t result) same p))

  pub false_is : (g h : Gauge) (x : Cert) (i : ℕ) (b : Bool) → x ≡ False i → h ≡ g → b ≡ where_some (slice_get rows i) (λ r. is_false r)
      → IsNode g h outs n rows x (Ok b)
  false_is g h x i b is kept told = shown g h x (False i) (Ok b) is
      (told, counted_no g h (visited outs n rows (False i) - 1) kept (omega arith))

  pub add_is : (g mid h : Gauge) (x : Cert) (i : ℕ) (a : ℤ) (j : ℕ) (b c d : ℤ) (part inner : Cert) (row : Option Row)
      (result : Result Bool Cut) → x ≡ Add i a j b part → inner ≡ part → c ≡ a → d ≡ b
      → row ≡ with_both (slice_get rows i) (slice_get rows j) (sum_row c d) → mid ≡ g
      → IsPart mid h outs n rows row inner result → IsNode g h outs n rows x result
  add_is g mid h x i a j b c d part inner row result is same first second found kept p =
      let own = with_both (slice_get rows i) (slice_get rows j) (sum_row a b) in
      let told : row ≡ own =
      found ∙ ap₂ (λ (y z : ℤ). with_both (slice_get rows i) (slice_get rows j) (sum_row y z)) first second in
      shown g h x (Add i a j b part) result is
      (checked_same g h (where_some own (λ r. refutes outs n (and_row rows r) part)) (refutes outs n rows (Add i a j b part))
      (where_count own (λ r. visited outs n (and_row rows r) part)) (visited outs n rows (Add i a j b part) - 1)
      (λ m. MatchOption own ⊥ (λ r. Passes g.bits outs n (and_row rows r) part m))
      (λ m. Passes g.bits outs n rows (Add i a j b part) (1 + m)) result (part_shown g mid h row own inner part result kept told same p)
      (refutes-Add outs n rows i a j b part)
      (let e : visited outs n rows (Add i a j b part) ≡ 1 + where_count own (λ r. visited outs n (and_row rows r) part) =
      visited-Add outs n rows i a j b part in omega (arith, e))
      (λ m q. passes-Add g.bits outs n rows i a j b part m (inr q)))

  pub add_cut : (g h : Gauge) (x : Cert) (i : ℕ) (a : ℤ) (j : ℕ) (b c d : ℤ) (part : Cert) (cut : Cut) → x ≡ Add i a j b part → c ≡ a
      → d ≡ b → IsCutFor (SumAtPasses g.bits rows i c j d) g h cut → IsNode g h outs n rows x (Err cut)
  add_cut g h x i a j b c d part cut is first second e =
      let told : IsCutFor (SumAtPasses g.bits rows i a j b) g h cut =
      subst (λ (y : ℤ). IsCutFor (SumAtPasses g.bits rows i y j b) g h cut) first
      (subst (λ (z : ℤ). IsCutFor (SumAtPasses g.bits rows i c j z) g h cut) second e) in
      shown g h x (Add i a j b part) (Err cut) is
      (cut_for g h (SumAtPasses g.bits rows i a j b) (λ m. Passes g.bits outs n rows (Add i a j b part) (1 + m))
      (visited outs n rows (Add i a j b part) - 1) cut told
      (λ q. passes-Add g.bits outs n rows i a j b part 0 (inl (refl, q))))

  pub tie_is : (g mid h : Gauge) (x : Cert) (i j : ℕ) (part inner : Cert) (row : Option Row) (result : Result Bool Cut)
      → x ≡ Tie i j part → inner ≡ part → row ≡ with_both (slice_get rows i) (slice_get rows j) tie_row → mid ≡ g
      → IsPart mid h outs n rows row inner result → IsNode g h outs n rows x result
  tie_is g mid h x i j part inner row result is same found kept p =
      let own = with_both (slice_get rows i) (slice_get rows j) tie_row in
      shown g h x (Tie i j part) result is
      (checked_same g h (where_some own (λ r. refutes outs n (and_row rows r) part)) (refutes outs n rows (Tie i j part))
      (where_count own (λ r. visited outs n (and_row rows r) part)) (visited outs n rows (Tie i j part) - 1)
      (λ m. MatchOption own ⊥ (λ r. Passes g.bits outs n (and_row rows r) part m))
      (λ m. Passes g.bits outs n rows (Tie i j part) (1 + m)) result (part_shown g mid h row own inner part result kept found same p)
      (refutes-Tie outs n rows i j part)
      (let e : visited outs n rows (Tie i j part) ≡ 1 + where_count own (λ r. visited outs n (and_row rows r) part) =
      visited-Tie outs n rows i j part in omega (arith, e))
      (passes-Tie g.bits outs n rows i j part))

  -- the row itself may pass the limit
  row_or_part : (bits : ℕ) (o : Option Row) (part : Cert) (m : ℕ) → MatchOption o ⊥ (λ r. Passes bits outs n (and_row rows r) part m)
      → MatchOption o ⊥ (λ r. ((m ≡ 0) × RowPasses bits r) ⊎ Passes bits outs n (and_row rows r) part m)
  row_or_part bits None part m q = q
  row_or_part bits (Some r) part m q = inr q

  row_alone : (bits : ℕ) (o : Option Row) (part : Cert) (m : ℕ) → m ≡ 0 → MatchOption o ⊥ (RowPasses bits)
      → MatchOption o ⊥ (λ r. ((m ≡ 0) × RowPasses bits r) ⊎ Passes bits outs n (and_row rows r) part m)
  row_alone bits None part m e q = q
  row_alone bits (Some r) part m e q = inl (e, q)

  pub mod_is : (g mid h : Gauge) (x : Cert) (i : ℕ) (k l : ℤ) (part inner : Cert) (row : Option Row) (result : Result Bool Cut)
      → x ≡ Mod i k part → inner ≡ part → l ≡ k → row ≡ with_one (slice_get rows i) (mod_row l) → mid ≡ g
      → IsPart mid h outs n rows row inner result → IsNode g h outs n rows x result
  mod_is g mid h x i k l part inner row result is same number found kept p =
      let own = with_one (slice_get rows i) (mod_row k) in
      let told : row ≡ own = found ∙ ap (λ (z : ℤ). with_one (slice_get rows i) (mod_row z)) number in
      shown g h x (Mod i k part) result is
      (checked_same g h (where_some own (λ r. refutes outs n (and_row rows r) part)) (refutes outs n rows (Mod i k part))
      (where_count own (λ r. visited outs n (and_row rows r) part)) (visited outs n rows (Mod i k part) - 1)
      (λ m. MatchOption own ⊥ (λ r. Passes g.bits outs n (and_row rows r) part m))
      (λ m. Passes g.bits outs n rows (Mod i k part) (1 + m)) result (part_shown g mid h row own inner part result kept told same p)
      (refutes-Mod outs n rows i k part)
      (let e : visited outs n rows (Mod i k part) ≡ 1 + where_count own (λ r. visited outs n (and_row rows r) part) =
      visited-Mod outs n rows i k part in omega (arith, e))
      (λ m q. passes-Mod g.bits outs n rows i k part m (row_or_part g.bits own part m q)))

  pub mod_cut : (g h : Gauge) (x : Cert) (i : ℕ) (k l : ℤ) (part : Cert) (cut : Cut) → x ≡ Mod i k part → l ≡ k
      → IsCutFor (MatchOption (with_one (slice_get rows i) (mod_row l)) ⊥ (RowPasses g.bits)) g h cut → IsNode g h outs n rows x (Err cut)
  mod_cut g h x i k l part cut is number e =
      let own = with_one (slice_get rows i) (mod_row k) in
      let told : IsCutFor (MatchOption own ⊥ (RowPasses g.bits)) g h cut =
      subst (λ (z : ℤ). IsCutFor (MatchOption (with_one (slice_get rows i) (mod_row z)) ⊥ (RowPasses g.bits)) g h cut) number e in
      shown g h x (Mod i k part) (Err cut) is
      (cut_for g h (MatchOption own ⊥ (RowPasses g.bits)) (λ m. Passes g.bits outs n rows (Mod i k part) (1 + m))
      (visited outs n rows (Mod i k part) - 1) cut told
      (λ q. passes-Mod g.bits outs n rows i k part 0 (row_alone g.bits own part 0 refl q)))

  pub weaken_is : (g mid h : Gauge) (x : Cert) (i : ℕ) (k l : ℤ) (part inner : Cert) (row : Option Row) (result : Result Bool Cut)
      → x ≡ Weaken i k part → inner ≡ part → l ≡ k → row ≡ with_one (slice_get rows i) (weaken_row l) → mid ≡ g
      → IsPart mid h outs n rows row inner result → IsNode g h outs n rows x result
  weaken_is g mid h x i k l part inner row result is same number found kept p =
      let own = with_one (slice_get rows i) (weaken_row k) in
      let told : row ≡ own = found ∙ ap (λ (z : ℤ). with_one (slice_get rows i) (weaken_row z)) number in
      shown g h x (Weaken i k part) result is
      (checked_same g h (where_some own (λ r. refutes outs n (and_row rows r) part)) (refutes outs n rows (Weaken i k part))
      (where_count own (λ r. visited outs n (and_row rows r) part)) (visited outs n rows (Weaken i k part) - 1)
      (λ m. MatchOption own ⊥ (λ r. Passes g.bits outs n (and_row rows r) part m))
      (λ m. Passes g.bits outs n rows (Weaken i k part) (1 + m)) result (part_shown g mid h row own inner part result kept told same p)
      (refutes-Weaken outs n rows i k part)
      (let e : visited outs n rows (Weaken i k part) ≡ 1 + where_count own (λ r. visited outs n (and_row rows r) part) =
      visited-Weaken outs n rows i k part in omega (arith, e))
      (passes-Weaken g.bits outs n rows i k part))

  -- over one column more
  pub fresh_is : (g mid h : Gauge) (x : Cert) (i : ℕ) (part inner : Cert) (row : Row) (result : Result Bool Cut)
      → x ≡ Fresh i part → inner ≡ part → Some row ≡ with_one (slice_get rows i) fresh_row → mid ≡ g
      → IsChecked mid h (refutes outs (n + 1) (and_row (map widened rows) row) inner)
      (visited outs (n + 1) (and_row (map widened rows) row) inner)
      (Passes mid.bits outs (n + 1) (and_row (map widened rows) row) inner) result
      → IsNode g h outs n rows x result
  fresh_is g mid h x i part inner row result is same found kept p =
      let own = with_one (slice_get rows i) fresh_row in
      let says : Cert → Option Row → Bool = λ t o. where_some o (λ r. refutes outs (n + 1) (and_row (map widened rows) r) t) in
      let count : Cert → Option Row → ℕ = λ t o. where_count o (λ r. visited outs (n + 1) (and_row (map widened rows) r) t) in
      let passes : Gauge → Cert → Option Row → ℕ → Type 0 =
      λ m t o u. MatchOption o ⊥ (λ r. Passes m.bits outs (n + 1) (and_row (map widened rows) r) t u) in
      let q : IsChecked g h (says part own) (count part own) (passes g part own) result =
      subst (λ (m : Gauge). IsChecked m h (says part own) (count part own) (passes m part own) result) kept
      (subst (λ (o : Option Row). IsChecked mid h (says part o) (count part o) (passes mid part o) result) found
      (subst (λ (t : Cert). IsChecked mid h (says t (Some row)) (count t (Some row)) (passes mid t (Some row)) result) same p)) in
      shown g h x (Fresh i part) result is
      (checked_same g h (says part own) (refutes outs n rows (Fresh i part)) (count part own) (visited outs n rows (Fresh i part) - 1)
      (passes g part own) (λ m. Passes g.bits outs n rows (Fresh i part) (1 + m)) result q
      (refutes-Fresh outs n rows i part)
      (let e : visited outs n rows (Fresh i part) ≡ 1 + count part own = visited-Fresh outs n rows i part in omega (arith, e))
      (passes-Fresh g.bits outs n rows i part))

  pub fresh_none : (g h : Gauge) (x : Cert) (i : ℕ) (part : Cert) → x ≡ Fresh i part → None ≡ with_one (slice_get rows i) fresh_row → h ≡ g
      → IsNode g h outs n rows x (Ok false)
  fresh_none g h x i part is found kept =
      shown g h x (Fresh i part) (Ok false) is (
        ap (λ (o : Option Row). where_some o (λ r. refutes outs (n + 1) (and_row (map widened rows) r) part)) found
            ∙ sym (refutes-Fresh outs n rows i part),
        counted_no g h (visited outs n rows (Fresh i part) - 1) kept (let e : visited outs n rows (Fresh i part) ≡ 1 =
            visited-Fresh outs n rows i part
            ∙ ap (λ (o : Option Row). 1 + where_count o (λ r. visited outs (n + 1) (and_row (map widened rows) r) part)) (sym found) in
            omega (arith, e)),
      )

  over_count : (form : Form) (up down : Cert) → length form.coefs ≡ n
      → visited outs n rows (Split form up down) ≡ 1 + visit_sides outs n rows form up down
  over_count form up down wide =
      visited-Split outs n rows form up down
      ∙ ap (λ b. 1 + (if b then visit_sides outs n rows form up down else 0)) (form_over n form wide)

  none_count : (form : Form) (up down : Cert) → length form.coefs ≢ n → visited outs n rows (Split form up down) ≡ 1
  none_count form up down d =
      visited-Split outs n rows form up down
      ∙ ap (λ b. 1 + (if b then visit_sides outs n rows form up down else 0)) (form_not_over n form d)

  pub split_none : (g : Gauge) (x : Cert) (form : Form) (up down : Cert) → x ≡ Split form up down → length form.coefs ≢ n
      → IsNode g g outs n rows x (Ok false)
  split_none g x form up down is d =
      shown g g x (Split form up down) (Ok false) is (
        sym (refutes-Split outs n rows form up down
            ∙ ap (λ b. b && sides_refute outs n rows form up down) (form_not_over n form d)),
        counted_no g g (visited outs n rows (Split form up down) - 1) refl (let e = none_count form up down d in omega (arith, e)),
      )

  pub split_is : (g h : Gauge) (x : Cert) (form : Form) (up down first second : Cert) (result : Result Bool Cut)
      → x ≡ Split form up down → first ≡ up → second ≡ down → length form.coefs ≡ n
      → IsChecked g h (sides_refute outs n rows form first second) (visit_sides outs n rows form first second)
      (SidesPass g.bits outs n rows form first second) result
      → IsNode g h outs n rows x result
  split_is g h x form up down first second result is one two wide p =
      let says : Cert → Cert → Bool = λ s t. sides_refute outs n rows form s t in
      let count : Cert → Cert → ℕ = λ s t. visit_sides outs n rows form s t in
      let passes : Cert → Cert → ℕ → Type 0 = λ s t. SidesPass g.bits outs n rows form s t in
      let q : IsChecked g h (says up down) (count up down) (passes up down) result =
      subst (λ (s : Cert). IsChecked g h (says s down) (count s down) (passes s down) result) one
      (subst (λ (t : Cert). IsChecked g h (says first t) (count first t) (passes first t) result) two p) in
      shown g h x (Split form up down) result is
      (checked_same g h (says up down) (refutes outs n rows (Split form up down)) (count up down)
      (visited outs n rows (Split form up down) - 1) (passes up down) (λ m. Passes g.bits outs n rows (Split form up down) (1 + m)) result q
      (refutes-Split outs n rows form up down ∙ ap (λ b. b && says up down) (form_over n form wide))
      (let e : visited outs n rows (Split form up down) ≡ 1 + count up down = over_count form up down wide in omega (arith, e))
      (λ m s. passes-Split g.bits outs n rows form up down m (form_over n form wide) s))

  pub residue_is : (g h : Gauge) (x : Cert) (form own : Form) (k : ℤ) (parts slice : List Cert) (result : Result Bool Cut)
      → x ≡ Residue form k parts → own ≡ form → slice ≡ parts
      → IsChecked g h (residues_refute outs n rows own k slice) (visit_residues outs n rows own k slice)
      (ResiduesPass g.bits outs n rows own k slice) result
      → IsNode g h outs n rows x result
  residue_is g h x form own k parts slice result is same listed p =
      let says : Form → List Cert → Bool = λ f l. residues_refute outs n rows f k l in
      let passes : Form → List Cert → ℕ → Type 0 = λ f l. ResiduesPass g.bits outs n rows f k l in
      let count : Form → List Cert → ℕ = λ f l. visit_residues outs n rows f k l in
      let q : IsChecked g h (says form parts) (count form parts) (passes form parts) result =
      subst (λ (f : Form). IsChecked g h (says f parts) (count f parts) (passes f parts) result) same
      (subst (λ (l : List Cert). IsChecked g h (says own l) (count own l) (passes own l) result) listed p) in
      shown g h x (Residue form k parts) result is
      (checked_same g h (says form parts) (refutes outs n rows (Residue form k parts)) (count form parts)
      (visited outs n rows (Residue form k parts) - 1) (passes form parts)
      (λ m. Passes g.bits outs n rows (Residue form k parts) (1 + m)) result q
      (refutes-Residue outs n rows form k parts)
      (let e : visited outs n rows (Residue form k parts) ≡ 1 + count form parts = visited-Residue outs n rows form k parts in
      omega (arith, e))
      (λ m r. passes-Residue g.bits outs n rows form k parts m r.0 r.1 r.2 r.3))

  pub residue_shown : (g h : Gauge) (x : Cert) (form : Form) (k l : ℤ) (parts slice : List Cert) (result : Result Bool Cut)
      → x ≡ Residue form k parts → l ≡ k → slice ≡ parts
      → IsChecked g h (residues_refute outs n rows form l slice) (visit_residues outs n rows form l slice)
      (ResiduesPass g.bits outs n rows form l slice) result
      → IsNode g h outs n rows x result
  residue_shown g h x form k l parts slice result is number listed p =
      residue_is g h x form form k parts slice result is refl listed
      (subst (λ (z : ℤ). IsChecked g h (residues_refute outs n rows form z slice) (visit_residues outs n rows form z slice)
      (ResiduesPass g.bits outs n rows form z slice) result) number p)

  pub outside_is : (g h : Gauge) (x : Cert) (q : ℕ) (parts slice : List Cert) (out : List Row) (result : Result Bool Cut)
      → x ≡ Outside q parts → slice ≡ parts → slice_get outs q ≡ Some out
      → IsChecked g h (refute_all outs n rows (negations n out) slice) (visit_outside outs n rows out slice)
      (OutsidePass g.bits outs n rows out slice) result
      → IsNode g h outs n rows x result
  outside_is g h x q parts slice out result is listed found p =
      let says : List Cert → Bool = λ l. refute_all outs n rows (negations n out) l in
      let passes : List Cert → ℕ → Type 0 = λ l. OutsidePass g.bits outs n rows out l in
      let own : IsChecked g h (says parts) (visit_outside outs n rows out parts) (passes parts) result =
      subst (λ (l : List Cert). IsChecked g h (says l) (visit_outside outs n rows out l) (passes l) result) listed p in
      shown g h x (Outside q parts) result is
      (checked_same g h (says parts) (refutes outs n rows (Outside q parts)) (visit_outside outs n rows out parts)
      (visited outs n rows (Outside q parts) - 1) (passes parts)
      (λ m. Passes g.bits outs n rows (Outside q parts) (1 + m)) result own
      (refutes-Outside outs n rows q parts
      ∙ ap (λ (o : Option (List Row)). where_some o (λ l. refute_all outs n rows (negations n l) parts)) found)
      (let e : visited outs n rows (Outside q parts) ≡ 1 + visit_outside outs n rows out parts =
      visited-Outside outs n rows q parts
      ∙ ap (λ (o : Option (List Row)). 1 + where_count o (λ l. visit_outside outs n rows l parts)) found in omega (arith, e))
      (λ m r. passes-Outside g.bits outs n rows q parts out m found r.0 r.1))

  pub outside_none : (g h : Gauge) (x : Cert) (q : ℕ) (parts : List Cert) → x ≡ Outside q parts → slice_get outs q ≡ None → h ≡ g
      → IsNode g h outs n rows x (Ok false)
  outside_none g h x q parts is found kept =
      shown g h x (Outside q parts) (Ok false) is (
        sym (refutes-Outside outs n rows q parts
            ∙ ap (λ (o : Option (List Row)). where_some o (λ l. refute_all outs n rows (negations n l) parts)) found),
        counted_no g h (visited outs n rows (Outside q parts) - 1) kept (let e : visited outs n rows (Outside q parts) ≡ 1 =
            visited-Outside outs n rows q parts
            ∙ ap (λ (o : Option (List Row)). 1 + where_count o (λ l. visit_outside outs n rows l parts)) found in omega (arith, e)),
      )

-- the rows of an out at a place
pub out_at : (outs : List System) (q : ℕ) (out : System) → slice_get outs q ≡ Some out → slice_get (map rows_of outs) q ≡ Some out.rows
out_at outs q out found = slice_get-map rows_of outs q ∙ ap (λ (o : Option System). option_map rows_of o) found

pub no_out_at : (outs : List System) (q : ℕ) → slice_get outs q ≡ None → slice_get (map rows_of outs) q ≡ None
no_out_at outs q found = slice_get-map rows_of outs q ∙ ap (λ (o : Option System). option_map rows_of o) found

-- ---- a whole node
pub some_node : (x : Cert) → 1 ≤ nodes x
some_node (False i) = omega arith
some_node (Add' i a j b s part) = omega arith
some_node (Tie' i j s part) = omega arith
some_node (Mod' i k s part) = omega arith
some_node (Weaken' i k s part) = omega arith
some_node (Fresh' i s part) = omega arith
some_node (Split' form s up t down) = omega arith
some_node (Residue' form k s parts) = omega arith
some_node (Outside' q s parts) = omega arith

pub some_visited : (outs : List (List Row)) (n : ℕ) (rows : List Row) (x : Cert) → 1 ≤ visited outs n rows x
some_visited outs n rows (False i) = omega arith
some_visited outs n rows (Add' i a j b s part) = omega arith
some_visited outs n rows (Tie' i j s part) = omega arith
some_visited outs n rows (Mod' i k s part) = omega arith
some_visited outs n rows (Weaken' i k s part) = omega arith
some_visited outs n rows (Fresh' i s part) = omega arith
some_visited outs n rows (Split' form s up t down) = omega arith
some_visited outs n rows (Residue' form k s parts) = omega arith
some_visited outs n rows (Outside' q s parts) = omega arith

pub refute_is : (g h k : Gauge) (outs : List (List Row)) (n : ℕ) (rows : List Row) (x : Cert) (result : Result Bool Cut)
    → h ≡ record g { units = g.units + 1 } → IsNode h k outs n rows x result
    → IsChecked g k (refutes outs n rows x) (visited outs n rows x) (Passes g.bits outs n rows x) result
refute_is g h k outs n rows x result unit p =
    checked_unit g h k (refutes outs n rows x) (visited outs n rows x) (Passes g.bits outs n rows x) result unit
    (some_visited outs n rows x)
    (subst (λ (b : ℕ). IsChecked h k (refutes outs n rows x) (visited outs n rows x - 1) (λ m. Passes b outs n rows x (1 + m)) result)
    (ap (λ (m : Gauge). m.bits) unit) p)

pub part_none : (g : Gauge) (outs : List (List Row)) (n : ℕ) (rows : List Row) (row : Option Row) (part : Cert) → row ≡ None
    → IsPart g g outs n rows row part (Ok false)
part_none g outs n rows row part none =
    subst (λ (o : Option Row). IsPart g g outs n rows o part (Ok false)) (sym none)
    (refl, counted_no g g 0 refl refl)

pub part_some : (g h : Gauge) (outs : List (List Row)) (n : ℕ) (rows : List Row) (row : Option Row) (own : Row) (part : Cert)
    (result : Result Bool Cut) → row ≡ Some own
    → IsChecked g h (refutes outs n (and_row rows own) part) (visited outs n (and_row rows own) part)
    (Passes g.bits outs n (and_row rows own) part) result
    → IsPart g h outs n rows row part result
part_some g h outs n rows row own part result is p =
    subst (λ (o : Option Row). IsPart g h outs n rows o part result) (sym is) p

-- ---- what parts begin with
pub same_bits : (g h : Gauge) → IsCharged g h → h.bits ≡ g.bits
same_bits g h c = ap (λ (m : Gauge). m.bits) c.same

pub outs_later : (g h : Gauge) (n : ℕ) (outs : List System) → h.bits ≡ g.bits → All (IsOut g n) outs → All (IsOut h n) outs
outs_later g h n outs same all = All-weaker (IsOut g n) (IsOut h n) (λ out o. out_kept g h n out.rows same o) outs all

pub outs_wider : (g : Gauge) (n : ℕ) (outs : List System) → All (IsOut g n) outs → All (IsOut g (n + 1)) outs
outs_wider g n outs all = All-weaker (IsOut g n) (IsOut g (n + 1)) (λ out o. out_wider g n out.rows o) outs all

pub facts_wider : (g : Gauge) (n : ℕ) (rows : List Row) → All (IsFact g n) rows → All (IsFact g (n + 1)) (map widened rows)
facts_wider g n rows all =
    All-map (IsFact g (n + 1)) widened rows
    (All-weaker (IsFact g n) (λ r. IsFact g (n + 1) (widened r)) (λ r f. record {
      formed = record {
        width = (let l = length-append r.coefs (pos 0 ∷ []) in let w = f.formed.width in omega (arith, l, w));
        modulus = f.formed.modulus;
      };
      within = record {
        coefs = All-push (IsWithin g) r.coefs (pos 0) f.within.coefs (IsWithin-zero g);
        constant = f.within.constant;
        k = f.within.k;
      };
    }) rows all)

pub all_facts : (g : Gauge) (n : ℕ) (rows : List Row) → All (IsWellFormed n) rows → All (IsRowWithin g) rows → All (IsFact g n) rows
all_facts g n [] p q = All-nil (IsFact g n)
all_facts g n (r ∷ rows) p q =
    All-cons (IsFact g n) r rows
    (record { formed = All-head (IsWellFormed n) r rows p; within = All-head (IsRowWithin g) r rows q })
    (all_facts g n rows (All-tail (IsWellFormed n) r rows p) (All-tail (IsRowWithin g) r rows q))

pub negation_facts : (g m : Gauge) (n : ℕ) (out made : List Row) → m ≡ g → made ≡ negations n out → All (IsOutRow g n) out
    → All (IsRowWithin g) made → All (IsFact m n) made
negation_facts g m n out made same is over within =
    subst (λ (h : Gauge). All (IsFact h n) made) (sym same)
    (all_facts g n made (subst (All (IsWellFormed n)) (sym is)
    (negations_formed n out (All-weaker (IsOutRow g n) (λ r. (length r.coefs ≤ n) × HasModulus r.kind r.k) (λ r o. (o.width, o.modulus)) out
    over)))
    within)

pub residue_facts : (g m : Gauge) (n : ℕ) (form : Form) (k : ℤ) (made : List Row) → m ≡ g → made ≡ residue_rows form k
    → length form.coefs ≡ n
    → pos 1 <ℤ k → All (IsRowWithin g) made → All (IsFact m n) made
residue_facts g m n form k made same is wide above within =
    subst (λ (h : Gauge). All (IsFact h n) made) (sym same)
    (all_facts g n made (subst (All (IsWellFormed n)) (sym is)
    (residue_formed n form k wide (omega (arith, linear)) (range_with_len 0 (unsigned_abs k)))) within)

pub bound_fact : (g : Gauge) (n : ℕ) (form : Form) (row : Row) → row ≡ bound form.coefs form.constant → length form.coefs ≡ n
    → IsRowWithin g row
    → IsFact g n row
bound_fact g n form row is wide within = record {
  formed = subst (IsWellFormed n) (sym is) (record { width = wide; modulus = refl });
  within = within;
}

pub below_fact : (g : Gauge) (n : ℕ) (form : Form) (row opposite : Row) → row ≡ bound form.coefs form.constant
    → opposite ≡ below row.coefs row.constant → length form.coefs ≡ n → IsRowWithin g opposite → IsFact g n opposite
below_fact g n form row opposite is turned wide within = record {
  formed = subst (IsWellFormed n) (sym (turned ∙ ap (λ (r : Row). below r.coefs r.constant) is))
      (record { width = length-scaled (negsuc 0) form.coefs ∙ wide; modulus = refl });
  within = within;
}

pub within_later : (g h : Gauge) (row : Row) → h.bits ≡ g.bits → IsRowWithin g row → IsRowWithin h row
within_later g h row same w = row_within_kept h g row (sym same) w

pub fact_at : (g h : Gauge) (n : ℕ) (rows : List Row) (i : ℕ) (r : Row) → h.bits ≡ g.bits → i < length rows → r ≡ get_or rows i r
    → All (IsFact g n) rows → IsFact h n r
fact_at g h n rows i r same low at all = fact_kept g h n r same (subst (IsFact g n) (sym at) (all i r low))

-- ---- how far a proof goes down
pub one_less : (x y part inner : Cert) → x ≡ y → nodes y ≡ 1 + nodes part → inner ≡ part → nodes inner + 1 ≤ nodes x
one_less x y part inner is whole same =
    let a = ap nodes is in
    let b = ap nodes same in
    omega (arith, a, b, whole)

pub sides_less : (x : Cert) (form : Form) (up down first second : Cert) → x ≡ Split form up down → first ≡ up → second ≡ down
    → (nodes first + nodes second) + 1 ≤ nodes x
sides_less x form up down first second is one two =
    let a = ap nodes is in
    let b = ap nodes one in
    let c = ap nodes two in
    let w = nodes-Split form up down in
    omega (arith, a, b, c, w)

pub residues_less : (x : Cert) (form : Form) (k : ℤ) (parts slice : List Cert) → x ≡ Residue form k parts → slice ≡ parts
    → nodes_of slice + 1 ≤ nodes x
residues_less x form k parts slice is same =
    let a = ap nodes is in
    let b = ap nodes_of same in
    let w = nodes-Residue form k parts in
    omega (arith, a, b, w)

pub outside_less : (x : Cert) (q : ℕ) (parts slice : List Cert) → x ≡ Outside q parts → slice ≡ parts → nodes_of slice + 1 ≤ nodes x
outside_less x q parts slice is same =
    let a = ap nodes is in
    let b = ap nodes_of same in
    let w = nodes-Outside q parts in
    omega (arith, a, b, w)

pub part_less : (parts : List Cert) (i : ℕ) (part : Cert) → i < length parts → part ≡ get_or parts i part → nodes part ≤ nodes_of parts
part_less [] i part low at = absurd (omega (arith, low))
part_less (other ∷ parts) zero part low at = let a = ap nodes at in omega (arith, a)
part_less (other ∷ parts) (suc i) part low at = let r = part_less parts i part (omega (arith, low)) at in omega (arith, r)

pub out_within : (g : Gauge) (n : ℕ) (outs : List System) (q : ℕ) (out : System) → slice_get outs q ≡ Some out → All (IsOut g n) outs
    → IsOut g n out
out_within g n [] q out found all = absurd (none-some out found)
out_within g n (other ∷ outs) zero out found all = subst (IsOut g n) (same_Some other out found) (All-head (IsOut g n) other outs all)
out_within g n (other ∷ outs) (suc q) out found all = out_within g n outs q out found (All-tail (IsOut g n) other outs all)
