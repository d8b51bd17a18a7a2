-- Two numbers behind others, and the question which is greater.
use Rattle.std.proofs.Common.{◌≡◌, ◌≢◌, ◌↔◌, refl, sym, ap, ◌∙◌, subst, arith, ℕ, ◌+◌, ◌-◌, ◌<◌, ℤ, pos, negsuc, ◌<ℤ◌, ◌≤ℤ◌, ◌+ℤ◌, ◌*ℤ◌}
use Rattle.std.proofs.Common.{List, [], ◌∷◌, ◌++◌, length, replicate}
use Rattle.std.specs.List.{All}
use Rattle.std.proofs.lemmas.List.{append_assoc, length-append, length-replicate}
use Rattle.std.proofs.lemmas.List.Elements.{All-append, All-cons, All-nil, All-push, All-replicate}
use Rattle.isl_math.specs.Divide.{floor_div}
use Rattle.isl_math.specs.Dot.{dot}
use Rattle.isl_math.proofs.DotLaws.{dot-append, dot-zeros}
use Rattle.isl_math.proofs.Ring.{linear}
use Rattle.isl_meter.specs.Gauge.{Gauge, IsWithin}
use Rattle.isl_piece.specs.declared.definition.Definition.{Definition}
use Rattle.isl_piece.specs.declared.row.RowKind.TheVariants as kind
use Rattle.isl_piece.specs.declared.row.Row.{Row}
use Rattle.isl_piece.specs.declared.system.System.{System}
use Rattle.isl_piece.specs.Definition.{defined_value, IsDefinition}
use Rattle.isl_piece.specs.Row.{value_at, HoldsRow, IsRowWithin, IsWellFormed}
use Rattle.isl_piece.specs.System.{HoldRows, free_columns, with_definition, IsSystemWithin}
use Rattle.isl_greatest.specs.State.{full, number, BothBehind, IsCandidate, IsFrame, IsQuestion}
use Rattle.isl_greatest.proofs.CandidateLaws.{candidate_made, definition_of, definition_sound, frame_full, full_behind, full_push, number_push}
use Rattle.isl_greatest.proofs.DecideLaws.{one_holds}

-- ---- both numbers
pub definition_same : (s : System) (cs ds : List ℤ) (a b k m : ℤ) → cs ≡ ds → a ≡ b → k ≡ m
    → with_definition s (record { coefs = cs; constant = a; k = k }) ≡ with_definition s (record { coefs = ds; constant = b; k = m })
definition_same s cs ds a b k m e f h = rw (e, f, h) refl

-- a definition over one column more, which it does not name
abbrev pub wider : Definition → Definition
wider d = record { coefs = d.coefs ++ pos 0 ∷ []; constant = d.constant; k = d.k }

module _ (g : Gauge) (n : ℕ) (chosen best cur copy both : System) (d : Definition) (frame : IsFrame g n chosen) (b : IsCandidate g n chosen best)
    (c : IsCandidate g n chosen cur) (own : d ≡ b.definition) (same : copy ≡ cur) (made : both ≡ with_definition copy (wider d)) where
  sound : IsDefinition g chosen.columns d
  sound = subst (IsDefinition g chosen.columns) (sym own) (definition_sound g n chosen best b frame)

  pub wider_sound : IsWithin g (pos 0) → IsDefinition g cur.columns (wider d)
  wider_sound none = record {
    width =
        let w = sound.width in
        let l = length-append d.coefs (pos 0 ∷ []) in
        let k = c.columns in
        omega (arith, w, l, k);
    modulus = sound.modulus;
    coefs = All-push (IsWithin g) d.coefs (pos 0) sound.coefs none;
    constant = sound.constant;
    k = sound.k;
  }

  both_candidate : IsWithin g (pos 0) → IsCandidate g n cur both
  both_candidate none = candidate_made g n cur copy both (wider d) same made c.frame (wider_sound none)

  pub both_frame : IsWithin g (pos 0) → IsFrame g n both × (both.columns ≡ chosen.columns + 2)
  both_frame none =
      let cand = both_candidate none in
      let a = cand.columns in
      let e = c.columns in
      (cand.frame, omega (arith, a, e))

  pub both_numbers : IsWithin g (pos 0) → (v : List ℤ) → length v ≡ n → BothBehind (full chosen v) (number cur v) (number best v) (full both v)
  both_numbers none v long =
      let q = full chosen v in
      let y = number cur v in
      let behind = full_behind g n chosen cur v c in
      let definitions = ap (λ (s : System). s.definitions) (made ∙ ap (λ (s : System). with_definition s (wider d)) same) in
      let own_value : defined_value (wider d) (full cur v) ≡ number best v =
      ap (defined_value (wider d)) behind ∙ wide_value q y (sound.width ∙ sym (frame_full g n chosen v frame long))
      ∙ sym (number_push chosen best d v (b.is ∙ ap (λ (e : Definition). chosen.definitions ++ e ∷ []) (sym own))) in
      full_push cur both (wider d) v definitions ∙ ap (λ z. full cur v ++ z ∷ []) own_value ∙ ap (λ l. l ++ number best v ∷ []) behind
      ∙ append_assoc q (y ∷ []) (number best v ∷ [])
    where
      wide_value : (q : List ℤ) (y : ℤ) → length d.coefs ≡ length q → defined_value (wider d) (q ++ y ∷ []) ≡ defined_value d q
      wide_value q y e =
          ap (λ z. floor_div (z +ℤ d.constant) d.k) (dot-append d.coefs (pos 0 ∷ []) q (y ∷ []) e ∙ by (dot d.coefs q) (pos 0 *ℤ y) refl)
        where
          by : (a p : ℤ) → p ≡ pos 0 *ℤ y → a +ℤ (p +ℤ pos 0) ≡ a
          by a p h = omega (arith, linear, h)

-- ---- the greater one
abbrev pub later_row : ℕ → Row
later_row m = record { kind = kind.AtLeast; coefs = replicate m (pos 0) ++ pos 1 ∷ negsuc 0 ∷ []; constant = negsuc 0; k = pos 1 }

pub later_is : (m : ℕ) (r : Row) (cs : List ℤ) (c : ℤ) → r ≡ record { kind = kind.AtLeast; coefs = cs; constant = c; k = pos 1 }
    → cs ≡ replicate m (pos 0) ++ pos 1 ∷ negsuc 0 ∷ [] → c ≡ negsuc 0 → r ≡ later_row m
later_is m r cs c is e f = is ∙ rw (e, f) refl

bound_not_zero : kind.AtLeast ≢ kind.Zero
bound_not_zero e = cc

pub later_asked : (g : Gauge) (n m : ℕ) (both : System) (rows : List Row) → IsFrame g n both → both.columns ≡ m + 2 → IsWithin g (pos 0)
    → IsWithin g (pos 1) → IsWithin g (negsuc 0) → rows ≡ later_row m ∷ []
    → IsQuestion g n (record { columns = both.columns; definitions = both.definitions; rows = rows })
later_asked g n m both rows frame columns none one minus is = record {
  within = record {
    rows = subst (All (IsWellFormed both.columns)) (sym is) (All-cons (IsWellFormed both.columns) (later_row m) [] (record {
      width =
          let l = length-append (replicate m (pos 0)) (pos 1 ∷ negsuc 0 ∷ []) in
          let k = length-replicate m (pos 0) in
          omega (arith, l, k, columns);
      modulus = refl;
    }) (All-nil (IsWellFormed both.columns)));
    within = subst (All (IsRowWithin g)) (sym is) (All-cons (IsRowWithin g) (later_row m) [] (record {
      coefs = All-append (IsWithin g) (replicate m (pos 0)) (pos 1 ∷ negsuc 0 ∷ []) (All-replicate (IsWithin g) m (pos 0) none)
          (All-cons (IsWithin g) (pos 1) (negsuc 0 ∷ []) one (All-cons (IsWithin g) (negsuc 0) [] minus (All-nil (IsWithin g))));
      constant = minus;
      k = one;
    }) (All-nil (IsRowWithin g)));
    count = frame.within.count;
    definitions = frame.within.definitions;
  };
  free = frame.free;
  row = later_row m;
  rows = is;
  kind = bound_not_zero;
}

later_value : (m : ℕ) (q : List ℤ) (y z : ℤ) → length q ≡ m → value_at (later_row m) (q ++ y ∷ z ∷ []) ≡ y +ℤ negsuc 0 *ℤ z +ℤ negsuc 0
later_value m q y z e =
    by (dot (replicate m (pos 0)) q) (pos 1 *ℤ y) (negsuc 0 *ℤ z) (dot-zeros m q) refl
    (dot-append (replicate m (pos 0)) (pos 1 ∷ negsuc 0 ∷ []) q (y ∷ z ∷ []) (length-replicate m (pos 0) ∙ sym e))
  where
    by : (a p r : ℤ) → a ≡ pos 0 → p ≡ pos 1 *ℤ y → dot (replicate m (pos 0) ++ pos 1 ∷ negsuc 0 ∷ []) (q ++ y ∷ z ∷ []) ≡ a +ℤ (p +ℤ (r +ℤ pos 0))
        → dot (replicate m (pos 0) ++ pos 1 ∷ negsuc 0 ∷ []) (q ++ y ∷ z ∷ []) +ℤ negsuc 0 ≡ y +ℤ r +ℤ negsuc 0
    by a p r h k w = omega (arith, linear, h, k, w)

pub later_points : (m : ℕ) (q all : List ℤ) (y z : ℤ) (rows : List Row) → length q ≡ m → BothBehind q y z all → rows ≡ later_row m ∷ []
    → HoldRows rows all ↔ (z <ℤ y)
later_points m q all y z rows e behind is =
    let one = one_holds (later_row m) all in
    let value = ap (value_at (later_row m)) behind ∙ later_value m q y z e in
    let both = by (value_at (later_row m) all) value in (
      (λ h. both.0 (one.0 (subst (λ (rs : List Row). HoldRows rs all) is h))),
      (λ h. subst (λ (rs : List Row). HoldRows rs all) (sym is) (one.1 (both.1 h))),
    )
  where
    by : (a : ℤ) → a ≡ y +ℤ negsuc 0 *ℤ z +ℤ negsuc 0 → (pos 0 ≤ℤ a) ↔ (z <ℤ y)
    by a h = ((λ x. omega (arith, linear, h, x)), (λ x. omega (arith, linear, h, x)))
