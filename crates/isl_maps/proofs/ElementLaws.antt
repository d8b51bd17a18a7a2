-- Which elements a piece has when its columns are moved or doubled.
use Rattle.std.proofs.Common.{◌≡◌, ◌↔◌, refl, sym, ap, ap₂, ◌∙◌, arith, subst, ℕ, ◌+◌, ℤ, List, ◌++◌, drop, length}
use Rattle.std.proofs.Common.{length-append, take}
use Rattle.std.proofs.lemmas.List.{length-drop, length-take-le, take-append-drop}
use Rattle.isl_space.specs.Element.{Element}
use Rattle.isl_space.specs.Form.{Form, pair, width_of}
use Rattle.isl_space.specs.Name.{Name}
use Rattle.isl_space.specs.SpaceForm.{SpaceForm, set_of, map_of, coordinates_of}
use Rattle.isl_space.specs.Valuation.{Valuation, values_of}
use Rattle.isl_piece.specs.declared.system.System.{System}
use Rattle.isl_piece.specs.System.{HoldsSystem}
use Rattle.isl_relation.specs.Pairs.{DomainMapHas, RangeMapHas, WrapHas, ZipHas}
use Rattle.isl_relation.specs.Point.{Point, HasPoint, Relates, paired}
use Rattle.isl_relation.specs.Sets.{IdentityHas, UnwrapHas}
use Rattle.isl_union.specs.KeptValue.{HasElement}
use Rattle.isl_union.specs.Piece.{piece_of}

element_is : (e : Element) (s : SpaceForm) (xs : List ℤ) → s ≡ e.space → xs ≡ e.coordinates → e ≡ record { space = s; coordinates = xs }
element_is e s xs f g = rw (f, g) refl

-- numbers as two runs of so many
record Runs (xs : List ℤ) (m n : ℕ) : Type 0 where
  first : List ℤ
  second : List ℤ
  first_long : length first ≡ m
  second_long : length second ≡ n
  whole : first ++ second ≡ xs

runs : (xs : List ℤ) (m n : ℕ) → length xs ≡ m + n → Runs xs m n
runs xs m n e = record {
  first = take m xs;
  second = drop m xs;
  first_long = length-take-le m xs (omega arith);
  second_long = length-drop m xs ∙ omega arith;
  whole = take-append-drop m xs;
}

module _ (params : List Name) (v : Valuation) where
  abbrev vs : List ℤ
  vs = values_of params v

  abbrev HasIn : SpaceForm → System → Element → Type 0
  HasIn space s e = HasElement params v e (piece_of space s)

  long : (space : SpaceForm) (s : System) (e : Element) → HasIn space s e → length e.coordinates ≡ coordinates_of space
  long space s e h = h.numbers ∙ ap coordinates_of (sym h.space)

  -- ---- the columns stay
  module _ (own : System) where
    pub wrap_has : (x y : Form) (e : Element) → HasIn (set_of (pair x y)) own e ↔ WrapHas (HasIn (map_of x y) own) e
    wrap_has x y e = (
      (λ h.
          let cs = runs e.coordinates (width_of x) (width_of y) (long (set_of (pair x y)) own e h) in
          let p : Point = record { form = x; numbers = cs.first } in
          let q : Point = record { form = y; numbers = cs.second } in
          let r : Relates (HasIn (map_of x y) own) p q = record {
            from = cs.first_long;
            to = cs.second_long;
            has = record {
              numbers = ap (length {A = ℤ}) cs.whole ∙ long (set_of (pair x y)) own e h;
              space = refl;
              holds = subst (λ zs. HoldsSystem own (vs ++ zs)) (sym cs.whole) h.holds;
            };
          } in
          (p, q, r, element_is e (set_of (pair x y)) (cs.first ++ cs.second) h.space cs.whole)),
      (λ h.
          let r = h.2 in
          let same : map_of x y ≡ map_of h.0.form h.1.form = r.has.space in
          subst (HasIn (set_of (pair x y)) own) (sym h.3) (record { numbers = r.has.numbers; space = cc; holds = r.has.holds })),
    )

    pub unwrap_has : (x y : Form) (e : Element) → HasIn (map_of x y) own e ↔ UnwrapHas (HasIn (set_of (pair x y)) own) e
    unwrap_has x y e = (
      (λ h.
          let cs = runs e.coordinates (width_of x) (width_of y) (long (map_of x y) own e h) in
          let p : Point = record { form = x; numbers = cs.first } in
          let q : Point = record { form = y; numbers = cs.second } in
          let wide : length (cs.first ++ cs.second) ≡ width_of x + width_of y = ap (length {A = ℤ}) cs.whole ∙ long (map_of x y) own e h in
          let r : HasPoint (HasIn (set_of (pair x y)) own) (paired p q) = record {
            point = wide;
            has = record {
              numbers = wide;
              space = refl;
              holds = subst (λ zs. HoldsSystem own (vs ++ zs)) (sym cs.whole) h.holds;
            };
          } in
          (p, q, cs.first_long, cs.second_long, r, element_is e (map_of x y) (cs.first ++ cs.second) h.space cs.whole)),
      (λ h.
          let r = h.4 in
          let same : set_of (pair x y) ≡ set_of (pair h.0.form h.1.form) = r.has.space in
          subst (HasIn (map_of x y) own) (sym h.5) (record { numbers = r.has.numbers; space = cc; holds = r.has.holds })),
    )

  -- ---- the middle columns are exchanged
  module _ (own new : System) (x y u w : Form)
      (points : (a b c d : List ℤ) → length a ≡ width_of x → length b ≡ width_of y → length c ≡ width_of u → length d ≡ width_of w
      → HoldsSystem new (vs ++ ((a ++ c) ++ (b ++ d))) ↔ HoldsSystem own (vs ++ ((a ++ b) ++ (c ++ d)))) where
    abbrev source : SpaceForm
    source = map_of (pair x y) (pair u w)

    abbrev zipped : SpaceForm
    zipped = map_of (pair x u) (pair y w)

    pub zip_has : (e : Element) → HasIn zipped new e ↔ ZipHas (HasIn source own) e
    zip_has e = (
      (λ h.
          let all = runs e.coordinates (width_of x + width_of u) (width_of y + width_of w) (long zipped new e h) in
          let front = runs all.first (width_of x) (width_of u) all.first_long in
          let back = runs all.second (width_of y) (width_of w) all.second_long in
          let a : Point = record { form = x; numbers = front.first } in
          let b : Point = record { form = y; numbers = back.first } in
          let c : Point = record { form = u; numbers = front.second } in
          let d : Point = record { form = w; numbers = back.second } in
          let la = front.first_long in
          let lb = back.first_long in
          let lc = front.second_long in
          let ld = back.second_long in
          let whole : (a.numbers ++ c.numbers) ++ (b.numbers ++ d.numbers) ≡ e.coordinates =
          ap₂ (λ i j. i ++ j) front.whole back.whole ∙ all.whole in
          let from : length (a.numbers ++ b.numbers) ≡ width_of x + width_of y = length-append a.numbers b.numbers ∙
          ap₂ (λ i j. i + j) la lb in
          let to : length (c.numbers ++ d.numbers) ≡ width_of u + width_of w = length-append c.numbers d.numbers ∙
          ap₂ (λ i j. i + j) lc ld in
          let r : Relates (HasIn source own) (paired a b) (paired c d) = record {
            from = from;
            to = to;
            has = record {
              numbers = length-append (a.numbers ++ b.numbers) (c.numbers ++ d.numbers) ∙ ap₂ (λ i j. i + j) from to;
              space = refl;
              holds = (points a.numbers b.numbers c.numbers d.numbers la lb lc ld).0
                  (subst (λ zs. HoldsSystem new (vs ++ zs)) (sym whole) h.holds);
            };
          } in (
            a,
            b,
            c,
            d,
            la,
            lb,
            lc,
            ld,
            r,
            element_is e zipped ((a.numbers ++ c.numbers) ++ (b.numbers ++ d.numbers)) h.space whole,
          )),
      (λ h.
          let a = h.0 in
          let b = h.1 in
          let c = h.2 in
          let d = h.3 in
          let r = h.8 in
          let same : source ≡ map_of (pair a.form b.form) (pair c.form d.form) = r.has.space in
          let fa : x ≡ a.form = cc in
          let fb : y ≡ b.form = cc in
          let fc : u ≡ c.form = cc in
          let fd : w ≡ d.form = cc in
          let front : length (a.numbers ++ c.numbers) ≡ width_of a.form + width_of c.form = length-append a.numbers c.numbers ∙
          ap₂ (λ i j. i + j) h.4 h.6 in
          let back : length (b.numbers ++ d.numbers) ≡ width_of b.form + width_of d.form = length-append b.numbers d.numbers ∙
          ap₂ (λ i j. i + j) h.5 h.7 in
          subst (HasIn zipped new) (sym h.9) (record {
            numbers = length-append (a.numbers ++ c.numbers) (b.numbers ++ d.numbers) ∙ ap₂ (λ i j. i + j) front back;
            space = cc;
            holds = (points a.numbers b.numbers c.numbers d.numbers (h.4 ∙ ap width_of (sym fa)) (h.5 ∙ ap width_of (sym fb))
                (h.6 ∙ ap width_of (sym fc)) (h.7 ∙ ap width_of (sym fd))).1 r.has.holds;
          })),
    )

  -- ---- columns are there once more
  module _ (own new : System) (x : Form)
      (points : (a c : List ℤ) → length a ≡ width_of x → length c ≡ width_of x
      → HoldsSystem new (vs ++ (a ++ c)) ↔ (HoldsSystem own (vs ++ a) × (c ≡ a))) where
    pub identity_has : (e : Element) → HasIn (map_of x x) new e ↔ IdentityHas (HasIn (set_of x) own) e
    identity_has e = (
      (λ h.
          let cs = runs e.coordinates (width_of x) (width_of x) (long (map_of x x) new e h) in
          let a : Point = record { form = x; numbers = cs.first } in
          let both = (points cs.first cs.second cs.first_long cs.second_long).0
          (subst (λ zs. HoldsSystem new (vs ++ zs)) (sym cs.whole) h.holds) in
          let r : HasPoint (HasIn (set_of x) own) a = record {
            point = cs.first_long;
            has = record { numbers = cs.first_long; space = refl; holds = both.0 };
          } in
          (a, r, element_is e (map_of x x) (cs.first ++ cs.first) h.space (ap (λ zs. cs.first ++ zs) (sym both.1) ∙ cs.whole))),
      (λ h.
          let a = h.0 in
          let r = h.1 in
          let same : set_of x ≡ set_of a.form = r.has.space in
          let is : x ≡ a.form = cc in
          let wide : length a.numbers ≡ width_of x = r.point ∙ ap width_of (sym is) in
          subst (HasIn (map_of x x) new) (sym h.2) (record {
            numbers = length-append a.numbers a.numbers ∙ ap₂ (λ i j. i + j) r.point r.point;
            space = cc;
            holds = (points a.numbers a.numbers wide wide).1 (r.has.holds, refl);
          })),
    )

  module _ (own new : System) (x y : Form) where
    abbrev DomainPoints : Type 0
    DomainPoints = (a b c : List ℤ) → length a ≡ width_of x → length b ≡ width_of y → length c ≡ width_of x
        → HoldsSystem new (vs ++ ((a ++ b) ++ c)) ↔ (HoldsSystem own (vs ++ (a ++ b)) × (c ≡ a))

    abbrev RangePoints : Type 0
    RangePoints = (a b c : List ℤ) → length a ≡ width_of x → length b ≡ width_of y → length c ≡ width_of y
        → HoldsSystem new (vs ++ ((a ++ b) ++ c)) ↔ (HoldsSystem own (vs ++ (a ++ b)) × (c ≡ b))

    pub domain_map_has : DomainPoints → (e : Element) → HasIn (map_of (pair x y) x) new e ↔ DomainMapHas (HasIn (map_of x y) own) e
    domain_map_has points e = (
      (λ h.
          let all = runs e.coordinates (width_of x + width_of y) (width_of x) (long (map_of (pair x y) x) new e h) in
          let cs = runs all.first (width_of x) (width_of y) all.first_long in
          let a : Point = record { form = x; numbers = cs.first } in
          let b : Point = record { form = y; numbers = cs.second } in
          let whole : (a.numbers ++ b.numbers) ++ all.second ≡ e.coordinates = ap (λ zs. zs ++ all.second) cs.whole ∙ all.whole in
          let both = (points a.numbers b.numbers all.second cs.first_long cs.second_long all.second_long).0
          (subst (λ zs. HoldsSystem new (vs ++ zs)) (sym whole) h.holds) in
          let r : Relates (HasIn (map_of x y) own) a b = record {
            from = cs.first_long;
            to = cs.second_long;
            has = record { numbers = ap (length {A = ℤ}) cs.whole ∙ all.first_long; space = refl; holds = both.0 };
          } in (
            a,
            b,
            r,
            element_is e (map_of (pair x y) x) ((a.numbers ++ b.numbers) ++ a.numbers) h.space
                (ap (λ zs. (a.numbers ++ b.numbers) ++ zs) (sym both.1) ∙ whole),
          )),
      (λ h.
          let a = h.0 in
          let b = h.1 in
          let r = h.2 in
          let same : map_of x y ≡ map_of a.form b.form = r.has.space in
          let fa : x ≡ a.form = cc in
          let fb : y ≡ b.form = cc in
          let la : length a.numbers ≡ width_of x = r.from ∙ ap width_of (sym fa) in
          let lb : length b.numbers ≡ width_of y = r.to ∙ ap width_of (sym fb) in
          subst (HasIn (map_of (pair x y) x) new) (sym h.3) (record {
            numbers = length-append (a.numbers ++ b.numbers) a.numbers ∙ ap₂ (λ i j. i + j) r.has.numbers r.from;
            space = cc;
            holds = (points a.numbers b.numbers a.numbers la lb la).1 (r.has.holds, refl);
          })),
    )

    pub range_map_has : RangePoints → (e : Element) → HasIn (map_of (pair x y) y) new e ↔ RangeMapHas (HasIn (map_of x y) own) e
    range_map_has points e = (
      (λ h.
          let all = runs e.coordinates (width_of x + width_of y) (width_of y) (long (map_of (pair x y) y) new e h) in
          let cs = runs all.first (width_of x) (width_of y) all.first_long in
          let a : Point = record { form = x; numbers = cs.first } in
          let b : Point = record { form = y; numbers = cs.second } in
          let whole : (a.numbers ++ b.numbers) ++ all.second ≡ e.coordinates = ap (λ zs. zs ++ all.second) cs.whole ∙ all.whole in
          let both = (points a.numbers b.numbers all.second cs.first_long cs.second_long all.second_long).0
          (subst (λ zs. HoldsSystem new (vs ++ zs)) (sym whole) h.holds) in
          let r : Relates (HasIn (map_of x y) own) a b = record {
            from = cs.first_long;
            to = cs.second_long;
            has = record { numbers = ap (length {A = ℤ}) cs.whole ∙ all.first_long; space = refl; holds = both.0 };
          } in (
            a,
            b,
            r,
            element_is e (map_of (pair x y) y) ((a.numbers ++ b.numbers) ++ b.numbers) h.space
                (ap (λ zs. (a.numbers ++ b.numbers) ++ zs) (sym both.1) ∙ whole),
          )),
      (λ h.
          let a = h.0 in
          let b = h.1 in
          let r = h.2 in
          let same : map_of x y ≡ map_of a.form b.form = r.has.space in
          let fa : x ≡ a.form = cc in
          let fb : y ≡ b.form = cc in
          let la : length a.numbers ≡ width_of x = r.from ∙ ap width_of (sym fa) in
          let lb : length b.numbers ≡ width_of y = r.to ∙ ap width_of (sym fb) in
          subst (HasIn (map_of (pair x y) y) new) (sym h.3) (record {
            numbers = length-append (a.numbers ++ b.numbers) b.numbers ∙ ap₂ (λ i j. i + j) r.has.numbers r.to;
            space = cc;
            holds = (points a.numbers b.numbers b.numbers la lb lb).1 (r.has.holds, refl);
          })),
    )
