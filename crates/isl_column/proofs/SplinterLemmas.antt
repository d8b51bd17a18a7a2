-- Splinters: one value of a tail's bound after another, from the last.
use Rattle.std.proofs.Common.{◌≡◌, ◌↔◌, ◌⊎◌, inl, inr, Option, Some, None, ◌∙◌, refl, sym, ap, arith, ℕ, ◌+◌, ◌-◌, ◌<◌, ◌≢◌, ◌^◌, ◌≤◌, lit≤, ℤ, pos, ◌+ℤ◌, ◌-ℤ◌, ◌≤ℤ◌, ◌<ℤ◌, List, [], ◌∷◌, ◌++◌, length, get_or, unsigned_abs}
use Rattle.std.specs.Prelude.{IfSome, MatchOption}
use Rattle.std.proofs.lemmas.List.{length-append}
use Rattle.std.specs.List.{All, Any}
use Rattle.std.proofs.lemmas.List.Elements.{All-push}
use Rattle.isl_math.proofs.Ring.{linear}
use Rattle.isl_math.proofs.ListLaws.{All-last, Any-none, Any-parts, Any-left, Any-right, Any-one, Any-first}
use Rattle.isl_meter.specs.Gauge.{Gauge, IsWithin, IsCharged, IsChargedUpTo, IsCutUpTo}
use Rattle.isl_meter.specs.declared.Cut.{Cut}
use Rattle.isl_meter.proofs.CutLemmas.{IsCharged_refl, IsCharged_trans, IsCutBy-after}
use Rattle.isl_meter.proofs.LimitLemmas.{within_kept}
use Rattle.isl_piece.specs.declared.row.Row.{Row}
use Rattle.isl_piece.specs.Normal.{IsNormal}
use Rattle.isl_shadows.specs.Splinters.{HoldsDark, HasValue, HasSplinter, KeepBound, AreSplinters, without_last, splinter_count}
use Rattle.isl_column.specs.DarkShadow.{IsDarkShadow, HoldsDarkShadow, IsSplit, IsTakenOut, IsNoDarkShadow, IsSmallDarkShadow}
use Rattle.isl_shadows.specs.Magnitude.{AreSmallSplinters}
use Rattle.isl_omega.specs.Column.{IsAnswerFor, IsProper}
use Rattle.isl_column.specs.declared.dark_shadow.DarkShadow.{DarkShadow}
use Rattle.isl_omega.specs.declared.shadow.Splinters.{Splinters}
use Rattle.isl_shadows.proofs.SplinterLemmas.{rows_proper_kept, tail_at, no_splinter, last_or_before, total-push, total_not_negative, no_end, same_bits}

-- ---- what is said does not depend on what the meter counted
pub shadow_kept : (g h : Gauge) (columns col : ℕ) (dark_shadow : DarkShadow) → h.bits ≡ g.bits → IsDarkShadow h columns col dark_shadow → IsDarkShadow g columns col dark_shadow
shadow_kept g h columns col dark_shadow e s = record {
  rows = rows_proper_kept g h columns dark_shadow.rows e s.rows;
  dark = dark_kept dark_shadow.dark s.dark;
  tails = λ k d i. tail_at g h columns col (get_or dark_shadow.tails.items k d) e (s.tails k d i);
  bounds = s.bounds;
}
  where
    dark_kept : (dark : Option (List Row)) → IfSome dark (λ rows. All (IsProper h (columns - 1)) rows × IsNormal rows) → IfSome dark (λ rows. All (IsProper g (columns - 1)) rows × IsNormal rows)
    dark_kept None p = p
    dark_kept (Some rows) p = (rows_proper_kept g h (columns - 1) rows e p.0, p.1)

-- ---- one value after another
-- a dark shadow without its dark rows and its last tail
pub record IsPopped (old : DarkShadow) (t : Splinters) (new : DarkShadow) : Type 0 where
  pub rows : new.rows ≡ old.rows
  pub dark : new.dark ≡ None
  pub tails : old.tails.items ≡ new.tails.items ++ t ∷ []

pub popped_tail : (g : Gauge) (columns col : ℕ) (old : DarkShadow) (t : Splinters) (new : DarkShadow) → IsDarkShadow g columns col old → IsPopped old t new → AreSplinters g columns col t × KeepBound columns col old.rows t.lower
popped_tail g columns col old t new s p = (
  (All-last (AreSplinters g columns col) new.tails.items t (rw p.tails at s.tails)).1,
  (All-last (λ (u : Splinters). KeepBound columns col old.rows u.lower) new.tails.items t (rw p.tails at s.bounds)).1,
)

pub popped_shadow : (g : Gauge) (columns col : ℕ) (old : DarkShadow) (t : Splinters) (new : DarkShadow) → IsDarkShadow g columns col old → IsPopped old t new → IsDarkShadow g columns col new
popped_shadow g columns col old t new s p = record {
  rows = rw p.rows s.rows;
  dark = rw p.dark tt;
  tails = (All-last (AreSplinters g columns col) new.tails.items t (rw p.tails at s.tails)).0;
  bounds = rw p.rows (All-last (λ (u : Splinters). KeepBound columns col old.rows u.lower) new.tails.items t (rw p.tails at s.bounds)).0;
}

popped_points : (columns col : ℕ) (old : DarkShadow) (t : Splinters) (new : DarkShadow) (point : List ℤ) → old.dark ≡ None → IsPopped old t new → HoldsDarkShadow old col point ↔ (HasSplinter old.rows col point t ⊎ HoldsDarkShadow new col point)
popped_points columns col old t new point n p = rw (p.tails, p.rows, p.dark, n) (
  (λ h. elim h [ inl x ↦ absurd x | inr a ↦ elim (Any-parts P new.tails.items (t ∷ []) a) [ inl y ↦ inr (inr y) | inr z ↦ inl (Any-one P t z) ] ]),
  (λ h. elim h [ inl x ↦ inr (Any-right P new.tails.items (t ∷ []) (Any-first P t [] x)) | inr y ↦ elim y [ inl z ↦ absurd z | inr a ↦ inr (Any-left P new.tails.items (t ∷ []) a) ] ]),
)
  where
    P : Splinters → Type 0
    P = HasSplinter old.rows col point

pub popped_small : (old : DarkShadow) (t : Splinters) (new : DarkShadow) → IsPopped old t new → IsSmallDarkShadow old → IsSmallDarkShadow new × AreSmallSplinters t
popped_small old t new p s =
    let all = All-last AreSmallSplinters new.tails.items t (rw p.tails at s.tails) in
    (record { rows = rw p.rows s.rows; tails = all.0 }, all.1)

-- ---- a tail that was put back
split_shadow : (g : Gauge) (columns col : ℕ) (old : DarkShadow) (t : Splinters) (new : DarkShadow) → IsDarkShadow g columns col old → AreSplinters g columns col t → KeepBound columns col old.rows t.lower → pos 0 ≤ℤ t.last → IsWithin g (t.last -ℤ pos 1) → IsSplit old t new → IsDarkShadow g columns col new
split_shadow g columns col old t new s a b n w p = record {
  rows = rw p.rows s.rows;
  dark = rw p.dark s.dark;
  tails = rw p.tails (All-push (AreSplinters g columns col) old.tails.items (without_last t) s.tails (record { lower = a.lower; within = w; not_below = omega (arith, linear) }));
  bounds = rw (p.rows, p.tails) (All-push (λ (u : Splinters). KeepBound columns col old.rows u.lower) old.tails.items (without_last t) s.bounds b);
}

split_points : (columns col : ℕ) (old : DarkShadow) (t : Splinters) (new : DarkShadow) (point : List ℤ) → IsSplit old t new → HoldsDarkShadow new col point ↔ (HasSplinter old.rows col point (without_last t) ⊎ HoldsDarkShadow old col point)
split_points columns col old t new point p = rw (p.tails, p.rows, p.dark) (
  (λ h. elim h [ inl x ↦ inr (inl x) | inr a ↦ elim (Any-parts P old.tails.items (without_last t ∷ []) a) [ inl y ↦ inr (inr y) | inr z ↦ inl (Any-one P (without_last t) z) ] ]),
  (λ h. elim h [ inl x ↦ inr (Any-right P old.tails.items (without_last t ∷ []) (Any-first P (without_last t) [] x)) | inr y ↦ elim y [ inl z ↦ inl z | inr a ↦ inr (Any-left P old.tails.items (without_last t ∷ []) a) ] ]),
)
  where
    P : Splinters → Type 0
    P = HasSplinter old.rows col point

split_small : (old : DarkShadow) (t : Splinters) (new : DarkShadow) → pos 0 ≤ℤ t.last → IsSplit old t new → IsSmallDarkShadow old → AreSmallSplinters t → IsSmallDarkShadow new
split_small old t new n p s a = record {
  rows = rw p.rows s.rows;
  tails = rw p.tails (All-push AreSmallSplinters old.tails.items (without_last t) s.tails (record { lower = a.lower; last = less t.last (2 ^ 62) n (lit≤ tt) a.last }));
}
  where
    less : (l : ℤ) (b : ℕ) → pos 0 ≤ℤ l → 1 ≤ b → unsigned_abs l ≤ b → unsigned_abs (l -ℤ pos 1) ≤ b
    less l b h k m = omega (arith, linear)

-- ---- one list after another
-- a dark shadow in which some lists were built, after units that with those to come are no more than before
pub record IsShadowKept (g h : Gauge) (columns col : ℕ) (first now : DarkShadow) : Type 0 where
  pub charged : IsCharged g h
  pub are : IsDarkShadow g columns col now
  pub dark : now.dark ≡ None
  pub units : (pos h.units +ℤ splinter_count now.tails.items) ≤ℤ (pos g.units +ℤ splinter_count first.tails.items)
  pub small : IsSmallDarkShadow first → IsSmallDarkShadow now
  pub alone : first.tails.items ≡ [] → now.tails.items ≡ []
  pub unused : first.tails.items ≡ [] → h ≡ g

-- and it holds where it did
pub record IsShadowSoFar (g h : Gauge) (columns col : ℕ) (first now : DarkShadow) : Type 0 where
  pub kept : IsShadowKept g h columns col first now
  pub points : (point : List ℤ) → length point ≡ columns - 1 → HoldsDarkShadow first col point ↔ HoldsDarkShadow now col point

pub so_far_first : (g : Gauge) (columns col : ℕ) (first : DarkShadow) → IsDarkShadow g columns col first → first.dark ≡ None → IsShadowSoFar g g columns col first first
so_far_first g columns col first s e = record {
  kept = record {
    charged = IsCharged_refl g g refl;
    are = s;
    dark = e;
    units = omega (arith, linear);
    small = λ x. x;
    alone = λ x. x;
    unused = λ x. refl;
  };
  points = λ point n. ((λ h. h), (λ h. h));
}

pub so_far_skipped : (g h : Gauge) (columns col : ℕ) (first now : DarkShadow) (t : Splinters) (next : DarkShadow) → IsShadowSoFar g h columns col first now → IsPopped now t next → t.last <ℤ pos 0 → IsShadowSoFar g h columns col first next
so_far_skipped g h columns col first now t next s p l =
    let tail = popped_tail g columns col now t next s.kept.are p in
    let sum = ap splinter_count p.tails ∙ total-push next.tails.items t in
    let low = tail.0.not_below in
    let units = s.kept.units in record {
      kept = record {
        charged = s.kept.charged;
        are = popped_shadow g columns col now t next s.kept.are p;
        dark = p.dark;
        units = omega (arith, linear);
        small = λ x. (popped_small now t next p (s.kept.small x)).0;
        alone = λ x. absurd (no_end next.tails.items t (sym (s.kept.alone x) ∙ p.tails));
        unused = s.kept.unused;
      };
      points = λ point n.
          let same = s.points point n in
          let both = popped_points columns col now t next point s.kept.dark p in (
            (λ x. elim (both.0 (same.0 x)) [ inl y ↦ absurd (no_splinter columns col now.rows t point n tail.1 l y) | inr z ↦ z ]),
            (λ x. same.1 (both.1 (inr x))),
          );
    }

-- the splinter at the last value of a tail was built
pub record IsBuilt (g h k : Gauge) (columns col : ℕ) (first now : DarkShadow) (t : Splinters) (rest next : DarkShadow) (answer : Option (List Row)) : Type 0 where
  pub so_far : IsShadowSoFar g h columns col first now
  pub popped : IsPopped now t rest
  pub some : pos 0 ≤ℤ t.last
  pub split : IsSplit rest t next
  pub within : IsWithin h (t.last -ℤ pos 1)
  pub left : IsAnswerFor h (columns - 1) (HasValue rest.rows col t.lower t.last) answer
  pub charged : IsChargedUpTo (pos 1) h k

pub built_kept : (g h k : Gauge) (columns col : ℕ) (first now : DarkShadow) (t : Splinters) (popped next : DarkShadow) (left : Option (List Row)) → IsBuilt g h k columns col first now t popped next left → IsShadowKept g k columns col first next
built_kept g h k columns col first now t popped next left b =
    let s = b.so_far.kept in
    let tail = popped_tail g columns col now t popped s.are b.popped in
    let sum = ap splinter_count b.popped.tails ∙ total-push popped.tails.items t in
    let sum' = ap splinter_count b.split.tails ∙ total-push popped.tails.items (without_last t) in
    let units = s.units in
    let one = b.charged.most in record {
      charged = IsCharged_trans g h k s.charged b.charged.charged;
      are = split_shadow g columns col popped t next (popped_shadow g columns col now t popped s.are b.popped) tail.0 (rw b.popped.rows tail.1) b.some (within_kept g h (t.last -ℤ pos 1) (same_bits g h s.charged) b.within) b.split;
      dark = b.split.dark ∙ b.popped.dark;
      units = omega (arith, linear);
      small = λ x. let p = popped_small now t popped b.popped (s.small x) in split_small popped t next b.some b.split p.0 p.1;
      alone = λ x. absurd (no_end popped.tails.items t (sym (s.alone x) ∙ b.popped.tails));
      unused = λ x. absurd (no_end popped.tails.items t (sym (s.alone x) ∙ b.popped.tails));
    }

built_points : (g h k : Gauge) (columns col : ℕ) (first now : DarkShadow) (t : Splinters) (popped next : DarkShadow) (left : Option (List Row)) → IsBuilt g h k columns col first now t popped next left → (point : List ℤ) → length point ≡ columns - 1
    → HoldsDarkShadow first col point ↔ (HasValue popped.rows col t.lower t.last point ⊎ HoldsDarkShadow next col point)
built_points g h k columns col first now t popped next left b point n =
    let same = b.so_far.points point n in
    let taken = popped_points columns col now t popped point b.so_far.kept.dark b.popped in
    let values = last_or_before col popped.rows t point in
    let put = split_points columns col popped t next point b.split in (
      (λ x. elim (taken.0 (same.0 x)) [
        | inl y ↦ elim (values.0 (rw b.popped.rows y)) [ inl v ↦ inl v | inr w ↦ inr (put.1 (inl w)) ]
        | inr z ↦ inr (put.1 (inr z))
      ]),
      (λ x. same.1 (taken.1 (elim x [
        | inl v ↦ inl (rw b.popped.rows at (values.1 (inl v)))
        | inr y ↦ elim (put.0 y) [ inl w ↦ inl (rw b.popped.rows at (values.1 (inr w))) | inr z ↦ inr z ]
      ]))),
    )

pub built_none : (g h k : Gauge) (columns col : ℕ) (first now : DarkShadow) (t : Splinters) (popped next : DarkShadow) → IsBuilt g h k columns col first now t popped next None → IsShadowSoFar g k columns col first next
built_none g h k columns col first now t popped next b = record {
  kept = built_kept g h k columns col first now t popped next None b;
  points = λ point n. let both = built_points g h k columns col first now t popped next None b point n in (
    (λ x. elim (both.0 x) [ inl y ↦ absurd (b.left point n y) | inr z ↦ z ]),
    (λ x. both.1 (inr x)),
  );
}

pub built_some : (g h k : Gauge) (columns col : ℕ) (first now : DarkShadow) (t : Splinters) (popped next : DarkShadow) (rows : List Row) → IsBuilt g h k columns col first now t popped next (Some rows) → IsTakenOut g columns col first rows next × IsShadowKept g k columns col first next
built_some g h k columns col first now t popped next rows b =
    let kept = built_kept g h k columns col first now t popped next (Some rows) b in
    let bits = same_bits g h b.so_far.kept.charged in (
      record {
        proper = rows_proper_kept g h (columns - 1) rows bits b.left.proper;
        normal = b.left.normal;
        points = λ point n.
            let both = built_points g h k columns col first now t popped next (Some rows) b point n in
            let same = b.left.points point n in (
              (λ x. elim (both.0 x) [ inl y ↦ inl (same.1 y) | inr z ↦ inr z ]),
              (λ x. both.1 (elim x [ inl y ↦ inl (same.0 y) | inr z ↦ inr z ])),
            );
        rest = kept.are;
        dark = kept.dark;
      },
      kept,
    )

pub so_far_none : (g h : Gauge) (columns col : ℕ) (first now : DarkShadow) → IsShadowSoFar g h columns col first now → now.tails.items ≡ [] → IsNoDarkShadow columns col first
so_far_none g h columns col first now s e point n x = by now.dark now.tails.items s.kept.dark e ((s.points point n).0 x)
  where
    by : (dark : Option (List Row)) (tails : List Splinters) → dark ≡ None → tails ≡ [] → HoldsDark dark point ⊎ Any (HasSplinter now.rows col point) tails → ⊥
    by dark tails d t h = elim (rw (d, t) at h) [ inl y ↦ y | inr a ↦ Any-none (HasSplinter now.rows col point) a ]

-- the dark rows were taken out
pub taken_dark : (g : Gauge) (columns col : ℕ) (old new : DarkShadow) (rows : List Row) → IsDarkShadow g columns col old → old.dark ≡ Some rows → new.dark ≡ None → new.rows ≡ old.rows → new.tails.items ≡ old.tails.items → IsTakenOut g columns col old rows new
taken_dark g columns col old new rows s e n r t =
    let own : IfSome (Some rows) (λ rows. All (IsProper g (columns - 1)) rows × IsNormal rows) = rw e at s.dark in record {
      proper = own.0;
      normal = own.1;
      points = λ point l. rw (e, n, r, t) (
        (λ h. elim h [ inl x ↦ inl x | inr a ↦ inr (inr a) ]),
        (λ h. elim h [ inl x ↦ inl x | inr y ↦ elim y [ inl z ↦ absurd z | inr a ↦ inr a ] ]),
      );
      rest = record { rows = rw r s.rows; dark = rw n tt; tails = rw t s.tails; bounds = rw (r, t) s.bounds };
      dark = n;
    }

-- ---- what a built splinter says
pub built_found : (g h k : Gauge) (columns col : ℕ) (first now : DarkShadow) (t : Splinters) (rest next : DarkShadow) (answer : Option (List Row)) → IsBuilt g h k columns col first now t rest next answer → answer ≢ None
    → MatchOption answer (IsNoDarkShadow columns col first) (λ rows. IsTakenOut g columns col first rows next)
built_found g h k columns col first now t rest next None b n = absurd (n refl)
built_found g h k columns col first now t rest next (Some rows) b n = (built_some g h k columns col first now t rest next rows b).0

pub built_charged : (g h k : Gauge) (columns col : ℕ) (first now : DarkShadow) (t : Splinters) (rest next : DarkShadow) (answer : Option (List Row)) → IsBuilt g h k columns col first now t rest next answer → IsChargedUpTo (splinter_count first.tails.items) g k
built_charged g h k columns col first now t rest next answer b =
    let kept = built_kept g h k columns col first now t rest next answer b in
    let low = total_not_negative g columns col next.tails.items kept.are.tails in
    let units = kept.units in
    record { charged = kept.charged; most = omega (arith, linear) }

pub built_cut : (g h k : Gauge) (columns col : ℕ) (first now : DarkShadow) (t : Splinters) (rest : DarkShadow) (cut : Cut) → IsShadowSoFar g h columns col first now → IsPopped now t rest → pos 0 ≤ℤ t.last → IsCutUpTo (pos 1) h k cut → IsCutUpTo (splinter_count first.tails.items) g k cut
built_cut g h k columns col first now t rest cut s p some c =
    let low = total_not_negative g columns col rest.tails.items (popped_shadow g columns col now t rest s.kept.are p).tails in
    let sum = ap splinter_count p.tails ∙ total-push rest.tails.items t in
    let units = s.kept.units in
    let most = c.most in
    record { by = IsCutBy-after g h k cut s.kept.charged c.by; most = omega (arith, linear) }

pub built_fewer : (g h k : Gauge) (columns col : ℕ) (first now : DarkShadow) (t : Splinters) (rest next : DarkShadow) (answer : Option (List Row)) → IsBuilt g h k columns col first now t rest next answer
    → unsigned_abs (splinter_count next.tails.items) + length next.tails.items < unsigned_abs (splinter_count now.tails.items) + length now.tails.items
built_fewer g h k columns col first now t rest next answer b =
    let s = b.so_far.kept in
    let low = total_not_negative g columns col rest.tails.items (popped_shadow g columns col now t rest s.are b.popped).tails in
    let sum = ap splinter_count b.popped.tails ∙ total-push rest.tails.items t in
    let sum' = ap splinter_count b.split.tails ∙ total-push rest.tails.items (without_last t) in
    let size = ap (λ (xs : List Splinters). length xs) b.popped.tails ∙ length-append rest.tails.items (t ∷ []) in
    let size' = ap (λ (xs : List Splinters). length xs) b.split.tails ∙ length-append rest.tails.items (without_last t ∷ []) in
    let some = b.some in
    omega (arith, linear)

pub popped_fewer : (g h : Gauge) (columns col : ℕ) (first now : DarkShadow) (t : Splinters) (rest : DarkShadow) → IsShadowSoFar g h columns col first now → IsPopped now t rest → t.last <ℤ pos 0
    → unsigned_abs (splinter_count rest.tails.items) + length rest.tails.items < unsigned_abs (splinter_count now.tails.items) + length now.tails.items
popped_fewer g h columns col first now t rest s p l =
    let tail = (popped_tail g columns col now t rest s.kept.are p).0.not_below in
    let sum = ap splinter_count p.tails ∙ total-push rest.tails.items t in
    let size = ap (λ (xs : List Splinters). length xs) p.tails ∙ length-append rest.tails.items (t ∷ []) in
    let none : t.last +ℤ pos 1 ≡ pos 0 = omega (arith, linear) in
    let same : splinter_count now.tails.items ≡ splinter_count rest.tails.items = omega (arith, linear) in
    let abs = ap (λ (z : ℤ). unsigned_abs z) same in
    omega (arith, abs, size)
