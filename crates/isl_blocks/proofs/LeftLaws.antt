-- What is left of systems without their last columns.
use Rattle.std.proofs.Common.{◌≡◌, ◌↔◌, inl, inr, sym, ap, ap₂, ◌∙◌, subst, arith, ℕ, ◌+◌, ◌<◌, ℤ, List, [], ◌∷◌, ◌++◌, All, get_or}
use Rattle.std.proofs.Common.{length, length-append, map}
use Rattle.std.proofs.Common.{take, drop, take-append-drop}
use Rattle.std.specs.List.{range_with_len}
use Rattle.std.proofs.lemmas.List.{length-drop, length-take-le, take_more}
use Rattle.std.proofs.lemmas.List.Elements.{All-nil, All-push}
use Rattle.std.proofs.lemmas.List.FromFn.{length-range_with_len}
use Rattle.isl_math.proofs.ListLaws.{All-last, Any-left, Any-one, Any-parts, Any-right, Any-first}
use Rattle.isl_meter.specs.Gauge.{Gauge, IsCharged}
use Rattle.isl_piece.specs.declared.definition.Definition.{Definition}
use Rattle.isl_piece.specs.declared.system.System.{System}
use Rattle.isl_piece.specs.System.{HoldsSystem, free_columns}
use Rattle.isl_elim.specs.Dependents.{kept_definitions, narrowed, with_dependents}
use Rattle.isl_elim.specs.Elimination.{HoldsAlong, HoldsAtAny, IsProjectionAlong, without, without_from}
use Rattle.isl_elim.specs.Sample.{IsNowhere}
use Rattle.isl_elim.proofs.RangeLaws.{without_behind}
use Rattle.isl_difference.specs.Split.{IsLive, IsLiveFormOf}
use Rattle.isl_difference.proofs.SplitLaws.{live_kept}
use Rattle.isl_blocks.specs.Left.{AreLiveOf, HoldsBefore, IsLeftWithout}

pub kept_none : (s : System) (cols : List ℕ) → s.definitions ≡ [] → kept_definitions s cols ≡ []
kept_none s cols none =
    let gone = with_dependents s cols in
    ap (λ (ds : List Definition). map (narrowed gone) (without_from (free_columns s) gone ds)) none

-- the numbers that were left out stand behind the others
along_behind : (a : List ℤ) (count columns : ℕ) (P : List ℤ → Type 0) → columns ≡ length a + count
    → HoldsAlong columns (range_with_len (length a) count) P a ↔ ((m : List ℤ) × (length m ≡ count) × P (a ++ m))
along_behind a count columns P e = (
  (λ h.
      let w = h.0 in
      let A = take (length a) w in
      let M = drop (length a) w in
      let long = h.1 in
      let A_long = length-take-le (length a) w (omega (arith, long, e)) in
      let rest = length-drop (length a) w in
      let M_long : length M ≡ count = omega (arith, rest, long, e) in
      let parts : w ≡ A ++ M = sym (take-append-drop (length a) w) in
      let left : without (range_with_len (length a) count) w ≡ A =
      ap₂ (λ i n. without (range_with_len i n) w) (sym A_long) (sym M_long) ∙ ap (without (range_with_len (length A) (length M))) parts
      ∙ without_behind A M in
      let same : A ≡ a = sym left ∙ h.2 in
      (M, M_long, subst P (parts ∙ ap (λ x. x ++ M) same) h.3)),
  (λ k.
      let m = k.0 in
      let both = length-append a m in
      let long = k.1 in (
        a ++ m,
        omega (arith, both, long, e),
        ap (λ n. without (range_with_len (length a) n) (a ++ m)) (sym long) ∙ without_behind a m,
        k.2,
      )),
)

module _ (s : System) (kept count : ℕ) (free : free_columns s ≡ kept + count) (cols : List ℕ) (are : cols ≡ range_with_len kept count)
    (systems : List System) (projection : IsProjectionAlong s cols systems) where
  gone : length cols ≡ count
  gone = ap (λ (ns : List ℕ). length ns) are ∙ length-range_with_len kept count

  pub left_columns : All (λ t. free_columns t ≡ kept) systems
  left_columns = λ k d l.
      let n = projection.columns k d l in
      let m = gone in
      omega (arith, n, m, free)

  pub left_points : (point : List ℤ) → length point ≡ kept → HoldsAtAny systems point ↔ HoldsBefore s count point
  left_points point long =
      let m = gone in
      let one = projection.points point (omega (arith, m, free, long)) in
      let here : cols ≡ range_with_len (length point) count = are ∙ ap (λ n. range_with_len n count) (sym long) in
      let two = along_behind point count (free_columns s) (HoldsSystem s) (omega (arith, free, long)) in (
        (λ h. two.0 (subst (λ cs. HoldsAlong (free_columns s) cs (HoldsSystem s) point) here (one.0 h))),
        (λ k. one.1 (subst (λ cs. HoldsAlong (free_columns s) cs (HoldsSystem s) point) (sym here) (two.1 k))),
      )

-- ---- systems that have a point
abbrev IsPlain : System → Type 0
IsPlain s = s.definitions ≡ []

pub live_first : (g : Gauge) (columns : ℕ) (live : List System) → live ≡ [] → AreLiveOf g columns [] live
live_first g columns live e = rw e (record {
  points = λ point l. ((λ h. h), (λ h. h));
  each = All-nil (IsLive g columns);
  definitions = λ plain. All-nil IsPlain;
})

module _ (g h : Gauge) (columns : ℕ) (systems : List System) (i : ℕ) (s : System) (live : List System) (inside : i < length systems)
    (is : s ≡ get_or systems i s) (so_far : AreLiveOf g columns (take i systems) live) (free : free_columns s ≡ columns) where
  more : take (i + 1) systems ≡ take i systems ++ s ∷ []
  more = take_more systems i s inside ∙ ap (λ t. take i systems ++ t ∷ []) (sym is)

  abbrev Next : List System → Type 0
  Next old = AreLiveOf g columns old live

  -- one without a point
  pub live_none : IsNowhere (free_columns s) (HoldsSystem s) → AreLiveOf g columns (take (i + 1) systems) live
  live_none none = subst Next (sym more) (record {
    points = λ point l. (
      (λ k. Any-left (λ t. HoldsSystem t point) (take i systems) (s ∷ []) ((so_far.points point l).0 k)),
      (λ k. elim (Any-parts (λ t. HoldsSystem t point) (take i systems) (s ∷ []) k) [
        | inl old ↦ (so_far.points point l).1 old
        | inr one ↦ absurd (none point (l ∙ sym free) (Any-one (λ t. HoldsSystem t point) s one))
      ]),
    );
    each = so_far.each;
    definitions = λ plain. so_far.definitions (All-last IsPlain (take i systems) s plain).0;
  })

  -- one with a point
  pub live_some : (new : System) (pushed : List System) → IsCharged g h → IsLiveFormOf h s new → pushed ≡ live ++ new ∷ []
      → AreLiveOf g columns (take (i + 1) systems) pushed
  live_some new pushed charged form e = subst (λ old. AreLiveOf g columns old pushed) (sym more) (rw e (record {
    points = λ point l. (
      (λ k. elim (Any-parts (λ t. HoldsSystem t point) live (new ∷ []) k) [
        | inl old ↦ Any-left (λ t. HoldsSystem t point) (take i systems) (s ∷ []) ((so_far.points point l).0 old)
        | inr one ↦ Any-right (λ t. HoldsSystem t point) (take i systems) (s ∷ [])
            (Any-first (λ t. HoldsSystem t point) s [] ((form.points point).0 (Any-one (λ t. HoldsSystem t point) new one)))
      ]),
      (λ k. elim (Any-parts (λ t. HoldsSystem t point) (take i systems) (s ∷ []) k) [
        | inl old ↦ Any-left (λ t. HoldsSystem t point) live (new ∷ []) ((so_far.points point l).1 old)
        | inr one ↦ Any-right (λ t. HoldsSystem t point) live (new ∷ [])
            (Any-first (λ t. HoldsSystem t point) new [] ((form.points point).1 (Any-one (λ t. HoldsSystem t point) s one)))
      ]),
    );
    each = All-push (IsLive g columns) live new so_far.each
        (live_kept g h columns new (let b = ap (λ (k : Gauge). k.bits) charged.same in b) (subst (λ n. IsLive h n new) free form.live));
    definitions = λ plain.
        let parts = All-last IsPlain (take i systems) s plain in
        All-push IsPlain live new (so_far.definitions parts.0) (form.definitions ∙ parts.1);
  }))

-- ---- both
pub left_made : (g h : Gauge) (kept count : ℕ) (s : System) (systems left : List System) → IsCharged g h
    → ((point : List ℤ) → length point ≡ kept → HoldsAtAny systems point ↔ HoldsBefore s count point)
    → (s.definitions ≡ [] → All (λ t. t.definitions ≡ []) systems) → AreLiveOf h kept systems left → IsLeftWithout g s kept count left
left_made g h kept count s systems left charged points plain live = record {
  points = λ point l.
      let one = live.points point l in
      let two = points point l in
      ((λ k. two.0 (one.0 k)), (λ k. one.1 (two.1 k)));
  live = λ k d l. live_kept g h kept (get_or left k d) (ap (λ (m : Gauge). m.bits) charged.same) (live.each k d l);
  definitions = λ none. live.definitions (plain none);
}
