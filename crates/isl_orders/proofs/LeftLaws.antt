-- A system with one of several others, without its last columns.
use Rattle.std.proofs.Common.{◌≡◌, ◌↔◌, inl, inr, sym, ap, ◌∙◌, subst, arith, ℕ, ◌+◌, ◌<◌, ℤ, List, [], ◌∷◌, ◌++◌}
use Rattle.std.proofs.Common.{get_or, length, length-append, take}
use Rattle.std.specs.List.{All}
use Rattle.std.proofs.lemmas.List.{take_more}
use Rattle.std.proofs.lemmas.List.Elements.{All-append, All-nil}
use Rattle.isl_math.proofs.ListLaws.{Any-first, Any-left, Any-none, Any-one, Any-parts, Any-right}
use Rattle.isl_meter.specs.Gauge.{Gauge, IsCharged}
use Rattle.isl_piece.specs.declared.system.System.{System}
use Rattle.isl_piece.specs.System.{HoldsSystem, IsSystemWithin, free_columns}
use Rattle.isl_piece.proofs.FormedLaws.{system_within_kept}
use Rattle.isl_elim.specs.Elimination.{HoldsAtAny}
use Rattle.isl_blocks.specs.Left.{HoldsBefore}
use Rattle.isl_orders.specs.Left.{AreLeftWith}

abbrev IsAt : List ℤ → System → Type 0
IsAt point s = HoldsSystem s point

pub within_earlier : (g h : Gauge) (systems : List System) → IsCharged g h → All (IsSystemWithin h) systems → All (IsSystemWithin g) systems
within_earlier g h systems charged within = λ k d l.
    system_within_kept g h (get_or systems k d) (ap (λ (m : Gauge). m.bits) charged.same) (within k d l)

pub left_one : (g h : Gauge) (s case both : System) (kept count : ℕ) (left : List System) → IsCharged g h → free_columns s ≡ kept + count
    → ((point : List ℤ) → length point ≡ free_columns s → HoldsSystem both point ↔ (HoldsSystem s point × HoldsSystem case point))
    → ((point : List ℤ) → length point ≡ kept → HoldsAtAny left point ↔ HoldsBefore both count point)
    → All (λ t. free_columns t ≡ kept) left → All (IsSystemWithin h) left → AreLeftWith g s (case ∷ []) kept count left
left_one g h s case both kept count left charged columns met points free within = record {
  points = λ point long. (
    (λ any.
        let k = (points point long).0 any in
        let whole = length-append point k.0 in
        let l = k.1 in
        let m = (met (point ++ k.0) (omega (arith, whole, l, long, columns))).0 k.2 in
        (k.0, k.1, m.0, Any-first (IsAt (point ++ k.0)) case [] m.1)),
    (λ k.
        let whole = length-append point k.0 in
        let l = k.1 in
        (points point long).1 (
          k.0,
          k.1,
          (met (point ++ k.0) (omega (arith, whole, l, long, columns))).1
              (k.2, Any-one (IsAt (point ++ k.0)) case k.3),
        )),
  );
  free = free;
  within = within_earlier g h left charged within;
}

pub left_none : (g : Gauge) (s : System) (kept count : ℕ) (left : List System) → left ≡ [] → AreLeftWith g s [] kept count left
left_none g s kept count left e = rw e (record {
  points = λ point long. (
    (λ any. absurd (Any-none (IsAt point) any)),
    (λ k. absurd (Any-none (IsAt (point ++ k.0)) k.3)),
  );
  free = All-nil (λ (t : System). free_columns t ≡ kept);
  within = All-nil (IsSystemWithin g);
})

pub left_more : (g h : Gauge) (s : System) (cases : List System) (i : ℕ) (case : System) (kept count : ℕ) (left more pushed : List System)
    → i < length cases → case ≡ get_or cases i case → IsCharged g h → AreLeftWith g s (take i cases) kept count left
    → AreLeftWith h s (case ∷ []) kept count more → pushed ≡ left ++ more → AreLeftWith g s (take (i + 1) cases) kept count pushed
left_more g h s cases i case kept count left more pushed low at charged so_far one e =
    let next : take (i + 1) cases ≡ take i cases ++ case ∷ [] = take_more cases i case low ∙ ap (λ t. take i cases ++ t ∷ []) (sym at) in
    subst (λ l. AreLeftWith g s l kept count pushed) (sym next) (rw e (record {
      points = λ point long.
          let a = so_far.points point long in
          let b = one.points point long in (
            (λ any. elim (Any-parts (IsAt point) left more any) [
              | inl old ↦ let k = a.0 old in (k.0, k.1, k.2, Any-left (IsAt (point ++ k.0)) (take i cases) (case ∷ []) k.3)
              | inr new ↦ let k = b.0 new in (k.0, k.1, k.2, Any-right (IsAt (point ++ k.0)) (take i cases) (case ∷ []) k.3)
            ]),
            (λ k. elim (Any-parts (IsAt (point ++ k.0)) (take i cases) (case ∷ []) k.3) [
              | inl old ↦ Any-left (IsAt point) left more (a.1 (k.0, k.1, k.2, old))
              | inr new ↦ Any-right (IsAt point) left more (b.1 (k.0, k.1, k.2, new))
            ]),
          );
      free = All-append (λ (t : System). free_columns t ≡ kept) left more so_far.free one.free;
      within = All-append (IsSystemWithin g) left more so_far.within (within_earlier g h more charged one.within);
    }))
