-- Steps, one after another.
use Rattle.std.proofs.Common.{◌≡◌, ◌↔◌, ◌⊎◌, inl, inr, refl, sym, ap, ap₂, ◌∙◌, arith, subst, ℕ, suc, ◌+◌, ◌<◌, ◌≤◌, List, [], ◌∷◌, ◌++◌}
use Rattle.std.proofs.Common.{Any, length, get_or, map, take, drop, length-append, take-append-drop}
use Rattle.std.specs.List.{remove}
use Rattle.std.proofs.lemmas.List.{append_assoc, drop_more, map-append, take-map, drop-map}
use Rattle.isl_math.proofs.ListLaws.{Any-cases, Any-first, Any-later, Any-left, Any-parts, Any-right}
use Rattle.isl_union.specs.KeptValue.{KeptPiece}
use Rattle.isl_coalesce.specs.Coalesced.{AreSteps, IsStep, Leads}

module _ (J : KeptPiece → KeptPiece → KeptPiece → Type 0) where
  -- ---- one way after another
  steps_more : (old middle new : List KeptPiece) (states later : List (List KeptPiece)) → AreSteps J old states middle
      → AreSteps J middle later new → AreSteps J old (states ++ later) new
  steps_more old middle new [] later e h = subst (λ l. AreSteps J l later new) e h
  steps_more old middle new (next ∷ states) later h k = (h.0, steps_more next middle new states later h.1 k)

  pub leads_trans : (old middle new : List KeptPiece) → Leads J old middle → Leads J middle new → Leads J old new
  leads_trans old middle new h k = (h.0 ++ k.0, steps_more old middle new h.0 k.0 h.1 k.1)

  pub leads_same : (old new : List KeptPiece) → new ≡ old → Leads J old new
  leads_same old new e = ([], e)

  pub leads_step : (old new : List KeptPiece) → IsStep J old new → Leads J old new
  leads_step old new h = (new ∷ [], (h, refl))

  -- ---- with others behind
  step_before : (behind old new : List KeptPiece) → IsStep J old new → IsStep J (old ++ behind) (new ++ behind)
  step_before behind old new h = record {
    before = h.before;
    first = h.first;
    between = h.between;
    second = h.second;
    behind = h.behind ++ behind;
    joint = h.joint;
    joins = h.joins;
    from = ap (λ l. l ++ behind) h.from
        ∙ append_assoc h.before (h.first ∷ (h.between ++ h.second ∷ h.behind)) behind
        ∙ ap (λ l. h.before ++ h.first ∷ l) (append_assoc h.between (h.second ∷ h.behind) behind);
    to = ap (λ l. l ++ behind) h.to
        ∙ append_assoc h.before (h.between ++ h.joint ∷ h.behind) behind
        ∙ ap (λ l. h.before ++ l) (append_assoc h.between (h.joint ∷ h.behind) behind);
  }

  steps_before : (behind old new : List KeptPiece) (states : List (List KeptPiece)) → AreSteps J old states new
      → AreSteps J (old ++ behind) (map (λ l. l ++ behind) states) (new ++ behind)
  steps_before behind old new [] e = ap (λ l. l ++ behind) e
  steps_before behind old new (next ∷ states) h = (step_before behind old next h.0, steps_before behind next new states h.1)

  pub leads_before : (behind old new : List KeptPiece) → Leads J old new → Leads J (old ++ behind) (new ++ behind)
  leads_before behind old new h = (map (λ l. l ++ behind) h.0, steps_before behind old new h.0 h.1)

  -- ---- what a joint piece has just where one of the two does, the pieces have before and after
  module _ (P : KeptPiece → Type 0) (either : (p q joint : KeptPiece) → J p q joint → P joint ↔ (P p ⊎ P q)) where
    step_has : (old new : List KeptPiece) → IsStep J old new → Any P new ↔ Any P old
    step_has old new h =
        let rest = h.second ∷ h.behind in
        let joint = h.joint ∷ h.behind in
        let olds = h.before ++ h.first ∷ (h.between ++ rest) in
        let news = h.before ++ (h.between ++ joint) in
        let forth : Any P news → Any P olds = λ a. elim (Any-parts P h.before (h.between ++ joint) a) [
          | inl x ↦ Any-left P h.before (h.first ∷ (h.between ++ rest)) x
          | inr y ↦ Any-right P h.before (h.first ∷ (h.between ++ rest)) (elim (Any-parts P h.between joint y) [
            | inl z ↦ Any-later P h.first (h.between ++ rest) (Any-left P h.between rest z)
            | inr z ↦ elim (Any-cases P h.joint h.behind z) [
              | inl j ↦ elim ((either h.first h.second h.joint h.joins).0 j) [
                | inl p ↦ Any-first P h.first (h.between ++ rest) p
                | inr q ↦ Any-later P h.first (h.between ++ rest) (Any-right P h.between rest (Any-first P h.second h.behind q))
              ]
              | inr b ↦ Any-later P h.first (h.between ++ rest) (Any-right P h.between rest (Any-later P h.second h.behind b))
            ]
          ])
        ] in
        let join : P h.joint → Any P news = λ j. Any-right P h.before (h.between ++ joint)
        (Any-right P h.between joint (Any-first P h.joint h.behind j)) in
        let back : Any P olds → Any P news = λ a. elim (Any-parts P h.before (h.first ∷ (h.between ++ rest)) a) [
          | inl x ↦ Any-left P h.before (h.between ++ joint) x
          | inr y ↦ elim (Any-cases P h.first (h.between ++ rest) y) [
            | inl p ↦ join ((either h.first h.second h.joint h.joins).1 (inl p))
            | inr z ↦ elim (Any-parts P h.between rest z) [
              | inl b ↦ Any-right P h.before (h.between ++ joint) (Any-left P h.between joint b)
              | inr w ↦ elim (Any-cases P h.second h.behind w) [
                | inl q ↦ join ((either h.first h.second h.joint h.joins).1 (inr q))
                | inr b ↦ Any-right P h.before (h.between ++ joint) (Any-right P h.between joint (Any-later P h.joint h.behind b))
              ]
            ]
          ]
        ] in (
          (λ a. subst (Any P) (sym h.from) (forth (subst (Any P) h.to a))),
          (λ a. subst (Any P) (sym h.to) (back (subst (Any P) h.from a))),
        )

    steps_have : (old new : List KeptPiece) (states : List (List KeptPiece)) → AreSteps J old states new → Any P new ↔ Any P old
    steps_have old new [] e = ((λ a. subst (Any P) e a), (λ a. subst (Any P) (sym e) a))
    steps_have old new (next ∷ states) h =
        let one = step_has old next h.0 in
        let rest = steps_have next new states h.1 in
        ((λ a. one.0 (rest.0 a)), (λ a. rest.1 (one.1 a)))

    pub leads_have : (old new : List KeptPiece) → Leads J old new → Any P new ↔ Any P old
    leads_have old new h = steps_have old new h.0 h.1

  -- ---- no step makes them more
  step_fewer : (old new : List KeptPiece) → IsStep J old new → length new ≤ length old
  step_fewer old new h =
      let a = ap (λ (l : List KeptPiece). length l) h.from in
      let b = ap (λ (l : List KeptPiece). length l) h.to in
      let a1 = length-append h.before (h.first ∷ (h.between ++ h.second ∷ h.behind)) in
      let a2 = length-append h.between (h.second ∷ h.behind) in
      let b1 = length-append h.before (h.between ++ h.joint ∷ h.behind) in
      let b2 = length-append h.between (h.joint ∷ h.behind) in
      omega (arith, a, b, a1, a2, b1, b2)

  steps_fewer : (old new : List KeptPiece) (states : List (List KeptPiece)) → AreSteps J old states new → length new ≤ length old
  steps_fewer old new [] e = let l = ap (λ (xs : List KeptPiece). length xs) e in omega (arith, l)
  steps_fewer old new (next ∷ states) h =
      let one = step_fewer old next h.0 in
      let rest = steps_fewer next new states h.1 in
      omega (arith, one, rest)

  pub leads_fewer : (old new : List KeptPiece) → Leads J old new → length new ≤ length old
  leads_fewer old new h = steps_fewer old new h.0 h.1

-- ---- a list without one of its elements
pub at_place : {X : Type 0} (xs : List X) (i : ℕ) (d : X) → i < length xs → xs ≡ take i xs ++ get_or xs i d ∷ drop (suc i) xs
at_place xs i d low =
    let next : i + 1 ≡ suc i = omega arith in
    subst (λ n. xs ≡ take i xs ++ get_or xs i d ∷ drop n xs) next
    (sym (take-append-drop i xs) ∙ ap (λ l. take i xs ++ l) (drop_more xs i d low))

pub map-remove : {X Y : Type 0} (f : X → Y) (xs : List X) (i : ℕ) → map f (remove xs i) ≡ remove (map f xs) i
map-remove f xs i =
    map-append f (take i xs) (drop (suc i) xs)
    ∙ ap₂ (λ a b. a ++ b) (sym (take-map f i xs)) (sym (drop-map f (suc i) xs))
