-- One turn after another, and one part after another.
use Rattle.std.proofs.Common.{◌≡◌, ◌∙◌, refl, sym, ap, subst, arith, ℕ, ◌+◌, ◌<◌, ◌≤◌, ℤ, pos, ◌+ℤ◌, ◌<ℤ◌, ◌≤ℤ◌, List, [], ◌∷◌, ◌++◌}
use Rattle.std.proofs.Common.{length, Option, Some, None, length-append, get_or, drop}
use Rattle.std.proofs.lemmas.List.{drop_all, drop_more}
use Rattle.std.specs.Prelude.{IfSome, MatchOption}
use Rattle.std.specs.List.{All, Any}
use Rattle.std.proofs.lemmas.List.Sums.{sum_by-cons}
use Rattle.isl_math.proofs.ListLaws.{Any-first, Any-later}
use Rattle.isl_meter.specs.Gauge.{Gauge, IsCharged, spent_out}
use Rattle.isl_meter.specs.declared.Cut.{Cut}
use Rattle.isl_meter.specs.declared.Cut.TheVariants.{Budget, NoMemory}
use Rattle.isl_meter.proofs.CutLemmas.{IsCharged-unit, IsCutBy-after}
use Rattle.isl_loop.specs.declared.tree.Loop.{Loop}
use Rattle.isl_loop.specs.Formed.{IsLoopOver, RunPasses}
use Rattle.isl_loop.specs.Lists.{calls_of, turns_through}
use Rattle.isl_loop.specs.Run.{Event, trace, turns_of}
use Rattle.isl_loop.specs.Turns.{turns}
use Rattle.isl_loop.proofs.LimitLaws.{IsLoopOver-same, RunPasses-same}
use Rattle.isl_loop.proofs.TurnLaws.{turns_first, turns_none}
use Rattle.isl_ast.specs.Called.{AreCalled}
use Rattle.isl_ast.specs.Run.{charged, turn_calls, turn_units, turns_from, ArePassed, IsEnded, IsSoFar, IsTurned, TurnsPass}
use Rattle.isl_ast.proofs.RunLaws.{ended-memory, ended-spent, so_far-end, so_far-ended, so_far-more, so_far-start}

-- ---- the turns that are left
pub first_turns : (low high step : ℤ) (next : Option ℤ) → pos 0 <ℤ step → MatchOption next (high <ℤ low) (λ x. (x ≡ low) × x ≤ℤ high)
    → (turns_from next high step ≡ turns low high step) × IfSome next (λ x. x ≤ℤ high)
first_turns low high step None p none = (sym (turns_none low high step p none), tt)
first_turns low high step (Some x) p some = (ap (λ (y : ℤ). turns y high step) some.0, some.1)

-- those behind the first one
pub opened : (x high step : ℤ) → pos 0 <ℤ step → x ≤ℤ high → turns x high step ≡ x ∷ turns (x +ℤ step) high step
opened x high step p l = turns_first x high step p l

-- ---- one turn
twice : (g h k : Gauge) (n : ℕ) → h ≡ record g { units = g.units + 1 } → k ≡ charged h n → k ≡ charged g (1 + n)
twice g h k n unit more =
    more ∙ ap (λ (m : Gauge). charged m n) unit ∙ ap (λ (u : ℕ). record g { units = u }) (omega arith)

after_unit : (g h k : Gauge) (n : ℕ) (P : Type 0) (cut : Cut) → h ≡ record g { units = g.units + 1 } → IsEnded h k n P cut
    → IsEnded g k (1 + n) P cut
after_unit g h k n P cut unit e = record {
  by = IsCutBy-after g h k cut (IsCharged-unit g h unit) e.by;
  overflow = e.overflow;
  budget = λ b.
      let less = e.budget b in
      let u = ap (λ (m : Gauge). m.units) unit in
      let w = ap (λ (m : Gauge). m.budget) unit in
      omega (arith, less, u, w);
}

-- the units of the first turn, and of those behind it
units_first : (body : Loop) (point : List ℤ) (x : ℤ) (rest : List ℤ)
    → turn_units body point (x ∷ rest) ≡ (1 + turns_of body (point ++ x ∷ [])) + turn_units body point rest
units_first body point x rest = sum_by-cons (λ (y : ℤ). 1 + turns_of body (point ++ y ∷ [])) x rest

units_at : {S : Type 0} (Called : S → Event → S → Type 0) (g h : Gauge) (before now : S) (body : Loop) (point : List ℤ) (x : ℤ)
    (rest all : List ℤ)
    → IsTurned Called g h before now body point (x ∷ rest) all
    → IsSoFar Called g h before now (turn_calls body point (x ∷ rest)) (turn_calls body point all)
    ((1 + turns_of body (point ++ x ∷ [])) + turn_units body point rest) (turn_units body point all)
    (TurnsPass g body point (x ∷ rest)) (TurnsPass g body point all)
units_at Called g h before now body point x rest all s = record {
  done = s.done;
  called = s.called;
  calls = s.calls;
  charged = s.charged;
  units = let u = units_first body point x rest in let e = s.units in omega (arith, u, e);
  passes = s.passes;
}

pub turn-done : {S : Type 0} (Called : S → Event → S → Type 0) (g h mid k : Gauge) (before now next : S) (body : Loop) (point : List ℤ)
    (x : ℤ) (rest all : List ℤ)
    → IsTurned Called g h before now body point (x ∷ rest) all → mid ≡ record h { units = h.units + 1 }
    → AreCalled Called now (trace body (point ++ x ∷ [])) next
    → k ≡ charged mid (turns_of body (point ++ x ∷ [])) → IsTurned Called g k before next body point rest all
turn-done Called g h mid k before now next body point x rest all s unit longer more =
    let t = turns_of body (point ++ x ∷ []) in
    so_far-more Called g h k before now next (trace body (point ++ x ∷ [])) (turn_calls body point rest) (turn_calls body point all)
    (1 + t) (turn_units body point rest) (turn_units body point all)
    (TurnsPass g body point (x ∷ rest)) (TurnsPass g body point rest) (TurnsPass g body point all)
    (units_at Called g h before now body point x rest all s)
    (twice h mid k t unit more) longer (Any-later (λ y. RunPasses g (point ++ y ∷ []) body) x rest)

same_bits : (g h mid : Gauge) → IsCharged g h → mid ≡ record h { units = h.units + 1 } → mid.bits ≡ g.bits
same_bits g h mid c unit = ap (λ (m : Gauge). m.bits) unit ∙ ap (λ (m : Gauge). m.bits) c.same

pub turn-cut : {S : Type 0} (Called : S → Event → S → Type 0) (g h mid k : Gauge) (before now : S) (body : Loop) (point : List ℤ) (x : ℤ)
    (rest all : List ℤ) (cut : Cut)
    → IsTurned Called g h before now body point (x ∷ rest) all → mid ≡ record h { units = h.units + 1 }
    → IsEnded mid k (turns_of body (point ++ x ∷ [])) (RunPasses mid (point ++ x ∷ []) body) cut
    → IsEnded g k (turn_units body point all) (TurnsPass g body point all) cut
turn-cut Called g h mid k before now body point x rest all cut s unit e =
    let t = turns_of body (point ++ x ∷ []) in
    let P : ℤ → Type 0 = λ y. RunPasses g (point ++ y ∷ []) body in
    so_far-ended Called g h k before now (turn_calls body point (x ∷ rest)) (turn_calls body point all) (1 + t)
    (turn_units body point (x ∷ rest)) (turn_units body point all)
    (TurnsPass g body point (x ∷ rest)) (RunPasses mid (point ++ x ∷ []) body) (TurnsPass g body point all) cut s
    (after_unit h mid k t (RunPasses mid (point ++ x ∷ []) body) cut unit e)
    (let u = units_first body point x rest in omega (arith, u))
    (λ p. Any-first P x rest (RunPasses-same mid g (point ++ x ∷ []) body (sym (same_bits g h mid s.charged unit)) p))

pub turn-spent : {S : Type 0} (Called : S → Event → S → Type 0) (g h k : Gauge) (before now : S) (body : Loop) (point : List ℤ) (x : ℤ)
    (rest all : List ℤ)
    → IsTurned Called g h before now body point (x ∷ rest) all → h.units ≡ h.budget → k ≡ spent_out h
    → IsEnded g k (turn_units body point all) (TurnsPass g body point all) Budget
turn-spent Called g h k before now body point x rest all s full spent =
    so_far-ended Called g h k before now (turn_calls body point (x ∷ rest)) (turn_calls body point all) 1
    (turn_units body point (x ∷ rest)) (turn_units body point all)
    (TurnsPass g body point (x ∷ rest)) ⊥ (TurnsPass g body point all) Budget s
    (ended-spent h k 1 ⊥ full spent (omega arith)) (let u = units_first body point x rest in omega (arith, u)) (λ n. absurd n)

pub turn-memory : {S : Type 0} (Called : S → Event → S → Type 0) (g h mid : Gauge) (before now : S) (body : Loop) (point : List ℤ) (x : ℤ)
    (rest all : List ℤ)
    → IsTurned Called g h before now body point (x ∷ rest) all → mid ≡ record h { units = h.units + 1 }
    → IsEnded g mid (turn_units body point all) (TurnsPass g body point all) NoMemory
turn-memory Called g h mid before now body point x rest all s unit =
    so_far-ended Called g h mid before now (turn_calls body point (x ∷ rest)) (turn_calls body point all) 1
    (turn_units body point (x ∷ rest)) (turn_units body point all)
    (TurnsPass g body point (x ∷ rest)) ⊥ (TurnsPass g body point all) NoMemory s
    (ended-memory h mid 1 ⊥ (IsCharged-unit h mid unit)) (let u = units_first body point x rest in omega (arith, u)) (λ n. absurd n)

-- the body is over the columns with the variable
pub body_over : (g h mid : Gauge) (body : Loop) (point now : List ℤ) (x : ℤ) → IsLoopOver g (length point + 1) body → IsCharged g h
    → mid ≡ record h { units = h.units + 1 } → now ≡ point ++ x ∷ [] → IsLoopOver mid (length now) body
body_over g h mid body point now x over c unit is =
    subst (λ (n : ℕ). IsLoopOver mid n body) (sym (ap (λ (xs : List ℤ). length xs) is ∙ length-append point (x ∷ [])))
    (IsLoopOver-same g mid (length point + 1) body (same_bits g h mid c unit) over)

-- ---- one part
pub part-done : {S : Type 0} (Called : S → Event → S → Type 0) (g h k : Gauge) (before now next : S) (point : List ℤ) (part : Loop)
    (rest all : List Loop)
    → ArePassed Called g h before now point (part ∷ rest) all → AreCalled Called now (trace part point) next → k ≡ charged h
    (turns_of part point)
    → ArePassed Called g k before next point rest all
part-done Called g h k before now next point part rest all s longer more =
    so_far-more Called g h k before now next (trace part point) (calls_of rest point) (calls_of all point)
    (turns_of part point) (turns_through rest point) (turns_through all point)
    (Any (RunPasses g point) (part ∷ rest)) (Any (RunPasses g point) rest) (Any (RunPasses g point) all) s more longer
    (Any-later (RunPasses g point) part rest)

pub part-cut : {S : Type 0} (Called : S → Event → S → Type 0) (g h k : Gauge) (before now : S) (point : List ℤ) (part : Loop)
    (rest all : List Loop) (cut : Cut)
    → ArePassed Called g h before now point (part ∷ rest) all → IsEnded h k (turns_of part point) (RunPasses h point part) cut
    → IsEnded g k (turns_through all point) (Any (RunPasses g point) all) cut
part-cut Called g h k before now point part rest all cut s e =
    so_far-ended Called g h k before now (calls_of (part ∷ rest) point) (calls_of all point) (turns_of part point)
    (turns_through (part ∷ rest) point) (turns_through all point)
    (Any (RunPasses g point) (part ∷ rest)) (RunPasses h point part) (Any (RunPasses g point) all) cut s e (omega arith)
    (λ p. Any-first (RunPasses g point) part rest (RunPasses-same h g point part (sym (ap (λ (m : Gauge). m.bits) s.charged.same)) p))

pub part_over : (g h : Gauge) (part : Loop) (point now : List ℤ) → IsLoopOver g (length point) part → IsCharged g h → now ≡ point
    → IsLoopOver h (length now) part
part_over g h part point now over c is =
    subst (λ (xs : List ℤ). IsLoopOver h (length xs) part) (sym is)
    (IsLoopOver-same g h (length point) part (ap (λ (m : Gauge). m.bits) c.same) over)

-- ---- one turn, as the code does it: the point has the number last
pub turn_next : {S : Type 0} (Called : S → Event → S → Type 0) (g h mid k : Gauge) (before now next : S) (body : Loop)
    (point pushed : List ℤ) (x high step : ℤ)
    (after : Option ℤ) (all : List ℤ) → pos 0 <ℤ step → x ≤ℤ high → IsTurned Called g h before now body point (turns x high step) all
    → mid ≡ record h { units = h.units + 1 } → pushed ≡ point ++ x ∷ [] → AreCalled Called now (trace body pushed) next
    → k ≡ charged mid (turns_of body pushed) → MatchOption after (high <ℤ (x +ℤ step)) (λ y. (y ≡ x +ℤ step) × y ≤ℤ high)
    → IsTurned Called g k before next body point (turns_from after high step) all
turn_next Called g h mid k before now next body point pushed x high step after all p l s unit is longer more later =
    subst (λ (rest : List ℤ). IsTurned Called g k before next body point rest all) (sym (first_turns (x +ℤ step) high step after p later).0)
    (turn-done Called g h mid k before now next body point x (turns (x +ℤ step) high step) all
    (subst (λ (rest : List ℤ). IsTurned Called g h before now body point rest all) (turns_first x high step p l) s) unit
    (subst (λ (ys : List ℤ). AreCalled Called now (trace body ys) next) is longer)
    (more ∙ ap (λ (ys : List ℤ). charged mid (turns_of body ys)) is))

pub next_within : (x high step : ℤ) (after : Option ℤ) → MatchOption after (high <ℤ (x +ℤ step)) (λ y. (y ≡ x +ℤ step) × y ≤ℤ high)
    → IfSome after (λ y. y ≤ℤ high)
next_within x high step None later = tt
next_within x high step (Some y) later = later.1

pub turn_ended : {S : Type 0} (Called : S → Event → S → Type 0) (g h mid k : Gauge) (before now : S) (body : Loop) (point pushed : List ℤ)
    (x high step : ℤ) (all : List ℤ)
    (cut : Cut)
    → pos 0 <ℤ step → x ≤ℤ high → IsTurned Called g h before now body point (turns x high step) all
    → mid ≡ record h { units = h.units + 1 } → pushed ≡ point ++ x ∷ []
    → IsEnded mid k (turns_of body pushed) (RunPasses mid pushed body) cut
    → IsEnded g k (turn_units body point all) (TurnsPass g body point all) cut
turn_ended Called g h mid k before now body point pushed x high step all cut p l s unit is e =
    turn-cut Called g h mid k before now body point x (turns (x +ℤ step) high step) all cut
    (subst (λ (rest : List ℤ). IsTurned Called g h before now body point rest all) (turns_first x high step p l) s) unit
    (subst (λ (ys : List ℤ). IsEnded mid k (turns_of body ys) (RunPasses mid ys body) cut) is e)

pub unit_ended : {S : Type 0} (Called : S → Event → S → Type 0) (g h k : Gauge) (before now : S) (body : Loop) (point : List ℤ)
    (x high step : ℤ) (all : List ℤ)
    → pos 0 <ℤ step → x ≤ℤ high → IsTurned Called g h before now body point (turns x high step) all → h.units ≡ h.budget → k ≡ spent_out h
    → IsEnded g k (turn_units body point all) (TurnsPass g body point all) Budget
unit_ended Called g h k before now body point x high step all p l s full spent =
    turn-spent Called g h k before now body point x (turns (x +ℤ step) high step) all
    (subst (λ (rest : List ℤ). IsTurned Called g h before now body point rest all) (turns_first x high step p l) s) full spent

pub push_ended : {S : Type 0} (Called : S → Event → S → Type 0) (g h mid : Gauge) (before now : S) (body : Loop) (point : List ℤ)
    (x high step : ℤ) (all : List ℤ)
    → pos 0 <ℤ step → x ≤ℤ high → IsTurned Called g h before now body point (turns x high step) all → mid ≡ record h { units = h.units + 1 }
    → IsEnded g mid (turn_units body point all) (TurnsPass g body point all) NoMemory
push_ended Called g h mid before now body point x high step all p l s unit =
    turn-memory Called g h mid before now body point x (turns (x +ℤ step) high step) all
    (subst (λ (rest : List ℤ). IsTurned Called g h before now body point rest all) (turns_first x high step p l) s) unit

pub turns_start : {S : Type 0} (Called : S → Event → S → Type 0) (g : Gauge) (before : S) (body : Loop) (point : List ℤ)
    (low high step : ℤ) (next : Option ℤ) → pos 0 <ℤ step
    → MatchOption next (high <ℤ low) (λ x. (x ≡ low) × x ≤ℤ high)
    → IsTurned Called g g before before body point (turns_from next high step) (turns low high step)
turns_start Called g before body point low high step next p first =
    let all = turns low high step in
    subst (λ (rest : List ℤ). IsTurned Called g g before before body point rest all) (sym (first_turns low high step next p first).0)
    (so_far-start Called g g before before (turn_calls body point all) (turn_units body point all) (TurnsPass g body point all) refl refl)

pub turns_end : {S : Type 0} (Called : S → Event → S → Type 0) (g h : Gauge) (before now : S) (body : Loop) (point all : List ℤ)
    → IsTurned Called g h before now body point [] all
    → AreCalled Called before (turn_calls body point all) now × (h ≡ charged g (turn_units body point all))
turns_end Called g h before now body point all s =
    so_far-end Called g h before now (turn_calls body point all) (turn_units body point all) (TurnsPass g body point [])
    (TurnsPass g body point all) s

-- ---- one part, as the code finds it
parts_left : {X : Type 0} (xs : List X) (i : ℕ) (x : X) → i < length xs → x ≡ get_or xs i x → drop i xs ≡ x ∷ drop (i + 1) xs
parts_left xs i x inside is = drop_more xs i x inside ∙ ap (λ y. y ∷ drop (i + 1) xs) (sym is)

pub part_next : {S : Type 0} (Called : S → Event → S → Type 0) (g h k : Gauge) (before now next : S) (point own : List ℤ)
    (parts : List Loop) (i : ℕ) (part : Loop)
    → i < length parts → part ≡ get_or parts i part → ArePassed Called g h before now point (drop i parts) parts → own ≡ point
    → AreCalled Called now (trace part own) next → k ≡ charged h (turns_of part own) → ArePassed Called g k before next point
    (drop (i + 1) parts) parts
part_next Called g h k before now next point own parts i part low is s same longer more =
    part-done Called g h k before now next point part (drop (i + 1) parts) parts
    (subst (λ (rest : List Loop). ArePassed Called g h before now point rest parts) (parts_left parts i part low is) s)
    (subst (λ (ys : List ℤ). AreCalled Called now (trace part ys) next) same longer)
    (more ∙ ap (λ (ys : List ℤ). charged h (turns_of part ys)) same)

pub part_ended : {S : Type 0} (Called : S → Event → S → Type 0) (g h k : Gauge) (before now : S) (point own : List ℤ) (parts : List Loop)
    (i : ℕ) (part : Loop) (cut : Cut)
    → i < length parts → part ≡ get_or parts i part → ArePassed Called g h before now point (drop i parts) parts → own ≡ point
    → IsEnded h k (turns_of part own) (RunPasses h own part) cut
    → IsEnded g k (turns_through parts point) (Any (RunPasses g point) parts) cut
part_ended Called g h k before now point own parts i part cut low is s same e =
    part-cut Called g h k before now point part (drop (i + 1) parts) parts cut
    (subst (λ (rest : List Loop). ArePassed Called g h before now point rest parts) (parts_left parts i part low is) s)
    (subst (λ (ys : List ℤ). IsEnded h k (turns_of part ys) (RunPasses h ys part) cut) same e)

pub parts_start : {S : Type 0} (Called : S → Event → S → Type 0) (g : Gauge) (before : S) (point : List ℤ) (parts : List Loop)
    → ArePassed Called g g before before point (drop 0 parts) parts
parts_start Called g before point parts =
    so_far-start Called g g before before (calls_of parts point) (turns_through parts point) (Any (RunPasses g point) parts) refl refl

pub part_ready : (g h : Gauge) (point own : List ℤ) (parts : List Loop) (i : ℕ) (part : Loop) → All (IsLoopOver g (length point)) parts
    → i < length parts → part ≡ get_or parts i part → IsCharged g h → own ≡ point → IsLoopOver h (length own) part
part_ready g h point own parts i part over low is c same =
    part_over g h part point own (subst (IsLoopOver g (length point)) (sym is) (over i part low)) c same

pub parts_end : {S : Type 0} (Called : S → Event → S → Type 0) (g h : Gauge) (before now : S) (point : List ℤ) (parts : List Loop) (i : ℕ)
    → length parts ≤ i
    → ArePassed Called g h before now point (drop i parts) parts
    → AreCalled Called before (calls_of parts point) now × (h ≡ charged g (turns_through parts point))
parts_end Called g h before now point parts i long s =
    so_far-end Called g h before now (calls_of parts point) (turns_through parts point) (Any (RunPasses g point) [])
    (Any (RunPasses g point) parts)
    (subst (λ (rest : List Loop). ArePassed Called g h before now point rest parts) (drop_all i parts long) s)
