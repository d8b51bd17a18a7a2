-- What is paid by calls that come one after another, and why there is no value.
use Rattle.std.proofs.Common.{◌≡◌, ◌∙◌, ◌⊎◌, inl, inr, Bool, true, false, refl, sym, ap, subst}
use Rattle.std.specs.Prelude.{Result, Ok, Err, IfErr, IfOk, MatchResult}
use Rattle.isl_meter.specs.Gauge.{Gauge, limit_of, IsCharged}
use Rattle.isl_meter.specs.declared.Cut.{Cut}
use Rattle.isl_meter.specs.declared.Cut.TheVariants as cuts
use Rattle.isl_meter.proofs.CutLemmas.{IsCharged_refl, IsCharged_trans, IsCutBy-after, IsCutBy-charged}
use Rattle.isl_refusal.specs.declared.refusal.Refusal.{Refusal}
use Rattle.isl_refusal.specs.declared.refusal.Refusal.TheVariants.{NoMemory}
use Rattle.isl_outcome.specs.End.{CutAlone, End, because}
use Rattle.isl_outcome.specs.End as ends
use Rattle.isl_outcome.specs.Why.{IsPaid, IsWhyUnmade, IsWhyUnworked}

pub same_limit : (g h : Gauge) → IsCharged g h → limit_of h ≡ limit_of g
same_limit g h charged = ap limit_of charged.same

-- ---- what was paid
pub paid_same : (works : Bool) (g h : Gauge) → h ≡ g → IsPaid works g h
paid_same works g h same = record { charged = IsCharged_refl g h same; free = λ none. same }

pub paid_works : (g h : Gauge) → IsCharged g h → IsPaid true g h
paid_works g h charged = record { charged = charged; free = λ none. absurd (let no : ⊥ = cc in no) }

-- one after another, where both are parts of the whole
pub paid_after : (all a b : Bool) (g h k : Gauge) → (all ≡ false → (a ≡ false) × (b ≡ false)) → IsPaid a g h → IsPaid b h k → IsPaid all g k
paid_after all a b g h k quiet first second = record {
  charged = IsCharged_trans g h k first.charged second.charged;
  free = λ none. second.free (quiet none).1 ∙ first.free (quiet none).0;
}

pub paid_in : (all a : Bool) (g h : Gauge) → (all ≡ false → a ≡ false) → IsPaid a g h → IsPaid all g h
paid_in all a g h quiet paid = record { charged = paid.charged; free = λ none. paid.free (quiet none) }

-- ---- why there is no value
-- want of memory may come anywhere, and another cut where what ends a part ends the whole
cut_there : (Part Whole : End → Type 0) (cut : Cut) → ((why : End) → Part why → Whole why) → (cut ≡ cuts.NoMemory) ⊎ Part ends.cut
    → (cut ≡ cuts.NoMemory) ⊎ Whole ends.cut
cut_there Part Whole cut lifts (inl memory) = inl memory
cut_there Part Whole cut lifts (inr there) = inr (lifts ends.cut there)

pub unmade_after : (all a b : Bool) (Part Whole : End → Type 0) (g h k : Gauge) (refusal : Refusal)
    → (all ≡ false → (a ≡ false) × (b ≡ false)) → ((why : End) → Part why → Whole why) → IsPaid a g h → IsWhyUnmade b Part h k refusal
    → IsWhyUnmade all Whole g k refusal
unmade_after all a b Part Whole g h k refusal quiet lifts first why = record {
  cut = why.cut;
  is = why.is;
  by = IsCutBy-after g h k why.cut first.charged why.by;
  there = cut_there Part Whole why.cut lifts why.there;
  free = λ none. let last = why.free (quiet none).1 in (last.0, last.1 ∙ first.free (quiet none).0);
}

pub unmade_in : (all a : Bool) (Part Whole : End → Type 0) (g h : Gauge) (refusal : Refusal) → (all ≡ false → a ≡ false)
    → ((why : End) → Part why → Whole why) → IsWhyUnmade a Part g h refusal → IsWhyUnmade all Whole g h refusal
unmade_in all a Part Whole g h refusal quiet lifts why = record {
  cut = why.cut;
  is = why.is;
  by = why.by;
  there = cut_there Part Whole why.cut lifts why.there;
  free = λ none. why.free (quiet none);
}

-- memory ended behind it
pub unmade_memory : (works : Bool) (Ends : End → Type 0) (g h : Gauge) (refusal : Refusal) → refusal ≡ NoMemory → IsPaid works g h
    → IsWhyUnmade works Ends g h refusal
unmade_memory works Ends g h refusal is paid = record {
  cut = cuts.NoMemory;
  is = is;
  by = IsCutBy-charged g h paid.charged;
  there = inl refl;
  free = λ none. (refl, paid.free none);
}

-- the same where what ends a part ends the whole
pub unworked_after : (all a b : Bool) (Part Whole : End → Type 0) (g h k : Gauge) (refusal : Refusal)
    → (all ≡ false → (a ≡ false) × (b ≡ false)) → ((why : End) → Part why → Whole why) → IsPaid a g h
    → IsWhyUnworked b Part h k refusal → IsWhyUnworked all Whole g k refusal
unworked_after all a b Part Whole g h k refusal quiet lifts first (inl why) =
    inl (unmade_after all a b Part Whole g h k refusal quiet lifts first why)
unworked_after all a b Part Whole g h k refusal quiet lifts first (inr why) =
    inr (why.0, why.1, lifts (because why.0) why.2, paid_after all a b g h k quiet first why.3)

pub unworked_in : (all a : Bool) (Part Whole : End → Type 0) (g h : Gauge) (refusal : Refusal) → (all ≡ false → a ≡ false)
    → ((why : End) → Part why → Whole why) → IsWhyUnworked a Part g h refusal → IsWhyUnworked all Whole g h refusal
unworked_in all a Part Whole g h refusal quiet lifts (inl why) = inl (unmade_in all a Part Whole g h refusal quiet lifts why)
unworked_in all a Part Whole g h refusal quiet lifts (inr why) =
    inr (why.0, why.1, lifts (because why.0) why.2, paid_in all a g h quiet why.3)

-- memory ended behind a call that used units alone
pub unmade_later : {A : Type 0} (r : Result A Refusal) (P : A → Type 0) (g h : Gauge) → r ≡ Err NoMemory → IsCharged g h
    → MatchResult r P (IsWhyUnmade true CutAlone g h)
unmade_later {A} r P g h is charged =
    subst (λ (o : Result A Refusal). MatchResult o P (IsWhyUnmade true CutAlone g h)) (sym is)
    (unmade_memory true CutAlone g h NoMemory refl (paid_works g h charged))

-- where it is said of an operation that may end
pub unworked_of : {A : Type 0} (result : Result A Refusal) (P : A → Type 0) (works : Bool) (Ends : End → Type 0) (g h : Gauge)
    → MatchResult result P (IsWhyUnmade works Ends g h) → MatchResult result P (IsWhyUnworked works Ends g h)
unworked_of (Ok a) P works Ends g h made = made
unworked_of (Err refusal) P works Ends g h why = inl why

-- ---- answers
-- what an answer has, and what a refusal has
pub match_map : {A E : Type 0} (r : Result A E) (P Q : A → Type 0) (R S : E → Type 0) → ((a : A) → P a → Q a) → ((e : E) → R e → S e)
    → MatchResult r P R → MatchResult r Q S
match_map (Ok a) P Q R S f g h = f a h
match_map (Err e) P Q R S f g h = g e h

pub both_map : {A E : Type 0} (r : Result A E) (P Q : A → Type 0) (R S : E → Type 0) → ((a : A) → P a → Q a) → ((e : E) → R e → S e)
    → IfOk r P → IfErr r R → MatchResult r Q S
both_map (Ok a) P Q R S f g h other = f a h
both_map (Err e) P Q R S f g h other = g e other

-- what an answer has
pub ok_of : {A E : Type 0} (r : Result A E) (P : A → Type 0) → ((a : A) → P a) → IfOk r P
ok_of (Ok a) P f = f a
ok_of (Err e) P f = tt

pub ok_map : {A E : Type 0} (r : Result A E) (P Q : A → Type 0) → ((a : A) → P a → Q a) → IfOk r P → IfOk r Q
ok_map (Ok a) P Q f h = f a h
ok_map (Err e) P Q f h = tt
