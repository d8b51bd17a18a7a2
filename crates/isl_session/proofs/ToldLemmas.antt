-- Lines that are told, and then others.
use Rattle.std.proofs.Common.{◌≡◌, ℕ, ◌≤◌, List, [], ◌++◌, sym, ◌∙◌, ap, subst, Option, None, map}
use Rattle.std.specs.List.{concat}
use Rattle.std.specs.Io.KnownBytes.{Appends}
use Rattle.std.proofs.KnownBytes.{Appends-nil, Appends-trans}
use Rattle.isl_math.proofs.CountLaws.{rose_since, rose_until}
use Rattle.isl_session.specs.declared.fault.Fault.{Fault}
use Rattle.isl_session.specs.Lines.{fault_line}
use Rattle.isl_session.specs.Outcome.{Outcome, faults_from, first_skip, lines_from}
use Rattle.isl_session.specs.Run.{Told}
use Rattle.isl_session.specs.View.{View, Fed, passed}
use Rattle.isl_session.proofs.OutcomeLemmas.{lines_from-append, no_faults, none_if_first, or_none_left, or_none_right}
use Rattle.isl_session.proofs.RunLemmas.{fed_passed}

-- nothing is told of no statement
pub told_nothing : (told : Option (List ℕ)) (tells n : ℕ) → Told told tells told tells (lines_from n [])
unfolding faults_from
told_nothing told tells n not = Appends-nil told

pub told_none : (told : Option (List ℕ)) (tells : ℕ) (lines : List ℕ) → lines ≡ [] → Told told tells told tells lines
told_none told tells lines none not = subst (λ (l : List ℕ). Appends told told l) (sym none) (Appends-nil told)

-- one after another
pub told_on : (a : Option (List ℕ)) (i : ℕ) (b : Option (List ℕ)) (j : ℕ) (c : Option (List ℕ)) (k : ℕ) (xs ys : List ℕ)
    → i ≤ j → j ≤ k → Told a i b j xs → Told b j c k ys → Told a i c k (xs ++ ys)
told_on a i b j c k xs ys first second one two not =
    Appends-trans _ _ _ _ _ (one (λ rose. not (rose_until i j k rose second))) (two (λ rose. not (rose_since i j k first rose)))

-- the lines of a piece's statements, and those of the next piece's
module _ (old : View) (x : List ℕ) (ps : List Outcome) (between : View) (fed : Fed old x ps between)
    (a : Option (List ℕ)) (i : ℕ) (b : Option (List ℕ)) (j : ℕ) (c : Option (List ℕ)) (k : ℕ) (first : i ≤ j) (second : j ≤ k)
    (one : Told a i b j (lines_from (passed old) ps)) (qs : List Outcome) where
  pub lines_on : Told b j c k (lines_from (passed between) qs) → Told a i c k (lines_from (passed old) (ps ++ qs))
  lines_on two =
      subst (λ (l : List ℕ). Told a i c k l)
      (sym (lines_from-append (passed old) ps qs (passed between) (fed_passed old x ps between fed)))
      (told_on a i b j c k (lines_from (passed old) ps) (lines_from (passed between) qs) first second one two)

-- the lines of faults that stand in a list
pub lines_of_list : (faults : List Fault) (n : ℕ) (outcomes : List Outcome) (before : List Fault)
    → faults ≡ before ++ faults_from n outcomes
    → before ≡ [] → concat (map fault_line faults) ≡ lines_from n outcomes
lines_of_list faults n outcomes before is none =
    ap (λ (l : List Fault). concat (map fault_line l)) (is ∙ ap (λ (l : List Fault). l ++ faults_from n outcomes) none)

-- where no statement was skipped in the end, none was in a piece
pub first_before : (old : View) (x : List ℕ) (ps : List Outcome) (new : View) → Fed old x ps new → new.first ≡ None → old.first ≡ None
first_before old x ps new fed none = or_none_left old.first (first_skip ps) (sym fed.first ∙ none)

pub faults_none : (old : View) (x : List ℕ) (ps : List Outcome) (new : View) → Fed old x ps new → new.first ≡ None → (n : ℕ)
    → faults_from n ps ≡ []
faults_none old x ps new fed none n =
    no_faults n ps (none_if_first ps (or_none_right old.first (first_skip ps) (sym fed.first ∙ none)))
