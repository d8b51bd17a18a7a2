-- What a look ahead sees in a text: no mark, or one.
use Rattle.std.proofs.Common.{◌≡◌, ℕ, zero, suc, Bool, true, false, cond, not, List, [], ◌∷◌, ◌++◌, refl, ap, ◌∙◌, inl, inr, append_assoc}
use Rattle.isl_token.specs.TokenView.{Token}
use Rattle.isl_token.specs.declared.token.Kind.{Kind}
use Rattle.isl_token.specs.Token.{is_kind, kind_of}
use Rattle.isl_token.specs.Reading.{head_kind, sees}
use Rattle.isl_token.specs.Spelling.{Grammar}
use Rattle.isl_token.specs.Spelling as s
use Rattle.isl_token.proofs.Taking.{is_kind_true, is_kind_same}
use Rattle.isl_token.proofs.Again.{Stops, Starts}
use Rattle.isl_formula.specs.declared.ahead.Mark.{Mark}
use Rattle.isl_formula.specs.Ahead.{mark_step, holds, begins}

-- no mark, and each bracket closed
pub record Clear (m : Mark) {A : Type 0} (L : Grammar A) : Type 0 where
  pub by : (a : A) (us rest : List Token) (level : ℕ) → L a us → holds m (us ++ rest) level ≡ holds m rest level

-- no mark, up to a bracket that closes one more
pub record Closes (m : Mark) {A : Type 0} (L : Grammar A) : Type 0 where
  pub by : (a : A) (us rest : List Token) (level : ℕ) → L a us → holds m (us ++ rest) (suc level) ≡ holds m rest level
  pub ends : (a : A) (us rest : List Token) → L a us → holds m (us ++ rest) 0 ≡ false

-- a mark comes before a bracket that closes more
pub record Marked (m : Mark) {A : Type 0} (L : Grammar A) : Type 0 where
  pub by : (a : A) (us rest : List Token) (level : ℕ) → L a us → holds m (us ++ rest) level ≡ true

module _ (m : Mark) where
  pub clear_pure : {A : Type 0} (x : A) → Clear m (s.pure x)
  clear_pure x = record { by = λ a us rest level l. rw l.1 refl }

  pub clear_nothing : Clear m s.nothing
  clear_nothing = record { by = λ a us rest level l. rw l refl }

  pub clear_bind : {A B : Type 0} {L : Grammar A} {M : A → Grammar B} → Clear m L → ((a : A) → Clear m (M a)) → Clear m (s.◌>>=◌ L M)
  clear_bind h k = record {
    by = λ b ts rest level l. rw (l.3, append_assoc l.1 l.2 rest) (h.by l.0 l.1 (l.2 ++ rest) level l.4 ∙ (k l.0).by b l.2 rest level l.5);
  }

  pub clear_map : {A B : Type 0} {L : Grammar A} (f : A → B) → Clear m L → Clear m (s.◌>>=◌ L (λ a. s.pure (f a)))
  clear_map f h = clear_bind h (λ a. clear_pure (f a))

  pub clear_either : {A : Type 0} {L M : Grammar A} → Clear m L → Clear m M → Clear m (s.◌∪◌ L M)
  clear_either h k = record { by = λ a us rest level l. elim l [ inl x ↦ h.by a us rest level x | inr y ↦ k.by a us rest level y ] }

  pub clear_many : {A : Type 0} {L : Grammar A} → Clear m L → Clear m (s.many L)
  clear_many {A} {L} h = record { by = go } where
    go : (xs : List A) (us rest : List Token) (level : ℕ) → s.many L xs us → holds m (us ++ rest) level ≡ holds m rest level
    go [] us rest level l = rw l refl
    go (x ∷ xs) us rest level l = rw (l.2, append_assoc l.0 l.1 rest) (h.by x l.0 (l.1 ++ rest) level l.3 ∙ go xs l.1 rest level l.4)

  pub clear_word : (k : Kind) → ((level : ℕ) (go : ℕ → Bool) → mark_step m k level go ≡ go level) → Clear m (s.word k)
  unfolding holds
  clear_word k e = record { by = λ u us rest level l. rw (l.1, l.2) (e level (holds m rest)) }

  pub clear_name : Clear m s.name
  unfolding holds
  clear_name = record { by = λ n us rest level l. rw (l.0, l.1) refl }

  pub clear_number : Clear m s.number
  unfolding holds
  clear_number = record { by = λ n us rest level l. rw l.1 refl }

  pub clear_positive : Clear m s.positive
  clear_positive = record { by = λ n us rest level l. clear_number.by n us rest level l.0 }

  -- a bracket that closes one more
  pub closes_end : {A : Type 0} (k : Kind) → ((level : ℕ) (go : ℕ → Bool) → mark_step m k (suc level) go ≡ go level)
      → ((go : ℕ → Bool) → mark_step m k zero go ≡ false) → (x : A) → Closes m (s.◌>>◌ (s.word k) (s.pure x))
  unfolding holds
  closes_end k one last x = record {
    by = λ a us rest level l. rw (l.3, l.4.1, l.5.1, l.4.2) (one level (holds m rest));
    ends = λ a us rest l. rw (l.3, l.4.1, l.5.1, l.4.2) (last (holds m rest));
  }

  pub closes_bind : {A B : Type 0} {L : Grammar A} {M : A → Grammar B} → Clear m L → ((a : A) → Closes m (M a)) → Closes m (s.◌>>=◌ L M)
  closes_bind h k = record {
    by = λ b ts rest level l. rw (l.3, append_assoc l.1 l.2 rest)
        (h.by l.0 l.1 (l.2 ++ rest) (suc level) l.4 ∙ (k l.0).by b l.2 rest level l.5);
    ends = λ b ts rest l. rw (l.3, append_assoc l.1 l.2 rest) (h.by l.0 l.1 (l.2 ++ rest) 0 l.4 ∙ (k l.0).ends b l.2 rest l.5);
  }

  -- a bracket, and what is in it
  pub clear_brackets : {B : Type 0} (k : Kind) {M : Unit {0} → Grammar B}
      → ((level : ℕ) (go : ℕ → Bool) → mark_step m k level go ≡ go (suc level)) → Closes m (M tt) → Clear m (s.◌>>=◌ (s.word k) M)
  unfolding holds
  clear_brackets k e h = record {
    by = λ b ts rest level l. rw (l.3, l.4.1, l.4.2) (e level (holds m (l.2 ++ rest)) ∙ h.by b l.2 rest level l.5);
  }

  pub marked_word : (k : Kind) → ((level : ℕ) (go : ℕ → Bool) → mark_step m k level go ≡ true) → Marked m (s.word k)
  unfolding holds
  marked_word k e = record { by = λ u us rest level l. rw (l.1, l.2) (e level (holds m rest)) }

  pub marked_bind : {A B : Type 0} {L : Grammar A} {M : A → Grammar B} → Marked m L → Marked m (s.◌>>=◌ L M)
  marked_bind h = record { by = λ b ts rest level l. rw (l.3, append_assoc l.1 l.2 rest) (h.by l.0 l.1 (l.2 ++ rest) level l.4) }

  pub marked_later : {A B : Type 0} {L : Grammar A} {M : A → Grammar B} → Clear m L → ((a : A) → Marked m (M a)) → Marked m (s.◌>>=◌ L M)
  marked_later h k' = record {
    by = λ b ts rest level l. rw (l.3, append_assoc l.1 l.2 rest) (h.by l.0 l.1 (l.2 ++ rest) level l.4 ∙ (k' l.0).by b l.2 rest level l.5);
  }

  pub marked_either : {A : Type 0} {L M : Grammar A} → Marked m L → Marked m M → Marked m (s.◌∪◌ L M)
  marked_either h k' = record { by = λ a us rest level l. elim l [ inl x ↦ h.by a us rest level x | inr y ↦ k'.by a us rest level y ] }

  pub marked_brackets : {B : Type 0} (k : Kind) {M : Unit {0} → Grammar B}
      → ((level : ℕ) (go : ℕ → Bool) → mark_step m k level go ≡ go (suc level)) → Marked m (M tt) → Marked m (s.◌>>=◌ (s.word k) M)
  unfolding holds
  marked_brackets k e h = record {
    by = λ b ts rest level l. rw (l.3, l.4.1, l.4.2) (e level (holds m (l.2 ++ rest)) ∙ h.by b l.2 rest (suc level) l.5);
  }

  -- no bracket of this kind with a mark in it
  abbrev pub plain : Kind → Stops
  plain bracket ts = not (begins bracket m ts)

  chosen_false : (q x : Bool) → (q ≡ true → x ≡ false) → not (cond q x false) ≡ true
  chosen_false true x h = rw (h refl) refl
  chosen_false false x h = refl

  -- brackets with no mark in them
  pub plain_brackets : {B : Type 0} (bracket k : Kind) {M : Unit {0} → Grammar B} → Closes m (M tt)
      → Starts (s.◌>>=◌ (s.word k) M) (plain bracket)
  plain_brackets bracket k h = record {
    by = λ b ts rest l. rw (l.3, l.4.1)
        (chosen_false (is_kind (kind_of l.4.0) bracket) (holds m (l.2 ++ rest) 0) (λ _. h.ends b l.2 rest l.5));
  }

  not_begun : (bracket : Kind) (ts : List Token) → is_kind (head_kind ts) bracket ≡ false → plain bracket ts ≡ true
  not_begun bracket [] e = refl
  not_begun bracket (t ∷ ts) e = rw e refl

  -- another token
  pub plain_other : {A : Type 0} {L : Grammar A} (bracket k : Kind) → Starts L (sees k) → is_kind k bracket ≡ false
      → Starts L (plain bracket)
  plain_other bracket k h e = record {
    by = λ a us rest l. not_begun bracket (us ++ rest)
        (ap (λ x. is_kind x bracket) (is_kind_true (head_kind (us ++ rest)) k (h.by a us rest l)) ∙ e);
  }

  -- brackets with a mark in them
  pub begins_brackets : {B : Type 0} (k : Kind) {M : Unit {0} → Grammar B} → Marked m (M tt) → Starts (s.◌>>=◌ (s.word k) M) (begins k m)
  begins_brackets k h = record { by = λ b ts rest l. rw (l.3, l.4.1, is_kind_same (kind_of l.4.0) k l.4.2) (h.by b l.2 rest 0 l.5) }
