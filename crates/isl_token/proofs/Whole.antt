-- Lists of tokens as a whole: both laws, and that tokens spell at most one value.
use Rattle.std.proofs.Common.{◌≡◌, ◌≢◌, ℕ, suc, ◌<◌, true, List, [], ◌++◌, length, Some, Ok, Err, refl, sym, ap, ◌∙◌, inl, inr, arith}
use Rattle.std.proofs.lemmas.List.{append-nil, nil_from_length}
use Rattle.isl_token.specs.TokenView.{Token}
use Rattle.isl_token.specs.declared.fault.Fault.{Fault}
use Rattle.isl_token.specs.declared.fault.Fault.TheVariants.{NoMemory, Syntax}
use Rattle.isl_token.specs.Reading.{Parser, Reads}
use Rattle.isl_token.specs.Spelling.{Grammar, Spells, SpellsOne, Gives}
use Rattle.isl_token.proofs.Taking.{Takes, same_read}
use Rattle.isl_token.proofs.Again.{Again, Stops}

module _ {A : Type 0} (p : ℕ → Parser A) (L : ℕ → Grammar A) (stops : Stops) (taken : (n : ℕ) → Takes (p n) (L n))
    (again : (n depth : ℕ) → Again n (p n) (L depth) stops) (ends : stops [] ≡ true) where
  read_whole : (n : ℕ) (a : A) (ts : List Token) → length ts < n → Spells L a ts → p n ts ≡ Some (a, [])
  read_whole n a ts lt s = ap (p n) (sym (append-nil ts)) ∙ (again n s.depth).by a ts [] s.spelled lt ends

  pub spells_one : SpellsOne L
  spells_one ts a b x y =
      let n = suc (length ts) in
      (same_read a b [] [] (sym (read_whole n a ts (omega arith) x) ∙ read_whole n b ts (omega arith) y)).0

  -- what a call ensures of its start says something of the tokens
  module _ (n : ℕ) (start ts rest : List Token) (same : start ≡ ts) (enough : length ts < n) where
    reads_only : (a b : A) → p n start ≡ Some (b, rest) → Spells L a ts → (b ≡ a) × (rest ≡ [])
    reads_only a b e s = same_read b a rest [] (sym e ∙ ap (p n) same ∙ read_whole n a ts enough s)

    pub found_whole : (a : A) → p n start ≡ Some (a, rest) → length rest ≡ 0 → Spells L a ts
    found_whole a e over =
        let c = (taken n start).by a rest e in
        let whole : ts ≡ c.0 = sym same ∙ c.1 ∙ ap (λ (l : List Token). c.0 ++ l) (nil_from_length rest over) ∙ append-nil c.0 in
        record { depth = n; spelled = rw whole c.2 }

    pub gives_only : (a b : A) → p n start ≡ Some (b, rest) → Spells L a ts → Gives (Ok b) a
    gives_only a b e s = inl (ap (λ x. Ok x) (reads_only a b e s).0)

    pub over_only : (a b : A) → p n start ≡ Some (b, rest) → length rest ≢ 0 → Spells L a ts → Gives (Err Syntax) a
    over_only a b e some s = absurd (some (ap length (reads_only a b e s).1))

    pub fails_only : (a : A) (e : Fault) → Reads (p n start) (Err e) rest → Spells L a ts → Gives (Err e) a
    fails_only a NoMemory h s = inr refl
    fails_only a Syntax h s = let e : p n start ≡ Some (a, []) = ap (p n) same ∙ read_whole n a ts enough s in absurd cc
