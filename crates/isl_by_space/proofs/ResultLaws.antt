-- What is so of an answer, where there is one.
use Rattle.std.proofs.Common.{◌≡◌, refl, subst, IfOk, Ok, Err, Result}

pub ok_case : {A E : Type 0} (r : Result A E) (Q : A → Type 0) → ((x : A) → r ≡ Ok x → Q x) → IfOk r Q
ok_case (Ok x) Q f = f x refl
ok_case (Err e) Q f = tt

pub ok_has : {A E : Type 0} (r : Result A E) (x : A) (P : A → Type 0) → r ≡ Ok x → IfOk r P → P x
ok_has r x P is h = subst (λ q. IfOk q P) is h
