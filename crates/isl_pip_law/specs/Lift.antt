-- inner: lists of numbers with one number more, which those before its place and the one behind it tell.
use Rattle.std.specs.Prelude.{◌≡◌, ◌<◌, ◌≤ℤ◌, ℕ, ◌+◌, ℤ, pos, List, get_or, length, take}
use Rattle.std.specs.List.{insert, remove}

-- behind the same numbers before the place, it does not fall where the one at the place rises
pub record IsTold (w place : ℕ) (Told : List ℤ → ℤ → Type 0) : Type 0 where
  pub some : (us : List ℤ) → length us ≡ w → (z : ℤ) × Told us z
  pub rises : (us ws : List ℤ) (y z : ℤ) → length us ≡ w → length ws ≡ w → take place us ≡ take place ws
      → get_or us place (pos 0) ≤ℤ get_or ws place (pos 0) → Told us y → Told ws z → y ≤ℤ z

-- the lists of the one are those of the other with the number that is told put in
pub record AreLifted (w place : ℕ) (Told : List ℤ → ℤ → Type 0) (P Lifted : List ℤ → Type 0) : Type 0 where
  pub inside : place < w
  pub long : (us : List ℤ) → P us → length us ≡ w
  pub longer : (xs : List ℤ) → Lifted xs → length xs ≡ w + 1
  pub put : (us : List ℤ) (z : ℤ) → P us → Told us z → Lifted (insert us place z)
  pub taken : (xs : List ℤ) → Lifted xs → P (remove xs place)
  pub told : (xs : List ℤ) → Lifted xs → Told (remove xs place) (get_or xs place (pos 0))
