-- public: a script is a list of statements: the parts before each `;` outside of comments and brackets (the iscc chapter of the barvinok
-- manual; that brackets of all kinds are counted as one, and that a closing one too many is passed over, is a rule of this project). What
-- follows the last of them is the rest.
use Rattle.std.specs.Prelude.{◌≡◌, ℕ, ◌+◌, ◌-◌, ◌^◌, Bool, false, IsTrue, not, ◌&&◌, ◌||◌, if◌then◌else◌, ◌==◌, List, [], ◌∷◌, ◌++◌, All, fold, take}

abbrev pub Bytes : Type 0
Bytes = List ℕ

-- space, tab, carriage return and line feed
abbrev pub is_blank : ℕ → Bool
is_blank b = b == 32 || b == 9 || b == 13 || b == 10

-- `(`, `[` and `{`
abbrev pub opens : ℕ → Bool
opens b = b == 40 || b == 91 || b == 123

-- `)`, `]` and `}`
abbrev pub closes : ℕ → Bool
closes b = b == 41 || b == 93 || b == 125

-- A comment begins with a `#` and ends before the next line feed. A byte is in one if it is no line feed, and either
-- the byte before it is in one or it is a `#` itself.
abbrev pub is_commented_after : Bool → ℕ → Bool
is_commented_after before b = not (b == 10) && (before || b == 35)

-- Outside of comments an opening bracket adds one to the depth, and a closing one takes one away if any is open.
abbrev pub depth_after : ℕ → ℕ → ℕ
depth_after depth b = if opens b then depth + 1 else (if closes b then depth - 1 else depth)

-- what stands behind some bytes: a comment or none, and how many brackets are open
pub record Place : Type 0 where
  pub in_comment : Bool
  pub depth : ℕ

abbrev pub place_after : Place → ℕ → Place
place_after place b =
    let commented = is_commented_after place.in_comment b in
    record { in_comment = commented; depth = if commented then place.depth else depth_after place.depth b }

-- the place behind a part of a script, a part which begins at the script's start or behind a `;` that ends a statement
unfoldable pub place_of : Bytes → Place
place_of part = fold place_after (record { in_comment = false; depth = 0 }) part

-- the byte b that follows a part is in a comment
abbrev pub is_commented : Bytes → ℕ → Bool
is_commented part b = is_commented_after (place_of part).in_comment b

-- the byte b that follows a part is a `;` that ends a statement
abbrev pub ends : Bytes → ℕ → Bool
ends part b = b == 59 && not (is_commented part b) && (place_of part).depth == 0

-- P holds of each byte of a part and of what stands before it there
abbrev pub EachByte : (Bytes → ℕ → Type 0) → Bytes → Type 0
EachByte P part = (front : Bytes) (b : ℕ) (behind : Bytes) → part ≡ front ++ b ∷ behind → P front b

-- no byte of a part ends a statement
pub record IsOpen (part : Bytes) : Type 0 where
  pub none_ends : EachByte (λ front b. ends front b ≡ false) part

-- each byte of a part is a blank or in a comment
pub record IsBlank (part : Bytes) : Type 0 where
  pub each : EachByte (λ front b. IsTrue (is_commented front b || is_blank b)) part

-- a part in which no statement ends, and which a `;` right behind it ends
pub record IsStatement (part : Bytes) : Type 0 where
  pub open_part : IsOpen part
  pub ended : IsTrue (ends part 59)

-- statements, each with the `;` that ends it
abbrev pub with_ends : List Bytes → Bytes
with_ends [] = []
with_ends (part ∷ parts) = part ++ 59 ∷ with_ends parts

-- a script is these statements, each with its `;`, and then the rest, in which none ends
pub record IsCut (script : Bytes) (parts : List Bytes) (rest : Bytes) : Type 0 where
  pub whole : script ≡ with_ends parts ++ rest
  pub statements : All IsStatement parts
  pub open_rest : IsOpen rest

-- The statements of a script, and its rest: what `IsCut` says of them, and of no others. Here `part` stands before the bytes.
unfoldable pub statements_from : Bytes → Bytes → List Bytes
statements_from part [] = []
statements_from part (b ∷ bytes) = if ends part b then part ∷ statements_from [] bytes else statements_from (part ++ b ∷ []) bytes

unfoldable pub rest_from : Bytes → Bytes → Bytes
rest_from part [] = part
rest_from part (b ∷ bytes) = if ends part b then rest_from [] bytes else rest_from (part ++ b ∷ []) bytes

abbrev pub statements : Bytes → List Bytes
statements bytes = statements_from [] bytes

abbrev pub rest_of : Bytes → Bytes
rest_of bytes = rest_from [] bytes

-- the part that comes next: the first of these statements, or the rest where there is none
abbrev pub next_part : List Bytes → Bytes → Bytes
next_part [] rest = rest
next_part (part ∷ parts) rest = part

-- the bytes of a script that belong to statements or to the rest: no more than the first 2^30
abbrev pub readable : Bytes → Bytes
readable script = take (2 ^ 30) script
