-- public: names of the notation, seen as their bytes. (isl manual, on the notation of sets and relations)
use Rattle.std.specs.Prelude.{ℕ, Bool, not, ◌==◌, ◌&&◌, ◌||◌, List, [], ◌∷◌, drop, slice_index, IsTrue, codes}
use Rattle.std.specs.Char.{is_ascii_alphabetic, is_ascii_alphanumeric}
use Rattle.std.specs.List.{list_all, list_any, prefix_len}
use Rattle.std.specs.Str.{bytes_eq}

abbrev pub Name : Type 0
Name = List ℕ

-- a letter or `_`
abbrev pub begins_name : ℕ → Bool
begins_name b = is_ascii_alphabetic b || b == 95

-- a letter, a digit or `_`
abbrev pub goes_on_name : ℕ → Bool
goes_on_name b = is_ascii_alphanumeric b || b == 95

-- `'`
abbrev pub is_prime : ℕ → Bool
is_prime b = b == 39

-- it begins with a letter or `_`, and what comes after its first letters, digits and `_` is nothing but `'`
abbrev pub is_identifier : Name → Bool
is_identifier name = begins_name (slice_index name 0) && list_all is_prime (drop (prefix_len goes_on_name name) name)

abbrev pub IsIdentifier : Name → Type 0
IsIdentifier name = IsTrue (is_identifier name)

-- the words that have a meaning of their own inside a literal
abbrev pub reserved_words : List Name
reserved_words =
    codes "and" ∷ codes "or" ∷ codes "not" ∷ codes "implies" ∷ codes "exists" ∷ codes "true" ∷ codes "false"
    ∷ codes "mod" ∷ codes "floor" ∷ codes "ceil" ∷ codes "floord" ∷ codes "ceild" ∷ []

abbrev pub is_reserved : Name → Bool
is_reserved name = list_any (bytes_eq name) reserved_words

-- the name may stand inside a literal: it is an identifier and no reserved word
abbrev pub IsLiteralName : Name → Type 0
IsLiteralName name = IsTrue (is_identifier name && not (is_reserved name))
