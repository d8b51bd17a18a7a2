-- Points made of blocks of numbers: the numbers at the places of picked blocks are those of the picked blocks.
use Rattle.std.proofs.Common.{◌≡◌, refl, sym, ap, ap₂, ◌∙◌, ℕ, zero, suc, ◌<◌, ℤ, pos, List, [], ◌∷◌, ◌++◌}
use Rattle.std.proofs.Common.{length, length-append, append_assoc, get_or}
use Rattle.std.specs.List.{range_with_len}
use Rattle.std.proofs.lemmas.List.{ext_get_or, get_or-append-add, get_or-map, get_or_append_left, length-map, map-append}
use Rattle.std.proofs.lemmas.List.FromFn.{length-range_with_len, get_or-range_with_len}
use Rattle.isl_piece.specs.Meet.{numbers_at}
use Rattle.isl_blocks.specs.Blocks.{numbers_of, widths_of, block_places, places_of, block_at, picked}

abbrev number : List ℤ → ℕ → ℤ
number xs k = get_or xs k (pos 0)

-- the numbers of a list that stands between others
pub numbers_between : (front block behind : List ℤ)
    → numbers_at (range_with_len (length front) (length block)) (front ++ (block ++ behind)) ≡ block
numbers_between front block behind = ext_get_or (pos 0) (numbers_at places all) block long (λ i l. at i (rw long at l))
  where
    places : List ℕ
    places = range_with_len (length front) (length block)

    all : List ℤ
    all = front ++ (block ++ behind)

    long : length (numbers_at places all) ≡ length block
    long = length-map places (number all) ∙ length-range_with_len (length front) (length block)

    at : (i : ℕ) → i < length block → number (numbers_at places all) i ≡ number block i
    at i l =
        get_or-map (number all) places i 0 (pos 0) (rw (length-range_with_len (length front) (length block)) l)
        ∙ ap (number all) (get_or-range_with_len (length front) (length block) i 0 l)
        ∙ get_or-append-add front (block ++ behind) i (pos 0)
        ∙ get_or_append_left block behind (pos 0) i l

-- one block
pub numbers_of_block : (front : List ℤ) (blocks : List (List ℤ)) (i : ℕ)
    → numbers_at (block_places (length front) (widths_of blocks) i) (front ++ numbers_of blocks) ≡ block_at blocks i
numbers_of_block front [] i = refl
numbers_of_block front (block ∷ blocks) zero = numbers_between front block (numbers_of blocks)
numbers_of_block front (block ∷ blocks) (suc i) =
    let all = sym (append_assoc front block (numbers_of blocks)) in
    let start = sym (length-append front block) in
    ap₂ (λ s xs. numbers_at (block_places s (widths_of blocks) i) xs) start all ∙ numbers_of_block (front ++ block) blocks i

-- picked blocks
pub numbers_of_picked : (blocks : List (List ℤ)) (picks : List ℕ)
    → numbers_at (places_of (widths_of blocks) picks) (numbers_of blocks) ≡ picked picks blocks
numbers_of_picked blocks [] = refl
numbers_of_picked blocks (i ∷ picks) =
    map-append (number (numbers_of blocks)) (block_places 0 (widths_of blocks) i) (places_of (widths_of blocks) picks)
    ∙ ap₂ (λ xs ys. xs ++ ys) (numbers_of_block [] blocks i) (numbers_of_picked blocks picks)
