-- Two lists of groups put together, one group after another.
use Rattle.std.proofs.Common.{◌≡◌, ◌∙◌, ◌⊎◌, inl, inr, List, [], ◌∷◌, ◌++◌, length, reverse}
use Rattle.std.proofs.Common.{ap, sym, subst, arith, Any}
use Rattle.std.specs.Prelude.{◌↔◌, string_bytes}
use Rattle.std.specs.declared.cmp.Ordering.TheVariants.{Less, Equal, Greater}
use Rattle.std.proofs.lemmas.List.{append_assoc, reverse-append}
use Rattle.std.proofs.lemmas.List.Elements.{All-head}
use Rattle.isl_math.proofs.ListLaws.{Any-cases, Any-first, Any-later, Any-left, Any-none, Any-one, Any-parts, Any-right}
use Rattle.isl_space.specs.Element.{Element}
use Rattle.isl_space.specs.Space.{space_form_of}
use Rattle.isl_scan.specs.declared.group.Group.{Group}
use Rattle.isl_scan.specs.Groups.{space_in, title_cmp, AreGroups, AreLeft, AreMerged, HasIn, IsGroup, IsJoined}
use Rattle.isl_scan.proofs.GroupLaws.{after_group, all_after, all_before, before_group, from_group, groups_first, groups_last, joined_group}
use Rattle.isl_scan.proofs.GroupLaws.{joined_has, length_of, length_parts, put_between, put_in_place, same_group, to_group}
use Rattle.isl_scan.proofs.MergeLaws.{length_merged}

pub reverse_push : (xs : List Group) (y : Group) → reverse (xs ++ y ∷ []) ≡ y ∷ reverse xs
reverse_push xs y = reverse-append xs (y ∷ [])

-- ---- two lists of groups put together
any_moved : (P : Group → Type 0) (xs ys : List Group) (y : Group) → (Any P (xs ++ y ∷ []) ⊎ Any P ys) ↔ (Any P xs ⊎ Any P (y ∷ ys))
any_moved P xs ys y = (
  (λ a. elim a [
    | inl b ↦ elim (Any-parts P xs (y ∷ []) b) [ inl c ↦ inl c | inr c ↦ inr (Any-first P y ys (Any-one P y c)) ]
    | inr b ↦ inr (Any-later P y ys b)
  ]),
  (λ a. elim a [
    | inl b ↦ inl (Any-left P xs (y ∷ []) b)
    | inr b ↦ elim (Any-cases P y ys b) [ inl c ↦ inl (Any-right P xs (y ∷ []) (Any-first P y [] c)) | inr c ↦ inr c ]
  ]),
)

first_moved : (A B C D S : Type 0) → (A ⊎ B) ↔ (C ⊎ D) → (A ⊎ (B ⊎ S)) ↔ (C ⊎ (D ⊎ S))
first_moved A B C D S h = (half A B C D h.0, half C D A B h.1)
  where
    half : (A B C D : Type 0) → (A ⊎ B → C ⊎ D) → A ⊎ (B ⊎ S) → C ⊎ (D ⊎ S)
    half A B C D f (inl a) = elim (f (inl a)) [ inl c ↦ inl c | inr d ↦ inr (inl d) ]
    half A B C D f (inr (inl b)) = elim (f (inr b)) [ inl c ↦ inl c | inr d ↦ inr (inl d) ]
    half A B C D f (inr (inr s)) = inr (inr s)

second_moved : (A B C D F : Type 0) → (A ⊎ B) ↔ (C ⊎ D) → (A ⊎ (F ⊎ B)) ↔ (C ⊎ (F ⊎ D))
second_moved A B C D F h = (half A B C D h.0, half C D A B h.1)
  where
    half : (A B C D : Type 0) → (A ⊎ B → C ⊎ D) → A ⊎ (F ⊎ B) → C ⊎ (F ⊎ D)
    half A B C D f (inl a) = elim (f (inl a)) [ inl c ↦ inl c | inr d ↦ inr (inr d) ]
    half A B C D f (inr (inl e)) = inr (inl e)
    half A B C D f (inr (inr b)) = elim (f (inr b)) [ inl c ↦ inl c | inr d ↦ inr (inr d) ]

-- the first group of the first list was moved, which comes before those of the second
took_first : (merged firsts seconds : List Group) (f : Group) → AreGroups (merged ++ f ∷ firsts) → AreGroups (merged ++ f ∷ seconds)
    → AreLeft merged (f ∷ firsts) seconds (merged ++ f ∷ []) firsts seconds
took_first merged firsts seconds f a b = record {
  before_firsts = subst AreGroups (sym (append_assoc merged (f ∷ []) firsts)) a;
  before_seconds = subst AreGroups (sym (append_assoc merged (f ∷ []) seconds)) b;
  exact = λ e. first_moved (Any (HasIn e) (merged ++ f ∷ [])) (Any (HasIn e) firsts) (Any (HasIn e) merged) (Any (HasIn e) (f ∷ firsts))
      (Any (HasIn e) seconds) (any_moved (HasIn e) merged firsts f);
  count = let n = length_parts merged (f ∷ []) in let o = length_of f [] in let p = length_of f firsts in omega (arith, n, o, p);
}

took_second : (merged firsts seconds : List Group) (s : Group) → AreGroups (merged ++ s ∷ firsts) → AreGroups (merged ++ s ∷ seconds)
    → AreLeft merged firsts (s ∷ seconds) (merged ++ s ∷ []) firsts seconds
took_second merged firsts seconds s a b = record {
  before_firsts = subst AreGroups (sym (append_assoc merged (s ∷ []) firsts)) a;
  before_seconds = subst AreGroups (sym (append_assoc merged (s ∷ []) seconds)) b;
  exact = λ e. second_moved (Any (HasIn e) (merged ++ s ∷ [])) (Any (HasIn e) seconds) (Any (HasIn e) merged)
      (Any (HasIn e) (s ∷ seconds)) (Any (HasIn e) firsts) (any_moved (HasIn e) merged seconds s);
  count = let n = length_parts merged (s ∷ []) in let o = length_of s [] in let p = length_of s seconds in omega (arith, n, o, p);
}

module _ (merged firsts seconds : List Group) where
  -- no group of the second list is left
  pub next_alone : (f : Group) → AreGroups (merged ++ f ∷ firsts) → AreLeft merged (f ∷ firsts) [] (merged ++ f ∷ []) firsts []
  next_alone f a =
      took_first merged firsts [] f a (groups_first (merged ++ f ∷ []) firsts (subst AreGroups (sym (append_assoc merged (f ∷ []) firsts)) a))

  module _ (f s : Group) (a : AreGroups (merged ++ f ∷ firsts)) (b : AreGroups (merged ++ s ∷ seconds)) where
    pub is_first : IsGroup f
    is_first = All-head IsGroup f firsts (groups_last merged (f ∷ firsts) a).sound

    pub is_second : IsGroup s
    is_second = All-head IsGroup s seconds (groups_last merged (s ∷ seconds) b).sound

    pub next_first : title_cmp f (string_bytes s.title) ≡ Less
        → AreLeft merged (f ∷ firsts) (s ∷ seconds) (merged ++ f ∷ []) firsts (s ∷ seconds)
    next_first less =
        took_first merged firsts (s ∷ seconds) f a (put_between merged (s ∷ seconds) f is_first b (all_before merged firsts f a)
        (all_after f s seconds (before_group s is_second f is_first less) (groups_last merged (s ∷ seconds) b)))

    pub next_second : title_cmp f (string_bytes s.title) ≡ Greater
        → AreLeft merged (f ∷ firsts) (s ∷ seconds) (merged ++ s ∷ []) (f ∷ firsts) seconds
    next_second greater =
        took_second merged (f ∷ firsts) seconds s (put_between merged (f ∷ firsts) s is_second a (all_before merged seconds s b)
        (all_after s f firsts (after_group s is_second f is_first greater) (groups_last merged (f ∷ firsts) a))) b

    pub same_spaces : title_cmp f (string_bytes s.title) ≡ Equal → space_in f ≡ space_in s
    same_spaces equal = same_group s is_second f is_first equal

    pub next_both : (m : Group) → space_in f ≡ space_in s → IsJoined f s m
        → AreLeft merged (f ∷ firsts) (s ∷ seconds) (merged ++ m ∷ []) firsts seconds
    next_both m same joined = record {
      before_firsts = subst AreGroups (sym (append_assoc merged (m ∷ []) firsts)) (put_in_place merged firsts f m own (sym space) a);
      before_seconds = subst AreGroups (sym (append_assoc merged (m ∷ []) seconds))
          (put_in_place merged seconds s m own (sym same ∙ sym space) b);
      exact = λ e. (taken e, given e);
      count =
          let n = length_parts merged (m ∷ []) in let o = length_of m [] in let p = length_of f firsts in let q = length_of s seconds in
          let r = ap length joined.points in let most = length_merged f.points s.points in
          omega (arith, n, o, p, q, r, most);
    }
      where
        space : space_in m ≡ space_in f
        space = ap space_form_of joined.space

        own : IsGroup m
        own = joined_group s is_second f m is_first same joined

        taken : (e : Element) → Any (HasIn e) (merged ++ m ∷ []) ⊎ (Any (HasIn e) firsts ⊎ Any (HasIn e) seconds)
            → Any (HasIn e) merged ⊎ (Any (HasIn e) (f ∷ firsts) ⊎ Any (HasIn e) (s ∷ seconds))
        taken e (inl h) = elim (Any-parts (HasIn e) merged (m ∷ []) h) [
          | inl old ↦ inl old
          | inr new ↦ elim ((joined_has s is_second f m same joined e).0 (Any-one (HasIn e) m new)) [
            | inl of_f ↦ inr (inl (Any-first (HasIn e) f firsts of_f))
            | inr of_s ↦ inr (inr (Any-first (HasIn e) s seconds of_s))
          ]
        ]
        taken e (inr (inl h)) = inr (inl (Any-later (HasIn e) f firsts h))
        taken e (inr (inr h)) = inr (inr (Any-later (HasIn e) s seconds h))

        there : (e : Element) → HasIn e f ⊎ HasIn e s → Any (HasIn e) (merged ++ m ∷ [])
        there e h = Any-right (HasIn e) merged (m ∷ []) (Any-first (HasIn e) m [] ((joined_has s is_second f m same joined e).1 h))

        given : (e : Element) → Any (HasIn e) merged ⊎ (Any (HasIn e) (f ∷ firsts) ⊎ Any (HasIn e) (s ∷ seconds))
            → Any (HasIn e) (merged ++ m ∷ []) ⊎ (Any (HasIn e) firsts ⊎ Any (HasIn e) seconds)
        given e (inl h) = inl (Any-left (HasIn e) merged (m ∷ []) h)
        given e (inr (inl h)) = elim (Any-cases (HasIn e) f firsts h) [ inl own ↦ inl (there e (inl own)) | inr later ↦ inr (inl later) ]
        given e (inr (inr h)) = elim (Any-cases (HasIn e) s seconds h) [ inl own ↦ inl (there e (inr own)) | inr later ↦ inr (inr later) ]

-- ---- from none on to the end
pub left_all : (firsts seconds : List Group) → AreGroups firsts → AreGroups seconds → AreLeft [] firsts seconds [] firsts seconds
left_all firsts seconds a b = record {
  before_firsts = a;
  before_seconds = b;
  exact = λ e. ((λ h. h), (λ h. h));
  count = omega arith;
}

pub left_then : (m0 f0 s0 m1 f1 s1 m2 f2 s2 : List Group) → AreLeft m0 f0 s0 m1 f1 s1 → AreLeft m1 f1 s1 m2 f2 s2
    → AreLeft m0 f0 s0 m2 f2 s2
left_then m0 f0 s0 m1 f1 s1 m2 f2 s2 a b = record {
  before_firsts = b.before_firsts;
  before_seconds = b.before_seconds;
  exact = λ e. ((λ h. (a.exact e).0 ((b.exact e).0 h)), (λ h. (b.exact e).1 ((a.exact e).1 h)));
  count = let m = a.count in let n = b.count in omega (arith, m, n);
}

-- the same lists by other names
pub left_is : (merged firsts seconds next_merged next_firsts next_seconds s m f t : List Group) → s ≡ seconds → m ≡ next_merged
    → f ≡ next_firsts → t ≡ next_seconds → AreLeft merged firsts seconds next_merged next_firsts next_seconds
    → AreLeft merged firsts s m f t
left_is merged firsts seconds next_merged next_firsts next_seconds s m f t of_s of_m of_f of_t left =
    subst (λ (l : List Group). AreLeft merged firsts s l f t) (sym of_m)
    (subst (λ (l : List Group). AreLeft merged firsts s next_merged l t) (sym of_f)
    (subst (λ (l : List Group). AreLeft merged firsts s next_merged next_firsts l) (sym of_t)
    (subst (λ (l : List Group). AreLeft merged firsts l next_merged next_firsts next_seconds) (sym of_s) left)))

pub all_merged : (firsts seconds merged rest : List Group) → AreLeft [] firsts seconds merged [] rest
    → AreMerged firsts seconds (merged ++ rest)
all_merged firsts seconds merged rest left = record {
  sound = left.before_seconds;
  exact = λ e. (
    (λ c. elim ((left.exact e).0 (elim (Any-parts (HasIn e) merged rest (to_group (merged ++ rest) e c)) [
      | inl a ↦ inl a
      | inr b ↦ inr (inr b)
    ])) [
      | inl none ↦ absurd (Any-none (HasIn e) none)
      | inr (inl a) ↦ inl (from_group firsts e a)
      | inr (inr b) ↦ inr (from_group seconds e b)
    ]),
    (λ c. from_group (merged ++ rest) e (elim ((left.exact e).1 (inr (elim c [
      | inl a ↦ inl (to_group firsts e a)
      | inr b ↦ inr (to_group seconds e b)
    ]))) [
      | inl a ↦ Any-left (HasIn e) merged rest a
      | inr (inl none) ↦ absurd (Any-none (HasIn e) none)
      | inr (inr b) ↦ Any-right (HasIn e) merged rest b
    ])),
  );
  count = let n = length_parts merged rest in let m = left.count in omega (arith, n, m);
}
