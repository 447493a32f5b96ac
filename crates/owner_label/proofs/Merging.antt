-- The members that stand in just one of two ascending lists, put behind the list that has the first.
use mathlib.Core.List.{[], ◌∷◌}
use Rattle.std.proofs.Common.{◌≡◌, refl, sym, ◌∙◌, ap, subst, ℕ, suc, ◌+◌, ◌≤◌, ◌<◌, ◌==◌, Bool, true, false, not, ◌||◌, cond, ltb, List, ◌++◌, length, get_or, drop, take, add-one, append_assoc, inl, inr, ◌⊎◌, arith}
use Rattle.std.specs.Prelude.{slice_get, slice_range}
use Rattle.std.proofs.Math.Seq.{drop-cons}
use Rattle.std.proofs.lemmas.Bool.{eqb-true, lt-ltb, le-ltb, cases_order, cases_Bool, or_left, cond-true, cond-false}
use Rattle.std.proofs.lemmas.List.{append-nil, length_push, length-append, get_or_read, get_or_append_left, take_more, drop-append-le, length-map, length-take-le, take_all, take-take, take-append-le, get_or-take, get_or-map, drop-map, map_more, drop_all}
use Rattle.std.proofs.lemmas.Option.{slice_get-get_or}
use Rattle.std.proofs.lemmas.Slice.{between_is}
use Rattle.arrangement.specs.declared.odd_use.OddUse.{OddUse}
use Rattle.owner_label.specs.declared.toggle.Span.{Span}
use Rattle.owner_label.specs.Members.{has, IsFrom, differs, IsToggled, IsToggledOnto, member_of, members_at}
use Rattle.owner_label.proofs.Ascending.{from_weaker, below_from, has_skip}

-- ---- merging

step : ℕ → (List ℕ → List ℕ) → List ℕ → List ℕ → List ℕ
step x rest xs [] = x ∷ xs
step x rest xs (y ∷ ys) = cond (ltb x y) (x ∷ rest (y ∷ ys)) (cond (ltb y x) (y ∷ step x rest xs ys) (rest ys))

pub merged : List ℕ → List ℕ → List ℕ
merged [] ys = ys
merged (x ∷ xs) ys = step x (λ zs. merged xs zs) xs ys

pub merged-nil : (xs : List ℕ) → merged xs [] ≡ xs
unfolding merged step
merged-nil [] = refl
merged-nil (x ∷ xs) = refl

pub merged-less : (x y : ℕ) (xs ys : List ℕ) → x < y → merged (x ∷ xs) (y ∷ ys) ≡ x ∷ merged xs (y ∷ ys)
unfolding merged step
merged-less x y xs ys h = cond-true (ltb x y) _ _ (lt-ltb x y h)

pub merged-more : (x y : ℕ) (xs ys : List ℕ) → y < x → merged (x ∷ xs) (y ∷ ys) ≡ y ∷ merged (x ∷ xs) ys
unfolding merged step
merged-more x y xs ys h = cond-false (ltb x y) _ _ (le-ltb x y (omega arith)) ∙ cond-true (ltb y x) _ _ (lt-ltb y x h)

pub merged-same : (x y : ℕ) (xs ys : List ℕ) → x ≡ y → merged (x ∷ xs) (y ∷ ys) ≡ merged xs ys
unfolding merged step
merged-same x y xs ys h = cond-false (ltb x y) _ _ (le-ltb x y (omega arith)) ∙ cond-false (ltb y x) _ _ (le-ltb y x (omega arith))

-- ---- what is merged has what just one of the lists has

record IsMerged (n : ℕ) (xs ys zs : List ℕ) : Type 0 where
  from : IsFrom n zs
  exact : (m : ℕ) → has zs m ≡ differs (has xs m) (has ys m)

differs-true : (b : Bool) → differs b true ≡ not b
differs-true true = refl
differs-true false = refl

differs-false : (b : Bool) → differs b false ≡ b
differs-false true = refl
differs-false false = refl

first_here : (a b : Bool) → a ≡ true → (a || b) ≡ true
first_here a b h = or_left a b h

-- x comes first, and the other list has it not
put_left : (x : ℕ) (xs ys zs : List ℕ) (m : ℕ) → IsFrom (suc x) ys → has zs m ≡ differs (has xs m) (has ys m) → has (x ∷ zs) m ≡ differs (has (x ∷ xs) m) (has ys m)
put_left x xs ys zs m from rest =
    elim (cases_Bool (x == m)) [
      | inl is ↦ (
          let none = below_from (suc x) m ys from (omega (arith, eqb-true x m is)) in
          or_left (x == m) (has zs m) is ∙ sym (ap (λ t. differs t (has ys m)) (or_left (x == m) (has xs m) is) ∙ ap (λ t. not t) none)
          )
      | inr other ↦ has_skip x m zs other ∙ rest ∙ ap (λ t. differs t (has ys m)) (sym (has_skip x m xs other))
    ]

put_right : (y : ℕ) (xs ys zs : List ℕ) (m : ℕ) → IsFrom (suc y) xs → has zs m ≡ differs (has xs m) (has ys m) → has (y ∷ zs) m ≡ differs (has xs m) (has (y ∷ ys) m)
put_right y xs ys zs m from rest =
    elim (cases_Bool (y == m)) [
      | inl is ↦ (
          let none = below_from (suc y) m xs from (omega (arith, eqb-true y m is)) in
          or_left (y == m) (has zs m) is ∙ sym (ap (λ t. differs (has xs m) t) (or_left (y == m) (has ys m) is) ∙ ap (λ t. differs t true) none)
          )
      | inr other ↦ has_skip y m zs other ∙ rest ∙ ap (λ t. differs (has xs m) t) (sym (has_skip y m ys other))
    ]

put_none : (x y : ℕ) (xs ys zs : List ℕ) (m : ℕ) → x ≡ y → IsFrom (suc x) xs → IsFrom (suc y) ys → has zs m ≡ differs (has xs m) (has ys m) → has zs m ≡ differs (has (x ∷ xs) m) (has (y ∷ ys) m)
put_none x y xs ys zs m same from_x from_y rest =
    elim (cases_Bool (x == m)) [
      | inl is ↦ (
          let none_x = below_from (suc x) m xs from_x (omega (arith, eqb-true x m is)) in
          let none_y = below_from (suc y) m ys from_y (omega (arith, eqb-true x m is)) in
          let also : (y == m) ≡ true = ap (λ t. t == m) (sym same) ∙ is in
          rest ∙ ap (λ t. differs t (has ys m)) none_x ∙ none_y
          ∙ sym (ap (λ t. differs t (has (y ∷ ys) m)) (or_left (x == m) (has xs m) is) ∙ ap (λ t. not t) (or_left (y == m) (has ys m) also))
          )
      | inr other ↦ (
          let also : (y == m) ≡ false = ap (λ t. t == m) (sym same) ∙ other in
          rest ∙ ap (λ t. differs t (has ys m)) (sym (has_skip x m xs other)) ∙ ap (λ t. differs (has (x ∷ xs) m) t) (sym (has_skip y m ys also))
          )
    ]

moved : (n : ℕ) (xs ys zs zs' : List ℕ) → zs ≡ zs' → IsMerged n xs ys zs' → IsMerged n xs ys zs
moved n xs ys zs zs' e h = subst (λ t. IsMerged n xs ys t) (sym e) h

merged_is : (xs ys : List ℕ) (n : ℕ) → IsFrom n xs → IsFrom n ys → IsMerged n xs ys (merged xs ys)
unfolding merged
merged_is [] ys n f g = record { from = g; exact = λ m. refl }
merged_is (x ∷ xs) ys n f g = inner (λ zs k f' g'. merged_is xs zs k f' g') ys n f g
  where
    inner : ((zs : List ℕ) (k : ℕ) → IsFrom k xs → IsFrom k zs → IsMerged k xs zs (merged xs zs)) → (ys : List ℕ) (n : ℕ) → IsFrom n (x ∷ xs) → IsFrom n ys → IsMerged n (x ∷ xs) ys (merged (x ∷ xs) ys)
    inner rest [] n f g = moved n (x ∷ xs) [] (merged (x ∷ xs) []) (x ∷ xs) (merged-nil (x ∷ xs)) (record { from = f; exact = λ m. sym (differs-false (has (x ∷ xs) m)) })
    inner rest (y ∷ ys) n f g =
        elim (cases_order x y) [
          | inl same ↦ (
              let here : IsFrom (suc x) ys = subst (λ t. IsFrom (suc t) ys) (sym same) g.1 in
              let less = rest ys (suc x) f.1 here in
              moved n (x ∷ xs) (y ∷ ys) _ (merged xs ys) (merged-same x y xs ys same) (record {
                from = from_weaker n (suc x) (merged xs ys) (omega (arith, f.0)) less.from;
                exact = λ m. put_none x y xs ys (merged xs ys) m same f.1 g.1 (less.exact m);
              })
              )
          | inr apart ↦ elim apart [
            | inl less ↦ (
                let after : IsFrom (suc x) (y ∷ ys) = (omega arith, g.1) in
                let tail = rest (y ∷ ys) (suc x) f.1 after in
                moved n (x ∷ xs) (y ∷ ys) _ (x ∷ merged xs (y ∷ ys)) (merged-less x y xs ys less) (record {
                  from = (f.0, tail.from);
                  exact = λ m. put_left x xs (y ∷ ys) (merged xs (y ∷ ys)) m after (tail.exact m);
                })
                )
            | inr more ↦ (
                let after : IsFrom (suc y) (x ∷ xs) = (omega arith, f.1) in
                let tail = inner rest ys (suc y) after g.1 in
                moved n (x ∷ xs) (y ∷ ys) _ (y ∷ merged (x ∷ xs) ys) (merged-more x y xs ys more) (record {
                  from = (g.0, tail.from);
                  exact = λ m. put_right y (x ∷ xs) ys (merged (x ∷ xs) ys) m after (tail.exact m);
                })
                )
          ]
        ]

pub merged_toggled : (xs ys : List ℕ) → IsFrom 0 xs → IsFrom 0 ys → IsToggled xs ys (merged xs ys)
merged_toggled xs ys f g = let is = merged_is xs ys 0 f g in record { ascending = is.from; exact = is.exact }

-- ---- what is left of two lists

-- what is left to merge comes behind what is merged
abbrev pub IsStillMerging : List ℕ → List ℕ → List ℕ → List ℕ → ℕ → ℕ → Type 0
IsStillMerging xs ys whole zs i j = zs ++ merged (drop i xs) (drop j ys) ≡ whole

module _ (xs ys whole zs : List ℕ) (i j : ℕ) (in_x : i < length xs) (in_y : j < length ys) (left : IsStillMerging xs ys whole zs i j) where
  abbrev x : ℕ
  x = get_or xs i 0

  abbrev y : ℕ
  y = get_or ys j 0

  front_x : drop i xs ≡ x ∷ drop (i + 1) xs
  front_x = rw add-one (drop-cons xs i 0 in_x)

  front_y : drop j ys ≡ y ∷ drop (j + 1) ys
  front_y = rw add-one (drop-cons ys j 0 in_y)

  both : merged (drop i xs) (drop j ys) ≡ merged (x ∷ drop (i + 1) xs) (y ∷ drop (j + 1) ys)
  both = λ t. merged (front_x t) (front_y t)

  left-less : (after : List ℕ) → after ≡ zs ++ x ∷ [] → x < y → IsStillMerging xs ys whole after (i + 1) j
  left-less after pushed h =
      let one = both ∙ merged-less x y (drop (i + 1) xs) (drop (j + 1) ys) h ∙ ap (λ t. x ∷ merged (drop (i + 1) xs) t) (sym front_y) in
      ap (λ t. t ++ merged (drop (i + 1) xs) (drop j ys)) pushed
      ∙ append_assoc zs (x ∷ []) (merged (drop (i + 1) xs) (drop j ys)) ∙ ap (λ t. zs ++ t) (sym one) ∙ left

  left-more : (after : List ℕ) → after ≡ zs ++ y ∷ [] → y < x → IsStillMerging xs ys whole after i (j + 1)
  left-more after pushed h =
      let one = both ∙ merged-more x y (drop (i + 1) xs) (drop (j + 1) ys) h ∙ ap (λ t. y ∷ merged t (drop (j + 1) ys)) (sym front_x) in
      ap (λ t. t ++ merged (drop i xs) (drop (j + 1) ys)) pushed
      ∙ append_assoc zs (y ∷ []) (merged (drop i xs) (drop (j + 1) ys)) ∙ ap (λ t. zs ++ t) (sym one) ∙ left

  left-same : x ≡ y → IsStillMerging xs ys whole zs (i + 1) (j + 1)
  left-same h =
      let one = both ∙ merged-same x y (drop (i + 1) xs) (drop (j + 1) ys) h in
      ap (λ t. zs ++ t) (sym one) ∙ left

-- at the end of one list the rest of both comes behind
left-end : (xs ys whole zs first all : List ℕ) (i j : ℕ) → IsStillMerging xs ys whole zs i j → (length xs ≤ i) ⊎ (length ys ≤ j)
    → first ≡ zs ++ drop i xs → all ≡ first ++ drop j ys → all ≡ whole
unfolding merged
left-end xs ys whole zs first all i j left end h k =
    k ∙ ap (λ t. t ++ drop j ys) h ∙ append_assoc zs (drop i xs) (drop j ys) ∙ ap (λ t. zs ++ t) rest ∙ left
  where
    start : (ws : List ℕ) → ws ≡ merged [] ws
    start ws = refl

    rest : drop i xs ++ drop j ys ≡ merged (drop i xs) (drop j ys)
    rest = elim end [
      | inl none ↦ ap (λ t. t ++ drop j ys) (drop_all i xs none) ∙ start (drop j ys) ∙ ap (λ t. merged t (drop j ys)) (sym (drop_all i xs none))
      | inr none ↦ ap (λ t. drop i xs ++ t) (drop_all j ys none) ∙ append-nil (drop i xs) ∙ sym (merged-nil (drop i xs)) ∙ ap (λ t. merged (drop i xs) t) (sym (drop_all j ys none))
    ]

-- ---- merging behind the list that has the label

-- the list begins as it did, and what is left to merge comes behind what is merged
pub record IsMerging (old : List ℕ) (label : Span) (members list : List ℕ) (i j : ℕ) : Type 0 where
  pub in_label : i ≤ label.to
  pub in_members : j ≤ length members
  pub longer : length old ≤ length list
  pub kept : take (length old) list ≡ old
  pub left : IsStillMerging (take label.to old) members (old ++ merged (slice_range old label.from label.to) members) list i j

pub merging-none : (old : List ℕ) (label : Span) (members : List ℕ) → label.from ≤ label.to → IsMerging old label members old label.from 0
merging-none old label members rises = record {
  in_label = rises;
  in_members = omega arith;
  longer = omega arith;
  kept = take_all (length old) old (omega arith);
  left = ap (λ xs. old ++ merged xs members) (sym (between_is old label.from label.to));
}

module _ (old : List ℕ) (label : Span) (members list : List ℕ) (i j : ℕ) (within : label.to ≤ length old) (are : IsMerging old label members list i j) where
  module _ (in_i : i < label.to) (in_j : j < length members) (held member : ℕ) (is_held : held ≡ get_or list i 0) (is_member : member ≡ get_or members j 0) where
    held_is : get_or (take label.to old) i 0 ≡ held
    held_is =
        get_or-take label.to old i 0 in_i ∙ ap (λ xs. get_or xs i 0) (sym are.kept) ∙ get_or-take (length old) list i 0 (omega (arith, in_i, within)) ∙ sym is_held

    in_old : i < length (take label.to old)
    in_old = omega (arith, length-take-le label.to old within)

    kept_more : (after : List ℕ) (x : ℕ) → after ≡ list ++ x ∷ [] → take (length old) after ≡ old
    kept_more after x pushed = ap (take (length old)) pushed ∙ take-append-le (length old) list (x ∷ []) are.longer ∙ are.kept

    longer_more : (after : List ℕ) (x : ℕ) → after ≡ list ++ x ∷ [] → length old ≤ length after
    longer_more after x pushed = omega (arith, ap length pushed, length_push list x, are.longer)

    pub merging-less : held < member → (after : List ℕ) → after ≡ list ++ held ∷ [] → IsMerging old label members after (i + 1) j
    merging-less less after pushed = record {
      in_label = omega arith;
      in_members = are.in_members;
      longer = longer_more after held pushed;
      kept = kept_more after held pushed;
      left = left-less (take label.to old) members (old ++ merged (slice_range old label.from label.to) members) list i j in_old in_j are.left after
          (pushed ∙ ap (λ x. list ++ x ∷ []) (sym held_is)) (omega (arith, held_is, is_member));
    }

    pub merging-more : member < held → (after : List ℕ) → after ≡ list ++ member ∷ [] → IsMerging old label members after i (j + 1)
    merging-more more after pushed = record {
      in_label = are.in_label;
      in_members = omega arith;
      longer = longer_more after member pushed;
      kept = kept_more after member pushed;
      left = left-more (take label.to old) members (old ++ merged (slice_range old label.from label.to) members) list i j in_old in_j are.left after
          (pushed ∙ ap (λ x. list ++ x ∷ []) is_member) (omega (arith, held_is, is_member));
    }

    pub merging-same : member ≤ held → held ≤ member → IsMerging old label members list (i + 1) (j + 1)
    merging-same low high = record {
      in_label = omega arith;
      in_members = omega arith;
      longer = are.longer;
      kept = are.kept;
      left = left-same (take label.to old) members (old ++ merged (slice_range old label.from label.to) members) list i j in_old in_j are.left (omega (arith, held_is, is_member));
    }

  -- what is left of the label, and then of the members
  pub merging-end : (label.to ≤ i) ⊎ (length members ≤ j) → (first all : List ℕ) → first ≡ list ++ slice_range list i label.to → all ≡ first ++ drop j members
      → all ≡ old ++ merged (slice_range old label.from label.to) members
  merging-end end first all rest members_rest =
      let same : take label.to list ≡ take label.to old = sym (take-take label.to (length old) list within) ∙ ap (take label.to) are.kept in
      let end' : (length (take label.to old) ≤ i) ⊎ (length members ≤ j) = elim end [ inl none ↦ inl (omega (arith, none, length-take-le label.to old within)) | inr none ↦ inr none ] in
      left-end (take label.to old) members (old ++ merged (slice_range old label.from label.to) members) list first all i j are.left end'
      (rest ∙ ap (λ t. list ++ t) (between_is list i label.to ∙ ap (drop i) same)) members_rest

pub toggled_onto : (old label members all : List ℕ) → IsFrom 0 label → IsFrom 0 members → all ≡ old ++ merged label members → IsToggledOnto old label members all
toggled_onto old label members all rises also is = record { added = merged label members; put = is; toggled = merged_toggled label members rises also }

-- ---- the members of odd pairs

pub member_read : (odd : List OddUse) (places : List ℕ) (j : ℕ) (d : OddUse) → j < length places → get_or places j 0 < length odd → (get_or odd (get_or places j 0) d).member ≡ get_or (members_at odd places) j 0
member_read odd places j d inside within =
    ap member_of (sym (slice_get-get_or odd (get_or places j 0) d within)) ∙ sym (get_or-map (λ n. member_of (slice_get odd n)) places j 0 0 inside)

pub members-length : (odd : List OddUse) (places : List ℕ) → length (members_at odd places) ≡ length places
members-length odd places = length-map places (λ n. member_of (slice_get odd n))

pub members-drop : (odd : List OddUse) (places : List ℕ) (j : ℕ) → members_at odd (drop j places) ≡ drop j (members_at odd places)
members-drop odd places j = sym (drop-map (λ n. member_of (slice_get odd n)) j places)

pub members-more : (odd : List OddUse) (places : List ℕ) (j : ℕ) (d : OddUse) (list now after : List ℕ) → j < length places → get_or places j 0 < length odd
    → now ≡ list ++ members_at odd (take j places) → after ≡ now ++ (get_or odd (get_or places j 0) d).member ∷ [] → after ≡ list ++ members_at odd (take (j + 1) places)
members-more odd places j d list now after inside within so_far pushed =
    let member = ap member_of (sym (slice_get-get_or odd (get_or places j 0) d within)) in
    pushed ∙ (λ i. so_far i ++ member i ∷ []) ∙ append_assoc list (members_at odd (take j places)) (member_of (slice_get odd (get_or places j 0)) ∷ [])
    ∙ ap (λ t. list ++ t) (sym (map_more (λ n. member_of (slice_get odd n)) places j 0 inside))

-- ---- a part of the list

pub part-more : (old list after : List ℕ) (from place member : ℕ) → from ≤ place → place < length old → member ≡ get_or list place member → list ≡ old ++ slice_range old from place → after ≡ list ++ member ∷ []
    → after ≡ old ++ slice_range old from (place + 1)
part-more old list after from place member rises within is so_far pushed =
    let x = get_or old place 0 in
    let longer : place < length list = omega (arith, ap length so_far, length-append old (slice_range old from place)) in
    let read : member ≡ x = get_or_read list place member longer is 0 ∙ ap (λ xs. get_or xs place 0) so_far ∙ get_or_append_left old (slice_range old from place) 0 place within in
    let more : slice_range old from (place + 1) ≡ slice_range old from place ++ x ∷ [] =
    between_is old from (place + 1) ∙ ap (drop from) (take_more old place 0 within) ∙ drop-append-le from (take place old) (x ∷ []) (omega (arith, length-take-le place old (omega arith)))
    ∙ ap (λ t. t ++ x ∷ []) (sym (between_is old from place)) in
    pushed ∙ (λ i. so_far i ++ read i ∷ []) ∙ append_assoc old (slice_range old from place) (x ∷ []) ∙ ap (λ t. old ++ t) (sym more)

pub longer_push : (old list after : List ℕ) (x : ℕ) → after ≡ list ++ x ∷ [] → length old ≤ length list → length old ≤ length after
longer_push old list after x pushed le = omega (arith, ap length pushed, length_push list x)
