-- The links of a line as its points go.
use mathlib.Core.List.{[], ◌∷◌}
use Rattle.std.proofs.Common.{◌≡◌, ◌≢◌, ◌⊎◌, inl, inr, refl, sym, ◌∙◌, ap, subst, ℕ, zero, suc, ◌+◌, ◌<◌, ◌==◌, List, ◌++◌, length, Bool, true, false, cond, Option, Some, None, slice_get, true≢false, arith}
use Rattle.std.specs.Prelude.{option_map}
use Rattle.std.proofs.lemmas.Bool.{cases_order}
use Rattle.std.proofs.lemmas.Bool.Decides.{Decides-eqb}
use Rattle.std.proofs.lemmas.Option.{none-some, same_Some, slice_get_within}
use Rattle.cov_types.specs.declared.coord.Coord.{Coord}
use Rattle.greedy_run.specs.Run.{is_removed, IsLastBefore, IsFirstAfter}
use Rattle.visvalingam.specs.Chains.{IsBeforeLink, IsAfterLink, IsLinkedAt, AreLinked, IsCornerAt, AreChanged, IsFirstLinks, IsInnerPlace, unlinked}
use Rattle.visvalingam.specs.declared.corner.Corner.{Corner}
use Rattle.visvalingam.specs.declared.chains.Links.{Links}
use Rattle.visvalingam.proofs.Ready.{still_removed, now_removed, still_there}

pub some_at : {X : Type 0} (xs : List X) (i : ℕ) → i < length xs → (x : X) × (slice_get xs i ≡ Some x)
some_at [] i below = absurd (omega (arith, below))
some_at (x ∷ xs) zero below = (x, refl)
some_at (x ∷ xs) (suc i) below = some_at xs i (omega (arith, below))

-- ---- corners

-- a place of the links is one of the points
point_at_link : (removed points : List Coord) (links : List (Option Links)) (k : ℕ) (o : Option Links) → AreLinked removed points links → slice_get links k ≡ Some o → (p : Coord) × (slice_get points k ≡ Some p)
point_at_link removed points links k o h at = let count = h.count in let within = slice_get_within links k o at in some_at points k (omega arith)

-- a removed point has no corner
pub none_at_gone : (removed points : List Coord) (links : List (Option Links)) (place : ℕ) → AreLinked removed points links → slice_get links place ≡ Some None → (corner : Corner) → ¬ IsCornerAt removed points place corner
none_at_gone removed points links place h at corner k = true≢false (sym (h.each place corner.b None k.here at) ∙ k.there)

-- nor has an end
pub none_at_end : (removed points : List Coord) (links : List (Option Links)) (place : ℕ) (l : Links) → AreLinked removed points links → slice_get links place ≡ Some (Some l)
    → ¬ IsInnerPlace l place (length points) → (corner : Corner) → ¬ IsCornerAt removed points place corner
none_at_end removed points links place l h at apart corner k =
    let own = h.each place corner.b (Some l) k.here at in
    let low = k.before.before in
    let high = k.after.after in
    let within = slice_get_within points corner.after corner.c k.after.at in
    elim own.1.0 [
      | inl before ↦ elim own.1.1 [
        | inl after ↦ apart (before.1.before, (after.1.after, slice_get_within points l.after after.0 after.1.at))
        | inr last ↦ (let e = last.0 in omega arith)
      ]
      | inr first ↦ (let e = first.0 in omega arith)
    ]

-- else there is one
pub corner_is : (removed points : List Coord) (links : List (Option Links)) (place : ℕ) (l : Links) (corner : Corner) → AreLinked removed points links → slice_get links place ≡ Some (Some l) → l.before < place → place < l.after
    → slice_get points place ≡ Some corner.b → slice_get points l.before ≡ Some corner.a → slice_get points l.after ≡ Some corner.c → l.before ≡ corner.before → l.after ≡ corner.after → IsCornerAt removed points place corner
corner_is removed points links place l corner h at low high at_b at_a at_c before after =
    let own = h.each place corner.b (Some l) at_b at in
    record {
      here = at_b;
      there = own.0;
      before = elim own.1.0 [
        | inl k ↦ subst (λ n. IsLastBefore removed points place n corner.a) before (subst (IsLastBefore removed points place l.before) (same_Some k.0 corner.a (sym k.1.at ∙ at_a)) k.1)
        | inr first ↦ absurd (let e = first.1 in omega arith)
      ];
      after = elim own.1.1 [
        | inl k ↦ subst (λ n. IsFirstAfter removed points place n corner.c) after (subst (IsFirstAfter removed points place l.after) (same_Some k.0 corner.c (sym k.1.at ∙ at_c)) k.1)
        | inr last ↦ absurd (let e = last.1 in omega arith)
      ];
    }

-- ---- the first state

pub first_linked : (points : List Coord) (links : List (Option Links)) → length links ≡ length points
    → ((k : ℕ) (o : Option Links) → slice_get links k ≡ Some o → (l : Links) × ((o ≡ Some l) × IsFirstLinks (length points) k l)) → AreLinked [] points links
first_linked points links count h = record { count = count; each = λ k p o at_p at_o. by k p at_p o (h k o at_o) }
  where
    nothing_before : (k m : ℕ) (p : Coord) → m + 1 ≡ k → slice_get points k ≡ Some p → (a : Coord) × IsLastBefore [] points k m a
    nothing_before k m p is at =
        let within = slice_get_within points k p at in
        let a = some_at points m (omega arith) in
        (a.0, record { before = omega arith; at = a.1; there = refl; between = λ j q past less at_q. absurd (omega arith) })

    nothing_after : (k m : ℕ) → m ≡ k + 1 → k + 1 < length points → (c : Coord) × IsFirstAfter [] points k m c
    nothing_after k m is less =
        let c = some_at points m (omega arith) in
        (c.0, record { after = omega arith; at = c.1; there = refl; between = λ j q past less at_q. absurd (omega arith) })

    by : (k : ℕ) (p : Coord) → slice_get points k ≡ Some p → (o : Option Links) → (l : Links) × ((o ≡ Some l) × IsFirstLinks (length points) k l) → IsLinkedAt [] points k p o
    by k p at o (l, (is, first)) = subst (IsLinkedAt [] points k p) (sym is) (
      refl,
      (
        elim first.before [ inl e ↦ inl (nothing_before k l.before p e at) | inr e ↦ inr e ],
        elim first.after [ inl e ↦ inl (nothing_after k l.after e.0 e.1) | inr e ↦ inr e ],
      ),
    )

-- ---- one point less

module _ (removed points : List Coord) (b : Coord) where
  last_before_more : (j m : ℕ) (a : Coord) → a ≢ b → IsLastBefore removed points j m a → IsLastBefore (b ∷ removed) points j m a
  last_before_more j m a apart h = record { before = h.before; at = h.at; there = still_there removed b a apart h.there; between = λ x p past less at. still_removed removed b p (h.between x p past less at) }

  first_after_more : (j m : ℕ) (c : Coord) → c ≢ b → IsFirstAfter removed points j m c → IsFirstAfter (b ∷ removed) points j m c
  first_after_more j m c apart h = record { after = h.after; at = h.at; there = still_there removed b c apart h.there; between = λ x p past less at. still_removed removed b p (h.between x p past less at) }

  -- in a line without b all stays
  pub linked_elsewhere : (links : List (Option Links)) → ((j : ℕ) → slice_get points j ≡ Some b → ⊥) → AreLinked removed points links → AreLinked (b ∷ removed) points links
  linked_elsewhere links none h = record { count = h.count; each = λ k p o at_p at_o. by k p o at_p (h.each k p o at_p at_o) }
    where
      not_b : (k : ℕ) (p : Coord) → slice_get points k ≡ Some p → p ≢ b
      not_b k p at same = none k (at ∙ ap Some same)

      by : (k : ℕ) (p : Coord) (o : Option Links) → slice_get points k ≡ Some p → IsLinkedAt removed points k p o → IsLinkedAt (b ∷ removed) points k p o
      by k p None at is = still_removed removed b p is
      by k p (Some l) at is = (
        still_there removed b p (not_b k p at) is.0,
        (
          elim is.1.0 [ inl e ↦ inl (e.0, last_before_more k l.before e.0 (not_b l.before e.0 e.1.at) e.1) | inr e ↦ inr e ],
          elim is.1.1 [ inl e ↦ inl (e.0, first_after_more k l.after e.0 (not_b l.after e.0 e.1.at) e.1) | inr e ↦ inr e ],
        ),
      )

module _ (removed points : List Coord) (place : ℕ) (corner : Corner) (h : IsCornerAt removed points place corner) (once : (j : ℕ) → slice_get points j ≡ Some corner.b → j ≡ place) where
  abbrev b : Coord
  b = corner.b

  not_b : (k : ℕ) (p : Coord) → slice_get points k ≡ Some p → k ≢ place → p ≢ b
  not_b k p at apart same = apart (once k (at ∙ ap Some same))

  -- the neighbours of the neighbours
  joined_before : IsLastBefore (b ∷ removed) points corner.after corner.before corner.a
  joined_before = record {
    before = (let x = h.before.before in let y = h.after.after in omega arith);
    at = h.before.at;
    there = still_there removed b corner.a (not_b corner.before corner.a h.before.at (λ e. (let x = h.before.before in omega arith))) h.before.there;
    between = λ j p past less at. elim (cases_order j place) [
      | inl same ↦ subst (λ (q : Coord). is_removed (b ∷ removed) q ≡ true) (same_Some b p (sym h.here ∙ ap (slice_get points) (sym same) ∙ at)) (now_removed removed b)
      | inr other ↦ elim other [
        | inl short ↦ still_removed removed b p (h.before.between j p past short at)
        | inr long ↦ still_removed removed b p (h.after.between j p long less at)
      ]
    ];
  }

  joined_after : IsFirstAfter (b ∷ removed) points corner.before corner.after corner.c
  joined_after = record {
    after = (let x = h.before.before in let y = h.after.after in omega arith);
    at = h.after.at;
    there = still_there removed b corner.c (not_b corner.after corner.c h.after.at (λ e. (let x = h.after.after in omega arith))) h.after.there;
    between = λ j p past less at. elim (cases_order j place) [
      | inl same ↦ subst (λ (q : Coord). is_removed (b ∷ removed) q ≡ true) (same_Some b p (sym h.here ∙ ap (slice_get points) (sym same) ∙ at)) (now_removed removed b)
      | inr other ↦ elim other [
        | inl short ↦ still_removed removed b p (h.before.between j p past short at)
        | inr long ↦ still_removed removed b p (h.after.between j p long less at)
      ]
    ];
  }

  -- b is the neighbour of its neighbours alone
  only_after : (j : ℕ) (p x : Coord) → slice_get points j ≡ Some p → is_removed removed p ≡ false → IsLastBefore removed points j place x → j ≡ corner.after
  only_after j p x at left k =
      elim (cases_order j corner.after) [
        | inl same ↦ same
        | inr other ↦ elim other [
          | inl short ↦ absurd (true≢false (sym (h.after.between j p k.before short at) ∙ left))
          | inr long ↦ absurd (true≢false (sym (k.between corner.after corner.c h.after.after long h.after.at) ∙ h.after.there))
        ]
      ]

  only_before : (j : ℕ) (p x : Coord) → slice_get points j ≡ Some p → is_removed removed p ≡ false → IsFirstAfter removed points j place x → j ≡ corner.before
  only_before j p x at left k =
      elim (cases_order j corner.before) [
        | inl same ↦ same
        | inr other ↦ elim other [
          | inr long ↦ absurd (true≢false (sym (h.before.between j p long k.after at) ∙ left))
          | inl short ↦ absurd (true≢false (sym (k.between corner.before corner.a short h.before.before h.before.at) ∙ h.before.there))
        ]
      ]

  new_before : (j m : ℕ) (p : Coord) (t : Bool) → (j == corner.after) ≡ t → j ≢ place → slice_get points j ≡ Some p → is_removed removed p ≡ false → IsBeforeLink removed points j m → IsBeforeLink (b ∷ removed) points j (cond t corner.before m)
  new_before j m p true e apart at left is = inl (corner.a, subst (λ n. IsLastBefore (b ∷ removed) points n corner.before corner.a) (sym ((Decides-eqb j corner.after).0 e)) joined_before)
  new_before j m p false e apart at left (inr is) = inr is
  new_before j m p false e apart at left (inl (x, k)) =
      inl (x, last_before_more removed points b j m x (not_b m x k.at (λ same. true≢false (sym ((Decides-eqb j corner.after).1 (only_after j p x at left (subst (λ n. IsLastBefore removed points j n x) same k))) ∙ e))) k)

  new_after : (j m : ℕ) (p : Coord) (t : Bool) → (j == corner.before) ≡ t → j ≢ place → slice_get points j ≡ Some p → is_removed removed p ≡ false → IsAfterLink removed points j m → IsAfterLink (b ∷ removed) points j (cond t corner.after m)
  new_after j m p true e apart at left is = inl (corner.c, subst (λ n. IsFirstAfter (b ∷ removed) points n corner.after corner.c) (sym ((Decides-eqb j corner.before).0 e)) joined_after)
  new_after j m p false e apart at left (inr is) = inr is
  new_after j m p false e apart at left (inl (x, k)) =
      inl (x, first_after_more removed points b j m x (not_b m x k.at (λ same. true≢false (sym ((Decides-eqb j corner.before).1 (only_before j p x at left (subst (λ n. IsFirstAfter removed points j n x) same k))) ∙ e))) k)

  changed_at : (j : ℕ) (p : Coord) (o : Option Links) (t u v : Bool) → (j == place) ≡ t → (j == corner.before) ≡ u → (j == corner.after) ≡ v → slice_get points j ≡ Some p → IsLinkedAt removed points j p o
      → IsLinkedAt (b ∷ removed) points j p (cond v (option_map (λ (l : Links). record { before = corner.before; after = l.after }) (cond u (option_map (λ (l : Links). record { before = l.before; after = corner.after }) (cond t None o)) (cond t None o))) (cond u (option_map (λ (l : Links). record { before = l.before; after = corner.after }) (cond t None o)) (cond t None o)))
  changed_at j p o true u v et eu ev at is = by u v
    where
      gone : is_removed (b ∷ removed) p ≡ true
      gone = subst (λ (q : Coord). is_removed (b ∷ removed) q ≡ true) (same_Some b p (sym h.here ∙ ap (slice_get points) (sym ((Decides-eqb j place).0 et)) ∙ at)) (now_removed removed b)

      by : (u v : Bool) → IsLinkedAt (b ∷ removed) points j p (cond v (option_map (λ (l : Links). record { before = corner.before; after = l.after }) (cond u (option_map (λ (l : Links). record { before = l.before; after = corner.after }) None) None)) (cond u (option_map (λ (l : Links). record { before = l.before; after = corner.after }) None) None))
      by true true = gone
      by true false = gone
      by false true = gone
      by false false = gone
  changed_at j p None false u v et eu ev at is = by u v
    where
      by : (u v : Bool) → IsLinkedAt (b ∷ removed) points j p (cond v (option_map (λ (l : Links). record { before = corner.before; after = l.after }) (cond u (option_map (λ (l : Links). record { before = l.before; after = corner.after }) None) None)) (cond u (option_map (λ (l : Links). record { before = l.before; after = corner.after }) None) None))
      by true true = still_removed removed b p is
      by true false = still_removed removed b p is
      by false true = still_removed removed b p is
      by false false = still_removed removed b p is
  changed_at j p (Some l) false u v et eu ev at is = by u v (new_before j l.before p v ev apart at is.0 is.1.0) (new_after j l.after p u eu apart at is.0 is.1.1)
    where
      apart : j ≢ place
      apart same = true≢false (sym ((Decides-eqb j place).1 same) ∙ et)

      left : is_removed (b ∷ removed) p ≡ false
      left = still_there removed b p (not_b j p at apart) is.0

      by : (u v : Bool) → IsBeforeLink (b ∷ removed) points j (cond v corner.before l.before) → IsAfterLink (b ∷ removed) points j (cond u corner.after l.after)
          → IsLinkedAt (b ∷ removed) points j p (cond v (option_map (λ (l : Links). record { before = corner.before; after = l.after }) (cond u (option_map (λ (l : Links). record { before = l.before; after = corner.after }) (Some l)) (Some l))) (cond u (option_map (λ (l : Links). record { before = l.before; after = corner.after }) (Some l)) (Some l)))
      by true true x y = (left, (x, y))
      by true false x y = (left, (x, y))
      by false true x y = (left, (x, y))
      by false false x y = (left, (x, y))

  -- the links without b
  pub linked_without : (old new : List (Option Links)) → length new ≡ length old → AreChanged (unlinked place corner.before corner.after) old new → AreLinked removed points old → AreLinked (b ∷ removed) points new
  linked_without old new same changed linked = record {
    count = same ∙ linked.count;
    each = λ k p o at_p at_o. (
        let within = slice_get_within points k p at_p in
        let count = linked.count in
        let own = some_at old k (omega arith) in
        let is : unlinked place corner.before corner.after k own.0 ≡ o = same_Some _ o (sym (changed k ∙ ap (option_map (unlinked place corner.before corner.after k)) own.1) ∙ at_o) in
        subst (IsLinkedAt (b ∷ removed) points k p) is (changed_at k p own.0 (k == place) (k == corner.before) (k == corner.after) refl refl refl at_p (linked.each k p own.0 at_p own.1)));
  }

-- an element of a list with one more at its end
pub last_or_before : {X : Type 0} (xs : List X) (y : X) (i : ℕ) (x : X) → slice_get (xs ++ y ∷ []) i ≡ Some x → (slice_get xs i ≡ Some x) ⊎ ((i ≡ length xs) × (y ≡ x))
last_or_before [] y zero x at = inr (refl, same_Some y x at)
last_or_before [] y (suc i) x at = absurd (none-some x at)
last_or_before (z ∷ zs) y zero x at = inl at
last_or_before (z ∷ zs) y (suc i) x at = elim (last_or_before zs y i x at) [ inl before ↦ inl before | inr last ↦ inr (ap suc last.0, last.1) ]

-- one more at the end
pub first_more : (count n : ℕ) (links more : List (Option Links)) (l : Links) → more ≡ links ++ Some l ∷ [] → length links ≡ n → IsFirstLinks count n l
    → ((k : ℕ) (o : Option Links) → slice_get links k ≡ Some o → (own : Links) × ((o ≡ Some own) × IsFirstLinks count k own))
    → (k : ℕ) (o : Option Links) → slice_get more k ≡ Some o → (own : Links) × ((o ≡ Some own) × IsFirstLinks count k own)
first_more count n links more l is size first each k o at =
    elim (last_or_before links (Some l) k o (subst (λ (xs : List (Option Links)). slice_get xs k ≡ Some o) is at)) [
      | inl before ↦ each k o before
      | inr last ↦ (l, (sym last.1, subst (λ m. IsFirstLinks count m l) (sym (last.0 ∙ size)) first))
    ]
