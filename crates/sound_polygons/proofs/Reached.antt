-- The part of a region exists: which regions are led to from it is told by a test.
use mathlib.Core.List.{[], ◌∷◌}
use Rattle.std.proofs.Common.{◌≡◌, ◌⊎◌, refl, sym, ◌∙◌, ap, subst, ℕ, zero, suc, ◌==◌, ◌&&◌, ◌||◌, Bool, true, List, inl, inr, Option, Some, None, arith}
use Rattle.std.specs.Prelude.{length, Contains, map, filter, unwrap_or}
use Rattle.std.proofs.lemmas.Bool.{and_parts, and_from, or_left, or_right, or_cases, false≢true}
use Rattle.std.proofs.lemmas.Bool.Decides.{Decides-eqb}
use Rattle.std.proofs.lemmas.Option.{none-some}
use Rattle.plane.specs.Label.{numbers_below}
use Rattle.crossing_laws.proofs.Lists.{contains_here, contains_there, contains-map}
use Rattle.arrangement.specs.Measure.{is_member}
use Rattle.arrangement.specs.Overlay.{Overlay, region_above, region_below, AreBeside}
use Rattle.arrangement.proofs.LiveOverlays.{kept, kept_is, number_below, below_number}
use Rattle.sound_polygons.specs.Parts.{LeadsWithin, InOnePart, IsPartOf}
use Rattle.sound_polygons.proofs.SameParts.{part_equivalence}

-- ---- numbers linked by pairs

-- whether g and h are linked by the pairs: the pairs are added one by one
abbrev linked : List (ℕ × ℕ) → ℕ → ℕ → Bool
linked [] g h = g == h
linked (p ∷ pairs) g h = linked pairs g h || ((linked pairs g p.0 && linked pairs p.1 h) || (linked pairs g p.1 && linked pairs p.0 h))

-- the three ways
data Ways (old there back : Type 0) : Type 0 where
  by_old : old → Ways old there back
  by_there : there → Ways old there back
  by_back : back → Ways old there back

ways : (p : ℕ × ℕ) (pairs : List (ℕ × ℕ)) (g h : ℕ) → linked (p ∷ pairs) g h ≡ true
    → Ways (linked pairs g h ≡ true) ((linked pairs g p.0 ≡ true) × (linked pairs p.1 h ≡ true)) ((linked pairs g p.1 ≡ true) × (linked pairs p.0 h ≡ true))
ways p pairs g h t =
    elim (or_cases _ _ t) [
      | inl old ↦ by_old old
      | inr new ↦ elim (or_cases _ _ new) [
        | inl there ↦ (let both = and_parts _ _ there in by_there (both.0, both.1))
        | inr back ↦ (let both = and_parts _ _ back in by_back (both.0, both.1))
      ]
    ]

old : (p : ℕ × ℕ) (pairs : List (ℕ × ℕ)) (g h : ℕ) → linked pairs g h ≡ true → linked (p ∷ pairs) g h ≡ true
old p pairs g h t = or_left _ _ t

there : (p : ℕ × ℕ) (pairs : List (ℕ × ℕ)) (g h : ℕ) → linked pairs g p.0 ≡ true → linked pairs p.1 h ≡ true → linked (p ∷ pairs) g h ≡ true
there p pairs g h a b = or_right _ _ (or_left _ _ (and_from _ _ a b))

back : (p : ℕ × ℕ) (pairs : List (ℕ × ℕ)) (g h : ℕ) → linked pairs g p.1 ≡ true → linked pairs p.0 h ≡ true → linked (p ∷ pairs) g h ≡ true
back p pairs g h a b = or_right _ _ (or_right _ _ (and_from _ _ a b))

itself : (pairs : List (ℕ × ℕ)) (g : ℕ) → linked pairs g g ≡ true
itself [] g = (Decides-eqb g g).1 refl
itself (p ∷ pairs) g = old p pairs g g (itself pairs g)

turned : (pairs : List (ℕ × ℕ)) (g h : ℕ) → linked pairs g h ≡ true → linked pairs h g ≡ true
turned [] g h t = (Decides-eqb h g).1 (sym ((Decides-eqb g h).0 t))
turned (p ∷ pairs) g h t =
    elim (ways p pairs g h t) [
      | by_old a ↦ old p pairs h g (turned pairs g h a)
      | by_there a ↦ back p pairs h g (turned pairs p.1 h a.1) (turned pairs g p.0 a.0)
      | by_back a ↦ there p pairs h g (turned pairs p.0 h a.1) (turned pairs g p.1 a.0)
    ]

onwards : (pairs : List (ℕ × ℕ)) (f g h : ℕ) → linked pairs f g ≡ true → linked pairs g h ≡ true → linked pairs f h ≡ true
onwards [] f g h s t = (Decides-eqb f h).1 ((Decides-eqb f g).0 s ∙ (Decides-eqb g h).0 t)
onwards (p ∷ pairs) f g h s t =
    elim (ways p pairs f g s) [
      | by_old a ↦ elim (ways p pairs g h t) [
        | by_old b ↦ old p pairs f h (onwards pairs f g h a b)
        | by_there b ↦ there p pairs f h (onwards pairs f g p.0 a b.0) b.1
        | by_back b ↦ back p pairs f h (onwards pairs f g p.1 a b.0) b.1
      ]
      | by_there a ↦ elim (ways p pairs g h t) [
        | by_old b ↦ there p pairs f h a.0 (onwards pairs p.1 g h a.1 b)
        | by_there b ↦ there p pairs f h a.0 b.1
        | by_back b ↦ old p pairs f h (onwards pairs f p.0 h a.0 b.1)
      ]
      | by_back a ↦ elim (ways p pairs g h t) [
        | by_old b ↦ back p pairs f h a.0 (onwards pairs p.0 g h a.1 b)
        | by_there b ↦ old p pairs f h (onwards pairs f p.1 h a.0 b.1)
        | by_back b ↦ back p pairs f h a.0 b.1
      ]
    ]

-- a pair of the list is linked
of_pair : (pairs : List (ℕ × ℕ)) (p : ℕ × ℕ) → Contains pairs p → linked pairs p.0 p.1 ≡ true
of_pair [] p (k, inside, is) = absurd (omega arith)
of_pair (q ∷ pairs) p (zero, inside, is) = subst (λ (r : ℕ × ℕ). linked (q ∷ pairs) r.0 r.1 ≡ true) is (there q pairs q.0 q.1 (itself pairs q.0) (itself pairs q.1))
of_pair (q ∷ pairs) p (suc k, inside, is) = old q pairs p.0 p.1 (of_pair pairs p (k, omega arith, is))

-- what the pairs keep, linked numbers keep
kept_along : (R : ℕ → ℕ → Type 0) → ((g : ℕ) → R g g) → ((g h : ℕ) → R g h → R h g) → ((f g h : ℕ) → R f g → R g h → R f h)
    → (pairs : List (ℕ × ℕ)) → ((p : ℕ × ℕ) → Contains pairs p → R p.0 p.1) → (g h : ℕ) → linked pairs g h ≡ true → R g h
kept_along R same sym_R on [] each g h t = subst (R g) ((Decides-eqb g h).0 t) (same g)
kept_along R same sym_R on (p ∷ pairs) each g h t =
    let rest : (g h : ℕ) → linked pairs g h ≡ true → R g h = kept_along R same sym_R on pairs (λ q i. each q (contains_there p q pairs i)) in
    let step : R p.0 p.1 = each p (contains_here p pairs) in
    elim (ways p pairs g h t) [
      | by_old a ↦ rest g h a
      | by_there a ↦ on g p.0 h (rest g p.0 a.0) (on p.0 p.1 h step (rest p.1 h a.1))
      | by_back a ↦ on g p.1 h (rest g p.1 a.0) (on p.1 p.0 h (sym_R p.0 p.1 step) (rest p.0 h a.1))
    ]

map_is : {X Y : Type 0} (f : X → Y) (xs : List X) (y : Y) → Contains (map f xs) y → (x : X) × (Contains xs x × (f x ≡ y))
map_is f [] y (k, inside, is) = absurd (omega arith)
map_is f (x ∷ xs) y (zero, inside, is) = (x, (contains_here x xs, is))
map_is f (x ∷ xs) y (suc k, inside, is) = let rest = map_is f xs y (k, omega arith, is) in (rest.0, (contains_there x rest.0 xs rest.1.0, rest.1.1))

-- ---- the part of a region

module _ (o : Overlay) (owners : ℕ → Option ℕ) (i : ℕ) where
  -- the two sides of edge k
  abbrev sides_of : ℕ → ℕ × ℕ
  sides_of k = (region_above o k, region_below o k)

  -- the edges with both sides owned
  abbrev owned_pairs : List (ℕ × ℕ)
  owned_pairs = filter (λ p. is_member i (owners p.0) && is_member i (owners p.1)) (map sides_of (numbers_below (length o.edges)))

  -- either both are in one part, or they are one region
  abbrev Linked : ℕ → ℕ → Type 0
  Linked g h = (g ≡ h) ⊎ InOnePart o owners i g h

  is_owned : (owner : Option ℕ) → is_member i owner ≡ true → owner ≡ Some i
  is_owned None h = absurd (false≢true h)
  is_owned (Some j) h = ap (λ n. Some n) ((Decides-eqb j i).0 h)

  owned_is : (owner : Option ℕ) → owner ≡ Some i → is_member i owner ≡ true
  owned_is None h = absurd (none-some i h)
  owned_is (Some j) h = (Decides-eqb j i).1 (ap (λ o. unwrap_or o j) h)

  beside_pair : (p : ℕ × ℕ) → Contains owned_pairs p → Linked p.0 p.1
  beside_pair p has =
      let its = kept_is (λ p. is_member i (owners p.0) && is_member i (owners p.1)) (map sides_of (numbers_below (length o.edges))) p has in
      let both = and_parts _ _ its.1 in
      let at = map_is sides_of (numbers_below (length o.edges)) p its.0 in
      inr (
        p.1 ∷ [],
        (
          is_owned (owners p.0) both.0,
          record { edge = at.0; listed = below_number (length o.edges) at.0 at.1.0; sides = inl (ap (λ q. q.0) at.1.1, ap (λ q. q.1) at.1.1) },
          (is_owned (owners p.1) both.1, refl),
        ),
      )

  linked_sym : (g h : ℕ) → Linked g h → Linked h g
  linked_sym g h (inl same) = inl (sym same)
  linked_sym g h (inr way) = inr ((part_equivalence o owners i).back g h way)

  linked_on : (f g h : ℕ) → Linked f g → Linked g h → Linked f h
  linked_on f g h (inl same) b = subst (λ q. Linked q h) (sym same) b
  linked_on f g h (inr a) (inl same) = inr (subst (InOnePart o owners i f) same a)
  linked_on f g h (inr a) (inr b) = inr ((part_equivalence o owners i).on f g h a b)

  -- a step from an owned region to an owned one
  step_linked : (r g : ℕ) → owners r ≡ Some i → owners g ≡ Some i → AreBeside o r g → linked owned_pairs r g ≡ true
  step_linked r g own_r own_g beside = elim beside.sides [
    | inl up ↦ subst (λ (p : ℕ × ℕ). linked owned_pairs p.0 p.1 ≡ true) (λ j. (up.0 j, up.1 j)) (of_pair owned_pairs (sides_of beside.edge) (listed (subst (λ q. owners q ≡ Some i) (sym up.0) own_r) (subst (λ q. owners q ≡ Some i) (sym up.1) own_g)))
    | inr down ↦ turned owned_pairs g r (subst (λ (p : ℕ × ℕ). linked owned_pairs p.0 p.1 ≡ true) (λ j. (down.0 j, down.1 j)) (of_pair owned_pairs (sides_of beside.edge) (listed (subst (λ q. owners q ≡ Some i) (sym down.0) own_g) (subst (λ q. owners q ≡ Some i) (sym down.1) own_r))))
  ]
    where
      listed : owners (region_above o beside.edge) ≡ Some i → owners (region_below o beside.edge) ≡ Some i → Contains owned_pairs (sides_of beside.edge)
      listed a b =
          kept (λ p. is_member i (owners p.0) && is_member i (owners p.1)) (map sides_of (numbers_below (length o.edges))) (sides_of beside.edge)
          (contains-map sides_of (numbers_below (length o.edges)) beside.edge (number_below (length o.edges) beside.edge beside.listed))
          (and_from _ _ (owned_is _ a) (owned_is _ b))

  first_owned : (r : ℕ) (way : List ℕ) (s : ℕ) → LeadsWithin o owners i r way s → owners r ≡ Some i
  first_owned r [] s h = h.0
  first_owned r (g ∷ way) s h = h.0

  way_linked : (r : ℕ) (way : List ℕ) (s : ℕ) → LeadsWithin o owners i r way s → linked owned_pairs r s ≡ true
  way_linked r [] s h = subst (λ q. linked owned_pairs r q ≡ true) h.1 (itself owned_pairs r)
  way_linked r (g ∷ way) s h = onwards owned_pairs r g s (step_linked r g h.0 (first_owned g way s h.2) h.1) (way_linked g way s h.2)

  pub part_exists : (r : ℕ) → owners r ≡ Some i → (inside : ℕ → Bool) × IsPartOf o owners i r inside
  part_exists r own = (linked owned_pairs r, λ g. (there_is g, λ way. way_linked r way.0 g way.1))
    where
      there_is : (g : ℕ) → linked owned_pairs r g ≡ true → InOnePart o owners i r g
      there_is g t = elim (kept_along Linked (λ g. inl refl) linked_sym linked_on owned_pairs beside_pair r g t) [
        | inl same ↦ ([], (own, same))
        | inr way ↦ way
      ]
