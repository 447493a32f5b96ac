-- The edges of a chain with and without one of its points.
use mathlib.Core.List.{[], ◌∷◌}
use Rattle.std.proofs.Common.{◌≡◌, ◌≢◌, ◌⊎◌, inl, inr, refl, sym, ◌∙◌, ap, subst, zero, suc, Bool, true, false, not, ◌||◌, cond, List, ◌++◌, zip, arith}
use Rattle.std.specs.Prelude.{Contains, option_to_list}
use Rattle.std.proofs.lemmas.Bool.{false≢true}
use Rattle.std.proofs.lemmas.List.{append-nil, append_assoc}
use Rattle.std.proofs.lemmas.List.Concat.{flat_map-cons}
use Rattle.std.proofs.lemmas.List.Elements.{Contains-append_cases, Contains-append_left, Contains-append_right, filter-append}
use Rattle.cov_types.specs.declared.coord.Coord.{Coord}
use Rattle.cov_types.specs.declared.seg.Seg.{Seg}
use Rattle.cov_types.specs.Coord.{is_same_coord}
use Rattle.cov_types.specs.Seg.{IsSegBetween}
use Rattle.cov_types.specs.Uses.{seg_between}
use Rattle.cov_types.proofs.Equal.{Decides-same_coords}
use Rattle.plane.specs.Snapping.{chain_edges}
use Rattle.crossing_laws.proofs.Lists.{contains_here, contains_there}
use Rattle.greedy_run.specs.Run.{is_removed, current}
use Rattle.greedy_run.proofs.OneLine.{chain_first}
use Rattle.removal_laws.proofs.Bridge.{chain_ends, ends_of_side}
use Rattle.removal_laws.proofs.Exchange.{coord_cases}
use Rattle.removal_laws.proofs.Rings.{side_cases}

-- ---- one edge more

chain_step : (x y : Coord) (rest : List Coord) → chain_edges (x ∷ y ∷ rest) ≡ option_to_list (seg_between x y) ++ chain_edges (y ∷ rest)
chain_step x y rest = flat_map-cons (λ (pair : Coord × Coord). option_to_list (seg_between pair.0 pair.1)) (x, y) (zip (y ∷ rest) rest)

of_step : (x y : Coord) (rest : List Coord) (e : Seg) → Contains (chain_edges (x ∷ y ∷ rest)) e → IsSegBetween x y e ⊎ Contains (chain_edges (y ∷ rest)) e
of_step x y rest e has =
    elim (Contains-append_cases (option_to_list (seg_between x y)) (chain_edges (y ∷ rest)) e (subst (λ l. Contains l e) (chain_step x y rest) has)) [
      | inl here ↦ inl (ends_of_side x y (seg_between x y) (side_cases x y) e here)
      | inr later ↦ inr later
    ]

to_first : (x y : Coord) (rest : List Coord) (e : Seg) → IsSegBetween x y e → Contains (chain_edges (x ∷ y ∷ rest)) e
to_first x y rest e s = subst (λ l. Contains l e) (sym (chain_first x y rest e s)) (contains_here e (chain_edges (y ∷ rest)))

to_rest : (x : Coord) (points : List Coord) (e : Seg) → Contains (chain_edges points) e → Contains (chain_edges (x ∷ points)) e
to_rest x [] e has = absurd (let within = has.1 in omega arith)
to_rest x (y ∷ rest) e has = subst (λ l. Contains l e) (sym (chain_step x y rest)) (Contains-append_right (option_to_list (seg_between x y)) (chain_edges (y ∷ rest)) e has)

-- a chain falls into two at any of its points
joined : (xs : List Coord) (p q : Coord) (ys : List Coord) → chain_edges ((xs ++ p ∷ []) ++ q ∷ ys) ≡ chain_edges (xs ++ p ∷ []) ++ chain_edges (p ∷ q ∷ ys)
joined [] p q ys = refl
joined (x ∷ []) p q ys =
    chain_step x p (q ∷ ys)
    ∙ ap (λ l. l ++ chain_edges (p ∷ q ∷ ys)) (sym (chain_step x p [] ∙ append-nil (option_to_list (seg_between x p))))
joined (x ∷ y ∷ zs) p q ys =
    chain_step x y ((zs ++ p ∷ []) ++ q ∷ ys)
    ∙ ap (λ l. option_to_list (seg_between x y) ++ l) (joined (y ∷ zs) p q ys)
    ∙ sym (append_assoc (option_to_list (seg_between x y)) (chain_edges (y ∷ zs ++ p ∷ [])) (chain_edges (p ∷ q ∷ ys)))
    ∙ ap (λ l. l ++ chain_edges (p ∷ q ∷ ys)) (sym (chain_step x y (zs ++ p ∷ [])))

-- ---- without a point

module _ (b : Coord) where
  differs : (x : Coord) → x ≢ b → is_same_coord x b ≡ false
  differs x apart = elim (coord_cases x b) [ inl same ↦ absurd (apart ((Decides-same_coords x b).0 same)) | inr other ↦ other ]

  kept_cons : (x : Coord) (xs : List Coord) → is_same_coord x b ≡ false → current (b ∷ []) (x ∷ xs) ≡ x ∷ current (b ∷ []) xs
  kept_cons x xs h = ap (λ (t : Bool). cond (not (t || false)) (x ∷ current (b ∷ []) xs) (current (b ∷ []) xs)) h

  gone_cons : (x : Coord) (xs : List Coord) → is_same_coord x b ≡ true → current (b ∷ []) (x ∷ xs) ≡ current (b ∷ []) xs
  gone_cons x xs h = ap (λ (t : Bool). cond (not (t || false)) (x ∷ current (b ∷ []) xs) (current (b ∷ []) xs)) h

  -- points among which b is not stay as they are
  pub none_gone : (xs : List Coord) → ¬ Contains xs b → current (b ∷ []) xs ≡ xs
  none_gone [] none = refl
  none_gone (x ∷ xs) none =
      kept_cons x xs (differs x (λ e. none (subst (Contains (x ∷ xs)) e (contains_here x xs))))
      ∙ ap (λ l. x ∷ l) (none_gone xs (λ has. none (contains_there x b xs has)))

  -- b is among the points or not
  pub has_or : (xs : List Coord) → Contains xs b ⊎ (¬ Contains xs b)
  has_or [] = inr (λ has. (let within = has.1 in omega arith))
  has_or (x ∷ xs) =
      elim (coord_cases x b) [
        | inl same ↦ inl (subst (Contains (x ∷ xs)) ((Decides-same_coords x b).0 same) (contains_here x xs))
        | inr other ↦ elim (has_or xs) [
          | inl later ↦ inl (contains_there x b xs later)
          | inr none ↦ inr (not_in other none)
        ]
      ]
    where
      not_in : is_same_coord x b ≡ false → ¬ Contains xs b → ¬ Contains (x ∷ xs) b
      not_in other none (zero, inside, is) = false≢true (sym other ∙ (Decides-same_coords x b).1 is)
      not_in other none (suc k, inside, is) = none (k, omega arith, is)

  apart_ends : (x y : Coord) (e : Seg) → IsSegBetween x y e → e.lo ≢ b → e.hi ≢ b → (x ≢ b) × (y ≢ b)
  apart_ends x y e (inl s) lo hi = (λ is. lo (s.0 ∙ is), λ is. hi (s.1 ∙ is))
  apart_ends x y e (inr s) lo hi = (λ is. hi (s.1 ∙ is), λ is. lo (s.0 ∙ is))

  -- an edge that does not end at b stays
  pub edge_stays : (xs : List Coord) (e : Seg) → Contains (chain_edges xs) e → e.lo ≢ b → e.hi ≢ b → Contains (chain_edges (current (b ∷ []) xs)) e
  edge_stays [] e has lo hi = absurd (let within = has.1 in omega arith)
  edge_stays (x ∷ []) e has lo hi = absurd (let within = has.1 in omega arith)
  edge_stays (x ∷ y ∷ rest) e has lo hi =
      elim (of_step x y rest e has) [
        | inl s ↦ (
            let apart = apart_ends x y e s lo hi in
            subst (λ l. Contains (chain_edges l) e)
            (sym (kept_cons x (y ∷ rest) (differs x apart.0) ∙ ap (λ l. x ∷ l) (kept_cons y rest (differs y apart.1))))
            (to_first x y (current (b ∷ []) rest) e s)
            )
        | inr later ↦ (
            let stays = edge_stays (y ∷ rest) e later lo hi in
            elim (coord_cases x b) [
              | inl same ↦ subst (λ l. Contains (chain_edges l) e) (sym (gone_cons x (y ∷ rest) same)) stays
              | inr other ↦ subst (λ l. Contains (chain_edges l) e) (sym (kept_cons x (y ∷ rest) other)) (to_rest x (current (b ∷ []) (y ∷ rest)) e stays)
            ]
            )
      ]

  -- b stands once among the points, between a and c
  pub record StandsOnce (points : List Coord) (a c : Coord) : Type 0 where
    pub xs : List Coord
    pub ys : List Coord
    pub is : points ≡ (xs ++ a ∷ []) ++ b ∷ c ∷ ys
    pub not_before : ¬ Contains (xs ++ a ∷ []) b
    pub not_after : ¬ Contains (c ∷ ys) b

  module _ (points : List Coord) (a c : Coord) (h : StandsOnce points a c) where
    parts : (e : Seg) → Contains (chain_edges points) e → Contains (chain_edges (h.xs ++ a ∷ [])) e ⊎ Contains (chain_edges (a ∷ b ∷ c ∷ h.ys)) e
    parts e has =
        Contains-append_cases (chain_edges (h.xs ++ a ∷ [])) (chain_edges (a ∷ b ∷ c ∷ h.ys)) e
        (subst (λ l. Contains l e) (ap chain_edges h.is ∙ joined h.xs a b (c ∷ h.ys)) has)

    of_before : (e : Seg) → Contains (chain_edges (h.xs ++ a ∷ [])) e → Contains (chain_edges points) e
    of_before e has =
        subst (λ l. Contains l e) (sym (ap chain_edges h.is ∙ joined h.xs a b (c ∷ h.ys)))
        (Contains-append_left (chain_edges (h.xs ++ a ∷ [])) (chain_edges (a ∷ b ∷ c ∷ h.ys)) e has)

    of_after : (e : Seg) → Contains (chain_edges (a ∷ b ∷ c ∷ h.ys)) e → Contains (chain_edges points) e
    of_after e has =
        subst (λ l. Contains l e) (sym (ap chain_edges h.is ∙ joined h.xs a b (c ∷ h.ys)))
        (Contains-append_right (chain_edges (h.xs ++ a ∷ [])) (chain_edges (a ∷ b ∷ c ∷ h.ys)) e has)

    -- its two edges
    pub has_ab : (e : Seg) → IsSegBetween a b e → Contains (chain_edges points) e
    has_ab e s = of_after e (to_first a b (c ∷ h.ys) e s)

    pub has_bc : (e : Seg) → IsSegBetween b c e → Contains (chain_edges points) e
    has_bc e s = of_after e (to_rest a (b ∷ c ∷ h.ys) e (to_first b c h.ys e s))

    not_end : (xs : List Coord) (e : Seg) → Contains (chain_edges xs) e → ¬ Contains xs b → (e.lo ≡ b) ⊎ (e.hi ≡ b) → ⊥
    not_end xs e has none (inl lo) = none (subst (Contains xs) lo (chain_ends xs e has).lo)
    not_end xs e has none (inr hi) = none (subst (Contains xs) hi (chain_ends xs e has).hi)

    -- no other edge ends at b
    pub ends_at_b : (e : Seg) → Contains (chain_edges points) e → (e.lo ≡ b) ⊎ (e.hi ≡ b) → IsSegBetween a b e ⊎ IsSegBetween b c e
    ends_at_b e has at =
        elim (parts e has) [
          | inl before ↦ absurd (not_end (h.xs ++ a ∷ []) e before h.not_before at)
          | inr from_a ↦ elim (of_step a b (c ∷ h.ys) e from_a) [
            | inl first ↦ inl first
            | inr from_b ↦ elim (of_step b c h.ys e from_b) [
              | inl second ↦ inr second
              | inr after ↦ absurd (not_end (c ∷ h.ys) e after h.not_after at)
            ]
          ]
        ]

    without : current (b ∷ []) points ≡ (h.xs ++ a ∷ []) ++ c ∷ h.ys
    without =
        ap (current (b ∷ [])) h.is
        ∙ filter-append (λ p. not (is_removed (b ∷ []) p)) (h.xs ++ a ∷ []) (b ∷ c ∷ h.ys)
        ∙ (λ i. none_gone (h.xs ++ a ∷ []) h.not_before i ++ (gone_cons b (c ∷ h.ys) ((Decides-same_coords b b).1 refl) ∙ none_gone (c ∷ h.ys) h.not_after) i)

    -- without b there is the edge from a to c
    pub has_ac : (e : Seg) → IsSegBetween a c e → Contains (chain_edges (current (b ∷ []) points)) e
    has_ac e s =
        subst (λ l. Contains l e) (sym (ap chain_edges without ∙ joined h.xs a c h.ys))
        (Contains-append_right (chain_edges (h.xs ++ a ∷ [])) (chain_edges (a ∷ c ∷ h.ys)) e (to_first a c h.ys e s))

    -- and no other that was not there
    pub edge_was : (e : Seg) → Contains (chain_edges (current (b ∷ []) points)) e → Contains (chain_edges points) e ⊎ IsSegBetween a c e
    edge_was e has =
        elim (Contains-append_cases (chain_edges (h.xs ++ a ∷ [])) (chain_edges (a ∷ c ∷ h.ys)) e (subst (λ l. Contains l e) (ap chain_edges without ∙ joined h.xs a c h.ys) has)) [
          | inl before ↦ inl (of_before e before)
          | inr from_a ↦ elim (of_step a c h.ys e from_a) [
            | inl third ↦ inr third
            | inr after ↦ inl (of_after e (to_rest a (b ∷ c ∷ h.ys) e (to_rest b (c ∷ h.ys) e after)))
          ]
        ]
