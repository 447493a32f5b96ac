-- Links over edges between regions of one owner, and the parts that they connect.
use mathlib.Core.List.{List, [], ◌∷◌, ◌++◌}
use Rattle.std.proofs.Common.{◌≡◌, refl, sym, ◌∙◌, ap, subst, ℕ, zero, suc, ◌+◌, ◌*◌, ◌<◌, length, get_or, Contains, Option, Some, None, slice_index, inl, inr, arith}
use Rattle.std.specs.Prelude.{IfSome, option_map}
use Rattle.std.proofs.lemmas.Bool.{cases_eq}
use Rattle.std.proofs.lemmas.List.{length-append}
use Rattle.std.proofs.lemmas.List.Elements.{Contains-append_left, Contains-push, Contains-push_cases}
use Rattle.components.specs.declared.link.Link.{Link}
use Rattle.components.specs.Connected.{IsTied, LeadsAlong, AreComponents}
use Rattle.arrangement.specs.Overlay.{Overlay, region_at, region_above, region_below, AreBeside}
use Rattle.sound_polygons.specs.Parts.{LeadsWithin}
use Rattle.cov_build.specs.Owners.{owner_in}
use Rattle.cov_build.specs.Parted.{IsOwnerLink, AreOwnerLinks, IsLeastInPart, IsPartAt, ArePartsOf, part_at}
use Rattle.cov_build.specs.declared.part.Part.{Part}

pub owner_is : (owners : List (Option ℕ)) (r : ℕ) → owner_in owners r ≡ get_or owners r None
owner_is [] r = refl
owner_is (x ∷ owners) zero = refl
owner_is (x ∷ owners) (suc r) = owner_is owners r

-- ---- links

module _ (o : Overlay) (owners : ℕ → Option ℕ) where
  pub links_none : (links : List Link) → links ≡ [] → AreOwnerLinks o owners 0 links
  links_none links none = subst (AreOwnerLinks o owners 0) (sym none) (record {
    sound = λ link c. absurd (omega (arith, c.1));
    complete = λ k i below. absurd (omega (arith, below));
  })

  module _ (k : ℕ) (links : List Link) (below : k < length o.edges) (from to : ℕ) (is_from : from ≡ region_above o k) (is_to : to ≡ region_below o k) (so_far : AreOwnerLinks o owners k links) where
    pub links_same : ((i : ℕ) → owners from ≡ Some i → owners to ≡ Some i → ⊥) → AreOwnerLinks o owners (k + 1) links
    links_same other = record {
      sound = so_far.sound;
      complete = λ j i lt above under. elim (cases_eq j k) [
        | inl here ↦ absurd (other i (ap owners is_from ∙ ap (λ n. owners (region_above o n)) (sym here) ∙ above) (ap owners is_to ∙ ap (λ n. owners (region_below o n)) (sym here) ∙ under))
        | inr apart ↦ so_far.complete j i (omega (arith, lt, apart)) above under
      ];
    }

    pub links_more : (i : ℕ) → owners from ≡ Some i → owners to ≡ Some i → AreOwnerLinks o owners (k + 1) (links ++ record { from = from; to = to } ∷ [])
    links_more i owns_from owns_to = record {
      sound = λ link c. elim (Contains-push_cases links (record { from = from; to = to }) link c) [
        | inl old ↦ so_far.sound link old
        | inr new ↦ subst (IsOwnerLink o owners) new (record { edge = k; listed = below; from = is_from; to = is_to; owner = i; owns_from = owns_from; owns_to = owns_to })
      ];
      complete = λ j h lt above under. elim (cases_eq j k) [
        | inl here ↦
            subst (λ n. Contains (links ++ record { from = from; to = to } ∷ []) (record { from = region_above o n; to = region_below o n })) (sym here)
            (subst (λ (l : Link). Contains (links ++ record { from = from; to = to } ∷ []) l) (λ t. record { from = is_from t; to = is_to t }) (Contains-push links (record { from = from; to = to })))
        | inr apart ↦ Contains-append_left links (record { from = from; to = to } ∷ []) _ (so_far.complete j h (omega (arith, lt, apart)) above under)
      ];
    }

  -- ---- ways over links are ways within an owner

  module _ (links : List Link) (are_links : AreOwnerLinks o owners (length o.edges) links) where
    tied_beside : (i r s : ℕ) → owners r ≡ Some i → IsTied links r s → AreBeside o r s × (owners s ≡ Some i)
    tied_beside i r s owned tied =
        let link = are_links.sound tied.link tied.among in
        elim tied.ends [
          | inl on ↦ (
            record { edge = link.edge; listed = link.listed; sides = inl (sym link.from ∙ on.0, sym link.to ∙ on.1) },
            ap owners (sym on.1) ∙ link.owns_to ∙ sym link.owns_from ∙ ap owners on.0 ∙ owned,
          )
          | inr back ↦ (
            record { edge = link.edge; listed = link.listed; sides = inr (sym link.from ∙ back.0, sym link.to ∙ back.1) },
            ap owners (sym back.0) ∙ link.owns_from ∙ sym link.owns_to ∙ ap owners back.1 ∙ owned,
          )
        ]

    pub leads_within : (i r : ℕ) (way : List ℕ) (s : ℕ) → owners r ≡ Some i → LeadsAlong links r way s → LeadsWithin o owners i r way s
    leads_within i r [] s owned leads = (owned, leads)
    leads_within i r (g ∷ way) s owned leads =
        let next = tied_beside i r g owned leads.0 in
        (owned, next.0, leads_within i g way s next.1 leads.1)

    beside_tied : (i r s : ℕ) → owners r ≡ Some i → owners s ≡ Some i → AreBeside o r s → IsTied links r s
    beside_tied i r s owns_r owns_s beside =
        let k = beside.edge in
        elim beside.sides [
          | inl on ↦ record {
            link = record { from = region_above o k; to = region_below o k };
            among = are_links.complete k i beside.listed (ap owners on.0 ∙ owns_r) (ap owners on.1 ∙ owns_s);
            ends = inl (on.0, on.1);
          }
          | inr back ↦ record {
            link = record { from = region_above o k; to = region_below o k };
            among = are_links.complete k i beside.listed (ap owners back.0 ∙ owns_s) (ap owners back.1 ∙ owns_r);
            ends = inr (back.0, back.1);
          }
        ]

    owned_first : (i r : ℕ) (way : List ℕ) (s : ℕ) → LeadsWithin o owners i r way s → owners r ≡ Some i
    owned_first i r [] s leads = leads.0
    owned_first i r (g ∷ way) s leads = leads.0

    pub leads_along : (i r : ℕ) (way : List ℕ) (s : ℕ) → LeadsWithin o owners i r way s → LeadsAlong links r way s
    leads_along i r [] s leads = leads.1
    leads_along i r (g ∷ way) s leads = (beside_tied i r g leads.0 (owned_first i g way s leads.2) leads.1, leads_along i g way s leads.2)

    -- the least region that links connect a region with is that of its part
    pub least_in_part : (nodes : ℕ) (numbers : List ℕ) → AreComponents nodes links numbers → (i r : ℕ) → r < nodes → owners r ≡ Some i → IsLeastInPart o owners r (slice_index numbers r)
    least_in_part nodes numbers are i r below owned = record {
      owner = i;
      owned = owned;
      in_part = (let own = are.own r below in (own.0, leads_within i r own.0 (slice_index numbers r) owned own.1));
      least = λ s leads. are.least r s below (leads.0, leads_along i r leads.0 s leads.1);
    }

  -- ---- parts of the first sides

  pub record ArePartsTo (first : ℕ) (parts : List (Option Part)) : Type 0 where
    pub count : length parts ≡ first
    pub each : (n : ℕ) → n < first → IsPartAt o owners (region_at o n) (part_at parts n)

  pub parts_none : (parts : List (Option Part)) → parts ≡ [] → ArePartsTo 0 parts
  parts_none parts none = record { count = ap length none; each = λ n below. absurd (omega (arith, below)) }

  at_before : (parts more : List (Option Part)) (n : ℕ) → n < length parts → part_at (parts ++ more) n ≡ part_at parts n
  at_before [] more n below = absurd (omega arith)
  at_before (p ∷ parts) more zero below = refl
  at_before (p ∷ parts) more (suc n) below = at_before parts more n (omega arith)

  at_end : (parts : List (Option Part)) (p : Option Part) → part_at (parts ++ p ∷ []) (length parts) ≡ p
  at_end [] p = refl
  at_end (q ∷ parts) p = at_end parts p

  pub parts_more : (first : ℕ) (parts : List (Option Part)) (part : Option Part) → IsPartAt o owners (region_at o first) part → ArePartsTo first parts → ArePartsTo (first + 1) (parts ++ part ∷ [])
  parts_more first parts part here so_far = record {
    count = length-append parts (part ∷ []) ∙ omega (arith, so_far.count);
    each = λ n below. elim (cases_eq n first) [
      | inl last ↦
          subst (λ m. IsPartAt o owners (region_at o m) (part_at (parts ++ part ∷ []) m)) (so_far.count ∙ sym last)
          (subst (IsPartAt o owners (region_at o (length parts))) (sym (at_end parts part)) (subst (λ m. IsPartAt o owners (region_at o m) part) (sym so_far.count) here))
      | inr before ↦
          subst (IsPartAt o owners (region_at o n)) (sym (at_before parts (part ∷ []) n (omega (arith, below, before, so_far.count))))
          (so_far.each n (omega (arith, below, before)))
    ];
  }

-- the part of a region, from the least numbers
pub part_is : (o : Overlay) (owners : ℕ → Option ℕ) (links : List Link) → AreOwnerLinks o owners (length o.edges) links → (nodes : ℕ) (numbers : List ℕ) → AreComponents nodes links numbers
    → (r : ℕ) → r < nodes → IsPartAt o owners r (option_map (λ i. record { least = slice_index numbers r }) (owners r))
part_is o owners links are nodes numbers components r below = by (owners r) refl
  where
    by : (owner : Option ℕ) → owners r ≡ owner → IsPartAt o owners r (option_map (λ i. record { least = slice_index numbers r }) owner)
    by None is = is
    by (Some i) is = least_in_part o owners links are nodes numbers components i r below is

-- which is a node
pub part_below : (links : List Link) (nodes : ℕ) (numbers : List ℕ) → AreComponents nodes links numbers → (r : ℕ) → r < nodes → (owner : Option ℕ)
    → IfSome (option_map (λ i. record { least = slice_index numbers r }) owner) (λ (q : Part). q.least < nodes)
part_below links nodes numbers components r below None = tt
part_below links nodes numbers components r below (Some i) = let low = components.least r r below ([], refl) in omega (arith, low, below)

pub parts_all : (o : Overlay) (owners : ℕ → Option ℕ) (first : ℕ) (parts : List (Option Part)) → first ≡ 2 * length o.edges → ArePartsTo o owners first parts → ArePartsOf o owners parts
parts_all o owners first parts all so_far = record { count = so_far.count ∙ all; each = λ n below. so_far.each n (omega (arith, below, all)) }
