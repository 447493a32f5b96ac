-- The owners of sides, by a rule that is asked region by region, are those of the regions.
use mathlib.Core.List.{[], ◌∷◌}
use Rattle.std.proofs.Common.{◌≡◌, inr, refl, sym, ◌∙◌, ap, subst, ℕ, ◌*◌, ◌<◌, ◌≤◌, ◌==◌, Bool, true, false, cond, List, length, map, get_or, Option, Some, None, IfSome, arith}
use Rattle.std.specs.Prelude.{All, option_map, slice_get}
use Rattle.std.proofs.lemmas.Bool.{eq-eqb, ne_eqb}
use Rattle.std.proofs.lemmas.List.{length-map}
use Rattle.std.proofs.lemmas.Option.{unwrap_or-slice_get, slice_get-get_or}
use Rattle.plane.specs.Label.{numbers_below}
use Rattle.plane.specs.Region.{IsOuterRegion, AreRegions}
use Rattle.crossing_laws.proofs.Located.{one_region, side_within}
use Rattle.arrangement.specs.Overlay.{Overlay, region_at, IsRegion, label_of}
use Rattle.region_owners.specs.Candidates.{candidates_of}
use Rattle.region_owners.specs.Facts.{RegionFacts}
use Rattle.region_owners.specs.declared.candidate.Candidate.{Candidate}
use Rattle.region_owners.specs.Owner.{Rule, IsLawful, facts_of, IsNarrowGap, owner_by, label_owner, state_before}
use Rattle.region_owners.proofs.Owners.{owner_below}
use Rattle.cov_build.specs.Owners.{owner_in}
use Rattle.cov_clean.specs.Asked.{owner_in_state, side_owner}
use Rattle.cov_clean.proofs.Numbers.{numbers_count, made_at}

not_narrow : (o : Overlay) (r : ℕ) → ¬ IsNarrowGap o r 0
not_narrow o r narrow = let wide = narrow.narrow.wide in omega arith

-- ---- picks

-- a lawful rule picks one of the candidates
pub pick_within : {State : Type 0} (rule : Rule State) → IsLawful rule → (now : State) (facts : RegionFacts) (items : List Candidate) (n place : ℕ) → items ≡ facts.candidates → length facts.candidates ≡ n → 2 ≤ n
    → place ≡ rule.pick now facts → place < length items
pick_within rule law now facts items n place same count many is =
    let within = law now facts (omega arith) in
    omega (arith, ap length same)

-- which is at its place in the list
pub picked_member : (items candidates : List Candidate) (place pick : ℕ) (found : Candidate) → items ≡ candidates → place ≡ pick → place < length items → found ≡ get_or items place found
    → Some found.member ≡ option_map (λ c. c.member) (slice_get candidates pick)
picked_member items candidates place pick found same at less is =
    ap (option_map (λ (c : Candidate). c.member)) (ap Some is ∙ sym (slice_get-get_or items place found less) ∙ (λ i. slice_get (same i) (at i)))

module _ {State : Type 0} (rule : Rule State) (state : State) (o : Overlay) where
  -- ---- one side

  there : (r : ℕ) (label : List ℕ) → owner_in_state rule (state_before rule state o r) o r label ≡ owner_by rule state o r label
  there r [] = refl
  there r (i ∷ []) = refl
  there r (i ∷ j ∷ more) = refl

  -- of several members it is the one that is picked
  pub several : (now : State) (r : ℕ) (label : List ℕ) → 2 ≤ length label
      → option_map (λ c. c.member) (slice_get (candidates_of o r) (rule.pick now (facts_of o r))) ≡ owner_in_state rule now o r label
  several now r [] many = absurd (omega arith)
  several now r (i ∷ []) many = absurd (omega arith)
  several now r (i ∷ j ∷ more) many = refl

  own_side : (n : ℕ) → region_at o n ≡ n → side_owner rule state o n ≡ label_owner rule state o n
  own_side n own = ap (λ (b : Bool). cond b (label_owner rule state o n) None) (eq-eqb (region_at o n) n own)

  pub side_own : (n : ℕ) (now : State) (owner : Option ℕ) → region_at o n ≡ n → now ≡ state_before rule state o n → owner ≡ owner_in_state rule now o n (label_of o n)
      → owner ≡ side_owner rule state o n
  side_own n now owner own before is = is ∙ ap (λ s. owner_in_state rule s o n (label_of o n)) before ∙ there n (label_of o n) ∙ sym (own_side n own)

  pub side_other : (n : ℕ) → ¬ (region_at o n ≡ n) → None ≡ side_owner rule state o n
  side_other n other = ap (λ (b : Bool). cond b (label_owner rule state o n) None) (sym (ne_eqb (region_at o n) n other))

  -- ---- all sides

  module _ (regions : AreRegions o.edges o.numbers) (owners : List (Option ℕ)) (are : owners ≡ map (side_owner rule state o) (numbers_below (2 * length o.edges))) where
    pub owners_count : length owners ≡ 2 * length o.edges
    owners_count = ap length are ∙ length-map (numbers_below (2 * length o.edges)) (side_owner rule state o) ∙ numbers_count (2 * length o.edges)

    read : (n : ℕ) (d : Option ℕ) → n < 2 * length o.edges → get_or owners n d ≡ side_owner rule state o n
    read n d less = ap (λ xs. get_or xs n d) are ∙ made_at (side_owner rule state o) (2 * length o.edges) n d less

    pub of_region : (r : ℕ) → IsRegion o.edges r → owner_in owners r ≡ label_owner rule state o r
    of_region r is =
        let own = one_region o.edges is.at (region_at o r) r (regions.each r is.at is.side) is.own in
        unwrap_or-slice_get owners r None ∙ read r None (side_within o.edges r is.at is.side) ∙ own_side r own

    some_below : (n : ℕ) (found : Option ℕ) → label_owner rule state o n ≡ found → IfSome found (λ i. i < o.members)
    some_below n None is = tt
    some_below n (Some i) is = owner_below rule state o 0 n i (inr (not_narrow o n, sym is))

    pub owners_below : All (λ found. IfSome found (λ i. i < o.members)) owners
    owners_below n d within =
        let less : n < 2 * length o.edges = omega (arith, owners_count) in
        subst (λ found. IfSome found (λ i. i < o.members)) (sym (read n d less)) (by (region_at o n == n))
      where
        by : (b : Bool) → IfSome (cond b (label_owner rule state o n) None) (λ i. i < o.members)
        by true = some_below n (label_owner rule state o n) refl
        by false = tt

    pub owners_outer : ((n : ℕ) → IsOuterRegion o.edges n → label_of o n ≡ []) → (n : ℕ) → IsOuterRegion o.edges n → owner_in owners n ≡ None
    owners_outer empty n outer =
        unwrap_or-slice_get owners n None ∙ read n None (side_within o.edges n outer.outer.at outer.outer.side) ∙ by (region_at o n == n)
      where
        by : (b : Bool) → cond b (label_owner rule state o n) None ≡ None
        by true = ap (owner_by rule state o n) (empty n outer)
        by false = refl
