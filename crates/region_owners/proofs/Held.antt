-- A region that some member holds has an owner by a lawful rule, and a gap a neighbour.
use mathlib.Core.List.{[], ◌∷◌}
use Rattle.std.proofs.Common.{◌≡◌, refl, sym, ◌∙◌, ap, subst, ℕ, zero, suc, ◌<◌, true, nat_lt, List, get_or, arith}
use Rattle.std.specs.Prelude.{AllPairs, Contains, length, Option, Some, None, option_map, slice_get, flat_map, option_to_list}
use Rattle.std.proofs.lemmas.Bool.{and_parts}
use Rattle.std.proofs.lemmas.Bool.Decides.{nat_tests}
use Rattle.std.proofs.lemmas.List.{append-nil, length-map}
use Rattle.std.proofs.lemmas.List.Elements.{All-map, All-weaker, All-contains_itself, Contains-get_or}
use Rattle.std.proofs.lemmas.List.Sums.{AllPass-from_list_all}
use Rattle.std.proofs.lemmas.Option.{none-some, slice_get-map, slice_get-get_or}
use Rattle.plane.specs.Label.{numbers_below, label_at}
use Rattle.plane.specs.Parity.{member_holds}
use Rattle.plane.specs.Point.{Point}
use Rattle.plane.specs.Region.{side_points}
use Rattle.arrangement.specs.Measure.{member_area2, border}
use Rattle.arrangement.specs.Ascending.{ascend_by}
use Rattle.arrangement.specs.Overlay.{Overlay, label_of}
use Rattle.arrangement.proofs.Ascending.{ascend_mapped, label_ascends}
use Rattle.arrangement.proofs.LiveOverlays.{kept_is, below_number}
use Rattle.region_owners.specs.declared.candidate.Candidate.{Candidate}
use Rattle.region_owners.specs.Candidates.{candidates_of}
use Rattle.region_owners.specs.Owner.{Rule, IsLawful, picked_owner, owner_by, label_owner, state_before, facts_of}
use Rattle.region_owners.specs.Laws.{AreLawful, AreOrdered}
use Rattle.region_owners.proofs.Picks.{picks}

-- ---- candidates

pairs_of_ascending : {X : Type 0} (key : X → ℕ) (xs : List X) → ascend_by key xs ≡ true → AllPairs (λ x y. key x < key y) xs
pairs_of_ascending key [] h i j d before within = absurd (omega arith)
pairs_of_ascending key (x ∷ xs) h i zero d before within = absurd (omega arith)
pairs_of_ascending key (x ∷ xs) h zero (suc j) d before within =
    let all = AllPass-from_list_all (λ y. nat_lt (key x) (key y)) xs (and_parts _ _ h).0 in
    less (key x) (key (get_or xs j d)) (all j d (omega arith))
  where
    less : (a b : ℕ) → nat_lt a b ≡ true → a < b
    less a b t = grind (arith, nat_tests)
pairs_of_ascending key (x ∷ xs) h (suc i) (suc j) d before within = pairs_of_ascending key xs (and_parts _ _ h).1 i j d (omega arith) (omega arith)

pub label_below : (o : Overlay) (r i : ℕ) → Contains (label_of o r) i → i < o.members
label_below o r i h = by (slice_get (side_points o.edges) r) h
  where
    by : (found : Option Point) → Contains (flat_map (label_at o.uses o.members) (option_to_list found)) i → i < o.members
    by None (k, inside, is) = absurd (omega arith)
    by (Some p) c =
        let in_label : Contains (label_at o.uses o.members p) i = subst (λ l. Contains l i) (append-nil (label_at o.uses o.members p)) c in
        below_number o.members i (kept_is (λ member. member_holds o.uses member p) (numbers_below o.members) i in_label).0

pub ordered : (o : Overlay) (r : ℕ) → AreOrdered o r
ordered o r = record {
  ascending = pairs_of_ascending (λ c. c.member) (candidates_of o r) (ascend_mapped (λ c. c.member) _ (label_of o r) (label_ascends o r));
  below = All-map (λ c. c.member < o.members) _ (label_of o r) (All-weaker (Contains (label_of o r)) (λ i. i < o.members) (label_below o r) (label_of o r) (All-contains_itself (label_of o r)));
  count = length-map (label_of o r) _;
}

-- ---- lawful rules

pub lawful : {State : Type 0} → AreLawful State
lawful {State} = record {
  index = λ state facts some. (picks facts.candidates some).index;
  greatest = λ state facts some. (picks facts.candidates some).greatest.0;
  least = λ state facts some. (picks facts.candidates some).least.0;
  longest = λ state facts some. (picks facts.candidates some).longest.0;
}

-- ---- who owns a region that is held

IsHolder : {State : Type 0} → Rule State → State → Overlay → ℕ → List ℕ → ℕ → Type 0
IsHolder rule state o r label i = (owner_by rule state o r label ≡ Some i) × Contains (label_of o r) i

picked : {State : Type 0} (rule : Rule State) (state : State) (o : Overlay) (r : ℕ) → IsLawful rule → 0 < length (label_of o r) → (i : ℕ) × ((picked_owner rule state o r ≡ Some i) × Contains (label_of o r) i)
picked rule state o r law some =
    let place = rule.pick (state_before rule state o r) (facts_of o r) in
    let many : length (candidates_of o r) ≡ length (label_of o r) = (ordered o r).count in
    let within : place < length (candidates_of o r) = law (state_before rule state o r) (facts_of o r) (omega arith) in
    let inside : place < length (label_of o r) = omega arith in
    let i = get_or (label_of o r) place 0 in
    let at : slice_get (label_of o r) place ≡ Some i = slice_get-get_or (label_of o r) place 0 inside in
    let named : option_map (λ (c : Candidate). c.member) (slice_get (candidates_of o r) place) ≡ Some i =
    ap (option_map (λ (c : Candidate). c.member)) (slice_get-map _ (label_of o r) place) ∙ named_after (slice_get (label_of o r) place) i at in
    (i, (named, Contains-get_or (label_of o r) place 0 inside))
  where
    named_after : (found : Option ℕ) (i : ℕ) → found ≡ Some i → option_map (λ (c : Candidate). c.member) (option_map (λ j. record { member = j; area2 = member_area2 o.uses j; border = border o r j }) found) ≡ Some i
    named_after None i e = absurd (none-some i e)
    named_after (Some j) i e = e

pub held_owner : {State : Type 0} (rule : Rule State) (state : State) (o : Overlay) (r : ℕ) → IsLawful rule → 0 < length (label_of o r)
    → (i : ℕ) × ((label_owner rule state o r ≡ Some i) × Contains (label_of o r) i)
held_owner rule state o r law some = by (label_of o r) refl
  where
    by : (label : List ℕ) → label_of o r ≡ label → (i : ℕ) × ((owner_by rule state o r label ≡ Some i) × Contains (label_of o r) i)
    by [] is = absurd (omega (arith, ap length is))
    by (i ∷ []) is = (i, (refl, subst (λ l. Contains l i) (sym is) (0, omega arith, refl)))
    by (i ∷ j ∷ more) is = picked rule state o r law some
