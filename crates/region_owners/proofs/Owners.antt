-- A region has one owner at most, which is a member, and owners exist.
use mathlib.Core.List.{[], ◌∷◌}
use Rattle.std.proofs.Common.{◌≡◌, refl, sym, ◌∙◌, ap, subst, ℕ, ◌<◌, Bool, true, false, cond, nat_lt, List, IsTrue, ◌↔◌, inl, inr, Option, Some, None, arith}
use Rattle.std.specs.Prelude.{Contains, slice_get, option_map, unwrap_or}
use Rattle.std.proofs.lemmas.Bool.{true≢false}
use Rattle.std.proofs.lemmas.List.Elements.{All-contains}
use Rattle.std.proofs.lemmas.Option.{none-some, slice_get_within, get_or_from_slice_get}
use Rattle.plane.specs.Label.{numbers_below}
use Rattle.arrangement.specs.Measure.{owned_border}
use Rattle.arrangement.specs.Overlay.{Overlay, IsRegion, label_of}
use Rattle.arrangement.proofs.LiveOverlays.{kept_is, below_number}
use Rattle.region_owners.specs.declared.candidate.Candidate.{Candidate}
use Rattle.region_owners.specs.Candidates.{candidates_of}
use Rattle.region_owners.specs.Owner.{Rule, IsOwner, AreOwners, IsNarrowGap, label_owner, owner_by, neighbour_of, neighbours_of}
use Rattle.region_owners.proofs.Held.{label_below, ordered}

pub owner_unique : {State : Type 0} (rule : Rule State) (state : State) (o : Overlay) (w r : ℕ) (a b : Option ℕ) → IsOwner rule state o w r a → IsOwner rule state o w r b → a ≡ b
owner_unique rule state o w r a b (inl h) (inl k) = h.1 ∙ sym k.1
owner_unique rule state o w r a b (inl h) (inr k) = absurd (k.0 h.0)
owner_unique rule state o w r a b (inr h) (inl k) = absurd (h.0 k.0)
owner_unique rule state o w r a b (inr h) (inr k) = h.1 ∙ sym k.1

-- ---- owners are members

placed : {X : Type 0} (xs : List X) (k : ℕ) (x : X) → slice_get xs k ≡ Some x → Contains xs x
placed xs k x h = (k, slice_get_within xs k x h, get_or_from_slice_get xs k x x h)

member_of : (found : Option Candidate) (i : ℕ) → option_map (λ (c : Candidate). c.member) found ≡ Some i → (c : Candidate) × ((found ≡ Some c) × (c.member ≡ i))
member_of None i h = absurd (none-some i h)
member_of (Some c) i h = (c, (refl, ap (λ o. unwrap_or o i) h))

label_owner_below : {State : Type 0} (rule : Rule State) (state : State) (o : Overlay) (r i : ℕ) → label_owner rule state o r ≡ Some i → i < o.members
label_owner_below rule state o r i h = by (label_of o r) refl h
  where
    by : (label : List ℕ) → label_of o r ≡ label → owner_by rule state o r label ≡ Some i → i < o.members
    by [] is none = absurd (none-some i none)
    by (j ∷ []) is one =
        let same : j ≡ i = ap (λ o. unwrap_or o j) one in
        label_below o r i (subst (λ l. Contains l i) (sym is) (0, omega arith, same))
    by (j ∷ k ∷ more) is pick =
        let c = member_of _ i pick in
        let below = All-contains (λ (c : Candidate). c.member < o.members) (candidates_of o r) c.0 (ordered o r).below (placed (candidates_of o r) _ c.0 c.1.0) in
        subst (λ j. j < o.members) c.1.1 below

pub owner_below : {State : Type 0} (rule : Rule State) (state : State) (o : Overlay) (w r i : ℕ) → IsOwner rule state o w r (Some i) → i < o.members
owner_below rule state o w r i (inr h) = label_owner_below rule state o r i (sym h.1)
owner_below rule state o w r i (inl h) =
    let owners = label_owner rule state o in
    below_number o.members i (kept_is (λ i. nat_lt 0 (owned_border o owners r i)) (numbers_below o.members) i (placed (neighbours_of o owners r) _ i (sym h.1))).0

-- ---- owners exist

pub owners_exist : {State : Type 0} (rule : Rule State) (state : State) (o : Overlay) (w : ℕ) (narrow : ℕ → Bool)
    → ((r : ℕ) → IsRegion o.edges r → IsTrue (narrow r) ↔ IsNarrowGap o r w) → (owners : ℕ → Option ℕ) × AreOwners rule state o w owners
owners_exist rule state o w narrow told = (λ r. chosen r (narrow r), λ r region. by r region (narrow r) refl)
  where
    chosen : ℕ → Bool → Option ℕ
    chosen r b = cond b (neighbour_of o (label_owner rule state o) r) (label_owner rule state o r)

    by : (r : ℕ) → IsRegion o.edges r → (b : Bool) → narrow r ≡ b → IsOwner rule state o w r (cond b (neighbour_of o (label_owner rule state o) r) (label_owner rule state o r))
    by r region true is = inl ((told r region).0 is, refl)
    by r region false is = inr ((λ n. true≢false (sym ((told r region).1 n) ∙ is)), refl)

pub no_width : {State : Type 0} (rule : Rule State) (state : State) (o : Overlay) → AreOwners rule state o 0 (label_owner rule state o)
no_width rule state o r region = inr ((λ h. (let wide = h.narrow.wide in omega arith)), refl)
