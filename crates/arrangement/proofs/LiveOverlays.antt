-- An overlay of uses in range that meet in ends alone and have even ends is live, and its labels tell the sides of an edge apart.
use mathlib.Core.List.{[], ◌∷◌}
use Rattle.std.proofs.Common.{◌≡◌, refl, sym, ◌∙◌, ap, subst, ℕ, zero, suc, ◌<◌, ◌%◌, ◌==◌, ◌&&◌, Bool, true, false, cond, List, ◌++◌, inl, inr, arith}
use Rattle.std.specs.Prelude.{All, Contains, filter, Some, slice_get, flat_map, option_to_list}
use Rattle.std.proofs.lemmas.Bool.{false≢true, and_parts, cases_order}
use Rattle.std.proofs.lemmas.Bool.Decides.{Decides-eqb}
use Rattle.std.proofs.lemmas.List.{get_or_default}
use Rattle.std.proofs.lemmas.List.Elements.{All-contains, Contains-append_left, Contains-push_cases}
use Rattle.cov_types.specs.declared.edge_use.EdgeUse.{EdgeUse}
use Rattle.cov_types.specs.declared.seg.Seg.{Seg}
use Rattle.cov_types.specs.Range.{IsSegInRange}
use Rattle.cov_types.specs.Uses.{ends_inside, HasEvenEnds}
use Rattle.plane.specs.Label.{numbers_below, label_at}
use Rattle.plane.specs.Parity.{member_holds}
use Rattle.plane.specs.Point.{Point}
use Rattle.plane.specs.Region.{side_points, IsRegionOf}
use Rattle.plane.specs.Segment.{upper, lower}
use Rattle.crossing_laws.specs.Across.{AllMeetInEnds, is_same_seg}
use Rattle.crossing_laws.proofs.Changes.{member_holds-across}
use Rattle.crossing_laws.proofs.Coverages.{swept_in_range}
use Rattle.crossing_laws.proofs.Lists.{contains_there}
use Rattle.crossing_laws.proofs.Sums.{label-joined}
use Rattle.sector_laws.specs.Sector.{IsPlanar}
use Rattle.arrangement.specs.Live.{IsLiveOverlay}
use Rattle.arrangement.specs.Noding.{segments, IsOdd, odd_uses}
use Rattle.arrangement.specs.Overlay.{Overlay, IsOverlayOf, label_of}
use Rattle.arrangement.proofs.Labels.{mapped}
use Rattle.arrangement.proofs.OddUses.{some_passes, live_odd_again, odd_use_listed, are_odd, same_parity}

-- ---- filters

pub kept : {X : Type 0} (p : X → Bool) (xs : List X) (x : X) → Contains xs x → p x ≡ true → Contains (filter p xs) x
kept p [] x (k, inside, is) h = absurd (omega arith)
kept {X} p (y ∷ xs) x (zero, inside, is) h = by (p y) (ap p is ∙ h)
  where
    by : (b : Bool) → b ≡ true → Contains (cond b (y ∷ filter p xs) (filter p xs)) x
    by true e = (0, omega arith, is)
    by false e = absurd (false≢true e)
kept {X} p (y ∷ xs) x (suc k, inside, is) h = by (p y) (kept p xs x (k, omega arith, is) h)
  where
    by : (b : Bool) → Contains (filter p xs) x → Contains (cond b (y ∷ filter p xs) (filter p xs)) x
    by true c = contains_there y x (filter p xs) c
    by false c = c

pub kept_is : {X : Type 0} (p : X → Bool) (xs : List X) (x : X) → Contains (filter p xs) x → Contains xs x × (p x ≡ true)
kept_is p [] x (k, inside, is) = absurd (omega arith)
kept_is {X} p (y ∷ xs) x has = by (kept_is p xs x) (p y) refl has
  where
    more : Contains xs x × (p x ≡ true) → Contains (y ∷ xs) x × (p x ≡ true)
    more rest = (contains_there y x xs rest.0, rest.1)

    by : (Contains (filter p xs) x → Contains xs x × (p x ≡ true)) → (b : Bool) → p y ≡ b → Contains (cond b (y ∷ filter p xs) (filter p xs)) x → Contains (y ∷ xs) x × (p x ≡ true)
    by rest false e c = more (rest c)
    by rest true e (zero, inside, is) = ((0, omega arith, is), sym (ap p is) ∙ e)
    by rest true e (suc k, inside, is) = more (rest (k, omega arith, is))

last_number : (xs : List ℕ) (n m : ℕ) → m ≡ n → Contains (xs ++ n ∷ []) m
last_number [] n m is = (0, omega arith, sym is)
last_number (x ∷ xs) n m is = contains_there x m (xs ++ n ∷ []) (last_number xs n m is)

pub number_below : (n m : ℕ) → m < n → Contains (numbers_below n) m
number_below zero m h = absurd (omega arith)
number_below (suc n) m h =
    elim (cases_order m n) [
      | inl is ↦ last_number (numbers_below n) n m is
      | inr apart ↦ elim apart [
        | inl less ↦ Contains-append_left (numbers_below n) (n ∷ []) m (number_below n m less)
        | inr more ↦ absurd (omega arith)
      ]
    ]

pub below_number : (n m : ℕ) → Contains (numbers_below n) m → m < n
below_number zero m (k, inside, is) = absurd (omega arith)
below_number (suc n) m h =
    elim (Contains-push_cases (numbers_below n) n m h) [
      | inl before ↦ (let b = below_number n m before in omega arith)
      | inr last ↦ omega arith
    ]

-- ---- labels of the sides

-- the label of a region is that of each of its points
pub label_is : (o : Overlay) → IsLiveOverlay o → (p : Point) (r : ℕ) → IsRegionOf o.edges p r → label_of o r ≡ label_at o.uses o.members p
label_is o live p r region =
    at_side (slice_get (side_points o.edges) r) region.joined.side
    ∙ sym (label-joined o.uses o.members o.edges live.listed (swept_in_range o.edges live.planar.in_range) live.even p region.joined.at region.joined.joined)
  where
    ends : {X : Type 0} (xs : List X) → xs ++ [] ≡ xs
    ends [] = refl
    ends (x ∷ xs) = ap (λ ys. x ∷ ys) (ends xs)

    at_side : (found : _) → found ≡ Some region.joined.at → flat_map (label_at o.uses o.members) (option_to_list found) ≡ label_at o.uses o.members region.joined.at
    at_side found is = ap (λ f. flat_map (label_at o.uses o.members) (option_to_list f)) is ∙ ends (label_at o.uses o.members region.joined.at)

-- some member below the number holds just one of the two side points of an edge
pub side_holder : (o : Overlay) → IsLiveOverlay o → (e : Seg) → Contains o.edges e → (m : ℕ) × ((m < o.members) × ¬ (member_holds o.uses m (lower e) ≡ member_holds o.uses m (upper e)))
side_holder o live e has =
    let found = live.odd e has in
    let m = found.0 in
    let meets : AllMeetInEnds e (segments o.uses) = mapped (λ (u : EdgeUse). u.seg) (λ f. IsSegInRange f × _) o.uses (λ u i. (let listed = live.listed u i in (All-contains IsSegInRange o.edges u.seg live.planar.in_range listed, live.planar.noded e u.seg has listed))) in
    let hit = some_passes (λ u. (u.member == m) && is_same_seg e u.seg) o.uses found.1 in
    let its = (Decides-eqb (hit.0).member m).0 (and_parts _ _ hit.1.1).0 in
    let below = All-contains (λ u. u.member < o.members) o.uses hit.0 live.below hit.1.0 in
    (m, (omega arith, λ same. odd_or_even _ found.1 ((member_holds-across e o.uses m (All-contains IsSegInRange o.edges e live.planar.in_range has) meets).0 same)))
  where
    odd_or_even : (n : ℕ) → n % 2 ≡ 1 → n % 2 ≡ 0 → ⊥
    odd_or_even n h k = omega arith

-- ---- an overlay is live

pub live_overlay : (uses : List EdgeUse) (members : ℕ) (o : Overlay) → IsOverlayOf uses members o → IsPlanar o.edges → HasEvenEnds uses → All (λ u. u.member < members) uses → IsLiveOverlay o
live_overlay uses members o h planar even below = record {
  planar = planar;
  odd = λ e has. (let found = (h.live.exact e).0 has in (found.0, subst (λ us. IsOdd us found.0 e) (sym h.by_odd) (live_odd_again uses o.edges h.odd h.live found.0 e found.1)));
  listed = λ u i. odd_use_listed o.edges h.odd u (subst (λ us. Contains us u) h.by_odd i);
  below = subst (λ us. All (λ u. u.member < o.members) us) (sym h.by_odd) (each_contains (odd_uses o.edges h.odd) (λ u i. subst (λ n. u.member < n) (sym h.count) (odd_below u i)));
  even = subst HasEvenEnds (sym h.by_odd) (λ inside m. sym (same_parity uses o.edges h.odd h.live.ascending h.live.pairs has_odd (λ u. cond (u.member == m) (ends_inside inside u.seg) 0)) ∙ even inside m);
  regions = h.numbered;
}
  where
    has_odd : (m : ℕ) (e : Seg) → IsOdd uses m e → Contains o.edges e
    has_odd m e is_odd = (h.live.exact e).1 (m, is_odd)

    each_contains : (us : List EdgeUse) → ((u : EdgeUse) → Contains us u → u.member < o.members) → All (λ u. u.member < o.members) us
    each_contains us each k d inside = each _ (k, inside, get_or_default us k _ d inside)

    odd_below : (u : EdgeUse) → Contains (odd_uses o.edges h.odd) u → u.member < members
    odd_below u i =
        let is_odd = (are_odd uses o.edges h.odd h.live.ascending h.live.pairs has_odd u).0 i in
        let hit = some_passes (λ v. (v.member == u.member) && is_same_seg u.seg v.seg) uses is_odd in
        let its = (Decides-eqb (hit.0).member u.member).0 (and_parts _ _ hit.1.1).0 in
        let b = All-contains (λ v. v.member < members) uses hit.0 below hit.1.0 in
        omega arith
