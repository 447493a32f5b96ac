-- The labels of the two sides of a live edge differ, and the outer region has the empty label.
use mathlib.Core.List.{[], ◌∷◌}
use Rattle.std.proofs.Common.{◌≡◌, refl, ◌∙◌, ap, subst, ℕ, zero, suc, ◌+◌, ◌%◌, ◌==◌, ◌&&◌, Bool, false, cond, List, map, arith}
use Rattle.std.specs.Prelude.{All, Contains, count_by}
use Rattle.std.proofs.lemmas.Bool.{and_right, false_from_ne_true}
use Rattle.std.proofs.lemmas.Int.{ints}
use Rattle.std.proofs.lemmas.List.Elements.{All-contains}
use Rattle.std.proofs.lemmas.List.Sums.{sum_by-cons}
use Rattle.cov_types.specs.declared.edge_use.EdgeUse.{EdgeUse}
use Rattle.cov_types.specs.declared.seg.Seg.{Seg}
use Rattle.cov_types.specs.Range.{IsSegInRange}
use Rattle.plane.specs.Noded.{MeetInEnds}
use Rattle.plane.specs.Parity.{member_holds}
use Rattle.plane.specs.Ray.{sweep, is_over}
use Rattle.plane.specs.Region.{far_point}
use Rattle.plane.specs.Segment.{upper, lower}
use Rattle.plane.proofs.Over.{over-is}
use Rattle.crossing_laws.specs.Across.{AllMeetInEnds}
use Rattle.crossing_laws.proofs.Changes.{member_holds-across}
use Rattle.crossing_laws.proofs.Lists.{contains_here, contains_there, contains-map}
use Rattle.sector_laws.specs.Sector.{IsPlanar}
use Rattle.arrangement.specs.declared.odd_use.OddUse.{OddUse}
use Rattle.arrangement.specs.Noding.{segments, AreLiveEdges, odd_uses}
use Rattle.arrangement.proofs.OddUses.{live_odd_again, odd_use_listed}

-- ---- the two sides of a live edge

-- an element of a mapped list is that of some element
pub mapped : {X Y : Type 0} (f : X → Y) (P : Y → Type 0) (xs : List X) → ((x : X) → Contains xs x → P (f x)) → (y : Y) → Contains (map f xs) y → P y
mapped f P [] each y (k, inside, is) = absurd (omega arith)
mapped f P (x ∷ xs) each y (zero, inside, is) = subst P is (each x (contains_here x xs))
mapped f P (x ∷ xs) each y (suc k, inside, is) = mapped f P xs (λ z i. each z (contains_there x z xs i)) y (k, omega arith, is)

odd_or_even : (n : ℕ) → n % 2 ≡ 1 → n % 2 ≡ 0 → ⊥
odd_or_even n h k = omega arith

pub sides_differ : (uses : List EdgeUse) (edges : List Seg) (odd : List OddUse) → AreLiveEdges uses edges odd → IsPlanar edges → (e : Seg) → Contains edges e
    → (member : ℕ) × ¬ (member_holds (odd_uses edges odd) member (lower e) ≡ member_holds (odd_uses edges odd) member (upper e))
sides_differ uses edges odd live planar e has =
    let found = (live.exact e).0 has in
    let meets : AllMeetInEnds e (map (λ (u : EdgeUse). u.seg) (odd_uses edges odd)) = mapped (λ (u : EdgeUse). u.seg) (λ f. IsSegInRange f × MeetInEnds e f) (odd_uses edges odd) (λ u i. (let listed = odd_use_listed edges odd u i in (All-contains IsSegInRange edges u.seg planar.in_range listed, planar.noded e u.seg has listed))) in
    (found.0, λ same. odd_or_even _ (live_odd_again uses edges odd live found.0 e found.1) ((member_holds-across e (odd_uses edges odd) found.0 (All-contains IsSegInRange edges e planar.in_range has) meets).0 same))

-- ---- far out

not_over_far : (e : Seg) → IsSegInRange e → is_over e far_point ≡ false
unfolding sweep
not_over_far e range = false_from_ne_true (is_over e far_point) (λ t. (let over = (over-is e far_point).0 t in let to = over.to in let right = range.hi.right in let top = range.hi.top in omega (arith, ints)))

none_pass : {X : Type 0} (p : X → Bool) (xs : List X) → ((x : X) → Contains xs x → p x ≡ false) → count_by p xs ≡ 0
none_pass p [] h = refl
none_pass p (x ∷ xs) h =
    let first : cond (p x) 1 0 ≡ 0 = ap (λ b. cond b 1 0) (h x (contains_here x xs)) in
    let rest : count_by p xs ≡ 0 = none_pass p xs (λ y i. h y (contains_there x y xs i)) in
    sum_by-cons (λ y. cond (p y) 1 0) x xs ∙ (λ i. first i + rest i)

pub far_free : (uses : List EdgeUse) → All IsSegInRange (segments uses) → (member : ℕ) → member_holds uses member far_point ≡ false
far_free uses range member = ap (λ n. n % 2 == 1) (none_pass (λ u. (u.member == member) && is_over u.seg far_point) uses
    (λ u i. and_right (u.member == member) (is_over u.seg far_point) (not_over_far u.seg (All-contains IsSegInRange (segments uses) u.seg range (contains-map (λ (v : EdgeUse). v.seg) uses u i)))))
