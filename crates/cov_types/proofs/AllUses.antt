-- What holds of the uses of a coverage: whose they are, their range, and the parity of their ends.
use Rattle.std.proofs.Common.{ℕ, ◌<◌, List, ◌++◌, [], ◌∷◌, length, get_or, take, drop, map, flat_map, option_to_list, All, ap, sym, ◌∙◌, subst, zero-add, arith}
use Rattle.std.proofs.lemmas.List.Elements.{All-nil, All-cons, All-head, All-tail, All-append, All-map, All-take, All-drop, All-weaker}
use Rattle.std.proofs.lemmas.List.FromFn.{get_or-enumerate_from, length-enumerate_from}
use Rattle.std.proofs.lemmas.Slice.Zip.{get_or-zip}
use Rattle.std.specs.List.{enumerate_from}
use Rattle.cov_types.proofs.Between.{seg_between_by_ends}
use Rattle.cov_types.proofs.Sides.{length-rotated, length-sides}
use Rattle.cov_types.specs.Coverage.{AllInRange, IsMemberInRange, IsPolyInRange, IsRingInRange}
use Rattle.cov_types.specs.Range.{IsInRange, IsSegInRange}
use Rattle.cov_types.specs.Uses.{sides, seg_between, side_uses, ring_uses, poly_uses, member_uses, uses_of}
use Rattle.cov_types.specs.declared.coord.Coord.{Coord}
use Rattle.cov_types.specs.declared.edge_use.EdgeUse.{EdgeUse}

-- ---- lists

-- what holds of the elements of each piece holds of those of the joined list
pub All-flat_map : {X A : Type 0} (P : A → Type 0) (f : X → List A) (xs : List X) → All (λ x. All P (f x)) xs → All P (flat_map f xs)
All-flat_map P f [] h = All-nil P
All-flat_map P f (x ∷ xs) h =
    All-append P (f x) (flat_map f xs) (All-head (λ y. All P (f y)) x xs h) (All-flat_map P f xs (All-tail (λ y. All P (f y)) x xs h))

All-enumerate_from : {X : Type 0} (Q : ℕ × X → Type 0) (xs : List X) → ((i : ℕ) (d : X) → i < length xs → Q (i, get_or xs i d)) → All Q (enumerate_from 0 xs)
All-enumerate_from {X} Q xs h k d within =
    let inside : k < length xs = omega (arith, length-enumerate_from 0 xs) in
    subst Q (sym (get_or-enumerate_from 0 xs k d inside ∙ ap (λ (n : ℕ). (n, get_or xs k d.1)) (zero-add k))) (h k d.1 inside)

pub All-everywhere : {X : Type 0} (P : X → Type 0) (xs : List X) → ((x : X) → P x) → All P xs
All-everywhere P xs h = λ k d within. h (get_or xs k d)

-- ---- whose the uses are

-- the uses of a side are of the given member
pub side_members : (P : ℕ → Type 0) (n : ℕ) → P n → (side : Coord × Coord) → All (λ u. P u.member) (side_uses n side)
side_members P n h side =
    All-map (λ u. P u.member) (λ s. record { member = n; seg = s }) (option_to_list (seg_between side.0 side.1)) (λ k d within. h)

member_members : (P : ℕ → Type 0) (n : ℕ) → P n → (polys : List (List (List Coord))) → All (λ u. P u.member) (member_uses (n, polys))
member_members P n h polys =
    All-flat_map (λ u. P u.member) (poly_uses n) polys (All-everywhere _ polys (λ rings.
    All-flat_map (λ u. P u.member) (ring_uses n) rings (All-everywhere _ rings (λ points.
    All-flat_map (λ u. P u.member) (side_uses n) (sides points) (All-everywhere _ (sides points) (side_members P n h))))))

-- every number in the uses of a coverage is that of a member
pub uses-members : (members : List (List (List (List Coord)))) → All (λ u. u.member < length members) (uses_of members)
uses-members members =
    All-flat_map (λ u. u.member < length members) member_uses (enumerate_from 0 members)
    (All-enumerate_from (λ x. All (λ u. u.member < length members) (member_uses x)) members (λ i d h. member_members (λ n. n < length members) i h (get_or members i d)))

-- ---- their range

-- the points of a ring in range, and those that its sides lead to
sides_in_range : (points : List Coord) → All IsInRange points → All (λ (side : Coord × Coord). IsInRange side.0 × IsInRange side.1) (sides points)
sides_in_range points h k d within =
    let n = length-sides points in
    let inside : k < length points = omega arith in
    let turned = All-append IsInRange (drop 1 points) (take 1 points) (All-drop IsInRange 1 points h) (All-take IsInRange 1 points h) in
    subst (λ (side : Coord × Coord). IsInRange side.0 × IsInRange side.1)
    (sym (get_or-zip points (drop 1 points ++ take 1 points) k d inside (omega (arith, length-rotated points))))
    (h k d.0 inside, turned k d.1 (omega (arith, length-rotated points)))

-- where the ends of a side are in range, its segment is
side_in_range : (n : ℕ) (side : Coord × Coord) → IsInRange side.0 × IsInRange side.1 → All (λ u. IsSegInRange u.seg) (side_uses n side)
side_in_range n side h =
    seg_between_by_ends (λ o. All (λ (u : EdgeUse). IsSegInRange u.seg) (map (λ s. record { member = n; seg = s }) (option_to_list o))) side.0 side.1
    (λ s p q. All-cons (λ (u : EdgeUse). IsSegInRange u.seg) (record { member = n; seg = s }) [] (record { lo = subst IsInRange (sym p) h.0; hi = subst IsInRange (sym q) h.1 }) (All-nil (λ (u : EdgeUse). IsSegInRange u.seg)))
    (λ s p q. All-cons (λ (u : EdgeUse). IsSegInRange u.seg) (record { member = n; seg = s }) [] (record { lo = subst IsInRange (sym p) h.1; hi = subst IsInRange (sym q) h.0 }) (All-nil (λ (u : EdgeUse). IsSegInRange u.seg)))
    (λ e. All-nil (λ (u : EdgeUse). IsSegInRange u.seg))

member_in_range : (n : ℕ) (polys : List (List (List Coord))) → IsMemberInRange polys → All (λ u. IsSegInRange u.seg) (member_uses (n, polys))
member_in_range n polys h =
    let Q : EdgeUse → Type 0 = λ u. IsSegInRange u.seg in
    All-flat_map Q (poly_uses n) polys (All-weaker IsPolyInRange (λ rings. All Q (poly_uses n rings)) (λ rings k.
    All-flat_map Q (ring_uses n) rings (All-weaker IsRingInRange (λ points. All Q (ring_uses n points)) (λ points l.
    All-flat_map Q (side_uses n) (sides points) (All-weaker _ (λ side. All Q (side_uses n side)) (side_in_range n) (sides points) (sides_in_range points l)))
    rings k))
    polys h)

-- every segment that a coverage in range uses is in range
pub uses-in_range : (members : List (List (List (List Coord)))) → AllInRange members → All (λ u. IsSegInRange u.seg) (uses_of members)
uses-in_range members h =
    All-flat_map (λ u. IsSegInRange u.seg) member_uses (enumerate_from 0 members)
    (All-enumerate_from (λ x. All (λ u. IsSegInRange u.seg) (member_uses x)) members (λ i d within. member_in_range i (get_or members i d) (h.coords i d within)))
