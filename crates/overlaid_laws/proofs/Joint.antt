-- The uses of two coverages as one are those of the first, and then those of the second with members numbered on.
use mathlib.Core.List.{[], ◌∷◌}
use Rattle.std.proofs.Common.{◌≡◌, refl, sym, ◌∙◌, ap, ℕ, ◌+◌, ◌<◌, ◌^◌, List, ◌++◌, map, length, flat_map, option_to_list, append_assoc, length-append, arith}
use Rattle.std.specs.List.{enumerate_from}
use Rattle.std.proofs.lemmas.List.{map-append}
use Rattle.std.proofs.lemmas.List.Elements.{All-append}
use Rattle.cov_types.specs.declared.coord.Coord.{Coord}
use Rattle.cov_types.specs.declared.edge_use.EdgeUse.{EdgeUse}
use Rattle.cov_types.specs.declared.seg.Seg.{Seg}
use Rattle.cov_types.specs.Coverage.{Members, IsMemberInRange, AllInRange}
use Rattle.cov_types.specs.Uses.{sides, seg_between, side_uses, ring_uses, poly_uses, member_uses, uses_of}
use Rattle.overlaid_laws.specs.Joint.{shifted}

-- ---- members that are numbered on

-- what is shifted piece by piece is shifted
pieces_shifted : {X : Type 0} (n : ℕ) (f g : X → List EdgeUse) → ((x : X) → f x ≡ shifted n (g x)) → (xs : List X) → flat_map f xs ≡ shifted n (flat_map g xs)
pieces_shifted n f g each [] = refl
pieces_shifted n f g each (x ∷ xs) = (λ i. each x i ++ pieces_shifted n f g each xs i) ∙ sym (map-append _ (g x) (flat_map g xs))

segs_shifted : (n k : ℕ) (segs : List Seg) → map (λ s. record { member = n + k; seg = s }) segs ≡ shifted n (map (λ s. record { member = k; seg = s }) segs)
segs_shifted n k [] = refl
segs_shifted n k (s ∷ segs) = ap (λ us. record { member = n + k; seg = s } ∷ us) (segs_shifted n k segs)

member_shifted : (n k : ℕ) (polys : List (List (List Coord))) → member_uses (n + k, polys) ≡ shifted n (member_uses (k, polys))
member_shifted n k polys =
    pieces_shifted n (poly_uses (n + k)) (poly_uses k) (λ rings.
    pieces_shifted n (ring_uses (n + k)) (ring_uses k) (λ points.
    pieces_shifted n (side_uses (n + k)) (side_uses k) (λ side. segs_shifted n k (option_to_list (seg_between side.0 side.1))) (sides points)) rings) polys

-- the uses of members that are numbered from k
abbrev uses_from : ℕ → Members → List EdgeUse
uses_from k members = flat_map member_uses (enumerate_from k members)

numbered_on : (n k : ℕ) (members : Members) → uses_from (n + k) members ≡ shifted n (uses_from k members)
numbered_on n k [] = refl
numbered_on n k (x ∷ members) =
    let next : n + k + 1 ≡ n + (k + 1) = omega arith in
    (λ i. member_shifted n k x i ++ (ap (λ m. uses_from m members) next ∙ numbered_on n (k + 1) members) i)
    ∙ sym (map-append _ (member_uses (k, x)) (uses_from (k + 1) members))

-- ---- both coverages

both : (k : ℕ) (a b : Members) → uses_from k (a ++ b) ≡ uses_from k a ++ uses_from (k + length a) b
both k [] b = let same : k ≡ k + 0 = omega arith in ap (λ m. uses_from m b) same
both k (x ∷ a) b =
    let count : k + 1 + length a ≡ k + length (x ∷ a) = omega arith in
    ap (λ us. member_uses (k, x) ++ us) (both (k + 1) a b ∙ ap (λ m. uses_from (k + 1) a ++ uses_from m b) count)
    ∙ sym (append_assoc (member_uses (k, x)) (uses_from (k + 1) a) (uses_from (k + length (x ∷ a)) b))

pub joint_uses : (a b : Members) → uses_of (a ++ b) ≡ uses_of a ++ shifted (length a) (uses_of b)
joint_uses a b =
    let from : 0 + length a ≡ length a + 0 = omega arith in
    both 0 a b ∙ ap (λ us. uses_of a ++ us) (ap (λ m. uses_from m b) from ∙ numbered_on (length a) 0 b)

pub joint_in_range : (a b : Members) → AllInRange a → AllInRange b → length a + length b < 2 ^ 32 → AllInRange (a ++ b)
joint_in_range a b in_a in_b few = record {
  coords = All-append IsMemberInRange a b in_a.coords in_b.coords;
  count = omega (arith, length-append a b, few);
}
