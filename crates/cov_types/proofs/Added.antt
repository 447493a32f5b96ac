-- Outlines that grow by some rings.
use Rattle.std.proofs.Common.{◌≡◌, ℕ, ◌+◌, ◌<◌, List, [], ◌∷◌, ◌++◌, length, get_or, take, map, flat_map, refl, sym, ap, ap₂, ◌∙◌, subst, add-zero, arith, append_assoc, append-nil, length-append}
use Rattle.std.proofs.lemmas.List.{take_more, map-append}
use Rattle.std.proofs.lemmas.List.Concat.{flat_map-append}
use Rattle.std.proofs.lemmas.List.Folds.{flat_map-map}
use Rattle.std.specs.List.{enumerate_from}
use Rattle.cov_types.specs.Rings.{poly_rings, member_rings, rings_of, ring_starts, run_between, runs_from, Adds}
use Rattle.cov_types.specs.Uses.{ring_uses, poly_uses, member_uses, uses_of}
use Rattle.cov_types.specs.declared.coord.Coord.{Coord}
use Rattle.cov_types.specs.declared.edge_use.EdgeUse.{EdgeUse}
use Rattle.cov_types.specs.declared.outline.Outline.{Outline}

-- the uses of a ring beside the number of its member, and where they begin
abbrev pub used : ℕ × List Coord → List EdgeUse
used ring = ring_uses ring.0 ring.1

abbrev pub begun : ℕ × List Coord → List Coord
begun ring = ring_starts ring.1

-- ---- one part after another

pub runs_from-append : (from : ℕ) (xs ys : List (ℕ × List Coord)) → runs_from from (xs ++ ys) ≡ runs_from from xs ++ runs_from (from + length (flat_map used xs)) ys
runs_from-append from [] ys = ap (λ n. runs_from n ys) (sym (add-zero from))
runs_from-append from (x ∷ xs) ys =
    let to = from + length (used x) in
    let ends : to + length (flat_map used xs) ≡ from + length (used x ++ flat_map used xs) = omega (arith, length-append (used x) (flat_map used xs)) in
    ap (λ l. run_between x.0 from to ++ l) (runs_from-append to xs ys ∙ ap (λ n. runs_from to xs ++ runs_from n ys) ends)
    ∙ sym (append_assoc (run_between x.0 from to) (runs_from to xs) (runs_from (from + length (used x ++ flat_map used xs)) ys))

joined : {A B : Type 0} (f : A → List B) (xs ys : List A) (start middle end : List B) → middle ≡ start ++ flat_map f xs → end ≡ middle ++ flat_map f ys → end ≡ start ++ flat_map f (xs ++ ys)
joined f xs ys start middle end first second =
    second ∙ ap (λ l. l ++ flat_map f ys) first ∙ append_assoc start (flat_map f xs) (flat_map f ys) ∙ ap (λ l. start ++ l) (sym (flat_map-append f xs ys))

-- adding some rings and then others adds all
pub adds-chain : (a b c : Outline) (xs ys : List (ℕ × List Coord)) → Adds a b xs → Adds b c ys → Adds a c (xs ++ ys)
adds-chain a b c xs ys first second =
    let middle : length b.uses.items ≡ length a.uses.items + length (flat_map used xs) = ap length first.uses ∙ length-append a.uses.items (flat_map used xs) in
    record {
      uses = joined used xs ys a.uses.items b.uses.items c.uses.items first.uses second.uses;
      starts = joined begun xs ys a.starts.items b.starts.items c.starts.items first.starts second.starts;
      rings =
          second.rings
          ∙ (λ i. first.rings i ++ runs_from (middle i) ys)
          ∙ append_assoc a.rings.items (runs_from (length a.uses.items) xs) (runs_from (length a.uses.items + length (flat_map used xs)) ys)
          ∙ ap (λ l. a.rings.items ++ l) (sym (runs_from-append (length a.uses.items) xs ys));
    }

-- ---- the loops

pub adds-ring : (a b c : Outline) (member : ℕ) (rings : List (List Coord)) (i : ℕ) (ring : List Coord) → i < length rings → get_or rings i ring ≡ ring
    → Adds a b (poly_rings member (take i rings)) → Adds b c ((member, ring) ∷ []) → Adds a c (poly_rings member (take (i + 1) rings))
adds-ring a b c member rings i ring within at first second =
    let f : List Coord → ℕ × List Coord = λ points. (member, points) in
    let more : poly_rings member (take (i + 1) rings) ≡ poly_rings member (take i rings) ++ (member, ring) ∷ [] =
    ap (map f) (take_more rings i ring within ∙ ap (λ x. take i rings ++ x ∷ []) at) ∙ map-append f (take i rings) (ring ∷ []) in
    subst (Adds a c) (sym more) (adds-chain a b c (poly_rings member (take i rings)) ((member, ring) ∷ []) first second)

-- the same of parts that give several rings each
pub adds-part : {X : Type 0} (f : X → List (ℕ × List Coord)) (a b c : Outline) (xs : List X) (i : ℕ) (x : X) → i < length xs → get_or xs i x ≡ x
    → Adds a b (flat_map f (take i xs)) → Adds b c (f x) → Adds a c (flat_map f (take (i + 1) xs))
adds-part f a b c xs i x within at first second =
    let more : flat_map f (take (i + 1) xs) ≡ flat_map f (take i xs) ++ f x =
    ap (flat_map f) (take_more xs i x within ∙ ap (λ y. take i xs ++ y ∷ []) at) ∙ flat_map-append f (take i xs) (x ∷ []) ∙ ap (λ l. flat_map f (take i xs) ++ l) (append-nil (f x)) in
    subst (Adds a c) (sym more) (adds-chain a b c (flat_map f (take i xs)) (f x) first second)

-- ---- the uses are those of the rings

flat_map-flat_map : {X Y Z : Type 0} (f : Y → List Z) (g : X → List Y) (xs : List X) → flat_map f (flat_map g xs) ≡ flat_map (λ x. flat_map f (g x)) xs
flat_map-flat_map f g [] = refl
flat_map-flat_map f g (x ∷ xs) = flat_map-append f (g x) (flat_map g xs) ∙ ap (λ l. flat_map f (g x) ++ l) (flat_map-flat_map f g xs)

flat_map-alike : {X Y : Type 0} (f g : X → List Y) (xs : List X) → ((x : X) → f x ≡ g x) → flat_map f xs ≡ flat_map g xs
flat_map-alike f g [] h = refl
flat_map-alike f g (x ∷ xs) h = ap₂ (λ a b. a ++ b) (h x) (flat_map-alike f g xs h)

poly_used : (member : ℕ) (rings : List (List Coord)) → flat_map used (poly_rings member rings) ≡ poly_uses member rings
poly_used member rings = flat_map-map used (λ points. (member, points)) rings

member_used : (member : ℕ × List (List (List Coord))) → flat_map used (member_rings member) ≡ member_uses member
member_used member = flat_map-flat_map used (poly_rings member.0) member.1 ∙ flat_map-alike (λ rings. flat_map used (poly_rings member.0 rings)) (poly_uses member.0) member.1 (poly_used member.0)

pub rings_used : (members : List (List (List (List Coord)))) → flat_map used (rings_of members) ≡ uses_of members
rings_used members =
    flat_map-flat_map used member_rings (enumerate_from 0 members) ∙ flat_map-alike (λ member. flat_map used (member_rings member)) member_uses (enumerate_from 0 members) member_used
