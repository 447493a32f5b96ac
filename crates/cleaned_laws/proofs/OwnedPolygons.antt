-- The polygons of an owner: each region that it owns is in the part of one of them, and an edge is on the boundary of one of them at most.
use mathlib.Core.List.{[], ◌∷◌}
use Rattle.std.proofs.Common.{◌≡◌, ◌⊎◌, inl, inr, refl, sym, ◌∙◌, ap, subst, ℕ, ◌≤◌, ◌<◌, ◌%◌, Bool, true, false, cond, List, map, length, arith}
use Rattle.std.specs.Prelude.{Contains, sum_by, count_by, Option, Some, option_map, slice_get}
use Rattle.std.proofs.lemmas.Bool.{false≢true}
use Rattle.std.proofs.lemmas.Option.{slice_get-map}
use Rattle.cov_types.specs.declared.coord.Coord.{Coord}
use Rattle.cov_types.specs.declared.edge_use.EdgeUse.{EdgeUse}
use Rattle.cov_types.specs.declared.seg.Seg.{Seg}
use Rattle.cov_types.specs.Uses.{poly_uses, member_uses}
use Rattle.plane.specs.Point.{Point}
use Rattle.plane.specs.Region.{IsRegionOf}
use Rattle.crossing_laws.proofs.Lists.{contains_here, contains_there}
use Rattle.arrangement.specs.Overlay.{Overlay, region_above, region_below, AreBeside}
use Rattle.arrangement.proofs.Labels.{mapped}
use Rattle.sound_polygons.specs.Cleaned.{IsSoundFor, IsOwned, ArePolygonsOf}
use Rattle.sound_polygons.specs.Parts.{LeadsWithin}
use Rattle.sound_polygons.proofs.SameParts.{part_equivalence}
use Rattle.cleaned_laws.specs.Owning.{AreMemberOwners}
use Rattle.cleaned_laws.proofs.Level.{over, part_parity}
use Rattle.cleaned_laws.proofs.PartEdges.{differ, boundary_value, boundary_total, use_value, part_sum}
use Rattle.cleaned_laws.proofs.Sums.{sum_flat, sum_map, sum_same, sum_parity, one_of_sum, some_counted, PassOnce, at_most_one}

-- ---- polygons

-- a polygon of the owner, beside a region of its part
pub record OwnedPolygon (o : Overlay) (owners : ℕ → Option ℕ) (i : ℕ) : Type 0 where
  pub rings : List (List Coord)
  pub region : ℕ
  pub owned : IsOwned o owners i region
  pub sound : IsSoundFor o owners i region rings

-- the polygons have each region that the owner owns, and each in one polygon
pub record AreOwnedPolygons (o : Overlay) (owners : ℕ → Option ℕ) (i : ℕ) (polygons : List (OwnedPolygon o owners i)) : Type 0 where
  pub once : (r m n : ℕ) (a b : OwnedPolygon o owners i) → slice_get polygons m ≡ Some a → slice_get polygons n ≡ Some b → IsSoundFor o owners i r a.rings → IsSoundFor o owners i r b.rings → m ≡ n
  pub every : (r : ℕ) → IsOwned o owners i r → (q : OwnedPolygon o owners i) × (Contains polygons q × IsSoundFor o owners i r q.rings)

one_not_zero : (b : Bool) → cond {A = ℕ} b 1 0 ≡ 1 → b ≡ true
one_not_zero true is = refl
one_not_zero false is = absurd (omega (arith, is))

counted_true : (b : Bool) → 1 ≤ cond {A = ℕ} b 1 0 → b ≡ true
counted_true true some = refl
counted_true false some = absurd (omega (arith, some))

module _ (o : Overlay) (owners : ℕ → Option ℕ) (members : ℕ) (are : AreMemberOwners o owners members) (i : ℕ) where
  abbrev One : Type 0
  One = OwnedPolygon o owners i

  abbrev pub rings_of : One → List (List Coord)
  rings_of q = q.rings

  -- the region is in the part of the polygon
  abbrev pub covers : ℕ → One → Bool
  covers r q = q.sound.inside r

  polygons_by : (some : List (List (List Coord))) → ((rings : List (List Coord)) → Contains some rings → (r : ℕ) × (IsOwned o owners i r × IsSoundFor o owners i r rings))
      → (polygons : List One) × (map rings_of polygons ≡ some)
  polygons_by [] each = ([], refl)
  polygons_by (x ∷ some) each =
      let first = each x (contains_here x some) in
      let rest = polygons_by some (λ y has. each y (contains_there x y some has)) in
      (record { rings = x; region = first.0; owned = first.1.0; sound = first.1.1 } ∷ rest.0, ap (λ ys. x ∷ ys) rest.1)

  pub owned_polygons : (polys : List (List (List Coord))) → ArePolygonsOf o owners i polys → (polygons : List One) × ((map rings_of polygons ≡ polys) × AreOwnedPolygons o owners i polygons)
  owned_polygons polys h =
      let found = polygons_by polys h.each in
      let ps = found.0 in
      let same = found.1 in
      let at : (m : ℕ) (a : One) → slice_get ps m ≡ Some a → slice_get polys m ≡ Some a.rings = λ m a is.
      ap (λ xs. slice_get xs m) (sym same) ∙ slice_get-map rings_of ps m ∙ ap (option_map rings_of) is in
      let among : (rings : List (List Coord)) → Contains polys rings → (q : One) × (Contains ps q × (q.rings ≡ rings)) = λ rings has.
      mapped rings_of (λ y. (q : One) × (Contains ps q × (q.rings ≡ y))) ps (λ q is. (q, (is, refl))) rings (subst (λ xs. Contains xs rings) (sym same) has) in (
        ps,
        (
          same,
          record {
            once = λ r m n a b at_a at_b sound_a sound_b. h.one r m n a.rings b.rings (at m a at_a) (at n b at_b) sound_a sound_b;
            every = λ r owned. (
                let there = h.every r owned in
                let q = among there.0 there.1.0 in
                (q.0, (q.1.0, subst (λ rings. IsSoundFor o owners i r rings) (sym q.1.1) there.1.1))
                );
          },
        ),
      )

  -- ---- the part of a piece

  last_owned : (a : ℕ) (way : List ℕ) (b : ℕ) → LeadsWithin o owners i a way b → owners b ≡ Some i
  last_owned a [] b leads = subst (λ n. owners n ≡ Some i) leads.1 leads.0
  last_owned a (c ∷ way) b leads = last_owned c way b leads.2

  pub covers_owned : (q : One) (r : ℕ) → covers r q ≡ true → owners r ≡ Some i
  covers_owned q r is = let way = (q.sound.part r).0 is in last_owned q.region way.0 r way.1

  covers_sound : (q : One) (r : ℕ) → covers r q ≡ true → IsSoundFor o owners i r q.rings
  covers_sound q r is =
      let same = part_equivalence o owners i in
      let to = (q.sound.part r).0 is in
      record {
        inside = q.sound.inside;
        part = λ g. (λ t. same.on r q.region g (same.back q.region r to) ((q.sound.part g).0 t), λ way. (q.sound.part g).1 (same.on q.region r g to way));
        sound = q.sound.sound;
      }

  covers_beside : (q : One) (a b : ℕ) → AreBeside o a b → covers a q ≡ true → owners b ≡ Some i → covers b q ≡ true
  covers_beside q a b beside is owned =
      let same = part_equivalence o owners i in
      (q.sound.part b).1 (same.on q.region a b ((q.sound.part a).0 is) (b ∷ [], (covers_owned q a is, beside, (owned, refl))))

  -- ---- what uses add up to

  pub polygon_sum : (f : EdgeUse → ℕ) (q : One) → sum_by f (poly_uses i q.rings) ≡ boundary_total o (use_value o i f) q.sound.inside
  polygon_sum f q = part_sum o i f q.sound.inside q.rings q.sound.sound.round

  pub polygons_sum : (f : EdgeUse → ℕ) (polygons : List One) → sum_by f (member_uses (i, map rings_of polygons)) ≡ sum_by (λ q. boundary_total o (use_value o i f) q.sound.inside) polygons
  polygons_sum f polygons =
      sum_flat f (poly_uses i) (map rings_of polygons)
      ∙ sum_map (λ rings. sum_by f (poly_uses i rings)) rings_of polygons
      ∙ sum_same (λ q. sum_by f (poly_uses i q.rings)) (λ q. boundary_total o (use_value o i f) q.sound.inside) polygons (λ q has. polygon_sum f q)

  -- the polygon of a part covers its regions
  covers_own : (q : One) (r : ℕ) → IsOwned o owners i r → IsSoundFor o owners i r q.rings → covers r q ≡ true
  covers_own q r owned sound =
      let p = owned.region.at in
      let own = owned.region.own in
      let itself = (sound.part r).1 ((part_equivalence o owners i).itself r owned.owned) in
      let sums = sym (polygon_sum (λ u. over p u.seg) q) ∙ part_sum o i (λ u. over p u.seg) sound.inside q.rings sound.sound.round in
      let here = part_parity o owners members are i q.region q.sound.inside q.sound.part p r own in
      let there = part_parity o owners members are i r sound.inside sound.part p r own in
      one_not_zero (covers r q) (sym here ∙ ap (λ n. n % 2) sums ∙ there ∙ ap (λ b. cond {A = ℕ} b 1 0) itself)

  module _ (polygons : List One) (h : AreOwnedPolygons o owners i polygons) where
    covers_once : (r : ℕ) → PassOnce (covers r) polygons
    covers_once r m n a b at_a at_b is_a is_b = h.once r m n a b at_a at_b (covers_sound a r is_a) (covers_sound b r is_b)

    -- an odd number of the uses is over a point exactly where the owner has its region
    module _ (p : Point) (r : ℕ) (own : IsRegionOf o.edges p r) where
      over_parity : sum_by (λ u. over p u.seg) (member_uses (i, map rings_of polygons)) % 2 ≡ count_by (covers r) polygons % 2
      over_parity =
          ap (λ n. n % 2) (polygons_sum (λ u. over p u.seg) polygons)
          ∙ sum_parity (λ q. boundary_total o (over p) q.sound.inside) (λ q. cond (covers r q) 1 0) polygons
          (λ q has. part_parity o owners members are i q.region q.sound.inside q.sound.part p r own ∙ small (covers r q))
        where
          small : (b : Bool) → cond {A = ℕ} b 1 0 ≡ cond {A = ℕ} b 1 0 % 2
          small true = refl
          small false = refl

      pub odd_owned : sum_by (λ u. over p u.seg) (member_uses (i, map rings_of polygons)) % 2 ≡ 1 → owners r ≡ Some i
      odd_owned odd =
          let counted = sym over_parity ∙ odd in
          let found = some_counted (λ q. cond (covers r q) 1 0) polygons (omega (arith, counted)) in
          covers_owned found.0 r (counted_true (covers r found.0) found.1.1)

      pub owned_odd : IsOwned o owners i r → sum_by (λ u. over p u.seg) (member_uses (i, map rings_of polygons)) % 2 ≡ 1
      owned_odd owned =
          let q = h.every r owned in
          let is = covers_own q.0 r owned q.1.1 in
          let one = ap (λ b. cond {A = ℕ} b 1 0) is in
          let some = one_of_sum (λ z. cond (covers r z) 1 0) polygons q.0 q.1.0 in
          let most = at_most_one (covers r) 1 polygons (covers_once r) in
          over_parity ∙ ap (λ n. n % 2) (only _ one some most)
        where
          only : {c : ℕ} (n : ℕ) → c ≡ 1 → c ≤ n → n ≤ 1 → n ≡ 1
          only n one some most = omega (arith, one)

    -- ---- an edge is on one boundary at most

    one_side : (a b : Bool) → differ a b ≡ true → ((a ≡ true) × (b ≡ false)) ⊎ ((a ≡ false) × (b ≡ true))
    one_side true false is = inl (refl, refl)
    one_side false true is = inr (refl, refl)
    one_side true true is = absurd (false≢true is)
    one_side false false is = absurd (false≢true is)

    module _ (k : ℕ) (within : k < length o.edges) where
      abbrev a : ℕ
      a = region_above o k

      abbrev b : ℕ
      b = region_below o k

      down_beside : AreBeside o a b
      down_beside = record { edge = k; listed = within; sides = inl (refl, refl) }

      up_beside : AreBeside o b a
      up_beside = record { edge = k; listed = within; sides = inr (refl, refl) }

      apart : (x y : One) → covers a x ≡ true → covers b x ≡ false → covers b y ≡ true → ⊥
      apart x y above not_below below = false≢true (sym not_below ∙ covers_beside x a b down_beside above (covers_owned y b below))

      apart_too : (x y : One) → covers b x ≡ true → covers a x ≡ false → covers a y ≡ true → ⊥
      apart_too x y below not_above above = false≢true (sym not_above ∙ covers_beside x b a up_beside below (covers_owned y a above))

      boundary_once : PassOnce (λ q. differ (covers a q) (covers b q)) polygons
      boundary_once m n x y at_x at_y differ_x differ_y = elim (one_side (covers a x) (covers b x) differ_x) [
        | inl up ↦ elim (one_side (covers a y) (covers b y) differ_y) [
          | inl too ↦ covers_once a m n x y at_x at_y up.0 too.0
          | inr other ↦ absurd (apart x y up.0 up.1 other.1)
        ]
        | inr down ↦ elim (one_side (covers a y) (covers b y) differ_y) [
          | inl other ↦ absurd (apart_too x y down.1 down.0 other.0)
          | inr too ↦ covers_once b m n x y at_x at_y down.1 too.1
        ]
      ]

      pub boundary_at_most : (value : Seg → ℕ) (e : Seg) → sum_by (λ q. boundary_value o value q.sound.inside (k, e)) polygons ≤ value e
      boundary_at_most value e = at_most_one (λ q. differ (covers a q) (covers b q)) (value e) polygons boundary_once
