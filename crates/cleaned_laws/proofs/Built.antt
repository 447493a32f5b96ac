-- What is built of owners: its segments are edges of the overlay, a member has each once at most, and holds the regions that it owns.
use mathlib.Core.List.{[]}
use Rattle.std.proofs.Common.{◌≡◌, inl, inr, refl, sym, ◌∙◌, ap, subst, ℕ, ◌≤◌, ◌<◌, ◌%◌, ◌==◌, ◌&&◌, ◌↔◌, Bool, true, false, cond, List, get_or, arith}
use Rattle.std.specs.Prelude.{Contains, sum_by, Option, Some, slice_get}
use Rattle.std.proofs.lemmas.Bool.{false_from_ne_true, cases_lt, and_from, cases_order}
use Rattle.std.proofs.lemmas.Bool.Decides.{Decides-eqb}
use Rattle.std.proofs.lemmas.Option.{slice_get-get_or, slice_get_within, get_or_from_slice_get}
use Rattle.cov_types.specs.declared.coord.Coord.{Coord}
use Rattle.cov_types.specs.declared.edge_use.EdgeUse.{EdgeUse}
use Rattle.cov_types.specs.declared.seg.Seg.{Seg}
use Rattle.cov_types.specs.Coverage.{Members}
use Rattle.cov_types.specs.Uses.{member_uses, uses_of}
use Rattle.cov_types.proofs.Equal.{Decides-same_segs}
use Rattle.plane.specs.Parity.{member_holds}
use Rattle.plane.specs.Point.{Point}
use Rattle.plane.specs.Ray.{is_over}
use Rattle.plane.specs.Region.{IsRegionOf}
use Rattle.crossing_laws.specs.Across.{is_same_seg, member_times}
use Rattle.crossing_laws.proofs.Located.{region-joined}
use Rattle.sector_laws.specs.Sector.{AreDistinct}
use Rattle.arrangement.specs.Overlay.{Overlay, numbered_edges, IsRegion}
use Rattle.sound_polygons.specs.Cleaned.{IsBuilt}
use Rattle.cleaned_laws.specs.Owning.{AreMemberOwners}
use Rattle.cleaned_laws.proofs.Level.{over}
use Rattle.cleaned_laws.proofs.MemberUses.{of_member, uses_at, uses_none}
use Rattle.cleaned_laws.proofs.PartEdges.{boundary_value}
use Rattle.cleaned_laws.proofs.OwnedPolygons.{owned_polygons, polygons_sum, odd_owned, owned_odd, boundary_at_most}
use Rattle.cleaned_laws.proofs.Sums.{sum_same, sum_at_most, sum_exchanged, sum_numbered, numbered_within, one_of_sum, some_counted, PassOnce, at_most_one}

pub region_of : (edges : List Seg) (p : Point) (r : ℕ) → IsRegionOf edges p r → IsRegion edges r
region_of edges p r own = record { at = own.joined.at; side = own.joined.side; own = region-joined edges p own.joined.at r own.joined.joined own }

-- ---- an edge stands once in distinct edges

same_place : (edges : List Seg) → AreDistinct edges → (e : Seg) → PassOnce (is_same_seg e) edges
same_place edges distinct e m n a b at_a at_b same_a same_b = elim (cases_order m n) [
  | inl is ↦ is
  | inr apart ↦ elim apart [
    | inl less ↦ absurd (clash m n a b at_a at_b same_a same_b less)
    | inr more ↦ absurd (clash n m b a at_b at_a same_b same_a more)
  ]
]
  where
    clash : (m n : ℕ) (a b : Seg) → slice_get edges m ≡ Some a → slice_get edges n ≡ Some b → is_same_seg e a ≡ true → is_same_seg e b ≡ true → m < n → ⊥
    clash m n a b at_a at_b same_a same_b less =
        distinct m n e less (slice_get_within edges n b at_b)
        (get_or_from_slice_get edges m a e at_a ∙ sym ((Decides-same_segs e a).0 same_a) ∙ (Decides-same_segs e b).0 same_b ∙ sym (get_or_from_slice_get edges n b e at_b))

-- a count of the uses of a member counts no others
none_else : (m : ℕ) (test : Seg → Bool) (u : EdgeUse) → ¬ (u.member ≡ m) → cond {A = ℕ} ((u.member == m) && test u.seg) 1 0 ≡ 0
none_else m test u apart = ap (λ b. cond {A = ℕ} (b && test u.seg) 1 0) (false_from_ne_true (u.member == m) (λ t. apart ((Decides-eqb u.member m).0 t)))

counted : (a b : Bool) → 1 ≤ cond a (cond {A = ℕ} b 1 0) 0 → b ≡ true
counted true true some = refl
counted true false some = absurd (omega (arith, some))
counted false b some = absurd (omega (arith, some))

module _ (o : Overlay) (owners : ℕ → Option ℕ) (members : ℕ) (are : AreMemberOwners o owners members) (out : Members) (built : IsBuilt o owners members out) where
  -- how many uses of the member pass a test of segments
  abbrev passing : ℕ → (Seg → Bool) → EdgeUse → ℕ
  passing m test u = cond ((u.member == m) && test u.seg) 1 0

  member_at : (m : ℕ) → m < members → (polys : List (List (List Coord))) × (slice_get out m ≡ Some polys)
  member_at m below = (get_or out m [], slice_get-get_or out m [] (let count = built.count in omega (arith, count, below)))

  -- they are those in the list of the member
  own_uses : (m : ℕ) (test : Seg → Bool) (polys : List (List (List Coord))) → slice_get out m ≡ Some polys
      → sum_by (passing m test) (uses_of out) ≡ sum_by (λ u. cond (test u.seg) 1 0) (member_uses (m, polys))
  own_uses m test polys found =
      uses_at (passing m test) m (none_else m test) out polys found
      ∙ sum_same (passing m test) (λ u. cond (test u.seg) 1 0) (member_uses (m, polys)) (λ u has. ap (λ b. cond (b && test u.seg) 1 0) ((Decides-eqb u.member m).1 (of_member m polys u has)))

  no_uses : (m : ℕ) (test : Seg → Bool) → members ≤ m → sum_by (passing m test) (uses_of out) ≡ 0
  no_uses m test past = uses_none (passing m test) m (none_else m test) out (let count = built.count in omega (arith, count, past))

  -- ---- points

  module _ (p : Point) (r : ℕ) (own : IsRegionOf o.edges p r) (m : ℕ) where
    abbrev over_p : Seg → Bool
    over_p e = is_over e p

    held_owned : member_holds (uses_of out) m p ≡ true → owners r ≡ Some m
    held_owned holds =
        let odd = (Decides-eqb (sum_by (passing m over_p) (uses_of out) % 2) 1).0 holds in
        elim (cases_lt m members) [
          | inl below ↦ (
              let polys = member_at m below in
              let polygons = owned_polygons o owners members are m polys.0 (built.each m polys.0 polys.1) in
              let there = ap (λ n. n % 2) (sym (own_uses m over_p polys.0 polys.1)) ∙ odd in
              odd_owned o owners members are m polygons.0 polygons.1.1 p r own (subst (λ xs. sum_by (λ u. over p u.seg) (member_uses (m, xs)) % 2 ≡ 1) (sym polygons.1.0) there)
              )
          | inr past ↦ absurd (let none = no_uses m over_p past in omega (arith, none, odd))
        ]

    owned_held : owners r ≡ Some m → member_holds (uses_of out) m p ≡ true
    owned_held owned =
        let region = region_of o.edges p r own in
        let polys = member_at m (are.below r m region owned) in
        let polygons = owned_polygons o owners members are m polys.0 (built.each m polys.0 polys.1) in
        let odd = owned_odd o owners members are m polygons.0 polygons.1.1 p r own (record { region = region; owned = owned }) in
        let there = subst (λ xs. sum_by (λ u. over p u.seg) (member_uses (m, xs)) % 2 ≡ 1) polygons.1.0 odd in
        (Decides-eqb (sum_by (passing m over_p) (uses_of out) % 2) 1).1 (ap (λ n. n % 2) (own_uses m over_p polys.0 polys.1) ∙ there)

    -- a member holds a point exactly where it owns its region
    pub held_is : (member_holds (uses_of out) m p ≡ true) ↔ (owners r ≡ Some m)
    held_is = (held_owned, owned_held)

  -- ---- segments

  module _ (m : ℕ) (e : Seg) where
    abbrev same : Seg → ℕ
    same f = cond (is_same_seg e f) 1 0

    edge_uses : (polys : List (List (List Coord))) → slice_get out m ≡ Some polys → sum_by (λ u. same u.seg) (member_uses (m, polys)) ≤ sum_by same o.edges
    edge_uses polys found =
        let polygons = owned_polygons o owners members are m polys (built.each m polys found) in
        let ps = polygons.0 in
        let all = sym (ap (λ xs. sum_by (λ u. same u.seg) (member_uses (m, xs))) polygons.1.0)
        ∙ polygons_sum o owners members are m (λ u. same u.seg) ps
        ∙ sum_exchanged (λ q s. boundary_value o same q.sound.inside s) ps (numbered_edges o) in
        let most = sum_at_most (λ s. sum_by (λ q. boundary_value o same q.sound.inside s) ps) (λ s. same s.1) (numbered_edges o)
        (λ s has. boundary_at_most o owners members are m ps polygons.1.1 s.0 (let within = (numbered_within 0 o.edges s has).1 in omega (arith, within)) same s.1) in
        let numbered = sum_numbered same 0 o.edges in
        omega (arith, all, most, numbered)

    -- a member uses a segment once at most
    pub used_once : member_times e (uses_of out) m ≤ 1
    used_once = elim (cases_lt m members) [
      | inl below ↦ (
          let polys = member_at m below in
          let own = own_uses m (is_same_seg e) polys.0 polys.1 in
          let uses = edge_uses polys.0 polys.1 in
          let once = at_most_one (is_same_seg e) 1 o.edges (same_place o.edges are.distinct e) in
          omega (arith, own, uses, once)
          )
      | inr past ↦ (let none = no_uses m (is_same_seg e) past in omega (arith, none))
    ]

    -- and only edges of the overlay
    used_edge : 1 ≤ member_times e (uses_of out) m → Contains o.edges e
    used_edge some = elim (cases_lt m members) [
      | inl below ↦ (
          let polys = member_at m below in
          let own = own_uses m (is_same_seg e) polys.0 polys.1 in
          let uses = edge_uses polys.0 polys.1 in
          let found = some_counted same o.edges (omega (arith, own, uses, some)) in
          subst (Contains o.edges) (sym ((Decides-same_segs e found.0).0 (counted true (is_same_seg e found.0) found.1.1))) found.1.0
          )
      | inr past ↦ absurd (let none = no_uses m (is_same_seg e) past in omega (arith, none, some))
    ]

  -- the segments of the uses are edges of the overlay
  pub in_edges : (u : EdgeUse) → Contains (uses_of out) u → Contains o.edges u.seg
  in_edges u has =
      let itself : passing u.member (is_same_seg u.seg) u ≡ 1 = ap (λ b. cond b 1 0) (and_from _ _ ((Decides-eqb u.member u.member).1 refl) ((Decides-same_segs u.seg u.seg).1 refl)) in
      let some = one_of_sum (passing u.member (is_same_seg u.seg)) (uses_of out) u has in
      used_edge u.member u.seg (omega (arith, itself, some))
