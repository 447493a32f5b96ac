-- The least sides of connected cycles are the numbers of the regions.
use mathlib.Core.List.{List, [], ◌∷◌}
use Rattle.std.proofs.Common.{◌≡◌, refl, sym, ◌∙◌, ap, subst, ℕ, ◌+◌, ◌*◌, ◌<◌, ◌≤◌, length, get_or, slice_index, true, Contains, Option, Some, None, slice_get, option_map, MatchOption, ◌⊎◌, inl, inr, arith}
use Rattle.std.proofs.lemmas.Bool.{cases_lt, cases_eq}
use Rattle.std.proofs.lemmas.List.{get_or_default}
use Rattle.std.proofs.lemmas.List.Elements.{Contains-get_or}
use Rattle.std.proofs.lemmas.Option.{same_Some, slice_get_within, get_or_from_slice_get}
use Rattle.std.proofs.Math.ListN.{get_or-eq_default}
use Rattle.cov_types.specs.declared.seg.Seg.{Seg}
use Rattle.components.specs.declared.link.Link.{Link}
use Rattle.components.specs.Connected.{AreLinksWithin, IsTied, LeadsAlong, AreComponents}
use Rattle.components.proofs.Numbers.{number-low, same_component}
use Rattle.components.proofs.Ways.{connected-tied}
use Rattle.half_edge.proofs.Counts.{number_within, some_half_edge}
use Rattle.half_edge.proofs.Tables.{some_at}
use Rattle.plane.specs.Point.{Point}
use Rattle.plane.specs.Joined.{Joined}
use Rattle.plane.specs.Region.{far_point, IsSide, IsOuter, IsJoinedSide, IsRegionOf}
use Rattle.crossing_laws.proofs.Located.{region-joined}
use Rattle.crossing_laws.proofs.Ways.{joined-trans, joined-sym}
use Rattle.sector_laws.specs.Sector.{left, IsPlanar, AreDistinct}
use Rattle.sector_laws.proofs.Numbers.{some_number, half_edge_among, half_edge_side, sides_joined}
use Rattle.region_laws.specs.Laws.{AreSideRegions}
use Rattle.region_laws.specs.Linked.{IsWalk}
use Rattle.region_laws.proofs.Links.{linked_joined, out_side, link_out}
use Rattle.region_laws.proofs.Numbered.{fewer_links_regions, outer_number}
use Rattle.region_laws.proofs.Outwards.{some_out}
use Rattle.face_walk.specs.Cycles.{LeadsRound, AreCycles}
use Rattle.face_walk.specs.Links.{IsLinkBelow, node_of, AreLinks}
use Rattle.face_walk.specs.Numbers.{AreLeastSides, IsOutermost, IsNumberTable}
use Rattle.face_walk.specs.declared.cycle.Cycle.{Cycle}
use Rattle.face_walk.proofs.Places.{IsPlace, some_side, side_within, one_side, one_place, some_place, side_of_place, side-joined_itself}

-- ---- a link down joins its places

below_within : (edges : List Seg) (n m : ℕ) → IsLinkBelow edges n m → (n < 2 * length edges) × (m < 2 * length edges + 1)
below_within edges n m h =
    elim h [
      | inl down ↦ (
          let second = number_within edges m (record { edge = down.edge; forwards = true }) down.to in
          (number_within edges n down.from.half_edge down.from.is, omega (arith, second))
          )
      | inr out ↦ (let past = out.1 in (number_within edges n out.0.from.half_edge out.0.from.is, omega (arith, past)))
    ]

below_joined : (edges : List Seg) → IsPlanar edges → (n m : ℕ) → IsLinkBelow edges n m → (p q : Point) → IsSide edges n p → IsPlace edges m q → Joined edges p q
below_joined edges planar n m h p q at_p at_q =
    elim h [
      | inl down ↦
          linked_joined edges planar n m (inr (inl down)) p q at_p
          (side_of_place edges m q (number_within edges m (record { edge = down.edge; forwards = true }) down.to) at_q)
      | inr out ↦ subst (λ x. Joined edges p x) (one_place edges m far_point q (inr (out.1, refl)) at_q) (out_side edges planar n out.0 p at_p)
    ]

-- ---- a boundary cycle joins its sides

round_joined : (edges : List Seg) → IsPlanar edges → (n : ℕ) (way : List ℕ) (m : ℕ) → LeadsRound edges n way m → (p q : Point) → IsSide edges n p → IsSide edges m q → Joined edges p q
round_joined edges planar n [] m same p q at_p at_q =
    subst (λ x. Joined edges p x) (one_side edges m p q (subst (λ k. IsSide edges k p) same at_p) at_q) (side-joined_itself edges planar n p at_p)
round_joined edges planar n (k ∷ way) m leads p q at_p at_q =
    let (r, at_r) = some_side edges k (number_within edges k leads.0.to leads.0.to_is) in
    joined-trans edges p r q (sides_joined edges planar n k leads.0 p r at_p at_r) (round_joined edges planar k way m leads.1 r q at_r at_q)

module _ (edges : List Seg) (planar : IsPlanar edges) (of : List ℕ) (list : List Cycle) (cycles : AreCycles edges of list) where
  -- the cycle of a side
  cycle_of : (n : ℕ) → n < 2 * length edges → (c : Cycle) × (slice_get list (slice_index of n) ≡ Some c)
  cycle_of n below = some_at list (slice_index of n) (cycles.within n below)

  -- sides of one cycle have joined points
  cycle_joined : (n m : ℕ) (p q : Point) → IsSide edges n p → IsSide edges m q → slice_index of n ≡ slice_index of m → Joined edges p q
  cycle_joined n m p q at_p at_q same =
      let n_below = side_within edges n p at_p in
      let m_below = side_within edges m q at_q in
      let (c, at) = cycle_of n n_below in
      let (r, at_r) = some_side edges c.least (cycles.ends (slice_index of n) c at).least_within in
      let to_n = (cycles.each n c n_below at).on_cycle in
      let to_m = (cycles.each m c m_below (ap (λ k. slice_get list k) (sym same) ∙ at)).on_cycle in
      joined-trans edges p r q (joined-sym edges r p (round_joined edges planar c.least to_n.0 n to_n.1 r p at_r at_p)) (round_joined edges planar c.least to_m.0 m to_m.1 r q at_r at_q)

  -- ---- the nodes: the cycles, and the place past the range

  node_is : (n : ℕ) → n < 2 * length edges → node_of of list n ≡ slice_index of n
  node_is n below = (let count = cycles.count in get_or_default of n (length list) 0 (omega (arith, below, count)))

  node_past : node_of of list (2 * length edges) ≡ length list
  node_past = (let count = cycles.count in get_or-eq_default of (length list) (omega (arith, count)))

  node_within : (n : ℕ) → n < 2 * length edges + 1 → node_of of list n < length list + 1
  node_within n below = elim (cases_lt n (2 * length edges)) [
    | inl lt ↦ (let is = node_is n lt in let within = cycles.within n lt in omega (arith, is, within))
    | inr ge ↦ (let is = ap (λ k. node_of of list k) (past n below ge) in omega (arith, is, node_past))
  ]
    where
      past : (n : ℕ) → n < 2 * length edges + 1 → 2 * length edges ≤ n → n ≡ 2 * length edges
      past n below ge = omega (arith, below, ge)

  -- places of one node have one point, or joined ones
  node_joined : (n m : ℕ) (p q : Point) → IsPlace edges n p → IsPlace edges m q → node_of of list n ≡ node_of of list m → (p ≡ q) ⊎ Joined edges p q
  node_joined n m p q at_p at_q same =
      elim at_p [
        | inl side ↦ elim at_q [
          | inl other ↦ (
              let n_below = side_within edges n p side in
              let m_below = side_within edges m q other in
              inr (cycle_joined n m p q side other (sym (node_is n n_below) ∙ same ∙ node_is m m_below))
              )
          | inr past ↦ absurd (
              let n_below = side_within edges n p side in
              let within = cycles.within n n_below in
              let is = node_is n n_below in
              let far = ap (λ k. node_of of list k) past.0 in
              omega (arith, within, is, same, far, node_past)
              )
        ]
        | inr past ↦ elim at_q [
          | inl other ↦ absurd (
              let m_below = side_within edges m q other in
              let within = cycles.within m m_below in
              let is = node_is m m_below in
              let far = ap (λ k. node_of of list k) past.0 in
              omega (arith, within, is, same, far, node_past)
              )
          | inr other ↦ inl (past.1 ∙ sym other.1)
        ]
      ]

  module _ (distinct : AreDistinct edges) (links : List Link) (made : AreLinks edges of list links) where
    link_within : (link : Link) → Contains links link → (link.from < length list + 1) × (link.to < length list + 1)
    link_within link among =
        let is = made.sound link among in
        let (side, place) = below_within edges is.side is.place is.below in
        let first = node_within is.side (omega (arith, side)) in
        let second = node_within is.place place in
        let from = is.from in
        let to = is.to in
        (omega (arith, first, from), omega (arith, second, to))

    pub links_within : AreLinksWithin (length list + 1) links
    links_within i d below = link_within (get_or links i d) (Contains-get_or links i d below)

    -- and so do links between nodes
    tie_joined : (x y : ℕ) → IsTied links x y → (n m : ℕ) × ((node_of of list n ≡ x) × (node_of of list m ≡ y) × (n < 2 * length edges + 1) × (m < 2 * length edges + 1) × ((p q : Point) → IsPlace edges n p → IsPlace edges m q → Joined edges p q))
    tie_joined x y tie =
        let is = made.sound tie.link tie.among in
        let (side, place) = below_within edges is.side is.place is.below in
        let wide : is.side < 2 * length edges + 1 = omega (arith, side) in
        let joined = λ (p : Point) (q : Point) (at_p : IsPlace edges is.side p) (at_q : IsPlace edges is.place q). (
        below_joined edges planar is.side is.place is.below p q (side_of_place edges is.side p side at_p) at_q) in
        elim tie.ends [
          | inl along ↦ (is.side, is.place, (sym is.from ∙ along.0, sym is.to ∙ along.1, wide, place, joined))
          | inr back ↦ (is.place, is.side, (sym is.to ∙ back.1, sym is.from ∙ back.0, place, wide, λ p q at_p at_q. joined-sym edges q p (joined q p at_q at_p)))
        ]

    way_joined : (x : ℕ) (way : List ℕ) (y : ℕ) → LeadsAlong links x way y → (n m : ℕ) (p q : Point) → IsPlace edges n p → IsPlace edges m q → node_of of list n ≡ x → node_of of list m ≡ y → (p ≡ q) ⊎ Joined edges p q
    way_joined x [] y same n m p q at_p at_q is_n is_m = node_joined n m p q at_p at_q (is_n ∙ same ∙ sym is_m)
    way_joined x (z ∷ way) y leads n m p q at_p at_q is_n is_m =
        let (a, b, tie) = tie_joined x z leads.0 in
        let (r, at_r) = some_place edges a tie.2 in
        let (s, at_s) = some_place edges b tie.3 in
        let step = tie.4 r s at_r at_s in
        let first : Joined edges p s = (elim (node_joined n a p r at_p at_r (is_n ∙ sym tie.0)) [
          | inl same ↦ subst (λ t. Joined edges t s) (sym same) step
          | inr joined ↦ joined-trans edges p r s joined step
        ]) in
        inr (elim (way_joined z way y leads.1 b m s q at_s at_q tie.1 is_m) as (λ _. Joined edges p q) [
          | inl same ↦ subst (λ t. Joined edges p t) same first
          | inr on ↦ joined-trans edges p s q first on
        ])

    -- ---- the numbers

    module _ (connected : List ℕ) (components : AreComponents (length list + 1) links connected) where
      -- the least side of the cycle at a place, or the place past the range
      abbrev least_at : Option Cycle → ℕ
      least_at (Some c) = c.least
      least_at None = 2 * length edges

      abbrev number : ℕ → ℕ
      number n = least_at (slice_get list (slice_index connected (node_of of list n)))

      abbrev outer : ℕ
      outer = number (2 * length edges)

      node_same : (n m : ℕ) → slice_index connected (node_of of list n) ≡ slice_index connected (node_of of list m) → number n ≡ number m
      node_same n m same = ap (λ k. least_at (slice_get list k)) same

      link_same : (n m : ℕ) → n < 2 * length edges + 1 → m < 2 * length edges + 1 → Contains links (record { from = node_of of list n; to = node_of of list m }) → number n ≡ number m
      link_same n m n_below m_below among =
          let link : Link = record { from = node_of of list n; to = node_of of list m } in
          node_same n m (same_component (length list + 1) links connected (node_of of list n) (node_of of list m) components (node_within n n_below) (node_within m m_below)
          (connected-tied links (node_of of list n) (node_of of list m) (record { link = link; among = among; ends = inl (refl, refl) })))

      cycle_same : (n m : ℕ) → n < 2 * length edges → m < 2 * length edges → slice_index of n ≡ slice_index of m → number n ≡ number m
      cycle_same n m n_below m_below same = node_same n m (ap (λ k. slice_index connected k) (node_is n n_below ∙ same ∙ sym (node_is m m_below)))

      -- the cycle that the cycle of a side is numbered by
      number_cycle : (n : ℕ) → n < 2 * length edges → (c : Cycle) × ((slice_get list (slice_index connected (slice_index of n)) ≡ Some c) × (number n ≡ c.least) × (slice_index connected (slice_index of n) ≤ slice_index of n))
      number_cycle n below =
          let within = cycles.within n below in
          let low = number-low (length list + 1) links connected (slice_index of n) components (omega (arith, within)) in
          let (c, at) = some_at list (slice_index connected (slice_index of n)) (omega (arith, low, within)) in
          (c, (at, ap (λ k. least_at (slice_get list (slice_index connected k))) (node_is n below) ∙ ap least_at at, low))

      walk : IsWalk edges number outer
      walk = record {
        next = λ n m next.
            cycle_same n m (number_within edges n next.from next.from_is) (number_within edges m next.to next.to_is) (cycles.along n m next);
        over = λ n v over.
            let below = number_within edges n over.half_edge over.is in
            elim (made.down n v over) [
              | inl earlier ↦ (
                  let ends = cycles.ends (slice_index of n) earlier.cycle earlier.at_place in
                  let first = earlier.cycle.first in
                  inl (record {
                    side = first;
                    vertex = earlier.vertex;
                    from = earlier.from;
                    earlier = earlier.earlier;
                    same = cycle_same n first below ends.first_within (sym ends.first);
                    joined = λ p q at_p at_q. cycle_joined n first p q at_p at_q (sym ends.first);
                  })
                  )
              | inr linked ↦ inr (record {
                down = λ e m nearest to.
                    let link : IsLinkBelow edges n m = inl (record { vertex = v; from = over; edge = e; nearest = nearest; to = to }) in
                    let (n_below, m_below) = below_within edges n m link in
                    link_same n m (omega (arith, n_below)) m_below (linked m link);
                out = λ none.
                    let link : IsLinkBelow edges n (2 * length edges) = inr (record { vertex = v; from = over; none = none }, refl) in
                    link_same n (2 * length edges) (omega (arith, below)) (omega arith) (linked (2 * length edges) link);
              })
            ];
      }

      -- ---- and the number is that of a joined side

      joined_side : (n : ℕ) (p : Point) → IsSide edges n p → (number n ≤ n) × IsJoinedSide edges p (number n)
      joined_side n p at =
          let below = side_within edges n p at in
          let within = cycles.within n below in
          let (c, found) = number_cycle n below in
          let ends = cycles.ends (slice_index connected (slice_index of n)) c found.0 in
          let (q, at_q) = some_side edges c.least ends.least_within in
          let own = components.own (slice_index of n) (omega (arith, within)) in
          let (d, at_d) = cycle_of n below in
          let least = (cycles.each n d below at_d).least in
          let ordered = in_order (slice_index connected (slice_index of n)) (slice_index of n) c d found.2 found.0 at_d in
          let is = found.1 in (
            omega (arith, least, ordered, is),
            record {
              at = q;
              side = subst (λ k. IsSide edges k q) (sym is) at_q;
              joined = elim (way_joined (slice_index of n) own.0 (slice_index connected (slice_index of n)) own.1 n c.least p q (inl at) (inl at_q) (node_is n below)
                  (node_is c.least ends.least_within ∙ ends.least)) as (λ _. Joined edges p q) [
                    | inl same ↦ subst (λ r. Joined edges p r) same (side-joined_itself edges planar n p at)
                    | inr joined ↦ joined
                  ];
            },
          )
        where
          in_order : (i j : ℕ) (c d : Cycle) → i ≤ j → slice_get list i ≡ Some c → slice_get list j ≡ Some d → c.least ≤ d.least
          in_order i j c d le at_i at_j = elim (cases_eq i j) [
            | inl same ↦ (let one = ap (λ (x : Cycle). x.least) (same_Some c d (sym at_i ∙ ap (λ k. slice_get list k) same ∙ at_j)) in omega (arith, one))
            | inr apart ↦ (
                let up = cycles.ascending i j c (omega (arith, le, apart)) (slice_get_within list j d at_j) in
                let first = ap (λ (x : Cycle). x.least) (get_or_from_slice_get list i c c at_i) in
                let second = ap (λ (x : Cycle). x.least) (get_or_from_slice_get list j d c at_j) in
                omega (arith, up, first, second)
                )
          ]

      side_regions : AreSideRegions edges number
      side_regions = fewer_links_regions edges planar distinct number outer walk joined_side

      -- ---- the outer region

      outermost_by : (n : ℕ) (p : Point) → IsSide edges n p → IsOuter edges p → IsOutermost edges outer
      outermost_by n p at outside =
          let region : IsRegionOf edges p outer = subst (λ r. IsRegionOf edges p r) (outer_number edges planar distinct number outer walk n p at outside) (side_regions n p at) in
          record {
            outer = record {
              outer = record {
                at = region.joined.at;
                side = region.joined.side;
                outer = joined-trans edges region.joined.at p far_point (joined-sym edges p region.joined.at region.joined.joined) outside;
              };
              least = λ m h. region.least m (record { at = h.at; side = h.side; joined = joined-trans edges p far_point h.at outside (joined-sym edges h.at far_point h.outer) });
            };
            region = λ q outer_q. region-joined edges p q outer (joined-trans edges p far_point q outside (joined-sym edges q far_point outer_q)) region;
          }

      outermost : 0 < length edges → IsOutermost edges outer
      outermost some =
          let (h, at_h) = some_half_edge edges 0 (omega (arith, some)) in
          let out = some_out edges planar h (half_edge_among edges 0 h at_h) in
          let g = out.half_edge in
          let (n, at_g) = some_number edges g out.leaves.over.follows.leaves.among in
          outermost_by n (left g) (half_edge_side edges n g at_g) (link_out edges planar out.vertex g out.leaves out.none)

      -- ---- the tables of the code

      pub numbered : (table : List ℕ) (place : Option ℕ) → AreLeastSides of list connected table → place ≡ option_map (λ (c : Cycle). c.least) (slice_get list (slice_index connected (length list)))
          → IsNumberTable edges table place
      numbered table place least is = record {
        planar = planar;
        distinct = distinct;
        regions = record {
          count = least.count ∙ cycles.count;
          each = λ n p at. subst (λ r. IsRegionOf edges p r) (sym (table_is n (side_within edges n p at))) (side_regions n p at);
        };
        no_later = λ n below. (let (p, at) = some_side edges n below in let low = (joined_side n p at).0 in let same = table_is n below in omega (arith, low, same));
        outermost = subst (λ (o : Option ℕ). MatchOption o (edges ≡ []) (IsOutermost edges)) (sym is) (by_place (slice_get list (slice_index connected (length list))) refl);
      }
        where
          table_is : (n : ℕ) → n < 2 * length edges → slice_index table n ≡ number n
          table_is n below =
              let count = cycles.count in
              let (c, found) = number_cycle n below in
              least.each n c (omega (arith, below, count)) found.0 ∙ sym found.1

          none_at : (es : List Seg) → (0 < length es → ⊥) → es ≡ []
          none_at [] none = refl
          none_at (e ∷ es) none = absurd (none (omega arith))

          by_place : (o : Option Cycle) → slice_get list (slice_index connected (length list)) ≡ o → MatchOption (option_map (λ (c : Cycle). c.least) o) (edges ≡ []) (IsOutermost edges)
          by_place (Some c) at = subst (λ r. IsOutermost edges r) (outer_is ∙ ap least_at at) (outermost some)
            where
              outer_is : outer ≡ least_at (slice_get list (slice_index connected (length list)))
              outer_is = ap (λ k. least_at (slice_get list (slice_index connected k))) node_past

              some : 0 < length edges
              some = (let within = (cycles.ends (slice_index connected (length list)) c at).least_within in omega (arith, within))
          by_place None at = none_at edges (λ some. (
              let outer_is : outer ≡ 2 * length edges = ap (λ k. least_at (slice_get list (slice_index connected k))) node_past ∙ ap least_at at in
              let found = (outermost some).outer.outer in
              let within = side_within edges outer found.at found.side in
              omega (arith, outer_is, within)
              ))
