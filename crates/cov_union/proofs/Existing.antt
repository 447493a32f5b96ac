-- Each list of uses has its distinct segments, ascending, with their odd pairs; so a valid coverage has an overlay.
use mathlib.Core.List.{[], ◌∷◌}
use Rattle.std.proofs.Common.{◌≡◌, ◌⊎◌, inl, inr, sym, ◌∙◌, ap, subst, ℕ, suc, ◌%◌, ◌==◌, ◌↔◌, Bool, List, length, get_or, map, filter, IsTrue, Some, arith}
use Rattle.std.specs.Prelude.{All, AllPairs, Contains, slice_get}
use Rattle.std.proofs.lemmas.Bool.{cases_lt}
use Rattle.std.proofs.lemmas.Bool.Decides.{Decides-eqb, nat_tests}
use Rattle.std.proofs.lemmas.List.Elements.{All-contains, Contains-get_or}
use Rattle.std.proofs.lemmas.List.Kept.{AllPairs-cons}
use Rattle.cov_types.specs.declared.edge_use.EdgeUse.{EdgeUse}
use Rattle.cov_types.specs.declared.seg.Seg.{Seg}
use Rattle.cov_types.specs.Coverage.{Members, AllInRange}
use Rattle.cov_types.specs.Range.{IsSegInRange}
use Rattle.cov_types.specs.Seg.{is_seg_before}
use Rattle.cov_types.specs.Uses.{uses_of}
use Rattle.cov_types.proofs.SegOrder.{is_seg_before-trans, cases_segs}
use Rattle.cov_types.proofs.AllUses.{uses-in_range}
use Rattle.plane.specs.Validity.{IsValid}
use Rattle.crossing_laws.specs.Across.{member_times}
use Rattle.crossing_laws.proofs.Lists.{contains_here, contains_there, contains-map}
use Rattle.region_laws.proofs.Balance.{first_or_later}
use Rattle.region_laws.proofs.Exists.{regions_exist}
use Rattle.removal_laws.proofs.Counts.{times_has}
use Rattle.sector_laws.specs.Sector.{IsPlanar}
use Rattle.arrangement.specs.declared.odd_use.OddUse.{OddUse}
use Rattle.arrangement.specs.Noding.{segments, IsOdd, is_odd_before, AreEdges, odd_uses}
use Rattle.arrangement.specs.Overlay.{Overlay, IsOverlayOf}
use Rattle.arrangement.proofs.Labels.{mapped}
use Rattle.arrangement.proofs.LiveOverlays.{kept, kept_is}
use Rattle.arrangement.proofs.OddUses.{one_place}
use Rattle.arrangement.proofs.ValidLive.{valid_overlay}
use Rattle.cleaned_laws.proofs.Cleaned.{ascending_distinct}
use Rattle.cov_admit.proofs.Segments.{noded_by_uses, segments_in_range}

-- ---- the elements of a list in order, each once

module _ {X : Type 0} (before : X → X → Bool) (trans : (x y z : X) → IsTrue (before x y) → IsTrue (before y z) → IsTrue (before x z))
    (cases : (x y : X) → IsTrue (before x y) ⊎ ((x ≡ y) ⊎ IsTrue (before y x))) where
  abbrev Up : X → X → Type 0
  Up x y = IsTrue (before x y)

  -- the list has x and what the other has, in order
  record IsPut (x : X) (xs more : List X) : Type 0 where
    ascending : AllPairs Up more
    exact : (z : X) → Contains more z ↔ ((z ≡ x) ⊎ Contains xs z)

  all_from : (P : X → Type 0) (xs : List X) → ((z : X) → Contains xs z → P z) → All P xs
  all_from P xs each k d within = each _ (Contains-get_or xs k d within)

  first_up : (y : X) (ys : List X) → AllPairs Up (y ∷ ys) → (z : X) → Contains ys z → Up y z
  first_up y ys up z (k, within, is) = subst (Up y) is (up 0 (suc k) z (omega arith) (omega arith))

  rest_up : (y : X) (ys : List X) → AllPairs Up (y ∷ ys) → AllPairs Up ys
  rest_up y ys up i j d lt within = up (suc i) (suc j) d (omega arith) (omega arith)

  put : (x : X) (xs : List X) → AllPairs Up xs → (more : List X) × IsPut x xs more
  put x [] up = (
    x ∷ [],
    record {
      ascending = λ i j d lt within. absurd (omega (arith, lt, within));
      exact = λ z. (
        λ has. elim (first_or_later x [] z has) [ inl here ↦ inl (sym here) | inr later ↦ inr later ],
        λ h. elim h [ inl here ↦ subst (Contains (x ∷ [])) (sym here) (contains_here x []) | inr later ↦ contains_there x z [] later ],
      );
    },
  )
  put x (y ∷ ys) up = elim (cases x y) [
    | inl lt ↦ (
      x ∷ y ∷ ys,
      record {
        ascending = AllPairs-cons Up x (y ∷ ys) (all_from (Up x) (y ∷ ys) (λ z has. elim (first_or_later y ys z has) [
          | inl here ↦ subst (Up x) here lt
          | inr later ↦ trans x y z lt (first_up y ys up z later)
        ])) up;
        exact = λ z. (
          λ has. elim (first_or_later x (y ∷ ys) z has) [ inl here ↦ inl (sym here) | inr later ↦ inr later ],
          λ h. elim h [ inl here ↦ subst (Contains (x ∷ y ∷ ys)) (sym here) (contains_here x (y ∷ ys)) | inr later ↦ contains_there x z (y ∷ ys) later ],
        );
      },
    )
    | inr rest ↦ elim rest [
      | inl same ↦ (
        y ∷ ys,
        record {
          ascending = up;
          exact = λ z. (
            λ has. inr has,
            λ h. elim h [ inl here ↦ subst (Contains (y ∷ ys)) (sym (here ∙ same)) (contains_here y ys) | inr later ↦ later ],
          );
        },
      )
      | inr gt ↦ (
          let (more, is) = put x ys (rest_up y ys up) in (
            y ∷ more,
            record {
              ascending = AllPairs-cons Up y more (all_from (Up y) more (λ z has. elim ((is.exact z).0 has) [
                | inl here ↦ subst (Up y) (sym here) gt
                | inr later ↦ first_up y ys up z later
              ])) is.ascending;
              exact = λ z. (
                λ has. elim (first_or_later y more z has) [
                  | inl here ↦ inr (subst (Contains (y ∷ ys)) here (contains_here y ys))
                  | inr later ↦ elim ((is.exact z).0 later) [ inl new ↦ inl new | inr old ↦ inr (contains_there y z ys old) ]
                ],
                λ h. elim h [
                  | inl new ↦ contains_there y z more ((is.exact z).1 (inl new))
                  | inr old ↦ elim (first_or_later y ys z old) [
                    | inl here ↦ subst (Contains (y ∷ more)) here (contains_here y more)
                    | inr later ↦ contains_there y z more ((is.exact z).1 (inr later))
                  ]
                ],
              );
            },
          )
          )
    ]
  ]

  record AreInOrder (xs list : List X) : Type 0 where
    ascending : AllPairs Up list
    exact : (z : X) → Contains list z ↔ Contains xs z

  in_order : (xs : List X) → (list : List X) × AreInOrder xs list
  in_order [] = ([], record { ascending = λ i j d lt within. absurd (omega (arith, lt, within)); exact = λ z. (λ has. has, λ has. has) })
  in_order (x ∷ xs) =
      let (rest, are) = in_order xs in
      let (list, is) = put x rest are.ascending in (
        list,
        record {
          ascending = is.ascending;
          exact = λ z. (
            λ has. elim ((is.exact z).0 has) [
              | inl here ↦ subst (Contains (x ∷ xs)) (sym here) (contains_here x xs)
              | inr later ↦ contains_there x z xs ((are.exact z).0 later)
            ],
            λ has. elim (first_or_later x xs z has) [
              | inl here ↦ (is.exact z).1 (inl (sym here))
              | inr later ↦ (is.exact z).1 (inr ((are.exact z).1 later))
            ],
          );
        },
      )

-- ---- odd pairs

odd_trans : (o p q : OddUse) → IsTrue (is_odd_before o p) → IsTrue (is_odd_before p q) → IsTrue (is_odd_before o q)
odd_trans o p q h k = grind (arith, nat_tests)

cases_odd : (o p : OddUse) → IsTrue (is_odd_before o p) ⊎ ((o ≡ p) ⊎ IsTrue (is_odd_before p o))
cases_odd o p = elim (cases_lt o.member p.member) [
  | inl lt ↦ inl (grind (arith, nat_tests))
  | inr ge ↦ elim (cases_lt p.member o.member) [
    | inl gt ↦ inr (inr (grind (arith, nat_tests)))
    | inr le ↦ (
        let member : o.member ≡ p.member = omega (arith, ge, le) in
        elim (cases_lt o.edge p.edge) [
          | inl lt_edge ↦ inl (grind (arith, nat_tests))
          | inr ge_edge ↦ elim (cases_lt p.edge o.edge) [
            | inl gt_edge ↦ inr (inr (grind (arith, nat_tests)))
            | inr le_edge ↦ (let edge : o.edge ≡ p.edge = omega (arith, ge_edge, le_edge) in inr (inl (λ i. record { member = member i; edge = edge i })))
          ]
        ]
        )
  ]
]

module _ (uses : List EdgeUse) where
  -- the distinct segments
  edges : (list : List Seg) × AreInOrder is_seg_before is_seg_before-trans cases_segs (segments uses) list
  edges = in_order is_seg_before is_seg_before-trans cases_segs (segments uses)

  abbrev es : List Seg
  es = edges.0

  place_in : (e : Seg) → Contains es e → (k : ℕ) × (slice_get es k ≡ Some e)
  place_in e has = at es e has
    where
      at : (fs : List Seg) (e : Seg) → Contains fs e → (k : ℕ) × (slice_get fs k ≡ Some e)
      at [] e has = absurd (omega (arith, has.1))
      at (f ∷ fs) e has = elim (first_or_later f fs e has) [
        | inl here ↦ (0, ap (λ (s : Seg). Some s) here)
        | inr later ↦ (let rest = at fs e later in (suc rest.0, rest.1))
      ]

  -- each use with the place of its segment
  abbrev pairs_of : (us : List EdgeUse) → ((u : EdgeUse) → Contains us u → Contains es u.seg) → List (OddUse × Seg)
  pairs_of [] listed = []
  pairs_of (u ∷ us) listed =
      (record { member = u.member; edge = (place_in u.seg (listed u (contains_here u us))).0 }, u.seg) ∷ pairs_of us (λ v has. listed v (contains_there u v us has))

  record IsPair (us : List EdgeUse) (x : OddUse × Seg) : Type 0 where
    at_place : slice_get es (x.0).edge ≡ Some x.1
    has : Contains us (record { member = (x.0).member; seg = x.1 })

  are_pairs : (us : List EdgeUse) (listed : (u : EdgeUse) → Contains us u → Contains es u.seg) (x : OddUse × Seg) → Contains (pairs_of us listed) x → IsPair us x
  are_pairs [] listed x has = absurd (omega (arith, has.1))
  are_pairs (u ∷ us) listed x has =
      let first = place_in u.seg (listed u (contains_here u us)) in
      elim (first_or_later _ (pairs_of us (λ v h. listed v (contains_there u v us h))) x has) [
        | inl here ↦ subst (IsPair (u ∷ us)) here (record { at_place = first.1; has = contains_here u us })
        | inr later ↦ (
            let rest = are_pairs us (λ v h. listed v (contains_there u v us h)) x later in
            record { at_place = rest.at_place; has = contains_there u _ us rest.has }
            )
      ]

  pair_for : (us : List EdgeUse) (listed : (u : EdgeUse) → Contains us u → Contains es u.seg) (u : EdgeUse) → Contains us u
      → (k : ℕ) × ((slice_get es k ≡ Some u.seg) × Contains (pairs_of us listed) (record { member = u.member; edge = k }, u.seg))
  pair_for [] listed u has = absurd (omega (arith, has.1))
  pair_for (v ∷ us) listed u has = elim (first_or_later v us u has) [
    | inl here ↦ (
        let first = place_in v.seg (listed v (contains_here v us)) in
        subst (λ (w : EdgeUse). (k : ℕ) × ((slice_get es k ≡ Some w.seg) × Contains (pairs_of (v ∷ us) listed) (record { member = w.member; edge = k }, w.seg))) here
        (first.0, (first.1, contains_here _ (pairs_of us (λ w h. listed w (contains_there v w us h)))))
        )
    | inr later ↦ (
        let (k, (at, rest)) = pair_for us (λ w h. listed w (contains_there v w us h)) u later in
        (k, (at, contains_there _ _ (pairs_of us (λ w h. listed w (contains_there v w us h))) rest))
        )
  ]

  listed_all : (u : EdgeUse) → Contains uses u → Contains es u.seg
  listed_all u has = (edges.1.exact u.seg).1 (contains-map (λ (v : EdgeUse). v.seg) uses u has)

  abbrev is_odd_pair : OddUse × Seg → Bool
  is_odd_pair x = member_times x.1 uses (x.0).member % 2 == 1

  abbrev odd_list : List OddUse
  odd_list = map (λ (x : OddUse × Seg). x.0) (filter is_odd_pair (pairs_of uses listed_all))

  odd : (list : List OddUse) × AreInOrder is_odd_before odd_trans cases_odd odd_list list
  odd = in_order is_odd_before odd_trans cases_odd odd_list

  abbrev HasOdd : OddUse → Type 0
  HasOdd o = (e : Seg) × ((slice_get es o.edge ≡ Some e) × IsOdd uses o.member e)

  odd_from : (o : OddUse) → Contains odd_list o → HasOdd o
  odd_from o has =
      mapped (λ (x : OddUse × Seg). x.0) HasOdd (filter is_odd_pair (pairs_of uses listed_all))
      (λ x in_x. (
      let (listed, test) = kept_is is_odd_pair (pairs_of uses listed_all) x in_x in
      (x.1, ((are_pairs uses listed_all x listed).at_place, (Decides-eqb (member_times x.1 uses (x.0).member % 2) 1).0 test)))) o has

  odd_to : (o : OddUse) → HasOdd o → Contains odd_list o
  odd_to o (e, (at, is_odd)) =
      let its : Contains uses (record { member = o.member; seg = e }) = times_has uses o.member e (let times = is_odd in omega (arith, times)) in
      let (k, (at_k, pair)) = pair_for uses listed_all (record { member = o.member; seg = e }) its in
      let place : k ≡ o.edge = one_place es edges.1.ascending k o.edge e at_k at in
      let in_list = contains-map (λ (x : OddUse × Seg). x.0) (filter is_odd_pair (pairs_of uses listed_all)) (record { member = o.member; edge = k }, e)
      (kept is_odd_pair (pairs_of uses listed_all) (record { member = o.member; edge = k }, e) pair ((Decides-eqb (member_times e uses o.member % 2) 1).1 is_odd)) in
      subst (λ n. Contains odd_list (record { member = o.member; edge = n })) place in_list

  pub edges_exist : (list : List Seg) × ((odd_pairs : List OddUse) × AreEdges uses list odd_pairs)
  edges_exist = (
    es,
    (
      odd.0,
      record {
        ascending = edges.1.ascending;
        exact = edges.1.exact;
        pairs = record { ascending = odd.1.ascending; exact = λ o. (λ has. odd_from o ((odd.1.exact o).0 has), λ has. (odd.1.exact o).1 (odd_to o has)) };
      },
    ),
  )

-- ---- the overlay of a valid coverage

pub overlay_exists : (members : Members) → AllInRange members → IsValid (uses_of members) → (o : Overlay) × IsOverlayOf (uses_of members) (length members) o
overlay_exists members in_range valid =
    let uses : List EdgeUse = uses_of members in
    let (edges, (odd, are)) = edges_exist uses in
    let noded = noded_by_uses uses valid.ends in
    let ranged = segments_in_range uses (uses-in_range members in_range) in
    let planar : IsPlanar edges = record {
      in_range = λ k d within. All-contains IsSegInRange (segments uses) (get_or edges k d) ranged ((are.exact (get_or edges k d)).0 (Contains-get_or edges k d within));
      noded = λ e f in_e in_f. noded e f ((are.exact e).0 in_e) ((are.exact f).0 in_f);
    } in
    let (numbers, regions) = regions_exist edges planar (ascending_distinct edges are.ascending) in
    (record { edges = edges; uses = odd_uses edges odd; members = length members; numbers = numbers }, valid_overlay uses valid edges odd are (length members) numbers regions)
