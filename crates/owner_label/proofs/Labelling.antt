-- Joined points have one label, and the outer one is empty.
use Rattle.std.proofs.Common.{◌≡◌, refl, sym, ◌∙◌, ap, subst, ℕ, ◌<◌, ◌&&◌, Bool, true, false, ltb, List, [], ◌∷◌, ◌⊎◌, ◌≤◌, filter, length, get_or, Contains, Some, slice_get, IsTrue, inl, inr, arith}
use Rattle.std.specs.Prelude.{All}
use Rattle.std.proofs.lemmas.Bool.{cases_lt, lt-ltb, le-ltb, false≢true, false_from_ne_true}
use Rattle.std.proofs.lemmas.List.Elements.{All-contains, Contains-get_or}
use Rattle.std.proofs.lemmas.Option.{slice_get_within}
use Rattle.cov_types.specs.declared.edge_use.EdgeUse.{EdgeUse}
use Rattle.cov_types.specs.declared.seg.Seg.{Seg}
use Rattle.cov_types.specs.Range.{IsSegInRange}
use Rattle.cov_types.specs.Seg.{is_seg_before}
use Rattle.cov_types.specs.Uses.{HasEvenEnds}
use Rattle.cov_types.proofs.SegOrder.{is_seg_before-irrefl}
use Rattle.plane.specs.Joined.{Joined}
use Rattle.plane.specs.Label.{label_at, numbers_below}
use Rattle.plane.specs.Parity.{member_holds}
use Rattle.plane.specs.Point.{Point}
use Rattle.plane.specs.Region.{far_point, IsRegionOf, IsOuter}
use Rattle.plane.specs.Segment.{upper, lower}
use Rattle.plane.proofs.Sweeps.{rises-in_range}
use Rattle.crossing_laws.proofs.Located.{same_region}
use Rattle.crossing_laws.proofs.Sums.{member_holds-joined}
use Rattle.sector_laws.specs.Sector.{IsPlanar, AreDistinct}
use Rattle.arrangement.specs.declared.odd_use.OddUse.{OddUse}
use Rattle.arrangement.specs.Noding.{IsAscending, AreLiveEdges, odd_uses, segments}
use Rattle.arrangement.proofs.Labels.{far_free}
use Rattle.arrangement.proofs.OddUses.{odd_use_listed}
use Rattle.owner_label.specs.Members.{has, differs, members_of, IsToggled}
use Rattle.owner_label.proofs.Ascending.{chosen_from, chosen_has}
use Rattle.owner_label.proofs.Toggles.{mapped, member_below, named}

-- ---- joined points

module _ (edges : List Seg) (odd : List OddUse) (planar : IsPlanar edges) where
  in_range : (e : Seg) → Contains edges e → IsSegInRange e
  in_range e c = All-contains IsSegInRange edges e planar.in_range c

  -- members hold joined points alike
  pub holds_alike : HasEvenEnds (odd_uses edges odd) → (p q : Point) → Joined edges p q → (m : ℕ) → member_holds (odd_uses edges odd) m p ≡ member_holds (odd_uses edges odd) m q
  holds_alike even p q j m =
      member_holds-joined (odd_uses edges odd) m edges (odd_use_listed edges odd) (λ e c. rises-in_range e (in_range e c)) (λ inside. even inside m) p q j

  listed : (k : ℕ) (d : Seg) → k < length (segments (odd_uses edges odd)) → Contains edges (get_or (segments (odd_uses edges odd)) k d)
  listed k d within =
      mapped (λ (u : EdgeUse). u.seg) (λ f. Contains edges f) (odd_uses edges odd) (odd_use_listed edges odd) (get_or (segments (odd_uses edges odd)) k d) (Contains-get_or (segments (odd_uses edges odd)) k d within)

  -- and none holds an outer point
  pub outer_free : HasEvenEnds (odd_uses edges odd) → (p : Point) → IsOuter edges p → (m : ℕ) → member_holds (odd_uses edges odd) m p ≡ false
  outer_free even p outer m = holds_alike even p far_point outer m ∙ far_free (odd_uses edges odd) (λ k d within. in_range _ (listed k d within)) m

  pub one_label : HasEvenEnds (odd_uses edges odd) → (members : ℕ) (p q : Point) (r : ℕ) → IsRegionOf edges p r → IsRegionOf edges q r
      → label_at (odd_uses edges odd) members p ≡ label_at (odd_uses edges odd) members q
  one_label even members p q r in_p in_q = λ i. filter (λ m. holds_alike even p q (same_region edges p q r in_p in_q) m i) (numbers_below members)

  pub outer_empty : HasEvenEnds (odd_uses edges odd) → (members : ℕ) (p : Point) → IsOuter edges p → label_at (odd_uses edges odd) members p ≡ []
  outer_empty even members p outer = (λ i. filter (λ m. outer_free even p outer m i) (numbers_below members)) ∙ none (numbers_below members)
    where
      none : (ms : List ℕ) → filter (λ m. false) ms ≡ []
      none [] = refl
      none (m ∷ ms) = none ms

-- ---- the two sides of a live edge

ascending_distinct : (edges : List Seg) → IsAscending edges → AreDistinct edges
ascending_distinct edges ascending i j d less within same =
    false≢true (sym (is_seg_before-irrefl (get_or edges j d)) ∙ subst (λ e. IsTrue (is_seg_before e (get_or edges j d))) same (ascending i j d less within))

pub toggled_below : (uses : List EdgeUse) (edges : List Seg) (odd : List OddUse) → AreLiveEdges uses edges odd → IsPlanar edges → (members : ℕ) → All (λ o. o.member < members) odd
    → (k : ℕ) (e : Seg) → slice_get edges k ≡ Some e
    → IsToggled (label_at (odd_uses edges odd) members (upper e)) (members_of odd k) (label_at (odd_uses edges odd) members (lower e))
toggled_below uses edges odd live planar members below k e at = record {
  ascending = chosen_from (λ m. member_holds (odd_uses edges odd) m (lower e)) members;
  exact = λ m. chosen_has (λ n. member_holds (odd_uses edges odd) n (lower e)) members m ∙ by m (cases_lt m members)
      ∙ ap (λ b. differs b (has (members_of odd k) m)) (sym (chosen_has (λ n. member_holds (odd_uses edges odd) n (upper e)) members m));
}
  where
    places : All (λ o. o.edge < length edges) odd
    places i d within = let found = (live.pairs.exact (get_or odd i d)).0 (Contains-get_or odd i d within) in slice_get_within edges (get_or odd i d).edge found.0 found.1.0

    turned : (a b c : Bool) → c ≡ differs a b → c ≡ differs b a
    turned true true c h = h
    turned true false c h = h
    turned false true c h = h
    turned false false c h = h

    by : (m : ℕ) → (m < members) ⊎ (members ≤ m) → (ltb m members && member_holds (odd_uses edges odd) m (lower e))
        ≡ differs (ltb m members && member_holds (odd_uses edges odd) m (upper e)) (has (members_of odd k) m)
    by m (inl less) =
        ap (λ t. t && member_holds (odd_uses edges odd) m (lower e)) (lt-ltb m members less)
        ∙ turned (has (members_of odd k) m) (member_holds (odd_uses edges odd) m (upper e)) _ (member_below edges odd planar (ascending_distinct edges live.ascending) live.pairs.ascending places k e at m)
        ∙ ap (λ t. differs (t && member_holds (odd_uses edges odd) m (upper e)) (has (members_of odd k) m)) (sym (lt-ltb m members less))
    by m (inr past) =
        ap (λ t. t && member_holds (odd_uses edges odd) m (lower e)) (le-ltb m members past)
        ∙ sym (false_from_ne_true (has (members_of odd k) m) (λ h. (let low = named odd k m members below h in omega arith)))
        ∙ ap (λ t. differs (t && member_holds (odd_uses edges odd) m (upper e)) (has (members_of odd k) m)) (sym (le-ltb m members past))
