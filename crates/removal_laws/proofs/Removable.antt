-- In a state whose segments are the current ones, the triangle of a removable point is an ear.
use mathlib.Core.List.{[], ◌∷◌}
use Rattle.std.proofs.Common.{◌≡◌, ◌≢◌, ◌⊎◌, inl, inr, refl, sym, ◌∙◌, ap, subst, zero, suc, ℕ, ◌+◌, ◌<◌, ◌≤◌, ◌==◌, ◌&&◌, Bool, true, false, not, ◌||◌, cond, List, ◌++◌, arith}
use Rattle.std.specs.Prelude.{Contains, sum_by, reverse, take, drop, Some, slice_get, option_and_then}
use Rattle.std.proofs.lemmas.Bool.{false≢true, cases_lt}
use Rattle.std.proofs.lemmas.List.{reverse-append, reverse-reverse}
use Rattle.std.proofs.lemmas.List.Elements.{Contains-append_right, All-contains, filter-append}
use Rattle.std.proofs.lemmas.Option.{none-some, slice_get_within, slice_get-get_or, get_or_from_slice_get}
use Rattle.cov_types.specs.declared.coord.Coord.{Coord}
use Rattle.cov_types.specs.declared.edge_use.EdgeUse.{EdgeUse}
use Rattle.cov_types.specs.declared.seg.Seg.{Seg}
use Rattle.cov_types.specs.Coord.{is_same_coord}
use Rattle.cov_types.specs.Coverage.{Members}
use Rattle.cov_types.specs.Range.{IsInRange, IsSegInRange}
use Rattle.cov_types.specs.Seg.{IsSegBetween}
use Rattle.cov_types.specs.Uses.{ends_inside, uses_of}
use Rattle.cov_types.proofs.AllUses.{uses-in_range}
use Rattle.cov_types.proofs.EvenEnds.{even-ends}
use Rattle.cov_types.proofs.Equal.{Decides-same_coords, Decides-same_segs}
use Rattle.plane.specs.Snapping.{chain_edges}
use Rattle.crossing_laws.proofs.Lists.{contains_here, contains-map}
use Rattle.crossing_laws.specs.Across.{is_same_seg}
use Rattle.arrangement.proofs.Labels.{mapped}
use Rattle.arrangement.proofs.LiveOverlays.{kept_is}
use Rattle.greedy_run.specs.Laws.{IsOnePlace}
use Rattle.greedy_run.specs.Lines.{IsLine}
use Rattle.greedy_run.specs.Run.{Triangle, Simplification, Spot, IsRemovable, is_removed, current, current_edges, coverage_without}
use Rattle.greedy_run.proofs.Kept.{before_is, after_is}
use Rattle.greedy_run.proofs.NoNodes.{no_node}
use Rattle.greedy_run.proofs.OneLine.{one_place}
use Rattle.greedy_run.proofs.Threads.{one_seg, seg_turned}
use Rattle.removal_laws.specs.Laws.{IsSoundState, HasEar}
use Rattle.removal_laws.proofs.Bridge.{of_flat_map, to_flat_map, chain_ends, free_ends}
use Rattle.removal_laws.proofs.Chains.{none_gone, has_or, edge_stays, StandsOnce, has_ab, has_bc, has_ac, ends_at_b, edge_was}
use Rattle.removal_laws.proofs.Counts.{counts_use, has_times, repeated_of, sum_at_most}
use Rattle.removal_laws.proofs.Exchange.{coord_cases, not_seg, one_end, no_end_at, ends_of_first, ends_of_third}
use Rattle.removal_laws.proofs.Rings.{side_cases}
use Rattle.removal_laws.proofs.Steps.{current_more}

some_is : (p q : Coord) → Some p ≡ Some q → p ≡ q
some_is p q h = cc

-- ---- a point in a list

split_here : (points : List Coord) (n : ℕ) (b : Coord) → slice_get points n ≡ Some b → points ≡ take n points ++ b ∷ drop (n + 1) points
split_here [] n b h = absurd (none-some b h)
split_here (x ∷ xs) zero b h = ap (λ y. y ∷ xs) (some_is x b h)
split_here (x ∷ xs) (suc n) b h =
    ap (λ l. x ∷ l) (split_here xs n b h)
    ∙ (let same : suc (n + 1) ≡ suc n + 1 = omega arith in ap (λ k. x ∷ (take n xs ++ b ∷ drop k (x ∷ xs))) same)

taken : (n : ℕ) (xs : List Coord) (x : Coord) → Contains (take n xs) x → (j : ℕ) × ((j < n) × (slice_get xs j ≡ Some x))
taken zero [] x has = absurd (let within = has.1 in omega arith)
taken zero (y ∷ xs) x has = absurd (let within = has.1 in omega arith)
taken (suc n) [] x has = absurd (let within = has.1 in omega arith)
taken (suc n) (y ∷ xs) x (zero, inside, is) = (0, (omega arith, ap Some is))
taken (suc n) (y ∷ xs) x (suc k, inside, is) = let rest = taken n xs x (k, omega arith, is) in (suc rest.0, (omega (arith, rest.1.0), rest.1.1))

dropped : (n : ℕ) (xs : List Coord) (x : Coord) → Contains (drop n xs) x → (j : ℕ) × ((n ≤ j) × (slice_get xs j ≡ Some x))
dropped zero xs x (k, inside, is) = (k, (omega arith, slice_get-get_or xs k x inside ∙ ap Some is))
dropped (suc n) [] x has = absurd (let within = has.1 in omega arith)
dropped (suc n) (y ∷ xs) x has = let rest = dropped n xs x has in (suc rest.0, (omega (arith, rest.1.0), rest.1.1))

headed : (l : List Coord) (c : Coord) → slice_get l 0 ≡ Some c → (ys : List Coord) × (l ≡ c ∷ ys)
headed [] c h = absurd (none-some c h)
headed (x ∷ xs) c h = (xs, ap (λ y. y ∷ xs) (some_is x c h))

-- without b there is no b
b_gone : (b : Coord) (points : List Coord) → ¬ Contains (current (b ∷ []) points) b
b_gone b points has =
    false≢true (sym (ap (λ (t : Bool). not (t || false)) ((Decides-same_coords b b).1 refl)) ∙ (kept_is (λ p. not (is_removed (b ∷ []) p)) points b has).1)

-- ---- the current edges at a removable point

module _ (s : Simplification) (removed : List Coord) (spot : Spot) (h : IsRemovable s removed spot) where
  abbrev points : List Coord
  points = h.triangle.points

  line_is : (l : List Coord) → Contains s.lines l → IsLine s.edges l
  line_is l has = (s.are_lines.exact l).0 has

  spot_line : Contains s.lines points
  spot_line = (spot.line, slice_get_within s.lines spot.line points h.triangle.line, get_or_from_slice_get s.lines spot.line points points h.triangle.line)

  here : slice_get points spot.place ≡ Some h.t.b
  here = sym (ap (option_and_then (λ l. slice_get l spot.place)) h.triangle.line) ∙ h.triangle.here

  -- b stands at one place of one line
  one : (l : List Coord) → Contains s.lines l → (j : ℕ) → slice_get l j ≡ Some h.t.b → IsOnePlace l points j spot.place
  one l has j at = one_place s.edges l points (line_is l has) (line_is points spot_line) h.t.b (no_node s removed spot h) j spot.place at here

  one_line : (l : List Coord) → Contains s.lines l → Contains (current removed l) h.t.b → l ≡ points
  one_line l has (k, inside, is) = by (kept_is (λ p. not (is_removed removed p)) l h.t.b (k, inside, is)).0
    where
      by : Contains l h.t.b → l ≡ points
      by (j, within, at) = (one l has j (slice_get-get_or l j h.t.b within ∙ ap Some at)).line

  abbrev before : List Coord
  before = current removed (take spot.place points)

  abbrev after : List Coord
  after = current removed (drop (spot.place + 1) points)

  -- so in what is left it stands once, between a and c
  pub stands : StandsOnce h.t.b (current removed points) h.t.a h.t.c
  stands =
      let (ys, after_b) = headed after h.t.c ((after_is removed points spot.place h.t.c).1 (h.triangle.to, h.triangle.after)) in
      let (zs, turned) = headed (reverse before) h.t.a ((before_is removed points spot.place h.t.a).1 (h.triangle.from, h.triangle.before)) in
      let before_b : before ≡ reverse zs ++ h.t.a ∷ [] = sym (reverse-reverse before) ∙ ap reverse turned ∙ reverse-append (h.t.a ∷ []) zs in
      record {
        xs = reverse zs;
        ys = ys;
        is =
            ap (current removed) (split_here points spot.place h.t.b here)
            ∙ filter-append (λ p. not (is_removed removed p)) (take spot.place points) (h.t.b ∷ drop (spot.place + 1) points)
            ∙ ap (λ (t : Bool). before ++ cond (not t) (h.t.b ∷ after) after) h.triangle.there
            ∙ (λ i. before_b i ++ h.t.b ∷ after_b i);
        not_before = λ has. none_before (subst (λ l. Contains l h.t.b) (sym before_b) has);
        not_after = λ has. none_after (subst (λ l. Contains l h.t.b) (sym after_b) has);
      }
    where
      none_before : ¬ Contains before h.t.b
      none_before has =
          let (j, found) = taken spot.place points h.t.b (kept_is (λ p. not (is_removed removed p)) (take spot.place points) h.t.b has).0 in
          let same = (one points spot_line j found.1).place in
          let less = found.0 in
          omega arith

      none_after : ¬ Contains after h.t.b
      none_after has =
          let (j, found) = dropped (spot.place + 1) points h.t.b (kept_is (λ p. not (is_removed removed p)) (drop (spot.place + 1) points) h.t.b has).0 in
          let same = (one points spot_line j found.1).place in
          let more = found.0 in
          omega arith

  abbrev now : List Seg
  now = current_edges s.lines removed

  abbrev next : List Seg
  next = current_edges s.lines (h.t.b ∷ removed)

  pub now_ab : (e : Seg) → IsSegBetween h.t.a h.t.b e → Contains now e
  now_ab e is = to_flat_map (λ l. chain_edges (current removed l)) s.lines points e spot_line (has_ab h.t.b (current removed points) h.t.a h.t.c stands e is)

  pub now_bc : (e : Seg) → IsSegBetween h.t.b h.t.c e → Contains now e
  now_bc e is = to_flat_map (λ l. chain_edges (current removed l)) s.lines points e spot_line (has_bc h.t.b (current removed points) h.t.a h.t.c stands e is)

  -- no current edge ends at b but the two
  pub now_ends : (e : Seg) → Contains now e → (e.lo ≡ h.t.b) ⊎ (e.hi ≡ h.t.b) → IsSegBetween h.t.a h.t.b e ⊎ IsSegBetween h.t.b h.t.c e
  now_ends e has at =
      let (l, found) = of_flat_map (λ l. chain_edges (current removed l)) s.lines e has in
      let same = one_line l found.0 (has_end l found.1 at) in
      ends_at_b h.t.b (current removed points) h.t.a h.t.c stands e (subst (λ m. Contains (chain_edges (current removed m)) e) same found.1) at
    where
      has_end : (l : List Coord) → Contains (chain_edges (current removed l)) e → (e.lo ≡ h.t.b) ⊎ (e.hi ≡ h.t.b) → Contains (current removed l) h.t.b
      has_end l in_chain (inl lo) = subst (Contains (current removed l)) lo (chain_ends (current removed l) e in_chain).lo
      has_end l in_chain (inr hi) = subst (Contains (current removed l)) hi (chain_ends (current removed l) e in_chain).hi

  -- the others stay, and ac comes
  pub next_stays : (e : Seg) → Contains now e → e.lo ≢ h.t.b → e.hi ≢ h.t.b → Contains next e
  next_stays e has lo hi =
      let (l, found) = of_flat_map (λ l. chain_edges (current removed l)) s.lines e has in
      to_flat_map (λ l. chain_edges (current (h.t.b ∷ removed) l)) s.lines l e found.0
      (subst (λ m. Contains (chain_edges m) e) (sym (current_more h.t.b removed l)) (edge_stays h.t.b (current removed l) e found.1 lo hi))

  pub next_ac : (e : Seg) → IsSegBetween h.t.a h.t.c e → Contains next e
  next_ac e is =
      to_flat_map (λ l. chain_edges (current (h.t.b ∷ removed) l)) s.lines points e spot_line
      (subst (λ m. Contains (chain_edges m) e) (sym (current_more h.t.b removed points)) (has_ac h.t.b (current removed points) h.t.a h.t.c stands e is))

  -- a current edge that does not end at b
  pub record IsOffB (e : Seg) : Type 0 where
    pub has : Contains now e
    pub lo : e.lo ≢ h.t.b
    pub hi : e.hi ≢ h.t.b

  -- and nothing else
  pub next_was : (e : Seg) → Contains next e → IsOffB e ⊎ IsSegBetween h.t.a h.t.c e
  next_was e has =
      let (l, found) = of_flat_map (λ l. chain_edges (current (h.t.b ∷ removed) l)) s.lines e has in
      by l found.0 (subst (λ m. Contains (chain_edges m) e) (current_more h.t.b removed l) found.1)
    where
      off_b : (l : List Coord) → Contains s.lines l → Contains (chain_edges (current (h.t.b ∷ []) (current removed l))) e → Contains (chain_edges (current removed l)) e → IsOffB e
      off_b l in_lines after before =
          let ends = chain_ends (current (h.t.b ∷ []) (current removed l)) e after in
          record {
            has = to_flat_map (λ l. chain_edges (current removed l)) s.lines l e in_lines before;
            lo = λ is. b_gone h.t.b (current removed l) (subst (Contains (current (h.t.b ∷ []) (current removed l))) is ends.lo);
            hi = λ is. b_gone h.t.b (current removed l) (subst (Contains (current (h.t.b ∷ []) (current removed l))) is ends.hi);
          }

      at_spot : Contains (chain_edges (current (h.t.b ∷ []) (current removed points))) e → IsOffB e ⊎ IsSegBetween h.t.a h.t.c e
      at_spot after =
          elim (edge_was h.t.b (current removed points) h.t.a h.t.c stands e after) [
            | inl before ↦ inl (off_b points spot_line after before)
            | inr third ↦ inr third
          ]

      by : (l : List Coord) → Contains s.lines l → Contains (chain_edges (current (h.t.b ∷ []) (current removed l))) e → IsOffB e ⊎ IsSegBetween h.t.a h.t.c e
      by l in_lines after =
          elim (has_or h.t.b (current removed l)) [
            | inl there ↦ at_spot (subst (λ m. Contains (chain_edges (current (h.t.b ∷ []) (current removed m))) e) (one_line l in_lines there) after)
            | inr none ↦ inl (off_b l in_lines after (subst (λ m. Contains (chain_edges m) e) (none_gone h.t.b (current removed l) none) after))
          ]

-- ---- the ear

some_seg : (p q : Coord) → p ≢ q → (e : Seg) × IsSegBetween p q e
some_seg p q apart = elim (side_cases p q) [ inl none ↦ absurd (apart none.1) | inr some ↦ (some.0, some.1.1) ]

second_end : (p q : Coord) (e : Seg) → IsSegBetween p q e → (e.lo ≡ q) ⊎ (e.hi ≡ q)
second_end p q e (inl is) = inr is.1
second_end p q e (inr is) = inl is.0

record AreEndsInRange (p q : Coord) : Type 0 where
  first : IsInRange p
  second : IsInRange q

ends_range : (p q : Coord) (e : Seg) → IsSegBetween p q e → IsSegInRange e → AreEndsInRange p q
ends_range p q e (inl is) r = record { first = subst IsInRange is.0 r.lo; second = subst IsInRange is.1 r.hi }
ends_range p q e (inr is) r = record { first = subst IsInRange is.1 r.hi; second = subst IsInRange is.0 r.lo }

seg_range : (p q : Coord) (e : Seg) → IsSegBetween p q e → IsInRange p → IsInRange q → IsSegInRange e
seg_range p q e (inl is) r t = record { lo = subst IsInRange (sym is.0) r; hi = subst IsInRange (sym is.1) t }
seg_range p q e (inr is) r t = record { lo = subst IsInRange (sym is.0) t; hi = subst IsInRange (sym is.1) r }

-- a segment ends at the point or not
at_or_off : (v : Coord) (e : Seg) → ((e.lo ≡ v) ⊎ (e.hi ≡ v)) ⊎ ((e.lo ≢ v) × (e.hi ≢ v))
at_or_off v e =
    elim (coord_cases e.lo v) [
      | inl lo ↦ inl (inl ((Decides-same_coords e.lo v).0 lo))
      | inr off_lo ↦ elim (coord_cases e.hi v) [
        | inl hi ↦ inl (inr ((Decides-same_coords e.hi v).0 hi))
        | inr off_hi ↦ inr (λ is. false≢true (sym off_lo ∙ (Decides-same_coords e.lo v).1 is), λ is. false≢true (sym off_hi ∙ (Decides-same_coords e.hi v).1 is))
      ]
    ]

zero_of : (m : Bool) → cond {A = ℕ} (m && false) 1 0 ≡ 0
zero_of true = refl
zero_of false = refl

module _ (s : Simplification) (members : Members) (removed : List Coord) (sound : IsSoundState s members removed) (spot : Spot) (h : IsRemovable s removed spot) where
  abbrev old : List EdgeUse
  old = uses_of (coverage_without removed members)

  abbrev t : Triangle
  t = h.t

  -- a current edge is used
  pub use_of : (e : Seg) → Contains (current_edges s.lines removed) e → (m : ℕ) × Contains old (record { member = m; seg = e })
  use_of e has = mapped (λ u. u.seg) (λ e. (m : ℕ) × Contains old (record { member = m; seg = e })) old (λ u in_old. (u.member, in_old)) e ((sound.edges e).0 has)

  -- what is used is current
  pub current_of : (u : EdgeUse) → Contains old u → Contains (current_edges s.lines removed) u.seg
  current_of u has = (sound.edges u.seg).1 (contains-map (λ v. v.seg) old u has)

  a_not_b : t.a ≢ t.b
  a_not_b is =
      let it = stands s removed spot h in
      it.not_before (Contains-append_right it.xs (t.a ∷ []) t.b (subst (Contains (t.a ∷ [])) is (contains_here t.a [])))

  c_not_b : t.b ≢ t.c
  c_not_b is =
      let it = stands s removed spot h in
      it.not_after (subst (Contains (t.c ∷ it.ys)) (sym is) (contains_here t.c it.ys))

  abbrev ab : Seg
  ab = (some_seg t.a t.b a_not_b).0

  is_ab : IsSegBetween t.a t.b ab
  is_ab = (some_seg t.a t.b a_not_b).1

  abbrev bc : Seg
  bc = (some_seg t.b t.c c_not_b).0

  is_bc : IsSegBetween t.b t.c bc
  is_bc = (some_seg t.b t.c c_not_b).1

  first_use : (m : ℕ) × Contains old (record { member = m; seg = ab })
  first_use = use_of ab (now_ab s removed spot h ab is_ab)

  second_use : (m : ℕ) × Contains old (record { member = m; seg = bc })
  second_use = use_of bc (now_bc s removed spot h bc is_bc)

  -- where a is c, each use that ends at b is of ab
  same_ends : t.a ≡ t.c → (m : ℕ) (u : EdgeUse) → Contains old u → cond (u.member == m) (ends_inside (is_same_coord t.b) u.seg) 0 ≡ counts_use m ab u + cond {A = ℕ} ((u.member == m) && false) 1 0
  same_ends back m u has = by (at_or_off t.b u.seg)
    where
      along : IsSegBetween t.a t.b u.seg ⊎ IsSegBetween t.b t.c u.seg → IsSegBetween t.a t.b u.seg
      along (inl is) = is
      along (inr is) = subst (λ (p : Coord). IsSegBetween p t.b u.seg) (sym back) (seg_turned t.b t.c u.seg is)

      not_ab : u.seg.lo ≢ t.b → u.seg.hi ≢ t.b → ¬ (ab ≡ u.seg)
      not_ab lo hi same = elim (second_end t.a t.b u.seg (subst (IsSegBetween t.a t.b) same is_ab)) [ inl is ↦ lo is | inr is ↦ hi is ]

      by : ((u.seg.lo ≡ t.b) ⊎ (u.seg.hi ≡ t.b)) ⊎ ((u.seg.lo ≢ t.b) × (u.seg.hi ≢ t.b))
          → cond (u.member == m) (ends_inside (is_same_coord t.b) u.seg) 0 ≡ counts_use m ab u + cond {A = ℕ} ((u.member == m) && false) 1 0
      by (inl at) =
          let is = along (now_ends s removed spot h u.seg (current_of u has) at) in
          ends_of_first (u.member == m) (is_same_seg ab u.seg) false (ends_inside (is_same_coord t.b) u.seg) (one_end t.a t.b u.seg is)
          ((Decides-same_segs ab u.seg).1 (one_seg t.a t.b ab u.seg is_ab is)) refl
      by (inr (lo, hi)) =
          ends_of_third (u.member == m) (is_same_seg ab u.seg) false (ends_inside (is_same_coord t.b) u.seg) (no_end_at t.b u.seg (λ is. lo (sym is)) (λ is. hi (sym is)))
          (not_seg ab u.seg (not_ab lo hi)) refl

  -- and a valid coverage has none such: the ends at b are even
  a_not_c : t.a ≢ t.c
  a_not_c back =
      let (m, has) = first_use in
      let f : EdgeUse → ℕ = λ u. cond (u.member == m) (ends_inside (is_same_coord t.b) u.seg) 0 in
      let even = even-ends (coverage_without removed members) (is_same_coord t.b) m in
      let most = sum_at_most f (counts_use m ab) old (λ u in_old. (let same = same_ends back m u in_old in omega (arith, zero_of (u.member == m)))) in
      let least = sum_at_most (counts_use m ab) f old (λ u in_old. (let same = same_ends back m u in_old in omega (arith, zero_of (u.member == m)))) in
      let some = has_times old m ab has in
      elim (cases_lt 1 (sum_by (counts_use m ab) old)) [
        | inl twice ↦ sound.valid.once (record { member = m; seg = ab }) (repeated_of old m ab (omega arith))
        | inr once ↦ absurd (omega arith)
      ]

  abbrev ac : Seg
  ac = (some_seg t.a t.c a_not_c).0

  is_ac : IsSegBetween t.a t.c ac
  is_ac = (some_seg t.a t.c a_not_c).1

  use_range : (u : EdgeUse) → Contains old u → IsSegInRange u.seg
  use_range u has = All-contains (λ (v : EdgeUse). IsSegInRange v.seg) old u (uses-in_range (coverage_without removed members) sound.in_range) has

  -- the triangle of a removable point is an ear
  pub ear_of : HasEar h.t (uses_of (coverage_without removed members))
  ear_of =
      let (m, has_first) = first_use in
      let (n, has_second) = second_use in
      let first = use_range (record { member = m; seg = ab }) has_first in
      let second = use_range (record { member = n; seg = bc }) has_second in
      record {
        ab = ab;
        bc = bc;
        ac = ac;
        is_ear = record {
          sides = record {
            two = record { first = is_ab; second = is_bc; first_in_range = first; second_in_range = second };
            third = is_ac;
            third_in_range = seg_range t.a t.c ac is_ac (ends_range t.a t.b ab is_ab first).first (ends_range t.b t.c bc is_bc second).second;
          };
          one = m;
          has_first = has_first;
          other = n;
          has_second = has_second;
          others = λ u has.
              elim (at_or_off t.b u.seg) [
                | inl at ↦ elim (now_ends s removed spot h u.seg (current_of u has) at) [
                  | inl is ↦ inl (one_seg t.a t.b u.seg ab is is_ab)
                  | inr is ↦ inr (inl (one_seg t.b t.c u.seg bc is is_bc))
                ]
                | inr off ↦ inr (inr (free_ends s removed spot h u.seg (current_of u has) off.0 off.1))
              ];
        };
      }
