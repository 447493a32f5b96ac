-- The uses of a coverage without b are those that the exchange gives, so it stays valid.
use mathlib.Core.List.{[], ◌∷◌}
use Rattle.std.proofs.Common.{◌≡◌, inl, inr, refl, sym, ◌∙◌, subst, ℕ, ◌+◌, ◌≤◌, List, ◌++◌, map, arith}
use Rattle.std.specs.Prelude.{Contains, sum_by, flat_map}
use Rattle.std.specs.List.{enumerate_from}
use Rattle.std.proofs.lemmas.Bool.{cases_lt}
use Rattle.std.proofs.lemmas.List.Concat.{flat_map-cons}
use Rattle.std.proofs.lemmas.List.Elements.{Contains-append_left, Contains-append_right, All-contains}
use Rattle.std.proofs.lemmas.List.Sums.{sum_by-append}
use Rattle.cov_types.specs.declared.coord.Coord.{Coord}
use Rattle.cov_types.specs.declared.edge_use.EdgeUse.{EdgeUse}
use Rattle.cov_types.specs.declared.seg.Seg.{Seg}
use Rattle.cov_types.specs.Coverage.{Members, AllInRange}
use Rattle.cov_types.specs.Range.{IsSegInRange}
use Rattle.cov_types.specs.Uses.{ring_uses, poly_uses, member_uses, uses_of}
use Rattle.cov_types.proofs.AllUses.{uses-in_range}
use Rattle.cov_types.proofs.EvenEnds.{even-ends}
use Rattle.plane.specs.Validity.{IsValid}
use Rattle.greedy_run.specs.Run.{Triangle, ring_without, coverage_without}
use Rattle.removal_laws.specs.Exchange.{IsEar, value_after, IsExchange}
use Rattle.removal_laws.proofs.Counts.{counts_use, repeated_of}
use Rattle.removal_laws.proofs.Exchange.{valid_after}
use Rattle.removal_laws.proofs.Rings.{ring_without_exchange}

module _ (t : Triangle) (ab bc ac : Seg) (old : List EdgeUse) (is_ear : IsEar t ab bc ac old) (valid : IsValid old) (f : EdgeUse → ℕ) where
  -- uses among the old ones, in which each member has ab and bc once at most
  pub record IsPartOf (uses : List EdgeUse) : Type 0 where
    pub among : (u : EdgeUse) → Contains uses u → Contains old u
    pub one : (m : ℕ) → sum_by (counts_use m ab) uses ≤ 1
    pub other : (m : ℕ) → sum_by (counts_use m bc) uses ≤ 1

  pub first_part : (xs ys : List EdgeUse) → IsPartOf (xs ++ ys) → IsPartOf xs
  first_part xs ys h = record {
    among = λ u has. h.among u (Contains-append_left xs ys u has);
    one = λ m. (let most = h.one m in omega (arith, sum_by-append (counts_use m ab) xs ys));
    other = λ m. (let most = h.other m in omega (arith, sum_by-append (counts_use m bc) xs ys));
  }

  pub second_part : (xs ys : List EdgeUse) → IsPartOf (xs ++ ys) → IsPartOf ys
  second_part xs ys h = record {
    among = λ u has. h.among u (Contains-append_right xs ys u has);
    one = λ m. (let most = h.one m in omega (arith, sum_by-append (counts_use m ab) xs ys));
    other = λ m. (let most = h.other m in omega (arith, sum_by-append (counts_use m bc) xs ys));
  }

  -- the sums over the two are as the exchange says, where the first are such uses
  abbrev IsExchanged : List EdgeUse → List EdgeUse → Type 0
  IsExchanged before after = IsPartOf before → sum_by (value_after ab bc ac f) before ≡ sum_by f after

  joined_lists : (xs ys before after : List EdgeUse) → IsExchanged xs before → IsExchanged ys after → IsExchanged (xs ++ ys) (before ++ after)
  joined_lists xs ys before after h k part =
      sum_by-append (value_after ab bc ac f) xs ys
      ∙ (λ i. h (first_part xs ys part) i + k (second_part xs ys part) i)
      ∙ sym (sum_by-append f before after)

  -- what holds of each element holds of the uses of all
  each_exchanged : {X : Type 0} (uses : X → List EdgeUse) (change : X → X) → ((x : X) → IsExchanged (uses x) (uses (change x)))
      → (xs : List X) → IsExchanged (flat_map uses xs) (flat_map uses (map change xs))
  each_exchanged uses change each [] = λ part. refl
  each_exchanged uses change each (x ∷ xs) =
      subst (λ before. IsExchanged before (flat_map uses (map change (x ∷ xs)))) (sym (flat_map-cons uses x xs))
      (subst (λ after. IsExchanged (uses x ++ flat_map uses xs) after) (sym (flat_map-cons uses (change x) (map change xs)))
      (joined_lists (uses x) (flat_map uses xs) (uses (change x)) (flat_map uses (map change xs)) (each x) (each_exchanged uses change each xs)))

  abbrev without : List Coord → List Coord
  without points = ring_without (t.b ∷ []) points

  rings : (m : ℕ) (points : List Coord) → IsExchanged (ring_uses m points) (ring_uses m (without points))
  rings m points = λ part. ring_without_exchange t ab bc ac old is_ear valid m f points part.among (part.one m) (part.other m)

  polys : (m : ℕ) (poly : List (List Coord)) → IsExchanged (poly_uses m poly) (poly_uses m (map without poly))
  polys m poly = each_exchanged (ring_uses m) without (rings m) poly

  abbrev member_without : List (List (List Coord)) → List (List (List Coord))
  member_without member = map (λ poly. map without poly) member

  member : (m : ℕ) (some : List (List (List Coord))) → IsExchanged (member_uses (m, some)) (member_uses (m, member_without some))
  member m some = each_exchanged (poly_uses m) (λ poly. map without poly) (polys m) some

  all_members : (m : ℕ) (members : Members) → IsExchanged (flat_map member_uses (enumerate_from m members)) (flat_map member_uses (enumerate_from m (map member_without members)))
  all_members m [] = λ part. refl
  all_members m (x ∷ xs) =
      let more = enumerate_from (m + 1) xs in
      let more_after = enumerate_from (m + 1) (map member_without xs) in
      subst (λ before. IsExchanged before (flat_map member_uses (enumerate_from m (map member_without (x ∷ xs))))) (sym (flat_map-cons member_uses (m, x) more))
      (subst (λ after. IsExchanged (member_uses (m, x) ++ flat_map member_uses more) after) (sym (flat_map-cons member_uses (m, member_without x) more_after))
      (joined_lists (member_uses (m, x)) (flat_map member_uses more) (member_uses (m, member_without x)) (flat_map member_uses more_after) (member m x) (all_members (m + 1) xs)))

  -- a valid coverage has each segment once
  pub all_part : IsPartOf old
  all_part = record { among = λ u has. has; one = λ m. once m ab; other = λ m. once m bc }
    where
      once : (m : ℕ) (e : Seg) → sum_by (counts_use m e) old ≤ 1
      once m e =
          elim (cases_lt 1 (sum_by (counts_use m e) old)) [
            | inl twice ↦ absurd (valid.once (record { member = m; seg = e }) (repeated_of old m e (omega arith)))
            | inr most ↦ omega arith
          ]

-- the coverage without b is the exchange
pub coverage_exchange : (t : Triangle) (ab bc ac : Seg) (members : Members) → IsEar t ab bc ac (uses_of members) → IsValid (uses_of members)
    → IsExchange ab bc ac (uses_of members) (uses_of (coverage_without (t.b ∷ []) members))
coverage_exchange t ab bc ac members is_ear valid = λ f.
    sym (all_members t ab bc ac (uses_of members) is_ear valid f 0 members (all_part t ab bc ac (uses_of members) is_ear valid f))

-- so it stays valid
pub coverage_valid : (t : Triangle) (ab bc ac : Seg) (members : Members) → AllInRange members → IsEar t ab bc ac (uses_of members) → IsValid (uses_of members)
    → IsValid (uses_of (coverage_without (t.b ∷ []) members))
coverage_valid t ab bc ac members range is_ear valid =
    valid_after t ab bc ac (uses_of members) (uses_of (coverage_without (t.b ∷ []) members))
    (record {
      is_ear = is_ear;
      exchange = coverage_exchange t ab bc ac members is_ear valid;
      in_range = λ u has. All-contains (λ (v : EdgeUse). IsSegInRange v.seg) (uses_of members) u (uses-in_range members range) has;
      even_before = even-ends members;
      even_after = even-ends (coverage_without (t.b ∷ []) members);
    }) valid
