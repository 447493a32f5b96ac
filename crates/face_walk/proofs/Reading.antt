-- What the table of numbers says of a side and of how many regions there are, and the least sides that it is made of.
use mathlib.Core.List.{List, [], ◌∷◌, ◌++◌}
use Rattle.std.proofs.Common.{◌≡◌, refl, sym, ◌∙◌, ap, subst, ℕ, suc, ◌+◌, ◌*◌, ◌<◌, ◌==◌, ◌↔◌, Bool, true, false, cond, length, Option, Some, None, slice_get, get_or, slice_index, count_by, MatchOption, IfSome, arith}
use Rattle.std.proofs.lemmas.Bool.Decides.{nat_tests}
use Rattle.std.proofs.lemmas.List.{get_or_read}
use Rattle.std.proofs.lemmas.List.Sums.{sum_by_push}
use Rattle.std.proofs.lemmas.Option.{same_Some, slice_get_read, slice_get-get_or}
use Rattle.cov_types.specs.declared.seg.Seg.{Seg}
use Rattle.half_edge.proofs.Tables.{IsTable, table-none, table-push}
use Rattle.plane.specs.Label.{numbers_below}
use Rattle.plane.specs.Point.{Point}
use Rattle.plane.specs.Joined.{Joined}
use Rattle.plane.specs.Region.{IsSide, IsOuter, IsRegionOf, AreRegions}
use Rattle.crossing_laws.proofs.Located.{region-joined, one_numbering, same_region}
use Rattle.face_walk.specs.Numbers.{AreLeastSides, IsOutermost, IsNumberTable}
use Rattle.face_walk.specs.declared.cycle.Cycle.{Cycle}

pub numbered-shown : (edges shown : List Seg) (table : List ℕ) (outer : Option ℕ) → edges ≡ shown → IsNumberTable edges table outer → IsNumberTable shown table outer
numbered-shown edges shown table outer same h = subst (λ es. IsNumberTable es table outer) same h

-- ---- a side

module _ (edges : List Seg) (table : List ℕ) (numbered : AreRegions edges table) (side r : ℕ) (below : side < 2 * length edges) (at : r ≡ get_or table side r) where
  is_number : r ≡ slice_index table side
  is_number = (let count = numbered.count in get_or_read table side r (omega (arith, below, count)) at 0)

  pub side_region : (p : Point) → IsSide edges side p → IsRegionOf edges p r
  side_region p at_p = subst (λ n. IsRegionOf edges p n) (sym is_number) (numbered.each side p at_p)

  pub side_joined : (other : ℕ) (p q : Point) → IsSide edges side p → IsSide edges other q → IsRegionOf edges q r ↔ Joined edges p q
  side_joined other p q at_p at_q = (λ k. same_region edges p q r (side_region p at_p) k, λ j. region-joined edges p q r j (side_region p at_p))

  pub side_numbering : (numbers : List ℕ) → AreRegions edges numbers → r ≡ slice_index numbers side
  side_numbering numbers h = is_number ∙ ap (λ (ns : List ℕ). slice_index ns side) (one_numbering edges table numbers numbered h)

-- ---- the outer region

pub outer_region : (edges : List Seg) (outer : Option ℕ) → MatchOption outer (edges ≡ []) (IsOutermost edges) → IfSome outer (λ r. (p : Point) → IsOuter edges p → IsRegionOf edges p r)
outer_region edges None none = tt
outer_region edges (Some r) found = found.region

-- ---- how many regions there are

pub same_passes : (a b : ℕ) → a ≡ b → (a == b) ≡ true
same_passes a b h = grind (arith, nat_tests)

pub other_fails : (a b : ℕ) → (a ≡ b → ⊥) → (a == b) ≡ false
other_fails a b h = grind (arith, nat_tests)

count_more : (f : ℕ → Bool) (n : ℕ) → count_by f (numbers_below (n + 1)) ≡ count_by f (numbers_below n) + cond (f n) 1 0
count_more f n = (let next : n + 1 ≡ suc n = omega arith in ap (λ k. count_by f (numbers_below k)) next ∙ sum_by_push (λ k. cond (f k) 1 0) (numbers_below n) n)

pub count_more_yes : (f : ℕ → Bool) (n : ℕ) → f n ≡ true → count_by f (numbers_below (n + 1)) ≡ count_by f (numbers_below n) + 1
count_more_yes f n h = count_more f n ∙ ap (λ t. count_by f (numbers_below n) + cond t 1 0) h

pub count_more_no : (f : ℕ → Bool) (n : ℕ) → f n ≡ false → count_by f (numbers_below (n + 1)) ≡ count_by f (numbers_below n)
count_more_no f n h = count_more f n ∙ ap (λ t. count_by f (numbers_below n) + cond t 1 0) h ∙ (let same : count_by f (numbers_below n) + 0 ≡ count_by f (numbers_below n) = omega arith in same)

pub count_numbered : (edges : List Seg) (table numbers : List ℕ) → AreRegions edges table → AreRegions edges numbers
    → count_by (λ n. slice_index table n == n) (numbers_below (2 * length edges)) ≡ count_by (λ n. slice_index numbers n == n) (numbers_below (2 * length edges))
count_numbered edges table numbers numbered h =
    ap (λ (ns : List ℕ). count_by (λ n. slice_index ns n == n) (numbers_below (2 * length edges))) (one_numbering edges table numbers numbered h)

-- ---- the least sides of the first so many sides

abbrev pub AreLeastTo : List ℕ → List Cycle → List ℕ → ℕ → List ℕ → Type 0
AreLeastTo of list connected count table = IsTable (λ (n r : ℕ). (c : Cycle) → slice_get list (slice_index connected (slice_index of n)) ≡ Some c → r ≡ c.least) table count

pub least_none : (of : List ℕ) (list : List Cycle) (connected table : List ℕ) → table ≡ [] → AreLeastTo of list connected 0 table
least_none of list connected table is = subst (λ (xs : List ℕ). AreLeastTo of list connected 0 xs) (sym is)
    (table-none (λ (n r : ℕ). (c : Cycle) → slice_get list (slice_index connected (slice_index of n)) ≡ Some c → r ≡ c.least))

pub least_more : (of : List ℕ) (list : List Cycle) (connected : List ℕ) (n k r : ℕ) (c : Cycle) (table after : List ℕ) → slice_index connected (slice_index of n) < length list
    → k ≡ slice_index connected (slice_index of n) → c ≡ get_or list k c → r ≡ c.least → after ≡ table ++ r ∷ [] → AreLeastTo of list connected n table → AreLeastTo of list connected (n + 1) after
least_more of list connected n k r c table after below is_k read is_r is so_far = subst (λ (xs : List ℕ). AreLeastTo of list connected (n + 1) xs) (sym is)
    (table-push (λ (n r : ℕ). (c : Cycle) → slice_get list (slice_index connected (slice_index of n)) ≡ Some c → r ≡ c.least) table n r so_far
    (λ d at. is_r ∙ ap (λ (x : Cycle). x.least) (same_Some c d (sym (slice_get_read list (length list) (slice_index connected (slice_index of n)) c refl below (read ∙ ap (λ m. get_or list m c) is_k)) ∙ at))))

pub least_all : (of : List ℕ) (list : List Cycle) (connected : List ℕ) (count : ℕ) (table : List ℕ) → count ≡ length of → AreLeastTo of list connected count table → AreLeastSides of list connected table
least_all of list connected count table all so_far = record {
  count = so_far.count ∙ all;
  each = λ n c below at.
      let long = so_far.count in
      so_far.each n (slice_index table n) (slice_get-get_or table n 0 (omega (arith, below, all, long))) c at;
}
