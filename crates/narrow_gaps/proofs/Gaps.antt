-- What makes the region of a side a gap, and the list of narrow gaps while it grows.
use mathlib.Core.List.{[], ◌∷◌}
use Rattle.std.proofs.Common.{◌≡◌, ◌⊎◌, refl, sym, ◌∙◌, ap, subst, ℕ, ◌+◌, ◌*◌, ◌<◌, ◌≤◌, ◌↔◌, ◌==◌, Bool, false, List, ◌++◌, length, get_or, Option, Some, None, inl, inr, arith}
use Rattle.std.specs.Prelude.{All, AllPairs, Contains, IfSome, is_some, slice_index, IsTrue}
use Rattle.std.proofs.lemmas.Bool.{cases_lt, eqb-true, eq-eqb, false≢true}
use Rattle.std.proofs.lemmas.Option.{same_Some}
use Rattle.std.proofs.lemmas.List.Elements.{Contains-append_left, Contains-get_or, Contains-push, Contains-push_cases}
use Rattle.std.proofs.lemmas.List.Quantifiers.{all_pairs_push}
use Rattle.cov_types.specs.declared.seg.Seg.{Seg}
use Rattle.plane.specs.Point.{Point}
use Rattle.plane.specs.Region.{IsOuter, IsOuterRegion, IsRegionOf, IsSide}
use Rattle.crossing_laws.proofs.Located.{one_region, side_within}
use Rattle.arrangement.specs.Overlay.{Overlay, IsRegion, label_of}
use Rattle.region_owners.specs.Gap.{IsGap}
use Rattle.region_owners.specs.Owner.{IsNarrowGap}

-- the number of the region of its side is that of the side
pub own_region : (edges : List Seg) (r n : ℕ) → ((p : Point) → IsSide edges n p → IsRegionOf edges p r) → IsRegion edges n → r ≡ n
own_region edges r n is region = one_region edges region.at r n (is region.at region.side) region.own

-- a region that is outer is the one that is known to be
pub outer_is : (edges : List Seg) (found : Option ℕ) (n : ℕ) → IfSome found (λ r. (p : Point) → IsOuter edges p → IsRegionOf edges p r) → (is_some found ≡ false → edges ≡ []) → IsRegion edges n → IsOuterRegion edges n → found ≡ Some n
outer_is edges None n is none region outer =
    let empty : length edges ≡ 0 = ap length (none refl) in
    let within = side_within edges n region.at region.side in
    absurd (omega (arith, empty, within))
outer_is edges (Some r) n is none region outer = ap (λ k. Some k) (one_region edges outer.outer.at r n (is outer.outer.at outer.outer.outer) (subst (λ p. IsRegionOf edges p n) (one_side_point edges n region.at outer.outer.at region.side outer.outer.side) region.own))
  where
    one_side_point : (edges : List Seg) (n : ℕ) (p q : Point) → IsSide edges n p → IsSide edges n q → p ≡ q
    one_side_point edges n p q h k = same_Some p q (sym h ∙ k)

module _ (o : Overlay) (n : ℕ) where
  pub no_gap : (IsGap o n → ⊥) → IsTrue false ↔ IsGap o n
  no_gap other = ((λ t. absurd (false≢true t)), (λ gap. absurd (other gap)))

  -- it is one where its label is empty
  pub gap_by_label : (label : List ℕ) → label ≡ label_of o n → IsRegion o.edges n → ¬ IsOuterRegion o.edges n → (b : Bool) → b ≡ (length label == 0) → IsTrue b ↔ IsGap o n
  gap_by_label label same region inner b is = (
    (λ t. record { region = region; not_outer = inner; empty = sym same ∙ nothing label (eqb-true (length label) 0 (sym is ∙ t)) }),
    (λ gap. is ∙ eq-eqb (length label) 0 (ap length (same ∙ gap.empty))),
  )
    where
      nothing : (xs : List ℕ) → length xs ≡ 0 → xs ≡ []
      nothing [] h = refl
      nothing (x ∷ xs) h = absurd (omega (arith, h))

-- ---- the list of the narrow gaps below a number

module _ (o : Overlay) (w : ℕ) where
  -- it has exactly those
  abbrev pub AreNarrowBelow : ℕ → List ℕ → Type 0
  AreNarrowBelow n gaps = (r : ℕ) → Contains gaps r ↔ ((r < n) × IsNarrowGap o r w)

  pub narrow_none : AreNarrowBelow 0 []
  narrow_none r = ((λ has. (let within = has.1 in absurd (omega arith))), (λ h. (let below = h.0 in absurd (omega arith))))

  pub narrow_same : (n : ℕ) (gaps : List ℕ) → AreNarrowBelow n gaps → ¬ IsNarrowGap o n w → AreNarrowBelow (n + 1) gaps
  narrow_same n gaps are other r = (
    (λ has. (let h = (are r).0 has in (let low = h.0 in omega arith, h.1))),
    (λ h. elim (cases_lt r n) [
      | inl below ↦ (are r).1 (below, h.1)
      | inr past ↦ (let low = h.0 in let same : r ≡ n = omega arith in absurd (other (subst (λ k. IsNarrowGap o k w) same h.1)))
    ]),
  )

  pub narrow_more : (n : ℕ) (gaps : List ℕ) → AreNarrowBelow n gaps → IsNarrowGap o n w → AreNarrowBelow (n + 1) (gaps ++ n ∷ [])
  narrow_more n gaps are narrow r = (
    (λ has. elim (Contains-push_cases gaps n r has) [
      | inl old ↦ (let h = (are r).0 old in (let low = h.0 in omega arith, h.1))
      | inr new ↦ (omega (arith, new), subst (λ k. IsNarrowGap o k w) new narrow)
    ]),
    (λ h. elim (cases_lt r n) [
      | inl below ↦ Contains-append_left gaps (n ∷ []) r ((are r).1 (below, h.1))
      | inr past ↦ (let low = h.0 in let same : n ≡ r = omega arith in subst (Contains (gaps ++ n ∷ [])) same (Contains-push gaps n))
    ]),
  )

  -- after the last number it has all
  pub narrow_all : (n : ℕ) (gaps : List ℕ) → 2 * length o.edges ≤ n → AreNarrowBelow n gaps → (r : ℕ) → Contains gaps r ↔ IsNarrowGap o r w
  narrow_all n gaps past are r = (
    (λ has. ((are r).0 has).1),
    (λ narrow. (let region = narrow.gap.region in let within = side_within o.edges r region.at region.side in (are r).1 (omega (arith, within, past), narrow))),
  )

  pub narrow_nowhere : (r : ℕ) → w ≡ 0 → Contains [] r ↔ IsNarrowGap o r w
  narrow_nowhere r zero_width = ((λ has. (let within = has.1 in absurd (omega arith))), (λ h. (let wide = h.narrow.wide in absurd (omega (arith, wide, zero_width)))))
