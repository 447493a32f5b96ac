-- What is built for the pair of two squares that overlap: the polygon of what both hold.
use mathlib.Core.List.{[], ◌∷◌}
use Rattle.std.proofs.Common.{◌≡◌, refl, sym, ◌∙◌, ap, subst, ℕ, zero, suc, ◌==◌, Bool, true, false, List, cond, arith}
use Rattle.std.specs.Prelude.{Contains, Option, Some, None, slice_get, unwrap_or}
use Rattle.std.proofs.lemmas.Bool.Decides.{Decides-eqb}
use Rattle.std.proofs.lemmas.List.Elements.{All-from_recursion, All-contains}
use Rattle.std.proofs.lemmas.Option.{none-some}
use Rattle.cov_types.specs.declared.coord.Coord.{Coord}
use Rattle.cov_types.specs.Coord.{is_before}
use Rattle.plane.specs.Examples.{grid}
use Rattle.arrangement.specs.Examples.{overlap}
use Rattle.sound_polygons.specs.Parts.{LeadsWithin, IsPartOf}
use Rattle.sound_polygons.specs.Cleaned.{IsPolyCanonical, IsSoundFor, IsOwned, ArePolygonsOf, IsBuilt, BeginsAtLeast}
use Rattle.overlaid_laws.specs.Examples.{overlap_owners, middle, OverlapExamples}
use Rattle.overlaid_laws.proofs.Middle.{middle_sound}
use Rattle.overlaid_laws.proofs.OverlapPairs.{seven, labelled, overlap_pairs, some_pair, are_owners}

-- ---- region 7 alone is owned

owned_is : (b : Bool) → cond {A = Option ℕ} b (Some 0) None ≡ Some 0 → b ≡ true
owned_is true h = refl
owned_is false h = absurd (none-some 0 h)

last_owned : (r : ℕ) (way : List ℕ) (s : ℕ) → LeadsWithin overlap overlap_owners 0 r way s → overlap_owners s ≡ Some 0
last_owned r [] s h = subst (λ q. overlap_owners q ≡ Some 0) h.1 h.0
last_owned r (g ∷ way) s h = last_owned g way s h.2

middle_part : IsPartOf overlap overlap_owners 0 7 (λ r. r == 7)
middle_part g = (
  (λ h. (let is : g ≡ 7 = (Decides-eqb g 7).0 h in ([], (refl, sym is)))),
  (λ h. owned_is (g == 7) (last_owned 7 h.0 g h.1)),
)

abbrev polygon : List (List Coord)
polygon = middle ∷ []

polygon_sound : IsSoundFor overlap overlap_owners 0 7 polygon
polygon_sound = record { inside = λ r. r == 7; part = middle_part; sound = middle_sound }

owned_is_seven : (r : ℕ) → IsOwned overlap overlap_owners 0 r → r ≡ 7
owned_is_seven r h = (Decides-eqb r 7).0 (owned_is (r == 7) h.owned)

-- ---- its polygons

first_least : BeginsAtLeast middle
first_least p q is has =
    let here : grid 5 0 ≡ p = ap (λ o. unwrap_or o (grid 5 0)) is in
    subst (λ c. is_before q c ≡ false) here (All-contains (λ c. is_before c (grid 5 0) ≡ false) middle q (All-from_recursion (λ c. is_before c (grid 5 0) ≡ false) middle (refl, (refl, (refl, (refl, tt))))) has)

one_place : {X : Type 0} (x a : X) (m : ℕ) → slice_get (x ∷ []) m ≡ Some a → m ≡ 0
one_place x a zero h = refl
one_place x a (suc m) h = absurd (none-some a h)

polygons : ArePolygonsOf overlap overlap_owners 0 (polygon ∷ [])
polygons = record {
  each = λ rings has. (7, (record { region = seven; owned = refl }, subst (IsSoundFor overlap overlap_owners 0 7) (only polygon rings has) polygon_sound));
  every = λ r owned. (polygon, ((0, omega arith, refl), subst (λ r. IsSoundFor overlap overlap_owners 0 r polygon) (sym (owned_is_seven r owned)) polygon_sound));
  one = λ r m n a b at_m at_n sound_a sound_b. one_place polygon a m at_m ∙ sym (one_place polygon b n at_n);
  canonical = record {
    each = All-from_recursion IsPolyCanonical (polygon ∷ []) (record { first_least = All-from_recursion BeginsAtLeast polygon (first_least, tt); holes = λ i j d less within. absurd (omega arith) }, tt);
    shells = λ i j d less within. absurd (omega arith);
  };
}
  where
    only : {X : Type 0} (x y : X) → Contains (x ∷ []) y → x ≡ y
    only x y (zero, within, is) = is
    only x y (suc k, within, is) = absurd (omega arith)

overlap_built : IsBuilt overlap overlap_owners 1 ((polygon ∷ []) ∷ [])
overlap_built = record { count = refl; each = λ i polys is. member i polys is }
  where
    member : (i : ℕ) (polys : List (List (List Coord))) → slice_get ((polygon ∷ []) ∷ []) i ≡ Some polys → ArePolygonsOf overlap overlap_owners i polys
    member zero polys is = subst (ArePolygonsOf overlap overlap_owners 0) (ap (λ o. unwrap_or o (polygon ∷ [])) is) polygons
    member (suc i) polys is = absurd (none-some polys is)

pub overlap_examples : OverlapExamples
overlap_examples = record { labelled = labelled; pairs = overlap_pairs; some_pair = some_pair; owners = are_owners; built = overlap_built }
