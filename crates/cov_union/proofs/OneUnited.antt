-- A valid coverage has one union in canonical order.
use mathlib.Core.List.{[], ◌∷◌}
use Rattle.std.proofs.Common.{◌≡◌, refl, sym, ◌∙◌, subst, ℕ, ◌<◌, List, length, Option, arith}
use Rattle.cov_types.specs.Coverage.{Members, AllInRange}
use Rattle.cov_types.specs.Uses.{uses_of}
use Rattle.plane.specs.Validity.{IsValid}
use Rattle.arrangement.specs.Overlay.{Overlay, IsRegion, label_of}
use Rattle.arrangement.proofs.OneOverlay.{one_overlay}
use Rattle.cleaned_laws.specs.Owning.{AreUnionOwners}
use Rattle.cleaned_laws.proofs.Union.{planar}
use Rattle.sound_polygons.specs.Cleaned.{IsBuilt}
use Rattle.sound_polygons.proofs.OneCleaned.{one_built}
use Rattle.cov_union.specs.United.{IsUnited}

-- what is built on an overlay for one owner of all regions with a label
record IsUnitedOn (o : Overlay) (out : Members) : Type 0 where
  owners : ℕ → Option ℕ
  are_owners : AreUnionOwners o owners
  built : IsBuilt o owners 1 out

-- two such owners are one on a region with this label
one_by_label : (o : Overlay) (owners others : ℕ → Option ℕ) → AreUnionOwners o owners → AreUnionOwners o others → (r : ℕ) → IsRegion o.edges r → (label : List ℕ) → label_of o r ≡ label → owners r ≡ others r
one_by_label o owners others are are_too r region [] is = are.free r region is ∙ sym (are_too.free r region is)
one_by_label o owners others are are_too r region (i ∷ more) is =
    let some : 0 < length (label_of o r) = subst (λ (l : List ℕ). 0 < length l) (sym is) (omega arith) in
    are.held r region some ∙ sym (are_too.held r region some)

pub one_united : (members : Members) → AllInRange members → IsValid (uses_of members) → (out other : Members) → IsUnited members out → IsUnited members other → out ≡ other
one_united members in_range valid out other h k =
    let same : k.overlay ≡ h.overlay = one_overlay (uses_of members) (length members) k.overlay h.overlay k.is_overlay h.is_overlay in
    let there : IsUnitedOn h.overlay other = subst (λ o. IsUnitedOn o other) same (record { owners = k.owners; are_owners = k.are_owners; built = k.built }) in
    one_built h.overlay (planar members in_range valid h.overlay h.is_overlay) h.is_overlay.numbered h.owners there.owners
    (λ r region. one_by_label h.overlay h.owners there.owners h.are_owners there.are_owners r region (label_of h.overlay r) refl)
    1 out other h.built there.built
