-- What contracts see of the labels of regions.
use Rattle.std.specs.Prelude.{◌≡◌, ℕ, ◌<◌, List, All, Option, None, slice_get, unwrap_or}
use Rattle.cov_types.specs.declared.seg.Seg.{Seg}
use Rattle.plane.specs.Region.{AreRegions}
use Rattle.arrangement.specs.declared.odd_use.OddUse.{OddUse}
use Rattle.arrangement.specs.Noding.{odd_uses}
use Rattle.arrangement.specs.Overlay.{Overlay}

-- edges, and the members that are odd for them
pub record Labelled : Type 0 where
  pub edges : List Seg
  pub odd : List OddUse

-- the overlay has these edges, the uses that the odd pairs stand for, a count above all their members, and the regions of the edges
pub record IsOverlay (l : Labelled) (o : Overlay) : Type 0 where
  pub edges : o.edges ≡ l.edges
  pub uses : o.uses ≡ odd_uses l.edges l.odd
  pub members : All (λ u. u.member < o.members) l.odd
  pub numbered : AreRegions o.edges o.numbers

-- the owner of a region by its number, and none past the end of the list
abbrev pub owner_in : List (Option ℕ) → ℕ → Option ℕ
owner_in owners r = unwrap_or (slice_get owners r) None
