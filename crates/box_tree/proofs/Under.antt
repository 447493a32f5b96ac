-- The hulls above a box.
use Rattle.std.proofs.Common.{◌≡◌, ℕ, zero, suc, ◌+◌, ◌-◌, ◌*◌, ◌/◌, ◌<◌, ◌≤◌, List, [], ◌∷◌, length, get_or, take, drop, Some, slice_get, refl, ap, ◌∙◌, sym, subst, arith, Vec, Global, inl, inr}
use Rattle.std.specs.Prelude.{All}
use Rattle.std.proofs.lemmas.Bool.{cases_lt}
use Rattle.std.proofs.lemmas.List.{get_or-take, get_or-drop, length-take, length-drop}
use Rattle.std.proofs.lemmas.Option.{none-some, slice_get_within, slice_get-get_or, get_or_from_slice_get}
use Rattle.box_tree.specs.Hulls.{AreHulls}
use Rattle.box_tree.specs.Levels.{IsPacked, level_at, number_above}
use Rattle.box_tree.specs.Rect.{IsInside}
use Rattle.box_tree.specs.declared.rect.Rect.{Rect}
use Rattle.box_tree.proofs.Descent.{block_begins}
use Rattle.box_tree.proofs.LevelsHold.{level_at-read}
use Rattle.box_tree.proofs.Within.{inside_refl, inside_trans}

-- the box is within the hull of its block
record HasHull (hulls : List Rect) (j : ℕ) (b : Rect) : Type 0 where
  hull : Rect
  at_place : slice_get hulls j ≡ Some hull
  inside : IsInside b hull

within_first : (hull : Rect) (boxes : List Rect) (c : ℕ) (b : Rect) → All (λ a. IsInside a hull) (take 8 boxes) → slice_get boxes c ≡ Some b → c < 8 → IsInside b hull
within_first hull boxes c b all at first =
    let below = slice_get_within boxes c b at in
    let size = length-take 8 boxes in
    subst (λ (a : Rect). IsInside a hull) (get_or-take 8 boxes c b first ∙ get_or_from_slice_get boxes c b b at) (all c b (omega (arith, below, size, first)))

later : (boxes : List Rect) (c : ℕ) (b : Rect) → slice_get boxes c ≡ Some b → 8 ≤ c → slice_get (drop 8 boxes) (c - 8) ≡ Some b
later boxes c b at past =
    let below = slice_get_within boxes c b at in
    let size = length-drop 8 boxes in
    let place : 8 + (c - 8) ≡ c = omega (arith, past) in
    slice_get-get_or (drop 8 boxes) (c - 8) b (omega (arith, below, size, past)) ∙ ap Some (get_or-drop 8 boxes (c - 8) b ∙ ap (λ k. get_or boxes k b) place ∙ get_or_from_slice_get boxes c b b at)

hull_at : (hulls boxes : List Rect) (c : ℕ) (b : Rect) → AreHulls hulls boxes → slice_get boxes c ≡ Some b → HasHull hulls (c / 8) b
hull_at [] boxes c b none at = absurd (none-some b (sym (ap (λ bs. slice_get bs c) none) ∙ at))
hull_at (hull ∷ hulls) boxes c b h at = elim (cases_lt c 8) [
  | inl first ↦ (
      let place : c / 8 ≡ 0 = omega (arith, first) in
      subst (λ j. HasHull (hull ∷ hulls) j b) (sym place) (record { hull = hull; at_place = refl; inside = within_first hull boxes c b h.1 at first })
      )
  | inr past ↦ (
      let place : c / 8 ≡ suc ((c - 8) / 8) = omega (arith, past) in
      let rest = hull_at hulls (drop 8 boxes) (c - 8) b h.2 (later boxes c b at past) in
      subst (λ j. HasHull (hull ∷ hulls) j b) (sym place) (record { hull = rest.hull; at_place = rest.at_place; inside = rest.inside })
      )
]

module _ (levels : List (Vec Rect Global)) (packed : IsPacked levels) (k : ℕ) (b : Rect) (at : slice_get (level_at levels 0) k ≡ Some b) where
  hull_above : (level : ℕ) → level < length levels → HasHull (level_at levels level) (number_above level k) b
  hull_above zero below = record { hull = b; at_place = at; inside = inside_refl b }
  hull_above (suc level) below =
      let own = hull_above level (omega (arith, below)) in
      let next = hull_at (level_at levels (suc level)) (level_at levels level) (number_above level k) own.hull (packed.hulls level below) own.at_place in
      record { hull = next.hull; at_place = next.at_place; inside = inside_trans own.inside next.inside }

  -- it is within the hull that stands at its number
  pub inside_above : (level : ℕ) (hull : Rect) → level < length levels → hull ≡ get_or (level_at levels level) (number_above level k) hull → IsInside b hull
  inside_above level hull below read =
      let own = hull_above level below in
      subst (λ (a : Rect). IsInside b a) (sym (get_or_from_slice_get (level_at levels level) (number_above level k) own.hull hull own.at_place) ∙ sym read) own.inside

  number_below : (level : ℕ) → level < length levels → number_above level k < length (level_at levels level)
  number_below level below = (let own = hull_above level below in slice_get_within (level_at levels level) (number_above level k) own.hull own.at_place)

some_box : (boxes : List Rect) (k : ℕ) → k < length boxes → (b : Rect) × (slice_get boxes k ≡ Some b)
some_box [] k below = absurd (omega (arith, below))
some_box (b ∷ boxes) zero below = (b, refl)
some_box (b ∷ boxes) (suc k) below = some_box boxes k (omega (arith, below))

-- each level has a box at that number
pub number_within : (levels : List (Vec Rect Global)) → IsPacked levels → (k level : ℕ) → k < length (level_at levels 0) → level < length levels → number_above level k < length (level_at levels level)
number_within levels packed k level lt below = (let (b, at) = some_box (level_at levels 0) k lt in number_below levels packed k b at level below)

-- ---- the blocks of eight, as the code reads them

-- a block begins within its level, which is short enough
pub block_within : (levels : List (Vec Rect Global)) (level place : ℕ) (v : Vec Rect Global) → IsPacked levels → level < length levels → (level ≡ 0 → ⊥) → place < length (level_at levels level)
    → v ≡ get_or levels (level - 1) v → 8 * place < v.len
block_within levels level place v packed below up within read =
    let next : level ≡ suc (level - 1) = omega (arith, up) in
    let under : level_at levels (level - 1) ≡ v.items = level_at-read levels (level - 1) v (omega (arith, below)) read in
    let begins = block_begins (level_at levels (suc (level - 1))) (level_at levels (level - 1)) place (packed.hulls (level - 1) (omega (arith, below, up)))
    (subst (λ n. place < length (level_at levels n)) next within) in
    let size = ap (λ (bs : List Rect). length bs) under in
    omega (arith, begins, size, v.ok.0)

-- the box of the level below that a box has above it is one of its block
pub in_block : (level place k : ℕ) → (level ≡ 0 → ⊥) → number_above level k ≡ place → (8 * place ≤ number_above (level - 1) k) × (number_above (level - 1) k < 8 * place + 8)
in_block level place k up at =
    let next : level ≡ suc (level - 1) = omega (arith, up) in
    let here : number_above (level - 1) k / 8 ≡ place = ap (λ n. number_above n k) (sym next) ∙ at in
    (omega (arith, here), omega (arith, here))
