-- The block inside the box of the edges of a region.
use mir.Syntax.{w32}
use Rattle.std.proofs.Common.{◌≡◌, sym, subst, ℕ, ◌+◌, ◌<◌, ◌≤◌, ◌⊎◌, List, length, take, get_or, All, Contains, inl, inr, ℤ, pos, neg_ℤ, ◌+ℤ◌, ◌-ℤ◌, ◌*ℤ◌, ◌<ℤ◌, ◌≤ℤ◌, to_z, of_z, arith}
use Rattle.std.specs.Int.{int_min, int_max}
use Rattle.std.proofs.lemmas.Int.{ints, clamps}
use Rattle.std.proofs.lemmas.List.{take_all}
use Rattle.std.proofs.lemmas.List.Elements.{All-more, All-weaker, All-contains}
use Rattle.integer_laws.proofs.Ring.{lin, mul_one}
use Rattle.arrangement.proofs.Labels.{mapped}
use Rattle.cov_types.specs.declared.coord.Coord.{Coord}
use Rattle.cov_types.specs.declared.coord.TheConstants.{LIMIT}
use Rattle.cov_types.specs.declared.seg.Seg.{Seg}
use Rattle.cov_types.specs.Range.{IsInRange, IsSegInRange}
use Rattle.plane.specs.Point.{at_coord}
use Rattle.distance_laws.specs.Room.{doubled}
use Rattle.box_tree.specs.declared.rect.Rect.{Rect}
use Rattle.box_tree.specs.Rect.{IsInside, box_of_segment}
use Rattle.box_tree.proofs.Within.{inside_trans}
use Rattle.region_owners.specs.Box.{IsCornerOf, IsInBoxOf}
use Rattle.clearance_laws.specs.Block.{IsInBlock}
use Rattle.clearance_laws.proofs.Blocks.{twice}
use Rattle.gap_width.specs.declared.own.OwnEdge.{OwnEdge}
use Rattle.gap_width.specs.Own.{edges_in, AreOwn}

-- ---- boxes within the range

-- the box of the whole range
abbrev pub whole : Rect
whole = record { lo = record { x = neg_ℤ LIMIT; y = neg_ℤ LIMIT }; hi = record { x = LIMIT; y = LIMIT }; across = omega (arith, lin); upright = omega (arith, lin) }

-- the box of an edge in range
pub edge_in_whole : (e : Seg) → IsSegInRange e → IsInside (box_of_segment e) whole
edge_in_whole e is =
    let lo = is.lo in
    let hi = is.hi in
    let (a, b) = between e.lo.x e.hi.x lo.left hi.left lo.right hi.right in
    let (c, d) = between e.lo.y e.hi.y lo.bottom hi.bottom lo.top hi.top in
    record { left = a; right = b; bottom = c; top = d }
  where
    between : (x y : ℤ) → (neg_ℤ LIMIT) ≤ℤ x → (neg_ℤ LIMIT) ≤ℤ y → x ≤ℤ LIMIT → y ≤ℤ LIMIT → ((neg_ℤ LIMIT) ≤ℤ int_min x y) × (int_max x y ≤ℤ LIMIT)
    between x y a b c d = (omega (arith, ints, clamps, lin), omega (arith, ints, clamps, lin))

-- the corners of a box in the range
pub lower_in : (b : Rect) → IsInside b whole → IsInRange b.lo
lower_in b is = (let across = b.across in let upright = b.upright in let right = is.right in let top = is.top in record { left = is.left; right = omega (arith, lin); bottom = is.bottom; top = omega (arith, lin) })

pub upper_in : (b : Rect) → IsInside b whole → IsInRange b.hi
upper_in b is = (let across = b.across in let upright = b.upright in let left = is.left in let bottom = is.bottom in record { left = omega (arith, lin); right = is.right; bottom = omega (arith, lin); top = is.top })

-- ---- the box of all edges

abbrev pub AreInside : List OwnEdge → Rect → Type 0
AreInside own b = All (λ o. IsInside (box_of_segment o.edge) b) own

pub inside_more : (own : List OwnEdge) (i : ℕ) (old new : Rect) (o : OwnEdge) → i < length own → o ≡ get_or own i o → IsInside old new → IsInside (box_of_segment o.edge) new
    → AreInside (take i own) old → AreInside (take (i + 1) own) new
inside_more own i old new o below is grown inside all =
    All-more (λ x. IsInside (box_of_segment x.edge) new) own i o below
    (All-weaker (λ x. IsInside (box_of_segment x.edge) old) (λ x. IsInside (box_of_segment x.edge) new) (λ x h. inside_trans h grown) (take i own) all)
    (subst (λ x. IsInside (box_of_segment x.edge) new) is inside)

pub inside_all : (own : List OwnEdge) (i : ℕ) (b : Rect) → length own ≤ i → AreInside (take i own) b → AreInside own b
inside_all own i b le all = subst (λ xs. AreInside xs b) (take_all i own le) all

-- ---- the points inside the box of the region

corner_in : (b : Rect) (c : Coord) (e : Seg) → IsInside (box_of_segment e) b → (c ≡ e.lo) ⊎ (c ≡ e.hi) → (b.lo.x ≤ℤ c.x) × (c.x ≤ℤ b.hi.x) × (b.lo.y ≤ℤ c.y) × (c.y ≤ℤ b.hi.y)
corner_in b c e is end =
    let x = of b.lo.x b.hi.x e.lo.x e.hi.x is.left is.right in
    let y = of b.lo.y b.hi.y e.lo.y e.hi.y is.bottom is.top in
    elim end [
      | inl lo ↦ subst (λ p. (b.lo.x ≤ℤ p.x) × (p.x ≤ℤ b.hi.x) × (b.lo.y ≤ℤ p.y) × (p.y ≤ℤ b.hi.y)) (sym lo) (x.0.0, x.0.1, y.0.0, y.0.1)
      | inr hi ↦ subst (λ p. (b.lo.x ≤ℤ p.x) × (p.x ≤ℤ b.hi.x) × (b.lo.y ≤ℤ p.y) × (p.y ≤ℤ b.hi.y)) (sym hi) (x.1.0, x.1.1, y.1.0, y.1.1)
    ]
  where
    of : (l h a c : ℤ) → l ≤ℤ int_min a c → int_max a c ≤ℤ h → ((l ≤ℤ a) × (a ≤ℤ h)) × ((l ≤ℤ c) × (c ≤ℤ h))
    of l h a c low high = ((omega (arith, ints, clamps, lin), omega (arith, ints, clamps, lin)), (omega (arith, ints, clamps, lin), omega (arith, ints, clamps, lin)))

past : (l c q : ℤ) → l ≤ℤ c → (c *ℤ pos 1) <ℤ q → l <ℤ q
past l c q low less = omega (arith, lin, mul_one c)

before : (h c q : ℤ) → c ≤ℤ h → q <ℤ (c *ℤ pos 1) → q <ℤ h
before h c q high less = omega (arith, lin, mul_one c)

pub in_hull : (edges : List Seg) (r : ℕ) (own : List OwnEdge) (b : Rect) → AreOwn edges r own → AreInside own b → (q : Coord) → IsInBoxOf edges r (at_coord q)
    → ((b.lo.x <ℤ q.x) × (q.x <ℤ b.hi.x)) × ((b.lo.y <ℤ q.y) × (q.y <ℤ b.hi.y))
in_hull edges r own b are all q is =
    let left = is.left in
    let right = is.right in
    let bottom = is.bottom in
    let top = is.top in (
      (past b.lo.x left.0.x q.x (at left.0 left.1.0).0 left.1.1, before b.hi.x right.0.x q.x (at right.0 right.1.0).1 right.1.1),
      (past b.lo.y bottom.0.y q.y (at bottom.0 bottom.1.0).2 bottom.1.1, before b.hi.y top.0.y q.y (at top.0 top.1.0).3 top.1.1),
    )
  where
    of_edge : (e : Seg) → Contains (edges_in own) e → IsInside (box_of_segment e) b
    of_edge = mapped (λ x. x.edge) (λ e. IsInside (box_of_segment e) b) own (λ x among. All-contains (λ o. IsInside (box_of_segment o.edge) b) own x all among)

    at : (c : Coord) → IsCornerOf edges r c → (b.lo.x ≤ℤ c.x) × (c.x ≤ℤ b.hi.x) × (b.lo.y ≤ℤ c.y) × (c.y ≤ℤ b.hi.y)
    at c corner = corner_in b c corner.edge (of_edge corner.edge ((are.each corner.edge).0 corner.of)) corner.is

-- a number strictly between two is from the next of the lesser to the last before the greater
strictly : (l h q a b : ℤ) → a ≡ l +ℤ pos 1 → b ≡ h -ℤ pos 1 → l <ℤ q → q <ℤ h → ((pos 2 *ℤ a) ≤ℤ (pos 2 *ℤ q)) × ((pos 2 *ℤ q) ≤ℤ (pos 2 *ℤ b))
strictly l h q a b is_a is_b past before =
    let two_q = twice q in
    let two_a = twice a in
    let two_b = twice b in
    (omega (arith, lin), omega (arith, lin))

pub in_inner : (b : Rect) (q lo hi : Coord) → (lo.x ≡ b.lo.x +ℤ pos 1) × (hi.x ≡ b.hi.x -ℤ pos 1) → (lo.y ≡ b.lo.y +ℤ pos 1) × (hi.y ≡ b.hi.y -ℤ pos 1)
    → ((b.lo.x <ℤ q.x) × (q.x <ℤ b.hi.x)) × ((b.lo.y <ℤ q.y) × (q.y <ℤ b.hi.y)) → IsInBlock lo hi (doubled q)
in_inner b q lo hi across upwards is =
    let x = strictly b.lo.x b.hi.x q.x lo.x hi.x across.0 across.1 is.0.0 is.0.1 in
    let y = strictly b.lo.y b.hi.y q.y lo.y hi.y upwards.0 upwards.1 is.1.0 is.1.1 in
    record { left = x.0; right = x.1; bottom = y.0; top = y.1 }

-- ---- numbers of the code

pub inner_read : (l h : ℤ) → (neg_ℤ LIMIT) ≤ℤ l → l ≤ℤ h → h ≤ℤ LIMIT → (to_z w32 (of_z w32 (to_z w32 (of_z w32 l) +ℤ pos 1)) ≡ l +ℤ pos 1) × (to_z w32 (of_z w32 (to_z w32 (of_z w32 h) -ℤ pos 1)) ≡ h -ℤ pos 1)
inner_read l h left order right = (omega (arith, ints, lin), omega (arith, ints, lin))

-- where two numbers are two or more apart, the next of the lesser is no more than the last before the greater
pub inner_order : (l h a b : ℤ) (n : ℕ) → (neg_ℤ LIMIT) ≤ℤ l → l ≤ℤ h → h ≤ℤ LIMIT → pos n ≡ to_z w32 (of_z w32 h) -ℤ to_z w32 (of_z w32 l) → 2 ≤ n → (a ≡ l +ℤ pos 1) × (b ≡ h -ℤ pos 1)
    → (((neg_ℤ LIMIT) ≤ℤ a) × (a ≤ℤ b)) × (b ≤ℤ LIMIT)
inner_order l h a b n left order right is more are =
    let is_a = are.0 in
    let is_b = are.1 in
    ((omega (arith, lin), omega (arith, ints, lin)), omega (arith, lin))

-- and otherwise nothing is between
pub none_between : (l h q : ℤ) (n : ℕ) → (neg_ℤ LIMIT) ≤ℤ l → l ≤ℤ h → h ≤ℤ LIMIT → pos n ≡ to_z w32 (of_z w32 h) -ℤ to_z w32 (of_z w32 l) → n < 2 → l <ℤ q → q <ℤ h → ⊥
none_between l h q n left order right is less past before = omega (arith, ints, lin)
