-- A segment that is met badly: the places where that is looked for.
use Rattle.std.proofs.Common.{◌≡◌, sym, ◌∙◌, ap, subst, ℕ, ◌+◌, ◌<◌, ◌≤◌, ◌↔◌, Bool, true, IsTrue, List, [], ◌∷◌, ◌++◌, length, get_or, drop, All, Contains, arith, inl, inr, length-append, length-take, length-drop, ◌-◌}
use Rattle.std.specs.Prelude.{slice_range}
use Rattle.std.proofs.lemmas.Bool.{cases_lt}
use Rattle.std.proofs.lemmas.List.{get_or-take, get_or-drop, length-map, get_or-map, get_or_append_left, get_or_default}
use Rattle.std.proofs.lemmas.List.Elements.{Contains-get_or}
use Rattle.std.proofs.Math.Seq.{get_or-append_seam}
use Rattle.box_tree.specs.Places.{places}
use Rattle.box_tree.specs.Rect.{box_of_segment, is_touching, IsInside}
use Rattle.box_tree.specs.declared.rect.Rect.{Rect}
use Rattle.cov_types.specs.declared.seg.Seg.{Seg}
use Rattle.cov_valid.proofs.Boxes.{places_has, places_passes, bad_touch}
use Rattle.cov_valid.specs.Contacts.{boxes_of, AreContacts, IsMet, IsMetAt}
use Rattle.cov_valid.specs.declared.group.Group.{Group}
use Rattle.plane.specs.Contact.{MeetsBadly}

-- the segment of the group at the place meets s badly
abbrev pub IsBadAt : List Group → Seg → ℕ → Type 0
IsBadAt groups s k = (d : Group) → MeetsBadly s (get_or groups k d).seg

-- whatever element stands for a missing group
pub bad_at : (groups : List Group) (s : Seg) (k : ℕ) (d : Group) → k < length groups → MeetsBadly s (get_or groups k d).seg → IsBadAt groups s k
bad_at groups s k d within bad e = subst (λ (g : Group). MeetsBadly s g.seg) (get_or_default groups k d e within) bad

pub not_bad_at : (groups : List Group) (s : Seg) (k : ℕ) (d : Group) → ¬ MeetsBadly s (get_or groups k d).seg → ¬ IsBadAt groups s k
not_bad_at groups s k d good bad = good (bad d)

box_at : (groups : List Group) (k : ℕ) (d : Group) → k < length groups → get_or (boxes_of groups) k (box_of_segment d.seg) ≡ box_of_segment (get_or groups k d).seg
box_at groups k d within = get_or-map (λ (g : Group). box_of_segment g.seg) groups k d (box_of_segment d.seg) within

-- where the near places are all whose boxes touch that of s, the segment is met at one of them exactly where it is met
met_from_near : (groups : List Group) (s : Seg) (k : ℕ) → Contains (places (is_touching (box_of_segment s)) 0 (boxes_of groups)) k → IsBadAt groups s k → IsMet groups s
met_from_near [] s k has bad = absurd (omega (arith, has.1))
met_from_near (g ∷ groups) s k has bad =
    let place = places_passes (is_touching (box_of_segment s)) 0 (boxes_of (g ∷ groups)) k has in
    let within : k < length (g ∷ groups) = omega (arith, place.at, place.within, length-map (g ∷ groups) (λ (h : Group). box_of_segment h.seg)) in
    (get_or (g ∷ groups) k g, (Contains-get_or (g ∷ groups) k g within, bad g))

near_from_met : (groups : List Group) (s : Seg) (g : Group) → Contains groups g → MeetsBadly s g.seg → IsMetAt groups (places (is_touching (box_of_segment s)) 0 (boxes_of groups)) s
near_from_met groups s g (k, within, at) bad =
    let boxes = boxes_of groups in
    let long = length-map groups (λ (h : Group). box_of_segment h.seg) in
    let bad_here : MeetsBadly s (get_or groups k g).seg = subst (λ (h : Group). MeetsBadly s h.seg) (sym at) bad in
    let touches : is_touching (box_of_segment s) (get_or boxes k (box_of_segment g.seg)) ≡ true =
    ap (is_touching (box_of_segment s)) (box_at groups k g within) ∙ bad_touch s (get_or groups k g).seg bad_here in
    let listed : Contains (places (is_touching (box_of_segment s)) 0 boxes) (0 + k) = places_has (is_touching (box_of_segment s)) 0 boxes k (box_of_segment g.seg) (omega (arith, within, long)) touches in
    let here : 0 + k ≡ k = omega arith in
    (k, (subst (Contains (places (is_touching (box_of_segment s)) 0 boxes)) here listed, bad_at groups s k g within bad_here))

pub met_at_is : (groups : List Group) (s : Seg) (near : List ℕ) → near ≡ places (is_touching (box_of_segment s)) 0 (boxes_of groups) → IsMetAt groups near s ↔ IsMet groups s
met_at_is groups s near e = (
  λ (k, (has, bad)). met_from_near groups s k (subst (λ ns. Contains ns k) e has) bad,
  λ (g, (has, bad)). subst (λ ns. IsMetAt groups ns s) (sym e) (near_from_met groups s g has bad),
)

-- each near place is that of a group
pub near_within : (groups : List Group) (b : Rect) (near : List ℕ) → near ≡ places (is_touching b) 0 (boxes_of groups) → All (λ k. k < length groups) near
near_within groups b near e k d within =
    let has : Contains near (get_or near k d) = Contains-get_or near k d within in
    let place = places_passes (is_touching b) 0 (boxes_of groups) (get_or near k d) (subst (λ ns. Contains ns (get_or near k d)) e has) in
    omega (arith, place.at, place.within, length-map groups (λ (h : Group). box_of_segment h.seg))

-- ---- the loops

pub contacts_none : (groups : List Group) (met : List Bool) → met ≡ [] → AreContacts groups 0 met
contacts_none groups met e = record { count = ap length e; each = λ k d b h. absurd (omega (arith, h)) }

pub contacts_more : (groups : List Group) (n : ℕ) (met more : List Bool) (b : Bool) → more ≡ met ++ b ∷ [] → ((d : Group) → IsTrue b ↔ IsMet groups (get_or groups n d).seg)
    → AreContacts groups n met → AreContacts groups (n + 1) more
contacts_more groups n met more b pushed is so_far =
    subst (AreContacts groups (n + 1)) (sym pushed)
    (record {
      count = omega (arith, length-append met (b ∷ []), so_far.count);
      each = λ k d e h. elim (cases_lt k n) [
        | inl earlier ↦
            let same : get_or (met ++ b ∷ []) k e ≡ get_or met k e = get_or_append_left met (b ∷ []) e k (omega (arith, earlier, so_far.count)) in
            subst (λ t. IsTrue t ↔ IsMet groups (get_or groups k d).seg) (sym same) (so_far.each k d e earlier)
        | inr later ↦
            let last : k ≡ length met = omega (arith, later, h, so_far.count) in
            let here : k ≡ n = omega (arith, later, h) in
            let same : get_or (met ++ b ∷ []) k e ≡ b = ap (λ m. get_or (met ++ b ∷ []) m e) last ∙ get_or-append_seam met b [] e in
            subst (λ t. IsTrue t ↔ IsMet groups (get_or groups k d).seg) (sym same) (subst (λ m. IsTrue b ↔ IsMet groups (get_or groups m d).seg) (sym here) (is d))
      ];
    })

-- ---- the blocks

-- a box of a block is within the hull of the block
pub in_hull : (boxes : List Rect) (from to k : ℕ) (hull b : Rect) → All (λ c. IsInside c hull) (slice_range boxes from to) → from ≤ k → k < to → to ≤ length boxes → b ≡ get_or boxes k b → IsInside b hull
in_hull boxes from to k hull b all low high within at =
    let j = k - from in
    let back : from + j ≡ k = omega arith in
    let short : j < to - from = omega arith in
    let inside : j < length (slice_range boxes from to) = omega (arith, length-take (to - from) (drop from boxes), length-drop from boxes) in
    let same : get_or (slice_range boxes from to) j b ≡ b =
    get_or-take (to - from) (drop from boxes) j b short ∙ get_or-drop from boxes j b ∙ ap (λ n. get_or boxes n b) back ∙ sym at in
    subst (λ c. IsInside c hull) same (all j b inside)

-- what is found near the box of a group tells whether its segment is met
pub met_here : (groups : List Group) (boxes : List Rect) (near : List ℕ) (k : ℕ) (box : Rect) (g : Group) (b : Bool) → boxes ≡ boxes_of groups → k < length groups → box ≡ get_or boxes k box
    → near ≡ places (is_touching box) 0 boxes → IsTrue b ↔ IsMetAt groups near (get_or groups k g).seg → (d : Group) → IsTrue b ↔ IsMet groups (get_or groups k d).seg
met_here groups boxes near k box g b same within at found told d =
    let s = (get_or groups k g).seg in
    let long = length-map groups (λ (h : Group). box_of_segment h.seg) in
    let box_is : box ≡ box_of_segment s =
    at ∙ get_or_default boxes k box (box_of_segment g.seg) (omega (arith, within, long, ap length same)) ∙ ap (λ bs. get_or bs k (box_of_segment g.seg)) same ∙ box_at groups k g within in
    let is = met_at_is groups s near (found ∙ (λ i. places (is_touching (box_is i)) 0 (same i))) in
    subst (λ (h : Group). IsTrue b ↔ IsMet groups h.seg) (get_or_default groups k g d within) (λ t. is.0 (told.0 t), λ m. told.1 (is.1 m))
