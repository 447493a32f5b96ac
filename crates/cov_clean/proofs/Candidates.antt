-- What a rule is told of a region: its candidates, one member of the label more at a time.
use mathlib.Core.Bool.{Bool-set}
use mathlib.Core.HLevel.{is_prop→PathP}
use Rattle.std.proofs.Common.{◌≡◌, sym, ◌∙◌, ap, subst, ℕ, ◌+◌, ◌<◌, ◌≤◌, true, List, [], ◌∷◌, ◌++◌, length, map, take, get_or, ℤ}
use Rattle.std.specs.Prelude.{IsTrue, All, Contains}
use Rattle.std.proofs.lemmas.List.{map-append, length-map, take_more, take_all}
use Rattle.std.proofs.lemmas.List.Elements.{Contains-get_or}
use Rattle.arrangement.specs.Measure.{member_area2, border}
use Rattle.arrangement.specs.Noding.{odd_uses}
use Rattle.arrangement.specs.Overlay.{Overlay, label_of}
use Rattle.arrangement.proofs.Ascending.{ascend_mapped, label_ascends}
use Rattle.plane.specs.Label.{numbers_below}
use Rattle.region_owners.specs.Candidates.{ascend, candidates_of}
use Rattle.region_owners.specs.Facts.{RegionFacts}
use Rattle.region_owners.specs.declared.candidate.Candidate.{Candidate}
use Rattle.region_owners.specs.Owner.{facts_of}
use Rattle.region_owners.proofs.Held.{label_below, ordered}
use Rattle.owner_label.specs.Labelled.{Labelled, IsOverlay}
use Rattle.cov_clean.specs.Asked.{member_areas}
use Rattle.cov_clean.proofs.Numbers.{numbers_count, made_at}

-- facts with the same candidates and the same area are the same
pub same_facts : (f g : RegionFacts) → f.candidates ≡ g.candidates → f.region_area2 ≡ g.region_area2 → f ≡ g
same_facts f g e k = λ i. record {
  candidates = e i;
  region_area2 = k i;
  ascending = is_prop→PathP (λ j. IsTrue (ascend (e j))) (λ j. Bool-set (ascend (e j)) true) f.ascending g.ascending i;
}

-- what a member is as a candidate
abbrev pub candidate_of : Overlay → ℕ → ℕ → Candidate
candidate_of o r i = record { member = i; area2 = member_area2 o.uses i; border = border o r i }

-- an overlay of the labels with so many members
pub counted : (l : Labelled) (o : Overlay) (count : ℕ) → IsOverlay l o → All (λ u. u.member < count) l.odd → IsOverlay l (record o { members = count })
counted l o count is below = record { edges = is.edges; uses = is.uses; members = below; numbered = is.numbered }

-- the area in the list is that of the definition
pub area_is : (l : Labelled) (areas : List ℤ) (o : Overlay) → IsOverlay l o → areas ≡ member_areas l (length areas) → (i : ℕ) (d : ℤ) → i < length areas → get_or areas i d ≡ member_area2 o.uses i
area_is l areas o is are i d less =
    ap (λ xs. get_or xs i d) are ∙ made_at (member_area2 (odd_uses l.edges l.odd)) (length areas) i d less ∙ ap (λ us. member_area2 us i) (sym is.uses)

-- one member more
pub candidates_more : (o : Overlay) (r : ℕ) (label : List ℕ) (k i : ℕ) (before after : List Candidate) (c : Candidate) → k < length label → i ≡ get_or label k 0
    → before ≡ map (candidate_of o r) (take k label) → after ≡ before ++ c ∷ [] → c ≡ candidate_of o r i → after ≡ map (candidate_of o r) (take (k + 1) label)
candidates_more o r label k i before after c less is so_far pushed made =
    pushed ∙ (λ j. so_far j ++ made j ∷ []) ∙ sym (map-append (candidate_of o r) (take k label) (i ∷ []))
    ∙ ap (map (candidate_of o r)) (ap (λ m. take k label ++ m ∷ []) is ∙ sym (take_more label k 0 less))

-- all members
pub candidates_all : (o : Overlay) (r : ℕ) (label : List ℕ) (k : ℕ) (items : List Candidate) → length label ≤ k → label ≡ label_of o r
    → items ≡ map (candidate_of o r) (take k label) → items ≡ candidates_of o r
candidates_all o r label k items all same made = made ∙ ap (map (candidate_of o r)) (take_all k label all ∙ same)

-- so they ascend
pub candidates_ascend : (o : Overlay) (r : ℕ) (items : List Candidate) → items ≡ candidates_of o r → IsTrue (ascend items)
candidates_ascend o r items same = subst (λ (cs : List Candidate). IsTrue (ascend cs)) (sym same) (ascend_mapped (λ c. c.member) _ (label_of o r) (label_ascends o r))

-- a member of the label has an area in the list
pub label_within : (l : Labelled) (label : List ℕ) (r count : ℕ) → (o : Overlay) → IsOverlay l o → ((q : Overlay) → IsOverlay l q → label ≡ label_of q r) → All (λ u. u.member < count) l.odd
    → (k : ℕ) → k < length label → get_or label k 0 < count
label_within l label r count o is same below k within =
    let q : Overlay = record o { members = count } in
    label_below q r (get_or label k 0) (subst (λ (xs : List ℕ). Contains xs (get_or label k 0)) (same q (counted l o count is below)) (Contains-get_or label k 0 within))

-- the list of areas by its own length
pub areas_long : (l : Labelled) (areas : List ℤ) (n : ℕ) → areas ≡ member_areas l n → length areas ≡ n
areas_long l areas n are = ap length are ∙ length-map (numbers_below n) (member_area2 (odd_uses l.edges l.odd)) ∙ numbers_count n

pub areas_all : (l : Labelled) (areas : List ℤ) (n : ℕ) → areas ≡ member_areas l n → areas ≡ member_areas l (length areas)
areas_all l areas n are = are ∙ ap (member_areas l) (sym (areas_long l areas n are))

-- as many candidates as members
pub candidates_count : (o : Overlay) (r : ℕ) (label : List ℕ) (f : RegionFacts) → label ≡ label_of o r → f ≡ facts_of o r → length f.candidates ≡ length label
candidates_count o r label f same is = ap (λ (g : RegionFacts). length g.candidates) is ∙ (ordered o r).count ∙ ap length (sym same)
