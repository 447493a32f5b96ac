-- The lists of marked segments, one for each member.
use Rattle.std.proofs.Common.{◌≡◌, ℕ, suc, ◌+◌, ◌<◌, List, [], ◌∷◌, length, map, refl, ap, subst, ◌∙◌, arith, Some, Vec}
use Rattle.std.specs.Prelude.{option_map, slice_get}
use Rattle.std.specs.List.{enumerate_from}
use Rattle.std.specs.declared.alloc.Global.{Global}
use Rattle.cov_types.specs.declared.edge_use.EdgeUse.{EdgeUse}
use Rattle.cov_types.specs.declared.seg.Seg.{Seg}
use Rattle.cover_cli.specs.Lines.{member_segments, member_lists, AreMemberLists}

-- lists that hold f of each number from n on are f of the numbers that the members have
lists_from : {X : Type 0} (f : ℕ → List Seg) (lists : List (Vec Seg Global)) (members : List X) (n : ℕ) → length lists ≡ length members
    → ((i : ℕ) → i < length members → option_map (λ (l : Vec Seg Global). l.items) (slice_get lists i) ≡ Some (f (n + i)))
    → map (λ (l : Vec Seg Global). l.items) lists ≡ map (λ (numbered : ℕ × X). f numbered.0) (enumerate_from n members)
lists_from f [] [] n long each = refl
lists_from f [] (m ∷ ms) n long each = absurd (omega arith)
lists_from f (l ∷ ls) [] n long each = absurd (omega arith)
lists_from f (l ∷ ls) (m ∷ ms) n long each =
    let first : Some l.items ≡ Some (f (n + 0)) = each 0 (omega arith) in
    let here : l.items ≡ f n = cc (ap f {x = n + 0} {y = n} (omega arith)) in
    let later : (i : ℕ) → i < length ms → option_map (λ (v : Vec Seg Global). v.items) (slice_get ls i) ≡ Some (f ((n + 1) + i)) =
    λ i h. each (suc i) (omega arith) ∙ ap (λ (k : ℕ). Some (f k)) {x = n + suc i} {y = (n + 1) + i} (omega arith) in
    (λ j. here j ∷ lists_from f ls ms (n + 1) (omega arith) later j)

-- the lists are those that the definition gives
pub member_lists_are : {X : Type 0} (uses : List EdgeUse) (members : List X) (lists : List (Vec Seg Global))
    → AreMemberLists uses (length members) lists → map (λ (l : Vec Seg Global). l.items) lists ≡ member_lists uses members
member_lists_are uses members lists are =
    lists_from (member_segments uses) lists members 0 are.count (λ i h. are.each i h ∙ ap (λ (k : ℕ). Some (member_segments uses k)) {x = i} {y = 0 + i} (omega arith))

-- the same lists and uses under other names
pub lists_moved : (u v : List EdgeUse) (j k : ℕ) (l o : List (Vec Seg Global)) → u ≡ v → j ≡ k → l ≡ o → AreMemberLists u j l → AreMemberLists v k o
lists_moved u v j k l o p r s are =
    let A : List EdgeUse → Type 0 = λ w. AreMemberLists w j l in
    let C : ℕ → Type 0 = λ w. AreMemberLists v w l in
    let D : List (Vec Seg Global) → Type 0 = λ w. AreMemberLists v k w in
    subst D s (subst C r (subst A p are))
