-- One use more, in the lists by member and in the marked uses.
use Rattle.std.proofs.Common.{◌≡◌, ℕ, ◌+◌, ◌<◌, ◌≤◌, ◌==◌, Bool, true, false, cond, List, [], ◌∷◌, ◌++◌, length, get_or, take, set, map, refl, sym, ap, ◌∙◌, arith, Option, Some, Vec, add-one, inl, inr}
use Rattle.std.specs.Prelude.{filter, option_map, option_to_list, slice_get}
use Rattle.std.specs.declared.alloc.Global.{Global}
use Rattle.std.proofs.Math.Seq.{take-suc}
use Rattle.std.proofs.lemmas.List.{get_or-set_same, get_or-set_other, length-set, append-nil, map-append}
use Rattle.std.proofs.lemmas.List.Elements.{filter-append}
use Rattle.std.proofs.lemmas.Grind.{flat_map-append}
use Rattle.std.proofs.lemmas.Option.{slice_get-get_or}
use Rattle.std.proofs.lemmas.Bool.Decides.{eqb_tells}
use Rattle.cov_types.specs.declared.edge_use.EdgeUse.{EdgeUse}
use Rattle.cov_types.specs.declared.seg.Seg.{Seg}
use Rattle.cov_valid.specs.declared.mark.Mark.{Mark}
use Rattle.cover_cli.specs.Lines.{member_segments, marked_uses, AreMemberLists}

-- the segments of one use
one_use : (u : EdgeUse) (i : ℕ) (b : Bool) → (u.member == i) ≡ b → member_segments (u ∷ []) i ≡ cond b (u.seg ∷ []) []
one_use u i true h = rw h refl
one_use u i false h = rw h refl

-- the segments of the uses so far, and of one more
member_segments-push : (uses : List EdgeUse) (u : EdgeUse) (i : ℕ) → member_segments (uses ++ u ∷ []) i ≡ member_segments uses i ++ member_segments (u ∷ []) i
member_segments-push uses u i =
    ap (λ (xs : List EdgeUse). map (λ (v : EdgeUse). v.seg) xs) (filter-append (λ (v : EdgeUse). v.member == i) uses (u ∷ []))
    ∙ map-append (λ (v : EdgeUse). v.seg) (filter (λ (v : EdgeUse). v.member == i) uses) (filter (λ (v : EdgeUse). v.member == i) (u ∷ []))

-- the list of the use's member has its segment at its end, and the other lists are as they were
pub member_lists-push : (uses : List EdgeUse) (members : ℕ) (lists : List (Vec Seg Global)) (u : EdgeUse) (before after : Vec Seg Global)
    → u.member < length lists → get_or lists u.member before ≡ before → after.items ≡ before.items ++ u.seg ∷ []
    → AreMemberLists uses members lists → AreMemberLists (uses ++ u ∷ []) members (set lists u.member after)
member_lists-push uses members lists u before after here list_at pushed are =
    let long : length (set lists u.member after) ≡ members = length-set lists u.member after ∙ are.count in
    let long_before : length lists ≡ members = are.count in
    let each : (i : ℕ) → i < members → option_map (λ (l : Vec Seg Global). l.items) (slice_get (set lists u.member after) i) ≡ Some (member_segments (uses ++ u ∷ []) i) =
    λ i h. elim (eqb_tells u.member i) [
      | inl same ↦
          let inside : u.member < members = omega arith in
          let i_here : i < length (set lists u.member after) = omega arith in
          let value : get_or (set lists u.member after) u.member after ≡ after = get_or-set_same lists u.member after after here in
          let value_i : get_or (set lists u.member after) i after ≡ after = ap (λ (j : ℕ). get_or (set lists u.member after) j after) (sym same.1) ∙ value in
          let old : option_map (λ (l : Vec Seg Global). l.items) (slice_get lists u.member) ≡ Some (member_segments uses u.member) = are.each u.member inside in
          let old_value : option_map (λ (l : Vec Seg Global). l.items) (slice_get lists u.member) ≡ Some before.items = ap (λ (o : Option (Vec Seg Global)). option_map (λ (l : Vec Seg Global). l.items) o) (slice_get-get_or lists u.member before here) ∙ ap (λ (l : Vec Seg Global). Some l.items) list_at in
          let items : member_segments uses i ≡ before.items = ap (λ (j : ℕ). member_segments uses j) (sym same.1) ∙ cc in
          let last : member_segments (u ∷ []) i ≡ u.seg ∷ [] = one_use u i true same.0 in
          ap (λ (o : Option (Vec Seg Global)). option_map (λ (l : Vec Seg Global). l.items) o) (slice_get-get_or (set lists u.member after) i after i_here)
          ∙ ap (λ (l : Vec Seg Global). Some l.items) value_i
          ∙ ap (λ (xs : List Seg). Some xs) (pushed ∙ (λ j. sym items j ++ sym last j) ∙ sym (member_segments-push uses u i))
      | inr other ↦
          let i_here : i < length (set lists u.member after) = omega arith in
          let i_before : i < length lists = omega arith in
          let value : get_or (set lists u.member after) i after ≡ get_or lists i after = get_or-set_other lists u.member i after after (λ e. other.1 (sym e)) in
          ap (λ (o : Option (Vec Seg Global)). option_map (λ (l : Vec Seg Global). l.items) o) (slice_get-get_or (set lists u.member after) i after i_here ∙ ap (λ (l : Vec Seg Global). Some l) value ∙ sym (slice_get-get_or lists i after i_before))
          ∙ are.each i h
          ∙ ap (λ (xs : List Seg). Some xs) (sym (kept uses u i other.0))
    ] in
    record { count = long; each = each }
  where
    kept : (vs : List EdgeUse) (v : EdgeUse) (j : ℕ) → (v.member == j) ≡ false → member_segments (vs ++ v ∷ []) j ≡ member_segments vs j
    kept vs v j apart = member_segments-push vs v j ∙ ap (λ (xs : List Seg). member_segments vs j ++ xs) (one_use v j false apart) ∙ append-nil (member_segments vs j)

-- a use of no member changes no list
pub member_lists-past : (uses : List EdgeUse) (members : ℕ) (lists : List (Vec Seg Global)) (u : EdgeUse)
    → length lists ≤ u.member → AreMemberLists uses members lists → AreMemberLists (uses ++ u ∷ []) members lists
member_lists-past uses members lists u past are = record { count = are.count; each = each }
  where
    each : (i : ℕ) → i < members → option_map (λ (l : Vec Seg Global). l.items) (slice_get lists i) ≡ Some (member_segments (uses ++ u ∷ []) i)
    each i h =
        elim (eqb_tells u.member i) [
          | inl same ↦ (let count : length lists ≡ members = are.count in absurd (omega (arith, same.1)))
          | inr other ↦ are.each i h ∙ ap (λ (xs : List Seg). Some xs) (sym (member_segments-push uses u i ∙ ap (λ (xs : List Seg). member_segments uses i ++ xs) (one_use u i false other.0) ∙ append-nil (member_segments uses i)))
        ]

-- the uses at the marks so far, and at one more
pub marked_uses-push : (uses : List EdgeUse) (marks : List Mark) (k : ℕ) (d : Mark) (u : EdgeUse) (marked : List EdgeUse) → marked ≡ marked_uses uses (take k marks)
    → k < length marks → slice_get uses (get_or marks k d).place ≡ Some u → marked ++ u ∷ [] ≡ marked_uses uses (take (k + 1) marks)
marked_uses-push uses marks k d u marked so_far within at =
    let one_more : take (k + 1) marks ≡ take k marks ++ get_or marks k d ∷ [] = rw add-one (take-suc marks k d within) in
    let pushed : marked_uses uses (take k marks ++ get_or marks k d ∷ []) ≡ marked_uses uses (take k marks) ++ marked_uses uses (get_or marks k d ∷ []) =
    flat_map-append (λ (m : Mark). option_to_list (slice_get uses m.place)) (take k marks) (get_or marks k d ∷ []) in
    let last : marked_uses uses (get_or marks k d ∷ []) ≡ u ∷ [] = append-nil (option_to_list (slice_get uses (get_or marks k d).place)) ∙ ap (λ (o : Option EdgeUse). option_to_list o) at in
    (λ j. so_far j ++ sym last j) ∙ sym pushed ∙ ap (λ (ms : List Mark). marked_uses uses ms) (sym one_more)
