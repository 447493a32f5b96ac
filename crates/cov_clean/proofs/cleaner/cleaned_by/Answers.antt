-- The owners of the regions between the live edges, and what is built of them.
use Rattle.std.proofs.Common.{◌≡◌, sym, ◌∙◌, ap, subst, ℕ, ◌*◌, ◌<◌, ◌^◌, Bool, List, length, Option, rules, arith}
use Rattle.std.specs.Prelude.{All, AllPairs, IfSome}
use Rattle.std.proofs.lemmas.Result.{IfOk-weaker}
use Rattle.cov_types.specs.declared.seg.Seg.{Seg}
use Rattle.cov_types.specs.Coverage.{Members}
use Rattle.plane.specs.Region.{IsOuterRegion, AreRegions}
use Rattle.arrangement.specs.Overlay.{Overlay, IsRegion}
use Rattle.arrangement.specs.declared.odd_use.OddUse.{OddUse}
use Rattle.owner_label.specs.Labelled.{Labelled, IsOverlay}
use Rattle.cov_build.specs.Owners.{owner_in}
use Rattle.sound_polygons.specs.Cleaned.{IsBuilt}
use Rattle.region_owners.specs.Owner.{Rule, last_state}
use Rattle.gap_replay.specs.Replay.{state_after_gaps}
use Rattle.cov_clean.specs.Filled.{AreFilled, asked_gaps, filler_by, HasFilledFirst, HasNeighbour}
use Rattle.cov_clean.proofs.Asking.{asked_all}
use Rattle.cov_clean.proofs.Candidates.{areas_long, areas_all}
use Rattle.cov_clean.proofs.Cleaning.{sides_count, sides_below, gaps_regions, gaps_beside, filled_count, members_below, outer_unfilled, cleaned, built_count, cleaned_by_valid, some_first, has_last, has_some, has_all}
use Rattle.cov_clean.proofs.Overlays.{snapped_labels}
use Rattle.cov_clean.proofs.Results.{if_ok, if_err}
use Rattle.cov_clean.proofs.cleaner.cleaned_by.Goals as goal

pub owners_of_sides-requires-clause-areas : goal.owners_of_sides-requires-clause-areas
owners_of_sides-requires-clause-areas g c =
    let l = c.in_ok-labels.labels in
    areas_all l c.deref-2.result.now c.len-members.result (c.deref-2.ensures.value ∙ c.in_ok-areas.ensures)

pub owners_of_sides-requires-clause-members : goal.owners_of_sides-requires-clause-members
owners_of_sides-requires-clause-members g c =
    let l = c.in_ok-labels.labels in
    let are = c.in_ok-live.ensures in
    let many : c.len-members.result ≡ length c.args.c.now = search rules in
    let long : length c.deref-2.result.now ≡ length c.args.c.now = areas_long l c.deref-2.result.now c.len-members.result (c.deref-2.ensures.value ∙ c.in_ok-areas.ensures) ∙ many in
    let odd : l.odd ≡ c.in_ok-live.live.odd.items = ap (λ (k : Labelled). k.odd) c.in_ok-labels.ensures in
    subst (λ (n : ℕ). All (λ u. u.member < n) l.odd) (sym long) (subst (λ (us : List OddUse). All (λ u. u.member < length c.args.c.now) us) (sym odd) are.below)

pub returns-in_err-owners-clause-no_memory : goal.returns-in_err-owners-clause-no_memory
returns-in_err-owners-clause-no_memory g c = if_err c.from_residual-in_err-owners.result _ (λ o is.
    some_first c.args.gaps_too g.R.MergeRule.rule (g.R.MergeRule.state c.args.rule.now) o c.args.gap (g.R.MergeRule.state c.owners_of_sides.new.rule)
    (c.in_err-owners.ensures.no_memory o (snapped_labels c.args.c.now c.requires.in_range c.in_ok-live.live.edges.items c.in_ok-live.live.odd.items c.in_ok-live.ensures c.in_ok-labels.labels c.in_ok-labels.ensures o is)))

pub returns-in_err-gaps-clause-no_memory : goal.returns-in_err-gaps-clause-no_memory
returns-in_err-gaps-clause-no_memory g c = if_err c.from_residual-in_err-gaps.result _ (λ o is.
    some_first c.args.gaps_too g.R.MergeRule.rule (g.R.MergeRule.state c.args.rule.now) o c.args.gap (g.R.MergeRule.state c.owners_of_sides.new.rule)
    (asked_all o g.R.MergeRule.rule (g.R.MergeRule.state c.args.rule.now) (g.R.MergeRule.state c.owners_of_sides.new.rule) (c.in_ok-owners.ensures.state o (snapped_labels c.args.c.now c.requires.in_range c.in_ok-live.live.edges.items c.in_ok-live.live.odd.items c.in_ok-live.ensures c.in_ok-labels.labels c.in_ok-labels.ensures o is))))

pub owners_with_gaps-requires-clause-areas : goal.owners_with_gaps-requires-clause-areas
owners_with_gaps-requires-clause-areas g c =
    areas_all c.in_ok-labels.labels c.deref-3.result.now c.len-members.result (c.deref-3.ensures.value ∙ c.in_ok-areas.ensures)

pub owners_with_gaps-requires-clause-few : goal.owners_with_gaps-requires-clause-few
owners_with_gaps-requires-clause-few g c =
    let many : c.len-members.result ≡ length c.args.c.now = search rules in
    let long : length c.deref-3.result.now ≡ length c.args.c.now = areas_long c.in_ok-labels.labels c.deref-3.result.now c.len-members.result (c.deref-3.ensures.value ∙ c.in_ok-areas.ensures) ∙ many in
    (let less : c.len-members.result < 2 ^ 32 = search rules in omega (arith, long, many, less))

pub owners_with_gaps-requires-clause-owners : goal.owners_with_gaps-requires-clause-owners
owners_with_gaps-requires-clause-owners g c =
    let edges = c.in_ok-live.live.edges.items in
    let between : c.in_ok-arena.arena ≡ edges = c.in_ok-arena.ensures ∙ c.in_ok-to_vec.ensures.items_if_clones_equal (λ x y e. e) ∙ c.deref.ensures.value in
    sides_count g.R.MergeRule.rule (g.R.MergeRule.state c.args.rule.now) c.args.c.now c.requires.in_range edges c.in_ok-live.live.odd.items c.in_ok-live.ensures
    c.in_ok-labels.labels c.in_ok-labels.ensures c.len.result (c.len.ensures.count ∙ ap (λ (es : List Seg). 2 * length es) between) c.in_ok-owners.owners.items c.in_ok-owners.ensures.owners
    ∙ ap (λ (l : Labelled). 2 * length l.edges) (sym c.in_ok-labels.ensures)

pub owners_with_gaps-requires-clause-below : goal.owners_with_gaps-requires-clause-below
owners_with_gaps-requires-clause-below g c =
    let edges = c.in_ok-live.live.edges.items in
    let between : c.in_ok-arena.arena ≡ edges = c.in_ok-arena.ensures ∙ c.in_ok-to_vec.ensures.items_if_clones_equal (λ x y e. e) ∙ c.deref.ensures.value in
    let many : c.len-members.result ≡ length c.args.c.now = search rules in
    let long : length c.deref-3.result.now ≡ length c.args.c.now = areas_long c.in_ok-labels.labels c.deref-3.result.now c.len-members.result (c.deref-3.ensures.value ∙ c.in_ok-areas.ensures) ∙ many in
    subst (λ (n : ℕ). All (λ found. IfSome found (λ i. i < n)) c.in_ok-owners.owners.items) (sym long) (sides_below g.R.MergeRule.rule (g.R.MergeRule.state c.args.rule.now) c.args.c.now c.requires.in_range edges c.in_ok-live.live.odd.items c.in_ok-live.ensures
    c.in_ok-labels.labels c.in_ok-labels.ensures c.len.result (c.len.ensures.count ∙ ap (λ (es : List Seg). 2 * length es) between) c.in_ok-owners.owners.items c.in_ok-owners.ensures.owners)

pub owners_with_gaps-requires-clause-gaps : goal.owners_with_gaps-requires-clause-gaps
owners_with_gaps-requires-clause-gaps g c =
    let edges = c.in_ok-live.live.edges.items in
    let between : c.in_ok-arena.arena ≡ edges = c.in_ok-arena.ensures ∙ c.in_ok-to_vec.ensures.items_if_clones_equal (λ x y e. e) ∙ c.deref.ensures.value in
    subst (λ (ns : List ℕ). All (IsRegion c.in_ok-labels.labels.edges) ns) (sym c.deref-4.ensures.value) (gaps_regions g.R.MergeRule.rule (g.R.MergeRule.state c.args.rule.now) c.args.c.now c.requires.in_range edges c.in_ok-live.live.odd.items c.in_ok-live.ensures
    c.in_ok-labels.labels c.in_ok-labels.ensures c.len.result (c.len.ensures.count ∙ ap (λ (es : List Seg). 2 * length es) between) c.in_ok-owners.owners.items c.in_ok-owners.ensures.owners
    c.args.gap c.in_ok-gaps.gaps.items c.in_ok-gaps.ensures.exact)

pub owners_with_gaps-requires-clause-ascending : goal.owners_with_gaps-requires-clause-ascending
owners_with_gaps-requires-clause-ascending g c =
    subst (λ (ns : List ℕ). AllPairs (λ m n. m < n) ns) (sym c.deref-4.ensures.value) c.in_ok-gaps.ensures.ascending

pub owners_with_gaps-requires-clause-some : goal.owners_with_gaps-requires-clause-some
owners_with_gaps-requires-clause-some g c =
    let edges = c.in_ok-live.live.edges.items in
    let between : c.in_ok-arena.arena ≡ edges = c.in_ok-arena.ensures ∙ c.in_ok-to_vec.ensures.items_if_clones_equal (λ x y e. e) ∙ c.deref.ensures.value in
    let many : c.len-members.result ≡ length c.args.c.now = search rules in
    let long : length c.deref-3.result.now ≡ length c.args.c.now = areas_long c.in_ok-labels.labels c.deref-3.result.now c.len-members.result (c.deref-3.ensures.value ∙ c.in_ok-areas.ensures) ∙ many in
    (let beside = gaps_beside g.R.MergeRule.rule (g.R.MergeRule.state c.args.rule.now) c.args.c.now c.requires.in_range edges c.in_ok-live.live.odd.items c.in_ok-live.ensures
    c.in_ok-labels.labels c.in_ok-labels.ensures c.len.result (c.len.ensures.count ∙ ap (λ (es : List Seg). 2 * length es) between) c.in_ok-owners.owners.items c.in_ok-owners.ensures.owners
    c.args.gap c.in_ok-gaps.gaps.items c.in_ok-gaps.ensures.exact g.met.R.MergeRule.lawful in
    subst (λ (n : ℕ). All (HasNeighbour c.in_ok-labels.labels n c.in_ok-owners.owners.items) c.deref-4.result.now) (sym long)
    (subst (λ (ns : List ℕ). All (HasNeighbour c.in_ok-labels.labels (length c.args.c.now) c.in_ok-owners.owners.items) ns) (sym c.deref-4.ensures.value) beside))

-- what is filled, as it is said of the list of gaps, of the members and of the rule's state after the shared regions
fills_are : {State : Type 0} (too : Bool) (rule : Rule State) (state after : State) (l : Labelled) → ((o : Overlay) → IsOverlay l o → after ≡ last_state rule state o) → (owners filled : List (Option ℕ)) (slice gaps : List ℕ) (n members : ℕ) → slice ≡ gaps → n ≡ members
    → ((o : Overlay) → IsOverlay l o → o.members ≡ n → AreFilled (filler_by too rule after o (owner_in owners) slice) owners slice filled)
    → (o : Overlay) → IsOverlay l o → o.members ≡ members → AreFilled (filler_by too rule (last_state rule state o) o (owner_in owners) gaps) owners gaps filled
fills_are {State} too rule state after l asked owners filled slice gaps n members same many fills o is count =
    subst (λ (s : State). AreFilled (filler_by too rule s o (owner_in owners) gaps) owners gaps filled) (asked o is)
    (subst (λ ns. AreFilled (filler_by too rule after o (owner_in owners) ns) owners ns filled) same (fills o is (count ∙ sym many)))

pub polygons-requires-clause-count : goal.polygons-requires-clause-count
polygons-requires-clause-count g c =
    let edges = c.in_ok-live.live.edges.items in
    let between : c.in_ok-arena.arena ≡ edges = c.in_ok-arena.ensures ∙ c.in_ok-to_vec.ensures.items_if_clones_equal (λ x y e. e) ∙ c.deref.ensures.value in
    let many : c.len-members.result ≡ length c.args.c.now = search rules in
    let long : length c.deref-3.result.now ≡ length c.args.c.now = areas_long c.in_ok-labels.labels c.deref-3.result.now c.len-members.result (c.deref-3.ensures.value ∙ c.in_ok-areas.ensures) ∙ many in
    ap length c.deref-5.ensures.value ∙ filled_count g.R.MergeRule.rule (g.R.MergeRule.state c.args.rule.now) c.args.c.now c.requires.in_range edges c.in_ok-live.live.odd.items c.in_ok-live.ensures
    c.in_ok-labels.labels c.in_ok-labels.ensures c.len.result (c.len.ensures.count ∙ ap (λ (es : List Seg). 2 * length es) between) c.in_ok-owners.owners.items c.in_ok-owners.ensures.owners
    c.args.gap c.in_ok-gaps.gaps.items c.in_ok-gaps.ensures.exact c.args.gaps_too c.in_ok-gaps.ensures.ascending c.in_ok-filled.filled.items
    (fills_are c.args.gaps_too g.R.MergeRule.rule (g.R.MergeRule.state c.args.rule.now) (g.R.MergeRule.state c.owners_of_sides.new.rule) c.in_ok-labels.labels c.in_ok-owners.ensures.state c.in_ok-owners.owners.items c.in_ok-filled.filled.items
    c.deref-4.result.now c.in_ok-gaps.gaps.items (length c.deref-3.result.now) (length c.args.c.now) c.deref-4.ensures.value long c.in_ok-filled.ensures.filled)
    ∙ ap (λ (es : List Seg). 2 * length es) (sym between)

pub polygons-requires-clause-below : goal.polygons-requires-clause-below
polygons-requires-clause-below g c =
    let edges = c.in_ok-live.live.edges.items in
    let between : c.in_ok-arena.arena ≡ edges = c.in_ok-arena.ensures ∙ c.in_ok-to_vec.ensures.items_if_clones_equal (λ x y e. e) ∙ c.deref.ensures.value in
    let many : c.len-members.result ≡ length c.args.c.now = search rules in
    let long : length c.deref-3.result.now ≡ length c.args.c.now = areas_long c.in_ok-labels.labels c.deref-3.result.now c.len-members.result (c.deref-3.ensures.value ∙ c.in_ok-areas.ensures) ∙ many in
    let filled = c.in_ok-filled.filled.items in
    let below = members_below g.R.MergeRule.rule (g.R.MergeRule.state c.args.rule.now) c.args.c.now c.requires.in_range edges c.in_ok-live.live.odd.items c.in_ok-live.ensures
    c.in_ok-labels.labels c.in_ok-labels.ensures c.len.result (c.len.ensures.count ∙ ap (λ (es : List Seg). 2 * length es) between) c.in_ok-owners.owners.items c.in_ok-owners.ensures.owners
    c.args.gap c.in_ok-gaps.gaps.items c.in_ok-gaps.ensures.exact c.args.gaps_too c.in_ok-gaps.ensures.ascending c.in_ok-filled.filled.items
    (fills_are c.args.gaps_too g.R.MergeRule.rule (g.R.MergeRule.state c.args.rule.now) (g.R.MergeRule.state c.owners_of_sides.new.rule) c.in_ok-labels.labels c.in_ok-owners.ensures.state c.in_ok-owners.owners.items c.in_ok-filled.filled.items
    c.deref-4.result.now c.in_ok-gaps.gaps.items (length c.deref-3.result.now) (length c.args.c.now) c.deref-4.ensures.value long c.in_ok-filled.ensures.filled) in
    let counted : All (λ found. IfSome found (λ i. i < c.len-members.result)) filled = subst (λ (n : ℕ). All (λ found. IfSome found (λ i. i < n)) filled) (sym many) below in
    subst (λ (os : List (Option ℕ)). All (λ found. IfSome found (λ i. i < c.len-members.result)) os) (sym c.deref-5.ensures.value) counted

pub polygons-requires-clause-outer : goal.polygons-requires-clause-outer
polygons-requires-clause-outer g c = λ n outer.
    (let edges = c.in_ok-live.live.edges.items in
    let between : c.in_ok-arena.arena ≡ edges = c.in_ok-arena.ensures ∙ c.in_ok-to_vec.ensures.items_if_clones_equal (λ x y e. e) ∙ c.deref.ensures.value in
    let many : c.len-members.result ≡ length c.args.c.now = search rules in
    let long : length c.deref-3.result.now ≡ length c.args.c.now = areas_long c.in_ok-labels.labels c.deref-3.result.now c.len-members.result (c.deref-3.ensures.value ∙ c.in_ok-areas.ensures) ∙ many in
    ap (λ (os : List (Option ℕ)). owner_in os n) c.deref-5.ensures.value ∙ outer_unfilled g.R.MergeRule.rule (g.R.MergeRule.state c.args.rule.now) c.args.c.now c.requires.in_range edges c.in_ok-live.live.odd.items c.in_ok-live.ensures
    c.in_ok-labels.labels c.in_ok-labels.ensures c.len.result (c.len.ensures.count ∙ ap (λ (es : List Seg). 2 * length es) between) c.in_ok-owners.owners.items c.in_ok-owners.ensures.owners
    c.args.gap c.in_ok-gaps.gaps.items c.in_ok-gaps.ensures.exact c.args.gaps_too c.in_ok-gaps.ensures.ascending c.in_ok-filled.filled.items
    (fills_are c.args.gaps_too g.R.MergeRule.rule (g.R.MergeRule.state c.args.rule.now) (g.R.MergeRule.state c.owners_of_sides.new.rule) c.in_ok-labels.labels c.in_ok-owners.ensures.state c.in_ok-owners.owners.items c.in_ok-filled.filled.items
    c.deref-4.result.now c.in_ok-gaps.gaps.items (length c.deref-3.result.now) (length c.args.c.now) c.deref-4.ensures.value long c.in_ok-filled.ensures.filled)
    n (subst (λ (es : List Seg). IsOuterRegion es n) between outer))

-- what is built, as it is said of the list of owners and of the members
built_is : (arena edges : List Seg) (slice owners : List (Option ℕ)) (n members : ℕ) (out : Members) → arena ≡ edges → slice ≡ owners → n ≡ members
    → ((o : Overlay) → o.edges ≡ arena → AreRegions o.edges o.numbers → IsBuilt o (owner_in slice) n out) → (o : Overlay) → o.edges ≡ edges → AreRegions o.edges o.numbers → IsBuilt o (owner_in owners) members out
built_is arena edges slice owners n members out between same many built o is regions =
    subst (λ (k : ℕ). IsBuilt o (owner_in owners) k out) many (subst (λ (os : List (Option ℕ)). IsBuilt o (owner_in os) n out) same (built o (is ∙ sym between) regions))

-- the answer is the cleaned coverage
is_cleaned : goal.returns-clause-cleaned
is_cleaned g c =
    let edges = c.in_ok-live.live.edges.items in
    let between : c.in_ok-arena.arena ≡ edges = c.in_ok-arena.ensures ∙ c.in_ok-to_vec.ensures.items_if_clones_equal (λ x y e. e) ∙ c.deref.ensures.value in
    let many : c.len-members.result ≡ length c.args.c.now = search rules in
    let long : length c.deref-3.result.now ≡ length c.args.c.now = areas_long c.in_ok-labels.labels c.deref-3.result.now c.len-members.result (c.deref-3.ensures.value ∙ c.in_ok-areas.ensures) ∙ many in
    IfOk-weaker c.polygons.result _ _ (λ (out : Members) built. cleaned g.R.MergeRule.rule (g.R.MergeRule.state c.args.rule.now) c.args.c.now c.requires.in_range edges c.in_ok-live.live.odd.items c.in_ok-live.ensures
    c.in_ok-labels.labels c.in_ok-labels.ensures c.len.result (c.len.ensures.count ∙ ap (λ (es : List Seg). 2 * length es) between) c.in_ok-owners.owners.items c.in_ok-owners.ensures.owners
    c.args.gap c.in_ok-gaps.gaps.items c.in_ok-gaps.ensures.exact c.args.gaps_too c.in_ok-gaps.ensures.ascending c.in_ok-filled.filled.items
    (fills_are c.args.gaps_too g.R.MergeRule.rule (g.R.MergeRule.state c.args.rule.now) (g.R.MergeRule.state c.owners_of_sides.new.rule) c.in_ok-labels.labels c.in_ok-owners.ensures.state c.in_ok-owners.owners.items c.in_ok-filled.filled.items
    c.deref-4.result.now c.in_ok-gaps.gaps.items (length c.deref-3.result.now) (length c.args.c.now) c.deref-4.ensures.value long c.in_ok-filled.ensures.filled)
    out (built_is c.in_ok-arena.arena edges c.deref-5.result.now c.in_ok-filled.filled.items c.len-members.result (length c.args.c.now) out between c.deref-5.ensures.value many built)) c.polygons.ensures.polygons

pub returns-clause-cleaned : goal.returns-clause-cleaned
returns-clause-cleaned g c = is_cleaned g c

pub returns-clause-valid : goal.returns-clause-valid
returns-clause-valid g c =
    IfOk-weaker c.polygons.result _ _ (λ (out : Members) h. cleaned_by_valid c.args.gaps_too c.args.c.now c.requires.in_range g.R.MergeRule.rule (g.R.MergeRule.state c.args.rule.now) c.args.gap out h) (is_cleaned g c)

pub returns-clause-count : goal.returns-clause-count
returns-clause-count g c =
    let edges = c.in_ok-live.live.edges.items in
    let between : c.in_ok-arena.arena ≡ edges = c.in_ok-arena.ensures ∙ c.in_ok-to_vec.ensures.items_if_clones_equal (λ x y e. e) ∙ c.deref.ensures.value in
    let many : c.len-members.result ≡ length c.args.c.now = search rules in
    IfOk-weaker c.polygons.result _ _ (λ (out : Members) built. built_count g.R.MergeRule.rule (g.R.MergeRule.state c.args.rule.now) c.args.c.now c.requires.in_range edges c.in_ok-live.live.odd.items c.in_ok-live.ensures
    c.in_ok-labels.labels c.in_ok-labels.ensures c.len.result (c.len.ensures.count ∙ ap (λ (es : List Seg). 2 * length es) between) c.in_ok-owners.owners.items c.in_ok-owners.ensures.owners
    c.in_ok-filled.filled.items out (built_is c.in_ok-arena.arena edges c.deref-5.result.now c.in_ok-filled.filled.items c.len-members.result (length c.args.c.now) out between c.deref-5.ensures.value many built)) c.polygons.ensures.polygons

pub returns-in_err-filled-clause-no_memory : goal.returns-in_err-filled-clause-no_memory
returns-in_err-filled-clause-no_memory g c = if_err c.from_residual-in_err-filled.result _ (λ o is.
    (let edges = c.in_ok-live.live.edges.items in
    let between : c.in_ok-arena.arena ≡ edges = c.in_ok-arena.ensures ∙ c.in_ok-to_vec.ensures.items_if_clones_equal (λ x y e. e) ∙ c.deref.ensures.value in
    let many : c.len-members.result ≡ length c.args.c.now = search rules in
    let long : length c.deref-3.result.now ≡ length c.args.c.now = areas_long c.in_ok-labels.labels c.deref-3.result.now c.len-members.result (c.deref-3.ensures.value ∙ c.in_ok-areas.ensures) ∙ many in
    let labels = (snapped_labels c.args.c.now c.requires.in_range c.in_ok-live.live.edges.items c.in_ok-live.live.odd.items c.in_ok-live.ensures c.in_ok-labels.labels c.in_ok-labels.ensures o is) in
    has_some g.R.MergeRule.rule (g.R.MergeRule.state c.args.rule.now) c.args.c.now c.requires.in_range edges c.in_ok-live.live.odd.items c.in_ok-live.ensures
    c.in_ok-labels.labels c.in_ok-labels.ensures c.len.result (c.len.ensures.count ∙ ap (λ (es : List Seg). 2 * length es) between) c.in_ok-owners.owners.items c.in_ok-owners.ensures.owners
    c.args.gap c.in_ok-gaps.gaps.items c.in_ok-gaps.ensures.exact c.in_ok-gaps.ensures.ascending o is (g.R.MergeRule.state c.owners_of_sides.new.rule) (c.in_ok-owners.ensures.state o labels) c.args.gaps_too (g.R.MergeRule.state c.owners_with_gaps.new.rule)
    (subst (λ (ns : List ℕ). HasFilledFirst g.R.MergeRule.rule (g.R.MergeRule.state c.owners_of_sides.new.rule) o (owner_in c.in_ok-owners.owners.items) (asked_gaps c.args.gaps_too ns) (g.R.MergeRule.state c.owners_with_gaps.new.rule)) c.deref-4.ensures.value (c.in_err-filled.ensures.no_memory o labels (is.overlay.count ∙ sym long)))))

pub returns-clause-state : goal.returns-clause-state
returns-clause-state g c = if_ok c.polygons.result _ (λ o is.
    (let edges = c.in_ok-live.live.edges.items in
    let between : c.in_ok-arena.arena ≡ edges = c.in_ok-arena.ensures ∙ c.in_ok-to_vec.ensures.items_if_clones_equal (λ x y e. e) ∙ c.deref.ensures.value in
    let many : c.len-members.result ≡ length c.args.c.now = search rules in
    let long : length c.deref-3.result.now ≡ length c.args.c.now = areas_long c.in_ok-labels.labels c.deref-3.result.now c.len-members.result (c.deref-3.ensures.value ∙ c.in_ok-areas.ensures) ∙ many in
    let labels = (snapped_labels c.args.c.now c.requires.in_range c.in_ok-live.live.edges.items c.in_ok-live.live.odd.items c.in_ok-live.ensures c.in_ok-labels.labels c.in_ok-labels.ensures o is) in
    has_last g.R.MergeRule.rule (g.R.MergeRule.state c.args.rule.now) c.args.c.now c.requires.in_range edges c.in_ok-live.live.odd.items c.in_ok-live.ensures
    c.in_ok-labels.labels c.in_ok-labels.ensures c.len.result (c.len.ensures.count ∙ ap (λ (es : List Seg). 2 * length es) between) c.in_ok-owners.owners.items c.in_ok-owners.ensures.owners
    c.args.gap c.in_ok-gaps.gaps.items c.in_ok-gaps.ensures.exact c.in_ok-gaps.ensures.ascending o is (g.R.MergeRule.state c.owners_of_sides.new.rule) (c.in_ok-owners.ensures.state o labels) c.args.gaps_too (g.R.MergeRule.state c.owners_with_gaps.new.rule)
    (subst (λ (ns : List ℕ). g.R.MergeRule.state c.owners_with_gaps.new.rule ≡ state_after_gaps g.R.MergeRule.rule (g.R.MergeRule.state c.owners_of_sides.new.rule) o (owner_in c.in_ok-owners.owners.items) (asked_gaps c.args.gaps_too ns)) c.deref-4.ensures.value (c.in_ok-filled.ensures.state o labels (is.overlay.count ∙ sym long)))))

pub returns-clause-no_memory : goal.returns-clause-no_memory
returns-clause-no_memory g c = if_err c.polygons.result _ (λ o is.
    (let edges = c.in_ok-live.live.edges.items in
    let between : c.in_ok-arena.arena ≡ edges = c.in_ok-arena.ensures ∙ c.in_ok-to_vec.ensures.items_if_clones_equal (λ x y e. e) ∙ c.deref.ensures.value in
    let many : c.len-members.result ≡ length c.args.c.now = search rules in
    let long : length c.deref-3.result.now ≡ length c.args.c.now = areas_long c.in_ok-labels.labels c.deref-3.result.now c.len-members.result (c.deref-3.ensures.value ∙ c.in_ok-areas.ensures) ∙ many in
    let labels = (snapped_labels c.args.c.now c.requires.in_range c.in_ok-live.live.edges.items c.in_ok-live.live.odd.items c.in_ok-live.ensures c.in_ok-labels.labels c.in_ok-labels.ensures o is) in
    has_all g.R.MergeRule.rule (g.R.MergeRule.state c.args.rule.now) c.args.c.now c.requires.in_range edges c.in_ok-live.live.odd.items c.in_ok-live.ensures
    c.in_ok-labels.labels c.in_ok-labels.ensures c.len.result (c.len.ensures.count ∙ ap (λ (es : List Seg). 2 * length es) between) c.in_ok-owners.owners.items c.in_ok-owners.ensures.owners
    c.args.gap c.in_ok-gaps.gaps.items c.in_ok-gaps.ensures.exact c.in_ok-gaps.ensures.ascending o is (g.R.MergeRule.state c.owners_of_sides.new.rule) (c.in_ok-owners.ensures.state o labels) c.args.gaps_too (g.R.MergeRule.state c.owners_with_gaps.new.rule)
    (subst (λ (ns : List ℕ). g.R.MergeRule.state c.owners_with_gaps.new.rule ≡ state_after_gaps g.R.MergeRule.rule (g.R.MergeRule.state c.owners_of_sides.new.rule) o (owner_in c.in_ok-owners.owners.items) (asked_gaps c.args.gaps_too ns)) c.deref-4.ensures.value (c.in_ok-filled.ensures.state o labels (is.overlay.count ∙ sym long)))))
