-- Entries as they are made, and sorted.
use Rattle.std.proofs.Common.{◌≡◌, refl, sym, ◌∙◌, ap, subst, ℕ, ◌+◌, ◌<◌, ◌≤◌, Bool, true, false, List, [], ◌∷◌, ◌++◌, length, get_or, map, All, Contains, IsSorted, arith, inl, inr, Some, nat_cmp, is_lt, is_gt, Ordering, Less, Equal, Greater, true≢false, cond, nat_lt, length-append, ◌==◌, eqb, ◌&&◌, ◌||◌, not}
use Rattle.std.specs.Prelude.{AllPairs, slice_get}
use Rattle.std.specs.List.Sorted.{IsPermutation}
use Rattle.std.specs.Cmp.{IsTotalOrder}
use Rattle.std.specs.Ordering.{ordering_then}
use Rattle.std.proofs.lemmas.Bool.{cases_lt, lt-ltb}
use Rattle.std.proofs.lemmas.Bool.Decides.{Decides-eqb}
use Rattle.std.proofs.lemmas.Cmp.{nat_cmp_total, then_total}
use Rattle.std.proofs.lemmas.List.{length-map, get_or-map, get_or_append_left}
use Rattle.std.proofs.lemmas.List.Elements.{All-nil, All-push, Contains-get_or}
use Rattle.std.proofs.lemmas.List.Sorted.{ranks_by, sorted_far, Contains-permutation, All-permutation, IsPermutation-map}
use Rattle.std.specs.Cmp.{nat_eq_equiv}
use Rattle.std.proofs.lemmas.Map.Keys.{IsDistinct-IsPermutation}
use Rattle.std.proofs.lemmas.Map.Made.{AllPairs-from_IsDistinct, IsDistinct-from_AllPairs}
use Rattle.std.proofs.lemmas.Option.{slice_get-get_or}
use Rattle.std.proofs.Math.Seq.{get_or-append_seam}
use Rattle.cov_types.proofs.SegOrder.{seg_cmp_total, is_lt-seg_cmp, is_gt-seg_cmp, is_seg_before-irrefl, same_segs_from_neither}
use Rattle.box_tree.specs.Curve.{curve_of}
use Rattle.cov_types.specs.Coord.{is_before}
use Rattle.cov_types.specs.Seg.{seg_cmp, is_seg_before}
use Rattle.cov_types.specs.declared.seg.Seg.{Seg}
use Rattle.cov_types.proofs.Order.{same_from_neither}
use Rattle.cov_types.specs.declared.edge_use.EdgeUse.{EdgeUse}
use Rattle.cov_valid.specs.Entries.{curve_of_seg, IsEntry, ArePlaced, AreEntries, AreTogether, entry_cmp}
use Rattle.cov_valid.specs.declared.entry.Entry.{Entry}

-- ---- made in the order of the uses

pub placed_none : (uses : List EdgeUse) (entries : List Entry) → entries ≡ [] → ArePlaced uses 0 entries
placed_none uses entries e = record { count = ap length e; places = λ k d h. absurd (omega (arith, h)); listed = subst (λ (xs : List Entry). All (IsEntry uses) xs) (sym e) (All-nil (IsEntry uses)) }

-- the entry of the next use is put behind the others
pub placed_more : (uses : List EdgeUse) (i : ℕ) (entries more : List Entry) (u : EdgeUse) (e : Entry) → i < length uses → u ≡ get_or uses i u
    → e.place ≡ i → e.member ≡ u.member → e.seg ≡ u.seg → e.curve ≡ curve_of_seg u.seg → more ≡ entries ++ e ∷ [] → ArePlaced uses i entries → ArePlaced uses (i + 1) more
placed_more uses i entries more u e within at place member seg curve pushed placed =
    let entry : IsEntry uses e = record {
      at_place = ap (slice_get uses) place ∙ slice_get-get_or uses i u within ∙ ap (λ (v : EdgeUse). Some v) (sym at) ∙ (λ j. Some (record { member = sym member j; seg = sym seg j }));
      curve = curve ∙ ap curve_of_seg (sym seg);
    } in
    subst (ArePlaced uses (i + 1)) (sym pushed)
    (record {
      count = omega (arith, length-append entries (e ∷ []), placed.count);
      places = λ k d h. elim (cases_lt k i) [
        | inl earlier ↦ ap (λ (x : Entry). x.place) (get_or_append_left entries (e ∷ []) d k (omega (arith, earlier, placed.count))) ∙ placed.places k d earlier
        | inr later ↦
            let last : k ≡ length entries = omega (arith, later, h, placed.count) in
            let here : k ≡ i = omega (arith, later, h) in
            ap (λ n. (get_or (entries ++ e ∷ []) n d).place) last ∙ ap (λ (x : Entry). x.place) (get_or-append_seam entries e [] d) ∙ place ∙ sym here
      ];
      listed = All-push (IsEntry uses) entries e placed.listed entry;
    })

-- ---- sorted

placed_apart : (uses : List EdgeUse) (entries : List Entry) → ArePlaced uses (length uses) entries → AllPairs (λ (m n : ℕ). ¬ (m ≡ n)) (map (λ (e : Entry). e.place) entries)
placed_apart uses [] placed i j d lt within same = absurd (omega (arith, within))
placed_apart uses (e ∷ entries) placed i j d lt within same =
    let all = e ∷ entries in
    let place : Entry → ℕ = λ x. x.place in
    let long = length-map all place in
    let at : (k : ℕ) → k < length all → get_or (map place all) k d ≡ k =
    λ k h. get_or-map place all k e d h ∙ placed.places k e (omega (arith, h, placed.count)) in
    omega (arith, at i (omega (arith, lt, within, long)), at j (omega (arith, within, long)), lt, same)

places_apart : (entries : List Entry) → AllPairs (λ (m n : ℕ). ¬ (m ≡ n)) (map (λ (e : Entry). e.place) entries) → AllPairs (λ (d e : Entry). ¬ (d.place ≡ e.place)) entries
places_apart entries apart i j d lt within same =
    let place : Entry → ℕ = λ x. x.place in
    let long = length-map entries place in
    apart i j 0 lt (omega (arith, within, long))
    (get_or-map place entries i d 0 (omega (arith, lt, within)) ∙ same ∙ sym (get_or-map place entries j d 0 within))

placed_each : (uses : List EdgeUse) (entries : List Entry) (k : ℕ) → ArePlaced uses (length uses) entries → k < length uses → (e : Entry) × (Contains entries e × (e.place ≡ k))
placed_each uses [] k placed within = absurd (omega (arith, within, placed.count))
placed_each uses (e ∷ entries) k placed within =
    (get_or (e ∷ entries) k e, (Contains-get_or (e ∷ entries) k e (omega (arith, within, placed.count)), placed.places k e within))

pub sorted_entries : (uses : List EdgeUse) (made sorted : List Entry) → IsPermutation made sorted → ArePlaced uses (length uses) made → AreEntries uses sorted
sorted_entries uses made sorted moved placed =
    let place : Entry → ℕ = λ e. e.place in
    record {
      listed = All-permutation (IsEntry uses) made sorted moved placed.listed;
      each = λ k within. (let (e, (listed, at)) = placed_each uses made k placed within in (e, (Contains-permutation made sorted e moved listed, at)));
      once = places_apart sorted
          (AllPairs-from_IsDistinct Decides-eqb (map place sorted)
          (IsDistinct-IsPermutation eqb nat_eq_equiv.symm (map place made) (map place sorted) (IsPermutation-map place made sorted moved) (IsDistinct-from_AllPairs Decides-eqb (map place made) (placed_apart uses made placed))));
    }

-- ---- the order

by_key : {X K : Type 0} {R : K → K → Ordering} (key : X → K) → IsTotalOrder R → IsTotalOrder (λ x y. R (key x) (key y))
by_key key o = record {
  antisymm = λ x y. o.antisymm (key x) (key y);
  trans = λ x y z. o.trans (key x) (key y) (key z);
  congr = λ x y z. o.congr (key x) (key y) (key z);
}

entry_cmp_total : IsTotalOrder entry_cmp
entry_cmp_total =
    then_total (by_key (λ (e : Entry). e.curve) nat_cmp_total)
    (then_total (by_key (λ (e : Entry). e.seg) seg_cmp_total) (then_total (by_key (λ (e : Entry). e.member) nat_cmp_total) (by_key (λ (e : Entry). e.place) nat_cmp_total)))

not_greater : (t u : Bool) → u ≡ true → is_gt (cond t Less (cond u Equal Greater)) ≡ false
not_greater true u h = refl
not_greater false true h = refl
not_greater false false h = absurd (true≢false (sym h))

is_gt-nat_cmp : (m n : ℕ) → (m == n) ≡ true → is_gt (nat_cmp m n) ≡ false
is_gt-nat_cmp m n h = not_greater (nat_lt m n) (m == n) h

eqb_same : (m n : ℕ) → m ≡ n → (m == n) ≡ true
eqb_same m n h = (Decides-eqb m n).1 h

-- what is not before by two orders in turn
not_before_then : (o p : Ordering) → is_lt (ordering_then o p) ≡ false → is_lt o ≡ false
not_before_then Less p h = h
not_before_then Equal p h = refl
not_before_then Greater p h = refl

then_not_before : (o p : Ordering) → is_lt (ordering_then o p) ≡ false → is_gt o ≡ false → is_lt p ≡ false
then_not_before Less p h k = absurd (true≢false h)
then_not_before Equal p h k = h
then_not_before Greater p h k = absurd (true≢false k)

numbers_not_before : (m n : ℕ) → is_lt (nat_cmp m n) ≡ false → n ≤ m
numbers_not_before m n h =
    elim (cases_lt m n) [
      | inl before ↦ absurd (true≢false (sym (ap (λ b. is_lt (cond b Less (cond (m == n) Equal Greater))) (lt-ltb m n before)) ∙ h))
      | inr rest ↦ rest
    ]

numbers_not_after : (m n : ℕ) → m ≡ n → is_gt (nat_cmp m n) ≡ false
numbers_not_after m n h = is_gt-nat_cmp m n (eqb_same m n h)

-- one entry is not before another: its segment's place along the curve, its segment and its member aren't
curve_not_before : (a b : Entry) → is_lt (entry_cmp a b) ≡ false → b.curve ≤ a.curve
curve_not_before a b h = numbers_not_before a.curve b.curve (not_before_then (nat_cmp a.curve b.curve) _ h)

seg_not_before : (a b : Entry) → is_lt (entry_cmp a b) ≡ false → a.curve ≡ b.curve → is_seg_before a.seg b.seg ≡ false
seg_not_before a b h same =
    sym (is_lt-seg_cmp a.seg b.seg)
    ∙ not_before_then (seg_cmp a.seg b.seg) _ (then_not_before (nat_cmp a.curve b.curve) _ h (numbers_not_after a.curve b.curve same))

member_not_before : (a b : Entry) → is_lt (entry_cmp a b) ≡ false → a.curve ≡ b.curve → a.seg ≡ b.seg → b.member ≤ a.member
member_not_before a b h same_curve same_seg =
    let rest = then_not_before (nat_cmp a.curve b.curve) _ h (numbers_not_after a.curve b.curve same_curve) in
    let segs : is_gt (seg_cmp a.seg b.seg) ≡ false = is_gt-seg_cmp a.seg b.seg ∙ ap (λ s. is_seg_before b.seg s) same_seg ∙ is_seg_before-irrefl b.seg in
    numbers_not_before a.member b.member (not_before_then (nat_cmp a.member b.member) _ (then_not_before (seg_cmp a.seg b.seg) _ rest segs))

-- equal segments are at one place along the curve
same_curve : (uses : List EdgeUse) (a b : Entry) → IsEntry uses a → IsEntry uses b → a.seg ≡ b.seg → a.curve ≡ b.curve
same_curve uses a b h k same = h.curve ∙ ap curve_of_seg same ∙ sym k.curve

-- a segment that is not before another does not begin before it
vertex_not_before : (s t : Seg) → is_seg_before s t ≡ false → is_before s.lo t.lo ≡ false
vertex_not_before s t h = first_false (is_before s.lo t.lo) (not (is_before t.lo s.lo) && is_before s.hi t.hi) h
  where
    first_false : (a b : Bool) → (a || b) ≡ false → a ≡ false
    first_false true b h = absurd (true≢false h)
    first_false false b h = refl

-- an entry between two of one segment is of that segment
middle_seg : (uses : List EdgeUse) (a b c : Entry) → IsEntry uses a → IsEntry uses c → is_lt (entry_cmp b a) ≡ false → is_lt (entry_cmp c b) ≡ false → a.seg ≡ c.seg → b.seg ≡ a.seg
middle_seg uses a b c h k after before same =
    let ends = same_curve uses a c h k same in
    let low = curve_not_before b a after in
    let high = curve_not_before c b before in
    let first : b.curve ≡ a.curve = omega arith in
    let second : c.curve ≡ b.curve = omega arith in
    same_segs_from_neither b.seg a.seg (seg_not_before b a after first) (ap (λ s. is_seg_before s b.seg) same ∙ seg_not_before c b before second)

-- of segments that begin at one vertex, so does each that none of the two is before
middle_vertex : (uses : List EdgeUse) (a b c : Entry) → IsEntry uses a → IsEntry uses c → is_lt (entry_cmp b a) ≡ false → is_lt (entry_cmp c b) ≡ false → a.seg.lo ≡ c.seg.lo → b.seg.lo ≡ a.seg.lo
middle_vertex uses a b c h k after before same =
    let ends : a.curve ≡ c.curve = h.curve ∙ ap curve_of same ∙ sym k.curve in
    let low = curve_not_before b a after in
    let high = curve_not_before c b before in
    let first : b.curve ≡ a.curve = omega arith in
    let second : c.curve ≡ b.curve = omega arith in
    same_from_neither b.seg.lo a.seg.lo (vertex_not_before b.seg a.seg (seg_not_before b a after first))
    (ap (λ v. is_before v b.seg.lo) same ∙ vertex_not_before c.seg b.seg (seg_not_before c b before second))

pub sorted_together : (uses : List EdgeUse) (made sorted : List Entry) → IsPermutation made sorted → IsSorted entry_cmp sorted → ArePlaced uses (length uses) made → AreTogether sorted
sorted_together uses made sorted moved ordered placed =
    let listed = All-permutation (IsEntry uses) made sorted moved placed.listed in
    let far = sorted_far (λ a b. is_lt (entry_cmp a b)) (ranks_by entry_cmp_total (λ (e : Entry). e)) sorted ordered in
    record {
      between = λ i j k d low high within same.
          middle_seg uses (get_or sorted i d) (get_or sorted j d) (get_or sorted k d) (listed i d (omega (arith, low, high, within))) (listed k d within)
          (far i j d low (omega (arith, high, within))) (far j k d high within) same;
      ascending = λ i j d low within same.
          member_not_before (get_or sorted j d) (get_or sorted i d) (far i j d low within)
          (same_curve uses (get_or sorted j d) (get_or sorted i d) (listed j d within) (listed i d (omega (arith, low, within))) (sym same)) (sym same);
      from_vertex = λ i j k d low high within same.
          middle_vertex uses (get_or sorted i d) (get_or sorted j d) (get_or sorted k d) (listed i d (omega (arith, low, high, within))) (listed k d within)
          (far i j d low (omega (arith, high, within))) (far j k d high within) same;
    }
