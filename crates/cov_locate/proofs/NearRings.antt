-- The rings near a point, one after the other.
use Rattle.std.proofs.Common.{◌≡◌, refl, sym, ◌∙◌, ap, subst, ℕ, zero, suc, ◌+◌, ◌<◌, ◌≤◌, false, List, [], ◌∷◌, ◌++◌, length, get_or, drop, Contains, IsPermutation, All, arith, inl, inr, ◌⊎◌, append_assoc, append-nil}
use Rattle.std.specs.List.Sorted.{IsNonDecreasing}
use Rattle.std.proofs.lemmas.Bool.{cases_lt}
use Rattle.std.proofs.lemmas.List.{get_or_default}
use Rattle.std.proofs.lemmas.List.Elements.{All-push, Contains-append_left, Contains-push}
use Rattle.std.proofs.lemmas.List.Sorted.{Contains-permutation}
use Rattle.box_tree.specs.Rect.{IsInside, box_of_point}
use Rattle.box_tree.specs.declared.rect.Rect.{Rect}
use Rattle.cov_locate.specs.Rings.{AreNumbersBelow}
use Rattle.cov_types.specs.Range.{IsInRange}
use Rattle.cov_locate.specs.Near.{AreFar, AreNear, IsNearRing, with_near}
use Rattle.cov_locate.specs.declared.block.Placed.{Placed}
use Rattle.cov_locate.specs.declared.block.Placed.TheVariants.{Beside, Higher, Near}
use Rattle.cov_locate.proofs.Placing.{IsFar}
use Rattle.cov_locate.specs.Parts.{IsRunTold}
use Rattle.cov_locate.specs.declared.near.NearRing.{NearRing}
use Rattle.cov_types.specs.declared.coord.Coord.{Coord}
use Rattle.cov_types.specs.declared.edge_use.EdgeUse.{EdgeUse}
use Rattle.cov_types.specs.declared.ring_run.RingRun.{RingRun}

module _ (uses : List EdgeUse) (runs : List RingRun) (p : Coord) where
  -- no number is among those from one to before another
  pub far_between : (numbers : List ℕ) (from to : ℕ) → ((n : ℕ) (d : RingRun) → n < length runs → ¬ Contains numbers n → IsRunTold uses (get_or runs n d) p false) → to ≤ length runs
      → ((k e : ℕ) → k < length numbers → (get_or numbers k e < from) ⊎ (to ≤ get_or numbers k e)) → AreFar uses runs p from to
  far_between numbers from to others within apart n d low high = others n d (omega (arith, high, within)) absent
    where
      absent : ¬ Contains numbers n
      absent (k, inside, at) = elim (apart k n inside) [ inl below ↦ omega (arith, below, at, low) | inr above ↦ omega (arith, above, at, high) ]

  -- the ring with this number and those behind it
  near_at : (passed i : ℕ) (d : NearRing) (near : List NearRing) → i < length near → AreNear uses runs p passed (drop i near)
      → IsNearRing uses runs p (get_or near i d) × AreFar uses runs p passed (get_or near i d).number × AreNear uses runs p ((get_or near i d).number + 1) (drop (suc i) near)
  near_at passed i d [] within are = absurd (omega (arith, within))
  near_at passed zero d (ring ∷ near) within are = are
  near_at passed (suc i) d (ring ∷ near) within are = near_at passed i d near (omega (arith, within)) are

  pub next_near : (passed i : ℕ) (d : NearRing) (near : List NearRing) → i < length near → AreNear uses runs p passed (drop i near)
      → IsNearRing uses runs p (get_or near i d) × AreFar uses runs p passed (get_or near i d).number × AreNear uses runs p ((get_or near i d).number + 1) (drop (i + 1) near)
  next_near passed i d near within are =
      let at = near_at passed i d near within are in
      let more : suc i ≡ i + 1 = omega arith in
      (at.0, at.1, subst (λ (n : ℕ). AreNear uses runs p ((get_or near i d).number + 1) (drop n near)) more at.2)

  -- no ring is left
  pub none_near : (passed i : ℕ) (near : List NearRing) → length near ≤ i → AreNear uses runs p passed (drop i near) → AreFar uses runs p passed (length runs)
  none_near passed zero [] past are = are
  none_near passed (suc i) [] past are = are
  none_near passed zero (ring ∷ near) past are = absurd (omega (arith, past))
  none_near passed (suc i) (ring ∷ near) past are = none_near passed i near (omega (arith, past)) are

  -- from a greater number on
  pub near_up : (low high : ℕ) (near : List NearRing) → low ≤ high → AreNear uses runs p low near → AreNear uses runs p high near
  near_up low high [] le are = λ n d up below. are n d (omega (arith, le, up)) below
  near_up low high (ring ∷ near) le are = (are.0, λ n d up below. are.1 n d (omega (arith, le, up)) below, are.2)

  -- one ring more; what is still needed begins behind its number
  pub near_more : (from : ℕ) (near more : List NearRing) (ring : NearRing) → more ≡ near ++ ring ∷ [] → IsNearRing uses runs p ring → AreFar uses runs p from ring.number
      → ((later : List NearRing) → AreNear uses runs p from later → AreNear uses runs p 0 (near ++ later)) → (later : List NearRing) → AreNear uses runs p (ring.number + 1) later → AreNear uses runs p 0 (more ++ later)
  near_more from near more ring pushed is far so_far later h =
      subst (AreNear uses runs p 0) (sym (append_assoc near (ring ∷ []) later) ∙ ap (λ l. l ++ later) (sym pushed)) (so_far (ring ∷ later) (is, far, h))

  pub near_all : (from : ℕ) (near : List NearRing) → AreFar uses runs p from (length runs) → ((later : List NearRing) → AreNear uses runs p from later → AreNear uses runs p 0 (near ++ later)) → AreNear uses runs p 0 near
  near_all from near far so_far = subst (AreNear uses runs p 0) (append-nil near) (so_far [] far)

-- ---- the rings with some numbers, that ascend

-- the rings with the first so many numbers are listed, about all points of a box
pub record IsListedTo (uses : List EdgeUse) (runs : List RingRun) (round : Rect) (numbers : List ℕ) (i : ℕ) (near : List NearRing) : Type 0 where
  pub from : ℕ
  pub below : (k e : ℕ) → k < i → get_or numbers k e < from
  pub listed : (p : Coord) → IsInRange p → IsInside (box_of_point p) round → (later : List NearRing) → AreNear uses runs p from later → AreNear uses runs p 0 (near ++ later)

module _ (uses : List EdgeUse) (runs : List RingRun) (round : Rect) (numbers : List ℕ) where
  pub listed_none : (near : List NearRing) → near ≡ [] → IsListedTo uses runs round numbers 0 near
  listed_none near is = record {
    from = 0;
    below = λ k e h. absurd (omega (arith, h));
    listed = λ p hp inside later h. subst (λ (rs : List NearRing). AreNear uses runs p 0 (rs ++ later)) (sym is) h;
  }

  -- the runs whose numbers are not among them are far
  abbrev pub AreOthersFar : Type 0
  AreOthersFar = (p : Coord) → IsInRange p → IsInside (box_of_point p) round → (n : ℕ) (d : RingRun) → n < length runs → ¬ Contains numbers n → IsRunTold uses (get_or runs n d) p false

  module _ (others : AreOthersFar) where
    pub listed_more : (i : ℕ) (near more : List NearRing) (ring : NearRing) → i < length numbers → IsNonDecreasing numbers → ring.number ≡ get_or numbers i ring.number → ((p : Coord) → IsInside (box_of_point p) round → IsNearRing uses runs p ring)
        → more ≡ near ++ ring ∷ [] → ring.number < length runs → IsListedTo uses runs round numbers i near → IsListedTo uses runs round numbers (i + 1) more
    listed_more i near more ring within ascending at is pushed inside_runs so_far = record {
      from = ring.number + 1;
      below = λ k e h. (let up = ascending k i e (omega (arith, h)) within in let here = get_or_default numbers i e ring.number within in omega (arith, up, here, at));
      listed = λ p hp inside later h.
          near_more uses runs p so_far.from near more ring pushed (is p inside)
          (far_between uses runs p numbers so_far.from ring.number (others p hp inside) (omega (arith, inside_runs))
          (λ k e within_k. elim (cases_lt k i) [
            | inl early ↦ inl (so_far.below k e early)
            | inr late ↦ (let up = ascending i k e late within_k in let here = get_or_default numbers i e ring.number within in inr (omega (arith, up, here, at)))
          ]))
          (so_far.listed p hp inside) later h;
    }

    pub listed_all : (i : ℕ) (near : List NearRing) → length numbers ≤ i → IsListedTo uses runs round numbers i near → (p : Coord) → IsInRange p → IsInside (box_of_point p) round → AreNear uses runs p 0 near
    listed_all i near past so_far p hp inside =
        near_all uses runs p so_far.from near
        (far_between uses runs p numbers so_far.from (length runs) (others p hp inside) (omega arith) (λ k e within_k. inl (so_far.below k e (omega (arith, within_k, past)))))
        (so_far.listed p hp inside)

-- ---- the search for their numbers

-- the runs with the numbers that were passed over are far, but for those that were found
abbrev pub ArePassedFar : List EdgeUse → List RingRun → Rect → List ℕ → ℕ → List ℕ → Type 0
ArePassedFar uses runs round numbers from found = (p : Coord) → IsInRange p → IsInside (box_of_point p) round → (k n : ℕ) (d : RingRun) → k < from → ¬ Contains found (get_or numbers k n)
    → IsRunTold uses (get_or runs (get_or numbers k n) d) p false

module _ (uses : List EdgeUse) (runs : List RingRun) (round : Rect) (numbers : List ℕ) where
  pub found_more : (from : ℕ) (found more : List ℕ) (number : ℕ) → from < length numbers → number ≡ get_or numbers from number → more ≡ found ++ number ∷ [] → ArePassedFar uses runs round numbers from found
      → ArePassedFar uses runs round numbers (from + 1) more
  found_more from found more number within at pushed so_far p hp inside k n d h absent =
      elim (cases_lt k from) [
        | inl early ↦ so_far p hp inside k n d early (λ has. absent (subst (λ (xs : List ℕ). Contains xs (get_or numbers k n)) (sym pushed) (Contains-append_left found (number ∷ []) (get_or numbers k n) has)))
        | inr late ↦
            let here : from ≡ k = omega (arith, h, late) in
            let same : number ≡ get_or numbers k n = at ∙ get_or_default numbers from number n within ∙ ap (λ (j : ℕ). get_or numbers j n) here in
            absurd (absent (subst (λ (xs : List ℕ). Contains xs (get_or numbers k n)) (sym pushed) (subst (λ (m : ℕ). Contains (found ++ number ∷ []) m) same (Contains-push found number))))
      ]

  pub passed_more : (from to : ℕ) (found : List ℕ) → ((p : Coord) → IsInRange p → IsInside (box_of_point p) round → (k n : ℕ) (d : RingRun) → from ≤ k → k < to → IsRunTold uses (get_or runs (get_or numbers k n) d) p false)
      → ArePassedFar uses runs round numbers from found → ArePassedFar uses runs round numbers to found
  passed_more from to found far so_far p hp inside k n d h absent =
      elim (cases_lt k from) [ inl early ↦ so_far p hp inside k n d early absent | inr late ↦ far p hp inside k n d late h ]

  -- the numbers of one block more
  pub search_more : (from to : ℕ) (found more : List ℕ) (number : ℕ) (placed : Placed) → from < length numbers → number ≡ get_or numbers from number → more ≡ with_near found placed number → (placed ≡ Near → to ≡ from + 1)
      → (IsFar placed → (p : Coord) → IsInRange p → IsInside (box_of_point p) round → (k n : ℕ) (d : RingRun) → from ≤ k → k < to → IsRunTold uses (get_or runs (get_or numbers k n) d) p false)
      → ArePassedFar uses runs round numbers from found → ArePassedFar uses runs round numbers to more
  search_more from to found more number Beside within at is one far so_far = subst (ArePassedFar uses runs round numbers to) (sym is) (passed_more from to found (far tt) so_far)
  search_more from to found more number Higher within at is one far so_far = subst (ArePassedFar uses runs round numbers to) (sym is) (passed_more from to found (far tt) so_far)
  search_more from to found more number Near within at is one far so_far = subst (λ (m : ℕ). ArePassedFar uses runs round numbers m more) (sym (one refl)) (found_more from found more number within at is so_far)

  pub passed_all : (from : ℕ) (found sorted : List ℕ) → AreNumbersBelow (length runs) numbers → length numbers ≤ from → IsPermutation found sorted → ArePassedFar uses runs round numbers from found
      → (p : Coord) → IsInRange p → IsInside (box_of_point p) round → (n : ℕ) (d : RingRun) → n < length runs → ¬ Contains sorted n → IsRunTold uses (get_or runs n d) p false
  passed_all from found sorted all past moved so_far p hp inside n d within absent =
      let (k, inside_k, at) = all.each n within in
      subst (λ (m : ℕ). IsRunTold uses (get_or runs m d) p false) at
      (so_far p hp inside k n d (omega (arith, inside_k, past)) (λ has. absent (subst (λ (m : ℕ). Contains sorted m) at (Contains-permutation found sorted (get_or numbers k n) moved has))))

-- all numbers stay below the count
pub within_near : (count : ℕ) (found more : List ℕ) (number : ℕ) (placed : Placed) → more ≡ with_near found placed number → number < count → All (λ n. n < count) found → All (λ n. n < count) more
within_near count found more number Beside is lt all = subst (All (λ n. n < count)) (sym is) all
within_near count found more number Higher is lt all = subst (All (λ n. n < count)) (sym is) all
within_near count found more number Near is lt all = subst (All (λ n. n < count)) (sym is) (All-push (λ (n : ℕ). n < count) found number all lt)
