-- The loops that mark edges and count the marked ones.
use mathlib.Core.List.{[], ◌∷◌}
use Rattle.std.proofs.Common.{◌≡◌, inl, add-zero, inr, refl, sym, ◌∙◌, ap, subst, ℕ, ◌+◌, ◌<◌, ◌≤◌, ◌==◌, ◌||◌, Bool, true, false, cond, List, ◌++◌, get_or, length, take, Some, slice_get, arith, get_or-set_same, get_or-set_other}
use Rattle.std.specs.Prelude.{count_by, slice_set}
use Rattle.std.specs.List.{list_any}
use Rattle.std.proofs.lemmas.Bool.{cases_eq, false_from_ne_true}
use Rattle.std.proofs.lemmas.List.Folds.{list_any-append}
use Rattle.std.proofs.lemmas.Bool.Decides.{Decides-eqb}
use Rattle.std.proofs.lemmas.List.{take_more, take-take, length-take-le, get_or_default, length-append, get_or_append_left}
use Rattle.std.proofs.lemmas.List.Sums.{sum_by-append, sum_by-cons}
use Rattle.std.proofs.lemmas.Option.{slice_get-get_or, get_or_from_slice_get}
use mir.Val.{bool_byte}
use Rattle.std.proofs.Math.ListN.{length-set}
use Rattle.std.proofs.Math.Seq.{get_or-append_seam}
use Rattle.cov_types.specs.declared.seg.Seg.{Seg}
use Rattle.arrangement.specs.declared.odd_use.OddUse.{OddUse}
use Rattle.snap_noder.specs.Places.{HavePlaces}
use Rattle.snap_noder.specs.Marked.{AreUseMarks, marked_before, ArePrefixCounts}

-- ---- marks

-- the mark of a place is changed where the new pair has it, and only there
changed : (before : Bool) (k : ℕ) (marks : List Bool) (at : ℕ) → at < length marks → k < length marks → slice_get marks k ≡ Some before → slice_get (slice_set marks at true) k ≡ Some (before || (at == k))
changed before k marks at inside within was =
    elim (cases_eq at k) [
      | inl same ↦ slice_get-get_or (slice_set marks at true) k before (omega (arith, length-set marks at true)) ∙ ap Some (here same ∙ sym (or_true before (at == k) ((Decides-eqb at k).1 same)))
      | inr other ↦ slice_get-get_or (slice_set marks at true) k before (omega (arith, length-set marks at true)) ∙ ap Some (there other ∙ sym (or_false before (at == k) (not_equal at k other)))
    ]
  where
    here : at ≡ k → get_or (slice_set marks at true) k before ≡ true
    here same = ap (λ j. get_or (slice_set marks at true) j before) (sym same) ∙ get_or-set_same marks at true before inside

    there : ¬ (at ≡ k) → get_or (slice_set marks at true) k before ≡ before
    there other = get_or-set_other marks at k true before (λ e. other (sym e)) ∙ get_or_from_slice_get marks k before before was

    or_true : (b t : Bool) → t ≡ true → (b || t) ≡ true
    or_true true t h = refl
    or_true false t h = h

    or_false : (b t : Bool) → t ≡ false → (b || t) ≡ b
    or_false true t h = refl
    or_false false t h = h

    not_equal : (i j : ℕ) → ¬ (i ≡ j) → (i == j) ≡ false
    not_equal i j n = false_from_ne_true (i == j) (λ t. n ((Decides-eqb i j).0 t))

-- o is the pair at i
pub marks_more : (edges : List Seg) (odd : List OddUse) (before after : List Bool) (i : ℕ) (o : OddUse) → i < length odd → o ≡ get_or odd i o → o.edge < length edges → AreUseMarks edges (take i odd) before → after ≡ slice_set before o.edge true
    → AreUseMarks edges (take (i + 1) odd) after
marks_more edges odd before after i o within is inside so_far set =
    subst (AreUseMarks edges (take (i + 1) odd)) (sym set)
    (subst (λ (os : List OddUse). AreUseMarks edges os (slice_set before o.edge true)) (ap (λ (p : OddUse). take i odd ++ p ∷ []) is ∙ sym (take_more odd i o within)) (record {
      long = length-set before o.edge true ∙ so_far.long;
      each = λ k below.
          changed (list_any (λ p. p.edge == k) (take i odd)) k before o.edge (omega (arith, so_far.long)) (omega (arith, so_far.long)) (so_far.each k below)
          ∙ ap Some (any_push (λ (p : OddUse). p.edge == k) (take i odd) o);
    }))
  where
    or_none : (s t : Bool) → (s || t) ≡ (s || (t || false))
    or_none true t = refl
    or_none false true = refl
    or_none false false = refl

    any_push : (p : OddUse → Bool) (xs : List OddUse) (x : OddUse) → (list_any p xs || p x) ≡ list_any p (xs ++ x ∷ [])
    any_push p xs x = or_none (list_any p xs) (p x) ∙ sym (list_any-append p xs (x ∷ []))

-- the pair at i, as the loop reads it through a slice
pub marks_read : (edges : List Seg) (odd shown : List OddUse) (marks : List Bool) (i : ℕ) (d : OddUse) → shown ≡ odd → i < length shown → HavePlaces edges odd → AreUseMarks edges (take i odd) marks
    → AreUseMarks edges (take (i + 1) odd) (slice_set marks (get_or shown i d).edge true)
marks_read edges odd shown marks i d same within places so_far =
    let inside : i < length odd = omega (arith, ap length same) in
    let read : get_or shown i d ≡ get_or odd i d = ap (λ (ps : List OddUse). get_or ps i d) same in
    subst (λ (o : OddUse). AreUseMarks edges (take (i + 1) odd) (slice_set marks o.edge true)) (sym read)
    (marks_more edges odd marks (slice_set marks (get_or odd i d).edge true) i (get_or odd i d) inside (get_or_default odd i d (get_or odd i d) inside) (places i d inside) so_far refl)

-- ---- counts

-- m is the mark at i
module _ (marks : List Bool) (i : ℕ) (m : Bool) (within : i < length marks) (is : m ≡ get_or marks i m) where
  longer : take i marks ++ m ∷ [] ≡ take (i + 1) marks
  longer = ap (λ (t : Bool). take i marks ++ t ∷ []) is ∙ sym (take_more marks i m within)

  pub counted_more : marked_before marks i + cond m 1 0 ≡ marked_before marks (i + 1)
  counted_more =
      ap (λ n. marked_before marks i + n) (sym (sum_by-cons (λ (t : Bool). cond t 1 0) m [] ∙ add-zero (cond m 1 0)))
      ∙ sym (sum_by-append (λ (t : Bool). cond t 1 0) (take i marks) (m ∷ []))
      ∙ ap (count_by (λ t. t)) longer

  -- the marks before one of the first i are those of the first i marks
  earlier : (k : ℕ) → k ≤ i → marked_before (take (i + 1) marks) k ≡ marked_before marks k
  earlier k below = ap (count_by (λ t. t)) (take-take k (i + 1) marks (omega arith))

  pub counts_more : (before after : List ℕ) → ArePrefixCounts (take i marks) before → after ≡ before ++ marked_before marks i ∷ [] → ArePrefixCounts (take (i + 1) marks) after
  counts_more before after so_far pushed =
      let short = length-take-le i marks (omega arith) in
      let long = length-take-le (i + 1) marks (omega arith) in
      let counts = length-append before (marked_before marks i ∷ []) in
      subst (ArePrefixCounts (take (i + 1) marks)) (sym pushed) (record {
        long = omega (arith, so_far.long);
        each = λ k below. elim (cases_eq k i) [
          | inl last ↦ slice_get-get_or (before ++ marked_before marks i ∷ []) k 0 (omega (arith, so_far.long))
              ∙ ap Some (ap (λ n. get_or (before ++ marked_before marks i ∷ []) n 0) (omega (arith, so_far.long)) ∙ get_or-append_seam before (marked_before marks i) [] 0 ∙ ap (marked_before marks) (sym last) ∙ sym (earlier k (omega arith)))
          | inr other ↦ slice_get-get_or (before ++ marked_before marks i ∷ []) k 0 (omega (arith, so_far.long))
              ∙ ap Some (get_or_append_left before (marked_before marks i ∷ []) 0 k (omega (arith, so_far.long)) ∙ get_or_from_slice_get before k (marked_before (take i marks) k) 0 (so_far.each k (omega arith))
              ∙ ap (count_by (λ t. t)) (take-take k i marks (omega arith)) ∙ sym (earlier k (omega arith)))
        ];
      })

-- a mark as the number that the code adds
byte_of : (t : Bool) → bool_byte t ≡ cond t 1 0
byte_of true = refl
byte_of false = refl

pub counted_read : (marks : List Bool) (i : ℕ) (d : Bool) (so_far byte : ℕ) → i < length marks → so_far ≡ marked_before marks i → byte ≡ bool_byte (get_or marks i d) → so_far + byte ≡ marked_before marks (i + 1)
counted_read marks i d so_far byte within counted e =
    (λ j. counted j + (e ∙ byte_of (get_or marks i d)) j) ∙ counted_more marks i (get_or marks i d) within (get_or_default marks i d (get_or marks i d) within)
