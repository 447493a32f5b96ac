-- The loop over uses in the order of their segments that numbers the edges.
use mathlib.Core.List.{[], ◌∷◌}
use Rattle.std.proofs.Common.{◌≡◌, ◌⊎◌, inl, inr, refl, sym, ◌∙◌, ap, subst, ℕ, ◌+◌, ◌-◌, ◌<◌, ◌≤◌, ◌↔◌, false, List, ◌++◌, length, get_or, take, IsTrue, Some, slice_get, arith}
use Rattle.std.specs.Prelude.{Contains}
use Rattle.std.specs.List.{AllZip}
use Rattle.std.proofs.lemmas.List.{take_more, take_all, length-take, get_or-take, get_or_default, get_or_append_left, length-append, map-append}
use Rattle.std.proofs.lemmas.List.Elements.{Contains-append_left, Contains-push, Contains-push_cases}
use Rattle.std.proofs.lemmas.List.Quantifiers.{all_pairs_push}
use Rattle.std.proofs.lemmas.List.Elements.{Contains-get_or}
use Rattle.std.proofs.lemmas.Option.{slice_get_within, get_or_from_slice_get, slice_get-get_or}
use Rattle.cov_types.specs.Seg.{is_seg_before}
use Rattle.cov_types.specs.declared.edge_use.EdgeUse.{EdgeUse}
use Rattle.cov_types.specs.declared.seg.Seg.{Seg}
use Rattle.cov_types.proofs.SegOrder.{same_segs_from_neither}
use Rattle.arrangement.specs.declared.odd_use.OddUse.{OddUse}
use Rattle.arrangement.specs.Noding.{segments}
use Rattle.snap_noder.specs.Order.{AreBySegment}
use Rattle.snap_noder.specs.Places.{HasEdgePlace, HaveEdgeNumbers, EndsWith}
use Rattle.snap_noder.proofs.Lasts.{last_at, all_before}
use Rattle.snap_noder.proofs.ParityLemmas.{contains_mapped}
use Rattle.snap_noder.proofs.Zip.{zip_more}

pub numbered_start : (edges : List Seg) (pairs : List OddUse) → edges ≡ [] → pairs ≡ [] → HaveEdgeNumbers [] edges pairs
numbered_start edges pairs none no_pairs =
    subst (λ (es : List Seg). HaveEdgeNumbers [] es pairs) (sym none) (subst (λ (ps : List OddUse). HaveEdgeNumbers [] [] ps) (sym no_pairs) (record {
      ascending = λ i j d before within. absurd (omega arith);
      exact = λ e. (λ h. h, λ h. h);
      placed = tt;
    }))

pub numbered_all : (uses : List EdgeUse) (edges : List Seg) (pairs : List OddUse) (i : ℕ) → length uses ≤ i → HaveEdgeNumbers (take i uses) edges pairs → HaveEdgeNumbers uses edges pairs
numbered_all uses edges pairs i past h = subst (λ (us : List EdgeUse). HaveEdgeNumbers us edges pairs) (take_all i uses past) h

-- a place keeps its edge when the list grows
grown : (edges : List Seg) (e x : Seg) (k : ℕ) → slice_get edges k ≡ Some e → slice_get (edges ++ x ∷ []) k ≡ Some e
grown edges e x k at =
    let within = slice_get_within edges k e at in
    slice_get-get_or (edges ++ x ∷ []) k e (let long = length-append edges (x ∷ []) in omega arith) ∙ ap Some (get_or_append_left edges (x ∷ []) e k within ∙ get_or_from_slice_get edges k e e at)

placed_grown : (edges : List Seg) (x : Seg) (uses : List EdgeUse) (pairs : List OddUse) → AllZip (HasEdgePlace edges) uses pairs → AllZip (HasEdgePlace (edges ++ x ∷ [])) uses pairs
placed_grown edges x [] [] each = tt
placed_grown edges x [] (p ∷ pairs) each = absurd each
placed_grown edges x (u ∷ uses) [] each = absurd each
placed_grown edges x (u ∷ uses) (p ∷ pairs) each = ((each.0.0, grown edges u.seg x p.edge each.0.1), placed_grown edges x uses pairs each.1)

-- u is the use at i
module _ (uses : List EdgeUse) (edges : List Seg) (pairs : List OddUse) (i : ℕ) (u : EdgeUse) (within : i < length uses) (is : u ≡ get_or uses i u) (sorted : AreBySegment uses) (h : HaveEdgeNumbers (take i uses) edges pairs) where
  longer : take i uses ++ u ∷ [] ≡ take (i + 1) uses
  longer = ap (λ (v : EdgeUse). take i uses ++ v ∷ []) is ∙ sym (take_more uses i u within)

  -- the segments so far, with that of u
  now_used : (e : Seg) → Contains (segments (take (i + 1) uses)) e ↔ (Contains (segments (take i uses)) e ⊎ (u.seg ≡ e))
  now_used e =
      subst (λ (segs : List Seg). Contains segs e ↔ (Contains (segments (take i uses)) e ⊎ (u.seg ≡ e))) (sym (map-append (λ (v : EdgeUse). v.seg) (take i uses) (u ∷ [])) ∙ ap segments longer)
      (Contains-push_cases (segments (take i uses)) u.seg e, back)
    where
      back : Contains (segments (take i uses)) e ⊎ (u.seg ≡ e) → Contains (segments (take i uses) ++ u.seg ∷ []) e
      back (inl has) = Contains-append_left (segments (take i uses)) (u.seg ∷ []) e has
      back (inr same) = subst (λ (s : Seg). Contains (segments (take i uses) ++ u.seg ∷ []) s) same (Contains-push (segments (take i uses)) u.seg)

  -- the segment of u comes before none of the edges
  not_after : (e : Seg) → Contains edges e → is_seg_before u.seg e ≡ false
  not_after e has =
      let v = contains_mapped (λ (w : EdgeUse). w.seg) (take i uses) e ((h.exact e).0 has) in
      let k = v.1.0.0 in
      let short = length-take i uses in
      let inside = v.1.0.1 in
      let first : k < i = omega arith in
      let there : get_or uses k v.0 ≡ v.0 = sym (get_or-take i uses k v.0 first) ∙ v.1.0.2 in
      let here : get_or uses i v.0 ≡ u = get_or_default uses i v.0 u within ∙ sym is in
      (λ j. is_seg_before (sym here j).seg (sym v.1.1 j)) ∙ (λ j. is_seg_before (get_or uses i v.0).seg (sym there j).seg) ∙ sorted k i v.0 first within

  -- its pair, where its segment is the last edge
  pair_placed : (es : List Seg) → EndsWith es u.seg → AllZip (HasEdgePlace es) (take i uses) pairs → AllZip (HasEdgePlace es) (take (i + 1) uses) (pairs ++ record { member = u.member; edge = length es - 1 } ∷ [])
  pair_placed es last placed = zip_more (HasEdgePlace es) uses pairs i u (record { member = u.member; edge = length es - 1 }) within is placed (refl, last_at es u.seg last)

  -- its segment is the last edge already
  pub numbered_again : (es : List Seg) (ps : List OddUse) → es ≡ edges → ps ≡ pairs ++ record { member = u.member; edge = length es - 1 } ∷ [] → EndsWith edges u.seg → HaveEdgeNumbers (take (i + 1) uses) es ps
  numbered_again es ps same pushed last =
      subst (λ (qs : List OddUse). HaveEdgeNumbers (take (i + 1) uses) es qs) (sym pushed)
      (subst (λ (fs : List Seg). HaveEdgeNumbers (take (i + 1) uses) fs (pairs ++ record { member = u.member; edge = length fs - 1 } ∷ [])) (sym same) (record {
        ascending = h.ascending;
        exact = λ e. (λ has. (now_used e).1 (inl ((h.exact e).0 has)), λ used. again e ((now_used e).0 used));
        placed = pair_placed edges last h.placed;
      }))
    where
      again : (e : Seg) → Contains (segments (take i uses)) e ⊎ (u.seg ≡ e) → Contains edges e
      again e (inl earlier) = (h.exact e).1 earlier
      again e (inr here) = subst (λ (s : Seg). Contains edges s) here (subst (λ (es : List Seg). Contains es u.seg) (sym last.1) (Contains-push last.0 u.seg))

  -- its segment is a new edge
  pub numbered_new : (es : List Seg) (ps : List OddUse) → es ≡ edges ++ u.seg ∷ [] → ps ≡ pairs ++ record { member = u.member; edge = length es - 1 } ∷ [] → ¬ EndsWith edges u.seg → HaveEdgeNumbers (take (i + 1) uses) es ps
  numbered_new es ps grows pushed not_last =
      subst (λ (qs : List OddUse). HaveEdgeNumbers (take (i + 1) uses) es qs) (sym pushed)
      (subst (λ (fs : List Seg). HaveEdgeNumbers (take (i + 1) uses) fs (pairs ++ record { member = u.member; edge = length fs - 1 } ∷ [])) (sym grows) (record {
        ascending = all_pairs_push (λ e f. IsTrue (is_seg_before e f)) edges u.seg h.ascending (λ k d inside. comes_before (get_or edges k d) (Contains-get_or edges k d inside));
        exact = λ e. (λ has. (now_used e).1 (there e (Contains-push_cases edges u.seg e has)), λ used. back e ((now_used e).0 used));
        placed = pair_placed (edges ++ u.seg ∷ []) (edges, refl) (placed_grown edges u.seg (take i uses) pairs h.placed);
      }))
    where
      comes_before : (e : Seg) → Contains edges e → IsTrue (is_seg_before e u.seg)
      comes_before = all_before is_seg_before same_segs_from_neither edges u.seg h.ascending not_after not_last

      there : (e : Seg) → Contains edges e ⊎ (u.seg ≡ e) → Contains (segments (take i uses)) e ⊎ (u.seg ≡ e)
      there e (inl earlier) = inl ((h.exact e).0 earlier)
      there e (inr here) = inr here

      back : (e : Seg) → Contains (segments (take i uses)) e ⊎ (u.seg ≡ e) → Contains (edges ++ u.seg ∷ []) e
      back e (inl earlier) = Contains-append_left edges (u.seg ∷ []) e ((h.exact e).1 earlier)
      back e (inr here) = subst (λ (s : Seg). Contains (edges ++ u.seg ∷ []) s) here (Contains-push edges u.seg)
