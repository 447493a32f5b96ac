-- The uses of two coverages, those of the second pushed one by one.
use Rattle.std.proofs.Common.{◌≡◌, sym, ◌∙◌, ap, subst, ℕ, ◌+◌, ◌<◌, ◌≤◌, List, [], ◌∷◌, ◌++◌, length, get_or, take, append_assoc}
use Rattle.std.specs.Prelude.{All}
use Rattle.std.proofs.lemmas.List.{map-append, take_more, take_all}
use Rattle.cov_types.specs.Coverage.{Members}
use Rattle.cov_types.specs.Uses.{uses_of}
use Rattle.cov_types.specs.declared.edge_use.EdgeUse.{EdgeUse}
use Rattle.overlaid_laws.specs.Joint.{shifted}
use Rattle.overlaid_laws.proofs.Joint.{joint_uses}

-- the member of a use is one of so many
pub member_below : (second : List EdgeUse) (count k : ℕ) (u : EdgeUse) → All (λ v. v.member < count) second → k < length second → u ≡ get_or second k u → u.member < count
member_below second count k u below within is = subst (λ (v : EdgeUse). v.member < count) (sym is) (below k u within)

-- one more use of the second
pub joint_more : (n k : ℕ) (first second joint pushed : List EdgeUse) (u : EdgeUse) → k < length second → u ≡ get_or second k u → joint ≡ first ++ shifted n (take k second)
    → pushed ≡ joint ++ (record { member = n + u.member; seg = u.seg }) ∷ [] → pushed ≡ first ++ shifted n (take (k + 1) second)
joint_more n k first second joint pushed u within is so_far added =
    let one : EdgeUse → EdgeUse = λ v. record { member = n + v.member; seg = v.seg } in
    added ∙ ap (λ us. us ++ one u ∷ []) so_far ∙ append_assoc first (shifted n (take k second)) (one u ∷ [])
    ∙ ap (λ us. first ++ us)
    (ap (λ v. shifted n (take k second) ++ one v ∷ []) is ∙ sym (map-append one (take k second) (get_or second k u ∷ [])) ∙ ap (shifted n) (sym (take_more second k u within)))

-- all of them
pub joint_all : (a b : Members) (n k : ℕ) (joint second : List EdgeUse) → n ≡ length a → second ≡ uses_of b → length second ≤ k → joint ≡ uses_of a ++ shifted n (take k second) → joint ≡ uses_of (a ++ b)
joint_all a b n k joint second count is all so_far =
    so_far ∙ ap (λ us. uses_of a ++ shifted n us) (take_all k second all ∙ is) ∙ ap (λ m. uses_of a ++ shifted m (uses_of b)) count ∙ sym (joint_uses a b)
