-- What a loop over the candidates finds that keeps the first best so far is what the rule picks.
use Rattle.std.proofs.Common.{◌≡◌, ℕ, Bool, nat_lt, int_lt, List, length, pos, subst}
use Rattle.std.specs.Cmp.{IsStrictWeakOrder}
use Rattle.std.specs.List.{IsFirstBest}
use Rattle.std.proofs.lemmas.List.MinMax.{IsStrictWeakOrder-by_number, IsStrictWeakOrder-flip, IsFirstBest-unique}
use Rattle.region_owners.specs.declared.candidate.Candidate.{Candidate}
use Rattle.region_owners.proofs.Picks.{ints_rank}

-- ---- the tests of the loops

-- the first has less area than the second
abbrev pub has_less : Candidate → Candidate → Bool
has_less c d = int_lt c.area2 d.area2

pub less_ranks : IsStrictWeakOrder has_less
less_ranks = ints_rank (λ (c : Candidate). c.area2)

-- more area
abbrev pub has_more : Candidate → Candidate → Bool
has_more c d = int_lt d.area2 c.area2

pub more_ranks : IsStrictWeakOrder has_more
more_ranks = IsStrictWeakOrder-flip has_less less_ranks

-- a longer border
abbrev pub is_longer : Candidate → Candidate → Bool
is_longer c d = nat_lt d.border c.border

pub longer_ranks : IsStrictWeakOrder is_longer
longer_ranks = IsStrictWeakOrder-flip (λ c d. nat_lt c.border d.border) (IsStrictWeakOrder-by_number (λ (c : Candidate). c.border))

-- ---- the end of a loop

any_candidate : Candidate
any_candidate = record { member = 0; area2 = pos 0; border = 0 }

-- the first best of all that the loop has seen is the pick, where it has seen the candidates to their end
pub is_pick : {beats : Candidate → Candidate → Bool} → IsStrictWeakOrder beats → (candidates seen : List Candidate) (i best pick : ℕ)
    → seen ≡ candidates → i ≡ length seen → IsFirstBest beats seen i best → IsFirstBest beats candidates (length candidates) pick → best ≡ pick
is_pick {beats} order candidates seen i best pick same end found picked =
    let at_end = subst (λ n. IsFirstBest beats seen n best) end found in
    let of_all = subst (λ xs. IsFirstBest beats xs (length xs) best) same at_end in
    IsFirstBest-unique order candidates (length candidates) best pick any_candidate of_all picked
