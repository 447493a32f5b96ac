-- Fewer points are left once one went.
use mathlib.Core.List.{[], ◌∷◌}
use Rattle.std.proofs.Common.{◌≡◌, refl, sym, ◌∙◌, ap, subst, ℕ, zero, suc, ◌<◌, ◌≤◌, ◌==◌, List, Bool, true, false, cond, Option, Some, None, Vec, Global, slice_get, slice_set, is_some, true≢false, arith}
use Rattle.std.specs.Prelude.{option_map, sum_by, count_by}
use Rattle.std.proofs.lemmas.Bool.Decides.{Decides-eqb}
use Rattle.std.proofs.lemmas.List.Sums.{sum_by-cons}
use Rattle.std.proofs.lemmas.Option.{none-some, same_Some}
use Rattle.visvalingam.specs.Chains.{AreChanged, unlinked, count_left}
use Rattle.visvalingam.specs.declared.chains.Links.{Links}

-- one where there are links, and else nothing
abbrev one : Option Links → ℕ
one o = cond (is_some o) 1 0

one_most : (o : Option Links) → one o ≤ 1
one_most None = omega arith
one_most (Some l) = omega arith

one_less : (o n : Option Links) (change : Option Links → Option Links) → change None ≡ None → change o ≡ n → one n ≤ one o
one_less None n change none is = let e = ap one (sym is ∙ none) in omega (arith, e)
one_less (Some l) n change none is = one_most n

-- a change that keeps what is gone
count_most : (change : ℕ → Option Links → Option Links) → ((k : ℕ) → change k None ≡ None) → (old new : List (Option Links)) → AreChanged change old new → count_by is_some new ≤ count_by is_some old
count_most change none [] [] h = omega arith
count_most change none [] (n ∷ ns) h = absurd (none-some n (sym (h 0)))
count_most change none (o ∷ os) [] h = absurd (none-some (change 0 o) (h 0))
count_most change none (o ∷ os) (n ∷ ns) h =
    let rest = count_most (λ k. change (suc k)) (λ k. none (suc k)) os ns (λ k. h (suc k)) in
    let first = one_less o n (change 0) (none 0) (same_Some (change 0 o) n (sym (h 0))) in
    let a = sum_by-cons one o os in
    let b = sum_by-cons one n ns in
    omega (arith, rest, first, a, b)

-- and makes one go
count_less : (change : ℕ → Option Links → Option Links) → ((k : ℕ) → change k None ≡ None) → (old new : List (Option Links)) → AreChanged change old new → (place : ℕ) (l : Links) → slice_get old place ≡ Some (Some l)
    → change place (Some l) ≡ None → count_by is_some new < count_by is_some old
count_less change none [] new h place l at gone = absurd (none-some (Some l) at)
count_less change none (o ∷ os) [] h place l at gone = absurd (none-some (change 0 o) (h 0))
count_less change none (o ∷ os) (n ∷ ns) h zero l at gone =
    let own = same_Some o (Some l) at in
    let is : n ≡ None = same_Some n (change 0 o) (h 0) ∙ ap (change 0) own ∙ gone in
    let rest = count_most (λ k. change (suc k)) (λ k. none (suc k)) os ns (λ k. h (suc k)) in
    let before : one o ≡ 1 = ap one own in
    let after : one n ≡ 0 = ap one is in
    let a = sum_by-cons one o os in
    let b = sum_by-cons one n ns in
    omega (arith, rest, before, after, a, b)
count_less change none (o ∷ os) (n ∷ ns) h (suc place) l at gone =
    let rest = count_less (λ k. change (suc k)) (λ k. none (suc k)) os ns (λ k. h (suc k)) place l at gone in
    let first = one_less o n (change 0) (none 0) (same_Some (change 0 o) n (sym (h 0))) in
    let a = sum_by-cons one o os in
    let b = sum_by-cons one n ns in
    omega (arith, rest, first, a, b)

-- what unlinking gives
still_gone : (f g : Links → Links) (o : Option Links) → o ≡ None → (u v : Bool) → cond v (option_map f (cond u (option_map g o) o)) (cond u (option_map g o) o) ≡ None
still_gone f g o is u v = subst (λ (x : Option Links). cond v (option_map f (cond u (option_map g x) x)) (cond u (option_map g x) x) ≡ None) (sym is) (by u v)
  where
    by : (u v : Bool) → cond v (option_map f (cond u (option_map g None) None)) (cond u (option_map g None) None) ≡ None
    by true true = refl
    by true false = refl
    by false true = refl
    by false false = refl

joined : (place before after k : ℕ) (o : Option Links) → cond (k == place) None o ≡ None → unlinked place before after k o ≡ None
joined place before after k o is =
    still_gone (λ l. record { before = before; after = l.after }) (λ l. record { before = l.before; after = after }) (cond (k == place) None o) is (k == before) (k == after)

unlinked_none : (place before after k : ℕ) → unlinked place before after k None ≡ None
unlinked_none place before after k = joined place before after k None (by (k == place))
  where
    by : (t : Bool) → cond {A = Option Links} t None None ≡ None
    by true = refl
    by false = refl

unlinked_gone : (place before after : ℕ) (o : Option Links) → unlinked place before after place o ≡ None
unlinked_gone place before after o = joined place before after place o (by (place == place) ((Decides-eqb place place).1 refl))
  where
    by : (t : Bool) → t ≡ true → cond t None o ≡ None
    by true is = refl
    by false is = absurd (true≢false (sym is))

-- a sum with a lesser summand is less
less_at : {X : Type 0} (f : X → ℕ) (xs : List X) (i : ℕ) (x y : X) → slice_get xs i ≡ Some x → f y < f x → sum_by f (slice_set xs i y) < sum_by f xs
less_at f [] i x y at h = absurd (none-some x at)
less_at f (z ∷ zs) zero x y at h =
    let e = ap f (same_Some z x at) in
    let a = sum_by-cons f z zs in
    let b = sum_by-cons f y zs in
    omega (arith, e, a, b, h)
less_at f (z ∷ zs) (suc i) x y at h =
    let rest = less_at f zs i x y at h in
    let a = sum_by-cons f z zs in
    let b = sum_by-cons f z (slice_set zs i y) in
    omega (arith, rest, a, b)

pub fewer_left : (links : List (Vec (Option Links) Global)) (line place before after : ℕ) (own new : Vec (Option Links) Global) (l : Links) → slice_get links line ≡ Some own → slice_get own.items place ≡ Some (Some l)
    → AreChanged (unlinked place before after) own.items new.items → count_left (slice_set links line new) < count_left links
fewer_left links line place before after own new l at_line at changed =
    less_at (λ (v : Vec (Option Links) Global). count_by is_some v.items) links line own new at_line
    (count_less (unlinked place before after) (unlinked_none place before after) own.items new.items changed place l at (unlinked_gone place before after (Some l)))
