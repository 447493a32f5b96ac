-- One file of several is changed and keeps its name.
use Rattle.std.proofs.Common.{◌≡◌, ◌≢◌, ℕ, suc, zero, ◌<◌, ◌≤◌, ◌+◌, Bool, true, false, cond, ◌&&◌, List, [], ◌∷◌, ◌++◌, map, set, length, get_or, Option, Some, None, is_none, IsTrue, refl, sym, ◌∙◌, ap, subst, arith, All}
use Rattle.std.specs.Str.{bytes_eq}
use Rattle.std.proofs.lemmas.Slice.Eq.{bytes_eq-Decides}
use Rattle.cov_io.specs.Contents.{HoldsNow, Appends}
use Rattle.cov_io.specs.Entry.{Entry, held, are_distinct, entry_at}

pub same-name : (name : List ℕ) → bytes_eq name name ≡ true
same-name name = (bytes_eq-Decides name name).1 refl

pub other-name : (a b : List ℕ) → b ≢ a → bytes_eq a b ≡ false
other-name a b ne = elim (bytes_eq a b) as (λ t. bytes_eq a b ≡ t → t ≡ false)
    [ true ↦ λ e. absurd (ne (sym ((bytes_eq-Decides a b).0 e))) | false ↦ λ _. refl ] refl

-- a test of names that is false goes on to the files behind
pub held-behind : (e : Entry) (es : List Entry) (name : List ℕ) → bytes_eq e.name name ≡ false → held (e ∷ es) name ≡ held es name
held-behind e es name f = ap (λ t. cond t (Some e.bytes) (held es name)) f

pub held-front : (e : Entry) (es : List Entry) (name : List ℕ) → bytes_eq e.name name ≡ true → held (e ∷ es) name ≡ Some e.bytes
held-front e es name t = ap (λ t. cond t (Some e.bytes) (held es name)) t

pub head-distinct : (e : Entry) (es : List Entry) → IsTrue (are_distinct (e ∷ es)) → is_none (held es e.name) ≡ true
head-distinct e es d = elim (is_none (held es e.name)) as (λ t. IsTrue (t && are_distinct es) → t ≡ true)
    [ true ↦ λ _. refl | false ↦ λ h. h ] d

pub tail-distinct : (e : Entry) (es : List Entry) → IsTrue (are_distinct (e ∷ es)) → IsTrue (are_distinct es)
tail-distinct e es d = elim (is_none (held es e.name)) as (λ t. IsTrue (t && are_distinct es) → IsTrue (are_distinct es))
    [ true ↦ λ h. h | false ↦ λ h. absurd (let k : false ≡ true = h in cc) ] d

-- what the file at a place holds is what its name holds
pub held-at : (es : List Entry) (i : ℕ) → i < length es → IsTrue (are_distinct es)
    → held es (entry_at es i).name ≡ Some (entry_at es i).bytes
held-at [] i below d = absurd (omega arith)
held-at (e ∷ es) zero below d = held-front e es e.name (same-name e.name)
held-at (e ∷ es) (suc i) below d =
    let there = held-at es i (omega arith) (tail-distinct e es d) in
    let apart : (entry_at es i).name ≢ e.name = λ same.
    let none = head-distinct e es d in
    let some : is_none (held es e.name) ≡ false = ap (λ n. is_none (held es n)) (sym same) ∙ ap is_none there in cc in
    held-behind e es (entry_at es i).name (other-name e.name (entry_at es i).name apart) ∙ there

-- a file that keeps its name hides no more names than before
pub held-set-other : (es : List Entry) (i : ℕ) (e' : Entry) → e'.name ≡ (entry_at es i).name
    → (other : List ℕ) → other ≢ e'.name → held (set es i e') other ≡ held es other
held-set-other [] i e' same other ne = refl
held-set-other (e ∷ es) zero e' same other ne =
    held-behind e' es other (other-name e'.name other ne)
    ∙ sym (held-behind e es other (other-name e.name other (λ q. ne (q ∙ sym same))))
held-set-other (e ∷ es) (suc i) e' same other ne =
    ap (λ rest. cond (bytes_eq e.name other) (Some e.bytes) rest) (held-set-other es i e' same other ne)

pub none-set : (es : List Entry) (i : ℕ) (e' : Entry) → e'.name ≡ (entry_at es i).name
    → (name : List ℕ) → is_none (held (set es i e') name) ≡ is_none (held es name)
none-set [] i e' same name = refl
none-set (e ∷ es) zero e' same name =
    ap (λ n. is_none (cond (bytes_eq n name) (Some e'.bytes) (held es name))) same
    ∙ elim (bytes_eq e.name name) as (λ t. is_none (cond t (Some e'.bytes) (held es name)) ≡ is_none (cond t (Some e.bytes) (held es name)))
    [ true ↦ refl | false ↦ refl ]
none-set (e ∷ es) (suc i) e' same name =
    elim (bytes_eq e.name name) as (λ t. is_none (cond t (Some e.bytes) (held (set es i e') name)) ≡ is_none (cond t (Some e.bytes) (held es name)))
    [ true ↦ refl | false ↦ none-set es i e' same name ]

pub distinct-set : (es : List Entry) (i : ℕ) (e' : Entry) → e'.name ≡ (entry_at es i).name
    → are_distinct (set es i e') ≡ are_distinct es
distinct-set [] i e' same = refl
distinct-set (e ∷ es) zero e' same = ap (λ n. is_none (held es n) && are_distinct es) same
distinct-set (e ∷ es) (suc i) e' same =
    ap (λ t. t && are_distinct (set es i e')) (none-set es i e' same e.name)
    ∙ ap (λ t. is_none (held es e.name) && t) (distinct-set es i e' same)

pub names-set : (es : List Entry) (i : ℕ) (e' : Entry) → e'.name ≡ (entry_at es i).name
    → (j : ℕ) → (entry_at (set es i e') j).name ≡ (entry_at es j).name
names-set [] i e' same j = refl
names-set (e ∷ es) zero e' same zero = same
names-set (e ∷ es) zero e' same (suc j) = refl
names-set (e ∷ es) (suc i) e' same zero = refl
names-set (e ∷ es) (suc i) e' same (suc j) = names-set es i e' same j

-- where no place has a name, no file has it
pub held-none : (es : List Entry) (name : List ℕ) → ((k : ℕ) → k < length es → (entry_at es k).name ≢ name) → held es name ≡ None
held-none [] name none = refl
held-none (e ∷ es) name none =
    held-behind e es name (other-name e.name name (λ q. none 0 (omega arith) (sym q)))
    ∙ held-none es name (λ k below. none (suc k) (omega arith))
