-- Lists of values that are read one after the other.
use Rattle.std.proofs.Common.{◌≡◌, ℕ, zero, suc, ◌+◌, ◌<◌, ◌≤◌, List, [], ◌∷◌, ◌++◌, length, map, take, get_or, Option, Some, None, option_map, option_and_then, refl, ap, ◌∙◌, sym, subst, arith}
use Rattle.std.proofs.lemmas.List.{take_more, take_all, map-append, length-map, length-take-le}
use Rattle.std.proofs.lemmas.Option.{none-some, same_Some}
use Rattle.serde_json.specs.Data.{Data, Items}
use Rattle.serde_json.specs.View.{view, items_view, items_of as items_made}
use Rattle.serde_json.specs.declared.value.Value.{Value}
use Rattle.geo_json.specs.Shape.{item_list, items_of, each, array_of}
use Rattle.geo_json.specs.Noting.{IsTaken}
use Rattle.geo_json.specs.declared.first_faults.FirstFaults.{FirstFaults}

-- ---- the items of an array

list_made : (ds : List Data) → item_list (items_made ds) ≡ ds
list_made [] = refl
list_made (d ∷ ds) = ap (λ rest. d ∷ rest) (list_made ds)

-- the list of an array's values, seen as data, is that of its items
pub items_shown : (vs shown : List Value) (o : Option Items) → shown ≡ vs → Some (items_view vs) ≡ o → Some (map view shown) ≡ option_map item_list o
items_shown vs shown o same is = ap (λ ws. Some (map view ws)) same ∙ ap Some (sym (list_made (map view vs))) ∙ ap (option_map item_list) is

-- ---- one value more

-- the first value is read, and the others are
record IsFirstRead {A : Type 0} (o : Option A) (rest : Option (List A)) (items : List A) : Type 0 where
  item : A
  others : List A
  here : o ≡ Some item
  later : rest ≡ Some others
  all : item ∷ others ≡ items

first_read : {A : Type 0} → (o : Option A) (rest : Option (List A)) (items : List A) → option_and_then (λ a. option_map (λ more. a ∷ more) rest) o ≡ Some items → IsFirstRead o rest items
first_read None rest items e = absurd (none-some items e)
first_read (Some a) None items e = absurd (none-some items e)
first_read (Some a) (Some more) items e = record { item = a; others = more; here = refl; later = refl; all = same_Some (a ∷ more) items e }

-- a value behind others that are read
each_more : {A : Type 0} → (reading : Data → Option A) (ds : List Data) (d : Data) (items : List A) (a : A) → each reading ds ≡ Some items → reading d ≡ Some a → each reading (ds ++ d ∷ []) ≡ Some (items ++ a ∷ [])
each_more {A} reading [] d items a some one =
    ap (option_and_then (λ b. Some (b ∷ []))) one ∙ ap (λ (xs : List A). Some (xs ++ a ∷ [])) (same_Some [] items some)
each_more {A} reading (x ∷ xs) d items a some one =
    let p = first_read (reading x) (each reading xs) items some in
    let later = each_more reading xs d p.others a p.later one in
    ap (λ o. option_and_then (λ b. option_map (λ more. b ∷ more) (each reading (xs ++ d ∷ []))) o) p.here
    ∙ ap (option_map (λ more. p.item ∷ more)) later
    ∙ ap (λ (l : List A). Some (l ++ a ∷ [])) p.all

-- as many items as values
pub each_length : {A : Type 0} → (reading : Data → Option A) (ds : List Data) (items : List A) → each reading ds ≡ Some items → length items ≡ length ds
each_length reading [] items e = ap length (sym (same_Some [] items e))
each_length reading (d ∷ ds) items e =
    let p = first_read (reading d) (each reading ds) items e in
    ap length (sym p.all) ∙ ap suc (each_length reading ds p.others p.later)

-- with one item more in a list of shapes
pub pushed : {A B : Type 0} → (shape : A → B) (items : List A) (a : A) (bs : List B) (b : B) → bs ≡ map shape items → b ≡ shape a → bs ++ b ∷ [] ≡ map shape (items ++ a ∷ [])
pushed {A} {B} shape items a bs b all one = ap (λ (xs : List B). xs ++ b ∷ []) all ∙ ap (λ x. map shape items ++ x ∷ []) one ∙ sym (map-append shape items (a ∷ []))

-- the values up to the place are taken, and that in the place too
pub taken_more : {A B C : Type 0} → (reading : Data → Option A) (shapes : List A → C) (shape : A → B) (notes : List A → FirstFaults → FirstFaults) (note : A → FirstFaults → FirstFaults)
    → ((items : List A) (a : A) (f : FirstFaults) → notes (items ++ a ∷ []) f ≡ note a (notes items f))
    → (vs : List Value) (i : ℕ) (v : Value) (before mid after : FirstFaults) (before_it : C) (b : B) (with_it : C)
    → ((items : List A) (a : A) → length items ≡ i → before_it ≡ shapes items → b ≡ shape a → with_it ≡ shapes (items ++ a ∷ []))
    → i < length vs → v ≡ get_or vs i v
    → IsTaken (each reading) shapes notes (map view (take i vs)) before before_it mid
    → IsTaken reading shape note (view v) mid b after
    → IsTaken (each reading) shapes notes (map view (take (i + 1) vs)) before with_it after
taken_more reading shapes shape notes note adds vs i v before mid after before_it b with_it grows within is all one =
    let ds : map view (take (i + 1) vs) ≡ map view (take i vs) ++ view v ∷ [] =
    ap (map view) (take_more vs i v within) ∙ map-append view (take i vs) (get_or vs i v ∷ []) ∙ ap (λ w. map view (take i vs) ++ view w ∷ []) (sym is) in
    let count : length all.item ≡ i =
    each_length reading (map view (take i vs)) all.item all.read ∙ length-map (take i vs) view ∙ length-take-le i vs (omega arith) in
    record {
      item = all.item ++ one.item ∷ [];
      read = ap (each reading) ds ∙ each_more reading (map view (take i vs)) (view v) all.item one.item all.read one.read;
      value = grows all.item one.item count all.value one.value;
      noted = one.noted ∙ ap (note one.item) all.noted ∙ sym (adds all.item one.item before);
    }

-- all of the values are taken
pub taken_all : {A B : Type 0} → (reading : Data → Option A) (shape : List A → B) (notes : List A → FirstFaults → FirstFaults) (vs : List Value) (i : ℕ) (before after : FirstFaults) (b : B)
    → length vs ≤ i → IsTaken (each reading) shape notes (map view (take i vs)) before b after → IsTaken (each reading) shape notes (map view vs) before b after
taken_all reading shape notes vs i before after b past all = subst (λ ws. IsTaken (each reading) shape notes (map view ws) before b after) (take_all i vs past) all

-- ---- a value that is not read

-- none comes of it
not_each : {A : Type 0} → (o : Option A) (rest : Option (List A)) → rest ≡ None → option_and_then (λ a. option_map (λ more. a ∷ more) rest) o ≡ None
not_each None rest e = refl
not_each (Some a) rest e = ap (option_map (λ xs. a ∷ xs)) e

pub not_taken : {A : Type 0} → (reading : Data → Option A) (vs : List Value) (i : ℕ) (v : Value) → i < length vs → v ≡ get_or vs i v → reading (view v) ≡ None → each reading (map view vs) ≡ None
not_taken reading [] i v within is none = absurd (omega arith)
not_taken reading (w ∷ vs) zero v within is none = rw (ap (λ x. reading (view x)) (sym is) ∙ none)
not_taken reading (w ∷ vs) (suc i) v within is none = not_each (reading (view w)) _ (not_taken reading vs i v (omega arith) is none)

-- ---- arrays

pub array_read : {A : Type 0} → (reading : Data → Option A) (d : Data) (ds : List Data) (items : List A) → Some ds ≡ items_of d → each reading ds ≡ Some items → array_of reading d ≡ Some items
array_read reading d ds items is all = ap (option_and_then (each reading)) (sym is) ∙ all

pub array_taken : {A B : Type 0} → (reading : Data → Option A) (shape : List A → B) (notes : List A → FirstFaults → FirstFaults) (d : Data) (ds : List Data) (before after : FirstFaults) (b : B)
    → Some ds ≡ items_of d → IsTaken (each reading) shape notes ds before b after → IsTaken (array_of reading) shape notes d before b after
array_taken reading shape notes d ds before after b is all =
    record { item = all.item; read = array_read reading d ds all.item is all.read; value = all.value; noted = all.noted }

pub array_not_taken : {A : Type 0} → (reading : Data → Option A) (d : Data) (ds : List Data) → Some ds ≡ items_of d → each reading ds ≡ None → array_of reading d ≡ None
array_not_taken reading d ds is none = ap (option_and_then (each reading)) (sym is) ∙ none

pub no_array : {A : Type 0} → (reading : Data → Option A) (d : Data) → None ≡ items_of d → array_of reading d ≡ None
no_array reading d is = ap (option_and_then (each reading)) (sym is)
