-- A document has at most as many features as bytes, and one.
use Rattle.std.proofs.Common.{◌≡◌, ℕ, zero, suc, ◌+◌, ◌≤◌, Bool, true, false, if◌then◌else◌, List, [], ◌∷◌, length, Option, Some, None, option_map, option_and_then, unwrap_or, refl, subst, arith, codes}
use Rattle.std.specs.Prelude.{⊤}
use Rattle.std.specs.declared.cmp.Ordering.{Ordering}
use Rattle.std.specs.declared.cmp.Ordering.TheVariants.{Less, Equal, Greater}
use Rattle.std.specs.Cmp.Lexicographic.{slice_cmp}
use Rattle.std.specs.Ordering.{match_ordering, nat_cmp}
use Rattle.std.proofs.lemmas.List.{length-map}
use Rattle.json.specs.Token.{Token}
use Rattle.json.specs.Lex.{Lexeme, token, comma, colon, Class, quote, backslash, operator, space, other, Mode, between, in_word, in_string, in_escape, class, lex_byte, lex, Place, fresh, after_value, after_comma, after_key, may_begin, may_close, if_allowed, place_token, begins_colon, punctuate, tokens}
use Rattle.json.specs.Json as json
use Rattle.json.proofs.Grammar.{after_end_array-shorter, read_key-shorter}
use Rattle.serde_json.specs.Data.{Num, Data, null, boolean, number, string, array, object, Items, no_items, item, Members, no_members, member, put}
use Rattle.serde_json.specs.Find.{get_member}
use Rattle.serde_json.specs.Read.{of_json, of_items, of_members, number_of, max_depth, read}
use Rattle.geo_json.specs.Shape.{FeatureShape, item_list, items_of, member_of, feature_of, is_of_type, lone_feature, collected, document_of}

-- ---- tokens

at_most_next : (m : Mode) (c : Class) (x : ℕ) (xs : List ℕ) (k : Mode → List Lexeme) (n : ℕ) → ((next : Mode) → length (k next) ≤ n) → length (lex_byte m c x xs k) ≤ suc n
at_most_next between quote x xs k n h = omega (arith, h in_string)
at_most_next between backslash x xs k n h = omega (arith, h in_word)
at_most_next between operator x xs k n h = omega (arith, h between)
at_most_next between space x xs k n h = omega (arith, h between)
at_most_next between other x xs k n h = omega (arith, h in_word)
at_most_next in_word quote x xs k n h = omega (arith, h in_word)
at_most_next in_word backslash x xs k n h = omega (arith, h in_word)
at_most_next in_word operator x xs k n h = omega (arith, h between)
at_most_next in_word space x xs k n h = omega (arith, h between)
at_most_next in_word other x xs k n h = omega (arith, h in_word)
at_most_next in_string quote x xs k n h = omega (arith, h between)
at_most_next in_string backslash x xs k n h = omega (arith, h in_escape)
at_most_next in_string operator x xs k n h = omega (arith, h in_string)
at_most_next in_string space x xs k n h = omega (arith, h in_string)
at_most_next in_string other x xs k n h = omega (arith, h in_string)
at_most_next in_escape c x xs k n h = omega (arith, h in_string)

lexemes_few : (m : Mode) (bytes : List ℕ) → length (lex m bytes) ≤ length bytes
unfolding lex
lexemes_few m [] = omega arith
lexemes_few m (x ∷ xs) = at_most_next m (class x) x xs (λ next. lex next xs) (length xs) (λ next. lexemes_few next xs)

allowed_few : (b : Bool) (t : Token) (k : Place → List Token) (p : Place) (n : ℕ) → length (k p) ≤ suc n → length (if_allowed b t k p) ≤ suc (suc n)
allowed_few true t k p n h = omega (arith, h)
allowed_few false t k p n h = omega arith

placed_few : (p : Place) (t : Token) (b : Bool) (k : Place → List Token) (n : ℕ) → ((next : Place) → length (k next) ≤ suc n) → length (place_token p t b k) ≤ suc (suc n)
placed_few p Token.begin_object b k n h = allowed_few (may_begin p) Token.begin_object k fresh n (h fresh)
placed_few p Token.end_object b k n h = allowed_few (may_close p) Token.end_object k after_value n (h after_value)
placed_few p Token.begin_array b k n h = allowed_few (may_begin p) Token.begin_array k fresh n (h fresh)
placed_few p Token.end_array b k n h = allowed_few (may_close p) Token.end_array k after_value n (h after_value)
placed_few p (Token.key s) b k n h = omega arith
placed_few p (Token.string s) true k n h = allowed_few (may_begin p) (Token.key s) k after_key n (h after_key)
placed_few p (Token.string s) false k n h = allowed_few (may_begin p) (Token.string s) k after_value n (h after_value)
placed_few p (Token.number s) b k n h = allowed_few (may_begin p) (Token.number s) k after_value n (h after_value)
placed_few p (Token.boolean c) b k n h = allowed_few (may_begin p) (Token.boolean c) k after_value n (h after_value)
placed_few p Token.null b k n h = allowed_few (may_begin p) Token.null k after_value n (h after_value)
placed_few p Token.bad b k n h = omega arith

punctuated_few : (p : Place) (ls : List Lexeme) → length (punctuate p ls) ≤ suc (length ls)
unfolding punctuate
punctuated_few fresh [] = omega arith
punctuated_few after_value [] = omega arith
punctuated_few after_comma [] = omega arith
punctuated_few after_key [] = omega arith
punctuated_few fresh (token t ∷ ls) = placed_few fresh t (begins_colon ls) (λ next. punctuate next ls) (length ls) (λ next. punctuated_few next ls)
punctuated_few after_value (token t ∷ ls) = placed_few after_value t (begins_colon ls) (λ next. punctuate next ls) (length ls) (λ next. punctuated_few next ls)
punctuated_few after_comma (token t ∷ ls) = placed_few after_comma t (begins_colon ls) (λ next. punctuate next ls) (length ls) (λ next. punctuated_few next ls)
punctuated_few after_key (token t ∷ ls) = placed_few after_key t (begins_colon ls) (λ next. punctuate next ls) (length ls) (λ next. punctuated_few next ls)
punctuated_few fresh (comma ∷ ls) = omega arith
punctuated_few after_value (comma ∷ ls) = omega (arith, punctuated_few after_comma ls)
punctuated_few after_comma (comma ∷ ls) = omega arith
punctuated_few after_key (comma ∷ ls) = omega arith
punctuated_few fresh (colon ∷ ls) = omega arith
punctuated_few after_value (colon ∷ ls) = omega arith
punctuated_few after_comma (colon ∷ ls) = omega arith
punctuated_few after_key (colon ∷ ls) = omega (arith, punctuated_few fresh ls)

tokens_few : (bytes : List ℕ) → length (tokens bytes) ≤ suc (length bytes)
tokens_few bytes = omega (arith, punctuated_few fresh (lex between bytes), lexemes_few between bytes)

-- ---- how many values a value has within, itself among them

abbrev mutual
  json_count : json.Json → ℕ
  json_count json.null = 1
  json_count (json.boolean b) = 1
  json_count (json.number s) = 1
  json_count (json.string s) = 1
  json_count (json.array js) = suc (json_items js)
  json_count (json.object ms) = suc (json_members ms)

  json_items : json.Items → ℕ
  json_items json.no_items = 0
  json_items (json.item j js) = json_count j + json_items js

  json_members : json.Members → ℕ
  json_members json.no_members = 0
  json_members (json.member k j ms) = json_count j + json_members ms

abbrev mutual
  count : Data → ℕ
  count null = 1
  count (boolean b) = 1
  count (number n) = 1
  count (string s) = 1
  count (array ds) = suc (items_count ds)
  count (object ms) = suc (members_count ms)

  items_count : Items → ℕ
  items_count no_items = 0
  items_count (item d ds) = count d + items_count ds

  members_count : Members → ℕ
  members_count no_members = 0
  members_count (member k d ms) = count d + members_count ms

-- ---- what is parsed has at most as many values as tokens

-- what was parsed and the tokens after it are within the bound
abbrev Fits : {A : Type 0} → (A → ℕ) → ℕ → Option (A × List Token) → Type 0
Fits size bound None = ⊤
Fits size bound (Some p) = size p.0 + length p.1 ≤ bound

abbrev ItemsFit : (List Token → Option (json.Items × List Token)) → Type 0
ItemsFit parse = (ts : List Token) → Fits json_items (length ts) (parse ts)

abbrev MembersFit : (List Token → Option (json.Members × List Token)) → Type 0
MembersFit parse = (ts : List Token) → Fits json_members (length ts) (parse ts)

abbrev ValueFits : (List Token → Option (json.Json × List Token)) → Type 0
ValueFits parse = (ts : List Token) → Fits json_count (length ts) (parse ts)

array_fits : (bound : ℕ) (o : Option (json.Items × List Token)) → Fits json_items bound o → Fits json_count (suc bound) (json.parse_map json.array o)
array_fits bound None h = tt
array_fits bound (Some p) h = omega (arith, h)

object_fits : (bound : ℕ) (o : Option (json.Members × List Token)) → Fits json_members bound o → Fits json_count (suc bound) (json.parse_map json.object o)
object_fits bound None h = tt
object_fits bound (Some p) h = omega (arith, h)

item_fits : (bound left : ℕ) (j : json.Json) (o : Option (json.Items × List Token)) → json_count j + left ≤ bound → Fits json_items left o → Fits json_items bound (json.parse_map (json.item j) o)
item_fits bound left j None room h = tt
item_fits bound left j (Some p) room h = omega (arith, h, room)

member_fits : (bound left : ℕ) (key : List ℕ) (j : json.Json) (o : Option (json.Members × List Token)) → json_count j + left ≤ bound → Fits json_members left o → Fits json_members bound (json.parse_map (json.member key j) o)
member_fits bound left key j None room h = tt
member_fits bound left key j (Some p) room h = omega (arith, h, room)

some_item_fits : (more : List Token → Option (json.Items × List Token)) (bound : ℕ) (o : Option (json.Json × List Token)) → ItemsFit more → Fits json_count bound o
    → Fits json_items bound (option_and_then (λ p. json.parse_map (json.item p.0) (more p.1)) o)
some_item_fits more bound None rest h = tt
some_item_fits more bound (Some p) rest h = item_fits bound (length p.1) p.0 (more p.1) h (rest p.1)

step_fits : (parse : List Token → Option (json.Json × List Token)) (more : List Token → Option (json.Items × List Token)) (ts : List Token) (o : Option (List Token)) → json.after_end_array ts ≡ o
    → ValueFits parse → ItemsFit more → Fits json_items (length ts) (json.items_step parse more ts o)
step_fits parse more ts (Some rest) e value items = omega (arith, after_end_array-shorter ts rest e)
step_fits parse more ts None e value items = some_item_fits more (length ts) (parse ts) items (value ts)

items_fit : (parse : List Token → Option (json.Json × List Token)) → ValueFits parse → (n : ℕ) → ItemsFit (json.items parse n)
unfolding json.items
items_fit parse value zero ts = tt
items_fit parse value (suc n) ts = step_fits parse (json.items parse n) ts (json.after_end_array ts) refl value (items_fit parse value n)

some_member_fits : (more : List Token → Option (json.Members × List Token)) (bound : ℕ) (key : List ℕ) (o : Option (json.Json × List Token)) → MembersFit more → Fits json_count bound o
    → Fits json_members bound (option_and_then (λ p. json.parse_map (json.member key p.0) (more p.1)) o)
some_member_fits more bound key None rest h = tt
some_member_fits more bound key (Some p) rest h = member_fits bound (length p.1) key p.0 (more p.1) h (rest p.1)

fits_more : {A : Type 0} (size : A → ℕ) (bound room : ℕ) (o : Option (A × List Token)) → bound ≤ room → Fits size bound o → Fits size room o
fits_more size bound room None le h = tt
fits_more size bound room (Some p) le h = omega (arith, le, h)

key_fits : (parse : List Token → Option (json.Json × List Token)) (more : List Token → Option (json.Members × List Token)) (ts : List Token) (o : Option (Option (List ℕ) × List Token)) → json.read_key ts ≡ o
    → ValueFits parse → MembersFit more → Fits json_members (length ts) (option_and_then (λ p. json.members_step parse more p.0 p.1) o)
key_fits parse more ts None e value members = tt
key_fits parse more ts (Some (None, r)) e value members = omega (arith, read_key-shorter ts None r e)
key_fits parse more ts (Some (Some k, r)) e value members =
    fits_more json_members (length r) (length ts) _ (omega (arith, read_key-shorter ts (Some k) r e)) (some_member_fits more (length r) k (parse r) members (value r))

members_fit : (parse : List Token → Option (json.Json × List Token)) → ValueFits parse → (n : ℕ) → MembersFit (json.members parse n)
unfolding json.members
members_fit parse value zero ts = tt
members_fit parse value (suc n) ts = key_fits parse (json.members parse n) ts (json.read_key ts) refl value (members_fit parse value n)

with_fits : (items : List Token → Option (json.Items × List Token)) (members : List Token → Option (json.Members × List Token)) → ItemsFit items → MembersFit members → ValueFits (json.value_with items members)
with_fits items members a o [] = tt
with_fits items members a o (Token.begin_object ∷ ts) = object_fits (length ts) (members ts) (o ts)
with_fits items members a o (Token.end_object ∷ ts) = tt
with_fits items members a o (Token.begin_array ∷ ts) = array_fits (length ts) (items ts) (a ts)
with_fits items members a o (Token.end_array ∷ ts) = tt
with_fits items members a o (Token.key s ∷ ts) = tt
with_fits items members a o (Token.string s ∷ ts) = omega arith
with_fits items members a o (Token.number s ∷ ts) = omega arith
with_fits items members a o (Token.boolean b ∷ ts) = omega arith
with_fits items members a o (Token.null ∷ ts) = omega arith
with_fits items members a o (Token.bad ∷ ts) = tt

value_fits : (depth : ℕ) → ValueFits (json.value depth)
unfolding json.value
value_fits zero = with_fits (λ ts. None) (λ ts. None) (λ ts. tt) (λ ts. tt)
value_fits (suc depth) =
    with_fits (λ ts. json.items (json.value depth) (length ts) ts) (λ ts. json.members (json.value depth) (length ts) ts)
    (λ ts. items_fit (json.value depth) (value_fits depth) (length ts) ts) (λ ts. members_fit (json.value depth) (value_fits depth) (length ts) ts)

-- ---- a value that is read has at most as many values within as what was parsed

abbrev AtMost : {A : Type 0} → (A → ℕ) → ℕ → Option A → Type 0
AtMost size bound None = ⊤
AtMost size bound (Some a) = size a ≤ bound

array_few : (bound : ℕ) (o : Option Items) → AtMost items_count bound o → AtMost count (suc bound) (option_map array o)
array_few bound None h = tt
array_few bound (Some ds) h = omega (arith, h)

object_few : (bound : ℕ) (o : Option Members) → AtMost members_count bound o → AtMost count (suc bound) (option_map object o)
object_few bound None h = tt
object_few bound (Some ms) h = omega (arith, h)

item_few : (m n : ℕ) (d : Data) (o : Option Items) → count d ≤ m → AtMost items_count n o → AtMost items_count (m + n) (option_map (item d) o)
item_few m n d None h k = tt
item_few m n d (Some ds) h k = omega (arith, h, k)

some_item_few : (m n : ℕ) (o : Option Data) (q : Option Items) → AtMost count m o → AtMost items_count n q → AtMost items_count (m + n) (option_and_then (λ d. option_map (item d) q) o)
some_item_few m n None q h k = tt
some_item_few m n (Some d) q h k = item_few m n d q h k

ordered_few : (o : Ordering) (a b c : Members) (n : ℕ) → members_count a ≤ n → members_count b ≤ n → members_count c ≤ n → members_count (match_ordering o a b c) ≤ n
ordered_few Less a b c n h k l = h
ordered_few Equal a b c n h k l = k
ordered_few Greater a b c n h k l = l

put_few : (k : List ℕ) (d : Data) (ms : Members) → members_count (put k d ms) ≤ count d + members_count ms
put_few k d no_members = omega arith
put_few k d (member l e ms) =
    ordered_few (slice_cmp nat_cmp k l) (member k d (member l e ms)) (member l d ms) (member l e (put k d ms)) (count d + (count e + members_count ms))
    (omega arith) (omega arith) (omega (arith, put_few k d ms))

at_most_more : {A : Type 0} (size : A → ℕ) (bound room : ℕ) (o : Option A) → bound ≤ room → AtMost size bound o → AtMost size room o
at_most_more size bound room None le h = tt
at_most_more size bound room (Some a) le h = omega (arith, le, h)

some_member_few : (key : List ℕ) (rest : Members → Option Members) (m n : ℕ) (found : Members) (o : Option Data) → AtMost count m o → ((all : Members) → AtMost members_count (n + members_count all) (rest all))
    → AtMost members_count (m + n + members_count found) (option_and_then (λ d. rest (put key d found)) o)
some_member_few key rest m n found None h all = tt
some_member_few key rest m n found (Some d) h all =
    at_most_more members_count (n + members_count (put key d found)) (m + n + members_count found) (rest (put key d found)) (omega (arith, h, put_few key d found)) (all (put key d found))

number_few : (o : Option Num) → AtMost count 1 (option_map number o)
number_few None = tt
number_few (Some n) = omega arith

mutual
  json_few : (j : json.Json) → AtMost count (json_count j) (of_json j)
  json_few json.null = omega arith
  json_few (json.boolean b) = omega arith
  json_few (json.number s) = number_few (number_of s)
  json_few (json.string s) = omega arith
  json_few (json.array js) = array_few (json_items js) (of_items js) (items_few js)
  json_few (json.object ms) = object_few (json_members ms) (of_members ms no_members) (at_most_more members_count (json_members ms + 0) (json_members ms) (of_members ms no_members) (omega arith) (members_few ms no_members))

  items_few : (js : json.Items) → AtMost items_count (json_items js) (of_items js)
  items_few json.no_items = omega arith
  items_few (json.item j js) = some_item_few (json_count j) (json_items js) (of_json j) (of_items js) (json_few j) (items_few js)

  members_few : (ms : json.Members) (found : Members) → AtMost members_count (json_members ms + members_count found) (of_members ms found)
  members_few json.no_members found = omega arith
  members_few (json.member k j ms) found = some_member_few k (of_members ms) (json_count j) (json_members ms) found (of_json j) (json_few j) (members_few ms)

if_last_few : (j : json.Json) (ts : List Token) (bound : ℕ) → json_count j ≤ bound → AtMost count bound (option_and_then of_json (json.if_last j ts))
if_last_few j [] bound h = at_most_more count (json_count j) bound (of_json j) h (json_few j)
if_last_few j (t ∷ ts) bound h = tt

read_few : (bound : ℕ) (o : Option (json.Json × List Token)) → Fits json_count bound o → AtMost count bound (option_and_then of_json (option_and_then (λ p. json.if_last p.0 p.1) o))
read_few bound None h = tt
read_few bound (Some p) h = if_last_few p.0 p.1 bound (omega (arith, h))

-- the value that the bytes stand for
bytes_few : (bytes : List ℕ) (d : Data) → read bytes ≡ Some d → count d ≤ suc (length bytes)
bytes_few bytes d e =
    let within = read_few (length (tokens bytes)) (json.value max_depth (tokens bytes)) (value_fits max_depth (tokens bytes)) in
    omega (arith, subst (AtMost count (length (tokens bytes))) e within, tokens_few bytes)

-- ---- the features of a document

ordered_member_few : (o : Ordering) (p q r : Option Data) (n : ℕ) → AtMost count n p → AtMost count n q → AtMost count n r → AtMost count n (match_ordering o p q r)
ordered_member_few Less p q r n h k l = h
ordered_member_few Equal p q r n h k l = k
ordered_member_few Greater p q r n h k l = l

found_few : (k : List ℕ) (ms : Members) → AtMost count (members_count ms) (get_member k ms)
found_few k no_members = tt
found_few k (member l e ms) =
    let rest = at_most_more count (members_count ms) (count e + members_count ms) (get_member k ms) (omega arith) (found_few k ms) in
    ordered_member_few (slice_cmp nat_cmp k l) (get_member k ms) (Some e) (get_member k ms) (count e + members_count ms) rest (omega arith) rest

or_null_few : (bound : ℕ) (o : Option Data) → 1 ≤ bound → AtMost count bound o → count (unwrap_or o null) ≤ bound
or_null_few bound None le h = le
or_null_few bound (Some d) le h = h

member_few : (k : List ℕ) (d : Data) → count (member_of k d) ≤ count d
member_few k null = omega arith
member_few k (boolean b) = omega arith
member_few k (number n) = omega arith
member_few k (string s) = omega arith
member_few k (array ds) = omega arith
member_few k (object ms) =
    or_null_few (suc (members_count ms)) (get_member k ms) (omega arith) (at_most_more count (members_count ms) (suc (members_count ms)) (get_member k ms) (omega arith) (found_few k ms))

some_count : (d : Data) → 1 ≤ count d
some_count null = omega arith
some_count (boolean b) = omega arith
some_count (number n) = omega arith
some_count (string s) = omega arith
some_count (array ds) = omega arith
some_count (object ms) = omega arith

items_length : (ds : Items) → length (item_list ds) ≤ items_count ds
items_length no_items = omega arith
items_length (item d ds) = omega (arith, some_count d, items_length ds)

collected_few : (d : Data) → length (collected (items_of d)) ≤ count d
collected_few null = omega arith
collected_few (boolean b) = omega arith
collected_few (number n) = omega arith
collected_few (string s) = omega arith
collected_few (array ds) = omega (arith, length-map (item_list ds) feature_of, items_length ds)
collected_few (object ms) = omega arith

either_few : (b : Bool) (xs ys : List (Option FeatureShape)) (n : ℕ) → length xs ≤ n → length ys ≤ n → length (if b then xs else ys) ≤ n
either_few true xs ys n h k = h
either_few false xs ys n h k = k

-- the features of a document are at most as many as its bytes, and one
pub features_few : (bytes : List ℕ) (d : Data) → read bytes ≡ Some d → length (document_of d) ≤ suc (length bytes)
features_few bytes d e =
    let list = collected_few (member_of (codes "features") d) in
    let its = member_few (codes "features") d in
    let all = bytes_few bytes d e in
    either_few (is_of_type (codes "FeatureCollection") d) (collected (items_of (member_of (codes "features") d))) (lone_feature d ∷ []) (suc (length bytes)) (omega (arith, list, its, all)) (omega arith)
