-- Texts that stand for values: what serde_json writes of a value, and arrays and objects by their parts.
use Rattle.std.proofs.Common.{◌≡◌, ℕ, suc, ◌^◌, ◌<◌, ◌≤◌, ℤ, pos, negsuc, Bool, true, false, List, [], ◌∷◌, ◌++◌, Option, Some, option_map, option_and_then, IsUtf8, refl, ap, sym, subst, ◌∙◌, arith, append_assoc, append-nil, decimal, codes}
use Rattle.std.specs.Fmt.{signed_decimal}
use Rattle.std.specs.List.{flat_map}
use Rattle.std.specs.Prelude.{⊤}
use Rattle.std.proofs.lemmas.Fmt.{decimal_is_IsNumeral, IsAscii-from_digits}
use Rattle.std.proofs.lemmas.Str.{IsUtf8-append, IsUtf8-from_ascii}
use lib.Signed.{mag}
use Rattle.json.specs.Lex.{tokens}
use Rattle.json.specs.Token.{Token}
use Rattle.json.specs.Print.{print, quoted}
use Rattle.json.specs.Json as json
use Rattle.json.specs.Tree as tree
use Rattle.json.specs.Tree.{json_tokens, HasNumbers, ItemsHaveNumbers, MembersHaveNumbers}
use Rattle.json.proofs.Numbered.{ArePrintableOrBad-tokens, value-HasNumbers}
use Rattle.json.proofs.Printed.Decimals.{IsNumber-signed_decimal}
use Rattle.json.proofs.Printed.Trees.{value-json_tokens}
use Rattle.json.proofs.Printed.Utf8.{IsUtf8-are_ascii, IsUtf8-quoted}
use Rattle.serde_json.specs.Data.{Data, number, string, array, object, Items, no_items, item, Members, no_members, put, depth}
use Rattle.serde_json.specs.Find.{of_integer}
use Rattle.serde_json.specs.Read.{number_of, of_json, of_items, of_members, read, max_depth}
use Rattle.serde_json.specs.Written.{comma_if}
use Rattle.serde_json.proofs.Numbers.{number_of-decimal, number_of-negative}
use Rattle.json_write.specs.Text.{IsValueText, with_commas, in_brackets}
use Rattle.json_write.proofs.Depths.{same_depth}
use Rattle.json_write.proofs.Printing.{json_text, items_text, members_text, json_printed}

-- the value of what was read, where nothing follows it
abbrev whole : Option (json.Json × List Token) → Option Data
whole parsed = option_and_then of_json (option_and_then (λ p. json.if_last p.0 p.1) parsed)

-- tokens of JSON that doesn't nest too deep are parsed as it
tokens_parsed : (text : List ℕ) (j : json.Json) → tokens text ≡ json_tokens j → tree.depth j ≤ max_depth → json.value max_depth (tokens text) ≡ Some (j, [])
tokens_parsed text j same shallow = ap (json.value max_depth) (same ∙ sym (append-nil (json_tokens j))) ∙ value-json_tokens j max_depth [] shallow

pub tokens_read : (text : List ℕ) (j : json.Json) → tokens text ≡ json_tokens j → tree.depth j ≤ max_depth → read text ≡ of_json j
tokens_read text j same shallow = ap whole (tokens_parsed text j same shallow)

-- the text is that of JSON that is read as the value and nests at most so deep
pub record Stands (deep : ℕ) (text : List ℕ) (d : Data) : Type 0 where
  pub spelling : json.Json
  pub text_is : json_text spelling ≡ text
  pub utf8 : IsUtf8 text
  pub numbers : HasNumbers spelling
  pub value : of_json spelling ≡ Some d
  pub shallow : tree.depth spelling ≤ deep

pub deeper : (low high : ℕ) (text : List ℕ) (d : Data) → low ≤ high → Stands low text d → Stands high text d
deeper low high text d h s = record { spelling = s.spelling; text_is = s.text_is; utf8 = s.utf8; numbers = s.numbers; value = s.value; shallow = omega (arith, h, s.shallow) }

-- ---- values, names and numbers

-- what serde_json writes of a value stands for it, numbers that are held as floats or not
pub value_stands : (deep : ℕ) (d : Data) (text : List ℕ) → IsValueText d text → depth d ≤ deep → deep ≤ max_depth → Stands deep text d
value_stands deep d text h shallow within =
    let j = h.order.0 in
    let same : tokens text ≡ json_tokens j = h.order.1 in
    let nests = same_depth j d h.order.2 in
    let within_all : tree.depth j ≤ max_depth = omega (arith, nests) in
    record {
      spelling = j;
      text_is = sym (h.compact ∙ ap print same ∙ json_printed j);
      utf8 = h.utf8;
      numbers = value-HasNumbers max_depth (tokens text) [] j (ArePrintableOrBad-tokens text) (tokens_parsed text j same within_all);
      value = sym (tokens_read text j same within_all) ∙ h.reads_back (omega arith);
      shallow = omega (arith, nests);
    }

pub string_stands : (deep : ℕ) (s : List ℕ) → IsUtf8 s → Stands deep (quoted s) (string s)
string_stands deep s utf8 = record { spelling = json.string s; text_is = refl; utf8 = IsUtf8-quoted s utf8; numbers = tt; value = refl; shallow = omega arith }

decimal_utf8 : (n : ℕ) → n < 2 ^ 64 → IsUtf8 (decimal n)
decimal_utf8 n h = IsUtf8-from_ascii (decimal n) (IsAscii-from_digits (decimal n) (decimal_is_IsNumeral n h).0.1)

number_utf8 : (z : ℤ) → mag z < 2 ^ 63 → IsUtf8 (signed_decimal z)
number_utf8 (pos n) h = decimal_utf8 n (omega arith)
number_utf8 (negsuc n) h = IsUtf8-append (45 ∷ []) (decimal (suc n)) (IsUtf8-are_ascii (45 ∷ []) refl) (decimal_utf8 (suc n) (omega arith))

number_is : (z : ℤ) → mag z < 2 ^ 63 → number_of (signed_decimal z) ≡ Some (of_integer z)
number_is (pos n) h = number_of-decimal n (omega arith)
number_is (negsuc n) h = number_of-negative n (omega arith)

pub number_stands : (z : ℤ) → mag z < 2 ^ 63 → Stands 0 (signed_decimal z) (number (of_integer z))
number_stands z h = record { spelling = json.number (signed_decimal z); text_is = refl; utf8 = number_utf8 z h; numbers = IsNumber-signed_decimal z h; value = ap (option_map number) (number_is z h); shallow = omega arith }

-- ---- arrays

-- the items in order
abbrev pub items : List Data → Items
items [] = no_items
items (d ∷ ds) = item d (items ds)

-- each text stands for the value in its place
abbrev pub AllStand : ℕ → List (List ℕ) → List Data → Type 0
AllStand deep [] [] = ⊤
AllStand deep [] (d ∷ ds) = ⊥
AllStand deep (t ∷ ts) [] = ⊥
AllStand deep (t ∷ ts) (d ∷ ds) = Stands deep t d × AllStand deep ts ds

-- the text is that of items, the first behind a comma where others stand before, and of the closing bracket
record ItemsStand (deep : ℕ) (later : Bool) (text : List ℕ) (ds : Items) : Type 0 where
  spelling : json.Items
  text_is : items_text later spelling ≡ text
  utf8 : IsUtf8 text
  numbers : ItemsHaveNumbers spelling
  value : of_items spelling ≡ Some ds
  shallow : tree.items_depth spelling ≤ deep

comma_utf8 : (later : Bool) → IsUtf8 (comma_if later)
comma_utf8 true = IsUtf8-are_ascii (44 ∷ []) refl
comma_utf8 false = IsUtf8-are_ascii [] refl

none_stands : (deep : ℕ) (later : Bool) → ItemsStand deep later (93 ∷ []) no_items
none_stands deep later = record { spelling = json.no_items; text_is = refl; utf8 = IsUtf8-are_ascii (93 ∷ []) refl; numbers = tt; value = refl; shallow = omega arith }

item_stands : (deep : ℕ) (later : Bool) (t rest : List ℕ) (d : Data) (ds : Items) → Stands deep t d → ItemsStand deep true rest ds → ItemsStand deep later (comma_if later ++ (t ++ rest)) (item d ds)
item_stands deep later t rest d ds h k = record {
  spelling = json.item h.spelling k.spelling;
  text_is = λ i. comma_if later ++ (h.text_is i ++ k.text_is i);
  utf8 = IsUtf8-append (comma_if later) (t ++ rest) (comma_utf8 later) (IsUtf8-append t rest h.utf8 k.utf8);
  numbers = (h.numbers, k.numbers);
  value = ap (option_and_then (λ e. option_map (item e) (of_items k.spelling))) h.value ∙ ap (option_map (item d)) k.value;
  shallow = omega (arith, h.shallow, k.shallow);
}

-- the texts, each behind a comma
abbrev behind_commas : List (List ℕ) → List ℕ
behind_commas ts = flat_map (λ later. codes "," ++ later) ts

others_stand : (deep : ℕ) (ts : List (List ℕ)) (ds : List Data) → AllStand deep ts ds → ItemsStand deep true (behind_commas ts ++ 93 ∷ []) (items ds)
others_stand deep [] [] h = none_stands deep true
others_stand deep [] (d ∷ ds) h = absurd h
others_stand deep (t ∷ ts) [] h = absurd h
others_stand deep (t ∷ ts) (d ∷ ds) h =
    subst (λ text. ItemsStand deep true text (item d (items ds))) (ap (λ (l : List ℕ). 44 ∷ l) (sym (append_assoc t (behind_commas ts) (93 ∷ []))))
    (item_stands deep true t (behind_commas ts ++ 93 ∷ []) d (items ds) h.0 (others_stand deep ts ds h.1))

bracketed : (deep : ℕ) (text : List ℕ) (ds : Items) → ItemsStand deep false text ds → Stands (suc deep) (91 ∷ text) (array ds)
bracketed deep text ds h = record {
  spelling = json.array h.spelling;
  text_is = ap (λ (l : List ℕ). 91 ∷ l) h.text_is;
  utf8 = IsUtf8-append (91 ∷ []) text (IsUtf8-are_ascii (91 ∷ []) refl) h.utf8;
  numbers = h.numbers;
  value = ap (option_map array) h.value;
  shallow = omega (arith, h.shallow);
}

pub array_stands : (deep : ℕ) (ts : List (List ℕ)) (ds : List Data) → AllStand deep ts ds → Stands (suc deep) (in_brackets (with_commas ts)) (array (items ds))
array_stands deep [] [] h = bracketed deep (93 ∷ []) no_items (none_stands deep false)
array_stands deep [] (d ∷ ds) h = absurd h
array_stands deep (t ∷ ts) [] h = absurd h
array_stands deep (t ∷ ts) (d ∷ ds) h =
    subst (λ text. Stands (suc deep) (91 ∷ text) (array (item d (items ds)))) (sym (append_assoc t (behind_commas ts) (93 ∷ [])))
    (bracketed deep _ _ (item_stands deep false t (behind_commas ts ++ 93 ∷ []) d (items ds) h.0 (others_stand deep ts ds h.1)))

-- ---- objects

-- the text is that of members that are put behind some that were read
pub record MembersStand (deep : ℕ) (later : Bool) (text : List ℕ) (found all : Members) : Type 0 where
  pub spelling : json.Members
  pub text_is : members_text later spelling ≡ text
  pub utf8 : IsUtf8 text
  pub numbers : MembersHaveNumbers spelling
  pub value : of_members spelling found ≡ Some all
  pub shallow : tree.members_depth spelling ≤ deep

pub no_member_stands : (deep : ℕ) (later : Bool) (found : Members) → MembersStand deep later (125 ∷ []) found found
no_member_stands deep later found = record { spelling = json.no_members; text_is = refl; utf8 = IsUtf8-are_ascii (125 ∷ []) refl; numbers = tt; value = refl; shallow = omega arith }

pub member_stands : (deep : ℕ) (later : Bool) (name t rest : List ℕ) (d : Data) (found all : Members) → IsUtf8 name → Stands deep t d → MembersStand deep true rest (put name d found) all
    → MembersStand deep later (comma_if later ++ (quoted name ++ 58 ∷ (t ++ rest))) found all
member_stands deep later name t rest d found all utf8 h k = record {
  spelling = json.member name h.spelling k.spelling;
  text_is = λ i. comma_if later ++ (quoted name ++ 58 ∷ (h.text_is i ++ k.text_is i));
  utf8 = IsUtf8-append (comma_if later) _ (comma_utf8 later) (IsUtf8-append (quoted name) _ (IsUtf8-quoted name utf8) (IsUtf8-append (58 ∷ []) (t ++ rest) (IsUtf8-are_ascii (58 ∷ []) refl) (IsUtf8-append t rest h.utf8 k.utf8)));
  numbers = (h.numbers, k.numbers);
  value = ap (option_and_then (λ e. of_members k.spelling (put name e found))) h.value ∙ k.value;
  shallow = omega (arith, h.shallow, k.shallow);
}

pub object_stands : (deep : ℕ) (text : List ℕ) (all : Members) → MembersStand deep false text no_members all → Stands (suc deep) (123 ∷ text) (object all)
object_stands deep text all h = record {
  spelling = json.object h.spelling;
  text_is = ap (λ (l : List ℕ). 123 ∷ l) h.text_is;
  utf8 = IsUtf8-append (123 ∷ []) text (IsUtf8-are_ascii (123 ∷ []) refl) h.utf8;
  numbers = h.numbers;
  value = ap (option_map object) h.value;
  shallow = omega (arith, h.shallow);
}
