-- The compact text of JSON, as `json` prints its tokens.
use Rattle.std.proofs.Common.{◌≡◌, ℕ, Bool, true, false, List, [], ◌∷◌, ◌++◌, refl, ap, sym, ◌∙◌, append_assoc, append-nil}
use Rattle.json.specs.Token.{Token}
use Rattle.json.specs.Print.{print, print_from, quoted, token_text}
use Rattle.json.specs.Json.{Json, null, boolean, number, string, array, object, Items, no_items, item, Members, no_members, member}
use Rattle.json.specs.Tree.{json_tokens, items_tokens, members_tokens}
use Rattle.serde_json.specs.Written.{comma_if}

abbrev mutual
  pub json_text : Json → List ℕ
  json_text null = token_text Token.null
  json_text (boolean b) = token_text (Token.boolean b)
  json_text (number s) = s
  json_text (string s) = quoted s
  json_text (array js) = 91 ∷ items_text false js
  json_text (object ms) = 123 ∷ members_text false ms

  -- with the closing bracket
  pub items_text : Bool → Items → List ℕ
  items_text later no_items = 93 ∷ []
  items_text later (item j js) = comma_if later ++ (json_text j ++ items_text true js)

  pub members_text : Bool → Members → List ℕ
  members_text later no_members = 125 ∷ []
  members_text later (member k j ms) = comma_if later ++ (quoted k ++ 58 ∷ (json_text j ++ members_text true ms))

regroup : (q a b c : List ℕ) → (q ++ 58 ∷ []) ++ (a ++ (b ++ c)) ≡ (q ++ 58 ∷ (a ++ b)) ++ c
regroup q a b c = append_assoc q _ _ ∙ sym (append_assoc q _ c ∙ ap (λ s. q ++ 58 ∷ s) (append_assoc a b c))

regroup_item : (q a b c : List ℕ) → q ++ (a ++ (b ++ c)) ≡ (q ++ (a ++ b)) ++ c
regroup_item q a b c = simp append_assoc

member_printed : (k : List ℕ) (j : Json) (ms : Members) (ts : List Token)
    → print_from false (json_tokens j ++ (members_tokens ms ++ ts)) ≡ json_text j ++ print_from true (members_tokens ms ++ ts)
    → print_from true (members_tokens ms ++ ts) ≡ members_text true ms ++ print_from true ts
    → (quoted k ++ 58 ∷ []) ++ print_from false ((json_tokens j ++ members_tokens ms) ++ ts) ≡ (quoted k ++ 58 ∷ (json_text j ++ members_text true ms)) ++ print_from true ts
member_printed k j ms ts value rest =
    let whole = ap (print_from false) (append_assoc (json_tokens j) (members_tokens ms) ts) ∙ value in
    ap (λ s. (quoted k ++ 58 ∷ []) ++ s) (whole ∙ ap (λ s. json_text j ++ s) rest) ∙ regroup (quoted k) (json_text j) (members_text true ms) (print_from true ts)

mutual
  unfolding print_from

  value_printed : (later : Bool) (j : Json) (ts : List Token) → print_from later (json_tokens j ++ ts) ≡ comma_if later ++ (json_text j ++ print_from true ts)
  value_printed true null ts = refl
  value_printed false null ts = refl
  value_printed true (boolean b) ts = refl
  value_printed false (boolean b) ts = refl
  value_printed true (number s) ts = refl
  value_printed false (number s) ts = refl
  value_printed true (string s) ts = refl
  value_printed false (string s) ts = refl
  value_printed true (array js) ts = ap (λ s. 44 ∷ 91 ∷ s) (items_printed false js ts)
  value_printed false (array js) ts = ap (λ s. 91 ∷ s) (items_printed false js ts)
  value_printed true (object ms) ts = ap (λ s. 44 ∷ 123 ∷ s) (members_printed false ms ts)
  value_printed false (object ms) ts = ap (λ s. 123 ∷ s) (members_printed false ms ts)

  items_printed : (later : Bool) (js : Items) (ts : List Token) → print_from later (items_tokens js ++ ts) ≡ items_text later js ++ print_from true ts
  items_printed true no_items ts = refl
  items_printed false no_items ts = refl
  items_printed later (item j js) ts =
      let rest = items_tokens js in
      ap (print_from later) (append_assoc (json_tokens j) rest ts) ∙ value_printed later j (rest ++ ts) ∙ ap (λ s. comma_if later ++ (json_text j ++ s)) (items_printed true js ts)
      ∙ regroup_item (comma_if later) (json_text j) (items_text true js) (print_from true ts)

  members_printed : (later : Bool) (ms : Members) (ts : List Token) → print_from later (members_tokens ms ++ ts) ≡ members_text later ms ++ print_from true ts
  members_printed true no_members ts = refl
  members_printed false no_members ts = refl
  members_printed true (member k j ms) ts = ap (λ s. 44 ∷ s) (member_printed k j ms ts (value_printed false j (members_tokens ms ++ ts)) (members_printed true ms ts))
  members_printed false (member k j ms) ts = member_printed k j ms ts (value_printed false j (members_tokens ms ++ ts)) (members_printed true ms ts)

pub json_printed : (j : Json) → print (json_tokens j) ≡ json_text j
unfolding print_from
json_printed j = ap print (sym (append-nil (json_tokens j))) ∙ value_printed false j [] ∙ append-nil (json_text j)
