-- Members that are taken out of an object.
use Rattle.std.proofs.Common.{◌≡◌, ℕ, List, Vec, map, Option, Some, None, option_map, unwrap_or, cond, false, String, Global, BTreeMap, string_bytes, string_cmp, nat_cmp, bytes_eq, refl, ap, ◌∙◌, sym, rules}
use Rattle.std.specs.BTreeMap.{UpdatesBy, is_at, get_by_text}
use Rattle.std.specs.Cmp.Lexicographic.{slice_cmp}
use Rattle.std.specs.Map.{lookup}
use Rattle.std.proofs.lemmas.Map.Text.{btree_map_updates_text}
use Rattle.serde_json.specs.Data.{null}
use Rattle.serde_json.specs.Find.{get_member}
use Rattle.serde_json.specs.View.{view, items_view, members_view}
use Rattle.serde_json.specs.declared.value.Value.{Value, Null, Array, the_lemmas}
use Rattle.serde_json.proofs.Views.{view-lookup, view-Array}
use Rattle.geo_json.specs.Shape.{items_of}
use Rattle.geo_json.proofs.Taking.{items_shown}

pub view-Null : view Null ≡ null
view-Null = search (rules, the_lemmas)

-- the member of a name, or null
pub member_seen : (name : List ℕ) (es : List (String Global × Value)) (o : Option Value) → o ≡ lookup (is_at (λ k. slice_cmp nat_cmp name (string_bytes k))) es
    → unwrap_or (option_map view o) null ≡ unwrap_or (get_member name (members_view es)) null
member_seen name es o is = ap (λ p. unwrap_or (option_map view p) null) is ∙ ap (λ p. unwrap_or p null) (view-lookup name es)

-- the others stay
pub others_stay : (name : List ℕ) (m n : BTreeMap (String Global) Value) → UpdatesBy string_cmp (λ k. slice_cmp nat_cmp name (string_bytes k)) m n None
    → (other : List ℕ) → bytes_eq name other ≡ false → get_member other (members_view n.entries) ≡ get_member other (members_view m.entries)
others_stay name m n updates other apart =
    sym (view-lookup other n.entries)
    ∙ ap (option_map view) (btree_map_updates_text name m n None updates other ∙ ap (λ b. cond b None (get_by_text m other)) apart)
    ∙ view-lookup other m.entries

-- the items of an array
pub array_items : (v : Vec Value Global) → Some (map view v.items) ≡ items_of (view (Array v))
array_items v = items_shown v.items v.items (Some (items_view v.items)) refl refl ∙ ap items_of (sym (view-Array v))
