-- A text that has a value's items and members in order nests as deep as the value.
use Rattle.std.proofs.Common.{◌≡◌, suc, max, refl, ap, ap₂, sym, ◌∙◌}
use Rattle.json.specs.Json as json
use Rattle.json.specs.Tree as tree
use Rattle.serde_json.specs.Data.{Data, null, boolean, number, string, array, object, Items, no_items, item, Members, no_members, member, depth, items_depth, members_depth}
use Rattle.serde_json.specs.Written.{outline, items_outline, members_outline, blank, blank_items, blank_members}

mutual
  depth_blank : (j : json.Json) → tree.depth (blank j) ≡ tree.depth j
  depth_blank json.null = refl
  depth_blank (json.boolean b) = refl
  depth_blank (json.number s) = refl
  depth_blank (json.string s) = refl
  depth_blank (json.array js) = ap suc (depth_blank_items js)
  depth_blank (json.object ms) = ap suc (depth_blank_members ms)

  depth_blank_items : (js : json.Items) → tree.items_depth (blank_items js) ≡ tree.items_depth js
  depth_blank_items json.no_items = refl
  depth_blank_items (json.item j js) = ap₂ max (depth_blank j) (depth_blank_items js)

  depth_blank_members : (ms : json.Members) → tree.members_depth (blank_members ms) ≡ tree.members_depth ms
  depth_blank_members json.no_members = refl
  depth_blank_members (json.member k j ms) = ap₂ max (depth_blank j) (depth_blank_members ms)

mutual
  depth_outline : (d : Data) → tree.depth (outline d) ≡ depth d
  depth_outline null = refl
  depth_outline (boolean b) = refl
  depth_outline (number n) = refl
  depth_outline (string s) = refl
  depth_outline (array ds) = ap suc (depth_items_outline ds)
  depth_outline (object ms) = ap suc (depth_members_outline ms)

  depth_items_outline : (ds : Items) → tree.items_depth (items_outline ds) ≡ items_depth ds
  depth_items_outline no_items = refl
  depth_items_outline (item d ds) = ap₂ max (depth_outline d) (depth_items_outline ds)

  depth_members_outline : (ms : Members) → tree.members_depth (members_outline ms) ≡ members_depth ms
  depth_members_outline no_members = refl
  depth_members_outline (member k d ms) = ap₂ max (depth_outline d) (depth_members_outline ms)

pub same_depth : (j : json.Json) (d : Data) → blank j ≡ outline d → tree.depth j ≡ depth d
same_depth j d e = sym (depth_blank j) ∙ ap tree.depth e ∙ depth_outline d
