-- Features at the end of others, one more at a time.
use mathlib.Core.List.{[], ◌∷◌}
use Rattle.std.proofs.Common.{◌≡◌, sym, ◌∙◌, ap, subst, ℕ, ◌+◌, ◌<◌, ◌≤◌, List, ◌++◌, get_or, length, take, append-nil, append_assoc}
use Rattle.std.proofs.lemmas.List.{take_all, get_or_default}
use Rattle.snap_noder.proofs.Zip.{zip_more}
use Rattle.fault_text.specs.declared.feature.MapFeature.{MapFeature}
use Rattle.fault_map.specs.FaultMap.{AreAppended, AreListed, AreFeaturesAppended}

module _ {X : Type 0} (R : X → MapFeature → Type 0) (xs : List X) (before : List MapFeature) where
  pub appended_none : AreAppended R [] before before
  appended_none = record { more = []; each = tt; all = sym (append-nil before) }

  pub appended_more : (i : ℕ) (d : X) (f : MapFeature) (now after : List MapFeature) → i < length xs → R (get_or xs i d) f → after ≡ now ++ f ∷ [] → AreAppended R (take i xs) before now → AreAppended R (take (i + 1) xs) before after
  appended_more i d f now after within shown appended are = record {
    more = are.more ++ f ∷ [];
    each = zip_more R xs are.more i (get_or xs i d) f within (get_or_default xs i d (get_or xs i d) within) are.each shown;
    all = appended ∙ ap (λ fs. fs ++ f ∷ []) are.all ∙ append_assoc before are.more (f ∷ []);
  }

  pub appended_all : (i : ℕ) (after : List MapFeature) → length xs ≤ i → AreAppended R (take i xs) before after → AreAppended R xs before after
  appended_all i after past are = subst (λ zs. AreAppended R zs before after) (take_all i xs past) are

-- features of the regions that are to be listed
pub of_kind : (IsListed : ℕ → Type 0) (IsShown : ℕ → MapFeature → Type 0) (regions : List ℕ) (before after : List MapFeature) → AreListed IsListed regions → AreAppended IsShown regions before after → AreFeaturesAppended IsListed IsShown before after
of_kind IsListed IsShown regions before after listed are = record { more = are.more; shown = record { regions = regions; listed = listed; each = are.each }; all = are.all }
