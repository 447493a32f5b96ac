-- Features that are written one after the other.
use Rattle.std.proofs.Common.{◌≡◌, ℕ, zero, suc, ◌+◌, ◌<◌, ◌≤◌, true, nat_lt, List, [], ◌∷◌, ◌++◌, length, map, take, get_or, refl, ap, ◌∙◌, sym, subst, arith, append_assoc}
use Rattle.std.specs.Prelude.{codes, flat_map}
use Rattle.std.proofs.lemmas.Bool.Decides.{nat_tests}
use Rattle.std.proofs.lemmas.Grind.{flat_map-append}
use Rattle.std.proofs.lemmas.List.{append-nil, take_all, length-take-le}
use Rattle.cov_types.specs.declared.coord.Coord.{Coord}
use Rattle.serde_json.specs.View.{view}
use Rattle.serde_json.specs.Written.{comma_if}
use Rattle.serde_json.specs.declared.value.Value.{Value}
use Rattle.json_write.specs.Text.{Feature, IsFeatureText, AreFeatureTexts, with_commas, features_from}

-- texts of the features, with commas between, were put behind what was there
pub record AreAppended (features : List Feature) (before after : List ℕ) : Type 0 where
  pub texts : List (List ℕ)
  pub each : AreFeatureTexts features texts
  pub appended : after ≡ before ++ with_commas texts

each_more : (fs : List Feature) (f : Feature) (ts : List (List ℕ)) (t : List ℕ) → AreFeatureTexts fs ts → IsFeatureText f t → AreFeatureTexts (fs ++ f ∷ []) (ts ++ t ∷ [])
each_more [] f [] t h k = (k, tt)
each_more [] f (u ∷ ts) t h k = absurd h
each_more (g ∷ fs) f [] t h k = absurd h
each_more (g ∷ fs) f (u ∷ ts) t h k = (h.0, each_more fs f ts t h.1 k)

-- as many texts as features
each_length : (fs : List Feature) (ts : List (List ℕ)) → AreFeatureTexts fs ts → length ts ≡ length fs
each_length [] [] h = refl
each_length [] (t ∷ ts) h = absurd h
each_length (f ∷ fs) [] h = absurd h
each_length (f ∷ fs) (t ∷ ts) h = ap suc (each_length fs ts h.1)

-- a text more, behind a comma unless it is the first
commas_more : (ts : List (List ℕ)) (t : List ℕ) (i : ℕ) → length ts ≡ i → with_commas (ts ++ t ∷ []) ≡ with_commas ts ++ (comma_if (nat_lt 0 i) ++ t)
commas_more [] t i e = rw (sym e) (append-nil t)
commas_more (u ∷ ts) t zero e = absurd (omega arith)
commas_more (u ∷ ts) t (suc i) e =
    let some : nat_lt 0 (suc i) ≡ true = grind (arith, nat_tests) in
    ap (λ (l : List ℕ). u ++ l) (flat_map-append (λ (later : List ℕ). codes "," ++ later) ts (t ∷ []) ∙ ap (λ (l : List ℕ). flat_map (λ (later : List ℕ). codes "," ++ later) ts ++ l) (append-nil (codes "," ++ t)))
    ∙ sym (append_assoc u (flat_map (λ (later : List ℕ). codes "," ++ later) ts) (codes "," ++ t))
    ∙ ap (λ b. with_commas (u ∷ ts) ++ (comma_if b ++ t)) (sym some)

-- ---- the features of three lists

-- the feature in a place, behind those before it
features_more : (ms : List (List (List (List Coord)))) (vs ws : List Value) (i : ℕ) (m : List (List (List Coord))) (v w : Value) → i < length ms → length ms ≤ length vs → length ms ≤ length ws
    → m ≡ get_or ms i m → v ≡ get_or vs i v → w ≡ get_or ws i w
    → take (suc i) (features_from ms (map view vs) (map view ws)) ≡ take i (features_from ms (map view vs) (map view ws)) ++ record { polys = m; properties = view v; id = view w } ∷ []
features_more [] vs ws i m v w h k l em ev ew = absurd (omega arith)
features_more (n ∷ ms) [] ws i m v w h k l em ev ew = absurd (omega arith)
features_more (n ∷ ms) (x ∷ vs) [] i m v w h k l em ev ew = absurd (omega arith)
features_more (n ∷ ms) (x ∷ vs) (y ∷ ws) zero m v w h k l em ev ew = λ j. record { polys = sym em j; properties = view (sym ev j); id = view (sym ew j) } ∷ []
features_more (n ∷ ms) (x ∷ vs) (y ∷ ws) (suc i) m v w h k l em ev ew =
    ap (λ (fs : List Feature). record { polys = n; properties = view x; id = view y } ∷ fs) (features_more ms vs ws i m v w (omega arith) (omega arith) (omega arith) em ev ew)

features_length : (ms : List (List (List (List Coord)))) (vs ws : List Value) → length ms ≤ length vs → length ms ≤ length ws → length (features_from ms (map view vs) (map view ws)) ≡ length ms
features_length [] vs ws k l = refl
features_length (n ∷ ms) [] ws k l = absurd (omega arith)
features_length (n ∷ ms) (x ∷ vs) [] k l = absurd (omega arith)
features_length (n ∷ ms) (x ∷ vs) (y ∷ ws) k l = ap suc (features_length ms vs ws (omega arith) (omega arith))

pub none_appended : (features : List Feature) (before : List ℕ) → AreAppended (take 0 features) before before
none_appended features before = record { texts = []; each = tt; appended = sym (append-nil before) }

appended_more : (features : List Feature) (f : Feature) (i : ℕ) (before mid now after t : List ℕ) → length features ≡ i → AreAppended features before mid → now ≡ mid ++ comma_if (nat_lt 0 i)
    → IsFeatureText f t → after ≡ now ++ t → AreAppended (features ++ f ∷ []) before after
appended_more features f i before mid now after t count all comma text last = record {
  texts = all.texts ++ t ∷ [];
  each = each_more features f all.texts t all.each text;
  appended = last ∙ ap (λ (l : List ℕ). l ++ t) (comma ∙ ap (λ (l : List ℕ). l ++ comma_if (nat_lt 0 i)) all.appended)
      ∙ ap (λ (l : List ℕ). l ++ t) (append_assoc before (with_commas all.texts) (comma_if (nat_lt 0 i)))
      ∙ append_assoc before (with_commas all.texts ++ comma_if (nat_lt 0 i)) t
      ∙ ap (λ (l : List ℕ). before ++ l) (append_assoc (with_commas all.texts) (comma_if (nat_lt 0 i)) t ∙ sym (commas_more all.texts t i (each_length features all.texts all.each ∙ count)));
}

pub feature_appended : (ms : List (List (List (List Coord)))) (vs ws : List Value) (i : ℕ) (m : List (List (List Coord))) (v w : Value) (before mid now after t : List ℕ)
    → i < length ms → length ms ≤ length vs → length ms ≤ length ws → m ≡ get_or ms i m → v ≡ get_or vs i v → w ≡ get_or ws i w
    → AreAppended (take i (features_from ms (map view vs) (map view ws))) before mid → now ≡ mid ++ comma_if (nat_lt 0 i)
    → IsFeatureText (record { polys = m; properties = view v; id = view w }) t → after ≡ now ++ t
    → AreAppended (take (i + 1) (features_from ms (map view vs) (map view ws))) before after
feature_appended ms vs ws i m v w before mid now after t h k l em ev ew all comma text last =
    let features = features_from ms (map view vs) (map view ws) in
    let next : i + 1 ≡ suc i = omega arith in
    let count : length (take i features) ≡ i = length-take-le i features (omega (arith, features_length ms vs ws k l)) in
    subst (λ fs. AreAppended fs before after) (sym (ap (λ n. take n features) next ∙ features_more ms vs ws i m v w h k l em ev ew))
    (appended_more (take i features) (record { polys = m; properties = view v; id = view w }) i before mid now after t count all comma text last)

pub all_appended : (ms : List (List (List (List Coord)))) (vs ws : List Value) (i : ℕ) (before after : List ℕ) → length ms ≤ i → length ms ≤ length vs → length ms ≤ length ws
    → AreAppended (take i (features_from ms (map view vs) (map view ws))) before after → AreAppended (features_from ms (map view vs) (map view ws)) before after
all_appended ms vs ws i before after h k l all =
    let features = features_from ms (map view vs) (map view ws) in
    subst (λ fs. AreAppended fs before after) (take_all i features (omega (arith, features_length ms vs ws k l))) all
