-- A file that was created, written at its end and closed.
use Rattle.std.proofs.Common.{◌≡◌, ℕ, List, [], take, IsTrue, OnOk, OnErr, Ok, Err, ◌∙◌, subst, inr}
use Rattle.std.specs.declared.result.Result.{Result}
use Rattle.cov_io.specs.State.{State, IsTelling}
use Rattle.cov_io.specs.Contents.{Contents, SameFiles, Appends, HoldsNow, HoldsPrefix}
use Rattle.cov_io.specs.Calls.{IsCreated}
use Rattle.cov_io.specs.Frame.{KeepsInput}

-- what was put at the end of a created file is what the file holds
pub holds_put : (name part : List ℕ) (old made : State) (f g : Contents) → IsCreated name old made → IsTelling old
    → IsTrue old.tells_files → Appends made.output part made.files f → SameFiles f g → HoldsNow name part old.files g
holds_put name part old made f g c t told put same =
    let at : made.output ≡ name = c.output (t.output told) in
    let P : List ℕ → Type 0 = λ x. Appends x part made.files f in
    let q : Appends name part made.files f = subst P at put in
    let e : HoldsNow name [] old.files made.files = c.empty told in
    record {
      here = same name ∙ q.here [] e.here;
      others = λ other ne. same other ∙ (q.others other ne ∙ e.others other ne);
    }

pub holds_all : (name bytes : List ℕ) (old made put closed : State) → IsTelling old → IsCreated name old made
    → KeepsInput old made → KeepsInput made put → (IsTrue made.tells_files → Appends made.output bytes made.files put.files)
    → (IsTrue put.tells_files → SameFiles put.files closed.files)
    → IsTrue old.tells_files → HoldsNow name bytes old.files closed.files
holds_all name bytes old made put closed t c k j wrote same told =
    let e : IsTrue made.tells_files = k.tells.files ∙ told in
    holds_put name bytes old made put.files closed.files c t told (wrote e) (same (j.tells.files ∙ e))

pub holds_prefix : (name bytes : List ℕ) (old made put closed : State) → IsTelling old → IsCreated name old made
    → KeepsInput old made → KeepsInput made put
    → (IsTrue made.tells_files → (n : ℕ) × Appends made.output (take n bytes) made.files put.files)
    → (IsTrue put.tells_files → SameFiles put.files closed.files)
    → IsTrue old.tells_files → HoldsPrefix name bytes old.files closed.files
holds_prefix name bytes old made put closed t c k j wrote same told =
    let e : IsTrue made.tells_files = k.tells.files ∙ told in
    let (n, w) = wrote e in
    inr (n, holds_put name (take n bytes) old made put.files closed.files c t told w (same (j.tells.files ∙ e)))

-- an outcome's fact, carried on
pub on-ok : {T E P Q : Type 0} (r : Result T E) → (P → Q) → OnOk r P → OnOk r Q
on-ok (Ok _) f p = f p
on-ok (Err _) f p = p

pub on-err : {T E Q : Type 0} (r : Result T E) → Q → OnErr r Q
on-err (Ok _) q = tt
on-err (Err _) q = q
