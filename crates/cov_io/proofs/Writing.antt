-- Writing bytes at the end of a file, piece by piece.
use Rattle.std.proofs.Common.{◌≡◌, ℕ, ◌+◌, ◌-◌, ◌<◌, List, [], ◌++◌, take, drop, length, Some, IsTrue, true, refl, sym, ◌∙◌, ap, subst, append_assoc, append-nil, length-append, length-take, length-drop, arith}
use Rattle.std.proofs.lemmas.List.{take_all}
use Rattle.std.proofs.Math.Seq.{take-add}
use Rattle.cov_io.specs.State.{State, IsTelling}
use Rattle.cov_io.specs.Contents.{Contents, SameFiles, Appends}
use Rattle.cov_io.specs.Frame.{KeepsInput}
use Rattle.cov_io.specs.Calls.{IsWritten, SameOutput, HasSpace}
use Rattle.cov_io.specs.Spill.{HasSpaceFor}
use Rattle.cov_io.proofs.Frames.{input-then, input-stays}

-- the current output, which is the one of old, has got the first bytes of these
pub record IsWriting (bytes : List ℕ) (done : ℕ) (old now : State) : Type 0 where
  pub present : now.has_output ≡ true
  pub faults : now.write_faults ≡ old.write_faults
  pub output : IsTrue old.tells_output → now.output ≡ old.output
  pub kept : KeepsInput old now
  pub put : IsTrue old.tells_files → Appends old.output (take done bytes) old.files now.files

pub appends-none : (name : List ℕ) (f : Contents) → Appends name [] f f
appends-none name f = record { here = λ held e. e ∙ ap Some (sym (append-nil held)); others = λ other ne. refl }

pub appends-then : (name first second : List ℕ) (f g h : Contents) → Appends name first f g → Appends name second g h
    → Appends name (first ++ second) f h
appends-then name first second f g h p q = record {
  here = λ held e. q.here (held ++ first) (p.here held e) ∙ ap Some (append_assoc held first second);
  others = λ other ne. q.others other ne ∙ p.others other ne;
}

pub appends-same : (name bytes : List ℕ) (f g h : Contents) → Appends name bytes f g → SameFiles g h → Appends name bytes f h
appends-same name bytes f g h p same = record {
  here = λ held e. same name ∙ p.here held e;
  others = λ other ne. same other ∙ p.others other ne;
}

pub writes_first : (bytes : List ℕ) (old : State) → old.has_output ≡ true → IsWriting bytes 0 old old
writes_first bytes old h = record {
  present = h;
  faults = refl;
  output = λ _. refl;
  kept = input-stays old;
  put = λ _. appends-none old.output old.files;
}

-- a slice that runs to the end
pub rest_of : (bytes : List ℕ) (done : ℕ) → take (length bytes - done) (drop done bytes) ≡ drop done bytes
rest_of bytes done = take_all (length bytes - done) (drop done bytes) (omega (arith, length-drop done bytes))

pub writes_on : (bytes : List ℕ) (done n : ℕ) (old mid now : State) → IsWriting bytes done old mid → IsTelling old
    → IsWritten n (take (length bytes - done) (drop done bytes)) mid now → SameOutput mid now → now.write_faults ≡ mid.write_faults → KeepsInput mid now
    → IsWriting bytes (done + n) old now
writes_on bytes done n old mid now w t s o f k = record {
  present = o.present ∙ w.present;
  faults = f ∙ w.faults;
  output = λ told. o.output (w.kept.tells.output ∙ told) ∙ w.output told;
  kept = input-then old mid now w.kept k;
  put = λ told.
      let e = w.output (t.output told) in
      let P : List ℕ → Type 0 = λ name. Appends name (take n (drop done bytes)) mid.files now.files in
      let R : List ℕ → Type 0 = λ piece. Appends mid.output (take n piece) mid.files now.files in
      let both = appends-then old.output (take done bytes) (take n (drop done bytes)) old.files mid.files now.files
      (w.put told) (subst P e (subst R (rest_of bytes done) (s.bytes (w.kept.tells.files ∙ told)))) in
      let Q : List ℕ → Type 0 = λ all. Appends old.output all old.files now.files in
      subst Q (sym (take-add done n bytes)) both;
}

pub put-still : (bytes : List ℕ) (done : ℕ) (old mid now : State) → IsWriting bytes done old mid
    → (IsTrue mid.tells_files → SameFiles mid.files now.files)
    → IsTrue old.tells_files → Appends old.output (take done bytes) old.files now.files
put-still bytes done old mid now w same told =
    appends-same old.output (take done bytes) old.files mid.files now.files (w.put told) (same (w.kept.tells.files ∙ told))

-- while bytes are left that the room has space for, the next write finds space
pub space_left : (bytes : List ℕ) (done : ℕ) (old mid : State) → IsWriting bytes done old mid → IsTelling old
    → HasSpaceFor (length bytes) old → done < length bytes → HasSpace mid
space_left bytes done old mid w t s below = record {
  room = w.kept.tells.room ∙ s.room;
  held = s.held ++ take done bytes;
  file = ap mid.files (w.output (t.output (t.files s.room))) ∙ (w.put (t.files s.room)).here s.held s.file;
  below = let r : mid.room ≡ old.room = w.kept.tells.bytes s.room in
      let l = length-append s.held (take done bytes) in
      let k = length-take done bytes in
      omega arith;
}
