-- The machine answers the reading of a text that has no fault, and otherwise its one fault.
use Rattle.std.proofs.Common.{◌≡◌, ℕ, suc, ◌+◌, ◌-◌, ◌<◌, ◌≤◌, List, [], ◌∷◌, ◌++◌, length, take, drop, flat_map, All, Option, Some, None, option_and_then, Result, Ok, Err, IfOk, OnOk, IsErrOf, ◌⊎◌, inl, inr, ⊎_elim, refl, ap, ◌∙◌, sym, subst, arith, add-zero, take-add}
use Rattle.std.specs.List.{AllByRecursion}
use Rattle.std.specs.Option.{option_or}
use Rattle.std.proofs.lemmas.Bool.{cases_order}
use Rattle.std.proofs.lemmas.List.Elements.{All-weaker, recursion_from_All}
use Rattle.cov_types.specs.Coverage.{Members}
use Rattle.geo_text.specs.Token.{Numeral}
use Rattle.geo_text.specs.Decimal.{value}
use Rattle.geo_text.specs.Grammar.{Ring, Geometry, IsFile}
use Rattle.geo_text.specs.Reading.{elements, coverage, Reads}
use Rattle.geo_text.specs.Fault.{IsSyntaxFault, rings, numbers, extra_places, IsNumberFine, IsRingFine, IsPlanarFile, IsNumericFile, IsFirstNumber, IsFirstRing, IsFault, HasNoFault}
use Rattle.geo_text.specs.Number.{precision_at}
use Rattle.geo_text.specs.declared.number.TheConstants.{CAP}
use Rattle.geo_text.specs.Machine.{ParserState, Kept, start, ending, read_byte, answer, answer_at, answer_by, unless_fault, Gives}
use Rattle.geo_text.specs.declared.error.TextError.{TextError}
use Rattle.geo_text.specs.declared.error.TextError.TheVariants as errors
use Rattle.geo_text.specs.declared.error.TextFault.{TextFault}
use Rattle.geo_text.specs.declared.error.TextFault.TheVariants.{Syntax, NotPlanar, NotWhole, OutOfRange, RingShort, RingOpen}
use Rattle.geo_text.specs.declared.lexeme.Lexeme.{Lexeme}
use Rattle.geo_text.specs.declared.lexeme.Lexeme.TheVariants.{Blank}
use Rattle.geo_text.specs.declared.place.Place.{Place}
use Rattle.geo_text.specs.declared.place.Place.TheVariants.{Outside}
use Rattle.geo_text.proofs.Options.{none_some, some_equal, opened}
use Rattle.geo_text.proofs.Keeping.{read_value, first_extra, first_number_fault, first_ring_fault}
use Rattle.geo_text.proofs.Parsing.{end_of}
use Rattle.geo_text.proofs.Typing.{read_bytes}
use Rattle.geo_text.proofs.Alive.{alive, alive-append, read_bytes-file, file-read_bytes, BeginsFile-alive, alive-BeginsFile}
use Rattle.geo_text.proofs.Numbers.{read_value-fine, IsFaultOfNumber, NumberFault, scan_numbers, first_number_fault-fine, first_number_fault-behind}
use Rattle.geo_text.proofs.Rings.{alike_members, IsReadTrue, rings_read_true, IsFaultOfRing, RingFault, scan_rings, first_ring_fault-fine, first_ring_fault-behind}

module _ (scale : Option ℕ) where
  -- ---- the answer to a file

  -- the answer to all the bytes
  abbrev pub answer_to : List ℕ → Result Members TextFault
  answer_to bytes = answer (precision_at scale) 0 Blank start bytes

  -- where the bytes are taken to their end, that end decides
  answer-read : (bytes : List ℕ) (a : ℕ) (l : Lexeme) (s f : ParserState) → read_bytes (precision_at scale) a l s bytes ≡ Some f → answer (precision_at scale) a l s bytes ≡ answer_at (a + length bytes) f.place f.kept
  answer-read [] a l s f e = ap (answer_by a (λ (last : ParserState). answer_at a last.place last.kept)) e ∙ ap (λ i. answer_at i f.place f.kept) (omega arith)
  answer-read (b ∷ bytes) a l s f e =
      let next = opened (read_byte (precision_at scale) a l s b) (λ (p : Lexeme × ParserState). read_bytes (precision_at scale) (a + 1) p.0 p.1 bytes) f e in
      ap (answer_by a (λ (p : Lexeme × ParserState). answer (precision_at scale) (a + 1) p.0 p.1 bytes)) next.1
      ∙ answer-read bytes (a + 1) next.0.0 next.0.1 f next.2
      ∙ ap (λ i. answer_at i f.place f.kept) (omega arith)

  -- the members that are read of a file, and the fault that is found in it
  abbrev members_read : List Geometry → Members
  members_read gs = (end_of (precision_at scale) gs).kept.members

  abbrev fault_found : List Geometry → Option TextFault
  fault_found gs = option_or (first_extra (precision_at scale) (extra_places gs)) (option_or (first_number_fault (precision_at scale) (numbers gs)) (first_ring_fault (precision_at scale) 0 (rings gs)))

  answer-file : (bytes : List ℕ) (gs : List Geometry) → IsFile bytes gs → answer_to bytes ≡ unless_fault (members_read gs) (fault_found gs)
  answer-file bytes gs h = answer-read bytes 0 Blank start (end_of (precision_at scale) gs) (read_bytes-file (precision_at scale) bytes gs h)

  -- ---- the syntax

  -- the bytes up to k are taken, and not one more
  record Stops (a : ℕ) (l : Lexeme) (s : ParserState) (bytes : List ℕ) : Type 0 where
    count : ℕ
    within : count ≤ length bytes
    state : Lexeme × ParserState
    taken : alive (precision_at scale) a l s (take count bytes) ≡ Some state
    refused : count < length bytes → alive (precision_at scale) a l s (take (suc count) bytes) ≡ None
    no_end : (f : ParserState) → read_bytes (precision_at scale) a l s bytes ≡ Some f → f.place ≡ Outside → ⊥
    answered : answer (precision_at scale) a l s bytes ≡ Err (Syntax (a + count))

  abbrev Ends : ℕ → Lexeme → ParserState → List ℕ → Type 0
  Ends a l s bytes = (f : ParserState) × (read_bytes (precision_at scale) a l s bytes ≡ Some f) × (f.place ≡ Outside)

  is_outside : (place : Place) → (place ≡ Outside) ⊎ ((place ≡ Outside → ⊥) × ((a : ℕ) (k : Kept) → answer_at a place k ≡ Err (Syntax a)))
  is_outside Outside = inl refl
  is_outside place = inr ((λ e. cc), λ a k. refl)

  at_end : (a : ℕ) (l : Lexeme) (s : ParserState) (o : Option ParserState) → ending CAP l s ≡ o → Ends a l s [] ⊎ Stops a l s []
  at_end a l s None e = inr (record {
    count = 0;
    within = omega arith;
    state = (l, s);
    taken = refl;
    refused = λ h. absurd (omega arith);
    no_end = λ f r out. none_some f (sym e ∙ r);
    answered = ap (answer_by a (λ (last : ParserState). answer_at a last.place last.kept)) e ∙ ap (λ i. Err (Syntax i)) (sym (add-zero a));
  })
  at_end a l s (Some f) e =
      ⊎_elim (λ out. inl (f, e, out))
      (λ inside. inr (record {
        count = 0;
        within = omega arith;
        state = (l, s);
        taken = refl;
        refused = λ h. absurd (omega arith);
        no_end = λ g r out. inside.0 (ap (λ (t : ParserState). t.place) (some_equal f g (sym e ∙ r)) ∙ out);
        answered = ap (answer_by a (λ (last : ParserState). answer_at a last.place last.kept)) e ∙ inside.1 a f.kept ∙ ap (λ i. Err (Syntax i)) (sym (add-zero a));
      }))
      (is_outside f.place)

  on_byte : (a : ℕ) (l : Lexeme) (s : ParserState) (b : ℕ) (bytes : List ℕ) → ((i : ℕ) (m : Lexeme) (t : ParserState) → Ends i m t bytes ⊎ Stops i m t bytes)
      → (o : Option (Lexeme × ParserState)) → read_byte (precision_at scale) a l s b ≡ o → Ends a l s (b ∷ bytes) ⊎ Stops a l s (b ∷ bytes)
  on_byte a l s b bytes more None e = inr (record {
    count = 0;
    within = omega arith;
    state = (l, s);
    taken = refl;
    refused = λ h. ap (option_and_then (λ (p : Lexeme × ParserState). alive (precision_at scale) (a + 1) p.0 p.1 [])) e;
    no_end = λ f r out. none_some f (sym (ap (option_and_then (λ (p : Lexeme × ParserState). read_bytes (precision_at scale) (a + 1) p.0 p.1 bytes)) e) ∙ r);
    answered = ap (answer_by a (λ (p : Lexeme × ParserState). answer (precision_at scale) (a + 1) p.0 p.1 bytes)) e ∙ ap (λ i. Err (Syntax i)) (sym (add-zero a));
  })
  on_byte a l s b bytes more (Some p) e =
      ⊎_elim (λ ends. inl (ends.0, ap (option_and_then (λ (q : Lexeme × ParserState). read_bytes (precision_at scale) (a + 1) q.0 q.1 bytes)) e ∙ ends.1, ends.2))
      (λ w. inr (record {
        count = suc w.count;
        within = omega (arith, w.within);
        state = w.state;
        taken = ap (option_and_then (λ (q : Lexeme × ParserState). alive (precision_at scale) (a + 1) q.0 q.1 (take w.count bytes))) e ∙ w.taken;
        refused = λ h. ap (option_and_then (λ (q : Lexeme × ParserState). alive (precision_at scale) (a + 1) q.0 q.1 (take (suc w.count) bytes))) e ∙ w.refused (omega arith);
        no_end = λ f r out. w.no_end f (sym (ap (option_and_then (λ (q : Lexeme × ParserState). read_bytes (precision_at scale) (a + 1) q.0 q.1 bytes)) e) ∙ r) out;
        answered = ap (answer_by a (λ (q : Lexeme × ParserState). answer (precision_at scale) (a + 1) q.0 q.1 bytes)) e ∙ w.answered ∙ ap (λ i. Err (Syntax i)) (omega arith);
      }))
      (more (a + 1) p.0 p.1)

  ends_or_stops : (bytes : List ℕ) (a : ℕ) (l : Lexeme) (s : ParserState) → Ends a l s bytes ⊎ Stops a l s bytes
  ends_or_stops [] a l s = at_end a l s (ending CAP l s) refl
  ends_or_stops (b ∷ bytes) a l s = on_byte a l s b bytes (ends_or_stops bytes) (read_byte (precision_at scale) a l s b) refl

  not_taken : (bytes : List ℕ) (n k : ℕ) → alive (precision_at scale) 0 Blank start (take n bytes) ≡ None → n ≤ k → alive (precision_at scale) 0 Blank start (take k bytes) ≡ None
  not_taken bytes n k e h =
      let parts : take k bytes ≡ take n bytes ++ take (k - n) (drop n bytes) = ap (λ i. take i bytes) (omega arith) ∙ take-add n (k - n) bytes in
      ap (alive (precision_at scale) 0 Blank start) parts
      ∙ alive-append (precision_at scale) (take n bytes) (take (k - n) (drop n bytes)) 0 Blank start
      ∙ ap (option_and_then (λ (p : Lexeme × ParserState). alive (precision_at scale) (0 + length (take n bytes)) p.0 p.1 (take (k - n) (drop n bytes)))) e

  -- the bytes that are taken, and no more, begin a file
  syntax_fault : (bytes : List ℕ) (w : Stops 0 Blank start bytes) → IsSyntaxFault bytes w.count
  syntax_fault bytes w = record {
    no_file = λ gs h. w.no_end (end_of (precision_at scale) gs) (read_bytes-file (precision_at scale) bytes gs h) refl;
    within = w.within;
    begins = BeginsFile-alive (precision_at scale) (take w.count bytes) w.state w.taken;
    longest = λ k more within begins.
        let life = alive-BeginsFile (precision_at scale) (take k bytes) begins in
        none_some life.0 (sym (not_taken bytes (suc w.count) k (w.refused (omega arith)) (omega arith)) ∙ life.1);
  }

  stops_answer : (bytes : List ℕ) (w : Stops 0 Blank start bytes) → answer_to bytes ≡ Err (Syntax w.count)
  stops_answer bytes w = w.answered ∙ ap (λ i. Err (Syntax i)) (omega arith)

  -- there is one longest beginning of a file
  one_syntax_fault : (bytes : List ℕ) (i j : ℕ) → IsSyntaxFault bytes i → IsSyntaxFault bytes j → i ≡ j
  one_syntax_fault bytes i j h k =
      ⊎_elim (λ e. e) (λ w. ⊎_elim (λ l. absurd (h.longest j l k.within k.begins)) (λ l. absurd (k.longest i l h.within h.begins)) w) (cases_order i j)

  file_of_end : (bytes : List ℕ) → Ends 0 Blank start bytes → (gs : List Geometry) × IsFile bytes gs
  file_of_end bytes (f, e, out) = file-read_bytes (precision_at scale) bytes f e out

  -- ---- what has no fault

  pub record IsClean (bytes : List ℕ) (gs : List Geometry) : Type 0 where
    pub is_numeric : IsNumericFile scale bytes gs
    pub rings_fine : All (IsRingFine scale) (rings gs)

  all_read_true : (gs : List Geometry) → All (IsNumberFine scale) (numbers gs) → AllByRecursion (λ n. read_value (precision_at scale) n ≡ value scale n) (numbers gs)
  all_read_true gs h = recursion_from_All _ (numbers gs) (All-weaker (IsNumberFine scale) (λ n. read_value (precision_at scale) n ≡ value scale n) (read_value-fine scale) (numbers gs) h)

  numeric_reads : (bytes : List ℕ) (gs : List Geometry) → IsNumericFile scale bytes gs → AllByRecursion (IsReadTrue scale) (rings gs)
  numeric_reads bytes gs h = rings_read_true scale (rings gs) (all_read_true gs h.numeric)

  -- the answer where there is no dimension word and no third number
  planar_answer : (bytes : List ℕ) (gs : List Geometry) → IsPlanarFile bytes gs → answer_to bytes ≡ unless_fault (members_read gs) (option_or (first_number_fault (precision_at scale) (numbers gs)) (first_ring_fault (precision_at scale) 0 (rings gs)))
  planar_answer bytes gs h =
      answer-file bytes gs h.is_file
      ∙ ap (λ places. unless_fault (members_read gs) (option_or (first_extra (precision_at scale) places) (option_or (first_number_fault (precision_at scale) (numbers gs)) (first_ring_fault (precision_at scale) 0 (rings gs))))) h.planar

  -- and where the numbers are fine
  numeric_answer : (bytes : List ℕ) (gs : List Geometry) → IsNumericFile scale bytes gs → answer_to bytes ≡ unless_fault (members_read gs) (first_ring_fault (precision_at scale) 0 (rings gs))
  numeric_answer bytes gs h =
      planar_answer bytes gs h.is_planar
      ∙ ap (λ o. unless_fault (members_read gs) (option_or o (first_ring_fault (precision_at scale) 0 (rings gs)))) (first_number_fault-fine scale (numbers gs) h.numeric)

  members-true : (gs : List Geometry) → AllByRecursion (λ n. read_value (precision_at scale) n ≡ value scale n) (numbers gs) → members_read gs ≡ coverage scale gs
  members-true gs h = alike_members (read_value (precision_at scale)) (value scale) (flat_map elements gs) h

  pub clean_answer : (bytes : List ℕ) (gs : List Geometry) → IsClean bytes gs → answer_to bytes ≡ Ok (coverage scale gs)
  clean_answer bytes gs h =
      numeric_answer bytes gs h.is_numeric
      ∙ ap (unless_fault (members_read gs)) (first_ring_fault-fine scale (rings gs) 0 (numeric_reads bytes gs h.is_numeric) h.rings_fine)
      ∙ ap Ok (members-true gs (all_read_true gs h.is_numeric.numeric))

  -- ---- what has a fault

  number_answer : (bytes : List ℕ) (at : ℕ) (n : Numeral) (e : TextFault) → IsFirstNumber scale bytes at n → IsFaultOfNumber scale n e → answer_to bytes ≡ Err e
  number_answer bytes at n e h f =
      planar_answer bytes h.geometries h.is_planar
      ∙ ap (λ ns. unless_fault (members_read h.geometries) (option_or (first_number_fault (precision_at scale) ns) (first_ring_fault (precision_at scale) 0 (rings h.geometries)))) h.first.split
      ∙ ap (λ o. unless_fault (members_read h.geometries) (option_or o (first_ring_fault (precision_at scale) 0 (rings h.geometries)))) (first_number_fault-behind scale h.before h.first.after n e h.first.fine f)

  ring_answer : (bytes : List ℕ) (ring : ℕ) (r : Ring) (e : TextFault) → IsFirstRing scale bytes ring r → IsFaultOfRing scale ring r e → answer_to bytes ≡ Err e
  ring_answer bytes ring r e h f =
      let place : 0 + length h.before ≡ ring = omega (arith, h.here) in
      let true_points = subst (AllByRecursion (IsReadTrue scale)) h.first.split (numeric_reads bytes h.geometries h.is_numeric) in
      numeric_answer bytes h.geometries h.is_numeric
      ∙ ap (λ rs. unless_fault (members_read h.geometries) (first_ring_fault (precision_at scale) 0 rs)) h.first.split
      ∙ ap (unless_fault (members_read h.geometries)) (first_ring_fault-behind scale h.before h.first.after r 0 e true_points h.first.fine (subst (λ (i : ℕ). IsFaultOfRing scale i r e) (sym place) f))

  -- the machine answers each fault
  pub fault_answer : (bytes : List ℕ) (fault : TextFault) → IsFault scale bytes fault → answer_to bytes ≡ Err fault
  fault_answer bytes (Syntax at) h =
      ⊎_elim (λ ends. let read = file_of_end bytes ends in absurd (h.no_file read.0 read.1))
      (λ w. stops_answer bytes w ∙ ap (λ i. Err (Syntax i)) (one_syntax_fault bytes w.count at (syntax_fault bytes w) h))
      (ends_or_stops bytes 0 Blank start)
  fault_answer bytes (NotPlanar at) (gs, more, is_file, same) =
      answer-file bytes gs is_file
      ∙ ap (λ places. unless_fault (members_read gs) (option_or (first_extra (precision_at scale) places) (option_or (first_number_fault (precision_at scale) (numbers gs)) (first_ring_fault (precision_at scale) 0 (rings gs))))) same
  fault_answer bytes (NotWhole at) (n, first, h) = number_answer bytes at n (NotWhole at) first (inl (ap NotWhole (sym first.here), h))
  fault_answer bytes (OutOfRange at) (n, first, w, h) = number_answer bytes at n (OutOfRange at) first (inr (ap OutOfRange (sym first.here), w, h))
  fault_answer bytes (RingShort ring) (r, first, h) = ring_answer bytes ring r (RingShort ring) first (inl (refl, h))
  fault_answer bytes (RingOpen ring) (r, first, l, h) = ring_answer bytes ring r (RingOpen ring) first (inr (refl, l, h))

  -- ---- each text is clean or has a fault

  abbrev HasFault : List ℕ → Type 0
  HasFault bytes = (fault : TextFault) × IsFault scale bytes fault

  number_has_fault : (bytes : List ℕ) (gs : List Geometry) → IsPlanarFile bytes gs → NumberFault scale (numbers gs) → HasFault bytes
  number_has_fault bytes gs h w =
      let first : IsFirstNumber scale bytes w.number.at w.number = record { geometries = gs; before = w.before; is_planar = h; first = w.first; here = refl } in
      ⊎_elim (λ f. (NotWhole w.number.at, (w.number, first, f.1))) (λ f. (OutOfRange w.number.at, (w.number, first, f.1, f.2))) w.is_fault

  ring_has_fault : (bytes : List ℕ) (gs : List Geometry) → IsNumericFile scale bytes gs → RingFault scale 0 (rings gs) → HasFault bytes
  ring_has_fault bytes gs h w =
      let place : length w.before ≡ 0 + length w.before = omega arith in
      let first : IsFirstRing scale bytes (0 + length w.before) w.ring = record { geometries = gs; before = w.before; is_numeric = h; first = w.first; here = place } in
      ⊎_elim (λ f. (RingShort (0 + length w.before), (w.ring, first, f.1))) (λ f. (RingOpen (0 + length w.before), (w.ring, first, f.1, f.2))) w.is_fault

  file_clean_or_fault : (bytes : List ℕ) (gs : List Geometry) → IsFile bytes gs → ((hs : List Geometry) × IsClean bytes hs) ⊎ HasFault bytes
  file_clean_or_fault bytes gs is_file = by_extras (extra_places gs) refl
    where
      by_numbers : IsPlanarFile bytes gs → ((hs : List Geometry) × IsClean bytes hs) ⊎ HasFault bytes
      by_numbers h =
          ⊎_elim (λ numeric. let hn : IsNumericFile scale bytes gs = record { is_planar = h; numeric = numeric } in
          ⊎_elim (λ fine. inl (gs, record { is_numeric = hn; rings_fine = fine })) (λ w. inr (ring_has_fault bytes gs hn w)) (scan_rings scale (rings gs) 0))
          (λ w. inr (number_has_fault bytes gs h w))
          (scan_numbers scale (numbers gs))

      by_extras : (places : List ℕ) → extra_places gs ≡ places → ((hs : List Geometry) × IsClean bytes hs) ⊎ HasFault bytes
      by_extras [] e = by_numbers (record { is_file = is_file; planar = e })
      by_extras (a ∷ more) e = inr (NotPlanar a, (gs, more, is_file, e))

  pub clean_or_fault : (bytes : List ℕ) → ((gs : List Geometry) × IsClean bytes gs) ⊎ ((fault : TextFault) × IsFault scale bytes fault)
  clean_or_fault bytes =
      ⊎_elim (λ ends. let read = file_of_end bytes ends in file_clean_or_fault bytes read.0 read.1)
      (λ w. inr (Syntax w.count, syntax_fault bytes w))
      (ends_or_stops bytes 0 Blank start)

  -- ---- what the answers mean

  result_apart : {A E : Type 0} (x : A) (e : E) → Ok x ≡ Err e → ⊥
  result_apart x e p = cc

  ok_equal : {A E : Type 0} (x y : A) → let r : Result A E = Ok x in r ≡ Ok y → x ≡ y
  ok_equal x y p = cc

  err_equal : {A E : Type 0} (x y : E) → let r : Result A E = Err x in r ≡ Err y → x ≡ y
  err_equal x y p = cc

  pub ok_reads : (bytes : List ℕ) (c : Members) → answer_to bytes ≡ Ok c → (gs : List Geometry) × IsClean bytes gs × (c ≡ coverage scale gs)
  ok_reads bytes c e =
      ⊎_elim (λ w. (w.0, w.1, ok_equal c (coverage scale w.0) (sym e ∙ clean_answer bytes w.0 w.1))) (λ f. absurd (result_apart c f.0 (sym e ∙ fault_answer bytes f.0 f.1))) (clean_or_fault bytes)

  pub ok_faultless : (bytes : List ℕ) (c : Members) → answer_to bytes ≡ Ok c → HasNoFault scale bytes
  ok_faultless bytes c e fault h = result_apart c fault (sym e ∙ fault_answer bytes fault h)

  pub err_fault : (bytes : List ℕ) (fault : TextFault) → answer_to bytes ≡ Err fault → IsFault scale bytes fault
  err_fault bytes fault e =
      ⊎_elim (λ w. absurd (result_apart (coverage scale w.0) fault (sym (clean_answer bytes w.0 w.1) ∙ e))) (λ f. subst (IsFault scale bytes) (err_equal f.0 fault (sym (fault_answer bytes f.0 f.1) ∙ e)) f.1) (clean_or_fault bytes)

  -- a text has at most one fault
  pub one_fault : (bytes : List ℕ) (e f : TextFault) → IsFault scale bytes e → IsFault scale bytes f → e ≡ f
  one_fault bytes e f h k = err_equal e f (sym (fault_answer bytes e h) ∙ fault_answer bytes f k)

  -- ---- the code's result

  -- what a result of the code says
  pub record Says (bytes : List ℕ) (result : Result Members TextError) : Type 0 where
    pub read : IfOk result (λ c. Reads scale bytes c)
    pub faultless : OnOk result (HasNoFault scale bytes)
    pub fault : (fault : TextFault) → IsErrOf result (errors.Fault fault) → IsFault scale bytes fault

  fault_equal : (e f : TextFault) → let r : Result Members TextError = Err (errors.Fault e) in r ≡ Err (errors.Fault f) → e ≡ f
  fault_equal e f p = cc

  no_memory_apart : (f : TextFault) → let r : Result Members TextError = Err errors.NoMemory in r ≡ Err (errors.Fault f) → ⊥
  no_memory_apart f p = cc

  ok_apart : (c : Members) (e : TextError) → Ok c ≡ Err e → ⊥
  ok_apart c e p = cc

  pub says : (bytes : List ℕ) (result : Result Members TextError) → Gives result (answer_to bytes) → Says bytes result
  says bytes (Ok c) g =
      let read = ok_reads bytes c g in
      record { read = (read.0, read.1.is_numeric.is_planar.is_file, read.2); faultless = ok_faultless bytes c g; fault = λ fault e. absurd (ok_apart c (errors.Fault fault) e) }
  says bytes (Err (errors.Fault e)) g = record { read = tt; faultless = tt; fault = λ fault p. subst (IsFault scale bytes) (fault_equal e fault p) (err_fault bytes e g) }
  says bytes (Err errors.NoMemory) g = record { read = tt; faultless = tt; fault = λ fault p. absurd (no_memory_apart fault p) }

  -- a text that is read without a fault
  pub read_or_fault : (bytes : List ℕ) → ((c : Members) × Reads scale bytes c × HasNoFault scale bytes) ⊎ ((fault : TextFault) × IsFault scale bytes fault)
  read_or_fault bytes =
      ⊎_elim (λ w. inl (coverage scale w.0, (w.0, w.1.is_numeric.is_planar.is_file, refl), ok_faultless bytes (coverage scale w.0) (clean_answer bytes w.0 w.1))) (λ f. inr f) (clean_or_fault bytes)
