-- What the lines of an object stream give is what they spell: the objects gathered one by one, or as a set by name.
use Rattle.std.proofs.Common.{◌≡◌, ℕ, ◌+◌, ◌<◌, ◌≤◌, Bool, true, false, cond, List, [], ◌∷◌, ◌++◌, length, Option, Some, None, Result, Ok, Err, refl, ap, sym, ◌∙◌, subst, arith, append_assoc, length-append, ◌⊎◌, inl, inr, ⊎_elim}
use Rattle.std.specs.Prelude.{nat_lt}
use Rattle.std.proofs.lemmas.List.{append-nil}
use Rattle.std.proofs.lemmas.Bool.Decides.{nat_tests}
use Rattle.vc_object.specs.Decoding.{StoredObject, stored_object}
use Rattle.vc_object.specs.declared.kind.Kind.{Kind}
use Rattle.vc_object.proofs.Reading.{chosen}
use Rattle.vc_pkt.specs.Line.{LineText, flush, text}
use Rattle.vc_pkt.specs.Message.{Stepped, onward, going, run}
use Rattle.vc_pkt.specs.ObjectLine.{IsObjectLine, object_line}
use Rattle.vc_pkt.specs.Carried.{with_object, with_objects}
use Rattle.vc_pkt.specs.ObjectStream.{IsData, IsStream, SpellsSet, Progress, between, inside, ObjectStepped, going_on, full, over, so_far, begun, Gathered, gather_stepped, gather_step, gather_all, set_step}
use Rattle.vc_pkt.specs.declared.fault.PktFault.{PktFault}
use Rattle.vc_pkt.specs.declared.fault.PktFault.TheVariants.{BadRecord}
use Rattle.vc_pkt.proofs.ObjectLines.{line_of, line_again}

-- what two equal successes hold is the same
pub ok_same : {A : Type 0} (x y : A) → ◌≡◌ {A = Result A PktFault} (Ok x) (Ok y) → x ≡ y
ok_same x y e = cc e

so_far_ok : (first : ℕ) (kind : Kind) (size : ℕ) (body : List ℕ) (t : ObjectStepped) → so_far first kind size body ≡ Ok t
    → ((length body < size) × (t ≡ going_on (inside first kind size body))) ⊎ ((length body ≡ size) × (t ≡ full first (stored_object kind body)))
so_far_ok first kind size body t e = ⊎_elim
    (λ big. absurd (cc (big.1)))
    (λ fits. ⊎_elim
    (λ less. inl (let b = less.0 in grind (arith, nat_tests), sym (ok_same _ t less.1)))
    (λ all. inr (let b = all.0 in let c = fits.0 in grind (arith, nat_tests), sym (ok_same _ t all.1)))
    (chosen (nat_lt (length body) size) _ _ _ fits.1))
    (chosen (nat_lt size (length body)) _ _ _ e)

begun_ok : (o : Option (Kind × ℕ)) (number : ℕ) (t : ObjectStepped) → begun number o ≡ Ok t → (found : Kind × ℕ) × (o ≡ Some found) × (found.1 ≤ 16777216) × (so_far number found.0 found.1 [] ≡ Ok t)
begun_ok None number t e = absurd (cc e)
begun_ok (Some found) number t e = ⊎_elim
    (λ big. absurd (cc (big.1)))
    (λ fits. (found, refl, let b = fits.0 in grind (arith, nat_tests), fits.1))
    (chosen (nat_lt 16777216 found.1) _ _ _ e)

so_far_more : (first : ℕ) (kind : Kind) (size : ℕ) (body : List ℕ) → length body < size → so_far first kind size body ≡ Ok (going_on (inside first kind size body))
so_far_more first kind size body h = grind (arith, nat_tests)

so_far_full : (first : ℕ) (kind : Kind) (size : ℕ) (body : List ℕ) → length body ≡ size → so_far first kind size body ≡ Ok (full first (stored_object kind body))
so_far_full first kind size body h = grind (arith, nat_tests)

begun_fits : (kind : Kind) (size number : ℕ) → size ≤ 16777216 → begun number (Some (kind, size)) ≡ so_far number kind size []
begun_fits kind size number h = grind (arith, nat_tests)

no_data : (ls : List LineText) → IsData ls [] → ls ≡ []
no_data [] h = refl
no_data (flush ∷ ls) h = absurd h
no_data (text [] ∷ ls) h = absurd (h.0 refl)
no_data (text (p ∷ ps) ∷ ls) h = absurd (let e = h.1.2 in cc e)

nonempty : (d : List ℕ) → (d ≡ []) ⊎ (0 < length d)
nonempty [] = inl refl
nonempty (b ∷ d) = inr (omega arith)

module _ {A : Type 0} (add : StoredObject → A → A) (T : StoredObject → Bool) where
  abbrev pub state : A → Progress → Gathered A
  state set progress = record { set = set; progress = progress }

  abbrev pub runs : ℕ → A → Progress → List LineText → Result A PktFault
  runs number set progress lines = run (gather_step add T) number (state set progress) lines

  -- what follows a full object
  abbrev taken_or : A → ℕ → StoredObject → Bool → Result (Stepped (Gathered A) A) PktFault
  taken_or set first object b = cond b (Ok (onward (state (add object set) between))) (Err (BadRecord first))

  -- what an end without a fault shows of the first step
  data Goes (set : A) (r : Result ObjectStepped PktFault) (k : Gathered A → Result A PktFault) (lines : List LineText) (result : A) : Type 0 where
    on : (p : Progress) → r ≡ Ok (going_on p) → k (state set p) ≡ Ok result → Goes set r k lines result
    filled : (first : ℕ) (object : StoredObject) → r ≡ Ok (full first object) → T object ≡ true → k (state (add object set) between) ≡ Ok result → Goes set r k lines result
    ended : r ≡ Ok over → lines ≡ [] → result ≡ set → Goes set r k lines result

  full_step : (set : A) (first : ℕ) (object : StoredObject) (k : Gathered A → Result A PktFault) (lines : List LineText) (number : ℕ) (result : A) (b : Bool) → T object ≡ b
      → going (gather_stepped add T set (Ok (full first object))) k lines number ≡ Ok result → (b ≡ true) × (k (state (add object set) between) ≡ Ok result)
  full_step set first object k lines number result true is e = (refl, ap (λ t. going (taken_or set first object t) k lines number) (sym is) ∙ e)
  full_step set first object k lines number result false is e =
      let h : Err (BadRecord first) ≡ Ok result = ap (λ t. going (taken_or set first object t) k lines number) (sym is) ∙ e in absurd (cc h)

  goes : (set : A) (r : Result ObjectStepped PktFault) (k : Gathered A → Result A PktFault) (lines : List LineText) (number : ℕ) (result : A) → going (gather_stepped add T set r) k lines number ≡ Ok result → Goes set r k lines result
  goes set (Err f) k lines number result e = absurd (cc e)
  goes set (Ok (going_on p)) k lines number result e = on p refl e
  goes set (Ok (full first object)) k lines number result e =
      let f = full_step set first object k lines number result (T object) refl e in
      filled first object refl f.0 f.1
  goes set (Ok over) k [] number result e = ended refl refl (sym (ok_same _ result e))
  goes set (Ok over) k (l ∷ ls) number result e = absurd (cc e)

  -- the lines behind an object's first bytes: the rest of its body, and then a stream
  pub record IsRest (set : A) (kind : Kind) (size : ℕ) (body : List ℕ) (lines : List LineText) (result : A) : Type 0 where
    pub ls : List LineText
    pub others : List LineText
    pub d : List ℕ
    pub objects : List StoredObject
    pub pieces : IsData ls d
    pub sized : length (body ++ d) ≡ size
    pub taken : T (stored_object kind (body ++ d)) ≡ true
    pub stream : IsStream T objects others
    pub whole : lines ≡ ls ++ others
    pub once : result ≡ gather_all add set (stored_object kind (body ++ d) ∷ objects)

  pub record IsNext (set : A) (lines : List LineText) (result : A) : Type 0 where
    pub objects : List StoredObject
    pub stream : IsStream T objects lines
    pub once : result ≡ gather_all add set objects

  abbrev pub Means : A → Progress → List LineText → A → Type 0
  Means set between lines result = IsNext set lines result
  Means set (inside first kind size body) lines result = IsRest set kind size body lines result

  -- an object whose first line is there
  with_line : (set : A) (head : List ℕ) (kind : Kind) (size : ℕ) (lines : List LineText) (result : A) → object_line head ≡ Some (kind, size) → size ≤ 16777216 → IsRest set kind size [] lines result
      → IsNext set (text head ∷ lines) result
  with_line set head kind size lines result h small r =
      let line : IsObjectLine kind (length r.d) head = subst (λ n. IsObjectLine kind n head) (sym r.sized) (line_of head kind size h small) in
      record {
        objects = stored_object kind r.d ∷ r.objects;
        stream = (
          text head ∷ r.ls,
          r.others,
          record { first = head; body = r.ls; begins = line; small = let s = r.sized in omega arith; pieces = r.pieces; whole = refl },
          r.taken,
          r.stream,
          ap (λ t. text head ∷ t) r.whole,
        );
        once = r.once;
      }

  pub gather_means : (lines : List LineText) (number : ℕ) (set : A) (p : Progress) (result : A) → runs number set p lines ≡ Ok result → Means set p lines result
  gather_means [] number set p result e = absurd (cc e)
  gather_means (flush ∷ lines) number set between result e = elim (goes set (Ok over) (λ t. run (gather_step add T) (number + 1) t lines) lines (number + 1) result e) [
    | on p r k ↦ absurd (cc r)
    | filled first object r taken k ↦ absurd (cc r)
    | ended r none is ↦ record { objects = []; stream = ap (λ t. flush ∷ t) none; once = is }
  ]
  gather_means (text head ∷ lines) number set between result e = elim (goes set (begun number (object_line head)) (λ t. run (gather_step add T) (number + 1) t lines) lines (number + 1) result e) [
    | on p r k ↦
        let b = begun_ok (object_line head) number (going_on p) r in
        ⊎_elim
        (λ less.
        let at : p ≡ inside number b.0.0 b.0.1 [] = let l = less.1 in cc l in
        let again : runs (number + 1) set (inside number b.0.0 b.0.1 []) lines ≡ Ok result = ap (λ s. runs (number + 1) set s lines) (sym at) ∙ k in
        with_line set head b.0.0 b.0.1 lines result b.1 b.2 (gather_means lines (number + 1) set (inside number b.0.0 b.0.1 []) result again))
        (λ all. absurd (let l = all.1 in cc l))
        (so_far_ok number b.0.0 b.0.1 [] (going_on p) b.3)
    | filled first object r taken k ↦
        let b = begun_ok (object_line head) number (full first object) r in
        ⊎_elim
        (λ less. absurd (let l = less.1 in cc l))
        (λ all.
        let at : object ≡ stored_object b.0.0 [] = let l = all.1 in cc l in
        let next = gather_means lines (number + 1) (add object set) between result k in
        with_line set head b.0.0 b.0.1 lines result b.1 b.2
        (record { ls = []; others = lines; d = []; objects = next.objects; pieces = refl; sized = all.0; taken = ap T (sym at) ∙ taken; stream = next.stream; whole = refl; once = next.once ∙ ap (λ o. gather_all add (add o set) next.objects) at }))
        (so_far_ok number b.0.0 b.0.1 [] (full first object) b.3)
    | ended r none is ↦ absurd (let b = begun_ok (object_line head) number over r in ⊎_elim (λ l. let q = l.1 in cc q) (λ l. let q = l.1 in cc q) (so_far_ok number b.0.0 b.0.1 [] over b.3))
  ]
  gather_means (flush ∷ lines) number set (inside first kind size body) result e = absurd (cc e)
  gather_means (text [] ∷ lines) number set (inside first kind size body) result e = absurd (cc e)
  gather_means (text (q ∷ qs) ∷ lines) number set (inside first kind size body) result e = elim (goes set (so_far first kind size (body ++ q ∷ qs)) (λ t. run (gather_step add T) (number + 1) t lines) lines (number + 1) result e) [
    | on p r k ↦
        ⊎_elim
        (λ less.
        let at : p ≡ inside first kind size (body ++ q ∷ qs) = let l = less.1 in cc l in
        let again : runs (number + 1) set (inside first kind size (body ++ q ∷ qs)) lines ≡ Ok result = ap (λ s. runs (number + 1) set s lines) (sym at) ∙ k in
        let m = gather_means lines (number + 1) set (inside first kind size (body ++ q ∷ qs)) result again in
        let joined : (body ++ q ∷ qs) ++ m.d ≡ body ++ (q ∷ qs ++ m.d) = append_assoc body (q ∷ qs) m.d in
        record {
          ls = text (q ∷ qs) ∷ m.ls;
          others = m.others;
          d = (q ∷ qs) ++ m.d;
          objects = m.objects;
          pieces = ((λ z. cc z), (m.d, m.pieces, refl));
          sized = ap length (sym joined) ∙ m.sized;
          taken = ap (λ b. T (stored_object kind b)) (sym joined) ∙ m.taken;
          stream = m.stream;
          whole = ap (λ t. text (q ∷ qs) ∷ t) m.whole;
          once = m.once ∙ ap (λ b. gather_all add set (stored_object kind b ∷ m.objects)) joined;
        })
        (λ all. absurd (let l = all.1 in cc l))
        (so_far_ok first kind size (body ++ q ∷ qs) (going_on p) r)
    | filled first' object r taken k ↦
        ⊎_elim
        (λ less. absurd (let l = less.1 in cc l))
        (λ all.
        let at : object ≡ stored_object kind (body ++ q ∷ qs) = let l = all.1 in cc l in
        let next = gather_means lines (number + 1) (add object set) between result k in
        record {
          ls = text (q ∷ qs) ∷ [];
          others = lines;
          d = q ∷ qs;
          objects = next.objects;
          pieces = ((λ z. cc z), ([], refl, sym (append-nil (q ∷ qs))));
          sized = all.0;
          taken = ap T (sym at) ∙ taken;
          stream = next.stream;
          whole = refl;
          once = next.once ∙ ap (λ o. gather_all add (add o set) next.objects) at;
        })
        (so_far_ok first kind size (body ++ q ∷ qs) (full first' object) r)
    | ended r none is ↦ absurd (⊎_elim (λ l. let q = l.1 in cc q) (λ l. let q = l.1 in cc q) (so_far_ok first kind size (body ++ q ∷ qs) over r))
  ]

  -- ---- a stream gives its objects
  taken_step : (set : A) (first : ℕ) (object : StoredObject) (k : Gathered A → Result A PktFault) (lines : List LineText) (number : ℕ) → T object ≡ true
      → going (gather_stepped add T set (Ok (full first object))) k lines number ≡ k (state (add object set) between)
  taken_step set first object k lines number taken = ap (λ t. going (taken_or set first object t) k lines number) taken

  data_runs : (ls : List LineText) (set : A) (first : ℕ) (kind : Kind) (size number : ℕ) (body d : List ℕ) (result : A) (others : List LineText) → IsData ls d → length (body ++ d) ≡ size → 0 < length d
      → T (stored_object kind (body ++ d)) ≡ true
      → ((n : ℕ) → runs n (add (stored_object kind (body ++ d)) set) between others ≡ Ok result) → runs number set (inside first kind size body) (ls ++ others) ≡ Ok result
  data_runs [] set first kind size number body d result others h len some taken k = absurd (let z : length d ≡ 0 = ap length h in omega arith)
  data_runs (flush ∷ ls) set first kind size number body d result others h len some taken k = absurd h
  data_runs (text [] ∷ ls) set first kind size number body d result others h len some taken k = absurd (h.0 refl)
  data_runs (text (q ∷ qs) ∷ ls) set first kind size number body d result others (full', (rest, each, is)) len some taken k =
      let next = body ++ q ∷ qs in
      let joined : next ++ rest ≡ body ++ d = append_assoc body (q ∷ qs) rest ∙ ap (λ t. body ++ t) (sym is) in
      let sum : length next + length rest ≡ size = sym (length-append next rest) ∙ ap length joined ∙ len in
      let K : Gathered A → Result A PktFault = λ t. run (gather_step add T) (number + 1) t (ls ++ others) in
      ⊎_elim
      (λ none.
      let stop : so_far first kind size next ≡ Ok (full first (stored_object kind next)) = so_far_full first kind size next (let z = ap length none in omega arith) in
      let left : ls ≡ [] = no_data ls (subst (λ r. IsData ls r) none each) in
      let same : next ≡ body ++ d = sym (append-nil next) ∙ ap (λ t. next ++ t) (sym none) ∙ joined in
      ap (λ r. going (gather_stepped add T set r) K (ls ++ others) (number + 1)) stop
      ∙ taken_step set first (stored_object kind next) K (ls ++ others) (number + 1) (ap (λ b. T (stored_object kind b)) same ∙ taken)
      ∙ ap (λ t. runs (number + 1) (add (stored_object kind next) set) between (t ++ others)) left
      ∙ ap (λ b. runs (number + 1) (add (stored_object kind b) set) between others) same ∙ k (number + 1))
      (λ more'.
      let go : so_far first kind size next ≡ Ok (going_on (inside first kind size next)) = so_far_more first kind size next (omega arith) in
      ap (λ r. going (gather_stepped add T set r) K (ls ++ others) (number + 1)) go
      ∙ data_runs ls set first kind size (number + 1) next rest result others each (ap length joined ∙ len) more' (ap (λ b. T (stored_object kind b)) joined ∙ taken)
      (λ n. ap (λ b. runs n (add (stored_object kind b) set) between others) joined ∙ k n))
      (nonempty rest)

  pub gather_runs : (objects : List StoredObject) (lines : List LineText) (number : ℕ) (set : A) → IsStream T objects lines → runs number set between lines ≡ Ok (gather_all add set objects)
  gather_runs [] lines number set h = ap (runs number set between) h
  gather_runs (object ∷ objects) lines number set (these, others, o, taken, stream, is) =
      let ls = o.body in
      let K : Gathered A → Result A PktFault = λ t. run (gather_step add T) (number + 1) t (ls ++ others) in
      let result = gather_all add (add object set) objects in
      let whole : lines ≡ text o.first ∷ (ls ++ others) = is ∙ ap (λ t. t ++ others) o.whole in
      let first : begun number (object_line o.first) ≡ so_far number object.kind (length object.body) [] =
      ap (begun number) (line_again o.first object.kind (length object.body) o.begins o.small) ∙ begun_fits object.kind (length object.body) number o.small in
      ap (runs number set between) whole
      ∙ ⊎_elim
      (λ none.
      let size : 0 ≡ length object.body = sym (ap length none) in
      let stop : so_far number object.kind (length object.body) [] ≡ Ok (full number (stored_object object.kind [])) = so_far_full number object.kind (length object.body) [] size in
      let left : ls ≡ [] = no_data ls (subst (λ r. IsData ls r) none o.pieces) in
      let same : stored_object object.kind [] ≡ object = ap (stored_object object.kind) (sym none) in
      ap (λ r. going (gather_stepped add T set r) K (ls ++ others) (number + 1)) (first ∙ stop)
      ∙ taken_step set number (stored_object object.kind []) K (ls ++ others) (number + 1) (ap T same ∙ taken)
      ∙ ap (λ t. runs (number + 1) (add (stored_object object.kind []) set) between (t ++ others)) left
      ∙ ap (λ s. runs (number + 1) (add s set) between others) same
      ∙ gather_runs objects others (number + 1) (add object set) stream)
      (λ some.
      let go : so_far number object.kind (length object.body) [] ≡ Ok (going_on (inside number object.kind (length object.body) [])) = so_far_more number object.kind (length object.body) [] some in
      ap (λ r. going (gather_stepped add T set r) K (ls ++ others) (number + 1)) (first ∙ go)
      ∙ data_runs ls set number object.kind (length object.body) (number + 1) [] object.body result others o.pieces refl some taken
      (λ n. gather_runs objects others n (add object set) stream))
      (nonempty object.body)

module _ (T : StoredObject → Bool) where
  as_set : (set : List StoredObject) (os : List StoredObject) → gather_all with_object set os ≡ with_objects set os
  as_set set [] = refl
  as_set set (o ∷ os) = as_set (with_object o set) os

  -- ---- the set that lines spell
  pub record IsSetOf (set : List StoredObject) (lines : List LineText) (result : List StoredObject) : Type 0 where
    pub objects : List StoredObject
    pub stream : IsStream T objects lines
    pub once : result ≡ with_objects set objects

  pub means : (lines : List LineText) (number : ℕ) (set result : List StoredObject) → run (set_step T) number (record { set = set; progress = between }) lines ≡ Ok result → IsSetOf set lines result
  means lines number set result e = let m = gather_means with_object T lines number set between result e in record { objects = m.objects; stream = m.stream; once = m.once ∙ as_set set m.objects }

  pub stream_runs : (objects : List StoredObject) (lines : List LineText) (number : ℕ) (set : List StoredObject) → IsStream T objects lines → run (set_step T) number (record { set = set; progress = between }) lines ≡ Ok (with_objects set objects)
  stream_runs objects lines number set h = gather_runs with_object T objects lines number set h ∙ ap Ok (as_set set objects)

  pub set_spelled : (result : List StoredObject) (lines : List LineText) → run (set_step T) 0 (record { set = []; progress = between }) lines ≡ Ok result → SpellsSet T result lines
  set_spelled result lines e = let m = means lines 0 [] result e in record { objects = m.objects; stream = m.stream; once = m.once }

  pub set_given : (result : List StoredObject) (lines : List LineText) → SpellsSet T result lines → run (set_step T) 0 (record { set = []; progress = between }) lines ≡ Ok result
  set_given result lines s = stream_runs s.objects lines 0 [] s.stream ∙ ap Ok (sym s.once)
