-- What the lines of a push give is what they spell.
use Rattle.std.proofs.Common.{◌≡◌, ℕ, ◌+◌, ◌<◌, ◌≤◌, ◌||◌, Bool, true, false, cond, not, List, [], ◌∷◌, ◌++◌, length, Option, Some, None, Result, Ok, Err, refl, ap, sym, ◌∙◌, subst, arith, append_assoc, length-append}
use Rattle.std.specs.Prelude.{nat_lt, find}
use Rattle.std.proofs.lemmas.List.{append-nil}
use Rattle.std.proofs.lemmas.Bool.Decides.{nat_tests}
use Rattle.vc_object.specs.Decoding.{StoredObject}
use Rattle.vc_pkt.specs.Carried.{with_object, with_objects}
use Rattle.vc_pkt.specs.Line.{LineText, flush, text}
use Rattle.vc_pkt.specs.Message.{Stepped, onward, complete, going, run, GivenBy}
use Rattle.vc_pkt.specs.ObjectStream.{Gathered, between, gather_step, gather_all, is_any}
use Rattle.vc_pkt.specs.declared.fault.PktFault.{PktFault}
use Rattle.vc_pkt.specs.declared.fault.PktFault.TheVariants.{TooMany}
use Rattle.vc_pkt.proofs.StreamLaws.{gather_means, gather_runs, ok_same}
use Rattle.vc_fetch.specs.Pack.{is_object}
use Rattle.vc_push.specs.Push.{CommandText, Carried, HeadText, PushText, AreCommandLines, IsFirstCommandLine, SpellsCarried, SpellsPush, carried_or, carried_of, only_deletes, command_line, carry, PushState, commanding, streaming, no_commands, one_more, with_carried, with_command, with_commands, push_step}
use Rattle.vc_push.proofs.CommandLines.{command_some, command_again, first_command_some, first_command_again}

-- ---- what is carried: the first object at fault, or the set
abbrev is_bad : StoredObject → Bool
is_bad o = not (is_object o)

abbrev carried_from : List StoredObject → Option StoredObject → List StoredObject → Carried
carried_from set None os = Ok (with_objects set os)
carried_from set (Some bad) os = Err bad

err_stays : (bad : StoredObject) (os : List StoredObject) → gather_all carry (Err bad) os ≡ Err bad
err_stays bad [] = refl
err_stays bad (o ∷ os) = err_stays bad os

shift : (set : List StoredObject) (o : StoredObject) (os : List StoredObject) (found : Option StoredObject) → carried_from (with_object o set) found os ≡ carried_from set found (o ∷ os)
shift set o os None = refl
shift set o os (Some bad) = refl

all_from : (os set : List StoredObject) → gather_all carry (Ok set) os ≡ carried_from set (find is_bad os) os
all_from [] set = refl
all_from (o ∷ os) set = by (is_object o) (λ s. all_from os s)
  where
    by : (b : Bool) → ((s : List StoredObject) → gather_all carry (Ok s) os ≡ carried_from s (find is_bad os) os)
        → gather_all carry (cond b (Ok (with_object o set)) (Err o)) os ≡ carried_from set (cond (not b) (Some o) (find is_bad os)) (o ∷ os)
    by true h = h (with_object o set) ∙ shift set o os (find is_bad os)
    by false h = err_stays o os

all_carried : (os : List StoredObject) → gather_all carry (Ok []) os ≡ carried_of os
all_carried os = all_from os [] ∙ same (find is_bad os)
  where
    same : (found : Option StoredObject) → carried_from [] found os ≡ carried_or found os
    same None = refl
    same (Some bad) = refl

-- ---- the stream
abbrev with_push : HeadText → Result Carried PktFault → Result PushText PktFault
with_push head (Ok carried) = Ok (with_carried head carried)
with_push head (Err f) = Err f

abbrev head_in : PushText → HeadText
head_in p = record { atomic = p.atomic; commands = p.commands }

abbrev Next : Type 0
Next = PushState → Result PushText PktFault

abbrev Step : Type 0
Step = Result (Stepped PushState PushText) PktFault

step_both : (head : HeadText) (r : Result (Stepped (Gathered Carried) Carried) PktFault) (k : Next) (j : Gathered Carried → Result Carried PktFault) (rest : List LineText) (n : ℕ)
    → ((s : Gathered Carried) → k (streaming head s) ≡ with_push head (j s)) → going (with_commands head r) k rest n ≡ with_push head (going r j rest n)
step_both head (Err f) k j rest n h = refl
step_both head (Ok (onward s)) k j rest n h = h s
step_both head (Ok (complete carried)) k j [] n h = refl
step_both head (Ok (complete carried)) k j (l ∷ ls) n h = refl

stream_both : (lines : List LineText) (n : ℕ) (head : HeadText) (s : Gathered Carried) → run push_step n (streaming head s) lines ≡ with_push head (run (gather_step carry is_any) n s lines)
stream_both [] n head s = refl
stream_both (line ∷ rest) n head s =
    step_both head (gather_step carry is_any n s line) (λ t. run push_step (n + 1) t rest) (λ t. run (gather_step carry is_any) (n + 1) t rest) rest (n + 1) (λ t. stream_both rest (n + 1) head t)

with_push_ok : (head : HeadText) (r : Result Carried PktFault) (p : PushText) → with_push head r ≡ Ok p → (r ≡ Ok p.carried) × (head_in p ≡ head)
with_push_ok head (Ok carried) p e =
    let same = ok_same (with_carried head carried) p e in
    (ap (λ (q : PushText). Ok q.carried) same, sym (ap head_in same))
with_push_ok head (Err f) p e = absurd (cc e)

abbrev started : Gathered Carried
started = record { set = Ok []; progress = between }

-- the flush after the commands, which may end the message
abbrev flushed_or : HeadText → Bool → Step
flushed_or head b = cond b (Ok (complete (with_carried head (Ok [])))) (Ok (onward (streaming head started)))

no_more : (head : HeadText) (k : Next) (rest : List LineText) (n : ℕ) (p : PushText) → going (Ok (complete (with_carried head (Ok [])))) k rest n ≡ Ok p → (rest ≡ []) × (with_carried head (Ok []) ≡ p)
no_more head k [] n p e = (refl, ok_same _ p e)
no_more head k (l ∷ ls) n p e = absurd (cc e)

flushed_ok : (head : HeadText) (rest : List LineText) (n : ℕ) (p : PushText) (b : Bool) → going (flushed_or head b) (λ t. run push_step n t rest) rest n ≡ Ok p → (head_in p ≡ head) × SpellsCarried b p.carried rest
flushed_ok head rest n p true e =
    let d = no_more head (λ t. run push_step n t rest) rest n p e in
    (sym (ap head_in d.1), (d.0, sym (ap (λ (q : PushText). q.carried) d.1)))
flushed_ok head rest n p false e =
    let w = with_push_ok head (run (gather_step carry is_any) n started rest) p (sym (stream_both rest n head started) ∙ e) in
    let m = gather_means carry is_any rest n (Ok []) between p.carried w.0 in
    (w.1, (m.objects, m.stream, m.once ∙ all_carried m.objects))

flushed_runs : (head : HeadText) (tail : List LineText) (n : ℕ) (carried : Carried) (b : Bool) → SpellsCarried b carried tail → going (flushed_or head b) (λ t. run push_step n t tail) tail n ≡ Ok (with_carried head carried)
flushed_runs head tail n carried true (none, is) =
    ap (λ t. going (flushed_or head true) (λ u. run push_step n u t) t n) none ∙ ap (λ c. Ok (with_carried head c)) (sym is)
flushed_runs head tail n carried false (objects, stream, is) =
    stream_both tail n head started ∙ ap (with_push head) (gather_runs carry is_any objects tail n (Ok []) stream ∙ ap Ok (all_carried objects ∙ sym is))

-- ---- lines that add a command
abbrev room_or : HeadText → CommandText × Bool → Bool → Step
room_or head c b = cond b (Ok (onward (commanding (with_command head c)))) (Err TooMany)

room_ok : (head : HeadText) (c : CommandText × Bool) (k : Next) (rest : List LineText) (n : ℕ) (p : PushText) (b : Bool) → nat_lt (length head.commands) 256 ≡ b → going (room_or head c b) k rest n ≡ Ok p
    → (length head.commands < 256) × (k (commanding (with_command head c)) ≡ Ok p)
room_ok head c k rest n p true is e = (grind (arith, nat_tests), e)
room_ok head c k rest n p false is e = absurd (cc e)

more_ok : (m : ℕ) (head : HeadText) (o : Option (CommandText × Bool)) (k : Next) (rest : List LineText) (n : ℕ) (p : PushText) → going (one_more m head o) k rest n ≡ Ok p
    → (c : CommandText × Bool) × (o ≡ Some c) × (length head.commands < 256) × (k (commanding (with_command head c)) ≡ Ok p)
more_ok m head None k rest n p e = absurd (cc e)
more_ok m head (Some c) k rest n p e = let r = room_ok head c k rest n p (nat_lt (length head.commands) 256) refl e in (c, refl, r.0, r.1)

more_room : (m : ℕ) (head : HeadText) (c : CommandText × Bool) (k : Next) (rest : List LineText) (n : ℕ) → length head.commands < 256 → going (one_more m head (Some c)) k rest n ≡ k (commanding (with_command head c))
more_room m head c k rest n h =
    let fits : nat_lt (length head.commands) 256 ≡ true = grind (arith, nat_tests) in
    ap (λ b. going (room_or head c b) k rest n) fits

-- only the first line may ask for an atomic push
asked : (a b : Bool) → b ≡ false → (a || b) ≡ a
asked true b none = refl
asked false b none = none

-- ---- the lines after the first
abbrev asks : Bool → List CommandText → HeadText
asks a cs = record { atomic = a; commands = cs }

record Rest (a : Bool) (before : List CommandText) (lines : List LineText) (p : PushText) : Type 0 where
  more : List CommandText
  others : List LineText
  stream : List LineText
  each : AreCommandLines more others
  few : length (before ++ more) ≤ 256
  whole : lines ≡ others ++ flush ∷ stream
  is : head_in p ≡ asks a (before ++ more)
  carries : SpellsCarried (only_deletes (before ++ more)) p.carried stream

rest_of : (lines : List LineText) (n : ℕ) (a : Bool) (c : CommandText) (cs : List CommandText) (p : PushText) → length (c ∷ cs) ≤ 256 → run push_step n (commanding (asks a (c ∷ cs))) lines ≡ Ok p → Rest a (c ∷ cs) lines p
rest_of [] n a c cs p few e = absurd (cc e)
rest_of (flush ∷ tail) n a c cs p few e =
    let f = flushed_ok (asks a (c ∷ cs)) tail (n + 1) p (only_deletes (c ∷ cs)) e in
    let none : (c ∷ cs) ++ [] ≡ c ∷ cs = append-nil (c ∷ cs) in
    record {
      more = [];
      others = [];
      stream = tail;
      each = refl;
      few = let len = ap length none in omega arith;
      whole = refl;
      is = f.0 ∙ ap (asks a) (sym none);
      carries = subst (λ t. SpellsCarried (only_deletes t) p.carried tail) (sym none) f.1;
    }
rest_of (text line ∷ rest) n a c cs p few e =
    let m = more_ok n (asks a (c ∷ cs)) (command_line false line) (λ t. run push_step (n + 1) t rest) rest (n + 1) p e in
    let one = command_some line m.0 m.1 in
    let len = length-append (c ∷ cs) (m.0.0 ∷ []) in
    let r = rest_of rest (n + 1) (a || m.0.1) c (cs ++ m.0.0 ∷ []) p (let l : length (c ∷ cs) < 256 = m.2 in omega arith) m.3 in
    let same : (c ∷ (cs ++ m.0.0 ∷ [])) ++ r.more ≡ (c ∷ cs) ++ m.0.0 ∷ r.more = append_assoc (c ∷ cs) (m.0.0 ∷ []) r.more in
    record {
      more = m.0.0 ∷ r.more;
      others = text line ∷ r.others;
      stream = r.stream;
      each = (one.0, r.each);
      few = let l = ap length same in let f = r.few in omega arith;
      whole = ap (λ t. text line ∷ t) r.whole;
      is = r.is ∙ ap (asks (a || m.0.1)) same ∙ ap (λ b. asks b ((c ∷ cs) ++ m.0.0 ∷ r.more)) (asked a m.0.1 one.1);
      carries = subst (λ t. SpellsCarried (only_deletes t) p.carried r.stream) same r.carries;
    }

pub push_spelled : (p : PushText) (lines : List LineText) → GivenBy push_step (commanding no_commands) p lines → SpellsPush p lines
push_spelled p [] e = absurd (cc e)
push_spelled p (flush ∷ ls) e = absurd (cc e)
push_spelled p (text line ∷ rest) e =
    let m = more_ok 0 no_commands (command_line true line) (λ t. run push_step 1 t rest) rest 1 p e in
    let r = rest_of rest 1 m.0.1 m.0.0 [] p (omega arith) m.3 in
    let commands : p.commands ≡ m.0.0 ∷ r.more = ap (λ (h : HeadText). h.commands) r.is in
    record {
      command = m.0.0;
      commands = r.more;
      first = line;
      others = r.others;
      stream = r.stream;
      some = commands;
      begins = subst (λ b. IsFirstCommandLine b m.0.0 line) (sym (ap (λ (h : HeadText). h.atomic) r.is)) (first_command_some line m.0 m.1);
      each = r.each;
      few = let l = ap length commands in let f = r.few in omega arith;
      carries = subst (λ t. SpellsCarried (only_deletes t) p.carried r.stream) (sym commands) r.carries;
      whole = ap (λ t. text line ∷ t) r.whole;
    }

-- ---- and the other way round
commands_run : (more : List CommandText) (others : List LineText) (n : ℕ) (a : Bool) (c : CommandText) (cs : List CommandText) (tail : List LineText) (p : PushText) → AreCommandLines more others → length ((c ∷ cs) ++ more) ≤ 256
    → ((m : ℕ) → going (flushed_or (asks a ((c ∷ cs) ++ more)) (only_deletes ((c ∷ cs) ++ more))) (λ t. run push_step m t tail) tail m ≡ Ok p) → run push_step n (commanding (asks a (c ∷ cs))) (others ++ flush ∷ tail) ≡ Ok p
commands_run [] others n a c cs tail p each few k =
    ap (λ t. run push_step n (commanding (asks a (c ∷ cs))) (t ++ flush ∷ tail)) each
    ∙ ap (λ t. going (flushed_or (asks a t) (only_deletes t)) (λ u. run push_step (n + 1) u tail) tail (n + 1)) (sym (append-nil (c ∷ cs))) ∙ k (n + 1)
commands_run (d ∷ more) [] n a c cs tail p each few k = absurd each
commands_run (d ∷ more) (flush ∷ others) n a c cs tail p each few k = absurd each
commands_run (d ∷ more) (text line ∷ others) n a c cs tail p (h, each) few k =
    let next : Next = λ t. run push_step (n + 1) t (others ++ flush ∷ tail) in
    let same : (c ∷ (cs ++ d ∷ [])) ++ more ≡ (c ∷ cs) ++ d ∷ more = append_assoc (c ∷ cs) (d ∷ []) more in
    let len = length-append (c ∷ cs) (d ∷ more) in
    let room : length (c ∷ cs) < 256 = omega arith in
    ap (λ o. going (one_more n (asks a (c ∷ cs)) o) next (others ++ flush ∷ tail) (n + 1)) (command_again line d h)
    ∙ more_room n (asks a (c ∷ cs)) (d, false) next (others ++ flush ∷ tail) (n + 1) room
    ∙ ap (λ b. next (commanding (asks b (c ∷ (cs ++ d ∷ []))))) (asked a false refl)
    ∙ commands_run more others (n + 1) a c (cs ++ d ∷ []) tail p each (let l = ap length same in omega arith)
    (λ m. ap (λ t. going (flushed_or (asks a t) (only_deletes t)) (λ u. run push_step m u tail) tail m) same ∙ k m)

pub push_given : (p : PushText) (lines : List LineText) → SpellsPush p lines → GivenBy push_step (commanding no_commands) p lines
push_given p lines s =
    let rest = s.others ++ flush ∷ s.stream in
    let next : Next = λ t. run push_step 1 t rest in
    let same : p ≡ with_carried (asks p.atomic (s.command ∷ s.commands)) p.carried = ap (λ t. with_carried (asks p.atomic t) p.carried) s.some in
    let few = ap length s.some in let f = s.few in
    let room : 0 < 256 = omega arith in
    ap (run push_step 0 (commanding no_commands)) s.whole
    ∙ ap (λ o. going (one_more 0 no_commands o) next rest 1) (first_command_again s.first p.atomic s.command s.begins)
    ∙ more_room 0 no_commands (s.command, p.atomic) next rest 1 room
    ∙ commands_run s.commands s.others 1 p.atomic s.command [] s.stream p s.each (omega arith)
    (λ m.
    flushed_runs (asks p.atomic (s.command ∷ s.commands)) s.stream m p.carried (only_deletes (s.command ∷ s.commands)) (subst (λ t. SpellsCarried (only_deletes t) p.carried s.stream) s.some s.carries)
    ∙ ap Ok (sym same))
