-- What the report on a push says was accepted was set, and no other ref was.
use Rattle.std.proofs.Common.{append-nil, ◌||◌, ◌≡◌, ◌≢◌, ℕ, Bool, true, false, List, [], ◌∷◌, ◌++◌, map, Option, Some, None, Result, Ok, Err, if◌then◌else◌, inl, inr, refl, sym, ap, ◌∙◌, subst}
use Rattle.std.specs.FinMap.{get, insert, nat_cmp-IsAntisymmetric}
use Rattle.std.specs.Cmp.{nat_cmp_total}
use Rattle.std.specs.List.{AllByRecursion, AllZip, list_all, list_any}
use Rattle.vc_model.specs.Clone.{accepted_ids}
use Rattle.vc_model.specs.Desk.{ExactLog, IsAnswered, Receipt, node_left}
use Rattle.vc_model.specs.Message.{Message, Told}
use Rattle.vc_model.specs.Message.Message.{Push, Report}
use Rattle.vc_model.specs.Node.{Answer, Deed, Reply}
use Rattle.vc_model.specs.Node.Answer.{Declined, Did, Fault}
use Rattle.vc_model.specs.Node.Reply.{Opened}
use Rattle.vc_model.specs.Object.{Format, Id, Lookup, Objects, over}
use Rattle.vc_model.specs.Push.{Checks, ChecksAll, ChecksPush, Command, Judged, JudgesInTurn, OpenPush, Reason, Slots, Stage, Updates, UpdatesAll, Verdict, accepted, failed_with_others, is_passing, new_value, reason_number, refused_by, stage_while}
use Rattle.vc_model.specs.Push.Reason.{AtomicFailure}
use Rattle.vc_model.specs.Push.Stage.{Checked, Finished, Migrated, Unpacked}
use Rattle.vc_model.specs.Push.Verdict.{Accepted, Passing, Refused}
use Rattle.vc_model.specs.Refs.{RefName, Refs, with_refs}
use Rattle.vc_model.specs.Repository.{Change, Done, Effect, Repository, changed_all, with_objects}
use Rattle.vc_model.specs.Repository.Change.{SetRefs}
use Rattle.vc_model.specs.Rules.{Rules}
use Rattle.vc_model.specs.Shared.{SharedNode, StepsPush, StepsSlot, Tells, TellsAll, UpdatesPush, fresh, opened}
use Rattle.vc_model.specs.Shared.UpdatesPush.{singly, together}
use Rattle.vc_model.specs.SharedCall.{SharedAnswers, SharedCall, SharedObeys}
use Rattle.vc_model.specs.SharedCall.SharedAnswers.{asked, down, faulted, obeyed, opened as restarted, pruned, refused}
use Rattle.vc_model.specs.SharedCall.SharedCall.{Accept, StepOf}
use Rattle.vc_model.proofs.Maps.{insert_same}
use Rattle.vc_life.specs.Laws.{IsLineOf, LifeTellsWhatIsSet, TellsWhatIsSet}
use Rattle.vc_life.specs.Life.{GoesOn, IsServed, Life, log_of, opened_shared, opening, repository_after}
use Rattle.vc_life.specs.Life.IsServed.{at_once, stepped}
use Rattle.vc_life.proofs.Along.{answered_before, life_log, more_of}

-- ---- commands that were accepted

-- their new ids, in order
abbrev set_by : List Judged → List (RefName × Id)
set_by [] = []
set_by (j ∷ js) = elim (j.verdict) [ Passing ↦ set_by js | Accepted ↦ new_value j ∷ set_by js | Refused r ↦ set_by js ]

abbrev commands_of : List Judged → List Command
commands_of js = map (λ (j : Judged). j.command) js

abbrev NoneAccepted : List Judged → Type 0
NoneAccepted js = AllByRecursion (λ (j : Judged). j.verdict ≢ Accepted) js

-- after a command that still passes none is accepted
abbrev InOrder : List Judged → Type 0
InOrder [] = Unit {0}
InOrder (j ∷ js) = (j.verdict ≡ Passing → NoneAccepted js) × InOrder js

none_set : (js : List Judged) → NoneAccepted js → set_by js ≡ []
none_set [] a = refl
none_set (j ∷ js) a = go (none_set js a.1) j.verdict refl
  where
    go : set_by js ≡ [] → (v : Verdict) → j.verdict ≡ v → ◌≡◌ {A = List (RefName × Id)} (elim v [ Passing ↦ set_by js | Accepted ↦ new_value j ∷ set_by js | Refused r ↦ set_by js ]) []
    go rest Passing e = rest
    go rest Accepted e = absurd (a.0 e)
    go rest (Refused r) e = rest

none_in_order : (js : List Judged) → NoneAccepted js → InOrder js
none_in_order [] a = tt
none_in_order (j ∷ js) a = (λ e. a.1, none_in_order js a.1)

set_append : (xs ys : List Judged) → set_by (xs ++ ys) ≡ set_by xs ++ set_by ys
set_append [] ys = refl
set_append (j ∷ xs) ys = go (set_append xs ys) j.verdict
  where
    go : set_by (xs ++ ys) ≡ set_by xs ++ set_by ys → (v : Verdict) → (elim v [ Passing ↦ set_by (xs ++ ys) | Accepted ↦ new_value j ∷ set_by (xs ++ ys) | Refused r ↦ set_by (xs ++ ys) ])
        ≡ (elim v [ Passing ↦ set_by xs | Accepted ↦ new_value j ∷ set_by xs | Refused r ↦ set_by xs ]) ++ set_by ys
    go rest Passing = rest
    go rest Accepted = ap (λ (l : List (RefName × Id)). new_value j ∷ l) rest
    go rest (Refused r) = rest

with_append : (xs ys : List (RefName × Id)) (refs : Refs) → with_refs (xs ++ ys) refs ≡ with_refs ys (with_refs xs refs)
with_append [] ys refs = refl
with_append (x ∷ xs) ys refs = with_append xs ys (insert refs x.0 x.1)

-- ---- the check

check_none : (fmt : Format) (at : Lookup) (c : Command) (v w : Verdict) → Checks fmt at c v w → v ≢ Accepted → w ≢ Accepted
check_none fmt at c Passing Passing h n = n
check_none fmt at c Passing Accepted h n = absurd h
check_none fmt at c Passing (Refused r) h n = λ e. absurd (cc)
check_none fmt at c Accepted w h n = absurd (n refl)
check_none fmt at c (Refused r) w h n = λ e. n (sym h ∙ e)

-- none of them is accepted, and they are of these commands
record Unset (ks : List Judged) (cs : List Command) : Type 0 where
  none : NoneAccepted ks
  commands : commands_of ks ≡ cs

check_all : (fmt : Format) (at : Lookup) (js ks : List Judged) → NoneAccepted js → ChecksAll fmt at js ks → Unset ks (commands_of js)
check_all fmt at [] [] n h = record { none = tt; commands = refl }
check_all fmt at (j ∷ js) (k ∷ ks) n h =
    let rest : Unset ks (commands_of js) = check_all fmt at js ks n.1 h.2 in
    record {
      none = (check_none fmt at j.command j.verdict k.verdict h.1 n.0, rest.none);
      commands = ap (λ (c : Command). c ∷ commands_of ks) h.0 ∙ ap (λ (cs : List Command). j.command ∷ cs) rest.commands;
    }
check_all fmt at [] (k ∷ ks) n h = absurd h
check_all fmt at (j ∷ js) [] n h = absurd h

failed_none : (ms : List Judged) → NoneAccepted ms → Unset (map failed_with_others ms) (commands_of ms)
failed_none [] n = record { none = tt; commands = refl }
failed_none (m ∷ ms) n =
    let rest : Unset (map failed_with_others ms) (commands_of ms) = failed_none ms n.1 in
    record { none = (go m.verdict n.0, rest.none); commands = ap (λ (cs : List Command). m.command ∷ cs) rest.commands }
  where
    go : (v : Verdict) → v ≢ Accepted → (if (elim v [ Passing ↦ true | Accepted ↦ false | Refused r ↦ false ]) then Refused AtomicFailure else v) ≢ Accepted
    go Passing n = λ e. absurd (cc)
    go Accepted n = n
    go (Refused r) n = n

check_push : (fmt : Format) (at : Lookup) (atomic : Bool) (js ks : List Judged) → NoneAccepted js → ChecksPush fmt at atomic js ks → Unset ks (commands_of js)
check_push fmt at false js ks n h = check_all fmt at js ks n h
check_push fmt at true js ks n h = go (list_all is_passing h.0) h.2
  where
    one : Unset h.0 (commands_of js)
    one = check_all fmt at js h.0 n h.1

    all : Unset (map failed_with_others h.0) (commands_of js)
    all = let failed = failed_none h.0 one.none in record { none = failed.none; commands = failed.commands ∙ one.commands }

    go : (b : Bool) → ks ≡ (if b then h.0 else map failed_with_others h.0) → Unset ks (commands_of js)
    go true is = subst (λ (l : List Judged). Unset l (commands_of js)) (sym is) one
    go false is = subst (λ (l : List Judged). Unset l (commands_of js)) (sym is) all

-- ---- all refs together

accepted_set : (js : List Judged) → set_by (map accepted js) ≡ map new_value js
accepted_set [] = refl
accepted_set (j ∷ js) = ap (λ (l : List (RefName × Id)). new_value j ∷ l) (accepted_set js)

accepted_commands : (js : List Judged) → commands_of (map accepted js) ≡ commands_of js
accepted_commands [] = refl
accepted_commands (j ∷ js) = ap (λ (cs : List Command). j.command ∷ cs) (accepted_commands js)

accepted_over : (js : List Judged) → list_any is_passing (map accepted js) ≡ false
accepted_over [] = refl
accepted_over (j ∷ js) = accepted_over js

refused_over : (js : List Judged) (rs : List (Option Reason)) → list_any is_passing (refused_by js rs) ≡ false
refused_over [] rs = refl
refused_over (j ∷ js) [] = refl
refused_over (j ∷ js) (Some r ∷ rs) = refused_over js rs
refused_over (j ∷ js) (None ∷ rs) = refused_over js rs

refused_none : (refs : Refs) (named : List RefName) (js : List Judged) (rs : List (Option Reason)) → JudgesInTurn refs named js rs → Unset (refused_by js rs) (commands_of js)
refused_none refs named [] [] h = record { none = tt; commands = refl }
refused_none refs named (j ∷ js) (Some r ∷ rs) h =
    let rest : Unset (refused_by js rs) (commands_of js) = refused_none refs (j.command.name ∷ named) js rs h.1 in
    record { none = (λ e. absurd (cc), rest.none); commands = ap (λ (cs : List Command). j.command ∷ cs) rest.commands }
refused_none refs named (j ∷ js) (None ∷ rs) h =
    let rest : Unset (refused_by js rs) (commands_of js) = refused_none (insert refs j.command.name j.command.new) (j.command.name ∷ named) js rs h.1 in
    record { none = (λ e. absurd (cc), rest.none); commands = ap (λ (cs : List Command). j.command ∷ cs) rest.commands }
refused_none refs named [] (r ∷ rs) h = absurd h
refused_none refs named (j ∷ js) [] h = absurd h

-- ---- one ref

abbrev Passes : Judged → Type 0
Passes j = j.verdict ≡ Passing

back_none : (front back : List Judged) (next : Judged) → InOrder (front ++ next ∷ back) → Passes next → NoneAccepted back
back_none [] back next o p = o.0 p
back_none (j ∷ front) back next o p = back_none front back next o.1 p

not_first : (v : Verdict) (rest : Bool) → (elim v [ Passing ↦ true | Accepted ↦ false | Refused r ↦ false ]) || rest ≡ false → (v ≢ Passing) × (rest ≡ false)
not_first Passing rest e = absurd (cc)
not_first Accepted rest e = (λ p. absurd (cc), e)
not_first (Refused r) rest e = (λ p. absurd (cc), e)

still_in_order : (front back : List Judged) (next mid : Judged) → list_any is_passing front ≡ false → InOrder (front ++ next ∷ back) → (¬ Passes mid) → InOrder (front ++ mid ∷ back)
still_in_order [] back next mid first o n = (λ p. absurd (n p), o.1)
still_in_order (j ∷ front) back next mid first o n =
    let f = not_first j.verdict (list_any is_passing front) first in
    (λ p. absurd (f.0 p), still_in_order front back next mid f.1 o.1 n)

same_commands : (front back : List Judged) (next mid : Judged) → mid.command ≡ next.command → commands_of (front ++ mid ∷ back) ≡ commands_of (front ++ next ∷ back)
same_commands [] back next mid e = ap (λ (c : Command). c ∷ commands_of back) e
same_commands (j ∷ front) back next mid e = ap (λ (cs : List Command). j.command ∷ cs) (same_commands front back next mid e)

next_set : (next : Judged) (back : List Judged) → Passes next → NoneAccepted back → set_by (next ∷ back) ≡ []
next_set next back p n = ap (λ (v : Verdict). elim v [ Passing ↦ set_by back | Accepted ↦ new_value next ∷ set_by back | Refused r ↦ set_by back ]) p ∙ none_set back n

-- what is accepted with the next, once it is judged so
judged_set : (front back : List Judged) (next : Judged) (v : Verdict) (more : List (RefName × Id)) → Passes next → NoneAccepted back → set_by (record { command = next.command; verdict = v } ∷ back) ≡ more
    → set_by (front ++ record { command = next.command; verdict = v } ∷ back) ≡ set_by (front ++ next ∷ back) ++ more
judged_set front back next v more p n is =
    set_append front (record { command = next.command; verdict = v } ∷ back)
    ∙ (ap (λ (l : List (RefName × Id)). set_by front ++ l) is
    ∙ ap (λ (l : List (RefName × Id)). l ++ more) (sym (set_append front (next ∷ back) ∙ (ap (λ (l : List (RefName × Id)). set_by front ++ l) (next_set next back p n) ∙ append-nil (set_by front)))))

-- ---- the refs after a deed

quiet_refs : (r v : Repository) (e : Effect) → e.changes ≡ [] → Done r e v → v.refs ≡ r.refs
quiet_refs r v e is d = ap (λ (q : Repository). q.refs) d.2 ∙ ap (λ (cs : List Change). (changed_all cs (with_objects r d.0)).refs) is

set_refs : (r v : Repository) (e : Effect) (rs : List (RefName × Id)) → e.changes ≡ SetRefs rs ∷ [] → Done r e v → v.refs ≡ with_refs rs r.refs
set_refs r v e rs is d = ap (λ (q : Repository). q.refs) d.2 ∙ ap (λ (cs : List Change). (changed_all cs (with_objects r d.0)).refs) is

-- ---- an open push

abbrev Fits : Bool → List Judged → Stage → Type 0
Fits atomic js Unpacked = NoneAccepted js
Fits atomic js Checked = NoneAccepted js
Fits atomic js Migrated = (atomic ≡ true → NoneAccepted js) × InOrder js
Fits atomic js Finished = Unit {0}

while_fits : (atomic : Bool) (js : List Judged) (s : Stage) → Fits atomic js s → Fits atomic js (stage_while js s)
while_fits atomic js s f = go (list_any is_passing js)
  where
    go : (b : Bool) → Fits atomic js (if b then s else Finished)
    go true = f
    go false = tt

over_fits : (atomic : Bool) (js : List Judged) (s : Stage) → list_any is_passing js ≡ false → Fits atomic js (stage_while js s)
over_fits atomic js s is = subst (λ (b : Bool). Fits atomic js (if b then s else Finished)) (sym is) tt

-- The push is of these commands, and the refs are those of before with what it accepted so far.
record Stands (fault : Option ℕ) (cs : List Command) (was now : Refs) (p : OpenPush) : Type 0 where
  fault_is : p.fault ≡ fault
  commands : commands_of p.commands ≡ cs
  fits : Fits p.atomic p.commands p.stage
  set : now ≡ with_refs (set_by p.commands) was

none_changed : (was : Refs) (js ks : List Judged) → NoneAccepted js → NoneAccepted ks → with_refs (set_by js) was ≡ with_refs (set_by ks) was
none_changed was js ks n k = ap (λ (l : List (RefName × Id)). with_refs l was) (none_set js n ∙ sym (none_set ks k))

module _ (fmt : Format) (fault : Option ℕ) (cs : List Command) (was : Refs) where
  -- all refs of an atomic push
  all_updated : (r v : Repository) (p : OpenPush) (ks : List Judged) (changes : List Change) (e : Effect) (rs : List (Option Reason)) → Stands fault cs was r.refs p → NoneAccepted p.commands → e.changes ≡ changes
      → UpdatesAll r.refs p.commands rs ks changes → Done r e v → Stands fault cs was v.refs (record p { commands = ks; stage = stage_while ks Migrated })
  all_updated r v p ks changes e rs s n is (turn, inl w) d = subst (λ (l : List Judged). Stands fault cs was v.refs (record p { commands = l; stage = stage_while l Migrated })) (sym w.1) (record {
    fault_is = s.fault_is;
    commands = accepted_commands p.commands ∙ s.commands;
    fits = over_fits p.atomic (map accepted p.commands) Migrated (accepted_over p.commands);
    set = set_refs r v e (map new_value p.commands) (is ∙ w.2) d
        ∙ (ap (with_refs (map new_value p.commands)) (s.set ∙ ap (λ (l : List (RefName × Id)). with_refs l was) (none_set p.commands n)) ∙ ap (λ (l : List (RefName × Id)). with_refs l was) (sym (accepted_set p.commands)));
  })
  all_updated r v p ks changes e rs s n is (turn, inr w) d = subst (λ (l : List Judged). Stands fault cs was v.refs (record p { commands = l; stage = stage_while l Migrated })) (sym w.1)
      (let u : Unset (refused_by p.commands rs) (commands_of p.commands) = refused_none r.refs [] p.commands rs turn in record {
        fault_is = s.fault_is;
        commands = u.commands ∙ s.commands;
        fits = over_fits p.atomic (refused_by p.commands rs) Migrated (refused_over p.commands rs);
        set = quiet_refs r v e (is ∙ w.2) d ∙ (s.set ∙ none_changed was p.commands (refused_by p.commands rs) n u.none);
      })

  -- one ref
  next_updated : (r v : Repository) (p : OpenPush) (front back : List Judged) (next : Judged) (verdict : Verdict) (changes : List Change) (e : Effect) → Stands fault cs was r.refs p → InOrder p.commands → p.atomic ≡ false → e.changes ≡ changes
      → p.commands ≡ front ++ next ∷ back → list_any is_passing front ≡ false → Passes next → Updates r.refs next.command verdict changes → Done r e v
      → Stands fault cs was v.refs (record p { commands = front ++ record { command = next.command; verdict = verdict } ∷ back; stage = stage_while (front ++ record { command = next.command; verdict = verdict } ∷ back) Migrated })
  next_updated r v p front back next Passing changes e s o a is before first passes update d = absurd update
  next_updated r v p front back next Accepted changes e s o a is before first passes update d =
      let order : InOrder (front ++ next ∷ back) = subst InOrder before o in
      let none : NoneAccepted back = back_none front back next order passes in
      let mid : Judged = record { command = next.command; verdict = Accepted } in
      record {
        fault_is = s.fault_is;
        commands = same_commands front back next mid refl ∙ (ap commands_of (sym before) ∙ s.commands);
        fits = while_fits p.atomic (front ++ mid ∷ back) Migrated (λ t. absurd (let b : true ≡ false = sym t ∙ a in cc), still_in_order front back next mid first order (λ q. absurd (let b : Accepted ≡ Passing = q in cc)));
        set = set_refs r v e ((next.command.name, next.command.new) ∷ []) (is ∙ update.1) d
            ∙ (ap (with_refs ((next.command.name, next.command.new) ∷ [])) (s.set ∙ ap (λ (l : List Judged). with_refs (set_by l) was) before)
            ∙ (sym (with_append (set_by (front ++ next ∷ back)) ((next.command.name, next.command.new) ∷ []) was)
            ∙ ap (λ (l : List (RefName × Id)). with_refs l was)
            (sym (judged_set front back next Accepted ((next.command.name, next.command.new) ∷ []) passes none (ap (λ (l : List (RefName × Id)). (next.command.name, next.command.new) ∷ l) (none_set back none))))));
      }
  next_updated r v p front back next (Refused why) changes e s o a is before first passes update d =
      let order : InOrder (front ++ next ∷ back) = subst InOrder before o in
      let none : NoneAccepted back = back_none front back next order passes in
      let mid : Judged = record { command = next.command; verdict = Refused why } in
      record {
        fault_is = s.fault_is;
        commands = same_commands front back next mid refl ∙ (ap commands_of (sym before) ∙ s.commands);
        fits = while_fits p.atomic (front ++ mid ∷ back) Migrated (λ t. absurd (let b : true ≡ false = sym t ∙ a in cc), still_in_order front back next mid first order (λ q. absurd (let b : Refused why ≡ Passing = q in cc)));
        set = quiet_refs r v e (is ∙ update.1) d
            ∙ (s.set ∙ ap (λ (l : List Judged). with_refs (set_by l) was) before
            ∙ ap (λ (l : List (RefName × Id)). with_refs l was) (sym (judged_set front back next (Refused why) [] passes none (none_set back none) ∙ append-nil (set_by (front ++ next ∷ back)))));
      }

  updated : (r v : Repository) (p : OpenPush) (ks : List Judged) (changes : List Change) (e : Effect) (y : Reply) → Stands fault cs was r.refs p → Fits p.atomic p.commands Migrated → e.changes ≡ changes → UpdatesPush r p ks changes y → Done r e v
      → Stands fault cs was v.refs (record p { commands = ks; stage = stage_while ks Migrated })
  updated r v p ks changes e y s f is (together rs a u t) d = all_updated r v p ks changes e rs s (f.0 a) is u d
  updated r v p ks changes e y s f is (singly u a t) d =
      subst (λ (l : List Judged). Stands fault cs was v.refs (record p { commands = l; stage = stage_while l Migrated })) (sym u.after)
      (next_updated r v p u.front u.back u.next u.verdict changes e s f.1 a is u.before u.first u.passing u.update d)

  -- a step
  stepping : (r v : Repository) (p q : OpenPush) (stage : Stage) (e : Effect) (y : Reply) → Stands fault cs was r.refs p → Fits p.atomic p.commands stage → StepsPush fmt r p stage e q y → Done r e v → Stands fault cs was v.refs q
  stepping r v p q Unpacked e y s f is d = subst (λ (q : OpenPush). Stands fault cs was v.refs q) (sym is.3)
      (let u : Unset is.0 (commands_of p.commands) = check_push fmt (over r.objects p.carried) p.atomic p.commands is.0 f is.1 in record {
        fault_is = s.fault_is;
        commands = u.commands ∙ s.commands;
        fits = while_fits p.atomic is.0 Checked u.none;
        set = quiet_refs r v e (ap (λ (e : Effect). e.changes) is.2) d ∙ (s.set ∙ none_changed was p.commands is.0 f u.none);
      })
  stepping r v p q Checked e y s f is d = subst (λ (q : OpenPush). Stands fault cs was v.refs q) (sym is.1) (record {
    fault_is = s.fault_is;
    commands = s.commands;
    fits = (λ a. f, none_in_order p.commands f);
    set = quiet_refs r v e (ap (λ (e : Effect). e.changes) is.0) d ∙ s.set;
  })
  stepping r v p q Migrated e y s f is d = subst (λ (q : OpenPush). Stands fault cs was v.refs q) (sym is.4) (updated r v p is.0 is.1 e y s f (ap (λ (e : Effect). e.changes) is.3) is.2 d)
  stepping r v p q Finished e y s f is d = absurd is

-- ---- the report

line_of : (j : Judged) (t : Told) → Tells j t → IsLineOf j.command t
line_of j t h = record { name = h.0; outcome = elim (h.1) [ inl w ↦ inl w.1 | inr w ↦ inr (reason_number w.0, w.2) ] }

one_told : (j : Judged) (js : List Judged) (t : Told) (ts : List Told) → Tells j t → accepted_ids ts ≡ set_by js → accepted_ids (t ∷ ts) ≡ set_by (j ∷ js)
one_told j js t ts h rest = elim (h.1) [
  | inl w ↦
      ap (λ (o : Result Id ℕ). elim o [ Ok x ↦ (t.name, x) ∷ accepted_ids ts | Err r ↦ accepted_ids ts ]) w.1
      ∙ (ap (λ (n : RefName). (n, j.command.new) ∷ accepted_ids ts) h.0
      ∙ (ap (λ (l : List (RefName × Id)). (j.command.name, j.command.new) ∷ l) rest
      ∙ ap (λ (v : Verdict). elim v [ Passing ↦ set_by js | Accepted ↦ new_value j ∷ set_by js | Refused r ↦ set_by js ]) (sym w.0)))
  | inr w ↦
      ap (λ (o : Result Id ℕ). elim o [ Ok x ↦ (t.name, x) ∷ accepted_ids ts | Err r ↦ accepted_ids ts ]) w.2
      ∙ (rest ∙ ap (λ (v : Verdict). elim v [ Passing ↦ set_by js | Accepted ↦ new_value j ∷ set_by js | Refused r ↦ set_by js ]) (sym w.1))
]

all_told : (js : List Judged) (ts : List Told) → TellsAll js ts → (accepted_ids ts ≡ set_by js) × AllZip IsLineOf (commands_of js) ts
all_told [] [] h = (refl, tt)
all_told (j ∷ js) (t ∷ ts) h = let rest = all_told js ts h.1 in (one_told j js t ts h.0 rest.0, (line_of j t h.0, rest.1))
all_told [] (t ∷ ts) h = absurd h
all_told (j ∷ js) [] h = absurd h

-- ---- the calls of a push

some_slots : (l : Option Slots) (v w : Slots) → l ≡ Some v → l ≡ Some w → v ≡ w
some_slots l v w e f = cc

some_push : (l : Option OpenPush) (p q : OpenPush) → l ≡ Some p → l ≡ Some q → p ≡ q
some_push l p q e f = cc

nothing_sent : (sends : Option Message) (m : Message) → sends ≡ Some m → sends ≡ None → ⊥
nothing_sent sends m e f = absurd (let g = sym e ∙ f in cc)

module _ (fmt : Format) (rules : Rules fmt) where
  abbrev pub IsOfPush : SharedCall → Type 0
  IsOfPush (Accept m) = Unit {0}
  IsOfPush (StepOf s) = Unit {0}
  IsOfPush _ = ⊥

  -- the call was obeyed, and is done
  pub record IsDone (old new : SharedNode) (e : SharedCall) (y : Reply) (sends : Option Message) : Type 0 where
    pub slots : Slots
    pub deed : Deed Slots
    pub up : old.live ≡ Some slots
    pub obeys : SharedObeys fmt old.repository slots e deed
    pub done : Done old.repository deed.effect new.repository
    pub left : new.live ≡ Some deed.left
    pub reply : y ≡ deed.reply
    pub sent : sends ≡ deed.sends

  pub is_done : (old new : SharedNode) (e : SharedCall) (y : Reply) (sends : Option Message) → IsOfPush e → SharedAnswers fmt rules old e (Did y) new sends → IsDone old new e y sends
  is_done old new e y sends of (down off other is same none) = absurd (cc)
  is_done old new e y sends of (asked w q up is tells same none) = absurd (subst IsOfPush is of)
  is_done old new e y sends of (refused w n up why is same none) = absurd (cc)
  is_done old new e y sends of (obeyed w d up does ends sent) = record { slots = w; deed = d; up = up; obeys = does; done = ends.0; left = ends.1; reply = ends.2; sent = sent }
  is_done old new e y sends of (pruned w up is ends none) = absurd (subst IsOfPush is of)
  is_done old new e y sends of (restarted is ends none) = absurd (subst IsOfPush is of)
  is_done old new e y sends of (faulted w f up other is same none) = absurd (cc)

  -- what sends something was done
  pub sends_done : (old new : SharedNode) (e : SharedCall) (a : Answer) (m : Message) → IsOfPush e → SharedAnswers fmt rules old e a new (Some m) → (y : Reply) × IsDone old new e y (Some m)
  sends_done old new e (Did y) m of x = (y, is_done old new e y (Some m) of x)
  sends_done old new e (Declined n) m of x = absurd (no_answer x)
    where
      no_answer : SharedAnswers fmt rules old e (Declined n) new (Some m) → ⊥
      no_answer (down off other is same none) = nothing_sent (Some m) m refl none
      no_answer (asked w q up is tells same none) = nothing_sent (Some m) m refl none
      no_answer (refused w k up why is same none) = nothing_sent (Some m) m refl none
      no_answer (obeyed w d up does ends sent) = ends
      no_answer (pruned w up is ends none) = nothing_sent (Some m) m refl none
      no_answer (restarted is ends none) = nothing_sent (Some m) m refl none
      no_answer (faulted w f up other is same none) = nothing_sent (Some m) m refl none
  sends_done old new e (Fault f) m of x = absurd (no_answer x)
    where
      no_answer : SharedAnswers fmt rules old e (Fault f) new (Some m) → ⊥
      no_answer (down off other is same none) = nothing_sent (Some m) m refl none
      no_answer (asked w q up is tells same none) = nothing_sent (Some m) m refl none
      no_answer (refused w k up why is same none) = nothing_sent (Some m) m refl none
      no_answer (obeyed w d up does ends sent) = nothing_sent (Some m) m refl sent
      no_answer (pruned w up is ends none) = nothing_sent (Some m) m refl none
      no_answer (restarted is ends none) = nothing_sent (Some m) m refl none
      no_answer (faulted w g up other is same none) = nothing_sent (Some m) m refl none

  module _ (atomic : Bool) (fault : Option ℕ) (cs : List Command) (objects : Objects) (r : Repository) where
    -- the push stands in the slot
    record Standing (slot : ℕ) (u : SharedNode) : Type 0 where
      slots : Slots
      push : OpenPush
      live : u.live ≡ Some slots
      got : get slots slot ≡ Some push
      stands : Stands fault cs r.refs u.repository.refs push

    fresh_none : (f : Option ℕ) (cs : List Command) → Unset (map (fresh f) cs) cs
    fresh_none f [] = record { none = tt; commands = refl }
    fresh_none f (c ∷ cs) =
        let rest : Unset (map (fresh f) cs) cs = fresh_none f cs in
        record { none = (go f, rest.none); commands = ap (λ (l : List Command). c ∷ l) rest.commands }
      where
        go : (f : Option ℕ) → (fresh f c).verdict ≢ Accepted
        go None e = absurd (cc)
        go (Some n) e = absurd (cc)

    same_slot : (k l : ℕ) → Opened k ≡ Opened l → k ≡ l
    same_slot k l e = cc

    -- it comes
    comes : (slot : ℕ) (u : SharedNode) → SharedAnswers fmt rules (opened_shared r) (Accept (Push atomic fault cs objects)) (Did (Opened slot)) u None → Standing slot u
    comes slot u x =
        let h : IsDone (opened_shared r) u (Accept (Push atomic fault cs objects)) (Opened slot) None = is_done (opened_shared r) u (Accept (Push atomic fault cs objects)) (Opened slot) None tt x in
        let s : ℕ = h.obeys.0 in
        let p : OpenPush = opened atomic fault cs objects in
        let is : slot ≡ s = same_slot slot s (h.reply ∙ ap (λ (d : Deed Slots). d.reply) h.obeys.2) in
        let none : Unset (map (fresh fault) cs) cs = fresh_none fault cs in
        record {
          slots = insert h.slots s p;
          push = p;
          live = h.left ∙ ap (λ (d : Deed Slots). Some d.left) h.obeys.2;
          got = ap (get (insert h.slots s p)) is ∙ insert_same nat_cmp_total nat_cmp-IsAntisymmetric h.slots s p;
          stands = record {
            fault_is = refl;
            commands = none.commands;
            fits = none.none;
            set = quiet_refs r u.repository h.deed.effect (ap (λ (d : Deed Slots). d.effect.changes) h.obeys.2) h.done ∙ ap (λ (l : List (RefName × Id)). with_refs l r.refs) (sym (none_set (map (fresh fault) cs) none.none));
          };
        }

    -- the push that is stepped is the one that stands
    is_stepped : (slot : ℕ) (u : SharedNode) (slots : Slots) (d : Deed Slots) → (s : Standing slot u) → u.live ≡ Some slots → (h : StepsSlot fmt u.repository slots slot d) → h.0 ≡ s.push
    is_stepped slot u slots d s up h = some_push (get s.slots slot) h.0 s.push (ap (λ (w : Slots). get w slot) (some_slots u.live s.slots slots s.live up) ∙ h.1) s.got

    -- it is stepped
    steps : (slot : ℕ) (u v : SharedNode) (y : Reply) → Standing slot u → SharedAnswers fmt rules u (StepOf slot) (Did y) v None → Standing slot v
    steps slot u v y s x =
        let h : IsDone u v (StepOf slot) y None = is_done u v (StepOf slot) y None tt x in
        let is : h.obeys.0 ≡ s.push = is_stepped slot u h.slots h.deed s h.up h.obeys in
        elim (h.obeys.2) [
          | inl w ↦
              record {
                slots = insert h.slots slot w.0;
                push = w.0;
                live = h.left ∙ ap Some w.2;
                got = insert_same nat_cmp_total nat_cmp-IsAntisymmetric h.slots slot w.0;
                stands = stepping fmt fault cs r.refs u.repository v.repository s.push w.0 s.push.stage h.deed.effect h.deed.reply s.stands s.stands.fits
                    (subst (λ (p : OpenPush). StepsPush fmt u.repository p p.stage h.deed.effect w.0 h.deed.reply) is w.1) h.done;
              }
          | inr w ↦ absurd (nothing_sent h.deed.sends (Report h.obeys.0.fault w.0) (ap (λ (d : Deed Slots). d.sends) w.3) (sym h.sent))
        ]

    -- and it is reported
    reports : (slot : ℕ) (u v : SharedNode) (a : Answer) (m : Message) → Standing slot u → SharedAnswers fmt rules u (StepOf slot) a v (Some m) → TellsWhatIsSet fault cs r v.repository m
    reports slot u v a m s x =
        let so = sends_done u v (StepOf slot) a m tt x in
        let h : IsDone u v (StepOf slot) so.0 (Some m) = so.1 in
        let is : h.obeys.0 ≡ s.push = is_stepped slot u h.slots h.deed s h.up h.obeys in
        elim (h.obeys.2) [
          | inl w ↦ absurd (nothing_sent (Some m) m refl (h.sent ∙ w.3))
          | inr w ↦
              let told = all_told s.push.commands w.0 (subst (λ (p : OpenPush). TellsAll p.commands w.0) is w.2) in
              record {
                told = w.0;
                report = same_message m (Report fault w.0) (h.sent ∙ (ap (λ (d : Deed Slots). d.sends) w.3 ∙ ap (λ (f : Option ℕ). Some (Report f w.0)) (ap (λ (p : OpenPush). p.fault) is ∙ s.stands.fault_is)));
                lines = subst (λ (l : List Command). AllZip IsLineOf l w.0) s.stands.commands told.1;
                set = quiet_refs u.repository v.repository h.deed.effect (ap (λ (d : Deed Slots). d.effect.changes) w.3) h.done
                    ∙ (s.stands.set ∙ ap (λ (l : List (RefName × Id)). with_refs l r.refs) (sym told.0));
              }
        ]
      where
        same_message : (m n : Message) → Some m ≡ Some n → m ≡ n
        same_message m n e = cc

    -- what is opened sends nothing
    silent : (u : SharedNode) (a : Answer) (m : Message) → SharedAnswers fmt rules (opened_shared r) (Accept (Push atomic fault cs objects)) a u (Some m) → ⊥
    silent u a m x =
        let so = sends_done (opened_shared r) u (Accept (Push atomic fault cs objects)) a m tt x in
        nothing_sent (Some m) m refl (so.1.sent ∙ ap (λ (d : Deed Slots). d.sends) so.1.obeys.2)

    -- ---- its turn

    module _ (n : SharedNode) (log : ExactLog) where
      -- the log up to the step
      abbrev after_steps : ExactLog → Receipt → ExactLog
      after_steps steps first = (steps ++ first ∷ []) ++ opening r ∷ log

      answer_of : (u v : SharedNode) (c d : SharedCall) (a b : Answer) (s t : Option Message) → c ≡ d → a ≡ b → s ≡ t → SharedAnswers fmt rules u c a v s → SharedAnswers fmt rules u d b v t
      answer_of u v c d a b s t is same sent x =
          subst (λ (s : Option Message). SharedAnswers fmt rules u d b v s) sent (subst (λ (a : Answer). SharedAnswers fmt rules u d a v s) same (subst (λ (c : SharedCall). SharedAnswers fmt rules u c a v s) is x))

      goes : (slot : ℕ) (first : Receipt) (steps : ExactLog) → first.call ≡ Accept (Push atomic fault cs objects) → first.answer ≡ Did (Opened slot) → first.sends ≡ None → AllByRecursion (GoesOn slot) steps
          → IsAnswered fmt rules n (after_steps steps first) → Standing slot (node_left n (after_steps steps first))
      goes slot first [] is opens quiet all answered = comes slot first.node (answer_of (opened_shared r) first.node first.call (Accept (Push atomic fault cs objects)) first.answer (Did (Opened slot)) first.sends None is opens quiet answered.1)
      goes slot first (e ∷ es) is opens quiet all answered =
          steps slot (node_left n (after_steps es first)) e.node all.0.reply (goes slot first es is opens quiet all.1 answered.2)
          (answer_of (node_left n (after_steps es first)) e.node e.call (StepOf slot) e.answer (Did all.0.reply) e.sends None all.0.call all.0.answer all.0.silent answered.1)

      pub turn_told : (last : Receipt) (before : ExactLog) (m : Message) → IsServed (Accept (Push atomic fault cs objects)) last before → last.sends ≡ Some m → IsAnswered fmt rules n (last ∷ before ++ opening r ∷ log)
          → TellsWhatIsSet fault cs r last.node.repository m
      turn_told last before m (at_once none is opens) sent answered =
          let mine : SharedAnswers fmt rules (node_left n ([] ++ opening r ∷ log)) last.call last.answer last.node last.sends
          = subst (λ (es : ExactLog). SharedAnswers fmt rules (node_left n (es ++ opening r ∷ log)) last.call last.answer last.node last.sends) none answered.1 in
          absurd (silent last.node last.answer m (answer_of (opened_shared r) last.node last.call (Accept (Push atomic fault cs objects)) last.answer last.answer last.sends (Some m) is refl sent mine))
      turn_told last before m (stepped slot first es is below first_is opens quiet all end) sent answered =
          let whole : IsAnswered fmt rules n (last ∷ after_steps es first) = subst (λ (l : ExactLog). IsAnswered fmt rules n (last ∷ l ++ opening r ∷ log)) is answered in
          reports slot (node_left n (after_steps es first)) last.node last.answer m (goes slot first es first_is opens quiet all whole.2)
          (answer_of (node_left n (after_steps es first)) last.node last.call (StepOf slot) last.answer last.answer last.sends (Some m) end.call refl sent whole.1)

pub life_told : (fmt : Format) (rules : Rules fmt) → LifeTellsWhatIsSet fmt rules
life_told fmt rules start late early last before atomic fault cs objects m life begins serves sent =
    let ts : Life = (last ∷ before) ∷ early in
    let more = more_of start late ts in
    let n : SharedNode = opened_shared start in
    let r : Repository = repository_after start early in
    let all : IsAnswered fmt rules n (log_of start (late ++ ts)) = (life_log fmt rules start (late ++ ts) life begins).1 in
    turn_told fmt rules atomic fault cs objects r n (log_of start early) last before m serves sent
    (answered_before fmt rules n more.0 (log_of start ts) (subst (λ (es : ExactLog). IsAnswered fmt rules n es) more.1 all))
