-- The shared node has one answer to a call.
use Rattle.std.proofs.Common.{◌≡◌, ◌≢◌, ℕ, ◌<◌, Bool, true, false, List, ◌∷◌, ◌++◌, map, Option, Some, None, is_none, Result, Ok, Err, ◌⊎◌, inl, inr, refl, sym, ap, ◌∙◌, subst, arith, Contains, length, count_by, if◌then◌else◌, []}
use Rattle.std.specs.FinMap.{get, insert, remove, empty}
use Rattle.std.specs.List.{list_any, list_all}
use Rattle.std.proofs.lemmas.Option.{same_Some}
use Rattle.vc_model.specs.Object.{Id, Format, Objects, Lookup, over}
use Rattle.vc_model.specs.Refs.{RefName, Refs}
use Rattle.vc_model.specs.Repository.{Repository, Change, Effect, no_effect, only_changes}
use Rattle.vc_model.specs.Repository.Change.{SetRefs}
use Rattle.vc_model.specs.Push.{Command, Judged, Verdict, Reason, Stage, OpenPush, Slots, is_passing, stage_while, CheckNeeds, UpdateNeeds, TurnNeeds, FirstUnmet, Checks, ChecksAll, ChecksPush, Updates, UpdatesAll, JudgesInTurn, failed_with_others, accepted, refused_by, new_value, check_reasons, update_reasons, reason_number}
use Rattle.vc_model.specs.Push.Verdict.{Passing, Accepted, Refused}
use Rattle.vc_model.specs.Push.Stage.{Unpacked, Checked, Migrated, Finished}
use Rattle.vc_model.specs.Message.{Message, Told}
use Rattle.vc_model.specs.Message.Message.{ListRefs, Advert, Want, Pack, Push, Report, Error}
use Rattle.vc_model.specs.Node.{Answer, IsNoFault, Reply, Deed, PruneEnds, RestartEnds}
use Rattle.vc_model.specs.Node.Answer.{Declined}
use Rattle.vc_model.specs.Node.Reply.{Sends, Opened, Passed, Updated, UpdatedAll}
use Rattle.vc_model.specs.Shared.{SharedNode, IsOurs, IsLowestFree, IsFirstCounted, opened as push_opened, Serves, ServesNot, StepsPush, StepsSlot, UpdatesNext, UpdatesPush, TellsAll, IsNeeded, refusal_of, first_refusal}
use Rattle.vc_model.specs.Shared.UpdatesPush.{together, singly}
use Rattle.vc_model.specs.Rules.{Rules, rules_by}
use Rattle.vc_model.specs.Question.{Tells}
use Rattle.vc_model.specs.SharedCall.{SharedCall, SharedRefuses, SharedObeys, SharedAnswers}
use Rattle.vc_model.specs.SharedCall.SharedCall.{Accept, StepOf, Asks, Prune, Open}
use Rattle.vc_model.specs.SharedCall.SharedAnswers.{down, asked, refused, obeyed, pruned, opened, faulted}
use Rattle.vc_model.specs.Exact.{SharedHasOneAnswer}
use Rattle.vc_model.proofs.Commits.{all_holds}
use Rattle.vc_model.proofs.OneAnswer.{AreOne, Worked, worked_once, prune_once, restart_once, told_once, difference_once}
use Rattle.vc_model.proofs.Pushing.{unmet_never, same_judged}

-- ---- needs

unmet_once : (needs : Reason → Type 0) (qs : List Reason) (r s : Reason) → FirstUnmet needs qs r → FirstUnmet needs qs s → r ≡ s
unmet_once needs [] r s f g = absurd f
unmet_once needs (q ∷ qs) r s (inl f) (inl g) = f.1 ∙ sym g.1
unmet_once needs (q ∷ qs) r s (inl f) (inr g) = absurd (f.0 g.0)
unmet_once needs (q ∷ qs) r s (inr f) (inl g) = absurd (g.0 f.0)
unmet_once needs (q ∷ qs) r s (inr f) (inr g) = unmet_once needs qs r s f.1 g.1

same_cons : {X : Type 0} (x y : X) (xs ys : List X) → x ≡ y → xs ≡ ys → x ∷ xs ≡ y ∷ ys
same_cons x y xs ys e f = cc

-- ---- the check

check_once : (fmt : Format) (at : Lookup) (c : Command) (v w u : Verdict) → Checks fmt at c v w → Checks fmt at c v u → w ≡ u
check_once fmt at c Passing Passing Passing g h = refl
check_once fmt at c Passing Passing (Refused s) g h = absurd (unmet_never (CheckNeeds fmt at c) check_reasons s g h)
check_once fmt at c Passing (Refused r) Passing g h = absurd (unmet_never (CheckNeeds fmt at c) check_reasons r h g)
check_once fmt at c Passing (Refused r) (Refused s) g h = ap Refused (unmet_once (CheckNeeds fmt at c) check_reasons r s g h)
check_once fmt at c Passing Accepted u g h = absurd g
check_once fmt at c Passing w Accepted g h = absurd h
check_once fmt at c Accepted w u g h = g ∙ sym h
check_once fmt at c (Refused r) w u g h = g ∙ sym h

checks_once : (fmt : Format) (at : Lookup) (js ks ls : List Judged) → ChecksAll fmt at js ks → ChecksAll fmt at js ls → ks ≡ ls
checks_once fmt at [] [] [] g h = refl
checks_once fmt at (j ∷ js) (k ∷ ks) (l ∷ ls) g h =
    same_cons k l ks ls (same_judged k.command l.command k.verdict l.verdict (g.0 ∙ sym h.0) (check_once fmt at j.command j.verdict k.verdict l.verdict g.1 h.1)) (checks_once fmt at js ks ls g.2 h.2)
checks_once fmt at [] (k ∷ ks) ls g h = absurd g
checks_once fmt at [] [] (l ∷ ls) g h = absurd h
checks_once fmt at (j ∷ js) [] ls g h = absurd g
checks_once fmt at (j ∷ js) (k ∷ ks) [] g h = absurd h

pub push_check_once : (fmt : Format) (at : Lookup) (atomic : Bool) (js ks ls : List Judged) → ChecksPush fmt at atomic js ks → ChecksPush fmt at atomic js ls → ks ≡ ls
push_check_once fmt at false js ks ls g h = checks_once fmt at js ks ls g h
push_check_once fmt at true js ks ls g h =
    g.2 ∙ (ap (λ (ms : List Judged). if list_all is_passing ms then ms else map failed_with_others ms) (checks_once fmt at js g.0 h.0 g.1 h.1) ∙ sym h.2)

-- ---- the update

update_once : (refs : Refs) (c : Command) (v w : Verdict) (cs ds : List Change) → Updates refs c v cs → Updates refs c w ds → (v ≡ w) × (cs ≡ ds)
update_once refs c Accepted Accepted cs ds g h = (refl, g.1 ∙ sym h.1)
update_once refs c Accepted (Refused s) cs ds g h = absurd (unmet_never (UpdateNeeds refs c) update_reasons s g.0 h.0)
update_once refs c (Refused r) Accepted cs ds g h = absurd (unmet_never (UpdateNeeds refs c) update_reasons r h.0 g.0)
update_once refs c (Refused r) (Refused s) cs ds g h = (ap Refused (unmet_once (UpdateNeeds refs c) update_reasons r s g.0 h.0), g.1 ∙ sym h.1)
update_once refs c Passing w cs ds g h = absurd g
update_once refs c v Passing cs ds g h = absurd h

cons_same : {X : Type 0} (x y : X) (xs ys : List X) → x ∷ xs ≡ y ∷ ys → (x ≡ y) × (xs ≡ ys)
cons_same x y xs ys e = (cc, cc)

passing_is : (j : Judged) → j.verdict ≡ Passing → is_passing j ≡ true
passing_is j e = ap (λ (v : Verdict). elim v [ Passing ↦ true | Accepted ↦ false | Refused r ↦ false ]) e

passes_now : (f : List Judged) (j : Judged) → list_any is_passing (j ∷ f) ≡ false → j.verdict ≡ Passing → ⊥
passes_now f j none is = let p : is_passing j ≡ true = passing_is j is in absurd (let q = rw p at none in cc)

rest_none : (f : List Judged) (j : Judged) → list_any is_passing (j ∷ f) ≡ false → list_any is_passing f ≡ false
rest_none f j none = go (is_passing j) refl
  where
    go : (b : Bool) → is_passing j ≡ b → list_any is_passing f ≡ false
    go true p = absurd (let q = rw p at none in cc)
    go false p = rw p at none

-- a list is cut at its first passing command in one way
cut_once : (f g : List Judged) (a b : Judged) (s t : List Judged) → list_any is_passing f ≡ false → a.verdict ≡ Passing → list_any is_passing g ≡ false → b.verdict ≡ Passing
    → f ++ a ∷ s ≡ g ++ b ∷ t → (f ≡ g) × (a ≡ b) × (s ≡ t)
cut_once [] [] a b s t nf pa ng pb e = let k = cons_same a b s t e in (refl, k.0, k.1)
cut_once [] (j ∷ g) a b s t nf pa ng pb e = let k = cons_same a j s (g ++ b ∷ t) e in absurd (passes_now g j ng (ap (λ (j : Judged). j.verdict) (sym k.0) ∙ pa))
cut_once (j ∷ f) [] a b s t nf pa ng pb e = let k = cons_same j b (f ++ a ∷ s) t e in absurd (passes_now f j nf (ap (λ (j : Judged). j.verdict) k.0 ∙ pb))
cut_once (j ∷ f) (l ∷ g) a b s t nf pa ng pb e =
    let k = cons_same j l (f ++ a ∷ s) (g ++ b ∷ t) e in
    let m = cut_once f g a b s t (rest_none f j nf) pa (rest_none g l ng) pb k.1 in
    (same_cons j l f g k.0 m.0, m.1, m.2)

after_same : (f g : List Judged) (c d : Command) (v w : Verdict) (s t : List Judged) → f ≡ g → c ≡ d → v ≡ w → s ≡ t
    → f ++ record { command = c; verdict = v } ∷ s ≡ g ++ record { command = d; verdict = w } ∷ t
after_same f g c d v w s t p q u z = cc

-- What two next updates of one push share.
record NextOnce (r : Repository) (js ks ls : List Judged) (cs ds : List Change) (u : UpdatesNext r js ks cs) (w : UpdatesNext r js ls ds) : Type 0 where
  pub after : ks ≡ ls
  pub changes : cs ≡ ds
  pub command : u.next.command ≡ w.next.command
  pub verdict : u.verdict ≡ w.verdict

next_once : (r : Repository) (js ks ls : List Judged) (cs ds : List Change) (u : UpdatesNext r js ks cs) (w : UpdatesNext r js ls ds) → NextOnce r js ks ls cs ds u w
next_once r js ks ls cs ds u w =
    let c = cut_once u.front w.front u.next w.next u.back w.back u.first u.passing w.first w.passing (sym u.before ∙ w.before) in
    let command : u.next.command ≡ w.next.command = ap (λ (j : Judged). j.command) c.1 in
    let k = update_once r.refs w.next.command u.verdict w.verdict cs ds (subst (λ (c : Command). Updates r.refs c u.verdict cs) command u.update) w.update in
    record {
      after = u.after ∙ (after_same u.front w.front u.next.command w.next.command u.verdict w.verdict u.back w.back c.0 command k.0 c.2 ∙ sym w.after);
      changes = k.1;
      command = command;
      verdict = k.0;
    }

turn_once : (refs : Refs) (named : List RefName) (js : List Judged) (rs ss : List (Option Reason)) → JudgesInTurn refs named js rs → JudgesInTurn refs named js ss → rs ≡ ss
turn_once refs named [] [] [] g h = refl
turn_once refs named (j ∷ js) (None ∷ rs) (None ∷ ss) g h =
    ap (λ (rs : List (Option Reason)). None ∷ rs) (turn_once (insert refs j.command.name j.command.new) (j.command.name ∷ named) js rs ss g.1 h.1)
turn_once refs named (j ∷ js) (None ∷ rs) (Some s ∷ ss) g h = absurd (unmet_never (TurnNeeds refs named j.command) update_reasons s g.0 h.0)
turn_once refs named (j ∷ js) (Some r ∷ rs) (None ∷ ss) g h = absurd (unmet_never (TurnNeeds refs named j.command) update_reasons r h.0 g.0)
turn_once refs named (j ∷ js) (Some r ∷ rs) (Some s ∷ ss) g h =
    same_cons (Some r) (Some s) rs ss (ap Some (unmet_once (TurnNeeds refs named j.command) update_reasons r s g.0 h.0)) (turn_once refs (j.command.name ∷ named) js rs ss g.1 h.1)
turn_once refs named [] (r ∷ rs) ss g h = absurd g
turn_once refs named [] [] (s ∷ ss) g h = absurd h
turn_once refs named (j ∷ js) [] ss g h = absurd g
turn_once refs named (j ∷ js) (None ∷ rs) [] g h = absurd h
turn_once refs named (j ∷ js) (Some r ∷ rs) [] g h = absurd h

all_once : (refs : Refs) (js ks ls : List Judged) (rs ss : List (Option Reason)) (cs ds : List Change) → UpdatesAll refs js rs ks cs → UpdatesAll refs js ss ls ds → (rs ≡ ss) × (ks ≡ ls) × (cs ≡ ds)
all_once refs js ks ls rs ss cs ds g h =
    let same : rs ≡ ss = turn_once refs [] js rs ss g.0 h.0 in
    go same g.1 h.1
  where
    go : rs ≡ ss
        → (list_all is_none rs ≡ true) × (ks ≡ map accepted js) × (cs ≡ SetRefs (map new_value js) ∷ []) ⊎ (list_all is_none rs ≡ false) × (ks ≡ refused_by js rs) × (cs ≡ [])
        → (list_all is_none ss ≡ true) × (ls ≡ map accepted js) × (ds ≡ SetRefs (map new_value js) ∷ []) ⊎ (list_all is_none ss ≡ false) × (ls ≡ refused_by js ss) × (ds ≡ [])
        → (rs ≡ ss) × (ks ≡ ls) × (cs ≡ ds)
    go same (inl p) (inl q) = (same, p.1 ∙ sym q.1, p.2 ∙ sym q.2)
    go same (inr p) (inr q) = (same, p.1 ∙ (ap (refused_by js) same ∙ sym q.1), p.2 ∙ sym q.2)
    go same (inl p) (inr q) = absurd (apart (sym p.0 ∙ (ap (list_all is_none) same ∙ q.0)))
      where
        apart : true ≡ false → ⊥
        apart e = absurd (cc)
    go same (inr p) (inl q) = absurd (apart (sym p.0 ∙ (ap (list_all is_none) same ∙ q.0)))
      where
        apart : false ≡ true → ⊥
        apart e = absurd (cc)

push_update_once : (r : Repository) (p : OpenPush) (ks ls : List Judged) (cs ds : List Change) (y z : Reply) → UpdatesPush r p ks cs y → UpdatesPush r p ls ds z → (ks ≡ ls) × (cs ≡ ds) × (y ≡ z)
push_update_once r p ks ls cs ds y z g h = elim g [
  | together rs a u t ↦ elim h [
    | together ss b w v ↦
        let k = all_once r.refs p.commands ks ls rs ss cs ds u w in
        (k.1, k.2, same_Some y z (sym t ∙ (ap (λ (rs : List (Option Reason)). if list_all is_none rs then Some (UpdatedAll (length p.commands)) else first_refusal p.commands rs) k.0 ∙ v)))
    | singly w b v ↦ absurd (cc)
  ]
  | singly u a t ↦ elim h [
    | together ss b w v ↦ absurd (cc)
    | singly w b v ↦
        let k = next_once r p.commands ks ls cs ds u w in
        (k.after, k.changes, t ∙ (ap (λ (c : Command). Updated c.name (refusal_of u.verdict)) k.command ∙ (ap (λ (x : Verdict). Updated w.next.command.name (refusal_of x)) k.verdict ∙ sym v)))
  ]
]

-- ---- a step of a push

step_once : (fmt : Format) (r : Repository) (p : OpenPush) (x : Stage) (e f : Effect) (q u : OpenPush) (y z : Reply) → StepsPush fmt r p x e q y → StepsPush fmt r p x f u z → (e ≡ f) × (q ≡ u) × (y ≡ z)
step_once fmt r p Unpacked e f q u y z g h =
    let same : g.0 ≡ h.0 = push_check_once fmt (over r.objects p.carried) p.atomic p.commands g.0 h.0 g.1 h.1 in (
      g.2 ∙ sym h.2,
      g.3 ∙ (ap (λ (ks : List Judged). record p { commands = ks; stage = stage_while ks Checked }) same ∙ sym h.3),
      g.4 ∙ (ap (λ (ks : List Judged). Passed (count_by is_passing ks)) same ∙ sym h.4),
    )
step_once fmt r p Checked e f q u y z g h = (g.0 ∙ sym h.0, g.1 ∙ sym h.1, g.2 ∙ sym h.2)
step_once fmt r p Migrated e f q u y z g h =
    let k = push_update_once r p g.0 h.0 g.1 h.1 y z g.2 h.2 in (
      g.3 ∙ (ap only_changes k.1 ∙ sym h.3),
      g.4 ∙ (ap (λ (ks : List Judged). record p { commands = ks; stage = stage_while ks Migrated }) k.0 ∙ sym h.4),
      k.2,
    )
step_once fmt r p Finished e f q u y z g h = absurd g

same_told : (n m : RefName) (o q : Result Id ℕ) → n ≡ m → o ≡ q → ◌≡◌ {A = Told} (record { name = n; outcome = o }) (record { name = m; outcome = q })
same_told n m o q e f = cc

outcome_told : (j : Judged) (o q : Result Id ℕ) → (j.verdict ≡ Accepted) × (o ≡ Ok j.command.new) ⊎ ((r : Reason) × (j.verdict ≡ Refused r) × (o ≡ Err (reason_number r)))
    → (j.verdict ≡ Accepted) × (q ≡ Ok j.command.new) ⊎ ((r : Reason) × (j.verdict ≡ Refused r) × (q ≡ Err (reason_number r))) → o ≡ q
outcome_told j o q (inl g) (inl h) = g.1 ∙ sym h.1
outcome_told j o q (inl g) (inr h) = absurd (let a = g.0 in let b = h.1 in cc)
outcome_told j o q (inr g) (inl h) = absurd (let a = g.1 in let b = h.0 in cc)
outcome_told j o q (inr g) (inr h) = let same : g.0 ≡ h.0 = let a = g.1 in let b = h.1 in cc in g.2 ∙ (ap (λ (r : Reason). Err (reason_number r)) same ∙ sym h.2)

told_all_once : (js : List Judged) (ts us : List Told) → TellsAll js ts → TellsAll js us → ts ≡ us
told_all_once [] [] [] g h = refl
told_all_once (j ∷ js) (t ∷ ts) (u ∷ us) g h =
    same_cons t u ts us (same_told t.name u.name t.outcome u.outcome (g.0.0 ∙ sym h.0.0) (outcome_told j t.outcome u.outcome g.0.1 h.0.1)) (told_all_once js ts us g.1 h.1)
told_all_once [] (t ∷ ts) us g h = absurd g
told_all_once [] [] (u ∷ us) g h = absurd h
told_all_once (j ∷ js) [] us g h = absurd g
told_all_once (j ∷ js) (t ∷ ts) [] g h = absurd h

same_deed : (e f : Effect) (l k : Slots) (s t : Option Message) (y z : Reply) → e ≡ f → l ≡ k → s ≡ t → y ≡ z
    → ◌≡◌ {A = Deed Slots} (record { effect = e; left = l; sends = s; reply = y }) (record { effect = f; left = k; sends = t; reply = z })
same_deed e f l k s t y z a b c d = cc

-- What a step of the push in a slot is, where the push is known.
abbrev StepsThis : Format → Repository → Slots → ℕ → OpenPush → Deed Slots → Type 0
StepsThis fmt r slots s p d =
    ((q : OpenPush) × StepsPush fmt r p p.stage d.effect q d.reply × (d.left ≡ insert slots s q) × (d.sends ≡ None))
    ⊎ ((ts : List Told) × (p.stage ≡ Finished) × TellsAll p.commands ts × (d ≡ record { effect = no_effect; left = remove slots s; sends = Some (Report p.fault ts); reply = Sends }))

finished_steps : (fmt : Format) (r : Repository) (p q : OpenPush) (e : Effect) (y : Reply) → p.stage ≡ Finished → StepsPush fmt r p p.stage e q y → ⊥
finished_steps fmt r p q e y is h = subst (λ (x : Stage). StepsPush fmt r p x e q y) is h

this_once : (fmt : Format) (r : Repository) (slots : Slots) (s : ℕ) (p : OpenPush) (d e : Deed Slots) → StepsThis fmt r slots s p d → StepsThis fmt r slots s p e → d ≡ e
this_once fmt r slots s p d e (inl g) (inl h) =
    let k = step_once fmt r p p.stage d.effect e.effect g.0 h.0 d.reply e.reply g.1 h.1 in
    same_deed d.effect e.effect d.left e.left d.sends e.sends d.reply e.reply k.0 (g.2 ∙ (ap (insert slots s) k.1 ∙ sym h.2)) (g.3 ∙ sym h.3) k.2
this_once fmt r slots s p d e (inl g) (inr h) = absurd (finished_steps fmt r p g.0 d.effect d.reply h.1 g.1)
this_once fmt r slots s p d e (inr g) (inl h) = absurd (finished_steps fmt r p h.0 e.effect e.reply g.1 h.1)
this_once fmt r slots s p d e (inr g) (inr h) =
    g.3 ∙ (ap (λ (ts : List Told). record { effect = no_effect; left = remove slots s; sends = Some (Report p.fault ts); reply = Sends }) (told_all_once p.commands g.0 h.0 g.2 h.2) ∙ sym h.3)

slot_once : (fmt : Format) (r : Repository) (slots : Slots) (s : ℕ) (d e : Deed Slots) → StepsSlot fmt r slots s d → StepsSlot fmt r slots s e → d ≡ e
slot_once fmt r slots s d e g h =
    let same : g.0 ≡ h.0 = same_Some g.0 h.0 (sym g.1 ∙ h.1) in
    this_once fmt r slots s h.0 d e (subst (λ (p : OpenPush). StepsThis fmt r slots s p d) same g.2) h.2

-- ---- messages

counted_once : (fmt : Format) (r : Repository) (hs : List Id) (a b : Option Id) → IsFirstCounted fmt r hs a → IsFirstCounted fmt r hs b → a ≡ b
counted_once fmt r [] a b g h = g ∙ sym h
counted_once fmt r (x ∷ hs) a b (inl g) (inl h) = g.1 ∙ sym h.1
counted_once fmt r (x ∷ hs) a b (inl g) (inr h) = absurd (h.0 g.0)
counted_once fmt r (x ∷ hs) a b (inr g) (inl h) = absurd (g.0 h.0)
counted_once fmt r (x ∷ hs) a b (inr g) (inr h) = counted_once fmt r hs a b g.1 h.1

not_less : (s t : ℕ) → (s < t → ⊥) → (t < s → ⊥) → s ≡ t
not_less s t a b = omega (arith, a, b)

lowest_once : (slots : Slots) (s t : ℕ) → IsLowestFree slots s → IsLowestFree slots t → s ≡ t
lowest_once slots s t g h = not_less s t (λ k. h.lowest s k g.free) (λ k. g.lowest t k h.free)

serve_once : (fmt : Format) (r : Repository) (slots : Slots) (m : Message) (d e : Deed Slots) → Serves fmt r slots m d → Serves fmt r slots m e → d ≡ e
serve_once fmt r slots ListRefs d e g h = g ∙ sym h
serve_once fmt r slots (Want wants haves) d e g h =
    let p = g.1 in let q = h.1 in
    let ack : p.0 ≡ q.0 = counted_once fmt r haves p.0 q.0 p.2 q.2 in
    let pack : p.1 ≡ q.1 = difference_once fmt r.objects (Contains wants) (λ h. Contains haves h × IsOurs fmt r h) p.1 q.1 p.3 q.3 in
    p.4 ∙ (ap (λ (a : Option Id). record { effect = no_effect; left = slots; sends = Some (Pack a p.1); reply = Sends }) ack
    ∙ (ap (λ (s : Objects). record { effect = no_effect; left = slots; sends = Some (Pack q.0 s); reply = Sends }) pack ∙ sym q.4))
serve_once fmt r slots (Push atomic fault cs objects) d e g h =
    g.2 ∙ (ap (λ (s : ℕ). record { effect = no_effect; left = insert slots s (push_opened atomic fault cs objects); sends = None; reply = Opened s }) (lowest_once slots g.0 h.0 g.1 h.1) ∙ sym h.2)
serve_once fmt r slots (Advert x y) d e g h = absurd g
serve_once fmt r slots (Pack ack s) d e g h = absurd g
serve_once fmt r slots (Report fault ts) d e g h = absurd g
serve_once fmt r slots (Error text) d e g h = absurd g

serve_refusal_once : (fmt : Format) (r : Repository) (slots : Slots) (m : Message) (n k : ℕ) → ServesNot fmt r slots m n → ServesNot fmt r slots m k → n ≡ k
serve_refusal_once fmt r slots ListRefs n k g h = absurd g
serve_refusal_once fmt r slots (Want wants haves) n k g h = g.0 ∙ sym h.0
serve_refusal_once fmt r slots (Push atomic fault cs objects) n k g h = g.0 ∙ sym h.0
serve_refusal_once fmt r slots (Advert x y) n k g h = g ∙ sym h
serve_refusal_once fmt r slots (Pack ack s) n k g h = g ∙ sym h
serve_refusal_once fmt r slots (Report fault ts) n k g h = g ∙ sym h
serve_refusal_once fmt r slots (Error text) n k g h = g ∙ sym h

serve_apart : (fmt : Format) (r : Repository) (slots : Slots) (m : Message) (n : ℕ) (d : Deed Slots) → ServesNot fmt r slots m n → Serves fmt r slots m d → ⊥
serve_apart fmt r slots ListRefs n d g h = g
serve_apart fmt r slots (Want wants haves) n d g h = g.3 (all_holds (IsOurs fmt r) wants g.1 h.0 g.2)
serve_apart fmt r slots (Push atomic fault cs objects) n d g h = g.1 h.0 h.1.below h.1.free
serve_apart fmt r slots (Advert x y) n d g h = h
serve_apart fmt r slots (Pack ack s) n d g h = h
serve_apart fmt r slots (Report fault ts) n d g h = h
serve_apart fmt r slots (Error text) n d g h = h

slot_apart : (fmt : Format) (r : Repository) (slots : Slots) (s n : ℕ) (d : Deed Slots) → (n ≡ 111) × (get slots s ≡ None) → StepsSlot fmt r slots s d → ⊥
slot_apart fmt r slots s n d g h = absurd (let a = g.1 in let b = h.1 in cc)

-- ---- calls

module _ (fmt : Format) (rules : Rules fmt) (old : SharedNode) where
  abbrev Off : Answer → SharedNode → Option Message → Type 0
  Off a new s = (a ≡ Declined 112) × (new ≡ old) × (s ≡ None)

  abbrev Works : SharedCall → Slots → Answer → SharedNode → Option Message → Type 0
  Works e w a new s = Worked old (λ w n. SharedRefuses fmt old.repository w e n) (λ w d. SharedObeys fmt old.repository w e d) w a new s

  -- what the call comes to, where there is no fault
  abbrev Outcome : SharedCall → Option Slots → Answer → SharedNode → Option Message → Type 0
  Outcome Open l a new s = RestartEnds a old empty new × (s ≡ None)
  Outcome (Asks q) None a new s = Off a new s
  Outcome (Asks q) (Some w) a new s = Tells fmt rules old.repository q a × (new ≡ old) × (s ≡ None)
  Outcome Prune None a new s = Off a new s
  Outcome Prune (Some w) a new s = PruneEnds a (IsNeeded fmt old.repository w) old new × (s ≡ None)
  Outcome (Accept m) None a new s = Off a new s
  Outcome (Accept m) (Some w) a new s = Works (Accept m) w a new s
  Outcome (StepOf k) None a new s = Off a new s
  Outcome (StepOf k) (Some w) a new s = Works (StepOf k) w a new s

  off : (e : SharedCall) (a : Answer) (new : SharedNode) (s : Option Message) → e ≢ Open → Off a new s → Outcome e None a new s
  off (Accept m) a new s other h = h
  off (StepOf k) a new s other h = h
  off (Asks q) a new s other h = h
  off Prune a new s other h = h
  off Open a new s other h = absurd (other refl)

  on : (e : SharedCall) (w : Slots) (a : Answer) (new : SharedNode) (s : Option Message) → Works e w a new s → Outcome e (Some w) a new s
  on (Accept m) w a new s h = h
  on (StepOf k) w a new s h = h
  on (Asks q) w a new s h = elim h [ inl k ↦ absurd k.1 | inr k ↦ absurd k.1 ]
  on Prune w a new s h = elim h [ inl k ↦ absurd k.1 | inr k ↦ absurd k.1 ]
  on Open w a new s h = elim h [ inl k ↦ absurd k.1 | inr k ↦ absurd k.1 ]

  comes_to : (e : SharedCall) (a : Answer) (new : SharedNode) (s : Option Message) → IsNoFault a → SharedAnswers fmt rules old e a new s → Outcome e old.live a new s
  comes_to e a new s quiet h = elim h [
    | down is other declined same none ↦ subst (λ l. Outcome e l a new s) (sym is) (off e a new s other (declined, same, none))
    | asked w q up is tells same none ↦ subst (λ l. Outcome e l a new s) (sym up) (subst (λ e. Outcome e (Some w) a new s) (sym is) (tells, same, none))
    | refused w n up why is same none ↦ subst (λ l. Outcome e l a new s) (sym up) (on e w a new s (inl (n, why, is, same, none)))
    | obeyed w d up deed ends is ↦ subst (λ l. Outcome e l a new s) (sym up) (on e w a new s (inr (d, deed, ends, is)))
    | pruned w up is ends none ↦ subst (λ l. Outcome e l a new s) (sym up) (subst (λ e. Outcome e (Some w) a new s) (sym is) (ends, none))
    | opened is ends none ↦ subst (λ e. Outcome e old.live a new s) (sym is) (ends, none)
    | faulted w f up other is same none ↦ absurd (subst IsNoFault is quiet)
  ]

  off_once : (a b : Answer) (m n : SharedNode) (s t : Option Message) → Off a m s → Off b n t → AreOne a b m n s t
  off_once a b m n s t g h = (g.0 ∙ sym h.0, g.1 ∙ sym h.1, g.2 ∙ sym h.2)

  outcome_once : (e : SharedCall) (l : Option Slots) (a b : Answer) (m n : SharedNode) (s t : Option Message) → Outcome e l a m s → Outcome e l b n t → IsNoFault a → IsNoFault b → AreOne a b m n s t
  outcome_once Open l a b m n s t g h p q = let k = restart_once old empty a b m n g.0 h.0 p q in (k.0, k.1, g.1 ∙ sym h.1)
  outcome_once (Asks q) None a b m n s t g h u v = off_once a b m n s t g h
  outcome_once (Asks q) (Some w) a b m n s t g h u v = (told_once fmt rules old.repository q a b g.0 h.0, g.1 ∙ sym h.1, g.2 ∙ sym h.2)
  outcome_once Prune None a b m n s t g h u v = off_once a b m n s t g h
  outcome_once Prune (Some w) a b m n s t g h u v = let k = prune_once (IsNeeded fmt old.repository w) old a b m n g.0 h.0 u v in (k.0, k.1, g.1 ∙ sym h.1)
  outcome_once (Accept c) None a b m n s t g h u v = off_once a b m n s t g h
  outcome_once (Accept c) (Some w) a b m n s t g h u v =
      worked_once old (λ w n. SharedRefuses fmt old.repository w (Accept c) n) (λ w d. SharedObeys fmt old.repository w (Accept c) d)
      (λ w n k. serve_refusal_once fmt old.repository w c n k) (λ w d e. serve_once fmt old.repository w c d e) (λ w n d. serve_apart fmt old.repository w c n d) w a b m n s t g h u v
  outcome_once (StepOf k) None a b m n s t g h u v = off_once a b m n s t g h
  outcome_once (StepOf k) (Some w) a b m n s t g h u v =
      worked_once old (λ w n. SharedRefuses fmt old.repository w (StepOf k) n) (λ w d. SharedObeys fmt old.repository w (StepOf k) d)
      (λ w n j g h. g.0 ∙ sym h.0) (λ w d e. slot_once fmt old.repository w k d e) (λ w n d. slot_apart fmt old.repository w k n d) w a b m n s t g h u v

  pub shared_once : (m n : SharedNode) (e : SharedCall) (a b : Answer) (s t : Option Message) → SharedAnswers fmt rules old e a m s → SharedAnswers fmt rules old e b n t → IsNoFault a → IsNoFault b → AreOne a b m n s t
  shared_once m n e a b s t g h u v = outcome_once e old.live a b m n s t (comes_to e a m s u g) (comes_to e b n t v h) u v

pub shared_has_one_answer : SharedHasOneAnswer
shared_has_one_answer fmt tests old m n e a b s t g h u v = shared_once fmt (rules_by fmt tests) old m n e a b s t g h u v
