-- One call of the shared node that is no prune: tags that have a value keep it, and HEAD and the index stay.
use Rattle.std.proofs.Common.{◌≡◌, ◌≢◌, ◌⊎◌, ℕ, true, List, [], ◌∷◌, map, take, zero, suc, Option, Some, None, is_none, inl, inr, refl, sym, ap, ◌∙◌, subst}
use Rattle.std.specs.FinMap.{empty, get, insert}
use Rattle.std.specs.List.{list_all}
use Rattle.std.specs.Cmp.Lexicographic.{nat_list_cmp_total}
use Rattle.vc_model.specs.Message.{Message}
use Rattle.vc_model.specs.Message.Message.{Advert, Error, ListRefs, Pack, Push, Report, Want}
use Rattle.vc_model.specs.Node.{Answer, Deed, Ends, Reply}
use Rattle.vc_model.specs.Node.Answer.{Declined, Did, Fault}
use Rattle.vc_model.specs.Object.{Format, Id, Objects}
use Rattle.vc_model.specs.Push.{Command, Judged, JudgesInTurn, OpenPush, Reason, Slots, Stage, Updates, UpdatesAll, Verdict, new_value}
use Rattle.vc_model.specs.Push.Stage.{Checked, Finished, Migrated, Unpacked}
use Rattle.vc_model.specs.Push.Verdict.{Accepted, Passing, Refused}
use Rattle.vc_model.specs.Refs.{IsTag, RefName, Refs, with_refs}
use Rattle.vc_model.specs.Repository.{Change, Effect, Repository, StopsWithin, changed_all, with_objects}
use Rattle.vc_model.specs.Repository.Change.{SetRefs}
use Rattle.vc_model.specs.Rules.{Rules}
use Rattle.vc_model.specs.Shared.{Serves, SharedNode, StepsPush, UpdatesPush}
use Rattle.vc_model.specs.Shared.UpdatesPush.{singly, together}
use Rattle.vc_model.specs.SharedCall.{SharedAnswers, SharedCall, SharedObeys}
use Rattle.vc_model.specs.SharedCall.SharedAnswers.{asked, down, faulted, obeyed, opened as restarted, pruned, refused}
use Rattle.vc_model.specs.SharedCall.SharedCall.{Accept, Asks, Open, Prune, StepOf}
use Rattle.vc_model.proofs.Kept.{restart_ok}
use Rattle.vc_model.proofs.Maps.{bytes_same, insert_other, same_key}
use Rattle.vc_life.specs.Laws.{KeepsTags}
use Rattle.vc_life.proofs.Calls.{IsNoPrune}

-- ---- refs that are set

abbrev TagsStay : Refs → Refs → Type 0
TagsStay old new = (n : RefName) (x : Id) → IsTag n → get old n ≡ Some x → get new n ≡ Some x

one_set : (refs : Refs) (c : Command) → (IsTag c.name → get refs c.name ≡ None) → TagsStay refs (insert refs c.name c.new)
one_set refs c free n x is at = go (same_key nat_list_cmp_total bytes_same n c.name)
  where
    go : (n ≡ c.name) ⊎ (n ≢ c.name) → get (insert refs c.name c.new) n ≡ Some x
    go (inl same) = absurd (let none : get refs n ≡ None = ap (get refs) same ∙ free (subst IsTag same is) in cc)
    go (inr other) = insert_other nat_list_cmp_total bytes_same refs c.name c.new n other ∙ at

all_set : (refs : Refs) (named : List RefName) (js : List Judged) (rs : List (Option Reason)) → JudgesInTurn refs named js rs → list_all is_none rs ≡ true → TagsStay refs (with_refs (map new_value js) refs)
all_set refs named [] [] h all n x is at = at
all_set refs named (j ∷ js) (None ∷ rs) h all n x is at =
    all_set (insert refs j.command.name j.command.new) (j.command.name ∷ named) js rs h.1 all n x is (one_set refs j.command h.0.0 n x is at)
all_set refs named (j ∷ js) (Some r ∷ rs) h all n x is at = absurd (cc)
all_set refs named [] (r ∷ rs) h all n x is at = absurd h
all_set refs named (j ∷ js) [] h all n x is at = absurd h

-- no change, or one that sets refs and moves no tag
data Mild (refs : Refs) (cs : List Change) : Type 0 where
  still : cs ≡ [] → Mild refs cs
  sets : (rs : List (RefName × Id)) → cs ≡ SetRefs rs ∷ [] → TagsStay refs (with_refs rs refs) → Mild refs cs

updated : (refs : Refs) (c : Command) (v : Verdict) (cs : List Change) → Updates refs c v cs → Mild refs cs
updated refs c Passing cs h = absurd h
updated refs c Accepted cs h = sets ((c.name, c.new) ∷ []) h.1 (one_set refs c h.0.0)
updated refs c (Refused r) cs h = still h.1

updated_all : (refs : Refs) (js ks : List Judged) (rs : List (Option Reason)) (cs : List Change) → UpdatesAll refs js rs ks cs → Mild refs cs
updated_all refs js ks rs cs (turn, inl w) = sets (map new_value js) w.2 (all_set refs [] js rs turn w.0)
updated_all refs js ks rs cs (turn, inr w) = still w.2

updates : (r : Repository) (p : OpenPush) (ks : List Judged) (cs : List Change) (y : Reply) → UpdatesPush r p ks cs y → Mild r.refs cs
updates r p ks cs y (together rs a u t) = updated_all r.refs p.commands ks rs cs u
updates r p ks cs y (singly u a t) = updated r.refs u.next.command u.verdict cs u.update

steps : (fmt : Format) (r : Repository) (p q : OpenPush) (stage : Stage) (e : Effect) (y : Reply) → StepsPush fmt r p stage e q y → Mild r.refs e.changes
steps fmt r p q Unpacked e y is = still (ap (λ (e : Effect). e.changes) is.2)
steps fmt r p q Checked e y is = still (ap (λ (e : Effect). e.changes) is.0)
steps fmt r p q Migrated e y is = subst (Mild r.refs) (sym (ap (λ (e : Effect). e.changes) is.3)) (updates r p is.0 is.1 y is.2)
steps fmt r p q Finished e y is = absurd is

serves : (fmt : Format) (r : Repository) (slots : Slots) (m : Message) (d : Deed Slots) → Serves fmt r slots m d → Mild r.refs d.effect.changes
serves fmt r slots ListRefs d is = still (ap (λ (d : Deed Slots). d.effect.changes) is)
serves fmt r slots (Want wants haves) d is = still (ap (λ (d : Deed Slots). d.effect.changes) is.1.4)
serves fmt r slots (Push atomic fault cs objects) d is = still (ap (λ (d : Deed Slots). d.effect.changes) is.2)
serves fmt r slots (Advert head refs) d is = absurd is
serves fmt r slots (Pack ack s) d is = absurd is
serves fmt r slots (Report fault ts) d is = absurd is
serves fmt r slots (Error text) d is = absurd is

obeys : (fmt : Format) (r : Repository) (slots : Slots) (e : SharedCall) (d : Deed Slots) → SharedObeys fmt r slots e d → Mild r.refs d.effect.changes
obeys fmt r slots (Accept m) d is = serves fmt r slots m d is
obeys fmt r slots (StepOf s) d is = elim (is.2) [
  | inl w ↦ steps fmt r is.0 w.0 is.0.stage d.effect d.reply w.1
  | inr w ↦ still (ap (λ (d : Deed Slots). d.effect.changes) w.3)
]
obeys fmt r slots (Asks q) d is = absurd is
obeys fmt r slots Prune d is = absurd is
obeys fmt r slots Open d is = absurd is

-- ---- how it ends

keeps_same : (old new : Repository) → new ≡ old → KeepsTags old new
keeps_same old new same = record {
  tags = λ n x is at. ap (λ (r : Repository). get r.refs n) same ∙ at;
  head = ap (λ (r : Repository). r.head) same;
  index = ap (λ (r : Repository). r.index) same;
}

changed_mild : (r : Repository) (s : Objects) (cs : List Change) → Mild r.refs cs → KeepsTags r (changed_all cs (with_objects r s))
changed_mild r s cs (still none) = subst (λ (l : List Change). KeepsTags r (changed_all l (with_objects r s))) (sym none) (record { tags = λ n x is at. at; head = refl; index = refl })
changed_mild r s cs (sets rs is stay) = subst (λ (l : List Change). KeepsTags r (changed_all l (with_objects r s))) (sym is) (record { tags = stay; head = refl; index = refl })

cut_mild : (refs : Refs) (k : ℕ) (cs : List Change) → Mild refs cs → Mild refs (take k cs)
cut_mild refs zero cs m = still refl
cut_mild refs (suc k) cs (still none) = still (ap (λ (l : List Change). take (suc k) l) none)
cut_mild refs (suc zero) cs (sets rs is stay) = sets rs (ap (λ (l : List Change). take 1 l) is) stay
cut_mild refs (suc (suc k)) cs (sets rs is stay) = sets rs (ap (λ (l : List Change). take (suc (suc k)) l) is) stay

ends : (a : Answer) (old new : SharedNode) (d : Deed Slots) → Mild old.repository.refs d.effect.changes → Ends a old d new → KeepsTags old.repository new.repository
ends (Did y) old new d m e = subst (KeepsTags old.repository) (sym e.0.2) (changed_mild old.repository e.0.0 d.effect.changes m)
ends (Fault f) old new d m e = cut e.0
  where
    cut : StopsWithin old.repository d.effect new.repository → KeepsTags old.repository new.repository
    cut (inl c) = subst (KeepsTags old.repository) (sym c.2) (record { tags = λ n x is at. at; head = refl; index = refl })
    cut (inr c) = subst (KeepsTags old.repository) (sym c.3) (changed_mild old.repository c.0 (take c.1 d.effect.changes) (cut_mild old.repository.refs c.1 d.effect.changes m))
ends (Declined n) old new d m e = absurd e

-- ---- the call

same_node : (old new : SharedNode) → new ≡ old → KeepsTags old.repository new.repository
same_node old new same = keeps_same old.repository new.repository (ap (λ (n : SharedNode). n.repository) same)

pub answer_tags : (fmt : Format) (rules : Rules fmt) (old new : SharedNode) (e : SharedCall) (a : Answer) (sends : Option Message) → IsNoPrune e → SharedAnswers fmt rules old e a new sends → KeepsTags old.repository new.repository
answer_tags fmt rules old new e a sends plain (down off other is same none) = same_node old new same
answer_tags fmt rules old new e a sends plain (asked w q up is tells same none) = same_node old new same
answer_tags fmt rules old new e a sends plain (refused w n up why is same none) = same_node old new same
answer_tags fmt rules old new e a sends plain (obeyed w d up does e_ends sent) = ends a old new d (obeys fmt old.repository w e d does) e_ends
answer_tags fmt rules old new e a sends plain (pruned w up is p_ends none) = absurd (subst IsNoPrune is plain)
answer_tags fmt rules old new e a sends plain (restarted is r_ends none) = keeps_same old.repository new.repository (restart_ok a old empty new r_ends).same
answer_tags fmt rules old new e a sends plain (faulted w f up other is same none) = keeps_same old.repository new.repository (ap (λ (n : SharedNode). n.repository) same)

pub tags_then : (a b c : Repository) → KeepsTags a b → KeepsTags b c → KeepsTags a c
tags_then a b c p q = record { tags = λ n x is at. q.tags n x is (p.tags n x is at); head = q.head ∙ p.head; index = q.index ∙ p.index }

pub tags_here : (r : Repository) → KeepsTags r r
tags_here r = keeps_same r r refl
