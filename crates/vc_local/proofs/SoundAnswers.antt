-- The machine's answers to a command that takes it that all is there that refs reach: they are its answers of a sound node.
use Rattle.std.proofs.Common.{◌≡◌, ◌⊎◌, inl, inr, ℕ, Bool, true, ap, refl, sym, ◌∙◌, subst}
use Rattle.std.specs.Prelude.{not}
use Rattle.vc_files.specs.FileMap.{FileMap}
use Rattle.vc_model.specs.Clone.{Awaited, Task}
use Rattle.vc_model.specs.CloneCall.{Refuses}
use Rattle.vc_model.specs.CloneCall.CloneCall.{Command}
use Rattle.vc_model.specs.Fuse.{CloneWrites}
use Rattle.vc_model.specs.Node.{Answer, Failure}
use Rattle.vc_model.specs.Node.Answer.{Declined, Fault}
use Rattle.vc_model.specs.Repository.{IsSound, Repository}
use Rattle.vc_rules.specs.Git.{git}
use Rattle.vc_values.proofs.GitLaws.{git_rules}
use Rattle.vc_rules.proofs.WholeLemmas.{refs_whole}
use Rattle.vc_push_rules.specs.Known.{AreRefsWhole}
use Rattle.vc_local.specs.Machine.{AnswersShown, AnswersShownIfSound, Follows, FollowsIf, IsBadFile, MayWriteIfSoundOr, Spells, fault_answer, live_of}
use Rattle.vc_local.specs.NodeFault.{takes_down}
use Rattle.vc_local.specs.Shown.{Shown, shown}
use Rattle.vc_local.specs.declared.fault.NodeFault.{NodeFault}
use Rattle.vc_local.proofs.AnswerLemmas.{faults, stays, stays_by_fault, step_of}

-- what is shown of a sound repository reaches nothing that is absent
pub whole_refs : (content : FileMap) (r : Repository) → Spells (shown content) r → IsSound git r → AreRefsWhole content
whole_refs content r spells sound = refs_whole content r (record { objects_are = spells.objects; refs_are = spells.refs }) sound

-- what holds in any case holds of a sound node
pub follows_too : (Held : Type 0) (task : Task) (a : Answer) (old new : Shown) → Follows task a old new → FollowsIf Held task a old new
follows_too Held task a old new follows = record { goes = λ awaited r p. let g = follows.goes awaited r p in (g.0, g.1, λ held. g.2) }

pub answers_too : (task : Task) (a : Answer) (was is : Bool) (old new : Shown) → AnswersShown task a was is old new → AnswersShownIfSound task a was is old new
answers_too task a was is old new answers = record { each = λ awaited n holds. let g = answers.each awaited n holds in (g.0, g.1, λ sound. g.2) }

-- a refusal
pub declines_if : (Held : Type 0) (task : Task) (n : ℕ) (s : Shown) → ((r : Repository) → Spells s r → Held → Refuses git git_rules r task n) → FollowsIf Held task (Declined n) s s
declines_if Held task n s h = record { goes = λ awaited r spells. (r, spells, λ held. (h r spells held, refl)) }

-- a fault before anything was done
pub faults_if : (Held : Type 0) (task : Task) (f : Failure) (s : Shown) → FollowsIf Held task (Fault f) s s
faults_if Held task f s = follows_too Held task (Fault f) s s (faults task f s)

-- what is left as it was
pub or_same : (Bad Held : Type 0) (task : Task) (a : Answer) (old new : FileMap) → Bad ⊎ FollowsIf Held task a (shown old) (shown old) → new ≡ old → Bad ⊎ FollowsIf Held task a (shown old) (shown new)
or_same Bad Held task a old new cases same = subst (λ (m : FileMap). Bad ⊎ FollowsIf Held task a (shown old) (shown m)) (sym same) cases

-- ---- a node that is up

pub sound_from : (task : Task) (a : Answer) (was is : Bool) (content : FileMap) (new : Shown) → FollowsIf (AreRefsWhole content) task a (shown content) new → was ≡ true → is ≡ stays a → AnswersShownIfSound task a was is (shown content) new
sound_from task a was is content new follows up after = record {
  each = λ awaited n holds.
      let g = follows.goes awaited n.repository holds.spells in (
        record { repository = g.0; live = live_of (stays a) awaited },
        record { spells = g.1; live = ap (λ (up : Bool). live_of up awaited) (sym after) },
        λ sound. step_of task a awaited n g.0 (holds.live ∙ ap (λ (up : Bool). live_of up awaited) up) (g.2 (whole_refs content n.repository holds.spells sound)),
      );
}

-- the same after a call that failed, as a method gives it
pub sound_failed : (task : Task) (e told : NodeFault) (was is : Bool) (content : FileMap) (new : Shown) → IsBadFile content e ⊎ FollowsIf (AreRefsWhole content) task (fault_answer e) (shown content) new → told ≡ e → was ≡ true → is ≡ not (takes_down e)
    → IsBadFile content told ⊎ AnswersShownIfSound task (fault_answer told) was is (shown content) new
sound_failed task e told was is content new cases same up after =
    subst (λ (f : NodeFault). IsBadFile content f ⊎ AnswersShownIfSound task (fault_answer f) was is (shown content) new) (sym same)
    (elim cases [ inl bad ↦ inl bad | inr follows ↦ inr (sound_from task (fault_answer e) was is content new follows up (after ∙ stays_by_fault e)) ])

-- ---- where the command may write

pub may_if_sound : (task : Task) (was : Bool) (content : FileMap) {IsLook : Type 0} → was ≡ true
    → ((awaited : Awaited) (r : Repository) → Spells (shown content) r → (AreRefsWhole content → CloneWrites git git_rules r awaited (Command task)) ⊎ IsLook) → MayWriteIfSoundOr task was content IsLook
may_if_sound task was content up each = λ awaited n holds. elim (each awaited n.repository holds.shows.spells) [
  | inl writes ↦ inl (λ sound. (awaited, holds.shows.live ∙ ap (λ (u : Bool). live_of u awaited) up, writes (whole_refs content n.repository holds.shows.spells sound)))
  | inr look ↦ inr look
]
