-- From what is shown before and after a call to the machine's answers.
use Rattle.std.proofs.Common.{◌≡◌, ◌⊎◌, inl, inr, ℕ, Bool, true, false, Option, Some, None, Result, Ok, Err, refl, sym, ap, ◌∙◌, subst}
use Rattle.std.specs.Prelude.{string_bytes, not, IsErrAnd}
use Rattle.vc_files.specs.FileMap.{FileMap}
use Rattle.vc_model.specs.Repository.{Repository}
use Rattle.vc_model.specs.Node.{Answer, Failure}
use Rattle.vc_model.specs.Node.Answer.{Did, Declined, Fault}
use Rattle.vc_model.specs.Clone.{Awaited, CloneNode, Task}
use Rattle.vc_model.specs.CloneCall.{CloneAnswers, Refuses}
use Rattle.vc_model.specs.CloneCall.CloneAnswers.{down, refused, obeyed, faulted}
use Rattle.vc_model.specs.CloneCall.CloneCall.{Command}
use Rattle.vc_refs.specs.declared.faults.RefFault.TheVariants as ref
use Rattle.vc_object_map.specs.declared.faults.StoreFault.TheVariants as store
use Rattle.vc_local.specs.declared.fault.NodeFault.{NodeFault}
use Rattle.vc_local.specs.declared.fault.NodeFault.TheVariants.{Store, Ref, Missing, NotACommit, BadPath, PathConflict, BadIndex, WrongEntry, Down}
use Rattle.vc_local.specs.Clean.{IsClean}
use Rattle.vc_local.specs.NodeFault.{is_of_own_file, takes_down}
use Rattle.vc_local.specs.Shown.{Shown, shown}
use Rattle.vc_rules.specs.Git.{git}
use Rattle.vc_values.proofs.GitLaws.{git_rules}
use Rattle.vc_local.proofs.OwnFileLemmas.{object_no_file, refused_by_no_file}
use Rattle.vc_local.specs.Machine.{live_of, Spells, Follows, Goes, AnswersShown, IsBadFile, fault_answer}

-- a node that is down
pub answers_down : (task : Task) (was : Bool) (s : Shown) → was ≡ false → AnswersShown task (Declined 112) was was s s
answers_down task was s e = record {
  each = λ awaited n holds. (n, holds, down (holds.live ∙ ap (λ (up : Bool). live_of up awaited) e) (λ h. cc h) refl refl refl);
}

-- whether a node that answers so is up then: the number of a bad file of its own takes it down, as a fault does
abbrev pub stays : Answer → Bool
stays (Did y) = true
stays (Declined n) = not (is_of_own_file n)
stays (Fault f) = false

pub stays_by_fault : (e : NodeFault) → not (takes_down e) ≡ stays (fault_answer e)
stays_by_fault (Store (store.BadObject f)) = ap not (sym (object_no_file f))
stays_by_fault (Store (store.Absent id)) = refl
stays_by_fault (Store (store.Damaged id)) = refl
stays_by_fault (Store (store.Fault f)) = refl
stays_by_fault (Ref (ref.Stale current)) = refl
stays_by_fault (Ref (ref.Conflict other)) = refl
stays_by_fault (Ref (ref.BadRefFile path)) = refl
stays_by_fault (Ref ref.HeadLoop) = refl
stays_by_fault (Ref (ref.Fault f)) = refl
stays_by_fault (Missing id) = refl
stays_by_fault (NotACommit id) = refl
stays_by_fault BadPath = refl
stays_by_fault PathConflict = refl
stays_by_fault (BadIndex place) = refl
stays_by_fault (WrongEntry at) = refl
stays_by_fault Down = refl

same_node : (r s : Repository) (a b : Option Awaited) → r ≡ s → a ≡ b → ◌≡◌ {A = CloneNode} (record { repository = r; live = a }) (record { repository = s; live = b })
same_node r s a b e f i = record { repository = e i; live = f i }

-- what a node that is up goes to, as the machine's step
pub step_of : (task : Task) (a : Answer) (awaited : Awaited) (n : CloneNode) (after : Repository) → n.live ≡ Some awaited → Goes awaited n.repository task a after
    → CloneAnswers git git_rules n (Command task) a (record { repository = after; live = live_of (stays a) awaited }) None
step_of task (Did y) awaited n after live g = obeyed awaited g.0 live g.1 (g.2, ap Some (sym g.3), g.5) (sym g.4)
step_of task (Declined k) awaited n after live g =
    let up : live_of (not (is_of_own_file k)) awaited ≡ Some awaited = ap (λ (own : Bool). live_of (not own) awaited) (refused_by_no_file n.repository task k g.0) in
    refused awaited k live g.0 refl (same_node after n.repository (live_of (not (is_of_own_file k)) awaited) n.live g.1 (up ∙ sym live)) refl
step_of task (Fault f) awaited n after live g = elim g [
  | inl d ↦ obeyed awaited d.0 live d.1 (d.2, refl) refl
  | inr e ↦ faulted awaited f live (λ h. cc h) refl (same_node after n.repository None None e refl) refl
]

-- a node that is up
pub answers_from : (task : Task) (a : Answer) (was is : Bool) (old new : Shown) → Follows task a old new → was ≡ true → is ≡ stays a → AnswersShown task a was is old new
answers_from task a was is old new follows up after = record {
  each = λ awaited n holds.
      let g = follows.goes awaited n.repository holds.spells in (
        record { repository = g.0; live = live_of (stays a) awaited },
        record { spells = g.1; live = ap (λ (up : Bool). live_of up awaited) (sym after) },
        step_of task a awaited n g.0 (holds.live ∙ ap (λ (up : Bool). live_of up awaited) up) g.2,
      );
}

-- the same after a call that failed
pub answers_failed : (task : Task) (e : NodeFault) (was is : Bool) (old new : Shown) → Follows task (fault_answer e) old new → was ≡ true → is ≡ not (takes_down e) → AnswersShown task (fault_answer e) was is old new
answers_failed task e was is old new follows up after = answers_from task (fault_answer e) was is old new follows up (after ∙ stays_by_fault e)

-- the same as a method gives it: the fault went through the call that takes the node down
pub failed : (task : Task) (e told : NodeFault) (was is : Bool) (content : FileMap) (old new : Shown) → IsBadFile content e ⊎ Follows task (fault_answer e) old new → told ≡ e → was ≡ true → is ≡ not (takes_down e)
    → IsBadFile content told ⊎ AnswersShown task (fault_answer told) was is old new
failed task e told was is content old new cases same up after =
    subst (λ (f : NodeFault). IsBadFile content f ⊎ AnswersShown task (fault_answer f) was is old new) (sym same)
    (elim cases [ inl bad ↦ inl bad | inr follows ↦ inr (answers_failed task e was is old new follows up after) ])

-- ---- clean files

pub no_bad : (content : FileMap) (e : NodeFault) → IsClean content → IsBadFile content e → ⊥
no_bad content (Store (store.BadObject f)) clean bad = bad
no_bad content (Store (store.Absent id)) clean bad = bad
no_bad content (Store (store.Damaged id)) clean bad = clean.objects id bad
no_bad content (Store (store.Fault f)) clean bad = bad
no_bad content (Ref (ref.Stale current)) clean bad = bad
no_bad content (Ref (ref.Conflict other)) clean bad = bad
no_bad content (Ref (ref.BadRefFile path)) clean bad = clean.refs (string_bytes path) bad
no_bad content (Ref ref.HeadLoop) clean bad = bad
no_bad content (Ref (ref.Fault f)) clean bad = bad
no_bad content (Missing id) clean bad = bad
no_bad content (NotACommit id) clean bad = bad
no_bad content BadPath clean bad = bad
no_bad content PathConflict clean bad = bad
no_bad content (BadIndex place) clean bad = bad
no_bad content (WrongEntry at) clean bad = bad
no_bad content Down clean bad = bad

pub no_bad_told : {T : Type 0} (content : FileMap) (result : Result T NodeFault) → IsClean content → IsErrAnd result (IsBadFile content) → ⊥
no_bad_told content (Ok x) clean bad = bad
no_bad_told content (Err e) clean bad = no_bad content e clean bad

-- ---- what is left as it was

pub unchanged : (task : Task) (a : Answer) (old new : FileMap) → Follows task a (shown old) (shown old) → new ≡ old → Follows task a (shown old) (shown new)
unchanged task a old new follows same = subst (λ (m : FileMap). Follows task a (shown old) (shown m)) (sym same) follows

pub or_unchanged : (Bad : Type 0) (task : Task) (a : Answer) (old new : FileMap) → Bad ⊎ Follows task a (shown old) (shown old) → new ≡ old → Bad ⊎ Follows task a (shown old) (shown new)
or_unchanged Bad task a old new cases same = elim cases [ inl bad ↦ inl bad | inr follows ↦ inr (unchanged task a old new follows same) ]

-- the same where only what is shown is as it was
pub or_unshown : (Bad : Type 0) (task : Task) (a : Answer) (old new : FileMap) → Bad ⊎ Follows task a (shown old) (shown old) → shown new ≡ shown old → Bad ⊎ Follows task a (shown old) (shown new)
or_unshown Bad task a old new cases same = elim cases [ inl bad ↦ inl bad | inr follows ↦ inr (subst (λ (s : Shown). Follows task a (shown old) s) (sym same) follows) ]

-- a refusal, and a fault before anything was done
pub declines : (task : Task) (n : ℕ) (s : Shown) → ((r : Repository) → Spells s r → Refuses git git_rules r task n) → Follows task (Declined n) s s
declines task n s h = record { goes = λ awaited r spells. (r, spells, (h r spells, refl)) }

pub faults : (task : Task) (f : Failure) (s : Shown) → Follows task (Fault f) s s
faults task f s = record { goes = λ awaited r spells. (r, spells, inr refl) }
