-- What a call of the shared node spends of the writes left is what the machine allows.
use Rattle.std.proofs.Common.{◌≡◌, ◌≢◌, inl, inr, ℕ, Bool, true, false, List, Option, Some, None, refl, sym, ap, ◌∙◌, []}
use Rattle.std.specs.FinMap.{insert}
use Rattle.vc_files.specs.FileMap.{FileMap}
use Rattle.vc_model.specs.ExactWorld.{MayShared, TogetherAt}
use Rattle.vc_model.specs.Fuse.{SharedWrites, WritesSuffice}
use Rattle.vc_model.specs.Message.{Message}
use Rattle.vc_model.specs.Node.{Answer}
use Rattle.vc_model.specs.Node.Answer.{Declined, Fault}
use Rattle.vc_model.specs.Node.Failure.{Device}
use Rattle.vc_model.specs.Push.{Slots}
use Rattle.vc_model.specs.Repository.{Repository}
use Rattle.vc_model.specs.Shared.{SharedNode}
use Rattle.vc_model.specs.SharedCall.{SharedAnswers, SharedCall}
use Rattle.vc_model.specs.SharedCall.SharedCall.{Open, StepOf}
use Rattle.vc_model.specs.SharedCall.SharedAnswers.{asked, down, faulted, obeyed, opened, pruned, refused}
use Rattle.vc_local.proofs.BurnLemmas.{burns, spent_none, suffices, suffices_together}
use Rattle.vc_values.proofs.GitLaws.{git_rules}
use Rattle.vc_rules.proofs.WritingLaws.{writes_agree}
use Rattle.vc_rules.specs.Git.{git}
use Rattle.vc_push_rules.specs.Session.{SessionText}
use Rattle.vc_quarantine.specs.Clean.{KeepsPacked}
use Rattle.vc_refs.specs.Refs.{packed_at}
use Rattle.vc_local.proofs.BesideLemmas.{held_content}
use Rattle.vc_shared.proofs.SteppingLaws.{IsStanding, pushes_of, standing}
use Rattle.vc_shared.specs.Burning.{CleanSuffices, IsEnough, OpeningBurns, SharedBurns, StepMayWrite, StepSuffices}
use Rattle.vc_shared.specs.Holding.{HoldsShared, IsLive}
use Rattle.vc_shared.specs.Slots.{slot_of}
use Rattle.vc_shared.specs.Stepping.{LeavesPackedIn, MayWriteIn}

-- ---- a step
pub may_step : StepMayWrite
may_step content slots k n held may =
    let open_now = pushes_of content slots n.live held.live in
    (open_now.0, open_now.1, by open_now.0 (slot_of slots k) (standing content slots open_now.0 k open_now.2) may)
  where
    by : (pushes : Slots) (v : Option SessionText) → IsStanding content pushes k v → MayWriteIn content v → SharedWrites git n.repository pushes (StepOf k)
    by pushes None none may = absurd may
    by pushes (Some s) (p, small, is, at, push, clean) may = elim (writes_agree content s s.stage n.repository p (held_content content n.repository held.spells) push refl may) [
      | inl finished ↦ inl (p, is, finished)
      | inr w ↦ inr (record { effect = w.0; left = insert pushes k w.1; sends = None; reply = w.2 }, (p, is, inl (w.1, w.3, refl, refl)), w.4)
    ]

-- ---- a node that is down tells no fault
none_open : (content : FileMap) (slots : List (Option SessionText)) (up : Bool) (live : Option Slots) → up ≡ false → IsLive content slots up live → live ≡ None
none_open content slots false None is h = refl
none_open content slots false (Some s) is h = absurd h
none_open content slots true live is h = absurd (cc)

no_fault : (n m : SharedNode) (call : SharedCall) (a : Answer) (s : Option Message) → n.live ≡ None → call ≢ Open → SharedAnswers git git_rules n call a m s → a ≡ Fault Device → ⊥
no_fault n m call a s none not answers is = elim answers [
  | down live other said same quiet ↦ let e : ◌≡◌ {A = Answer} (Fault Device) (Declined 112) = sym is ∙ said in absurd (cc e)
  | asked w q live comes tells same quiet ↦ let e : None ≡ Some w = sym none ∙ live in absurd (cc e)
  | refused w k live why said same quiet ↦ let e : None ≡ Some w = sym none ∙ live in absurd (cc e)
  | obeyed w d live obeys ends sends ↦ let e : None ≡ Some w = sym none ∙ live in absurd (cc e)
  | pruned w live comes ends quiet ↦ let e : None ≡ Some w = sym none ∙ live in absurd (cc e)
  | opened comes ends quiet ↦ absurd (not comes)
  | faulted w f live other said same quiet ↦ let e : None ≡ Some w = sym none ∙ live in absurd (cc e)
]

told_up : (content : FileMap) (slots : List (Option SessionText)) (up : Bool) (n m : SharedNode) (call : SharedCall) (a : Answer) (s : Option Message) → HoldsShared content slots up n → call ≢ Open
    → SharedAnswers git git_rules n call a m s → a ≡ Fault Device → up ≡ true
told_up content slots true n m call a s held not answers is = refl
told_up content slots false n m call a s held not answers is = absurd (no_fault n m call a s (none_open content slots false n.live refl held.live) not answers is)

-- no refs are set together, so one write a place suffices
pub together : (t : Type 0) (k : ℕ) (r s : Repository) → WritesSuffice ⊥ k r s → WritesSuffice t k r s
together t k r s (places, few, none, differ) = (places, few, λ all. absurd (none all), differ)

pub clean_suffices : CleanSuffices
clean_suffices old new slots is_up call n held keeps s spells k differ = together (TogetherAt n call) k n.repository s (suffices old new n.repository s held.spells spells [] keeps.packed k differ)

pub step_suffices : StepSuffices
step_suffices old new slots k n held =
    let open_now = pushes_of old slots n.live held.live in
    by open_now.0 open_now.1 (slot_of slots k) (standing old slots open_now.0 k open_now.2)
  where
    kept : KeepsPacked old new → IsEnough old new (StepOf k) n
    kept same s spells j differ =
        together (TogetherAt n (StepOf k)) j n.repository s (suffices old new n.repository s held.spells spells [] (record { at = λ q other. ap (λ m. packed_at m q) same }) j differ)

    by : (pushes : Slots) → n.live ≡ Some pushes → (v : Option SessionText) → IsStanding old pushes k v → LeavesPackedIn old new v → IsEnough old new (StepOf k) n
    by pushes live None none same = kept same
    by pushes live (Some s) stands (inl same) = kept same
    by pushes live (Some s) (p, small, is, at, push, clean) (inr (atomic, rest)) = λ after spells j differ.
        suffices_together old new n.repository after held.spells spells rest (TogetherAt n (StepOf k)) (pushes, live, (p, is, push.atomic ∙ atomic)) j differ

pub shared_burns : {D R : Type 0} (honest : Type 0) (content : D → FileMap) (failed : D → ℕ) (can_fail : D → Type 0) (left : D → Option ℕ) (shows : R → Answer → Option Message → Type 0) (tells_device : R → Type 0)
    → SharedBurns honest content failed can_fail left shows tells_device
shared_burns honest content failed can_fail left shows tells_device old new result frail call slots after was_up is_up n is_honest other calm writes ups enough tells looks answers holds =
    let step = answers.each n holds in (
      step.0,
      step.1,
      step.2,
      step.3,
      λ up can. elim (writes.calm can) [ inl before ↦ calm (ups up).0 before | inr device ↦ absurd ((ups up).1 device) ],
      step.4,
      λ sound bare.
          let exact = step.5 sound bare in (
            exact,
            burns honest content failed can_fail left old new (tells_device result) frail (MayShared git n call) (TogetherAt n call) step.1 n.repository step.0.repository is_honest (tells step.1 step.2 step.4)
                (λ is can. calm (told_up (content old) slots was_up n step.0 call step.1 step.2 holds other exact is) can) writes (looks sound bare)
                (enough step.0.repository step.3.spells),
          ),
    )

-- ---- the opening again

pub opening_burns : {D R : Type 0} (honest : Type 0) (content : D → FileMap) (failed : D → ℕ) (can_fail : D → Type 0) (left : D → Option ℕ) (shows : R → Answer → Option Message → Type 0) (tells_device : R → Type 0)
    → OpeningBurns honest content failed can_fail left shows tells_device
opening_burns honest content failed can_fail left shows tells_device old new result frail slots after was_up is_up n none can writes ups tells answers holds =
    let step = answers.each n holds in
    let still = spent_none writes.made (left old) (left new) none writes.spent in (
      step.0,
      step.1,
      step.2,
      step.3,
      λ up fails. elim (writes.calm fails) [ inl before ↦ can before | inr device ↦ absurd (ups up device) ],
      still,
      step.4,
      λ sound bare. (
        step.5 sound bare,
        (
          (λ is. elim (writes.could (tells step.1 step.2 step.4 is)) [
            | inl could ↦ can could
            | inr stopped ↦ let e : ◌≡◌ {A = Option ℕ} None (Some writes.made) = sym none ∙ stopped in absurd (cc e)
          ]),
          still,
        ),
      ),
    )
