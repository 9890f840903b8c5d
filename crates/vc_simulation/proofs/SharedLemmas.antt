-- Calls of the shared node, in the world's words.
use Rattle.std.proofs.Common.{◌≡◌, ◌≢◌, ◌≤◌, ℕ, Bool, true, false, List, Option, Some, None, Result, Ok, Err, ◌⊎◌, inl, inr, refl, sym, ap, ◌∙◌, subst}
use Rattle.std.specs.FinMap.{get}
use Rattle.std.specs.Prelude.{IfErr, IfOk}
use Rattle.vc_events.specs.Answers.{Shows, answer_of}
use Rattle.vc_events.specs.Calls.{Seen, SharedCalled}
use Rattle.vc_events.specs.declared.answers.Deed.{Deed}
use Rattle.vc_events.specs.declared.answers.Deed.TheVariants as deed
use Rattle.vc_events.specs.declared.answers.Ended.{Ended}
use Rattle.vc_events.specs.declared.answers.Ended.TheVariants as ended
use Rattle.vc_events.specs.declared.answers.Told.{Told}
use Rattle.vc_events.specs.declared.answers.Told.TheVariants as told
use Rattle.vc_files.proofs.WearLemmas.{wears_writes}
use Rattle.vc_files.specs.Failures.{Wears, Writes}
use Rattle.vc_files.specs.FileMap.{FileMap}
use Rattle.vc_files.specs.declared.faults.Fault.TheVariants as files
use Rattle.vc_format.specs.Git.{bytes_of_id}
use Rattle.vc_rules.specs.Told.{Quietly}
use Rattle.vc_model.specs.Message.{Message}
use Rattle.vc_model.specs.Message.Message.{Push}
use Rattle.vc_model.specs.Node.{Answer, Deed as MachineDeed}
use Rattle.vc_model.specs.Node.Answer.{Declined, Did, Fault}
use Rattle.vc_model.specs.Node.Failure.{Device, Memory}
use Rattle.vc_model.specs.Node.Reply.{Found}
use Rattle.vc_model.specs.ExactWorld.{MayShared, TogetherAt, shared_fuse_at}
use Rattle.vc_model.specs.Fuse.{Burns, SharedWrites}
use Rattle.vc_model.specs.Push.{OpenPush, Slots}
use Rattle.vc_model.specs.Question.{Question, Tells}
use Rattle.vc_model.specs.Question.Question.{Compare, PackRefs, Resolve, Unread}
use Rattle.vc_model.specs.Repository.{IsBare, IsSound, Repository}
use Rattle.vc_model.specs.Shared.{SharedNode, StepsSlot}
use Rattle.vc_model.specs.SharedCall.{SharedAnswers, SharedCall}
use Rattle.vc_model.specs.SharedCall.SharedCall.{Accept, Asks, Open, Prune, StepOf}
use Rattle.vc_model.specs.SharedCall.SharedAnswers.{asked, down, faulted, obeyed, opened, pruned, refused}
use Rattle.vc_object.specs.declared.id.ObjectId.{ObjectId}
use Rattle.vc_expression.specs.Faults.{IsBadAt}
use Rattle.vc_values.proofs.GitLaws.{git_rules}
use Rattle.vc_rules.specs.Git.{git}
use Rattle.vc_local.proofs.BurnLemmas.{suffices_unchanged}
use Rattle.vc_local.specs.Clean.{KeepsClean, PacksOnly}
use Rattle.vc_local.specs.Machine.{Spells, up_after as node_up_after}
use Rattle.vc_local.specs.NodeFault.{TellsDevice as NodeTellsDevice}
use Rattle.vc_local.specs.Shown.{shown}
use Rattle.vc_local.specs.Told.{FoundAs}
use Rattle.vc_local.specs.declared.fault.NodeFault.{NodeFault}
use Rattle.vc_local.specs.declared.fault.NodeFault.TheVariants as node
use Rattle.vc_shared.proofs.BurningLemmas.{clean_suffices, may_step, shared_burns, step_suffices, together}
use Rattle.vc_shared.proofs.SteppingLaws.{held_there, pushes_of, standing}
use Rattle.vc_shared.specs.Accepting.{IsToWrite}
use Rattle.vc_shared.specs.Burning.{IsEnough}
use Rattle.vc_shared.specs.Calls.{AnswersShared}
use Rattle.vc_shared.specs.Faults.{TellsDevice, fault_answer, up_after}
use Rattle.vc_shared.specs.declared.fault.SharedFault.{SharedFault}
use Rattle.vc_shared.specs.declared.fault.SharedFault.TheVariants as shared
use Rattle.vc_shared.specs.Holding.{HoldsShared, HoldsSlots, IsLive, SharedText}
use Rattle.vc_shared.specs.Node.{Settles}
use Rattle.vc_shared.specs.Slots.{slot_of}
use Rattle.vc_shared.specs.Stepping.{IsHeldThere, LeavesPackedIn, MayWriteIn}
use Rattle.vc_simulation.proofs.SpendingLemmas.{burns_more, burns_nothing, node_calm, same_wears, shared_calm, still_up, told_device}
use Rattle.vc_simulation.proofs.ValueLemmas.{comparison, found_is, refused_is}
use Rattle.vc_simulation.specs.Nodes.{HoldsServed, IsRetold, seen_shared}
use Rattle.vc_simulation.specs.Values.{FindsShared, IsValue}

-- What a call of the node does to its files: what it writes, whether the node is up then, and that it writes where the machine's may.
pub record Spending {F : Type 0} (honest : Type 0) (content : F → FileMap) (failed : F → ℕ) (can_fail : F → Type 0) (left : F → Option ℕ) (call : SharedCall) (old new : SharedText F) (IsDevice : Type 0) : Type 0 where
  pub wear : Writes honest content failed can_fail left old.files new.files IsDevice
  pub ups : new.is_up ≡ true → (old.is_up ≡ true) × (¬ IsDevice)
  pub enough : (n : SharedNode) → HoldsShared (content old.files) old.slots old.is_up n → IsEnough (content old.files) (content new.files) call n
  pub looks : (n : SharedNode) → HoldsShared (content old.files) old.slots old.is_up n → MayShared git n call ⊎ Wears failed can_fail left old.files new.files IsDevice

enough_unchanged : (old new : FileMap) (call : SharedCall) (n : SharedNode) → Spells (shown old) n.repository → shown new ≡ shown old → IsEnough old new call n
enough_unchanged old new call n spells same s told k differ = together (TogetherAt n call) k n.repository s (suffices_unchanged old new n.repository s spells told same k differ)

either_way : (b : Bool) → (b ≡ true) ⊎ (b ≡ false)
either_way true = inl refl
either_way false = inr refl

module _ {F : Type 0} (content : F → FileMap) where
  some_slots : (v : SharedText F) (up : Bool) (live : Option Slots) → up ≡ true → IsLive (content v.files) v.slots up live → (s : Slots) × (live ≡ Some s)
  some_slots v true (Some s) is h = (s, refl)
  some_slots v true None is h = absurd h
  some_slots v false live is h = absurd (cc)

  pub no_slots : (v : SharedText F) (up : Bool) (live : Option Slots) → up ≡ false → IsLive (content v.files) v.slots up live → live ≡ None
  no_slots v false None is h = refl
  no_slots v false (Some s) is h = absurd h
  no_slots v true live is h = absurd (cc)

  -- the pushes of a node that is up
  pub slots_up : (v : SharedText F) (n : SharedNode) → v.is_up ≡ true → HoldsShared (content v.files) v.slots v.is_up n → (s : Slots) × (n.live ≡ Some s)
  slots_up v n up held = some_slots v v.is_up n.live up held.live

module _ {F : Type 0} (honest : Type 0) (content : F → FileMap) (failed : F → ℕ) (can_fail : F → Type 0) (left : F → Option ℕ) where
  -- a call that a layer's contract tells of
  pub called : (old new : SharedText F) (call : SharedCall) (shows : Answer → Option Message → Type 0) (IsDevice : Type 0) (r : Result Told Ended) → honest → call ≢ Open
      → AnswersShared call shows (content old.files) (content new.files) old.slots new.slots old.is_up new.is_up → Spending honest content failed can_fail left call old new IsDevice → IsRetold shows IsDevice r
      → SharedCalled (seen_shared content can_fail left) call (Shows r) old new
  called old new call shows IsDevice r is_honest other answers spends retold = record {
    each = λ frail n held.
        let m = shared_burns {D = F} {R = Unit {0}} honest content failed can_fail left (λ u. shows) (λ u. IsDevice) old.files new.files tt frail call old.slots new.slots old.is_up new.is_up n is_honest other held.calm spends.wear spends.ups
        (spends.enough n held.holds) (told_device shows IsDevice r retold) (λ sound bare. spends.looks n held.holds) answers held.holds in (
          m.0,
          m.1,
          m.2,
          record { holds = m.3; calm = m.4 },
          retold.shown m.1 m.2 m.5,
          λ sound bare.
              let exact = m.6 sound bare in
              (exact.0, subst (λ (f : Option ℕ). Burns frail f (MayShared git n call) (TogetherAt n call) n.repository m.0.repository m.1 (left new.files)) (same_fuse (left old.files) call other) exact.1),
        );
  }
    where
      -- no call but the opening takes a fuse out
      same_fuse : (f : Option ℕ) (call : SharedCall) → call ≢ Open → f ≡ shared_fuse_at f call
      same_fuse f (Accept m) other = refl
      same_fuse f (StepOf k) other = refl
      same_fuse f (Asks q) other = refl
      same_fuse f Prune other = refl
      same_fuse f Open other = absurd (other refl)

  -- a call that only looks
  pub looking : (call : SharedCall) (old new : SharedText F) (IsDevice : Type 0) → Wears failed can_fail left old.files new.files IsDevice → content new.files ≡ content old.files
      → (new.is_up ≡ true → (old.is_up ≡ true) × (¬ IsDevice)) → Spending honest content failed can_fail left call old new IsDevice
  looking call old new IsDevice wears same ups = record {
    wear = wears_writes wears (λ h. same);
    ups = ups;
    enough = λ n held. enough_unchanged (content old.files) (content new.files) call n held.spells (ap (λ (c : FileMap). shown c) same);
    looks = λ n held. inr wears;
  }

  -- a node that is down stays as it is, and one that is up writes where it may
  pub looks_up : (call : SharedCall) (old new : SharedText F) (IsDevice : Type 0) → (old.is_up ≡ false → new ≡ old) → (old.is_up ≡ false → ¬ IsDevice)
      → ((n : SharedNode) → old.is_up ≡ true → HoldsShared (content old.files) old.slots old.is_up n → MayShared git n call ⊎ Wears failed can_fail left old.files new.files IsDevice)
      → (n : SharedNode) → HoldsShared (content old.files) old.slots old.is_up n → MayShared git n call ⊎ Wears failed can_fail left old.files new.files IsDevice
  looks_up call old new IsDevice unchanged never up n held = elim (either_way old.is_up) [
    | inl is_up ↦ up n is_up held
    | inr is_down ↦ inr (same_wears failed can_fail left old.files new.files IsDevice (ap (λ (v : SharedText F). v.files) (unchanged is_down)) (never is_down))
  ]

  -- a call that may write, for which so many writes are enough
  writing_enough : {T : Type 0} (call : SharedCall) (old new : SharedText F) (said : Result T SharedFault) → Writes honest content failed can_fail left old.files new.files (TellsDevice said)
      → (old.is_up ≡ false → said ≡ Err (shared.Node node.Down)) → (old.is_up ≡ false → new ≡ old) → (old.is_up ≡ true → new.is_up ≡ up_after said)
      → ((n : SharedNode) → HoldsShared (content old.files) old.slots old.is_up n → IsEnough (content old.files) (content new.files) call n)
      → ((n : SharedNode) → old.is_up ≡ true → HoldsShared (content old.files) old.slots old.is_up n → MayShared git n call ⊎ Wears failed can_fail left old.files new.files (TellsDevice said))
      → Spending honest content failed can_fail left call old new (TellsDevice said)
  writing_enough {T} call old new said wear answers_down unchanged up enough may = record {
    wear = wear;
    ups = still_up old.is_up new.is_up (up_after said) (TellsDevice said) (λ is_down. ap (λ (v : SharedText F). v.is_up) (unchanged is_down) ∙ is_down) up (shared_calm said);
    enough = enough;
    looks = looks_up call old new (TellsDevice said) unchanged (λ is_down device. absurd (subst (λ (r : Result T SharedFault). TellsDevice r) (answers_down is_down) device)) may;
  }

  -- one that leaves the files as clean as they were
  pub writing : {T : Type 0} (call : SharedCall) (old new : SharedText F) (said : Result T SharedFault) → Writes honest content failed can_fail left old.files new.files (TellsDevice said)
      → (old.is_up ≡ false → said ≡ Err (shared.Node node.Down)) → (old.is_up ≡ false → new ≡ old) → (old.is_up ≡ true → new.is_up ≡ up_after said) → KeepsClean (content old.files) (content new.files)
      → ((n : SharedNode) → old.is_up ≡ true → HoldsShared (content old.files) old.slots old.is_up n → MayShared git n call ⊎ Wears failed can_fail left old.files new.files (TellsDevice said))
      → Spending honest content failed can_fail left call old new (TellsDevice said)
  writing call old new said wear answers_down unchanged up keeps may =
      writing_enough call old new said wear answers_down unchanged up (λ n held. clean_suffices (content old.files) (content new.files) old.slots old.is_up call n held keeps) may

  -- and a step
  pub stepping : {T : Type 0} (k : ℕ) (old new : SharedText F) (said : Result T SharedFault) → Writes honest content failed can_fail left old.files new.files (TellsDevice said)
      → (old.is_up ≡ false → said ≡ Err (shared.Node node.Down)) → (old.is_up ≡ false → new ≡ old) → (old.is_up ≡ true → new.is_up ≡ up_after said)
      → LeavesPackedIn (content old.files) (content new.files) (slot_of old.slots k)
      → ((n : SharedNode) → old.is_up ≡ true → HoldsShared (content old.files) old.slots old.is_up n → MayShared git n (StepOf k) ⊎ Wears failed can_fail left old.files new.files (TellsDevice said))
      → Spending honest content failed can_fail left (StepOf k) old new (TellsDevice said)
  stepping k old new said wear answers_down unchanged up packed may = writing_enough (StepOf k) old new said wear answers_down unchanged up enough may
    where
      enough : (n : SharedNode) → HoldsShared (content old.files) old.slots old.is_up n → IsEnough (content old.files) (content new.files) (StepOf k) n
      enough n held = elim (either_way old.is_up) [
        | inl is_up ↦ step_suffices (content old.files) (content new.files) old.slots k n (subst (λ (b : Bool). HoldsShared (content old.files) old.slots b n) is_up held) packed
        | inr is_down ↦ enough_unchanged (content old.files) (content new.files) (StepOf k) n held.spells (ap (λ (v : SharedText F). shown (content v.files)) (unchanged is_down))
      ]

  -- packing the refs
  pub packing : (old new : SharedText F) (said : Result (Unit {0}) NodeFault) → Writes honest content failed can_fail left old.files new.files (NodeTellsDevice said) → Settles (said ≡ Err node.Down) (node_up_after said) old new
      → PacksOnly (content old.files) (content new.files) → Spending honest content failed can_fail left (Asks PackRefs) old new (NodeTellsDevice said)
  packing old new said wear settles keeps = record {
    wear = wear;
    ups = still_up old.is_up new.is_up (node_up_after said) (NodeTellsDevice said) (λ is_down. ap (λ (v : SharedText F). v.is_up) (settles.unchanged is_down) ∙ is_down) settles.up (node_calm said);
    enough = λ n held. enough_unchanged (content old.files) (content new.files) (Asks PackRefs) n held.spells keeps.same;
    looks = looks_up (Asks PackRefs) old new (NodeTellsDevice said) settles.unchanged
        (λ is_down device. absurd (subst (λ (r : Result (Unit {0}) NodeFault). NodeTellsDevice r) (settles.down is_down) device))
        (λ n is_up held. let s = slots_up content old n is_up held in inl (s.0, s.1, tt));
  }

  -- a prune
  pub pruning : (old new : SharedText F) (said : Result ℕ NodeFault) → Writes honest content failed can_fail left old.files new.files (NodeTellsDevice said)
      → (old.is_up ≡ false → said ≡ Err node.Down) → (old.is_up ≡ false → new ≡ old) → (old.is_up ≡ true → new.is_up ≡ node_up_after said) → KeepsClean (content old.files) (content new.files)
      → Spending honest content failed can_fail left Prune old new (NodeTellsDevice said)
  pruning old new said wear answers_down unchanged up keeps = record {
    wear = wear;
    ups = still_up old.is_up new.is_up (node_up_after said) (NodeTellsDevice said) (λ is_down. ap (λ (v : SharedText F). v.is_up) (unchanged is_down) ∙ is_down) up (node_calm said);
    enough = λ n held. clean_suffices (content old.files) (content new.files) old.slots old.is_up Prune n held keeps;
    looks = looks_up Prune old new (NodeTellsDevice said) unchanged
        (λ is_down device. absurd (subst (λ (r : Result ℕ NodeFault). NodeTellsDevice r) (answers_down is_down) device))
        (λ n is_up held. let s = slots_up content old n is_up held in inl (s.0, s.1, tt));
  }

  -- what a message may write, and bytes that are none
  push_writes : (r : Repository) (slots : Slots) (m : Message) → IsToWrite m → SharedWrites git r slots (Accept m)
  push_writes r slots (Push atomic fault commands carried) is = tt
  push_writes r slots _ is = absurd is

  pub message_writes : (old new : SharedText F) (m : Message) (IsDevice : Type 0) → IsToWrite m ⊎ Wears failed can_fail left old.files new.files IsDevice
      → (n : SharedNode) → old.is_up ≡ true → HoldsShared (content old.files) old.slots old.is_up n → MayShared git n (Accept m) ⊎ Wears failed can_fail left old.files new.files IsDevice
  message_writes old new m IsDevice looks n is_up held = elim looks [
    | inl writes ↦ let s = slots_up content old n is_up held in inl (s.0, s.1, push_writes n.repository s.0 m writes)
    | inr wears ↦ inr wears
  ]

  pub bytes_write : (old new : SharedText F) (k : ℕ) (IsDevice : Type 0) → (n : SharedNode) → old.is_up ≡ true → HoldsShared (content old.files) old.slots old.is_up n
      → MayShared git n (Asks (Unread k)) ⊎ Wears failed can_fail left old.files new.files IsDevice
  bytes_write old new k IsDevice n is_up held = let s = slots_up content old n is_up held in inl (s.0, s.1, tt)

  -- what a step may write
  pub step_writes : (old new : SharedText F) (k : ℕ) (IsDevice : Type 0) → (IsHeldThere (content old.files) (slot_of old.slots k) → MayWriteIn (content old.files) (slot_of old.slots k) ⊎ Wears failed can_fail left old.files new.files IsDevice)
      → (n : SharedNode) → old.is_up ≡ true → HoldsShared (content old.files) old.slots old.is_up n → MayShared git n (StepOf k) ⊎ Wears failed can_fail left old.files new.files IsDevice
  step_writes old new k IsDevice looks n is_up held = elim (looks (held_there (content old.files) open_now.0 k (slot_of old.slots k) (standing (content old.files) old.slots open_now.0 k open_now.2))) [
    | inl may ↦ inl (may_step (content old.files) old.slots k n there may)
    | inr wears ↦ inr wears
  ]
    where
      there : HoldsShared (content old.files) old.slots true n
      there = subst (λ (b : Bool). HoldsShared (content old.files) old.slots b n) is_up held

      open_now : (pushes : Slots) × (n.live ≡ Some pushes) × HoldsSlots (content old.files) old.slots pushes
      open_now = pushes_of (content old.files) old.slots n.live there.live

module _ {F : Type 0} (content : F → FileMap) (can_fail : F → Type 0) (left : F → Option ℕ) where
  abbrev pub Sees : Seen (SharedText F) SharedNode
  Sees = seen_shared content can_fail left

  -- a call that spends nothing, at a node that changes nothing but whether it is up
  spends_nothing : (old new : SharedText F) (frail : Bool) (call : SharedCall) (n : SharedNode) (a : Answer) → a ≢ Fault Device → new.files ≡ old.files
      → Burns frail (left old.files) (MayShared git n call) (TogetherAt n call) n.repository n.repository a (left new.files)
  spends_nothing old new frail call n a other files =
      subst (λ (f : F). Burns frail (left old.files) (MayShared git n call) (TogetherAt n call) n.repository n.repository a (left f)) (sym files)
      (burns_nothing frail (left old.files) (MayShared git n call) (TogetherAt n call) n.repository a other)

  -- a node that is down refuses each question
  pub down_called : (old new : SharedText F) (q : Question) → old.is_up ≡ false → new ≡ old → SharedCalled Sees (Asks q) (Shows (Err (ended.Refused 112))) old new
  down_called old new q is_down same = record {
    each = λ frail n held. (
      n,
      Declined 112,
      None,
      subst (λ (v : SharedText F). HoldsServed content can_fail frail v n) (sym same) held,
      record { answer = refl; sent = refl },
      λ sound bare. (
        down (no_slots content old old.is_up n.live is_down held.holds.live) (λ h. absurd (cc)) refl refl refl,
        spends_nothing old new frail (Asks q) n (Declined 112) (λ h. absurd (cc)) (ap (λ (v : SharedText F). v.files) same),
      ),
    );
  }

  -- a node that is up, before it reads anything
  pub finds_none : (old new : SharedText F) → old.is_up ≡ true → new ≡ old → FindsShared Sees (λ r. Unit {0}) old new
  finds_none old new up same = record {
    each = λ frail n held. (n, subst (λ (v : SharedText F). HoldsServed content can_fail frail v n) (sym same) held, λ sound bare. (refl, (λ none. let s = slots_up content old n up held.holds in let e = s.1 in absurd (cc)), tt));
    unspent = ap (λ (v : SharedText F). left v.files) same;
  }

  -- ---- the comparison of two values

  -- the answer to a comparison whose first expression has no value
  first_fails : (n m : SharedNode) (first second : List ℕ) (e : Ended) (a : Answer) (s : Option Message) → n.live ≢ None → SharedAnswers git git_rules n (Asks (Resolve first)) a m s → a ≡ answer_of e
      → SharedAnswers git git_rules n (Asks (Compare first second)) a m s
  first_fails n m first second e a s live answers is = elim answers [
    | down none not said same quiet ↦ absurd (live none)
    | asked w q up call tells same quiet ↦
        let same_question : q ≡ Resolve first = cc in
        let t = subst (λ (q : Question). Tells git git_rules n.repository q a) same_question tells in
        let r = refused_is n.repository first e t.0 t.1 (sym is ∙ t.2) in
        asked w (Compare first second) up refl (Err r.0, r.1, is ∙ r.2) same quiet
    | refused w k up never said same quiet ↦ absurd never
    | obeyed w d up never ends sends ↦ absurd never
    | pruned w up call ends quiet ↦ absurd (cc)
    | opened call ends quiet ↦ absurd (cc)
    | faulted w f up not said same quiet ↦ faulted w f up (λ h. absurd (cc)) said same quiet
  ]

  -- whose second has none
  second_fails : (n m : SharedNode) (first second : List ℕ) (id : ObjectId) (e : Ended) (a : Answer) (s : Option Message) → n.live ≢ None → IsValue first id n.repository
      → SharedAnswers git git_rules n (Asks (Resolve second)) a m s → a ≡ answer_of e → SharedAnswers git git_rules n (Asks (Compare first second)) a m s
  second_fails n m first second id e a s live denotes answers is = elim answers [
    | down none not said same quiet ↦ absurd (live none)
    | asked w q up call tells same quiet ↦
        let same_question : q ≡ Resolve second = cc in
        let t = subst (λ (q : Question). Tells git git_rules n.repository q a) same_question tells in
        let r = refused_is n.repository second e t.0 t.1 (sym is ∙ t.2) in
        asked w (Compare first second) up refl (Ok (bytes_of_id id), denotes, (Err r.0, r.1, inl (r.0, refl, is ∙ r.2))) same quiet
    | refused w k up never said same quiet ↦ absurd never
    | obeyed w d up never ends sends ↦ absurd never
    | pruned w up call ends quiet ↦ absurd (cc)
    | opened call ends quiet ↦ absurd (cc)
    | faulted w f up not said same quiet ↦ faulted w f up (λ h. absurd (cc)) said same quiet
  ]

  -- what a call is to the node that was there before nothing was changed
  abbrev Exact : Bool → SharedNode → SharedCall → Answer → SharedNode → Option Message → Option ℕ → Option ℕ → Type 0
  Exact frail n call a m s before after = SharedAnswers git git_rules n call a m s × Burns frail before (MayShared git n call) (TogetherAt n call) n.repository m.repository a after

  -- a question spends what another does that may write as little
  asked_other : (frail : Bool) (n m : SharedNode) (text first second : List ℕ) (a : Answer) (s : Option Message) (before after : Option ℕ)
      → (SharedAnswers git git_rules n (Asks (Resolve text)) a m s → SharedAnswers git git_rules n (Asks (Compare first second)) a m s)
      → Exact frail n (Asks (Resolve text)) a m s before after → Exact frail n (Asks (Compare first second)) a m s before after
  asked_other frail n m text first second a s before after then exact = (
    then exact.0,
    burns_more frail before (MayShared git n (Asks (Resolve text))) (MayShared git n (Asks (Compare first second))) (TogetherAt n (Asks (Resolve text))) (TogetherAt n (Asks (Compare first second))) n.repository m.repository a after
        (λ may. absurd may.2) (λ all. absurd all.2) exact.1,
  )

  moved_back : (frail : Bool) (n r m : SharedNode) (call : SharedCall) (a : Answer) (s : Option Message) (before mid after : Option ℕ) → r ≡ n → mid ≡ before → Exact frail r call a m s mid after → Exact frail n call a m s before after
  moved_back frail n r m call a s before mid after same unspent exact =
      subst (λ (f : Option ℕ). Exact frail n call a m s f after) unspent (subst (λ (x : SharedNode). Exact frail x call a m s mid after) same exact)

  pub compare_first : (old mid new : SharedText F) (first second : List ℕ) (e : Ended) → FindsShared Sees (λ r. Unit {0}) old mid → SharedCalled Sees (Asks (Resolve first)) (Shows (Err e)) mid new
      → SharedCalled Sees (Asks (Compare first second)) (Shows (Err e)) old new
  compare_first old mid new first second e ready call = record {
    each = λ frail n held.
        let r = ready.each frail n held in
        let c = call.each frail r.0 r.1 in (
          c.0,
          c.1,
          c.2,
          c.3,
          c.4,
          λ sound bare.
              let same = r.2 sound bare in
              let at : Exact frail n (Asks (Resolve first)) c.1 c.0 c.2 (left old.files) (left new.files)
              = moved_back frail n r.0 c.0 (Asks (Resolve first)) c.1 c.2 (left old.files) (left mid.files) (left new.files) same.0 ready.unspent
              (c.5 (subst (λ (x : SharedNode). IsSound git x.repository) (sym same.0) sound) (subst (λ (x : SharedNode). IsBare git x.repository) (sym same.0) bare)) in
              asked_other frail n c.0 first first second c.1 c.2 (left old.files) (left new.files) (λ answers. first_fails n c.0 first second e c.1 c.2 same.1 answers c.4.answer) at,
        );
  }

  pub compare_second : (old mid new : SharedText F) (first second : List ℕ) (id : ObjectId) (e : Ended) → FindsShared Sees (IsValue first id) old mid → SharedCalled Sees (Asks (Resolve second)) (Shows (Err e)) mid new
      → SharedCalled Sees (Asks (Compare first second)) (Shows (Err e)) old new
  compare_second old mid new first second id e ready call = record {
    each = λ frail n held.
        let r = ready.each frail n held in
        let c = call.each frail r.0 r.1 in (
          c.0,
          c.1,
          c.2,
          c.3,
          c.4,
          λ sound bare.
              let same = r.2 sound bare in
              let at : Exact frail n (Asks (Resolve second)) c.1 c.0 c.2 (left old.files) (left new.files)
              = moved_back frail n r.0 c.0 (Asks (Resolve second)) c.1 c.2 (left old.files) (left mid.files) (left new.files) same.0 ready.unspent
              (c.5 (subst (λ (x : SharedNode). IsSound git x.repository) (sym same.0) sound) (subst (λ (x : SharedNode). IsBare git x.repository) (sym same.0) bare)) in
              asked_other frail n c.0 second first second c.1 c.2 (left old.files) (left new.files) (λ answers. second_fails n c.0 first second id e c.1 c.2 same.1 same.2 answers c.4.answer) at,
        );
  }

  -- both have values: the deed tells whether they are one
  pub compared : (old mid new : SharedText F) (first second : List ℕ) (x y : ObjectId) (d : Deed) → FindsShared Sees (IsValue first x) old mid → FindsShared Sees (IsValue second y) mid new
      → ((x ≡ y) × (d ≡ deed.Same)) ⊎ ((bytes_of_id x ≢ bytes_of_id y) × (d ≡ deed.Differs))
      → SharedCalled Sees (Asks (Compare first second)) (Shows (Ok (told.Did d))) old new
  compared old mid new first second x y d one two either = record {
    each = λ frail n held.
        let r = one.each frail n held in
        let c = two.each frail r.0 r.1 in
        let a = comparison x y d either in (
          c.0,
          a.0,
          None,
          c.1,
          a.1,
          λ sound bare.
              let same = r.2 sound bare in
              let then = c.2 (subst (λ (x : SharedNode). IsSound git x.repository) (sym same.0) sound) (subst (λ (x : SharedNode). IsBare git x.repository) (sym same.0) bare) in
              let w = up n same.1 in (
                asked w.0 (Compare first second) w.1 refl
                    (Ok (bytes_of_id x), same.2, (Ok (bytes_of_id y), subst (λ (z : SharedNode). IsValue second y z.repository) same.0 then.2, a.3)) (then.0 ∙ same.0) refl,
                unspent frail n c.0 a.0 (then.0 ∙ same.0) a.2,
              ),
        );
  }
    where
      up : (n : SharedNode) → n.live ≢ None → (s : Slots) × (n.live ≡ Some s)
      up n live = go n.live refl
        where
          go : (l : Option Slots) → n.live ≡ l → (s : Slots) × (n.live ≡ Some s)
          go (Some s) is = (s, is)
          go None is = absurd (live is)

      unspent : (frail : Bool) (n m : SharedNode) (a : Answer) → m ≡ n → a ≢ Fault Device
          → Burns frail (left old.files) (MayShared git n (Asks (Compare first second))) (TogetherAt n (Asks (Compare first second))) n.repository m.repository a (left new.files)
      unspent frail n m a same other =
          subst (λ (f : Option ℕ). Burns frail (left old.files) (MayShared git n (Asks (Compare first second))) (TogetherAt n (Asks (Compare first second))) n.repository m.repository a f) (sym (two.unspent ∙ one.unspent))
          (subst (λ (x : SharedNode). Burns frail (left old.files) (MayShared git n (Asks (Compare first second))) (TogetherAt n (Asks (Compare first second))) n.repository x.repository a (left old.files)) (sym same)
          (burns_nothing frail (left old.files) (MayShared git n (Asks (Compare first second))) (TogetherAt n (Asks (Compare first second))) n.repository a other))

  -- ---- what is no expression, and want of memory where one is read

  pub value_bad : (old new : SharedText F) (text : List ℕ) (place : ℕ) → old.is_up ≡ true → new ≡ old → IsBadAt text place → SharedCalled Sees (Asks (Resolve text)) (Shows (Err (ended.Refused 50))) old new
  value_bad old new text place up same bad = record {
    each = λ frail n held. let s = slots_up content old n up held.holds in (
      n,
      Declined 50,
      None,
      subst (λ (v : SharedText F). HoldsServed content can_fail frail v n) (sym same) held,
      record { answer = refl; sent = refl },
      λ sound bare. (
        asked s.0 (Resolve text) s.1 refl (Err 50, inl ((place, bad), refl), refl) refl refl,
        spends_nothing old new frail (Asks (Resolve text)) n (Declined 50) (λ h. absurd (cc)) (ap (λ (v : SharedText F). v.files) same),
      ),
    );
  }

  pub value_halted : (old new : SharedText F) (text : List ℕ) → old.is_up ≡ true → new.is_up ≡ false → new.files ≡ old.files → new.slots ≡ old.slots
      → SharedCalled Sees (Asks (Resolve text)) (Shows (Err (ended.Fault files.Memory))) old new
  value_halted old new text up halted files slots = record {
    each = λ frail n held. let s = slots_up content old n up held.holds in (
      record { repository = n.repository; live = None },
      Fault Memory,
      None,
      record {
        holds = subst (λ (b : Bool). HoldsShared (content new.files) new.slots b (record { repository = n.repository; live = None })) (sym halted)
            (subst (λ (f : F). HoldsShared (content f) new.slots false (record { repository = n.repository; live = None })) (sym files) (record { spells = held.holds.spells; clean = held.holds.clean; live = tt }));
        calm = λ up can. let e : false ≡ true = sym halted ∙ up in absurd (cc e);
      },
      record { answer = refl; sent = refl },
      λ sound bare. (
        faulted s.0 Memory s.1 (λ h. absurd (cc)) refl refl refl,
        spends_nothing old new frail (Asks (Resolve text)) n (Fault Memory) (λ h. absurd (cc)) files,
      ),
    );
  }

  -- ---- slots that there are not

  no_push : (v : SharedText F) (n : SharedNode) (w : Slots) (k : ℕ) → 8 ≤ k → HoldsShared (content v.files) v.slots v.is_up n → n.live ≡ Some w → get w k ≡ None
  no_push v n w k past held live = go v.is_up (subst (λ (l : Option Slots). IsLive (content v.files) v.slots v.is_up l) live held.live)
    where
      go : (up : Bool) → IsLive (content v.files) v.slots up (Some w) → get w k ≡ None
      go true h = h.others k past
      go false h = absurd h

  idle : (r : Repository) (w : Slots) (d : MachineDeed Slots) (k : ℕ) → get w k ≡ None → StepsSlot git r w k d → ⊥
  idle r w d k none steps = let e : None ≡ Some steps.0 = sym none ∙ steps.1 in cc e

  -- past the last slot, each number names none
  pub no_slot : (k j : ℕ) (shows : Answer → Option Message → Type 0) (old new : SharedText F) → 8 ≤ k → 8 ≤ j → SharedCalled Sees (StepOf k) shows old new → SharedCalled Sees (StepOf j) shows old new
  no_slot k j shows old new past_k past_j c = record {
    each = λ frail n held. let m = c.each frail n held in (m.0, m.1, m.2, m.3, m.4, λ sound bare. let exact = m.5 sound bare in (moved n held.holds m.0 m.1 m.2 exact.0, spent frail n held.holds m.0 m.1 exact.1));
  }
    where
      moved : (n : SharedNode) → HoldsShared (content old.files) old.slots old.is_up n → (m : SharedNode) (a : Answer) (s : Option Message) → SharedAnswers git git_rules n (StepOf k) a m s → SharedAnswers git git_rules n (StepOf j) a m s
      moved n held m a s answers = elim answers [
        | down is not said kept quiet ↦ down is (λ h. absurd (cc)) said kept quiet
        | asked w q live call tells kept quiet ↦ absurd (cc)
        | refused w r live never said kept quiet ↦ refused w r live (never.0, no_push old n w j past_j held live) said kept quiet
        | obeyed w d live steps ends sends ↦ absurd (idle n.repository w d k (no_push old n w k past_k held live) steps)
        | pruned w live call ends quiet ↦ absurd (cc)
        | opened call ends quiet ↦ absurd (cc)
        | faulted w f live not said kept quiet ↦ faulted w f live (λ h. absurd (cc)) said kept quiet
      ]

      none_there : (n : SharedNode) → HoldsShared (content old.files) old.slots old.is_up n → (w : Slots) → n.live ≡ Some w → (p : OpenPush) → get w k ≡ Some p → ⊥
      none_there n held w live p is = let e : None ≡ Some p = sym (no_push old n w k past_k held live) ∙ is in cc e

      not_together : (n : SharedNode) → HoldsShared (content old.files) old.slots old.is_up n → TogetherAt n (StepOf k) → ⊥
      not_together n held (w, live, (p, is, at)) = none_there n held w live p is

      spent : (frail : Bool) (n : SharedNode) → HoldsShared (content old.files) old.slots old.is_up n → (m : SharedNode) (a : Answer)
          → Burns frail (left old.files) (MayShared git n (StepOf k)) (TogetherAt n (StepOf k)) n.repository m.repository a (left new.files)
          → Burns frail (left old.files) (MayShared git n (StepOf j)) (TogetherAt n (StepOf j)) n.repository m.repository a (left new.files)
      spent frail n held m a burns =
          burns_more frail (left old.files) (MayShared git n (StepOf k)) (MayShared git n (StepOf j)) (TogetherAt n (StepOf k)) (TogetherAt n (StepOf j)) n.repository m.repository a (left new.files)
          (λ may. elim may.2 [
            | inl over ↦ absurd (none_there n held may.0 may.1 over.0 over.1)
            | inr step ↦ absurd (idle n.repository may.0 step.0 k (no_push old n may.0 k past_k held may.1) step.1)
          ])
          (λ all. absurd (not_together n held all)) burns

  -- the slot, or another past the last one
  pub slot_or : (k j : ℕ) (shows : Answer → Option Message → Type 0) (old new : SharedText F) → (k ≡ j) ⊎ ((8 ≤ k) × (8 ≤ j)) → SharedCalled Sees (StepOf k) shows old new → SharedCalled Sees (StepOf j) shows old new
  slot_or k j shows old new (inl same) c = subst (λ (k : ℕ). SharedCalled Sees (StepOf k) shows old new) same c
  slot_or k j shows old new (inr past) c = no_slot k j shows old new past.0 past.1 c

-- ---- values

-- what the answer to a question is, where it tells a value
value_told : (n m : SharedNode) (text : List ℕ) (id : ObjectId) (a : Answer) (s : Option Message) → SharedAnswers git git_rules n (Asks (Resolve text)) a m s → a ≡ Did (Found (bytes_of_id id))
    → (m ≡ n) × (n.live ≢ None) × IsValue text id n.repository
value_told n m text id a s answers is = elim answers [
  | down none not said same quiet ↦ absurd (cc)
  | asked w q live call tells same quiet ↦
      let same_question : q ≡ Resolve text = cc in
      let t = subst (λ (q : Question). Tells git git_rules n.repository q a) same_question tells in
      (same, (λ none. absurd (cc)), found_is n.repository text id t.0 t.1 (sym is ∙ t.2))
  | refused w k live never said same quiet ↦ absurd never
  | obeyed w d live never ends sends ↦ absurd never
  | pruned w live call ends quiet ↦ absurd (cc)
  | opened call ends quiet ↦ absurd (cc)
  | faulted w f live not said same quiet ↦ absurd (cc)
]

module _ {F : Type 0} (honest : Type 0) (content : F → FileMap) (failed : F → ℕ) (can_fail : F → Type 0) (left : F → Option ℕ) (old new : SharedText F) (text : List ℕ) (said : Result ObjectId SharedFault)
    (answers : AnswersShared (Asks (Resolve text)) (FoundAs fault_answer said) (content old.files) (content new.files) old.slots new.slots old.is_up new.is_up)
    (wears : Wears failed can_fail left old.files new.files (TellsDevice said))
    (settles : Settles (said ≡ Err (shared.Node node.Down)) (up_after said) old new) where
  ups : new.is_up ≡ true → (old.is_up ≡ true) × (¬ TellsDevice said)
  ups = still_up old.is_up new.is_up (up_after said) (TellsDevice said) (λ is_down. ap (λ (v : SharedText F). v.is_up) (settles.unchanged is_down) ∙ is_down) settles.up (shared_calm said)

  -- what is told of an expression, with the value
  pub value_answers : (r : Result ObjectId Ended) → IfOk r (λ id. said ≡ Ok id) → IfOk r (λ id. FindsShared (seen_shared content can_fail left) (IsValue text id) old new)
  value_answers (Ok id) is = record {
    each = λ frail n held.
        let m = answers.each n held.holds in
        let q : Quietly (Did (Found (bytes_of_id id))) m.1 m.2 = subst (λ (x : Result ObjectId SharedFault). FoundAs fault_answer x m.1 m.2) is m.4 in (
          m.0,
          record { holds = m.3; calm = λ up can. held.calm (ups up).0 (wears.calm can) },
          λ sound bare. value_told n m.0 text id m.1 m.2 (m.5 sound bare) q.answer,
        );
    unspent = wears.unspent;
  }
  value_answers (Err e) is = tt

  -- or why there is none
  pub no_value_answers : (r : Result ObjectId Ended) → honest → content new.files ≡ content old.files → IfErr r (λ e. IsRetold (FoundAs fault_answer said) (TellsDevice said) (Err e))
      → IfErr r (λ e. SharedCalled (seen_shared content can_fail left) (Asks (Resolve text)) (Shows (Err e)) old new)
  no_value_answers (Ok id) is_honest same retold = tt
  no_value_answers (Err e) is_honest same retold =
      called honest content failed can_fail left old new (Asks (Resolve text)) (FoundAs fault_answer said) (TellsDevice said) (Err e) is_honest (λ h. absurd (cc)) answers
      (looking honest content failed can_fail left (Asks (Resolve text)) old new (TellsDevice said) wears same ups) retold
