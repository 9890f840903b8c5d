-- The nodes of a world, over files that a stop can be set for: a call is one of the node's, a stop is set, and a restart takes it out.
use Rattle.std.proofs.Common.{◌≡◌, ℕ, Bool, true, false, Option, Some, None, Result, Ok, Err, inl, inr, refl, sym, ap, ◌∙◌, subst}
use Rattle.std.specs.Prelude.{is_ok}
use Rattle.vc_events.specs.Answers.{Shows}
use Rattle.vc_events.specs.Calls.{CloneCalled, IsOnly, Seen, SharedCalled, StopsNode}
use Rattle.vc_events.specs.declared.answers.Ended.{Ended}
use Rattle.vc_events.specs.declared.answers.Told.{Told}
use Rattle.vc_files.specs.Failures.{Writes}
use Rattle.vc_files.specs.FileMap.{FileMap}
use Rattle.vc_files.specs.Fused.{Fused, FusedCanFail, fused_failed, fused_left, left_after}
use Rattle.vc_files.specs.declared.fused.Fuse.TheVariants.{Unset}
use Rattle.vc_local.specs.Machine.{HoldsNode, live_of}
use Rattle.vc_local.specs.NodeFault.{TellsDevice}
use Rattle.vc_local.specs.Told.{RestartedAs}
use Rattle.vc_local.specs.declared.fault.NodeFault.{NodeFault}
use Rattle.vc_model.specs.Clone.{Awaited, CloneNode}
use Rattle.vc_model.specs.CloneCall.{CloneCall}
use Rattle.vc_model.specs.CloneCall.CloneCall.{Open as OpenClone}
use Rattle.vc_model.specs.ExactWorld.{SetsFuse}
use Rattle.vc_model.specs.Message.{Message}
use Rattle.vc_model.specs.Node.{Answer}
use Rattle.vc_model.specs.Push.{Slots}
use Rattle.vc_model.specs.Shared.{SharedNode}
use Rattle.vc_model.specs.SharedCall.{SharedCall}
use Rattle.vc_model.specs.SharedCall.SharedCall.{Open}
use Rattle.vc_node.specs.Awaited.{AwaitedText, IsAwaited}
use Rattle.vc_node.specs.CloneCalls.{AnswersClone}
use Rattle.vc_rules.proofs.StopLemmas.{fuse_is_mended, stop_is_set}
use Rattle.vc_rules.specs.Stops.{IsBelow, IsCalm}
use Rattle.vc_local.proofs.BurnLemmas.{spent_none}
use Rattle.vc_shared.proofs.BurningLemmas.{opening_burns}
use Rattle.vc_shared.specs.Calls.{AnswersShared}
use Rattle.vc_shared.specs.Holding.{HoldsShared}
use Rattle.vc_simulation.proofs.SharedLemmas.{no_slots}
use Rattle.vc_simulation.proofs.SpendingLemmas.{told_device}
use Rattle.vc_simulation.specs.Nodes.{BeginsAs, IsReady, IsRetold, seen_cloned, seen_in, seen_served}
use Rattle.vc_simulation.specs.declared.world_clone.WorldClone.{WorldClone}
use Rattle.vc_simulation.specs.declared.world_shared.WorldShared.{WorldShared}

-- ---- what is said of a node is said of what has it

pub lift_shared : {W D : Type 0} (Below : Bool → Type 0) (node : W → D) (seen : Seen D SharedNode) (call : SharedCall) (shows : Answer → Option Message → Type 0) (old new : W)
    → SharedCalled seen call shows (node old) (node new) → SharedCalled (seen_in Below node seen) call shows old new
lift_shared Below node seen call shows old new c = record { each = λ frail n held. let m = c.each frail n held.1 in (m.0, m.1, m.2, (held.0, m.3), m.4, m.5) }

pub lift_clone : {W D : Type 0} (Below : Bool → Type 0) (node : W → D) (seen : Seen D CloneNode) (calls : CloneNode → CloneCall → Type 0) (shows : Answer → Option Message → Type 0) (old new : W)
    → CloneCalled seen calls shows (node old) (node new) → CloneCalled (seen_in Below node seen) calls shows old new
lift_clone Below node seen calls shows old new c = record { each = λ frail n held. let m = c.each frail n held.1 in (m.0, m.1, m.2, (held.0, m.3), m.4, m.5) }

-- ---- a node over files with a fuse

pub begins_in : {W D N : Type 0} (Below : Bool → Type 0) (node : W → D) (seen : Seen D N) (frail : Bool) (w : W) (n : N) → Below frail → BeginsAs seen frail (node w) n → BeginsAs (seen_in Below node seen) frail w n
begins_in Below node seen frail w n below begins = record { may_be = (below, begins.may_be); unstopped = begins.unstopped }

-- a fuse that is not set leaves no stop
pub fuse_ready : {F : Type 0} (can_fail : F → Type 0) (left : F → Option ℕ) (frail : Bool) (device : Fused F) → IsBelow can_fail left frail → device.fuse ≡ Unset → IsReady (FusedCanFail can_fail left) (fused_left left) frail device
fuse_ready can_fail left frail device below is = let m = fuse_is_mended can_fail left frail device below is in record { calm = m.1; unstopped = m.0 }

-- ---- a restart

-- a node that is up after its restart told no fault
restarted_calm : (r : Result (Unit {0}) NodeFault) → is_ok r ≡ true → ¬ TellsDevice r
restarted_calm (Ok u) up device = absurd device
restarted_calm (Err e) up device = let f : false ≡ true = up in absurd (cc f)

module _ {F : Type 0} (honest : Type 0) (content : F → FileMap) (failed : F → ℕ) (can_fail : F → Type 0) (left : F → Option ℕ) where
  abbrev Wrote : Fused F → Fused F → Type 0 → Type 0
  Wrote old new IsDevice = Writes honest (λ s. content s.files) (fused_failed failed) (FusedCanFail can_fail left) (fused_left left) old new IsDevice

  pub shared_restarted : (old mid new : WorldShared (Fused F)) (said : Result (Unit {0}) NodeFault) (r : Result Told Ended)
      → mid.node.files.files ≡ old.node.files.files → mid.node.files.fuse ≡ Unset → mid.node.slots ≡ old.node.slots → mid.node.is_up ≡ old.node.is_up
      → AnswersShared Open (RestartedAs said) (content mid.node.files.files) (content new.node.files.files) mid.node.slots new.node.slots mid.node.is_up new.node.is_up
      → Wrote mid.node.files new.node.files (TellsDevice said) → new.node.is_up ≡ is_ok said → IsRetold (RestartedAs said) (TellsDevice said) r
      → SharedCalled (seen_served content can_fail left) Open (Shows r) old new
  shared_restarted old mid new said r files mended slots up answers wear ends retold = record {
    each = λ frail n held.
        let calm = fuse_is_mended can_fail left frail mid.node.files held.0 mended in
        let m = opening_burns {D = Fused F} {R = Unit {0}} honest (λ s. content s.files) (fused_failed failed) (FusedCanFail can_fail left) (fused_left left) (λ u. RestartedAs said) (λ u. TellsDevice said)
        mid.node.files new.node.files tt frail mid.node.slots new.node.slots mid.node.is_up new.node.is_up n calm.0 calm.1 wear (λ there. restarted_calm said (sym ends ∙ there))
        (told_device (RestartedAs said) (TellsDevice said) r retold) answers (holds n held.1.holds) in
        (m.0, m.1, m.2, (held.0, record { holds = m.3; calm = m.4 }), retold.shown m.1 m.2 m.6, m.7);
  }
    where
      holds : (n : SharedNode) → HoldsShared (content old.node.files.files) old.node.slots old.node.is_up n → HoldsShared (content mid.node.files.files) mid.node.slots mid.node.is_up n
      holds n held =
          subst (λ (f : F). HoldsShared (content f) mid.node.slots mid.node.is_up n) (sym files)
          (subst (λ xs. HoldsShared (content old.node.files.files) xs mid.node.is_up n) (sym slots)
          (subst (λ (b : Bool). HoldsShared (content old.node.files.files) old.node.slots b n) (sym up) held))

  pub clone_restarted : (old mid new : WorldClone (Fused F)) (said : Result (Unit {0}) NodeFault) (r : Result Told Ended)
      → mid.node.files.files ≡ old.node.files.files → mid.node.files.fuse ≡ Unset → mid.node.awaited ≡ old.node.awaited → mid.node.is_up ≡ old.node.is_up
      → AnswersClone OpenClone (RestartedAs said) (content mid.node.files.files) (content new.node.files.files) mid.node.awaited new.node.awaited mid.node.is_up new.node.is_up
      → Wrote mid.node.files new.node.files (TellsDevice said) → new.node.is_up ≡ is_ok said → IsRetold (RestartedAs said) (TellsDevice said) r
      → CloneCalled (seen_cloned content can_fail left) (IsOnly OpenClone) (Shows r) old new
  clone_restarted old mid new said r files mended awaits up answers wear ends retold = record {
    each = λ frail n held.
        let calm = fuse_is_mended can_fail left frail mid.node.files held.0 mended in
        let m = answers.each held.1.awaited n (subst (λ (w : AwaitedText). IsAwaited w held.1.awaited) (sym awaits) held.1.is_awaited) (holds held.1.awaited n held.1.holds) in
        let still = spent_none wear.made (fused_left left mid.node.files) (fused_left left new.node.files) calm.0 wear.spent in (
          m.1,
          m.2,
          m.3,
          (
            held.0,
            record {
              awaited = m.0;
              is_awaited = m.4;
              holds = m.5;
              calm = λ there can. elim (wear.calm can) [
                | inl before ↦ calm.1 before
                | inr device ↦ absurd (restarted_calm said (sym ends ∙ there) device)
              ];
            },
          ),
          retold.shown m.2 m.3 m.6,
          λ sound zeros. (
            OpenClone,
            refl,
            m.7 sound,
            (
              (λ is. elim (wear.could (told_device (RestartedAs said) (TellsDevice said) r retold m.2 m.3 m.6 is)) [
                | inl could ↦ calm.1 could
                | inr stopped ↦ let e : ◌≡◌ {A = Option ℕ} None (Some wear.made) = sym calm.0 ∙ stopped in absurd (cc e)
              ]),
              still,
            ),
          ),
        );
  }
    where
      holds : (awaited : Awaited) (n : CloneNode) → HoldsNode (content old.node.files.files) old.node.is_up awaited n → HoldsNode (content mid.node.files.files) mid.node.is_up awaited n
      holds awaited n held =
          subst (λ (f : F). HoldsNode (content f) mid.node.is_up awaited n) (sym files)
          (subst (λ (b : Bool). HoldsNode (content old.node.files.files) b awaited n) (sym up) held)

-- ---- a stop

module _ {F : Type 0} (content : F → FileMap) (can_fail : F → Type 0) (left : F → Option ℕ) (writes : ℕ) where
  pub shared_stopped : (old new : WorldShared (Fused F)) → new.node.files.files ≡ old.node.files.files → new.node.files.fuse ≡ left_after old.node.files.fuse writes → new.node.slots ≡ old.node.slots → new.node.is_up ≡ old.node.is_up
      → StopsNode (seen_served content can_fail left) writes old new
  shared_stopped old new files fuse slots up = record {
    stays = λ frail n held. (
      held.0,
      record {
        holds = subst (λ (f : F). HoldsShared (content f) new.node.slots new.node.is_up n) (sym files)
            (subst (λ xs. HoldsShared (content old.node.files.files) xs new.node.is_up n) (sym slots)
            (subst (λ (b : Bool). HoldsShared (content old.node.files.files) old.node.slots b n) (sym up) held.1.holds));
        calm = subst (λ (b : Bool). IsCalm (FusedCanFail can_fail left) frail b new.node.files) (sym up) (set frail n held).1;
      },
    );
    sets = λ frail n held. (set frail n held).0;
  }
    where
      set : (frail : Bool) (n : SharedNode) → (seen_served content can_fail left).may_be frail old n
          → SetsFuse frail n (fused_left left old.node.files) writes (fused_left left new.node.files) × IsCalm (FusedCanFail can_fail left) frail old.node.is_up new.node.files
      set frail n held =
          stop_is_set Slots can_fail left frail old.node.is_up n old.node.files new.node.files writes held.0 held.1.calm
          (λ down. no_slots (λ (s : Fused F). content s.files) old.node old.node.is_up n.live down held.1.holds.live) files fuse

  pub clone_stopped : (old new : WorldClone (Fused F)) → new.node.files.files ≡ old.node.files.files → new.node.files.fuse ≡ left_after old.node.files.fuse writes → new.node.awaited ≡ old.node.awaited → new.node.is_up ≡ old.node.is_up
      → StopsNode (seen_cloned content can_fail left) writes old new
  clone_stopped old new files fuse awaits up = record {
    stays = λ frail n held. (
      held.0,
      record {
        awaited = held.1.awaited;
        is_awaited = subst (λ (w : AwaitedText). IsAwaited w held.1.awaited) (sym awaits) held.1.is_awaited;
        holds = subst (λ (f : F). HoldsNode (content f) new.node.is_up held.1.awaited n) (sym files)
            (subst (λ (b : Bool). HoldsNode (content old.node.files.files) b held.1.awaited n) (sym up) held.1.holds);
        calm = subst (λ (b : Bool). IsCalm (FusedCanFail can_fail left) frail b new.node.files) (sym up) (set frail n held).1;
      },
    );
    sets = λ frail n held. (set frail n held).0;
  }
    where
      set : (frail : Bool) (n : CloneNode) → (seen_cloned content can_fail left).may_be frail old n
          → SetsFuse frail n (fused_left left old.node.files) writes (fused_left left new.node.files) × IsCalm (FusedCanFail can_fail left) frail old.node.is_up new.node.files
      set frail n held =
          stop_is_set Awaited can_fail left frail old.node.is_up n old.node.files new.node.files writes held.0 held.1.calm
          (λ down. held.1.holds.shows.live ∙ ap (λ (b : Bool). live_of b held.1.awaited) down) files fuse
