use Rattle.std.proofs.Common.{ℕ, List, map, Vec, Global, rules, refl, sym, ap, ◌∙◌}
use Rattle.vc_events.specs.Events.{bytes_in, item_of, order_of}
use Rattle.vc_events.specs.declared.events.NamedItem.{NamedItem}
use Rattle.vc_model.specs.Order.Order.{BranchAt, CommitIndex, HeadAt, LoadIndex, PushItems, StageFile, StoreObject, UnstageFile}
use Rattle.vc_rules.specs.Git.{machine_object, mode_number}
use Rattle.vc_files.specs.Fused.{FusedCanFail, fused_left}
use Rattle.vc_rules.specs.Stops.{IsBelow}
use Rattle.vc_simulation.proofs.FuseLemmas.{lift_clone}
use Rattle.vc_simulation.proofs.CloneLemmas.{down_order, other_order}
use Rattle.vc_simulation.proofs.world_clone.WorldCloneFusedFilesCloneCalls.obey.Goals as goal

pub returns-then-not-is_up : goal.returns-then-not-is_up
returns-then-not-is_up g c = record { answers = λ honest. lift_clone (λ frail. IsBelow g.F.Files.can_fail g.F.Files.left frail) (λ s. s.node) _ _ _ _ _ (down_order (λ s. g.F.Files.content s.files) (FusedCanFail g.F.Files.can_fail g.F.Files.left) (fused_left g.F.Files.left) _ _ (order_of c.args.order.now) (search rules) refl) }

pub returns-in-Write : goal.returns-in-Write
returns-in-Write g c = record { answers = λ honest. lift_clone (λ frail. IsBelow g.F.Files.can_fail g.F.Files.left frail) (λ s. s.node) _ _ _ _ _ (other_order (λ s. g.F.Files.content s.files) (FusedCanFail g.F.Files.can_fail g.F.Files.left) (fused_left g.F.Files.left) _ _ _ _ _ (ap order_of c.in-Write.is ∙ ap (λ (b : List ℕ). StoreObject (machine_object c.in-Write.kind b)) (sym c.deref.ensures.value)) (c.write.ensures.answers honest)) }

pub returns-in-Stage : goal.returns-in-Stage
returns-in-Stage g c = record { answers = λ honest. lift_clone (λ frail. IsBelow g.F.Files.can_fail g.F.Files.left frail) (λ s. s.node) _ _ _ _ _ (other_order (λ s. g.F.Files.content s.files) (FusedCanFail g.F.Files.can_fail g.F.Files.left) (fused_left g.F.Files.left) _ _ _ _ _ (ap order_of c.in-Stage.is ∙ (ap (λ (b : List ℕ). StageFile b (mode_number c.in-Stage.mode) c.in-Stage.content.items) (sym c.deref-in-Stage.ensures.value) ∙ ap (λ (b : List ℕ). StageFile c.deref-in-Stage.result.now (mode_number c.in-Stage.mode) b) (sym c.deref-in-Stage-2.ensures.value))) (c.stage.ensures.answers honest)) }

pub returns-in-Unstage : goal.returns-in-Unstage
returns-in-Unstage g c = record { answers = λ honest. lift_clone (λ frail. IsBelow g.F.Files.can_fail g.F.Files.left frail) (λ s. s.node) _ _ _ _ _ (other_order (λ s. g.F.Files.content s.files) (FusedCanFail g.F.Files.can_fail g.F.Files.left) (fused_left g.F.Files.left) _ _ _ _ _ (ap order_of c.in-Unstage.is ∙ ap UnstageFile (sym c.deref-in-Unstage.ensures.value)) (c.unstage.ensures.answers honest)) }

pub returns-in-Commit : goal.returns-in-Commit
returns-in-Commit g c = record { answers = λ honest. lift_clone (λ frail. IsBelow g.F.Files.can_fail g.F.Files.left frail) (λ s. s.node) _ _ _ _ _ (other_order (λ s. g.F.Files.content s.files) (FusedCanFail g.F.Files.can_fail g.F.Files.left) (fused_left g.F.Files.left) _ _ _ _ _ (ap order_of c.in-Commit.is ∙ (ap (λ (b : List (Vec ℕ Global)). CommitIndex (map bytes_in b) c.in-Commit.author.items c.in-Commit.committer.items c.in-Commit.message.items) (sym c.deref-in-Commit.ensures.value) ∙ (ap (λ (b : List ℕ). CommitIndex (map bytes_in c.deref-in-Commit.result.now) b c.in-Commit.committer.items c.in-Commit.message.items) (sym c.deref-in-Commit-2.ensures.value) ∙ (ap (λ (b : List ℕ). CommitIndex (map bytes_in c.deref-in-Commit.result.now) c.deref-in-Commit-2.result.now b c.in-Commit.message.items) (sym c.deref-in-Commit-3.ensures.value) ∙ ap (λ (b : List ℕ). CommitIndex (map bytes_in c.deref-in-Commit.result.now) c.deref-in-Commit-2.result.now c.deref-in-Commit-3.result.now b) (sym c.deref-in-Commit-4.ensures.value))))) (c.commit.ensures.answers honest)) }

pub returns-in-SetBranch : goal.returns-in-SetBranch
returns-in-SetBranch g c = record { answers = λ honest. lift_clone (λ frail. IsBelow g.F.Files.can_fail g.F.Files.left frail) (λ s. s.node) _ _ _ _ _ (other_order (λ s. g.F.Files.content s.files) (FusedCanFail g.F.Files.can_fail g.F.Files.left) (fused_left g.F.Files.left) _ _ _ _ _ (ap order_of c.in-SetBranch.is ∙ ap (BranchAt c.in-SetBranch.name) (sym c.deref-in-SetBranch.ensures.value)) (c.set_branch.ensures.answers honest)) }

pub returns-in-DeleteBranch : goal.returns-in-DeleteBranch
returns-in-DeleteBranch g c = record { answers = λ honest. lift_clone (λ frail. IsBelow g.F.Files.can_fail g.F.Files.left frail) (λ s. s.node) _ _ _ _ _ (other_order (λ s. g.F.Files.content s.files) (FusedCanFail g.F.Files.can_fail g.F.Files.left) (fused_left g.F.Files.left) _ _ _ _ _ (ap order_of c.in-DeleteBranch.is ∙ refl) (c.delete_branch.ensures.answers honest)) }

pub returns-in-SetHead : goal.returns-in-SetHead
returns-in-SetHead g c = record { answers = λ honest. lift_clone (λ frail. IsBelow g.F.Files.can_fail g.F.Files.left frail) (λ s. s.node) _ _ _ _ _ (other_order (λ s. g.F.Files.content s.files) (FusedCanFail g.F.Files.can_fail g.F.Files.left) (fused_left g.F.Files.left) _ _ _ _ _ (ap order_of c.in-SetHead.is ∙ refl) (c.set_head.ensures.answers honest)) }

pub returns-in-Detach : goal.returns-in-Detach
returns-in-Detach g c = record { answers = λ honest. lift_clone (λ frail. IsBelow g.F.Files.can_fail g.F.Files.left frail) (λ s. s.node) _ _ _ _ _ (other_order (λ s. g.F.Files.content s.files) (FusedCanFail g.F.Files.can_fail g.F.Files.left) (fused_left g.F.Files.left) _ _ _ _ _ (ap order_of c.in-Detach.is ∙ ap HeadAt (sym c.deref-in-Detach.ensures.value)) (c.detach.ensures.answers honest)) }

pub returns-in-Load : goal.returns-in-Load
returns-in-Load g c = record { answers = λ honest. lift_clone (λ frail. IsBelow g.F.Files.can_fail g.F.Files.left frail) (λ s. s.node) _ _ _ _ _ (other_order (λ s. g.F.Files.content s.files) (FusedCanFail g.F.Files.can_fail g.F.Files.left) (fused_left g.F.Files.left) _ _ _ _ _ (ap order_of c.in-Load.is ∙ ap LoadIndex (sym c.deref-in-Load.ensures.value)) (c.load.ensures.answers honest)) }

pub returns-in-Fetch : goal.returns-in-Fetch
returns-in-Fetch g c = record { answers = λ honest. lift_clone (λ frail. IsBelow g.F.Files.can_fail g.F.Files.left frail) (λ s. s.node) _ _ _ _ _ (other_order (λ s. g.F.Files.content s.files) (FusedCanFail g.F.Files.can_fail g.F.Files.left) (fused_left g.F.Files.left) _ _ _ _ _ (ap order_of c.in-Fetch.is ∙ refl) (c.fetch.ensures.answers honest)) }

pub returns-in-Push : goal.returns-in-Push
returns-in-Push g c = record { answers = λ honest. lift_clone (λ frail. IsBelow g.F.Files.can_fail g.F.Files.left frail) (λ s. s.node) _ _ _ _ _ (other_order (λ s. g.F.Files.content s.files) (FusedCanFail g.F.Files.can_fail g.F.Files.left) (fused_left g.F.Files.left) _ _ _ _ _ (ap order_of c.in-Push.is ∙ ap (λ (b : List NamedItem). PushItems c.in-Push.atomic (map item_of b)) (sym c.deref-in-Push.ensures.value)) (c.push.ensures.answers honest)) }
