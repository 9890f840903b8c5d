-- A shared node at hand, as a clone meets it.
use Rattle.std.proofs.Common.{ℕ, List, Option, Result, Ok, Err}
use Rattle.std.specs.Global.{Global}
use Rattle.std.specs.Prelude.{Bool, Vec}
use Rattle.vc_files.specs.FileMap.{FileMap}
use Rattle.vc_model.specs.Message.{Message}
use Rattle.vc_model.specs.Node.{Answer}
use Rattle.vc_model.specs.Shared.{SharedNode}
use Rattle.vc_model.specs.SharedCall.SharedCall.{Accept}
use Rattle.vc_values.proofs.GitLaws.{git_rules}
use Rattle.vc_rules.specs.Git.{git}
use Rattle.vc_server.specs.Serving.{ServedAs, Serves, ServesOn, StepsOn}
use Rattle.vc_server.specs.Serving.ServesOn.{at_once as served_at_once, stepped as served_stepped}
use Rattle.vc_server.specs.Serving.StepsOn.{sent as step_sent, undone as step_undone, further as step_further}
use Rattle.vc_server.proofs.ServingLemmas.{shared_undone}
use Rattle.vc_push_rules.specs.Session.{SessionText}
use Rattle.vc_shared.specs.Faults.{fault_answer}
use Rattle.vc_shared.specs.Holding.{HoldsShared}
use Rattle.vc_shared.specs.declared.fault.SharedFault.{SharedFault}
use Rattle.vc_world.specs.Chains.{MayServe, MayStep}
use Rattle.vc_world.specs.Chains.MayServe.{at_once, stepped}
use Rattle.vc_world.specs.Chains.MayStep.{further, sent, undone}
use Rattle.vc_world.specs.Exchanging.{AnswersPeer, AskedAs}
use Rattle.vc_world.specs.declared.peer.Reply.{Reply}
use Rattle.vc_world.specs.declared.peer.Reply.TheVariants as replies

may_step_of : (slot : ℕ) (n t : SharedNode) (a : Answer) (sends : Option Message) → StepsOn slot n a t sends → MayStep git git_rules slot n a t sends
may_step_of slot n t a sends (step_sent m k) = sent m k
may_step_of slot n t a sends (step_undone k is) = undone k is
may_step_of slot n t a sends (step_further {u = u} y k rest) = further y k (may_step_of slot u t a sends rest)

may_serve_of : (m : Message) (n t : SharedNode) (a : Answer) (sends : Option Message) → ServesOn (Accept m) n a t sends → MayServe git git_rules m n a t sends
may_serve_of m n t a sends (served_at_once k none) = at_once k none
may_serve_of m n t a sends (served_stepped {u = u} slot small k rest) = stepped u slot k (may_step_of slot u t a sends rest)

-- what is answered as bytes
abbrev pub in_bytes : {A : Type 0} → Result (Vec ℕ Global) SharedFault → Result (Reply A) SharedFault
in_bytes (Ok bytes) = Ok (replies.Bytes bytes)
in_bytes (Err e) = Err e

-- the two words for what a call tells are one
asked_as : {A : Type 0} (remaining : A → Option (List ℕ)) (result : Result (Vec ℕ Global) SharedFault) (a : Answer) (sends : Option Message) → ServedAs result a sends → AskedAs fault_answer remaining (in_bytes result) a sends
asked_as remaining (Ok bytes) a sends h = record { message = h.message; written = h.written; answer = h.answer; sent = h.sent }
asked_as remaining (Err e) a sends h = (record { answer = h.answer; sent = h.sent }, shared_undone e)

pub peer_answers : {S A : Type 0} (remaining : A → Option (List ℕ)) (content : S → FileMap) (slots : S → List (Option SessionText)) (is_up : S → Bool) (m : Message) (result : Result (Vec ℕ Global) SharedFault) (old new : S)
    → Serves (Accept m) result (content old) (content new) (slots old) (slots new) (is_up old) (is_up new)
    → AnswersPeer (λ shared n. HoldsShared (content shared) (slots shared) (is_up shared) n) fault_answer remaining m (in_bytes result) old new
peer_answers remaining content slots is_up m result old new k = record {
  each = λ n h.
      let w = k.each n h in
      (w.0, w.1, w.2, w.3, asked_as remaining result w.1 w.2 w.4, may_serve_of m n w.0 w.1 w.2 w.5);
}
