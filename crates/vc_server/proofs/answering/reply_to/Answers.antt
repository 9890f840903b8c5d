use Rattle.std.proofs.Common.{refl, subst, sym}
use Rattle.std.specs.Prelude.{IfOk}
use Rattle.vc_files.proofs.WearLemmas.{writes_none}
use Rattle.vc_local.proofs.CleanLemmas.{stays_same}
use Rattle.vc_server.proofs.ComingLemmas.{slot_replied}
use Rattle.vc_server.proofs.ServingLemmas.{replied_at_once, served_by_steps, stays_as}
use Rattle.vc_server.specs.Replies.{IsReplyOf}
use Rattle.vc_shared.specs.declared.accepting.Accepted.{Accepted}
use Rattle.vc_server.proofs.answering.reply_to.Goals as goal

pub returns-in-Reply-clause-replies : goal.returns-in-Reply-clause-replies
returns-in-Reply-clause-replies g c = λ honest. record {
  serves = λ call old slots was_up mid_up up answered. replied_at_once call old _ slots _ was_up _ _ _ c.in-Reply.is (stays_as up c.requires.up answered);
}

pub returns-in-Reply-clause-clean : goal.returns-in-Reply-clause-clean
returns-in-Reply-clause-clean g c = λ honest. stays_same _ _ refl

pub returns-in-Reply-clause-wear : goal.returns-in-Reply-clause-wear
returns-in-Reply-clause-wear g c = writes_none (λ never. never)

pub returns-in-Slot-clause-replies : goal.returns-in-Slot-clause-replies
returns-in-Slot-clause-replies g c = λ honest. record {
  serves = λ call old slots was_up mid_up up answered. served_by_steps call old _ _ slots _ _ was_up mid_up _ _ _ _ c.in-Slot.is up answered (c.finish.ensures.steps honest);
}

pub returns-in-Reply-clause-replied : goal.returns-in-Reply-clause-replied
returns-in-Reply-clause-replied g c = subst (λ (a : Accepted). IsReplyOf a c.in-Reply.reply) (sym c.in-Reply.is) refl

pub returns-in-Slot-clause-replied : goal.returns-in-Slot-clause-replied
returns-in-Slot-clause-replied g c = subst (λ (a : Accepted). IfOk c.finish.result (IsReplyOf a)) (sym c.in-Slot.is) (slot_replied c.in-Slot.slot c.finish.result)
