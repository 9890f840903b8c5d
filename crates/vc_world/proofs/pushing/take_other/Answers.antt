use Rattle.std.proofs.Common.{sym, ◌∙◌}
use Rattle.vc_files.proofs.WearLemmas.{writes_told}
use Rattle.vc_node.proofs.OwnLemmas.{own_beside}
use Rattle.vc_world.proofs.PushCalls.{tells_none, tells_stray}
use Rattle.vc_world.proofs.WearLemmas.{taken_quiet, takes_so}
use Rattle.vc_world.proofs.pushing.take_other.Goals as goal

pub returns-in-Err : goal.returns-in-Err
returns-in-Err g c =
    let so = takes_so c.receive_message-received.result c.in-Err.end (sym c.take.ensures ∙ c.in-Err.is) in
    record {
      takes = λ f m is other. record {
        received = c.receive_message-received.result;
        receives = c.receive_message-received.ensures.answers f m is;
        tells = λ told. tells_none told m c.receive_message-received.result c.in-Err.end (sym c.take.ensures ∙ c.in-Err.is);
      };
      kept = λ f. own_beside (c.receive_message-received.ensures.objects f) (c.receive_message-received.ensures.beside f) (c.receive_message-received.ensures.clean f);
      wear = writes_told c.receive_message-received.ensures.wear so.to so.from;
      own = so.own;
    }

pub returns : goal.returns
returns g c = record {
  takes = λ f m is other. record {
    received = c.receive_message-received.result;
    receives = c.receive_message-received.ensures.answers f m is;
    tells = λ told. tells_stray told m c.receive_message-received.result (sym c.take.ensures ∙ c.in_default.is) other;
  };
  kept = λ f. own_beside (c.receive_message-received.ensures.objects f) (c.receive_message-received.ensures.beside f) (c.receive_message-received.ensures.clean f);
  wear = writes_told c.receive_message-received.ensures.wear (λ told. absurd (taken_quiet c.receive_message-received.result (sym c.take.ensures ∙ c.in_default.is) told)) (λ told. absurd told);
  own = tt;
}
