use Rattle.std.proofs.Common.{sym, ◌∙◌}
use Rattle.vc_files.proofs.WearLemmas.{writes_told}
use Rattle.vc_node.proofs.OwnLemmas.{own_beside}
use Rattle.vc_world.proofs.AloneCalls.{refuses_unread, takes_unread}
use Rattle.vc_world.proofs.PushCalls.{tells_none, tells_report}
use Rattle.vc_world.proofs.WearLemmas.{taken_quiet, takes_so}
use Rattle.vc_world.proofs.pushing.take_bytes.Goals as goal

pub returns-in-Err : goal.returns-in-Err
returns-in-Err g c =
    let so = takes_so c.receive-received.result c.in-Err.end (sym c.take.ensures ∙ c.in-Err.is) in
    record {
      takes = λ f m reads. record {
        received = c.receive-received.result;
        receives = c.receive-received.ensures.answers f m reads;
        tells = λ told. tells_none told m c.receive-received.result c.in-Err.end (sym c.take.ensures ∙ c.in-Err.is);
      };
      unread = λ f n unread. refuses_unread g.F.Files.content c.args.clone.now c.receive-received.new.self n c.receive-received.result c.in-Err.end (sym c.take.ensures ∙ c.in-Err.is) (c.receive-received.ensures.unread f n unread);
      kept = λ f. own_beside (c.receive-received.ensures.objects f) (c.receive-received.ensures.beside f) (c.receive-received.ensures.clean f);
      wear = writes_told c.receive-received.ensures.wear so.to so.from;
      own = so.own;
    }

pub returns : goal.returns
returns g c = record {
  takes = λ f m reads. record {
    received = c.receive-received.result;
    receives = c.receive-received.ensures.answers f m reads;
    tells = λ told. tells_report told m c.receive-received.result c.read_report.result (sym c.take.ensures ∙ c.in_default.is) (c.read_report.ensures.report m reads) (c.read_report.ensures.unread m reads);
  };
  unread = λ f n unread. takes_unread g.F.Files.content c.args.clone.now c.receive-received.new.self n c.receive-received.result c.read_report.result (sym c.take.ensures ∙ c.in_default.is) (c.receive-received.ensures.unread f n unread);
  kept = λ f. own_beside (c.receive-received.ensures.objects f) (c.receive-received.ensures.beside f) (c.receive-received.ensures.clean f);
  wear = writes_told c.receive-received.ensures.wear (λ told. absurd (taken_quiet c.receive-received.result (sym c.take.ensures ∙ c.in_default.is) told)) (λ told. absurd (c.read_report.ensures.calm told));
  own = c.read_report.ensures.own;
}
