use Rattle.std.proofs.Common.{Ok, sym, ◌∙◌}
use Rattle.vc_files.proofs.WearLemmas.{writes_told}
use Rattle.vc_node.proofs.OwnLemmas.{own_beside}
use Rattle.vc_world.proofs.PushCalls.{tells_none, tells_report}
use Rattle.vc_world.proofs.WearLemmas.{taken_quiet, takes_so}
use Rattle.vc_world.proofs.pushing.take_report.Goals as goal

pub returns-in-Err : goal.returns-in-Err
returns-in-Err g c =
    let so = takes_so c.receive_report-received.result c.in-Err.end (sym c.take.ensures ∙ c.in-Err.is) in
    record {
      takes = λ f m is. record {
        received = c.receive_report-received.result;
        receives = c.receive_report-received.ensures.answers f m is;
        tells = λ told. tells_none told m c.receive_report-received.result c.in-Err.end (sym c.take.ensures ∙ c.in-Err.is);
      };
      kept = λ f. own_beside (c.receive_report-received.ensures.objects f) (c.receive_report-received.ensures.beside f) (c.receive_report-received.ensures.clean f);
      wear = writes_told c.receive_report-received.ensures.wear so.to so.from;
      own = so.own;
    }

pub returns : goal.returns
returns g c = record {
  takes = λ f m is. record {
    received = c.receive_report-received.result;
    receives = c.receive_report-received.ensures.answers f m is;
    tells = λ told. tells_report told m c.receive_report-received.result (Ok c.args.report) (sym c.take.ensures ∙ c.in_default.is) is tt;
  };
  kept = λ f. own_beside (c.receive_report-received.ensures.objects f) (c.receive_report-received.ensures.beside f) (c.receive_report-received.ensures.clean f);
  wear = writes_told c.receive_report-received.ensures.wear (λ told. absurd (taken_quiet c.receive_report-received.result (sym c.take.ensures ∙ c.in_default.is) told)) (λ told. absurd told);
  own = tt;
}
